-- Few wait: each wait has a cell that isn't settled, and few cells aren't.
use Rattle.std.proofs.Common.{◌≡◌, ℕ, suc, ◌+◌, ◌/◌, ◌<◌, ◌≤◌, Bool, true, false, List, [], ◌∷◌, length, Option, Some, None, slice_get, refl, sym, ap, ◌∙◌, ⊎_elim, inl, inr, arith}
use Rattle.std.proofs.lemmas.Bool.{cases_lt, cases_Bool}
use mathlib.Core.Option.{some}
use lib.ListN.{get_elem?}
use Rattle.atomic_table.specs.Table.{State}
use Rattle.cqs_core.specs.declared.cells.CoreCell.{CoreCell}
use Rattle.cqs_core.specs.declared.cells.CoreState.{CoreState}
use Rattle.cqs_core.specs.declared.cells.CoreState.TheVariants as state
use Rattle.cqs_core.specs.declared.doings.Doing.{Doing}
use Rattle.cqs_core.specs.Numbered.{pick_each, cons_option}
use Rattle.cqs_core.specs.QueueCells.{rank}
use Rattle.cqs_core.specs.QueueLine.{Waiting, line, in_line, waiting_of, stays_in_line}
use Rattle.cqs_core.specs.QueueEither.{IsSoundEither}
use Rattle.cqs_core.proofs.EitherCells.{cells-made}
use Rattle.cqs_core.specs.QueueState.{Queue, owner_doing}
use Rattle.cqs_core.proofs.Places.{get-below}
use Rattle.cqs_slots.proofs.Unsettled.{few-unsettled}
use Rattle.cqs_rule_laws.specs.declared.view.View.{View}
use Rattle.cqs_rule_laws.specs.Client.{IsClient}
use Rattle.cqs_rule_laws.specs.Configured.{longest_line}
use Rattle.cqs_rule_laws.specs.Hidden.{state_in, state_at}
use Rattle.cqs_rule_laws.specs.Layout.{client_words}
use Rattle.cqs_rule_laws.specs.Lists.{Has, IsDistinct}
use Rattle.cqs_rule_laws.specs.Object.{Object, Primitive}
use Rattle.cqs_rule_laws.specs.Ruled.{RuledAhead, Stands}
use Rattle.cqs_rule_laws.proofs.Near.{drawn-near, wait-made}

-- no more are picked from a list than stand there
pub picked-short : {X Y : Type 0} (f : ℕ → X → Option Y) (k : ℕ) (xs : List X) → length (pick_each f k xs) ≤ length xs
picked-short f k [] = omega arith
picked-short {X} {Y} f k (x ∷ xs) = one (f k x) (pick_each f (suc k) xs) (picked-short f (suc k) xs)
  where
    one : (o : Option Y) (ys : List Y) → length ys ≤ length xs → length (cons_option o ys) ≤ suc (length xs)
    one None ys few = omega arith
    one (Some y) ys few = omega arith

module _ {X Y : Type 0} (f : ℕ → X → Option Y) where
  -- the element of this number is picked, where the list's first has the number k
  record IsPicked (k : ℕ) (xs : List X) (m : ℕ) : Type 0 where
    place : ℕ
    element : X
    read : Y
    number : m ≡ k + place
    there : slice_get xs place ≡ Some element
    picked : f m element ≡ Some read

  -- the numbers of those that are picked
  record Numbers (k : ℕ) (xs : List X) : Type 0 where
    numbers : List ℕ
    long : length numbers ≡ length (pick_each f k xs)
    once : IsDistinct numbers
    are : (m : ℕ) → Has m numbers → IsPicked k xs m

  later : (k : ℕ) (x : X) (xs : List X) (m : ℕ) → IsPicked (suc k) xs m → IsPicked k (x ∷ xs) m
  later k x xs m is = record {
    place = suc is.place;
    element = is.element;
    read = is.read;
    number = let e = is.number in omega arith;
    there = is.there;
    picked = is.picked;
  }

  numbers-of : (k : ℕ) (xs : List X) → Numbers k xs
  numbers-of k [] = record { numbers = []; long = refl; once = tt; are = λ m h. absurd h }
  numbers-of k (x ∷ xs) = by (f k x) refl (numbers-of (suc k) xs)
    where
      by : (o : Option Y) → f k x ≡ o → Numbers (suc k) xs → Numbers k (x ∷ xs)
      by None is rest = record {
        numbers = rest.numbers;
        long = rest.long ∙ ap (λ o. length (cons_option o (pick_each f (suc k) xs))) (sym is);
        once = rest.once;
        are = λ m h. later k x xs m (rest.are m h);
      }
      by (Some y) is rest = record {
        numbers = k ∷ rest.numbers;
        long = ap suc rest.long ∙ ap (λ o. length (cons_option o (pick_each f (suc k) xs))) (sym is);
        once = ((λ h. let e = (rest.are k h).number in absurd (omega arith)), rest.once);
        are = λ m h. ⊎_elim
            (λ (e : m ≡ k). record {
              place = 0;
              element = x;
              read = y;
              number = omega arith;
              there = refl;
              picked = ap (λ n. f n x) e ∙ is;
            })
            (λ (g : Has m rest.numbers). later k x xs m (rest.are m g))
            h;
      }

-- a cell of the line isn't final
line-rank : (k : ℕ) (s : CoreState) (owner : Option Doing) → stays_in_line k s owner ≡ true → rank s < 4
line-rank k state.Empty owner e = omega arith
line-rank k state.Waiter owner e = omega arith
line-rank k state.Value owner e = omega arith
line-rank k state.Cancelling owner e = omega arith
line-rank k state.Delegated owner e = omega arith
line-rank k state.Taken owner e = absurd (cc)
line-rank k state.Broken owner e = absurd (cc)
line-rank k state.Resumed owner e = absurd (cc)
line-rank k state.Cancelled owner e = absurd (cc)
line-rank k state.Refused owner e = absurd (cc)

waits-stay : (k : ℕ) (owner : Option ℕ) (stays : Bool) (w : Waiting) → waiting_of k owner stays ≡ Some w
    → stays ≡ true
waits-stay k (Some p) true w e = refl
waits-stay k (Some p) false w e = absurd (cc)
waits-stay k None stays w e = absurd (cc)

module _ {E S : Type 0} (object : Object E) (primitive : Primitive E S) (passes limit : ℕ)
    {ahead : ℕ → ℕ} (s : State (Option S) (View E S)) (r : RuledAhead object primitive passes limit ahead s) where
  -- so many cells aren't settled
  few-of : (cells : List ℕ) → IsDistinct cells
      → ((k : ℕ) → Has k cells → (r.settled k ≡ false) × (k / 32 ≤ r.segments.tail + 1))
      → length cells < longest_line
  few-of cells once yet =
      let sound = r.cells.sound in
      let few = few-unsettled r.slots r.segments r.settled _ cells sound r.counted once yet in
      let slots = sound.few in
      omega arith

  -- THE LINE. However many numbers were drawn, few are in line: each has a cell that isn't settled.
  pub line-short : IsClient object primitive → length (line r.hidden.queue) < longest_line
  line-short client =
      let all = numbers-of (in_line q.doing) 0 q.cells in
      let few = few-of all.numbers all.once (λ k h. waits k (all.are k h)) in
      let long = all.long in
      omega arith
    where
      q : Queue
      q = r.hidden.queue

      sound : IsSoundEither primitive.manner.watches q
      sound = client.sound r.hidden (client_words s.words) r.log r.handed r.shown

      waits : (k : ℕ) → IsPicked (in_line q.doing) 0 q.cells k
          → (r.settled k ≡ false) × (k / 32 ≤ r.segments.tail + 1)
      waits k is =
          let cell : CoreCell = is.element in
          let here : slice_get q.cells k ≡ Some cell =
          ap (slice_get q.cells) (let e = is.number in omega arith) ∙ is.there in
          let owner = owner_doing q.doing cell in
          let stays = waits-stay k cell.owner (stays_in_line k cell.state owner) is.read is.picked in
          let low : rank cell.state < 4 = line-rank k cell.state owner stays in
          let made = cells-made primitive.manner.watches q sound in
          let below = get-below q.cells k cell here in (
            ⊎_elim
                (λ (e : r.settled k ≡ true).
                let final : rank (state_at q k) ≡ 4 = (r.finals k e).final in
                let same : rank (state_at q k) ≡ rank cell.state = ap (λ o. rank (state_in o)) here in
                absurd (omega arith))
                (λ (e : r.settled k ≡ false). e)
                (cases_Bool (r.settled k)),
            drawn-near object primitive passes limit client s r k (⊎_elim inl
                (λ (high : q.suspends ≤ k). inr (omega arith)) (cases_lt k q.suspends)),
          )

  -- and so are the waits of one pass
  pub waits-short : (id : ℕ) (v : View E S) → get_elem? s.views id ≡ some v → 0 < v.weight
      → length v.facts.waits < longest_line
  waits-short id v here on =
      let at : Stands r.hidden v.number v.facts = (r.each_view id v here on).stands in
      few-of v.facts.waits at.once (λ k h. (
        ⊎_elim
            (λ (e : r.settled k ≡ true). absurd ((r.finals k e).unwaited v.number (at.waits k h)))
            (λ (e : r.settled k ≡ false). e)
            (cases_Bool (r.settled k)),
        (let low = wait-made object primitive passes limit s r id v k here on h in omega arith),
      ))
