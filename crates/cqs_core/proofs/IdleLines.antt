-- In a queue of which every pass is idle those who wait are ahead of the resumes, and those who were served behind. So
-- the one that was served last was the first of the line.
use Rattle.std.proofs.Common.{◌≡◌, ◌≢◌, ◌⊎◌, inl, inr, ℕ, suc, ◌+◌, ◌<◌, ◌≤◌, ◌==◌, nat_lt, Bool, true, false, not, map, List, [], ◌∷◌, length, Option, Some, None, slice_get, sym, refl, ap, ◌∙◌, subst, arith, ⊎_elim, ne_eqb, eq-eqb, zero-add, if◌then◌else◌}
use Rattle.std.specs.List.{list_any}
use Rattle.std.proofs.lemmas.Bool.{cases_eq}
use Rattle.std.proofs.lemmas.Option.{same_Some}
use Rattle.cqs_core.specs.declared.cells.CoreCell.{CoreCell}
use Rattle.cqs_core.specs.declared.cells.CoreState.{CoreState}
use Rattle.cqs_core.specs.declared.cells.CoreState.TheVariants as state
use Rattle.cqs_core.specs.Keyed.{without, insert_by}
use Rattle.cqs_core.specs.Numbered.{IsIn, pick_each, cons_option}
use Rattle.cqs_core.specs.QueueLine as queue
use Rattle.cqs_core.specs.QueueLine.{Waiting, Service, in_line, is_served, service_of}
use Rattle.cqs_core.specs.QueueState.{Queue}
use Rattle.cqs_core.specs.QueueWaiters.{IsServed, Waits, Waiters, waiters, with_service, is_reached}
use Rattle.cqs_core.specs.Resting.{IsIdle}
use Rattle.cqs_core.specs.QueueSound.{IsSound}
use Rattle.cqs_core.proofs.LineReads.{line-keyed}
use Rattle.cqs_core.proofs.Picked.{IsKeyed}
use Rattle.cqs_core.proofs.Quiet.{IsQuietAt, quiet-cell, cases_waiter, not-in_line, waits-ahead}
use Rattle.cqs_core.proofs.Rising.{IsRising, rising-lower, rising-lacks, lacks-in, in-none, in-behind}
use Rattle.cqs_core.proofs.Waits.{found-waits}

abbrev pub number_in : Waiting → ℕ
number_in w = w.wait

abbrev pub numbers_in : List Waiting → List ℕ
numbers_in line = map (λ (w : Waiting). w.wait) line

-- what is read off the elements rises with their numbers
cons-rising : {Y : Type 0} (key : Y → ℕ) (o : Option Y) (k high : ℕ) (ys : List Y)
    → ((y : Y) → o ≡ Some y → key y ≡ k) → IsRising key (k + 1) high ys → IsRising key k high (cons_option o ys)
cons-rising key None k high ys named rising = rising-lower key (k + 1) k high ys (omega arith) rising
cons-rising key (Some y) k high ys named rising =
    let is : key y ≡ k = named y refl in
    (omega arith, subst (λ n. IsRising key (n + 1) high ys) (sym is) rising)

pub picked-rising : {X Y : Type 0} (f : ℕ → X → Option Y) (key : Y → ℕ) → IsKeyed f key → (k high : ℕ) (xs : List X)
    → high ≡ k + length xs → IsRising key k high (pick_each f k xs)
picked-rising f key keyed k high [] is = omega arith
picked-rising f key keyed k high (x ∷ xs) is =
    let next : suc k ≡ k + 1 = omega arith in
    let rest = picked-rising f key keyed (suc k) high xs (omega arith) in
    cons-rising key (f k x) k high (pick_each f (suc k) xs) (λ y some. keyed.at k x y some)
    (subst (λ n. IsRising key n high (pick_each f (suc k) xs)) next rest)

-- what is read was read off an element
pub record Read {X Y : Type 0} (f : ℕ → X → Option Y) (k : ℕ) (xs : List X) (y : Y) : Type 0 where
  pub place : ℕ
  pub element : X
  pub there : slice_get xs place ≡ Some element
  pub reads : f (k + place) element ≡ Some y

cons-in : {Y : Type 0} (o : Option Y) (y : Y) (ys : List Y) → IsIn y (cons_option o ys) → (o ≡ Some y) ⊎ IsIn y ys
cons-in None y ys stands = inr stands
cons-in (Some z) y ys stands = ⊎_elim (λ e. inl (ap (λ u. Some u) (sym e))) (λ l. inr l) (in-behind y z ys stands)

pub read-off : {X Y : Type 0} (f : ℕ → X → Option Y) (k : ℕ) (xs : List X) (y : Y) → IsIn y (pick_each f k xs)
    → Read f k xs y
read-off f k [] y stands = absurd (in-none y stands)
read-off f k (x ∷ xs) y stands =
    go (cons-in (f k x) y (pick_each f (suc k) xs) stands) (λ later. read-off f (suc k) xs y later)
  where
    go : (f k x ≡ Some y) ⊎ IsIn y (pick_each f (suc k) xs) → (IsIn y (pick_each f (suc k) xs) → Read f (suc k) xs y)
        → Read f k (x ∷ xs) y
    go (inl here) rest =
        let same : k + 0 ≡ k = omega arith in
        record { place = 0; element = x; there = refl; reads = ap (λ n. f n x) same ∙ here }
    go (inr later) rest =
        let r = rest later in
        let same : k + suc r.place ≡ suc k + r.place = omega arith in
        record {
          place = suc r.place;
          element = r.element;
          there = r.there;
          reads = ap (λ n. f n r.element) same ∙ r.reads;
        }

pub in-placed : {Y : Type 0} (key : Y → ℕ) (y : Y) (ys : List Y) → IsIn y (insert_by key y ys)
in-placed key y [] = record { place = 0; there = refl }
in-placed key y (z ∷ zs) = go (nat_lt (key y) (key z)) (in-placed key y zs)
  where
    go : (b : Bool) → IsIn y (insert_by key y zs) → IsIn y (if b then y ∷ z ∷ zs else z ∷ insert_by key y zs)
    go true rest = record { place = 0; there = refl }
    go false rest = record { place = suc rest.place; there = rest.there }

-- one that is below the others in a rising line is the first
pub first-in : (k c r low high : ℕ) (line : List Waiting) → IsRising number_in low high line → Waits k c line → k < r
    → ((x : Waiting) → IsIn x (without number_in k line) → r ≤ x.wait)
    → numbers_in line ≡ k ∷ numbers_in (without number_in k line)
first-in k c r low high [] rising stands below rest = absurd (in-none (record { wait = k; pass = c }) stands)
first-in k c r low high (x ∷ line) rising stands below rest = go (cases_eq k x.wait)
  where
    go : (k ≡ x.wait) ⊎ (k ≢ x.wait) → numbers_in (x ∷ line) ≡ k ∷ numbers_in (without number_in k (x ∷ line))
    go (inl same) = rw (eq-eqb k x.wait same) (ap (λ n. n ∷ numbers_in line) (sym same))
    go (inr other) =
        let later : Waits k c line =
        ⊎_elim (λ e. absurd (other (ap number_in e))) (λ l. l) (in-behind (record { wait = k; pass = c }) x line stands)
        in
        let stays : IsIn x (without number_in k (x ∷ line)) =
        rw (ne_eqb k x.wait other) (record { place = 0; there = refl }) in
        let past : r ≤ x.wait = rest x stays in
        let above : IsRising number_in (x.wait + 1) high line = rising.1 in
        absurd (lacks-in number_in k (record { wait = k; pass = c }) line refl later
        (rising-lacks number_in k (x.wait + 1) high line (omega arith) above))

service-settled : (q : Queue) (k : ℕ) (s : CoreState) (owner : Option ℕ) (collected : Bool) (cell : CoreCell)
    (y : Service) → service_of k s owner collected ≡ Some y → IsQuietAt q k cell s → (y.wait ≡ k) × (k < q.resumes)
service-settled q k state.Taken (Some p) collected cell y is at =
    let same : record { wait = k; pass = p; is_open = true } ≡ y = same_Some _ _ is in
    (ap (λ (z : Service). z.wait) (sym same), at.1)
service-settled q k state.Resumed (Some p) collected cell y is at =
    let same : record { wait = k; pass = p; is_open = not collected } ≡ y = same_Some _ _ is in
    (ap (λ (z : Service). z.wait) (sym same), at.1)
service-settled q k state.Taken None collected cell y is at = absurd (cc)
service-settled q k state.Resumed None collected cell y is at = absurd (cc)
service-settled q k state.Empty owner collected cell y is at = absurd (cc)
service-settled q k state.Waiter owner collected cell y is at = absurd (cc)
service-settled q k state.Value owner collected cell y is at = absurd (cc)
service-settled q k state.Broken owner collected cell y is at = absurd (cc)
service-settled q k state.Cancelling owner collected cell y is at = absurd (cc)
service-settled q k state.Delegated owner collected cell y is at = absurd (cc)
service-settled q k state.Cancelled owner collected cell y is at = absurd (cc)
service-settled q k state.Refused owner collected cell y is at = absurd (cc)

-- In a queue of which every pass is idle those who wait are ahead of the resumes, and those who were served behind.
module _ (q : Queue) (sound : IsSound q) (idle : IsIdle q.doing) where
  pub line-ahead : (x : Waiting) → IsIn x (queue.line q) → q.resumes ≤ x.wait
  line-ahead x stands =
      let r = read-off (in_line q.doing) 0 q.cells x stands in
      let key : x.wait ≡ 0 + r.place = (line-keyed q.doing).at (0 + r.place) r.element x r.reads in
      let here : in_line q.doing r.place r.element ≡ Some x =
      ap (λ n. in_line q.doing n r.element) (sym (zero-add r.place)) ∙ r.reads in
      go r.place r.element r.there key here (cases_waiter r.element.state)
    where
      go : (i : ℕ) (cell : CoreCell) → slice_get q.cells i ≡ Some cell → x.wait ≡ 0 + i
          → in_line q.doing i cell ≡ Some x → (cell.state ≡ state.Waiter) ⊎ (cell.state ≢ state.Waiter)
          → q.resumes ≤ x.wait
      go i cell there key here (inl waits) =
          let ahead = waits-ahead q sound idle i cell there waits in let past = ahead.1 in omega arith
      go i cell there key here (inr other) =
          let none : in_line q.doing i cell ≡ None = not-in_line q sound idle i cell there other in
          absurd (cc)

  pub served-reached : (y : Service) → IsIn y (queue.services q) → y.wait < q.resumes
  served-reached y stands =
      let r = read-off is_served 0 q.cells y stands in
      let same : 0 + r.place ≡ r.place = zero-add r.place in
      let reads : is_served r.place r.element ≡ Some y = ap (λ n. is_served n r.element) (sym same) ∙ r.reads in
      let s = service-settled q r.place r.element.state r.element.owner r.element.collected r.element y reads
      (quiet-cell q sound idle r.place r.element r.there) in
      let key = s.0 in
      let low = s.1 in
      omega arith

-- Who was served, in a queue of which every pass is idle now, was the first of the line.
pub served-first : (q : Queue) (w : Waiters) (k c : ℕ) → IsSound q → IsIdle q.doing → (low high : ℕ)
    → IsRising number_in low high w.line → Waits k c w.line → is_reached w k ≡ waiters q
    → numbers_in w.line ≡ k ∷ numbers_in (is_reached w k).line
served-first q w k c sound idle low high rising waits shows =
    let found = found-waits k c w.line waits in
    let y : Service = record { wait = found.wait.wait; pass = found.wait.pass; is_open = true } in
    let there : IsIn y (insert_by (λ (s : Service). s.wait) y w.served) =
    in-placed (λ (s : Service). s.wait) y w.served in
    let there_too : IsIn y (is_reached w k).served =
    subst (λ z. IsIn y (with_service z w.served)) (sym found.is) there in
    let reached : y.wait < q.resumes =
    served-reached q sound idle y (subst (λ (z : Waiters). IsIn y z.served) shows there_too) in
    let number : found.wait.wait ≡ k = found.number in
    first-in k c q.resumes low high w.line rising waits (omega (arith, number, reached))
    (λ x stands. line-ahead q sound idle x (subst (λ (z : Waiters). IsIn x z.line) shows stands))

-- and the numbers in its line rise
pub line-rises : (q : Queue) → IsRising number_in 0 (0 + length q.cells) (queue.line q)
line-rises q =
    picked-rising (in_line q.doing) number_in (line-keyed q.doing) 0 (0 + length q.cells) q.cells refl

-- one that was served stands in the line no more
none-there : (k r : ℕ) (line : List Waiting) → k < r → ((x : Waiting) → IsIn x line → r ≤ x.wait)
    → list_any (λ (w : Waiting). w.wait == k) line ≡ false
none-there k r [] low ahead = refl
none-there k r (x ∷ line) low ahead =
    let past : r ≤ x.wait = ahead x (record { place = 0; there = refl }) in
    let other : x.wait == k ≡ false = ne_eqb x.wait k (λ same. absurd (omega (arith, low, past, same))) in
    rw other (none-there k r line low (λ y stands. ahead y (record { place = suc stands.place; there = stands.there })))

pub served-past : (q : Queue) (k c : ℕ) → IsSound q → IsIdle q.doing → IsServed k c (queue.services q)
    → list_any (λ (w : Waiting). w.wait == k) (queue.line q) ≡ false
served-past q k c sound idle served =
    none-there k q.resumes (queue.line q)
    (served-reached q sound idle (record { wait = k; pass = c; is_open = true }) served)
    (λ x stands. line-ahead q sound idle x stands)
