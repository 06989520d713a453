-- A synchronous queue and its reading as one that isn't: what is found in the one stands so in the other, and
-- what they show differs by the broken numbers that their suspends haven't found.
use Rattle.std.proofs.Common.{◌≡◌, ◌⊎◌, inl, inr, ℕ, suc, ◌+◌, ◌≤◌, nat_le, ◌&&◌, ◌||◌, not, Bool, true, false, List, [], ◌∷◌, Option, Some, None, is_some, length, map, slice_get, refl, ap, ap₂, sym, ◌∙◌, subst, arith}
use Rattle.std.specs.Option.{option_map, option_and_then}
use Rattle.std.specs.List.{count_by}
use Rattle.std.proofs.lemmas.Option.{slice_get-map}
use Rattle.std.proofs.lemmas.List.Sums.{sum_by-cons}
use Rattle.std.proofs.lemmas.Bool.{lt-leb, le-leb}
use Rattle.cqs_core.specs.declared.cells.CoreCell.{CoreCell}
use Rattle.cqs_core.specs.declared.cells.CoreState.{CoreState}
use Rattle.cqs_core.specs.declared.cells.CoreState.TheVariants as state
use Rattle.cqs_core.specs.declared.doings.Doing.{Doing}
use Rattle.cqs_core.specs.declared.doings.Doing.TheVariants as doing
use Rattle.cqs_core.specs.Numbered.{cons_option, pick_each, count_at}
use Rattle.cqs_core.specs.QueueState.{Queue, owner_doing, is_leaving, is_ticket, has_ticket}
use Rattle.cqs_core.specs.QueueLine.{at_door, door, in_line, waiting_of, line, is_spoiled, spoiled, is_resuming, is_told_refused, has_left, is_unmet, is_unmet_refusal, going, ending}
use Rattle.cqs_core.specs.QueueSound.{IsSound, IsSoundAt, IsUninstalled}
use Rattle.cqs_core.specs.QueueCover.{IsCovered, roaming}
use Rattle.cqs_core.specs.QueueAsUnbroken.{unbroken_state, unbroken_cell, unwatching, as_unbroken}
use Rattle.cqs_core.specs.SemaphoreCores.{early}
use Rattle.cqs_core.proofs.Counts.{bit, counts-balance, count_at-agree, count_by-at}
use Rattle.cqs_core.proofs.Letters.{is_standing, is_expected}
use Rattle.cqs_core.proofs.Equations.{HasFlow, flow, takers, decliners, expected}
use Rattle.cqs_core.proofs.Equations as equations
use Rattle.cqs_core.proofs.CoverLemmas.{covers-from, decliners-le}
use Rattle.cqs_core.proofs.LineReads.{stays-same}
use Rattle.cqs_core.proofs.PickedPlaces.{is_picked, length-picked}

module _ {X Y : Type 0} (f : X → Y) where
  pub get-map : (xs : List X) (k : ℕ) (x : X) → slice_get xs k ≡ Some x → slice_get (map f xs) k ≡ Some (f x)
  get-map xs k x got = slice_get-map f xs k ∙ ap (option_map f) got

  pub get-map_any : (xs : List X) (k : ℕ) (o : Option X) → slice_get xs k ≡ o
      → slice_get (map f xs) k ≡ option_map f o
  get-map_any xs k o got = slice_get-map f xs k ∙ ap (option_map f) got

  -- what stands in a mapped list comes from an element
  pub record IsMapped (xs : List X) (k : ℕ) (y : Y) : Type 0 where
    pub element : X
    pub there : slice_get xs k ≡ Some element
    pub is : f element ≡ y

  pub map-get : (xs : List X) (k : ℕ) (y : Y) → slice_get (map f xs) k ≡ Some y → IsMapped xs k y
  map-get xs k y got = go (slice_get xs k) refl
    where
      go : (o : Option X) → slice_get xs k ≡ o → IsMapped xs k y
      go None none = let none_there : slice_get (map f xs) k ≡ None = get-map_any xs k None none in absurd (cc)
      go (Some x) some =
          let there : slice_get (map f xs) k ≡ Some (f x) = get-map xs k x some in
          record { element = x; there = some; is = cc }

  pub count_at-map : (p : ℕ → Y → Bool) (k : ℕ) (xs : List X)
      → count_at p k (map f xs) ≡ count_at (λ n x. p n (f x)) k xs
  count_at-map p k [] = refl
  count_at-map p k (x ∷ xs) = ap (λ n. bit (p k (f x)) + n) (count_at-map p (suc k) xs)

  pub count_by-map : (p : Y → Bool) (r : X → Bool) (xs : List X) → ((x : X) → p (f x) ≡ r x)
      → count_by p (map f xs) ≡ count_by r xs
  count_by-map p r xs same =
      let mapped : count_at (λ n. p) 0 (map f xs) ≡ count_at (λ n x. p (f x)) 0 xs = count_at-map (λ n. p) 0 xs in
      let agree : count_at (λ n x. p (f x)) 0 xs ≡ count_at (λ n. r) 0 xs =
      count_at-agree (λ n x. p (f x)) (λ n. r) xs (λ k x got. same x) in
      count_by-at p (map f xs) ∙ mapped ∙ agree ∙ sym (count_by-at r xs)

-- a test of what was picked of an element
abbrev pub passes : {Y : Type 0} → (Y → Bool) → Option Y → Bool
passes t None = false
passes t (Some y) = t y

pub count_by-picked : {X Y : Type 0} (t : Y → Bool) (f : ℕ → X → Option Y) (k : ℕ) (xs : List X)
    → count_by t (pick_each f k xs) ≡ count_at (λ n x. passes t (f n x)) k xs
count_by-picked t f k [] = refl
count_by-picked {X} {Y} t f k (x ∷ xs) = go (f k x) (count_by-picked t f (suc k) xs)
  where
    go : (o : Option Y) → count_by t (pick_each f (suc k) xs) ≡ count_at (λ n z. passes t (f n z)) (suc k) xs
        → count_by t (cons_option o (pick_each f (suc k) xs))
        ≡ bit (passes t o) + count_at (λ n z. passes t (f n z)) (suc k) xs
    go None rest = omega (arith, rest)
    go (Some y) rest =
        let first : count_by t (y ∷ pick_each f (suc k) xs) ≡ bit (t y) + count_by t (pick_each f (suc k) xs) =
        sum_by-cons (λ z. bit (t z)) y (pick_each f (suc k) xs) in
        omega (arith, first, rest)

-- What is read off the doings.

resuming-unwatching : (d : Doing) → is_resuming (unwatching d) ≡ is_resuming d
resuming-unwatching (doing.Decided k on) = refl
resuming-unwatching _ = refl

told-unwatching : (d : Doing) → is_told_refused (unwatching d) ≡ is_told_refused d
told-unwatching (doing.Decided k on) = refl
told-unwatching _ = refl

ticket-unwatching : (k : ℕ) (d : Doing) → is_ticket k (unwatching d) ≡ is_ticket k d
ticket-unwatching k (doing.Ticket j) = refl
ticket-unwatching k _ = refl

leaving-unwatching : (k : ℕ) (o : Option Doing) → is_leaving k (option_map unwatching o) ≡ is_leaving k o
leaving-unwatching k None = refl
leaving-unwatching k (Some doing.Idle) = refl
leaving-unwatching k (Some (doing.Watching j)) = refl
leaving-unwatching k (Some (doing.TryAt v)) = refl
leaving-unwatching k (Some doing.Door) = refl
leaving-unwatching k (Some (doing.Drawn j)) = refl
leaving-unwatching k (Some doing.Owes) = refl
leaving-unwatching k (Some (doing.Ticket j)) = refl
leaving-unwatching k (Some (doing.Leaving j)) = refl
leaving-unwatching k (Some (doing.Decided j on)) = refl

door-unwatching : (k : ℕ) (d : Doing) → at_door k (unwatching d) ≡ at_door k d
door-unwatching k doing.Door = refl
door-unwatching k _ = refl

pub has_ticket-unwatching : (k : ℕ) (ds : List Doing) → has_ticket k (map unwatching ds) ≡ has_ticket k ds
has_ticket-unwatching k [] = refl
has_ticket-unwatching k (d ∷ ds) = ap₂ (λ a b. a || b) (ticket-unwatching k d) (has_ticket-unwatching k ds)

owner-unwatching : (ds : List Doing) (o : Option ℕ)
    → option_and_then (λ p. slice_get (map unwatching ds) p) o
    ≡ option_map unwatching (option_and_then (λ p. slice_get ds p) o)
owner-unwatching ds None = refl
owner-unwatching ds (Some p) = slice_get-map unwatching ds p

-- What is read off a cell: one that isn't broken reads as itself.

pub record IsPlain (c : CoreCell) : Type 0 where
  pub same : unbroken_cell c ≡ c
  pub unspoiled : (k : ℕ) → is_spoiled k c ≡ None

plain-at : (c : CoreCell) → unbroken_state c.state c.collected ≡ c.state
    → ((k : ℕ) → is_spoiled k c ≡ None) → IsPlain c
plain-at c same unspoiled = record {
  same = λ i. record { state = same i; owner = c.owner; collected = c.collected };
  unspoiled = unspoiled;
}

-- a cell is broken, or reads as itself
abbrev pub IsEither : CoreCell → Type 0
IsEither c = IsPlain c ⊎ ((b : Bool) × (c.state ≡ state.Broken) × (c.collected ≡ b))

pub either-cell : (c : CoreCell) → IsEither c
either-cell c = go c.state refl
  where
    go : (s : CoreState) → c.state ≡ s → IsEither c
    go state.Broken is = inr (c.collected, is, refl)
    go _ is = inl (plain-at c (rw is refl) (λ k. rw is refl))

module _ (q : Queue) where
  abbrev v : Queue
  v = as_unbroken q

  abbrev is_broken : ℕ → CoreCell → Bool
  is_broken k c = is_some (is_spoiled k c)

  abbrev is_early : ℕ → CoreCell → Bool
  is_early k c = passes (λ b. nat_le q.suspends b.wait) (is_spoiled k c)

  -- no suspend has drawn the number, and it isn't broken
  abbrev pub is_ahead : ℕ → CoreCell → Bool
  is_ahead k c = nat_le q.suspends k && not (is_some (is_spoiled k c))

  record Reads (k : ℕ) (c : CoreCell) : Type 0 where
    left : bit (has_left (unbroken_cell c)) ≡ bit (has_left c) + bit (is_broken k c)
    standing : bit (is_standing v k (unbroken_cell c)) + bit (is_early k c)
        ≡ bit (is_standing q k c) + bit (is_broken k c)
    expected_one : bit (is_expected v k (unbroken_cell c)) + bit (is_early k c)
        ≡ bit (is_expected q k c) + bit (is_broken k c)
    undrawn : bit (nat_le q.suspends k) ≡ bit (is_early k c) + bit (is_ahead k c)
    unmet : is_unmet q.resumes v.doing k (unbroken_cell c) ≡ is_unmet q.resumes q.doing k c

  -- a plain cell is in line as it is
  line-plain : (k : ℕ) (c : CoreCell) → in_line v.doing k c ≡ in_line q.doing k c
  line-plain k c =
      let leaves : is_leaving k (owner_doing v.doing c) ≡ is_leaving k (owner_doing q.doing c) =
      ap (is_leaving k) (owner-unwatching q.doing c.owner) ∙ leaving-unwatching k (owner_doing q.doing c) in
      ap (waiting_of k c.owner) (stays-same k c.state (owner_doing v.doing c) (owner_doing q.doing c) leaves)

  unmet-plain : (k : ℕ) (s : CoreState)
      → is_unmet_refusal q.resumes v.doing k s ≡ is_unmet_refusal q.resumes q.doing k s
  unmet-plain k state.Refused = ap (λ b. nat_le q.resumes k || b) (has_ticket-unwatching k q.doing)
  unmet-plain k _ = refl

  reads-plain : (k : ℕ) (c : CoreCell) → IsPlain c → Reads k c
  reads-plain k c plain =
      let none : is_broken k c ≡ false = ap is_some (plain.unspoiled k) in
      let late : is_early k c ≡ false = ap (passes (λ b. nat_le q.suspends b.wait)) (plain.unspoiled k) in
      let lines : in_line v.doing k (unbroken_cell c) ≡ in_line q.doing k c =
      ap (in_line v.doing k) plain.same ∙ line-plain k c in
      let stands : is_standing v k (unbroken_cell c) ≡ is_standing q k c = ap is_some lines in
      let left : has_left (unbroken_cell c) ≡ has_left c = ap has_left plain.same in
      record {
        left = rw (left, none) (omega arith);
        standing = rw (stands, none, late) (omega arith);
        expected_one = rw (stands, none, late) (omega arith);
        undrawn = rw (late, none) (go (nat_le q.suspends k));
        unmet = ap (is_unmet q.resumes v.doing k) plain.same ∙ unmet-plain k c.state;
      }
    where
      go : (b : Bool) → bit b ≡ 0 + bit (b && true)
      go true = refl
      go false = refl

  -- a broken cell whose suspend has found it so
  reads-found : (k : ℕ) (c : CoreCell) → c.state ≡ state.Broken → c.collected ≡ true → Reads k c
  reads-found k c is collected = record {
    left = rw (is, collected) refl;
    standing = rw (is, collected) (none c.owner);
    expected_one = rw (is, collected) (none_expected (not (nat_le q.resumes k)) c.owner);
    undrawn = rw (is, collected) (go (nat_le q.suspends k));
    unmet = rw (is, collected) refl;
  }
    where
      none : (o : Option ℕ) → bit (is_some (waiting_of k o false)) + 0 ≡ bit (is_some (waiting_of k o false)) + 0
      none o = refl

      none_expected : (b : Bool) (o : Option ℕ)
          → bit (b && is_some (waiting_of k o false)) + 0 ≡ bit (b && is_some (waiting_of k o false)) + 0
      none_expected b o = refl

      go : (b : Bool) → bit b ≡ 0 + bit (b && true)
      go true = refl
      go false = refl

  -- a broken cell whose suspend hasn't: it was drawn by a suspend, or by none
  reads-broken : (k : ℕ) (c : CoreCell) → IsSoundAt v k (unbroken_cell c) state.Value → c.state ≡ state.Broken
      → c.collected ≡ false
      → Reads k c
  reads-broken k c sound is uncollected = go sound.0
    where
      reached : nat_le q.resumes k ≡ false
      reached = lt-leb q.resumes k sound.1

      go : IsUninstalled v k (unbroken_cell c) → Reads k c
      go (inl drawn) =
          let owner : c.owner ≡ Some drawn.0.pass = drawn.0.owner in
          let entered : nat_le q.suspends k ≡ false = lt-leb q.suspends k drawn.0.drawn in
          record {
            left = rw (is, uncollected) refl;
            standing = rw (is, uncollected, owner, entered) refl;
            expected_one = rw (is, uncollected, owner, entered, reached) refl;
            undrawn = rw (is, uncollected, entered) refl;
            unmet = rw (is, uncollected) refl;
          }
      go (inr (past, nobody)) =
          let owner : c.owner ≡ None = nobody in
          let beyond : nat_le q.suspends k ≡ true = le-leb q.suspends k past in
          record {
            left = rw (is, uncollected) refl;
            standing = rw (is, uncollected, owner, beyond) refl;
            expected_one = rw (is, uncollected, owner, beyond, reached) refl;
            undrawn = rw (is, uncollected, beyond) refl;
            unmet = rw (is, uncollected) refl;
          }

  reads-cell : IsSound v → (k : ℕ) (c : CoreCell) → slice_get q.cells k ≡ Some c → Reads k c
  reads-cell sound k c found = go (either-cell c)
    where
      at : IsSoundAt v k (unbroken_cell c) (unbroken_state c.state c.collected)
      at = sound.cells.at k (unbroken_cell c) (get-map unbroken_cell q.cells k c found)

      value : c.collected ≡ false → c.state ≡ state.Broken → IsSoundAt v k (unbroken_cell c) state.Value
      value uncollected is =
          subst (λ s. IsSoundAt v k (unbroken_cell c) s) (ap₂ unbroken_state is uncollected) at

      go : IsEither c → Reads k c
      go (inl plain) = reads-plain k c plain
      go (inr (true, is, collected)) = reads-found k c is collected
      go (inr (false, is, uncollected)) = reads-broken k c (value uncollected is) is uncollected

-- how many numbers no suspend has drawn that aren't broken
abbrev pub ahead : Queue → ℕ
ahead q = count_at (is_ahead q) 0 q.cells

-- What the two show.
pub record AreAlike (q v : Queue) : Type 0 where
  pub going : going v ≡ going q + length (spoiled q)
  pub ending : ending v ≡ ending q
  pub doors : length (door v) ≡ length (door q)
  pub line : length (line v) + early q ≡ length (line q) + length (spoiled q)
  pub expected : expected v + early q ≡ expected q + length (spoiled q)
  pub undrawn : equations.early v ≡ early q + ahead q

pub alike : (q : Queue) → IsSound (as_unbroken q) → AreAlike q (as_unbroken q)
alike q sound =
    let resuming : count_by is_resuming (map unwatching q.doing) ≡ count_by is_resuming q.doing =
    count_by-map unwatching is_resuming is_resuming q.doing resuming-unwatching in
    let told : count_by is_told_refused (map unwatching q.doing) ≡ count_by is_told_refused q.doing =
    count_by-map unwatching is_told_refused is_told_refused q.doing told-unwatching in
    let lefts : count_by has_left r.cells ≡ count_at (λ n c. has_left (unbroken_cell c)) 0 q.cells =
    count_by-at has_left r.cells ∙ count_at-map unbroken_cell (λ n. has_left) 0 q.cells in
    let left_q = count_by-at has_left q.cells in
    let left = counts-balance ((λ n c. has_left (unbroken_cell c)) ∷ []) ((λ n. has_left) ∷ is_broken q ∷ []) q.cells
    (λ k c found. let each = (reads-cell q sound k c found).left in omega (arith, each)) in
    let spoiled_all : length (spoiled q) ≡ count_at (is_broken q) 0 q.cells = length-picked is_spoiled 0 q.cells in
    let early_all : early q ≡ count_at (is_early q) 0 q.cells =
    count_by-picked (λ b. nat_le q.suspends b.wait) is_spoiled 0 q.cells in
    let unmet : count_at (is_unmet q.resumes r.doing) 0 r.cells ≡ count_at (is_unmet q.resumes q.doing) 0 q.cells =
    count_at-map unbroken_cell (is_unmet q.resumes r.doing) 0 q.cells
    ∙ count_at-agree (λ n c. is_unmet q.resumes r.doing n (unbroken_cell c)) (is_unmet q.resumes q.doing) q.cells
    (λ k c found. (reads-cell q sound k c found).unmet) in
    let line_v : length (line r) ≡ count_at (λ n c. is_standing r n (unbroken_cell c)) 0 q.cells =
    length-picked (in_line r.doing) 0 r.cells ∙ count_at-map unbroken_cell (is_standing r) 0 q.cells in
    let line_q : length (line q) ≡ count_at (is_standing q) 0 q.cells = length-picked (in_line q.doing) 0 q.cells in
    let lines = counts-balance ((λ n c. is_standing r n (unbroken_cell c)) ∷ is_early q ∷ [])
    (is_standing q ∷ is_broken q ∷ []) q.cells
    (λ k c found. let each = (reads-cell q sound k c found).standing in omega (arith, each)) in
    let expected_v : expected r ≡ count_at (λ n c. is_expected r n (unbroken_cell c)) 0 q.cells =
    count_at-map unbroken_cell (is_expected r) 0 q.cells in
    let expecteds = counts-balance ((λ n c. is_expected r n (unbroken_cell c)) ∷ is_early q ∷ [])
    (is_expected q ∷ is_broken q ∷ []) q.cells
    (λ k c found. let each = (reads-cell q sound k c found).expected_one in omega (arith, each)) in
    let undrawn_v : equations.early r ≡ count_at (λ n c. nat_le q.suspends n) 0 q.cells =
    count_at-map unbroken_cell (λ n c. nat_le q.suspends n) 0 q.cells in
    let undrawns = counts-balance ((λ n c. nat_le q.suspends n) ∷ []) (is_early q ∷ is_ahead q ∷ []) q.cells
    (λ k c found. let each = (reads-cell q sound k c found).undrawn in omega (arith, each)) in
    let doors_v : length (door r) ≡ count_at (λ n d. is_some (at_door n (unwatching d))) 0 q.doing =
    length-picked at_door 0 r.doing ∙ count_at-map unwatching (is_picked at_door) 0 q.doing in
    let doors : length (door r) ≡ length (door q) =
    doors_v
    ∙ count_at-agree (λ n d. is_some (at_door n (unwatching d))) (is_picked at_door) q.doing
    (λ k d got. ap is_some (door-unwatching k d))
    ∙ sym (length-picked at_door 0 q.doing) in
    record {
      going = omega (arith, resuming, lefts, left_q, left, spoiled_all);
      ending = omega (arith, told, unmet);
      doors = doors;
      line = omega (arith, line_v, line_q, lines, early_all, spoiled_all);
      expected = omega (arith, expected_v, expecteds, early_all, spoiled_all);
      undrawn = omega (arith, undrawn_v, undrawns, early_all);
    }
  where
    r : Queue
    r = as_unbroken q

-- No more resumptions end at refused cells than are going; what is left are those that stand before the waits of
-- the line which a resume has drawn, and at numbers that are neither drawn by a suspend nor broken; and the early
-- numbers are due to the door.
pub record HasSyncFlow (q : Queue) : Type 0 where
  pub first : expected q + ahead q + ending q ≤ going q
  pub fits : early q ≤ length (door q) + length (line q)

pub sync-flow : (q : Queue) → IsSound (as_unbroken q) → IsCovered (as_unbroken q)
    → expected q + ahead q + ending q ≤ going q
sync-flow q sound covered =
    let same = alike q sound in
    let flows : HasFlow (as_unbroken q) = flow (as_unbroken q) sound in
    let few : decliners (as_unbroken q) ≤ roaming (as_unbroken q) =
    decliners-le (as_unbroken q) sound (covers-from (as_unbroken q) covered) in
    omega (arith, flows.drawn, few, same.going, same.ending, same.expected, same.undrawn)

pub sync-within : (q : Queue) → IsSound (as_unbroken q) → IsCovered (as_unbroken q) → ending q ≤ going q
sync-within q sound covered = let flows = sync-flow q sound covered in omega (arith, flows)
