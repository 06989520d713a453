-- How often an element is on its way, or held, after a pass and a cell were written; and which waits were served
-- with which.
use Rattle.std.proofs.Common.{◌≡◌, ◌≢◌, ◌⊎◌, inl, inr, ℕ, suc, ◌+◌, ◌<◌, ◌≤◌, nat_le, ◌==◌, ◌&&◌, Bool, true, false, not, List, [], ◌∷◌, ◌++◌, Option, Some, None, length, set, slice_get, get_or, refl, ap, ap₂, sym, ◌∙◌, arith, eq-eqb, eqb-true, ne_eqb, append-nil, if◌then◌else◌}
use Rattle.std.specs.List.{count_by}
use Rattle.std.proofs.lemmas.Bool.{cases_Bool, both_ways}
use Rattle.std.proofs.lemmas.List.{length-set, get_or-set_other}
use Rattle.std.proofs.lemmas.List.Sums.{sum_by-cons}
use Rattle.cqs_core.specs.declared.cells.CoreCell.{CoreCell}
use Rattle.cqs_core.specs.declared.cells.CoreState.{CoreState}
use Rattle.cqs_core.specs.declared.cells.CoreState.TheVariants as state
use Rattle.cqs_core.specs.declared.doings.Doing.{Doing}
use Rattle.cqs_core.specs.Numbered.{IsIn, pick_each, count_at}
use Rattle.cqs_core.specs.Keyed.{without}
use Rattle.cqs_core.specs.QueueState.{Queue, fresh_cell, owner_doing, is_refusing}
use Rattle.cqs_core.specs.QueueLine.{is_resuming, is_told_refused, has_left, is_unmet, going, ending}
use Rattle.cqs_core.specs.QueueMoves.{now_doing, with_cell, cells_reached, cells_drawn}
use Rattle.cqs_core.specs.QueueCover.{is_declined}
use Rattle.cqs_core.specs.QueueSound.{IsSound, IsUntaken}
use Rattle.cqs_core.proofs.Counts.{bit, count_at-change, count_at-write, count_at-push, count_at-none, count_by-push}
use Rattle.cqs_core.proofs.DrawMoves.{undrawn}
use Rattle.cqs_core.proofs.Equations.{HasFlow, flow, decliners, expected}
use Rattle.cqs_core.proofs.DoubleCounting.{refusals-at_cells}
use Rattle.cqs_core.proofs.Keys.{Around, around-kept}
use Rattle.cqs_core.proofs.Letters.{will_decline}
use Rattle.cqs_core.proofs.Picked.{picked-around, picked-push}
use Rattle.cqs_core.proofs.Places.{get-set_here, get-set_else}
use Rattle.cqs_core.proofs.Rising.{in-behind, in-none}
use Rattle.cqs_pool_object.specs.PoolObject.{Given, times}
use Rattle.cqs_pool_object.specs.PoolShown.{brings, way_times, given_of, is_given, services}

abbrev pub itself : ℕ → ℕ
itself n = n

abbrev pub given_wait : Given → ℕ
given_wait g = g.wait

-- the payloads of the others stay
pub record LoadsBut (p : ℕ) (loads after : List ℕ) : Type 0 where
  pub others : (j : ℕ) → j ≢ p → get_or after j 0 ≡ get_or loads j 0

pub loads-same : (p : ℕ) (loads : List ℕ) → LoadsBut p loads loads
loads-same p loads = record { others = λ j other. refl }

pub loads-set : (p l : ℕ) (loads : List ℕ) → LoadsBut p loads (set loads p l)
loads-set p l loads = record { others = λ j other. get_or-set_other loads p j l 0 other }

-- f with one value changed
abbrev pub put_at : (ℕ → ℕ) → ℕ → ℕ → ℕ → ℕ
put_at f k v m = if m == k then v else f m

pub record PayloadsBut (k : ℕ) (payloads after : ℕ → ℕ) : Type 0 where
  pub others : (m : ℕ) → m ≢ k → after m ≡ payloads m

pub payloads-same : (k : ℕ) (payloads : ℕ → ℕ) → PayloadsBut k payloads payloads
payloads-same k payloads = record { others = λ m other. refl }

pub payloads-set : (k v : ℕ) (payloads : ℕ → ℕ) → PayloadsBut k payloads (put_at payloads k v)
payloads-set k v payloads = record { others = λ m other. ap (λ b. if b then v else payloads m) (ne_eqb m k other) }

pub put-here : (k v : ℕ) (payloads : ℕ → ℕ) → put_at payloads k v k ≡ v
put-here k v payloads = ap (λ b. if b then v else payloads k) (eq-eqb k k refl)

-- one pass goes on, maybe with another payload
pub brings-write : (e : ℕ) (passes : List Doing) (p : ℕ) (from to : Doing) (loads after : List ℕ)
    → slice_get passes p ≡ Some from → LoadsBut p loads after
    → count_at (brings e after) 0 (set passes p to) + bit (is_resuming from && (get_or loads p 0 == e))
    ≡ count_at (brings e loads) 0 passes + bit (is_resuming to && (get_or after p 0 == e))
brings-write e passes p from to loads after does but =
    count_at-change (brings e loads) (brings e after) passes (set passes p to) p from to (sym (length-set passes p to))
    does
    (get-set_here passes p from to does) others
  where
    others : (j : ℕ) (x y : Doing) → j ≢ p → slice_get passes j ≡ Some x → slice_get (set passes p to) j ≡ Some y
        → brings e loads j x ≡ brings e after j y
    others j x y other was now =
        let kept : slice_get passes j ≡ Some y = sym (get-set_else passes p j to (λ e. other (sym e))) ∙ now in
        let same : x ≡ y = cc in
        ap₂ (λ d l. is_resuming d && (l == e)) same (sym (but.others j other))

-- one cell is written, maybe with another payload: those that pass a test, with this payload
pub cells-write : (f : CoreCell → Bool) (e : ℕ) (cells : List CoreCell) (k : ℕ) (found new : CoreCell)
    (payloads after : ℕ → ℕ)
    → slice_get cells k ≡ Some found → PayloadsBut k payloads after
    → count_at (λ n c. f c && (after n == e)) 0 (set cells k new) + bit (f found && (payloads k == e))
    ≡ count_at (λ n c. f c && (payloads n == e)) 0 cells + bit (f new && (after k == e))
cells-write f e cells k found new payloads after finds but =
    count_at-change (λ n c. f c && (payloads n == e)) (λ n c. f c && (after n == e)) cells (set cells k new) k found new
    (sym (length-set cells k new)) finds (get-set_here cells k found new finds) others
  where
    others : (j : ℕ) (x y : CoreCell) → j ≢ k → slice_get cells j ≡ Some x → slice_get (set cells k new) j ≡ Some y
        → (f x && (payloads j == e)) ≡ (f y && (after j == e))
    others j x y other was now =
        let kept : slice_get cells j ≡ Some y = sym (get-set_else cells k j new (λ e. other (sym e))) ∙ now in
        let same : x ≡ y = cc in
        ap₂ (λ c v. f c && (v == e)) same (sym (but.others j other))

-- a cell that a draw makes adds nothing
pub cells-reached : (f : CoreCell → Bool) (e : ℕ) (payloads : ℕ → ℕ) (cells : List CoreCell) (found : Option CoreCell)
    → f fresh_cell ≡ false
    → count_at (λ n c. f c && (payloads n == e)) 0 (cells_reached cells found) ≡ count_at
    (λ n c. f c && (payloads n == e)) 0 cells
cells-reached f e payloads cells (Some found) none = refl
cells-reached f e payloads cells None none =
    let pushed = count_at-push (λ n c. f c && (payloads n == e)) cells fresh_cell in
    let nothing : bit (f fresh_cell && (payloads (length cells) == e)) ≡ 0 = ap
    (λ b. bit (b && (payloads (length cells) == e))) none in
    omega arith

-- nor does a drawn one
pub cells-drawn : (f : CoreCell → Bool) (e : ℕ) (payloads : ℕ → ℕ) (q : Queue) (p : ℕ) (found : Option CoreCell)
    → slice_get q.cells q.suspends ≡ found
    → ((c : CoreCell) → f (record { state = c.state; owner = Some p; collected = c.collected }) ≡ f c)
    → f fresh_cell ≡ false
    → count_at (λ n c. f c && (payloads n == e)) 0 (cells_drawn q.cells q.suspends p found)
    ≡ count_at (λ n c. f c && (payloads n == e)) 0 q.cells
cells-drawn f e payloads q p (Some found) finds same none =
    let new : CoreCell = record { state = found.state; owner = Some p; collected = found.collected } in
    let write = cells-write f e q.cells q.suspends found new payloads payloads finds (payloads-same q.suspends payloads)
    in
    let bits : bit (f found && (payloads q.suspends == e)) ≡ bit (f new && (payloads q.suspends == e)) =
    ap (λ b. bit (b && (payloads q.suspends == e))) (sym (same found)) in
    omega arith
cells-drawn f e payloads q p None finds same none =
    let new : CoreCell = record { state = state.Empty; owner = Some p; collected = false } in
    let pushed = count_at-push (λ n c. f c && (payloads n == e)) q.cells new in
    let nothing : bit (f new && (payloads (length q.cells) == e)) ≡ 0 =
    ap (λ b. bit (b && (payloads (length q.cells) == e))) (same fresh_cell ∙ none) in
    omega arith

-- a pass and a cell are written
pub way-write : (e : ℕ) (q : Queue) (p : ℕ) (from to : Doing) (k : ℕ) (found new : CoreCell) (loads loads' : List ℕ)
    (payloads payloads' : ℕ → ℕ)
    → slice_get q.doing p ≡ Some from → slice_get q.cells k ≡ Some found → LoadsBut p loads loads'
    → PayloadsBut k payloads payloads'
    → way_times e (now_doing (with_cell q k new) p to) loads' payloads'
    + (bit (is_resuming from && (get_or loads p 0 == e)) + bit (has_left found && (payloads k == e)))
    ≡ way_times e q loads payloads
    + (bit (is_resuming to && (get_or loads' p 0 == e)) + bit (has_left new && (payloads' k == e)))
way-write e q p from to k found new loads loads' payloads payloads' does finds but but' =
    let passes = brings-write e q.doing p from to loads loads' does but in
    let cells = cells-write has_left e q.cells k found new payloads payloads' finds but' in
    omega arith

-- a pass alone
pub way-turn : (e : ℕ) (q : Queue) (p : ℕ) (from to : Doing) (loads loads' : List ℕ) (payloads : ℕ → ℕ)
    → slice_get q.doing p ≡ Some from → LoadsBut p loads loads'
    → way_times e (now_doing q p to) loads' payloads + bit (is_resuming from && (get_or loads p 0 == e))
    ≡ way_times e q loads payloads + bit (is_resuming to && (get_or loads' p 0 == e))
way-turn e q p from to loads loads' payloads does but =
    let passes = brings-write e q.doing p from to loads loads' does but in omega arith

-- Which waits were served with which.
given_of-key : (k : ℕ) (s : CoreState) (owner : Option ℕ) (collected : Bool) (e : ℕ) (v : Given)
    → given_of k s owner collected e ≡ Some v → v.wait ≡ k
given_of-key k state.Taken (Some p) collected e v some =
    let is : record { wait = k; pass = p; element = e; is_open = true } ≡ v = cc in ap given_wait (sym is)
given_of-key k state.Resumed (Some p) collected e v some =
    let is : record { wait = k; pass = p; element = e; is_open = not collected } ≡ v = cc in ap given_wait (sym is)
given_of-key k state.Taken None collected e v some = absurd (cc)
given_of-key k state.Resumed None collected e v some = absurd (cc)
given_of-key k state.Empty owner collected e v some = absurd (cc)
given_of-key k state.Waiter owner collected e v some = absurd (cc)
given_of-key k state.Value owner collected e v some = absurd (cc)
given_of-key k state.Broken owner collected e v some = absurd (cc)
given_of-key k state.Cancelling owner collected e v some = absurd (cc)
given_of-key k state.Delegated owner collected e v some = absurd (cc)
given_of-key k state.Cancelled owner collected e v some = absurd (cc)
given_of-key k state.Refused owner collected e v some = absurd (cc)

pub given-around : (cells : List CoreCell) (k : ℕ) (found new : CoreCell) (payloads after : ℕ → ℕ)
    → slice_get cells k ≡ Some found
    → PayloadsBut k payloads after
    → Around given_wait k (pick_each (is_given payloads) 0 cells) (pick_each (is_given after) 0 (set cells k new))
    (is_given payloads k found) (is_given after k new)
given-around cells k found new payloads after finds but =
    picked-around (is_given payloads) (is_given after) given_wait
    (record { at = λ n c v some. given_of-key n c.state c.owner c.collected (payloads n) v some }) k
    (record { at = λ m c other. ap (given_of m c.state c.owner c.collected) (sym (but.others m other)) }) 0 cells k
    found new
    (omega arith) finds

-- a cell that wasn't served and isn't
abbrev pub IsUnserved : CoreState → Type 0
IsUnserved state.Taken = ⊥
IsUnserved state.Resumed = ⊥
IsUnserved state.Empty = Unit {0}
IsUnserved state.Waiter = Unit {0}
IsUnserved state.Value = Unit {0}
IsUnserved state.Broken = Unit {0}
IsUnserved state.Cancelling = Unit {0}
IsUnserved state.Delegated = Unit {0}
IsUnserved state.Cancelled = Unit {0}
IsUnserved state.Refused = Unit {0}

unserved-none : (k : ℕ) (s : CoreState) (owner : Option ℕ) (collected : Bool) (e : ℕ) → IsUnserved s
    → given_of k s owner collected e ≡ None
unserved-none k state.Taken owner collected e un = absurd un
unserved-none k state.Resumed owner collected e un = absurd un
unserved-none k state.Empty owner collected e un = refl
unserved-none k state.Waiter owner collected e un = refl
unserved-none k state.Value owner collected e un = refl
unserved-none k state.Broken owner collected e un = refl
unserved-none k state.Cancelling owner collected e un = refl
unserved-none k state.Delegated owner collected e un = refl
unserved-none k state.Cancelled owner collected e un = refl
unserved-none k state.Refused owner collected e un = refl

pub given-write : (cells : List CoreCell) (k : ℕ) (found new : CoreCell) (payloads after : ℕ → ℕ)
    → slice_get cells k ≡ Some found
    → PayloadsBut k payloads after → IsUnserved found.state → IsUnserved new.state
    → pick_each (is_given after) 0 (set cells k new) ≡ pick_each (is_given payloads) 0 cells
given-write cells k found new payloads after finds but was now =
    around-kept given_wait k _ _ _ _ (given-around cells k found new payloads after finds but)
    (unserved-none k found.state found.owner found.collected (payloads k) was
    ∙ sym (unserved-none k new.state new.owner new.collected (after k) now))

pub given-drawn : (q : Queue) (p : ℕ) (found : Option CoreCell) (payloads : ℕ → ℕ) → IsSound q
    → slice_get q.cells q.suspends ≡ found
    → pick_each (is_given payloads) 0 (cells_drawn q.cells q.suspends p found) ≡ services q payloads
given-drawn q p (Some found) payloads sound finds =
    let was = undrawn q q.suspends found sound finds (omega arith) in
    given-write q.cells q.suspends found (record { state = found.state; owner = Some p; collected = found.collected })
    payloads payloads
    finds (payloads-same q.suspends payloads) (untaken found.state was.untaken) (untaken found.state was.untaken)
  where
    untaken : (s : CoreState) → IsUntaken s → IsUnserved s
    untaken state.Empty is = tt
    untaken state.Value is = tt
    untaken _ is = absurd is
given-drawn q p None payloads sound finds =
    picked-push (is_given payloads) 0 q.cells (record { state = state.Empty; owner = Some p; collected = false })
    (length q.cells) (omega arith)
    ∙ append-nil (pick_each (is_given payloads) 0 q.cells)

pub given-reached : (payloads : ℕ → ℕ) (cells : List CoreCell) (found : Option CoreCell)
    → pick_each (is_given payloads) 0 (cells_reached cells found) ≡ pick_each (is_given payloads) 0 cells
given-reached payloads cells (Some found) = refl
given-reached payloads cells None =
    picked-push (is_given payloads) 0 cells fresh_cell (length cells) (omega arith)
    ∙ append-nil (pick_each (is_given payloads) 0 cells)

-- Lists of elements.
pub times-in : (e : ℕ) (xs : List ℕ) → 0 < times e xs → IsIn e xs
times-in e [] some = absurd (omega arith)
times-in e (x ∷ xs) some = go (cases_Bool (x == e)) (λ more. times-in e xs more)
  where
    go : (x == e ≡ true) ⊎ (x == e ≡ false) → (0 < times e xs → IsIn e xs) → IsIn e (x ∷ xs)
    go (inl same) rests = record { place = 0; there = ap Some (eqb-true x e same) }
    go (inr other) rests =
        let first : times e (x ∷ xs) ≡ bit (x == e) + times e xs = sum_by-cons (λ n. bit (n == e)) x xs in
        let none : bit (x == e) ≡ 0 = ap bit other in
        let rest : IsIn e xs = rests (omega arith) in
        record { place = suc rest.place; there = rest.there }

pub times-cons : (f e : ℕ) (xs : List ℕ) → times f (e ∷ xs) ≡ bit (e == f) + times f xs
times-cons f e xs = sum_by-cons (λ n. bit (n == f)) e xs

pub times-push : (f e : ℕ) (xs : List ℕ) → times f (xs ++ e ∷ []) ≡ times f xs + bit (e == f)
times-push f e xs = count_by-push (λ n. n == f) xs e

pub times-without : (f e : ℕ) (xs : List ℕ) → IsIn e xs → times f (without itself e xs) + bit (e == f) ≡ times f xs
times-without f e [] stands = absurd (in-none e stands)
times-without f e (x ∷ xs) stands = go (cases_Bool (e == x)) (in-behind e x xs stands)
    (λ later. times-without f e xs later)
  where
    go : (e == x ≡ true) ⊎ (e == x ≡ false) → (e ≡ x) ⊎ IsIn e xs
        → (IsIn e xs → times f (without itself e xs) + bit (e == f) ≡ times f xs)
        → times f (if e == x then xs else x ∷ without itself e xs) + bit (e == f) ≡ times f (x ∷ xs)
    go (inl same) place rest =
        let is : e ≡ x = eqb-true e x same in
        let first = times-cons f x xs in
        let bits : bit (e == f) ≡ bit (x == f) = ap (λ n. bit (n == f)) is in
        rw same (omega arith)
    go (inr other) (inl same) rest = absurd (both_ways (e == x) other (eq-eqb e x same))
    go (inr other) (inr later) rest =
        let first = times-cons f x xs in
        let more = times-cons f x (without itself e xs) in
        let fewer = rest later in
        rw other (omega arith)

-- Where no cell is refused, each wait of the line that a resume has drawn has a resumption of its own.
unmet-each : (q : Queue) (k : ℕ) (cell : CoreCell) → slice_get q.cells k ≡ Some cell
    → count_at (is_unmet q.resumes q.doing) 0 q.cells ≡ 0 → is_unmet q.resumes q.doing k cell ≡ false
unmet-each q k cell finds none = go (cases_Bool (is_unmet q.resumes q.doing k cell))
  where
    go : (is_unmet q.resumes q.doing k cell ≡ true) ⊎ (is_unmet q.resumes q.doing k cell ≡ false)
        → is_unmet q.resumes q.doing k cell ≡ false
    go (inr isnt) = isnt
    go (inl is) =
        let write = count_at-write (is_unmet q.resumes q.doing) q.cells k cell fresh_cell finds in
        let one : bit (is_unmet q.resumes q.doing k cell) ≡ 1 = ap bit is in
        absurd (omega arith)

told-each : (q : Queue) (k : ℕ) (cell : CoreCell) → slice_get q.cells k ≡ Some cell
    → count_at (λ n c. is_refusing n (owner_doing q.doing c)) 0 q.cells ≡ 0
    → is_refusing k (owner_doing q.doing cell) ≡ false
told-each q k cell finds none = go (cases_Bool (is_refusing k (owner_doing q.doing cell)))
  where
    go : (is_refusing k (owner_doing q.doing cell) ≡ true) ⊎ (is_refusing k (owner_doing q.doing cell) ≡ false)
        → is_refusing k (owner_doing q.doing cell) ≡ false
    go (inr isnt) = isnt
    go (inl is) =
        let write = count_at-write (λ n c. is_refusing n (owner_doing q.doing c)) q.cells k cell fresh_cell finds in
        let one : bit (is_refusing k (owner_doing q.doing cell)) ≡ 1 = ap bit is in
        absurd (omega arith)

declined-not : (q : Queue) (k : ℕ) (cell : CoreCell) → is_refusing k (owner_doing q.doing cell) ≡ false
    → is_unmet q.resumes q.doing k cell ≡ false → (nat_le q.resumes k && is_declined q.doing k cell) ≡ false
declined-not q k cell told unmet = at cell.state refl
  where
    not-late : is_refusing k (owner_doing q.doing cell) ≡ false
        → (nat_le q.resumes k && is_refusing k (owner_doing q.doing cell)) ≡ false
    not-late isnt = go (nat_le q.resumes k)
      where
        go : (b : Bool) → (b && is_refusing k (owner_doing q.doing cell)) ≡ false
        go true = isnt
        go false = refl

    at : (s : CoreState) → cell.state ≡ s → (nat_le q.resumes k && is_declined q.doing k cell) ≡ false
    at state.Refused is = go (cases_Bool (nat_le q.resumes k))
      where
        go : (nat_le q.resumes k ≡ true) ⊎ (nat_le q.resumes k ≡ false)
            → (nat_le q.resumes k && is_declined q.doing k cell) ≡ false
        go (inl late) =
            let met : is_unmet q.resumes q.doing k cell ≡ true = rw (is, late) refl in
            absurd (both_ways (is_unmet q.resumes q.doing k cell) unmet met)
        go (inr reached) = ap (λ b. b && is_declined q.doing k cell) reached
    at state.Empty is = rw is (not-late told)
    at state.Waiter is = rw is (not-late told)
    at state.Value is = rw is (not-late told)
    at state.Taken is = rw is (not-late told)
    at state.Broken is = rw is (not-late told)
    at state.Resumed is = rw is (not-late told)
    at state.Cancelling is = rw is (not-late told)
    at state.Delegated is = rw is (not-late told)
    at state.Cancelled is = rw is (not-late told)

pub expected-within : (q : Queue) → IsSound q → ending q ≡ 0 → expected q ≤ going q
expected-within q sound none =
    let flows : HasFlow q = flow q sound in
    let told : count_by is_told_refused q.doing ≡ count_at (λ n c. is_refusing n (owner_doing q.doing c)) 0 q.cells =
    refusals-at_cells q sound in
    let none_told : count_at (λ n c. is_refusing n (owner_doing q.doing c)) 0 q.cells ≡ 0 = omega arith in
    let none_unmet : count_at (is_unmet q.resumes q.doing) 0 q.cells ≡ 0 = omega arith in
    let few : decliners q ≡ 0 =
    count_at-none (will_decline q) q.cells
    (λ k cell finds. declined-not q k cell (told-each q k cell finds none_told) (unmet-each q k cell finds none_unmet))
    in
    omega (arith, flows.drawn)
