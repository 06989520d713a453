-- Who waits and who left stands at a number of his own or is a pass of its own: so they are no more than the numbers
-- drawn and the passes.
use Rattle.std.proofs.Common.{◌≡◌, ℕ, suc, ◌+◌, ◌≤◌, true, false, Bool, List, [], ◌∷◌, Option, Some, None, length, refl, arith}
use Rattle.std.specs.List.{count_by}
use Rattle.std.proofs.lemmas.List.Sums.{sum_by-cons}
use Rattle.cqs_core.specs.declared.cells.CoreCell.{CoreCell}
use Rattle.cqs_core.specs.declared.cells.CoreState.{CoreState}
use Rattle.cqs_core.specs.declared.cells.CoreState.TheVariants as state
use Rattle.cqs_core.specs.declared.doings.Doing.{Doing}
use Rattle.cqs_core.specs.declared.doings.Doing.TheVariants as doing
use Rattle.cqs_core.specs.Numbered.{pick_each, count_at, cons_option}
use Rattle.cqs_core.specs.QueueState.{Queue, owner_doing}
use Rattle.cqs_core.specs.QueueLine.{at_door, in_line, waiting_of, is_told_refused, is_unmet, is_unmet_refusal, stays_in_line, due, ending}
use Rattle.cqs_core.specs.QueueSound.{IsSound}
use Rattle.cqs_core.proofs.Counts.{bit}
use Rattle.cqs_latch_object.specs.LatchShown.{has_loaded}

abbrev one_of : {X : Type 0} → Option X → ℕ
one_of None = 0
one_of (Some x) = 1

longer : {X : Type 0} → (o : Option X) (xs : List X) → length (cons_option o xs) ≡ one_of o + length xs
longer None xs = omega arith
longer (Some x) xs = omega arith

-- a pass is at the door, was told to refuse, or has loaded the count: one at most
one-pass : (k : ℕ) (d : Doing) → one_of (at_door k d) + bit (is_told_refused d) + bit (has_loaded d) ≤ 1
one-pass k doing.Idle = omega arith
one-pass k (doing.TryAt v) = loaded (has_loaded (doing.TryAt v))
  where
    loaded : (b : Bool) → 0 + 0 + bit b ≤ 1
    loaded true = omega arith
    loaded false = omega arith
one-pass k doing.Door = omega arith
one-pass k (doing.Drawn j) = omega arith
one-pass k doing.Owes = omega arith
one-pass k (doing.Ticket j) = omega arith
one-pass k (doing.Leaving j) = omega arith
one-pass k (doing.Watching j) = omega arith
one-pass k (doing.Decided j true) = omega arith
one-pass k (doing.Decided j false) = omega arith

few-passes : (k : ℕ) (passes : List Doing)
    → length (pick_each at_door k passes) + count_by is_told_refused passes + count_by has_loaded passes
    ≤ length passes
few-passes k [] = omega arith
few-passes k (d ∷ ds) =
    let rest = few-passes (suc k) ds in
    let one = one-pass k d in
    let doors = longer (at_door k d) (pick_each at_door (suc k) ds) in
    let told = sum_by-cons (λ x. bit (is_told_refused x)) d ds in
    let loaded = sum_by-cons (λ x. bit (has_loaded x)) d ds in
    omega arith

-- a cell stands for a wait in line, or for a refusal that no resume has met: one at most
one-cell : (resumes : ℕ) (passes : List Doing) (k : ℕ) (c : CoreCell)
    → one_of (in_line passes k c) + bit (is_unmet resumes passes k c) ≤ 1
one-cell resumes passes k c = at c.state
  where
    waits : (owner : Option ℕ) (b : Bool) → one_of (waiting_of k owner b) ≤ 1
    waits (Some p) true = omega arith
    waits (Some p) false = omega arith
    waits None b = omega arith

    unmet : (b : Bool) → bit b ≤ 1
    unmet true = omega arith
    unmet false = omega arith

    left : (owner : Option ℕ) → one_of (waiting_of k owner false) ≡ 0
    left (Some p) = refl
    left None = refl

    at : (s : CoreState) → one_of (waiting_of k c.owner (stays_in_line k s (owner_doing passes c)))
        + bit (is_unmet_refusal resumes passes k s)
        ≤ 1
    at state.Refused =
        let none = left c.owner in
        let few = unmet (is_unmet_refusal resumes passes k state.Refused) in
        omega arith
    at state.Empty = let few = waits c.owner true in omega arith
    at state.Waiter = let few = waits c.owner true in omega arith
    at state.Value = let few = waits c.owner true in omega arith
    at state.Taken = let few = waits c.owner false in omega arith
    at state.Broken = let few = waits c.owner false in omega arith
    at state.Resumed = let few = waits c.owner false in omega arith
    at state.Cancelled = let few = waits c.owner false in omega arith
    at state.Cancelling =
        let few = waits c.owner (stays_in_line k state.Cancelling (owner_doing passes c)) in omega arith
    at state.Delegated =
        let few = waits c.owner (stays_in_line k state.Delegated (owner_doing passes c)) in omega arith

few-cells : (resumes : ℕ) (passes : List Doing) (k : ℕ) (cells : List CoreCell)
    → length (pick_each (in_line passes) k cells) + count_at (is_unmet resumes passes) k cells ≤ length cells
few-cells resumes passes k [] = omega arith
few-cells resumes passes k (c ∷ cs) =
    let rest = few-cells resumes passes (suc k) cs in
    let one = one-cell resumes passes k c in
    let lines = longer (in_line passes k c) (pick_each (in_line passes) (suc k) cs) in
    omega arith

-- where nobody resumed yet, those who wait and those cells, with the passes that have loaded the count, are no more
-- than the numbers drawn and the passes
pub few-wait : (q : Queue) → IsSound q → q.resumes ≡ 0
    → due q + ending q + count_by has_loaded q.doing ≤ q.suspends + length q.doing
few-wait q sound none =
    let passes = few-passes 0 q.doing in
    let cells = few-cells q.resumes q.doing 0 q.cells in
    let made = sound.made in
    omega arith
