-- A semaphore that workers share, with the pass of one of them, as a floor sees it. A mutex is a
-- semaphore of one permit.
use Rattle.std.specs.Prelude.{◌≡◌, ℕ, ◌+◌, List, [], ◌∷◌, drop, length, sum_by, Some}
use Rattle.std.specs.Arc.{arc_value}
use Rattle.cqs_core.specs.declared.entries.Entry.{Entry}
use Rattle.cqs_plan.specs.Floor.{size_of}
use Rattle.cqs_plan.specs.FloorHistory.{of_permits}
use Rattle.cqs_rule_laws.specs.declared.view.View.{View}
use Rattle.cqs_rule_laws.specs.Lists.{IsDistinct}
use Rattle.cqs_rule.specs.Passes.{pass_view}
use Rattle.cqs_rule_laws.specs.CallRule.{IsReady}
use Rattle.cqs_semaphore.specs.Calls.{IsMine}
use Rattle.cqs_floor_shared_kinds.specs.declared.kinds.permits.SharedPermits.{SharedPermits}
use Rattle.cqs_floor_shared_kinds.specs.Families.{queue_name}
use Rattle.cqs_floor_shared_kinds.specs.PermitAccounts.{IsAccounted}
use Rattle.cqs_floor_shared_kinds.specs.PermitRuns.{IsOfPermits}
use Rattle.cqs_floor_shared_kinds.specs.Runs.{WaitsAt}
use Rattle.cqs_floor_shared_kinds.specs.Shares.{Funds, Share}

-- permits have the number 0
abbrev pub ArePermits : List ℕ → Type 0
ArePermits [] = Unit {0}
ArePermits (e ∷ es) = (e ≡ 0) × ArePermits es

abbrev pub HoldPermits : List (List ℕ) → Type 0
HoldPermits [] = Unit {0}
HoldPermits (es ∷ held) = ArePermits es × HoldPermits held

-- how many all jobs hold together
abbrev pub total : List (List ℕ) → ℕ
total held = sum_by (λ es. length es) held

-- What a pass is between two calls of a floor: it owes nothing, its own number is the first of its
-- numbers, of which none comes twice, and what they came to and haven't given back is what it holds
-- and what it waits for.
pub record IsResting {T : Type 0} (v : View Entry T) (size held waiting : ℕ) : Type 0 where
  pub size_is : v.opening.size ≡ size
  pub ready : IsReady v.facts
  pub numbers : v.own ≡ v.number ∷ drop 1 v.own
  pub distinct : IsDistinct v.own
  pub held_is : v.facts.has.held ≡ held
  pub waits_are : length v.facts.waits ≡ waiting
  pub account : IsAccounted v.own v.seen (held + waiting)

-- It is a semaphore or a mutex, the pass is its own, and its jobs hold permits: those that they
-- hold and those that came with a number are all that the pass holds.
pub record IsFunded (x : SharedPermits) (a : Funds) : Type 0 where
  pub sort : IsOfPermits a.kind
  pub mine : IsMine (arc_value x.semaphore) x.pass
  pub permits : HoldPermits a.held
  pub rests : IsResting (pass_view x.pass) (size_of (Some a.kind)) (total a.held + a.came) a.waiting

abbrev pub share_permits : Share SharedPermits
share_permits = record {
  seen = λ x. of_permits (pass_view x.pass).seen;
  number = λ x. (pass_view x.pass).number;
  met = λ x. drop 1 (pass_view x.pass).own;
  passes = λ x. (pass_view x.pass).passes;
  limit = λ x. (pass_view x.pass).limit;
  parties = λ x. [];
  family = λ x. queue_name x.pass ∷ [];
  funded = IsFunded;
  has = λ x round wait. (round ≡ 0) × WaitsAt (pass_view x.pass) wait;
}
