-- A latch that workers share, with the pass of one of them, as a floor sees it.
use Rattle.std.specs.Prelude.{◌≡◌, ℕ, ◌≤◌, [], ◌∷◌, drop, length, Some}
use Rattle.std.specs.Arc.{arc_value}
use Rattle.cqs_latch_object.specs.declared.entries.LatchEntry.{LatchEntry}
use Rattle.cqs_plan.specs.Floor.{IsLatch, size_of}
use Rattle.cqs_plan.specs.FloorHistory.{of_latch}
use Rattle.cqs_rule_laws.specs.CallRule.{IsReady}
use Rattle.cqs_latch.specs.Calls.{IsMine}
use Rattle.cqs_rule_laws.specs.declared.config.CancelMode.TheVariants.{Smart}
use Rattle.cqs_rule_laws.specs.declared.view.View.{View}
use Rattle.cqs_rule_laws.specs.Lists.{IsDistinct}
use Rattle.cqs_rule.specs.Passes.{pass_view}
use Rattle.cqs_floor_shared_any.specs.declared.kinds.latch.SharedLatch.{SharedLatch}
use Rattle.cqs_floor_shared_kinds.specs.Families.{queue_name}
use Rattle.cqs_floor_shared_any.specs.LatchAccounts.{IsAccounted}
use Rattle.cqs_floor_shared_kinds.specs.Runs.{WaitsAt}
use Rattle.cqs_floor_shared_kinds.specs.Shares.{Funds, Share}

-- What a pass is between two calls of a floor: it owes nothing, its own number is the first of its
-- numbers, of which none comes twice, and they counted the latch down so often and came to no waits
-- but those that it has and those that are over.
pub record IsResting {T : Type 0} (v : View LatchEntry T) (size counted waiting : ℕ) : Type 0 where
  pub size_is : v.opening.size ≡ size
  pub smart : v.opening.mode ≡ Smart
  pub ready : IsReady v.facts
  pub numbers : v.own ≡ v.number ∷ drop 1 v.own
  pub distinct : IsDistinct v.own
  pub waits_are : length v.facts.waits ≡ waiting
  pub account : IsAccounted v.own v.facts.waits v.seen counted

-- It is a latch, and the pass is its own. Nothing of a latch is held, and no wait of one is told
-- that came with its number: who finds it open passes.
pub record IsFunded (x : SharedLatch) (a : Funds) : Type 0 where
  pub sort : IsLatch (Some a.kind)
  pub few : size_of (Some a.kind) ≤ 1048576
  pub none_came : a.came ≡ 0
  pub mine : IsMine (arc_value x.latch) x.pass
  pub rests : IsResting (pass_view x.pass) (size_of (Some a.kind)) x.downs a.waiting

abbrev pub share_latch : Share SharedLatch
share_latch = record {
  seen = λ x. of_latch (pass_view x.pass).seen;
  number = λ x. (pass_view x.pass).number;
  met = λ x. drop 1 (pass_view x.pass).own;
  passes = λ x. (pass_view x.pass).passes;
  limit = λ x. (pass_view x.pass).limit;
  parties = λ x. [];
  family = λ x. queue_name x.pass ∷ [];
  funded = IsFunded;
  has = λ x round wait. (round ≡ 0) × WaitsAt (pass_view x.pass) wait;
}
