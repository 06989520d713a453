-- The end of what the last party of a round owes, for a pass that is alone: all who wait are
-- served, in order.
use Rattle.std.specs.Prelude.{◌≡◌, [], ◌++◌}
use Rattle.cqs_barrier_object.specs.declared.entries.BarrierEntry.{BarrierEntry}
use Rattle.cqs_barrier_object.specs.SoleCaller.{delivers}
use Rattle.cqs_rule_laws.specs.declared.view.View.{View}
use Rattle.cqs_rule_laws.specs.Views.{IsSame}
use Rattle.cqs_barrier.specs.Calls.{Rests, waiting_in}

pub record ServesAll {T : Type 0} (v w : View BarrierEntry T) : Type 0 where
  pub same : IsSame v w
  pub seen : w.seen ≡ v.seen ++ delivers (waiting_in v)
  pub none : waiting_in w ≡ []
  pub rests : Rests v v.facts.has.held v.facts.waits w
