-- The end of what a latch's last count down owes, for a pass that is alone: all who wait are
-- served, in order.
use Rattle.std.specs.Prelude.{◌≡◌, [], ◌++◌}
use Rattle.cqs_latch_object.specs.declared.entries.LatchEntry.{LatchEntry}
use Rattle.cqs_rule_laws.specs.declared.view.View.{View}
use Rattle.cqs_rule_laws.specs.Views.{IsSame}
use Rattle.cqs_latch.specs.Alone.{HasServedAll, delivers, waiting_in}
use Rattle.cqs_latch.specs.Calls.{Rests}

pub record ServesAll {T : Type 0} (v w : View LatchEntry T) : Type 0 where
  pub same : IsSame v w
  pub seen : w.seen ≡ v.seen ++ delivers (waiting_in v)
  pub line : waiting_in v ≡ waiting_in v ++ waiting_in w
  pub none : waiting_in w ≡ []
  pub all : HasServedAll w
  pub rests : Rests v.facts.waits w
