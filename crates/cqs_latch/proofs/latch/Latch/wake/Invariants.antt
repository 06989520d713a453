use Rattle.std.proofs.Common.{◌≡◌, ◌+◌, ◌<◌, ◌≤◌, true, List, [], length}
use Rattle.cqs_core.specs.declared.doings.Doing.TheVariants as doing
use Rattle.cqs_rule_laws.specs.declared.config.CancelMode.TheVariants.{Smart, Simple}
use Rattle.cqs_rule.specs.Passes.{pass_view, client_of}
use Rattle.cqs_latch.specs.Alone.{EndsFirst, ServesFirst}
use Rattle.cqs_latch.specs.Calls.{IsMine}
use Rattle.cqs_latch.specs.LatchMade.{mode_of}
use Rattle.cqs_latch.specs.Waking.{Ending, Woke}
use Rattle.cqs_latch.proofs.latch.Latch.wake.Given as goal

abbrev pub invariant-loop-left : goal.invariant-loop-left
invariant-loop-left g l = record {
  belongs : IsMine l.self l.pass;
  idle : (pass_view l.pass).facts.doing ≡ doing.Idle;
  owes : (pass_view l.pass).facts.has.further ≡ l.left;
  payload : 0 < l.left → (pass_view l.pass).facts.has.payload ≡ 0;
  reached : mode_of (client_of l.self.queue) ≡ Smart
      → (pass_view l.fn.pass).facts.reached ≤ (pass_view l.pass).facts.reached;
  in_order : (pass_view l.fn.pass).alone ≡ true → mode_of (client_of l.self.queue) ≡ Smart
      → ServesFirst [] (pass_view l.fn.pass) (pass_view l.pass);
  by_number : (pass_view l.fn.pass).alone ≡ true → mode_of (client_of l.self.queue) ≡ Simple
      → EndsFirst [] (pass_view l.fn.pass) (pass_view l.pass);
  same : (pass_view l.pass).alone ≡ (pass_view l.fn.pass).alone;
  ran : (ends : List Ending) × (length ends + l.left ≡ l.many)
      × Woke ends (pass_view l.fn.pass) (pass_view l.pass);
}

abbrev pub decreases-loop-left : goal.decreases-loop-left
decreases-loop-left g l = l.left
