use Rattle.cqs_rule_laws.specs.CallRule.{IsReady}
use Rattle.cqs_rule.specs.Passes.{pass_view}
use Rattle.cqs_pool.specs.Calls.{IsMine}
use Rattle.cqs_mailbox.specs.Spare.{AreSpare}
use Rattle.cqs_mailbox.proofs.opening.rest_all.Given as goal

-- so many passes rest
abbrev pub invariant-loop-post : goal.invariant-loop-post
invariant-loop-post l = record {
  belongs : IsMine l.pool l.line;
  ready : IsReady (pass_view l.line).facts;
  spare : AreSpare l.pool l._post l.made.items;
}
