use Rattle.cqs_rule.specs.Passes.{pass_view}
use Rattle.cqs_limiter_tenant.proofs.Sends.{sends-last, sends-on}
use Rattle.cqs_limiter_tenant.proofs.sending.send.Goals as goal

pub returns-in-Sent-clause-same : goal.returns-in-Sent-clause-same
returns-in-Sent-clause-same c =
    let sending = c.loop-number.invariant.sending in
    (sends-last 1 (pass_view c.args.pass.now) (pass_view c.loop-number.pass) (pass_view c.finish.new.pass)
    c.loop-number.under sending c.in-Sent.number c.in-Sent.ensures.called c.in-Sent.ensures.ends
    (c.in-Sent.ensures.alone sending.alone sending.ways)).same

pub loop-number-preserved : goal.loop-number-preserved
loop-number-preserved c = record {
  mine = c.finish.ensures.belongs;
  sending = sends-on 1 (pass_view c.args.pass.now) (pass_view c.loop-number.pass) (pass_view c.finish.new.pass)
      c.loop-number.under c.loop-number.invariant.sending c.in-Under.next c.in-Under.ensures.called
      c.in-Under.ensures.ends;
  reached = c.reached-reached-in-Under.ensures;
}
