use Rattle.std.proofs.Common.{[], subst, arith}
use Rattle.cqs_segment.specs.Walks.{Left}
use Rattle.cqs_segment.proofs.Walks.{looked-none}
use Rattle.cqs_rule.specs.Passes.{pass_view}
use Rattle.cqs_rule.specs.Segments.{spares_of}
use Rattle.cqs_rule.proofs.Segments.{given-then, fewer-spares, none-spare}
use Rattle.cqs_rule.proofs.queue.Queue.give_all_back.Goals as goal

pub loop-pass-init : goal.loop-pass-init
loop-pass-init g c = (c.requires.belongs, ([], looked-none (pass_view c.args.pass.now)))

pub loop-pass-preserved : goal.loop-pass-preserved
loop-pass-preserved g c = (
  c.give_back.ensures.belongs,
  given-then (pass_view c.args.pass.now) (pass_view c.loop-pass.pass) (pass_view c.give_back.new.pass)
      (pass_view c.args.pass.now).facts.duties c.loop-pass.invariant.1 c.give_back.ensures.given,
)

pub loop-pass-smaller : goal.loop-pass-smaller
loop-pass-smaller g c =
    let some = c.loop-pass-test.true in
    let many = c.spares.ensures in
    fewer-spares (pass_view c.loop-pass.pass) (pass_view c.give_back.new.pass) (omega arith) c.give_back.ensures.given

pub returns-clause-given : goal.returns-clause-given
returns-clause-given g c =
    let none = c.loop-pass-test.false in
    let many = c.spares.ensures in
    subst (λ l. Left l (pass_view c.args.pass.now).facts.duties (pass_view c.args.pass.now)
    (pass_view c.loop-pass.pass))
    (none-spare (spares_of c.loop-pass.pass) (omega arith)) c.loop-pass.invariant.1
