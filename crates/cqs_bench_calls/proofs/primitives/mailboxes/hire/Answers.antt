use Rattle.std.proofs.Common.{All, subst, sym}
use Rattle.std.proofs.lemmas.List.Elements.{All-push}
use Rattle.cqs_mailbox.specs.Callers.{IsAtRest}
use Rattle.cqs_bench_calls.proofs.primitives.mailboxes.hire.Goals as goal

-- one more, which is at rest too
pub loop-preserved : goal.loop-preserved
loop-preserved c =
    let rest = IsAtRest c.args.mailbox.now in (
      c.hire_one.ensures.desk,
      subst (All rest) (sym c.in_ok-push-2.ensures.items)
          (All-push rest c.loop.posts.items c.in_ok-hire_one.field-0 c.loop.invariant.1 c.in_ok-hire_one.ensures.rest),
    )
