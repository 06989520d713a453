use Rattle.std.proofs.Common.{◌≡◌}
use Rattle.cqs_core.specs.declared.doings.Doing.TheVariants as doing
use Rattle.cqs_rule.specs.Passes.{pass_view, IsOf}
use Rattle.cqs_rule_laws.specs.Placed.{KnowsPlace}
use Rattle.cqs_resume.proofs.ValueLooks.{Seen}
use Rattle.cqs_resume.proofs.watching.watch_value.Given as goal

abbrev pub invariant-loop-look : goal.invariant-loop-look
invariant-loop-look g l = record {
  belongs : IsOf l.queue l.pass;
  watching : (pass_view l.pass).facts.doing ≡ doing.Watching l.at.index;
  place : KnowsPlace (pass_view l.pass) l.at;
  seen : Seen g.C.ClientWords.object g.C.ClientWords.primitive l.at.index l._look (pass_view l.fn.pass)
      (pass_view l.pass);
}
