use Rattle.cqs_rule.specs.Passes.{pass_view}
use Rattle.cqs_find.proofs.Searches.{searched-none}
use Rattle.cqs_find.proofs.placed.locate.Goals as goal

pub returns-in-Some-clause-searched : goal.returns-in-Some-clause-searched
returns-in-Some-clause-searched g c = searched-none g.C.ClientWords.object c.args.index (pass_view c.args.pass.now)
