use Rattle.std.proofs.Common.{◌∙◌}
use Rattle.cqs_plan_reader.proofs.DataLists.{has_only-keys}
use Rattle.cqs_plan_reader.proofs.reader.members.has_only.Goals as goal

pub returns : goal.returns
returns c = c.keys_are_among.ensures ∙ has_only-keys c.args.known.now c.args.table.now.entries
