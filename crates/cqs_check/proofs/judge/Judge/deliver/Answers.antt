use Rattle.std.proofs.Common.{arith, refl}
use Rattle.cqs_check.proofs.Judgments.{among-there, among-some, some-in_line, deliver-judged, deliver-refused}
use Rattle.cqs_check.proofs.judge.Judge.deliver.Goals as goal

pub take_out-requires-clause-stands : goal.take_out-requires-clause-stands
take_out-requires-clause-stands c =
    let there = among-there c.args.self.now.table _ _ _ c.in-Some.ensures in rw there refl

pub returns-in-Some : goal.returns-in-Some
returns-in-Some c =
    let there = among-there c.args.self.now.table _ _ _ c.in-Some.ensures in
    let way = among-some c.args.self.now.table _ _ _ c.in-Some.ensures in
    let line = some-in_line c.args.self.now _ _ c.requires there in
    deliver-judged c.args.self.now _ c.args.wait c.in-Some.caller c.requires c.in-Some.ensures c.take_out.ensures
    refl (omega (arith, way)) refl (omega (arith, line)) refl refl

pub returns-in-None : goal.returns-in-None
returns-in-None c = deliver-refused c.args.self.now c.args.self.now c.args.wait c.in-None.ensures
