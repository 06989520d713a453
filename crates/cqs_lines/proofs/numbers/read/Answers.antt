use Rattle.std.proofs.Common.{rules, ◌≡◌, decimal}
use Rattle.std.proofs.lemmas.Fmt.{parse-decimal}
use Rattle.cqs_lines.proofs.numbers.read.Goals as goal

pub returns-else-eq : goal.returns-else-eq
returns-else-eq c = λ n low is.
    let read = parse-decimal 64 n c.args.text.now _ low low is c.parse.ensures.value.0 in
    let text : c.format.result.now ≡ c.args.text.now = cc is in
    search rules

pub returns-in-Err : goal.returns-in-Err
returns-in-Err c = λ n low is. absurd (cc (parse-decimal 64 n c.args.text.now _ low low is c.parse.ensures.value.0))
