use Rattle.std.proofs.Common.{rules, ◌≡◌, decimal, subst, sym}
use Rattle.std.specs.Str.{IsUtf8}
use Rattle.std.proofs.lemmas.Fmt.{IsAscii-decimal}
use Rattle.std.proofs.lemmas.Str.{IsUtf8-from_ascii}
use Rattle.cqs_lines.proofs.numbers.number.Goals as goal

pub returns-in-Err : goal.returns-in-Err
returns-in-Err c = λ n low is. c.in-Err.ensures.cases.0
    (subst (λ t. IsUtf8 t) (sym is) (IsUtf8-from_ascii (decimal n) (IsAscii-decimal n low)))
