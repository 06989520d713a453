-- A word that is a number of the range in decimal is read as that number, and written as it was.
use Rattle.std.proofs.Common.{◌≡◌, rules, arith}
use Rattle.cqs_cli.proofs.WordLemmas.{reads}
use Rattle.cqs_cli.proofs.words.read_number.Goals as goal

pub returns-else-eq : goal.returns-else-eq
returns-else-eq c = λ n low high is.
    let read = reads n _ _ _ high c.ranges.most.fits is c.parse.ensures.value.0 in
    let text : c.format.result.now ≡ c.args.word.now = cc is in
    search rules

pub returns-in_default : goal.returns-in_default
returns-in_default c = λ n low high is.
    let read = reads n _ _ _ high c.ranges.most.fits is c.parse.ensures.value.0 in
    let same : c.in-Ok.number ≡ n = cc in
    absurd (omega (arith, same, high, c.if-number-most.false))

pub returns-in_default-2 : goal.returns-in_default-2
returns-in_default-2 c = λ n low high is.
    let read = reads n _ _ _ high c.ranges.most.fits is c.parse.ensures.value.0 in
    let same : c.in-Ok.number ≡ n = cc in
    absurd (omega (arith, same, low, c.if-least-number.false))

pub returns-in_default-3 : goal.returns-in_default-3
returns-in_default-3 c = λ n low high is.
    absurd (cc (reads n _ _ _ high c.ranges.most.fits is c.parse.ensures.value.0))
