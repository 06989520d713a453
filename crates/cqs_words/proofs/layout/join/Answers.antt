-- The shift loses nothing, and the two parts have no bit in common.
use Rattle.std.proofs.Common.{◌≡◌, ◌*◌, ◌%◌, ◌^◌, arith}
use Rattle.std.proofs.lemmas.Nat.{or_shifted}
use Rattle.cqs_words.proofs.layout.join.Goals as goal

pub returns : goal.returns
returns c =
    let raised : c.args.high * 2 ^ c.args.width % 2 ^ 64 ≡ c.args.high * 2 ^ c.args.width = omega arith in
    rw raised (or_shifted c.args.high c.args.width c.args.low c.requires.below)
