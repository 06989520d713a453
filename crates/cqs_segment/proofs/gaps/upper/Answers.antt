use Rattle.std.proofs.Common.{inl, refl, arith}
use Rattle.cqs_segment.proofs.gaps.upper.Goals as goal

pub returns-in_default-3 : goal.returns-in_default-3
returns-in_default-3 c =
    let small = c.requires.small in
    let other = c.in_default.ensures.other in record {
      upper = record {
        named = inl refl;
        near = omega arith;
        none = λ j above low is. other j (omega arith) is;
      };
    }
