use Rattle.std.proofs.Common.{inl, refl, arith}
use Rattle.cqs_segment.proofs.gaps.lower.Goals as goal

pub returns-in_default-3 : goal.returns-in_default-3
returns-in_default-3 c =
    let small = c.requires.small in
    let other = c.in_default.ensures.other in record {
      lower = record {
        named = inl refl;
        within = λ j above. above;
        none = λ j low above is. other j (omega arith) is;
      };
    }
