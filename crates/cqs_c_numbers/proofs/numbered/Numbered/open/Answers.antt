use Rattle.std.proofs.Common.{refl, ⊎_elim}
use Rattle.cqs_c_numbers.proofs.numbered.Numbered.open.Goals as goal

pub returns-in-Made-clause-opened : goal.returns-in-Made-clause-opened
returns-in-Made-clause-opened c = record {
  primitive_is = refl;
  numbers = refl;
  room = refl;
  laid = ⊎_elim (λ seated. seated.2) (λ crowded. absurd (cc)) c.in-Made.ensures;
}
