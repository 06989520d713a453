-- What is added to a word, by the machine and by the law of a client.
use Rattle.std.proofs.Common.{◌≡◌, ℤ, pos, negsuc, refl, w64}
use Rattle.std.specs.Int.{cast_unsigned}
use Rattle.cqs_rule_laws.specs.Events.{raise}

pub raised : (by : ℤ) → cast_unsigned w64 by ≡ raise by
raised (pos k) = refl
raised (negsuc k) = refl
