-- The laws of the crew's word.
use Rattle.std.proofs.Common.{◌≡◌, ℕ, ◌+◌, ◌^◌, ◌<◌, sym, ap, ◌∙◌, arith}
use Rattle.cqs_words.specs.declared.crew.CrewWord.{CrewWord}
use Rattle.cqs_words.specs.Packing.{IsPacking}
use Rattle.cqs_words.specs.Crew.{crew_word, made_in, live_in, CrewFits, packed_crew, unpacked_crew}

-- where the passes that are live fit their bits, each count is found in its place
module _ (made live : ℕ) (fits : live < 2 ^ 32) where
  pub made_in-crew_word : made_in (crew_word made live) ≡ made
  made_in-crew_word = omega arith

  pub live_in-crew_word : live_in (crew_word made live) ≡ live
  live_in-crew_word = omega arith

pub packed_crew-below : (w : CrewWord) → CrewFits w → packed_crew w < 2 ^ 64
packed_crew-below w fits = let made = fits.made in let live = fits.live in omega arith

pub unpacked_crew-packed_crew : (w : CrewWord) → CrewFits w → unpacked_crew (packed_crew w) ≡ w
unpacked_crew-packed_crew w fits = λ i. record {
  made = made_in-crew_word w.made w.live fits.live i;
  live = live_in-crew_word w.made w.live fits.live i;
}

-- each number of 64 bits is the packing of a crew
pub IsPacking-unpacked_crew : (n : ℕ) → n < 2 ^ 64 → IsPacking CrewFits packed_crew n (unpacked_crew n)
IsPacking-unpacked_crew n below = record {
  fits = record { made = omega arith; live = omega arith };
  number = omega arith;
}

-- crews with one number are one crew
pub packed_crew-injective : (v w : CrewWord) → CrewFits v → CrewFits w → packed_crew v ≡ packed_crew w → v ≡ w
packed_crew-injective v w v_fits w_fits same =
    sym (unpacked_crew-packed_crew v v_fits) ∙ ap unpacked_crew same ∙ unpacked_crew-packed_crew w w_fits

-- one more made and live is one more of each, where there is room for it
pub crew_word-more : (made live : ℕ) → crew_word made live + crew_word 1 1 ≡ crew_word (made + 1) (live + 1)
crew_word-more made live = omega arith
