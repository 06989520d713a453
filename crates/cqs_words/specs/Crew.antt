-- How the passes that were made, and those that are live, are counted in one number.
use Rattle.std.specs.Prelude.{ℕ, ◌+◌, ◌*◌, ◌/◌, ◌%◌, ◌^◌, ◌<◌}
use Rattle.cqs_words.specs.declared.crew.CrewWord.{CrewWord}

-- the number of a crew: 32 bits of passes made, 32 bits of passes live
abbrev pub crew_word : ℕ → ℕ → ℕ
crew_word made live = made * 2 ^ 32 + live

-- the counts fit their bits
pub record CrewFits (w : CrewWord) : Type 0 where
  pub made : w.made < 2 ^ 32
  pub live : w.live < 2 ^ 32

-- the number that stands for a crew
abbrev pub packed_crew : CrewWord → ℕ
packed_crew w = crew_word w.made w.live

-- the passes made and the passes live, by the number that stands for the crew
abbrev pub made_in : ℕ → ℕ
made_in n = n / 2 ^ 32

abbrev pub live_in : ℕ → ℕ
live_in n = n % 2 ^ 32

-- the crew that a number is the packing of
abbrev pub unpacked_crew : ℕ → CrewWord
unpacked_crew n = record { made = made_in n; live = live_in n }
