-- How a segment and its slot are written in one number, in the tail and in a link.
use Rattle.std.specs.Prelude.{ℕ, ◌+◌, ◌*◌, ◌/◌, ◌%◌, ◌^◌, ◌<◌, Option, Some, None, nat_lt, if◌then◌else◌}
use Rattle.cqs_words.specs.declared.segment.TailWord.{TailWord}
use Rattle.cqs_words.specs.declared.segment.LinkWord.{LinkWord}

-- the number of a segment in a slot: 36 bits of id, 16 bits of slot
abbrev pub segment_word : ℕ → ℕ → ℕ
segment_word id slot = id * 2 ^ 16 + slot

-- the parts of a tail fit their bits
pub record TailFits (w : TailWord) : Type 0 where
  pub id : w.id < 2 ^ 36
  pub slot : w.slot < 2 ^ 16

-- the number that stands for a tail
abbrev pub packed_tail : TailWord → ℕ
packed_tail w = segment_word w.id w.slot

-- the tail that a number is the packing of, if there is one
abbrev pub unpacked_tail : ℕ → Option TailWord
unpacked_tail n =
    if nat_lt n (2 ^ 52) then Some (record { id = n / 2 ^ 16; slot = n % 2 ^ 16 }) else None

-- the parts of a link fit their bits
pub record LinkFits (w : LinkWord) : Type 0 where
  pub id : w.id < 2 ^ 36
  pub slot : w.slot < 2 ^ 16

-- the number that stands for a link
abbrev pub packed_link : LinkWord → ℕ
packed_link w = segment_word w.id w.slot

-- the link that a number is the packing of, if there is one
abbrev pub unpacked_link : ℕ → Option LinkWord
unpacked_link n =
    if nat_lt n (2 ^ 52) then Some (record { id = n / 2 ^ 16; slot = n % 2 ^ 16 }) else None
