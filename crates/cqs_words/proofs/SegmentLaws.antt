-- The laws of the words that name a segment and its slot.
use Rattle.std.proofs.Common.{◌≡◌, ℕ, ◌^◌, ◌<◌, Some, arith, rules}
use Rattle.cqs_words.specs.declared.segment.TailWord.{TailWord}
use Rattle.cqs_words.specs.declared.segment.LinkWord.{LinkWord}
use Rattle.cqs_words.specs.Packing.{IsPacking}
use Rattle.cqs_words.specs.Segment.{segment_word, TailFits, packed_tail, unpacked_tail, LinkFits, packed_link, unpacked_link}
use Rattle.cqs_words.proofs.PackingLaws.{number_of-injective}

-- such words are equal exactly where their parts are
pub segment_word-injective : (i j s t : ℕ) → s < 2 ^ 16 → t < 2 ^ 16
    → segment_word i s ≡ segment_word j t → (i ≡ j) × (s ≡ t)
segment_word-injective i j s t s_fits t_fits same = (omega arith, omega arith)

pub packed_tail-below : (w : TailWord) → TailFits w → packed_tail w < 2 ^ 52
packed_tail-below w fits = omega arith

pub unpacked_tail-packed_tail : (w : TailWord) → TailFits w → unpacked_tail (packed_tail w) ≡ Some w
unpacked_tail-packed_tail w fits = search rules

pub IsPacking-unpacked_tail : (n : ℕ) (w : TailWord)
    → unpacked_tail n ≡ Some w → IsPacking TailFits packed_tail n w
IsPacking-unpacked_tail n w is = search rules

pub packed_tail-injective : (v w : TailWord) → TailFits v → TailFits w
    → packed_tail v ≡ packed_tail w → v ≡ w
packed_tail-injective = number_of-injective TailFits packed_tail unpacked_tail unpacked_tail-packed_tail

pub packed_link-below : (w : LinkWord) → LinkFits w → packed_link w < 2 ^ 52
packed_link-below w fits = omega arith

pub unpacked_link-packed_link : (w : LinkWord) → LinkFits w → unpacked_link (packed_link w) ≡ Some w
unpacked_link-packed_link w fits = search rules

pub IsPacking-unpacked_link : (n : ℕ) (w : LinkWord)
    → unpacked_link n ≡ Some w → IsPacking LinkFits packed_link n w
IsPacking-unpacked_link n w is = search rules

pub packed_link-injective : (v w : LinkWord) → LinkFits v → LinkFits w
    → packed_link v ≡ packed_link w → v ≡ w
packed_link-injective = number_of-injective LinkFits packed_link unpacked_link unpacked_link-packed_link
