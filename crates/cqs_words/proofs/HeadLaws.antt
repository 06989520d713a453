-- The laws of a head's word.
use Rattle.std.proofs.Common.{◌≡◌, ℕ, ◌^◌, ◌<◌, Some, refl, arith, rules}
use Rattle.cqs_words.specs.declared.head.HeadTag.{HeadTag}
use Rattle.cqs_words.specs.declared.head.HeadTag.TheVariants.{Free, Claimed, Live}
use Rattle.cqs_words.specs.declared.head.HeadWord.{HeadWord}
use Rattle.cqs_words.specs.Packing.{IsPacking}
use Rattle.cqs_words.specs.Head.{tag_code, tag_of, head_word, HeadFits, packed_head, unpacked_head}
use Rattle.cqs_words.proofs.PackingLaws.{number_of-injective}

-- a tag stands at its code's place
pub tag_of-tag_code : (t : HeadTag) → tag_of (tag_code t) ≡ Some t
tag_of-tag_code Free = refl
tag_of-tag_code Claimed = refl
tag_of-tag_code Live = refl

-- there are three codes
pub tag_code-below : (t : HeadTag) → tag_code t < 3
tag_code-below Free = omega arith
tag_code-below Claimed = omega arith
tag_code-below Live = omega arith

-- heads are equal exactly where their parts are
pub head_word-injective : (i j c d : ℕ) → c < 2 ^ 2 → d < 2 ^ 2
    → head_word i c ≡ head_word j d → (i ≡ j) × (c ≡ d)
head_word-injective i j c d c_fits d_fits same = (omega arith, omega arith)

pub packed_head-below : (w : HeadWord) → HeadFits w → packed_head w < 2 ^ 38
packed_head-below w fits = omega (arith, tag_code-below w.tag)

pub unpacked_head-packed_head : (w : HeadWord) → HeadFits w → unpacked_head (packed_head w) ≡ Some w
unpacked_head-packed_head w fits = search rules

pub IsPacking-unpacked_head : (n : ℕ) (w : HeadWord)
    → unpacked_head n ≡ Some w → IsPacking HeadFits packed_head n w
IsPacking-unpacked_head n w is = search rules

pub packed_head-injective : (v w : HeadWord) → HeadFits v → HeadFits w
    → packed_head v ≡ packed_head w → v ≡ w
packed_head-injective = number_of-injective HeadFits packed_head unpacked_head unpacked_head-packed_head
