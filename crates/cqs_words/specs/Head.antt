-- How the head of a slot is written in one number.
use Rattle.std.specs.Prelude.{ℕ, ◌+◌, ◌*◌, ◌/◌, ◌%◌, ◌^◌, ◌<◌, List, [], ◌∷◌, Option, None, slice_get, nat_lt, if◌then◌else◌}
use Rattle.std.specs.Option.{option_map}
use Rattle.cqs_words.specs.declared.head.HeadTag.{HeadTag}
use Rattle.cqs_words.specs.declared.head.HeadTag.TheVariants.{Free, Claimed, Live}
use Rattle.cqs_words.specs.declared.head.HeadWord.{HeadWord}

-- the code of a tag
abbrev pub tag_code : HeadTag → ℕ
tag_code Free = 0
tag_code Claimed = 1
tag_code Live = 2

-- the tags in the order of their codes
abbrev pub tags : List HeadTag
tags = Free ∷ Claimed ∷ Live ∷ []

-- the tag with this code, if there is one
abbrev pub tag_of : ℕ → Option HeadTag
tag_of code = slice_get tags code

-- the number of a head: 36 bits of id, 2 bits of tag
abbrev pub head_word : ℕ → ℕ → ℕ
head_word id code = id * 2 ^ 2 + code

-- the id fits its bits
pub record HeadFits (w : HeadWord) : Type 0 where
  pub id : w.id < 2 ^ 36

-- the number that stands for a head
abbrev pub packed_head : HeadWord → ℕ
packed_head w = head_word w.id (tag_code w.tag)

-- the head with this tag whose id the number holds
abbrev pub head_in : ℕ → HeadTag → HeadWord
head_in n tag = record { id = n / 2 ^ 2; tag = tag }

-- the head that a number is the packing of, if there is one
abbrev pub unpacked_head : ℕ → Option HeadWord
unpacked_head n = if nat_lt n (2 ^ 38) then option_map (head_in n) (tag_of (n % 2 ^ 2)) else None
