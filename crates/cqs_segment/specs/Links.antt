-- What the links of slots tell, and what is made of them.
use Rattle.std.specs.Prelude.{◌≡◌, ◌⊎◌, ℕ, ◌<◌, ◌≤◌, Option, Some, None}
use Rattle.cqs_words.specs.declared.segment.LinkWord.{LinkWord}
use Rattle.cqs_words.specs.Head.{head_word}
use Rattle.cqs_words.specs.Segment.{packed_link}
use Rattle.cqs_slots.specs.Slots.{IsHome, IsRaised}
use Rattle.cqs_rule_laws.specs.declared.view.View.{View}
use Rattle.cqs_rule_laws.specs.Lists.{Has}
use Rattle.cqs_rule_laws.specs.SegmentSteps.{LinkLoaded}

-- a segment that was found live is below this number, if one was
abbrev pub IsAbove : ℕ → Option LinkWord → Type 0
IsAbove s None = Unit {0}
IsAbove s (Some below) = below.id < s

-- Of the segments before this one the greatest that is known to stand is `then`, where `before` was
-- and this head of the slot was found.
pub record IsLower (id slot head : ℕ) (before then : Option LinkWord) : Type 0 where
  pub named : (then ≡ before)
      ⊎ ((live : ℕ) × (then ≡ Some (record { id = live; slot = slot }))
      × (head ≡ head_word live 2) × (live < id))
  pub within : (j : ℕ) → IsAbove j then → IsAbove j before
  pub none : (j : ℕ) → j < id → IsAbove j then → head ≡ head_word j 2 → ⊥

-- of those after it the least is
pub record IsUpper (id slot head : ℕ) (before then : LinkWord) : Type 0 where
  pub named : (then ≡ before)
      ⊎ ((live : ℕ) × (then ≡ record { id = live; slot = slot }) × (head ≡ head_word live 2)
      × (id < live))
  pub near : then.id ≤ before.id
  pub none : (j : ℕ) → id < j → j < then.id → head ≡ head_word j 2 → ⊥

module _ {E S : Type 0} where
  -- all segments after this one and before that one were taken out
  abbrev pub HaveLeftBetween : ℕ → ℕ → View E S → Type 0
  HaveLeftBetween s next w = (j : ℕ) → s < j → j < next → Has j w.segments.outs

  -- the pass knows that this segment was made in its slot
  pub record IsPlaced (link : LinkWord) (v : View E S) : Type 0 where
    pub home : IsHome v.segments.homes link.id link.slot
    pub low : link.slot < v.slots

  -- The link of the slot was loaded. It names a segment after this one: all between them were taken
  -- out, unless this one was. Or it names none after this one.
  abbrev pub Links : ℕ → ℕ → Option LinkWord → View E S → View E S → Type 0
  Links slot id (Some link) v w =
      LinkLoaded slot v (packed_link link) w × (id < link.id) × IsPlaced link w
      × ((Has id w.segments.outs → ⊥) → HaveLeftBetween id link.id w)
  Links slot id None v w =
      (link : LinkWord) × LinkLoaded slot v (packed_link link) w × (link.id ≤ id)

  -- A link leads from a segment before this one to one after it, and all between these were taken
  -- out.
  pub record IsPassedBy (s : ℕ) (w : View E S) : Type 0 where
    pub from : LinkWord
    pub to : LinkWord
    pub before : from.id < s
    pub after : s < to.id
    pub from_is : IsPlaced from w
    pub to_is : IsPlaced to w
    pub left : HaveLeftBetween from.id to.id w
    pub raised : IsRaised from.slot (packed_link to) w.segments.links

  -- or there is none before it that wasn't
  abbrev pub IsClosed : ℕ → View E S → Type 0
  IsClosed s w = IsPassedBy s w ⊎ ((j : ℕ) → j < s → Has j w.segments.outs)

  -- The nearest segments on both sides of this one that stand, where some slots were looked at: the
  -- one before it, if any was found, was found live, and the one after it was too, or is the last.
  pub record AreSides (id last : ℕ) (below : Option LinkWord) (above : LinkWord) (v : View E S)
      : Type 0 where
    pub lower : (c : LinkWord) → below ≡ Some c → (c.id < id) × IsPlaced c v
    pub upper : (id < above.id) × (above.id ≤ last) × IsPlaced above v

  -- all others between them were taken out whose home is one of the slots below this one
  abbrev pub HaveLeftWithin : ℕ → ℕ → Option LinkWord → LinkWord → View E S → View E S → Type 0
  HaveLeftWithin end id below above v w =
      (j x : ℕ) → (j ≡ id → ⊥) → IsAbove j below → j < above.id → IsHome v.segments.homes j x
      → x < end → Has j w.segments.outs
