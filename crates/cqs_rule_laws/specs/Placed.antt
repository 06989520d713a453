-- Where the cell of a number stands, as a pass knows it.
use Rattle.std.specs.Prelude.{◌≡◌, ℕ, ◌-◌, ◌/◌, ◌%◌, ◌<◌, ◌^◌}
use Rattle.cqs_slots.specs.Layout.{slot_cell}
use Rattle.cqs_slots.specs.Slots.{IsHome}
use Rattle.cqs_slots.specs.Told.{SeesMore}
use Rattle.cqs_rule_laws.specs.declared.config.Place.{Place}
use Rattle.cqs_rule_laws.specs.declared.view.View.{View}

-- the slot whose first cell stands at this word
abbrev pub slot_at : ℕ → ℕ
slot_at word = (word - 144) / 48

-- the word with this number, as the place of the cell k
abbrev pub place_at : ℕ → ℕ → Place
place_at word k = record { word = word; index = k }

module _ {E S : Type 0} where
  -- The pass knows that the segment of the place's number was made in a slot, and that this word of
  -- the slot is the one of the number's cell. What it knows it goes on knowing, also when the
  -- segment has left.
  pub record KnowsPlace (v : View E S) (at : Place) : Type 0 where
    slot : ℕ
    home : IsHome v.segments.homes (at.index / 32) slot
    low : slot < v.slots
    word : at.word ≡ slot_cell slot (at.index % 32)

  -- these alone open and make it
  pub place_slot : (v : View E S) (at : Place) → KnowsPlace v at → ℕ
  place_slot v at k = k.slot

  pub place_word : (v : View E S) (at : Place) (k : KnowsPlace v at)
      → (slot : ℕ) × IsHome v.segments.homes (at.index / 32) slot × (slot < v.slots)
      × (at.word ≡ slot_cell slot (at.index % 32))
  place_word v at k = (k.slot, k.home, k.low, k.word)

  pub place_known : (v : View E S) (at : Place) (slot : ℕ)
      → IsHome v.segments.homes (at.index / 32) slot
      → slot < v.slots → at.word ≡ slot_cell slot (at.index % 32) → KnowsPlace v at
  place_known v at slot home low e = record { slot = slot; home = home; low = low; word = e }

  -- The first cell of this segment stands at this word, as the pass knows.
  pub record KnowsFirst (v : View E S) (segment word : ℕ) : Type 0 where
    pub is_first : word ≡ slot_cell (slot_at word) 0
    pub fits : word < 2 ^ 31
    pub low : slot_at word < v.slots
    pub made : IsHome v.segments.homes segment (slot_at word)

  -- The pass of v went on to w: it has its number, stands in the same queue, and knows of the
  -- segments what it knew.
  pub record GoesOn (v w : View E S) : Type 0 where
    pub number : w.number ≡ v.number
    pub cells : w.cells ≡ v.cells
    pub slots : w.slots ≡ v.slots
    pub segments : SeesMore v.segments w.segments
