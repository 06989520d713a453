-- What a search for a cell answers, and what it leaves of the pass that looked.
use Rattle.std.specs.Prelude.{◌≡◌, ℕ, ◌*◌, ◌/◌, ◌<◌, ◌≤◌, Bool, true, false, List, [], ◌++◌, length}
use Rattle.cqs_rule_laws.specs.declared.client.ClientWords.{Ghosts}
use Rattle.cqs_rule.specs.declared.queue.Pass.{Pass}
use Rattle.cqs_rule_laws.specs.declared.view.Facts.{Facts}
use Rattle.cqs_rule_laws.specs.declared.view.Sighting.{Sighting}
use Rattle.cqs_rule_laws.specs.declared.view.Spare.{Spare}
use Rattle.cqs_rule_laws.specs.declared.view.View.{View}
use Rattle.cqs_rule_laws.specs.Ample.{IsAmple}
use Rattle.cqs_rule_laws.specs.Lists.{Has}
use Rattle.cqs_rule_laws.specs.Object.{Object}
use Rattle.cqs_rule.specs.Passes.{pass_view}
use Rattle.cqs_segment.specs.declared.walk.Found as segment
use Rattle.cqs_segment.specs.declared.walk.Found.TheVariants as segment_is
use Rattle.cqs_segment.specs.Finds as segments
use Rattle.cqs_rule_laws.specs.Placed.{KnowsPlace}
use Rattle.cqs_rule_laws.specs.Saw.{Saw}
use Rattle.cqs_rule_laws.specs.SegmentSteps.{OwnStand}
pub use Rattle.cqs_segment.specs.Slots.{FoundTaken}
use Rattle.cqs_find.specs.declared.found.Found.{Found}
use Rattle.cqs_find.specs.declared.found.Found.TheVariants.{At, Over}

-- a segment that is made was looked for
abbrev pub FindsMade : {E S : Type 0} → ℕ → segment.Found → View E S → Type 0
FindsMade s (segment_is.At x) w = segments.Finds s (segment_is.At x) w
FindsMade s (segment_is.Over next) w = segments.Finds s (segment_is.Over next) w
FindsMade s segment_is.Far w = ⊥

module _ {E S : Type 0} where
  -- The segment of the number k was taken out, and so were all before that of `next`, which is
  -- made: all cells from k to below `next` are settled. So k is none of the numbers that the pass
  -- works or waits at and isn't to pass over.
  pub record IsTakenOut (k next : ℕ) (v : View E S) : Type 0 where
    pub segment : ℕ
    pub next_is : next ≡ 32 * segment
    pub after : k / 32 < segment
    pub made : segment < length v.segments.homes
    pub out : segments.HaveLeft (k / 32) segment v
    pub own : OwnStand v v

  -- where the segment was taken out: the head of that of `next` was found live at a step of this
  -- call, or the pass knew of no later one before
  abbrev pub SeesAhead : Found → View E S → View E S → Type 0
  SeesAhead (At place) v w = Unit {0}
  SeesAhead (Over next) v w = segments.SeesAhead (segment_is.Over (next / 32)) v w

  -- The cell of this number stands at the place, as the pass knows now; or its segment was taken
  -- out.
  abbrev pub Finds : ℕ → View E S → Found → Type 0
  Finds index v (At place) =
      (place.index ≡ index) × KnowsPlace v place × (Has (index / 32) v.segments.outs → ⊥)
  Finds index v (Over next) = IsTakenOut index next v

  -- the same where the pass may have kept the place, and its segment may have been taken out since
  abbrev pub Locates : ℕ → View E S → Found → Type 0
  Locates index v (At place) = (place.index ≡ index) × KnowsPlace v place
  Locates index v (Over next) = IsTakenOut index next v

  -- The number's segment isn't made, the pass has no slot spare for it, and each slot was seen not
  -- free at a step of the call. So the table isn't ample.
  pub record IsCrowded (k : ℕ) (v w : View E S) : Type 0 where
    pub spareless : v.facts.spare_slots ≡ []
    pub none_left : w.facts.spare_slots ≡ []
    pub far : length v.segments.homes ≤ k / 32
    pub scarce : IsAmple v → ⊥
    pub heads : List (ℕ × ℕ)
    pub found : w.facts.heads ≡ v.facts.heads ++ heads
    pub taken : (x : ℕ) → x < v.slots → FoundTaken x heads

-- how many heads a search may find on its way: no table has more slots
abbrev pub longest_search : ℕ
longest_search = 65536

-- a pass at these facts that found these words besides, and these slots with their heads, and has
-- these slots spare
abbrev pub facts_searched : List Sighting → List (ℕ × ℕ) → List Spare → Facts → Facts
facts_searched found heads spares f =
    record f { spare_slots = spares; heads = f.heads ++ heads; found = f.found ++ found }

-- A search for the cell of the number k found these heads, and left these slots spare. It claimed a
-- slot, or made a segment, only where the pass knew of no segment of the number.
pub record IsSearch {E S : Type 0} (k : ℕ) (v : View E S) (heads : List (ℕ × ℕ))
    (spares : List Spare) : Type 0 where
  pub far : Bool
  pub is_far : far ≡ true → length v.segments.homes ≤ k / 32
  pub few : far ≡ false → length heads ≤ longest_search
  pub kept : far ≡ false → spares ≡ v.facts.spare_slots

module _ {E S : Type 0} (object : Object E) where
  -- A pass looked for the cell of the number k, by steps that show no event, and is at what it was
  -- at.
  pub record Searched (k : ℕ) (v w : View E S) : Type 0 where
    pub heads : List (ℕ × ℕ)
    pub spares : List Spare
    pub search : IsSearch k v heads spares
    pub saw : Saw object v (facts_searched [] heads spares v.facts) [] w

-- the segment ahead is that of the number
abbrev pub IsSameAhead : segment.Found → Found → Type 0
IsSameAhead (segment_is.At x) (At place) = Unit {0}
IsSameAhead (segment_is.At x) (Over next) = ⊥
IsSameAhead (segment_is.Over s) (At place) = ⊥
IsSameAhead (segment_is.Over s) (Over next) = next / 32 ≡ s
IsSameAhead segment_is.Far found = ⊥

module _ {C S E : Type 0} {g : Ghosts C S E} where
  abbrev pub HasSearched : ℕ → Pass C S E g → Pass C S E g → Type 0
  HasSearched k p p' = Searched g.object k (pass_view p) (pass_view p')
