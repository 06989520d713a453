-- The segments, beside what is hidden: no client sees them.
use Rattle.std.specs.Prelude.{◌≡◌, ℕ, ◌*◌, ◌<◌, ◌≤◌, length}
use Rattle.cqs_slots.specs.Slots.{Segments}
use Rattle.cqs_slots.specs.Told.{Knows}
use Rattle.cqs_rule_laws.specs.declared.view.View.{View}
use Rattle.cqs_rule_laws.specs.Ample.{IsAmple}

-- What a pass knows of them. In an ample table each number that can be drawn has a segment.
pub record KnowsSegments {E S : Type 0} (slots : ℕ) (t : Segments) (v : View E S) : Type 0 where
  pub seen : Knows t v.segments
  pub slots_are : 0 < v.weight → v.slots ≡ slots
  pub made : IsAmple v → v.cells ≤ 32 * length v.segments.homes
