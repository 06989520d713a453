-- Which segments are to leave: one whose cells are all counted is the last, or has left, or a pass
-- is to retire it.
use Rattle.std.specs.Prelude.{◌≡◌, ◌⊎◌, ℕ, ◌<◌, List}
use mathlib.Core.Option.{some}
use lib.ListN.{get_elem?}
use Rattle.cqs_slots.specs.Slots.{Segments}
use Rattle.cqs_rule_laws.specs.declared.view.View.{View}
use Rattle.cqs_rule_laws.specs.Lists.{Has}

-- one of these passes is to retire the segment s
pub record HasRetirer {E S : Type 0} (views : List (View E S)) (s : ℕ) : Type 0 where
  pub place : ℕ
  pub view : View E S
  pub there : get_elem? views place ≡ some view
  pub has : Has s view.facts.to_retire

-- Each segment before the last whose cells are all counted has left, or one of these passes is to
-- retire it.
pub record AreToLeave {E S : Type 0} (t : Segments) (views : List (View E S)) : Type 0 where
  pub leave : (s : ℕ) → t.counted s ≡ 32 → s < t.tail → Has s t.outs ⊎ HasRetirer views s
