-- The numbers of a pass are those of cells, its waits are few, each wait stands there once, and a
-- payload fits a cell. In an ample table each cell has a segment.
use Rattle.std.specs.Prelude.{◌≡◌, ℕ, ◌+◌, ◌*◌, ◌<◌, ◌≤◌, ◌^◌, length}
use Rattle.cqs_rule_laws.specs.declared.view.View.{View}
use Rattle.cqs_rule_laws.specs.Ample.{IsAmple}
use Rattle.cqs_rule_laws.specs.Configured.{longest_line}
use Rattle.cqs_rule_laws.specs.Lists.{Has, without}
use Rattle.cqs_rule_laws.specs.Ruled.{number_at}

-- the number at which it works, those of its waits, and the payload that it owes if it owes
pub record IsInside {E S : Type 0} (v : View E S) : Type 0 where
  pub number : number_at v.facts.doing < v.cells
  pub waits : (k : ℕ) → Has k v.facts.waits → k < v.cells
  pub once : (k : ℕ) → Has k v.facts.waits
      → length (without k v.facts.waits) + 1 ≡ length v.facts.waits
  pub few : length v.facts.waits < longest_line
  pub payload : v.facts.has.payload < 2 ^ 20
  pub made : IsAmple v → v.cells ≤ 32 * length v.segments.homes
