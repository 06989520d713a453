-- How much each pass holds, as a list by the passes' numbers.
use Rattle.std.specs.Prelude.{ℕ, map, List}
use Rattle.cqs_rule_laws.specs.declared.view.Has.{Has}

abbrev pub held_of : List Has → List ℕ
held_of l = map (λ (h : Has). h.held) l
