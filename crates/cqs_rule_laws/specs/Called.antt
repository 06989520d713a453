-- What a whole call leaves of what its pass has seen: read off its steps, one after the other.
use Rattle.std.specs.Prelude.{◌≡◌, ℕ, true, List, ◌++◌}
use Rattle.cqs_rule_laws.specs.declared.view.View.{View}
use Rattle.cqs_rule_laws.specs.Lists.{Has, IsPrefix, part}
use Rattle.cqs_rule_laws.specs.Object.{Object}
use Rattle.cqs_rule_laws.specs.Slots.{LaysNone}
use Rattle.cqs_rule_laws.specs.Views.{IsSame}

module _ {E S : Type 0} (object : Object E) where
  -- The call rule. What the pass had seen is a prefix of what it has seen now. In the new part
  -- the entries that name the pass, or one met into it, are those of `entries` that do; what the
  -- last step appended is last. A pass that was alone has seen just its own entries.
  pub record Called (v : View E S) (entries last : List E) (w : View E S) : Type 0 where
    pub more : List E
    pub seen : w.seen ≡ v.seen ++ more
    pub mine : (n : ℕ) → Has n v.own → part object.names n more ≡ part object.names n entries
    pub before : List E
    pub since : IsPrefix v.seen before
    pub ends : w.seen ≡ before ++ last
    pub same : IsSame v w
    pub handed : IsPrefix v.handed w.handed
    pub unlaid : LaysNone v.laid w.laid
    pub sole : v.alone ≡ true → more ≡ entries
