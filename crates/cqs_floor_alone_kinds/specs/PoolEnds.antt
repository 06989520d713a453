-- What becomes of an element that the only caller of a pool puts back: it goes to the first of the
-- line, or is free where nobody waits; in one call, or in several.
use Rattle.std.specs.Prelude.{◌≡◌, ℕ, List, [], ◌∷◌, ◌++◌, Option, Some, None}
use Rattle.cqs_pool_object.specs.declared.entries.PoolEntry.{PoolEntry}
use Rattle.cqs_pool_object.specs.declared.entries.PoolEntry.TheVariants as entry
use Rattle.cqs_pool.specs.Alone.{IsFirstOf}
use Rattle.cqs_pool.specs.Calls.{Rests, plain_after}
use Rattle.cqs_rule_laws.specs.declared.view.View.{View}
use Rattle.cqs_rule_laws.specs.Lists.{without}
use Rattle.cqs_rule_laws.specs.Views.{IsSame}

-- the delivery of an element, where it was sent to a wait
abbrev pub sent_entries : ℕ → Option ℕ → List PoolEntry
sent_entries e None = []
sent_entries e (Some k) = entry.Deliver k e ∷ []

module _ {T : Type 0} where
  -- nobody waits; or this is the first who does
  abbrev pub GoesTo : Option ℕ → View PoolEntry T → Type 0
  GoesTo None v = (plain_after v).line ≡ []
  GoesTo (Some k) v = IsFirstOf (plain_after v).line k

  -- A resumption of this element ended so, and the pass has in hand what it had.
  pub record HasEnded (e : ℕ) (sent : Option ℕ) (v w : View PoolEntry T) : Type 0 where
    pub goes : GoesTo sent v
    pub seen : w.seen ≡ v.seen ++ sent_entries e sent
    pub same : IsSame v w
    pub rests : Rests v v.facts.has.slots v.facts.waits w

  -- The element was put, and its resumption ended so.
  pub record HasPlaced (e : ℕ) (sent : Option ℕ) (v w : View PoolEntry T) : Type 0 where
    pub goes : GoesTo sent v
    pub seen : w.seen ≡ v.seen ++ (entry.Put v.number e ∷ sent_entries e sent)
    pub same : IsSame v w
    pub rests : Rests v (without e v.facts.has.slots) v.facts.waits w
