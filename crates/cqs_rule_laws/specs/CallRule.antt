-- What every call leaves of its pass, whatever the object: the call rule; and what a pass has done
-- in calls one after the other.
use Rattle.std.specs.Prelude.{◌≡◌, ℕ, List, [], ◌++◌}
use Rattle.cqs_core.specs.declared.doings.Doing.TheVariants as doing
use Rattle.cqs_rule_laws.specs.declared.view.Facts.{Facts}
use Rattle.cqs_rule_laws.specs.declared.view.View.{View}
use Rattle.cqs_rule_laws.specs.Called.{Called}
use Rattle.cqs_rule_laws.specs.Lists.{Has, part, NamesOnly}
use Rattle.cqs_rule_laws.specs.Object.{Object}
use Rattle.cqs_rule_laws.specs.Saw.{Saw}
use Rattle.cqs_rule_laws.specs.Views.{as_before}

-- the pass is between two calls, and owes nothing
pub record IsReady (f : Facts) : Type 0 where
  pub idle : f.doing ≡ doing.Idle
  pub further : f.has.further ≡ 0

module _ {E S : Type 0} (object : Object E) where
  -- The call rule. What the pass had seen is a prefix of what it has seen now, which is legal. In
  -- the new part the entries that name the pass are just its own ones of the call, in order. These
  -- name nobody else, and the further ones, by which resumptions reach their numbers, name nobody.
  -- What the pass has seen now ends with the last ones. A pass that was alone has seen just the
  -- entries of the call.
  pub record CallRuleEnding (v : View E S) (own further last : List E) (w : View E S)
      : Type 0 where
    pub called : Called object v (own ++ further) last w
    pub legal : object.legal w.opening w.seen
    pub mine : part object.names v.number called.more ≡ own
    pub all : part object.names v.number own ≡ own
    pub only : NamesOnly object.names v.number own
    pub nobody : (n : ℕ) → part object.names n further ≡ []

  -- the same of a call whose further entry, where it makes one, is the last of all
  abbrev pub CallRule : View E S → List E → List E → View E S → Type 0
  CallRule v own further w = CallRuleEnding v own further further w

  -- What a pass has done since: the entries that name it, or one that was met into it, among those
  -- that it has seen since. Calls one after the other, and a call after a meet, make one course.
  pub record Course (v : View E S) (own : List E) (w : View E S) : Type 0 where
    pub number : w.number ≡ v.number
    pub more : List E
    pub seen : w.seen ≡ v.seen ++ more
    pub mine : (n : ℕ) → Has n v.own → part object.names n more ≡ part object.names n own
    pub kept : (n : ℕ) → Has n v.own → Has n w.own
    pub opening : w.opening ≡ v.opening
    pub legal : object.legal w.opening w.seen

  -- the pass has seen more, done nothing, and is at what it was
  pub record LookedOn (v w : View E S) : Type 0 where
    pub saw : Saw object v v.facts [] (as_before v w)
    pub course : Course v [] w
    pub facts_are : w.facts ≡ v.facts

-- after a call the pass is idle and owes nothing, holds so much, and has these waits
pub record RestsHolding {E S : Type 0} (held : ℕ) (waits : List ℕ) (w : View E S) : Type 0 where
  pub ready : IsReady w.facts
  pub held_is : w.facts.has.held ≡ held
  pub waits_are : w.facts.waits ≡ waits
