-- What each step tells the pass that makes it.
use Rattle.std.specs.Prelude.{◌≡◌, ℕ, ◌<◌, ◌≤◌, ◌^◌, true, List, [], ◌++◌}
use Rattle.cqs_rule_laws.specs.declared.view.View.{View}
use Rattle.cqs_rule_laws.specs.declared.view.Facts.{Facts}
use Rattle.cqs_rule_laws.specs.Hidden.{Hidden}
use Rattle.cqs_rule_laws.specs.Inside.{IsInside}
use Rattle.cqs_rule_laws.specs.Lists.{Has, IsPrefix, part}
use Rattle.cqs_rule_laws.specs.Object.{Object, Primitive}
use Rattle.cqs_rule_laws.specs.declared.view.Opening.{Opening}
use Rattle.cqs_rule_laws.specs.Slots.{LaysNone}
use Rattle.cqs_rule_laws.specs.Views.{IsSame}

module _ {E S : Type 0} (object : Object E) where
  -- The pass has seen more of the history: what others did meanwhile, which names none of its
  -- numbers, and then these entries of its own. It is at these facts now.
  pub record Saw (v : View E S) (facts : Facts) (entries : List E) (w : View E S) : Type 0 where
    pub between : List E
    pub seen : w.seen ≡ (v.seen ++ between) ++ entries
    pub silent : (n : ℕ) → Has n v.own → part object.names n between ≡ []
    pub facts_are : w.facts ≡ facts
    pub same : IsSame v w
    pub handed : IsPrefix v.handed w.handed
    pub unlaid : LaysNone v.laid w.laid
    pub sole : v.alone ≡ true → between ≡ []

  -- What holds of the view of every live pass: all that it has seen is legal and names only passes
  -- that may be made, its own number is among its numbers, which are those of cells, what it holds
  -- and owes fits, and what the client knows of all that one pass has holds of what it has.
  pub record IsLive (v : View E S) : Type 0 where
    pub legal : object.legal v.opening v.seen
    pub unnamed : (n : ℕ) → v.passes ≤ n → part object.names n v.seen ≡ []
    pub own : Has v.number v.own
    pub held : v.facts.has.held < 2 ^ 32
    pub few : v.facts.has.held ≤ object.most v.opening
    pub known : object.knows v.opening v.facts.has
    pub inside : IsInside v

-- Where the history was this, the client, which opened so, showed it by a hidden state and by words
-- of which this holds.
pub record WasShown {C E S : Type 0} (primitive : C → Primitive E S) (opening : Opening)
    (fact : Hidden → List ℕ
    → Type 0)
    (history : List E) : Type 0 where
  pub client : C
  pub opening_is : (primitive client).opening ≡ opening
  pub hidden : Hidden
  pub words : List ℕ
  pub handed : List (ℕ × S)
  pub shown : (primitive client).shows hidden words history handed
  pub holds : fact hidden words

-- A step found something that holds at the end of all that the pass has seen before these entries
-- of its own.
pub record WasFound {C E S : Type 0} (primitive : C → Primitive E S) (fact : Hidden → List ℕ
    → Type 0) (entries : List E)
    (w : View E S) : Type 0 where
  pub before : List E
  pub seen : w.seen ≡ before ++ entries
  pub was : WasShown primitive w.opening fact before

-- It held at the end of some prefix of all that the pass has seen.
pub record WasSo {C E S : Type 0} (primitive : C → Primitive E S) (fact : Hidden → List ℕ → Type 0)
    (w : View E S) : Type 0 where
  pub before : List E
  pub seen : IsPrefix before w.seen
  pub was : WasShown primitive w.opening fact before
