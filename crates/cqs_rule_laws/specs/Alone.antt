-- What a pass knows that is alone, at every one of its steps.
use Rattle.std.specs.Prelude.{◌≡◌, ◌≢◌, ℕ, ◌<◌, true, List, length, Option}
use Rattle.atomic_table.specs.Table.{Me, Step}
use Rattle.cqs_rule_laws.specs.declared.view.View.{View}
use Rattle.cqs_rule_laws.specs.Drawn.{KnowsDrawn}
use Rattle.cqs_rule_laws.specs.Hidden.{Hidden}
use Rattle.cqs_rule_laws.specs.Object.{Primitive}
use Rattle.cqs_rule_laws.specs.Ruled.{Stands, Rests}

module _ {C E S : Type 0} (primitive : C → Primitive E S) where
  -- The pass of this view is alone: what the client shows goes with all that it has seen, and some
  -- values handed in; the pass stands there at its facts, every other number rests, and as many
  -- numbers were drawn to resume at as the pass knows.
  pub record IsAlone (v : View E S) : Type 0 where
    pub client : C
    pub opening_is : (primitive client).opening ≡ v.opening
    pub hidden : Hidden
    pub words : List ℕ
    pub handed : List (ℕ × S)
    pub shown : (primitive client).shows hidden words v.seen handed
    pub stands : Stands hidden v.number v.facts
    pub others : (n : ℕ) → n ≢ v.number → n < v.passes → Rests hidden n
    pub places : length hidden.queue.doing ≡ v.passes
    pub drawn : KnowsDrawn v hidden.queue.resumes

  abbrev pub TellsAlone : View E S → Type 0
  TellsAlone v = v.weight ≡ 1 → v.alone ≡ true → IsAlone v

  -- a step that tells this tells it of a pass that is alone, too
  abbrev pub and_alone :
      (Step (Option S) → Me (Option S) (View E S) → ℕ → Me (Option S) (View E S) → Type 0)
      → Step (Option S) → Me (Option S) (View E S) → ℕ → Me (Option S) (View E S) → Type 0
  and_alone told st me n me' = told st me n me' × TellsAlone me'.0
