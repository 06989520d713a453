-- What a pass that is alone knows of a cancel: it owes nothing after it.
use Rattle.std.specs.Prelude.{◌≡◌, ℕ, ◌≤◌, true}
use Rattle.cqs_rule_laws.specs.declared.view.View.{View}
use Rattle.cqs_rule_laws.specs.Drawn.{KnowsDrawn}
use Rattle.cqs_cancel.specs.declared.cancelling.Left.{Left}
use Rattle.cqs_cancel.specs.declared.cancelling.Left.TheVariants.{Gone, GoneOwing, Late}

-- nothing is owed for the wait
abbrev pub OwesNone : Left → Type 0
OwesNone Gone = Unit {0}
OwesNone (GoneOwing payload) = ⊥
OwesNone (Late payload) = Unit {0}

-- Where the pass is alone, it knows that no resumption has come to the number k.
abbrev pub IsAhead : {E S : Type 0} → ℕ → View E S → Type 0
IsAhead k v = v.alone ≡ true → (drawn : ℕ) × KnowsDrawn v drawn × (drawn ≤ k)
