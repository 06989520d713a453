-- What a clerk has at hand.
use Rattle.std.specs.Prelude.{ℕ, Bool}
use Rattle.cqs_floor_shared.specs.Shared.{Shared}
use Rattle.cqs_work.specs.declared.clerk.Clerk.{Clerk}
use Rattle.cqs_work.specs.Desk.{Desk, desk}
use Rattle.cqs_work.specs.Gated.{Gated, gated}

-- what it told its gate
abbrev pub gate_of : {R G F : Type 0} → (G → ℕ → ℕ → Bool) → (G → ℕ → ℕ → Bool) → Clerk R G F
    → Gated
gate_of begun ended clerk = gated begun ended clerk.gate.now clerk.worker clerk.calls

-- its floor, as contracts see it, the waits of its jobs so far, and what it told its gate
abbrev pub at_hand : {R G F : Type 0} → (F → Shared) → (G → ℕ → ℕ → Bool) → (G → ℕ → ℕ → Bool)
    → Clerk R G F → Desk
at_hand shared begun ended clerk =
    desk (shared clerk.floor) clerk.waits.items (gate_of begun ended clerk)
