-- Only a client whose resumptions are paid with elements gives slots away by steps of the queue.
use Rattle.std.proofs.Common.{◌≡◌, ℕ, List, [], ◌∷◌, refl, Option, None, arith, ◌+◌}
use Rattle.cqs_core.specs.QueueSteps.{QueueStep, draws, enters, reaches, begins, puts, installs, takes, serves, leaves, delegates, passes_over, ends_refused, ends_missed, starts_leaving, leaves_line, leaves_at_once, settles, settles_owing, refuses, refuses_value, looks, pends, grants, late, in_sync, leaves_watched, sees_value, sees_taken, breaks, takes_watched, finds_broken, row_of}
use Rattle.cqs_rule_laws.specs.Client.{gives_away}
use Rattle.cqs_rule_laws.specs.Given.{times_given}
use Rattle.cqs_rule_laws.specs.Manner.{Manner, Suits, HasElements}

-- no entry of this client gives a slot away
pub gives-never : {E : Type 0} (es : List E) (k : ℕ) → times_given (λ (e : E). None) es k ≡ 0
gives-never [] k = refl
gives-never (e ∷ es) k = let rest = gives-never es k in omega arith

pub pays-none : (m : Manner) → (HasElements m.source → ⊥) → (s : QueueStep) (payload k : ℕ) → Suits m s
    → gives_away (row_of s) payload k ≡ 0
pays-none m never draws payload k suits = refl
pays-none m never enters payload k suits = refl
pays-none m never reaches payload k suits = refl
pays-none m never begins payload k suits = refl
pays-none m never puts payload k suits = absurd (never suits)
pays-none m never installs payload k suits = refl
pays-none m never takes payload k suits = refl
pays-none m never serves payload k suits = refl
pays-none m never leaves payload k suits = refl
pays-none m never delegates payload k suits = refl
pays-none m never passes_over payload k suits = refl
pays-none m never ends_refused payload k suits = refl
pays-none m never ends_missed payload k suits = refl
pays-none m never starts_leaving payload k suits = refl
pays-none m never leaves_line payload k suits = refl
pays-none m never leaves_at_once payload k suits = refl
pays-none m never settles payload k suits = refl
pays-none m never settles_owing payload k suits = refl
pays-none m never refuses payload k suits = refl
pays-none m never refuses_value payload k suits = refl
pays-none m never (looks pends) payload k suits = refl
pays-none m never (looks grants) payload k suits = refl
pays-none m never (looks late) payload k suits = refl
pays-none m never (in_sync leaves_watched) payload k suits = refl
pays-none m never (in_sync sees_value) payload k suits = refl
pays-none m never (in_sync sees_taken) payload k suits = refl
pays-none m never (in_sync breaks) payload k suits = refl
pays-none m never (in_sync takes_watched) payload k suits = refl
pays-none m never (in_sync finds_broken) payload k suits = refl
