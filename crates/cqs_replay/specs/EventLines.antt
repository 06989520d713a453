-- What the line of an event says.
use Rattle.std.specs.Prelude.{◌≡◌, ◌≢◌, ℕ, ◌<◌, ◌^◌, List, [], ◌∷◌, Option, Some, None, codes}
use Rattle.cqs_core.specs.declared.events.Event.{Event}
use Rattle.cqs_core.specs.declared.events.Event.TheVariants as event
use Rattle.cqs_lines.specs.Said.{Said, said}

abbrev pub event_says : Event → Said
event_says (event.Take p) = said (codes "take") (p ∷ [])
event_says (event.TryLoad p) = said (codes "tryload") (p ∷ [])
event_says (event.TrySwap p) = said (codes "tryswap") (p ∷ [])
event_says (event.Draw p) = said (codes "draw") (p ∷ [])
event_says (event.Install p) = said (codes "install") (p ∷ [])
event_says (event.Give p) = said (codes "give") (p ∷ [])
event_says (event.Reach p) = said (codes "reach") (p ∷ [])
event_says (event.Meet p) = said (codes "meet") (p ∷ [])
event_says (event.See p) = said (codes "see") (p ∷ [])
event_says (event.Break p) = said (codes "break") (p ∷ [])
event_says (event.Leave p k) = said (codes "leave") (p ∷ k ∷ [])
event_says (event.Decide p) = said (codes "decide") (p ∷ [])
event_says (event.Settle p) = said (codes "settle") (p ∷ [])
event_says (event.Look p k) = said (codes "look") (p ∷ k ∷ [])

-- the numbers of an event are in their ranges
abbrev pub IsPass : ℕ → Type 0
IsPass p = p < 2 ^ 32

abbrev pub IsWait : ℕ → Type 0
IsWait k = k < 2 ^ 40

abbrev pub IsEvent : Event → Type 0
IsEvent (event.Take p) = IsPass p
IsEvent (event.TryLoad p) = IsPass p
IsEvent (event.TrySwap p) = IsPass p
IsEvent (event.Draw p) = IsPass p
IsEvent (event.Install p) = IsPass p
IsEvent (event.Give p) = IsPass p
IsEvent (event.Reach p) = IsPass p
IsEvent (event.Meet p) = IsPass p
IsEvent (event.See p) = IsPass p
IsEvent (event.Break p) = IsPass p
IsEvent (event.Leave p k) = IsPass p × IsWait k
IsEvent (event.Decide p) = IsPass p
IsEvent (event.Settle p) = IsPass p
IsEvent (event.Look p k) = IsPass p × IsWait k

-- the words are those of this event, or of none
abbrev pub IsEventOf : List ℕ → List ℕ → Option Event → Type 0
IsEventOf verb numbers (Some e) = IsEvent e × (event_says e ≡ said verb numbers)
IsEventOf verb numbers None = (e : Event) → IsEvent e → event_says e ≢ said verb numbers
