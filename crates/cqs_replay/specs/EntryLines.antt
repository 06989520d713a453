-- What the line of an entry says.
use Rattle.std.specs.Prelude.{◌≡◌, ◌≢◌, ℕ, List, [], ◌∷◌, Option, Some, None, codes}
use Rattle.cqs_core.specs.declared.entries.Entry.{Entry}
use Rattle.cqs_core.specs.declared.entries.Entry.TheVariants as entry
use Rattle.cqs_lines.specs.Said.{Said, said}
use Rattle.cqs_replay.specs.EventLines.{IsPass, IsWait}

abbrev pub entry_says : Entry → Said
entry_says (entry.TakeNow p) = said (codes "takenow") (p ∷ [])
entry_says (entry.TakeDoor p) = said (codes "takedoor") (p ∷ [])
entry_says (entry.Enter p k) = said (codes "enter") (p ∷ k ∷ [])
entry_says (entry.TryGot p) = said (codes "trygot") (p ∷ [])
entry_says (entry.TryBusy p) = said (codes "trybusy") (p ∷ [])
entry_says (entry.GiveFreed p) = said (codes "givefreed") (p ∷ [])
entry_says (entry.GiveSent p) = said (codes "givesent") (p ∷ [])
entry_says (entry.Deliver k) = said (codes "deliver") (k ∷ [])
entry_says (entry.Spoil p k) = said (codes "spoil") (p ∷ k ∷ [])
entry_says (entry.Undo p k) = said (codes "undo") (p ∷ k ∷ [])
entry_says (entry.Leave p k) = said (codes "leave") (p ∷ k ∷ [])
entry_says (entry.Late p k) = said (codes "late") (p ∷ k ∷ [])
entry_says (entry.LookGranted p k) = said (codes "granted") (p ∷ k ∷ [])
entry_says (entry.LookPending p k) = said (codes "pending") (p ∷ k ∷ [])

-- the numbers of an entry are in their ranges
abbrev pub IsEntry : Entry → Type 0
IsEntry (entry.TakeNow p) = IsPass p
IsEntry (entry.TakeDoor p) = IsPass p
IsEntry (entry.Enter p k) = IsPass p × IsWait k
IsEntry (entry.TryGot p) = IsPass p
IsEntry (entry.TryBusy p) = IsPass p
IsEntry (entry.GiveFreed p) = IsPass p
IsEntry (entry.GiveSent p) = IsPass p
IsEntry (entry.Deliver k) = IsWait k
IsEntry (entry.Spoil p k) = IsPass p × IsWait k
IsEntry (entry.Undo p k) = IsPass p × IsWait k
IsEntry (entry.Leave p k) = IsPass p × IsWait k
IsEntry (entry.Late p k) = IsPass p × IsWait k
IsEntry (entry.LookGranted p k) = IsPass p × IsWait k
IsEntry (entry.LookPending p k) = IsPass p × IsWait k

-- the words are those of this entry, or of none
abbrev pub IsEntryOf : List ℕ → List ℕ → Option Entry → Type 0
IsEntryOf verb numbers (Some e) = IsEntry e × (entry_says e ≡ said verb numbers)
IsEntryOf verb numbers None = (e : Entry) → IsEntry e → entry_says e ≢ said verb numbers
