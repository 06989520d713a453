-- What the callers of a latch did: how often they counted it down, and which of their waits are
-- over.
use Rattle.std.specs.Prelude.{◌≡◌, ◌⊎◌, ℕ, List, cond}
use Rattle.cqs_core.specs.Numbered.{IsIn}
use Rattle.cqs_core.specs.Parts.{Has}
use Rattle.cqs_latch_object.specs.LatchLaws.{counts_down}
use Rattle.cqs_latch_object.specs.LatchNames.{entry_names}
use Rattle.cqs_latch_object.specs.declared.entries.LatchEntry.{LatchEntry}
use Rattle.cqs_latch_object.specs.declared.entries.LatchEntry.TheVariants as entry
use Rattle.cqs_floor_shared_kinds.specs.Accounts.{over}

-- a caller took one from the count
abbrev pub downs : LatchEntry → ℕ
downs e = cond (counts_down e) 1 0

-- By the entry the wait of the number k stands in the line no more: it was served, or it left; or
-- its caller found that it was served.
abbrev pub EndsWait : ℕ → LatchEntry → Type 0
EndsWait k (entry.DownLeft c n) = ⊥
EndsWait k (entry.DownLast c) = ⊥
EndsWait k (entry.DownAlready c) = ⊥
EndsWait k (entry.Open c) = ⊥
EndsWait k (entry.Passed c) = ⊥
EndsWait k (entry.AwaitDoor c) = ⊥
EndsWait k (entry.Enter c j) = ⊥
EndsWait k (entry.Deliver j) = j ≡ k
EndsWait k (entry.Leave c j) = j ≡ k
EndsWait k (entry.Miss j) = ⊥
EndsWait k (entry.Late c j) = j ≡ k
EndsWait k (entry.LookGranted c j) = j ≡ k
EndsWait k (entry.LookPending c j) = ⊥

-- the wait of the number k is over
pub record IsOver (k : ℕ) (h : List LatchEntry) : Type 0 where
  pub by : LatchEntry
  pub there : IsIn by h
  pub ends : EndsWait k by

-- These callers counted the latch down so often. Of each wait that one of them came to, it is one
-- of these, or it is over.
pub record IsAccounted (own waits : List ℕ) (h : List LatchEntry) (counted : ℕ) : Type 0 where
  pub counted_is : over entry_names downs own h ≡ counted
  pub kept : (c k : ℕ) → Has c own → IsIn (entry.Enter c k) h → Has k waits ⊎ IsOver k h
