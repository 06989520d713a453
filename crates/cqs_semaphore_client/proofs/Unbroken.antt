-- The semaphore after a history without broken numbers has none; and such a history in one of two cases.
use Rattle.std.proofs.Common.{◌≡◌, ℕ, zero, suc, nat_lt, Bool, true, false, List, [], ◌∷◌, ◌++◌, ◌+◌, ◌-◌, take, if◌then◌else◌, refl, ap}
use Rattle.std.specs.List.{fold}
use Rattle.cqs_core.specs.declared.entries.Entry.{Entry}
use Rattle.cqs_core.specs.declared.entries.Entry.TheVariants as entry
use Rattle.cqs_core.specs.Keyed.{without}
use Rattle.cqs_core.specs.SemaphoreEntries.{after_entry, has_spoiled, object_after, turned_back}
use Rattle.cqs_core.specs.SemaphoreObject.{Semaphore, due, opening}
use Rattle.cqs_core.proofs.Waits.{enters_by}
use Rattle.cqs_semaphore_client.specs.PlainHistories.{BreaksNone, IsUnbroken}

pub unbroken-if : (b : Bool) (h es fs : List Entry) → IsUnbroken (h ++ es) → IsUnbroken (h ++ fs)
    → IsUnbroken (h ++ (if b then es else fs))
unbroken-if true h es fs first second = first
unbroken-if false h es fs first second = second

-- What an entry leaves that breaks none: no broken numbers, where there were none.
unspoiled-turned : (o : Semaphore) → o.spoiled ≡ [] → (turned_back o).spoiled ≡ []
unspoiled-turned o none = by (nat_lt (due o) o.way)
  where
    by : (b : Bool) → (if b then record o { way = o.way - 1; free = o.free + 1 } else o).spoiled ≡ []
    by true = none
    by false = none

pub unspoiled-entry : (o : Semaphore) (e : Entry) → BreaksNone e → o.spoiled ≡ [] → (after_entry o e).spoiled ≡ []
unspoiled-entry o (entry.TakeNow c) whole none = none
unspoiled-entry o (entry.TakeDoor c) whole none = none
unspoiled-entry o (entry.Enter c k) whole none = by (has_spoiled k o.spoiled) (ap (has_spoiled k) none)
  where
    by : (b : Bool) → b ≡ false → (enters_by o c k b).spoiled ≡ []
    by true is = absurd (cc)
    by false is = none
unspoiled-entry o (entry.TryGot c) whole none = none
unspoiled-entry o (entry.TryBusy c) whole none = none
unspoiled-entry o (entry.GiveFreed c) whole none = none
unspoiled-entry o (entry.GiveSent c) whole none = none
unspoiled-entry o (entry.Deliver k) whole none = none
unspoiled-entry o (entry.Spoil c k) whole none = absurd whole
unspoiled-entry o (entry.Undo c k) whole none = absurd whole
unspoiled-entry o (entry.Leave c k) whole none =
    unspoiled-turned (record o { line = without (λ w. w.wait) k o.line }) none
unspoiled-entry o (entry.Late c k) whole none = none
unspoiled-entry o (entry.LookGranted c k) whole none = none
unspoiled-entry o (entry.LookPending c k) whole none = none

first-whole : (e : Entry) (h : List Entry) → IsUnbroken (e ∷ h) → BreaksNone e
first-whole e h unbroken = unbroken.at zero e refl

rest-unbroken : (e : Entry) (h : List Entry) → IsUnbroken (e ∷ h) → IsUnbroken h
rest-unbroken e h unbroken = record { at = λ n d got. unbroken.at (suc n) d got }

unspoiled-fold : (o : Semaphore) (h : List Entry) → IsUnbroken h → o.spoiled ≡ [] → (fold after_entry o h).spoiled ≡ []
unspoiled-fold o [] unbroken none = none
unspoiled-fold o (e ∷ h) unbroken none =
    unspoiled-fold (after_entry o e) h (rest-unbroken e h unbroken)
    (unspoiled-entry o e (first-whole e h unbroken) none)

unspoiled-take : (o : Semaphore) (n : ℕ) (h : List Entry) → IsUnbroken h → o.spoiled ≡ []
    → (fold after_entry o (take n h)).spoiled ≡ []
unspoiled-take o zero h unbroken none = none
unspoiled-take o (suc n) [] unbroken none = none
unspoiled-take o (suc n) (e ∷ h) unbroken none =
    unspoiled-take (after_entry o e) n h (rest-unbroken e h unbroken)
    (unspoiled-entry o e (first-whole e h unbroken) none)

-- the semaphore has no broken numbers after the history, nor before an entry of it
pub unspoiled-after : (size : ℕ) (h : List Entry) → IsUnbroken h → (object_after size h).spoiled ≡ []
unspoiled-after size h unbroken = unspoiled-fold (opening size) h unbroken refl

pub unspoiled-before : (size n : ℕ) (h : List Entry) → IsUnbroken h → (object_after size (take n h)).spoiled ≡ []
unspoiled-before size n h unbroken = unspoiled-take (opening size) n h unbroken refl
