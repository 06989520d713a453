-- What each answer appends to the history: the entries of the caller, in order; and apart from them
-- the one that may come after them, by which a permit on its way is delivered.
use Rattle.std.specs.Prelude.{ℕ, List, [], ◌∷◌, Option, Some, None, Result, Ok, Err}
use Rattle.cqs_core.specs.declared.entries.Entry.{Entry}
use Rattle.cqs_core.specs.declared.entries.Entry.TheVariants as entry
use Rattle.cqs_rule_laws.specs.declared.config.AcquireError.{AcquireError}
use Rattle.cqs_rule_laws.specs.declared.config.Crowded.{Crowded}
use Rattle.cqs_rule.specs.Waits.{place_of}
use Rattle.cqs_semaphore.specs.declared.answers.Permit.{Permit}
use Rattle.cqs_semaphore.specs.declared.answers.Acquired.{Acquired}
use Rattle.cqs_semaphore.specs.declared.answers.Acquired.TheVariants.{Now, Later}
use Rattle.cqs_semaphore.specs.declared.answers.Tried.{Tried}
use Rattle.cqs_semaphore.specs.declared.answers.Tried.TheVariants.{Got, Busy, Contended}
use Rattle.cqs_semaphore.specs.declared.answers.Released.{Released}
use Rattle.cqs_semaphore.specs.declared.answers.Released.TheVariants.{Freed, Sent, Left, Void, Under}
use Rattle.cqs_semaphore.specs.declared.answers.Polled.{Polled}
use Rattle.cqs_semaphore.specs.declared.answers.Polled.TheVariants.{Granted, Pending}
use Rattle.cqs_semaphore.specs.declared.answers.CancelAnswer.{CancelAnswer}
use Rattle.cqs_semaphore.specs.declared.answers.CancelAnswer.TheVariants.{Cancelled, TooLate}
use Rattle.cqs_semaphore.specs.Permits.{number_of}

-- the caller p took a free permit, or came to the line under this number
abbrev pub took_entries : ℕ → Option ℕ → List Entry
took_entries p None = entry.TakeNow p ∷ []
took_entries p (Some k) = entry.TakeDoor p ∷ entry.Enter p k ∷ []

-- a permit that came by a wait was delivered to it
abbrev pub came_by : Option ℕ → List Entry
came_by None = []
came_by (Some k) = entry.Deliver k ∷ []

abbrev pub acquired_entries : ℕ → Result Acquired AcquireError → List Entry
acquired_entries p (Ok (Now permit)) = took_entries p (number_of permit)
acquired_entries p (Ok (Later wait)) = took_entries p (Some (place_of wait).index)
acquired_entries p (Err e) = []

abbrev pub acquired_further : Result Acquired AcquireError → List Entry
acquired_further (Ok (Now permit)) = came_by (number_of permit)
acquired_further (Ok (Later wait)) = []
acquired_further (Err e) = []

abbrev pub tried_entries : ℕ → Tried → List Entry
tried_entries p (Got permit) = entry.TryGot p ∷ []
tried_entries p Busy = entry.TryBusy p ∷ []
tried_entries p (Contended saw found) = []

-- a permit given back, and what became of it
abbrev pub gave_entries : ℕ → Released → List Entry
gave_entries p Freed = entry.GiveFreed p ∷ []
gave_entries p (Sent k) = entry.GiveSent p ∷ []
gave_entries p (Left k) = entry.GiveSent p ∷ []
gave_entries p (Void k) = entry.GiveSent p ∷ []
gave_entries p (Under under) = entry.GiveSent p ∷ []

-- a release that was refused gave nothing back
abbrev pub released_entries : ℕ → Result Released (Permit × Crowded) → List Entry
released_entries p (Ok released) = gave_entries p released
released_entries p (Err refused) = []

-- what comes after a release, and after the end of one: the delivery of the permit
abbrev pub resumed_further : Released → List Entry
resumed_further Freed = []
resumed_further (Sent k) = entry.Deliver k ∷ []
resumed_further (Left k) = []
resumed_further (Void k) = []
resumed_further (Under under) = []

abbrev pub released_further : Result Released (Permit × Crowded) → List Entry
released_further (Ok released) = resumed_further released
released_further (Err refused) = []

-- the caller of the wait k looked at it
abbrev pub polled_entries : ℕ → ℕ → Polled → List Entry
polled_entries p k (Granted permit) = entry.LookGranted p k ∷ []
polled_entries p k (Pending wait) = entry.LookPending p k ∷ []

-- the caller of the wait k left the line, or came too late to leave it
abbrev pub cancelled_entries : ℕ → ℕ → CancelAnswer → List Entry
cancelled_entries p k (Cancelled under) = entry.Leave p k ∷ []
cancelled_entries p k (TooLate permit) = entry.Late p k ∷ []

-- what comes after a cancel: the delivery of a permit that was left to it, if the call passed one
-- on
abbrev pub passed_further : Option Released → List Entry
passed_further None = []
passed_further (Some released) = resumed_further released
