-- What each answer appends to the history: the entries of the caller, in order; and apart from them
-- the one that may come after them, by which an element on its way is delivered.
use Rattle.std.specs.Prelude.{ℕ, List, [], ◌∷◌, Option, Some, None, Result, Ok, Err}
use Rattle.cqs_pool_object.specs.declared.entries.PoolEntry.{PoolEntry}
use Rattle.cqs_pool_object.specs.declared.entries.PoolEntry.TheVariants as entry
use Rattle.cqs_rule_laws.specs.declared.config.AcquireError.{AcquireError}
use Rattle.cqs_rule_laws.specs.declared.config.Crowded.{Crowded}
use Rattle.cqs_rule.specs.Waits.{place_of}
use Rattle.cqs_pool.specs.declared.element.Element.{Element}
use Rattle.cqs_pool.specs.declared.answers.Placed.{Placed}
use Rattle.cqs_pool.specs.declared.answers.Placed.TheVariants.{Sent, Left, Under}
use Rattle.cqs_pool.specs.declared.answers.PoolLeft.{PoolLeft}
use Rattle.cqs_pool.specs.declared.answers.PoolLeft.TheVariants.{Cancelled, TooLate}
use Rattle.cqs_pool.specs.declared.answers.PoolPolled.{PoolPolled}
use Rattle.cqs_pool.specs.declared.answers.PoolPolled.TheVariants.{Granted, Pending}
use Rattle.cqs_pool.specs.declared.answers.Taking.{Taking}
use Rattle.cqs_pool.specs.declared.answers.Taking.TheVariants.{Took, Later}
use Rattle.cqs_pool.specs.Elements.{number_of, wait_of}

-- the caller p came to the line; a take that was refused did nothing
abbrev pub took_entries : ℕ → Result Taking AcquireError → List PoolEntry
took_entries p (Ok (Took element)) = entry.Enter p (wait_of element) ∷ []
took_entries p (Ok (Later wait)) = entry.Enter p (place_of wait).index ∷ []
took_entries p (Err e) = []

-- and the element that stood in the cell of its number was delivered to it
abbrev pub took_further : Result Taking AcquireError → List PoolEntry
took_further (Ok (Took element)) = entry.Deliver (wait_of element) (number_of element) ∷ []
took_further (Ok (Later wait)) = []
took_further (Err e) = []

-- the caller p put this element; a put that was refused did nothing
abbrev pub put_entries : ℕ → ℕ → Result Placed (Element × Crowded) → List PoolEntry
put_entries p e (Ok placed) = entry.Put p e ∷ []
put_entries p e (Err refused) = []

-- what comes after a put, and after the end of one: the delivery of the element
abbrev pub placed_further : ℕ → Placed → List PoolEntry
placed_further e (Sent k) = entry.Deliver k e ∷ []
placed_further e (Left k) = []
placed_further e (Under under) = []

abbrev pub put_further : ℕ → Result Placed (Element × Crowded) → List PoolEntry
put_further e (Ok placed) = placed_further e placed
put_further e (Err refused) = []

-- the caller of the wait k looked at it
abbrev pub polled_entries : ℕ → ℕ → PoolPolled → List PoolEntry
polled_entries p k (Granted element) = entry.LookGranted p k (number_of element) ∷ []
polled_entries p k (Pending wait) = entry.LookPending p k ∷ []

-- the caller of the wait k left the line, or came too late to leave it
abbrev pub cancelled_entries : ℕ → ℕ → PoolLeft → List PoolEntry
cancelled_entries p k (Cancelled under) = entry.Leave p k ∷ []
cancelled_entries p k (TooLate element) = entry.Late p k (number_of element) ∷ []

-- what comes after a cancel: the delivery of an element that was left to it, if the call passed one
-- on
abbrev pub passed_further : ℕ → Option Placed → List PoolEntry
passed_further e None = []
passed_further e (Some placed) = placed_further e placed
