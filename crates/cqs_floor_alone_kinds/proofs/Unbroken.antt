-- No call of a sole caller breaks a number.
use Rattle.std.proofs.Common.{ℕ, nat_lt, Bool, true, false, List, All, [], ◌∷◌, Option, Some, None, if◌then◌else◌, subst}
use Rattle.std.proofs.lemmas.List.Elements.{All-cons, All-nil}
use Rattle.cqs_core.specs.declared.calls.Call.{Call}
use Rattle.cqs_core.specs.declared.calls.Call.TheVariants as call
use Rattle.cqs_core.specs.declared.calls.Reply.TheVariants as reply
use Rattle.cqs_core.specs.declared.entries.Entry.{Entry}
use Rattle.cqs_core.specs.declared.entries.Entry.TheVariants as entry
use Rattle.cqs_core.specs.QueueLine.{Waiting}
use Rattle.cqs_core.specs.SemaphoreEntries.{find_wait}
use Rattle.cqs_core.specs.SemaphoreObject.{Semaphore}
use Rattle.cqs_core.specs.SoleCaller.{sole_call, sole_cancel, sole_poll, sole_release, tells}
use Rattle.cqs_plan.specs.LegalFloor.{BreaksNone}
use Rattle.cqs_semaphore_client.specs.PlainHistories.{BreaksNone as IsNoBreak}

pub breaks-none : (e : Entry) → IsNoBreak e → BreaksNone e
breaks-none e none c k = (λ is. subst IsNoBreak is none, λ is. subst IsNoBreak is none)

one : (e : Entry) → IsNoBreak e → All BreaksNone (e ∷ [])
one e none = All-cons BreaksNone e [] (breaks-none e none) (All-nil BreaksNone)

two : (e d : Entry) → IsNoBreak e → IsNoBreak d → All BreaksNone (e ∷ d ∷ [])
two e d none neither = All-cons BreaksNone e (d ∷ []) (breaks-none e none) (one d neither)

released : (p : ℕ) (line : List Waiting) → All BreaksNone (sole_release p line).entries
released p [] = one (entry.GiveFreed p) tt
released p (w ∷ line) = two (entry.GiveSent p) (entry.Deliver w.wait) tt tt

polled : (p k : ℕ) (found : Option Waiting) → All BreaksNone (sole_poll p k found).entries
polled p k (Some w) = one (entry.LookPending p k) tt
polled p k None = one (entry.LookGranted p k) tt

cancelled : (p k : ℕ) (found : Option Waiting) → All BreaksNone (sole_cancel p k found).entries
cancelled p k (Some w) = one (entry.Leave p k) tt
cancelled p k None = one (entry.Late p k) tt

pub call-breaks_none : (o : Semaphore) (c : Call) → All BreaksNone (sole_call o c).entries
call-breaks_none o (call.Acquire p) = by (nat_lt 0 o.free)
  where
    by : (free : Bool) → All BreaksNone (if free then tells (entry.TakeNow p ∷ []) reply.Now
        else tells (entry.TakeDoor p ∷ entry.Enter p o.next ∷ []) (reply.Later o.next)).entries
    by true = one (entry.TakeNow p) tt
    by false = two (entry.TakeDoor p) (entry.Enter p o.next) tt tt
call-breaks_none o (call.Try p) = by (nat_lt 0 o.free)
  where
    by : (free : Bool) → All BreaksNone (if free then tells (entry.TryGot p ∷ []) reply.Got
        else tells (entry.TryBusy p ∷ []) reply.Busy).entries
    by true = one (entry.TryGot p) tt
    by false = one (entry.TryBusy p) tt
call-breaks_none o (call.Release p) = released p o.line
call-breaks_none o (call.Poll p k) = polled p k (find_wait k o.line)
call-breaks_none o (call.Cancel p k) = cancelled p k (find_wait k o.line)
