-- What each call of a core with one pass answers, and what it leaves: its entries, the semaphore after them, and
-- what the pass holds.
use Rattle.std.proofs.Common.{◌≡◌, ℕ, ◌+◌, ◌-◌, ◌<◌, nat_lt, true, false, List, [], ◌∷◌, ◌++◌, Some, None, length, set, refl, ap, ◌∙◌, arith}
use Rattle.std.specs.Prelude.{slice_index}
use Rattle.std.specs.List.{fold}
use Rattle.std.proofs.lemmas.List.{get_or-set_same}
use Rattle.cqs_core.specs.declared.calls.Call.{Call}
use Rattle.cqs_core.specs.declared.calls.Call.TheVariants as call
use Rattle.cqs_core.specs.declared.calls.Reply.{Reply}
use Rattle.cqs_core.specs.declared.calls.Reply.TheVariants as reply
use Rattle.cqs_core.specs.declared.entries.Entry.{Entry}
use Rattle.cqs_core.specs.declared.entries.Entry.TheVariants as entry
use Rattle.cqs_core.specs.QueueLine.{Waiting}
use Rattle.cqs_core.specs.SemaphoreAnswers.{Room}
use Rattle.cqs_core.specs.SemaphoreEntries.{after_entry, find_wait}
use Rattle.cqs_core.specs.SemaphoreShown.{shown_semaphore}
use Rattle.cqs_core.specs.SoleCaller.{Told, tells, sole_call, sole_release, sole_poll, sole_cancel, held_after}
use Rattle.cqs_floor_alone_kinds.specs.SoleCore.{HasMade, IsSole}

pub record Came (core after : Room) (answer told : Reply) (entries : List Entry) (held : ℕ) : Type 0 where
  pub is : answer ≡ told
  pub history : after.shape.history ≡ core.shape.history ++ entries
  pub shows : shown_semaphore after.shape ≡ fold after_entry (shown_semaphore core.shape) entries
  pub holds : slice_index after.shape.held 0 ≡ held

module _ (core after : Room) (c : Call) (answer : Reply) (sole : IsSole core.shape)
    (made : HasMade core c answer after) where
  came : (entries : List Entry) (told : Reply) (held : ℕ)
      → sole_call (shown_semaphore core.shape) c ≡ tells entries told
      → slice_index (held_after core.shape.held c told) 0 ≡ held → Came core after answer told entries held
  came entries told held says holds =
      let is : answer ≡ told = made.call.replied ∙ ap (λ (t : Told). t.answer) says in
      record {
        is = is;
        history = made.call.appended ∙ ap (λ (t : Told). core.shape.history ++ t.entries) says;
        shows = made.shown ∙ ap (λ (t : Told). fold after_entry (shown_semaphore core.shape) t.entries) says;
        holds = ap (λ (hs : List ℕ). slice_index hs 0) made.call.held
            ∙ ap (λ a. slice_index (held_after core.shape.held c a) 0) is ∙ holds;
      }

  -- the one pass holds so many
  written : (n : ℕ) → slice_index (set core.shape.held 0 n) 0 ≡ n
  written n =
      let there : 0 < length core.shape.held = omega (arith, sole.core.holders, sole.one) in
      get_or-set_same core.shape.held 0 n 0 there

module _ (core after : Room) (answer : Reply) (sole : IsSole core.shape) where
  pub came-now : HasMade core (call.Acquire 0) answer after → nat_lt 0 (shown_semaphore core.shape).free ≡ true
      → Came core after answer reply.Now (entry.TakeNow 0 ∷ []) (slice_index core.shape.held 0 + 1)
  came-now made some = came core after _ answer sole made _ _ _ (rw some refl)
      (written core after _ answer sole made _)

  pub came-later : HasMade core (call.Acquire 0) answer after → nat_lt 0 (shown_semaphore core.shape).free ≡ false
      → Came core after answer (reply.Later (shown_semaphore core.shape).next)
      (entry.TakeDoor 0 ∷ entry.Enter 0 (shown_semaphore core.shape).next ∷ []) (slice_index core.shape.held 0)
  came-later made none = came core after _ answer sole made _ _ _ (rw none refl) refl

  pub came-freed : HasMade core (call.Release 0) answer after → (shown_semaphore core.shape).line ≡ []
      → Came core after answer reply.Freed (entry.GiveFreed 0 ∷ []) (slice_index core.shape.held 0 - 1)
  came-freed made empty =
      came core after _ answer sole made _ _ _ (ap (sole_release 0) empty)
      (written core after _ answer sole made _)

  pub came-sent : (first : Waiting) (rest : List Waiting) → HasMade core (call.Release 0) answer after
      → (shown_semaphore core.shape).line ≡ first ∷ rest
      → Came core after answer (reply.Sent first.wait) (entry.GiveSent 0 ∷ entry.Deliver first.wait ∷ [])
      (slice_index core.shape.held 0 - 1)
  came-sent first rest made is =
      came core after _ answer sole made _ _ _ (ap (sole_release 0) is)
      (written core after _ answer sole made _)

  pub came-granted : (k : ℕ) → HasMade core (call.Poll 0 k) answer after
      → find_wait k (shown_semaphore core.shape).line ≡ None
      → Came core after answer reply.Granted (entry.LookGranted 0 k ∷ []) (slice_index core.shape.held 0 + 1)
  came-granted k made gone =
      came core after _ answer sole made _ _ _ (ap (sole_poll 0 k) gone)
      (written core after _ answer sole made _)

  pub came-left : (k : ℕ) (w : Waiting) → HasMade core (call.Cancel 0 k) answer after
      → find_wait k (shown_semaphore core.shape).line ≡ Some w
      → Came core after answer reply.Cancelled (entry.Leave 0 k ∷ []) (slice_index core.shape.held 0)
  came-left k w made there = came core after _ answer sole made _ _ _ (ap (sole_cancel 0 k) there) refl

  pub came-late : (k : ℕ) → HasMade core (call.Cancel 0 k) answer after
      → find_wait k (shown_semaphore core.shape).line ≡ None
      → Came core after answer reply.TooLate (entry.Late 0 k ∷ []) (slice_index core.shape.held 0 + 1)
  came-late k made gone =
      came core after _ answer sole made _ _ _ (ap (sole_cancel 0 k) gone)
      (written core after _ answer sole made _)
