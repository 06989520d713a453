-- What a call of a core with one pass comes to.
use Rattle.std.proofs.Common.{◌≡◌, ℕ, ◌+◌, ◌≤◌, List, All, Some, length, refl, sym, ap, ◌∙◌, subst, length-set}
use Rattle.std.proofs.lemmas.List.Elements.{All-append}
use Rattle.cqs_core.specs.declared.calls.Call.{Call}
use Rattle.cqs_core.specs.declared.calls.Reply.{Reply}
use Rattle.cqs_core.specs.declared.calls.Reply.TheVariants as reply
use Rattle.cqs_core.specs.SemaphoreAnswers.{Room}
use Rattle.cqs_core.specs.SemaphoreCalls.{Course, refused, replied, stuck, course, MakesCallReady}
use Rattle.cqs_core.specs.SemaphoreShown.{IsCore, shown_semaphore}
use Rattle.cqs_core.specs.SoleCaller.{IsSoleCall, ShowsNext, caller, held_by, sole_call}
use Rattle.cqs_core.proofs.CallsKeep.{call_ready-core}
use Rattle.cqs_plan.specs.LegalFloor.{BreaksNone}
use Rattle.cqs_floor_alone_kinds.specs.SoleCore.{HasMade, IsReady}
use Rattle.cqs_floor_alone_kinds.proofs.Unbroken.{call-breaks_none}

-- a call changes what a pass holds, and not how many passes there are
length-held_by : (held : List ℕ) (p : ℕ) (answer : Reply) → length (held_by held p answer) ≡ length held
length-held_by held p reply.Now = length-set held p _
length-held_by held p (reply.Later k) = refl
length-held_by held p (reply.Took k) = length-set held p _
length-held_by held p reply.Got = length-set held p _
length-held_by held p reply.Busy = refl
length-held_by held p reply.Freed = length-set held p _
length-held_by held p (reply.Sent k) = length-set held p _
length-held_by held p reply.Granted = length-set held p _
length-held_by held p reply.Pending = refl
length-held_by held p reply.Cancelled = refl
length-held_by held p reply.TooLate = length-set held p _

-- what a made call takes from the room
spare-made : (old new : Room) (found : Course) (answer : Reply) → MakesCallReady found (Some answer) old new
    → old.spare ≤ new.spare + 3
spare-made old new (replied t given) answer made = made.2
spare-made old new refused answer made = absurd made
spare-made old new stuck answer made = absurd made

pub made-sole : (old new : Room) (c : Call) (answer : Reply) → IsReady old
    → MakesCallReady (course old.shape c) (Some answer) old new → IsSoleCall old.shape c answer new.shape
    → ShowsNext old.shape c new.shape → HasMade old c answer new
made-sole old new c answer ready made sole next =
    let core : IsCore new.shape = call_ready-core old new c (Some answer) ready.sole.core made in
    let as_many : length new.shape.held ≡ length old.shape.held =
    ap (λ (held : List ℕ). length held) sole.held ∙ length-held_by old.shape.held (caller c) answer in
    record {
      call = sole;
      shown = next;
      sole = record {
        core = core;
        idle = sole.idle;
        one = sym core.holders ∙ as_many ∙ ready.sole.core.holders ∙ ready.sole.one;
        untaken = sole.untaken ready.sole.untaken;
        unbroken = subst (All BreaksNone) (sym sole.appended)
            (All-append BreaksNone old.shape.history (sole_call (shown_semaphore old.shape) c).entries
            ready.sole.unbroken (call-breaks_none (shown_semaphore old.shape) c));
      };
      spare = spare-made old new (course old.shape c) answer made;
    }
