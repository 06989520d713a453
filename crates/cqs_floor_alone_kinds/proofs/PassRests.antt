-- What a pass that is alone, and rests, is after a call; and what the plain semaphore's answers tell.
use Rattle.std.proofs.Common.{◌≡◌, inl, inr, ℕ, ◌+◌, ◌<◌, ◌≤◌, nat_lt, Bool, true, false, List, [], ◌∷◌, ◌++◌, Option, Some, None, is_some, refl, ap, sym, ◌∙◌, subst, arith}
use Rattle.std.specs.List.{fold}
use Rattle.std.proofs.lemmas.List.Sums.{fold-append, sum_by-append}
use Rattle.cqs_core.specs.declared.calls.Call.TheVariants as call
use Rattle.cqs_core.specs.declared.calls.Reply.TheVariants as reply
use Rattle.cqs_core.specs.declared.entries.Entry.{Entry}
use Rattle.cqs_core.specs.declared.entries.Entry.TheVariants as entry
use Rattle.cqs_core.specs.Keyed as keyed
use Rattle.cqs_core.specs.QueueLine.{Waiting}
use Rattle.cqs_core.specs.SemaphoreEntries.{IsFirst, after_entry, find_wait, after_leave, has_spoiled, object_after}
use Rattle.cqs_core.specs.SemaphoreObject.{Semaphore, due, opening}
use Rattle.cqs_core.specs.SoleCaller.{Told, sole_call, tells}
use Rattle.cqs_core.proofs.Counts.{bit}
use Rattle.cqs_core.proofs.Waits.{enters_by}
use Rattle.cqs_rule_laws.specs.declared.view.Opening.{Opening}
use Rattle.cqs_rule_laws.specs.declared.view.View.{View}
use Rattle.cqs_rule_laws.specs.declared.config.Place.{Place}
use Rattle.cqs_rule.specs.declared.queue.tokens.Wait.{Wait}
use Rattle.cqs_rule_laws.specs.Lists.{Has}
use Rattle.cqs_rule_laws.specs.Views.{IsSame}
use Rattle.cqs_rule_laws.proofs.Places.{goes-same, known-still}
use Rattle.cqs_rule.specs.Waits.{HasWait, place_of}
use Rattle.cqs_semaphore.specs.Calls.{CallRule, Rests, plain_after}
use Rattle.cqs_semaphore.specs.Causes.{drawn_in, is_enter}
use Rattle.cqs_floor_alone_kinds.specs.Soles.{is_in_line}
use Rattle.cqs_floor_alone_kinds.specs.SoleQueue.{IsResting, IsStill}
use Rattle.cqs_floor_alone_kinds.specs.Waits.{WaitsAt}
use Rattle.cqs_floor_alone_kinds.proofs.CoreSole.{any-find}

-- the line without a wait
abbrev pub line_left : Semaphore → ℕ → Semaphore
line_left o k = record o { line = keyed.without (λ (w : Waiting). w.wait) k o.line }

-- what the entries of one call leave of a semaphore that is still
module _ (o : Semaphore) (still : IsStill o) where
  pub still-waiting : IsStill (after_entry (after_entry o (entry.TakeDoor 0)) (entry.Enter 0 o.next))
  still-waiting = go (has_spoiled o.next o.spoiled)
    where
      go : (b : Bool) → IsStill (enters_by (after_entry o (entry.TakeDoor 0)) 0 o.next b)
      go true = record { way = still.way; door = rw still.door refl }
      go false = record { way = still.way; door = rw still.door refl }

  pub still-sent : (k : ℕ) → IsStill (after_entry (after_entry o (entry.GiveSent 0)) (entry.Deliver k))
  still-sent k = let none = still.way in record { way = omega (arith, none); door = still.door }

  pub still-left : (k : ℕ) → IsStill (after_leave o k)
  still-left k = turn (nat_lt (due (line_left o k)) (line_left o k).way) refl
    where
      turn : (b : Bool) → nat_lt (due (line_left o k)) (line_left o k).way ≡ b → IsStill (after_leave o k)
      turn true is = rw is (let none = still.way in record { way = omega (arith, none); door = still.door })
      turn false is = rw is (record { way = still.way; door = still.door })

-- no permit is on its way where a wait has left, if none was before
pub left-way : (o : Semaphore) (k : ℕ) → o.way ≡ 0 → (after_leave o k).way ≡ 0
left-way o k none = turn (nat_lt (due (line_left o k)) (line_left o k).way) refl
  where
    turn : (b : Bool) → nat_lt (due (line_left o k)) (line_left o k).way ≡ b → (after_leave o k).way ≡ 0
    turn true is = rw is (omega (arith, none))
    turn false is = rw is none

module _ {T : Type 0} where
  -- A pass went from v to w: it has seen these entries more, and rests with so much held and these waits.
  pub record Comes (v w : View Entry T) (entries : List Entry) (held : ℕ) (waits : List ℕ) : Type 0 where
    pub same : IsSame v w
    pub seen : w.seen ≡ v.seen ++ entries
    pub rests : Rests v held waits w

  -- what a pass that is alone has seen after a call
  pub went : (v w : View Entry T) (own further : List Entry) → CallRule v own further w → v.alone ≡ true
      → w.seen ≡ v.seen ++ (own ++ further)
  went v w own further rule alone =
      rule.called.seen ∙ ap (λ es. v.seen ++ es) (rule.called.sole alone)

  module _ (v w : View Entry T) (entries : List Entry) (same : IsSame v w) (seen : w.seen ≡ v.seen ++ entries) where
    pub plain-next : plain_after w ≡ fold after_entry (plain_after v) entries
    plain-next =
        ap (λ (o : Opening). object_after o.size w.seen) same.opening
        ∙ ap (object_after v.opening.size) seen
        ∙ fold-append after_entry (opening v.opening.size) v.seen entries

    -- the pass rests after it
    pub rests-next : (size room held room' held' : ℕ) (waits : List ℕ) → IsResting v size room held
        → Rests v held' waits w → drawn_in entries + room' ≤ room
        → IsStill (fold after_entry (plain_after v) entries)
        → ((k : ℕ) → Has k waits → k < (fold after_entry (plain_after v) entries).next)
        → IsResting w size room' held'
    rests-next size room held room' held' waits rests after few still drawn =
        let counted : drawn_in w.seen ≡ drawn_in v.seen + drawn_in entries =
        ap drawn_in seen ∙ sum_by-append (λ e. bit (is_enter e)) v.seen entries in
        record {
          size_is = ap (λ (o : Opening). o.size) same.opening ∙ rests.size_is;
          some = rests.some;
          most = rests.most;
          few = omega (arith, same.limit, rests.few);
          number = same.number ∙ rests.number;
          alone = same.alone ∙ rests.alone;
          ready = after.ready;
          still = subst IsStill (sym plain-next) still;
          below = omega (arith, counted, rests.below, few, same.limit);
          drawn = λ k has. subst (λ (o : Semaphore). k < o.next) (sym plain-next)
              (drawn k (subst (Has k) after.waits_are has));
          holds = after.held_is;
        }

    -- a wait that is still among the pass's waits is its own on
    pub has-next : (wait : Place) → WaitsAt v wait → Has wait.index w.facts.waits → WaitsAt w wait
    has-next wait has there = record {
      open_yet = there;
      place = known-still v w wait (goes-same v w same) has.place;
    }

-- the place of a token's wait is one where the pass waits
pub waits-at : {T : Type 0} (v : View Entry T) (wait : Wait) → HasWait v wait → WaitsAt v (place_of wait)
waits-at v wait has = record { open_yet = has.open_yet; place = has.place }

-- a number stays in a list that grows at its end
pub has-append : (k : ℕ) (xs ys : List ℕ) → Has k xs → Has k (xs ++ ys)
has-append k [] ys has = absurd has
has-append k (x ∷ xs) ys (inl same) = inl same
has-append k (x ∷ xs) ys (inr later) = inr (has-append k xs ys later)

-- the plain semaphore's answers, where a call came to this
pub free-found : (o : Semaphore) (p : ℕ) → sole_call o (call.Acquire p) ≡ tells (entry.TakeNow p ∷ []) reply.Now
    → nat_lt 0 o.free ≡ true
free-found o p told = go (nat_lt 0 o.free) refl
  where
    go : (b : Bool) → nat_lt 0 o.free ≡ b → nat_lt 0 o.free ≡ true
    go true some = some
    go false none =
        let other : reply.Later o.next ≡ reply.Now = ap (λ (t : Told). t.answer) (rw none at told) in absurd (cc)

-- none was free, and this is the next number
pub record IsNext (o : Semaphore) (k : ℕ) : Type 0 where
  pub none : nat_lt 0 o.free ≡ false
  pub number : k ≡ o.next

pub next-found : (o : Semaphore) (p k : ℕ)
    → sole_call o (call.Acquire p) ≡ tells (entry.TakeDoor p ∷ entry.Enter p k ∷ []) (reply.Later k) → IsNext o k
next-found o p k told = go (nat_lt 0 o.free) refl
  where
    go : (b : Bool) → nat_lt 0 o.free ≡ b → IsNext o k
    go true some =
        let other : reply.Now ≡ reply.Later k = ap (λ (t : Told). t.answer) (rw some at told) in absurd (cc)
    go false none =
        let same : reply.Later o.next ≡ reply.Later k = ap (λ (t : Told). t.answer) (rw none at told) in
        record { none = none; number = cc }

-- nobody waits; or this is the first of the line
pub empty-found : (o : Semaphore) (p : ℕ) → sole_call o (call.Release p) ≡ tells (entry.GiveFreed p ∷ []) reply.Freed
    → o.line ≡ []
empty-found o p told = go o.line refl
  where
    go : (line : List Waiting) → o.line ≡ line → o.line ≡ []
    go [] is = is
    go (w ∷ line) is =
        let other : reply.Sent w.wait ≡ reply.Freed = ap (λ (t : Told). t.answer) (rw is at told) in absurd (cc)

pub first-found : (o : Semaphore) (p k : ℕ)
    → sole_call o (call.Release p) ≡ tells (entry.GiveSent p ∷ entry.Deliver k ∷ []) (reply.Sent k)
    → IsFirst k o.line
first-found o p k told = go o.line refl
  where
    go : (line : List Waiting) → o.line ≡ line → IsFirst k o.line
    go [] is =
        let other : reply.Freed ≡ reply.Sent k = ap (λ (t : Told). t.answer) (rw is at told) in absurd (cc)
    go (w ∷ line) is =
        let same : reply.Sent w.wait ≡ reply.Sent k = ap (λ (t : Told). t.answer) (rw is at told) in
        let first : w.wait ≡ k = cc in
        rw is first

-- a wait that was served is in the line no more, and one that is pending stands there
pub served-found : (o : Semaphore) (p k : ℕ)
    → sole_call o (call.Poll p k) ≡ tells (entry.LookGranted p k ∷ []) reply.Granted
    → is_in_line k o.line ≡ false
served-found o p k told = go (find_wait k o.line) refl
  where
    go : (found : Option Waiting) → find_wait k o.line ≡ found → is_in_line k o.line ≡ false
    go None is = any-find k o.line ∙ ap (λ f. is_some f) is
    go (Some w) is =
        let other : reply.Pending ≡ reply.Granted = ap (λ (t : Told). t.answer) (rw is at told) in absurd (cc)

pub pending-found : (o : Semaphore) (p k : ℕ)
    → sole_call o (call.Poll p k) ≡ tells (entry.LookPending p k ∷ []) reply.Pending
    → is_in_line k o.line ≡ true
pending-found o p k told = go (find_wait k o.line) refl
  where
    go : (found : Option Waiting) → find_wait k o.line ≡ found → is_in_line k o.line ≡ true
    go (Some w) is = any-find k o.line ∙ ap (λ f. is_some f) is
    go None is =
        let other : reply.Granted ≡ reply.Pending = ap (λ (t : Told). t.answer) (rw is at told) in absurd (cc)

pub late-found : (o : Semaphore) (p k : ℕ)
    → sole_call o (call.Cancel p k) ≡ tells (entry.Late p k ∷ []) reply.TooLate
    → is_in_line k o.line ≡ false
late-found o p k told = go (find_wait k o.line) refl
  where
    go : (found : Option Waiting) → find_wait k o.line ≡ found → is_in_line k o.line ≡ false
    go None is = any-find k o.line ∙ ap (λ f. is_some f) is
    go (Some w) is =
        let other : reply.Cancelled ≡ reply.TooLate = ap (λ (t : Told). t.answer) (rw is at told) in absurd (cc)

pub left-found : (o : Semaphore) (p k : ℕ)
    → sole_call o (call.Cancel p k) ≡ tells (entry.Leave p k ∷ []) reply.Cancelled
    → is_in_line k o.line ≡ true
left-found o p k told = go (find_wait k o.line) refl
  where
    go : (found : Option Waiting) → find_wait k o.line ≡ found → is_in_line k o.line ≡ true
    go (Some w) is = any-find k o.line ∙ ap (λ f. is_some f) is
    go None is =
        let other : reply.TooLate ≡ reply.Cancelled = ap (λ (t : Told). t.answer) (rw is at told) in absurd (cc)

-- a call without entries of a pass that is alone leaves the plain semaphore as it is
pub state_same : {T : Type 0} (v w : View Entry T) → CallRule v [] [] w → v.alone ≡ true → plain_after w ≡ plain_after v
state_same v w rule alone = plain-next v w [] rule.called.same (went v w [] [] rule alone)
