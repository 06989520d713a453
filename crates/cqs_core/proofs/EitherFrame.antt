-- What one step owes, so that a core stays one, synchronous or not: its numbers fit and add up, its entry is allowed,
-- and the object after the entry is the one that is shown.
use Rattle.std.proofs.Common.{◌≡◌, ℕ, ◌+◌, ◌≤◌, ℤ, ◌≤ℤ◌, List, [], ◌∷◌, ◌++◌, length, sum, sym, ap, ap₂, ◌∙◌, subst}
use Rattle.cqs_core.specs.declared.entries.Entry.{Entry}
use Rattle.cqs_core.specs.Numbered.{EachAt}
use Rattle.cqs_core.specs.QueueState.{Queue}
use Rattle.cqs_core.specs.QueueLine as queue
use Rattle.cqs_core.specs.SemaphoreObject.{Semaphore, opening, early_of}
use Rattle.cqs_core.specs.SemaphoreEntries.{IsAllowed, after_entry, object_after, IsLegal}
use Rattle.cqs_core.specs.SemaphoreTable.{Shape, lowest, last_number}
use Rattle.cqs_core.specs.SemaphoreShown.{HasLoaded, free_of, short_of}
use Rattle.cqs_core.specs.SemaphoreCores.{IsEitherCore, shown_by_either, early}
use Rattle.cqs_core.proofs.Histories.{object-push, legal-push}
use Rattle.cqs_core.proofs.CoreFrame.{altered, Conserves}
use Rattle.cqs_core.proofs.UnbrokenMoves.{Follows}

-- the semaphore that these words and this queue show
abbrev pub seen : ℤ → List ℕ → Queue → Semaphore
seen z held q = record {
  free = free_of z;
  way = queue.way q;
  door = queue.door q;
  line = queue.line q;
  next = q.suspends;
  served = queue.services q;
  held = sum held + queue.ready q;
  spoiled = queue.spoiled q;
}

-- the state word tells how many wait with no permit on its way
abbrev pub TellsShort : ℤ → Queue → Type 0
TellsShort z q = queue.going q + short_of z + early q ≡ queue.due q + queue.ending q

-- the words that a step writes, the state word and what the passes hold, fit; and so do the queue's own
pub record WordsFit (s : Shape) (r : Queue) (z : ℤ) (held : List ℕ) : Type 0 where
  pub state : lowest ≤ℤ z
  pub suspends : r.suspends ≤ last_number
  pub resumes : r.resumes ≤ last_number
  pub loaded : EachAt HasLoaded r.doing
  pub holders : length held ≡ length s.held

-- what a step owes, for any history after it
core-step : (s : Shape) (r : Queue) (z : ℤ) (held : List ℕ) (history : List Entry)
    → IsEitherCore s → Follows s.sync s.queue r → WordsFit s r z held → TellsShort z r → Conserves s.permits z held r
    → IsLegal s.permits history → object_after s.permits history ≡ seen z held r
    → IsEitherCore (altered s z held history r)
core-step s r z held history core after words short conserved legal object =
    let passes : length r.doing ≡ length s.queue.doing = after.passes in
    record {
      plain = after.unbroken;
      range = record {
        some_permits = core.range.some_permits;
        permits = core.range.permits;
        passes = rw passes core.range.passes;
        state = words.state;
        suspends = words.suspends;
        resumes = words.resumes;
      };
      sound = after.sound;
      covered = after.covered;
      loaded = words.loaded;
      holders = words.holders ∙ core.holders ∙ sym passes;
      legal = legal;
      object = object;
      short = short;
      conserved = conserved;
    }

-- a step with an entry
pub core-push : (s : Shape) (r : Queue) (z : ℤ) (held : List ℕ) (e : Entry)
    → IsEitherCore s → Follows s.sync s.queue r → WordsFit s r z held → TellsShort z r → Conserves s.permits z held r
    → IsAllowed (shown_by_either s) e → after_entry (shown_by_either s) e ≡ seen z held r
    → IsEitherCore (altered s z held (s.history ++ e ∷ []) r)
core-push s r z held e core after words short conserved allowed shows =
    let object : object_after s.permits s.history ≡ shown_by_either s = core.object in
    let may_come : IsAllowed (object_after s.permits s.history) e =
    subst (λ (o : Semaphore). IsAllowed o e) (sym object) allowed in
    core-step s r z held (s.history ++ e ∷ []) core after words short conserved
    (legal-push IsAllowed after_entry (opening s.permits) s.history e may_come core.legal)
    (object-push IsAllowed after_entry (opening s.permits) s.history e ∙ ap (λ o. after_entry o e) object ∙ shows)

-- a step without one
pub core-quiet : (s : Shape) (r : Queue) (z : ℤ) (held : List ℕ)
    → IsEitherCore s → Follows s.sync s.queue r → WordsFit s r z held → TellsShort z r → Conserves s.permits z held r
    → shown_by_either s ≡ seen z held r
    → IsEitherCore (altered s z held s.history r)
core-quiet s r z held core after words short conserved shows =
    core-step s r z held s.history core after words short conserved core.legal (core.object ∙ shows)

-- the early numbers are as many where the same are broken and the next is the same
pub early-same : (q r : Queue) → r.suspends ≡ q.suspends → queue.spoiled r ≡ queue.spoiled q → early r ≡ early q
early-same q r next spoiled = ap₂ early_of next spoiled
