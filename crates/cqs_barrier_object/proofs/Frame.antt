-- What any step of a barrier owes, by what it shows: nothing that is seen, one entry, or a resumption that reaches
-- its wait.
use Rattle.std.proofs.Common.{◌≡◌, ◌⊎◌, inl, inr, ℕ, ◌+◌, ◌-◌, ◌<◌, ◌≤◌, List, [], ◌∷◌, ◌++◌, length, take, sum, refl, ap, sym, ◌∙◌, subst, arith}
use Rattle.std.proofs.lemmas.Bool.{cases_lt}
use Rattle.std.proofs.lemmas.List.{take_all}
use Rattle.cqs_core.specs.Numbered.{EachAt}
use Rattle.cqs_core.specs.QueueLine.{going, ending, due, line}
use Rattle.cqs_core.specs.QueueSound.{IsSound}
use Rattle.cqs_core.specs.QueueState.{Queue}
use Rattle.cqs_core.specs.QueueWaiters.{Waits, waiters}
use Rattle.cqs_core.proofs.Histories.{legal-push, object-push}
use Rattle.cqs_core.proofs.QueueBegins.{Quiet, Delivered}
use Rattle.cqs_barrier_object.specs.declared.entries.BarrierEntry.{BarrierEntry}
use Rattle.cqs_barrier_object.specs.declared.entries.BarrierEntry.TheVariants as entry
use Rattle.cqs_barrier_object.specs.BarrierObject.{Barrier, opening}
use Rattle.cqs_barrier_object.specs.BarrierEntries.{IsAllowed, after_entry, object_after, IsLegal}
use Rattle.cqs_barrier_object.specs.BarrierShown.{Shape, stayed_in, shown_by, shown_barrier, HasParty, IsBefore, IsBarrier}

pub same-barrier : {a b : Barrier} → a.remaining ≡ b.remaining → a.way ≡ b.way → a.waiters ≡ b.waiters
    → a.stayed ≡ b.stayed
    → a ≡ b
same-barrier remaining way waiters stayed =
    λ i. record { remaining = remaining i; way = way i; waiters = waiters i; stayed = stayed i }

-- the barrier with other words, counts, history and queue
abbrev pub changed : Shape → ℕ → List ℕ → List ℕ → List BarrierEntry → Queue → Shape
changed s remaining held owed history q = record {
  parties = s.parties;
  remaining = remaining;
  held = held;
  owed = owed;
  history = history;
  queue = q;
}

-- the new history is legal, and shows what the words and the queue then show
pub barrier-step : (s : Shape) (remaining : ℕ) (held owed : List ℕ) (history : List BarrierEntry) (q : Queue)
    → IsBarrier s → IsSound q → IsLegal s.parties history
    → object_after s.parties history ≡ shown_by remaining owed q
    → length held ≡ length s.held → length owed ≡ length s.owed → length q.doing ≡ length s.queue.doing
    → remaining ≡ sum held
    → (0 < remaining → IsBefore s.parties remaining owed q)
    → (remaining ≡ 0 → going q + sum owed ≡ due q + ending q)
    → EachAt (HasParty held) q.doing
    → IsBarrier (changed s remaining held owed history q)
barrier-step s remaining held owed history q is sound legal object holders owners passes sums before over party =
    record {
      sound = sound;
      legal = legal;
      object = object;
      holders = holders ∙ is.holders ∙ sym passes;
      owners = owners ∙ is.owners ∙ sym passes;
      held = sums;
      before = before;
      over = over;
      party = party;
    }

-- a step that nobody sees
pub quiet-barrier : (s : Shape) (owed : List ℕ) (q : Queue) (n : ℕ) → IsBarrier s → IsSound q
    → Quiet s.queue q s.owed owed n
    → (0 < s.remaining → q.resumes ≡ 0)
    → stayed_in q ≡ stayed_in s.queue
    → length owed ≡ length s.owed → length q.doing ≡ length s.queue.doing
    → EachAt (HasParty s.held) q.doing
    → IsBarrier (changed s s.remaining s.held owed s.history q)
quiet-barrier s owed q n is sound quiet resumes kept owners passes party =
    let ways : going s.queue + sum s.owed - ending s.queue ≡ going q + sum owed - ending q =
    omega (arith, quiet.total, quiet.ending) in
    barrier-step s s.remaining s.held owed s.history q is sound is.legal
    (is.object ∙ same-barrier refl ways (sym quiet.waiters) (sym kept)) refl owners passes is.held
    (λ some. let was = is.before some in
    record {
      resumes = resumes some;
      none = omega (arith, was.none, quiet.total, quiet.ending);
      parties = omega (arith, was.parties, quiet.due);
    })
    (λ none. omega (arith, is.over none, quiet.total, quiet.ending, quiet.due))
    party

-- a step with an entry
pub push-barrier : (s : Shape) (remaining : ℕ) (held owed : List ℕ) (e : BarrierEntry) (q : Queue)
    → IsBarrier s → IsSound q → IsAllowed (shown_barrier s) e
    → after_entry (shown_barrier s) e ≡ shown_by remaining owed q
    → length held ≡ length s.held → length owed ≡ length s.owed → length q.doing ≡ length s.queue.doing
    → remaining ≡ sum held
    → (0 < remaining → IsBefore s.parties remaining owed q)
    → (remaining ≡ 0 → going q + sum owed ≡ due q + ending q)
    → EachAt (HasParty held) q.doing
    → IsBarrier (changed s remaining held owed (s.history ++ e ∷ []) q)
push-barrier s remaining held owed e q is sound allowed shows holders owners passes sums before over party =
    barrier-step s remaining held owed (s.history ++ e ∷ []) q is sound
    (legal-push IsAllowed after_entry (opening s.parties) s.history e
    (subst (λ (o : Barrier). IsAllowed o e) (sym is.object) allowed) is.legal)
    (object-push IsAllowed after_entry (opening s.parties) s.history e
    ∙ ap (λ o. after_entry o e) is.object ∙ shows)
    holders owners passes sums before over party

-- all the line is among the first of it, where as many are on their way as wait
all-first : (q : Queue) (way : ℕ) (k c : ℕ) → length (line q) ≤ way → Waits k c (line q)
    → Waits k c (take way (line q))
all-first q way k c enough waits = rw (take_all way (line q) enough) waits

-- a resumption reaches a wait
pub delivered-barrier : (s : Shape) (owed : List ℕ) (q : Queue) (k c : ℕ) → IsBarrier s → IsSound q
    → Delivered s.queue q s.owed owed k c
    → stayed_in q ≡ stayed_in s.queue
    → length owed ≡ length s.owed → length q.doing ≡ length s.queue.doing
    → EachAt (HasParty s.held) q.doing
    → IsBarrier (changed s s.remaining s.held owed (s.history ++ entry.Deliver k ∷ []) q)
delivered-barrier s owed q k c is sound serves kept owners passes party = go (cases_lt 0 s.remaining)
  where
    go : (0 < s.remaining) ⊎ (s.remaining ≤ 0)
        → IsBarrier (changed s s.remaining s.held owed (s.history ++ entry.Deliver k ∷ []) q)
    go (inl some) = let was = is.before some in absurd (omega (arith, was.none, serves.some))
    go (inr all) =
        let none : s.remaining ≡ 0 = omega arith in
        let over : going s.queue + sum s.owed ≡ due s.queue + ending s.queue = is.over none in
        let enough : length (line s.queue) ≤ going s.queue + sum s.owed - ending s.queue = omega arith in
        let ways : going s.queue + sum s.owed - ending s.queue - 1 ≡ going q + sum owed - ending q =
        omega (arith, serves.total, serves.ending) in
        push-barrier s s.remaining s.held owed (entry.Deliver k) q is sound
        (none, (c, all-first s.queue _ k c enough serves.stands))
        (same-barrier refl ways (sym serves.waiters) (sym kept)) refl owners passes is.held
        (λ some. absurd (omega arith))
        (λ zero. omega (arith, over, serves.total, serves.ending, serves.due))
        party
