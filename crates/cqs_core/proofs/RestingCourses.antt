-- A whole call that comes to its end in the reading of a core does the same in the core, event by event.
use Rattle.std.proofs.Common.{◌≡◌, inl, inr, ℕ, zero, suc, Option, Some, None, IsSome, slice_get, refl, ap, ◌∙◌, subst}
use Rattle.std.specs.Option.{option_map, option_and_then}
use Rattle.cqs_core.specs.declared.calls.Call.{Call}
use Rattle.cqs_core.specs.declared.calls.Call.TheVariants as call
use Rattle.cqs_core.specs.declared.calls.Reply.{Reply}
use Rattle.cqs_core.specs.declared.events.Event.{Event}
use Rattle.cqs_core.specs.declared.events.Event.TheVariants as event
use Rattle.cqs_core.specs.declared.outcomes.Outcome.{Outcome}
use Rattle.cqs_core.specs.declared.outcomes.Outcome.TheVariants as outcome
use Rattle.cqs_core.specs.declared.calls.Reply.TheVariants as reply
use Rattle.cqs_core.specs.SemaphoreCalls.{Course, Landed, refused, replied, stuck, first, onward, after_install, after_draw, after_take, after_swap, after_load, after_meet, resumes_in, resumes_at, ahead, lands, after_give, after_look, after_settle, after_decide, after_leave, course, HasEnd}
use Rattle.cqs_core.specs.SemaphoreCores.{IsEitherCore}
use Rattle.cqs_core.specs.SemaphoreTable.{Shape, Stepped, step}
use Rattle.cqs_core.proofs.EitherTable.{row-core}
use Rattle.cqs_core.proofs.RestingCores.{as_plain}
use Rattle.cqs_core.proofs.RestingRows.{plain_row, Agrees, IsLeft, Stops, Follows, take-agrees, try_load-agrees, try_swap-agrees, give-agrees, decide-agrees, draw-agrees, reach-agrees, leave-agrees, look-agrees, settle-agrees, install-follows, meet-follows}

abbrev pub plain_course : Course → Course
plain_course refused = refused
plain_course (replied s given) = replied (as_plain s) given
plain_course stuck = stuck

abbrev plain_landed : Landed → Landed
plain_landed l = record { shape = as_plain l.shape; wait = l.wait }

-- how a call goes on is the same in both where it comes to a reply, and it doesn't go on from a value that was left
record GoesAlike (next : Shape → Outcome → Course) : Type 0 where
  at : (s : Shape) (o : Outcome) → IsEitherCore s → HasEnd (next (as_plain s) o)
      → next (as_plain s) o ≡ plain_course (next s o)
  left : (s : Shape) (k : ℕ) → next s (outcome.Left k) ≡ stuck

first-alike : (s : Shape) (e : Event) (y : Option Stepped) (next : Shape → Outcome → Course) → IsEitherCore s
    → Agrees (step s e) y → GoesAlike next → HasEnd (first y next) → first y next ≡ plain_course (first (step s e) next)
first-alike s e y next core agrees alike ends = go (step s e) refl y agrees ends
  where
    go : (x : Option Stepped) → step s e ≡ x → (y : Option Stepped) → Agrees x y → HasEnd (first y next)
        → first y next ≡ plain_course (first x next)
    go None is y agrees ends = rw agrees refl
    go (Some t) is y agrees ends =
        let goes : HasEnd (next (as_plain t.shape) t.outcome) = subst (λ o. HasEnd (first o next)) agrees ends in
        ap (λ o. first o next) agrees ∙ alike.at t.shape t.outcome (row-core s e t core is) goes

stops-stuck : (y : Option Stepped) (next : Shape → Outcome → Course) → GoesAlike next → Stops y → HasEnd (onward y next)
    → ⊥
stops-stuck None next alike stops ends = ends
stops-stuck (Some t) next alike stops ends = go t.outcome stops ends
  where
    go : (o : Outcome) → IsLeft o → HasEnd (next t.shape o) → ⊥
    go (outcome.Left k) left ends = subst (λ x. HasEnd x) (alike.left t.shape k) ends
    go _ left ends = left

onward-alike : (s : Shape) (e : Event) (y : Option Stepped) (next : Shape → Outcome → Course) → IsEitherCore s
    → Follows (step s e) y → GoesAlike next → HasEnd (onward y next)
    → onward y next ≡ plain_course (onward (step s e) next)
onward-alike s e y next core (inr stops) alike ends = absurd (stops-stuck y next alike stops ends)
onward-alike s e y next core (inl agrees) alike ends = go (step s e) refl y agrees ends
  where
    go : (x : Option Stepped) → step s e ≡ x → (y : Option Stepped) → Agrees x y → HasEnd (onward y next)
        → onward y next ≡ plain_course (onward x next)
    go None is y agrees ends = rw agrees refl
    go (Some t) is y agrees ends =
        let goes : HasEnd (next (as_plain t.shape) t.outcome) = subst (λ o. HasEnd (onward o next)) agrees ends in
        ap (λ o. onward o next) agrees ∙ alike.at t.shape t.outcome (row-core s e t core is) goes

after_install-alike : GoesAlike after_install
after_install-alike = record { at = λ s o core ends. at s o; left = λ s k. refl }
  where
    at : (s : Shape) (o : Outcome) → after_install (as_plain s) o ≡ plain_course (after_install s o)
    at s (outcome.Waits k) = refl
    at s (outcome.Took k) = refl
    at s _ = refl

after_draw-alike : (p : ℕ) → GoesAlike (after_draw p)
after_draw-alike p = record { at = at; left = λ s k. refl }
  where
    at : (s : Shape) (o : Outcome) → IsEitherCore s → HasEnd (after_draw p (as_plain s) o)
        → after_draw p (as_plain s) o ≡ plain_course (after_draw p s o)
    at s (outcome.Drew k) core ends =
        onward-alike s (event.Install p) (step (as_plain s) (event.Install p)) after_install core
        (install-follows s p (slice_get s.queue.doing p)) after_install-alike ends
    at s _ core ends = refl

after_take-alike : (p : ℕ) → GoesAlike (after_take p)
after_take-alike p = record { at = at; left = λ s k. refl }
  where
    at : (s : Shape) (o : Outcome) → IsEitherCore s → HasEnd (after_take p (as_plain s) o)
        → after_take p (as_plain s) o ≡ plain_course (after_take p s o)
    at s outcome.Now core ends = refl
    at s outcome.Door core ends =
        onward-alike s (event.Draw p) (step (as_plain s) (event.Draw p)) (after_draw p) core
        (inl (draw-agrees s p (slice_get s.queue.doing p))) (after_draw-alike p) ends
    at s _ core ends = refl

after_swap-alike : GoesAlike after_swap
after_swap-alike = record { at = λ s o core ends. at s o; left = λ s k. refl }
  where
    at : (s : Shape) (o : Outcome) → after_swap (as_plain s) o ≡ plain_course (after_swap s o)
    at s outcome.Got = refl
    at s _ = refl

after_load-alike : (p : ℕ) → GoesAlike (after_load p)
after_load-alike p = record { at = at; left = λ s k. refl }
  where
    at : (s : Shape) (o : Outcome) → IsEitherCore s → HasEnd (after_load p (as_plain s) o)
        → after_load p (as_plain s) o ≡ plain_course (after_load p s o)
    at s outcome.Busy core ends = refl
    at s (outcome.Loaded v) core ends =
        onward-alike s (event.TrySwap p) (step (as_plain s) (event.TrySwap p)) after_swap core
        (inl (try_swap-agrees s p (slice_get s.queue.doing p))) after_swap-alike ends
    at s _ core ends = refl

-- one number of a resumption, where what goes on from a passed cell is the same in both
next_number-alike : (again : Shape → Option Landed) (p : ℕ) (s : Shape) → IsEitherCore s
    → ((t : Shape) → IsEitherCore t → IsSome (again (as_plain t)) → again (as_plain t) ≡ option_map plain_landed
    (again t))
    → IsSome (option_and_then
    (λ r. option_and_then (λ m. after_meet again m.shape m.outcome) (step r.shape (event.Meet p)))
    (step (as_plain s) (event.Reach p)))
    → option_and_then
    (λ r. option_and_then (λ m. after_meet again m.shape m.outcome) (step r.shape (event.Meet p)))
    (step (as_plain s) (event.Reach p))
    ≡ option_map plain_landed (option_and_then
    (λ r. option_and_then (λ m. after_meet again m.shape m.outcome) (step r.shape (event.Meet p)))
    (step s (event.Reach p)))
next_number-alike again p s core rest lands =
    reached (step s (event.Reach p)) refl (step (as_plain s) (event.Reach p))
    (reach-agrees s p (slice_get s.queue.doing p)) lands
  where
    lands_at : Option Stepped → Option Landed
    lands_at o = option_and_then (λ m. after_meet again m.shape m.outcome) o

    meets : Stepped → Option Landed
    meets t = lands_at (step t.shape (event.Meet p))

    after : (m : Shape) (o : Outcome) → IsEitherCore m → IsSome (after_meet again (as_plain m) o)
        → after_meet again (as_plain m) o ≡ option_map plain_landed (after_meet again m o)
    after m (outcome.Served k) kept lands = refl
    after m (outcome.Passed k) kept lands = rest m kept lands
    after m _ kept lands = refl

    left : (m : Shape) (o : Outcome) → IsLeft o → IsSome (after_meet again m o) → ⊥
    left m (outcome.Left k) stops lands = absurd (cc)
    left m _ stops lands = stops

    met : (t : Shape) → IsEitherCore t → (x : Option Stepped) → step t (event.Meet p) ≡ x → (y : Option Stepped)
        → Follows x y → IsSome (lands_at y) → lands_at y ≡ option_map plain_landed (lands_at x)
    met t kept x is None (inr stops) lands = absurd (cc)
    met t kept x is (Some m) (inr stops) lands = absurd (left m.shape m.outcome stops lands)
    met t kept None is y (inl agrees) lands = rw agrees refl
    met t kept (Some m) is y (inl agrees) lands =
        let goes : IsSome (after_meet again (as_plain m.shape) m.outcome) =
        subst (λ o. IsSome (lands_at o)) agrees lands in
        ap lands_at agrees ∙ after m.shape m.outcome (row-core t (event.Meet p) m kept is) goes

    reached : (x : Option Stepped) → step s (event.Reach p) ≡ x → (y : Option Stepped) → Agrees x y
        → IsSome (option_and_then meets y) → option_and_then meets y ≡ option_map plain_landed (option_and_then meets x)
    reached None is y agrees lands = rw agrees refl
    reached (Some t) is y agrees lands =
        let kept : IsEitherCore t.shape = row-core s (event.Reach p) t core is in
        let goes : IsSome (meets (plain_row t)) = subst (λ o. IsSome (option_and_then meets o)) agrees lands in
        ap (option_and_then meets) agrees
        ∙ met t.shape kept (step t.shape (event.Meet p)) refl (step (as_plain t.shape) (event.Meet p))
        (meet-follows t.shape p kept (slice_get t.shape.queue.doing p) refl) goes

-- a resumption that lands in the reading lands there in the core
resumes-alike : (n p : ℕ) (s : Shape) → IsEitherCore s → IsSome (resumes_in n p (as_plain s))
    → resumes_in n p (as_plain s) ≡ option_map plain_landed (resumes_in n p s)
resumes-alike zero p s core lands = absurd (cc)
resumes-alike (suc n) p s core lands =
    next_number-alike (λ t. resumes_in n p t) p s core (λ t kept goes. resumes-alike n p t kept goes) lands

lands-alike : (p : ℕ) (s : Shape) (answer : ℕ → Reply) → IsEitherCore s
    → HasEnd (lands answer (resumes_at p (as_plain s)))
    → lands answer (resumes_at p (as_plain s)) ≡ plain_course (lands answer (resumes_at p s))
lands-alike p s answer core ends =
    ap (lands answer) (resumes-alike (suc (ahead s)) p s core (some (resumes_at p (as_plain s)) ends))
    ∙ go (resumes_at p s)
  where
    some : (o : Option Landed) → HasEnd (lands answer o) → IsSome o
    some None ends = absurd ends
    some (Some l) ends = refl

    go : (o : Option Landed) → lands answer (option_map plain_landed o) ≡ plain_course (lands answer o)
    go None = refl
    go (Some l) = refl

after_give-alike : (p : ℕ) → GoesAlike (after_give p)
after_give-alike p = record { at = at; left = λ s k. refl }
  where
    at : (s : Shape) (o : Outcome) → IsEitherCore s → HasEnd (after_give p (as_plain s) o)
        → after_give p (as_plain s) o ≡ plain_course (after_give p s o)
    at s outcome.Freed core ends = refl
    at s outcome.Owes core ends = lands-alike p s (λ k. reply.Sent k) core ends
    at s _ core ends = refl

after_look-alike : GoesAlike after_look
after_look-alike = record { at = λ s o core ends. at s o; left = λ s k. refl }
  where
    at : (s : Shape) (o : Outcome) → after_look (as_plain s) o ≡ plain_course (after_look s o)
    at s outcome.Granted = refl
    at s outcome.Pending = refl
    at s _ = refl

after_settle-alike : (p : ℕ) → GoesAlike (after_settle p)
after_settle-alike p = record { at = at; left = λ s k. refl }
  where
    at : (s : Shape) (o : Outcome) → IsEitherCore s → HasEnd (after_settle p (as_plain s) o)
        → after_settle p (as_plain s) o ≡ plain_course (after_settle p s o)
    at s (outcome.Cancelled k) core ends = refl
    at s (outcome.Refused k) core ends = refl
    at s (outcome.OwesOn k) core ends = lands-alike p s (λ _. reply.Cancelled) core ends
    at s _ core ends = refl

after_decide-alike : (p : ℕ) → GoesAlike (after_decide p)
after_decide-alike p = record { at = at; left = λ s k. refl }
  where
    at : (s : Shape) (o : Outcome) → IsEitherCore s → HasEnd (after_decide p (as_plain s) o)
        → after_decide p (as_plain s) o ≡ plain_course (after_decide p s o)
    at s (outcome.Decided on) core ends =
        onward-alike s (event.Settle p) (step (as_plain s) (event.Settle p)) (after_settle p) core
        (inl (settle-agrees s p (slice_get s.queue.doing p))) (after_settle-alike p) ends
    at s _ core ends = refl

after_leave-alike : (p : ℕ) → GoesAlike (after_leave p)
after_leave-alike p = record { at = at; left = λ s k. refl }
  where
    at : (s : Shape) (o : Outcome) → IsEitherCore s → HasEnd (after_leave p (as_plain s) o)
        → after_leave p (as_plain s) o ≡ plain_course (after_leave p s o)
    at s (outcome.Cancelling k) core ends =
        onward-alike s (event.Decide p) (step (as_plain s) (event.Decide p)) (after_decide p) core
        (inl (decide-agrees s p (slice_get s.queue.doing p))) (after_decide-alike p) ends
    at s (outcome.TooLate k) core ends = refl
    at s _ core ends = refl

-- a call that comes to an end in the reading does in the core
pub course-plain : (s : Shape) (c : Call) → IsEitherCore s → HasEnd (course (as_plain s) c)
    → course (as_plain s) c ≡ plain_course (course s c)
course-plain s (call.Acquire p) core ends =
    first-alike s (event.Take p) (step (as_plain s) (event.Take p)) (after_take p) core
    (take-agrees s p (slice_get s.queue.doing p)) (after_take-alike p) ends
course-plain s (call.Try p) core ends =
    first-alike s (event.TryLoad p) (step (as_plain s) (event.TryLoad p)) (after_load p) core
    (try_load-agrees s p (slice_get s.queue.doing p)) (after_load-alike p) ends
course-plain s (call.Release p) core ends =
    first-alike s (event.Give p) (step (as_plain s) (event.Give p)) (after_give p) core
    (give-agrees s p (slice_get s.queue.doing p)) (after_give-alike p) ends
course-plain s (call.Poll p k) core ends =
    first-alike s (event.Look p k) (step (as_plain s) (event.Look p k)) after_look core
    (look-agrees s p k (slice_get s.queue.doing p)) after_look-alike ends
course-plain s (call.Cancel p k) core ends =
    first-alike s (event.Leave p k) (step (as_plain s) (event.Leave p k)) (after_leave p) core
    (leave-agrees s p k (slice_get s.queue.doing p)) (after_leave-alike p) ends
