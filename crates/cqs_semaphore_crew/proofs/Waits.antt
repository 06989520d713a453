-- What a worker does at its wait: looks that find that it goes on, and what comes after them.
use Rattle.std.proofs.Common.{◌≡◌, ℕ, List, [], ◌∷◌, ◌++◌, Option, Some, None, inr, refl, sym, subst}
use Rattle.std.proofs.lemmas.List.{append-nil}
use Rattle.std.proofs.lemmas.List.Elements.{All-nil, All-push}
use Rattle.cqs_core.specs.declared.entries.Entry.{Entry}
use Rattle.cqs_core.specs.declared.entries.Entry.TheVariants as entry
use Rattle.cqs_rule_laws.specs.declared.view.View.{View}
use Rattle.cqs_semaphore.specs.declared.answers.Permit.{Permit}
use Rattle.cqs_semaphore.specs.Calls.{CallRule, Course}
use Rattle.cqs_semaphore_client.specs.SemaphoreHistories.{IsLawful}
use Rattle.cqs_semaphore_client.specs.Semaphore.{semaphore_object}
use Rattle.cqs_rule_laws.proofs.Courses.{course-call, course-then}
use Rattle.cqs_semaphore_crew.specs.Tallies.{given_up, EndsWait, LooksThen}
use Rattle.cqs_semaphore_crew.proofs.Meeting.{course-none}

-- a wait that was given up ended so
pub ends-given : (p k : ℕ) (answer : Option Permit) → EndsWait p k answer (given_up p k answer)
ends-given p k (Some permit) = inr refl
ends-given p k None = refl

module _ {T : Type 0} where
  -- no look yet
  pub looks-none : (k : ℕ) (v : View Entry T) → IsLawful v.opening.sync v.opening.size v.seen → LooksThen k [] v v
  looks-none k v legal = record {
    looks = [];
    pending = All-nil (λ e. e ≡ entry.LookPending v.number k);
    course = course-none v legal;
  }

  -- some looks, and then these entries
  pub looks-then : (k : ℕ) (v u w : View Entry T) (made last : List Entry) → LooksThen k [] v u → Course u made w
      → made ≡ last → LooksThen k last v w
  looks-then k v u w made last l course same = record {
    looks = l.looks;
    pending = l.pending;
    course = subst (λ es. Course v es w) (λ i. append-nil l.looks i ++ same i)
        (course-then semaphore_object v u w (l.looks ++ []) made l.course course);
  }

  -- one look more
  pub looks-more : (k place : ℕ) (v u w : View Entry T) (further : List Entry) → LooksThen k [] v u
      → CallRule u (entry.LookPending u.number place ∷ []) further w → place ≡ k → LooksThen k [] v w
  looks-more k place v u w further l rule same =
      let one = looks-then k v u w (entry.LookPending u.number place ∷ []) (entry.LookPending v.number k ∷ []) l
      (course-call semaphore_object u w (entry.LookPending u.number place ∷ []) further _ rule)
      (λ i. entry.LookPending (l.course.number i) (same i) ∷ []) in
      record {
        looks = one.looks ++ entry.LookPending v.number k ∷ [];
        pending = All-push (λ e. e ≡ entry.LookPending v.number k) one.looks (entry.LookPending v.number k) one.pending
            refl;
        course = subst (λ es. Course v es w) (sym (append-nil (one.looks ++ entry.LookPending v.number k ∷ [])))
            one.course;
      }

  -- a look that found the permit
  pub looks-granted : (k place : ℕ) (v u w : View Entry T) (further : List Entry) → LooksThen k [] v u
      → CallRule u (entry.LookGranted u.number place ∷ []) further w → place ≡ k
      → LooksThen k (entry.LookGranted v.number k ∷ []) v w
  looks-granted k place v u w further l rule same =
      looks-then k v u w (entry.LookGranted u.number place ∷ []) (entry.LookGranted v.number k ∷ []) l
      (course-call semaphore_object u w (entry.LookGranted u.number place ∷ []) further _ rule)
      (λ i. entry.LookGranted (l.course.number i) (same i) ∷ [])

  -- the wait was given up
  pub looks-given : (k place : ℕ) (answer : Option Permit) (v u w : View Entry T) → LooksThen k [] v u
      → Course u (given_up u.number place answer ∷ []) w → place ≡ k
      → LooksThen k (given_up v.number k answer ∷ []) v w
  looks-given k place answer v u w l course same =
      looks-then k v u w (given_up u.number place answer ∷ []) (given_up v.number k answer ∷ []) l course
      (λ i. given_up (l.course.number i) (same i) answer ∷ [])
