-- A semaphore of the running queue with its one pass is one as a floor needs it.
use Rattle.std.proofs.Common.{◌≡◌, ℕ, ◌+◌, true, false, [], Option, Some, None, Ok, length, refl, sym, subst, vec_capacity}
use Rattle.cqs_rule_laws.specs.declared.config.Place.{Place}
use Rattle.cqs_rule.specs.declared.queue.tokens.Under.{Under as Token}
use Rattle.cqs_rule.specs.declared.queue.tokens.Wait.{Wait}
use Rattle.cqs_rule_laws.specs.declared.view.View.{View}
use Rattle.cqs_core.specs.declared.entries.Entry.{Entry}
use Rattle.cqs_rule.specs.Passes.{pass_view}
use Rattle.cqs_rule.specs.Waits.{place_of}
use Rattle.cqs_semaphore.specs.declared.answers.Acquired.TheVariants.{Now, Later}
use Rattle.cqs_semaphore.specs.declared.answers.CancelAnswer.TheVariants.{Cancelled, TooLate}
use Rattle.cqs_semaphore.specs.declared.answers.Permit.{Permit}
use Rattle.cqs_semaphore.specs.declared.answers.Polled.TheVariants.{Granted, Pending}
use Rattle.cqs_semaphore.specs.declared.answers.Released.TheVariants.{Freed, Sent}
use Rattle.cqs_semaphore.proofs.PlainPasses.{plain-seen}
use Rattle.cqs_semaphore.specs.Alone.{IsPlainAcquire, IsPlainCancel, IsPlainPoll, IsPlainRelease}
use Rattle.cqs_semaphore.specs.Answers.{IsPolled}
use Rattle.cqs_semaphore.specs.Answers.{Acquires as Got, Releases as Gave}
use Rattle.cqs_semaphore.specs.Entries.{acquired_entries, acquired_further, polled_entries, released_entries, released_further}
use Rattle.cqs_semaphore.specs.Steps.{HasCancelled}
use Rattle.cqs_semaphore.specs.Calls.{CallRule, IsMine, plain_after}
use Rattle.cqs_floor_alone_kinds.specs.declared.queue_sole.QueueSole.{QueueSole}
use Rattle.cqs_floor_alone_kinds.specs.Soles.{Acquires, Cancels, IsLawful, Polls, Releases}
use Rattle.cqs_floor_alone_kinds.specs.SoleQueue.{semaphore_pass, sole_queue}
use Rattle.cqs_floor_alone_kinds.proofs.OnePasses.{one-frees, one-grants, one-lates, one-lawful, one-leaves, one-pends, one-sends, one-takes, one-waits}
use Rattle.cqs_floor_alone_kinds.proofs.PassCalls.{frees-comes, grants-comes, lates-comes, pends-comes, sent-comes, takes-comes, takes-free, waits-comes, waits-next}
use Rattle.cqs_floor_alone_kinds.proofs.PassRests.{empty-found, first-found, late-found, left-found, pending-found, served-found, waits-at}
use Rattle.cqs_floor_alone_kinds.proofs.QueueSends.{HasLeft}

pub queue-lawful : IsLawful sole_queue
queue-lawful = one-lawful semaphore_pass (λ x mine. plain-seen x.semaphore mine (λ s. refl) mine.live.legal)

module _ (x y : QueueSole) (mine : IsMine y.semaphore y.pass)
    (capacity : vec_capacity y.permits ≡ vec_capacity x.permits) where
  abbrev v : View Entry (Unit {0})
  v = pass_view x.pass

  abbrev w : View Entry (Unit {0})
  w = pass_view y.pass

  -- An acquire.
  pub queue-takes : (permit : Permit)
      → CallRule v (acquired_entries v.number (Ok (Now permit))) (acquired_further (Ok (Now permit))) w
      → Got v (Now permit) w → (v.alone ≡ true → IsPlainAcquire v (Now permit))
      → length y.permits.items ≡ length x.permits.items + 1 → Acquires sole_queue x None y
  queue-takes permit rule got plain one_more =
      one-takes semaphore_pass x y mine capacity (takes-comes v w permit rule got plain)
      (takes-free v w permit plain) one_more

  pub queue-waits : (wait : Wait) (at : Place) → at ≡ place_of wait
      → CallRule v (acquired_entries v.number (Ok (Later wait))) (acquired_further (Ok (Later wait))) w
      → Got v (Later wait) w → (v.alone ≡ true → IsPlainAcquire v (Later wait))
      → length y.permits.items ≡ length x.permits.items → Acquires sole_queue x (Some at) y
  queue-waits wait at is rule got plain kept =
      subst (λ a. Acquires sole_queue x (Some a) y) (sym is)
      (one-waits semaphore_pass x y mine capacity (place_of wait) (waits-comes v w wait rule got)
      (waits-at w wait got.2) (waits-next v w wait plain) kept)

  -- A release.
  module _ (one_less : length y.permits.items + 1 ≡ length x.permits.items) where
    pub queue-frees : CallRule v (released_entries v.number (Ok Freed)) (released_further (Ok Freed)) w
        → Gave v Freed w → (v.alone ≡ true → IsPlainRelease v Freed w) → Releases sole_queue x None y
    queue-frees rule gave plain =
        one-frees semaphore_pass x y mine capacity one_less (frees-comes v w rule gave)
        (λ alone. empty-found (plain_after v) v.number (plain alone))

    pub queue-sent : (k : ℕ)
        → CallRule v (released_entries v.number (Ok (Sent k))) (released_further (Ok (Sent k))) w
        → Gave v (Sent k) w → (v.alone ≡ true → IsPlainRelease v (Sent k) w) → Releases sole_queue x (Some k) y
    queue-sent k rule gave plain =
        one-sends semaphore_pass x y mine capacity one_less k (sent-comes v w k rule gave)
        (λ alone. first-found (plain_after v) v.number k (plain alone))

  -- The end of a wait.
  module _ (wait : Wait) (at : Place) (is : place_of wait ≡ at) where
    abbrev number : ℕ
    number = (place_of wait).index

    pub queue-grants : (permit : Permit)
        → CallRule v (polled_entries v.number number (Granted permit)) [] w
        → IsPolled wait v (Granted permit) w → (v.alone ≡ true → IsPlainPoll number v (Granted permit))
        → length y.permits.items ≡ length x.permits.items + 1 → Polls sole_queue x at true y
    queue-grants permit rule polled plain one_more =
        subst (λ a. Polls sole_queue x a true y) is
        (one-grants semaphore_pass x y mine capacity (place_of wait) (grants-comes v w wait permit rule polled)
        (λ alone. served-found (plain_after v) v.number number (plain alone)) one_more)

    pub queue-lates : (permit : Permit) → HasCancelled number v (TooLate permit) w
        → (v.alone ≡ true → IsPlainCancel number v (TooLate permit))
        → length y.permits.items ≡ length x.permits.items + 1 → Cancels sole_queue x at false y
    queue-lates permit cancelled plain one_more =
        subst (λ a. Cancels sole_queue x a false y) is
        (one-lates semaphore_pass x y mine capacity (place_of wait) (lates-comes v w number permit cancelled)
        (λ alone. late-found (plain_after v) v.number number (plain alone)) one_more)

    module _ (kept : length y.permits.items ≡ length x.permits.items) where
      pub queue-pends : (back : Wait) → CallRule v (polled_entries v.number number (Pending back)) [] w
          → IsPolled wait v (Pending back) w → (v.alone ≡ true → IsPlainPoll number v (Pending back))
          → Polls sole_queue x at false y
      queue-pends back rule polled plain =
          subst (λ a. Polls sole_queue x a false y) is
          (one-pends semaphore_pass x y mine capacity (place_of wait) kept (pends-comes v w wait back rule polled)
          (λ alone. pending-found (plain_after v) v.number number (plain alone)))

      pub queue-leaves : (under : Option Token)
          → (v.alone ≡ true → IsPlainCancel number v (Cancelled under))
          → (v.alone ≡ true → (plain_after v).way ≡ 0 → HasLeft number v w)
          → Cancels sole_queue x at true y
      queue-leaves under plain leaves =
          subst (λ a. Cancels sole_queue x a true y) is
          (one-leaves semaphore_pass x y mine capacity (place_of wait) kept leaves
          (λ alone. left-found (plain_after v) v.number number (plain alone)))
