-- What contracts see of a guard and of a wait.
use Rattle.std.specs.Borrow.{Fml, RattleType, MutBor, Lends}
use Rattle.cqs_rule.specs.declared.queue.tokens.Wait.{Wait}
use Rattle.cqs_semaphore.specs.declared.answers.Permit.{Permit}
use Rattle.cqs_mutex.specs.declared.guard.Guard.{Guard}
use Rattle.cqs_mutex.specs.declared.guard.LockWait.{LockWait}
use Rattle.cqs_mutex.specs.contracts.guard.Guard.{the_row}

-- the value that the guard has, and the permit that came with it
abbrev pub value_of : {T : Type 0} → Guard T → T
value_of g = g.value

abbrev pub permit_of : {T : Type 0} → Guard T → Permit
permit_of g = g.permit

-- the guard ends with the value that is left behind the reference
abbrev pub lends_value : (R : RattleType) → MutBor (Guard R.Denot) → MutBor R.Denot → Fml
lends_value R g r = Lends (the_row R) R g r (λ w. record g.now { value = w })

-- the wait of the semaphore below
abbrev pub wait_in : LockWait → Wait
wait_in w = w.wait
