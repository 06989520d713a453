-- A pass to which a permit came holds one.
use Rattle.std.proofs.Common.{ℕ, ◌+◌, ◌<◌, Option, Some, None, Ok, inl, inr, arith}
use Rattle.cqs_core.specs.declared.entries.Entry.{Entry}
use Rattle.cqs_rule_laws.specs.declared.view.View.{View}
use Rattle.cqs_semaphore.specs.declared.answers.Permit.{Permit}
use Rattle.cqs_semaphore.specs.Answers.{Takes}
use Rattle.cqs_waiter.specs.Permits.{PermitArrives}

module _ {T : Type 0} where
  took-holds : (v w : View Entry T) (k : Option ℕ) → Takes v k w → 0 < w.facts.has.held
  took-holds v w None free = omega (arith, free.rests.held_is)
  took-holds v w (Some k) left = omega (arith, left.2.held_is)

  pub arrived-holds : (v w : View Entry T) (permit : Permit) → PermitArrives v None (Ok permit) w
      → 0 < w.facts.has.held
  arrived-holds v w permit (inl acquired) = took-holds v w _ acquired.acquired
  arrived-holds v w permit (inr by) = omega (arith, by.3.served.polled.2.held_is)
