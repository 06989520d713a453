-- What a split and a meet by number have done, of a barrier: each is refused, for a cause that is
-- the callers'; or it was the barrier's own, of whose contract those clauses hold that stand here.
use Rattle.std.specs.Prelude.{◌≡◌, ◌⊎◌, ℕ, ◌+◌, ◌++◌, ◌<◌, ◌≤◌, true, [], None, IsSome}
use Rattle.cqs_rule_laws.specs.declared.carries.Unparked.{Unparked}
use Rattle.cqs_rule_laws.specs.Crew.{CameWith}
use Rattle.cqs_rule.specs.Passes.{pass_view, passes_of}
use Rattle.cqs_rule.specs.Seats.{IsBusy, HasLookedOn, HasGiven, HasMet}
use Rattle.cqs_rule_laws.specs.Views.{made_in}
use Rattle.cqs_barrier.specs.declared.barrier.Barrier.{Barrier}
use Rattle.cqs_barrier.specs.Barrier.{barrier_object}
use Rattle.cqs_c_callers.specs.declared.answers.Answer.{Answer}
use Rattle.cqs_c_callers.specs.declared.answers.Answer.TheVariants as answer
use Rattle.cqs_c_latch_callers.specs.declared.barrier_caller.BarrierCaller.{BarrierCaller}

-- the caller has the waits that it had, and owes what it owed
pub record Keeps (c d : BarrierCaller) : Type 0 where
  pub waits : d.waits ≡ c.waits
  pub owed : d.owed ≡ c.owed

-- As many passes were made as the barrier was made for, as its own split found: the pass has only
-- seen more, and holds what it held.
pub record IsCrowded (b : Barrier Unparked) (c d : BarrierCaller) : Type 0 where
  pub full : passes_of b.queue ≤ made_in (pass_view d.pass).crew
  pub looked : HasLookedOn c.pass d.pass
  pub kept : (pass_view c.pass).alone ≡ true → (pass_view d.pass).alone ≡ true
  pub keeps : Keeps c d

-- why a split that is to give so many parties is refused, and what it leaves
abbrev pub RefusesSplit : Barrier Unparked → ℕ → BarrierCaller → BarrierCaller → Answer → Type 0
RefusesSplit b gives c d answer.Owes = IsSome c.owed × (d ≡ c)
RefusesSplit b gives c d answer.NoParty = ((pass_view c.pass).facts.has.held < gives) × (d ≡ c)
RefusesSplit b gives c d answer.Crowd = IsCrowded b c d
RefusesSplit b gives c d a = ⊥

-- the barrier's own split made the pass of this new caller, who waits for nothing, and gave it so
-- many parties
pub record HasSplit (b : Barrier Unparked) (gives : ℕ) (c d made : BarrierCaller) : Type 0 where
  pub enough : gives ≤ (pass_view c.pass).facts.has.held
  pub fewer : made_in (pass_view d.pass).crew < passes_of b.queue
  pub gave : HasGiven gives c.pass d.pass
  pub came : CameWith barrier_object gives (pass_view d.pass) (pass_view made.pass)
  pub keeps : Keeps c d
  pub no_waits : made.waits.items ≡ []
  pub owes_nothing : made.owed ≡ None

-- the given caller owes something, or its pass waits or owes something
abbrev pub HasMore : BarrierCaller → Type 0
HasMore given = IsSome given.owed ⊎ IsBusy (pass_view given.pass).facts

-- why a meet is refused
abbrev pub RefusesMeet : BarrierCaller → BarrierCaller → Answer → Type 0
RefusesMeet c given answer.Owes = IsSome c.owed
RefusesMeet c given answer.Busy = HasMore given
RefusesMeet c given a = ⊥

-- the barrier's own meet took the given pass in, with its parties
pub record TakesIn (c given d : BarrierCaller) : Type 0 where
  pub free : HasMore given → ⊥
  pub met : HasMet c.pass given.pass d.pass
  pub laid : (pass_view d.pass).laid ≡ (pass_view c.pass).laid ++ (pass_view given.pass).laid
  pub held : (pass_view d.pass).facts.has.held
      ≡ (pass_view c.pass).facts.has.held + (pass_view given.pass).facts.has.held
  pub keeps : Keeps c d
