-- What a split and a meet by number have done, of a pool: each is refused, for a cause that is the
-- callers'; or it was the pool's own, of whose contract those clauses hold that stand here.
use Rattle.std.specs.Prelude.{◌≡◌, ◌⊎◌, ◌++◌, ◌<◌, ◌≤◌, true, [], None, IsSome, vec_len}
use Rattle.cqs_rule_laws.specs.declared.carries.Unparked.{Unparked}
use Rattle.cqs_rule_laws.specs.Crew.{Came}
use Rattle.cqs_rule.specs.Passes.{pass_view, passes_of}
use Rattle.cqs_rule.specs.Seats.{IsBusy, HasMet}
use Rattle.cqs_rule_laws.specs.Views.{made_in}
use Rattle.cqs_pool.specs.declared.pool.Pool.{Pool}
use Rattle.cqs_pool.specs.Calls.{Course}
use Rattle.cqs_pool.specs.Pool.{pool_object}
use Rattle.cqs_pool.specs.Seats.{LookedOn}
use Rattle.cqs_c_callers.specs.declared.answers.Answer.{Answer}
use Rattle.cqs_c_callers.specs.declared.answers.Answer.TheVariants as answer
use Rattle.cqs_c_callers.specs.declared.pool_caller.PoolCaller.{PoolCaller}

-- the caller has the waits and the elements that it had, and owes what it owed
pub record Keeps (c d : PoolCaller) : Type 0 where
  pub waits : d.waits ≡ c.waits
  pub elements : d.elements ≡ c.elements
  pub under : d.under ≡ c.under

-- As many passes were made as the pool was made for, as its own split found: the pass has only seen
-- more.
pub record IsCrowded (p : Pool Unparked) (c d : PoolCaller) : Type 0 where
  pub full : passes_of p.queue ≤ made_in (pass_view d.pass).crew
  pub looked : LookedOn (pass_view c.pass) (pass_view d.pass)
  pub kept : (pass_view c.pass).alone ≡ true → (pass_view d.pass).alone ≡ true
  pub keeps : Keeps c d

-- why a split is refused, and what it leaves
abbrev pub RefusesSplit : Pool Unparked → PoolCaller → PoolCaller → Answer → Type 0
RefusesSplit p c d answer.Owes = IsSome c.under × (d ≡ c)
RefusesSplit p c d answer.Crowd = IsCrowded p c d
RefusesSplit p c d a = ⊥

-- the pool's own split made the pass of this new caller, who waits for nothing and has no element
pub record HasSplit (p : Pool Unparked) (c d made : PoolCaller) : Type 0 where
  pub fewer : made_in (pass_view d.pass).crew < passes_of p.queue
  pub looked : LookedOn (pass_view c.pass) (pass_view d.pass)
  pub came : Came pool_object (pass_view d.pass) (pass_view made.pass)
  pub keeps : Keeps c d
  pub no_waits : made.waits.items ≡ []
  pub no_elements : made.elements.items ≡ []
  pub owes_nothing : made.under ≡ None

-- the given caller has an element in hand, or its pass waits or owes something
abbrev pub HasMore : PoolCaller → Type 0
HasMore given = (0 < vec_len given.elements) ⊎ IsBusy (pass_view given.pass).facts

-- why a meet is refused
abbrev pub RefusesMeet : PoolCaller → PoolCaller → Answer → Type 0
RefusesMeet c given answer.Owes = IsSome c.under
RefusesMeet c given answer.Busy = HasMore given
RefusesMeet c given a = ⊥

-- the pool's own meet took the given pass in
pub record TakesIn (c given d : PoolCaller) : Type 0 where
  pub free : HasMore given → ⊥
  pub met : HasMet c.pass given.pass d.pass
  pub laid : (pass_view d.pass).laid ≡ (pass_view c.pass).laid ++ (pass_view given.pass).laid
  pub course : Course (pass_view c.pass) [] (pass_view d.pass)
  pub elements : (pass_view d.pass).facts.has.slots
      ≡ (pass_view c.pass).facts.has.slots ++ (pass_view given.pass).facts.has.slots
  pub keeps : Keeps c d
