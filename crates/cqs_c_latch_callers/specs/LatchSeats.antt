-- What a split and a meet by number have done, of a latch: each is refused, for a cause that is the
-- callers'; or it was the latch's own, of whose contract those clauses hold that stand here.
use Rattle.std.specs.Prelude.{◌≡◌, ◌++◌, ◌<◌, ◌≤◌, true, [], None, IsSome}
use Rattle.cqs_rule_laws.specs.declared.carries.Unparked.{Unparked}
use Rattle.cqs_rule_laws.specs.Crew.{Came}
use Rattle.cqs_rule.specs.Passes.{pass_view, passes_of}
use Rattle.cqs_rule.specs.Seats.{IsBusy, HasMet}
use Rattle.cqs_rule_laws.specs.Views.{made_in}
use Rattle.cqs_latch.specs.declared.latch.Latch.{Latch}
use Rattle.cqs_latch.specs.Calls.{KeepsWaits}
use Rattle.cqs_latch.specs.Latch.{latch_object}
use Rattle.cqs_latch.specs.Seats.{LookedOn}
use Rattle.cqs_c_callers.specs.declared.answers.Answer.{Answer}
use Rattle.cqs_c_callers.specs.declared.answers.Answer.TheVariants as answer
use Rattle.cqs_c_latch_callers.specs.declared.latch_caller.LatchCaller.{LatchCaller}

-- the caller has the waits that it had, and owes what it owed
pub record Keeps (c d : LatchCaller) : Type 0 where
  pub waits : d.waits ≡ c.waits
  pub owed : d.owed ≡ c.owed
  pub open_yet : KeepsWaits (pass_view c.pass) (pass_view d.pass)

-- As many passes were made as the latch was made for, as its own split found: the pass has only
-- seen more.
pub record IsCrowded (l : Latch Unparked) (c d : LatchCaller) : Type 0 where
  pub full : passes_of l.queue ≤ made_in (pass_view d.pass).crew
  pub looked : LookedOn (pass_view c.pass) (pass_view d.pass)
  pub kept : (pass_view c.pass).alone ≡ true → (pass_view d.pass).alone ≡ true
  pub keeps : Keeps c d

-- why a split is refused, and what it leaves
abbrev pub RefusesSplit : Latch Unparked → LatchCaller → LatchCaller → Answer → Type 0
RefusesSplit l c d answer.Owes = IsSome c.owed × (d ≡ c)
RefusesSplit l c d answer.Crowd = IsCrowded l c d
RefusesSplit l c d a = ⊥

-- the latch's own split made the pass of this new caller, who waits for nothing
pub record HasSplit (l : Latch Unparked) (c d made : LatchCaller) : Type 0 where
  pub fewer : made_in (pass_view d.pass).crew < passes_of l.queue
  pub looked : LookedOn (pass_view c.pass) (pass_view d.pass)
  pub came : Came latch_object (pass_view d.pass) (pass_view made.pass)
  pub keeps : Keeps c d
  pub no_waits : made.waits.items ≡ []
  pub owes_nothing : made.owed ≡ None

-- why a meet is refused: the pass owes something, or the given one waits or owes something
abbrev pub RefusesMeet : LatchCaller → LatchCaller → Answer → Type 0
RefusesMeet c given answer.Owes = IsSome c.owed
RefusesMeet c given answer.Busy = IsBusy (pass_view given.pass).facts
RefusesMeet c given a = ⊥

-- the latch's own meet took the given pass in
pub record TakesIn (c given d : LatchCaller) : Type 0 where
  pub free : IsBusy (pass_view given.pass).facts → ⊥
  pub met : HasMet c.pass given.pass d.pass
  pub laid : (pass_view d.pass).laid ≡ (pass_view c.pass).laid ++ (pass_view given.pass).laid
  pub keeps : Keeps c d
