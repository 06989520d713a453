-- What the beginning of the next resumption answers: its number was drawn, and it went on from
-- there.
use Rattle.std.specs.Prelude.{ℕ, Some}
use Rattle.cqs_core.specs.QueueSteps.{begins}
use Rattle.cqs_rule_laws.specs.declared.client.ClientWords.{Ghosts}
use Rattle.cqs_rule.specs.declared.queue.Pass.{Pass}
use Rattle.cqs_rule_laws.specs.declared.view.View.{View}
use Rattle.cqs_rule_laws.specs.Counts.{Drew}
use Rattle.cqs_rule_laws.specs.Facts.{IsBehind}
use Rattle.cqs_rule_laws.specs.Object.{Object, Primitive}
use Rattle.cqs_rule.specs.Passes.{pass_view}
use Rattle.cqs_resume.specs.declared.resumed.Resumed.{Resumed}
use Rattle.cqs_resume.specs.Resumes.{GoesOn, Resumes, most_after_first}

module _ {C E S : Type 0} (object : Object E) (primitive : C → Primitive E S) where
  -- In an ample table: the pass drew the number, which comes after those that it drew before; then
  -- it was at this, and the resumption went on from the open ticket to its end, or until it was
  -- handed back.
  pub record Begun (payload : ℕ) (v : View E S) (result : Resumed) (w : View E S) : Type 0 where
    pub number : ℕ
    pub from : View E S
    pub drew : Drew object begins v number from
    pub after : IsBehind number v.facts
    pub resumes : Resumes object primitive most_after_first (Some number) payload from result w

  -- the same in any table
  pub record BegunSo (payload : ℕ) (v : View E S) (result : Resumed) (w : View E S) : Type 0 where
    pub number : ℕ
    pub from : View E S
    pub drew : Drew object begins v number from
    pub after : IsBehind number v.facts
    pub goes : GoesOn object primitive most_after_first (Some number) payload from result w

module _ {C S E : Type 0} {g : Ghosts C S E} where
  abbrev pub HasBegunSo : ℕ → Pass C S E g → Resumed → Pass C S E g → Type 0
  HasBegunSo payload p result p' =
      BegunSo g.object g.primitive payload (pass_view p) result (pass_view p')

  abbrev pub HasBegun : ℕ → Pass C S E g → Resumed → Pass C S E g → Type 0
  HasBegun payload p result p' =
      Begun g.object g.primitive payload (pass_view p) result (pass_view p')
