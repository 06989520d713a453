use Rattle.std.proofs.Common.{◌≡◌, ◌+◌, All, length, vec_len}
use Rattle.std.specs.Vec.Iter.{into_iter_items}
use Rattle.cqs_rule.specs.Passes.{pass_view}
use Rattle.cqs_rule_laws.specs.Crew.{MadeNone}
use Rattle.cqs_semaphore.specs.Callers.{held_by, IsAtRest}
use Rattle.cqs_semaphore_crew.specs.Workers.{HasMetAll, IsHired}
use Rattle.cqs_semaphore_crew.proofs.crew.take_back.Given as goal

-- the pass holds what it held, and has met those that were taken in; each of the others can be met still
abbrev pub invariant-loop-given : goal.invariant-loop-given
invariant-loop-given l = record {
  rest : IsAtRest l.semaphore (held_by l.fn.pass) l.pass;
  made_none : MadeNone (pass_view l.fn.pass) (pass_view l.pass);
  met : HasMetAll (pass_view l.fn.pass) (length l.yielded) (pass_view l.pass);
  left : All (IsHired l.semaphore) (into_iter_items l.given-iterator);
  all : length l.yielded + length (into_iter_items l.given-iterator) ≡ vec_len l.fn.passes;
}
