use Rattle.std.proofs.Common.{◌≡◌, ◌≤◌, All, vec_len, vec_capacity}
use Rattle.cqs_rule.specs.Passes.{pass_view}
use Rattle.cqs_semaphore.specs.Callers.{held_by, IsAtRest}
use Rattle.cqs_semaphore_crew.specs.Workers.{HasMade, HasMetAll, IsHired, IsNew}
use Rattle.cqs_semaphore_crew.proofs.crew.hire.Given as goal

-- the passes that were made so far are at rest, and hold nothing
abbrev pub invariant-loop-made : goal.invariant-loop-made
invariant-loop-made l = record {
  rest : IsAtRest l.semaphore (held_by l.fn.pass) l.pass;
  made : HasMade (pass_view l.fn.pass) l._made (pass_view l.pass);
  met : HasMetAll (pass_view l.fn.pass) 0 (pass_view l.pass);
  hired : All (IsHired l.semaphore) l.passes.items;
  new : All IsNew l.passes.items;
  same : (pass_view l.pass).own ≡ (pass_view l.fn.pass).own;
  many : vec_len l.passes ≡ l._made;
  room : l.fn.count ≤ vec_capacity l.passes;
}
