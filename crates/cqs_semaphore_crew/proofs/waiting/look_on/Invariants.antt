use Rattle.std.proofs.Common.{◌≡◌, []}
use Rattle.cqs_rule.specs.Passes.{pass_view}
use Rattle.cqs_rule.specs.Waits.{place_of}
use Rattle.cqs_semaphore_crew.specs.Sums.{KeepsCalls}
use Rattle.cqs_semaphore_crew.specs.Tallies.{Adds, LooksThen}
use Rattle.cqs_semaphore.specs.Callers.{held_by, IsWaiting}
use Rattle.cqs_semaphore_crew.proofs.waiting.look_on.Given as goal

-- between two looks the wait goes on
abbrev pub invariant-loop : goal.invariant-loop
invariant-loop l = record {
  waits : IsWaiting l.semaphore (held_by l.fn.pass) l.wait l.pass;
  adds : Adds 0 0 (pass_view l.fn.pass) l.fn.counts (pass_view l.pass) l.counts;
  keeps : KeepsCalls l.fn.counts l.counts;
  looks : LooksThen (place_of l.fn.wait).index [] (pass_view l.fn.pass) (pass_view l.pass);
  place : (place_of l.wait).index ≡ (place_of l.fn.wait).index;
}
