use Rattle.std.proofs.Common.{◌≡◌}
use Rattle.cqs_turns_report.specs.Running.{IsRunning, IsKept, machine_of}
use Rattle.cqs_turns_report.specs.Turns.{machine_after}
use Rattle.cqs_turns.proofs.runs.all_turns.Given as goal

abbrev pub invariant-loop-turn : goal.invariant-loop-turn
invariant-loop-turn g l = record {
  now : machine_of (g.F.Floor.plain l.floor) l.report l.states ≡ machine_after l.plan l.turn;
  running : IsRunning l.plan (machine_of (g.F.Floor.plain l.floor) l.report l.states);
  kept : IsKept (g.F.Floor.plain l.floor) l.states;
}
