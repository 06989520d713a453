use Rattle.cqs_turns_report.specs.Running.{IsRunning, IsKept, machine_of}
use Rattle.cqs_turns.proofs.Turning.{TurningOn}
use Rattle.cqs_turns.proofs.turns.one_turn.Given as goal

abbrev pub invariant-loop-place : goal.invariant-loop-place
invariant-loop-place g l = record {
  on : TurningOn l.plan l.turn l.place
      (machine_of (g.F.Floor.plain l.initial.floor) l.initial.report l.initial.states)
      (machine_of (g.F.Floor.plain l.floor) l.report l.states);
  running : IsRunning l.plan (machine_of (g.F.Floor.plain l.floor) l.report l.states);
  kept : IsKept (g.F.Floor.plain l.floor) l.states;
}
