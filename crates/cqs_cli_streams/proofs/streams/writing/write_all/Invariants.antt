use Rattle.std.proofs.Common.{◌-◌, length}
use Rattle.cqs_cli_streams.specs.Tally.{GoesOn}
use Rattle.cqs_cli_streams.proofs.Loops.{HasWritten}
use Rattle.cqs_cli_streams.proofs.streams.writing.write_all.Given as goal

abbrev pub invariant-write : goal.invariant-write
invariant-write g l = record {
  written : HasWritten l.text l.done (g.K.Sink.held l.initial.sink) (g.K.Sink.held l.sink)
      (g.K.Sink.faults l.initial.sink) (g.K.Sink.faults l.sink);
  counted : GoesOn l.done (g.K.Sink.tally l.initial.sink) (g.K.Sink.tally l.sink);
}

abbrev pub decreases-write : goal.decreases-write
decreases-write g l = length l.text - l.done
