use Rattle.std.proofs.Common.{◌-◌, vec_len}
use Rattle.cqs_cli_streams.specs.Tally.{GoesOn}
use Rattle.cqs_cli_streams.proofs.Loops.{HasRead}
use Rattle.cqs_cli_streams.proofs.streams.reading.read_input.Given as goal

abbrev pub invariant-read : goal.invariant-read
invariant-read g l = record {
  read : HasRead l.bytes.items (g.S.Source.left l.initial.source) (g.S.Source.left l.source)
      (g.S.Source.faults l.initial.source) (g.S.Source.faults l.source);
  counted : GoesOn (vec_len l.bytes) (g.S.Source.tally l.initial.source) (g.S.Source.tally l.source);
}

abbrev pub decreases-read : goal.decreases-read
decreases-read g l = 1048577 - vec_len l.bytes
