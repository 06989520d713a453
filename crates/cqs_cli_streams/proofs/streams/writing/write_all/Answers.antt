use Rattle.std.proofs.Common.{rules, arith, ◌∙◌}
use Rattle.cqs_cli_streams.proofs.StreamLemmas.{Gains_more, take_on}
use Rattle.cqs_cli_streams.proofs.streams.writing.write_all.Goals as goal

pub write-preserved : goal.write-preserved
write-preserved g c =
    let so_far = c.write.invariant.written in record {
      written = record {
        within = omega (arith, c.in_ok-done.ensures.within);
        taken = rw (take_on c.args.text.now c.write.done c.in_ok-done.field-0)
            at (Gains_more _ _ _ _ _ so_far.taken c.in_ok-done.ensures.taken);
        fine = c.in_ok-done.ensures.fine ∙ so_far.fine;
      };
      counted = search rules;
    }
