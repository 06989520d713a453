use Rattle.std.proofs.Common.{append_assoc}
use Rattle.cqs_cli_top.proofs.lines.push_total.Goals as goal

pub returns : goal.returns
returns c =
    let counts = c.totals_of-totals.ensures.counts in
    rw (
      c.in_ok-extend_from_slice.ensures.items,
      c.in_ok-push_labelled-5.ensures,
      c.from-5.ensures,
      counts.unfinished,
      c.in_ok-push_labelled-4.ensures,
      c.from-4.ensures,
      counts.crowded,
      c.in_ok-push_labelled-3.ensures,
      c.from-3.ensures,
      counts.late,
      c.in_ok-push_labelled-2.ensures,
      c.from-2.ensures,
      counts.gave_up,
      c.in_ok-push_labelled.ensures,
      c.from.ensures,
      counts.done,
    ) (simp append_assoc)
