use Rattle.std.proofs.Common.{append_assoc}
use Rattle.cqs_turns_report.proofs.texts.push_total.Goals as goal

pub returns : goal.returns
returns c =
    rw (
      c.in_ok-extend_from_slice.ensures.items,
      c.in_ok-push_labelled-4.ensures,
      c.count-4.ensures,
      c.in_ok-push_labelled-3.ensures,
      c.count-3.ensures,
      c.in_ok-push_labelled-2.ensures,
      c.count-2.ensures,
      c.in_ok-push_labelled.ensures,
      c.count.ensures,
    ) (simp append_assoc)
