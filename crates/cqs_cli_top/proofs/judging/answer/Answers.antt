-- The line that was made names the fault that the reader found first.
use Rattle.std.proofs.Common.{inr, ap, refl, Err}
use Rattle.cqs_cli_top.proofs.judging.answer.Goals as goal

pub returns-in_ok-fault_line-in-Err-Fault-clause-right :
    goal.returns-in_ok-fault_line-in-Err-Fault-clause-right
returns-in_ok-fault_line-in-Err-Fault-clause-right g c = (
  inr (record {
    place = c.in-Err-Fault.place;
    kind = c.in-Err-Fault.kind;
    first = c.in-Err-Fault.ensures.fault c.in-Err-Fault.place c.in-Err-Fault.kind (ap Err c.in-Err-Fault.field-0-is);
    named = c.in_ok-fault_line-in-Err-Fault.ensures;
  }),
  refl,
)
