use Rattle.std.proofs.Common.{refl}
use Rattle.cqs_semaphore_crew.proofs.counts.none_yet.Goals as goal

pub returns-clause-tells : goal.returns-clause-tells
returns-clause-tells c = record {
  acquires = record { free_is = refl; took = 0; waited = 0; entered_is = refl; took_is = refl; waited_is = refl };
  tries = record { got_is = refl; busy_is = refl };
  polls = record { granted_is = refl; pending_is = refl };
  ends = record {
    freed_is = refl;
    served = 0;
    left = 0;
    void = 0;
    cancelled = 0;
    owing = 0;
    arrived = refl;
    gone_is = refl;
    served_is = refl;
    left_is = refl;
    void_is = refl;
    cancelled_is = refl;
    owing_is = refl;
    late_is = refl;
  };
}
