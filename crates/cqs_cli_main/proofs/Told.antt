-- What a sink took of a text that was handed to it.
use Rattle.std.specs.Prelude.{◌≡◌, ℕ, ◌≤◌, Bool, List, length, Option, Result, Ok, Err, OnOk, OnErr, IsTrue}
use Rattle.std.proofs.Common.{rules, subst, sym, arith}
use Rattle.std.proofs.Math.Seq.{take-length}
use Rattle.cqs_cli_streams.specs.Stream.{Gains, GainsPrefix, Rises}
use Rattle.cqs_cli_streams.specs.Tally.{StopsAfter, StopsWithin}
use Rattle.cqs_cli_streams.specs.declared.streams.tally.Tally.{Tally}
use Rattle.cqs_cli_main.specs.Messages.{IsTold}

-- by what the writing of the text answered
pub is_told : {T E : Type 0} (r : Result T E) (text : List ℕ) (held after : Option (List ℕ)) (faults now : ℕ)
    → OnOk r (Gains text held after) → OnErr r (GainsPrefix text held after) → OnErr r (Rises faults now)
    → IsTold text faults now held after
is_told (Ok x) text held after faults now whole part cause = record {
  whole = λ calm. whole;
  part = (length text, search rules, subst (λ taken. Gains taken held after) (sym (take-length text)) whole);
}
is_told (Err e) text held after faults now whole part cause = record {
  whole = λ calm. absurd (calm cause);
  part = part;
}

-- and whether all of it was flushed on, how much it counted, and that no call came after a fault or the flush
pub goes_through : {T E : Type 0} (r : Result T E) (count faults now : ℕ) (flushed : Bool) (old new : Tally)
    → OnOk r (IsTrue flushed) → OnErr r (Rises faults now) → OnOk r (StopsAfter count old new)
    → OnErr r (StopsWithin count old new)
    → (¬ Rises faults now → IsTrue flushed × StopsAfter count old new) × (old.stops ≡ 0 → new.stops ≤ 1)
goes_through (Ok x) count faults now flushed old new whole cause went stopped =
    (λ calm. (whole, went), λ none. omega (arith, went.stops none))
goes_through (Err e) count faults now flushed old new whole cause went stopped =
    (λ calm. absurd (calm cause), λ none. omega (arith, stopped.stops none))
