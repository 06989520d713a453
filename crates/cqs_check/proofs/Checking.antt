-- On the way through a history.
use Rattle.std.proofs.Common.{◌≡◌, ℕ, zero, suc, ◌+◌, ◌<◌, ◌≤◌, List, [], ◌∷◌, length, take, Some, true, false, slice_get, get_or, refl, sym, ap, ◌∙◌, subst, arith}
use Rattle.std.proofs.lemmas.List.{take_all}
use Rattle.cqs_core.specs.declared.entries.Entry.{Entry}
use Rattle.cqs_core.specs.SemaphoreObject.{opening}
use Rattle.cqs_core.specs.SemaphoreEntries.{IsAllowed, after_entry, IsLegal, object_after}
use Rattle.cqs_core.proofs.Histories.{take-next, legal-push, object-next}
use Rattle.cqs_check.specs.declared.judge.Judge.{Judge}
use Rattle.cqs_check.specs.Doors.{total_of}
use Rattle.cqs_check.specs.Judging.{IsJudge, Judged, Stands}
use Rattle.cqs_check.specs.Verdicts.{IsSo, IsFirstBad}

-- the entries before this place are legal, and the judge stands for the semaphore after them
pub record IsAt (permits : ℕ) (history : List Entry) (judge : Judge) (place : ℕ) : Type 0 where
  pub judge_is : IsJudge judge
  pub legal : IsLegal permits (take place history)
  pub stands : Stands judge (object_after permits (take place history))

get-at : (history : List Entry) (place : ℕ) (d : Entry) → place < length history
    → slice_get history place ≡ Some (get_or history place d)
get-at [] place d low = absurd (omega (arith, low))
get-at (e ∷ history) zero d low = refl
get-at (e ∷ history) (suc place) d low = get-at history place d (omega (arith, low))

pub at-start : (permits : ℕ) (history : List Entry) (judge : Judge) → IsJudge judge → Stands judge (opening permits)
    → IsAt permits history judge 0
at-start permits history judge is stands = record {
  judge_is = is;
  legal = record { at = λ n e got. absurd (cc got) };
  stands = stands;
}

pub at-next : (permits : ℕ) (history : List Entry) (old new : Judge) (place : ℕ) (d : Entry) → place < length history
    → IsAt permits history old place → Judged old (get_or history place d) true new
    → IsAt permits history new (place + 1)
at-next permits history old new place d low at judged =
    let e : Entry = get_or history place d in
    let got : slice_get history place ≡ Some e = get-at history place d low in
    let step : suc place ≡ place + 1 = omega arith in
    let more : take (place + 1) history ≡ _ = ap (λ n. take n history) (sym step) ∙ take-next history place e got in
    let may = judged.1 (object_after permits (take place history)) at.stands in
    let object = ap (λ n. object_after permits (take n history)) (sym step)
    ∙ object-next IsAllowed after_entry (opening permits) history place e got in
    record {
      judge_is = judged.0;
      legal = rw more (legal-push IsAllowed after_entry (opening permits) (take place history) e may.0 at.legal);
      stands = rw object may.1;
    }

pub at-bad : (permits : ℕ) (history : List Entry) (old new : Judge) (place : ℕ) (d : Entry) → place < length history
    → IsAt permits history old place → Judged old (get_or history place d) false new → IsFirstBad permits history place
at-bad permits history old new place d low at judged = record {
  bad = get_or history place d;
  there = get-at history place d low;
  legal = at.legal;
  refused = judged (object_after permits (take place history)) at.stands;
}

pub at-end : (permits : ℕ) (history : List Entry) (judge : Judge) (place : ℕ) → length history ≤ place
    → IsAt permits history judge place
    → IsLegal permits history × IsSo (object_after permits history) judge.free judge.way
    (total_of judge.door) judge.in_line (length judge.table.waits.items) judge.held
at-end permits history judge place past at =
    let all : take place history ≡ history = take_all place history past in
    let legal : IsLegal permits history = subst (λ h. IsLegal permits h) all at.legal in
    let stands : Stands judge (object_after permits history) = subst
    (λ h. Stands judge (object_after permits h)) all at.stands in (
      legal,
      record {
        free_is = stands.free;
        way_is = stands.way;
        door_is = sym stands.door.total;
        line_is = ap length stands.line ∙ sym at.judge_is.in_line;
        next_is = stands.next;
        held_is = stands.held;
      },
    )
