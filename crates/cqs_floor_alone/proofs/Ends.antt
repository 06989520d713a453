-- How a resource stands, as what it is kept as tells it.
use Rattle.std.proofs.Common.{◌≡◌, ℕ, IsSome, Option, slice_get, set, ap, sym, ◌∙◌, subst}
use Rattle.std.specs.Prelude.{slice_index}
use Rattle.cqs_plan.specs.declared.plans.kind.Kind.{Kind}
use Rattle.cqs_plan.specs.declared.floors.answers.FloorEnd.{FloorEnd}
use Rattle.cqs_plan.specs.FloorHistory.{ending}
use Rattle.cqs_plan.specs.Floor.{PlainFloor, size_of}
use Rattle.cqs_plan.specs.FloorCalls.{end_answer}
use Rattle.cqs_turns_report.proofs.KindsThere.{some-there}
use Rattle.cqs_floor_common.specs.Holdings.{held_at}
use Rattle.cqs_floor_alone.specs.DeskCalls.{CanEndAt, Ends}
use Rattle.cqs_floor_alone.specs.Kept.{IsKept, waiting_at}
use Rattle.cqs_floor_alone.specs.Ledger.{Ledger, holds_in, plain_floor, with_soles}
use Rattle.cqs_floor_alone_kinds.specs.Stores.{Store, Rests}
use Rattle.cqs_floor_alone.proofs.Looks.{kept-same, plain-same}
use Rattle.cqs_floor_alone.proofs.Resources.{Funds, funds-at, history-there}

module _ {X : Type 0} (s : Store X) where
  can-end : (l : Ledger X) (at : ℕ) → IsKept s l → IsSome (slice_get l.kinds at) → CanEndAt s l at
  can-end l at kept some =
      let is = some-there (slice_get l.kinds at) some in
      let funds : Funds s l at = funds-at s l at kept is in
      record {
        kind = is.0;
        is = is.1;
        sole = record {
          sole = funds.sole;
          there = funds.there;
          can = record {
            room = slice_index l.room at;
            waiting = waiting_at l.waits at;
            held = held_at (holds_in l) at;
            funded = subst
                (λ k. s.funded funds.sole k (slice_index l.room at) (waiting_at l.waits at) (held_at (holds_in l) at))
                is.1 funds.funded;
          };
        };
      }

  -- what telling how a resource stands comes to
  pub record EndsWell (f : PlainFloor) (at : ℕ) (answer : FloorEnd) (n : Ledger X) : Type 0 where
    pub answers : answer ≡ end_answer f at
    pub same : plain_floor s n ≡ f
    pub kept : IsKept s n

  end-well : (l n : Ledger X) (at : ℕ) (answer : FloorEnd) → IsKept s l → Ends s l at answer n
      → EndsWell (plain_floor s l) at answer n
  end-well l n at answer kept e =
      let Funded : Option Kind → Type 0
      = λ k. s.funded e.calls.sole k (slice_index l.room at) (waiting_at l.waits at) (held_at (holds_in l) at) in
      let both = e.calls.made _ _ _ (subst Funded e.is (kept.funded.at at e.calls.sole e.calls.there)) in
      let Resting : Option Kind → Type 0
      = λ k. Rests s e.calls.sole k (slice_index l.room at) (waiting_at l.waits at) (held_at (holds_in l) at)
      e.calls.after in
      let rests = subst Resting (sym e.is) both.1 in
      let is : n ≡ with_soles l (set l.soles at e.calls.after) = e.written ∙ ap (with_soles l) e.calls.soles in
      record {
        answers = both.0 ∙ ap (λ k. ending (size_of k) (s.history e.calls.sole)) (sym e.is)
            ∙ ap (ending (size_of (slice_get l.kinds at)))
            (sym (history-there s l.soles at e.calls.sole e.calls.there));
        same = ap (plain_floor s) is ∙ plain-same s l at e.calls.sole e.calls.after kept e.calls.there rests;
        kept = subst (IsKept s) (sym is) (kept-same s l at e.calls.sole e.calls.after kept e.calls.there rests);
      }

  -- the same where the floor is seen as its plain floor
  pub end-can : (l : Ledger X) (f : PlainFloor) (at : ℕ) → plain_floor s l ≡ f → IsKept s l
      → IsSome (slice_get f.kinds at) → CanEndAt s l at
  end-can l f at view kept =
      let Allows : PlainFloor → Type 0 = λ g. IsSome (slice_get g.kinds at) → CanEndAt s l at in
      subst Allows view (can-end l at kept)

  pub end-floor : (l n : Ledger X) (f : PlainFloor) (at : ℕ) (answer : FloorEnd) → plain_floor s l ≡ f → IsKept s l
      → Ends s l at answer n → EndsWell f at answer n
  end-floor l n f at answer view kept e =
      subst (λ g. EndsWell g at answer n) view (end-well l n at answer kept e)
