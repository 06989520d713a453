-- Resumptions that ended one after the other.
use Rattle.std.proofs.Common.{◌≡◌, ℕ, ◌+◌, true, cond, List, [], ◌∷◌, ◌++◌, sym, refl, ap, ◌∙◌, subst, append_assoc, arith}
use Rattle.std.proofs.lemmas.List.{append-nil, append_cancel_right}
use Rattle.cqs_core.specs.declared.cells.CoreState.{CoreState}
use Rattle.cqs_core.specs.declared.doings.Doing.TheVariants as doing
use Rattle.cqs_barrier_object.specs.declared.entries.BarrierEntry.{BarrierEntry}
use Rattle.cqs_rule_laws.specs.declared.view.Facts.{Facts}
use Rattle.cqs_rule_laws.specs.declared.view.Opening.{Opening}
use Rattle.cqs_rule_laws.specs.declared.view.View.{View}
use Rattle.cqs_rule_laws.specs.Called.{Called}
use Rattle.cqs_rule_laws.specs.Causes.{cell_of}
use Rattle.cqs_rule_laws.specs.Exchanges.{HasCell}
use Rattle.cqs_rule_laws.specs.Facts.{is_owing}
use Rattle.cqs_rule_laws.specs.Lists.{IsPrefix}
use Rattle.cqs_rule_laws.specs.Saw.{WasShown}
use Rattle.cqs_rule_laws.proofs.Lists.{prefix-then}
use Rattle.cqs_barrier.specs.Barrier.{barrier_object}
use Rattle.cqs_barrier.specs.Causes.{primitive_of, CellWas}
use Rattle.cqs_barrier.specs.Endings.{Ending, number_of, EndsIn, ending_entries, served_by, served_in, EndedSo, AllEnded, Served, owed_by}

-- how many resumptions a pass owes that is between two calls, and one that is in a resumption
pub owing-none : (f : Facts) → f.doing ≡ doing.Idle → owed_by f ≡ f.has.further
owing-none f idle =
    let none : cond {A = ℕ} (is_owing f.doing) 1 0 ≡ 0 = ap (λ d. cond {A = ℕ} (is_owing d) 1 0) idle in
    omega (arith, none)

pub owing-one : (f : Facts) → is_owing f.doing ≡ true → owed_by f ≡ f.has.further + 1
owing-one f owing =
    let one : cond {A = ℕ} (is_owing f.doing) 1 0 ≡ 1 = ap (λ b. cond {A = ℕ} b 1 0) owing in
    omega (arith, one)

pub served-append : (es fs : List Ending) → served_in es ++ served_in fs ≡ served_in (es ++ fs)
served-append [] fs = refl
served-append (e ∷ es) fs =
    append_assoc (served_by e) (served_in es) (served_in fs)
    ∙ ap (λ l. served_by e ++ l) (served-append es fs)

module _ {T : Type 0} where
  -- by the call and the cell of its last step
  pub ended-so : (e : Ending) (state : CoreState) (own : List BarrierEntry) (v w : View BarrierEntry T) → EndsIn e state
      → own ≡ ending_entries e → Called barrier_object v own own w → CellWas state (number_of e) own w
      → EndedSo e v.seen w
  ended-so e state own v w found is called cell = record {
    state = state;
    found = found;
    word = cell.word;
    payload = cell.payload;
    cell = cell.cell;
    before = cell.was.before;
    since = subst (IsPrefix v.seen)
        (append_cancel_right called.before cell.was.before own (sym called.ends ∙ cell.was.seen)) called.since;
    seen = (
      [],
      cell.was.seen ∙ (ap (λ l. cell.was.before ++ l) is ∙ sym (append-nil (cell.was.before ++ ending_entries e))),
    );
    was = cell.was.was;
  }

  abbrev ended-later : (e : Ending) (from : List BarrierEntry) (u w : View BarrierEntry T) → IsPrefix u.seen w.seen
      → w.opening ≡ u.opening → EndedSo e from u → EndedSo e from w
  ended-later e from u w on opening one = record {
    state = one.state;
    found = one.found;
    word = one.word;
    payload = one.payload;
    cell = one.cell;
    before = one.before;
    since = one.since;
    seen = prefix-then (one.before ++ ending_entries e) u.seen w.seen one.seen on;
    was = subst (λ (z : Opening). WasShown {S = T} primitive_of z
        (HasCell (cell_of (number_of e) one.state one.payload)) one.before) (sym opening) one.was;
  }

  pub all-from : (es : List Ending) (from since : List BarrierEntry) (w : View BarrierEntry T) → IsPrefix from since
      → AllEnded es since w → AllEnded es from w
  all-from [] from since w on all = tt
  all-from (e ∷ es) from since w on all =
      let one = all.0 in (
        record {
          state = one.state;
          found = one.found;
          word = one.word;
          payload = one.payload;
          cell = one.cell;
          before = one.before;
          since = prefix-then from since one.before on one.since;
          seen = one.seen;
          was = one.was;
        },
        all.1,
      )

  pub all-then : (es fs : List Ending) (from : List BarrierEntry) (u w : View BarrierEntry T) → IsPrefix from u.seen
      → IsPrefix u.seen w.seen → w.opening ≡ u.opening → AllEnded es from u → AllEnded fs u.seen w
      → AllEnded (es ++ fs) from w
  all-then [] fs from u w before on opening first then = all-from fs from u.seen w before then
  all-then (e ∷ es) fs from u w before on opening first then = (
    ended-later e from u w on opening first.0,
    all-then es fs (first.0.before ++ ending_entries e) u w first.0.seen on opening first.1 then,
  )

  -- none was served yet
  abbrev pub served-none : (v w : View BarrierEntry T) → Served [] v w
  served-none v w = record { ends = []; serves = refl; each = tt }

  -- some were served, and then some more
  abbrev pub served-then : (js ks : List ℕ) (v u w : View BarrierEntry T)
      → IsPrefix v.seen u.seen → IsPrefix u.seen w.seen → w.opening ≡ u.opening → Served js v u → Served ks u w
      → Served (js ++ ks) v w
  served-then js ks v u w before on opening a b = record {
    ends = a.ends ++ b.ends;
    serves = sym (served-append a.ends b.ends) ∙ (λ i. a.serves i ++ b.serves i);
    each = all-then a.ends b.ends v.seen u w before on opening a.each b.each;
  }

  -- what was served since u was served since v
  abbrev pub served-from : (ks : List ℕ) (v u w : View BarrierEntry T) → IsPrefix v.seen u.seen → Served ks u w
      → Served ks v w
  served-from ks v u w before a = record {
    ends = a.ends;
    serves = a.serves;
    each = all-from a.ends v.seen u.seen w before a.each;
  }
