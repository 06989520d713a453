-- A load of a cell. What it shows, if it shows a step of the queue, is a row of its table: the owner of a wait learns
-- what became of it, and a resume meets a cell that is settled.
use Rattle.std.proofs.Common.{◌≡◌, ◌≢◌, ◌⊎◌, ℕ, ◌<◌, ◌^◌, Bool, true, false, [], ◌++◌, sym, refl, ap, ◌∙◌, subst, ⊎_elim, inl, inr, arith, Option, Some, None, eq-eqb, ne_eqb, if◌then◌else◌}
use Rattle.std.specs.Prelude.{slice_index, slice_set}
use mathlib.Core.Logic.{dite}
use native.Mathlib.Decide.{ℕ_discrete}
use lib.Seq.{set-get_or}
use Rattle.cqs_core.specs.declared.cells.CoreCell.{CoreCell}
use Rattle.cqs_core.specs.QueueCells.{rank}
use Rattle.std.proofs.lemmas.Option.{same_Some}
use mathlib.Core.Option.{some, none}
use lib.ListN.{get_elem?}
use Rattle.atomic_table.specs.Table.{State, Me, Act, keeps, step, stepped, carried_after, Valid, Allows}
use Rattle.cqs_core.specs.declared.cells.CoreState.{CoreState}
use Rattle.cqs_core.specs.declared.cells.CoreState.TheVariants as state
use Rattle.cqs_core.specs.QueueEither.{IsSoundEither}
use Rattle.cqs_core.specs.QueueStages as stage
use Rattle.cqs_core.specs.QueueStages.{Stage, doing_at, MayMeet, MayFind, MayWork}
use Rattle.cqs_core.specs.QueueSteps.{wait_stays, wait_closes, nothing, its_own, QueueStep, looks, pends, grants, late, passes_over, ends_refused, ends_missed, in_sync, sees_value, sees_taken, finds_broken, row_of, CellRow, at_cell, payload_told, IsOpenRow}
use Rattle.cqs_core.proofs.QueueRows.{row-of}
use Rattle.cqs_core.proofs.QueueUniform.{IsCellRow, IsAtCell}
use Rattle.cqs_words.specs.declared.cell.CellState.{CellState}
use Rattle.cqs_words.specs.Cell.{unpacked_cell, index_in}
use Rattle.cqs_words.proofs.CellLaws.{unpacked_cell-packed_cell}
use Rattle.cqs_rule_laws.specs.declared.loads.Learned.{Learned}
use Rattle.cqs_rule_laws.specs.declared.loads.Learned.TheVariants.{Nothing}
use Rattle.cqs_rule_laws.specs.declared.view.View.{View}
use Rattle.cqs_rule_laws.specs.declared.view.Facts.{Facts}
use Rattle.cqs_rule_laws.specs.declared.view.Glimpse.{Glimpse}
use Rattle.cqs_rule_laws.specs.declared.view.Opening.{Opening}
use Rattle.cqs_rule_laws.specs.Client.{IsClient}
use Rattle.cqs_rule_laws.specs.Exchanges.{IsOwnWait, FoundCell, HasCell}
use Rattle.cqs_rule_laws.specs.Facts.{facts_after, facts_worked, facts_watched, is_owing}
use Rattle.cqs_rule_laws.specs.Hidden.{Hidden, Gains, happened_by, state_in, state_at}
use Rattle.cqs_rule_laws.specs.declared.view.Has.{Has as OwnHas}
use Rattle.cqs_rule_laws.specs.Lists as lists
use Rattle.cqs_rule_laws.specs.Settling.{settles_row, duties_in}
use Rattle.cqs_rule_laws.specs.Inside.{IsInside}
use Rattle.cqs_rule_laws.specs.Layout.{client_words, words_for}
use Rattle.cqs_rule_laws.specs.Lists.{IsDistinct}
use Rattle.cqs_rule_laws.specs.Loads.{LoadStep, counts, watches, polls, cancels, meets, misses, sees, finds, event_of, LoadSuits, served_in, refused_in, cancelled_in, taken_in, broken_in, learned_of, learns, IsTicketOf, MayStand, told_at, facts_looked, MayLook, MayLoad, CarriesLearned, look_entries, Looked, LoadedCell, loaded_by}
use Rattle.cqs_rule_laws.specs.Manner.{Manner, Suits, IsSmart}
use Rattle.cqs_rule_laws.specs.Object.{Object, Primitive}
use Rattle.cqs_rule_laws.specs.Placed.{KnowsPlace, place_at}
use Rattle.cqs_rule_laws.specs.Ruled.{Ruled, Knows, Stands, cell_count, number_at, shown_state, word_of, word_at, CellsShow, IsWaitOf}
use Rattle.cqs_rule_laws.specs.Saw.{Saw, IsLive, WasFound}
use Rattle.cqs_rule_laws.specs.Views.{grown, IsSame}
use Rattle.cqs_rule_laws.proofs.CellPlaces.{suspends-inside}
use Rattle.cqs_rule_laws.proofs.CellsStand.{cell-at, one-number, place-low, place-behind, word-number}
use Rattle.cqs_rule_laws.proofs.Stale.{found-there, false-or-true}
use Rattle.cqs_rule_laws.proofs.Settled.{smart-once, Unsettled, unsettled}
use Rattle.cqs_rule_laws.proofs.Words.{cells-same}
use Rattle.cqs_rule_laws.proofs.CellSteps.{WorksAt, works-at, works, seen-word, since-last}
use Rattle.cqs_rule_laws.proofs.Lists.{length_without}
use Rattle.cqs_rule_laws.proofs.WordStays.{looks-to, found-so, counted-at}
use Rattle.cqs_rule_laws.proofs.Drawing.{draws-cell}
use Rattle.cqs_rule_laws.proofs.Shelves.{keeps-all}
use Rattle.cqs_rule_laws.proofs.Worked.{loaded-same, state-else, payload-else}

-- at what a pass loads so
abbrev stage_of : LoadStep → Stage
stage_of counts = stage.door
stage_of watches = stage.door
stage_of polls = stage.idle
stage_of cancels = stage.idle
stage_of meets = stage.ticket
stage_of misses = stage.ticket
stage_of sees = stage.watching
stage_of finds = stage.drawn

-- what a load that finds the state learns
abbrev learned_at : LoadStep → CoreState → Learned
learned_at counts x = Nothing
learned_at watches x = Nothing
learned_at polls x = served_in (shown_state x)
learned_at cancels x = served_in (shown_state x)
learned_at meets x = refused_in (shown_state x)
learned_at misses x = cancelled_in (shown_state x)
learned_at sees x = taken_in (shown_state x)
learned_at finds x = broken_in (shown_state x)

-- what a pass learns from the word of a cell in this state
pub word-learned : (by : CellState → Learned) (k : ℕ) (x : CoreState) (payload : ℕ) → k < 2 ^ 40 → payload < 2 ^ 20
    → learned_of by (unpacked_cell (word_of k x payload)) ≡ by (shown_state x)
word-learned by k x payload low fits =
    ap (learned_of by) (unpacked_cell-packed_cell (record { index = k; state = shown_state x; payload = payload })
    (record { index = low; payload = fits }))

-- the load is a resume's
abbrev IsTicketLoad : LoadStep → Type 0
IsTicketLoad counts = ⊥
IsTicketLoad watches = ⊥
IsTicketLoad polls = ⊥
IsTicketLoad cancels = ⊥
IsTicketLoad meets = Unit {0}
IsTicketLoad misses = Unit {0}
IsTicketLoad sees = ⊥
IsTicketLoad finds = ⊥

learned-is : (load : LoadStep) (k : ℕ) (x : CoreState) (payload : ℕ) → k < 2 ^ 40 → payload < 2 ^ 20
    → (j : ℕ) → (IsTicketLoad load → j ≡ k) → learns load j (word_of k x payload) ≡ learned_at load x
learned-is counts k x payload low fits j at = refl
learned-is watches k x payload low fits j at = refl
learned-is polls k x payload low fits j at = word-learned served_in k x payload low fits
learned-is cancels k x payload low fits j at = word-learned served_in k x payload low fits
learned-is meets k x payload low fits j at =
    ap (λ b. if b then learned_of refused_in (unpacked_cell (word_of k x payload)) else Nothing)
    (eq-eqb (index_in (word_of k x payload)) j (word-number k x payload fits ∙ sym (at tt)))
    ∙ word-learned refused_in k x payload low fits
learned-is misses k x payload low fits j at = word-learned cancelled_in k x payload low fits
learned-is sees k x payload low fits j at = word-learned taken_in k x payload low fits
learned-is finds k x payload low fits j at = word-learned broken_in k x payload low fits

-- by the number that a pass keeps of its ticket a load tells it what it tells
pub learns-at : {E S : Type 0} (load : LoadStep) (v : View E S) (word number n : ℕ) → MayLoad load v word
    → IsTicketOf v.facts.doing number → learns load number n ≡ learns load (number_at v.facts.doing) n
learns-at counts v word number n may has = refl
learns-at watches v word number n may has = refl
learns-at polls v word number n may has = refl
learns-at cancels v word number n may has = refl
learns-at meets v word number n may has =
    ap (λ k. learns meets k n) (has may.0 may.2 ∙ sym (ap number_at may.2))
learns-at misses v word number n may has = refl
learns-at sees v word number n may has = refl
learns-at finds v word number n may has = refl

-- The step of the queue that a load shows: it loads the cell at which its pass works, found in this state.
record ShowsStep (load : LoadStep) (x : CoreState) (s : QueueStep) : Type 0 where
  row : CellRow
  is : row_of s ≡ at_cell row
  loads : row.makes ≡ None
  finds : x ≡ row.finds
  at : stage_of load ≡ row.works_at
  suits : (m : Manner) → LoadSuits m load → Suits m s
  carries : (gains : Gains) (k n payload : ℕ) (f : Facts) → f.doing ≡ doing_at row.works_at k → IsDistinct f.waits
      → IsOwnWait row.works_at k f → CarriesLearned gains.held (learned_at load x) f
      (facts_worked gains row k n payload f)

-- where it shows none, the pass counts what it did
quiet : (load : LoadStep) (x : CoreState) → event_of load x ≡ None → learned_at load x ≡ Nothing
quiet counts x e = refl
quiet watches x e = refl
quiet polls state.Empty e = refl
quiet polls state.Waiter e = absurd (cc)
quiet polls state.Value e = refl
quiet polls state.Taken e = refl
quiet polls state.Broken e = refl
quiet polls state.Resumed e = absurd (cc)
quiet polls state.Cancelling e = refl
quiet polls state.Delegated e = refl
quiet polls state.Cancelled e = refl
quiet polls state.Refused e = refl
quiet cancels state.Empty e = refl
quiet cancels state.Waiter e = refl
quiet cancels state.Value e = refl
quiet cancels state.Taken e = refl
quiet cancels state.Broken e = refl
quiet cancels state.Resumed e = absurd (cc)
quiet cancels state.Cancelling e = refl
quiet cancels state.Delegated e = refl
quiet cancels state.Cancelled e = refl
quiet cancels state.Refused e = refl
quiet meets state.Empty e = refl
quiet meets state.Waiter e = refl
quiet meets state.Value e = refl
quiet meets state.Taken e = refl
quiet meets state.Broken e = refl
quiet meets state.Resumed e = refl
quiet meets state.Cancelling e = refl
quiet meets state.Delegated e = refl
quiet meets state.Cancelled e = absurd (cc)
quiet meets state.Refused e = absurd (cc)
quiet misses state.Empty e = refl
quiet misses state.Waiter e = refl
quiet misses state.Value e = refl
quiet misses state.Taken e = refl
quiet misses state.Broken e = refl
quiet misses state.Resumed e = refl
quiet misses state.Cancelling e = refl
quiet misses state.Delegated e = refl
quiet misses state.Cancelled e = absurd (cc)
quiet misses state.Refused e = refl
quiet sees state.Empty e = refl
quiet sees state.Waiter e = refl
quiet sees state.Value e = refl
quiet sees state.Taken e = absurd (cc)
quiet sees state.Broken e = refl
quiet sees state.Resumed e = refl
quiet sees state.Cancelling e = refl
quiet sees state.Delegated e = refl
quiet sees state.Cancelled e = refl
quiet sees state.Refused e = refl
quiet finds state.Empty e = refl
quiet finds state.Waiter e = refl
quiet finds state.Value e = refl
quiet finds state.Taken e = refl
quiet finds state.Broken e = absurd (cc)
quiet finds state.Resumed e = refl
quiet finds state.Cancelling e = refl
quiet finds state.Delegated e = refl
quiet finds state.Cancelled e = refl
quiet finds state.Refused e = refl

kept : (gains : ℕ → ℕ) (k n : ℕ) (f : Facts) → CarriesLearned gains Nothing f (facts_watched k n f)
kept gains k n f = record {
  held = refl;
  owes = refl;
  waits = omega arith;
  further = refl;
  spares = refl;
  open_slot = refl;
  ticket = λ j e. e;
}

polls-waiter : ShowsStep polls state.Waiter (looks pends)
polls-waiter = record {
  row = record {
    works_at = stage.idle;
    goes_to = stage.idle;
    finds = state.Waiter;
    makes = None;
    brings = false;
    wait = wait_stays;
    gain = nothing;
    collects = false;
    settles = false;
  };
  is = refl;
  loads = refl;
  finds = refl;
  at = refl;
  suits = λ m fit. tt;
  carries = λ gains k n payload f does once own. record {
    held = refl;
    owes = ap is_owing (sym does);
    waits = omega arith;
    further = refl;
    spares = refl;
    open_slot = refl;
    ticket = λ j e. absurd (cc);
  };
}

polls-resumed : ShowsStep polls state.Resumed (looks grants)
polls-resumed = record {
  row = record {
    works_at = stage.idle;
    goes_to = stage.idle;
    finds = state.Resumed;
    makes = None;
    brings = false;
    wait = wait_closes;
    gain = its_own;
    collects = true;
    settles = true;
  };
  is = refl;
  loads = refl;
  finds = refl;
  at = refl;
  suits = λ m fit. tt;
  carries = λ gains k n payload f does once own. record {
    held = refl;
    owes = ap is_owing (sym does);
    waits = length_without k f.waits once own;
    further = refl;
    spares = refl;
    open_slot = refl;
    ticket = λ j e. absurd (cc);
  };
}

cancels-resumed : ShowsStep cancels state.Resumed (looks late)
cancels-resumed = record {
  row = record {
    works_at = stage.idle;
    goes_to = stage.idle;
    finds = state.Resumed;
    makes = None;
    brings = false;
    wait = wait_closes;
    gain = its_own;
    collects = true;
    settles = true;
  };
  is = refl;
  loads = refl;
  finds = refl;
  at = refl;
  suits = λ m fit. tt;
  carries = λ gains k n payload f does once own. record {
    held = refl;
    owes = ap is_owing (sym does);
    waits = length_without k f.waits once own;
    further = refl;
    spares = refl;
    open_slot = refl;
    ticket = λ j e. absurd (cc);
  };
}

meets-cancelled : ShowsStep meets state.Cancelled passes_over
meets-cancelled = record {
  row = record {
    works_at = stage.ticket;
    goes_to = stage.owes;
    finds = state.Cancelled;
    makes = None;
    brings = false;
    wait = wait_stays;
    gain = nothing;
    collects = false;
    settles = false;
  };
  is = refl;
  loads = refl;
  finds = refl;
  at = refl;
  suits = λ m fit. fit;
  carries = λ gains k n payload f does once own. record {
    held = refl;
    owes = ap is_owing (sym does);
    waits = omega arith;
    further = refl;
    spares = refl;
    open_slot = refl;
    ticket = λ j e. absurd (cc);
  };
}

meets-refused : ShowsStep meets state.Refused ends_refused
meets-refused = record {
  row = record {
    works_at = stage.ticket;
    goes_to = stage.idle;
    finds = state.Refused;
    makes = None;
    brings = false;
    wait = wait_stays;
    gain = nothing;
    collects = false;
    settles = true;
  };
  is = refl;
  loads = refl;
  finds = refl;
  at = refl;
  suits = λ m fit. fit;
  carries = λ gains k n payload f does once own. record {
    held = refl;
    owes = refl;
    waits = omega arith;
    further = refl;
    spares = refl;
    open_slot = refl;
    ticket = λ j e. absurd (cc);
  };
}

misses-cancelled : ShowsStep misses state.Cancelled ends_missed
misses-cancelled = record {
  row = record {
    works_at = stage.ticket;
    goes_to = stage.idle;
    finds = state.Cancelled;
    makes = None;
    brings = false;
    wait = wait_stays;
    gain = nothing;
    collects = false;
    settles = true;
  };
  is = refl;
  loads = refl;
  finds = refl;
  at = refl;
  suits = λ m fit. fit;
  carries = λ gains k n payload f does once own. record {
    held = refl;
    owes = refl;
    waits = omega arith;
    further = refl;
    spares = refl;
    open_slot = refl;
    ticket = λ j e. absurd (cc);
  };
}

sees-value : ShowsStep sees state.Value (in_sync sees_value)
sees-value = record {
  row = record {
    works_at = stage.watching;
    goes_to = stage.watching;
    finds = state.Value;
    makes = None;
    brings = false;
    wait = wait_stays;
    gain = nothing;
    collects = false;
    settles = false;
  };
  is = refl;
  loads = refl;
  finds = refl;
  at = refl;
  suits = λ m fit. fit;
  carries = λ gains k n payload f does once own. record {
    held = refl;
    owes = ap is_owing (sym does);
    waits = omega arith;
    further = refl;
    spares = refl;
    open_slot = refl;
    ticket = λ j e. absurd (cc);
  };
}

sees-taken : ShowsStep sees state.Taken (in_sync sees_taken)
sees-taken = record {
  row = record {
    works_at = stage.watching;
    goes_to = stage.idle;
    finds = state.Taken;
    makes = None;
    brings = false;
    wait = wait_stays;
    gain = nothing;
    collects = false;
    settles = true;
  };
  is = refl;
  loads = refl;
  finds = refl;
  at = refl;
  suits = λ m fit. fit;
  carries = λ gains k n payload f does once own. record {
    held = refl;
    owes = refl;
    waits = omega arith;
    further = refl;
    spares = refl;
    open_slot = refl;
    ticket = λ j e. absurd (cc);
  };
}

finds-broken : ShowsStep finds state.Broken (in_sync finds_broken)
finds-broken = record {
  row = record {
    works_at = stage.drawn;
    goes_to = stage.idle;
    finds = state.Broken;
    makes = None;
    brings = false;
    wait = wait_stays;
    gain = nothing;
    collects = true;
    settles = true;
  };
  is = refl;
  loads = refl;
  finds = refl;
  at = refl;
  suits = λ m fit. fit;
  carries = λ gains k n payload f does once own. record {
    held = refl;
    owes = refl;
    waits = omega arith;
    further = refl;
    spares = refl;
    open_slot = refl;
    ticket = λ j e. absurd (cc);
  };
}

-- the step that a load shows
shows-step : (load : LoadStep) (x : CoreState) (s : QueueStep) → event_of load x ≡ Some s → ShowsStep load x s
shows-step counts x s e = absurd (cc)
shows-step watches x s e = absurd (cc)
shows-step polls state.Empty s e = absurd (cc)
shows-step polls state.Waiter s e = subst (ShowsStep polls state.Waiter) (same_Some (looks pends) s e) polls-waiter
shows-step polls state.Value s e = absurd (cc)
shows-step polls state.Taken s e = absurd (cc)
shows-step polls state.Broken s e = absurd (cc)
shows-step polls state.Resumed s e = subst (ShowsStep polls state.Resumed) (same_Some (looks grants) s e) polls-resumed
shows-step polls state.Cancelling s e = absurd (cc)
shows-step polls state.Delegated s e = absurd (cc)
shows-step polls state.Cancelled s e = absurd (cc)
shows-step polls state.Refused s e = absurd (cc)
shows-step cancels state.Empty s e = absurd (cc)
shows-step cancels state.Waiter s e = absurd (cc)
shows-step cancels state.Value s e = absurd (cc)
shows-step cancels state.Taken s e = absurd (cc)
shows-step cancels state.Broken s e = absurd (cc)
shows-step cancels state.Resumed s e = subst (ShowsStep cancels state.Resumed)
    (same_Some (looks late) s e) cancels-resumed
shows-step cancels state.Cancelling s e = absurd (cc)
shows-step cancels state.Delegated s e = absurd (cc)
shows-step cancels state.Cancelled s e = absurd (cc)
shows-step cancels state.Refused s e = absurd (cc)
shows-step meets state.Empty s e = absurd (cc)
shows-step meets state.Waiter s e = absurd (cc)
shows-step meets state.Value s e = absurd (cc)
shows-step meets state.Taken s e = absurd (cc)
shows-step meets state.Broken s e = absurd (cc)
shows-step meets state.Resumed s e = absurd (cc)
shows-step meets state.Cancelling s e = absurd (cc)
shows-step meets state.Delegated s e = absurd (cc)
shows-step meets state.Cancelled s e = subst (ShowsStep meets state.Cancelled)
    (same_Some passes_over s e) meets-cancelled
shows-step meets state.Refused s e = subst (ShowsStep meets state.Refused) (same_Some ends_refused s e) meets-refused
shows-step misses state.Empty s e = absurd (cc)
shows-step misses state.Waiter s e = absurd (cc)
shows-step misses state.Value s e = absurd (cc)
shows-step misses state.Taken s e = absurd (cc)
shows-step misses state.Broken s e = absurd (cc)
shows-step misses state.Resumed s e = absurd (cc)
shows-step misses state.Cancelling s e = absurd (cc)
shows-step misses state.Delegated s e = absurd (cc)
shows-step misses state.Cancelled s e = subst (ShowsStep misses state.Cancelled)
    (same_Some ends_missed s e) misses-cancelled
shows-step misses state.Refused s e = absurd (cc)
shows-step sees state.Empty s e = absurd (cc)
shows-step sees state.Waiter s e = absurd (cc)
shows-step sees state.Value s e = subst (ShowsStep sees state.Value) (same_Some (in_sync sees_value) s e) sees-value
shows-step sees state.Taken s e = subst (ShowsStep sees state.Taken) (same_Some (in_sync sees_taken) s e) sees-taken
shows-step sees state.Broken s e = absurd (cc)
shows-step sees state.Resumed s e = absurd (cc)
shows-step sees state.Cancelling s e = absurd (cc)
shows-step sees state.Delegated s e = absurd (cc)
shows-step sees state.Cancelled s e = absurd (cc)
shows-step sees state.Refused s e = absurd (cc)
shows-step finds state.Empty s e = absurd (cc)
shows-step finds state.Waiter s e = absurd (cc)
shows-step finds state.Value s e = absurd (cc)
shows-step finds state.Taken s e = absurd (cc)
shows-step finds state.Broken s e = subst (ShowsStep finds state.Broken)
    (same_Some (in_sync finds_broken) s e) finds-broken
shows-step finds state.Resumed s e = absurd (cc)
shows-step finds state.Cancelling s e = absurd (cc)
shows-step finds state.Delegated s e = absurd (cc)
shows-step finds state.Cancelled s e = absurd (cc)
shows-step finds state.Refused s e = absurd (cc)

-- the load is one at which the pass works
abbrev IsWork : LoadStep → Type 0
IsWork counts = ⊥
IsWork watches = ⊥
IsWork polls = Unit {0}
IsWork cancels = Unit {0}
IsWork meets = Unit {0}
IsWork misses = Unit {0}
IsWork sees = Unit {0}
IsWork finds = Unit {0}

-- a pass that may load so works at the cell, and may find it in these states
record Working {E S : Type 0} (load : LoadStep) (v : View E S) (k : ℕ) : Type 0 where
  does : v.facts.doing ≡ doing_at (stage_of load) k
  own : IsOwnWait (stage_of load) k v.facts
  at : IsAtCell (stage_of load)
  stand : (sync : Bool) (x : CoreState) → MayFind sync (stage_of load) x → MayStand sync load x

working : {E S : Type 0} (load : LoadStep) (v : View E S) (k : ℕ) → IsWork load → MayLook load v k → Working load v k
working counts v k is may = absurd is
working watches v k is may = absurd is
working polls v k is may = record { does = may.0; own = may.1; at = tt; stand = λ b x m. m }
working cancels v k is may = record { does = may.0; own = may.1; at = tt; stand = λ b x m. m }
working meets v k is may = record { does = may; own = tt; at = tt; stand = λ b x m. m }
working misses v k is may = record { does = may; own = tt; at = tt; stand = λ b x m. m }
working sees v k is may = record { does = may; own = tt; at = tt; stand = λ b x m. m }
working finds v k is may = record { does = may; own = tt; at = tt; stand = λ b x m. m }

-- no suspend finds its cell cancelled
unmet-cancelled : (sync : Bool) → MayMeet sync state.Cancelled → ⊥
unmet-cancelled true may = may
unmet-cancelled false may = may

-- nor that its wait was served
unserved : (sync : Bool) → MayMeet sync state.Resumed → ⊥
unserved true may = may
unserved false may = may

module _ {E S : Type 0} (object : Object E) (primitive : Primitive E S) (passes limit : ℕ)
    (client : IsClient object primitive) where
  -- a load of this row leaves the words, which show the cells as the step leaves them
  pub cells-loaded : (s : State (Option S) (View E S)) (r : Ruled object primitive passes limit s)
      (p k word payload : ℕ) (row : CellRow) (found : CoreCell) (has : OwnHas) (is : IsCellRow row)
      (sound : IsSoundEither primitive.manner.watches r.hidden.queue)
      (opens : IsOpenRow r.hidden.queue (at_cell row) p k (Some found)) → row.makes ≡ None
      → CellsShow r.segments (happened_by object.gains r.hidden (at_cell row) p k (Some found) has payload)
      r.slots (slice_set s.words word (slice_index s.words word))
  cells-loaded s r p k word payload row found has is sound opens loads =
      let c = r.hidden in
      let d = happened_by object.gains c (at_cell row) p k (Some found) has payload in
      let same = loaded-same object.gains c p k row found has payload is sound opens loads in
      let words : slice_set s.words word (slice_index s.words word) ≡ s.words = set-get_or s.words word 0 in
      subst (CellsShow r.segments d r.slots) (sym words)
      (cells-same r.segments c d r.slots s.words
      (λ j. dite (ℕ_discrete j k)
      (λ (e : j ≡ k). subst (λ z. state_at d.queue z ≡ state_at c.queue z) (sym e) same.0)
      (λ (a : j ≢ k). state-else object.gains c p k row found has payload is sound opens j a))
      (λ j. dite (ℕ_discrete j k)
      (λ (e : j ≡ k). subst (λ z. d.payloads z ≡ c.payloads z) (sym e) same.1)
      (λ (a : j ≢ k). payload-else object.gains c p k row found has payload is sound opens j a)) r.cells)

  unsettled-wait : (s : State (Option S) (View E S)) (r : Ruled object primitive passes limit s) (id : ℕ) (v : View E S)
      (k : ℕ) → get_elem? s.views id ≡ some v → 0 < v.weight → lists.Has k v.facts.waits → r.settled k ≡ false
  unsettled-wait s r id v k here on has = ⊎_elim (λ z. z)
      (λ (z : r.settled k ≡ true).
      absurd ((r.finals k z).unwaited v.number ((r.each_view id v here on).stands.waits k has)))
      (false-or-true (r.settled k))

  -- two waits of a pass that stand at one word are one
  same-wait : (s : State (Option S) (View E S)) (r : Ruled object primitive passes limit s) (id : ℕ) (v : View E S)
      (k j word : ℕ) → get_elem? s.views id ≡ some v → 0 < v.weight → KnowsPlace v (place_at word k)
      → KnowsPlace v (place_at word j) → lists.Has k v.facts.waits → lists.Has j v.facts.waits → k ≡ j
  same-wait s r id v k j word here on a b mine too =
      one-number r.segments r.hidden r.slots s.words r.settled
      (duties_in (λ (z : View E S). z.facts.duties) s.views) v word k j r.cells r.counted (r.each_segment id v
      here).seen
      (unsettled-wait s r id v k here on mine) (unsettled-wait s r id v j here on too) a b

  -- what anybody finds who knows the place of the number k
  pub watched : (s : State (Option S) (View E S)) (r : Ruled object primitive passes limit s) (id : ℕ) (v : View E S)
      (k word : ℕ) → get_elem? s.views id ≡ some v → KnowsPlace v (place_at word k)
      → (slice_index s.words word ≡ word_at r.hidden k)
      ⊎ ((rank (state_at r.hidden.queue k) ≡ 4) × (k < index_in (slice_index s.words word)))
  watched s r id v k word here place =
      let cells = r.slots in
      let duties = duties_in (λ (z : View E S). z.facts.duties) s.views in
      let knows = (r.each_segment id v here).seen in
      ⊎_elim
      (λ (yet : r.settled k ≡ false). inl (cell-at r.segments r.hidden cells s.words r.settled duties v k word r.cells
      r.counted knows yet place).shows)
      (λ (done : r.settled k ≡ true).
      let there = found-there r.segments r.hidden cells s.words r.settled duties v k word r.cells r.counted knows
      (λ j q. (r.finals j q).final) place in
      let more = there.1 in
      dite (ℕ_discrete (index_in (slice_index s.words word)) k)
      (λ (e : index_in (slice_index s.words word) ≡ k). inl (there.0 e))
      (λ (a : index_in (slice_index s.words word) ≢ k). inr ((r.finals k done).final, omega arith)))
      (false-or-true (r.settled k))

  -- what a load of the cell of the number k tells, where it is made
  abbrev Learns : {C : Type 0} → (C → Primitive E S) → LoadStep → (s : State (Option S) (View E S)) → ℕ
      → Me (Option S) (View E S) → ℕ → ℕ → Type 0
  Learns all load s id me k word =
      (w : View E S) × (a : Act (Option S)) × Valid s.homes me.1 a
      × Ruled object primitive passes limit (stepped s word (slice_index s.words word) id me.1 w a)
      × (Looked object all load k me.0 (slice_index s.words word) w × (carried_after me.1 a ≡ me.1) × IsLive object w
      × CarriesLearned object.gains.held (learns load (number_at me.0.facts.doing) (slice_index s.words word))
      me.0.facts
      w.facts × IsSame me.0 w)

  -- a load of the cell of the number k, which stands at this word
  learns-so : {C : Type 0} (all : C → Primitive E S) (y : C) → all y ≡ primitive → (load : LoadStep)
      (s : State (Option S) (View E S)) (r : Ruled object primitive passes limit s) (id : ℕ)
      (me : Me (Option S) (View E S))
      (k word : ℕ) → get_elem? s.views id ≡ some me.0 → me.0.weight ≡ 1 → LoadSuits primitive.manner load → IsWork load
      → MayLook load me.0 k → KnowsPlace me.0 (place_at word k) → Learns all load s id me k word
  learns-so all y all_is load s r id me k word here one suits is may place = by (event_of load x) refl
    where
      v : View E S
      v = me.0

      f : Facts
      f = v.facts

      c : Hidden
      c = r.hidden

      n : ℕ
      n = slice_index s.words word

      x : CoreState
      x = state_at c.queue k

      known : Knows object c r.log r.handed r.made r.live passes limit
          (cell_count passes limit primitive.values) primitive.opening v
      known = r.each_view id v here (omega arith)

      at : Stands c v.number f
      at = known.stands

      sound : IsSoundEither primitive.manner.watches c.queue
      sound = client.sound c (client_words s.words) r.log r.handed r.shown

      job : Working load v k
      job = working load v k is may

      stood : WorksAt primitive.manner.watches c (cell_count passes limit primitive.values) v.number k (stage_of load)
      stood = works-at c passes limit primitive.values v.number k
          (stage_of load) f r.room sound at job.does job.own job.at

      seen : (slice_index s.words word ≡ word_at c k) ⊎ ((state_at c.queue k ≡ state.Cancelled)
          × IsSmart primitive.manner.leaving × (k < index_in (slice_index s.words word)))
      seen = seen-word object primitive passes limit client s r id v k word (stage_of load) here job.at sound stood at
          job.does job.own place

      g : Glimpse
      g = record { number = k; state = x; payload = c.payloads k }

      low : k < 2 ^ 40
      low = let b = stood.below in let l = r.room.low_limit in let q = r.room.few_passes in let u =
          r.room.few_values in omega arith

      cell : FoundCell n g
      cell = record {
        word = ⊎_elim inl (λ t. inr (t.0, t.2)) seen;
        number = low;
        fits = r.cells.fits k;
        bare = r.cells.bare k;
      }

      may-here : MayFind v.opening.sync (stage_of load) x
      may-here = subst (λ b. MayFind b (stage_of load) x)
          (sym (ap (λ (o : Opening). o.sync) known.opening_is ∙ client.sync))
          (subst (MayFind primitive.manner.watches (stage_of load)) (ap state_in (sym stood.there)) stood.may)

      stand : MayStand v.opening.sync load x
      stand = job.stand v.opening.sync x may-here

      number-is : (l : LoadStep) → IsTicketLoad l → MayLook l v k → number_at f.doing ≡ k
      number-is counts t m = absurd t
      number-is watches t m = absurd t
      number-is polls t m = absurd t
      number-is cancels t m = absurd t
      number-is meets t m = ap number_at m
      number-is misses t m = ap number_at m
      number-is sees t m = absurd t
      number-is finds t m = absurd t

      gone : (l : LoadStep) → IsWork l → MayFind v.opening.sync (stage_of l) x → LoadSuits primitive.manner l
          → MayLook l v k
          → x ≡ state.Cancelled → IsSmart primitive.manner.leaving → k < index_in n
          → learns l (number_at f.doing) n ≡ learned_at l x
      gone counts w m u a e q z = refl
      gone watches w m u a e q z = refl
      gone polls w m u a e q z = absurd (subst (MayFind v.opening.sync stage.idle) e m)
      gone cancels w m u a e q z = absurd (subst (MayFind v.opening.sync stage.idle) e m)
      gone meets w m u a e q z =
          ap (λ b. if b then learned_of refused_in (unpacked_cell n) else Nothing)
          (ne_eqb (index_in n) (number_at f.doing) (λ same. let d = ap number_at a in omega arith))
          ∙ ap (λ y. refused_in (shown_state y)) (sym e)
      gone misses w m u a e q z = absurd (smart-once primitive.manner.leaving q u)
      gone sees w m u a e q z = absurd (subst (MayFind v.opening.sync stage.watching) e m)
      gone finds w m u a e q z =
          absurd (unmet-cancelled v.opening.sync (subst (MayFind v.opening.sync stage.drawn) e m))

      tells : learns load (number_at f.doing) n ≡ learned_at load x
      tells = ⊎_elim
          (λ (word-is : n ≡ word_at c k). ap (learns load (number_at f.doing)) word-is
          ∙ learned-is load k x (c.payloads k) low (r.cells.fits k) (number_at f.doing) (λ t. number-is load t may))
          (λ t. gone load is may-here suits may t.0 t.1 t.2)
          seen

      wait-of : (l : LoadStep) → IsWork l → MayFind v.opening.sync (stage_of l) x → MayLook l v k → x ≡ state.Resumed
          → IsWaitOf c.queue v.number k
      wait-of counts w m a e = absurd w
      wait-of watches w m a e = absurd w
      wait-of polls w m a e = at.waits k a.1
      wait-of cancels w m a e = at.waits k a.1
      wait-of meets w m a e = absurd (subst (MayFind v.opening.sync stage.ticket) e m)
      wait-of misses w m a e = absurd (subst (MayFind v.opening.sync stage.ticket) e m)
      wait-of sees w m a e = absurd (subst (MayFind v.opening.sync stage.watching) e m)
      wait-of finds w m a e = absurd (unserved v.opening.sync (subst (MayFind v.opening.sync stage.drawn) e m))

      by : (o : Option QueueStep) → event_of load x ≡ o → Learns all load s id me k word
      by None e =
          let facts = facts_watched k n f in
          let done = looks-to object primitive passes limit client s r id me word facts here one
          (record {
            doing = at.doing;
            has = at.has;
            may_draw = at.may_draw;
            waits = at.waits;
            all_waits = at.all_waits;
            once = at.once;
            last = at.last;
            behind = record { reached = at.behind.reached; passed = at.behind.passed };
          }) known.payload_fits (keeps-all primitive.opens v facts refl (λ j o. o)) (draws-cell f.found k n) refl refl
          refl in
          let w : View E S = grown v facts (r.log ++ []) r.handed in (
            w,
            keeps,
            tt,
            done.0,
            (
              record {
                glimpse = g;
                number = refl;
                cell = cell;
                may = stand;
                since = since-last c k f.last at.last;
                saw = subst (λ (z : Option QueueStep). Saw object v (facts_looked object.gains z n g f)
                    (look_entries object all z v.number g f) w)
                    (sym e) done.1;
                was = subst (λ (z : Option QueueStep). WasFound all (HasCell g)
                    (look_entries object all z v.number g f) w) (sym e)
                    (found-so object primitive passes limit client all y all_is s r w (HasCell g)
                    [] known.opening_is refl (refl, refl));
              },
              refl,
              done.2,
              subst (λ z. CarriesLearned object.gains.held z f facts) (sym (tells ∙ quiet load x e))
                  (kept object.gains.held k n f),
              done.1.same,
            ),
          )
      by (Some st) e =
          let show = shows-step load x st e in
          let row = show.row in
          let pay = payload_told row.gain (c.payloads k) f.has.payload in
          let facts = facts_worked object.gains row k n pay f in
          let es = object.entries st v.number k pay in
          let row_is : IsCellRow row = row-of st row show.is in
          let at_is : stood.cell.state ≡ row.finds = ap state_in (sym stood.there) ∙ show.finds in
          let opens : IsOpenRow c.queue (at_cell row) v.number k (Some stood.cell) = (
            record {
              does = at.doing ∙ ap Some (job.does ∙ ap (λ z. doing_at z k) show.at);
              finds = stood.there;
              at = at_is;
            },
            subst (λ z. MayWork z v.number stood.cell) show.at stood.works,
          ) in
          let same = loaded-same object.gains c v.number k row stood.cell f.has pay row_is sound opens show.loads in
          let behind = place-behind v k word place in
          let fit = show.suits primitive.manner suits in
          let yet : settles_row row ≡ true → r.settled k ≡ false = λ e.
          ⊎_elim (λ z. z) (λ (z : r.settled k ≡ true). absurd
          (subst (λ q. Unsettled primitive.manner c.queue v.number k stood.cell q) show.is
          (unsettled primitive.manner c.queue v.number k stood.cell st fit) opens
          (λ q. wait-of load is may-here may (show.finds ∙ q)) (r.finals k z) e)) (false-or-true (r.settled k)) in
          let done = works object primitive passes limit client s r id me st row k word n pay stood.cell show.is here
          one fit opens behind.0 behind.1 yet refl
          (cells-loaded s r v.number k word pay row stood.cell f.has row_is sound opens
          show.loads) in
          let w : View E S = grown v facts (r.log ++ es) r.handed in (
            w,
            keeps,
            tt,
            done.0,
            (
              record {
                glimpse = g;
                number = refl;
                cell = cell;
                may = stand;
                since = since-last c k f.last at.last;
                saw = subst (λ (z : Option QueueStep). Saw object v (facts_looked object.gains z n g f)
                    (look_entries object all z v.number g f) w)
                    (sym e) (subst (λ z. Saw object v (facts_after object.gains z k n (told_at z (c.payloads k) f) f)
                    (object.entries st v.number k (told_at z (c.payloads k) f)) w) (sym show.is) done.1);
                was = subst (λ (z : Option QueueStep). WasFound all (HasCell g)
                    (look_entries object all z v.number g f) w) (sym e)
                    (subst (λ z. WasFound all (HasCell g) (object.entries st v.number k (told_at z (c.payloads k) f)) w)
                    (sym show.is)
                    (found-so object primitive passes limit client all y all_is s r w
                    (HasCell g) es known.opening_is refl (refl, refl)));
              },
              refl,
              done.2,
              subst (λ z. CarriesLearned object.gains.held z f facts) (sym tells)
                  (show.carries object.gains k n pay f (job.does ∙ ap (λ z. doing_at z k) show.at) at.once
                  (subst (λ z. IsOwnWait z k f) show.at job.own)),
              done.1.same,
            ),
          )

  -- a load of a cell with no event
  watched-at : {C : Type 0} (all : C → Primitive E S) (y : C) → all y ≡ primitive → (slots id : ℕ)
      (me : Me (Option S) (View E S)) (word : ℕ) → me.0.weight ≡ 1
      → Allows (Ruled object primitive passes limit) slots id me word (λ n. n)
      (loaded_by object all watches (step slots word 0 0 none) me)
  watched-at all y all_is slots id me word one s r _ here small =
      let v = me.0 in let f = v.facts in let c = r.hidden in
      let n = slice_index s.words word in
      let known = r.each_view id v here (omega arith) in
      let at = known.stands in
      let cells_are = known.cells_are in
      let facts = facts_watched (index_in n) n f in
      let done = looks-to object primitive passes limit client s r id me word facts here one
      (record {
        doing = at.doing;
        has = at.has;
        may_draw = at.may_draw;
        waits = at.waits;
        all_waits = at.all_waits;
        once = at.once;
        last = at.last;
        behind = record { reached = at.behind.reached; passed = at.behind.passed };
      }) known.payload_fits (keeps-all primitive.opens v facts refl (λ j o. o)) (draws-cell f.found (index_in n) n) refl
      refl refl in
      let w : View E S = grown v facts (r.log ++ []) r.handed in (
        w,
        keeps,
        tt,
        done.0,
        (
          record {
            saw = done.1;
            cells = λ k place below. record {
              glimpse = record { number = k; state = state_at c.queue k; payload = c.payloads k };
              number = refl;
              cell = record {
                word = watched s r id v k word here place;
                number = let l = r.room.low_limit in let q = r.room.few_passes in let u =
                    r.room.few_values in omega arith;
                fits = r.cells.fits k;
                bare = r.cells.bare k;
              };
              since = since-last c k f.last at.last;
              was = found-so object primitive passes limit client all y all_is s r w
                  (HasCell (record { number = k; state = state_at c.queue k; payload = c.payloads k })) []
                  known.opening_is refl (refl, refl);
            };
          },
          refl,
          done.2,
          kept object.gains.held (index_in n) n f,
          done.1.same,
        ),
      )

  -- two numbers at which a pass may load one word so are one
  one-load : (load : LoadStep) (s : State (Option S) (View E S)) (r : Ruled object primitive passes limit s) (id : ℕ)
      (v : View E S) (k j word : ℕ) → get_elem? s.views id ≡ some v → 0 < v.weight → IsWork load
      → KnowsPlace v (place_at word k) → KnowsPlace v (place_at word j) → MayLook load v k → MayLook load v j → k ≡ j
  one-load counts s r id v k j word here on is a b may too = absurd is
  one-load watches s r id v k j word here on is a b may too = absurd is
  one-load polls s r id v k j word here on is a b may too = same-wait s r id v k j word here on a b may.1 too.1
  one-load cancels s r id v k j word here on is a b may too = same-wait s r id v k j word here on a b may.1 too.1
  one-load meets s r id v k j word here on is a b may too = ap number_at (sym may ∙ too)
  one-load misses s r id v k j word here on is a b may too = ap number_at (sym may ∙ too)
  one-load sees s r id v k j word here on is a b may too = ap number_at (sym may ∙ too)
  one-load finds s r id v k j word here on is a b may too = ap number_at (sym may ∙ too)

  -- the load of a cell that the pass knows to stand at the word, whichever it is
  any-cell : {C : Type 0} (all : C → Primitive E S) (load : LoadStep) (s : State (Option S) (View E S))
      (r : Ruled object primitive passes limit s) (id : ℕ)
      (me : Me (Option S) (View E S)) (k word : ℕ) → get_elem? s.views id ≡ some me.0 → 0 < me.0.weight → IsWork load
      → KnowsPlace me.0 (place_at word k) → MayLook load me.0 k → (w : View E S)
      → Looked object all load k me.0 (slice_index s.words word) w
      → LoadedCell object all load word me.0 (slice_index s.words word) w
  any-cell all load s r id me k word here on is place may w looked = λ j there too.
      subst (λ z. Looked object all load z me.0 (slice_index s.words word) w)
      (one-load load s r id me.0 k j word here on is place there may too) looked

  -- a load of the table
  pub loads : {C : Type 0} (all : C → Primitive E S) (y : C) → all y ≡ primitive → (slots id : ℕ)
      (me : Me (Option S) (View E S)) (load : LoadStep) (word : ℕ) → me.0.weight ≡ 1 → LoadSuits primitive.manner load
      → MayLoad load me.0 word
      → Allows (Ruled object primitive passes limit) slots id me word (λ n. n)
      (loaded_by object all load (step slots word 0 0 none) me)
  loads all y all_is slots id me counts word one suits may s r homes here small =
      counted-at object primitive passes limit client all y all_is slots id me word one may s r homes here small
  loads all y all_is slots id me watches word one suits may s r homes here small =
      watched-at all y all_is slots id me word one s r homes here small
  loads all y all_is slots id me polls word one suits may s r _ here small =
      let t = learns-so all y all_is polls s r id me may.0 word here one suits tt may.2 may.1 in (
        t.0,
        t.1,
        t.2,
        t.3,
        (
          any-cell all polls s r id me may.0 word here (omega arith) tt may.1 may.2 t.0 t.4.0,
          t.4.1,
          t.4.2,
          t.4.3,
          t.4.4,
        ),
      )
  loads all y all_is slots id me cancels word one suits may s r _ here small =
      let t = learns-so all y all_is cancels s r id me may.0 word here one suits tt may.2 may.1 in (
        t.0,
        t.1,
        t.2,
        t.3,
        (
          any-cell all cancels s r id me may.0 word here (omega arith) tt may.1 may.2 t.0 t.4.0,
          t.4.1,
          t.4.2,
          t.4.3,
          t.4.4,
        ),
      )
  loads all y all_is slots id me meets word one suits may s r _ here small =
      let t = learns-so all y all_is meets s r id me may.0 word here one suits tt may.2 may.1 in (
        t.0,
        t.1,
        t.2,
        t.3,
        (
          any-cell all meets s r id me may.0 word here (omega arith) tt may.1 may.2 t.0 t.4.0,
          t.4.1,
          t.4.2,
          t.4.3,
          t.4.4,
        ),
      )
  loads all y all_is slots id me misses word one suits may s r _ here small =
      let t = learns-so all y all_is misses s r id me may.0 word here one suits tt may.2 may.1 in (
        t.0,
        t.1,
        t.2,
        t.3,
        (
          any-cell all misses s r id me may.0 word here (omega arith) tt may.1 may.2 t.0 t.4.0,
          t.4.1,
          t.4.2,
          t.4.3,
          t.4.4,
        ),
      )
  loads all y all_is slots id me sees word one suits may s r _ here small =
      let t = learns-so all y all_is sees s r id me may.0 word here one suits tt may.2 may.1 in (
        t.0,
        t.1,
        t.2,
        t.3,
        (
          any-cell all sees s r id me may.0 word here (omega arith) tt may.1 may.2 t.0 t.4.0,
          t.4.1,
          t.4.2,
          t.4.3,
          t.4.4,
        ),
      )
  loads all y all_is slots id me finds word one suits may s r _ here small =
      let t = learns-so all y all_is finds s r id me may.0 word here one suits tt may.2 may.1 in (
        t.0,
        t.1,
        t.2,
        t.3,
        (
          any-cell all finds s r id me may.0 word here (omega arith) tt may.1 may.2 t.0 t.4.0,
          t.4.1,
          t.4.2,
          t.4.3,
          t.4.4,
        ),
      )

-- the word of a load is one of the table's
pub load-low : {E S : Type 0} (v : View E S) (word : ℕ) (load : LoadStep) → IsInside v → MayLoad load v word
    → word < words_for v.slots
load-low v word counts inside may = subst (λ z. z < words_for v.slots) (sym may) (suspends-inside v.slots)
load-low v word watches inside may = place-low v may.0 word may.1
load-low v word polls inside may = place-low v may.0 word may.1
load-low v word cancels inside may = place-low v may.0 word may.1
load-low v word meets inside may = place-low v may.0 word may.1
load-low v word misses inside may = place-low v may.0 word may.1
load-low v word sees inside may = place-low v may.0 word may.1
load-low v word finds inside may = place-low v may.0 word may.1
