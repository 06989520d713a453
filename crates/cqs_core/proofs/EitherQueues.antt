-- Every step keeps what holds of the queue part, where it is synchronous or isn't.
use Rattle.std.proofs.Common.{◌≡◌, ◌≢◌, ◌⊎◌, inl, inr, ⊎_elim, ℕ, zero, suc, ◌+◌, Bool, true, false, List, [], ◌∷◌, ◌++◌, Option, Some, None, set, slice_get, refl, sym, ap, ◌∙◌, subst}
use mathlib.Core.Logic.{dite}
use native.Mathlib.Decide.{ℕ_discrete}
use Rattle.std.proofs.lemmas.Option.{same_Some}
use Rattle.cqs_core.specs.declared.cells.CoreCell.{CoreCell}
use Rattle.cqs_core.specs.declared.cells.CoreState.{CoreState}
use Rattle.cqs_core.specs.declared.cells.CoreState.TheVariants as state
use Rattle.cqs_core.specs.declared.doings.Doing.{Doing}
use Rattle.cqs_core.specs.declared.doings.Doing.TheVariants as doing
use Rattle.cqs_core.specs.QueueAsUnbroken.{as_unbroken, IsUnbroken}
use Rattle.cqs_core.specs.QueueEither.{HoldsWatched, IsSoundEither, MayBeMade}
use Rattle.cqs_core.specs.QueueState.{Queue}
use Rattle.cqs_core.specs.QueueMoves.{now_doing}
use Rattle.cqs_core.specs.QueueSound.{IsSound}
use Rattle.cqs_core.specs.QueueStages as stage
use Rattle.cqs_core.specs.QueueStages.{Stage, doing_at, IsWatched}
use Rattle.cqs_core.specs.QueueSteps as step
use Rattle.cqs_core.specs.QueueSteps.{QueueStep, Makers, SyncStep, StepRow, CellRow, CounterRow, at_counter, at_cell, Counter, to_suspend, to_resume, stage_counted, after_count, state_made, cell_after, card_of, row_of, IsOpenRow, IsOpenStep, row_after, queue_after}
use Rattle.cqs_core.proofs.EitherFacts.{plain-read, sound-unbroken}
use Rattle.cqs_core.proofs.Places.{get-set_here, get-set_else, get-append_left}
use Rattle.cqs_core.proofs.QueueStepMoves.{sound-after}
use Rattle.cqs_core.proofs.ReadSteps.{step-sound}
use Rattle.cqs_core.proofs.StepFacts.{IsPlainStep, MayBePlain}

-- a queue that isn't synchronous
pub either-sound : (q : Queue) → IsSound q → IsSoundEither false q
either-sound q sound = record {
  reads = subst IsSound (sym (plain-read q (sound-unbroken q sound))) sound;
  plain = λ e. sound-unbroken q sound;
  watches = λ p k does. absurd (sound.passes.at p (doing.Watching k) does);
  lone = λ p r k one other. absurd (sound.passes.at p (doing.Watching k) one);
  watched = λ e. absurd (cc);
  undelegated = λ e. absurd (cc);
}

-- and back
pub sound-either : (q : Queue) → IsSoundEither false q → IsSound q
sound-either q is = subst IsSound (plain-read q (is.plain refl)) is.reads

-- WHAT A ROW MAKES OF WATCHED CELLS.

abbrev pub Watches : Stage → Type 0
Watches stage.watching = Unit {0}
Watches stage.idle = ⊥
Watches stage.door = ⊥
Watches stage.owes = ⊥
Watches stage.drawn = ⊥
Watches stage.ticket = ⊥
Watches stage.leaving = ⊥
Watches (stage.decided on) = ⊥

abbrev HasValue : CoreState → Type 0
HasValue state.Value = Unit {0}
HasValue state.Empty = ⊥
HasValue state.Waiter = ⊥
HasValue state.Taken = ⊥
HasValue state.Broken = ⊥
HasValue state.Resumed = ⊥
HasValue state.Cancelling = ⊥
HasValue state.Delegated = ⊥
HasValue state.Cancelled = ⊥
HasValue state.Refused = ⊥

abbrev IsDelegated : CoreState → Type 0
IsDelegated state.Delegated = Unit {0}
IsDelegated state.Empty = ⊥
IsDelegated state.Waiter = ⊥
IsDelegated state.Value = ⊥
IsDelegated state.Taken = ⊥
IsDelegated state.Broken = ⊥
IsDelegated state.Resumed = ⊥
IsDelegated state.Cancelling = ⊥
IsDelegated state.Cancelled = ⊥
IsDelegated state.Refused = ⊥

-- Who watches then watches a cell that holds a value or held it, and is the only one to. A watched cell stays so, or
-- its watcher made the step. A value that is there then is watched. In a synchronous queue none is left to a canceller.
record KeepsWatch (sync : Bool) (works goes : Stage) (finds made : CoreState) : Type 0 where
  goes_on : Watches goes → IsWatched made
  alone : Watches goes → Watches works ⊎ (IsWatched finds → ⊥)
  stays : IsWatched finds → IsWatched made ⊎ Watches works
  left : sync ≡ true → HasValue made → Watches goes ⊎ (HasValue finds × (Watches works → ⊥))
  undelegated : sync ≡ true → IsDelegated made → ⊥

abbrev RowKeeps : Bool → StepRow → Type 0
RowKeeps sync (at_counter row) = Watches row.works_at → ⊥
RowKeeps sync (at_cell row) = KeepsWatch sync row.works_at row.goes_to row.finds (state_made row.makes row.finds)

-- a step at a cell that nobody watches, by a pass that doesn't come to watch it
unwatched : (sync : Bool) (works goes : Stage) (finds made : CoreState) → (Watches goes → ⊥) → (IsWatched finds → ⊥)
    → (sync ≡ true → HasValue made → ⊥) → (sync ≡ true → IsDelegated made → ⊥)
    → KeepsWatch sync works goes finds made
unwatched sync works goes finds made away none new whole = record {
  goes_on = λ w. absurd (away w);
  alone = λ w. absurd (away w);
  stays = λ w. absurd (none w);
  left = λ e v. absurd (new e v);
  undelegated = whole;
}

row-keeps : (sync : Bool) (s : QueueStep) → MayBeMade sync (card_of s).makers → RowKeeps sync (row_of s)
row-keeps sync step.draws may = λ w. w
row-keeps sync step.enters may = λ w. w
row-keeps sync step.reaches may = λ w. w
row-keeps sync step.begins may = λ w. w
row-keeps sync step.puts may = λ w. w
row-keeps sync step.installs may = unwatched sync _ _ _ _ (λ w. w) (λ w. w) (λ e v. v) (λ e d. d)
row-keeps sync step.takes may = record {
  goes_on = λ w. absurd w;
  alone = λ w. absurd w;
  stays = λ w. inl tt;
  left = λ e v. absurd v;
  undelegated = λ e d. d;
}
row-keeps sync step.serves may = unwatched sync _ _ _ _ (λ w. w) (λ w. w) (λ e v. v) (λ e d. d)
row-keeps sync step.leaves may =
    unwatched sync _ _ _ _ (λ w. w) (λ w. w) (λ e v. absurd (cc (e, may))) (λ e d. d)
row-keeps sync step.delegates may =
    unwatched sync _ _ _ _ (λ w. w) (λ w. w) (λ e v. v) (λ e d. absurd (cc (e, may)))
row-keeps sync step.passes_over may = unwatched sync _ _ _ _ (λ w. w) (λ w. w) (λ e v. v) (λ e d. d)
row-keeps sync step.ends_refused may = unwatched sync _ _ _ _ (λ w. w) (λ w. w) (λ e v. v) (λ e d. d)
row-keeps sync step.ends_missed may = unwatched sync _ _ _ _ (λ w. w) (λ w. w) (λ e v. v) (λ e d. d)
row-keeps sync step.starts_leaving may = unwatched sync _ _ _ _ (λ w. w) (λ w. w) (λ e v. v) (λ e d. d)
row-keeps sync step.leaves_line may = unwatched sync _ _ _ _ (λ w. w) (λ w. w) (λ e v. v) (λ e d. d)
row-keeps sync step.leaves_at_once may = unwatched sync _ _ _ _ (λ w. w) (λ w. w) (λ e v. v) (λ e d. d)
row-keeps sync step.settles may = unwatched sync _ _ _ _ (λ w. w) (λ w. w) (λ e v. v) (λ e d. d)
row-keeps sync step.settles_owing may = unwatched sync _ _ _ _ (λ w. w) (λ w. w) (λ e v. v) (λ e d. d)
row-keeps sync step.refuses may = unwatched sync _ _ _ _ (λ w. w) (λ w. w) (λ e v. v) (λ e d. d)
row-keeps sync step.refuses_value may = unwatched sync _ _ _ _ (λ w. w) (λ w. w) (λ e v. v) (λ e d. d)
row-keeps sync (step.looks step.pends) may = unwatched sync _ _ _ _ (λ w. w) (λ w. w) (λ e v. v) (λ e d. d)
row-keeps sync (step.looks step.grants) may = unwatched sync _ _ _ _ (λ w. w) (λ w. w) (λ e v. v) (λ e d. d)
row-keeps sync (step.looks step.late) may = unwatched sync _ _ _ _ (λ w. w) (λ w. w) (λ e v. v) (λ e d. d)
row-keeps sync (step.in_sync step.leaves_watched) may = record {
  goes_on = λ w. tt;
  alone = λ w. inr (λ i. i);
  stays = λ w. absurd w;
  left = λ e v. inl tt;
  undelegated = λ e d. d;
}
row-keeps sync (step.in_sync step.sees_value) may = record {
  goes_on = λ w. tt;
  alone = λ w. inl tt;
  stays = λ w. inl tt;
  left = λ e v. inl tt;
  undelegated = λ e d. d;
}
row-keeps sync (step.in_sync step.sees_taken) may = record {
  goes_on = λ w. absurd w;
  alone = λ w. absurd w;
  stays = λ w. inl tt;
  left = λ e v. absurd v;
  undelegated = λ e d. d;
}
row-keeps sync (step.in_sync step.breaks) may = record {
  goes_on = λ w. absurd w;
  alone = λ w. absurd w;
  stays = λ w. inr tt;
  left = λ e v. absurd v;
  undelegated = λ e d. d;
}
row-keeps sync (step.in_sync step.takes_watched) may = record {
  goes_on = λ w. absurd w;
  alone = λ w. absurd w;
  stays = λ w. inl tt;
  left = λ e v. absurd v;
  undelegated = λ e d. d;
}
row-keeps sync (step.in_sync step.finds_broken) may = unwatched sync _ _ _ _ (λ w. w) (λ w. w) (λ e v. v) (λ e d. d)

-- the stage of a pass that watches
watching-is : (at : Stage) (k j : ℕ) → doing_at at k ≡ doing.Watching j → Watches at × (j ≡ k)
watching-is stage.watching k j e = (tt, cc (e))
watching-is stage.idle k j e = absurd (cc (e))
watching-is stage.door k j e = absurd (cc (e))
watching-is stage.owes k j e = absurd (cc (e))
watching-is stage.drawn k j e = absurd (cc (e))
watching-is stage.ticket k j e = absurd (cc (e))
watching-is stage.leaving k j e = absurd (cc (e))
watching-is (stage.decided on) k j e = absurd (cc (e))

watching-at : (at : Stage) (k : ℕ) → Watches at → doing_at at k ≡ doing.Watching k
watching-at stage.watching k w = refl
watching-at stage.idle k w = absurd w
watching-at stage.door k w = absurd w
watching-at stage.owes k w = absurd w
watching-at stage.drawn k w = absurd w
watching-at stage.ticket k w = absurd w
watching-at stage.leaving k w = absurd w
watching-at (stage.decided on) k w = absurd w

-- what stands in a list with one more stood there before, or is the one
push-back : (cells : List CoreCell) (new : CoreCell) (j : ℕ) (x : CoreCell)
    → slice_get (cells ++ new ∷ []) j ≡ Some x → (slice_get cells j ≡ Some x) ⊎ (x ≡ new)
push-back [] new zero x e = inr (sym (same_Some new x e))
push-back [] new (suc j) x e = absurd (cc)
push-back (y ∷ ys) new zero x e = inl e
push-back (y ∷ ys) new (suc j) x e = push-back ys new j x e

-- what is watched after a step
record WatchKept (sync : Bool) (q : Queue) : Type 0 where
  watches : (p k : ℕ) → slice_get q.doing p ≡ Some (doing.Watching k) → HoldsWatched q k
  lone : (p r k : ℕ) → slice_get q.doing p ≡ Some (doing.Watching k)
      → slice_get q.doing r ≡ Some (doing.Watching k) → p ≡ r
  watched : sync ≡ true → (k : ℕ) (cell : CoreCell) → slice_get q.cells k ≡ Some cell
      → cell.state ≡ state.Value → (p : ℕ) × (slice_get q.doing p ≡ Some (doing.Watching k))
  undelegated : sync ≡ true → (k : ℕ) (cell : CoreCell) → slice_get q.cells k ≡ Some cell
      → cell.state ≢ state.Delegated

module _ (sync : Bool) (q : Queue) (p k : ℕ) (is : IsSoundEither sync q) where
  apart-or : (m n : ℕ) → (m ≡ n) ⊎ (m ≢ n)
  apart-or m n = dite (ℕ_discrete m n) (λ e. inl e) (λ a. inr a)

  -- A STEP AT A CELL.

  module _ (row : CellRow) (found : CoreCell) (opens : IsOpenRow q (at_cell row) p k (Some found))
      (keeps : RowKeeps sync (at_cell row)) where
    abbrev d : Queue
    d = row_after (at_cell row) q p k (Some found)

    here : slice_get d.doing p ≡ Some (doing_at row.goes_to k)
    here = get-set_here q.doing p (doing_at row.works_at k) (doing_at row.goes_to k) opens.0.does

    else : (r : ℕ) → r ≢ p → slice_get d.doing r ≡ slice_get q.doing r
    else r a = get-set_else q.doing p r (doing_at row.goes_to k) (λ e. a (sym e))

    cell-here : slice_get d.cells k ≡ Some (cell_after row found)
    cell-here = get-set_here q.cells k found (cell_after row found) opens.0.finds

    cell-else : (j : ℕ) → j ≢ k → slice_get d.cells j ≡ slice_get q.cells j
    cell-else j a = get-set_else q.cells k j (cell_after row found) (λ e. a (sym e))

    made : (cell_after row found).state ≡ state_made row.makes row.finds
    made = ap (state_made row.makes) opens.0.at

    -- what the pass watches then
    own : (j : ℕ) → slice_get d.doing p ≡ Some (doing.Watching j) → Watches row.goes_to × (j ≡ k)
    own j does = watching-is row.goes_to k j (same_Some _ _ (sym here ∙ does))

    -- who watches then and isn't the pass watched before
    before : (r j : ℕ) → r ≢ p → slice_get d.doing r ≡ Some (doing.Watching j)
        → slice_get q.doing r ≡ Some (doing.Watching j)
    before r j a does = sym (else r a) ∙ does

    -- the pass watched the cell, if its step is that of a watcher
    watcher : Watches row.works_at → slice_get q.doing p ≡ Some (doing.Watching k)
    watcher w = opens.0.does ∙ ap Some (watching-at row.works_at k w)

    -- a cell that is watched was found so
    found-watched : (r : ℕ) → slice_get q.doing r ≡ Some (doing.Watching k) → IsWatched row.finds
    found-watched r does =
        let h : HoldsWatched q k = is.watches r k does in
        subst IsWatched
        (ap (λ (c : CoreCell). c.state) (same_Some h.cell found (sym h.there ∙ opens.0.finds)) ∙ opens.0.at)
        h.at

    holds-here : IsWatched (state_made row.makes row.finds) → HoldsWatched d k
    holds-here at = record { cell = cell_after row found; there = cell-here; at = subst IsWatched (sym made) at }

    cell-kept : WatchKept sync d
    cell-kept = record {
      watches = λ r j does. ⊎_elim
          (λ (mine : r ≡ p).
          let o = own j (subst (λ z. slice_get d.doing z ≡ Some (doing.Watching j)) mine does) in
          subst (HoldsWatched d) (sym o.1) (holds-here (keeps.goes_on o.0)))
          (λ (other : r ≢ p).
          let was = before r j other does in
          ⊎_elim
          (λ (same : j ≡ k).
          let was_k = subst (λ z. slice_get q.doing r ≡ Some (doing.Watching z)) same was in
          subst (HoldsWatched d) (sym same) (⊎_elim
          (λ (at : IsWatched (state_made row.makes row.finds)). holds-here at)
          (λ (w : Watches row.works_at). absurd (other (is.lone r p k was_k (watcher w))))
          (keeps.stays (found-watched r was_k))))
          (λ (apart : j ≢ k).
          let h : HoldsWatched q j = is.watches r j was in
          record { cell = h.cell; there = cell-else j apart ∙ h.there; at = h.at })
          (apart-or j k))
          (apart-or r p);
      lone = λ r u j one other. ⊎_elim
          (λ (mine : r ≡ p). ⊎_elim
          (λ (his : u ≡ p). mine ∙ sym his)
          (λ (not_his : u ≢ p). mine ∙ sym (meets u j not_his
          (subst (λ z. slice_get d.doing z ≡ Some (doing.Watching j)) mine one) other))
          (apart-or u p))
          (λ (not_mine : r ≢ p). ⊎_elim
          (λ (his : u ≡ p). meets r j not_mine
          (subst (λ z. slice_get d.doing z ≡ Some (doing.Watching j)) his other) one ∙ sym his)
          (λ (not_his : u ≢ p). is.lone r u j (before r j not_mine one) (before u j not_his other))
          (apart-or u p))
          (apart-or r p);
      watched = λ on j cell finds at. ⊎_elim
          (λ (same : j ≡ k).
          let its : cell ≡ cell_after row found = same_Some cell (cell_after row found)
          (sym finds ∙ (ap (slice_get d.cells) same ∙ cell-here)) in
          let value : HasValue (state_made row.makes row.finds) =
          subst HasValue (sym at ∙ (ap (λ (c : CoreCell). c.state) its ∙ made)) tt in
          ⊎_elim
          (λ (w : Watches row.goes_to).
          (p, here ∙ ap Some (watching-at row.goes_to k w ∙ ap doing.Watching (sym same))))
          (λ (old : HasValue row.finds × (Watches row.works_at → ⊥)).
          stays-watched k same old.1 (is.watched on k found opens.0.finds (opens.0.at ∙ value-is row.finds old.0)) j)
          (keeps.left on value))
          (λ (apart : j ≢ k).
          let w = is.watched on j cell (sym (cell-else j apart) ∙ finds) at in
          ⊎_elim
          (λ (mine : w.0 ≡ p). absurd (apart
          (watching-is row.works_at k j (same_Some _ _ (sym opens.0.does
          ∙ subst (λ z. slice_get q.doing z ≡ Some (doing.Watching j)) mine w.1))).1))
          (λ (other : w.0 ≢ p). (w.0, else w.0 other ∙ w.1))
          (apart-or w.0 p))
          (apart-or j k);
      undelegated = λ on j cell finds at. ⊎_elim
          (λ (same : j ≡ k).
          let its : cell ≡ cell_after row found = same_Some cell (cell_after row found)
          (sym finds ∙ (ap (slice_get d.cells) same ∙ cell-here)) in
          keeps.undelegated on (subst IsDelegated (sym at ∙ (ap (λ (c : CoreCell). c.state) its ∙ made)) tt))
          (λ (apart : j ≢ k). is.undelegated on j cell (sym (cell-else j apart) ∙ finds) at)
          (apart-or j k);
    }
      where
        -- another pass that watches what this one does is this one
        meets : (u j : ℕ) → u ≢ p → slice_get d.doing p ≡ Some (doing.Watching j)
            → slice_get d.doing u ≡ Some (doing.Watching j) → u ≡ p
        meets u j other mine his =
            let o = own j mine in
            let was = subst (λ z. slice_get q.doing u ≡ Some (doing.Watching z)) o.1 (before u j other his) in
            ⊎_elim
            (λ (w : Watches row.works_at). is.lone u p k was (watcher w))
            (λ (none : IsWatched row.finds → ⊥). absurd (none (found-watched u was)))
            (keeps.alone o.0)

        value-is : (s : CoreState) → HasValue s → s ≡ state.Value
        value-is state.Value v = refl
        value-is state.Empty v = absurd v
        value-is state.Waiter v = absurd v
        value-is state.Taken v = absurd v
        value-is state.Broken v = absurd v
        value-is state.Resumed v = absurd v
        value-is state.Cancelling v = absurd v
        value-is state.Delegated v = absurd v
        value-is state.Cancelled v = absurd v
        value-is state.Refused v = absurd v

        -- the watcher of a value that another pass loaded or left alone
        stays-watched : (i : ℕ) {j : ℕ} → j ≡ i → (Watches row.works_at → ⊥)
            → (r : ℕ) × (slice_get q.doing r ≡ Some (doing.Watching i)) → (m : ℕ)
            → (r : ℕ) × (slice_get d.doing r ≡ Some (doing.Watching j))
        stays-watched i same none (r, does) m = ⊎_elim
            (λ (mine : r ≡ p). absurd (none (watching-is row.works_at k i
            (same_Some _ _ (sym opens.0.does
            ∙ subst (λ z. slice_get q.doing z ≡ Some (doing.Watching i)) mine does))).0))
            (λ (other : r ≢ p). (r, else r other ∙ (does ∙ ap (λ z. Some (doing.Watching z)) (sym same))))
            (apart-or r p)

  -- A STEP AT A COUNTER: a cell is made, or gets its owner.

  -- the cell is new and empty, or was in this state before
  abbrev WasThere : ℕ → CoreCell → Type 0
  WasThere j cell =
      (cell.state ≡ state.Empty) ⊎ ((c : CoreCell) × (slice_get q.cells j ≡ Some c) × (c.state ≡ cell.state))

  module _ (cells : List CoreCell) (e : Doing) (from : Doing)
      (does : slice_get q.doing p ≡ Some from)
      (before : (j : ℕ) → from ≡ doing.Watching j → ⊥) (after : (j : ℕ) → e ≡ doing.Watching j → ⊥)
      (on : (j : ℕ) (cell : CoreCell) → slice_get q.cells j ≡ Some cell
      → (c : CoreCell) × (slice_get cells j ≡ Some c) × (c.state ≡ cell.state))
      (back : (j : ℕ) (cell : CoreCell) → slice_get cells j ≡ Some cell → WasThere j cell) where
    other-doing : (r : ℕ) → r ≢ p → slice_get (set q.doing p e) r ≡ slice_get q.doing r
    other-doing r a = get-set_else q.doing p r e (λ z. a (sym z))

    -- who watches then watched before
    watched-before : (r j : ℕ) → slice_get (set q.doing p e) r ≡ Some (doing.Watching j)
        → slice_get q.doing r ≡ Some (doing.Watching j)
    watched-before r j w = ⊎_elim
        (λ (mine : r ≡ p). absurd (after j (same_Some e (doing.Watching j)
        (sym (get-set_here q.doing p from e does)
        ∙ subst (λ z. slice_get (set q.doing p e) z ≡ Some (doing.Watching j)) mine w))))
        (λ (other : r ≢ p). sym (other-doing r other) ∙ w)
        (apart-or r p)

    counter-kept : (suspends resumes : ℕ) → WatchKept sync
        (record { suspends = suspends; resumes = resumes; cells = cells; doing = set q.doing p e })
    counter-kept suspends resumes = record {
      watches = λ r j w.
          let h : HoldsWatched q j = is.watches r j (watched-before r j w) in
          let c = on j h.cell h.there in
          record { cell = c.0; there = c.1; at = subst IsWatched (sym c.2) h.at };
      lone = λ r u j one other. is.lone r u j (watched-before r j one) (watched-before u j other);
      watched = λ sync_is j cell finds at. ⊎_elim
          (λ (empty : cell.state ≡ state.Empty). absurd (cc (empty, at)))
          (λ (c : (c : CoreCell) × (slice_get q.cells j ≡ Some c) × (c.state ≡ cell.state)).
          let w = is.watched sync_is j c.0 c.1 (c.2 ∙ at) in
          ⊎_elim
          (λ (mine : w.0 ≡ p). absurd (before j (same_Some from (doing.Watching j)
          (sym does ∙ subst (λ z. slice_get q.doing z ≡ Some (doing.Watching j)) mine w.1))))
          (λ (other : w.0 ≢ p). (w.0, other-doing w.0 other ∙ w.1))
          (apart-or w.0 p))
          (back j cell finds);
      undelegated = λ sync_is j cell finds at. ⊎_elim
          (λ (empty : cell.state ≡ state.Empty). absurd (cc (empty, at)))
          (λ (c : (c : CoreCell) × (slice_get q.cells j ≡ Some c) × (c.state ≡ cell.state)).
          is.undelegated sync_is j c.0 c.1 (c.2 ∙ at))
          (back j cell finds);
    }

  same-cells-on : (j : ℕ) (cell : CoreCell) → slice_get q.cells j ≡ Some cell
      → (c : CoreCell) × (slice_get q.cells j ≡ Some c) × (c.state ≡ cell.state)
  same-cells-on j cell finds = (cell, finds, refl)

  same-cells-back : (j : ℕ) (cell : CoreCell) → slice_get q.cells j ≡ Some cell → WasThere j cell
  same-cells-back j cell finds = inr (cell, finds, refl)

  pushed-on : (new : CoreCell) (j : ℕ) (cell : CoreCell) → slice_get q.cells j ≡ Some cell
      → (c : CoreCell) × (slice_get (q.cells ++ new ∷ []) j ≡ Some c) × (c.state ≡ cell.state)
  pushed-on new j cell finds = (cell, get-append_left q.cells (new ∷ []) j cell finds, refl)

  pushed-back : (new : CoreCell) → new.state ≡ state.Empty → (j : ℕ) (cell : CoreCell)
      → slice_get (q.cells ++ new ∷ []) j ≡ Some cell → WasThere j cell
  pushed-back new empty j cell finds = ⊎_elim
      (λ (old : slice_get q.cells j ≡ Some cell). inr (cell, old, refl))
      (λ (is_new : cell ≡ new). inl (ap (λ (c : CoreCell). c.state) is_new ∙ empty))
      (push-back q.cells new j cell finds)

  owned-on : (found new : CoreCell) → slice_get q.cells k ≡ Some found → new.state ≡ found.state → (j : ℕ)
      (cell : CoreCell) → slice_get q.cells j ≡ Some cell
      → (c : CoreCell) × (slice_get (set q.cells k new) j ≡ Some c) × (c.state ≡ cell.state)
  owned-on found new there same j cell finds = ⊎_elim
      (λ (e : j ≡ k). (
        new,
        ap (slice_get (set q.cells k new)) e ∙ get-set_here q.cells k found new there,
        same ∙ ap (λ (c : CoreCell). c.state)
            (same_Some found cell (sym there ∙ (ap (slice_get q.cells) (sym e) ∙ finds))),
      ))
      (λ (a : j ≢ k). (cell, get-set_else q.cells k j new (λ z. a (sym z)) ∙ finds, refl))
      (apart-or j k)

  owned-back : (found new : CoreCell) → slice_get q.cells k ≡ Some found → new.state ≡ found.state → (j : ℕ)
      (cell : CoreCell) → slice_get (set q.cells k new) j ≡ Some cell → WasThere j cell
  owned-back found new there same j cell finds = ⊎_elim
      (λ (e : j ≡ k). inr (
        found,
        ap (slice_get q.cells) e ∙ there,
        sym same ∙ ap (λ (c : CoreCell). c.state) (same_Some new cell
            (sym (get-set_here q.cells k found new there)
            ∙ (ap (slice_get (set q.cells k new)) (sym e) ∙ finds))),
      ))
      (λ (a : j ≢ k). inr (cell, sym (get-set_else q.cells k j new (λ z. a (sym z))) ∙ finds, refl))
      (apart-or j k)

  at-watches : (at : Stage) (j : ℕ) → (Watches at → ⊥) → doing_at at k ≡ doing.Watching j → ⊥
  at-watches at j none e = none (watching-is at k j e).0

  counted-kept : (row : CounterRow) (found : Option CoreCell) → (Watches row.works_at → ⊥)
      → IsOpenRow q (at_counter row) p k found → WatchKept sync (row_after (at_counter row) q p k found)
  counted-kept row found none (does, here, finds) = by row.counter found finds
    where
      by : (c : Counter) (o : Option CoreCell) → slice_get q.cells k ≡ o → WatchKept sync (after_count c q p k o)
      by to_suspend None finds = counter-kept _ (doing.Drawn k) (doing_at row.works_at k) does
          (λ j. at-watches row.works_at j none) (λ j e. absurd (cc (e)))
          (pushed-on _) (pushed-back _ refl) (q.suspends + 1) q.resumes
      by to_suspend (Some cell) finds = counter-kept _ (doing.Drawn k) (doing_at row.works_at k) does
          (λ j. at-watches row.works_at j none) (λ j e. absurd (cc (e)))
          (owned-on cell _ finds refl) (owned-back cell _ finds refl) (q.suspends + 1) q.resumes
      by to_resume None finds = counter-kept _ (doing.Ticket k) (doing_at row.works_at k) does
          (λ j. at-watches row.works_at j none) (λ j e. absurd (cc (e)))
          (pushed-on _) (pushed-back _ refl) q.suspends (q.resumes + 1)
      by to_resume (Some cell) finds = counter-kept _ (doing.Ticket k) (doing_at row.works_at k) does
          (λ j. at-watches row.works_at j none) (λ j e. absurd (cc (e)))
          same-cells-on same-cells-back q.suspends (q.resumes + 1)

  row-kept : (row : StepRow) (found : Option CoreCell) → RowKeeps sync row → IsOpenRow q row p k found
      → WatchKept sync (row_after row q p k found)
  row-kept (at_counter row) found keeps opens = counted-kept row found keeps opens
  row-kept (at_cell row) (Some found) keeps opens = cell-kept row found opens keeps
  row-kept (at_cell row) None keeps opens = absurd opens

-- what a pass does changes, and it watches neither before nor then
pub either-turned : (sync : Bool) (q : Queue) (p : ℕ) (from to : Doing) → IsSoundEither sync q
    → slice_get q.doing p ≡ Some from → ((j : ℕ) → from ≡ doing.Watching j → ⊥)
    → ((j : ℕ) → to ≡ doing.Watching j → ⊥) → IsSound (as_unbroken (now_doing q p to))
    → (sync ≡ false → IsUnbroken (now_doing q p to)) → IsSoundEither sync (now_doing q p to)
either-turned sync q p from to is does before after reads plain =
    let kept = counter-kept sync q p 0 is q.cells to from does before after (same-cells-on sync q p 0 is)
    (same-cells-back sync q p 0 is) q.suspends q.resumes in record {
      reads = reads;
      plain = plain;
      watches = kept.watches;
      lone = kept.lone;
      watched = kept.watched;
      undelegated = kept.undelegated;
    }

-- EACH STEP.

-- a step that a queue which isn't synchronous makes isn't one of a synchronous one
plain-made : (s : QueueStep) → MayBeMade false (card_of s).makers → IsPlainStep s
plain-made s = by (card_of s).makers
  where
    by : (m : Makers) → MayBeMade false m → MayBePlain m
    by step.each_client may = tt
    by step.without_door may = tt
    by step.with_debts may = tt
    by step.with_elements may = tt
    by step.in_smart_mode may = tt
    by step.who_ask may = tt
    by step.who_pass_on may = tt
    by step.who_leave_at_once may = tt
    by step.who_leave may = tt
    by step.who_delegate may = tt
    by step.who_watch may = absurd (cc (may))

pub step-either : (sync : Bool) (q : Queue) (s : QueueStep) (p k : ℕ) (found : Option CoreCell)
    → MayBeMade sync (card_of s).makers → IsSoundEither sync q → IsOpenStep q s p k found
    → IsSoundEither sync (queue_after s q p k found)
step-either sync q s p k found may is opens =
    let kept = row-kept sync q p k is (row_of s) found (row-keeps sync s may) opens in record {
      reads = step-sound q s p k found is.reads opens;
      plain = λ e.
          let was : IsSoundEither false q = subst (λ b. IsSoundEither b q) e is in
          sound-unbroken (queue_after s q p k found)
          (sound-after q s p k found (plain-made s (subst (λ b. MayBeMade b (card_of s).makers) e may))
          (sound-either q was) opens);
      watches = kept.watches;
      lone = kept.lone;
      watched = kept.watched;
      undelegated = kept.undelegated;
    }
