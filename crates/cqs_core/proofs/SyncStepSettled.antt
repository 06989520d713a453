-- Which cells a step of a synchronous queue settles: it changes one cell, and who watches it.
use Rattle.std.proofs.Common.{◌≡◌, ◌≢◌, inl, inr, ℕ, Bool, true, false, Some, set, slice_get, refl, sym, ap, ◌∙◌, subst}
use Rattle.std.specs.Option.{option_map}
use Rattle.std.proofs.lemmas.Option.{same_Some, slice_get-map}
use mathlib.Core.Logic.{dite}
use native.Mathlib.Decide.{ℕ_discrete}
use Rattle.cqs_core.specs.declared.cells.CoreCell.{CoreCell}
use Rattle.cqs_core.specs.declared.cells.CoreState.{CoreState}
use Rattle.cqs_core.specs.declared.cells.CoreState.TheVariants as state
use Rattle.cqs_core.specs.declared.doings.Doing.TheVariants as doing
use Rattle.cqs_core.specs.QueueAsUnbroken.{as_unbroken, unbroken_cell}
use Rattle.cqs_core.specs.QueueEither.{IsSoundEither}
use Rattle.cqs_core.specs.QueueEitherSettled.{IsSettledEitherAt, IsSettledEither, StepSettlesEither}
use Rattle.cqs_core.specs.QueueState.{Queue, has_ticket, is_ticket}
use Rattle.cqs_core.specs.QueueStages as stage
use Rattle.cqs_core.specs.QueueStages.{Stage, doing_at}
use Rattle.cqs_core.specs.QueueSteps as step
use Rattle.cqs_core.specs.QueueSteps.{QueueStep, SyncStep, StepRow, CellRow, at_counter, at_cell, cell_after, row_of, IsOpenRow, IsOpenStep, row_after, queue_after}
use Rattle.cqs_core.specs.QueueStepSettled.{IsSettler}
use Rattle.cqs_core.proofs.EitherSettled.{settled-read, read-settled, settled-unwatched, unwatched-then, unwatched-before}
use Rattle.cqs_core.proofs.Places.{get-set_here, get-set_else}
use Rattle.cqs_core.proofs.QueueAsUnbroken.{has_ticket-unwatching}
use Rattle.cqs_core.proofs.QueueSettling.{same-cell}
use Rattle.cqs_core.proofs.ReadSteps.{value-uncollected, broken-uncollected}
use Rattle.cqs_core.proofs.Tickets.{is_ticket-other, has_ticket-frame}

settled-here : (q : Queue) (k : ℕ) (cell : CoreCell) (x : CoreState) → slice_get q.cells k ≡ Some cell
    → cell.state ≡ x → IsSettledEitherAt q k cell x → IsSettledEither q k
settled-here q k cell x there is at =
    record { cell = cell; there = there; at = subst (IsSettledEitherAt q k cell) (sym is) at }

-- the cell's state, where it can't be settled
unsettled-here : (q : Queue) (k : ℕ) (cell : CoreCell) (x : CoreState) → slice_get q.cells k ≡ Some cell
    → cell.state ≡ x → (IsSettledEitherAt q k cell x → ⊥) → IsSettledEither q k → ⊥
unsettled-here q k cell x there is nope s =
    nope (subst (IsSettledEitherAt q k cell) is
    (subst (λ (c : CoreCell). IsSettledEitherAt q k c c.state) (same_Some s.cell cell (sym s.there ∙ there)) s.at))

ticket-else : (at : Stage) (j k : ℕ) → j ≢ k → is_ticket j (doing_at at k) ≡ false
ticket-else stage.ticket j k a = is_ticket-other j k (λ e. a (sym e))
ticket-else stage.idle j k a = refl
ticket-else stage.door j k a = refl
ticket-else stage.owes j k a = refl
ticket-else stage.drawn j k a = refl
ticket-else stage.watching j k a = refl
ticket-else stage.leaving j k a = refl
ticket-else (stage.decided on) j k a = refl

watching-else : (at : Stage) (j k : ℕ) → j ≢ k → doing_at at k ≢ doing.Watching j
watching-else stage.watching j k a e = a (sym (cc (e)))
watching-else stage.idle j k a e = absurd (cc (e))
watching-else stage.door j k a e = absurd (cc (e))
watching-else stage.owes j k a e = absurd (cc (e))
watching-else stage.drawn j k a e = absurd (cc (e))
watching-else stage.ticket j k a e = absurd (cc (e))
watching-else stage.leaving j k a e = absurd (cc (e))
watching-else (stage.decided on) j k a e = absurd (cc (e))

module _ (sync : Bool) (q : Queue) (p k : ℕ) (found : CoreCell) (is : IsSoundEither sync q) where
  -- a step at the cell of the number changes no other
  module _ (row : CellRow) (opens : IsOpenRow q (at_cell row) p k (Some found))
      (is-after : IsSoundEither sync (row_after (at_cell row) q p k (Some found))) where
    abbrev now : Queue
    now = row_after (at_cell row) q p k (Some found)

    cell-else : (j : ℕ) → j ≢ k → slice_get now.cells j ≡ slice_get q.cells j
    cell-else j a = get-set_else q.cells k j (cell_after row found) (λ e. a (sym e))

    cell-read : (j : ℕ) → j ≢ k → slice_get (as_unbroken now).cells j ≡ slice_get (as_unbroken q).cells j
    cell-read j a = slice_get-map unbroken_cell now.cells j
        ∙ (ap (option_map unbroken_cell) (cell-else j a) ∙ sym (slice_get-map unbroken_cell q.cells j))

    ticket-read : (j : ℕ) → j ≢ k → has_ticket j (as_unbroken now).doing ≡ has_ticket j (as_unbroken q).doing
    ticket-read j a = has_ticket-unwatching j now.doing
        ∙ (has_ticket-frame q.doing p j (doing_at row.works_at k) (doing_at row.goes_to k) opens.0.does
        (ticket-else row.goes_to j k a ∙ sym (ticket-else row.works_at j k a))
        ∙ sym (has_ticket-unwatching j q.doing))

    -- another cell is settled where it was
    else-then : (j : ℕ) → j ≢ k → IsSettledEither q j → IsSettledEither now j
    else-then j a at =
        read-settled now j
        (same-cell (as_unbroken q) (as_unbroken now) j (cell-read j a) (λ m. (m.0, ticket-read j a ∙ m.1))
        (settled-read q j at))
        (unwatched-then q now p _ (doing_at row.goes_to k) opens.0.does refl j (watching-else row.goes_to j k a)
        (settled-unwatched sync q j is at))

    else-back : (j : ℕ) → j ≢ k → IsSettledEither now j → IsSettledEither q j
    else-back j a at =
        read-settled q j
        (same-cell (as_unbroken now) (as_unbroken q) j (sym (cell-read j a)) (λ m. (m.0, sym (ticket-read j a) ∙ m.1))
        (settled-read now j at))
        (unwatched-before q now p _ (doing_at row.goes_to k) opens.0.does refl j (watching-else row.works_at j k a)
        (settled-unwatched sync now j is-after at))

    -- a cell that wasn't settled is then exactly where the step is one that settles it
    one-settles : (s : QueueStep) → (IsSettledEither q k → ⊥) → (IsSettledEither now k → IsSettler s)
        → (IsSettler s → IsSettledEither now k) → StepSettlesEither q now s k
    one-settles s before after settles = record {
      stays = λ j at. else-then j (apart j at) at;
      same = λ j at. cell-else j (apart j at);
      by = λ j at. dite (ℕ_discrete j k)
          (λ (e : j ≡ k). inr (e, after (subst (IsSettledEither now) e at)))
          (λ (a : j ≢ k). inl (else-back j a at));
      once = λ it. (settles it, before);
    }
      where
        apart : (j : ℕ) → IsSettledEither q j → j ≢ k
        apart j at e = before (subst (IsSettledEither q) e at)

  abbrev SettlesOne : StepRow → QueueStep → Type 0
  SettlesOne (at_counter row) s = Unit {0}
  SettlesOne (at_cell row) s = IsOpenRow q (at_cell row) p k (Some found)
      → IsSoundEither sync (row_after (at_cell row) q p k (Some found)) → (IsSettledEither q k → ⊥)
      → (IsSettledEither (row_after (at_cell row) q p k (Some found)) k → IsSettler s)
      → (IsSettler s → IsSettledEither (row_after (at_cell row) q p k (Some found)) k)
      → StepSettlesEither q (row_after (at_cell row) q p k (Some found)) s k

  settles-one : (s : QueueStep) → SettlesOne (row_of s) s
  settles-one s = by (row_of s)
    where
      by : (row : StepRow) → SettlesOne row s
      by (at_counter row) = tt
      by (at_cell row) = λ opens is-after. one-settles row opens is-after s

  -- the pass was the only one to watch the number, and is idle now
  watcher-left : slice_get q.doing p ≡ Some (doing.Watching k) → (r : ℕ)
      → slice_get (set q.doing p doing.Idle) r ≢ Some (doing.Watching k)
  watcher-left mine r does = dite (ℕ_discrete r p)
      (λ (e : r ≡ p).
      let both : doing.Idle ≡ doing.Watching k = same_Some doing.Idle (doing.Watching k)
      (sym (get-set_here q.doing p (doing.Watching k) doing.Idle mine)
      ∙ (ap (slice_get (set q.doing p doing.Idle)) (sym e) ∙ does)) in absurd (cc))
      (λ (a : r ≢ p). a (is.lone r p k (sym (get-set_else q.doing p r doing.Idle (λ e. a (sym e))) ∙ does) mine))

  -- another pass watches the number still
  watcher-stays : slice_get q.doing p ≡ Some (doing.Drawn k)
      → (r : ℕ) × (slice_get q.doing r ≡ Some (doing.Watching k))
      → ((r : ℕ) → slice_get (set q.doing p doing.Idle) r ≢ Some (doing.Watching k)) → ⊥
  watcher-stays mine (r, does) none = none r (get-set_else q.doing p r doing.Idle
      (λ e. let both : doing.Drawn k ≡ doing.Watching k = same_Some (doing.Drawn k) (doing.Watching k)
      (sym mine ∙ (ap (slice_get q.doing) e ∙ does)) in absurd (cc)) ∙ does)

  -- what the step makes of the queue
  abbrev Now : SyncStep → Queue
  Now e = queue_after (step.in_sync e) q p k (Some found)

  pub sync-settles : (e : SyncStep) → sync ≡ true → IsOpenStep q (step.in_sync e) p k (Some found)
      → IsSoundEither sync (Now e) → StepSettlesEither q (Now e) (step.in_sync e) k
  sync-settles step.leaves_watched on (w, works) is-after =
      settles-one (step.in_sync step.leaves_watched) (w, works) is-after
      (unsettled-here q k found state.Empty w.finds w.at (λ z. z))
      (unsettled-here (Now step.leaves_watched) k _ state.Value (get-set_here q.cells k found _ w.finds) refl (λ z. z))
      (λ z. absurd z)
  sync-settles step.sees_value on (w, works) is-after =
      settles-one (step.in_sync step.sees_value) (w, works) is-after
      (unsettled-here q k found state.Value w.finds w.at (λ z. z))
      (unsettled-here (Now step.sees_value) k _ state.Value (get-set_here q.cells k found _ w.finds) w.at (λ z. z))
      (λ z. absurd z)
  sync-settles step.sees_taken on (w, works) is-after =
      settles-one (step.in_sync step.sees_taken) (w, works) is-after
      (unsettled-here q k found state.Taken w.finds w.at (λ none. none p w.does))
      (λ z. tt)
      (λ z. settled-here (Now step.sees_taken) k _ state.Taken (get-set_here q.cells k found _ w.finds) w.at
      (watcher-left w.does))
  sync-settles step.breaks on (w, works) is-after =
      let whole = value-uncollected q k found is.reads w.finds w.at in
      settles-one (step.in_sync step.breaks) (w, works) is-after
      (unsettled-here q k found state.Value w.finds w.at (λ z. z))
      (unsettled-here (Now step.breaks) k _ state.Broken (get-set_here q.cells k found _ w.finds) refl
      (λ e. let both : true ≡ false = sym e ∙ whole in absurd (cc)))
      (λ z. absurd z)
  sync-settles step.takes_watched on (w, works) is-after =
      settles-one (step.in_sync step.takes_watched) (w, works) is-after
      (unsettled-here q k found state.Value w.finds w.at (λ z. z))
      (unsettled-here (Now step.takes_watched) k _ state.Taken (get-set_here q.cells k found _ w.finds) refl
      (watcher-stays w.does (is.watched on k found w.finds w.at)))
      (λ z. absurd z)
  sync-settles step.finds_broken on (w, works) is-after =
      let whole = broken-uncollected q p k found is.reads w in
      settles-one (step.in_sync step.finds_broken) (w, works) is-after
      (unsettled-here q k found state.Broken w.finds w.at
      (λ e. let both : true ≡ false = sym e ∙ whole in absurd (cc)))
      (λ z. tt)
      (λ z. settled-here (Now step.finds_broken) k _ state.Broken (get-set_here q.cells k found _ w.finds) w.at refl)
