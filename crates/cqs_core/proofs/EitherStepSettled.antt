-- Which cells each step settles, where the queue is synchronous or isn't. A step that any queue may make settles those
-- that it settles in the reading of the queue.
use Rattle.std.proofs.Common.{◌≡◌, ◌≢◌, inl, inr, ⊎_elim, ℕ, ◌<◌, Bool, true, false, Option, Some, None, set, slice_get, refl, sym, ap, ◌∙◌, subst, arith}
use Rattle.std.specs.Option.{option_map}
use Rattle.std.proofs.lemmas.Option.{same_Some}
use mathlib.Core.Logic.{dite}
use native.Mathlib.Decide.{ℕ_discrete}
use Rattle.cqs_core.specs.declared.cells.CoreCell.{CoreCell}
use Rattle.cqs_core.specs.declared.cells.CoreState.{CoreState}
use Rattle.cqs_core.specs.declared.doings.Doing.{Doing}
use Rattle.cqs_core.specs.declared.doings.Doing.TheVariants as doing
use Rattle.cqs_core.specs.QueueAsUnbroken.{as_unbroken, unbroken_cell, unwatching, IsIntact}
use Rattle.cqs_core.specs.QueueEither.{HoldsWatched, IsSoundEither, MayBeMade}
use Rattle.cqs_core.specs.QueueEitherSettled.{IsUnwatched, PassesOnEither, StepSettlesEither}
use Rattle.cqs_core.specs.QueueSettled.{IsSettled}
use Rattle.cqs_core.specs.QueueState.{Queue}
use Rattle.cqs_core.specs.QueueStages.{Stage, doing_at, IsWatched}
use Rattle.cqs_core.specs.QueueSteps as step
use Rattle.cqs_core.specs.QueueSteps.{QueueStep, Makers, SyncStep, StepRow, CellRow, at_counter, at_cell, Counter, to_suspend, to_resume, counter_of, after_count, state_made, cell_after, card_of, row_of, settles_in, IsOpenRow, IsOpenStep, row_after, queue_after}
use Rattle.cqs_core.specs.QueueStepSettled.{PassOver, PassesOn, Settling, IsSettler, StepSettles}
use Rattle.cqs_core.proofs.EitherQueues.{step-either}
use Rattle.cqs_core.proofs.EitherSettled.{settled-read, read-settled, settled-unwatched, unwatched-then, unwatched-before, either-drawn}
use Rattle.cqs_core.proofs.OpenRows.{WhereOpen, where-open}
use Rattle.cqs_core.proofs.Places.{get-set_here, get-set_else, get-below, get-append_below}
use Rattle.cqs_core.proofs.QueueAsUnbroken.{get-map}
use Rattle.cqs_core.proofs.QueueStepSettled.{step-settles}
use Rattle.cqs_core.proofs.ReadSteps.{WatchesNot, MakesIntact, IsPlainRow, plain-row, unwatched, intact-read, open-read, after-read, either-step}
use Rattle.cqs_core.proofs.StepFacts.{IsPlainStep, MayBePlain}
use Rattle.cqs_core.proofs.SyncStepSettled.{sync-settles}

-- what a pass does changes, and it watches neither before nor then
record TurnsUnwatched (q d : Queue) (p : ℕ) : Type 0 where
  from : Doing
  to : Doing
  does : slice_get q.doing p ≡ Some from
  now : d.doing ≡ set q.doing p to
  before : (j : ℕ) → from ≢ doing.Watching j
  after : (j : ℕ) → to ≢ doing.Watching j

not-watching : (at : Stage) (k j : ℕ) → WatchesNot at → doing_at at k ≢ doing.Watching j
not-watching at k j none e =
    let both : doing.Idle ≡ doing.Watching j = ap unwatching (sym e) ∙ (unwatched at k none ∙ e) in absurd (cc)

plain-turn : (q : Queue) (row : StepRow) (p k : ℕ) (found : Option CoreCell) → IsPlainRow row
    → IsOpenRow q row p k found → TurnsUnwatched q (row_after row q p k found) p
plain-turn q (at_counter row) p k found plain opens = by row.counter
  where
    by : (c : Counter) → TurnsUnwatched q (after_count c q p k found) p
    by to_suspend = record {
      from = doing_at row.works_at k;
      to = doing.Drawn k;
      does = opens.0;
      now = refl;
      before = λ j. not-watching row.works_at k j plain;
      after = λ j e. absurd (cc (e));
    }
    by to_resume = record {
      from = doing_at row.works_at k;
      to = doing.Ticket k;
      does = opens.0;
      now = refl;
      before = λ j. not-watching row.works_at k j plain;
      after = λ j e. absurd (cc (e));
    }
plain-turn q (at_cell row) p k (Some found) plain opens = record {
  from = doing_at row.works_at k;
  to = doing_at row.goes_to k;
  does = opens.0.does;
  now = refl;
  before = λ j. not-watching row.works_at k j plain.2;
  after = λ j. not-watching row.goes_to k j plain.3;
}
plain-turn q (at_cell row) p k None plain opens = absurd opens

-- a cell that isn't broken is told by what it reads as
intact-same : (a b : CoreCell) → IsIntact a.state → IsIntact b.state → unbroken_cell a ≡ unbroken_cell b → a ≡ b
intact-same a b one other e = λ i. record {
  state = states i;
  owner = ap (λ (c : CoreCell). c.owner) e i;
  collected = ap (λ (c : CoreCell). c.collected) e i;
}
  where
    states : a.state ≡ b.state
    states = sym (intact-read a.state a.collected one)
        ∙ (ap (λ (c : CoreCell). c.state) e ∙ intact-read b.state b.collected other)

made-intact : (m : Option CoreState) (found : CoreState) → IsIntact found → MakesIntact m
    → IsIntact (state_made m found)
made-intact None found was is = was
made-intact (Some s) found was is = is

-- the cell of a step that reads as before is as it was
written-same : (q : Queue) (row : CellRow) (p k : ℕ) (found : CoreCell) → IsPlainRow (at_cell row)
    → IsOpenRow q (at_cell row) p k (Some found)
    → slice_get (as_unbroken (row_after (at_cell row) q p k (Some found))).cells k ≡ slice_get (as_unbroken q).cells k
    → slice_get (row_after (at_cell row) q p k (Some found)).cells k ≡ slice_get q.cells k
written-same q row p k found plain opens reads =
    let new : CoreCell = cell_after row found in
    let here : slice_get (set q.cells k new) k ≡ Some new = get-set_here q.cells k found new opens.0.finds in
    let was : IsIntact found.state = subst IsIntact (sym opens.0.at) plain.0 in
    let alike : unbroken_cell new ≡ unbroken_cell found =
    same_Some (unbroken_cell new) (unbroken_cell found)
    (sym (get-map unbroken_cell (set q.cells k new) k new here)
    ∙ (reads ∙ get-map unbroken_cell q.cells k found opens.0.finds)) in
    here ∙ (ap Some (intact-same new found (made-intact row.makes found.state was plain.1) was alike)
    ∙ sym opens.0.finds)

-- a cell that is drawn and reads as before is as it was
plain-same : (q : Queue) (row : StepRow) (p k : ℕ) (found : Option CoreCell) → IsPlainRow row
    → IsOpenRow q row p k found → (j : ℕ) (cell : CoreCell) → j < q.suspends → slice_get q.cells j ≡ Some cell
    → slice_get (as_unbroken (row_after row q p k found)).cells j ≡ slice_get (as_unbroken q).cells j
    → slice_get (row_after row q p k found).cells j ≡ slice_get q.cells j
plain-same q (at_counter row) p k found plain opens j cell low there reads = by row.counter found opens.1
  where
    by : (c : Counter) (found : Option CoreCell) → k ≡ counter_of c q
        → slice_get (after_count c q p k found).cells j ≡ slice_get q.cells j
    by to_suspend None here = get-append_below q.cells _ j (get-below q.cells j cell there)
    by to_suspend (Some cell) here = get-set_else q.cells k j _ (λ e. omega arith)
    by to_resume None here = get-append_below q.cells _ j (get-below q.cells j cell there)
    by to_resume (Some cell) here = refl
plain-same q (at_cell row) p k (Some found) plain opens j cell low there reads = dite (ℕ_discrete j k)
    (λ (e : j ≡ k). subst (λ z. slice_get (row_after (at_cell row) q p k (Some found)).cells z ≡ slice_get q.cells z)
    (sym e) (written-same q row p k found plain opens
    (subst (λ z. slice_get (as_unbroken (row_after (at_cell row) q p k (Some found))).cells z
    ≡ slice_get (as_unbroken q).cells z) e reads)))
    (λ (a : j ≢ k). get-set_else q.cells k j (cell_after row found) (λ e. a (sym e)))
plain-same q (at_cell row) p k None plain opens j cell low there reads = absurd opens

-- Such a step leaves the cell that it settles in a state in which nobody watches it; or the queue isn't synchronous,
-- and nobody watches any.
abbrev SettlesUnwatched : Bool → StepRow → Type 0
SettlesUnwatched sync (at_counter row) = Unit {0}
SettlesUnwatched sync (at_cell row) =
    Settling row.settles → IsWatched (state_made row.makes row.finds) → sync ≡ false

settles-unwatched : (sync : Bool) (s : QueueStep) → IsPlainStep s → MayBeMade sync (card_of s).makers
    → SettlesUnwatched sync (row_of s)
settles-unwatched sync step.draws plain may = tt
settles-unwatched sync step.enters plain may = tt
settles-unwatched sync step.reaches plain may = tt
settles-unwatched sync step.begins plain may = tt
settles-unwatched sync step.puts plain may = tt
settles-unwatched sync step.installs plain may = λ e w. absurd e
settles-unwatched sync step.takes plain may = λ e w. may
settles-unwatched sync step.serves plain may = λ e w. absurd e
settles-unwatched sync step.leaves plain may = λ e w. absurd e
settles-unwatched sync step.delegates plain may = λ e w. absurd e
settles-unwatched sync step.passes_over plain may = λ e w. absurd e
settles-unwatched sync step.ends_refused plain may = λ e w. absurd w
settles-unwatched sync step.ends_missed plain may = λ e w. absurd w
settles-unwatched sync step.starts_leaving plain may = λ e w. absurd e
settles-unwatched sync step.leaves_line plain may = λ e w. absurd e
settles-unwatched sync step.leaves_at_once plain may = λ e w. absurd e
settles-unwatched sync step.settles plain may = λ e w. absurd w
settles-unwatched sync step.settles_owing plain may = λ e w. absurd w
settles-unwatched sync step.refuses plain may = λ e w. absurd e
settles-unwatched sync step.refuses_value plain may = λ e w. absurd w
settles-unwatched sync (step.looks step.pends) plain may = λ e w. absurd e
settles-unwatched sync (step.looks step.grants) plain may = λ e w. absurd w
settles-unwatched sync (step.looks step.late) plain may = λ e w. absurd w
settles-unwatched sync (step.in_sync step.leaves_watched) plain may = absurd plain
settles-unwatched sync (step.in_sync step.sees_value) plain may = absurd plain
settles-unwatched sync (step.in_sync step.sees_taken) plain may = absurd plain
settles-unwatched sync (step.in_sync step.breaks) plain may = absurd plain
settles-unwatched sync (step.in_sync step.takes_watched) plain may = absurd plain
settles-unwatched sync (step.in_sync step.finds_broken) plain may = absurd plain

-- so nobody watches the cell after the step
unwatched-after : (sync : Bool) (q : Queue) (row : StepRow) (p k : ℕ) (found : Option CoreCell)
    → SettlesUnwatched sync row → IsOpenRow q row p k found → IsSoundEither sync (row_after row q p k found)
    → Settling (settles_in row) → IsUnwatched (row_after row q p k found) k
unwatched-after sync q (at_counter row) p k found says opens is settles r does = absurd settles
unwatched-after sync q (at_cell row) p k (Some found) says opens is settles r does =
    let h : HoldsWatched (row_after (at_cell row) q p k (Some found)) k = is.watches r k does in
    let new : CoreCell = cell_after row found in
    let same : h.cell ≡ new = same_Some h.cell new (sym h.there ∙ get-set_here q.cells k found new opens.0.finds) in
    let made : IsWatched (state_made row.makes row.finds) =
    subst IsWatched (ap (λ (c : CoreCell). c.state) same ∙ ap (state_made row.makes) opens.0.at) h.at in
    (is.plain (says settles made)).passes.at r (doing.Watching k) does
unwatched-after sync q (at_cell row) p k None says opens is settles r does = absurd opens

-- the clients of such a step are among those of the law of queues that aren't synchronous
passing : (s : QueueStep) → IsPlainStep s → PassesOnEither s → PassesOn s
passing s = by (card_of s).makers
  where
    by : (m : Makers) → MayBePlain m → m ≢ step.who_leave_at_once → PassOver m
    by step.each_client plain on = tt
    by step.without_door plain on = tt
    by step.with_debts plain on = tt
    by step.with_elements plain on = tt
    by step.in_smart_mode plain on = tt
    by step.who_ask plain on = tt
    by step.who_pass_on plain on = tt
    by step.who_leave_at_once plain on = on refl
    by step.who_leave plain on = tt
    by step.who_delegate plain on = tt
    by step.who_watch plain on = plain

module _ (sync : Bool) (q : Queue) (s : QueueStep) (p k : ℕ) (found : Option CoreCell)
    (may : MayBeMade sync (card_of s).makers) (on : PassesOnEither s) (is : IsSoundEither sync q)
    (opens : IsOpenStep q s p k found) where
  abbrev d : Queue
  d = queue_after s q p k found

  is-after : IsSoundEither sync d
  is-after = step-either sync q s p k found may is opens

  plain-settles : IsPlainStep s → StepSettlesEither q d s k
  plain-settles plain =
      let row : IsPlainRow (row_of s) = plain-row s plain in
      let turn : TurnsUnwatched q d p = plain-turn q (row_of s) p k found row opens in
      let reads : queue_after s (as_unbroken q) p k (option_map unbroken_cell found) ≡ as_unbroken d =
      after-read q (row_of s) p k found row opens in
      let read : StepSettles (as_unbroken q) s p k (option_map unbroken_cell found) =
      step-settles (as_unbroken q) s p k (option_map unbroken_cell found) (passing s plain on) is.reads
      (open-read q (row_of s) p k found row opens) in
      record {
        stays = λ j at.
            read-settled d j (subst (λ (r : Queue). IsSettled r j) reads (read.stays j (settled-read q j at)))
            (unwatched-then q d p turn.from turn.to turn.does turn.now j (turn.after j)
            (settled-unwatched sync q j is at));
        same = λ j at.
            plain-same q (row_of s) p k found row opens j at.cell (either-drawn sync q j is at) at.there
            (subst (λ (r : Queue). slice_get r.cells j ≡ slice_get (as_unbroken q).cells j) reads
            (read.same j (settled-read q j at)));
        by = λ j at. ⊎_elim
            (λ (before : IsSettled (as_unbroken q) j). inl (read-settled q j before
            (unwatched-before q d p turn.from turn.to turn.does turn.now j (turn.before j)
            (settled-unwatched sync d j is-after at))))
            (λ (by_it : (j ≡ k) × IsSettler s). inr by_it)
            (read.by j (subst (λ (r : Queue). IsSettled r j) (sym reads) (settled-read d j at)));
        once = λ it.
            let new = read.once it in (
              read-settled d k (subst (λ (r : Queue). IsSettled r k) reads new.0)
                  (unwatched-after sync q (row_of s) p k found (settles-unwatched sync s plain may) opens is-after it),
              λ before. new.1 (settled-read q k before),
            );
      }

-- EACH STEP.

sync-found : (sync : Bool) (q : Queue) (e : SyncStep) (p k : ℕ) (found : Option CoreCell)
    → MayBeMade sync (card_of (step.in_sync e)).makers → IsSoundEither sync q → IsOpenStep q (step.in_sync e) p k found
    → StepSettlesEither q (queue_after (step.in_sync e) q p k found) (step.in_sync e) k
sync-found sync q e p k found may is opens =
    where-open q p k (Settles e) (row_of (step.in_sync e)) (at-cell e may) found opens
  where
    Settles : SyncStep → Option CoreCell → Type 0
    Settles e cell = StepSettlesEither q (queue_after (step.in_sync e) q p k cell) (step.in_sync e) k

    at : (e : SyncStep) (cell : CoreCell) → sync ≡ true → MayBeMade sync (card_of (step.in_sync e)).makers
        → IsOpenStep q (step.in_sync e) p k (Some cell) → Settles e (Some cell)
    at e cell on may w =
        sync-settles sync q p k cell is e on w (step-either sync q (step.in_sync e) p k (Some cell) may is w)

    at-cell : (e : SyncStep) → MayBeMade sync (card_of (step.in_sync e)).makers
        → WhereOpen q p k (Settles e) (row_of (step.in_sync e))
    at-cell step.leaves_watched may = λ cell w. at step.leaves_watched cell may may w
    at-cell step.sees_value may = λ cell w. at step.sees_value cell may may w
    at-cell step.sees_taken may = λ cell w. at step.sees_taken cell may may w
    at-cell step.breaks may = λ cell w. at step.breaks cell may may w
    at-cell step.takes_watched may = λ cell w. at step.takes_watched cell may may w
    at-cell step.finds_broken may = λ cell w. at step.finds_broken cell may may w

pub step-settles-either : (sync : Bool) (q : Queue) (s : QueueStep) (p k : ℕ) (found : Option CoreCell)
    → MayBeMade sync (card_of s).makers → PassesOnEither s → IsSoundEither sync q → IsOpenStep q s p k found
    → StepSettlesEither q (queue_after s q p k found) s k
step-settles-either sync q s p k found may on is opens = ⊎_elim
    (λ (plain : IsPlainStep s). plain-settles sync q s p k found may on is opens plain)
    (λ (only : (e : SyncStep) × (s ≡ step.in_sync e)).
    subst (λ t. MayBeMade sync (card_of t).makers → IsOpenStep q t p k found
    → StepSettlesEither q (queue_after t q p k found) t k) (sym only.1)
    (λ m w. sync-found sync q only.0 p k found m is w) may opens)
    (either-step s)
