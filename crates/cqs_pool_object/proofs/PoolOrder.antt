-- While one caller alone has made calls, the elements on their way stand in order, and a taker has the first.
use Rattle.std.proofs.Common.{◌≡◌, ◌≢◌, ◌⊎◌, inl, inr, ℕ, zero, suc, ◌+◌, ◌<◌, ◌≤◌, ◌==◌, Bool, true, false, List, [], ◌∷◌, ◌++◌, Option, Some, None, length, set, slice_get, replicate, refl, ap, ap₂, sym, ◌∙◌, subst, arith, eq-eqb, append-nil, ne_eqb, if◌then◌else◌}
use Rattle.std.specs.Prelude.{slice_index}
use Rattle.std.specs.List.{fold}
use Rattle.std.proofs.lemmas.Bool.{cases_eq, cases_lt}
use Rattle.std.proofs.lemmas.List.{get_or-set_same}
use Rattle.std.proofs.lemmas.Option.{same_Some}
use Rattle.std.proofs.lemmas.List.Sums.{fold-append}
use Rattle.cqs_core.specs.declared.cells.CoreCell.{CoreCell}
use Rattle.cqs_core.specs.declared.cells.CoreState.{CoreState}
use Rattle.cqs_core.specs.declared.cells.CoreState.TheVariants as state
use Rattle.cqs_core.specs.declared.doings.Doing.{Doing}
use Rattle.cqs_core.specs.declared.doings.Doing.TheVariants as doing
use Rattle.cqs_core.specs.Numbered.{pick_each}
use Rattle.cqs_core.specs.QueueLine.{has_left, is_left, is_resuming}
use Rattle.cqs_core.specs.QueueMoves as move
use Rattle.cqs_core.specs.QueueMoves.{Works, move_queue}
use Rattle.cqs_core.specs.QueueOpening.{value_cell}
use Rattle.cqs_core.specs.QueueSound.{IsSoundAt, IsOwn, IsUntaken}
use Rattle.cqs_core.specs.QueueStages.{doing_at}
use Rattle.cqs_core.specs.QueueState.{fresh_cell}
use Rattle.cqs_core.specs.QueueSteps as step
use Rattle.cqs_core.specs.QueueSteps.{QueueStep, row_of, StepRow, CellRow, at_cell, at_counter, wait_stays, nothing, IsOpenStep, cell_after, row_after, queue_after, payloads_after}
use Rattle.cqs_core.proofs.OpenRows.{WhereOpen, where-open}
use Rattle.cqs_core.proofs.Counts.{bit}
use Rattle.cqs_core.proofs.Picked.{AgreeBut, picked-push}
use Rattle.cqs_core.proofs.Places.{get-below, get-set_here}
use Rattle.cqs_core.proofs.QueueOpens.{get-replicate}
use Rattle.cqs_pool_object.specs.declared.entries.PoolEntry.TheVariants as entry
use Rattle.cqs_pool_object.specs.PoolObject.{Pool, opening, numbers_from, times}
use Rattle.cqs_pool_object.specs.PoolEntries.{after_entry, object_after, less}
use Rattle.cqs_pool_object.specs.PoolShown.{PoolShape, IsPool}
use Rattle.cqs_pool_object.specs.PoolSteps.{IsPoolStep, IsPayload, step_entries, loads_gained, loads_after, left_after, shape_after}
use Rattle.cqs_pool_object.specs.PoolLaws.{opening_shape}
use Rattle.cqs_pool_object.specs.PoolOrder.{IsFirstOnWay, IsByOne, element_in, left_in, elements_left, brought, InOrder, IsInOrder}
use Rattle.cqs_pool_object.proofs.PoolConserved.{conserved-after}
use Rattle.cqs_pool_object.proofs.PoolCounts.{put_at, payloads-set, put-here, times-cons, times-push}
use Rattle.cqs_pool_object.proofs.PoolLaw.{pool-none_refused}
use Rattle.cqs_pool_object.proofs.PoolSoleCaller.{OthersRest, Undelegated, busy-one, by-both, named-one, none-cancelling, none-left, none-past, others-set, undelegated-push, undelegated-set, value-drawn}
use Rattle.cqs_pool_object.proofs.PickedLists.{picked-came, picked-kept, picked-went}

-- the row of a step at a cell
abbrev row_in : StepRow → CellRow
row_in (at_cell row) = row
row_in (at_counter row) = record {
  works_at = row.works_at;
  goes_to = row.works_at;
  finds = state.Empty;
  makes = None;
  brings = false;
  wait = wait_stays;
  gain = nothing;
  collects = false;
  settles = false;
}

abbrev row_at : QueueStep → CellRow
row_at step = row_in (row_of step)

-- the same payloads, or all but one
agree-same : (payloads : ℕ → ℕ) (n : ℕ) → AgreeBut (element_in payloads) (element_in payloads) n
agree-same payloads n = record { at = λ m x other. refl }

agree-brought : (payloads : ℕ → ℕ) (n e : ℕ) → AgreeBut (element_in payloads) (element_in (put_at payloads n e)) n
agree-brought payloads n e = record {
  at = λ m x other. ap (left_in (has_left x)) (sym ((payloads-set n e payloads).others m other));
}

-- what is left where the state of the cell is one at which nothing is
left-none : (payloads : ℕ → ℕ) (k : ℕ) (cell : CoreCell) → has_left cell ≡ false → element_in payloads k cell ≡ None
left-none payloads k cell none = ap (λ b. left_in b (payloads k)) none

left-some : (payloads : ℕ → ℕ) (k : ℕ) (cell : CoreCell) → has_left cell ≡ true
    → element_in payloads k cell ≡ Some (payloads k)
left-some payloads k cell some = ap (λ b. left_in b (payloads k)) some

-- the first on the way goes where it stands first
less-first : (e : ℕ) (xs : List ℕ) → less e (e ∷ xs) ≡ xs
less-first e xs = rw (eq-eqb e e refl) refl

-- and where it stands last alone
less-last : (e : ℕ) (xs : List ℕ) → times e xs ≡ 0 → less e (xs ++ e ∷ []) ≡ xs
less-last e [] none = less-first e []
less-last e (x ∷ xs) none = go (cases_eq e x) (λ rest. less-last e xs rest) (times-cons e x xs)
  where
    go : (e ≡ x) ⊎ (e ≢ x) → (times e xs ≡ 0 → less e (xs ++ e ∷ []) ≡ xs)
        → times e (x ∷ xs) ≡ bit (x == e) + times e xs → less e (x ∷ (xs ++ e ∷ [])) ≡ x ∷ xs
    go (inl same) rests first =
        let one : bit (x == e) ≡ 1 = ap bit (eq-eqb x e (sym same)) in absurd (omega arith)
    go (inr other) rests first = rw (ne_eqb e x other) (ap (λ ys. x ∷ ys) (rests (omega arith)))

module _ (s : PoolShape) (p k e : ℕ) (is : IsPool s) (was : IsInOrder s) where
  abbrev o : Pool
  o = object_after s.size s.history

  abbrev InOrderNow : List ℕ → ℕ → Type 0
  InOrderNow on_way one = InOrder s.queue s.loads s.payloads on_way one

  -- a step of the one caller
  order-of : (step : QueueStep) (found : Option CoreCell)
      → ((one : ℕ) → IsByOne one (step_entries step p k e) → OthersRest one s.queue.doing → p ≡ one)
      → (InOrderNow o.way p
      → InOrder (queue_after step s.queue p k found) (loads_after (row_of step) s.loads p e)
      (left_after (row_of step) s.payloads k e) (fold after_entry o (step_entries step p k e)).way p)
      → IsInOrder (shape_after s step p k found e)
  order-of step found the_one now one by =
      let split = by-both one s.history (step_entries step p k e) by in
      let before : InOrderNow o.way one = was one split.0 in
      let same : p ≡ one = the_one one split.1 before.others in
      let after = now (subst (λ n. InOrderNow o.way n) (sym same) before) in
      let ways : (object_after s.size (s.history ++ step_entries step p k e)).way
      ≡ (fold after_entry o (step_entries step p k e)).way =
      ap (λ (x : Pool). x.way) (fold-append after_entry (opening s.size) s.history (step_entries step p k e)) in
      subst (λ (z : List ℕ × ℕ).
      InOrder (queue_after step s.queue p k found) (loads_after (row_of step) s.loads p e)
      (left_after (row_of step) s.payloads k e) z.0 z.1) (λ i. (sym ways i, same i)) after

  -- what the pass brings, where this is known of what it does
  way-at : (d : Doing) → slice_get s.queue.doing p ≡ Some d → InOrderNow o.way p
      → o.way ≡ elements_left s.queue s.payloads ++ brought (Some d) (slice_index s.loads p)
  way-at d does before =
      before.way ∙ ap (λ x. elements_left s.queue s.payloads ++ brought x (slice_index s.loads p)) does

  -- a step at a cell
  cell-order : (row : CellRow) (found : CoreCell) (on_way : List ℕ)
      → Works s.queue p (doing_at row.works_at k) k found row.finds
      → (cell_after row found).state ≢ state.Delegated
      → ((j : ℕ) → doing_at row.goes_to k ≢ doing.Ticket j)
      → on_way ≡ pick_each (element_in (payloads_after row s.payloads k e)) 0
      (set s.queue.cells k (cell_after row found))
      ++ brought (Some (doing_at row.goes_to k)) (slice_index (loads_gained row.gain s.loads p e) p)
      → InOrderNow o.way p
      → InOrder (row_after (at_cell row) s.queue p k (Some found)) (loads_gained row.gain s.loads p e)
      (payloads_after row s.payloads k e) on_way p
  cell-order row found on_way works not over way before =
      let to : Doing = doing_at row.goes_to k in
      let here : slice_get (set s.queue.doing p to) p ≡ Some to =
      get-set_here s.queue.doing p (doing_at row.works_at k) to works.does in
      record {
        others = others-set s.queue.doing p (doing_at row.works_at k) to works.does before.others;
        undelegated = undelegated-set s.queue.cells k found (cell_after row found) works.finds not before.undelegated;
        last = λ j at. absurd (over j (same_Some to (doing.Ticket j) (sym here ∙ at)));
        way = way
            ∙ ap (λ x. pick_each (element_in (payloads_after row s.payloads k e)) 0
            (set s.queue.cells k (cell_after row found))
            ++ brought x (slice_index (loads_gained row.gain s.loads p e) p)) (sym here);
      }

  -- the cells with one that is written, in which the same is left
  left-kept : (found new : CoreCell) → slice_get s.queue.cells k ≡ Some found → has_left found ≡ has_left new
      → pick_each (element_in s.payloads) 0 (set s.queue.cells k new) ≡ elements_left s.queue s.payloads
  left-kept found new there same =
      picked-kept (element_in s.payloads) (element_in s.payloads) k (agree-same s.payloads k) 0 s.queue.cells k found
      new
      (omega arith) there (ap (λ b. left_in b (s.payloads k)) same)

  -- a number is drawn to suspend at
  drawn-order : (found : Option CoreCell) (d : Doing) → slice_get s.queue.doing p ≡ Some d → is_resuming d ≡ false
      → k ≡ s.queue.suspends → slice_get s.queue.cells k ≡ found → InOrderNow o.way p
      → InOrder (move_queue s.queue (move.draw p k found)) s.loads s.payloads o.way p
  drawn-order found d does none at there before = by found there
    where
      here : slice_get (set s.queue.doing p (doing.Drawn k)) p ≡ Some (doing.Drawn k)
      here = get-set_here s.queue.doing p d (doing.Drawn k) does

      ways : o.way ≡ elements_left s.queue s.payloads ++ []
      ways = way-at d does before
          ∙ ap (λ b. elements_left s.queue s.payloads ++ (if b then slice_index s.loads p ∷ [] else [])) none

      order : (cells : List CoreCell) → Undelegated cells
          → pick_each (element_in s.payloads) 0 cells ≡ elements_left s.queue s.payloads
          → InOrder (record {
            suspends = s.queue.suspends + 1;
            resumes = s.queue.resumes;
            cells = cells;
            doing = set s.queue.doing p (doing.Drawn k);
          }) s.loads s.payloads o.way p
      order cells undelegated left = record {
        others = others-set s.queue.doing p d (doing.Drawn k) does before.others;
        undelegated = undelegated;
        last = λ j is. absurd (not-ticket j (same_Some (doing.Drawn k) (doing.Ticket j) (sym here ∙ is)));
        way = ways
            ∙ (λ i. sym left i ++ brought (sym here i) (slice_index s.loads p));
      }
        where
          not-ticket : (j : ℕ) → doing.Drawn k ≡ doing.Ticket j → ⊥
          not-ticket j e = absurd (cc)

      by : (found : Option CoreCell) → slice_get s.queue.cells k ≡ found
          → InOrder (move_queue s.queue (move.draw p k found)) s.loads s.payloads o.way p
      by (Some cell) there =
          let new : CoreCell = record { state = cell.state; owner = Some p; collected = cell.collected } in
          order (set s.queue.cells k new)
          (undelegated-set s.queue.cells k cell new there (before.undelegated.at k cell there) before.undelegated)
          (left-kept cell new there refl)
      by None there =
          let new : CoreCell = record { state = state.Empty; owner = Some p; collected = false } in
          order (s.queue.cells ++ new ∷ [])
          (undelegated-push s.queue.cells new (λ e. absurd (cc)) before.undelegated)
          (picked-push (element_in s.payloads) 0 s.queue.cells new (length s.queue.cells) (omega arith)
          ∙ append-nil (elements_left s.queue s.payloads))

  -- a number is drawn to resume at
  reached-order : (found : Option CoreCell) (d : Doing) (loads on_way : List ℕ) → slice_get s.queue.doing p ≡ Some d
      → k ≡ s.queue.resumes
      → on_way ≡ elements_left s.queue s.payloads ++ slice_index loads p ∷ [] → InOrderNow o.way p
      → InOrder (move_queue s.queue (move.reach p k found)) loads s.payloads on_way p
  reached-order found d loads on_way does at ways before = by found
    where
      here : slice_get (set s.queue.doing p (doing.Ticket k)) p ≡ Some (doing.Ticket k)
      here = get-set_here s.queue.doing p d (doing.Ticket k) does

      order : (cells : List CoreCell) → Undelegated cells
          → pick_each (element_in s.payloads) 0 cells ≡ elements_left s.queue s.payloads
          → InOrder (record {
            suspends = s.queue.suspends;
            resumes = s.queue.resumes + 1;
            cells = cells;
            doing = set s.queue.doing p (doing.Ticket k);
          }) loads s.payloads on_way p
      order cells undelegated left = record {
        others = others-set s.queue.doing p d (doing.Ticket k) does before.others;
        undelegated = undelegated;
        last = λ j is.
            let same : k ≡ j = ticket-number (same_Some (doing.Ticket k) (doing.Ticket j) (sym here ∙ is)) in
            omega arith;
        way = ways ∙ (λ i. sym left i ++ brought (sym here i) (slice_index loads p));
      }
        where
          ticket-number : {m n : ℕ} → doing.Ticket m ≡ doing.Ticket n → m ≡ n
          ticket-number e = cc

      by : (found : Option CoreCell) → InOrder (move_queue s.queue (move.reach p k found)) loads s.payloads on_way p
      by (Some cell) = order s.queue.cells before.undelegated refl
      by None =
          order (s.queue.cells ++ fresh_cell ∷ [])
          (undelegated-push s.queue.cells fresh_cell (λ e. absurd (cc)) before.undelegated)
          (picked-push (element_in s.payloads) 0 s.queue.cells fresh_cell (length s.queue.cells) (omega arith)
          ∙ append-nil (elements_left s.queue s.payloads))

  -- a step at a cell by which nothing is left or taken
  kept-order : (row : CellRow) (found : CoreCell) (on_way : List ℕ) → row.brings ≡ false
      → Works s.queue p (doing_at row.works_at k) k found row.finds
      → (cell_after row found).state ≢ state.Delegated → has_left found ≡ has_left (cell_after row found)
      → ((j : ℕ) → doing_at row.goes_to k ≢ doing.Ticket j)
      → on_way ≡ o.way
      → brought (Some (doing_at row.works_at k)) (slice_index s.loads p)
      ≡ brought (Some (doing_at row.goes_to k)) (slice_index (loads_gained row.gain s.loads p e) p)
      → InOrderNow o.way p
      → InOrder (row_after (at_cell row) s.queue p k (Some found)) (loads_gained row.gain s.loads p e)
      (payloads_after row s.payloads k e) on_way p
  kept-order row found on_way none works not same over ways brings before =
      cell-order row found on_way works not over
      (ways ∙ way-at (doing_at row.works_at k) works.does before
      ∙ (λ i. sym left i ++ brings i))
      before
    where
      payloads_same : (b : Bool) → b ≡ false
          → (λ (j : ℕ). if b then (if j == k then e else s.payloads j) else s.payloads j) ≡ s.payloads
      payloads_same b is = rw is refl

      left : pick_each (element_in (payloads_after row s.payloads k e)) 0 (set s.queue.cells k (cell_after row found))
          ≡ elements_left s.queue s.payloads
      left = ap (λ (f : ℕ → ℕ). pick_each (element_in f) 0 (set s.queue.cells k (cell_after row found)))
          (payloads_same row.brings none)
          ∙ left-kept found (cell_after row found) works.finds same

  at-one : (d : Doing) → slice_get s.queue.doing p ≡ Some d → (d ≡ doing.Idle → ⊥)
      → (one : ℕ) → OthersRest one s.queue.doing → p ≡ one
  at-one d does busy one others = busy-one s.queue.doing p one d others does busy

  -- each step
  orders : (t : QueueStep) → IsPoolStep t → IsPayload (row_of t) s p k e
      → WhereOpen s.queue p k (λ found. IsInOrder (shape_after s t p k found e)) (row_of t)
  orders step.draws may paid = λ found w.
      order-of step.draws found (λ one by others. named-one p one (entry.Enter p k) (eq-eqb p p refl) by)
      (drawn-order found doing.Door w.0 refl w.1 w.2)
  orders step.enters may paid = λ found w.
      order-of step.enters found (λ one by others. named-one p one (entry.Enter p k) (eq-eqb p p refl) by)
      (drawn-order found doing.Idle w.0 refl w.1 w.2)
  orders step.reaches may paid = λ found w.
      order-of step.reaches found (λ one by others. at-one doing.Owes w.0 (λ e. absurd (cc)) one others)
      (λ before. reached-order found doing.Owes s.loads o.way w.0 w.1 (way-at doing.Owes w.0 before) before)
  orders step.puts may paid = λ found w.
      order-of step.puts found (λ one by others. named-one p one (entry.Put p e) (eq-eqb p p refl) by)
      (λ before.
      let below : p < length s.loads =
      let there = get-below s.queue.doing p doing.Idle w.0 in omega (arith, is.loaders) in
      let loaded : slice_index (set s.loads p e) p ≡ e = get_or-set_same s.loads p e 0 below in
      let ways : o.way ≡ elements_left s.queue s.payloads = way-at doing.Idle w.0 before ∙ append-nil _ in
      reached-order found doing.Idle (set s.loads p e) (o.way ++ e ∷ []) w.0 w.1
      (λ i. ways i ++ sym loaded i ∷ []) before)
  orders step.installs may paid = λ found w.
      order-of step.installs (Some found)
      (λ one by others. at-one (doing.Drawn k) w.0.does (λ e. absurd (cc)) one others)
      (kept-order (row_at step.installs) found o.way refl w.0 (λ x. absurd (cc)) (ap is_left w.0.at)
      (λ j x. absurd (cc)) refl refl)
  orders step.takes may paid = λ found w.
      order-of step.takes (Some found) (λ one by others. at-one (doing.Drawn k) w.0.does (λ e. absurd (cc)) one others)
      (λ before.
      let new : CoreCell = record { state = state.Taken; owner = found.owner; collected = true } in
      let own : IsOwn s.queue p k IsUntaken = is.sound.passes.at p (doing.Drawn k) w.0.does in
      let was_left : has_left found ≡ true = rw w.0.at refl in
      let first : elements_left s.queue s.payloads
      ≡ s.payloads k ∷ pick_each (element_in s.payloads) 0 (set s.queue.cells k new) =
      picked-went (element_in s.payloads) 0 s.queue.cells k k found new (s.payloads k) (omega arith) w.0.finds
      (left-some s.payloads k found was_left) refl
      (λ j m cell at low got.
      left-none s.payloads m cell
      (none-left s.queue is.sound p before.others k j cell cell.state w.0.does (λ e. omega arith)
      (let drawn = own.drawn in omega arith)
      (is.sound.cells.at j cell got) (before.undelegated.at j cell got))) in
      let ways : o.way ≡ s.payloads k ∷ pick_each (element_in s.payloads) 0 (set s.queue.cells k new) =
      way-at (doing.Drawn k) w.0.does before ∙ append-nil _ ∙ first in
      cell-order (row_at step.takes) found (less e o.way) w.0 (λ x. absurd (cc)) (λ j x. absurd (cc))
      ((λ i. less (paid i) (ways i)) ∙ less-first (s.payloads k) _ ∙ sym (append-nil _)) before)
  orders step.serves may paid = λ found w.
      order-of step.serves (Some found)
      (λ one by others. at-one (doing.Ticket k) w.0.does (λ e. absurd (cc)) one others)
      (λ before.
      let left : List ℕ = elements_left s.queue s.payloads in
      let new : CoreCell = record { state = state.Resumed; owner = found.owner; collected = found.collected } in
      let ways : o.way ≡ left ++ e ∷ [] =
      way-at (doing.Ticket k) w.0.does before ∙ ap (λ n. left ++ n ∷ []) (sym paid) in
      let once : times e left ≡ 0 = once-on_way left ways in
      let kept : pick_each (element_in (put_at s.payloads k e)) 0 (set s.queue.cells k new) ≡ left =
      picked-kept (element_in s.payloads) (element_in (put_at s.payloads k e)) k (agree-brought s.payloads k e) 0
      s.queue.cells k found new (omega arith) w.0.finds
      (left-none s.payloads k found (rw w.0.at refl)) in
      cell-order (row_at step.serves) found (less e o.way) w.0 (λ x. absurd (cc)) (λ j x. absurd (cc))
      (ap (less e) ways ∙ less-last e left once ∙ sym kept ∙ sym (append-nil _)) before)
    where
      once-on_way : (left : List ℕ) → o.way ≡ left ++ e ∷ [] → times e left ≡ 0
      once-on_way left ways =
          let kept = conserved-after s.size s.history is.legal in
          let pushed = times-push e e left in
          let here : times e o.way ≡ times e (left ++ e ∷ []) = ap (times e) ways in
          let one : bit (e == e) ≡ 1 = ap bit (eq-eqb e e refl) in
          go (cases_lt e s.size) (kept.each e) (kept.others e) pushed here one
        where
          go : (e < s.size) ⊎ (s.size ≤ e)
              → (e < s.size → times e o.way + times e o.held ≡ 1)
              → (s.size ≤ e → times e o.way + times e o.held ≡ 0)
              → times e (left ++ e ∷ []) ≡ times e left + bit (e == e)
              → times e o.way ≡ times e (left ++ e ∷ []) → bit (e == e) ≡ 1 → times e left ≡ 0
          go (inl low) each others pushed here one = let all = each low in omega arith
          go (inr high) each others pushed here one = let all = others high in omega arith
  orders step.leaves may paid = λ found w.
      order-of step.leaves (Some found)
      (λ one by others. at-one (doing.Ticket k) w.0.does (λ e. absurd (cc)) one others)
      (λ before.
      let left : List ℕ = elements_left s.queue s.payloads in
      let new : CoreCell = record { state = state.Value; owner = found.owner; collected = found.collected } in
      let ways : o.way ≡ left ++ e ∷ [] =
      way-at (doing.Ticket k) w.0.does before ∙ ap (λ n. left ++ n ∷ []) (sym paid) in
      let last : s.queue.resumes ≡ k + 1 = before.last k w.0.does in
      let came : pick_each (element_in (put_at s.payloads k e)) 0 (set s.queue.cells k new) ≡ left ++ e ∷ [] =
      picked-came (element_in s.payloads) (element_in (put_at s.payloads k e)) k (agree-brought s.payloads k e) 0
      s.queue.cells k found new e (omega arith) w.0.finds
      (left-none s.payloads k found (rw w.0.at refl)) (ap Some (put-here k e s.payloads))
      (λ j m cell at low got.
      left-none s.payloads m cell
      (none-past s.queue is.sound p before.others j cell cell.state (omega arith)
      (is.sound.cells.at j cell got) (before.undelegated.at j cell got))) in
      cell-order (row_at step.leaves) found o.way w.0 (λ x. absurd (cc)) (λ j x. absurd (cc))
      (ways ∙ sym came ∙ sym (append-nil _)) before)
  orders step.delegates may paid = λ found w.
      order-of step.delegates (Some found)
      (λ one by others. at-one (doing.Ticket k) w.0.does (λ e. absurd (cc)) one others)
      (λ before.
      let cell : IsSoundAt s.queue k found state.Cancelling =
      subst (λ (x : CoreState). IsSoundAt s.queue k found x) w.0.at (is.sound.cells.at k found w.0.finds) in
      absurd (none-cancelling s.queue is.sound p before.others k k found w.0.does cell.0))
  orders step.passes_over may paid = λ found w.
      order-of step.passes_over (Some found)
      (λ one by others. at-one (doing.Ticket k) w.0.does (λ e. absurd (cc)) one others)
      (kept-order (row_at step.passes_over) found o.way refl w.0 (λ x. absurd (cc)) refl (λ j x. absurd (cc)) refl refl)
  orders step.ends_refused may paid = λ found w. absurd (pool-none_refused s p k is found w.0)
  orders step.leaves_line may paid = λ found w.
      order-of step.leaves_line (Some found) (λ one by others. named-one p one (entry.Leave p k) (eq-eqb p p refl) by)
      (kept-order (row_at step.leaves_line) found o.way refl w.0 (λ x. absurd (cc)) (ap is_left w.0.at)
      (λ j x. absurd (cc)) refl refl)
  orders step.settles may paid = λ found w.
      order-of step.settles (Some found)
      (λ one by others. at-one (doing.Decided k true) w.0.does (λ e. absurd (cc)) one others)
      (kept-order (row_at step.settles) found o.way refl w.0 (λ x. absurd (cc)) (ap is_left w.0.at)
      (λ j x. absurd (cc)) refl refl)
  orders step.settles_owing may paid = λ found w.
      order-of step.settles_owing (Some found)
      (λ one by others. at-one (doing.Decided k true) w.0.does (λ e. absurd (cc)) one others)
      (λ before. absurd (before.undelegated.at k found w.0.finds w.0.at))
  orders (step.looks step.pends) may paid = λ found w.
      order-of (step.looks step.pends) (Some found)
      (λ one by others. named-one p one (entry.LookPending p k) (eq-eqb p p refl) by)
      (kept-order (row_at (step.looks step.pends)) found o.way refl w.0 (λ x. absurd (cc)) refl (λ j x. absurd (cc))
      refl refl)
  orders (step.looks step.grants) may paid = λ found w.
      order-of (step.looks step.grants) (Some found)
      (λ one by others. named-one p one (entry.LookGranted p k e) (eq-eqb p p refl) by)
      (kept-order (row_at (step.looks step.grants)) found o.way refl w.0 (λ x. absurd (cc)) refl (λ j x. absurd (cc))
      refl refl)
  orders (step.looks step.late) may paid = λ found w.
      order-of (step.looks step.late) (Some found)
      (λ one by others. named-one p one (entry.Late p k e) (eq-eqb p p refl) by)
      (kept-order (row_at (step.looks step.late)) found o.way refl w.0 (λ x. absurd (cc)) refl (λ j x. absurd (cc)) refl
      refl)
  orders step.begins may paid = absurd may
  orders step.ends_missed may paid = absurd may
  orders step.starts_leaving may paid = absurd may
  orders step.leaves_at_once may paid = absurd may
  orders step.refuses may paid = absurd may
  orders step.refuses_value may paid = absurd may
  orders (step.in_sync e) may paid = absurd may

  steps-order : (t : QueueStep) (found : Option CoreCell) → IsPoolStep t → IsOpenStep s.queue t p k found
      → IsPayload (row_of t) s p k e → IsInOrder (shape_after s t p k found e)
  steps-order t found may w paid =
      where-open s.queue p k (λ cell. IsInOrder (shape_after s t p k cell e)) (row_of t) (orders t may paid) found w

pub step-in_order : (s : PoolShape) (step : QueueStep) (p k : ℕ) (found : Option CoreCell) (e : ℕ) → IsPool s
    → IsInOrder s → IsPoolStep step → IsOpenStep s.queue step p k found → IsPayload (row_of step) s p k e
    → IsInOrder (shape_after s step p k found e)
step-in_order s step p k found e is was may w paid = steps-order s p k e is was step found may w paid

-- the pool opens with its elements in order
numbers-left_in : (n k : ℕ) (payloads : ℕ → ℕ) → ((j : ℕ) → j < k + n → payloads j ≡ j)
    → numbers_from k n ≡ pick_each (element_in payloads) k (replicate n value_cell)
numbers-left_in zero k payloads own = refl
numbers-left_in (suc n) k payloads own =
    ap₂ (λ (x : ℕ) (l : List ℕ). x ∷ l) (sym (own k (omega arith)))
    (numbers-left_in n (suc k) payloads (λ j low. own j (omega arith)))

pub opened-in_order : (size passes : ℕ) (payloads : ℕ → ℕ) → ((k : ℕ) → k < size → payloads k ≡ k)
    → IsInOrder (opening_shape size passes payloads)
opened-in_order size passes payloads own one by = record {
  others = record { at = λ n d got other. get-replicate passes n doing.Idle d got };
  undelegated = record {
    at = λ k cell got. rw (get-replicate size k value_cell cell got) (λ e. absurd (cc));
  };
  last = λ k is.
      let idle : doing.Ticket k ≡ doing.Idle = get-replicate passes one doing.Idle (doing.Ticket k) is in
      absurd (cc);
  way = numbers-left_in size 0 payloads (λ j low. own j (omega arith))
      ∙ sym (append-nil (pick_each (element_in payloads) 0 (replicate size value_cell)))
      ∙ ap (λ l. pick_each (element_in payloads) 0 (replicate size value_cell) ++ l)
      (sym (none-brought (slice_get (replicate passes doing.Idle) one) (get-replicate passes one doing.Idle)));
}
  where
    none-brought : (d : Option Doing) → ((x : Doing) → d ≡ Some x → x ≡ doing.Idle)
        → brought d (slice_index (replicate passes 0) one) ≡ []
    none-brought None idle = refl
    none-brought (Some x) idle = rw (idle x refl) refl

-- a taker whose cell has an element has the first of those on their way
pub first-taken : (s : PoolShape) (p k : ℕ) (cell : CoreCell) → IsPool s → IsInOrder s → IsByOne p s.history
    → slice_get s.queue.cells k ≡ Some cell → cell.state ≡ state.Value → k < s.queue.suspends
    → IsFirstOnWay (s.payloads k) (object_after s.size s.history).way
first-taken s p k cell is orders by there at low =
    let order = orders p by in
    let sound : IsSoundAt s.queue k cell state.Value =
    subst (λ (x : CoreState). IsSoundAt s.queue k cell x) at (is.sound.cells.at k cell there) in
    let drawn : slice_get s.queue.doing p ≡ Some (doing.Drawn k) =
    value-drawn s.queue is.sound p order.others k cell sound.0 low in
    let left : has_left cell ≡ true = rw at refl in
    let first : elements_left s.queue s.payloads
    ≡ s.payloads k ∷ pick_each (element_in s.payloads) 0 (set s.queue.cells k fresh_cell) =
    picked-went (element_in s.payloads) 0 s.queue.cells k k cell fresh_cell (s.payloads k) (omega arith) there
    (left-some s.payloads k cell left) refl
    (λ j m x is_at before got.
    left-none s.payloads m x
    (none-left s.queue is.sound p order.others k j x x.state drawn (λ e. omega arith) (omega arith)
    (is.sound.cells.at j x got) (order.undelegated.at j x got))) in
    let ways : (object_after s.size s.history).way
    ≡ s.payloads k ∷ pick_each (element_in s.payloads) 0 (set s.queue.cells k fresh_cell) =
    order.way ∙ ap (λ d. elements_left s.queue s.payloads ++ brought d (slice_index s.loads p)) drawn
    ∙ append-nil _ ∙ first in
    subst (λ l. IsFirstOnWay (s.payloads k) l) (sym ways) refl
