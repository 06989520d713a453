-- A look answers the cell that it found, or what was left there for a wait that was served.
use Rattle.std.proofs.Common.{◌≡◌, ◌≢◌, ◌⊎◌, ℕ, ◌<◌, ◌≤◌, false, [], length, Option, Some, None, refl, sym, ap, ◌∙◌, subst, inl, inr, ⊎_elim}
use Rattle.cqs_core.specs.declared.cells.CoreState.{CoreState}
use Rattle.cqs_core.specs.declared.cells.CoreState.TheVariants as state
use Rattle.cqs_core.specs.QueueStages as stage
use Rattle.cqs_core.specs.QueueStages.{MayFind}
use Rattle.cqs_words.specs.declared.cell.CellState.{CellState}
use Rattle.cqs_words.specs.declared.cell.CellState.TheVariants as shown
use Rattle.cqs_words.specs.declared.cell.CellWord.{CellWord}
use Rattle.cqs_words.specs.Cell.{payload_in, unpacked_cell}
use Rattle.cqs_rule_laws.specs.declared.client.ClientWords.{Ghosts}
use Rattle.cqs_rule_laws.specs.declared.config.Place.{Place}
use Rattle.cqs_rule.specs.declared.queue.Pass.{Pass}
use Rattle.cqs_core.specs.QueueSteps.{QueueStep, StepRow, at_counter, at_cell, row_of}
use Rattle.cqs_rule_laws.specs.declared.view.Facts.{Facts}
use Rattle.cqs_rule_laws.specs.declared.view.Glimpse.{Glimpse}
use Rattle.cqs_rule_laws.specs.declared.view.View.{View}
use Rattle.cqs_rule_laws.specs.Facts.{facts_after}
use Rattle.cqs_rule_laws.specs.Kinds.{change_by}
use Rattle.cqs_rule_laws.specs.Settling.{duties_then, settles_row}
use Rattle.cqs_rule_laws.specs.Loads.{LoadStep, counts, watches, polls, cancels, meets, misses, sees, finds, event_of, facts_looked, told_at, MayLook, MayLoad, Looked, Watched}
use Rattle.cqs_rule_laws.specs.Object.{Object, Primitive}
use Rattle.cqs_rule_laws.specs.Placed.{KnowsPlace}
use Rattle.cqs_rule_laws.specs.Ruled.{shown_state}
use Rattle.cqs_rule.specs.Counting.{Counted, LoadedThen}
use Rattle.cqs_rule.specs.Passes.{pass_view}
use Rattle.cqs_rule.proofs.Counting.{found-counted, one-head, saw-after}
use Rattle.cqs_cell.specs.Found.{cell_found, Shows}
use Rattle.cqs_cell.specs.Looks.{LookedThen, LooksAt, settles_event, WatchesAt, HasLeft, HasLookedAtWord, HasPolled, IsGrant}
use Rattle.cqs_cell.proofs.Answered.{cell_shown, its-own, shows-found, tells-watched, unpacks-found, word-found}

module _ {C E S : Type 0} (object : Object E) (primitive : C → Primitive E S) where
  -- a load leaves one cell to count, or none
  looked-duty : (event : Option QueueStep) (n : ℕ) (g : Glimpse) (f : Facts) → f.duties ≡ []
      → (facts_looked object.gains event n g f).duties ≡ duties_then (settles_event event) g.number []
  looked-duty None n g f none = none
  looked-duty (Some s) n g f none = by (row_of s)
    where
      by : (row : StepRow) → (facts_after object.gains row g.number n (told_at row g.payload f) f).duties
          ≡ duties_then (change_by row).settles g.number []
      by (at_counter row) = none
      by (at_cell row) = ap (duties_then (settles_row row) g.number) none

  -- what is told of a load, after which the cell was counted if it was settled
  looked-then : (load : LoadStep) (k n : ℕ) (v u w : View E S) → v.facts.duties ≡ []
      → Looked object primitive load k v n u → Counted u w → LookedThen object primitive load k v n w
  looked-then load k n v u w none l counted = record {
    glimpse = l.glimpse;
    number = l.number;
    cell = l.cell;
    may = l.may;
    since = l.since;
    heads = counted.heads;
    few_heads = one-head u w counted (settles_event (event_of load l.glimpse.state)) l.glimpse.number
        (ap (λ (f : Facts). f.duties) l.saw.facts_are
        ∙ looked-duty (event_of load l.glimpse.state) n l.glimpse v.facts none);
    saw = saw-after u w counted (settles_event (event_of load l.glimpse.state)) object v _ _
        (λ stays. looked-duty (event_of load l.glimpse.state) n l.glimpse v.facts none
        ∙ ap (λ b. duties_then b l.glimpse.number []) stays) l.saw;
    was = found-counted u w counted primitive _ _ l.was;
  }

  -- the load of its word tells of the cell
  pub looked-at : (load : LoadStep) (v w : View E S) (at : Place) (n : ℕ) → KnowsPlace v at → MayLook load v at.index
      → v.facts.duties ≡ [] → LoadedThen object primitive load at.word v n w
      → LookedThen object primitive load at.index v n w
  looked-at counts v w at n place may none l = absurd may
  looked-at watches v w at n place may none l = absurd may
  looked-at polls v w at n place may none l =
      looked-then polls at.index n v l.0 w none (l.1 at.index place may) l.2
  looked-at cancels v w at n place may none l =
      looked-then cancels at.index n v l.0 w none (l.1 at.index place may) l.2
  looked-at meets v w at n place may none l =
      looked-then meets at.index n v l.0 w none (l.1 at.index place may) l.2
  looked-at misses v w at n place may none l =
      looked-then misses at.index n v l.0 w none (l.1 at.index place may) l.2
  looked-at sees v w at n place may none l =
      looked-then sees at.index n v l.0 w none (l.1 at.index place may) l.2
  looked-at finds v w at n place may none l =
      looked-then finds at.index n v l.0 w none (l.1 at.index place may) l.2

  -- and so does the cell that is answered
  looks-found : (load : LoadStep) (k : ℕ) (v : View E S) (n : ℕ) (w : View E S)
      → LookedThen object primitive load k v n w → LooksAt object primitive load k v (cell_found k (unpacked_cell n)) w
  looks-found load k v n w l = record {
    word = n;
    looked = l;
    shows = subst (λ j. Shows n l.glimpse (cell_found j (unpacked_cell n))) l.number (shows-found n l.glimpse l.cell);
  }

  pub looks-at : (load : LoadStep) (k : ℕ) (v : View E S) (n : ℕ) (w : View E S) (cell : CellWord)
      → cell ≡ cell_found k (unpacked_cell n) → LookedThen object primitive load k v n w
      → LooksAt object primitive load k v cell w
  looks-at load k v n w cell is l =
      subst (λ z. LooksAt object primitive load k v z w) (sym is) (looks-found load k v n w l)

  watches-found : (at : Place) (v : View E S) (n : ℕ) (w : View E S) → KnowsPlace v at → at.index < v.cells
      → Watched object primitive at.word v n w
      → WatchesAt object primitive at.index at.word v (cell_found at.index (unpacked_cell n)) w
  watches-found at v n w place low l =
      let saw = l.cells at.index place low in
      record {
        found = n;
        watched = l;
        saw = saw;
        shows = subst (λ j. Shows n saw.glimpse (cell_found j (unpacked_cell n))
            ⊎ HasLeft n saw.glimpse (cell_found j (unpacked_cell n))) saw.number
            (tells-watched n saw.glimpse saw.cell);
      }

  pub watches-at : (at : Place) (v : View E S) (n : ℕ) (w : View E S) (cell : CellWord)
      → cell ≡ cell_found at.index (unpacked_cell n) → KnowsPlace v at → at.index < v.cells
      → Watched object primitive at.word v n w → WatchesAt object primitive at.index at.word v cell w
  watches-at at v n w cell is place low l =
      subst (λ z. WatchesAt object primitive at.index at.word v z w) (sym is) (watches-found at v n w place low l)

-- where a pass may look at a cell it may load the cell's word
pub may-load : {E S : Type 0} (load : LoadStep) (v : View E S) (at : Place) → KnowsPlace v at → MayLook load v at.index
    → MayLoad load v at.word
may-load counts v at place may = absurd may
may-load watches v at place may = absurd may
may-load polls v at place may = (at.index, place, may)
may-load cancels v at place may = (at.index, place, may)
may-load meets v at place may = (at.index, place, may)
may-load misses v at place may = (at.index, place, may)
may-load sees v at place may = (at.index, place, may)
may-load finds v at place may = (at.index, place, may)

-- a wait that isn't closed stands in its cell, or was served there
pub stands-or-served : (s : CoreState) → MayFind false stage.idle s
    → (shown_state s ≡ shown.Waiter) ⊎ (shown_state s ≡ shown.Resumed)
stands-or-served state.Waiter may = inl refl
stands-or-served state.Resumed may = inr refl
stands-or-served state.Empty may = absurd may
stands-or-served state.Value may = absurd may
stands-or-served state.Taken may = absurd may
stands-or-served state.Broken may = absurd may
stands-or-served state.Cancelling may = absurd may
stands-or-served state.Delegated may = absurd may
stands-or-served state.Cancelled may = absurd may
stands-or-served state.Refused may = absurd may

uncancelled : (s : CoreState) → MayFind false stage.idle s → s ≢ state.Cancelled
uncancelled s may cancelled = absurd (subst (MayFind false stage.idle) cancelled may)

-- so the one question, whether it was served, tells which of the two it is
pub grant-in : (cell : CellWord) → (cell.state ≡ shown.Waiter) ⊎ (cell.state ≡ shown.Resumed)
    → IsGrant (payload_in shown.Resumed (Some cell)) cell
grant-in cell both =
    let found : CellState → CellWord =
    λ s. record { index = cell.index; state = s; payload = cell.payload } in
    let Told : CellState → Type 0 = λ s. IsGrant (payload_in shown.Resumed (Some (found s))) (found s) in
    let waiting : Told shown.Waiter = refl in
    let resumed : Told shown.Resumed = (refl, refl) in
    ⊎_elim (λ waits. subst Told (sym waits) waiting) (λ served. subst Told (sym served) resumed) both

module _ {C S E : Type 0} {g : Ghosts C S E} where
  -- the word of the cell of a wait tells what its owner learned
  pub polled : (k word : ℕ) (p p' : Pass C S E g) → HasLookedAtWord polls k word p p' → (found : Option ℕ)
      → found ≡ payload_in shown.Resumed (unpacked_cell word) → HasPolled k found p p'
  polled k word p p' l found is =
      let here = stands-or-served l.glimpse.state l.may in
      let unpacked = unpacks-found word l.glimpse l.cell (uncancelled l.glimpse.state l.may) in
      let looks = looks-found g.object g.primitive polls k (pass_view p) word (pass_view p') l in
      let own : cell_found k (unpacked_cell word) ≡ cell_shown l.glimpse =
      subst (λ j. cell_found j (unpacked_cell word) ≡ cell_shown l.glimpse) l.number
      (its-own word l.glimpse (word-found word l.glimpse l.cell (uncancelled l.glimpse.state l.may)) l.cell.number
      l.cell.fits) in
      record {
        cell = cell_found k (unpacked_cell word);
        looks = looks;
        grant = subst (λ (o : Option ℕ). IsGrant o (cell_found k (unpacked_cell word)))
            (sym (is ∙ ap (payload_in shown.Resumed) unpacked))
            (subst (IsGrant (payload_in shown.Resumed (Some (cell_shown l.glimpse)))) (sym own)
            (grant-in (cell_shown l.glimpse) here));
      }
