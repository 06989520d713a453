-- The steps at a cell: each keeps the rule, and tells what its row says. An exchange is made where the cell was found
-- as the row wants it, and else shows nothing.
use Rattle.std.proofs.Common.{◌≡◌, ℕ, ◌+◌, ◌<◌, ◌^◌, Bool, true, false, ◌⊎◌, ◌≢◌, ⊎_elim, inr, List, [], ◌∷◌, ◌++◌, length, sym, refl, ap, ◌∙◌, subst, inl, arith, Option, Some, None, slice_get, eq-eqb, ne_eqb, eqb, if◌then◌else◌}
use Rattle.std.specs.Prelude.{slice_index, slice_set}
use Rattle.std.proofs.lemmas.List.{length-set, length-append}
use Rattle.std.proofs.lemmas.Option.{same_Some}
use mathlib.Core.Logic.{dite}
use mathlib.Core.Option.{some, none}
use native.Mathlib.Decide.{ℕ_discrete}
use lib.ListN.{get_elem?}
use prog.Atomic.{either}
use Rattle.atomic_table.specs.Table.{State, Me, Act, keeps, step, stepped, carried_after, Valid, Allows}
use Rattle.cqs_core.specs.declared.cells.CoreCell.{CoreCell}
use Rattle.cqs_core.specs.declared.cells.CoreState.{CoreState}
use Rattle.cqs_core.specs.declared.cells.CoreState.TheVariants as state
use Rattle.cqs_core.specs.declared.doings.Doing.TheVariants as doing
use Rattle.cqs_core.specs.QueueEither.{IsSoundEither}
use Rattle.cqs_core.proofs.EitherCells.{has-cell, turns}
use Rattle.cqs_core.specs.QueueStages as stage
use Rattle.cqs_core.specs.QueueStages.{Stage, doing_at, MayFind, MayWork}
use Rattle.cqs_core.specs.QueueSteps.{QueueStep, row_of, StepRow, CellRow, at_counter, at_cell, Gain, nothing, its_own, a_debt, payload_told, state_made, IsOpenRow, cell_after, WaitChange, wait_stays, wait_opens, wait_closes}
use Rattle.cqs_core.proofs.Places.{get-set_here}
use Rattle.cqs_core.proofs.QueueRows.{rows, row-of}
use Rattle.cqs_core.specs.QueueCells.{rank}
use Rattle.cqs_core.proofs.QueueUniform.{IsCellRow, IsRow, IsAtCell, IsInside, TellsWait, IsOwnChange, GoesOn as RowGoesOn}
use Rattle.cqs_words.specs.Cell.{index_in}
use Rattle.cqs_rule_laws.specs.declared.view.View.{View}
use Rattle.cqs_rule_laws.specs.declared.view.Facts.{Facts}
use Rattle.cqs_rule_laws.specs.declared.view.Glimpse.{Glimpse}
use Rattle.cqs_rule_laws.specs.declared.view.Opening.{Opening}
use Rattle.cqs_rule_laws.specs.Client.{IsClient, IsPayload, KeepsSlot, gives_away}
use Rattle.cqs_rule_laws.specs.Drawn.{TellsCome}
use Rattle.cqs_rule_laws.specs.Exchanges.{IsOwnWait, payload_left, Exchanges, MayExchange, IsCrossing, FoundCell, SinceLast, HasCell, Crossed, CrossedBy, crossed}
use Rattle.cqs_rule_laws.specs.declared.view.Has.{Has}
use Rattle.cqs_rule_laws.specs.Facts.{facts_worked, facts_missed, waits_then, is_owing}
use Rattle.cqs_rule_laws.specs.Kinds.{Carries, gains_own, owes_at_stage, waits_by, opened, closed}
use Rattle.cqs_rule_laws.specs.Hidden.{Hidden, Gains, has_gained, has_after, happened_by, state_in, state_at}
use Rattle.cqs_rule_laws.specs.Inside.{IsInside as InView}
use Rattle.cqs_rule_laws.specs.Layout.{client_words, client_place, words_for, IsIdle}
use Rattle.cqs_rule_laws.specs.Lists as lists
use Rattle.cqs_rule_laws.specs.Manner.{Suits, IsSmart}
use Rattle.cqs_rule_laws.specs.Placed.{KnowsPlace, place_at}
use Rattle.cqs_rule_laws.specs.Settling.{settles_row, settled_then, duties_in}
use Rattle.cqs_slots.proofs.Lists.{changed_else}
use Rattle.cqs_rule_laws.specs.Object.{Object, Primitive}
use Rattle.cqs_rule_laws.specs.Ruled.{Ruled, Knows, Stands, HasRoom, IsSince, HasGoneOn, cell_count, number_at, word_of, word_at, CellsShow, IsFinal}
use Rattle.cqs_rule_laws.specs.Saw.{IsLive}
use Rattle.cqs_rule_laws.specs.Views.{grown}
use Rattle.cqs_rule_laws.proofs.ToRetire.{leaves-same}
use Rattle.cqs_rule_laws.proofs.CellsStand.{CellAt, cell-at, set-cell, place-low}
pub use Rattle.cqs_rule_laws.proofs.WordOf.{shown-injective, word_of-injective}
use Rattle.cqs_rule_laws.proofs.Advance.{Turned}
use Rattle.cqs_rule_laws.proofs.GivenBeside.{aware-none}
use Rattle.cqs_rule_laws.proofs.Cells.{installed-drawn, idle-stands}
use Rattle.cqs_rule_laws.proofs.Lists.{length_without}
use Rattle.cqs_rule_laws.proofs.WordStays.{looks-to, found-so}
use Rattle.cqs_rule_laws.proofs.Comes.{tells-come}
use Rattle.cqs_rule_laws.proofs.Drawing.{draws-cell}
use Rattle.cqs_rule_laws.proofs.Shelves.{keeps-all}
use Rattle.cqs_rule_laws.proofs.Others.{door-keeps}
use Rattle.cqs_slots.proofs.Loads.{later-same}
use Rattle.cqs_rule_laws.proofs.Tells.{Steps, steps, inside-of, suspends-low, resumes-low}
use Rattle.cqs_rule_laws.proofs.Words.{crew-else, counters-else, idle-else, client-above}
use Rattle.cqs_rule_laws.proofs.Duties.{counts-then}
use Rattle.cqs_rule_laws.proofs.Settled.{rank-most, NoTicket, no-ticket-after, KeepsAway, keeps-away, Settled, final-after, finals-on}
use Rattle.cqs_rule_laws.proofs.Over.{over-settled}
use Rattle.cqs_rule_laws.proofs.Outs.{cancelling}
use Rattle.cqs_rule_laws.proofs.Stale.{found-there, stale-fails, false-or-true}
use Rattle.cqs_rule_laws.proofs.Staying.{OthersStay}
use Rattle.cqs_rule_laws.proofs.Worked.{states-final, waits-final, state-else, payload-else, payload-here, state-here, bare-here, left-fits, others-worked, worked-self, gained-fits}

-- no step at a cell leads to the door
no-door : (at : Stage) (k : ℕ) → IsInside at → doing_at at k ≡ doing.Door → ⊥
no-door stage.idle k i e = absurd (cc)
no-door stage.door k i e = i
no-door stage.owes k i e = absurd (cc)
no-door stage.drawn k i e = absurd (cc)
no-door stage.ticket k i e = absurd (cc)
no-door stage.watching k i e = absurd (cc)
no-door stage.leaving k i e = absurd (cc)
no-door (stage.decided on) k i e = absurd (cc)

-- The cell at which the pass p works so at the number k: it is there, and k is the number of a cell.
pub record WorksAt (sync : Bool) (c : Hidden) (cells p k : ℕ) (at : Stage) : Type 0 where
  pub cell : CoreCell
  pub there : slice_get c.queue.cells k ≡ Some cell
  pub may : MayFind sync at cell.state
  pub works : MayWork at p cell
  pub below : k < cells

pub works-at : {sync : Bool} (c : Hidden) (passes limit values p k : ℕ) (at : Stage) (f : Facts)
    → HasRoom passes limit values c
    → IsSoundEither sync c.queue
    → Stands c p f → f.doing ≡ doing_at at k → IsOwnWait at k f → IsAtCell at
    → WorksAt sync c (cell_count passes limit values) p k at
works-at {sync} c passes limit values p k stage.idle f room sound is does own at =
    let w = is.waits k own in record {
      cell = w.cell;
      there = w.there;
      may = idle-stands c.queue sound p k w.cell w.cell.state w.there refl w.installed w.owner
          (is.doing ∙ ap Some does);
      works = record { owner = w.owner; uncollected = w.uncollected };
      below = let drawn = w.drawn in let g = room.ground in omega arith;
    }
works-at {sync} c passes limit values p k stage.door f room sound is does own at = absurd at
works-at {sync} c passes limit values p k stage.owes f room sound is does own at = absurd at
works-at {sync} c passes limit values p k stage.drawn f room sound is does own at =
    let d : slice_get c.queue.doing p ≡ Some (doing.Drawn k) = is.doing ∙ ap Some does in
    let h = has-cell sync c.queue sound p stage.drawn k d tt in
    record {
      cell = h.cell;
      there = h.there;
      may = h.may;
      works = tt;
      below = inside-of passes limit values c p (doing.Drawn k) room sound d;
    }
works-at {sync} c passes limit values p k stage.ticket f room sound is does own at =
    let d : slice_get c.queue.doing p ≡ Some (doing.Ticket k) = is.doing ∙ ap Some does in
    let h = has-cell sync c.queue sound p stage.ticket k d tt in
    record {
      cell = h.cell;
      there = h.there;
      may = h.may;
      works = tt;
      below = inside-of passes limit values c p (doing.Ticket k) room sound d;
    }
works-at {sync} c passes limit values p k stage.watching f room sound is does own at =
    let d : slice_get c.queue.doing p ≡ Some (doing.Watching k) = is.doing ∙ ap Some does in
    let h = has-cell sync c.queue sound p stage.watching k d tt in
    record {
      cell = h.cell;
      there = h.there;
      may = h.may;
      works = tt;
      below = inside-of passes limit values c p (doing.Watching k) room sound d;
    }
works-at {sync} c passes limit values p k stage.leaving f room sound is does own at =
    let d : slice_get c.queue.doing p ≡ Some (doing.Leaving k) = is.doing ∙ ap Some does in
    let h = has-cell sync c.queue sound p stage.leaving k d tt in
    record {
      cell = h.cell;
      there = h.there;
      may = h.may;
      works = tt;
      below = inside-of passes limit values c p (doing.Leaving k) room sound d;
    }
works-at {sync} c passes limit values p k (stage.decided on) f room sound is does own at =
    let d : slice_get c.queue.doing p ≡ Some (doing.Decided k on) = is.doing ∙ ap Some does in
    let h = has-cell sync c.queue sound p (stage.decided on) k d tt in
    record {
      cell = h.cell;
      there = h.there;
      may = h.may;
      works = tt;
      below = inside-of passes limit values c p (doing.Decided k on) room sound d;
    }

-- what a cell has now, since the pass's last glimpse
pub since-last : (c : Hidden) (k : ℕ) (last : Option Glimpse) → IsSince c last
    → SinceLast (record { number = k; state = state_at c.queue k; payload = c.payloads k }) last
since-last c k None since = tt
since-last c k (Some g) since = record {
  since = λ same. subst (λ z. HasGoneOn (state_at c.queue z) (c.payloads z) g) (sym same) since;
}

-- the payload that a step tells fits a cell
told-fits : (gain : Gain) (there owed : ℕ) → there < 2 ^ 20 → owed < 2 ^ 20 → payload_told gain there owed < 2 ^ 20
told-fits nothing there owed p q = q
told-fits its_own there owed p q = p
told-fits a_debt there owed p q = p

-- what the pass counts after a step at a cell
gained-held : (gains : Gains) (gain : Gain) (payload : ℕ) (h : Has)
    → (has_gained gains gain payload h).held ≡ (if gains_own gain then gains.held h.held else h.held)
gained-held gains nothing payload h = refl
gained-held gains its_own payload h = refl
gained-held gains a_debt payload h = refl

gained-further : (gains : Gains) (gain : Gain) (payload : ℕ) (h : Has)
    → (has_gained gains gain payload h).further ≡ h.further
gained-further gains nothing payload h = refl
gained-further gains its_own payload h = refl
gained-further gains a_debt payload h = refl

stage-owes : (at : Stage) (k : ℕ) → is_owing (doing_at at k) ≡ owes_at_stage at
stage-owes stage.idle k = refl
stage-owes stage.door k = refl
stage-owes stage.owes k = refl
stage-owes stage.drawn k = refl
stage-owes stage.ticket k = refl
stage-owes stage.watching k = refl
stage-owes stage.leaving k = refl
stage-owes (stage.decided on) k = refl

-- the wait that a step closes is one of the pass's
pub closes-own : {sync : Bool} (c : Hidden) (p k : ℕ) (row : CellRow) (found : CoreCell) (f : Facts) → IsCellRow row
    → IsSoundEither sync c.queue
    → Stands c p f
    → IsOpenRow c.queue (at_cell row) p k (Some found) → row.wait ≡ wait_closes → lists.Has k f.waits
closes-own {sync} c p k row found f is sound at opens closing =
    let turn = turns sync c.queue sound p k row found is opens in
    let own : IsOwnChange wait_closes row.works_at = subst (λ z. IsOwnChange z row.works_at) closing is.own_change in
    let tells : TellsWait wait_closes found (cell_after row found) =
    subst (λ z. TellsWait z found (cell_after row found)) closing turn.wait in
    at.all_waits k (record {
      cell = found;
      there = opens.0.finds;
      owner = turn.owner own;
      drawn = installed-drawn c.queue sound k found found.state opens.0.finds refl tells.0.installed;
      uncollected = tells.0.uncollected;
      installed = tells.0.installed;
    })

pub worked-carries : (gains : Gains) (row : CellRow) (k n payload : ℕ) (f : Facts) → lists.IsDistinct f.waits
    → (row.wait ≡ wait_closes → lists.Has k f.waits)
    → Carries gains.held (at_cell row) f (facts_worked gains row k n payload f)
worked-carries gains row k n payload f once own = record {
  held = gained-held gains row.gain payload f.has;
  owes = stage-owes row.goes_to k;
  waits = by row.wait own;
  further = gained-further gains row.gain payload f.has;
  spares = refl;
  open_slot = refl;
}
  where
    by : (w : WaitChange) → (w ≡ wait_closes → lists.Has k f.waits)
        → length (waits_then w k f.waits) + closed (waits_by w) ≡ length f.waits + opened (waits_by w)
    by wait_stays own = refl
    by wait_opens own = let e = length-append f.waits (k ∷ []) in omega arith
    by wait_closes own = let e = length_without k f.waits once (own refl) in omega arith

module _ {E S : Type 0} (object : Object E) (primitive : Primitive E S) (passes limit : ℕ)
    (client : IsClient object primitive) where
  -- what a pass finds that works at the number k: its cell's word, or that of a later number where the cell is
  -- cancelled
  -- and its segment gone
  pub seen-word : (s : State (Option S) (View E S)) (r : Ruled object primitive passes limit s) (id : ℕ) (v : View E S)
      (k word : ℕ) (at : Stage) → get_elem? s.views id ≡ some v → IsAtCell at
      → IsSoundEither primitive.manner.watches r.hidden.queue
      → WorksAt primitive.manner.watches r.hidden (cell_count passes limit primitive.values) v.number k at
      → Stands r.hidden v.number v.facts
      → v.facts.doing ≡ doing_at at k → IsOwnWait at k v.facts → KnowsPlace v (place_at word k)
      → (slice_index s.words word ≡ word_at r.hidden k)
      ⊎ ((state_at r.hidden.queue k ≡ state.Cancelled) × IsSmart primitive.manner.leaving
      × (k < index_in (slice_index s.words word)))
  seen-word s r id v k word at here is sound stood stands does own place = ⊎_elim
      (λ (yet : r.settled k ≡ false). inl (cell-at r.segments r.hidden r.slots s.words
      r.settled (duties_in (λ (z : View E S). z.facts.duties) s.views) v k word r.cells r.counted
      (r.each_segment id v here).seen yet place).shows)
      (λ (done : r.settled k ≡ true).
      let final = r.finals k done in
      let there = found-there r.segments r.hidden r.slots s.words r.settled
      (duties_in (λ (z : View E S). z.facts.duties) s.views) v k word r.cells r.counted (r.each_segment id v here).seen
      (λ j q. (r.finals j q).final) place in
      let more = there.1 in
      dite (ℕ_discrete (index_in (slice_index s.words word)) k)
      (λ (e : index_in (slice_index s.words word) ≡ k). inl (there.0 e))
      (λ (a : index_in (slice_index s.words word) ≢ k). let t = ticket at final is stood.may does own in inr
      (t.0, t.1, omega arith)))
      (false-or-true (r.settled k))
    where
      rank-is : IsFinal (IsSmart primitive.manner.leaving) r.hidden.queue k → rank stood.cell.state ≡ 4
      rank-is f = sym (ap rank (ap state_in stood.there)) ∙ f.final

      ticket : (a : Stage) → IsFinal (IsSmart primitive.manner.leaving) r.hidden.queue k → IsAtCell a
          → MayFind primitive.manner.watches a stood.cell.state → v.facts.doing ≡ doing_at a k → IsOwnWait a k v.facts
          → (state_at r.hidden.queue k ≡ state.Cancelled) × IsSmart primitive.manner.leaving
      ticket stage.idle f i m d o = absurd (f.unwaited v.number (stands.waits k o))
      ticket stage.door f i m d o = absurd i
      ticket stage.owes f i m d o = absurd i
      ticket stage.drawn f i m d o = absurd (f.come v.number (stands.doing ∙ ap Some d))
      ticket stage.watching f i m d o = absurd (f.unwatched v.number (stands.doing ∙ ap Some d))
      ticket stage.ticket f i m d o = f.met v.number (stands.doing ∙ ap Some d)
      ticket stage.leaving f i m d o = absurd (cancelling stood.cell.state m (rank-is f))
      ticket (stage.decided on) f i m d o = absurd (cancelling stood.cell.state m (rank-is f))

  -- what such a step leaves of the cells, where its own stands at the word, and is written as the row says
  cells-worked : (s : State (Option S) (View E S)) (r : Ruled object primitive passes limit s) (p k word x payload : ℕ)
      (row : CellRow) (found : CoreCell) (has : Has) (is : IsCellRow row)
      (sound : IsSoundEither primitive.manner.watches r.hidden.queue)
      (opens : IsOpenRow r.hidden.queue (at_cell row) p k (Some found)) → payload < 2 ^ 20
      → CellAt r.segments r.hidden s.words k word
      → x ≡ word_of k
      (state_at (happened_by object.gains r.hidden (at_cell row) p k (Some found) has payload).queue k)
      ((happened_by object.gains r.hidden (at_cell row) p k (Some found) has payload).payloads k)
      → CellsShow r.segments (happened_by object.gains r.hidden (at_cell row) p k (Some found) has payload)
      r.slots (slice_set s.words word x)
  cells-worked s r p k word x payload row found has is sound opens fits stands written =
      let c = r.hidden in
      let d = happened_by object.gains c (at_cell row) p k (Some found) has payload in
      set-cell r.segments c d r.slots s.words k word x r.cells stands
      (state-else object.gains c p k row found has payload is sound opens)
      (payload-else object.gains c p k row found has payload is sound opens) written
      (subst (λ z. z < 2 ^ 20) (sym (payload-here object.gains c p k row found has payload is sound opens))
      (left-fits row.brings payload (c.payloads k) fits (r.cells.fits k)))
      (bare-here object.gains c p k row found has payload is sound opens r.cells.bare)

  -- what is settled after a step of this row at the number k is final
  works-finals : (c : Hidden) (settled : ℕ → Bool) (st : QueueStep) (row : CellRow) (p k payload : ℕ) (found : CoreCell)
      (has : Has) (f g : Facts) (is : row_of st ≡ at_cell row) (row_is : IsCellRow row)
      (sound : IsSoundEither primitive.manner.watches c.queue)
      (opens : IsOpenRow c.queue (at_cell row) p k (Some found)) → Suits primitive.manner st
      → OthersStay c (happened_by object.gains c (at_cell row) p k (Some found) has payload) p → Stands c p f
      → Stands (happened_by object.gains c (at_cell row) p k (Some found) has payload) p g
      → g.waits ≡ waits_then row.wait k f.waits → g.doing ≡ doing_at row.goes_to k
      → ((j : ℕ) → settled j ≡ true → IsFinal (IsSmart primitive.manner.leaving) c.queue j)
      → (b : Bool) → settles_row row ≡ b → (j : ℕ) → settled_then b settled k j ≡ true
      → IsFinal (IsSmart primitive.manner.leaving)
      (happened_by object.gains c (at_cell row) p k (Some found) has payload).queue j
  works-finals c settled st row p k payload found has f g is row_is sound opens suits others before after waits goes
      old b e = by b e
    where
      d : Hidden
      d = happened_by object.gains c (at_cell row) p k (Some found) has payload

      away : KeepsAway (at_cell row)
      away = subst (λ (z : StepRow). KeepsAway z) is (keeps-away st)

      -- what the pass watches then it watched before, or the cell wasn't final
      watched : (j : ℕ) → (j ≡ k) × ((doing_at row.works_at k ≡ doing.Watching k) ⊎ (rank row.finds < 4))
          → (f.doing ≡ doing.Watching j) ⊎ (rank (state_at c.queue j) < 4)
      watched j (same, inl was) = inl (same_Some f.doing (doing.Watching j)
          (sym before.doing ∙ (opens.0.does ∙ ap Some (was ∙ ap doing.Watching (sym same)))))
      watched j (same, inr low) = inr (subst (λ z. rank z < 4)
          (sym (ap (state_at c.queue) same ∙ (ap state_in opens.0.finds ∙ opens.0.at))) low)

      stay : (j : ℕ) → settled j ≡ true → IsFinal (IsSmart primitive.manner.leaving)
          (happened_by object.gains c (at_cell row) p k (Some found) has payload).queue j
      stay = finals-on (IsSmart primitive.manner.leaving) c
          (happened_by object.gains c (at_cell row) p k (Some found) has payload) p settled f g others before after
          (states-final object.gains c p k row found has payload row_is sound opens)
          (λ j high h. waits-final object.gains c p k row found has payload row_is sound opens f j high
          (subst (lists.Has j) waits h))
          (λ j q. absurd (subst (λ (z : StepRow). NoTicket z) is (no-ticket-after st) k j (sym goes ∙ q)))
          (λ j q. absurd (away.0 k j (sym goes ∙ q)))
          (λ j q. watched j (away.1 k j (sym goes ∙ q)))
          (omega arith) (omega arith) old

      by : (b : Bool) → settles_row row ≡ b → (j : ℕ) → settled_then b settled k j ≡ true
          → IsFinal (IsSmart primitive.manner.leaving)
          (happened_by object.gains c (at_cell row) p k (Some found) has payload).queue j
      by false e j yet = stay j yet
      by true e j yet = dite (ℕ_discrete j k)
          (λ (q : j ≡ k). subst (IsFinal (IsSmart primitive.manner.leaving)
          (happened_by object.gains c (at_cell row) p k (Some found) has payload).queue) (sym q)
          (subst (λ (z : StepRow). Settled primitive.manner c.queue p k found sound z) is
          (final-after primitive.manner c.queue p k found sound st suits) opens e))
          (λ (a : j ≢ k). stay j (sym (changed_else settled k true j a) ∙ yet))

  -- A step of this row is made at the cell of the number k, at this word: the words show the cells as the step leaves
  -- them.
  pub works : (s : State (Option S) (View E S)) (r : Ruled object primitive passes limit s) (id : ℕ)
      (me : Me (Option S) (View E S)) (st : QueueStep) (row : CellRow) (k word x payload : ℕ) (found : CoreCell)
      → row_of st ≡ at_cell row → get_elem? s.views id ≡ some me.0 → me.0.weight ≡ 1 → Suits primitive.manner st
      → IsOpenRow r.hidden.queue (at_cell row) me.0.number k (Some found) → client_place 3 < word
      → ((j : ℕ) → IsIdle j → j ≢ word) → (settles_row row ≡ true → r.settled k ≡ false)
      → payload ≡ payload_told row.gain (r.hidden.payloads k) me.0.facts.has.payload
      → CellsShow r.segments (happened_by object.gains r.hidden (at_cell row) me.0.number k
      (Some found) me.0.facts.has payload) r.slots (slice_set s.words word x)
      → Steps object primitive passes limit client s id me word x (object.entries st me.0.number k payload)
      (facts_worked object.gains row k (slice_index s.words word) payload me.0.facts)
      (grown me.0 (facts_worked object.gains row k (slice_index s.words word) payload me.0.facts)
      (r.log ++ object.entries st me.0.number k payload) r.handed)
  works s r id me st row k word x payload found is here one suits opens above busy yet told cells-then =
      let v = me.0 in let p = v.number in let f = v.facts in let c = r.hidden in
      let known = r.each_view id v here (omega arith) in
      let at = known.stands in
      let n = slice_index s.words word in
      let cells = cell_count passes limit primitive.values in
      let row_is : IsCellRow row = row-of st row is in
      let sound : IsSoundEither primitive.manner.watches c.queue =
      client.sound c (client_words s.words) r.log r.handed r.shown in
      let d = happened_by object.gains c (at_cell row) p k (Some found) f.has payload in
      let es = object.entries st p k payload in
      let fits : payload < 2 ^ 20 = subst (λ z. z < 2 ^ 20) (sym told)
      (told-fits row.gain (c.payloads k) f.has.payload (r.cells.fits k) known.payload_fits) in
      let by : primitive.shows (happened_by object.gains c (row_of st) p k (Some found) f.has payload)
      (client_words s.words) (r.log ++ es) r.handed =
      client.steps c st p k (Some found) f.has payload (client_words s.words) r.log r.handed r.shown
      (subst (λ z. IsOpenRow c.queue z p k (Some found)) (sym is) opens) at.has
      (subst (λ z. IsPayload z f.has (c.payloads k) payload) (sym is) told) suits
      (let l = suspends-low passes limit primitive.values c r.room in omega arith)
      (let l = resumes-low passes limit primitive.values c r.room in omega arith) in
      let now : primitive.shows d (client_words s.words) (r.log ++ es) r.handed =
      subst (λ z. primitive.shows (happened_by object.gains c z p k (Some found) f.has payload) (client_words s.words)
      (r.log ++ es) r.handed) is by in
      let safe : IsSoundEither primitive.manner.watches d.queue =
      client.sound d (client_words s.words) (r.log ++ es) r.handed now in
      let others = others-worked object.gains c p k row found f.has payload row_is sound opens safe in
      let turned : Turned object primitive passes limit s r v word x d es
      (facts_worked object.gains row k n payload f) = record {
        crew = crew-else s.words word x (omega arith);
        counters = counters-else c.queue d.queue s.words word x (omega arith) refl refl r.counters;
        cells = cells-then;
        idle_words = idle-else s.words word x busy r.idle_words;
        room = record {
          few_passes = r.room.few_passes;
          low_limit = r.room.low_limit;
          few_values = r.room.few_values;
          doing = length-set c.queue.doing p (doing_at row.goes_to k) ∙ r.room.doing;
          has = length-set c.has p _ ∙ r.room.has;
          may_draw = r.room.may_draw;
          ground = r.room.ground;
          resumes = r.room.resumes;
        };
        door = door-keeps c d p r.door others.doing (λ m a. refl)
            (λ q. absurd (no-door row.goes_to k row_is.inside
            (same_Some (doing_at row.goes_to k) doing.Door
            (sym (get-set_here c.queue.doing p f.doing (doing_at row.goes_to k) at.doing) ∙ q))));
        shown = subst (λ (ws : List ℕ). primitive.shows d ws (r.log ++ es) r.handed)
            (sym (client-above s.words word x above)) now;
        others = others;
        self = worked-self object.gains c p k row found f.has payload row_is sound opens n f refl at safe;
        silent = client.silent st p k payload;
        payload_fits = gained-fits object.gains row.gain payload f.has fits known.payload_fits;
        slots = keeps-all primitive.opens v (facts_worked object.gains row k n payload f) refl
            (λ j o. subst (λ z. primitive.opens (has_after object.gains z payload f.has) j) is
            (client.slots.steps st f.has payload j suits (subst (λ z. KeepsSlot z payload j) (sym is) tt) o));
        draws = ap (λ m. c.queue.resumes + m) (sym (draws-cell f.found k n));
        given = λ j low. client.slots.gives st p k payload j suits ∙ ap (λ z. gives_away z payload j) is;
        aware = aware-none object primitive passes limit s p r.log es
            (λ j low. client.slots.gives st p k payload j suits ∙ ap (λ z. gives_away z payload j) is);
        now = r.segments;
        later = later-same r.segments;
        settles = settled_then (settles_row row) r.settled k;
        counts = λ q. counts-then (settles_row row) r.settled k (r.segments.counted q) q f.duties yet;
        finals = works-finals c r.settled st row p k payload found f.has f (facts_worked object.gains row k n payload f)
            is row_is sound opens suits others at
            (worked-self object.gains c p k row found f.has payload row_is sound opens n f refl at safe) refl refl
            r.finals
            (settles_row row) refl;
        over = over-settled primitive.manner c.queue p k found sound r.settled st row is suits opens
            (state-else object.gains c p k row found f.has payload row_is sound opens) r.all_settled (settles_row row)
            refl;
        same_slots = λ y. refl;
        same_spares = refl;
        leaves = leaves-same r.segments _;
      } in
      steps object primitive passes limit client s r id me word x d es
      (facts_worked object.gains row k n payload f) here one turned

  -- an exchange of this row
  crosses : {C : Type 0} (all : C → Primitive E S) (y : C) → all y ≡ primitive
      → (slots id : ℕ) (me : Me (Option S) (View E S))
      (st : QueueStep) (row : CellRow) (k word expected new : ℕ) → row_of st ≡ at_cell row → me.0.weight ≡ 1
      → Suits primitive.manner st → Exchanges row me.0 k word expected new
      → (s : State (Option S) (View E S)) → Ruled object primitive passes limit s → length s.homes ≡ slots
      → get_elem? s.views id ≡ some me.0 → slice_index s.words word < 18446744073709551616
      → (w : View E S) × (a : Act (Option S)) × Valid s.homes me.1 a
      × Ruled object primitive passes limit (stepped s word
      (either (eqb (slice_index s.words word) expected) new (slice_index s.words word)) id me.1 w a)
      × (Crossed object all st row k expected me.0 (slice_index s.words word) w × (carried_after me.1 a ≡ me.1)
      × IsLive object w × (slice_index s.words word ≡ expected
      → Carries object.gains.held (at_cell row) me.0.facts w.facts))
  crosses all y all_is slots id me st row k word expected new is one suits x s r _ here small =
      dite (ℕ_discrete n expected)
      (λ e. subst T (sym (eq-eqb n expected e))
      (let lower : rank row.finds < rank x.state =
      (subst (λ z. RowGoesOn row.finds z row.brings) x.makes row_is.goes_on).0 in
      let most = rank-most x.state in
      let there = stale-fails r.segments c r.slots s.words r.settled
      (duties_in (λ (z : View E S). z.facts.duties) s.views) v k word r.cells r.counted (r.each_segment id v here).seen
      (λ j is. (r.finals j is).final) x.place row.finds x.payload x.payload_fits (omega arith) (e ∙ x.expects) in
      let stands = there.3 in
      let at_is : stood.cell.state ≡ row.finds = ap state_in (sym stood.there) ∙ there.1 in
      let opens : IsOpenRow c.queue (at_cell row) p k (Some stood.cell) =
      (record { does = at.doing ∙ ap Some x.works; finds = stood.there; at = at_is }, stood.works) in
      let writes : new ≡ word_of k
      (state_at (happened_by object.gains c (at_cell row) p k (Some stood.cell) f.has pay).queue k)
      ((happened_by object.gains c (at_cell row) p k (Some stood.cell) f.has pay).payloads k) =
      x.writes ∙ (λ i. word_of k
      (sym (state-here object.gains c p k row stood.cell f.has pay row_is sound opens
      ∙ ap (λ (z : Option CoreState). state_made z stood.cell.state) x.makes) i)
      ((ap (λ z. payload_left row.brings (payload_told row.gain z f.has.payload) z) (sym there.2)
      ∙ sym (payload-here object.gains c p k row stood.cell f.has pay row_is sound opens)) i)) in
      let fits : pay < 2 ^ 20 =
      told-fits row.gain (c.payloads k) f.has.payload (r.cells.fits k) known.payload_fits in
      let done = works s r id me st row k word new pay stood.cell is here one suits opens stands.above stands.busy
      (λ _. there.0) refl (cells-worked s r p k word new pay row stood.cell f.has row_is sound opens fits stands writes)
      in
      let es = object.entries st p k pay in (
        grown v (facts_worked object.gains row k n pay f) (r.log ++ es) r.handed,
        keeps,
        tt,
        done.0,
        (
          record {
            found = g;
            number = refl;
            cell = cell;
            may = may;
            since = since;
            come = come;
            entries = es;
            was = found-so object primitive passes limit client all y all_is s r
                (grown v (facts_worked object.gains row k n pay f) (r.log ++ es) r.handed)
                (HasCell g) es known.opening_is refl
                (refl, refl);
            made = λ _. (done.1, refl);
            missed = λ a. absurd (a e);
          },
          refl,
          done.2,
          λ _. worked-carries object.gains row k n pay f at.once
              (closes-own c p k row stood.cell f row_is sound at opens),
        ),
      )))
      (λ a. subst T (sym (ne_eqb n expected a))
      (let facts = facts_missed n g f in
      let done = looks-to object primitive passes limit client s r id me word facts here one
      (record {
        doing = at.doing;
        has = at.has;
        may_draw = at.may_draw;
        waits = at.waits;
        all_waits = at.all_waits;
        once = at.once;
        last = inl (refl, refl);
        behind = record { reached = at.behind.reached; passed = at.behind.passed };
      }) known.payload_fits (keeps-all primitive.opens v facts refl (λ j o. o)) (draws-cell f.found k n) refl refl refl
      in (
        grown v facts (r.log ++ []) r.handed,
        keeps,
        tt,
        done.0,
        (
          record {
            found = g;
            number = refl;
            cell = cell;
            may = may;
            since = since;
            come = come;
            entries = [];
            was = found-so object primitive passes limit client all y all_is s r (grown v facts (r.log ++ []) r.handed)
                (HasCell g) []
                known.opening_is refl (refl, refl);
            made = λ e. absurd (a e);
            missed = λ _. (done.1, refl);
          },
          refl,
          done.2,
          λ e. absurd (a e),
        ),
      )))
    where
      v : View E S
      v = me.0

      p : ℕ
      p = v.number

      f : Facts
      f = v.facts

      c : Hidden
      c = r.hidden

      n : ℕ
      n = slice_index s.words word

      known : Knows object c r.log r.handed r.made r.live passes limit
          (cell_count passes limit primitive.values) primitive.opening v
      known = r.each_view id v here (omega arith)

      at : Stands c p f
      at = known.stands

      row_is : IsCellRow row
      row_is = row-of st row is

      sound : IsSoundEither primitive.manner.watches c.queue
      sound = client.sound c (client_words s.words) r.log r.handed r.shown

      stood : WorksAt primitive.manner.watches c (cell_count passes limit primitive.values) p k row.works_at
      stood = works-at c passes limit primitive.values p k row.works_at f r.room sound at x.works x.own row_is.at

      g : Glimpse
      g = record { number = k; state = state_at c.queue k; payload = c.payloads k }

      pay : ℕ
      pay = payload_told row.gain (c.payloads k) f.has.payload

      cell : FoundCell n g
      cell = record {
        word = ⊎_elim inl (λ t. inr (t.0, t.2))
            (seen-word s r id v k word row.works_at here row_is.at sound stood at x.works x.own x.place);
        number = let low = stood.below in let l = r.room.low_limit in let q = r.room.few_passes in let u =
            r.room.few_values in omega arith;
        fits = r.cells.fits k;
        bare = r.cells.bare k;
      }

      may : MayFind v.opening.sync row.works_at g.state
      may = subst (λ b. MayFind b row.works_at g.state)
          (sym (ap (λ (o : Opening). o.sync) known.opening_is ∙ client.sync))
          (subst (MayFind primitive.manner.watches row.works_at) (ap state_in (sym stood.there)) stood.may)

      since : SinceLast g f.last
      since = since-last c k f.last at.last

      come : TellsCome v k g.state
      come = tells-come object primitive passes limit client s r id v k here one

      T : Bool → Type 0
      T b = (w : View E S) × (a : Act (Option S)) × Valid s.homes me.1 a
          × Ruled object primitive passes limit (stepped s word (either b new n) id me.1 w a)
          × (Crossed object all st row k expected v n w × (carried_after me.1 a ≡ me.1) × IsLive object w
          × (n ≡ expected → Carries object.gains.held (at_cell row) f w.facts))

  -- an exchange on a cell
  pub cross : {C : Type 0} (all : C → Primitive E S) (y : C) → all y ≡ primitive
      → (slots id : ℕ) (me : Me (Option S) (View E S))
      (st : QueueStep) (word expected new : ℕ) → me.0.weight ≡ 1 → Suits primitive.manner st
      → IsCrossing st me.0 word expected new
      → Allows (Ruled object primitive passes limit) slots id me word (λ n. either (eqb n expected) new n)
      (crossed object all st (step slots word expected new none) me)
  cross all y all_is slots id me st word expected new one suits x = by (row_of st) refl x
    where
      by : (row : StepRow) → row_of st ≡ row → MayExchange row me.0 (index_in expected) word expected new
          → Allows (Ruled object primitive passes limit) slots id me word (λ n. either (eqb n expected) new n)
          (λ n me'. CrossedBy object all st row (index_in expected) expected me.0 n me'.0 × (me'.1 ≡ me.1)
          × IsLive object me'.0 × (n ≡ expected → Carries object.gains.held row me.0.facts me'.0.facts))
      by (at_counter row) is x = absurd x
      by (at_cell row) is x = crosses all y all_is slots id me st row
          (index_in expected) word expected new is one suits x

-- the word of an exchange is one of the table's
pub crossing-low : {E S : Type 0} (st : QueueStep) (v : View E S) (word expected new : ℕ) → InView v
    → IsCrossing st v word expected new
    → word < words_for v.slots
crossing-low {E} {S} st v word expected new inside x = by (row_of st) (rows st) x
  where
    number : (at : Stage) (k : ℕ) → IsAtCell at → v.facts.doing ≡ doing_at at k → IsOwnWait at k v.facts → k < v.cells
    number stage.idle k at does own = inside.waits k own
    number stage.door k at does own = absurd at
    number stage.owes k at does own = absurd at
    number stage.drawn k at does own = subst (λ d. number_at d < v.cells) does inside.number
    number stage.ticket k at does own = subst (λ d. number_at d < v.cells) does inside.number
    number stage.watching k at does own = subst (λ d. number_at d < v.cells) does inside.number
    number stage.leaving k at does own = subst (λ d. number_at d < v.cells) does inside.number
    number (stage.decided on) k at does own = subst (λ d. number_at d < v.cells) does inside.number

    by : (row : StepRow) → IsRow row → MayExchange row v (index_in expected) word expected new
        → word < words_for v.slots
    by (at_counter row) is x = absurd x
    by (at_cell row) is x =
        place-low v (index_in expected) word x.place
