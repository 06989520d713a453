-- What a suspend of a synchronous queue finds where its exchanges miss: the cell is broken at last.
use Rattle.std.proofs.Common.{◌≡◌, ◌≢◌, ℕ, ◌<◌, ◌≤◌, true, Some, refl, sym, ap, ◌∙◌, subst, ⊎_elim, arith}
use Rattle.cqs_core.specs.declared.cells.CoreState.{CoreState}
use Rattle.cqs_core.specs.declared.cells.CoreState.TheVariants as state
use Rattle.cqs_core.specs.QueueCells.{rank}
use Rattle.cqs_core.specs.QueueStages.{IsUnmet, MayMeet}
use Rattle.cqs_core.specs.QueueSteps.{row_of, installs, in_sync, takes_watched, finds_broken}
use Rattle.cqs_words.specs.declared.cell.CellState.{CellState}
use Rattle.cqs_words.specs.declared.cell.CellState.TheVariants as shown
use Rattle.cqs_words.specs.declared.cell.CellWord.{CellWord}
use Rattle.cqs_rule_laws.specs.declared.client.ClientWords.{Ghosts}
use Rattle.cqs_rule_laws.specs.declared.view.Facts.{Facts}
use Rattle.cqs_rule_laws.specs.declared.view.Opening.{Opening}
use Rattle.cqs_rule_laws.specs.declared.view.View.{View}
use Rattle.cqs_rule_laws.specs.Causes.{cell_of}
use Rattle.cqs_rule_laws.specs.Client.{IsClient}
use Rattle.cqs_rule_laws.specs.Exchanges.{SinceLast, IsFoundSince}
use Rattle.cqs_rule_laws.specs.Loads.{finds}
use Rattle.cqs_rule_laws.specs.Object.{Object, Primitive}
use Rattle.cqs_rule_laws.specs.Ruled.{shown_state}
use Rattle.cqs_rule_laws.proofs.CellSteps.{shown-injective}
use Rattle.cqs_rule_laws.proofs.Settled.{rank-most}
use Rattle.cqs_rule.specs.declared.queue.Pass.{Pass}
use Rattle.cqs_rule.specs.declared.queue.Queue.{Queue}
use Rattle.cqs_rule.specs.Passes.{client_of, pass_view, IsOf}
use Rattle.cqs_cell.specs.Looks.{LooksAt}
use Rattle.cqs_cell.specs.Transitions.{MissedBy, MissedCellBy}
use Rattle.cqs_cell.proofs.Worked.{WorkedBy, worked-looked}
use Rattle.cqs_suspend.specs.SyncSuspends.{IsBrokenLast}

-- a cell that its suspend is still to meet, and that isn't empty, has been filled
filled : (x : CoreState) → IsUnmet x → x ≢ state.Empty → 1 ≤ rank x
filled state.Empty may other = absurd (other refl)
filled state.Value may other = omega arith
filled state.Broken may other = omega arith
filled state.Waiter may other = absurd may
filled state.Taken may other = absurd may
filled state.Resumed may other = absurd may
filled state.Cancelling may other = absurd may
filled state.Delegated may other = absurd may
filled state.Cancelled may other = absurd may
filled state.Refused may other = absurd may

-- and is broken, if it has no value
broken-then : (x : CoreState) → IsUnmet x → 1 ≤ rank x → x ≢ state.Value → x ≡ state.Broken
broken-then state.Broken may high other = refl
broken-then state.Value may high other = absurd (other refl)
broken-then state.Empty may high other = absurd (omega arith)
broken-then state.Waiter may high other = absurd may
broken-then state.Taken may high other = absurd may
broken-then state.Resumed may high other = absurd may
broken-then state.Cancelling may high other = absurd may
broken-then state.Delegated may high other = absurd may
broken-then state.Cancelled may high other = absurd may
broken-then state.Refused may high other = absurd may

-- what is above a value is broken
broken-above : (x : CoreState) → IsUnmet x → 1 < rank x → x ≡ state.Broken
broken-above x may high = broken-then x may (omega arith) (λ value.
    let is : rank x ≡ 1 = ap rank value in absurd (omega arith))

module _ {C E S : Type 0} (object : Object E) (primitive : C → Primitive E S) where
  -- The exchange that wanted an empty cell missed, and so did one that wanted a value with this payload.
  module _ (k payload : ℕ) (first : CellState) (cell : CellWord) (v u w : View E S) (sync : v.opening.sync ≡ true)
      (m : MissedBy object primitive (row_of installs) k v first u)
      (n : MissedCellBy object primitive (row_of (in_sync takes_watched)) k payload u cell w) where
    unmet-next : IsUnmet n.missed.glimpse.state
    unmet-next = subst (λ b. MayMeet b n.missed.glimpse.state)
        (ap (λ (o : Opening). o.sync) m.saw.same.opening ∙ sync) n.missed.may

    filled-next : 1 ≤ rank n.missed.glimpse.state
    filled-next =
        let since : IsFoundSince n.missed.glimpse m.glimpse =
        subst (SinceLast n.missed.glimpse) (ap (λ (f : Facts). f.last) m.saw.facts_are) n.missed.since in
        let high : 1 ≤ rank m.glimpse.state =
        filled m.glimpse.state (subst (λ b. MayMeet b m.glimpse.state) sync m.may) (m.other tt) in
        ⊎_elim
        (λ (same : (n.missed.glimpse.state ≡ m.glimpse.state) × (n.missed.glimpse.payload ≡ m.glimpse.payload)).
        let is : rank n.missed.glimpse.state ≡ rank m.glimpse.state = ap rank same.0 in omega arith)
        (λ (more : rank m.glimpse.state < rank n.missed.glimpse.state). omega arith)
        (since.since (n.missed.number ∙ sym m.number))

    -- where there was no value at all, it was broken
    pub broken-next : cell.state ≢ shown.Value → IsBrokenLast k w.facts.last
    broken-next other =
        let is = broken-then n.missed.glimpse.state unmet-next filled-next
        (λ value. other (sym n.missed.state_is ∙ ap shown_state value)) in (
          n.missed.glimpse.payload,
          ap (λ (f : Facts). f.last) n.missed.saw.facts_are
              ∙ (λ i. Some (cell_of (n.missed.number i) (is i) n.missed.glimpse.payload)),
        )

  -- A value was found with this payload, and an exchange that wanted that missed: it was broken.
  pub broken-since : (k left : ℕ) (cell : CellWord) (v w : View E S) → v.opening.sync ≡ true
      → v.facts.last ≡ Some (cell_of k state.Value left)
      → MissedCellBy object primitive (row_of (in_sync takes_watched)) k left v cell w → IsBrokenLast k w.facts.last
  broken-since k left cell v w sync last n =
      let since : IsFoundSince n.missed.glimpse (cell_of k state.Value left) =
      subst (SinceLast n.missed.glimpse) last n.missed.since in
      let high : 1 < rank n.missed.glimpse.state = ⊎_elim
      (λ (same : (n.missed.glimpse.state ≡ state.Value) × (n.missed.glimpse.payload ≡ left)). absurd
      (n.other same.0 same.1))
      (λ (more : 1 < rank n.missed.glimpse.state). more)
      (since.since n.missed.number) in
      let is = broken-above n.missed.glimpse.state
      (subst (λ b. MayMeet b n.missed.glimpse.state) sync n.missed.may) high in (
        n.missed.glimpse.payload,
        ap (λ (f : Facts). f.last) n.missed.saw.facts_are
            ∙ (λ i. Some (cell_of (n.missed.number i) (is i) n.missed.glimpse.payload)),
      )

  -- a look at a cell that was found broken finds it broken
  pub looks-broken : (k : ℕ) (cell : CellWord) (v w : View E S) → IsBrokenLast k v.facts.last
      → LooksAt object primitive finds k v cell w → cell.state ≢ shown.Broken → ⊥
  looks-broken k cell v w last l other =
      let g = l.looked.glimpse in
      let since : IsFoundSince g (cell_of k state.Broken last.0) = subst (SinceLast g) last.1 l.looked.since in
      let most = rank-most g.state in
      ⊎_elim
      (λ (same : (g.state ≡ state.Broken) × (g.payload ≡ last.0)). other (sym l.shows.state ∙ ap shown_state same.0))
      (λ (more : 4 < rank g.state). absurd (omega arith))
      (since.since l.looked.number)

  -- the look that found it so is the call's last step
  pub worked-broken : (k : ℕ) (cell : CellWord) (v w : View E S) → (l : LooksAt object primitive finds k v cell w)
      → cell.state ≡ shown.Broken
      → WorkedBy object primitive (in_sync finds_broken) (row_of (in_sync finds_broken)) 0 k l.looked.glimpse.payload v
      w
  worked-broken k cell v w l is =
      worked-looked object primitive finds (in_sync finds_broken) _ k cell v w refl l
      (shown-injective l.looked.glimpse.state state.Broken (l.shows.state ∙ is)) refl

module _ {C S E : Type 0} {g : Ghosts C S E} where
  -- a pass of a client whose resumes watch is one of a synchronous queue
  pub sync-opening : (q : Queue C S E) (p : Pass C S E g) → ((x : C) → IsClient g.object (g.primitive x))
      → IsOf q p → (g.primitive (client_of q)).manner.watches ≡ true → (pass_view p).opening.sync ≡ true
  sync-opening q p keeps belongs sync =
      ap (λ (o : Opening). o.sync) belongs.opening ∙ (let client = keeps (client_of q) in client.sync ∙ sync)
