-- What a pass is at work on, and what its step at a cell does, in a queue that is synchronous or isn't.
use Rattle.std.proofs.Common.{◌≡◌, ℕ, ◌<◌, max, Bool, true, false, Some, length, slice_get, refl, sym, ap, ◌∙◌, subst}
use Rattle.std.proofs.lemmas.List.{length-map}
use Rattle.std.proofs.lemmas.Option.{same_Some}
use Rattle.cqs_core.specs.declared.cells.CoreCell.{CoreCell}
use Rattle.cqs_core.specs.declared.cells.CoreState.{CoreState}
use Rattle.cqs_core.specs.declared.cells.CoreState.TheVariants as state
use Rattle.cqs_core.specs.declared.doings.Doing.{Doing}
use Rattle.cqs_core.specs.declared.doings.Doing.TheVariants as doing
use Rattle.cqs_core.specs.QueueAsUnbroken.{as_unbroken, unbroken_cell, unbroken_state, unwatching, IsIntact}
use Rattle.cqs_core.specs.QueueEither.{HoldsWatched, IsSoundEither}
use Rattle.cqs_core.specs.QueueState.{Queue}
use Rattle.cqs_core.specs.QueueMoves.{IsCancelling}
use Rattle.cqs_core.specs.QueueSound.{IsSoundAt, IsUnended, IsUntaken, IsTicket, IsOwn}
use Rattle.cqs_core.specs.QueueStages as stage
use Rattle.cqs_core.specs.QueueStages.{Stage, doing_at, IsWatched, MayMeet, MayFind, MayWork}
use Rattle.cqs_core.specs.QueueSteps.{CellRow, at_cell, IsOpenRow}
use Rattle.cqs_core.proofs.QueueAsUnbroken.{IsMapped, map-get}
use Rattle.cqs_core.proofs.QueueUniform.{HasNumber, IsOfOwn, HasCell, IsCellRow, IsTurn}
use Rattle.cqs_core.proofs.ReadSteps.{intact-read}
use Rattle.cqs_core.proofs.UnbrokenMoves.{does-read, finds-read, drawn-owner, leaving-own, decided-own, cell-sound}

-- what a suspend meets, by what it reads
meet-back : (sync : Bool) (s : CoreState) (b : Bool) → (sync ≡ false → IsIntact s) → IsUntaken (unbroken_state s b)
    → MayMeet sync s
meet-back false state.Empty b plain is = tt
meet-back true state.Empty b plain is = tt
meet-back false state.Value b plain is = tt
meet-back true state.Value b plain is = tt
meet-back false state.Broken b plain is = absurd (plain refl)
meet-back true state.Broken b plain is = tt
meet-back sync state.Waiter b plain is = absurd is
meet-back sync state.Taken b plain is = absurd is
meet-back sync state.Resumed b plain is = absurd is
meet-back sync state.Cancelling b plain is = absurd is
meet-back sync state.Delegated b plain is = absurd is
meet-back sync state.Cancelled b plain is = absurd is
meet-back sync state.Refused b plain is = absurd is

unended-back : (s : CoreState) (b : Bool) → IsUnended (unbroken_state s b) → IsUnended s
unended-back state.Broken true is = absurd is
unended-back state.Broken false is = absurd is
unended-back state.Empty b is = is
unended-back state.Value b is = is
unended-back state.Waiter b is = is
unended-back state.Taken b is = is
unended-back state.Resumed b is = is
unended-back state.Cancelling b is = is
unended-back state.Delegated b is = is
unended-back state.Cancelled b is = is
unended-back state.Refused b is = is

untaken-uncollected : (q : Queue) (k : ℕ) (cell : CoreCell) (s : CoreState) → IsUntaken s → IsSoundAt q k cell s
    → cell.collected ≡ false
untaken-uncollected q k cell state.Empty u h = h.2
untaken-uncollected q k cell state.Value u h = h.2
untaken-uncollected q k cell state.Waiter u h = absurd u
untaken-uncollected q k cell state.Taken u h = absurd u
untaken-uncollected q k cell state.Broken u h = absurd u
untaken-uncollected q k cell state.Resumed u h = absurd u
untaken-uncollected q k cell state.Cancelling u h = absurd u
untaken-uncollected q k cell state.Delegated u h = absurd u
untaken-uncollected q k cell state.Cancelled u h = absurd u
untaken-uncollected q k cell state.Refused u h = absurd u

drawn-read-back : (d : Doing) (k : ℕ) → unwatching d ≡ doing.Drawn k → d ≡ doing.Drawn k
drawn-read-back (doing.Drawn j) k e = e
drawn-read-back (doing.Watching j) k e = absurd (cc (e))
drawn-read-back doing.Idle k e = absurd (cc (e))
drawn-read-back (doing.TryAt n) k e = absurd (cc (e))
drawn-read-back doing.Door k e = absurd (cc (e))
drawn-read-back doing.Owes k e = absurd (cc (e))
drawn-read-back (doing.Ticket j) k e = absurd (cc (e))
drawn-read-back (doing.Leaving j) k e = absurd (cc (e))
drawn-read-back (doing.Decided j on) k e = absurd (cc (e))

-- a pass that is to suspend in the reading is to suspend
pub drawn-back : (q : Queue) (n k : ℕ) → slice_get (as_unbroken q).doing n ≡ Some (doing.Drawn k)
    → slice_get q.doing n ≡ Some (doing.Drawn k)
drawn-back q n k does =
    let from : IsMapped unwatching q.doing n (doing.Drawn k) = map-get unwatching q.doing n (doing.Drawn k) does in
    from.there ∙ ap Some (drawn-read-back from.element k from.is)

module _ (sync : Bool) (q : Queue) (is : IsSoundEither sync q) where
  abbrev v : Queue
  v = as_unbroken q

  pub has-cell : (p : ℕ) (at : Stage) (k : ℕ) → slice_get q.doing p ≡ Some (doing_at at k) → HasNumber at
      → HasCell sync q p at k
  has-cell p stage.drawn k does has =
      let own : IsOwn v p k IsUntaken = is.reads.passes.at p (doing.Drawn k) (does-read q p (doing.Drawn k) does) in
      let from : IsMapped unbroken_cell q.cells k own.cell = map-get unbroken_cell q.cells k own.cell own.found in
      record {
        cell = from.element;
        there = from.there;
        may = meet-back sync from.element.state from.element.collected
            (λ e. (is.plain e).cells.at k from.element from.there)
            (subst (λ (c : CoreCell). IsUntaken c.state) (sym from.is) own.at);
        owner = λ o. drawn-owner q is.reads p k from.element does from.there;
      }
  has-cell p stage.ticket k does has =
      let ticket : IsTicket v k = is.reads.passes.at p (doing.Ticket k) (does-read q p (doing.Ticket k) does) in
      let from : IsMapped unbroken_cell q.cells k ticket.cell =
      map-get unbroken_cell q.cells k ticket.cell ticket.found in
      record {
        cell = from.element;
        there = from.there;
        may = unended-back from.element.state from.element.collected
            (subst (λ (c : CoreCell). IsUnended c.state) (sym from.is) ticket.unended);
        owner = λ o. absurd o;
      }
  has-cell p stage.watching k does has =
      let h : HoldsWatched q k = is.watches p k does in
      record { cell = h.cell; there = h.there; may = h.at; owner = λ o. absurd o }
  has-cell p stage.leaving k does has =
      let own : IsOwn q p k IsCancelling = leaving-own q is.reads p k does in
      record { cell = own.cell; there = own.found; may = own.at; owner = λ o. own.owner }
  has-cell p (stage.decided on) k does has =
      let own : IsOwn q p k IsCancelling = decided-own q is.reads p k on does in
      record { cell = own.cell; there = own.found; may = own.at; owner = λ o. own.owner }
  has-cell p stage.idle k does has = absurd has
  has-cell p stage.door k does has = absurd has
  has-cell p stage.owes k does has = absurd has

  -- what the reading says of a cell that isn't broken
  pub intact-sound : (k : ℕ) (cell : CoreCell) (s : CoreState) → slice_get q.cells k ≡ Some cell → cell.state ≡ s
      → IsIntact s → IsSoundAt v k (unbroken_cell cell) s
  intact-sound k cell s there at intact =
      cell-sound q is.reads k cell s there
      (ap (λ t. unbroken_state t cell.collected) at ∙ intact-read s cell.collected intact)

  -- of a broken one
  pub broken-sound : (k : ℕ) (cell : CoreCell) (b : Bool) → slice_get q.cells k ≡ Some cell
      → cell.state ≡ state.Broken → cell.collected ≡ b
      → IsSoundAt v k (unbroken_cell cell) (unbroken_state state.Broken b)
  broken-sound k cell b there at collected =
      cell-sound q is.reads k cell (unbroken_state state.Broken b) there
      (ap (λ t. unbroken_state t cell.collected) at ∙ ap (unbroken_state state.Broken) collected)

  -- a resume has come to a broken cell
  pub broken-reached : (k : ℕ) (cell : CoreCell) → slice_get q.cells k ≡ Some cell → cell.state ≡ state.Broken
      → k < q.resumes
  broken-reached k cell there at = by cell.collected refl
    where
      by : (b : Bool) → cell.collected ≡ b → k < q.resumes
      by false e = (broken-sound k cell false there at e).1
      by true e = (broken-sound k cell true there at e).1

  pub ticket-reached : (p k : ℕ) → slice_get q.doing p ≡ Some (doing.Ticket k) → k < q.resumes
  ticket-reached p k does =
      let ticket : IsTicket v k = is.reads.passes.at p (doing.Ticket k) (does-read q p (doing.Ticket k) does) in
      ticket.reached

  pub tickets-apart : (p r k : ℕ) → slice_get q.doing p ≡ Some (doing.Ticket k)
      → slice_get q.doing r ≡ Some (doing.Ticket k) → p ≡ r
  tickets-apart p r k one other =
      is.reads.apart.same p r k (does-read q p (doing.Ticket k) one) (does-read q r (doing.Ticket k) other)

  pub drawn-below : (p k : ℕ) → slice_get q.doing p ≡ Some (doing.Drawn k) → k < q.suspends
  drawn-below p k does =
      let own : IsOwn v p k IsUntaken = is.reads.passes.at p (doing.Drawn k) (does-read q p (doing.Drawn k) does) in
      own.drawn

  pub leaving-below : (p k : ℕ) → slice_get q.doing p ≡ Some (doing.Leaving k) → k < q.suspends
  leaving-below p k does = let own : IsOwn q p k IsCancelling = leaving-own q is.reads p k does in own.drawn

  pub decided-below : (p k : ℕ) (on : Bool) → slice_get q.doing p ≡ Some (doing.Decided k on) → k < q.suspends
  decided-below p k on does = let own : IsOwn q p k IsCancelling = decided-own q is.reads p k on does in own.drawn

  -- a value that is watched was brought by a resume of its number
  pub watched-below : (p k : ℕ) → slice_get q.doing p ≡ Some (doing.Watching k) → k < q.resumes
  watched-below p k does = by h.cell.state refl h.at
    where
      h : HoldsWatched q k
      h = is.watches p k does

      by : (s : CoreState) → h.cell.state ≡ s → IsWatched s → k < q.resumes
      by state.Value at w = (intact-sound k h.cell state.Value h.there at tt).1
      by state.Taken at w = (intact-sound k h.cell state.Taken h.there at tt).1
      by state.Empty at w = absurd w
      by state.Waiter at w = absurd w
      by state.Broken at w = absurd w
      by state.Resumed at w = absurd w
      by state.Cancelling at w = absurd w
      by state.Delegated at w = absurd w
      by state.Cancelled at w = absurd w
      by state.Refused at w = absurd w

  -- as many cells are made as the further counter has passed
  pub cells-made : length q.cells ≡ max q.suspends q.resumes
  cells-made = sym (length-map q.cells unbroken_cell) ∙ is.reads.made

  -- the owner of the cell, where the number is that of the pass's own wait
  own-cell : (p k : ℕ) (cell : CoreCell) (at : Stage) → slice_get q.doing p ≡ Some (doing_at at k)
      → slice_get q.cells k ≡ Some cell → MayWork at p cell → IsOfOwn at → cell.owner ≡ Some p
  own-cell p k cell stage.idle does there works own = works.owner
  own-cell p k cell stage.door does there works own = absurd own
  own-cell p k cell stage.owes does there works own = absurd own
  own-cell p k cell stage.ticket does there works own = absurd own
  own-cell p k cell stage.watching does there works own = absurd own
  own-cell p k cell stage.drawn does there works own = drawn-owner q is.reads p k cell does there
  own-cell p k cell stage.leaving does there works own =
      let its : IsOwn q p k IsCancelling = leaving-own q is.reads p k does in
      ap (λ (c : CoreCell). c.owner) (same_Some cell its.cell (sym there ∙ its.found)) ∙ its.owner
  own-cell p k cell (stage.decided on) does there works own =
      let its : IsOwn q p k IsCancelling = decided-own q is.reads p k on does in
      ap (λ (c : CoreCell). c.owner) (same_Some cell its.cell (sym there ∙ its.found)) ∙ its.owner

  cancelling-uncollected : (k : ℕ) (cell : CoreCell) (s : CoreState) → slice_get q.cells k ≡ Some cell
      → cell.state ≡ s → IsCancelling s → cell.collected ≡ false
  cancelling-uncollected k cell state.Cancelling there at c =
      (intact-sound k cell state.Cancelling there at tt).2
  cancelling-uncollected k cell state.Delegated there at c =
      (intact-sound k cell state.Delegated there at tt).2
  cancelling-uncollected k cell state.Empty there at c = absurd c
  cancelling-uncollected k cell state.Waiter there at c = absurd c
  cancelling-uncollected k cell state.Value there at c = absurd c
  cancelling-uncollected k cell state.Taken there at c = absurd c
  cancelling-uncollected k cell state.Broken there at c = absurd c
  cancelling-uncollected k cell state.Resumed there at c = absurd c
  cancelling-uncollected k cell state.Cancelled there at c = absurd c
  cancelling-uncollected k cell state.Refused there at c = absurd c

  -- and it isn't collected yet
  uncollected : (p k : ℕ) (cell : CoreCell) (at : Stage) → slice_get q.doing p ≡ Some (doing_at at k)
      → slice_get q.cells k ≡ Some cell → MayWork at p cell → IsOfOwn at → cell.collected ≡ false
  uncollected p k cell stage.idle does there works own = works.uncollected
  uncollected p k cell stage.door does there works own = absurd own
  uncollected p k cell stage.owes does there works own = absurd own
  uncollected p k cell stage.ticket does there works own = absurd own
  uncollected p k cell stage.watching does there works own = absurd own
  uncollected p k cell stage.drawn does there works own =
      let its : IsOwn v p k IsUntaken = is.reads.passes.at p (doing.Drawn k) (does-read q p (doing.Drawn k) does) in
      let same : its.cell ≡ unbroken_cell cell =
      same_Some its.cell (unbroken_cell cell) (sym its.found ∙ finds-read q k cell there) in
      untaken-uncollected v k (unbroken_cell cell) (unbroken_cell cell).state
      (subst (λ (c : CoreCell). IsUntaken c.state) same its.at)
      (is.reads.cells.at k (unbroken_cell cell) (finds-read q k cell there))
  uncollected p k cell stage.leaving does there works own =
      let its : IsOwn q p k IsCancelling = leaving-own q is.reads p k does in
      cancelling-uncollected k cell cell.state there refl
      (subst (λ (c : CoreCell). IsCancelling c.state) (same_Some its.cell cell (sym its.found ∙ there)) its.at)
  uncollected p k cell (stage.decided on) does there works own =
      let its : IsOwn q p k IsCancelling = decided-own q is.reads p k on does in
      cancelling-uncollected k cell cell.state there refl
      (subst (λ (c : CoreCell). IsCancelling c.state) (same_Some its.cell cell (sym its.found ∙ there)) its.at)

  pub turns : (p k : ℕ) (row : CellRow) (found : CoreCell) → IsCellRow row
      → IsOpenRow q (at_cell row) p k (Some found) → IsTurn q p k row found
  turns p k row found row_is opens = record {
    uncollected = its;
    owner = own-cell p k found row.works_at opens.0.does opens.0.finds opens.1;
    wait = row_is.wait found opens.0.at its;
  }
    where
      its : IsOfOwn row.works_at → found.collected ≡ false
      its = uncollected p k found row.works_at opens.0.does opens.0.finds opens.1
