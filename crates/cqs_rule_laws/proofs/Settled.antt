-- Which steps settle their cell, that it wasn't settled before, and that it is final then; in both modes.
use Rattle.std.proofs.Common.{◌≡◌, ◌≢◌, ◌⊎◌, ℕ, ◌<◌, ◌≤◌, Bool, true, false, sym, refl, ap, ◌∙◌, subst, ⊎_elim, inl, inr, arith, Some, None, slice_get}
use Rattle.std.proofs.lemmas.Option.{same_Some}
use mathlib.Core.Logic.{dite}
use native.Mathlib.Decide.{ℕ_discrete}
use Rattle.cqs_core.specs.declared.cells.CoreCell.{CoreCell}
use Rattle.cqs_core.specs.declared.cells.CoreState.{CoreState}
use Rattle.cqs_core.specs.declared.cells.CoreState.TheVariants as state
use Rattle.cqs_core.specs.declared.doings.Doing.{Doing}
use Rattle.cqs_core.specs.declared.doings.Doing.TheVariants as doing
use Rattle.cqs_core.specs.QueueCells.{rank, IsInstalled}
use Rattle.cqs_core.specs.QueueAsUnbroken.{as_unbroken, unbroken_cell, IsIntact}
use Rattle.cqs_core.specs.QueueEither.{HoldsWatched, IsSoundEither}
use Rattle.cqs_core.specs.QueueSound.{IsSoundAt, IsUnended}
use Rattle.cqs_core.specs.QueueStages as stage
use Rattle.cqs_core.specs.QueueStages.{doing_at, IsUnmet, IsWatched, MayMeet}
use Rattle.cqs_core.proofs.EitherCells.{has-cell, intact-sound, broken-reached, ticket-reached, tickets-apart, drawn-below, decided-below}
use Rattle.cqs_core.specs.QueueState.{Queue}
use Rattle.cqs_core.specs.QueueSteps as step
use Rattle.cqs_core.specs.QueueSteps.{QueueStep, pends, grants, late, row_of, CellRow, StepRow, at_counter, at_cell, IsOpenRow, row_after, cell_after, state_made}
use Rattle.cqs_core.proofs.Places.{get-set_here, get-set_else}
use Rattle.cqs_rule_laws.specs.Hidden.{Hidden, state_in, state_at}
use Rattle.cqs_rule_laws.specs.Lists.{Has}
use Rattle.cqs_rule_laws.specs.Settling.{settles_row}
use Rattle.cqs_rule_laws.specs.Manner.{Manner, Leaving, asks, passes_on, at_once, IsSmart, IsAtOnce, Suits}
use Rattle.cqs_rule_laws.specs.declared.view.Facts.{Facts}
use Rattle.cqs_rule_laws.specs.Ruled.{IsWaitOf, Stands, IsFinal, number_at}
use Rattle.cqs_rule_laws.proofs.Staying.{OthersStay}

-- the row of a step at a cell
abbrev pub row_in : StepRow → CellRow
row_in (at_cell row) = row
row_in (at_counter row) = record {
  works_at = row.works_at;
  goes_to = row.works_at;
  finds = state.Empty;
  makes = None;
  brings = false;
  wait = step.wait_stays;
  gain = step.nothing;
  collects = false;
  settles = false;
}

pub smart-once : (l : Leaving) → IsSmart l → IsAtOnce l → ⊥
smart-once asks a b = b
smart-once passes_on a b = b
smart-once at_once a b = a

module _ (m : Manner) (q : Queue) (p k : ℕ) (found : CoreCell) where
  abbrev Final : Queue → Type 0
  Final d = IsFinal (IsSmart m.leaving) d k

  same-rank : (x : CoreState) → slice_get q.cells k ≡ Some found → found.state ≡ x → Final q → rank x ≡ 4
  same-rank x there is f = sym (ap rank (ap state_in there ∙ is)) ∙ f.final

  -- a cell that a step settles wasn't settled
  abbrev pub Unsettled : StepRow → Type 0
  Unsettled (at_counter row) = Unit {0}
  Unsettled (at_cell row) = IsOpenRow q (at_cell row) p k (Some found) → (row.finds ≡ state.Resumed → IsWaitOf q p k)
      → Final q → settles_row row ≡ true → ⊥

  pub unsettled : (s : QueueStep) → Suits m s → Unsettled (row_of s)
  unsettled step.draws u = tt
  unsettled step.enters u = tt
  unsettled step.reaches u = tt
  unsettled step.begins u = tt
  unsettled step.puts u = tt
  unsettled step.installs u = λ o w f e. absurd (cc)
  unsettled step.takes u = λ o w f e. let r = same-rank state.Value o.0.finds o.0.at f in absurd (omega arith)
  unsettled step.serves u = λ o w f e. absurd (cc)
  unsettled step.leaves u = λ o w f e. absurd (cc)
  unsettled step.delegates u = λ o w f e. absurd (cc)
  unsettled step.passes_over u = λ o w f e. absurd (cc)
  unsettled step.ends_refused u = λ o w f e.
      let both : state.Refused ≡ state.Cancelled = sym (ap state_in o.0.finds ∙ o.0.at) ∙ (f.met p o.0.does).0 in absurd
      (cc)
  unsettled step.ends_missed u = λ o w f e. smart-once m.leaving (f.met p o.0.does).1 u
  unsettled step.starts_leaving u = λ o w f e. absurd (cc)
  unsettled step.leaves_line u = λ o w f e. absurd (cc)
  unsettled step.leaves_at_once u = λ o w f e. absurd (cc)
  unsettled step.settles u = λ o w f e. let r = same-rank state.Cancelling o.0.finds o.0.at f in absurd (omega arith)
  unsettled step.settles_owing u = λ o w f e. let r = same-rank state.Delegated o.0.finds o.0.at f in absurd
      (omega arith)
  unsettled step.refuses u = λ o w f e. absurd (cc)
  unsettled step.refuses_value u = λ o w f e. let r = same-rank state.Delegated o.0.finds o.0.at f in absurd
      (omega arith)
  unsettled (step.looks pends) u = λ o w f e. absurd (cc)
  unsettled (step.looks grants) u = λ o w f e. f.unwaited p (w refl)
  unsettled (step.looks late) u = λ o w f e. f.unwaited p (w refl)
  unsettled (step.in_sync step.leaves_watched) u = λ o w f e. absurd (cc)
  unsettled (step.in_sync step.sees_value) u = λ o w f e. absurd (cc)
  unsettled (step.in_sync step.sees_taken) u = λ o w f e. f.unwatched p o.0.does
  unsettled (step.in_sync step.breaks) u = λ o w f e. absurd (cc)
  unsettled (step.in_sync step.takes_watched) u = λ o w f e. absurd (cc)
  unsettled (step.in_sync step.finds_broken) u = λ o w f e. f.come p o.0.does

  -- a pass that is at work on no number
  abbrev AtNone : Doing → Type 0
  AtNone (doing.Ticket j) = ⊥
  AtNone (doing.Drawn j) = ⊥
  AtNone (doing.Watching j) = ⊥
  AtNone doing.Idle = Unit {0}
  AtNone (doing.TryAt n) = Unit {0}
  AtNone doing.Door = Unit {0}
  AtNone doing.Owes = Unit {0}
  AtNone (doing.Leaving j) = Unit {0}
  AtNone (doing.Decided j on) = Unit {0}

  -- and is final then
  abbrev pub After : CellRow → Queue
  After row = row_after (at_cell row) q p k (Some found)

  pub after-there : (row : CellRow) → IsOpenRow q (at_cell row) p k (Some found)
      → slice_get (After row).cells k ≡ Some (cell_after row found)
  after-there row o = get-set_here q.cells k found (cell_after row found) o.0.finds

  -- What is to be known of a cell that is settled so: it was drawn to suspend at, and of the other passes none is to
  -- suspend there, none watches it, and only one that passes over it has its ticket.
  record Done (x : CoreState) : Type 0 where
    low : k < q.suspends
    come : (n : ℕ) → n ≢ p → slice_get q.doing n ≡ Some (doing.Drawn k) → ⊥
    unwatched : (n : ℕ) → n ≢ p → slice_get q.doing n ≡ Some (doing.Watching k) → ⊥
    met : (n : ℕ) → n ≢ p → slice_get q.doing n ≡ Some (doing.Ticket k) → (x ≡ state.Cancelled) × IsSmart m.leaving
    reached : (k < q.resumes) ⊎ ((x ≡ state.Cancelled) × IsSmart m.leaving)

  build : (row : CellRow) (x : CoreState) → IsOpenRow q (at_cell row) p k (Some found)
      → state_made row.makes found.state ≡ x → rank x ≡ 4
      → (IsInstalled x → ⊥) ⊎ ((cell_after row found).collected ≡ true)
      → AtNone (doing_at row.goes_to k) → Done x → Final (After row)
  build row x o is high bare rests done =
      let there = after-there row o in
      let at : state_at (After row) k ≡ x = ap state_in there ∙ is in record {
        final = ap rank at ∙ high;
        drawn = done.low;
        come = λ n does. dite (ℕ_discrete n p)
            (λ (e : n ≡ p). own (doing.Drawn k) (λ z. z) n e does)
            (λ (a : n ≢ p). done.come n a (before n a ∙ does));
        unwatched = λ n does. dite (ℕ_discrete n p)
            (λ (e : n ≡ p). own (doing.Watching k) (λ z. z) n e does)
            (λ (a : n ≢ p). done.unwatched n a (before n a ∙ does));
        unwaited = λ n w.
            let same : w.cell ≡ cell_after row found = same_Some w.cell (cell_after row found) (sym w.there ∙ there) in
            ⊎_elim
            (λ none. none (subst IsInstalled is (subst (λ (z : CoreCell). IsInstalled z.state) same w.installed)))
            (λ (taken : (cell_after row found).collected ≡ true).
            let both : false ≡ true = sym w.uncollected ∙ (ap (λ (z : CoreCell). z.collected) same ∙ taken) in absurd
            (cc))
            bare;
        met = λ n does. dite (ℕ_discrete n p)
            (λ (e : n ≡ p). absurd (own (doing.Ticket k) (λ z. z) n e does))
            (λ (a : n ≢ p). let t = done.met n a (before n a ∙ does) in (at ∙ t.0, t.1));
        reached = ⊎_elim inl (λ t. inr (at ∙ t.0, t.1)) done.reached;
      }
    where
      before : (n : ℕ) → n ≢ p → slice_get q.doing n ≡ slice_get (After row).doing n
      before n a = sym (get-set_else q.doing p n (doing_at row.goes_to k) (λ e. a (sym e)))

      -- the pass itself is at work on no number then
      own : (d : Doing) → (AtNone d → ⊥) → (n : ℕ) → n ≡ p → slice_get (After row).doing n ≡ Some d → ⊥
      own d none n e does = none (subst AtNone (same_Some (doing_at row.goes_to k) d
          (sym (get-set_here q.doing p (doing_at row.works_at k) (doing_at row.goes_to k) o.0.does)
          ∙ (ap (slice_get (After row).doing) (sym e) ∙ does))) rests)

  module _ (sound : IsSoundEither m.watches q) where
    -- no other pass is at work at a cell that isn't one of these
    no-ticket : (x : CoreState) → slice_get q.cells k ≡ Some found → found.state ≡ x → (IsUnended x → ⊥) → (n : ℕ)
        → slice_get q.doing n ≡ Some (doing.Ticket k) → ⊥
    no-ticket x there is none n does =
        let h = has-cell m.watches q sound n stage.ticket k does tt in
        none (subst IsUnended is (subst (λ (z : CoreCell). IsUnended z.state)
        (same_Some h.cell found (sym h.there ∙ there)) h.may))

    unmet : (sync : Bool) (x : CoreState) → MayMeet sync x → IsUnmet x
    unmet true x may = may
    unmet false state.Empty may = tt
    unmet false state.Value may = tt
    unmet false state.Broken may = absurd may
    unmet false state.Waiter may = may
    unmet false state.Taken may = may
    unmet false state.Resumed may = may
    unmet false state.Cancelling may = may
    unmet false state.Delegated may = may
    unmet false state.Cancelled may = may
    unmet false state.Refused may = may

    no-suspend : (x : CoreState) → slice_get q.cells k ≡ Some found → found.state ≡ x → (IsUnmet x → ⊥) → (n : ℕ)
        → slice_get q.doing n ≡ Some (doing.Drawn k) → ⊥
    no-suspend x there is none n does =
        let h = has-cell m.watches q sound n stage.drawn k does tt in
        none (unmet m.watches x (subst (MayMeet m.watches) is
        (subst (λ (z : CoreCell). MayMeet m.watches z.state) (same_Some h.cell found (sym h.there ∙ there)) h.may)))

    no-watcher : (x : CoreState) → slice_get q.cells k ≡ Some found → found.state ≡ x → (IsWatched x → ⊥) → (n : ℕ)
        → slice_get q.doing n ≡ Some (doing.Watching k) → ⊥
    no-watcher x there is none n does =
        let h : HoldsWatched q k = sound.watches n k does in
        none (subst IsWatched is (subst (λ (z : CoreCell). IsWatched z.state)
        (same_Some h.cell found (sym h.there ∙ there)) h.at))

    -- the one suspend, ticket or watcher of the number is this pass's
    lone-suspend : (n : ℕ) → slice_get q.doing p ≡ Some (doing.Drawn k) → n ≢ p
        → slice_get q.doing n ≡ Some (doing.Drawn k) → ⊥
    lone-suspend n mine apart its =
        let h = has-cell m.watches q sound p stage.drawn k mine tt in
        let i = has-cell m.watches q sound n stage.drawn k its tt in
        let same : i.cell ≡ h.cell = same_Some i.cell h.cell (sym i.there ∙ h.there) in
        apart (same_Some n p (sym (i.owner tt) ∙ (ap (λ (z : CoreCell). z.owner) same ∙ h.owner tt)))

    lone : (n : ℕ) → slice_get q.doing p ≡ Some (doing.Ticket k) → n ≢ p → slice_get q.doing n ≡ Some (doing.Ticket k)
        → ⊥
    lone n mine apart its = apart (tickets-apart m.watches q sound n p k its mine)

    pub holds : (x : CoreState) → slice_get q.cells k ≡ Some found → found.state ≡ x → IsIntact x
        → IsSoundAt (as_unbroken q) k (unbroken_cell found) x
    holds x there is intact = intact-sound m.watches q sound k found x there is intact

    -- a queue that isn't synchronous has no watchers
    pub none-watch : m.watches ≡ false → (n j : ℕ) → slice_get q.doing n ≡ Some (doing.Watching j) → ⊥
    none-watch no_watch n j does = (sound.plain no_watch).passes.at n (doing.Watching j) does

    abbrev pub Settled : StepRow → Type 0
    Settled (at_counter row) = Unit {0}
    Settled (at_cell row) = IsOpenRow q (at_cell row) p k (Some found) → settles_row row ≡ true → Final (After row)

    -- the cell was cancelled, and nobody who is at work there minds
    settles-cancelled : (x : CoreState) → slice_get q.cells k ≡ Some found → found.state ≡ x → k < q.suspends
        → (IsUnmet x → ⊥) → (IsWatched x → ⊥) → IsSmart m.leaving → Done state.Cancelled
    settles-cancelled x there is low none_met none_watched smart = record {
      low = low;
      come = λ n a t. no-suspend x there is none_met n t;
      unwatched = λ n a t. no-watcher x there is none_watched n t;
      met = λ n a t. (refl, smart);
      reached = inr (refl, smart);
    }

    -- the cell was in a state in which nobody else works there
    settles-alone : (x y : CoreState) → slice_get q.cells k ≡ Some found → found.state ≡ x → k < q.suspends
        → k < q.resumes → (IsUnmet x → ⊥) → (IsWatched x → ⊥) → (IsUnended x → ⊥) → Done y
    settles-alone x y there is low reached none_met none_watched none_ended = record {
      low = low;
      come = λ n a t. no-suspend x there is none_met n t;
      unwatched = λ n a t. no-watcher x there is none_watched n t;
      met = λ n a t. absurd (no-ticket x there is none_ended n t);
      reached = inl reached;
    }

    -- a resume ends there
    settles-ticket : (x : CoreState) → slice_get q.cells k ≡ Some found → found.state ≡ x → k < q.suspends
        → slice_get q.doing p ≡ Some (doing.Ticket k) → (IsUnmet x → ⊥) → (IsWatched x → ⊥) → Done x
    settles-ticket x there is low mine none_met none_watched = record {
      low = low;
      come = λ n a t. no-suspend x there is none_met n t;
      unwatched = λ n a t. no-watcher x there is none_watched n t;
      met = λ n a t. absurd (lone n mine a t);
      reached = inl (ticket-reached m.watches q sound p k mine);
    }

    pub final-after : (s : QueueStep) → Suits m s → Settled (row_of s)
    final-after step.draws u = tt
    final-after step.enters u = tt
    final-after step.reaches u = tt
    final-after step.begins u = tt
    final-after step.puts u = tt
    final-after step.installs u = λ o e. absurd (cc)
    final-after step.takes u = λ o e. build (row_in (row_of step.takes)) state.Taken o refl refl (inl (λ i. i)) tt
        (record {
          low = drawn-below m.watches q sound p k o.0.does;
          come = λ n a t. lone-suspend n o.0.does a t;
          unwatched = λ n a t. none-watch u n k t;
          met = λ n a t. absurd (no-ticket state.Value o.0.finds o.0.at (λ i. i) n t);
          reached = inl (holds state.Value o.0.finds o.0.at tt).1;
        })
    final-after step.serves u = λ o e. absurd (cc)
    final-after step.leaves u = λ o e. absurd (cc)
    final-after step.delegates u = λ o e. absurd (cc)
    final-after step.passes_over u = λ o e. absurd (cc)
    final-after step.ends_refused u = λ o e. build (row_in (row_of step.ends_refused)) state.Refused o o.0.at refl
        (inl (λ i. i)) tt
        (settles-ticket state.Refused o.0.finds o.0.at (holds state.Refused o.0.finds o.0.at tt).0.drawn o.0.does
        (λ i. i) (λ i. i))
    final-after step.ends_missed u = λ o e. build (row_in (row_of step.ends_missed)) state.Cancelled o o.0.at refl
        (inl (λ i. i)) tt
        (settles-ticket state.Cancelled o.0.finds o.0.at (holds state.Cancelled o.0.finds o.0.at tt).0.drawn o.0.does
        (λ i. i) (λ i. i))
    final-after step.starts_leaving u = λ o e. absurd (cc)
    final-after step.leaves_line u = λ o e. absurd (cc)
    final-after step.leaves_at_once u = λ o e. absurd (cc)
    final-after step.settles u = λ o e. build (row_in (row_of step.settles)) state.Cancelled o refl refl (inl (λ i. i))
        tt (settles-cancelled state.Cancelling o.0.finds o.0.at
        (decided-below m.watches q sound p k true o.0.does) (λ i. i) (λ i. i) u)
    final-after step.settles_owing u = λ o e. build (row_in (row_of step.settles_owing)) state.Cancelled o refl refl
        (inl (λ i. i)) tt (settles-cancelled state.Delegated o.0.finds o.0.at
        (decided-below m.watches q sound p k true o.0.does) (λ i. i) (λ i. i) u)
    final-after step.refuses u = λ o e. absurd (cc)
    final-after step.refuses_value u = λ o e. build (row_in (row_of step.refuses_value)) state.Refused o refl refl
        (inl (λ i. i)) tt (settles-alone state.Delegated state.Refused o.0.finds o.0.at
        (decided-below m.watches q sound p k false o.0.does) (holds state.Delegated o.0.finds o.0.at tt).1
        (λ i. i) (λ i. i) (λ i. i))
    final-after (step.looks pends) u = λ o e. absurd (cc)
    final-after (step.looks grants) u = λ o e. build (row_in (row_of (step.looks grants))) state.Resumed o o.0.at refl
        (inr refl) tt (settles-alone state.Resumed state.Resumed o.0.finds o.0.at
        (holds state.Resumed o.0.finds o.0.at tt).0.drawn (holds state.Resumed o.0.finds o.0.at tt).1
        (λ i. i) (λ i. i) (λ i. i))
    final-after (step.looks late) u = λ o e. build (row_in (row_of (step.looks late))) state.Resumed o o.0.at refl
        (inr refl) tt (settles-alone state.Resumed state.Resumed o.0.finds o.0.at
        (holds state.Resumed o.0.finds o.0.at tt).0.drawn (holds state.Resumed o.0.finds o.0.at tt).1
        (λ i. i) (λ i. i) (λ i. i))
    final-after (step.in_sync step.leaves_watched) u = λ o e. absurd (cc)
    final-after (step.in_sync step.sees_value) u = λ o e. absurd (cc)
    final-after (step.in_sync step.sees_taken) u = λ o e. build (row_in (row_of (step.in_sync step.sees_taken)))
        state.Taken o o.0.at refl (inl (λ i. i)) tt
        (record {
          low = (holds state.Taken o.0.finds o.0.at tt).0.drawn;
          come = λ n a t. no-suspend state.Taken o.0.finds o.0.at (λ i. i) n t;
          unwatched = λ n a t. a (sound.lone n p k t o.0.does);
          met = λ n a t. absurd (no-ticket state.Taken o.0.finds o.0.at (λ i. i) n t);
          reached = inl (holds state.Taken o.0.finds o.0.at tt).1;
        })
    final-after (step.in_sync step.breaks) u = λ o e. absurd (cc)
    final-after (step.in_sync step.takes_watched) u = λ o e. absurd (cc)
    final-after (step.in_sync step.finds_broken) u = λ o e. build (row_in (row_of (step.in_sync step.finds_broken)))
        state.Broken o o.0.at refl (inl (λ i. i)) tt
        (record {
          low = drawn-below m.watches q sound p k o.0.does;
          come = λ n a t. lone-suspend n o.0.does a t;
          unwatched = λ n a t. no-watcher state.Broken o.0.finds o.0.at (λ i. i) n t;
          met = λ n a t. absurd (no-ticket state.Broken o.0.finds o.0.at (λ i. i) n t);
          reached = inl (broken-reached m.watches q sound k found o.0.finds o.0.at);
        })

-- What is final stays so at any step: of the queue, of a client's word, of the crew.
pub finals-on : (on : Type 0) (c d : Hidden) (p : ℕ) (settled : ℕ → Bool) (f g : Facts)
    → OthersStay c d p → Stands c p f → Stands d p g
    → ((k : ℕ) → rank (state_at c.queue k) ≡ 4 → state_at d.queue k ≡ state_at c.queue k)
    → ((k : ℕ) → rank (state_at c.queue k) ≡ 4 → Has k g.waits → Has k f.waits)
    → ((k : ℕ) → g.doing ≡ doing.Ticket k → (f.doing ≡ doing.Ticket k) ⊎ (c.queue.resumes ≤ k))
    → ((k : ℕ) → g.doing ≡ doing.Drawn k → (f.doing ≡ doing.Drawn k) ⊎ (c.queue.suspends ≤ k))
    → ((k : ℕ) → g.doing ≡ doing.Watching k → (f.doing ≡ doing.Watching k) ⊎ (rank (state_at c.queue k) < 4))
    → c.queue.resumes ≤ d.queue.resumes → c.queue.suspends ≤ d.queue.suspends
    → ((k : ℕ) → settled k ≡ true → IsFinal on c.queue k) → (k : ℕ) → settled k ≡ true → IsFinal on d.queue k
finals-on on c d p settled f g others before after states waits ticket suspend watch more further old k is =
    let i = old k is in
    let same = states k i.final in record {
      final = ap rank same ∙ i.final;
      drawn = let low = i.drawn in omega (arith, further);
      come = λ n does. dite (ℕ_discrete n p)
          (λ (e : n ≡ p). ⊎_elim
          (λ (had : f.doing ≡ doing.Drawn k). i.come p (before.doing ∙ ap Some had))
          (λ (new : c.queue.suspends ≤ k). let low = i.drawn in absurd (omega arith))
          (suspend k (mine n (doing.Drawn k) e does)))
          (λ (a : n ≢ p). i.come n (sym (others.doing n a) ∙ does));
      unwatched = λ n does. dite (ℕ_discrete n p)
          (λ (e : n ≡ p). ⊎_elim
          (λ (had : f.doing ≡ doing.Watching k). i.unwatched p (before.doing ∙ ap Some had))
          (λ (new : rank (state_at c.queue k) < 4). let high = i.final in absurd (omega arith))
          (watch k (mine n (doing.Watching k) e does)))
          (λ (a : n ≢ p). i.unwatched n (sym (others.doing n a) ∙ does));
      unwaited = λ n w. dite (ℕ_discrete n p)
          (λ (e : n ≡ p). i.unwaited p (before.waits k (waits k i.final
          (after.all_waits k (subst (λ z. IsWaitOf d.queue z k) e w)))))
          (λ (a : n ≢ p). i.unwaited n (others.waits n k a w));
      met = λ n does. dite (ℕ_discrete n p)
          (λ (e : n ≡ p). ⊎_elim
          (λ (had : f.doing ≡ doing.Ticket k).
          let t = i.met p (before.doing ∙ ap Some had) in (same ∙ t.0, t.1))
          (λ (new : c.queue.resumes ≤ k). ⊎_elim
          (λ (low : k < c.queue.resumes). absurd (omega arith))
          (λ t. (same ∙ t.0, t.1)) i.reached)
          (ticket k (mine n (doing.Ticket k) e does)))
          (λ (a : n ≢ p). let t = i.met n (sym (others.doing n a) ∙ does) in (same ∙ t.0, t.1));
      reached = ⊎_elim (λ (low : k < c.queue.resumes). inl (omega arith)) (λ t. inr (same ∙ t.0, t.1)) i.reached;
    }
  where
    mine : (n : ℕ) (e : Doing) → n ≡ p → slice_get d.queue.doing n ≡ Some e → g.doing ≡ e
    mine n e same does = same_Some g.doing e (sym after.doing ∙ (ap (slice_get d.queue.doing) (sym same) ∙ does))

-- the highest rank
pub rank-most : (s : CoreState) → rank s ≤ 4
rank-most state.Empty = omega arith
rank-most state.Waiter = omega arith
rank-most state.Value = omega arith
rank-most state.Cancelling = omega arith
rank-most state.Delegated = omega arith
rank-most state.Taken = omega arith
rank-most state.Broken = omega arith
rank-most state.Resumed = omega arith
rank-most state.Cancelled = omega arith
rank-most state.Refused = omega arith

-- no step at a cell leaves its pass with a ticket
abbrev pub NoTicket : StepRow → Type 0
NoTicket (at_counter row) = Unit {0}
NoTicket (at_cell row) = (k j : ℕ) → doing_at row.goes_to k ≡ doing.Ticket j → ⊥

pub no-ticket-after : (s : QueueStep) → NoTicket (row_of s)
no-ticket-after step.draws = tt
no-ticket-after step.enters = tt
no-ticket-after step.reaches = tt
no-ticket-after step.begins = tt
no-ticket-after step.puts = tt
no-ticket-after step.installs = λ k j e. absurd (cc)
no-ticket-after step.takes = λ k j e. absurd (cc)
no-ticket-after step.serves = λ k j e. absurd (cc)
no-ticket-after step.leaves = λ k j e. absurd (cc)
no-ticket-after step.delegates = λ k j e. absurd (cc)
no-ticket-after step.passes_over = λ k j e. absurd (cc)
no-ticket-after step.ends_refused = λ k j e. absurd (cc)
no-ticket-after step.ends_missed = λ k j e. absurd (cc)
no-ticket-after step.starts_leaving = λ k j e. absurd (cc)
no-ticket-after step.leaves_line = λ k j e. absurd (cc)
no-ticket-after step.leaves_at_once = λ k j e. absurd (cc)
no-ticket-after step.settles = λ k j e. absurd (cc)
no-ticket-after step.settles_owing = λ k j e. absurd (cc)
no-ticket-after step.refuses = λ k j e. absurd (cc)
no-ticket-after step.refuses_value = λ k j e. absurd (cc)
no-ticket-after (step.looks pends) = λ k j e. absurd (cc)
no-ticket-after (step.looks grants) = λ k j e. absurd (cc)
no-ticket-after (step.looks late) = λ k j e. absurd (cc)
no-ticket-after (step.in_sync step.leaves_watched) = λ k j e. absurd (cc)
no-ticket-after (step.in_sync step.sees_value) = λ k j e. absurd (cc)
no-ticket-after (step.in_sync step.sees_taken) = λ k j e. absurd (cc)
no-ticket-after (step.in_sync step.breaks) = λ k j e. absurd (cc)
no-ticket-after (step.in_sync step.takes_watched) = λ k j e. absurd (cc)
no-ticket-after (step.in_sync step.finds_broken) = λ k j e. absurd (cc)

-- A step at a cell leaves its pass with no number to suspend at; and with one to watch only where it watched it, or
-- where it wrote the cell.
abbrev pub KeepsAway : StepRow → Type 0
KeepsAway (at_counter row) = Unit {0}
KeepsAway (at_cell row) = ((k j : ℕ) → doing_at row.goes_to k ≡ doing.Drawn j → ⊥)
    × ((k j : ℕ) → doing_at row.goes_to k ≡ doing.Watching j
    → (j ≡ k) × ((doing_at row.works_at k ≡ doing.Watching k) ⊎ (rank row.finds < 4)))

pub keeps-away : (s : QueueStep) → KeepsAway (row_of s)
keeps-away step.draws = tt
keeps-away step.enters = tt
keeps-away step.reaches = tt
keeps-away step.begins = tt
keeps-away step.puts = tt
keeps-away step.installs = (λ k j e. absurd (cc), λ k j e. absurd (cc))
keeps-away step.takes = (λ k j e. absurd (cc), λ k j e. absurd (cc))
keeps-away step.serves = (λ k j e. absurd (cc), λ k j e. absurd (cc))
keeps-away step.leaves = (λ k j e. absurd (cc), λ k j e. absurd (cc))
keeps-away step.delegates = (λ k j e. absurd (cc), λ k j e. absurd (cc))
keeps-away step.passes_over = (λ k j e. absurd (cc), λ k j e. absurd (cc))
keeps-away step.ends_refused = (λ k j e. absurd (cc), λ k j e. absurd (cc))
keeps-away step.ends_missed = (λ k j e. absurd (cc), λ k j e. absurd (cc))
keeps-away step.starts_leaving = (λ k j e. absurd (cc), λ k j e. absurd (cc))
keeps-away step.leaves_line = (λ k j e. absurd (cc), λ k j e. absurd (cc))
keeps-away step.leaves_at_once = (λ k j e. absurd (cc), λ k j e. absurd (cc))
keeps-away step.settles = (λ k j e. absurd (cc), λ k j e. absurd (cc))
keeps-away step.settles_owing = (λ k j e. absurd (cc), λ k j e. absurd (cc))
keeps-away step.refuses = (λ k j e. absurd (cc), λ k j e. absurd (cc))
keeps-away step.refuses_value = (λ k j e. absurd (cc), λ k j e. absurd (cc))
keeps-away (step.looks pends) = (λ k j e. absurd (cc), λ k j e. absurd (cc))
keeps-away (step.looks grants) = (λ k j e. absurd (cc), λ k j e. absurd (cc))
keeps-away (step.looks late) = (λ k j e. absurd (cc), λ k j e. absurd (cc))
keeps-away (step.in_sync step.leaves_watched) =
    (λ k j e. absurd (cc), λ k j e. (ap number_at (sym e), inr (omega arith)))
keeps-away (step.in_sync step.sees_value) = (λ k j e. absurd (cc), λ k j e. (ap number_at (sym e), inl refl))
keeps-away (step.in_sync step.sees_taken) = (λ k j e. absurd (cc), λ k j e. absurd (cc))
keeps-away (step.in_sync step.breaks) = (λ k j e. absurd (cc), λ k j e. absurd (cc))
keeps-away (step.in_sync step.takes_watched) = (λ k j e. absurd (cc), λ k j e. absurd (cc))
keeps-away (step.in_sync step.finds_broken) = (λ k j e. absurd (cc), λ k j e. absurd (cc))
