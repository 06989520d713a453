-- A cell that is over after a step was so before, or the step settles it.
use Rattle.std.proofs.Common.{◌≡◌, ◌≢◌, ◌⊎◌, ⊎_elim, ℕ, ◌<◌, ◌≤◌, Bool, true, false, sym, refl, ap, ◌∙◌, subst, arith, Option, Some, None, slice_get}
use mathlib.Core.Logic.{dite}
use native.Mathlib.Decide.{ℕ_discrete}
use Rattle.cqs_core.specs.declared.cells.CoreCell.{CoreCell}
use Rattle.cqs_core.specs.declared.cells.CoreState.{CoreState}
use Rattle.cqs_core.specs.declared.cells.CoreState.TheVariants as state
use Rattle.std.specs.Option.{option_and_then}
use Rattle.cqs_core.specs.declared.doings.Doing.{Doing}
use Rattle.cqs_core.specs.declared.doings.Doing.TheVariants as doing
use Rattle.cqs_core.specs.QueueAsUnbroken.{as_unbroken, unbroken_cell}
use Rattle.cqs_core.specs.QueueEither.{IsSoundEither}
use Rattle.cqs_core.specs.QueueSound.{IsEntered}
use Rattle.cqs_core.specs.QueueStages as stage
use Rattle.cqs_core.specs.QueueStages.{Stage, doing_at}
use Rattle.cqs_core.specs.QueueState.{Queue, owner_doing}
use Rattle.cqs_core.proofs.EitherCells.{drawn-back}
use Rattle.cqs_core.specs.QueueSteps as step
use Rattle.cqs_core.specs.QueueSteps.{QueueStep, pends, grants, late, row_of, CellRow, StepRow, at_counter, at_cell, IsOpenRow, cell_after, row_after, state_made}
use Rattle.cqs_core.proofs.Places.{get-set_else}
use Rattle.cqs_slots.proofs.Lists.{changed_at, changed_else}
use Rattle.std.proofs.lemmas.Option.{same_Some}
use Rattle.cqs_rule_laws.specs.declared.view.Facts.{Facts}
use Rattle.cqs_rule_laws.specs.Hidden.{Hidden, state_in, state_at}
use Rattle.cqs_rule_laws.specs.Manner.{Manner, IsSmart, Suits}
use Rattle.cqs_rule_laws.specs.Ruled.{IsWaitOf, IsUnwatched, HasSuspended, IsOverAt, IsOver, Stands, number_at}
use Rattle.cqs_rule_laws.specs.Settling.{settles_row, settled_then}
use Rattle.cqs_rule_laws.proofs.Settled.{row_in, after-there, holds, smart-once}
use Rattle.cqs_rule_laws.proofs.Staying.{OthersStay}

-- where the cell has its state still, its wait and its watcher, and its suspend comes no sooner
pub over-same : (on : Type 0) (c d : Queue) (k : ℕ) → state_at d k ≡ state_at c k
    → ((p : ℕ) → IsWaitOf c p k → IsWaitOf d p k) → (IsUnwatched d k → IsUnwatched c k)
    → (HasSuspended d k → HasSuspended c k) → IsOver on d k → IsOver on c k
over-same on c d k same waits watched suspended over = by (state_at c k) (subst (IsOverAt on d k) same over)
  where
    by : (x : CoreState) → IsOverAt on d k x → IsOverAt on c k x
    by state.Taken h = watched h
    by state.Resumed h = λ p w. h p (waits p w)
    by state.Cancelled h = h
    by state.Empty h = h
    by state.Waiter h = h
    by state.Value h = h
    by state.Broken h = suspended h
    by state.Cancelling h = h
    by state.Delegated h = h
    by state.Refused h = h

-- a pass that does what it did watches what it watched
pub unwatched-same : (c d : Hidden) (p : ℕ) (f g : Facts) → OthersStay c d p → Stands c p f → Stands d p g
    → ((k : ℕ) → f.doing ≡ doing.Watching k → g.doing ≡ doing.Watching k) → (k : ℕ) → IsUnwatched d.queue k
    → IsUnwatched c.queue k
unwatched-same c d p f g others before after stays k none n does = dite (ℕ_discrete n p)
    (λ (e : n ≡ p). none p (after.doing ∙ ap Some (stays k (same_Some f.doing (doing.Watching k)
    (sym before.doing ∙ (ap (slice_get c.queue.doing) (sym e) ∙ does))))))
    (λ (a : n ≢ p). none n (others.doing n a ∙ does))

-- and is to suspend where it was to
pub suspended-same : (c d : Hidden) (p : ℕ) (f g : Facts) → OthersStay c d p → Stands c p f → Stands d p g
    → ((k : ℕ) → f.doing ≡ doing.Drawn k → g.doing ≡ doing.Drawn k)
    → ((k : ℕ) → k < d.queue.suspends → (k < c.queue.suspends) ⊎ (g.doing ≡ doing.Drawn k)) → (k : ℕ)
    → HasSuspended d.queue k → HasSuspended c.queue k
suspended-same c d p f g others before after stays drawn k (low, none) = (
  ⊎_elim (λ (was : k < c.queue.suspends). was)
      (λ (new : g.doing ≡ doing.Drawn k). absurd (none p (after.doing ∙ ap Some new))) (drawn k low),
  λ n does. dite (ℕ_discrete n p)
      (λ (e : n ≡ p). none p (after.doing ∙ ap Some (stays k (same_Some f.doing (doing.Drawn k)
      (sym before.doing ∙ (ap (slice_get c.queue.doing) (sym e) ∙ does))))))
      (λ (a : n ≢ p). none n (others.doing n a ∙ does)),
)

-- the number at which a pass at this stage watches, or is to suspend
at-watching : (at : Stage) (k j : ℕ) → doing_at at k ≡ doing.Watching j → j ≡ k
at-watching stage.watching k j e = ap number_at (sym e)
at-watching stage.idle k j e = absurd (cc)
at-watching stage.door k j e = absurd (cc)
at-watching stage.owes k j e = absurd (cc)
at-watching stage.drawn k j e = absurd (cc)
at-watching stage.ticket k j e = absurd (cc)
at-watching stage.leaving k j e = absurd (cc)
at-watching (stage.decided on) k j e = absurd (cc)

at-drawn : (at : Stage) (k j : ℕ) → doing_at at k ≡ doing.Drawn j → j ≡ k
at-drawn stage.drawn k j e = ap number_at (sym e)
at-drawn stage.watching k j e = absurd (cc)
at-drawn stage.idle k j e = absurd (cc)
at-drawn stage.door k j e = absurd (cc)
at-drawn stage.owes k j e = absurd (cc)
at-drawn stage.ticket k j e = absurd (cc)
at-drawn stage.leaving k j e = absurd (cc)
at-drawn (stage.decided on) k j e = absurd (cc)

-- the owner of a cell that reads as drawn is to suspend there
owner-does : (q : Queue) (found : CoreCell) (n k : ℕ) → found.owner ≡ Some n
    → owner_doing (as_unbroken q).doing (unbroken_cell found) ≡ Some (doing.Drawn k)
    → slice_get q.doing n ≡ Some (doing.Drawn k)
owner-does q found n k owner does =
    drawn-back q n k (ap (λ (o : Option ℕ). option_and_then (λ r. slice_get (as_unbroken q).doing r) o) (sym owner)
    ∙ does)

module _ (m : Manner) (q : Queue) (p k : ℕ) (found : CoreCell) (sound : IsSoundEither m.watches q) where
  abbrev On : Type 0
  On = IsSmart m.leaving

  abbrev Now : CellRow → Queue
  Now row = row_after (at_cell row) q p k (Some found)

  -- the state that the step made
  now : (row : CellRow) (x : CoreState) → IsOpenRow q (at_cell row) p k (Some found)
      → state_made row.makes found.state ≡ x → IsOver On (Now row) k → IsOverAt On (Now row) k x
  now row x o is over =
      subst (IsOverAt On (Now row) k) (ap state_in (after-there m q p k found row o) ∙ is) over

  abbrev pub Over : StepRow → Type 0
  Over (at_counter row) = Unit {0}
  Over (at_cell row) = IsOpenRow q (at_cell row) p k (Some found) → settles_row row ≡ false
      → IsOver On (Now row) k → IsOver On q k

  -- who watches isn't about to suspend
  apart-watch : (n : ℕ) → n ≡ p → slice_get q.doing n ≡ Some (doing.Watching k)
      → slice_get q.doing p ≡ Some (doing.Drawn k) → ⊥
  apart-watch n same watches draws =
      let both : doing.Watching k ≡ doing.Drawn k = same_Some (doing.Watching k) (doing.Drawn k)
      (sym watches ∙ (ap (slice_get q.doing) same ∙ draws)) in absurd (cc)

  -- the suspend of a number whose value is still there has not come
  broken-early : HasSuspended (Now (row_in (row_of (step.in_sync step.breaks)))) k
      → IsOpenRow q (row_of (step.in_sync step.breaks)) p k (Some found) → ⊥
  broken-early (low, none) o = ⊎_elim
      (λ (drawn : IsEntered (as_unbroken q) k (unbroken_cell found)
      × (owner_doing (as_unbroken q).doing (unbroken_cell found) ≡ Some (doing.Drawn k))).
      let there = owner-does q found drawn.0.pass k drawn.0.owner drawn.1 in
      none drawn.0.pass (get-set_else q.doing p drawn.0.pass doing.Idle
      (λ same. apart-watch p refl o.0.does (ap (slice_get q.doing) same ∙ there)) ∙ there))
      (λ (past : (q.suspends ≤ k) × (found.owner ≡ None)). absurd (omega (arith, low, past.0)))
      (holds m q p k found sound state.Value o.0.finds o.0.at tt).0

  -- a step that doesn't settle its cell leaves none over that wasn't
  pub over-before : (s : QueueStep) → Suits m s → Over (row_of s)
  over-before step.draws u = tt
  over-before step.enters u = tt
  over-before step.reaches u = tt
  over-before step.begins u = tt
  over-before step.puts u = tt
  over-before step.installs u = λ o e d. absurd (now (row_in (row_of step.installs)) state.Waiter o refl d)
  over-before step.takes u = λ o e d. absurd (cc)
  over-before step.serves u = λ o e d.
      let row = row_in (row_of step.serves) in
      let h = holds m q p k found sound state.Waiter o.0.finds o.0.at tt in
      absurd (now row state.Resumed o refl d h.0.pass (record {
        cell = cell_after row found;
        there = after-there m q p k found row o;
        owner = h.0.owner;
        drawn = h.0.drawn;
        uncollected = h.2;
        installed = tt;
      }))
  over-before step.leaves u = λ o e d. absurd (now (row_in (row_of step.leaves)) state.Value o refl d)
  over-before step.delegates u = λ o e d. absurd (now (row_in (row_of step.delegates)) state.Delegated o refl d)
  over-before step.passes_over u = λ o e d.
      subst (IsOverAt On q k) (sym (ap state_in o.0.finds ∙ o.0.at))
      (now (row_in (row_of step.passes_over)) state.Cancelled o o.0.at d)
  over-before step.ends_refused u = λ o e d. absurd (cc)
  over-before step.ends_missed u = λ o e d. absurd (cc)
  over-before step.starts_leaving u = λ o e d.
      absurd (now (row_in (row_of step.starts_leaving)) state.Cancelling o refl d)
  over-before step.leaves_line u = λ o e d. absurd (now (row_in (row_of step.leaves_line)) state.Cancelling o refl d)
  over-before step.leaves_at_once u = λ o e d.
      absurd (smart-once m.leaving (now (row_in (row_of step.leaves_at_once)) state.Cancelled o refl d) u)
  over-before step.settles u = λ o e d. absurd (cc)
  over-before step.settles_owing u = λ o e d. absurd (cc)
  over-before step.refuses u = λ o e d. absurd (now (row_in (row_of step.refuses)) state.Refused o refl d)
  over-before step.refuses_value u = λ o e d. absurd (cc)
  over-before (step.looks pends) u = λ o e d.
      absurd (now (row_in (row_of (step.looks pends))) state.Waiter o o.0.at d)
  over-before (step.looks grants) u = λ o e d. absurd (cc)
  over-before (step.looks late) u = λ o e d. absurd (cc)
  over-before (step.in_sync step.leaves_watched) u = λ o e d.
      absurd (now (row_in (row_of (step.in_sync step.leaves_watched))) state.Value o refl d)
  over-before (step.in_sync step.sees_value) u = λ o e d.
      absurd (now (row_in (row_of (step.in_sync step.sees_value))) state.Value o o.0.at d)
  over-before (step.in_sync step.sees_taken) u = λ o e d. absurd (cc)
  over-before (step.in_sync step.breaks) u = λ o e d.
      absurd (broken-early (now (row_in (row_of (step.in_sync step.breaks))) state.Broken o refl d) o)
  over-before (step.in_sync step.takes_watched) u = λ o e d.
      let w = sound.watched u k found o.0.finds o.0.at in
      absurd (now (row_in (row_of (step.in_sync step.takes_watched))) state.Taken o refl d w.0
      (get-set_else q.doing p w.0 doing.Idle (λ same. apart-watch w.0 (sym same) w.1 o.0.does) ∙ w.1))
  over-before (step.in_sync step.finds_broken) u = λ o e d. absurd (cc)

  -- what is over after a step at a cell is settled then
  pub over-settled : (settled : ℕ → Bool) (s : QueueStep) (row : CellRow) → row_of s ≡ at_cell row → Suits m s
      → IsOpenRow q (at_cell row) p k (Some found)
      → ((j : ℕ) → j ≢ k → state_at (Now row) j ≡ state_at q j)
      → ((j : ℕ) → IsOver On q j → settled j ≡ true) → (b : Bool) → settles_row row ≡ b → (j : ℕ)
      → IsOver On (Now row) j → settled_then b settled k j ≡ true
  over-settled settled s row is suits opens states old b e j over = dite (ℕ_discrete j k) (here b e)
      (λ a. there b (old j (over-same On q (Now row) j (states j a) (λ n w. record {
        cell = w.cell;
        there = get-set_else q.cells k j (cell_after row found) (λ z. a (sym z)) ∙ w.there;
        owner = w.owner;
        drawn = w.drawn;
        uncollected = w.uncollected;
        installed = w.installed;
      }) (unwatched-else j a) (suspended-else j a) over)) a)
    where
      -- what the pass watches and where it is to suspend is at its own number alone
      does-else : (e : Doing) (n : ℕ) → (doing_at row.works_at k ≡ e → ⊥) → slice_get q.doing n ≡ Some e
          → slice_get (Now row).doing n ≡ Some e
      does-else e n not_own does = dite (ℕ_discrete n p)
          (λ (mine : n ≡ p). absurd (not_own (same_Some (doing_at row.works_at k) e
          (sym opens.0.does ∙ (ap (slice_get q.doing) (sym mine) ∙ does)))))
          (λ (a : n ≢ p). get-set_else q.doing p n (doing_at row.goes_to k) (λ z. a (sym z)) ∙ does)

      unwatched-else : (i : ℕ) → i ≢ k → IsUnwatched (Now row) i → IsUnwatched q i
      unwatched-else i a none n does = none n (does-else (doing.Watching i) n
          (λ same. a (at-watching row.works_at k i same)) does)

      suspended-else : (i : ℕ) → i ≢ k → HasSuspended (Now row) i → HasSuspended q i
      suspended-else i a (low, none) = (
        low,
        λ n does. none n (does-else (doing.Drawn i) n
            (λ same. a (at-drawn row.works_at k i same)) does),
      )

      here : (b : Bool) → settles_row row ≡ b → j ≡ k → settled_then b settled k j ≡ true
      here false e same = subst (λ z. settled z ≡ true) (sym same) (old k
          (subst (λ (z : StepRow). Over z) is (over-before s suits) opens e
          (subst (IsOver On (Now row)) same over)))
      here true e same = changed_at settled k true j same

      there : (b : Bool) → settled j ≡ true → j ≢ k → settled_then b settled k j ≡ true
      there false was a = was
      there true was a = changed_else settled k true j a ∙ was
