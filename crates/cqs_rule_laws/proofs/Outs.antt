-- A number whose segment has left. Its cell is settled, and so final: it is no pass's own to wait at, and only a resume
-- that passes over it still has its ticket.
use Rattle.std.proofs.Common.{◌≡◌, ℕ, ◌/◌, ◌%◌, ◌<◌, true, sym, ap, ◌∙◌, subst, ⊎_elim, arith, Option, Some}
use mathlib.Core.Option.{some}
use lib.ListN.{get_elem?}
use Rattle.atomic_table.specs.Table.{State}
use Rattle.cqs_core.specs.declared.cells.CoreState.{CoreState}
use Rattle.cqs_core.specs.declared.cells.CoreState.TheVariants as state
use Rattle.cqs_core.specs.QueueCells.{rank}
use Rattle.cqs_core.specs.QueueEither.{IsSoundEither}
use Rattle.cqs_core.specs.QueueStages as stage
use Rattle.cqs_core.specs.QueueMoves.{IsCancelling}
use Rattle.cqs_core.specs.QueueStages.{Stage, doing_at}
use Rattle.cqs_core.proofs.EitherCells.{has-cell}
use Rattle.cqs_core.proofs.QueueUniform.{HasCell, HasNumber}
use Rattle.cqs_slots.proofs.Stands.{left-settled}
use Rattle.cqs_rule_laws.specs.declared.config.CancelMode.TheVariants.{Simple}
use Rattle.cqs_rule_laws.specs.declared.view.Opening.{Opening}
use Rattle.cqs_rule_laws.specs.declared.view.View.{View}
use Rattle.cqs_rule_laws.specs.Client.{IsClient}
use Rattle.cqs_rule_laws.specs.Hidden.{state_in}
use Rattle.cqs_rule_laws.specs.Layout.{client_words}
use Rattle.cqs_rule_laws.specs.Lists.{Has}
use Rattle.cqs_rule_laws.specs.Manner.{asks, at_once, IsSmart, Leaving, mode_for, passes_on}
use Rattle.cqs_rule_laws.specs.Object.{Object, Primitive}
use Rattle.cqs_rule_laws.specs.Ruled.{Ruled, IsFinal, Stands}
use Rattle.cqs_rule_laws.specs.SegmentSteps.{IsOwnNumber}
use Rattle.cqs_rule_laws.specs.Settling.{duties_in}
use Rattle.cqs_rule_laws.proofs.CellsStand.{number-split, place-few}

-- who leaves in simple mode is not passed over
simple-smart : (l : Leaving) → mode_for l ≡ Simple → IsSmart l → ⊥
simple-smart asks e smart = absurd (cc)
simple-smart passes_on e smart = absurd (cc)
simple-smart at_once e smart = smart

-- a cell whose wait is leaving isn't final
pub cancelling : (x : CoreState) → IsCancelling x → rank x ≡ 4 → ⊥
cancelling state.Cancelling m h = omega arith
cancelling state.Delegated m h = omega arith
cancelling state.Empty m h = m
cancelling state.Value m h = m
cancelling state.Waiter m h = m
cancelling state.Taken m h = m
cancelling state.Broken m h = m
cancelling state.Resumed m h = m
cancelling state.Cancelled m h = m
cancelling state.Refused m h = m

module _ {E S : Type 0} (object : Object E) (primitive : Primitive E S) (passes limit : ℕ) where
  abbrev R : State (Option S) (View E S) → Type 0
  R = Ruled object primitive passes limit

  -- what has left is settled
  pub out-settled : (s : State (Option S) (View E S)) (r : R s) (k : ℕ) → Has (k / 32) r.segments.outs
      → r.settled k ≡ true
  out-settled s r k out = subst (λ z. r.settled z ≡ true) (number-split k)
      (left-settled r.slots r.segments r.settled (duties_in (λ (z : View E S). z.facts.duties) s.views) (k / 32)
      (k % 32) r.cells.sound r.counted out (place-few k))

  pub out-final : (s : State (Option S) (View E S)) (r : R s) (k : ℕ) → Has (k / 32) r.segments.outs
      → IsFinal (IsSmart primitive.manner.leaving) r.hidden.queue k
  out-final s r k out = r.finals k (out-settled s r k out)

  -- a number at which a pass waits, or is to, or is leaving, has not
  pub own-stands : IsClient object primitive → (s : State (Option S) (View E S)) (r : R s) (id : ℕ) (v : View E S)
      (k : ℕ) → get_elem? s.views id ≡ some v → 0 < v.weight → IsOwnNumber v k → Has (k / 32) r.segments.outs → ⊥
  own-stands client s r id v k here on own out = ⊎_elim
      (λ e. final.come v.number (at.doing ∙ ap Some e))
      (λ rest. ⊎_elim (λ has. final.unwaited v.number (at.waits k has))
      (λ more. ⊎_elim
      (λ e. cancelling (cell stage.leaving e tt).cell.state (cell stage.leaving e tt).may (high stage.leaving e tt))
      (λ last. ⊎_elim
      (λ d. cancelling (cell (stage.decided d.0) d.1 tt).cell.state (cell (stage.decided d.0) d.1 tt).may
      (high (stage.decided d.0) d.1 tt))
      (λ t. simple-smart primitive.manner.leaving
      (sym client.mode ∙ (ap (λ (o : Opening). o.mode) (sym (r.each_view id v here on).opening_is) ∙ t.1))
      (final.met v.number (at.doing ∙ ap Some t.0)).1) last) more) rest)
      own
    where
      at : Stands r.hidden v.number v.facts
      at = (r.each_view id v here on).stands

      final : IsFinal (IsSmart primitive.manner.leaving) r.hidden.queue k
      final = out-final s r k out

      sound : IsSoundEither primitive.manner.watches r.hidden.queue
      sound = client.sound r.hidden (client_words s.words) r.log r.handed r.shown

      cell : (a : Stage) → v.facts.doing ≡ doing_at a k → HasNumber a
          → HasCell primitive.manner.watches r.hidden.queue v.number a k
      cell a e n = has-cell primitive.manner.watches r.hidden.queue sound v.number a k (at.doing ∙ ap Some e) n

      high : (a : Stage) (e : v.facts.doing ≡ doing_at a k) (n : HasNumber a) → rank (cell a e n).cell.state ≡ 4
      high a e n = sym (ap rank (ap state_in (cell a e n).there)) ∙ final.final
