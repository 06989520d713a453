-- What the mode of a latch means for its queue: in smart mode resumes pass on, and in simple mode its cells are plain.
use Rattle.std.proofs.Common.{◌≡◌, ℕ, Option, Some, None, slice_get, refl, ap, ◌∙◌, subst}
use Rattle.cqs_core.specs.declared.cells.CoreCell.{CoreCell}
use Rattle.cqs_core.specs.Numbered.{EachAt}
use Rattle.cqs_core.specs.QueueState.{Queue}
use Rattle.cqs_resume.specs.AtOnce.{IsPlain, ShowsPlain}
use Rattle.cqs_rule_laws.specs.declared.config.CancelMode.{CancelMode}
use Rattle.cqs_rule_laws.specs.declared.config.CancelMode.TheVariants.{Smart, Simple}
use Rattle.cqs_rule_laws.specs.declared.view.Opening.{Opening}
use Rattle.cqs_rule_laws.specs.Hidden.{state_in, state_at}
use Rattle.cqs_rule_laws.specs.Manner.{Asks, IsAtOnce, IsSmart}
use Rattle.cqs_latch.specs.declared.client.LatchClient.{LatchClient}
use Rattle.cqs_latch.specs.Causes.{primitive_of}
use Rattle.cqs_latch.specs.Latch.{latch_manner, HoldsPlain}
use Rattle.cqs_latch.specs.LatchMade.{mode_of}

pub is-smart : (mode : CancelMode) → mode ≡ Smart → IsSmart (latch_manner mode).leaving
is-smart mode is = rw is tt

pub is-asked : (mode : CancelMode) → mode ≡ Smart → Asks (latch_manner mode).leaving
is-asked mode is = rw is tt

pub is-at_once : (mode : CancelMode) → mode ≡ Simple → IsAtOnce (latch_manner mode).leaving
is-at_once mode is = rw is tt

plain-at : (q : Queue) (k : ℕ) → EachAt (HoldsPlain Simple) q.cells → IsPlain (state_at q k)
plain-at q k each = by (slice_get q.cells k) refl
  where
    by : (found : Option CoreCell) → slice_get q.cells k ≡ found → IsPlain (state_in found)
    by None there = tt
    by (Some cell) there = each.at k cell there

pub shows-plain : {T : Type 0} (x : LatchClient T) → mode_of x ≡ Simple
    → ShowsPlain (primitive_of {T = T}) (primitive_of x).opening
shows-plain x simple = record {
  each = λ y c words log handed same shown k.
      let is : mode_of y ≡ Simple = ap (λ (o : Opening). o.mode) same ∙ simple in
      plain-at c.queue k (subst (λ m. EachAt (HoldsPlain m) c.queue.cells) is shown.plain);
}
