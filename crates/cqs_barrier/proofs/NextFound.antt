-- What the suspend counter was is the next number of the plain barrier.
use Rattle.std.proofs.Common.{ℕ, sym, ap, ◌∙◌}
use Rattle.std.proofs.lemmas.List.{append-nil}
use Rattle.cqs_barrier_object.specs.declared.entries.BarrierEntry.{BarrierEntry}
use Rattle.cqs_barrier_object.specs.BarrierEntries.{object_after}
use Rattle.cqs_barrier_object.specs.BarrierObject.{Barrier}
use Rattle.cqs_rule_laws.specs.declared.view.Opening.{Opening}
use Rattle.cqs_rule_laws.specs.declared.view.View.{View}
use Rattle.cqs_rule_laws.specs.Loads.{CountLoaded}
use Rattle.cqs_barrier.specs.Arriving.{NextIs}
use Rattle.cqs_barrier.specs.Barrier.{barrier_object}
use Rattle.cqs_barrier.specs.Causes.{primitive_of}

pub next_is : {T : Type 0} (v w : View BarrierEntry T) (n : ℕ)
    → CountLoaded barrier_object primitive_of v n w → NextIs v n w
next_is v w n loaded =
    let found = loaded.was in
    let was = found.was in
    record {
      saw = loaded.saw;
      next = ap (λ h. (object_after w.opening.size h).waiters.next) (found.seen ∙ append-nil found.before)
          ∙ (ap (λ (o : Opening). (object_after o.size found.before).waiters.next) (sym was.opening_is)
          ∙ (ap (λ (o : Barrier). o.waiters.next) was.shown.barrier.object ∙ was.holds));
    }
