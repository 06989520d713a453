-- An acquire of a synchronous semaphore is its steps: those of a semaphore's up to the door, and then a suspend.
use Rattle.std.proofs.Common.{ℕ, ◌+◌, false, [], ◌∷◌, ◌++◌, Option, Ok, sym, refl, ap, ◌∙◌, subst}
use Rattle.cqs_core.specs.declared.cells.CoreState.TheVariants as state
use Rattle.cqs_core.specs.declared.entries.Entry.{Entry}
use Rattle.cqs_core.specs.declared.entries.Entry.TheVariants as entry
use Rattle.cqs_core.specs.QueueSteps.{draws}
use Rattle.cqs_rule_laws.specs.declared.view.Has.{Has as OwnHas}
use Rattle.cqs_rule_laws.specs.declared.view.View.{View}
use Rattle.cqs_rule_laws.specs.Called.{Called}
use Rattle.cqs_rule_laws.specs.CallRule.{IsReady}
use Rattle.cqs_rule_laws.specs.Lists.{Has}
use Rattle.cqs_rule_laws.proofs.Calls.{called-and}
use Rattle.cqs_rule_laws.proofs.Causes.{Onward}
use Rattle.cqs_rule_laws.proofs.Rules.{call-rule, call-rule_own}
use Rattle.cqs_rule.specs.Waits.{place_of}
use Rattle.cqs_semaphore_client.specs.Semaphore.{semaphore_object}
use Rattle.cqs_semaphore_client.specs.SemaphoreMade.{primitive_of}
use Rattle.cqs_suspend.proofs.Sat.{sat-installed, sat-watched, sat-broken}
use Rattle.cqs_semaphore.specs.Answers.{IsBelow, Takes}
use Rattle.cqs_semaphore.specs.Calls.{CallRule}
use Rattle.cqs_semaphore.specs.Causes.{CellWas}
use Rattle.cqs_semaphore.specs.Entries.{came_by, took_entries}
use Rattle.cqs_semaphore.proofs.AcquireSteps.{Came, below-later, was-none}
use Rattle.cqs_sync_semaphore.specs.Answers.{Acquires}
use Rattle.cqs_sync_semaphore.specs.Entries.{acquired_entries, acquired_further}
use Rattle.cqs_sync_semaphore.specs.Steps.{WaitsInLine}
use Rattle.cqs_sync_semaphore.specs.declared.answers.SyncAcquired.{SyncAcquired}
use Rattle.cqs_sync_semaphore.specs.declared.answers.SyncAcquired.TheVariants.{Now, Later, Broke}

module _ {T : Type 0} where
  pub waits-called : (v x w : View Entry T) (a : SyncAcquired) → Came false v x → WaitsInLine x a w
      → Has v.number v.own → semaphore_object.legal w.opening w.seen
      → CallRule v (acquired_entries v.number (Ok a)) (acquired_further (Ok a)) w
  waits-called v x w (Now permit) c e own legal =
      let k = e.0 in
      subst (λ (n : Option ℕ). CallRule v (took_entries v.number n) (came_by n) w) (sym e.2)
      (call-rule semaphore_object v w (entry.TakeDoor v.number ∷ entry.Enter v.number k ∷ []) (entry.Deliver k ∷ [])
      (subst (λ p. Called semaphore_object v
      (entry.TakeDoor v.number ∷ entry.Enter p k ∷ entry.Deliver k ∷ []) (entry.Deliver k ∷ []) w) c.called.same.number
      (called-and semaphore_object v x w _ _ _ _ c.called e.3.called))
      (λ n. refl, (λ n. refl, tt)) (λ n. refl, tt) own legal)
  waits-called v x w (Later wait) c e own legal =
      let k = (place_of wait).index in
      call-rule_own semaphore_object v w (entry.TakeDoor v.number ∷ entry.Enter v.number k ∷ []) []
      (subst (λ p. Called semaphore_object v (entry.TakeDoor v.number ∷ entry.Enter p k ∷ []) [] w) c.called.same.number
      (called-and semaphore_object v x w _ _ _ _ c.called e.0.called))
      (λ n. refl, (λ n. refl, tt)) own legal
  waits-called v x w (Broke k) c e own legal =
      call-rule_own semaphore_object v w
      (entry.TakeDoor v.number ∷ entry.Enter v.number k ∷ entry.Undo v.number k ∷ []) (entry.Undo v.number k ∷ [])
      (subst (λ p. Called semaphore_object v
      (entry.TakeDoor v.number ∷ entry.Enter p k ∷ entry.Undo p k ∷ []) (entry.Undo p k ∷ []) w) c.called.same.number
      (called-and semaphore_object v x w _ _ _ _ c.called e.1.called))
      (λ n. refl, (λ n. refl, (λ n. refl, tt))) own legal

  onward : (x w : View Entry T) (a : SyncAcquired) → WaitsInLine x a w → Onward x w
  onward x w (Now permit) e = (sat-watched semaphore_object primitive_of draws 2 e.0 e.1 x w e.3).onward
  onward x w (Later wait) e =
      (sat-installed semaphore_object primitive_of draws 0 (place_of wait).index 0 x w e.0).onward
  onward x w (Broke k) e = (sat-broken semaphore_object primitive_of draws 3 k e.0 x w e.1).onward

  pub waits-below : (v x w : View Entry T) (a : SyncAcquired) → Came false v x → WaitsInLine x a w → IsBelow v w
  waits-below v x w a c e = let on = onward x w a e in below-later false v x w c on.seen on.found

  pub waits-acquired : (v x w : View Entry T) (a : SyncAcquired) → IsReady v.facts → Came false v x → WaitsInLine x a w
      → Acquires v a w
  waits-acquired v x w (Now permit) r c e =
      let k = e.0 in
      let s = sat-watched semaphore_object primitive_of draws 2 k e.1 x w e.3 in
      subst (λ (n : Option ℕ). Takes v n w) (sym e.2) (
        was-none v x w c s.onward,
        s.cell.0,
        record {
          ready = record { idle = s.idle; further = ap (λ (h : OwnHas). h.further) s.has_is ∙ (c.further ∙ r.further) };
          held_is = ap (λ (h : OwnHas). h.held) s.has_is ∙ ap (λ h. h + 1) c.held;
          waits_are = s.waits_are ∙ c.waits;
        },
      )
  waits-acquired v x w (Later wait) r c e =
      let k = (place_of wait).index in
      let s = sat-installed semaphore_object primitive_of draws 0 k 0 x w e.0 in (
        was-none v x w c s.onward,
        s.cell.0,
        e.1,
        record {
          ready = record { idle = s.idle; further = ap (λ (h : OwnHas). h.further) s.has_is ∙ (c.further ∙ r.further) };
          held_is = ap (λ (h : OwnHas). h.held) s.has_is ∙ c.held;
          waits_are = s.waits_are ∙ ap (λ l. l ++ k ∷ []) c.waits;
        },
      )
  waits-acquired v x w (Broke k) r c e =
      let s = sat-broken semaphore_object primitive_of draws 3 k e.0 x w e.1 in (
        was-none v x w c s.onward,
        subst (λ p. CellWas state.Broken k (entry.Undo p k ∷ []) w) c.called.same.number s.cell.0,
        record {
          ready = record { idle = s.idle; further = ap (λ (h : OwnHas). h.further) s.has_is ∙ (c.further ∙ r.further) };
          held_is = ap (λ (h : OwnHas). h.held) s.has_is ∙ c.held;
          waits_are = s.waits_are ∙ c.waits;
        },
      )
