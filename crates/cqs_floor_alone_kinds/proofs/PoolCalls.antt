-- What the clauses of a pool's calls tell of a pass that is its only caller, and its first.
use Rattle.std.proofs.Common.{◌≡◌, ℕ, true, [], ◌∷◌, ◌++◌, None, Ok, ap, ◌∙◌}
use Rattle.cqs_pool_object.specs.declared.entries.PoolEntry.{PoolEntry}
use Rattle.cqs_pool_object.specs.declared.entries.PoolEntry.TheVariants as entry
use Rattle.cqs_pool.specs.declared.answers.PoolLeft.TheVariants.{Cancelled, TooLate}
use Rattle.cqs_pool.specs.declared.answers.PoolPolled.TheVariants.{Granted, Pending}
use Rattle.cqs_pool.specs.declared.answers.Taking.TheVariants.{Took, Later}
use Rattle.cqs_pool.specs.declared.element.Element.{Element}
use Rattle.cqs_pool.specs.Alone.{IsOnlyCaller, IsPlainCancel}
use Rattle.cqs_pool.specs.Answers.{IsPolled, LeavesPass, Takes}
use Rattle.cqs_pool.specs.Calls.{CallRule}
use Rattle.cqs_pool.specs.Elements.{number_of, wait_of}
use Rattle.cqs_pool.specs.Entries.{passed_further, polled_entries, took_entries, took_further}
use Rattle.cqs_pool.specs.Steps.{HasCancelled}
use Rattle.cqs_pool.proofs.AloneSteps.{only-kept}
use Rattle.cqs_rule.specs.declared.queue.tokens.Wait.{Wait}
use Rattle.cqs_rule_laws.specs.declared.view.View.{View}
use Rattle.cqs_rule_laws.specs.Lists.{without}
use Rattle.cqs_rule.specs.Waits.{place_of}
use Rattle.cqs_floor_alone_kinds.proofs.PoolRests.{Comes, went}

module _ {T : Type 0} (v w : View PoolEntry T) where
  pub takes-comes : (element : Element)
      → CallRule v (took_entries v.number (Ok (Took element))) (took_further (Ok (Took element))) w
      → Takes v (Took element) w → IsOnlyCaller v → v.number ≡ 0
      → Comes v w (entry.Enter 0 (wait_of element) ∷ entry.Deliver (wait_of element) (number_of element) ∷ [])
      (number_of element ∷ v.facts.has.slots) v.facts.waits
  takes-comes element rule took only zero = record {
    same = rule.called.same;
    seen = went v w _ _ rule only.0
        ∙ ap (λ p. v.seen ++ (entry.Enter p (wait_of element) ∷ entry.Deliver (wait_of element) (number_of element)
        ∷ [])) zero;
    rests = took.1;
    only = only-kept v w _ _ rule only;
  }

  pub waits-comes : (wait : Wait)
      → CallRule v (took_entries v.number (Ok (Later wait))) (took_further (Ok (Later wait))) w
      → Takes v (Later wait) w → IsOnlyCaller v → v.number ≡ 0
      → Comes v w (entry.Enter 0 (place_of wait).index ∷ []) v.facts.has.slots
      (v.facts.waits ++ (place_of wait).index ∷ [])
  waits-comes wait rule (cell, token, rests) only zero = record {
    same = rule.called.same;
    seen = went v w _ _ rule only.0 ∙ ap (λ p. v.seen ++ entry.Enter p (place_of wait).index ∷ []) zero;
    rests = rests;
    only = only-kept v w _ _ rule only;
  }

  pub grants-comes : (wait : Wait) (element : Element)
      → CallRule v (polled_entries v.number (place_of wait).index (Granted element)) [] w
      → IsPolled wait v (Granted element) w → IsOnlyCaller v → v.number ≡ 0
      → Comes v w (entry.LookGranted 0 (place_of wait).index (number_of element) ∷ [])
      (number_of element ∷ v.facts.has.slots) (without (place_of wait).index v.facts.waits)
  grants-comes wait element rule (by, cell, rests) only zero = record {
    same = rule.called.same;
    seen = went v w _ _ rule only.0
        ∙ ap (λ p. v.seen ++ entry.LookGranted p (place_of wait).index (number_of element) ∷ []) zero;
    rests = rests;
    only = only-kept v w _ _ rule only;
  }

  pub pends-comes : (wait back : Wait)
      → CallRule v (polled_entries v.number (place_of wait).index (Pending back)) [] w
      → IsPolled wait v (Pending back) w → IsOnlyCaller v → v.number ≡ 0
      → Comes v w (entry.LookPending 0 (place_of wait).index ∷ []) v.facts.has.slots v.facts.waits
  pends-comes wait back rule (there, token, cell, rests) only zero = record {
    same = rule.called.same;
    seen = went v w _ _ rule only.0 ∙ ap (λ p. v.seen ++ entry.LookPending p (place_of wait).index ∷ []) zero;
    rests = rests;
    only = only-kept v w _ _ rule only;
  }

  pub lates-comes : (k : ℕ) (element : Element) → HasCancelled k v (TooLate element) w → IsOnlyCaller v
      → v.number ≡ 0
      → Comes v w (entry.Late 0 k (number_of element) ∷ []) (number_of element ∷ v.facts.has.slots)
      (without k v.facts.waits)
  lates-comes k element (e, passed, rule, (none, by, cell, rests)) only zero = record {
    same = rule.called.same;
    seen = went v w _ _ rule only.0
        ∙ ap (λ more. v.seen ++ (entry.Late v.number k (number_of element) ∷ passed_further e more)) none
        ∙ ap (λ p. v.seen ++ entry.Late p k (number_of element) ∷ []) zero;
    rests = rests;
    only = only-kept v w _ _ rule only;
  }

  pub leaves-comes : (k : ℕ) → HasCancelled k v (Cancelled None) w → LeavesPass k v (Cancelled None) w
      → (v.alone ≡ true → IsPlainCancel k v (Cancelled None) w) → IsOnlyCaller v → v.number ≡ 0
      → Comes v w (entry.Leave 0 k ∷ []) v.facts.has.slots (without k v.facts.waits)
  leaves-comes k (e, passed, rule, why) leaves plain only zero = record {
    same = rule.called.same;
    seen = (plain only.0).1 ∙ ap (λ p. v.seen ++ entry.Leave p k ∷ []) zero;
    rests = leaves;
    only = only-kept v w _ _ rule only;
  }
