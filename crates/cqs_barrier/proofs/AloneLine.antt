-- What a pass sees that is alone and idle: nobody waits whose number a resume has reached, and where all have arrived
-- nobody waits.
use Rattle.std.proofs.Common.{◌≡◌, ◌≢◌, ℕ, suc, ◌+◌, List, [], ◌∷◌, length, Some, slice_get, sym, refl, ap, ◌∙◌, subst, arith, sum}
use Rattle.std.proofs.lemmas.List.Sums.{sum_by-cons}
use Rattle.std.proofs.lemmas.Option.{same_Some}
use mathlib.Core.Logic.{dite}
use native.Mathlib.Decide.{ℕ_discrete}
use Rattle.cqs_core.specs.declared.doings.Doing.{Doing}
use Rattle.cqs_core.specs.declared.doings.Doing.TheVariants as doing
use Rattle.cqs_core.specs.QueueLine as queue
use Rattle.cqs_core.specs.QueueLine.{Waiting}
use Rattle.cqs_core.specs.QueueWaiters.{Waiters, waiters}
use Rattle.cqs_core.specs.Resting.{IsIdle}
use Rattle.cqs_core.proofs.IdleLines.{line-rises, number_in}
use Rattle.cqs_core.proofs.Places.{get-below}
use Rattle.cqs_core.proofs.Quiet.{behind, none-going}
use Rattle.cqs_core.proofs.Rising.{IsRising}
use Rattle.cqs_rule_laws.specs.declared.view.Opening.{Opening}
use Rattle.cqs_rule_laws.specs.declared.view.View.{View}
use Rattle.cqs_rule_laws.specs.Alone.{IsAlone}
use Rattle.cqs_barrier_object.specs.declared.entries.BarrierEntry.{BarrierEntry}
use Rattle.cqs_barrier_object.specs.BarrierEntries.{object_after}
use Rattle.cqs_barrier_object.specs.BarrierObject.{Barrier}
use Rattle.cqs_barrier_object.specs.BarrierShown.{Shape}
use Rattle.cqs_barrier.specs.Barrier.{barrier_shown, further_of}
use Rattle.cqs_barrier.specs.BarrierClient.{further-at}
use Rattle.cqs_barrier.specs.Calls.{plain_after}
use Rattle.cqs_barrier.specs.Causes.{primitive_of}
use Rattle.cqs_barrier.specs.Parties.{parties_of}

sum-none : (xs : List ℕ) → ((i n : ℕ) → slice_get xs i ≡ Some n → n ≡ 0) → sum xs ≡ 0
sum-none [] none = refl
sum-none (x ∷ xs) none =
    let first : x ≡ 0 = none 0 x refl in
    let rest : sum xs ≡ 0 = sum-none xs (λ i n at. none (suc i) n at) in
    sum_by-cons (λ n. n) x xs ∙ (λ i. first i + rest i)

module _ {T : Type 0} where
  abbrev pub shape_of : (v : View BarrierEntry T) → IsAlone primitive_of v → Shape
  shape_of v a = barrier_shown (parties_of a.client) a.hidden a.words v.seen

  -- the plain barrier is what the queue shows
  pub sees : (v : View BarrierEntry T) (a : IsAlone primitive_of v)
      → (plain_after v).waiters ≡ waiters a.hidden.queue
  sees v a =
      ap (λ (o : Opening). (object_after o.size v.seen).waiters) (sym a.opening_is)
      ∙ ap (λ (o : Barrier). o.waiters) a.shown.barrier.object

  pub sees-remaining : (v : View BarrierEntry T) (a : IsAlone primitive_of v)
      → (plain_after v).remaining ≡ (shape_of v a).remaining
  sees-remaining v a =
      ap (λ (o : Opening). (object_after o.size v.seen).remaining) (sym a.opening_is)
      ∙ ap (λ (o : Barrier). o.remaining) a.shown.barrier.object

  pub line-rising : (v : View BarrierEntry T) (a : IsAlone primitive_of v)
      → IsRising number_in 0 (0 + length a.hidden.queue.cells) (plain_after v).waiters.line
  line-rising v a =
      subst (λ (w : Waiters). IsRising number_in 0 (0 + length a.hidden.queue.cells) w.line) (sym (sees v a))
      (line-rises a.hidden.queue)

  pub all-idle : (v : View BarrierEntry T) (a : IsAlone primitive_of v) → v.facts.doing ≡ doing.Idle
      → IsIdle a.hidden.queue.doing
  all-idle v a idle = record { at = λ p d there. idle-at p d there }
    where
      idle-at : (p : ℕ) (d : Doing) → slice_get a.hidden.queue.doing p ≡ Some d → d ≡ doing.Idle
      idle-at p d there = dite (ℕ_discrete p v.number)
          (λ (e : p ≡ v.number). same_Some d doing.Idle
          (sym there ∙ (ap (slice_get a.hidden.queue.doing) e ∙ (a.stands.doing ∙ ap Some idle))))
          (λ (other : p ≢ v.number).
          let below = get-below a.hidden.queue.doing p d there in
          let long = a.places in
          let r = a.others p other (omega arith) in
          same_Some d doing.Idle (sym there ∙ (r.stands.doing ∙ ap Some r.idle)))

  none-owed : (v : View BarrierEntry T) (a : IsAlone primitive_of v) → v.facts.has.further ≡ 0
      → sum (further_of a.hidden.has) ≡ 0
  none-owed v a none = sum-none (further_of a.hidden.has) (λ i n at. owed-at i n at)
    where
      owed-at : (p n : ℕ) → slice_get (further_of a.hidden.has) p ≡ Some n → n ≡ 0
      owed-at p n there = dite (ℕ_discrete p v.number)
          (λ (e : p ≡ v.number).
          let own = further-at a.hidden.has v.number v.facts.has a.stands.has in
          same_Some n v.facts.has.further (sym there ∙ (ap (slice_get (further_of a.hidden.has)) e ∙ own)) ∙ none)
          (λ (other : p ≢ v.number).
          let below = get-below (further_of a.hidden.has) p n there in
          let long = a.places in
          let owners = a.shown.barrier.owners in
          let r = a.others p other (omega arith) in
          let own = further-at a.hidden.has p r.facts.has r.stands.has in
          same_Some n r.facts.has.further (sym there ∙ own) ∙ r.owes_none)

  -- where all have arrived, nobody waits for one who is alone, idle, and owes nothing
  pub nobody-waits : (v : View BarrierEntry T) → IsAlone primitive_of v → v.facts.doing ≡ doing.Idle
      → v.facts.has.further ≡ 0 → (plain_after v).remaining ≡ 0 → (plain_after v).waiters.line ≡ []
  nobody-waits v a idle none over =
      let s = shape_of v a in
      let b = a.shown.barrier in
      let q = a.hidden.queue in
      let rests = all-idle v a idle in
      let balance = b.over (sym (sees-remaining v a) ∙ over) in
      let owed = none-owed v a none in
      let within = behind q b.sound rests (sum s.owed) balance in
      let still = none-going q b.sound rests within in
      let empty : length (queue.line q) ≡ 0 = omega arith in
      ap (λ (w : Waiters). w.line) (sees v a) ∙ is-empty (queue.line q) empty
    where
      is-empty : (l : List Waiting) → length l ≡ 0 → l ≡ []
      is-empty [] none = refl
      is-empty (x ∷ l) none = absurd (omega arith)
