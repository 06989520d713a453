-- What the cell of a number tells of its wait in the history of a pool: that no element was delivered to it.
use Rattle.std.proofs.Common.{◌≡◌, ◌⊎◌, inl, inr, ℕ, suc, ◌-◌, ◌<◌, Bool, true, false, not, List, [], Option, Some, None, length, take, slice_get, refl, ap, sym, ◌∙◌, subst, arith}
use Rattle.std.proofs.lemmas.List.{append-nil, take_all}
use Rattle.cqs_core.specs.declared.cells.CoreState.{CoreState}
use Rattle.cqs_core.specs.declared.cells.CoreState.TheVariants as state
use Rattle.cqs_core.specs.Keyed.{insert_by}
use Rattle.cqs_core.specs.Numbered.{IsIn}
use Rattle.cqs_core.specs.QueueLine.{Waiting}
use Rattle.cqs_core.proofs.Histories.{object-next, walk}
use Rattle.cqs_core.proofs.Picked.{IsKeyed}
use Rattle.cqs_core.proofs.Places.{get-below}
use Rattle.cqs_core.proofs.Rising.{in-take}
use Rattle.cqs_core.proofs.Waits.{IsFound, found-waits}
use Rattle.cqs_plan.specs.FloorHistory.{of_elements}
use Rattle.cqs_pool.specs.Causes.{CellWas}
use Rattle.cqs_pool.specs.Pool.{pool_shown}
use Rattle.cqs_pool.specs.PoolSize.{elements_of}
use Rattle.cqs_pool_object.specs.declared.entries.PoolEntry.{PoolEntry}
use Rattle.cqs_pool_object.specs.declared.entries.PoolEntry.TheVariants as entry
use Rattle.cqs_pool_object.specs.PoolEntries.{IsAllowed, IsLegal, after_deliver, after_entry, object_after, with_given}
use Rattle.cqs_pool_object.specs.PoolObject.{Given, Pool, opening}
use Rattle.cqs_pool_object.specs.PoolShown.{IsPool, PoolShape, given_of, is_given, services}
use Rattle.cqs_pool_object.proofs.PoolCounts.{given_wait}
use Rattle.cqs_rule_laws.specs.declared.view.View.{View}
use Rattle.cqs_rule_laws.specs.Hidden.{state_at, state_in}
use Rattle.cqs_floor_shared.specs.Entries.{IsUnserved}
use Rattle.cqs_floor_shared_kinds.proofs.Among.{Among, among-changed, among-placed, picked-of, placed-among}

-- Who was served stays among those who were.

looked_at : Given → Given
looked_at g = record { wait = g.wait; pass = g.pass; element = g.element; is_open = false }

with-given : (e : ℕ) (w : Option Waiting) (k : ℕ) (served : List Given) → Among given_wait k served
    → Among given_wait k (with_given e w served)
with-given e None k served among = among
with-given e (Some w) k served among =
    among-placed given_wait k (record { wait = w.wait; pass = w.pass; element = e; is_open = true }) served among

served-stays : (o : Pool) (e : PoolEntry) (k : ℕ) → Among given_wait k o.served
    → Among given_wait k (after_entry o e).served
served-stays o (entry.Put c e) k among = among
served-stays o (entry.Enter c j) k among = among
served-stays o (entry.Deliver j e) k among = with-given e _ k o.served among
served-stays o (entry.Leave c j) k among = among
served-stays o (entry.Late c j e) k among = among-changed given_wait _ (λ g. refl) k j o.served among
served-stays o (entry.LookGranted c j e) k among = among-changed given_wait _ (λ g. refl) k j o.served among
served-stays o (entry.LookPending c j) k among = among

served-new : (o : Pool) (k e : ℕ) → IsAllowed o (entry.Deliver k e) → Among given_wait k (after_deliver o k e).served
served-new o k e ((c, waits), there) =
    subst (λ w. Among given_wait k (with_given e w o.served)) (sym found.is)
    (subst (λ n. Among given_wait n (insert_by given_wait new o.served)) found.number
    (placed-among given_wait new o.served))
  where
    found : IsFound k c o.line
    found = found-waits k c o.line (in-take (record { wait = k; pass = c }) (length o.way) o.line waits).1

    new : Given
    new = record { wait = found.wait.wait; pass = found.wait.pass; element = e; is_open = true }

-- a wait that was delivered to is among the served
delivered-served : (size : ℕ) (history : List PoolEntry) → IsLegal size history → (k e : ℕ)
    → IsIn (entry.Deliver k e) history → Among given_wait k (object_after size history).served
delivered-served size history legal k e stands =
    subst (λ h. Among given_wait k (object_after size h).served) (take_all (length history) history (omega arith))
    (walk IsAllowed after_entry (opening size) history (λ i o. Among given_wait k o.served) legal
    (λ i f got allowed among. served-stays (object_after size (take i history)) f k among) (suc m)
    (rw (object-next IsAllowed after_entry (opening size) history m (entry.Deliver k e) stands.there)
    (served-new (object_after size (take m history)) k e (legal.at m (entry.Deliver k e) stands.there)))
    (length history - suc m) (length history) (omega (arith, within)) (omega arith))
  where
    m : ℕ
    m = stands.place

    within : m < length history
    within = get-below history m (entry.Deliver k e) stands.there

-- The cell of the number, in these states, is of a wait that wasn't served.
abbrev pub IsUnfilled : CoreState → Type 0
IsUnfilled s = (s ≡ state.Empty) ⊎ (s ≡ state.Cancelling)

no-given : (k : ℕ) (s : CoreState) (owner : Option ℕ) (collected : Bool) (e : ℕ) (v : Given) → IsUnfilled s
    → given_of k s owner collected e ≡ Some v → ⊥
no-given k s owner collected e v (inl is) some =
    let none : given_of k state.Empty owner collected e ≡ Some v
    = subst (λ t. given_of k t owner collected e ≡ Some v) is some in
    absurd (cc)
no-given k s owner collected e v (inr is) some =
    let none : given_of k state.Cancelling owner collected e ≡ Some v
    = subst (λ t. given_of k t owner collected e ≡ Some v) is some in
    absurd (cc)

given-number : (k : ℕ) (s : CoreState) (owner : Option ℕ) (collected : Bool) (e : ℕ) (v : Given)
    → given_of k s owner collected e ≡ Some v → v.wait ≡ k
given-number k state.Taken (Some p) collected e v some =
    let is : record { wait = k; pass = p; element = e; is_open = true } ≡ v = cc in ap given_wait (sym is)
given-number k state.Resumed (Some p) collected e v some =
    let is : record { wait = k; pass = p; element = e; is_open = not collected } ≡ v = cc in ap given_wait (sym is)
given-number k _ _ collected e v some = absurd (cc)

given-keyed : (payloads : ℕ → ℕ) → IsKeyed (is_given payloads) given_wait
given-keyed payloads =
    record { at = λ n c v some. given-number n c.state c.owner c.collected (payloads n) v some }

pool-unserved : (s : PoolShape) → IsPool s → (k : ℕ) (c : CoreState) → IsUnfilled c → state_at s.queue k ≡ c → (e : ℕ)
    → IsIn (entry.Deliver k e) s.history → ⊥
pool-unserved s pool k c unfilled is e stands =
    let shown : Among given_wait k (services s.queue s.payloads)
    = subst (λ served. Among given_wait k served) pool.shows.served
    (delivered-served s.size s.history pool.legal k e stands) in
    let p = picked-of (is_given s.payloads) given_wait (given-keyed s.payloads) k 0 s.queue.cells shown in
    let here : k ≡ p.place = omega (arith, p.at) in
    let at : p.x.state ≡ c = sym (ap state_in (ap (slice_get s.queue.cells) here ∙ p.there)) ∙ is in
    no-given k p.x.state p.x.owner p.x.collected (s.payloads k) p.y (subst IsUnfilled (sym at) unfilled) p.picks

-- What a call found of the cell of a number in its last step.
found-unserved : (c : CoreState) (k : ℕ) (w : View PoolEntry (Unit {0})) → IsUnfilled c → CellWas c k [] w
    → IsUnserved (of_elements w.seen) k
found-unserved c k w unfilled cell e stands =
    let shown = cell.was.was in
    pool-unserved (pool_shown (elements_of shown.client) shown.hidden cell.was.before) shown.shown.is_pool k c
    unfilled shown.holds.0 e
    (subst (λ h. IsIn (entry.Deliver k e) h) (cell.was.seen ∙ append-nil cell.was.before) stands)

-- the same by how a resumption ended
pub left-unserved : (k : ℕ) (w : View PoolEntry (Unit {0}))
    → CellWas state.Empty k [] w ⊎ CellWas state.Cancelling k [] w → IsUnserved (of_elements w.seen) k
left-unserved k w (inl cell) = found-unserved state.Empty k w (inl refl) cell
left-unserved k w (inr cell) = found-unserved state.Cancelling k w (inr refl) cell
