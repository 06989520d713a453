-- Where every caller has given back what it came to, a pool is quiet.
use Rattle.std.proofs.Common.{◌≡◌, ℕ, suc, ◌+◌, ◌<◌, true, List, Some, length, take, slice_get, sum_by, refl, sym, ◌∙◌, subst, arith, eq-eqb}
use Rattle.std.proofs.lemmas.List.{length_push, take_all}
use Rattle.std.proofs.lemmas.List.Sums.{sum_by_push}
use Rattle.cqs_core.specs.Parts.{part}
use Rattle.cqs_core.proofs.Histories.{walk, take-next}
use Rattle.cqs_core.proofs.Rising.{in-take, length-without}
use Rattle.cqs_pool_object.specs.declared.entries.PoolEntry.{PoolEntry}
use Rattle.cqs_pool_object.specs.declared.entries.PoolEntry.TheVariants as element
use Rattle.cqs_pool_object.specs.PoolNames.{entry_names as element_names}
use Rattle.cqs_pool_object.specs.PoolObject.{Pool, opening}
use Rattle.cqs_pool_object.specs.PoolEntries.{IsAllowed, IsLegal, after_entry, object_after}
use Rattle.cqs_work.specs.Even.{element_gains, element_losses, NamesBelow, EveryEvenPoolIsQuiet}
use Rattle.cqs_work.proofs.Shares.{over_callers, over-same, over-none, over-one, share, sum-by-parts}
use Rattle.cqs_work.proofs.QuietSemaphores.{none-left}

-- what has come to callers, by the entries so far
record Adds (o : Pool) (gained lost : ℕ) : Type 0 where
  had : length o.held + length o.line + lost ≡ gained

adds-entry : (o : Pool) (e : PoolEntry) (gained lost : ℕ) → IsAllowed o e → Adds o gained lost
    → Adds (after_entry o e) (gained + element_gains e) (lost + element_losses e)
adds-entry o (element.Put c e) gained lost held a =
    let had = a.had in
    let shorter = length-without (λ x. x) e e o.held refl held in
    record { had = omega (arith, shorter) }
adds-entry o (element.Enter c k) gained lost next a =
    let had = a.had in
    let longer = length_push o.line (record { wait = k; pass = c }) in
    record { had = omega (arith, longer) }
adds-entry o (element.Deliver k e) gained lost ((c, waits), there) a =
    let had = a.had in
    let among = in-take (record { wait = k; pass = c }) (length o.way) o.line waits in
    let shorter = length-without (λ w. w.wait) k (record { wait = k; pass = c }) o.line refl among.1 in
    record { had = omega (arith, shorter) }
adds-entry o (element.Leave c k) gained lost waits a =
    let had = a.had in
    let shorter = length-without (λ w. w.wait) k (record { wait = k; pass = c }) o.line refl waits in
    record { had = omega (arith, shorter) }
adds-entry o (element.Late c k e) gained lost given a = let had = a.had in record { had = omega arith }
adds-entry o (element.LookGranted c k e) gained lost given a = let had = a.had in record { had = omega arith }
adds-entry o (element.LookPending c k) gained lost waits a = let had = a.had in record { had = omega arith }

abbrev AddsUp : List PoolEntry → Pool → Type 0
AddsUp h o = Adds o (sum_by element_gains h) (sum_by element_losses h)

adds-next : (history : List PoolEntry) (n : ℕ) (e : PoolEntry) (o : Pool) → slice_get history n ≡ Some e → IsAllowed o e
    → AddsUp (take n history) o → AddsUp (take (suc n) history) (after_entry o e)
adds-next history n e o got allowed adds =
    let front : List PoolEntry = take n history in
    rw (take-next history n e got, sum_by_push element_gains front e, sum_by_push element_losses front e)
    (adds-entry o e _ _ allowed adds)

-- a legal history adds up
adds-up : (elements : ℕ) (history : List PoolEntry) → IsLegal elements history
    → AddsUp history (object_after elements history)
adds-up elements history legal =
    let whole : AddsUp (take (length history) history) (object_after elements (take (length history) history))
    = walk IsAllowed after_entry (opening elements) history (λ n o. AddsUp (take n history) o) legal
    (λ n e got allowed adds. adds-next history n e _ got allowed adds) 0 (record { had = refl })
    (length history) (length history) (omega arith) (omega arith) in
    subst (λ h. AddsUp h (object_after elements h)) (take_all (length history) history (omega arith)) whole

-- each entry that counts names one of the callers
counts-once : (f : PoolEntry → ℕ) → ((k e : ℕ) → f (element.Deliver k e) ≡ 0) → (n : ℕ) (e : PoolEntry)
    → ((c : ℕ) → element_names c e ≡ true → c < n) → over_callers n (share element_names f e) ≡ f e
counts-once f none n (element.Put c e) below = over-one n c (f (element.Put c e)) (below c (eq-eqb c c refl))
counts-once f none n (element.Enter c k) below = over-one n c (f (element.Enter c k)) (below c (eq-eqb c c refl))
counts-once f none n (element.Deliver k e) below = over-none n ∙ sym (none k e)
counts-once f none n (element.Leave c k) below = over-one n c (f (element.Leave c k)) (below c (eq-eqb c c refl))
counts-once f none n (element.Late c k e) below = over-one n c (f (element.Late c k e)) (below c (eq-eqb c c refl))
counts-once f none n (element.LookGranted c k e) below =
    over-one n c (f (element.LookGranted c k e)) (below c (eq-eqb c c refl))
counts-once f none n (element.LookPending c k) below =
    over-one n c (f (element.LookPending c k)) (below c (eq-eqb c c refl))

parts-add : (f : PoolEntry → ℕ) → ((k e : ℕ) → f (element.Deliver k e) ≡ 0) → (n : ℕ) (h : List PoolEntry)
    → NamesBelow element_names n h → over_callers n (λ c. sum_by f (part element_names c h)) ≡ sum_by f h
parts-add f none n h below =
    sum-by-parts element_names f n h (λ i e got. counts-once f none n e (λ c named. below.at i c e got named))

pub even-pools : EveryEvenPoolIsQuiet
even-pools elements callers h legal below even =
    let o : Pool = object_after elements h in
    let all : AddsUp h o = adds-up elements h legal in
    let given : sum_by element_losses h ≡ sum_by element_gains h
    = sym (parts-add element_losses (λ k e. refl) callers h below)
    ∙ over-same callers (λ c. sum_by element_losses (part element_names c h))
    (λ c. sum_by element_gains (part element_names c h)) (λ c under. (even c under).given)
    ∙ parts-add element_gains (λ k e. refl) callers h below in
    let had = all.had in
    record {
      held = none-left o.held (omega (arith, had, given));
      line = none-left o.line (omega (arith, had, given));
    }
