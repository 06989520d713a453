-- What the callers of a pool came to: after one call, after a meet, and where all have put all back.
use Rattle.std.proofs.Common.{◌≡◌, ◌⊎◌, inl, inr, ℕ, suc, ◌+◌, List, [], ◌∷◌, ◌++◌, Some, length, take, slice_get, sum_by, refl, subst, arith}
use Rattle.std.proofs.lemmas.List.{length_push, take_all}
use Rattle.std.proofs.lemmas.List.Sums.{sum_by_push}
use Rattle.cqs_core.specs.Parts.{Has, part}
use Rattle.cqs_core.proofs.Histories.{walk, take-next}
use Rattle.cqs_core.proofs.Rising.{in-take, length-without}
use Rattle.cqs_pool_object.specs.declared.entries.PoolEntry.{PoolEntry}
use Rattle.cqs_pool_object.specs.declared.entries.PoolEntry.TheVariants as entry
use Rattle.cqs_pool_object.specs.PoolEntries.{IsAllowed, IsLegal, after_entry, object_after}
use Rattle.cqs_pool_object.specs.PoolNames.{entry_names}
use Rattle.cqs_pool_object.specs.PoolObject.{Pool, opening}
use Rattle.cqs_pool_object.proofs.PoolConserved.{conserved-after}
use Rattle.cqs_rule_laws.specs.Lists.{IsDistinct}
use Rattle.cqs_floor_shared_kinds.specs.Accounts.{NamesOne}
use Rattle.cqs_floor_shared_kinds.specs.PoolAccounts.{IsAccounted, gains, losses}
use Rattle.cqs_floor_shared_kinds.proofs.Accounts.{over-both, over-next, over-parts, over-whole}

-- what names a caller names just one
by-name : (f : PoolEntry → ℕ) → ((k e : ℕ) → f (entry.Deliver k e) ≡ 0) → NamesOne entry_names f
by-name f none (entry.Put c e) = inr (c, λ n. refl)
by-name f none (entry.Enter c k) = inr (c, λ n. refl)
by-name f none (entry.Deliver k e) = inl (none k e)
by-name f none (entry.Leave c k) = inr (c, λ n. refl)
by-name f none (entry.Late c k e) = inr (c, λ n. refl)
by-name f none (entry.LookGranted c k e) = inr (c, λ n. refl)
by-name f none (entry.LookPending c k) = inr (c, λ n. refl)

-- a caller went on, and has more or less of it
pub account-next : (number : ℕ) (rest : List ℕ) (seen more entries : List PoolEntry) (has after : ℕ)
    → part entry_names number more ≡ entries → ((n : ℕ) → Has n rest → part entry_names n more ≡ [])
    → sum_by gains entries + has ≡ sum_by losses entries + after
    → IsAccounted (number ∷ rest) seen has → IsAccounted (number ∷ rest) (seen ++ more) after
account-next number rest seen more entries has after mine none balance account =
    omega (
      arith,
      account,
      balance,
      over-next entry_names gains number rest seen more entries mine none,
      over-next entry_names losses number rest seen more entries mine none,
    )

-- two lists of callers, each of which has done the same as it had
pub account-both : (own others : List ℕ) (h theirs all : List PoolEntry) (has had : ℕ)
    → ((n : ℕ) → Has n own → part entry_names n all ≡ part entry_names n h)
    → ((n : ℕ) → Has n others → part entry_names n all ≡ part entry_names n theirs)
    → IsAccounted own h has → IsAccounted others theirs had → IsAccounted (own ++ others) all (has + had)
account-both own others h theirs all has had mine also a b =
    omega (
      arith,
      a,
      b,
      over-both entry_names gains own others all,
      over-both entry_names losses own others all,
      over-parts entry_names gains own h all mine,
      over-parts entry_names losses own h all mine,
      over-parts entry_names gains others theirs all also,
      over-parts entry_names losses others theirs all also,
    )

-- what has come to callers, by the entries so far
pub record Adds (o : Pool) (gained lost : ℕ) : Type 0 where
  pub had : length o.held + length o.line + lost ≡ gained

adds-entry : (o : Pool) (e : PoolEntry) (gained lost : ℕ) → IsAllowed o e → Adds o gained lost
    → Adds (after_entry o e) (gained + gains e) (lost + losses e)
adds-entry o (entry.Put c e) gained lost has a =
    let had = a.had in
    let fewer = length-without (λ x. x) e e o.held refl has in
    record { had = omega (arith, fewer) }
adds-entry o (entry.Enter c k) gained lost next a =
    let had = a.had in
    let longer = length_push o.line (record { wait = k; pass = c }) in
    record { had = omega (arith, longer) }
adds-entry o (entry.Deliver k e) gained lost ((c, waits), has) a =
    let had = a.had in
    let among = in-take (record { wait = k; pass = c }) (length o.way) o.line waits in
    let shorter = length-without (λ w. w.wait) k (record { wait = k; pass = c }) o.line refl among.1 in
    record { had = omega (arith, shorter) }
adds-entry o (entry.Leave c k) gained lost waits a =
    let had = a.had in
    let shorter = length-without (λ w. w.wait) k (record { wait = k; pass = c }) o.line refl waits in
    record { had = omega (arith, shorter) }
adds-entry o (entry.Late c k e) gained lost given a = let had = a.had in record { had = omega arith }
adds-entry o (entry.LookGranted c k e) gained lost given a = let had = a.had in record { had = omega arith }
adds-entry o (entry.LookPending c k) gained lost waits a = let had = a.had in record { had = omega arith }

abbrev AddsUp : List PoolEntry → Pool → Type 0
AddsUp h o = Adds o (sum_by gains h) (sum_by losses h)

adds-next : (history : List PoolEntry) (n : ℕ) (e : PoolEntry) (o : Pool) → slice_get history n ≡ Some e
    → IsAllowed o e → AddsUp (take n history) o → AddsUp (take (suc n) history) (after_entry o e)
adds-next history n e o got allowed adds =
    let front : List PoolEntry = take n history in
    rw (take-next history n e got, sum_by_push gains front e, sum_by_push losses front e)
    (adds-entry o e _ _ allowed adds)

-- a legal history adds up
adds-up : (size : ℕ) (history : List PoolEntry) → IsLegal size history
    → AddsUp history (object_after size history)
adds-up size history legal =
    let whole : AddsUp (take (length history) history) (object_after size (take (length history) history))
    = walk IsAllowed after_entry (opening size) history (λ n o. AddsUp (take n history) o) legal
    (λ n e got allowed adds. adds-next history n e _ got allowed adds) 0 (record { had = refl })
    (length history) (length history) (omega arith) (omega arith) in
    subst (λ h. AddsUp h (object_after size h)) (take_all (length history) history (omega arith)) whole

-- nobody holds an element, and nobody is in the line
pub record IsAtRest (size : ℕ) (o : Pool) : Type 0 where
  pub free : length o.way ≡ size
  pub held : length o.held ≡ 0
  pub line : length o.line ≡ 0

-- Where nobody but these callers is named, and they have nothing of it, the pool is at rest.
pub rests : (size : ℕ) (own : List ℕ) (h : List PoolEntry) → IsLegal size h → IsDistinct own
    → ((n : ℕ) → (part entry_names n h ≡ []) ⊎ Has n own) → IsAccounted own h 0
    → IsAtRest size (object_after size h)
rests size own h legal distinct whole account =
    let o : Pool = object_after size h in
    let all : AddsUp h o = adds-up size h legal in
    let conserved = conserved-after size h legal in
    let gained = over-whole entry_names gains (by-name gains (λ k e. refl)) own distinct h whole in
    let lost = over-whole entry_names losses (by-name losses (λ k e. refl)) own distinct h whole in
    let held : length o.held ≡ 0 = omega (arith, all.had, gained, lost, account) in
    record {
      free = omega (arith, conserved.all, held);
      held = held;
      line = omega (arith, all.had, gained, lost, account);
    }
