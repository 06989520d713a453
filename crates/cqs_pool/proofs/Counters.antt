-- What a load of the suspend counter found, and where in the history it was so.
use Rattle.std.proofs.Common.{◌≡◌, ℕ, ◌+◌, List, [], ◌∷◌, sym, refl, ap, ◌∙◌, arith, cond}
use Rattle.std.specs.Prelude.{count_by}
use Rattle.std.specs.List.{fold}
use Rattle.std.proofs.lemmas.List.{append-nil}
use Rattle.std.proofs.lemmas.List.Sums.{sum_by-cons}
use Rattle.cqs_pool_object.specs.declared.entries.PoolEntry.{PoolEntry}
use Rattle.cqs_pool_object.specs.declared.entries.PoolEntry.TheVariants as entry
use Rattle.cqs_pool_object.specs.PoolEntries.{object_after, after_entry}
use Rattle.cqs_pool_object.specs.PoolObject.{Pool, opening}
use Rattle.cqs_rule_laws.specs.declared.view.Opening.{Opening}
use Rattle.cqs_rule_laws.specs.declared.view.View.{View}
use Rattle.cqs_rule_laws.specs.Facts.{facts_counted}
use Rattle.cqs_rule_laws.specs.Loads.{CountLoaded}
use Rattle.cqs_rule_laws.specs.Saw.{Saw}
use Rattle.cqs_pool.specs.Causes.{primitive_of, is_enter, drawn_in}
use Rattle.cqs_pool.specs.Pool.{pool_object}

-- an entry draws a number exactly where it is an Enter
step-next : (o : Pool) (e : PoolEntry) → (after_entry o e).next ≡ o.next + cond (is_enter e) 1 0
step-next o (entry.Put c e) = omega arith
step-next o (entry.Enter c k) = refl
step-next o (entry.Deliver k e) = omega arith
step-next o (entry.Leave c k) = omega arith
step-next o (entry.Late c k e) = omega arith
step-next o (entry.LookGranted c k e) = omega arith
step-next o (entry.LookPending c k) = omega arith

next-from : (h : List PoolEntry) (o : Pool) → (fold after_entry o h).next ≡ o.next + count_by is_enter h
next-from [] o = omega arith
next-from (e ∷ h) o =
    let here = step-next o e in
    let later = next-from h (after_entry o e) in
    let both : count_by is_enter (e ∷ h) ≡ cond (is_enter e) 1 0 + count_by is_enter h =
    sum_by-cons (λ x. cond (is_enter x) 1 0) e h in
    omega arith

next-drawn : (size : ℕ) (h : List PoolEntry) → (object_after size h).next ≡ drawn_in h
next-drawn size h = let all = next-from h (opening size) in omega arith

module _ {T : Type 0} where
  -- The counter was found at n: it is the next number of the plain pool after all that the pass has seen.
  pub record NextIs (v : View PoolEntry T) (n : ℕ) (w : View PoolEntry T) : Type 0 where
    pub saw : Saw pool_object v (facts_counted v.limit n v.facts) [] w
    pub next : (object_after w.opening.size w.seen).next ≡ n

  pub next-is : (v w : View PoolEntry T) (n : ℕ) → CountLoaded pool_object primitive_of v n w → NextIs v n w
  next-is v w n loaded =
      let found = loaded.was in
      let was = found.was in
      record {
        saw = loaded.saw;
        next = ap (λ h. (object_after w.opening.size h).next) (found.seen ∙ append-nil found.before)
            ∙ (ap (λ (o : Opening). (object_after o.size found.before).next) (sym was.opening_is)
            ∙ (was.shown.is_pool.shows.next ∙ was.holds));
      }

  -- so many numbers were drawn by then
  pub next-count : (v w : View PoolEntry T) (n : ℕ) → NextIs v n w → drawn_in w.seen ≡ n
  next-count v w n next = sym (next-drawn w.opening.size w.seen) ∙ next.next
