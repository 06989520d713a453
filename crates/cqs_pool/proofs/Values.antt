-- The value that a put hands in.
use Rattle.std.proofs.Common.{◌≡◌, ◌∙◌, ℕ, ◌<◌, Bool, true, false, ◌++◌, refl, ap, Some, arith, eq-eqb}
use Rattle.cqs_core.specs.QueueSteps.{puts, row_of}
use Rattle.cqs_pool_object.specs.declared.entries.PoolEntry.{PoolEntry}
use Rattle.cqs_pool_object.specs.declared.entries.PoolEntry.TheVariants as entry
use Rattle.cqs_rule_laws.specs.declared.view.View.{View}
use Rattle.cqs_rule_laws.specs.Lists.{IsPrefix}
use Rattle.cqs_rule_laws.specs.Slots.{laid_in, handed_in, LaysNone}
use Rattle.cqs_rule_laws.specs.SlotSteps.{LaysValue, HandedBy}
use Rattle.cqs_rule_laws.specs.Counts.{DrewBy}
use Rattle.cqs_rule_laws.proofs.HandedBy.{was-handed, was-left}
use Rattle.cqs_pool.specs.Pool.{pool_object}
use Rattle.cqs_pool.specs.PoolSize.{slots_when}
use Rattle.cqs_pool.specs.Values.{IsFull, GaveValue}

module _ {T : Type 0} where
  -- where there is a slot, a value lies there
  pub full-lays : (kept : Bool) (e n : ℕ) (v : View PoolEntry T) → IsFull kept e v → e < slots_when kept n
      → LaysValue e v
  full-lays false e n v full low = absurd (omega arith)
  full-lays true e n v full low = full

  -- it is still handed in after more was seen
  pub gave-value : (kept : Bool) (e : ℕ) (v : View PoolEntry T) (k : ℕ) (u w : View PoolEntry T)
      → DrewBy pool_object puts (row_of puts) e v k u
      → ((y : T) → laid_in v.laid e ≡ Some (Some y) → HandedBy pool_object e y v u) → IsPrefix u.seen w.seen
      → IsPrefix u.handed w.handed → LaysNone u.laid w.laid → GaveValue kept e v w
  gave-value false e v k u w drew gives seen more less = tt
  gave-value true e v k u w drew gives seen more less = λ y is.
      was-handed pool_object e y v u w (v.seen ++ drew.between) (entry.Put v.number e) (gives y is) drew.seen
      (drew.between, refl) (eq-eqb v.number v.number refl) refl seen more less

  -- a claim before leaves the slot as it is
  pub full-left : (kept : Bool) (e : ℕ) (v t : View PoolEntry T) → t.laid ≡ v.laid → t.handed ≡ v.handed
      → IsFull kept e v → IsFull kept e t
  full-left false e v t laid handed full = tt
  full-left true e v t laid handed full = record {
    value = full.value;
    laid = ap (λ l. laid_in l e) laid ∙ full.laid;
    last = full.last;
    filled = ap (λ l. handed_in l e) handed ∙ full.filled;
  }

  pub gave-left : (kept : Bool) (e : ℕ) (v t w : View PoolEntry T) → t.laid ≡ v.laid → t.handed ≡ v.handed
      → t.seen ≡ v.seen → t.number ≡ v.number → GaveValue kept e t w → GaveValue kept e v w
  gave-left false e v t w laid handed seen number gave = tt
  gave-left true e v t w laid handed seen number gave = λ y is.
      was-left pool_object e y v t w handed seen number (gave y (ap (λ l. laid_in l e) laid ∙ is))
