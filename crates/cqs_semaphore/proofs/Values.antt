-- The value that a release hands in.
use Rattle.std.proofs.Common.{◌≡◌, ◌∙◌, ℕ, ◌==◌, Bool, true, false, [], ◌∷◌, ◌++◌, refl, ap, sym, eq-eqb, if◌then◌else◌}
use Rattle.std.proofs.lemmas.List.{append-nil}
use Rattle.cqs_core.specs.declared.entries.Entry.{Entry}
use Rattle.cqs_core.specs.declared.entries.Entry.TheVariants as entry
use Rattle.cqs_rule_laws.specs.declared.view.View.{View}
use Rattle.cqs_rule_laws.specs.Lists.{IsPrefix}
use Rattle.cqs_semaphore_client.specs.SemaphoreSlots.{GivesValue, GaveValue, IsFull}
use Rattle.cqs_semaphore_client.specs.Semaphore.{semaphore_object, gives_one}
use Rattle.cqs_semaphore_client.specs.SemaphoreSteps.{OnState}
use Rattle.cqs_words.specs.State.{is_below_zero}
use Rattle.cqs_rule_laws.specs.Events.{in_any_case}
use Rattle.cqs_rule_laws.specs.Slots.{laid_in, handed_in, LaysNone}
use Rattle.cqs_rule_laws.specs.SlotSteps.{HandedBy, WasHandedBy}
use Rattle.cqs_rule_laws.proofs.HandedBy.{was-handed, was-left}

module _ {T : Type 0} where
  -- it is still handed in after more was seen
  pub gave-value : (kept : Bool) (v : View Entry T) (n : ℕ) (u w : View Entry T) → OnState gives_one in_any_case v n u
      → GivesValue kept v u → IsPrefix u.seen w.seen → IsPrefix u.handed w.handed → LaysNone u.laid w.laid
      → GaveValue kept v w
  gave-value false v n u w saw gives seen more less = tt
  gave-value true v n u w saw gives seen more less = λ y is. by (is_below_zero n) y (gives y is) saw.saw.seen
    where
      own : (v.number == v.number) ≡ true
      own = eq-eqb v.number v.number refl

      by : (b : Bool) (y : T) → HandedBy semaphore_object 0 y v u
          → u.seen ≡ (v.seen ++ saw.saw.between)
          ++ (if b then entry.GiveSent v.number ∷ [] else entry.GiveFreed v.number ∷ [])
          → WasHandedBy semaphore_object 0 y v w
      by true y by-step ends = was-handed semaphore_object 0 y v u w (v.seen ++ saw.saw.between)
          (entry.GiveSent v.number) by-step ends (saw.saw.between, refl) own refl seen more less
      by false y by-step ends = was-handed semaphore_object 0 y v u w (v.seen ++ saw.saw.between)
          (entry.GiveFreed v.number) by-step ends (saw.saw.between, refl) own refl seen more less

  pub gave-at-once : (kept : Bool) (v : View Entry T) (n : ℕ) (w : View Entry T) → OnState gives_one in_any_case v n w
      → GivesValue kept v w → GaveValue kept v w
  gave-at-once kept v n w saw gives =
      gave-value kept v n w w saw gives ([], sym (append-nil w.seen)) ([], sym (append-nil w.handed)) (λ k bare. bare)

  -- a claim before leaves the slot as it is
  pub full-left : (kept : Bool) (v t : View Entry T) → t.laid ≡ v.laid → t.handed ≡ v.handed → IsFull kept v
      → IsFull kept t
  full-left false v t laid handed full = tt
  full-left true v t laid handed full = record {
    value = full.value;
    laid = ap (λ l. laid_in l 0) laid ∙ full.laid;
    last = full.last;
    filled = ap (λ l. handed_in l 0) handed ∙ full.filled;
  }

  pub gave-left : (kept : Bool) (v t w : View Entry T) → t.laid ≡ v.laid → t.handed ≡ v.handed → t.seen ≡ v.seen
      → t.number ≡ v.number → GaveValue kept t w → GaveValue kept v w
  gave-left false v t w laid handed seen number gave = tt
  gave-left true v t w laid handed seen number gave = λ y is.
      was-left semaphore_object 0 y v t w handed seen number (gave y (ap (λ l. laid_in l 0) laid ∙ is))
