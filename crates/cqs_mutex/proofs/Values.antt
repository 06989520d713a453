-- What lies in the slot, and what a pass holds, after the calls of the semaphore.
use Rattle.std.proofs.Common.{◌≡◌, ◌≢◌, ℕ, ◌+◌, ◌==◌, Bool, true, false, List, [], ◌∷◌, ◌++◌, sym, refl, ap, ◌∙◌, subst, Option, Some, None, if◌then◌else◌, Result, Ok, Err}
use Rattle.std.specs.Prelude.{IfOk, IsErrOf, OnOk, OnErr}
use Rattle.cqs_core.specs.declared.entries.Entry.{Entry}
use Rattle.cqs_rule_laws.specs.declared.carries.Kept.{Kept}
use Rattle.cqs_rule_laws.specs.declared.config.AcquireError.{AcquireError}
use Rattle.cqs_rule_laws.specs.declared.config.AcquireError.TheVariants.{Worn, Crowded}
use Rattle.cqs_rule_laws.specs.declared.view.View.{View}
use Rattle.cqs_rule_laws.specs.Lists.{IsPrefix, without}
use Rattle.cqs_rule_laws.specs.Slots.{laid_in, handed_in, or_else}
use Rattle.cqs_rule_laws.specs.SlotSteps.{LayIn}
use Rattle.cqs_rule_laws.proofs.Handing.{handed-here}
use Rattle.cqs_semaphore.specs.declared.answers.Released.{Released}
use Rattle.cqs_semaphore.specs.declared.answers.Released.TheVariants as released
use Rattle.cqs_rule.specs.declared.queue.tokens.Under.{Under}
use Rattle.cqs_semaphore.specs.Answers.{Takes, Ends, IsCrowded, IsWorn, Releases, PassesOn}
use Rattle.cqs_semaphore.specs.Owed.{owed_after}
use Rattle.cqs_mutex.specs.Calls.{OwesAtMost, UnlockLeaves}
use Rattle.cqs_mutex.specs.Mutexes.{IsFilled}

module _ {T : Type 0} where
  -- what was handed in stays handed in, or something after it is
  or-filled : (o p : Option T) (y : T) → p ≡ Some y → (z : T) × (or_else o p ≡ Some z)
  or-filled None p y is = (y, is)
  or-filled (Some z) p y is = (z, refl)

  -- the value handed in last, with one before it
  abbrev with-first : ℕ × T → Option T → Option T
  with-first x o = or_else o (if x.0 == 0 then Some x.1 else None)

  some-first : (x : ℕ × T) (o p : Option T) (y : T) → ((z : T) → o ≡ Some z → (u : T) × (p ≡ Some u))
      → with-first x o ≡ Some y → (z : T) × (with-first x p ≡ Some z)
  some-first x (Some z) p y on is = let t = on z refl in (t.0, ap (with-first x) t.1)
  some-first x None p y on is = or-filled p (if x.0 == 0 then Some x.1 else None) y is

  some-left : (a b : List (ℕ × T)) (y : T) → handed_in a 0 ≡ Some y → IsFilled (a ++ b)
  some-left [] b y is = absurd (cc)
  some-left (x ∷ xs) b y is =
      some-first x (handed_in xs 0) (handed_in (xs ++ b) 0) y (λ z same. some-left xs b z same) is

  pub filled-more : (a all : List (ℕ × T)) → IsFilled a → IsPrefix a all → IsFilled all
  filled-more a all filled more = subst IsFilled (sym more.1) (some-left a more.0 filled.0 filled.1)

  pub filled-last : (a : List (ℕ × T)) (y : T) → IsFilled (a ++ (0, y) ∷ [])
  filled-last a y = (y, handed-here a 0 y)

  -- nothing was laid in two lists, and so in both one after the other
  none-first : (c : Bool) (x : Option T) (o p : Option (Option T)) → (o ≡ None → p ≡ None)
      → (if c then Some x else o) ≡ None → (if c then Some x else p) ≡ None
  none-first true x o p on q = absurd (cc)
  none-first false x o p on q = on q

  pub none-both : (a b : List (ℕ × Option T)) → laid_in a 0 ≡ None → laid_in b 0 ≡ None → laid_in (a ++ b) 0 ≡ None
  none-both [] b none none' = none'
  none-both (x ∷ xs) b none none' =
      none-first (x.0 == 0) x.1 (laid_in xs 0) (laid_in (xs ++ b) 0) (λ q. none-both xs b q none') none

  -- what a pass holds that came to its permit
  pub takes-held : (o : Option ℕ) (v w : View Entry T) → Takes v o w → w.facts.has.held ≡ v.facts.has.held + 1
  takes-held None v w t = t.rests.held_is
  takes-held (Some k) v w t = t.2.held_is

  -- or that was refused
  pub refused-held : {A : Type 0} (e : AcquireError) (v w : View Entry T)
      → (IsErrOf {T = A} (Err e) Worn → IsWorn v w) → (IsErrOf {T = A} (Err e) Crowded → IsCrowded v w)
      → w.facts.has.held ≡ v.facts.has.held
  refused-held Worn v w worn crowded = ap (λ f. f.has.held) (worn refl).facts_are
  refused-held Crowded v w worn crowded = ap (λ f. f.has.held) (crowded refl).crowded.facts_are

  -- and how much after the end of a resumption
  pub ends-held : (v w : View Entry T) (held : ℕ) (waits : List ℕ) (a : Released) → Ends v held waits a w
      → w.facts.has.held ≡ held
  ends-held v w held waits released.Freed e = absurd e
  ends-held v w held waits (released.Sent k) e = e.1.held_is
  ends-held v w held waits (released.Left k) e = e.1.held_is
  ends-held v w held waits (released.Void k) e = e.1.held_is
  ends-held v w held waits (released.Under under) e = e.held_is

  -- a slot in which nothing was laid holds what was handed in
  pub lay-filled : (k : Option T) (v w : View Entry T) → LayIn 0 k v w → laid_in v.laid 0 ≡ None → IsFilled v.handed
      → k ≢ None
  lay-filled k v w lay bare filled none =
      let t = filled-more v.handed lay.handed filled lay.since in
      absurd (some-none t.0 (sym t.1 ∙ (sym (lay.last bare) ∙ none)))
    where
      some-none : (y : T) → Some y ≡ None → ⊥
      some-none y q = cc

  -- what a pass holds that left a wait
  pub passes-held : (k : ℕ) (v w : View Entry T) (under : Option Under) (passed : Option Released)
      → PassesOn k v under passed w → w.facts.has.held ≡ v.facts.has.held
  passes-held k v w under None p = p.1.held_is
  passes-held k v w under (Some a) p = ends-held v w v.facts.has.held (without k v.facts.waits) a p.2

-- what the pass is then
module _ {T : Type 0} where
  pub ends-leave : (v w : View Entry (Kept T)) (held : ℕ) (waits : List ℕ) (a : Released) → Ends v held waits a w
      → UnlockLeaves a w
  ends-leave v w held waits released.Freed e = absurd e
  ends-leave v w held waits (released.Sent k) e = e.1.ready
  ends-leave v w held waits (released.Left k) e = e.1.ready
  ends-leave v w held waits (released.Void k) e = e.1.ready
  ends-leave v w held waits (released.Under under) e = (e.owes, e.further)

  pub releases-leave : (v w : View Entry (Kept T)) (a : Released) → Releases v a w → UnlockLeaves a w
  releases-leave v w released.Freed e = e.rests.ready
  releases-leave v w (released.Sent k) e = e.1.1.ready
  releases-leave v w (released.Left k) e = e.1.1.ready
  releases-leave v w (released.Void k) e = e.1.1.ready
  releases-leave v w (released.Under under) e = (e.1.owes, e.1.further)

  owed-at-most : (v w : View Entry (Kept T)) (held : ℕ) (waits : List ℕ) (a : Released) → Ends v held waits a w
      → OwesAtMost (owed_after a) w
  owed-at-most v w held waits released.Freed e = absurd e
  owed-at-most v w held waits (released.Sent k) e = e.1.ready
  owed-at-most v w held waits (released.Left k) e = e.1.ready
  owed-at-most v w held waits (released.Void k) e = e.1.ready
  owed-at-most v w held waits (released.Under under) e = (e.owes, e.further)

  pub passes-leave : (k : ℕ) (v w : View Entry (Kept T)) (under : Option Under) (passed : Option Released)
      → PassesOn k v under passed w → OwesAtMost under w
  passes-leave k v w under None p = subst (λ u. OwesAtMost u w) (sym p.0) p.1.ready
  passes-leave k v w under (Some a) p =
      subst (λ u. OwesAtMost u w) (sym p.0) (owed-at-most v w v.facts.has.held (without k v.facts.waits) a p.2)

-- an answer that is given on
pub if-ok : {A X : Type 0} (r : Result A X) (P Q R : A → Type 0) → ((a : A) → P a → Q a → R a) → IfOk r P → IfOk r Q
    → IfOk r R
if-ok (Ok a) P Q R f p q = f a p q
if-ok (Err e) P Q R f p q = tt

pub by-answer : {A X : Type 0} (r : Result A X) (P Q R Z : Type 0) → (P → Q → Z) → (R → Z) → OnOk r P → OnOk r Q
    → OnErr r R → Z
by-answer (Ok a) P Q R Z f g p q e = f p q
by-answer (Err e) P Q R Z f g p q r = g r

-- a refusal that is given on
pub same-refusal : {A B : Type 0} (e f : AcquireError) → IsErrOf {T = A} (Err e) f → IsErrOf {T = B} (Err e) f
same-refusal e f is = let same : e ≡ f = cc in ap (λ x. Err x) same
