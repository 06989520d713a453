-- How a cancel of the one wait leaves the pass: at rest, or with a resumption that it owes.
use Rattle.std.proofs.Common.{◌≡◌, refl, inl, inr, true, false, ℕ, [], ◌∷◌, ◌∙◌, Option, Some, None, sym, subst, rules}
use Rattle.cqs_core.specs.declared.entries.Entry.{Entry}
use Rattle.cqs_core.specs.declared.doings.Doing.TheVariants as doing
use Rattle.cqs_rule.specs.declared.queue.tokens.Under as token
use Rattle.cqs_rule_laws.specs.declared.view.Facts.{Facts}
use Rattle.cqs_rule_laws.specs.declared.view.View.{View}
use Rattle.cqs_rule_laws.specs.Facts.{owes_any}
use Rattle.cqs_rule_laws.specs.Lists.{without}
use Rattle.cqs_rule.specs.Owed.{HasUnder}
use Rattle.cqs_rule.specs.Seats.{IsBusy}
use Rattle.cqs_semaphore.specs.declared.answers.Released.{Released}
use Rattle.cqs_semaphore.specs.declared.answers.Released.TheVariants.{Freed, Sent, Left, Void, Under}
use Rattle.cqs_semaphore.specs.Answers.{PassesOn}
use Rattle.cqs_semaphore.specs.Calls.{Rests}

-- the one wait was this
pub without-one : (k : ℕ) → without k (k ∷ []) ≡ []
without-one k = search rules

module _ {T : Type 0} where
  -- nothing is owed
  pub left-done : (k : ℕ) (v w : View Entry T) (passed : Option Released) → PassesOn k v None passed w
      → Rests v v.facts.has.held (without k v.facts.waits) w
  left-done k v w None p = p.1
  left-done k v w (Some Freed) p = absurd p.2
  left-done k v w (Some (Sent n)) p = p.2.1
  left-done k v w (Some (Left n)) p = p.2.1
  left-done k v w (Some (Void n)) p = p.2.1
  left-done k v w (Some (Under under)) p = let same = p.0 in absurd (cc)

  -- the resumption of this token is owed
  pub record IsLeftOwing (k : ℕ) (v : View Entry T) (under : token.Under) (w : View Entry T) : Type 0 where
    pub owes : HasUnder w.facts under
    pub further : w.facts.has.further ≡ 0
    pub held_is : w.facts.has.held ≡ v.facts.has.held
    pub waits_are : w.facts.waits ≡ without k v.facts.waits

  pub left-owing : (k : ℕ) (v w : View Entry T) (under : token.Under) (passed : Option Released)
      → PassesOn k v (Some under) passed w → IsLeftOwing k v under w
  left-owing k v w under None p = let same = p.0 in absurd (cc)
  left-owing k v w under (Some Freed) p = absurd p.2
  left-owing k v w under (Some (Sent n)) p = let same = p.0 in absurd (cc)
  left-owing k v w under (Some (Left n)) p = let same = p.0 in absurd (cc)
  left-owing k v w under (Some (Void n)) p = let same = p.0 in absurd (cc)
  left-owing k v w under (Some (Under other)) p =
      let same : under ≡ other = search (rules, p.0) in
      record {
        owes = subst (HasUnder w.facts) (sym same) p.2.owes;
        further = p.2.further;
        held_is = p.2.held_is;
        waits_are = p.2.waits_are;
      }

-- a pass that is idle, has no further resumption and no wait can be met away
pub not-busy : (f : Facts) → f.doing ≡ doing.Idle → f.has.further ≡ 0 → f.waits ≡ [] → IsBusy f → ⊥
not-busy f idle further none (inl owing) =
    let same : owes_any f ≡ false = rw (idle, further) refl in
    let clash : false ≡ true = sym same ∙ owing in absurd (cc)
not-busy f idle further none (inr some) = search (rules, none, some)
