-- The pass that makes the rounds keeps its waits, and is idle again where its resumption ended.
use Rattle.std.proofs.Common.{◌≡◌, ◌⊎◌, ℕ, List, Option, sym, ap, ◌∙◌, subst, ⊎_elim}
use Rattle.cqs_core.specs.declared.doings.Doing.TheVariants as doing
use Rattle.cqs_rule.specs.declared.queue.tokens.Wait.{Wait}
use Rattle.cqs_rule_laws.specs.declared.view.Facts.{Facts}
use Rattle.cqs_rule_laws.specs.declared.view.View.{View}
use Rattle.cqs_rule_laws.specs.Called.{Called}
use Rattle.cqs_rule_laws.specs.Lists.{Has}
use Rattle.cqs_rule_laws.specs.Object.{Object, Primitive}
use Rattle.cqs_rule_laws.specs.Saw.{Saw}
use Rattle.cqs_rule.specs.Waits.{place_of, HasWait}
use Rattle.cqs_rule_laws.proofs.Calls.{called-by}
use Rattle.cqs_rule.proofs.Places.{knows-called}
use Rattle.cqs_resume.specs.declared.resumed.Resumed.{Resumed}
use Rattle.cqs_resume.specs.declared.resumed.Resumed.TheVariants.{Served, Left, Refused, Under}
use Rattle.cqs_resume.specs.Resumes.{Resumes}

module _ {E S : Type 0} (object : Object E) where
  -- a call that closes no wait keeps them all
  pub keeps-waits : (v w : View E S) (es last : List E) → Called object v es last w → w.facts.waits ≡ v.facts.waits
      → (wait : Wait) → HasWait v wait → HasWait w wait
  keeps-waits v w es last c same wait h = record {
    mine = h.mine ∙ sym c.same.number;
    open_yet = subst (Has (place_of wait).index) (sym same) h.open_yet;
    place = knows-called object v w es last (place_of wait) c h.place;
  }

  pub keeps-step : (v w : View E S) (f : Facts) (es : List E) → Saw object v f es w → f.waits ≡ v.facts.waits
      → (wait : Wait) → HasWait v wait → HasWait w wait
  keeps-step v w f es s same =
      keeps-waits v w es es (called-by object v w f es s) (ap (λ (f : Facts). f.waits) s.facts_are ∙ same)

module _ {C E S : Type 0} (object : Object E) (primitive : C → Primitive E S) where
  -- a resume keeps them, however it ended
  pub keeps-resumed : (most : ℕ) (ticket : Option ℕ) (payload : ℕ) (v : View E S) (result : Resumed) (w : View E S)
      → Resumes object primitive most ticket payload v result w → (wait : Wait) → HasWait v wait → HasWait w wait
  keeps-resumed most ticket payload v (Served k) w e =
      keeps-waits object v w _ _ e.called (ap (λ (f : Facts). f.waits) e.facts_are)
  keeps-resumed most ticket payload v (Left k) w e =
      ⊎_elim (λ e. keeps-waits object v w _ _ e.called (ap (λ (f : Facts). f.waits) e.facts_are))
      (λ e. keeps-waits object v w _ _ e.called (ap (λ (f : Facts). f.waits) e.facts_are)) e
  keeps-resumed most ticket payload v (Refused k) w e =
      keeps-waits object v w _ _ e.called (ap (λ (f : Facts). f.waits) e.facts_are)
  keeps-resumed most ticket payload v (Under under) w e =
      keeps-waits object v w _ _ e.called (ap (λ (f : Facts). f.waits) e.facts_are)

  pub idle-resumed : (most : ℕ) (ticket : Option ℕ) (payload : ℕ) (v : View E S) (result : Resumed) (w : View E S)
      → Resumes object primitive most ticket payload v result w
      → ((k : ℕ) × (result ≡ Served k)) ⊎ (((k : ℕ) × (result ≡ Left k)) ⊎ ((k : ℕ) × (result ≡ Refused k)))
      → w.facts.doing ≡ doing.Idle
  idle-resumed most ticket payload v (Served k) w e is = ap (λ (f : Facts). f.doing) e.facts_are
  idle-resumed most ticket payload v (Left k) w e is =
      ⊎_elim (λ e. ap (λ (f : Facts). f.doing) e.facts_are) (λ e. ap (λ (f : Facts). f.doing) e.facts_are) e
  idle-resumed most ticket payload v (Refused k) w e is = ap (λ (f : Facts). f.doing) e.facts_are
  idle-resumed most ticket payload v (Under under) w e is =
      ⊎_elim (λ (t : (k : ℕ) × (Under under ≡ Served k)). let same = t.1 in absurd (cc))
      (λ both. ⊎_elim (λ (t : (k : ℕ) × (Under under ≡ Left k)). let same = t.1 in absurd (cc))
      (λ (t : (k : ℕ) × (Under under ≡ Refused k)). let same = t.1 in absurd (cc)) both) is
