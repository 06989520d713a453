-- The waits of a pass go along through its calls: those that it has still are its own still.
use Rattle.std.proofs.Common.{◌≡◌, ◌≢◌, ℕ, List, [], ◌∷◌, ◌++◌, All, Option, Some, None, Ok, Err, IsErrOf, sym, subst, refl, rules, ap, ◌∙◌}
use Rattle.std.proofs.lemmas.List.Elements.{All-weaker}
use Rattle.cqs_core.specs.declared.entries.Entry.{Entry}
use Rattle.cqs_rule.specs.declared.queue.tokens.Under as token
use Rattle.cqs_rule.specs.declared.queue.tokens.Wait.{Wait}
use Rattle.cqs_rule_laws.specs.declared.config.AcquireError.{AcquireError}
use Rattle.cqs_rule_laws.specs.declared.config.AcquireError.TheVariants.{Worn, Crowded}
use Rattle.cqs_rule_laws.specs.declared.view.Facts.{Facts}
use Rattle.cqs_rule_laws.specs.declared.view.View.{View}
use Rattle.cqs_rule_laws.specs.Lists.{Has, without}
use Rattle.cqs_rule.specs.Passes.{pass_view}
use Rattle.cqs_rule.specs.Waits.{HasWait, place_of}
use Rattle.cqs_rule_laws.proofs.Lists.{has_left, without_has}
use Rattle.cqs_rule_laws.proofs.Places.{goes-looked}
use Rattle.cqs_rule.proofs.Places.{has-wait-on}
use Rattle.cqs_semaphore.specs.declared.answers.Acquired.{Acquired}
use Rattle.cqs_semaphore.specs.declared.answers.Permit.{Permit}
use Rattle.cqs_semaphore.specs.declared.answers.Released.{Released}
use Rattle.cqs_semaphore.specs.declared.answers.Released.TheVariants.{Freed, Sent, Left, Void, Under}
use Rattle.cqs_semaphore.specs.Answers.{Takes, Ends, IsCrowded, IsWorn, Releases, PassesOn}
use Rattle.cqs_rule_laws.specs.CallRule.{IsReady}
use Rattle.cqs_semaphore.specs.Calls.{CallRule, IsMine}
use Rattle.cqs_semaphore.specs.Owed.{owed_after}
use Rattle.cqs_semaphore.specs.Permits.{number_of}
use Rattle.cqs_semaphore.specs.Seats.{LookedOn}
use Rattle.cqs_rule.proofs.Places.{wait-kept}
use Rattle.cqs_test_semaphore.specs.declared.caller.Caller.{Caller}
use Rattle.cqs_test_semaphore.specs.Callers.{Stands, OwesJust, HasParted}

module _ {T : Type 0} where
  -- the same waits
  pub kept-same : (v w : View Entry T) (own further : List Entry) (waits : List Wait) → CallRule v own further w
      → w.facts.waits ≡ v.facts.waits → All (HasWait v) waits → All (HasWait w) waits
  kept-same v w own further waits rule same all =
      All-weaker (HasWait v) (HasWait w)
      (λ x h. wait-kept _ v w _ _ x rule.called
      (subst (Has (place_of x).index) (sym same) h.open_yet) h) waits all

  -- one more
  pub kept-more : (v w : View Entry T) (own further : List Entry) (k : ℕ) (waits : List Wait)
      → CallRule v own further w → w.facts.waits ≡ v.facts.waits ++ k ∷ [] → All (HasWait v) waits
      → All (HasWait w) waits
  kept-more v w own further k waits rule more all =
      All-weaker (HasWait v) (HasWait w)
      (λ x h. wait-kept _ v w _ _ x rule.called
      (subst (Has (place_of x).index) (sym more) (has_left (place_of x).index v.facts.waits (k ∷ []) h.open_yet)) h)
      waits all

  -- all but one
  abbrev pub IsOther : View Entry T → ℕ → Wait → Type 0
  IsOther v k x = HasWait v x × ((place_of x).index ≢ k)

  pub kept-others : (v w : View Entry T) (own further : List Entry) (k number : ℕ) (waits : List Wait) → k ≡ number
      → CallRule v own further w → w.facts.waits ≡ without k v.facts.waits → All (IsOther v number) waits
      → All (HasWait w) waits
  kept-others v w own further k number waits is rule less all =
      All-weaker (IsOther v number) (HasWait w)
      (λ x h. wait-kept _ v w _ _ x rule.called
      (subst (Has (place_of x).index) (sym less)
      (without_has (place_of x).index k v.facts.waits (λ e. h.1 (e ∙ is)) h.0.open_yet)) h.0)
      waits all

  pub others-kept : (v w : View Entry T) (own further : List Entry) (k : ℕ) (waits : List Wait)
      → CallRule v own further w → w.facts.waits ≡ v.facts.waits → All (IsOther v k) waits → All (HasWait w) waits
  others-kept v w own further k waits rule same all =
      kept-same v w own further waits rule same (All-weaker (IsOther v k) (HasWait v) (λ x h. h.0) waits all)

  -- a look at the crew's word
  pub kept-looked : (v w : View Entry T) (waits : List Wait) → LookedOn v w → All (HasWait v) waits
      → All (HasWait w) waits
  kept-looked v w waits looked all =
      All-weaker (HasWait v) (HasWait w)
      (λ x h. has-wait-on v w x (goes-looked _ v w v.facts [] looked.saw)
      (subst (λ (f : Facts). Has (place_of x).index f.waits) (sym looked.facts_are) h.open_yet) h) waits all

  -- the waits after an acquire that has its permit at once
  pub took-waits : (v w : View Entry T) (number : Option ℕ) → Takes v number w → w.facts.waits ≡ v.facts.waits
  took-waits v w None t = t.rests.waits_are
  took-waits v w (Some k) t = t.2.waits_are

  -- the waits after one that was refused
  pub refused-waits : (v w : View Entry T) (e : AcquireError) → (IsErrOf {T = Acquired} (Err e) Worn → IsWorn v w)
      → (IsErrOf {T = Acquired} (Err e) Crowded → IsCrowded v w) → w.facts.waits ≡ v.facts.waits
  refused-waits v w Worn worn crowded = ap (λ (f : Facts). f.waits) (worn refl).facts_are
  refused-waits v w Crowded worn crowded = ap (λ (f : Facts). f.waits) (crowded refl).crowded.facts_are

  -- what is owed after a resumption, and the waits then
  pub ends-owing : (v w : View Entry T) (held : ℕ) (waits : List ℕ) (r : Released) → Ends v held waits r w
      → OwesJust w.facts (owed_after r) × (w.facts.waits ≡ waits)
  ends-owing v w held waits Freed e = absurd e
  ends-owing v w held waits (Sent k) e = (e.1.ready, e.1.waits_are)
  ends-owing v w held waits (Left k) e = (e.1.ready, e.1.waits_are)
  ends-owing v w held waits (Void k) e = (e.1.ready, e.1.waits_are)
  ends-owing v w held waits (Under under) e = ((e.owes, e.further), e.waits_are)

  pub release-owing : (v w : View Entry T) (r : Released) → Releases v r w
      → OwesJust w.facts (owed_after r) × (w.facts.waits ≡ v.facts.waits)
  release-owing v w Freed e = (e.rests.ready, e.rests.waits_are)
  release-owing v w (Sent k) e = ends-owing v w _ _ (Sent k) e.1
  release-owing v w (Left k) e = ends-owing v w _ _ (Left k) e.1
  release-owing v w (Void k) e = ends-owing v w _ _ (Void k) e.1
  release-owing v w (Under under) e = ends-owing v w _ _ (Under under) e.1

  pub cancel-owing : (k : ℕ) (v w : View Entry T) (under : Option token.Under) (passed : Option Released)
      → PassesOn k v under passed w → OwesJust w.facts under × (w.facts.waits ≡ without k v.facts.waits)
  cancel-owing k v w under None p = (subst (OwesJust w.facts) (sym p.0) p.1.ready, p.1.waits_are)
  cancel-owing k v w under (Some r) p =
      let e = ends-owing v w v.facts.has.held (without k v.facts.waits) r p.2 in
      (subst (OwesJust w.facts) (sym p.0) e.0, e.1)

-- a caller who owes nothing
pub stands-ready : (d : Caller) → d.under ≡ None → IsMine d.semaphore d.pass → IsReady (pass_view d.pass).facts
    → All (HasWait (pass_view d.pass)) d.waits.items → Stands d
stands-ready d none mine ready waits =
    record { belongs = mine; owes = subst (OwesJust (pass_view d.pass).facts) (sym none) ready; waits = waits }

-- a caller who has parted from a wait that wasn't there
pub stands-parted : (number : ℕ) (d : Caller) → HasParted number d → Stands d
stands-parted number d p =
    stands-ready d p.free p.belongs p.ready
    (All-weaker (IsOther (pass_view d.pass) number) (HasWait (pass_view d.pass)) (λ x h. h.0) d.waits.items p.others)
