-- The waits of a pass go along through its calls: those that it has still are its own still.
use Rattle.std.proofs.Common.{◌≡◌, ◌≢◌, ℕ, ◌+◌, List, [], ◌∷◌, ◌++◌, All, Option, Some, None, sym, subst, refl, ap, ◌∙◌, get_or, length, inl, false}
use Rattle.std.specs.Option.{is_some}
use Rattle.std.specs.List.{remove}
use Rattle.std.proofs.lemmas.List.Elements.{All-weaker}
use Rattle.cqs_core.specs.declared.entries.Entry.{Entry}
use Rattle.cqs_rule_laws.specs.declared.config.Place.{Place}
use Rattle.cqs_rule.specs.declared.queue.tokens.Under as token
use Rattle.cqs_rule_laws.specs.declared.view.Facts.{Facts}
use Rattle.cqs_rule_laws.specs.declared.view.View.{View}
use Rattle.cqs_rule_laws.specs.Inside.{IsInside}
use Rattle.cqs_rule_laws.specs.Lists.{Has, without}
use Rattle.cqs_rule_laws.specs.Placed.{GoesOn}
use Rattle.cqs_rule_laws.proofs.Lists.{has_left, has_right, without_has, get_index}
use Rattle.cqs_rule_laws.proofs.Places.{known-still}
use Rattle.cqs_semaphore.specs.declared.answers.Released.{Released}
use Rattle.cqs_semaphore.specs.declared.answers.Released.TheVariants.{Freed, Sent, Left, Void, Under}
use Rattle.cqs_semaphore.specs.Answers.{Takes, Ends, Releases, PassesOn}
use Rattle.cqs_rule_laws.specs.CallRule.{IsReady}
use Rattle.cqs_semaphore.specs.Owed.{owed_after}
use Rattle.cqs_c_callers.specs.SemaphoreCallers.{OwesJust}
use Rattle.cqs_c_callers.specs.Waits.{HasAt, Apart, IsAt}
use Rattle.cqs_c_callers.proofs.Waits.{all_both, all_remove, others_apart, stands_once}

-- a caller who has no token of a resumption owes none where its pass is ready
pub owes-none : (f : Facts) (o : Option token.Under) → false ≡ is_some o → IsReady f → OwesJust f o
owes-none f None e ready = ready
owes-none f (Some u) e ready = absurd (cc)

module _ {T : Type 0} where
  kept-at : (v w : View Entry T) (at : Place) → GoesOn v w → Has at.index w.facts.waits → HasAt v at → HasAt w at
  kept-at v w at goes has h = record { open_yet = has; place = known-still v w at goes h.place }

  -- the same waits
  pub kept-same : (v w : View Entry T) (waits : List Place) → GoesOn v w → w.facts.waits ≡ v.facts.waits
      → All (HasAt v) waits → All (HasAt w) waits
  kept-same v w waits goes same all =
      All-weaker (HasAt v) (HasAt w) (λ x h. kept-at v w x goes (subst (Has x.index) (sym same) h.open_yet) h) waits all

  -- one more
  pub kept-more : (v w : View Entry T) (k : ℕ) (waits : List Place) → GoesOn v w
      → w.facts.waits ≡ v.facts.waits ++ k ∷ []
      → All (HasAt v) waits → All (HasAt w) waits
  kept-more v w k waits goes more all =
      All-weaker (HasAt v) (HasAt w)
      (λ x h. kept-at v w x goes
      (subst (Has x.index) (sym more) (has_left x.index v.facts.waits (k ∷ []) h.open_yet)) h)
      waits all

  pub has-more : (v w : View Entry T) (k : ℕ) → w.facts.waits ≡ v.facts.waits ++ k ∷ [] → Has k w.facts.waits
  has-more v w k more =
      subst (Has k) (sym more) (has_right k v.facts.waits (k ∷ []) (inl refl))

  -- the new one has a number that none of the others has
  pub new-apart : (v w : View Entry T) (k : ℕ) (waits : List Place) → IsInside w
      → w.facts.waits ≡ v.facts.waits ++ k ∷ [] → All (HasAt v) waits → All (λ y. y.index ≢ k) waits
  new-apart v w k waits inside more all =
      let once = subst (λ (l : List ℕ). length (without k l) + 1 ≡ length l) more
      (inside.once k (has-more v w k more)) in
      All-weaker (HasAt v) (λ y. y.index ≢ k)
      (λ x h q. stands_once k v.facts.waits once (subst (λ n. Has n v.facts.waits) q h.open_yet)) waits all

  kept-both : (v w : View Entry T) (k : ℕ) (waits : List Place) → GoesOn v w → w.facts.waits ≡ without k v.facts.waits
      → All (HasAt v) waits → All (λ y. y.index ≢ k) waits → All (HasAt w) waits
  kept-both v w k waits goes less all others =
      All-weaker (λ y. HasAt v y × (y.index ≢ k)) (HasAt w)
      (λ x h. kept-at v w x goes
      (subst (Has x.index) (sym less) (without_has x.index k v.facts.waits h.1 h.0.open_yet)) h.0)
      waits (all_both (HasAt v) (λ y. y.index ≢ k) waits all others)

  -- all but the one of this number, which stands at i
  pub kept-others : (v w : View Entry T) (number k i : ℕ) (waits : List Place) → IsAt number waits i → k ≡ number
      → GoesOn v w → w.facts.waits ≡ without k v.facts.waits → Apart waits → All (HasAt v) waits
      → All (HasAt w) (remove waits i)
  kept-others v w number k i waits at is goes less apart all =
      let index : k ≡ (get_or waits i at.at).index =
      is ∙ sym (ap (λ (p : Place). p.index) (get_index waits i at.at at.at at.is) ∙ at.number_is) in
      kept-both v w k (remove waits i) goes less (all_remove (HasAt v) waits i all)
      (subst (λ n. All (λ y. y.index ≢ n) (remove waits i)) (sym index) (others_apart waits i at.at at.below apart))

  -- the waits after an acquire that has its permit at once
  pub took-waits : (v w : View Entry T) (number : Option ℕ) → Takes v number w → w.facts.waits ≡ v.facts.waits
  took-waits v w None t = t.rests.waits_are
  took-waits v w (Some k) t = t.2.waits_are

  -- what is owed after a resumption, and the waits then
  pub ends-owing : (v w : View Entry T) (held : ℕ) (waits : List ℕ) (r : Released) → Ends v held waits r w
      → OwesJust w.facts (owed_after r) × (w.facts.waits ≡ waits)
  ends-owing v w held waits Freed e = absurd e
  ends-owing v w held waits (Sent k) e = (e.1.ready, e.1.waits_are)
  ends-owing v w held waits (Left k) e = (e.1.ready, e.1.waits_are)
  ends-owing v w held waits (Void k) e = (e.1.ready, e.1.waits_are)
  ends-owing v w held waits (Under under) e = ((e.owes, e.further), e.waits_are)

  pub release-owing : (v w : View Entry T) (r : Released) → Releases v r w
      → OwesJust w.facts (owed_after r) × (w.facts.waits ≡ v.facts.waits)
  release-owing v w Freed e = (e.rests.ready, e.rests.waits_are)
  release-owing v w (Sent k) e = ends-owing v w _ _ (Sent k) e.1
  release-owing v w (Left k) e = ends-owing v w _ _ (Left k) e.1
  release-owing v w (Void k) e = ends-owing v w _ _ (Void k) e.1
  release-owing v w (Under under) e = ends-owing v w _ _ (Under under) e.1

  pub cancel-owing : (k : ℕ) (v w : View Entry T) (under : Option token.Under) (passed : Option Released)
      → PassesOn k v under passed w → OwesJust w.facts under × (w.facts.waits ≡ without k v.facts.waits)
  cancel-owing k v w under None p = (subst (OwesJust w.facts) (sym p.0) p.1.ready, p.1.waits_are)
  cancel-owing k v w under (Some r) p =
      let e = ends-owing v w v.facts.has.held (without k v.facts.waits) r p.2 in
      (subst (OwesJust w.facts) (sym p.0) e.0, e.1)
