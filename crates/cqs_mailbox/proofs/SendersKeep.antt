-- The acknowledgements of all senders, as queues are added, and as one of them is called.
use Rattle.std.proofs.Common.{◌≡◌, ◌≢◌, ℕ, ◌+◌, ◌<◌, ◌≤◌, List, [], ◌∷◌, ◌++◌, Option, Some, None, length, set, slice_get, refl, sym, ap, ◌∙◌, subst, arith}
use Rattle.std.proofs.lemmas.List.{length_push, length-set}
use Rattle.std.proofs.lemmas.Option.{same_Some}
use mathlib.Core.Logic.{dite}
use native.Mathlib.Decide.{ℕ_discrete}
use Rattle.crossbeam_queue.specs.declared.array_queue.Doing.{Doing}
use Rattle.crossbeam_queue.specs.declared.array_queue.Slotted.{Slotted}
use Rattle.crossbeam_queue.specs.Passes.{Pass, view, IsPassOf, ruled_capacity}
use Rattle.cqs_core.proofs.Places.{get-set_here, get-set_else, get-below, get-append_below, get-push_at, get-there}
use Rattle.cqs_mailbox.specs.declared.tally.Tally.{Tally}
use Rattle.cqs_mailbox.specs.declared.tally.Tally.TheVariants.{Both}
use Rattle.cqs_mailbox.specs.Senders.{AreForSenders, IsCalledFor, given_by, given_to}
use Rattle.cqs_mailbox.specs.Tallies.{IsDesk, given_in}

-- a call on the queue of one sender
pub called-for : (s : ℕ) (call : Tally → Tally → Type 0) (ps : List (Pass (Unit {0}) Tally))
    (p q : Pass (Unit {0}) Tally) → slice_get ps s ≡ Some p → call (view p) (view q)
    → IsCalledFor s call ps (set ps s q)
called-for s call ps p q there called = record { old = p; new = q; was = there; now = refl; called = called }

module _ {Q A : Type 0} where
  -- none yet, and one more
  pub senders-none : (room : ℕ) (qs : List (Slotted (Option (Unit {0})) (Doing (Unit {0}) Tally) Q A))
      (ps : List (Pass (Unit {0}) Tally)) → qs ≡ [] → ps ≡ [] → AreForSenders room 0 qs ps
  senders-none room qs ps none none' =
      rw (none, none') (record { many = refl; each = λ s q p got got'. absurd (cc) })

  pub senders-push : (room : ℕ) (qs : List (Slotted (Option (Unit {0})) (Doing (Unit {0}) Tally) Q A))
      (ps : List (Pass (Unit {0}) Tally)) (q : Slotted (Option (Unit {0})) (Doing (Unit {0}) Tally) Q A)
      (p : Pass (Unit {0}) Tally) → AreForSenders room 0 qs ps → ruled_capacity q ≡ room → IsPassOf q p
      → view p ≡ Both 0 0 → AreForSenders room 0 (qs ++ q ∷ []) (ps ++ p ∷ [])
  senders-push room qs ps q p all long pass knows = record {
    many = length_push ps p ∙ (ap (λ n. n + 1) all.many ∙ sym (length_push qs q));
    each = λ s a b got got'. dite (ℕ_discrete s (length qs))
        (λ (e : s ≡ length qs).
        let many = all.many in
        let e' : s ≡ length ps = omega arith in
        let one : a ≡ q = same_Some a q (sym got ∙ get-push_at qs q s e) in
        let two : b ≡ p = same_Some b p (sym got' ∙ get-push_at ps p s e') in
        rw (one, two) (record {
          room_is = long;
          pass = pass;
          desk = subst IsDesk (sym knows) tt;
          unmade = λ few. knows;
        }))
        (λ (other : s ≢ length qs).
        let many = all.many in
        let high = get-below (qs ++ q ∷ []) s a got in
        let low : s < length qs = omega (arith, length_push qs q) in
        let low' : s < length ps = omega arith in
        all.each s a b (sym (get-append_below qs (q ∷ []) s low) ∙ got)
        (sym (get-append_below ps (p ∷ []) s low') ∙ got'));
  }

  -- the desk's pass of one sender was led on
  pub senders-set : (room made made' s : ℕ) (qs : List (Slotted (Option (Unit {0})) (Doing (Unit {0}) Tally) Q A))
      (ps : List (Pass (Unit {0}) Tally)) (q : Slotted (Option (Unit {0})) (Doing (Unit {0}) Tally) Q A)
      (p r : Pass (Unit {0}) Tally) → AreForSenders room made qs ps → made ≤ made'
      → slice_get qs s ≡ Some q → slice_get ps s ≡ Some p → IsPassOf q r → IsDesk (view r) → s < made'
      → AreForSenders room made' qs (set ps s r)
  senders-set room made made' s qs ps q p r all more which there pass desk low = record {
    many = length-set ps s r ∙ all.many;
    each = λ i a b got now. dite (ℕ_discrete i s)
        (λ (e : i ≡ s).
        let one : a ≡ q = same_Some a q (sym got ∙ (ap (slice_get qs) e ∙ which)) in
        let two : b ≡ r = same_Some b r (sym now ∙ (ap (slice_get (set ps s r)) e ∙ get-set_here ps s p r there)) in
        rw (one, two) (record {
          room_is = (all.each s q p which there).room_is;
          pass = pass;
          desk = desk;
          unmade = λ few. absurd (omega arith);
        }))
        (λ (other : i ≢ s).
        let was = all.each i a b got (sym (get-set_else ps s i r (λ e. other (sym e))) ∙ now) in
        record {
          room_is = was.room_is;
          pass = was.pass;
          desk = was.desk;
          unmade = λ few. was.unmade (omega arith);
        });
  }

  -- nothing is given as long as no post was made
  pub none-given : (room : ℕ) (qs : List (Slotted (Option (Unit {0})) (Doing (Unit {0}) Tally) Q A))
      (ps : List (Pass (Unit {0}) Tally)) → AreForSenders room 0 qs ps → (s : ℕ) → given_to s ps ≡ 0
  none-given room qs ps all s = go (slice_get ps s) refl
    where
      go : (o : Option (Pass (Unit {0}) Tally)) → slice_get ps s ≡ o → given_by o ≡ 0
      go None e = refl
      go (Some p) e =
          let low = get-below ps s p e in
          let many = all.many in
          let q = get-there qs s (omega (arith, low, many)) in
          ap given_in ((all.each s q.0 p q.1 e).unmade (omega arith))
