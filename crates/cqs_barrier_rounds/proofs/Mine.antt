-- A call at one round: the pass is still one of its round's barrier, and the others are as they were.
use Rattle.std.proofs.Common.{◌≡◌, ◌≢◌, ℕ, ◌+◌, ◌<◌, List, [], ◌∷◌, ◌++◌, Some, length, set, slice_get, get_or, refl, sym, ap, ◌∙◌, arith}
use Rattle.std.proofs.lemmas.List.{length-set, length_push}
use Rattle.std.proofs.lemmas.Option.{same_Some}
use mathlib.Core.Logic.{dite}
use native.Mathlib.Decide.{ℕ_discrete}
use Rattle.cqs_core.proofs.Places.{get-set_here, get-set_else, get-below, get-append_below, get-push_at}
use Rattle.cqs_barrier_object.specs.declared.entries.BarrierEntry.{BarrierEntry}
use Rattle.cqs_rule_laws.specs.declared.client.ClientWords.{Ghosts}
use Rattle.cqs_rule.specs.declared.queue.Pass.{Pass}
use Rattle.cqs_rule_laws.specs.declared.view.View.{View}
use Rattle.cqs_rule.specs.Passes.{pass_view}
use Rattle.cqs_barrier.specs.Parked.{Barrier, BarrierClient}
use Rattle.cqs_barrier.specs.Calls.{IsMine}
use Rattle.cqs_barrier_rounds.specs.Rounds.{AreMine, IsCalled}
use Rattle.cqs_barrier_rounds.specs.Seats.{AreFor}
use Rattle.cqs_barrier_rounds.proofs.Pairs.{pairs-push}
use Rattle.cqs_barrier_rounds.proofs.Placed.{stands-at}

module _ {g : Ghosts BarrierClient (Unit {0}) BarrierEntry} where
  -- no round yet, and one more
  pub mine-none : (bs : List Barrier) (ps : List (Pass BarrierClient (Unit {0}) BarrierEntry g)) → bs ≡ []
      → ps ≡ [] → AreMine bs ps
  mine-none bs ps none none' =
      rw (none, none') (record { many = refl; each = λ r b p got got'. absurd (cc) })

  pub mine-push : (bs : List Barrier) (ps : List (Pass BarrierClient (Unit {0}) BarrierEntry g)) (b : Barrier)
      (p : Pass BarrierClient (Unit {0}) BarrierEntry g) → AreMine bs ps → IsMine b p
      → AreMine (bs ++ b ∷ []) (ps ++ p ∷ [])
  mine-push bs ps b p mine is = record {
    many = length_push ps p ∙ (ap (λ n. n + 1) mine.many ∙ sym (length_push bs b));
    each = pairs-push (λ b' p'. IsMine b' p') bs ps b p mine.many mine.each is;
  }

  -- passes of the first rounds: none yet, and one more
  pub for-none : (bs : List Barrier) (ps : List (Pass BarrierClient (Unit {0}) BarrierEntry g)) → ps ≡ []
      → AreFor bs ps
  for-none bs ps none r b p got got' =
      let there = get-below ps r p got' in
      absurd (omega (arith, ap length none))

  pub for-push : (bs : List Barrier) (ps : List (Pass BarrierClient (Unit {0}) BarrierEntry g)) (n : ℕ) (b : Barrier)
      (p : Pass BarrierClient (Unit {0}) BarrierEntry g) → AreFor bs ps → length ps ≡ n → slice_get bs n ≡ Some b
      → IsMine b p → AreFor bs (ps ++ p ∷ [])
  for-push bs ps n b p mine long which is r c x got now = dite (ℕ_discrete r n)
      (λ (e : r ≡ n).
      let one : c ≡ b = same_Some c b (sym got ∙ (ap (slice_get bs) e ∙ which)) in
      let two : x ≡ p = same_Some x p (sym now ∙ get-push_at ps p r (e ∙ sym long)) in
      rw (one, two) is)
      (λ (other : r ≢ n).
      let high = get-below (ps ++ p ∷ []) r x now in
      let low : r < length ps = omega (arith, length_push ps p) in
      mine r c x got (sym (get-append_below ps (p ∷ []) r low) ∙ now))

  -- the pass of a round that there is
  pub at-pass : (bs : List Barrier) (ps : List (Pass BarrierClient (Unit {0}) BarrierEntry g)) (r : ℕ)
      (p : Pass BarrierClient (Unit {0}) BarrierEntry g) → AreMine bs ps → r < length bs → p ≡ get_or ps r p
      → slice_get ps r ≡ Some p
  at-pass bs ps r p mine low is = let many = mine.many in stands-at ps r p (omega arith) is

  pub mine-set : (bs : List Barrier) (ps : List (Pass BarrierClient (Unit {0}) BarrierEntry g)) (r : ℕ) (b : Barrier)
      (p q : Pass BarrierClient (Unit {0}) BarrierEntry g) → AreMine bs ps → slice_get bs r ≡ Some b
      → slice_get ps r ≡ Some p → IsMine b q → AreMine bs (set ps r q)
  mine-set bs ps r b p q mine which there is = record {
    many = length-set ps r q ∙ mine.many;
    each = λ i c x got now. dite (ℕ_discrete i r)
        (λ (e : i ≡ r).
        let one : c ≡ b = same_Some c b (sym got ∙ (ap (slice_get bs) e ∙ which)) in
        let two : x ≡ q = same_Some x q (sym now ∙ (ap (slice_get (set ps r q)) e ∙ get-set_here ps r p q there)) in
        rw (one, two) is)
        (λ (other : i ≢ r).
        mine.each i c x got (sym (get-set_else ps r i q (λ e. other (sym e))) ∙ now));
  }

  pub called-set : (call : View BarrierEntry (Unit {0}) → View BarrierEntry (Unit {0}) → Type 0) (r : ℕ)
      (ps : List (Pass BarrierClient (Unit {0}) BarrierEntry g))
      (p q : Pass BarrierClient (Unit {0}) BarrierEntry g) → slice_get ps r ≡ Some p
      → call (pass_view p) (pass_view q) → IsCalled call r ps (set ps r q)
  called-set call r ps p q there called =
      record { old = p; new = q; was = there; now = refl; called = called }
