-- The passes that a split made in the first rounds, and what becomes of them where a later round refuses.
use Rattle.std.proofs.Common.{◌≡◌, ◌≢◌, inl, inr, ℕ, ◌+◌, ◌≤◌, true, List, [], ◌∷◌, ◌++◌, Some, length, set, slice_get, sym, ap, ◌∙◌, subst, arith}
use Rattle.std.proofs.lemmas.Bool.{cases_lt}
use Rattle.std.proofs.lemmas.Option.{same_Some}
use mathlib.Core.Logic.{dite}
use native.Mathlib.Decide.{ℕ_discrete}
use Rattle.cqs_core.proofs.Places.{get-set_here, get-set_else, get-below, get-there, get-append_left, get-push_at}
use Rattle.cqs_barrier_object.specs.declared.entries.BarrierEntry.{BarrierEntry}
use Rattle.cqs_rule_laws.specs.declared.client.ClientWords.{Ghosts}
use Rattle.cqs_rule.specs.declared.queue.Pass.{Pass}
use Rattle.cqs_rule.specs.Passes.{pass_view, passes_of}
use Rattle.cqs_rule.specs.Seats.{HasLookedOn}
use Rattle.cqs_rule_laws.specs.Crew.{MadeNone}
use Rattle.cqs_rule_laws.specs.Views.{made_in}
use Rattle.cqs_barrier.specs.Parked.{Barrier, BarrierClient}
use Rattle.cqs_barrier_rounds.specs.Passes.{EachIs, AreCalledWithin}
use Rattle.cqs_barrier_rounds.specs.Seats.{AreReady, HasMade, HasSplit, HasTaken, HasTakenIn, HoldEach, IsCrowded, IsFree}
use Rattle.cqs_barrier_rounds.proofs.Placed.{called-as, called-up}
use Rattle.cqs_barrier_rounds.proofs.Splits.{looked-ready, made-ready, made-free, taken-back}

module _ {g : Ghosts BarrierClient (Unit {0}) BarrierEntry} where
  -- one round more
  pub split-more : (gives n : ℕ) (made ps qs : List (Pass BarrierClient (Unit {0}) BarrierEntry g))
      (new p q : Pass BarrierClient (Unit {0}) BarrierEntry g) → AreCalledWithin (HasSplit gives made) 0 n ps qs
      → length made ≡ n → slice_get qs n ≡ Some p → HasMade gives new p q
      → AreCalledWithin (HasSplit gives (made ++ new ∷ [])) 0 (n + 1) ps (set qs n q)
  split-more gives n made ps qs new p q was long there gave =
      called-up (HasSplit gives (made ++ new ∷ [])) n ps qs p q
      (called-as (HasSplit gives made) (HasSplit gives (made ++ new ∷ [])) 0 n ps qs
      (λ r a b split. record {
        new = split.new;
        there = get-append_left made (new ∷ []) r split.new split.there;
        gave = split.gave;
      }) was) there
      (record { new = new; there = get-push_at made new n (sym long); gave = gave })

  -- all passes are ready, also that of the round which refused
  pub ready-after : (gives n : ℕ) (made ps qs : List (Pass BarrierClient (Unit {0}) BarrierEntry g))
      (p q : Pass BarrierClient (Unit {0}) BarrierEntry g) → AreReady ps
      → AreCalledWithin (HasSplit gives made) 0 n ps qs → slice_get qs n ≡ Some p → HasLookedOn p q
      → AreReady (set qs n q)
  ready-after gives n made ps qs p q ready was there looked r x got = dite (ℕ_discrete r n)
      (λ (e : r ≡ n).
      let one : x ≡ q = same_Some x q (sym got ∙ (ap (slice_get (set qs n q)) e ∙ get-set_here qs n p q there)) in
      let was-ready = ready n p (sym (was.behind n (omega arith)) ∙ there) in
      rw one (looked-ready p q looked was-ready))
      (λ (other : r ≢ n).
      let now : slice_get qs r ≡ Some x = sym (get-set_else qs n r q (λ e. other (sym e))) ∙ got in
      elim (cases_lt r n) [
        | inl low ↦
            let inside = get-below qs r x now in
            let many = was.many in
            let old = get-there ps r (omega arith) in
            let split = was.called r old.0 x (omega arith) low old.1 now in
            made-ready gives split.new old.0 x split.gave (ready r old.0 old.1)
        | inr high ↦ ready r x (sym (was.behind r high) ∙ now)
      ])

  -- each pass that was made has no wait and owes nothing
  pub free-made : (gives n : ℕ) (made ps qs : List (Pass BarrierClient (Unit {0}) BarrierEntry g))
      → AreCalledWithin (HasSplit gives made) 0 n ps qs → length made ≡ n → n ≤ length ps → EachIs IsFree made
  free-made gives n made ps qs was long inside r x got =
      let low = get-below made r x got in
      let many = was.many in
      let old = get-there ps r (omega arith) in
      let now = get-there qs r (omega arith) in
      let split = was.called r old.0 now.0 (omega arith) (omega arith) old.1 now.1 in
      let one : x ≡ split.new = same_Some x split.new (sym got ∙ split.there) in
      rw one (made-free gives split.new old.0 now.0 split.gave)

  -- the round that refused, with the earlier ones after their passes were taken in again
  pub crowded-at : (gives n : ℕ) (bs : List Barrier)
      (made ps qs rs : List (Pass BarrierClient (Unit {0}) BarrierEntry g)) (b : Barrier)
      (p q : Pass BarrierClient (Unit {0}) BarrierEntry g) → HoldEach gives ps
      → AreCalledWithin (HasSplit gives made) 0 n ps qs → length made ≡ n
      → AreCalledWithin (HasTaken made) 0 (length made) (set qs n q) rs → slice_get bs n ≡ Some b
      → slice_get qs n ≡ Some p → passes_of b.queue ≤ made_in (pass_view q).crew
      → HasLookedOn p q → MadeNone (pass_view p) (pass_view q)
      → ((pass_view p).alone ≡ true → (pass_view q).alone ≡ true) → IsCrowded gives bs ps rs
  crowded-at gives n bs made ps qs rs b p q enough split long taken which there full looked none kept = record {
    round = n;
    barrier = b;
    old = p;
    new = q;
    which = which;
    was = sym (split.behind n (omega arith)) ∙ there;
    now = taken.behind n (omega (arith, long)) ∙ get-set_here qs n p q there;
    full = full;
    looked = looked;
    made_none = none;
    kept = kept;
    back = λ r a c low high got now.
        let inside = get-below ps r a got in
        let many = split.many in
        let mid = get-there qs r (omega arith) in
        let other : n ≢ r = omega arith in
        let first = split.called r a mid.0 low high got mid.1 in
        let second = taken.called r mid.0 c low (omega (arith, long)) (get-set_else qs n r q other ∙ mid.1) now in
        let same : second.given ≡ first.new = same_Some second.given first.new (sym second.there ∙ first.there) in
        taken-back gives first.new a mid.0 c first.gave (subst (λ x. HasTakenIn x mid.0 c) same second.taken)
        (enough r a got);
    later = λ r high.
        let other : n ≢ r = omega arith in
        taken.behind r (omega (arith, long)) ∙ (get-set_else qs n r q other ∙ split.behind r (omega arith));
  }
