-- Whoever withdraws has its party back: what each step makes of that.
use Rattle.std.proofs.Common.{◌≡◌, ◌≢◌, ◌⊎◌, inl, inr, ℕ, ◌<◌, ◌≤◌, true, false, List, [], Some, length, set, slice_get, get_or, sum, subst, arith, get_or-set_other}
use Rattle.std.proofs.lemmas.Bool.{cases_eq}
use Rattle.std.proofs.lemmas.List.Sums.{get_or-le-sum_by}
use Rattle.cqs_core.specs.declared.doings.Doing.{Doing}
use Rattle.cqs_core.specs.declared.doings.Doing.TheVariants as doing
use Rattle.cqs_core.specs.Numbered.{EachAt}
use Rattle.cqs_core.proofs.EachAtLemmas.{EachAt-write}
use Rattle.cqs_core.proofs.Places.{get-below}
use Rattle.cqs_barrier_object.specs.BarrierShown.{Shape, HasParty, IsBarrier}

-- a pass goes on that has its party, if it withdraws
pub party-turn : (held : List ℕ) (passes : List Doing) (p : ℕ) (from to : Doing) → slice_get passes p ≡ Some from
    → HasParty held p to → EachAt (HasParty held) passes → EachAt (HasParty held) (set passes p to)
party-turn held passes p from to does now each =
    EachAt-write (HasParty held) (HasParty held) passes p from to does now (λ k d at other before. before) each

-- a pass that withdraws nothing has another count
pub party-held : (held : List ℕ) (passes : List Doing) (p : ℕ) (d : Doing) (n : ℕ) → slice_get passes p ≡ Some d
    → HasParty [] p d → EachAt (HasParty held) passes → EachAt (HasParty (set held p n)) passes
party-held held passes p d n does free each = record { at = λ r e got. go r e got (cases_eq r p) }
  where
    other : (r : ℕ) (e : Doing) → r ≢ p → HasParty held r e → HasParty (set held p n) r e
    other r (doing.Decided k true) apart has = rw (get_or-set_other held p r n 0 apart) has
    other r (doing.Decided k false) apart has = tt
    other r doing.Idle apart has = tt
    other r (doing.TryAt v) apart has = tt
    other r doing.Door apart has = tt
    other r (doing.Drawn k) apart has = tt
    other r doing.Owes apart has = tt
    other r (doing.Ticket k) apart has = tt
    other r (doing.Leaving k) apart has = tt
    other r (doing.Watching k) apart has = tt

    own : (e : Doing) → HasParty [] p e → HasParty (set held p n) p e
    own (doing.Decided k true) none = absurd (omega arith)
    own (doing.Decided k false) none = tt
    own doing.Idle none = tt
    own (doing.TryAt v) none = tt
    own doing.Door none = tt
    own (doing.Drawn k) none = tt
    own doing.Owes none = tt
    own (doing.Ticket k) none = tt
    own (doing.Leaving k) none = tt
    own (doing.Watching k) none = tt

    go : (r : ℕ) (e : Doing) → slice_get passes r ≡ Some e → (r ≡ p) ⊎ (r ≢ p) → HasParty (set held p n) r e
    go r e got (inl same) =
        let at : slice_get passes p ≡ Some e = rw same at got in
        let is : d ≡ e = cc in
        rw same (own e (subst (λ (x : Doing). HasParty [] p x) is free))
    go r e got (inr apart) = other r e apart (each.at r e got)

module _ (s : Shape) (p : ℕ) (d : Doing) (is : IsBarrier s) (does : slice_get s.queue.doing p ≡ Some d) where
  pub held-there : p < length s.held
  held-there = let at = get-below s.queue.doing p d does in omega (arith, is.holders)

  pub owed-there : p < length s.owed
  owed-there = let at = get-below s.queue.doing p d does in omega (arith, is.owners)

  pub held-within : get_or s.held p 0 ≤ sum s.held
  held-within = get_or-le-sum_by (λ n. n) s.held p 0 held-there

  pub owed-within : get_or s.owed p 0 ≤ sum s.owed
  owed-within = get_or-le-sum_by (λ n. n) s.owed p 0 owed-there
