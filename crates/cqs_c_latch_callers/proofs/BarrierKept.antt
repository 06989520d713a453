-- A caller of a barrier between two calls.
use Rattle.std.proofs.Common.{◌≡◌, ◌⊎◌, ℕ, suc, zero, ◌+◌, List, [], ◌∷◌, length, Option, Some, None, false, ap, refl, subst, sym, ◌∙◌, inl, inr, arith}
use Rattle.std.specs.Option.{is_some}
use Rattle.cqs_rule_laws.specs.declared.view.Facts.{Facts}
use Rattle.cqs_rule_laws.specs.declared.view.Has.{Has}
use Rattle.cqs_rule_laws.specs.declared.view.View.{View}
use Rattle.cqs_rule_laws.specs.Lists.{Has as In, without}
use Rattle.cqs_rule_laws.specs.Placed.{GoesOn}
use Rattle.cqs_rule_laws.specs.Views.{facts_lessened, first_facts, has_less}
use Rattle.cqs_rule_laws.proofs.Places.{goes-same, known-still}
use Rattle.cqs_barrier_object.specs.declared.entries.BarrierEntry.{BarrierEntry}
use Rattle.cqs_barrier_object.specs.declared.entries.BarrierEntry.TheVariants as entry
use Rattle.cqs_barrier.specs.declared.answers.Arrived.TheVariants.{Last}
use Rattle.cqs_barrier.specs.declared.answers.PartyLeft.TheVariants.{TooLate}
use Rattle.cqs_barrier.specs.declared.answers.PartyWait.{PartyWait}
use Rattle.cqs_barrier.specs.Arriving.{Arrives, CameEarly, CameLast}
use Rattle.cqs_rule_laws.specs.CallRule.{IsReady}
use Rattle.cqs_barrier.specs.Leaving.{HasLeft, leaving_at}
use Rattle.cqs_barrier.specs.Resuming.{HasOwing}
use Rattle.cqs_c_latch_callers.specs.declared.barrier_caller.PartyOwes.{PartyOwes}
use Rattle.cqs_c_latch_callers.specs.declared.barrier_caller.PartyOwes.TheVariants.{Others, Leave}
use Rattle.cqs_c_latch_callers.specs.BarrierCallers.{OwesJust, StayApart, AreEvery}

-- a caller who owes nothing stays apart from nothing
pub apart-none : (o : Option PartyOwes) (xs : List PartyWait) → false ≡ is_some o → StayApart o xs
apart-none None xs e = tt
apart-none (Some owed) xs e = absurd (cc)

-- and has a token of each wait of its pass
pub every-none : (o : Option PartyOwes) (xs : List PartyWait) (waits : List ℕ) → false ≡ is_some o
    → length xs ≡ length waits → AreEvery o xs waits
every-none None xs waits e every = every
every-none (Some owed) xs waits e every = absurd (cc)

pub none-every : (o : Option PartyOwes) (xs : List PartyWait) (waits : List ℕ) → false ≡ is_some o
    → AreEvery o xs waits → length xs ≡ length waits
none-every None xs waits e every = every
none-every (Some owed) xs waits e every = absurd (cc)

-- the same where the pass has the same waits
pub every-stays : (o : Option PartyOwes) (xs : List PartyWait) (waits left : List ℕ) → left ≡ waits
    → AreEvery o xs waits → AreEvery o xs left
every-stays o xs waits left same every = subst (AreEvery o xs) (sym same) every

-- the wait that is being left is one of them still
pub has-yet : (k n : ℕ) (waits left : List ℕ) → n ≡ k → left ≡ waits → In k waits → In n left
has-yet k n waits left is same has = subst (In n) (sym same) (subst (λ (m : ℕ). In m waits) (sym is) has)

-- it is over
pub every-left : (k : ℕ) (xs : List PartyWait) (waits left : List ℕ) → left ≡ without k waits
    → length (without k waits) + 1 ≡ length waits → length xs + 1 ≡ length waits → length xs ≡ length left
every-left k xs waits left less once every = let as_short = ap length less in omega arith

-- what a pass that gave parties away has is what it had
lessened-further : (n : ℕ) (h : Has) → (has_less n h).further ≡ h.further
lessened-further zero h = refl
lessened-further (suc n) h = refl

pub lessened-ready : (gives : ℕ) (f g : Facts) → g ≡ facts_lessened gives f → IsReady f → IsReady g
lessened-ready gives f g is ready = subst IsReady (sym is) (record {
  idle = ready.idle;
  further = lessened-further gives f.has ∙ ready.further;
})

pub first-ready : (gives : ℕ) (f : Facts) → f ≡ first_facts gives → IsReady f
first-ready gives f is = subst IsReady (sym is) (record { idle = refl; further = refl })

module _ {T : Type 0} where
  -- a caller who has no token of what is owed owes none where its pass is ready
  pub owes-none : (v : View BarrierEntry T) (o : Option PartyOwes) → false ≡ is_some o → IsReady v.facts → OwesJust v o
  owes-none v None e ready = ready
  owes-none v (Some owed) e ready = absurd (cc)

  -- a pass that is at what it was owes what it owed
  pub none-owed : (v : View BarrierEntry T) (o : Option PartyOwes) → false ≡ is_some o → OwesJust v o → IsReady v.facts
  none-owed v None e ready = ready
  none-owed v (Some owed) e owes = absurd (cc)

  pub owes-same : (v w : View BarrierEntry T) (o : Option PartyOwes) → GoesOn v w → w.facts ≡ v.facts → OwesJust v o
      → OwesJust w o
  owes-same v w None goes same owes = subst IsReady (sym same) owes
  owes-same v w (Some (Others owing)) goes same owes = subst (λ (f : Facts). HasOwing f owing) (sym same) owes
  owes-same v w (Some (Leave leaving)) goes same owes = record {
    leaves = ap (λ (f : Facts). f.doing) same ∙ owes.leaves;
    further = ap (λ (f : Facts). f.has.further) same ∙ owes.further;
    place = known-still v w (leaving_at leaving) goes owes.place;
  }

  -- the pass after an arrival that goes through
  came-on : (v w : View BarrierEntry T) → ((ks : List ℕ) × CameLast ks v w)
      ⊎ ((k : ℕ) × CameEarly k (entry.Deliver k ∷ []) v w) → GoesOn v w
  came-on v w (inl came) = goes-same v w came.1.called.called.same
  came-on v w (inr came) = goes-same v w came.1.called.called.same

  pub through-waits : (v w : View BarrierEntry T) → Arrives v Last w
      → GoesOn v w × (w.facts.waits ≡ v.facts.waits)
  through-waits v w told = (came-on v w told.0, told.1.waits_are)

  -- and after a cancel that came too late
  pub late-waits : (k : ℕ) (v w : View BarrierEntry T) → HasLeft k v TooLate w
      → GoesOn v w × (w.facts.waits ≡ without k v.facts.waits) × IsReady w.facts
  late-waits k v w (inl stayed) = (goes-same v w stayed.0.called.same, stayed.1.waits_are, stayed.1.ready)
  late-waits k v w (inr late) = (goes-same v w late.0.called.same, late.1.waits_are, late.1.ready)
