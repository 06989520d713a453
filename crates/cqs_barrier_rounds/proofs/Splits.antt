-- How a pass of one round is made, taken in again, and asked whether it is alone.
use Rattle.std.proofs.Common.{◌≡◌, inl, inr, ℕ, zero, suc, ◌+◌, ◌<◌, ◌≤◌, Bool, true, false, ◌++◌, IsTrue, refl, sym, ap, ◌∙◌, subst, arith}
use Rattle.std.proofs.lemmas.Bool.{cases_lt}
use mathlib.Core.Logic.{◌↔◌}
use Rattle.cqs_barrier_object.specs.declared.entries.BarrierEntry.{BarrierEntry}
use Rattle.cqs_rule_laws.specs.declared.client.ClientWords.{Ghosts}
use Rattle.cqs_rule.specs.declared.queue.Pass.{Pass}
use Rattle.cqs_rule_laws.specs.declared.view.Has.{Has}
use Rattle.cqs_rule_laws.specs.Alone.{IsAlone}
use Rattle.cqs_rule_laws.specs.Crew.{MadeNone}
use Rattle.cqs_rule_laws.specs.Hidden.{has_less}
use Rattle.cqs_rule.specs.Passes.{pass_view}
use Rattle.cqs_rule.specs.Seats.{IsBusy, HasLookedOn}
use Rattle.cqs_rule_laws.specs.Views.{first_facts, live_in}
use Rattle.cqs_barrier.specs.Parked.{BarrierClient}
use Rattle.cqs_rule_laws.specs.CallRule.{IsReady}
use Rattle.cqs_barrier.specs.Causes.{primitive_of}
use Rattle.cqs_barrier_rounds.specs.Seats.{HasAsked, HasMade, HasTakenIn, IsBack, IsFree}

-- a number that would refuse what went well is above
pub room-there : (passes made : ℕ) → (passes ≤ made → false ≡ true) → made < passes
room-there passes made refuses = elim (cases_lt made passes) [
  | inl low ↦ low
  | inr high ↦ let refused = refuses high in absurd (cc)
]

lessened-back : (n : ℕ) (h : Has) → n ≤ h.held → (has_less n h).held + n ≡ h.held
lessened-back zero h enough = omega arith
lessened-back (suc n) h enough = omega arith

lessened-further : (n : ℕ) (h : Has) → (has_less n h).further ≡ h.further
lessened-further zero h = refl
lessened-further (suc n) h = refl

first-free : (n : ℕ) → IsBusy (first_facts n) → ⊥
first-free n (inl owes) = absurd (cc)
first-free n (inr waits) = omega arith

module _ {g : Ghosts BarrierClient (Unit {0}) BarrierEntry} where
  pub looked-ready : (p q : Pass BarrierClient (Unit {0}) BarrierEntry g) → HasLookedOn p q
      → IsReady (pass_view p).facts → IsReady (pass_view q).facts
  looked-ready p q looked ready = subst IsReady (sym looked.facts_are) ready

  pub made-ready : (gives : ℕ) (new p q : Pass BarrierClient (Unit {0}) BarrierEntry g) → HasMade gives new p q
      → IsReady (pass_view p).facts → IsReady (pass_view q).facts
  made-ready gives new p q made ready = subst IsReady (sym made.gave.facts_are) (record {
    idle = ready.idle;
    further = lessened-further gives (pass_view p).facts.has ∙ ready.further;
  })

  pub made-free : (gives : ℕ) (new p q : Pass BarrierClient (Unit {0}) BarrierEntry g) → HasMade gives new p q
      → IsFree new
  made-free gives new p q made = record {
    between = inl (ap (λ f. f.doing) made.came.facts);
    free = λ busy. first-free gives (subst IsBusy made.came.facts busy);
  }

  pub taken-back : (gives : ℕ) (new p m q : Pass BarrierClient (Unit {0}) BarrierEntry g) → HasMade gives new p m
      → HasTakenIn new m q → gives ≤ (pass_view p).facts.has.held → IsBack gives p q
  taken-back gives new p m q made taken enough =
      let less = ap (λ f. f.has.held) made.gave.facts_are in
      let got = ap (λ f. f.has.held) made.came.facts in
      record {
        between = m;
        new = new;
        made = made;
        taken = taken;
        held = omega (arith, less, got, taken.held, lessened-back gives (pass_view p).facts.has enough);
        waits = ap (λ f. f.waits) taken.met.facts_are ∙ ap (λ f. f.waits) made.gave.facts_are;
        number = taken.met.number ∙ made.gave.same.number;
        counted = taken.met.own_is
            ∙ (ap (λ ns. ns ++ (pass_view new).own) made.gave.same.own
            ∙ ap (λ ns. (pass_view p).own ++ ns) made.came.own);
      }

  pub asked-by : (p q : Pass BarrierClient (Unit {0}) BarrierEntry g) (result : Bool) → HasLookedOn p q
      → MadeNone (pass_view p) (pass_view q) → result ≡ (pass_view q).alone
      → (IsTrue result ↔ live_in (pass_view q).crew ≡ 1)
      → (IsTrue result → IsAlone primitive_of (pass_view q))
      → ((pass_view p).alone ≡ true → (pass_view q).alone ≡ true) → HasAsked p q
  asked-by p q result looked none same sole others kept = record {
    looked = looked;
    made_none = none;
    sole = (λ alone. sole.0 (same ∙ alone), λ one. sym same ∙ sole.1 one);
    others = λ alone. others (same ∙ alone);
    kept = kept;
  }
