-- What one pass holds, or some of it, becomes another's: where each stands then, and what is left of one that gave.
use Rattle.std.proofs.Common.{◌≡◌, ◌≢◌, ℕ, ◌-◌, zero, suc, set, sym, refl, ◌∙◌, arith}
use Rattle.cqs_core.proofs.Places.{get-set_here, get-set_else}
use Rattle.cqs_rule_laws.specs.declared.view.View.{View}
use Rattle.cqs_rule_laws.specs.declared.view.Facts.{Facts}
use Rattle.cqs_rule_laws.specs.Hidden.{Hidden, hands_over}
use Rattle.cqs_rule_laws.specs.Views.{facts_lessened, has_less, as_before}
use Rattle.cqs_rule_laws.specs.Ruled.{Stands}
use Rattle.cqs_rule_laws.specs.Object.{Object}
use Rattle.cqs_rule_laws.specs.Saw.{IsLive}
use Rattle.cqs_rule_laws.specs.declared.view.Has.{Has as OwnHas}
use Rattle.cqs_rule_laws.specs.Crew.{MayGive}
use Rattle.cqs_rule_laws.proofs.Shelves.{Keeps, keeps-all}

-- what a pass that neither gives nor gets is at stays, where another gives to a third
pub handed-else : (c : Hidden) (from to : ℕ) (gave got : OwnHas) (n : ℕ) (facts : Facts) → n ≢ from → n ≢ to
    → Stands c n facts
    → Stands (hands_over c from gave to got) n facts
handed-else c from to gave got n facts apart other at = record {
  doing = at.doing;
  has = get-set_else (set c.has from gave) to n got (λ e. other (sym e))
      ∙ (get-set_else c.has from n gave (λ e. apart (sym e)) ∙ at.has);
  may_draw = at.may_draw;
  waits = at.waits;
  all_waits = at.all_waits;
  once = at.once;
  last = at.last;
  behind = record { reached = at.behind.reached; passed = at.behind.passed };
}

-- the pass that gives, and the one that gets it
pub handed-from : (c : Hidden) (from to : ℕ) (gave got : OwnHas) (facts : Facts) → from ≢ to → Stands c from facts
    → Stands (hands_over c from gave to got) from (record facts { has = gave })
handed-from c from to gave got facts apart at = record {
  doing = at.doing;
  has = get-set_else (set c.has from gave) to from got (λ e. apart (sym e))
      ∙ get-set_here c.has from facts.has gave at.has;
  may_draw = at.may_draw;
  waits = at.waits;
  all_waits = at.all_waits;
  once = at.once;
  last = at.last;
  behind = record { reached = at.behind.reached; passed = at.behind.passed };
}

pub handed-to : (c : Hidden) (from to : ℕ) (gave got : OwnHas) (facts : Facts) → from ≢ to → Stands c to facts
    → Stands (hands_over c from gave to got) to (record facts { has = got })
handed-to c from to gave got facts apart at = record {
  doing = at.doing;
  has = get-set_here (set c.has from gave) to facts.has got (get-set_else c.has from to gave apart ∙ at.has);
  may_draw = at.may_draw;
  waits = at.waits;
  all_waits = at.all_waits;
  once = at.once;
  last = at.last;
  behind = record { reached = at.behind.reached; passed = at.behind.passed };
}

-- what a pass keeps that gave so much of what it held, and what of it stays as it was
pub lessened-held : (gives : ℕ) (h : OwnHas) → (has_less gives h).held ≡ h.held - gives
lessened-held zero h = omega arith
lessened-held (suc n) h = refl

pub lessened-payload : (gives : ℕ) (h : OwnHas) → (has_less gives h).payload ≡ h.payload
lessened-payload zero h = refl
lessened-payload (suc n) h = refl

pub lessened-further : (gives : ℕ) (h : OwnHas) → (has_less gives h).further ≡ h.further
lessened-further zero h = refl
lessened-further (suc n) h = refl

-- a pass that gives nothing keeps its slots, and one that gives some has none
pub keeps-less : {E S : Type 0} (opens : OwnHas → ℕ → Type 0) (gives : ℕ) (v : View E S) → MayGive opens gives v.facts
    → Keeps opens v (facts_lessened gives v.facts)
keeps-less opens zero v may = keeps-all opens v (facts_lessened zero v.facts) refl (λ k o. o)
keeps-less opens (suc n) v may =
    keeps-all opens v (facts_lessened (suc n) v.facts) refl (λ k o. absurd (may.shut (omega arith) k o))

-- what holds of a live view holds of it with less
pub live-lessened : {E S : Type 0} (object : Object E) (v : View E S) (gives : ℕ)
    → object.knows v.opening (has_less gives v.facts.has) → IsLive object v
    → IsLive object (record v { facts = facts_lessened gives v.facts })
live-lessened object v gives known l = record {
  legal = l.legal;
  unnamed = l.unnamed;
  own = l.own;
  held = omega (arith, l.held, lessened-held gives v.facts.has);
  few = omega (arith, l.few, lessened-held gives v.facts.has);
  known = known;
  inside = record {
    number = l.inside.number;
    waits = l.inside.waits;
    once = l.inside.once;
    few = l.inside.few;
    payload = omega (arith, l.inside.payload, lessened-payload gives v.facts.has);
    made = l.inside.made;
  };
}

-- what holds of a live view doesn't speak of what the crew's word changes
pub live-before : {E S : Type 0} (object : Object E) (v w : View E S) → IsLive object (as_before v w) → IsLive object w
live-before object v w l = record {
  legal = l.legal;
  unnamed = l.unnamed;
  own = l.own;
  held = l.held;
  few = l.few;
  known = l.known;
  inside = record {
    number = l.inside.number;
    waits = l.inside.waits;
    once = l.inside.once;
    few = l.inside.few;
    payload = l.inside.payload;
    made = l.inside.made;
  };
}
