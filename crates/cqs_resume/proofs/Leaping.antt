-- What a jump leaves of its pass, and what it told still holds later.
use Rattle.std.proofs.Common.{◌≡◌, ◌≢◌, ℕ, ◌<◌, List, [], ◌++◌, Option, None, Some, sym, refl, ap, ◌∙◌, subst, append_assoc}
use Rattle.std.specs.Prelude.{Result, Ok, Err, OnOk, IfErr}
use Rattle.std.proofs.lemmas.List.{append-nil}
use Rattle.cqs_rule_laws.specs.declared.view.Facts.{Facts}
use Rattle.cqs_rule_laws.specs.declared.view.View.{View}
use Rattle.cqs_rule_laws.specs.Called.{Called}
use Rattle.cqs_rule_laws.specs.Facts.{IsBehind}
use Rattle.cqs_rule_laws.specs.Hidden.{Hidden}
use Rattle.cqs_rule_laws.specs.Jumped.{facts_jumped, Jumped}
use Rattle.cqs_rule_laws.specs.Object.{Object, Primitive}
use Rattle.cqs_rule_laws.specs.Saw.{WasFound, WasShown, WasSo}
use Rattle.cqs_rule_laws.proofs.Calls.{called-by, called-none}
use Rattle.cqs_resume.specs.Leaps.{IsLeapt, IsTried, Leap, leap_seen, Leapt}

-- a pass at these facts that found this by a jump, if it tried one
abbrev pub facts_leapt : Option Leap → Facts → Facts → Facts
facts_leapt leap now f = record f { last = now.last; found = f.found ++ leap_seen leap }

module _ {C E S : Type 0} (primitive : C → Primitive E S) where
  -- what held at a step holds for what the pass has seen later
  pub was-so : (fact : Hidden → List ℕ → Type 0) (es more : List E) (u w : View E S) → WasFound primitive fact es u
      → w.seen ≡ u.seen ++ more → w.opening ≡ u.opening → WasSo primitive fact w
  was-so fact es more u w f seen opening = record {
    before = f.before;
    seen = (es ++ more, seen ∙ (ap (λ l. l ++ more) f.seen ∙ append_assoc f.before es more));
    was = subst (λ z. WasShown primitive z fact f.before) (sym opening) f.was;
  }

  pub so-on : (fact : Hidden → List ℕ → Type 0) (more : List E) (u w : View E S) → WasSo primitive fact u
      → w.seen ≡ u.seen ++ more → w.opening ≡ u.opening → WasSo primitive fact w
  so-on fact more u w f seen opening = record {
    before = f.before;
    seen = (
      f.seen.0 ++ more,
      seen ∙ (ap (λ l. l ++ more) f.seen.1 ∙ append_assoc f.before f.seen.0 more),
    );
    was = subst (λ z. WasShown primitive z fact f.before) (sym opening) f.was;
  }

  pub leapt-on : (leap : Option Leap) (more : List E) (u w : View E S) → IsLeapt primitive u leap
      → w.seen ≡ u.seen ++ more → w.opening ≡ u.opening → IsLeapt primitive w leap
  leapt-on None more u w leapt seen opening = tt
  leapt-on (Some l) more u w leapt seen opening = (
    leapt.0,
    λ made k low below.
        let was = leapt.1 made k low below in (was.0, so-on _ more u w was.1 seen opening),
  )

module _ {C E S : Type 0} (object : Object E) (primitive : C → Primitive E S) where
  -- a jump that was tried, made or not
  pub leapt-by : {T : Type 0} (from to : ℕ) (result : Result T ℕ) (v w : View E S) → from < to
      → OnOk result (Jumped object primitive from to v from w)
      → IfErr result (λ n. (n ≢ from) × Jumped object primitive from to v n w)
      → (leap : Option Leap) × Leapt object primitive leap v w × IsTried from to leap
  leapt-by from to (Ok made) v w order jumped missed =
      (Some (record { from = from; to = to; found = from }), (order, jumped), (refl, refl))
  leapt-by from to (Err n) v w order jumped missed =
      (Some (record { from = from; to = to; found = n }), (order, missed.1), (refl, refl))

  -- after a jump, if one was tried: the pass has seen no entry of its own, and is at what it was at
  pub record Firstly (leap : Option Leap) (v y : View E S) : Type 0 where
    pub called : Called object v [] [] y
    pub facts_are : y.facts ≡ facts_leapt leap y.facts v.facts
    pub leapt : IsLeapt primitive y leap

  pub firstly : (leap : Option Leap) (v y : View E S) → Leapt object primitive leap v y → Firstly leap v y
  firstly None v y same = record {
    called = subst (λ (z : View E S). Called object v [] [] z) (sym same) (called-none object v);
    facts_are = ap (λ (z : View E S). z.facts) same
        ∙ (λ i. record v.facts {
          last = (sym same i).facts.last;
          found = sym (append-nil v.facts.found) i;
        });
    leapt = tt;
  }
  firstly (Some l) v y j = record {
    called = called-by object v y _ [] j.1.saw;
    facts_are = j.1.saw.facts_are
        ∙ (λ i. record (facts_jumped l.from l.to l.found v.facts) { last = (sym j.1.saw.facts_are i).last });
    leapt = (
      j.0,
      λ made k low below.
          let c = j.1.cancelled made k low below in (
            c.payload,
            was-so primitive _ [] [] y y c.was (sym (append-nil y.seen)) refl,
          ),
    );
  }

  pub behind-first : (leap : Option Leap) (v y : View E S) (k : ℕ) → Firstly leap v y → IsBehind k y.facts
      → IsBehind k v.facts
  behind-first leap v y k f behind =
      let now : IsBehind k (facts_leapt leap y.facts v.facts) = subst (IsBehind k) f.facts_are behind in
      record { reached = now.reached; passed = now.passed }
