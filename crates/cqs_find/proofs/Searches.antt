-- What a search leaves: a step from there tells as much as one from where it began.
use Rattle.std.proofs.Common.{ℕ, ◌/◌, ◌≤◌, true, false, List, [], ◌++◌, length, refl, subst, sym, ◌∙◌, arith}
use Rattle.std.proofs.lemmas.List.{append-nil}
use Rattle.cqs_rule_laws.specs.declared.view.Spare.{Spare}
use Rattle.cqs_rule_laws.specs.declared.view.View.{View}
use Rattle.cqs_rule_laws.specs.Object.{Object}
use Rattle.cqs_rule_laws.specs.Saw.{Saw}
use Rattle.cqs_rule_laws.specs.SegmentSteps.{LeftBy}
use Rattle.cqs_rule_laws.proofs.Calls.{same-here}
use Rattle.cqs_segment.specs.Walks.{Left}
use Rattle.cqs_rule.proofs.Claiming as claims
use Rattle.cqs_find.specs.Finds.{facts_searched, longest_search, Searched}

module _ {E S : Type 0} (object : Object E) where
  -- steps on segments, as steps of a search
  pub saw-left : (v w : View E S) (heads : List (ℕ × ℕ)) (spares : List Spare)
      → LeftBy heads spares v.facts.duties v w → Saw object v (facts_searched [] heads spares v.facts) [] w
  saw-left v w heads spares left = subst (λ f. Saw object v f [] w)
      (λ i. record v.facts {
        spare_slots = spares;
        heads = v.facts.heads ++ heads;
        found = sym (append-nil v.facts.found) i;
      })
      (claims.saw-left object v w heads spares v.facts.duties left)

  -- a search that found no more heads than there are slots
  pub searched-few : (k : ℕ) (v w : View E S) (heads : List (ℕ × ℕ)) → v.slots ≤ longest_search
      → length heads ≤ v.slots → LeftBy heads v.facts.spare_slots v.facts.duties v w → Searched object k v w
  searched-few k v w heads few more left = record {
    heads = heads;
    spares = v.facts.spare_slots;
    search = record { far = false; is_far = λ is. absurd (cc); few = λ _. omega arith; kept = λ _. refl };
    saw = saw-left v w heads v.facts.spare_slots left;
  }

  -- one for a segment that wasn't made
  pub searched-far : (k : ℕ) (v w : View E S) (spares : List Spare) → length v.segments.homes ≤ k / 32
      → (left : Left spares v.facts.duties v w) → Searched object k v w
  searched-far k v w spares far left = record {
    heads = left.0;
    spares = spares;
    search = record { far = true; is_far = λ _. far; few = λ is. absurd (cc); kept = λ is. absurd (cc) };
    saw = saw-left v w left.0 spares left.1;
  }

  -- no step at all
  pub searched-none : (k : ℕ) (v : View E S) → Searched object k v v
  searched-none k v = record {
    heads = [];
    spares = v.facts.spare_slots;
    search = record { far = false; is_far = λ is. absurd (cc); few = λ _. omega arith; kept = λ _. refl };
    saw = record {
      between = [];
      seen = sym (append-nil (v.seen ++ []) ∙ append-nil v.seen);
      silent = λ n h. refl;
      facts_are = λ i. record v.facts {
        heads = sym (append-nil v.facts.heads) i;
        found = sym (append-nil v.facts.found) i;
      };
      same = same-here v;
      handed = ([], sym (append-nil v.handed));
      unlaid = λ j bare. bare;
      sole = λ a. refl;
    };
  }
