-- A pass that drew a number, and whose suspend ended with a step on the cell of it.
use Rattle.std.proofs.Common.{◌≡◌, ℕ, List, [], ◌∷◌, ◌++◌, refl, sym, ap, ◌∙◌, subst}
use Rattle.cqs_core.specs.declared.cells.CoreState.{CoreState}
use Rattle.cqs_core.specs.declared.cells.CoreState.TheVariants as state
use Rattle.cqs_core.specs.declared.doings.Doing.TheVariants as doing
use Rattle.cqs_core.specs.QueueStages as stage
use Rattle.cqs_core.specs.QueueStages.{doing_at}
use Rattle.cqs_core.specs.QueueSteps.{QueueStep, CellRow, row_of, installs, takes, its_own, in_sync, takes_watched, finds_broken}
use Rattle.cqs_rule_laws.specs.declared.view.Facts.{Facts}
use Rattle.cqs_rule_laws.specs.declared.view.Has.{Has}
use Rattle.cqs_rule_laws.specs.declared.view.Sighting.TheVariants.{Cell, Word}
use Rattle.cqs_rule_laws.specs.declared.view.View.{View}
use Rattle.cqs_rule_laws.specs.Causes.{CellWas}
use Rattle.cqs_rule_laws.specs.Facts.{waits_then}
use Rattle.cqs_rule_laws.specs.Hidden.{has_gained}
use Rattle.cqs_rule_laws.specs.Layout.{suspends_place}
use Rattle.cqs_rule_laws.specs.Lists.{IsPrefix}
use Rattle.cqs_rule_laws.specs.Object.{Object, Primitive}
use Rattle.cqs_rule_laws.proofs.Causes.{Onward}
use Rattle.cqs_rule_laws.proofs.Prefixes.{prefix-more, called-prefix}
use Rattle.cqs_suspend.specs.Suspends.{end_entries, told_by, Ended, EndedBy}

module _ {C E S : Type 0} (object : Object E) (primitive : C → Primitive E S) (drawing : QueueStep) where
  -- The cell of the number k was found in this state, with this payload, before these entries. The pass has this
  -- and waits for these then.
  pub record Sat (at : CoreState) (k payload : ℕ) (own : List E) (has : Has) (waits : List ℕ) (v w : View E S)
      : Type 0 where
    pub onward : Onward v w
    pub cell : (cell : CellWas primitive at k own w) × (cell.payload ≡ payload)
    pub idle : w.facts.doing ≡ doing.Idle
    pub has_is : w.facts.has ≡ has
    pub waits_are : w.facts.waits ≡ waits

  -- by a step after which the pass is idle
  sat-ended : (s : QueueStep) (row : CellRow) (tries k payload : ℕ) (v w : View E S) → row.goes_to ≡ stage.idle
      → Ended object primitive drawing s row tries k payload v w
      → Sat row.finds k payload (end_entries object k v s row payload)
      (has_gained object.gains row.gain (told_by row payload v.facts) v.facts.has) (waits_then row.wait k v.facts.waits)
      v w
  sat-ended s row tries k payload v w idle e =
      let all = ap (λ (f : Facts). f.found) e.facts_are in
      record {
        onward = record {
          seen = called-prefix object v w _ _ e.called;
          found = subst (IsPrefix v.facts.found) (sym all)
              (prefix-more v.facts.found (Word suspends_place k ∷ []) e.found (Cell k e.word ∷ []));
          opening = e.called.same.opening;
        };
        cell = (
          record { word = e.word; payload = payload; cell = e.cell; found = (_, all); was = e.was },
          refl,
        );
        idle = ap (λ (f : Facts). f.doing) e.facts_are ∙ ap (λ z. doing_at z k) idle;
        has_is = ap (λ (f : Facts). f.has) e.facts_are;
        waits_are = ap (λ (f : Facts). f.waits) e.facts_are;
      }

  -- the value was there, and was taken
  pub sat-taken : (tries k payload : ℕ) (v w : View E S)
      → EndedBy object primitive drawing takes (row_of takes) tries k payload v w
      → Sat state.Value k payload (object.entries takes v.number k payload)
      (has_gained object.gains its_own payload v.facts.has) v.facts.waits v w
  sat-taken tries k payload v w e = sat-ended takes _ tries k payload v w refl e

  -- the same of a value that its resume watched
  pub sat-watched : (tries k payload : ℕ) (v w : View E S)
      → EndedBy object primitive drawing (in_sync takes_watched) (row_of (in_sync takes_watched)) tries k payload v w
      → Sat state.Value k payload (object.entries (in_sync takes_watched) v.number k payload)
      (has_gained object.gains its_own payload v.facts.has) v.facts.waits v w
  sat-watched tries k payload v w e = sat-ended (in_sync takes_watched) _ tries k payload v w refl e

  -- its resume had taken it back, and broken the cell
  pub sat-broken : (tries k payload : ℕ) (v w : View E S)
      → EndedBy object primitive drawing (in_sync finds_broken) (row_of (in_sync finds_broken)) tries k payload v w
      → Sat state.Broken k payload (object.entries (in_sync finds_broken) v.number k v.facts.has.payload) v.facts.has
      v.facts.waits v w
  sat-broken tries k payload v w e = sat-ended (in_sync finds_broken) _ tries k payload v w refl e

  -- the cell was empty, and the pass waits there
  pub sat-installed : (tries k payload : ℕ) (v w : View E S)
      → EndedBy object primitive drawing installs (row_of installs) tries k payload v w
      → Sat state.Empty k payload (object.entries installs v.number k v.facts.has.payload) v.facts.has
      (v.facts.waits ++ k ∷ []) v w
  sat-installed tries k payload v w e = sat-ended installs _ tries k payload v w refl e
