-- A waiter that left or was refused where its client was asked: what its pass is at then, and what was found on the
-- way. And one that came too late.
use Rattle.std.proofs.Common.{◌≡◌, ℕ, Bool, true, false, List, [], ◌∷◌, ◌++◌, ◌⊎◌, refl, sym, ap, ◌∙◌, subst, append_assoc, inl, inr}
use Rattle.std.proofs.lemmas.List.{append-nil}
use Rattle.cqs_core.specs.declared.cells.CoreState.TheVariants as state
use Rattle.cqs_core.specs.declared.doings.Doing.{Doing}
use Rattle.cqs_core.specs.declared.doings.Doing.TheVariants as doing
use Rattle.cqs_core.specs.QueueSteps.{QueueStep, CellRow, looks, late, starts_leaving, settles, settles_owing, refuses, refuses_value, its_own}
use Rattle.cqs_rule_laws.specs.declared.view.Facts.{Facts}
use Rattle.cqs_rule_laws.specs.declared.view.Has.{Has}
use Rattle.cqs_rule_laws.specs.declared.view.Sighting.{Sighting}
use Rattle.cqs_rule_laws.specs.declared.view.Sighting.TheVariants.{Cell, Word}
use Rattle.cqs_rule_laws.specs.declared.view.View.{View}
use Rattle.cqs_rule.specs.Callbacks.{by_step}
use Rattle.cqs_rule_laws.specs.Called.{Called}
use Rattle.cqs_rule_laws.specs.CallRule.{IsReady, RestsHolding}
use Rattle.cqs_rule_laws.specs.Causes.{cell_of, CellWas, CellWasOnce}
use Rattle.cqs_rule_laws.specs.Events.{Event, Moment, HasWord, has_then}
use Rattle.cqs_rule_laws.specs.Exchanges.{HasCell}
use Rattle.cqs_rule_laws.specs.Hidden.{has_gained}
use Rattle.cqs_rule_laws.specs.Layout.{client_place}
use Rattle.cqs_rule_laws.specs.Lists.{IsPrefix, without}
use Rattle.cqs_rule_laws.specs.Object.{Object, Primitive}
use Rattle.cqs_rule_laws.specs.Saw.{WasShown, WasFound}
use Rattle.cqs_rule_laws.proofs.Prefixes.{prefix-more}
use Rattle.cqs_cancel.specs.Cancels.{Settled, Settles, Leaves, Began, CameLate, facts_leaving, asks_at}
use Rattle.cqs_cancel.specs.declared.cancelling.Left.{Left}
use Rattle.cqs_cancel.specs.declared.cancelling.Left.TheVariants.{Gone}

-- How a client is asked, at its word i by this event: the step shows these entries of a pass that leaves the wait k,
-- the steps at the cell show none, and the pass has then what it had.
pub record Asks {E : Type 0} (object : Object E) (event : Event E) (own : ℕ → ℕ → List E) : Type 0 where
  pub starting : (p k payload : ℕ) → object.entries starts_leaving p k payload ≡ []
  pub asking : (m : Moment) (k : ℕ) → m.facts.doing ≡ doing.Leaving k → event.entries m ≡ own m.pass k
  pub keeps : (m : Moment) → has_then event m ≡ m.facts.has
  pub settling : (p k payload : ℕ) → object.entries settles p k payload ≡ []
  pub owing : (p k payload : ℕ) → object.entries settles_owing p k payload ≡ []
  pub refusing : (p k payload : ℕ) → object.entries refuses p k payload ≡ []
  pub refusing_value : (p k payload : ℕ) → object.entries refuses_value p k payload ≡ []

module _ {C E S : Type 0} (object : Object E) (primitive : C → Primitive E S) (place : ℕ) (event : Event E)
    (own : ℕ → ℕ → List E) (asks : Asks object event own) where
  -- the leaving of the wait k, whose cell was this word, was settled by this step
  abbrev pub SettlesBy : QueueStep → Bool → ℕ → ℕ → ℕ → View E S → View E S → Type 0
  SettlesBy s answer k word payload v u =
      Settles object primitive (object.entries starts_leaving v.number k v.facts.has.payload)
      (facts_leaving object.gains k word v.facts) place event s answer k payload v u

  abbrev SettledBy : CellRow → QueueStep → Bool → ℕ → ℕ → ℕ → View E S → View E S → Type 0
  SettledBy row s answer k word payload v u =
      Settled object primitive (object.entries starts_leaving v.number k v.facts.has.payload)
      (facts_leaving object.gains k word v.facts) place event s row answer k payload v u

  -- The waiter of the number k is out, and the pass is at this, and has this.
  pub record Out (at : Doing) (has : Has → Has) (k word : ℕ) (v u : View E S) : Type 0 where
    pub called : Called object v (own v.number k) [] u
    pub doing_is : u.facts.doing ≡ at
    pub has_is : u.facts.has ≡ has v.facts.has
    pub waits_are : u.facts.waits ≡ without k v.facts.waits
    pub passed : u.facts.passed ≡ v.facts.passed
    pub found : IsPrefix (v.facts.found ++ Cell k word ∷ []) u.facts.found

  -- The client was asked, found its word so, and answered this.
  pub record Asked (answer : Bool) (k leaving : ℕ) (v u : View E S) : Type 0 where
    pub word : ℕ
    pub decided : event.doing (asks_at v (facts_leaving object.gains k leaving v.facts) word) ≡ doing.Decided k answer
    pub before : List E
    pub since : IsPrefix v.seen before
    pub seen : IsPrefix (before ++ own v.number k) u.seen
    pub was : WasShown primitive u.opening (HasWord place word) before
    pub found : (earlier : List Sighting) × (later : List Sighting)
        × (u.facts.found ≡ v.facts.found ++ (earlier ++ Word (client_place place) word ∷ later))

  own-so : (k word n : ℕ) (v : View E S)
      → event.entries (asks_at v (facts_leaving object.gains k word v.facts) n) ≡ own v.number k
  own-so k word n v = asks.asking (asks_at v (facts_leaving object.gains k word v.facts) n) k refl

  pub asked-so : (row : CellRow) (s : QueueStep) (answer : Bool) (k word payload : ℕ) (v u : View E S)
      → SettledBy row s answer k word payload v u → Asked answer k word v u
  asked-so row s answer k word payload v u e = record {
    word = e.asked;
    decided = e.decided;
    before = e.asked_was.before;
    since = e.asked_since;
    seen = subst (λ es. IsPrefix (e.asked_was.before ++ es) u.seen) (own-so k word e.asked v) e.asked_next;
    was = e.asked_was.was;
    found = (
      Cell k word ∷ [],
      e.tried ++ Cell k e.found ∷ [],
      ap (λ (f : Facts). f.found) e.facts_are
          ∙ (append_assoc ((v.facts.found ++ Cell k word ∷ []) ++ Word (client_place place) e.asked ∷ []) e.tried _
          ∙ (append_assoc (v.facts.found ++ Cell k word ∷ []) (Word (client_place place) e.asked ∷ []) _
          ∙ append_assoc v.facts.found (Cell k word ∷ []) _)),
    );
  }

  -- the cell as it was found in the end, by a step that shows no entry
  pub cell-so : (row : CellRow) (s : QueueStep) (answer : Bool) (k word payload : ℕ) (v u : View E S)
      → ((p k payload : ℕ) → object.entries s p k payload ≡ []) → SettledBy row s answer k word payload v u
      → CellWas primitive row.finds k [] u
  cell-so row s answer k word payload v u silent e = record {
    word = e.found;
    payload = payload;
    cell = e.cell;
    found = (_, ap (λ (f : Facts). f.found) e.facts_are);
    was = subst (λ es. WasFound primitive (HasCell (cell_of k row.finds payload)) es u) (silent v.number k e.told)
        e.was;
  }

  called-so : (row : CellRow) (s : QueueStep) (answer : Bool) (k word payload : ℕ) (v u : View E S)
      → ((p k payload : ℕ) → object.entries s p k payload ≡ []) → SettledBy row s answer k word payload v u
      → Called object v (own v.number k) [] u
  called-so row s answer k word payload v u silent e =
      let none = silent v.number k e.told in
      subst (λ es. Called object v es [] u) (append-nil (own v.number k))
      (subst (λ (z : List E × List E × List E). Called object v (z.0 ++ (z.1 ++ z.2)) z.2 u)
      (λ i. (asks.starting v.number k v.facts.has.payload i, own-so k word e.asked v i, none i)) e.called)

  -- no resume had come to its cell, or one had and ended there
  pub out-settles : (k word : ℕ) (v u : View E S) → SettlesBy settles true k word 0 v u
      → Out doing.Idle (λ h. h) k word v u
  out-settles k word v u e =
      let is = e.facts_are in
      record {
        called = called-so _ settles true k word 0 v u asks.settling e;
        doing_is = ap (λ (f : Facts). f.doing) is;
        has_is = ap (λ (f : Facts). f.has) is ∙ asks.keeps _;
        waits_are = ap (λ (f : Facts). f.waits) is;
        passed = ap (λ (f : Facts). f.passed) is;
        found = subst (IsPrefix (v.facts.found ++ Cell k word ∷ [])) (sym (ap (λ (f : Facts). f.found) is))
            (prefix-more _ (Word (client_place place) e.asked ∷ []) e.tried (Cell k e.found ∷ []));
      }

  pub out-refuses : (k word : ℕ) (v u : View E S) → SettlesBy refuses false k word 0 v u
      → Out doing.Idle (λ h. h) k word v u
  out-refuses k word v u e =
      let is = e.facts_are in
      record {
        called = called-so _ refuses false k word 0 v u asks.refusing e;
        doing_is = ap (λ (f : Facts). f.doing) is;
        has_is = ap (λ (f : Facts). f.has) is ∙ asks.keeps _;
        waits_are = ap (λ (f : Facts). f.waits) is;
        passed = ap (λ (f : Facts). f.passed) is;
        found = subst (IsPrefix (v.facts.found ++ Cell k word ∷ [])) (sym (ap (λ (f : Facts). f.found) is))
            (prefix-more _ (Word (client_place place) e.asked ∷ []) e.tried (Cell k e.found ∷ []));
      }

  pub out-refuses_value : (k word payload : ℕ) (v u : View E S) → SettlesBy refuses_value false k word payload v u
      → Out doing.Idle (λ h. h) k word v u
  out-refuses_value k word payload v u e =
      let is = e.facts_are in
      record {
        called = called-so _ refuses_value false k word payload v u asks.refusing_value e;
        doing_is = ap (λ (f : Facts). f.doing) is;
        has_is = ap (λ (f : Facts). f.has) is ∙ asks.keeps _;
        waits_are = ap (λ (f : Facts). f.waits) is;
        passed = ap (λ (f : Facts). f.passed) is;
        found = subst (IsPrefix (v.facts.found ++ Cell k word ∷ [])) (sym (ap (λ (f : Facts). f.found) is))
            (prefix-more _ (Word (client_place place) e.asked ∷ []) e.tried (Cell k e.found ∷ []));
      }

  -- where the queue's cancel answered that nothing is owed
  abbrev pub EndsGone : ℕ → ℕ → View E S → View E S → Type 0
  EndsGone k word v u =
      Leaves object primitive (object.entries starts_leaving v.number k v.facts.has.payload)
      (facts_leaving object.gains k word v.facts) (by_step place event) k v Gone u

  pub out-gone : (k word : ℕ) (v u : View E S) → EndsGone k word v u → Out doing.Idle (λ h. h) k word v u
  out-gone k word v u (inl e) = out-settles k word v u e
  out-gone k word v u (inr (inl e)) = out-refuses k word v u e
  out-gone k word v u (inr (inr e)) = out-refuses_value k word e.0 v u e.1

  -- The waiter left the line, or was refused: what was answered, and what its cell was found to be in the end.
  pub went-gone : (k word : ℕ) (v u : View E S) → EndsGone k word v u
      → (Asked true k word v u × CellWas primitive state.Cancelling k [] u)
      ⊎ (Asked false k word v u
      × (CellWas primitive state.Cancelling k [] u ⊎ CellWas primitive state.Delegated k [] u))
  went-gone k word v u (inl e) = inl (
    asked-so _ settles true k word 0 v u e,
    cell-so _ settles true k word 0 v u asks.settling e,
  )
  went-gone k word v u (inr (inl e)) = inr (
    asked-so _ refuses false k word 0 v u e,
    inl (cell-so _ refuses false k word 0 v u asks.refusing e),
  )
  went-gone k word v u (inr (inr e)) = inr (
    asked-so _ refuses_value false k word e.0 v u e.1,
    inr (cell-so _ refuses_value false k word e.0 v u asks.refusing_value e.1),
  )

  -- the waiter left the line, and a resume had left its value to it
  pub out-owing : (k word payload : ℕ) (v u : View E S) → (e : SettlesBy settles_owing true k word payload v u)
      → Out doing.Owes (λ h. record h { payload = e.told }) k word v u × CellWasOnce primitive state.Delegated k v u
  out-owing k word payload v u e =
      let is = e.facts_are in
      let found = ap (λ (f : Facts). f.found) is in (
        record {
          called = called-so _ settles_owing true k word payload v u asks.owing e;
          doing_is = ap (λ (f : Facts). f.doing) is;
          has_is = ap (λ (f : Facts). f.has) is ∙ ap (λ (h : Has). record h { payload = e.told }) (asks.keeps _);
          waits_are = ap (λ (f : Facts). f.waits) is;
          passed = ap (λ (f : Facts). f.passed) is;
          found = subst (IsPrefix (v.facts.found ++ Cell k word ∷ [])) (sym found)
              (prefix-more _ (Word (client_place place) e.asked ∷ []) e.tried (Cell k e.found ∷ []));
        },
        record {
          word = e.found;
          payload = payload;
          cell = e.cell;
          found = (
            Cell k word ∷ (Word (client_place place) e.asked ∷ e.tried),
            [],
            found
                ∙ (append_assoc ((v.facts.found ++ Cell k word ∷ []) ++ Word (client_place place) e.asked ∷ []) e.tried
                _
                ∙ (append_assoc (v.facts.found ++ Cell k word ∷ []) (Word (client_place place) e.asked ∷ []) _
                ∙ append_assoc v.facts.found (Cell k word ∷ []) _)),
          );
          was = record { before = e.was.before; seen = (_, e.was.seen); was = e.was.was };
        },
      )

  -- the cell was found with its waiter
  pub out-waiter : (at : Doing) (has : Has → Has) (k : ℕ) (v u : View E S) (answer : Left)
      (b : Began object primitive (by_step place event) k v answer u) → Out at has k b.word v u
      → CellWasOnce primitive state.Waiter k v u
  out-waiter at has k v u answer b o = record {
    word = b.word;
    payload = 0;
    cell = b.cell;
    found = ([], o.found.0, o.found.1 ∙ append_assoc v.facts.found (Cell k b.word ∷ []) o.found.0);
    was = b.was;
  }

-- the cell was found served
module _ {C E S : Type 0} (object : Object E) (primitive : C → Primitive E S) (k payload : ℕ) (v w : View E S)
    (l : CameLate object primitive k payload v w) where
  pub late-cell : (cell : CellWas primitive state.Resumed k (object.entries (looks late) v.number k payload) w)
      × (cell.payload ≡ payload)
  late-cell = (
    record {
      word = l.word;
      payload = payload;
      cell = l.cell;
      found = (_, ap (λ (f : Facts). f.found) l.facts_are);
      was = l.was;
    },
    refl,
  )

  pub late-ready : IsReady v.facts → IsReady w.facts
  late-ready r = record {
    idle = ap (λ (f : Facts). f.doing) l.facts_are;
    further = ap (λ (f : Facts). f.has.further) l.facts_are ∙ r.further;
  }

  pub late-has : w.facts.has ≡ has_gained object.gains its_own payload v.facts.has
  late-has = ap (λ (f : Facts). f.has) l.facts_are

  pub late-waits : w.facts.waits ≡ without k v.facts.waits
  late-waits = ap (λ (f : Facts). f.waits) l.facts_are

  pub late-rests : IsReady v.facts → RestsHolding (object.gains.held v.facts.has.held) (without k v.facts.waits) w
  late-rests r = record {
    ready = late-ready r;
    held_is = ap (λ h. h.held) late-has;
    waits_are = late-waits;
  }
