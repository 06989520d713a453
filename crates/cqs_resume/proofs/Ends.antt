-- What a resumption leaves of its pass where it shows no entry but that of its last step: it ended at a cell, or was
-- handed back.
use Rattle.std.proofs.Common.{◌≡◌, ℕ, ◌+◌, ◌≤◌, Bool, true, false, List, [], ◌∷◌, ◌++◌, length, Option, Some, sym, ap, ◌∙◌, subst, append_assoc, arith}
use Rattle.std.proofs.lemmas.List.{append-nil}
use Rattle.cqs_core.specs.declared.cells.CoreState.{CoreState}
use Rattle.cqs_core.specs.declared.doings.Doing.{Doing}
use Rattle.cqs_core.specs.declared.doings.Doing.TheVariants as doing
use Rattle.cqs_core.specs.QueueSteps.{QueueStep}
use Rattle.cqs_rule.specs.declared.queue.tokens.Under.{Under}
use Rattle.cqs_rule.specs.Claims.{WantsSlot}
use Rattle.cqs_rule.specs.Owed.{under_reached}
use Rattle.cqs_rule_laws.specs.declared.view.Facts.{Facts}
use Rattle.cqs_rule_laws.specs.declared.view.Sighting.{Sighting}
use Rattle.cqs_rule_laws.specs.declared.view.Sighting.TheVariants.{Cell}
use Rattle.cqs_rule_laws.specs.declared.view.View.{View}
use Rattle.cqs_rule_laws.specs.Called.{Called}
use Rattle.cqs_rule_laws.specs.Causes.{cell_of, CellWas, CellWasOnce}
use Rattle.cqs_rule_laws.specs.Client.{IsQuiet}
use Rattle.cqs_rule_laws.specs.Exchanges.{FoundCell, HasCell}
use Rattle.cqs_rule_laws.specs.Object.{Object, Primitive}
use Rattle.cqs_rule_laws.specs.Saw.{WasFound}
use Rattle.cqs_rule_laws.proofs.Causes.{Onward}
use Rattle.cqs_rule_laws.proofs.Prefixes.{called-prefix}
use Rattle.cqs_resume.specs.declared.resumed.Resumed.{Resumed}
use Rattle.cqs_resume.specs.Leaps.{leap_seen}
use Rattle.cqs_resume.specs.Resumes.{CameTo, Ended, Held, Stopped}
use Rattle.cqs_resume.specs.Rounds.{Round, IsOpenedWith, draw_entries, round_entries, over_entries, draw_seen, round_seen, all_seen, drawn_in, one_if, numbers}

-- what the last round found is last of all that was found
pub seen-last : (over : List Round) (last : Round)
    → (earlier : List Sighting) × (all_seen (over ++ last ∷ []) ≡ earlier ++ Cell last.number last.word ∷ [])
seen-last [] last =
    let drew = draw_seen last.drawn last.number in
    let end : List Sighting = Cell last.number last.word ∷ [] in (
      leap_seen last.leap ++ (drew ++ last.tried),
      append-nil _ ∙ (ap (λ l. leap_seen last.leap ++ l) (sym (append_assoc drew last.tried end))
          ∙ sym (append_assoc (leap_seen last.leap) (drew ++ last.tried) end)),
    )
seen-last (r ∷ over) last =
    let later = seen-last over last in (
      round_seen r ++ later.0,
      ap (λ l. round_seen r ++ l) later.1 ∙ sym (append_assoc (round_seen r) later.0 _),
    )

-- each number that was drawn is one of those that were passed over, and so is one whose ticket was open
one-few : (b : Bool) → one_if b ≤ 1
one-few true = omega arith
one-few false = omega arith

pub drawn-few : (over : List Round) → drawn_in over ≤ length (numbers over)
drawn-few [] = omega arith
drawn-few (r ∷ over) = let first = one-few r.drawn in let later = drawn-few over in omega arith

pub opened-few : (k : ℕ) (over : List Round) → IsOpenedWith (Some k) over → drawn_in over + 1 ≤ length (numbers over)
opened-few k [] opens = absurd opens
opened-few k (r ∷ over) opens =
    let none : one_if r.drawn ≡ 0 = ap one_if opens.1 in let later = drawn-few over in omega arith

module _ {E : Type 0} (object : Object E) (quiet : IsQuiet object) where
  pub draw-none : (p payload : ℕ) (drawn : Bool) (k : ℕ) → draw_entries object p payload drawn k ≡ []
  draw-none p payload true k = quiet.drawing p k payload
  draw-none p payload false k = λ i. []

  pub over-none : (p payload : ℕ) (over : List Round) → over_entries object p payload over ≡ []
  over-none p payload [] = λ i. []
  over-none p payload (r ∷ over) =
      λ i. (draw-none p payload r.drawn r.number i ++ quiet.passing p r.number payload i) ++ over-none p payload over i

  entries-last : (p payload k : ℕ) (s : QueueStep) (over : List Round) (last : Round) → last.number ≡ k
      → over_entries object p payload over ++ round_entries object p payload s last ≡ object.entries s p k payload
  entries-last p payload k s over last is =
      λ i. over-none p payload over i
      ++ (draw-none p payload last.drawn last.number i ++ object.entries s p (is i) payload)

module _ {C E S : Type 0} (object : Object E) (primitive : C → Primitive E S) (quiet : IsQuiet object) where
  -- It came to the number k and made a step at its cell, which was found in this state before these entries. The pass
  -- is at this then, and has passed over these numbers.
  pub record CameAt (does : Doing) (at : CoreState) (k : ℕ) (own : List E) (over : List ℕ) (u w : View E S) : Type 0
    where
      pub called : Called object u own own w
      pub onward : Onward u w
      pub cell : CellWas primitive at k own w
      pub once : CellWasOnce primitive at k u w
      pub at_end : w.facts.found ≡ u.facts.found ++ (once.found.0 ++ Cell k once.word ∷ [])
      pub doing_is : w.facts.doing ≡ does
      pub has : w.facts.has ≡ u.facts.has
      pub waits : w.facts.waits ≡ u.facts.waits
      pub passed : w.facts.passed ≡ u.facts.passed ++ over

  pub came-at : (does : Doing) (s : QueueStep) (at : CoreState) (most : ℕ) (ticket : Option ℕ) (payload k : ℕ)
      (u w : View E S) → (e : CameTo object primitive does s at most ticket payload k u w)
      → CameAt does at k (object.entries s u.number k payload) (numbers e.over) u w
  came-at does s at most ticket payload k u w e =
      let last = e.last in
      let p = u.number in
      let own = object.entries s p k payload in
      let found : w.facts.found ≡ u.facts.found ++ all_seen (e.over ++ last ∷ []) =
      ap (λ (f : Facts). f.found) e.facts_are in
      let at_end = seen-last e.over last in
      let called = subst (λ es. Called object u es own w) (entries-last object quiet p payload k s e.over last e.number)
      e.called in
      let cell = subst (λ j. FoundCell last.word (cell_of j at last.payload)) e.number e.found.cell in
      let was = subst (λ j. WasFound primitive (HasCell (cell_of j at last.payload)) own w) e.number e.was in
      let seen_at_end = found ∙ (ap (λ l. u.facts.found ++ l) at_end.1
      ∙ ap (λ j. u.facts.found ++ (at_end.0 ++ Cell j last.word ∷ [])) e.number) in
      record {
        called = called;
        onward = record {
          seen = called-prefix object u w _ _ called;
          found = (_, found);
          opening = e.called.same.opening;
        };
        cell = record {
          word = last.word;
          payload = last.payload;
          cell = cell;
          found = (
            u.facts.found ++ at_end.0,
            seen_at_end ∙ sym (append_assoc u.facts.found at_end.0 (Cell k last.word ∷ [])),
          );
          was = was;
        };
        once = record {
          word = last.word;
          payload = last.payload;
          cell = cell;
          found = (at_end.0, [], seen_at_end);
          was = record { before = was.before; seen = (own, was.seen); was = was.was };
        };
        at_end = seen_at_end;
        doing_is = ap (λ (f : Facts). f.doing) e.facts_are;
        has = ap (λ (f : Facts). f.has) e.facts_are;
        waits = ap (λ (f : Facts). f.waits) e.facts_are;
        passed = ap (λ (f : Facts). f.passed) e.facts_are;
      }

  -- It ended at the cell of the number k, which was found in this state before these entries, and passed over these
  -- numbers.
  pub record EndedAt (at : CoreState) (k : ℕ) (own : List E) (over : List ℕ) (u w : View E S) : Type 0 where
    pub called : Called object u own own w
    pub onward : Onward u w
    pub cell : CellWas primitive at k own w
    pub idle : w.facts.doing ≡ doing.Idle
    pub has : w.facts.has ≡ u.facts.has
    pub waits : w.facts.waits ≡ u.facts.waits
    pub passed : w.facts.passed ≡ u.facts.passed ++ over

  pub ended-at : (s : QueueStep) (at : CoreState) (most : ℕ) (ticket : Option ℕ) (payload k : ℕ) (u w : View E S)
      → (e : Ended object primitive s at most ticket payload k u w)
      → EndedAt at k (object.entries s u.number k payload) (numbers e.over) u w
  ended-at s at most ticket payload k u w e =
      let c = came-at doing.Idle s at most ticket payload k u w e in
      record {
        called = c.called;
        onward = c.onward;
        cell = c.cell;
        idle = c.doing_is;
        has = c.has;
        waits = c.waits;
        passed = c.passed;
      }

  -- it was handed back, and passed over these numbers
  pub record HandedBack (over : List ℕ) (u w : View E S) : Type 0 where
    pub called : Called object u [] [] w
    pub onward : Onward u w
    pub has : w.facts.has ≡ u.facts.has
    pub waits : w.facts.waits ≡ u.facts.waits
    pub passed : w.facts.passed ≡ u.facts.passed ++ over

  pub handed-back : (most : ℕ) (ticket : Option ℕ) (payload : ℕ) (under : Under) (u w : View E S)
      → (e : Stopped object primitive most ticket payload under u w) → HandedBack (numbers e.over) u w
  handed-back most ticket payload under u w e = record {
    called = subst (λ (z : List E × List E). Called object u z.0 z.1 w)
        (λ i. (
          over-none object quiet u.number payload e.over i,
          quiet.passing u.number (under_reached under) payload i,
        )) e.called;
    onward = record {
      seen = called-prefix object u w _ _ e.called;
      found = (_, ap (λ (f : Facts). f.found) e.facts_are);
      opening = e.called.same.opening;
    };
    has = ap (λ (f : Facts). f.has) e.facts_are;
    waits = ap (λ (f : Facts). f.waits) e.facts_are;
    passed = ap (λ (f : Facts). f.passed) e.facts_are;
  }

  -- It was handed back for want of a slot.
  pub record HeldOn (under : Under) (u w : View E S) : Type 0 where
    pub called : Called object u [] [] w
    pub onward : Onward u w
    pub has : w.facts.has ≡ u.facts.has
    pub waits : w.facts.waits ≡ u.facts.waits
    pub wants : WantsSlot under u w

  pub held-on : (most payload : ℕ) (result : Resumed) (u w : View E S)
      → (h : Held object primitive most payload u result w) → HeldOn h.under u w
  held-on most payload result u w h = record {
    called = subst (λ (l : List E). Called object u l [] w)
        (λ i. over-none object quiet u.number payload h.over i
        ++ draw-none object quiet u.number payload h.drawn h.number i) h.called;
    onward = record {
      seen = called-prefix object u w _ _ h.called;
      found = (_, h.found);
      opening = h.called.same.opening;
    };
    has = h.keeps;
    waits = h.waits_are;
    wants = record {
      number = h.number;
      ticket = h.ticket_is;
      far = h.far;
      spareless = h.spareless;
      before = h.before;
      heads = h.heads;
      heads_are = h.heads_are;
      taken = h.taken;
      scarce = h.scarce;
    };
  }
