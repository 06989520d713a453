-- The cancel of a pass that is alone: no resumption came to its wait before it began to leave, and none comes while it
-- leaves, since nobody else draws a number.
use Rattle.std.proofs.Common.{◌≡◌, ℕ, ◌+◌, ◌<◌, ◌≤◌, Bool, true, List, ◌++◌, None, Some, Option, sym, refl, ap, ◌∙◌, subst, arith}
use Rattle.std.proofs.lemmas.List.{append-nil}
use Rattle.cqs_core.specs.declared.cells.CoreState.TheVariants as state
use Rattle.cqs_core.specs.declared.doings.Doing.TheVariants as doing
use Rattle.cqs_core.specs.QueueSteps.{QueueStep, row_of, CellRow, starts_leaving, leaves_line, settles_owing}
use Rattle.cqs_rule_laws.specs.declared.client.ClientWords.{Ghosts}
use Rattle.cqs_rule.specs.declared.queue.Pass.{Pass}
use Rattle.cqs_rule_laws.specs.declared.view.Facts.{Facts}
use Rattle.cqs_rule_laws.specs.declared.view.Sighting.{Sighting}
use Rattle.cqs_rule_laws.specs.declared.view.View.{View}
use Rattle.cqs_rule.specs.Callbacks.{Asking, by_step, as_it_begins, by_itself, IsAsked, Answered, HasAnswered}
use Rattle.cqs_rule_laws.specs.Drawn.{draws_in, HasCome}
use Rattle.cqs_rule_laws.specs.Events.{Event}
use Rattle.cqs_rule_laws.specs.Layout.{client_place}
use Rattle.cqs_rule_laws.specs.Object.{Object, Primitive}
use Rattle.cqs_rule.specs.Passes.{pass_view}
use Rattle.cqs_rule_laws.proofs.Drawing.{draws-cell, draws-word, knows-still}
use Rattle.cqs_cell.specs.Transitions.{Made, MadeBy, HasMade, HasSettled}
use Rattle.cqs_cancel.specs.declared.cancelling.Left.{Left}
use Rattle.cqs_cancel.specs.declared.cancelling.Left.TheVariants.{GoneOwing}
use Rattle.cqs_cancel.specs.Alone.{OwesNone, IsAhead}
use Rattle.cqs_cancel.specs.Unasked.{left_of}
use Rattle.cqs_cancel.proofs.Steps.{no-more, answered-doing}

module _ {C E S : Type 0} (object : Object E) (primitive : C → Primitive E S) where
  -- a step at a cell draws nothing
  made-draws : (s : QueueStep) (row : CellRow) (k payload : ℕ) (v w : View E S)
      → Made object primitive s row 0 k payload v w → draws_in w.facts.found ≡ draws_in v.facts.found
  made-draws s row k payload v w m =
      let before : m.before.found ≡ v.facts.found =
      ap (λ (f : Facts). f.found) m.before_is
      ∙ (ap (λ (l : List Sighting). v.facts.found ++ l) (no-more m.found m.few) ∙ append-nil v.facts.found) in
      ap (λ (f : Facts). draws_in f.found) m.saw.facts_are
      ∙ (draws-cell m.before.found k m.word ∙ ap draws_in before)

  -- an idle pass found the waiter in its cell
  ahead-begun : (s : QueueStep) (row : CellRow) (k payload : ℕ) (v w : View E S)
      → Made object primitive s row 0 k payload v w
      → row.finds ≡ state.Waiter → v.facts.doing ≡ doing.Idle → IsAhead k w
  ahead-begun s row k payload v w m finds idle = λ alone.
      let t = m.come (sym m.saw.same.alone ∙ alone) (λ at. let both = sym idle ∙ at in absurd (cc)) in (
        t.0,
        knows-still w v t.0 (sym m.saw.same.drawn) (sym (made-draws s row k payload v w m)) t.1,
        subst (HasCome t.0 k) finds t.2,
      )

  -- the step by which the client is asked draws nothing
  answered-draws : (word : ℕ) (event : Event E) (k : ℕ) (answer : Bool) (v u : View E S)
      → Answered object primitive word event k answer v u → draws_in u.facts.found ≡ draws_in v.facts.found
  answered-draws word event k answer v u a =
      ap (λ (f : Facts). draws_in f.found) a.moved.saw.facts_are
      ∙ draws-word v.facts.found (client_place word) a.found (λ e. omega arith)

  -- no value is found in a cell to which no resumption has come, where nothing was drawn since
  never-owed : (k payload : ℕ) (v u w : View E S) → IsAhead k v → u.alone ≡ v.alone → u.drawn ≡ v.drawn
      → draws_in u.facts.found ≡ draws_in v.facts.found → u.facts.doing ≡ doing.Decided k true
      → MadeBy object primitive settles_owing (row_of settles_owing) 1 k payload u w → v.alone ≡ true → ⊥
  never-owed k payload v u w ahead lonely drawn draws decided m alone =
      let was = ahead alone in
      let now = m.come (lonely ∙ alone) (λ at. let both = sym decided ∙ at in absurd (cc)) in
      let knew : was.0 + v.drawn.own ≡ v.drawn.all + draws_in v.facts.found = was.1 in
      let knows : now.0 + v.drawn.own ≡ v.drawn.all + draws_in v.facts.found =
      knows-still v u now.0 drawn draws now.1 in
      let before : was.0 ≤ k = was.2 in
      let come : k < now.0 = now.2 in
      omega arith

module _ {C S E : Type 0} {g : Ghosts C S E} where
  -- the wait is ahead, once its owner began to leave
  pub began-ahead : (k : ℕ) (p q : Pass C S E g) → HasMade starts_leaving k 0 p q
      → (pass_view p).facts.doing ≡ doing.Idle → IsAhead k (pass_view q)
  began-ahead k p q m idle =
      ahead-begun g.object g.primitive starts_leaving _ k 0 (pass_view p) (pass_view q) m refl idle

  -- a client that was asked, and a cell that was settled by its answer
  pub asked-none : (asking : Asking E) (k payload : ℕ) (p q r : Pass C S E g) → IsAsked asking
      → IsAhead k (pass_view p)
      → HasAnswered asking k true p q → HasSettled true k (Some payload) q r → (pass_view p).alone ≡ true
      → OwesNone (GoneOwing payload)
  asked-none (by_step word event) k payload p q r is ahead a m alone =
      never-owed g.object g.primitive k payload (pass_view p) (pass_view q) (pass_view r) ahead a.moved.saw.same.alone
      a.moved.saw.same.drawn (answered-draws g.object g.primitive word event k true (pass_view p) (pass_view q) a)
      (answered-doing g.object g.primitive (by_step word event) k true (pass_view p) (pass_view q) is a) m alone
  asked-none as_it_begins k payload p q r is ahead a m alone = absurd is
  asked-none by_itself k payload p q r is ahead a m alone = absurd is

  -- a client that isn't asked
  pub unasked-none : (k : ℕ) (found : Option ℕ) (left : Left) (p q r : Pass C S E g) → HasMade leaves_line k 0 p q
      → (pass_view p).facts.doing ≡ doing.Idle → HasSettled true k found q r → left ≡ left_of found
      → (pass_view p).alone ≡ true → OwesNone left
  unasked-none k None left p q r l idle m is alone = subst OwesNone (sym is) tt
  unasked-none k (Some payload) left p q r l idle m is alone =
      let v = pass_view q in
      absurd (never-owed g.object g.primitive k payload v v (pass_view r)
      (ahead-begun g.object g.primitive leaves_line _ k 0 (pass_view p) v l refl idle) refl refl refl
      (ap (λ (f : Facts). f.doing) l.saw.facts_are) m (l.saw.same.alone ∙ alone))
