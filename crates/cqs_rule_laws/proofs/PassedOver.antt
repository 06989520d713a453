-- A load of a cell of a later segment, by the resume of a number whose segment was taken out: the number is passed
-- over.
use Rattle.std.proofs.Common.{◌≡◌, ◌≢◌, ℕ, ◌+◌, ◌*◌, ◌/◌, ◌%◌, ◌<◌, false, List, ◌++◌, inr, ⊎_elim, sym, refl, ap, ◌∙◌, subst, arith, Option, Some, None}
use Rattle.std.specs.Prelude.{slice_index}
use mathlib.Core.Option.{none}
use Rattle.atomic_table.specs.Table.{State, Me, keeps, step, Allows}
use Rattle.cqs_core.specs.declared.cells.CoreState.TheVariants as state
use Rattle.cqs_core.specs.declared.doings.Doing.TheVariants as doing
use Rattle.cqs_core.specs.QueueEither.{IsSoundEither}
use Rattle.cqs_core.specs.QueueStages as stage
use Rattle.cqs_core.specs.QueueSteps.{CellRow, passes_over, wait_stays, nothing, IsOpenRow, at_cell}
use Rattle.cqs_core.proofs.QueueRows.{row-of}
use Rattle.cqs_slots.specs.Slots.{IsHome}
use Rattle.cqs_words.specs.Cell.{index_in}
use Rattle.cqs_slots.proofs.Lists.{has_prefix}
use Rattle.cqs_rule_laws.specs.declared.view.Facts.{Facts}
use Rattle.cqs_rule_laws.specs.declared.view.View.{View}
use Rattle.cqs_rule_laws.specs.Causes.{cell_of}
use Rattle.cqs_rule_laws.specs.Client.{IsClient}
use Rattle.cqs_rule_laws.specs.Exchanges.{HasCell, SinceLast}
use Rattle.cqs_rule_laws.specs.Facts.{facts_worked, is_owing}
use Rattle.cqs_rule_laws.specs.Hidden.{Hidden, state_in, state_at}
use Rattle.cqs_rule_laws.specs.Layout.{client_place, client_words, IsIdle}
use Rattle.cqs_rule_laws.specs.Manner.{IsSmart}
use Rattle.cqs_rule_laws.specs.Object.{Object, Primitive}
use Rattle.cqs_rule_laws.specs.PassedOver.{IsGone, passed_over, PassedOver}
use Rattle.cqs_rule_laws.specs.Placed.{KnowsPlace, place_at}
use Rattle.cqs_rule_laws.specs.Ruled.{Ruled, IsFinal, Knows, Stands, cell_count, number_at, word_at}
use Rattle.cqs_rule_laws.specs.Views.{grown}
use Rattle.cqs_rule_laws.proofs.CellLoads.{cells-loaded, watched}
use Rattle.cqs_rule_laws.proofs.CellSteps.{WorksAt, works-at, works, since-last}
use Rattle.cqs_rule_laws.proofs.CellsStand.{place-behind, word-number}
use Rattle.cqs_rule_laws.proofs.Outs.{out-final}
use Rattle.cqs_rule_laws.proofs.Places.{cell-in-home}
use Rattle.cqs_rule_laws.proofs.Tells.{Steps}
use Rattle.cqs_rule_laws.proofs.WordStays.{found-so}

-- the row of the event
abbrev row : CellRow
row = record {
  works_at = stage.ticket;
  goes_to = stage.owes;
  finds = state.Cancelled;
  makes = None;
  brings = false;
  wait = wait_stays;
  gain = nothing;
  collects = false;
  settles = false;
}

module _ {E S : Type 0} (object : Object E) (primitive : Primitive E S) (passes limit : ℕ) where
  abbrev R : State (Option S) (View E S) → Type 0
  R = Ruled object primitive passes limit

  -- A load of such a cell, by a pass that has the ticket of the number k: it is passed over.
  pub passes-over : IsClient object primitive → {C : Type 0} (all : C → Primitive E S) (y : C) → all y ≡ primitive
      → (many id : ℕ) (me : Me (Option S) (View E S)) (k word : ℕ) → me.0.weight ≡ 1
      → me.0.facts.doing ≡ doing.Ticket k → IsGone me.0 (place_at word k)
      → Allows R many id me word (λ n. n) (passed_over object all (step many word 0 0 none) me)
  passes-over client all y all_is many id me k word one does gone s r homes here small = (
    w,
    keeps,
    tt,
    done.0,
    (
      λ j _ too. subst (λ z. PassedOver object all z v n w) (ap number_at (sym does ∙ too)) over,
      refl,
      done.2,
      record {
        held = refl;
        owes = ap is_owing (sym does);
        waits = omega arith;
        further = refl;
        spares = refl;
        open_slot = refl;
        ticket = λ j e. absurd (cc);
      },
      done.1.same,
    ),
  )
    where
      v : View E S
      v = me.0

      f : Facts
      f = me.0.facts

      c : Hidden
      c = r.hidden

      n : ℕ
      n = slice_index s.words word

      known : Knows object r.hidden r.log r.handed r.made r.live passes limit
          (cell_count passes limit primitive.values) primitive.opening me.0
      known = r.each_view id me.0 here (omega arith)

      at : Stands r.hidden me.0.number me.0.facts
      at = known.stands

      final : IsFinal (IsSmart primitive.manner.leaving) r.hidden.queue k
      final = out-final object primitive passes limit s r k
          (has_prefix (k / 32) me.0.segments.outs r.segments.outs (r.each_segment id me.0 here).seen.outs gone.out)

      met : (state_at r.hidden.queue k ≡ state.Cancelled) × IsSmart primitive.manner.leaving
      met = final.met me.0.number (at.doing ∙ ap Some does)

      sound : IsSoundEither primitive.manner.watches r.hidden.queue
      sound = client.sound r.hidden (client_words s.words) r.log r.handed r.shown

      stood : WorksAt primitive.manner.watches r.hidden (cell_count passes limit primitive.values) me.0.number k
          stage.ticket
      stood = works-at r.hidden passes limit primitive.values me.0.number k stage.ticket me.0.facts r.room sound at does
          tt tt

      opens : IsOpenRow r.hidden.queue (at_cell row) me.0.number k (Some stood.cell)
      opens = (
        record {
          does = at.doing ∙ ap Some does;
          finds = stood.there;
          at = ap state_in (sym stood.there) ∙ met.0;
        },
        tt,
      )

      es : List E
      es = object.entries passes_over me.0.number k me.0.facts.has.payload

      f1 : Facts
      f1 = facts_worked object.gains row k (slice_index s.words word) me.0.facts.has.payload me.0.facts

      w : View E S
      w = grown me.0 f1 (r.log ++ es) r.handed

      -- the number of the later segment whose cell stands there
      j : ℕ
      j = 32 * gone.later + k % 32

      place : KnowsPlace me.0 (place_at word j)
      place = subst (λ z. KnowsPlace me.0 (place_at z j)) (let is = gone.word in omega arith)
          (cell-in-home me.0 gone.slot j
          (subst (λ z. IsHome me.0.segments.homes z gone.slot) (omega arith) gone.home) gone.low)

      behind : (client_place 3 < word) × ((i : ℕ) → IsIdle i → i ≢ word)
      behind = place-behind me.0 j word place

      done : Steps object primitive passes limit client s id me word n es f1 w
      done = works object primitive passes limit client s r id me passes_over row k word n f.has.payload
          stood.cell refl here one met.1 opens behind.0 behind.1
          (λ e. absurd (cc)) refl
          (cells-loaded object primitive passes limit client s r me.0.number k word f.has.payload row stood.cell
          f.has (row-of passes_over row refl) sound opens refl)

      later : k < index_in (slice_index s.words word)
      later = ⊎_elim
          (λ (is : slice_index s.words word ≡ word_at r.hidden j).
          let same : index_in (slice_index s.words word) ≡ j =
          ap index_in is ∙ word-number j (state_at r.hidden.queue j) (r.hidden.payloads j) (r.cells.fits j) in
          let after = gone.after in omega arith)
          (λ more. let after = gone.after in let beyond = more.1 in omega arith)
          (watched object primitive passes limit client s r id me.0 j word here place)

      over : PassedOver object all k me.0 (slice_index s.words word) w
      over = record {
        payload = c.payloads k;
        cell = record {
          word = inr (refl, later);
          number = let b = stood.below in let l = r.room.low_limit in let q = r.room.few_passes in let u =
              r.room.few_values in omega arith;
          fits = r.cells.fits k;
          bare = λ b. absurd b;
        };
        since = subst (λ z. SinceLast (cell_of k z (c.payloads k)) f.last) met.0 (since-last c k f.last at.last);
        saw = done.1;
        was = found-so object primitive passes limit client all y all_is s r w
            (HasCell (cell_of k state.Cancelled (c.payloads k))) es known.opening_is refl (met.0, refl);
      }
