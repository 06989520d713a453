-- What the words of a latch were is what the plain latch was.
use Rattle.std.proofs.Common.{◌≡◌, ℕ, List, ℤ, pos, negsuc, ◌≤ℤ◌, refl, sym, ap, ◌∙◌, subst}
use Rattle.std.proofs.lemmas.List.{append-nil}
use Rattle.cqs_latch_object.specs.declared.entries.LatchEntry.{LatchEntry}
use Rattle.cqs_latch_object.specs.LatchObject.{Latch, due}
use Rattle.cqs_latch_object.specs.LatchEntries.{object_after}
use Rattle.cqs_latch_object.specs.LatchShown.{LatchShape, left_of, shown_latch, as_read, IsLatchCore}
use Rattle.cqs_latch_object.proofs.LatchBounds.{every-count-is-high, core-counted, core-next}
use Rattle.cqs_latch.specs.declared.client.LatchClient.{LatchClient}
use Rattle.cqs_latch.specs.Latch.{is_simple, latch_shown, latch_object, latch_primitive}
use Rattle.cqs_latch.specs.LatchMade.{count_of, mode_of}
use Rattle.cqs_latch.specs.LatchTold.{OnWord, ReadsCount, ReadsWaiters, NextIs}
use Rattle.cqs_rule_laws.specs.declared.view.View.{View}
use Rattle.cqs_rule_laws.specs.declared.view.Opening.{Opening}
use Rattle.cqs_rule_laws.specs.Events.{Event, Moved, HasWord, in_any_case}
use Rattle.cqs_rule_laws.specs.Layout.{client_place}
use Rattle.cqs_rule_laws.specs.Loads.{CountLoaded, IsDrawn}
use Rattle.cqs_rule_laws.specs.Hidden.{Hidden}
use Rattle.cqs_rule_laws.specs.Object.{Primitive}
use Rattle.cqs_rule_laws.specs.Saw.{WasShown}
use Rattle.cqs_words.specs.State.{count_in}
use Rattle.cqs_words.specs.Waiters.{waiters_in, is_done}

-- the plain latch of an opening after a history
abbrev plain : Opening → List LatchEntry → Latch
plain o history = object_after (is_simple o.mode) o.size history

module _ {T : Type 0} where
  abbrev pub primitive_of : LatchClient T → Primitive LatchEntry T
  primitive_of x = latch_primitive (mode_of x) (count_of x)

  module _ (opening : Opening) (fact : Hidden → List ℕ → Type 0) (history : List LatchEntry)
      (was : WasShown primitive_of opening fact history) where
    -- the latch that was shown
    abbrev shape : LatchShape
    shape = latch_shown (mode_of was.client) (count_of was.client) was.hidden was.words history

    shown-is : plain opening history ≡ shown_latch (as_read shape)
    shown-is = sym (ap (λ (o : Opening). plain o history) was.opening_is) ∙ was.shown.core.object

  reads-count : (opening : Opening) (n : ℕ) (history : List LatchEntry)
      → WasShown primitive_of opening (HasWord 0 n) history → ReadsCount opening.size n (plain opening history)
  reads-count opening n history was =
      let s = shape opening (HasWord 0 n) history was in
      let core : IsLatchCore s = was.shown.core in
      let word : s.count ≡ count_in n = ap count_in was.holds in
      let size : count_of was.client ≡ opening.size = ap (λ (o : Opening). o.size) was.opening_is in
      record {
        left = sym (ap left_of word) ∙ sym (ap (λ (o : Latch). o.count) (shown-is opening (HasWord 0 n) history was));
        high = subst (λ z. negsuc 31 ≤ℤ z) word (every-count-is-high s core was.shown.few_passes);
        low = subst (λ (z : ℤ × ℕ). z.0 ≤ℤ pos z.1) (λ i. (word i, size i)) core.fit.high;
      }

  pub reads-waiters : (opening : Opening) (n : ℕ) (history : List LatchEntry)
      → WasShown primitive_of opening (HasWord 1 n) history → ReadsWaiters opening.size n (plain opening history)
  reads-waiters opening n history was =
      let s = shape opening (HasWord 1 n) history was in
      let done : s.done ≡ is_done n = ap is_done was.holds in
      let same = shown-is opening (HasWord 1 n) history was in
      record {
        open_is = sym done ∙ sym (ap (λ (o : Latch). o.opened) same);
        counted = λ shut. sym (ap waiters_in was.holds) ∙ core-counted s was.shown.core (done ∙ shut)
            ∙ sym (ap due same);
      }

  pub on_count : (event : Event LatchEntry) (v w : View LatchEntry T) (n : ℕ)
      → Moved latch_object primitive_of event in_any_case (client_place 0) v n w → OnWord 0 event ReadsCount v n w
  on_count event v w n moved =
      let found = moved.was 0 refl in
      record {
        saw = moved.saw;
        before = found.before;
        seen = found.seen;
        reads = reads-count w.opening n found.before found.was;
      }

  pub on_waiters : (event : Event LatchEntry) (v w : View LatchEntry T) (n : ℕ)
      → Moved latch_object primitive_of event in_any_case (client_place 1) v n w → OnWord 1 event ReadsWaiters v n w
  on_waiters event v w n moved =
      let found = moved.was 1 refl in
      record {
        saw = moved.saw;
        before = found.before;
        seen = found.seen;
        reads = reads-waiters w.opening n found.before found.was;
      }

  -- the next number
  pub next_is : (v w : View LatchEntry T) (n : ℕ) → CountLoaded latch_object primitive_of v n w → NextIs v n w
  next_is v w n loaded =
      let found = loaded.was in
      let was = found.was in
      record {
        saw = loaded.saw;
        next = ap (λ h. (plain w.opening h).waiters.next) (found.seen ∙ append-nil found.before)
            ∙ ap (λ (o : Latch). o.waiters.next) (shown-is w.opening (IsDrawn n) found.before was)
            ∙ core-next (shape w.opening (IsDrawn n) found.before was) ∙ was.holds;
      }
