-- What the words of a semaphore were is what the plain semaphore was.
use Rattle.std.proofs.Common.{◌≡◌, ℕ, ◌<◌, ◌^◌, Bool, List, ℤ, pos, negsuc, ◌≤ℤ◌, refl, sym, ap, ◌∙◌, subst, arith}
use Rattle.std.proofs.lemmas.Int.{ints}
use Rattle.std.proofs.lemmas.List.{append-nil}
use Rattle.std.specs.Prelude.{unsigned_abs}
use Rattle.cqs_core.specs.declared.entries.Entry.{Entry}
use Rattle.cqs_core.specs.SemaphoreEntries.{object_after}
use Rattle.cqs_core.specs.SemaphoreShown.{state_of}
use Rattle.cqs_core.specs.SemaphoreTable.{lowest}
use Rattle.cqs_core.proofs.EitherFacts.{shows-object, core-fits}
use Rattle.cqs_rule_laws.specs.declared.view.View.{View}
use Rattle.cqs_rule_laws.specs.declared.view.Opening.{Opening}
use Rattle.cqs_rule_laws.specs.Events.{Event, Moved, HasWord}
use Rattle.cqs_rule_laws.specs.Layout.{client_place}
use Rattle.cqs_rule_laws.specs.Loads.{CountLoaded}
use Rattle.cqs_rule_laws.specs.Saw.{WasShown}
use Rattle.cqs_semaphore_client.specs.Semaphore.{core_shown, semaphore_object}
use Rattle.cqs_semaphore_client.specs.SemaphoreMade.{permits_of, sync_of, primitive_of}
use Rattle.cqs_semaphore_client.specs.SemaphoreSteps.{OnState, NextIs}
use Rattle.cqs_words.specs.State.{count_in, StateFits}

-- a count between the lowest and the most permits fits its word
state-fits : (z : ℤ) → lowest ≤ℤ z → z ≤ℤ pos 1048576 → unsigned_abs z < 2 ^ 32
state-fits (pos n) low few = omega (arith, ints)
state-fits (negsuc n) low few = omega (arith, ints)

module _ {T : Type 0} where
  state-at : (opening : Opening) (n : ℕ) (history : List Entry)
      → WasShown (primitive_of {T = T}) opening (HasWord 0 n) history
      → count_in n ≡ state_of (object_after opening.size history)
  state-at opening n history was =
      let s = core_shown (sync_of was.client) (permits_of was.client) was.hidden was.words history in
      let shows = shows-object s was.shown.core in
      ap count_in (sym was.holds)
      ∙ (shows.state ∙ ap (λ (o : Opening). state_of (object_after o.size history)) was.opening_is)

  -- the word stands for a count
  fits-at : (opening : Opening) (n : ℕ) (history : List Entry)
      → WasShown (primitive_of {T = T}) opening (HasWord 0 n) history → StateFits (record { value = count_in n })
  fits-at opening n history was =
      let s = core_shown (sync_of was.client) (permits_of was.client) was.hidden was.words history in
      subst (λ m. StateFits (record { value = count_in m })) was.holds
      (record { value = state-fits s.state was.shown.core.range.state (core-fits s was.shown.core).high })

  -- the state
  pub on_state : (event : Event Entry) (made : ℕ → Bool) (v w : View Entry T) (n : ℕ)
      → Moved semaphore_object (primitive_of {T = T}) event made (client_place 0) v n w → OnState event made v n w
  on_state event made v w n moved =
      let found = moved.was 0 refl in
      record {
        saw = moved.saw;
        before = found.before;
        seen = found.seen;
        state = state-at w.opening n found.before found.was;
        fits = fits-at w.opening n found.before found.was;
      }

  -- the next number
  pub next_is : (v w : View Entry T) (n : ℕ) → CountLoaded semaphore_object (primitive_of {T = T}) v n w → NextIs v n w
  next_is v w n loaded =
      let found = loaded.was in
      let was = found.was in
      let s = core_shown (sync_of was.client) (permits_of was.client) was.hidden was.words found.before in
      let shows = shows-object s was.shown.core in
      record {
        saw = loaded.saw;
        next = ap (λ h. (object_after w.opening.size h).next) (found.seen ∙ append-nil found.before)
            ∙ (ap (λ (o : Opening). (object_after o.size found.before).next) (sym was.opening_is)
            ∙ (shows.next ∙ was.holds));
      }
