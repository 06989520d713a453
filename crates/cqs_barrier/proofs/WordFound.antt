-- What the word of a barrier was is what the plain barrier was.
use Rattle.std.proofs.Common.{◌≡◌, ℕ, Bool, List, refl, sym, ap, ◌∙◌}
use Rattle.cqs_barrier_object.specs.declared.entries.BarrierEntry.{BarrierEntry}
use Rattle.cqs_barrier_object.specs.BarrierEntries.{object_after}
use Rattle.cqs_barrier_object.specs.BarrierObject.{Barrier}
use Rattle.cqs_rule_laws.specs.declared.view.View.{View}
use Rattle.cqs_rule_laws.specs.declared.view.Opening.{Opening}
use Rattle.cqs_rule_laws.specs.Events.{Event, Moved, HasWord}
use Rattle.cqs_rule_laws.specs.Layout.{client_place}
use Rattle.cqs_rule_laws.specs.Object.{Primitive}
use Rattle.cqs_rule_laws.specs.Saw.{WasShown}
use Rattle.cqs_barrier.specs.declared.client.BarrierClient.{BarrierClient}
use Rattle.cqs_barrier.specs.Barrier.{barrier_object, barrier_primitive}
use Rattle.cqs_barrier.specs.BarrierWord.{OnWord}
use Rattle.cqs_barrier.specs.Parties.{parties_of}
use Rattle.cqs_barrier.specs.Word.{parties_in, remaining_in}

module _ {T : Type 0} where
  abbrev primitive_of : BarrierClient T → Primitive BarrierEntry T
  primitive_of x = barrier_primitive (parties_of x)

  remaining-at : (opening : Opening) (n : ℕ) (history : List BarrierEntry)
      → WasShown primitive_of opening (HasWord 0 n) history
      → remaining_in n ≡ (object_after opening.size history).remaining
  remaining-at opening n history was =
      ap remaining_in (sym was.holds)
      ∙ (ap (λ (o : Barrier). o.remaining) (sym was.shown.barrier.object)
      ∙ ap (λ (o : Opening). (object_after o.size history).remaining) was.opening_is)

  parties-at : (opening : Opening) (n : ℕ) (history : List BarrierEntry)
      → WasShown primitive_of opening (HasWord 0 n) history → parties_in n ≡ opening.size
  parties-at opening n history was =
      ap parties_in (sym was.holds) ∙ (was.shown.word ∙ ap (λ (o : Opening). o.size) was.opening_is)

  -- the word
  pub on_word : (event : Event BarrierEntry) (made : ℕ → Bool) (v w : View BarrierEntry T) (n : ℕ)
      → Moved barrier_object primitive_of event made (client_place 0) v n w → OnWord event made v n w
  on_word event made v w n moved =
      let found = moved.was 0 refl in
      record {
        saw = moved.saw;
        before = found.before;
        seen = found.seen;
        remaining = remaining-at w.opening n found.before found.was;
        parties = parties-at w.opening n found.before found.was;
      }
