-- What a step is allowed by and what it tells, by the pass before and after it.
use Rattle.std.specs.Prelude.{◌≡◌, ℕ, Bool, Some}
use Rattle.cqs_core.specs.QueueSteps.{QueueStep, puts, row_of}
use Rattle.cqs_rule_laws.specs.declared.client.ClientWords.{Ghosts}
use Rattle.cqs_rule.specs.declared.queue.Pass.{Pass}
use Rattle.cqs_rule.specs.declared.queue.Queue.{Queue}
use Rattle.cqs_rule_laws.specs.Counts.{DrewBy, Drew}
use Rattle.cqs_rule_laws.specs.Events.{Event, Moves, SlotsStay, Moved}
use Rattle.cqs_rule_laws.specs.Exchanges.{CrossedBy}
use Rattle.cqs_rule_laws.specs.Layout.{client_place}
use Rattle.cqs_rule_laws.specs.Slots.{laid_in}
use Rattle.cqs_rule_laws.specs.SlotSteps.{GivesAway, HandedBy}
use Rattle.cqs_rule_laws.specs.Loads.{LoadStep}
use Rattle.cqs_rule.specs.Counting.{LoadedThen, ThenCounted}
use Rattle.cqs_rule.specs.Passes.{pass_view, client_of, slots_of}
use Rattle.cqs_words.specs.Cell.{index_in}

module _ {C S E : Type 0} {g : Ghosts C S E} where
  -- a step on the client's word i, by which n becomes f n, may be made by the pass as it is now
  abbrev pub MayMove : Queue C S E → Pass C S E g → Event E → (ℕ → Bool) → ℕ → (ℕ → ℕ) → Type 0
  MayMove q p event made i f =
      Moves g.object (g.primitive (client_of q)) event made (pass_view p).number (pass_view p).facts
      i f

  -- and leaves the pass the slots that it has laid something into, and gives none away
  abbrev pub MayKeep : Queue C S E → Pass C S E g → Event E → (ℕ → Bool) → Type 0
  MayKeep q p event made =
      SlotsStay g.object (g.primitive (client_of q)) (slots_of q) event made (pass_view p)

  -- the pass may open this slot
  abbrev pub IsOpener : Queue C S E → Pass C S E g → ℕ → Type 0
  IsOpener q p slot = (g.primitive (client_of q)).opens (pass_view p).facts.has slot

  -- by the event it gives this slot away, in which a value lies, and no other
  abbrev pub MayGive : Queue C S E → Pass C S E g → Event E → (ℕ → Bool) → ℕ → Type 0
  MayGive q p event made slot =
      GivesAway g.object (g.primitive (client_of q)) (slots_of q) event made slot (pass_view p)

  -- the value that lay there was handed in
  abbrev pub HasGiven : ℕ → Pass C S E g → Pass C S E g → Type 0
  HasGiven slot p p' = (y : S) → laid_in (pass_view p).laid slot ≡ Some (Some y)
      → HandedBy g.object slot y (pass_view p) (pass_view p')

  -- Such a step was made, and found n: the word was so at the end of what the pass has seen before
  -- its own entries.
  abbrev pub HasMoved : Event E → (ℕ → Bool) → ℕ → ℕ → Pass C S E g → Pass C S E g → Type 0
  HasMoved event made i n p p' =
      Moved g.object g.primitive event made (client_place i) (pass_view p) n (pass_view p')

  -- a load of this word found n, and the cell that it settled, if it settled one, was counted
  abbrev pub HasLoaded : LoadStep → ℕ → ℕ → Pass C S E g → Pass C S E g → Type 0
  HasLoaded load word n p p' =
      LoadedThen g.object g.primitive load word (pass_view p) n (pass_view p')

  -- the number n was drawn from a counter
  abbrev pub HasDrawn : QueueStep → ℕ → Pass C S E g → Pass C S E g → Type 0
  HasDrawn s n p p' = Drew g.object s (pass_view p) n (pass_view p')

  -- it was drawn to resume at, and paid for with this element
  abbrev pub HasPut : ℕ → ℕ → Pass C S E g → Pass C S E g → Type 0
  HasPut element n p p' =
      DrewBy g.object puts (row_of puts) element (pass_view p) n (pass_view p')

  -- an exchange on a cell, where `expected` was wanted, found n, and the cell was counted if it
  -- settled it
  abbrev pub HasCrossed : QueueStep → ℕ → ℕ → Pass C S E g → Pass C S E g → Type 0
  HasCrossed s expected n p p' = ThenCounted
      (CrossedBy g.object g.primitive s (row_of s) (index_in expected) expected (pass_view p) n)
      (pass_view p')
