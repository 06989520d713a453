-- What a split and a meet leave, by the passes before and after.
use Rattle.std.specs.Prelude.{◌≡◌, ◌⊎◌, ℕ, ◌<◌, true, [], length}
use Rattle.cqs_rule_laws.specs.declared.client.ClientWords.{Ghosts}
use Rattle.cqs_rule.specs.declared.queue.Pass.{Pass}
use Rattle.cqs_rule_laws.specs.declared.view.Facts.{Facts}
use Rattle.cqs_rule_laws.specs.Crew.{Met}
use Rattle.cqs_rule.specs.Passes.{pass_view}
use Rattle.cqs_rule_laws.specs.Facts.{owes_any}
use Rattle.cqs_rule_laws.specs.Saw.{Saw}
use Rattle.cqs_rule_laws.specs.Views.{as_before, facts_joined, facts_lessened}

-- a pass that can't be met away: it owes something, or has a wait
abbrev pub IsBusy : Facts → Type 0
IsBusy f = (owes_any f ≡ true) ⊎ (0 < length f.waits)

-- what a pass is at that took in another, whose spare slots were given back
abbrev pub facts_met : Facts → Facts → Facts
facts_met mine theirs =
    record (facts_joined mine theirs) { spare_slots = mine.spare_slots }

module _ {C S E : Type 0} {g : Ghosts C S E} where
  -- the pass has seen more, appended nothing, and is at what it was
  abbrev pub HasLookedOn : Pass C S E g → Pass C S E g → Type 0
  HasLookedOn p p' =
      Saw g.object (pass_view p) (pass_view p).facts [] (as_before (pass_view p) (pass_view p'))

  -- the same, but that it gave so much of what it held
  abbrev pub HasGiven : ℕ → Pass C S E g → Pass C S E g → Type 0
  HasGiven gives p p' =
      Saw g.object (pass_view p) (facts_lessened gives (pass_view p).facts) []
      (as_before (pass_view p) (pass_view p'))

  -- the pass has taken in what the given one had seen, and has what both had
  abbrev pub HasMet : Pass C S E g → Pass C S E g → Pass C S E g → Type 0
  HasMet p given p' =
      Met g.object (pass_view p) (facts_met (pass_view p).facts (pass_view given).facts)
      (pass_view given).seen (pass_view given).handed (pass_view given).own (pass_view p')
