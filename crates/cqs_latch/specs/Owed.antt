-- What contracts see of the resumptions that are still owed of an opened latch.
use Rattle.std.specs.Prelude.{◌≡◌, ℕ, ◌<◌}
use Rattle.cqs_rule.specs.declared.queue.tokens.Under.{Under}
use Rattle.cqs_rule_laws.specs.declared.view.Facts.{Facts}
use Rattle.cqs_rule.specs.Owed.{HasUnder, under_payload, under_reached}
use Rattle.cqs_latch.specs.declared.answers.Owed.{Owed}

-- the one that was handed back, how many come after it, and the last number that was drawn for it
abbrev pub owed_under : Owed → Under
owed_under o = o.under

abbrev pub owed_further : Owed → ℕ
owed_further o = o.further

abbrev pub owed_reached : Owed → ℕ
owed_reached o = under_reached o.under

-- the pass owes them: the one that was handed back, and those after it, which have no payload
pub record HasOwed (facts : Facts) (owed : Owed) : Type 0 where
  pub under : HasUnder facts (owed_under owed)
  pub further : facts.has.further ≡ owed_further owed
  pub payload : 0 < owed_further owed → under_payload (owed_under owed) ≡ 0
