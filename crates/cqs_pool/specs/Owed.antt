-- What the end of a resumption means for the element that it brings, and what is still owed.
use Rattle.std.specs.Prelude.{◌≡◌, Option, Some, None}
use Rattle.cqs_rule.specs.declared.queue.tokens.Under as token
use Rattle.cqs_resume.specs.declared.resumed.Resumed as resume
use Rattle.cqs_resume.specs.declared.resumed.Resumed.TheVariants as resumed
use Rattle.cqs_pool.specs.declared.answers.Placed.{Placed}
use Rattle.cqs_pool.specs.declared.answers.Placed.TheVariants.{Sent, Left, Under}

-- it didn't end at a refused cell: a pool has none
abbrev pub IsUnrefused : resume.Resumed → Type 0
IsUnrefused (resumed.Served k) = Unit {0}
IsUnrefused (resumed.Left k) = Unit {0}
IsUnrefused (resumed.Refused k) = ⊥
IsUnrefused (resumed.Under under) = Unit {0}

abbrev pub IsPlacedAs : resume.Resumed → Placed → Type 0
IsPlacedAs (resumed.Served k) placed = placed ≡ Sent k
IsPlacedAs (resumed.Left k) placed = placed ≡ Left k
IsPlacedAs (resumed.Refused k) placed = ⊥
IsPlacedAs (resumed.Under under) placed = placed ≡ Under under

-- the resumption that is still owed
abbrev pub owed_after : Placed → Option token.Under
owed_after (Sent k) = None
owed_after (Left k) = None
owed_after (Under under) = Some under
