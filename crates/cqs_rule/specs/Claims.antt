-- What a call claims before its first change, so that it can make the segment of its number.
use Rattle.std.specs.Prelude.{◌≡◌, ◌⊎◌, ℕ, ◌/◌, ◌<◌, ◌≤◌, true, List, [], ◌++◌, length, Some}
use Rattle.cqs_rule_laws.specs.declared.client.ClientWords.{Ghosts}
use Rattle.cqs_rule_laws.specs.declared.view.Facts.{Facts}
use Rattle.cqs_rule_laws.specs.declared.view.Spare.{Spare}
use Rattle.cqs_rule_laws.specs.declared.view.View.{View}
use Rattle.cqs_rule_laws.specs.Ample.{IsAmple}
use Rattle.cqs_rule_laws.specs.Lists.{IsPrefix}
use Rattle.cqs_rule_laws.specs.SegmentSteps.{facts_left, LeftBy}
use Rattle.cqs_segment.specs.Slots.{FoundTaken}
use Rattle.cqs_segment.specs.Walks.{IsWalker, Left}
use Rattle.cqs_rule.specs.declared.queue.Pass.{Pass}
use Rattle.cqs_rule.specs.declared.queue.Queue.{Queue}
use Rattle.cqs_rule.specs.declared.queue.spares.Spares.{Spares}
use Rattle.cqs_rule.specs.declared.queue.tokens.Under.{Under}
use Rattle.cqs_rule.specs.Owed.{under_ticket}
use Rattle.cqs_rule.specs.Passes.{ample_of, pass_view}
use Rattle.cqs_rule.specs.Spares.{HasSpare}

module _ {E S : Type 0} where
  -- The pass has so many slots spare; or it needs none, as all segments are made.
  abbrev pub HasSpares : ℕ → View E S → Type 0
  HasSpares most v = IsAmple v ⊎ (most ≤ length v.facts.spare_slots)

  -- Slots were claimed until the pass had as many spare, and no more. Those that it had are spare
  -- still, and all else that it has is as it was. In an ample table it made no step.
  pub record Claimed (most : ℕ) (v w : View E S) : Type 0 where
    pub left : Left w.facts.spare_slots v.facts.duties v w
    pub enough : HasSpares most w
    pub kept : IsPrefix v.facts.spare_slots w.facts.spare_slots
    pub just : (w.facts.spare_slots ≡ v.facts.spare_slots)
        ⊎ (length w.facts.spare_slots ≡ most)
    pub ample : IsAmple v → w ≡ v

  -- The pass had fewer slots spare and has fewer still, the table isn't ample, and each of its
  -- slots was seen not free at a step of the call. The pass has what it had, but for spare slots.
  pub record Crowds (most : ℕ) (v w : View E S) : Type 0 where
    pub few : length v.facts.spare_slots < most
    pub short : length w.facts.spare_slots < most
    pub kept : IsPrefix v.facts.spare_slots w.facts.spare_slots
    pub heads : List (ℕ × ℕ)
    pub spares : List Spare
    pub left : LeftBy heads spares v.facts.duties v w
    pub taken : (x : ℕ) → x < v.slots → FoundTaken x heads
    pub scarce : IsAmple v → ⊥

  -- A call was refused, as the pass had fewer slots spare than the call claims, and each slot was
  -- seen not free at a step of the call. Before, it had made loads alone, which left the pass at
  -- these facts. The slots that it claimed are spare. The table isn't ample.
  pub record WasCrowded (most : ℕ) (f : Facts) (v w : View E S) : Type 0 where
    pub few : length v.facts.spare_slots < most
    pub short : length w.facts.spare_slots < most
    pub kept : IsPrefix v.facts.spare_slots w.facts.spare_slots
    pub heads : List (ℕ × ℕ)
    pub spares : List Spare
    pub facts_are : w.facts ≡ facts_left spares heads v.facts.duties f
    pub taken : (x : ℕ) → x < v.slots → FoundTaken x heads
    pub scarce : IsAmple v → ⊥

  -- A resumption was handed back with the ticket of its number, since there was no slot for the
  -- number's segment: the pass knew of no such segment before the call, it has no slot spare, and
  -- after the other steps of the call each slot was seen not free. The table isn't ample.
  pub record WantsSlot (under : Under) (v w : View E S) : Type 0 where
    pub number : ℕ
    pub ticket : under_ticket under ≡ Some number
    pub far : length v.segments.homes ≤ number / 32
    pub spareless : w.facts.spare_slots ≡ []
    pub before : List (ℕ × ℕ)
    pub heads : List (ℕ × ℕ)
    pub heads_are : w.facts.heads ≡ v.facts.heads ++ (before ++ heads)
    pub taken : (x : ℕ) → x < v.slots → FoundTaken x heads
    pub scarce : IsAmple v → ⊥

module _ {C E S : Type 0} where
  -- A pass that may walk over all slots of the queue's table, and is to retire no segment. These
  -- are the slots that it has spare.
  pub record IsClaimer (q : Queue C S E) (kept : Spares) (v : View E S) : Type 0 where
    pub walker : IsWalker q.table.shared.table_id.words v
    pub all : q.segment_slots ≡ v.slots
    pub spare : HasSpare v.facts.spare_slots v.slots kept
    pub retired : v.facts.to_retire ≡ []

module _ {C S E : Type 0} {g : Ghosts C S E} where
  -- The pass can make the segment of a number that it draws: it has a slot spare, or all segments
  -- are made.
  abbrev pub CanExtend : Queue C S E → Pass C S E g → Type 0
  CanExtend q p = (ample_of q ≡ true) ⊎ (0 < length (pass_view p).facts.spare_slots)
