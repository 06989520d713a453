-- The acknowledgements of all senders: a queue for each, of which the desk has a pass, and the post
-- another once it is made.
use Rattle.std.specs.Prelude.{◌≡◌, ℕ, ◌≤◌, List, length, Option, Some, None, slice_get, slice_set}
use Rattle.crossbeam_queue.specs.declared.array_queue.Doing.{Doing}
use Rattle.crossbeam_queue.specs.declared.array_queue.Slotted.{Slotted}
use Rattle.crossbeam_queue.specs.Passes.{Pass, view, IsPassOf, ruled_capacity}
use Rattle.cqs_mailbox.specs.declared.tally.Tally.{Tally}
use Rattle.cqs_mailbox.specs.declared.tally.Tally.TheVariants.{Both}
use Rattle.cqs_mailbox.specs.Tallies.{IsDesk, IsPost, given_in}

-- how many the desk gave to a sender, where there is a queue for it
abbrev pub given_by : Option (Pass (Unit {0}) Tally) → ℕ
given_by None = 0
given_by (Some p) = given_in (view p)

abbrev pub given_to : ℕ → List (Pass (Unit {0}) Tally) → ℕ
given_to s ps = given_by (slice_get ps s)

-- A call on the queue of this sender led the desk's pass of it from what it knew to this, and left
-- the passes of all other senders as they were.
pub record IsCalledFor (s : ℕ) (call : Tally → Tally → Type 0)
    (ps qs : List (Pass (Unit {0}) Tally)) : Type 0 where
  pub old : Pass (Unit {0}) Tally
  pub new : Pass (Unit {0}) Tally
  pub was : slice_get ps s ≡ Some old
  pub now : qs ≡ slice_set ps s new
  pub called : call (view old) (view new)

module _ {Q A : Type 0} where
  -- The queue of the sender s has this room, and the desk has a pass of it. Nothing was given or
  -- taken as long as the post wasn't made.
  pub record IsForSender (room made s : ℕ)
      (q : Slotted (Option (Unit {0})) (Doing (Unit {0}) Tally) Q A)
      (p : Pass (Unit {0}) Tally) : Type 0 where
    pub room_is : ruled_capacity q ≡ room
    pub pass : IsPassOf q p
    pub desk : IsDesk (view p)
    pub unmade : made ≤ s → view p ≡ Both 0 0

  -- the same of each sender
  pub record AreForSenders (room made : ℕ)
      (qs : List (Slotted (Option (Unit {0})) (Doing (Unit {0}) Tally) Q A))
      (ps : List (Pass (Unit {0}) Tally)) : Type 0 where
    pub many : length ps ≡ length qs
    pub each : (s : ℕ) (q : Slotted (Option (Unit {0})) (Doing (Unit {0}) Tally) Q A)
        (p : Pass (Unit {0}) Tally)
        → slice_get qs s ≡ Some q → slice_get ps s ≡ Some p → IsForSender room made s q p

  -- the pass is the post's, of the queue of its sender, which has this room
  pub record IsOfSender (room s : ℕ)
      (qs : List (Slotted (Option (Unit {0})) (Doing (Unit {0}) Tally) Q A))
      (p : Pass (Unit {0}) Tally) : Type 0 where
    pub queue : Slotted (Option (Unit {0})) (Doing (Unit {0}) Tally) Q A
    pub there : slice_get qs s ≡ Some queue
    pub room_is : ruled_capacity queue ≡ room
    pub pass : IsPassOf queue p
    pub post : IsPost (view p)
