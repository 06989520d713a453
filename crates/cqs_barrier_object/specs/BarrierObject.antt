-- The barrier as a plain object: how many parties are still to arrive, and those that
-- wait for them.
use Rattle.std.specs.Prelude.{ℕ, List, []}
use Rattle.cqs_core.specs.QueueLine.{Waiting}
use Rattle.cqs_core.specs.QueueWaiters.{Waiters, no_waiters}

pub record Barrier : Type 0 where
  -- the parties that haven't arrived, or have withdrawn
  pub remaining : ℕ
  -- the resumptions that go to those who wait, and haven't reached them
  pub way : ℕ
  -- the parties that wait: at the door, in line, and those that were served
  pub waiters : Waiters
  -- those that wanted to withdraw when all had arrived, in order of number: they were served
  -- without a resumption, and nothing is left to be looked at
  pub stayed : List Waiting

-- a barrier opens with all its parties still to arrive
abbrev pub opening : ℕ → Barrier
opening parties = record { remaining = parties; way = 0; waiters = no_waiters; stayed = [] }
