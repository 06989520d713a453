-- A latch of the running queue with its one pass, as a floor sees it.
use Rattle.std.specs.Prelude.{◌≡◌, ℕ, ◌+◌, ◌<◌, ◌≤◌, Bool, true, false, List, [], Option, filter, length}
use Rattle.cqs_plan.specs.declared.plans.kind.Kind.{Kind}
use Rattle.cqs_plan.specs.Floor.{IsLatch, size_of}
use Rattle.cqs_plan.specs.FloorHistory.{of_latch}
use Rattle.cqs_latch_object.specs.declared.entries.LatchEntry.{LatchEntry}
use Rattle.cqs_latch_object.specs.declared.entries.LatchEntry.TheVariants as entry
use Rattle.cqs_latch.specs.Alone.{plain_after}
use Rattle.cqs_rule_laws.specs.CallRule.{IsReady}
use Rattle.cqs_latch.specs.Calls.{IsMine}
use Rattle.cqs_latch.specs.LatchMade.{mode_of}
use Rattle.cqs_rule_laws.specs.declared.config.CancelMode.TheVariants.{Smart}
use Rattle.cqs_rule_laws.specs.declared.view.View.{View}
use Rattle.cqs_rule_laws.specs.Lists.{Has}
use Rattle.cqs_rule.specs.Passes.{client_of, pass_view}
use Rattle.cqs_floor_alone_kinds.specs.declared.latch_sole.LatchSole.{LatchSole}
use Rattle.cqs_floor_alone_kinds.specs.Stores.{Store}
use Rattle.cqs_floor_alone_kinds.specs.Waits.{WaitsAt}

-- an entry is news, but for a look that found nothing new
abbrev pub is_news : LatchEntry → Bool
is_news (entry.LookPending c k) = false
is_news (entry.DownLeft c n) = true
is_news (entry.DownLast c) = true
is_news (entry.DownAlready c) = true
is_news (entry.Open c) = true
is_news (entry.Passed c) = true
is_news (entry.AwaitDoor c) = true
is_news (entry.Enter c k) = true
is_news (entry.Deliver k) = true
is_news (entry.Leave c k) = true
is_news (entry.Miss k) = true
is_news (entry.Late c k) = true
is_news (entry.LookGranted c k) = true

-- a history without looks that found nothing new
abbrev pub news : List LatchEntry → List LatchEntry
news history = filter is_news history

-- The pass is alone, and is between two calls, which it makes as pass 0. The latch is open once its
-- count is used up, and nobody waits at an open latch. The numbers that may still be drawn are
-- below the limit, and each of its waits was drawn.
pub record IsResting {T : Type 0} (v : View LatchEntry T) (size room : ℕ) : Type 0 where
  pub size_is : v.opening.size ≡ size
  pub smart : v.opening.mode ≡ Smart
  pub number : v.number ≡ 0
  pub alone : v.alone ≡ true
  pub ready : IsReady v.facts
  pub whole : (plain_after v).count ≡ 0 → (plain_after v).opened ≡ true
  pub none : (plain_after v).opened ≡ true → (plain_after v).waiters.line ≡ []
  pub below : (plain_after v).waiters.next + room < v.limit
  pub drawn : (k : ℕ) → Has k v.facts.waits → k < (plain_after v).waiters.next

-- It is a latch, and the pass is its own; nobody holds anything of it; and it is counted how often
-- it is still to be counted down, and who waits.
pub record IsFunded (x : LatchSole) (kind : Option Kind) (room waiting : ℕ)
    (held : List (List ℕ)) : Type 0 where
  pub sort : IsLatch kind
  pub mine : IsMine x.latch x.pass
  pub mode : mode_of (client_of x.latch.queue) ≡ Smart
  pub rests : IsResting (pass_view x.pass) (size_of kind) room
  pub count : x.count ≡ (plain_after (pass_view x.pass)).count
  pub line : x.line ≡ length (plain_after (pass_view x.pass)).waiters.line
  pub few_wait : x.line + room ≤ 1048576

abbrev pub store_latch : Store LatchSole
store_latch = record {
  history = λ x. of_latch (news (pass_view x.pass).seen);
  funded = IsFunded;
  has = λ x round wait. (round ≡ 0) × WaitsAt (pass_view x.pass) wait;
}
