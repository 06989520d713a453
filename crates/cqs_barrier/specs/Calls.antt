-- What every call of a barrier leaves of its pass.
use Rattle.std.specs.Prelude.{ℕ, List, []}
use Rattle.cqs_barrier_object.specs.declared.entries.BarrierEntry.{BarrierEntry}
use Rattle.cqs_barrier_object.specs.BarrierEntries.{object_after}
use Rattle.cqs_barrier_object.specs.BarrierObject as plain
use Rattle.cqs_barrier_object.specs.SoleCaller.{numbers_of}
use Rattle.cqs_rule_laws.specs.declared.client.ClientWords.{Ghosts}
use Rattle.cqs_rule.specs.declared.queue.Pass.{Pass}
use Rattle.cqs_rule_laws.specs.declared.view.View.{View}
use Rattle.cqs_rule_laws.specs.CallRule as laws
use Rattle.cqs_rule.specs.Passes.{client_of, IsOf}
use Rattle.cqs_barrier.specs.declared.barrier.Barrier.{Barrier}
use Rattle.cqs_barrier.specs.declared.client.BarrierClient.{BarrierClient}
use Rattle.cqs_barrier.specs.Barrier.{barrier_object}
use Rattle.cqs_barrier.specs.Parties.{parties_of}

module _ {T : Type 0} where
  -- the parties that the barrier was made with
  abbrev pub parties_in : Barrier T → ℕ
  parties_in b = parties_of (client_of b.queue)

  -- the pass is one of this barrier
  abbrev pub IsMine : {g : Ghosts (BarrierClient T) T BarrierEntry} → Barrier T
      → Pass (BarrierClient T) T BarrierEntry g → Type 0
  IsMine b p = IsOf b.queue p

  -- the plain barrier, after all that the pass has seen
  abbrev pub plain_after : View BarrierEntry T → plain.Barrier
  plain_after v = object_after v.opening.size v.seen

  -- the numbers of those who wait in its line then, in order
  abbrev pub waiting_in : View BarrierEntry T → List ℕ
  waiting_in v = numbers_of (plain_after v).waiters.line

  -- The call rule at a barrier: nothing is said of what came last.
  abbrev pub CallRule : View BarrierEntry T → List BarrierEntry → List BarrierEntry
      → View BarrierEntry T → Type 0
  CallRule v own further w = laws.CallRuleEnding barrier_object v own further [] w

  -- how a pass rests after a call
  abbrev pub Rests : View BarrierEntry T → ℕ → List ℕ → View BarrierEntry T → Type 0
  Rests v held waits w = laws.RestsHolding held waits w
