-- What every call of a pool leaves of its pass.
use Rattle.std.specs.Prelude.{◌≡◌, ℕ, List}
use Rattle.cqs_pool_object.specs.declared.entries.PoolEntry.{PoolEntry}
use Rattle.cqs_pool_object.specs.PoolEntries.{object_after}
use Rattle.cqs_pool_object.specs.PoolObject as plain
use Rattle.cqs_rule_laws.specs.declared.client.ClientWords.{Ghosts}
use Rattle.cqs_rule.specs.declared.queue.Pass.{Pass}
use Rattle.cqs_rule_laws.specs.declared.view.View.{View}
use Rattle.cqs_rule_laws.specs.CallRule as laws
use Rattle.cqs_rule_laws.specs.CallRule.{IsReady}
use Rattle.cqs_rule.specs.Passes.{client_of, IsOf}
use Rattle.cqs_pool.specs.declared.client.PoolClient.{PoolClient}
use Rattle.cqs_pool.specs.declared.pool.Pool.{Pool}
use Rattle.cqs_pool.specs.Pool.{pool_object}
use Rattle.cqs_pool.specs.PoolSize.{elements_of}

module _ {T : Type 0} where
  -- how many elements the pool was made with
  abbrev pub size_of : Pool T → ℕ
  size_of pool = elements_of (client_of pool.queue)

  -- the pass is one of this pool
  abbrev pub IsMine : {g : Ghosts (PoolClient T) T PoolEntry} → Pool T
      → Pass (PoolClient T) T PoolEntry g → Type 0
  IsMine pool p = IsOf pool.queue p

  -- the plain pool, after all that the pass has seen
  abbrev pub plain_after : View PoolEntry T → plain.Pool
  plain_after v = object_after v.opening.size v.seen

  -- the call rule, and a course of calls, at a pool
  abbrev pub CallRule : View PoolEntry T → List PoolEntry → List PoolEntry → View PoolEntry T
      → Type 0
  CallRule v own further w = laws.CallRule pool_object v own further w

  abbrev pub Course : View PoolEntry T → List PoolEntry → View PoolEntry T → Type 0
  Course v own w = laws.Course pool_object v own w

  -- after a call the pass is idle, has these elements in hand, the last one that it got first, and
  -- has these waits
  pub record Rests (v : View PoolEntry T) (elements waits : List ℕ) (w : View PoolEntry T)
      : Type 0 where
    pub ready : IsReady w.facts
    pub elements_are : w.facts.has.slots ≡ elements
    pub waits_are : w.facts.waits ≡ waits
