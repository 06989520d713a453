-- The passes of the pool that rest until their posts are made.
use Rattle.std.specs.Prelude.{◌≡◌, ℕ, List, [], ◌∷◌, All, length}
use Rattle.cqs_pool_object.specs.declared.entries.PoolEntry.{PoolEntry}
use Rattle.cqs_rule_laws.specs.declared.client.ClientWords.{Ghosts}
use Rattle.cqs_rule_laws.specs.Lists.{part}
use Rattle.cqs_rule_laws.specs.Views.{first_facts}
use Rattle.cqs_rule.specs.declared.queue.Pass.{Pass}
use Rattle.cqs_rule.specs.Passes.{pass_view}
use Rattle.cqs_pool.specs.declared.client.PoolClient.{PoolClient}
use Rattle.cqs_pool.specs.declared.pool.Pool.{Pool}
use Rattle.cqs_pool.specs.Calls.{IsMine}
use Rattle.cqs_pool.specs.Pool.{pool_object}

module _ {g : Ghosts (PoolClient (Unit {0})) (Unit {0}) PoolEntry} where
  -- the pass is one of the pool, has done nothing, made none, and stands in no entry
  pub record IsSpare (pool : Pool (Unit {0}))
      (p : Pass (PoolClient (Unit {0})) (Unit {0}) PoolEntry g) : Type 0 where
    pub mine : IsMine pool p
    pub facts : (pass_view p).facts ≡ first_facts 0
    pub own : (pass_view p).own ≡ (pass_view p).number ∷ []
    pub unnamed : part pool_object.names (pass_view p).number (pass_view p).seen ≡ []
    pub childless : (pass_view p).made ≡ []

  -- so many of them
  pub record AreSpare (pool : Pool (Unit {0})) (many : ℕ)
      (ps : List (Pass (PoolClient (Unit {0})) (Unit {0}) PoolEntry g)) : Type 0 where
    pub long : length ps ≡ many
    pub each : All (IsSpare pool) ps
