-- What a worker's pass is at between its calls.
use Rattle.std.specs.Prelude.{◌≡◌, ℕ, List, [], ◌∷◌, Option, Some, None}
use Rattle.cqs_pool_object.specs.declared.entries.PoolEntry.{PoolEntry}
use Rattle.cqs_rule_laws.specs.declared.client.ClientWords.{Ghosts}
use Rattle.cqs_rule.specs.declared.queue.Pass.{Pass}
use Rattle.cqs_rule.specs.declared.queue.tokens.Under as token
use Rattle.cqs_rule.specs.declared.queue.tokens.Wait.{Wait}
use Rattle.cqs_rule_laws.specs.declared.carries.Kept.{Kept}
use Rattle.cqs_rule.specs.Owed.{HasUnder}
use Rattle.cqs_rule.specs.Passes.{pass_view}
use Rattle.cqs_rule.specs.Waits.{place_of, HasWait}
use Rattle.cqs_pool.specs.declared.client.PoolClient.{PoolClient}
use Rattle.cqs_rule_laws.specs.CallRule.{IsReady}
use Rattle.cqs_pool_values.specs.declared.answers.ItemPolled.{ItemPolled}
use Rattle.cqs_pool_values.specs.declared.answers.ItemPolled.TheVariants.{Granted, Pending}
use Rattle.cqs_pool_values.specs.declared.item.Item.{Item}
use Rattle.cqs_pool_values.specs.declared.opening.ValuePool.{ValuePool}
use Rattle.cqs_pool_values.specs.Items.{number_of}
use Rattle.cqs_pool_values.specs.Pools.{Belongs}

module _ {T : Type 0} {g : Ghosts (PoolClient (Kept T)) (Kept T) PoolEntry} where
  -- the pass is one of this pool, between two calls; it has these elements in hand, and these waits
  pub record Stays (pool : ValuePool T) (elements waits : List ℕ)
      (p : Pass (PoolClient (Kept T)) (Kept T) PoolEntry g) : Type 0 where
    pub belongs : Belongs pool p
    pub ready : IsReady (pass_view p).facts
    pub elements_are : (pass_view p).facts.has.slots ≡ elements
    pub waits_are : (pass_view p).facts.waits ≡ waits

  -- it has nothing, and waits for nothing
  abbrev pub IsAtRest : ValuePool T → Pass (PoolClient (Kept T)) (Kept T) PoolEntry g → Type 0
  IsAtRest pool p = Stays pool [] [] p

  -- it has this element, and no other
  abbrev pub HasInHand : ValuePool T → ℕ → Pass (PoolClient (Kept T)) (Kept T) PoolEntry g
      → Type 0
  HasInHand pool e p = Stays pool (e ∷ []) [] p

  -- it has this wait, and no other
  abbrev pub IsWaiting : ValuePool T → Wait → Pass (PoolClient (Kept T)) (Kept T) PoolEntry g
      → Type 0
  IsWaiting pool wait p =
      Stays pool [] ((place_of wait).index ∷ []) p × HasWait (pass_view p) wait

  -- it owes the resumption of this token
  pub record IsOwing (pool : ValuePool T) (under : token.Under)
      (p : Pass (PoolClient (Kept T)) (Kept T) PoolEntry g) : Type 0 where
    pub belongs : Belongs pool p
    pub owes : HasUnder (pass_view p).facts under
    pub further : (pass_view p).facts.has.further ≡ 0
    pub elements_are : (pass_view p).facts.has.slots ≡ []
    pub waits_are : (pass_view p).facts.waits ≡ []

  -- a wait was looked at: it was served, or goes on
  abbrev pub HasLooked : ValuePool T → ItemPolled T
      → Pass (PoolClient (Kept T)) (Kept T) PoolEntry g → Type 0
  HasLooked pool (Granted item) p = HasInHand pool (number_of item) p
  HasLooked pool (Pending wait) p = IsWaiting pool wait p

  -- a take or a wait has ended, with an element or with none
  abbrev pub HasEnded : ValuePool T → Option (Item T)
      → Pass (PoolClient (Kept T)) (Kept T) PoolEntry g → Type 0
  HasEnded pool (Some item) p = HasInHand pool (number_of item) p
  HasEnded pool None p = IsAtRest pool p

  -- all three passes of a worker are at rest
  abbrev pub AreAtRest : ValuePool T
      → Pass (PoolClient (Kept T)) (Kept T) PoolEntry g
      × Pass (PoolClient (Kept T)) (Kept T) PoolEntry g
      × Pass (PoolClient (Kept T)) (Kept T) PoolEntry g → Type 0
  AreAtRest pool hands = IsAtRest pool hands.0 × IsAtRest pool hands.1 × IsAtRest pool hands.2
