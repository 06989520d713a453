-- What holds of a pool of values and of its passes between two calls.
use Rattle.std.specs.Prelude.{◌≡◌, ℕ, ◌<◌, true, List, [], ◌∷◌, length, slice_get, Some, None, Result, Ok, Err}
use Rattle.cqs_pool_object.specs.declared.entries.PoolEntry.{PoolEntry}
use Rattle.cqs_rule_laws.specs.declared.client.ClientWords.{Ghosts}
use Rattle.cqs_rule_laws.specs.declared.config.Config.{Config}
use Rattle.cqs_rule_laws.specs.declared.config.MakeError.{MakeError}
use Rattle.cqs_rule_laws.specs.declared.config.MakeError.TheVariants.{BadConfig}
use Rattle.cqs_rule.specs.declared.queue.Pass.{Pass}
use Rattle.cqs_rule_laws.specs.declared.carries.Kept.{Kept}
use Rattle.cqs_rule_laws.specs.declared.view.View.{View}
use Rattle.cqs_rule_laws.specs.Lists.{Has}
use Rattle.cqs_rule.specs.Passes.{pass_view, passes_of, limit_of}
use Rattle.cqs_rule_laws.specs.Slots.{laid_in, handed_in}
use Rattle.cqs_pool.specs.declared.client.PoolClient.{PoolClient}
use Rattle.cqs_pool.specs.Calls.{Rests, IsMine, size_of}
use Rattle.cqs_pool_values.specs.declared.opening.ValuePool.{ValuePool}
use Rattle.cqs_pool_values.specs.Values.{in_slot, IsOfLastPut}

-- a value was handed in for the element e: at the opening, or by a put
abbrev pub IsFilled : {T : Type 0} → ℕ → List (ℕ × T) → Type 0
IsFilled {T} e handed = (value : T) × (handed_in handed e ≡ Some value)

-- and so for each of so many elements
abbrev pub AreFilled : {T : Type 0} → ℕ → List (ℕ × T) → Type 0
AreFilled size handed = (e : ℕ) → e < size → IsFilled e handed

-- what was handed in last for each element is the value at its place
abbrev pub HoldsEach : {T : Type 0} → List T → List (ℕ × Kept T) → Type 0
HoldsEach {T} values handed =
    (e : ℕ) (value : T) → slice_get values e ≡ Some value
    → handed_in handed e ≡ Some (in_slot value)

-- and it is the first one of the element, before any put
abbrev pub BeginsEach : {T : Type 0} → List T → List (ℕ × Kept T) → Type 0
BeginsEach {T} values handed =
    (e : ℕ) (value : T) → slice_get values e ≡ Some value
    → IsOfLastPut e value [] handed

-- nothing was made, since there are too few values or too many, or the configuration is out of
-- range
abbrev pub IsBadConfig : {A X : Type 0} → Result A (X × MakeError) → Type 0
IsBadConfig (Ok made) = ⊥
IsBadConfig (Err refused) = refused.1 ≡ BadConfig

module _ {S : Type 0} where
  -- the pass has laid nothing into the slot of an element that it hasn't in hand
  abbrev pub IsTidy : View PoolEntry S → Type 0
  IsTidy v = (e : ℕ) → (Has e v.facts.has.slots → ⊥) → laid_in v.laid e ≡ None

module _ {T : Type 0} {g : Ghosts (PoolClient (Kept T)) (Kept T) PoolEntry} where
  -- The pass is one of this pool. A value was handed in before for each element, and the pass is
  -- tidy.
  pub record Belongs (m : ValuePool T) (p : Pass (PoolClient (Kept T)) (Kept T) PoolEntry g)
      : Type 0 where
    pub mine : IsMine m.pool p
    pub filled : AreFilled (size_of m.pool) (pass_view p).handed
    pub tidy : IsTidy (pass_view p)

  -- How a pool opens with these values: its first pass has seen nothing but them, and is alone.
  pub record Opens (values : List T) (config : Config) (m : ValuePool T)
      (p : Pass (PoolClient (Kept T)) (Kept T) PoolEntry g) : Type 0 where
    pub size : size_of m.pool ≡ length values
    pub passes : passes_of m.pool.queue ≡ config.passes
    pub limit : limit_of m.pool.queue ≡ config.limit
    pub first : (pass_view p).number ≡ 0
    pub own : (pass_view p).own ≡ 0 ∷ []
    pub nothing : (pass_view p).seen ≡ []
    pub handed : HoldsEach values (pass_view p).handed
    pub begins : BeginsEach values (pass_view p).handed
    pub alone : (pass_view p).alone ≡ true
    pub ready : Rests (pass_view p) [] [] (pass_view p)
