-- What holds of a mutex and of its passes between two calls.
use Rattle.std.specs.Prelude.{◌≡◌, ℕ, true, List, [], ◌∷◌, Some, None, Result, Ok, Err}
use Rattle.cqs_core.specs.declared.entries.Entry.{Entry}
use Rattle.cqs_rule_laws.specs.declared.client.ClientWords.{Ghosts}
use Rattle.cqs_rule_laws.specs.declared.config.Config.{Config}
use Rattle.cqs_rule_laws.specs.declared.config.MakeError.{MakeError}
use Rattle.cqs_rule_laws.specs.declared.config.MakeError.TheVariants.{BadConfig}
use Rattle.cqs_rule.specs.declared.queue.Pass.{Pass}
use Rattle.cqs_semaphore_client.specs.declared.semaphore.SemClient.{SemClient}
use Rattle.cqs_rule_laws.specs.declared.carries.Kept.{Kept}
use Rattle.cqs_rule.specs.Passes.{pass_view, passes_of, limit_of}
use Rattle.cqs_rule_laws.specs.Slots.{laid_in, handed_in}
use Rattle.cqs_semaphore.specs.Calls.{Rests, IsMine}
use Rattle.cqs_mutex.specs.declared.mutex.Mutex.{Mutex}
use Rattle.cqs_mutex.specs.Values.{in_slot}

-- a value was handed in: at the opening, or by an unlock
abbrev pub IsFilled : {T : Type 0} → List (ℕ × T) → Type 0
IsFilled {T} handed = (value : T) × (handed_in handed 0 ≡ Some value)

-- nothing was made, since the configuration is out of range
abbrev pub IsBadConfig : {A T : Type 0} → Result A (T × MakeError) → Type 0
IsBadConfig (Ok made) = ⊥
IsBadConfig (Err refused) = refused.1 ≡ BadConfig

module _ {T : Type 0} {g : Ghosts (SemClient (Kept T)) (Kept T) Entry} where
  -- The pass is one of this mutex. A value was handed in before, and a pass that holds nothing has
  -- laid nothing into the slot.
  pub record Belongs (m : Mutex T) (p : Pass (SemClient (Kept T)) (Kept T) Entry g) : Type 0 where
    pub mine : IsMine m.semaphore p
    pub filled : IsFilled (pass_view p).handed
    pub tidy : (pass_view p).facts.has.held ≡ 0 → laid_in (pass_view p).laid 0 ≡ None

  -- How a mutex opens: its first pass has seen nothing but the opening value, and is alone.
  pub record Opens (value : T) (config : Config) (m : Mutex T)
      (p : Pass (SemClient (Kept T)) (Kept T) Entry g) : Type 0 where
    pub passes : passes_of m.semaphore.queue ≡ config.passes
    pub limit : limit_of m.semaphore.queue ≡ config.limit
    pub first : (pass_view p).number ≡ 0
    pub own : (pass_view p).own ≡ 0 ∷ []
    pub nothing : (pass_view p).seen ≡ []
    pub handed : (pass_view p).handed ≡ (0, in_slot value) ∷ []
    pub alone : (pass_view p).alone ≡ true
    pub ready : Rests (pass_view p) 0 [] (pass_view p)
