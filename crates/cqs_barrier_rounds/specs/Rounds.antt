-- The rounds and their passes: a list of barriers, and for each a pass of it.
use Rattle.std.specs.Prelude.{◌≡◌, ℕ, true, List, [], ◌∷◌, length, Option, Some, None, slice_get, slice_set, Bool, false}
use Rattle.cqs_barrier_object.specs.declared.entries.BarrierEntry.{BarrierEntry}
use Rattle.cqs_rule_laws.specs.declared.client.ClientWords.{Ghosts}
use Rattle.cqs_rule_laws.specs.declared.config.Config.{Config}
use Rattle.cqs_rule_laws.specs.Configured.{is_config, is_small_config}
use Rattle.cqs_rule.specs.declared.queue.Pass.{Pass}
use Rattle.cqs_rule_laws.specs.declared.view.View.{View}
use Rattle.cqs_rule.specs.Passes.{ample_of, pass_view, passes_of, limit_of}
use Rattle.cqs_barrier.specs.Parked.{Barrier, BarrierClient}
use Rattle.cqs_barrier.specs.Calls.{IsMine, Rests, parties_in}
use Rattle.cqs_barrier_rounds.specs.declared.rounds.Rounds.{Rounds}

-- which configurations rounds may be made with, whether of ample barriers or not
abbrev pub is_config_for : Bool → Config → Bool
is_config_for true c = is_small_config c
is_config_for false c = is_config c

-- the barriers, round for round
abbrev pub barriers_of : Rounds → List Barrier
barriers_of r = r.barriers.items

-- how many rounds there are
abbrev pub rounds_in : Rounds → ℕ
rounds_in r = length r.barriers.items

-- each of them stands on an ample table
abbrev pub AreAmple : List Barrier → Type 0
AreAmple barriers = (r : ℕ) (b : Barrier) → slice_get barriers r ≡ Some b → ample_of b.queue ≡ true

module _ {g : Ghosts BarrierClient (Unit {0}) BarrierEntry} where
  -- there is one pass for each round, and it is of that round's barrier
  pub record AreMine (barriers : List Barrier)
      (ps : List (Pass BarrierClient (Unit {0}) BarrierEntry g)) : Type 0 where
    pub many : length ps ≡ length barriers
    pub each : (r : ℕ) (b : Barrier) (p : Pass BarrierClient (Unit {0}) BarrierEntry g)
        → slice_get barriers r ≡ Some b → slice_get ps r ≡ Some p → IsMine b p

  -- a barrier of so many parties and its first pass, which has seen nothing and holds them all
  pub record IsOpened (config : Config) (parties : ℕ) (b : Barrier)
      (p : Pass BarrierClient (Unit {0}) BarrierEntry g) : Type 0 where
    pub parties_are : parties_in b ≡ parties
    pub passes : passes_of b.queue ≡ config.passes
    pub limit : limit_of b.queue ≡ config.limit
    pub first : (pass_view p).number ≡ 0
    pub own : (pass_view p).own ≡ 0 ∷ []
    pub nothing : (pass_view p).seen ≡ []
    pub alone : (pass_view p).alone ≡ true
    pub all : Rests (pass_view p) parties [] (pass_view p)

  -- the same of each round
  abbrev pub AreOpened : Config → ℕ → List Barrier
      → List (Pass BarrierClient (Unit {0}) BarrierEntry g) → Type 0
  AreOpened config parties barriers ps =
      (r : ℕ) (b : Barrier) (p : Pass BarrierClient (Unit {0}) BarrierEntry g)
      → slice_get barriers r ≡ Some b → slice_get ps r ≡ Some p → IsOpened config parties b p

  -- how many parties of the round a pass holds
  abbrev pub held_by : Option (Pass BarrierClient (Unit {0}) BarrierEntry g) → ℕ
  held_by None = 0
  held_by (Some p) = (pass_view p).facts.has.held

  abbrev pub held_at : List (Pass BarrierClient (Unit {0}) BarrierEntry g) → ℕ → ℕ
  held_at ps r = held_by (slice_get ps r)

  -- the pass of this round, where there is one, is such
  abbrev pub IsAt : (View BarrierEntry (Unit {0}) → Type 0)
      → List (Pass BarrierClient (Unit {0}) BarrierEntry g) → ℕ → Type 0
  IsAt fact ps r =
      (p : Pass BarrierClient (Unit {0}) BarrierEntry g) → slice_get ps r ≡ Some p
      → fact (pass_view p)

  -- A call of this round's barrier led its pass from the one to the other, and left the passes of
  -- all other rounds as they were.
  pub record IsCalled (call : View BarrierEntry (Unit {0}) → View BarrierEntry (Unit {0}) → Type 0)
      (r : ℕ) (ps qs : List (Pass BarrierClient (Unit {0}) BarrierEntry g)) : Type 0 where
    pub old : Pass BarrierClient (Unit {0}) BarrierEntry g
    pub new : Pass BarrierClient (Unit {0}) BarrierEntry g
    pub was : slice_get ps r ≡ Some old
    pub now : qs ≡ slice_set ps r new
    pub called : call (pass_view old) (pass_view new)
