-- How passes of the rounds are made and met: round for round, as those of each barrier.
use Rattle.std.specs.Prelude.{◌≡◌, ℕ, ◌+◌, ◌<◌, ◌≤◌, true, List, [], ◌∷◌, ◌++◌, Some, slice_get}
use mathlib.Core.Logic.{◌↔◌}
use Rattle.cqs_barrier_object.specs.declared.entries.BarrierEntry.{BarrierEntry}
use Rattle.cqs_rule_laws.specs.declared.client.ClientWords.{Ghosts}
use Rattle.cqs_rule.specs.declared.queue.Pass.{Pass}
use Rattle.cqs_rule_laws.specs.Alone.{IsAlone}
use Rattle.cqs_rule_laws.specs.Crew.{IsBetween, CameWith, MadeNone, MadeOne}
use Rattle.cqs_rule.specs.Passes.{pass_view, passes_of}
use Rattle.cqs_rule.specs.Seats.{IsBusy, HasGiven, HasLookedOn, HasMet}
use Rattle.cqs_rule_laws.specs.Views.{live_in, made_in}
use Rattle.cqs_barrier.specs.Parked.{Barrier, BarrierClient}
use Rattle.cqs_barrier.specs.Barrier.{barrier_object}
use Rattle.cqs_rule_laws.specs.CallRule.{IsReady}
use Rattle.cqs_barrier.specs.Calls.{IsMine}
use Rattle.cqs_barrier.specs.Causes.{primitive_of}
use Rattle.cqs_barrier_rounds.specs.Passes.{EachIs, EachWithin}

module _ {g : Ghosts BarrierClient (Unit {0}) BarrierEntry} where
  abbrev pub AreReady : List (Pass BarrierClient (Unit {0}) BarrierEntry g) → Type 0
  AreReady ps = EachIs (λ p. IsReady (pass_view p).facts) ps

  abbrev pub AreBetween : List (Pass BarrierClient (Unit {0}) BarrierEntry g) → Type 0
  AreBetween ps = EachIs (λ p. IsBetween (pass_view p).facts) ps

  -- of each round the pass holds as much
  abbrev pub HoldEach : ℕ → List (Pass BarrierClient (Unit {0}) BarrierEntry g) → Type 0
  HoldEach gives ps = EachIs (λ p. gives ≤ (pass_view p).facts.has.held) ps

  -- no other pass is left in any round
  abbrev pub AreAlone : List (Pass BarrierClient (Unit {0}) BarrierEntry g) → Type 0
  AreAlone ps = EachIs (λ p. (pass_view p).alone ≡ true) ps

  -- in some round the pass has a wait or owes something
  pub record IsSomeBusy (ps : List (Pass BarrierClient (Unit {0}) BarrierEntry g)) : Type 0 where
    pub round : ℕ
    pub pass : Pass BarrierClient (Unit {0}) BarrierEntry g
    pub there : slice_get ps round ≡ Some pass
    pub busy : IsBusy (pass_view pass).facts

  -- passes of the first rounds, each of its round's barrier
  abbrev pub AreFor : List Barrier → List (Pass BarrierClient (Unit {0}) BarrierEntry g) → Type 0
  AreFor barriers ps =
      (r : ℕ) (b : Barrier) (p : Pass BarrierClient (Unit {0}) BarrierEntry g)
      → slice_get barriers r ≡ Some b → slice_get ps r ≡ Some p → IsMine b p

  -- the pass took a given one in, and holds what both held
  pub record HasTakenIn (given p q : Pass BarrierClient (Unit {0}) BarrierEntry g) : Type 0 where
    pub met : HasMet p given q
    pub laid : (pass_view q).laid ≡ (pass_view p).laid ++ (pass_view given).laid
    pub held : (pass_view q).facts.has.held
        ≡ (pass_view p).facts.has.held + (pass_view given).facts.has.held
    pub ready : IsReady (pass_view q).facts

  -- the pass of a round took in the given one of that round
  pub record HasTaken (givens : List (Pass BarrierClient (Unit {0}) BarrierEntry g)) (r : ℕ)
      (p q : Pass BarrierClient (Unit {0}) BarrierEntry g) : Type 0 where
    pub given : Pass BarrierClient (Unit {0}) BarrierEntry g
    pub there : slice_get givens r ≡ Some given
    pub taken : HasTakenIn given p q

  -- a pass gave so many parties to a new one, and made no other
  pub record HasMade (gives : ℕ) (new p q : Pass BarrierClient (Unit {0}) BarrierEntry g)
      : Type 0 where
    pub gave : HasGiven gives p q
    pub came : CameWith barrier_object gives (pass_view q) (pass_view new)
    pub made_one : MadeOne (pass_view new).number (pass_view p) (pass_view q)

  -- the pass of a round gave so many parties to the new pass of that round
  pub record HasSplit (gives : ℕ) (made : List (Pass BarrierClient (Unit {0}) BarrierEntry g))
      (r : ℕ) (p q : Pass BarrierClient (Unit {0}) BarrierEntry g) : Type 0 where
    pub new : Pass BarrierClient (Unit {0}) BarrierEntry g
    pub there : slice_get made r ≡ Some new
    pub gave : HasMade gives new p q

  -- The pass of a round made a new pass and took it in again: it is ready, and holds and waits for
  -- what it did before. It has one number more, that of the pass which counts as made.
  pub record IsBack (gives : ℕ) (p q : Pass BarrierClient (Unit {0}) BarrierEntry g)
      : Type 0 where
    pub between : Pass BarrierClient (Unit {0}) BarrierEntry g
    pub new : Pass BarrierClient (Unit {0}) BarrierEntry g
    pub made : HasMade gives new p between
    pub taken : HasTakenIn new between q
    pub held : (pass_view q).facts.has.held ≡ (pass_view p).facts.has.held
    pub waits : (pass_view q).facts.waits ≡ (pass_view p).facts.waits
    pub number : (pass_view q).number ≡ (pass_view p).number
    pub counted : (pass_view q).own ≡ (pass_view p).own ++ (pass_view new).number ∷ []

  -- In this round as many passes were made as its barrier allows, and its pass only looked on. In
  -- each earlier round the pass that was made there was taken in again; the passes of the later
  -- rounds are as they were.
  pub record IsCrowded (gives : ℕ) (barriers : List Barrier)
      (ps qs : List (Pass BarrierClient (Unit {0}) BarrierEntry g)) : Type 0 where
    pub round : ℕ
    pub barrier : Barrier
    pub old : Pass BarrierClient (Unit {0}) BarrierEntry g
    pub new : Pass BarrierClient (Unit {0}) BarrierEntry g
    pub which : slice_get barriers round ≡ Some barrier
    pub was : slice_get ps round ≡ Some old
    pub now : slice_get qs round ≡ Some new
    pub full : passes_of barrier.queue ≤ made_in (pass_view new).crew
    pub looked : HasLookedOn old new
    pub made_none : MadeNone (pass_view old) (pass_view new)
    pub kept : (pass_view old).alone ≡ true → (pass_view new).alone ≡ true
    pub back : EachWithin (λ r p q. IsBack gives p q) 0 round ps qs
    pub later : (r : ℕ) → round < r → slice_get qs r ≡ slice_get ps r

  -- in each round fewer passes were made before than its barrier allows
  abbrev pub HaveRoom : List Barrier → List (Pass BarrierClient (Unit {0}) BarrierEntry g) → Type 0
  HaveRoom barriers qs =
      (r : ℕ) (b : Barrier) (q : Pass BarrierClient (Unit {0}) BarrierEntry g)
      → slice_get barriers r ≡ Some b → slice_get qs r ≡ Some q
      → made_in (pass_view q).crew < passes_of b.queue

  -- The pass of a round asked whether another one is left in that round. Where none is it has seen
  -- the whole history of the round, and all others rest.
  pub record HasAsked (p q : Pass BarrierClient (Unit {0}) BarrierEntry g) : Type 0 where
    pub looked : HasLookedOn p q
    pub made_none : MadeNone (pass_view p) (pass_view q)
    pub sole : (pass_view q).alone ≡ true ↔ live_in (pass_view q).crew ≡ 1
    pub others : (pass_view q).alone ≡ true → IsAlone primitive_of (pass_view q)
    pub kept : (pass_view p).alone ≡ true → (pass_view q).alone ≡ true

  -- a pass between two calls that has no wait and owes nothing
  pub record IsFree (p : Pass BarrierClient (Unit {0}) BarrierEntry g) : Type 0 where
    pub between : IsBetween (pass_view p).facts
    pub free : IsBusy (pass_view p).facts → ⊥
