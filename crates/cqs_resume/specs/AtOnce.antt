-- What a resumption answers where waits leave at once: it ends at its first number, by the state of
-- that cell.
use Rattle.std.specs.Prelude.{◌≡◌, ◌⊎◌, ℕ, List, [], Option, Some, None}
use Rattle.cqs_core.specs.declared.cells.CoreState.{CoreState}
use Rattle.cqs_core.specs.declared.cells.CoreState.TheVariants as state
use Rattle.cqs_core.specs.declared.doings.Doing.TheVariants as doing
use Rattle.cqs_core.specs.QueueSteps.{QueueStep, begins, reaches, serves, leaves, ends_missed}
use Rattle.cqs_rule_laws.specs.declared.client.ClientWords.{Ghosts}
use Rattle.cqs_rule.specs.declared.queue.Pass.{Pass}
use Rattle.cqs_rule_laws.specs.declared.view.Opening.{Opening}
use Rattle.cqs_rule_laws.specs.declared.view.View.{View}
use Rattle.cqs_rule_laws.specs.Counts.{Drew}
use Rattle.cqs_rule_laws.specs.Hidden.{Hidden, state_at}
use Rattle.cqs_rule_laws.specs.Object.{Object, Primitive}
use Rattle.cqs_rule.specs.Passes.{pass_view}
use Rattle.cqs_resume.specs.declared.at_once.EndedAtOnce.{EndedAtOnce}
use Rattle.cqs_resume.specs.declared.at_once.EndedAtOnce.TheVariants.{Served, Left, Missed, Under}
use Rattle.cqs_rule.specs.declared.queue.tokens.Under as token
use Rattle.cqs_resume.specs.Meets.{HeldBack, Met}

-- nobody is in the middle of leaving the cell, and none was refused to leave it
abbrev pub IsPlain : CoreState → Type 0
IsPlain state.Empty = Unit {0}
IsPlain state.Waiter = Unit {0}
IsPlain state.Value = Unit {0}
IsPlain state.Taken = Unit {0}
IsPlain state.Broken = Unit {0}
IsPlain state.Resumed = Unit {0}
IsPlain state.Cancelled = Unit {0}
IsPlain state.Cancelling = ⊥
IsPlain state.Delegated = ⊥
IsPlain state.Refused = ⊥

module _ {C E S : Type 0} (primitive : C → Primitive E S) where
  -- what is shown by a client that opened so has such cells alone
  pub record ShowsPlain (opening : Opening) : Type 0 where
    pub each : (x : C) (c : Hidden) (words : List ℕ) (log : List E) (handed : List (ℕ × S))
        → (primitive x).opening ≡ opening → (primitive x).shows c words log handed
        → (k : ℕ) → IsPlain (state_at c.queue k)

module _ {C E S : Type 0} (object : Object E) (primitive : C → Primitive E S) where
  -- the resumption ended at the cell of the number k, by the state that it was found in
  abbrev pub MeetsAtOnce : ℕ → ℕ → View E S → EndedAtOnce → View E S → Type 0
  MeetsAtOnce payload k v (Served n) w =
      (n ≡ k) × Met object primitive serves state.Waiter doing.Idle [] payload k v w
  MeetsAtOnce payload k v (Left n) w =
      (n ≡ k) × Met object primitive leaves state.Empty doing.Idle [] payload k v w
  MeetsAtOnce payload k v (Missed n) w =
      (n ≡ k) × Met object primitive ends_missed state.Cancelled doing.Idle [] payload k v w
  MeetsAtOnce payload k v (Under under) w = ⊥

  -- Or its segment isn't made, and there was no slot for it: the resumption is handed back. That
  -- never comes in an ample table.
  pub record HeldAtOnce (payload k : ℕ) (v : View E S) (ended : EndedAtOnce) (w : View E S) : Type 0
    where
      pub under : token.Under
      pub is : ended ≡ Under under
      pub held : HeldBack object primitive payload k v under w

  abbrev pub MeetsOrHolds : ℕ → ℕ → View E S → EndedAtOnce → View E S → Type 0
  MeetsOrHolds payload k v ended w =
      MeetsAtOnce payload k v ended w ⊎ HeldAtOnce payload k v ended w

  -- The pass drew the number by this step; then it was at this, and the number was met so.
  pub record DrewAndMet (drawing : QueueStep)
      (Meets : ℕ → ℕ → View E S → EndedAtOnce → View E S → Type 0) (payload : ℕ) (v : View E S)
      (ended : EndedAtOnce) (w : View E S)
      : Type 0 where
    pub number : ℕ
    pub from : View E S
    pub drew : Drew object drawing v number from
    pub meets : Meets payload number from ended w

  abbrev pub BegunAtOnce : ℕ → View E S → EndedAtOnce → View E S → Type 0
  BegunAtOnce payload v ended w = DrewAndMet begins MeetsAtOnce payload v ended w

  -- The same of one that the pass owes, with no open ticket.
  abbrev pub ReachedAtOnce : ℕ → View E S → EndedAtOnce → View E S → Type 0
  ReachedAtOnce payload v ended w = DrewAndMet reaches MeetsAtOnce payload v ended w

  abbrev pub FinishedAtOnce : Option ℕ → ℕ → View E S → EndedAtOnce → View E S → Type 0
  FinishedAtOnce (Some k) payload v ended w = MeetsAtOnce payload k v ended w
  FinishedAtOnce None payload v ended w = ReachedAtOnce payload v ended w

  -- in any table
  abbrev pub FinishedOrHeld : Option ℕ → ℕ → View E S → EndedAtOnce → View E S → Type 0
  FinishedOrHeld (Some k) payload v ended w = MeetsOrHolds payload k v ended w
  FinishedOrHeld None payload v ended w = DrewAndMet reaches MeetsOrHolds payload v ended w

module _ {C S E : Type 0} {g : Ghosts C S E} where
  abbrev pub HasMetAtOnce : ℕ → ℕ → Pass C S E g → EndedAtOnce → Pass C S E g → Type 0
  HasMetAtOnce payload k p ended p' =
      MeetsOrHolds g.object g.primitive payload k (pass_view p) ended (pass_view p')

  abbrev pub HasBegunAtOnce : ℕ → Pass C S E g → EndedAtOnce → Pass C S E g → Type 0
  HasBegunAtOnce payload p ended p' =
      BegunAtOnce g.object g.primitive payload (pass_view p) ended (pass_view p')

  -- in any table
  abbrev pub HasBegunOrHeld : ℕ → Pass C S E g → EndedAtOnce → Pass C S E g → Type 0
  HasBegunOrHeld payload p ended p' =
      DrewAndMet g.object g.primitive begins (MeetsOrHolds g.object g.primitive) payload
      (pass_view p) ended (pass_view p')

  abbrev pub HasFinishedOrHeld : Option ℕ → ℕ → Pass C S E g → EndedAtOnce → Pass C S E g → Type 0
  HasFinishedOrHeld ticket payload p ended p' =
      FinishedOrHeld g.object g.primitive ticket payload (pass_view p) ended (pass_view p')

  abbrev pub HasFinishedAtOnce : Option ℕ → ℕ → Pass C S E g → EndedAtOnce → Pass C S E g → Type 0
  HasFinishedAtOnce ticket payload p ended p' =
      FinishedAtOnce g.object g.primitive ticket payload (pass_view p) ended (pass_view p')
