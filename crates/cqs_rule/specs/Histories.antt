-- One history of what several passes of one queue have seen.
use Rattle.std.specs.Prelude.{◌≡◌, ℕ, true, List, ◌++◌, length, Some, slice_get}
use Rattle.cqs_rule_laws.specs.declared.client.ClientWords.{Ghosts}
use Rattle.cqs_rule_laws.specs.declared.view.View.{View}
use Rattle.cqs_rule_laws.specs.Crew.{MadeNone}
use Rattle.cqs_rule_laws.specs.Lists.{Has, IsPrefix, part}
use Rattle.cqs_rule_laws.specs.Object.{Object}
use Rattle.cqs_rule.specs.declared.queue.Pass.{Pass}
use Rattle.cqs_rule.specs.declared.queue.Queue.{Queue}
use Rattle.cqs_rule.specs.Passes.{pass_view, IsOf}
use Rattle.cqs_rule.specs.Seats.{HasLookedOn}

module _ {E S : Type 0} (object : Object E) where
  -- The history begins with all that the pass has seen. Behind that no entry names the pass, nor
  -- one that was met into it: so the history has the entries of its calls once each, in order.
  pub record StandsIn (history : List E) (v : View E S) : Type 0 where
    pub begins : IsPrefix v.seen history
    pub once : (n : ℕ) → Has n v.own → part object.names n history ≡ part object.names n v.seen

  -- The history begins with what a pass had seen at v. Behind that the entries that name it, or one
  -- that was met into it, are just its own ones, in order.
  pub record GoesOnBy (history : List E) (v : View E S) (own : List E) : Type 0 where
    pub more : List E
    pub begins : history ≡ v.seen ++ more
    pub once : (n : ℕ) → Has n v.own → part object.names n more ≡ part object.names n own

module _ {C S E : Type 0} {g : Ghosts C S E} where
  -- the passes are of one queue
  abbrev pub AreOf : Queue C S E → List (Pass C S E g) → Type 0
  AreOf q ps = (i : ℕ) (p : Pass C S E g) → slice_get ps i ≡ Some p → IsOf q p

  -- All that is seen at h is a legal history of one plain object that opened so, and the calls of
  -- all these passes stand in it.
  pub record IsHistoryOf (h : View E S) (p : Pass C S E g) (ps : List (Pass C S E g))
      : Type 0 where
    pub legal : g.object.legal h.opening h.seen
    pub first : StandsIn g.object h.seen (pass_view p)
    pub others : (i : ℕ) (o : Pass C S E g) → slice_get ps i ≡ Some o
        → StandsIn g.object h.seen (pass_view o)

  -- each of the passes has seen more, appended nothing, made no pass, and is at what it was
  pub record HaveLookedOn (ps qs : List (Pass C S E g)) : Type 0 where
    pub many : length qs ≡ length ps
    pub each : (i : ℕ) (p q : Pass C S E g) → slice_get ps i ≡ Some p → slice_get qs i ≡ Some q
        → HasLookedOn p q
    pub kept : (i : ℕ) (p q : Pass C S E g) → slice_get ps i ≡ Some p → slice_get qs i ≡ Some q
        → (pass_view p).alone ≡ true → (pass_view q).alone ≡ true
    pub made_none : (i : ℕ) (p q : Pass C S E g) → slice_get ps i ≡ Some p
        → slice_get qs i ≡ Some q → MadeNone (pass_view p) (pass_view q)
