-- What a step that keeps the rule tells its pass.
use Rattle.std.proofs.Common.{◌≡◌, ℕ, ◌<◌, Bool, List, ◌++◌, arith, Option, Some, slice_get}
use Rattle.std.specs.Prelude.{slice_set}
use mathlib.Core.Option.{some}
use lib.ListN.{get_elem?}
use Rattle.atomic_table.specs.Table.{State, Me, keeps, stepped}
use Rattle.cqs_core.specs.declared.doings.Doing.{Doing}
use Rattle.cqs_core.specs.declared.doings.Doing.TheVariants as doing
use Rattle.cqs_core.specs.QueueEither.{IsSoundEither}
use Rattle.cqs_core.proofs.EitherCells.{drawn-below, leaving-below, decided-below, ticket-reached, watched-below}
use Rattle.cqs_rule_laws.specs.declared.view.View.{View}
use Rattle.cqs_rule_laws.specs.declared.view.Facts.{Facts}
use Rattle.cqs_rule_laws.specs.Hidden.{Hidden}
use Rattle.cqs_rule_laws.specs.Object.{Object, Primitive}
use Rattle.cqs_rule_laws.specs.Layout.{client_words}
use Rattle.cqs_rule_laws.specs.Views.{grown}
use Rattle.cqs_rule_laws.specs.Ruled.{Ruled, RuledAhead, HasRoom, number_at, cell_count}
use Rattle.cqs_rule_laws.specs.Client.{IsClient}
use Rattle.cqs_rule_laws.specs.Saw.{Saw, IsLive}
use Rattle.cqs_rule_laws.proofs.Advance.{Turned, advance, saw, live}
use Rattle.cqs_rule_laws.proofs.Lines.{waits-short}
use Rattle.cqs_rule_laws.proofs.Lists.{set_there}

-- the number at which a pass works is that of a cell
pub inside-of : {sync : Bool} (passes limit values : ℕ) (c : Hidden) (p : ℕ) (d : Doing)
    → HasRoom passes limit values c
    → IsSoundEither sync c.queue
    → slice_get c.queue.doing p ≡ Some d → number_at d < cell_count passes limit values
inside-of {sync} passes limit values c p d room sound is = by-doing d is
  where
    some-cell : 0 < cell_count passes limit values
    some-cell = let g = room.ground in omega arith

    drawn-low : (k : ℕ) → k < c.queue.suspends → k < cell_count passes limit values
    drawn-low k low = let g = room.ground in omega arith

    reached-low : (k : ℕ) → k < c.queue.resumes → k < cell_count passes limit values
    reached-low k low = let h = room.resumes in omega arith

    by-doing : (x : Doing) → slice_get c.queue.doing p ≡ Some x → number_at x < cell_count passes limit values
    by-doing (doing.Drawn k) does = drawn-low k (drawn-below sync c.queue sound p k does)
    by-doing (doing.Leaving k) does = drawn-low k (leaving-below sync c.queue sound p k does)
    by-doing (doing.Watching k) does = reached-low k (watched-below sync c.queue sound p k does)
    by-doing (doing.Decided k on) does = drawn-low k (decided-below sync c.queue sound p k on does)
    by-doing (doing.Ticket k) does = reached-low k (ticket-reached sync c.queue sound p k does)
    by-doing doing.Idle own = some-cell
    by-doing (doing.TryAt v) own = some-cell
    by-doing doing.Door own = some-cell
    by-doing doing.Owes own = some-cell

-- no counter is near a number that none draws
pub suspends-low : (passes limit values : ℕ) (c : Hidden) → HasRoom passes limit values c
    → c.queue.suspends < 68719476768
suspends-low passes limit values c room =
    let g = room.ground in let l = room.low_limit in let p = room.few_passes in omega arith

pub resumes-low : (passes limit values : ℕ) (c : Hidden) → HasRoom passes limit values c
    → c.queue.resumes < 68719480865
resumes-low passes limit values c room =
    let r = room.resumes in let l = room.low_limit in let p = room.few_passes in let v = room.few_values in omega arith

module _ {E S : Type 0} (object : Object E) (primitive : Primitive E S) (passes limit : ℕ)
    (client : IsClient object primitive) where
  abbrev pub R : State (Option S) (View E S) → Type 0
  R = Ruled object primitive passes limit

  -- the rule after a step, and what the step tells
  abbrev pub Steps : State (Option S) (View E S) → ℕ → Me (Option S) (View E S) → ℕ → ℕ → List E → Facts → View E S
      → Type 0
  Steps s id me i x es facts w = R (stepped s i x id me.1 w keeps) × Saw object me.0 facts es w × IsLive object w

  pub steps : {ahead : ℕ → ℕ} (s : State (Option S) (View E S))
      (r : RuledAhead object primitive passes limit ahead s) (id : ℕ) (me : Me (Option S) (View E S)) (i x : ℕ)
      (d : Hidden) (es : List E) (facts : Facts)
      → get_elem? s.views id ≡ some me.0 → me.0.weight ≡ 1
      → Turned object primitive passes limit s r me.0 i x d es facts
      → Steps s id me i x es facts (grown me.0 facts (r.log ++ es) r.handed)
  steps s r id me i x d es facts here one t =
      let k = r.each_view id me.0 here (omega arith) in
      let words = client_words (slice_set s.words i x) in
      let log = r.log ++ es in
      let w = grown me.0 facts log r.handed in
      let after : R (stepped s i x id me.1 w keeps) =
      advance object primitive passes limit s r id me.1 me.0 i x d es facts me.0.crew me.0.alone me.0.drawn here one
      k.crew (λ a. (k.alone a).0) (λ a. let was = (k.alone a).4 in let more = t.draws in omega arith) t in (
        after,
        saw object primitive passes limit s r id me.0 es facts here one,
        live object primitive passes limit s r id me.0 es facts here (omega arith)
            (client.legal_shown d words log r.handed t.shown) t.silent
            (client.held_fits d words log r.handed me.0.number facts.has t.shown t.self.has)
            (client.slots.few d words log r.handed me.0.number facts.has t.shown t.self.has)
            (client.slots.known d words log r.handed me.0.number facts.has t.shown t.self.has)
            (inside-of passes limit primitive.values d me.0.number facts.doing t.room
            (client.sound d words log r.handed t.shown) t.self.doing)
            (λ n h. let drawn = (t.self.waits n h).drawn in let g = t.room.ground in omega arith)
            t.self.once
            (waits-short object primitive passes limit (stepped s i x id me.1 w keeps) after id w
            (set_there s.views id me.0 w here) (omega arith))
            t.payload_fits,
      )
