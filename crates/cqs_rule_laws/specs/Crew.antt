-- What the steps on the crew's word tell: a load of it, the exchange by which a pass is made, and
-- the step by which one that was joined away is counted out.
use Rattle.std.specs.Prelude.{◌≡◌, ◌≢◌, ◌⊎◌, ℕ, ◌<◌, ◌≤◌, ◌==◌, true, false, List, [], ◌∷◌, ◌++◌, Option}
use Rattle.atomic_table.specs.Table.{Me, Step}
use Rattle.cqs_core.specs.declared.doings.Doing.TheVariants as doing
use Rattle.cqs_slots.specs.Told.{SeesMore}
use Rattle.cqs_rule_laws.specs.declared.view.View.{View}
use Rattle.cqs_rule_laws.specs.declared.view.Facts.{Facts}
use Rattle.cqs_rule_laws.specs.declared.view.Has.{Has as OwnHas}
use Rattle.cqs_rule_laws.specs.Hidden.{Hidden}
use Rattle.cqs_rule_laws.specs.Lists.{Has, IsPrefix, part}
use Rattle.cqs_rule_laws.specs.Ruled.{Stands, Rests}
use Rattle.cqs_rule_laws.specs.Facts.{is_owing}
use Rattle.cqs_rule_laws.specs.Object.{Object, Primitive}
use Rattle.cqs_rule_laws.specs.Saw.{Saw, IsLive}
use Rattle.cqs_rule_laws.specs.Views.{made_in, live_in, crew_turn, first_facts, first_has, facts_lessened, as_before}

-- A pass between two calls is idle, or owes something: it isn't in the middle of a call that owes
-- nothing.
abbrev pub IsBetween : Facts → Type 0
IsBetween f = (f.doing ≡ doing.Idle) ⊎ (is_owing f.doing ≡ true)

-- The pass of this view is alone: what the client shows goes with all that it has seen, the pass
-- stands there at its facts, and every other number is in the middle of nothing, holds nothing, has
-- nothing in hand and owes nothing.
pub record IsSole {C E S : Type 0} (primitive : C → Primitive E S) (v : View E S) : Type 0 where
  pub client : C
  pub opening_is : (primitive client).opening ≡ v.opening
  pub hidden : Hidden
  pub words : List ℕ
  pub shown : (primitive client).shows hidden words v.seen v.handed
  pub stands : Stands hidden v.number v.facts
  pub others : (n : ℕ) → n ≢ v.number → n < v.passes → Rests hidden n

-- a pass that has this may open no value slot
abbrev pub OpensNone : (OwnHas → ℕ → Type 0) → OwnHas → Type 0
OpensNone opens has = (k : ℕ) → opens has k → ⊥

-- A pass may give so much of what it holds: no more than that; and where it gives any, it is
-- between two calls and may open no value slot.
pub record MayGive (opens : OwnHas → ℕ → Type 0) (gives : ℕ) (f : Facts) : Type 0 where
  pub enough : gives ≤ f.has.held
  pub idle : 0 < gives → f.doing ≡ doing.Idle
  pub shut : 0 < gives → OpensNone opens f.has

-- The view counts for two: its pass, and the one that it made when it found n at the crew's word,
-- which got so much of what it held.
pub record IsDoubled {E S : Type 0} (gives n : ℕ) (w : View E S) : Type 0 where
  pub weight : w.weight ≡ 2
  pub number : w.second_number ≡ made_in n
  pub facts : w.second ≡ first_facts gives
  pub own : w.others ≡ made_in n ∷ []
  pub seen : w.other ≡ w.seen
  pub handed : w.other_handed ≡ w.handed
  pub more : w.alone ≡ false

module _ {E S : Type 0} where
  -- the pass has made no other one since
  abbrev pub MadeNone : View E S → View E S → Type 0
  MadeNone v w = w.made ≡ v.made

  -- it has made the one of this number since, and no more
  abbrev pub MadeOne : ℕ → View E S → View E S → Type 0
  MadeOne n v w = w.made ≡ v.made ++ n ∷ []

module _ {E : Type 0} (object : Object E) where
  module _ {S : Type 0} where
    -- a load of the crew's word found n
    pub record Counted (v : View E S) (n : ℕ) (w : View E S) : Type 0 where
      pub crew : w.crew ≡ n
      pub weight : w.weight ≡ 1
      pub alone : w.alone ≡ (live_in n == 1)
      pub kept : v.alone ≡ true → w.alone ≡ true
      pub made_none : MadeNone v w
      pub saw : Saw object v v.facts [] (as_before v w)

    -- the pass has only seen more
    pub record Missed (v w : View E S) : Type 0 where
      pub weight : w.weight ≡ 1
      pub alone : w.alone ≡ v.alone
      pub made_none : MadeNone v w
      pub saw : Saw object v v.facts [] (as_before v w)

    -- The exchange by which a pass is made that gets so much, where `first` stands at the crew's
    -- word, found n. Where it was not made, the turn of the crew has risen.
    pub record Tried (gives first : ℕ) (v : View E S) (n : ℕ) (w : View E S) : Type 0 where
      pub crew : w.crew ≡ n
      pub missed : n ≢ first → Missed v w
      pub later : n ≢ first → v.crew ≡ first → crew_turn first < crew_turn n
      pub made : n ≡ first → IsDoubled gives n w
      pub made_one : n ≡ first → MadeOne (made_in n) v w
      pub saw : n ≡ first → Saw object v (facts_lessened gives v.facts) [] (as_before v w)
      pub unnamed : n ≡ first → part object.names (made_in n) w.seen ≡ []
      pub known : n ≡ first → object.knows w.opening (first_has gives)

    -- The view v has taken in what another pass, with these numbers, had seen, and stands at these
    -- facts now. The entries of each number are those that the pass which had it had seen.
    pub record Met (v : View E S) (facts : Facts) (seen : List E) (handed : List (ℕ × S))
        (own : List ℕ) (w : View E S) : Type 0 where
      pub number : w.number ≡ v.number
      pub weight : w.weight ≡ 1
      pub made_none : MadeNone v w
      pub facts_are : w.facts ≡ facts
      pub own_is : w.own ≡ v.own ++ own
      pub prefix : IsPrefix v.seen w.seen
      pub prefix_other : IsPrefix seen w.seen
      pub handed_in : IsPrefix v.handed w.handed
      pub handed_in_other : IsPrefix handed w.handed
      pub mine : (n : ℕ) → Has n v.own → part object.names n w.seen ≡ part object.names n v.seen
      pub theirs : (n : ℕ) → Has n own → part object.names n w.seen ≡ part object.names n seen
      pub limit : w.limit ≡ v.limit
      pub cells : w.cells ≡ v.cells
      pub slots : w.slots ≡ v.slots
      pub passes : w.passes ≡ v.passes
      pub opening : w.opening ≡ v.opening
      pub segments : SeesMore v.segments w.segments

    abbrev pub counted_by : (View E S → Type 0) → Step (Option S) → Me (Option S) (View E S) → ℕ
        → Me (Option S) (View E S) → Type 0
    counted_by told st me n me' = Counted me.0 n me'.0 × (me'.1 ≡ me.1) × IsLive object me'.0
        × (me'.0.alone ≡ true → told me'.0)

    -- a load of the crew's word by a pass that has a note of what another had seen
    abbrev pub counted_after : (View E S → Type 0) → Step (Option S) → Me (Option S) (View E S) → ℕ
        → Me (Option S) (View E S) → Type 0
    counted_after told st me n me' = counted_by told st me n me' × IsPrefix me.0.other me'.0.seen

    abbrev pub tried_by : ℕ → Step (Option S) → Me (Option S) (View E S) → ℕ
        → Me (Option S) (View E S)
        → Type 0
    tried_by gives st me n me' =
        Tried gives st.first me.0 n me'.0 × (me'.1 ≡ me.1) × IsLive object me'.0

    abbrev pub met_by : Step (Option S) → Me (Option S) (View E S) → ℕ → Me (Option S) (View E S)
        → Type 0
    met_by st me n me' =
        Met me.0 me.0.facts me.0.other me.0.other_handed me.0.others me'.0 × (me'.0.crew ≡ n)
        × (me'.1 ≡ me.1)
        × IsLive object me'.0 × (me'.0.laid ≡ me.0.laid)

module _ {E S : Type 0} (object : Object E) where
  -- the new pass: it has seen what this one has seen, holds so much, has made none, has a number
  -- of its own, and no entry names it
  pub record CameWith (gives : ℕ) (v w : View E S) : Type 0 where
    pub number : w.number ≡ made_in v.crew
    pub own : w.own ≡ w.number ∷ []
    pub facts : w.facts ≡ first_facts gives
    pub seen : w.seen ≡ v.seen
    pub handed : w.handed ≡ v.handed
    pub bare : w.laid ≡ []
    pub childless : w.made ≡ []
    pub unnamed : part object.names w.number w.seen ≡ []
    pub passes : w.passes ≡ v.passes
    pub opening : w.opening ≡ v.opening

  -- it holds nothing
  abbrev pub Came : View E S → View E S → Type 0
  Came v w = CameWith 0 v w
