-- The numbers that a resumption comes to, one after the other.
use Rattle.std.specs.Prelude.{◌≡◌, ℕ, ◌+◌, ◌≤◌, Bool, true, false, List, [], ◌∷◌, ◌++◌, length, Option, Some, None, if◌then◌else◌}
use Rattle.cqs_core.specs.declared.cells.CoreState.{CoreState}
use Rattle.cqs_core.specs.declared.doings.Doing.{Doing}
use Rattle.cqs_core.specs.QueueSteps.{QueueStep, reaches, passes_over}
use Rattle.cqs_rule_laws.specs.declared.view.Facts.{Facts}
use Rattle.cqs_rule_laws.specs.declared.view.Glimpse.{Glimpse}
use Rattle.cqs_rule_laws.specs.declared.view.Sighting.{Sighting}
use Rattle.cqs_rule_laws.specs.declared.view.Spare.{Spare}
use Rattle.cqs_rule_laws.specs.declared.view.Sighting.TheVariants.{Cell, Word}
use Rattle.cqs_rule_laws.specs.Exchanges.{FoundCell}
use Rattle.cqs_rule_laws.specs.Layout.{resumes_place}
use Rattle.cqs_rule_laws.specs.Object.{Object}
use Rattle.cqs_find.specs.Finds.{longest_search}
use Rattle.cqs_resume.specs.Counting.{duties_after, looked_after}
use Rattle.cqs_resume.specs.Leaps.{Leap, leap_seen}

-- One number of a resumption: it is drawn, and then its cell is tried until a step is made there.
pub record Round : Type 0 where
  pub number : ℕ
  -- the jump that was tried before it was drawn
  pub leap : Option Leap
  -- whether the call drew it: it didn't draw the one whose ticket was open already
  pub drawn : Bool
  -- what it found on the way: by exchanges on its cell that weren't made, and the heads where its
  -- segment was looked for, or a slot for it as the pass knew of none; and what was spare then
  pub tried : List Sighting
  pub heads : List (ℕ × ℕ)
  pub far : Bool
  pub spares : List Spare
  -- the cell's word and payload, as the step that was made found them
  pub word : ℕ
  pub payload : ℕ

-- the cell in this state, as the step found it
abbrev pub cell_in : CoreState → Round → Glimpse
cell_in state r = record { number = r.number; state = state; payload = r.payload }

-- the step of the round found the cell in this state, after a search for it and at most four
-- exchanges that weren't made
pub record IsFoundIn (state : CoreState) (r : Round) : Type 0 where
  pub cell : FoundCell r.word (cell_in state r)
  pub few : length r.tried ≤ 4
  pub few_heads : r.far ≡ false → length r.heads ≤ longest_search

-- what the rounds found, in order
abbrev pub draw_seen : Bool → ℕ → List Sighting
draw_seen true k = Word resumes_place k ∷ []
draw_seen false k = []

abbrev pub round_seen : Round → List Sighting
round_seen r =
    leap_seen r.leap ++ (draw_seen r.drawn r.number ++ (r.tried ++ Cell r.number r.word ∷ []))

abbrev pub all_seen : List Round → List Sighting
all_seen [] = []
all_seen (r ∷ rs) = round_seen r ++ all_seen rs

abbrev pub all_heads : List Round → List (ℕ × ℕ)
all_heads [] = []
all_heads (r ∷ rs) = r.heads ++ all_heads rs

abbrev pub spares_after : List Round → List Spare → List Spare
spares_after [] spares = spares
spares_after (r ∷ rs) spares = spares_after rs r.spares

abbrev pub numbers : List Round → List ℕ
numbers [] = []
numbers (r ∷ rs) = r.number ∷ numbers rs

-- how many of the numbers the call drew
abbrev pub one_if : Bool → ℕ
one_if true = 1
one_if false = 0

abbrev pub drawn_in : List Round → ℕ
drawn_in [] = 0
drawn_in (r ∷ rs) = one_if r.drawn + drawn_in rs

-- the last number that was drawn
abbrev pub reached_in : List Round → ℕ → ℕ
reached_in [] reached = reached
reached_in (r ∷ rs) reached = reached_in rs (if r.drawn then r.number else reached)

abbrev pub AreDrawn : List Round → Type 0
AreDrawn [] = Unit {0}
AreDrawn (r ∷ rs) = (r.drawn ≡ true) × AreDrawn rs

-- The call drew each of the numbers, but the first where its ticket was open.
abbrev pub IsOpenedWith : Option ℕ → List Round → Type 0
IsOpenedWith None rounds = AreDrawn rounds
IsOpenedWith (Some k) [] = ⊥
IsOpenedWith (Some k) (r ∷ rs) = (r.number ≡ k) × (r.drawn ≡ false) × AreDrawn rs

-- The pass is at this after the rounds, of which the last ended by the step s at the number k. It
-- has passed over these numbers, and has all else as it had it.
abbrev pub facts_after_rounds : QueueStep → ℕ → Doing → List ℕ → List Round → Facts → Facts
facts_after_rounds s k at over rounds f = record f {
  spare_slots = spares_after rounds f.spare_slots;
  doing = at;
  last = None;
  reached = reached_in rounds f.reached;
  looked = looked_after s f.looked;
  passed = f.passed ++ over;
  duties = duties_after s k f.duties;
  heads = f.heads ++ all_heads rounds;
  found = f.found ++ all_seen rounds;
}

module _ {E : Type 0} (object : Object E) (pass payload : ℕ) where
  -- the entries of a round of this pass that ended by this step; and of those that passed over
  -- their numbers
  abbrev pub draw_entries : Bool → ℕ → List E
  draw_entries true k = object.entries reaches pass k payload
  draw_entries false k = []

  abbrev pub round_entries : QueueStep → Round → List E
  round_entries s r = draw_entries r.drawn r.number ++ object.entries s pass r.number payload

  abbrev pub over_entries : List Round → List E
  over_entries [] = []
  over_entries (r ∷ rs) = round_entries passes_over r ++ over_entries rs
