-- What a resume answers: exactly the state in which its last cell was found.
use Rattle.std.specs.Prelude.{◌≡◌, ◌⊎◌, ℕ, ◌/◌, ◌<◌, ◌≤◌, Bool, List, [], ◌∷◌, ◌++◌, length, Option, Some, None}
use Rattle.cqs_core.specs.declared.cells.CoreState.{CoreState}
use Rattle.cqs_core.specs.declared.cells.CoreState.TheVariants as state
use Rattle.cqs_core.specs.declared.doings.Doing.{Doing}
use Rattle.cqs_core.specs.declared.doings.Doing.TheVariants as doing
use Rattle.cqs_core.specs.QueueSteps.{QueueStep, serves, leaves, delegates, passes_over, ends_refused}
use Rattle.cqs_rule_laws.specs.declared.client.ClientWords.{Ghosts}
use Rattle.cqs_rule.specs.declared.queue.Pass.{Pass}
use Rattle.cqs_rule.specs.declared.queue.tokens.Under as token
use Rattle.cqs_rule_laws.specs.declared.view.View.{View}
use Rattle.cqs_rule_laws.specs.Ample.{IsAmple}
use Rattle.cqs_rule_laws.specs.Called.{Called}
use Rattle.cqs_rule_laws.specs.Exchanges.{HasCell}
use Rattle.cqs_rule_laws.specs.Facts.{IsBehind}
use Rattle.cqs_rule_laws.specs.Object.{Object, Primitive}
use Rattle.cqs_rule.specs.Owed.{HasUnder, under_payload, under_ticket, under_reached}
use Rattle.cqs_rule.specs.Passes.{pass_view}
use Rattle.cqs_rule_laws.specs.Saw.{WasFound, WasSo}
use Rattle.cqs_resume.specs.declared.resumed.Resumed.{Resumed}
use Rattle.cqs_resume.specs.declared.resumed.Resumed.TheVariants.{Served, Left, Refused, Under}
use Rattle.cqs_find.specs.Finds.{FoundTaken}
use Rattle.cqs_rule.specs.Counting.{counted_after}
use Rattle.cqs_resume.specs.Counting.{settles_at}
use Rattle.cqs_resume.specs.Leaps.{IsLeapt, Leap, leap_seen}
use Rattle.cqs_resume.specs.Rounds.{Round, all_seen, cell_in, draw_seen, IsFoundIn, IsOpenedWith, numbers, drawn_in, facts_after_rounds, round_entries, draw_entries, over_entries}

-- how many numbers one call passes over before it hands the resumption back
abbrev pub most_passed_over : ℕ
most_passed_over = 64

-- and how many more where the first of them was drawn before
abbrev pub most_after_first : ℕ
most_after_first = 63

module _ {C E S : Type 0} (primitive : C → Primitive E S) where
  -- the cell of the round was found Cancelled, by its word and in what the history showed
  pub record IsOver (w : View E S) (r : Round) : Type 0 where
    pub found : IsFoundIn state.Cancelled r
    pub was : WasSo primitive (HasCell (cell_in state.Cancelled r)) w

  -- each jump that was tried
  abbrev pub AreLeapt : View E S → List Round → Type 0
  AreLeapt w [] = Unit {0}
  AreLeapt w (r ∷ rs) = IsLeapt primitive w r.leap × AreLeapt w rs

  abbrev pub AreOver : View E S → List Round → Type 0
  AreOver w [] = Unit {0}
  AreOver w (r ∷ rs) = IsOver w r × AreOver w rs

module _ {C E S : Type 0} (object : Object E) (primitive : C → Primitive E S) where
  -- The resume came to the number k and made this step on its cell, which it found in this state.
  -- It passed over the numbers before, fewer than `most` of which it drew. If the step settled the
  -- cell, that is counted, and by that at most one head was found. The pass is at this then, and
  -- holds and waits for what it did before. The last number that it drew comes after those that it
  -- drew earlier, or is the last of them.
  pub record CameTo (at : Doing) (s : QueueStep) (state : CoreState) (most : ℕ)
      (ticket : Option ℕ)
      (payload k : ℕ)
      (v w : View E S) : Type 0 where
    pub over : List Round
    pub last : Round
    pub number : last.number ≡ k
    pub opens : IsOpenedWith ticket (over ++ last ∷ [])
    pub few : drawn_in over < most
    pub are_over : AreOver primitive w over
    pub are_leapt : AreLeapt primitive w (over ++ last ∷ [])
    pub found : IsFoundIn state last
    pub was : WasFound primitive (HasCell (cell_in state last))
        (object.entries s v.number k payload) w
    pub called : Called object v
        (over_entries object v.number payload over ++ round_entries object v.number payload s
        last)
        (object.entries s v.number k payload) w
    pub counted : List (ℕ × ℕ)
    pub few_counted : length counted ≤ 1
    pub facts_are : w.facts ≡ counted_after (settles_at s) counted
        (facts_after_rounds s k at (numbers over) (over ++ last ∷ []) v.facts)
    pub reached : v.facts.reached ≤ w.facts.reached

  -- The resume ended there: the pass is idle.
  abbrev pub Ended : QueueStep → CoreState → ℕ → Option ℕ → ℕ → ℕ → View E S → View E S → Type 0
  Ended s state most ticket payload k v w = CameTo doing.Idle s state most ticket payload k v w

  -- It drew `most` numbers and passed over each of them. The pass still owes the resumption, and
  -- the last of the numbers comes after those that it drew before.
  pub record Stopped (most : ℕ) (ticket : Option ℕ) (payload : ℕ) (under : token.Under)
      (v w : View E S) : Type 0 where
    pub over : List Round
    pub opens : IsOpenedWith ticket over
    pub all : drawn_in over ≡ most
    pub are_over : AreOver primitive w over
    pub are_leapt : AreLeapt primitive w over
    pub called : Called object v (over_entries object v.number payload over)
        (object.entries passes_over v.number (under_reached under) payload) w
    pub facts_are : w.facts
        ≡ facts_after_rounds passes_over (under_reached under) doing.Owes (numbers over) over
        v.facts
    pub payload_is : under_payload under ≡ payload
    pub ticket_is : under_ticket under ≡ None
    pub has : HasUnder w.facts under
    pub behind : IsBehind (under_reached under) v.facts
    pub further : 1 < most → v.facts.reached < under_reached under

  -- It came to a number whose segment isn't made, and there was no slot for it: the pass knew of no
  -- such segment before, it has no slot spare, and after its other steps each slot was seen not
  -- free. Before, it passed over these numbers, of which it drew fewer than `most`; it drew this
  -- one too, or its ticket was open. The pass keeps the ticket, and has what it had. The table
  -- isn't ample.
  pub record Held (most payload : ℕ) (v : View E S) (result : Resumed) (w : View E S) : Type 0 where
    pub under : token.Under
    pub is : result ≡ Under under
    pub over : List Round
    pub few : drawn_in over < most
    pub are_over : AreOver primitive w over
    pub are_leapt : AreLeapt primitive w over
    pub leap : Option Leap
    pub leapt : IsLeapt primitive w leap
    pub number : ℕ
    pub drawn : Bool
    pub far : length v.segments.homes ≤ number / 32
    pub called : Called object v (over_entries object v.number payload over
        ++ draw_entries object v.number payload drawn number) [] w
    pub found : w.facts.found
        ≡ v.facts.found ++ (all_seen over ++ (leap_seen leap ++ draw_seen drawn number))
    pub spareless : w.facts.spare_slots ≡ []
    pub before : List (ℕ × ℕ)
    pub heads : List (ℕ × ℕ)
    pub heads_are : w.facts.heads ≡ v.facts.heads ++ (before ++ heads)
    pub taken : (x : ℕ) → x < v.slots → FoundTaken x heads
    pub scarce : IsAmple v → ⊥
    pub payload_is : under_payload under ≡ payload
    pub ticket_is : under_ticket under ≡ Some number
    pub has : HasUnder w.facts under
    pub keeps : w.facts.has ≡ v.facts.has
    pub waits_are : w.facts.waits ≡ v.facts.waits
    pub reached : v.facts.reached ≤ under_reached under

  -- In an ample table a resume ends, or is handed back once it has passed over as many numbers.
  abbrev pub Resumes : ℕ → Option ℕ → ℕ → View E S → Resumed → View E S → Type 0
  Resumes most ticket payload v (Served k) w = Ended serves state.Waiter most ticket payload k v w
  Resumes most ticket payload v (Left k) w =
      Ended leaves state.Empty most ticket payload k v w
      ⊎ Ended delegates state.Cancelling most ticket payload k v w
  Resumes most ticket payload v (Refused k) w =
      Ended ends_refused state.Refused most ticket payload k v w
  Resumes most ticket payload v (Under under) w = Stopped most ticket payload under v w

  -- In any table it may be handed back for want of a slot too.
  abbrev pub GoesOn : ℕ → Option ℕ → ℕ → View E S → Resumed → View E S → Type 0
  GoesOn most ticket payload v result w =
      Resumes most ticket payload v result w ⊎ Held most payload v result w

module _ {C S E : Type 0} {g : Ghosts C S E} where
  -- a resumption of this payload went on, by at most so many numbers that it passed over, from an
  -- open ticket or none
  abbrev pub HasResumed : ℕ → Option ℕ → ℕ → Pass C S E g → Resumed → Pass C S E g → Type 0
  HasResumed most ticket payload p result p' =
      Resumes g.object g.primitive most ticket payload (pass_view p) result (pass_view p')

  abbrev pub HasGoneOn : ℕ → Option ℕ → ℕ → Pass C S E g → Resumed → Pass C S E g → Type 0
  HasGoneOn most ticket payload p result p' =
      GoesOn g.object g.primitive most ticket payload (pass_view p) result (pass_view p')

-- where the resumption was handed back, the last number that was drawn for it is greater than this
abbrev pub IsFurther : ℕ → Resumed → Type 0
IsFurther reached (Served k) = Unit {0}
IsFurther reached (Left k) = Unit {0}
IsFurther reached (Refused k) = Unit {0}
IsFurther reached (Under under) = reached < under_reached under
