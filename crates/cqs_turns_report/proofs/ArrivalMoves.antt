-- What an arrival at a barrier changes for the job that makes it, and what it leaves to the others.
use Rattle.std.proofs.Common.{◌≡◌, ◌≢◌, ◌⊎◌, inl, inr, ℕ, zero, suc, ◌+◌, ◌-◌, ◌<◌, ◌≤◌, nat_lt, Bool, true, false, List, [], ◌∷◌, cond, Some, length, set, get_or, slice_get, count_by, refl, sym, ap, subst, ◌∙◌, eq-eqb, lt-ltb, le-ltb, ltb-false, arith}
use Rattle.std.specs.Bool.{if◌then◌else◌}
use Rattle.std.proofs.lemmas.Bool.{cases_eq, cases_lt}
use Rattle.std.proofs.lemmas.List.Sums.{sum_by-set}
use Rattle.std.proofs.lemmas.List.{get_or-set_same, get_or-set_other, length-set}
use Rattle.cqs_plan.specs.declared.plans.step.Step.{Step}
use Rattle.cqs_plan.specs.declared.plans.step.Step.TheVariants.{Arrive}
use Rattle.cqs_plan.specs.declared.plans.kind.Kind.{Kind}
use Rattle.cqs_plan.specs.declared.floors.answers.FloorTake.TheVariants.{Now, Waits}
use Rattle.cqs_plan.specs.PlanSteps.{is_arrival}
use Rattle.cqs_plan.specs.Floor.{PlainFloor, IsJob, HasRound, own_rounds, round_of, room_at, to_come_at, size_at, history_at, stands_in, with_less_room, with_arrived}
use Rattle.cqs_plan.specs.FloorHistory.{with_deed_in, Deed, joins, completes}
use Rattle.cqs_plan.specs.FloorCalls.{after_arrive, arrive_answer, with_arrival}
use Rattle.cqs_turns_report.specs.Ready.{HasRoom}
use Rattle.cqs_turns_report.specs.Running.{count_arrived}
use Rattle.cqs_turns_report.proofs.ToCome.{CostsOne, done-history, joins-costs, completes-costs, rounds-done}
use Rattle.cqs_turns_report.proofs.Moved.{Moves, arrivals-cons, may-arrive, moves-on, moves-wait, room-falls, room-some}

-- the row of a job that arrived
abbrev row_after : PlainFloor → ℕ → ℕ → List ℕ
row_after f place at = set (own_rounds f place) at (round_of f place at + 1)

-- the rounds of the job that arrived: its own rises by one
pub arrived-own : (f : PlainFloor) (place at : ℕ) → IsJob f place
    → own_rounds (with_arrived f place at) place ≡ row_after f place at
arrived-own f place at job = get_or-set_same f.rounds place (row_after f place at) [] job.rounds

-- where there is a round there is a place
pub has-place : (kinds : List Kind) (at round : ℕ) → HasRound (slice_get kinds at) round → at < length kinds
has-place [] at round has = absurd has
has-place (k ∷ kinds) zero round has = omega arith
has-place (k ∷ kinds) (suc at) round has =
    let below : at < length kinds = has-place kinds at round has in omega (arith, below)

pub arrived-here : (f : PlainFloor) (place at : ℕ) → IsJob f place → at < length f.kinds
    → round_of (with_arrived f place at) place at ≡ round_of f place at + 1
arrived-here f place at job there =
    let inside : at < length (own_rounds f place) = omega (arith, there, job.each) in
    ap (λ row. get_or row at 0) (arrived-own f place at job)
    ∙ get_or-set_same (own_rounds f place) at (round_of f place at + 1) 0 inside

pub arrived-else : (f : PlainFloor) (place at q : ℕ) → IsJob f place → q ≢ at
    → round_of (with_arrived f place at) place q ≡ round_of f place q
arrived-else f place at q job other =
    ap (λ row. get_or row q 0) (arrived-own f place at job)
    ∙ get_or-set_other (own_rounds f place) at q (round_of f place at + 1) 0 other

-- how many rows are past a round, after one is written
pub rows-set : (rows : List (List ℕ)) (place at r : ℕ) (row : List ℕ) → place < length rows
    → count_by (λ x. nat_lt r (get_or x at 0)) (set rows place row)
    + cond (nat_lt r (get_or (get_or rows place []) at 0)) 1 0
    ≡ count_by (λ x. nat_lt r (get_or x at 0)) rows + cond (nat_lt r (get_or row at 0)) 1 0
rows-set rows place at r row there = sum_by-set (λ x. cond (nat_lt r (get_or x at 0)) 1 0) rows place row [] there

-- a job arrives, in its round: room, its round, and one of those to come
module _ (place : ℕ) (f : PlainFloor) (at : ℕ) (deed : Deed) (steps : List Step) (job : IsJob f place)
    (has : HasRound (slice_get f.kinds at) (round_of f place at)) (some : 0 < room_at f at)
    (costs : CostsOne (size_at f at) (history_at f at) (round_of f place at) deed) where
  abbrev r0 : ℕ
  r0 = round_of f place at

  abbrev less : PlainFloor
  less = with_less_room f at

  abbrev g : PlainFloor
  g = with_arrival f at place deed

  here : round_of g place at ≡ r0 + 1
  here = arrived-here f place at job (has-place f.kinds at r0 has)

  else-same : (q : ℕ) → q ≢ at → round_of g place q ≡ round_of f place q
  else-same q other = arrived-else f place at q job other

  arrival-later : (q : ℕ) → (q ≡ at) ⊎ (q ≢ at) → round_of f place q ≤ round_of g place q
  arrival-later q (inl same) = rw same (omega (arith, here))
  arrival-later q (inr other) = omega (arith, else-same q other)

  arrival-arrives : (q : ℕ) → (q ≡ at) ⊎ (q ≢ at)
      → round_of g place q + count_by (is_arrival q) steps
      ≤ round_of f place q + count_by (is_arrival q) (Arrive at ∷ steps)
  arrival-arrives q (inl same) =
      let first : cond {A = ℕ} (is_arrival at (Arrive at)) 1 0 ≡ 1 = ap (λ b. cond {A = ℕ} b 1 0) (eq-eqb at at refl) in
      let Fits : ℕ → Type 0 = λ n. round_of g place n + count_by (is_arrival n) steps
      ≤ round_of f place n + count_by (is_arrival n) (Arrive at ∷ steps) in
      subst Fits (sym same) (omega (arith, here, arrivals-cons at (Arrive at) steps, first))
  arrival-arrives q (inr other) = omega (arith, else-same q other, arrivals-cons q (Arrive at) steps)

  -- of a round that isn't the job's none is taken, and of its own one
  kept-if : (q r : ℕ)
      → (history_at g q ≡ history_at f q) ⊎
      ((q ≡ at) × (history_at g q ≡ with_deed_in (size_at f at) (history_at f at) r0 deed))
      → (q ≡ at → r ≢ r0) → to_come_at f q r ≤ to_come_at g q r
  kept-if q r (inl same) other = rw same (omega arith)
  kept-if q r (inr (own, is)) other = rw (is, own) (costs.away r (other own))

  costs-if : (r : ℕ)
      → (history_at g at ≡ history_at f at) ⊎
      ((at ≡ at) × (history_at g at ≡ with_deed_in (size_at f at) (history_at f at) r0 deed))
      → (r ≡ r0) ⊎ (r ≢ r0)
      → to_come_at f at r ≤ to_come_at g at r + cond (nat_lt r (r0 + 1)) 1 0
  costs-if r (inl same) own = rw same (omega arith)
  costs-if r (inr (own, is)) (inl same) =
      let past : cond {A = ℕ} (nat_lt r0 (r0 + 1)) 1 0 ≡ 1
      = ap (λ b. cond {A = ℕ} b 1 0) (lt-ltb r0 (r0 + 1) (omega arith)) in
      rw (same, is) (omega (arith, costs.here, past))
  costs-if r (inr (own, is)) (inr other) = rw is (omega (arith, costs.away r other))

  arrival-to_come : (q r : ℕ) → round_of g place q ≤ r → to_come_at f q r ≤ to_come_at g q r
  arrival-to_come q r low =
      kept-if q r (done-history less at r0 deed q)
      (λ own same. let low_here : round_of g place at ≤ r = rw own at low in omega (arith, low_here, here, same))

  -- one more is past its round
  counted : (q r : ℕ)
      → count_arrived g q r + cond (nat_lt r (round_of f place q)) 1 0
      ≡ count_arrived f q r + cond (nat_lt r (get_or (row_after f place at) q 0)) 1 0
  counted q r = rows-set f.rounds place q r (row_after f place at) job.rounds

  now-at : get_or (row_after f place at) at 0 ≡ r0 + 1
  now-at = get_or-set_same (own_rounds f place) at (r0 + 1) 0 (omega (arith, has-place f.kinds at r0 has, job.each))

  arrival-parties : (q r parties : ℕ) → (q ≡ at) ⊎ (q ≢ at) → parties ≤ to_come_at f q r + count_arrived f q r
      → parties ≤ to_come_at g q r + count_arrived g q r
  arrival-parties q r parties (inl same) before =
      let all : parties ≤ to_come_at f at r + count_arrived f at r = rw same at before in
      let one : to_come_at f at r ≤ to_come_at g at r + cond (nat_lt r (r0 + 1)) 1 0
      = costs-if r (done-history less at r0 deed at) (cases_eq r r0) in
      rw same (passing r all one (cases_lt r r0))
    where
      passing : (r : ℕ) → parties ≤ to_come_at f at r + count_arrived f at r
          → to_come_at f at r ≤ to_come_at g at r + cond (nat_lt r (r0 + 1)) 1 0
          → (r < r0) ⊎ (r0 ≤ r)
          → parties ≤ to_come_at g at r + count_arrived g at r
      passing r all one (inl below) =
          let other : r ≢ r0 = λ is. omega (arith, below, is) in
          let kept : to_come_at f at r ≤ to_come_at g at r
          = kept-if at r (done-history less at r0 deed at) (λ own. other) in
          let was : cond {A = ℕ} (nat_lt r r0) 1 0 ≡ 1 = ap (λ b. cond {A = ℕ} b 1 0) (lt-ltb r r0 below) in
          let is : cond {A = ℕ} (nat_lt r (get_or (row_after f place at) at 0)) 1 0 ≡ 1
          = ap (λ n. cond {A = ℕ} (nat_lt r n) 1 0) now-at
          ∙ ap (λ b. cond {A = ℕ} b 1 0) (lt-ltb r (r0 + 1) (omega (arith, below))) in
          omega (arith, all, kept, was, is, counted at r)
      passing r all one (inr past) =
          let was : cond {A = ℕ} (nat_lt r r0) 1 0 ≡ 0 = ap (λ b. cond {A = ℕ} b 1 0) (le-ltb r r0 past) in
          let is : cond {A = ℕ} (nat_lt r (get_or (row_after f place at) at 0)) 1 0
          ≡ cond {A = ℕ} (nat_lt r (r0 + 1)) 1 0
          = ap (λ n. cond {A = ℕ} (nat_lt r n) 1 0) now-at in
          omega (arith, all, one, was, is, counted at r)
  arrival-parties q r parties (inr other) before =
      let kept : to_come_at f q r ≤ to_come_at g q r
      = kept-if q r (done-history less at r0 deed q) (λ own. absurd (other own)) in
      let same : get_or (row_after f place at) q 0 ≡ round_of f place q
      = get_or-set_other (own_rounds f place) at q (r0 + 1) 0 other in
      let alike : cond {A = ℕ} (nat_lt r (get_or (row_after f place at) q 0)) 1 0
      ≡ cond {A = ℕ} (nat_lt r (round_of f place q)) 1 0
      = ap (λ n. cond {A = ℕ} (nat_lt r n) 1 0) same in
      omega (arith, before, kept, alike, counted q r)

  pub moves-arrival : Moves place f (Arrive at ∷ steps) g steps
  moves-arrival = record {
    kinds = refl;
    all_waits = refl;
    all_holds = refl;
    all_rounds = length-set f.rounds place (row_after f place at);
    waits = λ j other. refl;
    holds = λ j other. refl;
    rounds = λ j other. get_or-set_other f.rounds place j (row_after f place at) [] other;
    room = room-falls f at (Arrive at) steps some (may-arrive at);
    later = λ q. arrival-later q (cases_eq q at);
    arrives = λ q. arrival-arrives q (cases_eq q at);
    to_come = λ q r parties rounds is low. arrival-to_come q r low;
    parties = λ all. record {
      there = λ q parties rounds is. rounds-done less at r0 deed q rounds (all.there q parties rounds is);
      all = λ q r parties rounds is. arrival-parties q r parties (cases_eq q at) (all.all q r parties rounds is);
    };
  }

-- an arrival, answered as the plain floor answers it
pub on_arrive-moves : (place : ℕ) (f : PlainFloor) (at : ℕ) (made steps : List Step) → IsJob f place
    → HasRound (slice_get f.kinds at) (round_of f place at) → HasRoom f place made (Arrive at ∷ steps)
    → Moves place f (Arrive at ∷ steps) (after_arrive f at place (arrive_answer f at place)) steps
on_arrive-moves place f at made steps job has room =
    by (nat_lt 1 (to_come_at f at (round_of f place at))) refl (stands_in f at (round_of f place at)).next
  where
    some : 0 < room_at f at
    some = room-some f place at (Arrive at) made steps (may-arrive at) room

    by : (b : Bool) → nat_lt 1 (to_come_at f at (round_of f place at)) ≡ b → (number : ℕ)
        → Moves place f (Arrive at ∷ steps) (after_arrive f at place (if b then Waits number else Now 0)) steps
    by true more number =
        let arrived_there : PlainFloor = with_arrival f at place (joins number) in
        moves-on place f (Arrive at ∷ steps) arrived_there steps _ steps
        (moves-arrival place f at (joins number) steps job has some
        (joins-costs (size_at f at) (history_at f at) (round_of f place at) number))
        (moves-wait place arrived_there
        (Some (record { at = at; round = round_of f place at; number = number })) steps)
    by false last number =
        moves-arrival place f at completes steps job has some
        (completes-costs (size_at f at) (history_at f at) (round_of f place at)
        (ltb-false 1 (to_come_at f at (round_of f place at)) last))
