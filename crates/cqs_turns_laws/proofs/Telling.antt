-- The report is the text of lines that keep the laws: every event adds one.
use Rattle.std.proofs.Common.{◌≡◌, ◌≢◌, ◌⊎◌, inl, inr, ℕ, zero, suc, ◌+◌, ◌<◌, ◌≤◌, ◌==◌, ◌&&◌, List, [], ◌∷◌, ◌++◌, Bool, true, false, Option, Some, None, length, map, replicate, set, get_or, take, slice_get, refl, sym, ap, subst, ◌∙◌, eq-eqb, ne_eqb, arith}
use Rattle.std.specs.Bool.{if◌then◌else◌}
use Rattle.std.specs.Option.{option_map_or}
use Rattle.std.proofs.lemmas.Bool.{cases_eq, cases_lt}
use Rattle.std.proofs.lemmas.List.{get_or-set_same, get_or-set_other, get_or_past, length-map, length-replicate}
use Rattle.cqs_core.specs.QueueLine.{Waiting}
use Rattle.cqs_core.proofs.Counts.{bit}
use Rattle.cqs_plan.specs.declared.plans.kind.Kind.{Kind}
use Rattle.cqs_plan.specs.declared.plans.kind.Kind.TheVariants as kind
use Rattle.cqs_plan.specs.declared.plans.plan.Plan.{Plan}
use Rattle.cqs_plan.specs.declared.plans.resource.Resource.{Resource}
use Rattle.cqs_plan.specs.declared.floors.answers.FloorTake.TheVariants.{Now, Waits}
use Rattle.cqs_plan.specs.declared.floors.answers.FloorGive.TheVariants.{Free, Sent}
use Rattle.cqs_plan.specs.declared.floors.answers.FloorDown.{FloorDown}
use Rattle.cqs_plan.specs.declared.floors.answers.FloorDown.TheVariants.{Left, Last, Already}
use Rattle.cqs_plan.specs.declared.floors.answers.FloorLook.TheVariants.{Pending, Granted}
use Rattle.cqs_plan.specs.declared.floors.answers.FloorLeave.TheVariants as leave
use Rattle.cqs_plan.specs.FloorHistory.{History, of_permits, of_rounds, Deed, Standing, takes, joins, frees, sends, gets, leaves, is_late, passes, counts, opens, is_open, completes, no_history, standing_in}
use Rattle.cqs_plan.specs.Floor.{PlainFloor, JobWait, Holding, IsHoldable, IsLatch, HasRound, came_to, first_free_at, history_at, holds_of, is_holdable, oldest, opening_floor, round_of, size_at, standing_at, stands_in, wait_of, with_done_in, with_newest, with_wait}
use Rattle.cqs_plan.specs.FloorCalls.{is_in_line, give_of, after_look, with_granted, with_left, down_answer, look_answer, leave_answer}
use Rattle.cqs_turns_report.specs.declared.lines.Told.{Told}
use Rattle.cqs_turns_report.specs.declared.lines.Told.TheVariants as told
use Rattle.cqs_turns_report.specs.Lines.{is_pool, is_pool_at, line_text}
use Rattle.cqs_turns_report.specs.Roles.{wait_at}
use Rattle.cqs_turns_report.specs.Turns.{Role, Scene, event, take_told, give_told, leave_told, down_told, wait_told, arrive_told, on_take, on_give_answer, on_down_answer, on_wait, on_arrive, on_leave, on_retry, opening_machine}
use Rattle.cqs_turns_laws.specs.Events.{Line, name_of, lines_text, draws_at, drawn_at, WasSent, MayTell}
use Rattle.cqs_turns_laws.proofs.DeedParts.{HasPart, IsOfKind, held-part, is_of_pool, latch-part, round-part}
use Rattle.cqs_turns_laws.proofs.Deeds.{HasSeats, IsElse, JoinsNext, came-sent, draws, line-joins, next-after, standing-away}
use Rattle.cqs_turns_laws.proofs.Lifting.{IsActor, HasWait, IsToldByEvents, line_of}
use Rattle.cqs_turns_laws.proofs.Lines.{in_line}
use Rattle.cqs_turns_laws.proofs.Objects.{holdable-below, latch-below, round-below, standing-here, standing-else}
use Rattle.cqs_turns_laws.proofs.LineLemmas.{text-push, drawn-push, sent-longer, may-push}
use Rattle.cqs_turns_laws.proofs.Lined.{Expects, AreLined, Goes, calm-on, changed_floor, expects-on, kinds-on, next-on, part-before, part-on, seated-on, sized-on, sorts-on, wait-gone}

-- the report so far, as lines
pub record IsTelling (plan : Plan) (s : Scene) (lines : List Line) : Type 0 where
  pub text : s.text ≡ lines_text plan lines
  pub numbered : (at round : ℕ) → HasPart (history_at s.floor at) round
      → (stands_in s.floor at round).next ≡ drawn_at plan.resources at round lines
  pub tell : (n : ℕ) (line : Line) → slice_get lines n ≡ Some line
      → MayTell plan.resources (take n lines) line.told
  pub lined : AreLined plan.resources s.floor lines

and-true : (b : Bool) → (b && true) ≡ b
and-true true = refl
and-true false = refl

and-false : (b : Bool) → (b && false) ≡ false
and-false true = refl
and-false false = refl

module _ (plan : Plan) (r : Role) (actor : IsActor plan r) (s : Scene) (lines : List Line)
    (tells : IsTelling plan s lines) where
  abbrev f : PlainFloor
  f = s.floor

  text-on : (t : Told) → s.text ++ line_text r.resources r.turn r.job.name t
      ≡ lines_text plan (lines ++ line_of r t ∷ [])
  text-on t =
      let named : r.job.name ≡ name_of plan r.place
      = sym (ap (λ o. option_map_or (λ j. j.name) o []) actor.job) in
      ap (λ text. text ++ line_text r.resources r.turn r.job.name t) tells.text
      ∙ ap (λ rs. lines_text plan lines ++ line_text rs r.turn r.job.name t) actor.resources
      ∙ ap (λ name. lines_text plan lines ++ line_text plan.resources r.turn name t) named
      ∙ sym (text-push plan lines (line_of r t))

  pub there-of : (at : ℕ) → at < length f.kinds → at < length f.histories
  there-of at below = omega (arith, below, tells.lined.sized)

  -- a line tells of a deed in a round where it draws the numbers that the deed does
  record Tells (at round : ℕ) (deed : Deed) (t : Told) : Type 0 where
    here : bit (draws_at plan.resources at round t) ≡ draws (is_pool_at plan.resources at) deed
    away : (q r : ℕ) → (q ≢ at) ⊎ (r ≢ round) → draws_at plan.resources q r t ≡ false
    may : MayTell plan.resources lines t

  module _ (at round : ℕ) (deed : Deed) (there : at < length f.histories) (part : HasPart (history_at f at) round)
      (room : List ℕ) (waits : List (Option JobWait)) (holds : List (List Holding)) (rounds : List (List ℕ)) (t : Told)
      (told_so : Tells at round deed t) where
    abbrev g : PlainFloor
    g = changed_floor f at round deed room waits holds rounds

    numbered-on : (q k : ℕ) → HasPart (history_at f q) k → (q ≡ at) ⊎ (q ≢ at) → (k ≡ round) ⊎ (k ≢ round)
        → (stands_in g q k).next ≡ drawn_at plan.resources q k (lines ++ line_of r t ∷ [])
    numbered-on q k own (inl here) (inl same) =
        let sort : draws (is_of_pool (history_at f at)) deed ≡ draws (is_pool_at plan.resources at) deed
        = ap (λ b. draws b deed) (tells.lined.sorts at) in
        rw (here, same) (omega (
          arith,
          ap (λ (x : Standing). x.next) (standing-here f at round deed round there),
          next-after (size_at f at) (history_at f at) round deed part,
          sort,
          told_so.here,
          tells.numbered at round part,
          drawn-push plan.resources at round lines (line_of r t),
        ))
    numbered-on q k own (inl here) (inr other) =
        let own_here : HasPart (history_at f at) k = rw here at own in
        let none : bit (draws_at plan.resources at k t) ≡ 0 = ap bit (told_so.away at k (inr other)) in
        rw here (omega (
          arith,
          ap (λ (x : Standing). x.next) (standing-here f at round deed k there),
          ap (λ (x : Standing). x.next)
              (standing-away (size_at f at) (history_at f at) round k deed part own_here other),
          none,
          tells.numbered at k own_here,
          drawn-push plan.resources at k lines (line_of r t),
        ))
    numbered-on q k own (inr other) either =
        let none : bit (draws_at plan.resources q k t) ≡ 0 = ap bit (told_so.away q k (inl other)) in
        omega (
          arith,
          ap (λ (x : Standing). x.next) (standing-else f at round deed q k other),
          none,
          tells.numbered q k own,
          drawn-push plan.resources q k lines (line_of r t),
        )

    deed-tells : AreLined plan.resources g (lines ++ line_of r t ∷ [])
        → IsTelling plan (event r s g t) (lines ++ line_of r t ∷ [])
    deed-tells lined = record {
      text = text-on t;
      numbered = λ q k own.
          numbered-on q k
          (part-before plan.resources f lines tells.lined at round deed there part room waits holds rounds
          (line_of r t) q k own)
          (cases_eq q at) (cases_eq k round);
      tell = may-push plan.resources lines (line_of r t) tells.tell told_so.may;
      lined = lined;
    }

    -- where nobody waits anew
    calm-tells : JoinsNext (stands_in f at round).next deed
        → ((j : ℕ) (w : JobWait) → wait_of g j ≡ Some w → wait_of f j ≡ Some w)
        → ((j : ℕ) (w : JobWait) → wait_of g j ≡ Some w → w.at ≡ at → w.round ≡ round
        → Goes plan.resources f lines tells.lined at round deed there part room waits holds rounds
        (line_of r t) w)
        → IsTelling plan (event r s g t) (lines ++ line_of r t ∷ [])
    calm-tells fits were goes =
        deed-tells (calm-on plan.resources f lines tells.lined at round deed there part room waits holds rounds
        (line_of r t) fits were goes)

  -- the wait has a number below the next one
  below-next : (at j : ℕ) (w : JobWait) → wait_of f j ≡ Some w → w.at ≡ at → w.round ≡ 0
      → w.number ≢ (standing_at f at).next
  below-next at j w has here first same =
      let below : w.number < (standing_at f at).next = rw (here, first) at (tells.lined.below j w has) in
      omega (arith, below, same)

  takes-draws : (at element : ℕ) → Tells at 0 (takes element) (told.Takes at element)
  takes-draws at element = record {
    here =
        let same : draws_at plan.resources at 0 (told.Takes at element) ≡ is_pool_at plan.resources at
        = rw (eq-eqb at at refl) (and-true (is_pool_at plan.resources at)) in
        ap bit same;
    away = λ q k other. away q k other;
    may = tt;
  }
    where
      away : (q k : ℕ) → (q ≢ at) ⊎ (k ≢ 0)
          → draws_at plan.resources q k (told.Takes at element) ≡ false
      away q k (inl other) = rw (ne_eqb at q (λ same. other (sym same))) refl
      away q k (inr other) =
          rw (ne_eqb 0 k (λ same. other (sym same))) (and-false ((at == q) && is_pool_at plan.resources q))

  -- a job takes at once
  takes-now : (at element : ℕ) → at < length f.histories → HasPart (history_at f at) 0
      → IsTelling plan (on_take r at (Now element) s) (lines ++ line_of r (told.Takes at element) ∷ [])
  takes-now at element there part =
      calm-tells at 0 (takes element) there part _ f.waits _ f.rounds (told.Takes at element) (takes-draws at element)
      tt (λ j w has. has) (λ j w has here first. inl (below-next at j w has here first))

  -- nobody waits for what is given back
  gives-free : (at element : ℕ) → at < length f.histories → HasPart (history_at f at) 0
      → IsTelling plan (on_give_answer r at (Free element) s) (lines ++ line_of r (told.GivesFree at element) ∷ [])
  gives-free at element there part =
      calm-tells at 0 (frees element) there part _ f.waits _ f.rounds (told.GivesFree at element)
      (record { here = refl; away = λ q k other. refl; may = tt }) tt (λ j w has. has) (λ j w has here first. inl tt)

  -- what is given back is sent to the first of the line
  gives-sent : (at element : ℕ) (first : Waiting) (line : List Waiting) → at < length f.histories
      → HasPart (history_at f at) 0
      → (standing_at f at).line ≡ first ∷ line → IsTelling plan (on_give_answer r at (Sent element first.wait) s)
      (lines ++ line_of r (told.GivesSent at element first.wait) ∷ [])
  gives-sent at element first line there part is =
      calm-tells at 0 (sends element first.wait) there part _ f.waits _ f.rounds (told.GivesSent at element first.wait)
      (record { here = refl; away = λ q k other. refl; may = tt }) tt (λ j w has. has)
      (λ j w has here begins. goes w (cases_eq w.number first.wait)) where
        goes : (w : JobWait) → (w.number ≡ first.wait) ⊎ (w.number ≢ first.wait)
            → Goes plan.resources f lines tells.lined at 0 (sends element first.wait) there part f.room f.waits
            f.holds
            f.rounds (line_of r (told.GivesSent at element first.wait)) w
        goes w (inr other) = inl other
        goes w (inl same) =
            inr (
              refl,
              sym same,
              λ pooled.
                  rw same (sym (came-sent (size_at f at) (history_at f at) first line element
                  (tells.lined.seated at) is (tells.lined.sorts at ∙ pooled))),
            )

  -- a count down of a latch
  downs : (at : ℕ) (answer : FloorDown) → at < length f.histories → HasPart (history_at f at) 0
      → IsTelling plan (on_down_answer r at answer s) (lines ++ line_of r (down_told at answer) ∷ [])
  downs at (Left n) there part =
      calm-tells at 0 (counts n) there part f.room f.waits f.holds f.rounds (told.DownsLeft at n)
      (record { here = refl; away = λ q k other. refl; may = tt }) tt (λ j w has. has) (λ j w has here first. inl tt)
  downs at Last there part =
      calm-tells at 0 opens there part f.room f.waits f.holds f.rounds (told.DownsOpen at)
      (record { here = refl; away = λ q k other. refl; may = tt }) tt (λ j w has. has) (λ j w has here first. inr refl)
  downs at Already there part =
      calm-tells at 0 is_open there part f.room f.waits f.holds f.rounds (told.DownsAlready at)
      (record { here = refl; away = λ q k other. refl; may = tt }) tt (λ j w has. has) (λ j w has here first. inl tt)

  -- a job passes a latch, or is the last to arrive in a round
  passes-now : (at element : ℕ) → at < length f.histories → HasPart (history_at f at) 0
      → IsTelling plan (on_wait r at (Now element) s) (lines ++ line_of r (told.Passes at) ∷ [])
  passes-now at element there part =
      calm-tells at 0 passes there part _ f.waits f.holds f.rounds (told.Passes at)
      (record { here = refl; away = λ q k other. refl; may = tt }) tt (λ j w has. has) (λ j w has here first. inl tt)

  arrives-last : (at element : ℕ) → at < length f.histories
      → HasPart (history_at f at) (round_of f r.place at)
      → IsTelling plan (on_arrive r at (Now element) s)
      (lines ++ line_of r (told.ArrivesLast at (round_of f r.place at)) ∷ [])
  arrives-last at element there part =
      let round : ℕ = round_of f r.place at in
      calm-tells at round completes there part _ f.waits f.holds _ (told.ArrivesLast at round)
      (record { here = refl; away = λ q k other. refl; may = tt }) tt (λ j w has. has)
      (λ j w has here own. inr (refl, refl))

  -- the wait of the job is over, and what came is its own where it can be held
  granted : (at round number element : ℕ) (deed : ℕ → ℕ → Deed) (t : Told) → HasWait f r.place at round number
      → at < length f.histories → ((n : ℕ) → JoinsNext n (deed number element))
      → ((n k : ℕ) → IsElse n k (deed number element)) → Tells at round (deed number element) t
      → IsTelling plan (event r s (with_granted f r.place deed (wait_of f r.place) element) t)
      (lines ++ line_of r t ∷ [])
  granted at round number element deed t has there fits quiet told_so =
      let Goal : Option JobWait → Type 0 =
      λ o. IsTelling plan (event r s (with_granted f r.place deed o element) t) (lines ++ line_of r t ∷ []) in
      subst Goal (sym has.waits) (by (is_holdable f at)) where
        part : HasPart (history_at f at) round
        part = tells.lined.parts r.place (wait_at at round number) has.waits

        over : PlainFloor
        over = with_wait (with_done_in f at round (deed number element)) r.place None

        held : (holds : List (List Holding)) → IsTelling plan (event r s
            (changed_floor f at round (deed number element) f.room (set f.waits r.place None) holds f.rounds) t)
            (lines ++ line_of r t ∷ [])
        held holds =
            calm-tells at round (deed number element) there part f.room (set f.waits r.place None) holds f.rounds t
            told_so
            (fits (stands_in f at round).next) (λ j w waits. (wait-gone f r.place j w has.job.waits waits).1)
            (λ j w waits here own. inl (quiet (stands_in f at round).next w.number))

        by : (b : Bool)
            → IsTelling plan (event r s (if b then with_newest over r.place at element else over) t)
            (lines ++ line_of r t ∷ [])
        by true = held (set f.holds r.place (holds_of f r.place ++ record { at = at; element = element } ∷ []))
        by false = held f.holds

  -- the wait of the job leaves the line, with words that neither draw a number nor send anything
  gone : (at round number : ℕ) (words : Told) → HasWait f r.place at round number → at < length f.histories
      → Tells at round (leaves number) words
      → IsTelling plan (event r s (with_left f r.place (wait_of f r.place)) words) (lines ++ line_of r words ∷ [])
  gone at round number words has there told_so =
      let Goal : Option JobWait → Type 0 =
      λ o. IsTelling plan (event r s (with_left f r.place o) words) (lines ++ line_of r words ∷ []) in
      let part : HasPart (history_at f at) round = tells.lined.parts r.place (wait_at at round number) has.waits in
      subst Goal (sym has.waits)
      (calm-tells at round (leaves number) there part f.room _ f.holds _ words told_so
      tt (λ j w waits. (wait-gone f r.place j w has.job.waits waits).1)
      (λ j w waits here own. inl (apart j w (wait-gone f r.place j w has.job.waits waits) here own))) where
        -- another's wait in this round has another number
        apart : (j : ℕ) (w : JobWait) → (j ≢ r.place) × (wait_of f j ≡ Some w) → w.at ≡ at → w.round ≡ round
            → w.number ≢ number
        apart j w other here same_round same =
            let own : w ≡ wait_at at round number = rw (← here, ← same_round, ← same) refl in
            other.0 (tells.lined.apart j r.place w other.1 (has.waits ∙ ap Some (sym own)))

  gives-up : (at round number : ℕ) → HasWait f r.place at round number → at < length f.histories
      → IsTelling plan (event r s (with_left f r.place (wait_of f r.place)) (told.GaveUp at round number))
      (lines ++ line_of r (told.GaveUp at round number) ∷ [])
  gives-up at round number has there =
      gone at round number (told.GaveUp at round number) has there
      (record { here = refl; away = λ q k other. refl; may = tt })

  -- and where the job tries again
  retries-so : (at round number : ℕ) → HasWait f r.place at round number → at < length f.histories
      → IsTelling plan (on_retry r at round number s) (lines ++ line_of r (told.Retries at round number) ∷ [])
  retries-so at round number has there =
      gone at round number (told.Retries at round number) has there
      (record { here = refl; away = λ q k other. refl; may = tt })

  -- a job begins to wait, under the next number
  module _ (at round : ℕ) (there : at < length f.histories) (part : HasPart (history_at f at) round)
      (job_there : r.place < length f.waits) (room : List ℕ) (rounds : List (List ℕ)) where
    abbrev k : ℕ
    k = (stands_in f at round).next

    abbrev new : JobWait
    new = wait_at at round k

    abbrev after : PlainFloor
    after = changed_floor f at round (joins k) room (set f.waits r.place (Some new)) f.holds rounds

    abbrev line : Line
    line = line_of r (told.Waits at round k)

    joins-draws : Tells at round (joins k) (told.Waits at round k)
    joins-draws = record {
      here = rw (eq-eqb at at refl, eq-eqb round round refl) refl;
      away = away;
      may = tells.numbered at round part;
    }
      where
        away : (q n : ℕ) → (q ≢ at) ⊎ (n ≢ round) → draws_at plan.resources q n (told.Waits at round k) ≡ false
        away q n (inl other) = rw (ne_eqb at q (λ same. other (sym same))) refl
        away q n (inr other) = rw (ne_eqb round n (λ same. other (sym same))) (and-false (at == q))

    -- a wait is the new one, or one of before
    wait-was : (j : ℕ) (w : JobWait) → wait_of after j ≡ Some w
        → ((j ≡ r.place) × (w ≡ new)) ⊎ (wait_of f j ≡ Some w)
    wait-was j w has = go (cases_eq j r.place)
      where
        go : (j ≡ r.place) ⊎ (j ≢ r.place) → ((j ≡ r.place) × (w ≡ new)) ⊎ (wait_of f j ≡ Some w)
        go (inl same) =
            let now : wait_of after r.place ≡ Some new
            = get_or-set_same f.waits r.place (Some new) None job_there in
            let own : wait_of after r.place ≡ Some w = rw same at has in
            let is : w ≡ new = cc in
            inl (same, is)
        go (inr other) = inr (sym (get_or-set_other f.waits r.place j (Some new) None other) ∙ has)

    next-here : (stands_in after at round).next ≡ k + 1
    next-here =
        ap (λ (x : Standing). x.next) (standing-here f at round (joins k) round there)
        ∙ next-after (size_at f at) (history_at f at) round (joins k) part

    expects-new : Expects plan.resources after (lines ++ line ∷ []) new
    expects-new =
        inl (ap (λ (x : Standing). in_line k x.line) (standing-here f at round (joins k) round there)
        ∙ line-joins (size_at f at) (history_at f at) round k part (tells.lined.seated at))

    expects-of : (j : ℕ) (w : JobWait)
        → ((j ≡ r.place) × (w ≡ new)) ⊎ (wait_of f j ≡ Some w)
        → Expects plan.resources after (lines ++ line ∷ []) w
    expects-of j w (inl is) = rw is.1 expects-new
    expects-of j w (inr old) =
        expects-on plan.resources f lines tells.lined at round (joins k) there part room after.waits f.holds
        rounds
        line w (λ here own. inl tt) (tells.lined.parts j w old) (tells.lined.expects j w old)

    parts-of : (j : ℕ) (w : JobWait)
        → ((j ≡ r.place) × (w ≡ new)) ⊎ (wait_of f j ≡ Some w) → HasPart (history_at after w.at) w.round
    parts-of j w (inl is) =
        rw is.1 (part-on plan.resources f lines tells.lined at round (joins k) there part room after.waits f.holds
        rounds line at round part)
    parts-of j w (inr old) =
        part-on plan.resources f lines tells.lined at round (joins k) there part room after.waits f.holds rounds
        line w.at w.round (tells.lined.parts j w old)

    below-of : (j : ℕ) (w : JobWait)
        → ((j ≡ r.place) × (w ≡ new)) ⊎ (wait_of f j ≡ Some w) → w.number < (stands_in after w.at w.round).next
    below-of j w (inl is) = rw is.1 (omega (arith, next-here))
    below-of j w (inr old) =
        omega (
          arith,
          tells.lined.below j w old,
          next-on plan.resources f lines tells.lined at round (joins k) there part room after.waits f.holds rounds
              line w.at w.round (tells.lined.parts j w old),
        )

    -- nobody has the next number yet
    not-yet : (j : ℕ) (w : JobWait) → w ≡ new → wait_of f j ≢ Some w
    not-yet j w same old =
        let below : new.number < (stands_in f new.at new.round).next
        = rw same at (tells.lined.below j w old) in
        omega (arith, below)

    apart-of : (i j : ℕ) (w : JobWait)
        → ((i ≡ r.place) × (w ≡ new)) ⊎ (wait_of f i ≡ Some w)
        → ((j ≡ r.place) × (w ≡ new)) ⊎ (wait_of f j ≡ Some w) → i ≡ j
    apart-of i j w (inl first) (inl second) = first.0 ∙ sym second.0
    apart-of i j w (inl first) (inr second) = absurd (not-yet j w first.1 second)
    apart-of i j w (inr first) (inl second) = absurd (not-yet i w second.1 first)
    apart-of i j w (inr first) (inr second) = tells.lined.apart i j w first second

    waits-later : IsTelling plan (event r s after (told.Waits at round k)) (lines ++ line ∷ [])
    waits-later =
        deed-tells at round (joins k) there part room after.waits f.holds rounds (told.Waits at round k) joins-draws
        (record {
          sized = sized-on plan.resources f lines tells.lined at round (joins k) there part room after.waits
              f.holds
              rounds line;
          kinds = kinds-on plan.resources f lines tells.lined at round (joins k) there part room after.waits
              f.holds
              rounds line;
          sorts = sorts-on plan.resources f lines tells.lined at round (joins k) there part room after.waits
              f.holds
              rounds line;
          seated = seated-on plan.resources f lines tells.lined at round (joins k) there part room after.waits
              f.holds rounds line refl;
          expects = λ j w has. expects-of j w (wait-was j w has);
          parts = λ j w has. parts-of j w (wait-was j w has);
          below = λ j w has. below-of j w (wait-was j w has);
          apart = λ i j w first second. apart-of i j w (wait-was i w first) (wait-was j w second);
        })

  takes-if : (at : ℕ) (b : Bool) → at < length f.histories → HasPart (history_at f at) 0 → r.place < length f.waits
      → IsTelling plan (on_take r at (if b then Now (first_free_at f at) else Waits (standing_at f at).next) s)
      (lines ++ line_of r (take_told at (if b then Now (first_free_at f at) else Waits (standing_at f at).next)) ∷ [])
  takes-if at true there part job_there = takes-now at (first_free_at f at) there part
  takes-if at false there part job_there = waits-later at 0 there part job_there _ f.rounds

  awaits-if : (at : ℕ) (b : Bool) → at < length f.histories → HasPart (history_at f at) 0 → r.place < length f.waits
      → IsTelling plan (on_wait r at (if b then Waits (standing_at f at).next else Now 0) s)
      (lines ++ line_of r (wait_told at (if b then Waits (standing_at f at).next else Now 0)) ∷ [])
  awaits-if at true there part job_there = waits-later at 0 there part job_there _ f.rounds
  awaits-if at false there part job_there = passes-now at 0 there part

  arrives-if : (at : ℕ) (b : Bool) → at < length f.histories → HasPart (history_at f at) (round_of f r.place at)
      → r.place < length f.waits
      → IsTelling plan
      (on_arrive r at (if b then Waits (stands_in f at (round_of f r.place at)).next else Now 0) s)
      (lines ++ line_of r (arrive_told at (round_of f r.place at)
      (if b then Waits (stands_in f at (round_of f r.place at)).next else Now 0)) ∷ [])
  arrives-if at true there part job_there = waits-later at (round_of f r.place at) there part job_there _ _
  arrives-if at false there part job_there = arrives-last at 0 there part

  gives-by : (at : ℕ) (line : List Waiting) → at < length f.histories → HasPart (history_at f at) 0
      → (standing_at f at).line ≡ line
      → IsTelling plan (on_give_answer r at (give_of line (oldest at (holds_of f r.place))) s)
      (lines ++ line_of r (give_told at (give_of line (oldest at (holds_of f r.place)))) ∷ [])
  gives-by at [] there part is = gives-free at _ there part
  gives-by at (first ∷ line) there part is = gives-sent at _ first line there part is

  -- to a wait that isn't in the line any more something was sent
  sent-so : (at round number : ℕ) → HasWait f r.place at round number
      → is_in_line f (wait_at at round number) ≡ false
      → WasSent plan.resources at round number (came_to f (wait_at at round number)) lines
  sent-so at round number has away = go (tells.lined.expects r.place (wait_at at round number) has.waits) where
    go : Expects plan.resources f lines (wait_at at round number)
        → WasSent plan.resources at round number (came_to f (wait_at at round number)) lines
    go (inl stands) = absurd (cc)
    go (inr sent) = sent

  serves-so : (at round number element : ℕ) → HasWait f r.place at round number → at < length f.histories
      → look_answer f r.place ≡ Granted element
      → IsTelling plan (event r s (after_look f r.place (Granted element)) (told.Served at round number element))
      (lines ++ line_of r (told.Served at round number element) ∷ [])
  serves-so at round number element has there served = go (is_in_line f (wait_at at round number)) refl
    where
      go : (b : Bool) → is_in_line f (wait_at at round number) ≡ b
          → IsTelling plan (event r s (after_look f r.place (Granted element)) (told.Served at round number element))
          (lines ++ line_of r (told.Served at round number element) ∷ [])
      go true stands = let pending : Pending ≡ Granted element = rw (has.waits, stands) at served in absurd (cc)
      go false away =
          let answers : Granted (came_to f (wait_at at round number)) ≡ Granted element
          = rw (has.waits, away) at served in
          let is : came_to f (wait_at at round number) ≡ element = cc in
          let sent : WasSent plan.resources at round number element lines
          = subst (λ e. WasSent plan.resources at round number e lines) is (sent-so at round number has away) in
          granted at round number element gets (told.Served at round number element) has there (λ n. tt) (λ n k. tt)
          (record { here = refl; away = λ q k other. refl; may = sent })

  leaves-so : (at round number : ℕ) → HasWait f r.place at round number → at < length f.histories
      → IsTelling plan (on_leave r at round number (leave_answer f r.place) s)
      (lines ++ line_of r (leave_told at round number (leave_answer f r.place)) ∷ [])
  leaves-so at round number has there = go (is_in_line f (wait_at at round number)) refl
    where
      go : (b : Bool) → is_in_line f (wait_at at round number) ≡ b
          → IsTelling plan (on_leave r at round number (leave_answer f r.place) s)
          (lines ++ line_of r (leave_told at round number (leave_answer f r.place)) ∷ [])
      go true stands =
          let gone_answer : leave_answer f r.place ≡ leave.Gone = rw (has.waits, stands) refl in
          rw gone_answer (gives-up at round number has there)
      go false away =
          let came : ℕ = came_to f (wait_at at round number) in
          let late_answer : leave_answer f r.place ≡ leave.Late came = rw (has.waits, away) refl in
          rw late_answer (granted at round number came is_late (told.Late at round number) has there (λ n. tt)
          (λ n k. tt)
          (record { here = refl; away = λ q k other. refl; may = (came, sent-so at round number has away) }))

  ends-so : IsTelling plan (event r s f told.Done) (lines ++ line_of r told.Done ∷ [])
  ends-so = record {
    text = text-on told.Done;
    numbered = λ q k own.
        omega (
          arith,
          tells.numbered q k own,
          drawn-push plan.resources q k lines (line_of r told.Done),
        );
    tell = may-push plan.resources lines (line_of r told.Done) tells.tell tt;
    lined = record {
      sized = tells.lined.sized;
      kinds = tells.lined.kinds;
      sorts = tells.lined.sorts;
      seated = tells.lined.seated;
      expects = λ j w has. expects j w has (tells.lined.expects j w has);
      parts = tells.lined.parts;
      below = tells.lined.below;
      apart = tells.lined.apart;
    };
  }
    where
      expects : (j : ℕ) (w : JobWait) → wait_of f j ≡ Some w → Expects plan.resources f lines w
          → Expects plan.resources f (lines ++ line_of r told.Done ∷ []) w
      expects j w has (inl stands) = inl stands
      expects j w has (inr sent) =
          inr (sent-longer plan.resources w.at w.round w.number (came_to f w) lines (line_of r told.Done) sent)

  -- where a job has a wait there is a history
  pub wait-there : (at round number : ℕ) → HasWait f r.place at round number → at < length f.histories
  wait-there at round number has = go (cases_lt at (length f.histories)) where
    go : (at < length f.histories) ⊎ (length f.histories ≤ at) → at < length f.histories
    go (inl below) = below
    go (inr past) =
        let none : history_at f at ≡ of_permits [] = get_or_past f.histories at (of_permits []) past in
        let nobody : (stands_in f at round).next ≡ 0 = ap (λ h. (standing_in (size_at f at) h round).next) none in
        absurd (omega (
          arith,
          nobody,
          tells.lined.below r.place (wait_at at round number) has.waits,
        ))

  -- the one round of what can be held or is a latch, and those of a barrier
  pub held-there : (at : ℕ) → IsHoldable (slice_get f.kinds at) → HasPart (history_at f at) 0
  held-there at kind = held-part (slice_get f.kinds at) (history_at f at) kind (tells.lined.kinds at)

  pub latch-there : (at : ℕ) → IsLatch (slice_get f.kinds at) → HasPart (history_at f at) 0
  latch-there at kind = latch-part (slice_get f.kinds at) (history_at f at) kind (tells.lined.kinds at)

  pub round-there : (at round : ℕ) → HasRound (slice_get f.kinds at) round → HasPart (history_at f at) round
  round-there at round kind =
      round-part (slice_get f.kinds at) (history_at f at) round kind (tells.lined.kinds at)

pub told-by-events : (plan : Plan) → IsToldByEvents plan (IsTelling plan)
told-by-events plan = record {
  takes = λ r at s lines actor can tells. takes-if plan r actor s lines tells at _
      (there-of plan r actor s lines tells at (holdable-below s.floor.kinds at can.kind))
      (held-there plan r actor s lines tells at can.kind) can.job.waits;
  gives = λ r at s lines actor can tells. gives-by plan r actor s lines tells at (standing_at s.floor at).line
      (there-of plan r actor s lines tells at (holdable-below s.floor.kinds at can.kind))
      (held-there plan r actor s lines tells at can.kind) refl;
  serves = λ r at round number element s lines actor has served tells.
      serves-so plan r actor s lines tells at round number element has
      (wait-there plan r actor s lines tells at round number has) served;
  leaves = λ r at round number s lines actor has tells.
      leaves-so plan r actor s lines tells at round number has
      (wait-there plan r actor s lines tells at round number has);
  retries = λ r at round number s lines actor has gone tells.
      retries-so plan r actor s lines tells at round number has
      (wait-there plan r actor s lines tells at round number has);
  downs = λ r at s lines actor kind tells. downs plan r actor s lines tells at (down_answer s.floor at)
      (there-of plan r actor s lines tells at (latch-below s.floor.kinds at kind))
      (latch-there plan r actor s lines tells at kind);
  awaits = λ r at s lines actor can tells. awaits-if plan r actor s lines tells at _
      (there-of plan r actor s lines tells at (latch-below s.floor.kinds at can.kind))
      (latch-there plan r actor s lines tells at can.kind) can.job.waits;
  arrives = λ r at s lines actor can tells. arrives-if plan r actor s lines tells at _
      (there-of plan r actor s lines tells at (round-below s.floor.kinds at (round_of s.floor r.place at) can.kind))
      (round-there plan r actor s lines tells at (round_of s.floor r.place at) can.kind) can.job.waits;
  ends = λ r s lines actor tells. ends-so plan r actor s lines tells;
}

-- a list of one value has it everywhere, also past its end
one-value : {X : Type 0} (n i : ℕ) (x : X) → get_or (replicate n x) i x ≡ x
one-value zero i x = refl
one-value (suc n) zero x = refl
one-value (suc n) (suc i) x = one-value n i x

nobody-waits : (plan : Plan) (j : ℕ) (w : JobWait) → wait_of (opening_floor plan) j ≢ Some w
nobody-waits plan j w has =
    let none : wait_of (opening_floor plan) j ≡ None = one-value (length plan.jobs) j None in absurd (cc)

-- nothing has happened at a resource that opens
pub opening-history : (P : History → Type 0) → ((k : Kind) → P (no_history k)) → P (of_permits [])
    → (resources : List Resource) (q : ℕ)
    → P (get_or (map (λ resource. no_history resource.kind) resources) q (of_permits []))
opening-history P each none [] q = none
opening-history P each none (resource ∷ resources) zero = each resource.kind
opening-history P each none (resource ∷ resources) (suc q) = opening-history P each none resources q

no-numbers : (size round : ℕ) (k : Kind) → (standing_in size (no_history k) round).next ≡ 0
no-numbers size round (kind.Semaphore permits) = refl
no-numbers size round kind.Mutex = refl
no-numbers size round (kind.Pool elements) = refl
no-numbers size round (kind.Latch count) = refl
no-numbers size round (kind.Rounds parties rounds) =
    ap (λ entries. (standing_in size (of_rounds (entries ∷ [])) 0).next) (one-value rounds round [])

no-seats : (size : ℕ) (k : Kind) → HasSeats size (no_history k)
no-seats size (kind.Semaphore permits) = refl
no-seats size kind.Mutex = refl
no-seats size (kind.Pool elements) = record { once = λ k. omega arith; later = λ k high. refl }
no-seats size (kind.Latch count) = tt
no-seats size (kind.Rounds parties rounds) = tt

kind-sort : (k : Kind) → is_of_pool (no_history k) ≡ is_pool k
kind-sort (kind.Semaphore permits) = refl
kind-sort kind.Mutex = refl
kind-sort (kind.Pool elements) = refl
kind-sort (kind.Latch count) = refl
kind-sort (kind.Rounds parties rounds) = refl

own-kind : (k : Kind) → IsOfKind (Some k) (no_history k)
own-kind (kind.Semaphore permits) = tt
own-kind kind.Mutex = tt
own-kind (kind.Pool elements) = tt
own-kind (kind.Latch count) = tt
own-kind (kind.Rounds parties rounds) = length-replicate rounds []

opening-kinds : (resources : List Resource) (q : ℕ)
    → IsOfKind (slice_get (map (λ resource. resource.kind) resources) q)
    (get_or (map (λ resource. no_history resource.kind) resources) q (of_permits []))
opening-kinds [] q = tt
opening-kinds (resource ∷ resources) zero = own-kind resource.kind
opening-kinds (resource ∷ resources) (suc q) = opening-kinds resources q

opening-sorts : (resources : List Resource) (q : ℕ)
    → is_of_pool (get_or (map (λ resource. no_history resource.kind) resources) q (of_permits []))
    ≡ is_pool_at resources q
opening-sorts [] q = refl
opening-sorts (resource ∷ resources) zero = kind-sort resource.kind
opening-sorts (resource ∷ resources) (suc q) = opening-sorts resources q

-- a machine that opens has told nothing, and nobody waits
pub opening-tells : (plan : Plan) → IsTelling plan (opening_machine plan).scene []
opening-tells plan = record {
  text = refl;
  numbered = λ q round own. opening-history (λ h. (standing_in (size_at (opening_floor plan) q) h round).next ≡ 0)
      (no-numbers (size_at (opening_floor plan) q) round) refl plan.resources q;
  tell = λ n line got. absurd (cc);
  lined = record {
    sized = length-map plan.resources (λ resource. no_history resource.kind)
        ∙ sym (length-map plan.resources (λ resource. resource.kind));
    kinds = opening-kinds plan.resources;
    sorts = opening-sorts plan.resources;
    seated = λ q. opening-history (λ h. HasSeats (size_at (opening_floor plan) q) h)
        (no-seats (size_at (opening_floor plan) q)) refl plan.resources q;
    expects = λ j w has. absurd (nobody-waits plan j w has);
    parts = λ j w has. absurd (nobody-waits plan j w has);
    below = λ j w has. absurd (nobody-waits plan j w has);
    apart = λ i j w first second. absurd (nobody-waits plan i w first);
  };
}
