-- How a worker's jobs go on: no turn, some turns and then others, and the turn of one job.
use Rattle.std.proofs.Common.{◌≡◌, ◌≢◌, ◌⊎◌, inl, inr, ℕ, ◌+◌, ◌<◌, ◌≤◌, Bool, true, false, List, [], ◌++◌, Some, length, set, get_or, slice_get, refl, sym, ap, subst, ◌∙◌, append_assoc, arith}
use Rattle.std.specs.Bool.{if◌then◌else◌}
use Rattle.std.proofs.lemmas.Bool.{cases_eq}
use Rattle.std.proofs.lemmas.List.{append-nil, length-set}
use Rattle.std.proofs.lemmas.List.Elements.{All-append, All-nil}
use Rattle.cqs_core.proofs.Places.{get-set_here, get-set_else, get-below, get-there}
use Rattle.cqs_plan.specs.declared.plans.job.Job.{Job}
use Rattle.cqs_plan.specs.declared.plans.plan.Plan.{Plan}
use Rattle.cqs_plan.specs.Floor.{room_at}
use Rattle.cqs_floor_shared.specs.Shared.{kind_at}
use Rattle.cqs_work.specs.declared.waits.Waited.{Waited}
use Rattle.cqs_work.specs.Desk.{Desk}
use Rattle.cqs_work.specs.Later.{Later}
use Rattle.cqs_work.specs.Needs.{room_needed, sum_of_needs}
use Rattle.cqs_work.specs.Noted.{HasPermits, IsNoted}
use Rattle.cqs_work.specs.Takes.{takes_made, took, TalliesInTurn}
use Rattle.cqs_work.specs.Causes.{IsCaused}
use Rattle.cqs_work.specs.Adds.{IsOver, AddsInTurn}
use Rattle.cqs_work.specs.Courses.{AreCaused, GoesOn, made_by, left_by, Went}
use Rattle.cqs_work.proofs.Needing.{needed-set}
use Rattle.cqs_work.proofs.Causing.{others-caused}
use Rattle.cqs_work.specs.Stages.{Stage}

pub went-none : (plan : Plan) (f : Desk) (stages : List Stage) → Went plan f stages f stages
went-none plan f stages = record {
  long = refl;
  more = [];
  waits = sym (append-nil f.waits);
  whose = All-nil (λ (w : Waited). GoesOn stages w.job);
  over = λ place s got ended. (s, got, refl);
  noted = λ noted. noted;
  least = λ noted mine at permits. omega arith;
  most = λ noted at permits. omega arith;
  caused = λ noted caused. caused;
  room = λ at. omega arith;
}

pub went-then : (plan : Plan) (f g k : Desk) (before mid now : List Stage) → Later f.floor g.floor
    → Went plan f before g mid → Went plan g mid k now → Went plan f before k now
went-then plan f g k before mid now later first second = record {
  long = second.long ∙ first.long;
  more = first.more ++ second.more;
  waits = second.waits ∙ ap (λ l. l ++ second.more) first.waits ∙ append_assoc f.waits first.more second.more;
  whose = All-append (λ (w : Waited). GoesOn before w.job) first.more second.more first.whose
      (λ i d below. earlier (get_or second.more i d).job (second.whose i d below));
  over = λ place s got ended. over place s got ended;
  noted = λ noted. second.noted (first.noted noted);
  least = λ noted mine at permits.
      omega (
        arith,
        first.least noted mine at permits,
        second.least (first.noted noted) mine at (on-kinds at permits),
      );
  most = λ noted at permits.
      omega (arith, first.most noted at permits, second.most (first.noted noted) at (on-kinds at permits));
  caused = λ noted caused. second.caused (first.noted noted) (first.caused noted caused);
  room = λ at. omega (arith, first.room at, second.room at);
}
  where
    on-kinds : (at : ℕ) → HasPermits (kind_at f.floor at) → HasPermits (kind_at g.floor at)
    on-kinds at permits = subst HasPermits (ap (λ ks. slice_get ks at) (sym later.kinds)) permits

    over : (place : ℕ) (s : Stage) → slice_get before place ≡ Some s → IsOver s.progress
        → (q : Stage) × (slice_get now place ≡ Some q) × (q.progress ≡ s.progress)
    over place s got ended =
        let one = first.over place s got ended in
        let two = second.over place one.0 one.1 (subst IsOver (sym one.2) ended) in
        (two.0, two.1, two.2 ∙ one.2)

    -- who hasn't ended then hadn't ended before
    earlier : (j : ℕ) → GoesOn mid j → GoesOn before j
    earlier j goes =
        let was : (s : Stage) × (slice_get before j ≡ Some s)
        = get-there before j (omega (arith, get-below mid j goes.s goes.there, first.long)) in
        record {
          s = was.0;
          there = was.1;
          going = λ over.
              let stays = first.over j was.0 was.1 over in
              let same : stays.0 ≡ goes.s = cc (stays.1, goes.there) in
              goes.going (subst (λ (x : Stage). IsOver x.progress) same (subst IsOver (sym stays.2) over));
        }

-- the turn of one job
pub went-one : (plan : Plan) (f g : Desk) (place : ℕ) (job : Job) (p q : Stage) (stages : List Stage)
    → slice_get plan.jobs place ≡ Some job → slice_get stages place ≡ Some p → Later f.floor g.floor
    → AddsInTurn job place f p g q
    → ((at : ℕ) → room_at f.floor.board at + room_needed at place job q
    ≤ room_at g.floor.board at + room_needed at place job p)
    → Went plan f stages g (set stages place q)
went-one plan f g place job p q stages got_job got later adds room = record {
  long = length-set stages place q;
  more = adds.more;
  waits = adds.waits;
  whose = whose;
  over = λ j s got_s ended. over j s got_s ended (cases_eq j place);
  noted = adds.noted;
  least = λ noted mine at permits. least noted mine at permits (mine place) refl;
  most = λ noted at permits.
      let tally = adds.tally noted at permits in
      let moved = needed-set (left_by at) (left_by at) 0 plan.jobs stages place place itself job p q got_job got
      (λ m j x other. refl) in
      omega (arith, tally.most, moved);
  caused = λ noted caused. record {
    at = λ j other x got_other got_x.
        cause noted caused j other x got_other got_x (cases_eq j place);
  };
  room = λ at.
      let moved = needed-set (room_needed at) (room_needed at) 0 plan.jobs stages place place itself job p q got_job
      got (λ m j x other. refl) in
      omega (arith, room at, moved);
}
  where
    itself : place ≡ 0 + place
    itself = omega arith

    whose : (i : ℕ) (d : Waited) → i < length adds.more → GoesOn stages (get_or adds.more i d).job
    whose i d below = record {
      s = p;
      there = ap (slice_get stages) (adds.whose i d below) ∙ got;
      going = λ over.
          let none : adds.more ≡ [] = (adds.over over).1 in
          absurd (omega (arith, below, ap length none));
    }

    over : (j : ℕ) (s : Stage) → slice_get stages j ≡ Some s → IsOver s.progress → (j ≡ place) ⊎ (j ≢ place)
        → (x : Stage) × (slice_get (set stages place q) j ≡ Some x) × (x.progress ≡ s.progress)
    over j s got_s ended (inl same) =
        let some : Some p ≡ Some s = sym got ∙ ap (slice_get stages) (sym same) ∙ got_s in
        let is : p ≡ s = cc in
        let stays : q.progress ≡ p.progress
        = (adds.over (subst (λ (x : Stage). IsOver x.progress) (sym is) ended)).0 in (
          q,
          ap (slice_get (set stages place q)) same ∙ get-set_here stages place p q got,
          stays ∙ ap (λ (x : Stage). x.progress) is,
        )
    over j s got_s ended (inr other) = (s, get-set_else stages place j q (λ e. other (sym e)) ∙ got_s, refl)

    least : IsNoted f → (mine : ℕ → Bool) (at : ℕ) → HasPermits (kind_at f.floor at) → (b : Bool) → mine place ≡ b
        → took f.floor at + sum_of_needs (made_by mine at) 0 plan.jobs (set stages place q)
        ≤ took g.floor at + sum_of_needs (made_by mine at) 0 plan.jobs stages
    least noted mine at permits b is =
        let tally = adds.tally noted at permits in
        let moved = needed-set (made_by mine at) (made_by mine at) 0 plan.jobs stages place place itself job p q
        got_job got (λ m j x other. refl) in
        let was : made_by mine at place job p ≡ (if b then takes_made at job.steps p.progress else 0)
        = ap (λ c. if c then takes_made at job.steps p.progress else 0) is in
        let now : made_by mine at place job q ≡ (if b then takes_made at job.steps q.progress else 0)
        = ap (λ c. if c then takes_made at job.steps q.progress else 0) is in
        let one : took f.floor at + (if b then takes_made at job.steps q.progress else 0)
        ≤ took g.floor at + (if b then takes_made at job.steps p.progress else 0)
        = go b tally in
        omega (arith, moved, was, now, one)
      where
        go : (b : Bool) → TalliesInTurn at job (took f.floor at) p (took g.floor at) q
            → took f.floor at + (if b then takes_made at job.steps q.progress else 0)
            ≤ took g.floor at + (if b then takes_made at job.steps p.progress else 0)
        go true tally = tally.least
        go false tally = omega (arith, tally.grows)

    cause : IsNoted f → AreCaused plan f stages → (j : ℕ) (other : Job) (x : Stage)
        → slice_get plan.jobs j ≡ Some other → slice_get (set stages place q) j ≡ Some x
        → (j ≡ place) ⊎ (j ≢ place) → IsCaused other j g x.progress
    cause noted caused j other x got_other got_x (inl same) =
        let now : slice_get (set stages place q) place ≡ Some q = get-set_here stages place p q got in
        let at_place : slice_get (set stages place q) place ≡ Some x
        = ap (slice_get (set stages place q)) (sym same) ∙ got_x in
        let is : q ≡ x = cc in
        let its_job : slice_get plan.jobs place ≡ Some other = ap (slice_get plan.jobs) (sym same) ∙ got_other in
        let whose_job : job ≡ other = cc in
        let own : IsCaused job place g q.progress = adds.caused noted (caused.at place job p got_job got) in
        rw (same, ← is, ← whose_job) own
    cause noted caused j other x got_other got_x (inr away) =
        let before : slice_get stages j ≡ Some x
        = sym (get-set_else stages place j q (λ e. away (sym e))) ∙ got_x in
        others-caused job other place j f g p.progress q.progress x.progress later adds away
        (caused.at j other x got_other before)
