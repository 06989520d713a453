-- What the jobs need together, before and after the turn of one of them.
use Rattle.std.proofs.Common.{◌≡◌, ◌≢◌, ℕ, zero, suc, ◌+◌, ◌≤◌, List, [], ◌∷◌, Some, get_or, set, slice_get, refl, ap, arith}
use Rattle.cqs_plan.specs.declared.plans.job.Job.{Job}
use Rattle.cqs_turns_report.specs.Ready.{steps_left}
use Rattle.cqs_floor_shared.specs.Shared.{Shared}
use Rattle.cqs_work.specs.Needs.{sum_of_needs, parties_for, room_needed, parties_needed, IsProvided, AreProvided}
use Rattle.cqs_work.specs.Doing.{MovesInTurn}
use Rattle.cqs_work.specs.Stages.{Stage}
use Rattle.cqs_plan.specs.Floor.{room_at}

-- two needs that are the same from a place on
needed-alike : (w v : ℕ → Job → Stage → ℕ) (k : ℕ) (jobs : List Job) (stages : List Stage)
    → ((m : ℕ) (j : Job) (x : Stage) → k ≤ m → v m j x ≡ w m j x) → sum_of_needs v k jobs stages
    ≡ sum_of_needs w k jobs stages
needed-alike w v k [] stages same = refl
needed-alike w v k (j ∷ jobs) [] same = refl
needed-alike w v k (j ∷ jobs) (x ∷ stages) same =
    let here : v k j x ≡ w k j x = same k j x (omega arith) in
    let later = needed-alike w v (k + 1) jobs stages (λ m y z past. same m y z (omega (arith, past))) in
    omega (arith, here, later)

-- one job is further, and the needs of the others are as before
pub needed-set : (w v : ℕ → Job → Stage → ℕ) (k : ℕ) (jobs : List Job) (stages : List Stage) (i n : ℕ) → n
    ≡ k + i
    → (job : Job) (p q : Stage) → slice_get jobs i ≡ Some job → slice_get stages i ≡ Some p
    → ((m : ℕ) (j : Job) (x : Stage) → m ≢ n → v m j x ≡ w m j x)
    → sum_of_needs v k jobs (set stages i q) + w n job p ≡ sum_of_needs w k jobs stages + v n job q
needed-set w v k [] stages i n is job p q got_job got same = absurd (cc)
needed-set w v k (j ∷ jobs) [] i n is job p q got_job got same = absurd (cc)
needed-set w v k (j ∷ jobs) (x ∷ stages) zero n is job p q got_job got same =
    let same_job : j ≡ job = cc in
    let same_stage : x ≡ p = cc in
    let here : k ≡ n = omega (arith, is) in
    let later : sum_of_needs v (n + 1) jobs stages ≡ sum_of_needs w (n + 1) jobs stages
    = needed-alike w v (n + 1) jobs stages (λ m y z past. same m y z (λ e. absurd (omega (arith, past, e)))) in
    rw (same_job, same_stage, here) (omega (arith, later))
needed-set w v k (j ∷ jobs) (x ∷ stages) (suc i) n is job p q got_job got same =
    let next : n ≡ (k + 1) + i = omega (arith, is) in
    let first : v k j x ≡ w k j x = same k j x (λ e. absurd (omega (arith, is, e))) in
    let later = needed-set w v (k + 1) jobs stages i n next job p q got_job got same in
    omega (arith, first, later)

needed-of : (w : ℕ → Job → Stage → ℕ) (k : ℕ) (jobs : List Job) (stages : List Stage) (i n : ℕ) → n ≡ k + i
    → (job : Job) (p : Stage) → slice_get jobs i ≡ Some job → slice_get stages i ≡ Some p
    → w n job p ≤ sum_of_needs w k jobs stages
needed-of w k [] stages i n is job p got_job got = absurd (cc)
needed-of w k (j ∷ jobs) [] i n is job p got_job got = absurd (cc)
needed-of w k (j ∷ jobs) (x ∷ stages) zero n is job p got_job got =
    let same_job : j ≡ job = cc in
    let same_stage : x ≡ p = cc in
    let here : k ≡ n = omega (arith, is) in
    rw (same_job, same_stage, here) (omega arith)
needed-of w k (j ∷ jobs) (x ∷ stages) (suc i) n is job p got_job got =
    let next : n ≡ (k + 1) + i = omega (arith, is) in
    omega (arith, needed-of w (k + 1) jobs stages i n next job p got_job got)

module _ (f : Shared) (jobs : List Job) (stages : List Stage) (place : ℕ) (job : Job) (p : Stage)
    (got_job : slice_get jobs place ≡ Some job) (got : slice_get stages place ≡ Some p)
    (provided : AreProvided f jobs stages) where
  itself : place ≡ 0 + place
  itself = omega arith

  -- what all need together is enough for one
  pub room-of : (at : ℕ) → room_needed at place job p ≤ room_at f.board at
  room-of at =
      omega (arith, provided.room at, needed-of (room_needed at) 0 jobs stages place place itself job p got_job got)

  pub provided-of : IsProvided f place (steps_left job.steps p.progress)
  provided-of = record {
    room = λ at. omega (arith, room-of at);
    parties = λ at round.
        let own : parties_needed f.board at round place job p
        ≤ sum_of_needs (parties_needed f.board at round) 0 jobs stages
        = needed-of (parties_needed f.board at round) 0 jobs stages place place itself job p got_job got in
        omega (arith, provided.parties at round, own);
  }

  -- and what is left is enough for what is needed then
  pub provided-on : (g : Shared) (q : Stage) → MovesInTurn place job f.board f.parties p g.board g.parties q
      → AreProvided g jobs (set stages place q)
  provided-on g q moves = record {
    room = λ at.
        let moved = needed-set (room_needed at) (room_needed at) 0 jobs stages place place itself job p q got_job got
        (λ m j x other. refl) in
        omega (arith, provided.room at, moves.room at, moved);
    parties = λ at round.
        let as_before : (m : ℕ) (j : Job) (x : Stage) → m ≢ place
        → parties_needed g.board at round m j x ≡ parties_needed f.board at round m j x
        = λ m j x other. ap (λ row. parties_for at round (get_or row at 0) (steps_left j.steps x.progress))
        (moves.rounds.at m other) in
        let moved = needed-set (parties_needed f.board at round) (parties_needed g.board at round) 0 jobs stages place
        place
        itself job p q got_job got as_before in
        omega (arith, provided.parties at round, moves.comes at round, moved);
  }
