-- Worked plans: their reports, computed from the definitions alone.
use Rattle.std.proofs.Common.{◌≡◌, ℕ, List, [], ◌∷◌, ◌++◌, Some, None, Option, refl, codes}
use Rattle.std.specs.Fmt.{digits}
use Rattle.cqs_plan.specs.declared.plans.kind.Kind.TheVariants.{Semaphore, Mutex, Pool, Latch, Rounds}
use Rattle.cqs_plan.specs.declared.plans.job.Job.{Job}
use Rattle.cqs_plan.specs.declared.plans.step.Step.{Step}
use Rattle.cqs_plan.specs.declared.plans.step.Step.TheVariants.{Take, Give, Down, Await, Arrive, Work}
use Rattle.cqs_plan.specs.declared.plans.plan.Plan.{Plan}
use Rattle.cqs_turns_report.specs.Report.{report_of}

-- a plan of these jobs
abbrev plan_of : ℕ → List Job → Plan
plan_of turns jobs = record {
  version = 1;
  turns = turns;
  resources = record { name = codes "db"; kind = Semaphore 1 } ∷ [];
  jobs = jobs;
}

abbrev job : List ℕ → List Step → Option ℕ → Job
job name steps deadline =
    record { name = name; steps = steps; deadline = deadline; within = None; retry = 0 }

-- one that doesn't wait longer than so many turns, and tries again so often
abbrev trying : List ℕ → List Step → ℕ → ℕ → Job
trying name steps within retry =
    record { name = name; steps = steps; deadline = None; within = Some within; retry = retry }

-- takes, works and gives
abbrev worker : List ℕ → ℕ → Job
worker name turns = job name (Take 0 ∷ Work turns ∷ Give 0 ∷ []) None

abbrev two_jobs : Plan
two_jobs = plan_of 8 (worker (codes "a") 2 ∷ worker (codes "b") 2 ∷ [])

two_jobs_one_permit : report_of two_jobs
    ≡ codes "0 a takes db\n0 b waits db 0\n2 a gives db sent 0\n2 a done\n2 b served db 0\n"
    ++ codes "4 b gives db free\n4 b done\n"
    ++ codes "end db free 1 held 0 line 0\n"
    ++ codes "total done 2 gaveup 0 late 0 unfinished 0\n"
unfolding digits
two_jobs_one_permit = refl

abbrev one_waiter_short : Plan
one_waiter_short =
    plan_of 8 (worker (codes "a") 4 ∷ job (codes "b") (Take 0 ∷ []) (Some 2) ∷ job (codes "c") (Take 0 ∷ []) None ∷ [])

a_waiter_gives_up : report_of one_waiter_short
    ≡ codes "0 a takes db\n0 b waits db 0\n0 c waits db 1\n2 b gaveup db 0\n4 a gives db sent 1\n4 a done\n"
    ++ codes "4 c served db 1\n4 c gives db free\n4 c done\n"
    ++ codes "end db free 1 held 0 line 0\n"
    ++ codes "total done 2 gaveup 1 late 0 unfinished 0\n"
unfolding digits
a_waiter_gives_up = refl

abbrev late_waiter : Plan
late_waiter = plan_of 6
    (job (codes "b") (Work 1 ∷ Take 0 ∷ []) (Some 3)
    ∷ worker (codes "a") 2
    ∷ job (codes "c") (Work 1 ∷ Take 0 ∷ []) None
    ∷ [])

late_at_its_deadline : report_of late_waiter
    ≡ codes "0 a takes db\n1 b waits db 0\n1 c waits db 1\n2 a gives db sent 0\n2 a done\n3 b late db 0\n"
    ++ codes "3 b gives db sent 1\n3 c served db 1\n3 c gives db free\n3 c done\n"
    ++ codes "end db free 1 held 0 line 0\n"
    ++ codes "total done 2 gaveup 0 late 1 unfinished 0\n"
unfolding digits
late_at_its_deadline = refl

abbrev two_waiters_short : Plan
two_waiters_short = plan_of 8
    (worker (codes "a") 4
    ∷ job (codes "b") (Take 0 ∷ []) (Some 1)
    ∷ job (codes "c") (Take 0 ∷ []) (Some 2)
    ∷ [])

both_give_up : report_of two_waiters_short
    ≡ codes "0 a takes db\n0 b waits db 0\n0 c waits db 1\n1 b gaveup db 0\n2 c gaveup db 1\n"
    ++ codes "4 a gives db free\n4 a done\n"
    ++ codes "end db free 1 held 0 line 0\n"
    ++ codes "total done 1 gaveup 2 late 0 unfinished 0\n"
unfolding digits
both_give_up = refl

abbrev one_mutex : Plan
one_mutex = record {
  version = 1;
  turns = 6;
  resources = record { name = codes "m"; kind = Mutex } ∷ [];
  jobs = worker (codes "a") 1 ∷ worker (codes "b") 1 ∷ [];
}

two_jobs_one_mutex : report_of one_mutex
    ≡ codes "0 a takes m\n0 b waits m 0\n1 a gives m sent 0\n1 a done\n1 b served m 0\n"
    ++ codes "2 b gives m free\n2 b done\n"
    ++ codes "end m free 1 held 0 line 0\n"
    ++ codes "total done 2 gaveup 0 late 0 unfinished 0\n"
unfolding digits
two_jobs_one_mutex = refl

-- three elements, one of which goes back before the last is taken, and two who wait
abbrev one_pool : Plan
one_pool = record {
  version = 1;
  turns = 5;
  resources = record { name = codes "p"; kind = Pool 3 } ∷ [];
  jobs = job (codes "a") (Take 0 ∷ Take 0 ∷ Give 0 ∷ Take 0 ∷ Take 0 ∷ Work 2 ∷ Give 0 ∷ []) None
      ∷ job (codes "b") (Take 0 ∷ []) (Some 1)
      ∷ job (codes "c") (Take 0 ∷ []) None
      ∷ [];
}

pool_in_order : report_of one_pool
    ≡ codes "0 a takes p element 0\n0 a takes p element 1\n0 a gives p element 0 free\n"
    ++ codes "0 a takes p element 2\n0 a takes p element 0\n0 b waits p 4\n0 c waits p 5\n1 b gaveup p 4\n"
    ++ codes "2 a gives p element 1 sent 5\n2 a gives p element 2 free\n2 a gives p element 0 free\n2 a done\n"
    ++ codes "2 c served p 5 element 1\n2 c gives p element 1 free\n2 c done\n"
    ++ codes "end p free 3 held 0 line 0\n"
    ++ codes "total done 2 gaveup 1 late 0 unfinished 0\n"
unfolding digits
pool_in_order = refl

abbrev database_and_buffer : Plan
database_and_buffer = record {
  version = 1;
  turns = 10;
  resources = record { name = codes "db"; kind = Semaphore 2 } ∷ record { name = codes "buf"; kind = Pool 1 } ∷ [];
  jobs = job (codes "j0") (Work 4 ∷ Take 0 ∷ Work 3 ∷ []) (Some 4)
      ∷ job (codes "j1") (Work 1 ∷ Take 0 ∷ Take 1 ∷ Work 4 ∷ []) None
      ∷ job (codes "j2") (Work 1 ∷ Take 0 ∷ Take 1 ∷ Work 4 ∷ []) (Some 13)
      ∷ [];
}

an_element_is_sent : report_of database_and_buffer
    ≡ codes "1 j1 takes db\n1 j1 takes buf element 0\n1 j2 takes db\n1 j2 waits buf 1\n4 j0 waits db 0\n"
    ++ codes "5 j0 gaveup db 0\n5 j1 gives db free\n5 j1 gives buf element 0 sent 1\n5 j1 done\n"
    ++ codes "5 j2 served buf 1 element 0\n9 j2 gives db free\n9 j2 gives buf element 0 free\n9 j2 done\n"
    ++ codes "end db free 2 held 0 line 0\nend buf free 1 held 0 line 0\n"
    ++ codes "total done 2 gaveup 1 late 0 unfinished 0\n"
unfolding digits
an_element_is_sent = refl

-- two who arrive twice, one of them in the turn of its first arrival
abbrev two_rounds : Plan
two_rounds = record {
  version = 1;
  turns = 8;
  resources = record { name = codes "b"; kind = Rounds 2 2 } ∷ [];
  jobs = job (codes "x") (Arrive 0 ∷ Work 1 ∷ Arrive 0 ∷ []) None
      ∷ job (codes "y") (Work 1 ∷ Arrive 0 ∷ Arrive 0 ∷ []) None
      ∷ [];
}

two_parties_two_rounds : report_of two_rounds
    ≡ codes "0 x waits b.0 0\n1 y arrives b.0 last\n1 y waits b.1 0\n2 x served b.0 0\n"
    ++ codes "3 x arrives b.1 last\n3 x done\n3 y served b.1 0\n3 y done\n"
    ++ codes "end b rounds 2\n"
    ++ codes "total done 2 gaveup 0 late 0 unfinished 0\n"
unfolding digits
two_parties_two_rounds = refl

-- two parties withdraw at their deadlines, so the last one waits on
abbrev withdrawal : Plan
withdrawal = record {
  version = 1;
  turns = 6;
  resources = record { name = codes "b"; kind = Rounds 3 1 } ∷ [];
  jobs = job (codes "x") (Arrive 0 ∷ []) (Some 1)
      ∷ job (codes "y") (Work 2 ∷ Arrive 0 ∷ []) None
      ∷ job (codes "z") (Work 2 ∷ Arrive 0 ∷ []) (Some 4)
      ∷ [];
}

one_withdraws : report_of withdrawal
    ≡ codes "0 x waits b.0 0\n1 x gaveup b.0 0\n2 y waits b.0 1\n2 z waits b.0 2\n4 z gaveup b.0 2\n"
    ++ codes "end b rounds 0\n"
    ++ codes "total done 0 gaveup 2 late 0 unfinished 1\n"
unfolding digits
one_withdraws = refl

-- a latch of two, at which one passes late and one gives up
abbrev one_latch : Plan
one_latch = record {
  version = 1;
  turns = 6;
  resources = record { name = codes "go"; kind = Latch 2 } ∷ [];
  jobs = job (codes "a") (Await 0 ∷ []) (Some 1)
      ∷ job (codes "b") (Await 0 ∷ []) None
      ∷ job (codes "c") (Work 1 ∷ Await 0 ∷ []) (Some 3)
      ∷ job (codes "d") (Work 1 ∷ Down 0 ∷ Work 1 ∷ Down 0 ∷ Down 0 ∷ Await 0 ∷ []) None
      ∷ [];
}

latch_in_order : report_of one_latch
    ≡ codes "0 a waits go 0\n0 b waits go 1\n1 a gaveup go 0\n1 c waits go 2\n1 d downs go left 1\n"
    ++ codes "2 d downs go open\n2 d downs go already\n2 d passes go\n2 d done\n3 b served go 1\n3 b done\n"
    ++ codes "3 c late go 2\n"
    ++ codes "end go count 0 line 0\n"
    ++ codes "total done 2 gaveup 1 late 1 unfinished 0\n"
unfolding digits
latch_in_order = refl

-- a waiter tries once more, and then gives up
abbrev retried_once : Plan
retried_once = record {
  version = 2;
  turns = 10;
  resources = record { name = codes "db"; kind = Semaphore 1 } ∷ [];
  jobs = worker (codes "a") 5 ∷ trying (codes "b") (Take 0 ∷ []) 2 1 ∷ job (codes "c") (Take 0 ∷ []) None ∷ [];
}

one_retry_then_it_gives_up : report_of retried_once
    ≡ codes "0 a takes db\n0 b waits db 0\n0 c waits db 1\n2 b retries db 0\n2 b waits db 2\n4 b gaveup db 2\n"
    ++ codes "5 a gives db sent 1\n5 a done\n5 c served db 1\n5 c gives db free\n5 c done\n"
    ++ codes "end db free 1 held 0 line 0\n"
    ++ codes "total done 2 gaveup 1 late 0 unfinished 0\n"
unfolding digits
one_retry_then_it_gives_up = refl

-- an arrival in the second round is made again in the same round
abbrev arrives_again : Plan
arrives_again = record {
  version = 2;
  turns = 9;
  resources = record { name = codes "b"; kind = Rounds 2 2 } ∷ [];
  jobs = trying (codes "x") (Arrive 0 ∷ Arrive 0 ∷ []) 2 2
      ∷ job (codes "y") (Arrive 0 ∷ Work 5 ∷ Arrive 0 ∷ []) None
      ∷ [];
}

a_retried_arrival_stays_in_its_round : report_of arrives_again
    ≡ codes "0 x waits b.0 0\n0 y arrives b.0 last\n1 x served b.0 0\n1 x waits b.1 0\n3 x retries b.1 0\n"
    ++ codes "3 x waits b.1 1\n5 x retries b.1 1\n5 x waits b.1 2\n5 y arrives b.1 last\n5 y done\n"
    ++ codes "6 x served b.1 2\n6 x done\n"
    ++ codes "end b rounds 2\n"
    ++ codes "total done 2 gaveup 0 late 0 unfinished 0\n"
unfolding digits
a_retried_arrival_stays_in_its_round = refl

-- no retry at the deadline, and two that are served in their retries
abbrev with_deadlines : Plan
with_deadlines = record {
  version = 2;
  turns = 8;
  resources = record { name = codes "p"; kind = Pool 1 } ∷ record { name = codes "go"; kind = Latch 1 } ∷ [];
  jobs = record {
    name = codes "l";
    steps = Work 1 ∷ Await 1 ∷ [];
    deadline = None;
    within = Some 3;
    retry = 1;
  }
      ∷ job (codes "a") (Take 0 ∷ Work 3 ∷ Give 0 ∷ Work 1 ∷ Down 1 ∷ []) None
      ∷ record { name = codes "b"; steps = Take 0 ∷ []; deadline = Some 2; within = Some 1; retry = 5 }
      ∷ trying (codes "c") (Take 0 ∷ []) 2 1
      ∷ [];
}

deadlines_end_retries : report_of with_deadlines
    ≡ codes "0 a takes p element 0\n0 b waits p 1\n0 c waits p 2\n1 l waits go 0\n1 b retries p 1\n1 b waits p 3\n"
    ++ codes "2 b gaveup p 3\n2 c retries p 2\n2 c waits p 4\n3 a gives p element 0 sent 4\n"
    ++ codes "3 c served p 4 element 0\n3 c gives p element 0 free\n3 c done\n4 l retries go 0\n4 l waits go 1\n"
    ++ codes "4 a downs go open\n4 a done\n5 l served go 1\n5 l done\n"
    ++ codes "end p free 1 held 0 line 0\nend go count 0 line 0\n"
    ++ codes "total done 3 gaveup 1 late 0 unfinished 0\n"
unfolding digits
deadlines_end_retries = refl
