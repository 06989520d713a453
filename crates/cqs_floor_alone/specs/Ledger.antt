-- What a floor keeps, and the plain floor that it stands for.
use Rattle.std.specs.Prelude.{ℕ, ◌+◌, ◌-◌, List, [], ◌∷◌, ◌++◌, Option, Some, None, length, map, replicate, slice_index, slice_index_or, slice_set}
use Rattle.std.specs.Option.{option_map}
use Rattle.std.specs.List.{fold}
use Rattle.cqs_core.specs.Keyed.{without}
use Rattle.cqs_plan.specs.declared.plans.kind.Kind.{Kind}
use Rattle.cqs_plan.specs.Floor.{PlainFloor, JobWait, Holding, rounds_back}
use Rattle.cqs_rule_laws.specs.declared.config.Place.{Place}
use Rattle.cqs_floor_alone.specs.declared.transfers.Transfer.{Transfer}
use Rattle.cqs_floor_alone.specs.declared.transfers.Transfer.TheVariants.{Got, GaveBack}
use Rattle.cqs_floor_alone_kinds.specs.declared.waits.Wait.{Wait}
use Rattle.cqs_floor_alone_kinds.specs.Stores.{Store}
use Rattle.cqs_floor_alone_kinds.specs.Waits.{wait_for}

pub record Ledger (X : Type 0) : Type 0 where
  -- what each resource is
  pub kinds : List Kind
  -- what each resource is kept as
  pub soles : List X
  -- for each resource how often it has room for a job that begins to wait
  pub room : List ℕ
  -- for each job its wait
  pub waits : List (Option Wait)
  -- for each job how often it arrived at each resource
  pub rounds : List (List ℕ)
  -- what the jobs got and gave back, oldest first
  pub transfers : List Transfer
  -- for how many further transfers there is memory
  pub spare : ℕ

-- what the jobs hold after a transfer
abbrev pub after_transfer : List (List Holding) → Transfer → List (List Holding)
after_transfer holds (Got job at element) =
    slice_set holds job (slice_index_or holds job [] ++ record { at = at; element = element } ∷ [])
after_transfer holds (GaveBack job at) =
    slice_set holds job (without (λ h. h.at) at (slice_index_or holds job []))

-- what so many jobs hold after these transfers
abbrev pub holds_after : ℕ → List Transfer → List (List Holding)
holds_after jobs transfers = fold after_transfer (replicate jobs []) transfers

-- the wait of a job, as the plain floor has it
abbrev pub job_wait : Wait → JobWait
job_wait wait = record { at = wait.at; round = wait.round; number = wait.index }

-- how often a job arrived, at each resource and at one; and once more
abbrev pub own_rounds : List (List ℕ) → ℕ → List ℕ
own_rounds rounds job = slice_index_or rounds job []

abbrev pub own_round : List (List ℕ) → ℕ → ℕ → ℕ
own_round rounds job at = slice_index_or (own_rounds rounds job) at 0

abbrev pub with_arrival : List (List ℕ) → ℕ → ℕ → List (List ℕ)
with_arrival rounds job at =
    slice_set rounds job (slice_set (own_rounds rounds job) at (own_round rounds job at + 1))

module _ {X : Type 0} where
  abbrev pub wait_at : Ledger X → ℕ → Option Wait
  wait_at l job = slice_index_or l.waits job None

  -- what the jobs of a ledger hold
  abbrev pub holds_in : Ledger X → List (List Holding)
  holds_in l = holds_after (length l.waits) l.transfers

  -- the plain floor of a ledger
  abbrev pub plain_floor : Store X → Ledger X → PlainFloor
  plain_floor s l = record {
    kinds = l.kinds;
    histories = map s.history l.soles;
    room = l.room;
    waits = map (option_map job_wait) l.waits;
    holds = holds_in l;
    rounds = l.rounds;
  }

  -- a ledger with these resources
  abbrev pub with_soles : Ledger X → List X → Ledger X
  with_soles l soles = record l { soles = soles }

  -- one more transfer is written down
  abbrev pub with_transfer : Ledger X → Transfer → Ledger X
  with_transfer l transfer =
      record l { transfers = l.transfers ++ transfer ∷ []; spare = l.spare - 1 }

  abbrev pub with_wait : Ledger X → ℕ → Option Wait → Ledger X
  with_wait l job wait = record l { waits = slice_set l.waits job wait }

  -- in which round a job arrives next, of each resource and of one
  abbrev pub rounds_of : Ledger X → ℕ → List ℕ
  rounds_of l job = own_rounds l.rounds job

  abbrev pub round_in : Ledger X → ℕ → ℕ → ℕ
  round_in l job at = own_round l.rounds job at

  -- the job arrived at a resource once more
  abbrev pub with_arrived : Ledger X → ℕ → ℕ → Ledger X
  with_arrived l job at = record l { rounds = with_arrival l.rounds job at }

  -- the job took the arrival back that this wait is, if it is one
  abbrev pub with_back : Ledger X → ℕ → Wait → Ledger X
  with_back l job wait =
      record l { rounds = rounds_back l.kinds l.rounds job (job_wait wait) }

  -- one take, wait or arrival less has room
  abbrev pub with_less_room : Ledger X → ℕ → Ledger X
  with_less_room l at = record l { room = slice_set l.room at (slice_index l.room at - 1) }

  -- a take that got an element or a permit, and one that waits
  abbrev pub with_taken : Ledger X → ℕ → ℕ → ℕ → Ledger X
  with_taken l at job element = with_transfer (with_less_room l at) (Got job at element)

  abbrev pub with_waiting : Ledger X → ℕ → ℕ → ℕ → Place → Ledger X
  with_waiting l at job round place =
      with_wait (with_less_room l at) job (Some (wait_for at round place))

  -- the wait of a job is over, and it has what came
  abbrev pub with_grant : Ledger X → ℕ → ℕ → ℕ → Ledger X
  with_grant l job at element = with_transfer (with_wait l job None) (Got job at element)
