-- What a tenant replies to its clients' requests. Its clients make their calls as one caller of its
-- own plain semaphore, one after the other.
use Rattle.std.specs.Prelude.{ℕ, ◌==◌, List, [], ◌∷◌, ◌++◌, Option, Some, None, if◌then◌else◌}
use Rattle.std.specs.List.{fold}
use Rattle.cqs_core.specs.declared.calls.Call.{Call}
use Rattle.cqs_core.specs.declared.calls.Call.TheVariants as call
use Rattle.cqs_core.specs.declared.calls.Reply.{Reply}
use Rattle.cqs_core.specs.declared.calls.Reply.TheVariants as reply
use Rattle.cqs_core.specs.declared.entries.Entry.{Entry}
use Rattle.cqs_core.specs.SemaphoreEntries.{after_entry}
use Rattle.cqs_core.specs.SemaphoreObject.{Semaphore, opening}
use Rattle.cqs_core.specs.SoleCaller.{sole_call}
use Rattle.cqs_limiter_requests.specs.declared.asks.Ask.{Ask}
use Rattle.cqs_limiter_requests.specs.declared.asks.Ask.TheVariants as ask
use Rattle.cqs_limiter_requests.specs.declared.asks.Answer.{Answer}
use Rattle.cqs_limiter_requests.specs.declared.asks.Answer.TheVariants as answer
use Rattle.cqs_limiter_requests.specs.declared.asks.Line.{Line}
use Rattle.cqs_limiter_requests.specs.declared.asks.LimitOutcome.{LimitOutcome}

-- where a client is
pub data Place : Type 0 where
  out : Place
  waiting : ℕ → Place
  holding : Place

-- a tenant: its semaphore, and where each client is
pub record Tenancy : Type 0 where
  pub semaphore : Semaphore
  pub place : ℕ → Place

-- at first all permits are free, and each client is out
abbrev pub opened : ℕ → Tenancy
opened permits = record { semaphore = opening permits; place = λ j. out }

-- the call that a client makes who is there and asks so; none, where it can't ask this
abbrev pub call_at : Place → Ask → Option Call
call_at out ask.Enter = Some (call.Acquire 0)
call_at out ask.Look = None
call_at out ask.Quit = None
call_at out ask.Leave = None
call_at (waiting k) ask.Enter = None
call_at (waiting k) ask.Look = Some (call.Poll 0 k)
call_at (waiting k) ask.Quit = Some (call.Cancel 0 k)
call_at (waiting k) ask.Leave = None
call_at holding ask.Enter = None
call_at holding ask.Look = None
call_at holding ask.Quit = None
call_at holding ask.Leave = Some (call.Release 0)

-- what the client is answered, where its call is replied to so
abbrev pub answer_by : Reply → Answer
answer_by reply.Now = answer.Now
answer_by (reply.Later k) = answer.Waits k
answer_by reply.Got = answer.Refused
answer_by reply.Busy = answer.Refused
answer_by (reply.Took k) = answer.Now
answer_by reply.Freed = answer.Freed
answer_by (reply.Sent k) = answer.Sent k
answer_by reply.Granted = answer.Granted
answer_by reply.Pending = answer.Pending
answer_by reply.Cancelled = answer.Gone
answer_by reply.TooLate = answer.Late

-- where the client is after it was answered so
abbrev pub place_by : Place → Answer → Place
place_by was answer.Now = holding
place_by was (answer.Waits k) = waiting k
place_by was answer.Granted = holding
place_by was answer.Pending = was
place_by was answer.Gone = out
place_by was answer.Late = holding
place_by was answer.Freed = out
place_by was (answer.Sent k) = out
place_by was answer.Refused = was

-- a request's call, its entries and its answer; a refused one has no entries
abbrev pub entries_by : Semaphore → Option Call → List Entry
entries_by o None = []
entries_by o (Some c) = (sole_call o c).entries

abbrev pub answered_by : Semaphore → Option Call → Answer
answered_by o None = answer.Refused
answered_by o (Some c) = answer_by (sole_call o c).answer

module _ (t : Tenancy) (line : Line) where
  abbrev pub call_of : Option Call
  call_of = call_at (t.place line.client) line.ask

  abbrev pub entries_of : List Entry
  entries_of = entries_by t.semaphore call_of

  abbrev pub answer_of : Answer
  answer_of = answered_by t.semaphore call_of

  abbrev pub after_line : Tenancy
  after_line = record {
    semaphore = fold after_entry t.semaphore entries_of;
    place = λ j.
        if j == line.client then place_by (t.place line.client) answer_of else t.place j;
  }

-- One thread asks line after line, each at its own tenant.

-- the tenants after a line
abbrev pub after_ask : (ℕ → Tenancy) → Line → ℕ → Tenancy
after_ask all line t = if t == line.tenant then after_line (all t) line else all t

abbrev pub after_asks : (ℕ → Tenancy) → List Line → ℕ → Tenancy
after_asks all lines = fold after_ask all lines

abbrev pub outcome_of : (ℕ → Tenancy) → Line → LimitOutcome
outcome_of all line = record {
  tenant = line.tenant;
  client = line.client;
  ask = line.ask;
  answer = answer_of (all line.tenant) line;
}

-- each line with its reply
abbrev pub outcomes : (ℕ → Tenancy) → List Line → List LimitOutcome
outcomes all [] = []
outcomes all (line ∷ lines) = outcome_of all line ∷ outcomes (after_ask all line) lines

-- the entries of the replies of one tenant
abbrev pub entries_in : (ℕ → Tenancy) → ℕ → List Line → List Entry
entries_in all t [] = []
entries_in all t (line ∷ lines) =
    (if t == line.tenant then entries_of (all t) line else [])
    ++ entries_in (after_ask all line) t lines
