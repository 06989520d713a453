-- The turn machine over a list of answers: what a worker heard from its floor.
use Rattle.std.specs.Prelude.{◌≡◌, ℕ, Bool, true, false, ◌&&◌, List, [], ◌∷◌, ◌++◌, drop, length, map, Option, Some, None, slice_index_or, slice_set}
use Rattle.cqs_plan.specs.declared.plans.kind.Kind.{Kind}
use Rattle.cqs_plan.specs.declared.plans.kind.Kind.TheVariants as kind
use Rattle.cqs_plan.specs.declared.floors.answers.FloorTake.{FloorTake}
use Rattle.cqs_plan.specs.declared.floors.answers.FloorTake.TheVariants as take
use Rattle.cqs_plan.specs.declared.floors.answers.FloorLook.{FloorLook}
use Rattle.cqs_plan.specs.declared.floors.answers.FloorLook.TheVariants.{Pending}
use Rattle.cqs_plan.specs.declared.floors.answers.FloorLeave.{FloorLeave}
use Rattle.cqs_plan.specs.declared.floors.answers.FloorLeave.TheVariants.{Gone}
use Rattle.cqs_plan.specs.declared.floors.answers.FloorDown.{FloorDown}
use Rattle.cqs_plan.specs.declared.floors.answers.FloorDown.TheVariants.{Already}
use Rattle.cqs_plan.specs.Floor.{PlainFloor, round_of}
use Rattle.cqs_plan.specs.FloorCalls.{after_look, after_leave}
use Rattle.cqs_plan.specs.FloorHistory.{History, of_permits}
use Rattle.cqs_turns_report.specs.Machine.{World, Role}
use Rattle.cqs_turns_report.specs.Turns.{places_held}
use Rattle.cqs_floor_shared.specs.declared.shared.SharedGive.{SharedGive}
use Rattle.cqs_floor_shared.specs.declared.shared.SharedGive.TheVariants as shared
use Rattle.cqs_floor_shared.specs.Entries.{Entries, with_entries, own_history}
use Rattle.cqs_floor_shared.specs.AnswerEntries.{came_entries, give_entries, look_entries, leave_entries, unless_came, down_entries}
use Rattle.cqs_floor_shared.specs.Shared.{kind_in}
use Rattle.cqs_floor_shared.specs.Calls.{board_taken, board_waited, board_arrived, board_given, element_held}
use Rattle.cqs_work.specs.declared.waits.Waited.{Waited}
use Rattle.cqs_work.specs.Desk.{Desk, with_answer}
use Rattle.cqs_work.specs.Gated.{HasTold}
use Rattle.cqs_work.specs.Later.{Later}

-- what a call was answered
pub data Answer : Type 0 where
  -- a take, a wait at a latch, an arrival: the answer, the number that was drawn where the job had
  -- at once what it came for, and whether what it waits for came with its number
  come : (answer : Option FloorTake) (drew : Option ℕ) (with_it : Bool) → Answer
  gave : (answer : SharedGive) → Answer
  counted : (answer : FloorDown) → Answer
  looked : (answer : FloorLook) → Answer
  -- a leave; at a barrier also whether the party stays
  left : (answer : FloorLeave) (stays : Bool) → Answer

pub record Heard : Type 0 where
  -- the answers to the calls that are still to be made
  pub answers : List Answer
  -- Each call so far had an answer of its kind: a take of a pool drew a number, only a permit came
  -- with its number, and what came so was found at the next look, or was too late to be left.
  pub fits : Bool
  -- the number of the worker's pass, what its jobs have, and the entries of its calls so far
  pub number : ℕ
  pub board : PlainFloor
  pub came : List Bool
  pub entries : List History
  -- the waits of its jobs so far, in order
  pub waits : List Waited

-- what the next answer says, to a call that may have to wait
abbrev pub come_heard : List Answer → Option FloorTake
come_heard (come answer drew with_it ∷ rest) = answer
come_heard rest = None

abbrev pub drew_heard : List Answer → Option ℕ
drew_heard (come answer drew with_it ∷ rest) = drew
drew_heard rest = None

abbrev pub with_it_heard : List Answer → Bool
with_it_heard (come answer drew with_it ∷ rest) = with_it
with_it_heard rest = false

abbrev pub is_come : List Answer → Bool
is_come (come answer drew with_it ∷ rest) = true
is_come rest = false

-- to a give
abbrev pub give_heard : List Answer → SharedGive
give_heard (gave answer ∷ rest) = answer
give_heard rest = shared.Void 0

abbrev pub is_give : List Answer → Bool
is_give (gave answer ∷ rest) = true
is_give rest = false

-- to a count down
abbrev pub down_heard : List Answer → FloorDown
down_heard (counted answer ∷ rest) = answer
down_heard rest = Already

abbrev pub is_down : List Answer → Bool
is_down (counted answer ∷ rest) = true
is_down rest = false

-- to a look
abbrev pub look_heard : List Answer → FloorLook
look_heard (looked answer ∷ rest) = answer
look_heard rest = Pending

abbrev pub is_look : List Answer → Bool
is_look (looked answer ∷ rest) = true
is_look rest = false

-- to a leave
abbrev pub leave_heard : List Answer → FloorLeave
leave_heard (left answer stays ∷ rest) = answer
leave_heard rest = Gone

abbrev pub stays_heard : List Answer → Bool
stays_heard (left answer stays ∷ rest) = stays
stays_heard rest = false

abbrev pub is_leave : List Answer → Bool
is_leave (left answer stays ∷ rest) = true
is_leave rest = false

-- a take of a pool draws a number each time
abbrev pub is_drawn : Option Kind → Option FloorTake → Option ℕ → Bool
is_drawn (Some (kind.Pool elements)) (Some (take.Now element)) None = false
is_drawn k answer drew = true

-- only a permit comes with its number
abbrev pub may_come : Bool → Option Kind → Bool
may_come false k = true
may_come true (Some (kind.Semaphore permits)) = true
may_come true (Some kind.Mutex) = true
may_come true (Some (kind.Pool elements)) = false
may_come true (Some (kind.Latch count)) = false
may_come true (Some (kind.Rounds parties rounds)) = false
may_come true None = false

-- what came with its number is found at once, and is too late to be left
abbrev pub is_found : Bool → FloorLook → Bool
is_found true Pending = false
is_found came answer = true

abbrev pub is_kept : Bool → FloorLeave → Bool
is_kept true Gone = false
is_kept came answer = true

-- the log with the entries of a call at a place
abbrev pub with_call : List History → ℕ → Entries → List History
with_call all at entries =
    slice_set all at (with_entries (slice_index_or all at (of_permits [])) entries)

-- a job came there, in this round, and was answered so; after it the jobs have this
abbrev pub heard_came : ℕ → ℕ → ℕ → PlainFloor → Option FloorTake → Heard → Heard
heard_came at round job board answer h = record {
  answers = drop 1 h.answers;
  fits = h.fits && is_come h.answers
      && is_drawn (kind_in h.board at) answer (drew_heard h.answers)
      && may_come (with_it_heard h.answers) (kind_in h.board at);
  number = h.number;
  board = board;
  came = slice_set h.came job (with_it_heard h.answers);
  entries = with_call h.entries at
      (came_entries (kind_in h.board at) round h.number answer (drew_heard h.answers));
  waits = with_answer h.waits at round job answer;
}

abbrev pub heard_taken : Role → ℕ → Option FloorTake → Heard → Heard
heard_taken r at answer h =
    heard_came at 0 r.place (board_taken h.board at r.place answer) answer h

abbrev pub heard_waited : Role → ℕ → Option FloorTake → Heard → Heard
heard_waited r at answer h =
    heard_came at 0 r.place (board_waited h.board at r.place answer) answer h

abbrev pub heard_arrived : Role → ℕ → Option FloorTake → Heard → Heard
heard_arrived r at answer h =
    heard_came at (round_of h.board r.place at) r.place (board_arrived h.board at r.place answer)
    answer h

abbrev pub heard_given : Role → ℕ → Heard → Heard
heard_given r at h = record {
  answers = drop 1 h.answers;
  fits = h.fits && is_give h.answers;
  number = h.number;
  board = board_given h.board at r.place;
  came = h.came;
  entries = with_call h.entries at
      (give_entries (kind_in h.board at) h.number (element_held h.board at r.place)
      (give_heard h.answers));
  waits = h.waits;
}

abbrev pub heard_counted : Role → ℕ → Heard → Heard
heard_counted r at h = record {
  answers = drop 1 h.answers;
  fits = h.fits && is_down h.answers;
  number = h.number;
  board = h.board;
  came = h.came;
  entries = with_call h.entries at (down_entries h.number (down_heard h.answers));
  waits = h.waits;
}

abbrev pub heard_looked : Role → ℕ → ℕ → ℕ → FloorLook → Heard → Heard
heard_looked r at round number answer h = record {
  answers = drop 1 h.answers;
  fits = h.fits && is_look h.answers && is_found (slice_index_or h.came r.place false) answer;
  number = h.number;
  board = after_look h.board r.place answer;
  came = h.came;
  entries = with_call h.entries at
      (unless_came (slice_index_or h.came r.place false)
      (look_entries (kind_in h.board at) round h.number number answer));
  waits = h.waits;
}

abbrev pub heard_left : Role → ℕ → ℕ → ℕ → FloorLeave → Heard → Heard
heard_left r at round number answer h = record {
  answers = drop 1 h.answers;
  fits = h.fits && is_leave h.answers && is_kept (slice_index_or h.came r.place false) answer;
  number = h.number;
  board = after_leave h.board r.place answer;
  came = h.came;
  entries = with_call h.entries at
      (unless_came (slice_index_or h.came r.place false)
      (leave_entries (kind_in h.board at) round h.number number answer (stays_heard h.answers)));
  waits = h.waits;
}

-- the answers of the list answer the calls
abbrev pub heard_world : World Heard
heard_world = record {
  take_answer = λ r at h. come_heard h.answers;
  after_take = heard_taken;
  after_give = heard_given;
  after_down = heard_counted;
  wait_answer = λ r at h. come_heard h.answers;
  after_wait = heard_waited;
  round = λ r at h. round_of h.board r.place at;
  arrive_answer = λ r at h. come_heard h.answers;
  after_arrive = heard_arrived;
  look_answer = λ r h. look_heard h.answers;
  after_look = heard_looked;
  leave_answer = λ r h. leave_heard h.answers;
  after_leave = heard_left;
  after_retry = λ r at round number. heard_left r at round number Gone;
  done = λ r h. h;
  held = λ job h. places_held h.board job;
}

-- what a worker has heard with this at hand, and who will hear these answers
abbrev pub heard : Desk → List Answer → Heard
heard d answers = record {
  answers = answers;
  fits = true;
  number = d.floor.number;
  board = d.floor.board;
  came = d.floor.came;
  entries = map (own_history d.floor.number) d.floor.seen;
  waits = d.waits;
}

-- Between f and g, which is later, the calls of `go` were answered, and then `after` is left: there
-- is a list of the answers, one for each call. The gate was told of as many.
pub record Hears {X : Type 0} (f g : Desk) (go after : Heard → X) : Type 0 where
  pub later : Later f.floor g.floor
  pub answers : List Answer
  pub told : HasTold f.gate g.gate (length answers)
  pub plays : (rest : List Answer) → go (heard f (answers ++ rest)) ≡ after (heard g rest)
