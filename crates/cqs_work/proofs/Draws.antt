-- What a call adds to the numbers that its pass drew, and what it leaves of the room.
use Rattle.std.proofs.Common.{◌≡◌, ◌≢◌, ◌⊎◌, inl, inr, ℕ, ◌+◌, ◌-◌, ◌<◌, ◌≤◌, ◌==◌, Bool, true, false, cond, List, [], ◌++◌, Option, Some, None, length, count_by, get_or, set, refl, ap, sym, ◌∙◌, subst, eq-eqb, ne_eqb, arith}
use Rattle.std.specs.Bool.{if◌then◌else◌}
use Rattle.std.proofs.lemmas.Bool.{cases_eq, cases_lt}
use Rattle.std.proofs.lemmas.List.{get_or-set_same, get_or-set_other, get_or_past}
use Rattle.std.proofs.lemmas.List.Elements.{filter-append}
use Rattle.std.proofs.lemmas.List.Sums.{sum_by-append}
use Rattle.cqs_core.specs.Parts.{part}
use Rattle.cqs_core.specs.SemaphoreNames.{entry_names as permit_names}
use Rattle.cqs_pool_object.specs.PoolNames.{entry_names as element_names}
use Rattle.cqs_latch_object.specs.LatchNames.{entry_names as latch_names}
use Rattle.cqs_barrier_object.specs.BarrierNames.{entry_names as party_names}
use Rattle.cqs_barrier_object.specs.declared.entries.BarrierEntry.{BarrierEntry}
use Rattle.cqs_plan.specs.declared.plans.kind.Kind.{Kind}
use Rattle.cqs_plan.specs.declared.plans.kind.Kind.TheVariants as kind
use Rattle.cqs_plan.specs.declared.floors.answers.FloorTake.{FloorTake}
use Rattle.cqs_plan.specs.declared.floors.answers.FloorTake.TheVariants.{Now, Waits}
use Rattle.cqs_plan.specs.declared.floors.answers.FloorLook.{FloorLook}
use Rattle.cqs_plan.specs.declared.floors.answers.FloorLook.TheVariants.{Pending, Granted}
use Rattle.cqs_plan.specs.declared.floors.answers.FloorLeave.{FloorLeave}
use Rattle.cqs_plan.specs.declared.floors.answers.FloorLeave.TheVariants.{Gone, Late}
use Rattle.cqs_plan.specs.declared.floors.answers.FloorDown.{FloorDown}
use Rattle.cqs_plan.specs.declared.floors.answers.FloorDown.TheVariants as down
use Rattle.cqs_plan.specs.Floor.{PlainFloor, JobWait, room_at, is_holdable, with_done_in, with_less_room, with_newest, with_wait}
use Rattle.cqs_plan.specs.FloorCalls.{after_look, after_leave, with_granted, with_left}
use Rattle.cqs_plan.specs.FloorHistory.{Deed, History, of_permits, of_elements, of_latch, of_rounds, entries_in, is_late, gets}
use Rattle.cqs_floor_shared.specs.declared.shared.SharedGive.{SharedGive}
use Rattle.cqs_floor_shared.specs.declared.shared.SharedGive.TheVariants as shared
use Rattle.cqs_floor_shared.specs.Entries.{Entries, AreOf, at_permits, at_elements, at_latch, in_round, with_entries, own_entries, enters_for_permit, enters_for_element, enters_at_latch, enters_at_barrier}
use Rattle.cqs_floor_shared.specs.AnswerEntries.{came_entries, give_entries, look_entries, leave_entries, down_entries, unless_came}
use Rattle.cqs_floor_shared.specs.Shared.{Shared, Sees, seen_at}
use Rattle.cqs_floor_shared.specs.Calls.{board_taken, board_waited, board_arrived}
use Rattle.cqs_work.specs.Drawn.{own_drawn, drew}
use Rattle.cqs_work.proofs.Lasting.{seen-here, seen-else, seen-past}

-- how many of these entries draw a number, at a barrier in this round
abbrev pub entered_in : Entries → ℕ → ℕ
entered_in (at_permits es) round = count_by enters_for_permit es
entered_in (at_elements es) round = count_by enters_for_element es
entered_in (at_latch es) round = count_by enters_at_latch es
entered_in (in_round r es) round = if round == r then count_by enters_at_barrier es else 0

-- what the caller n drew among these, and what is seen of the rounds where one has more
abbrev parties_drawn : ℕ → List BarrierEntry → ℕ
parties_drawn n es = count_by enters_at_barrier (part party_names n es)

abbrev with_more : List (List BarrierEntry) → ℕ → List BarrierEntry → List (List BarrierEntry)
with_more all r more = set all r (entries_in all r ++ more)

drawn-rounds : (n : ℕ) (all : List (List BarrierEntry)) (r : ℕ) (more : List BarrierEntry) → r < length all
    → (round : ℕ) → parties_drawn n (entries_in (with_more all r more) round)
    ≡ parties_drawn n (entries_in all round) + (if round == r then parties_drawn n more else 0)
drawn-rounds n all r more there round = go (cases_eq round r)
  where
    go : (round ≡ r) ⊎ (round ≢ r) → parties_drawn n (entries_in (with_more all r more) round)
        ≡ parties_drawn n (entries_in all round) + (if round == r then parties_drawn n more else 0)
    go (inl same) =
        let here : parties_drawn n (entries_in (with_more all r more) r)
        ≡ parties_drawn n (entries_in all r) + parties_drawn n more
        = ap (parties_drawn n) (get_or-set_same all r (entries_in all r ++ more) [] there)
        ∙ ap (count_by enters_at_barrier) (filter-append (party_names n) (entries_in all r) more)
        ∙ sum_by-append (λ e. cond {A = ℕ} (enters_at_barrier e) 1 0) (part party_names n (entries_in all r))
        (part party_names n more) in
        let yes : (if round == r then parties_drawn n more else 0) ≡ parties_drawn n more
        = ap (λ b. if b then parties_drawn n more else 0) (eq-eqb round r same) in
        let now : parties_drawn n (entries_in (with_more all r more) round)
        ≡ parties_drawn n (entries_in (with_more all r more) r)
        = ap (λ m. parties_drawn n (entries_in (with_more all r more) m)) same in
        let before : parties_drawn n (entries_in all round) ≡ parties_drawn n (entries_in all r)
        = ap (λ m. parties_drawn n (entries_in all m)) same in
        omega (arith, here, yes, now, before)
    go (inr other) =
        let no : (if round == r then parties_drawn n more else 0) ≡ 0
        = ap (λ b. if b then parties_drawn n more else 0) (ne_eqb round r other) in
        let kept : parties_drawn n (entries_in (with_more all r more) round) ≡ parties_drawn n (entries_in all round)
        = ap (parties_drawn n) (get_or-set_other all r round (entries_in all r ++ more) [] other) in
        omega (arith, no, kept)

-- in a longer history
drawn-with : (n : ℕ) (h : History) (more : Entries) → AreOf h more → (round : ℕ)
    → own_drawn n (with_entries h more) round ≡ own_drawn n h round + entered_in (own_entries n more) round
drawn-with n (of_permits h) (at_permits more) words round =
    ap (count_by enters_for_permit) (filter-append (permit_names n) h more)
    ∙ sum_by-append (λ e. cond {A = ℕ} (enters_for_permit e) 1 0) (part permit_names n h) (part permit_names n more)
drawn-with n (of_elements h) (at_elements more) words round =
    ap (count_by enters_for_element) (filter-append (element_names n) h more)
    ∙ sum_by-append (λ e. cond {A = ℕ} (enters_for_element e) 1 0) (part element_names n h)
    (part element_names n more)
drawn-with n (of_latch h) (at_latch more) words round =
    ap (count_by enters_at_latch) (filter-append (latch_names n) h more)
    ∙ sum_by-append (λ e. cond {A = ℕ} (enters_at_latch e) 1 0) (part latch_names n h) (part latch_names n more)
drawn-with n (of_rounds all) (in_round r more) words round = drawn-rounds n all r more words round
drawn-with n (of_permits h) (at_elements more) words round = absurd words
drawn-with n (of_permits h) (at_latch more) words round = absurd words
drawn-with n (of_permits h) (in_round r more) words round = absurd words
drawn-with n (of_elements h) (at_permits more) words round = absurd words
drawn-with n (of_elements h) (at_latch more) words round = absurd words
drawn-with n (of_elements h) (in_round r more) words round = absurd words
drawn-with n (of_latch h) (at_permits more) words round = absurd words
drawn-with n (of_latch h) (at_elements more) words round = absurd words
drawn-with n (of_latch h) (in_round r more) words round = absurd words
drawn-with n (of_rounds all) (at_permits more) words round = absurd words
drawn-with n (of_rounds all) (at_elements more) words round = absurd words
drawn-with n (of_rounds all) (at_latch more) words round = absurd words

-- a call that draws no more than it uses up of the room
pub room-kept : (f : Shared) (at : ℕ) (entries : Entries) (g : Shared) → Sees f at entries g
    → ((round : ℕ) → entered_in entries round + room_at g.board at ≤ room_at f.board at)
    → ((q : ℕ) → q ≢ at → room_at g.board q ≤ room_at f.board q)
    → (q round : ℕ) → drew g q round + room_at g.board q ≤ drew f q round + room_at f.board q
room-kept f at entries g sees uses elsewhere q round = go (cases_eq q at)
  where
    own : (m : ℕ) → drew g m round ≡ own_drawn f.number (seen_at g m) round
    own m = ap (λ n. own_drawn n (seen_at g m) round) sees.same.number

    here : (at < length f.seen) ⊎ (length f.seen ≤ at)
        → drew g at round + room_at g.board at ≤ drew f at round + room_at f.board at
    here (inl there) =
        let longer : own_drawn f.number (seen_at g at) round
        ≡ drew f at round + entered_in (own_entries f.number sees.more) round
        = ap (λ h. own_drawn f.number h round) (seen-here f at entries g sees there)
        ∙ drawn-with f.number (seen_at f at) sees.more sees.words round in
        let its : entered_in (own_entries f.number sees.more) round ≡ entered_in entries round
        = ap (λ e. entered_in e round) sees.mine in
        omega (arith, own at, longer, its, uses round)
    here (inr past) =
        let same : own_drawn f.number (seen_at g at) round ≡ drew f at round
        = ap (λ h. own_drawn f.number h round) (seen-past f at entries g sees past) in
        omega (arith, own at, same, uses round)

    go : (q ≡ at) ⊎ (q ≢ at) → drew g q round + room_at g.board q ≤ drew f q round + room_at f.board q
    go (inl same) =
        subst (λ m. drew g m round + room_at g.board m ≤ drew f m round + room_at f.board m) (sym same)
        (here (cases_lt at (length f.seen)))
    go (inr other) =
        let same : own_drawn f.number (seen_at g q) round ≡ drew f q round
        = ap (λ h. own_drawn f.number h round) (seen-else f at entries g sees q other) in
        omega (arith, own q, same, elsewhere q other)

-- Of the calls that may have to wait.

few-either : (b : Bool) (n : ℕ) → n ≤ 1 → (if b then n else 0) ≤ 1
few-either true n few = few
few-either false n few = omega arith

-- each draws one number at most
pub came-few : (k : Option Kind) (round c : ℕ) (got : Option FloorTake) (drew : Option ℕ) (q : ℕ)
    → entered_in (came_entries k round c got drew) q ≤ 1
came-few (Some (kind.Semaphore permits)) round c (Some (Now e)) drew q = omega arith
came-few (Some (kind.Semaphore permits)) round c (Some (Waits k)) drew q = omega arith
came-few (Some (kind.Semaphore permits)) round c None drew q = omega arith
came-few (Some kind.Mutex) round c (Some (Now e)) drew q = omega arith
came-few (Some kind.Mutex) round c (Some (Waits k)) drew q = omega arith
came-few (Some kind.Mutex) round c None drew q = omega arith
came-few (Some (kind.Pool elements)) round c (Some (Now e)) None q = omega arith
came-few (Some (kind.Pool elements)) round c (Some (Now e)) (Some k) q = omega arith
came-few (Some (kind.Pool elements)) round c (Some (Waits k)) drew q = omega arith
came-few (Some (kind.Pool elements)) round c None drew q = omega arith
came-few (Some (kind.Latch count)) round c (Some (Now e)) None q = omega arith
came-few (Some (kind.Latch count)) round c (Some (Now e)) (Some k) q = omega arith
came-few (Some (kind.Latch count)) round c (Some (Waits k)) drew q = omega arith
came-few (Some (kind.Latch count)) round c None drew q = omega arith
came-few (Some (kind.Rounds parties rounds)) round c (Some (Now e)) None q = few-either (q == round) 0 (omega arith)
came-few (Some (kind.Rounds parties rounds)) round c (Some (Now e)) (Some k) q =
    few-either (q == round) 1 (omega arith)
came-few (Some (kind.Rounds parties rounds)) round c (Some (Waits k)) drew q = few-either (q == round) 1 (omega arith)
came-few (Some (kind.Rounds parties rounds)) round c None drew q = few-either (q == round) 0 (omega arith)
came-few None round c (Some answer) drew q = omega arith
came-few None round c None drew q = omega arith

-- where there is room, there is a resource
resource-there : (room : List ℕ) (at : ℕ) → 0 < get_or room at 0 → at < length room
resource-there room at some = go (cases_lt at (length room))
  where
    go : (at < length room) ⊎ (length room ≤ at) → at < length room
    go (inl there) = there
    go (inr past) = absurd (omega (arith, some, get_or_past room at 0 past))

less-here : (b : PlainFloor) (at : ℕ) → 0 < room_at b at → room_at (with_less_room b at) at + 1 ≡ room_at b at
less-here b at some =
    let now : room_at (with_less_room b at) at ≡ room_at b at - 1
    = get_or-set_same b.room at (room_at b at - 1) 0 (resource-there b.room at some) in
    omega (arith, now, some)

less-else : (b : PlainFloor) (at q : ℕ) → q ≢ at → room_at (with_less_room b at) q ≡ room_at b q
less-else b at q other = get_or-set_other b.room at q (room_at b at - 1) 0 other

-- it uses up room for one
pub record UsesOne (b c : PlainFloor) (at : ℕ) : Type 0 where
  pub here : room_at c at + 1 ≡ room_at b at
  pub elsewhere : (q : ℕ) → q ≢ at → room_at c q ≡ room_at b q

uses-one : (b : PlainFloor) (at : ℕ) → 0 < room_at b at → UsesOne b (with_less_room b at) at
uses-one b at some = record { here = less-here b at some; elsewhere = λ q other. less-else b at q other }

pub taken-room : (b : PlainFloor) (at job : ℕ) (got : Option FloorTake) → 0 < room_at b at
    → UsesOne b (board_taken b at job got) at
taken-room b at job (Some (Now e)) some =
    record { here = less-here b at some; elsewhere = λ q other. less-else b at q other }
taken-room b at job (Some (Waits k)) some =
    record { here = less-here b at some; elsewhere = λ q other. less-else b at q other }
taken-room b at job None some = uses-one b at some

pub waited-room : (b : PlainFloor) (at job : ℕ) (got : Option FloorTake) → 0 < room_at b at
    → UsesOne b (board_waited b at job got) at
waited-room b at job (Some (Now e)) some =
    record { here = less-here b at some; elsewhere = λ q other. less-else b at q other }
waited-room b at job (Some (Waits k)) some =
    record { here = less-here b at some; elsewhere = λ q other. less-else b at q other }
waited-room b at job None some = uses-one b at some

pub arrived-room : (b : PlainFloor) (at job : ℕ) (got : Option FloorTake) → 0 < room_at b at
    → UsesOne b (board_arrived b at job got) at
arrived-room b at job (Some (Now e)) some =
    record { here = less-here b at some; elsewhere = λ q other. less-else b at q other }
arrived-room b at job (Some (Waits k)) some =
    record { here = less-here b at some; elsewhere = λ q other. less-else b at q other }
arrived-room b at job None some = uses-one b at some

-- Of the others: none draws a number, and the room stays.

none-either : (b : Bool) (n : ℕ) → n ≡ 0 → (if b then n else 0) ≡ 0
none-either true n none = none
none-either false n none = refl

pub given-none : (k : Option Kind) (c e : ℕ) (got : SharedGive) (q : ℕ) → entered_in (give_entries k c e got) q ≡ 0
given-none (Some (kind.Semaphore permits)) c e (shared.Free x) q = refl
given-none (Some (kind.Semaphore permits)) c e (shared.Sent x k) q = refl
given-none (Some (kind.Semaphore permits)) c e (shared.Left x k) q = refl
given-none (Some (kind.Semaphore permits)) c e (shared.Void k) q = refl
given-none (Some kind.Mutex) c e (shared.Free x) q = refl
given-none (Some kind.Mutex) c e (shared.Sent x k) q = refl
given-none (Some kind.Mutex) c e (shared.Left x k) q = refl
given-none (Some kind.Mutex) c e (shared.Void k) q = refl
given-none (Some (kind.Pool elements)) c e got q = refl
given-none (Some (kind.Latch count)) c e got q = refl
given-none (Some (kind.Rounds parties rounds)) c e got q = none-either (q == 0) 0 refl
given-none None c e got q = refl

pub looked-none : (came : Bool) (k : Option Kind) (round c n : ℕ) (got : FloorLook) (q : ℕ)
    → entered_in (unless_came came (look_entries k round c n got)) q ≡ 0
looked-none true (Some (kind.Semaphore permits)) round c n got q = refl
looked-none true (Some kind.Mutex) round c n got q = refl
looked-none true (Some (kind.Pool elements)) round c n got q = refl
looked-none true (Some (kind.Latch count)) round c n got q = refl
looked-none true (Some (kind.Rounds parties rounds)) round c n got q = none-either (q == round) 0 refl
looked-none true None round c n got q = refl
looked-none false (Some (kind.Semaphore permits)) round c n Pending q = refl
looked-none false (Some (kind.Semaphore permits)) round c n (Granted e) q = refl
looked-none false (Some kind.Mutex) round c n Pending q = refl
looked-none false (Some kind.Mutex) round c n (Granted e) q = refl
looked-none false (Some (kind.Pool elements)) round c n Pending q = refl
looked-none false (Some (kind.Pool elements)) round c n (Granted e) q = refl
looked-none false (Some (kind.Latch count)) round c n Pending q = refl
looked-none false (Some (kind.Latch count)) round c n (Granted e) q = refl
looked-none false (Some (kind.Rounds parties rounds)) round c n Pending q = none-either (q == round) 0 refl
looked-none false (Some (kind.Rounds parties rounds)) round c n (Granted e) q = none-either (q == round) 0 refl
looked-none false None round c n got q = refl

pub left-none : (came : Bool) (k : Option Kind) (round c n : ℕ) (got : FloorLeave) (stays : Bool) (q : ℕ)
    → entered_in (unless_came came (leave_entries k round c n got stays)) q ≡ 0
left-none true (Some (kind.Semaphore permits)) round c n got stays q = refl
left-none true (Some kind.Mutex) round c n got stays q = refl
left-none true (Some (kind.Pool elements)) round c n got stays q = refl
left-none true (Some (kind.Latch count)) round c n got stays q = refl
left-none true (Some (kind.Rounds parties rounds)) round c n got stays q = none-either (q == round) 0 refl
left-none true None round c n got stays q = refl
left-none false (Some (kind.Semaphore permits)) round c n Gone stays q = refl
left-none false (Some (kind.Semaphore permits)) round c n (Late e) stays q = refl
left-none false (Some kind.Mutex) round c n Gone stays q = refl
left-none false (Some kind.Mutex) round c n (Late e) stays q = refl
left-none false (Some (kind.Pool elements)) round c n Gone stays q = refl
left-none false (Some (kind.Pool elements)) round c n (Late e) stays q = refl
left-none false (Some (kind.Latch count)) round c n Gone stays q = refl
left-none false (Some (kind.Latch count)) round c n (Late e) stays q = refl
left-none false (Some (kind.Rounds parties rounds)) round c n Gone stays q = none-either (q == round) 0 refl
left-none false (Some (kind.Rounds parties rounds)) round c n (Late e) true q = none-either (q == round) 0 refl
left-none false (Some (kind.Rounds parties rounds)) round c n (Late e) false q = none-either (q == round) 0 refl
left-none false None round c n got stays q = refl

pub counted-none : (c : ℕ) (got : FloorDown) (q : ℕ) → entered_in (down_entries c got) q ≡ 0
counted-none c (down.Left n) q = refl
counted-none c down.Last q = refl
counted-none c down.Already q = refl

abbrev wait_over : PlainFloor → ℕ → (ℕ → ℕ → Deed) → JobWait → ℕ → PlainFloor
wait_over b job deed w e = with_wait (with_done_in b w.at w.round (deed w.number e)) job None

granted-room : (b : PlainFloor) (job : ℕ) (deed : ℕ → ℕ → Deed) (w : Option JobWait) (e : ℕ)
    → (with_granted b job deed w e).room ≡ b.room
granted-room b job deed None e = refl
granted-room b job deed (Some w) e = go (is_holdable b w.at)
  where
    go : (h : Bool) → (if h then with_newest (wait_over b job deed w e) job w.at e else wait_over b job deed w e).room
        ≡ b.room
    go true = refl
    go false = refl

pub looked-room : (b : PlainFloor) (job : ℕ) (got : FloorLook) → (after_look b job got).room ≡ b.room
looked-room b job Pending = refl
looked-room b job (Granted e) = granted-room b job gets _ e

left-by-room : (b : PlainFloor) (job : ℕ) (w : Option JobWait) → (with_left b job w).room ≡ b.room
left-by-room b job None = refl
left-by-room b job (Some w) = refl

pub left-room : (b : PlainFloor) (job : ℕ) (got : FloorLeave) → (after_leave b job got).room ≡ b.room
left-room b job Gone = left-by-room b job _
left-room b job (Late e) = granted-room b job is_late _ e
