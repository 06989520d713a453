-- Each resource is even, and stays so by what a call of the plain floor does.
use Rattle.std.proofs.Common.{◌≡◌, ◌≢◌, ◌⊎◌, inl, inr, ℕ, zero, suc, ◌<◌, nat_lt, Bool, true, false, List, [], Option, None, length, get_or, slice_get, refl, sym, subst, ltb-true, arith}
use Rattle.std.specs.Bool.{if◌then◌else◌}
use Rattle.std.proofs.lemmas.Bool.{cases_eq}
use Rattle.cqs_plan.specs.declared.plans.kind.Kind.{Kind}
use Rattle.cqs_plan.specs.declared.floors.answers.FloorTake.{FloorTake}
use Rattle.cqs_plan.specs.declared.floors.answers.FloorTake.TheVariants.{Now, Waits}
use Rattle.cqs_plan.specs.declared.floors.answers.FloorGive.{FloorGive}
use Rattle.cqs_plan.specs.declared.floors.answers.FloorGive.TheVariants.{Free, Sent}
use Rattle.cqs_plan.specs.declared.floors.answers.FloorLeave.TheVariants as leave
use Rattle.cqs_plan.specs.FloorHistory.{History, Deed, of_permits, takes, joins, frees, sends, leaves, is_late, passes, opens, is_open, completes, with_deed_in}
use Rattle.cqs_plan.specs.FloorHistory as history
use Rattle.cqs_plan.specs.Floor.{PlainFloor, JobWait, IsLatch, came_to, history_at, is_holdable, round_of, size_of, size_at, standing_at, stands_in, to_come_at, wait_of, with_came, with_done_in, with_newest, with_wait}
use Rattle.cqs_plan.specs.FloorCalls.{is_in_line, down_of, after_take, after_give, after_leave, after_down, after_wait, after_arrive, with_granted, with_left, leave_answer}
use Rattle.cqs_turns_report.specs.Roles.{wait_at}
use Rattle.cqs_turns_laws.proofs.DeedParts.{IsOfKind}
use Rattle.cqs_turns_laws.proofs.Evening.{IsEven, completes-even, counts-even, held-even, joins-even, late-even, latch-joins, leaves-even, open-even, opens-even, passes-even}
use Rattle.cqs_turns_laws.proofs.HeldKinds.{IsHeld}
use Rattle.cqs_turns_laws.proofs.Lifting.{HasWait}
use Rattle.cqs_turns_laws.proofs.Objects.{history-here, history-else}

-- each resource is even
pub record AreEven (f : PlainFloor) : Type 0 where
  pub at : (q : ℕ) → IsEven (size_at f q) (history_at f q)

-- what a deed leaves so, the floor has so
even-on : (f : PlainFloor) (at round : ℕ) (deed : Deed) → at < length f.histories → AreEven f
    → IsEven (size_at f at) (with_deed_in (size_at f at) (history_at f at) round deed) → (g : PlainFloor)
    → g.kinds ≡ f.kinds → g.histories ≡ (with_done_in f at round deed).histories → AreEven g
even-on f at round deed there even own g kinds histories = record {
  at = λ q.
      let IsSo : List Kind → List History → Type 0 = λ ks hs.
      IsEven (size_of (slice_get ks q)) (get_or hs q (of_permits [])) in
      subst (λ ks. IsSo ks g.histories) (sym kinds)
      (subst (IsSo f.kinds) (sym histories) (go q (cases_eq q at)));
}
  where
    go : (q : ℕ) → (q ≡ at) ⊎ (q ≢ at) → IsEven (size_at f q) (history_at (with_done_in f at round deed) q)
    go q (inl here) = rw here (subst (IsEven (size_at f at)) (sym (history-here f at round deed there)) own)
    go q (inr other) = subst (IsEven (size_at f q)) (sym (history-else f at round deed q other)) (even.at q)

-- what came changes no history
came-histories : (f : PlainFloor) (job at element : ℕ) → ((with_came f job at element).kinds ≡ f.kinds)
    × ((with_came f job at element).histories ≡ f.histories)
came-histories f job at element = go (is_holdable f at)
  where
    go : (b : Bool) → ((if b then with_newest f job at element else f).kinds ≡ f.kinds)
        × ((if b then with_newest f job at element else f).histories ≡ f.histories)
    go true = (refl, refl)
    go false = (refl, refl)

pub granted-even : (f : PlainFloor) (job at round number element : ℕ) (deed : ℕ → ℕ → Deed) → at < length f.histories
    → HasWait f job at round number → AreEven f
    → IsEven (size_at f at) (with_deed_in (size_at f at) (history_at f at) round (deed number element))
    → AreEven (with_granted f job deed (wait_of f job) element)
granted-even f job at round number element deed there has even own =
    let Goes : Option JobWait → Type 0 = λ o. AreEven (with_granted f job deed o element) in
    let over : PlainFloor = with_wait (with_done_in f at round (deed number element)) job None in
    let same = came-histories over job at element in
    subst Goes (sym has.waits)
    (even-on f at round (deed number element) there even own (with_came over job at element) same.0 same.1)

pub leaves-so-even : (f : PlainFloor) (job at round number : ℕ) → at < length f.histories
    → HasWait f job at round number
    → AreEven f → AreEven (after_leave f job (leave_answer f job))
leaves-so-even f job at round number there has even = go (is_in_line f (wait_at at round number)) refl
  where
    go : (b : Bool) → is_in_line f (wait_at at round number) ≡ b → AreEven (after_leave f job (leave_answer f job))
    go true stands =
        let gone_answer : leave_answer f job ≡ leave.Gone = rw (has.waits, stands) refl in
        let Goes : Option JobWait → Type 0 = λ o. AreEven (with_left f job o) in
        rw gone_answer (subst Goes (sym has.waits)
        (even-on f at round (leaves number) there even
        (leaves-even (size_at f at) (history_at f at) round number stands (even.at at)) _ refl refl))
    go false away =
        let came : ℕ = came_to f (wait_at at round number) in
        let late_answer : leave_answer f job ≡ leave.Late came = rw (has.waits, away) refl in
        rw late_answer (granted-even f job at round number came is_late there has even
        (late-even (size_at f at) (history_at f at) round number came (even.at at)))

pub takes-even : (f : PlainFloor) (at job : ℕ) (answer : FloorTake) → at < length f.histories → IsHeld (history_at f at)
    → AreEven f → AreEven (after_take f at job answer)
takes-even f at job (Now element) there held even =
    even-on f at 0 (takes element) there even (held-even (size_at f at) (history_at f at) 0 (takes element) held) _ refl
    refl
takes-even f at job (Waits number) there held even =
    even-on f at 0 (joins number) there even (held-even (size_at f at) (history_at f at) 0 (joins number) held) _ refl
    refl

pub gives-even : (f : PlainFloor) (at job : ℕ) (answer : FloorGive) → at < length f.histories → IsHeld (history_at f at)
    → AreEven f → AreEven (after_give f at job answer)
gives-even f at job (Free element) there held even =
    even-on f at 0 (frees element) there even (held-even (size_at f at) (history_at f at) 0 (frees element) held) _ refl
    refl
gives-even f at job (Sent element number) there held even =
    even-on f at 0 (sends element number) there even
    (held-even (size_at f at) (history_at f at) 0 (sends element number) held) _ refl refl

pub downs-even : (f : PlainFloor) (at n : ℕ) → to_come_at f at 0 ≡ n → at < length f.histories → AreEven f
    → AreEven (after_down f at (down_of n))
downs-even f at zero is there even =
    even-on f at 0 is_open there even (open-even (size_at f at) (history_at f at) (even.at at)) _ refl refl
downs-even f at (suc zero) is there even =
    even-on f at 0 opens there even (opens-even (size_at f at) (history_at f at) (even.at at)) _ refl refl
downs-even f at (suc (suc n)) is there even =
    even-on f at 0 (history.counts (suc n)) there even
    (counts-even (size_at f at) (history_at f at) n is (even.at at)) _ refl
    refl

-- a latch is no barrier, and a barrier no latch: so a number of those still to come is of one of them
pub awaits-even : (f : PlainFloor) (at job : ℕ) (b : Bool) → nat_lt 0 (to_come_at f at 0) ≡ b → at < length f.histories
    → IsLatch (slice_get f.kinds at) → IsOfKind (slice_get f.kinds at) (history_at f at) → AreEven f
    → AreEven (after_wait f at job (if b then Waits (standing_at f at).next else Now 0))
awaits-even f at job true more there latch is even =
    even-on f at 0 (joins (standing_at f at).next) there even
    (latch-joins (size_at f at) (slice_get f.kinds at) (history_at f at) (standing_at f at).next latch is
    (ltb-true 0 (to_come_at f at 0) more) (even.at at)) _ refl refl
awaits-even f at job false last there latch is even =
    even-on f at 0 passes there even (passes-even (size_at f at) (history_at f at) (even.at at)) _ refl refl

pub arrives-even : (f : PlainFloor) (at job : ℕ) (b : Bool) → nat_lt 1 (to_come_at f at (round_of f job at)) ≡ b
    → at < length f.histories → AreEven f
    → AreEven (after_arrive f at job (if b then Waits (stands_in f at (round_of f job at)).next else Now 0))
arrives-even f at job true more there even =
    let round : ℕ = round_of f job at in
    let many : 1 < to_come_at f at round = ltb-true 1 (to_come_at f at round) more in
    even-on f at round (joins (stands_in f at round).next) there even
    (joins-even (size_at f at) (history_at f at) round (stands_in f at round).next
    (λ o count. omega (arith, count, many)) (λ o left. omega (arith, left, many)) (even.at at)) _ refl refl
arrives-even f at job false last there even =
    let round : ℕ = round_of f job at in
    even-on f at round completes there even (completes-even (size_at f at) (history_at f at) round (even.at at)) _ refl
    refl
