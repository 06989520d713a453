-- What each request does where its client may make it.
use Rattle.std.proofs.Common.{◌≡◌, ◌≢◌, ◌⊎◌, inl, inr, ◌==◌, ℕ, suc, ◌+◌, ◌-◌, ◌<◌, ◌≤◌, nat_lt, Bool, true, false, List, [], ◌∷◌, ◌++◌, length, Option, Some, None, refl, ap, ap₂, sym, ◌∙◌, subst, arith, eq-eqb, ne_eqb, if◌then◌else◌}
use Rattle.std.proofs.lemmas.Bool.{cases_eq}
use Rattle.cqs_core.specs.declared.calls.Call.TheVariants as call
use Rattle.cqs_core.specs.declared.calls.Reply.TheVariants as reply
use Rattle.cqs_core.specs.declared.entries.Entry.{Entry}
use Rattle.cqs_core.specs.declared.entries.Entry.TheVariants as entry
use Rattle.cqs_core.specs.QueueLine.{Waiting as Waiter}
use Rattle.cqs_core.specs.SemaphoreEntries.{at_door}
use Rattle.cqs_core.specs.SemaphoreObject.{Semaphore}
use Rattle.cqs_core.specs.SoleCaller.{Told, sole_call, tells}
use Rattle.cqs_rule_laws.specs.declared.config.Place.{Place as At}
use Rattle.cqs_rule_laws.specs.declared.view.View.{View}
use Rattle.cqs_rule_laws.specs.Lists.{Has, without}
use Rattle.cqs_rule_laws.specs.Placed.{KnowsPlace}
use Rattle.cqs_rule_laws.specs.Views.{IsSame}
use Rattle.cqs_rule_laws.proofs.Lists.{has_append, has_without, without_has}
use Rattle.cqs_rule_laws.proofs.Places.{goes-same, known-still}
use Rattle.cqs_semaphore.specs.Alone.{IsFirstOf}
use Rattle.cqs_semaphore.specs.Calls.{IsMine, plain_after}
use Rattle.cqs_semaphore.specs.Causes.{drawn_in}
use Rattle.cqs_semaphore.proofs.States.{entered-next, entered-way}
use Rattle.cqs_limiter_requests.specs.declared.asks.Answer.TheVariants as answer
use Rattle.cqs_limiter_requests.specs.declared.asks.Ask.TheVariants.{Enter, Look, Quit, Leave}
use Rattle.cqs_limiter_requests.specs.declared.asks.Line.{Line}
use Rattle.cqs_limiter_requests.specs.Replies.{call_at, answer_by, place_by}
use Rattle.cqs_limiter_workers.specs.Sights.{Answers}
use Rattle.cqs_limiter_tenant.specs.declared.tenant.Seat.{Seat}
use Rattle.cqs_limiter_tenant.specs.declared.tenant.Seat.TheVariants.{Out, Waiting, Holding}
use Rattle.cqs_limiter_tenant.specs.declared.tenant.Tenant.{Tenant}
use Rattle.cqs_limiter_tenant.specs.Seats.{seat_of, IsSeatedSo}
use Rattle.cqs_limiter_tenant.specs.Tenants.{view_of, place_at, IsKept, IsAmong, draws, tenant_sight}
use Rattle.cqs_limiter_tenant.proofs.Came.{Comes, left-way, left-next, plain-next}
use Rattle.cqs_limiter_tenant.proofs.Answered.{Does, Leaves, answered}

has-more : (k : ℕ) (xs ys : List ℕ) → Has k xs → Has k (xs ++ ys)
has-more k [] ys has = absurd has
has-more k (x ∷ xs) ys (inl same) = inl same
has-more k (x ∷ xs) ys (inr later) = inr (has-more k xs ys later)

has-last : (k : ℕ) (xs : List ℕ) → Has k (xs ++ k ∷ [])
has-last k [] = inl refl
has-last k (x ∷ xs) = inr (has-last k xs)

-- a list without a number that it has is shorter
without-long : (k : ℕ) (xs : List ℕ) → length (without k xs) ≤ length xs
without-long k [] = omega arith
without-long k (x ∷ xs) = go (cases_eq x k) (without-long k xs)
  where
    go : (x ≡ k) ⊎ (x ≢ k) → length (without k xs) ≤ length xs → length (without k (x ∷ xs)) ≤ suc (length xs)
    go (inl same) rest = rw (eq-eqb x k same) (omega (arith, rest))
    go (inr other) rest = rw (ne_eqb x k other) (omega (arith, rest))

without-less : (k : ℕ) (xs : List ℕ) → Has k xs → length (without k xs) + 1 ≤ length xs
without-less k [] has = absurd has
without-less k (x ∷ xs) (inl same) =
    let rest = without-long k xs in rw (eq-eqb x k (sym same)) (omega (arith, rest))
without-less k (x ∷ xs) (inr later) = go (cases_eq x k) (without-less k xs later)
  where
    go : (x ≡ k) ⊎ (x ≢ k) → length (without k xs) + 1 ≤ length xs
        → length (without k (x ∷ xs)) + 1 ≤ suc (length xs)
    go (inl same) rest = rw (eq-eqb x k same) (omega (arith, rest))
    go (inr other) rest = rw (ne_eqb x k other) (omega (arith, rest))

-- the number of a wait is the next one
next-number : (o : Semaphore) (p k : ℕ)
    → sole_call o (call.Acquire p) ≡ tells (entry.TakeDoor p ∷ entry.Enter p k ∷ []) (reply.Later k) → k ≡ o.next
next-number o p k told = go (nat_lt 0 o.free) refl
  where
    go : (b : Bool) → nat_lt 0 o.free ≡ b → k ≡ o.next
    go true some =
        let other : reply.Now ≡ reply.Later k = ap (λ (t : Told). t.answer) (rw some at told) in absurd (cc)
    go false none =
        let same : reply.Later o.next ≡ reply.Later k = ap (λ (t : Told). t.answer) (rw none at told) in cc

-- a release goes to the first of the line
pub first-told : (o : Semaphore) (p k : ℕ) → IsFirstOf o.line k
    → sole_call o (call.Release p) ≡ tells (entry.GiveSent p ∷ entry.Deliver k ∷ []) (reply.Sent k)
first-told o p k first = go o.line refl first
  where
    go : (line : List Waiter) → o.line ≡ line → IsFirstOf line k
        → sole_call o (call.Release p) ≡ tells (entry.GiveSent p ∷ entry.Deliver k ∷ []) (reply.Sent k)
    go [] is none = absurd none
    go (w ∷ line) is same =
        rw is (ap (λ n. tells (entry.GiveSent p ∷ entry.Deliver n ∷ []) (reply.Sent n)) same)

pub first-before : {T : Type 0} (v u : View Entry T) (k : ℕ) → IsSame v u
    → u.seen ≡ v.seen ++ entry.GiveSent v.number ∷ [] → IsFirstOf (plain_after u).line k
    → IsFirstOf (plain_after v).line k
first-before v u k same seen first =
    subst (λ l. IsFirstOf l k)
    (ap (λ (o : Semaphore). o.line) (plain-next v u (entry.GiveSent v.number ∷ []) same seen)) first

module _ (x y : Tenant) (line : Line) (kept : IsKept x) (mine : IsMine y.semaphore y.pass) where
  abbrev held : ℕ
  held = (view_of x).facts.has.held

  abbrev waits : List ℕ
  waits = (view_of x).facts.waits

  -- The client enters.
  module _ (asks : line.ask ≡ Enter) (is_out : seat_of x line.client ≡ Out) where
    pub enter-now : Comes (view_of x) (view_of y) (entry.TakeNow 0 ∷ []) (held + 1) waits
        → sole_call (plain_after (view_of x)) (call.Acquire (view_of x).number)
        ≡ tells (entry.TakeNow (view_of x).number ∷ []) reply.Now
        → IsSeatedSo x line.client Holding y → Answers tenant_sight x line answer.Now y
    enter-now comes plain seated =
        answered x y line (call.Acquire 0) (entry.TakeNow 0 ∷ []) reply.Now Holding (held + 1) waits kept mine comes
        (record {
          call = ap₂ (λ s a. call_at (place_at s) a) is_out asks;
          told = subst (λ p. sole_call (plain_after (view_of x)) (call.Acquire p)
              ≡ tells (entry.TakeNow p ∷ []) reply.Now) kept.number plain;
          place = refl;
          still = kept.still;
          few = omega arith;
        }) seated
        (record {
          drawn = λ k has. kept.drawn k has;
          others = λ i at far was. (kept.waits i at was).0;
          own = λ at is. absurd (cc is);
          apart = λ i at other far is was same. absurd (cc is);
          holders = line.client ∷ kept.holders;
          holds = λ is. inl refl;
          hold_on = λ i far was. inr (kept.holding_are i was);
          enough = let e = kept.enough in omega (arith, e);
        }) answer.Now refl

    pub enter-waits : (at : At)
        → Comes (view_of x) (view_of y) (entry.TakeDoor 0 ∷ entry.Enter 0 at.index ∷ []) held (waits ++ at.index ∷ [])
        → sole_call (plain_after (view_of x)) (call.Acquire (view_of x).number)
        ≡ tells (entry.TakeDoor (view_of x).number ∷ entry.Enter (view_of x).number at.index ∷ [])
        (reply.Later at.index)
        → KnowsPlace (view_of y) at
        → IsSeatedSo x line.client (Waiting at) y → Answers tenant_sight x line (answer.Waits at.index) y
    enter-waits at comes plain knows seated =
        answered x y line (call.Acquire 0) (entry.TakeDoor 0 ∷ entry.Enter 0 at.index ∷ []) (reply.Later at.index)
        (Waiting at) held (waits ++ at.index ∷ []) kept mine comes
        (record {
          call = ap₂ (λ s a. call_at (place_at s) a) is_out asks;
          told = subst (λ p. sole_call (plain_after (view_of x)) (call.Acquire p)
              ≡ tells (entry.TakeDoor p ∷ entry.Enter p at.index ∷ []) (reply.Later at.index)) kept.number plain;
          place = refl;
          still = entered-way (at_door (plain_after (view_of x)) 0) 0 at.index ∙ kept.still;
          few = let one : draws line.ask ≡ 1 = ap draws asks in omega (arith, one);
        }) seated
        (record {
          drawn = λ k has. subst (λ n. k < n) (sym (entered-next (at_door (plain_after (view_of x)) 0) 0 at.index))
              (below k (has_append k waits (at.index ∷ []) has));
          others = λ i other far was. has-more other.index waits (at.index ∷ []) (kept.waits i other was).0;
          own = λ other is. subst (λ (a : At). Has a.index (waits ++ at.index ∷ []) × KnowsPlace (view_of y) a)
              (one at other is) (has-last at.index waits, knows);
          apart = λ i here other far is was same.
              let low = kept.drawn other.index (kept.waits i other was).0 in
              let this : at.index ≡ here.index = ap (λ (a : At). a.index) (one at here is) in
              omega (arith, low, this, same, number);
          holders = kept.holders;
          holds = λ is. absurd (cc is);
          hold_on = λ i far was. kept.holding_are i was;
          enough = kept.enough;
        }) (answer.Waits at.index) refl
      where
        number : at.index ≡ (plain_after (view_of x)).next
        number = next-number (plain_after (view_of x)) (view_of x).number at.index plain

        one : (a b : At) → Waiting a ≡ Waiting b → a ≡ b
        one a b e = cc e

        below : (k : ℕ) → Has k waits ⊎ Has k (at.index ∷ []) → k < (plain_after (view_of x)).next + 1
        below k (inl was) = let low = kept.drawn k was in omega (arith, low)
        below k (inr (inl same)) = omega (arith, same, number)
        below k (inr (inr none)) = absurd none

  -- The client waits, and its wait is over.
  module _ (at : At) (waits_there : seat_of x line.client ≡ Waiting at) where
    others-wait : (i : ℕ) (other : At) → i ≢ line.client → seat_of x i ≡ Waiting other
        → Has other.index (without at.index waits)
    others-wait i other far was =
        without_has other.index at.index waits (λ same. far (kept.apart i line.client other at was waits_there same))
        (kept.waits i other was).0

    pub look-granted : line.ask ≡ Look
        → Comes (view_of x) (view_of y) (entry.LookGranted 0 at.index ∷ []) (held + 1) (without at.index waits)
        → sole_call (plain_after (view_of x)) (call.Poll (view_of x).number at.index)
        ≡ tells (entry.LookGranted (view_of x).number at.index ∷ []) reply.Granted
        → IsSeatedSo x line.client Holding y → Answers tenant_sight x line answer.Granted y
    look-granted asks comes plain seated =
        answered x y line (call.Poll 0 at.index) (entry.LookGranted 0 at.index ∷ []) reply.Granted Holding (held + 1)
        (without at.index waits) kept mine comes
        (record {
          call = ap₂ (λ s a. call_at (place_at s) a) waits_there asks;
          told = subst (λ p. sole_call (plain_after (view_of x)) (call.Poll p at.index)
              ≡ tells (entry.LookGranted p at.index ∷ []) reply.Granted) kept.number plain;
          place = refl;
          still = kept.still;
          few = omega arith;
        }) seated
        (record {
          drawn = λ k has. kept.drawn k (has_without k at.index waits has).1;
          others = others-wait;
          own = λ other is. absurd (cc is);
          apart = λ i here other far is was same. absurd (cc is);
          holders = line.client ∷ kept.holders;
          holds = λ is. inl refl;
          hold_on = λ i far was. inr (kept.holding_are i was);
          enough = let e = kept.enough in omega (arith, e);
        }) answer.Granted refl

    pub quit-late : line.ask ≡ Quit
        → Comes (view_of x) (view_of y) (entry.Late 0 at.index ∷ []) (held + 1) (without at.index waits)
        → sole_call (plain_after (view_of x)) (call.Cancel (view_of x).number at.index)
        ≡ tells (entry.Late (view_of x).number at.index ∷ []) reply.TooLate
        → IsSeatedSo x line.client Holding y → Answers tenant_sight x line answer.Late y
    quit-late asks comes plain seated =
        answered x y line (call.Cancel 0 at.index) (entry.Late 0 at.index ∷ []) reply.TooLate Holding (held + 1)
        (without at.index waits) kept mine comes
        (record {
          call = ap₂ (λ s a. call_at (place_at s) a) waits_there asks;
          told = subst (λ p. sole_call (plain_after (view_of x)) (call.Cancel p at.index)
              ≡ tells (entry.Late p at.index ∷ []) reply.TooLate) kept.number plain;
          place = refl;
          still = kept.still;
          few = omega arith;
        }) seated
        (record {
          drawn = λ k has. kept.drawn k (has_without k at.index waits has).1;
          others = others-wait;
          own = λ other is. absurd (cc is);
          apart = λ i here other far is was same. absurd (cc is);
          holders = line.client ∷ kept.holders;
          holds = λ is. inl refl;
          hold_on = λ i far was. inr (kept.holding_are i was);
          enough = let e = kept.enough in omega (arith, e);
        }) answer.Late refl

    pub quit-gone : line.ask ≡ Quit
        → Comes (view_of x) (view_of y) (entry.Leave (view_of x).number at.index ∷ []) held (without at.index waits)
        → sole_call (plain_after (view_of x)) (call.Cancel (view_of x).number at.index)
        ≡ tells (entry.Leave (view_of x).number at.index ∷ []) reply.Cancelled
        → IsSeatedSo x line.client Out y → Answers tenant_sight x line answer.Gone y
    quit-gone asks came plain seated =
        answered x y line (call.Cancel 0 at.index) (entry.Leave 0 at.index ∷ []) reply.Cancelled Out held
        (without at.index waits) kept mine
        (subst (λ p. Comes (view_of x) (view_of y) (entry.Leave p at.index ∷ []) held (without at.index waits))
        kept.number came)
        (record {
          call = ap₂ (λ s a. call_at (place_at s) a) waits_there asks;
          told = subst (λ p. sole_call (plain_after (view_of x)) (call.Cancel p at.index)
              ≡ tells (entry.Leave p at.index ∷ []) reply.Cancelled) kept.number plain;
          place = refl;
          still = left-way (plain_after (view_of x)) at.index kept.still;
          few = omega arith;
        }) seated
        (record {
          drawn = λ k has.
              let low = kept.drawn k (has_without k at.index waits has).1 in
              let same = left-next (plain_after (view_of x)) at.index in
              subst (λ n. k < n) (sym same) low;
          others = others-wait;
          own = λ other is. absurd (cc is);
          apart = λ i here other far is was same. absurd (cc is);
          holders = kept.holders;
          holds = λ is. absurd (cc is);
          hold_on = λ i far was. kept.holding_are i was;
          enough = kept.enough;
        }) answer.Gone refl

    pub look-pending : line.ask ≡ Look
        → Comes (view_of x) (view_of y) (entry.LookPending 0 at.index ∷ []) held waits
        → sole_call (plain_after (view_of x)) (call.Poll (view_of x).number at.index)
        ≡ tells (entry.LookPending (view_of x).number at.index ∷ []) reply.Pending
        → IsSeatedSo x line.client (Waiting at) y → Answers tenant_sight x line answer.Pending y
    look-pending asks comes plain seated =
        answered x y line (call.Poll 0 at.index) (entry.LookPending 0 at.index ∷ []) reply.Pending (Waiting at) held
        waits kept mine comes
        (record {
          call = ap₂ (λ s a. call_at (place_at s) a) waits_there asks;
          told = subst (λ p. sole_call (plain_after (view_of x)) (call.Poll p at.index)
              ≡ tells (entry.LookPending p at.index ∷ []) reply.Pending) kept.number plain;
          place = sym (ap place_at waits_there);
          still = kept.still;
          few = omega arith;
        }) seated
        (record {
          drawn = λ k has. kept.drawn k has;
          others = λ i other far was. (kept.waits i other was).0;
          own = λ other is. subst (λ (a : At). Has a.index waits × KnowsPlace (view_of y) a) (one at other is) (
            (kept.waits line.client at waits_there).0,
            known-still (view_of x) (view_of y) at (goes-same (view_of x) (view_of y) comes.same)
                (kept.waits line.client at waits_there).1,
          );
          apart = λ i here other far is was same.
              let this : at.index ≡ here.index = ap (λ (a : At). a.index) (one at here is) in
              far (sym (kept.apart line.client i at other waits_there was (this ∙ same)));
          holders = kept.holders;
          holds = λ is. absurd (cc is);
          hold_on = λ i far was. kept.holding_are i was;
          enough = kept.enough;
        }) answer.Pending refl
      where
        one : (a b : At) → Waiting a ≡ Waiting b → a ≡ b
        one a b e = cc e

  -- The client holds a permit, and gives it back.
  module _ (asks : line.ask ≡ Leave) (holds_one : seat_of x line.client ≡ Holding)
      (seated : IsSeatedSo x line.client Out y) where
    fewer : length (without line.client kept.holders) ≤ held - 1
    fewer =
        let less = without-less line.client kept.holders (kept.holding_are line.client holds_one) in
        let e = kept.enough in
        omega (arith, less, e)

    pub holds-some : 0 < held
    holds-some =
        let less = without-less line.client kept.holders (kept.holding_are line.client holds_one) in
        let e = kept.enough in
        omega (arith, less, e)

    pub leave-freed : Comes (view_of x) (view_of y) (entry.GiveFreed 0 ∷ []) (held - 1) waits
        → sole_call (plain_after (view_of x)) (call.Release (view_of x).number)
        ≡ tells (entry.GiveFreed (view_of x).number ∷ []) reply.Freed
        → Answers tenant_sight x line answer.Freed y
    leave-freed comes plain =
        answered x y line (call.Release 0) (entry.GiveFreed 0 ∷ []) reply.Freed Out (held - 1) waits kept mine comes
        (record {
          call = ap₂ (λ s a. call_at (place_at s) a) holds_one asks;
          told = subst (λ p. sole_call (plain_after (view_of x)) (call.Release p)
              ≡ tells (entry.GiveFreed p ∷ []) reply.Freed) kept.number plain;
          place = refl;
          still = kept.still;
          few = omega arith;
        }) seated
        (record {
          drawn = λ k has. kept.drawn k has;
          others = λ i other far was. (kept.waits i other was).0;
          own = λ other is. absurd (cc is);
          apart = λ i here other far is was same. absurd (cc is);
          holders = without line.client kept.holders;
          holds = λ is. absurd (cc is);
          hold_on = λ i far was. without_has i line.client kept.holders far (kept.holding_are i was);
          enough = fewer;
        }) answer.Freed refl

    pub leave-sent : (k : ℕ)
        → Comes (view_of x) (view_of y) (entry.GiveSent 0 ∷ entry.Deliver k ∷ []) (held - 1) waits
        → sole_call (plain_after (view_of x)) (call.Release (view_of x).number)
        ≡ tells (entry.GiveSent (view_of x).number ∷ entry.Deliver k ∷ []) (reply.Sent k)
        → Answers tenant_sight x line (answer.Sent k) y
    leave-sent k comes plain =
        answered x y line (call.Release 0) (entry.GiveSent 0 ∷ entry.Deliver k ∷ []) (reply.Sent k) Out (held - 1)
        waits kept mine comes
        (record {
          call = ap₂ (λ s a. call_at (place_at s) a) holds_one asks;
          told = subst (λ p. sole_call (plain_after (view_of x)) (call.Release p)
              ≡ tells (entry.GiveSent p ∷ entry.Deliver k ∷ []) (reply.Sent k)) kept.number plain;
          place = refl;
          still = let none = kept.still in omega (arith, none);
          few = omega arith;
        }) seated
        (record {
          drawn = λ j has. kept.drawn j has;
          others = λ i other far was. (kept.waits i other was).0;
          own = λ other is. absurd (cc is);
          apart = λ i here other far is was same. absurd (cc is);
          holders = without line.client kept.holders;
          holds = λ is. absurd (cc is);
          hold_on = λ i far was. without_has i line.client kept.holders far (kept.holding_are i was);
          enough = fewer;
        }) (answer.Sent k) refl
