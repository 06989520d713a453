-- A tenant is made.
use Rattle.std.proofs.Common.{◌≡◌, ◌≢◌, ◌⊎◌, inl, inr, ◌==◌, ℕ, zero, suc, ◌+◌, ◌<◌, ◌≤◌, List, [], ◌∷◌, ◌++◌, length, drop, get_or, slice_get, slice_index, Some, refl, sym, ap, ◌∙◌, subst, arith, eq-eqb, ne_eqb, if◌then◌else◌}
use mathlib.Core.Path.{fun_ext}
use Rattle.std.proofs.lemmas.Bool.{cases_eq}
use Rattle.std.proofs.lemmas.Option.{get_or_from_slice_get}
use Rattle.std.proofs.Math.Seq.{drop-cons}
use Rattle.cqs_core.specs.SemaphoreEntries.{object_after}
use Rattle.cqs_core.specs.SemaphoreObject.{Semaphore, opening}
use Rattle.cqs_rule_laws.specs.Lists.{Has}
use Rattle.cqs_semaphore.specs.Calls.{IsMine, plain_after}
use Rattle.cqs_semaphore.specs.Causes.{drawn_in}
use Rattle.cqs_limiter_requests.specs.declared.asks.Line.{Line}
use Rattle.cqs_limiter_requests.specs.declared.requests.Requests.{Requests}
use Rattle.cqs_limiter_requests.specs.Replies.{opened, out}
use Rattle.cqs_limiter_workers.specs.Sights.{own}
use Rattle.cqs_limiter_tenant.specs.declared.tenant.Seat.{Seat}
use Rattle.cqs_limiter_tenant.specs.declared.tenant.Seat.TheVariants.{Out, Waiting, Holding}
use Rattle.cqs_limiter_tenant.specs.declared.tenant.Tenant.{Tenant}
use Rattle.cqs_limiter_tenant.specs.Seats.{seat_of, IsKnown, IsSeatedSo}
use Rattle.cqs_limiter_tenant.specs.Tenants.{view_of, place_at, standing_of, IsKept, HasRoom, AreKnown, draws, enters}
use Rattle.cqs_limiter_tenant.specs.Made.{IsMade, HasSeats, IsNew, draws_at}

-- the requests to enter of what is left, line by line
enters-cons : (t : ℕ) (line : Line) (lines : List Line)
    → enters (own t (line ∷ lines)) ≡ draws_at t line + enters (own t lines)
enters-cons t line lines = go (cases_eq t line.tenant)
  where
    go : (t ≡ line.tenant) ⊎ (t ≢ line.tenant)
        → enters (own t (line ∷ lines)) ≡ draws_at t line + enters (own t lines)
    go (inl same) = rw (eq-eqb t line.tenant same) refl
    go (inr far) = rw (ne_eqb t line.tenant far) (omega arith)

pub enters-next : (t : ℕ) (lines : List Line) (i : ℕ) (d : Line) (total : ℕ) → i < length lines
    → total + enters (own t (drop i lines)) ≡ enters (own t lines)
    → (total + draws_at t (get_or lines i d)) + enters (own t (drop (i + 1) lines)) ≡ enters (own t lines)
enters-next t lines i d total low so_far =
    let up : suc i ≡ i + 1 = omega arith in
    let next : drop i lines ≡ get_or lines i d ∷ drop (i + 1) lines
    = drop-cons lines i d low ∙ ap (λ n. get_or lines i d ∷ drop n lines) up in
    let parts : enters (own t (drop i lines))
    ≡ draws_at t (get_or lines i d) + enters (own t (drop (i + 1) lines))
    = ap (λ l. enters (own t l)) next ∙ enters-cons t (get_or lines i d) (drop (i + 1) lines) in
    omega (arith, so_far, parts)

drop-past : (lines : List Line) (n : ℕ) → length lines ≤ n → drop n lines ≡ []
drop-past [] zero past = refl
drop-past [] (suc n) past = refl
drop-past (line ∷ lines) zero past = absurd (omega (arith, past))
drop-past (line ∷ lines) (suc n) past = drop-past lines n (omega (arith, past))

pub enters-all : (t : ℕ) (lines : List Line) (i total : ℕ) → length lines ≤ i
    → total + enters (own t (drop i lines)) ≡ enters (own t lines) → total ≡ enters (own t lines)
enters-all t lines i total past so_far =
    let none : enters (own t (drop i lines)) ≡ 0 = ap (λ l. enters (own t l)) (drop-past lines i past) in
    omega (arith, so_far, none)

-- the seats of the first so many lines are there
pub record IsSeating (x : Tenant) (t : ℕ) (lines : List Line) (index : ℕ) (y : Tenant) : Type 0 where
  pub semaphore : y.semaphore ≡ x.semaphore
  pub pass : y.pass ≡ x.pass
  pub outs : (j : ℕ) → seat_of x j ≡ Out → seat_of y j ≡ Out
  pub known : (i : ℕ) (line : Line) → i < index → slice_get lines i ≡ Some line → t ≡ line.tenant
      → IsKnown y line.client

pub seating-starts : (x : Tenant) (t : ℕ) (lines : List Line) → IsSeating x t lines 0 x
seating-starts x t lines = record {
  semaphore = refl;
  pass = refl;
  outs = λ j is. is;
  known = λ i line low there mine. absurd (omega (arith, low));
}

module _ (x : Tenant) (t : ℕ) (lines : List Line) (index : ℕ) (d : Line) (y : Tenant)
    (seating : IsSeating x t lines index y) where
  pub seating-passes : t ≢ (get_or lines index d).tenant → IsSeating x t lines (index + 1) y
  seating-passes far = record {
    semaphore = seating.semaphore;
    pass = seating.pass;
    outs = seating.outs;
    known = λ i line low there mine. go i line low there mine (cases_eq i index);
  }
    where
      go : (i : ℕ) (line : Line) → i < index + 1 → slice_get lines i ≡ Some line → t ≡ line.tenant
          → (i ≡ index) ⊎ (i ≢ index) → IsKnown y line.client
      go i line low there mine (inl last) =
          let is : get_or lines index d ≡ line
          = ap (λ n. get_or lines n d) (sym last) ∙ get_or_from_slice_get lines i line d there in
          absurd (far (mine ∙ ap (λ (l : Line). l.tenant) (sym is)))
      go i line low there mine (inr other) = seating.known i line (omega (arith, low, other)) there mine

  pub seating-adds : (z : Tenant) → z.semaphore ≡ y.semaphore → z.pass ≡ y.pass
      → IsSeatedSo y (get_or lines index d).client Out z → IsKnown z (get_or lines index d).client
      → IsSeating x t lines (index + 1) z
  seating-adds z semaphore pass seated known = record {
    semaphore = semaphore ∙ seating.semaphore;
    pass = pass ∙ seating.pass;
    outs = λ j is. outs_at j is (cases_eq j (get_or lines index d).client);
    known = λ i line low there mine. go i line low there mine (cases_eq i index);
  }
    where
      outs_at : (j : ℕ) → seat_of x j ≡ Out → (j ≡ (get_or lines index d).client) ⊎ (j ≢ (get_or lines index d).client)
          → seat_of z j ≡ Out
      outs_at j is (inl same) = ap (seat_of z) same ∙ seated.here
      outs_at j is (inr far) = seated.others j far ∙ seating.outs j is

      go : (i : ℕ) (line : Line) → i < index + 1 → slice_get lines i ≡ Some line → t ≡ line.tenant
          → (i ≡ index) ⊎ (i ≢ index) → IsKnown z line.client
      go i line low there mine (inl last) =
          let is : get_or lines index d ≡ line
          = ap (λ n. get_or lines n d) (sym last) ∙ get_or_from_slice_get lines i line d there in
          subst (λ (l : Line). IsKnown z l.client) is known
      go i line low there mine (inr other) =
          seated.known line.client (seating.known i line (omega (arith, low, other)) there mine)

pub seating-ends : (x : Tenant) (t : ℕ) (lines : List Line) (index : ℕ) (y : Tenant) → length lines ≤ index
    → ((i : ℕ) (line : Line) → slice_get lines i ≡ Some line → i < length lines)
    → IsSeating x t lines index y → HasSeats x t lines y
seating-ends x t lines index y past within seating = record {
  semaphore = seating.semaphore;
  pass = seating.pass;
  outs = seating.outs;
  known = λ i line there mine. let low = within i line there in
      seating.known i line (omega (arith, low, past)) there mine;
}

known-of : (y : Tenant) (t : ℕ) (lines : List Line)
    → ((i : ℕ) (line : Line) → slice_get lines i ≡ Some line → t ≡ line.tenant → IsKnown y line.client)
    → AreKnown y (own t lines)
known-of y t [] known = tt
known-of y t (line ∷ lines) known =
    go (cases_eq t line.tenant) (known-of y t lines (λ i other there mine. known (suc i) other there mine))
  where
    go : (t ≡ line.tenant) ⊎ (t ≢ line.tenant) → AreKnown y (own t lines) → AreKnown y (own t (line ∷ lines))
    go (inl same) rest = rw (eq-eqb t line.tenant same) (known zero line refl same, rest)
    go (inr far) rest = rw (ne_eqb t line.tenant far) rest

-- a tenant that was made and has its seats
pub made-new : (r : Requests) (t permits waits : ℕ) (x y : Tenant) → permits ≡ slice_index r.permits.items t
    → waits ≡ enters (own t r.asks.items) → IsMade permits waits x → HasSeats x t r.asks.items y → IsNew r t y
made-new r t permits waits x y permits_are waits_are made seats = record {
  standing = λ i. record {
    semaphore = (plain_is ∙ ap opening permits_are) i;
    place = (fun_ext (λ j. ap place_at (out_at j))) i;
  };
  seen = seen_is;
  room = record {
    kept = record {
      mine = rw (seats.semaphore, seats.pass) made.mine;
      number = rw seats.pass made.number;
      alone = rw seats.pass made.alone;
      ready = rw seats.pass made.ready;
      still = ap (λ (o : Semaphore). o.way) plain_is;
      drawn = λ k has. absurd (subst (Has k) none has);
      waits = λ j at is. let o = out_at j in absurd (cc (is, o));
      apart = λ i j at other first second same. let o = out_at i in absurd (cc (first, o));
      holders = [];
      holding_are = λ j is. let o = out_at j in absurd (cc (is, o));
      enough = omega arith;
    };
    numbers =
        let none_drawn : drawn_in (view_of y).seen ≡ 0 = ap drawn_in seen_is in
        let enough : waits < (view_of y).limit = rw seats.pass made.numbers in
        omega (arith, none_drawn, enough, waits_are);
    known = known-of y t r.asks.items seats.known;
  };
}
  where
    out_at : (j : ℕ) → seat_of y j ≡ Out
    out_at j = seats.outs j (made.outs j)

    seen_is : (view_of y).seen ≡ []
    seen_is = rw seats.pass made.seen_is

    none : (view_of y).facts.waits ≡ []
    none = rw seats.pass made.waits_are

    plain_is : plain_after (view_of y) ≡ opening permits
    plain_is =
        ap (object_after (view_of y).opening.size) seen_is
        ∙ ap opening (rw seats.pass made.size_is)
