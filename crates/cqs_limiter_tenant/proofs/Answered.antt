-- A request is answered: by what its call left of the pass, and by where the client sits then.
use Rattle.std.proofs.Common.{◌≡◌, ◌≢◌, ◌⊎◌, inl, inr, ◌==◌, ℕ, ◌+◌, ◌<◌, ◌≤◌, List, [], ◌∷◌, ◌++◌, length, Option, Some, None, refl, ap, sym, ◌∙◌, subst, arith, eq-eqb, ne_eqb, if◌then◌else◌}
use mathlib.Core.Path.{fun_ext}
use Rattle.std.specs.List.{fold}
use Rattle.std.proofs.lemmas.Bool.{cases_eq}
use Rattle.std.proofs.lemmas.List.Sums.{sum_by-append}
use Rattle.cqs_core.specs.declared.calls.Call.{Call}
use Rattle.cqs_core.specs.declared.calls.Reply.{Reply}
use Rattle.cqs_core.specs.declared.entries.Entry.{Entry}
use Rattle.cqs_core.specs.SemaphoreEntries.{after_entry}
use Rattle.cqs_core.specs.SemaphoreObject.{Semaphore}
use Rattle.cqs_core.specs.SoleCaller.{Told, sole_call, tells}
use Rattle.cqs_core.proofs.Counts.{bit}
use Rattle.cqs_rule_laws.specs.declared.config.Place.{Place as At}
use Rattle.cqs_rule_laws.specs.Lists.{Has}
use Rattle.cqs_rule_laws.specs.Placed.{KnowsPlace}
use Rattle.cqs_rule_laws.proofs.Places.{goes-same, known-still}
use Rattle.cqs_semaphore.specs.Calls.{IsMine, Rests, plain_after}
use Rattle.cqs_semaphore.specs.Causes.{drawn_in, is_enter}
use Rattle.cqs_limiter_requests.specs.declared.asks.Answer.{Answer}
use Rattle.cqs_limiter_requests.specs.declared.asks.Line.{Line}
use Rattle.cqs_limiter_requests.specs.Replies.{Place, call_at, answer_by, place_by, call_of, entries_of, answer_of, answered_by, entries_by, after_line}
use Rattle.cqs_limiter_workers.specs.Sights.{Answers}
use Rattle.cqs_limiter_tenant.specs.declared.tenant.Seat.{Seat}
use Rattle.cqs_limiter_tenant.specs.declared.tenant.Seat.TheVariants.{Out, Waiting, Holding}
use Rattle.cqs_limiter_tenant.specs.declared.tenant.Tenant.{Tenant}
use Rattle.cqs_limiter_tenant.specs.Seats.{seat_of, IsKnown, IsSeatedSo}
use Rattle.cqs_limiter_tenant.specs.Tenants.{view_of, place_at, standing_of, IsKept, IsAmong, HasRoom, AreKnown, draws, enters, tenant_sight}
use Rattle.cqs_limiter_tenant.proofs.Came.{Comes, plain-next}

known-all : (x y : Tenant) → ((i : ℕ) → IsKnown x i → IsKnown y i) → (lines : List Line) → AreKnown x lines
    → AreKnown y lines
known-all x y still [] known = tt
known-all x y still (line ∷ lines) known = (still line.client known.0, known-all x y still lines known.1)

-- What one request does: the call of its client, its entries and its reply, and where the client sits then.
pub record Does (x : Tenant) (line : Line) (c : Call) (entries : List Entry) (r : Reply) (seat : Seat) : Type 0 where
  pub call : call_at (place_at (seat_of x line.client)) line.ask ≡ Some c
  pub told : sole_call (plain_after (view_of x)) c ≡ tells entries r
  pub place : place_at seat ≡ place_by (place_at (seat_of x line.client)) (answer_by r)
  pub still : (fold after_entry (plain_after (view_of x)) entries).way ≡ 0
  pub few : drawn_in entries ≤ draws line.ask

-- What the pass has then, and who holds.
pub record Leaves (x y : Tenant) (line : Line) (entries : List Entry) (seat : Seat) (held : ℕ) (waits : List ℕ)
    : Type 0 where
  pub drawn : (k : ℕ) → Has k waits → k < (fold after_entry (plain_after (view_of x)) entries).next
  pub others : (i : ℕ) (at : At) → i ≢ line.client → seat_of x i ≡ Waiting at → Has at.index waits
  pub own : (at : At) → seat ≡ Waiting at → Has at.index waits × KnowsPlace (view_of y) at
  pub apart : (i : ℕ) (at other : At) → i ≢ line.client → seat ≡ Waiting at → seat_of x i ≡ Waiting other
      → at.index ≢ other.index
  pub holders : List ℕ
  pub holds : seat ≡ Holding → IsAmong line.client holders
  pub hold_on : (i : ℕ) → i ≢ line.client → seat_of x i ≡ Holding → IsAmong i holders
  pub enough : length holders ≤ held

module _ (x y : Tenant) (line : Line) (c : Call) (entries : List Entry) (r : Reply) (seat : Seat) (held : ℕ)
    (waits : List ℕ) (kept : IsKept x) (mine : IsMine y.semaphore y.pass)
    (comes : Comes (view_of x) (view_of y) entries held waits) (does : Does x line c entries r seat)
    (seated : IsSeatedSo x line.client seat y) (leaves : Leaves x y line entries seat held waits) where
  next_is : plain_after (view_of y) ≡ fold after_entry (plain_after (view_of x)) entries
  next_is = plain-next (view_of x) (view_of y) entries comes.same comes.seen

  answer_is : answer_by r ≡ answer_of (standing_of x) line
  answer_is =
      ap answer_by (ap (λ (t : Told). t.answer) (sym does.told))
      ∙ ap (answered_by (plain_after (view_of x))) (sym does.call)

  entries_are : entries ≡ entries_of (standing_of x) line
  entries_are =
      ap (λ (t : Told). t.entries) (sym does.told)
      ∙ ap (entries_by (plain_after (view_of x))) (sym does.call)

  place_is : (j : ℕ) → place_at (seat_of y j) ≡ (after_line (standing_of x) line).place j
  place_is j = go (cases_eq j line.client)
    where
      go : (j ≡ line.client) ⊎ (j ≢ line.client)
          → place_at (seat_of y j)
          ≡ (if j == line.client then place_by (place_at (seat_of x line.client)) (answer_of (standing_of x) line)
          else place_at (seat_of x j))
      go (inl same) = rw (eq-eqb j line.client same) (
          ap (λ n. place_at (seat_of y n)) same ∙ ap place_at seated.here ∙ does.place
          ∙ ap (place_by (place_at (seat_of x line.client))) answer_is
          )
      go (inr far) = rw (ne_eqb j line.client far) (ap place_at (seated.others j far))

  stands : standing_of y ≡ after_line (standing_of x) line
  stands = λ i. record {
    semaphore = (next_is ∙ ap (fold after_entry (plain_after (view_of x))) entries_are) i;
    place = (fun_ext place_is) i;
  }

  kept_on : IsKept y
  kept_on = record {
    mine = mine;
    number = comes.same.number ∙ kept.number;
    alone = comes.same.alone ∙ kept.alone;
    ready = comes.rests.ready;
    still = ap (λ (o : Semaphore). o.way) next_is ∙ does.still;
    drawn = λ k has. subst (λ (o : Semaphore). k < o.next) (sym next_is)
        (leaves.drawn k (subst (Has k) comes.rests.waits_are has));
    waits = λ j at is. waits_at j at is (cases_eq j line.client);
    apart = λ i j at other first second same.
        apart_at i j at other first second same (cases_eq i line.client) (cases_eq j line.client);
    holders = leaves.holders;
    holding_are = λ j is. holding_at j is (cases_eq j line.client);
    enough = subst (λ n. length leaves.holders ≤ n) (sym comes.rests.held_is) leaves.enough;
  }
    where
      seat_here : (j : ℕ) (is : Seat) → j ≡ line.client → seat_of y j ≡ is → seat ≡ is
      seat_here j is same got = sym seated.here ∙ ap (seat_of y) (sym same) ∙ got

      seat_else : (j : ℕ) (is : Seat) → j ≢ line.client → seat_of y j ≡ is → seat_of x j ≡ is
      seat_else j is far got = sym (seated.others j far) ∙ got

      waits_at : (j : ℕ) (at : At) → seat_of y j ≡ Waiting at → (j ≡ line.client) ⊎ (j ≢ line.client)
          → Has at.index (view_of y).facts.waits × KnowsPlace (view_of y) at
      waits_at j at is (inl same) =
          let own = leaves.own at (seat_here j (Waiting at) same is) in
          (subst (Has at.index) (sym comes.rests.waits_are) own.0, own.1)
      waits_at j at is (inr far) =
          let was = seat_else j (Waiting at) far is in (
            subst (Has at.index) (sym comes.rests.waits_are) (leaves.others j at far was),
            known-still (view_of x) (view_of y) at (goes-same (view_of x) (view_of y) comes.same)
                (kept.waits j at was).1,
          )

      apart_at : (i j : ℕ) (at other : At) → seat_of y i ≡ Waiting at → seat_of y j ≡ Waiting other
          → at.index ≡ other.index → (i ≡ line.client) ⊎ (i ≢ line.client) → (j ≡ line.client) ⊎ (j ≢ line.client)
          → i ≡ j
      apart_at i j at other first second same (inl here) (inl there) = here ∙ sym there
      apart_at i j at other first second same (inl here) (inr far) =
          absurd (leaves.apart j at other far (seat_here i (Waiting at) here first)
          (seat_else j (Waiting other) far second) same)
      apart_at i j at other first second same (inr far) (inl there) =
          absurd (leaves.apart i other at far (seat_here j (Waiting other) there second)
          (seat_else i (Waiting at) far first) (sym same))
      apart_at i j at other first second same (inr far) (inr away) =
          kept.apart i j at other (seat_else i (Waiting at) far first) (seat_else j (Waiting other) away second) same

      holding_at : (j : ℕ) → seat_of y j ≡ Holding → (j ≡ line.client) ⊎ (j ≢ line.client)
          → IsAmong j leaves.holders
      holding_at j is (inl same) =
          subst (λ n. IsAmong n leaves.holders) (sym same) (leaves.holds (seat_here j Holding same is))
      holding_at j is (inr far) = leaves.hold_on j far (seat_else j Holding far is)

  room_on : (more : List Line) → HasRoom x (line ∷ more) → HasRoom y more
  room_on more room = record {
    kept = kept_on;
    numbers =
        let counted : drawn_in (view_of y).seen ≡ drawn_in (view_of x).seen + drawn_in entries
        = ap drawn_in comes.seen ∙ sum_by-append (λ e. bit (is_enter e)) (view_of x).seen entries in
        let numbers = room.numbers in
        let few = does.few in
        let limit = comes.same.limit in
        omega (arith, counted, numbers, few, limit);
    known = known-all x y seated.known more room.known.1;
  }

  pub answered : (a : Answer) → a ≡ answer_by r → Answers tenant_sight x line a y
  answered a is = record {
    answer = is ∙ answer_is;
    serves = record {
      standing = stands;
      seen = comes.seen ∙ ap (λ es. (view_of x).seen ++ es) entries_are;
      fits = room_on;
    };
  }
