-- A pass of a semaphore that workers share makes another.
use Rattle.std.proofs.Common.{◌≡◌, ℕ, suc, zero, List, [], ◌∷◌, drop, length, replicate, Some, refl, ap, sym, ◌∙◌, subst, arith}
use Rattle.std.specs.Arc.{arc_value}
use Rattle.std.proofs.lemmas.List.Folds.{sum_by-replicate}
use Rattle.cqs_core.specs.declared.entries.Entry.{Entry}
use Rattle.cqs_core.specs.Parts.{part}
use Rattle.cqs_core.specs.SemaphoreNames.{entry_names}
use Rattle.cqs_plan.specs.declared.plans.kind.Kind.{Kind}
use Rattle.cqs_plan.specs.declared.plans.kind.Kind.TheVariants as kind
use Rattle.cqs_plan.specs.FloorHistory.{of_permits}
use Rattle.cqs_rule_laws.specs.Crew.{Came}
use Rattle.cqs_rule_laws.specs.declared.view.Facts.{Facts}
use Rattle.cqs_rule_laws.specs.declared.view.Opening.{Opening}
use Rattle.cqs_rule_laws.specs.declared.view.View.{View}
use Rattle.cqs_rule_laws.specs.Lists.{IsDistinct}
use Rattle.cqs_rule.specs.Passes.{pass_view}
use Rattle.cqs_semaphore_client.specs.Semaphore.{semaphore_object}
use Rattle.cqs_rule_laws.specs.CallRule.{IsReady}
use Rattle.cqs_semaphore.specs.Calls.{IsMine, Rests}
use Rattle.cqs_semaphore.specs.Seats.{LookedOn}
use Rattle.cqs_floor_shared.specs.AnswerEntries.{turned_entries}
use Rattle.cqs_floor_shared.specs.Entries.{at_permits, is_nothing, none_of}
use Rattle.cqs_rule_laws.proofs.Places.{goes-looked}
use Rattle.cqs_floor_shared_kinds.specs.declared.kinds.permits.SharedPermits.{SharedPermits}
use Rattle.cqs_floor_shared_kinds.specs.PermitAccounts.{IsAccounted, doors, enters, gains, losses}
use Rattle.cqs_floor_shared_kinds.specs.PermitRuns.{IsOfPermits}
use Rattle.cqs_floor_shared_kinds.specs.PermitShares.{HoldPermits, share_permits, total}
use Rattle.cqs_floor_shared_kinds.specs.Runs.{Went}
use Rattle.cqs_floor_shared_kinds.specs.Shares.{Sees}
use Rattle.cqs_floor_shared_kinds.specs.ShareCalls.{HasSplit}
use Rattle.cqs_floor_shared_kinds.proofs.Accounts.{over-none}
use Rattle.cqs_floor_shared_kinds.proofs.Families.{name-same}
use Rattle.cqs_floor_shared_kinds.proofs.PermitShares.{keeps-all, permits-have, permits-see}
use Rattle.cqs_floor_shared_kinds.proofs.Runs.{has-first, has-other}
use Rattle.cqs_floor_shared_kinds.proofs.Sights.{sees-on}

no-entries : (k : Kind) → IsOfPermits k → none_of (turned_entries (Some k) 0) ≡ at_permits []
no-entries (kind.Semaphore permits) sort = refl
no-entries kind.Mutex sort = refl
no-entries (kind.Pool elements) sort = absurd sort
no-entries (kind.Latch count) sort = absurd sort
no-entries (kind.Rounds parties rounds) sort = absurd sort

pub hold-none : (jobs : ℕ) → HoldPermits (replicate jobs [])
hold-none zero = tt
hold-none (suc jobs) = (tt, hold-none jobs)

pub total-none : (jobs : ℕ) → total (replicate jobs []) ≡ 0
total-none jobs = omega (arith, sum_by-replicate (λ (es : List ℕ). length es) jobs [])

-- a pass that was made has nothing of it
pub account-none : (n : ℕ) (h : List Entry) (own : List ℕ) → own ≡ n ∷ [] → part entry_names n h ≡ []
    → IsAccounted own h 0
account-none n h own is none =
    subst (λ o. IsAccounted o h 0) (sym is) (record {
      even = omega (arith, over-none entry_names gains n h none, over-none entry_names losses n h none);
      entered = omega (arith, over-none entry_names enters n h none, over-none entry_names doors n h none);
    })

-- what a split leaves of its pass
looked-went : (v w : View Entry (Unit {0})) → v.own ≡ v.number ∷ drop 1 v.own → LookedOn v w
    → Went semaphore_object v [] w
looked-went v w numbers looked = record {
  more = looked.course.more;
  seen = looked.course.seen;
  mine = looked.course.mine v.number (has-first v.own v.number numbers);
  others = λ n has. looked.course.mine n (has-other n v.own v.number numbers has);
  legal = looked.course.legal;
  same = record {
    number = looked.saw.same.number;
    own = looked.saw.same.own;
    limit = looked.saw.same.limit;
    cells = looked.saw.same.cells;
    passes = looked.saw.same.passes;
    opening = looked.saw.same.opening;
    goes = goes-looked semaphore_object v w v.facts [] looked.saw;
  };
}

module _ (x made y : SharedPermits) (same_one : y.semaphore ≡ x.semaphore)
    (mine : IsMine (arc_value x.semaphore) y.pass) (new_mine : IsMine (arc_value x.semaphore) made.pass)
    (shared : arc_value made.semaphore ≡ arc_value x.semaphore)
    (looked : LookedOn (pass_view x.pass) (pass_view y.pass))
    (ready : IsReady (pass_view y.pass).facts)
    (came : Came semaphore_object (pass_view y.pass) (pass_view made.pass))
    (new_ready : IsReady (pass_view made.pass).facts) where
  abbrev v : View Entry (Unit {0})
  v = pass_view x.pass

  abbrev u : View Entry (Unit {0})
  u = pass_view made.pass

  abbrev w : View Entry (Unit {0})
  w = pass_view y.pass

  pub permits-split : (gives : ℕ) → HasSplit share_permits gives x made y
  permits-split gives a funded =
      let r = funded.rests in
      let went = looked-went v w r.numbers looked in
      let rests : Rests v v.facts.has.held v.facts.waits w
      = record {
        ready = ready;
        held_is = ap (λ (f : Facts). f.has.held) looked.facts_are;
        waits_are = ap (λ (f : Facts). f.waits) looked.facts_are;
      } in
      let opened : u.opening ≡ v.opening = came.opening ∙ went.same.opening in
      record {
        looked = sees-on share_permits a.kind x y
            (subst (λ es. Sees share_permits a.kind x es y) (sym (no-entries a.kind funded.sort))
            (permits-see x y same_one mine a [] funded went));
        funded = permits-have x y same_one mine a a [] v.facts.has.held v.facts.waits funded went rests refl
            funded.permits r.held_is r.waits_are refl refl;
        keeps = keeps-all x y same_one mine went.same v.facts.has.held v.facts.waits rests (λ k has. has);
        met = ap (λ (own : List ℕ). drop 1 own) came.own;
        seen = ap of_permits came.seen;
        nothing = ap (λ (l : List Entry). is_nothing (of_permits l)) came.unnamed;
        passes = new_mine.passes ∙ sym funded.mine.passes;
        limit = new_mine.limit ∙ sym funded.mine.limit;
        family = ap (λ name. name ∷ []) (name-same x.pass made.pass (new_mine.table ∙ sym funded.mine.table)
            (new_mine.passes ∙ sym funded.mine.passes) (new_mine.limit ∙ sym funded.mine.limit)
            (new_mine.cells ∙ sym funded.mine.cells) opened);
        parties = λ round. refl;
        gives_each = refl;
        made_funded = λ jobs. record {
          sort = funded.sort;
          mine = subst (λ s. IsMine s made.pass) (sym shared) new_mine;
          permits = hold-none jobs;
          rests = record {
            size_is = ap (λ (o : Opening). o.size) opened ∙ r.size_is;
            ready = new_ready;
            numbers = came.own ∙ ap (λ own. u.number ∷ own) (sym (ap (λ (own : List ℕ). drop 1 own) came.own));
            distinct = subst IsDistinct (sym came.own) ((λ has. has), tt);
            held_is = ap (λ (f : Facts). f.has.held) came.facts ∙ omega (arith, total-none jobs);
            waits_are = ap (λ (f : Facts). length f.waits) came.facts;
            account = subst (λ n. IsAccounted u.own u.seen n) (omega (arith, total-none jobs))
                (account-none u.number u.seen u.own came.own came.unnamed);
          };
        };
      }
