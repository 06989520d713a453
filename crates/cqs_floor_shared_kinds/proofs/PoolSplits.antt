-- A pass of a pool that workers share makes another.
use Rattle.std.proofs.Common.{◌≡◌, ℕ, suc, zero, ◌+◌, ◌≤◌, List, [], ◌∷◌, drop, length, replicate, Some, vec_capacity, refl, ap, sym, ◌∙◌, subst, arith}
use Rattle.std.specs.Arc.{arc_value}
use Rattle.cqs_core.specs.Parts.{part}
use Rattle.cqs_plan.specs.declared.plans.kind.Kind.{Kind}
use Rattle.cqs_plan.specs.declared.plans.kind.Kind.TheVariants as kind
use Rattle.cqs_plan.specs.FloorHistory.{of_elements}
use Rattle.cqs_rule_laws.specs.CallRule.{IsReady}
use Rattle.cqs_pool.specs.Calls.{IsMine, Rests}
use Rattle.cqs_pool.specs.Pool.{pool_object}
use Rattle.cqs_pool.specs.Seats.{LookedOn}
use Rattle.cqs_pool_object.specs.declared.entries.PoolEntry.{PoolEntry}
use Rattle.cqs_pool_object.specs.PoolNames.{entry_names}
use Rattle.cqs_rule_laws.specs.Crew.{Came}
use Rattle.cqs_rule_laws.specs.declared.view.Facts.{Facts}
use Rattle.cqs_rule_laws.specs.declared.view.Opening.{Opening}
use Rattle.cqs_rule_laws.specs.declared.view.View.{View}
use Rattle.cqs_rule_laws.specs.Lists.{IsDistinct}
use Rattle.cqs_rule.specs.Passes.{pass_view}
use Rattle.cqs_floor_common.specs.HeldElements.{elements_held, held_by}
use Rattle.cqs_floor_shared.specs.AnswerEntries.{turned_entries}
use Rattle.cqs_floor_shared.specs.Entries.{at_elements, is_nothing, none_of}
use Rattle.cqs_rule_laws.proofs.Places.{goes-looked}
use Rattle.cqs_floor_shared_kinds.specs.declared.kinds.pool.SharedPool.{SharedPool}
use Rattle.cqs_floor_shared_kinds.specs.PoolAccounts.{IsAccounted, gains, losses}
use Rattle.cqs_floor_shared_kinds.specs.PoolRuns.{IsPool}
use Rattle.cqs_floor_shared_kinds.specs.PoolShares.{AreInHand, share_pool}
use Rattle.cqs_floor_shared_kinds.specs.Runs.{Went}
use Rattle.cqs_floor_shared_kinds.specs.Shares.{Sees}
use Rattle.cqs_floor_shared_kinds.specs.ShareCalls.{HasSplit}
use Rattle.cqs_floor_shared_kinds.proofs.Accounts.{over-none}
use Rattle.cqs_floor_shared_kinds.proofs.Families.{name-same}
use Rattle.cqs_floor_shared_kinds.proofs.PoolShares.{keeps-all, pool-have, pool-see}
use Rattle.cqs_floor_shared_kinds.proofs.Runs.{has-first, has-other}
use Rattle.cqs_floor_shared_kinds.proofs.Sights.{sees-on}

no-entries : (k : Kind) → IsPool k → none_of (turned_entries (Some k) 0) ≡ at_elements []
no-entries (kind.Pool elements) sort = refl
no-entries (kind.Semaphore permits) sort = absurd sort
no-entries kind.Mutex sort = absurd sort
no-entries (kind.Latch count) sort = absurd sort
no-entries (kind.Rounds parties rounds) sort = absurd sort

pub no-one-holds : (jobs job : ℕ) → [] ≡ held_by (replicate jobs []) job
no-one-holds zero job = refl
no-one-holds (suc jobs) zero = refl
no-one-holds (suc jobs) (suc job) = no-one-holds jobs job

-- a pass that was made has nothing of it
pub account-none : (n : ℕ) (h : List PoolEntry) (own : List ℕ) → own ≡ n ∷ [] → part entry_names n h ≡ []
    → IsAccounted own h 0
account-none n h own is none =
    subst (λ o. IsAccounted o h 0) (sym is)
    (omega (arith, over-none entry_names gains n h none, over-none entry_names losses n h none))

-- what a split leaves of its pass
looked-went : (v w : View PoolEntry (Unit {0})) → v.own ≡ v.number ∷ drop 1 v.own → LookedOn v w
    → Went pool_object v [] w
looked-went v w numbers looked = record {
  more = looked.course.more;
  seen = looked.course.seen;
  mine = looked.course.mine v.number (has-first v.own v.number numbers);
  others = λ n has. looked.course.mine n (has-other n v.own v.number numbers has);
  legal = looked.course.legal;
  same = record {
    number = looked.saw.same.number;
    own = looked.saw.same.own;
    limit = looked.saw.same.limit;
    cells = looked.saw.same.cells;
    passes = looked.saw.same.passes;
    opening = looked.saw.same.opening;
    goes = goes-looked pool_object v w v.facts [] looked.saw;
  };
}

module _ (x made y : SharedPool) (same_one : y.pool ≡ x.pool) (mine : IsMine (arc_value x.pool) y.pass)
    (same_held : y.held ≡ x.held) (new_mine : IsMine (arc_value x.pool) made.pass)
    (shared : arc_value made.pool ≡ arc_value x.pool) (empty : made.held.items ≡ [])
    (space : vec_capacity x.held ≤ vec_capacity made.held) (looked : LookedOn (pass_view x.pass) (pass_view y.pass))
    (ready : IsReady (pass_view y.pass).facts) (came : Came pool_object (pass_view y.pass) (pass_view made.pass))
    (new_ready : IsReady (pass_view made.pass).facts) where
  abbrev v : View PoolEntry (Unit {0})
  v = pass_view x.pass

  abbrev u : View PoolEntry (Unit {0})
  u = pass_view made.pass

  abbrev w : View PoolEntry (Unit {0})
  w = pass_view y.pass

  capacity : vec_capacity y.held ≡ vec_capacity x.held
  capacity = ap (λ h. vec_capacity h) same_held

  pub pool-split : (gives : ℕ) → HasSplit share_pool gives x made y
  pool-split gives a funded =
      let r = funded.rests in
      let went = looked-went v w r.numbers looked in
      let rests : Rests v v.facts.has.slots v.facts.waits w
      = record {
        ready = ready;
        elements_are = ap (λ (f : Facts). f.has.slots) looked.facts_are;
        waits_are = ap (λ (f : Facts). f.waits) looked.facts_are;
      } in
      let opened : u.opening ≡ v.opening = came.opening ∙ went.same.opening in
      let nothing : u.facts.has.slots ≡ [] = ap (λ (f : Facts). f.has.slots) came.facts in
      record {
        looked = sees-on share_pool a.kind x y
            (subst (λ es. Sees share_pool a.kind x es y) (sym (no-entries a.kind funded.sort))
            (pool-see x y same_one mine capacity a [] funded went));
        funded = pool-have x y same_one mine capacity a a [] v.facts.has.slots v.facts.waits funded went rests refl
            funded.none_came (λ j. ap (λ h. elements_held j h.items) same_held ∙ funded.here j)
            (subst (λ h. AreInHand h.items v.facts.has.slots) (sym same_held) funded.hands) r.waits_are refl;
        keeps = keeps-all x y same_one mine capacity went.same v.facts.has.slots v.facts.waits rests (λ k has. has);
        met = ap (λ (own : List ℕ). drop 1 own) came.own;
        seen = ap of_elements came.seen;
        nothing = ap (λ (l : List PoolEntry). is_nothing (of_elements l)) came.unnamed;
        passes = new_mine.passes ∙ sym funded.mine.passes;
        limit = new_mine.limit ∙ sym funded.mine.limit;
        family = ap (λ name. name ∷ []) (name-same x.pass made.pass (new_mine.table ∙ sym funded.mine.table)
            (new_mine.passes ∙ sym funded.mine.passes) (new_mine.limit ∙ sym funded.mine.limit)
            (new_mine.cells ∙ sym funded.mine.cells) opened);
        parties = λ round. refl;
        gives_each = refl;
        made_funded = λ jobs. record {
          sort = funded.sort;
          mine = subst (λ s. IsMine s made.pass) (sym shared) new_mine;
          none_came = refl;
          rests = record {
            size_is = ap (λ (o : Opening). o.size) opened ∙ r.size_is;
            ready = new_ready;
            numbers = came.own ∙ ap (λ own. u.number ∷ own) (sym (ap (λ (own : List ℕ). drop 1 own) came.own));
            distinct = subst IsDistinct (sym came.own) ((λ has. has), tt);
            waits_are = ap (λ (f : Facts). length f.waits) came.facts;
            account = subst (λ (l : List ℕ). IsAccounted u.own u.seen (length l + 0)) (sym nothing)
                (account-none u.number u.seen u.own came.own came.unnamed);
          };
          here = λ job. ap (elements_held job) empty ∙ no-one-holds jobs job;
          hands = subst (λ hs. AreInHand hs u.facts.has.slots) (sym empty)
              (subst (AreInHand []) (sym nothing) (record { each = λ e. refl; many = refl }));
          space = omega (arith, funded.space, space);
        };
      }
