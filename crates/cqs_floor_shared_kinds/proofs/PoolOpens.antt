-- A pool that workers share as it is made.
use Rattle.std.proofs.Common.{◌≡◌, ℕ, ◌+◌, ◌≤◌, List, [], ◌∷◌, drop, length, Some, vec_capacity, refl, ap, sym, ◌∙◌, subst, arith}
use Rattle.std.specs.Arc.{arc_value}
use Rattle.cqs_core.specs.Parts.{part}
use Rattle.cqs_plan.specs.declared.plans.kind.Kind.{Kind}
use Rattle.cqs_plan.specs.declared.plans.kind.Kind.TheVariants as kind
use Rattle.cqs_plan.specs.Floor.{size_of}
use Rattle.cqs_plan.specs.FloorHistory.{no_history, of_elements}
use Rattle.cqs_pool.specs.Calls.{IsMine, Rests, size_of as elements_in}
use Rattle.cqs_pool_object.specs.declared.entries.PoolEntry.{PoolEntry}
use Rattle.cqs_pool_object.specs.PoolNames.{entry_names}
use Rattle.cqs_rule_laws.specs.declared.view.Opening.{Opening}
use Rattle.cqs_rule_laws.specs.Lists.{IsDistinct}
use Rattle.cqs_rule.specs.Passes.{limit_of, pass_view, passes_of}
use Rattle.cqs_floor_common.specs.HeldElements.{elements_held}
use Rattle.cqs_floor_shared_kinds.specs.declared.kinds.pool.SharedPool.{SharedPool}
use Rattle.cqs_floor_shared_kinds.specs.PoolAccounts.{IsAccounted}
use Rattle.cqs_floor_shared_kinds.specs.PoolRuns.{IsPool}
use Rattle.cqs_floor_shared_kinds.specs.PoolShares.{AreInHand, share_pool}
use Rattle.cqs_floor_shared_kinds.specs.ShareCalls.{IsOpened, first_parties}
use Rattle.cqs_floor_shared_kinds.proofs.PoolSplits.{account-none, no-one-holds}

no-elements : (k : Kind) → IsPool k → of_elements [] ≡ no_history k
no-elements (kind.Pool elements) sort = refl
no-elements (kind.Semaphore permits) sort = absurd sort
no-elements kind.Mutex sort = absurd sort
no-elements (kind.Latch count) sort = absurd sort
no-elements (kind.Rounds parties rounds) sort = absurd sort

no-parties : (k : Kind) → IsPool k → [] ≡ first_parties share_pool k
no-parties (kind.Pool elements) sort = refl
no-parties (kind.Semaphore permits) sort = absurd sort
no-parties kind.Mutex sort = absurd sort
no-parties (kind.Latch count) sort = absurd sort
no-parties (kind.Rounds parties rounds) sort = absurd sort

pub pool-opened : (x : SharedPool) (k : Kind) (workers takes : ℕ) → IsPool k
    → IsMine (arc_value x.pool) x.pass → elements_in (arc_value x.pool) ≡ size_of (Some k)
    → passes_of (arc_value x.pool).queue ≡ workers → limit_of (arc_value x.pool).queue ≡ takes + 1
    → (pass_view x.pass).number ≡ 0 → (pass_view x.pass).own ≡ 0 ∷ [] → (pass_view x.pass).seen ≡ []
    → x.held.items ≡ [] → size_of (Some k) ≤ vec_capacity x.held
    → Rests (pass_view x.pass) [] [] (pass_view x.pass) → IsOpened share_pool k workers takes x
pool-opened x k workers takes sort mine sized many limit number own seen empty space rests =
    let v = pass_view x.pass in
    let most = mine.limit in
    record {
      number = number;
      met = ap (λ (o : List ℕ). drop 1 o) own;
      seen = ap of_elements seen ∙ no-elements k sort;
      passes_are = mine.passes ∙ many;
      limit = omega (arith, most, limit);
      parties = no-parties k sort;
      funded = λ jobs. record {
        sort = sort;
        mine = mine;
        none_came = refl;
        rests = record {
          size_is = ap (λ (o : Opening). o.size) mine.opening ∙ sized;
          ready = rests.ready;
          numbers = own ∙ ap (λ n. n ∷ []) (sym number) ∙ ap (λ (o : List ℕ). v.number ∷ drop 1 o) (sym own);
          distinct = subst IsDistinct (sym own) ((λ has. has), tt);
          waits_are = ap (λ (l : List ℕ). length l) rests.waits_are;
          account = subst (λ (l : List ℕ). IsAccounted v.own v.seen (length l + 0)) (sym rests.elements_are)
              (account-none 0 v.seen v.own own (ap (λ (h : List PoolEntry). part entry_names 0 h) seen));
        };
        here = λ job. ap (elements_held job) empty ∙ no-one-holds jobs job;
        hands = subst (λ hs. AreInHand hs v.facts.has.slots) (sym empty)
            (subst (AreInHand []) (sym rests.elements_are) (record { each = λ e. refl; many = refl }));
        space = space;
      };
    }
