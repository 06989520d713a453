-- A semaphore that workers share as it is made.
use Rattle.std.proofs.Common.{◌≡◌, ℕ, ◌+◌, List, [], ◌∷◌, drop, length, Some, refl, ap, sym, ◌∙◌, subst, arith}
use Rattle.std.specs.Arc.{arc_value}
use Rattle.cqs_core.specs.declared.entries.Entry.{Entry}
use Rattle.cqs_core.specs.Parts.{part}
use Rattle.cqs_core.specs.SemaphoreNames.{entry_names}
use Rattle.cqs_plan.specs.declared.plans.kind.Kind.{Kind}
use Rattle.cqs_plan.specs.declared.plans.kind.Kind.TheVariants as kind
use Rattle.cqs_plan.specs.Floor.{size_of}
use Rattle.cqs_plan.specs.FloorHistory.{no_history, of_permits}
use Rattle.cqs_rule_laws.specs.declared.view.Opening.{Opening}
use Rattle.cqs_rule_laws.specs.Lists.{IsDistinct}
use Rattle.cqs_rule.specs.Passes.{limit_of, pass_view, passes_of}
use Rattle.cqs_semaphore.specs.Calls.{IsMine, Rests, permits_in}
use Rattle.cqs_floor_shared_kinds.specs.declared.kinds.permits.SharedPermits.{SharedPermits}
use Rattle.cqs_floor_shared_kinds.specs.PermitAccounts.{IsAccounted}
use Rattle.cqs_floor_shared_kinds.specs.PermitRuns.{IsOfPermits}
use Rattle.cqs_floor_shared_kinds.specs.PermitShares.{share_permits}
use Rattle.cqs_floor_shared_kinds.specs.ShareCalls.{IsOpened, first_parties}
use Rattle.cqs_floor_shared_kinds.proofs.PermitSplits.{account-none, hold-none, total-none}

no-permits : (k : Kind) → IsOfPermits k → of_permits [] ≡ no_history k
no-permits (kind.Semaphore permits) sort = refl
no-permits kind.Mutex sort = refl
no-permits (kind.Pool elements) sort = absurd sort
no-permits (kind.Latch count) sort = absurd sort
no-permits (kind.Rounds parties rounds) sort = absurd sort

no-parties : (k : Kind) → IsOfPermits k → [] ≡ first_parties share_permits k
no-parties (kind.Semaphore permits) sort = refl
no-parties kind.Mutex sort = refl
no-parties (kind.Pool elements) sort = absurd sort
no-parties (kind.Latch count) sort = absurd sort
no-parties (kind.Rounds parties rounds) sort = absurd sort

pub permits-opened : (x : SharedPermits) (k : Kind) (workers takes : ℕ) → IsOfPermits k
    → IsMine (arc_value x.semaphore) x.pass → permits_in (arc_value x.semaphore) ≡ size_of (Some k)
    → passes_of (arc_value x.semaphore).queue ≡ workers → limit_of (arc_value x.semaphore).queue ≡ takes + 1
    → (pass_view x.pass).number ≡ 0 → (pass_view x.pass).own ≡ 0 ∷ [] → (pass_view x.pass).seen ≡ []
    → Rests (pass_view x.pass) 0 [] (pass_view x.pass) → IsOpened share_permits k workers takes x
permits-opened x k workers takes sort mine sized many limit number own seen rests =
    let v = pass_view x.pass in
    let most = mine.limit in
    record {
      number = number;
      met = ap (λ (o : List ℕ). drop 1 o) own;
      seen = ap of_permits seen ∙ no-permits k sort;
      passes_are = mine.passes ∙ many;
      limit = omega (arith, most, limit);
      parties = no-parties k sort;
      funded = λ jobs. record {
        sort = sort;
        mine = mine;
        permits = hold-none jobs;
        rests = record {
          size_is = ap (λ (o : Opening). o.size) mine.opening ∙ sized;
          ready = rests.ready;
          numbers = own ∙ ap (λ n. n ∷ []) (sym number) ∙ ap (λ (o : List ℕ). v.number ∷ drop 1 o) (sym own);
          distinct = subst IsDistinct (sym own) ((λ has. has), tt);
          held_is = rests.held_is ∙ omega (arith, total-none jobs);
          waits_are = ap (λ (l : List ℕ). length l) rests.waits_are;
          account = subst (λ n. IsAccounted v.own v.seen n) (omega (arith, total-none jobs))
              (account-none 0 v.seen v.own own (ap (λ (h : List Entry). part entry_names 0 h) seen));
        };
      };
    }
