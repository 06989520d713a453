-- A latch that workers share as it is made.
use Rattle.std.proofs.Common.{◌≡◌, ℕ, ◌+◌, ◌≤◌, List, [], ◌∷◌, drop, length, Some, refl, ap, sym, ◌∙◌, subst, arith}
use Rattle.std.specs.Arc.{arc_value}
use Rattle.cqs_core.specs.Parts.{part}
use Rattle.cqs_latch_object.specs.declared.entries.LatchEntry.{LatchEntry}
use Rattle.cqs_latch_object.specs.LatchNames.{entry_names}
use Rattle.cqs_plan.specs.declared.plans.kind.Kind.{Kind}
use Rattle.cqs_plan.specs.declared.plans.kind.Kind.TheVariants as kind
use Rattle.cqs_plan.specs.Floor.{IsLatch, size_of}
use Rattle.cqs_plan.specs.FloorHistory.{no_history, of_latch}
use Rattle.cqs_plan.specs.Validity.{IsKind}
use Rattle.cqs_latch.specs.Calls.{IsMine, Rests}
use Rattle.cqs_latch.specs.LatchMade.{count_of, mode_of}
use Rattle.cqs_rule_laws.specs.declared.config.CancelMode.TheVariants.{Smart}
use Rattle.cqs_rule_laws.specs.declared.view.Opening.{Opening}
use Rattle.cqs_rule_laws.specs.Lists.{IsDistinct}
use Rattle.cqs_rule.specs.Passes.{client_of, limit_of, pass_view, passes_of}
use Rattle.cqs_floor_shared_any.specs.declared.kinds.latch.SharedLatch.{SharedLatch}
use Rattle.cqs_floor_shared_any.specs.LatchAccounts.{IsAccounted}
use Rattle.cqs_floor_shared_any.specs.LatchShares.{share_latch}
use Rattle.cqs_floor_shared_kinds.specs.ShareCalls.{IsOpened, first_parties}
use Rattle.cqs_floor_shared_any.proofs.LatchAccounts.{account-none}

no-latch : (k : Kind) → IsLatch (Some k) → of_latch [] ≡ no_history k
no-latch (kind.Latch count) sort = refl
no-latch (kind.Semaphore permits) sort = absurd sort
no-latch kind.Mutex sort = absurd sort
no-latch (kind.Pool elements) sort = absurd sort
no-latch (kind.Rounds parties rounds) sort = absurd sort

no-parties : (k : Kind) → IsLatch (Some k) → [] ≡ first_parties share_latch k
no-parties (kind.Latch count) sort = refl
no-parties (kind.Semaphore permits) sort = absurd sort
no-parties kind.Mutex sort = absurd sort
no-parties (kind.Pool elements) sort = absurd sort
no-parties (kind.Rounds parties rounds) sort = absurd sort

-- how often it is to be counted down
pub few-counts : (k : Kind) → IsLatch (Some k) → IsKind k → size_of (Some k) ≤ 1048576
few-counts (kind.Latch count) sort sized = sized.1
few-counts (kind.Semaphore permits) sort sized = absurd sort
few-counts kind.Mutex sort sized = absurd sort
few-counts (kind.Pool elements) sort sized = absurd sort
few-counts (kind.Rounds parties rounds) sort sized = absurd sort

pub latch-opened : (x : SharedLatch) (k : Kind) (workers waits : ℕ) → IsLatch (Some k) → IsKind k
    → IsMine (arc_value x.latch) x.pass → count_of (client_of (arc_value x.latch).queue) ≡ size_of (Some k)
    → mode_of (client_of (arc_value x.latch).queue) ≡ Smart
    → passes_of (arc_value x.latch).queue ≡ workers → limit_of (arc_value x.latch).queue ≡ waits + 1
    → (pass_view x.pass).number ≡ 0 → (pass_view x.pass).own ≡ 0 ∷ [] → (pass_view x.pass).seen ≡ []
    → Rests [] (pass_view x.pass) → x.downs ≡ 0 → IsOpened share_latch k workers waits x
latch-opened x k workers waits sort sized mine count mode many limit number own seen rests downs =
    let v = pass_view x.pass in
    let most = mine.limit in
    record {
      number = number;
      met = ap (λ (o : List ℕ). drop 1 o) own;
      seen = ap of_latch seen ∙ no-latch k sort;
      passes_are = mine.passes ∙ many;
      limit = omega (arith, most, limit);
      parties = no-parties k sort;
      funded = λ jobs. record {
        sort = sort;
        few = few-counts k sort sized;
        none_came = refl;
        mine = mine;
        rests = record {
          size_is = ap (λ (o : Opening). o.size) mine.opening ∙ count;
          smart = ap (λ (o : Opening). o.mode) mine.opening ∙ mode;
          ready = rests.ready;
          numbers = own ∙ ap (λ n. n ∷ []) (sym number) ∙ ap (λ (o : List ℕ). v.number ∷ drop 1 o) (sym own);
          distinct = subst IsDistinct (sym own) ((λ has. has), tt);
          waits_are = ap (λ (l : List ℕ). length l) rests.waits_are;
          account = subst (λ n. IsAccounted v.own v.facts.waits v.seen n) (sym downs)
              (account-none 0 v.seen v.own v.facts.waits own
              (ap (λ (h : List LatchEntry). part entry_names 0 h) seen));
        };
      };
    }
