-- The floor on which a plan has run: its passes have seen just this run.
use Rattle.std.proofs.Common.{◌≡◌, ℕ, ◌<◌, List, Option, length, slice_get, ap, sym, subst, ◌∙◌, arith}
use Rattle.std.proofs.lemmas.List.{length-map}
use Rattle.cqs_core.proofs.Places.{get-there}
use Rattle.cqs_plan.specs.declared.plans.kind.Kind.{Kind}
use Rattle.cqs_plan.specs.declared.plans.plan.Plan.{Plan}
use Rattle.cqs_plan.specs.declared.plans.resource.Resource.{Resource}
use Rattle.cqs_plan.specs.Floor.{history_at}
use Rattle.cqs_plan.specs.LegalFloor.{IsLegalFor}
use Rattle.cqs_floor_alone_kinds.specs.declared.any_sole.AnySole.{AnySole}
use Rattle.cqs_floor_alone_kinds.specs.declared.any_sole.AnySole.TheVariants as any
use Rattle.cqs_floor_alone_kinds.specs.declared.running_sole.RunningSole.{RunningSole}
use Rattle.cqs_floor_alone_kinds.specs.declared.running_sole.RunningSole.TheVariants.{Semaphore, Mutex}
use Rattle.cqs_floor_alone.specs.Kept.{IsKept}
use Rattle.cqs_cli.specs.KeptRuns.{HasRun}
use Rattle.cqs_floor_alone.specs.Ledger.{Ledger, plain_floor}
use Rattle.cqs_cli.specs.Plans.{floor_after}
use Rattle.cqs_floor_alone_kinds.specs.SoleRunning.{IsAlone, IsAloneAt, sole_running, store_running}
use Rattle.cqs_floor_alone.proofs.Resources.{history-there}

funded-alone : (x : RunningSole) (kind : Option Kind) (room waiting held : ℕ)
    → sole_running.funded x kind room waiting held → IsAlone kind x
funded-alone (Semaphore x) kind room waiting held funded = (funded.sort, funded.mine, funded.rests.alone)
funded-alone (Mutex x) kind room waiting held funded = (funded.sort, funded.mine, funded.rests.alone)

alone-at : (x : AnySole RunningSole) (kind : Option Kind) (room waiting : ℕ) (held : List (List ℕ))
    → store_running.funded x kind room waiting held → IsAloneAt kind x
alone-at (any.Permits x) kind room waiting held funded = funded-alone x kind room waiting _ funded.funded
alone-at (any.Pool x) kind room waiting held funded = (funded.sort, funded.mine, funded.rests.only.0)
alone-at (any.Latch x) kind room waiting held funded = (funded.sort, funded.mine, funded.rests.alone)
alone-at (any.Rounds x) kind room waiting held funded = (
  funded.sort,
  record {
    at = λ round r got.
        let one = funded.each.at round r got in
        record { mine = one.mine; alone = one.rests.alone };
  },
)

pub has-run : (plan : Plan) (l : Ledger (AnySole RunningSole)) → IsKept store_running l
    → plain_floor store_running l ≡ floor_after plan → IsLegalFor plan (plain_floor store_running l)
    → HasRun plan l
has-run plan l kept plain legal = record {
  plain = plain;
  passes = λ at below.
      let long : length l.kinds ≡ length plan.resources =
      ap (λ (ks : List Kind). length ks) legal.kinds ∙ length-map plan.resources (λ (r : Resource). r.kind) in
      let inside : at < length l.soles = omega (arith, below, long, kept.soles) in
      let there = get-there l.soles at inside in
      let funded = kept.funded.at at there.0 there.1 in
      record {
        sole = there.0;
        there = there.1;
        alone = subst (λ (ks : List Kind). IsAloneAt (slice_get ks at) there.0) legal.kinds
            (alone-at there.0 _ _ _ _ funded);
        seen = sym (history-there store_running l.soles at there.0 there.1) ∙ ap (λ f. history_at f at) plain;
      };
}
