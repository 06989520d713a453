use Rattle.std.proofs.Common.{flat_map, get_or}
use Rattle.std.proofs.lemmas.Option.{slice_get-get_or}
use Rattle.cqs_plan.specs.declared.plans.resource.Resource.{Resource}
use Rattle.cqs_plan.specs.Runnable.{kinds_of}
use Rattle.cqs_turns_report.proofs.Mapped.{get-map}
use Rattle.cqs_work.proofs.Rowing.{lines-then}
use Rattle.cqs_work.proofs.waits.lines_of.Goals as goal

pub loop-at-preserved : goal.loop-at-preserved
loop-at-preserved c =
    let resource : Resource = get_or c.args.resources.now c.loop-at.at c.index-resources-at.result in
    lines-then (kinds_of c.args.resources.now) (flat_map (λ own. own.items) c.args.waits.now) c.loop-at.at
    resource.kind
    (get-map (λ (r : Resource). r.kind) c.args.resources.now c.loop-at.at resource
    (slice_get-get_or c.args.resources.now c.loop-at.at c.index-resources-at.result c.loop-at-test.true))
    c.loop-at.lines.items c.add_at.new.lines.items c.loop-at.invariant c.in_ok-add_at.ensures
