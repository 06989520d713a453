use Rattle.std.proofs.Common.{◌<◌, ◌^◌, rules, arith}
use Rattle.cqs_segment.specs.Walks.{Left}
use Rattle.cqs_rule.specs.Claims.{IsClaimer}
use Rattle.cqs_rule.specs.Passes.{pass_view}
use Rattle.cqs_rule.proofs.Claims.{claims, keeps-claimed}
use Rattle.cqs_rule.proofs.Makes.{scarce-far}
use Rattle.cqs_rule.proofs.Segments.{belongs-left}
use Rattle.cqs_rule.proofs.queue.Queue.make_segment.Goals as goal

pub replace_with-spares-requires : goal.replace_with-spares-requires
replace_with-spares-requires g c =
    let q = c.args.self.now in
    let p = c.args.pass.now in
    let belongs = c.requires.belongs in
    let few = p.few_cells in
    let low = c.requires.small in
    let small : c.args.index < 2 ^ 37 = omega arith in (
      belongs.table,
      (
        claims q p belongs,
        (
          c.requires.drawn,
          (
            small,
            scarce-far (pass_view p) c.args.index p.inside low c.requires.far,
          ),
        ),
      ),
    )

pub invariant_of-pass : goal.invariant_of-pass
invariant_of-pass g c =
    let p = c.args.pass.now in
    let seat = c.replace_with-spares.new.dest in
    let left : Left seat.me.0.facts.spare_slots (pass_view p).facts.duties (pass_view p) seat.me.0 = search rules in
    let claimer : IsClaimer c.args.self.now c.replace_with-spares.result.0 seat.me.0 = search rules in
    keeps-claimed c.args.self.now p seat.me.0 c.replace_with-spares.result.0 left claimer seat.me.1 seat.table_id
    (search rules) (search rules)

pub returns-clause-belongs : goal.returns-clause-belongs
returns-clause-belongs g c =
    let p = c.args.pass.now in
    let w = c.replace_with-spares.new.dest.me.0 in
    let left : Left w.facts.spare_slots (pass_view p).facts.duties (pass_view p) w = search rules in
    belongs-left c.args.self.now p _ left.0 w.facts.spare_slots (pass_view p).facts.duties c.requires.belongs left.1
    (search rules)
