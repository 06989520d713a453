use Rattle.std.proofs.Common.{ap, sym, ◌∙◌, subst}
use Rattle.cqs_core.specs.QueueSteps.{enters, installs, takes}
use Rattle.cqs_rule_laws.specs.Lists.{Has}
use Rattle.cqs_rule.specs.Passes.{pass_view}
use Rattle.cqs_rule.proofs.Places.{knows-saw}
use Rattle.cqs_rule.proofs.PlainQueues.{plain-opening}
use Rattle.cqs_suspend.proofs.Steps.{never-misses, still-extends, way-searched, way-missed-by, ends-by, ends-at, waits-here}
use Rattle.cqs_suspend.proofs.entering.enter.Goals as goal

pub wait_of-requires-clause-wait : goal.wait_of-requires-clause-wait
wait_of-requires-clause-wait g c =
    let C = g.C.ClientWords in
    let k = c.add_table-number.result in
    let way = way-searched C.object C.primitive enters k _ _ _ c.add_table-number.ensures.saw
    c.place-at.ensures.searched in
    subst (λ z. Has z (pass_view c.install.new.pass).facts.waits) (sym c.place-at.ensures.place.0)
    (waits-here C.object C.primitive enters 0 k 0 _ _
    (ends-by C.object C.primitive enters installs 0 0 k _ 0 _ _ _ way c.place-at.ensures.place.0 c.in-Ok.ensures.made))

pub wait_of-requires-clause-place : goal.wait_of-requires-clause-place
wait_of-requires-clause-place g c =
    let C = g.C.ClientWords in
    knows-saw C.object (pass_view c.place-at.new.pass)
    (pass_view c.install.new.pass) _ _ _ c.in-Ok.ensures.made.saw c.place-at.ensures.place.1

pub take_value-requires-clause-place : goal.take_value-requires-clause-place
take_value-requires-clause-place g c =
    let C = g.C.ClientWords in
    knows-saw C.object (pass_view c.place-at.new.pass) (pass_view c.install.new.pass) _ _ _ c.in-Err.ensures.missed.saw
    c.place-at.ensures.place.1

pub returns-in-Ok-clause-entered : goal.returns-in-Ok-clause-entered
returns-in-Ok-clause-entered g c =
    let C = g.C.ClientWords in
    let k = c.add_table-number.result in
    let way = way-searched C.object C.primitive enters k _ _ _ c.add_table-number.ensures.saw
    c.place-at.ensures.searched in
    let ends = ends-by C.object C.primitive enters installs 0 0 k _ 0 _ _ _ way c.place-at.ensures.place.0
    c.in-Ok.ensures.made in (
      ends-at C.object C.primitive enters installs 0 k _ 0 _ _ _
          (ap (λ p. p.index) c.wait_of.ensures.place ∙ c.place-at.ensures.place.0)
          (ap pass_view c.wait_of.ensures.same) ends,
      c.wait_of.ensures.has,
    )

pub returns-in-Ok-take_value-clause-entered : goal.returns-in-Ok-take_value-clause-entered
returns-in-Ok-take_value-clause-entered g c =
    let C = g.C.ClientWords in
    let k = c.add_table-number.result in
    let way = way-searched C.object C.primitive enters k _ _ _ c.add_table-number.ensures.saw
    c.place-at.ensures.searched in
    ends-by C.object C.primitive enters takes 1 1 k _ _ _ _ _
    (way-missed-by C.object C.primitive enters installs 0 k _ _ _ _ _ way c.place-at.ensures.place.0
    c.in-Err.ensures.missed)
    c.place-at.ensures.place.0 c.in-Ok-take_value.ensures.took

pub place-at-requires-clause-spare : goal.place-at-requires-clause-spare
place-at-requires-clause-spare g c =
    still-extends c.args.queue.now c.args.pass.now c.add_table-number.new.pass c.requires.spare
    (ap (λ f. f.spare_slots) c.add_table-number.ensures.saw.facts_are)

pub unreachable-requires : goal.unreachable-requires
unreachable-requires g c =
    let C = g.C.ClientWords in
    let missed = c.in-Err-take_value.ensures.missed in
    never-misses C.object C.primitive _ _ _ _ _ _
    (plain-opening c.args.queue.now c.place-at.new.pass g.met.C.ClientWords.keeps c.place-at.ensures.belongs
    c.requires.plain)
    c.in-Err.ensures.missed missed.0 missed.1
