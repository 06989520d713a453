use Rattle.std.proofs.Common.{ap, sym, ◌∙◌, subst, arith}
use Rattle.cqs_core.specs.declared.cells.CoreState.TheVariants as state
use Rattle.cqs_core.specs.QueueSteps.{draws, installs, in_sync, takes_watched, finds_broken}
use Rattle.cqs_rule_laws.specs.Lists.{Has}
use Rattle.cqs_rule_laws.proofs.CellSteps.{shown-injective}
use Rattle.cqs_rule.specs.Passes.{pass_view}
use Rattle.cqs_rule.proofs.Places.{knows-saw}
use Rattle.cqs_cell.proofs.Made.{after-miss}
use Rattle.cqs_suspend.proofs.Steps.{still-extends, way-searched, way-missed-by, ends-by, ends-more, ends-with, ends-at, waits-here}
use Rattle.cqs_suspend.proofs.Unmet.{broken-next, broken-since, sync-opening, worked-broken}
use Rattle.cqs_suspend.proofs.sync_suspending.suspend_sync.Goals as goal

pub wait_of-requires-clause-wait : goal.wait_of-requires-clause-wait
wait_of-requires-clause-wait g c =
    let C = g.C.ClientWords in
    let k = c.add_table-number.result in
    let way = way-searched C.object C.primitive draws k _ _ _ c.add_table-number.ensures.saw
    c.place-at.ensures.searched in
    subst (λ z. Has z (pass_view c.install.new.pass).facts.waits) (sym c.place-at.ensures.place.0)
    (waits-here C.object C.primitive draws 0 k 0 _ _
    (ends-by C.object C.primitive draws installs 0 0 k _ 0 _ _ _ way c.place-at.ensures.place.0 c.in-Ok.ensures.made))

pub wait_of-requires-clause-place : goal.wait_of-requires-clause-place
wait_of-requires-clause-place g c =
    let C = g.C.ClientWords in
    knows-saw C.object (pass_view c.place-at.new.pass)
    (pass_view c.install.new.pass) _ _ _ c.in-Ok.ensures.made.saw c.place-at.ensures.place.1

pub returns-in-Ok-clause-suspends : goal.returns-in-Ok-clause-suspends
returns-in-Ok-clause-suspends g c =
    let C = g.C.ClientWords in
    let k = c.add_table-number.result in
    let way = way-searched C.object C.primitive draws k _ _ _ c.add_table-number.ensures.saw
    c.place-at.ensures.searched in
    let ends = ends-by C.object C.primitive draws installs 0 0 k _ 0 _ _ _ way c.place-at.ensures.place.0
    c.in-Ok.ensures.made in (
      ends-at C.object C.primitive draws installs 0 k _ 0 _ _ _
          (ap (λ p. p.index) c.wait_of.ensures.place ∙ c.place-at.ensures.place.0)
          (ap pass_view c.wait_of.ensures.same) ends,
      c.wait_of.ensures.has,
    )

pub take_watched-requires-clause-place : goal.take_watched-requires-clause-place
take_watched-requires-clause-place g c =
    let C = g.C.ClientWords in
    knows-saw C.object (pass_view c.place-at.new.pass) (pass_view c.install.new.pass) _ _ _ c.in-Err.ensures.missed.saw
    c.place-at.ensures.place.1

pub place-at-requires-clause-spare : goal.place-at-requires-clause-spare
place-at-requires-clause-spare g c =
    still-extends c.args.queue.now c.args.pass.now c.add_table-number.new.pass c.requires.spare
    (ap (λ f. f.spare_slots) c.add_table-number.ensures.saw.facts_are)

pub returns-in-Ok-take_watched-clause-suspends : goal.returns-in-Ok-take_watched-clause-suspends
returns-in-Ok-take_watched-clause-suspends g c =
    let C = g.C.ClientWords in
    let k = c.add_table-number.result in
    let way = way-searched C.object C.primitive draws k _ _ _ c.add_table-number.ensures.saw
    c.place-at.ensures.searched in
    ends-more C.object C.primitive draws (in_sync takes_watched) 1 2 k _ _ _ (omega arith)
    (ends-by C.object C.primitive draws (in_sync takes_watched) 1 0 k _ _ _ _ _
    (way-missed-by C.object C.primitive draws installs 0 k _ _ _ _ _ way c.place-at.ensures.place.0
    c.in-Err.ensures.missed)
    c.place-at.ensures.place.0 c.in-Ok-take_watched.ensures.took)

pub take_watched-requires-in-Value-clause-place : goal.take_watched-requires-in-Value-clause-place
take_watched-requires-in-Value-clause-place g c =
    let C = g.C.ClientWords in
    knows-saw C.object _ (pass_view c.take_watched.new.pass) _ _ _ c.in-Err-take_watched.ensures.missed.missed.saw
    (knows-saw C.object (pass_view c.place-at.new.pass) (pass_view c.install.new.pass) _ _ _
    c.in-Err.ensures.missed.saw c.place-at.ensures.place.1)

pub returns-in-Ok-take_watched-2-clause-suspends : goal.returns-in-Ok-take_watched-2-clause-suspends
returns-in-Ok-take_watched-2-clause-suspends g c =
    let C = g.C.ClientWords in
    let k = c.add_table-number.result in
    let way = way-searched C.object C.primitive draws k _ _ _ c.add_table-number.ensures.saw
    c.place-at.ensures.searched in
    ends-by C.object C.primitive draws (in_sync takes_watched) 2 0 k _ _ _ _ _
    (way-missed-by C.object C.primitive draws (in_sync takes_watched) 1 k _ _ _ _ _
    (way-missed-by C.object C.primitive draws installs 0 k _ _ _ _ _ way c.place-at.ensures.place.0
    c.in-Err.ensures.missed)
    c.place-at.ensures.place.0 c.in-Err-take_watched.ensures.missed.missed)
    c.place-at.ensures.place.0 c.in-Ok-take_watched-2.ensures.took

pub find_broken-requires-clause-place : goal.find_broken-requires-clause-place
find_broken-requires-clause-place g c =
    let C = g.C.ClientWords in
    knows-saw C.object _ (pass_view c.take_watched-in-Value.new.pass) _ _ _
    c.in-Err-take_watched-2.ensures.missed.missed.saw
    (knows-saw C.object _ (pass_view c.take_watched.new.pass) _ _ _ c.in-Err-take_watched.ensures.missed.missed.saw
    (knows-saw C.object (pass_view c.place-at.new.pass) (pass_view c.install.new.pass) _ _ _
    c.in-Err.ensures.missed.saw c.place-at.ensures.place.1))

pub find_broken-requires-clause-last : goal.find_broken-requires-clause-last
find_broken-requires-clause-last g c =
    let C = g.C.ClientWords in
    let n = c.in-Err-take_watched.ensures.missed in
    let is = shown-injective n.missed.glimpse.state state.Value (n.missed.state_is ∙ c.in-Value.is) in
    broken-since C.object C.primitive _ _ _ _ _
    (sync-opening c.args.queue.now c.take_watched.new.pass g.met.C.ClientWords.keeps
    c.in-Err-take_watched.ensures.belongs c.requires.sync)
    (after-miss C.object C.primitive _ _ _ state.Value _ _ _ n is (λ e. absurd (cc))).last
    c.in-Err-take_watched-2.ensures.missed

pub returns-in-Err-take_watched-2-clause-suspends : goal.returns-in-Err-take_watched-2-clause-suspends
returns-in-Err-take_watched-2-clause-suspends g c =
    let C = g.C.ClientWords in
    let k = c.add_table-number.result in
    let way = way-searched C.object C.primitive draws k _ _ _ c.add_table-number.ensures.saw
    c.place-at.ensures.searched in
    let broken = c.find_broken.ensures.broken in (
      broken.1.looked.glimpse.payload,
      ends-with C.object C.primitive draws (in_sync finds_broken) 3 0 k _ _ _ _ _
          (way-missed-by C.object C.primitive draws (in_sync takes_watched) 2 k _ _ _ _ _
          (way-missed-by C.object C.primitive draws (in_sync takes_watched) 1 k _ _ _ _ _
          (way-missed-by C.object C.primitive draws installs 0 k _ _ _ _ _ way c.place-at.ensures.place.0
          c.in-Err.ensures.missed)
          c.place-at.ensures.place.0 c.in-Err-take_watched.ensures.missed.missed)
          c.place-at.ensures.place.0 c.in-Err-take_watched-2.ensures.missed.missed)
          c.place-at.ensures.place.0 (worked-broken C.object C.primitive _ _ _ _ broken.1 broken.2),
    )

pub find_broken-requires-in_default-clause-place : goal.find_broken-requires-in_default-clause-place
find_broken-requires-in_default-clause-place g c =
    let C = g.C.ClientWords in
    knows-saw C.object _ (pass_view c.take_watched.new.pass) _ _ _ c.in-Err-take_watched.ensures.missed.missed.saw
    (knows-saw C.object (pass_view c.place-at.new.pass) (pass_view c.install.new.pass) _ _ _
    c.in-Err.ensures.missed.saw c.place-at.ensures.place.1)

pub find_broken-requires-in_default-clause-last : goal.find_broken-requires-in_default-clause-last
find_broken-requires-in_default-clause-last g c =
    let C = g.C.ClientWords in
    broken-next C.object C.primitive _ _ _ _ _ _ _
    (sync-opening c.args.queue.now c.place-at.new.pass g.met.C.ClientWords.keeps c.place-at.ensures.belongs
    c.requires.sync)
    c.in-Err.ensures.missed c.in-Err-take_watched.ensures.missed c.in_default.not-Value

pub returns-in_default-clause-suspends : goal.returns-in_default-clause-suspends
returns-in_default-clause-suspends g c =
    let C = g.C.ClientWords in
    let k = c.add_table-number.result in
    let way = way-searched C.object C.primitive draws k _ _ _ c.add_table-number.ensures.saw
    c.place-at.ensures.searched in
    let broken = c.find_broken-in_default.ensures.broken in (
      broken.1.looked.glimpse.payload,
      ends-more C.object C.primitive draws (in_sync finds_broken) 2 3 k _ _ _ (omega arith)
          (ends-with C.object C.primitive draws (in_sync finds_broken) 2 0 k _ _ _ _ _
          (way-missed-by C.object C.primitive draws (in_sync takes_watched) 1 k _ _ _ _ _
          (way-missed-by C.object C.primitive draws installs 0 k _ _ _ _ _ way c.place-at.ensures.place.0
          c.in-Err.ensures.missed)
          c.place-at.ensures.place.0 c.in-Err-take_watched.ensures.missed.missed)
          c.place-at.ensures.place.0 (worked-broken C.object C.primitive _ _ _ _ broken.1 broken.2)),
    )
