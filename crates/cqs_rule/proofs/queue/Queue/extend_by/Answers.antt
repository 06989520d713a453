use Rattle.std.proofs.Common.{length, sym, ap, ◌∙◌, subst, arith}
use Rattle.cqs_segment.specs.declared.extending.Extended.TheVariants.{Made, Seen}
use Rattle.cqs_segment.specs.Extends.{ExtendsTo}
use Rattle.cqs_rule.specs.Segments.{ExtendsAlone, IsLinkedTo}
use Rattle.cqs_rule.proofs.Claims.{claims-on, many-kept}
use Rattle.cqs_rule.proofs.Retired.{extended-alone, linked-from, linked-still, linked-walks, made-fits, made-from, made-next, made-to, made-walks}
use Rattle.cqs_rule.proofs.Segments.{has-less, has-still, kept-left}
use Rattle.cqs_rule.proofs.queue.Queue.extend_by.Goals as goal

pub extend-extended-requires-clause-low : goal.extend-extended-requires-clause-low
extend-extended-requires-clause-low g c =
    let v = c.args.seat.now.me.0 in
    (has-less v.facts.spare_slots v.slots c.in-Some.slot c.args.spares c.in-Some.others c.requires.claimer.spare
    c.in-Some.ensures.some).1

pub extend-extended-requires-clause-last : goal.extend-extended-requires-clause-last
extend-extended-requires-clause-last g c =
    let v = c.args.seat.now.me.0 in
    (has-less v.facts.spare_slots v.slots c.in-Some.slot c.args.spares c.in-Some.others c.requires.claimer.spare
    c.in-Some.ensures.some).0

pub link_by-requires-clause-walker : goal.link_by-requires-clause-walker
link_by-requires-clause-walker g c =
    let v = c.args.seat.now.me.0 in
    let u = c.extend-extended.new.seat.me.0 in
    let made : ExtendsTo c.args.after c.in-Some.slot (Made c.in-Made.made) v u =
    subst (λ a. ExtendsTo c.args.after c.in-Some.slot a v u) c.in-Made.is c.extend-extended.ensures.extends in
    made-walks c.args.after c.in-Made.made c.in-Some.slot v u made _ c.requires.claimer.walker

pub link_by-requires-clause-next : goal.link_by-requires-clause-next
link_by-requires-clause-next g c =
    let v = c.args.seat.now.me.0 in
    let u = c.extend-extended.new.seat.me.0 in
    let made : ExtendsTo c.args.after c.in-Some.slot (Made c.in-Made.made) v u =
    subst (λ a. ExtendsTo c.args.after c.in-Some.slot a v u) c.in-Made.is c.extend-extended.ensures.extends in
    made-next c.args.after c.in-Made.made c.in-Some.slot v u made

pub link_by-requires-clause-fits : goal.link_by-requires-clause-fits
link_by-requires-clause-fits g c =
    let v = c.args.seat.now.me.0 in
    let u = c.extend-extended.new.seat.me.0 in
    let made : ExtendsTo c.args.after c.in-Some.slot (Made c.in-Made.made) v u =
    subst (λ a. ExtendsTo c.args.after c.in-Some.slot a v u) c.in-Made.is c.extend-extended.ensures.extends in
    made-fits c.args.after c.in-Made.made c.in-Some.slot v u made
    (has-less v.facts.spare_slots v.slots c.in-Some.slot c.args.spares c.in-Some.others
    c.requires.claimer.spare c.in-Some.ensures.some).1
    c.requires.claimer.walker.few c.requires.small

pub link_by-requires-clause-from : goal.link_by-requires-clause-from
link_by-requires-clause-from g c =
    let v = c.args.seat.now.me.0 in
    let u = c.extend-extended.new.seat.me.0 in
    let made : ExtendsTo c.args.after c.in-Some.slot (Made c.in-Made.made) v u =
    subst (λ a. ExtendsTo c.args.after c.in-Some.slot a v u) c.in-Made.is c.extend-extended.ensures.extends in
    made-from c.args.after c.in-Made.made c.in-Some.slot v u made

pub link_by-requires-clause-to : goal.link_by-requires-clause-to
link_by-requires-clause-to g c =
    let v = c.args.seat.now.me.0 in
    let u = c.extend-extended.new.seat.me.0 in
    let made : ExtendsTo c.args.after c.in-Some.slot (Made c.in-Made.made) v u =
    subst (λ a. ExtendsTo c.args.after c.in-Some.slot a v u) c.in-Made.is c.extend-extended.ensures.extends in
    made-to c.args.after c.in-Made.made c.in-Some.slot v u made
    (has-less v.facts.spare_slots v.slots c.in-Some.slot c.args.spares c.in-Some.others
    c.requires.claimer.spare c.in-Some.ensures.some).1

pub take_out_by-requires-clause-walker : goal.take_out_by-requires-clause-walker
take_out_by-requires-clause-walker g c =
    let v = c.args.seat.now.me.0 in
    let u = c.extend-extended.new.seat.me.0 in
    let made : ExtendsTo c.args.after c.in-Some.slot (Made c.in-Made.made) v u =
    subst (λ a. ExtendsTo c.args.after c.in-Some.slot a v u) c.in-Made.is c.extend-extended.ensures.extends in
    let l = c.link_by.new.seat.me.0 in
    let linked = c.link_by.ensures.raised in
    linked-walks c.args.after c.in-Made.made c.in-Some.slot v u made l linked _
    c.requires.claimer.walker

pub take_out_by-requires-clause-all : goal.take_out_by-requires-clause-all
take_out_by-requires-clause-all g c =
    let v = c.args.seat.now.me.0 in
    let u = c.extend-extended.new.seat.me.0 in
    let made : ExtendsTo c.args.after c.in-Some.slot (Made c.in-Made.made) v u =
    subst (λ a. ExtendsTo c.args.after c.in-Some.slot a v u) c.in-Made.is c.extend-extended.ensures.extends in
    let l = c.link_by.new.seat.me.0 in
    let linked = c.link_by.ensures.raised in
    c.requires.claimer.all
    ∙ sym (linked-from c.args.after c.in-Made.made c.in-Some.slot v u made l linked).2

pub take_out_by-requires-clause-low : goal.take_out_by-requires-clause-low
take_out_by-requires-clause-low g c =
    let v = c.args.seat.now.me.0 in
    let u = c.extend-extended.new.seat.me.0 in
    let made : ExtendsTo c.args.after c.in-Some.slot (Made c.in-Made.made) v u =
    subst (λ a. ExtendsTo c.args.after c.in-Some.slot a v u) c.in-Made.is c.extend-extended.ensures.extends in
    let l = c.link_by.new.seat.me.0 in
    let linked = c.link_by.ensures.raised in
    (linked-from c.args.after c.in-Made.made c.in-Some.slot v u made l linked).1

pub take_out_by-requires-clause-home : goal.take_out_by-requires-clause-home
take_out_by-requires-clause-home g c =
    let v = c.args.seat.now.me.0 in
    let u = c.extend-extended.new.seat.me.0 in
    let made : ExtendsTo c.args.after c.in-Some.slot (Made c.in-Made.made) v u =
    subst (λ a. ExtendsTo c.args.after c.in-Some.slot a v u) c.in-Made.is c.extend-extended.ensures.extends in
    let l = c.link_by.new.seat.me.0 in
    let linked = c.link_by.ensures.raised in
    (linked-from c.args.after c.in-Made.made c.in-Some.slot v u made l linked).0

pub unreachable-requires : goal.unreachable-requires
unreachable-requires g c =
    let some = c.requires.some in
    let none = ap length c.in-None.ensures.none in
    let many = many-kept c.args.self.now c.args.spares c.args.seat.now.me.0 c.requires.claimer in omega arith

pub returns-in-Made-clause-claimer : goal.returns-in-Made-clause-claimer
returns-in-Made-clause-claimer g c =
    let v = c.args.seat.now.me.0 in
    let u = c.extend-extended.new.seat.me.0 in
    let made : ExtendsTo c.args.after c.in-Some.slot (Made c.in-Made.made) v u =
    subst (λ a. ExtendsTo c.args.after c.in-Some.slot a v u) c.in-Made.is c.extend-extended.ensures.extends in
    let l = c.link_by.new.seat.me.0 in
    let linked = c.link_by.ensures.raised in
    let claimer = c.requires.claimer in
    let w = c.take_out_by.new.seat.me.0 in
    let alone = extended-alone c.args.after c.in-Made.made c.in-Some.slot v u made l linked w
    c.take_out_by.ensures.done claimer.retired in
    claims-on c.args.self.now c.args.spares v claimer c.in-Some.others w _ v.facts.duties alone.2
    (has-less v.facts.spare_slots v.slots c.in-Some.slot c.args.spares c.in-Some.others
    c.requires.claimer.spare c.in-Some.ensures.some).2

pub returns-in-Made-clause-extended : goal.returns-in-Made-clause-extended
returns-in-Made-clause-extended g c =
    let v = c.args.seat.now.me.0 in
    let u = c.extend-extended.new.seat.me.0 in
    let made : ExtendsTo c.args.after c.in-Some.slot (Made c.in-Made.made) v u =
    subst (λ a. ExtendsTo c.args.after c.in-Some.slot a v u) c.in-Made.is c.extend-extended.ensures.extends in
    let l = c.link_by.new.seat.me.0 in
    let linked = c.link_by.ensures.raised in
    let w = c.take_out_by.new.seat.me.0 in
    let alone = extended-alone c.args.after c.in-Made.made c.in-Some.slot v u made l linked w
    c.take_out_by.ensures.done c.requires.claimer.retired in (
      c.in-Some.slot,
      (has-less v.facts.spare_slots v.slots c.in-Some.slot c.args.spares c.in-Some.others
          c.requires.claimer.spare c.in-Some.ensures.some).0,
      alone,
    )

pub returns-in-Made-clause-linked : goal.returns-in-Made-clause-linked
returns-in-Made-clause-linked g c =
    let v = c.args.seat.now.me.0 in
    let u = c.extend-extended.new.seat.me.0 in
    let made : ExtendsTo c.args.after c.in-Some.slot (Made c.in-Made.made) v u =
    subst (λ a. ExtendsTo c.args.after c.in-Some.slot a v u) c.in-Made.is c.extend-extended.ensures.extends in
    let l = c.link_by.new.seat.me.0 in
    let linked = c.link_by.ensures.raised in
    let w = c.take_out_by.new.seat.me.0 in
    linked-still c.args.after c.in-Made.made c.in-Some.slot v u made l linked w c.take_out_by.ensures.done

pub returns-clause-claimer : goal.returns-clause-claimer
returns-clause-claimer g c =
    let v = c.args.seat.now.me.0 in
    let w = c.extend-extended.new.seat.me.0 in
    let claimer = c.requires.claimer in
    let seen : ExtendsTo c.args.after c.in-Some.slot (Seen c.in_default.field-0) v w =
    subst (λ a. ExtendsTo c.args.after c.in-Some.slot a v w) c.in_default.is c.extend-extended.ensures.extends in
    let kept = kept-left c.args.after c.in_default.field-0 c.in-Some.slot v w seen.2 in
    claims-on c.args.self.now c.args.spares v claimer c.args.spares w _ v.facts.duties kept.2
    (has-still v.facts.spare_slots v.slots c.in-Some.slot kept.0 kept.1 c.args.spares c.in-Some.others claimer.spare
    c.in-Some.ensures.some)

pub returns-clause-extended : goal.returns-clause-extended
returns-clause-extended g c =
    let v = c.args.seat.now.me.0 in
    let w = c.extend-extended.new.seat.me.0 in
    let claimer = c.requires.claimer in
    let seen : ExtendsTo c.args.after c.in-Some.slot (Seen c.in_default.field-0) v w =
    subst (λ a. ExtendsTo c.args.after c.in-Some.slot a v w) c.in_default.is c.extend-extended.ensures.extends in (
      c.in-Some.slot,
      (has-less v.facts.spare_slots v.slots c.in-Some.slot c.args.spares c.in-Some.others claimer.spare
          c.in-Some.ensures.some).0,
      subst (λ a. ExtendsAlone c.args.after c.in-Some.slot a v w) (sym c.in_default.is) seen,
    )

pub returns-clause-linked : goal.returns-clause-linked
returns-clause-linked g c = subst (λ a. IsLinkedTo c.args.after a c.extend-extended.new.seat.me.0)
    (sym c.in_default.is) tt
