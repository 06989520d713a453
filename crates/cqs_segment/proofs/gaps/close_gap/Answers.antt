use Rattle.std.proofs.Common.{[], Some, None, inr, subst, arith}
use Rattle.cqs_segment.specs.Links.{AreSides, HaveLeftWithin}
use Rattle.cqs_segment.proofs.Linked.{left-between, passed-by, tail-after}
use Rattle.cqs_segment.proofs.gaps.close_gap.Goals as goal

pub sides-below-requires-clause-before : goal.sides-below-requires-clause-before
sides-below-requires-clause-before g c =
    tail-after c.args.seat.now.me.0 c.load_tail-tail.new.seat.me.0 c.load_tail-tail.new.seat.me.0
    c.load_tail-tail.result c.load_tail-tail.ensures.fits c.load_tail-tail.ensures.loaded c.args.id c.requires.made
    c.requires.out

pub pass_by-requires-clause-order : goal.pass_by-requires-clause-order
pass_by-requires-clause-order g c =
    let sides = c.sides-below.ensures.sides in
    let low = (sides.lower c.in-Some.below c.in-Some.is).0 in
    let high = sides.upper.0 in omega arith

pub pass_by-requires-clause-from : goal.pass_by-requires-clause-from
pass_by-requires-clause-from g c = (c.sides-below.ensures.sides.lower c.in-Some.below c.in-Some.is).1

pub pass_by-requires-clause-between : goal.pass_by-requires-clause-between
pass_by-requires-clause-between g c = λ j over under.
    let v = c.args.seat.now.me.0 in
    let u = c.load_tail-tail.new.seat.me.0 in
    let w = c.sides-below.new.seat.me.0 in
    left-between v u w c.load_tail-tail.result c.load_tail-tail.ensures.fits c.load_tail-tail.ensures.loaded [] _ _
    c.args.id (Some c.in-Some.below) c.sides-below.result.1 c.sides-below.ensures.looked c.requires.out
    (subst (λ b. AreSides c.args.id c.load_tail-tail.result.id b c.sides-below.result.1 w) c.in-Some.is
    c.sides-below.ensures.sides)
    (subst (λ z. HaveLeftWithin z c.args.id (Some c.in-Some.below) c.sides-below.result.1 u w) c.requires.all
    (subst (λ b. HaveLeftWithin c.args.slots c.args.id b c.sides-below.result.1 u w) c.in-Some.is
    c.sides-below.ensures.left))
    j over under

pub returns-in-Some-clause-closed : goal.returns-in-Some-clause-closed
returns-in-Some-clause-closed g c =
    let v = c.args.seat.now.me.0 in
    let u = c.load_tail-tail.new.seat.me.0 in
    let w = c.sides-below.new.seat.me.0 in
    let sides = subst (λ b. AreSides c.args.id c.load_tail-tail.result.id b c.sides-below.result.1 w) c.in-Some.is
    c.sides-below.ensures.sides in
    passed-by w c.pass_by.new.seat.me.0 c.args.id c.load_tail-tail.result.id c.in-Some.below c.sides-below.result.1
    sides
    (λ j over under. left-between v u w c.load_tail-tail.result c.load_tail-tail.ensures.fits
    c.load_tail-tail.ensures.loaded [] _ _ c.args.id (Some c.in-Some.below) c.sides-below.result.1
    c.sides-below.ensures.looked
    c.requires.out sides
    (subst (λ z. HaveLeftWithin z c.args.id (Some c.in-Some.below) c.sides-below.result.1 u w) c.requires.all
    (subst (λ b. HaveLeftWithin c.args.slots c.args.id b c.sides-below.result.1 u w) c.in-Some.is
    c.sides-below.ensures.left))
    j over under) c.pass_by.ensures.raised

pub returns-in_default-clause-closed : goal.returns-in_default-clause-closed
returns-in_default-clause-closed g c =
    let v = c.args.seat.now.me.0 in
    let u = c.load_tail-tail.new.seat.me.0 in
    let w = c.sides-below.new.seat.me.0 in
    let high = c.sides-below.ensures.sides.upper.0 in
    inr (λ j before. left-between v u w c.load_tail-tail.result c.load_tail-tail.ensures.fits
    c.load_tail-tail.ensures.loaded [] _ _ c.args.id None c.sides-below.result.1 c.sides-below.ensures.looked
    c.requires.out
    (subst (λ b. AreSides c.args.id c.load_tail-tail.result.id b c.sides-below.result.1 w) c.in_default.is
    c.sides-below.ensures.sides)
    (subst (λ z. HaveLeftWithin z c.args.id None c.sides-below.result.1 u w) c.requires.all
    (subst (λ b. HaveLeftWithin c.args.slots c.args.id b c.sides-below.result.1 u w) c.in_default.is
    c.sides-below.ensures.left))
    j tt (omega arith))
