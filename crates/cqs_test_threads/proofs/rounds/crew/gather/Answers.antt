use Rattle.std.proofs.Common.{Some, subst}
use Rattle.std.proofs.lemmas.List.Elements.{All-pop}
use Rattle.cqs_test_threads.specs.Crew.{HasWorked}
use Rattle.cqs_test_threads.proofs.rounds.crew.gather.Goals as goal

pub loop-one-init : goal.loop-one-init
loop-one-init c =
    let works = HasWorked c.args.rounds.now in
    let both = All-pop works _ _ (Some c.in-Some-Some.field-0) c.in-Some-Some.ensures.items c.requires in
    record { home = subst works c.in-Some-Some.field-0-is both.1; left = both.0 }

pub take_in-whole-requires-clause-given : goal.take_in-whole-requires-clause-given
take_in-whole-requires-clause-given c =
    let works = HasWorked c.args.rounds.now in
    let both = All-pop works _ _ (Some c.in-Some.one) c.in-Some.ensures.items c.loop-one.invariant.left in
    subst works c.in-Some-one.is both.1

pub loop-one-preserved-in-Some-one : goal.loop-one-preserved-in-Some-one
loop-one-preserved-in-Some-one c =
    let works = HasWorked c.args.rounds.now in
    let both = All-pop works _ _ (Some c.in-Some.one) c.in-Some.ensures.items c.loop-one.invariant.left in
    record { home = c.take_in-whole.ensures; left = both.0 }

pub loop-one-preserved : goal.loop-one-preserved
loop-one-preserved c =
    let works = HasWorked c.args.rounds.now in
    let both = All-pop works _ _ (Some c.in-Some.one) c.in-Some.ensures.items c.loop-one.invariant.left in
    record { home = c.loop-one.invariant.home; left = both.0 }
