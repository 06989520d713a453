use Rattle.std.proofs.Common.{Some, subst, sym}
use Rattle.cqs_rule.specs.Passes.{pass_view}
use Rattle.cqs_floor_alone_kinds.specs.SoleRound.{HasArrived}
use Rattle.cqs_floor_alone_kinds.proofs.RoundCalls.{arrives-last, arrives-later, arrives-owing}
use Rattle.cqs_floor_alone_kinds.proofs.round_sole.RoundSole.arrive.Goals as goal

pub returns-in-Ok-Last : goal.returns-in-Ok-Last
returns-in-Ok-Last c =
    let f = c.requires.funded in
    let how = rw c.in-Ok-Last.field-0-is at c.in-Ok-Last.ensures.arrived in
    let plain = (rw c.in-Ok-Last.field-0-is at c.in-Ok-Last.ensures.alone) f.rests.alone in
    arrives-last c.requires.parties c.requires.room c.args.self.now _ f c.arrive.ensures.belongs how plain

pub returns-in-Ok-LastOwing : goal.returns-in-Ok-LastOwing
returns-in-Ok-LastOwing c =
    let f = c.requires.funded in
    let how = rw c.in-Ok-LastOwing.field-0-is at c.in-Ok-LastOwing.ensures.arrived in
    let plain = (rw c.in-Ok-LastOwing.field-0-is at c.in-Ok-LastOwing.ensures.alone) f.rests.alone in
    arrives-owing c.requires.parties c.requires.room c.args.self.now _ f c.finish.ensures.mine c.in-Ok-LastOwing.owing
    (pass_view c.arrive.new.pass) how plain c.finish.ensures.served

pub returns-in-Ok-Later : goal.returns-in-Ok-Later
returns-in-Ok-Later c =
    let x = c.args.self.now in
    let f = c.requires.funded in
    let how = rw c.in-Ok-Later.field-0-is at c.in-Ok-Later.ensures.arrived in
    subst (λ p. HasArrived x (Some c.spend_wait.result)
    (record x { pass = p; ample_is = c.self-in-Ok-Later-1.given.0 }))
    (sym c.spend_wait.ensures.same)
    (subst (λ at. HasArrived x (Some at)
    (record x { pass = c.arrive.new.pass; ample_is = c.self-in-Ok-Later-1.given.0 }))
    (sym c.spend_wait.ensures.place)
    (arrives-later c.requires.parties c.requires.room x
    (record x { pass = c.arrive.new.pass; ample_is = c.self-in-Ok-Later-1.given.0 }) f
    c.arrive.ensures.belongs c.in-Ok-Later.wait how))
