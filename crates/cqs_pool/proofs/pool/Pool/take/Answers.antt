use Rattle.std.proofs.Common.{[], ◌∙◌, arith}
use Rattle.cqs_rule.specs.Waits.{place_of}
use Rattle.cqs_pool.proofs.AloneSteps.{quiet, plain-took, plain-later, took-first, new-one}
use Rattle.cqs_rule_laws.proofs.Causes.{worn}
use Rattle.cqs_rule_laws.proofs.Rules.{call-rule_own}
use Rattle.cqs_pool.specs.Causes.{drawn_in}
use Rattle.cqs_pool.specs.Pool.{pool_object}
use Rattle.cqs_pool.proofs.Counters.{next-is, next-count}
use Rattle.cqs_pool.proofs.TakeSteps.{loaded-called, crowded-called, is-crowded, prepared, took-called, took-below, took-cell, took-rests, waits-called, waits-below, waits-cell, waits-rests}
use Rattle.cqs_pool.proofs.pool.Pool.take.Goals as goal

pub returns-then-load_table-limit-clause-called : goal.returns-then-load_table-limit-clause-called
returns-then-load_table-limit-clause-called g c =
    call-rule_own pool_object _ _ [] [] (loaded-called _ _ _ (next-is _ _ _ c.load_table.ensures.saw)) tt
    c.requires.belongs.live.own
    c.load_table.ensures.belongs.live.legal

pub returns-then-load_table-limit-clause-worn : goal.returns-then-load_table-limit-clause-worn
returns-then-load_table-limit-clause-worn g c = λ is_worn.
    let limit = c.limit.ensures in
    let is = c.requires.belongs.limit in
    let high = c.if-load_table-limit.true in
    let next = next-is _ _ _ c.load_table.ensures.saw in
    worn pool_object drawn_in _ _ _ next.saw (next-count _ _ _ next) (omega arith)

pub returns-in-Waits-clause-called : goal.returns-in-Waits-clause-called
returns-in-Waits-clause-called g c =
    let limit = c.limit.ensures in
    let is = c.requires.belongs.limit in
    let low = c.if-load_table-limit.false in
    waits-called _ _ _ (place_of c.in-Waits.wait).index (prepared _ _ _ _ (omega arith)
    (next-is _ _ _ c.load_table.ensures.saw) c.in-Ok.ensures.claimed)
    c.in-Waits.ensures.entered.0 c.requires.belongs.live.own c.in-Waits.ensures.belongs.live.legal

pub returns-in-Waits-clause-below : goal.returns-in-Waits-clause-below
returns-in-Waits-clause-below g c =
    let limit = c.limit.ensures in
    let is = c.requires.belongs.limit in
    let low = c.if-load_table-limit.false in
    waits-below _ _ _ (place_of c.in-Waits.wait).index (prepared _ _ _ _ (omega arith)
    (next-is _ _ _ c.load_table.ensures.saw) c.in-Ok.ensures.claimed)
    c.in-Waits.ensures.entered.0

pub returns-in-Waits-clause-took : goal.returns-in-Waits-clause-took
returns-in-Waits-clause-took g c =
    let limit = c.limit.ensures in
    let is = c.requires.belongs.limit in
    let low = c.if-load_table-limit.false in
    let k = (place_of c.in-Waits.wait).index in (
      waits-cell _ _ k c.in-Waits.ensures.entered.0,
      c.in-Waits.ensures.entered.1,
      waits-rests _ _ _ k (prepared _ _ _ _ (omega arith)
          (next-is _ _ _ c.load_table.ensures.saw) c.in-Ok.ensures.claimed)
          c.requires.ready c.in-Waits.ensures.entered.0,
    )

pub returns-in-Took-clause-called : goal.returns-in-Took-clause-called
returns-in-Took-clause-called g c =
    let limit = c.limit.ensures in
    let is = c.requires.belongs.limit in
    let low = c.if-load_table-limit.false in
    took-called _ _ _ c.in-Took.number c.in-Took.payload (prepared _ _ _ _ (omega arith)
    (next-is _ _ _ c.load_table.ensures.saw) c.in-Ok.ensures.claimed)
    c.in-Took.ensures.entered c.requires.belongs.live.own c.in-Took.ensures.belongs.live.legal

pub returns-in-Took-clause-below : goal.returns-in-Took-clause-below
returns-in-Took-clause-below g c =
    let limit = c.limit.ensures in
    let is = c.requires.belongs.limit in
    let low = c.if-load_table-limit.false in
    took-below _ _ _ c.in-Took.number c.in-Took.payload (prepared _ _ _ _ (omega arith)
    (next-is _ _ _ c.load_table.ensures.saw) c.in-Ok.ensures.claimed)
    c.in-Took.ensures.entered

pub returns-in-Took-clause-took : goal.returns-in-Took-clause-took
returns-in-Took-clause-took g c =
    let limit = c.limit.ensures in
    let is = c.requires.belongs.limit in
    let low = c.if-load_table-limit.false in (
      took-cell _ _ c.in-Took.number c.in-Took.payload c.in-Took.ensures.entered,
      took-rests _ _ _ c.in-Took.number c.in-Took.payload (prepared _ _ _ _ (omega arith)
          (next-is _ _ _ c.load_table.ensures.saw) c.in-Ok.ensures.claimed)
          c.requires.ready c.in-Took.ensures.entered,
    )

pub returns-in-Took-clause-alone : goal.returns-in-Took-clause-alone
returns-in-Took-clause-alone g c = λ alone.
    plain-took _ _ c.in-Took.number c.in-Took.payload (returns-in-Took-clause-called g c) alone

pub returns-in-Waits-clause-alone : goal.returns-in-Waits-clause-alone
returns-in-Waits-clause-alone g c = λ alone.
    let rule = returns-in-Waits-clause-called g c in
    let rests = (returns-in-Waits-clause-took g c).2 in
    plain-later _ _ (place_of c.in-Waits.wait).index rule alone
    (quiet _ c.in-Waits.ensures.belongs.alone c.enter.new.pass.live.0 (rule.called.same.alone ∙ alone) rests.ready.idle)

pub returns-in-Took-clause-first : goal.returns-in-Took-clause-first
returns-in-Took-clause-first g c = λ only.
    took-first _ _ c.in-Took.number c.in-Took.payload (returns-in-Took-clause-called g c) only
    (returns-in-Took-clause-took g c).0

pub returns-in-Took-clause-new : goal.returns-in-Took-clause-new
returns-in-Took-clause-new g c =
    new-one _ c.in-Took.payload _ _ c.in-Took.ensures.belongs.live.known
    (returns-in-Took-clause-took g c).1.elements_are

-- each slot was seen not free
pub returns-in_default-clause-called : goal.returns-in_default-clause-called
returns-in_default-clause-called g c =
    call-rule_own pool_object _ _ [] []
    (crowded-called _ _ _ _ (next-is _ _ _ c.load_table.ensures.saw) c.in_default.ensures.crowded) tt
    c.requires.belongs.live.own c.in_default.ensures.belongs.live.legal

pub returns-in_default-clause-crowded : goal.returns-in_default-clause-crowded
returns-in_default-clause-crowded g c = λ was.
    let limit = c.limit.ensures in
    let is = c.requires.belongs.limit in
    let low = c.if-load_table-limit.false in
    is-crowded _ _ _ _ (omega arith) (next-is _ _ _ c.load_table.ensures.saw) c.in_default.ensures.crowded
