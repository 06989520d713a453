use Rattle.std.proofs.Common.{rules, arith, ◌≡◌, ◌≢◌, ◌<◌, ◌≤◌, length, is_some, false, refl, inl, inr}
use Rattle.cqs_check.specs.Doors.{many_of}
use Rattle.cqs_check.specs.Judging.{early_in, owner_in, total_of}
use Rattle.cqs_check.proofs.Judgments.{line-fits, enter-judged, enter-refused, enter-uncovered}
use Rattle.cqs_check.proofs.Kept.{none-of}
use Rattle.cqs_check.proofs.judge.Judge.enter.Goals as goal

pub overflow_add-self : goal.overflow_add-self
overflow_add-self c =
    omega (arith, line-fits c.args.self.now c.requires.judge, c.requires.room.few, c.args.self.now.table.waits.ok.0)

pub returns-then-wait-len : goal.returns-then-wait-len
returns-then-wait-len c =
    let other : c.args.wait ≢ length c.args.self.now.table.waits.items = search rules in
    enter-refused c.args.self.now c.args.self.now c.args.caller c.args.wait (inl other)

pub returns-then-many-eq0 : goal.returns-then-many-eq0
returns-then-many-eq0 c =
    let none : many_of c.args.self.now.door c.args.caller ≡ 0 = omega (arith, c.many.ensures, c.if-many-eq0.true) in
    enter-refused c.args.self.now c.args.self.now c.args.caller c.args.wait (inr none)

pub returns-then-early-total : goal.returns-then-early-total
returns-then-early-total c =
    let whole : is_some (owner_in c.args.self.now.broken c.args.wait) ≡ false = search rules in
    let full : total_of c.args.self.now.door ≤ early_in c.args.self.now.broken
    = omega (arith, c.early.ensures, c.total.ensures, c.if-early-total.true) in
    enter-uncovered c.args.self.now c.args.self.now c.args.caller c.args.wait
    (none-of (owner_in c.args.self.now.broken c.args.wait) whole) full

pub returns : goal.returns
returns c =
    let number : c.args.wait ≡ length c.args.self.now.table.waits.items = search rules in
    let here : 0 < many_of c.args.self.now.door c.args.caller = omega (arith, c.many.ensures, c.if-many-eq0.false) in
    let whole : is_some (owner_in c.args.self.now.broken c.args.wait) ≡ false = search rules in
    let room : early_in c.args.self.now.broken < total_of c.args.self.now.door
    = omega (arith, c.early.ensures, c.total.ensures, c.if-early-total.false) in
    enter-judged c.args.self.now _ c.args.caller c.args.wait c.requires.judge number here
    (none-of (owner_in c.args.self.now.broken c.args.wait) whole) room c.enter.ensures c.go.ensures
    refl refl refl refl refl
