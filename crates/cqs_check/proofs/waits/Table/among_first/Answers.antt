use Rattle.std.proofs.Common.{rules, arith, ◌≡◌, Some, slice_get}
use Rattle.cqs_check.specs.declared.waits.WaitState.TheVariants as wait
use Rattle.cqs_check.proofs.Tabled.{stands-in, stands-not, absent-not}
use Rattle.cqs_check.proofs.waits.Table.among_first.Goals as goal

pub returns-then-before-way : goal.returns-then-before-way
returns-then-before-way c =
    let there : slice_get c.args.self.now.waits.items c.args.wait
    ≡ Some (wait.Waiting c.in-Some-Waiting.caller) = search rules in
    stands-in c.args.self.now c.args.way c.args.wait _ c.requires there
    (omega (arith, c.before-in-Some-Waiting.ensures, c.if-before-way.true))

pub returns-else-before-way : goal.returns-else-before-way
returns-else-before-way c =
    let there : slice_get c.args.self.now.waits.items c.args.wait
    ≡ Some (wait.Waiting c.in-Some-Waiting.caller) = search rules in
    λ d. stands-not c.args.self.now c.args.way c.args.wait _ d c.requires there
    (omega (arith, c.before-in-Some-Waiting.ensures, c.if-before-way.false))

pub returns-in-Some-Served : goal.returns-in-Some-Served
returns-in-Some-Served c = λ d. absent-not c.args.self.now c.args.way c.args.wait d
    (λ e same. absurd (cc (same, c.state.ensures, c.in-Some-Served.is, c.in-Some-Served.field-0-is)))

pub returns-in-Some-Closed : goal.returns-in-Some-Closed
returns-in-Some-Closed c = λ d. absent-not c.args.self.now c.args.way c.args.wait d
    (λ e same. absurd (cc (same, c.state.ensures, c.in-Some-Closed.is, c.in-Some-Closed.field-0-is)))

pub returns-in-Some-Gone : goal.returns-in-Some-Gone
returns-in-Some-Gone c = λ d. absent-not c.args.self.now c.args.way c.args.wait d
    (λ e same. absurd (cc (same, c.state.ensures, c.in-Some-Gone.is, c.in-Some-Gone.field-0-is)))

pub returns-in-None : goal.returns-in-None
returns-in-None c = λ d. absent-not c.args.self.now c.args.way c.args.wait d
    (λ e same. absurd (cc (same, c.state.ensures, c.in-None.is)))
