use Rattle.std.proofs.Common.{rules, arith, ◌≡◌, ◌<◌, ◌≤◌, length, is_some, true, false, inl, inr, refl}
use Rattle.cqs_check.specs.Judging.{early_in, owner_in, total_of}
use Rattle.cqs_check.proofs.Breaks.{early-spoiled, early-refused}
use Rattle.cqs_check.proofs.Kept.{none-of}
use Rattle.cqs_check.proofs.judge.Judge.spoil_early.Goals as goal

pub returns-then-wait-len : goal.returns-then-wait-len
returns-then-wait-len c =
    let drawn : c.args.wait < length c.args.self.now.table.waits.items = search rules in
    early-refused c.args.self.now c.args.self.now c.args.wait c.requires.none (inl drawn)

pub returns-then-has : goal.returns-then-has
returns-then-has c =
    let broken : is_some (owner_in c.args.self.now.broken c.args.wait) ≡ true = search rules in
    early-refused c.args.self.now c.args.self.now c.args.wait c.requires.none (inr (inl broken))

pub returns-then-self-eq0 : goal.returns-then-self-eq0
returns-then-self-eq0 c =
    early-refused c.args.self.now c.args.self.now c.args.wait c.requires.none
    (inr (inr (inl (omega (arith, c.if-self-eq0.true)))))

pub returns-then-early-total : goal.returns-then-early-total
returns-then-early-total c =
    let full : total_of c.args.self.now.door ≤ early_in c.args.self.now.broken
    = omega (arith, c.early.ensures, c.total.ensures, c.if-early-total.true) in
    early-refused c.args.self.now c.args.self.now c.args.wait c.requires.none (inr (inr (inr full)))

pub returns : goal.returns
returns c =
    let high : length c.args.self.now.table.waits.items ≤ c.args.wait = search rules in
    let whole : is_some (owner_in c.args.self.now.broken c.args.wait) ≡ false = search rules in
    let room : early_in c.args.self.now.broken < total_of c.args.self.now.door
    = omega (arith, c.early.ensures, c.total.ensures, c.if-early-total.false) in
    let some : 0 < c.args.self.now.way = omega (arith, c.if-self-eq0.false) in
    early-spoiled c.args.self.now _ c.args.wait c.requires.judge some high
    (none-of (owner_in c.args.self.now.broken c.args.wait) whole) room c.in_ok-add_early.ensures.set
    c.in_ok-add_early.ensures.early refl (omega (arith, some)) refl refl refl refl
