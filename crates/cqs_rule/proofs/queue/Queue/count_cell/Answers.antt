use Rattle.std.proofs.Common.{◌/◌, ◌∙◌, rules}
use Rattle.cqs_rule_laws.specs.SegmentSteps.{retiring_too}
use Rattle.cqs_rule_laws.proofs.Places.{home-of-cell}
use Rattle.cqs_rule.proofs.Counting.{all-counted, all-then, counted-last, counted-one, fewer-counted, home-then, last-of-one, low-then}
use Rattle.cqs_rule.proofs.queue.Queue.count_cell.Goals as goal

pub overflow_sub-slot : goal.overflow_sub-slot
overflow_sub-slot g c = (home-of-cell c.args.seat.now.me.0 c.args.word c.args.number c.requires.place).0

pub count_settled-counted-requires-clause-low : goal.count_settled-counted-requires-clause-low
count_settled-counted-requires-clause-low g c =
    (home-of-cell c.args.seat.now.me.0 c.args.word c.args.number c.requires.place).1

pub count_settled-counted-requires-clause-home : goal.count_settled-counted-requires-clause-home
count_settled-counted-requires-clause-home g c =
    (home-of-cell c.args.seat.now.me.0 c.args.word c.args.number c.requires.place).2

pub count_settled-counted-requires-clause-last : goal.count_settled-counted-requires-clause-last
count_settled-counted-requires-clause-last g c =
    (last-of-one c.args.seat.now.me.0.facts.duties (c.args.number / 32) c.requires.one).0

pub replace_with-requires : goal.replace_with-requires
replace_with-requires g c =
    let n = c.count_settled-counted.ensures in
    let all = n.counted.all (all-counted c.if-from-eq-CELLS.true c.from.ensures) in
    let cell = home-of-cell c.args.seat.now.me.0 c.args.word c.args.number c.requires.place in
    let too = retiring_too (c.args.number / 32) c.args.seat.now.me.0 in (
      n.table ∙ c.requires.table,
      (
        search rules,
        (
          all-then too c.count_settled-counted.new.seat.me.0 _ _ _ _ _ all
              (record {
                one = c.requires.walker.one;
                wide = c.requires.walker.wide;
                few = c.requires.walker.few;
              }) c.args.self.now.slots_are,
          (
            low-then too c.count_settled-counted.new.seat.me.0 _ _ _ _ all cell.1,
            (
              search rules,
              home-then too c.count_settled-counted.new.seat.me.0 _ _ _ _ _ all cell.2,
            ),
          ),
        ),
      ),
    )

pub returns-then-from-eq-CELLS-clause-counted : goal.returns-then-from-eq-CELLS-clause-counted
returns-then-from-eq-CELLS-clause-counted g c =
    let n = c.count_settled-counted.ensures in
    counted-last c.args.seat.now.me.0 c.count_settled-counted.new.seat.me.0 c.replace_with.new.dest.me.0
    (c.args.number / 32) c.requires.one c.requires.none
    (n.counted.all (all-counted c.if-from-eq-CELLS.true c.from.ensures))
    (n.all.0 (all-counted c.if-from-eq-CELLS.true c.from.ensures)) (search rules)

pub returns-else-from-eq-CELLS-clause-counted : goal.returns-else-from-eq-CELLS-clause-counted
returns-else-from-eq-CELLS-clause-counted g c =
    let n = c.count_settled-counted.ensures in
    counted-one c.args.seat.now.me.0 c.count_settled-counted.new.seat.me.0 _ c.requires.one
    (n.counted.some (fewer-counted n.few c.if-from-eq-CELLS.false c.from.ensures))
