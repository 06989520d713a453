use Rattle.std.proofs.Common.{◌/◌, ◌++◌, ◌∙◌, append_assoc, subst, sym, ap, arith}
use Rattle.cqs_segment.proofs.Walks.{longer}
use Rattle.cqs_rule.specs.Passes.{pass_view}
use Rattle.cqs_rule.proofs.Segments.{walks}
use Rattle.cqs_find.specs.Finds.{Searched, SeesAhead}
use Rattle.cqs_find.proofs.Far.{ahead-later, crowded-later, far-searched, is-crowded, looked-again}
use Rattle.cqs_find.proofs.Numbers.{ahead-same, below-cells, found-made, made-found}
use Rattle.cqs_find.proofs.Searches.{searched-few}
use Rattle.cqs_find.proofs.found.find.Goals as goal

pub find_segment-requires-clause-small : goal.find_segment-requires-clause-small
find_segment-requires-clause-small g c =
    let p = c.args.pass.now in
    let low = below-cells (pass_view p) c.args.index p.inside c.requires.number in
    let few = p.few_cells in omega arith

pub returns-in-Err-clause-searched : goal.returns-in-Err-clause-searched
returns-in-Err-clause-searched g c =
    far-searched (pass_view c.args.pass.now) (pass_view c.find_segment.new.pass) _ c.in-Far.ensures.looked
    g.C.ClientWords.object c.args.index (pass_view c.make_segment.new.pass) c.in-Far.ensures.finds.0
    c.make_segment.ensures.left

pub returns-in-Err-clause-crowded : goal.returns-in-Err-clause-crowded
returns-in-Err-clause-crowded g c =
    let v = pass_view c.args.pass.now in
    let u = pass_view c.find_segment.new.pass in
    let w = pass_view c.make_segment.new.pass in
    let looked = c.in-Far.ensures.looked in
    crowded-later v u _ looked c.args.index w
    (is-crowded c.args.index u w c.in-Far.ensures.finds.0 c.in-Err.ensures.crowded)

pub keep-requires-clause-made : goal.keep-requires-clause-made
keep-requires-clause-made g c =
    let x = pass_view c.make_segment.new.pass in
    let y = pass_view c.find_segment-segment.new.pass in
    let more = longer x y c.find_segment-segment.ensures.looked.2.segments in
    let made = c.in-Ok.ensures.made in
    made-found (c.args.index / 32) c.find_segment-segment.result y (omega arith) c.find_segment-segment.ensures.finds

pub returns-in-Ok-clause-searched : goal.returns-in-Ok-clause-searched
returns-in-Ok-clause-searched g c =
    let v = pass_view c.args.pass.now in
    let u = pass_view c.find_segment.new.pass in
    let x = pass_view c.make_segment.new.pass in
    let y = pass_view c.find_segment-segment.new.pass in
    subst (Searched g.C.ClientWords.object c.args.index v) (sym c.keep.ensures.same)
    (far-searched v u _ c.in-Far.ensures.looked g.C.ClientWords.object c.args.index y c.in-Far.ensures.finds.0
    (looked-again u x y _ c.make_segment.ensures.left c.find_segment-segment.ensures.looked))

pub returns-in-Ok-clause-ahead : goal.returns-in-Ok-clause-ahead
returns-in-Ok-clause-ahead g c =
    let v = pass_view c.args.pass.now in
    let u = pass_view c.find_segment.new.pass in
    let x = pass_view c.make_segment.new.pass in
    let y = pass_view c.find_segment-segment.new.pass in
    let looked = c.in-Far.ensures.looked in
    let made = c.make_segment.ensures.left in
    subst (SeesAhead c.keep.result v) (sym c.keep.ensures.same)
    (ahead-later v x y c.keep.result (looked.0 ++ made.0)
    (let first = longer v u looked.2.segments in let then = longer u x made.1.segments in omega arith)
    (ap (λ z. z.facts.heads) made.1.is
    ∙ (ap (λ l. l ++ made.0) (ap (λ z. z.facts.heads) looked.2.is) ∙ append_assoc v.facts.heads looked.0 made.0))
    (ahead-same c.find_segment-segment.result c.keep.result x y c.keep.ensures.ahead
    c.find_segment-segment.ensures.ahead))

pub keep-requires-in_default : goal.keep-requires-in_default
keep-requires-in_default g c =
    let p = c.args.pass.now in
    let low = below-cells (pass_view p) c.args.index p.inside c.requires.number in
    let u = pass_view c.find_segment.new.pass in
    let same = ap (λ z. z.cells) c.find_segment.ensures.looked.2.is in record {
      belongs = c.find_segment.ensures.belongs;
      small = omega arith;
      made = found-made (c.args.index / 32) c.find_segment.result u c.in_default.not-Far c.find_segment.ensures.finds;
      own = c.find_segment.ensures.own;
    }

pub returns-in_default : goal.returns-in_default
returns-in_default g c =
    let v = pass_view c.args.pass.now in
    let looked = c.find_segment.ensures.looked in record {
      belongs = c.keep-in_default.ensures.belongs;
      finds = c.keep-in_default.ensures.finds;
      ahead = subst (SeesAhead c.keep-in_default.result v) (sym c.keep-in_default.ensures.same)
          (ahead-same c.find_segment.result c.keep-in_default.result v (pass_view c.find_segment.new.pass)
          c.keep-in_default.ensures.ahead c.find_segment.ensures.ahead);
      searched = subst (Searched g.C.ClientWords.object c.args.index v) (sym c.keep-in_default.ensures.same)
          (searched-few g.C.ClientWords.object c.args.index v (pass_view c.find_segment.new.pass) looked.0
          (walks c.args.queue.now c.args.pass.now c.requires.belongs).few looked.1 looked.2);
      crowded = tt;
    }
