use Rattle.std.proofs.Common.{rules, ◌≡◌, ◌∷◌, ◌++◌, [], length, arith, ap}
use Rattle.std.proofs.lemmas.List.{length_push}
use Rattle.cqs_lines.specs.Said.{line_text}
use Rattle.cqs_lines.proofs.Reading.{through-next, line-longer}
use Rattle.cqs_lines.proofs.forms.read_items.Goals as goal

pub lines-preserved : goal.lines-preserved
lines-preserved g c =
    let pushed : c.push.new.self.items ≡ c.lines.items.items ++ c.in-Some.item ∷ [] = search rules in
    let next = rw c.in-Some.is at c.in_ok-item.ensures in
    let long = length_push c.lines.items.items c.in-Some.item in
    let shorter = line-longer (g.F.Form.says c.in-Some.item) c.lines.rest.now c.in-Some.after.now next.1 in
    let way = c.lines.invariant in
    rw pushed (
      through-next g.F.Form.says (g.F.Form.fits c.args.form.now) _ _ _ _ _ way.0 next.0 next.1,
      omega (arith, way.1, long),
      omega (arith, way.2, long, shorter),
    )
