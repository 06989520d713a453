use Rattle.std.proofs.Common.{rules}
use Rattle.cqs_lines.proofs.Reading.{heard-item}
use Rattle.cqs_lines.proofs.forms.line_item.Goals as goal

pub returns-in-Some : goal.returns-in-Some
returns-in-Some g c =
    heard-item g.F.Form.says (g.F.Form.fits c.args.form.now) _ _ _ c.item.result (g.met.F.Form.clean c.args.form.now)
    (rw c.in-Some.is at c.in_ok-heard.ensures) (rw c.as_slice.ensures.value at c.item.ensures)
