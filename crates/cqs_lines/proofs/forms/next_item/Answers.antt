use Rattle.std.proofs.Common.{rules}
use Rattle.cqs_lines.proofs.Reading.{endless, first-line}
use Rattle.cqs_lines.proofs.forms.next_item.Goals as goal

pub returns-in_default : goal.returns-in_default
returns-in_default g c = λ i more fit.
    endless _ more (g.F.Form.says i) (g.met.F.Form.clean c.args.form.now i fit) c.in_default.ensures

pub returns-in-None : goal.returns-in-None
returns-in-None g c = λ i more fit same.
    let parts = first-line _ _ _ more (g.F.Form.says i)
    (g.met.F.Form.clean c.args.form.now i fit) c.in-Some.ensures same in
    (rw c.in-None.is at c.in_ok-item.ensures) i fit parts.0
