use Rattle.std.proofs.Common.{rules, arith, ◌≡◌, inl, Err, sym, ap}
use Rattle.cqs_lines.specs.declared.forms.LineError.TheVariants.{Bad}
use Rattle.cqs_lines.proofs.HeadedTexts.{line-long, headed, behind}
use Rattle.cqs_lines.proofs.headed.read_headed.Goals as goal

pub returns-in_default-clause-bad : goal.returns-in_default-clause-bad
returns-in_default-clause-bad g c = λ n same.
    let one : 1 ≡ n = cc same in
    inl (sym one, rw c.in_default.is at c.in_ok-head.ensures)

pub read_items-requires : goal.read_items-requires
read_items-requires g c =
    let first = rw c.in-Some.is at c.in_ok-head.ensures in
    let is = g.met.H.Form.clean c.args.head_form.now c.in-Some.head first.0 in
    let long = line-long (g.H.Form.says c.in-Some.head) c.args.text.now c.in-Some.rest.now is first.1 in
    omega (arith, c.requires, long)

pub returns-in-Ok-clause-ok : goal.returns-in-Ok-clause-ok
returns-in-Ok-clause-ok g c =
    let first = rw c.in-Some.is at c.in_ok-head.ensures in
    headed g.H.Form.says (g.H.Form.fits c.args.head_form.now) g.F.Form.says (g.F.Form.fits c.args.form.now)
    c.in-Some.head c.in-Some.rest.now c.args.text.now c.in-Ok.items.items first.0 first.1 c.in-Ok.ensures.ok

pub returns-in-Err-clause-bad : goal.returns-in-Err-clause-bad
returns-in-Err-clause-bad g c = λ n same.
    let first = rw c.in-Some.is at c.in_ok-head.ensures in
    let bad : c.in-Err.error ≡ Bad n = cc same in
    behind g.H.Form.says (g.H.Form.fits c.args.head_form.now) g.F.Form.says (g.F.Form.fits c.args.form.now)
    c.in-Some.head c.in-Some.rest.now c.args.text.now n first.0 first.1
    (c.in-Err.ensures.bad n (ap (λ e. Err e) bad))
