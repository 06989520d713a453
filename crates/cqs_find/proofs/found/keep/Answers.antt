use Rattle.std.proofs.Common.{◌+◌, ◌*◌, ◌%◌, refl, subst, sym, arith}
use Rattle.cqs_rule_laws.specs.declared.config.Place.{Place}
use Rattle.cqs_rule.specs.Passes.{pass_view}
use Rattle.cqs_find.specs.Finds.{Finds}
use Rattle.cqs_find.specs.declared.found.Found.TheVariants.{At}
use Rattle.cqs_find.proofs.Numbers.{in-slot}
use Rattle.cqs_find.proofs.found.keep.Goals as goal

pub keep_place-requires-clause-place : goal.keep_place-requires-clause-place
keep_place-requires-clause-place g c =
    let f = rw c.in-At.is at c.requires.made in
    in-slot (pass_view c.args.pass.now) c.in-At.slot c.args.index _ f.0 f.1 (omega arith)

pub returns-in-At-clause-finds : goal.returns-in-At-clause-finds
returns-in-At-clause-finds g c =
    let f = rw c.in-At.is at c.requires.made in
    let w = pass_view c.args.pass.now in
    let at : Place = record { word = c.in-At.slot * 48 + 144 + c.args.index % 32; index = c.args.index } in
    subst (λ z. Finds c.args.index z (At at)) (sym c.keep_place.ensures.same)
    (refl, in-slot w c.in-At.slot c.args.index at.word f.0 f.1 (omega arith), f.2)

pub returns-in-Over-clause-finds : goal.returns-in-Over-clause-finds
returns-in-Over-clause-finds g c =
    let f = rw c.in-Over.is at c.requires.made in
    let w = pass_view c.args.pass.now in
    record { segment = c.in-Over.next; next_is = omega arith; after = f.1; made = f.2; out = f.0; own = c.requires.own }

pub overflow_mul-result : goal.overflow_mul-result
overflow_mul-result g c =
    let f = rw c.in-Over.is at c.requires.made in
    let low = f.3 in record { fits = omega arith }
