use Rattle.std.proofs.Common.{rules, ◌≡◌, ◌∷◌, ◌+◌, ◌-◌, take, drop, length, arith, sym, subst, ap, refl}
use Rattle.std.proofs.lemmas.List.{take_all}
use Rattle.std.proofs.lemmas.List.{length-drop}
use Rattle.cqs_lines.specs.Said.{IsCut, Lacks}
use Rattle.cqs_lines.proofs.Texts.{nowhere-lacks, place-cut}
use Rattle.cqs_lines.proofs.cuts.cut.Goals as goal

pub returns-in-None : goal.returns-in-None
returns-in-None c = nowhere-lacks _ _ (λ k low is. c.in-None.ensures k (omega arith) low is)

pub returns-in-Some : goal.returns-in-Some
returns-in-Some c =
    let n = c.in-Some.place + 1 in
    let bytes = c.args.bytes.now in
    let cut = place-cut c.args.at bytes c.in-Some.place n (omega arith) c.in-Some.ensures.0.high
    (λ k low is. c.in-Some.ensures.0.before k (omega arith) low is) c.in-Some.ensures.1 in
    let whole = take_all (length bytes - n) (drop n bytes) (omega (arith, length-drop n bytes)) in
    rw whole cut
