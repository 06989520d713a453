use Rattle.std.proofs.Common.{rules, ◌≡◌, ◌∷◌, ◌++◌, [], List, ℕ}
use Rattle.cqs_lines.proofs.Texts.{Midway, midway-start, midway-next, midway-none, midway-last, midway-bad}
use Rattle.cqs_lines.proofs.said.hear_numbers.Goals as goal

pub returns-in_default-number : goal.returns-in_default-number
returns-in_default-number c = midway-none _ _ _ _ _ c.words.invariant c.in-Some.ensures c.in_default-number.ensures

pub words-preserved : goal.words-preserved
words-preserved c =
    let pushed : c.push.new.self.items ≡ c.words.numbers.items ++ c.in-Some-number.number ∷ [] = search rules in
    rw pushed (midway-next _ _ _ _ _ _ c.words.invariant c.in-Some.ensures c.in-Some-number.ensures.0
    c.in-Some-number.ensures.1)

pub returns-in_default-number-2 : goal.returns-in_default-number-2
returns-in_default-number-2 c = midway-bad _ _ _ c.words.invariant c.in_default.ensures c.in_default-number-2.ensures

pub returns : goal.returns
returns c =
    let pushed : c.push-2.new.self.items ≡ c.words.numbers.items ++ c.in-Some-number-2.last ∷ [] = search rules in
    rw pushed (midway-last _ _ _ _ c.words.invariant c.in-Some-number-2.ensures.0 c.in-Some-number-2.ensures.1)
