use Rattle.cqs_rule_laws.specs.Opened.{IsOpening}
use Rattle.cqs_rule_laws.proofs.table.opening_words.Given as goal

abbrev pub invariant-loop-place : goal.invariant-loop-place
invariant-loop-place g l =
    IsOpening l.place l.made (g.C.ClientWords.primitive l.client).values
    (g.C.ClientWords.primitive l.client).words l.words.items
