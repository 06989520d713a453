use Rattle.std.proofs.Common.{◌∙◌, ap, subst}
use Rattle.cqs_rule_laws.proofs.Lists.{get_index}
use Rattle.cqs_c_callers.specs.Tokens.{IsAt}
use Rattle.cqs_c_callers.proofs.tokens.take_out.Goals as goal

pub returns-clause-taken : goal.returns-clause-taken
returns-clause-taken g c =
    let index = g.T.Token.index in
    let xs = c.args.tokens.now.items in
    let at = subst (λ l. IsAt index c.args.number l c.in_ok-i.i) c.as_slice.ensures.value c.in_ok-i.ensures.found in
    let token = c.remove.result in
    record {
      at = c.in_ok-i.i;
      below = at.below;
      is = c.remove.ensures.value;
      number_is = ap index (c.remove.ensures.value ∙ get_index xs c.in_ok-i.i at.at token at.is) ∙ at.number_is;
      others = c.remove.ensures.items;
    }
