use Rattle.std.proofs.Common.{◌∙◌, inr}
use Rattle.cqs_c_numbers.proofs.numbered.Numbered.call.Goals as goal

pub returns : goal.returns
returns c = inr (inr (record {
  before = c.in-Ok.taken.1;
  after = c.call-answer.new.caller;
  taken = c.in-Ok.ensures.taken;
  stood = c.in-Ok.ensures.stands;
  leads = c.call-answer.ensures.answered;
  stands = record {
    stands = c.call-answer.ensures.stands;
    number = c.call-answer.ensures.number ∙ c.in-Ok.ensures.stands.number;
  };
  back = c.put.ensures;
}))
