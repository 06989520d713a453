use Rattle.std.proofs.Common.{◌∙◌, inl, inr}
use Rattle.cqs_c_numbers.proofs.numbered.Numbered.split.Goals as goal

pub returns-in-Ok-made : goal.returns-in-Ok-made
returns-in-Ok-made c = inr (inr (record {
  before = c.in-Ok.taken.1;
  after = c.split-made.new.caller;
  taken = c.in-Ok.ensures.taken;
  stood = c.in-Ok.ensures.stands;
  splits = inr (record {
    made = c.in-Ok-made.made;
    stands = c.in-Ok-made.ensures.made;
    split = c.in-Ok-made.ensures.split;
    seated = c.seat.ensures;
  });
  stands = record {
    stands = c.split-made.ensures.stands;
    number = c.split-made.ensures.number ∙ c.in-Ok.ensures.stands.number;
  };
  back = c.put.ensures;
}))

pub returns-in-Err-made : goal.returns-in-Err-made
returns-in-Err-made c = inr (inr (record {
  before = c.in-Ok.taken.1;
  after = c.split-made.new.caller;
  taken = c.in-Ok.ensures.taken;
  stood = c.in-Ok.ensures.stands;
  splits = inl c.in-Err-made.ensures.refused;
  stands = record {
    stands = c.split-made.ensures.stands;
    number = c.split-made.ensures.number ∙ c.in-Ok.ensures.stands.number;
  };
  back = c.put.ensures;
}))
