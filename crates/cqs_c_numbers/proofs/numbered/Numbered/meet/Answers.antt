use Rattle.std.proofs.Common.{◌∙◌, Some, inl, inr, refl, subst}
use Rattle.cqs_c_numbers.specs.Numbered.{IsLaid}
use Rattle.cqs_c_numbers.proofs.numbered.Numbered.meet.Goals as goal

pub returns-in-Ok-meet : goal.returns-in-Ok-meet
returns-in-Ok-meet c = inr (inr (record {
  before = c.in-Ok.taken.1;
  given = c.in-Ok-take.taken.1;
  after = c.meet.new.caller;
  taken = c.in-Ok.ensures.taken;
  stood = c.in-Ok.ensures.stands;
  given_taken = c.in-Ok-take.ensures.taken;
  came = c.in-Ok-take.ensures.stands;
  joins = inr (refl, c.in-Ok-meet.ensures.met, c.lay.ensures);
  stands = record {
    stands = c.meet.ensures.stands;
    number = c.meet.ensures.number ∙ c.in-Ok.ensures.stands.number;
  };
  back = c.put-in-Ok-meet.ensures;
}))

pub returns-in-Err-meet : goal.returns-in-Err-meet
returns-in-Err-meet c = inr (inr (record {
  before = c.in-Ok.taken.1;
  given = c.in-Ok-take.taken.1;
  after = c.meet.new.caller;
  taken = c.in-Ok.ensures.taken;
  stood = c.in-Ok.ensures.stands;
  given_taken = c.in-Ok-take.ensures.taken;
  came = c.in-Ok-take.ensures.stands;
  joins = inl (
    c.in-Err-meet.ensures.refused,
    c.in-Err-meet.ensures.unchanged,
    subst (λ x. IsLaid c.args.self.now c.args.given 0 (Some x)) c.in-Err-meet.ensures.back c.put-in-Err-meet.ensures,
  );
  stands = record {
    stands = c.meet.ensures.stands;
    number = c.meet.ensures.number ∙ c.in-Ok.ensures.stands.number;
  };
  back = c.put-in-Err-meet-2.ensures;
}))
