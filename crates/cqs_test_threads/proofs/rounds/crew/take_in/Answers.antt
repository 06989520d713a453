use Rattle.std.proofs.Common.{inl}
use Rattle.cqs_test_threads.proofs.Seating.{met-back}
use Rattle.cqs_test_threads.proofs.rounds.crew.take_in.Goals as goal

pub meet-requires-clause-between : goal.meet-requires-clause-between
meet-requires-clause-between c = λ r p there. inl (c.requires.given.ready r p there).idle

pub returns : goal.returns
returns c = record {
  belongs = c.meet.ensures.belongs;
  ready = met-back c.meet.result _ _ _ (λ p. p.passes.items) c.meet.ensures.met c.meet.ensures.unchanged
      c.requires.pass.ready;
}
