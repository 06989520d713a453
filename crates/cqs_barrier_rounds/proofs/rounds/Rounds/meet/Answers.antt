use Rattle.std.proofs.Common.{◌≤◌, length, arith}
use Rattle.cqs_barrier_rounds.proofs.Placed.{called-all}
use Rattle.cqs_barrier_rounds.proofs.rounds.Rounds.meet.Goals as goal

pub take_in-requires-clause-free : goal.take_in-requires-clause-free
take_in-requires-clause-free c = λ r p there. record {
  between = c.requires.between r p there;
  free = λ busy.
      let yes = c.is_busy.ensures.1 (record { round = r; pass = p; there = there; busy = busy }) in
      let no = c.if-is_busy.false in
      absurd (cc);
}

pub returns-clause-met : goal.returns-clause-met
returns-clause-met c =
    let many = c.requires.belongs.many in
    let many_too = c.requires.given_belongs.many in
    let all : length c.args.pass.now.passes.items ≤ length c.args.given.passes.items = omega arith in
    called-all _ _ _ _ c.take_in.ensures.taken all
