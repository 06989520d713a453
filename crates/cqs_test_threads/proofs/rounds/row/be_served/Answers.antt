use Rattle.std.proofs.Common.{arith}
use Rattle.cqs_test_threads.proofs.Goes.{poll-through}
use Rattle.cqs_test_threads.proofs.rounds.row.be_served.Goals as goal

pub returns-in-Through : goal.returns-in-Through
returns-in-Through c =
    let comes = poll-through _ _ _ _ c.requires.waits c.in-Through.ensures.polled in
    let low = c.requires.member in
    let next = comes.next in
    record { belongs = c.poll.ensures.belongs; member = omega (arith, low, next); on = comes.on }
