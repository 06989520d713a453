use Rattle.std.proofs.Common.{◌≡◌, false, true, rules}
use Rattle.cqs_floor_alone_kinds.proofs.Lifted.{grants-lifted, pends-lifted}
use Rattle.cqs_floor_alone_kinds.proofs.permits.look.Goals as goal

pub returns-then-poll : goal.returns-then-poll
returns-then-poll g c =
    let served : c.poll.result ≡ true = search rules in
    grants-lifted g.S.SoleSemaphore.sole c.args.job c.args.sole.now c.poll.new.self c.args.round c.args.wait
    c.requires.has.0 (rw served at c.poll.ensures)

pub returns-else-poll : goal.returns-else-poll
returns-else-poll g c =
    let pends : c.poll.result ≡ false = search rules in
    pends-lifted g.S.SoleSemaphore.sole c.args.job c.args.sole.now c.poll.new.self c.args.round c.args.wait
    (rw pends at c.poll.ensures)
