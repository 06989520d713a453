use Rattle.std.proofs.Common.{◌≡◌, false, true, rules}
use Rattle.cqs_floor_alone_kinds.proofs.Lifted.{lates-lifted, leaves-lifted}
use Rattle.cqs_floor_alone_kinds.proofs.permits.leave.Goals as goal

pub returns-then-cancel : goal.returns-then-cancel
returns-then-cancel g c =
    let gone : c.cancel.result ≡ true = search rules in
    leaves-lifted g.S.SoleSemaphore.sole c.args.job c.args.sole.now c.cancel.new.self c.args.round c.args.wait
    c.requires.has.0 (rw gone at c.cancel.ensures)

pub returns-else-cancel : goal.returns-else-cancel
returns-else-cancel g c =
    let late : c.cancel.result ≡ false = search rules in
    lates-lifted g.S.SoleSemaphore.sole c.args.job c.args.sole.now c.cancel.new.self c.args.round c.args.wait
    c.requires.has.0 (rw late at c.cancel.ensures)
