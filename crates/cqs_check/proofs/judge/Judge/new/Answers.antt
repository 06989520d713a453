use Rattle.std.proofs.Common.{refl}
use Rattle.cqs_check.proofs.Kept.{begins}
use Rattle.cqs_check.proofs.judge.Judge.new.Goals as goal

pub returns : goal.returns
returns c =
    begins _ c.args.permits c.requires c.in_ok-table.ensures.0 c.in_ok-table.ensures.1 c.new-2.ensures
    c.new-3.ensures refl refl refl refl
