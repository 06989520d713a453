use Rattle.cqs_turns_report.proofs.Growth.{leaves-off, prefix-added, prefix-through}
use Rattle.cqs_turns.proofs.acts.finish.Goals as goal

pub returns-in_err-give_all-clause-comes : goal.returns-in_err-give_all-clause-comes
returns-in_err-give_all-clause-comes g c =
    leaves-off c.from_residual.result _ _ c.from_residual.ensures.0
    (prefix-through _ _ _ (prefix-added _ _) (rw c.requires.held at c.in_err-give_all.ensures.comes.err))
