use Rattle.std.proofs.Common.{[], ap}
use Rattle.cqs_turns_report.specs.Turns.{Scene}
use Rattle.cqs_turns_report.proofs.Readied.{can-give, holds-given, on_give-left}
use Rattle.cqs_turns.proofs.acts.give_step.Goals as goal

pub give-requires-clause-resource : goal.give-requires-clause-resource
give-requires-clause-resource g c = can-give _ _ _ [] c.requires.ready

pub give-requires-clause-holds : goal.give-requires-clause-holds
give-requires-clause-holds g c = holds-given _ _ _ [] c.requires.ready

pub returns-clause-held : goal.returns-clause-held
returns-clause-held g c =
    on_give-left _ _ _ c.args.at _ _ _ c.requires.ready.job c.requires.held c.forget_oldest.ensures
    (ap (λ (s : Scene). s.floor) c.in_ok-give.ensures.ok)
