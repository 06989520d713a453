-- Each answer has that the verdict, as it was told, is a call of the program, and leaves the rest to `search`: so a
-- body that gives another status is refused by the clause.
use Rattle.std.proofs.Common.{rules}
use Rattle.cqs_cli.proofs.MeaningLemmas.{is_call}
use Rattle.cqs_cli.proofs.top_call.top_alone.Goals as goal

pub returns-clause-headline : goal.returns-clause-headline
returns-clause-headline g c =
    let call =
    is_call g.S.Source g.K.Sink _ _ _ _ _ _ _ c.judge-verdict.result c.tell.result
    (c.judge-verdict.ensures.right, c.tell.ensures) c.judge-verdict.ensures.keeps c.judge-verdict.ensures.taken
    c.judge-verdict.ensures.counted c.requires.empty in
    search rules

pub returns-clause-call : goal.returns-clause-call
returns-clause-call g c =
    let call =
    is_call g.S.Source g.K.Sink _ _ _ _ _ _ _ c.judge-verdict.result c.tell.result
    (c.judge-verdict.ensures.right, c.tell.ensures) c.judge-verdict.ensures.keeps c.judge-verdict.ensures.taken
    c.judge-verdict.ensures.counted c.requires.empty in
    search rules
