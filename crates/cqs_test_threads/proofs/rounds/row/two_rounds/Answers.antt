use Rattle.std.proofs.Common.{Some}
use Rattle.std.proofs.lemmas.List.Elements.{All-pop}
use Rattle.cqs_test_threads.specs.Crew.{Sits}
use Rattle.cqs_test_threads.proofs.rounds.row.two_rounds.Goals as goal

pub be_last-requires : goal.be_last-requires
be_last-requires c =
    let left = All-pop (Sits _) _ _ (Some c.in_ok-first.first) c.in_ok-first.ensures.items c.in_ok-rounds.ensures in
    (All-pop (Sits _) _ _ (Some c.in_ok-second.second) c.in_ok-second.ensures.items left.0).1
