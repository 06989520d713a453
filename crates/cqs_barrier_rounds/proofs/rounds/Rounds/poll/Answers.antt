use Rattle.cqs_barrier_rounds.proofs.Mine.{at-pass, mine-set, called-set}
use Rattle.cqs_barrier_rounds.proofs.Placed.{stands-at}
use Rattle.cqs_barrier_rounds.proofs.rounds.Rounds.poll.Goals as goal

pub poll_at-requires-clause-belongs : goal.poll_at-requires-clause-belongs
poll_at-requires-clause-belongs c =
    c.requires.belongs.each _ _ _ (stands-at _ _ _ c.requires.member c.index.ensures)
    (at-pass _ _ _ _ c.requires.belongs c.requires.member c.index_mut.ensures.value)

pub poll_at-requires-clause-ready : goal.poll_at-requires-clause-ready
poll_at-requires-clause-ready c =
    c.requires.ready _ (at-pass _ _ _ _ c.requires.belongs c.requires.member c.index_mut.ensures.value)

pub poll_at-requires-clause-has : goal.poll_at-requires-clause-has
poll_at-requires-clause-has c =
    c.requires.has _ (at-pass _ _ _ _ c.requires.belongs c.requires.member c.index_mut.ensures.value)

pub returns-clause-belongs : goal.returns-clause-belongs
returns-clause-belongs c =
    mine-set _ _ _ _ _ _ c.requires.belongs (stands-at _ _ _ c.requires.member c.index.ensures)
    (at-pass _ _ _ _ c.requires.belongs c.requires.member c.index_mut.ensures.value) c.poll_at.ensures.belongs

pub returns-clause-polled : goal.returns-clause-polled
returns-clause-polled c =
    called-set _ _ _ _ _ (at-pass _ _ _ _ c.requires.belongs c.requires.member c.index_mut.ensures.value)
    c.poll_at.ensures.polled
