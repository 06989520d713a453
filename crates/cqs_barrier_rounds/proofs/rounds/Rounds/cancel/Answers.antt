use Rattle.cqs_barrier_rounds.proofs.Mine.{at-pass, mine-set, called-set}
use Rattle.cqs_barrier_rounds.proofs.Placed.{stands-at}
use Rattle.cqs_barrier_rounds.proofs.rounds.Rounds.cancel.Goals as goal

pub cancel_at-requires-clause-belongs : goal.cancel_at-requires-clause-belongs
cancel_at-requires-clause-belongs c =
    c.requires.belongs.each _ _ _ (stands-at _ _ _ c.requires.member c.index.ensures)
    (at-pass _ _ _ _ c.requires.belongs c.requires.member c.index_mut.ensures.value)

pub cancel_at-requires-clause-ready : goal.cancel_at-requires-clause-ready
cancel_at-requires-clause-ready c =
    c.requires.ready _ (at-pass _ _ _ _ c.requires.belongs c.requires.member c.index_mut.ensures.value)

pub cancel_at-requires-clause-has : goal.cancel_at-requires-clause-has
cancel_at-requires-clause-has c =
    c.requires.has _ (at-pass _ _ _ _ c.requires.belongs c.requires.member c.index_mut.ensures.value)

pub returns-clause-belongs : goal.returns-clause-belongs
returns-clause-belongs c =
    mine-set _ _ _ _ _ _ c.requires.belongs (stands-at _ _ _ c.requires.member c.index.ensures)
    (at-pass _ _ _ _ c.requires.belongs c.requires.member c.index_mut.ensures.value) c.cancel_at.ensures.belongs

pub returns-clause-left : goal.returns-clause-left
returns-clause-left c =
    called-set _ _ _ _ _ (at-pass _ _ _ _ c.requires.belongs c.requires.member c.index_mut.ensures.value)
    c.cancel_at.ensures.left
