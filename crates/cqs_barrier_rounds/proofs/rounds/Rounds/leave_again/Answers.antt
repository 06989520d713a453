use Rattle.cqs_barrier_rounds.proofs.Mine.{at-pass, mine-set, called-set}
use Rattle.cqs_barrier_rounds.proofs.Placed.{stands-at}
use Rattle.cqs_barrier_rounds.proofs.rounds.Rounds.leave_again.Goals as goal

pub leave_at-requires-clause-belongs : goal.leave_at-requires-clause-belongs
leave_at-requires-clause-belongs c =
    c.requires.belongs.each _ _ _ (stands-at _ _ _ c.requires.member c.index.ensures)
    (at-pass _ _ _ _ c.requires.belongs c.requires.member c.index_mut.ensures.value)

pub leave_at-requires-clause-has : goal.leave_at-requires-clause-has
leave_at-requires-clause-has c =
    c.requires.has _ (at-pass _ _ _ _ c.requires.belongs c.requires.member c.index_mut.ensures.value)

pub returns-clause-belongs : goal.returns-clause-belongs
returns-clause-belongs c =
    mine-set _ _ _ _ _ _ c.requires.belongs (stands-at _ _ _ c.requires.member c.index.ensures)
    (at-pass _ _ _ _ c.requires.belongs c.requires.member c.index_mut.ensures.value) c.leave_at.ensures.belongs

pub returns-clause-left : goal.returns-clause-left
returns-clause-left c =
    called-set _ _ _ _ _ (at-pass _ _ _ _ c.requires.belongs c.requires.member c.index_mut.ensures.value)
    c.leave_at.ensures.left
