use Rattle.cqs_barrier_rounds.proofs.Mine.{at-pass, mine-set, called-set}
use Rattle.cqs_barrier_rounds.proofs.Placed.{stands-at}
use Rattle.cqs_barrier_rounds.proofs.rounds.Rounds.finish.Goals as goal

pub finish_at-requires-clause-belongs : goal.finish_at-requires-clause-belongs
finish_at-requires-clause-belongs c =
    c.requires.belongs.each _ _ _ (stands-at _ _ _ c.requires.member c.index.ensures)
    (at-pass _ _ _ _ c.requires.belongs c.requires.member c.index_mut.ensures.value)

pub finish_at-requires-clause-owes : goal.finish_at-requires-clause-owes
finish_at-requires-clause-owes c =
    c.requires.owes _ (at-pass _ _ _ _ c.requires.belongs c.requires.member c.index_mut.ensures.value)

pub returns-clause-belongs : goal.returns-clause-belongs
returns-clause-belongs c =
    mine-set _ _ _ _ _ _ c.requires.belongs (stands-at _ _ _ c.requires.member c.index.ensures)
    (at-pass _ _ _ _ c.requires.belongs c.requires.member c.index_mut.ensures.value) c.finish_at.ensures.belongs

pub returns-clause-finished : goal.returns-clause-finished
returns-clause-finished c =
    called-set _ _ _ _ _ (at-pass _ _ _ _ c.requires.belongs c.requires.member c.index_mut.ensures.value)
    c.finish_at.ensures.finished

pub returns-clause-grown : goal.returns-clause-grown
returns-clause-grown c = λ ample.
    c.finish_at.ensures.grown (ample _ _ (stands-at _ _ _ c.requires.member c.index.ensures))
