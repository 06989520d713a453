use Rattle.cqs_barrier_object.proofs.WordSteps.{arrival-keeps, last-keeps, withdrawal-keeps, stay-keeps}
use Rattle.cqs_barrier_object.proofs.law.word_steps_keep_the_barrier.Goals as goal

pub returns-clause-arrival : goal.returns-clause-arrival
returns-clause-arrival c = arrival-keeps

pub returns-clause-last : goal.returns-clause-last
returns-clause-last c = last-keeps

pub returns-clause-withdrawal : goal.returns-clause-withdrawal
returns-clause-withdrawal c = withdrawal-keeps

pub returns-clause-staying : goal.returns-clause-staying
returns-clause-staying c = stay-keeps
