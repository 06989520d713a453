use Rattle.std.proofs.Common.{Err, refl, ap, ◌∙◌}
use Rattle.cqs_barrier_rounds.proofs.turns.arrive_at.Goals as goal

pub returns-in-Ok-Last-clause-arrived : goal.returns-in-Ok-Last-clause-arrived
returns-in-Ok-Last-clause-arrived c = (
  refl,
  record {
    below = c.in-Ok-Last.ensures.below;
    arrives = rw c.in-Ok-Last.field-0-is at c.in-Ok-Last.ensures.arrived;
    cell = rw c.in-Ok-Last.field-0-is at c.in-Ok-Last.ensures.cell;
    alone = rw c.in-Ok-Last.field-0-is at c.in-Ok-Last.ensures.alone;
  },
)

pub returns-in-Err-Worn-clause-arrived : goal.returns-in-Err-Worn-clause-arrived
returns-in-Err-Worn-clause-arrived c =
    let worn = c.arrive.ensures.worn (c.in-Err-Worn.is ∙ ap Err c.in-Err-Worn.field-0-is) in search

pub returns-in-Err-Crowded-clause-arrived : goal.returns-in-Err-Crowded-clause-arrived
returns-in-Err-Crowded-clause-arrived c =
    let crowded = c.arrive.ensures.crowded (c.in-Err-Crowded.is ∙ ap Err c.in-Err-Crowded.field-0-is) in search
