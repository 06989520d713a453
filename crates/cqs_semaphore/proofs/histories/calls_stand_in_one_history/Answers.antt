use Rattle.cqs_rule.specs.Passes.{pass_view}
use Rattle.cqs_rule_laws.proofs.Courses.{course-call}
use Rattle.cqs_rule.proofs.Histories.{course-goes-on}
use Rattle.cqs_semaphore_client.specs.Semaphore.{semaphore_object}
use Rattle.cqs_semaphore.proofs.histories.calls_stand_in_one_history.Goals as goal

pub returns-clause-each : goal.returns-clause-each
returns-clause-each g c = λ history v own further called stands.
    course-goes-on semaphore_object history v (pass_view c.args._pass.now) own
    (course-call semaphore_object v (pass_view c.args._pass.now) own further further called) stands

pub returns-clause-all : goal.returns-clause-all
returns-clause-all g c = λ history v own course stands.
    course-goes-on semaphore_object history v (pass_view c.args._pass.now) own course stands
