use Rattle.cqs_plan_reader.proofs.OneAnswer.{IsCause, of-plan, of-no_toml, of-fault}
use Rattle.cqs_plan.proofs.RunnablePlans.{read-runnable, read-sized}
use Rattle.cqs_plan_reader.proofs.ValidPlans.{read-retries, read-valid}
use Rattle.cqs_plan_reader.proofs.reader.read_plan.Goals as goal
use Rattle.cqs_plan_reader.proofs.reader.read_plan.Goals.{After-read}

-- what the answer says of the bytes
cause : (c : After-read) → IsCause c.args.bytes.now c.read.result
cause c = record { plan = c.read.ensures.plan; not_toml = c.read.ensures.not_toml; fault = c.read.ensures.fault }

pub returns-clause-valid : goal.returns-clause-valid
returns-clause-valid c = read-valid c.args.bytes.now c.read.result c.read.ensures.plan c.read.ensures.found

pub returns-clause-of_plan : goal.returns-clause-of_plan
returns-clause-of_plan c =
    of-plan c.args.bytes.now c.read.result (cause (goal.at.returns-clause-of_plan c).After-read)

pub returns-clause-of_no_toml : goal.returns-clause-of_no_toml
returns-clause-of_no_toml c =
    of-no_toml c.args.bytes.now c.read.result (cause (goal.at.returns-clause-of_no_toml c).After-read)

pub returns-clause-of_fault : goal.returns-clause-of_fault
returns-clause-of_fault c =
    of-fault c.args.bytes.now c.read.result (cause (goal.at.returns-clause-of_fault c).After-read)

pub returns-clause-runnable : goal.returns-clause-runnable
returns-clause-runnable c =
    read-runnable c.read.result
    (read-valid c.args.bytes.now c.read.result c.read.ensures.plan c.read.ensures.found)

pub returns-clause-sized : goal.returns-clause-sized
returns-clause-sized c =
    read-sized c.read.result
    (read-valid c.args.bytes.now c.read.result c.read.ensures.plan c.read.ensures.found)

pub returns-clause-retries : goal.returns-clause-retries
returns-clause-retries c = read-retries c.args.bytes.now c.read.result c.read.ensures.plan
