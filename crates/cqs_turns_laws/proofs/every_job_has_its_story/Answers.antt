use Rattle.cqs_turns_laws.proofs.JobStories.{every-job-has-its-story}
use Rattle.cqs_turns_laws.proofs.every_job_has_its_story.Goals as goal

pub returns : goal.returns
returns c = every-job-has-its-story
