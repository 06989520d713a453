use Rattle.std.proofs.Common.{◌≡◌, ◌≤◌, IsSome}
use Rattle.cqs_core.specs.SemaphoreCalls.{resumes_at, ahead}
use Rattle.cqs_core_run.proofs.table.Table.resume.Given as goal

abbrev pub invariant-resumes : goal.invariant-resumes
invariant-resumes l = record {
  course : resumes_at l.pass l.initial.self.shape ≡ resumes_at l.pass l.self.shape;
  ends : IsSome (resumes_at l.pass l.self.shape);
  spare : l.initial.self.spare ≤ l.self.spare;
}

abbrev pub decreases-resumes : goal.decreases-resumes
decreases-resumes l = ahead l.self.shape
