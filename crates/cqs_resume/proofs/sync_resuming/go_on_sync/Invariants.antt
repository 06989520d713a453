use Rattle.std.proofs.Common.{◌≡◌, ◌<◌, ◌≤◌, None}
use Rattle.cqs_core.specs.declared.doings.Doing.TheVariants as doing
use Rattle.cqs_rule_laws.specs.declared.view.View.{View}
use Rattle.cqs_rule_laws.specs.Jumped.{AreOut}
use Rattle.cqs_rule.specs.Passes.{pass_view, IsOf}
use Rattle.cqs_resume.specs.declared.sync_resumed.SyncResumed.{SyncResumed}
use Rattle.cqs_resume.specs.SyncResumes.{SyncGoesOn}
use Rattle.cqs_resume.proofs.sync_resuming.go_on_sync.Given as goal

abbrev pub invariant-loop-resumed : goal.invariant-loop-resumed
invariant-loop-resumed g l = record {
  belongs : IsOf l.queue l.pass;
  owes : (pass_view l.pass).facts.doing ≡ doing.Owes;
  payload : (pass_view l.pass).facts.has.payload ≡ l.payload;
  out : AreOut l.from l.to (pass_view l.pass);
  some : 0 < l.left;
  few : l.left ≤ l.most;
  rest : (result : SyncResumed) (w : View g.row.C-Entry.Denot g.row.C-Slot.Denot)
      → SyncGoesOn g.C.ClientWords.object g.C.ClientWords.primitive l.left None l.payload (pass_view l.pass) result w
      → SyncGoesOn g.C.ClientWords.object g.C.ClientWords.primitive l.most None l.payload (pass_view l.fn.pass) result
      w;
}

abbrev pub decreases-loop-resumed : goal.decreases-loop-resumed
decreases-loop-resumed g l = l.left
