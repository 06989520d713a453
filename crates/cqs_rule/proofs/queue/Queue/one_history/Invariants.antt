use Rattle.std.proofs.Common.{◌≡◌, true}
use Rattle.cqs_rule_laws.specs.Crew.{MadeNone}
use Rattle.cqs_rule.specs.Histories.{AreOf}
use Rattle.cqs_rule.specs.Passes.{pass_view, IsOf}
use Rattle.cqs_rule.specs.Seats.{HasLookedOn}
use Rattle.cqs_rule.proofs.Histories.{HaveHeard, HaveTold}
use Rattle.cqs_rule.proofs.queue.Queue.one_history.Given as goal

-- the first passes have told what they had seen
abbrev pub invariant-loop-heard : goal.invariant-loop-heard
invariant-loop-heard g l = record {
  mine : IsOf l.self l.pass;
  theirs : AreOf l.self l.others;
  looked : HasLookedOn l.fn.pass l.pass;
  kept : (pass_view l.fn.pass).alone ≡ true → (pass_view l.pass).alone ≡ true;
  made_none : MadeNone (pass_view l.fn.pass) (pass_view l.pass);
  told : HaveTold l.heard (pass_view l.pass) l.fn.others l.others;
}

-- the first passes have heard what the pass has seen
abbrev pub invariant-loop-told : goal.invariant-loop-told
invariant-loop-told g l = record {
  mine : IsOf l.self l.pass;
  theirs : AreOf l.self l.others;
  looked : HasLookedOn l.fn.pass l.pass;
  kept : (pass_view l.fn.pass).alone ≡ true → (pass_view l.pass).alone ≡ true;
  made_none : MadeNone (pass_view l.fn.pass) (pass_view l.pass);
  heard : HaveHeard l.told (pass_view l.pass) l.fn.others l.others;
}
