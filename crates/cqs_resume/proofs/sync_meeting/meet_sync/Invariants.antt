use Rattle.std.proofs.Common.{◌≡◌}
use Rattle.cqs_core.specs.declared.doings.Doing.TheVariants as doing
use Rattle.cqs_rule.specs.Passes.{pass_view, IsOf}
use Rattle.cqs_rule_laws.specs.Placed.{KnowsPlace}
use Rattle.cqs_resume.proofs.OneNumber.{Tried, turns_left}
use Rattle.cqs_resume.proofs.sync_meeting.meet_sync.Given as goal

abbrev pub invariant-loop-state : goal.invariant-loop-state
invariant-loop-state g l = record {
  belongs : IsOf l.queue l.pass;
  number : l.at.index ≡ l.number;
  ticket : (pass_view l.pass).facts.doing ≡ doing.Ticket l.at.index;
  owes : (pass_view l.pass).facts.has.payload ≡ l.payload;
  place : KnowsPlace (pass_view l.pass) l.at;
  tried : Tried g.C.ClientWords.object g.C.ClientWords.primitive l.at.index l.number l.state (pass_view l.fn.pass)
      (pass_view l.pass);
}

abbrev pub decreases-loop-state : goal.decreases-loop-state
decreases-loop-state g l = turns_left (pass_view l.pass).facts.last
