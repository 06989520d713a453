-- What is kept is what the workers left, which telling its text doesn't change.
use Rattle.std.proofs.Common.{◌≡◌, length, sym, subst, ◌∙◌, rules}
use Rattle.std.specs.Vec.{vec_len}
use Rattle.cqs_floor_shared.specs.Calls.{HaveAllMet}
use Rattle.cqs_floor_shared_any.specs.AnyShares.{share_any}
use Rattle.cqs_floor_shared_queue.specs.Ledgers.{shared_in}
use Rattle.cqs_cli_top.proofs.Works.{keeps-work}
use Rattle.cqs_cli_top.proofs.judging.text_of.Goals as goal

pub returns-clause-keeps : goal.returns-clause-keeps
returns-clause-keeps g c =
    let worked = c.in_ok-worked.ensures in
    let text = c.in_ok-text.ensures in
    let long : vec_len c.in_ok-floors.floors ≡ length c.in_ok-floors.floors.items = search rules in
    rw c.keep_work.ensures
    (keeps-work (shared_in share_any) _ c.args.plan.now c.args.workers c.in_ok-floors.floors.items c.in_ok-worked.worked
    c.work_text.new.worked c.in_ok-text.text.items c.in_ok-floors.ensures.split
    (sym long ∙ c.in_ok-floors.ensures.many) c.in_ok-floors.ensures.wide worked.ends worked.told worked.waits
    worked.bounds worked.few worked.uncrowded worked.quiet worked.met text.ends text.waits text.floor text.text
    (record {
      gated = rw (text.ends, text.waits, text.floor) worked.gate;
      only = c.tell_passes.ensures (subst HaveAllMet (sym text.floor) worked.met.met);
    }))
