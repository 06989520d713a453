use Rattle.cqs_cell.proofs.Looking.{polled}
use Rattle.cqs_cell.proofs.looks.look_for_grant.Goals as goal

pub returns-clause-polled : goal.returns-clause-polled
returns-clause-polled g c =
    let load = c.load_cell-word in polled c.args.at.index load.result _ _ load.ensures.loaded _ c.payload_in.ensures
