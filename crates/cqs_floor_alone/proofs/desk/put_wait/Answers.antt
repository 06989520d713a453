use Rattle.std.proofs.Common.{ap, map, set, ◌∙◌}
use Rattle.std.proofs.lemmas.List.{map-set}
use Rattle.cqs_floor_alone_kinds.specs.Waits.{slot_wait}
use Rattle.cqs_floor_alone.proofs.desk.put_wait.Goals as goal

pub returns : goal.returns
returns c =
    let slots = c.args.waits.now.items in
    map-set slot_wait slots c.args.job c.of.result
    ∙ ap (λ wait. set (map slot_wait slots) c.args.job wait) c.of.ensures
