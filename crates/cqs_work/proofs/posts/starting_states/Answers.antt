use Rattle.std.proofs.Common.{refl}
use Rattle.cqs_work.proofs.Posting.{starting-none, starting-push}
use Rattle.cqs_work.proofs.posts.starting_states.Goals as goal

pub loop-place-init : goal.loop-place-init
loop-place-init c = starting-none _ _ c.in_ok-states.states.items c.in_ok-states.ensures.items

pub loop-place-preserved : goal.loop-place-preserved
loop-place-preserved c =
    rw c.in_ok-push.ensures.items
    (starting-push c.loop-place.place c.args.workers c.args.worker c.loop-place.states.items _ c.loop-place.invariant
    (record { progress = c.starting.ensures; patience = refl; held = c.new.ensures.items }))
