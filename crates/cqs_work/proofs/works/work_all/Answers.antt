use Rattle.std.proofs.Common.{rules, ◌≡◌, ◌<◌, Result, IfOk, length, get_or, sym, ◌∙◌, subst}
use Rattle.std.proofs.lemmas.Option.{get_or_from_slice_get}
use Rattle.cqs_core.specs.declared.Memory.{Memory}
use Rattle.cqs_core.proofs.Places.{get-below}
use Rattle.cqs_work.specs.declared.works.Post.{Post}
use Rattle.cqs_work.specs.declared.works.Worker.{Worker}
use Rattle.cqs_work.specs.Desk.{fresh_desk}
use Rattle.cqs_work.specs.Gated.{told_by}
use Rattle.cqs_work.specs.Works.{HasWorkedOn}
use Rattle.cqs_work.proofs.works.work_all.Goals as goal

pub returns-clause-each : goal.returns-clause-each
returns-clause-each g c = record {
  at = λ i post r got_post got_r.
      let shared = g.F.SharedFloor.shared in
      let told = told_by g.G.Gate.begun g.G.Gate.ended c.args.gate.now in
      let Works : Post g.row.F.Denot → Result (Worker g.row.F.Denot) Memory → Type 0 = λ p x. IfOk x (λ worker.
      HasWorkedOn c.args.plan.now (fresh_desk (shared p.floor) (told p.worker)) p.states.items worker.states.items
      (shared worker.floor) worker.waits.items) in
      let below : i < length c.args.posts.items = get-below c.args.posts.items i post got_post in
      let gave = (c.in_ok-map_vec.ensures.each i r below).1 in
      let learnt = gave.call.met in
      let same : gave.job ≡ post
      = sym (gave.job_is post) ∙ get_or_from_slice_get c.args.posts.items i post post got_post in
      let result : get_or c.in_ok-map_vec.field-0.items i r ≡ r
      = get_or_from_slice_get c.in_ok-map_vec.field-0.items i r r got_r in
      let here : Works gave.job (get_or c.in_ok-map_vec.field-0.items i r) = search rules in
      let at_post : Works post (get_or c.in_ok-map_vec.field-0.items i r)
      = subst (λ p. Works p (get_or c.in_ok-map_vec.field-0.items i r)) same here in
      subst (Works post) result at_post;
}
