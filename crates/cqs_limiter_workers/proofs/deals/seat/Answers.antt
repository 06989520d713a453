use Rattle.std.proofs.Common.{refl, sym, ap, ◌∙◌, Some}
use Rattle.std.proofs.lemmas.Option.{slice_get-get_or}
use Rattle.cqs_limiter_workers.proofs.deals.seat.Goals as goal

pub returns : goal.returns
returns g c = record {
  was = c.index_mut.result.now;
  is = _;
  there = slice_get-get_or c.args.posts.now.items c.args.worker c.index_mut.result.now c.requires.worker
      ∙ ap (λ h. Some h) (sym c.index_mut.ensures.value);
  posts = refl;
  worker_is = refl;
  desks = refl;
}
