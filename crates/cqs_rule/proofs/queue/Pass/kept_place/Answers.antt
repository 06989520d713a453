use Rattle.std.proofs.Common.{refl, arith}
use Rattle.cqs_rule.specs.Passes.{pass_view}
use Rattle.cqs_rule.proofs.Homes.{place-of}
use Rattle.cqs_rule.proofs.queue.Pass.kept_place.Goals as goal

pub overflow_add-result : goal.overflow_add-result
overflow_add-result g c = let fits = c.in-Some.ensures.fits in record { fits = omega arith }

pub returns-in-Some : goal.returns-in-Some
returns-in-Some g c = (
  refl,
  place-of (pass_view c.args.self.now) c.in-Some.home _ c.args.index c.in-Some.ensures c.if-home-index.true refl,
)
