use Rattle.std.proofs.Common.{refl}
use Rattle.cqs_semaphore.proofs.PlainPasses.{plain-seen}
use Rattle.cqs_semaphore.proofs.histories.no_number_is_broken.Goals as goal

pub returns : goal.returns
returns g c =
    plain-seen c.args._semaphore.now c.requires.belongs (λ x. refl) c.requires.belongs.live.legal
