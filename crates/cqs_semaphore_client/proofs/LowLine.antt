-- Where few are in line, the state of a semaphore is far above the lowest.
use Rattle.std.proofs.Common.{◌≡◌, ◌+◌, ◌<◌, ◌≤◌, length, arith, ℤ, pos, negsuc, ◌<ℤ◌}
use Rattle.std.proofs.lemmas.Int.{ints}
use Rattle.cqs_core.specs.QueueLine.{door, line, going, ending, due}
use Rattle.cqs_core.specs.QueueState.{Queue}
use Rattle.cqs_core.specs.SemaphoreTable.{Shape, lowest}
use Rattle.cqs_core.specs.SemaphoreShown.{short_of}
use Rattle.cqs_core.specs.SemaphoreCores.{IsEitherCore, early}
use Rattle.cqs_core.proofs.QueueAsUnbroken.{sync-within}
use Rattle.cqs_rule_laws.specs.Configured.{longest_line}
use Rattle.cqs_rule_laws.proofs.Lines.{picked-short}

pub state-above-line : (s : Shape) → IsEitherCore s → length (line s.queue) < longest_line → lowest <ℤ s.state
state-above-line s core few_wait =
    let few : ending q ≤ going q = sync-within q core.sound core.covered in
    let short : going q + short_of s.state + early q ≡ due q + ending q = core.short in
    let doors : length (door q) ≤ length q.doing = picked-short _ 0 q.doing in
    let passes : length q.doing ≤ 32 = core.range.passes in
    above s.state (omega arith)
  where
    q : Queue
    q = s.queue

    above : (z : ℤ) → short_of z < 4294967295 → lowest <ℤ z
    above (pos n) low = grind (arith, ints)
    above (negsuc n) low = grind (arith, ints)
