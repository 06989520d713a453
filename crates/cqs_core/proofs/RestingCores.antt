-- A core in which every pass is idle, read as one that isn't synchronous, with each broken cell as one whose wait has
-- left: it is a core, and shows the same.
use Rattle.std.proofs.Common.{◌≡◌, ◌+◌, false, sum, refl, ap, sym, ◌∙◌, arith}
use Rattle.cqs_core.specs.Resting.{IsIdle}
use Rattle.cqs_core.specs.SemaphoreCores.{IsEitherCore}
use Rattle.cqs_core.specs.SemaphoreShown.{IsCore, short_of, shown_semaphore}
use Rattle.cqs_core.specs.SemaphoreTable.{Shape}
use Rattle.cqs_core.proofs.QueueAsCancelled.{as_cancelled, line-cancelled, services-cancelled, ready-cancelled, going-cancelled, ending-cancelled, way-cancelled, IsStill, still, sound-cancelled, covered-cancelled}

abbrev pub as_plain : Shape → Shape
as_plain s = record s { sync = false; queue = as_cancelled s.queue }

pub shown-plain : (s : Shape) → shown_semaphore (as_plain s) ≡ shown_semaphore s
shown-plain s = λ i. record (shown_semaphore s) {
  way = way-cancelled s.queue i;
  line = line-cancelled s.queue i;
  served = services-cancelled s.queue i;
  held = sum s.held + ready-cancelled s.queue i;
}

-- where every pass is idle, the reading is a core
pub rest-core : (s : Shape) → IsEitherCore s → IsIdle s.queue.doing → IsCore (as_plain s)
rest-core s core idle =
    let rests : IsStill s.queue core.sound core.covered idle =
    still s.queue core.sound core.covered idle (short_of s.state) core.short in
    let goes = going-cancelled s.queue in
    let ends = ending-cancelled s.queue in
    let readies = ready-cancelled s.queue in
    let lines = line-cancelled s.queue in
    record {
      plain = refl;
      range = record {
        some_permits = core.range.some_permits;
        permits = core.range.permits;
        passes = core.range.passes;
        state = core.range.state;
        suspends = core.range.suspends;
        resumes = core.range.resumes;
      };
      sound = sound-cancelled s.queue core.sound core.covered idle rests;
      covered = covered-cancelled s.queue core.sound core.covered idle rests;
      loaded = core.loaded;
      holders = core.holders;
      legal = core.legal;
      object =
          core.object ∙ ap (λ bs. record (shown_semaphore s) { spoiled = bs }) rests.spoiled ∙ sym (shown-plain s);
      short = rw (goes, ends, lines) (omega (arith, core.short, rests.early));
      conserved = rw (goes, ends, readies) core.conserved;
    }
