-- Permits that go from one pass to another leave a core.
use Rattle.std.proofs.Common.{◌≡◌, ℕ, ◌+◌, List, length, sum, sym, ap, ◌∙◌, subst}
use Rattle.cqs_core.specs.QueueLine.{ready}
use Rattle.cqs_core.specs.SemaphoreTable.{Shape}
use Rattle.cqs_core.specs.SemaphoreCores.{IsEitherCore, shown_by_either}
use Rattle.cqs_core.proofs.RunsKeep.{HandsOver}

-- permits that change hands change nothing else
hands-core : (s : Shape) (held : List ℕ) → IsEitherCore s → length held ≡ length s.held → sum held ≡ sum s.held
    → IsEitherCore (record s { held = held })
hands-core s held core long same =
    record {
      range = record {
        some_permits = core.range.some_permits;
        permits = core.range.permits;
        passes = core.range.passes;
        state = core.range.state;
        suspends = core.range.suspends;
        resumes = core.range.resumes;
      };
      plain = core.plain;
      sound = core.sound;
      covered = core.covered;
      loaded = core.loaded;
      holders = long ∙ core.holders;
      legal = core.legal;
      object = core.object ∙ ap (λ n. record (shown_by_either s) { held = n + ready s.queue }) (sym same);
      short = core.short;
      conserved = rw same core.conserved;
    }

pub handed-core : (s next : Shape) → IsEitherCore s → HandsOver s next → IsEitherCore next
handed-core s next core hands =
    subst (λ (x : Shape). IsEitherCore x) hands.is (hands-core s hands.held core hands.long hands.same)
