-- No input has two answers: what has the form has no bad line, and what is legal has no bad entry.
use Rattle.std.proofs.Common.{ℕ, List}
use Rattle.cqs_check.proofs.OneHistory.{none_bad as none-bad-history, one_history}
use Rattle.cqs_replay.proofs.Unique.{none_bad as none-bad-event}
use Rattle.cqs_core.specs.SemaphoreEntries.{IsLegal}
use Rattle.cqs_check.specs.declared.texts.History.{History}
use Rattle.cqs_cli_histories.specs.declared.studies.Study.{Study}
use Rattle.cqs_cli_histories.specs.declared.studies.Study.TheVariants.{Replay, History as ItsHistory, Check}
use Rattle.cqs_cli_histories.specs.Studies.{HasForm, IsBadText, IsIllegalInput, IsLegalInput, IsNotLegal, IsStudyText, SaysHistory}

-- an input that has the form isn't answered by the line that breaks it
pub form-has-no-fault : (study : Study) (bytes line : List ℕ) → HasForm study bytes → IsBadText study bytes line → ⊥
form-has-no-fault Replay bytes line (s, says) bad =
    none-bad-event s bytes bad.number says.fits says.written bad.first
form-has-no-fault ItsHistory bytes line (s, says) bad =
    none-bad-event s bytes bad.number says.fits says.written bad.first
form-has-no-fault Check bytes line (h, says) bad =
    none-bad-history h bytes bad.number says.fits says.written bad.first

-- an input that is answered otherwise has the form
pub text-has-form : (study : Study) (bytes text : List ℕ) → IsStudyText study bytes text → HasForm study bytes
text-has-form Replay bytes text found = (found.schedule, found.says)
text-has-form ItsHistory bytes text found = (found.schedule, found.says)
text-has-form Check bytes text found = (found.history, found.says)

pub illegal-has-form : (study : Study) (bytes line : List ℕ) → IsNotLegal study bytes line → HasForm study bytes
illegal-has-form Replay bytes line found = absurd found
illegal-has-form ItsHistory bytes line found = absurd found
illegal-has-form Check bytes line found = (found.history, found.says)

pub legal-input-has-form : (study : Study) (bytes : List ℕ) → IsLegalInput study bytes → HasForm study bytes
legal-input-has-form Replay bytes legal = legal
legal-input-has-form ItsHistory bytes legal = legal
legal-input-has-form Check bytes (h, (says, legal)) = (h, says)

pub illegal-input-has-form : (study : Study) (bytes : List ℕ) → IsIllegalInput study bytes → HasForm study bytes
illegal-input-has-form Replay bytes illegal = absurd illegal
illegal-input-has-form ItsHistory bytes illegal = absurd illegal
illegal-input-has-form Check bytes (h, (says, illegal)) = (h, says)

-- what is legal of one reading of the bytes is legal of each
legal-of-each : (bytes : List ℕ) (g h : History) → SaysHistory bytes g → SaysHistory bytes h
    → IsLegal g.permits g.entries.items → IsLegal h.permits h.entries.items
legal-of-each bytes g h first second legal =
    let same = one_history g h bytes first.fits first.written second.fits second.written in
    rw (← same.permits, ← same.entries) legal

-- a legal input isn't answered by a bad entry
pub legal-has-no-fault : (study : Study) (bytes line : List ℕ) → IsLegalInput study bytes
    → IsNotLegal study bytes line → ⊥
legal-has-no-fault Replay bytes line legal found = absurd found
legal-has-no-fault ItsHistory bytes line legal found = absurd found
legal-has-no-fault Check bytes line (h, (says, legal)) found =
    let bad = found.found.first in
    let whole = legal-of-each bytes h found.history says found.says legal in
    bad.refused (whole.at found.found.place bad.bad bad.there)

-- and an illegal one isn't answered as a legal one
pub illegal-has-no-text : (study : Study) (bytes text : List ℕ) → IsIllegalInput study bytes
    → IsStudyText study bytes text → ⊥
illegal-has-no-text Replay bytes text illegal found = absurd illegal
illegal-has-no-text ItsHistory bytes text illegal found = absurd illegal
illegal-has-no-text Check bytes text (h, (says, illegal)) found =
    illegal (legal-of-each bytes found.history h found.says says found.found.legal)
