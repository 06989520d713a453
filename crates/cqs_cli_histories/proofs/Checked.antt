-- What a history that was read came to is what the bytes came to that say it.
use Rattle.std.proofs.Common.{ℕ, List}
use Rattle.cqs_check.specs.declared.texts.History.{History}
use Rattle.cqs_cli_histories.specs.Studies.{IsJudged, IsStudied, SaysHistory}
use Rattle.cqs_cli_histories.specs.declared.studies.Studied.{Studied}
use Rattle.cqs_cli_histories.specs.declared.studies.Studied.TheVariants.{Text, BadText, NotLegal}
use Rattle.cqs_cli_histories.specs.declared.studies.Study.TheVariants.{Check}

pub of-judged : (bytes : List ℕ) (h : History) → SaysHistory bytes h → (found : Studied)
    → IsJudged h.permits h.entries.items found → IsStudied Check bytes found
of-judged bytes h says (Text text) judged = record { history = h; says = says; found = judged }
of-judged bytes h says (BadText line) judged = absurd judged
of-judged bytes h says (NotLegal line) judged = record { history = h; says = says; found = judged }
