-- A text is that of one history, and then no line of it is bad.
use Rattle.std.proofs.Common.{◌≡◌, ℕ, List}
use Rattle.cqs_lines.specs.Headed.{IsHeaded}
use Rattle.cqs_lines.proofs.Unique.{headed-unique, headed-good}
use Rattle.cqs_replay.specs.EntryLines.{entry_says, IsEntry}
use Rattle.cqs_replay.specs.EntryLaws.{entry_is_line}
use Rattle.cqs_replay.specs.Runs.{permits_say}
use Rattle.cqs_replay.proofs.Unique.{entry-one}
use Rattle.cqs_check.specs.declared.texts.History.{History}
use Rattle.cqs_check.specs.Histories.{IsHistory, IsPermits, IsFirstBadLine, IsSame, history_text}
use Rattle.cqs_check.specs.PermitsLaws.{permits_are_a_line}

-- a history and its text, as a head and items
headed-history : (h : History) (text : List ℕ) → IsHistory h → text ≡ history_text h
    → IsHeaded permits_say IsPermits entry_says IsEntry h.permits h.entries.items text
headed-history h text is same = record { head_fit = is.permits; fit = is.entries; text_is = same }

pub one_history : (g h : History) (text : List ℕ) → IsHistory g → text ≡ history_text g → IsHistory h
    → text ≡ history_text h → IsSame g h
one_history g h text first is second also =
    let parts = headed-unique entry_says IsEntry entry_is_line entry-one permits_say IsPermits permits_are_a_line
    g.permits h.permits g.entries.items h.entries.items text (headed-history g text first is)
    (headed-history h text second also) in
    record { permits = cc parts.0; entries = parts.1 }

pub none_bad : (h : History) (text : List ℕ) (n : ℕ) → IsHistory h → text ≡ history_text h
    → IsFirstBadLine text n → ⊥
none_bad h text n is same =
    headed-good entry_says IsEntry entry_is_line entry-one permits_say IsPermits permits_are_a_line h.permits
    h.entries.items text n (headed-history h text is same)
