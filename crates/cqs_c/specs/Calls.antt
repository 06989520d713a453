-- What a call by the numbers of the header is, and what its answer means.
use Rattle.std.specs.Prelude.{◌≡◌, ℕ, ◌<◌, ◌≤◌, ◌^◌, ◌==◌, if◌then◌else◌, Option, Some, None}
use Rattle.cqs_c_callers.specs.declared.answers.Answer.{Answer}
use Rattle.cqs_c_callers.specs.declared.answers.Answer.TheVariants as answer
use Rattle.cqs_c_numbers.specs.declared.numbered.Numbered.{Numbered}
use Rattle.cqs_c_callers.specs.declared.verb.Verb.TheVariants as verb
use Rattle.cqs_c_numbers.specs.Answered.{IsAnswered}
use Rattle.cqs_c_numbers.specs.Seats.{IsSplit, IsMet}
use Rattle.cqs_c.specs.declared.answers.CqsAnswer.{CqsAnswer}
use Rattle.cqs_c.specs.declared.calls.Deed.{Deed}
use Rattle.cqs_c.specs.declared.calls.Deed.TheVariants.{With, Split, Meet}
use Rattle.cqs_c.specs.Told.{told}

-- what the call of this number is
abbrev pub deed_at : ℕ → Option Deed
deed_at n =
    if n == 0 then Some (With verb.Enter)
    else if n == 1 then Some (With verb.Try)
    else if n == 2 then Some (With verb.Poll)
    else if n == 3 then Some (With verb.Cancel)
    else if n == 4 then Some (With verb.Leave)
    else if n == 5 then Some (With verb.Finish)
    else if n == 6 then Some (With verb.State)
    else if n == 7 then Some (With verb.Sole)
    else if n == 8 then Some Split
    else if n == 9 then Some Meet
    else None

-- The call by number answered this, or there is no such call. So many parties no pass holds, and so
-- high a number no pass has, which don't fit into 32 bits.
abbrev pub IsMade : Option Deed → Numbered → ℕ → ℕ → Answer → Type 0
IsMade None of pass n a = a ≡ answer.NoCall
IsMade (Some (With v)) of pass n a = IsAnswered of pass v n a
IsMade (Some Split) of pass n a =
    (n < 2 ^ 32 → IsSplit of pass n a) × (2 ^ 32 ≤ n → a ≡ answer.NoParty)
IsMade (Some Meet) of pass n a =
    (n < 2 ^ 32 → IsMet of pass n a) × (2 ^ 32 ≤ n → a ≡ answer.NoPass)

-- the answer of the call goes to C
pub record IsCalled (of : Numbered) (what pass n : ℕ) (r : CqsAnswer) : Type 0 where
  pub answer : Answer
  pub made : IsMade (deed_at what) of pass n answer
  pub goes : r ≡ told answer
