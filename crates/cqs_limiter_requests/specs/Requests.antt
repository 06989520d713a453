-- Which texts are requests: a first line that says the permits of each tenant, and then a line for
-- each request.
use Rattle.std.specs.Prelude.{◌≡◌, ◌≢◌, ◌⊎◌, ℕ, ◌≤◌, List, [], length}
use Rattle.cqs_lines.specs.Said.{line_text}
use Rattle.cqs_lines.specs.Forms.{lines_text, AllFit, IsFirstBad}
use Rattle.cqs_limiter_requests.specs.declared.asks.Line.{Line}
use Rattle.cqs_limiter_requests.specs.declared.requests.Requests.{Requests}
use Rattle.cqs_limiter_requests.specs.Lines.{line_says, IsLineFor, permits_say, ArePermits}

abbrev pub AreLines : ℕ → List Line → Type 0
AreLines tenants lines = AllFit line_says (IsLineFor tenants) lines

-- the numbers of the requests are in their ranges
pub record AreRequests (r : Requests) : Type 0 where
  pub permits : ArePermits r.permits.items
  pub lines : AreLines (length r.permits.items) r.asks.items

abbrev pub requests_text : Requests → List ℕ
requests_text r = line_text (permits_say r.permits.items) (lines_text line_says r.asks.items [])

-- and there are few enough of them
pub record IsValid (r : Requests) : Type 0 where
  pub are : AreRequests r
  pub few : length r.asks.items ≤ 1048575

-- the text begins with no permits
abbrev pub IsHeadless : List ℕ → Type 0
IsHeadless text = (permits more : List ℕ) → ArePermits permits
    → text ≢ line_text (permits_say permits) more

-- behind a first line that fits, line n is the first that is no request
pub record IsBadRequest (text : List ℕ) (n : ℕ) : Type 0 where
  pub permits : List ℕ
  pub rest : List ℕ
  pub fit : ArePermits permits
  pub text_is : text ≡ line_text (permits_say permits) rest
  pub bad : IsFirstBad line_says (IsLineFor (length permits)) rest 2 n

-- line n is the first that breaks the form of requests
abbrev pub IsFirstBadLine : List ℕ → ℕ → Type 0
IsFirstBadLine text n = ((n ≡ 1) × IsHeadless text) ⊎ IsBadRequest text n
