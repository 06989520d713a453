-- What is written for an input of requests.
use Rattle.std.specs.Prelude.{◌≡◌, ℕ, ◌==◌, Bool, List, ◌++◌, codes}
use Rattle.std.specs.Fmt.{decimal}
use Rattle.std.specs.List.{filter}
use Rattle.cqs_limiter.specs.declared.limits.Limited.{Limited}
use Rattle.cqs_limiter.specs.Limits.{all_opened, HasLimited}
use Rattle.cqs_limiter_requests.specs.declared.asks.LimitOutcome.{LimitOutcome}
use Rattle.cqs_limiter_requests.specs.declared.requests.Requests.{Requests}
use Rattle.cqs_limiter_requests.specs.Replies.{outcomes}
use Rattle.cqs_limiter_requests.specs.Requests.{AreRequests, IsFirstBadLine, requests_text}
use Rattle.cqs_limiter_requests.specs.Told.{outcomes_text}
use Rattle.cqs_limiter_workers.specs.Sights.{own}
use Rattle.cqs_cli_limits.specs.declared.judging.TheConstants.{WORKERS}

-- the bytes are these requests
pub record SaysRequests (bytes : List ℕ) (r : Requests) : Type 0 where
  pub fits : AreRequests r
  pub written : bytes ≡ requests_text r

-- the bytes are some requests
abbrev pub AreSomeRequests : List ℕ → Type 0
AreSomeRequests bytes = (r : Requests) × SaysRequests bytes r

-- each line with its reply, where one thread asks line after line
abbrev pub outcomes_alone : Requests → List LimitOutcome
outcomes_alone r = outcomes (all_opened r) r.asks.items

-- the replies to one tenant among those to all
abbrev pub replies_of : ℕ → List LimitOutcome → List LimitOutcome
replies_of tenant all = filter (λ outcome. tenant == outcome.tenant) all

-- Tenants are apart: the replies to each are those that its lines alone have behind the same first
-- line.
abbrev pub AreApart : Requests → Type 0
AreApart r = (tenant : ℕ)
    → replies_of tenant (outcomes_alone r)
    ≡ outcomes (all_opened r) (own tenant r.asks.items)

-- The bytes are requests, and this is what workers left of them: tenants with semaphores of their
-- own, one list of outcomes, and a text that is read off the list. Whatever the workers did beside
-- each other, the text is that of one thread.
pub record AreReplies (told : ℕ → ℕ → Bool) (bytes : List ℕ) (limited : Limited) : Type 0 where
  pub requests : Requests
  pub says : SaysRequests bytes requests
  pub left : HasLimited requests told WORKERS limited
  pub one_thread : limited.text.items ≡ outcomes_text (outcomes_alone requests)
  pub apart : AreApart requests

-- the line that says where an input is wrong
abbrev pub bad_line : ℕ → List ℕ
bad_line number = codes "bad requests: line " ++ decimal number ++ codes "\n"

-- the bytes are no requests, and the line names the first line of them that breaks the form
pub record IsBadText (bytes line : List ℕ) : Type 0 where
  pub number : ℕ
  pub first : IsFirstBadLine bytes number
  pub made : line ≡ bad_line number
