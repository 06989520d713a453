-- What workers left of requests that were read.
use Rattle.std.proofs.Common.{◌≡◌, ℕ, Bool, List, ap, ◌∙◌}
use Rattle.cqs_limiter.specs.declared.limits.Limited.{Limited}
use Rattle.cqs_limiter.specs.Limits.{HasLimited}
use Rattle.cqs_limiter_requests.specs.declared.requests.Requests.{Requests}
use Rattle.cqs_limiter_requests.specs.Requests.{AreRequests, requests_text}
use Rattle.cqs_limiter_requests.specs.Told.{outcomes_text}
use Rattle.cqs_cli_limits.specs.declared.judging.TheConstants.{WORKERS}
use Rattle.cqs_cli_limits.specs.Replies.{AreReplies}
use Rattle.cqs_cli_limits.proofs.Apart.{are-apart}

pub are-replies : (told : ℕ → ℕ → Bool) (bytes : List ℕ) (r : Requests) (limited : Limited)
    → AreRequests r × (bytes ≡ requests_text r) → HasLimited r told WORKERS limited → AreReplies told bytes limited
are-replies told bytes r limited read left = record {
  requests = r;
  says = record { fits = read.0; written = read.1 };
  left = left;
  one_thread = left.text ∙ ap outcomes_text left.values;
  apart = are-apart r;
}
