-- Tenants are apart.
use Rattle.std.proofs.Common.{◌≡◌, ◌==◌, inl, inr, ℕ, Bool, true, false, List, [], ◌∷◌, refl, sym, ap, ap₂, ◌∙◌, filter, if◌then◌else◌}
use Rattle.std.proofs.lemmas.Bool.{cases_Bool, eqb-true}
use Rattle.cqs_limiter_requests.specs.declared.asks.Line.{Line}
use Rattle.cqs_limiter_requests.specs.declared.asks.LimitOutcome.{LimitOutcome}
use Rattle.cqs_limiter_requests.specs.declared.requests.Requests.{Requests}
use Rattle.cqs_limiter_requests.specs.Replies.{Tenancy, after_line, after_ask, answer_of, outcome_of, outcomes}
use Rattle.cqs_limiter_workers.specs.Sights.{own}
use Rattle.cqs_limiter.specs.Limits.{all_opened}
use Rattle.cqs_cli_limits.specs.Replies.{replies_of, AreApart}

-- the reply to a line goes by its own tenant
same-outcome : (all other : ℕ → Tenancy) (line : Line) (t : ℕ) → t ≡ line.tenant → all t ≡ other t
    → outcome_of all line ≡ outcome_of other line
same-outcome all other line t is same =
    let here : all line.tenant ≡ other line.tenant = rw is at same in
    ap (λ tenancy. record {
      tenant = line.tenant;
      client = line.client;
      ask = line.ask;
      answer = answer_of tenancy line;
    }) here

-- and so does how the tenant stands after it
same-after : (all other : ℕ → Tenancy) (line : Line) (t : ℕ) → all t ≡ other t
    → after_ask all line t ≡ after_ask other line t
same-after all other line t same =
    ap (λ tenancy. if t == line.tenant then after_line tenancy line else tenancy) same

-- another tenant's line leaves it as it is
untouched : (all : ℕ → Tenancy) (line : Line) (t : ℕ) → (t == line.tenant) ≡ false → after_ask all line t ≡ all t
untouched all line t far = ap (λ b. if b then after_line (all t) line else all t) far

apart-lines : (t : ℕ) (lines : List Line) (all other : ℕ → Tenancy) → all t ≡ other t
    → replies_of t (outcomes all lines) ≡ outcomes other (own t lines)
apart-lines t [] all other same = refl
apart-lines t (line ∷ lines) all other same = elim (cases_Bool (t == line.tenant)) [
  | inl here ↦ rw here (ap₂ (λ o os. o ∷ os) (same-outcome all other line t (eqb-true t line.tenant here) same)
      (apart-lines t lines (after_ask all line) (after_ask other line) (same-after all other line t same)))
  | inr far ↦ rw far (apart-lines t lines (after_ask all line) other (untouched all line t far ∙ same))
]

pub are-apart : (r : Requests) → AreApart r
are-apart r tenant = apart-lines tenant r.asks.items (all_opened r) (all_opened r) refl
