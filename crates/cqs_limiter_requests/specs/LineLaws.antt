-- What a request says is a line.
use Rattle.std.specs.Prelude.{ℕ, ◌<◌, ◌^◌, [], ◌∷◌, codes, refl}
use Rattle.std.proofs.Math.Nat.{lt_trans}
use Rattle.std.proofs.lemmas.Bool.{ltb-true}
use Rattle.cqs_lines.specs.Said.{IsLine, said}
use Rattle.cqs_lines.proofs.Verbs.{line-two}
use Rattle.cqs_limiter_requests.specs.declared.asks.Ask.{Ask}
use Rattle.cqs_limiter_requests.specs.declared.asks.Ask.TheVariants.{Enter, Look, Quit, Leave}
use Rattle.cqs_limiter_requests.specs.declared.asks.Line.{Line}
use Rattle.cqs_limiter_requests.specs.Lines.{ask_verb, line_says, IsLineFor}

pub request_is_line : (tenants : ℕ) (line : Line) → IsLineFor tenants line → IsLine (line_says line)
request_is_line tenants line fit = by_verb line.ask
  where
    small : line.client < 2 ^ 40
    small = lt_trans fit.client (ltb-true (2 ^ 32) (2 ^ 40) refl)

    by_verb : (a : Ask) → IsLine (said (ask_verb a) (line.tenant ∷ line.client ∷ []))
    by_verb Enter = line-two (codes "enter") line.tenant line.client refl refl fit.place small
    by_verb Look = line-two (codes "look") line.tenant line.client refl refl fit.place small
    by_verb Quit = line-two (codes "quit") line.tenant line.client refl refl fit.place small
    by_verb Leave = line-two (codes "leave") line.tenant line.client refl refl fit.place small
