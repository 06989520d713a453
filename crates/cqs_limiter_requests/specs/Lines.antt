-- What the lines of a request text say.
use Rattle.std.specs.Prelude.{◌≡◌, ◌≢◌, ℕ, ◌<◌, ◌≤◌, ◌^◌, List, [], ◌∷◌, length, Option, Some, None, All, codes}
use Rattle.cqs_lines.specs.Said.{Said, said}
use Rattle.cqs_limiter_requests.specs.declared.asks.Ask.{Ask}
use Rattle.cqs_limiter_requests.specs.declared.asks.Ask.TheVariants.{Enter, Look, Quit, Leave}
use Rattle.cqs_limiter_requests.specs.declared.asks.Line.{Line}

abbrev pub ask_verb : Ask → List ℕ
ask_verb Enter = codes "enter"
ask_verb Look = codes "look"
ask_verb Quit = codes "quit"
ask_verb Leave = codes "leave"

abbrev pub line_says : Line → Said
line_says line = said (ask_verb line.ask) (line.tenant ∷ line.client ∷ [])

-- its tenant is one of so many, and both are numbers of 32 bits
pub record IsLineFor (tenants : ℕ) (line : Line) : Type 0 where
  pub tenant : line.tenant < tenants
  pub place : line.tenant < 2 ^ 32
  pub client : line.client < 2 ^ 32

-- the words are those of this line, or of none
abbrev pub IsLineOf : ℕ → List ℕ → List ℕ → Option Line → Type 0
IsLineOf tenants verb numbers (Some line) =
    IsLineFor tenants line × (line_says line ≡ said verb numbers)
IsLineOf tenants verb numbers None =
    (line : Line) → IsLineFor tenants line → line_says line ≢ said verb numbers

-- the first line says how many permits each tenant has
abbrev pub permits_say : List ℕ → Said
permits_say permits = said (codes "tenants") permits

abbrev pub IsPermits : ℕ → Type 0
IsPermits p = (0 < p) × (p ≤ 1048576)

-- 1 to 64 tenants, each with 1 to 1,048,576 permits
pub record ArePermits (permits : List ℕ) : Type 0 where
  pub some : 0 < length permits
  pub most : length permits ≤ 64
  pub each : All IsPermits permits
