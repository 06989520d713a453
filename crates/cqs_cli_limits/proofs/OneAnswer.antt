-- No input has two answers: no line of requests is bad.
use Rattle.std.proofs.Common.{◌≡◌, inl, inr, ℕ, List, [], ◌∷◌, length, codes, refl, sym, ap, ◌∙◌, subst, Option, Some, None, if◌then◌else◌}
use Rattle.std.specs.Str.{bytes_eq}
use Rattle.cqs_lines.specs.Said.{Said, said, said_text, line_text, IsLine}
use Rattle.cqs_lines.specs.Forms.{lines_text, IsFirstBad}
use Rattle.cqs_lines.specs.Headed.{IsBadBehind}
use Rattle.cqs_lines.proofs.Reading.{line-said, line-whole}
use Rattle.cqs_lines.proofs.Texts.{cut-unique, said-unique}
use Rattle.cqs_lines.proofs.Unique.{headed-good}
use Rattle.cqs_limiter_requests.specs.declared.asks.Ask.{Ask}
use Rattle.cqs_limiter_requests.specs.declared.asks.Ask.TheVariants.{Enter, Look, Quit, Leave}
use Rattle.cqs_limiter_requests.specs.declared.asks.Line.{Line}
use Rattle.cqs_limiter_requests.specs.declared.requests.Requests.{Requests}
use Rattle.cqs_limiter_requests.specs.LineLaws.{request_is_line}
use Rattle.cqs_limiter_requests.specs.Lines.{ask_verb, line_says, ArePermits, IsLineFor, permits_say}
use Rattle.cqs_limiter_requests.specs.Requests.{IsBadRequest, IsFirstBadLine}
use Rattle.cqs_limiter_requests.proofs.Heads.{permits-line}
use Rattle.cqs_cli_limits.specs.Replies.{AreSomeRequests, IsBadText, SaysRequests}

-- what a verb asks for
verb-ask : List ℕ → Ask
verb-ask verb =
    if bytes_eq verb (codes "enter") then Enter
    else if bytes_eq verb (codes "look") then Look
    else if bytes_eq verb (codes "quit") then Quit
    else Leave

ask-verb : (a : Ask) → verb-ask (ask_verb a) ≡ a
unfolding verb-ask
ask-verb Enter = refl
ask-verb Look = refl
ask-verb Quit = refl
ask-verb Leave = refl

line-with : ℕ → ℕ → Ask → Line
line-with tenant client a = record { tenant = tenant; client = client; ask = a }

-- a line is said by no other
line-one : (x y : Line) → line_says x ≡ line_says y → x ≡ y
unfolding line-with
line-one x y same =
    let verbs : ask_verb x.ask ≡ ask_verb y.ask = ap (λ s. s.verb) same in
    let numbers : x.tenant ∷ x.client ∷ [] ≡ y.tenant ∷ y.client ∷ [] = ap (λ s. s.numbers) same in
    let tenant : x.tenant ≡ y.tenant = cc numbers in
    let client : x.client ≡ y.client = cc numbers in
    let ask : x.ask ≡ y.ask = sym (ask-verb x.ask) ∙ ap verb-ask verbs ∙ ask-verb y.ask in
    ap (λ t. line-with t x.client x.ask) tenant ∙ ap (λ j. line-with y.tenant j x.ask) client
    ∙ ap (line-with y.tenant y.client) ask

-- what two first lines of a text say is the same, and so is what stands behind them
one-head : (ps qs rest more : List ℕ) → ArePermits ps → ArePermits qs
    → line_text (permits_say ps) rest ≡ line_text (permits_say qs) more → ps ≡ qs
one-head ps qs rest more first second same =
    let line = permits-line ps first in
    let other = permits-line qs second in
    let texts =
    cut-unique 10 (said_text (permits_say ps)) rest (said_text (permits_say qs)) more
    (line-whole (permits_say ps) line) (line-whole (permits_say qs) other) same in
    let says : permits_say ps ≡ permits_say qs =
    said-unique (said_text (permits_say ps)) (permits_say ps) (permits_say qs)
    (line-said (said_text (permits_say ps)) (permits_say ps) line refl)
    (line-said (said_text (permits_say ps)) (permits_say qs) other texts.0) in
    ap (λ s. s.numbers) says

-- a bad line behind a first line that fits is one behind the first line that there is
behind-head : (bytes : List ℕ) (r : Requests) (n : ℕ) → SaysRequests bytes r → IsBadRequest bytes n
    → IsBadBehind permits_say ArePermits line_says (IsLineFor (length r.permits.items)) bytes n
behind-head bytes r n says bad =
    let same = one-head bad.permits r.permits.items bad.rest (lines_text line_says r.asks.items []) bad.fit
    says.fits.permits (sym bad.text_is ∙ says.written) in
    record {
      head = bad.permits;
      rest = bad.rest;
      head_fit = bad.fit;
      text_is = bad.text_is;
      bad = subst (λ ps. IsFirstBad line_says (IsLineFor (length ps)) bad.rest 2 n) same bad.bad;
    }

none-bad : (bytes : List ℕ) (r : Requests) (n : ℕ) → SaysRequests bytes r → IsFirstBadLine bytes n → ⊥
none-bad bytes r n says first =
    headed-good line_says (IsLineFor (length r.permits.items)) (request_is_line (length r.permits.items)) line-one
    permits_say ArePermits permits-line r.permits.items r.asks.items bytes n
    (record { head_fit = says.fits.permits; fit = says.fits.lines; text_is = says.written })
    (elim first [ inl head ↦ inl head | inr bad ↦ inr (behind-head bytes r n says bad) ])

-- requests aren't answered by the line that breaks the form
pub requests-have-no-fault : (bytes line : List ℕ) → AreSomeRequests bytes → IsBadText bytes line → ⊥
requests-have-no-fault bytes line (r, says) bad = none-bad bytes r bad.number says bad.first
