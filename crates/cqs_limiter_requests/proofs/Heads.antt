-- The first line of a text of requests.
use Rattle.std.proofs.Common.{◌≡◌, ◌≢◌, inr, ℕ, zero, suc, ◌+◌, ◌<◌, ◌≤◌, List, [], ◌∷◌, ◌++◌, length, All, codes, refl, sym, ap, ◌∙◌, arith, drop, get_or, append_assoc, length-append, Option, Some, None, Result, Ok, Err, IfOk, MatchOption}
use Rattle.std.proofs.Math.Seq.{drop-cons}
use Rattle.cqs_lines.specs.Said.{Lacks, IsCut, Said, said, said_text, line_text, tail_text, AreFit, IsSaid, IsLine}
use Rattle.cqs_lines.specs.Forms.{lines_text, AreItems, IsFirstBad}
use Rattle.cqs_lines.proofs.Verbs.{lacks-true}
use Rattle.cqs_lines.proofs.Texts.{said-unique}
use Rattle.cqs_lines.proofs.Reading.{endless, first-line, line-said, lines-many}
use Rattle.cqs_limiter_requests.specs.declared.asks.Line.{Line}
use Rattle.cqs_limiter_requests.specs.Lines.{permits_say, ArePermits, IsPermits, line_says, IsLineFor}
use Rattle.cqs_limiter_requests.specs.Requests.{IsHeadless, IsFirstBadLine}

permits-fit : (ps : List ℕ) → All IsPermits ps → AreFit ps
permits-fit [] all = tt
permits-fit (p ∷ ps) all =
    let first : IsPermits p = all 0 0 (omega arith) in (
      omega (arith, first.1),
      permits-fit ps (λ k d low. all (suc k) d (omega (arith, low))),
    )

-- one number in its range
pub one-permit : (p : ℕ) → 0 < p → p ≤ 1048576 → All IsPermits (p ∷ [])
one-permit p some most zero d low = (some, most)
one-permit p some most (suc k) d low = absurd (omega (arith, low))

pub permits-line : (ps : List ℕ) → ArePermits ps → IsLine (permits_say ps)
permits-line ps are = record {
  spaceless = lacks-true 32 (codes "tenants") refl;
  whole = lacks-true 10 (codes "tenants") refl;
  fit = permits-fit ps are.each;
  some = are.some;
}

-- a text that has no line feed, or whose first line says no permits, has no head
pub no-feed : (text : List ℕ) → Lacks 10 text → IsHeadless text
no-feed text lacks ps more are = endless text more (permits_say ps) (permits-line ps are) lacks

pub no-head : (text line after : List ℕ) → IsCut 10 text line after
    → ((ps : List ℕ) → ArePermits ps → line ≢ said_text (permits_say ps)) → IsHeadless text
no-head text line after cut none ps more are same =
    none ps are (first-line text line after more (permits_say ps) (permits-line ps are) cut same).0

-- a line that was heard says permits where its words do
pub heard-none : (line verb ns : List ℕ) → IsSaid line (said verb ns)
    → ((ps : List ℕ) → ArePermits ps → permits_say ps ≢ said verb ns)
    → (ps : List ℕ) → ArePermits ps → line ≢ said_text (permits_say ps)
heard-none line verb ns is none ps are same =
    none ps are (said-unique line (permits_say ps) (said verb ns)
    (line-said line (permits_say ps) (permits-line ps are) same) is)

pub unsaid : (line : List ℕ) → ((s : Said) → ¬ IsSaid line s)
    → (ps : List ℕ) → ArePermits ps → line ≢ said_text (permits_say ps)
unsaid line none ps are same = none (permits_say ps) (line-said line (permits_say ps) (permits-line ps are) same)

-- a first line is long
pub head-long : (text line after ps : List ℕ) → IsCut 10 text line after → line ≡ said_text (permits_say ps)
    → length after + 2 ≤ length text
head-long text line after ps cut is =
    let whole : length text ≡ length (line ++ 10 ∷ after) = ap length cut.joined in
    let parts = length-append line (10 ∷ after) in
    let front : length line ≡ length (codes "tenants" ++ tail_text ps) = ap length is in
    let seven = length-append (codes "tenants") (tail_text ps) in
    let verb : length (codes "tenants") ≡ 7 = refl in
    omega (arith, whole, parts, front, seven, verb)

pub head-text : (text line after ps : List ℕ) → IsCut 10 text line after → line ≡ said_text (permits_say ps)
    → text ≡ line_text (permits_say ps) after
head-text text line after ps cut is = cut.joined ∙ ap (λ l. l ++ 10 ∷ after) is

-- one number more was taken over
pub moves-on : (before numbers : List ℕ) (i d : ℕ) → i < length numbers → before ++ drop i numbers ≡ numbers
    → (before ++ get_or numbers i d ∷ []) ++ drop (i + 1) numbers ≡ numbers
moves-on before numbers i d low so_far =
    let up : suc i ≡ i + 1 = omega arith in
    append_assoc before (get_or numbers i d ∷ []) (drop (i + 1) numbers)
    ∙ ap (λ l. before ++ l) (sym (drop-cons numbers i d low ∙ ap (λ n. get_or numbers i d ∷ drop n numbers) up))
    ∙ so_far

-- the requests of a text that was read
pub lines-few : (tenants : ℕ) (lines : List Line) (text rest line ps : List ℕ) → IsCut 10 text line rest
    → line ≡ said_text (permits_say ps) → AreItems line_says (IsLineFor tenants) lines rest
    → length text ≤ 1048576 → length lines ≤ 1048575
lines-few tenants lines text rest line ps cut is are few =
    let many = lines-many line_says (IsLineFor tenants) lines [] in
    let same : length rest ≡ length (lines_text line_says lines []) = ap length are.text_is in
    let longer = head-long text line rest ps cut is in
    omega (arith, many, same, longer, few)

pub bad-line : (text rest line ps : List ℕ) (n : ℕ) → IsCut 10 text line rest → ArePermits ps
    → line ≡ said_text (permits_say ps) → IsFirstBad line_says (IsLineFor (length ps)) rest 2 n
    → IsFirstBadLine text n
bad-line text rest line ps n cut are is bad = inr (record {
  permits = ps;
  rest = rest;
  fit = are;
  text_is = head-text text line rest ps cut is;
  bad = bad;
})

pub read-text : (tenants : ℕ) (lines : List Line) (text rest line ps : List ℕ) → IsCut 10 text line rest
    → line ≡ said_text (permits_say ps) → AreItems line_says (IsLineFor tenants) lines rest
    → text ≡ line_text (permits_say ps) (lines_text line_says lines [])
read-text tenants lines text rest line ps cut is are =
    head-text text line rest ps cut is ∙ ap (line_text (permits_say ps)) are.text_is

-- a line says permits where its words do
pub heard-permits : {X E : Type 0} (items : X → List ℕ) (line verb ns : List ℕ) (r : Result (Option X) E)
    → IsSaid line (said verb ns)
    → IfOk r (λ found. MatchOption found
    ((ps : List ℕ) → ArePermits ps → permits_say ps ≢ said verb ns)
    (λ ps. ArePermits (items ps) × (permits_say (items ps) ≡ said verb ns)))
    → IfOk r (λ found. MatchOption found
    ((ps : List ℕ) → ArePermits ps → line ≢ said_text (permits_say ps))
    (λ ps. ArePermits (items ps) × (line ≡ said_text (permits_say (items ps)))))
heard-permits items line verb ns (Ok None) is h = heard-none line verb ns is h
heard-permits items line verb ns (Ok (Some ps)) is h = (h.0, is.text ∙ ap said_text (sym h.1))
heard-permits items line verb ns (Err e) is h = tt
