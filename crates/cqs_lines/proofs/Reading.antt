-- A text is read line by line.
use Rattle.std.proofs.Common.{◌≡◌, ◌≢◌, ◌⊎◌, inl, inr, ℕ, zero, suc, ◌+◌, ◌<◌, ◌≤◌, ◌^◌, List, [], ◌∷◌, ◌++◌, length, Option, Some, None, refl, sym, ap, ap₂, ◌∙◌, subst, arith, decimal, append_assoc, append-nil, length-append, MatchOption}
use Rattle.cqs_lines.specs.Said.{Lacks, IsCut, Said, said_text, line_text, tail_text, AreFit, IsSaid, IsLine, said}
use Rattle.cqs_lines.specs.Forms.{lines_text, AllFit, AreItems, IsFirstBad}
use Rattle.cqs_lines.proofs.Texts.{lacks-append, lacks-not, cut-unique, decimal-lacks, said-unique}

tail-whole : (ns : List ℕ) → AreFit ns → Lacks 10 (tail_text ns)
tail-whole [] fit = tt
tail-whole (n ∷ ns) fit = (
  (λ e. omega (arith, e)),
  lacks-append 10 (decimal n) (tail_text ns)
      (decimal-lacks 10 n (omega arith) fit.0) (tail-whole ns fit.1),
)

pub line-whole : (s : Said) → IsLine s → Lacks 10 (said_text s)
line-whole s line = lacks-append 10 s.verb (tail_text s.numbers) line.whole (tail-whole s.numbers line.fit)

-- a line that is what an item says, says it
pub line-said : (line : List ℕ) (s : Said) → IsLine s → line ≡ said_text s → IsSaid line s
line-said line s is same = record { text = same; verb = is.spaceless; fit = is.fit; some = is.some }

-- where a text has no line feed, its first line is none
pub endless : (text more : List ℕ) (s : Said) → IsLine s → Lacks 10 text → text ≢ line_text s more
endless text more s is lacks same = lacks-not 10 (said_text s) more (subst (λ t. Lacks 10 t) same lacks)

-- the first line of a text ends at its first line feed
pub first-line : (text line after more : List ℕ) (s : Said) → IsLine s → IsCut 10 text line after
    → text ≡ line_text s more → (line ≡ said_text s) × (after ≡ more)
first-line text line after more s is cut same =
    cut-unique 10 line after (said_text s) more cut.first (line-whole s is) (sym cut.joined ∙ same)

-- behind a line there is less
pub line-longer : (s : Said) (text more : List ℕ) → text ≡ line_text s more → length more + 1 ≤ length text
line-longer s text more same =
    let long = length-append (said_text s) (10 ∷ more) in
    let is : length text ≡ length (said_text s ++ 10 ∷ more) = ap length same in
    omega (arith, long, is)

module _ {X : Type 0} (says : X → Said) (fits : X → Type 0) where
  pub lines-append : (xs : List X) (x : X) (more : List ℕ)
      → lines_text says xs (line_text (says x) more) ≡ lines_text says (xs ++ x ∷ []) more
  lines-append [] x more = refl
  lines-append (y ∷ ys) x more = ap (line_text (says y)) (lines-append ys x more)

  pub fit-push : (xs : List X) (x : X) → AllFit says fits xs → fits x → AllFit says fits (xs ++ x ∷ [])
  fit-push [] x all here = (here, tt)
  fit-push (y ∷ ys) x all here = (all.0, fit-push ys x all.1 here)

  -- a text has no more lines than bytes
  pub lines-many : (xs : List X) (more : List ℕ) → length xs ≤ length (lines_text says xs more)
  lines-many [] more = omega arith
  lines-many (x ∷ xs) more =
      let rest = lines_text says xs more in
      let longer = line-longer (says x) (line_text (says x) rest) rest refl in
      omega (arith, longer, lines-many xs more)

  -- on the way through a text
  pub record IsThrough (text : List ℕ) (items : List X) (rest : List ℕ) : Type 0 where
    pub fit : AllFit says fits items
    pub text_is : text ≡ lines_text says items rest

  pub through-next : (text rest after : List ℕ) (items : List X) (x : X) → IsThrough text items rest → fits x
      → rest ≡ line_text (says x) after → IsThrough text (items ++ x ∷ []) after
  through-next text rest after items x way here same = record {
    fit = fit-push items x way.fit here;
    text_is = way.text_is ∙ ap (lines_text says items) same ∙ lines-append items x after;
  }

  -- the item that a line says is the item of what was heard
  pub heard-item : (line verb ns : List ℕ) (r : Option X) → ((i : X) → fits i → IsLine (says i))
      → IsSaid line (said verb ns)
      → MatchOption r ((i : X) → fits i → says i ≢ said verb ns) (λ i. fits i × (says i ≡ said verb ns))
      → MatchOption r ((i : X) → fits i → line ≢ said_text (says i)) (λ i. fits i × (line ≡ said_text (says i)))
  heard-item line verb ns None clean is h = λ i fit same.
      h i fit (said-unique line (says i) (said verb ns) (line-said line (says i) (clean i fit) same) is)
  heard-item line verb ns (Some i) clean is h = (h.0, is.text ∙ ap said_text (sym h.1))

  -- nothing is left
  pub through-ends : (text rest : List ℕ) (items : List X) → IsThrough text items rest → length rest ≡ 0
      → AreItems says fits items text
  through-ends text [] items way none = record { fit = way.fit; text_is = way.text_is }
  through-ends text (b ∷ rest) items way none = absurd (omega (arith, none))

  -- and where a line is wrong
  pub through-bad : (text rest : List ℕ) (items : List X) (first n : ℕ) → IsThrough text items rest
      → n ≡ first + length items → 0 < length rest
      → ((i : X) (more : List ℕ) → fits i → rest ≢ line_text (says i) more) → IsFirstBad says fits text first n
  through-bad text rest items first n way number some bad = record {
    items = items;
    left = rest;
    fit = way.fit;
    text_is = way.text_is;
    number = number;
    some = some;
    bad = bad;
  }
