-- A text with a head is read.
use Rattle.std.proofs.Common.{◌≡◌, ◌≢◌, ◌⊎◌, inl, inr, ℕ, ◌+◌, ◌<◌, ◌≤◌, ◌^◌, List, [], ◌∷◌, ◌++◌, length, refl, sym, ap, ◌∙◌, arith, length-append, Result, Ok, Err}
use Rattle.cqs_lines.specs.declared.forms.LineError.{LineError}
use Rattle.cqs_lines.specs.declared.forms.LineError.TheVariants.{Bad}
use Rattle.cqs_lines.specs.Said.{Said, said_text, line_text, tail_text, IsLine}
use Rattle.cqs_lines.specs.Forms.{lines_text, AllFit, AreItems, IsFirstBad}
use Rattle.cqs_lines.specs.Headed.{IsHeaded, IsHeadless, IsBadBehind, IsFirstBadHeaded}
use Rattle.cqs_lines.proofs.Reading.{line-longer, lines-many}

-- a line has a space and a line feed at least
pub line-long : (s : Said) (text more : List ℕ) → IsLine s → text ≡ line_text s more → length more + 2 ≤ length text
line-long s text more is same = go s.numbers is.some same
  where
    go : (ns : List ℕ) → 0 < length ns → text ≡ (s.verb ++ tail_text ns) ++ 10 ∷ more → length more + 2 ≤ length text
    go [] some t = absurd (omega (arith, some))
    go (n ∷ ns) some t =
        let whole : length text ≡ length ((s.verb ++ tail_text (n ∷ ns)) ++ 10 ∷ more) = ap length t in
        let behind = length-append (s.verb ++ tail_text (n ∷ ns)) (10 ∷ more) in
        let before = length-append s.verb (tail_text (n ∷ ns)) in
        omega (arith, whole, behind, before)

module _ {H X : Type 0} (head_says : H → Said) (head_fits : H → Type 0) (says : X → Said) (fits : X → Type 0) where
  pub headed : (head : H) (rest text : List ℕ) (items : List X) → head_fits head
      → text ≡ line_text (head_says head) rest
      → AreItems says fits items rest → IsHeaded head_says head_fits says fits head items text
  headed head rest text items fit same are = record {
    head_fit = fit;
    fit = are.fit;
    text_is = same ∙ ap (line_text (head_says head)) are.text_is;
  }

  pub behind : (head : H) (rest text : List ℕ) (n : ℕ) → head_fits head → text ≡ line_text (head_says head) rest
      → IsFirstBad says fits rest 2 n → IsFirstBadHeaded head_says head_fits says fits text n
  behind head rest text n fit same bad = inr (record {
    head = head;
    rest = rest;
    head_fit = fit;
    text_is = same;
    bad = bad;
  })

  -- a text has no more items than bytes
  pub headed-many : (head : H) (items : List X) (text : List ℕ)
      → IsHeaded head_says head_fits says fits head items text → length items ≤ length text
  headed-many head items text is =
      let longer = line-longer (head_says head) text (lines_text says items []) is.text_is in
      omega (arith, longer, lines-many says fits items [])
