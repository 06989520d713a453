-- Texts whose first line says an item of one kind, and whose further lines say items of another.
use Rattle.std.specs.Prelude.{◌≡◌, ◌≢◌, ◌⊎◌, ℕ, List, []}
use Rattle.cqs_lines.specs.Said.{Said, line_text}
use Rattle.cqs_lines.specs.Forms.{lines_text, AllFit, IsFirstBad}

module _ {H X : Type 0} (head_says : H → Said) (head_fits : H → Type 0) (says : X
    → Said) (fits : X → Type 0) where
  -- the text says this head, and these items behind it
  pub record IsHeaded (head : H) (items : List X) (text : List ℕ) : Type 0 where
    pub head_fit : head_fits head
    pub fit : AllFit says fits items
    pub text_is : text ≡ line_text (head_says head) (lines_text says items [])

  -- the text begins with no head
  abbrev pub IsHeadless : List ℕ → Type 0
  IsHeadless text = (head : H) (more : List ℕ) → head_fits head
      → text ≢ line_text (head_says head) more

  -- behind a head line n is the first that says no item
  pub record IsBadBehind (text : List ℕ) (n : ℕ) : Type 0 where
    pub head : H
    pub rest : List ℕ
    pub head_fit : head_fits head
    pub text_is : text ≡ line_text (head_says head) rest
    pub bad : IsFirstBad says fits rest 2 n

  -- line n is the first that says neither the head nor an item
  abbrev pub IsFirstBadHeaded : List ℕ → ℕ → Type 0
  IsFirstBadHeaded text n = ((n ≡ 1) × IsHeadless text) ⊎ IsBadBehind text n
