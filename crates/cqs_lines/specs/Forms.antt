-- Texts whose lines say items.
use Rattle.std.specs.Prelude.{◌≡◌, ◌≢◌, ℕ, ◌+◌, ◌<◌, List, [], ◌∷◌, ◌++◌, length}
use Rattle.cqs_lines.specs.Said.{Said, line_text}

module _ {X : Type 0} (says : X → Said) where
  -- a line for each item, and more behind them
  abbrev pub lines_text : List X → List ℕ → List ℕ
  lines_text [] more = more
  lines_text (x ∷ xs) more = line_text (says x) (lines_text xs more)

  module _ (fits : X → Type 0) where
    abbrev pub AllFit : List X → Type 0
    AllFit [] = Unit {0}
    AllFit (x ∷ xs) = fits x × AllFit xs

    -- the text says these items, a line for each
    pub record AreItems (items : List X) (text : List ℕ) : Type 0 where
      pub fit : AllFit items
      pub text_is : text ≡ lines_text items []

    -- line n is the first that says no item, where the text begins with line `first`
    pub record IsFirstBad (text : List ℕ) (first n : ℕ) : Type 0 where
      pub items : List X
      pub left : List ℕ
      pub fit : AllFit items
      pub text_is : text ≡ lines_text items left
      pub number : n ≡ first + length items
      pub some : 0 < length left
      pub bad : (i : X) (more : List ℕ) → fits i → left ≢ line_text (says i) more
