-- A text is that of one list of items, and then no line of it is bad.
use Rattle.std.proofs.Common.{◌≡◌, ◌≢◌, inl, inr, ℕ, ◌+◌, ◌<◌, List, [], ◌∷◌, ◌++◌, length, refl, sym, ap, ap₂, ◌∙◌, arith, length-append}
use Rattle.cqs_lines.specs.Said.{Said, said_text, line_text, IsLine}
use Rattle.cqs_lines.specs.Forms.{lines_text, AllFit}
use Rattle.cqs_lines.specs.Headed.{IsHeaded, IsFirstBadHeaded}
use Rattle.cqs_lines.proofs.Texts.{cut-unique, said-unique}
use Rattle.cqs_lines.proofs.Reading.{line-whole, line-said}

-- two lines at the front of one text are the same
line-unique : (s t : Said) (a b : List ℕ) → IsLine s → IsLine t → line_text s a ≡ line_text t b
    → (s ≡ t) × (a ≡ b)
line-unique s t a b first second same =
    let parts = cut-unique 10 (said_text s) a (said_text t) b (line-whole s first) (line-whole t second) same in (
      said-unique (said_text s) s t (line-said (said_text s) s first refl) (line-said (said_text s) t second parts.0),
      parts.1,
    )

-- a line isn't empty
line-some : (s : Said) (a : List ℕ) → [] ≡ line_text s a → ⊥
line-some s a same =
    let none : 0 ≡ length (said_text s ++ 10 ∷ a) = ap length same in
    omega (arith, none, length-append (said_text s) (10 ∷ a))

module _ {X : Type 0} (says : X → Said) (fits : X → Type 0) (clean : (x : X) → fits x → IsLine (says x))
    (one : (x y : X) → says x ≡ says y → x ≡ y) where
  items-unique : (xs ys : List X) → AllFit says fits xs → AllFit says fits ys
      → lines_text says xs [] ≡ lines_text says ys [] → xs ≡ ys
  items-unique [] [] a b same = refl
  items-unique [] (y ∷ ys) a b same = absurd (line-some (says y) (lines_text says ys []) same)
  items-unique (x ∷ xs) [] a b same = absurd (line-some (says x) (lines_text says xs []) (sym same))
  items-unique (x ∷ xs) (y ∷ ys) a b same =
      let parts = line-unique (says x) (says y) (lines_text says xs []) (lines_text says ys [])
      (clean x a.0) (clean y b.0) same in
      ap₂ (λ z zs. z ∷ zs) (one x y parts.0) (items-unique xs ys a.1 b.1 parts.1)

  none-bad : (xs ys : List X) (left : List ℕ) → AllFit says fits xs → AllFit says fits ys
      → lines_text says xs left ≡ lines_text says ys [] → 0 < length left
      → ((i : X) (more : List ℕ) → fits i → left ≢ line_text (says i) more) → ⊥
  none-bad [] [] left a b same some bad =
      let none : length left ≡ 0 = ap length same in
      omega (arith, none, some)
  none-bad [] (y ∷ ys) left a b same some bad = bad y (lines_text says ys []) b.0 same
  none-bad (x ∷ xs) [] left a b same some bad = line-some (says x) (lines_text says xs left) (sym same)
  none-bad (x ∷ xs) (y ∷ ys) left a b same some bad =
      let parts = line-unique (says x) (says y) (lines_text says xs left) (lines_text says ys [])
      (clean x a.0) (clean y b.0) same in
      none-bad xs ys left a.1 b.1 parts.1 some bad

  -- the same behind a head
  module _ {H : Type 0} (head_says : H → Said) (head_fits : H → Type 0)
      (head_clean : (head : H) → head_fits head → IsLine (head_says head)) where
    pub headed-unique : (head other : H) (xs ys : List X) (text : List ℕ)
        → IsHeaded head_says head_fits says fits head xs text → IsHeaded head_says head_fits says fits other ys text
        → (head_says head ≡ head_says other) × (xs ≡ ys)
    headed-unique head other xs ys text first second =
        let parts = line-unique (head_says head) (head_says other) (lines_text says xs []) (lines_text says ys [])
        (head_clean head first.head_fit) (head_clean other second.head_fit) (sym first.text_is ∙ second.text_is) in
        (parts.0, items-unique xs ys first.fit second.fit parts.1)

    pub headed-good : (head : H) (xs : List X) (text : List ℕ) (n : ℕ)
        → IsHeaded head_says head_fits says fits head xs text
        → IsFirstBadHeaded head_says head_fits says fits text n → ⊥
    headed-good head xs text n is (inl first) = first.1 head (lines_text says xs []) is.head_fit is.text_is
    headed-good head xs text n is (inr behind) =
        let parts = line-unique (head_says behind.head) (head_says head) behind.rest (lines_text says xs [])
        (head_clean behind.head behind.head_fit) (head_clean head is.head_fit) (sym behind.text_is ∙ is.text_is) in
        none-bad behind.bad.items xs behind.bad.left behind.bad.fit is.fit (sym behind.bad.text_is ∙ parts.1)
        behind.bad.some behind.bad.bad
