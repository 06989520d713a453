-- The table in which passes rest, and what each mark in it says.
use Rattle.std.specs.Prelude.{◌≡◌, ◌≢◌, ℕ, ◌+◌, ◌*◌, ◌<◌, ◌∷◌, Option, None, IsSomeAnd, length, slice_index}
use mathlib.Core.Option.{some}
use lib.ListN.{get_elem?}
use Rattle.atomic_table.specs.Table.{State, Me, Step, rest}
use Rattle.cqs_c_numbers.specs.declared.primitive.Primitive.{Primitive}
use Rattle.cqs_c_numbers.specs.declared.caller.Caller.{Caller}
use Rattle.cqs_c_numbers.specs.Callers.{StandsAs}

-- the word with the mark of the pass i
abbrev pub word_of : ℕ → ℕ
word_of i = 16 * i + 16

-- What lies in the slot of the pass i where its mark is this: at 0 the pass, which belongs to the
-- primitive and has this number; at 2 nothing, since nobody has the number.
pub record Suits (s : Primitive) (i mark : ℕ) (lying : Option Caller) : Type 0 where
  pub rests : mark ≡ 0 → IsSomeAnd lying (StandsAs s i)
  pub nobody : mark ≡ 2 → lying ≡ None

abbrev pub Table : Type 0
Table = State (Option Caller) Primitive

-- The rule of the table: but where the mark is 1, and a call has the pass, what lies in the slot
-- suits the mark. Each mark has its word; and all who look at the table know of which primitive it
-- is.
pub record Marks (s : Primitive) (t : Table) : Type 0 where
  pub homes : (i : ℕ) → i < length t.homes → slice_index t.words (word_of i) ≢ 1
      → (lying : Option Caller) × (get_elem? t.homes i ≡ some (some lying))
      × Suits s i (slice_index t.words (word_of i)) lying
  pub places : (i : ℕ) → i < length t.homes → word_of i < length t.words
  pub views : (j : ℕ) (v : Primitive) → get_elem? t.views j ≡ some v → v ≡ s

abbrev pub Seated : Type 0
Seated = Me (Option Caller) Primitive

-- one who comes to the table knows of which primitive it is
abbrev pub StaysSeated : Step (Option Caller) → Seated → ℕ → Seated → Type 0
StaysSeated st me n me' = me'.0 ≡ me.0

-- Where the exchange was made, the caller has what lay in the slot, which suits the mark that was
-- there; else it has nothing.
abbrev pub HasClaimed : Step (Option Caller) → Seated → ℕ → Seated → Type 0
HasClaimed st me n me' =
    (me'.0 ≡ me.0)
    × (n ≡ st.first → (i : ℕ) → st.word ≡ word_of i
    → (lying : Option Caller) × (me'.1 ≡ (i, lying) ∷ me.1) × Suits me.0 i st.first lying)
    × (n ≢ st.first → me'.1 ≡ me.1)

-- It has given back what it took last.
abbrev pub HasLaid : Step (Option Caller) → Seated → ℕ → Seated → Type 0
HasLaid st me n me' = (me'.0 ≡ me.0) × (me'.1 ≡ rest me.1)
