-- What each single step on the words of segments tells, whatever its words are.
use Rattle.std.specs.Prelude.{◌≡◌, ℕ, [], Option}
use Rattle.atomic_table.specs.Table.{Me, Step}
use Rattle.cqs_words.specs.Head.{head_word}
use Rattle.cqs_words.specs.Segment.{segment_word}
use Rattle.cqs_slots.specs.Layout.{head_place, link_place, count_place}
use Rattle.cqs_rule_laws.specs.declared.view.View.{View}
use Rattle.cqs_rule_laws.specs.SegmentSteps.{Began, CellCounted, Claimed, CountLoaded, Extended, HeadLoaded, HeadSeen, LastKept, LinkLoaded, LinkRaised, Lit, Reset, Retired, TailLoaded, Went}
use Rattle.cqs_segment.specs.Walks.{but_last, EndsAt, EndsReset}

module _ {E S : Type 0} where
  abbrev pub tail_told : Step (Option S) → Me (Option S) (View E S) → ℕ
      → Me (Option S) (View E S) → Type 0
  tail_told st me n me' = TailLoaded me.0 n me'.0 × (me'.1 ≡ me.1)

  abbrev pub last_told : Step (Option S) → Me (Option S) (View E S) → ℕ
      → Me (Option S) (View E S) → Type 0
  last_told st me n me' = LastKept me.0 n me'.0 × (me'.1 ≡ me.1)

  abbrev pub head_told : Step (Option S) → Me (Option S) (View E S) → ℕ
      → Me (Option S) (View E S) → Type 0
  head_told st me n me' =
      ((x : ℕ) → st.word ≡ head_place x → HeadLoaded x me.0 n me'.0) × (me'.1 ≡ me.1)

  abbrev pub see_told : Step (Option S) → Me (Option S) (View E S) → ℕ
      → Me (Option S) (View E S) → Type 0
  see_told st me n me' =
      ((x : ℕ) → st.word ≡ head_place x → HeadSeen x me.0 n me'.0) × (me'.1 ≡ me.1)

  abbrev pub link_told : Step (Option S) → Me (Option S) (View E S) → ℕ
      → Me (Option S) (View E S) → Type 0
  link_told st me n me' =
      ((x : ℕ) → st.word ≡ link_place x → LinkLoaded x me.0 n me'.0) × (me'.1 ≡ me.1)

  abbrev pub raise_told : Step (Option S) → Me (Option S) (View E S) → ℕ
      → Me (Option S) (View E S) → Type 0
  raise_told st me n me' =
      ((x : ℕ) → st.word ≡ link_place x → LinkRaised x st.first me.0 me'.0) × (me'.1 ≡ me.1)

  abbrev pub count_told : Step (Option S) → Me (Option S) (View E S) → ℕ
      → Me (Option S) (View E S) → Type 0
  count_told st me n me' =
      ((x : ℕ) → st.word ≡ count_place x → CountLoaded x me.0 n me'.0) × (me'.1 ≡ me.1)

  abbrev pub claim_told : Step (Option S) → Me (Option S) (View E S) → ℕ
      → Me (Option S) (View E S) → Type 0
  claim_told st me n me' =
      ((x i : ℕ) → st.word ≡ head_place x → st.first ≡ head_word i 0
      → Claimed x (head_word i 0) me.0 n me'.0) × (me'.1 ≡ me.1)

  abbrev pub back_told : Step (Option S) → Me (Option S) (View E S) → ℕ
      → Me (Option S) (View E S) → Type 0
  back_told st me n me' =
      Went (but_last me.0.facts.spare_slots) [] me.0 me'.0 × (me'.1 ≡ me.1)

  abbrev pub begin_told : Step (Option S) → Me (Option S) (View E S) → ℕ
      → Me (Option S) (View E S) → Type 0
  begin_told st me n me' =
      ((x a d : ℕ) → EndsReset me.0.facts.spare_slots x a d
      → Began (but_last me.0.facts.spare_slots) x me.0 n me'.0) × (me'.1 ≡ me.1)

  abbrev pub reset_told : Step (Option S) → Me (Option S) (View E S) → ℕ
      → Me (Option S) (View E S) → Type 0
  reset_told st me n me' =
      ((x a d : ℕ) → EndsReset me.0.facts.spare_slots x a d
      → Reset (but_last me.0.facts.spare_slots) x a d me.0 me'.0) × (me'.1 ≡ me.1)

  abbrev pub light_told : Step (Option S) → Me (Option S) (View E S) → ℕ
      → Me (Option S) (View E S) → Type 0
  light_told st me n me' =
      ((s : ℕ) → st.second ≡ head_word s 2 → Lit s me.0 me'.0) × (me'.1 ≡ me.1)

  abbrev pub extend_told : Step (Option S) → Me (Option S) (View E S) → ℕ
      → Me (Option S) (View E S) → Type 0
  extend_told st me n me' =
      ((x a slot : ℕ) → EndsReset me.0.facts.spare_slots x a 34 → st.first ≡ segment_word a slot
      → Extended (but_last me.0.facts.spare_slots) x a slot me.0 n me'.0)
      × (me'.1 ≡ me.1)

  abbrev pub add_told : Step (Option S) → Me (Option S) (View E S) → ℕ
      → Me (Option S) (View E S) → Type 0
  add_told st me n me' =
      ((s : ℕ) → EndsAt me.0.facts.duties s
      → CellCounted (but_last me.0.facts.duties) s me.0 n me'.0) × (me'.1 ≡ me.1)

  abbrev pub retire_told : Step (Option S) → Me (Option S) (View E S) → ℕ
      → Me (Option S) (View E S) → Type 0
  retire_told st me n me' =
      ((x s : ℕ) → st.word ≡ head_place x → st.first ≡ head_word s 2 → Retired x s me.0 n me'.0)
      × (me'.1 ≡ me.1)
