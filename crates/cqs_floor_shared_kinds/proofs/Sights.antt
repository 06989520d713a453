-- A pass that has no entry of its own in what it saw more has seen all that it had, and has done what it had.
use Rattle.std.proofs.Common.{◌≡◌, inl, inr, ℕ, zero, suc, ◌<◌, Bool, List, [], ◌∷◌, ◌++◌, length, map, set, Some, refl, ap, sym, ◌∙◌, subst, arith}
use Rattle.std.proofs.lemmas.List.{append-nil}
use Rattle.std.proofs.lemmas.List.Elements.{filter-append}
use Rattle.cqs_core.specs.Parts.{Has, IsPrefix, part}
use Rattle.cqs_core.specs.SemaphoreNames.{entry_names as permit_names}
use Rattle.cqs_core.specs.declared.entries.Entry.{Entry}
use Rattle.cqs_barrier_object.specs.BarrierNames.{entry_names as party_names}
use Rattle.cqs_barrier_object.specs.declared.entries.BarrierEntry.{BarrierEntry}
use Rattle.cqs_latch_object.specs.LatchNames.{entry_names as latch_names}
use Rattle.cqs_latch_object.specs.declared.entries.LatchEntry.{LatchEntry}
use Rattle.cqs_plan.specs.declared.plans.kind.Kind.{Kind}
use Rattle.cqs_plan.specs.FloorHistory.{History, of_permits, of_elements, of_latch, of_rounds, entries_in}
use Rattle.cqs_pool_object.specs.PoolNames.{entry_names as element_names}
use Rattle.cqs_pool_object.specs.declared.entries.PoolEntry.{PoolEntry}
use Rattle.cqs_floor_shared.specs.AnswerEntries.{turned_entries}
use Rattle.cqs_floor_shared.specs.Entries.{AreOf, Entries, IsBefore, at_elements, at_latch, at_permits, in_round, none_of, own_entries, own_history, with_entries}
use Rattle.cqs_floor_shared_kinds.specs.Shares.{Sees, Share, own}
use Rattle.cqs_floor_shared_kinds.specs.ShareCalls.{SeesOn}

prefix-same : {E : Type 0} (h : List E) → IsPrefix h h
prefix-same h = ([], sym (append-nil h))

-- what was seen in each round stands before what is seen there where one round has more
round-before : (all : List (List BarrierEntry)) (round at : ℕ) (more : List BarrierEntry) → round < length all
    → IsPrefix (entries_in all at) (entries_in (set all round (entries_in all round ++ more)) at)
round-before [] round at more low = absurd (omega arith)
round-before (h ∷ all) zero zero more low = (more, refl)
round-before (h ∷ all) zero (suc at) more low = prefix-same (entries_in all at)
round-before (h ∷ all) (suc round) zero more low = prefix-same h
round-before (h ∷ all) (suc round) (suc at) more low = round-before all round at more (omega arith)

before-with : (h : History) (more : Entries) → AreOf h more → IsBefore h (with_entries h more)
before-with (of_permits h) (at_permits more) words = (more, refl)
before-with (of_elements h) (at_elements more) words = (more, refl)
before-with (of_latch h) (at_latch more) words = (more, refl)
before-with (of_rounds all) (in_round round more) words = λ at. round-before all round at more words
before-with (of_permits h) (at_elements more) words = absurd words
before-with (of_permits h) (at_latch more) words = absurd words
before-with (of_permits h) (in_round round more) words = absurd words
before-with (of_elements h) (at_permits more) words = absurd words
before-with (of_elements h) (at_latch more) words = absurd words
before-with (of_elements h) (in_round round more) words = absurd words
before-with (of_latch h) (at_permits more) words = absurd words
before-with (of_latch h) (at_elements more) words = absurd words
before-with (of_latch h) (in_round round more) words = absurd words
before-with (of_rounds all) (at_permits more) words = absurd words
before-with (of_rounds all) (at_elements more) words = absurd words
before-with (of_rounds all) (at_latch more) words = absurd words

-- what names nobody adds to no part
part-with : {E : Type 0} (names : ℕ → E → Bool) (n : ℕ) (h more : List E) → part names n more ≡ []
    → part names n (h ++ more) ≡ part names n h
part-with names n h more none =
    filter-append (names n) h more ∙ ap (λ es. part names n h ++ es) none ∙ append-nil (part names n h)

own-round : (n : ℕ) (all : List (List BarrierEntry)) (round : ℕ) (more : List BarrierEntry) → round < length all
    → part party_names n more ≡ []
    → map (part party_names n) (set all round (entries_in all round ++ more)) ≡ map (part party_names n) all
own-round n [] round more low none = absurd (omega arith)
own-round n (h ∷ all) zero more low none =
    ap (λ p. p ∷ map (part party_names n) all) (part-with party_names n h more none)
own-round n (h ∷ all) (suc round) more low none =
    ap (λ ps. part party_names n h ∷ ps) (own-round n all round more (omega arith) none)

permits-in : Entries → List Entry
permits-in (at_permits es) = es
permits-in (at_elements es) = []
permits-in (at_latch es) = []
permits-in (in_round round es) = []

elements-in : Entries → List PoolEntry
elements-in (at_permits es) = []
elements-in (at_elements es) = es
elements-in (at_latch es) = []
elements-in (in_round round es) = []

latch-in : Entries → List LatchEntry
latch-in (at_permits es) = []
latch-in (at_elements es) = []
latch-in (at_latch es) = es
latch-in (in_round round es) = []

parties-in : Entries → List BarrierEntry
parties-in (at_permits es) = []
parties-in (at_elements es) = []
parties-in (at_latch es) = []
parties-in (in_round round es) = es

own-with : (n : ℕ) (h : History) (more : Entries) → AreOf h more → own_entries n more ≡ none_of more
    → own_history n (with_entries h more) ≡ own_history n h
unfolding permits-in elements-in latch-in parties-in
own-with n (of_permits h) (at_permits more) words none =
    ap of_permits (part-with permit_names n h more (ap permits-in none))
own-with n (of_elements h) (at_elements more) words none =
    ap of_elements (part-with element_names n h more (ap elements-in none))
own-with n (of_latch h) (at_latch more) words none =
    ap of_latch (part-with latch_names n h more (ap latch-in none))
own-with n (of_rounds all) (in_round round more) words none =
    ap of_rounds (own-round n all round more words (ap parties-in none))
own-with n (of_permits h) (at_elements more) words none = absurd words
own-with n (of_permits h) (at_latch more) words none = absurd words
own-with n (of_permits h) (in_round round more) words none = absurd words
own-with n (of_elements h) (at_permits more) words none = absurd words
own-with n (of_elements h) (at_latch more) words none = absurd words
own-with n (of_elements h) (in_round round more) words none = absurd words
own-with n (of_latch h) (at_permits more) words none = absurd words
own-with n (of_latch h) (at_elements more) words none = absurd words
own-with n (of_latch h) (in_round round more) words none = absurd words
own-with n (of_rounds all) (at_permits more) words none = absurd words
own-with n (of_rounds all) (at_elements more) words none = absurd words
own-with n (of_rounds all) (at_latch more) words none = absurd words

none-twice : (es : Entries) → none_of (none_of es) ≡ none_of es
none-twice (at_permits es) = refl
none-twice (at_elements es) = refl
none-twice (at_latch es) = refl
none-twice (in_round round es) = refl

none-own : (n : ℕ) (es : Entries) → none_of (own_entries n es) ≡ none_of es
none-own n (at_permits es) = refl
none-own n (at_elements es) = refl
none-own n (at_latch es) = refl
none-own n (in_round round es) = refl

module _ {X : Type 0} (s : Share X) where
  -- a call that has no entry
  pub sees-on : (kind : Kind) (x y : X) → Sees s kind x (none_of (turned_entries (Some kind) 0)) y → SeesOn s kind x y
  sees-on kind x y sees =
      let mine : own_entries (s.number x) sees.more ≡ none_of sees.more
      = sees.mine ∙ sym (none-twice (turned_entries (Some kind) 0)) ∙ ap none_of (sym sees.mine)
      ∙ none-own (s.number x) sees.more in
      record {
        staying = subst (IsBefore (s.seen x)) (sym sees.seen) (before-with (s.seen x) sees.more sees.words);
        mine = λ n has. ap (own_history n) sees.seen ∙ own-with n (s.seen x) sees.more sees.words (none mine n has);
        legal = sees.legal;
        same = sees.same;
      }
    where
      none : own_entries (s.number x) sees.more ≡ none_of sees.more → (n : ℕ) → Has n (own s x)
          → own_entries n sees.more ≡ none_of sees.more
      none mine n (inl same) = subst (λ m. own_entries m sees.more ≡ none_of sees.more) (sym same) mine
      none mine n (inr has) = sees.others n has
