-- The line of a resource: who stands in it, and still does when others come and go.
use Rattle.std.proofs.Common.{◌≡◌, ◌≢◌, ◌⊎◌, inl, inr, ℕ, ◌+◌, List, [], ◌∷◌, ◌++◌, Bool, true, false, ◌||◌, ◌==◌, refl, sym, ap, ◌∙◌, eq-eqb, ne_eqb, eqb-true}
use Rattle.std.specs.List.{list_any}
use Rattle.std.specs.Bool.{if◌then◌else◌}
use Rattle.std.proofs.lemmas.Bool.{cases_eq}
use Rattle.std.proofs.lemmas.List.Folds.{list_any-append}
use Rattle.cqs_core.specs.Keyed.{without}
use Rattle.cqs_core.specs.QueueLine.{Waiting}
use Rattle.cqs_core.specs.SemaphoreObject.{Semaphore}
use Rattle.cqs_core.specs.SemaphoreEntries.{after_enter, at_door, has_spoiled, turned_back}
use Rattle.cqs_core.proofs.Waits.{enters_by}

-- the wait of this number stands in the line
abbrev pub in_line : ℕ → List Waiting → Bool
in_line k line = list_any (λ w. w.wait == k) line

or-true : (a b : Bool) → a ≡ true → (a || b) ≡ true
or-true true b same = refl
or-true false b same = absurd (cc)

or-right : (a b : Bool) → a ≡ false → (a || b) ≡ true → b ≡ true
or-right true b same either = absurd (cc)
or-right false b same either = either

or-last : (a : Bool) → (a || (true || false)) ≡ true
or-last true = refl
or-last false = refl

-- who stands in the line still does when another joins it
pub line-longer : (k : ℕ) (line : List Waiting) (w : Waiting) → in_line k line ≡ true
    → in_line k (line ++ w ∷ []) ≡ true
line-longer k line w there = list_any-append (λ v. v.wait == k) line (w ∷ []) ∙ or-true (in_line k line) _ there

-- who joins it stands in the line
pub line-joined : (k : ℕ) (line : List Waiting) (w : Waiting) → w.wait ≡ k → in_line k (line ++ w ∷ []) ≡ true
line-joined k line w same =
    let own : w.wait == k ≡ true = eq-eqb w.wait k same in
    list_any-append (λ v. v.wait == k) line (w ∷ []) ∙ rw own (or-last (in_line k line))

line-fewer_by : (k n : ℕ) (w : Waiting) (line : List Waiting) (b : Bool) → n == w.wait ≡ b → k ≢ n
    → (in_line k line ≡ true → in_line k (without (λ w. w.wait) n line) ≡ true)
    → in_line k (w ∷ line) ≡ true → in_line k (without (λ w. w.wait) n (w ∷ line)) ≡ true
line-fewer_by k n w line true same other later there =
    rw same (or-right (w.wait == k) (in_line k line) (gone (cases_eq w.wait k)) there)
  where
    gone : (w.wait ≡ k) ⊎ (w.wait ≢ k) → w.wait == k ≡ false
    gone (inl here) = absurd (other (sym here ∙ sym (eqb-true n w.wait same)))
    gone (inr away) = ne_eqb w.wait k away
line-fewer_by k n w line false same other later there = rw same (go (w.wait == k) refl)
  where
    go : (b : Bool) → w.wait == k ≡ b → (b || in_line k (without (λ w. w.wait) n line)) ≡ true
    go true here = refl
    go false away = later (or-right (w.wait == k) (in_line k line) away there)

-- who stands in the line still does when another leaves it
pub line-fewer : (k n : ℕ) (line : List Waiting) → k ≢ n → in_line k line ≡ true
    → in_line k (without (λ w. w.wait) n line) ≡ true
line-fewer k n [] other there = there
line-fewer k n (w ∷ line) other there =
    line-fewer_by k n w line (n == w.wait) refl other (line-fewer k n line other) there

if-line : (b : Bool) (x o : Semaphore) → x.line ≡ o.line → (if b then x else o).line ≡ o.line
if-line true x o same = same
if-line false x o same = refl

if-next : (b : Bool) (x o : Semaphore) → x.next ≡ o.next → (if b then x else o).next ≡ o.next
if-next true x o same = same
if-next false x o same = refl

pub turned-line : (o : Semaphore) → (turned_back o).line ≡ o.line
turned-line o = if-line _ _ o refl

pub turned-next : (o : Semaphore) → (turned_back o).next ≡ o.next
turned-next o = if-next _ _ o refl

if-spoiled : (b : Bool) (x o : Semaphore) → x.spoiled ≡ o.spoiled → (if b then x else o).spoiled ≡ o.spoiled
if-spoiled true x o same = same
if-spoiled false x o same = refl

pub turned-spoiled : (o : Semaphore) → (turned_back o).spoiled ≡ o.spoiled
turned-spoiled o = if-spoiled _ _ o refl

-- where no number is broken, who comes by the door joins the line
pub joins-line : (o : Semaphore) (k : ℕ) → o.spoiled ≡ []
    → after_enter (at_door o 0) 0 k ≡ enters_by (at_door o 0) 0 k false
joins-line o k none = ap (λ spoiled. enters_by (at_door o 0) 0 k (has_spoiled k spoiled)) none

-- and in any case has the next number
pub joins-next : (o : Semaphore) (k : ℕ) → (after_enter (at_door o 0) 0 k).next ≡ o.next + 1
joins-next o k = go (has_spoiled k o.spoiled)
  where
    go : (b : Bool) → (enters_by (at_door o 0) 0 k b).next ≡ o.next + 1
    go true = refl
    go false = refl
