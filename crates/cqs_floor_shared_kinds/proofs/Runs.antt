-- What one or several calls leave of a pass that others are beside.
use Rattle.std.proofs.Common.{◌≡◌, ◌≢◌, ◌⊎◌, inl, inr, ℕ, suc, ◌+◌, ◌<◌, ◌≤◌, ◌==◌, Bool, true, false, List, [], ◌∷◌, ◌++◌, drop, length, slice_get, Option, Some, None, refl, ap, sym, ◌∙◌, subst, arith, append_assoc, eq-eqb}
use Rattle.std.proofs.lemmas.List.{append-nil, length_push}
use Rattle.std.proofs.lemmas.List.Elements.{filter-append}
use Rattle.cqs_core.specs.Numbered.{IsIn}
use Rattle.cqs_core.specs.Parts.{Has, NamesOnly, part}
use Rattle.cqs_plan.specs.declared.floors.answers.FloorTake.{FloorTake}
use Rattle.cqs_plan.specs.declared.floors.answers.FloorTake.TheVariants as take
use Rattle.cqs_rule_laws.specs.declared.config.Place.{Place}
use Rattle.cqs_rule.specs.declared.queue.tokens.Wait.{Wait}
use Rattle.cqs_rule_laws.specs.declared.view.View.{View}
use Rattle.cqs_rule_laws.specs.Called.{Called}
use Rattle.cqs_rule_laws.specs.Lists.{IsDistinct, without}
use Rattle.cqs_rule_laws.specs.Object.{Object}
use Rattle.cqs_rule_laws.specs.Placed.{GoesOn}
use Rattle.cqs_rule_laws.specs.Views.{IsSame}
use Rattle.cqs_rule.specs.Waits.{HasWait, place_of}
use Rattle.cqs_rule_laws.proofs.Lists.{has_append}
use Rattle.cqs_rule_laws.proofs.Calls.{same-here}
use Rattle.cqs_rule_laws.proofs.Places.{goes-same, goes-then, known-still}
use Rattle.cqs_floor_shared_kinds.specs.Runs.{Stays, WaitsAt, Went}

-- a pass that has a number first, and another among the others, has it once
pub first-once : (n : ℕ) (own : List ℕ) (number : ℕ) → own ≡ number ∷ drop 1 own → IsDistinct own
    → Has n (drop 1 own) → n ≢ number
first-once n own number first distinct has same =
    let apart : IsDistinct (number ∷ drop 1 own) = subst IsDistinct first distinct in
    apart.0 (subst (λ m. Has m (drop 1 own)) same has)

-- the first number is one of them, and so are the others
pub has-first : (own : List ℕ) (number : ℕ) → own ≡ number ∷ drop 1 own → Has number own
has-first own number first = subst (Has number) (sym first) (inl refl)

pub has-other : (n : ℕ) (own : List ℕ) (number : ℕ) → own ≡ number ∷ drop 1 own → Has n (drop 1 own) → Has n own
has-other n own number first has = subst (Has n) (sym first) (inr has)

-- the last of a list is in it
pub last-in : {X : Type 0} (seen before : List X) (e : X) → seen ≡ before ++ e ∷ [] → IsIn e seen
last-in seen before e is = subst (IsIn e) (sym is) (record { place = length before; there = at-end before e })
  where
    at-end : {X : Type 0} (before : List X) (e : X) → slice_get (before ++ e ∷ []) (length before) ≡ Some e
    at-end [] e = refl
    at-end (b ∷ before) e = at-end before e

-- which number it waits under
pub waits-number : (k j : ℕ) → Some (take.Waits k) ≡ Some (take.Waits j) → k ≡ j
waits-number k j same = ap number same
  where
    number : Option FloorTake → ℕ
    number (Some (take.Waits n)) = n
    number (Some (take.Now e)) = 0
    number None = 0

-- which number it is
pub some-number : (k j : ℕ) → Some k ≡ Some j → k ≡ j
some-number k j same = ap number same
  where
    number : Option ℕ → ℕ
    number (Some n) = n
    number None = 0

-- which element it has
pub taken-element : (e f : ℕ) → Some (take.Now e) ≡ Some (take.Now f) → e ≡ f
taken-element e f same = ap element same
  where
    element : Option FloorTake → ℕ
    element (Some (take.Now n)) = n
    element (Some (take.Waits n)) = 0
    element None = 0

-- where all has no part, what came has none
pub none-more : {E : Type 0} (names : ℕ → E → Bool) (n : ℕ) (seen more : List E) → part names n (seen ++ more) ≡ []
    → part names n more ≡ []
none-more names n seen more none =
    rest (part names n seen) (part names n more) (sym (filter-append (names n) seen more) ∙ none)
  where
    rest : {E : Type 0} (xs ys : List E) → xs ++ ys ≡ [] → ys ≡ []
    rest [] ys none = none
    rest (x ∷ xs) ys none = absurd (cc)

-- a number that is last in a list, and there once, was not in it before
not-left : (k : ℕ) (xs : List ℕ) → length (without k xs) ≤ length xs
not-left k [] = omega arith
not-left k (x ∷ xs) = go (x == k) refl (not-left k xs)
  where
    go : (b : Bool) → x == k ≡ b → length (without k xs) ≤ length xs → length (without k (x ∷ xs)) ≤ suc (length xs)
    go true is less = rw is (omega (arith, less))
    go false is less = rw is (omega (arith, less))

fewer-left : (k : ℕ) (xs : List ℕ) → Has k xs → length (without k xs) < length xs
fewer-left k [] has = absurd has
fewer-left k (x ∷ xs) (inl same) =
    let here : without k (x ∷ xs) ≡ without k xs = rw (eq-eqb x k (sym same)) refl in
    let less = not-left k xs in
    rw here (omega (arith, less))
fewer-left k (x ∷ xs) (inr later) = go (x == k) refl (fewer-left k xs later)
  where
    go : (b : Bool) → x == k ≡ b → length (without k xs) < length xs → length (without k (x ∷ xs)) < suc (length xs)
    go true is less = rw is (omega (arith, less))
    go false is less = rw is (omega (arith, less))

without-last : (k : ℕ) (xs : List ℕ) → without k (xs ++ k ∷ []) ≡ without k xs
without-last k [] = rw (eq-eqb k k refl) refl
without-last k (x ∷ xs) = go (x == k) refl (without-last k xs)
  where
    go : (b : Bool) → x == k ≡ b → without k (xs ++ k ∷ []) ≡ without k xs
        → without k (x ∷ xs ++ k ∷ []) ≡ without k (x ∷ xs)
    go true is same = rw is same
    go false is same = rw is (ap (λ ys. x ∷ ys) same)

pub not-before : (k : ℕ) (xs : List ℕ) → length (without k (xs ++ k ∷ [])) + 1 ≡ length (xs ++ k ∷ []) → Has k xs → ⊥
not-before k xs once has =
    let fewer = fewer-left k xs has in
    let same = ap (λ (l : List ℕ). length l) (without-last k xs) in
    let long = length_push xs k in
    absurd (omega (arith, once, fewer, same, long))

-- two lists that have no number in common
pub distinct-both : (xs ys : List ℕ) → IsDistinct xs → IsDistinct ys → ((n : ℕ) → Has n xs → Has n ys → ⊥)
    → IsDistinct (xs ++ ys)
distinct-both [] ys one other apart = other
distinct-both (x ∷ xs) ys one other apart =
    (λ has. out (has_append x xs ys has), distinct-both xs ys one.1 other (λ n a b. apart n (inr a) b))
  where
    out : Has x xs ⊎ Has x ys → ⊥
    out (inl here) = one.0 here
    out (inr there) = apart x (inl refl) there

module _ {E S : Type 0} where
  pub stays-call : (v w : View E S) → IsSame v w → Stays v w
  stays-call v w same = record {
    number = same.number;
    own = same.own;
    limit = same.limit;
    cells = same.cells;
    passes = same.passes;
    opening = same.opening;
    goes = goes-same v w same;
  }

  stays-none : (v : View E S) → Stays v v
  stays-none v = stays-call v v (same-here v)

  stays-then : (v u w : View E S) → Stays v u → Stays u w → Stays v w
  stays-then v u w a b = record {
    number = b.number ∙ a.number;
    own = b.own ∙ a.own;
    limit = b.limit ∙ a.limit;
    cells = b.cells ∙ a.cells;
    passes = b.passes ∙ a.passes;
    opening = b.opening ∙ a.opening;
    goes = goes-then v u w a.goes b.goes;
  }

  -- a wait that the pass has on
  pub waits-next : (v w : View E S) (wait : Place) → GoesOn v w → WaitsAt v wait → Has wait.index w.facts.waits
      → WaitsAt w wait
  waits-next v w wait goes has there =
      record { open_yet = there; place = known-still v w wait goes has.place }

  -- a wait of which there is a token
  pub waits-token : (v : View E S) (wait : Wait) → HasWait v wait → WaitsAt v (place_of wait)
  waits-token v wait has = record { open_yet = has.open_yet; place = has.place }

module _ {E S : Type 0} (object : Object E) where
  -- no call
  pub went-none : (v : View E S) → object.legal v.opening v.seen → Went object v [] v
  went-none v legal = record {
    more = [];
    seen = sym (append-nil v.seen);
    mine = refl;
    others = λ n has. refl;
    legal = legal;
    same = stays-none v;
  }

  -- one call, whose own entries name the pass alone, and whose further one names nobody
  pub went-call : (v w : View E S) (own further : List E) → v.own ≡ v.number ∷ drop 1 v.own → IsDistinct v.own
      → (called : Called object v (own ++ further) further w) → object.legal w.opening w.seen
      → part object.names v.number called.more ≡ own → NamesOnly object.names v.number own
      → ((n : ℕ) → part object.names n further ≡ []) → Went object v own w
  went-call v w own further first distinct called legal mine only nobody = record {
    more = called.more;
    seen = called.seen;
    mine = mine;
    others = λ n has.
        called.mine n (has-other n v.own v.number first has)
        ∙ filter-append (object.names n) own further
        ∙ ap (λ es. es ++ part object.names n further) (only n (first-once n v.own v.number first distinct has))
        ∙ nobody n;
    legal = legal;
    same = stays-call v w called.same;
  }

  -- one in which the pass has no entry of its own
  pub went-silent : (v w : View E S) (further : List E) → (called : Called object v further further w)
      → object.legal w.opening w.seen → part object.names v.number called.more ≡ []
      → ((n : ℕ) → part object.names n further ≡ []) → Went object v [] w
  went-silent v w further called legal mine nobody = record {
    more = called.more;
    seen = called.seen;
    mine = mine;
    others = λ n has. called.mine n (in-all n v.own has) ∙ nobody n;
    legal = legal;
    same = stays-call v w called.same;
  }
    where
      in-all : (n : ℕ) (own : List ℕ) → Has n (drop 1 own) → Has n own
      in-all n [] has = absurd has
      in-all n (m ∷ own) has = inr has

  -- one after the other
  pub went-then : (v u w : View E S) (a b : List E) → Went object v a u → Went object u b w → Went object v (a ++ b) w
  went-then v u w a b first after = record {
    more = first.more ++ after.more;
    seen = after.seen ∙ ap (λ es. es ++ after.more) first.seen ∙ append_assoc v.seen first.more after.more;
    mine = filter-append (object.names v.number) first.more after.more
        ∙ ap (λ es. es ++ part object.names v.number after.more) first.mine
        ∙ ap (λ es. a ++ es) (ap (λ n. part object.names n after.more) (sym first.same.number) ∙ after.mine);
    others = λ n has.
        filter-append (object.names n) first.more after.more
        ∙ ap (λ es. es ++ part object.names n after.more) (first.others n has)
        ∙ after.others n (subst (λ (own : List ℕ). Has n (drop 1 own)) (sym first.same.own) has);
    legal = after.legal;
    same = stays-then v u w first.same after.same;
  }
