-- Rows of waits, and their lines.
use Rattle.std.proofs.Common.{◌≡◌, ◌≢◌, ◌⊎◌, inl, inr, ℕ, zero, suc, ◌+◌, ◌-◌, ◌<◌, ◌≤◌, ◌==◌, true, false, List, [], ◌∷◌, ◌++◌, Some, Result, Ok, Err, OnOk, AllPairs, length, set, get_or, take, flat_map, replicate, slice_get, refl, sym, ap, subst, ◌∙◌, append_assoc, arith, eq-eqb, ne_eqb}
use Rattle.std.proofs.lemmas.Bool.{cases_eq, cases_lt}
use Rattle.std.proofs.lemmas.List.{append-nil, get_or_append_left, get_or-append_right, length-append, length-replicate, length-set, take_all}
use Rattle.std.proofs.lemmas.List.Elements.{filter-append}
use Rattle.std.proofs.lemmas.Grind.{flat_map-append}
use Rattle.std.proofs.lemmas.Option.{get_or_from_slice_get}
use Rattle.cqs_core.specs.Numbered.{IsIn}
use Rattle.cqs_core.proofs.Histories.{take-next}
use Rattle.cqs_core.proofs.Places.{get-append_left, get-append_below, get-push_at, get-below, get-set_here, get-set_else, get-there}
use Rattle.cqs_plan.specs.declared.plans.kind.Kind.{Kind}
use Rattle.cqs_plan.specs.declared.plans.kind.Kind.TheVariants as kind
use Rattle.cqs_work.specs.declared.waits.Waited.{Waited}
use Rattle.cqs_work.specs.declared.waits.WaitLine.{WaitLine}
use Rattle.cqs_work.specs.Rows.{WasTold, IsRow, IsLonger, IsNote, IsRowAfter, AddsAt, AreLines, lines_from, lines_at}

pub longer-same : (row : List ℕ) (place : ℕ) → place < length row → IsLonger row place row
longer-same row place there = record { there = there; kept = λ k x got. got; short = λ n enough below. enough }

pub longer-more : (row new : List ℕ) (place long job : ℕ) → length row ≤ place → long ≡ place + 1
    → new ≡ take long row ++ replicate (long - length row) job → IsLonger row place new
longer-more row new place long job past is more =
    let whole : take long row ≡ row = take_all long row (omega (arith, past, is)) in
    let now : new ≡ row ++ replicate (long - length row) job
    = more ∙ ap (λ l. l ++ replicate (long - length row) job) whole in
    let size : length new ≡ place + 1 = ap length now ∙ length-append row (replicate (long - length row) job)
    ∙ ap (λ n. length row + n) (length-replicate (long - length row) job) ∙ omega (arith, past, is) in
    record {
      there = omega (arith, size);
      kept = λ k x got. ap (λ l. slice_get l k) now ∙ get-append_left row (replicate (long - length row) job) k x got;
      short = λ n enough below. omega (arith, size, below);
    }

pub noted-in : (row mid new : List ℕ) (number job : ℕ) → IsLonger row number mid → new ≡ set mid number job
    → IsNote row number job new
noted-in row mid new number job longer is =
    let was : (x : ℕ) × (slice_get mid number ≡ Some x) = get-there mid number longer.there in
    record {
      there = ap (λ l. slice_get l number) is ∙ get-set_here mid number was.0 job was.1;
      kept = λ k x other got.
          ap (λ l. slice_get l k) is ∙ get-set_else mid number k job (λ e. other (sym e)) ∙ longer.kept k x got;
      short = λ n enough below.
          omega (arith, longer.short n enough below, ap length is, length-set mid number job);
    }

-- what is in a longer list
in-left : {X : Type 0} (x : X) (xs ys : List X) → IsIn x xs → IsIn x (xs ++ ys)
in-left x xs ys there = record { place = there.place; there = get-append_left xs ys there.place x there.there }

in-last : {X : Type 0} (x : X) (xs : List X) → IsIn x (xs ++ x ∷ [])
in-last x xs = record { place = length xs; there = get-push_at xs x (length xs) refl }

pub in-push : {X : Type 0} (x y : X) (xs : List X) → IsIn x (xs ++ y ∷ []) → IsIn x xs ⊎ (y ≡ x)
in-push x y xs there = go (cases_lt there.place (length xs))
  where
    go : (there.place < length xs) ⊎ (length xs ≤ there.place) → IsIn x xs ⊎ (y ≡ x)
    go (inl below) =
        inl (record {
          place = there.place;
          there = sym (get-append_below xs (y ∷ []) there.place below) ∙ there.there;
        })
    go (inr past) =
        let short : there.place < length (xs ++ y ∷ []) = get-below (xs ++ y ∷ []) there.place x there.there in
        let here : there.place ≡ length xs = omega (arith, past, short, length-append xs (y ∷ [])) in
        let now : slice_get (xs ++ y ∷ []) there.place ≡ Some y = get-push_at xs y there.place here in
        inr (cc (now, there.there))

pub in-append : {X : Type 0} (x : X) (xs ys : List X) → IsIn x (xs ++ ys) → IsIn x xs ⊎ IsIn x ys
in-append x [] ys there = inr there
in-append {X} x (y ∷ xs) ys there = go there.place there.there (λ later. in-append x xs ys later)
  where
    behind : IsIn x xs ⊎ IsIn x ys → IsIn x (y ∷ xs) ⊎ IsIn x ys
    behind (inl later) =
        let next : later.place + 1 ≡ suc later.place = omega arith in
        inl (record { place = later.place + 1; there = rw next later.there })
    behind (inr other) = inr other

    go : (i : ℕ) → slice_get (y ∷ (xs ++ ys)) i ≡ Some x → (IsIn x (xs ++ ys) → IsIn x xs ⊎ IsIn x ys)
        → IsIn x (y ∷ xs) ⊎ IsIn x ys
    go zero got split = inl (record { place = 0; there = got })
    go (suc i) got split = behind (split (record { place = i; there = got }))

told-left : (told more : List Waited) (at number job : ℕ) → WasTold told at number job
    → WasTold (told ++ more) at number job
told-left told more at number job t = record {
  wait = t.wait;
  among = in-left t.wait told more t.among;
  there = t.there;
  numbered = t.numbered;
  whose = t.whose;
}

told-push : (told : List Waited) (w : Waited) (at number job : ℕ) → WasTold (told ++ w ∷ []) at number job
    → WasTold told at number job ⊎ ((w.at ≡ at) × (w.number ≡ number) × (w.job ≡ job))
told-push told w at number job t = go (in-push t.wait w told t.among)
  where
    go : IsIn t.wait told ⊎ (w ≡ t.wait)
        → WasTold told at number job ⊎ ((w.at ≡ at) × (w.number ≡ number) × (w.job ≡ job))
    go (inl before) =
        inl (record { wait = t.wait; among = before; there = t.there; numbered = t.numbered; whose = t.whose })
    go (inr same) =
        inr (ap (λ x. x.at) same ∙ t.there, ap (λ x. x.number) same ∙ t.numbered, ap (λ x. x.job) same ∙ t.whose)

-- a wait at another place
pub row-else : (at : ℕ) (w : Waited) (row : List ℕ) → w.at ≢ at → IsRowAfter at (w ∷ []) row row
row-else at w row other = record {
  on = λ told is. record {
    short = λ n bound. is.short n (λ number job t. bound number job (told-left told (w ∷ []) at number job t));
    jobs = λ number job t. jobs told is number job (told-push told w at number job t);
  };
}
  where
    jobs : (told : List Waited) → IsRow at told row → (number job : ℕ)
        → WasTold told at number job ⊎ ((w.at ≡ at) × (w.number ≡ number) × (w.job ≡ job))
        → (x : ℕ) × (slice_get row number ≡ Some x) × WasTold (told ++ w ∷ []) at number x
    jobs told is number job (inl before) =
        let it = is.jobs number job before in
        (it.0, it.1, told-left told (w ∷ []) at number it.0 it.2)
    jobs told is number job (inr (here, same, own)) = absurd (other here)

-- one at this place
pub row-here : (at : ℕ) (w : Waited) (old new : List ℕ) → w.at ≡ at → IsNote old w.number w.job new
    → IsRowAfter at (w ∷ []) old new
row-here at w old new here note = record {
  on = λ told is. record {
    short = λ n bound.
        note.short n (is.short n (λ number job t. bound number job (told-left told (w ∷ []) at number job t)))
        (bound w.number w.job (last told));
    jobs = λ number job t. jobs told is number job (told-push told w at number job t) (cases_eq number w.number);
  };
}
  where
    last : (told : List Waited) → WasTold (told ++ w ∷ []) at w.number w.job
    last told = record { wait = w; among = in-last w told; there = here; numbered = refl; whose = refl }

    jobs : (told : List Waited) → IsRow at told old → (number job : ℕ)
        → WasTold told at number job ⊎ ((w.at ≡ at) × (w.number ≡ number) × (w.job ≡ job))
        → (number ≡ w.number) ⊎ (number ≢ w.number)
        → (x : ℕ) × (slice_get new number ≡ Some x) × WasTold (told ++ w ∷ []) at number x
    jobs told is number job t (inl same) = (
      w.job,
      ap (slice_get new) same ∙ note.there,
      subst (λ n. WasTold (told ++ w ∷ []) at n w.job) (sym same) (last told),
    )
    jobs told is number job (inl before) (inr other) =
        let it = is.jobs number job before in
        (it.0, note.kept number it.0 other it.1, told-left told (w ∷ []) at number it.0 it.2)
    jobs told is number job (inr (there, same, own)) (inr other) = absurd (other (sym same))

-- the same, where it was noted
pub row-here-ok : {T E : Type 0} (r : Result T E) (at : ℕ) (w : Waited) (old new : List ℕ) → w.at ≡ at
    → OnOk r (IsNote old w.number w.job new) → OnOk r (IsRowAfter at (w ∷ []) old new)
row-here-ok (Ok x) at w old new here note = row-here at w old new here note
row-here-ok (Err e) at w old new here note = tt

pub after-none : (at : ℕ) (row : List ℕ) → IsRowAfter at [] row row
after-none at row = record { on = λ told is. subst (λ l. IsRow at l row) (sym (append-nil told)) is }

pub after-then : (at : ℕ) (xs ys : List Waited) (a b c : List ℕ) → IsRowAfter at xs a b → IsRowAfter at ys b c
    → IsRowAfter at (xs ++ ys) a c
after-then at xs ys a b c first second = record {
  on = λ told is.
      subst (λ l. IsRow at l c) (append_assoc told xs ys) (second.on (told ++ xs) (first.on told is));
}

-- the next wait of a list
pub after-next : (at : ℕ) (all : List Waited) (i : ℕ) (w : Waited) (a b c : List ℕ) → slice_get all i ≡ Some w
    → IsRowAfter at (take i all) a b → IsRowAfter at (w ∷ []) b c → IsRowAfter at (take (i + 1) all) a c
after-next at all i w a b c got first second =
    let next : i + 1 ≡ suc i = omega arith in
    rw (next, take-next all i w got) (after-then at (take i all) (w ∷ []) a b c first second)

pub row-none : (at : ℕ) (row : List ℕ) → row ≡ [] → IsRow at [] row
row-none at row none = rw none (record {
  short = λ n bound. omega arith;
  jobs = λ number job t. absurd (never t.wait t.among);
})
  where
    never : (w : Waited) → IsIn w [] → ⊥
    never w there = let got = there.there in absurd (cc)

-- the next worker's
pub row-next : {S : Type 0} (items : S → List Waited) (at : ℕ) (all : List S) (i : ℕ) (own : S) (list : List Waited)
    (old new : List ℕ) → slice_get all i ≡ Some own → list ≡ items own
    → IsRow at (flat_map items (take i all)) old → IsRowAfter at list old new
    → IsRow at (flat_map items (take (i + 1) all)) new
row-next items at all i own list old new got is row more =
    let next : i + 1 ≡ suc i = omega arith in
    let one : flat_map items (own ∷ []) ≡ items own = append-nil (items own) in
    let grown : flat_map items (take i all ++ own ∷ []) ≡ flat_map items (take i all) ++ list
    = flat_map-append items (take i all) (own ∷ []) ∙ ap (λ l. flat_map items (take i all) ++ l) (one ∙ sym is) in
    rw (next, take-next all i own got, grown) (more.on (flat_map items (take i all)) row)

-- lines
lines-push : (at k : ℕ) (row : List ℕ) (job : ℕ)
    → lines_from at k (row ++ job ∷ [])
    ≡ lines_from at k row ++ record { at = at; number = k + length row; job = job } ∷ []
lines-push at k [] job =
    let none : k + 0 ≡ k = omega arith in
    ap (λ (n : ℕ). record { at = at; number = n; job = job } ∷ []) (sym none)
lines-push at k (x ∷ row) job =
    let further : suc k + length row ≡ k + length (x ∷ row) = omega arith in
    ap (λ l. record { at = at; number = k; job = x } ∷ l)
    (lines-push at (suc k) row job
    ∙ ap (λ (n : ℕ). lines_from at (suc k) row ++ record { at = at; number = n; job = job } ∷ []) further)

length-of : (xs : List ℕ) (i x : ℕ) → slice_get xs i ≡ Some x → length (take i xs) ≡ i
length-of [] i x got = absurd (cc)
length-of (y ∷ xs) zero x got = refl
length-of (y ∷ xs) (suc i) x got = ap suc (length-of xs i x got)

pub lines-next : (at : ℕ) (row : List ℕ) (i job : ℕ) (first old : List WaitLine) (line : WaitLine) → slice_get row i
    ≡ Some job
    → line ≡ record { at = at; number = i; job = job } → old ≡ first ++ lines_from at 0 (take i row)
    → old ++ line ∷ [] ≡ first ++ lines_from at 0 (take (i + 1) row)
lines-next at row i job first old line got is before =
    let next : i + 1 ≡ suc i = omega arith in
    let long : 0 + length (take i row) ≡ i = omega (arith, length-of row i job got) in
    let more : lines_from at 0 (take (i + 1) row) ≡ lines_from at 0 (take i row) ++ line ∷ []
    = ap (λ n. lines_from at 0 (take n row)) next ∙ ap (lines_from at 0) (take-next row i job got)
    ∙ lines-push at 0 (take i row) job
    ∙ ap (λ (n : ℕ). lines_from at 0 (take i row) ++ record { at = at; number = n; job = job } ∷ []) long
    ∙ ap (λ x. lines_from at 0 (take i row) ++ x ∷ []) (sym is) in
    ap (λ l. l ++ line ∷ []) before ∙ append_assoc first (lines_from at 0 (take i row)) (line ∷ [])
    ∙ ap (λ l. first ++ l) (sym more)

-- all lines of a row stand at its place
from-here : (at k : ℕ) (row : List ℕ) → lines_at at (lines_from at k row) ≡ lines_from at k row
from-here at k [] = refl
from-here at k (x ∷ row) =
    let here : at == at ≡ true = eq-eqb at at refl in
    rw here (ap (λ l. record { at = at; number = k; job = x } ∷ l) (from-here at (suc k) row))

from-else : (at q k : ℕ) (row : List ℕ) → q ≢ at → lines_at q (lines_from at k row) ≡ []
from-else at q k [] other = refl
from-else at q k (x ∷ row) other =
    let away : at == q ≡ false = ne_eqb at q (λ e. other (sym e)) in
    rw away (from-else at q (suc k) row other)

from-at : (at k : ℕ) (row : List ℕ) (i : ℕ) (line : WaitLine) → slice_get (lines_from at k row) i ≡ Some line
    → line.at ≡ at
from-at at k [] i line got = absurd (cc)
from-at at k (x ∷ row) zero line got =
    let same : record { at = at; number = k; job = x } ≡ line = cc in
    ap (λ (l : WaitLine). l.at) (sym same)
from-at at k (x ∷ row) (suc i) line got = from-at at (suc k) row i line got

pub lines-none : (kinds : List Kind) (told : List Waited) (lines : List WaitLine) → lines ≡ []
    → AreLines kinds told 0 lines
lines-none kinds told lines none = rw none (record {
  in_order = λ i j d earlier inside. absurd (omega (arith, inside));
  below = λ k line got. absurd (cc);
  semaphores = λ at permits below got. absurd (omega (arith, below));
  others = λ at k got other. refl;
})

none-at : (many : ℕ) (lines : List WaitLine)
    → ((k : ℕ) (line : WaitLine) → slice_get lines k ≡ Some line → line.at < many) → lines_at many lines ≡ []
none-at many [] below = refl
none-at many (line ∷ lines) below =
    let away : line.at == many ≡ false
    = ne_eqb line.at many (λ e. absurd (omega (arith, below 0 line refl, e))) in
    rw away (none-at many lines (λ k x got. below (suc k) x got))

-- the lines of the next resource
module _ (kinds : List Kind) (told : List Waited) (many : ℕ) (k : Kind) (got : slice_get kinds many ≡ Some k)
    (old : List WaitLine) (are : AreLines kinds told many old) where
  lines-same : ((permits : ℕ) → k ≢ kind.Semaphore permits) → AreLines kinds told (many + 1) old
  lines-same other_kind = record {
    in_order = are.in_order;
    below = λ i line there. omega (arith, are.below i line there);
    semaphores = λ at permits below its. go at permits below its (cases_eq at many);
    others = are.others;
  }
    where
      go : (at permits : ℕ) → at < many + 1 → slice_get kinds at ≡ Some (kind.Semaphore permits)
          → (at ≡ many) ⊎ (at ≢ many) → (row : List ℕ) × IsRow at told row × (lines_at at old ≡ lines_from at 0 row)
      go at permits below its (inl here) =
          let there : slice_get kinds many ≡ Some (kind.Semaphore permits) = ap (slice_get kinds) (sym here) ∙ its in
          let is : k ≡ kind.Semaphore permits = cc in
          absurd (other_kind permits is)
      go at permits below its (inr other) = are.semaphores at permits (omega (arith, below, other)) its

  lines-more : (row : List ℕ) (new : List WaitLine) → ((x : Kind) → ((permits : ℕ) → x ≢ kind.Semaphore permits)
      → k ≢ x)
      → IsRow many told row → new ≡ old ++ lines_from many 0 row → AreLines kinds told (many + 1) new
  lines-more row new a_semaphore is_row is = record {
    in_order = λ i j d earlier inside.
        subst (AllPairs (λ (one : WaitLine) (other : WaitLine). one.at ≤ other.at)) (sym is) ordered i j d earlier
        inside;
    below = λ i line there.
        below i line (ap (λ l. slice_get l i) (sym is) ∙ there) (cases_lt i (length old));
    semaphores = λ at permits small its. go at permits small its (cases_eq at many);
    others = λ at x its other_kind. others at x its other_kind (cases_eq at many);
  }
    where
      more : List WaitLine
      more = lines_from many 0 row

      at-of : (i : ℕ) (d : WaitLine) → length old ≤ i → i < length (old ++ lines_from many 0 row)
          → (get_or (old ++ lines_from many 0 row) i d).at ≡ many
      at-of i d past inside =
          let there : (line : WaitLine) × (slice_get (lines_from many 0 row) (i - length old) ≡ Some line)
          = get-there (lines_from many 0 row) (i - length old)
          (omega (arith, past, inside, length-append old (lines_from many 0 row))) in
          ap (λ (l : WaitLine). l.at) (get_or-append_right old (lines_from many 0 row) (length old) i d refl past
          ∙ get_or_from_slice_get (lines_from many 0 row) (i - length old) there.0 d there.1)
          ∙ from-at many 0 row (i - length old) there.0 there.1

      old-below : (i : ℕ) (d : WaitLine) → i < length old → (get_or (old ++ lines_from many 0 row) i d).at < many
      old-below i d inside =
          let there : (line : WaitLine) × (slice_get old i ≡ Some line) = get-there old i inside in
          let same : get_or (old ++ lines_from many 0 row) i d ≡ there.0
          = get_or_append_left old (lines_from many 0 row) d i inside
          ∙ get_or_from_slice_get old i there.0 d there.1 in
          omega (arith, ap (λ (l : WaitLine). l.at) same, are.below i there.0 there.1)

      ordered : AllPairs (λ (one : WaitLine) (other : WaitLine). one.at ≤ other.at) (old ++ lines_from many 0 row)
      ordered i j d earlier inside = pair (cases_lt i (length old)) (cases_lt j (length old))
        where
          pair : (i < length old) ⊎ (length old ≤ i) → (j < length old) ⊎ (length old ≤ j)
              → (get_or (old ++ lines_from many 0 row) i d).at ≤ (get_or (old ++ lines_from many 0 row) j d).at
          pair (inl first) (inl second) =
              let one = get_or_append_left old (lines_from many 0 row) d i first in
              let two = get_or_append_left old (lines_from many 0 row) d j second in
              omega (
                arith,
                ap (λ (l : WaitLine). l.at) one,
                ap (λ (l : WaitLine). l.at) two,
                are.in_order i j d earlier second,
              )
          pair (inl first) (inr second) =
              omega (arith, old-below i d first, at-of j d second inside)
          pair (inr first) second =
              omega (
                arith,
                at-of i d first (omega (arith, earlier, inside)),
                at-of j d (omega (arith, first, earlier)) inside,
              )

      below : (i : ℕ) (line : WaitLine) → slice_get (old ++ lines_from many 0 row) i ≡ Some line
          → (i < length old) ⊎ (length old ≤ i) → line.at < many + 1
      below i line there (inl first) =
          let before : slice_get old i ≡ Some line
          = sym (get-append_below old (lines_from many 0 row) i first) ∙ there in
          omega (arith, are.below i line before)
      below i line there (inr past) =
          let inside = get-below (old ++ lines_from many 0 row) i line there in
          let same : get_or (old ++ lines_from many 0 row) i line ≡ line
          = get_or_from_slice_get (old ++ lines_from many 0 row) i line line there in
          omega (arith, at-of i line past inside, ap (λ (l : WaitLine). l.at) same)

      here-are : lines_at many new ≡ lines_from many 0 row
      here-are = ap (lines_at many) is ∙ filter-append (λ line. line.at == many) old (lines_from many 0 row)
          ∙ ap (λ l. l ++ lines_at many (lines_from many 0 row)) (none-at many old are.below)
          ∙ from-here many 0 row

      else-are : (at : ℕ) → at ≢ many → lines_at at new ≡ lines_at at old
      else-are at other = ap (lines_at at) is ∙ filter-append (λ line. line.at == at) old (lines_from many 0 row)
          ∙ ap (λ l. lines_at at old ++ l) (from-else many at 0 row other) ∙ append-nil (lines_at at old)

      go : (at permits : ℕ) → at < many + 1 → slice_get kinds at ≡ Some (kind.Semaphore permits)
          → (at ≡ many) ⊎ (at ≢ many) → (r : List ℕ) × IsRow at told r × (lines_at at new ≡ lines_from at 0 r)
      go at permits small its (inl here) = rw here (row, is_row, here-are)
      go at permits small its (inr other) =
          let it = are.semaphores at permits (omega (arith, small, other)) its in
          (it.0, it.1, else-are at other ∙ it.2)

      others : (at : ℕ) (x : Kind) → slice_get kinds at ≡ Some x → ((permits : ℕ) → x ≢ kind.Semaphore permits)
          → (at ≡ many) ⊎ (at ≢ many) → lines_at at new ≡ []
      others at x its other_kind (inl here) =
          let there : slice_get kinds many ≡ Some x = ap (slice_get kinds) (sym here) ∙ its in
          let same : k ≡ x = cc in
          absurd (a_semaphore x other_kind same)
      others at x its other_kind (inr other) = else-are at other ∙ are.others at x its other_kind

-- whatever its kind is
pub lines-then : (kinds : List Kind) (told : List Waited) (many : ℕ) (k : Kind) → slice_get kinds many ≡ Some k
    → (old new : List WaitLine) → AreLines kinds told many old → AddsAt k told many old new
    → AreLines kinds told (many + 1) new
lines-then kinds told many (kind.Semaphore permits) got old new are (row, is_row, is) =
    lines-more kinds told many (kind.Semaphore permits) got old are row new
    (λ x other_kind same. other_kind permits (sym same)) is_row is
lines-then kinds told many kind.Mutex got old new are is =
    subst (AreLines kinds told (many + 1)) (sym is)
    (lines-same kinds told many kind.Mutex got old are (λ permits e. absurd (cc)))
lines-then kinds told many (kind.Pool elements) got old new are is =
    subst (AreLines kinds told (many + 1)) (sym is)
    (lines-same kinds told many (kind.Pool elements) got old are (λ permits e. absurd (cc)))
lines-then kinds told many (kind.Latch count) got old new are is =
    subst (AreLines kinds told (many + 1)) (sym is)
    (lines-same kinds told many (kind.Latch count) got old are (λ permits e. absurd (cc)))
lines-then kinds told many (kind.Rounds parties rounds) got old new are is =
    subst (AreLines kinds told (many + 1)) (sym is)
    (lines-same kinds told many (kind.Rounds parties rounds) got old are (λ permits e. absurd (cc)))
