-- What a table of waits tells of its line.
use Rattle.std.proofs.Common.{◌≡◌, ◌≢◌, ◌⊎◌, inl, inr, ℕ, zero, suc, ◌<◌, ◌≤◌, List, [], ◌∷◌, ◌++◌, length, take, set, Some, None, slice_get, refl, sym, ap, ◌∙◌, arith}
use Rattle.cqs_core.specs.QueueWaiters.{Waits}
use Rattle.std.proofs.lemmas.Bool.{cases_eq, cases_lt}
use Rattle.std.proofs.lemmas.List.{length_push}
use Rattle.cqs_core.proofs.Places.{get-below, get-set_here, get-set_else, get-append_below, get-push_at, get-past}
use Rattle.cqs_check.specs.declared.waits.WaitState.{WaitState}
use Rattle.cqs_check.specs.declared.waits.WaitState.TheVariants as wait
use Rattle.cqs_check.specs.declared.waits.Table.{Table}
use Rattle.cqs_check.specs.Trees.{stands_before, IsTree, IsLowered, IsRaised, leaf, size_of, raised_of}
use Rattle.cqs_check.specs.Lines.{IsTable, line_of, standing, flag}
use Rattle.cqs_check.proofs.Totals.{total-flags}
use Rattle.cqs_check.proofs.Among.{stands-among, among-stands}

-- what the tree counts before a wait is its place in the line
pub counted : (t : Table) (k : ℕ) → IsTable t → k < length t.waits.items
    → stands_before t.counts k ≡ standing (take k t.waits.items)
counted t k table low = total-flags t.counts.nodes.items t.counts.size t.waits.items k
    (λ j small. table.flags j (omega (arith, small, low, table.room)))

pub stands-in : (t : Table) (way k c : ℕ) → IsTable t → slice_get t.waits.items k ≡ Some (wait.Waiting c)
    → stands_before t.counts k < way → Waits k c (take way (line_of t))
stands-in t way k c table there few =
    let count = counted t k table (get-below t.waits.items k (wait.Waiting c) there) in
    stands-among way k c 0 t.waits.items k (omega arith) there (omega (arith, few, count))

pub stands-not : (t : Table) (way k c d : ℕ) → IsTable t → slice_get t.waits.items k ≡ Some (wait.Waiting c)
    → way ≤ stands_before t.counts k → ¬ Waits k d (take way (line_of t))
stands-not t way k c d table there many waits =
    let is = among-stands way k d 0 t.waits.items waits in
    let here : k ≡ is.place = omega (arith, is.number) in
    let count = counted t k table (get-below t.waits.items k (wait.Waiting c) there) in
    let few : standing (take k t.waits.items) < way = rw here is.few in
    omega (arith, few, count, many)

pub absent-not : (t : Table) (way k d : ℕ) → ((c : ℕ) → slice_get t.waits.items k ≢ Some (wait.Waiting c))
    → ¬ Waits k d (take way (line_of t))
absent-not t way k d none waits =
    let is = among-stands way k d 0 t.waits.items waits in
    let here : k ≡ is.place = omega (arith, is.number) in
    none d (rw here is.there)

length-set : (xs : List WaitState) (i : ℕ) (v : WaitState) → length (set xs i v) ≡ length xs
length-set [] i v = refl
length-set (x ∷ xs) zero v = refl
length-set (x ∷ xs) (suc i) v = ap suc (length-set xs i v)

-- a write of the table and of its tree
pub lowered-table : (t u : Table) (k : ℕ) (old new : WaitState) → IsTable t → slice_get t.waits.items k ≡ Some old
    → flag (Some old) ≡ 1
    → flag (Some new) ≡ 0 → u.waits.items ≡ set t.waits.items k new → IsTree u.counts → IsLowered t.counts k u.counts
    → IsTable u
lowered-table t u k old new table there stood gone written tree lowered = record {
  tree = tree;
  room = omega (arith, table.room, ap length written, length-set t.waits.items k new, lowered.size);
  entered = omega (arith, lowered.raised, table.entered, ap length written, length-set t.waits.items k new);
  flags = λ j low. go j (omega (arith, low, lowered.size)) (cases_eq j k);
}
  where
    go : (j : ℕ) → j < size_of t.counts → (j ≡ k) ⊎ (j ≢ k) → leaf u.counts j ≡ flag (slice_get u.waits.items j)
    go j low (inl same) =
        let here : slice_get u.waits.items j ≡ Some new =
        rw (written, same) (get-set_here t.waits.items k old new there) in
        let was = table.flags k (omega (arith, low, same)) in
        let down = lowered.here in
        let one : flag (slice_get t.waits.items k) ≡ 1 = rw there stood in
        let zero_ : flag (slice_get u.waits.items j) ≡ 0 = rw here gone in
        let at : leaf u.counts j ≡ leaf u.counts k = ap (leaf u.counts) same in
        omega (arith, was, down, one, zero_, at)
    go j low (inr other) =
        let same : slice_get u.waits.items j ≡ slice_get t.waits.items j
        = ap (λ l. slice_get l j) written ∙ get-set_else t.waits.items k j new (λ e. other (sym e)) in
        lowered.others j other ∙ table.flags j low ∙ ap flag (sym same)

pub changed-table : (t u : Table) (k : ℕ) (old new : WaitState) → IsTable t → slice_get t.waits.items k ≡ Some old
    → flag (Some old) ≡ 0
    → flag (Some new) ≡ 0 → u.waits.items ≡ set t.waits.items k new → u.counts ≡ t.counts → IsTable u
changed-table t u k old new table there stood gone written same_tree = record {
  tree = rw same_tree table.tree;
  room = omega (arith, table.room, ap length written, length-set t.waits.items k new, ap size_of same_tree);
  entered = omega (
    arith,
    ap raised_of same_tree,
    table.entered,
    ap length written,
    length-set t.waits.items k new,
  );
  flags = λ j low. go j (omega (arith, low, ap size_of same_tree)) (cases_eq j k);
}
  where
    go : (j : ℕ) → j < size_of t.counts → (j ≡ k) ⊎ (j ≢ k) → leaf u.counts j ≡ flag (slice_get u.waits.items j)
    go j low (inl same) =
        let here : slice_get u.waits.items j ≡ Some new =
        rw (written, same) (get-set_here t.waits.items k old new there) in
        let was : leaf t.counts j ≡ flag (slice_get t.waits.items k) =
        table.flags j low ∙ ap (λ i. flag (slice_get t.waits.items i)) same in
        ap (λ c. leaf c j) same_tree ∙ was ∙ ap flag there ∙ stood ∙ sym gone ∙ ap flag (sym here)
    go j low (inr other) =
        let same : slice_get u.waits.items j ≡ slice_get t.waits.items j
        = ap (λ l. slice_get l j) written ∙ get-set_else t.waits.items k j new (λ e. other (sym e)) in
        ap (λ c. leaf c j) same_tree ∙ table.flags j low ∙ ap flag (sym same)

pub entered-table : (t u : Table) (c : ℕ) → IsTable t → length t.waits.items < size_of t.counts
    → u.waits.items ≡ t.waits.items ++ wait.Waiting c ∷ [] → IsTree u.counts
    → IsRaised t.counts (length t.waits.items) u.counts → IsTable u
entered-table t u c table low written tree raised = record {
  tree = tree;
  room = omega (arith, low, ap length written, length_push t.waits.items (wait.Waiting c), raised.size);
  entered = omega (
    arith,
    raised.raised,
    table.entered,
    ap length written,
    length_push t.waits.items (wait.Waiting c),
  );
  flags = λ j small. go j (omega (arith, small, raised.size)) (cases_lt j (length t.waits.items));
}
  where
    go : (j : ℕ) → j < size_of t.counts → (j < length t.waits.items) ⊎ (length t.waits.items ≤ j)
        → leaf u.counts j ≡ flag (slice_get u.waits.items j)
    go j small (inl below) =
        let same : slice_get u.waits.items j ≡ slice_get t.waits.items j
        = ap (λ l. slice_get l j) written ∙ get-append_below t.waits.items (wait.Waiting c ∷ []) j below in
        raised.others j (λ e. omega (arith, e, below)) ∙ table.flags j small ∙ ap flag (sym same)
    go j small (inr past) = last (cases_eq j (length t.waits.items))
      where
        last : (j ≡ length t.waits.items) ⊎ (j ≢ length t.waits.items)
            → leaf u.counts j ≡ flag (slice_get u.waits.items j)
        last (inl same) =
            let here : slice_get u.waits.items j ≡ Some (wait.Waiting c) = ap (λ l. slice_get l j) written
            ∙ get-push_at t.waits.items (wait.Waiting c) j same in
            let none : slice_get t.waits.items (length t.waits.items) ≡ None =
            get-past t.waits.items (length t.waits.items) (omega arith) in
            let was = table.flags (length t.waits.items) (omega (arith, small, same)) in
            let empty : flag (slice_get t.waits.items (length t.waits.items)) ≡ 0 = rw none refl in
            let one : flag (slice_get u.waits.items j) ≡ 1 = rw here refl in
            let at : leaf u.counts j ≡ leaf u.counts (length t.waits.items) = ap (leaf u.counts) same in
            omega (arith, was, empty, one, at, raised.here)
        last (inr other) =
            let none : slice_get t.waits.items j ≡ None = get-past t.waits.items j past in
            let past_u : slice_get u.waits.items j ≡ None
            = get-past u.waits.items j (omega
            (arith, past, other, ap length written, length_push t.waits.items (wait.Waiting c))) in
            raised.others j other ∙ table.flags j small ∙ ap flag (none ∙ sym past_u)

-- the next number is nobody's
pub passed-table : (t u : Table) → IsTable t → length t.waits.items < size_of t.counts
    → u.waits.items ≡ t.waits.items ++ wait.Gone ∷ [] → u.counts ≡ t.counts → IsTable u
passed-table t u table low written same_tree = record {
  tree = rw same_tree table.tree;
  room = omega (arith, low, ap length written, length_push t.waits.items wait.Gone, ap size_of same_tree);
  entered = omega (
    arith,
    ap raised_of same_tree,
    table.entered,
    ap length written,
    length_push t.waits.items wait.Gone,
  );
  flags = λ j small. ap (λ c. leaf c j) same_tree
      ∙ go j (omega (arith, small, ap size_of same_tree)) (cases_lt j (length t.waits.items));
}
  where
    go : (j : ℕ) → j < size_of t.counts → (j < length t.waits.items) ⊎ (length t.waits.items ≤ j)
        → leaf t.counts j ≡ flag (slice_get u.waits.items j)
    go j small (inl below) =
        let same : slice_get u.waits.items j ≡ slice_get t.waits.items j
        = ap (λ l. slice_get l j) written ∙ get-append_below t.waits.items (wait.Gone ∷ []) j below in
        table.flags j small ∙ ap flag (sym same)
    go j small (inr past) =
        let none : slice_get t.waits.items j ≡ None = get-past t.waits.items j past in
        table.flags j small ∙ ap flag none ∙ last (cases_eq j (length t.waits.items))
      where
        last : (j ≡ length t.waits.items) ⊎ (j ≢ length t.waits.items) → 0 ≡ flag (slice_get u.waits.items j)
        last (inl same) =
            let here : slice_get u.waits.items j ≡ Some wait.Gone = ap (λ l. slice_get l j) written
            ∙ get-push_at t.waits.items wait.Gone j same in
            rw here refl
        last (inr other) =
            let past_u : slice_get u.waits.items j ≡ None
            = get-past u.waits.items j (omega
            (arith, past, other, ap length written, length_push t.waits.items wait.Gone)) in
            rw past_u refl
