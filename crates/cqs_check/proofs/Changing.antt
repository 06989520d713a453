-- On the way up from a leaf to the root, changing each node by one.
use Rattle.std.proofs.Common.{◌≡◌, ◌≢◌, ◌⊎◌, inl, inr, ℕ, zero, suc, ◌+◌, ◌-◌, ◌/◌, ◌<◌, ◌≤◌, List, [], ◌∷◌, length, set, slice_index, refl, sym, ap, ◌∙◌, arith}
use Rattle.std.proofs.lemmas.Bool.{cases_eq}
use Rattle.cqs_check.specs.declared.counts.Counts.{Counts}
use Rattle.cqs_check.specs.Trees.{IsPair, IsTree, IsRaised, IsLowered, leaf}

pub index-here : (xs : List ℕ) (i v : ℕ) → i < length xs → slice_index (set xs i v) i ≡ v
index-here [] i v low = absurd (omega (arith, low))
index-here (x ∷ xs) zero v low = refl
index-here (x ∷ xs) (suc i) v low = index-here xs i v (omega (arith, low))

pub index-else : (xs : List ℕ) (i j v : ℕ) → j ≢ i → slice_index (set xs i v) j ≡ slice_index xs j
index-else [] i j v other = refl
index-else (x ∷ xs) zero zero v other = absurd (other refl)
index-else (x ∷ xs) zero (suc j) v other = refl
index-else (x ∷ xs) (suc i) zero v other = refl
index-else (x ∷ xs) (suc i) (suc j) v other = index-else xs i j v (λ e. other (ap suc e))

pub length-set : (xs : List ℕ) (i v : ℕ) → length (set xs i v) ≡ length xs
length-set [] i v = refl
length-set (x ∷ xs) zero v = refl
length-set (x ∷ xs) (suc i) v = ap suc (length-set xs i v)

-- `node` is the next to be raised
pub record IsRaising (old : Counts) (number : ℕ) (now : Counts) (node : ℕ) : Type 0 where
  pub size : now.size ≡ old.size
  pub raised : now.raised ≡ old.raised + 1
  pub long : length now.nodes.items ≡ now.size + now.size
  pub low : node < now.size
  pub pairs : (i : ℕ) → 0 < i → i < now.size → i ≢ node → IsPair now.nodes.items i
  pub short : 0 < node → slice_index now.nodes.items node + 1
      ≡ slice_index now.nodes.items (node + node) + slice_index now.nodes.items (node + node + 1)
  pub few : (i : ℕ) → slice_index now.nodes.items i ≤ now.raised
  pub fewer : (i : ℕ) → i ≤ node → slice_index now.nodes.items i ≤ old.raised
  pub here : leaf now number ≡ leaf old number + 1
  pub others : (j : ℕ) → j ≢ number → leaf now j ≡ leaf old j

-- `node` is the next to be lowered
pub record IsLowering (old : Counts) (number : ℕ) (now : Counts) (node : ℕ) : Type 0 where
  pub size : now.size ≡ old.size
  pub raised : now.raised ≡ old.raised
  pub long : length now.nodes.items ≡ now.size + now.size
  pub low : node < now.size
  pub pairs : (i : ℕ) → 0 < i → i < now.size → i ≢ node → IsPair now.nodes.items i
  pub short : 0 < node → slice_index now.nodes.items node
      ≡ slice_index now.nodes.items (node + node) + slice_index now.nodes.items (node + node + 1) + 1
  pub few : (i : ℕ) → slice_index now.nodes.items i ≤ now.raised
  pub here : leaf old number ≡ leaf now number + 1
  pub others : (j : ℕ) → j ≢ number → leaf now j ≡ leaf old j

-- One list is the other but for one node.
pub record IsBut (t u : List ℕ) (at : ℕ) : Type 0 where
  pub same : (i : ℕ) → i ≢ at → slice_index u i ≡ slice_index t i

but-set : (t : List ℕ) (at v : ℕ) → IsBut t (set t at v) at
but-set t at v = record { same = λ i other. index-else t at i v other }

pair-far : (t u : List ℕ) (at i : ℕ) → IsBut t u at → i ≢ at → i + i ≢ at → i + i + 1 ≢ at → IsPair t i → IsPair u i
pair-far t u at i but here left right pair =
    omega (arith, pair, but.same i here, but.same (i + i) left, but.same (i + i + 1) right)

-- the parent of a node that was raised is one short, and that of one that was lowered one too many
pair-hit : (t u : List ℕ) (at half : ℕ) → IsBut t u at → 0 < half → half ≡ at / 2
    → slice_index u at ≡ slice_index t at + 1 → IsPair t half
    → slice_index u half + 1 ≡ slice_index u (half + half) + slice_index u (half + half + 1)
pair-hit t u at half but some above hit pair = go (cases_eq (half + half) at)
  where
    go : (half + half ≡ at) ⊎ (half + half ≢ at)
        → slice_index u half + 1 ≡ slice_index u (half + half) + slice_index u (half + half + 1)
    go (inl same) =
        let mine = but.same half (λ e. omega (arith, e, same, some)) in
        let right = but.same (half + half + 1) (λ e. omega (arith, e, same)) in
        let left : slice_index u (half + half) ≡ slice_index t (half + half) + 1 = rw same hit in
        omega (arith, pair, mine, right, left)
    go (inr other) =
        let same : half + half + 1 ≡ at = omega (arith, above, other) in
        let mine = but.same half (λ e. omega (arith, e, same, some)) in
        let left = but.same (half + half) other in
        let right : slice_index u (half + half + 1) ≡ slice_index t (half + half + 1) + 1 = rw same hit in
        omega (arith, pair, mine, right, left)

pair-drop : (t u : List ℕ) (at half : ℕ) → IsBut t u at → 0 < half → half ≡ at / 2
    → slice_index t at ≡ slice_index u at + 1 → IsPair t half
    → slice_index u half ≡ slice_index u (half + half) + slice_index u (half + half + 1) + 1
pair-drop t u at half but some above hit pair = go (cases_eq (half + half) at)
  where
    go : (half + half ≡ at) ⊎ (half + half ≢ at)
        → slice_index u half ≡ slice_index u (half + half) + slice_index u (half + half + 1) + 1
    go (inl same) =
        let mine = but.same half (λ e. omega (arith, e, same, some)) in
        let right = but.same (half + half + 1) (λ e. omega (arith, e, same)) in
        let left : slice_index t (half + half) ≡ slice_index u (half + half) + 1 = rw same hit in
        omega (arith, pair, mine, right, left)
    go (inr other) =
        let same : half + half + 1 ≡ at = omega (arith, above, other) in
        let mine = but.same half (λ e. omega (arith, e, same, some)) in
        let left = but.same (half + half) other in
        let right : slice_index t (half + half + 1) ≡ slice_index u (half + half + 1) + 1 = rw same hit in
        omega (arith, pair, mine, right, left)

-- a bound of all nodes, where one of them is below it by one
few-hit : (t u : List ℕ) (at least most : ℕ) → IsBut t u at → ((i : ℕ) → slice_index t i ≤ most)
    → slice_index u at ≤ most
    → (i : ℕ) → slice_index u i ≤ most
few-hit t u at least most but few here i = go (cases_eq i at)
  where
    go : (i ≡ at) ⊎ (i ≢ at) → slice_index u i ≤ most
    go (inl same) = rw same here
    go (inr other) = omega (arith, but.same i other, few i)

leaf-at : (old now : Counts) (j : ℕ) → now.size ≡ old.size → leaf now j ≡ slice_index now.nodes.items (old.size + j)
leaf-at old now j size = ap (λ s. slice_index now.nodes.items (s + j)) size

-- the leaf was raised, and the node above it is the next
pub raising-starts : (old now : Counts) (number node : ℕ) → IsTree old → number < old.size
    → now.size ≡ old.size → now.raised ≡ old.raised + 1
    → now.nodes.items ≡ set old.nodes.items (old.size + number) (slice_index old.nodes.items (old.size + number) + 1)
    → node ≡ (old.size + number) / 2 → IsRaising old number now node
raising-starts old now number node tree low size raised written above =
    let t : List ℕ = old.nodes.items in
    let u : List ℕ = now.nodes.items in
    let at : ℕ = old.size + number in
    let but : IsBut t u at = rw written (but-set t at (slice_index t at + 1)) in
    let hit : slice_index u at ≡ slice_index t at + 1
    = ap (λ l. slice_index l at) written ∙ index-here t at (slice_index t at + 1) (omega (arith, low, tree.long)) in
    record {
      size = size;
      raised = raised;
      long = ap length written ∙ length-set t at (slice_index t at + 1) ∙ omega (arith, tree.long, size);
      low = omega (arith, above, low, size);
      pairs = λ i some small other. pair-far t u at i but (λ e. omega (arith, e, small, size))
          (λ e. other (omega (arith, e, above))) (λ e. other (omega (arith, e, above)))
          (tree.pairs i some (omega (arith, small, size)));
      short = λ some. pair-hit t u at node but some above hit (tree.pairs node some (omega (arith, above, low)));
      few = few-hit t u at 0 now.raised but (λ i. omega (arith, tree.few i, raised))
          (omega (arith, hit, tree.few at, raised));
      fewer = λ i small. omega (arith, but.same i (λ e. omega (arith, e, small, above, low)), tree.few i);
      here = leaf-at old now number size ∙ hit;
      others = λ j other. leaf-at old now j size ∙ but.same (old.size + j) (λ e. other (omega (arith, e)));
    }

-- the node was raised, and the one above it is the next
pub raising-next : (old now later : Counts) (number node half : ℕ) → IsRaising old number now node → 0 < node
    → later.size ≡ now.size → later.raised ≡ now.raised
    → later.nodes.items ≡ set now.nodes.items node (slice_index now.nodes.items node + 1)
    → half ≡ node / 2 → IsRaising old number later half
raising-next old now later number node half way some size raised written above =
    let t : List ℕ = now.nodes.items in
    let u : List ℕ = later.nodes.items in
    let but : IsBut t u node = rw written (but-set t node (slice_index t node + 1)) in
    let hit : slice_index u node ≡ slice_index t node + 1
    = ap (λ l. slice_index l node) written
    ∙ index-here t node (slice_index t node + 1) (omega (arith, way.low, way.long)) in
    record {
      size = size ∙ way.size;
      raised = raised ∙ way.raised;
      long = ap length written ∙ length-set t node (slice_index t node + 1) ∙ omega (arith, way.long, size);
      low = omega (arith, above, way.low, size);
      pairs = λ i pos small other. raised_here i (cases_eq i node) pos (omega (arith, small, size)) other but hit;
      short = λ pos. pair-hit t u node half but pos above hit
          (way.pairs half pos (omega (arith, above, way.low)) (λ e. omega (arith, e, above, some)));
      few = few-hit t u node 0 later.raised but (λ i. omega (arith, way.few i, raised))
          (omega (arith, hit, way.fewer node (omega arith), way.raised, raised));
      fewer = λ i small. omega (
        arith,
        but.same i (λ e. omega (arith, e, small, above, some)),
        way.fewer i
            (omega (arith, small, above)),
      );
      here = leaf-at now later number size ∙ but.same (now.size + number) (λ e. omega (arith, e, way.low)) ∙ way.here;
      others = λ j other. leaf-at now later j size ∙ but.same (now.size + j) (λ e. omega (arith, e, way.low))
          ∙ way.others j other;
    }
  where
    raised_here : (i : ℕ) → (i ≡ node) ⊎ (i ≢ node) → 0 < i → i < now.size → i ≢ half
        → IsBut now.nodes.items later.nodes.items node
        → slice_index later.nodes.items node ≡ slice_index now.nodes.items node + 1 → IsPair later.nodes.items i
    raised_here i (inl same) pos small other but hit =
        let mine : slice_index later.nodes.items i ≡ slice_index now.nodes.items node + 1 = rw same hit in
        let left : slice_index later.nodes.items (i + i) ≡ slice_index now.nodes.items (node + node)
        = but.same (i + i) (λ e. omega (arith, e, same, pos)) ∙ ap (λ k. slice_index now.nodes.items (k + k)) same in
        let right : slice_index later.nodes.items (i + i + 1) ≡ slice_index now.nodes.items (node + node + 1)
        = but.same (i + i + 1) (λ e. omega (arith, e, same, pos))
        ∙ ap (λ k. slice_index now.nodes.items (k + k + 1)) same in
        omega (arith, mine, left, right, way.short some)
    raised_here i (inr far) pos small other but hit =
        pair-far now.nodes.items later.nodes.items node i but far (λ e. other (omega (arith, e, above)))
        (λ e. other (omega (arith, e, above))) (way.pairs i pos small far)

pub raising-ends : (old now : Counts) (number node : ℕ) → IsTree old → IsRaising old number now node → node ≡ 0
    → IsTree now × IsRaised old number now
raising-ends old now number node tree way end = (
  record {
    height = tree.height;
    power = way.size ∙ tree.power;
    long = way.long;
    small = omega (arith, way.size, tree.small);
    pairs = λ i some small. way.pairs i some small (λ e. omega (arith, e, end, some));
    few = way.few;
  },
  record { size = way.size; raised = way.raised; here = way.here; others = way.others },
)

-- and the same of a leaf that is lowered
pub lowering-starts : (old now : Counts) (number node : ℕ) → IsTree old → number < old.size → 0 < leaf old number
    → now.size ≡ old.size → now.raised ≡ old.raised
    → now.nodes.items ≡ set old.nodes.items (old.size + number) (slice_index old.nodes.items (old.size + number) - 1)
    → node ≡ (old.size + number) / 2 → IsLowering old number now node
lowering-starts old now number node tree low stands size raised written above =
    let t : List ℕ = old.nodes.items in
    let u : List ℕ = now.nodes.items in
    let at : ℕ = old.size + number in
    let but : IsBut t u at = rw written (but-set t at (slice_index t at - 1)) in
    let down : slice_index u at ≡ slice_index t at - 1
    = ap (λ l. slice_index l at) written ∙ index-here t at (slice_index t at - 1) (omega (arith, low, tree.long)) in
    let hit : slice_index t at ≡ slice_index u at + 1 = omega (arith, down, stands) in
    record {
      size = size;
      raised = raised;
      long = ap length written ∙ length-set t at (slice_index t at - 1) ∙ omega (arith, tree.long, size);
      low = omega (arith, above, low, size);
      pairs = λ i some small other. pair-far t u at i but (λ e. omega (arith, e, small, size))
          (λ e. other (omega (arith, e, above))) (λ e. other (omega (arith, e, above)))
          (tree.pairs i some (omega (arith, small, size)));
      short = λ some. pair-drop t u at node but some above hit (tree.pairs node some (omega (arith, above, low)));
      few = few-hit t u at 0 now.raised but (λ i. omega (arith, tree.few i, raised))
          (omega (arith, hit, tree.few at, raised));
      here = hit ∙ ap (λ n. n + 1) (sym (leaf-at old now number size));
      others = λ j other. leaf-at old now j size ∙ but.same (old.size + j) (λ e. other (omega (arith, e)));
    }

pub lowering-next : (old now later : Counts) (number node half : ℕ) → IsLowering old number now node → 0 < node
    → later.size ≡ now.size → later.raised ≡ now.raised
    → later.nodes.items ≡ set now.nodes.items node (slice_index now.nodes.items node - 1)
    → half ≡ node / 2 → IsLowering old number later half
lowering-next old now later number node half way some size raised written above =
    let t : List ℕ = now.nodes.items in
    let u : List ℕ = later.nodes.items in
    let but : IsBut t u node = rw written (but-set t node (slice_index t node - 1)) in
    let down : slice_index u node ≡ slice_index t node - 1
    = ap (λ l. slice_index l node) written
    ∙ index-here t node (slice_index t node - 1) (omega (arith, way.low, way.long)) in
    let hit : slice_index t node ≡ slice_index u node + 1 = omega (arith, down, way.short some) in
    record {
      size = size ∙ way.size;
      raised = raised ∙ way.raised;
      long = ap length written ∙ length-set t node (slice_index t node - 1) ∙ omega (arith, way.long, size);
      low = omega (arith, above, way.low, size);
      pairs = λ i pos small other. lowered_here i (cases_eq i node) pos (omega (arith, small, size)) other but hit;
      short = λ pos. pair-drop t u node half but pos above hit
          (way.pairs half pos (omega (arith, above, way.low)) (λ e. omega (arith, e, above, some)));
      few = few-hit t u node 0 later.raised but (λ i. omega (arith, way.few i, raised))
          (omega (arith, hit, way.few node, raised));
      here = way.here ∙ ap (λ n. n + 1) (sym (leaf-at now later number size
          ∙ but.same (now.size + number) (λ e. omega (arith, e, way.low))));
      others = λ j other. leaf-at now later j size ∙ but.same (now.size + j) (λ e. omega (arith, e, way.low))
          ∙ way.others j other;
    }
  where
    lowered_here : (i : ℕ) → (i ≡ node) ⊎ (i ≢ node) → 0 < i → i < now.size → i ≢ half
        → IsBut now.nodes.items later.nodes.items node
        → slice_index now.nodes.items node ≡ slice_index later.nodes.items node + 1 → IsPair later.nodes.items i
    lowered_here i (inl same) pos small other but hit =
        let mine : slice_index now.nodes.items node ≡ slice_index later.nodes.items i + 1 = rw same hit in
        let left : slice_index later.nodes.items (i + i) ≡ slice_index now.nodes.items (node + node)
        = but.same (i + i) (λ e. omega (arith, e, same, pos)) ∙ ap (λ k. slice_index now.nodes.items (k + k)) same in
        let right : slice_index later.nodes.items (i + i + 1) ≡ slice_index now.nodes.items (node + node + 1)
        = but.same (i + i + 1) (λ e. omega (arith, e, same, pos))
        ∙ ap (λ k. slice_index now.nodes.items (k + k + 1)) same in
        omega (arith, mine, left, right, way.short some)
    lowered_here i (inr far) pos small other but hit =
        pair-far now.nodes.items later.nodes.items node i but far (λ e. other (omega (arith, e, above)))
        (λ e. other (omega (arith, e, above))) (way.pairs i pos small far)

pub lowering-ends : (old now : Counts) (number node : ℕ) → IsTree old → IsLowering old number now node → node ≡ 0
    → IsTree now × IsLowered old number now
lowering-ends old now number node tree way end = (
  record {
    height = tree.height;
    power = way.size ∙ tree.power;
    long = way.long;
    small = omega (arith, way.size, tree.small);
    pairs = λ i some small. way.pairs i some small (λ e. omega (arith, e, end, some));
    few = way.few;
  },
  record { size = way.size; raised = way.raised; here = way.here; others = way.others },
)
