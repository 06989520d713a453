-- The broken numbers by number, as a number is broken, is drawn, or its caller comes to it.
use Rattle.std.proofs.Common.{◌≡◌, ◌≢◌, ◌⊎◌, inl, inr, ℕ, suc, ◌+◌, ◌<◌, nat_le, nat_lt, Bool, true, false, ◌||◌, List, [], ◌∷◌, Option, Some, None, if◌then◌else◌, refl, sym, ap, ap₂, ◌∙◌, subst, arith, eq-eqb, ne_eqb}
use Rattle.std.proofs.lemmas.Bool.{cases_eq, lt-leb}
use Rattle.cqs_core.specs.Numbered.{IsIn}
use Rattle.cqs_core.specs.Keyed.{insert_by, without, change_by}
use Rattle.cqs_core.specs.QueueLine.{Spoiled}
use Rattle.cqs_core.specs.SemaphoreEntries.{has_spoiled}
use Rattle.cqs_core.proofs.Counts.{bit}
use Rattle.cqs_core.proofs.Rising.{in-behind, in-none, Lacks, lacks-in}
use Rattle.cqs_core.proofs.Distinct.{AreDistinct, distinct-placed, distinct-without, distinct-changed}
use Rattle.cqs_core.proofs.SpoiledLists.{early-next, early-placed, early-without, early-changed, early-passed}
use Rattle.cqs_check.specs.declared.broken.Broken.{Broken}
use Rattle.cqs_check.specs.BrokenNumbers.{owner_in, owner_of, early_in, AreBroken, Sets}

owner-first : (k : ℕ) (s : Spoiled) (bs : List Spoiled) → k ≡ s.wait → owner_of k (s ∷ bs) ≡ Some s.pass
owner-first k s bs same = rw (eq-eqb k s.wait same) refl

owner-behind : (k : ℕ) (s : Spoiled) (bs : List Spoiled) → k ≢ s.wait → owner_of k (s ∷ bs) ≡ owner_of k bs
owner-behind k s bs other = rw (ne_eqb k s.wait other) refl

-- a number that isn't broken
pub owner-none : (k : ℕ) (bs : List Spoiled) → owner_of k bs ≡ None → Lacks (λ (s : Spoiled). s.wait) k bs
owner-none k [] none = tt
owner-none k (s ∷ bs) none = go (cases_eq k s.wait) (owner-none k bs)
  where
    go : (k ≡ s.wait) ⊎ (k ≢ s.wait) → (owner_of k bs ≡ None → Lacks (λ (s : Spoiled). s.wait) k bs)
        → Lacks (λ (s : Spoiled). s.wait) k (s ∷ bs)
    go (inl same) rest = absurd (cc (owner-first k s bs same, none))
    go (inr other) rest = ((λ e. other (sym e)), rest (sym (owner-behind k s bs other) ∙ none))

pub none-whole : (k : ℕ) (bs : List Spoiled) → owner_of k bs ≡ None → has_spoiled k bs ≡ false
none-whole k [] none = refl
none-whole k (s ∷ bs) none =
    let lacks = owner-none k (s ∷ bs) none in
    ap₂ (λ x y. x || y) (ne_eqb s.wait k lacks.0)
    (none-whole k bs (sym (owner-behind k s bs (λ e. lacks.0 (sym e))) ∙ none))

-- and one that is
pub some-broken : (k : ℕ) (bs : List Spoiled) (o : Option ℕ) → owner_of k bs ≡ Some o → has_spoiled k bs ≡ true
some-broken k [] o some = absurd (cc some)
some-broken k (s ∷ bs) o some = go (cases_eq k s.wait) (some-broken k bs o)
  where
    go : (k ≡ s.wait) ⊎ (k ≢ s.wait) → (owner_of k bs ≡ Some o → has_spoiled k bs ≡ true)
        → has_spoiled k (s ∷ bs) ≡ true
    go (inl same) rest = ap (λ x. x || has_spoiled k bs) (eq-eqb s.wait k (sym same))
    go (inr other) rest =
        ap₂ (λ x y. x || y) (ne_eqb s.wait k (λ e. other (sym e))) (rest (sym (owner-behind k s bs other) ∙ some))

pub owner-in : (k : ℕ) (o : Option ℕ) (bs : List Spoiled) → owner_of k bs ≡ Some o
    → IsIn (record { wait = k; pass = o }) bs
owner-in k o [] some = absurd (cc some)
owner-in k o (s ∷ bs) some = go (cases_eq k s.wait) (owner-in k o bs)
  where
    go : (k ≡ s.wait) ⊎ (k ≢ s.wait) → (owner_of k bs ≡ Some o → IsIn (record { wait = k; pass = o }) bs)
        → IsIn (record { wait = k; pass = o }) (s ∷ bs)
    go (inl same) rest =
        let pass : s.pass ≡ o = cc (owner-first k s bs same, some) in
        record {
          place = 0;
          there = ap₂ {C = Option Spoiled} (λ n p. Some (record { wait = n; pass = p })) (sym same) pass;
        }
    go (inr other) rest =
        let is = rest (sym (owner-behind k s bs other) ∙ some) in
        record { place = suc is.place; there = is.there }

pub in-owner : (k : ℕ) (o : Option ℕ) (bs : List Spoiled) → AreDistinct (λ (s : Spoiled). s.wait) bs
    → IsIn (record { wait = k; pass = o }) bs → owner_of k bs ≡ Some o
in-owner k o [] apart is = absurd (in-none (record { wait = k; pass = o }) is)
in-owner k o (s ∷ bs) apart is =
    go (in-behind (record { wait = k; pass = o }) s bs is) (λ later. in-owner k o bs apart.1 later)
  where
    mine : Spoiled
    mine = record { wait = k; pass = o }

    go : (mine ≡ s) ⊎ IsIn mine bs → (IsIn mine bs → owner_of k bs ≡ Some o) → owner_of k (s ∷ bs) ≡ Some o
    go (inl same) rest =
        owner-first k s bs (ap (λ (b : Spoiled). b.wait) same)
        ∙ ap (λ (b : Spoiled). Some b.pass) (sym same)
    go (inr later) rest =
        owner-behind k s bs (λ e. lacks-in (λ (b : Spoiled). b.wait) s.wait mine bs e later apart.0) ∙ rest later

-- one is put in
pub owner-placed : (k : ℕ) (b : Spoiled) (bs : List Spoiled) → owner_of b.wait bs ≡ None → k ≡ b.wait
    → owner_of k (insert_by (λ (s : Spoiled). s.wait) b bs) ≡ Some b.pass
owner-placed k b [] none here = owner-first k b [] here
owner-placed k b (s ∷ bs) none here =
    let lacks = owner-none b.wait (s ∷ bs) none in
    let other : k ≢ s.wait = λ e. lacks.0 (sym e ∙ here) in
    let away : b.wait ≢ s.wait = λ e. lacks.0 (sym e) in
    go (nat_lt b.wait s.wait) other
    (owner-placed k b bs (sym (owner-behind b.wait s bs away) ∙ none) here)
  where
    go : (t : Bool) → k ≢ s.wait → owner_of k (insert_by (λ (s : Spoiled). s.wait) b bs) ≡ Some b.pass
        → owner_of k (if t then b ∷ s ∷ bs else s ∷ insert_by (λ (s : Spoiled). s.wait) b bs) ≡ Some b.pass
    go true other rest = owner-first k b (s ∷ bs) here
    go false other rest = owner-behind k s (insert_by (λ (s : Spoiled). s.wait) b bs) other ∙ rest

pub owner-placed-else : (k : ℕ) (b : Spoiled) (bs : List Spoiled) → k ≢ b.wait
    → owner_of k (insert_by (λ (s : Spoiled). s.wait) b bs) ≡ owner_of k bs
owner-placed-else k b [] other = owner-behind k b [] other
owner-placed-else k b (s ∷ bs) other =
    go (nat_lt b.wait s.wait) (cases_eq k s.wait) (owner-placed-else k b bs other)
  where
    go : (t : Bool) → (k ≡ s.wait) ⊎ (k ≢ s.wait)
        → owner_of k (insert_by (λ (s : Spoiled). s.wait) b bs) ≡ owner_of k bs
        → owner_of k (if t then b ∷ s ∷ bs else s ∷ insert_by (λ (s : Spoiled). s.wait) b bs) ≡ owner_of k (s ∷ bs)
    go true which rest = owner-behind k b (s ∷ bs) other
    go false (inl same) rest =
        owner-first k s (insert_by (λ (s : Spoiled). s.wait) b bs) same ∙ sym (owner-first k s bs same)
    go false (inr away) rest =
        owner-behind k s (insert_by (λ (s : Spoiled). s.wait) b bs) away ∙ rest ∙ sym (owner-behind k s bs away)

-- one is left out
lacks-owner : (k : ℕ) (bs : List Spoiled) → Lacks (λ (s : Spoiled). s.wait) k bs → owner_of k bs ≡ None
lacks-owner k [] lacks = refl
lacks-owner k (s ∷ bs) lacks = owner-behind k s bs (λ e. lacks.0 (sym e)) ∙ lacks-owner k bs lacks.1

pub owner-without : (k : ℕ) (bs : List Spoiled) → AreDistinct (λ (s : Spoiled). s.wait) bs
    → owner_of k (without (λ (s : Spoiled). s.wait) k bs) ≡ None
owner-without k [] apart = refl
owner-without k (s ∷ bs) apart = go (cases_eq k s.wait) (owner-without k bs apart.1)
  where
    go : (k ≡ s.wait) ⊎ (k ≢ s.wait) → owner_of k (without (λ (s : Spoiled). s.wait) k bs) ≡ None
        → owner_of k (without (λ (s : Spoiled). s.wait) k (s ∷ bs)) ≡ None
    go (inl same) rest =
        let out : without (λ (s : Spoiled). s.wait) k (s ∷ bs) ≡ bs = rw (eq-eqb k s.wait same) refl in
        let lacks : Lacks (λ (s : Spoiled). s.wait) k bs =
        subst (λ n. Lacks (λ (s : Spoiled). s.wait) n bs) (sym same) apart.0 in
        ap (owner_of k) out ∙ lacks-owner k bs lacks
    go (inr other) rest =
        let out : without (λ (s : Spoiled). s.wait) k (s ∷ bs) ≡ s ∷ without (λ (s : Spoiled). s.wait) k bs
        = rw (ne_eqb k s.wait other) refl in
        ap (owner_of k) out ∙ owner-behind k s (without (λ (s : Spoiled). s.wait) k bs) other ∙ rest

pub owner-without-else : (k n : ℕ) (bs : List Spoiled) → k ≢ n
    → owner_of k (without (λ (s : Spoiled). s.wait) n bs) ≡ owner_of k bs
owner-without-else k n [] other = refl
owner-without-else k n (s ∷ bs) other = go (cases_eq n s.wait) (cases_eq k s.wait) (owner-without-else k n bs other)
  where
    go : (n ≡ s.wait) ⊎ (n ≢ s.wait) → (k ≡ s.wait) ⊎ (k ≢ s.wait)
        → owner_of k (without (λ (s : Spoiled). s.wait) n bs) ≡ owner_of k bs
        → owner_of k (without (λ (s : Spoiled). s.wait) n (s ∷ bs)) ≡ owner_of k (s ∷ bs)
    go (inl here) which rest =
        let out : without (λ (s : Spoiled). s.wait) n (s ∷ bs) ≡ bs = rw (eq-eqb n s.wait here) refl in
        ap (owner_of k) out ∙ sym (owner-behind k s bs (λ e. other (e ∙ sym here)))
    go (inr away) (inl same) rest =
        let out : without (λ (s : Spoiled). s.wait) n (s ∷ bs) ≡ s ∷ without (λ (s : Spoiled). s.wait) n bs
        = rw (ne_eqb n s.wait away) refl in
        ap (owner_of k) out ∙ owner-first k s (without (λ (s : Spoiled). s.wait) n bs) same
        ∙ sym (owner-first k s bs same)
    go (inr away) (inr far) rest =
        let out : without (λ (s : Spoiled). s.wait) n (s ∷ bs) ≡ s ∷ without (λ (s : Spoiled). s.wait) n bs
        = rw (ne_eqb n s.wait away) refl in
        ap (owner_of k) out ∙ owner-behind k s (without (λ (s : Spoiled). s.wait) n bs) far ∙ rest
        ∙ sym (owner-behind k s bs far)

-- one is drawn by a caller
abbrev pub drawn_by : ℕ → Spoiled → Spoiled
drawn_by c s = record { wait = s.wait; pass = Some c }

pub owner-drawn : (k c : ℕ) (o : Option ℕ) (bs : List Spoiled) → owner_of k bs ≡ Some o
    → owner_of k (change_by (λ (s : Spoiled). s.wait) k (λ s. record { wait = s.wait; pass = Some c }) bs)
    ≡ Some (Some c)
owner-drawn k c o [] some = absurd (cc some)
owner-drawn k c o (s ∷ bs) some = go (cases_eq k s.wait) (owner-drawn k c o bs)
  where
    rest_of : List Spoiled
    rest_of = change_by (λ (s : Spoiled). s.wait) k (λ s. record { wait = s.wait; pass = Some c }) bs

    all_of : List Spoiled
    all_of = change_by (λ (s : Spoiled). s.wait) k (λ s. record { wait = s.wait; pass = Some c }) (s ∷ bs)

    go : (k ≡ s.wait) ⊎ (k ≢ s.wait) → (owner_of k bs ≡ Some o → owner_of k rest_of ≡ Some (Some c))
        → owner_of k all_of ≡ Some (Some c)
    go (inl same) rest =
        let out : all_of ≡ drawn_by c s ∷ bs = rw (eq-eqb k s.wait same) refl in
        ap (owner_of k) out ∙ owner-first k (drawn_by c s) bs same
    go (inr other) rest =
        let out : all_of ≡ s ∷ rest_of = rw (ne_eqb k s.wait other) refl in
        ap (owner_of k) out ∙ owner-behind k s rest_of other ∙ rest (sym (owner-behind k s bs other) ∙ some)

pub owner-drawn-else : (k n c : ℕ) (bs : List Spoiled) → k ≢ n
    → owner_of k (change_by (λ (s : Spoiled). s.wait) n (λ s. record { wait = s.wait; pass = Some c }) bs)
    ≡ owner_of k bs
owner-drawn-else k n c [] other = refl
owner-drawn-else k n c (s ∷ bs) other = go (cases_eq n s.wait) (cases_eq k s.wait) (owner-drawn-else k n c bs other)
  where
    rest_of : List Spoiled
    rest_of = change_by (λ (s : Spoiled). s.wait) n (λ s. record { wait = s.wait; pass = Some c }) bs

    all_of : List Spoiled
    all_of = change_by (λ (s : Spoiled). s.wait) n (λ s. record { wait = s.wait; pass = Some c }) (s ∷ bs)

    go : (n ≡ s.wait) ⊎ (n ≢ s.wait) → (k ≡ s.wait) ⊎ (k ≢ s.wait) → owner_of k rest_of ≡ owner_of k bs
        → owner_of k all_of ≡ owner_of k (s ∷ bs)
    go (inl here) which rest =
        let out : all_of ≡ drawn_by c s ∷ bs = rw (eq-eqb n s.wait here) refl in
        let far : k ≢ s.wait = λ e. other (e ∙ sym here) in
        ap (owner_of k) out ∙ owner-behind k (drawn_by c s) bs far ∙ sym (owner-behind k s bs far)
    go (inr away) (inl same) rest =
        let out : all_of ≡ s ∷ rest_of = rw (ne_eqb n s.wait away) refl in
        ap (owner_of k) out ∙ owner-first k s rest_of same ∙ sym (owner-first k s bs same)
    go (inr away) (inr far) rest =
        let out : all_of ≡ s ∷ rest_of = rw (ne_eqb n s.wait away) refl in
        ap (owner_of k) out ∙ owner-behind k s rest_of far ∙ rest ∙ sym (owner-behind k s bs far)

-- What the broken numbers are after a change.

pub broken-placed : (old new : Broken) (next k : ℕ) (o : Option ℕ) (bs : List Spoiled) → AreBroken old next bs
    → owner_in old k ≡ None → Sets old k (Some o) new → early_in new ≡ early_in old + bit (nat_le next k)
    → ((c : ℕ) → o ≡ Some c → k < next)
    → AreBroken new next (insert_by (λ (s : Spoiled). s.wait) (record { wait = k; pass = o }) bs)
broken-placed old new next k o bs are none sets early drawn =
    let absent : owner_of k bs ≡ None = sym (are.owners k) ∙ none in
    record {
      owners = λ n. owner n (cases_eq n k) absent;
      apart = distinct-placed (λ (s : Spoiled). s.wait) mine bs (owner-none k bs absent) are.apart;
      early = early ∙ ap (λ n. n + bit (nat_le next k)) are.early ∙ sym (early-placed next mine bs);
      drawn = λ n c is. below n c (cases_eq n k) is;
    }
  where
    mine : Spoiled
    mine = record { wait = k; pass = o }

    owner : (n : ℕ) → (n ≡ k) ⊎ (n ≢ k) → owner_of k bs ≡ None
        → owner_in new n ≡ owner_of n (insert_by (λ (s : Spoiled). s.wait) mine bs)
    owner n (inl same) absent = ap (owner_in new) same ∙ sets.here ∙ sym (owner-placed n mine bs absent same)
    owner n (inr other) absent =
        sets.others n other ∙ are.owners n ∙ sym (owner-placed-else n mine bs other)

    below : (n c : ℕ) → (n ≡ k) ⊎ (n ≢ k) → owner_in new n ≡ Some (Some c) → n < next
    below n c (inl same) is =
        let mine_is : Some o ≡ Some (Some c) = sym sets.here ∙ ap (owner_in new) (sym same) ∙ is in
        omega (arith, same, drawn c (cc mine_is))
    below n c (inr other) is = are.drawn n c (sym (sets.others n other) ∙ is)

pub broken-drawn : (old new : Broken) (next c : ℕ) (o : Option ℕ) (bs : List Spoiled) → AreBroken old next bs
    → owner_in old next ≡ Some o → Sets old next (Some (Some c)) new → early_in new + 1 ≡ early_in old
    → AreBroken new (next + 1)
    (change_by (λ (s : Spoiled). s.wait) next (λ s. record { wait = s.wait; pass = Some c }) bs)
broken-drawn old new next c o bs are some sets early =
    let there : owner_of next bs ≡ Some o = sym (are.owners next) ∙ some in
    let passed = early-passed next bs are.apart (some-broken next bs o there) in
    let kept = early-changed (next + 1) next (drawn_by c) (λ s. refl) bs in
    record {
      owners = λ n. owner n (cases_eq n next) there;
      apart = distinct-changed (λ (s : Spoiled). s.wait) (drawn_by c) (λ s. refl) next bs are.apart;
      early = omega (arith, early, are.early, passed, kept);
      drawn = λ n d is. below n d (cases_eq n next) is;
    }
  where
    owner : (n : ℕ) → (n ≡ next) ⊎ (n ≢ next) → owner_of next bs ≡ Some o
        → owner_in new n
        ≡ owner_of n (change_by (λ (s : Spoiled). s.wait) next (λ s. record { wait = s.wait; pass = Some c }) bs)
    owner n (inl same) there = rw same (sets.here ∙ sym (owner-drawn next c o bs there))
    owner n (inr other) there = sets.others n other ∙ are.owners n ∙ sym (owner-drawn-else n next c bs other)

    below : (n d : ℕ) → (n ≡ next) ⊎ (n ≢ next) → owner_in new n ≡ Some (Some d) → n < next + 1
    below n d (inl same) is = omega (arith, same)
    below n d (inr other) is = omega (arith, are.drawn n d (sym (sets.others n other) ∙ is))

pub broken-gone : (old new : Broken) (next k c : ℕ) (bs : List Spoiled) → AreBroken old next bs
    → owner_in old k ≡ Some (Some c) → Sets old k None new → early_in new ≡ early_in old
    → AreBroken new next (without (λ (s : Spoiled). s.wait) k bs)
broken-gone old new next k c bs are some sets early =
    let there = owner-in k (Some c) bs (sym (are.owners k) ∙ some) in
    let fewer = early-without next (record { wait = k; pass = Some c }) bs there in
    let low : nat_le next k ≡ false = lt-leb next k (are.drawn k c some) in
    let none : bit (nat_le next k) ≡ 0 = ap bit low in
    record {
      owners = λ n. owner n (cases_eq n k);
      apart = distinct-without (λ (s : Spoiled). s.wait) k bs are.apart;
      early = omega (arith, early, are.early, fewer, none);
      drawn = λ n d is. below n d (cases_eq n k) is;
    }
  where
    owner : (n : ℕ) → (n ≡ k) ⊎ (n ≢ k) → owner_in new n ≡ owner_of n (without (λ (s : Spoiled). s.wait) k bs)
    owner n (inl same) = rw same (sets.here ∙ sym (owner-without k bs are.apart))
    owner n (inr other) = sets.others n other ∙ are.owners n ∙ sym (owner-without-else n k bs other)

    below : (n d : ℕ) → (n ≡ k) ⊎ (n ≢ k) → owner_in new n ≡ Some (Some d) → n < next
    below n d (inl same) is = absurd (cc (is, same, sets.here))
    below n d (inr other) is = are.drawn n d (sym (sets.others n other) ∙ is)

-- the next number is drawn, and isn't broken
pub broken-next : (b : Broken) (next : ℕ) (bs : List Spoiled) → AreBroken b next bs → owner_in b next ≡ None
    → AreBroken b (next + 1) bs
broken-next b next bs are none =
    let whole = none-whole next bs (sym (are.owners next) ∙ none) in
    record {
      owners = are.owners;
      apart = are.apart;
      early = are.early ∙ sym (early-next next bs whole);
      drawn = λ k c is. omega (arith, are.drawn k c is);
    }

-- where it is broken, it is one of those that nobody has drawn
pub early-some : (b : Broken) (next : ℕ) (o : Option ℕ) (bs : List Spoiled) → AreBroken b next bs
    → owner_in b next ≡ Some o → 0 < early_in b
early-some b next o bs are some =
    let there : owner_of next bs ≡ Some o = sym (are.owners next) ∙ some in
    omega (arith, are.early, early-passed next bs are.apart (some-broken next bs o there))
