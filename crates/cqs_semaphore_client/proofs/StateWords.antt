-- What the tests of a semaphore's word say of its state.
use Rattle.std.proofs.Common.{◌≡◌, ◌≢◌, ℕ, ◌+◌, ◌-◌, ◌<◌, ◌≤◌, true, false, List, [], ◌∷◌, length, refl, ap, ⊎_elim, arith, slice_index, slice_set, ℤ, pos, ◌-ℤ◌, ◌+ℤ◌, ◌<ℤ◌, int_lt, int_le}
use Rattle.std.proofs.lemmas.Bool.{cases_Bool}
use Rattle.std.proofs.lemmas.Bool.Decides.{Decides-int_eq}
use Rattle.std.proofs.lemmas.Int.{ints}
use Rattle.std.specs.Ordering.{int_eq}
use Rattle.cqs_core.specs.SemaphoreTable.{lowest}
use Rattle.cqs_words.specs.State.{count_in}

-- what the tests of the word say of the state
pub state-free : (n : ℕ) → 4294967296 < n → int_lt (pos 0) (count_in n) ≡ true
state-free n above = grind (arith, ints)

pub state-none : (n : ℕ) → n ≤ 4294967296 → int_lt (pos 0) (count_in n) ≡ false
state-none n below = grind (arith, ints)

pub state-short : (n : ℕ) → n < 4294967296 → int_lt (count_in n) (pos 0) ≡ true
state-short n below = grind (arith, ints)

pub state-enough : (n : ℕ) → 4294967296 ≤ n → int_lt (count_in n) (pos 0) ≡ false
state-enough n above = grind (arith, ints)

pub state-some : (n : ℕ) → 4294967296 < n → int_le (count_in n) (pos 0) ≡ false
state-some n above = grind (arith, ints)

pub state-busy : (n : ℕ) → n ≤ 4294967296 → int_le (count_in n) (pos 0) ≡ true
state-busy n below = grind (arith, ints)

pub loaded-free : (n : ℕ) → pos 0 <ℤ count_in n → 4294967296 < n
loaded-free n above = grind (arith, ints)

-- whether the word is the one that was loaded shows in the state
same-word : (n saw : ℕ) → count_in n ≡ count_in saw → n ≡ saw
same-word n saw same = grind (arith, ints)

pub found-loaded : (n saw : ℕ) → n ≡ saw → int_eq (count_in n) (count_in saw) ≡ true
found-loaded n saw same = (Decides-int_eq (count_in n) (count_in saw)).1 (ap count_in same)

pub found-other : (n saw : ℕ) → n ≢ saw → int_eq (count_in n) (count_in saw) ≡ false
found-other n saw other = ⊎_elim
    (λ (same : int_eq (count_in n) (count_in saw) ≡ true).
    absurd (other (same-word n saw ((Decides-int_eq (count_in n) (count_in saw)).0 same))))
    (λ differs. differs)
    (cases_Bool (int_eq (count_in n) (count_in saw)))

-- the word is above 0 where the state is above the lowest
pub word-above : (n : ℕ) → lowest <ℤ count_in n → 1 < n
word-above n above = grind (arith, ints)

pub state-less : (n : ℕ) → 0 < n → count_in (n - 1) ≡ count_in n -ℤ pos 1
state-less n some = grind (arith, ints)

pub state-more : (n : ℕ) → count_in (n + 1) ≡ count_in n +ℤ pos 1
state-more n = grind (arith, ints)

pub above-lowest : (z : ℤ) → lowest <ℤ z → int_lt lowest z ≡ true
above-lowest z above = grind (arith, ints)

pub some-word : (words : List ℕ) → 0 < slice_index words 0 → 0 < length words
some-word [] some = some
some-word (w ∷ words) some = omega arith

pub written : (words : List ℕ) (x : ℕ) → 0 < length words → slice_index (slice_set words 0 x) 0 ≡ x
written [] x some = absurd (omega arith)
written (w ∷ words) x some = refl
