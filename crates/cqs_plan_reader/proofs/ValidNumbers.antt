-- What a part of a document without a fault is.
use Rattle.std.proofs.Common.{◌≡◌, ℕ, zero, suc, ◌+◌, ◌<◌, ℤ, pos, negsuc, Bool, true, false, ◌&&◌, List, [], ◌∷◌, ◌++◌, length, get_or, Option, Some, None, refl, arith}
use Rattle.std.specs.Prelude.{int_le}
use Rattle.std.specs.Int.{IsInRange}
use Rattle.std.proofs.lemmas.Bool.{and_parts, false≢true, leb-true}
use Rattle.toml.specs.Data.{Data, as_integer}
use Rattle.cqs_plan.specs.declared.plans.fault_kind.FaultKind.{FaultKind}
use Rattle.cqs_plan_reader.specs.FaultRules.{Fault, require, expect_shape, unless}
use Rattle.cqs_plan_reader.specs.Faults.{number_faults}
use Rattle.cqs_plan_reader.specs.Meaning.{count_in, number_in}
use Rattle.cqs_plan_reader.proofs.FirstFaults.{faults_from}

-- two lists of faults are empty together
pub no_faults : (a b : List Fault) → a ++ b ≡ [] → (a ≡ []) × (b ≡ [])
no_faults [] b none = (refl, none)
no_faults (x ∷ a) b none = cc

pub unless-passed : (test : Bool) (place : List ℕ) (kind : FaultKind) → unless test place kind ≡ []
    → test ≡ true
unless-passed true place kind none = refl
unless-passed false place kind none = cc

-- the value that has to be there
pub required-there : (place : List ℕ) (value : Option Data) (faults : Data → List Fault)
    → require place value faults ≡ []
    → (d : Data) × (value ≡ Some d) × (faults d ≡ [])
required-there place None faults none = cc
required-there place (Some d) faults none = (d, refl, none)

-- the value of the type that it has to have
pub shaped-right : {X : Type 0} (place : List ℕ) (value : Option X) (faults : X → List Fault)
    → expect_shape place value faults ≡ []
    → (x : X) × (value ≡ Some x) × (faults x ≡ [])
shaped-right place None faults none = cc
shaped-right place (Some x) faults none = (x, refl, none)

-- an integer between two bounds is a count between them
in_range : (least most : ℕ) (z : ℤ) → (int_le (pos least) z && int_le z (pos most)) ≡ true
    → IsInRange least most (count_in z)
in_range least most (pos n) within =
    let parts = and_parts (int_le (pos least) (pos n)) (int_le (pos n) (pos most)) within in
    (leb-true least n parts.0, leb-true n most parts.1)
in_range least most (negsuc n) within = absurd (false≢true within)

pub number-valid : (place : List ℕ) (least most : ℕ) (d : Data) → number_faults place least most d ≡ []
    → IsInRange least most (number_in (Some d))
number-valid place least most d none =
    let (z, is, passed) = shaped-right place (as_integer d) _ none in
    rw is (in_range least most z (unless-passed _ place _ passed))

pub required_number-valid : (place : List ℕ) (least most : ℕ) (value : Option Data)
    → require place value (number_faults place least most) ≡ [] → IsInRange least most (number_in value)
required_number-valid place least most value none =
    let (d, is, faultless) = required-there place value (number_faults place least most) none in
    rw is (number-valid place least most d faultless)

-- no element of a list has a fault
pub each-faultless : {X : Type 0} (faults : ℕ → X → List Fault) (n m : ℕ) (xs : List X) (i : ℕ) (d : X)
    → faults_from faults n xs ≡ []
    → m ≡ n + i → i < length xs → faults m (get_or xs i d) ≡ []
each-faultless faults n m [] i d none is below = absurd (omega arith)
each-faultless faults n m (x ∷ xs) zero d none is below =
    let here : m ≡ n = omega arith in rw here (no_faults (faults n x) _ none).0
each-faultless faults n m (x ∷ xs) (suc i) d none is below =
    each-faultless faults (n + 1) m xs i d (no_faults (faults n x) _ none).1 (omega arith) (omega arith)
