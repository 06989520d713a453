-- A step that was read names a resource that its verb works on.
use Rattle.std.proofs.Common.{◌≡◌, ℕ, suc, ◌+◌, Bool, true, false, ◌&&◌, cond, nat_le, List, [], ◌∷◌, Option, Some, None, Result, Ok, Err, slice_get, refl, arith}
use Rattle.std.specs.Prelude.{if◌then◌else◌, codes, IsSomeAnd, IsTrue}
use Rattle.std.specs.List.{position_from, before_first, after_first}
use Rattle.std.specs.Option.{option_map_or}
use Rattle.std.specs.Str.{bytes_eq}
use Rattle.std.proofs.lemmas.Bool.{and_parts, leb-true}
use Rattle.cqs_plan.specs.declared.plans.fault_kind.FaultKind.{FaultKind}
use Rattle.cqs_plan.specs.declared.plans.fault_kind.FaultKind.TheVariants as fault
use Rattle.cqs_plan.specs.declared.plans.resource.Resource.{Resource}
use Rattle.cqs_plan.specs.declared.plans.step.Step.{Step}
use Rattle.cqs_plan.specs.declared.plans.step.Step.TheVariants.{Work}
use Rattle.cqs_plan.specs.Language.{Verb, take_verb, give_verb, down_verb, wait_verb, arrive_verb}
use Rattle.cqs_plan_reader.specs.Meaning.{has_one_space, is_space, is_decimal, decimal_value, step_at, step_of, work_step}
use Rattle.cqs_plan.specs.Validity.{HasKindAt, IsStep}

-- an answer under a test that is `Ok` passed the test
if_ok : (test : Bool) (answer : Result Step FaultKind) (kind : FaultKind) (step : Step)
    → (if test then answer else Err kind) ≡ Ok step → (test ≡ true) × (answer ≡ Ok step)
if_ok true answer kind step is = (refl, is)
if_ok false answer kind step is = cc

work-valid : (resources : List Resource) (text : List ℕ) (step : Step) → work_step text ≡ Ok step
    → IsStep resources step
work-valid resources text step is =
    let (tested, done) = if_ok _ _ _ step is in
    let bounds = and_parts (nat_le 1 (decimal_value text)) _ (and_parts (is_decimal text) _ tested).1 in
    let made : step ≡ Work (decimal_value text) = cc in
    rw made (leb-true 1 (decimal_value text) bounds.0, leb-true (decimal_value text) 1000 bounds.1)

-- the place that was found has an element that passes
position_case : {X : Type 0} (test : X → Bool) (n k : ℕ) (x : X) (xs : List X) (b : Bool) → test x ≡ b
    → cond b (Some n) (position_from test (n + 1) xs) ≡ Some k
    → (position_from test (n + 1) xs ≡ Some k
    → (i : ℕ) × (k ≡ (n + 1) + i) × IsSomeAnd (slice_get xs i) (λ y. test y ≡ true))
    → (i : ℕ) × (k ≡ n + i) × IsSomeAnd (slice_get (x ∷ xs) i) (λ y. test y ≡ true)
position_case test n k x xs true passes found later = let here : n ≡ k = cc in (0, omega arith, passes)
position_case test n k x xs false fails found later =
    let (i, at, passes) = later found in (suc i, omega arith, passes)

position_from-passes : {X : Type 0} (test : X → Bool) (n k : ℕ) (xs : List X)
    → position_from test n xs ≡ Some k
    → (i : ℕ) × (k ≡ n + i) × IsSomeAnd (slice_get xs i) (λ x. test x ≡ true)
position_from-passes test n k [] found = cc
position_from-passes test n k (x ∷ xs) found =
    position_case test n k x xs (test x) refl found (λ later. position_from-passes test (n + 1) k xs later)

found_step : (verb : Verb) (place : Option ℕ) (step : Step)
    → option_map_or (λ p. Ok (verb.step p)) place (Err fault.Target) ≡ Ok step
    → (p : ℕ) × (place ≡ Some p) × (step ≡ verb.step p)
found_step verb None step is = cc
found_step verb (Some p) step is = (p, refl, cc)

works_there : (verb : Verb) (name : List ℕ) (found : Option Resource)
    → IsSomeAnd found (λ r. (bytes_eq r.name name && verb.works_on r.kind) ≡ true)
    → IsSomeAnd found (λ r. IsTrue (verb.works_on r.kind))
works_there verb name None has = has
works_there verb name (Some r) has = (and_parts (bytes_eq r.name name) _ has).1

-- a verb's step has its resource
verb-valid : (verb : Verb) (resources : List Resource) (name : List ℕ) (step : Step)
    → step_at verb resources name ≡ Ok step
    → (place : ℕ) × (step ≡ verb.step place) × HasKindAt resources verb.works_on place
verb-valid verb resources name step is =
    let (p, found, made) = found_step verb _ step is in
    let (i, at, has) = position_from-passes _ 0 p resources found in
    let same : p ≡ i = omega arith in
    (p, made, rw same (works_there verb name (slice_get resources i) has))

-- the verb of a word that is one of these
abbrev verb_by : Bool → Bool → Bool → Bool → Bool → Option Verb
verb_by takes gives downs waits arrives =
    cond takes (Some take_verb) (cond gives (Some give_verb)
    (cond downs (Some down_verb) (cond waits (Some wait_verb) (cond arrives (Some arrive_verb) None))))

verb_case : (resources : List Resource) (argument : List ℕ) (step : Step)
    (works takes gives downs waits arrives : Bool)
    → (if works then work_step argument
    else option_map_or (λ verb. step_at verb resources argument)
    (verb_by takes gives downs waits arrives) (Err fault.Step)) ≡ Ok step
    → IsStep resources step
verb_case resources argument step true takes gives downs waits arrives is =
    work-valid resources argument step is
verb_case resources argument step false true gives downs waits arrives is =
    let (place, made, has) = verb-valid take_verb resources argument step is in rw made has
verb_case resources argument step false false true downs waits arrives is =
    let (place, made, has) = verb-valid give_verb resources argument step is in rw made has
verb_case resources argument step false false false true waits arrives is =
    let (place, made, has) = verb-valid down_verb resources argument step is in rw made has
verb_case resources argument step false false false false true arrives is =
    let (place, made, has) = verb-valid wait_verb resources argument step is in rw made has
verb_case resources argument step false false false false false true is =
    let (place, made, has) = verb-valid arrive_verb resources argument step is in rw made has
verb_case resources argument step false false false false false false is = cc

pub step-valid : (resources : List Resource) (text : List ℕ) (step : Step)
    → step_of resources text ≡ Ok step → IsStep resources step
step-valid resources text step is =
    let word = before_first is_space text in
    let (tested, done) = if_ok (has_one_space text) _ fault.Step step is in
    verb_case resources (after_first is_space text) step
    (bytes_eq word (codes "work")) (bytes_eq word (codes "take")) (bytes_eq word (codes "give"))
    (bytes_eq word (codes "down")) (bytes_eq word (codes "wait")) (bytes_eq word (codes "arrive")) done
