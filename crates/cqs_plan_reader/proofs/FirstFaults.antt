-- The first fault of lists of faults that stand one after the other.
use Rattle.std.proofs.Common.{◌≡◌, ℕ, ◌+◌, ◌<◌, ◌≤◌, List, [], ◌∷◌, ◌++◌, false, nat_le, length, get_or, drop, take, map, Some, slice_get, sym, ap, ◌∙◌}
use Rattle.std.proofs.lemmas.Bool.{lt-leb}
use Rattle.std.proofs.lemmas.List.{drop_more, drop_all, take_more, get_or-map, length-map}
use Rattle.std.specs.List.{flat_map, enumerate_from}
use Rattle.cqs_plan.specs.declared.plans.error.PlanError.{PlanError}
use Rattle.cqs_plan.specs.declared.plans.error.PlanError.TheVariants as stop
use Rattle.cqs_plan.specs.declared.plans.fault_kind.FaultKind.TheVariants as fault
use Rattle.cqs_plan_reader.specs.FaultRules.{Fault, fault_at, unless}
use Rattle.cqs_plan_reader.specs.Reading.{StopsAt}

-- the faults of these values, the first of which stands at place n
abbrev pub faults_from : {X : Type 0} → (ℕ → X → List Fault) → ℕ → List X → List Fault
faults_from faults n values = flat_map (λ (i, value). faults i value) (enumerate_from n values)

first-append : (a b : List Fault) (f : Fault) → slice_get a 0 ≡ Some f → slice_get (a ++ b) 0 ≡ Some f
first-append [] b f first = cc
first-append (x ∷ a) b f first = first

-- the first fault of a part is that of the whole where the part comes first
pub StopsAt-append : (a b : List Fault) (e : PlanError) → StopsAt a e → StopsAt (a ++ b) e
StopsAt-append a b stop.Memory stops = tt
StopsAt-append a b stop.NotToml stops = stops
StopsAt-append a b (stop.Fault place kind) stops = first-append a b _ stops

-- a count above its limit is the first fault
pub stops-over : (n most : ℕ) (place : List ℕ) (rest : List Fault) (e : PlanError) → most < n
    → StopsAt (fault_at place fault.Many) e → StopsAt (unless (nat_le n most) place fault.Many ++ rest) e
stops-over n most place rest e over stops =
    let passed : nat_le n most ≡ false = lt-leb n most over in
    rw passed (StopsAt-append (fault_at place fault.Many) rest e stops)

-- v is the i-th of the values, and no value before it has a fault
pub record Turn {V X : Type 0} (f : V → X) (faults : ℕ → X → List Fault) (vs : List V) (i : ℕ) (v : V)
    : Type 0 where
  pub below : i < length vs
  pub is : v ≡ get_or vs i v
  pub rest : faults_from faults 0 (map f vs) ≡ faults_from faults i (drop i (map f vs))

-- what the i-th of the values is seen as
seen : {V X : Type 0} (f : V → X) (vs : List V) (i : ℕ) (v : V) → i < length vs → v ≡ get_or vs i v
    → get_or (map f vs) i (f v) ≡ f v
seen f vs i v below is = get_or-map f vs i v (f v) below ∙ ap f (sym is)

drop-turn : {V X : Type 0} (f : V → X) (vs : List V) (i : ℕ) (v : V) → i < length vs → v ≡ get_or vs i v
    → drop i (map f vs) ≡ f v ∷ drop (i + 1) (map f vs)
drop-turn f vs i v below is =
    let inside : i < length (map f vs) = rw length-map below in
    drop_more (map f vs) i (f v) inside ∙ ap (λ x. x ∷ drop (i + 1) (map f vs)) (seen f vs i v below is)

pub take-turn : {V X : Type 0} {f : V → X} {faults : ℕ → X → List Fault} {vs : List V} {i : ℕ} {v : V}
    → Turn f faults vs i v → take (i + 1) (map f vs) ≡ take i (map f vs) ++ f v ∷ []
take-turn {f = f} {vs = vs} {i = i} {v = v} now =
    let inside : i < length (map f vs) = rw length-map now.below in
    take_more (map f vs) i (f v) inside
    ∙ ap (λ x. take i (map f vs) ++ x ∷ []) (seen f vs i v now.below now.is)

-- the first fault of the value is that of all values
pub stops-here : {V X : Type 0} {f : V → X} {faults : ℕ → X → List Fault} {vs : List V} {i : ℕ} {v : V}
    → Turn f faults vs i v → (e : PlanError) → StopsAt (faults i (f v)) e
    → StopsAt (faults_from faults 0 (map f vs)) e
stops-here {f = f} {faults = faults} {vs = vs} {i = i} {v = v} now e stops =
    rw (now.rest, drop-turn f vs i v now.below now.is) (StopsAt-append (faults i (f v)) _ e stops)

-- where it has none, the faults are those of the values after it
pub goes-on : {V X : Type 0} {f : V → X} {faults : ℕ → X → List Fault} {vs : List V} {i : ℕ} {v : V}
    → Turn f faults vs i v → faults i (f v) ≡ []
    → faults_from faults 0 (map f vs) ≡ faults_from faults (i + 1) (drop (i + 1) (map f vs))
goes-on {f = f} {vs = vs} {i = i} {v = v} now none = rw (now.rest, drop-turn f vs i v now.below now.is, none)

-- past the last value there are none
pub ends : {V X : Type 0} (f : V → X) (faults : ℕ → X → List Fault) (vs : List V) (i : ℕ)
    → faults_from faults 0 (map f vs) ≡ faults_from faults i (drop i (map f vs)) → length vs ≤ i
    → faults_from faults 0 (map f vs) ≡ []
ends f faults vs i rest past =
    let outside : length (map f vs) ≤ i = rw length-map past in
    rw (rest, drop_all i (map f vs) outside)
