-- The faults of a resource of a section, one after another.
use Rattle.std.proofs.Common.{◌≡◌, ℕ, ◌+◌, ◌<◌, ◌≤◌, true, false, ◌||◌, not, nat_lt, List, [], ◌∷◌, ◌++◌, length, map, Some, refl, ap}
use Rattle.std.specs.List.{list_any}
use Rattle.std.specs.Str.{bytes_eq}
use Rattle.std.proofs.lemmas.Bool.{lt-ltb, le-ltb}
use Rattle.toml.specs.Data.{Data, as_table, Members}
use Rattle.cqs_plan.specs.declared.plans.error.PlanError.{PlanError}
use Rattle.cqs_plan.specs.declared.plans.resource.Resource.{Resource}
use Rattle.cqs_plan.specs.declared.plans.fault_kind.FaultKind.TheVariants as fault
use Rattle.cqs_plan.specs.Language.{is_name, ResourceKind}
use Rattle.cqs_plan_reader.specs.FaultRules.{Fault, fault_at, has_only, unless}
use Rattle.cqs_plan_reader.specs.Faults.{resource_faults, resource_number_faults}
use Rattle.cqs_plan_reader.specs.Places.{below_place}
use Rattle.cqs_plan_reader.specs.Reading.{StopsAt}
use Rattle.cqs_plan_reader.specs.Sections.{names_of}
use Rattle.cqs_plan_reader.proofs.FirstFaults.{StopsAt-append}

-- whether a name is among those of resources
pub any-name : (name : List ℕ) (resources : List Resource)
    → list_any (λ (resource : Resource). bytes_eq name resource.name) resources
    ≡ list_any (bytes_eq name) (names_of resources)
any-name name [] = refl
any-name name (r ∷ resources) = ap (λ rest. bytes_eq name r.name || rest) (any-name name resources)

-- a name with a table that has only the keys of its kind
pub record IsTable (kind : ResourceKind) (name : List ℕ) (value : Data) (table : Members) : Type 0 where
  pub named : is_name name ≡ true
  pub is : as_table value ≡ Some table
  pub only : has_only (map (λ number. number.key) kind.numbers) table ≡ true

-- what is looked for after the keys
abbrev pub later : ResourceKind → List (List ℕ) → ℕ → List ℕ → Members → List Fault
later kind earlier i name table =
    unless (not (list_any (bytes_eq name) earlier)) (below_place kind.key name) fault.Name
    ++ unless (nat_lt (length earlier + i) 64) (below_place kind.key name) fault.Many
    ++ resource_number_faults kind name table

module _ (kind : ResourceKind) (earlier : List (List ℕ)) (i : ℕ) (name : List ℕ) where
  -- of such a name what is left is what is looked for after the keys
  pub after-keys : (value : Data) (table : Members) → IsTable kind name value table
      → resource_faults kind earlier i (name, value) ≡ later kind earlier i name table
  after-keys value table has = rw (has.named, has.is, has.only) refl

  module _ (table : Members) where
    -- the name stands already
    pub stands : (e : PlanError) → list_any (bytes_eq name) earlier ≡ true
        → StopsAt (fault_at (below_place kind.key name) fault.Name) e
        → StopsAt (later kind earlier i name table) e
    stands e known stops =
        let many = unless (nat_lt (length earlier + i) 64) (below_place kind.key name) fault.Many in
        let first = fault_at (below_place kind.key name) fault.Name in
        rw known
        (StopsAt-append (first ++ many) (resource_number_faults kind name table) e (StopsAt-append first many e stops))

    -- it is one too many
    pub too-many : (e : PlanError) → list_any (bytes_eq name) earlier ≡ false → 64 ≤ length earlier + i
        → StopsAt (fault_at (below_place kind.key name) fault.Many) e
        → StopsAt (later kind earlier i name table) e
    too-many e new over stops =
        let passed : nat_lt (length earlier + i) 64 ≡ false = le-ltb (length earlier + i) 64 over in
        let first = fault_at (below_place kind.key name) fault.Many in
        rw (new, passed) (StopsAt-append first (resource_number_faults kind name table) e stops)

    -- its numbers are what is left
    pub numbers : list_any (bytes_eq name) earlier ≡ false → length earlier + i < 64
        → later kind earlier i name table ≡ resource_number_faults kind name table
    numbers new few =
        let passed : nat_lt (length earlier + i) 64 ≡ true = lt-ltb (length earlier + i) 64 few in
        rw (new, passed) refl
