-- Bytes are a plan, have a first fault or are no document, and only one of these.
use Rattle.std.proofs.Common.{◌≡◌, ℕ, List, Some, None, Result, Ok, Err, IfOk, slice_get, inl, inr, refl, sym, ap, ◌∙◌}
use Rattle.std.proofs.lemmas.Option.{same_Some}
use Rattle.toml.specs.Data.{Members}
use Rattle.cqs_plan.specs.declared.plans.error.PlanError.{PlanError}
use Rattle.cqs_plan.specs.declared.plans.error.PlanError.TheVariants.{Memory, NotToml, Fault}
use Rattle.cqs_plan.specs.declared.plans.fault_kind.FaultKind.{FaultKind}
use Rattle.cqs_plan.specs.declared.plans.plan.Plan.{Plan}
use Rattle.cqs_plan_reader.specs.FaultRules.{Fault as FaultRecord}
use Rattle.cqs_plan_reader.specs.Faults.{faults_in}
use Rattle.cqs_plan_reader.specs.Meaning.{plan_in}
use Rattle.cqs_plan_reader.specs.PlanText.{IsToml, IsNoToml, IsPlanText, IsFirstFault, IsOrMemory}

-- what an answer says of the bytes
pub record IsCause (bytes : List ℕ) (result : Result Plan PlanError) : Type 0 where
  pub plan : IfOk result (IsPlanText bytes)
  pub not_toml : result ≡ Err NotToml → IsNoToml bytes
  pub fault : (place : List ℕ) (kind : FaultKind)
      → result ≡ Err (Fault place kind) → IsFirstFault bytes place kind

same_root : (bytes : List ℕ) (one other : Members) → IsToml bytes one → IsToml bytes other → one ≡ other
same_root bytes one other first second = let joined = sym first.document ∙ second.document in cc

same_plan : (bytes : List ℕ) (one other : Plan) → IsPlanText bytes one → IsPlanText bytes other
    → one ≡ other
same_plan bytes one other first second =
    first.says ∙ ap plan_in (same_root bytes first.root second.root first.toml second.toml) ∙ sym second.says

-- a document without a fault has no first fault
pub faultless : (bytes : List ℕ) (plan : Plan) (place : List ℕ) (kind : FaultKind) → IsPlanText bytes plan
    → IsFirstFault bytes place kind → ⊥
faultless bytes plan place kind text fault =
    let root : fault.root ≡ text.root = same_root bytes fault.root text.root fault.toml text.toml in
    let none : slice_get (faults_in fault.root) 0 ≡ None = rw (root, text.faultless) in
    let both = sym none ∙ fault.first in cc

same_first : (faults : List FaultRecord) (one other : List ℕ) (kind kind' : FaultKind)
    → slice_get faults 0 ≡ Some (record { place = one; kind = kind })
    → slice_get faults 0 ≡ Some (record { place = other; kind = kind' })
    → (one ≡ other) × (kind ≡ kind')
same_first faults one other kind kind' first second =
    let same = same_Some _ _ (sym first ∙ second) in
    (ap (λ (f : FaultRecord). f.place) same, ap (λ (f : FaultRecord). f.kind) same)

same_fault : (bytes : List ℕ) (one other : List ℕ) (kind kind' : FaultKind) → IsFirstFault bytes one kind
    → IsFirstFault bytes other kind'
    → (one ≡ other) × (kind ≡ kind')
same_fault bytes one other kind kind' first second =
    let root = same_root bytes first.root second.root first.toml second.toml in
    let moved = ap (λ r. slice_get (faults_in r) 0) (sym root) ∙ first.first in
    same_first (faults_in second.root) one other kind kind' moved second.first

pub of-plan : (bytes : List ℕ) (result : Result Plan PlanError) → IsCause bytes result → (plan : Plan)
    → IsPlanText bytes plan
    → IsOrMemory result (Ok plan)
of-plan bytes (Ok read) cause plan text = inl (ap Ok (same_plan bytes read plan cause.plan text))
of-plan bytes (Err Memory) cause plan text = inr refl
of-plan bytes (Err NotToml) cause plan text = absurd (cause.not_toml refl text.root text.toml)
of-plan bytes (Err (Fault place kind)) cause plan text =
    absurd (faultless bytes plan place kind text (cause.fault place kind refl))

pub of-no_toml : (bytes : List ℕ) (result : Result Plan PlanError) → IsCause bytes result → IsNoToml bytes
    → IsOrMemory result (Err NotToml)
of-no_toml bytes (Ok read) cause no_toml = absurd (no_toml cause.plan.root cause.plan.toml)
of-no_toml bytes (Err Memory) cause no_toml = inr refl
of-no_toml bytes (Err NotToml) cause no_toml = inl refl
of-no_toml bytes (Err (Fault place kind)) cause no_toml =
    let first = cause.fault place kind refl in absurd (no_toml first.root first.toml)

pub of-fault : (bytes : List ℕ) (result : Result Plan PlanError) → IsCause bytes result
    → (place : List ℕ) (kind : FaultKind) → IsFirstFault bytes place kind
    → IsOrMemory result (Err (Fault place kind))
of-fault bytes (Ok read) cause place kind first = absurd (faultless bytes read place kind cause.plan first)
of-fault bytes (Err Memory) cause place kind first = inr refl
of-fault bytes (Err NotToml) cause place kind first = absurd (cause.not_toml refl first.root first.toml)
of-fault bytes (Err (Fault other kind')) cause place kind first =
    let (there, same) =
    same_fault bytes other place kind' kind (cause.fault other kind' refl) first in inl (rw (there, same))
