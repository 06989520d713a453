-- What comes after the last turn: the lines of the resources and the totals.
use Rattle.std.proofs.Common.{◌≡◌, ℕ, zero, suc, List, [], ◌∷◌, ◌++◌, ◌∙◌, map, drop, replicate, length, refl, sym, ap, append_assoc, take, arith}
use Rattle.std.proofs.Math.Seq.{take-append_seam}
use Rattle.cqs_core.specs.Numbered.{EachAt}
use Rattle.cqs_core.proofs.EachAtLemmas.{EachAt-push}
use Rattle.cqs_plan.specs.declared.plans.resource.Resource.{Resource}
use Rattle.cqs_plan.specs.declared.plans.plan.Plan.{Plan}
use Rattle.cqs_plan.specs.Floor.{PlainFloor, opening_floor}
use Rattle.cqs_turns_report.specs.declared.states.JobState.{JobState}
use Rattle.cqs_turns_report.specs.declared.states.Progress.TheVariants.{Stepping}
use Rattle.cqs_turns_report.specs.Lines.{ends_text, total_text}
use Rattle.cqs_turns_report.specs.Report.{report_after, summary_after}
use Rattle.cqs_core.specs.Parts.{IsPrefix}
use Rattle.cqs_turns_report.specs.Running.{IsOpening, AreOpening, machine_of}
use Rattle.cqs_turns_report.specs.Turns.{Machine, fresh, opening_machine}

-- the resources before `at` have their lines, after the text at the start
pub record EndingOn (resources : List Resource) (at : ℕ) (f : PlainFloor) (start now : List ℕ) : Type 0 where
  pub whole : now ++ ends_text (drop at resources) at f ≡ start ++ ends_text resources 0 f

pub opening_push : (states : List JobState) (state : JobState) → AreOpening states → IsOpening state
    → AreOpening (states ++ state ∷ [])
opening_push states state opening here =
    let Opens : ℕ → JobState → Type 0 = λ place s. IsOpening s in
    let each : EachAt Opens (states ++ state ∷ [])
    = EachAt-push Opens Opens states state here (λ k s got opens. opens) (record { at = opening.at }) in
    record { at = each.at }

-- jobs that have just begun are all at their first step
pub opening-progress : (states : List JobState) (n : ℕ) → length states ≡ n → AreOpening states
    → map (λ s. s.progress) states ≡ replicate n (Stepping 0)
opening-progress [] zero same opening = refl
opening-progress [] (suc n) same opening = absurd (omega arith)
opening-progress (state ∷ states) zero same opening = absurd (omega arith)
opening-progress (state ∷ states) (suc n) same opening =
    let first : state.progress ≡ Stepping 0 = (opening.at 0 state refl).progress in
    let rest : map (λ s. s.progress) states ≡ replicate n (Stepping 0)
    = opening-progress states n (omega arith) (record { at = λ k s got. opening.at (suc k) s got }) in
    rw (first, rest) refl

pub prefix-empty : (whole text : List ℕ) → text ≡ [] → IsPrefix text whole
prefix-empty whole text empty = (whole, ap (λ t. t ++ whole) (sym empty))

-- a prefix of the lines of the turns and the resources is one of the whole report, and so is one of the lines of the
-- turns alone
pub prefix-ends : (plan : Plan) (m : Machine) (text : List ℕ)
    → IsPrefix text (m.scene.text ++ ends_text plan.resources 0 m.scene.floor) → IsPrefix text (report_after plan m)
prefix-ends plan m text below =
    let totals : List ℕ = total_text m.progress in
    (below.0 ++ totals, ap (λ t. t ++ totals) below.1 ∙ append_assoc text below.0 totals)

pub prefix-turns : (plan : Plan) (m : Machine) (text : List ℕ) → IsPrefix text m.scene.text
    → IsPrefix text (report_after plan m)
prefix-turns plan m text below =
    let lines : List ℕ = ends_text plan.resources 0 m.scene.floor in
    prefix-ends plan m text (below.0 ++ lines, ap (λ t. t ++ lines) below.1 ∙ append_assoc text below.0 lines)

-- and fresh
pub opening-patience : (states : List JobState) (n : ℕ) → length states ≡ n → AreOpening states
    → map (λ s. s.patience) states ≡ replicate n fresh
opening-patience [] zero same opening = refl
opening-patience [] (suc n) same opening = absurd (omega arith)
opening-patience (state ∷ states) zero same opening = absurd (omega arith)
opening-patience (state ∷ states) (suc n) same opening =
    let first : state.patience ≡ fresh = (opening.at 0 state refl).patience in
    let rest : map (λ s. s.patience) states ≡ replicate n fresh
    = opening-patience states n (omega arith) (record { at = λ k s got. opening.at (suc k) s got }) in
    rw (first, rest) refl

-- the machine at the start of a run
pub opens : (plan : Plan) (f : PlainFloor) (text : List ℕ) (states : List JobState) → f ≡ opening_floor plan → text ≡ []
    → length states ≡ length plan.jobs → AreOpening states → machine_of f text states ≡ opening_machine plan
opens plan f text states floor empty jobs opening =
    let progress : map (λ s. s.progress) states ≡ replicate (length plan.jobs) (Stepping 0)
    = opening-progress states (length plan.jobs) jobs opening in
    let patience : map (λ s. s.patience) states ≡ replicate (length plan.jobs) fresh
    = opening-patience states (length plan.jobs) jobs opening in
    rw (floor, empty, progress, patience) refl

-- the report tells what happened in the turns, and then the summary
pub report_is : (plan : Plan) (m : Machine) → report_after plan m ≡ m.scene.text ++ summary_after plan m
report_is plan m = append_assoc m.scene.text (ends_text plan.resources 0 m.scene.floor) (total_text m.progress)

-- the first of two lists, by its length
pub the_first : {A : Type 0} (n : ℕ) (xs ys : List A) → n ≡ length xs → take n (xs ++ ys) ≡ xs
the_first n xs ys long = ap (λ k. take k (xs ++ ys)) long ∙ take-append_seam xs ys

-- what is told after the lines of the turns are forgotten is the summary
pub summed : (plan : Plan) (f : PlainFloor) (text : List ℕ) (states at_end : List JobState) (m : Machine)
    (none ends all : List ℕ) → at_end ≡ states → machine_of f text states ≡ m → none ≡ []
    → ends ≡ none ++ ends_text plan.resources 0 f → all ≡ ends ++ total_text (map (λ s. s.progress) at_end)
    → all ≡ summary_after plan m
summed plan f text states at_end m none ends all same turns empty told total =
    rw (sym turns, total, told, empty, same) refl
