-- What `work n` says, from what reading its digits gave.
use Rattle.std.proofs.Common.{◌≡◌, ℕ, ◌+◌, ◌-◌, ◌*◌, ◌<◌, ◌≤◌, ◌^◌, true, ◌&&◌, nat_le, List, length, [], ◌∷◌, inl, inr, Result, Ok, Err, fold, arith, rules}
use Rattle.std.specs.Prelude.{if◌then◌else◌}
use Rattle.std.specs.Char.{is_ascii_digit}
use Rattle.std.specs.List.{list_all}
use Rattle.std.specs.Result.{OkIff}
use Rattle.std.specs.Str.Parse.{ParsesUnsigned}
use Rattle.std.proofs.lemmas.Bool.{and_parts, cases_Bool, leb-true}
use Rattle.std.proofs.lemmas.Str.Parse.{IsNumeralModel, numerals_by_fold, parse_digits}
use Rattle.cqs_plan.specs.declared.plans.fault_kind.FaultKind.{FaultKind}
use Rattle.cqs_plan.specs.declared.plans.fault_kind.FaultKind.TheVariants as fault
use Rattle.cqs_plan.specs.declared.plans.step.Step.{Step}
use Rattle.cqs_plan.specs.declared.plans.step.Step.TheVariants.{Work}
use Rattle.cqs_plan_reader.specs.Meaning.{is_decimal, decimal_value, work_step}

-- digits and their number, in this crate's words
numerals : IsNumeralModel (λ digits. list_all is_ascii_digit digits ≡ true) decimal_value
numerals =
    numerals_by_fold _ (search rules)
    (λ n digits. fold (λ value digit. value * 10 + (digit - 48)) n digits) (search rules)

-- the step that a number of turns makes
abbrev pub turns_step : {E : Type 0} → Result ℕ E → Result Step FaultKind
turns_step (Ok turns) = if nat_le 1 turns && nat_le turns 1000 then Ok (Work turns) else Err fault.Step
turns_step (Err e) = Err fault.Step

-- digits that write a number above 0 are some
filled : (text : List ℕ) → 1 ≤ decimal_value text → 0 < length text
filled [] some = absurd (omega arith)
filled (d ∷ ds) some = omega arith

pub work_step-parsed : {E : Type 0} (text : List ℕ) (parsed : Result ℕ E) → ParsesUnsigned 32 10 text parsed
    → is_decimal text ≡ true → work_step text ≡ turns_step parsed
work_step-parsed {E} text (Ok turns) read decimal =
    let digits = (and_parts (list_all is_ascii_digit text) _ decimal).0 in
    let gives : OkIff {T =
    ℕ} {E = E} (Ok turns) ((0 < length text) × (decimal_value text < 2 ^ 32)) (decimal_value text) =
    parse_digits numerals {E = E} 32 text (Ok turns) read digits in
    rw (decimal, gives.1)
work_step-parsed {E} text (Err e) read decimal =
    let digits = (and_parts (list_all is_ascii_digit text) _ decimal).0 in
    let gives : OkIff {T =
    ℕ} {E = E} (Err e) ((0 < length text) × (decimal_value text < 2 ^ 32)) (decimal_value text) =
    parse_digits numerals {E = E} 32 text (Err e) read digits in
    elim (cases_Bool (nat_le 1 (decimal_value text) && nat_le (decimal_value text) 1000)) [
      | inl near ↦
          let bounds = and_parts (nat_le 1 (decimal_value text)) _ near in
          let some : 1 ≤ decimal_value text = leb-true 1 (decimal_value text) bounds.0 in
          let few : decimal_value text ≤ 1000 = leb-true (decimal_value text) 1000 bounds.1 in
          absurd (gives (filled text some, omega arith))
      | inr far ↦ rw (decimal, far)
    ]
