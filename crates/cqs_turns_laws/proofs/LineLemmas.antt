-- One more line of the report.
use Rattle.std.proofs.Common.{◌≡◌, ◌⊎◌, inl, inr, ℕ, ◌+◌, ◌<◌, ◌≤◌, List, [], ◌∷◌, ◌++◌, Some, length, take, slice_get, refl, sym, ap, ◌∙◌, take_at, append_assoc, arith}
use Rattle.std.proofs.lemmas.Bool.{cases_lt}
use Rattle.std.proofs.lemmas.List.{append-nil, length_push, take-append-le}
use Rattle.std.proofs.lemmas.List.Sums.{sum_by_push}
use Rattle.cqs_core.proofs.Counts.{bit}
use Rattle.cqs_core.proofs.Places.{get-below, get-append_below, get-append_left, get-push_at}
use Rattle.cqs_plan.specs.declared.plans.plan.Plan.{Plan}
use Rattle.cqs_plan.specs.declared.plans.resource.Resource.{Resource}
use Rattle.cqs_turns_report.specs.Lines.{line_text}
use Rattle.cqs_turns_laws.specs.Events.{Line, name_of, lines_text, draws_at, drawn_at, Sends, WasSent, MayTell}

pub text-push : (plan : Plan) (lines : List Line) (line : Line)
    → lines_text plan (lines ++ line ∷ [])
    ≡ lines_text plan lines ++ line_text plan.resources line.turn (name_of plan line.job) line.told
text-push plan [] line = append-nil _
text-push plan (x ∷ lines) line =
    let own = line_text plan.resources x.turn (name_of plan x.job) x.told in
    ap (λ text. own ++ text) (text-push plan lines line) ∙ sym (append_assoc own (lines_text plan lines) _)

-- one more line draws its number, if it draws one
pub drawn-push : (resources : List Resource) (at round : ℕ) (lines : List Line) (line : Line)
    → drawn_at resources at round (lines ++ line ∷ [])
    ≡ drawn_at resources at round lines + bit (draws_at resources at round line.told)
drawn-push resources at round lines line =
    sum_by_push (λ (x : Line). bit (draws_at resources at round x.told)) lines line

-- what was sent stays sent
pub sent-longer : (resources : List Resource) (at round number element : ℕ) (lines : List Line) (line : Line)
    → WasSent resources at round number element lines → WasSent resources at round number element (lines ++ line ∷ [])
sent-longer resources at round number element lines line sent = record {
  line = sent.line;
  sends = sent.sends;
  there = record {
    place = sent.there.place;
    there = get-append_left lines (line ∷ []) sent.there.place sent.line sent.there.there;
  };
}

pub sent-now : (resources : List Resource) (at round number element : ℕ) (lines : List Line) (line : Line)
    → Sends resources at round number element line.told → WasSent resources at round number element (lines ++ line ∷ [])
sent-now resources at round number element lines line sends = record {
  line = line;
  sends = sends;
  there = record { place = length lines; there = get-push_at lines line (length lines) refl };
}

-- each line may be told after those before it, and so may the new one
pub may-push : (resources : List Resource) (lines : List Line) (line : Line)
    → ((n : ℕ) (x : Line) → slice_get lines n ≡ Some x → MayTell resources (take n lines) x.told)
    → MayTell resources lines line.told
    → (n : ℕ) (x : Line) → slice_get (lines ++ line ∷ []) n ≡ Some x
    → MayTell resources (take n (lines ++ line ∷ [])) x.told
may-push resources lines line all may n x got = go (cases_lt n (length lines))
  where
    go : (n < length lines) ⊎ (length lines ≤ n) → MayTell resources (take n (lines ++ line ∷ [])) x.told
    go (inl below) =
        let same : take n (lines ++ line ∷ []) ≡ take n lines = take-append-le n lines (line ∷ []) (omega arith) in
        let before : slice_get lines n ≡ Some x = sym (get-append_below lines (line ∷ []) n below) ∙ got in
        rw same (all n x before)
    go (inr past) =
        let within : n < length (lines ++ line ∷ []) = get-below (lines ++ line ∷ []) n x got in
        let last : n ≡ length lines = omega (arith, length_push lines line) in
        let same : take n (lines ++ line ∷ []) ≡ lines = take_at lines (line ∷ []) n (sym last) in
        let pushed : slice_get (lines ++ line ∷ []) n ≡ Some line = get-push_at lines line n last in
        let own : line ≡ x = cc in
        rw (same, ← own) may
