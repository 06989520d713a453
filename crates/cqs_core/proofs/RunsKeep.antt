-- Runs keep what each of their steps keeps: the events, and the moves of held permits from one pass to another.
use Rattle.std.proofs.Common.{◌≡◌, ℕ, ◌+◌, ◌-◌, ◌<◌, ◌≤◌, Bool, true, false, ◌&&◌, nat_lt, nat_le, List, [], ◌∷◌, length, set, sum, get_or, Option, Some, None, slice_index, option_and_then, if◌then◌else◌, refl, ◌∙◌, subst, arith, ltb-true, leb-true}
use Rattle.std.proofs.lemmas.Bool.{and_parts}
use Rattle.std.proofs.lemmas.List.{length-set}
use Rattle.std.proofs.lemmas.List.Sums.{sum_by-set}
use Rattle.cqs_core.specs.declared.events.Event.{Event}
use Rattle.cqs_core.specs.SemaphoreTable.{Shape, Stepped, step}
use Rattle.cqs_core.specs.SemaphoreRuns.{Step, makes, hands_over, held_after, hand_over, shape_of, run_step, run}

-- What one pass gives, another has: the sum stays.
handed-sum : (held : List ℕ) (from to many : ℕ) → from < length held → to < length held
    → many ≤ get_or held from 0
    → sum (held_after held from to many) ≡ sum held
handed-sum held from to many there other enough =
    let rest : List ℕ = set held from (get_or held from 0 - many) in
    let less = sum_by-set (λ n. n) held from (get_or held from 0 - many) 0 there in
    let long : length rest ≡ length held = length-set held from (get_or held from 0 - many) in
    let more = sum_by-set (λ n. n) rest to (get_or rest to 0 + many) 0 (omega arith) in
    omega arith

handed-length : (held : List ℕ) (from to many : ℕ) → length (held_after held from to many) ≡ length held
handed-length held from to many =
    let rest : List ℕ = set held from (get_or held from 0 - many) in
    length-set rest to (get_or rest to 0 + many) ∙ length-set held from (get_or held from 0 - many)

-- permits have changed hands, and nothing else is different
pub record HandsOver (s next : Shape) : Type 0 where
  pub held : List ℕ
  pub is : record s { held = held } ≡ next
  pub long : length held ≡ length s.held
  pub same : sum held ≡ sum s.held

pub handed : (s next : Shape) (from to many : ℕ) → hand_over s from to many ≡ Some next → HandsOver s next
handed s next from to many given = go (may from to many) refl given
  where
    may : ℕ → ℕ → ℕ → Bool
    may from to many =
        nat_lt from (length s.held) && (nat_lt to (length s.held) && nat_le many (slice_index s.held from))

    after : Shape
    after = record s { held = held_after s.held from to many }

    go : (b : Bool) → may from to many ≡ b → (if b then Some after else None) ≡ Some next → HandsOver s next
    go false test given = absurd (cc)
    go true test given =
        let both =
        and_parts (nat_lt from (length s.held))
        (nat_lt to (length s.held) && nat_le many (slice_index s.held from)) test in
        let rest = and_parts (nat_lt to (length s.held)) (nat_le many (slice_index s.held from)) both.1 in
        let there : from < length s.held = ltb-true from (length s.held) both.0 in
        let other : to < length s.held = ltb-true to (length s.held) rest.0 in
        let enough : many ≤ slice_index s.held from = leb-true many (slice_index s.held from) rest.1 in
        record {
          held = held_after s.held from to many;
          is = cc;
          long = handed-length s.held from to many;
          same = handed-sum s.held from to many there other enough;
        }

module _ (P : Shape → Type 0)
    (event_keeps : (s : Shape) (e : Event) (row : Stepped) → P s → step s e ≡ Some row → P row.shape)
    (hands_keep : (s next : Shape) → P s → HandsOver s next → P next) where
  made-keeps : (s next : Shape) (e : Event) → P s → (row : Option Stepped) → step s e ≡ row → shape_of row ≡ Some next
      → P next
  made-keeps s next e holds None is made = absurd (cc)
  made-keeps s next e holds (Some row) is made =
      let same : row.shape ≡ next = cc in
      subst (λ (x : Shape). P x) same (event_keeps s e row holds is)

  pub step-keeps : (s next : Shape) (t : Step) → P s → run_step s t ≡ Some next → P next
  step-keeps s next (makes e) holds made = made-keeps s next e holds (step s e) refl made
  step-keeps s next (hands_over from to many) holds made =
      hands_keep s next holds (handed s next from to many made)

  -- it holds of each core on a run from one of which it holds
  pub run-keeps : (steps : List Step) (s last : Shape) → P s → run s steps ≡ Some last → P last
  run-keeps [] s last holds ran = let same : s ≡ last = cc in subst (λ (x : Shape). P x) same holds
  run-keeps (t ∷ steps) s last holds ran = go (run_step s t) refl ran (λ next. run-keeps steps next last)
    where
      go : (o : Option Shape) → run_step s t ≡ o → option_and_then (λ next. run next steps) o ≡ Some last
          → ((next : Shape) → P next → run next steps ≡ Some last → P last) → P last
      go None is ran rest = absurd (cc)
      go (Some next) is ran rest = rest next (step-keeps s next t holds is) ran
