-- A count down that opens the latch, and the end of what it owes, are their resumptions, one after the other.
use Rattle.std.proofs.Common.{◌≡◌, inl, inr, ℕ, ◌<◌, [], ◌∷◌, ◌++◌, length, Option, Some, None, Result, Ok, Err, sym, refl, ap, ◌∙◌, subst, arith}
use Rattle.std.specs.Prelude.{IfSome}
use Rattle.std.proofs.lemmas.List.{append-nil}
use Rattle.cqs_core.specs.declared.doings.Doing.TheVariants as doing
use Rattle.cqs_latch_object.specs.declared.entries.LatchEntry.{LatchEntry}
use Rattle.cqs_latch_object.specs.declared.entries.LatchEntry.TheVariants as entry
use Rattle.cqs_rule.specs.declared.queue.tokens.Under.{Under}
use Rattle.cqs_rule_laws.specs.declared.view.View.{View}
use Rattle.cqs_rule_laws.specs.Called.{Called}
use Rattle.cqs_rule_laws.specs.Lists.{Has, IsPrefix}
use Rattle.cqs_rule.specs.Owed.{under_reached, under_ticket}
use Rattle.cqs_rule_laws.proofs.Calls.{called-and}
use Rattle.cqs_rule_laws.proofs.Lists.{prefix-then}
use Rattle.cqs_latch.specs.declared.answers.Down.{Down}
use Rattle.cqs_latch.specs.declared.answers.Down.TheVariants.{Last, LastOwing}
use Rattle.cqs_latch.specs.declared.answers.Owed.{Owed}
use Rattle.cqs_latch.specs.Calls.{IsLegalOf}
use Rattle.cqs_latch.specs.CountAnswers.{Opens, HasCounted, HasFinished}
use Rattle.cqs_latch.specs.Latch.{latch_object}
use Rattle.cqs_latch.specs.Owed.{HasOwed, owed_under, owed_further, owed_reached}
use Rattle.cqs_latch.specs.Waking.{Ending, woken_entries, OnEnded, OnHanded, Wakes, ending_entries}
use Rattle.cqs_rule_laws.proofs.Rules.{call-rule_ending}
use Rattle.cqs_latch.proofs.WakeSteps.{handed-since, next-handed, on-handed_back, on-ran, ran-then, woke-ran, woken-none}

-- the answers, by what is still owed
abbrev pub down_answer : Option Owed → Down
down_answer None = Last
down_answer (Some owed) = LastOwing owed

abbrev pub finish_answer : Option Owed → Result (Unit {0}) Owed
finish_answer None = Ok tt
finish_answer (Some owed) = Err owed

module _ {T : Type 0} (v : View LatchEntry T) (own : Has v.number v.own) where
  -- an opening, and as many resumptions as it counted
  pub opened-woke : (many : ℕ) (x w : View LatchEntry T) (result : Option Owed) → Opens v many x
      → IsPrefix v.facts.heads x.facts.heads → Wakes many x result w → IsLegalOf w
      → HasCounted v (down_answer result) w
  opened-woke many x w None o grew (ends, all, woke) legal =
      let ran = woke-ran ends x w o.idle woke in
      let r = ran.1 in
      let owes = o.owes in
      let less = r.further in (
        ends,
        call-rule_ending latch_object v w (entry.DownLast v.number ∷ entry.Open v.number ∷ []) (woken_entries ends) []
            (called-and latch_object v x w _ [] (woken_entries ends) [] o.called.called r.along.called)
            (λ k. refl, (λ k. refl, tt)) (woken-none ends) own legal,
        (
          x,
          subst (λ n. Opens v n x) (sym all) o,
          woke,
          record {
            ready = record { idle = r.idle; further = omega (arith, owes, less, all) };
            waits_are = r.waits ∙ o.waits;
          },
        ),
      )
  opened-woke many x w (Some owed) o grew (ends, u, all, woke, next) legal =
      let ran = woke-ran ends x u o.idle woke in
      let r = ran.1 in
      let h = next-handed (owed_under owed) u w next in
      let owes = o.owes in
      let less = r.further in
      let last = h.further in
      let before = called-and latch_object v x u _ [] (woken_entries ends) [] o.called.called r.along.called in (
        ends,
        call-rule_ending latch_object v w (entry.DownLast v.number ∷ entry.Open v.number ∷ []) (woken_entries ends) []
            (called-and latch_object v x w _ [] (woken_entries ends) [] o.called.called
            (subst (λ es. Called latch_object x es [] w) (append-nil (woken_entries ends))
            (called-and latch_object x u w (woken_entries ends) [] [] [] r.along.called h.along.called)))
            (λ k. refl, (λ k. refl, tt)) (woken-none ends) own legal,
        (
          x,
          u,
          subst (λ n. Opens v n x) (sym all) o,
          woke,
          next,
          record {
            why = handed-since (owed_under owed) ran.0 v u w before.same (r.passed ∙ ap (λ l. l ++ ran.0) o.passed)
                (prefix-then v.facts.heads x.facts.heads u.facts.heads grew r.heads) h.why;
            owes = record {
              under = h.has;
              further = omega (arith, owes, less, last, all);
              payload = λ some. h.payload_is;
            };
            waits_are = h.waits ∙ (r.waits ∙ o.waits);
          },
        ),
      )

  -- one that was handed back went on, and those after it followed
  pub on-woke : (owed : Owed) (e : Ending) (u w : View LatchEntry T) (result : Option Owed) → HasOwed v.facts owed
      → OnEnded (owed_under owed) e v u → Wakes (owed_further owed) u result w
      → IfSome result (λ again. under_ticket (owed_under again) ≡ None → owed_reached owed < owed_reached again)
      → IsLegalOf w
      → HasFinished owed v (finish_answer result) w
  on-woke owed e u w None has on (ends, all, woke) grown legal =
      let first = on-ran (owed_under owed) e v u on in
      let rest = woke-ran ends u w first.1.idle woke in
      let r = ran-then (ending_entries e) (woken_entries ends) 0 (length ends) first.0 rest.0 v u w first.1 rest.1 in
      let owes = has.further in
      let less = r.further in (
        e ∷ ends,
        call-rule_ending latch_object v w [] (woken_entries (e ∷ ends)) [] r.along.called tt
            (woken-none (e ∷ ends)) own legal,
        (
          e,
          ends,
          u,
          refl,
          all,
          on,
          woke,
          record {
            ready = record { idle = r.idle; further = omega (arith, owes, less, all) };
            waits_are = r.waits;
          },
        ),
      )
  on-woke owed e u w (Some again) has on (ends, x, all, woke, next) grown legal =
      let first = on-ran (owed_under owed) e v u on in
      let rest = woke-ran ends u x first.1.idle woke in
      let r = ran-then (ending_entries e) (woken_entries ends) 0 (length ends) first.0 rest.0 v u x first.1 rest.1 in
      let h = next-handed (owed_under again) x w next in
      let owes = has.further in
      let less = r.further in
      let last = h.further in (
        e ∷ ends,
        call-rule_ending latch_object v w [] (woken_entries (e ∷ ends)) []
            (subst (λ es. Called latch_object v es [] w) (append-nil (woken_entries (e ∷ ends)))
            (called-and latch_object v x w (woken_entries (e ∷ ends)) [] [] [] r.along.called h.along.called)) tt
            (woken-none (e ∷ ends)) own legal,
        (
          record {
            why = handed-since (owed_under again) (first.0 ++ rest.0) v x w r.along.called.same r.passed r.heads h.why;
            owes = record {
              under = h.has;
              further = omega (arith, owes, less, last, all);
              payload = λ some. h.payload_is;
            };
            waits_are = h.waits ∙ r.waits;
          },
          grown,
          inr (e, ends, u, x, refl, all, on, woke, next),
        ),
      )

  -- it was handed back again
  pub on-handed : (owed : Owed) (again : Under) (w : View LatchEntry T) → HasOwed v.facts owed
      → OnHanded (owed_under owed) again v w
      → (under_ticket again ≡ None → under_reached (owed_under owed) < under_reached again) → IsLegalOf w
      → HasFinished owed v (Err (record { under = again; further = owed_further owed })) w
  on-handed owed again w has on grown legal =
      let h = on-handed_back (owed_under owed) again v w on in
      let owes = has.further in
      let last = h.further in (
        [],
        call-rule_ending latch_object v w [] [] [] h.along.called tt tt own legal,
        (
          record {
            why = h.why;
            owes = record {
              under = h.has;
              further = omega (arith, owes, last);
              payload = λ some. h.payload_is ∙ has.payload some;
            };
            waits_are = h.waits;
          },
          grown,
          inl (refl, refl, on),
        ),
      )

-- what is owed for the rest after the first ended
pub on-owes : {T : Type 0} (owed : Owed) (e : Ending) (v u : View LatchEntry T) → HasOwed v.facts owed
    → OnEnded (owed_under owed) e v u
    → (u.facts.doing ≡ doing.Idle) × (u.facts.has.further ≡ owed_further owed)
    × (0 < owed_further owed → u.facts.has.payload ≡ 0)
on-owes owed e v u has on =
    let first = on-ran (owed_under owed) e v u on in
    let less = first.1.further in
    let owes = has.further in (
      first.1.idle,
      omega (arith, less, owes),
      λ some. first.1.payload ∙ (has.under.owes.owed ∙ has.payload some),
    )
