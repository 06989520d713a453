-- A history without broken numbers stays so, entry by entry. This file is a proof, as
-- `SemaphoreClient` is, which stands on it.
use Rattle.std.proofs.Common.{ℕ, List, [], ◌∷◌, ◌++◌, sym, subst}
use Rattle.std.proofs.lemmas.List.{append-nil}
use Rattle.cqs_core.specs.declared.entries.Entry.{Entry}
use Rattle.cqs_core.specs.declared.entries.Entry.TheVariants as entry
use Rattle.cqs_core.specs.QueueSteps as step
use Rattle.cqs_core.specs.QueueSteps.{QueueStep}
use Rattle.cqs_core.specs.SemaphoreSteps.{IsSemaphoreStep, step_entries}
use Rattle.cqs_core.proofs.EachAtLemmas.{EachAt-push}
use Rattle.cqs_semaphore_client.specs.PlainHistories.{BreaksNone, IsUnbroken}

pub unbroken-none : IsUnbroken []
unbroken-none = record { at = λ n e got. absurd (cc) }

pub unbroken-more : (h : List Entry) (e : Entry) → BreaksNone e → IsUnbroken h
    → IsUnbroken (h ++ e ∷ [])
unbroken-more h e whole unbroken =
    EachAt-push (λ n d. BreaksNone d) (λ n d. BreaksNone d) h e whole (λ n d got was. was)
    unbroken

pub unbroken-same : (h : List Entry) → IsUnbroken h → IsUnbroken (h ++ [])
unbroken-same h unbroken = subst IsUnbroken (sym (append-nil h)) unbroken

-- no step of a semaphore that isn't synchronous breaks a number
pub unbroken-step : (s : QueueStep) (p k : ℕ) (h : List Entry) → IsSemaphoreStep s → IsUnbroken h
    → IsUnbroken (h ++ step_entries s p k)
unbroken-step step.draws p k h may unbroken = unbroken-more h (entry.Enter p k) tt unbroken
unbroken-step step.enters p k h may unbroken = unbroken-same h unbroken
unbroken-step step.reaches p k h may unbroken = unbroken-same h unbroken
unbroken-step step.begins p k h may unbroken = unbroken-same h unbroken
unbroken-step step.puts p k h may unbroken = unbroken-same h unbroken
unbroken-step step.installs p k h may unbroken = unbroken-same h unbroken
unbroken-step step.takes p k h may unbroken = unbroken-more h (entry.Deliver k) tt unbroken
unbroken-step step.serves p k h may unbroken = unbroken-more h (entry.Deliver k) tt unbroken
unbroken-step step.leaves p k h may unbroken = unbroken-same h unbroken
unbroken-step step.delegates p k h may unbroken = unbroken-same h unbroken
unbroken-step step.passes_over p k h may unbroken = unbroken-same h unbroken
unbroken-step step.ends_refused p k h may unbroken = unbroken-same h unbroken
unbroken-step step.ends_missed p k h may unbroken = unbroken-same h unbroken
unbroken-step step.starts_leaving p k h may unbroken = unbroken-same h unbroken
unbroken-step step.leaves_line p k h may unbroken = unbroken-same h unbroken
unbroken-step step.leaves_at_once p k h may unbroken = unbroken-same h unbroken
unbroken-step step.settles p k h may unbroken = unbroken-same h unbroken
unbroken-step step.settles_owing p k h may unbroken = unbroken-same h unbroken
unbroken-step step.refuses p k h may unbroken = unbroken-same h unbroken
unbroken-step step.refuses_value p k h may unbroken = unbroken-same h unbroken
unbroken-step (step.looks step.pends) p k h may unbroken =
    unbroken-more h (entry.LookPending p k) tt unbroken
unbroken-step (step.looks step.grants) p k h may unbroken =
    unbroken-more h (entry.LookGranted p k) tt unbroken
unbroken-step (step.looks step.late) p k h may unbroken =
    unbroken-more h (entry.Late p k) tt unbroken
unbroken-step (step.in_sync e) p k h may unbroken = absurd may
