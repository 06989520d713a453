-- A call for the commands that have no workers is one of the program, where the words ask for no workers.
use Rattle.std.proofs.Common.{◌≡◌, ◌⊎◌, ℕ, inl, inr, List}
use Rattle.cqs_cli_streams.specs.declared.streams.sink.Sink.{Ghosts as Sink}
use Rattle.cqs_cli_streams.specs.declared.streams.source.Source.{Ghosts as Source}
use Rattle.cqs_cli.specs.Commands as alone
use Rattle.cqs_cli.specs.Contract.{IsCallOf}
use Rattle.cqs_cli.specs.Words.{IsRun, IsSomeStudy, Reads as ReadsAlone}
use Rattle.cqs_cli.specs.declared.kept.Kept.{Kept as KeptAlone}
use Rattle.cqs_cli.specs.declared.kept.Kept.TheVariants as alone_kept
use Rattle.cqs_floor_shared.specs.Shared.{Shared}
use Rattle.cqs_plan.specs.declared.plans.plan.Plan.{Plan}
use Rattle.cqs_work.specs.declared.plans.Worked.{Worked as WorkedOn}
use Rattle.cqs_cli_top.specs.Commands.{commands_over}
use Rattle.cqs_cli_top.specs.declared.kept.Kept.{Kept}
use Rattle.cqs_cli_top.specs.declared.kept.Kept.TheVariants.{Nothing}
use Rattle.cqs_cli_top.specs.KeptWorks.{alone_of}
use Rattle.cqs_cli_top.specs.Words.{IsSomeWork, ReadsPlan}

pub of_alone : {S K F : Type 0} (shared : F → Shared) (Leaves : Plan → List Shared → WorkedOn F → Type 0)
    (of_source : Source S) (of_sink : Sink K)
    (words : List (List ℕ)) (source source_after : S) (sink sink_after : K) (run : KeptAlone) (kept : Kept F)
    (status : ℕ) → ¬ IsSomeWork words → alone_of kept ≡ run → (run ≡ alone_kept.Nothing → kept ≡ Nothing)
    → IsCallOf alone.commands of_source of_sink words source source_after sink sink_after run status
    → IsCallOf (commands_over shared Leaves) of_source of_sink words source source_after sink sink_after kept status
of_alone shared Leaves of_source of_sink words source source_after sink sink_after run kept status other is nothing
    call = record {
      headline = λ zero. let told = call.headline zero in (inl told.0, told.1);
      no_command = λ two.
          let wrong = call.no_command two in
          (λ command. elim command [ inl known ↦ wrong.0 known | inr work ↦ other work ], wrong.1, wrong.2);
      no_plan = λ three. let fault = call.no_plan three in (inl fault.0, fault.1, fault.2);
      source_failed = λ four. let failed = call.source_failed four in (reads-too failed.0, failed.1, failed.2);
      sink_failed = λ five. let broke = call.sink_failed five in (broke.0, inl (other, broke.1));
      no_memory = λ six. let out = call.no_memory six in (inl out.0, out.1);
      too_long = λ seven. let long = call.too_long seven in (reads-too long.0, long.1, long.2);
      studied = call.studied;
      bad_text = call.bad_text;
      not_legal = call.not_legal;
      statuses = call.statuses;
      unread = λ none. call.unread (λ asked. none (reads-too asked));
      taken = call.taken;
      given = call.given;
      stops = call.stops;
      ended = λ reads. call.ended (reads-alone reads);
      too_many = call.too_many;
      many_bytes = call.many_bytes;
      source_calm = call.source_calm;
      sink_calm = call.sink_calm;
      sink_stops = call.sink_stops;
      wrong_words = λ wrong. call.wrong_words (λ command. wrong (inl command));
      wrong_input = λ reads. call.wrong_input (asks reads);
      long_input = λ reads. call.long_input (reads-alone reads);
      complete = λ reads. call.complete (asks reads);
      complete_gen = call.complete_gen;
      complete_study = call.complete_study;
      wrong_text = call.wrong_text;
      illegal_input = call.illegal_input;
      kept_study = λ some. nothing (call.kept_study some);
      kept_done = λ zero no_study. inl (rw is (call.kept_done zero no_study));
      kept_broken = λ five no_study. elim (call.kept_broken five no_study) [
        | inl of_text ↦ inl (inl (rw is of_text))
        | inr (none, no_run) ↦ inr (nothing none, inl (other, no_run))
      ];
      kept_nothing = λ done failed. nothing (call.kept_nothing done failed);
    }
  where
    asks : ReadsPlan words → IsRun words
    asks reads = elim reads [ inl asked ↦ asked | inr work ↦ absurd (other work) ]

    reads-alone : ReadsPlan words ⊎ IsSomeStudy words → ReadsAlone words
    reads-alone (inl plan) = inl (asks plan)
    reads-alone (inr study) = inr study

    reads-too : ReadsAlone words → ReadsPlan words ⊎ IsSomeStudy words
    reads-too (inl run) = inl (inl run)
    reads-too (inr study) = inr study
