-- A whole run of a plan by several workers: from what each of its parts leaves.
use Rattle.std.proofs.Common.{length-append, ◌≡◌, ◌≢◌, ◌⊎◌, inl, inr, ℕ, zero, suc, ◌<◌, ◌≤◌, ◌%◌, List, [], ◌∷◌, ◌++◌, Some, Result, IfOk, All, AllPairs, Bool, flat_map, length, map, get_or, slice_get, refl, sym, ap, subst, ◌∙◌, arith}
use Rattle.std.proofs.Math.ListN.{get_or-map}
use Rattle.std.proofs.Math.Nat.{mod-lt}
use Rattle.std.proofs.lemmas.List.{append-nil, length-map}
use Rattle.std.proofs.lemmas.List.Elements.{All-nil, All-cons}
use Rattle.std.proofs.lemmas.List.Folds.{flat_map-map}
use Rattle.std.proofs.lemmas.Option.{get_or_from_slice_get}
use Rattle.cqs_core.specs.Numbered.{EachAt}
use Rattle.cqs_core.specs.Parts.{Has}
use Rattle.cqs_core.specs.declared.Memory.{Memory}
use Rattle.cqs_core.proofs.Places.{get-below, get-there}
use Rattle.cqs_core.specs.Numbered.{IsIn}
use Rattle.cqs_plan.specs.declared.plans.job.Job.{Job}
use Rattle.cqs_plan.specs.declared.plans.plan.Plan.{Plan}
use Rattle.cqs_plan.specs.declared.plans.resource.Resource.{Resource}
use Rattle.cqs_plan.specs.Floor.{IsHoldable, waits_of_job}
use Rattle.cqs_plan.specs.FloorHistory.{History, of_permits, of_elements, of_latch, of_rounds}
use Rattle.cqs_plan.specs.Runnable.{IsRunnable, kinds_of}
use Rattle.cqs_turns_report.specs.declared.states.JobState.{JobState}
use Rattle.cqs_turns_report.proofs.Mapped.{get-map}
use Rattle.cqs_floor_shared.specs.Calls.{HaveAllMet, IsAtRest}
use Rattle.cqs_floor_shared.specs.Entries.{own_history}
use Rattle.cqs_floor_shared.specs.Shared.{Shared, seen_at, kind_at}
use Rattle.cqs_work.specs.declared.ends.JobEnd.{JobEnd}
use Rattle.cqs_work.specs.declared.waits.Waited.{Waited}
use Rattle.cqs_work.specs.declared.works.Post.{Post}
use Rattle.cqs_work.specs.declared.works.Worker.{Worker}
use Rattle.cqs_work.specs.declared.ends.JobEnd.TheVariants.{Unfinished}
use Rattle.cqs_work.specs.declared.waits.WaitLine.{WaitLine}
use Rattle.cqs_work.specs.Accounts.{sum_in}
use Rattle.cqs_work.specs.Causes.{IsCaused, HasCause, WasCrowded, last_wait}
use Rattle.cqs_work.specs.Courses.{GoesOn}
use Rattle.cqs_work.specs.Desk.{desk, fresh_desk}
use Rattle.cqs_work.specs.Drawn.{AreFew, AreWide, drew, own_drawn}
use Rattle.cqs_work.specs.Gated.{Gated, HasTold, untold}
use Rattle.cqs_work.specs.Ends.{job_end}
use Rattle.cqs_work.specs.Noted.{draws_in, HasPermits, told_at, as_draw, IsNoted}
use Rattle.cqs_work.specs.Rows.{AreLines}
use Rattle.cqs_work.specs.Takes.{sum_of_takes, takes, took, take_steps, take_tries}
use Rattle.cqs_work.specs.Even.{IsEven, IsEvenAtPool}
use Rattle.cqs_work.specs.Heard.{heard}
use Rattle.cqs_work.specs.Later.{Later, IsSound, IsUnnamed}
use Rattle.cqs_work.specs.Met.{CanMeet, CanMeetAll, HaveMet, HaveMetAll, IsKeptIn}
use Rattle.cqs_work.specs.Opening.{dealt, AreStarting, IsOpening, AreSplit, ArePosts}
use Rattle.cqs_work.specs.Stages.{Stage, stage_of, stages_of, progress_at, done_stage}
use Rattle.cqs_work.specs.Works.{HasWorkedOn, RunsOn, HasWorked, AllWorked, turns_of, close_all}
use Rattle.cqs_work.specs.Worked.{IsGated, AreGated, IsParted, AreParted, AreEnds, IsTold, AreTold, AreQuiet, AreWaits, AreBounded, AreUncrowded, HaveAllIn, end_at, is_own, is_own_done, seeing_all}
use Rattle.cqs_work.proofs.Lasting.{later-then}
use Rattle.cqs_work.proofs.Meeting.{has-back}
use Rattle.cqs_work.proofs.Causing.{caused-stays, seen-cause}
use Rattle.cqs_work.proofs.Bounding.{done-made, none-made, all-left, sum-kept}
use Rattle.cqs_work.proofs.Crews.{IsMember, AreCrew, waits-are, line-told}
use Rattle.cqs_work.proofs.Gating.{told-then}
use Rattle.cqs_work.proofs.Openings.{map-back, stages-dealt, opening-runs, opening-sound, opening-accounted, opening-noted, opening-took, opening-caused, opening-own, starting-at}
use Rattle.cqs_work.proofs.Widths.{all-needed, drawn-kept, few-drawn, nothing-drew, waits-there}
use Rattle.cqs_work.proofs.Quieting.{at-rest, IsEvenOwn, even-then, quiet-at}

-- a caller that is unnamed has nothing that isn't behind it
unnamed-even : (n : ℕ) (h : History) → IsUnnamed n h → IsEvenOwn (own_history n h)
unnamed-even n (of_permits h) none = subst IsEven (sym none) (record { given = refl; entered = refl })
unnamed-even n (of_elements h) none = subst IsEvenAtPool (sym none) (record { given = refl })
unnamed-even n (of_latch h) none = tt
unnamed-even n (of_rounds all) none = tt

module _ {F : Type 0} (shared : F → Shared) (plan : Plan) (floors : List F) (posts : List (Post F))
    (runnable : IsRunnable plan) (split : AreSplit plan (map shared floors))
    (posted : ArePosts (length plan.jobs) (length floors) floors posts) where
  many : length (map shared floors) ≡ length floors
  many = length-map floors shared

  opens-at : (i : ℕ) (floor : F) → slice_get floors i ≡ Some floor → IsOpening plan (length floors) i (shared floor)
  opens-at i floor got =
      subst (λ n. IsOpening plan n i (shared floor)) many
      (split.each.at i (shared floor) (get-map shared floors i floor got))

  -- each worker can begin
  runs-at : (i : ℕ) (post : Post F) → slice_get posts i ≡ Some post → RunsOn plan (shared post.floor) post.states.items
  runs-at i post got =
      opening-runs plan (length floors) i (shared post.floor) runnable
      (opens-at i post.floor (posted.its_floor i post got)) post.states.items (posted.states.at i post got)

  pub all-run : All (λ post. RunsOn plan (shared post.floor) post.states.items) posts
  all-run = go posts (λ i post got. runs-at i post got)
    where
      go : (list : List (Post F))
          → ((i : ℕ) (post : Post F) → slice_get list i ≡ Some post → RunsOn plan (shared post.floor) post.states.items)
          → All (λ post. RunsOn plan (shared post.floor) post.states.items) list
      go [] each = All-nil (λ (post : Post F). RunsOn plan (shared post.floor) post.states.items)
      go (post ∷ rest) each =
          All-cons (λ (post : Post F). RunsOn plan (shared post.floor) post.states.items) post rest (each 0 post refl)
          (go rest (λ i p got. each (suc i) p got))

  -- What one worker did: from its opening floor and states to its last ones.
  pub record Went (i : ℕ) (before after : F) (own : List JobState) (told : List Waited) (tells : ℕ → Bool)
      : Type 0 where
    pub gate : Gated
    pub states : List JobState
    pub starts : AreStarting (length plan.jobs) (length floors) i states
    pub opens : IsOpening plan (length floors) i (shared before)
    pub works : HasWorked plan (fresh_desk (shared before) tells) states own
        (desk (shared after) told gate)

  module _ (all : List (Result (Worker F) Memory)) (lefts : List F) (own : List (List JobState))
      (told : List (List Waited)) (long : length all ≡ length posts) {tells : ℕ → ℕ → Bool}
      (worked : AllWorked shared tells plan posts all)
      (parted : AreParted all lefts own told) where
    pub lefts-long : length lefts ≡ length floors
    lefts-long = parted.floors_long ∙ long ∙ posted.long

    pub own-long : length own ≡ length floors
    own-long = parted.states_long ∙ long ∙ posted.long

    pub went : (i : ℕ) (before : F) → slice_get floors i ≡ Some before
        → (after : F) × (states : List JobState) × (waits : List Waited) × (slice_get lefts i ≡ Some after)
        × (slice_get own i ≡ Some states) × (slice_get told i ≡ Some waits) × Went i before after states waits (tells i)
    went i before got =
        let post : (p : Post F) × (slice_get posts i ≡ Some p)
        = get-there posts i (omega (arith, get-below floors i before got, posted.long)) in
        let r : (r : Result (Worker F) Memory) × (slice_get all i ≡ Some r)
        = get-there all i (omega (arith, get-below posts i post.0 post.1, long)) in
        let is : IsParted i r.0 lefts own told = parted.each.at i r.0 r.1 in
        let floor_is : Some post.0.floor ≡ Some before = sym (posted.its_floor i post.0 post.1) ∙ got in
        let same : post.0.floor ≡ before = cc in
        let Left : Result (Worker F) Memory → Type 0 = λ x. IfOk x (λ worker.
        HasWorkedOn plan (fresh_desk (shared post.0.floor) (tells post.0.worker)) post.0.states.items
        worker.states.items (shared worker.floor) worker.waits.items) in
        let from : HasWorkedOn plan (fresh_desk (shared post.0.floor) (tells post.0.worker)) post.0.states.items
        is.worker.states.items (shared is.worker.floor) is.worker.waits.items
        = subst Left is.is (worked.at i post.0 r.0 post.1 r.1) in
        let Works : F → ℕ → Type 0 = λ f n. HasWorked plan (fresh_desk (shared f) (tells n)) post.0.states.items
        is.worker.states.items (desk (shared is.worker.floor) is.worker.waits.items from.gate) in (
          is.worker.floor,
          is.worker.states.items,
          is.worker.waits.items,
          is.floor,
          is.own,
          is.told,
          record {
            states = post.0.states.items;
            starts = posted.states.at i post.0 post.1;
            opens = opens-at i before got;
            gate = from.gate;
            works = subst (λ f. Works f i) same
                (subst (Works post.0.floor) (posted.numbers.at i post.0 post.1) from.works);
          },
        )

    -- by its place among the floors that are left
    back : (i : ℕ) (after : F) → slice_get lefts i ≡ Some after
        → (before : F) × (states : List JobState) × (waits : List Waited) × Went i before after states waits (tells i)
        × (slice_get floors i ≡ Some before)
    back i after got =
        let first : (f : F) × (slice_get floors i ≡ Some f)
        = get-there floors i (omega (arith, get-below lefts i after got, lefts-long)) in
        let it = went i first.0 first.1 in
        let same_some : Some it.0 ≡ Some after = sym it.3 ∙ got in
        let same : it.0 ≡ after = cc in
        (first.0, it.1, it.2, subst (λ g. Went i first.0 g it.1 it.2 (tells i)) same it.6, first.1)

    pub states-long : EachAt (λ worker states. length states ≡ length plan.jobs) own
    states-long = record { at = at }
      where
        at : (i : ℕ) (states : List JobState) → slice_get own i ≡ Some states → length states ≡ length plan.jobs
        at i states got =
            let first : (f : F) × (slice_get floors i ≡ Some f)
            = get-there floors i (omega (arith, get-below own i states got, own-long)) in
            let it = went i first.0 first.1 in
            let same_some : Some it.1 ≡ Some states = sym it.4 ∙ got in
            let same : it.1 ≡ states = cc in
            ap length (sym same) ∙ it.6.works.long

    -- what a worker leaves of its floor
    record Left (i : ℕ) (g : Shared) : Type 0 where
      pub family : g.family ≡ split.family
      pub met : g.met ≡ []
      pub opened : Shared
      pub opened_at : slice_get (map shared floors) i ≡ Some opened
      pub number : g.number ≡ opened.number
      pub below : g.number < length floors
      pub among : g.floors ≡ length floors
      pub kinds : g.board.kinds ≡ kinds_of plan.resources
      pub rest : IsAtRest g.board
      pub sound : IsSound g
      pub even : (q : ℕ) → IsHoldable (kind_at g q) → IsEvenOwn (own_history g.number (seen_at g q))

    left-at : (i : ℕ) (after : F) → slice_get lefts i ≡ Some after → Left i (shared after)
    left-at i after got =
        let it = back i after got in
        let before : F = it.0 in
        let works = it.3.works in
        let opens = it.3.opens in
        let later : Later (shared before) (shared after)
        = later-then (shared before) works.last.floor (shared after) works.turns.later works.closing.later in
        let own_floor : slice_get floors i ≡ Some before = it.4 in
        record {
          family = later.same.family ∙ split.kin.at i (shared before) (get-map shared floors i before own_floor);
          met = later.same.met ∙ opens.met;
          opened = shared before;
          opened_at = get-map shared floors i before own_floor;
          number = later.same.number;
          below = omega (arith, later.same.number, opens.number, get-below floors i before own_floor);
          among = later.same.floors ∙ opens.floors;
          kinds = later.kinds ∙ opens.kinds;
          rest = at-rest plan (shared after) works.clear;
          sound = later.sound (opening-sound plan (length floors) i (shared before) opens);
          even = even-then plan (shared after)
              (later.accounted (opening-accounted plan (length floors) i (shared before) opens)) works.clear;
        }

    left-long : length (map shared lefts) ≡ length (map shared floors)
    left-long = length-map lefts shared ∙ lefts-long ∙ sym many

    -- the floors that are left have the numbers of those that began
    numbers-same : (i : ℕ) (d : Shared) → i < length (map shared lefts)
        → (get_or (map shared lefts) i d).number ≡ (get_or (map shared floors) i d).number
    numbers-same i d below =
        let it : (f : F) × (slice_get lefts i ≡ Some f)
        = get-there lefts i (omega (arith, below, length-map lefts shared)) in
        let left : Left i (shared it.0) = left-at i it.0 it.1 in
        ap (λ x. x.number)
        (get_or_from_slice_get (map shared lefts) i (shared it.0) d (get-map shared lefts i it.0 it.1))
        ∙ left.number
        ∙ sym (ap (λ x. x.number) (get_or_from_slice_get (map shared floors) i left.opened d left.opened_at))

    left-apart : AllPairs (λ (f : Shared) (g : Shared). f.number ≢ g.number) (map shared lefts)
    left-apart i j d earlier inside same =
        split.apart i j d earlier (omega (arith, inside, left-long))
        (sym (numbers-same i d (omega (arith, earlier, inside))) ∙ same ∙ numbers-same j d inside)

    module _ (first : F) (rest : List F) (is : lefts ≡ first ∷ rest) where
      first-left : Left 0 (shared first)
      first-left = left-at 0 first (ap (λ l. slice_get l 0) is)

      given-left : (i : ℕ) (f : Shared) → slice_get (map shared rest) i ≡ Some f → Left (suc i) f
      given-left i f got =
          let it = map-back shared rest i f got in
          subst (Left (suc i)) it.2 (left-at (suc i) it.0 (ap (λ l. slice_get l (suc i)) is ∙ it.1))

      can-meet_by : CanMeet (shared first) (map shared rest)
      can-meet_by = record {
        family = record { at = λ i f got. (given-left i f got).family ∙ sym first-left.family };
        alone = record { at = λ i f got. (given-left i f got).met };
        rest = record { at = λ i f got. (given-left i f got).rest };
        first_alone = first-left.met;
        first_rest = first-left.rest;
        first_number = omega (arith, first-left.below, first-left.among);
        apart = subst (λ l. AllPairs (λ (f : Shared) (g : Shared). f.number ≢ g.number) (map shared l)) is left-apart;
        sound = first-left.sound;
      }

      workers-are : length floors ≡ suc (length rest)
      workers-are = sym lefts-long ∙ ap length is

      module _ (final : Shared) (met : HaveMet (shared first) (map shared rest) final) where
        met-all : HaveAllMet final
        met-all =
            let numbers : length final.met ≡ length rest
            = ap length met.met ∙ length-map (map shared rest) (λ (f : Shared). f.number) ∙ length-map rest shared in
            omega (arith, numbers, met.floors, first-left.among, workers-are)

        kept-at : (i : ℕ) (after : F) → slice_get (first ∷ rest) i ≡ Some after → IsKeptIn final (shared after)
        kept-at zero after got =
            let same : first ≡ after = cc in
            subst (λ f. IsKeptIn final (shared f)) same met.first_kept
        kept-at (suc i) after got = met.kept.at i (shared after) (get-map shared rest i after got)

        -- the passes that have met are those of the workers
        own-below : (n : ℕ) → Has n (final.number ∷ final.met) → n < length floors
        own-below n (inl here) = omega (arith, here, met.number, first-left.below)
        own-below n (inr later) =
            let among : Has n (map (λ (f : Shared). f.number) (map shared rest)) = subst (Has n) met.met later in
            let found = has-back (map shared rest) n among in
            omega (arith, found.3, (given-left found.1 found.0 found.2).below)

        unnamed-past : (at n : ℕ) → length floors ≤ n → IsUnnamed n (seen_at final at)
        unnamed-past at n past = go (met.named met-all at n)
          where
            go : IsUnnamed n (seen_at final at) ⊎ Has n (final.number ∷ final.met) → IsUnnamed n (seen_at final at)
            go (inl unnamed) = unnamed
            go (inr own) = absurd (omega (arith, past, own-below n own))

        kinds-are : final.board.kinds ≡ kinds_of plan.resources
        kinds-are = met.kinds ∙ first-left.kinds

        even-at : (at : ℕ) → IsHoldable (kind_at final at) → (c : ℕ) → c < length floors
            → IsEvenOwn (own_history c (seen_at final at))
        even-at at holdable c below = go (met.named met-all at c)
          where
            of-left : (i : ℕ) (f : Shared) → Left i f → IsKeptIn final f → c ≡ f.number
                → IsEvenOwn (own_history c (seen_at final at))
            of-left i f left kept same =
                let there : IsHoldable (kind_at f at)
                = subst (λ ks. IsHoldable (slice_get ks at)) (kinds-are ∙ sym left.kinds) holdable in
                subst (λ n. IsEvenOwn (own_history n (seen_at final at))) (sym same)
                (subst IsEvenOwn (sym (kept.mine at)) (left.even at there))

            go : IsUnnamed c (seen_at final at) ⊎ Has c (final.number ∷ final.met)
                → IsEvenOwn (own_history c (seen_at final at))
            go (inl unnamed) = unnamed-even c (seen_at final at) unnamed
            go (inr (inl here)) = of-left 0 (shared first) first-left met.first_kept (here ∙ met.number)
            go (inr (inr later)) =
                let found = has-back (map shared rest) c (subst (Has c) met.met later) in
                of-left (suc found.1) found.0 (given-left found.1 found.0 found.2)
                (met.kept.at found.1 found.0 found.2) found.3

        all-quiet_by : AreQuiet final
        all-quiet_by = record {
          at = λ at k got. quiet-at k (length floors) (seen_at final at) ((met.legal at).legal k got) (unnamed-past at)
              (λ holdable. even-at at (subst IsHoldable (sym got) holdable));
        }

        all-in_by : HaveAllIn plan (length floors) final
        all-in_by = record {
          kinds = kinds-are;
          met = met-all;
          floors = met.floors ∙ first-left.among;
          rest = met.rest;
          legal = met.legal;
          only = unnamed-past;
        }

        -- what a worker has seen and what it has is in all histories
        module _ (i : ℕ) (before after : F) (states : List JobState) (waits : List Waited)
            (it : Went i before after states waits (tells i)) (kept : IsKeptIn final (shared after)) where
          number-is : (shared after).number ≡ (shared before).number
          number-is = it.works.closing.later.same.number ∙ it.works.turns.later.same.number

          kinds-same : final.board.kinds ≡ (shared after).board.kinds
          kinds-same =
              let opened : (shared before).board.kinds ≡ kinds_of plan.resources = it.opens.kinds in
              kinds-are ∙ sym opened ∙ sym it.works.turns.later.kinds ∙ sym it.works.closing.later.kinds

          noted-first : IsNoted (fresh_desk (shared before) (tells i))
          noted-first = opening-noted plan (length floors) i (shared before) it.opens _

          noted-last : IsNoted it.works.last
          noted-last = it.works.went.noted noted-first

          noted : IsNoted (desk (shared after) waits it.gate)
          noted = it.works.keeps.noted noted-last

          told-all : waits ≡ it.works.went.more
          told-all = it.works.keeps.waits ∙ it.works.went.waits

          own-wait : (w : Waited) → IsIn w waits → w.job % length floors ≡ i
          own-wait w among =
              let more : List Waited = it.works.went.more in
              let there : slice_get it.works.went.more among.place ≡ Some w
              = ap (λ l. slice_get l among.place) (sym told-all) ∙ among.there in
              let goes : GoesOn (stages_of it.states) (get_or it.works.went.more among.place w).job
              = it.works.went.whose among.place w (get-below it.works.went.more among.place w there) in
              let same : get_or it.works.went.more among.place w ≡ w
              = get_or_from_slice_get it.works.went.more among.place w w there in
              opening-own plan (length floors) i it.states it.starts w.job
              (subst (λ (x : Waited). GoesOn (stages_of it.states) x.job) same goes)

          pub member-by : IsMember (map shared floors) final i (shared before) waits
          member-by = record {
            own = λ w among. ap (λ n. w.job % n) many ∙ own-wait w among;
            noted = λ at permits.
                let there : HasPermits (kind_at (shared after) at)
                = subst (λ ks. HasPermits (slice_get ks at)) kinds-same permits in
                subst (λ n. draws_in (own_history n (seen_at final at)) ≡ map (as_draw n) (told_at at waits)) number-is
                (ap draws_in (kept.mine at) ∙ noted.at at there);
          }

          -- the bounds on its takes
          took-is : (at : ℕ) → HasPermits (kind_at final at)
              → sum_in takes (shared before).number (seen_at final at) ≡ took it.works.last.floor at
          took-is at permits =
              let on_last : HasPermits (kind_at it.works.last.floor at)
              = subst (λ ks. HasPermits (slice_get ks at)) (kinds-same ∙ it.works.closing.later.kinds) permits in
              ap (λ n. sum_in takes n (seen_at final at)) (sym number-is)
              ∙ sum-kept takes (shared after).number (seen_at (shared after) at) (seen_at final at) (kept.mine at)
              ∙ it.works.keeps.tally noted-last at on_last

          module _ (ends : List JobEnd)
              (ended : (place : ℕ) (s : Stage) → place % length floors ≡ i → slice_get (stages_of states) place
              ≡ Some s
              → end_at ends place ≡ job_end s.progress) where
            pub bounds-by : (at : ℕ) → HasPermits (kind_at final at)
                → (take_steps (is_own_done (length floors) i ends) at 0 plan.jobs
                ≤ sum_in takes (shared before).number (seen_at final at))
                × (sum_in takes (shared before).number (seen_at final at)
                ≤ take_tries (is_own (length floors) i) at 0 plan.jobs)
            bounds-by at permits =
                let first_long : length (stages_of it.states) ≡ length plan.jobs
                = length-map it.states (λ (s : JobState). stage_of s) ∙ it.starts.long in
                let last_long : length (stages_of states) ≡ length plan.jobs
                = length-map states (λ (s : JobState). stage_of s) ∙ it.works.long in
                let here : HasPermits (kind_at (shared before) at)
                = subst (λ ks. HasPermits (slice_get ks at)) (kinds-are ∙ sym it.opens.kinds) permits in
                let starts = starting-at plan (length floors) i it.states it.starts in
                let mine : ℕ → Bool = is_own_done (length floors) i ends in
                let least = it.works.went.least noted-first (is_own_done (length floors) i ends) at here in
                let most = it.works.went.most noted-first at here in
                let made = done-made plan (length floors) i at ends (stages_of it.states) (stages_of states)
                first_long last_long starts ended in
                let none = none-made plan (length floors) i at ends (stages_of it.states) (stages_of states)
                first_long last_long starts ended in
                let left = all-left plan (length floors) i at ends (stages_of it.states)
                (stages_of states) first_long
                last_long starts ended in
                let begun = opening-took plan (length floors) i (shared before) it.opens at in (
                  omega (arith, least, made, none, begun, took-is at permits),
                  omega (arith, most, left, begun, took-is at permits),
                )

          -- the numbers that it drew
          pub drew-by : (at round : ℕ) → own_drawn (shared before).number (seen_at final at) round
              ≤ sum_of_takes (is_own (length floors) i) (waits_of_job at) 0 plan.jobs
          drew-by at round =
              let long : length (stages_of it.states) ≡ length plan.jobs
              = length-map it.states (λ (s : JobState). stage_of s) ∙ it.starts.long in
              let needs = all-needed plan (length floors) i at (stages_of it.states) long
              (starting-at plan (length floors) i it.states it.starts) in
              let begun = nothing-drew (shared before).number (seen_at (shared before) at) round
              (it.opens.unnamed at (shared before).number (inl refl)) in
              let all : own_drawn (shared before).number (seen_at final at) round ≡ drew (shared after) at round
              = ap (λ n. own_drawn n (seen_at final at) round) (sym number-is)
              ∙ drawn-kept (shared after).number (seen_at (shared after) at) (seen_at final at) round (kept.mine at) in
              omega (
                arith,
                all,
                begun,
                needs,
                it.works.turns.later.room at round,
                it.works.closing.later.room at round,
                it.works.keeps.room at,
                it.works.went.room at,
              )

          -- what stands behind the ends of its jobs
          pub cause-by : (place : ℕ) (job : Job) (s : Stage) → slice_get plan.jobs place ≡ Some job
              → slice_get (stages_of states) place ≡ Some s
              → HasCause job place (seeing_all (shared before) final (heard (desk (shared after) waits untold) []))
              (job_end s.progress)
          cause-by place job s got_job got =
              let last = it.works.went.caused noted-first
              (opening-caused plan (length floors) i it.states it.starts _) in
              let now : IsCaused job place (desk (shared after) waits it.gate) s.progress
              = caused-stays job place it.works.last (desk (shared after) waits it.gate) s.progress
              it.works.closing.later
              (ap (last_wait place) it.works.keeps.waits) (it.works.keeps.came place)
              (last.at place job s got_job got) in
              seen-cause job place (desk (shared after) waits it.gate)
              (seeing_all (shared before) final (heard (desk (shared after) waits untold) [])) kept.before
              (sym number-is)
              (sym (it.works.closing.later.same.limits ∙ it.works.turns.later.same.limits)) refl refl s.progress now

        few_by : AreFew plan final
        few_by = record {
          at = λ at round. few-drawn (length floors) at plan.jobs (seen_at final at) round some (unnamed-past at)
              (λ c below. most at round c below);
        }
          where
            some : 0 < length floors
            some = omega (arith, workers-are)

            most : (at round c : ℕ) → c < length floors → own_drawn c (seen_at final at) round
                ≤ sum_of_takes (is_own (length floors) c) (waits_of_job at) 0 plan.jobs
            most at round c below =
                let first : (f : F) × (slice_get floors c ≡ Some f) = get-there floors c below in
                let it = went c first.0 first.1 in
                let kept : IsKeptIn final (shared it.0) = kept-at c it.0 (ap (λ l. slice_get l c) (sym is) ∙ it.3) in
                let number : (shared first.0).number ≡ c = it.6.opens.number in
                subst (λ n. own_drawn n (seen_at final at) round
                ≤ sum_of_takes (is_own (length floors) c) (waits_of_job at) 0 plan.jobs) number
                (drew-by c first.0 it.0 it.1 it.2 it.6 kept at round)

        crew-named : (at n : ℕ) → IsUnnamed n (seen_at final at)
            ⊎ ((i : ℕ) × (f : Shared) × (slice_get (map shared floors) i ≡ Some f) × (n ≡ f.number))
        crew-named at n = go (met.named met-all at n)
          where
            go : IsUnnamed n (seen_at final at) ⊎ Has n (final.number ∷ final.met)
                → IsUnnamed n (seen_at final at)
                ⊎ ((i : ℕ) × (f : Shared) × (slice_get (map shared floors) i ≡ Some f) × (n ≡ f.number))
            go (inl unnamed) = inl unnamed
            go (inr (inl here)) =
                inr (0, first-left.opened, first-left.opened_at, here ∙ met.number ∙ first-left.number)
            go (inr (inr later)) =
                let found = has-back (map shared rest) n (subst (Has n) met.met later) in
                let left = given-left found.1 found.0 found.2 in
                inr (suc found.1, left.opened, left.opened_at, found.3 ∙ left.number)

        crew-by : AreCrew (map shared floors) told final
        crew-by = record {
          long = parted.waits_long ∙ long ∙ posted.long ∙ sym many;
          each = each;
          named = crew-named;
          legal = met.legal;
        }
          where
            each : (i : ℕ) (f : Shared) (waits : List Waited) → slice_get (map shared floors) i ≡ Some f
                → slice_get told i ≡ Some waits → IsMember (map shared floors) final i f waits
            each i f waits got_f got_t =
                let back_to = map-back shared floors i f got_f in
                let it = went i back_to.0 back_to.1 in
                let kept : IsKeptIn final (shared it.0) = kept-at i it.0 (ap (λ l. slice_get l i) (sym is) ∙ it.3) in
                let member = member-by i back_to.0 it.0 it.1 it.2 it.6 kept in
                let same_some : Some it.2 ≡ Some waits = sym it.5 ∙ got_t in
                let same : it.2 ≡ waits = cc in
                subst (λ x. IsMember (map shared floors) final i x waits) back_to.2
                (subst (IsMember (map shared floors) final i (shared back_to.0)) same member)

        module _ (lines : List WaitLine)
            (lined : AreLines (kinds_of plan.resources) (flat_map (λ l. l) told) (length plan.resources) lines) where
          lined-by : AreLines final.board.kinds (flat_map (λ l. l) told) (length plan.resources) lines
          lined-by = subst (λ ks. AreLines ks (flat_map (λ l. l) told) (length plan.resources) lines)
              (sym kinds-are) lined

          kinds-many : length plan.resources ≡ length final.board.kinds
          kinds-many = sym (ap length kinds-are ∙ length-map plan.resources (λ (r : Resource). r.kind))

          pub waits_by : AreWaits (map shared floors) final lines
          waits_by = waits-are (map shared floors) told final crew-by (length plan.resources) lines kinds-many lined-by

        module _ (ends : List JobEnd) (are : AreEnds (length plan.jobs) own ends) where
          -- how a worker's jobs ended
          ended-by : (i : ℕ) (states : List JobState) → slice_get own i ≡ Some states → (place : ℕ) (s : Stage)
              → place % length floors ≡ i → slice_get (stages_of states) place ≡ Some s
              → end_at ends place ≡ job_end s.progress
          ended-by i states got_own place s mine got =
              let its_long : length states ≡ length plan.jobs = states-long.at i states got_own in
              let below : place < length plan.jobs
              = omega (
                arith,
                get-below (stages_of states) place s got,
                length-map states (λ (s : JobState). stage_of s),
                its_long,
              ) in
              let there = are.at place below states
              (ap (λ n. slice_get own (place % n)) own-long ∙ ap (slice_get own) mine ∙ got_own) in
              get_or_from_slice_get ends place (job_end (progress_at (stages_of states) place)) Unfinished there
              ∙ ap (λ (x : Stage). job_end x.progress)
              (get_or_from_slice_get (stages_of states) place s done_stage got)

          bounded_by : AreBounded plan (map shared floors) final ends
          bounded_by = record { at = at }
            where
              at : (i : ℕ) (f : Shared) (q : ℕ) → slice_get (map shared floors) i ≡ Some f
                  → HasPermits (kind_at final q)
                  → (take_steps (is_own_done (length (map shared floors)) i ends) q 0 plan.jobs
                  ≤ sum_in takes f.number (seen_at final q))
                  × (sum_in takes f.number (seen_at final q)
                  ≤ take_tries (is_own (length (map shared floors)) i) q 0 plan.jobs)
              at i f q got_f permits =
                  let back_to = map-back shared floors i f got_f in
                  let it = went i back_to.0 back_to.1 in
                  let kept : IsKeptIn final (shared it.0) = kept-at i it.0 (ap (λ l. slice_get l i) (sym is) ∙ it.3) in
                  let bounds = bounds-by i back_to.0 it.0 it.1 it.2 it.6 kept ends (ended-by i it.1 it.4) q permits in
                  let Bounds : ℕ → Shared → Type 0 = λ n x.
                  (take_steps (is_own_done n i ends) q 0 plan.jobs ≤ sum_in takes x.number (seen_at final q))
                  × (sum_in takes x.number (seen_at final q) ≤ take_tries (is_own n i) q 0 plan.jobs) in
                  subst (λ x. Bounds (length (map shared floors)) x) back_to.2
                  (subst (λ n. Bounds n (shared back_to.0)) (sym many) bounds)

        module _ (ends : List JobEnd) (are : AreEnds (length plan.jobs) own ends) (lines : List WaitLine)
            (lined : AreLines (kinds_of plan.resources) (flat_map (λ l. l) told) (length plan.resources) lines) where
          abbrev told-at : (i : ℕ) (before : F) → slice_get floors i ≡ Some before
              → IsTold plan (length floors) i (shared before) final ends lines
          told-at i before got =
              let it = went i before got in
              let after : F = it.0 in
              let states : List JobState = it.1 in
              let works = it.6.works in
              let g : Shared = shared after in
              let number : g.number ≡ (shared before).number = works.closing.later.same.number
              ∙ works.turns.later.same.number in
              let kept : IsKeptIn final g = kept-at i after (ap (λ l. slice_get l i) (sym is) ∙ it.3) in
              let begun : stages_of it.6.states ≡ dealt plan (length floors) i
              = stages-dealt plan (length floors) i it.6.states it.6.starts in
              record {
                answers = works.turns.answers;
                after_last = works.closing.answers;
                stages = stages_of states;
                mid = heard works.last works.closing.answers;
                end = heard (desk g it.2 untold) [];
                turns = ap (λ p. turns_of plan plan.turns p
                    (heard (desk (shared before) [] untold) (works.turns.answers ++ works.closing.answers))) (sym begun)
                    ∙ works.turns.plays works.closing.answers;
                closing = ap (λ l. close_all plan (stages_of states) (heard works.last l))
                    (sym (append-nil works.closing.answers)) ∙ works.closing.plays [];
                all_used = refl;
                of_its_kind = refl;
                entries = λ at. get_or-map (own_history g.number) g.seen at (of_permits []) ∙ sym (kept.mine at)
                    ∙ ap (λ n. own_history n (seen_at final at)) number;
                own_ends = λ place below mine. are.at place below states
                    (ap (λ n. slice_get own (place % n)) own-long ∙ ap (slice_get own) mine ∙ it.4);
                waits = λ k line got_line mine.
                    line-told (map shared floors) told final crew-by (length plan.resources) lines
                    (kinds-many lines lined)
                    (lined-by lines lined) i it.2 it.5 k line got_line (ap (λ n. line.job % n) many ∙ mine);
                causes = λ place job got_job mine.
                    let there : (s : Stage) × (slice_get (stages_of it.1) place ≡ Some s)
                    = get-there (stages_of it.1) place
                    (omega (
                      arith,
                      get-below plan.jobs place job got_job,
                      length-map it.1 (λ (s : JobState). stage_of s),
                      it.6.works.long,
                    )) in
                    let ended : end_at ends place ≡ job_end there.0.progress
                    = ended-by ends are i it.1 it.4 place there.0 mine there.1 in
                    subst (HasCause job place (seeing_all (shared before) final (heard (desk g it.2 untold) [])))
                    (sym ended)
                    (cause-by i before after it.1 it.2 it.6 kept place job there.0 got_job there.1);
              }

          all-told_by : AreTold plan (map shared floors) final ends lines
          all-told_by = record {
            at = λ i f got.
                let it = map-back shared floors i f got in
                let its : IsTold plan (length floors) i f final ends lines
                = subst (λ x. IsTold plan (length floors) i x final ends lines) it.2 (told-at i it.0 it.1) in
                subst (λ n. IsTold plan n i f final ends lines) (sym many) its;
          }

          -- none of whose jobs was turned away, where the limits are above what they ask for
          uncrowded_by : AreWide plan (map shared floors) → AreUncrowded plan ends
          uncrowded_by wide place below crowded =
              let job : (job : Job) × (slice_get plan.jobs place ≡ Some job) = get-there plan.jobs place below in
              let worker : ℕ = place % length floors in
              let first : (f : F) × (slice_get floors worker ≡ Some f)
              = get-there floors worker (mod-lt place (omega (arith, workers-are))) in
              let its = told-at worker first.0 first.1 in
              let cause : WasCrowded job.0 (seeing_all (shared first.0) final its.end)
              = subst (HasCause job.0 place (seeing_all (shared first.0) final its.end)) crowded
              (its.causes place job.0 job.1 refl) in
              let there : cause.at < length (kinds_of plan.resources)
              = waits-there (kinds_of plan.resources) _ _ cause.step cause.at cause.waits
              ((runnable.steps.at place job.0 job.1).at cause.its_step.place cause.step cause.its_step.there) in
              omega (
                arith,
                cause.worn,
                few_by.at cause.at cause.round,
                wide.at worker (shared first.0) cause.at (get-map shared floors worker first.0 first.1)
                    (omega (arith, there, length-map plan.resources (λ (r : Resource). r.kind))),
              )

          -- and what its gate was told
          gated-at : (i : ℕ) (before : F) → slice_get floors i ≡ Some before
              → IsGated plan (length floors) i (shared before) final ends lines (tells i)
          gated-at i before got =
              let it = (went i before got).6 in
              let works = it.works in
              let all : HasTold (fresh_desk (shared before) (tells i)).gate it.gate
              (length (works.turns.answers ++ works.closing.answers))
              = told-then _ works.last.gate it.gate _ _ _ works.turns.told works.closing.told
              (length-append works.turns.answers works.closing.answers) in
              record {
                by_answers = told-at i before got;
                each = λ call past inside. all.each call past (omega (arith, inside, all.call));
              }

          all-gated_by : AreGated plan (map shared floors) final ends lines tells
          all-gated_by = record {
            at = λ i f got.
                let it = map-back shared floors i f got in
                let its : IsGated plan (length floors) i f final ends lines (tells i)
                = subst (λ x. IsGated plan (length floors) i x final ends lines (tells i)) it.2
                (gated-at i it.0 it.1) in
                subst (λ n. IsGated plan n i f final ends lines (tells i)) (sym many) its;
          }

    -- by which floors are left
    nothing-left : lefts ≡ [] → ⊥
    nothing-left none = omega (arith, split.some, many, lefts-long, ap length none)

    pub can-meet : CanMeetAll (map shared lefts)
    can-meet = go lefts refl
      where
        go : (list : List F) → lefts ≡ list → CanMeetAll (map shared list)
        go [] is = absurd (nothing-left is)
        go (first ∷ rest) is = can-meet_by first rest is

    module _ (final : Shared) (met : HaveMetAll (map shared lefts) final) where
      met-by : (first : F) (rest : List F) → lefts ≡ first ∷ rest → HaveMet (shared first) (map shared rest) final
      met-by first rest is = subst (λ l. HaveMetAll (map shared l) final) is met

      pub all-quiet : AreQuiet final
      all-quiet = go lefts refl
        where
          go : (list : List F) → lefts ≡ list → AreQuiet final
          go [] is = absurd (nothing-left is)
          go (first ∷ rest) is = all-quiet_by first rest is final (met-by first rest is)

      pub all-in : HaveAllIn plan (length floors) final
      all-in = go lefts refl
        where
          go : (list : List F) → lefts ≡ list → HaveAllIn plan (length floors) final
          go [] is = absurd (nothing-left is)
          go (first ∷ rest) is = all-in_by first rest is final (met-by first rest is)

      pub all-told : (ends : List JobEnd) → AreEnds (length plan.jobs) own ends → (lines : List WaitLine)
          → AreLines (kinds_of plan.resources) (flat_map (λ l. l) told) (length plan.resources) lines
          → AreTold plan (map shared floors) final ends lines
      all-told ends are lines lined = go lefts refl
        where
          go : (list : List F) → lefts ≡ list → AreTold plan (map shared floors) final ends lines
          go [] is = absurd (nothing-left is)
          go (first ∷ rest) is = all-told_by first rest is final (met-by first rest is) ends are lines lined

      pub all-few : AreFew plan final
      all-few = go lefts refl
        where
          go : (list : List F) → lefts ≡ list → AreFew plan final
          go [] is = absurd (nothing-left is)
          go (first ∷ rest) is = few_by first rest is final (met-by first rest is)

      pub all-uncrowded : (ends : List JobEnd) → AreEnds (length plan.jobs) own ends → (lines : List WaitLine)
          → AreLines (kinds_of plan.resources) (flat_map (λ l. l) told) (length plan.resources) lines
          → AreWide plan (map shared floors) → AreUncrowded plan ends
      all-uncrowded ends are lines lined wide = go lefts refl
        where
          go : (list : List F) → lefts ≡ list → AreUncrowded plan ends
          go [] is = absurd (nothing-left is)
          go (first ∷ rest) is =
              uncrowded_by first rest is final (met-by first rest is) ends are lines lined wide

      pub all-gated : (ends : List JobEnd) → AreEnds (length plan.jobs) own ends → (lines : List WaitLine)
          → AreLines (kinds_of plan.resources) (flat_map (λ l. l) told) (length plan.resources) lines
          → AreGated plan (map shared floors) final ends lines tells
      all-gated ends are lines lined = go lefts refl
        where
          go : (list : List F) → lefts ≡ list → AreGated plan (map shared floors) final ends lines tells
          go [] is = absurd (nothing-left is)
          go (first ∷ rest) is = all-gated_by first rest is final (met-by first rest is) ends are lines lined

      pub all-waits : (lines : List WaitLine)
          → AreLines (kinds_of plan.resources) (flat_map (λ l. l) told) (length plan.resources) lines
          → AreWaits (map shared floors) final lines
      all-waits lines lined = go lefts refl
        where
          go : (list : List F) → lefts ≡ list → AreWaits (map shared floors) final lines
          go [] is = absurd (nothing-left is)
          go (first ∷ rest) is = waits_by first rest is final (met-by first rest is) lines lined

      pub all-bounded : (ends : List JobEnd) → AreEnds (length plan.jobs) own ends
          → AreBounded plan (map shared floors) final ends
      all-bounded ends are = go lefts refl
        where
          go : (list : List F) → lefts ≡ list → AreBounded plan (map shared floors) final ends
          go [] is = absurd (nothing-left is)
          go (first ∷ rest) is = bounded_by first rest is final (met-by first rest is) ends are

-- as the code keeps the states
pub vecs-long : {S : Type 0} (items : S → List JobState) (vecs : List S) (jobs counted : ℕ) → counted ≡ jobs
    → EachAt (λ worker states. length states ≡ jobs) (map items vecs)
    → EachAt (λ worker own. length (items own) ≡ counted) vecs
vecs-long items vecs jobs counted is each = record {
  at = λ i own got. each.at i (items own) (get-map items vecs i own got) ∙ sym is;
}

pub ends-kept : {S : Type 0} (items : S → List JobState) (slice vecs : List S) (counted jobs : ℕ)
    (list ends : List JobEnd) → slice ≡ vecs → counted ≡ jobs → ends ≡ list → AreEnds counted (map items slice) list
    → AreEnds jobs (map items vecs) ends
ends-kept items slice vecs counted jobs list ends whole count same are =
    subst (AreEnds jobs (map items vecs)) (sym same)
    (subst (λ l. AreEnds jobs (map items l) list) whole (subst (λ n. AreEnds n (map items slice) list) count are))

-- as the code keeps the waits
pub lines-kept : {S : Type 0} (items : S → List Waited) (resources slice : List Resource) (vecs waits : List S)
    (list lines : List WaitLine) → slice ≡ resources → waits ≡ vecs → lines ≡ list
    → AreLines (kinds_of slice) (flat_map items waits) (length slice) list
    → AreLines (kinds_of resources) (flat_map (λ l. l) (map items vecs)) (length resources) lines
lines-kept {S} items resources slice vecs waits list lines all whole same are =
    let flat : flat_map (λ (l : List Waited). l) (map items vecs) ≡ flat_map items vecs
    = flat_map-map (λ (l : List Waited). l) items vecs in
    subst (AreLines (kinds_of resources) (flat_map (λ l. l) (map items vecs)) (length resources)) (sym same)
    (subst (λ t. AreLines (kinds_of resources) t (length resources) list) (sym flat)
    (subst (λ (l : List S). AreLines (kinds_of resources) (flat_map items l) (length resources) list) whole
    (subst (λ rs. AreLines (kinds_of rs) (flat_map items waits) (length rs) list) all are)))
