-- The wait of a job is over: it looked at what came, left the line, or was too late to leave. What came is held, and
-- nothing comes of a latch or a barrier.
use Rattle.std.proofs.Common.{◌≡◌, ◌≢◌, ◌⊎◌, inl, inr, ℕ, ◌+◌, ◌-◌, ◌<◌, ◌==◌, [], ◌∷◌, ◌++◌, Some, None, is_some, length, map, set, get_or, slice_get, sum_by, count_by, refl, ap, sym, ◌∙◌, length-set, arith, Option}
use Rattle.std.specs.Prelude.{slice_index}
use Rattle.std.specs.Option.{option_map}
use Rattle.std.proofs.lemmas.Bool.{cases_eq}
use Rattle.std.proofs.lemmas.List.{map-set}
use Rattle.std.proofs.lemmas.Option.{get_or_from_slice_get}
use Rattle.cqs_plan.specs.declared.plans.kind.Kind.{Kind}
use Rattle.cqs_core.proofs.Counts.{bit}
use Rattle.cqs_core.proofs.Places.{get-set_here, get-set_else, get-below}
use Rattle.cqs_plan.specs.FloorHistory.{Deed, of_permits, with_deed_in}
use Rattle.cqs_plan.specs.Floor.{size_of}
use Rattle.cqs_turns_report.proofs.StepCounts.{bit-same, bit-other}
use Rattle.cqs_floor_common.specs.HeldElements.{with_more}
use Rattle.cqs_floor_common.specs.Holdings.{held_at}
use Rattle.cqs_floor_alone.specs.declared.transfers.Transfer.TheVariants.{Got}
use Rattle.cqs_floor_alone_kinds.specs.declared.waits.Wait.{Wait}
use Rattle.cqs_floor_alone.specs.Kept.{IsKept, StandsIn, AreApart, waiting_at, is_wait_at}
use Rattle.cqs_floor_alone.specs.Ledger.{Ledger, plain_floor, with_soles, with_wait, with_grant, after_transfer, holds_after, holds_in, job_wait}
use Rattle.cqs_floor_alone_kinds.specs.Stores.{Store, Goes, KeepsOthers}
use Rattle.cqs_floor_alone_kinds.specs.Waits.{place_in}
use Rattle.cqs_floor_alone.proofs.Holdings.{count-set, held-got, else-got, many-got, holds-transfer}
use Rattle.cqs_floor_alone.proofs.KeptNext.{funded-as, kept-next, stands-on, histories-next}

-- a job whose wait stands
module _ {X : Type 0} (s : Store X) (l : Ledger X) (job : ℕ) (wait : Wait) (kept : IsKept s l)
    (has : slice_get l.waits job ≡ Some (Some wait)) where
  below : job < length l.waits
  below = get-below l.waits job (Some wait) has

  was : get_or l.waits job None ≡ Some wait
  was = get_or_from_slice_get l.waits job (Some wait) None has

  -- a wait that is left is another job's, and another one
  record IsAnother (j : ℕ) (w : Wait) : Type 0 where
    stands : slice_get l.waits j ≡ Some (Some w)
    number : w.at ≡ wait.at → w.round ≡ wait.round → w.index ≢ wait.index

  another : (j : ℕ) (w : Wait) → slice_get (set l.waits job None) j ≡ Some (Some w) → IsAnother j w
  another j w got = go (cases_eq j job)
    where
      go : (j ≡ job) ⊎ (j ≢ job) → IsAnother j w
      go (inl same) =
          let gone : Some None ≡ Some (Some w) =
          sym (get-set_here l.waits job (Some wait) None has)
          ∙ ap (slice_get (set l.waits job None)) (sym same) ∙ got in
          absurd (cc)
      go (inr other) =
          let stands : slice_get l.waits j ≡ Some (Some w) =
          sym (get-set_else l.waits job j None (λ e. other (sym e))) ∙ got in
          record {
            stands = stands;
            number = λ at round number.
                let same : job_wait w ≡ job_wait wait
                = (λ i. record { at = at i; round = round i; number = number i }) in
                other (kept.apart.same j job w wait stands has same);
          }

  apart : AreApart (set l.waits job None)
  apart = record {
    same = λ i j v w one two. kept.apart.same i j v w (another i v one).stands (another j w two).stands;
  }

  waiting-after : (i : ℕ) → waiting_at (set l.waits job None) i + bit (wait.at == i) ≡ waiting_at l.waits i
  waiting-after i =
      let changed : waiting_at (set l.waits job None) i + bit (wait.at == i) ≡ waiting_at l.waits i + 0 =
      count-set (is_wait_at i) l.waits job (Some wait) None None below was in
      omega (arith, changed)

  pub some-waiting : 0 < waiting_at l.waits wait.at
  some-waiting = omega (arith, waiting-after wait.at, bit-same wait.at)

  waiting-here : waiting_at (set l.waits job None) wait.at ≡ waiting_at l.waits wait.at - 1
  waiting-here = omega (arith, waiting-after wait.at, bit-same wait.at)

  waiting-else : (i : ℕ) → i ≢ wait.at → waiting_at (set l.waits job None) i ≡ waiting_at l.waits i
  waiting-else i other = omega (arith, waiting-after i, bit-other wait.at i (λ e. other (sym e)))

  pub fewer : count_by (λ w. is_some w) (set l.waits job None) + 1 ≡ count_by (λ w. is_some w) l.waits
  fewer =
      let changed : count_by (λ w. is_some w) (set l.waits job None) + 1 ≡ count_by (λ w. is_some w) l.waits + 0 =
      count-set (λ w. is_some w) l.waits job (Some wait) None None below was in
      omega (arith, changed)

  -- a call of the semaphore of that wait
  module _ (sole after : X) (there : slice_get l.soles wait.at ≡ Some sole)
      (keeps : KeepsOthers s sole wait.round wait.index after) where
    abbrev kind : Option Kind
    kind = slice_get l.kinds wait.at

    -- the other waits stand on
    stand-on : (j : ℕ) (w : Wait) → slice_get (set l.waits job None) j ≡ Some (Some w)
        → StandsIn s (set l.soles wait.at after) w
    stand-on j w got =
        let other = another j w got in
        stands-on s l.soles wait.at sole after w there
        (λ same stands. keeps w.round (place_in w) (other.number same) stands) (kept.waits j w other.stands)

    -- the job left the line, or only goes on
    abbrev pub gone : Ledger X
    gone = with_soles (with_wait l job None) (set l.soles wait.at after)

    gone-holds : holds_in gone ≡ holds_in l
    gone-holds = ap (λ n. holds_after n l.transfers) (length-set l.waits job None)

    pub kept-gone : (deed : Deed)
        → Goes s sole wait.round deed kind (slice_index l.room wait.at) (waiting_at l.waits wait.at - 1)
        (held_at (holds_in l) wait.at) after
        → IsKept s gone
    kept-gone deed goes = kept-next s l gone wait.at sole after kept (record {
      there = there;
      kinds = refl;
      soles = refl;
      rooms = refl;
      funded = funded-as s after _ refl (sym waiting-here) (sym held-here) goes.funded;
      room = λ i other. refl;
      waiting = waiting-else;
      held = λ i other. ap (λ hs. held_at hs i) gone-holds;
      waits = stand-on;
      apart = apart;
      spare = omega (arith, kept.spare, fewer, many);
    })
      where
        held-here : held_at (holds_in gone) wait.at ≡ held_at (holds_in l) wait.at
        held-here = ap (λ hs. held_at hs wait.at) gone-holds

        many : sum_by (λ hs. length hs) (holds_in gone) ≡ sum_by (λ hs. length hs) (holds_in l)
        many = ap (λ hss. sum_by (λ hs. length hs) hss) gone-holds

    -- the job has what came
    module _ (element : ℕ) where
      abbrev pub came_to : Ledger X
      came_to = with_soles (with_grant l job wait.at element) (set l.soles wait.at after)

      came-holds : holds_in came_to ≡ after_transfer (holds_in l) (Got job wait.at element)
      came-holds =
          ap (λ n. holds_after n (l.transfers ++ Got job wait.at element ∷ [])) (length-set l.waits job None)
          ∙ holds-transfer (length l.waits) l.transfers (Got job wait.at element)

      pub kept-came : (deed : Deed) → job < length (holds_in l)
          → Goes s sole wait.round deed kind (slice_index l.room wait.at) (waiting_at l.waits wait.at - 1)
          (with_more (held_at (holds_in l) wait.at) job element) after
          → IsKept s came_to
      kept-came deed holder goes = kept-next s l came_to wait.at sole after kept (record {
        there = there;
        kinds = refl;
        soles = refl;
        rooms = refl;
        funded = funded-as s after _ refl (sym waiting-here) (sym held-here) goes.funded;
        room = λ i other. refl;
        waiting = waiting-else;
        held = λ i other. ap (λ hs. held_at hs i) came-holds
            ∙ else-got (holds_in l) job wait.at element i (λ e. other (sym e));
        waits = stand-on;
        apart = apart;
        spare = omega (arith, kept.spare, fewer, many);
      })
        where
          held-here : held_at (holds_in came_to) wait.at ≡ with_more (held_at (holds_in l) wait.at) job element
          held-here = ap (λ hs. held_at hs wait.at) came-holds ∙ held-got (holds_in l) job wait.at element

          many : sum_by (λ hs. length hs) (holds_in came_to) ≡ sum_by (λ hs. length hs) (holds_in l) + 1
          many = ap (λ hss. sum_by (λ hs. length hs) hss) came-holds
              ∙ many-got (holds_in l) job wait.at element holder

      pub plain-came : (deed : Deed) → s.history after ≡ with_deed_in (size_of kind) (s.history sole) wait.round deed
          → plain_floor s came_to ≡ record (plain_floor s l) {
            histories = set (map s.history l.soles) wait.at
                (with_deed_in (size_of kind) (get_or (map s.history l.soles) wait.at (of_permits [])) wait.round deed);
            waits = set (map (option_map job_wait) l.waits) job None;
            holds = after_transfer (holds_in l) (Got job wait.at element);
          }
      plain-came deed done =
          let histories = histories-next s l.soles wait.at sole after (size_of kind) wait.round deed there done in
          let waits = map-set (option_map job_wait) l.waits job None in
          rw (histories, waits, came-holds) refl

    -- the plain floor where the job left
    pub plain-gone : (deed : Deed) → s.history after ≡ with_deed_in (size_of kind) (s.history sole) wait.round deed
        → plain_floor s gone ≡ record (plain_floor s l) {
          histories = set (map s.history l.soles) wait.at
              (with_deed_in (size_of kind) (get_or (map s.history l.soles) wait.at (of_permits [])) wait.round deed);
          waits = set (map (option_map job_wait) l.waits) job None;
        }
    plain-gone deed done =
        let histories = histories-next s l.soles wait.at sole after (size_of kind) wait.round deed there done in
        let waits = map-set (option_map job_wait) l.waits job None in
        rw (histories, waits, gone-holds) refl
