-- A look at a wait, and a leave: what they rest on, what they answer, and what they leave.
use Rattle.std.proofs.Common.{◌≡◌, inl, inr, ℕ, zero, suc, ◌<◌, Bool, true, false, List, [], ◌∷◌, Option, Some, None, IsSome, length, map, set, get_or, slice_get, refl, ap, sym, ◌∙◌, subst, arith}
use Rattle.std.specs.Prelude.{slice_index, if◌then◌else◌}
use Rattle.std.specs.Option.{option_map}
use Rattle.std.proofs.lemmas.List.{length-map}
use Rattle.cqs_plan.specs.declared.floors.answers.FloorLook.{FloorLook}
use Rattle.cqs_plan.specs.declared.floors.answers.FloorLook.TheVariants.{Pending, Granted}
use Rattle.cqs_plan.specs.declared.floors.answers.FloorLeave.{FloorLeave}
use Rattle.cqs_plan.specs.declared.floors.answers.FloorLeave.TheVariants.{Gone, Late}
use Rattle.cqs_plan.specs.FloorHistory.{Deed, Standing, gets, is_late, came_for}
use Rattle.cqs_plan.specs.Floor.{PlainFloor, IsJob, IsWaiting, came_to as came_plain, rounds_back, size_of, wait_of, with_done_in, with_newest, with_wait as with_plain_wait}
use Rattle.cqs_plan.specs.FloorCalls as plain
use Rattle.cqs_floor_common.specs.Holdings.{elements_of, held_at}
use Rattle.cqs_floor_alone_kinds.specs.declared.waits.Wait.{Wait}
use Rattle.cqs_floor_alone.specs.DeskCalls.{CanEndWait, Leaves, Looks}
use Rattle.cqs_floor_alone.specs.Kept.{IsKept, StandsIn, waiting_at}
use Rattle.cqs_floor_alone.specs.Ledger.{Ledger, plain_floor, rounds_of, with_back, with_soles, with_wait, with_grant, holds_in, job_wait}
use Rattle.cqs_floor_alone_kinds.specs.Stores.{Store, Brings, GoesOn, Rests, is_in_line, stands_in}
use Rattle.cqs_floor_alone_kinds.specs.Waits.{place_in}
use Rattle.cqs_floor_alone.proofs.KeptNext.{kept-next, kept-rounds, stands-on, histories-same}
use Rattle.cqs_floor_alone.proofs.Resources.{history-there, stands-there, wait-there}
use Rattle.cqs_floor_alone.proofs.WaitOver.{some-waiting, fewer, kept-gone, kept-came, plain-gone, plain-came}

module _ {X : Type 0} (s : Store X) where
  -- A call with which nothing happens leaves the ledger as it was, for the plain floor.
  module _ (l : Ledger X) (at : ℕ) (sole after : X) (kept : IsKept s l) (there : slice_get l.soles at ≡ Some sole)
      (rests : Rests s sole (slice_get l.kinds at) (slice_index l.room at) (waiting_at l.waits at)
      (held_at (holds_in l) at) after) where
    pub plain-same : plain_floor s (with_soles l (set l.soles at after)) ≡ plain_floor s l
    plain-same =
        let histories = histories-same s l.soles at sole after there rests.same in rw histories refl

    pub kept-same : IsKept s (with_soles l (set l.soles at after))
    kept-same = kept-next s l (with_soles l (set l.soles at after)) at sole after kept (record {
      there = there;
      kinds = refl;
      soles = refl;
      rooms = refl;
      funded = rests.funded;
      room = λ i other. refl;
      waiting = λ i other. refl;
      held = λ i other. refl;
      waits = λ j wait got. stands-on s l.soles at sole after wait there
          (λ same has. rests.keeps wait.round (place_in wait) has) (kept.waits j wait got);
      apart = kept.apart;
      spare = kept.spare;
    })

  -- a job of the ledger whose wait stands
  module _ (l : Ledger X) (job : ℕ) (wait : Wait) (kept : IsKept s l) (slot : get_or l.waits job None ≡ Some wait)
    where
      has : slice_get l.waits job ≡ Some (Some wait)
      has = (wait-there s l.waits job wait slot).stands

      seen : wait_of (plain_floor s l) job ≡ Some (job_wait wait)
      seen = (wait-there s l.waits job wait slot).plain

      can-end : job < length (holds_in l) → CanEndWait s l job
      can-end holder =
          let stands : StandsIn s l.soles wait = kept.waits job wait has in
          record {
            wait = wait;
            is = slot;
            sole = record {
              sole = stands.sole;
              there = stands.there;
              can = record {
                kind = _;
                room = _;
                waiting = _;
                held = _;
                funded = kept.funded.at wait.at stands.sole stands.there;
                some = some-waiting s l job wait kept has;
                there = omega (arith, holder, length-map (holds_in l) (elements_of wait.at));
                has = stands.has;
              };
            };
          }

      some-spare : 0 < l.spare
      some-spare = omega (arith, kept.spare, fewer s l job wait kept has)

      -- whether the wait stands in the line, as the plain floor sees it
      line-reads : (sole : X) → slice_get l.soles wait.at ≡ Some sole → (found : Bool)
          → is_in_line wait.index (stands_in s (slice_get l.kinds wait.at) sole wait.round).line ≡ found
          → plain.is_in_line (plain_floor s l) (job_wait wait) ≡ found
      line-reads sole there found reads =
          ap (λ (o : Standing). is_in_line (wait.index) o.line) (stands-there s l wait.at sole wait.round there)
          ∙ reads

      -- and what came for it
      came-reads : (sole : X) → slice_get l.soles wait.at ≡ Some sole → (element : ℕ)
          → element ≡ came_for (size_of (slice_get l.kinds wait.at)) (s.history sole) (wait.index)
          → came_plain (plain_floor s l) (job_wait wait) ≡ element
      came-reads sole there element came =
          ap (λ h. came_for (size_of (slice_get l.kinds wait.at)) h (wait.index))
          (history-there s l.soles wait.at sole there)
          ∙ sym came

  -- A wait that was served is over, at a look or a leave that does this.
  record Over (l : Ledger X) (job : ℕ) (wait : Wait) (element : ℕ) (deed : ℕ → ℕ → Deed) (n : Ledger X)
      : Type 0 where
    in_line : plain.is_in_line (plain_floor s l) (job_wait wait) ≡ false
    came : came_plain (plain_floor s l) (job_wait wait) ≡ element
    leaves : plain_floor s n ≡ plain.with_granted (plain_floor s l) job deed (wait_of (plain_floor s l) job) element
    kept : IsKept s n

  module _ (l : Ledger X) (job : ℕ) (wait : Wait) (kept : IsKept s l) (slot : get_or l.waits job None ≡ Some wait)
    where
      -- the plain floor where the wait is over, and where the job then has what came
      abbrev gone : ℕ → (ℕ → ℕ → Deed) → PlainFloor
      gone element deed =
          with_plain_wait (with_done_in (plain_floor s l) wait.at wait.round (deed wait.index element)) job None

      abbrev newest : ℕ → (ℕ → ℕ → Deed) → PlainFloor
      newest element deed = with_newest (gone element deed) job wait.at element

      -- what can be held is the job's newest
      granted : job < length (holds_in l) → (sole after : X) (there : slice_get l.soles wait.at ≡ Some sole)
          (element : ℕ) (deed : ℕ → ℕ → Deed)
          → Brings s job wait.round (place_in wait) element (deed wait.index element) (slice_get l.kinds wait.at)
          (slice_index l.room wait.at) (waiting_at l.waits wait.at) (held_at (holds_in l) wait.at) sole after
          → Over l job wait element deed (with_soles (with_grant l job wait.at element) (set l.soles wait.at after))
      granted holder sole after there element deed made =
          let job_has = has l job wait kept slot in
          let f = plain_floor s l in
          record {
            in_line = line-reads l job wait kept slot sole there false made.ends.found;
            came = came-reads l job wait kept slot sole there element made.came;
            leaves = plain-came s l job wait kept job_has sole after there made.ends.keeps element _
                made.ends.goes.done
                ∙ ap (λ (b : Bool). if b then newest element deed else gone element deed) (sym made.holdable)
                ∙ ap (λ o. plain.with_granted f job deed o element) (sym (seen l job wait kept slot));
            kept = kept-came s l job wait kept job_has sole after there made.ends.keeps element _ holder
                made.ends.goes;
          }

      -- of a latch or a barrier the job only goes on
      gone-on : (sole after : X) (there : slice_get l.soles wait.at ≡ Some sole) (deed : ℕ → ℕ → Deed)
          → GoesOn s wait.round (place_in wait) (deed wait.index 0) (slice_get l.kinds wait.at)
          (slice_index l.room wait.at) (waiting_at l.waits wait.at) (held_at (holds_in l) wait.at) sole after
          → Over l job wait 0 deed (with_soles (with_wait l job None) (set l.soles wait.at after))
      gone-on sole after there deed made =
          let job_has = has l job wait kept slot in
          let f = plain_floor s l in
          record {
            in_line = line-reads l job wait kept slot sole there false made.ends.found;
            came = came-reads l job wait kept slot sole there 0 made.came;
            leaves = plain-gone s l job wait kept job_has sole after there made.ends.keeps _ made.ends.goes.done
                ∙ ap (λ (b : Bool). if b then newest 0 deed else gone 0 deed) (sym made.holds_nothing)
                ∙ ap (λ o. plain.with_granted f job deed o 0) (sym (seen l job wait kept slot));
            kept = kept-gone s l job wait kept job_has sole after there made.ends.keeps _ made.ends.goes;
          }

  -- what a look comes to: its answer is the plain floor's, and so is what it leaves
  pub record LooksWell (f : PlainFloor) (job : ℕ) (answer : FloorLook) (n : Ledger X) : Type 0 where
    pub answers : answer ≡ plain.look_answer f job
    pub leaves : plain_floor s n ≡ plain.after_look f job answer
    pub kept : IsKept s n

  look-well : (l n : Ledger X) (job : ℕ) (answer : FloorLook) → IsKept s l → IsJob (plain_floor s l) job
      → Looks s l job answer n → LooksWell (plain_floor s l) job answer n
  look-well l n job Pending kept is_job (wait, slot, a, written) =
      let job_has = has l job wait kept slot in
      let holder : job < length (held_at (holds_in l) wait.at)
      = omega (arith, is_job.holds, length-map (holds_in l) (elements_of wait.at)) in
      let made = a.made _ _ _ _ (kept.funded.at wait.at a.sole a.there) (some-waiting s l job wait kept job_has)
      holder in
      let in_line = line-reads l job wait kept slot a.sole a.there true made.0 in
      let same : n ≡ with_soles l (set l.soles wait.at a.after) = written ∙ ap (with_soles l) a.soles in
      record {
        answers = rw (seen l job wait kept slot, in_line) refl;
        leaves = ap (plain_floor s) same ∙ plain-same l wait.at a.sole a.after kept a.there made.1;
        kept = subst (IsKept s) (sym same) (kept-same l wait.at a.sole a.after kept a.there made.1);
      }
  look-well l n job (Granted element) kept is_job (inl (wait, slot, a, written)) =
      let job_has = has l job wait kept slot in
      let holder : job < length (held_at (holds_in l) wait.at)
      = omega (arith, is_job.holds, length-map (holds_in l) (elements_of wait.at)) in
      let made = a.made _ _ _ _ (kept.funded.at wait.at a.sole a.there) (some-waiting s l job wait kept job_has)
      holder in
      let same : n ≡ with_soles (with_grant l job wait.at element) (set l.soles wait.at a.after) =
      written ∙ ap (with_soles (with_grant l job wait.at element)) a.soles in
      let g = granted l job wait kept slot is_job.holds a.sole a.after a.there element gets made in
      record {
        answers = rw (seen l job wait kept slot, g.in_line, g.came) refl;
        leaves = ap (plain_floor s) same ∙ g.leaves;
        kept = subst (IsKept s) (sym same) g.kept;
      }
  look-well l n job (Granted element) kept is_job (inr (none, (wait, slot, a, written))) =
      let job_has = has l job wait kept slot in
      let holder : job < length (held_at (holds_in l) wait.at)
      = omega (arith, is_job.holds, length-map (holds_in l) (elements_of wait.at)) in
      let made = a.made _ _ _ _ (kept.funded.at wait.at a.sole a.there) (some-waiting s l job wait kept job_has)
      holder in
      let same : n ≡ with_soles (with_wait l job None) (set l.soles wait.at a.after) =
      written ∙ ap (with_soles (with_wait l job None)) a.soles in
      let g = gone-on l job wait kept slot a.sole a.after a.there gets made in
      let is : Granted element ≡ Granted 0 = ap Granted none in
      record {
        answers = is ∙ rw (seen l job wait kept slot, g.in_line, g.came) refl;
        leaves = ap (plain_floor s) same ∙ g.leaves ∙ ap (plain.after_look (plain_floor s l) job) (sym is);
        kept = subst (IsKept s) (sym same) g.kept;
      }

  -- what a leave comes to
  pub record LeavesWell (f : PlainFloor) (job : ℕ) (answer : FloorLeave) (n : Ledger X) : Type 0 where
    pub answers : answer ≡ plain.leave_answer f job
    pub leaves : plain_floor s n ≡ plain.after_leave f job answer
    pub kept : IsKept s n

  leave-well : (l n : Ledger X) (job : ℕ) (answer : FloorLeave) → IsKept s l → IsJob (plain_floor s l) job
      → Leaves s l job answer n → LeavesWell (plain_floor s l) job answer n
  leave-well l n job Gone kept is_job (wait, slot, a, written) =
      let job_has = has l job wait kept slot in
      let holder : job < length (held_at (holds_in l) wait.at)
      = omega (arith, is_job.holds, length-map (holds_in l) (elements_of wait.at)) in
      let made = a.made _ _ _ _ (kept.funded.at wait.at a.sole a.there) (some-waiting s l job wait kept job_has)
      holder in
      let in_line = line-reads l job wait kept slot a.sole a.there true made.found in
      let rounds : List (List ℕ) = rounds_back l.kinds l.rounds job (job_wait wait) in
      let same : n ≡ with_soles (with_back (with_wait l job None) job wait) (set l.soles wait.at a.after) =
      written ∙ ap (with_soles (with_back (with_wait l job None) job wait)) a.soles in
      record {
        answers = rw (seen l job wait kept slot, in_line) refl;
        leaves = ap (plain_floor s) same
            ∙ ap (λ (g : PlainFloor). record g { rounds = rounds })
            (plain-gone s l job wait kept job_has a.sole a.after a.there made.keeps _ made.goes.done)
            ∙ ap (plain.with_left (plain_floor s l) job) (sym (seen l job wait kept slot));
        kept = subst (IsKept s) (sym same)
            (kept-rounds s (with_soles (with_wait l job None) (set l.soles wait.at a.after)) rounds
            (kept-gone s l job wait kept job_has a.sole a.after a.there made.keeps _ made.goes));
      }
  leave-well l n job (Late element) kept is_job (inl (wait, slot, a, written)) =
      let job_has = has l job wait kept slot in
      let holder : job < length (held_at (holds_in l) wait.at)
      = omega (arith, is_job.holds, length-map (holds_in l) (elements_of wait.at)) in
      let made = a.made _ _ _ _ (kept.funded.at wait.at a.sole a.there) (some-waiting s l job wait kept job_has)
      holder in
      let same : n ≡ with_soles (with_grant l job wait.at element) (set l.soles wait.at a.after) =
      written ∙ ap (with_soles (with_grant l job wait.at element)) a.soles in
      let g = granted l job wait kept slot is_job.holds a.sole a.after a.there element is_late made in
      record {
        answers = rw (seen l job wait kept slot, g.in_line, g.came) refl;
        leaves = ap (plain_floor s) same ∙ g.leaves;
        kept = subst (IsKept s) (sym same) g.kept;
      }
  leave-well l n job (Late element) kept is_job (inr (none, (wait, slot, a, written))) =
      let job_has = has l job wait kept slot in
      let holder : job < length (held_at (holds_in l) wait.at)
      = omega (arith, is_job.holds, length-map (holds_in l) (elements_of wait.at)) in
      let made = a.made _ _ _ _ (kept.funded.at wait.at a.sole a.there) (some-waiting s l job wait kept job_has)
      holder in
      let same : n ≡ with_soles (with_wait l job None) (set l.soles wait.at a.after) =
      written ∙ ap (with_soles (with_wait l job None)) a.soles in
      let g = gone-on l job wait kept slot a.sole a.after a.there is_late made in
      let is : Late element ≡ Late 0 = ap Late none in
      record {
        answers = is ∙ rw (seen l job wait kept slot, g.in_line, g.came) refl;
        leaves = ap (plain_floor s) same ∙ g.leaves ∙ ap (plain.after_leave (plain_floor s l) job) (sym is);
        kept = subst (IsKept s) (sym same) g.kept;
      }

  -- the wait of a job that waits on the plain floor
  wait-of : (waits : List (Option Wait)) (job : ℕ) → IsSome (get_or (map (option_map job_wait) waits) job None)
      → (wait : Wait) × (get_or waits job None ≡ Some wait)
  wait-of [] job some = absurd (cc)
  wait-of (None ∷ waits) zero some = absurd (cc)
  wait-of (Some wait ∷ waits) zero some = (wait, refl)
  wait-of (w ∷ waits) (suc job) some = wait-of waits job some

  -- where the floor is seen as its plain floor, a job that waits can end its wait
  pub end-can : (l : Ledger X) (f : PlainFloor) (job : ℕ) → plain_floor s l ≡ f → IsKept s l → IsJob f job
      → IsWaiting f job → CanEndWait s l job
  end-can l f job view kept =
      subst (λ g. IsJob g job → IsWaiting g job → CanEndWait s l job) view
      (λ is_job waiting. let w = wait-of l.waits job waiting in can-end l job w.0 kept w.1 is_job.holds)

  -- and there is memory for what it then gets
  pub end-spare : (l : Ledger X) (f : PlainFloor) (job : ℕ) → plain_floor s l ≡ f → IsKept s l
      → IsWaiting f job → 0 < l.spare
  end-spare l f job view kept =
      subst (λ g. IsWaiting g job → 0 < l.spare) view
      (λ waiting. let w = wait-of l.waits job waiting in some-spare l job w.0 kept w.1)

  -- and has a round at each resource
  pub end-each : (l : Ledger X) (f : PlainFloor) (job : ℕ) → plain_floor s l ≡ f → IsJob f job
      → length (rounds_of l job) ≡ length l.kinds
  end-each l f job view =
      subst (λ g. IsJob g job → length (rounds_of l job) ≡ length l.kinds) view (λ is_job. is_job.each)

  -- the same where the floor is seen as its plain floor
  pub look-floor : (l n : Ledger X) (f : PlainFloor) (job : ℕ) (answer : FloorLook) → plain_floor s l ≡ f
      → IsKept s l → IsJob f job → Looks s l job answer n → LooksWell f job answer n
  look-floor l n f job answer view kept =
      subst (λ g. IsJob g job → Looks s l job answer n → LooksWell g job answer n) view
      (look-well l n job answer kept)

  pub leave-floor : (l n : Ledger X) (f : PlainFloor) (job : ℕ) (answer : FloorLeave) → plain_floor s l ≡ f
      → IsKept s l → IsJob f job → Leaves s l job answer n → LeavesWell f job answer n
  leave-floor l n f job answer view kept =
      subst (λ g. IsJob g job → Leaves s l job answer n → LeavesWell g job answer n) view
      (leave-well l n job answer kept)
