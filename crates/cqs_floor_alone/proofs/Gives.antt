-- A give: what it rests on, what it answers, and what it leaves.
use Rattle.std.proofs.Common.{◌≡◌, ℕ, ◌+◌, ◌<◌, List, [], ◌∷◌, Option, Some, None, IsSome, length, set, get_or, slice_get, sum_by, refl, ap, ap₂, sym, ◌∙◌, subst, arith}
use Rattle.std.specs.Prelude.{slice_index}
use Rattle.std.specs.Option.{option_map, option_map_or}
use Rattle.cqs_core.specs.QueueLine.{Waiting}
use Rattle.cqs_core.specs.SemaphoreEntries.{IsFirst}
use Rattle.cqs_plan.specs.declared.floors.answers.FloorGive.{FloorGive}
use Rattle.cqs_plan.specs.declared.floors.answers.FloorGive.TheVariants.{Free, Sent}
use Rattle.cqs_plan.specs.FloorHistory.{Deed, Standing, frees, sends}
use Rattle.cqs_plan.specs.Floor.{PlainFloor, Holding, IsHoldable, IsJob, IsHolding, oldest, holds_of, size_of, standing_at, with_done, without_oldest}
use Rattle.cqs_plan.specs.FloorCalls as plain
use Rattle.cqs_turns_report.proofs.KindsThere.{holdable-there}
use Rattle.cqs_floor_common.specs.HeldElements.{held_by, with_less}
use Rattle.cqs_floor_common.proofs.Holdings.{held-there, some-elements}
use Rattle.cqs_floor_common.specs.Holdings.{held_at}
use Rattle.cqs_floor_alone.specs.declared.transfers.Transfer.TheVariants.{GaveBack}
use Rattle.cqs_floor_alone.specs.DeskCalls.{Gives, HasAt}
use Rattle.cqs_floor_alone.specs.Kept.{IsKept, waiting_at}
use Rattle.cqs_floor_alone.specs.Ledger.{Ledger, plain_floor, with_soles, with_transfer, after_transfer, holds_in}
use Rattle.cqs_floor_alone_kinds.specs.Stores.{Store, CanRelease, Goes, KeepsAll}
use Rattle.cqs_floor_alone_kinds.specs.Waits.{place_in}
use Rattle.cqs_floor_alone.proofs.Holdings.{held-gave, else-gave, many-gave, holds-transfer, oldest-elements}
use Rattle.cqs_floor_alone.proofs.KeptNext.{funded-as, kept-next, stands-on, histories-next}
use Rattle.cqs_floor_alone.proofs.Resources.{Funds, funds-at, standing-there}

-- what a plain give answers, where what is given goes to the first of the line
sent-first : (line : List Waiting) (k : ℕ) → IsFirst k line → (held : Option Holding) (element : ℕ)
    → option_map_or (λ h. h.element) held 0 ≡ element → plain.give_of line held ≡ Sent element k
sent-first [] k first held element is = absurd first
sent-first (w ∷ line) k first held element is = ap₂ (λ e n. Sent e n) is first

element-of : (held : Option Holding) (element : ℕ) → option_map (λ h. h.element) held ≡ Some element
    → option_map_or (λ h. h.element) held 0 ≡ element
element-of (Some h) element is = cc
element-of None element is = absurd (cc)

module _ {X : Type 0} (s : Store X) where
  -- a job holds something of a resource in the words of all
  some-held : (l : Ledger X) (at job : ℕ) → IsSome (oldest at (get_or (holds_in l) job []))
      → 0 < length (held_by (held_at (holds_in l) at) job)
  some-held l at job holding =
      rw (held-there (holds_in l) at job) (some-elements at (get_or (holds_in l) job []) holding)

  -- a job that holds something of a resource can give it
  can-give : (l : Ledger X) (at job : ℕ) → IsKept s l → IsHoldable (slice_get l.kinds at)
      → IsHolding (plain_floor s l) at job → HasAt l.soles at (CanRelease s job)
  can-give l at job kept holdable holding =
      let funds : Funds s l at = funds-at s l at kept (holdable-there (slice_get l.kinds at) holdable) in
      record {
        sole = funds.sole;
        there = funds.there;
        can = record {
          kind = _;
          room = _;
          waiting = _;
          held = _;
          holdable = holdable;
          funded = funds.funded;
          some = some-held l at job holding;
        };
      }

  -- a job that gives back what it holds of a resource
  module _ (l : Ledger X) (at job : ℕ) (kept : IsKept s l) (holder : job < length (holds_in l))
      (holding : IsSome (oldest at (get_or (holds_in l) job [])))
      (sole after : X) (there : slice_get l.soles at ≡ Some sole) where
    abbrev given : Ledger X
    given = with_soles (with_transfer l (GaveBack job at)) (set l.soles at after)

    transferred : holds_in given ≡ after_transfer (holds_in l) (GaveBack job at)
    transferred = holds-transfer (length l.waits) l.transfers (GaveBack job at)

    -- the element that comes back is the oldest that the job holds
    oldest-is : (element : ℕ) → slice_get (held_by (held_at (holds_in l) at) job) 0 ≡ Some element
        → option_map_or (λ h. h.element) (oldest at (get_or (holds_in l) job [])) 0 ≡ element
    oldest-is element first =
        element-of (oldest at (get_or (holds_in l) job [])) element
        (sym (oldest-elements at (get_or (holds_in l) job []))
        ∙ ap (λ es. slice_get es 0) (sym (held-there (holds_in l) at job)) ∙ first)

    module _ (deed : Deed) (goes : Goes s sole 0 deed (slice_get l.kinds at) (slice_index l.room at)
        (waiting_at l.waits at) (with_less (held_at (holds_in l) at) job) after) where
      -- what is kept, wherever it went
      kept-given : KeepsAll s sole after → IsKept s given
      kept-given keeps = kept-next s l given at sole after kept (record {
        there = there;
        kinds = refl;
        soles = refl;
        rooms = refl;
        funded = funded-as s after _ refl refl (sym held-here) goes.funded;
        room = λ i other. refl;
        waiting = λ i other. refl;
        held = λ i other. ap (λ hs. held_at hs i) transferred ∙ else-gave (holds_in l) job at i (λ e. other (sym e));
        waits = λ j wait got. stands-on s l.soles at sole after wait there
            (λ same has. keeps wait.round (place_in wait) has) (kept.waits j wait got);
        apart = kept.apart;
        spare = omega (arith, kept.spare, many);
      })
        where
          held-here : held_at (holds_in given) at ≡ with_less (held_at (holds_in l) at) job
          held-here = ap (λ hs. held_at hs at) transferred ∙ held-gave (holds_in l) job at

          many : sum_by (λ hs. length hs) (holds_in given) + 1 ≡ sum_by (λ hs. length hs) (holds_in l)
          many =
              ap (λ hss. sum_by (λ hs. length hs) hss + 1) transferred
              ∙ many-gave (holds_in l) job at holder holding

      plain-given : plain_floor s given ≡ without_oldest (with_done (plain_floor s l) at deed) job at
      plain-given =
          let histories = histories-next s l.soles at sole after (size_of (slice_get l.kinds at)) 0 deed there
          goes.done in
          rw (histories, transferred) refl

  -- what a give comes to: its answer is the plain floor's, and so is what it leaves
  pub record GivesWell (f : PlainFloor) (at job : ℕ) (answer : FloorGive) (n : Ledger X) : Type 0 where
    pub answers : answer ≡ plain.give_answer f at job
    pub leaves : plain_floor s n ≡ plain.after_give f at job answer
    pub kept : IsKept s n

  give-well : (l n : Ledger X) (at job : ℕ) (answer : FloorGive) → IsKept s l → IsJob (plain_floor s l) job
      → IsHolding (plain_floor s l) at job → Gives s l at job answer n → GivesWell (plain_floor s l) at job answer n
  give-well l n at job (Free element) kept is_job holding (a, written) =
      let both = a.made _ _ _ _ (kept.funded.at at a.sole a.there) (some-held l at job holding) in
      let made = both.1 in
      let same : n ≡ with_soles (with_transfer l (GaveBack job at)) (set l.soles at a.after) =
      written ∙ ap (with_soles (with_transfer l (GaveBack job at))) a.soles in
      record {
        answers = rw (standing-there s l at a.sole a.there, both.0)
            (ap Free (sym (oldest-is l at job kept is_job.holds holding a.sole a.after a.there element made.oldest)));
        leaves = ap (plain_floor s) same
            ∙ plain-given l at job kept is_job.holds holding a.sole a.after a.there (frees element) made.goes;
        kept = subst (IsKept s) (sym same)
            (kept-given l at job kept is_job.holds holding a.sole a.after a.there (frees element) made.goes
            made.keeps);
      }
  give-well l n at job (Sent element number) kept is_job holding (a, written) =
      let both = a.made _ _ _ _ (kept.funded.at at a.sole a.there) (some-held l at job holding) in
      let made = both.1 in
      let same : n ≡ with_soles (with_transfer l (GaveBack job at)) (set l.soles at a.after) =
      written ∙ ap (with_soles (with_transfer l (GaveBack job at))) a.soles in
      record {
        answers = sym (sent-first (standing_at (plain_floor s l) at).line number
            (subst (λ (o : Standing). IsFirst number o.line) (sym (standing-there s l at a.sole a.there)) both.0)
            (oldest at (holds_of (plain_floor s l) job)) element
            (oldest-is l at job kept is_job.holds holding a.sole a.after a.there element made.oldest));
        leaves = ap (plain_floor s) same
            ∙ plain-given l at job kept is_job.holds holding a.sole a.after a.there (sends element number) made.goes;
        kept = subst (IsKept s) (sym same)
            (kept-given l at job kept is_job.holds holding a.sole a.after a.there (sends element number) made.goes
            made.keeps);
      }

  -- the same where the floor is seen as its plain floor
  pub give-can : (l : Ledger X) (f : PlainFloor) (at job : ℕ) → plain_floor s l ≡ f → IsKept s l
      → IsHoldable (slice_get f.kinds at) → IsHolding f at job → HasAt l.soles at (CanRelease s job)
  give-can l f at job view kept =
      let Allows : PlainFloor → Type 0 = λ g. IsHoldable (slice_get g.kinds at)
      → IsHolding g at job → HasAt l.soles at (CanRelease s job) in
      subst Allows view (can-give l at job kept)

  pub give-floor : (l n : Ledger X) (f : PlainFloor) (at job : ℕ) (answer : FloorGive)
      → plain_floor s l ≡ f → IsKept s l → IsJob f job → IsHolding f at job → Gives s l at job answer n
      → GivesWell f at job answer n
  give-floor l n f at job answer view kept =
      let Comes : PlainFloor → Type 0 = λ g. IsJob g job → IsHolding g at job → Gives s l at job answer n
      → GivesWell g at job answer n in
      subst Comes view (give-well l n at job answer kept)
