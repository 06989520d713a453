-- A give, a count down, and the question how a resource stands.
use Rattle.std.proofs.Common.{◌≡◌, ℕ, ◌<◌, IsTrue, [], Some, length, get_or, slice_get, refl, ap, sym, ◌∙◌, subst, arith}
use Rattle.std.specs.List.{list_any}
use Rattle.cqs_plan.specs.declared.floors.answers.FloorDown.{FloorDown}
use Rattle.cqs_plan.specs.Floor.{IsHoldable, IsHolding, IsJob, IsLatch, oldest}
use Rattle.cqs_turns_report.proofs.KindsThere.{holdable-there, latch-there}
use Rattle.cqs_floor_common.specs.HeldElements.{held_by}
use Rattle.cqs_floor_common.proofs.Holdings.{held-there, some-elements}
use Rattle.cqs_floor_common.specs.Holdings.{held_at}
use Rattle.cqs_floor_shared.specs.declared.shared.SharedGive.{SharedGive}
use Rattle.cqs_floor_shared.specs.AnswerEntries.{down_entries, give_entries}
use Rattle.cqs_floor_shared.specs.Calls as floor
use Rattle.cqs_floor_shared.specs.Calls.{TellsGive, element_held}
use Rattle.cqs_floor_shared.specs.Shared.{seen_at}
use Rattle.cqs_floor_shared_queue.specs.DeskCalls.{Downs, Gives, HasAt}
use Rattle.cqs_floor_shared_queue.specs.FloorKept.{IsKept, funds_in}
use Rattle.cqs_floor_shared_queue.specs.Holdings.{is_of, less_oldest}
use Rattle.cqs_floor_shared_queue.specs.Ledgers.{Ledger, holds_in, shared_in, with_shares}
use Rattle.cqs_floor_shared_kinds.specs.ShareCalls as calls
use Rattle.cqs_floor_shared_kinds.specs.Shares.{Sees, Share}
use Rattle.cqs_floor_shared_queue.specs.Spots.{place_in}
use Rattle.cqs_floor_shared_queue.proofs.FloorNext.{kept-next, next, parties-kept, sees-next, seen-next, stands-on}
use Rattle.cqs_floor_shared_queue.proofs.FloorPlaces.{Here, Well, here, job-there}
use Rattle.cqs_floor_shared_queue.proofs.JobHoldings.{else-less, held-less, holding-any, jobs-less, less-long, oldest-is}

module _ {X : Type 0} (s : Share X) (l : Ledger X) (at job : ℕ) (kept : IsKept s l)
    (holdable : IsHoldable (slice_get l.kinds at)) (is_job : IsJob (shared_in s l).board job)
    (holding : IsHolding (shared_in s l).board at job) where
  own : job < length l.spots
  own = job-there s l job is_job

  h : Here s l at
  h = here s l at kept (holdable-there _ holdable)

  some : 0 < length (held_by (held_at (holds_in l) at) job)
  some = subst (λ es. 0 < length es) (sym (held-there (holds_in l) at job))
      (some-elements at (get_or (holds_in l) job []) holding)

  -- what a give rests on
  pub give-can : HasAt l.shares at (calls.CanGive s job)
  give-can = record {
    share = h.share;
    there = h.there;
    can = record {
      a = funds_in l at h.kind;
      funded = h.funded.funded h.kind h.is;
      holdable = subst IsHoldable h.is holdable;
      some = some;
    };
  }

  pub give-holds : IsTrue (list_any (is_of at job) l.holdings)
  give-holds = holding-any (length l.spots) at job l.holdings own holding

  -- and what it leaves
  pub give-well : (n : Ledger X) (answer : SharedGive) → Gives s l at job answer n
      → Well s (floor.Gives (shared_in s l) at job answer) n
  give-well n answer d =
      let x = d.calls.share in
      let y = d.calls.after in
      let there = d.calls.there in
      let funded = kept.funded.at at x there in
      let made = d.calls.made (funds_in l at h.kind) (funded.funded h.kind h.is)
      (subst IsHoldable h.is holdable) some in
      let rest = less_oldest at job l.holdings in
      let later : Ledger X = next s l at x y there l.room l.spots rest l.rounds in
      let same : n ≡ later = d.written ∙ ap (with_shares (record l { holdings = rest })) d.calls.shares in
      let holds = jobs-less (length l.spots) l.holdings at job own in
      let element : calls.oldest (funds_in l at h.kind) job ≡ element_held (shared_in s l).board at job =
      ap (λ es. get_or es 0 0) (held-there (holds_in l) at job) ∙ oldest-is at (get_or (holds_in l) job []) in
      let seen = seen-next s l at x y there l.room l.spots rest l.rounds in
      record {
        kept = subst (IsKept s) (sym same)
            (kept-next s l at x y there l.room l.spots rest l.rounds kept (record {
              same = made.sees.same;
              rooms = refl;
              jobs = refl;
              rounds_long = refl;
              rounds_each = λ j. refl;
              funded = λ k is.
                  let found : Some h.kind ≡ Some k = sym h.is ∙ is in
                  let kind : h.kind ≡ k = cc in
                  subst (λ j. s.funded y (funds_in later at j)) kind
                  (subst (s.funded y)
                  (λ i. record (funds_in l at h.kind) {
                    held = sym (ap (λ hs. held_at hs at) holds ∙ held-less (holds_in l) job at) i;
                  }) made.funded);
              standing = λ i other. refl;
              came = λ i other. refl;
              held = λ i other.
                  ap (λ hs. held_at hs i) holds ∙ else-less (holds_in l) job at i (λ e. other (sym e));
              waits = λ j w got. stands-on s l.shares at x y w there
                  (λ same has. made.keeps w.round (place_in w) has) (kept.waits j w got);
              placed = kept.placed;
              apart = kept.apart;
              within = let less = less-long at job l.holdings in omega (arith, less);
            }));
        does = subst (λ m. floor.Gives (shared_in s l) at job answer (shared_in s m)) (sym same) (record {
          sees = sees-next s l at x y there l.room l.spots rest l.rounds h.kind h.is funded refl _
              (subst (λ es. Sees s h.kind x es y)
              (λ i. give_entries (sym h.is i) (funded.number i) (element i) answer) made.sees);
          tells = subst (λ z. TellsGive z answer (seen_at (shared_in s later) at)) element
              (subst (TellsGive (calls.oldest (funds_in l at h.kind) job) answer) (sym seen) made.tells);
          board = λ i. record (shared_in s l).board { holds = holds i };
          parties = parties-kept s l at x y there l.room l.spots rest l.rounds made.parties_are;
          came = refl;
        });
      }

module _ {X : Type 0} (s : Share X) (l : Ledger X) (at : ℕ) (kept : IsKept s l)
    (latch : IsLatch (slice_get l.kinds at)) where
  k : Here s l at
  k = here s l at kept (latch-there _ latch)

  pub down-can : HasAt l.shares at (calls.CanCount s)
  down-can = record {
    share = k.share;
    there = k.there;
    can = record {
      a = funds_in l at k.kind;
      funded = k.funded.funded k.kind k.is;
      latch = subst IsLatch k.is latch;
    };
  }

  pub down-well : (n : Ledger X) (answer : FloorDown) → Downs s l at answer n
      → Well s (floor.Downs (shared_in s l) at answer) n
  down-well n answer d =
      let x = d.calls.share in
      let y = d.calls.after in
      let there = d.calls.there in
      let funded = kept.funded.at at x there in
      let made = d.calls.made (funds_in l at k.kind) (funded.funded k.kind k.is) (subst IsLatch k.is latch) in
      let later : Ledger X = next s l at x y there l.room l.spots l.holdings l.rounds in
      let same : n ≡ later = d.written ∙ ap (with_shares l) d.calls.shares in
      record {
        kept = subst (IsKept s) (sym same)
            (kept-next s l at x y there l.room l.spots l.holdings l.rounds kept (record {
              same = made.sees.same;
              rooms = refl;
              jobs = refl;
              rounds_long = refl;
              rounds_each = λ j. refl;
              funded = λ other is.
                  let found : Some k.kind ≡ Some other = sym k.is ∙ is in
                  let kind : k.kind ≡ other = cc in
                  subst (λ j. s.funded y (funds_in later at j)) kind made.funded;
              standing = λ i other. refl;
              came = λ i other. refl;
              held = λ i other. refl;
              waits = λ j w got. stands-on s l.shares at x y w there
                  (λ same has. made.keeps w.round (place_in w) has) (kept.waits j w got);
              placed = kept.placed;
              apart = kept.apart;
              within = omega arith;
            }));
        does = subst (λ m. floor.Downs (shared_in s l) at answer (shared_in s m)) (sym same) (record {
          sees = sees-next s l at x y there l.room l.spots l.holdings l.rounds k.kind k.is funded refl _
              (subst (λ es. Sees s k.kind x es y) (λ i. down_entries (funded.number i) answer) made.sees);
          board = refl;
          parties = parties-kept s l at x y there l.room l.spots l.holdings l.rounds made.parties_are;
          came = refl;
        });
      }
