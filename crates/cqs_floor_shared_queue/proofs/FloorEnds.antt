-- How a resource stands once all floors have met, and no job has anything.
use Rattle.std.proofs.Common.{◌≡◌, ℕ, suc, Bool, Option, List, [], ◌∷◌, Some, None, IsSome, get_or, slice_get, refl, ap, sym, ◌∙◌, count_by, arith}
use Rattle.std.specs.Option.{option_map}
use Rattle.std.proofs.lemmas.List.Sums.{sum_by-cons}
use Rattle.cqs_core.proofs.Counts.{bit}
use Rattle.cqs_plan.specs.declared.floors.answers.FloorEnd.{FloorEnd}
use Rattle.cqs_plan.specs.Floor.{Holding, size_of}
use Rattle.cqs_plan.specs.FloorHistory.{ending, of_permits}
use Rattle.cqs_turns_report.proofs.KindsThere.{some-there}
use Rattle.cqs_floor_common.specs.Holdings.{elements_of, held_at}
use Rattle.cqs_floor_shared.specs.Calls.{HaveAllMet, IsAtRest, end_answer}
use Rattle.cqs_floor_shared_queue.specs.declared.floors.spots.FloorWait.{FloorWait}
use Rattle.cqs_floor_shared_queue.specs.declared.floors.spots.Spot.{Spot}
use Rattle.cqs_floor_shared_queue.specs.DeskCalls.{CanEndAt, Ends}
use Rattle.cqs_floor_shared_queue.specs.FloorKept.{IsKept, came_in, funds_in, standing_in}
use Rattle.cqs_floor_shared_queue.specs.Ledgers.{Ledger, holds_in, shared_in}
use Rattle.cqs_floor_shared_kinds.specs.ShareCalls.{HoldNothing}
use Rattle.cqs_floor_shared_kinds.specs.Shares.{IsLawful, Share}
use Rattle.cqs_floor_shared_queue.specs.Spots.{came_at, job_wait, stands_at}
use Rattle.cqs_floor_shared_queue.proofs.FloorComes.{none-came, none-stands}
use Rattle.cqs_floor_shared_queue.proofs.FloorCrews.{whole-at}
use Rattle.cqs_floor_shared_queue.proofs.FloorLists.{index-mapped}
use Rattle.cqs_floor_shared_queue.proofs.FloorPlaces.{here}

-- of what never is so none is counted
count-none : (p : Spot → Bool) (spots : List Spot)
    → ((j : ℕ) (spot : Spot) → slice_get spots j ≡ Some spot → bit (p spot) ≡ 0) → count_by p spots ≡ 0
count-none p [] none = refl
count-none p (spot ∷ spots) none =
    let here = none 0 spot refl in
    let rest = count-none p spots (λ j q got. none (suc j) q got) in
    let both = sum_by-cons (λ (q : Spot). bit (p q)) spot spots in
    omega (arith, here, rest, both)

pub none-in : (spots : List Spot) → ((j : ℕ) (spot : Spot) → slice_get spots j ≡ Some spot → spot.wait ≡ None)
    → (at : ℕ) → (standing_in spots at ≡ 0) × (came_in spots at ≡ 0)
none-in spots idle at = (
  count-none (stands_at at) spots (λ j spot got. none-stands at spot (idle j spot got)),
  count-none (came_at at) spots (λ j spot got. none-came at spot (idle j spot got)),
)

nothing-held : (at : ℕ) (holds : List (List Holding)) → ((j : ℕ) → get_or holds j [] ≡ [])
    → HoldNothing (held_at holds at)
nothing-held at [] none = tt
nothing-held at (hs ∷ holds) none = (ap (elements_of at) (none 0), nothing-held at holds (λ j. none (suc j)))

none-back : (w : Option FloorWait) → option_map job_wait w ≡ None → w ≡ None
none-back None none = refl
none-back (Some w) none = absurd (cc)

module _ {X : Type 0} (s : Share X) (lawful : IsLawful s) (l : Ledger X) (at : ℕ) (kept : IsKept s l) where
  pub ask-can : IsSome (slice_get l.kinds at) → HaveAllMet (shared_in s l) → IsAtRest (shared_in s l).board
      → CanEndAt s l at
  ask-can some all rest =
      let h = here s l at kept (some-there _ some) in
      let none = none-in l.spots idle at in
      record {
        kind = h.kind;
        is = h.is;
        share = record {
          share = h.share;
          there = h.there;
          can = record {
            a = funds_in l at h.kind;
            funded = h.funded.funded h.kind h.is;
            kind_is = refl;
            waitless = none.0;
            all_seen = none.1;
            nothing = nothing-held at (holds_in l) rest.holds;
            whole = whole-at s l kept lawful all at h.share h.there h.kind h.is;
          };
        };
      }
    where
      idle : (j : ℕ) (spot : Spot) → slice_get l.spots j ≡ Some spot → spot.wait ≡ None
      idle j spot got =
          none-back spot.wait
          (sym (index-mapped (λ (p : Spot). option_map job_wait p.wait) l.spots j spot None got) ∙ rest.waits j)

  pub ask-well : (answer : FloorEnd) → Ends s l at answer → answer ≡ end_answer (shared_in s l) at
  ask-well answer d =
      d.share.can
      ∙ (λ i. ending (size_of (sym d.is i))
      (sym (index-mapped s.seen l.shares at d.share.share (of_permits []) d.share.there) i))
