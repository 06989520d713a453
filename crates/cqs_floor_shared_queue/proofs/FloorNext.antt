-- What a floor keeps after a call at one resource, and what its pass has seen then.
use Rattle.std.proofs.Common.{◌≡◌, ◌≢◌, ◌⊎◌, inl, inr, ℕ, ◌<◌, ◌≤◌, List, [], ◌∷◌, Some, length, map, set, get_or, slice_get, refl, ap, sym, ◌∙◌, subst, length-set, arith}
use Rattle.std.proofs.lemmas.Bool.{cases_eq}
use Rattle.std.proofs.lemmas.List.{map-set}
use Rattle.cqs_core.specs.Parts.{Has}
use Rattle.cqs_core.proofs.EachAtLemmas.{EachAt-write}
use Rattle.cqs_core.proofs.Places.{get-set_here, get-set_else}
use Rattle.cqs_plan.specs.declared.plans.kind.Kind.{Kind}
use Rattle.cqs_plan.specs.FloorHistory.{of_permits}
use Rattle.cqs_plan.specs.LegalFloor.{IsHistory}
use Rattle.cqs_floor_common.specs.Holdings.{held_at}
use Rattle.cqs_floor_shared.specs.Entries.{Entries, AreOf, with_entries, own_entries}
use Rattle.cqs_floor_shared.specs.Shared as floor
use Rattle.cqs_floor_shared_queue.specs.declared.floors.holdings.JobHolding.{JobHolding}
use Rattle.cqs_floor_shared_queue.specs.declared.floors.spots.FloorWait.{FloorWait}
use Rattle.cqs_floor_shared_queue.specs.declared.floors.spots.Spot.{Spot}
use Rattle.cqs_floor_shared_queue.specs.FloorKept.{AreApart, IsFundedAt, IsKept, StandsIn, came_in, funds_in, holdings_to_come, standing_in}
use Rattle.cqs_floor_shared_queue.specs.Ledgers.{Ledger, holds_in, kind_numbers, own_rounds, shared_in}
use Rattle.cqs_floor_shared_kinds.specs.Shares.{Share, IsSame, Sees}
use Rattle.cqs_floor_shared_queue.specs.Spots.{place_in, spot_in}
use Rattle.cqs_floor_shared_queue.proofs.FloorLists.{index-mapped, map-kept}

module _ {X : Type 0} (s : Share X) where
  -- a wait stands on where it stands on in what made the call
  pub stands-on : (shares : List X) (at : ℕ) (x y : X) (wait : FloorWait) → slice_get shares at ≡ Some x
      → (wait.at ≡ at → s.has x wait.round (place_in wait) → s.has y wait.round (place_in wait))
      → StandsIn s shares wait → StandsIn s (set shares at y) wait
  stands-on shares at x y wait there on stands = go (cases_eq wait.at at)
    where
      go : (wait.at ≡ at) ⊎ (wait.at ≢ at) → StandsIn s (set shares at y) wait
      go (inl same) =
          let is : Some stands.share ≡ Some x = sym stands.there ∙ ap (slice_get shares) same ∙ there in
          let here : stands.share ≡ x = cc in
          record {
            share = y;
            there = ap (slice_get (set shares at y)) same ∙ get-set_here shares at x y there;
            has = on same (subst (λ (z : X). s.has z wait.round (place_in wait)) here stands.has);
          }
      go (inr other) =
          record {
            share = stands.share;
            there = get-set_else shares at wait.at y (λ e. other (sym e)) ∙ stands.there;
            has = stands.has;
          }

  -- a call at a place: what is kept there is another, and so may be all that jobs have
  module _ (l : Ledger X) (at : ℕ) (x y : X) (there : slice_get l.shares at ≡ Some x)
      (room : List ℕ) (spots : List Spot) (holdings : List JobHolding) (rounds : List (List ℕ)) where
    abbrev pub next : Ledger X
    next = record l {
      shares = set l.shares at y;
      room = room;
      spots = spots;
      holdings = holdings;
      rounds = rounds;
    }

    pub record Follows : Type 0 where
      pub same : IsSame s x y
      pub rooms : length room ≡ length l.room
      pub jobs : length spots ≡ length l.spots
      pub rounds_long : length rounds ≡ length l.rounds
      pub rounds_each : (job : ℕ) → length (own_rounds rounds job) ≡ length (own_rounds l.rounds job)
      pub funded : (k : Kind) → slice_get l.kinds at ≡ Some k → s.funded y (funds_in next at k)
      pub standing : (i : ℕ) → i ≢ at → standing_in spots i ≡ standing_in l.spots i
      pub came : (i : ℕ) → i ≢ at → came_in spots i ≡ came_in l.spots i
      pub held : (i : ℕ) → i ≢ at → held_at (holds_in next) i ≡ held_at (holds_in l) i
      pub waits : (job : ℕ) (wait : FloorWait) → slice_get spots job ≡ Some (spot_in wait)
          → StandsIn s (set l.shares at y) wait
      pub placed : (job : ℕ) (spot : Spot) (wait : FloorWait) → slice_get spots job ≡ Some spot
          → spot.wait ≡ Some wait → wait.at < length l.kinds
      pub apart : AreApart spots
      pub within : holdings_to_come next ≤ holdings_to_come l

    pub kept-next : IsKept s l → Follows → IsKept s next
    kept-next kept f = record {
      shares = length-set l.shares at y ∙ kept.shares;
      rooms = f.rooms ∙ kept.rooms;
      jobs = f.rounds_long ∙ kept.jobs ∙ sym f.jobs;
      each_round = λ job below. f.rounds_each job ∙ kept.each_round job (omega (arith, below, f.rounds_long));
      sized = kept.sized;
      funded = EachAt-write (IsFundedAt s l) (IsFundedAt s next) l.shares at x y there here others kept.funded;
      waits = f.waits;
      placed = f.placed;
      apart = f.apart;
      distinct = kept.distinct;
      below = kept.below;
      few_floors = kept.few_floors;
      few = kept.few;
      within = omega (arith, f.within, kept.within);
      space = kept.space;
      seats = kept.seats;
    }
      where
        was : IsFundedAt s l at x
        was = kept.funded.at at x there

        here : IsFundedAt s next at y
        here = record {
          funded = f.funded;
          number = f.same.number ∙ was.number;
          met = f.same.met ∙ was.met;
          passes = f.same.passes ∙ was.passes;
        }

        others : (i : ℕ) (z : X) → slice_get l.shares i ≡ Some z → i ≢ at → IsFundedAt s l i z
            → IsFundedAt s next i z
        others i z got other old = record {
          funded = λ k is. subst (s.funded z)
              (λ j. record {
                kind = k;
                waiting = sym (f.standing i other) j;
                came = sym (f.came i other) j;
                held = sym (f.held i other) j;
              })
              (old.funded k is);
          number = old.number;
          met = old.met;
          passes = old.passes;
        }

    -- what the pass of the resource has seen, the floor has seen of it
    pub sees-next : (k : Kind) → slice_get l.kinds at ≡ Some k → IsFundedAt s l at x → length spots ≡ length l.spots
        → (entries : Entries) → Sees s k x entries y
        → floor.Sees (shared_in s l) at entries (shared_in s next)
    sees-next k is funded jobs entries sees = record {
      more = sees.more;
      words = subst (λ h. AreOf h sees.more) (sym seen_x) sees.words;
      seen = map-set s.seen l.shares at y
          ∙ ap (set (map s.seen l.shares) at) (sees.seen ∙ ap (λ h. with_entries h sees.more) (sym seen_x));
      mine = ap (λ n. own_entries n sees.more) (sym funded.number) ∙ sees.mine;
      others = λ n has. sees.others n (subst (Has n) (sym funded.met) has);
      unnamed = λ n many. sees.unnamed n (subst (λ m. m ≤ n) (sym funded.passes) many);
      legal = record {
        legal = λ other got.
            let same : Some k ≡ Some other = sym is ∙ got in
            let kind : k ≡ other = cc in
            subst (λ j. IsHistory j (with_entries (get_or (map s.seen l.shares) at (of_permits [])) sees.more)) kind
            (subst (λ h. IsHistory k h) (sees.seen ∙ ap (λ h. with_entries h sees.more) (sym seen_x)) sees.legal);
      };
      same = record {
        limits = map-kept s.limit l.shares at x y there sees.same.limit;
        number = refl;
        met = refl;
        floors = refl;
        family = λ i. ((jobs i ∷ l.floors ∷ l.budget ∷ []) ∷ map kind_numbers l.kinds)
            ∷ map-kept s.family l.shares at x y there sees.same.family i;
      };
    }
      where
        seen_x : get_or (map s.seen l.shares) at (of_permits []) ≡ s.seen x
        seen_x = index-mapped s.seen l.shares at x (of_permits []) there

    -- and where that holds no more parties than before, so does the floor
    pub seen-next : get_or (map s.seen (set l.shares at y)) at (of_permits []) ≡ s.seen y
    seen-next = index-mapped s.seen (set l.shares at y) at y (of_permits []) (get-set_here l.shares at x y there)

    pub parties-kept : s.parties y ≡ s.parties x → map s.parties (set l.shares at y) ≡ map s.parties l.shares
    parties-kept same = map-kept s.parties l.shares at x y there same
