-- A call by which nobody gets anything, gives it back, or waits: a count down, a latch that is passed, and the last
-- arrival at a barrier.
use Rattle.std.proofs.Common.{◌≡◌, ℕ, ◌<◌, length, set, slice_get, refl, sym, length-set, arith, Some}
use Rattle.std.specs.Prelude.{slice_index}
use Rattle.cqs_plan.specs.FloorHistory.{Deed}
use Rattle.cqs_plan.specs.Floor.{size_of, with_done_in, with_less_room as with_less_room_plain}
use Rattle.cqs_floor_common.specs.Holdings.{held_at}
use Rattle.cqs_floor_alone.specs.Kept.{IsKept, waiting_at}
use Rattle.cqs_floor_alone.specs.Ledger.{Ledger, holds_in, plain_floor, with_less_room, with_soles}
use Rattle.cqs_floor_alone_kinds.specs.Stores.{Passes, Store}
use Rattle.cqs_floor_alone_kinds.specs.Waits.{place_in}
use Rattle.cqs_floor_alone.proofs.Joining.{fewer-room, room-else, room-here}
use Rattle.cqs_floor_alone.proofs.KeptNext.{funded-as, kept-next, stands-on, histories-next}

module _ {X : Type 0} (s : Store X) (l : Ledger X) (at round : ℕ) (deed : Deed) (kept : IsKept s l) (sole after : X)
    (there : slice_get l.soles at ≡ Some sole) where
  -- with the room that there was
  module _ (passed : Passes s round deed 0 (slice_get l.kinds at) (slice_index l.room at) (waiting_at l.waits at)
      (held_at (holds_in l) at) sole after) where
    pub kept-passed : IsKept s (with_soles l (set l.soles at after))
    kept-passed = kept-next s l (with_soles l (set l.soles at after)) at sole after kept (record {
      there = there;
      kinds = refl;
      soles = refl;
      rooms = refl;
      funded = funded-as s after _ (omega arith) refl refl passed.goes.funded;
      room = λ i other. refl;
      waiting = λ i other. refl;
      held = λ i other. refl;
      waits = λ j w got. stands-on s l.soles at sole after w there
          (λ same has. passed.keeps w.round (place_in w) has) (kept.waits j w got);
      apart = kept.apart;
      spare = kept.spare;
    })

    pub plain-passed : plain_floor s (with_soles l (set l.soles at after))
        ≡ with_done_in (plain_floor s l) at round deed
    plain-passed =
        let histories = histories-next s l.soles at sole after (size_of (slice_get l.kinds at)) round deed there
        passed.goes.done in
        rw histories refl

  -- with room for one wait or arrival less
  module _ (place : at < length l.room) (room : 0 < slice_index l.room at)
      (passed : Passes s round deed 1 (slice_get l.kinds at) (slice_index l.room at) (waiting_at l.waits at)
      (held_at (holds_in l) at) sole after) where
    abbrev pub through : Ledger X
    through = with_soles (with_less_room l at) (set l.soles at after)

    pub kept-through : IsKept s through
    kept-through = kept-next s l through at sole after kept (record {
      there = there;
      kinds = refl;
      soles = refl;
      rooms = length-set l.room at _;
      funded = funded-as s after _ (sym (room-here l at place)) refl refl passed.goes.funded;
      room = room-else l at;
      waiting = λ i other. refl;
      held = λ i other. refl;
      waits = λ j w got. stands-on s l.soles at sole after w there
          (λ same has. passed.keeps w.round (place_in w) has) (kept.waits j w got);
      apart = kept.apart;
      spare = omega (arith, kept.spare, fewer-room l at place room);
    })

    pub plain-through : plain_floor s through
        ≡ with_done_in (with_less_room_plain (plain_floor s l) at) at round deed
    plain-through =
        let histories = histories-next s l.soles at sole after (size_of (slice_get l.kinds at)) round deed there
        passed.goes.done in
        rw histories refl
