-- Each move of a queue, with its broken cells read as unbroken, is the same move of the reading; and what a pass and
-- a cell of the queue are, by the soundness of the reading.
use Rattle.std.proofs.Common.{◌≡◌, ℕ, ◌+◌, ◌<◌, Bool, true, false, List, [], ◌∷◌, Option, Some, None, length, map, set, slice_get, refl, ap, sym, ◌∙◌, subst, arith}
use Rattle.std.specs.Option.{option_map}
use Rattle.std.proofs.lemmas.List.{length-map, map-set, map-append}
use Rattle.cqs_core.specs.declared.cells.CoreCell.{CoreCell}
use Rattle.cqs_core.specs.declared.cells.CoreState.{CoreState}
use Rattle.cqs_core.specs.declared.cells.CoreState.TheVariants as state
use Rattle.cqs_core.specs.declared.doings.Doing.{Doing}
use Rattle.cqs_core.specs.declared.doings.Doing.TheVariants as doing
use Rattle.cqs_core.specs.Numbered.{pick_each, EachAt}
use Rattle.cqs_core.specs.QueueState.{Queue, fresh_cell}
use Rattle.cqs_core.specs.QueueLine.{Spoiled, spoiled_of, is_spoiled, spoiled, going, ending, due}
use Rattle.cqs_core.specs.QueueMoves as move
use Rattle.cqs_core.specs.QueueMoves.{Move, IsLight, IsClear, IsCancelling, Works, Owns, IsOpen, move_queue, now_doing, with_cell, at_state, cells_drawn, cells_reached}
use Rattle.cqs_core.specs.QueueSound.{IsSound, IsSoundAt, IsOwn, IsUntaken, IsTicket, AreApart}
use Rattle.cqs_core.specs.QueueCover.{IsCovered, IsFair}
use Rattle.cqs_core.specs.QueueAsUnbroken.{unbroken_state, unbroken_cell, unwatching, as_unbroken, IsIntact, WatchesNone, IsUnbroken}
use Rattle.cqs_core.specs.SemaphoreCores.{early}
use Rattle.cqs_core.proofs.EachAtLemmas.{EachAt-write, EachAt-push}
use Rattle.cqs_core.proofs.Keys.{Around, around-kept}
use Rattle.cqs_core.proofs.Picked.{IsKeyed, picked-around}
use Rattle.cqs_core.proofs.DrawMoves.{picked-reached}
use Rattle.cqs_core.proofs.CoreFrame.{passes-moved}
use Rattle.cqs_core.proofs.Sound.{sound-moved}
use Rattle.cqs_core.proofs.CoveredMoved.{covered-moved}
use Rattle.cqs_core.proofs.QueueAsUnbroken.{get-map, get-map_any, IsMapped, map-get, alike}

-- the move as the reading makes it
abbrev pub read_move : Move → Move
read_move move.stay = move.stay
read_move (move.turn p from to) = move.turn p (unwatching from) (unwatching to)
read_move (move.draw p k found) = move.draw p k (option_map unbroken_cell found)
read_move (move.install p k found) = move.install p k (unbroken_cell found)
read_move (move.take_value p k found) = move.take_value p k (unbroken_cell found)
read_move (move.reach p k found) = move.reach p k (option_map unbroken_cell found)
read_move (move.serve p k found) = move.serve p k (unbroken_cell found)
read_move (move.leave_value p k found) = move.leave_value p k (unbroken_cell found)
read_move (move.delegate p k found) = move.delegate p k (unbroken_cell found)
read_move (move.pass_over p k found) = move.pass_over p k (unbroken_cell found)
read_move (move.meet_refused p k found) = move.meet_refused p k (unbroken_cell found)
read_move (move.begin_cancel p k found) = move.begin_cancel p k (unbroken_cell found)
read_move (move.collect p k found) = move.collect p k (unbroken_cell found)
read_move (move.decide p k on) = move.decide p k on
read_move (move.cancel p k found) = move.cancel p k (unbroken_cell found)
read_move (move.cancel_owing p k found) = move.cancel_owing p k (unbroken_cell found)
read_move (move.refuse p k found) = move.refuse p k (unbroken_cell found)

clear-read : (d : Doing) → IsClear d → IsClear (unwatching d)
clear-read (doing.Watching k) is = absurd is
clear-read _ is = is

light-read : (d : Doing) → IsLight d → IsLight (unwatching d)
light-read (doing.Watching k) is = absurd is
light-read _ is = is

cancelling-read : (c : CoreCell) (s : CoreState) → c.state ≡ s → IsCancelling s
    → IsCancelling (unbroken_state s c.collected)
cancelling-read c state.Broken is at = absurd at
cancelling-read c _ is at = at

cancelling-back : (s : CoreState) (b : Bool) → IsCancelling (unbroken_state s b) → IsCancelling s
cancelling-back state.Broken true at = absurd at
cancelling-back state.Broken false at = absurd at
cancelling-back state.Empty b at = at
cancelling-back state.Waiter b at = at
cancelling-back state.Value b at = at
cancelling-back state.Taken b at = at
cancelling-back state.Resumed b at = at
cancelling-back state.Cancelling b at = at
cancelling-back state.Delegated b at = at
cancelling-back state.Cancelled b at = at
cancelling-back state.Refused b at = at

module _ (q : Queue) where
  abbrev v : Queue
  v = as_unbroken q

  pub does-read : (p : ℕ) (d : Doing) → slice_get q.doing p ≡ Some d → slice_get v.doing p ≡ Some (unwatching d)
  does-read p d does = get-map unwatching q.doing p d does

  pub finds-read : (k : ℕ) (c : CoreCell) → slice_get q.cells k ≡ Some c → slice_get v.cells k ≡ Some (unbroken_cell c)
  finds-read k c finds = get-map unbroken_cell q.cells k c finds

  pub works-read : (p : ℕ) (d : Doing) (k : ℕ) (found : CoreCell) (s : CoreState) → Works q p d k found s
      → unbroken_state s found.collected ≡ s → Works v p (unwatching d) k (unbroken_cell found) s
  works-read p d k found s works plain = record {
    does = does-read p d works.does;
    finds = finds-read k found works.finds;
    at = ap (λ t. unbroken_state t found.collected) works.at ∙ plain;
  }

  pub owns-read : (p : ℕ) (found : CoreCell) → Owns p found → Owns p (unbroken_cell found)
  owns-read p found owns = record { owner = owns.owner; uncollected = owns.uncollected }

  opens-read : (m : Move) → IsOpen q m → IsOpen v (read_move m)
  opens-read move.stay opens = tt
  opens-read (move.turn p from to) (does, clear, lighter) =
      (does-read p from does, clear-read from clear, light-read to lighter)
  opens-read (move.draw p k found) (does, here, finds) =
      (does-read p doing.Door does, here, get-map_any unbroken_cell q.cells k found finds)
  opens-read (move.install p k found) w = works-read p (doing.Drawn k) k found state.Empty w refl
  opens-read (move.take_value p k found) w = works-read p (doing.Drawn k) k found state.Value w refl
  opens-read (move.reach p k found) (does, here, finds) =
      (does-read p doing.Owes does, here, get-map_any unbroken_cell q.cells k found finds)
  opens-read (move.serve p k found) w = works-read p (doing.Ticket k) k found state.Waiter w refl
  opens-read (move.leave_value p k found) w = works-read p (doing.Ticket k) k found state.Empty w refl
  opens-read (move.delegate p k found) w = works-read p (doing.Ticket k) k found state.Cancelling w refl
  opens-read (move.pass_over p k found) w = works-read p (doing.Ticket k) k found state.Cancelled w refl
  opens-read (move.meet_refused p k found) w = works-read p (doing.Ticket k) k found state.Refused w refl
  opens-read (move.begin_cancel p k found) (w, owns) =
      (works-read p doing.Idle k found state.Waiter w refl, owns-read p found owns)
  opens-read (move.collect p k found) (w, owns) =
      (works-read p doing.Idle k found state.Resumed w refl, owns-read p found owns)
  opens-read (move.decide p k on) does = does-read p (doing.Leaving k) does
  opens-read (move.cancel p k found) w = works-read p (doing.Decided k true) k found state.Cancelling w refl
  opens-read (move.cancel_owing p k found) w = works-read p (doing.Decided k true) k found state.Delegated w refl
  opens-read (move.refuse p k found) (does, finds, at) =
      (does-read p (doing.Decided k false) does, finds-read k found finds, cancelling-read found found.state refl at)

  -- a write, as the reading makes it
  pub write-read : (p k : ℕ) (new : CoreCell) (d : Doing)
      → now_doing (with_cell v k (unbroken_cell new)) p (unwatching d) ≡ as_unbroken (now_doing (with_cell q k new) p d)
  write-read p k new d = λ i. record {
    suspends = q.suspends;
    resumes = q.resumes;
    cells = sym (map-set unbroken_cell q.cells k new) i;
    doing = sym (map-set unwatching q.doing p d) i;
  }

  pub turn-read : (p : ℕ) (d : Doing) → now_doing v p (unwatching d) ≡ as_unbroken (now_doing q p d)
  turn-read p d = λ i. record {
    suspends = q.suspends;
    resumes = q.resumes;
    cells = v.cells;
    doing = sym (map-set unwatching q.doing p d) i;
  }

  pub drawn-read : (k p : ℕ) (found : Option CoreCell)
      → cells_drawn v.cells k p (option_map unbroken_cell found) ≡ map unbroken_cell (cells_drawn q.cells k p found)
  drawn-read k p None =
      sym (map-append unbroken_cell q.cells (record { state = state.Empty; owner = Some p; collected = false } ∷ []))
  drawn-read k p (Some found) =
      sym (map-set unbroken_cell q.cells k
      (record { state = found.state; owner = Some p; collected = found.collected }))

  pub reached-read : (found : Option CoreCell)
      → cells_reached v.cells (option_map unbroken_cell found) ≡ map unbroken_cell (cells_reached q.cells found)
  reached-read None = sym (map-append unbroken_cell q.cells (fresh_cell ∷ []))
  reached-read (Some found) = refl

  pub moved-read : (m : Move) → IsOpen q m → move_queue v (read_move m) ≡ as_unbroken (move_queue q m)
  moved-read move.stay opens = refl
  moved-read (move.turn p from to) opens = turn-read p to
  moved-read (move.draw p k found) opens = λ i. record {
    suspends = q.suspends + 1;
    resumes = q.resumes;
    cells = drawn-read k p found i;
    doing = sym (map-set unwatching q.doing p (doing.Drawn k)) i;
  }
  moved-read (move.install p k found) opens = write-read p k (at_state found state.Waiter) doing.Idle
  moved-read (move.take_value p k found) opens =
      write-read p k (record { state = state.Taken; owner = found.owner; collected = true }) doing.Idle
  moved-read (move.reach p k found) opens = λ i. record {
    suspends = q.suspends;
    resumes = q.resumes + 1;
    cells = reached-read found i;
    doing = sym (map-set unwatching q.doing p (doing.Ticket k)) i;
  }
  moved-read (move.serve p k found) opens = write-read p k (at_state found state.Resumed) doing.Idle
  moved-read (move.leave_value p k found) opens = write-read p k (at_state found state.Value) doing.Idle
  moved-read (move.delegate p k found) opens = write-read p k (at_state found state.Delegated) doing.Idle
  moved-read (move.pass_over p k found) opens = turn-read p doing.Owes
  moved-read (move.meet_refused p k found) opens = turn-read p doing.Idle
  moved-read (move.begin_cancel p k found) opens = write-read p k (at_state found state.Cancelling) (doing.Leaving k)
  moved-read (move.collect p k found) (w, owns) =
      let served : unbroken_state found.state found.collected ≡ unbroken_state found.state true = rw w.at refl in
      (λ i. record {
        suspends = q.suspends;
        resumes = q.resumes;
        cells = set v.cells k (record { state = served i; owner = found.owner; collected = true });
        doing = v.doing;
      })
      ∙ (λ i. record {
        suspends = q.suspends;
        resumes = q.resumes;
        cells =
            sym (map-set unbroken_cell q.cells k
            (record { state = found.state; owner = found.owner; collected = true })) i;
        doing = v.doing;
      })
  moved-read (move.decide p k on) opens = turn-read p (doing.Decided k on)
  moved-read (move.cancel p k found) opens = write-read p k (at_state found state.Cancelled) doing.Idle
  moved-read (move.cancel_owing p k found) opens = write-read p k (at_state found state.Cancelled) doing.Owes
  moved-read (move.refuse p k found) opens = write-read p k (at_state found state.Refused) doing.Idle

-- A cell may be declined only where as many resumptions are under way as are due.
abbrev pub IsFairEither : Queue → Move → Type 0
IsFairEither q (move.decide p k false) = going q + early q ≡ due q + ending q
IsFairEither q m = Unit {0}

fair-read : (q : Queue) (m : Move) → IsSound (as_unbroken q) → IsFairEither q m → IsFair (as_unbroken q) (read_move m)
fair-read q (move.decide p k false) sound fair =
    let same = alike q sound in
    omega (arith, fair, same.going, same.ending, same.line, same.doors)
fair-read q (move.decide p k true) sound fair = tt
fair-read q move.stay sound fair = tt
fair-read q _ sound fair = tt

-- The queue after a step is sound and covered in its reading, and has as many passes.
pub record Follows (sync : Bool) (q r : Queue) : Type 0 where
  pub sound : IsSound (as_unbroken r)
  pub covered : IsCovered (as_unbroken r)
  pub passes : length r.doing ≡ length q.doing
  pub unbroken : sync ≡ false → IsUnbroken r

-- a step that is this move of the reading
pub follows : (sync : Bool) (q r : Queue) (m : Move) → IsSound (as_unbroken q) → IsCovered (as_unbroken q)
    → IsOpen (as_unbroken q) m → IsFair (as_unbroken q) m → move_queue (as_unbroken q) m ≡ as_unbroken r
    → (sync ≡ false → IsUnbroken r)
    → Follows sync q r
follows sync q r m sound covered opens fair is unbroken = record {
  unbroken = unbroken;
  sound = subst (λ (n : Queue). IsSound n) is (sound-moved (as_unbroken q) m sound opens);
  covered = subst (λ (n : Queue). IsCovered n) is (covered-moved (as_unbroken q) m sound covered opens fair);
  passes =
      let long_r : length (map unwatching r.doing) ≡ length r.doing = length-map r.doing unwatching in
      let long_q : length (map unwatching q.doing) ≡ length q.doing = length-map q.doing unwatching in
      let moved : length (move_queue (as_unbroken q) m).doing ≡ length (as_unbroken q).doing =
      passes-moved (as_unbroken q) m in
      let same : length (move_queue (as_unbroken q) m).doing ≡ length (as_unbroken r).doing =
      ap (λ (n : Queue). length n.doing) is in
      omega (arith, long_r, long_q, moved, same);
}

-- A move breaks no number, and makes no pass watch.

intact-same : (c : CoreCell) (st : CoreState) → c.state ≡ st → IsIntact st → IsIntact c.state
intact-same c st is at = rw is at

cells-written : (cells : List CoreCell) (k : ℕ) (found new : CoreCell) → slice_get cells k ≡ Some found
    → IsIntact new.state
    → EachAt (λ k c. IsIntact c.state) cells → EachAt (λ k c. IsIntact c.state) (set cells k new)
cells-written cells k found new finds now each =
    EachAt-write (λ k c. IsIntact c.state) (λ k c. IsIntact c.state) cells k found new finds now
    (λ j c got other before. before) each

passes-written : (passes : List Doing) (p : ℕ) (from to : Doing) → slice_get passes p ≡ Some from → WatchesNone to
    → EachAt (λ p d. WatchesNone d) passes → EachAt (λ p d. WatchesNone d) (set passes p to)
passes-written passes p from to does now each =
    EachAt-write (λ p d. WatchesNone d) (λ p d. WatchesNone d) passes p from to does now
    (λ j d got other before. before) each

light-unwatching : (d : Doing) → IsLight d → WatchesNone d
light-unwatching (doing.Watching k) is = is
light-unwatching doing.Idle is = tt
light-unwatching (doing.TryAt v) is = tt
light-unwatching doing.Door is = tt
light-unwatching doing.Owes is = tt
light-unwatching (doing.Drawn k) is = absurd is
light-unwatching (doing.Ticket k) is = absurd is
light-unwatching (doing.Leaving k) is = absurd is
light-unwatching (doing.Decided k on) is = absurd is

cells-drawn : (cells : List CoreCell) (k p : ℕ) (found : Option CoreCell) → slice_get cells k ≡ found
    → EachAt (λ k c. IsIntact c.state) cells → EachAt (λ k c. IsIntact c.state) (cells_drawn cells k p found)
cells-drawn cells k p None finds each =
    EachAt-push (λ k c. IsIntact c.state) (λ k c. IsIntact c.state) cells
    (record { state = state.Empty; owner = Some p; collected = false }) tt (λ j c got before. before) each
cells-drawn cells k p (Some found) finds each =
    cells-written cells k found (record { state = found.state; owner = Some p; collected = found.collected }) finds
    (each.at k found finds) each

cells-reached : (cells : List CoreCell) (found : Option CoreCell)
    → EachAt (λ k c. IsIntact c.state) cells → EachAt (λ k c. IsIntact c.state) (cells_reached cells found)
cells-reached cells None each =
    EachAt-push (λ k c. IsIntact c.state) (λ k c. IsIntact c.state) cells fresh_cell tt (λ j c got before. before) each
cells-reached cells (Some found) each = each

written : (q : Queue) (p k : ℕ) (found new : CoreCell) (from : Doing) (st : CoreState) (to : Doing)
    → Works q p from k found st → IsIntact new.state → WatchesNone to → IsUnbroken q
    → IsUnbroken (now_doing (with_cell q k new) p to)
written q p k found new from st to w now idle u = record {
  cells = cells-written q.cells k found new w.finds now u.cells;
  passes = passes-written q.doing p from to w.does idle u.passes;
}

pub unbroken-moved : (q : Queue) (m : Move) → IsOpen q m → IsUnbroken q → IsUnbroken (move_queue q m)
unbroken-moved q move.stay opens u = u
unbroken-moved q (move.turn p from to) (does, clear, lighter) u =
    record { cells = u.cells; passes = passes-written q.doing p from to does (light-unwatching to lighter) u.passes }
unbroken-moved q (move.draw p k found) (does, here, finds) u = record {
  cells = cells-drawn q.cells k p found finds u.cells;
  passes = passes-written q.doing p doing.Door (doing.Drawn k) does tt u.passes;
}
unbroken-moved q (move.reach p k found) (does, here, finds) u = record {
  cells = cells-reached q.cells found u.cells;
  passes = passes-written q.doing p doing.Owes (doing.Ticket k) does tt u.passes;
}
unbroken-moved q (move.install p k found) w u = written q p k found _ _ state.Empty _ w tt tt u
unbroken-moved q (move.take_value p k found) w u = written q p k found _ _ state.Value _ w tt tt u
unbroken-moved q (move.serve p k found) w u = written q p k found _ _ state.Waiter _ w tt tt u
unbroken-moved q (move.leave_value p k found) w u = written q p k found _ _ state.Empty _ w tt tt u
unbroken-moved q (move.delegate p k found) w u = written q p k found _ _ state.Cancelling _ w tt tt u
unbroken-moved q (move.pass_over p k found) w u =
    record { cells = u.cells; passes = passes-written q.doing p (doing.Ticket k) doing.Owes w.does tt u.passes }
unbroken-moved q (move.meet_refused p k found) w u =
    record { cells = u.cells; passes = passes-written q.doing p (doing.Ticket k) doing.Idle w.does tt u.passes }
unbroken-moved q (move.begin_cancel p k found) (w, owns) u = written q p k found _ _ state.Waiter _ w tt tt u
unbroken-moved q (move.collect p k found) (w, owns) u =
    record { cells = cells-written q.cells k found _ w.finds (u.cells.at k found w.finds) u.cells; passes = u.passes }
unbroken-moved q (move.decide p k on) does u =
    record {
      cells = u.cells;
      passes = passes-written q.doing p (doing.Leaving k) (doing.Decided k on) does tt u.passes;
    }
unbroken-moved q (move.cancel p k found) w u = written q p k found _ _ state.Cancelling _ w tt tt u
unbroken-moved q (move.cancel_owing p k found) w u = written q p k found _ _ state.Delegated _ w tt tt u
unbroken-moved q (move.refuse p k found) (does, finds, at) u = record {
  cells = cells-written q.cells k found (at_state found state.Refused) finds tt u.cells;
  passes = passes-written q.doing p (doing.Decided k false) doing.Idle does tt u.passes;
}

pub follows-move : (sync : Bool) (q : Queue) (m : Move) → IsSound (as_unbroken q) → IsCovered (as_unbroken q)
    → IsOpen q m → IsFairEither q m → (sync ≡ false → IsUnbroken q) → Follows sync q (move_queue q m)
follows-move sync q m sound covered opens fair plain =
    follows sync q (move_queue q m) (read_move m) sound covered (opens-read q m opens) (fair-read q m sound fair)
    (moved-read q m opens) (λ is. unbroken-moved q m opens (plain is))

-- Which numbers are broken.

abbrev pub spoiled_wait : Spoiled → ℕ
spoiled_wait b = b.wait

spoiled_of-key : (k : ℕ) (s : CoreState) (owner : Option ℕ) (collected : Bool) (b : Spoiled)
    → spoiled_of k s owner collected ≡ Some b → b.wait ≡ k
spoiled_of-key k state.Broken owner false b some =
    let is : record { wait = k; pass = owner } ≡ b = cc in ap spoiled_wait (sym is)
spoiled_of-key k state.Broken owner true b some = absurd (cc)
spoiled_of-key k _ owner collected b some = absurd (cc)

pub spoiled-keyed : IsKeyed is_spoiled spoiled_wait
spoiled-keyed = record { at = λ k cell b some. spoiled_of-key k cell.state cell.owner cell.collected b some }

pub spoiled-around : (cells : List CoreCell) (k : ℕ) (found new : CoreCell) → slice_get cells k ≡ Some found
    → Around spoiled_wait k (pick_each is_spoiled 0 cells) (pick_each is_spoiled 0 (set cells k new))
    (is_spoiled k found) (is_spoiled k new)
spoiled-around cells k found new finds =
    picked-around is_spoiled is_spoiled spoiled_wait spoiled-keyed k (record { at = λ m cell other. refl }) 0
    cells k found new
    (omega arith) finds

pub spoiled-kept : (cells : List CoreCell) (k : ℕ) (found new : CoreCell) → slice_get cells k ≡ Some found
    → is_spoiled k found ≡ is_spoiled k new
    → pick_each is_spoiled 0 (set cells k new) ≡ pick_each is_spoiled 0 cells
spoiled-kept cells k found new finds same =
    around-kept spoiled_wait k _ _ _ _ (spoiled-around cells k found new finds) same

cancelling-whole : (k : ℕ) (c : CoreCell) (s : CoreState) → c.state ≡ s → IsCancelling s → is_spoiled k c ≡ None
cancelling-whole k c state.Cancelling is at = rw is refl
cancelling-whole k c state.Delegated is at = rw is refl
cancelling-whole k c _ is at = absurd at

-- a draw to suspend at apart, a move breaks no number and finds none broken
abbrev pub IsWhole : Move → Type 0
IsWhole (move.draw p k found) = ⊥
IsWhole m = Unit {0}

pub spoiled-moved : (q : Queue) (m : Move) → IsOpen q m → IsWhole m → spoiled (move_queue q m) ≡ spoiled q
spoiled-moved q move.stay opens whole = refl
spoiled-moved q (move.turn p from to) opens whole = refl
spoiled-moved q (move.draw p k found) opens whole = absurd whole
spoiled-moved q (move.install p k found) w whole = spoiled-kept q.cells k found _ w.finds (rw w.at refl)
spoiled-moved q (move.take_value p k found) w whole = spoiled-kept q.cells k found _ w.finds (rw w.at refl)
spoiled-moved q (move.reach p k found) opens whole = picked-reached is_spoiled (λ n. refl) q.cells found
spoiled-moved q (move.serve p k found) w whole = spoiled-kept q.cells k found _ w.finds (rw w.at refl)
spoiled-moved q (move.leave_value p k found) w whole = spoiled-kept q.cells k found _ w.finds (rw w.at refl)
spoiled-moved q (move.delegate p k found) w whole = spoiled-kept q.cells k found _ w.finds (rw w.at refl)
spoiled-moved q (move.pass_over p k found) w whole = refl
spoiled-moved q (move.meet_refused p k found) w whole = refl
spoiled-moved q (move.begin_cancel p k found) (w, owns) whole = spoiled-kept q.cells k found _ w.finds (rw w.at refl)
spoiled-moved q (move.collect p k found) (w, owns) whole = spoiled-kept q.cells k found _ w.finds (rw w.at refl)
spoiled-moved q (move.decide p k on) opens whole = refl
spoiled-moved q (move.cancel p k found) w whole = spoiled-kept q.cells k found _ w.finds (rw w.at refl)
spoiled-moved q (move.cancel_owing p k found) w whole = spoiled-kept q.cells k found _ w.finds (rw w.at refl)
spoiled-moved q (move.refuse p k found) (does, finds, at) whole =
    spoiled-kept q.cells k found _ finds (cancelling-whole k found found.state refl at)

-- What passes and cells are.

module _ (q : Queue) (sound : IsSound (as_unbroken q)) where
  pub ticket-reached : (p k : ℕ) → slice_get q.doing p ≡ Some (doing.Ticket k) → k < q.resumes
  ticket-reached p k does =
      let ticket : IsTicket (as_unbroken q) k =
      sound.passes.at p (doing.Ticket k) (does-read q p (doing.Ticket k) does) in
      ticket.reached

  pub apart-back : AreApart q.doing
  apart-back = record {
    same = λ p r k one other.
        sound.apart.same p r k (does-read q p (doing.Ticket k) one) (does-read q r (doing.Ticket k) other);
  }

  own-back : (p k : ℕ) → IsOwn (as_unbroken q) p k IsCancelling → IsOwn q p k IsCancelling
  own-back p k own =
      let from : IsMapped unbroken_cell q.cells k own.cell = map-get unbroken_cell q.cells k own.cell own.found in
      let owner : from.element.owner ≡ Some p = ap (λ (c : CoreCell). c.owner) from.is ∙ own.owner in
      let at : IsCancelling (unbroken_state from.element.state from.element.collected) =
      subst (λ (c : CoreCell). IsCancelling c.state) (sym from.is) own.at in
      record {
        drawn = own.drawn;
        cell = from.element;
        found = from.there;
        owner = owner;
        at = cancelling-back from.element.state from.element.collected at;
      }

  pub leaving-own : (p k : ℕ) → slice_get q.doing p ≡ Some (doing.Leaving k) → IsOwn q p k IsCancelling
  leaving-own p k does =
      own-back p k (sound.passes.at p (doing.Leaving k) (does-read q p (doing.Leaving k) does))

  pub decided-own : (p k : ℕ) (on : Bool) → slice_get q.doing p ≡ Some (doing.Decided k on) → IsOwn q p k IsCancelling
  decided-own p k on does =
      own-back p k (sound.passes.at p (doing.Decided k on) (does-read q p (doing.Decided k on) does))

  -- the number that a pass has drawn to suspend at is its own
  pub drawn-owner : (p k : ℕ) (found : CoreCell) → slice_get q.doing p ≡ Some (doing.Drawn k)
      → slice_get q.cells k ≡ Some found → found.owner ≡ Some p
  drawn-owner p k found does finds =
      let own : IsOwn (as_unbroken q) p k IsUntaken =
      sound.passes.at p (doing.Drawn k) (does-read q p (doing.Drawn k) does) in
      let finds_v : slice_get (as_unbroken q).cells k ≡ Some (unbroken_cell found) = finds-read q k found finds in
      let own_found : slice_get (as_unbroken q).cells k ≡ Some own.cell = own.found in
      let cell : own.cell ≡ unbroken_cell found = cc in
      ap (λ (c : CoreCell). c.owner) (sym cell) ∙ own.owner

  -- what holds of a cell in the state that it reads as
  pub cell-sound : (k : ℕ) (found : CoreCell) (s : CoreState) → slice_get q.cells k ≡ Some found
      → unbroken_state found.state found.collected ≡ s → IsSoundAt (as_unbroken q) k (unbroken_cell found) s
  cell-sound k found s finds reads =
      subst (λ t. IsSoundAt (as_unbroken q) k (unbroken_cell found) t) reads
      (sound.cells.at k (unbroken_cell found) (finds-read q k found finds))
