-- A pool as an element is put, and as a taker draws its number: each keeps what its core shows.
use Rattle.std.proofs.Common.{◌≡◌, ℕ, ◌+◌, ◌<◌, ◌==◌, List, [], ◌∷◌, ◌++◌, Option, Some, length, set, slice_get, get_or, refl, ap, sym, ◌∙◌, arith, eq-eqb}
use Rattle.std.proofs.lemmas.List.{length-set, get_or-set_same, length_push}
use Rattle.cqs_core.specs.declared.cells.CoreCell.{CoreCell}
use Rattle.cqs_core.specs.declared.doings.Doing.TheVariants as doing
use Rattle.cqs_core.specs.Numbered.{IsIn}
use Rattle.cqs_core.specs.Keyed.{without}
use Rattle.cqs_core.specs.QueueState.{Queue}
use Rattle.cqs_core.specs.QueueLine.{has_left, has_ready}
use Rattle.cqs_core.specs.QueueMoves as move
use Rattle.cqs_core.specs.QueueMoves.{move_queue}
use Rattle.cqs_core.specs.QueueSound.{IsSound}
use Rattle.cqs_core.proofs.Counts.{bit}
use Rattle.cqs_core.proofs.Places.{get-set_here}
use Rattle.cqs_core.proofs.LineMoves.{turn-door, turn-owes}
use Rattle.cqs_core.proofs.DrawMoves.{enters-draw}
use Rattle.cqs_core.proofs.Sound.{sound-moved}
use Rattle.cqs_core.proofs.DrawMoves.{keeps-reach}
use Rattle.cqs_pool_object.specs.declared.entries.PoolEntry.TheVariants as entry
use Rattle.cqs_pool_object.specs.PoolObject.{Pool, times}
use Rattle.cqs_pool_object.specs.PoolEntries.{object_after}
use Rattle.cqs_pool_object.specs.PoolShown.{PoolShape, IsPool}
use Rattle.cqs_pool_object.proofs.PoolCounts.{itself, loads-same, loads-set, brings-write, cells-reached, cells-drawn, given-drawn, given-reached, times-in, times-push, times-without}
use Rattle.cqs_pool_object.proofs.PoolLaw.{holds-there, loads-there, lost, pool-push}

module _ (s : PoolShape) (p k : ℕ) (is : IsPool s) where
  abbrev o : Pool
  o = object_after s.size s.history

  abbrev held_of : List ℕ
  held_of = get_or s.holds p []

  -- An element is put: the pass goes on to resume with it, and draws the first number at once.
  pub pool-put : (e : ℕ) (found : Option CoreCell) → slice_get s.queue.doing p ≡ Some doing.Idle → IsIn e held_of
      → slice_get s.queue.cells s.queue.resumes ≡ found
      → IsPool (record s {
        loads = set s.loads p e;
        holds = set s.holds p (without itself e held_of);
        queue = move_queue (move_queue s.queue (move.turn p doing.Idle doing.Owes))
            (move.reach p s.queue.resumes found);
        history = s.history ++ entry.Put p e ∷ [];
      })
  pool-put e found does has finds =
      let loads : List ℕ = set s.loads p e in
      let holds : List (List ℕ) = set s.holds p (without itself e held_of) in
      let r : Queue = move_queue s.queue (move.turn p doing.Idle doing.Owes) in
      let m : move.Move = move.reach p s.queue.resumes found in
      let owes : slice_get r.doing p ≡ Some doing.Owes = get-set_here s.queue.doing p doing.Idle doing.Owes does in
      let begins = turn-owes s.queue p does in
      let keeps = keeps-reach r p found owes in
      let sound_r : IsSound r = sound-moved s.queue (move.turn p doing.Idle doing.Owes) is.sound (does, tt, tt) in
      let there : p < length s.holds = holds-there s p k is doing.Idle does in
      let loaded : get_or loads p 0 ≡ e = get_or-set_same s.loads p e 0 (loads-there s p k is doing.Idle does) in
      let shows = is.shows in
      let one : bit (e == e) ≡ 1 = ap bit (eq-eqb e e refl) in
      let fewer = lost s p k is e e there has in
      let held : 0 < times e o.held = omega (arith, shows.held e) in
      let turned = (λ (f : ℕ). brings-write f s.queue.doing p doing.Idle doing.Owes s.loads loads does
      (loads-set p e s.loads)) in
      let reached = (λ (f : ℕ). brings-write f r.doing p doing.Owes (doing.Ticket s.queue.resumes) loads loads owes
      (loads-same p loads)) in
      let cells = (λ (f : ℕ). cells-reached has_left f s.payloads s.queue.cells found refl) in
      let readies = (λ (f : ℕ). cells-reached has_ready f s.payloads s.queue.cells found refl) in
      let brings_e : (f : ℕ) → bit (get_or loads p 0 == f) ≡ bit (e == f) = λ f. ap (λ n. bit (n == f)) loaded in
      let within = times-in e o.held held in
      pool-push s p k is loads s.payloads holds (entry.Put p e) (move_queue r m)
      (sound-moved r m sound_r (owes, refl, finds)) within
      (record {
        line = shows.line ∙ ap (λ w. w.line) (sym begins.waiters) ∙ ap (λ w. w.line) (sym keeps.waiters);
        next = shows.next ∙ ap (λ w. w.next) (sym keeps.waiters);
        served = shows.served ∙ sym (given-reached s.payloads s.queue.cells found);
        many = omega (arith, length_push o.way e, shows.many, begins.going, keeps.going);
        way = λ f. omega (arith, times-push f e o.way, shows.way f, turned f, reached f, cells f, brings_e f);
        held = λ f.
            omega (arith, times-without f e o.held within, shows.held f, lost s p k is e f there has, readies f);
      })
      (length-set s.loads p e) (length-set s.holds p (without itself e held_of))
      (length-set r.doing p (doing.Ticket s.queue.resumes) ∙ length-set s.queue.doing p doing.Owes)
      (omega (arith, keeps.ending, begins.ending, is.none_refused))

  -- a pass at the door draws its number
  pub pool-draw_at_door : (found : Option CoreCell) → slice_get s.queue.doing p ≡ Some doing.Door
      → slice_get s.queue.cells s.queue.suspends ≡ found
      → IsPool (record s {
        queue = move_queue s.queue (move.draw p s.queue.suspends found);
        history = s.history ++ entry.Enter p s.queue.suspends ∷ [];
      })
  pool-draw_at_door found does finds =
      let m : move.Move = move.draw p s.queue.suspends found in
      let enters = enters-draw s.queue p found is.sound does finds in
      let shows = is.shows in
      let drew = (λ (f : ℕ).
      brings-write f s.queue.doing p doing.Door (doing.Drawn s.queue.suspends) s.loads s.loads does
      (loads-same p s.loads)) in
      let cells = (λ (f : ℕ). cells-drawn has_left f s.payloads s.queue p found finds (λ c. refl) refl) in
      let readies = (λ (f : ℕ). cells-drawn has_ready f s.payloads s.queue p found finds (λ c. refl) refl) in
      pool-push s p k is s.loads s.payloads s.holds (entry.Enter p s.queue.suspends) (move_queue s.queue m)
      (sound-moved s.queue m is.sound (does, refl, finds)) (sym shows.next)
      (record {
        line = ap (λ l. l ++ record { wait = s.queue.suspends; pass = p } ∷ []) shows.line
            ∙ ap (λ w. w.line) (sym enters.waiters);
        next = ap (λ n. n + 1) shows.next;
        served = shows.served ∙ sym (given-drawn s.queue p found s.payloads is.sound finds);
        many = omega (arith, shows.many, enters.going);
        way = λ f. omega (arith, shows.way f, drew f, cells f);
        held = λ f. omega (arith, shows.held f, readies f);
      })
      refl refl
      (length-set s.queue.doing p (doing.Drawn s.queue.suspends))
      (omega (arith, enters.ending, is.none_refused))

  -- A take draws a number at once.
  pub pool-draw : (found : Option CoreCell) → slice_get s.queue.doing p ≡ Some doing.Idle
      → slice_get s.queue.cells s.queue.suspends ≡ found
      → IsPool (record s {
        queue = move_queue (move_queue s.queue (move.turn p doing.Idle doing.Door))
            (move.draw p s.queue.suspends found);
        history = s.history ++ entry.Enter p s.queue.suspends ∷ [];
      })
  pool-draw found does finds =
      let r : Queue = move_queue s.queue (move.turn p doing.Idle doing.Door) in
      let m : move.Move = move.draw p s.queue.suspends found in
      let door : slice_get r.doing p ≡ Some doing.Door = get-set_here s.queue.doing p doing.Idle doing.Door does in
      let door_came = turn-door s.queue p does in
      let sound_r : IsSound r = sound-moved s.queue (move.turn p doing.Idle doing.Door) is.sound (does, tt, tt) in
      let enters = enters-draw r p found sound_r door finds in
      let shows = is.shows in
      let turned = (λ (f : ℕ). brings-write f s.queue.doing p doing.Idle doing.Door s.loads s.loads does
      (loads-same p s.loads)) in
      let drew = (λ (f : ℕ). brings-write f r.doing p doing.Door (doing.Drawn s.queue.suspends) s.loads s.loads door
      (loads-same p s.loads)) in
      let cells = (λ (f : ℕ). cells-drawn has_left f s.payloads s.queue p found finds (λ c. refl) refl) in
      let readies = (λ (f : ℕ). cells-drawn has_ready f s.payloads s.queue p found finds (λ c. refl) refl) in
      pool-push s p k is s.loads s.payloads s.holds (entry.Enter p s.queue.suspends) (move_queue r m)
      (sound-moved r m sound_r (door, refl, finds))
      (sym shows.next)
      (record {
        line = ap (λ l. l ++ record { wait = s.queue.suspends; pass = p } ∷ [])
            (shows.line ∙ ap (λ w. w.line) (sym door_came.waiters)) ∙ ap (λ w. w.line) (sym enters.waiters);
        next = ap (λ n. n + 1) shows.next;
        served = shows.served ∙ sym (given-drawn s.queue p found s.payloads is.sound finds);
        many = omega (arith, shows.many, door_came.going, enters.going);
        way = λ f. omega (arith, shows.way f, turned f, drew f, cells f);
        held = λ f. omega (arith, shows.held f, readies f);
      })
      refl refl
      (length-set r.doing p (doing.Drawn s.queue.suspends) ∙ length-set s.queue.doing p doing.Door)
      (omega (arith, door_came.ending, enters.ending, is.none_refused))
