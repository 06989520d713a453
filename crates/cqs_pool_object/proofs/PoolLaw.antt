-- Every event of a pool keeps what its core shows.
use Rattle.std.proofs.Common.{◌≡◌, ℕ, ◌+◌, ◌<◌, ◌==◌, ◌&&◌, Bool, true, false, not, List, [], ◌∷◌, ◌++◌, Option, Some, None, length, take, set, slice_get, get_or, refl, ap, ap₂, sym, ◌∙◌, subst, arith, eq-eqb}
use Rattle.std.specs.List.{sum_by}
use Rattle.std.proofs.lemmas.List.{length-set, get_or-set_same}
use Rattle.std.proofs.lemmas.List.Sums.{sum_by-set}
use Rattle.cqs_core.specs.declared.cells.CoreCell.{CoreCell}
use Rattle.cqs_core.specs.declared.cells.CoreState.{CoreState}
use Rattle.cqs_core.specs.declared.cells.CoreState.TheVariants as state
use Rattle.cqs_core.specs.declared.doings.Doing.{Doing}
use Rattle.cqs_core.specs.declared.doings.Doing.TheVariants as doing
use Rattle.cqs_core.specs.Numbered.{IsIn, count_at}
use Rattle.cqs_core.specs.Keyed.{insert_by, without}
use Rattle.cqs_core.specs.QueueState.{Queue, owner_doing}
use Rattle.cqs_core.specs.QueueLine as queue
use Rattle.cqs_core.specs.QueueLine.{Waiting, going, ending, line, in_line, has_left, has_ready, waiting_of}
use Rattle.cqs_core.specs.QueueMoves as move
use Rattle.cqs_core.specs.QueueMoves.{Works, Owns, move_queue, at_state}
use Rattle.cqs_core.specs.QueueSound.{IsSound, IsSoundAt}
use Rattle.cqs_core.specs.QueueWaiters.{find_wait, Waits}
use Rattle.cqs_core.proofs.Counts.{bit}
use Rattle.cqs_core.proofs.Places.{get-set_here, get-below}
use Rattle.cqs_core.proofs.Keys.{around-came}
use Rattle.cqs_core.proofs.LineMoves.{decide-leaves}
use Rattle.cqs_core.proofs.PickedPlaces.{first-picked}
use Rattle.cqs_core.proofs.Rising.{length-without}
use Rattle.cqs_core.proofs.Sound.{sound-moved}
use Rattle.cqs_core.proofs.Histories.{object-push, legal-push}
use Rattle.cqs_core.proofs.HiddenMoves.{Keeps, keeps-install, keeps-leave_value, keeps-delegate, keeps-pass_over, keeps-begin_cancel, keeps-cancel, keeps-cancel_owing, keeps-meet_refused}
use Rattle.cqs_core.proofs.DrawMoves.{keeps-reach}
use Rattle.cqs_core.proofs.QueueServes.{waiting, drawn-own, Serves, serves-take_value, serves-serve}
use Rattle.cqs_pool_object.specs.declared.entries.PoolEntry.{PoolEntry}
use Rattle.cqs_pool_object.specs.declared.entries.PoolEntry.TheVariants as entry
use Rattle.cqs_pool_object.specs.PoolObject.{Pool, opening, times}
use Rattle.cqs_pool_object.specs.PoolEntries.{IsAllowed, with_given, after_entry, object_after, IsLegal}
use Rattle.cqs_pool_object.specs.PoolShown.{PoolShape, way_times, held_times, services, given_of, Shows, IsPool}
use Rattle.cqs_pool_object.proofs.PoolCounts.{itself, given_wait, loads-same, loads-set, put_at, PayloadsBut, payloads-same, payloads-set, put-here, brings-write, cells-write, cells-reached, way-write, way-turn, given-around, given-write, given-reached, times-in, times-cons, times-without, expected-within}

-- the cell of a waiter isn't collected
waiter-of : (q : Queue) (k : ℕ) (found : CoreCell) → IsSound q → slice_get q.cells k ≡ Some found
    → found.state ≡ state.Waiter
    → found.collected ≡ false
waiter-of q k found sound finds at =
    let cell : IsSoundAt q k found state.Waiter =
    subst (λ (s : CoreState). IsSoundAt q k found s) at (sound.cells.at k found finds) in cell.2

waiting-owner : (k c : ℕ) (owner : Option ℕ) (b : Bool) → waiting_of k owner b ≡ Some (waiting k c) → owner ≡ Some c
waiting-owner k c (Some p) true some =
    let is : waiting k p ≡ waiting k c = cc in ap (λ w. Some w.pass) is
waiting-owner k c (Some p) false some = absurd (cc)
waiting-owner k c None b some = absurd (cc)

-- who is served owns the cell
waits-owner : (q : Queue) (k : ℕ) (found : CoreCell) {r : Queue} (c : ℕ) → Serves q r k c
    → slice_get q.cells k ≡ Some found
    → found.owner ≡ Some c
waits-owner q k found c serves finds =
    let there : slice_get q.cells k ≡ Some serves.cell = serves.found in
    let same : serves.cell ≡ found = cc in
    let waits : in_line q.doing k serves.cell ≡ Some (waiting k c) = serves.waits in
    subst (λ (x : CoreCell). x.owner ≡ Some c) same
    (waiting-owner k c serves.cell.owner (queue.stays_in_line k serves.cell.state (owner_doing q.doing serves.cell))
    waits)

module _ (s : PoolShape) (p k : ℕ) (is : IsPool s) where
  abbrev o : Pool
  o = object_after s.size s.history

  -- what a step owes whose history after it is legal
  pool-step : (loads : List ℕ) (payloads : ℕ → ℕ) (holds : List (List ℕ)) (history : List PoolEntry) (q : Queue)
      → IsSound q
      → IsLegal s.size history
      → Shows q loads payloads holds (object_after s.size history)
      → length loads ≡ length s.loads → length holds ≡ length s.holds → length q.doing ≡ length s.queue.doing
      → ending q ≡ 0
      → IsPool (record {
        size = s.size;
        loads = loads;
        payloads = payloads;
        holds = holds;
        history = history;
        queue = q;
      })
  pool-step loads payloads holds history q sound legal shows loaders holders passes none =
      record {
        sound = sound;
        legal = legal;
        shows = shows;
        loaders = loaders ∙ is.loaders ∙ sym passes;
        holders = holders ∙ is.holders ∙ sym passes;
        none_refused = none;
      }

  pub pool-push : (loads : List ℕ) (payloads : ℕ → ℕ) (holds : List (List ℕ)) (e : PoolEntry) (q : Queue) → IsSound q
      → IsAllowed o e → Shows q loads payloads holds (after_entry o e)
      → length loads ≡ length s.loads → length holds ≡ length s.holds → length q.doing ≡ length s.queue.doing
      → ending q ≡ 0
      → IsPool (record {
        size = s.size;
        loads = loads;
        payloads = payloads;
        holds = holds;
        history = s.history ++ e ∷ [];
        queue = q;
      })
  pool-push loads payloads holds e q sound allowed shows loaders holders passes none =
      pool-step loads payloads holds (s.history ++ e ∷ []) q sound
      (legal-push IsAllowed after_entry (opening s.size) s.history e allowed is.legal)
      (subst (λ (x : Pool). Shows q loads payloads holds x)
      (sym (object-push IsAllowed after_entry (opening s.size) s.history e)) shows)
      loaders holders passes none

  pub loads-there : (d : Doing) → slice_get s.queue.doing p ≡ Some d → p < length s.loads
  loads-there d does = let there = get-below s.queue.doing p d does in omega (arith, is.loaders)

  pub holds-there : (d : Doing) → slice_get s.queue.doing p ≡ Some d → p < length s.holds
  holds-there d does = let there = get-below s.queue.doing p d does in omega (arith, is.holders)

  -- a step that nobody sees: elements go from one place on their way to another
  pool-quiet : (loads : List ℕ) (payloads : ℕ → ℕ) (q : Queue) → IsSound q → Keeps s.queue q 0
      → services q payloads ≡ services s.queue s.payloads
      → ((e : ℕ) → way_times e q loads payloads ≡ way_times e s.queue s.loads s.payloads)
      → ((e : ℕ) → held_times e q payloads s.holds ≡ held_times e s.queue s.payloads s.holds)
      → length loads ≡ length s.loads → length q.doing ≡ length s.queue.doing
      → IsPool (record s { loads = loads; payloads = payloads; queue = q })
  pool-quiet loads payloads q sound keeps served ways holds loaders passes =
      let shows = is.shows in
      pool-step loads payloads s.holds s.history q sound is.legal
      (record {
        line = shows.line ∙ ap (λ w. w.line) (sym keeps.waiters);
        next = shows.next ∙ ap (λ w. w.next) (sym keeps.waiters);
        served = shows.served ∙ sym served;
        many = omega (arith, shows.many, keeps.going);
        way = λ e. shows.way e ∙ sym (ways e);
        held = λ e. shows.held e ∙ sym (holds e);
      })
      loaders refl passes (omega (arith, keeps.ending, is.none_refused))

  -- the cells that hold a delivered element stay
  ready-write : (found new : CoreCell) (payloads : ℕ → ℕ) → slice_get s.queue.cells k ≡ Some found
      → PayloadsBut k s.payloads payloads
      → has_ready found ≡ false → has_ready new ≡ false → (e : ℕ)
      → sum_by (λ xs. times e xs) s.holds + count_at (λ n c. has_ready c && (payloads n == e)) 0
      (set s.queue.cells k new)
      ≡ held_times e s.queue s.payloads s.holds
  ready-write found new payloads finds but was now e =
      let write = cells-write has_ready e s.queue.cells k found new s.payloads payloads finds but in
      let before : bit (has_ready found && (s.payloads k == e)) ≡ 0 = ap (λ b. bit (b && (s.payloads k == e))) was in
      let after : bit (has_ready new && (payloads k == e)) ≡ 0 = ap (λ b. bit (b && (payloads k == e))) now in
      omega arith

  abbrev load_of : ℕ
  load_of = get_or s.loads p 0

  -- the element that the pass brings is left in the cell
  abbrev pub left_by : ℕ → ℕ
  left_by = put_at s.payloads k load_of

  pub pool-install : (found : CoreCell) → Works s.queue p (doing.Drawn k) k found state.Empty
      → IsPool (record s { queue = move_queue s.queue (move.install p k found) })
  pool-install found w =
      let new : CoreCell = at_state found state.Waiter in
      pool-quiet s.loads s.payloads (move_queue s.queue (move.install p k found))
      (sound-moved s.queue (move.install p k found) is.sound w) (keeps-install s.queue p k found w)
      (given-write s.queue.cells k found new s.payloads s.payloads w.finds (payloads-same k s.payloads) (rw w.at tt) tt)
      (λ e. let write = way-write e s.queue p (doing.Drawn k) doing.Idle k found new s.loads s.loads s.payloads
      s.payloads w.does w.finds
      (loads-same p s.loads) (payloads-same k s.payloads) in
      let none : bit (has_left found && (s.payloads k == e)) ≡ 0 = rw w.at refl in
      omega arith)
      (ready-write found new s.payloads w.finds (payloads-same k s.payloads) (rw w.at refl) refl)
      refl (length-set s.queue.doing p doing.Idle)

  -- a resumption leaves its element in the cell
  pub pool-leave_value : (found : CoreCell) → Works s.queue p (doing.Ticket k) k found state.Empty
      → IsPool (record s {
        payloads = put_at s.payloads k load_of;
        queue = move_queue s.queue (move.leave_value p k found);
      })
  pool-leave_value found w =
      let new : CoreCell = at_state found state.Value in
      let payloads : ℕ → ℕ = put_at s.payloads k load_of in
      let but = payloads-set k load_of s.payloads in
      pool-quiet s.loads payloads (move_queue s.queue (move.leave_value p k found))
      (sound-moved s.queue (move.leave_value p k found) is.sound w) (keeps-leave_value s.queue p k found w)
      (given-write s.queue.cells k found new s.payloads payloads w.finds but (rw w.at tt) tt)
      (λ e. let write = way-write e s.queue p (doing.Ticket k) doing.Idle k found new s.loads s.loads s.payloads
      payloads w.does w.finds
      (loads-same p s.loads) but in
      let none : bit (has_left found && (s.payloads k == e)) ≡ 0 = rw w.at refl in
      let here : bit (payloads k == e) ≡ bit (load_of == e) = ap (λ n. bit (n == e)) (put-here k load_of s.payloads) in
      omega arith)
      (ready-write found new payloads w.finds but (rw w.at refl) refl)
      refl (length-set s.queue.doing p doing.Idle)

  pub pool-delegate : (found : CoreCell) → Works s.queue p (doing.Ticket k) k found state.Cancelling
      → IsPool (record s {
        payloads = put_at s.payloads k load_of;
        queue = move_queue s.queue (move.delegate p k found);
      })
  pool-delegate found w =
      let new : CoreCell = at_state found state.Delegated in
      let payloads : ℕ → ℕ = put_at s.payloads k load_of in
      let but = payloads-set k load_of s.payloads in
      pool-quiet s.loads payloads (move_queue s.queue (move.delegate p k found))
      (sound-moved s.queue (move.delegate p k found) is.sound w) (keeps-delegate s.queue p k found w)
      (given-write s.queue.cells k found new s.payloads payloads w.finds but (rw w.at tt) tt)
      (λ e. let write = way-write e s.queue p (doing.Ticket k) doing.Idle k found new s.loads s.loads s.payloads
      payloads w.does w.finds
      (loads-same p s.loads) but in
      let none : bit (has_left found && (s.payloads k == e)) ≡ 0 = rw w.at refl in
      let here : bit (payloads k == e) ≡ bit (load_of == e) = ap (λ n. bit (n == e)) (put-here k load_of s.payloads) in
      omega arith)
      (ready-write found new payloads w.finds but (rw w.at refl) refl)
      refl (length-set s.queue.doing p doing.Idle)

  -- it passes over a cancelled cell, with its element
  pub pool-pass_over : (found : CoreCell) → Works s.queue p (doing.Ticket k) k found state.Cancelled
      → IsPool (record s { queue = move_queue s.queue (move.pass_over p k found) })
  pool-pass_over found w =
      pool-quiet s.loads s.payloads (move_queue s.queue (move.pass_over p k found))
      (sound-moved s.queue (move.pass_over p k found) is.sound w) (keeps-pass_over s.queue p k found w) refl
      (λ e. let turn = way-turn e s.queue p (doing.Ticket k) doing.Owes s.loads s.loads s.payloads w.does
      (loads-same p s.loads) in
      omega arith)
      (λ e. refl) refl (length-set s.queue.doing p doing.Owes)

  -- nor does a further number change anything
  pub pool-reach : (found : Option CoreCell) → slice_get s.queue.doing p ≡ Some doing.Owes
      → slice_get s.queue.cells s.queue.resumes ≡ found
      → IsPool (record s { queue = move_queue s.queue (move.reach p s.queue.resumes found) })
  pool-reach found does finds =
      let m : move.Move = move.reach p s.queue.resumes found in
      pool-quiet s.loads s.payloads (move_queue s.queue m)
      (sound-moved s.queue m is.sound (does, refl, finds)) (keeps-reach s.queue p found does)
      (given-reached s.payloads s.queue.cells found)
      (λ e. let passes = brings-write e s.queue.doing p doing.Owes (doing.Ticket s.queue.resumes) s.loads s.loads does
      (loads-same p s.loads) in
      let cells = cells-reached has_left e s.payloads s.queue.cells found refl in
      omega arith)
      (λ e. let cells = cells-reached has_ready e s.payloads s.queue.cells found refl in omega arith)
      refl (length-set s.queue.doing p (doing.Ticket s.queue.resumes))

  pub pool-cancel : (found : CoreCell) → Works s.queue p (doing.Decided k true) k found state.Cancelling
      → IsPool (record s { queue = move_queue s.queue (move.cancel p k found) })
  pool-cancel found w =
      let new : CoreCell = at_state found state.Cancelled in
      pool-quiet s.loads s.payloads (move_queue s.queue (move.cancel p k found))
      (sound-moved s.queue (move.cancel p k found) is.sound w) (keeps-cancel s.queue p k found is.sound w)
      (given-write s.queue.cells k found new s.payloads s.payloads w.finds (payloads-same k s.payloads) (rw w.at tt) tt)
      (λ e. let write = way-write e s.queue p (doing.Decided k true) doing.Idle k found new s.loads s.loads s.payloads
      s.payloads w.does w.finds
      (loads-same p s.loads) (payloads-same k s.payloads) in
      let none : bit (has_left found && (s.payloads k == e)) ≡ 0 = rw w.at refl in
      omega arith)
      (ready-write found new s.payloads w.finds (payloads-same k s.payloads) (rw w.at refl) refl)
      refl (length-set s.queue.doing p doing.Idle)

  -- the canceller takes the element that was left to it, and owes its resumption
  pub pool-cancel_owing : (found : CoreCell) → Works s.queue p (doing.Decided k true) k found state.Delegated
      → IsPool (record s {
        loads = set s.loads p (s.payloads k);
        queue = move_queue s.queue (move.cancel_owing p k found);
      })
  pool-cancel_owing found w =
      let new : CoreCell = at_state found state.Cancelled in
      let loads : List ℕ = set s.loads p (s.payloads k) in
      pool-quiet loads s.payloads (move_queue s.queue (move.cancel_owing p k found))
      (sound-moved s.queue (move.cancel_owing p k found) is.sound w) (keeps-cancel_owing s.queue p k found is.sound w)
      (given-write s.queue.cells k found new s.payloads s.payloads w.finds (payloads-same k s.payloads) (rw w.at tt) tt)
      (λ e. let write = way-write e s.queue p (doing.Decided k true) doing.Owes k found new s.loads loads s.payloads
      s.payloads w.does w.finds
      (loads-set p (s.payloads k) s.loads) (payloads-same k s.payloads) in
      let had : bit (has_left found && (s.payloads k == e)) ≡ bit (s.payloads k == e) = rw w.at refl in
      let has : bit (get_or loads p 0 == e) ≡ bit (s.payloads k == e) =
      ap (λ n. bit (n == e)) (get_or-set_same s.loads p (s.payloads k) 0 (loads-there (doing.Decided k true) w.does)) in
      omega arith)
      (ready-write found new s.payloads w.finds (payloads-same k s.payloads) (rw w.at refl) refl)
      (length-set s.loads p (s.payloads k)) (length-set s.queue.doing p doing.Owes)

  -- what a pass holds, one more or one fewer
  abbrev held_of : List ℕ
  held_of = get_or s.holds p []

  pub gained : (e f : ℕ) → p < length s.holds
      → sum_by (λ xs. times f xs) (set s.holds p (e ∷ held_of)) ≡ sum_by (λ xs. times f xs) s.holds + bit (e == f)
  gained e f there =
      let write = sum_by-set (λ xs. times f xs) s.holds p (e ∷ held_of) [] there in
      let more = times-cons f e held_of in
      omega arith

  pub lost : (e f : ℕ) → p < length s.holds → IsIn e held_of
      → sum_by (λ xs. times f xs) (set s.holds p (without itself e held_of)) + bit (e == f) ≡ sum_by
      (λ xs. times f xs) s.holds
  lost e f there has =
      let write = sum_by-set (λ xs. times f xs) s.holds p (without itself e held_of) [] there in
      let fewer = times-without f e held_of has in
      omega arith

  -- an element on its way reaches wait k of c
  delivered : (c e : ℕ) (payloads : ℕ → ℕ) (holds : List (List ℕ)) (q : Queue) → IsSound q → Serves s.queue q k c
      → services q payloads ≡ insert_by given_wait (record { wait = k; pass = c; element = e; is_open = true })
      (services s.queue s.payloads)
      → ((f : ℕ) → way_times f q s.loads payloads + bit (e == f) ≡ way_times f s.queue s.loads s.payloads)
      → ((f : ℕ) → held_times f q payloads holds ≡ held_times f s.queue s.payloads s.holds + bit (e == f))
      → length holds ≡ length s.holds → length q.doing ≡ length s.queue.doing
      → IsPool (record s {
        payloads = payloads;
        holds = holds;
        queue = q;
        history = s.history ++ entry.Deliver k e ∷ [];
      })
  delivered c e payloads holds q sound serves served ways holding holders passes =
      let shows = is.shows in
      let one : bit (e == e) ≡ 1 = ap bit (eq-eqb e e refl) in
      let ways_e = ways e in
      let on_way : 0 < times e o.way = omega (arith, shows.way e) in
      let within = times-in e o.way on_way in
      let enough = expected-within s.queue is.sound is.none_refused in
      let first : Waits k c (take (going s.queue) (line s.queue)) =
      first-picked (in_line s.queue.doing) s.queue.resumes s.queue.cells (going s.queue) k serves.cell
      (waiting k c) serves.found
      serves.waits serves.reached enough in
      let stands : Waits k c (take (length o.way) o.line) = rw (shows.many, shows.line) first in
      let fewer : length (without itself e o.way) + 1 ≡ length o.way = length-without itself e e o.way refl within in
      pool-push s.loads payloads holds (entry.Deliver k e) q sound
      ((c, stands), within)
      (record {
        line = ap (λ l. without (λ w. w.wait) k l) shows.line ∙ sym (ap (λ w. w.line) serves.waiters);
        next = shows.next ∙ ap (λ w. w.next) (sym serves.waiters);
        served =
            ap₂ (λ l v. with_given e (find_wait k l) v) shows.line shows.served
            ∙ ap (λ w. with_given e w (services s.queue s.payloads)) serves.here ∙ sym served;
        many = omega (arith, fewer, shows.many, serves.going);
        way = λ f. omega (arith, times-without f e o.way within, shows.way f, ways f);
        held = λ f. omega (arith, times-cons f e o.held, shows.held f, holding f);
      })
      refl holders passes (serves.ending ∙ is.none_refused)

  -- a suspend takes the element that was left in its cell
  pub pool-take_value : (found : CoreCell) → Works s.queue p (doing.Drawn k) k found state.Value
      → IsPool (record s {
        holds = set s.holds p (s.payloads k ∷ held_of);
        queue = move_queue s.queue (move.take_value p k found);
        history = s.history ++ entry.Deliver k (s.payloads k) ∷ [];
      })
  pool-take_value found w =
      let e : ℕ = s.payloads k in
      let new : CoreCell = record { state = state.Taken; owner = found.owner; collected = true } in
      let serves = serves-take_value s.queue p k found is.sound w in
      let owner : found.owner ≡ Some p = drawn-own s.queue p k found is.sound w.does w.finds in
      let around = given-around s.queue.cells k found new s.payloads s.payloads w.finds (payloads-same k s.payloads) in
      let there : p < length s.holds = holds-there (doing.Drawn k) w.does in
      delivered p e s.payloads (set s.holds p (e ∷ held_of)) (move_queue s.queue (move.take_value p k found))
      (sound-moved s.queue (move.take_value p k found) is.sound w) serves
      (around-came given_wait k _ _ _ _ around (record { wait = k; pass = p; element = e; is_open = true })
      (rw w.at refl)
      (ap (λ x. given_of k state.Taken x true e) owner) refl)
      (λ f. let write = way-write f s.queue p (doing.Drawn k) doing.Idle k found new s.loads s.loads s.payloads
      s.payloads w.does w.finds
      (loads-same p s.loads) (payloads-same k s.payloads) in
      let had : bit (has_left found && (e == f)) ≡ bit (e == f) = rw w.at refl in
      omega arith)
      (λ f. let write = ready-write found new s.payloads w.finds (payloads-same k s.payloads) (rw w.at refl) refl f in
      let more = gained e f there in
      omega arith)
      (length-set s.holds p (e ∷ held_of)) (length-set s.queue.doing p doing.Idle)

  -- a resumption serves the waiter with its element
  pub pool-serve : (found : CoreCell) → Works s.queue p (doing.Ticket k) k found state.Waiter
      → IsPool (record s {
        payloads = put_at s.payloads k load_of;
        queue = move_queue s.queue (move.serve p k found);
        history = s.history ++ entry.Deliver k load_of ∷ [];
      })
  pool-serve found w =
      let e : ℕ = load_of in
      let payloads : ℕ → ℕ = put_at s.payloads k e in
      let but = payloads-set k e s.payloads in
      let new : CoreCell = at_state found state.Resumed in
      let serves = serves-serve s.queue p k found is.sound w in
      let cell = waiter-of s.queue k found is.sound w.finds w.at in
      let owner : found.owner ≡ Some serves.0 = waits-owner s.queue k found serves.0 serves.1 w.finds in
      let around = given-around s.queue.cells k found new s.payloads payloads w.finds but in
      let here : payloads k ≡ e = put-here k e s.payloads in
      delivered serves.0 e payloads s.holds (move_queue s.queue (move.serve p k found))
      (sound-moved s.queue (move.serve p k found) is.sound w) serves.1
      (around-came given_wait k _ _ _ _ around (record { wait = k; pass = serves.0; element = e; is_open = true })
      (rw w.at refl)
      (λ i. given_of k state.Resumed (owner i) (cell i) (here i)) refl)
      (λ f. let write = way-write f s.queue p (doing.Ticket k) doing.Idle k found new s.loads s.loads s.payloads
      payloads w.does w.finds
      (loads-same p s.loads) but in
      let none : bit (has_left found && (s.payloads k == f)) ≡ 0 = rw w.at refl in
      omega arith)
      (λ f. let write = cells-write has_ready f s.queue.cells k found new s.payloads payloads w.finds but in
      let none : bit (has_ready found && (s.payloads k == f)) ≡ 0 = rw w.at refl in
      let one : bit (has_ready new && (payloads k == f)) ≡ bit (e == f) =
      λ i. bit (not (cell i) && (here i == f)) in
      omega arith)
      refl (length-set s.queue.doing p doing.Idle)

  -- A wait leaves: the exchange itself decides that resumptions pass on.
  pub pool-leave : (found : CoreCell) → Works s.queue p doing.Idle k found state.Waiter → Owns p found
      → IsPool (record s {
        queue = move_queue (move_queue s.queue (move.begin_cancel p k found)) (move.decide p k true);
        history = s.history ++ entry.Leave p k ∷ [];
      })
  pool-leave found w owns =
      let new : CoreCell = at_state found state.Cancelling in
      let r : Queue = move_queue s.queue (move.begin_cancel p k found) in
      let q : Queue = move_queue r (move.decide p k true) in
      let begins = keeps-begin_cancel s.queue p k found w owns in
      let sound_r : IsSound r = sound-moved s.queue (move.begin_cancel p k found) is.sound (w, owns) in
      let leaving : slice_get r.doing p ≡ Some (doing.Leaving k) = get-set_here s.queue.doing p doing.Idle
      (doing.Leaving k) w.does in
      let leaves = decide-leaves r p k true sound_r leaving in
      let shows = is.shows in
      let lines : line r ≡ line s.queue = ap (λ x. x.line) begins.waiters in
      let stands : Waits k p o.line =
      subst (λ (l : List Waiting). Waits k p l) (lines ∙ sym shows.line) leaves.waits in
      let write = (λ (f : ℕ). way-write f s.queue p doing.Idle (doing.Leaving k) k found new s.loads s.loads s.payloads
      s.payloads w.does w.finds
      (loads-same p s.loads) (payloads-same k s.payloads)) in
      let none = (λ (f : ℕ). bits-none found f w.at) in
      let turned = (λ (f : ℕ). way-turn f r p (doing.Leaving k) (doing.Decided k true) s.loads s.loads s.payloads
      leaving (loads-same p s.loads)) in
      let readies = ready-write found new s.payloads w.finds (payloads-same k s.payloads) (rw w.at refl) refl in
      pool-push s.loads s.payloads s.holds (entry.Leave p k) q (sound-moved r (move.decide p k true) sound_r leaving)
      stands
      (record {
        line = ap (λ l. without (λ w. w.wait) k l) (shows.line ∙ sym lines) ∙ ap (λ w. w.line) (sym leaves.waiters);
        next = shows.next;
        served = shows.served
            ∙ sym (given-write s.queue.cells k found new s.payloads s.payloads w.finds (payloads-same k s.payloads)
            (rw w.at tt) tt);
        many = omega (arith, shows.many, begins.going, leaves.going);
        way = λ f. omega (arith, shows.way f, write f, none f, turned f);
        held = λ f. shows.held f ∙ sym (readies f);
      })
      refl refl
      (length-set r.doing p (doing.Decided k true) ∙ length-set s.queue.doing p (doing.Leaving k))
      (omega (arith, begins.ending, leaves.ending, is.none_refused))
    where
      bits-none : (found : CoreCell) (f : ℕ) → found.state ≡ state.Waiter
          → bit (has_left found && (s.payloads k == f)) ≡ 0
      bits-none found f at = rw at refl

  -- No resumption meets a refused cell, and no canceller refuses one.
  pub pool-none_refused : (found : CoreCell) → Works s.queue p (doing.Ticket k) k found state.Refused → ⊥
  pool-none_refused found w =
      let keeps = keeps-meet_refused s.queue p k found is.sound w in
      let none = is.none_refused in
      omega (arith, keeps.ending)
