-- The kinds of step of a core, synchronous or not: hidden from the fair semaphore, a permit that reaches a wait, and
-- a look that closes one.
use Rattle.std.proofs.Common.{◌≡◌, ⊎_elim, ℕ, ◌+◌, ◌-◌, ◌<◌, ◌≤◌, nat_le, max, ℤ, List, [], ◌∷◌, ◌++◌, Some, length, sum, slice_get, take, refl, sym, ap, ◌∙◌, arith}
use Rattle.std.proofs.lemmas.Bool.{cases_lt, lt-leb}
use Rattle.cqs_core.specs.declared.doings.Doing.{Doing}
use Rattle.cqs_core.specs.declared.entries.Entry.{Entry}
use Rattle.cqs_core.specs.declared.entries.Entry.TheVariants as entry
use Rattle.cqs_core.specs.Numbered.{EachAt, IsIn}
use Rattle.cqs_core.specs.QueueState.{Queue}
use Rattle.cqs_core.specs.QueueLine.{in_line, line, due, way, ready, going, ending, spoiled}
use Rattle.cqs_core.specs.QueueAsUnbroken.{as_unbroken}
use Rattle.cqs_core.specs.QueueCover.{IsCovered}
use Rattle.cqs_core.specs.QueueSound.{IsSound}
use Rattle.cqs_core.specs.QueueWaiters.{due_of}
use Rattle.cqs_core.specs.SemaphoreEntries.{IsAllowed, after_entry, after_look}
use Rattle.cqs_core.specs.SemaphoreTable.{Shape, last_number}
use Rattle.cqs_core.specs.SemaphoreShown.{HasLoaded, free_of, short_of}
use Rattle.cqs_core.specs.SemaphoreCores.{IsEitherCore, shown_by_either, early}
use Rattle.cqs_core.proofs.CoreFrame.{Conserves, altered, same-by_waiters}
use Rattle.cqs_core.proofs.CoreSteps.{with_permits}
use Rattle.cqs_core.proofs.EitherFrame.{WordsFit, TellsShort, seen, core-push, core-quiet, early-same}
use Rattle.cqs_core.specs.QueueMoves.{Move, IsOpen, move_queue}
use Rattle.cqs_core.proofs.UnbrokenMoves.{Follows, follows-move, IsFairEither, IsWhole, spoiled-moved}
use Rattle.cqs_core.specs.QueueCover.{roaming}
use Rattle.cqs_core.specs.QueueLine.{door}
use Rattle.cqs_core.proofs.Counts.{count_at-none}
use Rattle.cqs_core.proofs.Equations.{HasFlow, flow, takers}
use Rattle.cqs_core.proofs.Equations as equations
use Rattle.cqs_core.proofs.QueueReaches.{no-takers}
use Rattle.cqs_core.proofs.QueueAsUnbroken.{sync-flow, sync-within, alike, ahead}
use Rattle.cqs_core.proofs.DeliveryMoves.{Closes}
use Rattle.cqs_core.proofs.QueueServes.{waiting, Serves}
use Rattle.cqs_core.proofs.HiddenMoves.{Keeps, keeps-due}
use Rattle.cqs_core.proofs.PickedPlaces.{first-picked}
use Rattle.cqs_core.proofs.Places.{get-below}

-- a pass that does something holds something
pub holds-there : (s : Shape) (p : ℕ) (d : Doing) → IsEitherCore s → slice_get s.queue.doing p ≡ Some d
    → p < length s.held
holds-there s p d core does = let there = get-below s.queue.doing p d does in omega (arith, core.holders)

-- a wait of the line that a resume has drawn is among the first of the line, as many as are on their way to it
pub first-of-way : (q : Queue) (r : Queue) (k c : ℕ) → IsSound (as_unbroken q) → IsCovered (as_unbroken q)
    → Serves q r k c → IsIn (waiting k c) (take (way q) (line q))
first-of-way q r k c sound covered serves =
    let flows = sync-flow q sound covered in
    first-picked (in_line q.doing) q.resumes q.cells (way q) k serves.cell (waiting k c) serves.found serves.waits
    serves.reached (omega (arith, flows))

-- Numbers that no suspend has drawn are made by resumes, and as many callers stand at the door: for those that are
-- broken, and for those at which a resumption still stands.
pub door-covers : (q : Queue) (short : ℕ) → IsSound (as_unbroken q) → going q + short + early q ≡ due q + ending q
    → early q + ahead q ≤ length (door q)
door-covers q short sound tells =
    let same = alike q sound in
    let flows : HasFlow (as_unbroken q) = flow (as_unbroken q) sound in
    let made : length (as_unbroken q).cells ≡ max q.suspends q.resumes = sound.made in
    let whole : going (as_unbroken q) + takers (as_unbroken q) ≡ ending (as_unbroken q) + length (line (as_unbroken q))
    + roaming (as_unbroken q) + equations.early (as_unbroken q) =
    flows.whole in
    let parts : equations.early (as_unbroken q) ≡ early q + ahead q = same.undrawn in
    ⊎_elim
    (λ (past : q.suspends < q.resumes).
    let none : takers (as_unbroken q) ≡ 0 = no-takers (as_unbroken q) (omega arith) in
    omega (arith, same.going, same.ending, same.line))
    (λ (behind : q.resumes ≤ q.suspends).
    let none : equations.early (as_unbroken q) ≡ 0 =
    count_at-none (λ k cell. nat_le q.suspends k) (as_unbroken q).cells (λ k cell there.
    let below : k < length (as_unbroken q).cells = get-below (as_unbroken q).cells k cell there in
    lt-leb q.suspends k (omega arith)) in
    omega arith)
    (cases_lt q.suspends q.resumes)

-- Steps that the fair semaphore doesn't see, but for a permit that goes from the free ones to the held ones or
-- back.

way-same : (s : Shape) (r : Queue) (n : ℕ) → IsEitherCore s → Follows s.sync s.queue r → Keeps s.queue r n
    → way s.queue ≡ way r
way-same s r n core after keeps =
    let within = sync-within s.queue core.sound core.covered in
    let within_after = sync-within r after.sound after.covered in
    omega (arith, keeps.going, keeps.ending, within, within_after)

hidden-short : (s : Shape) (r : Queue) (n : ℕ) (z : ℤ) → IsEitherCore s → Keeps s.queue r n → early r ≡ early s.queue
    → short_of z ≡ short_of s.state → TellsShort z r
hidden-short s r n z core keeps early_same short_same =
    omega (arith, keeps.going, keeps.ending, keeps-due s.queue r n keeps, early_same, core.short)

hidden-conserved : (s : Shape) (r : Queue) (n : ℕ) (z : ℤ) (held : List ℕ) → IsEitherCore s → Keeps s.queue r n
    → sum held + free_of z ≡ sum s.held + free_of s.state → Conserves s.permits z held r
hidden-conserved s r n z held core keeps permits_same =
    omega (arith, keeps.ready, keeps.going, keeps.ending, core.conserved)

hidden-shows : (s : Shape) (r : Queue) (n : ℕ) (z : ℤ) (held : List ℕ) → way s.queue ≡ way r → Keeps s.queue r n
    → spoiled r ≡ spoiled s.queue
    → with_permits (shown_by_either s) (free_of z) (sum held + ready s.queue) ≡ seen z held r
hidden-shows s r n z held ways keeps same =
    same-by_waiters refl ways (sym keeps.waiters) (ap (λ n. sum held + n) (sym keeps.ready)) (sym same)

pub hidden-push : {n : ℕ} (s : Shape) (r : Queue) (z : ℤ) (held : List ℕ) (e : Entry)
    → IsEitherCore s → Follows s.sync s.queue r → Keeps s.queue r n → spoiled r ≡ spoiled s.queue → WordsFit s r z held
    → short_of z ≡ short_of s.state → sum held + free_of z ≡ sum s.held + free_of s.state
    → IsAllowed (shown_by_either s) e
    → after_entry (shown_by_either s) e ≡ with_permits (shown_by_either s) (free_of z) (sum held + ready s.queue)
    → IsEitherCore (altered s z held (s.history ++ e ∷ []) r)
hidden-push {n} s r z held e core after keeps same words short_same permits_same allowed changes =
    core-push s r z held e core after words
    (hidden-short s r n z core keeps (early-same s.queue r (ap (λ w. w.next) keeps.waiters) same) short_same)
    (hidden-conserved s r n z held core keeps permits_same)
    allowed
    (changes ∙ hidden-shows s r n z held (way-same s r n core after keeps) keeps same)

pub hidden-quiet : {n : ℕ} (s : Shape) (r : Queue)
    → IsEitherCore s → Follows s.sync s.queue r → Keeps s.queue r n → spoiled r ≡ spoiled s.queue
    → r.resumes ≤ last_number → EachAt HasLoaded r.doing
    → IsEitherCore (altered s s.state s.held s.history r)
hidden-quiet {n} s r core after keeps same resumes loaded =
    let words : WordsFit s r s.state s.held = record {
      state = core.range.state;
      suspends = rw (ap (λ w. w.next) keeps.waiters) core.range.suspends;
      resumes = resumes;
      loaded = loaded;
      holders = refl;
    } in
    core-quiet s r s.state s.held core after words
    (hidden-short s r n s.state core keeps (early-same s.queue r (ap (λ w. w.next) keeps.waiters) same) refl)
    (hidden-conserved s r n s.state s.held core keeps refl)
    (hidden-shows s r n s.state s.held (way-same s r n core after keeps) keeps same)

-- A permit on its way reaches wait k of pass c.
pub delivered-core : (s : Shape) (r : Queue) (held : List ℕ) (k c : ℕ)
    → IsEitherCore s → Follows s.sync s.queue r → Serves s.queue r k c → spoiled r ≡ spoiled s.queue
    → r.resumes ≤ last_number → EachAt HasLoaded r.doing
    → length held ≡ length s.held → sum held + ready r ≡ sum s.held + ready s.queue + 1
    → IsEitherCore (altered s s.state held (s.history ++ entry.Deliver k ∷ []) r)
delivered-core s r held k c core after serves same resumes loaded holders more =
    let q : Queue = s.queue in
    let words : WordsFit s r s.state held = record {
      state = core.range.state;
      suspends = rw (ap (λ w. w.next) serves.waiters) core.range.suspends;
      resumes = resumes;
      loaded = loaded;
      holders = holders;
    } in
    let as_early : early r ≡ early q = early-same q r (ap (λ w. w.next) serves.waiters) same in
    let short : TellsShort s.state r = omega (arith, serves.due, serves.going, serves.ending, as_early, core.short) in
    let conserved : Conserves s.permits s.state held r =
    omega (arith, more, serves.going, serves.ending, core.conserved) in
    let one_fewer : way q - 1 ≡ way r = omega (arith, serves.going, serves.ending) in
    let shows : after_entry (shown_by_either s) (entry.Deliver k) ≡ seen s.state held r =
    same-by_waiters refl one_fewer (sym serves.waiters) (sym more) (sym same) in
    core-push s r s.state held (entry.Deliver k) core after words short conserved
    (c, first-of-way q r k c core.sound core.covered serves) shows

-- The permit of wait k, which was served, is looked at: it is the pass's.
pub closed-core : (s : Shape) (r : Queue) (held : List ℕ) (e : Entry) (k c : ℕ)
    → IsEitherCore s → Follows s.sync s.queue r → Closes s.queue r k c → spoiled r ≡ spoiled s.queue
    → r.resumes ≤ last_number → EachAt HasLoaded r.doing
    → length held ≡ length s.held → sum held ≡ sum s.held + 1
    → IsAllowed (shown_by_either s) e → after_entry (shown_by_either s) e ≡ after_look (shown_by_either s) k
    → IsEitherCore (altered s s.state held (s.history ++ e ∷ []) r)
closed-core s r held e k c core after closes same resumes loaded holders more allowed changes =
    let words : WordsFit s r s.state held = record {
      state = core.range.state;
      suspends = rw (ap (λ w. w.next) closes.waiters) core.range.suspends;
      resumes = resumes;
      loaded = loaded;
      holders = holders;
    } in
    let as_due : due r ≡ due s.queue = ap due_of closes.waiters in
    let as_early : early r ≡ early s.queue = early-same s.queue r (ap (λ w. w.next) closes.waiters) same in
    let short : TellsShort s.state r = omega (arith, closes.going, closes.ending, as_early, core.short) in
    let conserved : Conserves s.permits s.state held r =
    omega (arith, more, closes.ready, closes.going, closes.ending, core.conserved) in
    let as_many : way s.queue ≡ way r = omega (arith, closes.going, closes.ending) in
    let held_same : sum s.held + ready s.queue ≡ sum held + ready r = omega (arith, closes.ready) in
    let shows : after_look (shown_by_either s) k ≡ seen s.state held r =
    same-by_waiters refl as_many (sym closes.waiters) held_same (sym same) in
    core-push s r s.state held e core after words short conserved allowed (changes ∙ shows)

-- Steps that are a move of the queue.

pub after-move : (s : Shape) (m : Move) → IsEitherCore s → IsOpen s.queue m → IsFairEither s.queue m
    → Follows s.sync s.queue (move_queue s.queue m)
after-move s m core opens fair = follows-move s.sync s.queue m core.sound core.covered opens fair core.plain

pub moved-push : {n : ℕ} (s : Shape) (m : Move) (z : ℤ) (held : List ℕ) (e : Entry)
    → IsEitherCore s → IsOpen s.queue m → IsFairEither s.queue m → IsWhole m → Keeps s.queue (move_queue s.queue m) n
    → WordsFit s (move_queue s.queue m) z held
    → short_of z ≡ short_of s.state → sum held + free_of z ≡ sum s.held + free_of s.state
    → IsAllowed (shown_by_either s) e
    → after_entry (shown_by_either s) e ≡ with_permits (shown_by_either s) (free_of z) (sum held + ready s.queue)
    → IsEitherCore (altered s z held (s.history ++ e ∷ []) (move_queue s.queue m))
moved-push s m z held e core opens fair whole keeps words short_same permits_same allowed changes =
    hidden-push s (move_queue s.queue m) z held e core (after-move s m core opens fair) keeps
    (spoiled-moved s.queue m opens whole) words short_same permits_same allowed changes

pub moved-quiet : {n : ℕ} (s : Shape) (m : Move)
    → IsEitherCore s → IsOpen s.queue m → IsFairEither s.queue m → IsWhole m → Keeps s.queue (move_queue s.queue m) n
    → (move_queue s.queue m).resumes ≤ last_number → EachAt HasLoaded (move_queue s.queue m).doing
    → IsEitherCore (altered s s.state s.held s.history (move_queue s.queue m))
moved-quiet s m core opens fair whole keeps resumes loaded =
    hidden-quiet s (move_queue s.queue m) core (after-move s m core opens fair) keeps
    (spoiled-moved s.queue m opens whole) resumes loaded
