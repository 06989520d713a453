-- What every core gives, synchronous or not: it shows the object after its history, the laws of the semaphore hold of
-- it, and its numbers are small.
use Rattle.std.proofs.Common.{◌≡◌, ◌⊎◌, inl, inr, ℕ, suc, ◌+◌, ◌-◌, ◌^◌, ◌<◌, ◌≤◌, false, pos, ◌-ℤ◌, List, [], ◌∷◌, map, Option, Some, None, length, sum, get_or, slice_index, refl, sym, ap, ap₂, ◌∙◌, subst, arith}
use Rattle.std.proofs.lemmas.Bool.{cases_lt}
use Rattle.std.proofs.lemmas.List.{get_or_past}
use Rattle.cqs_core.specs.declared.cells.CoreCell.{CoreCell}
use Rattle.cqs_core.specs.declared.cells.CoreState.{CoreState}
use Rattle.cqs_core.specs.declared.cells.CoreState.TheVariants as state
use Rattle.cqs_core.specs.declared.doings.Doing.{Doing}
use Rattle.cqs_core.specs.declared.doings.Doing.TheVariants as doing
use Rattle.cqs_core.specs.declared.events.Event.{Event}
use Rattle.cqs_core.specs.Numbered.{EachAt}
use Rattle.cqs_core.specs.QueueState.{Queue}
use Rattle.cqs_core.specs.QueueSound.{IsSound, IsSoundAt, IsPass}
use Rattle.cqs_core.specs.QueueCover.{IsCovered}
use Rattle.cqs_core.specs.QueueAsUnbroken.{unbroken_state, unbroken_cell, unwatching, as_unbroken, IsIntact, WatchesNone, IsUnbroken}
use Rattle.cqs_core.specs.declared.outcomes.Outcome.{Outcome}
use Rattle.cqs_core.specs.QueueLine.{door, spoiled_of, is_spoiled, spoiled}
use Rattle.cqs_core.specs.SemaphoreObject.{Semaphore, due, early_of}
use Rattle.cqs_core.specs.SemaphoreObject as object
use Rattle.cqs_core.specs.SemaphoreEntries.{object_after, IsBalanced}
use Rattle.cqs_core.specs.SemaphoreTable.{Shape, Stepped, step}
use Rattle.cqs_core.specs.SemaphoreAnswers.{Room, MakesReady}
use Rattle.cqs_core.specs.SemaphoreShown.{IsCore, shown_semaphore, Shows, free_of, short_of}
use Rattle.cqs_core.specs.SemaphoreWords.{FitsWords}
use Rattle.cqs_core.specs.SemaphoreCores.{IsEitherCore, shown_by_either, early}
use Rattle.cqs_core.proofs.EitherKeeps.{KeepsCore}
use Rattle.cqs_core.proofs.EitherSteps.{door-covers}
use Rattle.cqs_core.proofs.EitherTable.{rows-keep}
use Rattle.cqs_core.proofs.Picked.{none-picked}
use Rattle.cqs_core.proofs.StateWord.{state-apart, free-or-short, state-by-free}
use Rattle.cqs_core.proofs.CoreSteps.{held-within}
use Rattle.cqs_core.proofs.QueueAsUnbroken.{ahead, sync-within}
use Rattle.cqs_core.proofs.RowsKeep.{Keeps}

-- those who wait with none on its way
short-is : (s : Shape) → IsEitherCore s → due (shown_by_either s) - (shown_by_either s).way ≡ short_of s.state
short-is s core =
    let within = sync-within s.queue core.sound core.covered in
    let covers : early s.queue + ahead s.queue ≤ length (door s.queue) =
    door-covers s.queue (short_of s.state) core.sound core.short in
    let same : object.early (shown_by_either s) ≡ early s.queue = refl in
    omega (arith, core.short, within, covers, same)

shows-shown : (s : Shape) → IsEitherCore s → Shows s (shown_by_either s)
shows-shown s core =
    let within = sync-within s.queue core.sound core.covered in
    record {
      state = state-apart s.state ∙ ap (λ n. pos (free_of s.state) -ℤ pos n) (sym (short-is s core));
      next = refl;
      door = refl;
      line = refl;
      way = omega (arith, within);
      served = refl;
      held = refl;
      spoiled = refl;
    }

-- a core shows the object after its history
pub shows-object : (s : Shape) → IsEitherCore s → Shows s (object_after s.permits s.history)
shows-object s core = subst (λ (o : Semaphore). Shows s o) (sym core.object) (shows-shown s core)

balanced-shown : (s : Shape) → IsEitherCore s → IsBalanced s.permits (shown_by_either s)
balanced-shown s core =
    let within = sync-within s.queue core.sound core.covered in
    let covers : early s.queue + ahead s.queue ≤ length (door s.queue) =
    door-covers s.queue (short_of s.state) core.sound core.short in
    let same : object.early (shown_by_either s) ≡ early s.queue = refl in
    record {
      conserved = omega (arith, core.conserved, within);
      wanted = omega (arith, core.short, within, covers, same);
      early = omega (arith, covers, same);
      eager = eager (free-or-short s.state);
    }
  where
    eager : (free_of s.state ≡ 0) ⊎ (short_of s.state ≡ 0)
        → (free_of s.state ≡ 0) ⊎ ((shown_by_either s).way ≡ due (shown_by_either s))
    eager (inl none_free) = inl none_free
    eager (inr none_short) =
        let within = sync-within s.queue core.sound core.covered in
        let covers : early s.queue + ahead s.queue ≤ length (door s.queue) =
        door-covers s.queue (short_of s.state) core.sound core.short in
        let same : object.early (shown_by_either s) ≡ early s.queue = refl in
        inr (omega (arith, core.short, within, covers, same, none_short))

-- the laws of the semaphore hold of the object after the history
pub balanced-object : (s : Shape) → IsEitherCore s → IsBalanced s.permits (object_after s.permits s.history)
balanced-object s core =
    subst (λ (o : Semaphore). IsBalanced s.permits o) (sym core.object) (balanced-shown s core)

-- The ranges that running code needs.

held-few : (s : Shape) → IsEitherCore s → sum s.held ≤ s.permits
held-few s core =
    let within = sync-within s.queue core.sound core.covered in
    omega (arith, core.conserved, within)

holds-few : (s : Shape) (p : ℕ) → IsEitherCore s → slice_index s.held p ≤ 1048576
holds-few s p core = go (cases_lt p (length s.held))
  where
    go : (p < length s.held) ⊎ (length s.held ≤ p) → get_or s.held p 0 ≤ 1048576
    go (inl there) =
        let one = held-within s.held p there in
        let all = held-few s core in
        omega (arith, core.range.permits)
    go (inr past) = let none = get_or_past s.held p 0 past in omega arith

holds-fits : (s : Shape) (p : ℕ) → IsEitherCore s → slice_index s.held p + 1 < 2 ^ 32
holds-fits s p core = let few = holds-few s p core in omega arith

free-few : (s : Shape) → IsEitherCore s → free_of s.state ≤ s.permits
free-few s core =
    let within = sync-within s.queue core.sound core.covered in
    omega (arith, core.conserved, within)

pub core-fits : (s : Shape) → IsEitherCore s → FitsWords s
core-fits s core = record {
  held = λ p. holds-fits s p core;
  low = core.range.state;
  high = let few = free-few s core in state-by-free s.state 1048576 (omega (arith, core.range.permits));
  holders = core.holders;
}

-- An event with room for it keeps the core.

ready-core : (old new : Room) (row : Option Stepped) (o : Option Outcome) → IsEitherCore old.shape
    → KeepsCore old.shape row
    → MakesReady row o old new → IsEitherCore new.shape
ready-core old new (Some row) (Some o) core keeps made = rw made.1 (keeps.at row refl).0
ready-core old new None None core keeps made = rw made core
ready-core old new (Some row) None core keeps made = absurd made
ready-core old new None (Some o) core keeps made = absurd made

pub ready-keeps : (old new : Room) (e : Event) (o : Option Outcome) → IsEitherCore old.shape
    → MakesReady (step old.shape e) o old new → IsEitherCore new.shape
ready-keeps old new e o core made =
    ready-core old new (step old.shape e) o core (rows-keep old.shape e core) made

-- A core that isn't synchronous, as its clients know it.

plain-cell : (c : CoreCell) → unbroken_state c.state c.collected ≡ c.state → unbroken_cell c ≡ c
plain-cell c same = λ i. record { state = same i; owner = c.owner; collected = c.collected }

plain-cells : (cells : List CoreCell) → EachAt (λ k c. IsIntact c.state) cells → map unbroken_cell cells ≡ cells
plain-cells [] each = refl
plain-cells (c ∷ cs) each =
    ap₂ (λ x xs. x ∷ xs) (intact-plain c c.state refl (each.at 0 c refl))
    (plain-cells cs (record { at = λ k x got. each.at (suc k) x got }))
  where
    intact-plain : (c : CoreCell) (st : CoreState) → c.state ≡ st → IsIntact c.state → unbroken_cell c ≡ c
    intact-plain c state.Broken is at = absurd (subst (λ x. IsIntact x) is at)
    intact-plain c _ is at = plain-cell c (rw is refl)

pub plain-passes : (passes : List Doing) → EachAt (λ p d. WatchesNone d) passes → map unwatching passes ≡ passes
plain-passes [] each = refl
plain-passes (d ∷ ds) each =
    ap₂ (λ x xs. x ∷ xs) (patient d (each.at 0 d refl))
    (plain-passes ds (record { at = λ k x got. each.at (suc k) x got }))
  where
    patient : (d : Doing) → WatchesNone d → unwatching d ≡ d
    patient (doing.Watching k) is = absurd is
    patient doing.Idle is = refl
    patient (doing.TryAt v) is = refl
    patient doing.Door is = refl
    patient (doing.Drawn k) is = refl
    patient doing.Owes is = refl
    patient (doing.Ticket k) is = refl
    patient (doing.Leaving k) is = refl
    patient (doing.Decided k on) is = refl

-- such a queue reads as itself, and has nothing spoiled
pub plain-read : (q : Queue) → IsUnbroken q → as_unbroken q ≡ q
plain-read q u = λ i. record {
  suspends = q.suspends;
  resumes = q.resumes;
  cells = plain-cells q.cells u.cells i;
  doing = plain-passes q.doing u.passes i;
}

pub sound-unbroken : (q : Queue) → IsSound q → IsUnbroken q
sound-unbroken q sound = record {
  cells = record { at = λ k c got. intact k c c.state (sound.cells.at k c got) };
  passes = record { at = λ p d got. patient p d (sound.passes.at p d got) };
}
  where
    intact : (k : ℕ) (c : CoreCell) (st : CoreState) → IsSoundAt q k c st → IsIntact st
    intact k c state.Broken at = at
    intact k c _ at = tt

    patient : (p : ℕ) (d : Doing) → IsPass q p d → WatchesNone d
    patient p (doing.Watching k) is = is
    patient p _ is = tt

-- nothing is spoiled in it
unspoiled-at : (q : Queue) (k : ℕ) (cell : CoreCell) (s : CoreState) → IsSoundAt q k cell s
    → spoiled_of k s cell.owner cell.collected ≡ None
unspoiled-at q k cell state.Broken sound = absurd sound
unspoiled-at q k cell _ sound = refl

unspoiled : (q : Queue) → IsSound q → spoiled q ≡ []
unspoiled q sound = none-picked is_spoiled 0 q.cells
    (λ i m cell at got. let here : m ≡ i = omega arith in
    unspoiled-at q m cell cell.state (rw here (sound.cells.at i cell got)))

pub either-core : (s : Shape) → IsCore s → IsEitherCore s
either-core s core =
    let u : IsUnbroken s.queue = sound-unbroken s.queue core.sound in
    let none : spoiled s.queue ≡ [] = unspoiled s.queue core.sound in
    let none_early : early s.queue ≡ 0 = ap (early_of s.queue.suspends) none in
    record {
      plain = λ is. u;
      range = core.range;
      sound = subst (λ (q : Queue). IsSound q) (sym (plain-read s.queue u)) core.sound;
      covered = subst (λ (q : Queue). IsCovered q) (sym (plain-read s.queue u)) core.covered;
      loaded = core.loaded;
      holders = core.holders;
      legal = core.legal;
      object = core.object ∙ ap (λ bs. record (shown_semaphore s) { spoiled = bs }) (sym none);
      short = omega (arith, core.short, none_early);
      conserved = core.conserved;
    }

pub plain-core : (s : Shape) → IsEitherCore s → s.sync ≡ false → IsCore s
plain-core s core is =
    let u : IsUnbroken s.queue = core.plain is in
    let sound : IsSound s.queue = subst (λ (q : Queue). IsSound q) (plain-read s.queue u) core.sound in
    let none : spoiled s.queue ≡ [] = unspoiled s.queue sound in
    let none_early : early s.queue ≡ 0 = ap (early_of s.queue.suspends) none in
    record {
      plain = is;
      range = core.range;
      sound = sound;
      covered = subst (λ (q : Queue). IsCovered q) (plain-read s.queue u) core.covered;
      loaded = core.loaded;
      holders = core.holders;
      legal = core.legal;
      object = core.object ∙ ap (λ bs. record (shown_semaphore s) { spoiled = bs }) none;
      short = omega (arith, core.short, none_early);
      conserved = core.conserved;
    }

-- each row keeps it, by the law of every core
pub rows-keep-plain : (s : Shape) (e : Event) → IsCore s → Keeps IsCore (step s e)
rows-keep-plain s e core = record {
  at = λ t is.
      let both = (rows-keep s e (either-core s core)).at t is in
      plain-core t.shape both.0 (both.1 ∙ core.plain);
}
