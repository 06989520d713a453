-- Every step leaves a queue sound, with its broken cells read as unbroken: a step of any queue is the same step of the
-- reading, and one of a synchronous queue is a move of it, or none.
use Rattle.std.proofs.Common.{◌≡◌, ◌⊎◌, inl, inr, ⊎_elim, ℕ, ◌+◌, Bool, true, false, Option, Some, None, set, slice_get, refl, sym, ap, ◌∙◌, subst}
use Rattle.std.specs.Option.{option_map}
use Rattle.std.proofs.lemmas.List.{map-set}
use Rattle.std.proofs.lemmas.Option.{same_Some}
use Rattle.cqs_core.specs.declared.cells.CoreCell.{CoreCell}
use Rattle.cqs_core.specs.declared.cells.CoreState.{CoreState}
use Rattle.cqs_core.specs.declared.cells.CoreState.TheVariants as state
use Rattle.cqs_core.specs.declared.doings.Doing.TheVariants as doing
use Rattle.cqs_core.specs.QueueAsUnbroken.{as_unbroken, unbroken_cell, unbroken_state, unwatching, IsIntact}
use Rattle.cqs_core.specs.QueueState.{Queue}
use Rattle.cqs_core.specs.QueueMoves as move
use Rattle.cqs_core.specs.QueueMoves.{Move, Works, IsOpen, move_queue, now_doing, with_cell, at_state}
use Rattle.cqs_core.specs.QueueSound.{IsSound, IsOwn, IsUntaken}
use Rattle.cqs_core.specs.QueueStages as stage
use Rattle.cqs_core.specs.QueueStages.{Stage, doing_at, MayWork}
use Rattle.cqs_core.specs.QueueSteps as step
use Rattle.cqs_core.specs.QueueSteps.{QueueStep, SyncStep, StepRow, CellRow, at_counter, at_cell, Counter, to_suspend, to_resume, counter_of, after_count, state_made, collected_by, cell_after, row_of, IsOpenRow, IsOpenStep, row_after, queue_after}
use Rattle.cqs_core.proofs.OpenRows.{WhereOpen, where-open}
use Rattle.cqs_core.proofs.Places.{set-same}
use Rattle.cqs_core.proofs.QueueAsUnbroken.{get-map_any}
use Rattle.cqs_core.proofs.QueueRows.{stays-found}
use Rattle.cqs_core.proofs.QueueStepMoves.{sound-after}
use Rattle.cqs_core.proofs.Sound.{sound-moved}
use Rattle.cqs_core.proofs.StepFacts.{IsPlainStep}
use Rattle.cqs_core.proofs.UnbrokenMoves.{does-read, finds-read, works-read, owns-read, write-read, turn-read, drawn-read, reached-read, cell-sound}

-- STEPS OF ANY QUEUE.

abbrev pub WatchesNot : Stage → Type 0
WatchesNot stage.watching = ⊥
WatchesNot stage.idle = Unit {0}
WatchesNot stage.door = Unit {0}
WatchesNot stage.owes = Unit {0}
WatchesNot stage.drawn = Unit {0}
WatchesNot stage.ticket = Unit {0}
WatchesNot stage.leaving = Unit {0}
WatchesNot (stage.decided on) = Unit {0}

abbrev pub MakesIntact : Option CoreState → Type 0
MakesIntact None = Unit {0}
MakesIntact (Some s) = IsIntact s

-- a row in which no pass watches and no cell is broken
abbrev pub IsPlainRow : StepRow → Type 0
IsPlainRow (at_counter row) = WatchesNot row.works_at
IsPlainRow (at_cell row) =
    IsIntact row.finds × MakesIntact row.makes × WatchesNot row.works_at × WatchesNot row.goes_to

pub plain-row : (s : QueueStep) → IsPlainStep s → IsPlainRow (row_of s)
plain-row step.draws plain = tt
plain-row step.enters plain = tt
plain-row step.reaches plain = tt
plain-row step.begins plain = tt
plain-row step.puts plain = tt
plain-row step.installs plain = (tt, tt, tt, tt)
plain-row step.takes plain = (tt, tt, tt, tt)
plain-row step.serves plain = (tt, tt, tt, tt)
plain-row step.leaves plain = (tt, tt, tt, tt)
plain-row step.delegates plain = (tt, tt, tt, tt)
plain-row step.passes_over plain = (tt, tt, tt, tt)
plain-row step.ends_refused plain = (tt, tt, tt, tt)
plain-row step.ends_missed plain = (tt, tt, tt, tt)
plain-row step.starts_leaving plain = (tt, tt, tt, tt)
plain-row step.leaves_line plain = (tt, tt, tt, tt)
plain-row step.leaves_at_once plain = (tt, tt, tt, tt)
plain-row step.settles plain = (tt, tt, tt, tt)
plain-row step.settles_owing plain = (tt, tt, tt, tt)
plain-row step.refuses plain = (tt, tt, tt, tt)
plain-row step.refuses_value plain = (tt, tt, tt, tt)
plain-row (step.looks step.pends) plain = (tt, tt, tt, tt)
plain-row (step.looks step.grants) plain = (tt, tt, tt, tt)
plain-row (step.looks step.late) plain = (tt, tt, tt, tt)
plain-row (step.in_sync step.leaves_watched) plain = absurd plain
plain-row (step.in_sync step.sees_value) plain = absurd plain
plain-row (step.in_sync step.sees_taken) plain = absurd plain
plain-row (step.in_sync step.breaks) plain = absurd plain
plain-row (step.in_sync step.takes_watched) plain = absurd plain
plain-row (step.in_sync step.finds_broken) plain = absurd plain

pub unwatched : (at : Stage) (k : ℕ) → WatchesNot at → unwatching (doing_at at k) ≡ doing_at at k
unwatched stage.watching k none = absurd none
unwatched stage.idle k none = refl
unwatched stage.door k none = refl
unwatched stage.owes k none = refl
unwatched stage.drawn k none = refl
unwatched stage.ticket k none = refl
unwatched stage.leaving k none = refl
unwatched (stage.decided on) k none = refl

pub intact-read : (s : CoreState) (b : Bool) → IsIntact s → unbroken_state s b ≡ s
intact-read state.Broken b is = absurd is
intact-read state.Empty b is = refl
intact-read state.Waiter b is = refl
intact-read state.Value b is = refl
intact-read state.Taken b is = refl
intact-read state.Resumed b is = refl
intact-read state.Cancelling b is = refl
intact-read state.Delegated b is = refl
intact-read state.Cancelled b is = refl
intact-read state.Refused b is = refl

module _ (q : Queue) where
  abbrev v : Queue
  v = as_unbroken q

  work-read : (at : Stage) (p : ℕ) (found : CoreCell) → MayWork at p found → MayWork at p (unbroken_cell found)
  work-read stage.idle p found works = owns-read q p found works
  work-read stage.door p found works = tt
  work-read stage.owes p found works = tt
  work-read stage.drawn p found works = tt
  work-read stage.ticket p found works = tt
  work-read stage.watching p found works = tt
  work-read stage.leaving p found works = tt
  work-read (stage.decided on) p found works = tt

  does-plain : (at : Stage) (p k : ℕ) → WatchesNot at → slice_get q.doing p ≡ Some (doing_at at k)
      → slice_get v.doing p ≡ Some (doing_at at k)
  does-plain at p k none does = does-read q p (doing_at at k) does ∙ ap Some (unwatched at k none)

  -- a step is open in the reading, too
  pub open-read : (row : StepRow) (p k : ℕ) (found : Option CoreCell) → IsPlainRow row → IsOpenRow q row p k found
      → IsOpenRow v row p k (option_map unbroken_cell found)
  open-read (at_counter row) p k found plain (does, here, finds) = (
    does-plain row.works_at p k plain does,
    here ∙ counted row.counter,
    get-map_any unbroken_cell q.cells k found finds,
  )
    where
      counted : (c : Counter) → counter_of c q ≡ counter_of c v
      counted to_suspend = refl
      counted to_resume = refl
  open-read (at_cell row) p k (Some found) plain (w, works) = (
    record {
      does = does-plain row.works_at p k plain.2 w.does;
      finds = finds-read q k found w.finds;
      at = ap (λ t. unbroken_state t found.collected) w.at ∙ intact-read row.finds found.collected plain.0;
    },
    work-read row.works_at p found works,
  )
  open-read (at_cell row) p k None plain opens = absurd opens

  -- the cell that a step makes, as the reading has it
  after-cell : (row : CellRow) (found : CoreCell) → IsPlainRow (at_cell row) → found.state ≡ row.finds
      → cell_after row (unbroken_cell found) ≡ unbroken_cell (cell_after row found)
  after-cell row found plain at =
      ap (λ (s : CoreState). record {
        state = s;
        owner = found.owner;
        collected = collected_by row.collects found.collected;
      }) (by row.makes plain.1)
    where
      was : IsIntact found.state
      was = subst IsIntact (sym at) plain.0

      by : (m : Option CoreState) → MakesIntact m
          → state_made m (unbroken_state found.state found.collected)
          ≡ unbroken_state (state_made m found.state) (collected_by row.collects found.collected)
      by None tt = intact-read found.state found.collected was
          ∙ sym (intact-read found.state (collected_by row.collects found.collected) was)
      by (Some s) is = sym (intact-read s (collected_by row.collects found.collected) is)

  -- and it makes the same there
  pub after-read : (row : StepRow) (p k : ℕ) (found : Option CoreCell) → IsPlainRow row → IsOpenRow q row p k found
      → row_after row v p k (option_map unbroken_cell found) ≡ as_unbroken (row_after row q p k found)
  after-read (at_counter row) p k found plain opens = by row.counter
    where
      by : (c : Counter) → after_count c v p k (option_map unbroken_cell found)
          ≡ as_unbroken (after_count c q p k found)
      by to_suspend = λ i. record {
        suspends = q.suspends + 1;
        resumes = q.resumes;
        cells = drawn-read q k p found i;
        doing = sym (map-set unwatching q.doing p (doing.Drawn k)) i;
      }
      by to_resume = λ i. record {
        suspends = q.suspends;
        resumes = q.resumes + 1;
        cells = reached-read q found i;
        doing = sym (map-set unwatching q.doing p (doing.Ticket k)) i;
      }
  after-read (at_cell row) p k (Some found) plain (w, works) = λ i. record {
    suspends = q.suspends;
    resumes = q.resumes;
    cells = (ap (set v.cells k) (after-cell row found plain w.at)
        ∙ sym (map-set unbroken_cell q.cells k (cell_after row found))) i;
    doing = (ap (set v.doing p) (sym (unwatched row.goes_to k plain.3))
        ∙ sym (map-set unwatching q.doing p (doing_at row.goes_to k))) i;
  }
  after-read (at_cell row) p k None plain opens = absurd opens

  sound-plain : (s : QueueStep) (p k : ℕ) (found : Option CoreCell) → IsPlainStep s → IsSound v
      → IsOpenStep q s p k found → IsSound (as_unbroken (queue_after s q p k found))
  sound-plain s p k found plain sound opens =
      subst IsSound (after-read (row_of s) p k found (plain-row s plain) opens)
      (sound-after v s p k (option_map unbroken_cell found) plain sound
      (open-read (row_of s) p k found (plain-row s plain) opens))

  -- STEPS OF A SYNCHRONOUS QUEUE.

  -- a step that the reading doesn't show
  sound-hidden : (r : Queue) → v ≡ as_unbroken r → IsSound v → IsSound (as_unbroken r)
  sound-hidden r same sound = subst IsSound same sound

  -- a step that is this move of the reading
  sound-read : (r : Queue) (m : Move) → IsOpen v m → move_queue v m ≡ as_unbroken r → IsSound v
      → IsSound (as_unbroken r)
  sound-read r m opens is sound = subst IsSound is (sound-moved v m sound opens)

  -- what a pass that watches no more does is nothing new in the reading
  pub watch-over : (p k : ℕ) → slice_get q.doing p ≡ Some (doing.Watching k)
      → v ≡ as_unbroken (now_doing q p doing.Idle)
  watch-over p k does =
      (λ i. record {
        suspends = q.suspends;
        resumes = q.resumes;
        cells = v.cells;
        doing = sym (set-same v.doing p doing.Idle (does-read q p (doing.Watching k) does)) i;
      })
      ∙ turn-read q p doing.Idle

  -- the value of a cell is uncollected
  pub value-uncollected : (k : ℕ) (found : CoreCell) → IsSound v → slice_get q.cells k ≡ Some found
      → found.state ≡ state.Value → found.collected ≡ false
  value-uncollected k found sound finds at =
      (cell-sound q sound k found state.Value finds (ap (λ s. unbroken_state s found.collected) at)).2

  -- a suspend that finds its cell broken is the first to touch it since
  pub broken-uncollected : (p k : ℕ) (found : CoreCell) → IsSound v → Works q p (doing.Drawn k) k found state.Broken
      → found.collected ≡ false
  broken-uncollected p k found sound w = by found.collected refl
    where
      own : IsOwn v p k IsUntaken
      own = sound.passes.at p (doing.Drawn k) (does-read q p (doing.Drawn k) w.does)

      same : own.cell ≡ unbroken_cell found
      same = same_Some own.cell (unbroken_cell found) (sym own.found ∙ finds-read q k found w.finds)

      reads : unbroken_state state.Broken found.collected ≡ own.cell.state
      reads = ap (λ s. unbroken_state s found.collected) (sym w.at) ∙ ap (λ (c : CoreCell). c.state) (sym same)

      by : (b : Bool) → found.collected ≡ b → found.collected ≡ false
      by false e = e
      by true e = absurd (subst IsUntaken (sym reads ∙ ap (unbroken_state state.Broken) e) own.at)

  breaks-alike : (p k : ℕ) (found : CoreCell) → IsSound v → Works q p (doing.Watching k) k found state.Value
      → v ≡ as_unbroken (now_doing (with_cell q k (at_state found state.Broken)) p doing.Idle)
  breaks-alike p k found sound w =
      (λ i. record {
        suspends = q.suspends;
        resumes = q.resumes;
        cells = sym (ap (set v.cells k) cell
            ∙ set-same v.cells k (unbroken_cell found) (finds-read q k found w.finds)) i;
        doing = sym (set-same v.doing p doing.Idle (does-read q p (doing.Watching k) w.does)) i;
      })
      ∙ write-read q p k (at_state found state.Broken) doing.Idle
    where
      uncollected : found.collected ≡ false
      uncollected = value-uncollected k found sound w.finds w.at

      states : unbroken_state state.Broken found.collected ≡ unbroken_state found.state found.collected
      states = ap (unbroken_state state.Broken) uncollected ∙ sym (ap (λ s. unbroken_state s found.collected) w.at)

      cell : unbroken_cell (at_state found state.Broken) ≡ unbroken_cell found
      cell = ap (λ (s : CoreState). record { state = s; owner = found.owner; collected = found.collected }) states

  pub finds-alike : (p k : ℕ) (found : CoreCell) → Works q p (doing.Drawn k) k found state.Broken
      → move_queue v (move.take_value p k (unbroken_cell found))
      ≡ as_unbroken (now_doing (with_cell q k
      (record { state = found.state; owner = found.owner; collected = true })) p doing.Idle)
  finds-alike p k found w =
      ap (λ (s : CoreState). now_doing (with_cell v k
      (record { state = s; owner = found.owner; collected = true })) p doing.Idle)
      (sym (ap (λ s. unbroken_state s true) w.at))
      ∙ write-read q p k (record { state = found.state; owner = found.owner; collected = true }) doing.Idle

  -- a pass that sees its value still there changes nothing
  pub value-still : (p k : ℕ) (found : CoreCell) → Works q p (doing.Watching k) k found state.Value
      → queue_after (step.in_sync step.sees_value) q p k (Some found) ≡ q
  value-still p k found w =
      stays-found q p k found (doing.Watching k) w.finds
      ∙ (λ i. record {
        suspends = q.suspends;
        resumes = q.resumes;
        cells = q.cells;
        doing = set-same q.doing p (doing.Watching k) w.does i;
      })

  sound-sync : (e : SyncStep) (p k : ℕ) (found : CoreCell) → IsSound v
      → IsOpenStep q (step.in_sync e) p k (Some found)
      → IsSound (as_unbroken (queue_after (step.in_sync e) q p k (Some found)))
  sound-sync step.leaves_watched p k found sound (w, works) =
      sound-read _ (move.leave_value p k (unbroken_cell found))
      (works-read q p (doing.Ticket k) k found state.Empty w refl)
      (write-read q p k (at_state found state.Value) (doing.Watching k)) sound
  sound-sync step.sees_value p k found sound (w, works) =
      sound-hidden _ (ap as_unbroken (sym (value-still p k found w))) sound
  sound-sync step.sees_taken p k found sound (w, works) =
      sound-hidden _ (watch-over p k w.does ∙ ap as_unbroken (sym (stays-found q p k found doing.Idle w.finds))) sound
  sound-sync step.breaks p k found sound (w, works) =
      sound-hidden _ (breaks-alike p k found sound w) sound
  sound-sync step.takes_watched p k found sound (w, works) =
      sound-read _ (move.take_value p k (unbroken_cell found))
      (works-read q p (doing.Drawn k) k found state.Value w refl)
      (write-read q p k (record { state = state.Taken; owner = found.owner; collected = true }) doing.Idle) sound
  sound-sync step.finds_broken p k found sound (w, works) =
      sound-read _ (move.take_value p k (unbroken_cell found))
      (record {
        does = does-read q p (doing.Drawn k) w.does;
        finds = finds-read q k found w.finds;
        at = ap (λ s. unbroken_state s found.collected) w.at
            ∙ ap (unbroken_state state.Broken) (broken-uncollected p k found sound w);
      })
      (finds-alike p k found w) sound

-- EACH STEP.

pub either-step : (s : QueueStep) → IsPlainStep s ⊎ ((e : SyncStep) × (s ≡ step.in_sync e))
either-step step.draws = inl tt
either-step step.enters = inl tt
either-step step.reaches = inl tt
either-step step.begins = inl tt
either-step step.puts = inl tt
either-step step.installs = inl tt
either-step step.takes = inl tt
either-step step.serves = inl tt
either-step step.leaves = inl tt
either-step step.delegates = inl tt
either-step step.passes_over = inl tt
either-step step.ends_refused = inl tt
either-step step.ends_missed = inl tt
either-step step.starts_leaving = inl tt
either-step step.leaves_line = inl tt
either-step step.leaves_at_once = inl tt
either-step step.settles = inl tt
either-step step.settles_owing = inl tt
either-step step.refuses = inl tt
either-step step.refuses_value = inl tt
either-step (step.looks step.pends) = inl tt
either-step (step.looks step.grants) = inl tt
either-step (step.looks step.late) = inl tt
either-step (step.in_sync e) = inr (e, refl)

sync-found : (q : Queue) (e : SyncStep) (p k : ℕ) (found : Option CoreCell) → IsSound (as_unbroken q)
    → IsOpenStep q (step.in_sync e) p k found → IsSound (as_unbroken (queue_after (step.in_sync e) q p k found))
sync-found q e p k found sound opens =
    where-open q p k (λ cell. IsSound (as_unbroken (queue_after (step.in_sync e) q p k cell)))
    (row_of (step.in_sync e)) (at-cell e) found opens
  where
    at-cell : (e : SyncStep) → WhereOpen q p k
        (λ cell. IsSound (as_unbroken (queue_after (step.in_sync e) q p k cell))) (row_of (step.in_sync e))
    at-cell step.leaves_watched = λ cell w. sound-sync q step.leaves_watched p k cell sound w
    at-cell step.sees_value = λ cell w. sound-sync q step.sees_value p k cell sound w
    at-cell step.sees_taken = λ cell w. sound-sync q step.sees_taken p k cell sound w
    at-cell step.breaks = λ cell w. sound-sync q step.breaks p k cell sound w
    at-cell step.takes_watched = λ cell w. sound-sync q step.takes_watched p k cell sound w
    at-cell step.finds_broken = λ cell w. sound-sync q step.finds_broken p k cell sound w

pub step-sound : (q : Queue) (s : QueueStep) (p k : ℕ) (found : Option CoreCell) → IsSound (as_unbroken q)
    → IsOpenStep q s p k found → IsSound (as_unbroken (queue_after s q p k found))
step-sound q s p k found sound opens = ⊎_elim
    (λ (plain : IsPlainStep s). sound-plain q s p k found plain sound opens)
    (λ (only : (e : SyncStep) × (s ≡ step.in_sync e)).
    subst (λ t. IsSound (as_unbroken (queue_after t q p k found))) (sym only.1)
    (sync-found q only.0 p k found sound (subst (λ t. IsOpenStep q t p k found) only.1 opens)))
    (either-step s)
