-- The steps on a latch's words keep what it shows.
use Rattle.std.proofs.Common.{◌≡◌, ◌⊎◌, inl, inr, ℕ, ◌+◌, ◌-◌, ◌<◌, ◌≤◌, ℤ, pos, ◌≤ℤ◌, ◌<ℤ◌, ◌-ℤ◌, ◌+ℤ◌, int_le, Bool, true, false, not, List, [], ◌∷◌, ◌++◌, Some, length, set, slice_get, get_or, sum, refl, ap, sym, ◌∙◌, subst, arith, append-nil}
use Rattle.std.specs.List.{count_by}
use Rattle.std.proofs.lemmas.Bool.{cases_Bool, both_ways}
use Rattle.std.proofs.lemmas.Int.{ints}
use Rattle.std.proofs.lemmas.List.{length-set, set-set}
use Rattle.std.proofs.lemmas.List.Sums.{sum_by-set, get_or-le-sum_by}
use Rattle.cqs_core.specs.declared.doings.Doing.{Doing}
use Rattle.cqs_core.specs.declared.doings.Doing.TheVariants as doing
use Rattle.cqs_core.specs.QueueState.{Queue, is_ticket, is_leaving}
use Rattle.cqs_core.specs.QueueWaiters as waiters
use Rattle.cqs_core.specs.QueueLine.{going, ending, due, is_resuming, is_told_refused, at_door}
use Rattle.cqs_core.specs.QueueMoves as move
use Rattle.cqs_core.specs.QueueMoves.{move_queue, now_doing}
use Rattle.cqs_core.proofs.Counts.{bit, count_by-write}
use Rattle.cqs_core.proofs.Histories.{object-push, legal-push}
use Rattle.cqs_core.proofs.HiddenMoves.{keeps-turn, keeps-due}
use Rattle.cqs_core.proofs.LineMoves.{ComesToDoor, turn-door}
use Rattle.cqs_core.proofs.Places.{get-set_here, set-same}
use Rattle.cqs_core.proofs.QueueBegins.{quiet-keeps}
use Rattle.cqs_core.proofs.Sound.{sound-moved}
use Rattle.cqs_latch_object.specs.declared.entries.LatchEntry.{LatchEntry}
use Rattle.cqs_latch_object.specs.declared.entries.LatchEntry.TheVariants as entry
use Rattle.cqs_latch_object.specs.LatchObject.{opening}
use Rattle.cqs_latch_object.specs.LatchEntries.{IsAllowed, after_entry, object_after, IsLegal}
use Rattle.cqs_latch_object.specs.LatchShown.{LatchShape, left_of, holes, holes_shown, way_shown, shown_latch, is_opening, has_loaded, one_where, IsLatch}
use Rattle.cqs_latch_object.specs.LatchWords.{WordStep, loads_to_count, counts_down, loads_to_wait, comes, turns_back, opens, leaves, IsOpenWord, after_word_step, is_used, is_last, loaded_entries, loaded_doing, counted_entry, counted_doing, come_entry, come_doing}
use Rattle.cqs_latch_object.proofs.Counting.{above-not, used-none, used-yes, used-less, used-still, used-below, less-high, down-more, down-some, down-above, down-still, one-where_le, one-used, same-count, floor-same, floor-above, fewer-loaded, floor-takes, floor-leaves}
use Rattle.cqs_latch_object.proofs.Holes.{length-holes, holes-turn}
use Rattle.cqs_latch_object.proofs.LatchFrame.{same-latch, shown-holes, owes-there, push-latch, latch_of, ways-quiet}
use Rattle.cqs_latch_object.proofs.LatchResumes.{same-way}
use Rattle.cqs_latch_object.proofs.LatchLeaves.{latch-refused, latch-let_go}
use Rattle.cqs_latch_object.proofs.Places.{few-wait}

-- a pass comes to the door that neither stood there nor resumed
tries-door : (q : Queue) (p : ℕ) (v : ℤ) → slice_get q.doing p ≡ Some (doing.TryAt v)
    → ComesToDoor q (now_doing q p doing.Door) p
tries-door q p v does =
    let idle : Queue = now_doing q p doing.Idle in
    let keeps = keeps-turn q p (doing.TryAt v) doing.Idle does refl (λ m. refl) (λ m. refl) refl refl in
    let came = turn-door idle p (get-set_here q.doing p (doing.TryAt v) doing.Idle does) in
    subst (λ (r : Queue). ComesToDoor q r p)
    (λ i. record {
      suspends = q.suspends;
      resumes = q.resumes;
      cells = q.cells;
      doing = set-set q.doing p doing.Idle doing.Door i;
    })
    (record {
      waiters = came.waiters ∙ ap (λ w. waiters.comes w p) keeps.waiters;
      due = omega (arith, came.due, keeps-due q idle 0 keeps);
      going = omega (arith, came.going, keeps.going);
      ending = omega (arith, came.ending, keeps.ending);
    })

-- a turn that the queue doesn't see
record IsClearTurn (before after : Doing) : Type 0 where
  from : move.IsClear before
  to : move.IsLight after
  doors : (p : ℕ) → at_door p before ≡ at_door p after
  leaves : (m : ℕ) → is_leaving m (Some after) ≡ is_leaving m (Some before)
  tickets : (m : ℕ) → is_ticket m after ≡ is_ticket m before
  resumes : is_resuming before ≡ is_resuming after
  tells : is_told_refused before ≡ is_told_refused after

idle-tries : (v : ℤ) → IsClearTurn doing.Idle (doing.TryAt v)
idle-tries v = record {
  from = tt;
  to = tt;
  doors = λ p. refl;
  leaves = λ m. refl;
  tickets = λ m. refl;
  resumes = refl;
  tells = refl;
}

tries-idle : (v : ℤ) → IsClearTurn (doing.TryAt v) doing.Idle
tries-idle v = record {
  from = tt;
  to = tt;
  doors = λ p. refl;
  leaves = λ m. refl;
  tickets = λ m. refl;
  resumes = refl;
  tells = refl;
}

tries-tries : (v w : ℤ) → IsClearTurn (doing.TryAt v) (doing.TryAt w)
tries-tries v w = record {
  from = tt;
  to = tt;
  doors = λ p. refl;
  leaves = λ m. refl;
  tickets = λ m. refl;
  resumes = refl;
  tells = refl;
}

module _ (s : LatchShape) (p : ℕ) (is : IsLatch s) where
  -- the queue in which the pass goes on so
  abbrev now : Doing → Queue
  now d = now_doing s.queue p d

  still-long : (d : Doing) → length (now d).doing ≡ length s.queue.doing
  still-long d = length-set s.queue.doing p d

  -- one entry more after the history
  pushed : (e : LatchEntry) → IsAllowed (shown_latch s) e → IsLegal s.simple s.size (s.history ++ e ∷ [])
  pushed e allowed =
      legal-push IsAllowed after_entry (opening s.simple s.size) s.history e
      (subst (λ o. IsAllowed o e) (sym is.object) allowed) is.legal

  object-then : (e : LatchEntry) → object_after s.simple s.size (s.history ++ e ∷ []) ≡ after_entry (shown_latch s) e
  object-then e =
      object-push IsAllowed after_entry (opening s.simple s.size) s.history e ∙ ap (λ o. after_entry o e) is.object

  -- a pass turns that opens nothing and stands at no door, and the count becomes this
  turned : (from to : Doing) (count : ℤ) (word : ℕ) (history : List LatchEntry) → slice_get s.queue.doing p ≡ Some from
      → IsClearTurn from to → IsLegal s.simple s.size history
      → object_after s.simple s.size history ≡ record (shown_latch s) { count = left_of count }
      → (s.done ≡ false → (word ≡ s.word) × (count_by is_opening (now to).doing ≡ one_where (int_le count (pos 0))))
      → (s.done ≡ true → (count ≤ℤ pos 0) × (count_by is_opening (now to).doing ≡ 0) × (s.word ≤ word)
      × (word + count_by has_loaded (now to).doing ≤ s.word + count_by has_loaded s.queue.doing))
      → pos (count_by has_loaded (now to).doing) <ℤ (count +ℤ pos (length (now to).doing))
      → count ≤ℤ pos s.size
      → IsLatch (latch_of s count word s.done s.owed history (now to))
  turned from to count word history does clear legal object shut_opener open_opener low high =
      let r : Queue = now to in
      let keeps =
      keeps-turn s.queue p from to does (clear.doors p) clear.leaves clear.tickets clear.resumes clear.tells in
      let quiet = quiet-keeps s.queue r s.owed 0 keeps in
      let told = same-count is_told_refused s.queue.doing p from to does clear.tells in
      record {
        sound = sound-moved s.queue (move.turn p from to) is.sound (does, clear.from, clear.to);
        legal = legal;
        object = object
            ∙ same-latch refl refl refl (ways-quiet s.simple s.queue r s.owed s.owed 0 quiet (λ simple. refl))
            (sym quiet.waiters)
            (sym (shown-holes s.simple s.queue r (holes-turn s.queue p from to does clear.tickets)));
        owners = is.owners ∙ sym (still-long to);
        shut = λ shut. let was = is.shut shut in record {
          resumes = was.resumes;
          none = omega (arith, was.none, quiet.total);
          counted = omega (arith, (shut_opener shut).0, was.counted, quiet.due, quiet.ending);
          kept = λ smart. omega (arith, was.kept smart, quiet.ending);
          opener = (shut_opener shut).1;
        };
        opened = λ open_now. let was = is.opened open_now in let told_open = open_opener open_now in record {
          used = told_open.0;
          ways = omega (arith, was.ways, quiet.total, quiet.ending, quiet.due);
          enough = λ smart. omega (arith, was.enough smart, quiet.due, told_open.2);
          few = omega (arith, was.few, told_open.3, still-long to);
          opener = told_open.1;
        };
        fit = record { plain = λ simple. told ∙ is.fit.plain simple; low = low; high = high };
      }

  -- the pass loads the count as above 0
  load-above : slice_get s.queue.doing p ≡ Some doing.Idle → pos 0 <ℤ s.count
      → IsLatch (record s { queue = now (doing.TryAt s.count) })
  load-above does above =
      let none : is_opening (doing.TryAt s.count) ≡ false = above-not s.count above in
      let same : count_by is_opening (now (doing.TryAt s.count)).doing ≡ count_by is_opening s.queue.doing =
      same-count is_opening s.queue.doing p doing.Idle (doing.TryAt s.count) does (sym none) in
      turned doing.Idle (doing.TryAt s.count) s.count s.word s.history does (idle-tries s.count) is.legal is.object
      (λ shut. (refl, same ∙ (is.shut shut).opener))
      (λ done. absurd (let used = (is.opened done).used in omega (arith, ints)))
      (floor-above s.count (now (doing.TryAt s.count)).doing above) is.fit.high

  -- an entry by which nothing changes
  unchanged : (e : LatchEntry) → IsAllowed (shown_latch s) e → after_entry (shown_latch s) e ≡ shown_latch s
      → IsLatch (record s { history = s.history ++ e ∷ [] })
  unchanged e allowed same =
      push-latch s s.count s.word s.done s.owed s.queue e is is.sound allowed same is.owners
      (λ shut. let was = is.shut shut in record {
        resumes = was.resumes;
        none = was.none;
        counted = was.counted;
        kept = was.kept;
        opener = was.opener;
      })
      (λ open_now. let was = is.opened open_now in record {
        used = was.used;
        ways = was.ways;
        enough = was.enough;
        few = was.few;
        opener = was.opener;
      })
      is.fit

  -- The steps of a pass that has loaded the count as above 0.
  module _ (v : ℤ) (does : slice_get s.queue.doing p ≡ Some (doing.TryAt v)) (above : pos 0 <ℤ v) where
    no-opener : is_opening (doing.TryAt v) ≡ false
    no-opener = above-not v above

    had-loaded : has_loaded (doing.TryAt v) ≡ true
    had-loaded = ap not no-opener

    -- who is to open it stays
    same-opener : (to : Doing) → is_opening to ≡ false
        → count_by is_opening (now to).doing ≡ count_by is_opening s.queue.doing
    same-opener to none = same-count is_opening s.queue.doing p (doing.TryAt v) to does (no-opener ∙ sym none)

    -- it takes one, and some are left
    count-left : pos 1 <ℤ s.count
        → IsLatch (latch_of s (s.count -ℤ pos 1) s.word s.done s.owed
        (s.history ++ entry.DownLeft p (left_of (s.count -ℤ pos 1)) ∷ []) (now doing.Idle))
    count-left many =
        let left : ℕ = left_of (s.count -ℤ pos 1) in
        turned (doing.TryAt v) doing.Idle (s.count -ℤ pos 1) s.word (s.history ++ entry.DownLeft p left ∷ []) does
        (tries-idle v) (pushed (entry.DownLeft p left) (down-more s.count many, down-some s.count many))
        (object-then (entry.DownLeft p left))
        (λ shut. (
          refl,
          same-opener doing.Idle refl ∙ (is.shut shut).opener
              ∙ ap one_where (down-above s.count many ∙ sym (down-still s.count many)),
        ))
        (λ done. absurd (let used = (is.opened done).used in omega (arith, ints)))
        (floor-takes s.count (s.count -ℤ pos 1) s.queue.doing p v doing.Idle does had-loaded refl refl is.fit.low)
        (less-high s.count (pos s.size) is.fit.high)

    -- it takes the last one: this pass is to open the latch
    count-last : s.count ≡ pos 1
        → IsLatch (latch_of s (s.count -ℤ pos 1) s.word s.done s.owed (s.history ++ entry.DownLast p ∷ [])
        (now (doing.TryAt (pos 0))))
    count-last one =
        let to : Doing = doing.TryAt (pos 0) in
        let write = count_by-write is_opening s.queue.doing p (doing.TryAt v) to does in
        let before : bit (is_opening (doing.TryAt v)) ≡ 0 = ap bit no-opener in
        let gone : s.count -ℤ pos 1 ≡ pos 0 = ap (λ z. z -ℤ pos 1) one in
        let used : one_where (int_le (s.count -ℤ pos 1) (pos 0)) ≡ 1 = rw gone refl in
        turned (doing.TryAt v) to (s.count -ℤ pos 1) s.word (s.history ++ entry.DownLast p ∷ []) does
        (tries-tries v (pos 0)) (pushed (entry.DownLast p) (ap left_of one))
        (object-then (entry.DownLast p) ∙ same-latch refl (sym (ap left_of gone)) refl refl refl refl)
        (λ shut. let was : count_by is_opening s.queue.doing ≡ one_where (int_le s.count (pos 0)) =
        (is.shut shut).opener in
        let zero : one_where (int_le s.count (pos 0)) ≡ 0 = rw one refl in
        (refl, omega arith))
        (λ done. absurd (let used = (is.opened done).used in omega (arith, ints, one)))
        (floor-takes s.count (s.count -ℤ pos 1) s.queue.doing p v to does had-loaded refl refl is.fit.low)
        (less-high s.count (pos s.size) is.fit.high)

    -- what the latch that is open needs of a pass that goes on to be idle
    open-idle : (count : ℤ) → s.done ≡ true → count ≤ℤ pos 0
        → (count ≤ℤ pos 0) × (count_by is_opening (now doing.Idle).doing ≡ 0) × (s.word ≤ s.word)
        × (s.word + count_by has_loaded (now doing.Idle).doing ≤ s.word + count_by has_loaded s.queue.doing)
    open-idle count done used =
        let fewer = fewer-loaded s.queue.doing p v doing.Idle does had-loaded refl in
        (used, same-opener doing.Idle refl ∙ (is.opened done).opener, omega arith, omega arith)

    -- it was used up between
    count-already : s.count ≤ℤ pos 0
        → IsLatch (latch_of s (s.count -ℤ pos 1) s.word s.done s.owed (s.history ++ entry.DownAlready p ∷ [])
        (now doing.Idle))
    count-already used =
        let zero : left_of s.count ≡ 0 = used-none s.count used in
        let still : left_of (s.count -ℤ pos 1) ≡ 0 = used-less s.count used in
        turned (doing.TryAt v) doing.Idle (s.count -ℤ pos 1) s.word (s.history ++ entry.DownAlready p ∷ []) does
        (tries-idle v) (pushed (entry.DownAlready p) zero)
        (object-then (entry.DownAlready p) ∙ same-latch refl (zero ∙ sym still) refl refl refl refl)
        (λ shut. (
          refl,
          same-opener doing.Idle refl ∙ (is.shut shut).opener
              ∙ ap one_where (used-yes s.count used ∙ sym (used-still s.count used)),
        ))
        (λ done. open-idle (s.count -ℤ pos 1) done (used-below s.count used))
        (floor-takes s.count (s.count -ℤ pos 1) s.queue.doing p v doing.Idle does had-loaded refl refl is.fit.low)
        (less-high s.count (pos s.size) is.fit.high)

    -- it takes none
    turn-back : IsLatch (record s { queue = now doing.Idle })
    turn-back =
        turned (doing.TryAt v) doing.Idle s.count s.word s.history does (tries-idle v) is.legal is.object
        (λ shut. (refl, same-opener doing.Idle refl ∙ (is.shut shut).opener))
        (λ done. open-idle s.count done (is.opened done).used)
        (floor-leaves s.count s.queue.doing p v doing.Idle does had-loaded refl is.fit.low) is.fit.high

    -- it came to wait, and found the latch open
    come-late : s.done ≡ true
        → IsLatch (latch_of s s.count (s.word + 1) s.done s.owed (s.history ++ entry.Passed p ∷ []) (now doing.Idle))
    come-late done =
        let used = (is.opened done).used in
        let fewer = fewer-loaded s.queue.doing p v doing.Idle does had-loaded refl in
        let rest = open-idle s.count done used in
        turned (doing.TryAt v) doing.Idle s.count (s.word + 1) (s.history ++ entry.Passed p ∷ []) does (tries-idle v)
        (pushed (entry.Passed p) (used-none s.count used)) (object-then (entry.Passed p))
        (λ shut. absurd (both_ways s.done shut done))
        (λ again. (used, rest.1, omega arith, omega arith))
        (floor-leaves s.count s.queue.doing p v doing.Idle does had-loaded refl is.fit.low) is.fit.high

    -- it came to wait, and is at the door
    come-door : s.done ≡ false
        → IsLatch (latch_of s s.count (s.word + 1) s.done s.owed (s.history ++ entry.AwaitDoor p ∷ []) (now doing.Door))
    come-door shut =
        let came = tries-door s.queue p v does in
        let was = is.shut shut in
        push-latch s s.count (s.word + 1) s.done s.owed (now doing.Door) (entry.AwaitDoor p) is
        (sound-moved s.queue (move.turn p (doing.TryAt v) doing.Door) is.sound (does, tt, tt)) shut
        (same-latch refl refl refl (same-way s.simple s.owed s.queue (now doing.Door) came.going came.ending)
        (sym came.waiters)
        (sym (shown-holes s.simple s.queue (now doing.Door)
        (holes-turn s.queue p (doing.TryAt v) doing.Door does (λ m. refl)))))
        (is.owners ∙ sym (still-long doing.Door))
        (λ again. record {
          resumes = was.resumes;
          none = omega (arith, was.none, came.going);
          counted = omega (arith, was.counted, came.due, came.ending);
          kept = λ smart. came.ending ∙ was.kept smart;
          opener = same-opener doing.Door refl ∙ was.opener;
        })
        (λ done. absurd (both_ways s.done shut done))
        (record {
          plain = λ simple. same-count is_told_refused s.queue.doing p (doing.TryAt v) doing.Door does refl
              ∙ is.fit.plain simple;
          low = floor-leaves s.count s.queue.doing p v doing.Door does had-loaded refl is.fit.low;
          high = is.fit.high;
        })

  -- The done bit is set: the latch is open, and this pass owes one resumption for each that the word counts.
  module _ (v : ℤ) (does : slice_get s.queue.doing p ≡ Some (doing.TryAt v)) (used : v ≤ℤ pos 0) where
    one-opener : bit (is_opening (doing.TryAt v)) ≡ 1
    one-opener = ap bit (used-yes v used)

    pub still-shut : s.done ≡ false
    still-shut =
        let write = count_by-write is_opening s.queue.doing p (doing.TryAt v) doing.Idle does in
        let one = one-opener in
        go (omega arith) (cases_Bool s.done)
      where
        go : 0 < count_by is_opening s.queue.doing → (s.done ≡ true) ⊎ (s.done ≡ false) → s.done ≡ false
        go some (inl done) = let none = (is.opened done).opener in absurd (omega arith)
        go some (inr shut) = shut

    none-loaded : has_loaded (doing.TryAt v) ≡ false
    none-loaded = ap not (used-yes v used)

    all-ways : (b : Bool) → b ≡ s.simple → (owed : List ℕ) (r : Queue) → going r + sum owed ≡ s.word
        → ending r ≡ ending s.queue → s.word ≡ due s.queue + ending s.queue
        → (s.simple ≡ false → ending s.queue ≡ 0)
        → due s.queue + length (holes_shown b s.queue) ≡ way_shown b (sum owed) r
    all-ways true at owed r total ends counted kept =
        let long : length (holes s.queue) ≡ ending s.queue = length-holes s.queue (is.fit.plain (sym at)) in
        omega (arith, total, counted, long)
    all-ways false at owed r total ends counted kept = omega (arith, total, counted, ends, kept (sym at))

    now-open :
        IsLatch (latch_of s s.count s.word true (set s.owed p s.word) (s.history ++ entry.Open p ∷ [])
        (now doing.Idle))
    now-open =
        let owed : List ℕ = set s.owed p s.word in
        let r : Queue = now doing.Idle in
        let write = count_by-write is_opening s.queue.doing p (doing.TryAt v) doing.Idle does in
        let was = is.shut still-shut in
        let all_used : s.count ≤ℤ pos 0 = one-used s.count (omega (arith, was.opener, one-opener)) in
        let keeps = keeps-turn s.queue p (doing.TryAt v) doing.Idle does refl (λ m. refl) (λ m. refl) refl refl in
        let quiet = quiet-keeps s.queue r s.owed 0 keeps in
        let there : p < length s.owed = owes-there s p (doing.TryAt v) is does in
        let more = sum_by-set (λ n. n) s.owed p s.word 0 there in
        let none : get_or s.owed p 0 ≤ sum s.owed = get_or-le-sum_by (λ n. n) s.owed p 0 there in
        let loaded = same-count has_loaded s.queue.doing p (doing.TryAt v) doing.Idle does none-loaded in
        let total : going r + sum owed ≡ s.word = omega (arith, keeps.going, was.none) in
        let ends : ending r ≡ ending s.queue = omega (arith, keeps.ending) in
        push-latch s s.count s.word true owed r (entry.Open p) is
        (sound-moved s.queue (move.turn p (doing.TryAt v) doing.Idle) is.sound (does, tt, tt))
        (used-none s.count all_used, still-shut)
        (same-latch refl refl refl (all-ways s.simple refl owed r total ends was.counted was.kept) (sym keeps.waiters)
        (sym (shown-holes s.simple s.queue r (holes-turn s.queue p (doing.TryAt v) doing.Idle does (λ m. refl)))))
        (length-set s.owed p s.word ∙ is.owners ∙ sym (still-long doing.Idle))
        (λ shut. absurd (cc))
        (λ again. record {
          used = all_used;
          ways = omega (arith, total, was.counted, quiet.due, ends);
          enough = λ smart. omega (arith, was.counted, quiet.due);
          few = omega (arith, few-wait s.queue is.sound was.resumes, was.counted, loaded, still-long doing.Idle);
          opener = omega (arith, write, one-opener, was.opener, one-where_le (int_le s.count (pos 0)));
        })
        (record {
          plain = λ simple. same-count is_told_refused s.queue.doing p (doing.TryAt v) doing.Idle does refl
              ∙ is.fit.plain simple;
          low = floor-same s.count s.queue.doing r.doing loaded (still-long doing.Idle) is.fit.low;
          high = is.fit.high;
        })

-- Each step of the table.

-- a step with no entry
no-entry : (P : List LatchEntry → Type 0) (log : List LatchEntry) → P log → P (log ++ [])
no-entry P log is = subst P (sym (append-nil log)) is

-- the three ranges of a count
data Range (z : ℤ) : Type 0 where
  used_up : z ≤ℤ pos 0 → Range z
  one_left : z ≡ pos 1 → Range z
  many_left : pos 1 <ℤ z → Range z

range : (z : ℤ) → Range z
range z = go (cases_Bool (is_used z)) (cases_Bool (is_last z))
  where
    le : is_used z ≡ true → z ≤ℤ pos 0
    le is = grind (arith, ints)

    one : is_used z ≡ false → is_last z ≡ true → z ≡ pos 1
    one some last = omega (arith, ints, some, last)

    many : is_last z ≡ false → pos 1 <ℤ z
    many isnt = grind (arith, ints)

    go : (is_used z ≡ true) ⊎ (is_used z ≡ false) → (is_last z ≡ true) ⊎ (is_last z ≡ false) → Range z
    go (inl used) last = used_up (le used)
    go (inr some) (inl last) = one_left (one some last)
    go (inr some) (inr more) = many_left (many more)

not-last : (z : ℤ) → pos 1 <ℤ z → is_last z ≡ false
not-last z many = grind (arith, ints)

module _ (s : LatchShape) (p : ℕ) (is : IsLatch s) where
  -- a load of the count, with its entry where that is used up
  loads : (e : LatchEntry) → slice_get s.queue.doing p ≡ Some doing.Idle
      → (left_of s.count ≡ 0 → IsAllowed (shown_latch s) e) → after_entry (shown_latch s) e ≡ shown_latch s
      → Range s.count
      → IsLatch (latch_of s s.count s.word s.done s.owed (s.history ++ loaded_entries e s.count)
      (now s p is (loaded_doing s.count)))
  loads e does allowed same (used_up used) =
      let test : is_used s.count ≡ true = used-yes s.count used in
      rw (test, set-same s.queue.doing p doing.Idle does) (unchanged s p is e (allowed (used-none s.count used)) same)
  loads e does allowed same (one_left one) =
      let test : is_used s.count ≡ false = rw one refl in
      let above : pos 0 <ℤ s.count = omega (arith, ints, one) in
      rw (test, append-nil s.history) (load-above s p is does above)
  loads e does allowed same (many_left many) =
      let test : is_used s.count ≡ false = down-above s.count many in
      let above : pos 0 <ℤ s.count = omega (arith, ints, many) in
      rw (test, append-nil s.history) (load-above s p is does above)

  counts : (v : ℤ) → slice_get s.queue.doing p ≡ Some (doing.TryAt v) → pos 0 <ℤ v → Range s.count
      → IsLatch (latch_of s (s.count -ℤ pos 1) s.word s.done s.owed (s.history ++ counted_entry p s.count ∷ [])
      (now s p is (counted_doing s.count)))
  counts v does above (used_up used) =
      let test : is_used s.count ≡ true = used-yes s.count used in rw test (count-already s p is v does above used)
  counts v does above (one_left one) =
      let test : is_used s.count ≡ false = rw one refl in
      let last : is_last s.count ≡ true = rw one refl in
      rw (test, last) (count-last s p is v does above one)
  counts v does above (many_left many) =
      let test : is_used s.count ≡ false = down-above s.count many in
      let last : is_last s.count ≡ false = not-last s.count many in
      rw (test, last) (count-left s p is v does above many)

  comes-so : (v : ℤ) → slice_get s.queue.doing p ≡ Some (doing.TryAt v) → pos 0 <ℤ v
      → (s.done ≡ true) ⊎ (s.done ≡ false)
      → IsLatch (latch_of s s.count (s.word + 1) s.done s.owed (s.history ++ come_entry p s.done ∷ [])
      (now s p is (come_doing s.done)))
  comes-so v does above (inl done) =
      subst (λ b. IsLatch (latch_of s s.count (s.word + 1) s.done s.owed (s.history ++ come_entry p b ∷ [])
      (now s p is (come_doing b)))) (sym done) (come-late s p is v does above done)
  comes-so v does above (inr shut) =
      subst (λ b. IsLatch (latch_of s s.count (s.word + 1) s.done s.owed (s.history ++ come_entry p b ∷ [])
      (now s p is (come_doing b)))) (sym shut) (come-door s p is v does above shut)

  leaves-so : (k : ℕ) → s.simple ≡ false → slice_get s.queue.doing p ≡ Some (doing.Leaving k)
      → (s.done ≡ true) ⊎ (s.done ≡ false)
      → IsLatch (latch_of s s.count (s.word - 1) s.done s.owed (s.history ++ entry.Leave p k ∷ [])
      (now s p is (doing.Decided k (not s.done))))
  leaves-so k smart does (inl done) =
      subst (λ b. IsLatch (latch_of s s.count (s.word - 1) s.done s.owed (s.history ++ entry.Leave p k ∷ [])
      (now s p is (doing.Decided k (not b))))) (sym done) (latch-refused s p k is smart does done)
  leaves-so k smart does (inr shut) =
      subst (λ b. IsLatch (latch_of s s.count (s.word - 1) s.done s.owed (s.history ++ entry.Leave p k ∷ [])
      (now s p is (doing.Decided k (not b))))) (sym shut) (latch-let_go s p k is smart does shut)

pub word-latch : (s : LatchShape) (w : WordStep) (p : ℕ) → IsLatch s → IsOpenWord s w p
    → IsLatch (after_word_step s w p)
word-latch s loads_to_count p is does = loads s p is (entry.DownAlready p) does (λ zero. zero) refl (range s.count)
word-latch s counts_down p is may = counts s p is may.0 may.1 may.2 (range s.count)
word-latch s loads_to_wait p is does = loads s p is (entry.Passed p) does (λ zero. zero) refl (range s.count)
word-latch s comes p is may = comes-so s p is may.0 may.1 may.2 (cases_Bool s.done)
word-latch s turns_back p is may =
    no-entry (λ log. IsLatch (record s { history = log; queue = now s p is doing.Idle })) s.history
    (turn-back s p is may.0 may.1 may.2)
word-latch s opens p is may = now-open s p is may.0 may.1 may.2
word-latch s (leaves k) p is may = leaves-so s p is k may.0 may.1 (cases_Bool s.done)
