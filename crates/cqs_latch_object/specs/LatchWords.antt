-- The steps on a latch's words: who may make each, and what it makes of the latch. They are the
-- load of the count, one taken from it, one added to the waiters, the done bit set, and one taken
-- from the waiters.
use Rattle.std.specs.Prelude.{◌≡◌, ℕ, ◌+◌, ◌-◌, Bool, true, false, not, List, [], ◌∷◌, ◌++◌, Some, slice_get, slice_set, ℤ, pos, ◌<ℤ◌, ◌≤ℤ◌, ◌-ℤ◌, int_le, if◌then◌else◌}
use Rattle.cqs_core.specs.declared.doings.Doing.{Doing}
use Rattle.cqs_core.specs.declared.doings.Doing.TheVariants as doing
use Rattle.cqs_core.specs.QueueMoves.{now_doing}
use Rattle.cqs_latch_object.specs.declared.entries.LatchEntry.{LatchEntry}
use Rattle.cqs_latch_object.specs.declared.entries.LatchEntry.TheVariants as entry
use Rattle.cqs_latch_object.specs.LatchShown.{LatchShape, left_of, IsLatchCore}

pub data WordStep : Type 0 where
  -- a count down: it loads the count, and where that is above 0 it takes one from it
  loads_to_count : WordStep
  counts_down : WordStep
  -- a wait: it loads the count, and where that is above 0 it adds one to the waiters, or
  -- turns back
  loads_to_wait : WordStep
  comes : WordStep
  turns_back : WordStep
  -- who counted down the last one sets the done bit, and owes a resumption for each waiter
  -- that was counted
  opens : WordStep
  -- who leaves takes one from the waiters
  leaves : (wait : ℕ) → WordStep

-- the pass has loaded the count as above 0
abbrev pub HasLoaded : LatchShape → ℕ → Type 0
HasLoaded s p =
    (v : ℤ) × (slice_get s.queue.doing p ≡ Some (doing.TryAt v)) × (pos 0 <ℤ v)

-- the pass used the count up
abbrev pub IsToOpen : LatchShape → ℕ → Type 0
IsToOpen s p =
    (v : ℤ) × (slice_get s.queue.doing p ≡ Some (doing.TryAt v)) × (v ≤ℤ pos 0)

-- who may make it
abbrev pub IsOpenWord : LatchShape → WordStep → ℕ → Type 0
IsOpenWord s loads_to_count p = slice_get s.queue.doing p ≡ Some doing.Idle
IsOpenWord s counts_down p = HasLoaded s p
IsOpenWord s loads_to_wait p = slice_get s.queue.doing p ≡ Some doing.Idle
IsOpenWord s comes p = HasLoaded s p
IsOpenWord s turns_back p = HasLoaded s p
IsOpenWord s opens p = IsToOpen s p
IsOpenWord s (leaves k) p =
    (s.simple ≡ false) × (slice_get s.queue.doing p ≡ Some (doing.Leaving k))

-- the count is used up
abbrev pub is_used : ℤ → Bool
is_used count = int_le count (pos 0)

-- one is left at most
abbrev pub is_last : ℤ → Bool
is_last count = int_le count (pos 1)

-- a load of the count: this entry where it is used up, and none else
abbrev pub loaded_entries : LatchEntry → ℤ → List LatchEntry
loaded_entries e count = if is_used count then e ∷ [] else []

abbrev pub loaded_doing : ℤ → Doing
loaded_doing count = if is_used count then doing.Idle else doing.TryAt count

-- one is taken from the count
abbrev pub counted_entry : ℕ → ℤ → LatchEntry
counted_entry p count =
    if is_used count then entry.DownAlready p
    else if is_last count then entry.DownLast p
    else entry.DownLeft p (left_of (count -ℤ pos 1))

abbrev pub counted_doing : ℤ → Doing
counted_doing count =
    if is_used count then doing.Idle
    else if is_last count then doing.TryAt (pos 0)
    else doing.Idle

-- one is added to the waiters
abbrev pub come_entry : ℕ → Bool → LatchEntry
come_entry p done = if done then entry.Passed p else entry.AwaitDoor p

abbrev pub come_doing : Bool → Doing
come_doing done = if done then doing.Idle else doing.Door

-- the entries of a step
abbrev pub word_entries : LatchShape → WordStep → ℕ → List LatchEntry
word_entries s loads_to_count p = loaded_entries (entry.DownAlready p) s.count
word_entries s counts_down p = counted_entry p s.count ∷ []
word_entries s loads_to_wait p = loaded_entries (entry.Passed p) s.count
word_entries s comes p = come_entry p s.done ∷ []
word_entries s turns_back p = []
word_entries s opens p = entry.Open p ∷ []
word_entries s (leaves k) p = entry.Leave p k ∷ []

-- what the pass is at then; a canceller is told that it may go where the latch isn't open
abbrev pub word_doing : LatchShape → WordStep → Doing
word_doing s loads_to_count = loaded_doing s.count
word_doing s counts_down = counted_doing s.count
word_doing s loads_to_wait = loaded_doing s.count
word_doing s comes = come_doing s.done
word_doing s turns_back = doing.Idle
word_doing s opens = doing.Idle
word_doing s (leaves k) = doing.Decided k (not s.done)

abbrev pub count_after : WordStep → ℤ → ℤ
count_after counts_down count = count -ℤ pos 1
count_after loads_to_count count = count
count_after loads_to_wait count = count
count_after comes count = count
count_after turns_back count = count
count_after opens count = count
count_after (leaves k) count = count

abbrev pub word_after : WordStep → ℕ → ℕ
word_after comes word = word + 1
word_after (leaves k) word = word - 1
word_after loads_to_count word = word
word_after counts_down word = word
word_after loads_to_wait word = word
word_after turns_back word = word
word_after opens word = word

abbrev pub done_after : WordStep → Bool → Bool
done_after opens done = true
done_after loads_to_count done = done
done_after counts_down done = done
done_after loads_to_wait done = done
done_after comes done = done
done_after turns_back done = done
done_after (leaves k) done = done

abbrev pub owed_after : WordStep → ℕ → ℕ → List ℕ → List ℕ
owed_after opens p word owed = slice_set owed p word
owed_after loads_to_count p word owed = owed
owed_after counts_down p word owed = owed
owed_after loads_to_wait p word owed = owed
owed_after comes p word owed = owed
owed_after turns_back p word owed = owed
owed_after (leaves k) p word owed = owed

-- the latch after the step
abbrev pub after_word_step : LatchShape → WordStep → ℕ → LatchShape
after_word_step s w p = record {
  simple = s.simple;
  size = s.size;
  count = count_after w s.count;
  word = word_after w s.word;
  done = done_after w s.done;
  owed = owed_after w p s.word s.owed;
  history = s.history ++ word_entries s w p;
  queue = now_doing s.queue p (word_doing s w);
}

abbrev pub EveryWordStepKeepsTheLatch : Type 0
EveryWordStepKeepsTheLatch =
    (s : LatchShape) (w : WordStep) (p : ℕ) → IsLatchCore s → IsOpenWord s w p
    → IsLatchCore (after_word_step s w p)
