-- Sources and sinks in memory: what they are, and exactly what one call does.
use Rattle.std.specs.Prelude.{◌≡◌, ℕ, ◌+◌, ◌-◌, ◌<◌, ◌⊎◌, min, Bool, true, false, ◌||◌, nat_lt, List, ◌++◌, length, take, drop, Option, Some, None, Result, Ok, Err, if◌then◌else◌}
use Rattle.cqs_cli_streams.specs.Script.{Script, IsFailing, with_call, after_fault}
use Rattle.cqs_cli_streams.specs.Tally.{after_call}
use Rattle.cqs_cli_streams.specs.declared.streams.failed.Failed.{Failed}
use Rattle.cqs_cli_streams.specs.declared.streams.tally.Tally.{Tally}

-- a source that never fails: the bytes that are left, the most that one read
-- gives, and what it counted
pub record PlainSource : Type 0 where
  pub left : List ℕ
  pub chunk : ℕ
  pub tally : Tally

-- a read is counted that gave so many bytes
abbrev pub with_read : PlainSource → ℕ → PlainSource
with_read source bytes = record source { tally = after_call source.tally bytes }

-- a read gives what is next, as much as there is and fits the buffer and one chunk
abbrev pub ReadsNext : PlainSource → List ℕ → ℕ → PlainSource → Type 0
ReadsNext old buffer count new =
    (count ≡ min (length buffer) (min old.chunk (length old.left)))
    × (take count buffer ≡ take count old.left)
    × (new ≡ with_read (record old { left = drop count old.left }) count)

-- it answers every read
abbrev pub ReadsSurely : PlainSource → List ℕ → Result ℕ Failed → PlainSource → Type 0
ReadsSurely old buffer (Ok count) new = ReadsNext old buffer count new
ReadsSurely old buffer (Err failed) new = ⊥

-- a source that fails by a script
pub record ScriptedSource : Type 0 where
  pub plain : PlainSource
  pub script : Script

-- it fails exactly where the script says so, and then gives nothing
abbrev pub ReadsByScript : ScriptedSource → List ℕ → Result ℕ Failed → ScriptedSource → Type 0
ReadsByScript old buffer (Ok count) new =
    (¬ IsFailing old.script) × ReadsNext old.plain buffer count new.plain
    × (new.script ≡ with_call old.script)
ReadsByScript old buffer (Err failed) new =
    IsFailing old.script
    × (new ≡ record old { plain = with_read old.plain 0; script = after_fault old.script })

-- a sink that never fails: what it keeps, for how much it has room, whether more came than that,
-- and what it counted
pub record PlainSink : Type 0 where
  pub kept : List ℕ
  pub room : ℕ
  pub is_over : Bool
  pub tally : Tally

-- what it holds, which it no longer tells once more came than it has room for
abbrev pub content : PlainSink → Option (List ℕ)
content sink = if sink.is_over then None else Some sink.kept

-- it takes every piece whole, and keeps as much as there is room for
abbrev pub WritesSurely : PlainSink → List ℕ → Result ℕ Failed → PlainSink → Type 0
WritesSurely old piece (Ok count) new =
    (count ≡ length piece)
    × (new.kept ≡ take old.room (old.kept ++ piece))
    × (new.is_over ≡ (old.is_over || nat_lt old.room (length old.kept + length piece)))
    × (new.room ≡ old.room)
WritesSurely old piece (Err failed) new = ⊥

-- and a flush changes nothing of that
abbrev pub FlushesSurely : PlainSink → Bool → PlainSink → Type 0
FlushesSurely old true new = new ≡ record old { tally = after_call old.tally 0 }
FlushesSurely old false new = ⊥

-- a sink that fails by a script, and when its room is used up: what it holds, the most that one
-- write takes, and what it counted
pub record ScriptedSink : Type 0 where
  pub held : List ℕ
  pub room : ℕ
  pub chunk : ℕ
  pub script : Script
  pub tally : Tally

-- after a call that failed, which takes nothing
abbrev pub after_failure : ScriptedSink → ScriptedSink
after_failure old =
    record old { script = after_fault old.script; tally = after_call old.tally 0 }

-- a write fails exactly where the script says so or no room is left, and then takes nothing
abbrev pub WritesByScript : ScriptedSink → List ℕ → Result ℕ Failed → ScriptedSink → Type 0
WritesByScript old piece (Ok count) new =
    (¬ IsFailing old.script) × (length old.held < old.room)
    × (count ≡ min (length piece) (min old.chunk (old.room - length old.held)))
    × (new ≡ record old {
      held = old.held ++ take count piece;
      script = with_call old.script;
      tally = after_call old.tally count;
    })
WritesByScript old piece (Err failed) new =
    (IsFailing old.script ⊎ (length old.held ≡ old.room)) × (new ≡ after_failure old)

-- a flush fails exactly where the script says so
abbrev pub FlushesByScript : ScriptedSink → Bool → ScriptedSink → Type 0
FlushesByScript old true new =
    (¬ IsFailing old.script)
    × (new ≡ record old { script = with_call old.script; tally = after_call old.tally 0 })
FlushesByScript old false new = IsFailing old.script × (new ≡ after_failure old)
