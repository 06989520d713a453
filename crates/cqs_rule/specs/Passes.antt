-- What contracts see of a queue and of a pass.
use Rattle.std.specs.Prelude.{◌≡◌, ℕ, ◌+◌, ◌*◌, ◌/◌, ◌<◌, nat_le, true, Bool, if◌then◌else◌}
use mathlib.Core.Logic.{◌↔◌}
use Rattle.cqs_rule_laws.specs.declared.client.ClientWords.{Ghosts}
use Rattle.cqs_rule_laws.specs.declared.config.CancelMode.{CancelMode}
use Rattle.cqs_rule_laws.specs.declared.config.Config.{Config}
use Rattle.cqs_rule_laws.specs.declared.config.Place.{Place}
use Rattle.cqs_rule_laws.specs.declared.view.View.{View}
use Rattle.cqs_rule_laws.specs.Alone.{TellsAlone}
use Rattle.cqs_rule_laws.specs.Ample.{AreEnough}
use Rattle.cqs_rule_laws.specs.Ruled.{cell_count}
use Rattle.cqs_rule_laws.specs.Saw.{IsLive}
use Rattle.cqs_rule.specs.declared.queue.Pass.{Pass}
use Rattle.cqs_rule.specs.declared.queue.Queue.{Queue}

-- how many segments are made as a table opens: all that can be wanted, where the slots are enough,
-- or else those of the values and of the first numbers
abbrev pub made_at_first : Config → ℕ → ℕ
made_at_first config values =
    let cells = cell_count config.passes config.limit values in
    (if nat_le (cells / 32 + 2 * config.passes + 2) config.slots then cells else values) / 32 + 1

module _ {C S E : Type 0} where
  -- the client that the queue was made with
  abbrev pub client_of : Queue C S E → C
  client_of q = q.table.shared.key.client

  -- how many passes may be made in all
  abbrev pub passes_of : Queue C S E → ℕ
  passes_of q = q.table.shared.key.passes

  -- what a resume does with a cell whose waiter has left
  abbrev pub mode_of : Queue C S E → CancelMode
  mode_of q = q.mode

  -- how many value slots its table has
  abbrev pub slots_of : Queue C S E → ℕ
  slots_of q = q.table.shared.table_id.slots

  -- the suspend counter stays below this but for those that have seen it there
  abbrev pub limit_of : Queue C S E → ℕ
  limit_of q = q.limit

  -- how often a resume that watches looks at what it left, before it breaks the cell
  abbrev pub looks_of : Queue C S E → ℕ
  looks_of q = q.looks

  -- whether its slots are enough for all segments that can be wanted
  abbrev pub ample_of : Queue C S E → Bool
  ample_of q = q.ample

  -- the place is that of a word of its table
  abbrev pub IsInTable : Queue C S E → Place → Type 0
  IsInTable q at = at.word < q.table.shared.table_id.words

module _ {C S E : Type 0} {g : Ghosts C S E} where
  -- what a pass has seen and is doing
  abbrev pub pass_view : Pass C S E g → View E S
  pass_view p = p.seat.me.0

  -- the pass is one of this queue
  pub record IsOf (q : Queue C S E) (p : Pass C S E g) : Type 0 where
    pub table : p.seat.table_id ≡ q.table.shared.table_id
    pub slots : q.table.shared.table_id.slots ≡ g.value_slots q.table.shared.key.client
    pub passes : p.seat.me.0.passes ≡ q.table.shared.key.passes
    pub limit : p.seat.me.0.limit ≡ q.limit
    pub cells : p.seat.me.0.cells ≡ cell_count q.table.shared.key.passes q.limit
        (g.primitive q.table.shared.key.client).values
    pub mode : (g.primitive q.table.shared.key.client).opening.mode ≡ q.mode
    pub ample : (q.ample ≡ true) ↔ AreEnough (cell_count q.table.shared.key.passes q.limit
        (g.primitive q.table.shared.key.client).values) q.table.shared.key.passes q.segment_slots
    pub live : IsLive g.object p.seat.me.0
    pub opening : p.seat.me.0.opening ≡ (g.primitive q.table.shared.key.client).opening
    pub looks : (g.primitive q.table.shared.key.client).opening.looks ≡ q.looks
    pub alone : TellsAlone g.primitive p.seat.me.0
