-- What an entry says is a line.
use Rattle.std.specs.Prelude.{codes, refl}
use Rattle.cqs_core.specs.declared.entries.Entry.{Entry}
use Rattle.cqs_core.specs.declared.entries.Entry.TheVariants as entry
use Rattle.cqs_lines.specs.Said.{IsLine}
use Rattle.cqs_lines.proofs.Verbs.{line-one, line-wait, line-two}
use Rattle.cqs_replay.specs.EntryLines.{entry_says, IsEntry}

pub entry_is_line : (e : Entry) → IsEntry e → IsLine (entry_says e)
entry_is_line (entry.TakeNow p) fit = line-one (codes "takenow") p refl refl fit
entry_is_line (entry.TakeDoor p) fit = line-one (codes "takedoor") p refl refl fit
entry_is_line (entry.Enter p k) fit = line-two (codes "enter") p k refl refl fit.0 fit.1
entry_is_line (entry.TryGot p) fit = line-one (codes "trygot") p refl refl fit
entry_is_line (entry.TryBusy p) fit = line-one (codes "trybusy") p refl refl fit
entry_is_line (entry.GiveFreed p) fit = line-one (codes "givefreed") p refl refl fit
entry_is_line (entry.GiveSent p) fit = line-one (codes "givesent") p refl refl fit
entry_is_line (entry.Deliver k) fit = line-wait (codes "deliver") k refl refl fit
entry_is_line (entry.Spoil p k) fit = line-two (codes "spoil") p k refl refl fit.0 fit.1
entry_is_line (entry.Undo p k) fit = line-two (codes "undo") p k refl refl fit.0 fit.1
entry_is_line (entry.Leave p k) fit = line-two (codes "leave") p k refl refl fit.0 fit.1
entry_is_line (entry.Late p k) fit = line-two (codes "late") p k refl refl fit.0 fit.1
entry_is_line (entry.LookGranted p k) fit = line-two (codes "granted") p k refl refl fit.0 fit.1
entry_is_line (entry.LookPending p k) fit = line-two (codes "pending") p k refl refl fit.0 fit.1
