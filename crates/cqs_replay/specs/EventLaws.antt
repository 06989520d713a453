-- What an event says is a line.
use Rattle.std.specs.Prelude.{codes, refl}
use Rattle.cqs_core.specs.declared.events.Event.{Event}
use Rattle.cqs_core.specs.declared.events.Event.TheVariants as event
use Rattle.cqs_lines.specs.Said.{IsLine}
use Rattle.cqs_lines.proofs.Verbs.{line-one, line-two}
use Rattle.cqs_replay.specs.EventLines.{event_says, IsEvent}

pub event_is_line : (e : Event) → IsEvent e → IsLine (event_says e)
event_is_line (event.Take p) fit = line-one (codes "take") p refl refl fit
event_is_line (event.TryLoad p) fit = line-one (codes "tryload") p refl refl fit
event_is_line (event.TrySwap p) fit = line-one (codes "tryswap") p refl refl fit
event_is_line (event.Draw p) fit = line-one (codes "draw") p refl refl fit
event_is_line (event.Install p) fit = line-one (codes "install") p refl refl fit
event_is_line (event.Give p) fit = line-one (codes "give") p refl refl fit
event_is_line (event.Reach p) fit = line-one (codes "reach") p refl refl fit
event_is_line (event.Meet p) fit = line-one (codes "meet") p refl refl fit
event_is_line (event.See p) fit = line-one (codes "see") p refl refl fit
event_is_line (event.Break p) fit = line-one (codes "break") p refl refl fit
event_is_line (event.Leave p k) fit = line-two (codes "leave") p k refl refl fit.0 fit.1
event_is_line (event.Decide p) fit = line-one (codes "decide") p refl refl fit
event_is_line (event.Settle p) fit = line-one (codes "settle") p refl refl fit
event_is_line (event.Look p k) fit = line-two (codes "look") p k refl refl fit.0 fit.1
