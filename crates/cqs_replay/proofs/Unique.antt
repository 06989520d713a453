-- A text is that of one schedule, and then no line of it is bad. An entry's line is that of one entry.
use Rattle.std.proofs.Common.{◌≡◌, inl, inr, ℕ, List, [], ◌∷◌, refl, sym, ap, ap₂, ◌∙◌, Option, Some, None, codes, if◌then◌else◌}
use Rattle.std.specs.Str.{bytes_eq}
use Rattle.cqs_core.specs.declared.entries.Entry.{Entry}
use Rattle.cqs_core.specs.declared.entries.Entry.TheVariants as entry
use Rattle.cqs_core.specs.declared.events.Event.{Event}
use Rattle.cqs_core.specs.declared.events.Event.TheVariants as event
use Rattle.cqs_lines.specs.Said.{Said, line_text}
use Rattle.cqs_lines.specs.Forms.{lines_text}
use Rattle.cqs_lines.specs.Headed.{IsHeaded}
use Rattle.cqs_lines.proofs.Unique.{headed-unique, headed-good}
use Rattle.cqs_replay.specs.declared.schedules.Schedule.{Schedule}
use Rattle.cqs_replay.specs.EntryLines.{entry_says}
use Rattle.cqs_replay.specs.EventLines.{event_says, IsEvent}
use Rattle.cqs_replay.specs.EventLaws.{event_is_line}
use Rattle.cqs_replay.specs.Schedules.{head_says, IsHead, head_of, IsSchedule, schedule_text, IsHeadless, IsFirstBadLine, IsSame}
use Rattle.cqs_replay.proofs.HeadLines.{head-is-line, heads-unique}

-- the event that a line says
with-pass : (ℕ → Event) → List ℕ → Option Event
with-pass made [] = None
with-pass made (p ∷ more) = Some (made p)

with-wait : (ℕ → ℕ → Event) → List ℕ → Option Event
with-wait made [] = None
with-wait made (p ∷ []) = None
with-wait made (p ∷ k ∷ more) = Some (made p k)

said-event : Said → Option Event
said-event s =
    if bytes_eq s.verb (codes "take") then with-pass event.Take s.numbers
    else if bytes_eq s.verb (codes "tryload") then with-pass event.TryLoad s.numbers
    else if bytes_eq s.verb (codes "tryswap") then with-pass event.TrySwap s.numbers
    else if bytes_eq s.verb (codes "draw") then with-pass event.Draw s.numbers
    else if bytes_eq s.verb (codes "install") then with-pass event.Install s.numbers
    else if bytes_eq s.verb (codes "give") then with-pass event.Give s.numbers
    else if bytes_eq s.verb (codes "reach") then with-pass event.Reach s.numbers
    else if bytes_eq s.verb (codes "meet") then with-pass event.Meet s.numbers
    else if bytes_eq s.verb (codes "see") then with-pass event.See s.numbers
    else if bytes_eq s.verb (codes "break") then with-pass event.Break s.numbers
    else if bytes_eq s.verb (codes "leave") then with-wait event.Leave s.numbers
    else if bytes_eq s.verb (codes "decide") then with-pass event.Decide s.numbers
    else if bytes_eq s.verb (codes "settle") then with-pass event.Settle s.numbers
    else with-wait event.Look s.numbers

said-says : (e : Event) → said-event (event_says e) ≡ Some e
unfolding said-event with-pass with-wait
said-says (event.Take p) = refl
said-says (event.TryLoad p) = refl
said-says (event.TrySwap p) = refl
said-says (event.Draw p) = refl
said-says (event.Install p) = refl
said-says (event.Give p) = refl
said-says (event.Reach p) = refl
said-says (event.Meet p) = refl
said-says (event.See p) = refl
said-says (event.Break p) = refl
said-says (event.Leave p k) = refl
said-says (event.Decide p) = refl
said-says (event.Settle p) = refl
said-says (event.Look p k) = refl

event-one : (e f : Event) → event_says e ≡ event_says f → e ≡ f
event-one e f same =
    let both : Some e ≡ Some f = sym (said-says e) ∙ ap said-event same ∙ said-says f in
    cc both

-- the same of an entry
with-caller : (ℕ → Entry) → List ℕ → Option Entry
with-caller made [] = None
with-caller made (p ∷ more) = Some (made p)

with-number : (ℕ → ℕ → Entry) → List ℕ → Option Entry
with-number made [] = None
with-number made (p ∷ []) = None
with-number made (p ∷ k ∷ more) = Some (made p k)

said-entry : Said → Option Entry
said-entry s =
    if bytes_eq s.verb (codes "takenow") then with-caller entry.TakeNow s.numbers
    else if bytes_eq s.verb (codes "takedoor") then with-caller entry.TakeDoor s.numbers
    else if bytes_eq s.verb (codes "enter") then with-number entry.Enter s.numbers
    else if bytes_eq s.verb (codes "trygot") then with-caller entry.TryGot s.numbers
    else if bytes_eq s.verb (codes "trybusy") then with-caller entry.TryBusy s.numbers
    else if bytes_eq s.verb (codes "givefreed") then with-caller entry.GiveFreed s.numbers
    else if bytes_eq s.verb (codes "givesent") then with-caller entry.GiveSent s.numbers
    else if bytes_eq s.verb (codes "deliver") then with-caller entry.Deliver s.numbers
    else if bytes_eq s.verb (codes "spoil") then with-number entry.Spoil s.numbers
    else if bytes_eq s.verb (codes "undo") then with-number entry.Undo s.numbers
    else if bytes_eq s.verb (codes "leave") then with-number entry.Leave s.numbers
    else if bytes_eq s.verb (codes "late") then with-number entry.Late s.numbers
    else if bytes_eq s.verb (codes "granted") then with-number entry.LookGranted s.numbers
    else with-number entry.LookPending s.numbers

entry-says : (e : Entry) → said-entry (entry_says e) ≡ Some e
unfolding said-entry with-caller with-number
entry-says (entry.TakeNow p) = refl
entry-says (entry.TakeDoor p) = refl
entry-says (entry.Enter p k) = refl
entry-says (entry.TryGot p) = refl
entry-says (entry.TryBusy p) = refl
entry-says (entry.GiveFreed p) = refl
entry-says (entry.GiveSent p) = refl
entry-says (entry.Deliver k) = refl
entry-says (entry.Spoil p k) = refl
entry-says (entry.Undo p k) = refl
entry-says (entry.Leave p k) = refl
entry-says (entry.Late p k) = refl
entry-says (entry.LookGranted p k) = refl
entry-says (entry.LookPending p k) = refl

pub entry-one : (e f : Entry) → entry_says e ≡ entry_says f → e ≡ f
entry-one e f same =
    let both : Some e ≡ Some f = sym (entry-says e) ∙ ap said-entry same ∙ entry-says f in
    cc both

-- the events behind a head, as a text with a head of its own
behind-head : (s : Schedule) → IsSchedule s
    → IsHeaded head_says IsHead event_says IsEvent (head_of s) s.events.items
    (line_text (head_says (head_of s)) (lines_text event_says s.events.items []))
behind-head s is = record { head_fit = is.head; fit = is.events; text_is = refl }

pub one_schedule : (r s : Schedule) (text : List ℕ) → IsSchedule r → text ≡ schedule_text r → IsSchedule s
    → text ≡ schedule_text s → IsSame r s
one_schedule r s text first is second also =
    let heads = heads-unique (head_of r) (head_of s) (lines_text event_says r.events.items [])
    (lines_text event_says s.events.items []) first.head second.head (sym is ∙ also) in
    let mine : line_text (head_says (head_of r)) (lines_text event_says r.events.items [])
    ≡ line_text (head_says (head_of s)) (lines_text event_says s.events.items [])
    = ap₂ line_text heads.0 heads.2 in
    let parts = headed-unique event_says IsEvent event_is_line event-one head_says IsHead head-is-line (head_of r)
    (head_of s) r.events.items s.events.items
    (line_text (head_says (head_of r)) (lines_text event_says r.events.items []))
    (behind-head r first)
    (record { head_fit = second.head; fit = second.events; text_is = mine }) in
    record { permits = cc heads.0; passes = cc heads.0; sync = heads.1; events = parts.1 }

pub none_headless : (s : Schedule) (text : List ℕ) → IsSchedule s → text ≡ schedule_text s → IsHeadless text → ⊥
none_headless s text is same none = none (head_of s) (lines_text event_says s.events.items []) is.head same

pub none_bad : (s : Schedule) (text : List ℕ) (n : ℕ) → IsSchedule s → text ≡ schedule_text s
    → IsFirstBadLine text n → ⊥
none_bad s text n is same (inl first) = none_headless s text is same first.1
none_bad s text n is same (inr behind) =
    let heads = heads-unique behind.head (head_of s) behind.rest (lines_text event_says s.events.items [])
    behind.head_fit is.head (sym behind.text_is ∙ same) in
    headed-good event_says IsEvent event_is_line event-one head_says IsHead head-is-line (head_of s) s.events.items
    (line_text (head_says (head_of s)) (lines_text event_says s.events.items [])) n (behind-head s is)
    (inr (record {
      head = head_of s;
      rest = behind.rest;
      head_fit = is.head;
      text_is = ap (line_text (head_says (head_of s))) (sym heads.2);
      bad = behind.bad;
    }))
