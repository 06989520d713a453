-- What a client owes: that its words, its history and the values handed in go with what is hidden,
-- from the opening on and at each step of the queue.
use Rattle.std.specs.Prelude.{◌≡◌, ◌≢◌, ◌⊎◌, ℕ, ◌+◌, ◌-◌, ◌<◌, ◌≤◌, ◌^◌, ◌==◌, Bool, List, [], ◌∷◌, ◌++◌, length, slice_get, Option, Some, if◌then◌else◌}
use Rattle.cqs_core.specs.declared.cells.CoreCell.{CoreCell}
use Rattle.cqs_core.specs.declared.doings.Doing.TheVariants as doing
use Rattle.cqs_core.specs.QueueLine.{door}
use Rattle.cqs_core.specs.QueueEither.{IsSoundEither}
use Rattle.cqs_core.specs.QueueSteps.{QueueStep, reaches, passes_over, begins, puts, row_of, StepRow, at_counter, at_cell, Cost, no_cost, one_owed, one_element, payload_told, IsOpenStep}
use Rattle.cqs_rule_laws.specs.declared.view.Has.{Has}
use Rattle.cqs_rule_laws.specs.Given.{times_given}
use Rattle.cqs_rule_laws.specs.Hidden.{Hidden, hidden_after, has_after, now_may_draw, has_both, has_none, hands_over}
use Rattle.cqs_rule_laws.specs.Lists.{NamesOnly}
use Rattle.cqs_rule_laws.specs.Lists as lists
use Rattle.cqs_rule_laws.specs.Manner.{mode_for, Suits}
use Rattle.cqs_rule_laws.specs.Object.{Object, Primitive}
use Rattle.cqs_rule_laws.specs.Opened.{first_hidden, four}

-- no counter comes as far as this number
abbrev pub no_number : ℕ
no_number = 1099511627775

-- what the pass has pays for the number that it draws to resume at
abbrev pub IsPaid : Cost → Has → ℕ → Type 0
IsPaid no_cost has payload = payload ≡ has.payload
IsPaid one_owed has payload = (0 < has.further) × (payload ≡ has.payload)
IsPaid one_element has payload = lists.Has payload has.slots

-- A pass that pays so for a number keeps this slot: it gives away only that of the element with
-- which it pays.
abbrev pub KeepsSlotAt : Cost → ℕ → ℕ → Type 0
KeepsSlotAt no_cost payload k = Unit {0}
KeepsSlotAt one_owed payload k = Unit {0}
KeepsSlotAt one_element payload k = k ≢ payload

-- by a step of this row, where its payload is this, the pass keeps the slot k
abbrev pub KeepsSlot : StepRow → ℕ → ℕ → Type 0
KeepsSlot (at_counter row) payload k = KeepsSlotAt row.cost payload k
KeepsSlot (at_cell row) payload k = Unit {0}

-- how often a step of this row, where its payload is this, gives the slot k away
abbrev pub pays_away : Cost → ℕ → ℕ → ℕ
pays_away no_cost payload k = 0
pays_away one_owed payload k = 0
pays_away one_element payload k = if payload == k then 1 else 0

abbrev pub gives_away : StepRow → ℕ → ℕ → ℕ
gives_away (at_counter row) payload k = pays_away row.cost payload k
gives_away (at_cell row) payload k = 0

-- the payload of a step of the queue: what comes from the cell, and else what the pass resumes with
abbrev pub IsPayload : StepRow → Has → ℕ → ℕ → Type 0
IsPayload (at_counter row) has left payload = IsPaid row.cost has payload
IsPayload (at_cell row) has left payload = payload ≡ payload_told row.gain left has.payload

-- a resumption that an idle pass begins with the number that it draws is paid for
abbrev pub IsBegun : Cost → Type 0
IsBegun no_cost = ⊥
IsBegun one_owed = Unit {0}
IsBegun one_element = Unit {0}

-- the step that draws the number so
abbrev pub begun_by : Cost → QueueStep
begun_by no_cost = reaches
begun_by one_owed = begins
begun_by one_element = puts

-- The object shows no entry where a number is drawn for a resumption that is owed, nor where the
-- cell of one is passed over.
pub record IsQuiet {E : Type 0} (object : Object E) : Type 0 where
  pub drawing : (p k payload : ℕ) → object.entries reaches p k payload ≡ []
  pub passing : (p k payload : ℕ) → object.entries passes_over p k payload ≡ []

module _ {E S : Type 0} (object : Object E) (primitive : Primitive E S) where
  -- What a client owes for its value slots.
  pub record KeepsSlots : Type 0 where
    -- a slot is one pass's at most
    pub apart : (c : Hidden) (words : List ℕ) (log : List E) (handed : List (ℕ × S)) (p q k : ℕ)
        (mine theirs : Has)
        → primitive.shows c words log handed
        → slice_get c.has p ≡ Some mine → slice_get c.has q ≡ Some theirs
        → primitive.opens mine k → primitive.opens theirs k → p ≡ q
    -- a pass keeps its slots at each step of the queue, but for that of an element which it puts
    pub steps : (s : QueueStep) (has : Has) (payload k : ℕ) → Suits primitive.manner s
        → KeepsSlot (row_of s) payload k
        → primitive.opens has k → primitive.opens (has_after object.gains (row_of s) payload has) k
    -- the entries of such a step give no other slot away than that of an element which is put
    pub gives : (s : QueueStep) (p k payload j : ℕ) → Suits primitive.manner s
        → times_given object.gives (object.entries s p k payload) j
        ≡ gives_away (row_of s) payload j
    -- no pass holds more than the most that one may
    pub few : (c : Hidden) (words : List ℕ) (log : List E) (handed : List (ℕ × S)) (p : ℕ)
        (has : Has)
        → primitive.shows c words log handed → slice_get c.has p ≡ Some has
        → has.held ≤ object.most primitive.opening
    -- what the client knows of all that one pass has
    pub known : (c : Hidden) (words : List ℕ) (log : List E) (handed : List (ℕ × S)) (p : ℕ)
        (has : Has)
        → primitive.shows c words log handed → slice_get c.has p ≡ Some has
        → object.knows primitive.opening has
    -- and gets those of a pass that it takes in
    pub gathers : (mine theirs : Has) (k : ℕ) → primitive.opens mine k ⊎ primitive.opens theirs k
        → primitive.opens (has_both mine theirs) k
    -- no others, and a pass that handed over all that it has keeps none
    pub gathered : (mine theirs : Has) (k : ℕ) → primitive.opens (has_both mine theirs) k
        → primitive.opens mine k ⊎ primitive.opens theirs k
    pub bare : (has : Has) (k : ℕ) → primitive.opens (has_none has) k → ⊥
    -- a value that is handed in changes nothing else
    pub hands_in : (c : Hidden) (words : List ℕ) (log : List E) (handed : List (ℕ × S)) (k : ℕ)
        (value : S)
        → primitive.shows c words log handed
        → primitive.shows c words log (handed ++ (k, value) ∷ [])

  pub record IsClient : Type 0 where
    -- its object opens in the mode in which its waits leave
    pub mode : primitive.opening.mode ≡ mode_for primitive.manner.leaving
    -- and it is synchronous where its resumes watch
    pub sync : primitive.opening.sync ≡ primitive.manner.watches
    -- its words as they open go with a queue as it opens
    pub begins : (passes : ℕ) → 0 < passes → passes ≤ 32
        → primitive.shows (first_hidden passes primitive.values primitive.held)
        (four primitive.words) [] []
    -- each step of the queue that suits it and is open there appends its entries
    pub steps : (c : Hidden) (s : QueueStep) (p k : ℕ) (found : Option CoreCell) (has : Has)
        (payload : ℕ)
        (words : List ℕ) (log : List E) (handed : List (ℕ × S))
        → primitive.shows c words log handed → IsOpenStep c.queue s p k found
        → slice_get c.has p ≡ Some has
        → IsPayload (row_of s) has (c.payloads k) payload → Suits primitive.manner s
        → c.queue.suspends < no_number → c.queue.resumes < no_number
        → primitive.shows (hidden_after object.gains c s p k found has payload) words
        (log ++ object.entries s p k payload) handed
    -- who may draw is no part of what it shows
    pub counts : (c : Hidden) (p : ℕ) (may : Bool) (words : List ℕ) (log : List E)
        (handed : List (ℕ × S))
        → primitive.shows c words log handed
        → primitive.shows (now_may_draw c p may) words log handed
    -- what one idle pass holds and has in hand may become that of another
    pub hands : (c : Hidden) (from to : ℕ) (mine theirs : Has) (words : List ℕ) (log : List E)
        (handed : List (ℕ × S))
        → primitive.shows c words log handed → from ≢ to
        → slice_get c.queue.doing from ≡ Some doing.Idle
        → slice_get c.queue.doing to ≡ Some doing.Idle
        → slice_get c.has from ≡ Some mine → slice_get c.has to ≡ Some theirs
        → primitive.shows (hands_over c from (has_none mine) to (has_both theirs mine)) words log
        handed
    -- and so may a part of what it holds
    pub shares : (c : Hidden) (from to many : ℕ) (mine theirs : Has) (words : List ℕ) (log : List E)
        (handed : List (ℕ × S))
        → primitive.shows c words log handed → from ≢ to
        → slice_get c.queue.doing from ≡ Some doing.Idle
        → slice_get c.queue.doing to ≡ Some doing.Idle
        → slice_get c.has from ≡ Some mine → slice_get c.has to ≡ Some theirs → many ≤ mine.held
        → primitive.shows
        (hands_over c from (record mine { held = mine.held - many }) to
        (record theirs { held = theirs.held + many })) words log handed
    -- a step of the queue appends no entry that names another pass
    pub silent : (s : QueueStep) (p k payload : ℕ)
        → NamesOnly object.names p (object.entries s p k payload)
    -- and none where a resumption goes on past a number
    pub quiet : IsQuiet object
    -- the queue part is sound, and the history legal
    pub sound : (c : Hidden) (words : List ℕ) (log : List E) (handed : List (ℕ × S))
        → primitive.shows c words log handed
        → IsSoundEither primitive.manner.watches c.queue
    pub legal_shown : (c : Hidden) (words : List ℕ) (log : List E) (handed : List (ℕ × S))
        → primitive.shows c words log handed → object.legal primitive.opening log
    -- what a pass holds fits 32 bits
    pub held_fits : (c : Hidden) (words : List ℕ) (log : List E) (handed : List (ℕ × S)) (p : ℕ)
        (has : Has)
        → primitive.shows c words log handed → slice_get c.has p ≡ Some has → has.held < 2 ^ 32
    -- where a resumption is owed, fewer numbers were drawn to resume at than were drawn to suspend
    -- at, wait at the door, or opened with a value; and so where one more is begun
    pub reaches_few : (c : Hidden) (words : List ℕ) (log : List E) (handed : List (ℕ × S)) (p : ℕ)
        → primitive.shows c words log handed → slice_get c.queue.doing p ≡ Some doing.Owes
        → c.queue.resumes < c.queue.suspends + length (door c.queue) + primitive.values
    pub begins_few : (c : Hidden) (words : List ℕ) (log : List E) (handed : List (ℕ × S)) (p : ℕ)
        (has : Has) (cost : Cost)
        (payload : ℕ)
        → primitive.shows c words log handed → slice_get c.queue.doing p ≡ Some doing.Idle
        → slice_get c.has p ≡ Some has
        → IsPaid cost has payload → IsBegun cost → Suits primitive.manner (begun_by cost)
        → c.queue.resumes < c.queue.suspends + length (door c.queue) + primitive.values
    -- what it owes for its value slots
    pub slots : KeepsSlots
