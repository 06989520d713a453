-- The views of the passes: the first one, what of them the rule counts, and what stays of one at
-- each step.
pub use Rattle.cqs_rule_laws.specs.Hidden.{has_both, has_none, has_less}
use Rattle.std.specs.Prelude.{◌≡◌, ◌⊎◌, ℕ, ◌+◌, ◌-◌, ◌*◌, ◌<◌, true, false, List, [], ◌∷◌, ◌++◌, None}
use mathlib.Core.Option.{some}
use lib.ListN.{get_elem?}
use Rattle.cqs_core.specs.declared.doings.Doing.TheVariants as doing
use Rattle.cqs_slots.specs.declared.seen.Seen.{Seen}
use Rattle.cqs_slots.specs.Told.{SeesMore, all_seen}
use Rattle.cqs_slots.specs.Opened.{first_segments}
use Rattle.cqs_rule_laws.specs.declared.view.View.{View}
use Rattle.cqs_rule_laws.specs.declared.config.CancelMode.TheVariants.{Smart}
use Rattle.cqs_rule_laws.specs.declared.view.Facts.{Facts}
use Rattle.cqs_rule_laws.specs.declared.view.Has.{Has}
use Rattle.cqs_rule_laws.specs.declared.view.Opening.{Opening}
use Rattle.cqs_rule_laws.specs.Lists as lists
pub use Rattle.cqs_words.specs.Crew.{made_in, live_in}
use Rattle.cqs_words.specs.Crew.{crew_word}

-- what a pass has that holds so much, owes nothing, and has no value slot in hand
abbrev pub first_has : ℕ → Has
first_has held = record { held = held; payload = 0; further = 0; slots = [] }

-- what the first pass is at
abbrev pub first_facts : ℕ → Facts
first_facts held = record {
  doing = doing.Idle;
  has = first_has held;
  may_draw = true;
  last = None;
  waits = [];
  reached = 0;
  looked = 0;
  passed = [];
  open_slot = None;
  spare_slots = [];
  duties = [];
  to_retire = [];
  heads = [];
  found = [];
}

-- what a pass is at that gave so much of what it held
abbrev pub facts_lessened : ℕ → Facts → Facts
facts_lessened gives f = record f { has = has_less gives f.has }

-- what a pass is at that took in another one, which was at this
abbrev pub facts_joined : Facts → Facts → Facts
facts_joined mine theirs = record mine {
  has = has_both mine.has theirs.has;
  spare_slots = mine.spare_slots ++ theirs.spare_slots;
  duties = mine.duties ++ theirs.duties;
  to_retire = mine.to_retire ++ theirs.to_retire;
}

-- it rises with each pass made and each pass met away
abbrev pub crew_turn : ℕ → ℕ
crew_turn n = 2 * made_in n - live_in n

-- what was found at the crew's word is there still, or is of an earlier turn
abbrev pub WasCrew : ℕ → ℕ → ℕ → Type 0
WasCrew made live n = (crew_turn n < 2 * made - live) ⊎ (n ≡ crew_word made live)

-- nothing is known of the segments
abbrev pub none_seen : Seen
none_seen = record { homes = []; kept = []; outs = []; full = []; links = []; lit = 0 }

module _ {E S : Type 0} where
  -- the first view, of a table with so many slots, where so many segments are made as it opens
  abbrev pub first_view : ℕ → ℕ → ℕ → ℕ → ℕ → Opening → ℕ → View E S
  first_view passes limit cells slots made opening held = record {
    number = 0;
    weight = 1;
    facts = first_facts held;
    seen = [];
    handed = [];
    laid = [];
    own = 0 ∷ [];
    other = [];
    other_handed = [];
    others = [];
    second_number = 0;
    second = first_facts 0;
    crew = 0;
    made = [];
    alone = true;
    drawn = record { all = cells - (limit + passes); own = 0 };
    limit = limit;
    cells = cells;
    slots = slots;
    segments = all_seen (first_segments made);
    passes = passes;
    opening = opening;
  }

  abbrev pub all_own : View E S → List ℕ
  all_own v = v.own ++ v.others

  abbrev pub weight : View E S → ℕ
  weight v = v.weight

  -- the view with more seen, after a step that leaves it at these facts
  abbrev pub grown : View E S → Facts → List E → List (ℕ × S) → View E S
  grown v facts seen handed = record v { facts = facts; seen = seen; handed = handed }

  -- the view without its second pass
  abbrev pub single : View E S → View E S
  single v = record v {
    weight = 1;
    other = [];
    other_handed = [];
    others = [];
    second_number = 0;
    second = first_facts 0;
    alone = false;
  }

  -- what the second pass gets where the view is cut in two
  abbrev pub cut_off : View E S → View E S
  cut_off v = record (single v) {
    number = v.second_number;
    facts = record v.second { spare_slots = []; duties = []; to_retire = [] };
    seen = v.other;
    handed = v.other_handed;
    laid = [];
    own = v.others;
    made = [];
  }

  -- the view takes in that of another pass, which holds nothing, has no slot spare, no cell to
  -- count and no segment to retire then
  abbrev pub joined : View E S → View E S → View E S
  joined v u = record v {
    weight = 2;
    facts = facts_joined v.facts u.facts;
    laid = v.laid ++ u.laid;
    other = u.seen;
    other_handed = u.handed;
    others = u.own;
    second_number = u.number;
    second = record u.facts { has = has_none u.facts.has };
    alone = false;
  }

  -- what is left of the view of a pass that was joined away
  abbrev pub spent : View E S
  spent = record (
      first_view 0 0 0 0 0 (record { size = 0; mode = Smart; sync = false; looks = 0 }) 0
      )
      { weight = 0; own = []; alone = false; segments = none_seen }

  -- a note of what the pass has seen, which nobody stands behind
  abbrev pub note_of : View E S → View E S
  note_of v = record spent { seen = v.seen }

  -- the view has a note of what another pass had seen
  abbrev pub with_note : View E S → View E S → View E S
  with_note v u = record v { other = u.seen }

  -- the view w, but for what a step on the crew's word changes in v
  abbrev pub as_before : View E S → View E S → View E S
  as_before v w = record w {
    weight = v.weight;
    other = v.other;
    other_handed = v.other_handed;
    others = v.others;
    second_number = v.second_number;
    second = v.second;
    crew = v.crew;
    made = v.made;
    alone = v.alone;
    drawn = v.drawn;
  }

  -- what no step but those of the crew changes; and what was seen of the segments is seen still
  pub record IsSame (v w : View E S) : Type 0 where
    pub number : w.number ≡ v.number
    pub weight : w.weight ≡ v.weight
    pub own : w.own ≡ v.own
    pub crew : w.crew ≡ v.crew
    pub made : w.made ≡ v.made
    pub alone : w.alone ≡ v.alone
    pub drawn : w.drawn ≡ v.drawn
    pub limit : w.limit ≡ v.limit
    pub cells : w.cells ≡ v.cells
    pub slots : w.slots ≡ v.slots
    pub passes : w.passes ≡ v.passes
    pub opening : w.opening ≡ v.opening
    pub segments : SeesMore v.segments w.segments

  -- no number is in two views
  abbrev pub Apart : List (View E S) → Type 0
  Apart views =
      (i j : ℕ) (v w : View E S) (n : ℕ) → get_elem? views i ≡ some v → get_elem? views j ≡ some w
      → lists.Has n (all_own v) → lists.Has n (all_own w) → i ≡ j

  -- what is left of a view that was spent: it has no number, no cell to count, and no segment to
  -- retire
  pub record IsSpent (v : View E S) : Type 0 where
    pub numberless : (n : ℕ) → lists.Has n (all_own v) → ⊥
    pub dutiless : v.facts.duties ≡ []
    pub retireless : v.facts.to_retire ≡ []

  abbrev pub SpentHasNone : List (View E S) → Type 0
  SpentHasNone views = (j : ℕ) (v : View E S) → get_elem? views j ≡ some v → v.weight ≡ 0
      → IsSpent v

  -- the whole history is what some live pass has seen
  pub record Tip (log : List E) (views : List (View E S)) : Type 0 where
    pub place : ℕ
    pub view : View E S
    pub there : get_elem? views place ≡ some view
    pub live : 0 < view.weight
    pub sees : (view.seen ≡ log) ⊎ ((view.weight ≡ 2) × (view.other ≡ log))
