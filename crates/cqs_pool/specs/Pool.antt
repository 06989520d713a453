-- The pool as a client: it uses no words, and shows the same whatever they are; its elements are
-- values in cells, what passes bring, and what they have in hand.
use Rattle.std.specs.Prelude.{◌≡◌, ◌≢◌, ℕ, ◌<◌, false, map, List, [], ◌∷◌, Option, Some, None}
use Rattle.cqs_core.specs.declared.cells.CoreCell.{CoreCell}
use Rattle.cqs_core.specs.declared.cells.CoreState.TheVariants as state
use Rattle.cqs_core.specs.Numbered.{EachAt}
use Rattle.cqs_pool_object.specs.declared.entries.PoolEntry.{PoolEntry}
use Rattle.cqs_pool_object.specs.declared.entries.PoolEntry.TheVariants as entry
use Rattle.cqs_pool_object.specs.PoolEntries.{IsLegal}
use Rattle.cqs_pool_object.specs.PoolOrder.{IsInOrder}
use Rattle.cqs_pool_object.specs.PoolNames.{entry_names}
use Rattle.cqs_pool_object.specs.PoolShown.{PoolShape, IsPool}
use Rattle.cqs_pool_object.specs.PoolSteps.{step_entries}
use Rattle.cqs_rule_laws.specs.declared.config.CancelMode.TheVariants.{Smart}
use Rattle.cqs_rule_laws.specs.declared.view.Has.{Has}
use Rattle.cqs_rule_laws.specs.Configured.{largest_limit}
use Rattle.cqs_rule_laws.specs.Hidden.{Hidden, Gains}
use Rattle.cqs_rule_laws.specs.Lists.{IsDistinct, Has as In}
use Rattle.cqs_rule_laws.specs.Manner.{Manner, passes_on, elements}
use Rattle.cqs_rule_laws.specs.Object.{Object, Primitive}

-- what each pass brings, where it resumes, and what it has in hand
abbrev pub loads_of : List Has → List ℕ
loads_of l = map (λ (h : Has). h.payload) l

abbrev pub holds_of : List Has → List (List ℕ)
holds_of l = map (λ (h : Has). h.slots) l

-- what the table of a pool shows
abbrev pub pool_shown : ℕ → Hidden → List PoolEntry → PoolShape
pool_shown size c log = record {
  size = size;
  loads = loads_of c.has;
  payloads = c.payloads;
  holds = holds_of c.has;
  history = log;
  queue = c.queue;
}

-- it shows a pool; as long as one pass alone has made calls, its elements are in order; its passes
-- count nothing beside the elements that they have in hand; and no cell was ever refused
pub record ShowsPool (size : ℕ) (c : Hidden) (log : List PoolEntry) : Type 0 where
  pub is_pool : IsPool (pool_shown size c log)
  pub in_order : IsInOrder (pool_shown size c log)
  pub uncounted : EachAt (λ p (h : Has). h.held ≡ 0) c.has
  pub unrefused : EachAt (λ k (cell : CoreCell). cell.state ≢ state.Refused) c.queue.cells

abbrev pub shows_pool : {T : Type 0} → ℕ → Hidden → List ℕ → List PoolEntry → List (ℕ × T)
    → Type 0
shows_pool size c words log handed = ShowsPool size c log

-- a pass that has what it waited for has that element in hand
abbrev pub in_hand : Gains
in_hand = record { held = λ held. held; slots = λ element. element ∷ [] }

-- a pass has each of its elements in hand once, and each is one of so many
pub record HasEach (size : ℕ) (slots : List ℕ) : Type 0 where
  pub once : IsDistinct slots
  pub low : (e : ℕ) → In e slots → e < size

-- a put gives the value slot of its element away
abbrev pub slot_given : PoolEntry → Option ℕ
slot_given (entry.Put c e) = Some e
slot_given (entry.Enter c k) = None
slot_given (entry.Deliver k e) = None
slot_given (entry.Leave c k) = None
slot_given (entry.Late c k e) = None
slot_given (entry.LookGranted c k e) = None
slot_given (entry.LookPending c k) = None

abbrev pub pool_object : Object PoolEntry
pool_object = record {
  names = entry_names;
  legal = λ opening. IsLegal opening.size;
  entries = step_entries;
  gains = in_hand;
  gives = slot_given;
  most = λ opening. 0;
  knows = λ opening has. HasEach opening.size has.slots;
}

-- a wait that leaves needs nobody's answer, a taker draws as it comes, and a put is paid with an
-- element
abbrev pub pool_manner : Manner
pool_manner = record
    { leaving = passes_on; has_door = false; source = elements; watches = false }

abbrev pub pool_primitive : {T : Type 0} → ℕ → Primitive PoolEntry T
pool_primitive size = record {
  opening = record { size = size; mode = Smart; sync = false; looks = 0 };
  shows = shows_pool size;
  manner = pool_manner;
  words = [];
  most_limit = largest_limit;
  values = size;
  held = 0;
  opens = λ has slot. In slot has.slots;
}
