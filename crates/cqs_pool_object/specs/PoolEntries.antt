-- The entries of the pool: where each may come, and what it changes. A history is legal where each
-- of its entries may come after those before it.
use Rattle.std.specs.Prelude.{◌≡◌, ℕ, ◌+◌, false, true, List, [], ◌∷◌, ◌++◌, length, take, Option, Some, None}
use Rattle.std.specs.List.{fold}
use Rattle.cqs_pool_object.specs.declared.entries.PoolEntry.{PoolEntry}
use Rattle.cqs_pool_object.specs.declared.entries.PoolEntry.TheVariants as entry
use Rattle.cqs_core.specs.Histories.{IsLegalFrom}
use Rattle.cqs_core.specs.Numbered.{IsIn}
use Rattle.cqs_core.specs.Keyed.{insert_by, without, change_by}
use Rattle.cqs_core.specs.QueueLine.{Waiting}
use Rattle.cqs_core.specs.QueueWaiters.{Waits, find_wait}
use Rattle.cqs_pool_object.specs.PoolObject.{Given, Pool, IsGiven, opening}

-- Where an entry may come. A caller puts an element that some caller has; one that is on its way
-- reaches one of the first of the line, as many as there are elements on their way.
abbrev pub IsAllowed : Pool → PoolEntry → Type 0
IsAllowed o (entry.Put c e) = IsIn e o.held
IsAllowed o (entry.Enter c k) = k ≡ o.next
IsAllowed o (entry.Deliver k e) =
    ((c : ℕ) × Waits k c (take (length o.way) o.line)) × IsIn e o.way
IsAllowed o (entry.Leave c k) = Waits k c o.line
IsAllowed o (entry.Late c k e) = IsGiven k c e o.served
IsAllowed o (entry.LookGranted c k e) = IsGiven k c e o.served
IsAllowed o (entry.LookPending c k) = Waits k c o.line

-- the list without this element
abbrev pub less : ℕ → List ℕ → List ℕ
less e elements = without (λ x. x) e elements

-- the caller of wait k is served with the element
abbrev pub with_given : ℕ → Option Waiting → List Given → List Given
with_given e None served = served
with_given e (Some w) served =
    insert_by (λ g. g.wait) (record { wait = w.wait; pass = w.pass; element = e; is_open = true })
    served

-- what came for wait k was looked at
abbrev pub after_look : ℕ → List Given → List Given
after_look k served =
    change_by (λ g. g.wait) k
    (λ g. record { wait = g.wait; pass = g.pass; element = g.element; is_open = false }) served

-- an element that is held goes on its way
abbrev pub put : Pool → ℕ → Pool
put o e = record o { way = o.way ++ e ∷ []; held = less e o.held }

abbrev pub after_enter : Pool → ℕ → ℕ → Pool
after_enter o c k =
    record o { line = o.line ++ record { wait = k; pass = c } ∷ []; next = o.next + 1 }

-- an element on its way reaches wait k
abbrev pub after_deliver : Pool → ℕ → ℕ → Pool
after_deliver o k e = record {
  way = less e o.way;
  line = without (λ w. w.wait) k o.line;
  next = o.next;
  served = with_given e (find_wait k o.line) o.served;
  held = e ∷ o.held;
}

-- what an entry changes
abbrev pub after_entry : Pool → PoolEntry → Pool
after_entry o (entry.Put c e) = put o e
after_entry o (entry.Enter c k) = after_enter o c k
after_entry o (entry.Deliver k e) = after_deliver o k e
after_entry o (entry.Leave c k) = record o { line = without (λ w. w.wait) k o.line }
after_entry o (entry.Late c k e) = record o { served = after_look k o.served }
after_entry o (entry.LookGranted c k e) = record o { served = after_look k o.served }
after_entry o (entry.LookPending c k) = o

-- the pool after a history
abbrev pub object_after : ℕ → List PoolEntry → Pool
object_after size history = fold after_entry (opening size) history

-- each entry may come after those before it
abbrev pub IsLegal : ℕ → List PoolEntry → Type 0
IsLegal size history = IsLegalFrom IsAllowed after_entry (opening size) history
