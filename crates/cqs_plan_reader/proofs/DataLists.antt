-- The lists that a table and an array are seen as, beside the map and the vector that hold them.
use Rattle.std.proofs.Common.{◌≡◌, ℕ, zero, suc, Less, arith, ◌||◌, List, [], ◌∷◌, map, string_bytes, Bor, refl, ap}
use Rattle.std.specs.List.{list_all, list_any, All, AllPairs, AllByRecursion}
use Rattle.std.specs.List.Sorted.{IsStrictlySortedBy}
use Rattle.std.specs.String.{string_cmp}
use Rattle.std.proofs.lemmas.List.Kept.{AllPairs-cons}
use Rattle.std.specs.Map.{keys_of}
use Rattle.std.specs.Str.{bytes_eq}
use Rattle.toml.specs.Data.{Data}
use Rattle.toml.specs.View.{view, items_view, members_view}
use Rattle.toml.proofs.Views.{Entry}
use Rattle.toml.specs.declared.value.Value.{Value}
use Rattle.cqs_plan.specs.declared.plans.resource.Resource.{Resource}
use Rattle.cqs_plan_reader.specs.FaultRules.{has_only}
use Rattle.cqs_plan.specs.Language.{ResourceKind}
use Rattle.cqs_plan_reader.specs.Meaning.{items_list, members_list, resource_in}
use Rattle.cqs_plan.specs.Order.{IsBelow}

-- an entry of a table's map as a key with its value
abbrev pub entry_view : Entry → List ℕ × Data
entry_view entry = (string_bytes entry.0, view entry.1)

pub members_list-view : (entries : List Entry)
    → members_list (members_view entries) ≡ map entry_view entries
members_list-view [] = refl
members_list-view (e ∷ es) = ap (λ rest. entry_view e ∷ rest) (members_list-view es)

pub items_list-view : (values : List Value) → items_list (items_view values) ≡ map view values
items_list-view [] = refl
items_list-view (v ∷ vs) = ap (λ rest. view v ∷ rest) (items_list-view vs)

list_any-now : (key : List ℕ) (known : List (Bor (List ℕ)))
    → list_any (λ word. bytes_eq key word.now) known ≡ list_any (bytes_eq key) (map (λ word. word.now) known)
list_any-now key [] = refl
list_any-now key (w ∷ ws) = ap (λ rest. bytes_eq key w.now || rest) (list_any-now key ws)

-- the keys of the map are among these just where those of the table are
pub has_only-keys : (known : List (Bor (List ℕ))) (entries : List Entry)
    → list_all (λ key. list_any (λ word. bytes_eq (string_bytes key) word.now) known) (keys_of entries)
    ≡ has_only (map (λ word. word.now) known) (members_view entries)
has_only-keys known [] = refl
has_only-keys known (e ∷ es) = rw (list_any-now (string_bytes e.0) known, has_only-keys known es)

-- names that ascend, from the keys of the map
names_above : (kind : ResourceKind) (first : Entry) (entries : List Entry)
    → AllByRecursion (λ key. string_cmp first.0 key ≡ Less) (keys_of entries)
    → All (λ (other : Resource). IsBelow (string_bytes first.0) other.name)
    (map (resource_in kind) (map entry_view entries))
names_above kind first [] above k d below = absurd (omega arith)
names_above kind first (e ∷ es) above zero d below = above.0
names_above kind first (e ∷ es) above (suc k) d below = names_above kind first es above.1 k d (omega arith)

abbrev pub NamesAscend : Resource → Resource → Type 0
NamesAscend one other = IsBelow one.name other.name

-- the names of the resources of a table ascend
pub names_ascend : (kind : ResourceKind) (entries : List Entry)
    → IsStrictlySortedBy string_cmp (keys_of entries)
    → AllPairs NamesAscend (map (resource_in kind) (map entry_view entries))
unfolding IsStrictlySortedBy
names_ascend kind [] ordered = λ i j d less below. absurd (omega arith)
names_ascend kind (e ∷ es) ordered =
    AllPairs-cons NamesAscend (resource_in kind (entry_view e)) (map (resource_in kind) (map entry_view es))
    (names_above kind e es ordered.0) (names_ascend kind es ordered.1)
