-- A key that isn't among those that a table may have is absent from it.
use Rattle.std.proofs.Common.{◌≡◌, true, false, List, ℕ, None, Some, Ordering, Less, Equal, Greater, refl, ap, sym, ◌∙◌}
use Rattle.std.specs.Cmp.Lexicographic.{slice_cmp}
use Rattle.std.specs.List.{list_any}
use Rattle.std.specs.Ordering.{match_ordering, nat_cmp}
use Rattle.std.specs.Str.{bytes_eq}
use Rattle.std.proofs.lemmas.Bool.{and_parts, false≢true}
use Rattle.std.proofs.lemmas.Map.Lookups.{exact_bytes}
use Rattle.toml.specs.Data.{Data, Members, no_members, member, get_member}
use Rattle.cqs_plan_reader.specs.FaultRules.{has_only}

-- what is found at a key where another one stands first
past_other : (known : List (List ℕ)) (key other : List ℕ) (d : Data) (rest : Members) (o : Ordering)
    → slice_cmp nat_cmp key other ≡ o → list_any (bytes_eq key) known ≡ false
    → list_any (bytes_eq other) known ≡ true → get_member key rest ≡ None
    → match_ordering o (get_member key rest) (Some d) (get_member key rest) ≡ None
past_other known key other d rest Less is unknown there later = later
past_other known key other d rest Greater is unknown there later = later
past_other known key other d rest Equal is unknown there later =
    let same : key ≡ other = exact_bytes key other is in
    absurd (false≢true (sym unknown ∙ ap (λ k. list_any (bytes_eq k) known) same ∙ there))

pub absent : (known : List (List ℕ)) (key : List ℕ) (table : Members)
    → list_any (bytes_eq key) known ≡ false → has_only known table ≡ true → get_member key table ≡ None
absent known key no_members unknown only = refl
absent known key (member other d rest) unknown only =
    let (there, others) = and_parts (list_any (bytes_eq other) known) (has_only known rest) only in
    past_other known key other d rest (slice_cmp nat_cmp key other) refl unknown there
    (absent known key rest unknown others)
