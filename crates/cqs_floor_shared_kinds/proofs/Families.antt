-- Passes of one queue have one name for it, and passes that have one name are of one queue.
use Rattle.std.proofs.Common.{◌≡◌, ℕ, List, [], ◌∷◌, ap}
use Rattle.atomic_table.specs.Seated.{TableId}
use Rattle.cqs_rule_laws.specs.declared.client.ClientWords.{Ghosts}
use Rattle.cqs_rule.specs.declared.queue.Pass.{Pass}
use Rattle.cqs_rule.specs.Passes.{pass_view}
use Rattle.cqs_floor_shared_kinds.specs.Families.{queue_name, table_numbers}

-- what a name tells
pub record Named : Type 0 where
  pub passes : ℕ
  pub limit : ℕ
  pub cells : ℕ
  pub size : ℕ
  pub table : TableId

none : Named
none = record {
  passes = 0;
  limit = 0;
  cells = 0;
  size = 0;
  table = record { words = 0; slots = 0; views_name = 0; atom = 0; block = 0; offset = 0; slot_names = [] };
}

named : List ℕ → Named
named (p ∷ l ∷ c ∷ s ∷ w ∷ n ∷ v ∷ a ∷ b ∷ o ∷ names) = record {
  passes = p;
  limit = l;
  cells = c;
  size = s;
  table = record { words = w; slots = n; views_name = v; atom = a; block = b; offset = o; slot_names = names };
}
named other = none

module _ {C S E : Type 0} {g : Ghosts C S E} where
  pub name-same : (p q : Pass C S E g) → q.seat.table_id ≡ p.seat.table_id
      → (pass_view q).passes ≡ (pass_view p).passes → (pass_view q).limit ≡ (pass_view p).limit
      → (pass_view q).cells ≡ (pass_view p).cells → (pass_view q).opening ≡ (pass_view p).opening
      → queue_name q ≡ queue_name p
  name-same p q table passes limit cells opening i =
      passes i ∷ limit i ∷ cells i ∷ (opening i).size ∷ table_numbers (table i)

  pub name-tells : (p q : Pass C S E g) → queue_name q ≡ queue_name p
      → ((pass_view q).passes ≡ (pass_view p).passes) × ((pass_view q).limit ≡ (pass_view p).limit)
      × ((pass_view q).cells ≡ (pass_view p).cells) × ((pass_view q).opening.size ≡ (pass_view p).opening.size)
      × (q.seat.table_id ≡ p.seat.table_id)
  unfolding named
  name-tells p q same =
      let told = ap named same in (
        ap (λ (n : Named). n.passes) told,
        ap (λ (n : Named). n.limit) told,
        ap (λ (n : Named). n.cells) told,
        ap (λ (n : Named). n.size) told,
        ap (λ (n : Named). n.table) told,
      )
