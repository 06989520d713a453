-- What holds of a core after a row of the table, where the row is one.
use Rattle.std.proofs.Common.{◌≡◌, Bool, true, false, Option, Some, None, refl, subst, if◌then◌else◌, option_and_then}
use Rattle.cqs_core.specs.declared.cells.CoreCell.{CoreCell}
use Rattle.cqs_core.specs.declared.outcomes.Outcome.{Outcome}
use Rattle.cqs_core.specs.SemaphoreTable.{Shape, Stepped, answers}

pub record Keeps (P : Shape → Type 0) (row : Option Stepped) : Type 0 where
  pub at : (t : Stepped) → row ≡ Some t → P t.shape

module _ {P : Shape → Type 0} where
  pub keeps-none : Keeps P None
  keeps-none = record { at = λ t is. absurd (cc) }

  pub keeps-row : (r : Shape) (o : Outcome) → P r → Keeps P (answers r o)
  keeps-row r o holds = record { at = λ t is. made t is }
    where
      made : (t : Stepped) → answers r o ≡ Some t → P t.shape
      made t is =
          let row : Stepped = record { shape = r; outcome = o } in
          let is_row : row ≡ t = cc in
          subst (λ (x : Stepped). P x.shape) is_row holds

  pub keeps-if : (b : Bool) (x y : Option Stepped) → (b ≡ true → Keeps P x) → (b ≡ false → Keeps P y)
      → Keeps P (if b then x else y)
  keeps-if true x y then_x else_y = then_x refl
  keeps-if false x y then_x else_y = else_y refl

  pub keeps-found : (f : CoreCell → Option Stepped) (o : Option CoreCell)
      → ((cell : CoreCell) → o ≡ Some cell → Keeps P (f cell)) → Keeps P (option_and_then f o)
  keeps-found f None each = keeps-none
  keeps-found f (Some cell) each = each cell refl
