-- The numbers of a pass are those of cells, whose segments may be made or not.
use Rattle.std.proofs.Common.{◌≡◌, ◌⊎◌, refl, ℕ, ◌+◌, ◌*◌, ◌/◌, ◌%◌, ◌<◌, ◌≤◌, ◌++◌, length, length-append, ap, subst, sym, ⊎_elim, arith}
use Rattle.cqs_slots.specs.Slots.{IsHome}
use Rattle.cqs_slots.specs.Told.{SeesMore}
use Rattle.cqs_slots.proofs.Lists.{has_prefix}
use Rattle.cqs_rule_laws.specs.declared.view.View.{View}
use Rattle.cqs_rule_laws.specs.Inside.{IsInside}
use Rattle.cqs_rule_laws.specs.Lists.{Has}
use Rattle.cqs_rule_laws.specs.Placed.{KnowsPlace, place_at}
use Rattle.cqs_rule_laws.specs.Ruled.{number_at}
use Rattle.cqs_rule_laws.specs.SegmentSteps.{HasDrawn}
use Rattle.cqs_segment.specs.declared.walk.Found.{Found}
use Rattle.cqs_segment.specs.declared.walk.Found.TheVariants.{At, Over, Far}
use Rattle.cqs_segment.specs.Finds.{Finds}
use Rattle.cqs_segment.specs.Finds as segments
use Rattle.cqs_find.specs.declared.found.Found as number
use Rattle.cqs_find.specs.declared.found.Found.TheVariants as found_is
use Rattle.cqs_find.specs.Finds.{FindsMade, IsSameAhead, IsTakenOut, SeesAhead}
use Rattle.cqs_rule_laws.proofs.Places.{cell-in-home}

module _ {E S : Type 0} where
  pub below-cells : (v : View E S) (i : ℕ) → IsInside v → HasDrawn v i ⊎ Has i v.facts.waits → i < v.cells
  below-cells v i inside its = ⊎_elim
      (λ drawn. subst (λ z. z < v.cells) (⊎_elim (λ e. ap number_at e) (λ e. ap number_at e) drawn) inside.number)
      (λ h. inside.waits i h) its

  -- a number whose segment isn't made was drawn: that of a wait was made
  pub drawn-far : (v : View E S) (i : ℕ) → HasDrawn v i ⊎ Has i v.facts.waits → Finds (i / 32) Far v → HasDrawn v i
  drawn-far v i its far = ⊎_elim (λ drawn. drawn)
      (λ waits. let made = far.1 i waits in let none = far.0 in absurd (omega arith)) its

  -- a segment that is made is found, or was taken out
  pub made-found : (s : ℕ) (f : Found) (v : View E S) → s < length v.segments.homes → Finds s f v → FindsMade s f v
  made-found s (At x) v made found = found
  made-found s (Over next) v made found = found
  made-found s Far v made found = let none = found.0 in absurd (omega arith)

  pub found-made : (s : ℕ) (f : Found) (v : View E S) → (f ≡ Far → ⊥) → Finds s f v → FindsMade s f v
  found-made s (At x) v other found = found
  found-made s (Over next) v other found = found
  found-made s Far v other found = absurd (other refl)

  -- where its cell stands
  pub in-slot : (v : View E S) (slot k word : ℕ) → IsHome v.segments.homes (k / 32) slot → slot < v.slots
      → word ≡ 48 * slot + (144 + k % 32) → KnowsPlace v (place_at word k)
  in-slot v slot k word home low is =
      subst (λ z. KnowsPlace v (place_at z k)) (sym is) (cell-in-home v slot k home low)

  -- a pass that goes on knows no fewer segments
  pub homes-grow : (v w : View E S) → SeesMore v.segments w.segments
      → length v.segments.homes ≤ length w.segments.homes
  homes-grow v w more =
      let p = more.homes in
      let e : length w.segments.homes ≡ length (v.segments.homes ++ p.0) = ap length p.1 in
      let q = length-append v.segments.homes p.0 in omega arith

  -- and no fewer that were taken out
  pub outs-grow : (v w : View E S) (s : ℕ) → SeesMore v.segments w.segments → Has s v.segments.outs
      → Has s w.segments.outs
  outs-grow v w s more out = has_prefix s v.segments.outs w.segments.outs more.outs out

  -- the segment of a number that was taken out is one of those
  pub number-out : (k next : ℕ) (v : View E S) → IsTakenOut k next v → Has (k / 32) v.segments.outs
  number-out k next v taken = let after = taken.after in taken.out (k / 32) (omega arith) after

  -- what was seen ahead of the segment was of its numbers
  pub ahead-same : (f : Found) (n : number.Found) (v w : View E S) → IsSameAhead f n → segments.SeesAhead f v w
      → SeesAhead n v w
  ahead-same (At x) (found_is.At place) v w same saw = tt
  ahead-same (At x) (found_is.Over next) v w same saw = absurd same
  ahead-same (Over s) (found_is.At place) v w same saw = tt
  ahead-same (Over s) (found_is.Over next) v w same saw =
      subst (λ z. segments.SeesAhead (Over z) v w) (sym same) saw
  ahead-same Far n v w same saw = absurd same
