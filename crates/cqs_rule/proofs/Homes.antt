-- What a pass keeps of segments stays so.
use Rattle.std.proofs.Common.{◌≡◌, ℕ, ◌+◌, ◌/◌, ◌%◌, ◌≤◌, List, Some, None, ap, subst, sym}
use Rattle.cqs_rule_laws.specs.declared.view.Spare.{Spare}
use Rattle.cqs_rule_laws.specs.declared.view.View.{View}
use Rattle.cqs_rule_laws.specs.Placed.{GoesOn, KnowsFirst, KnowsPlace, place_at}
use Rattle.cqs_rule_laws.specs.SegmentSteps.{LeftBy}
use Rattle.cqs_rule_laws.specs.Views.{IsSame}
use Rattle.cqs_rule_laws.proofs.Places.{cell-after, first-cell, first-still, goes-same}
use Rattle.cqs_rule.specs.declared.queue.homes.Home.{Home}
use Rattle.cqs_rule.specs.declared.queue.homes.Homes.{Homes}
use Rattle.cqs_rule.specs.Homes.{KnowsHome, KnowsHomes}

module _ {E S : Type 0} (v w : View E S) where
  -- the pass went on
  pub keeps-homes : GoesOn v w → (homes : Homes) → KnowsHomes v homes → KnowsHomes w homes
  keeps-homes goes homes k = record {
    suspended = λ home e. first-still v w home.id home.first goes (k.suspended home e);
    resumed = λ home e. first-still v w home.id home.first goes (k.resumed home e);
  }

  pub same-homes : IsSame v w → (homes : Homes) → KnowsHomes v homes → KnowsHomes w homes
  same-homes same = keeps-homes (goes-same v w same)

  -- a call on segments was made
  pub goes-left : (heads : List (ℕ × ℕ)) (spares : List Spare) (duties : List ℕ) → LeftBy heads spares duties v w
      → GoesOn v w
  goes-left heads spares duties left = record {
    number = ap (λ (z : View E S). z.number) left.is;
    cells = ap (λ (z : View E S). z.cells) left.is;
    slots = ap (λ (z : View E S). z.slots) left.is;
    segments = left.segments;
  }

module _ {E S : Type 0} (v : View E S) where
  -- no segment is kept
  pub no-homes : KnowsHomes v (record { suspended = None; resumed = None })
  no-homes = record { suspended = λ home e. absurd (cc); resumed = λ home e. absurd (cc) }

  -- the segment of this cell is kept from now on
  pub home-of : (word k : ℕ) (home : Home) → v.slots ≤ 65536 → KnowsPlace v (place_at word k) → home.id ≡ k / 32
      → home.first + k % 32 ≡ word → KnowsHome v home
  home-of word k home few place id first =
      subst (λ s. KnowsFirst v s home.first) (sym id) (first-cell v word k home.first few first place)

  -- it is the one that is found there
  pub kept-is : (new : Home) → KnowsHome v new → (home : Home) → Some new ≡ Some home → KnowsHome v home
  kept-is new k home e = let same : new ≡ home = cc in subst (KnowsHome v) same k

  -- a cell of a segment that is kept
  pub place-of : (home : Home) (word k : ℕ) → KnowsHome v home → home.id ≡ k / 32 → word ≡ home.first + k % 32
      → KnowsPlace v (place_at word k)
  place-of home word k h id is = cell-after v home.id home.first word k h id is
