-- What a pass knows of the segments it goes on knowing.
use Rattle.std.proofs.Common.{◌≡◌, ℕ, ◌*◌, ◌++◌, ◌≤◌, List, length, length-append, ap, refl, arith}
use Rattle.cqs_slots.specs.Slots.{Segments, IsLater}
use Rattle.cqs_slots.specs.Told.{Knows}
use Rattle.cqs_slots.proofs.Loads as loads
use Rattle.cqs_rule_laws.specs.declared.view.View.{View}
use Rattle.cqs_rule_laws.specs.Segments.{KnowsSegments}
use Rattle.cqs_rule_laws.specs.Lists.{IsPrefix}
use Rattle.cqs_rule_laws.specs.Views.{none_seen}

pub knows-later : {E S : Type 0} (slots : ℕ) (t u : Segments) (v : View E S) → IsLater t u → KnowsSegments slots t v
    → KnowsSegments slots u v
knows-later slots t u v later k = record {
  seen = loads.knows-later t u v.segments later k.seen;
  slots_are = k.slots_are;
  made = k.made;
}

-- more of them are known later
pub made-later : (cells : ℕ) (xs ys : List ℕ) → IsPrefix xs ys → cells ≤ 32 * length xs → cells ≤ 32 * length ys
made-later cells xs ys more made =
    let long : length ys ≡ length (xs ++ more.0) = ap length more.1 in
    let sum = length-append xs more.0 in omega arith

pub knows-nothing : (t : Segments) → Knows t none_seen
knows-nothing t = record {
  homes = (t.homes, refl);
  kept = (t.kept, refl);
  outs = (t.outs, refl);
  full = (t.full, refl);
  links = (t.links, refl);
  lit = omega arith;
}
