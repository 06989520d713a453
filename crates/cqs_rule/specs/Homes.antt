-- Where a pass keeps that segments stand, so that it needn't look for them again.
use Rattle.std.specs.Prelude.{◌≡◌, Some}
use Rattle.cqs_rule_laws.specs.declared.view.View.{View}
use Rattle.cqs_rule_laws.specs.Placed.{KnowsFirst}
use Rattle.cqs_rule.specs.declared.queue.homes.Home.{Home}
use Rattle.cqs_rule.specs.declared.queue.homes.Homes.{Homes}

module _ {E S : Type 0} where
  -- the segment was made there, as the pass knows
  abbrev pub KnowsHome : View E S → Home → Type 0
  KnowsHome v home = KnowsFirst v home.id home.first

  pub record KnowsHomes (v : View E S) (homes : Homes) : Type 0 where
    pub suspended : (home : Home) → homes.suspended ≡ Some home → KnowsHome v home
    pub resumed : (home : Home) → homes.resumed ≡ Some home → KnowsHome v home
