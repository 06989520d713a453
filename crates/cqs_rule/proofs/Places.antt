-- What a pass knows of places and of its waits it goes on knowing.
use Rattle.std.proofs.Common.{◌≡◌, List, sym, subst, ◌∙◌}
use Rattle.cqs_rule_laws.specs.declared.config.Place.{Place}
use Rattle.cqs_rule_laws.specs.declared.view.View.{View}
use Rattle.cqs_rule_laws.specs.declared.view.Facts.{Facts}
use Rattle.cqs_rule_laws.specs.Called.{Called}
use Rattle.cqs_rule_laws.specs.Placed.{GoesOn, KnowsPlace}
use Rattle.cqs_rule_laws.specs.Object.{Object}
use Rattle.cqs_rule.specs.declared.queue.tokens.Wait.{Wait}
use Rattle.cqs_rule_laws.specs.Lists.{Has}
use Rattle.cqs_rule_laws.specs.Saw.{Saw}
use Rattle.cqs_rule_laws.proofs.Places.{known-still, goes-saw, goes-called}
use Rattle.cqs_rule.specs.Waits.{HasWait, place_of}

module _ {E S : Type 0} where
  pub knows-at : (v w : View E S) (at on : Place) → w ≡ v → on ≡ at → KnowsPlace v at → KnowsPlace w on
  knows-at v w at on same place k = subst (λ (z : View E S × Place). KnowsPlace z.0 z.1)
      (λ i. (sym same i, sym place i)) k

  -- a wait that stays among the pass's waits is one of its own still, however the pass went on
  pub has-wait-on : (v w : View E S) (wait : Wait) → GoesOn v w → Has (place_of wait).index w.facts.waits
      → HasWait v wait → HasWait w wait
  has-wait-on v w wait goes still h = record {
    mine = h.mine ∙ sym goes.number;
    open_yet = still;
    place = known-still v w (place_of wait) goes h.place;
  }

module _ {E S : Type 0} (object : Object E) where
  -- after a step
  pub knows-saw : (v w : View E S) (f : Facts) (es : List E) (at : Place) → Saw object v f es w
      → KnowsPlace v at → KnowsPlace w at
  knows-saw v w f es at s k = known-still v w at (goes-saw object v w f es s) k

  -- after a call
  pub knows-called : (v w : View E S) (es last : List E) (at : Place) → Called object v es last w
      → KnowsPlace v at → KnowsPlace w at
  knows-called v w es last at c k = known-still v w at (goes-called object v w es last c) k

  -- a wait that is still among those of the pass is still one of its own after a call
  pub wait-kept : (v w : View E S) (es last : List E) (wait : Wait) → Called object v es last w
      → Has (place_of wait).index w.facts.waits → HasWait v wait → HasWait w wait
  wait-kept v w es last wait c still h = has-wait-on v w wait (goes-called object v w es last c) still h

  -- the same where all of them stay
  pub has-wait-called : (v w : View E S) (es last : List E) (wait : Wait) → Called object v es last w
      → w.facts.waits ≡ v.facts.waits → HasWait v wait → HasWait w wait
  has-wait-called v w es last wait c same h =
      wait-kept v w es last wait c (subst (Has (place_of wait).index) (sym same) h.open_yet) h
