-- What is one of several kinds of resource is a resource as a floor needs it, where it is one in its own kind.
use Rattle.std.proofs.Common.{ℕ, Bool, List, Option}
use Rattle.cqs_plan.specs.declared.floors.answers.FloorDown.{FloorDown}
use Rattle.cqs_plan.specs.declared.floors.answers.FloorLeave.{FloorLeave}
use Rattle.cqs_plan.specs.declared.floors.answers.FloorLeave.TheVariants.{Gone, Late}
use Rattle.cqs_plan.specs.declared.floors.answers.FloorLook.{FloorLook}
use Rattle.cqs_plan.specs.declared.floors.answers.FloorLook.TheVariants.{Pending, Granted}
use Rattle.cqs_plan.specs.declared.floors.answers.FloorTake.{FloorTake}
use Rattle.cqs_plan.specs.declared.plans.kind.Kind.{Kind}
use Rattle.cqs_rule_laws.specs.declared.config.Place.{Place}
use Rattle.cqs_floor_shared.specs.declared.shared.SharedGive.{SharedGive}
use Rattle.cqs_floor_shared.specs.Entries.{Entries}
use Rattle.cqs_floor_shared_kinds.specs.declared.resource.Came.{Came}
use Rattle.cqs_floor_shared_kinds.specs.declared.resource.Came.TheVariants as came
use Rattle.cqs_floor_shared_kinds.specs.ShareCalls.{Arrives, CanArrive, CanCount, CanEnd, CanGive, CanMeet, CanSplit, CanTake, CanTell, CanWait, Comes, ComesTo, Counts, EndsWait, Gives, HasSplit, IsOpened, Leaves, Looks, Meets, Takes, Waits, party_less}
use Rattle.cqs_floor_shared_kinds.specs.Shares.{Funds, IsSame, Sees, Share, with_brought, with_more}

-- as one kind among others sees it
abbrev pub among : {X Y : Type 0} → Share Y → (X → Y) → Share X
among t f = record {
  seen = λ x. t.seen (f x);
  number = λ x. t.number (f x);
  met = λ x. t.met (f x);
  passes = λ x. t.passes (f x);
  limit = λ x. t.limit (f x);
  parties = λ x. t.parties (f x);
  family = λ x. t.family (f x);
  funded = λ x a. t.funded (f x) a;
  has = λ x round wait. t.has (f x) round wait;
}

module _ {X Y : Type 0} (t : Share Y) (f : X → Y) where
  same-among : (x y : X) → IsSame (among t f) x y → IsSame t (f x) (f y)
  same-among x y same = record {
    number = same.number;
    met = same.met;
    passes = same.passes;
    limit = same.limit;
    family = same.family;
  }

  sees-among : (k : Kind) (x y : X) (es : Entries) → Sees (among t f) k x es y → Sees t k (f x) es (f y)
  sees-among k x y es sees = record {
    more = sees.more;
    words = sees.words;
    seen = sees.seen;
    mine = sees.mine;
    others = sees.others;
    unnamed = sees.unnamed;
    legal = sees.legal;
    same = same-among x y sees.same;
  }

  comes-among : (a : Funds) (x y : X) (round : ℕ) (answer : Option FloorTake) (with_it : Bool) (b : Funds)
      (parties : List ℕ) → Comes (among t f) a x round answer with_it b parties y
      → Comes t a (f x) round answer with_it b parties (f y)
  comes-among a x y round answer with_it b parties made = record {
    drew = made.drew;
    sees = sees-among a.kind x y _ made.sees;
    funded = made.funded;
    parties_are = made.parties_are;
    keeps = made.keeps;
    delivered = made.delivered;
    may = made.may;
    element = made.element;
    drawn = made.drawn;
    had = made.had;
    worn = made.worn;
  }

  comes-to-among : (gets : ℕ → Funds → ℕ → Funds) (a : Funds) (job round : ℕ) (after : List ℕ) (x y : X) (c : Came)
      → ComesTo (among t f) gets a job round after x c y → ComesTo t gets a job round after (f x) c (f y)
  comes-to-among gets a job round after x y (came.Now element) made = comes-among a x y round _ _ _ _ made
  comes-to-among gets a job round after x y (came.Under k) made = comes-among a x y round _ _ _ _ made
  comes-to-among gets a job round after x y (came.Waits wait) made =
      (comes-among a x y round _ _ _ _ made.0, record { has = made.1.has; fresh = made.1.fresh })
  comes-to-among gets a job round after x y came.Worn made = comes-among a x y round _ _ _ _ made

  -- each call
  pub takes-among : (job : ℕ) (x y : X) (c : Came) → Takes (among t f) job x c y → Takes t job (f x) c (f y)
  takes-among job x y c made a funded holdable there =
      comes-to-among (λ j b e. with_more b j e) a job 0 (t.parties (f x)) x y c (made a funded holdable there)

  pub waits-among : (job : ℕ) (x y : X) (c : Came) → Waits (among t f) job x c y → Waits t job (f x) c (f y)
  waits-among job x y c made a funded latch there =
      comes-to-among (λ j b e. b) a job 0 (t.parties (f x)) x y c (made a funded latch there)

  pub arrives-among : (job round : ℕ) (x y : X) (c : Came) → Arrives (among t f) job round x c y
      → Arrives t job round (f x) c (f y)
  arrives-among job round x y c made a funded barrier there =
      comes-to-among (λ j b e. b) a job round (party_less (t.parties (f x)) round) x y c
      (made a funded barrier there)

  pub gives-among : (job : ℕ) (x y : X) (answer : SharedGive) → Gives (among t f) job x answer y
      → Gives t job (f x) answer (f y)
  gives-among job x y answer made a funded holdable some =
      let m = made a funded holdable some in
      record {
        sees = sees-among a.kind x y _ m.sees;
        tells = m.tells;
        funded = m.funded;
        parties_are = m.parties_are;
        keeps = m.keeps;
      }

  pub counts-among : (x y : X) (answer : FloorDown) → Counts (among t f) x answer y → Counts t (f x) answer (f y)
  counts-among x y answer made a funded latch =
      let m = made a funded latch in
      record {
        sees = sees-among a.kind x y _ m.sees;
        funded = m.funded;
        parties_are = m.parties_are;
        keeps = m.keeps;
      }

  pub looks-among : (job : ℕ) (x y : X) (round : ℕ) (wait : Place) (answer : FloorLook)
      → Looks (among t f) job x round wait answer y → Looks t job (f x) round wait answer (f y)
  looks-among job x y round wait Pending made = λ a funded there.
      let m = made a funded there in
      record {
        sees = sees-among a.kind x y _ m.sees;
        funded = m.funded;
        parties_are = m.parties_are;
        keeps = m.keeps;
      }
  looks-among job x y round wait (Granted element) made = λ a funded there.
      let m = made a funded there in
      record {
        sees = sees-among a.kind x y _ m.sees;
        funded = m.funded;
        found = m.found;
        parties_are = m.parties_are;
        keeps = m.keeps;
      }

  ends-among : (a b : Funds) (x y : X) (round : ℕ) (wait : Place) (answer : FloorLeave)
      → EndsWait (among t f) a round wait answer b x y → EndsWait t a round wait answer b (f x) (f y)
  ends-among a b x y round wait answer m = record {
    stays = m.stays;
    sees = sees-among a.kind x y _ m.sees;
    funded = m.funded;
    found = m.found;
    parties_are = m.parties_are;
    keeps = m.keeps;
  }

  pub leaves-among : (job : ℕ) (x y : X) (round : ℕ) (wait : Place) (answer : FloorLeave)
      → Leaves (among t f) job x round wait answer y → Leaves t job (f x) round wait answer (f y)
  leaves-among job x y round wait Gone made = λ a funded there.
      ends-among a a x y round wait Gone (made a funded there)
  leaves-among job x y round wait (Late element) made = λ a funded there.
      ends-among a (with_brought a job element) x y round wait (Late element) (made a funded there)

  pub meets-among : (given x y : X) → Meets (among t f) given x y → Meets t (f given) (f x) (f y)
  meets-among given x y made a b funded their same waitless seen family apart =
      let m = made a b funded their same waitless seen family apart in
      record {
        staying = m.staying;
        coming = m.coming;
        legal = m.legal;
        mine = m.mine;
        theirs = m.theirs;
        number = m.number;
        met = m.met;
        passes = m.passes;
        limit = m.limit;
        family = m.family;
        parties = m.parties;
        funded = m.funded;
        keeps = m.keeps;
      }

  pub split-among : (gives : ℕ) (x made y : X) → HasSplit (among t f) gives x made y
      → HasSplit t gives (f x) (f made) (f y)
  split-among gives x made y split a funded =
      let m = split a funded in
      record {
        looked = record {
          staying = m.looked.staying;
          mine = m.looked.mine;
          legal = m.looked.legal;
          same = same-among x y m.looked.same;
        };
        funded = m.funded;
        keeps = m.keeps;
        met = m.met;
        seen = m.seen;
        nothing = m.nothing;
        passes = m.passes;
        limit = m.limit;
        family = m.family;
        parties = m.parties;
        gives_each = m.gives_each;
        made_funded = m.made_funded;
      }

  pub opened-among : (k : Kind) (passes room : ℕ) (x : X) → IsOpened (among t f) k passes room x
      → IsOpened t k passes room (f x)
  opened-among k passes room x made = record {
    number = made.number;
    met = made.met;
    seen = made.seen;
    passes_are = made.passes_are;
    limit = made.limit;
    parties = made.parties;
    funded = made.funded;
  }

  -- and what each rests on
  pub can-take : (job : ℕ) (x : X) → CanTake t job (f x) → CanTake (among t f) job x
  can-take job x can = record { a = can.a; funded = can.funded; holdable = can.holdable; there = can.there }

  pub can-give : (job : ℕ) (x : X) → CanGive t job (f x) → CanGive (among t f) job x
  can-give job x can = record { a = can.a; funded = can.funded; holdable = can.holdable; some = can.some }

  pub can-count : (x : X) → CanCount t (f x) → CanCount (among t f) x
  can-count x can = record { a = can.a; funded = can.funded; latch = can.latch }

  pub can-wait : (job : ℕ) (x : X) → CanWait t job (f x) → CanWait (among t f) job x
  can-wait job x can = record { a = can.a; funded = can.funded; latch = can.latch; there = can.there }

  pub can-arrive : (job round : ℕ) (x : X) → CanArrive t job round (f x) → CanArrive (among t f) job round x
  can-arrive job round x can = record {
    a = can.a;
    funded = can.funded;
    barrier = can.barrier;
    there = can.there;
    party = can.party;
  }

  pub can-end : (job round : ℕ) (wait : Place) (x : X) → CanEnd t job round wait (f x)
      → CanEnd (among t f) job round wait x
  can-end job round wait x can = record { a = can.a; funded = can.funded; there = can.there; has = can.has }

  pub can-meet : (given x : X) → CanMeet t (f given) (f x) → CanMeet (among t f) given x
  can-meet given x can = record {
    a = can.a;
    b = can.b;
    funded = can.funded;
    given_funded = can.given_funded;
    kind = can.kind;
    waitless = can.waitless;
    all_seen = can.all_seen;
    family = can.family;
    apart = can.apart;
  }

  pub can-tell : (k : Kind) (x : X) → CanTell t k (f x) → CanTell (among t f) k x
  can-tell k x can = record {
    a = can.a;
    funded = can.funded;
    kind_is = can.kind_is;
    waitless = can.waitless;
    all_seen = can.all_seen;
    nothing = can.nothing;
    whole = can.whole;
  }

  pub can-split : (gives : ℕ) (x : X) → CanSplit t gives (f x) → CanSplit (among t f) gives x
  can-split gives x can = record { a = can.a; funded = can.funded; enough = can.enough }
