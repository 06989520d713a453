-- Resources of one sort among those of several: what a call of one does, in the words of all.
use Rattle.std.proofs.Common.{◌≡◌, ℕ, ◌+◌, ◌-◌, ◌<◌, nat_lt, Bool, true, false, List, Option, Some, None, ap, sym, ◌∙◌, subst}
use Rattle.cqs_core.specs.SemaphoreEntries.{IsFirst}
use Rattle.cqs_plan.specs.declared.floors.answers.FloorEnd.{FloorEnd}
use Rattle.cqs_plan.specs.declared.floors.answers.FloorDown.{FloorDown}
use Rattle.cqs_plan.specs.declared.floors.answers.FloorGive.{FloorGive}
use Rattle.cqs_plan.specs.declared.floors.answers.FloorGive.TheVariants.{Free, Sent}
use Rattle.cqs_plan.specs.declared.plans.kind.Kind.{Kind}
use Rattle.cqs_plan.specs.Floor.{size_of}
use Rattle.cqs_plan.specs.FloorCalls.{down_of}
use Rattle.cqs_plan.specs.FloorHistory.{Deed, Standing, joins, frees, sends, came_for, first_free, standing_in, to_come, ending, with_deed_in}
use Rattle.cqs_rule_laws.specs.declared.config.Place.{Place}
use Rattle.cqs_floor_alone_kinds.specs.declared.sole_resource.Left.{Left}
use Rattle.cqs_floor_alone_kinds.specs.declared.sole_resource.Left.TheVariants as left
use Rattle.cqs_floor_alone_kinds.specs.declared.sole_resource.Looked.{Looked}
use Rattle.cqs_floor_alone_kinds.specs.declared.sole_resource.Looked.TheVariants as looked
use Rattle.cqs_floor_alone_kinds.specs.declared.sole_resource.Taken.{Taken}
use Rattle.cqs_floor_alone_kinds.specs.declared.sole_resource.Taken.TheVariants as taken
use Rattle.cqs_floor_alone_kinds.specs.Stores.{Acquires, Arrives, Awaits, Brings, CanAcquire, CanArrive, CanCount, CanEnd, CanRelease, CanTell, CanWait, Cancels, Came, ComesBack, Counts, EndsWait, Goes, GoesOn, IsOpened, Joins, KeepsAll, KeepsOthers, Passes, Polls, Releases, Rests, Store, Tells, comes_in, deed_of, is_in_line, stands_in}

-- those of one sort are among all by f, with their waits
pub record IsAmong {X Y : Type 0} (s : Store X) (t : Store Y) (f : X → Y) : Type 0 where
  pub history : (x : X) → t.history (f x) ≡ s.history x
  pub funds : (x : X) (kind : Option Kind) (room waiting : ℕ) (held : List (List ℕ))
      → s.funded x kind room waiting held → t.funded (f x) kind room waiting held
  pub funded : (x : X) (kind : Option Kind) (room waiting : ℕ) (held : List (List ℕ))
      → t.funded (f x) kind room waiting held → s.funded x kind room waiting held
  pub had : (x : X) (round : ℕ) (wait : Place) → s.has x round wait → t.has (f x) round wait
  pub has : (x : X) (round : ℕ) (wait : Place) → t.has (f x) round wait → s.has x round wait

module _ {X Y : Type 0} (s : Store X) (t : Store Y) (f : X → Y) (among : IsAmong s t f) where
  stands-among : (kind : Option Kind) (x : X) (round : ℕ) → stands_in t kind (f x) round ≡ stands_in s kind x round
  stands-among kind x round = ap (λ h. standing_in (size_of kind) h round) (among.history x)

  comes-among : (kind : Option Kind) (x : X) (round : ℕ) → comes_in t kind (f x) round ≡ comes_in s kind x round
  comes-among kind x round = ap (λ h. to_come (size_of kind) h round) (among.history x)

  -- where a call may be made
  pub acquire-among : (job : ℕ) (x : X) → CanAcquire t job (f x) → CanAcquire s job x
  acquire-among job x can = record {
    kind = can.kind;
    room = can.room;
    waiting = can.waiting;
    held = can.held;
    holdable = can.holdable;
    funded = among.funded x _ _ _ _ can.funded;
    some = can.some;
    there = can.there;
  }

  pub release-among : (job : ℕ) (x : X) → CanRelease t job (f x) → CanRelease s job x
  release-among job x can = record {
    kind = can.kind;
    room = can.room;
    waiting = can.waiting;
    held = can.held;
    holdable = can.holdable;
    funded = among.funded x _ _ _ _ can.funded;
    some = can.some;
  }

  pub count-among : (x : X) → CanCount t (f x) → CanCount s x
  count-among x can = record {
    kind = can.kind;
    room = can.room;
    waiting = can.waiting;
    held = can.held;
    latch = can.latch;
    funded = among.funded x _ _ _ _ can.funded;
  }

  pub wait-among : (job : ℕ) (x : X) → CanWait t job (f x) → CanWait s job x
  wait-among job x can = record {
    kind = can.kind;
    room = can.room;
    waiting = can.waiting;
    held = can.held;
    latch = can.latch;
    funded = among.funded x _ _ _ _ can.funded;
    some = can.some;
    there = can.there;
  }

  pub arrive-among : (job round : ℕ) (x : X) → CanArrive t job round (f x) → CanArrive s job round x
  arrive-among job round x can = record {
    kind = can.kind;
    room = can.room;
    waiting = can.waiting;
    held = can.held;
    barrier = can.barrier;
    funded = among.funded x _ _ _ _ can.funded;
    some = can.some;
    there = can.there;
    to_come = subst (λ n. 0 < n) (comes-among can.kind x round) can.to_come;
  }

  pub end-among : (job round : ℕ) (x : X) (wait : Place) → CanEnd t job round wait (f x)
      → CanEnd s job round wait x
  end-among job round x wait can = record {
    kind = can.kind;
    room = can.room;
    waiting = can.waiting;
    held = can.held;
    funded = among.funded x _ _ _ _ can.funded;
    some = can.some;
    there = can.there;
    has = among.has x round wait can.has;
  }

  pub tell-among : (kind : Kind) (x : X) → CanTell t kind (f x) → CanTell s kind x
  tell-among kind x can = record {
    room = can.room;
    waiting = can.waiting;
    held = can.held;
    funded = among.funded x _ _ _ _ can.funded;
  }

  pub opened-among : (kind : Kind) (room : ℕ) (x : X) → IsOpened s kind room x → IsOpened t kind room (f x)
  opened-among kind room x opened = record {
    fresh = among.history x ∙ opened.fresh;
    funded = λ jobs. among.funds x _ _ _ _ (opened.funded jobs);
  }

  module _ (x y : X) where
    goes-among : (round : ℕ) (deed : Deed) (kind : Option Kind) (room waiting : ℕ) (held : List (List ℕ))
        → Goes s x round deed kind room waiting held y → Goes t (f x) round deed kind room waiting held (f y)
    goes-among round deed kind room waiting held goes = record {
      done = among.history y ∙ goes.done
          ∙ ap (λ h. with_deed_in (size_of kind) h round deed) (sym (among.history x));
      funded = among.funds y _ _ _ _ goes.funded;
    }

    keeps-among : KeepsAll s x y → KeepsAll t (f x) (f y)
    keeps-among keeps round wait has = among.had y round wait (keeps round wait (among.has x round wait has))

    others-among : (round k : ℕ) → KeepsOthers s x round k y → KeepsOthers t (f x) round k (f y)
    others-among round k keeps r wait differs has =
        among.had y r wait (keeps r wait differs (among.has x r wait has))

    rests-among : (kind : Option Kind) (room waiting : ℕ) (held : List (List ℕ))
        → Rests s x kind room waiting held y → Rests t (f x) kind room waiting held (f y)
    rests-among kind room waiting held rests = record {
      same = among.history y ∙ rests.same ∙ sym (among.history x);
      funded = among.funds y _ _ _ _ rests.funded;
      keeps = keeps-among rests.keeps;
    }

    joins-among : (round : ℕ) (wait : Place) (kind : Option Kind) (room waiting : ℕ) (held : List (List ℕ))
        → Joins s round wait kind room waiting held x y → Joins t round wait kind room waiting held (f x) (f y)
    joins-among round wait kind room waiting held m =
        let is : (stands_in s kind x round).next ≡ (stands_in t kind (f x) round).next =
        ap (λ (o : Standing). o.next) (sym (stands-among kind x round)) in
        record {
          number = m.number ∙ is;
          goes = subst (λ n. Goes t (f x) round (joins n) kind (room - 1) (waiting + 1) held (f y)) is
              (goes-among _ _ _ _ _ _ m.goes);
          has = among.had y round wait m.has;
          keeps = keeps-among m.keeps;
        }

    passes-among : (round : ℕ) (deed : Deed) (less : ℕ) (kind : Option Kind) (room waiting : ℕ)
        (held : List (List ℕ)) → Passes s round deed less kind room waiting held x y
        → Passes t round deed less kind room waiting held (f x) (f y)
    passes-among round deed less kind room waiting held m = record {
      goes = goes-among _ _ _ _ _ _ m.goes;
      keeps = keeps-among m.keeps;
    }

    pub acquires-among : (job : ℕ) (answer : Taken) → Acquires s job x answer y → Acquires t job (f x) answer (f y)
    acquires-among job (taken.Now e) made = λ kind room waiting held funded some there.
        let m = made kind room waiting held (among.funded x _ _ _ _ funded) some there in
        record {
          free = ap (λ (o : Standing). nat_lt 0 o.free) (stands-among kind x 0) ∙ m.free;
          first = m.first ∙ ap (first_free (size_of kind)) (sym (among.history x));
          goes = goes-among _ _ _ _ _ _ m.goes;
          keeps = keeps-among m.keeps;
        }
    acquires-among job (taken.Waits wait) made = λ kind room waiting held funded some there.
        let m = made kind room waiting held (among.funded x _ _ _ _ funded) some there in
        record {
          none = ap (λ (o : Standing). nat_lt 0 o.free) (stands-among kind x 0) ∙ m.none;
          joins = joins-among 0 wait kind room waiting held m.joins;
        }

    back-among : (job e : ℕ) (deed : Deed) (kind : Option Kind) (room waiting : ℕ) (held : List (List ℕ))
        → ComesBack s job e deed kind room waiting held x y
        → ComesBack t job e deed kind room waiting held (f x) (f y)
    back-among job e deed kind room waiting held m = record {
      oldest = m.oldest;
      goes = goes-among _ _ _ _ _ _ m.goes;
      keeps = keeps-among m.keeps;
    }

    pub releases-among : (job : ℕ) (answer : FloorGive) → Releases s job x answer y
        → Releases t job (f x) answer (f y)
    releases-among job (Free e) made = λ kind room waiting held funded some.
        let m = made kind room waiting held (among.funded x _ _ _ _ funded) some in (
          ap (λ (o : Standing). o.line) (stands-among kind x 0) ∙ m.0,
          back-among job e (frees e) kind room waiting held m.1,
        )
    releases-among job (Sent e k) made = λ kind room waiting held funded some.
        let m = made kind room waiting held (among.funded x _ _ _ _ funded) some in (
          subst (λ (o : Standing). IsFirst k o.line) (sym (stands-among kind x 0)) m.0,
          back-among job e (sends e k) kind room waiting held m.1,
        )

    pub counts-among : (answer : FloorDown) → Counts s x answer y → Counts t (f x) answer (f y)
    counts-among answer made = λ kind room waiting held funded.
        let m = made kind room waiting held (among.funded x _ _ _ _ funded) in (
          m.0 ∙ ap down_of (sym (comes-among kind x 0)),
          passes-among 0 (deed_of answer) 0 kind room waiting held m.1,
        )

    pub waits-among : (job : ℕ) (answer : Option Place) → Awaits s job x answer y → Awaits t job (f x) answer (f y)
    waits-among job None made = λ kind room waiting held funded some.
        let m = made kind room waiting held (among.funded x _ _ _ _ funded) some in
        (ap (nat_lt 0) (comes-among kind x 0) ∙ m.0, passes-among 0 _ 1 kind room waiting held m.1)
    waits-among job (Some wait) made = λ kind room waiting held funded some.
        let m = made kind room waiting held (among.funded x _ _ _ _ funded) some in
        (ap (nat_lt 0) (comes-among kind x 0) ∙ m.0, joins-among 0 wait kind room waiting held m.1)

    pub arrives-among : (job round : ℕ) (answer : Option Place) → Arrives s job round x answer y
        → Arrives t job round (f x) answer (f y)
    arrives-among job round None made = λ kind room waiting held funded some.
        let m = made kind room waiting held (among.funded x _ _ _ _ funded) some in
        (ap (nat_lt 1) (comes-among kind x round) ∙ m.0, passes-among round _ 1 kind room waiting held m.1)
    arrives-among job round (Some wait) made = λ kind room waiting held funded some.
        let m = made kind room waiting held (among.funded x _ _ _ _ funded) some in
        (ap (nat_lt 1) (comes-among kind x round) ∙ m.0, joins-among round wait kind room waiting held m.1)

    -- the same of a wait in the line, and of what came for it
    line-among : (round k : ℕ) (kind : Option Kind) (b : Bool) → is_in_line k (stands_in s kind x round).line ≡ b
        → is_in_line k (stands_in t kind (f x) round).line ≡ b
    line-among round k kind b found =
        subst (λ (o : Standing). is_in_line k o.line ≡ b) (sym (stands-among kind x round)) found

    came-among : (wait : Place) (e : ℕ) (kind : Option Kind) → Came s wait e kind x → Came t wait e kind (f x)
    came-among wait e kind came =
        came ∙ ap (λ h. came_for (size_of kind) h wait.index) (sym (among.history x))

    ends-among : (round : ℕ) (wait : Place) (b : Bool) (deed : Deed) (after : List (List ℕ)) (kind : Option Kind)
        (room waiting : ℕ) → EndsWait s round wait b deed after kind room waiting x y
        → EndsWait t round wait b deed after kind room waiting (f x) (f y)
    ends-among round wait b deed after kind room waiting m = record {
      found = line-among round wait.index kind b m.found;
      goes = goes-among _ _ _ _ _ _ m.goes;
      keeps = others-among _ _ m.keeps;
    }

    brings-among : (job round : ℕ) (wait : Place) (e : ℕ) (deed : Deed) (kind : Option Kind) (room waiting : ℕ)
        (held : List (List ℕ)) → Brings s job round wait e deed kind room waiting held x y
        → Brings t job round wait e deed kind room waiting held (f x) (f y)
    brings-among job round wait e deed kind room waiting held m = record {
      holdable = m.holdable;
      came = came-among wait e kind m.came;
      ends = ends-among round wait false deed _ kind room waiting m.ends;
    }

    goes_on-among : (round : ℕ) (wait : Place) (deed : Deed) (kind : Option Kind) (room waiting : ℕ)
        (held : List (List ℕ)) → GoesOn s round wait deed kind room waiting held x y
        → GoesOn t round wait deed kind room waiting held (f x) (f y)
    goes_on-among round wait deed kind room waiting held m = record {
      holds_nothing = m.holds_nothing;
      came = came-among wait 0 kind m.came;
      ends = ends-among round wait false deed _ kind room waiting m.ends;
    }

    pub polls-among : (job round : ℕ) (wait : Place) (answer : Looked) → Polls s job x round wait answer y
        → Polls t job (f x) round wait answer (f y)
    polls-among job round wait looked.Pending made = λ kind room waiting held funded some there.
        let m = made kind room waiting held (among.funded x _ _ _ _ funded) some there in
        (line-among round wait.index kind true m.0, rests-among _ _ _ _ m.1)
    polls-among job round wait (looked.Got e) made = λ kind room waiting held funded some there.
        brings-among job round wait e _ _ _ _ _ (made kind room waiting held (among.funded x _ _ _ _ funded) some there)
    polls-among job round wait looked.Through made = λ kind room waiting held funded some there.
        goes_on-among round wait _ _ _ _ _ (made kind room waiting held (among.funded x _ _ _ _ funded) some there)

    pub cancels-among : (job round : ℕ) (wait : Place) (answer : Left) → Cancels s job x round wait answer y
        → Cancels t job (f x) round wait answer (f y)
    cancels-among job round wait left.Gone made = λ kind room waiting held funded some there.
        ends-among round wait true _ _ _ _ _ (made kind room waiting held (among.funded x _ _ _ _ funded) some there)
    cancels-among job round wait (left.Late e) made = λ kind room waiting held funded some there.
        brings-among job round wait e _ _ _ _ _ (made kind room waiting held (among.funded x _ _ _ _ funded) some there)
    cancels-among job round wait left.Through made = λ kind room waiting held funded some there.
        goes_on-among round wait _ _ _ _ _ (made kind room waiting held (among.funded x _ _ _ _ funded) some there)

    pub tells-among : (kind : Kind) (answer : FloorEnd) → Tells s kind x answer y → Tells t kind (f x) answer (f y)
    tells-among kind answer made = λ room waiting held funded.
        let m = made room waiting held (among.funded x _ _ _ _ funded) in (
          m.0 ∙ ap (ending (size_of (Some kind))) (sym (among.history x)),
          rests-among _ _ _ _ m.1,
        )
