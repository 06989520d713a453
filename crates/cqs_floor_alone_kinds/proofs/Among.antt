-- Semaphores of one sort among those of several: what a call of one does, in the words of all.
use Rattle.std.proofs.Common.{◌≡◌, ℕ, ◌+◌, nat_lt, Bool, true, false, List, ◌++◌, Option, Some, None, length, ap, sym, ◌∙◌, subst}
use Rattle.cqs_plan.specs.declared.plans.kind.Kind.{Kind}
use Rattle.cqs_plan.specs.Floor.{size_of}
use Rattle.cqs_core.specs.declared.entries.Entry.{Entry}
use Rattle.cqs_core.specs.SemaphoreEntries.{IsFirst, object_after}
use Rattle.cqs_core.specs.SemaphoreObject.{Semaphore}
use Rattle.cqs_rule_laws.specs.declared.config.Place.{Place}
use Rattle.cqs_floor_alone_kinds.specs.declared.sole.Stand.{Stand}
use Rattle.cqs_floor_alone_kinds.specs.Soles.{Acquires, CanAcquire, CanEnd, CanRelease, CanStand, Cancels, EndsWait, Goes, IsOpened, KeepsAll, KeepsOthers, Polls, Releases, Sole, Tells, is_in_line, object}

-- those of one sort are among all by f, with their waits
pub record IsAmong {X Y : Type 0} (s : Sole X) (t : Sole Y) (f : X → Y) : Type 0 where
  pub entries : (x : X) → t.entries (f x) ≡ s.entries x
  pub funds : (x : X) (kind : Option Kind) (room waiting held : ℕ) → s.funded x kind room waiting held
      → t.funded (f x) kind room waiting held
  pub funded : (x : X) (kind : Option Kind) (room waiting held : ℕ) → t.funded (f x) kind room waiting held
      → s.funded x kind room waiting held
  pub had : (x : X) (wait : Place) → s.has x wait → t.has (f x) wait
  pub has : (x : X) (wait : Place) → t.has (f x) wait → s.has x wait

module _ {X Y : Type 0} (s : Sole X) (t : Sole Y) (f : X → Y) (among : IsAmong s t f) where
  object-among : (kind : Option Kind) (x : X) → object t kind (f x) ≡ object s kind x
  object-among kind x = ap (object_after (size_of kind)) (among.entries x)

  -- where a call may be made
  pub acquire-among : (x : X) → CanAcquire t (f x) → CanAcquire s x
  acquire-among x can = record {
    kind = can.kind;
    room = can.room;
    waiting = can.waiting;
    held = can.held;
    funded = among.funded x _ _ _ _ can.funded;
    some = can.some;
  }

  pub release-among : (x : X) → CanRelease t (f x) → CanRelease s x
  release-among x can = record {
    kind = can.kind;
    room = can.room;
    waiting = can.waiting;
    held = can.held;
    funded = among.funded x _ _ _ _ can.funded;
    some = can.some;
  }

  pub end-among : (x : X) (wait : Place) → CanEnd t wait (f x) → CanEnd s wait x
  end-among x wait can = record {
    kind = can.kind;
    room = can.room;
    waiting = can.waiting;
    held = can.held;
    funded = among.funded x _ _ _ _ can.funded;
    some = can.some;
    has = among.has x wait can.has;
  }

  pub stand-among : (x : X) → CanStand t (f x) → CanStand s x
  stand-among x (kind, can) = (
    kind,
    record {
      room = can.room;
      waiting = can.waiting;
      held = can.held;
      funded = among.funded x _ _ _ _ can.funded;
    },
  )

  pub opened-among : (kind : Option Kind) (takes : ℕ) (x : X) → IsOpened s kind takes x → IsOpened t kind takes (f x)
  opened-among kind takes x opened = record {
    fresh = among.entries x ∙ opened.fresh;
    funded = among.funds x _ _ _ _ opened.funded;
  }

  module _ (x y : X) where
    goes-among : (es : List Entry) (kind : Option Kind) (room waiting held : ℕ) → Goes s x es kind room waiting held y
        → Goes t (f x) es kind room waiting held (f y)
    goes-among es kind room waiting held goes = record {
      appended = among.entries y ∙ goes.appended ∙ ap (λ h. h ++ es) (sym (among.entries x));
      funded = among.funds y _ _ _ _ goes.funded;
    }

    keeps-among : KeepsAll s x y → KeepsAll t (f x) (f y)
    keeps-among keeps wait has = among.had y wait (keeps wait (among.has x wait has))

    others-among : (k : ℕ) → KeepsOthers s x k y → KeepsOthers t (f x) k (f y)
    others-among k keeps wait differs has = among.had y wait (keeps wait differs (among.has x wait has))

    pub acquires-among : (answer : Option Place) → Acquires s x answer y → Acquires t (f x) answer (f y)
    acquires-among None made = λ kind room waiting held funded some.
        let m = made kind room waiting held (among.funded x _ _ _ _ funded) some in
        record {
          free = ap (λ (o : Semaphore). nat_lt 0 o.free) (object-among kind x) ∙ m.free;
          goes = goes-among _ _ _ _ _ m.goes;
          keeps = keeps-among m.keeps;
        }
    acquires-among (Some wait) made = λ kind room waiting held funded some.
        let m = made kind room waiting held (among.funded x _ _ _ _ funded) some in
        let is : (object s kind x).next ≡ (object t kind (f x)).next =
        ap (λ (o : Semaphore). o.next) (sym (object-among kind x)) in
        record {
          none = ap (λ (o : Semaphore). nat_lt 0 o.free) (object-among kind x) ∙ m.none;
          number = m.number ∙ is;
          goes = rw (← is) (goes-among _ _ _ _ _ m.goes);
          has = among.had y wait m.has;
          keeps = keeps-among m.keeps;
        }

    pub releases-among : (answer : Option ℕ) → Releases s x answer y → Releases t (f x) answer (f y)
    releases-among None made = λ kind room waiting held funded some.
        let m = made kind room waiting held (among.funded x _ _ _ _ funded) some in
        record {
          empty = ap (λ (o : Semaphore). o.line) (object-among kind x) ∙ m.empty;
          goes = goes-among _ _ _ _ _ m.goes;
          keeps = keeps-among m.keeps;
        }
    releases-among (Some k) made = λ kind room waiting held funded some.
        let m = made kind room waiting held (among.funded x _ _ _ _ funded) some in
        record {
          first = subst (λ (o : Semaphore). IsFirst k o.line) (sym (object-among kind x)) m.first;
          goes = goes-among _ _ _ _ _ m.goes;
          keeps = keeps-among m.keeps;
        }

    -- the same funds, and the same of a wait in the line
    line-among : (k : ℕ) (kind : Option Kind) (b : Bool) → is_in_line k (object s kind x).line ≡ b
        → is_in_line k (object t kind (f x)).line ≡ b
    line-among k kind b found =
        subst (λ (o : Semaphore). is_in_line k o.line ≡ b) (sym (object-among kind x)) found

    ends-among : (wait : Place) (b : Bool) (e : Entry) (then : ℕ) (kind : Option Kind) (room waiting : ℕ)
        → EndsWait s wait b e then kind room waiting x y → EndsWait t wait b e then kind room waiting (f x) (f y)
    ends-among wait b e then kind room waiting m = record {
      found = line-among wait.index kind b m.found;
      goes = goes-among _ _ _ _ _ m.goes;
      keeps = others-among _ m.keeps;
    }

    pub polls-among : (wait : Place) (answer : Bool) → Polls s x wait answer y → Polls t (f x) wait answer (f y)
    polls-among wait false made = λ kind room waiting held funded some.
        let m = made kind room waiting held (among.funded x _ _ _ _ funded) some in
        record {
          found = line-among wait.index kind true m.found;
          goes = goes-among _ _ _ _ _ m.goes;
          keeps = keeps-among m.keeps;
        }
    polls-among wait true made = λ kind room waiting held funded some.
        ends-among wait false _ _ _ _ _ (made kind room waiting held (among.funded x _ _ _ _ funded) some)

    pub cancels-among : (wait : Place) (answer : Bool) → Cancels s x wait answer y
        → Cancels t (f x) wait answer (f y)
    cancels-among wait true made = λ kind room waiting held funded some.
        ends-among wait true _ _ _ _ _ (made kind room waiting held (among.funded x _ _ _ _ funded) some)
    cancels-among wait false made = λ kind room waiting held funded some.
        ends-among wait false _ _ _ _ _ (made kind room waiting held (among.funded x _ _ _ _ funded) some)

    pub tells-among : (stand : Stand) → Tells s x stand y → Tells t (f x) stand (f y)
    tells-among stand made kind room waiting held funded =
        let m = made kind room waiting held (among.funded x _ _ _ _ funded) in
        record {
          free = m.free ∙ ap (λ (o : Semaphore). o.free) (sym (object-among kind x));
          line = m.line ∙ ap (λ (o : Semaphore). length o.line) (sym (object-among kind x));
          all = subst (λ (o : Semaphore). o.held + o.free ≡ size_of kind) (sym (object-among kind x)) m.all;
          goes = goes-among _ _ _ _ _ m.goes;
          keeps = keeps-among m.keeps;
        }
