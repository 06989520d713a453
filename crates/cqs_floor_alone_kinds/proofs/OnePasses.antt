-- One of the running queue with its one pass is a semaphore as a floor needs it: each call by what it left of the pass.
use Rattle.std.proofs.Common.{◌≡◌, ◌⊎◌, inl, inr, ℕ, ◌+◌, ◌-◌, ◌<◌, ◌≤◌, nat_lt, Bool, true, false, List, [], ◌∷◌, ◌++◌, Option, Some, None, refl, ap, sym, ◌∙◌, subst, arith}
use Rattle.std.specs.List.{fold}
use Rattle.std.proofs.lemmas.List.Elements.{filter-append}
use Rattle.cqs_plan.specs.declared.plans.kind.Kind.{Kind}
use Rattle.cqs_plan.specs.Floor.{size_of}
use Rattle.cqs_core.specs.declared.entries.Entry.{Entry}
use Rattle.cqs_core.specs.declared.entries.Entry.TheVariants as entry
use Rattle.cqs_core.specs.SemaphoreEntries.{IsFirst, after_entry, at_door, object_after}
use Rattle.cqs_core.specs.SemaphoreObject.{Semaphore}
use Rattle.cqs_rule_laws.specs.Lists.{Has, without}
use Rattle.cqs_rule_laws.specs.declared.config.Place.{Place}
use Rattle.cqs_rule_laws.proofs.Lists.{has_append, has_without, without_has}
use Rattle.cqs_semaphore_client.specs.PlainHistories.{IsPlainHistory}
use Rattle.cqs_semaphore.specs.Calls.{Rests, plain_after}
use Rattle.cqs_semaphore.specs.Causes.{drawn_in}
use Rattle.cqs_semaphore.proofs.States.{entered-next}
use Rattle.cqs_floor_alone_kinds.specs.Soles.{Acquires, Cancels, EndsWait, IsLawful, Polls, Releases, is_in_line, object}
use Rattle.cqs_floor_alone_kinds.specs.SoleQueue.{IsFunded, IsStill, OnePass, is_news, news, sole_of}
use Rattle.cqs_floor_alone_kinds.specs.Waits.{WaitsAt}
use Rattle.cqs_floor_alone_kinds.proofs.News.{news-object, news-plain}
use Rattle.cqs_floor_alone_kinds.proofs.Objects.{left-next}
use Rattle.cqs_floor_alone_kinds.proofs.PassRests.{Comes, IsNext, has-append, has-next, rests-next, still-left, still-sent, still-waiting}

module _ {X T : Type 0} (q : OnePass X T) where
  -- the plain semaphore that a floor sees is the one after all that the pass has seen
  pub object-seen : (x : X) (kind : Option Kind) → (q.view x).opening.size ≡ size_of kind
      → object (sole_of q) kind x ≡ plain_after (q.view x)
  object-seen x kind is =
      news-object (size_of kind) (q.view x).seen ∙ ap (λ n. object_after n (q.view x).seen) (sym is)

  pub one-lawful : ((x : X) → q.mine x → IsPlainHistory (q.view x).opening.size (q.view x).seen)
      → IsLawful (sole_of q)
  one-lawful legal = record {
    some = λ x kind room waiting held funded. funded.rests.some;
    legal = λ x kind room waiting held funded.
        news-plain (size_of kind) (q.view x).seen
        (subst (λ n. IsPlainHistory n (q.view x).seen) funded.rests.size_is (legal x funded.mine));
    numbered = λ x wait kind room waiting held funded has.
        subst (λ (o : Semaphore). wait.index < o.next)
        (sym (object-seen x kind funded.rests.size_is))
        (funded.rests.drawn wait.index has.open_yet);
  }

  -- the pass of x, which is its first and is alone, has come so far in y
  abbrev ComesTo : X → X → List Entry → ℕ → List ℕ → Type 0
  ComesTo x y entries held waits =
      (q.view x).alone ≡ true → (q.view x).number ≡ 0 → Comes (q.view x) (q.view y) entries held waits

  module _ (x y : X) (mine : q.mine y) (capacity : q.space y ≡ q.space x) where
    -- An acquire.
    pub one-takes : ComesTo x y (entry.TakeNow 0 ∷ []) ((q.view x).facts.has.held + 1) (q.view x).facts.waits
        → ((q.view x).alone ≡ true → nat_lt 0 (plain_after (q.view x)).free ≡ true)
        → q.held y ≡ q.held x + 1 → Acquires (sole_of q) x None y
    one-takes comes free one_more kind room waiting held funded some =
        let v = q.view x in
        let w = q.view y in
        let c = comes funded.rests.alone funded.rests.number in
        let held_is : v.facts.has.held + 1 ≡ held + 1 = ap (λ n. n + 1) funded.rests.holds in
        let rests = subst (λ n. Rests v n v.facts.waits w) held_is c.rests in
        record {
          free = ap (λ (o : Semaphore). nat_lt 0 o.free) (object-seen x kind funded.rests.size_is)
              ∙ free funded.rests.alone;
          goes = record {
            appended = ap news c.seen ∙ filter-append is_news v.seen (entry.TakeNow 0 ∷ []);
            funded = record {
              sort = funded.sort;
              mine = mine;
              rests = rests-next v w (entry.TakeNow 0 ∷ []) c.same c.seen (size_of kind) room held (room - 1)
                  (held + 1) v.facts.waits funded.rests rests (omega arith)
                  (record { way = funded.rests.still.way; door = funded.rests.still.door })
                  funded.rests.drawn;
              permits = omega (arith, one_more, funded.permits);
              spare = omega (arith, capacity, funded.spare, some);
            };
          };
          keeps = λ wait has. has-next v w (entry.TakeNow 0 ∷ []) c.same c.seen wait has
              (subst (Has wait.index) (sym rests.waits_are) has.open_yet);
        }

    pub one-waits : (wait : Place)
        → ComesTo x y (entry.TakeDoor 0 ∷ entry.Enter 0 wait.index ∷ [])
        (q.view x).facts.has.held ((q.view x).facts.waits ++ wait.index ∷ [])
        → WaitsAt (q.view y) wait
        → ((q.view x).alone ≡ true → IsNext (plain_after (q.view x)) wait.index)
        → q.held y ≡ q.held x → Acquires (sole_of q) x (Some wait) y
    one-waits wait comes has_new next_is kept kind room waiting held funded some =
        let v = q.view x in
        let w = q.view y in
        let k = wait.index in
        let o = plain_after v in
        let c = comes funded.rests.alone funded.rests.number in
        let is : IsNext o k = next_is funded.rests.alone in
        let object_is = object-seen x kind funded.rests.size_is in
        let next : k ≡ (object (sole_of q) kind x).next =
        is.number ∙ ap (λ (o : Semaphore). o.next) (sym object_is) in
        let entries : ℕ → List Entry = λ n. entry.TakeDoor 0 ∷ entry.Enter 0 n ∷ [] in
        let rests = subst (λ n. Rests v n (v.facts.waits ++ k ∷ []) w) funded.rests.holds c.rests in
        let still : IsStill (fold after_entry o (entries k)) =
        subst (λ n. IsStill (fold after_entry o (entries n))) (sym is.number) (still-waiting o funded.rests.still) in
        record {
          none = ap (λ (o : Semaphore). nat_lt 0 o.free) object_is ∙ is.none;
          number = next;
          goes = record {
            appended = ap news c.seen ∙ filter-append is_news v.seen (entries k)
                ∙ ap (λ n. news v.seen ++ entries n) next;
            funded = record {
              sort = funded.sort;
              mine = mine;
              rests = rests-next v w (entries k) c.same c.seen (size_of kind) room held (room - 1) held
                  (v.facts.waits ++ k ∷ []) funded.rests rests (omega (arith, some)) still
                  (λ j has. subst (λ n. j < n) (sym (entered-next (at_door o 0) 0 k))
                  (below o k is j (has_append j v.facts.waits (k ∷ []) has) funded.rests.drawn));
              permits = kept ∙ funded.permits;
              spare = omega (arith, capacity, funded.spare, some);
            };
          };
          has = has_new;
          keeps = λ other has. has-next v w (entries k) c.same c.seen other has
              (subst (Has other.index) (sym rests.waits_are)
              (has-append other.index v.facts.waits (k ∷ []) has.open_yet));
        }
      where
        below : (o : Semaphore) (k : ℕ) → IsNext o k → (j : ℕ)
            → Has j (q.view x).facts.waits ⊎ Has j (k ∷ [])
            → ((i : ℕ) → Has i (q.view x).facts.waits → i < o.next) → j < o.next + 1
        below o k is j (inl was) drawn = omega (arith, drawn j was)
        below o k is j (inr (inl same)) drawn = omega (arith, same, is.number)
        below o k is j (inr (inr none)) drawn = absurd none

    -- A release.
    module _ (one_less : q.held y + 1 ≡ q.held x) where
      pub one-frees : ComesTo x y (entry.GiveFreed 0 ∷ []) ((q.view x).facts.has.held - 1) (q.view x).facts.waits
          → ((q.view x).alone ≡ true → (plain_after (q.view x)).line ≡ [])
          → Releases (sole_of q) x None y
      one-frees comes empty kind room waiting held funded some =
          let v = q.view x in
          let w = q.view y in
          let c = comes funded.rests.alone funded.rests.number in
          let held_is : v.facts.has.held - 1 ≡ held - 1 = ap (λ n. n - 1) funded.rests.holds in
          let rests = subst (λ n. Rests v n v.facts.waits w) held_is c.rests in
          record {
            empty = ap (λ (o : Semaphore). o.line) (object-seen x kind funded.rests.size_is)
                ∙ empty funded.rests.alone;
            goes = record {
              appended = ap news c.seen ∙ filter-append is_news v.seen (entry.GiveFreed 0 ∷ []);
              funded = record {
                sort = funded.sort;
                mine = mine;
                rests = rests-next v w (entry.GiveFreed 0 ∷ []) c.same c.seen (size_of kind) room held room
                    (held - 1) v.facts.waits funded.rests rests (omega arith)
                    (record { way = funded.rests.still.way; door = funded.rests.still.door })
                    funded.rests.drawn;
                permits = omega (arith, one_less, funded.permits);
                spare = omega (arith, capacity, funded.spare);
              };
            };
            keeps = λ wait has. has-next v w (entry.GiveFreed 0 ∷ []) c.same c.seen wait has
                (subst (Has wait.index) (sym rests.waits_are) has.open_yet);
          }

      -- a permit that was sent to the line and came to its first, in one call or in several
      pub one-sends : (k : ℕ)
          → ComesTo x y (entry.GiveSent 0 ∷ entry.Deliver k ∷ []) ((q.view x).facts.has.held - 1)
          (q.view x).facts.waits
          → ((q.view x).alone ≡ true → IsFirst k (plain_after (q.view x)).line)
          → Releases (sole_of q) x (Some k) y
      one-sends k comes first kind room waiting held funded some =
          let v = q.view x in
          let w = q.view y in
          let entries : List Entry = entry.GiveSent 0 ∷ entry.Deliver k ∷ [] in
          let c = comes funded.rests.alone funded.rests.number in
          let held_is : v.facts.has.held - 1 ≡ held - 1 = ap (λ n. n - 1) funded.rests.holds in
          let rests = subst (λ n. Rests v n v.facts.waits w) held_is c.rests in
          record {
            first = subst (λ (o : Semaphore). IsFirst k o.line) (sym (object-seen x kind funded.rests.size_is))
                (first funded.rests.alone);
            goes = record {
              appended = ap news c.seen ∙ filter-append is_news v.seen entries;
              funded = record {
                sort = funded.sort;
                mine = mine;
                rests = rests-next v w entries c.same c.seen (size_of kind) room held room (held - 1) v.facts.waits
                    funded.rests rests (omega arith) (still-sent (plain_after v) funded.rests.still k)
                    funded.rests.drawn;
                permits = omega (arith, one_less, funded.permits);
                spare = omega (arith, capacity, funded.spare);
              };
            };
            keeps = λ wait has. has-next v w entries c.same c.seen wait has
                (subst (Has wait.index) (sym rests.waits_are) has.open_yet);
          }

    -- The end of a wait.
    module _ (wait : Place) where
      abbrev number : ℕ
      number = wait.index

      abbrev others : List ℕ
      others = without number (q.view x).facts.waits

      one-ends : (e : Entry) (in_line : Bool) (kind : Option Kind) (room waiting held then : ℕ)
          → IsFunded q x kind room waiting held
          → 0 < waiting → Comes (q.view x) (q.view y) (e ∷ []) then others
          → IsStill (after_entry (plain_after (q.view x)) e)
          → (after_entry (plain_after (q.view x)) e).next ≡ (plain_after (q.view x)).next
          → drawn_in (e ∷ []) ≡ 0 → news (e ∷ []) ≡ e ∷ []
          → is_in_line number (plain_after (q.view x)).line ≡ in_line
          → q.held y ≡ then → then ≤ held + 1
          → EndsWait (sole_of q) wait in_line e then kind room waiting x y
      one-ends e in_line kind room waiting held then funded some c still next none fresh found permits few =
          let v = q.view x in
          let w = q.view y in
          record {
            found = subst (λ (o : Semaphore). is_in_line number o.line ≡ in_line)
                (sym (object-seen x kind funded.rests.size_is)) found;
            goes = record {
              appended = ap news c.seen ∙ filter-append is_news v.seen (e ∷ []) ∙ ap (λ es. news v.seen ++ es) fresh;
              funded = record {
                sort = funded.sort;
                mine = mine;
                rests = rests-next v w (e ∷ []) c.same c.seen (size_of kind) room held room then others
                    funded.rests c.rests (omega (arith, none)) still
                    (λ j has. omega (arith, next, funded.rests.drawn j (has_without j number v.facts.waits has).1));
                permits = permits;
                spare = omega (arith, capacity, funded.spare, some, few);
              };
            };
            keeps = λ other differs has. has-next v w (e ∷ []) c.same c.seen other has
                (subst (Has other.index) (sym c.rests.waits_are)
                (without_has other.index number v.facts.waits differs has.open_yet));
          }

      -- so much held, in the floor's count
      as-held : (es : List Entry) (more held : ℕ) → (q.view x).facts.has.held ≡ held
          → Comes (q.view x) (q.view y) es ((q.view x).facts.has.held + more) others
          → Comes (q.view x) (q.view y) es (held + more) others
      as-held es more held is c =
          subst (λ n. Comes (q.view x) (q.view y) es n others) (ap (λ n. n + more) is) c

      pub one-grants : ComesTo x y (entry.LookGranted 0 number ∷ []) ((q.view x).facts.has.held + 1) others
          → ((q.view x).alone ≡ true → is_in_line number (plain_after (q.view x)).line ≡ false)
          → q.held y ≡ q.held x + 1 → Polls (sole_of q) x wait true y
      one-grants comes gone one_more kind room waiting held funded some =
          one-ends (entry.LookGranted 0 number) false kind room waiting held (held + 1) funded some
          (as-held _ 1 held funded.rests.holds (comes funded.rests.alone funded.rests.number))
          (record { way = funded.rests.still.way; door = funded.rests.still.door }) refl refl refl
          (gone funded.rests.alone) (omega (arith, one_more, funded.permits)) (omega arith)

      pub one-lates : ComesTo x y (entry.Late 0 number ∷ []) ((q.view x).facts.has.held + 1) others
          → ((q.view x).alone ≡ true → is_in_line number (plain_after (q.view x)).line ≡ false)
          → q.held y ≡ q.held x + 1 → Cancels (sole_of q) x wait false y
      one-lates comes gone one_more kind room waiting held funded some =
          one-ends (entry.Late 0 number) false kind room waiting held (held + 1) funded some
          (as-held _ 1 held funded.rests.holds (comes funded.rests.alone funded.rests.number))
          (record { way = funded.rests.still.way; door = funded.rests.still.door }) refl refl refl
          (gone funded.rests.alone) (omega (arith, one_more, funded.permits)) (omega arith)

      module _ (kept : q.held y ≡ q.held x) where
        pub one-pends : ComesTo x y (entry.LookPending 0 number ∷ []) (q.view x).facts.has.held (q.view x).facts.waits
            → ((q.view x).alone ≡ true → is_in_line number (plain_after (q.view x)).line ≡ true)
            → Polls (sole_of q) x wait false y
        one-pends comes there kind room waiting held funded some =
            let v = q.view x in
            let w = q.view y in
            let c = comes funded.rests.alone funded.rests.number in
            let look : List Entry = entry.LookPending 0 number ∷ [] in
            let rests = subst (λ n. Rests v n v.facts.waits w) funded.rests.holds c.rests in
            record {
              found = subst (λ (o : Semaphore). is_in_line number o.line ≡ true)
                  (sym (object-seen x kind funded.rests.size_is)) (there funded.rests.alone);
              goes = record {
                appended = ap news c.seen ∙ filter-append is_news v.seen look;
                funded = record {
                  sort = funded.sort;
                  mine = mine;
                  rests = rests-next v w look c.same c.seen (size_of kind) room held room held v.facts.waits
                      funded.rests rests (omega arith)
                      (record { way = funded.rests.still.way; door = funded.rests.still.door })
                      funded.rests.drawn;
                  permits = kept ∙ funded.permits;
                  spare = omega (arith, capacity, funded.spare);
                };
              };
              keeps = λ other has. has-next v w look c.same c.seen other has
                  (subst (Has other.index) (sym rests.waits_are) has.open_yet);
            }

        -- the wait left the line, and the pass rests as it did
        pub one-leaves : ((q.view x).alone ≡ true → (plain_after (q.view x)).way ≡ 0
            → Comes (q.view x) (q.view y) (entry.Leave (q.view x).number number ∷ []) (q.view x).facts.has.held others)
            → ((q.view x).alone ≡ true → is_in_line number (plain_after (q.view x)).line ≡ true)
            → Cancels (sole_of q) x wait true y
        one-leaves leaves there kind room waiting held funded some =
            let v = q.view x in
            let w = q.view y in
            let gone = leaves funded.rests.alone funded.rests.still.way in
            let zero = subst (λ p. Comes v w (entry.Leave p number ∷ []) v.facts.has.held others)
            funded.rests.number gone in
            let c = subst (λ n. Comes v w (entry.Leave 0 number ∷ []) n others) funded.rests.holds zero in
            one-ends (entry.Leave 0 number) true kind room waiting held held funded some c
            (still-left (plain_after v) funded.rests.still number) (left-next (plain_after v) number) refl refl
            (there funded.rests.alone) (kept ∙ funded.permits) (omega arith)
