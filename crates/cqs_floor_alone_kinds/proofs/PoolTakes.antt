-- The calls of a pool with one pass by which a job comes to an element: a take of what is free, and the end of a wait
-- that was served.
use Rattle.std.proofs.Common.{◌≡◌, ◌≢◌, ◌⊎◌, inl, inr, ℕ, suc, ◌+◌, ◌-◌, ◌<◌, ◌≤◌, ◌==◌, nat_lt, true, false, List, [], ◌∷◌, ◌++◌, length, vec_capacity, Option, Some, None, refl, ap, sym, ◌∙◌, subst, eq-eqb, ne_eqb, lt-ltb, arith}
use Rattle.std.specs.Prelude.{slice_index}
use Rattle.std.proofs.lemmas.Bool.{cases_eq}
use Rattle.std.proofs.lemmas.List.{length_push}
use Rattle.cqs_core.specs.Keyed as keyed
use Rattle.cqs_core.specs.QueueLine.{Waiting}
use Rattle.cqs_core.proofs.Counts.{bit}
use Rattle.cqs_plan.specs.declared.plans.kind.Kind.{Kind}
use Rattle.cqs_plan.specs.declared.plans.kind.Kind.TheVariants as kind
use Rattle.cqs_plan.specs.Floor.{size_of}
use Rattle.cqs_plan.specs.FloorHistory.{takes, gets, is_late}
use Rattle.cqs_plan.proofs.PoolSeats.{AreSeated, came_in, given-found, seated-after}
use Rattle.cqs_pool_object.specs.declared.entries.PoolEntry.{PoolEntry}
use Rattle.cqs_pool_object.specs.declared.entries.PoolEntry.TheVariants as entry
use Rattle.cqs_pool_object.specs.PoolEntries.{after_entry, less, object_after}
use Rattle.cqs_pool_object.specs.PoolObject as plain
use Rattle.cqs_pool_object.specs.PoolObject.{IsGiven, times}
use Rattle.cqs_pool_object.specs.PoolOrder.{IsFirstOnWay}
use Rattle.cqs_pool_object.proofs.PoolCounts.{times-cons}
use Rattle.cqs_pool.specs.Alone.{IsOnlyCaller}
use Rattle.cqs_pool.specs.Answers.{IsInHand}
use Rattle.cqs_pool.specs.Calls.{IsMine, plain_after}
use Rattle.cqs_pool.specs.Causes.{drawn_in}
use Rattle.cqs_pool.specs.Elements.{number_of}
use Rattle.cqs_pool.specs.declared.element.Element.{Element}
use Rattle.cqs_pool.proofs.ElementTimes.{times-none}
use Rattle.cqs_rule_laws.specs.declared.config.Place.{Place}
use Rattle.cqs_rule_laws.specs.declared.view.View.{View}
use Rattle.cqs_rule_laws.specs.Lists.{without}
use Rattle.cqs_rule.specs.Passes.{pass_view}
use Rattle.cqs_rule_laws.proofs.Lists.{has_without, without_has}
use Rattle.cqs_floor_common.specs.declared.held.HeldElement.{HeldElement}
use Rattle.cqs_floor_common.specs.HeldElements.{all_held, elements_held, held_by, with_more}
use Rattle.cqs_floor_common.proofs.HeldElements.{all-more, held-more}
use Rattle.cqs_floor_alone_kinds.specs.declared.pool_sole.PoolSole.{PoolSole}
use Rattle.cqs_floor_alone_kinds.specs.declared.sole_resource.Left.TheVariants as left
use Rattle.cqs_floor_alone_kinds.specs.declared.sole_resource.Looked.TheVariants as looked
use Rattle.cqs_floor_alone_kinds.specs.declared.sole_resource.Taken.TheVariants as taken
use Rattle.cqs_floor_alone_kinds.specs.SolePool.{IsFunded, IsPool, store_pool}
use Rattle.cqs_floor_alone_kinds.specs.Stores.{Acquires, Cancels, KeepsOthers, Polls, is_holdable, is_in_line, stands}
use Rattle.cqs_floor_alone_kinds.proofs.PoolRests.{Comes, plain-next, rests-next}
use Rattle.cqs_floor_alone_kinds.proofs.PoolSole.{seen-object, legal-seen, less-first, done-by, keeps-by}

-- elements can be held
holdable-pool : (kind : Option Kind) → IsPool kind → is_holdable kind ≡ true
holdable-pool (Some (kind.Pool n)) sort = refl
holdable-pool (Some (kind.Semaphore n)) sort = absurd sort
holdable-pool (Some kind.Mutex) sort = absurd sort
holdable-pool (Some (kind.Latch n)) sort = absurd sort
holdable-pool (Some (kind.Rounds n m)) sort = absurd sort
holdable-pool None sort = absurd sort

-- the first on the way, and the rest
record Begins (e : ℕ) (way : List ℕ) : Type 0 where
  rest : List ℕ
  is : way ≡ e ∷ rest

begins-of : (e : ℕ) (way : List ℕ) → IsFirstOnWay e way → Begins e way
begins-of e [] first = absurd first
begins-of e (x ∷ way) first = record { rest = way; is = ap (λ y. y ∷ way) first }

line-alone : (n : ℕ) (line : List Waiting) → line ≡ []
    → keyed.without (λ w. w.wait) n (line ++ record { wait = n; pass = 0 } ∷ []) ≡ []
line-alone n line empty = rw (empty, eq-eqb n n refl) refl

no-line : (way : List ℕ) (line : List Waiting) (e : ℕ) → IsFirstOnWay e way → (way ≡ []) ⊎ (line ≡ []) → line ≡ []
no-line way line e first (inl none) = absurd (subst (IsFirstOnWay e) none first)
no-line way line e first (inr empty) = empty

module _ (x y : PoolSole) (mine : IsMine y.pool y.pass) (capacity : vec_capacity y.held ≡ vec_capacity x.held) where
  abbrev v : View PoolEntry (Unit {0})
  v = pass_view x.pass

  abbrev w : View PoolEntry (Unit {0})
  w = pass_view y.pass

  abbrev o : plain.Pool
  o = plain_after v

  -- the pass of x, where it is the only caller and its first, has come so far in y
  abbrev ComesTo : List PoolEntry → List ℕ → List ℕ → Type 0
  ComesTo entries slots waits = IsOnlyCaller v → v.number ≡ 0 → Comes v w entries slots waits

  -- a job has one more element
  module _ (job : ℕ) (element : Element) (items : y.held.items ≡ x.held.items ++ record {
    job = job;
    element = element;
  } ∷ []) where
    abbrev e : ℕ
    e = number_of element

    abbrev new : HeldElement
    new = record { job = job; element = element }

    here-more : (held : List (List ℕ)) → job < length held → ((j : ℕ) → elements_held j x.held.items ≡ held_by held j)
        → (j : ℕ) → elements_held j y.held.items ≡ held_by (with_more held job e) j
    here-more held below here j =
        ap (elements_held j) items ∙ held-more held x.held.items new below here j

    hands-more : (entries : List PoolEntry) (waits : List ℕ) → Comes v w entries (e ∷ v.facts.has.slots) waits
        → (IsInHand e v.facts → ⊥)
        → ((n : ℕ) → (times n (all_held x.held.items) ≤ times n v.facts.has.slots) × (times n v.facts.has.slots ≤ 1))
        → (n : ℕ) → (times n (all_held y.held.items) ≤ times n w.facts.has.slots) × (times n w.facts.has.slots ≤ 1)
    hands-more entries waits c fresh hands n =
        let all : times n (all_held y.held.items) ≡ times n (all_held x.held.items) + bit (e == n)
        = ap (λ hs. times n (all_held hs)) items ∙ all-more x.held.items new n in
        let slots : times n w.facts.has.slots ≡ bit (e == n) + times n v.facts.has.slots
        = ap (times n) c.rests.elements_are ∙ times-cons n e v.facts.has.slots in
        (omega (arith, all, slots, (hands n).0), go (cases_eq e n) slots)
      where
        go : (e ≡ n) ⊎ (e ≢ n) → times n w.facts.has.slots ≡ bit (e == n) + times n v.facts.has.slots
            → times n w.facts.has.slots ≤ 1
        go (inl same) slots =
            let none : times e v.facts.has.slots ≡ 0 = times-none e v.facts.has.slots fresh in
            let none_here : times n v.facts.has.slots ≡ 0 = subst (λ m. times m v.facts.has.slots ≡ 0) same none in
            let one : bit (e == n) ≡ 1 = ap bit (eq-eqb e n same) in
            omega (arith, slots, none_here, one)
        go (inr other) slots =
            let none : bit (e == n) ≡ 0 = ap bit (ne_eqb e n other) in
            omega (arith, slots, none, (hands n).1)

    length-more : length y.held.items ≡ length x.held.items + 1
    length-more = ap (λ (hs : List HeldElement). length hs) items ∙ length_push x.held.items new

    -- A take of what is free.
    pub pool-takes : (k : ℕ)
        → ComesTo (entry.Enter 0 k ∷ entry.Deliver k e ∷ []) (e ∷ v.facts.has.slots) v.facts.waits
        → (v.alone ≡ true → k ≡ o.next) → (IsOnlyCaller v → IsFirstOnWay e o.way)
        → (IsInHand e v.facts → ⊥)
        → y.free ≡ x.free - 1 → y.line ≡ x.line
        → Acquires store_pool job x (taken.Now e) y
    pool-takes k comes next first fresh free_less line_same = λ kind room waiting held funded some there.
        let only = funded.rests.only in
        let c = comes only funded.rests.number in
        let size = funded.rests.size_is in
        let k_is : k ≡ o.next = next only.0 in
        let entries : ℕ → List PoolEntry = λ n. entry.Enter 0 n ∷ entry.Deliver n e ∷ [] in
        let own : Comes v w (entries o.next) (e ∷ v.facts.has.slots) v.facts.waits
        = subst (λ n. Comes v w (entries n) (e ∷ v.facts.has.slots) v.facts.waits) k_is c in
        let begins : Begins e o.way = begins-of e o.way (first only) in
        let empty : o.line ≡ [] = no-line o.way o.line e (first only) funded.rests.still in
        let way_less : less e o.way ≡ begins.rest = ap (less e) begins.is ∙ less-first e begins.rest in
        let long : length o.way ≡ suc (length begins.rest) = ap (λ (l : List ℕ). length l) begins.is in
        let short : length (less e o.way) ≡ length begins.rest = ap (λ (l : List ℕ). length l) way_less in
        let line_none = line-alone o.next o.line empty in
        let is = plain-next v w (entries o.next) own.same own.seen in
        let seen = seen-object x kind size in
        record {
          free = ap (λ (p : plain.Pool). nat_lt 0 (length p.way)) seen
              ∙ lt-ltb 0 (length o.way) (omega (arith, long));
          first = sym (ap (λ (p : plain.Pool). slice_index p.way 0) seen ∙ ap (λ l. slice_index l 0) begins.is);
          goes = record {
            done = done-by x y kind (takes e) (entries o.next) _ _ size own refl;
            funded = record {
              sort = funded.sort;
              mine = mine;
              rests = rests-next v w (entries o.next) _ _ own (size_of kind) room (room - 1) funded.rests
                  (inr line_none) (omega (arith, some))
                  (λ j has. let under = funded.rests.drawn j has in omega (arith, under));
              here = here-more held there funded.here;
              hands = hands-more (entries o.next) v.facts.waits own fresh funded.hands;
              spare = omega (arith, funded.spare, capacity, length-more, some);
              free = omega (
                arith,
                free_less,
                funded.free,
                long,
                short,
                ap (λ (p : plain.Pool). length p.way) is,
              );
              line = omega (
                arith,
                line_same,
                funded.line,
                ap (λ (l : List Waiting). length l) empty,
                ap (λ (l : List Waiting). length l) line_none,
                ap (λ (p : plain.Pool). length p.line) is,
              );
              few_wait = omega (arith, line_same, funded.few_wait);
            };
          };
          keeps = λ round wait has. (has.0, keeps-by x y (entries o.next) _ _ own wait has.1 has.1.open_yet);
        }

    -- The end of a wait that was served.
    module _ (round : ℕ) (wait : Place) (line_same : y.line ≡ x.line) (free_same : y.free ≡ x.free) where
      abbrev number : ℕ
      number = wait.index

      came-so : (kind : Option Kind) (room waiting : ℕ) (held : List (List ℕ)) → IsFunded x kind room waiting held
          → IsGiven number v.number e o.served
          → (is_in_line number (stands store_pool kind x).line ≡ false)
          × (e ≡ Rattle.cqs_plan.specs.FloorHistory.came_for (size_of kind) (store_pool.history x) number)
      came-so kind room waiting held funded given =
          let seen = seen-object x kind funded.rests.size_is in
          let seated : AreSeated o = subst AreSeated
          (ap (λ n. object_after n v.seen) (sym funded.rests.size_is))
          (seated-after (size_of kind) v.seen (legal-seen x kind funded.rests.size_is funded.mine)) in
          let found = given-found o number v.number e seated given in (
            ap (λ (p : plain.Pool). is_in_line number p.line) seen ∙ found.0,
            sym (ap (λ (p : plain.Pool). came_in number p.served) seen ∙ found.1),
          )

      served-funded : (deed_entry : PoolEntry) (kind : Option Kind) (room waiting : ℕ) (held : List (List ℕ))
          → IsFunded x kind room waiting held → 0 < waiting → job < length held
          → Comes v w (deed_entry ∷ []) (e ∷ v.facts.has.slots) (without number v.facts.waits)
          → (IsInHand e v.facts → ⊥)
          → (after_entry o deed_entry).way ≡ o.way → (after_entry o deed_entry).line ≡ o.line
          → (after_entry o deed_entry).next ≡ o.next → drawn_in (deed_entry ∷ []) ≡ 0
          → IsFunded y kind room (waiting - 1) (with_more held job e)
      served-funded deed_entry kind room waiting held funded some there c fresh way line next none =
          let is = plain-next v w (deed_entry ∷ []) c.same c.seen in
          record {
            sort = funded.sort;
            mine = mine;
            rests = rests-next v w (deed_entry ∷ []) _ _ c (size_of kind) room room funded.rests
                (still funded.rests.still) (omega (arith, none))
                (λ j has. omega (arith, next, funded.rests.drawn j (has_without j number v.facts.waits has).1));
            here = here-more held there funded.here;
            hands = hands-more (deed_entry ∷ []) _ c fresh funded.hands;
            spare = omega (arith, funded.spare, capacity, length-more, some);
            free = omega (
              arith,
              free_same,
              funded.free,
              ap (λ (p : plain.Pool). length p.way) is,
              ap (λ (l : List ℕ). length l) way,
            );
            line = omega (
              arith,
              line_same,
              funded.line,
              ap (λ (p : plain.Pool). length p.line) is,
              ap (λ (l : List Waiting). length l) line,
            );
            few_wait = omega (arith, line_same, funded.few_wait);
          }
        where
          still : (o.way ≡ []) ⊎ (o.line ≡ [])
              → ((after_entry o deed_entry).way ≡ []) ⊎ ((after_entry o deed_entry).line ≡ [])
          still (inl none) = inl (way ∙ none)
          still (inr empty) = inr (line ∙ empty)

      keeps-others : (entries : List PoolEntry) (slots : List ℕ) → round ≡ 0
          → Comes v w entries slots (without number v.facts.waits) → KeepsOthers store_pool x round number y
      keeps-others entries slots first c = λ r other differs has. (
        has.0,
        keeps-by x y entries slots _ c other has.1
            (without_has other.index number v.facts.waits (differs (has.0 ∙ sym first)) has.1.open_yet),
      )

      pub pool-grants : round ≡ 0
          → ComesTo (entry.LookGranted 0 number e ∷ []) (e ∷ v.facts.has.slots) (without number v.facts.waits)
          → (v.alone ≡ true → IsGiven number v.number e o.served)
          → (IsInHand e v.facts → ⊥)
          → Polls store_pool job x round wait (looked.Got e) y
      pool-grants first comes given fresh = λ kind room waiting held funded some there.
          let only = funded.rests.only in
          let c = comes only funded.rests.number in
          let came = came-so kind room waiting held funded (given only.0) in
          record {
            holdable = holdable-pool kind funded.sort;
            came = came.1;
            ends = record {
              found = came.0;
              goes = record {
                done = done-by x y kind (gets number e) (entry.LookGranted 0 number e ∷ []) _ _ funded.rests.size_is c
                    refl;
                funded = served-funded (entry.LookGranted 0 number e) kind room waiting held funded some there c
                    fresh refl refl refl refl;
              };
              keeps = keeps-others (entry.LookGranted 0 number e ∷ []) _ first c;
            };
          }

      pub pool-lates : round ≡ 0
          → ComesTo (entry.Late 0 number e ∷ []) (e ∷ v.facts.has.slots) (without number v.facts.waits)
          → (v.alone ≡ true → IsGiven number v.number e o.served)
          → (IsInHand e v.facts → ⊥)
          → Cancels store_pool job x round wait (left.Late e) y
      pool-lates first comes given fresh = λ kind room waiting held funded some there.
          let only = funded.rests.only in
          let c = comes only funded.rests.number in
          let came = came-so kind room waiting held funded (given only.0) in
          record {
            holdable = holdable-pool kind funded.sort;
            came = came.1;
            ends = record {
              found = came.0;
              goes = record {
                done = done-by x y kind (is_late number e) (entry.Late 0 number e ∷ []) _ _ funded.rests.size_is c refl;
                funded = served-funded (entry.Late 0 number e) kind room waiting held funded some there c
                    fresh refl refl refl refl;
              };
              keeps = keeps-others (entry.Late 0 number e ∷ []) _ first c;
            };
          }

    -- The same, where the floor has the place of the wait by an equation.
    module _ (round : ℕ) (wait at : Place) (is : wait ≡ at) (line_same : y.line ≡ x.line)
        (free_same : y.free ≡ x.free) where
      pub pool-grants_at : round ≡ 0
          → ComesTo (entry.LookGranted 0 wait.index e ∷ []) (e ∷ v.facts.has.slots)
          (without wait.index v.facts.waits)
          → (v.alone ≡ true → IsGiven wait.index v.number e o.served) → (IsInHand e v.facts → ⊥)
          → Polls store_pool job x round at (looked.Got e) y
      pool-grants_at first comes given fresh =
          subst (λ a. Polls store_pool job x round a (looked.Got e) y) is
          (pool-grants round wait line_same free_same first comes given fresh)

      pub pool-lates_at : round ≡ 0
          → ComesTo (entry.Late 0 wait.index e ∷ []) (e ∷ v.facts.has.slots)
          (without wait.index v.facts.waits)
          → (v.alone ≡ true → IsGiven wait.index v.number e o.served) → (IsInHand e v.facts → ⊥)
          → Cancels store_pool job x round at (left.Late e) y
      pool-lates_at first comes given fresh =
          subst (λ a. Cancels store_pool job x round a (left.Late e) y) is
          (pool-lates round wait line_same free_same first comes given fresh)
