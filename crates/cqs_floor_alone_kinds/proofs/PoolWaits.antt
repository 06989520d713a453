-- The calls of a pool with one pass by which no job comes to an element: a take that waits, a look that finds the wait
-- in the line, and a cancel that does.
use Rattle.std.proofs.Common.{◌≡◌, ◌⊎◌, inl, inr, ℕ, ◌+◌, ◌-◌, ◌<◌, ◌≤◌, nat_lt, true, List, [], ◌∷◌, ◌++◌, length, vec_capacity, refl, ap, sym, ◌∙◌, subst, arith}
use Rattle.std.proofs.lemmas.List.{append-nil, length_push}
use Rattle.std.proofs.lemmas.List.Elements.{filter-append}
use Rattle.cqs_core.specs.Keyed as keyed
use Rattle.cqs_core.specs.QueueLine.{Waiting}
use Rattle.cqs_core.specs.QueueWaiters.{Waits}
use Rattle.cqs_core.proofs.Rising.{length-without}
use Rattle.cqs_plan.specs.declared.plans.kind.Kind.TheVariants as kind
use Rattle.cqs_plan.specs.Floor.{size_of}
use Rattle.cqs_plan.specs.FloorHistory.{of_elements, joins, leaves, elements_after, element_entries}
use Rattle.cqs_plan.proofs.PoolSeats.{waits-found}
use Rattle.cqs_pool_object.specs.declared.entries.PoolEntry.{PoolEntry}
use Rattle.cqs_pool_object.specs.declared.entries.PoolEntry.TheVariants as entry
use Rattle.cqs_pool_object.specs.PoolObject as plain
use Rattle.cqs_pool_object.specs.PoolObject.{times}
use Rattle.cqs_pool.specs.Alone.{IsOnlyCaller}
use Rattle.cqs_pool.specs.Calls.{IsMine, plain_after}
use Rattle.cqs_rule_laws.specs.declared.config.Place.{Place}
use Rattle.cqs_rule_laws.specs.declared.view.View.{View}
use Rattle.cqs_rule_laws.specs.Lists.{Has, without}
use Rattle.cqs_rule.specs.Passes.{pass_view}
use Rattle.cqs_rule_laws.proofs.Lists.{has_append, has_without, without_has}
use Rattle.cqs_floor_common.specs.declared.held.HeldElement.{HeldElement}
use Rattle.cqs_floor_common.specs.HeldElements.{all_held, elements_held, held_by}
use Rattle.cqs_floor_alone_kinds.specs.declared.pool_sole.PoolSole.{PoolSole}
use Rattle.cqs_floor_alone_kinds.specs.declared.sole_resource.Left.TheVariants as left
use Rattle.cqs_floor_alone_kinds.specs.declared.sole_resource.Looked.TheVariants as looked
use Rattle.cqs_floor_alone_kinds.specs.declared.sole_resource.Taken.TheVariants as taken
use Rattle.cqs_floor_alone_kinds.specs.SolePool.{is_news, news, store_pool}
use Rattle.cqs_floor_alone_kinds.specs.Stores.{Acquires, Cancels, Polls, is_in_line, stands}
use Rattle.cqs_floor_alone_kinds.specs.Waits.{WaitsAt}
use Rattle.cqs_floor_alone_kinds.proofs.PassRests.{has-append}
use Rattle.cqs_floor_alone_kinds.proofs.PoolRests.{Comes, plain-next, rests-next}
use Rattle.cqs_floor_alone_kinds.proofs.PoolSole.{seen-object, done-by, keeps-by}

module _ (x y : PoolSole) (mine : IsMine y.pool y.pass) (capacity : vec_capacity y.held ≡ vec_capacity x.held) where
  abbrev v : View PoolEntry (Unit {0})
  v = pass_view x.pass

  abbrev w : View PoolEntry (Unit {0})
  w = pass_view y.pass

  abbrev o : plain.Pool
  o = plain_after v

  -- the pass of x, where it is the only caller and its first, has come so far in y
  abbrev ComesTo : List PoolEntry → List ℕ → List ℕ → Type 0
  ComesTo entries slots waits = IsOnlyCaller v → v.number ≡ 0 → Comes v w entries slots waits

  -- the jobs hold what they held
  module _ (items : y.held.items ≡ x.held.items) where
    here-same : (held : List (List ℕ)) → ((j : ℕ) → elements_held j x.held.items ≡ held_by held j)
        → (j : ℕ) → elements_held j y.held.items ≡ held_by held j
    here-same held here j = ap (elements_held j) items ∙ here j

    hands-same : (entries : List PoolEntry) (waits : List ℕ) → Comes v w entries v.facts.has.slots waits
        → ((n : ℕ) → (times n (all_held x.held.items) ≤ times n v.facts.has.slots) × (times n v.facts.has.slots ≤ 1))
        → (n : ℕ) → (times n (all_held y.held.items) ≤ times n w.facts.has.slots) × (times n w.facts.has.slots ≤ 1)
    hands-same entries waits c hands n =
        let all : times n (all_held y.held.items) ≡ times n (all_held x.held.items)
        = ap (λ hs. times n (all_held hs)) items in
        let slots : times n w.facts.has.slots ≡ times n v.facts.has.slots = ap (times n) c.rests.elements_are in
        (omega (arith, all, slots, (hands n).0), omega (arith, slots, (hands n).1))

    length-same : length y.held.items ≡ length x.held.items
    length-same = ap (λ (hs : List HeldElement). length hs) items

    -- A take that waits.
    pub pool-waits : (job : ℕ) (wait : Place)
        → ComesTo (entry.Enter 0 wait.index ∷ []) v.facts.has.slots (v.facts.waits ++ wait.index ∷ [])
        → WaitsAt w wait → (v.alone ≡ true → (wait.index ≡ o.next) × (o.way ≡ []))
        → y.free ≡ x.free → y.line ≡ x.line + 1
        → Acquires store_pool job x (taken.Waits wait) y
    pool-waits job wait comes has_new plain_is free_same line_more = λ kind room waiting held funded some there.
        let only = funded.rests.only in
        let c = comes only funded.rests.number in
        let size = funded.rests.size_is in
        let k_is = (plain_is only.0).0 in
        let none = (plain_is only.0).1 in
        let seen = seen-object x kind size in
        let own : Comes v w (entry.Enter 0 o.next ∷ []) v.facts.has.slots (v.facts.waits ++ o.next ∷ [])
        = subst (λ n. Comes v w (entry.Enter 0 n ∷ []) v.facts.has.slots (v.facts.waits ++ n ∷ [])) k_is c in
        let is = plain-next v w (entry.Enter 0 o.next ∷ []) own.same own.seen in
        let next : (stands store_pool kind x).next ≡ o.next = ap (λ (p : plain.Pool). p.next) seen in
        record {
          none = ap (λ (p : plain.Pool). nat_lt 0 (length p.way)) seen ∙ ap (λ l. nat_lt 0 (length l)) none;
          joins = record {
            number = k_is ∙ sym next;
            goes = record {
              done = subst (λ n. store_pool.history y
                  ≡ of_elements (news v.seen
                  ++ element_entries (elements_after (size_of kind) (news v.seen)).next (joins n)))
                  (sym next)
                  (done-by x y kind (joins o.next) (entry.Enter 0 o.next ∷ []) _ _ size own refl);
              funded = record {
                sort = funded.sort;
                mine = mine;
                rests = rests-next v w (entry.Enter 0 o.next ∷ []) _ _ own (size_of kind) room (room - 1) funded.rests
                    (inl none) (omega (arith, some))
                    (λ j has. below j (has_append j v.facts.waits (o.next ∷ []) has) funded.rests.drawn);
                here = here-same held funded.here;
                hands = hands-same (entry.Enter 0 o.next ∷ []) _ own funded.hands;
                spare = omega (arith, funded.spare, capacity, length-same, some);
                free = omega (arith, free_same, funded.free, ap (λ (p : plain.Pool). length p.way) is);
                line = omega (
                  arith,
                  line_more,
                  funded.line,
                  ap (λ (p : plain.Pool). length p.line) is,
                  length_push o.line (record { wait = o.next; pass = 0 }),
                );
                few_wait = omega (arith, line_more, funded.few_wait, some);
              };
            };
            has = (refl, has_new);
            keeps = λ round other has. (
              has.0,
              keeps-by x y (entry.Enter 0 o.next ∷ []) _ _ own other has.1
                  (has-append other.index v.facts.waits (o.next ∷ []) has.1.open_yet),
            );
          };
        }
      where
        below : (j : ℕ) → Has j v.facts.waits ⊎ Has j (o.next ∷ [])
            → ((i : ℕ) → Has i v.facts.waits → i < o.next) → j < o.next + 1
        below j (inl was) drawn = omega (arith, drawn j was)
        below j (inr (inl same)) drawn = omega (arith, same)
        below j (inr (inr none)) drawn = absurd none

    -- A look that finds the wait in the line.
    pub pool-pends : (job round : ℕ) (wait : Place)
        → ComesTo (entry.LookPending 0 wait.index ∷ []) v.facts.has.slots v.facts.waits
        → (v.alone ≡ true → Waits wait.index v.number o.line)
        → y.free ≡ x.free → y.line ≡ x.line
        → Polls store_pool job x round wait looked.Pending y
    pool-pends job round wait comes stands_there free_same line_same = λ kind room waiting held funded some there.
        let only = funded.rests.only in
        let c = comes only funded.rests.number in
        let number = wait.index in
        let is = plain-next v w (entry.LookPending 0 number ∷ []) c.same c.seen in (
          ap (λ (p : plain.Pool). is_in_line number p.line) (seen-object x kind funded.rests.size_is)
              ∙ waits-found number v.number o.line (stands_there only.0),
          record {
            same = ap of_elements (ap news c.seen
                ∙ filter-append is_news v.seen (entry.LookPending 0 number ∷ []) ∙ append-nil (news v.seen));
            funded = record {
              sort = funded.sort;
              mine = mine;
              rests = rests-next v w (entry.LookPending 0 number ∷ []) _ _ c (size_of kind) room room funded.rests
                  funded.rests.still (omega arith) funded.rests.drawn;
              here = here-same held funded.here;
              hands = hands-same (entry.LookPending 0 number ∷ []) _ c funded.hands;
              spare = omega (arith, funded.spare, capacity, length-same);
              free = omega (arith, free_same, funded.free, ap (λ (p : plain.Pool). length p.way) is);
              line = omega (arith, line_same, funded.line, ap (λ (p : plain.Pool). length p.line) is);
              few_wait = omega (arith, line_same, funded.few_wait);
            };
            keeps = λ r other has. (
              has.0,
              keeps-by x y (entry.LookPending 0 number ∷ []) _ _ c other has.1 has.1.open_yet,
            );
          },
        )

    -- A cancel that finds it there.
    pub pool-leaves : (job round : ℕ) (wait : Place) → round ≡ 0
        → ComesTo (entry.Leave 0 wait.index ∷ []) v.facts.has.slots (without wait.index v.facts.waits)
        → (v.alone ≡ true → Waits wait.index v.number o.line)
        → y.free ≡ x.free → y.line ≡ x.line - 1
        → Cancels store_pool job x round wait left.Gone y
    pool-leaves job round wait first comes stands_there free_same line_less =
        λ kind room waiting held funded some there.
        let only = funded.rests.only in
        let c = comes only funded.rests.number in
        let number = wait.index in
        let is = plain-next v w (entry.Leave 0 number ∷ []) c.same c.seen in
        let shorter : length (keyed.without (λ (q : Waiting). q.wait) number o.line) + 1 ≡ length o.line
        = length-without (λ (q : Waiting). q.wait) number (record { wait = number; pass = v.number }) o.line refl
        (stands_there only.0) in
        record {
          found = ap (λ (p : plain.Pool). is_in_line number p.line) (seen-object x kind funded.rests.size_is)
              ∙ waits-found number v.number o.line (stands_there only.0);
          goes = record {
            done = done-by x y kind (leaves number) (entry.Leave 0 number ∷ []) _ _ funded.rests.size_is c refl;
            funded = record {
              sort = funded.sort;
              mine = mine;
              rests = rests-next v w (entry.Leave 0 number ∷ []) _ _ c (size_of kind) room room funded.rests
                  (still number funded.rests.still) (omega arith)
                  (λ j has. funded.rests.drawn j (has_without j number v.facts.waits has).1);
              here = here-same held funded.here;
              hands = hands-same (entry.Leave 0 number ∷ []) _ c funded.hands;
              spare = omega (arith, funded.spare, capacity, length-same);
              free = omega (arith, free_same, funded.free, ap (λ (p : plain.Pool). length p.way) is);
              line = omega (
                arith,
                line_less,
                funded.line,
                shorter,
                ap (λ (p : plain.Pool). length p.line) is,
              );
              few_wait = omega (arith, line_less, funded.few_wait);
            };
          };
          keeps = λ r other differs has. (
            has.0,
            keeps-by x y (entry.Leave 0 number ∷ []) _ _ c other has.1
                (without_has other.index number v.facts.waits (differs (has.0 ∙ sym first)) has.1.open_yet),
          );
        }
      where
        still : (n : ℕ) → (o.way ≡ []) ⊎ (o.line ≡ [])
            → (o.way ≡ []) ⊎ (keyed.without (λ (q : Waiting). q.wait) n o.line ≡ [])
        still n (inl none) = inl none
        still n (inr empty) = inr (rw empty refl)

    -- The same, where the floor has the place of the wait by an equation.
    module _ (job round : ℕ) (wait at : Place) (is : wait ≡ at) where
      pub pool-pends_at : ComesTo (entry.LookPending 0 wait.index ∷ []) v.facts.has.slots v.facts.waits
          → (v.alone ≡ true → Waits wait.index v.number o.line) → y.free ≡ x.free → y.line ≡ x.line
          → Polls store_pool job x round at looked.Pending y
      pool-pends_at comes there free line =
          subst (λ a. Polls store_pool job x round a looked.Pending y) is
          (pool-pends job round wait comes there free line)

      pub pool-leaves_at : round ≡ 0
          → ComesTo (entry.Leave 0 wait.index ∷ []) v.facts.has.slots (without wait.index v.facts.waits)
          → (v.alone ≡ true → Waits wait.index v.number o.line) → y.free ≡ x.free → y.line ≡ x.line - 1
          → Cancels store_pool job x round at left.Gone y
      pool-leaves_at first comes there free line =
          subst (λ a. Cancels store_pool job x round a left.Gone y) is
          (pool-leaves job round wait first comes there free line)

    pub pool-waits_at : (job : ℕ) (at wait : Place) → at ≡ wait
        → ComesTo (entry.Enter 0 wait.index ∷ []) v.facts.has.slots (v.facts.waits ++ wait.index ∷ [])
        → WaitsAt w wait → (v.alone ≡ true → (wait.index ≡ o.next) × (o.way ≡ []))
        → y.free ≡ x.free → y.line ≡ x.line + 1 → Acquires store_pool job x (taken.Waits at) y
    pool-waits_at job at wait is comes has plain_is free line =
        subst (λ a. Acquires store_pool job x (taken.Waits a) y) (sym is)
        (pool-waits job wait comes has plain_is free line)
