-- The give of a pool with one pass: the element becomes free, or is sent to the first of the line.
use Rattle.std.proofs.Common.{◌≡◌, ◌≢◌, ◌⊎◌, inl, inr, ℕ, zero, suc, ◌+◌, ◌-◌, ◌<◌, ◌≤◌, ◌==◌, List, [], ◌∷◌, ◌++◌, length, slice_get, vec_capacity, Some, None, refl, ap, sym, ◌∙◌, subst, eq-eqb, arith}
use Rattle.std.proofs.lemmas.Bool.{cases_eq}
use Rattle.std.proofs.lemmas.List.{length_push}
use Rattle.cqs_core.specs.Keyed as keyed
use Rattle.cqs_core.specs.QueueLine.{Waiting}
use Rattle.cqs_core.specs.SemaphoreEntries.{IsFirst}
use Rattle.cqs_core.proofs.Counts.{bit}
use Rattle.cqs_plan.specs.declared.floors.answers.FloorGive.TheVariants.{Free, Sent}
use Rattle.cqs_plan.specs.declared.plans.kind.Kind.TheVariants as kind
use Rattle.cqs_plan.specs.Floor.{size_of}
use Rattle.cqs_plan.specs.FloorHistory.{frees, sends}
use Rattle.cqs_pool_object.specs.declared.entries.PoolEntry.{PoolEntry}
use Rattle.cqs_pool_object.specs.declared.entries.PoolEntry.TheVariants as entry
use Rattle.cqs_pool_object.specs.PoolEntries.{less}
use Rattle.cqs_pool_object.specs.PoolObject as plain
use Rattle.cqs_pool_object.specs.PoolObject.{times}
use Rattle.cqs_pool.specs.Alone.{IsFirstOf, IsOnlyCaller}
use Rattle.cqs_pool.specs.Calls.{IsMine, plain_after}
use Rattle.cqs_pool.proofs.ElementTimes.{times-gone, times-other}
use Rattle.cqs_rule_laws.specs.declared.view.View.{View}
use Rattle.cqs_rule_laws.specs.Lists.{without}
use Rattle.cqs_rule.specs.Passes.{pass_view}
use Rattle.cqs_floor_common.specs.declared.held.HeldElement.{HeldElement}
use Rattle.cqs_floor_common.specs.HeldElements.{all_held, elements_held, held_by, with_less}
use Rattle.cqs_floor_common.proofs.HeldElements.{all-less, held-less, length-less}
use Rattle.cqs_floor_alone_kinds.specs.declared.pool_sole.PoolSole.{PoolSole}
use Rattle.cqs_floor_alone_kinds.specs.PoolEnds.{HasPlaced}
use Rattle.cqs_floor_alone_kinds.specs.SolePool.{store_pool}
use Rattle.cqs_floor_alone_kinds.specs.Stores.{Releases}
use Rattle.cqs_floor_alone_kinds.proofs.PoolRests.{Comes, plain-next, rests-next}
use Rattle.cqs_floor_alone_kinds.proofs.PoolSole.{seen-object, less-first, done-by, keeps-by}

less-line : (k : ℕ) (line : List Waiting) → IsFirstOf line k
    → length (keyed.without (λ w. w.wait) k line) + 1 ≡ length line
less-line k [] first = absurd first
less-line k (w ∷ line) first = rw (eq-eqb k w.wait (sym first)) (omega arith)

first-of : (line : List Waiting) (k : ℕ) → IsFirstOf line k → IsFirst k line
first-of [] k first = absurd first
first-of (w ∷ line) k first = first

no-way : (way : List ℕ) (line : List Waiting) (k : ℕ) → IsFirstOf line k → (way ≡ []) ⊎ (line ≡ []) → way ≡ []
no-way way line k first (inl none) = none
no-way way line k first (inr empty) = absurd (subst (λ l. IsFirstOf l k) empty first)

module _ (x y : PoolSole) (mine : IsMine y.pool y.pass) (capacity : vec_capacity y.held ≡ vec_capacity x.held) where
  abbrev v : View PoolEntry (Unit {0})
  v = pass_view x.pass

  abbrev w : View PoolEntry (Unit {0})
  w = pass_view y.pass

  abbrev o : plain.Pool
  o = plain_after v

  -- A give.
  module _ (job e : ℕ) (first : slice_get (elements_held job x.held.items) 0 ≡ Some e)
      (items : y.held.items ≡ keyed.without (λ h. h.job) job x.held.items) where
    some-held : 0 < length (elements_held job x.held.items)
    some-held = some (elements_held job x.held.items) first
      where
        some : (xs : List ℕ) → slice_get xs 0 ≡ Some e → 0 < length xs
        some [] got = absurd (cc)
        some (z ∷ xs) got = omega arith

    there-of : (held : List (List ℕ)) → 0 < length (held_by held job) → job < length held
    there-of held many = go held job many
      where
        go : (held : List (List ℕ)) (job : ℕ) → 0 < length (held_by held job) → job < length held
        go [] job many = absurd (omega (arith, many))
        go (es ∷ held) zero many = omega arith
        go (es ∷ held) (suc job) many = omega (arith, go held job many)

    here-less : (held : List (List ℕ)) → 0 < length (held_by held job)
        → ((j : ℕ) → elements_held j x.held.items ≡ held_by held j)
        → (j : ℕ) → elements_held j y.held.items ≡ held_by (with_less held job) j
    here-less held many here j =
        ap (elements_held j) items ∙ held-less held x.held.items job (there-of held many) here j

    hands-less : (entries : List PoolEntry) (waits : List ℕ) → Comes v w entries (without e v.facts.has.slots) waits
        → ((n : ℕ) → (times n (all_held x.held.items) ≤ times n v.facts.has.slots) × (times n v.facts.has.slots ≤ 1))
        → (n : ℕ) → (times n (all_held y.held.items) ≤ times n w.facts.has.slots) × (times n w.facts.has.slots ≤ 1)
    hands-less entries waits c hands n =
        let all : times n (all_held y.held.items) + bit (e == n) ≡ times n (all_held x.held.items)
        = ap (λ hs. times n (all_held hs) + bit (e == n)) items ∙ all-less job e x.held.items n first in
        let slots : times n w.facts.has.slots ≡ times n (without e v.facts.has.slots)
        = ap (times n) c.rests.elements_are in
        (go (cases_eq e n) all slots, omega (arith, slots, times-gone e n v.facts.has.slots, (hands n).1))
      where
        go : (e ≡ n) ⊎ (e ≢ n) → times n (all_held y.held.items) + bit (e == n) ≡ times n (all_held x.held.items)
            → times n w.facts.has.slots ≡ times n (without e v.facts.has.slots)
            → times n (all_held y.held.items) ≤ times n w.facts.has.slots
        go (inl same) all slots =
            let one : bit (e == n) ≡ 1 = ap bit (eq-eqb e n same) in
            omega (arith, all, one, (hands n).0, (hands n).1)
        go (inr other) all slots =
            omega (arith, all, slots, (hands n).0, times-other e n v.facts.has.slots other)

    pub pool-frees : IsOnlyCaller w → HasPlaced e None v w → y.free ≡ x.free + 1 → y.line ≡ x.line
        → Releases store_pool job x (Free e) y
    pool-frees stays placed free_more line_same = λ kind room waiting held funded some.
        let empty : o.line ≡ [] = placed.goes in
        let size = funded.rests.size_is in
        let c : Comes v w (entry.Put 0 e ∷ []) (without e v.facts.has.slots) v.facts.waits = record {
          same = placed.same;
          seen = placed.seen ∙ ap (λ p. v.seen ++ entry.Put p e ∷ []) funded.rests.number;
          rests = placed.rests;
          only = stays;
        } in
        let is = plain-next v w (entry.Put 0 e ∷ []) c.same c.seen in (
          ap (λ (p : plain.Pool). p.line) (seen-object x kind size) ∙ empty,
          record {
            oldest = ap (λ es. slice_get es 0) (sym (funded.here job)) ∙ first;
            goes = record {
              done = done-by x y kind (frees e) (entry.Put 0 e ∷ []) _ _ size c refl;
              funded = record {
                sort = funded.sort;
                mine = mine;
                rests = rests-next v w (entry.Put 0 e ∷ []) _ _ c (size_of kind) room room funded.rests
                    (inr empty) (omega arith) funded.rests.drawn;
                here = here-less held some funded.here;
                hands = hands-less (entry.Put 0 e ∷ []) _ c funded.hands;
                spare = omega (
                  arith,
                  funded.spare,
                  capacity,
                  ap (λ (hs : List HeldElement). length hs) items,
                  length-less job x.held.items some-held,
                );
                free = omega (
                  arith,
                  free_more,
                  funded.free,
                  ap (λ (p : plain.Pool). length p.way) is,
                  length_push o.way e,
                );
                line = omega (arith, line_same, funded.line, ap (λ (p : plain.Pool). length p.line) is);
                few_wait = omega (arith, line_same, funded.few_wait);
              };
            };
            keeps = λ round wait has. (has.0, keeps-by x y (entry.Put 0 e ∷ []) _ _ c wait has.1 has.1.open_yet);
          },
        )

    pub pool-sends : (k : ℕ) → IsOnlyCaller w → HasPlaced e (Some k) v w → y.free ≡ x.free → y.line ≡ x.line - 1
        → Releases store_pool job x (Sent e k) y
    pool-sends k stays placed free_same line_less = λ kind room waiting held funded some.
        let size = funded.rests.size_is in
        let none : o.way ≡ [] = no-way o.way o.line k placed.goes funded.rests.still in
        let entries : List PoolEntry = entry.Put 0 e ∷ entry.Deliver k e ∷ [] in
        let c : Comes v w entries (without e v.facts.has.slots) v.facts.waits = record {
          same = placed.same;
          seen = placed.seen
              ∙ ap (λ p. v.seen ++ (entry.Put p e ∷ entry.Deliver k e ∷ [])) funded.rests.number;
          rests = placed.rests;
          only = stays;
        } in
        let is = plain-next v w entries c.same c.seen in
        let gone : less e (o.way ++ e ∷ []) ≡ []
        = ap (λ way. less e (way ++ e ∷ [])) none ∙ less-first e [] in (
          subst (λ (p : plain.Pool). IsFirst k p.line) (sym (seen-object x kind size))
              (first-of o.line k placed.goes),
          record {
            oldest = ap (λ es. slice_get es 0) (sym (funded.here job)) ∙ first;
            goes = record {
              done = done-by x y kind (sends e k) entries _ _ size c refl;
              funded = record {
                sort = funded.sort;
                mine = mine;
                rests = rests-next v w entries _ _ c (size_of kind) room room funded.rests
                    (inl gone) (omega arith) funded.rests.drawn;
                here = here-less held some funded.here;
                hands = hands-less entries _ c funded.hands;
                spare = omega (
                  arith,
                  funded.spare,
                  capacity,
                  ap (λ (hs : List HeldElement). length hs) items,
                  length-less job x.held.items some-held,
                );
                free = omega (
                  arith,
                  free_same,
                  funded.free,
                  ap (λ (l : List ℕ). length l) none,
                  ap (λ (l : List ℕ). length l) gone,
                  ap (λ (p : plain.Pool). length p.way) is,
                );
                line = omega (
                  arith,
                  line_less,
                  funded.line,
                  less-line k o.line placed.goes,
                  ap (λ (p : plain.Pool). length p.line) is,
                );
                few_wait = omega (arith, line_less, funded.few_wait);
              };
            };
            keeps = λ round wait has. (has.0, keeps-by x y entries _ _ c wait has.1 has.1.open_yet);
          },
        )
