-- A pool as it opens; that a number is left where a resumption is owed or begun; and what one idle pass has in hand
-- becomes another's.
use Rattle.std.proofs.Common.{◌≡◌, ◌≢◌, inl, inr, ℕ, zero, suc, ◌+◌, ◌<◌, ◌≤◌, ◌==◌, List, [], ◌∷◌, ◌++◌, length, set, slice_get, get_or, replicate, Some, refl, ap, sym, ◌∙◌, arith, eq-eqb}
use Rattle.std.specs.List.{sum_by}
use Rattle.std.proofs.lemmas.List.{length-set, length-replicate, get_or-set_other}
use Rattle.std.proofs.lemmas.List.Sums.{sum_by-cons, sum_by-set, sum_by-append, get_or-le-sum_by}
use Rattle.cqs_core.specs.declared.cells.CoreCell.{CoreCell}
use Rattle.cqs_core.specs.declared.doings.Doing.{Doing}
use Rattle.cqs_core.specs.declared.doings.Doing.TheVariants as doing
use Rattle.cqs_core.specs.Numbered.{count_at}
use Rattle.cqs_core.specs.QueueLine.{door}
use Rattle.cqs_core.specs.QueueOpening.{value_cell, opened_queue}
use Rattle.cqs_core.specs.QueueState.{Queue}
use Rattle.cqs_core.proofs.Counts.{bit, count_at-none}
use Rattle.cqs_core.proofs.Places.{get-below}
use Rattle.cqs_core.proofs.QueueOpens.{get-replicate, picked-replicate, opened-sound, opened-waiters, opened-going, opened-ending}
use Rattle.cqs_core.proofs.QueueReaches.{reaches-few, begins-few}
use Rattle.cqs_pool_object.specs.PoolObject.{Pool, numbers_from, times}
use Rattle.cqs_pool_object.specs.PoolEntries.{object_after}
use Rattle.cqs_pool_object.specs.PoolShown.{PoolShape, IsPool, brings, has_it, has_given, is_given}
use Rattle.cqs_pool_object.specs.PoolLaws.{opening_shape, handed_over, MayReach}
use Rattle.cqs_pool_object.proofs.PoolCounts.{times-cons, times-without}
use Rattle.cqs_pool_object.proofs.PoolConserved.{long-numbers, conserved-after}

number-times : (e n k : ℕ) (payloads : ℕ → ℕ) → ((j : ℕ) → j < k + n → payloads j ≡ j)
    → times e (numbers_from k n) ≡ count_at (has_it e payloads) k (replicate n value_cell)
number-times e zero k payloads own = refl
number-times e (suc n) k payloads own =
    let rest = number-times e n (suc k) payloads (λ j low. own j (omega arith)) in
    let first = times-cons e k (numbers_from (suc k) n) in
    let here : bit (payloads k == e) ≡ bit (k == e) = ap (λ j. bit (j == e)) (own k (omega arith)) in
    omega arith

none-held : (e n : ℕ) → sum_by (times e) (replicate n []) ≡ 0
none-held e zero = refl
none-held e (suc n) =
    let more = sum_by-cons (times e) [] (replicate n []) in
    let rest = none-held e n in
    omega arith

pub opened-pool : (size passes : ℕ) (payloads : ℕ → ℕ) → ((k : ℕ) → k < size → payloads k ≡ k)
    → IsPool (opening_shape size passes payloads)
opened-pool size passes payloads own =
    let q : Queue = opened_queue size passes in
    let idles : length q.doing ≡ passes = length-replicate passes doing.Idle in
    record {
      sound = opened-sound size passes;
      legal = record { at = λ n e got. absurd (cc) };
      shows = record {
        line = ap (λ w. w.line) (sym (opened-waiters size passes));
        next = refl;
        served = sym (picked-replicate (is_given payloads) value_cell (λ k. refl) size 0);
        many = long-numbers size 0 ∙ sym (opened-going size passes);
        way = λ e.
            let brought = count_at-none (brings e (replicate passes 0)) q.doing
            (λ p d got. ap (λ (x : Doing). brings e (replicate passes 0) p x)
            (get-replicate passes p doing.Idle d got)) in
            omega (arith, number-times e size 0 payloads (λ j low. own j (omega arith)), brought);
        held = λ e.
            let ready = count_at-none (has_given e payloads) q.cells
            (λ k c got. ap (λ (x : CoreCell). has_given e payloads k x) (get-replicate size k value_cell c got)) in
            omega (arith, none-held e passes, ready);
      };
      loaders = length-replicate passes 0 ∙ sym idles;
      holders = length-replicate passes [] ∙ sym idles;
      none_refused = opened-ending size passes;
    }

pub numbers-left : (s : PoolShape) (p e : ℕ) → IsPool s → MayReach s p e
    → s.queue.resumes < s.queue.suspends + length (door s.queue) + s.size
numbers-left s p e is (inl owes) =
    let kept = conserved-after s.size s.history is.legal in
    reaches-few s.queue p s.size is.sound (omega (arith, kept.all, is.shows.many)) owes
numbers-left s p e is (inr (does, has)) =
    let o : Pool = object_after s.size s.history in
    let kept = conserved-after s.size s.history is.legal in
    let there : p < length s.holds =
    let at = get-below s.queue.doing p doing.Idle does in omega (arith, is.holders) in
    let own : times e (get_or s.holds p []) ≤ sum_by (times e) s.holds =
    get_or-le-sum_by (times e) s.holds p [] there in
    let fewer = times-without e e (get_or s.holds p []) has in
    let one : bit (e == e) ≡ 1 = ap bit (eq-eqb e e refl) in
    let held : 0 < times e o.held = omega (arith, is.shows.held e) in
    let some : 0 < length o.held = some-long o.held held in
    begins-few s.queue p s.size is.sound (omega (arith, kept.all, is.shows.many)) does
  where
    some-long : (xs : List ℕ) → 0 < times e xs → 0 < length xs
    some-long [] some = some
    some-long (x ∷ xs) some = omega arith

pub handed-pool : (s : PoolShape) (from to : ℕ) → IsPool s → from ≢ to → slice_get s.queue.doing from ≡ Some doing.Idle
    → slice_get s.queue.doing to ≡ Some doing.Idle → IsPool (record s { holds = handed_over s.holds from to })
handed-pool s from to is apart does other =
    let there : from < length s.holds =
    let at = get-below s.queue.doing from doing.Idle does in omega (arith, is.holders) in
    let rest : List (List ℕ) = set s.holds from [] in
    let long : length rest ≡ length s.holds = length-set s.holds from [] in
    let too : to < length rest =
    let at = get-below s.queue.doing to doing.Idle other in omega (arith, is.holders, long) in
    let gave : List ℕ = get_or s.holds from [] in
    let had : List ℕ = get_or s.holds to [] in
    let same : get_or rest to [] ≡ had = get_or-set_other s.holds from to [] [] (λ is. apart (sym is)) in
    let shows = is.shows in
    record {
      sound = is.sound;
      legal = is.legal;
      shows = record {
        line = shows.line;
        next = shows.next;
        served = shows.served;
        many = shows.many;
        way = shows.way;
        held = λ e.
            let less = sum_by-set (times e) s.holds from [] [] there in
            let more = sum_by-set (times e) rest to (had ++ gave) [] too in
            let stays : times e (get_or rest to []) ≡ times e had = ap (times e) same in
            let both = sum_by-append (λ n. bit (n == e)) had gave in
            omega (arith, shows.held e, less, more, stays, both);
      };
      loaders = is.loaders;
      holders = length-set rest to (had ++ gave) ∙ long ∙ is.holders;
      none_refused = is.none_refused;
    }
