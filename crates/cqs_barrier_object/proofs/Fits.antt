-- Where a resumption is owed, a number is left for it; and no pass holds more parties than there are.
use Rattle.std.proofs.Common.{◌≡◌, ◌⊎◌, inl, inr, ℕ, ◌+◌, ◌<◌, ◌≤◌, Some, length, slice_get, get_or, sum, arith}
use Rattle.std.proofs.lemmas.Bool.{cases_lt}
use Rattle.std.proofs.lemmas.List.Sums.{get_or-le-sum_by}
use Rattle.std.proofs.lemmas.Option.{get_or_from_slice_get}
use Rattle.cqs_core.specs.declared.doings.Doing.TheVariants as doing
use Rattle.cqs_core.specs.QueueLine.{door}
use Rattle.cqs_core.proofs.Places.{get-below}
use Rattle.cqs_core.proofs.QueueReaches.{reaches-few, begins-few}
use Rattle.cqs_barrier_object.specs.BarrierShown.{Shape, IsBarrier}
use Rattle.cqs_barrier_object.proofs.Parties.{owed-within}

pub barrier-reaches_few : (s : Shape) (p : ℕ) → IsBarrier s → slice_get s.queue.doing p ≡ Some doing.Owes
    → s.queue.resumes < s.queue.suspends + length (door s.queue)
barrier-reaches_few s p is owes = go (cases_lt 0 s.remaining)
  where
    go : (0 < s.remaining) ⊎ (s.remaining ≤ 0) → s.queue.resumes < s.queue.suspends + length (door s.queue)
    go (inl some) =
        let was = is.before some in
        let few = reaches-few s.queue p 0 is.sound (omega (arith, was.none)) owes in omega arith
    go (inr all) =
        let over = is.over (omega arith) in
        let few = reaches-few s.queue p 0 is.sound (omega arith) owes in omega arith

pub barrier-begins_few : (s : Shape) (p : ℕ) → IsBarrier s → slice_get s.queue.doing p ≡ Some doing.Idle
    → 0 < get_or s.owed p 0 → s.queue.resumes < s.queue.suspends + length (door s.queue)
barrier-begins_few s p is does some = go (cases_lt 0 s.remaining)
  where
    go : (0 < s.remaining) ⊎ (s.remaining ≤ 0) → s.queue.resumes < s.queue.suspends + length (door s.queue)
    go (inl before) =
        let was = is.before before in
        let within = owed-within s p doing.Idle is does in
        absurd (omega (arith, was.none, within))
    go (inr all) =
        let over = is.over (omega arith) in
        let within = owed-within s p doing.Idle is does in
        let few = begins-few s.queue p 0 is.sound (omega (arith, over, within)) does in omega arith

pub barrier-held_few : (s : Shape) (p n : ℕ) → IsBarrier s → slice_get s.held p ≡ Some n → n ≤ s.parties
barrier-held_few s p n is there = go (cases_lt 0 s.remaining)
  where
    within : n ≤ sum s.held
    within =
        let low = get-below s.held p n there in
        let one : get_or s.held p 0 ≡ n = get_or_from_slice_get s.held p n 0 there in
        let all : get_or s.held p 0 ≤ sum s.held = get_or-le-sum_by (λ m. m) s.held p 0 low in
        omega arith

    go : (0 < s.remaining) ⊎ (s.remaining ≤ 0) → n ≤ s.parties
    go (inl some) = let was = is.before some in omega (arith, is.held, was.parties, within)
    go (inr none) = omega (arith, is.held, within)
