-- How far the numbers of a core can come, synchronous or not. This file is a proof, as
-- `SemaphoreClient` is, which stands on it.
use Rattle.std.proofs.Common.{◌≡◌, ◌≢◌, ℕ, ◌+◌, ◌<◌, ◌≤◌, Some, slice_get, length, get_or, set, ◌∙◌, arith}
use Rattle.std.proofs.lemmas.List.{length-set}
use Rattle.std.proofs.lemmas.List.Sums.{sum_by-set, get_or-le-sum_by}
use Rattle.std.proofs.lemmas.Option.{get_or_from_slice_get}
use mathlib.Core.Logic.{dite}
use native.Mathlib.Decide.{ℕ_discrete}
use Rattle.cqs_core.specs.declared.doings.Doing.TheVariants as doing
use Rattle.cqs_core.specs.QueueAsUnbroken.{as_unbroken, unwatching}
use Rattle.cqs_core.specs.QueueLine.{door, going, ending, due}
use Rattle.cqs_core.specs.QueueState.{Queue}
use Rattle.cqs_core.specs.SemaphoreCores.{IsEitherCore, early}
use Rattle.cqs_core.specs.SemaphoreShown.{short_of}
use Rattle.cqs_core.specs.SemaphoreTable.{Shape}
use Rattle.cqs_core.proofs.Places.{get-below, get-set_else}
use Rattle.cqs_core.proofs.QueueAsUnbroken.{AreAlike, alike, get-map, sync-within}
use Rattle.cqs_core.proofs.QueueReaches.{reaches-few}

-- no pass holds more permits than there are
pub held-few : (s : Shape) (p n : ℕ) → IsEitherCore s → slice_get s.held p ≡ Some n → n ≤ s.permits
held-few s p n core there =
    let few = sync-within s.queue core.sound core.covered in
    let all = core.conserved in
    let below : p < length s.held = get-below s.held p n there in
    let is : get_or s.held p 0 ≡ n = get_or_from_slice_get s.held p n 0 there in
    let one = get_or-le-sum_by (λ (m : ℕ). m) s.held p 0 below in
    omega arith

-- where there is one permit, one pass holds it
pub one-holds : (s : Shape) (p q m n : ℕ) → IsEitherCore s → s.permits ≡ 1
    → slice_get s.held p ≡ Some m → slice_get s.held q ≡ Some n → 0 < m → 0 < n → p ≡ q
one-holds s p q m n core single at at' some some' = dite (ℕ_discrete p q)
    (λ (same : p ≡ q). same)
    (λ (apart : p ≢ q).
    let none = set s.held p 0 in
    let low : p < length s.held = get-below s.held p m at in
    let low' : q < length s.held = get-below s.held q n at' in
    let long = length-set s.held p 0 in
    let is : get_or s.held p 0 ≡ m = get_or_from_slice_get s.held p m 0 at in
    let other : get_or none q 0 ≡ n =
    get_or_from_slice_get none q n 0 (get-set_else s.held p q 0 apart ∙ at') in
    let less = sum_by-set (λ (n : ℕ). n) s.held p 0 0 low in
    let one = get_or-le-sum_by (λ (n : ℕ). n) none q 0 (omega arith) in
    let few = sync-within s.queue core.sound core.covered in
    let all = core.conserved in
    absurd (omega arith))

-- a resumption that is owed draws a number below those of the line and of the door
pub reached-few : (s : Shape) (p : ℕ) → IsEitherCore s → slice_get s.queue.doing p ≡ Some doing.Owes
    → s.queue.resumes < s.queue.suspends + length (door s.queue)
reached-few s p core owes =
    let v : Queue = as_unbroken s.queue in
    let same : AreAlike s.queue v = alike s.queue core.sound in
    let short : going s.queue + short_of s.state + early s.queue ≡ due s.queue + ending s.queue =
    core.short in
    let few = reaches-few v p 0 core.sound
    (omega (arith, short, same.going, same.ending, same.line, same.doors))
    (get-map unwatching s.queue.doing p doing.Owes owes) in
    omega (arith, few, same.doors)
