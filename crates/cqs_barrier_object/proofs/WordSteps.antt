-- Each step on the remaining number keeps the barrier, and so does a move of parties between idle passes; and the
-- barrier as it opens.
use Rattle.std.proofs.Common.{◌≡◌, ℕ, ◌+◌, ◌-◌, ◌<◌, ◌≤◌, true, false, List, replicate, length, set, get_or, sum, refl, sym, ◌∙◌, arith, get_or-set_same}
use Rattle.std.proofs.lemmas.List.{length-set, length-replicate}
use Rattle.std.proofs.lemmas.List.Sums.{sum_by-set, sum_by-cons}
use Rattle.cqs_core.specs.declared.doings.Doing.TheVariants as doing
use Rattle.cqs_core.specs.QueueLine.{going, ending, due}
use Rattle.cqs_core.specs.QueueMoves as move
use Rattle.cqs_core.specs.QueueMoves.{move_queue}
use Rattle.cqs_core.specs.QueueOpening.{opened_queue}
use Rattle.cqs_core.specs.QueueState.{Queue}
use Rattle.cqs_core.proofs.LineMoves.{turn-door, decide-leaves}
use Rattle.cqs_core.proofs.QueueOpens.{get-replicate, sum-replicate, opened-sound, opened-waiters, opened-due, opened-going, opened-ending}
use Rattle.cqs_core.proofs.Sound.{sound-moved}
use Rattle.cqs_barrier_object.specs.declared.entries.BarrierEntry.TheVariants as entry
use Rattle.cqs_barrier_object.specs.BarrierSteps.{EveryArrivalKeepsTheBarrier, TheLastArrivalKeepsTheBarrier, EveryWithdrawalKeepsTheBarrier, EveryStayKeepsTheBarrier, EveryHandoverKeepsTheBarrier, EveryBarrierOpens, held_after_share}
use Rattle.cqs_barrier_object.proofs.Frame.{same-barrier, barrier-step, push-barrier}
use Rattle.cqs_barrier_object.proofs.Parties.{party-turn, party-held, held-there, owed-there, held-within, owed-within}
use Rattle.cqs_barrier_object.proofs.Stayed.{stayed-turn, stayed-declines}

-- a party arrives, and is not the last
pub arrival-keeps : EveryArrivalKeepsTheBarrier
arrival-keeps s p is may more =
    let r : Queue = move_queue s.queue (move.turn p doing.Idle doing.Door) in
    let came = turn-door s.queue p may.idle in
    let holds : 0 < get_or s.held p 0 = may.holds in
    let there = held-there s p doing.Idle is may.idle in
    let sums = sum_by-set (λ n. n) s.held p (get_or s.held p 0 - 1) 0 there in
    let was = is.before (omega arith) in
    let ways : going s.queue + sum s.owed - ending s.queue ≡ going r + sum s.owed - ending r =
    omega (arith, came.going, came.ending) in
    push-barrier s (s.remaining - 1) (set s.held p (get_or s.held p 0 - 1)) s.owed (entry.ArriveDoor p) r is
    (sound-moved s.queue (move.turn p doing.Idle doing.Door) is.sound (may.idle, tt, tt))
    more
    (same-barrier refl ways (sym came.waiters)
    (sym (stayed-turn s.queue.doing s.queue.cells p doing.Idle doing.Door may.idle (λ m. refl))))
    (length-set s.held p (get_or s.held p 0 - 1)) refl (length-set s.queue.doing p doing.Door)
    (omega (arith, is.held))
    (λ some. record {
      resumes = was.resumes;
      none = omega (arith, was.none, came.going, came.ending);
      parties = omega (arith, was.parties, came.due);
    })
    (λ none. absurd (omega arith))
    (party-turn (set s.held p (get_or s.held p 0 - 1)) s.queue.doing p doing.Idle doing.Door may.idle tt
    (party-held s.held s.queue.doing p doing.Idle (get_or s.held p 0 - 1) may.idle tt is.party))

-- the last party arrives: it owes one resumption for each that waits
pub last-keeps : TheLastArrivalKeepsTheBarrier
last-keeps s p is may one =
    let owed : List ℕ = set s.owed p (s.parties - 1) in
    let holds : 0 < get_or s.held p 0 = may.holds in
    let sums = sum_by-set (λ n. n) s.held p (get_or s.held p 0 - 1) 0 (held-there s p doing.Idle is may.idle) in
    let within = held-within s p doing.Idle is may.idle in
    let was = is.before (omega arith) in
    let none = owed-within s p doing.Idle is may.idle in
    let more = sum_by-set (λ n. n) s.owed p (s.parties - 1) 0 (owed-there s p doing.Idle is may.idle) in
    let dues : s.parties - 1 ≡ due s.queue = omega (arith, was.parties) in
    let ways : due s.queue ≡ going s.queue + sum owed - ending s.queue = omega (arith, was.none) in
    push-barrier s 0 (set s.held p (get_or s.held p 0 - 1)) owed (entry.ArriveLast p) s.queue is is.sound
    one
    (same-barrier refl ways refl refl)
    (length-set s.held p (get_or s.held p 0 - 1)) (length-set s.owed p (s.parties - 1)) refl
    (omega (arith, is.held))
    (λ some. absurd (omega arith))
    (λ zero. omega (arith, was.none))
    (party-held s.held s.queue.doing p doing.Idle (get_or s.held p 0 - 1) may.idle tt is.party)

-- a canceller raises the remaining number: the party is its pass's again
pub withdrawal-keeps : EveryWithdrawalKeepsTheBarrier
withdrawal-keeps s p k is does some =
    let r : Queue = move_queue s.queue (move.decide p k true) in
    let leaves = decide-leaves s.queue p k true is.sound does in
    let there = held-there s p (doing.Leaving k) is does in
    let sums = sum_by-set (λ n. n) s.held p (get_or s.held p 0 + 1) 0 there in
    let now : get_or (set s.held p (get_or s.held p 0 + 1)) p 0 ≡ get_or s.held p 0 + 1 =
    get_or-set_same s.held p (get_or s.held p 0 + 1) 0 there in
    let was = is.before some in
    let ways : going s.queue + sum s.owed - ending s.queue ≡ going r + sum s.owed - ending r =
    omega (arith, leaves.going, leaves.ending) in
    push-barrier s (s.remaining + 1) (set s.held p (get_or s.held p 0 + 1)) s.owed (entry.Withdraw p k) r is
    (sound-moved s.queue (move.decide p k true) is.sound does)
    (some, leaves.waits)
    (same-barrier refl ways (sym leaves.waiters)
    (sym (stayed-turn s.queue.doing s.queue.cells p (doing.Leaving k) (doing.Decided k true) does (λ m. refl))))
    (length-set s.held p (get_or s.held p 0 + 1)) refl (length-set s.queue.doing p (doing.Decided k true))
    (omega (arith, is.held))
    (λ any. record {
      resumes = was.resumes;
      none = omega (arith, was.none, leaves.going, leaves.ending);
      parties = omega (arith, was.parties, leaves.due);
    })
    (λ none. absurd (omega arith))
    (party-turn (set s.held p (get_or s.held p 0 + 1)) s.queue.doing p (doing.Leaving k) (doing.Decided k true) does
    (omega (arith, now))
    (party-held s.held s.queue.doing p (doing.Leaving k) (get_or s.held p 0 + 1) does tt is.party))

-- a canceller loads 0: the party counts as through, and one resumption will end at its cell
pub stay-keeps : EveryStayKeepsTheBarrier
stay-keeps s p k is does none =
    let r : Queue = move_queue s.queue (move.decide p k false) in
    let leaves = decide-leaves s.queue p k false is.sound does in
    let over = is.over none in
    let ways : going s.queue + sum s.owed - ending s.queue - 1 ≡ going r + sum s.owed - ending r =
    omega (arith, leaves.going, leaves.ending) in
    push-barrier s s.remaining s.held s.owed (entry.Stay p k) r is
    (sound-moved s.queue (move.decide p k false) is.sound does)
    (none, leaves.waits)
    (same-barrier refl ways (sym leaves.waiters)
    (sym (stayed-declines s.queue p k is.sound does)))
    refl refl (length-set s.queue.doing p (doing.Decided k false)) is.held
    (λ some. absurd (omega arith))
    (λ zero. omega (arith, over, leaves.going, leaves.ending, leaves.due))
    (party-turn s.held s.queue.doing p (doing.Leaving k) (doing.Decided k false) does tt is.party)

-- a move of parties between two passes that are idle
pub handover-keeps : EveryHandoverKeepsTheBarrier
handover-keeps s p r many is does other enough =
    let rest : List ℕ = set s.held p (get_or s.held p 0 - many) in
    let few : many ≤ get_or s.held p 0 = enough in
    let long : length rest ≡ length s.held = length-set s.held p (get_or s.held p 0 - many) in
    let less = sum_by-set (λ n. n) s.held p (get_or s.held p 0 - many) 0 (held-there s p doing.Idle is does) in
    let there = held-there s r doing.Idle is other in
    let more = sum_by-set (λ n. n) rest r (get_or rest r 0 + many) 0 (omega (arith, long)) in
    barrier-step s s.remaining (held_after_share s.held p r many) s.owed s.history s.queue is is.sound is.legal
    is.object (length-set rest r (get_or rest r 0 + many) ∙ long) refl refl
    (omega (arith, is.held)) is.before is.over
    (party-held rest s.queue.doing r doing.Idle (get_or rest r 0 + many) other tt
    (party-held s.held s.queue.doing p doing.Idle (get_or s.held p 0 - many) does tt is.party))

-- a barrier opens with all its parties at the first pass
pub barrier-opens : EveryBarrierOpens
barrier-opens parties passes some any =
    let q : Queue = opened_queue 0 passes in
    let going_none = opened-going 0 passes in
    let ending_none = opened-ending 0 passes in
    let nothing_owed = sum-replicate passes in
    let all = sum_by-cons (λ n. n) parties (replicate (passes - 1) 0) in
    let none_more = sum-replicate (passes - 1) in
    let rest : List ℕ = replicate (passes - 1) 0 in
    let long : length rest ≡ passes - 1 = length-replicate (passes - 1) 0 in
    let idles : length q.doing ≡ passes = length-replicate passes doing.Idle in
    record {
      sound = opened-sound 0 passes;
      legal = record { at = λ n e got. absurd (cc) };
      object = same-barrier refl (omega (arith, going_none, ending_none, nothing_owed))
          (sym (opened-waiters 0 passes)) refl;
      holders = omega (arith, long, idles);
      owners = length-replicate passes 0 ∙ sym idles;
      held = omega (arith, all, none_more);
      before = λ _. record {
        resumes = refl;
        none = omega (arith, going_none, ending_none, nothing_owed);
        parties = omega (arith, opened-due 0 passes);
      };
      over = λ none. absurd (omega arith);
      party = record {
        at = λ p d got. let is : d ≡ doing.Idle = get-replicate passes p doing.Idle d got in rw is tt;
      };
    }
