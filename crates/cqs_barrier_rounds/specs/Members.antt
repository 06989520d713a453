-- What contracts see of a member, and of what it has in the middle of a round.
use Rattle.std.specs.Prelude.{ℕ}
use Rattle.cqs_barrier.specs.declared.answers.Leaving.{Leaving}
use Rattle.cqs_barrier.specs.declared.answers.Owing.{Owing}
use Rattle.cqs_barrier.specs.declared.answers.PartyWait.{PartyWait}
use Rattle.cqs_barrier_rounds.specs.declared.members.Member.{Member}
use Rattle.cqs_barrier_rounds.specs.declared.members.MemberLeaving.{MemberLeaving}
use Rattle.cqs_barrier_rounds.specs.declared.members.MemberOwing.{MemberOwing}
use Rattle.cqs_barrier_rounds.specs.declared.members.MemberWait.{MemberWait}

-- the round that it comes to next
abbrev pub round_of : Member → ℕ
round_of m = m.round

-- the round in which it waits, owes or leaves, and what it has of that round's barrier
abbrev pub wait_round : MemberWait → ℕ
wait_round w = w.round

abbrev pub wait_of : MemberWait → PartyWait
wait_of w = w.wait

abbrev pub owing_round : MemberOwing → ℕ
owing_round o = o.round

abbrev pub owing_of : MemberOwing → Owing
owing_of o = o.owing

abbrev pub leaving_round : MemberLeaving → ℕ
leaving_round l = l.round

abbrev pub leaving_of : MemberLeaving → Leaving
leaving_of l = l.leaving
