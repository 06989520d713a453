use Rattle.std.proofs.Common.{◌≡◌, ◌+◌, ◌≤◌, All, Some, ap, length, subst, sym, ◌∙◌, arith, rules}
use Rattle.std.specs.Vec.{vec_len}
use Rattle.std.proofs.lemmas.List.{length_push}
use Rattle.std.proofs.lemmas.List.Elements.{All-nil, All-pop, All-push}
use Rattle.cqs_barrier_rounds.specs.Members.{round_of}
use Rattle.cqs_barrier_rounds.specs.Rounds.{rounds_in}
use Rattle.cqs_test_threads.specs.Crew.{Sits}
use Rattle.cqs_test_threads.proofs.Seating.{enough, own-sits, split-holds, split-ready, split-sits}
use Rattle.cqs_test_threads.proofs.rounds.seats.sit_down.Goals as goal

pub loop-member-init : goal.loop-member-init
loop-member-init c =
    let parts = c.in_ok-own.ensures.items in
    let all : vec_len c.args.members ≡ length c.args.members.items = search rules in
    let long : vec_len c.args.members ≡ length c.pop.new.self.items + 1
    = all ∙ (ap length parts ∙ length_push c.pop.new.self.items c.in_ok-own.own) in
    let first = All-pop (λ m. round_of m ≡ 0) _ _ (Some c.in_ok-own.own) parts c.requires.first in
    record {
      belongs = c.requires.belongs;
      ready = c.requires.ready;
      holds = λ r p there. c.requires.holds r p there ∙ long;
      first = first.0;
      own = first.1;
      seats = subst (All (Sits c.args.rounds.now)) (sym c.new-seats.ensures.items) (All-nil (Sits c.args.rounds.now));
    }

pub split-requires-clause-enough : goal.split-requires-clause-enough
split-requires-clause-enough c = enough _ _ (omega arith) c.loop-member.invariant.holds

pub loop-member-preserved : goal.loop-member-preserved
loop-member-preserved c =
    let parts = c.in-Some.ensures.items in
    let long : length c.loop-member.left.items ≡ length c.pop-in-loop-member.new.self.items + 1
    = ap length parts ∙ length_push c.pop-in-loop-member.new.self.items c.in-Some.member in
    let first = All-pop (λ m. round_of m ≡ 0) _ _ (Some c.in-Some.member) parts c.loop-member.invariant.first in
    let zero = first.1 in
    let low : round_of c.in-Some.member ≤ rounds_in c.args.rounds.now = omega arith in
    let many = c.loop-member.invariant.belongs.many in
    let too = c.in-Ok.ensures.new_belongs.many in
    let as_many : length c.in-Ok.made.passes.items ≡ length c.loop-member.pass.passes.items
    = omega (arith, many, too) in
    record {
      belongs = c.split.ensures.belongs;
      ready = split-ready _ _ _ _ c.loop-member.invariant.ready c.in-Ok.ensures.split;
      holds = split-holds (length c.loop-member.left.items + 1) (length c.pop-in-loop-member.new.self.items + 1) _ _ _
          (omega (arith, long)) c.loop-member.invariant.holds c.in-Ok.ensures.split;
      first = first.0;
      own = c.loop-member.invariant.own;
      seats = rw c.in-Ok-push.ensures.items
          (All-push (Sits c.args.rounds.now) _ _ c.loop-member.invariant.seats (record {
            belongs = c.in-Ok.ensures.new_belongs;
            member = low;
            on = split-sits _ _ _ _ as_many c.in-Ok.ensures.split;
          }));
    }

pub returns : goal.returns
returns c =
    let l = c.loop-member.invariant in
    let own = l.own in
    let low : round_of c.in_ok-own.own ≤ rounds_in c.args.rounds.now = omega (arith, own) in
    rw c.in-Ok-push-2.ensures.items
    (All-push (Sits c.args.rounds.now) _ _ l.seats (record {
      belongs = l.belongs;
      member = low;
      on = own-sits c.in_ok-own.own (length c.loop-member.left.items) _ l.ready l.holds;
    }))
