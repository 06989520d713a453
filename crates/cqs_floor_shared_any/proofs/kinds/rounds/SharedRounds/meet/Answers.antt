use Rattle.std.proofs.Common.{◌<◌, ◌≡◌, List, Some, ap, arith, length, set, slice_get, subst, sym}
use Rattle.std.proofs.lemmas.List.{length_push}
use Rattle.cqs_floor_shared_any.specs.declared.kinds.round.SharedRound.{SharedRound}
use Rattle.cqs_floor_shared_any.proofs.RoundsMetSoFar.{MetSoFar, may-take_in, met-more, met-none}
use Rattle.cqs_floor_shared_any.proofs.RoundsMeets.{as-many, rounds-meet}
use Rattle.cqs_floor_shared_any.proofs.RoundsShares.{stands-there}
use Rattle.cqs_floor_shared_any.proofs.kinds.rounds.SharedRounds.meet.Goals as goal

pub loop-theirs-init : goal.loop-theirs-init
loop-theirs-init c = met-none _ _ (as-many c.args.self.now c.args.given c.requires)

pub index_mut-requires : goal.index_mut-requires
index_mut-requires c =
    let so_far = c.loop-theirs.invariant in
    let long = ap (λ (l : List SharedRound). length l) c.in-Some.ensures.items in
    let more = length_push c.pop.new.self.items c.in-Some.theirs in
    omega (
      arith,
      c.len-round.ensures,
      c.pop.new.self.ok.0,
      c.loop-theirs.self.rounds.ok.0,
      so_far.many,
      so_far.few,
      as-many c.args.self.now c.args.given c.requires,
      long,
      more,
    )

pub meet-requires : goal.meet-requires
meet-requires c =
    let so_far = c.loop-theirs.invariant in
    let at : c.len-round.result ≡ length c.pop.new.self.items
    = omega (arith, c.len-round.ensures, c.pop.new.self.ok.0) in
    let long = ap (λ (l : List SharedRound). length l) c.in-Some.ensures.items in
    let more = length_push c.pop.new.self.items c.in-Some.theirs in
    let low : c.len-round.result < length c.loop-theirs.self.rounds.items
    = omega (arith, at, so_far.many, so_far.few, as-many c.args.self.now c.args.given c.requires, long, more) in
    let there : slice_get c.loop-theirs.self.rounds.items (length c.pop.new.self.items) ≡ Some c.index_mut.result.now
    = subst (λ n. slice_get c.loop-theirs.self.rounds.items n ≡ Some c.index_mut.result.now) at
    (stands-there c.loop-theirs.self c.len-round.result c.index_mut.result.now low c.index_mut.ensures.value) in
    may-take_in c.args.self.now c.args.given c.loop-theirs.left.items c.pop.new.self.items
    c.loop-theirs.self.rounds.items c.in-Some.theirs c.index_mut.result.now c.requires so_far c.in-Some.ensures.items
    there

pub loop-theirs-preserved : goal.loop-theirs-preserved
loop-theirs-preserved c =
    let so_far = c.loop-theirs.invariant in
    let at : c.len-round.result ≡ length c.pop.new.self.items
    = omega (arith, c.len-round.ensures, c.pop.new.self.ok.0) in
    let long = ap (λ (l : List SharedRound). length l) c.in-Some.ensures.items in
    let more = length_push c.pop.new.self.items c.in-Some.theirs in
    let low : c.len-round.result < length c.loop-theirs.self.rounds.items
    = omega (arith, at, so_far.many, so_far.few, as-many c.args.self.now c.args.given c.requires, long, more) in
    let there : slice_get c.loop-theirs.self.rounds.items (length c.pop.new.self.items) ≡ Some c.index_mut.result.now
    = subst (λ n. slice_get c.loop-theirs.self.rounds.items n ≡ Some c.index_mut.result.now) at
    (stands-there c.loop-theirs.self c.len-round.result c.index_mut.result.now low c.index_mut.ensures.value) in
    subst (λ n. MetSoFar c.args.self.now.rounds.items c.args.given.rounds.items c.pop.new.self.items
    (set c.loop-theirs.self.rounds.items n c.meet.new.self)) (sym at)
    (met-more c.args.self.now.rounds.items c.args.given.rounds.items c.loop-theirs.left.items c.pop.new.self.items
    c.loop-theirs.self.rounds.items c.in-Some.theirs c.index_mut.result.now c.meet.new.self so_far
    c.in-Some.ensures.items there c.meet.ensures)

pub returns : goal.returns
returns c =
    let so_far = c.loop-theirs.invariant in
    let none : length c.loop-theirs.left.items ≡ 0
    = omega (arith, c.in_default.ensures.cases, c.loop-theirs.left.ok.0) in
    rounds-meet c.args.self.now c.args.given c.loop-theirs.self (as-many c.args.self.now c.args.given c.requires)
    so_far.many (λ i r g s old theirs now. so_far.called i r g s (omega (arith, none)) old theirs now)
