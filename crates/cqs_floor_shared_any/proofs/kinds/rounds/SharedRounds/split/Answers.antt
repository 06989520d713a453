use Rattle.std.proofs.Common.{◌<◌, ◌≡◌, ◌==◌, ap, arith, length, subst, sym, true, ◌∙◌}
use Rattle.std.specs.List.{list_all}
use Rattle.cqs_floor_shared_any.specs.RoundsOne.{view_of}
use Rattle.cqs_floor_shared_any.specs.RoundsShares.{crew_in}
use Rattle.cqs_floor_shared_any.proofs.RoundsSplits.{SplitSoFar, may-give, rounds-split, split-more, split-none}
use Rattle.cqs_floor_shared_any.proofs.RoundsShares.{stands-there}
use Rattle.cqs_floor_shared_any.proofs.kinds.rounds.SharedRounds.split.Goals as goal

pub loop-round-init : goal.loop-round-init
loop-round-init c = record {
  reserved = omega (arith, c.in_ok-made.ensures.exact, c.len.ensures, c.args.self.now.rounds.ok.0);
  split = split-none c.args.gives c.args.self.now.rounds.items _ c.in_ok-made.ensures.items;
}

pub split-requires : goal.split-requires
split-requires c =
    let so_far = c.loop-round.invariant.split in
    let low : c.loop-round.round < length c.loop-round.self.rounds.items
    = omega (arith, c.loop-round-test.true, c.len-round-end.ensures, c.args.self.now.rounds.ok.0, so_far.many) in
    may-give c.args.gives c.loop-round.round c.args.self.now c.loop-round.made.items c.loop-round.self.rounds.items
    c.index_mut.result.now c.requires so_far
    (stands-there c.loop-round.self c.loop-round.round c.index_mut.result.now low c.index_mut.ensures.value)

pub push_reserved-requires : goal.push_reserved-requires
push_reserved-requires c =
    omega (
      arith,
      c.loop-round-test.true,
      c.len-round-end.ensures,
      c.args.self.now.rounds.ok.0,
      c.loop-round.made.ok.0,
      c.loop-round.invariant.split.made_many,
      c.loop-round.invariant.reserved,
    )

pub loop-round-preserved : goal.loop-round-preserved
loop-round-preserved c =
    let so_far = c.loop-round.invariant.split in
    let low : c.loop-round.round < length c.loop-round.self.rounds.items
    = omega (arith, c.loop-round-test.true, c.len-round-end.ensures, c.args.self.now.rounds.ok.0, so_far.many) in
    record {
      reserved = c.push_reserved.ensures.capacity ∙ c.loop-round.invariant.reserved;
      split = rw c.push_reserved.ensures.items
          (split-more c.args.gives c.loop-round.round c.args.self.now.rounds.items c.loop-round.made.items
          c.loop-round.self.rounds.items c.index_mut.result.now c.in_ok-split.field-0 c.split.new.self so_far
          (stands-there c.loop-round.self c.loop-round.round c.index_mut.result.now low c.index_mut.ensures.value)
          c.in_ok-split.ensures);
    }

pub returns : goal.returns
returns c =
    let all : c.loop-round.round ≡ length c.args.self.now.rounds.items
    = omega (
      arith,
      c.loop-round-test.false,
      c.loop-round.auto.round-end,
      c.len-round-end.ensures,
      c.args.self.now.rounds.ok.0,
    ) in
    let number : c.number_in.result ≡ (crew_in c.loop-round.made.items).number
    = c.number_in.ensures ∙ ap (λ rs. (crew_in rs).number) c.deref-2.ensures.value in
    let same : true
    ≡ list_all (λ r. (view_of r).number == (crew_in c.loop-round.made.items).number) c.loop-round.made.items
    = c.if-not-have_number.ensures
    ∙ ap (λ n. list_all (λ r. (view_of r).number == n) c.deref.result.now) number
    ∙ ap (list_all (λ r. (view_of r).number == (crew_in c.loop-round.made.items).number)) c.deref.ensures.value in
    rounds-split c.args.gives c.args.self.now (record { rounds = c.loop-round.made }) c.loop-round.self c.requires
    (subst (λ n. SplitSoFar c.args.gives n c.args.self.now.rounds.items c.loop-round.made.items
    c.loop-round.self.rounds.items) all c.loop-round.invariant.split)
    (sym same)
