use Rattle.std.proofs.Common.{◌≤◌, ◌∙◌, ap, count_by, length, subst, sym}
use Rattle.cqs_floor_shared_any.specs.declared.kinds.round.SharedRound.{SharedRound}
use Rattle.cqs_floor_shared_any.proofs.RoundsMeets.{rounds-end}
use Rattle.cqs_floor_shared_any.proofs.kinds.rounds.SharedRounds.end.Goals as goal

pub over_in-requires : goal.over_in-requires
over_in-requires c = record {
  few = subst (λ rs. length rs ≤ 64) (sym c.deref.ensures.value) c.requires.funded.few;
}

pub returns : goal.returns
returns c =
    rounds-end c.args.self.now c.args.kind _
    (c.over_in.ensures ∙ ap (count_by (λ (r : SharedRound). r.over)) c.deref.ensures.value) c.requires
