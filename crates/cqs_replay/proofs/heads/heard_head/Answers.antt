use Rattle.std.proofs.Common.{codes, true, false}
use Rattle.std.proofs.lemmas.Bool.Decides.{Decides-eqb}
use Rattle.std.proofs.lemmas.Slice.Eq.{strip_suffix_is}
use Rattle.cqs_replay.specs.Schedules.{IsSized, IsHeard}
use Rattle.cqs_replay.proofs.HeadLines.{all-heard, heard-sync, heard-plain}
use Rattle.cqs_replay.proofs.heads.heard_head.Goals as goal

pub returns-in-Some : goal.returns-in-Some
returns-in-Some c =
    let cut = strip_suffix_is Decides-eqb c.args.line.now (codes " sync") c.strip_suffix.result
    c.strip_suffix.ensures.cases in
    let is = rw c.in-Some.is at cut in
    all-heard (IsSized c.in-Some.numbers.now true) (IsHeard c.args.line.now) c.sized.result
    (λ heard. heard-sync c.args.line.now c.in-Some.numbers.now heard is) c.sized.ensures

pub returns-in-None : goal.returns-in-None
returns-in-None c =
    let cut = strip_suffix_is Decides-eqb c.args.line.now (codes " sync") c.strip_suffix.result
    c.strip_suffix.ensures.cases in
    let none = rw c.in-None.is at cut in
    all-heard (IsSized c.args.line.now false) (IsHeard c.args.line.now) c.sized-in-None.result
    (λ heard. heard-plain c.args.line.now heard none) c.sized-in-None.ensures
