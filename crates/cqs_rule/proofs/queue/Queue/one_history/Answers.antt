use Rattle.std.proofs.Common.{◌<◌, [], length, refl, sym, ap, ◌∙◌, subst, arith}
use Rattle.std.proofs.lemmas.Option.{slice_get-get_or}
use Rattle.cqs_rule_laws.proofs.Prefixes.{saw-prefix}
use Rattle.cqs_rule_laws.specs.Saw.{Saw}
use Rattle.cqs_rule_laws.specs.Views.{as_before}
use Rattle.cqs_rule.specs.Passes.{pass_view}
use Rattle.cqs_rule.proofs.Histories.{looked-none, looked-then, told-none, told-more, heard-none, heard-more, heard-all, history-all, of-set}
use Rattle.cqs_rule.proofs.queue.Queue.one_history.Goals as goal

pub loop-heard-init : goal.loop-heard-init
loop-heard-init g c = record {
  mine = c.requires.belongs;
  theirs = c.requires.others_belong;
  looked = looked-none g.C.ClientWords.object (pass_view c.args.pass.now);
  kept = λ a. a;
  made_none = refl;
  told = told-none (pass_view c.args.pass.now) c.args.others.now;
}

pub catch_up-requires-clause-other_belongs : goal.catch_up-requires-clause-other_belongs
catch_up-requires-clause-other_belongs g c =
    let low : c.loop-heard.heard < length c.loop-heard.others = omega arith in
    c.loop-heard.invariant.theirs _ _
    (slice_get-get_or c.loop-heard.others c.loop-heard.heard c.index-others-heard.result low)

pub loop-heard-preserved : goal.loop-heard-preserved
loop-heard-preserved g c =
    let l = c.loop-heard in
    let e = c.catch_up.ensures in
    let o = g.C.ClientWords.object in
    let low : l.heard < length l.others = omega arith in
    let there = slice_get-get_or l.others l.heard c.index-others-heard.result low in
    let v = pass_view l.pass in
    let w = pass_view c.catch_up.new.pass in
    record {
      mine = e.belongs;
      theirs = of-set c.args.self.now l.others l.heard _ c.catch_up.new.other l.invariant.theirs there
          e.other_belongs;
      looked = looked-then o (pass_view c.args.pass.now) v w l.invariant.looked l.invariant.kept e.looked;
      kept = λ a. e.kept (l.invariant.kept a);
      made_none = e.made_none ∙ l.invariant.made_none;
      told = told-more l.heard v w c.args.others.now l.others _ c.catch_up.new.other l.invariant.told there
          e.other_stays (saw-prefix o v (as_before v w) v.facts [] e.looked) e.all;
    }

pub loop-told-init : goal.loop-told-init
loop-told-init g c =
    let l = c.loop-heard in
    let many = l.invariant.told.many in
    record {
      mine = l.invariant.mine;
      theirs = l.invariant.theirs;
      looked = l.invariant.looked;
      kept = l.invariant.kept;
      made_none = l.invariant.made_none;
      heard = heard-none l.heard (pass_view l.pass) c.args.others.now l.others l.invariant.told (omega arith);
    }

pub catch_up-requires-in-loop-told-clause-belongs : goal.catch_up-requires-in-loop-told-clause-belongs
catch_up-requires-in-loop-told-clause-belongs g c =
    let low : c.loop-told.told < length c.loop-told.others = omega arith in
    c.loop-told.invariant.theirs _ _
    (slice_get-get_or c.loop-told.others c.loop-told.told c.index-others-told.result low)

pub loop-told-preserved : goal.loop-told-preserved
loop-told-preserved g c =
    let l = c.loop-told in
    let e = c.catch_up-in-loop-told.ensures in
    let new = c.catch_up-in-loop-told.new in
    let low : l.told < length l.others = omega arith in
    let there = slice_get-get_or l.others l.told c.index-others-told.result low in
    let same = e.other_stays in
    let o = g.C.ClientWords.object in
    let v = pass_view c.args.pass.now in
    record {
      mine = e.other_belongs;
      theirs = of-set c.args.self.now l.others l.told _ new.pass l.invariant.theirs there e.belongs;
      looked = subst (λ x. Saw o v v.facts [] (as_before v x)) (sym same) l.invariant.looked;
      kept = λ a. ap (λ x. x.alone) same ∙ l.invariant.kept a;
      made_none = ap (λ x. x.made) same ∙ l.invariant.made_none;
      heard = heard-more l.told (pass_view l.pass) (pass_view new.other) c.args.others.now l.others _ new.pass
          l.invariant.heard there e.looked e.kept e.made_none e.all same;
    }

pub returns-clause-others_looked : goal.returns-clause-others_looked
returns-clause-others_looked g c =
    let l = c.loop-told in
    let many = l.invariant.heard.many in
    heard-all l.told (pass_view l.pass) c.args.others.now l.others l.invariant.heard (omega arith)

pub returns-clause-history : goal.returns-clause-history
returns-clause-history g c =
    let l = c.loop-told in
    let many = l.invariant.heard.many in
    history-all l.told c.args.pass.now l.pass c.args.others.now l.others l.invariant.looked
    l.invariant.mine.live.legal l.invariant.heard (omega arith)
