use Rattle.std.proofs.Common.{◌≡◌, ◌≢◌, rules, arith, All, subst, sym, ◌∙◌}
use Rattle.std.proofs.lemmas.List.Elements.{All-nil, All-push, All-head, All-tail}
use Rattle.std.specs.Vec.Iter.{into_iter_items}
use Rattle.cqs_rule.specs.Passes.{pass_view}
use Rattle.cqs_rule.specs.Waits.{HasWait}
use Rattle.cqs_test_semaphore.proofs.Kept.{IsOther}
use Rattle.cqs_test_semaphore.proofs.caller.Caller.take_wait.Goals as goal

pub loop-wait-init : goal.loop-wait-init
loop-wait-init c =
    let v = pass_view c.args.self.now.pass in
    let all : into_iter_items c.into_iter-wait-iterator.result ≡ c.args.self.now.waits.items = search rules in
    record {
      taken = tt;
      others = subst (All (IsOther v c.args.number)) (sym c.new-others.ensures.items)
          (All-nil (IsOther v c.args.number));
      left = subst (All (HasWait v)) (sym all) c.requires.stands.waits;
    }

pub loop-wait-preserved-then-number : goal.loop-wait-preserved-then-number
loop-wait-preserved-then-number c =
    let v = pass_view c.args.self.now.pass in
    let left = subst (All (HasWait v)) c.in-Some.ensures.steps.0 c.loop-wait.invariant.left in
    let is : c.in-Some.wait.number ≡ c.args.number = search rules in
    record {
      taken = (All-head (HasWait v) c.in-Some.wait _ left, is);
      others = c.loop-wait.invariant.others;
      left = All-tail (HasWait v) c.in-Some.wait _ left;
    }

pub loop-wait-preserved : goal.loop-wait-preserved
loop-wait-preserved c =
    let v = pass_view c.args.self.now.pass in
    let left = subst (All (HasWait v)) c.in-Some.ensures.steps.0 c.loop-wait.invariant.left in
    let other : c.in-Some.wait.number ≢ c.args.number = search rules in
    record {
      taken = c.loop-wait.invariant.taken;
      others = subst (All (IsOther v c.args.number)) (sym c.in_ok-push.ensures.items)
          (All-push (IsOther v c.args.number) _ _ c.loop-wait.invariant.others
          (All-head (HasWait v) c.in-Some.wait _ left, other));
      left = All-tail (HasWait v) c.in-Some.wait _ left;
    }
