use Rattle.std.proofs.Common.{◌∙◌, ap, subst, sym}
use Rattle.cqs_rule_laws.specs.Slots.{laid_in}
use Rattle.cqs_rule.specs.Passes.{pass_view, IsOf}
use Rattle.cqs_rule_laws.proofs.HandedBy.{was-left, was-swapped}
use Rattle.cqs_semaphore_client.specs.Semaphore.{semaphore_object}
use Rattle.cqs_mutex.specs.Mutexes.{IsFilled}
use Rattle.cqs_mutex.specs.Values.{in_slot}
use Rattle.cqs_mutex.proofs.Values.{filled-more, filled-last, releases-leave}
use Rattle.cqs_mutex.proofs.mutex.Mutex.unlock.Goals as goal

pub release-requires-clause-full : goal.release-requires-clause-full
release-requires-clause-full g c = λ κs lives.
    let swap = c.lay.ensures.laid in
    let is = c.in-Ok.ensures.claimed.left.1.is in
    let b = c.requires.belongs in
    let filled = filled-more _ _ (subst IsFilled (sym (ap (λ z. z.handed) is)) b.filled) swap.more in record {
      value = in_slot c.args.guard.value;
      laid = ap (λ z. laid_in z.laid 0) swap.is;
      last = filled.0;
      filled = filled.1;
    }

pub returns-clause-handed : goal.returns-clause-handed
returns-clause-handed g c =
    let swap = c.lay.ensures.laid in
    let h = c.in-Ok-release.ensures.handed (in_slot c.args.guard.value) (ap (λ z. laid_in z.laid 0) swap.is) in
    let is = c.in-Ok.ensures.claimed.left.1.is in
    was-left semaphore_object 0 (in_slot c.args.guard.value) _ (pass_view c.claim_spares.new.pass) _
    (ap (λ z. z.handed) is) (ap (λ z. z.seen) is) (ap (λ z. z.number) is)
    (was-swapped semaphore_object 0 (in_slot c.args.guard.value) _ (pass_view c.claim_spares.new.pass) _ _ swap h)

pub returns-clause-belongs : goal.returns-clause-belongs
returns-clause-belongs g c =
    let h = (returns-clause-handed g c).handed in record {
      mine = c.release.ensures.belongs;
      filled = filled-more _ _ (filled-last h.before (in_slot c.args.guard.value)) h.now;
      tidy = λ none. h.off;
    }

pub returns-clause-leaves : goal.returns-clause-leaves
returns-clause-leaves g c = releases-leave _ _ _ c.in-Ok-release.ensures.released

-- no slot was free, and nothing else was done
pub returns-in_default-clause-belongs : goal.returns-in_default-clause-belongs
returns-in_default-clause-belongs g c =
    let b = c.requires.belongs in
    let is = c.in_default.ensures.crowded.left.is in
    record {
      mine = subst (λ q. IsOf q c.claim_spares.new.pass) c.queue.ensures c.claim_spares.ensures.belongs;
      filled = subst IsFilled (sym (ap (λ z. z.handed) is)) b.filled;
      tidy = λ none. ap (λ z. laid_in z.laid 0) is ∙ b.tidy (sym (ap (λ z. z.facts.has.held) is) ∙ none);
    }

pub returns-in_default-clause-crowded : goal.returns-in_default-clause-crowded
returns-in_default-clause-crowded g c = c.in_default.ensures.crowded
