use Rattle.std.proofs.Common.{◌∙◌, ap, sym, subst, arith}
use Rattle.cqs_rule_laws.specs.Given.{IsLastGiven}
use Rattle.cqs_rule.specs.Passes.{pass_view, IsOf}
use Rattle.cqs_semaphore_client.specs.Semaphore.{slot_given}
use Rattle.cqs_mutex.proofs.Values.{filled-more, lay-filled}
use Rattle.cqs_mutex.proofs.mutex.Mutex.take.Goals as goal

pub unreachable-requires : goal.unreachable-requires
unreachable-requires g c =
    lay-filled c.swap_slot.result _ _ c.swap_slot.ensures.lay c.requires.bare c.requires.filled c.in-None.is

pub returns-clause-belongs : goal.returns-clause-belongs
returns-clause-belongs g c =
    let swap = c.swap_slot.ensures.swapped in record {
      mine = subst (λ q. IsOf q c.swap_slot.new.pass) c.queue.ensures c.swap_slot.ensures.belongs;
      filled = filled-more _ _ c.requires.filled swap.more;
      tidy = λ none.
          let same = ap (λ z. z.facts.has.held) swap.is in
          let some = c.requires.holds in
          absurd (omega arith);
    }

pub returns-clause-took : goal.returns-clause-took
returns-clause-took g c =
    let lay = c.swap_slot.ensures.lay in
    let swap = c.swap_slot.ensures.swapped in
    let bare = c.requires.bare in record {
      handed = lay.handed;
      since = lay.since;
      seen = lay.seen;
      last = sym (lay.last bare) ∙ c.in-Some.is;
      unlocked = subst (λ l. IsLastGiven slot_given 0 c.in-Some.field-0 l (pass_view c.swap_slot.new.pass).handed)
          (sym (ap (λ z. z.seen) swap.is)) (c.swap_slot.ensures.last bare c.in-Some.field-0 c.in-Some.is);
      swapped = swap;
    }
