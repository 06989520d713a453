use Rattle.std.proofs.Common.{◌∙◌, ap, sym, subst, ◌++◌, ◌∷◌, []}
use Rattle.cqs_mutex.specs.Mutexes.{IsFilled}
use Rattle.cqs_mutex.specs.Values.{in_slot}
use Rattle.cqs_rule.specs.Passes.{IsOf}
use Rattle.cqs_mutex.proofs.Values.{filled-last}
use Rattle.cqs_mutex.proofs.mutex.Mutex.ample.Goals as goal

pub returns-clause-belongs : goal.returns-clause-belongs
returns-clause-belongs g c =
    let h = c.fill_slot.ensures.handed in record {
      mine = subst (λ q. IsOf q c.fill_slot.new.pass) c.queue.ensures c.fill_slot.ensures.belongs;
      filled = subst IsFilled (sym h.is) (filled-last h.before _);
      tidy = λ none. h.off;
    }

pub returns-clause-opens : goal.returns-clause-opens
returns-clause-opens g c =
    let h = c.fill_slot.ensures.handed in
    let is = c.fill_slot.ensures.swapped.is in
    let e = c.in-Ok.ensures in record {
      passes = e.passes.0;
      limit = e.passes.1;
      first = ap (λ z. z.number) is ∙ e.first;
      own = ap (λ z. z.own) is ∙ e.own;
      nothing = ap (λ z. z.seen) is ∙ e.nothing;
      handed = h.is ∙ ap (λ l. l ++ (0, in_slot c.args.value) ∷ []) (h.whole e.alone ∙ e.empty.0);
      alone = ap (λ z. z.alone) is ∙ e.alone;
      ready = record {
        ready = record {
          idle = ap (λ z. z.facts.doing) is ∙ e.ready.ready.idle;
          further = ap (λ z. z.facts.has.further) is ∙ e.ready.ready.further;
        };
        held_is = ap (λ z. z.facts.has.held) is ∙ e.ready.held_is;
        waits_are = ap (λ z. z.facts.waits) is ∙ e.ready.waits_are;
      };
    }
