use Rattle.std.proofs.Common.{◌≡◌, ◌+◌, ◌<◌, ◌++◌, ◌∷◌, [], length, rules, arith, ap, refl, sym, subst, ◌∙◌, append_assoc}
use Rattle.std.proofs.lemmas.List.{length_push, length-append, append-nil}
use Rattle.std.specs.Vec.Iter.{into_iter_items}
use Rattle.cqs_rule.specs.Passes.{pass_view, slots_of, IsOf}
use Rattle.cqs_rule_laws.specs.Slots.{laid_in, handed_in}
use Rattle.cqs_pool_values.specs.Values.{in_slot}
use Rattle.cqs_pool_values.proofs.Values.{swapped-more, none-there, holds-more, begins-more, empty-more}
use Rattle.cqs_pool_values.proofs.opening.fill.Goals as goal

pub loop-value-init : goal.loop-value-init
loop-value-init g c =
    let all : into_iter_items c.into_iter-value-iterator.result ≡ c.args.values.items = search rules in record {
      mine = c.requires.belongs;
      swapped = record {
        is = ap (λ l. record (pass_view c.args.pass.now) { laid = l }) c.requires.bare;
        more = ([], sym (append-nil _));
      };
      slot = refl;
      all = all;
      filled = λ e value there. absurd (none-there e value there);
      begins = λ e value there. absurd (none-there e value there);
      empty = λ k above. ap (λ l. handed_in l k) c.requires.empty;
    }

pub fill_slot-requires-clause-belongs : goal.fill_slot-requires-clause-belongs
fill_slot-requires-clause-belongs g c =
    subst (λ q. IsOf q c.loop-value.pass) (sym c.queue.ensures) c.loop-value.invariant.mine

pub fill_slot-requires-clause-slot : goal.fill_slot-requires-clause-slot
fill_slot-requires-clause-slot g c =
    let i = c.loop-value.invariant in
    let rest = ap (λ l. length l) c.in-Some.ensures.steps.0 in
    let all = ap (λ l. length l) i.all in
    let sum = length-append c.loop-value.yielded (into_iter_items c.loop-value.value-iterator) in
    let slots = i.mine.slots in
    let size = c.requires.size in
    let slot = i.slot in
    subst (λ q. c.loop-value.slot < slots_of q) (sym c.queue.ensures) (omega arith)

pub fill_slot-requires-clause-first : goal.fill_slot-requires-clause-first
fill_slot-requires-clause-first g c =
    let i = c.loop-value.invariant in
    let is = i.swapped.is in record {
      alone = ap (λ z. z.alone) is ∙ c.requires.alone;
      none = ap (λ z. z.seen) is ∙ c.requires.nothing;
      empty = i.empty c.loop-value.slot (omega arith);
      unlaid = ap (λ z. laid_in z.laid c.loop-value.slot) is;
    }

pub loop-value-preserved : goal.loop-value-preserved
loop-value-preserved g c =
    let i = c.loop-value.invariant in
    let swap = c.fill_slot.ensures.swapped in
    let h = c.fill_slot.ensures.handed in
    let alone = ap (λ z. z.alone) i.swapped.is ∙ c.requires.alone in
    let now = h.is ∙ ap (λ l. l ++ (c.loop-value.slot, in_slot c.in-Some.value) ∷ []) (h.whole alone) in
    record {
      mine = subst (λ q. IsOf q c.fill_slot.new.pass) c.queue.ensures c.fill_slot.ensures.belongs;
      swapped = swapped-more _ _ _ i.swapped swap;
      slot = rw length_push (ap (λ n. n + 1) i.slot);
      all = append_assoc c.loop-value.yielded (c.in-Some.value ∷ []) _
          ∙ (ap (λ l. c.loop-value.yielded ++ l) (sym c.in-Some.ensures.steps.0) ∙ i.all);
      filled = holds-more _ _ _ _ _ i.slot now i.filled;
      begins = begins-more _ _ _ _ _ i.slot now (i.empty c.loop-value.slot (omega arith)) i.begins;
      empty = empty-more _ _ _ _ now i.empty;
    }
