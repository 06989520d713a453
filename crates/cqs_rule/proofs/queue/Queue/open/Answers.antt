use Rattle.std.proofs.Common.{◌≡◌, ◌∙◌, ◌+◌, ◌*◌, ◌/◌, ◌<◌, ◌≤◌, ℕ, nat_le, true, ap, sym, subst, leb-true, le-leb, length, arith}
use mathlib.Core.Logic.{◌↔◌}
use Rattle.cqs_rule_laws.specs.declared.config.Config.{Config}
use Rattle.cqs_rule_laws.specs.declared.view.View.{View}
use Rattle.cqs_rule_laws.specs.Ample.{AreEnough}
use Rattle.cqs_rule_laws.specs.Configured.{is_config}
use Rattle.cqs_rule_laws.specs.Facts.{is_owing}
use Rattle.cqs_rule_laws.specs.Layout.{words_for}
use Rattle.cqs_rule_laws.specs.Ruled.{cell_count}
use Rattle.cqs_rule_laws.proofs.Opens.{config-bounds}
use Rattle.cqs_rule.specs.Homes.{KnowsHomes}
use Rattle.cqs_rule.proofs.Homes.{no-homes}
use Rattle.cqs_rule.proofs.Spared.{no-spares}
use Rattle.cqs_rule.proofs.queue.Queue.open.Goals as goal

few-cells : (config : Config) (values : ℕ) → is_config config ≡ true → values ≤ 4096
    → cell_count config.passes config.limit values < 137438953472
few-cells config values good few =
    let b = config-bounds config good in
    let passes = b.few_passes in
    let limit = b.low_limit in omega arith

-- what the code computes of the slots, as it counts them
enough-is : (cells passes slots n spares m : ℕ) → n ≡ cells → spares ≡ 2 * passes → m ≡ slots
    → (nat_le (n / 32 + spares + 2) m ≡ true) ↔ AreEnough cells passes slots
enough-is cells passes slots n spares m a b d = (
  λ is. let h = leb-true (n / 32 + spares + 2) m is in omega arith,
  λ enough. le-leb (n / 32 + spares + 2) m (omega arith),
)

pub invariant_of-result : goal.invariant_of-result
invariant_of-result g c =
    let p = g.C.ClientWords.primitive c.args.client in
    let good : is_config c.args.config ≡ true = sym c.is_in_range.ensures ∙ c.if-not-is_in_range.false in
    let h = c.in_ok-table.ensures in
    let me = ap (λ m. m.0) h.seat.0 in record {
      live = (ap (λ z. z.weight) me, ap (λ m. length m.1) h.seat.0);
      number_is = ap (λ z. z.number) me;
      held_is = ap (λ z. z.facts.has.held) me ∙ sym c.held-held.ensures;
      further_is = ap (λ z. z.facts.has.further) me;
      spares_are = no-spares _ _ (ap (λ z. z.facts.spare_slots) me);
      homes_are = subst (KnowsHomes _) (sym c.none.ensures) (no-homes _);
      counted = ap (λ z. z.facts.duties) me;
      retired = ap (λ z. z.facts.to_retire) me;
      shut = ap (λ z. z.facts.open_slot) me;
      owes_is = ap (λ z. is_owing z.facts.doing) me;
      waits_are = ap (λ (z : View _ _). length z.facts.waits) me;
      ticket_is = λ k e. let idle = ap (λ (z : View _ _). z.facts.doing) me in absurd (cc);
      slots_are = ap (λ (z : View _ _). words_for z.slots) me ∙ sym h.table.2;
      inside = h.seat.1.inside;
      few_cells = subst (λ n. n < 137438953472) (sym (ap (λ z. z.cells) me))
          (few-cells c.args.config p.values good c.requires.few);
    }

pub returns-clause-belongs : goal.returns-clause-belongs
returns-clause-belongs g c =
    let C = g.C.ClientWords in
    let config = c.args.config in
    let h = c.in_ok-table.ensures in
    let me = ap (λ m. m.0) h.seat.0 in record {
      table = h.table.1;
      slots = h.table.0 ∙ ap C.value_slots (sym h.key.0);
      passes = ap (λ z. z.passes) me ∙ sym h.key.1;
      limit = ap (λ z. z.limit) me;
      cells = ap (λ z. z.cells) me
          ∙ sym (λ i. cell_count (h.key.1 i) config.limit (C.primitive (h.key.0 i)).values);
      mode = ap (λ x. (C.primitive x).opening.mode) h.key.0 ∙ c.requires.mode;
      ample = enough-is _ _ _ _ _ _
          (omega (arith, c.from.ensures, c.from-2.ensures, c.values.ensures)
          ∙ sym (λ i. cell_count (h.key.1 i) config.limit (C.primitive (h.key.0 i)).values))
          (omega (arith, c.from-spares.ensures) ∙ sym (ap (λ n. 2 * n) h.key.1)) c.from-3.ensures;
      live = h.seat.1;
      looks = ap (λ x. (C.primitive x).opening.looks) h.key.0 ∙ c.requires.looks;
      opening = ap (λ z. z.opening) me ∙ sym (ap (λ x. (C.primitive x).opening) h.key.0);
      alone = h.seat.2;
    }
