-- What a pass keeps that has looked at the crew's word.
use Rattle.std.proofs.Common.{◌≡◌, ℕ, ◌<◌, ◌∙◌, List, [], length, Option, sym, ap, subst, arith}
use Rattle.atomic_table.specs.Seated.{TableId}
use Rattle.cqs_rule_laws.specs.declared.client.ClientWords.{Ghosts}
use Rattle.cqs_rule.specs.declared.queue.Pass.{Pass}
use Rattle.cqs_rule.specs.declared.queue.Queue.{Queue}
use Rattle.cqs_rule.specs.Passes.{pass_view}
use Rattle.cqs_rule_laws.specs.declared.view.Facts.{Facts}
use Rattle.cqs_rule_laws.specs.declared.view.View.{View}
use Rattle.cqs_rule_laws.specs.Facts.{is_owing}
use Rattle.cqs_rule_laws.specs.Inside.{IsInside}
use Rattle.cqs_rule_laws.specs.Layout.{words_for}
use Rattle.cqs_rule_laws.specs.Saw.{Saw}
use Rattle.cqs_rule_laws.specs.Views.{as_before}
use Rattle.cqs_rule_laws.proofs.Places.{goes-looked}
use Rattle.cqs_rule.proofs.Homes.{keeps-homes}
use Rattle.cqs_rule.proofs.Moved.{Keeps}
use Rattle.cqs_rule.proofs.Spared.{same-spares}

module _ {C S E : Type 0} {g : Ghosts C S E} where
  -- the word stands inside the table
  pub crew-inside : (q : Queue C S E) (p : Pass C S E g) → p.seat.table_id ≡ q.table.shared.table_id
      → 0 < q.table.shared.table_id.words
  crew-inside q p table =
      let words : words_for p.seat.me.0.slots ≡ q.table.shared.table_id.words =
      p.slots_are ∙ ap (λ (t : TableId). t.words) table in
      omega arith

  pub keeps-looked : (p : Pass C S E g) (w : View E S)
      → Saw g.object (pass_view p) (pass_view p).facts [] (as_before (pass_view p) w) → w.weight ≡ 1 → IsInside w
      → (items : List (ℕ × Option S)) (t : TableId) → items ≡ p.seat.me.1 → t ≡ p.seat.table_id
      → Keeps w items t.words p.number p.held p.further p.owes p.waits p.ticket p.spares p.homes
  keeps-looked p w saw weight inside items t none table =
      let same = saw.same in
      let are = saw.facts_are in record {
        live = (weight, ap length none ∙ p.live.1);
        number_is = same.number ∙ p.number_is;
        held_is = ap (λ (f : Facts). f.has.held) are ∙ p.held_is;
        further_is = ap (λ (f : Facts). f.has.further) are ∙ p.further_is;
        spares_are = same-spares _ _ _ _ p.spares (ap (λ (f : Facts). f.spare_slots) are) same.slots p.spares_are;
        homes_are = keeps-homes (pass_view p) w (goes-looked g.object (pass_view p) w (pass_view p).facts [] saw)
            p.homes p.homes_are;
        counted = ap (λ (f : Facts). f.duties) are ∙ p.counted;
        retired = ap (λ (f : Facts). f.to_retire) are ∙ p.retired;
        shut = ap (λ (f : Facts). f.open_slot) are ∙ p.shut;
        owes_is = ap (λ (f : Facts). is_owing f.doing) are ∙ p.owes_is;
        waits_are = ap (λ (f : Facts). length f.waits) are ∙ p.waits_are;
        ticket_is = λ k e. p.ticket_is k (sym (ap (λ (f : Facts). f.doing) are) ∙ e);
        slots_are = ap words_for same.slots ∙ (p.slots_are ∙ ap (λ (t : TableId). t.words) (sym table));
        inside = inside;
        few_cells = subst (λ n. n < 137438953472) (sym same.cells) p.few_cells;
      }
