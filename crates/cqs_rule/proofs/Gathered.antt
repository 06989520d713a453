-- What a pass keeps that takes in another one.
use Rattle.std.proofs.Common.{◌≡◌, ℕ, ◌+◌, ◌<◌, ◌∙◌, List, [], ◌++◌, length, Option, sym, ap, subst}
use Rattle.std.proofs.lemmas.List.{append-nil}
use Rattle.cqs_rule_laws.specs.declared.client.ClientWords.{Ghosts}
use Rattle.cqs_rule.specs.declared.queue.Pass.{Pass}
use Rattle.cqs_rule.specs.Passes.{pass_view}
use Rattle.cqs_rule_laws.specs.declared.view.Facts.{Facts}
use Rattle.cqs_rule_laws.specs.declared.view.View.{View}
use Rattle.cqs_rule_laws.specs.Crew.{Met}
use Rattle.cqs_rule_laws.specs.Facts.{is_owing}
use Rattle.cqs_rule_laws.specs.Layout.{words_for}
use Rattle.cqs_rule_laws.specs.Saw.{IsLive}
use Rattle.cqs_rule_laws.specs.Views.{facts_joined, joined}
use Rattle.cqs_rule_laws.proofs.Places.{goes-met}
use Rattle.cqs_rule.proofs.Homes.{keeps-homes}
use Rattle.cqs_rule.proofs.Moved.{Keeps}
use Rattle.cqs_rule.proofs.Spared.{same-spares}

module _ {C S E : Type 0} {g : Ghosts C S E} where
  -- what is left of the two passes
  pub record Gathered (p given : Pass C S E g) (w : View E S) : Type 0 where
    pub met : Met g.object (pass_view p) (facts_joined (pass_view p).facts (pass_view given).facts)
        (pass_view given).seen (pass_view given).handed (pass_view given).own w
    pub laid : w.laid ≡ (pass_view p).laid ++ (pass_view given).laid

  pub gathers : (p given : Pass C S E g) (j : View E S × List (ℕ × Option S)) (w : View E S)
      → j ≡ (joined (pass_view p) (pass_view given), p.seat.me.1)
      → Met g.object j.0 j.0.facts j.0.other j.0.other_handed j.0.others w → w.laid ≡ j.0.laid → Gathered p given w
  gathers p given j w is =
      subst (λ (z : View E S × List (ℕ × Option S)). Met g.object z.0 z.0.facts z.0.other z.0.other_handed z.0.others w
      → w.laid ≡ z.0.laid → Gathered p given w)
      (sym is)
      (λ m l. record {
        met = record {
          number = m.number;
          weight = m.weight;
          made_none = m.made_none;
          facts_are = m.facts_are;
          own_is = m.own_is;
          prefix = m.prefix;
          prefix_other = m.prefix_other;
          handed_in = m.handed_in;
          handed_in_other = m.handed_in_other;
          mine = m.mine;
          theirs = m.theirs;
          limit = m.limit;
          cells = m.cells;
          slots = m.slots;
          passes = m.passes;
          opening = m.opening;
          segments = m.segments;
        };
        laid = l;
      })

  -- and the items of the first
  pub items-as : (p given : Pass C S E g) (j : View E S × List (ℕ × Option S))
      → j ≡ (joined (pass_view p) (pass_view given), p.seat.me.1) → j.1 ≡ p.seat.me.1
  items-as p given j is = ap (λ (z : View E S × List (ℕ × Option S)). z.1) is

  pub keeps-met : (p given : Pass C S E g) (w : View E S) → Gathered p given w → IsLive g.object w
      → (pass_view given).facts.spare_slots ≡ [] → (items : List (ℕ × Option S)) (words : ℕ) → items ≡ p.seat.me.1 →
      p.seat.table_id.words ≡ words
      → Keeps w items words p.number (p.held + given.held) p.further p.owes p.waits p.ticket p.spares p.homes
  keeps-met p given w gathered live spareless items words none table =
      let m = gathered.met in
      let are = m.facts_are in record {
        live = (m.weight, ap length none ∙ p.live.1);
        number_is = m.number ∙ p.number_is;
        held_is = ap (λ (f : Facts). f.has.held) are ∙ (λ i. p.held_is i + given.held_is i);
        further_is = ap (λ (f : Facts). f.has.further) are ∙ p.further_is;
        spares_are = same-spares _ _ _ _ p.spares
            (ap (λ (f : Facts). f.spare_slots) are
            ∙ (ap (λ l. (pass_view p).facts.spare_slots ++ l) spareless ∙ append-nil _))
            m.slots p.spares_are;
        homes_are = keeps-homes (pass_view p) w (goes-met g.object (pass_view p) w _ _ _ _ m) p.homes p.homes_are;
        counted = ap (λ (f : Facts). f.duties) are ∙ (λ i. p.counted i ++ given.counted i);
        retired = ap (λ (f : Facts). f.to_retire) are ∙ (λ i. p.retired i ++ given.retired i);
        shut = ap (λ (f : Facts). f.open_slot) are ∙ p.shut;
        owes_is = ap (λ (f : Facts). is_owing f.doing) are ∙ p.owes_is;
        waits_are = ap (λ (f : Facts). length f.waits) are ∙ p.waits_are;
        ticket_is = λ k e. p.ticket_is k (sym (ap (λ (f : Facts). f.doing) are) ∙ e);
        slots_are = ap words_for m.slots ∙ (p.slots_are ∙ table);
        inside = live.inside;
        few_cells = subst (λ k. k < 137438953472) (sym m.cells) p.few_cells;
      }

  -- what both held fits
  pub held-met : (p given : Pass C S E g) (w : View E S) → Gathered p given w → IsLive g.object w
      → p.held + given.held < 4294967296
  held-met p given w gathered live =
      subst (λ n. n < 4294967296)
      (ap (λ (f : Facts). f.has.held) gathered.met.facts_are ∙ (λ i. p.held_is i + given.held_is i))
      live.held
