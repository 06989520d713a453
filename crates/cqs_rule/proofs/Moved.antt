-- What a pass keeps after a step on a word of the client.
use Rattle.std.proofs.Common.{◌≡◌, ℕ, ◌<◌, ◌^◌, ◌∙◌, Bool, List, [], length, Option, None, sym, refl, ap, subst}
use Rattle.cqs_rule_laws.specs.declared.client.ClientWords.{Ghosts}
use Rattle.cqs_rule.specs.declared.queue.Pass.{Pass}
use Rattle.cqs_rule.specs.Passes.{pass_view}
use Rattle.cqs_rule_laws.specs.declared.view.Facts.{Facts}
use Rattle.cqs_rule_laws.specs.declared.view.View.{View}
use Rattle.cqs_rule_laws.specs.Events.{Event, Moment, IsMoment, Moved, Moves, moment}
use Rattle.cqs_rule_laws.specs.Facts.{is_owing}
use Rattle.cqs_rule_laws.specs.Inside.{IsInside}
use Rattle.cqs_rule_laws.specs.Layout.{words_for}
use Rattle.cqs_rule_laws.specs.Loads.{IsTicketOf}
use Rattle.cqs_core.specs.declared.doings.Doing.TheVariants.{Ticket}
use Rattle.cqs_rule_laws.specs.Saw.{IsLive}
use Rattle.cqs_rule.specs.declared.queue.spares.Spares.{Spares}
use Rattle.cqs_rule.specs.Spares.{HasSpare}
use Rattle.cqs_rule.specs.declared.queue.homes.Homes.{Homes}
use Rattle.cqs_rule.specs.Homes.{KnowsHomes}
use Rattle.cqs_rule.proofs.Homes.{same-homes}
use Rattle.cqs_rule.proofs.Spared.{same-spares}

module _ {S E : Type 0} where
  -- what a pass with these counts keeps
  abbrev pub Keeps : View E S → List (ℕ × Option S) → ℕ → ℕ → ℕ → ℕ → Bool → ℕ → ℕ → Spares → Homes → Type 0
  Keeps w items words number held further owes waits ticket spares homes = record {
    live : (w.weight ≡ 1) × (length items ≡ 0);
    number_is : w.number ≡ number;
    held_is : w.facts.has.held ≡ held;
    further_is : w.facts.has.further ≡ further;
    spares_are : HasSpare w.facts.spare_slots w.slots spares;
    homes_are : KnowsHomes w homes;
    counted : w.facts.duties ≡ [];
    retired : w.facts.to_retire ≡ [];
    shut : w.facts.open_slot ≡ None;
    owes_is : is_owing w.facts.doing ≡ owes;
    waits_are : length w.facts.waits ≡ waits;
    ticket_is : IsTicketOf w.facts.doing ticket;
    slots_are : words_for w.slots ≡ words;
    inside : IsInside w;
    few_cells : w.cells < 2 ^ 37;
  }

module _ {C S E : Type 0} {g : Ghosts C S E} where
  -- by the law of the step it has no ticket then that it had not
  pub moved-ticket : (x : C) (event : Event E) (made : ℕ → Bool) (p : Pass C S E g) (word : ℕ) (f : ℕ → ℕ)
      → Moves g.object (g.primitive x) event made (pass_view p).number (pass_view p).facts word f
      → (pass_view p).opening ≡ (g.primitive x).opening → (n k : ℕ)
      → event.doing (moment (pass_view p).opening (pass_view p).number (pass_view p).facts made n) ≡ Ticket k
      → (pass_view p).facts.doing ≡ Ticket k
  moved-ticket x event made p word f law opening n k e = law.ticket n k
      (subst (λ o. event.doing (moment o (pass_view p).number (pass_view p).facts made n) ≡ Ticket k) opening e)

  pub keeps-moved : (event : Event E) (made : ℕ → Bool) (place : ℕ) (p : Pass C S E g) (n : ℕ) (w : View E S)
      → Moved g.object g.primitive event made place (pass_view p) n w → IsLive g.object w
      → (items : List (ℕ × Option S)) (words held further : ℕ) (owes : Bool) → items ≡ p.seat.me.1
      → p.seat.table_id.words ≡ words → ((m : Moment) → IsMoment p.held n (made n) m → event.holds m ≡ held)
      → ((m : Moment) → is_owing m.facts.doing ≡ p.owes → m.found ≡ n → m.made ≡ made n
      → is_owing (event.doing m) ≡ owes)
      → ((m : Moment) → m.facts.has.further ≡ p.further → m.found ≡ n → m.made ≡ made n → event.further m ≡ further)
      → ((k : ℕ) → event.doing (moment (pass_view p).opening (pass_view p).number (pass_view p).facts made n) ≡ Ticket k
      → (pass_view p).facts.doing ≡ Ticket k)
      → Keeps w items words p.number held further owes p.waits p.ticket p.spares p.homes
  keeps-moved event made place p n w told live items words held further owes none table holds owing furthers tickets =
      let v = pass_view p in
      let now = moment v.opening v.number v.facts made n in
      let are = told.saw.facts_are in
      let same = told.saw.same in record {
        live = (same.weight ∙ p.live.0, ap length none ∙ p.live.1);
        number_is = same.number ∙ p.number_is;
        held_is = ap (λ (f : Facts). f.has.held) are
            ∙ holds now (record { held_is = p.held_is; found_is = refl; made_is = refl });
        further_is = ap (λ (f : Facts). f.has.further) are ∙ furthers now p.further_is refl refl;
        spares_are = same-spares _ _ _ _ p.spares (ap (λ (f : Facts). f.spare_slots) are) same.slots p.spares_are;
        homes_are = same-homes v w same p.homes p.homes_are;
        counted = ap (λ (f : Facts). f.duties) are ∙ p.counted;
        retired = ap (λ (f : Facts). f.to_retire) are ∙ p.retired;
        shut = ap (λ (f : Facts). f.open_slot) are ∙ p.shut;
        owes_is = ap (λ (f : Facts). is_owing f.doing) are ∙ owing now p.owes_is refl refl;
        waits_are = ap (λ (f : Facts). length f.waits) are ∙ p.waits_are;
        ticket_is = λ k e. p.ticket_is k (tickets k (sym (ap (λ (f : Facts). f.doing) are) ∙ e));
        slots_are = ap words_for same.slots ∙ (p.slots_are ∙ table);
        inside = live.inside;
        few_cells = subst (λ k. k < 137438953472) (sym same.cells) p.few_cells;
      }
