-- What the two passes keep that one was cut into.
use Rattle.std.proofs.Common.{◌≡◌, ℕ, ◌-◌, ◌<◌, ◌≤◌, ◌∙◌, true, false, List, [], length, Option, None, sym, ap, subst, arith}
use Rattle.atomic_table.specs.Seated.{TableId}
use Rattle.cqs_rule_laws.specs.declared.client.ClientWords.{Ghosts}
use Rattle.cqs_rule.specs.declared.queue.Pass.{Pass}
use Rattle.cqs_rule.specs.Passes.{pass_view}
use Rattle.cqs_rule_laws.specs.declared.view.Facts.{Facts}
use Rattle.cqs_rule_laws.specs.declared.view.View.{View}
use Rattle.cqs_rule_laws.specs.Facts.{is_owing}
use Rattle.cqs_rule_laws.specs.Layout.{words_for}
use Rattle.cqs_rule_laws.specs.Views.{made_in, single, cut_off}
use Rattle.cqs_rule_laws.proofs.CrewHeld.{lessened-held, lessened-further}
use Rattle.cqs_rule_laws.proofs.Tries.{Leaves, Begins}
use Rattle.cqs_rule.specs.declared.queue.spares.Spares.TheVariants.{Nothing}
use Rattle.cqs_rule.proofs.Homes.{keeps-homes, no-homes}
use Rattle.cqs_rule.proofs.Moved.{Keeps}
use Rattle.cqs_rule.proofs.Spared.{no-spares, same-spares}

-- there was room for another pass
pub room-left : {E S X : Type 0} (x : View E S × X) (u : View E S) (more : X) (n first made passes key : ℕ)
    → x ≡ (single u, more) → u.crew ≡ n → n ≡ first → made ≡ made_in first → made < passes → key ≡ passes
    → key ≤ made_in x.0.crew → false ≡ true
room-left {E} {S} {X} x u more n first made passes key is crew hit are below key_is full =
    let same : x.0.crew ≡ u.crew = ap (λ (z : View E S × X). z.0.crew) is in absurd (omega arith)

-- what a pass gives is no more than the most that one holds
pub gives-few : (gives most : ℕ) (f f' : Facts) → f ≡ f' → gives ≤ f'.has.held → f.has.held ≤ most → gives ≤ most
gives-few gives most f f' are enough few =
    let same : f.has.held ≡ f'.has.held = ap (λ (x : Facts). x.has.held) are in omega arith

module _ {C S E : Type 0} {g : Ghosts C S E} where
  -- it holds what it gives
  pub gives-held : (gives : ℕ) (p : Pass C S E g) (f : Facts) → (pass_view p).facts ≡ f → gives ≤ f.has.held
      → gives ≤ p.held
  gives-held gives p f are enough =
      subst (λ n. gives ≤ n) (ap (λ (x : Facts). x.has.held) (sym are) ∙ p.held_is) enough

  -- the pass that made the other
  pub keeps-cut : (gives : ℕ) (v : View E S) (p : Pass C S E g) (x : View E S × List (ℕ × Option S)) (u : View E S)
      (more : List (ℕ × Option S)) → Leaves g.object gives v (pass_view p) x.0 → x ≡ (single u, more)
      → more ≡ p.seat.me.1 → (t : TableId) → t ≡ p.seat.table_id
      → Keeps x.0 x.1 t.words p.number (p.held - gives) p.further p.owes p.waits p.ticket p.spares p.homes
  keeps-cut gives v p x u more l is none t table =
      let has = (pass_view p).facts.has in record {
        live = (
          l.weight,
          ap (λ (z : View E S × List (ℕ × Option S)). length z.1) is ∙ (ap length none ∙ p.live.1),
        );
        number_is = l.number ∙ p.number_is;
        held_is = ap (λ (f : Facts). f.has.held) l.facts ∙ (lessened-held gives has ∙ ap (λ n. n - gives) p.held_is);
        further_is = ap (λ (f : Facts). f.has.further) l.facts ∙ (lessened-further gives has ∙ p.further_is);
        spares_are = same-spares _ _ _ _ p.spares (ap (λ (f : Facts). f.spare_slots) l.facts) l.slots p.spares_are;
        homes_are = keeps-homes (pass_view p) x.0
            (record { number = l.number; cells = l.cells; slots = l.slots; segments = l.segments }) p.homes p.homes_are;
        counted = ap (λ (f : Facts). f.duties) l.facts ∙ p.counted;
        retired = ap (λ (f : Facts). f.to_retire) l.facts ∙ p.retired;
        shut = ap (λ (f : Facts). f.open_slot) l.facts ∙ p.shut;
        owes_is = ap (λ (f : Facts). is_owing f.doing) l.facts ∙ p.owes_is;
        waits_are = ap (λ (f : Facts). length f.waits) l.facts ∙ p.waits_are;
        ticket_is = λ k e. p.ticket_is k (sym (ap (λ (f : Facts). f.doing) l.facts) ∙ e);
        slots_are = ap words_for l.slots ∙ (p.slots_are ∙ ap (λ (t : TableId). t.words) (sym table));
        inside = l.alive.inside;
        few_cells = subst (λ n. n < 137438953472) (sym l.cells) p.few_cells;
      }

  -- the new one
  pub keeps-begun : (gives number : ℕ) (p : Pass C S E g) (x : View E S) (y : View E S × List (ℕ × Option S))
      (u : View E S) → Begins g.object gives (pass_view p) x y.0 → y ≡ (cut_off u, []) → u.second_number ≡ number
      → (t : TableId) → t ≡ p.seat.table_id → Keeps y.0 y.1 t.words number gives 0 false 0 0 Nothing
      (record { suspended = None; resumed = None })
  keeps-begun gives number p x y u b is named t table =
      let facts = b.came.facts in record {
        live = (b.weight, ap (λ (z : View E S × List (ℕ × Option S)). length z.1) is);
        number_is = ap (λ (z : View E S × List (ℕ × Option S)). z.0.number) is ∙ named;
        held_is = ap (λ (f : Facts). f.has.held) facts;
        further_is = ap (λ (f : Facts). f.has.further) facts;
        spares_are = no-spares _ _ (ap (λ (f : Facts). f.spare_slots) facts);
        homes_are = no-homes y.0;
        counted = ap (λ (f : Facts). f.duties) facts;
        retired = ap (λ (f : Facts). f.to_retire) facts;
        shut = ap (λ (f : Facts). f.open_slot) facts;
        owes_is = ap (λ (f : Facts). is_owing f.doing) facts;
        waits_are = ap (λ (f : Facts). length f.waits) facts;
        ticket_is = λ k e. let idle = ap (λ (f : Facts). f.doing) facts in absurd (cc);
        slots_are = ap words_for b.slots ∙ (p.slots_are ∙ ap (λ (t : TableId). t.words) (sym table));
        inside = b.alive.inside;
        few_cells = subst (λ n. n < 137438953472) (sym b.cells) p.few_cells;
      }
