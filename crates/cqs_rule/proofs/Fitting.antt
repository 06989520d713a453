-- What a step on a word of the client asks and tells, at the place where the word stands.
use Rattle.std.proofs.Common.{◌≡◌, ℕ, ◌<◌, ◌∙◌, Bool, sym, ap, subst}
use Rattle.atomic_table.specs.Seated.{TableId}
use Rattle.cqs_rule_laws.specs.declared.client.ClientWords.{Ghosts}
use Rattle.cqs_rule.specs.declared.queue.Pass.{Pass}
use Rattle.cqs_rule.specs.declared.queue.Queue.{Queue}
use Rattle.cqs_rule.specs.Passes.{pass_view}
use Rattle.cqs_rule_laws.specs.declared.view.View.{View}
use Rattle.cqs_rule_laws.specs.Events.{Event, Moved}
use Rattle.cqs_rule_laws.specs.Layout.{client_place, words_for}
use Rattle.cqs_rule_laws.proofs.CellPlaces.{client-inside}

module _ {C S E : Type 0} {g : Ghosts C S E} where
  -- it stands inside the table
  pub word-inside : (q : Queue C S E) (p : Pass C S E g) (word place : ℕ) → place ≡ client_place word → word < 4
      → p.seat.table_id ≡ q.table.shared.table_id → place < q.table.shared.table_id.words
  word-inside q p word place is few table =
      let words : words_for p.seat.me.0.slots ≡ q.table.shared.table_id.words =
      p.slots_are ∙ ap (λ (t : TableId). t.words) table in
      subst (λ n. n < q.table.shared.table_id.words) (sym is)
      (subst (λ n. client_place word < n) words (client-inside word p.seat.me.0.slots few))

  -- the step was made on that word
  pub moved-word : (event : Event E) (made : ℕ → Bool) (word place : ℕ) (p : Pass C S E g) (n : ℕ) (w : View E S)
      → place ≡ client_place word → Moved g.object g.primitive event made place (pass_view p) n w
      → Moved g.object g.primitive event made (client_place word) (pass_view p) n w
  moved-word event made word place p n w is told =
      subst (λ k. Moved g.object g.primitive event made k (pass_view p) n w) is told
