-- One number of a resume in a synchronous queue: a value was left in its cell and watched, or its canceller was found
-- there.
use Rattle.std.proofs.Common.{◌≡◌, ℕ, ◌+◌, [], ◌∷◌, ◌++◌, length, Some, Ok, sym, ap, ◌∙◌, subst, inr, length-append, arith}
use Rattle.std.proofs.lemmas.List.{append-nil}
use Rattle.cqs_core.specs.declared.cells.CoreState.TheVariants as state
use Rattle.cqs_core.specs.declared.doings.Doing.TheVariants as doing
use Rattle.cqs_core.specs.QueueSteps.{in_sync, leaves_watched}
use Rattle.cqs_words.specs.declared.cell.CellState.{CellState}
use Rattle.cqs_rule_laws.specs.declared.view.Facts.{Facts}
use Rattle.cqs_rule_laws.specs.declared.view.Glimpse.{Glimpse}
use Rattle.cqs_rule_laws.specs.declared.view.Sighting.TheVariants.{Cell}
use Rattle.cqs_rule_laws.specs.declared.view.View.{View}
use Rattle.cqs_rule_laws.specs.Exchanges.{FoundCell, HasCell}
use Rattle.cqs_rule_laws.specs.Object.{Object, Primitive}
use Rattle.cqs_rule_laws.specs.Saw.{Saw, WasFound}
use Rattle.cqs_rule.specs.declared.queue.tokens.Under as token
use Rattle.cqs_rule.specs.Owed.{HasUnder, under_payload, under_reached, under_ticket}
use Rattle.cqs_resume.specs.declared.sync_resumed.SyncResumed.{SyncResumed}
use Rattle.cqs_resume.specs.declared.sync_resumed.SyncResumed.TheVariants.{Served, Refused, Broke, Handling, Under}
use Rattle.cqs_resume.specs.Meets.{cell_of, Met}
use Rattle.cqs_resume.specs.SyncMeets.{facts_kept, MetCanceller, SyncMeets}
use Rattle.cqs_resume.specs.Watching.{WatchedTill}
use Rattle.cqs_resume.proofs.OneNumber.{facts_on_way, Tried}

module _ {C E S : Type 0} (object : Object E) (primitive : C → Primitive E S) where
  -- the value was left, and then what became of it was found
  pub met-watched : (payload k : ℕ) (result : SyncResumed) (v u w : View E S)
      → Met object primitive (in_sync leaves_watched) state.Empty (doing.Watching k) [] payload k v u
      → WatchedTill object primitive k u result w → SyncMeets object primitive payload k v (Ok result) w
  met-watched payload k (Served n) v u w m t = (t.0, inr (record { from = u; met = m; then = t.1 }))
  met-watched payload k (Broke n) v u w m t = (t.0, record { from = u; met = m; then = t.1 })
  met-watched payload k (Refused n) v u w m t = absurd t
  met-watched payload k (Handling n under) v u w m t = absurd t
  met-watched payload k (Under under) v u w m t = absurd t

  -- an exchange found the canceller
  pub met-canceller : (payload k n : ℕ) (at_last : CellState) (under : token.Under) (v u w : View E S)
      → (t : Tried object primitive k n at_last v u) → k ≡ n → t.glimpse.state ≡ state.Cancelling
      → v.facts.doing ≡ doing.Ticket n → w ≡ u
      → under_payload under ≡ payload → under_ticket under ≡ Some n → under_reached under ≡ v.facts.reached
      → HasUnder w.facts under → MetCanceller object primitive payload n v under w
  met-canceller payload k n at_last under v u w t same is ticket here owed at reached has =
      let g : Glimpse = t.glimpse in
      let f : Facts = v.facts in
      let way = t.way in
      let cell : g ≡ cell_of n state.Cancelling g.payload = λ i. cell_of ((t.number ∙ same) i) (is i) g.payload in
      let last : way.last ≡ Some (cell_of n state.Cancelling g.payload) =
      sym (ap (λ (z : Facts). z.last) way.saw.facts_are) ∙ (t.last ∙ ap Some cell) in
      let found : way.found ≡ t.earlier ++ Cell n t.word ∷ [] =
      t.found_is ∙ ap (λ z. t.earlier ++ Cell z t.word ∷ []) (t.number ∙ same) in
      let facts : facts_on_way way.found way.heads way.spares way.last f
      ≡ facts_kept n t.earlier t.word g.payload way.heads way.spares f =
      λ i. record (facts_on_way way.found way.heads way.spares way.last f) {
        doing = ticket i;
        last = last i;
        passed = sym (append-nil f.passed) i;
        found = f.found ++ found i;
      } in
      let few = way.few in
      let long : length way.found ≡ length t.earlier + 1 =
      ap length t.found_is ∙ length-append t.earlier (Cell g.number t.word ∷ []) in
      record {
        tried = t.earlier;
        heads = way.heads;
        few = omega (arith, few, long);
        spares = way.spares;
        search = way.search;
        word = t.word;
        left = g.payload;
        cell = subst (FoundCell t.word) cell t.cell;
        saw = subst (λ (z : Facts × View E S). Saw object v z.0 [] z.1) (λ i. (facts i, sym here i)) way.saw;
        was = subst (λ (z : Glimpse × View E S). WasFound primitive (HasCell z.0) [] z.1)
            (λ i. (cell i, sym here i)) t.was;
        payload_is = owed;
        ticket_is = at;
        reached_is = reached;
        has = has;
      }
