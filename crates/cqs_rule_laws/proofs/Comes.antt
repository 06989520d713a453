-- What was drawn to resume at, and what it says of a cell to a pass that is alone.
use Rattle.std.proofs.Common.{◌≡◌, ◌≢◌, ℕ, ◌<◌, ◌≤◌, Bool, true, Option, Some, None, slice_get, sym, refl, ap, ◌∙◌, ⊎_elim, arith}
use Rattle.std.proofs.lemmas.Bool.{cases_lt}
use Rattle.std.proofs.lemmas.Option.{same_Some}
use mathlib.Core.Logic.{dite}
use mathlib.Core.Option.{some}
use native.Mathlib.Decide.{ℕ_discrete}
use lib.ListN.{get_elem?}
use Rattle.atomic_table.specs.Table.{State}
use Rattle.cqs_core.specs.declared.cells.CoreCell.{CoreCell}
use Rattle.cqs_core.specs.declared.cells.CoreState.{CoreState}
use Rattle.cqs_core.specs.declared.cells.CoreState.TheVariants as state
use Rattle.cqs_core.specs.declared.doings.Doing.TheVariants as doing
use Rattle.cqs_core.specs.QueueAsUnbroken.{as_unbroken}
use Rattle.cqs_core.specs.QueueEither.{IsSoundEither}
use Rattle.cqs_core.specs.QueueSound.{IsAwaited}
use Rattle.cqs_core.specs.QueueState.{Queue}
use Rattle.cqs_core.proofs.EitherCells.{intact-sound, broken-reached, cells-made}
use Rattle.cqs_core.proofs.Places.{get-below, get-none}
use Rattle.cqs_core.proofs.QueueAsUnbroken.{has_ticket-unwatching}
use Rattle.cqs_core.proofs.Tickets.{Holds, has_ticket-holds}
use Rattle.cqs_rule_laws.specs.declared.view.View.{View}
use Rattle.cqs_rule_laws.specs.Client.{IsClient}
use Rattle.cqs_rule_laws.specs.Drawn.{HasCome, TellsCome}
use Rattle.cqs_rule_laws.specs.Hidden.{state_in, state_at}
use Rattle.cqs_rule_laws.specs.Layout.{client_words}
use Rattle.cqs_rule_laws.specs.Object.{Object, Primitive}
use Rattle.cqs_rule_laws.specs.Ruled.{Ruled, Knows, cell_count}
use Rattle.cqs_rule_laws.proofs.CrewLooks.{alone-rests}

-- a sound queue in which no pass is on its way to the cell
come-as : {sync : Bool} (q : Queue) (k : ℕ) → IsSoundEither sync q → (Holds q.doing k → ⊥)
    → HasCome q.resumes k (state_at q k)
come-as {sync} q k sound none = by (slice_get q.cells k) refl
  where
    waits : IsAwaited (as_unbroken q) k → q.resumes ≤ k
    waits awaited = ⊎_elim (λ (low : k < q.resumes). absurd (none (has_ticket-holds q.doing k
        (sym (has_ticket-unwatching k q.doing) ∙ awaited low))))
        (λ (past : q.resumes ≤ k). past) (cases_lt k q.resumes)

    at : (cell : CoreCell) (s : CoreState) → slice_get q.cells k ≡ Some cell → cell.state ≡ s → HasCome q.resumes k s
    at cell state.Empty there is = waits (intact-sound sync q sound k cell state.Empty there is tt).1
    at cell state.Waiter there is = waits (intact-sound sync q sound k cell state.Waiter there is tt).1
    at cell state.Cancelling there is = waits (intact-sound sync q sound k cell state.Cancelling there is tt).1
    at cell state.Value there is = (intact-sound sync q sound k cell state.Value there is tt).1
    at cell state.Taken there is = (intact-sound sync q sound k cell state.Taken there is tt).1
    at cell state.Broken there is = broken-reached sync q sound k cell there is
    at cell state.Resumed there is = (intact-sound sync q sound k cell state.Resumed there is tt).1
    at cell state.Delegated there is = (intact-sound sync q sound k cell state.Delegated there is tt).1
    at cell state.Cancelled there is = tt
    at cell state.Refused there is = tt

    by : (o : Option CoreCell) → slice_get q.cells k ≡ o → HasCome q.resumes k (state_in o)
    by None finds =
        let past = get-none q.cells k finds in
        let made = cells-made sync q sound in omega arith
    by (Some cell) finds = at cell cell.state finds refl

module _ {E S : Type 0} (object : Object E) (primitive : Primitive E S) (passes limit : ℕ)
    (client : IsClient object primitive) where
  -- what is told of the cell of the number k, as it is hidden
  pub tells-come : (s : State (Option S) (View E S)) (r : Ruled object primitive passes limit s) (id : ℕ) (v : View E S)
      (k : ℕ) → get_elem? s.views id ≡ some v → v.weight ≡ 1 → TellsCome v k (state_at r.hidden.queue k)
  tells-come s r id v k here one = λ alone away. (
    r.hidden.queue.resumes,
    (known.alone alone).4,
    come-as r.hidden.queue k (client.sound r.hidden (client_words s.words) r.log r.handed r.shown)
        (λ h. nobody alone away h),
  )
    where
      known : Knows object r.hidden r.log r.handed r.made r.live passes limit
          (cell_count passes limit primitive.values) primitive.opening v
      known = r.each_view id v here (omega arith)

      nobody : v.alone ≡ true → v.facts.doing ≢ doing.Ticket k → Holds r.hidden.queue.doing k → ⊥
      nobody alone away h = dite (ℕ_discrete h.pass v.number)
          (λ (mine : h.pass ≡ v.number). away (same_Some v.facts.doing (doing.Ticket k)
          (sym known.stands.doing ∙ (ap (slice_get r.hidden.queue.doing) (sym mine) ∙ h.has))))
          (λ (other : h.pass ≢ v.number).
          let below = get-below r.hidden.queue.doing h.pass (doing.Ticket k) h.has in
          let room = r.room.doing in
          let rests = alone-rests object primitive passes limit client s r id v here (omega arith) alone h.pass other
          (omega arith) in
          let idle : doing.Idle ≡ doing.Ticket k = same_Some doing.Idle (doing.Ticket k)
          (sym (rests.stands.doing ∙ ap Some rests.idle) ∙ h.has) in
          absurd (cc))
