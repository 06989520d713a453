-- How far the drawn numbers are from the last segment that is made.
use Rattle.std.proofs.Common.{◌≡◌, ◌⊎◌, ℕ, ◌+◌, ◌*◌, ◌/◌, ◌<◌, ◌≤◌, length, subst, sym, ap, ◌∙◌, ⊎_elim, inl, inr, arith, Option, Some}
use Rattle.std.proofs.lemmas.List.{length-map}
use Rattle.cqs_core.specs.declared.cells.CoreCell.{CoreCell}
use Rattle.cqs_core.specs.declared.cells.CoreState.TheVariants as state
use mathlib.Core.Option.{some}
use lib.ListN.{get_elem?}
use Rattle.cqs_core.specs.QueueAsUnbroken.{as_unbroken, unbroken_cell, unbroken_state, unwatching}
use Rattle.cqs_core.specs.QueueEither.{IsSoundEither}
use Rattle.cqs_core.specs.QueueState.{Queue}
use Rattle.cqs_core.specs.QueueUnmade.{UnmadeEmpty}
use Rattle.cqs_core.proofs.EitherCells.{drawn-below, ticket-reached}
use Rattle.cqs_core.proofs.QueueAsUnbroken.{IsMapped, map-get}
use Rattle.cqs_core.proofs.UnmadeCounts.{one-past}
use Rattle.cqs_rule_laws.specs.declared.view.View.{View}
use Rattle.cqs_rule_laws.specs.Client.{IsClient}
use Rattle.cqs_core.specs.QueueCells.{IsInstalled}
use Rattle.cqs_rule_laws.specs.Layout.{client_words}
use Rattle.cqs_rule_laws.specs.Lists.{Has}
use Rattle.std.proofs.lemmas.Bool.{cases_lt}
use Rattle.cqs_rule_laws.specs.Object.{Object, Primitive}
use Rattle.cqs_rule_laws.specs.Ruled.{IsWaitOf, RuledAhead, Stands}
use Rattle.cqs_rule_laws.specs.SegmentSteps.{HasDrawn}
use Rattle.atomic_table.specs.Table.{State}
use Rattle.cqs_rule_laws.proofs.Stale.{unmade-empty}

-- the cells of a segment that isn't made are empty in the reading, too
unmade-read : (q : Queue) (tail : ℕ) → UnmadeEmpty q tail → UnmadeEmpty (as_unbroken q) tail
unmade-read q tail unmade = record {
  empty = λ k cell past there.
      let from : IsMapped unbroken_cell q.cells k cell = map-get unbroken_cell q.cells k cell there in
      let is : from.element.state ≡ state.Empty = unmade.empty k from.element past from.there in
      ap (λ (c : CoreCell). c.state) (sym from.is) ∙ ap (λ s. unbroken_state s from.element.collected) is;
}

-- THE COUNTING. The segment of a drawn number is at most one past the last that is made: so one spare slot is enough.
pub drawn-near : {E S : Type 0} (object : Object E) (primitive : Primitive E S) (passes limit : ℕ)
    {ahead : ℕ → ℕ} → IsClient object primitive → (s : State (Option S) (View E S))
    (r : RuledAhead object primitive passes limit ahead s) (k : ℕ)
    → (k < r.hidden.queue.suspends) ⊎ (k < r.hidden.queue.resumes) → k / 32 ≤ r.segments.tail + 1
drawn-near object primitive passes limit client s r k drawn =
    let room = r.room in
    let doing = room.doing in
    let few = room.few_passes in
    let long : length (as_unbroken r.hidden.queue).doing ≡ length r.hidden.queue.doing =
    length-map r.hidden.queue.doing unwatching in
    one-past (as_unbroken r.hidden.queue) r.segments.tail k
    (client.sound r.hidden (client_words s.words) r.log r.handed r.shown).reads
    (unmade-read r.hidden.queue r.segments.tail (unmade-empty r.segments r.hidden _ s.words r.cells)) (omega arith)
    drawn

-- a number that a pass is to suspend or to resume at was drawn
pub drawn-near-by : {E S : Type 0} (object : Object E) (primitive : Primitive E S) (passes limit : ℕ)
    {ahead : ℕ → ℕ} → IsClient object primitive → (s : State (Option S) (View E S))
    (r : RuledAhead object primitive passes limit ahead s) (id : ℕ) (v : View E S) (k : ℕ)
    → get_elem? s.views id ≡ some v → 0 < v.weight → HasDrawn v k → k / 32 ≤ r.segments.tail + 1
drawn-near-by object primitive passes limit client s r id v k here on has =
    drawn-near object primitive passes limit client s r k (⊎_elim
    (λ e. inl (drawn-below primitive.manner.watches r.hidden.queue sound v.number k (at.doing ∙ ap Some e)))
    (λ e. inr (ticket-reached primitive.manner.watches r.hidden.queue sound v.number k (at.doing ∙ ap Some e))) has)
  where
    at : Stands r.hidden v.number v.facts
    at = (r.each_view id v here on).stands

    sound : IsSoundEither primitive.manner.watches r.hidden.queue
    sound = client.sound r.hidden (client_words s.words) r.log r.handed r.shown

-- a wait stands in a cell, so its segment was made
pub wait-made : {E S : Type 0} (object : Object E) (primitive : Primitive E S) (passes limit : ℕ)
    {ahead : ℕ → ℕ} (s : State (Option S) (View E S)) (r : RuledAhead object primitive passes limit ahead s) (id : ℕ)
    (v : View E S) (k : ℕ)
    → get_elem? s.views id ≡ some v → 0 < v.weight → Has k v.facts.waits → k / 32 ≤ r.segments.tail
wait-made object primitive passes limit s r id v k here on has =
    let wait : IsWaitOf r.hidden.queue v.number k = (r.each_view id v here on).stands.waits k has in
    let unmade = unmade-empty r.segments r.hidden _ s.words r.cells in
    ⊎_elim (λ (low : k < 32 * (r.segments.tail + 1)). omega arith)
    (λ (high : 32 * (r.segments.tail + 1) ≤ k). absurd (subst IsInstalled
    (unmade.empty k wait.cell (omega arith) wait.there) wait.installed))
    (cases_lt k (32 * (r.segments.tail + 1)))
