-- A canceller of which a pass that is alone was told has left the line: its cell is still as it was found, or has gone
-- on, and nobody is leaving.
use Rattle.std.proofs.Common.{◌≡◌, ◌⊎◌, ℕ, ◌+◌, ◌<◌, Bool, true, false, List, Option, Some, None, inl, inr, slice_get, sym, ap, ◌∙◌, subst, arith, zero-add, ⊎_elim}
use Rattle.std.specs.Option.{option_and_then}
use Rattle.cqs_core.specs.declared.cells.CoreState.{CoreState}
use Rattle.cqs_core.specs.declared.cells.CoreState.TheVariants as state
use Rattle.cqs_core.specs.declared.doings.Doing.{Doing}
use Rattle.cqs_core.specs.declared.doings.Doing.TheVariants as doing
use Rattle.cqs_core.specs.declared.entries.Entry.{Entry}
use Rattle.cqs_core.specs.Numbered.{IsIn}
use Rattle.cqs_core.specs.QueueCells.{rank}
use Rattle.cqs_core.specs.QueueLine as queue
use Rattle.cqs_core.specs.QueueLine.{Waiting, in_line, stays_in_line, waiting_of}
use Rattle.cqs_core.specs.QueueState.{is_leaving, owner_doing}
use Rattle.cqs_core.specs.SemaphoreEntries.{object_after}
use Rattle.cqs_core.specs.SemaphoreTable.{Shape}
use Rattle.cqs_core.proofs.EitherFacts.{shows-object}
use Rattle.cqs_core.proofs.IdleLines.{read-off}
use Rattle.cqs_core.proofs.LineReads.{line-keyed}
use Rattle.cqs_rule_laws.specs.declared.view.Facts.{Facts}
use Rattle.cqs_rule_laws.specs.declared.view.Opening.{Opening}
use Rattle.cqs_rule_laws.specs.declared.view.View.{View}
use Rattle.cqs_rule_laws.specs.Alone.{IsAlone}
use Rattle.cqs_rule_laws.specs.Causes.{cell_of}
use Rattle.cqs_rule_laws.specs.Hidden.{state_at, state_in}
use Rattle.cqs_rule_laws.specs.Ruled.{HasGoneOn, IsSince}
use Rattle.cqs_resume.specs.SyncResumes.{SyncGoesOn}
use Rattle.cqs_resume.specs.declared.sync_resumed.SyncResumed.TheVariants as resumed
use Rattle.cqs_rule.specs.declared.queue.tokens.Under as token
use Rattle.cqs_semaphore_client.specs.Semaphore.{core_shown, semaphore_object}
use Rattle.cqs_semaphore_client.specs.SemaphoreMade.{permits_of, primitive_of, sync_of}
use Rattle.cqs_semaphore.specs.Answers.{most_passed_over}
use Rattle.cqs_semaphore.specs.Calls.{plain_after}
use Rattle.cqs_sync_semaphore.specs.Alone.{IsOut}
use Rattle.cqs_sync_semaphore.specs.Steps.{HasEnded}
use Rattle.cqs_sync_semaphore.specs.declared.answers.SyncReleased.{SyncReleased}
use Rattle.cqs_sync_semaphore.specs.declared.answers.SyncReleased.TheVariants.{Freed, Sent, Void, Broke, Handling, Under}
use Rattle.cqs_sync_semaphore.proofs.LonePasses.{does-alone}

stays-there : (k : ℕ) (owner : Option ℕ) (stays : Bool) (x : Waiting) → waiting_of k owner stays ≡ Some x
    → stays ≡ true
stays-there k owner true x is = λ i. true
stays-there k (Some p) false x is = absurd (cc)
stays-there k None false x is = absurd (cc)

-- in a cell that a canceller came to a wait stays in line while its owner is leaving
stays-leaving : (k : ℕ) (s : CoreState) (owner : Option Doing) → (s ≡ state.Cancelling) ⊎ (2 < rank s)
    → stays_in_line k s owner ≡ true → is_leaving k owner ≡ true
stays-leaving k state.Cancelling owner since stays = stays
stays-leaving k state.Delegated owner since stays = stays
stays-leaving k state.Empty owner (inl is) stays = absurd (cc)
stays-leaving k state.Empty owner (inr past) stays = absurd (omega arith)
stays-leaving k state.Waiter owner (inl is) stays = absurd (cc)
stays-leaving k state.Waiter owner (inr past) stays = absurd (omega arith)
stays-leaving k state.Value owner (inl is) stays = absurd (cc)
stays-leaving k state.Value owner (inr past) stays = absurd (omega arith)
stays-leaving k _ owner since stays = absurd (cc)

nobody-leaves : (passes : List Doing) (k : ℕ) (owner : Option ℕ)
    → ((p : ℕ) (d : Doing) → slice_get passes p ≡ Some d → is_leaving k (Some d) ≡ false)
    → is_leaving k (option_and_then (λ p. slice_get passes p) owner) ≡ true → ⊥
nobody-leaves passes k None none leaves = absurd (cc)
nobody-leaves passes k (Some p) none leaves = by (slice_get passes p) (λ d is. none p d is) leaves
  where
    by : (o : Option Doing) → ((d : Doing) → o ≡ Some d → is_leaving k (Some d) ≡ false) → is_leaving k o ≡ true → ⊥
    by None none leaves = absurd (cc)
    by (Some d) none leaves = absurd (cc (none d (λ i. Some d), leaves))

module _ {T : Type 0} where
  found-out : (k payload : ℕ) (w : View Entry T) → IsAlone primitive_of w → w.facts.doing ≡ doing.Ticket k
      → w.facts.last ≡ Some (cell_of k state.Cancelling payload) → IsOut k (plain_after w).line
  found-out k payload w a at last = λ c waits.
      let s : Shape = core_shown (sync_of a.client) (permits_of a.client) a.hidden a.words w.seen in
      let q = a.hidden.queue in
      let x : Waiting = record { wait = k; pass = c } in
      let line : (plain_after w).line ≡ queue.line q =
      sym (ap (λ (o : Opening). (object_after o.size w.seen).line) a.opening_is)
      ∙ (shows-object s a.shown.core).line in
      let r = read-off (in_line q.doing) 0 q.cells x (subst (IsIn x) line waits) in
      let key : k ≡ 0 + r.place = (line-keyed q.doing).at (0 + r.place) r.element x r.reads in
      let there : slice_get q.cells k ≡ Some r.element = ap (slice_get q.cells) (key ∙ zero-add r.place) ∙ r.there in
      let owner = owner_doing q.doing r.element in
      let stays : stays_in_line k r.element.state owner ≡ true =
      stays-there k r.element.owner (stays_in_line k r.element.state owner) x
      (ap (λ n. in_line q.doing n r.element) key ∙ r.reads) in
      let gone_on : HasGoneOn (state_at q k) (a.hidden.payloads k) (cell_of k state.Cancelling payload) =
      subst (IsSince a.hidden) last a.stands.last in
      let since : (r.element.state ≡ state.Cancelling) ⊎ (2 < rank r.element.state) =
      subst (λ z. (z ≡ state.Cancelling) ⊎ (2 < rank z)) (ap state_in there)
      (⊎_elim (λ same. inl same.0) (λ later. inr later) gone_on) in
      nobody-leaves q.doing k r.element.owner (λ p d does. stands d (does-alone w a p d does))
      (stays-leaving k r.element.state owner since stays)
    where
      stands : (d : Doing) → (d ≡ w.facts.doing) ⊎ (d ≡ doing.Idle) → is_leaving k (Some d) ≡ false
      stands d (inl its) = ap (λ z. is_leaving k (Some z)) (its ∙ at)
      stands d (inr idle) = ap (λ z. is_leaving k (Some z)) idle

  -- so it is where an answer tells of one
  abbrev pub TellsOut : View Entry T → SyncReleased → Type 0
  TellsOut w Freed = Unit {0}
  TellsOut w (Sent k) = Unit {0}
  TellsOut w (Void k) = Unit {0}
  TellsOut w (Broke k permit) = Unit {0}
  TellsOut w (Handling k under) = IsOut k (plain_after w).line
  TellsOut w (Under under) = Unit {0}

  handled-out : (ticket : Option ℕ) (payload k : ℕ) (t : token.Under) (u w : View Entry T) → IsAlone primitive_of w
      → SyncGoesOn semaphore_object primitive_of most_passed_over ticket payload u (resumed.Handling k t) w
      → IsOut k (plain_after w).line
  handled-out ticket payload k t u w a (inl e) =
      found-out k e.last.payload w a (ap (λ (f : Facts). f.doing) e.facts_are)
      (ap (λ (f : Facts). f.last) e.facts_are
      ∙ ap (λ j. Some (cell_of j state.Cancelling e.last.payload)) e.number)
  handled-out ticket payload k t u w a (inr h) = absurd h

  pub tells-out : (ticket : Option ℕ) (payload : ℕ) (number : Option ℕ) (u w : View Entry T) (a : SyncReleased)
      → HasEnded ticket payload number u a w → (w.alone ≡ true → IsAlone primitive_of w) → w.alone ≡ true → TellsOut w a
  tells-out ticket payload number u w a (resumed.Served k, is, goes) tells_it alone = subst (TellsOut w) (sym is) tt
  tells-out ticket payload number u w a (resumed.Refused k, is, goes) tells_it alone = subst (TellsOut w) (sym is) tt
  tells-out ticket payload number u w a (resumed.Broke k, is, goes) tells_it alone = subst (TellsOut w) (sym is.1) tt
  tells-out ticket payload number u w a (resumed.Handling k t, is, goes) tells_it alone =
      subst (TellsOut w) (sym is.1) (handled-out ticket payload k t u w (tells_it alone) goes)
  tells-out ticket payload number u w a (resumed.Under t, is, goes) tells_it alone = subst (TellsOut w) (sym is.1) tt
