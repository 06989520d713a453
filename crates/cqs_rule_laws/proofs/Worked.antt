-- A step at a cell, by its row: what it makes of the cells, of the waits, and of what each pass stands at. Each step of
-- the queue at a cell is an instance, whether it writes the cell or loads it.
use Rattle.std.proofs.Common.{◌≡◌, ◌≢◌, ℕ, ◌<◌, ◌^◌, Bool, true, false, [], ◌∷◌, sym, refl, ap, ◌∙◌, subst, inl, inr, ⊎_elim, Option, Some, None, slice_get, eq-eqb, ne_eqb, if◌then◌else◌, ◌≤◌, arith}
use Rattle.std.proofs.lemmas.Option.{same_Some}
use Rattle.cqs_core.specs.declared.cells.CoreCell.{CoreCell}
use Rattle.cqs_core.specs.declared.cells.CoreState.{CoreState}
use Rattle.cqs_core.specs.QueueCells.{rank, IsInstalled, IsBare}
use Rattle.cqs_core.specs.QueueEither.{IsSoundEither}
use Rattle.cqs_core.specs.QueueStages as stage
use Rattle.cqs_core.specs.QueueStages.{Stage, doing_at}
use Rattle.cqs_core.specs.QueueSteps.{CellRow, at_cell, WaitChange, wait_stays, wait_opens, wait_closes, Gain, nothing, its_own, a_debt, cell_after, payloads_after, IsOpenRow}
use Rattle.cqs_core.proofs.Places.{get-set_here, get-set_else}
use Rattle.cqs_core.proofs.EitherCells.{turns, ticket-reached}
use Rattle.cqs_core.proofs.QueueUniform.{IsCellRow, IsTurn, TellsWait, IsOwnChange, HasWait, GoesOn as RowGoesOn}
use Rattle.cqs_rule_laws.specs.declared.view.Facts.{Facts}
use Rattle.cqs_rule_laws.specs.declared.view.Has.{Has}
use Rattle.cqs_rule_laws.specs.Facts.{facts_worked, reached_with, passed_from, waits_then}
use Rattle.cqs_rule_laws.specs.Hidden.{Hidden, Gains, has_gained, happened_by, state_in, state_at}
use Rattle.cqs_rule_laws.specs.Lists as lists
use Rattle.cqs_rule_laws.specs.Lists.{IsDistinct}
use Rattle.cqs_rule_laws.specs.Ruled.{IsWaitOf, Stands}
use Rattle.cqs_rule_laws.proofs.Settled.{rank-most}
use Rattle.cqs_rule_laws.proofs.Cells.{same-or-not, installed-drawn, GoesOn, since-on}
use Rattle.cqs_rule_laws.proofs.Staying.{OthersStay}
use Rattle.cqs_rule_laws.proofs.Lists.{has_append, has_left, has_right, has_without, without_has, distinct_append, distinct_without}

-- the payload of a cell, where something was brought there
left-here : (brings : Bool) (payloads : ℕ → ℕ) (k payload : ℕ) → ℕ
left-here brings payloads k payload = if brings then payload else payloads k

left-at : (row : CellRow) (payloads : ℕ → ℕ) (k payload j : ℕ) → j ≡ k
    → payloads_after row payloads k payload j ≡ (if row.brings then payload else payloads j)
left-at row payloads k payload j same = ap (λ b. if row.brings then (if b then payload else payloads j) else payloads j)
    (eq-eqb j k same)

left-else : (row : CellRow) (payloads : ℕ → ℕ) (k payload j : ℕ) → j ≢ k
    → payloads_after row payloads k payload j ≡ payloads j
left-else row payloads k payload j apart =
    ap (λ b. if row.brings then (if b then payload else payloads j) else payloads j) (ne_eqb j k apart)
    ∙ either-way row.brings
  where
    either-way : (b : Bool) → (if b then payloads j else payloads j) ≡ payloads j
    either-way true = refl
    either-way false = refl

-- a payload fits that was brought or was there
pub left-fits : (b : Bool) (payload there : ℕ) → payload < 2 ^ 20 → there < 2 ^ 20
    → (if b then payload else there) < 2 ^ 20
left-fits true payload there p q = p
left-fits false payload there p q = q

module _ {sync : Bool} (gains : Gains) (c : Hidden) (p k : ℕ) (row : CellRow) (found : CoreCell) (has : Has)
    (payload : ℕ)
    (is : IsCellRow row)
    (sound : IsSoundEither sync c.queue) (opens : IsOpenRow c.queue (at_cell row) p k (Some found)) where
  abbrev pub d : Hidden
  d = happened_by gains c (at_cell row) p k (Some found) has payload

  abbrev pub after : CoreCell
  after = cell_after row found

  turn : IsTurn c.queue p k row found
  turn = turns sync c.queue sound p k row found is opens

  cell-here : slice_get d.queue.cells k ≡ Some after
  cell-here = get-set_here c.queue.cells k found after opens.0.finds

  cell-else : (j : ℕ) → j ≢ k → slice_get d.queue.cells j ≡ slice_get c.queue.cells j
  cell-else j apart = get-set_else c.queue.cells k j after (λ q. apart (sym q))

  pub state-here : state_at d.queue k ≡ after.state
  state-here = ap state_in cell-here

  pub state-else : (j : ℕ) → j ≢ k → state_at d.queue j ≡ state_at c.queue j
  state-else j apart = ap state_in (cell-else j apart)

  pub payload-here : d.payloads k ≡ (if row.brings then payload else c.payloads k)
  payload-here = left-at row c.payloads k payload k refl

  pub payload-else : (j : ℕ) → j ≢ k → d.payloads j ≡ c.payloads j
  payload-else j apart = left-else row c.payloads k payload j apart

  -- a cell that is bare after the step was so before, and nothing was brought there
  pub bare-here : ((j : ℕ) → IsBare (state_at c.queue j) → c.payloads j ≡ 0) → IsBare (state_at d.queue k)
      → d.payloads k ≡ 0
  bare-here bare now = by row.makes refl is.goes_on
    where
      was : state_at c.queue k ≡ row.finds
      was = ap state_in opens.0.finds ∙ opens.0.at

      by : (m : Option CoreState) → row.makes ≡ m → RowGoesOn row.finds m row.brings → d.payloads k ≡ 0
      by (Some s) e goes =
          let made : after.state ≡ s = ap (λ (z : Option CoreState). Rattle.cqs_core.specs.QueueSteps.state_made z
          found.state) e in
          let old = goes.1 (subst IsBare (state-here ∙ made) now) in
          payload-here ∙ (ap (λ b. if b then payload else c.payloads k) old.1 ∙ bare k (subst IsBare (sym was) old.0))
      by None e goes =
          let same : after.state ≡ found.state = ap
          (λ (z : Option CoreState). Rattle.cqs_core.specs.QueueSteps.state_made z found.state) e in
          payload-here ∙ (ap (λ b. if b then payload else c.payloads k) goes
          ∙ bare k (subst IsBare (state-here ∙ (same ∙ (opens.0.at ∙ sym was))) now))

  -- each cell is as it was, or has gone on
  pub goes-on : (j : ℕ) → GoesOn c d j
  goes-on j = ⊎_elim
      (λ (q : j ≡ k). subst (GoesOn c d) (sym q) (by row.makes refl is.goes_on))
      (λ (a : j ≢ k). inl (state-else j a, payload-else j a))
      (same-or-not j k)
    where
      was : state_at c.queue k ≡ row.finds
      was = ap state_in opens.0.finds ∙ opens.0.at

      by : (m : Option CoreState) → row.makes ≡ m → RowGoesOn row.finds m row.brings → GoesOn c d k
      by (Some s) e goes =
          let made : state_at d.queue k ≡ s = state-here
          ∙ ap (λ (z : Option CoreState). Rattle.cqs_core.specs.QueueSteps.state_made z found.state) e in
          inr (subst (λ (z : CoreState × CoreState). rank z.0 < rank z.1) (λ i. (sym was i, sym made i)) goes.0)
      by None e goes =
          let same : after.state ≡ found.state = ap
          (λ (z : Option CoreState). Rattle.cqs_core.specs.QueueSteps.state_made z found.state) e in
          inl (
            state-here ∙ (same ∙ sym (ap state_in opens.0.finds)),
            payload-here ∙ ap (λ b. if b then payload else c.payloads k) goes,
          )

  -- what is final stays
  pub states-final : (j : ℕ) → rank (state_at c.queue j) ≡ 4 → state_at d.queue j ≡ state_at c.queue j
  states-final j high = ⊎_elim (λ same. same.0)
      (λ (rises : rank (state_at c.queue j) < rank (state_at d.queue j)).
      let most = rank-most (state_at d.queue j) in absurd (omega arith))
      (goes-on j)

  -- where the step doesn't write the cell
  pub loaded-same : row.makes ≡ None → (state_at d.queue k ≡ state_at c.queue k) × (d.payloads k ≡ c.payloads k)
  loaded-same e =
      let same : after.state ≡ found.state = ap
      (λ (z : Option CoreState). Rattle.cqs_core.specs.QueueSteps.state_made z found.state) e in
      let none : row.brings ≡ false =
      subst (λ (z : Option CoreState). RowGoesOn row.finds z row.brings) e is.goes_on in (
        state-here ∙ (same ∙ sym (ap state_in opens.0.finds)),
        payload-here ∙ ap (λ b. if b then payload else c.payloads k) none,
      )

  -- THE WAITS.

  wait-else : (n j : ℕ) → j ≢ k → IsWaitOf c.queue n j → IsWaitOf d.queue n j
  wait-else n j apart w = record {
    cell = w.cell;
    there = cell-else j apart ∙ w.there;
    owner = w.owner;
    drawn = w.drawn;
    uncollected = w.uncollected;
    installed = w.installed;
  }

  wait-else_back : (n j : ℕ) → j ≢ k → IsWaitOf d.queue n j → IsWaitOf c.queue n j
  wait-else_back n j apart w = record {
    cell = w.cell;
    there = sym (cell-else j apart) ∙ w.there;
    owner = w.owner;
    drawn = w.drawn;
    uncollected = w.uncollected;
    installed = w.installed;
  }

  -- the wait of the cell before the step, and after it
  wait-before : (n : ℕ) → IsWaitOf c.queue n k → HasWait found × (found.owner ≡ Some n)
  wait-before n w =
      let same : w.cell ≡ found = same_Some w.cell found (sym w.there ∙ opens.0.finds) in (
        record {
          installed = subst (λ (x : CoreCell). IsInstalled x.state) same w.installed;
          uncollected = ap (λ (x : CoreCell). x.collected) (sym same) ∙ w.uncollected;
        },
        ap (λ (x : CoreCell). x.owner) (sym same) ∙ w.owner,
      )

  wait-after : (n : ℕ) → IsWaitOf d.queue n k → HasWait after × (found.owner ≡ Some n)
  wait-after n w =
      let same : w.cell ≡ after = same_Some w.cell after (sym w.there ∙ cell-here) in (
        record {
          installed = subst (λ (x : CoreCell). IsInstalled x.state) same w.installed;
          uncollected = ap (λ (x : CoreCell). x.collected) (sym same) ∙ w.uncollected;
        },
        ap (λ (x : CoreCell). x.owner) (sym same) ∙ w.owner,
      )

  make-before : (n : ℕ) → HasWait found → found.owner ≡ Some n → IsWaitOf c.queue n k
  make-before n h owner = record {
    cell = found;
    there = opens.0.finds;
    owner = owner;
    drawn = installed-drawn c.queue sound k found found.state opens.0.finds refl h.installed;
    uncollected = h.uncollected;
    installed = h.installed;
  }

  make-after : (n : ℕ) → IsSoundEither sync d.queue → HasWait after → found.owner ≡ Some n → IsWaitOf d.queue n k
  make-after n safe h owner = record {
    cell = after;
    there = cell-here;
    owner = owner;
    drawn = installed-drawn d.queue safe k after after.state cell-here refl h.installed;
    uncollected = h.uncollected;
    installed = h.installed;
  }

  -- the waits of another pass stay
  other-kept : (n j : ℕ) → n ≢ p → IsSoundEither sync d.queue → IsWaitOf c.queue n j → IsWaitOf d.queue n j
  other-kept n j apart safe w = ⊎_elim
      (λ (q : j ≡ k). subst (IsWaitOf d.queue n) (sym q) (here (subst (IsWaitOf c.queue n) q w)))
      (λ (a : j ≢ k). wait-else n j a w)
      (same-or-not j k)
    where
      by : (change : WaitChange) → TellsWait change found after → IsOwnChange change row.works_at → IsWaitOf c.queue n k
          → IsWaitOf d.queue n k
      by wait_stays tells own w = let b = wait-before n w in make-after n safe (tells.0 b.0) b.1
      by wait_opens tells own w = absurd (apart (same_Some n p (sym (wait-before n w).1 ∙ turn.owner own)))
      by wait_closes tells own w = absurd (apart (same_Some n p (sym (wait-before n w).1 ∙ turn.owner own)))

      here : IsWaitOf c.queue n k → IsWaitOf d.queue n k
      here w = by row.wait turn.wait is.own_change w

  other-back : (n j : ℕ) → n ≢ p → IsWaitOf d.queue n j → IsWaitOf c.queue n j
  other-back n j apart w = ⊎_elim
      (λ (q : j ≡ k). subst (IsWaitOf c.queue n) (sym q) (here (subst (IsWaitOf d.queue n) q w)))
      (λ (a : j ≢ k). wait-else_back n j a w)
      (same-or-not j k)
    where
      by : (change : WaitChange) → TellsWait change found after → IsOwnChange change row.works_at → IsWaitOf d.queue n k
          → IsWaitOf c.queue n k
      by wait_stays tells own w = let a = wait-after n w in make-before n (tells.1 a.0) a.1
      by wait_opens tells own w = absurd (apart (same_Some n p (sym (wait-after n w).1 ∙ turn.owner own)))
      by wait_closes tells own w = absurd (apart (same_Some n p (sym (wait-after n w).1 ∙ turn.owner own)))

      here : IsWaitOf d.queue n k → IsWaitOf c.queue n k
      here w = by row.wait turn.wait is.own_change w

  pub others-worked : IsSoundEither sync d.queue → OthersStay c d p
  others-worked safe = record {
    doing = λ n apart. same-doing n apart;
    waits = λ n j apart w. other-back n j apart w;
    stands = λ n facts apart at. record {
      doing = same-doing n apart ∙ at.doing;
      has = get-set_else c.has p n (has_gained gains row.gain payload has) (λ e. apart (sym e)) ∙ at.has;
      may_draw = at.may_draw;
      waits = λ j h. other-kept n j apart safe (at.waits j h);
      all_waits = λ j w. at.all_waits j (other-back n j apart w);
      once = at.once;
      last = since-on c d facts.last goes-on at.last;
      behind = at.behind;
    };
  }
    where
      same-doing : (n : ℕ) → n ≢ p → slice_get d.queue.doing n ≡ slice_get c.queue.doing n
      same-doing n apart = get-set_else c.queue.doing p n (doing_at row.goes_to k) (λ e. apart (sym e))

  -- THE PASS ITSELF.

  own-waits : (f : Facts) → Stands c p f → IsSoundEither sync d.queue → (j : ℕ)
      → lists.Has j (waits_then row.wait k f.waits)
      → IsWaitOf d.queue p j
  own-waits f at safe = by row.wait turn.wait is.own_change
    where
      by : (change : WaitChange) → TellsWait change found after → IsOwnChange change row.works_at → (j : ℕ)
          → lists.Has j (waits_then change k f.waits) → IsWaitOf d.queue p j
      by wait_stays tells own j h = ⊎_elim
          (λ (q : j ≡ k).
          let b = wait-before p (subst (IsWaitOf c.queue p) q (at.waits j h)) in
          subst (IsWaitOf d.queue p) (sym q) (make-after p safe (tells.0 b.0) b.1))
          (λ (a : j ≢ k). wait-else p j a (at.waits j h))
          (same-or-not j k)
      by wait_opens tells own j h = ⊎_elim
          (λ (q : j ≡ k). subst (IsWaitOf d.queue p) (sym q) (make-after p safe tells.1 (turn.owner own)))
          (λ (a : j ≢ k). wait-else p j a (at.waits j (⊎_elim (λ old. old) (λ (new : lists.Has j (k ∷ [])).
          ⊎_elim (λ (z : j ≡ k). absurd (a z)) (λ z. absurd z) new) (has_append j f.waits (k ∷ []) h))))
          (same-or-not j k)
      by wait_closes tells own j h =
          let t = has_without j k f.waits h in wait-else p j t.0 (at.waits j t.1)

  own-all : (f : Facts) → Stands c p f → (j : ℕ) → IsWaitOf d.queue p j → lists.Has j (waits_then row.wait k f.waits)
  own-all f at = by row.wait turn.wait is.own_change
    where
      by : (change : WaitChange) → TellsWait change found after → IsOwnChange change row.works_at → (j : ℕ)
          → IsWaitOf d.queue p j
          → lists.Has j (waits_then change k f.waits)
      by wait_stays tells own j w = ⊎_elim
          (λ (q : j ≡ k).
          let a = wait-after p (subst (IsWaitOf d.queue p) q w) in
          subst (λ z. lists.Has z f.waits) (sym q) (at.all_waits k (make-before p (tells.1 a.0) a.1)))
          (λ (a : j ≢ k). at.all_waits j (wait-else_back p j a w))
          (same-or-not j k)
      by wait_opens tells own j w = ⊎_elim
          (λ (q : j ≡ k). has_right j f.waits (k ∷ []) (inl q))
          (λ (a : j ≢ k). has_left j f.waits (k ∷ []) (at.all_waits j (wait-else_back p j a w)))
          (same-or-not j k)
      by wait_closes tells own j w = ⊎_elim
          (λ (q : j ≡ k). absurd (tells.1 (wait-after p (subst (IsWaitOf d.queue p) q w)).0))
          (λ (a : j ≢ k). without_has j k f.waits a (at.all_waits j (wait-else_back p j a w)))
          (same-or-not j k)

  -- a wait is opened where the cell wasn't final
  pub waits-final : (f : Facts) (j : ℕ) → rank (state_at c.queue j) ≡ 4
      → lists.Has j (waits_then row.wait k f.waits) → lists.Has j f.waits
  waits-final f j high = by row.wait turn.wait is.own_change
    where
      high-here : j ≡ k → rank row.finds ≡ 4
      high-here q = sym (ap rank (ap state_in opens.0.finds ∙ opens.0.at)) ∙ (ap (λ z. rank (state_at c.queue z))
          (sym q) ∙ high)

      opened : (m : Option CoreState) → row.makes ≡ m → RowGoesOn row.finds m row.brings
          → IsOwnChange wait_opens row.works_at → (HasWait found → ⊥) → HasWait after → j ≡ k → ⊥
      opened (Some s) e goes own none now q =
          let most = rank-most s in let h = high-here q in let g = goes.0 in omega arith
      opened None e goes own none now q =
          let same : after.state ≡ found.state = ap
          (λ (z : Option CoreState). Rattle.cqs_core.specs.QueueSteps.state_made z found.state) e in
          none (record { installed = subst IsInstalled same now.installed; uncollected = turn.uncollected own })

      by : (change : WaitChange) → TellsWait change found after → IsOwnChange change row.works_at
          → lists.Has j (waits_then change k f.waits)
          → lists.Has j f.waits
      by wait_stays tells own h = h
      by wait_opens tells own h = ⊎_elim (λ old. old)
          (λ (new : lists.Has j (k ∷ [])). ⊎_elim
          (λ (q : j ≡ k). absurd (opened row.makes refl is.goes_on own tells.0 tells.1 q)) (λ z. absurd z) new)
          (has_append j f.waits (k ∷ []) h)
      by wait_closes tells own h = (has_without j k f.waits h).1

  own-once : (f : Facts) → Stands c p f → IsDistinct (waits_then row.wait k f.waits)
  own-once f at = by row.wait turn.wait
    where
      by : (change : WaitChange) → TellsWait change found after → IsDistinct (waits_then change k f.waits)
      by wait_stays tells = at.once
      by wait_opens tells = distinct_append k f.waits at.once (λ h. tells.0 (wait-before p (at.waits k h)).0)
      by wait_closes tells = distinct_without k f.waits at.once

  own-reached : (f : Facts) → Stands c p f → (gain : Gain) → reached_with gain f.reached ≤ c.queue.resumes
  own-reached f at nothing = at.behind.reached
  own-reached f at its_own = at.behind.reached
  own-reached f at a_debt = omega arith

  -- a number that is passed over was drawn
  own-passed : (f : Facts) → Stands c p f → (from to : Stage) → slice_get c.queue.doing p ≡ Some (doing_at from k)
      → (j : ℕ) → lists.Has j (passed_from from to k f.passed) → j < c.queue.resumes
  own-passed f at stage.ticket stage.owes does j h = ⊎_elim
      (λ (old : lists.Has j f.passed). at.behind.passed j old)
      (λ (new : lists.Has j (k ∷ [])). ⊎_elim
      (λ (e : j ≡ k). subst (λ z. z < c.queue.resumes) (sym e) (ticket-reached sync c.queue sound p k does))
      (λ z. absurd z) new)
      (has_append j f.passed (k ∷ []) h)
  own-passed f at stage.ticket stage.idle does j h = at.behind.passed j h
  own-passed f at stage.ticket stage.door does j h = at.behind.passed j h
  own-passed f at stage.ticket stage.drawn does j h = at.behind.passed j h
  own-passed f at stage.ticket stage.ticket does j h = at.behind.passed j h
  own-passed f at stage.ticket stage.watching does j h = at.behind.passed j h
  own-passed f at stage.ticket stage.leaving does j h = at.behind.passed j h
  own-passed f at stage.ticket (stage.decided on) does j h = at.behind.passed j h
  own-passed f at stage.idle to does j h = at.behind.passed j h
  own-passed f at stage.door to does j h = at.behind.passed j h
  own-passed f at stage.owes to does j h = at.behind.passed j h
  own-passed f at stage.watching to does j h = at.behind.passed j h
  own-passed f at stage.drawn to does j h = at.behind.passed j h
  own-passed f at stage.leaving to does j h = at.behind.passed j h
  own-passed f at (stage.decided on) to does j h = at.behind.passed j h

  pub worked-self : (n : ℕ) (f : Facts) → f.has ≡ has → Stands c p f → IsSoundEither sync d.queue
      → Stands d p (facts_worked gains row k n payload f)
  worked-self n f same at safe = record {
    doing = get-set_here c.queue.doing p f.doing (doing_at row.goes_to k) at.doing;
    has = get-set_here c.has p f.has (has_gained gains row.gain payload has) at.has
        ∙ ap (λ (z : Has). Some (has_gained gains row.gain payload z)) (sym same);
    may_draw = at.may_draw;
    waits = own-waits f at safe;
    all_waits = own-all f at;
    once = own-once f at;
    last = tt;
    behind = record {
      reached = own-reached f at row.gain;
      passed = own-passed f at row.works_at row.goes_to opens.0.does;
    };
  }

-- what a pass that has this from a cell owes fits a cell
pub gained-fits : (gains : Gains) (gain : Gain) (payload : ℕ) (h : Has) → payload < 2 ^ 20 → h.payload < 2 ^ 20
    → (has_gained gains gain payload h).payload < 2 ^ 20
gained-fits gains nothing payload h new old = old
gained-fits gains its_own payload h new old = old
gained-fits gains a_debt payload h new old = new
