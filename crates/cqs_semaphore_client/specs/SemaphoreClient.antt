-- The semaphore is a client, synchronous or not: each step of the queue that suits it is an event
-- of its core, by the law of the core. This file is a proof: nothing of it has to be read to know
-- what is promised, and nothing in it is taken on trust.
use Rattle.std.proofs.Common.{◌≡◌, ◌≢◌, ℕ, zero, suc, ◌+◌, ◌-◌, ◌<◌, ◌≤◌, true, false, List, [], ◌∷◌, ◌++◌, replicate, refl, ap, sym, ◌∙◌, subst, ⊎_elim, inl, inr, arith, Option, Some, slice_get, nat_lt, lt-ltb, ne_eqb, ℤ, pos, le-leb, length, get_or, set, nat_le, Bool}
use Rattle.std.proofs.lemmas.Bool.{cases_lt}
use Rattle.std.proofs.lemmas.Option.{get_or_from_slice_get}
use Rattle.std.specs.Prelude.{slice_index, slice_set}
use Rattle.std.proofs.lemmas.Int.{ints}
use Rattle.cqs_core.specs.declared.cells.CoreCell.{CoreCell}
use Rattle.cqs_core.specs.declared.doings.Doing.TheVariants as doing
use Rattle.cqs_core.specs.declared.entries.Entry.{Entry}
use Rattle.cqs_core.specs.QueueSteps as step
use Rattle.cqs_core.specs.QueueSteps.{QueueStep, Makers, card_of, row_of, StepRow, at_counter, at_cell, Gain, nothing, its_own, a_debt, Cost, no_cost, one_owed, one_element, IsOpenStep}
use Rattle.cqs_core.specs.SemaphoreNames.{entry_names}
use Rattle.cqs_core.specs.SemaphoreSteps.{IsSemaphoreStep, IsSyncSemaphoreStep, step_entries, shape_after, held_by, gain_of}
use Rattle.cqs_core.proofs.SemaphoreSteps.{step-core, step-sync-core}
use Rattle.cqs_core.specs.QueueEither.{IsSoundEither, MayBeMade}
use Rattle.cqs_core.proofs.EitherFacts.{either-core, plain-core, core-fits}
use Rattle.cqs_core.proofs.EitherHands.{handed-core}
use Rattle.cqs_core.proofs.EitherQueues.{step-either}
use Rattle.cqs_core.proofs.EitherRuns.{opened-either}
use Rattle.cqs_core.proofs.RunsKeep.{handed}
use Rattle.cqs_core.specs.SemaphoreTable.{Shape}
use Rattle.cqs_core.specs.SemaphoreCores.{IsEitherCore, opening_of}
use Rattle.cqs_core.specs.SemaphoreRuns.{held_after}
use Rattle.cqs_core.proofs.Places.{get-below, get-set_else}
use Rattle.cqs_core.proofs.QueueOpens.{get-replicate}
use Rattle.cqs_rule_laws.specs.declared.view.Has.{Has}
use Rattle.cqs_rule_laws.specs.Client.{IsClient, KeepsSlots, IsBegun, begun_by, no_number}
use Rattle.cqs_rule_laws.specs.Given.{times_given}
use Rattle.cqs_rule_laws.specs.Held.{held_of}
use Rattle.cqs_rule_laws.proofs.PaysAway.{pays-none}
use Rattle.cqs_rule_laws.proofs.Held.{held-at, held-is, held-set, held-kept}
use Rattle.cqs_rule_laws.specs.Hidden.{Hidden, hidden_after, has_after, has_gained, has_paid, has_both, has_none, hands_over}
use Rattle.cqs_rule_laws.specs.Lists.{NamesOnly}
use Rattle.cqs_rule_laws.specs.Manner.{IsOneOf, Suits}
use Rattle.cqs_rule_laws.specs.Opened.{first_hidden, four}
use Rattle.cqs_semaphore_client.specs.CoreBounds.{held-few, one-holds, reached-few}
use Rattle.cqs_semaphore_client.specs.PlainHistories.{IsUnbroken}
use Rattle.cqs_semaphore_client.specs.Semaphore.{core_shown, ShowsCore, one_more, opens_one, slot_given, semaphore_manner, semaphore_object, semaphore_primitive}
use Rattle.cqs_rule_laws.specs.Views.{first_has}
use Rattle.cqs_rule.proofs.PlainQueues.{suits-none}
use Rattle.cqs_semaphore_client.specs.UnbrokenSteps.{unbroken-none, unbroken-step}
use Rattle.cqs_words.specs.State.{state_word, count_in}

-- no step of the queue gives the value slot away
step-given : (s : QueueStep) (p k j : ℕ) → times_given slot_given (step_entries s p k) j ≡ 0
step-given step.draws p k j = refl
step-given step.enters p k j = refl
step-given step.reaches p k j = refl
step-given step.begins p k j = refl
step-given step.puts p k j = refl
step-given step.installs p k j = refl
step-given step.takes p k j = refl
step-given step.serves p k j = refl
step-given step.leaves p k j = refl
step-given step.delegates p k j = refl
step-given step.passes_over p k j = refl
step-given step.ends_refused p k j = refl
step-given step.ends_missed p k j = refl
step-given step.starts_leaving p k j = refl
step-given step.leaves_line p k j = refl
step-given step.leaves_at_once p k j = refl
step-given step.settles p k j = refl
step-given step.settles_owing p k j = refl
step-given step.refuses p k j = refl
step-given step.refuses_value p k j = refl
step-given (step.looks step.pends) p k j = refl
step-given (step.looks step.grants) p k j = refl
step-given (step.looks step.late) p k j = refl
step-given (step.in_sync step.leaves_watched) p k j = refl
step-given (step.in_sync step.sees_value) p k j = refl
step-given (step.in_sync step.sees_taken) p k j = refl
step-given (step.in_sync step.breaks) p k j = refl
step-given (step.in_sync step.takes_watched) p k j = refl
step-given (step.in_sync step.finds_broken) p k j = refl

silent-step : (s : QueueStep) (p k payload : ℕ) → NamesOnly entry_names p (step_entries s p k)
silent-step step.draws p k payload n apart = rw (ne_eqb p n (λ q. apart (sym q))) refl
silent-step step.enters p k payload n apart = refl
silent-step step.reaches p k payload n apart = refl
silent-step step.begins p k payload n apart = refl
silent-step step.puts p k payload n apart = refl
silent-step step.installs p k payload n apart = refl
silent-step step.takes p k payload n apart = refl
silent-step step.serves p k payload n apart = refl
silent-step step.leaves p k payload n apart = refl
silent-step step.delegates p k payload n apart = refl
silent-step step.passes_over p k payload n apart = refl
silent-step step.ends_refused p k payload n apart = refl
silent-step step.ends_missed p k payload n apart = refl
silent-step step.starts_leaving p k payload n apart = refl
silent-step step.leaves_line p k payload n apart = refl
silent-step step.leaves_at_once p k payload n apart = refl
silent-step step.settles p k payload n apart = refl
silent-step step.settles_owing p k payload n apart = refl
silent-step step.refuses p k payload n apart = refl
silent-step step.refuses_value p k payload n apart = refl
silent-step (step.looks step.pends) p k payload n apart = rw (ne_eqb p n (λ q. apart (sym q))) refl
silent-step (step.looks step.grants) p k payload n apart = rw (ne_eqb p n (λ q. apart (sym q))) refl
silent-step (step.looks step.late) p k payload n apart = rw (ne_eqb p n (λ q. apart (sym q))) refl
silent-step (step.in_sync step.leaves_watched) p k payload n apart = refl
silent-step (step.in_sync step.sees_value) p k payload n apart = refl
silent-step (step.in_sync step.sees_taken) p k payload n apart = refl
silent-step (step.in_sync step.breaks) p k payload n apart =
    rw (ne_eqb p n (λ q. apart (sym q))) refl
silent-step (step.in_sync step.takes_watched) p k payload n apart = refl
silent-step (step.in_sync step.finds_broken) p k payload n apart =
    rw (ne_eqb p n (λ q. apart (sym q))) refl

-- what all hold after a step of this row
held-after : (row : StepRow) (l : List Has) (p payload : ℕ) (has : Has) → slice_get l p ≡ Some has
    → held_by (gain_of row) (held_of l) p
    ≡ held_of (slice_set l p (has_after one_more row payload has))
held-after (at_counter row) l p payload has there = paid row.cost
  where
    paid : (cost : Cost) → held_of l ≡ held_of (slice_set l p (has_paid cost payload has))
    paid no_cost = held-kept l p has has there refl
    paid one_owed = held-kept l p has (has_paid one_owed payload has) there refl
    paid one_element = held-kept l p has (has_paid one_element payload has) there refl
held-after (at_cell row) l p payload has there = gained row.gain
  where
    gained : (gain : Gain)
        → held_by gain (held_of l) p
        ≡ held_of (slice_set l p (has_gained one_more gain payload has))
    gained nothing = held-kept l p has has there refl
    gained its_own =
        held-set l p (has_gained one_more its_own payload has) (get_or (held_of l) p 0 + 1)
        (ap (λ n. n + 1) (sym (held-is l p has there)))
    gained a_debt = held-kept l p has (has_gained one_more a_debt payload has) there refl

-- the steps that suit a semaphore are those that keep its core
suiting : (t : QueueStep) → Suits (semaphore_manner false) t → IsSemaphoreStep t
suiting step.draws suits = tt
suiting step.enters suits = absurd (cc (suits))
suiting step.reaches suits = tt
suiting step.begins suits = suits
suiting step.puts suits = suits
suiting step.installs suits = tt
suiting step.takes suits = tt
suiting step.serves suits = tt
suiting step.leaves suits = tt
suiting step.delegates suits = tt
suiting step.passes_over suits = tt
suiting step.ends_refused suits = tt
suiting step.ends_missed suits = suits
suiting step.starts_leaving suits = tt
suiting step.leaves_line suits = suits
suiting step.leaves_at_once suits = suits
suiting step.settles suits = tt
suiting step.settles_owing suits = tt
suiting step.refuses suits = tt
suiting step.refuses_value suits = tt
suiting (step.looks e) suits = tt
suiting (step.in_sync e) suits = suits-none (semaphore_manner false) refl e suits

-- and so of a synchronous one
suiting-sync : (t : QueueStep) → Suits (semaphore_manner true) t → IsSyncSemaphoreStep t
suiting-sync step.draws suits = tt
suiting-sync step.enters suits = absurd (cc (suits))
suiting-sync step.reaches suits = tt
suiting-sync step.begins suits = suits
suiting-sync step.puts suits = suits
suiting-sync step.installs suits = tt
suiting-sync step.takes suits = absurd (cc (suits))
suiting-sync step.serves suits = tt
suiting-sync step.leaves suits = absurd (cc (suits))
suiting-sync step.delegates suits = let watches = suits.1 in absurd (cc (watches))
suiting-sync step.passes_over suits = tt
suiting-sync step.ends_refused suits = tt
suiting-sync step.ends_missed suits = suits
suiting-sync step.starts_leaving suits = tt
suiting-sync step.leaves_line suits = suits
suiting-sync step.leaves_at_once suits = suits
suiting-sync step.settles suits = tt
suiting-sync step.settles_owing suits = tt
suiting-sync step.refuses suits = tt
suiting-sync step.refuses_value suits = tt
suiting-sync (step.looks e) suits = tt
suiting-sync (step.in_sync e) suits = tt

-- each of them is one that the queue of its kind may make
suits-queue : (sync : Bool) (m : Makers) → IsOneOf (semaphore_manner sync) m → MayBeMade sync m
suits-queue sync step.each_client suits = tt
suits-queue sync step.without_door suits = tt
suits-queue sync step.with_debts suits = tt
suits-queue sync step.with_elements suits = tt
suits-queue sync step.in_smart_mode suits = tt
suits-queue sync step.who_ask suits = tt
suits-queue sync step.who_pass_on suits = tt
suits-queue sync step.who_leave_at_once suits = tt
suits-queue sync step.who_leave suits = suits
suits-queue sync step.who_delegate suits = suits.1
suits-queue sync step.who_watch suits = suits

-- and is an event of the core, or none
core-after : (sync : Bool) (permits : ℕ) (c : Hidden) (t : QueueStep) (p k : ℕ)
    (found : Option CoreCell) (words : List ℕ) (log : List Entry)
    → IsEitherCore (core_shown sync permits c words log) → IsOpenStep c.queue t p k found
    → Suits (semaphore_manner sync) t → c.queue.suspends < no_number
    → c.queue.resumes < no_number
    → IsEitherCore (shape_after (core_shown sync permits c words log) t p k found)
core-after false permits c t p k found words log core opens suits low low' =
    let s = core_shown false permits c words log in
    either-core (shape_after s t p k found)
    (step-core s t p k found (plain-core s core refl) (suiting t suits) opens low low')
core-after true permits c t p k found words log core opens suits low low' =
    step-sync-core (core_shown true permits c words log) t p k found core refl
    (suiting-sync t suits) opens low low'

steps-core : (sync : Bool) (permits : ℕ) (c : Hidden) (t : QueueStep) (p k : ℕ)
    (found : Option CoreCell) (has : Has) (payload : ℕ) (words : List ℕ) (log : List Entry)
    → IsEitherCore (core_shown sync permits c words log) → IsOpenStep c.queue t p k found
    → slice_get c.has p ≡ Some has
    → Suits (semaphore_manner sync) t → c.queue.suspends < no_number
    → c.queue.resumes < no_number
    → IsEitherCore (core_shown sync permits (hidden_after one_more c t p k found has payload) words
    (log ++ step_entries t p k))
steps-core sync permits c t p k found has payload words log core opens there suits low low' =
    let after : Shape = shape_after (core_shown sync permits c words log) t p k found in
    subst (λ l. IsEitherCore (record after { held = l }))
    (held-after (row_of t) c.has p payload has there)
    (core-after sync permits c t p k found words log core opens suits low low')

steps-unbroken : (sync : Bool) (t : QueueStep) (p k : ℕ) (log : List Entry)
    → Suits (semaphore_manner sync) t
    → (sync ≡ false → IsUnbroken log) → sync ≡ false → IsUnbroken (log ++ step_entries t p k)
steps-unbroken false t p k log suits unbroken plain =
    unbroken-step t p k log (suiting t suits) (unbroken plain)
steps-unbroken true t p k log suits unbroken plain = absurd (cc (plain))

-- what the passes hold as a semaphore opens: nothing
none-held : (passes : ℕ) → held_of (replicate passes (first_has 0)) ≡ replicate passes 0
none-held zero = refl
none-held (suc n) = ap (λ (l : List ℕ). 0 ∷ l) (none-held n)

first-held : (passes : ℕ) → 0 < passes
    → held_of (first_has 0 ∷ replicate (passes - 1) (first_has 0)) ≡ replicate passes 0
first-held zero any = absurd (omega arith)
first-held (suc n) any = let less : suc n - 1 ≡ n = omega arith in rw less (none-held (suc n))

-- the state that a semaphore's word opens with
opens-state : (permits : ℕ) → count_in (state_word (pos permits)) ≡ pos permits
opens-state permits = grind (arith, ints)

begins-core : (sync : Bool) (permits passes : ℕ) → 0 < permits → permits ≤ 1048576 → 0 < passes
    → passes ≤ 32
    → IsEitherCore (core_shown sync permits (first_hidden passes 0 0)
    (four (state_word (pos permits) ∷ [])) [])
begins-core sync permits passes some low any few =
    let queue = (opening_of sync permits passes).queue in
    subst (λ (z : List ℕ × ℤ).
    IsEitherCore (record {
      sync = sync;
      permits = permits;
      state = z.1;
      held = z.0;
      history = [];
      queue = queue;
    }))
    (λ i. (sym (first-held passes any) i, sym (opens-state permits) i))
    (opened-either sync permits passes
    (record { some_permits = some; few_permits = low; some_passes = any; few_passes = few }))

-- a queue in which nothing was done yet has no cell, and nobody watches one
begins-queue : (sync : Bool) (permits passes : ℕ) (words : List ℕ)
    → IsEitherCore (core_shown sync permits (first_hidden passes 0 0) words [])
    → IsSoundEither sync (first_hidden passes 0 0).queue
begins-queue sync permits passes words core = record {
  reads = core.sound;
  plain = core.plain;
  watches = λ p k does. absurd (idle p k does);
  lone = λ p r k one other. absurd (idle p k one);
  watched = λ is k cell found at. absurd (cc);
  undelegated = λ is k cell found at. absurd (cc);
}
  where
    idle : (p k : ℕ) → slice_get (replicate passes doing.Idle) p ≡ Some (doing.Watching k) → ⊥
    idle p k does =
        let is : doing.Watching k ≡ doing.Idle = get-replicate passes p doing.Idle _ does in
        absurd (cc (is))

-- permits that one pass gives and another gets are all still held
given-permits : (sync : Bool) (permits : ℕ) (c : Hidden) (from to many : ℕ)
    (mine theirs gave got : Has) (words : List ℕ) (log : List Entry)
    → ShowsCore sync permits c words log → from ≢ to → slice_get c.has from ≡ Some mine
    → slice_get c.has to ≡ Some theirs → many ≤ mine.held → gave.held ≡ mine.held - many
    → got.held ≡ theirs.held + many
    → ShowsCore sync permits (hands_over c from gave to got) words log
given-permits sync permits c from to many mine theirs gave got words log shown apart has there
    enough left more =
    let s = core_shown sync permits c words log in
    let held = held_of c.has in
    let from_has : slice_get held from ≡ Some mine.held = held-at c.has from mine has in
    let to_has : slice_get held to ≡ Some theirs.held = held-at c.has to theirs there in
    let first : nat_lt from (length held) ≡ true =
    lt-ltb from (length held) (get-below held from mine.held from_has) in
    let second : nat_lt to (length held) ≡ true =
    lt-ltb to (length held) (get-below held to theirs.held to_has) in
    let holds : slice_index held from ≡ mine.held = held-is c.has from mine has in
    let few : nat_le many (slice_index held from) ≡ true =
    le-leb many (slice_index held from) (omega arith) in
    let rest = slice_set held from (slice_index held from - many) in
    let lies : slice_index rest to ≡ theirs.held =
    get_or_from_slice_get rest to theirs.held 0
    (get-set_else held from to (slice_index held from - many) apart ∙ to_has) in
    let is : held_after held from to many ≡ held_of (slice_set (slice_set c.has from gave) to got) =
    (λ i. slice_set (slice_set held from (holds i - many)) to (lies i + many))
    ∙ (ap (λ l. set l to (theirs.held + many)) (held-set c.has from gave (mine.held - many) left)
    ∙ held-set (slice_set c.has from gave) to got (theirs.held + many) more) in
    let next = record s { held = held_after held from to many } in
    record {
      core = subst (λ l. IsEitherCore (record s { held = l })) is
          (handed-core s next shown.core
          (handed s next from to many (rw (first, second, few) refl)));
      queue = shown.queue;
      unbroken = shown.unbroken;
    }

-- a semaphore begins no resumption but by a release
none-begun : (sync : Bool) (cost : Cost) → IsBegun cost
    → Suits (semaphore_manner sync) (begun_by cost) → ⊥
none-begun sync no_cost begun suits = begun
none-begun sync one_owed begun suits = suits
none-begun sync one_element begun suits = suits

-- the slot of a semaphore is that of the pass that holds its one permit
semaphore-slots : {T : Type 0} (sync : Bool) (looks permits : ℕ)
    → KeepsSlots semaphore_object (semaphore_primitive {T = T} sync looks permits)
semaphore-slots sync looks permits = record {
  apart = λ c words log handed p q k mine theirs shown here there o o'.
      one-holds (core_shown sync permits c words log) p q mine.held theirs.held shown.core o.0
      (held-at c.has p mine here) (held-at c.has q theirs there) o.2 o'.2;
  few = λ c words log handed p has shown there.
      held-few (core_shown sync permits c words log) p has.held shown.core
      (held-at c.has p has there);
  known = λ c words log handed p has shown there. tt;
  steps = λ s has payload k suits kept o. (o.0, o.1, after (row_of s) has payload o.2);
  gathers = λ mine theirs k o. ⊎_elim
      (λ (a : opens_one permits mine k). (a.0, a.1, let some = a.2 in omega arith))
      (λ (b : opens_one permits theirs k). (b.0, b.1, let some = b.2 in omega arith)) o;
  gives = λ s p k payload j suits. step-given s p k j
      ∙ sym (pays-none (semaphore_manner sync) (λ e. e) s payload j suits);
  gathered = λ mine theirs k o. ⊎_elim
      (λ (a : 0 < mine.held). inl (o.0, o.1, a))
      (λ (none : mine.held ≤ 0). inr (o.0, o.1, let some = o.2 in omega arith))
      (cases_lt 0 mine.held);
  bare = λ has k o. let some = o.2 in absurd (omega arith);
  hands_in = λ c words log handed k value shown. shown;
}
  where
    gained : (gain : Gain) (has : Has) (payload : ℕ) → 0 < has.held
        → 0 < (has_gained one_more gain payload has).held
    gained nothing has payload some = some
    gained its_own has payload some = omega arith
    gained a_debt has payload some = some

    paid : (cost : Cost) (has : Has) (payload : ℕ) → 0 < has.held
        → 0 < (has_paid cost payload has).held
    paid no_cost has payload some = some
    paid one_owed has payload some = some
    paid one_element has payload some = some

    after : (row : StepRow) (has : Has) (payload : ℕ) → 0 < has.held
        → 0 < (has_after one_more row payload has).held
    after (at_counter row) has payload some = paid row.cost has payload some
    after (at_cell row) has payload some = gained row.gain has payload some

-- a semaphore of either kind with permits from 1 to 1,048,576
pub semaphore-client : {T : Type 0} (sync : Bool) (looks permits : ℕ) → 0 < permits
    → permits ≤ 1048576 → IsClient semaphore_object (semaphore_primitive {T = T} sync looks permits)
semaphore-client sync looks permits some low = record {
  mode = refl;
  sync = refl;
  begins = λ passes any few.
      let core = begins-core sync permits passes some low any few in
      record {
        core = core;
        queue = begins-queue sync permits passes (four (state_word (pos permits) ∷ [])) core;
        unbroken = λ plain. unbroken-none;
      };
  steps = λ c t p k found has payload words log handed shown opens there paid suits low low'.
      record {
        core = steps-core sync permits c t p k found has payload words log shown.core opens there
            suits low low';
        queue = step-either sync c.queue t p k found (suits-queue sync (card_of t).makers suits)
            shown.queue opens;
        unbroken = steps-unbroken sync t p k log suits shown.unbroken;
      };
  counts = λ c p may words log handed shown.
      record { core = shown.core; queue = shown.queue; unbroken = shown.unbroken };
  hands = λ c from to mine theirs words log handed shown apart idle idle' has there.
      given-permits sync permits c from to mine.held mine theirs (has_none mine)
      (has_both theirs mine) words log shown apart has there (omega arith) (omega arith) refl;
  shares = λ c from to many mine theirs words log handed shown apart idle idle' has there enough.
      given-permits sync permits c from to many mine theirs
      (record mine { held = mine.held - many })
      (record theirs { held = theirs.held + many }) words log shown apart has there
      enough refl refl;
  silent = silent-step;
  quiet = record { drawing = λ p k payload. refl; passing = λ p k payload. refl };
  sound = λ c words log handed shown. shown.queue;
  legal_shown = λ c words log handed shown.
      record { legal = shown.core.legal; unbroken = shown.unbroken };
  held_fits = λ c words log handed p has shown there.
      let fits = (core-fits (core_shown sync permits c words log) shown.core).held p in
      let is : slice_index (held_of c.has) p ≡ has.held = held-is c.has p has there in
      omega arith;
  reaches_few = λ c words log handed p shown owes.
      let few = reached-few (core_shown sync permits c words log) p shown.core owes in omega arith;
  begins_few = λ c words log handed p has cost payload shown idle there paid begun suits.
      absurd (none-begun sync cost begun suits);
  slots = semaphore-slots sync looks permits;
}
