-- The barrier is a client: each step of the queue that suits it leads from barrier to barrier, by
-- the law of the plain barrier. This file is a proof: nothing of it has to be read to know what is
-- promised, and nothing in it is taken on trust.
use Rattle.std.proofs.Common.{◌≡◌, ◌≢◌, ℕ, zero, suc, ◌+◌, ◌-◌, ◌<◌, ◌≤◌, true, false, List, [], ◌∷◌, ◌++◌, replicate, refl, ap, sym, ◌∙◌, subst, ⊎_elim, arith, Option, Some, slice_get, ne_eqb, get_or, set}
use Rattle.std.proofs.lemmas.Option.{slice_get-map, get_or_from_slice_get}
use Rattle.std.proofs.lemmas.List.{map-set}
use Rattle.std.specs.Prelude.{slice_index, slice_set}
use Rattle.std.specs.Option.{option_map}
use Rattle.cqs_core.specs.declared.cells.CoreCell.{CoreCell}
use Rattle.cqs_core.specs.declared.doings.Doing.TheVariants as doing
use Rattle.cqs_core.specs.QueueSteps.{QueueStep, draws, enters, reaches, begins, puts, installs, takes, serves, leaves, delegates, passes_over, ends_refused, ends_missed, starts_leaving, leaves_line, leaves_at_once, settles, settles_owing, refuses, refuses_value, looks, pends, grants, late, in_sync, row_of, StepRow, at_counter, at_cell, Gain, nothing, its_own, a_debt, Cost, no_cost, one_owed, one_element, IsOpenStep}
use Rattle.cqs_core.proofs.EitherQueues.{either-sound}
use Rattle.cqs_core.proofs.Places.{get-set_else, set-same}
use Rattle.cqs_barrier_object.specs.declared.entries.BarrierEntry.{BarrierEntry}
use Rattle.cqs_barrier_object.specs.BarrierNames.{entry_names}
use Rattle.cqs_barrier_object.specs.BarrierShown.{Shape, IsBarrier}
use Rattle.cqs_barrier_object.specs.BarrierSteps as object
use Rattle.cqs_barrier_object.specs.BarrierSteps.{IsBarrierStep, step_entries, after_step, owed_paid, cost_of, held_after_share, first_shape}
use Rattle.cqs_barrier_object.proofs.Fits.{barrier-reaches_few, barrier-begins_few, barrier-held_few}
use Rattle.cqs_barrier_object.proofs.Steps.{step-keeps}
use Rattle.cqs_barrier_object.proofs.WordSteps.{barrier-opens, handover-keeps}
use Rattle.cqs_rule_laws.specs.declared.view.Has.{Has}
use Rattle.cqs_rule_laws.specs.Client.{IsClient, IsBegun, IsPaid, IsPayload, begun_by}
use Rattle.cqs_rule_laws.specs.Hidden.{Hidden, hidden_after, has_after, has_gained, has_paid, has_both, has_none, hands_over}
use Rattle.cqs_rule_laws.specs.Lists.{NamesOnly}
use Rattle.cqs_rule_laws.specs.Manner.{Suits}
use Rattle.cqs_rule_laws.specs.Opened.{first_hidden, four}
use Rattle.cqs_rule_laws.specs.Held.{held_of}
use Rattle.cqs_rule_laws.proofs.Held.{held-at, held-is, held-set, held-kept}
use Rattle.cqs_rule_laws.specs.Views.{first_has}
use Rattle.cqs_rule_laws.proofs.PaysAway.{gives-never, pays-none}
use Rattle.cqs_rule.proofs.PlainQueues.{suits-none}
use Rattle.cqs_barrier.specs.Barrier.{further_of, barrier_shown, ShowsBarrier, no_more, barrier_object, barrier_manner, barrier_primitive}
use Rattle.cqs_barrier.specs.Word.{word_of, parties_in, remaining_in}

silent-step : (s : QueueStep) (p k payload : ℕ) → NamesOnly entry_names p (step_entries s p k)
silent-step draws p k payload n apart = rw (ne_eqb p n (λ q. apart (sym q))) refl
silent-step enters p k payload n apart = refl
silent-step reaches p k payload n apart = refl
silent-step begins p k payload n apart = refl
silent-step puts p k payload n apart = refl
silent-step installs p k payload n apart = refl
silent-step takes p k payload n apart = refl
silent-step serves p k payload n apart = refl
silent-step leaves p k payload n apart = refl
silent-step delegates p k payload n apart = refl
silent-step passes_over p k payload n apart = refl
silent-step ends_refused p k payload n apart = refl
silent-step ends_missed p k payload n apart = refl
silent-step starts_leaving p k payload n apart = refl
silent-step leaves_line p k payload n apart = refl
silent-step leaves_at_once p k payload n apart = refl
silent-step settles p k payload n apart = refl
silent-step settles_owing p k payload n apart = rw (ne_eqb p n (λ q. apart (sym q))) refl
silent-step refuses p k payload n apart = refl
silent-step refuses_value p k payload n apart = refl
silent-step (looks pends) p k payload n apart = rw (ne_eqb p n (λ q. apart (sym q))) refl
silent-step (looks grants) p k payload n apart = rw (ne_eqb p n (λ q. apart (sym q))) refl
silent-step (looks late) p k payload n apart = rw (ne_eqb p n (λ q. apart (sym q))) refl
silent-step (in_sync e) p k payload n apart = refl

-- how many further resumptions the pass owes that has this
pub further-at : (l : List Has) (p : ℕ) (has : Has) → slice_get l p ≡ Some has
    → slice_get (further_of l) p ≡ Some has.further
further-at l p has there =
    slice_get-map (λ (h : Has). h.further) l p
    ∙ ap (option_map (λ (h : Has). h.further)) there

pub further-is : (l : List Has) (p : ℕ) (has : Has) → slice_get l p ≡ Some has
    → get_or (further_of l) p 0 ≡ has.further
further-is l p has there =
    get_or_from_slice_get (further_of l) p has.further 0 (further-at l p has there)

-- what all owe where the pass has this now: the pass so much, or what it owed
pub further-set : (l : List Has) (p : ℕ) (h : Has) (n : ℕ) → h.further ≡ n
    → set (further_of l) p n ≡ further_of (slice_set l p h)
further-set l p h n is =
    sym (map-set (λ (x : Has). x.further) l p h ∙ ap (λ m. set (further_of l) p m) is)

pub further-kept : (l : List Has) (p : ℕ) (has h : Has) → slice_get l p ≡ Some has
    → h.further ≡ has.further
    → further_of l ≡ further_of (slice_set l p h)
further-kept l p has h there same =
    sym (set-same (further_of l) p has.further (further-at l p has there))
    ∙ further-set l p h has.further same

-- what all hold after a step of the queue: what they held
held-after : (row : StepRow) (l : List Has) (p payload : ℕ) (has : Has) → slice_get l p ≡ Some has
    → held_of l ≡ held_of (slice_set l p (has_after no_more row payload has))
held-after (at_counter row) l p payload has there = paid row.cost
  where
    paid : (cost : Cost) → held_of l ≡ held_of (slice_set l p (has_paid cost payload has))
    paid no_cost = held-kept l p has has there refl
    paid one_owed = held-kept l p has (has_paid one_owed payload has) there refl
    paid one_element = held-kept l p has (has_paid one_element payload has) there refl
held-after (at_cell row) l p payload has there = gained row.gain
  where
    gained : (gain : Gain)
        → held_of l ≡ held_of (slice_set l p (has_gained no_more gain payload has))
    gained nothing = held-kept l p has has there refl
    gained its_own = held-kept l p has (has_gained no_more its_own payload has) there refl
    gained a_debt = held-kept l p has (has_gained no_more a_debt payload has) there refl

-- what all owe further after it: a resumption that was begun is owed no more
owed-after : (row : StepRow) (l : List Has) (p payload : ℕ) (has : Has) → slice_get l p ≡ Some has
    → owed_paid (cost_of row) (further_of l) p
    ≡ further_of (slice_set l p (has_after no_more row payload has))
owed-after (at_counter row) l p payload has there = paid row.cost
  where
    paid : (cost : Cost)
        → owed_paid cost (further_of l) p ≡ further_of (slice_set l p (has_paid cost payload has))
    paid no_cost = further-kept l p has has there refl
    paid one_owed =
        further-set l p (has_paid one_owed payload has) (get_or (further_of l) p 0 - 1)
        (ap (λ n. n - 1) (sym (further-is l p has there)))
    paid one_element = further-kept l p has (has_paid one_element payload has) there refl
owed-after (at_cell row) l p payload has there = gained row.gain
  where
    gained : (gain : Gain)
        → further_of l ≡ further_of (slice_set l p (has_gained no_more gain payload has))
    gained nothing = further-kept l p has has there refl
    gained its_own = further-kept l p has (has_gained no_more its_own payload has) there refl
    gained a_debt = further-kept l p has (has_gained no_more a_debt payload has) there refl

-- the steps that suit a barrier are those that keep it
suiting : (t : QueueStep) → Suits barrier_manner t → IsBarrierStep t
suiting draws suits = tt
suiting enters suits = absurd (door-drawn suits)
  where
    door-drawn : true ≡ false → ⊥
    door-drawn q = cc
suiting reaches suits = tt
suiting begins suits = tt
suiting puts suits = suits
suiting installs suits = tt
suiting takes suits = tt
suiting serves suits = tt
suiting leaves suits = tt
suiting delegates suits = tt
suiting passes_over suits = tt
suiting ends_refused suits = tt
suiting ends_missed suits = suits
suiting starts_leaving suits = tt
suiting leaves_line suits = suits
suiting leaves_at_once suits = suits
suiting settles suits = tt
suiting settles_owing suits = tt
suiting refuses suits = tt
suiting refuses_value suits = tt
suiting (looks e) suits = tt
suiting (in_sync e) suits = suits-none barrier_manner refl e suits

-- what pays for a resumption that is begun is owed further
paid-cost : (cost : Cost) (l : List Has) (p payload : ℕ) (has : Has) → slice_get l p ≡ Some has
    → IsPaid cost has payload → (IsBegun cost → Suits barrier_manner (begun_by cost))
    → object.IsPaid cost (further_of l) p
paid-cost no_cost l p payload has there paid suits = tt
paid-cost one_owed l p payload has there paid suits = rw (further-is l p has there) paid.0
paid-cost one_element l p payload has there paid suits = suits tt

paid-row : (t : QueueStep) (l : List Has) (p payload left : ℕ) (has : Has)
    → slice_get l p ≡ Some has
    → IsPayload (row_of t) has left payload → Suits barrier_manner t
    → object.IsPaid (cost_of (row_of t)) (further_of l) p
paid-row draws l p payload left has there paid suits = tt
paid-row enters l p payload left has there paid suits = tt
paid-row reaches l p payload left has there paid suits = tt
paid-row begins l p payload left has there paid suits =
    paid-cost one_owed l p payload has there paid (λ _. suits)
paid-row puts l p payload left has there paid suits = suits
paid-row installs l p payload left has there paid suits = tt
paid-row takes l p payload left has there paid suits = tt
paid-row serves l p payload left has there paid suits = tt
paid-row leaves l p payload left has there paid suits = tt
paid-row delegates l p payload left has there paid suits = tt
paid-row passes_over l p payload left has there paid suits = tt
paid-row ends_refused l p payload left has there paid suits = tt
paid-row ends_missed l p payload left has there paid suits = tt
paid-row starts_leaving l p payload left has there paid suits = tt
paid-row leaves_line l p payload left has there paid suits = tt
paid-row leaves_at_once l p payload left has there paid suits = tt
paid-row settles l p payload left has there paid suits = tt
paid-row settles_owing l p payload left has there paid suits = tt
paid-row refuses l p payload left has there paid suits = tt
paid-row refuses_value l p payload left has there paid suits = tt
paid-row (looks pends) l p payload left has there paid suits = tt
paid-row (looks grants) l p payload left has there paid suits = tt
paid-row (looks late) l p payload left has there paid suits = tt
paid-row (in_sync e) l p payload left has there paid suits =
    absurd (suits-none barrier_manner refl e suits)

steps-barrier : {T : Type 0} (parties : ℕ) (c : Hidden) (t : QueueStep) (p k : ℕ)
    (found : Option CoreCell) (has : Has) (payload : ℕ)
    (words : List ℕ) (log : List BarrierEntry) (handed : List (ℕ × T))
    → ShowsBarrier parties c words log handed → IsOpenStep c.queue t p k found
    → slice_get c.has p ≡ Some has
    → IsPayload (row_of t) has (c.payloads k) payload → Suits barrier_manner t
    → ShowsBarrier parties (hidden_after no_more c t p k found has payload) words
    (log ++ step_entries t p k) handed
steps-barrier parties c t p k found has payload words log handed shown opens there paid suits =
    let s = barrier_shown parties c words log in
    let after : Shape = after_step s t p k found in
    record {
      word = shown.word;
      barrier =
          subst (λ (z : List ℕ × List ℕ). IsBarrier (record after { held = z.0; owed = z.1 }))
          (λ i. (
            held-after (row_of t) c.has p payload has there i,
            owed-after (row_of t) c.has p payload has there i,
          ))
          (step-keeps s t p k found shown.barrier (suiting t suits) opens
          (paid-row t c.has p payload (c.payloads k) has there paid suits));
    }

-- what the passes hold and owe as a barrier opens: the first one all parties
rest-held : (n : ℕ) → held_of (replicate n (first_has 0)) ≡ replicate n 0
rest-held zero = refl
rest-held (suc n) = ap (λ (l : List ℕ). 0 ∷ l) (rest-held n)

rest-owed : (n : ℕ) → further_of (replicate n (first_has 0)) ≡ replicate n 0
rest-owed zero = refl
rest-owed (suc n) = ap (λ (l : List ℕ). 0 ∷ l) (rest-owed n)

first-owed : (parties passes : ℕ) → 0 < passes
    → further_of (first_has parties ∷ replicate (passes - 1) (first_has 0)) ≡ replicate passes 0
first-owed parties zero any = absurd (omega arith)
first-owed parties (suc n) any =
    let less : suc n - 1 ≡ n = omega arith in rw less (ap (λ (l : List ℕ). 0 ∷ l) (rest-owed n))

remaining-of : (parties : ℕ) → parties ≤ 32 → remaining_in (word_of parties parties) ≡ parties
remaining-of parties few = omega arith

parties-of : (parties : ℕ) → parties ≤ 32 → parties_in (word_of parties parties) ≡ parties
parties-of parties few = omega arith

begins-barrier : {T : Type 0} (parties passes : ℕ) → 0 < parties → parties ≤ 32 → 0 < passes
    → ShowsBarrier {T = T} parties (first_hidden passes 0 parties)
    (four (word_of parties parties ∷ [])) [] []
begins-barrier parties passes some few any =
    let held : parties ∷ replicate (passes - 1) 0
    ≡ held_of (first_has parties ∷ replicate (passes - 1) (first_has 0)) =
    ap (λ (l : List ℕ). parties ∷ l) (sym (rest-held (passes - 1))) in
    record {
      word = parties-of parties few;
      barrier =
          subst (λ (z : ℕ × List ℕ × List ℕ). IsBarrier (record (first_shape parties passes) {
            remaining = z.0;
            held = z.1;
            owed = z.2;
          }))
          (λ i. (sym (remaining-of parties few) i, held i, sym (first-owed parties passes any) i))
          (barrier-opens parties passes some any);
    }

-- parties that one pass gives and another gets are all still to arrive
given-parties : {T : Type 0} (parties : ℕ) (c : Hidden) (from to many : ℕ)
    (mine theirs gave got : Has) (words : List ℕ) (log : List BarrierEntry)
    (log_handed : List (ℕ × T))
    → ShowsBarrier parties c words log log_handed → from ≢ to
    → slice_get c.queue.doing from ≡ Some doing.Idle
    → slice_get c.queue.doing to ≡ Some doing.Idle
    → slice_get c.has from ≡ Some mine → slice_get c.has to ≡ Some theirs → many ≤ mine.held
    → gave.held ≡ mine.held - many → got.held ≡ theirs.held + many
    → gave.further ≡ mine.further → got.further ≡ theirs.further
    → ShowsBarrier parties (hands_over c from gave to got) words log log_handed
given-parties parties c from to many mine theirs gave got words log log_handed shown apart idle
    idle' has there enough left more owes owes' =
    let s = barrier_shown parties c words log in
    let held = held_of c.has in
    let from_has : slice_get held from ≡ Some mine.held = held-at c.has from mine has in
    let to_has : slice_get held to ≡ Some theirs.held = held-at c.has to theirs there in
    let holds : slice_index held from ≡ mine.held = held-is c.has from mine has in
    let rest = slice_set held from (slice_index held from - many) in
    let lies : slice_index rest to ≡ theirs.held =
    get_or_from_slice_get rest to theirs.held 0
    (get-set_else held from to (slice_index held from - many) apart ∙ to_has) in
    let is : held_after_share held from to many
    ≡ held_of (slice_set (slice_set c.has from gave) to got) =
    (λ i. slice_set (slice_set held from (holds i - many)) to (lies i + many))
    ∙ (ap (λ l. set l to (theirs.held + many)) (held-set c.has from gave (mine.held - many) left)
    ∙ held-set (slice_set c.has from gave) to got (theirs.held + many) more) in
    let second : slice_get (slice_set c.has from gave) to ≡ Some theirs =
    get-set_else c.has from to gave apart ∙ there in
    let owed : further_of c.has ≡ further_of (slice_set (slice_set c.has from gave) to got) =
    further-kept c.has from mine gave has owes
    ∙ further-kept (slice_set c.has from gave) to theirs got second owes' in
    record {
      word = shown.word;
      barrier =
          subst (λ (z : List ℕ × List ℕ). IsBarrier (record s { held = z.0; owed = z.1 }))
          (λ i. (is i, owed i))
          (handover-keeps s from to many shown.barrier idle idle' (omega arith));
    }

-- a resumption that an idle pass begins is owed further
begun-owed : (cost : Cost) (has : Has) (payload : ℕ) → IsPaid cost has payload → IsBegun cost
    → Suits barrier_manner (begun_by cost) → 0 < has.further
begun-owed no_cost has payload paid begun suits = absurd begun
begun-owed one_owed has payload paid begun suits = paid.0
begun-owed one_element has payload paid begun suits = absurd suits

-- a barrier with 1 to 32 parties
pub barrier-client : {T : Type 0} (parties : ℕ) → 0 < parties → parties ≤ 32
    → IsClient barrier_object (barrier_primitive {T = T} parties)
barrier-client parties some low = record {
  mode = refl;
  sync = refl;
  begins = λ passes any few. begins-barrier parties passes some low any;
  steps = λ c t p k found has payload words log handed shown opens there paid suits low low'.
      steps-barrier parties c t p k found has payload words log handed shown opens there paid suits;
  counts = λ c p may words log handed shown. record { word = shown.word; barrier = shown.barrier };
  hands = λ c from to mine theirs words log handed shown apart idle idle' has there.
      given-parties parties c from to mine.held mine theirs (has_none mine) (has_both theirs mine)
      words log handed shown apart idle idle' has there (omega arith) (omega arith) refl refl refl;
  shares = λ c from to many mine theirs words log handed shown apart idle idle' has there enough.
      given-parties parties c from to many mine theirs (record mine { held = mine.held - many })
      (record theirs { held = theirs.held + many }) words log handed shown apart idle idle' has
      there enough refl refl refl refl;
  silent = silent-step;
  quiet = record { drawing = λ p k payload. refl; passing = λ p k payload. refl };
  sound = λ c words log handed shown. either-sound c.queue shown.barrier.sound;
  legal_shown = λ c words log handed shown. shown.barrier.legal;
  held_fits = λ c words log handed p has shown there.
      let few = barrier-held_few (barrier_shown parties c words log) p has.held shown.barrier
      (held-at c.has p has there) in omega arith;
  reaches_few = λ c words log handed p shown owes.
      let few = barrier-reaches_few (barrier_shown parties c words log) p shown.barrier owes in
      omega arith;
  begins_few = λ c words log handed p has cost payload shown idle there paid begun suits.
      let owed = begun-owed cost has payload paid begun suits in
      let few = barrier-begins_few (barrier_shown parties c words log) p shown.barrier idle
      (rw (further-is c.has p has there) owed) in
      omega arith;
  slots = record {
    apart = λ c words log handed p q k mine theirs shown has there o o'. absurd o;
    steps = λ s has payload k suits kept o. absurd o;
    few = λ c words log handed p has shown there.
        barrier-held_few (barrier_shown parties c words log) p has.held shown.barrier
        (held-at c.has p has there);
    known = λ c words log handed p has shown there. tt;
    gathers = λ mine theirs k o. ⊎_elim (λ a. absurd a) (λ a. absurd a) o;
    gathered = λ mine theirs k o. absurd o;
    bare = λ has k o. absurd o;
    gives = λ s p k payload j suits. gives-never (barrier_object.entries s p k payload) j
        ∙ sym (pays-none barrier_manner (λ e. e) s payload j suits);
    hands_in = λ c words log handed k value shown.
        record { word = shown.word; barrier = shown.barrier };
  };
}
