-- The latch is a client, in both modes: each step of the queue that suits it keeps what it shows,
-- by the law of the latch. This file is a proof: nothing of it has to be read to know what is
-- promised, and nothing in it is taken on trust.
use Rattle.std.proofs.Common.{◌≡◌, ◌≢◌, ℕ, zero, suc, ◌+◌, ◌-◌, ◌<◌, ◌≤◌, ◌==◌, Bool, true, false, List, [], ◌∷◌, ◌++◌, replicate, refl, ap, sym, ◌∙◌, subst, ⊎_elim, arith, Option, Some, None, slice_get, ne_eqb, ℤ, pos, length, get_or, set}
use Rattle.std.proofs.lemmas.Option.{slice_get-map, get_or_from_slice_get}
use Rattle.std.proofs.lemmas.List.{map-set, length-set, length-replicate}
use Rattle.std.specs.Prelude.{slice_set}
use Rattle.std.specs.Option.{option_map}
use Rattle.std.proofs.lemmas.Int.{ints}
use Rattle.cqs_core.specs.declared.cells.CoreCell.{CoreCell}
use Rattle.cqs_core.specs.declared.cells.CoreState.{CoreState}
use Rattle.cqs_core.specs.Numbered.{EachAt}
use Rattle.cqs_core.specs.declared.doings.Doing.TheVariants as doing
use Rattle.cqs_core.specs.QueueLine.{door}
use Rattle.cqs_core.specs.QueueMoves.{cells_drawn, cells_reached}
use Rattle.cqs_core.specs.QueueState.{Queue, fresh_cell}
use Rattle.cqs_core.specs.QueueSteps.{QueueStep, draws, enters, reaches, begins, puts, installs, takes, serves, leaves, delegates, passes_over, ends_refused, ends_missed, starts_leaving, leaves_line, leaves_at_once, settles, settles_owing, refuses, refuses_value, looks, pends, grants, late, in_sync, row_of, StepRow, at_counter, at_cell, Counter, to_suspend, to_resume, Gain, nothing, its_own, a_debt, Cost, no_cost, one_owed, one_element, IsOpenStep, IsOpenRow, CellRow, state_made, cell_after, queue_after, row_after}
use Rattle.cqs_core.proofs.EachAtLemmas.{EachAt-write, EachAt-push}
use Rattle.cqs_core.proofs.EitherQueues.{either-sound}
use Rattle.cqs_core.proofs.Places.{get-set_else, set-same}
use Rattle.cqs_core.proofs.QueueOpens.{get-replicate}
use Rattle.cqs_latch_object.specs.declared.entries.LatchEntry.{LatchEntry}
use Rattle.cqs_latch_object.specs.LatchNames.{entry_names}
use Rattle.cqs_latch_object.specs.LatchRuns.{first_shape}
use Rattle.cqs_latch_object.specs.LatchShown.{LatchShape, IsLatchCore}
use Rattle.cqs_latch_object.specs.LatchSteps as object
use Rattle.cqs_latch_object.specs.LatchSteps.{IsLatchStep, step_entries, cost_of, owed_by, after_queue_step}
use Rattle.cqs_latch_object.proofs.LatchSteps.{step-core}
use Rattle.cqs_latch_object.proofs.LatchRuns.{opens-core}
use Rattle.cqs_latch_object.proofs.LatchBounds.{core-sound, core-reaches_few, core-begins_few}
use Rattle.cqs_resume.specs.AtOnce.{IsPlain}
use Rattle.cqs_rule_laws.specs.declared.view.Has.{Has}
use Rattle.cqs_rule_laws.specs.declared.config.CancelMode.{CancelMode}
use Rattle.cqs_rule_laws.specs.declared.config.CancelMode.TheVariants.{Smart, Simple}
use Rattle.cqs_rule_laws.specs.Client.{IsClient, IsPaid, IsPayload, IsBegun, begun_by, no_number}
use Rattle.cqs_rule_laws.specs.Hidden.{Hidden, hidden_after, has_after, has_gained, has_paid, has_both, has_none, hands_over}
use Rattle.cqs_rule_laws.specs.Lists.{NamesOnly}
use Rattle.cqs_rule_laws.specs.Manner.{mode_for, Suits}
use Rattle.cqs_rule_laws.specs.Opened.{first_hidden, four}
use Rattle.cqs_rule_laws.specs.Views.{first_has}
use Rattle.cqs_rule_laws.proofs.PaysAway.{gives-never, pays-none}
use Rattle.cqs_rule.proofs.PlainQueues.{suits-none}
use Rattle.cqs_latch.specs.Latch.{is_simple, further_of, latch_shown, HoldsNothing, HoldsPlain, ShowsLatch, nothing_more, latch_object, latch_manner, latch_primitive}
use Rattle.cqs_words.specs.State.{state_word, count_in}
use Rattle.cqs_words.specs.Waiters.{waiters_word}
use Rattle.cqs_words.proofs.WaitersLaws.{waiters_in-word, is_done-word}

silent-step : (s : QueueStep) (p k payload : ℕ) → NamesOnly entry_names p (step_entries s p k)
silent-step draws p k payload n apart = rw (ne_eqb p n (λ q. apart (sym q))) refl
silent-step enters p k payload n apart = refl
silent-step reaches p k payload n apart = refl
silent-step begins p k payload n apart = refl
silent-step puts p k payload n apart = refl
silent-step installs p k payload n apart = refl
silent-step takes p k payload n apart = refl
silent-step serves p k payload n apart = refl
silent-step leaves p k payload n apart = refl
silent-step delegates p k payload n apart = refl
silent-step passes_over p k payload n apart = refl
silent-step ends_refused p k payload n apart = refl
silent-step ends_missed p k payload n apart = refl
silent-step starts_leaving p k payload n apart = refl
silent-step leaves_line p k payload n apart = refl
silent-step leaves_at_once p k payload n apart = rw (ne_eqb p n (λ q. apart (sym q))) refl
silent-step settles p k payload n apart = refl
silent-step settles_owing p k payload n apart = refl
silent-step refuses p k payload n apart = refl
silent-step refuses_value p k payload n apart = refl
silent-step (looks pends) p k payload n apart = rw (ne_eqb p n (λ q. apart (sym q))) refl
silent-step (looks grants) p k payload n apart = rw (ne_eqb p n (λ q. apart (sym q))) refl
silent-step (looks late) p k payload n apart = rw (ne_eqb p n (λ q. apart (sym q))) refl
silent-step (in_sync e) p k payload n apart = refl

-- how many resumptions the pass owes that has this
pub further-at : (l : List Has) (p : ℕ) (has : Has) → slice_get l p ≡ Some has
    → slice_get (further_of l) p ≡ Some has.further
further-at l p has there =
    slice_get-map (λ (h : Has). h.further) l p ∙ ap (option_map (λ (h : Has). h.further)) there

pub further-is : (l : List Has) (p : ℕ) (has : Has) → slice_get l p ≡ Some has
    → get_or (further_of l) p 0 ≡ has.further
further-is l p has there =
    get_or_from_slice_get (further_of l) p has.further 0 (further-at l p has there)

-- what all owe where the pass has this now: it owes so many, or as many as before
pub further-set : (l : List Has) (p : ℕ) (h : Has) (n : ℕ) → h.further ≡ n
    → set (further_of l) p n ≡ further_of (slice_set l p h)
further-set l p h n is =
    sym (map-set (λ (x : Has). x.further) l p h ∙ ap (λ m. set (further_of l) p m) is)

pub further-kept : (l : List Has) (p : ℕ) (has h : Has) → slice_get l p ≡ Some has
    → h.further ≡ has.further → further_of l ≡ further_of (slice_set l p h)
further-kept l p has h there same =
    sym (set-same (further_of l) p has.further (further-at l p has there))
    ∙ further-set l p h has.further same

-- what all owe after a step of this row
further-after : (row : StepRow) (l : List Has) (p payload : ℕ) (has : Has)
    → slice_get l p ≡ Some has
    → owed_by (cost_of row) (further_of l) p
    ≡ further_of (slice_set l p (has_after nothing_more row payload has))
further-after (at_counter row) l p payload has there = paid row.cost
  where
    paid : (cost : Cost) → owed_by cost (further_of l) p
        ≡ further_of (slice_set l p (has_paid cost payload has))
    paid no_cost = further-kept l p has has there refl
    paid one_owed =
        further-set l p (has_paid one_owed payload has) (get_or (further_of l) p 0 - 1)
        (ap (λ n. n - 1) (sym (further-is l p has there)))
    paid one_element = further-kept l p has (has_paid one_element payload has) there refl
further-after (at_cell row) l p payload has there = gained row.gain
  where
    gained : (gain : Gain)
        → further_of l ≡ further_of (slice_set l p (has_gained nothing_more gain payload has))
    gained nothing = further-kept l p has has there refl
    gained its_own = further-kept l p has (has_gained nothing_more its_own payload has) there refl
    gained a_debt = further-kept l p has (has_gained nothing_more a_debt payload has) there refl

-- it holds as much
held-after : (row : StepRow) (payload : ℕ) (has : Has)
    → (has_after nothing_more row payload has).held ≡ has.held
held-after (at_counter row) payload has = paid row.cost
  where
    paid : (cost : Cost) → (has_paid cost payload has).held ≡ has.held
    paid no_cost = refl
    paid one_owed = refl
    paid one_element = refl
held-after (at_cell row) payload has = gained row.gain
  where
    gained : (gain : Gain) → (has_gained nothing_more gain payload has).held ≡ has.held
    gained nothing = refl
    gained its_own = refl
    gained a_debt = refl

-- nobody holds anything, where the pass that has this now holds nothing
pub none-held : (l : List Has) (p : ℕ) (has h : Has) → slice_get l p ≡ Some has → h.held ≡ has.held
    → EachAt HoldsNothing l → EachAt HoldsNothing (slice_set l p h)
none-held l p has h there same all =
    EachAt-write HoldsNothing HoldsNothing l p has h there (same ∙ all.at p has there)
    (λ k x got other none. none) all

door-drawn : true ≡ false → ⊥
door-drawn q = cc

-- the steps that suit a latch of this mode are those that keep its core
suiting : (mode : CancelMode) (t : QueueStep) → Suits (latch_manner mode) t
    → IsLatchStep (is_simple mode) t
suiting mode draws suits = tt
suiting mode reaches suits = tt
suiting mode begins suits = tt
suiting mode installs suits = tt
suiting mode takes suits = tt
suiting mode serves suits = tt
suiting mode leaves suits = tt
suiting mode (looks e) suits = tt
suiting Smart delegates suits = refl
suiting Simple delegates suits = absurd suits.0
suiting Smart passes_over suits = refl
suiting Simple passes_over suits = absurd suits
suiting Smart ends_refused suits = refl
suiting Simple ends_refused suits = absurd suits
suiting Smart starts_leaving suits = refl
suiting Simple starts_leaving suits = absurd suits
suiting Smart settles suits = refl
suiting Simple settles suits = absurd suits
suiting Smart settles_owing suits = refl
suiting Simple settles_owing suits = absurd suits
suiting Smart refuses suits = refl
suiting Simple refuses suits = absurd suits
suiting Smart refuses_value suits = refl
suiting Simple refuses_value suits = absurd suits
suiting Smart ends_missed suits = absurd suits
suiting Simple ends_missed suits = refl
suiting Smart leaves_at_once suits = absurd suits
suiting Simple leaves_at_once suits = refl
suiting Smart puts suits = absurd suits
suiting Simple puts suits = absurd suits
suiting Smart leaves_line suits = absurd suits
suiting Simple leaves_line suits = absurd suits
suiting Smart enters suits = absurd (door-drawn suits)
suiting Simple enters suits = absurd (door-drawn suits)
suiting mode (in_sync e) suits = suits-none (latch_manner mode) refl e suits

-- what the latch owes for a step pays for it
paid-by : (row : StepRow) (l : List Has) (p left payload : ℕ) (has : Has) → slice_get l p ≡ Some has
    → IsPayload row has left payload → object.IsPaid (cost_of row) (further_of l) p
paid-by (at_counter row) l p left payload has there paid = by row.cost paid
  where
    by : (cost : Cost) → IsPaid cost has payload → object.IsPaid cost (further_of l) p
    by no_cost paid = tt
    by one_owed paid = rw (further-is l p has there) paid.0
    by one_element paid = tt
paid-by (at_cell row) l p left payload has there paid = tt

-- a step leaves as many passes, and draws one number more at most
row-passes : (row : StepRow) (q : Queue) (p k : ℕ) (found : Option CoreCell)
    → length (row_after row q p k found).doing ≡ length q.doing
row-passes (at_counter row) q p k found = counted row.counter
  where
    counted : (c : Counter)
        → length (row_after (at_counter (record row { counter = c })) q p k found).doing
        ≡ length q.doing
    counted to_suspend = length-set q.doing p _
    counted to_resume = length-set q.doing p _
row-passes (at_cell row) q p k (Some found) = length-set q.doing p _
row-passes (at_cell row) q p k None = refl

row-drawn : (row : StepRow) (q : Queue) (p k : ℕ) (found : Option CoreCell)
    → (row_after row q p k found).suspends ≤ q.suspends + 1
row-drawn (at_counter row) q p k found = counted row.counter
  where
    counted : (c : Counter)
        → (row_after (at_counter (record row { counter = c })) q p k found).suspends
        ≤ q.suspends + 1
    counted to_suspend = omega arith
    counted to_resume = omega arith
row-drawn (at_cell row) q p k (Some found) = omega arith
row-drawn (at_cell row) q p k None = omega arith

-- in simple mode each step leaves plain cells
abbrev MakesPlain : Option CoreState → Type 0
MakesPlain None = Unit {0}
MakesPlain (Some s) = IsPlain s

made-plain : (makes : Option CoreState) (found : CoreState) → MakesPlain makes → IsPlain found
    → IsPlain (state_made makes found)
made-plain None found makes plain = plain
made-plain (Some s) found makes plain = makes

cell-plain : (row : CellRow) (q : Queue) (p k : ℕ) (found : Option CoreCell)
    → IsOpenRow q (at_cell row) p k found → MakesPlain row.makes
    → EachAt (HoldsPlain Simple) q.cells
    → EachAt (HoldsPlain Simple) (row_after (at_cell row) q p k found).cells
cell-plain row q p k None opens makes each = absurd opens
cell-plain row q p k (Some found) opens makes each =
    EachAt-write (HoldsPlain Simple) (HoldsPlain Simple) q.cells k found (cell_after row found)
    opens.0.finds (made-plain row.makes found.state makes (each.at k found opens.0.finds))
    (λ j x got other plain. plain) each

abbrev MakesPlainBy : StepRow → Type 0
MakesPlainBy (at_counter row) = ⊥
MakesPlainBy (at_cell row) = MakesPlain row.makes

row-plain : (row : StepRow) (q : Queue) (p k : ℕ) (found : Option CoreCell)
    → IsOpenRow q row p k found → MakesPlainBy row → EachAt (HoldsPlain Simple) q.cells
    → EachAt (HoldsPlain Simple) (row_after row q p k found).cells
row-plain (at_counter row) q p k found opens makes each = absurd makes
row-plain (at_cell row) q p k found opens makes each = cell-plain row q p k found opens makes each

drawn-plain : (cells : List CoreCell) (k p : ℕ) (found : Option CoreCell)
    → slice_get cells k ≡ found → EachAt (HoldsPlain Simple) cells
    → EachAt (HoldsPlain Simple) (cells_drawn cells k p found)
drawn-plain cells k p None there each =
    EachAt-push (HoldsPlain Simple) (HoldsPlain Simple) cells _ tt (λ j x got plain. plain) each
drawn-plain cells k p (Some found) there each =
    EachAt-write (HoldsPlain Simple) (HoldsPlain Simple) cells k found _ there
    (each.at k found there)
    (λ j x got other plain. plain) each

reached-plain : (cells : List CoreCell) (found : Option CoreCell)
    → EachAt (HoldsPlain Simple) cells → EachAt (HoldsPlain Simple) (cells_reached cells found)
reached-plain cells None each =
    EachAt-push (HoldsPlain Simple) (HoldsPlain Simple) cells fresh_cell tt (λ j x got plain. plain)
    each
reached-plain cells (Some found) each = each

plain-after : (mode : CancelMode) (t : QueueStep) (q : Queue) (p k : ℕ) (found : Option CoreCell)
    → Suits (latch_manner mode) t → IsOpenStep q t p k found → EachAt (HoldsPlain mode) q.cells
    → EachAt (HoldsPlain mode) (queue_after t q p k found).cells
plain-after Smart t q p k found suits opens each = record { at = λ j x got. tt }
plain-after Simple draws q p k found suits opens each = drawn-plain q.cells k p found opens.2 each
plain-after Simple reaches q p k found suits opens each = reached-plain q.cells found each
plain-after Simple begins q p k found suits opens each = reached-plain q.cells found each
plain-after Simple installs q p k found suits opens each =
    row-plain (row_of installs) q p k found opens tt each
plain-after Simple takes q p k found suits opens each =
    row-plain (row_of takes) q p k found opens tt each
plain-after Simple serves q p k found suits opens each =
    row-plain (row_of serves) q p k found opens tt each
plain-after Simple leaves q p k found suits opens each =
    row-plain (row_of leaves) q p k found opens tt each
plain-after Simple (looks pends) q p k found suits opens each =
    row-plain (row_of (looks pends)) q p k found opens tt each
plain-after Simple (looks grants) q p k found suits opens each =
    row-plain (row_of (looks grants)) q p k found opens tt each
plain-after Simple (looks late) q p k found suits opens each =
    row-plain (row_of (looks late)) q p k found opens tt each
plain-after Simple ends_missed q p k found suits opens each =
    row-plain (row_of ends_missed) q p k found opens tt each
plain-after Simple leaves_at_once q p k found suits opens each =
    row-plain (row_of leaves_at_once) q p k found opens tt each
plain-after Simple delegates q p k found suits opens each = absurd suits.0
plain-after Simple passes_over q p k found suits opens each = absurd suits
plain-after Simple ends_refused q p k found suits opens each = absurd suits
plain-after Simple starts_leaving q p k found suits opens each = absurd suits
plain-after Simple settles q p k found suits opens each = absurd suits
plain-after Simple settles_owing q p k found suits opens each = absurd suits
plain-after Simple refuses q p k found suits opens each = absurd suits
plain-after Simple refuses_value q p k found suits opens each = absurd suits
plain-after Simple puts q p k found suits opens each = absurd suits
plain-after Simple leaves_line q p k found suits opens each = absurd suits
plain-after Simple enters q p k found suits opens each = absurd (door-drawn suits)
plain-after Simple (in_sync e) q p k found suits opens each =
    absurd (suits-none (latch_manner Simple) refl e suits)

no-cell : (k : ℕ) (cell : CoreCell) → ◌≡◌ {A = Option CoreCell} (slice_get [] k) (Some cell) → ⊥
no-cell k cell got = cc

-- each of them keeps what the latch shows
steps-latch : (mode : CancelMode) (size : ℕ) (c : Hidden) (t : QueueStep) (p k : ℕ)
    (found : Option CoreCell) (has : Has) (payload : ℕ) (words : List ℕ) (log : List LatchEntry)
    → ShowsLatch mode size c words log → IsOpenStep c.queue t p k found
    → slice_get c.has p ≡ Some has → IsPayload (row_of t) has (c.payloads k) payload
    → Suits (latch_manner mode) t → c.queue.suspends < no_number
    → ShowsLatch mode size (hidden_after nothing_more c t p k found has payload) words
    (log ++ step_entries t p k)
steps-latch mode size c t p k found has payload words log shows opens there paid suits low =
    let s = latch_shown mode size c words log in
    let after : LatchShape = after_queue_step s t p k found in
    let drawn = row-drawn (row_of t) c.queue p k found in
    let passes = row-passes (row_of t) c.queue p k found in
    let few = shows.few_passes in
    record {
      core = subst (λ l. IsLatchCore (record after { owed = l }))
          (further-after (row_of t) c.has p payload has there)
          (step-core s t p k found shows.core (suiting mode t suits) opens
          (paid-by (row_of t) c.has p (c.payloads k) payload has there paid));
      two_words = shows.two_words;
      few_passes = omega arith;
      few_drawn = omega arith;
      none_held = none-held c.has p has (has_after nothing_more (row_of t) payload has) there
          (held-after (row_of t) payload has) shows.none_held;
      plain = plain-after mode t c.queue p k found suits opens shows.plain;
    }

-- What a latch opens with.
none-further : (passes : ℕ) → further_of (replicate passes (first_has 0)) ≡ replicate passes 0
none-further zero = refl
none-further (suc n) = ap (λ (l : List ℕ). 0 ∷ l) (none-further n)

first-further : (passes : ℕ) → 0 < passes
    → further_of (first_has 0 ∷ replicate (passes - 1) (first_has 0)) ≡ replicate passes 0
first-further zero any = absurd (omega arith)
first-further (suc n) any =
    let less : suc n - 1 ≡ n = omega arith in rw less (none-further (suc n))

first-held : (passes : ℕ) → EachAt HoldsNothing (first_has 0 ∷ replicate passes (first_has 0))
first-held passes = record { at = go }
  where
    go : (p : ℕ) (has : Has)
        → slice_get (first_has 0 ∷ replicate passes (first_has 0)) p ≡ Some has → has.held ≡ 0
    go p has got =
        let is : has ≡ first_has 0 = get-replicate (suc passes) p (first_has 0) has got in
        ap (λ (h : Has). h.held) is

-- the words that it opens with
opens-count : (size : ℕ) → count_in (state_word (pos size)) ≡ pos size
opens-count size = grind (arith, ints)

begins-latch : (mode : CancelMode) (size passes : ℕ) → 0 < passes → passes ≤ 32
    → ShowsLatch mode size (first_hidden passes 0 0)
    (four (state_word (pos size) ∷ waiters_word 0 (size == 0) ∷ [])) []
begins-latch mode size passes any few = record {
  core = subst (λ (z : List ℕ × ℤ × ℕ × Bool). IsLatchCore (record {
    simple = is_simple mode;
    size = size;
    count = z.1;
    word = z.2;
    done = z.3;
    owed = z.0;
    history = [];
    queue = (first_shape (is_simple mode) size passes).queue;
  }))
      (λ i. (
        sym (first-further passes any) i,
        sym (opens-count size) i,
        sym (waiters_in-word 0 (size == 0) (omega arith)) i,
        sym (is_done-word 0 (size == 0) (omega arith)) i,
      ))
      (opens-core (is_simple mode) size passes any);
  two_words = omega arith;
  few_passes = omega (arith, length-replicate passes doing.Idle);
  few_drawn = omega arith;
  none_held = first-held (passes - 1);
  plain = record { at = λ k cell got. absurd (no-cell k cell got) };
}

-- what one pass has in hand becomes another's: what each owes stays
hands-latch : (mode : CancelMode) (size : ℕ) (c : Hidden) (from to : ℕ) (mine theirs : Has)
    (words : List ℕ) (log : List LatchEntry)
    → ShowsLatch mode size c words log → from ≢ to → slice_get c.has from ≡ Some mine
    → slice_get c.has to ≡ Some theirs
    → ShowsLatch mode size (hands_over c from (has_none mine) to (has_both theirs mine)) words log
hands-latch mode size c from to mine theirs words log shows apart has there =
    let s = latch_shown mode size c words log in
    let gave : Has = has_none mine in
    let got : Has = has_both theirs mine in
    let still : slice_get (slice_set c.has from gave) to ≡ Some theirs =
    get-set_else c.has from to gave apart ∙ there in
    let none : mine.held ≡ 0 = shows.none_held.at from mine has in
    let same : further_of c.has ≡ further_of (slice_set (slice_set c.has from gave) to got) =
    further-kept c.has from mine gave has refl
    ∙ further-kept (slice_set c.has from gave) to theirs got still refl in
    record {
      core = subst (λ l. IsLatchCore (record s { owed = l })) same shows.core;
      two_words = shows.two_words;
      few_passes = shows.few_passes;
      few_drawn = shows.few_drawn;
      none_held = none-held (slice_set c.has from gave) to theirs got still (omega arith)
          (none-held c.has from mine gave has (sym none) shows.none_held);
      plain = shows.plain;
    }

-- a pass that holds nothing gives nothing of it away
shares-latch : (mode : CancelMode) (size : ℕ) (c : Hidden) (from to many : ℕ) (mine theirs : Has)
    (words : List ℕ) (log : List LatchEntry)
    → ShowsLatch mode size c words log → from ≢ to → slice_get c.has from ≡ Some mine
    → slice_get c.has to ≡ Some theirs → many ≤ mine.held
    → ShowsLatch mode size (hands_over c from (record mine { held = mine.held - many }) to
    (record theirs { held = theirs.held + many })) words log
shares-latch mode size c from to many mine theirs words log shows apart has there enough =
    let s = latch_shown mode size c words log in
    let gave : Has = record mine { held = mine.held - many } in
    let got : Has = record theirs { held = theirs.held + many } in
    let still : slice_get (slice_set c.has from gave) to ≡ Some theirs =
    get-set_else c.has from to gave apart ∙ there in
    let none : mine.held ≡ 0 = shows.none_held.at from mine has in
    let same : further_of c.has ≡ further_of (slice_set (slice_set c.has from gave) to got) =
    further-kept c.has from mine gave has refl
    ∙ further-kept (slice_set c.has from gave) to theirs got still refl in
    record {
      core = subst (λ l. IsLatchCore (record s { owed = l })) same shows.core;
      two_words = shows.two_words;
      few_passes = shows.few_passes;
      few_drawn = shows.few_drawn;
      none_held = none-held (slice_set c.has from gave) to theirs got still (omega arith)
          (none-held c.has from mine gave has (omega arith) shows.none_held);
      plain = shows.plain;
    }

-- a number is left for each resumption that a pass begins
begins-latch_few : (mode : CancelMode) (size : ℕ) (c : Hidden) (words : List ℕ)
    (log : List LatchEntry) (p : ℕ) (has : Has) (cost : Cost) (payload : ℕ)
    → ShowsLatch mode size c words log → slice_get c.queue.doing p ≡ Some doing.Idle
    → slice_get c.has p ≡ Some has → IsPaid cost has payload → IsBegun cost
    → Suits (latch_manner mode) (begun_by cost)
    → c.queue.resumes < c.queue.suspends + length (door c.queue)
begins-latch_few mode size c words log p has no_cost payload shows idle there paid begun suits =
    absurd begun
begins-latch_few mode size c words log p has one_owed payload shows idle there paid begun suits =
    core-begins_few (latch_shown mode size c words log) p shows.core idle
    (rw (further-is c.has p has there) paid.0)
begins-latch_few mode size c words log p has one_element payload shows idle there paid begun suits =
    absurd (no-element mode suits)
  where
    no-element : (mode : CancelMode) → Suits (latch_manner mode) puts → ⊥
    no-element Smart suits = suits
    no-element Simple suits = suits

its-mode : (mode : CancelMode) → mode ≡ mode_for (latch_manner mode).leaving
its-mode Simple = refl
its-mode Smart = refl

-- a latch of either mode
pub latch-client : {T : Type 0} (mode : CancelMode) (size : ℕ)
    → IsClient latch_object (latch_primitive {T = T} mode size)
latch-client mode size = record {
  mode = its-mode mode;
  sync = refl;
  begins = λ passes any few. begins-latch mode size passes any few;
  steps = λ c t p k found has payload words log handed shows opens there paid suits low low'.
      steps-latch mode size c t p k found has payload words log shows opens there paid suits low;
  counts = λ c p may words log handed shows. record {
    core = shows.core;
    two_words = shows.two_words;
    few_passes = shows.few_passes;
    few_drawn = shows.few_drawn;
    none_held = shows.none_held;
    plain = shows.plain;
  };
  hands = λ c from to mine theirs words log handed shows apart idle idle' has there.
      hands-latch mode size c from to mine theirs words log shows apart has there;
  shares = λ c from to many mine theirs words log handed shows apart idle idle' has there enough.
      shares-latch mode size c from to many mine theirs words log shows apart has there enough;
  silent = silent-step;
  quiet = record { drawing = λ p k payload. refl; passing = λ p k payload. refl };
  sound = λ c words log handed shows.
      either-sound c.queue (core-sound (latch_shown mode size c words log) shows.core);
  legal_shown = λ c words log handed shows. shows.core.legal;
  held_fits = λ c words log handed p has shows there.
      let none : has.held ≡ 0 = shows.none_held.at p has there in omega arith;
  reaches_few = λ c words log handed p shows owes.
      let few = core-reaches_few (latch_shown mode size c words log) p shows.core owes in
      omega arith;
  begins_few = λ c words log handed p has cost payload shows idle there paid begun suits.
      let few =
      begins-latch_few mode size c words log p has cost payload shows idle there paid begun suits in
      omega arith;
  slots = record {
    apart = λ c words log handed p q k mine theirs shown has there o o'. absurd o;
    steps = λ s has payload k suits kept o. absurd o;
    few = λ c words log handed p has shown there.
        let none : has.held ≡ 0 = shown.none_held.at p has there in omega arith;
    known = λ c words log handed p has shown there. tt;
    gathers = λ mine theirs k o. ⊎_elim (λ a. absurd a) (λ a. absurd a) o;
    gathered = λ mine theirs k o. absurd o;
    bare = λ has k o. absurd o;
    gives = λ s p k payload j suits. gives-never (latch_object.entries s p k payload) j
        ∙ sym (pays-none (latch_manner mode) (λ e. e) s payload j suits);
    hands_in = λ c words log handed k value shown. shown;
  };
}
