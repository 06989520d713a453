-- The pool is a client: each step of the queue that suits it keeps the pool that its table shows,
-- by the law of the pool. This file is a proof: nothing of it has to be read to know what is
-- promised, and nothing in it is taken on trust.
use Rattle.std.proofs.Common.{◌≡◌, ◌≢◌, ◌⊎◌, inl, inr, ⊎_elim, ℕ, zero, suc, ◌+◌, ◌-◌, ◌<◌, ◌≤◌, List, [], ◌∷◌, ◌++◌, replicate, refl, ap, sym, ◌∙◌, subst, arith, Option, Some, slice_get, lt-ltb, ne_eqb, length, length-set, get_or, set, if◌then◌else◌}
use Rattle.std.specs.List.{sum_by}
use Rattle.std.proofs.lemmas.Option.{get_or_from_slice_get}
use Rattle.std.proofs.lemmas.List.Sums.{get_or-le-sum_by, sum_by-set}
use Rattle.std.specs.Prelude.{slice_set}
use mathlib.Core.Logic.{dite}
use native.Mathlib.Decide.{ℕ_discrete}
use Rattle.cqs_core.specs.declared.cells.CoreCell.{CoreCell}
use Rattle.cqs_core.specs.declared.cells.CoreState.TheVariants as state
use Rattle.cqs_core.specs.declared.doings.Doing.TheVariants as doing
use Rattle.cqs_core.specs.Numbered.{IsIn, EachAt}
use Rattle.cqs_core.specs.QueueOpening.{value_cell}
use Rattle.cqs_core.specs.QueueSteps.{QueueStep, draws, enters, reaches, begins, puts, installs, takes, serves, leaves, delegates, passes_over, ends_refused, ends_missed, starts_leaving, leaves_line, leaves_at_once, settles, settles_owing, refuses, refuses_value, looks, pends, grants, late, in_sync, leaves_watched, sees_value, sees_taken, breaks, takes_watched, finds_broken, row_of, StepRow, at_counter, at_cell, Gain, nothing, its_own, a_debt, Cost, no_cost, one_owed, one_element, IsOpenStep, payload_told}
use Rattle.cqs_core.proofs.EachAtLemmas.{EachAt-write}
use Rattle.cqs_core.proofs.EitherQueues.{either-sound}
use Rattle.cqs_core.proofs.Places.{get-below, get-set_else}
use Rattle.cqs_core.proofs.QueueOpens.{get-replicate}
use Rattle.cqs_pool_object.specs.declared.entries.PoolEntry.{PoolEntry}
use Rattle.cqs_pool_object.specs.PoolEntries.{less, object_after}
use Rattle.cqs_pool_object.specs.PoolLaws.{opening_shape, handed_over}
use Rattle.cqs_pool_object.specs.PoolNames.{entry_names}
use Rattle.cqs_pool_object.specs.PoolObject.{times}
use Rattle.cqs_pool_object.specs.PoolOrder.{IsInOrder}
use Rattle.cqs_pool_object.specs.PoolShown.{PoolShape, IsPool, held_times}
use Rattle.cqs_pool_object.specs.PoolSteps.{IsPoolStep, IsPaid, IsPayload, step_entries, hold_of, shape_after}
use Rattle.cqs_pool_object.proofs.PoolConserved.{conserved-after}
use Rattle.cqs_pool_object.proofs.PoolOpens.{opened-pool, handed-pool, numbers-left}
use Rattle.cqs_pool_object.proofs.PoolOrder.{step-in_order, opened-in_order}
use Rattle.cqs_pool_object.proofs.PoolSteps.{step-pool}
use Rattle.cqs_rule_laws.specs.declared.view.Has.{Has}
use Rattle.cqs_rule_laws.specs.Client as client
use Rattle.cqs_rule_laws.specs.Client.{IsClient, IsBegun, begun_by, gives_away}
use Rattle.cqs_rule_laws.specs.Given.{times_given}
use Rattle.cqs_rule_laws.specs.Hidden.{Hidden, hidden_after, has_after, has_gained, has_paid, has_both, has_none, hands_over}
use Rattle.cqs_rule_laws.specs.Lists as lists
use Rattle.cqs_rule_laws.specs.Lists.{NamesOnly}
use Rattle.cqs_rule_laws.specs.Manner.{Suits}
use Rattle.cqs_rule_laws.specs.Opened.{first_hidden, first_payload}
use Rattle.cqs_rule_laws.specs.Views.{first_has}
use Rattle.cqs_rule_laws.proofs.Lists.{has_left, has_right, has_append, without_has}
use Rattle.cqs_rule.proofs.PlainQueues.{suits-none}
use Rattle.cqs_pool.specs.Pool.{loads_of, holds_of, pool_shown, ShowsPool, in_hand, slot_given, pool_manner, pool_object, pool_primitive}
use Rattle.cqs_pool.specs.PoolUnrefused.{MakesNone, unrefused-row}
use Rattle.cqs_pool.specs.PoolInHand.{elements-held, has-in, has-times, hold-at, hold-is, hold-kept, hold-set, holds-after, load-is, load-kept, loads-after, once-held}

silent-step : (s : QueueStep) (p k payload : ℕ)
    → NamesOnly entry_names p (step_entries s p k payload)
silent-step draws p k payload n apart = rw (ne_eqb p n (λ q. apart (sym q))) refl
silent-step enters p k payload n apart = rw (ne_eqb p n (λ q. apart (sym q))) refl
silent-step reaches p k payload n apart = refl
silent-step begins p k payload n apart = refl
silent-step puts p k payload n apart = rw (ne_eqb p n (λ q. apart (sym q))) refl
silent-step installs p k payload n apart = refl
silent-step takes p k payload n apart = refl
silent-step serves p k payload n apart = refl
silent-step leaves p k payload n apart = refl
silent-step delegates p k payload n apart = refl
silent-step passes_over p k payload n apart = refl
silent-step ends_refused p k payload n apart = refl
silent-step ends_missed p k payload n apart = refl
silent-step starts_leaving p k payload n apart = refl
silent-step leaves_line p k payload n apart = rw (ne_eqb p n (λ q. apart (sym q))) refl
silent-step leaves_at_once p k payload n apart = refl
silent-step settles p k payload n apart = refl
silent-step settles_owing p k payload n apart = refl
silent-step refuses p k payload n apart = refl
silent-step refuses_value p k payload n apart = refl
silent-step (looks pends) p k payload n apart = rw (ne_eqb p n (λ q. apart (sym q))) refl
silent-step (looks grants) p k payload n apart = rw (ne_eqb p n (λ q. apart (sym q))) refl
silent-step (looks late) p k payload n apart = rw (ne_eqb p n (λ q. apart (sym q))) refl
silent-step (in_sync e) p k payload n apart = refl

-- a put alone gives a value slot away, that of its element
step-given : (s : QueueStep) (p k payload j : ℕ)
    → times_given slot_given (step_entries s p k payload) j ≡ gives_away (row_of s) payload j
step-given draws p k payload j = refl
step-given enters p k payload j = refl
step-given reaches p k payload j = refl
step-given begins p k payload j = refl
step-given puts p k payload j = omega arith
step-given installs p k payload j = refl
step-given takes p k payload j = refl
step-given serves p k payload j = refl
step-given leaves p k payload j = refl
step-given delegates p k payload j = refl
step-given passes_over p k payload j = refl
step-given ends_refused p k payload j = refl
step-given ends_missed p k payload j = refl
step-given starts_leaving p k payload j = refl
step-given leaves_line p k payload j = refl
step-given leaves_at_once p k payload j = refl
step-given settles p k payload j = refl
step-given settles_owing p k payload j = refl
step-given refuses p k payload j = refl
step-given refuses_value p k payload j = refl
step-given (looks pends) p k payload j = refl
step-given (looks grants) p k payload j = refl
step-given (looks late) p k payload j = refl
step-given (in_sync leaves_watched) p k payload j = refl
step-given (in_sync sees_value) p k payload j = refl
step-given (in_sync sees_taken) p k payload j = refl
step-given (in_sync breaks) p k payload j = refl
step-given (in_sync takes_watched) p k payload j = refl
step-given (in_sync finds_broken) p k payload j = refl

none-made : (t : QueueStep) → Suits pool_manner t → MakesNone (row_of t)
none-made draws suits = tt
none-made enters suits = tt
none-made reaches suits = tt
none-made begins suits = tt
none-made puts suits = tt
none-made installs suits = λ e. absurd (cc)
none-made takes suits = λ e. absurd (cc)
none-made serves suits = λ e. absurd (cc)
none-made leaves suits = λ e. absurd (cc)
none-made delegates suits = λ e. absurd (cc)
none-made passes_over suits = λ e. absurd (cc)
none-made ends_refused suits = λ e. absurd (cc)
none-made ends_missed suits = λ e. absurd (cc)
none-made starts_leaving suits = λ e. absurd (cc)
none-made leaves_line suits = λ e. absurd (cc)
none-made leaves_at_once suits = λ e. absurd (cc)
none-made settles suits = λ e. absurd (cc)
none-made settles_owing suits = λ e. absurd (cc)
none-made refuses suits = absurd suits
none-made refuses_value suits = absurd suits
none-made (looks pends) suits = λ e. absurd (cc)
none-made (looks grants) suits = λ e. absurd (cc)
none-made (looks late) suits = λ e. absurd (cc)
none-made (in_sync e) suits = absurd (suits-none pool_manner refl e suits)

-- the steps that suit a pool are those that keep it
suiting : (t : QueueStep) → Suits pool_manner t → IsPoolStep t
suiting draws suits = tt
suiting enters suits = tt
suiting reaches suits = tt
suiting begins suits = suits
suiting puts suits = tt
suiting installs suits = tt
suiting takes suits = tt
suiting serves suits = tt
suiting leaves suits = tt
suiting delegates suits = tt
suiting passes_over suits = tt
suiting ends_refused suits = tt
suiting ends_missed suits = suits
suiting starts_leaving suits = suits
suiting leaves_line suits = tt
suiting leaves_at_once suits = suits
suiting settles suits = tt
suiting settles_owing suits = tt
suiting refuses suits = suits
suiting refuses_value suits = suits
suiting (looks e) suits = tt
suiting (in_sync e) suits = suits-none pool_manner refl e suits

-- the payload that the rule tells is the pool's
paid-so : (row : StepRow) (size : ℕ) (c : Hidden) (log : List PoolEntry) (p k payload : ℕ)
    (has : Has) → slice_get c.has p ≡ Some has
    → client.IsPayload row has (c.payloads k) payload
    → IsPayload row (pool_shown size c log) p k payload
paid-so (at_counter row) size c log p k payload has there paid = go row.cost paid
  where
    go : (cost : Cost) → client.IsPaid cost has payload
        → IsPaid cost (pool_shown size c log) p payload
    go no_cost is = is ∙ sym (load-is c.has p has there)
    go one_owed is = is.1 ∙ sym (load-is c.has p has there)
    go one_element is =
        subst (λ xs. IsIn payload xs) (sym (hold-is c.has p has there))
        (has-in payload has.slots is)
paid-so (at_cell row) size c log p k payload has there paid =
    paid ∙ ap (payload_told row.gain (c.payloads k)) (sym (load-is c.has p has there))

-- no pass counts anything
abbrev Uncounted : List Has → Type 0
Uncounted l = EachAt (λ p (h : Has). h.held ≡ 0) l

uncounted-set : (l : List Has) (p : ℕ) (has h : Has) → slice_get l p ≡ Some has → h.held ≡ 0
    → Uncounted l → Uncounted (slice_set l p h)
uncounted-set l p has h there none all =
    EachAt-write (λ j (x : Has). x.held ≡ 0) (λ j (x : Has). x.held ≡ 0) l p has h there none
    (λ k x got other is. is) all

uncounted-after : (row : StepRow) (l : List Has) (p payload : ℕ) (has : Has)
    → slice_get l p ≡ Some has → Uncounted l
    → Uncounted (slice_set l p (has_after in_hand row payload has))
uncounted-after row l p payload has there none =
    uncounted-set l p has (has_after in_hand row payload has) there
    (kept row (none.at p has there)) none
  where
    paid : (cost : Cost) → has.held ≡ 0 → (has_paid cost payload has).held ≡ 0
    paid no_cost is = is
    paid one_owed is = is
    paid one_element is = is

    gained : (gain : Gain) → has.held ≡ 0 → (has_gained in_hand gain payload has).held ≡ 0
    gained nothing is = is
    gained its_own is = is
    gained a_debt is = is

    kept : (row : StepRow) → has.held ≡ 0 → (has_after in_hand row payload has).held ≡ 0
    kept (at_counter row) is = paid row.cost is
    kept (at_cell row) is = gained row.gain is

-- each step of the queue that suits a pool keeps it
steps-pool : (size : ℕ) (c : Hidden) (t : QueueStep) (p k : ℕ) (found : Option CoreCell)
    (has : Has) (payload : ℕ) (log : List PoolEntry)
    → ShowsPool size c log → IsOpenStep c.queue t p k found → slice_get c.has p ≡ Some has
    → client.IsPayload (row_of t) has (c.payloads k) payload → Suits pool_manner t
    → ShowsPool size (hidden_after in_hand c t p k found has payload)
    (log ++ step_entries t p k payload)
steps-pool size c t p k found has payload log shows opens there paid suits =
    let s : PoolShape = pool_shown size c log in
    let holds = holds_of c.has in
    let at : p < length s.holds = get-below holds p has.slots (hold-at c.has p has there) in
    let once : times payload has.slots ≤ 1 =
    subst (λ xs. times payload xs ≤ 1) (hold-is c.has p has there)
    (once-held s p payload shows.is_pool at) in
    let after : PoolShape = shape_after s t p k found payload in
    record {
      is_pool = subst (λ (z : List ℕ × List (List ℕ)).
          IsPool (record after { loads = z.0; holds = z.1 }))
          (λ i. (
            loads-after (row_of t) c.has p payload has there i,
            holds-after (row_of t) c.has p payload has there once i,
          ))
          (step-pool s t p k found payload shows.is_pool (suiting t suits) opens
          (paid-so (row_of t) size c log p k payload has there paid));
      in_order = subst (λ (l : List ℕ). IsInOrder (record after { loads = l }))
          (loads-after (row_of t) c.has p payload has there)
          (step-in_order s t p k found payload shows.is_pool shows.in_order (suiting t suits) opens
          (paid-so (row_of t) size c log p k payload has there paid));
      uncounted = uncounted-after (row_of t) c.has p payload has there shows.uncounted;
      unrefused =
          unrefused-row (row_of t) c.queue p k found (none-made t suits) opens shows.unrefused;
    }

-- a pool as its table opens
first-loads : (passes : ℕ) → loads_of (replicate passes (first_has 0)) ≡ replicate passes 0
first-loads zero = refl
first-loads (suc n) = ap (λ (l : List ℕ). 0 ∷ l) (first-loads n)

first-holds : (passes : ℕ) → holds_of (replicate passes (first_has 0)) ≡ replicate passes []
first-holds zero = refl
first-holds (suc n) = ap (λ (l : List (List ℕ)). [] ∷ l) (first-holds n)

first-all : (passes : ℕ) → 0 < passes
    → first_has 0 ∷ replicate (passes - 1) (first_has 0) ≡ replicate passes (first_has 0)
first-all zero any = absurd (omega arith)
first-all (suc n) any = let less : suc n - 1 ≡ n = omega arith in rw less refl

value-not : state.Value ≡ state.Refused → ⊥
value-not e = absurd (cc)

begins-pool : (size passes : ℕ) → 0 < passes → ShowsPool size (first_hidden passes size 0) []
begins-pool size passes any =
    let all = first-all passes any in
    let own : (k : ℕ) → k < size → first_payload size k ≡ k =
    λ k low. ap (λ b. if b then k else 0) (lt-ltb k size low) in
    record {
      is_pool = subst (λ (z : List ℕ × List (List ℕ)). IsPool (record
          (opening_shape size passes (first_payload size)) { loads = z.0; holds = z.1 }))
          (λ i. (
            (sym (first-loads passes) ∙ ap loads_of (sym all)) i,
            (sym (first-holds passes) ∙ ap holds_of (sym all)) i,
          ))
          (opened-pool size passes (first_payload size) own);
      in_order = subst (λ (l : List ℕ). IsInOrder (record
          (opening_shape size passes (first_payload size)) { loads = l }))
          (sym (first-loads passes) ∙ ap loads_of (sym all))
          (opened-in_order size passes (first_payload size) own);
      uncounted = subst Uncounted (sym all)
          (record {
            at = λ p h got.
                ap (λ (x : Has). x.held) (get-replicate passes p (first_has 0) h got);
          });
      unrefused = record {
        at = λ k c got. subst (λ (x : CoreCell). x.state ≢ state.Refused)
            (sym (get-replicate size k value_cell c got)) (λ e. value-not e);
      };
    }

-- what one idle pass has in hand becomes another's
hands-pool : (size : ℕ) (c : Hidden) (from to : ℕ) (mine theirs : Has) (log : List PoolEntry)
    → ShowsPool size c log → from ≢ to
    → slice_get c.queue.doing from ≡ Some doing.Idle
    → slice_get c.queue.doing to ≡ Some doing.Idle
    → slice_get c.has from ≡ Some mine → slice_get c.has to ≡ Some theirs
    → ShowsPool size (hands_over c from (has_none mine) to (has_both theirs mine)) log
hands-pool size c from to mine theirs log shows apart idle idle' has there =
    let s : PoolShape = pool_shown size c log in
    let gave : Has = has_none mine in
    let got : Has = has_both theirs mine in
    let rest : List Has = slice_set c.has from gave in
    let stays : slice_get rest to ≡ Some theirs = get-set_else c.has from to gave apart ∙ there in
    let loads : s.loads ≡ loads_of (slice_set rest to got) =
    load-kept c.has from mine gave has refl ∙ load-kept rest to theirs got stays refl in
    let had : hold_of s.holds to ++ hold_of s.holds from ≡ theirs.slots ++ mine.slots =
    (λ i. hold-is c.has to theirs there i ++ hold-is c.has from mine has i) in
    let holds : handed_over s.holds from to ≡ holds_of (slice_set rest to got) =
    (λ i. set (set s.holds from []) to (had i))
    ∙ (ap (λ (l : List (List ℕ)). set l to (theirs.slots ++ mine.slots))
    (hold-set c.has from gave [] refl)
    ∙ hold-set rest to got (theirs.slots ++ mine.slots) refl) in
    let none = shows.uncounted in
    let counts : got.held ≡ 0 = omega (arith, none.at from mine has, none.at to theirs there) in
    record {
      is_pool = subst (λ (z : List ℕ × List (List ℕ)).
          IsPool (record s { loads = z.0; holds = z.1 }))
          (λ i. (loads i, holds i)) (handed-pool s from to shows.is_pool apart idle idle');
      in_order = subst (λ (l : List ℕ). IsInOrder (record s { loads = l })) loads shows.in_order;
      uncounted = uncounted-set rest to theirs got stays counts
          (uncounted-set c.has from mine gave has refl none);
      unrefused = shows.unrefused;
    }

-- a pass that counts nothing gives nothing of it away
shares-pool : (size : ℕ) (c : Hidden) (from to many : ℕ) (mine theirs : Has) (log : List PoolEntry)
    → ShowsPool size c log → from ≢ to
    → slice_get c.has from ≡ Some mine → slice_get c.has to ≡ Some theirs → many ≤ mine.held
    → ShowsPool size (hands_over c from (record mine { held = mine.held - many }) to
    (record theirs { held = theirs.held + many })) log
shares-pool size c from to many mine theirs log shows apart has there enough =
    let s : PoolShape = pool_shown size c log in
    let gave : Has = record mine { held = mine.held - many } in
    let got : Has = record theirs { held = theirs.held + many } in
    let rest : List Has = slice_set c.has from gave in
    let stays : slice_get rest to ≡ Some theirs = get-set_else c.has from to gave apart ∙ there in
    let loads : s.loads ≡ loads_of (slice_set rest to got) =
    load-kept c.has from mine gave has refl ∙ load-kept rest to theirs got stays refl in
    let holds : s.holds ≡ holds_of (slice_set rest to got) =
    hold-kept c.has from mine gave has refl ∙ hold-kept rest to theirs got stays refl in
    let none = shows.uncounted in
    let gives : gave.held ≡ 0 = omega (arith, none.at from mine has) in
    let gets : got.held ≡ 0 = omega (arith, none.at from mine has, none.at to theirs there) in
    record {
      is_pool = subst (λ (z : List ℕ × List (List ℕ)).
          IsPool (record s { loads = z.0; holds = z.1 }))
          (λ i. (loads i, holds i)) shows.is_pool;
      in_order = subst (λ (l : List ℕ). IsInOrder (record s { loads = l })) loads shows.in_order;
      uncounted = uncounted-set rest to theirs got stays gets
          (uncounted-set c.has from mine gave has gives none);
      unrefused = shows.unrefused;
    }

-- each element is in one hand at most
all-held : (s : PoolShape) (e : ℕ) → IsPool s → sum_by (times e) s.holds ≤ 1
all-held s e is =
    let kept = conserved-after s.size s.history is.legal in
    go (times e (object_after s.size s.history).held) (kept.each e) (kept.others e)
    (is.shows.held e)
  where
    go : (n : ℕ)
        → (e < s.size → times e (object_after s.size s.history).way + n ≡ 1)
        → (s.size ≤ e → times e (object_after s.size s.history).way + n ≡ 0)
        → n ≡ held_times e s.queue s.payloads s.holds
        → sum_by (times e) s.holds ≤ 1
    go n each others held = grind arith

-- and so its slot is one pass's
one-hand : (size : ℕ) (c : Hidden) (log : List PoolEntry) (p q e : ℕ) (mine theirs : Has)
    → ShowsPool size c log
    → slice_get c.has p ≡ Some mine → slice_get c.has q ≡ Some theirs
    → lists.Has e mine.slots → lists.Has e theirs.slots → p ≡ q
one-hand size c log p q e mine theirs shows here there some some' = dite (ℕ_discrete p q)
    (λ (same : p ≡ q). same)
    (λ (apart : p ≢ q).
    let holds = holds_of c.has in
    let none = set holds p [] in
    let at = hold-at c.has p mine here in
    let at' = hold-at c.has q theirs there in
    let low : p < length holds = get-below holds p mine.slots at in
    let low' : q < length holds = get-below holds q theirs.slots at' in
    let long = length-set holds p [] in
    let is : times e (get_or holds p []) ≡ times e mine.slots =
    ap (times e) (get_or_from_slice_get holds p mine.slots [] at) in
    let other : times e (get_or none q []) ≡ times e theirs.slots =
    ap (times e)
    (get_or_from_slice_get none q theirs.slots [] (get-set_else holds p q [] apart ∙ at')) in
    let less = sum_by-set (times e) holds p [] [] low in
    let one = get_or-le-sum_by (times e) none q [] (omega arith) in
    let once = all-held (pool_shown size c log) e shows.is_pool in
    let first = has-times e mine.slots some in
    let second = has-times e theirs.slots some' in
    absurd (omega arith))

-- a pass keeps the slot of each element that it has in hand, but for one that it puts
hand-kept : (row : StepRow) (has : Has) (payload k : ℕ) → client.KeepsSlot row payload k
    → lists.Has k has.slots → lists.Has k (has_after in_hand row payload has).slots
hand-kept (at_counter row) has payload k = paid row.cost
  where
    paid : (cost : Cost) → client.KeepsSlotAt cost payload k → lists.Has k has.slots
        → lists.Has k (has_paid cost payload has).slots
    paid no_cost kept mine = mine
    paid one_owed kept mine = mine
    paid one_element kept mine = without_has k payload has.slots kept mine
hand-kept (at_cell row) has payload k = λ kept. gained row.gain
  where
    gained : (gain : Gain) → lists.Has k has.slots
        → lists.Has k (has_gained in_hand gain payload has).slots
    gained nothing mine = mine
    gained its_own mine = inr mine
    gained a_debt mine = mine

-- a resumption that an idle pass begins is a put
begun-put : (cost : Cost) (has : Has) (payload : ℕ) → IsBegun cost
    → Suits pool_manner (begun_by cost)
    → client.IsPaid cost has payload → lists.Has payload has.slots
begun-put no_cost has payload begun suits paid = absurd begun
begun-put one_owed has payload begun suits paid = absurd suits
begun-put one_element has payload begun suits paid = paid

pub pool-client : {T : Type 0} (size : ℕ) → IsClient pool_object (pool_primitive {T = T} size)
pool-client size = record {
  mode = refl;
  sync = refl;
  begins = λ passes any few. begins-pool size passes any;
  steps = λ c t p k found has payload words log handed shows opens there paid suits low low'.
      steps-pool size c t p k found has payload log shows opens there paid suits;
  counts = λ c p may words log handed shows. record {
    is_pool = shows.is_pool;
    in_order = shows.in_order;
    uncounted = shows.uncounted;
    unrefused = shows.unrefused;
  };
  hands = λ c from to mine theirs words log handed shows apart idle idle' has there.
      hands-pool size c from to mine theirs log shows apart idle idle' has there;
  shares = λ c from to many mine theirs words log handed shows apart idle idle' has there enough.
      shares-pool size c from to many mine theirs log shows apart has there enough;
  silent = silent-step;
  quiet = record { drawing = λ p k payload. refl; passing = λ p k payload. refl };
  sound = λ c words log handed shows. either-sound c.queue shows.is_pool.sound;
  legal_shown = λ c words log handed shows. shows.is_pool.legal;
  held_fits = λ c words log handed p has shows there.
      let none = shows.uncounted.at p has there in omega arith;
  reaches_few = λ c words log handed p shows owes.
      numbers-left (pool_shown size c log) p 0 shows.is_pool (inl owes);
  begins_few = λ c words log handed p has cost payload shows idle there paid begun suits.
      numbers-left (pool_shown size c log) p payload shows.is_pool
      (inr (
        idle,
        subst (λ xs. IsIn payload xs) (sym (hold-is c.has p has there))
            (has-in payload has.slots (begun-put cost has payload begun suits paid)),
      ));
  slots = record {
    apart = λ c words log handed p q k mine theirs shows has there o o'.
        one-hand size c log p q k mine theirs shows has there o o';
    steps = λ s has payload k suits kept o. hand-kept (row_of s) has payload k kept o;
    few = λ c words log handed p has shows there.
        let none = shows.uncounted.at p has there in omega arith;
    known = λ c words log handed p has shows there. elements-held size c log p has shows there;
    gathers = λ mine theirs k o. ⊎_elim (λ a. has_left k mine.slots theirs.slots a)
        (λ b. has_right k mine.slots theirs.slots b) o;
    gives = λ s p k payload j suits. step-given s p k payload j;
    gathered = λ mine theirs k o. has_append k mine.slots theirs.slots o;
    bare = λ has k o. absurd o;
    hands_in = λ c words log handed k value shows. shows;
  };
}
