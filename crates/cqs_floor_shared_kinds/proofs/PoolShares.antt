-- A pool that workers share is a resource as a floor needs it: each call by what it left of the pass.
use Rattle.std.proofs.Common.{◌≡◌, ℕ, zero, suc, ◌+◌, ◌<◌, ◌≤◌, false, List, [], ◌∷◌, ◌++◌, drop, length, slice_get, slice_index_or, sum_by, vec_capacity, Some, None, refl, ap, sym, ◌∙◌, subst, arith}
use Rattle.std.specs.Bool.{if◌then◌else◌}
use Rattle.std.specs.Arc.{arc_value}
use Rattle.std.proofs.lemmas.Bool.{false≢true}
use Rattle.std.proofs.lemmas.List.{length_push}
use Rattle.cqs_core.specs.Keyed as keyed
use Rattle.cqs_core.specs.Numbered.{IsIn}
use Rattle.cqs_core.specs.Parts.{Has, part}
use Rattle.cqs_plan.specs.declared.floors.answers.FloorTake.TheVariants as take
use Rattle.cqs_plan.specs.declared.floors.answers.FloorLook.TheVariants as look
use Rattle.cqs_plan.specs.declared.floors.answers.FloorLeave.TheVariants as leave
use Rattle.cqs_plan.specs.Floor.{size_of}
use Rattle.cqs_plan.specs.FloorHistory.{of_elements}
use Rattle.cqs_plan.specs.Language.{can_hold}
use Rattle.cqs_pool.specs.declared.element.Element.{Element}
use Rattle.cqs_rule_laws.specs.CallRule.{IsReady}
use Rattle.cqs_pool.specs.Calls.{CallRule, IsMine, Rests}
use Rattle.cqs_pool.specs.declared.answers.Placed.TheVariants as placed
use Rattle.cqs_pool.specs.Answers.{Ends, HandsBack, IsWorn}
use Rattle.cqs_pool.specs.Elements.{number_of, wait_of}
use Rattle.cqs_pool.specs.Pool.{HasEach, pool_object}
use Rattle.cqs_pool_object.specs.declared.entries.PoolEntry.{PoolEntry}
use Rattle.cqs_pool_object.specs.declared.entries.PoolEntry.TheVariants as entry
use Rattle.cqs_pool_object.specs.PoolEntries.{IsLegal}
use Rattle.cqs_pool_object.specs.PoolNames.{entry_names}
use Rattle.cqs_rule_laws.specs.declared.config.Place.{Place}
use Rattle.cqs_rule.specs.declared.queue.tokens.Under as token
use Rattle.cqs_rule.specs.declared.queue.tokens.Wait.{Wait}
use Rattle.cqs_rule_laws.specs.declared.view.Facts.{Facts}
use Rattle.cqs_rule_laws.specs.declared.view.Opening.{Opening}
use Rattle.cqs_rule_laws.specs.declared.view.View.{View}
use Rattle.cqs_rule_laws.specs.Lists.{IsDistinct, without}
use Rattle.cqs_rule.specs.Passes.{pass_view}
use Rattle.cqs_rule.specs.Waits.{HasWait, place_of}
use Rattle.cqs_rule_laws.proofs.Lists.{few_below, has_left, length_without, without_has}
use Rattle.cqs_floor_common.specs.declared.held.HeldElement.{HeldElement}
use Rattle.cqs_floor_common.specs.HeldElements.{elements_held, held_by}
use Rattle.cqs_floor_common.proofs.HeldElements.{held-less, held-more}
use Rattle.cqs_floor_shared.specs.declared.shared.SharedGive.{SharedGive}
use Rattle.cqs_floor_shared.specs.declared.shared.SharedGive.TheVariants as shared
use Rattle.cqs_floor_shared.specs.Calls.{TellsGive}
use Rattle.cqs_floor_shared.specs.Entries.{at_elements}
use Rattle.cqs_floor_shared_kinds.specs.declared.kinds.pool.Arrived.{Arrived}
use Rattle.cqs_floor_shared_kinds.specs.declared.kinds.pool.Arrived.TheVariants.{Sent, Left}
use Rattle.cqs_floor_shared_kinds.specs.declared.kinds.pool.SharedPool.{SharedPool}
use Rattle.cqs_floor_shared_kinds.specs.declared.resource.Came.TheVariants as came
use Rattle.cqs_floor_shared_kinds.specs.PoolAccounts.{IsAccounted, gains, losses}
use Rattle.cqs_floor_shared_kinds.specs.PoolRuns.{IsPool, TellsArrived, as_give}
use Rattle.cqs_floor_shared_kinds.specs.PoolShares.{AreInHand, IsFunded, IsResting, share_pool}
use Rattle.cqs_floor_shared_kinds.specs.Runs.{Stays, Went}
use Rattle.cqs_floor_shared_kinds.specs.Shares.{Funds, KeepsAll, KeepsOthers, Sees, with_less, with_more, with_wait}
use Rattle.cqs_floor_shared_kinds.specs.ShareCalls.{Gives, Leaves, Looks, Takes, oldest}
use Rattle.cqs_floor_shared_kinds.proofs.ElementsInHand.{first-in-hand, hands-less, hands-more}
use Rattle.cqs_floor_shared_kinds.proofs.ElementsServed.{left-unserved}
use Rattle.cqs_floor_shared_kinds.proofs.Families.{name-same}
use Rattle.cqs_floor_shared_kinds.proofs.PoolAccounts.{account-next}
use Rattle.cqs_floor_shared_kinds.proofs.Runs.{last-in, none-more, not-before, some-number, taken-element, waits-next, waits-token, went-call, went-silent, went-then}
use Rattle.cqs_floor_shared_kinds.proofs.PoolAnswers.{brought-is, come-is, drawn-same, drew-none, drew-one, drew-waits, give-is, history-of, its-element, leave-is, look-is, parties-is, turned-is}

-- what a pass has in hand is no more than there are elements
pub few-in-hand : (size : ℕ) (slots : List ℕ) → HasEach size slots → length slots ≤ size
few-in-hand size slots each = few_below size slots each.once each.low

-- a call in which the pass has no entry of its own
pub silent : (v w : View PoolEntry (Unit {0})) (further : List PoolEntry) → CallRule v [] further w
    → Went pool_object v [] w
silent v w further rule = went-silent pool_object v w further rule.called rule.legal rule.mine rule.nobody

there-of : (held : List (List ℕ)) (job : ℕ) → 0 < length (held_by held job) → job < length held
there-of [] job some = absurd (omega (arith, some))
there-of (es ∷ held) zero some = omega arith
there-of (es ∷ held) (suc job) some = omega (arith, there-of held job some)

oldest-of : (es : List ℕ) (e : ℕ) → slice_get es 0 ≡ Some e → e ≡ slice_index_or es 0 0
oldest-of [] e first = absurd (cc)
oldest-of (x ∷ es) e first = some-number e x (sym first)

-- a pass's elements leave room for one more before they are one more
pub room-for : (x : SharedPool) (a : Funds) (w : View PoolEntry (Unit {0})) (e : ℕ) → IsFunded x a
    → w.opening ≡ (pass_view x.pass).opening → HasEach w.opening.size w.facts.has.slots
    → w.facts.has.slots ≡ e ∷ (pass_view x.pass).facts.has.slots → length x.held.items < vec_capacity x.held
room-for x a w e funded opened each slots =
    let few = few-in-hand w.opening.size w.facts.has.slots each in
    let long = ap (λ (l : List ℕ). length l) slots in
    let size = ap (λ (o : Opening). o.size) opened ∙ funded.rests.size_is in
    omega (arith, few, long, size, funded.space, funded.hands.many)

-- the same for what a wait brings
pub room-for-wait : (x : SharedPool) (a : Funds) (w : View PoolEntry (Unit {0})) (e : ℕ) → IsFunded x (with_wait a)
    → w.opening ≡ (pass_view x.pass).opening → HasEach w.opening.size w.facts.has.slots
    → w.facts.has.slots ≡ e ∷ (pass_view x.pass).facts.has.slots → length x.held.items < vec_capacity x.held
room-for-wait x a w e funded opened each slots = room-for x (with_wait a) w e funded opened each slots

module _ (x y : SharedPool) (same_one : y.pool ≡ x.pool) (mine : IsMine (arc_value x.pool) y.pass)
    (capacity : vec_capacity y.held ≡ vec_capacity x.held) where
  abbrev v : View PoolEntry (Unit {0})
  v = pass_view x.pass

  abbrev w : View PoolEntry (Unit {0})
  w = pass_view y.pass

  -- what the pass has seen more
  pub pool-see : (a : Funds) (entries : List PoolEntry) → IsFunded x a → Went pool_object v entries w
      → Sees share_pool a.kind x (at_elements entries) y
  pool-see a entries funded went = record {
    more = at_elements went.more;
    words = tt;
    seen = ap of_elements went.seen;
    mine = ap at_elements went.mine;
    others = λ n has. ap at_elements (went.others n has);
    unnamed = λ n many.
        ap at_elements (none-more entry_names n v.seen went.more
        (ap (part entry_names n) (sym went.seen)
        ∙ mine.live.unnamed n (subst (λ p. p ≤ n) (sym went.same.passes) many)));
    legal = history-of a.kind w.seen funded.sort
        (subst (λ n. IsLegal n w.seen) (ap (λ (o : Opening). o.size) went.same.opening ∙ funded.rests.size_is)
        went.legal);
    same = record {
      number = went.same.number;
      met = ap (λ (own : List ℕ). drop 1 own) went.same.own;
      passes = went.same.passes;
      limit = went.same.limit;
      family = ap (λ name. name ∷ []) (name-same x.pass y.pass (mine.table ∙ sym funded.mine.table)
          went.same.passes went.same.limit went.same.cells went.same.opening);
    };
  }

  -- what the jobs have then
  pub pool-have : (a b : Funds) (entries : List PoolEntry) (slots waits : List ℕ) → IsFunded x a
      → Went pool_object v entries w → Rests v slots waits w → b.kind ≡ a.kind → b.came ≡ 0
      → ((job : ℕ) → elements_held job y.held.items ≡ held_by b.held job) → AreInHand y.held.items slots
      → length waits ≡ b.waiting
      → sum_by gains entries + (length v.facts.has.slots + a.waiting) ≡ sum_by losses entries +
      (length slots + b.waiting)
      → IsFunded y b
  pool-have a b entries slots waits funded went rests same_kind none_came here hands waits_are balance =
      let r = funded.rests in
      let before : IsAccounted (v.number ∷ drop 1 v.own) v.seen (length v.facts.has.slots + a.waiting)
      = subst (λ own. IsAccounted own v.seen (length v.facts.has.slots + a.waiting)) r.numbers r.account in
      let after = account-next v.number (drop 1 v.own) v.seen went.more entries (length v.facts.has.slots + a.waiting)
      (length slots + b.waiting) went.mine went.others balance before in
      record {
        sort = subst IsPool (sym same_kind) funded.sort;
        mine = subst (λ s. IsMine (arc_value s) y.pass) (sym same_one) mine;
        none_came = none_came;
        rests = record {
          size_is = ap (λ (o : Opening). o.size) went.same.opening ∙ r.size_is
              ∙ ap (λ k. size_of (Some k)) (sym same_kind);
          ready = rests.ready;
          numbers = went.same.own ∙ r.numbers
              ∙ ap (λ n. n ∷ drop 1 v.own) (sym went.same.number)
              ∙ ap (λ (own : List ℕ). w.number ∷ drop 1 own) (sym went.same.own);
          distinct = subst IsDistinct (sym went.same.own) r.distinct;
          waits_are = ap (λ (l : List ℕ). length l) rests.waits_are ∙ waits_are;
          account = subst (λ (l : List ℕ). IsAccounted w.own w.seen (length l + b.waiting)) (sym rests.elements_are)
              (subst (λ own. IsAccounted own w.seen (length slots + b.waiting)) (sym r.numbers ∙ sym went.same.own)
              (subst (λ h. IsAccounted (v.number ∷ drop 1 v.own) h (length slots + b.waiting)) (sym went.seen) after));
        };
        here = here;
        hands = subst (AreInHand y.held.items) (sym rests.elements_are) hands;
        space = subst (λ n. n ≤ vec_capacity y.held) (ap (λ k. size_of (Some k)) (sym same_kind))
            (subst (λ n. size_of (Some a.kind) ≤ n) (sym capacity) funded.space);
      }

  -- the waits that the pass has on
  pub keeps-all : Stays v w → (slots waits : List ℕ) → Rests v slots waits w
      → ((k : ℕ) → Has k v.facts.waits → Has k waits)
      → KeepsAll share_pool x y
  keeps-all same slots waits rests on round wait has = (
    has.0,
    waits-next v w wait same.goes has.1 (subst (Has wait.index) (sym rests.waits_are)
        (on wait.index has.1.open_yet)),
  )

  keeps-others : Stays v w → (k : ℕ) (slots : List ℕ) → Rests v slots (without k v.facts.waits) w
      → KeepsOthers share_pool x 0 k y
  keeps-others same k slots rests round wait other has = (
    has.0,
    waits-next v w wait same.goes has.1 (subst (Has wait.index) (sym rests.waits_are)
        (without_has wait.index k v.facts.waits (other has.0) has.1.open_yet)),
  )

  -- a call of the pool
  called : (own further : List PoolEntry) (size waiting : ℕ) → IsResting v size waiting
      → CallRule v own further w → Went pool_object v own w
  called own further size waiting r rule =
      went-call pool_object v w own further r.numbers r.distinct rule.called rule.legal rule.mine rule.only rule.nobody

  -- A take, of an element that was there.
  pub pool-takes : (job : ℕ) (element : Element)
      → y.held.items ≡ x.held.items ++ record { job = job; element = element } ∷ []
      → CallRule v (entry.Enter v.number (wait_of element) ∷ [])
      (entry.Deliver (wait_of element) (number_of element) ∷ []) w
      → Rests v (number_of element ∷ v.facts.has.slots) v.facts.waits w
      → Takes share_pool job x (came.Now (number_of element)) y
  pool-takes job element items rule rests a funded holdable there =
      let e = number_of element in
      let k = wait_of element in
      let new : HeldElement = record { job = job; element = element } in
      let r = funded.rests in
      let went = called (entry.Enter v.number k ∷ []) (entry.Deliver k e ∷ []) _ _ r rule in
      record {
        drew = Some k;
        sees = subst (λ es. Sees share_pool a.kind x es y)
            (sym (come-is a.kind 0 v.number (take.Now e) (Some k) funded.sort))
            (pool-see a _ funded went);
        funded = pool-have a (with_more a job e) _ _ _ funded went rests refl funded.none_came
            (λ j. ap (elements_held j) items ∙ held-more a.held x.held.items new there funded.here j)
            (subst (λ hs. AreInHand hs (e ∷ v.facts.has.slots)) (sym items)
            (hands-more x.held.items new v.facts.has.slots funded.hands))
            r.waits_are (omega arith);
        parties_are = refl;
        keeps = keeps-all went.same _ _ rests (λ j has. has);
        delivered = λ j with_it is. absurd (false≢true with_it);
        may = tt;
        element = its-element a.kind e funded.sort;
        drawn = drew-one a.kind (Some (take.Now e)) k funded.sort;
        had = λ j f drew is. subst (λ n. IsIn (entry.Deliver n f) w.seen) (some-number k j drew)
            (subst (λ n. IsIn (entry.Deliver k n) w.seen) (taken-element e f is)
            (last-in w.seen rule.called.before (entry.Deliver k e) rule.called.ends));
        worn = λ none. absurd (cc);
      }

  -- Of none, yet.
  module _ (items_same : y.held.items ≡ x.held.items) where
    here-same : (a : Funds) → IsFunded x a → (j : ℕ) → elements_held j y.held.items ≡ held_by a.held j
    here-same a funded j = ap (elements_held j) items_same ∙ funded.here j

    hands-same : (a : Funds) → IsFunded x a → AreInHand y.held.items v.facts.has.slots
    hands-same a funded = subst (λ hs. AreInHand hs v.facts.has.slots) (sym items_same) funded.hands

    pub pool-takes_wait : (job : ℕ) (wait : Wait) (place : Place) → place ≡ place_of wait
        → CallRule v (entry.Enter v.number (place_of wait).index ∷ []) [] w → HasWait w wait
        → Rests v v.facts.has.slots (v.facts.waits ++ (place_of wait).index ∷ []) w
        → Takes share_pool job x (came.Waits place) y
    pool-takes_wait job wait place is rule has_new rests =
        subst (λ at. Takes share_pool job x (came.Waits at) y) (sym is) (λ a funded holdable there.
        let k = (place_of wait).index in
        let r = funded.rests in
        let went = called (entry.Enter v.number k ∷ []) [] _ _ r rule in (
          record {
            drew = None;
            sees = subst (λ es. Sees share_pool a.kind x es y)
                (sym (come-is a.kind 0 v.number (take.Waits k) None funded.sort))
                (pool-see a _ funded went);
            funded = pool-have a (with_wait a) _ _ _ funded went rests refl funded.none_came (here-same a funded)
                (hands-same a funded) (length_push v.facts.waits k ∙ ap (λ n. n + 1) r.waits_are) (omega arith);
            parties_are = refl;
            keeps = keeps-all went.same _ _ rests (λ j has. has_left j v.facts.waits (k ∷ []) has);
            delivered = λ j with_it is. absurd (false≢true with_it);
            may = tt;
            element = tt;
            drawn = drew-waits a.kind k funded.sort;
            had = λ j e none. absurd (cc);
            worn = λ none. absurd (cc);
          },
          record {
            has = (refl, waits-token w wait has_new);
            fresh = λ u has same. not-before k v.facts.waits
                (subst (λ ws. length (without k ws) + 1 ≡ length ws) rests.waits_are
                (y.pass.inside.once k has_new.open_yet))
                (subst (λ n. Has n v.facts.waits) same has.1.open_yet);
          },
        ))

    pub pool-takes_none : (job : ℕ) → CallRule v [] [] w → IsWorn v w → IsReady w.facts
        → Takes share_pool job x came.Worn y
    pool-takes_none job rule worn ready a funded holdable there =
        let r = funded.rests in
        let went = called [] [] _ _ r rule in
        let rests : Rests v v.facts.has.slots v.facts.waits w
        = record {
          ready = ready;
          elements_are = ap (λ (f : Facts). f.has.slots) worn.facts_are;
          waits_are = ap (λ (f : Facts). f.waits) worn.facts_are;
        } in
        record {
          drew = None;
          sees = subst (λ es. Sees share_pool a.kind x es y) (sym (turned-is a.kind 0 v.number funded.sort))
              (pool-see a _ funded went);
          funded = pool-have a a _ _ _ funded went rests refl funded.none_came (here-same a funded)
              (hands-same a funded)
              r.waits_are refl;
          parties_are = refl;
          keeps = keeps-all went.same _ _ rests (λ k has. has);
          delivered = λ k with_it is. absurd (false≢true with_it);
          may = tt;
          element = tt;
          drawn = drew-none a.kind funded.sort;
          had = λ k e none. absurd (cc);
          worn = λ none. subst (λ n. v.limit ≤ n) (sym worn.counted.drawn ∙ drawn-same w.seen) worn.worn;
        }

  -- A give of the oldest that the job holds.
  module _ (job e : ℕ) (first : slice_get (elements_held job x.held.items) 0 ≡ Some e)
      (items : y.held.items ≡ keyed.without (λ h. h.job) job x.held.items) where
    gives-back : (answer : SharedGive)
        → ((size waiting : ℕ) → IsResting v size waiting → Went pool_object v (entry.Put v.number e ∷ []) w)
        → Rests v (without e v.facts.has.slots) v.facts.waits w → TellsGive e answer (of_elements w.seen)
        → Gives share_pool job x answer y
    gives-back answer goes rests tells a funded holdable some =
        let r = funded.rests in
        let went = goes _ _ r in
        let there = there-of a.held job some in
        let is : e ≡ oldest a job = oldest-of (held_by a.held job) e
        (sym (ap (λ es. slice_get es 0) (funded.here job)) ∙ first) in
        let known : HasEach v.opening.size v.facts.has.slots = funded.mine.live.known in
        let has = first-in-hand job e x.held.items v.facts.has.slots funded.hands first in
        let fewer = length_without e v.facts.has.slots known.once has in
        record {
          sees = subst (λ es. Sees share_pool a.kind x es y)
              (sym (give-is a.kind v.number (oldest a job) answer funded.sort
              ∙ ap (λ n. at_elements (entry.Put v.number n ∷ [])) (sym is))) (pool-see a _ funded went);
          tells = subst (λ n. TellsGive n answer (of_elements w.seen)) is tells;
          funded = pool-have a (with_less a job) _ _ _ funded went rests refl funded.none_came
              (λ j. ap (elements_held j) items ∙ held-less a.held x.held.items job there funded.here j)
              (subst (λ hs. AreInHand hs (without e v.facts.has.slots)) (sym items)
              (hands-less job e x.held.items v.facts.has.slots known.once funded.hands first))
              r.waits_are (omega (arith, fewer));
          parties_are = refl;
          keeps = keeps-all went.same _ _ rests (λ k has. has);
        }

    pub pool-sends : (k : ℕ) → CallRule v (entry.Put v.number e ∷ []) (entry.Deliver k e ∷ []) w
        → Rests v (without e v.facts.has.slots) v.facts.waits w → Gives share_pool job x (shared.Sent e k) y
    pool-sends k rule rests =
        gives-back (shared.Sent e k) (λ size waiting r. called _ (entry.Deliver k e ∷ []) size waiting r rule) rests
        (refl, (rule.called.before, rule.called.ends))

    pub pool-leaves_it : (k : ℕ) → CallRule v (entry.Put v.number e ∷ []) [] w
        → Ends v e (without e v.facts.has.slots) v.facts.waits (placed.Left k) w
        → Gives share_pool job x (shared.Left e k) y
    pool-leaves_it k rule ends =
        gives-back (shared.Left e k) (λ size waiting r. called _ [] size waiting r rule) ends.1
        (refl, left-unserved k w ends.0)

    -- one that was handed back, and finished then
    module _ (under : token.Under) (u : View PoolEntry (Unit {0})) (rule : CallRule v (entry.Put v.number e ∷ []) [] u)
        (back : HandsBack v e under (without e v.facts.has.slots) v.facts.waits u) (after : Went pool_object u [] w)
        (rests : Rests u u.facts.has.slots u.facts.waits w) where
      in-all : (size waiting : ℕ) → IsResting v size waiting → Went pool_object v (entry.Put v.number e ∷ []) w
      in-all size waiting r =
          went-then pool_object v u w (entry.Put v.number e ∷ []) []
          (went-call pool_object v u
          (entry.Put v.number e ∷ []) [] r.numbers r.distinct rule.called rule.legal rule.mine
          rule.only rule.nobody) after

      rests-all : Rests v (without e v.facts.has.slots) v.facts.waits w
      rests-all = record {
        ready = rests.ready;
        elements_are = rests.elements_are ∙ back.elements_are;
        waits_are = rests.waits_are ∙ back.waits_are;
      }

      pub pool-gives_late : (arrived : Arrived) → TellsArrived e arrived w.seen
          → Gives share_pool job x (as_give e arrived) y
      pool-gives_late (Sent k) delivered = gives-back (shared.Sent e k) in-all rests-all (refl, delivered)
      pool-gives_late (Left k) unserved = gives-back (shared.Left e k) in-all rests-all (refl, unserved)

  -- The end of a wait, at a place of which there is a token.
  module _ (round : ℕ) (wait : Wait) (at : Place) (is : place_of wait ≡ at) (no_round : round ≡ 0)
      (there_yet : Has at.index v.facts.waits) where
    abbrev k : ℕ
    k = (place_of wait).index

    has_yet : Has k v.facts.waits
    has_yet = subst (λ (p : Place). Has p.index v.facts.waits) (sym is) there_yet

    -- one wait less is in the pass
    fewer : (a : Funds) → IsFunded x (with_wait a) → length (without k v.facts.waits) ≡ a.waiting
    fewer a funded =
        let one = x.pass.inside.once k has_yet in omega (arith, one, funded.rests.waits_are)

    others-on : Stays v w → (slots : List ℕ) → Rests v slots (without k v.facts.waits) w
        → KeepsOthers share_pool x round k y
    others-on same slots rests =
        subst (λ r. KeepsOthers share_pool x r k y) (sym no_round) (keeps-others same k slots rests)

    pub pool-looks : y.held.items ≡ x.held.items → (job : ℕ) → CallRule v (entry.LookPending v.number k ∷ []) [] w
        → Rests v v.facts.has.slots v.facts.waits w → Looks share_pool job x round at look.Pending y
    pool-looks items job rule rests =
        subst (λ p. Looks share_pool job x round p look.Pending y) is (λ a funded there.
        let r = funded.rests in
        let went = called (entry.LookPending v.number k ∷ []) [] _ _ r rule in
        record {
          sees = subst (λ es. Sees share_pool a.kind x es y)
              (sym (look-is a.kind round v.number k look.Pending funded.sort)) (pool-see (with_wait a) _ funded went);
          funded = pool-have (with_wait a) (with_wait a) _ _ _ funded went rests refl funded.none_came
              (here-same items (with_wait a) funded) (hands-same items (with_wait a) funded) r.waits_are refl;
          parties_are = refl;
          keeps = keeps-all went.same _ _ rests (λ j has. has);
        })

    -- what came is the job's newest
    module _ (job : ℕ) (element : Element)
        (items : y.held.items ≡ x.held.items ++ record { job = job; element = element } ∷ [])
        (rests : Rests v (number_of element ∷ v.facts.has.slots) (without k v.facts.waits) w) where
      abbrev new : HeldElement
      new = record { job = job; element = element }

      brought : (a : Funds) (e : PoolEntry) → IsFunded x (with_wait a) → job < length a.held
          → Went pool_object v (e ∷ []) w → sum_by gains (e ∷ []) ≡ 0 → sum_by losses (e ∷ []) ≡ 0
          → IsFunded y (if can_hold a.kind then with_more a job (number_of element) else a)
      brought a e funded there went none none' =
          subst (IsFunded y) (sym (brought-is a.kind a job (number_of element) funded.sort))
          (pool-have (with_wait a) (with_more a job (number_of element)) _ _ _ funded went rests refl funded.none_came
          (λ j. ap (elements_held j) items ∙ held-more a.held x.held.items new there funded.here j)
          (subst (λ hs. AreInHand hs (number_of element ∷ v.facts.has.slots)) (sym items)
          (hands-more x.held.items new v.facts.has.slots funded.hands))
          (fewer a funded) (omega (arith, none, none')))

      pub pool-granted : CallRule v (entry.LookGranted v.number k (number_of element) ∷ []) [] w
          → Looks share_pool job x round at (look.Granted (number_of element)) y
      pool-granted rule =
          subst (λ p. Looks share_pool job x round p (look.Granted (number_of element)) y) is (λ a funded there.
          let went = called (entry.LookGranted v.number k (number_of element) ∷ []) [] _ _ funded.rests rule in
          record {
            sees = subst (λ es. Sees share_pool a.kind x es y)
                (sym (look-is a.kind round v.number k (look.Granted (number_of element)) funded.sort))
                (pool-see (with_wait a) _ funded went);
            funded = brought a _ funded there went refl refl;
            found = its-element a.kind (number_of element) funded.sort;
            parties_are = refl;
            keeps = others-on went.same _ rests;
          })

      pub pool-late : CallRule v (entry.Late v.number k (number_of element) ∷ []) [] w
          → Leaves share_pool job x round at (leave.Late (number_of element)) y
      pool-late rule =
          subst (λ p. Leaves share_pool job x round p (leave.Late (number_of element)) y) is (λ a funded there.
          let went = called (entry.Late v.number k (number_of element) ∷ []) [] _ _ funded.rests rule in
          record {
            stays = false;
            sees = subst (λ es. Sees share_pool a.kind x es y)
                (sym (leave-is a.kind round v.number k (leave.Late (number_of element)) false funded.sort))
                (pool-see (with_wait a) _ funded went);
            funded = brought a _ funded there went refl refl;
            found = its-element a.kind (number_of element) funded.sort;
            parties_are = parties-is a.kind round (leave.Late (number_of element)) funded.sort;
            keeps = others-on went.same _ rests;
          })

    -- a cancel after which nothing is owed any more
    leaves-gone : y.held.items ≡ x.held.items → (job : ℕ)
        → ((size waiting : ℕ) → IsResting v size waiting → Went pool_object v (entry.Leave v.number k ∷ []) w)
        → Rests v v.facts.has.slots (without k v.facts.waits) w
        → Leaves share_pool job x round at leave.Gone y
    leaves-gone items job goes rests =
        subst (λ p. Leaves share_pool job x round p leave.Gone y) is (λ a funded there.
        let went = goes _ _ funded.rests in
        record {
          stays = false;
          sees = subst (λ es. Sees share_pool a.kind x es y)
              (sym (leave-is a.kind round v.number k leave.Gone false funded.sort))
              (pool-see (with_wait a) _ funded went);
          funded = pool-have (with_wait a) a _ _ _ funded went rests refl funded.none_came
              (here-same items (with_wait a) funded) (hands-same items (with_wait a) funded) (fewer a funded)
              (omega arith);
          found = tt;
          parties_are = parties-is a.kind round leave.Gone funded.sort;
          keeps = others-on went.same _ rests;
        })

    pub pool-gone : y.held.items ≡ x.held.items → (job : ℕ) (further : List PoolEntry)
        → CallRule v (entry.Leave v.number k ∷ []) further w → Rests v v.facts.has.slots (without k v.facts.waits) w
        → Leaves share_pool job x round at leave.Gone y
    pool-gone items job further rule rests =
        leaves-gone items job (λ size waiting r. called (entry.Leave v.number k ∷ []) further size waiting r rule) rests

    -- one after which a resumption was owed, and finished then
    pub pool-gone_late : y.held.items ≡ x.held.items → (job : ℕ) (further : List PoolEntry)
        (u : View PoolEntry (Unit {0}))
        → CallRule v (entry.Leave v.number k ∷ []) further u → u.facts.has.slots ≡ v.facts.has.slots
        → u.facts.waits ≡ without k v.facts.waits → Went pool_object u [] w
        → Rests u u.facts.has.slots u.facts.waits w → Leaves share_pool job x round at leave.Gone y
    pool-gone_late items job further u rule slots waits after rests =
        leaves-gone items job
        (λ size waiting r. went-then pool_object v u w (entry.Leave v.number k ∷ []) []
        (went-call pool_object v u (entry.Leave v.number k ∷ []) further r.numbers r.distinct rule.called rule.legal
        rule.mine rule.only rule.nobody) after)
        (record {
          ready = rests.ready;
          elements_are = rests.elements_are ∙ slots;
          waits_are = rests.waits_are ∙ waits;
        })
