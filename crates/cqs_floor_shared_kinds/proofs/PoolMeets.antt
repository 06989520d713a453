-- Two passes of a pool that workers share meet, and how it stands once all have.
use Rattle.std.proofs.Common.{◌≡◌, ◌⊎◌, inl, inr, ℕ, zero, suc, ◌+◌, ◌≤◌, true, List, [], ◌∷◌, ◌++◌, drop, length, Some, vec_capacity, refl, ap, sym, ◌∙◌, subst, arith, length-append}
use Rattle.std.specs.Arc.{arc_value}
use Rattle.cqs_core.specs.Parts.{Has, part}
use Rattle.cqs_plan.specs.declared.plans.kind.Kind.{Kind}
use Rattle.cqs_plan.specs.declared.floors.answers.FloorEnd.TheVariants as end
use Rattle.cqs_plan.specs.Floor.{size_of}
use Rattle.cqs_plan.specs.FloorHistory.{ending, of_elements}
use Rattle.cqs_rule_laws.specs.CallRule.{IsReady}
use Rattle.cqs_pool.specs.Calls.{IsMine}
use Rattle.cqs_pool.specs.Pool.{HasEach}
use Rattle.cqs_pool_object.specs.declared.entries.PoolEntry.{PoolEntry}
use Rattle.cqs_pool_object.specs.PoolEntries.{IsLegal}
use Rattle.cqs_pool_object.specs.PoolNames.{entry_names}
use Rattle.cqs_rule_laws.specs.declared.view.Facts.{Facts}
use Rattle.cqs_rule_laws.specs.declared.view.Opening.{Opening}
use Rattle.cqs_rule_laws.specs.declared.view.View.{View}
use Rattle.cqs_rule_laws.specs.Lists.{IsDistinct}
use Rattle.cqs_rule.specs.Passes.{pass_view}
use Rattle.cqs_rule.specs.Seats.{HasMet}
use Rattle.cqs_floor_common.specs.declared.held.HeldElement.{HeldElement}
use Rattle.cqs_floor_common.specs.HeldElements.{elements_held, held_by}
use Rattle.cqs_floor_shared.specs.Entries.{is_nothing, own_history}
use Rattle.cqs_floor_shared_kinds.specs.declared.kinds.pool.SharedPool.{SharedPool}
use Rattle.cqs_floor_shared_kinds.specs.PoolAccounts.{IsAccounted}
use Rattle.cqs_floor_shared_kinds.specs.PoolShares.{AreInHand, share_pool}
use Rattle.cqs_floor_shared_kinds.specs.Shares.{IsLawful}
use Rattle.cqs_floor_shared_kinds.specs.ShareCalls.{CanMeet, CanTell, HoldNothing, Meets}
use Rattle.cqs_floor_shared_kinds.proofs.ElementsInHand.{hands-both, here-both, none-then}
use Rattle.cqs_floor_shared_kinds.proofs.Families.{name-same}
use Rattle.cqs_floor_shared_kinds.proofs.PoolAccounts.{account-both, rests}
use Rattle.cqs_floor_shared_kinds.proofs.PoolAnswers.{history-of}
use Rattle.cqs_floor_shared_kinds.proofs.PoolShares.{few-in-hand}
use Rattle.cqs_pool.specs.Pool.{pool_object}
use Rattle.cqs_rule_laws.proofs.Places.{goes-met}
use Rattle.cqs_floor_shared_kinds.proofs.Runs.{distinct-both, waits-next}

-- there is memory for what both hold
pub room-for-both : (x given : SharedPool) (w : View PoolEntry (Unit {0})) → CanMeet share_pool given x
    → w.opening ≡ (pass_view x.pass).opening → HasEach w.opening.size w.facts.has.slots
    → w.facts.has.slots ≡ (pass_view x.pass).facts.has.slots ++ (pass_view given.pass).facts.has.slots
    → length x.held.items + length given.held.items ≤ vec_capacity x.held
room-for-both x given w can opened each slots =
    let few = few-in-hand w.opening.size w.facts.has.slots each in
    let size = ap (λ (o : Opening). o.size) opened ∙ can.funded.rests.size_is in
    let long = ap (λ (l : List ℕ). length l) slots
    ∙ length-append (pass_view x.pass).facts.has.slots (pass_view given.pass).facts.has.slots in
    omega (arith, few, size, long, can.funded.space, can.funded.hands.many, can.given_funded.hands.many)

module _ (x given y : SharedPool) (same_one : y.pool ≡ x.pool) (mine : IsMine (arc_value x.pool) y.pass)
    (capacity : vec_capacity y.held ≡ vec_capacity x.held)
    (items : y.held.items ≡ x.held.items ++ given.held.items) (met : HasMet x.pass given.pass y.pass)
    (ready : IsReady (pass_view y.pass).facts)
    (slots : (pass_view y.pass).facts.has.slots
    ≡ (pass_view x.pass).facts.has.slots ++ (pass_view given.pass).facts.has.slots) where
  abbrev v : View PoolEntry (Unit {0})
  v = pass_view x.pass

  abbrev u : View PoolEntry (Unit {0})
  u = pass_view given.pass

  abbrev w : View PoolEntry (Unit {0})
  w = pass_view y.pass

  pub pool-meet : Meets share_pool given x y
  pool-meet a b funded theirs same_kind waitless all_seen family apart =
      let r = funded.rests in
      let t = theirs.rests in
      let all : w.own ≡ v.number ∷ (drop 1 v.own ++ u.own)
      = met.own_is ∙ ap (λ own. own ++ u.own) r.numbers in
      let others : drop 1 w.own ≡ drop 1 v.own ++ u.own = ap (λ (own : List ℕ). drop 1 own) all in
      let waits : w.facts.waits ≡ v.facts.waits = ap (λ (f : Facts). f.waits) met.facts_are in
      let long : length w.facts.has.slots ≡ length v.facts.has.slots + length u.facts.has.slots
      = ap (λ (l : List ℕ). length l) slots ∙ length-append v.facts.has.slots u.facts.has.slots in
      let account : IsAccounted (v.own ++ u.own) w.seen
      (length v.facts.has.slots + a.waiting + (length u.facts.has.slots + b.waiting))
      = account-both v.own u.own v.seen u.seen w.seen _ _ met.mine met.theirs r.account t.account in
      record {
        staying = met.prefix;
        coming = met.prefix_other;
        legal = history-of a.kind w.seen funded.sort
            (subst (λ n. IsLegal n w.seen) (ap (λ (o : Opening). o.size) met.opening ∙ r.size_is) mine.live.legal);
        mine = λ n has. ap of_elements (met.mine n (subst (Has n) (sym r.numbers) has));
        theirs = λ n has. ap of_elements (met.theirs n (subst (Has n) (sym t.numbers) has));
        number = met.number;
        met = others ∙ ap (λ own. drop 1 v.own ++ own) t.numbers;
        passes = met.passes;
        limit = met.limit;
        family = ap (λ name. name ∷ []) (name-same x.pass y.pass (mine.table ∙ sym funded.mine.table)
            met.passes met.limit met.cells met.opening);
        parties = λ round. refl;
        funded = record {
          sort = funded.sort;
          mine = subst (λ s. IsMine (arc_value s) y.pass) (sym same_one) mine;
          none_came = funded.none_came;
          rests = record {
            size_is = ap (λ (o : Opening). o.size) met.opening ∙ r.size_is;
            ready = ready;
            numbers = all ∙ ap (λ n. n ∷ (drop 1 v.own ++ u.own)) (sym met.number)
                ∙ ap (λ own. w.number ∷ own) (sym others);
            distinct = subst IsDistinct (sym met.own_is) (distinct-both v.own u.own r.distinct t.distinct
                (λ n one other. apart n (subst (Has n) r.numbers one) (subst (Has n) t.numbers other)));
            waits_are = ap (λ (l : List ℕ). length l) waits ∙ r.waits_are;
            account = subst (λ own. IsAccounted own w.seen (length w.facts.has.slots + a.waiting)) (sym met.own_is)
                (subst (λ n. IsAccounted (v.own ++ u.own) w.seen n) (omega (arith, long, waitless)) account);
          };
          here = λ job. ap (λ hs. elements_held job hs) items
              ∙ here-both a.held b.held x.held.items given.held.items funded.here theirs.here job;
          hands = subst (AreInHand y.held.items) (sym slots)
              (subst (λ hs. AreInHand hs (v.facts.has.slots ++ u.facts.has.slots)) (sym items)
              (hands-both x.held.items given.held.items v.facts.has.slots u.facts.has.slots funded.hands theirs.hands));
          space = subst (λ n. size_of (Some a.kind) ≤ n) (sym capacity) funded.space;
        };
        keeps = λ round wait has. (
          has.0,
          waits-next v w wait (goes-met pool_object _ _ _ _ _ _ met) has.1
              (subst (Has wait.index) (sym waits) has.1.open_yet),
        );
      }

-- a history of which nothing is a caller's own
no-part : (h : List PoolEntry) → is_nothing (of_elements h) ≡ true → h ≡ []
no-part [] nothing = refl
no-part (e ∷ h) nothing = absurd (cc)

some-nothing : (h : List PoolEntry) → h ≡ [] → is_nothing (of_elements h) ≡ true
some-nothing h none = ap (λ (l : List PoolEntry). is_nothing (of_elements l)) none

no-one-holds : (held : List (List ℕ)) → HoldNothing held → (job : ℕ) → held_by held job ≡ []
no-one-holds [] none job = refl
no-one-holds (es ∷ held) none zero = none.0
no-one-holds (es ∷ held) none (suc job) = no-one-holds held none.1 job

-- how it stands once all workers have met and nobody has anything of it
pub pool-end : (x : SharedPool) (k : Kind) (n : ℕ) → n ≡ size_of (Some k) → CanTell share_pool k x
    → end.Permits n 0 0 ≡ ending (size_of (Some k)) (of_elements (pass_view x.pass).seen)
pool-end x k n is can =
    let v = pass_view x.pass in
    let size = size_of (Some k) in
    let r = can.funded.rests in
    let sized : v.opening.size ≡ size = r.size_is ∙ ap (λ j. size_of (Some j)) can.kind_is in
    let empty : x.held.items ≡ []
    = none-then x.held.items (λ j. can.funded.here j ∙ no-one-holds can.a.held can.nothing j) in
    let long : length x.held.items ≡ 0 = ap (λ (hs : List HeldElement). length hs) empty in
    let many = can.funded.hands.many in
    let stands = rests size v.own v.seen (subst (λ m. IsLegal m v.seen) sized can.funded.mine.live.legal) r.distinct
    (λ m. known m (can.whole m))
    (subst (λ m. IsAccounted v.own v.seen m) (omega (arith, long, many, can.waitless)) r.account) in
    (λ i. end.Permits ((is ∙ sym stands.free) i) (sym stands.held i) (sym stands.line i))
  where
    known : (m : ℕ) → (is_nothing (own_history m (of_elements (pass_view x.pass).seen)) ≡ true)
        ⊎ Has m ((pass_view x.pass).number ∷ drop 1 (pass_view x.pass).own)
        → (part entry_names m (pass_view x.pass).seen ≡ []) ⊎ Has m (pass_view x.pass).own
    known m (inl nothing) = inl (no-part _ nothing)
    known m (inr has) = inr (subst (Has m) (sym can.funded.rests.numbers) has)

-- what every call relies on of such a resource
pub pool-lawful : IsLawful share_pool
pool-lawful = record {
  legal = λ x a funded. history-of a.kind _ funded.sort
      (subst (λ n. IsLegal n (pass_view x.pass).seen) funded.rests.size_is funded.mine.live.legal);
  unnamed = λ x a funded n many. some-nothing _ (funded.mine.live.unnamed n many);
  held = λ x a funded. absurd (omega (arith, funded.none_came));
  found = λ x a job funded there. absurd (omega (arith, funded.none_came));
}
