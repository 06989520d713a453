-- Two passes of a semaphore that workers share meet, and how it stands once all have.
use Rattle.std.proofs.Common.{◌≡◌, ◌⊎◌, inl, inr, ℕ, ◌+◌, true, List, [], ◌∷◌, ◌++◌, drop, length, Some, refl, ap, sym, ◌∙◌, subst, arith, length-append}
use Rattle.std.specs.Arc.{arc_value}
use Rattle.std.proofs.lemmas.List.Sums.{sum_by-cons}
use Rattle.cqs_core.specs.declared.entries.Entry.{Entry}
use Rattle.cqs_core.specs.Parts.{Has, part}
use Rattle.cqs_core.specs.SemaphoreNames.{entry_names}
use Rattle.cqs_plan.specs.declared.plans.kind.Kind.{Kind}
use Rattle.cqs_plan.specs.declared.plans.kind.Kind.TheVariants as kind
use Rattle.cqs_plan.specs.declared.floors.answers.FloorEnd.TheVariants as end
use Rattle.cqs_plan.specs.Floor.{size_of}
use Rattle.cqs_plan.specs.FloorHistory.{ending, of_permits}
use Rattle.cqs_plan.specs.Language.{can_hold}
use Rattle.cqs_rule_laws.specs.declared.view.Facts.{Facts}
use Rattle.cqs_rule_laws.specs.declared.view.Opening.{Opening}
use Rattle.cqs_rule_laws.specs.declared.view.View.{View}
use Rattle.cqs_rule_laws.specs.Lists.{IsDistinct}
use Rattle.cqs_rule.specs.Passes.{pass_view}
use Rattle.cqs_rule.specs.Seats.{HasMet}
use Rattle.cqs_rule_laws.specs.CallRule.{IsReady}
use Rattle.cqs_semaphore_client.specs.PlainHistories.{IsPlainHistory}
use Rattle.cqs_semaphore.proofs.PlainPasses.{opens-alike, plain-seen}
use Rattle.cqs_semaphore.specs.Calls.{IsMine}
use Rattle.cqs_floor_shared.specs.Entries.{is_nothing, own_history}
use Rattle.cqs_floor_shared_kinds.specs.declared.kinds.permits.SharedPermits.{SharedPermits}
use Rattle.cqs_floor_shared_kinds.specs.Families.{queue_name}
use Rattle.cqs_floor_shared_kinds.specs.PermitAccounts.{IsAccounted}
use Rattle.cqs_floor_shared_kinds.specs.PermitRuns.{IsOfPermits}
use Rattle.cqs_floor_shared_kinds.specs.Shares.{IsLawful, join_held, with_more}
use Rattle.cqs_floor_shared_kinds.specs.ShareCalls.{CanTell, HoldNothing, Meets}
use Rattle.cqs_floor_shared_kinds.specs.PermitShares.{ArePermits, HoldPermits, IsFunded, share_permits, total}
use Rattle.cqs_floor_shared_kinds.proofs.Families.{name-same, name-tells}
use Rattle.cqs_floor_shared_kinds.proofs.PermitAccounts.{account-both, rests}
use Rattle.cqs_semaphore_client.specs.Semaphore.{semaphore_object}
use Rattle.cqs_rule_laws.proofs.Places.{goes-met}
use Rattle.cqs_floor_shared_kinds.proofs.Runs.{distinct-both, waits-next}
use Rattle.cqs_floor_shared_kinds.proofs.PermitAnswers.{brought-is, history-of}
use Rattle.cqs_floor_shared_kinds.proofs.HeldPermits.{more-total, permits-more}

-- passes with one name for their queue are of one semaphore
pub mine-by-name : (x given : SharedPermits) → queue_name given.pass ≡ queue_name x.pass
    → IsMine (arc_value x.semaphore) x.pass → IsMine (arc_value given.semaphore) given.pass
    → IsMine (arc_value x.semaphore) given.pass
mine-by-name x given named mine theirs =
    let told = name-tells x.pass given.pass named in
    record {
      table = told.4 ∙ mine.table;
      slots = mine.slots;
      passes = told.0 ∙ mine.passes;
      limit = told.1 ∙ mine.limit;
      cells = told.2 ∙ mine.cells;
      mode = mine.mode;
      ample = mine.ample;
      live = theirs.live;
      opening = theirs.opening ∙ opens-alike (arc_value given.semaphore) (arc_value x.semaphore)
          (sym (ap (λ (o : Opening). o.size) theirs.opening)
          ∙ (told.3 ∙ ap (λ (o : Opening). o.size) mine.opening));
      looks = mine.looks;
      alone = theirs.alone;
    }

-- what the jobs of both hold
permits-both : (es fs : List ℕ) → ArePermits es → ArePermits fs → ArePermits (es ++ fs)
permits-both [] fs mine theirs = theirs
permits-both (e ∷ es) fs mine theirs = (mine.0, permits-both es fs mine.1 theirs)

hold-both : (held theirs : List (List ℕ)) → HoldPermits held → HoldPermits theirs → HoldPermits (join_held held theirs)
hold-both [] theirs a b = b
hold-both (es ∷ held) [] a b = a
hold-both (es ∷ held) (fs ∷ theirs) a b = (permits-both es fs a.0 b.0, hold-both held theirs a.1 b.1)

total-both : (held theirs : List (List ℕ)) → total (join_held held theirs) ≡ total held + total theirs
total-both [] theirs = omega arith
total-both (es ∷ held) [] = omega arith
total-both (es ∷ held) (fs ∷ theirs) =
    omega (
      arith,
      total-both held theirs,
      length-append es fs,
      sum_by-cons (λ (xs : List ℕ). length xs) (es ++ fs) (join_held held theirs),
      sum_by-cons (λ (xs : List ℕ). length xs) es held,
      sum_by-cons (λ (xs : List ℕ). length xs) fs theirs,
    )

total-nothing : (held : List (List ℕ)) → HoldNothing held → total held ≡ 0
total-nothing [] none = refl
total-nothing (es ∷ held) none =
    let zero = ap (λ (xs : List ℕ). length xs) none.0 in
    omega (arith, zero, total-nothing held none.1, sum_by-cons (λ (xs : List ℕ). length xs) es held)

module _ (x given y : SharedPermits) (same_one : y.semaphore ≡ x.semaphore)
    (mine : IsMine (arc_value x.semaphore) y.pass) (met : HasMet x.pass given.pass y.pass)
    (ready : IsReady (pass_view y.pass).facts)
    (held : (pass_view y.pass).facts.has.held
    ≡ (pass_view x.pass).facts.has.held + (pass_view given.pass).facts.has.held) where
  abbrev v : View Entry (Unit {0})
  v = pass_view x.pass

  abbrev u : View Entry (Unit {0})
  u = pass_view given.pass

  abbrev w : View Entry (Unit {0})
  w = pass_view y.pass

  pub permits-meet : Meets share_permits given x y
  permits-meet a b funded theirs same_kind waitless all_seen family apart =
      let r = funded.rests in
      let t = theirs.rests in
      let all : w.own ≡ v.number ∷ (drop 1 v.own ++ u.own)
      = met.own_is ∙ ap (λ own. own ++ u.own) r.numbers in
      let others : drop 1 w.own ≡ drop 1 v.own ++ u.own = ap (λ (own : List ℕ). drop 1 own) all in
      let waits : w.facts.waits ≡ v.facts.waits = ap (λ (f : Facts). f.waits) met.facts_are in
      let both = total-both a.held b.held in
      let account : IsAccounted (v.own ++ u.own) w.seen
      (total a.held + a.came + a.waiting + (total b.held + b.came + b.waiting))
      = account-both v.own u.own v.seen u.seen w.seen _ _ met.mine met.theirs r.account t.account in
      record {
        staying = met.prefix;
        coming = met.prefix_other;
        legal = history-of a.kind w.seen funded.sort
            (subst (λ n. IsPlainHistory n w.seen) (ap (λ (o : Opening). o.size) met.opening ∙ r.size_is)
            (plain-seen (arc_value x.semaphore) mine (λ s. refl) mine.live.legal));
        mine = λ n has. ap of_permits (met.mine n (subst (Has n) (sym r.numbers) has));
        theirs = λ n has. ap of_permits (met.theirs n (subst (Has n) (sym t.numbers) has));
        number = met.number;
        met = others ∙ ap (λ own. drop 1 v.own ++ own) t.numbers;
        passes = met.passes;
        limit = met.limit;
        family = ap (λ name. name ∷ []) (name-same x.pass y.pass
            (mine.table ∙ sym funded.mine.table)
            met.passes met.limit met.cells met.opening);
        parties = λ round. refl;
        funded = record {
          sort = funded.sort;
          mine = subst (λ s. IsMine (arc_value s) y.pass) (sym same_one) mine;
          permits = hold-both a.held b.held funded.permits theirs.permits;
          rests = record {
            size_is = ap (λ (o : Opening). o.size) met.opening ∙ r.size_is;
            ready = ready;
            numbers = all ∙ ap (λ n. n ∷ (drop 1 v.own ++ u.own)) (sym met.number)
                ∙ ap (λ own. w.number ∷ own) (sym others);
            distinct = subst IsDistinct (sym met.own_is) (distinct-both v.own u.own r.distinct t.distinct
                (λ n one other. apart n (subst (Has n) r.numbers one) (subst (Has n) t.numbers other)));
            held_is = omega (arith, held, r.held_is, t.held_is, both, all_seen);
            waits_are = ap (λ (l : List ℕ). length l) waits ∙ r.waits_are;
            account = subst (λ own. IsAccounted own w.seen (total (join_held a.held b.held) + a.came + a.waiting))
                (sym met.own_is)
                (subst (λ n. IsAccounted (v.own ++ u.own) w.seen n) (omega (arith, both, all_seen, waitless)) account);
          };
        };
        keeps = λ round wait has. (
          has.0,
          waits-next v w wait (goes-met semaphore_object _ _ _ _ _ _ met) has.1
              (subst (Has wait.index) (sym waits) has.1.open_yet),
        );
      }

-- a history of which nothing is a caller's own
no-part : (h : List Entry) → is_nothing (of_permits h) ≡ true → h ≡ []
no-part [] nothing = refl
no-part (e ∷ h) nothing = absurd (cc)

some-nothing : (h : List Entry) → h ≡ [] → is_nothing (of_permits h) ≡ true
some-nothing h none = ap (λ (l : List Entry). is_nothing (of_permits l)) none

-- how it stands once all workers have met and nobody has anything of it
pub permits-end : (x : SharedPermits) (k : Kind) (n : ℕ) → n ≡ size_of (Some k) → CanTell share_permits k x
    → end.Permits n 0 0 ≡ ending (size_of (Some k)) (of_permits (pass_view x.pass).seen)
permits-end x k n is can =
    let v = pass_view x.pass in
    let size = size_of (Some k) in
    let r = can.funded.rests in
    let sized : v.opening.size ≡ size = r.size_is ∙ ap (λ j. size_of (Some j)) can.kind_is in
    let none = total-nothing can.a.held can.nothing in
    let stands =
    rests size v.own v.seen
    (subst (λ m. IsPlainHistory m v.seen) sized
    (plain-seen (arc_value x.semaphore) can.funded.mine (λ s. refl) can.funded.mine.live.legal))
    r.distinct
    (λ m. known m (can.whole m))
    (subst (λ m. IsAccounted v.own v.seen m) (omega (arith, none, can.waitless, can.all_seen)) r.account) in
    (λ i. end.Permits ((is ∙ sym stands.free) i) (sym stands.held i) (length (sym stands.line i)))
  where
    known : (m : ℕ) → (is_nothing (own_history m (of_permits (pass_view x.pass).seen)) ≡ true)
        ⊎ Has m ((pass_view x.pass).number ∷ drop 1 (pass_view x.pass).own)
        → (part entry_names m (pass_view x.pass).seen ≡ []) ⊎ Has m (pass_view x.pass).own
    known m (inl nothing) = inl (no-part _ nothing)
    known m (inr has) = inr (subst (Has m) (sym can.funded.rests.numbers) has)

permits-held : (k : Kind) → IsOfPermits k → can_hold k ≡ true
permits-held (kind.Semaphore permits) sort = refl
permits-held kind.Mutex sort = refl
permits-held (kind.Pool elements) sort = absurd sort
permits-held (kind.Latch count) sort = absurd sort
permits-held (kind.Rounds parties rounds) sort = absurd sort

-- what every call relies on of such a resource
pub permits-lawful : IsLawful share_permits
permits-lawful = record {
  legal = λ x a funded. history-of a.kind _ funded.sort
      (subst (λ n. IsPlainHistory n (pass_view x.pass).seen) funded.rests.size_is
      (plain-seen (arc_value x.semaphore) funded.mine (λ s. refl) funded.mine.live.legal));
  unnamed = λ x a funded n many. some-nothing _ (funded.mine.live.unnamed n many);
  held = λ x a funded. permits-held a.kind funded.sort;
  found = λ x a job funded there.
      let r = funded.rests in
      let more = more-total a job 0 there in
      let all : total a.held + (a.came + 1) ≡ total (with_more a job 0).held + a.came = omega (arith, more) in
      subst (IsFunded x) (sym (brought-is a.kind a job 0 funded.sort)) (record {
        sort = funded.sort;
        mine = funded.mine;
        permits = permits-more a job funded.permits;
        rests = record {
          size_is = r.size_is;
          ready = r.ready;
          numbers = r.numbers;
          distinct = r.distinct;
          held_is = r.held_is ∙ all;
          waits_are = r.waits_are;
          account = subst
              (λ n. IsAccounted (pass_view x.pass).own (pass_view x.pass).seen (n + a.waiting)) all r.account;
        };
      });
}
