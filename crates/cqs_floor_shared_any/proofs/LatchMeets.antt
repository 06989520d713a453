-- Two passes of a latch that workers share meet, and how it stands once all have.
use Rattle.std.proofs.Common.{◌≡◌, ◌⊎◌, inl, inr, ℕ, ◌+◌, ◌-◌, ◌≤◌, true, false, List, [], ◌∷◌, ◌++◌, drop, length, Some, refl, ap, sym, ◌∙◌, subst, arith}
use Rattle.std.specs.Arc.{arc_value}
use Rattle.cqs_core.specs.Parts.{Has, part}
use Rattle.cqs_latch_object.specs.declared.entries.LatchEntry.{LatchEntry}
use Rattle.cqs_latch_object.specs.LatchEntries.{IsLegal, object_after}
use Rattle.cqs_latch_object.specs.LatchNames.{entry_names}
use Rattle.cqs_plan.specs.declared.plans.kind.Kind.{Kind}
use Rattle.cqs_plan.specs.declared.floors.answers.FloorEnd.TheVariants as end
use Rattle.cqs_plan.specs.Floor.{size_of}
use Rattle.cqs_plan.specs.FloorHistory.{ending, of_latch}
use Rattle.cqs_rule_laws.specs.CallRule.{IsReady}
use Rattle.cqs_latch.specs.Calls.{IsMine}
use Rattle.cqs_latch.specs.Latch.{is_simple}
use Rattle.cqs_rule_laws.specs.declared.view.Facts.{Facts}
use Rattle.cqs_rule_laws.specs.declared.view.Opening.{Opening}
use Rattle.cqs_rule_laws.specs.declared.view.View.{View}
use Rattle.cqs_rule_laws.specs.Lists.{IsDistinct}
use Rattle.cqs_rule.specs.Passes.{pass_view}
use Rattle.cqs_rule.specs.Seats.{HasMet}
use Rattle.cqs_floor_shared.specs.Entries.{is_nothing, own_history}
use Rattle.cqs_floor_shared_any.specs.declared.kinds.latch.SharedLatch.{SharedLatch}
use Rattle.cqs_floor_shared_any.specs.LatchAccounts.{IsAccounted}
use Rattle.cqs_floor_shared_any.specs.LatchShares.{IsFunded, share_latch}
use Rattle.cqs_floor_shared_kinds.specs.Shares.{Funds, IsLawful}
use Rattle.cqs_floor_shared_kinds.specs.ShareCalls.{CanMeet, CanTell, Meets}
use Rattle.cqs_floor_shared_kinds.proofs.Families.{name-same}
use Rattle.cqs_floor_shared_any.proofs.LatchAccounts.{account-both, counts-fit}
use Rattle.cqs_floor_shared_any.proofs.LatchWaits.{StandsSo, stands-so}
use Rattle.cqs_floor_shared_any.proofs.LatchAnswers.{history-of}
use Rattle.cqs_latch.specs.Latch.{latch_object}
use Rattle.cqs_rule_laws.proofs.Places.{goes-met}
use Rattle.cqs_floor_shared_kinds.proofs.Runs.{distinct-both, waits-next}

-- what a pass that is funded has seen is legal
legal-seen : (x : SharedLatch) (a : Funds) → IsFunded x a
    → IsLegal false (size_of (Some a.kind)) (pass_view x.pass).seen
legal-seen x a funded =
    subst (λ n. IsLegal false n (pass_view x.pass).seen) funded.rests.size_is
    (subst (λ m. IsLegal (is_simple m) (pass_view x.pass).opening.size (pass_view x.pass).seen) funded.rests.smart
    funded.mine.live.legal)

-- what has no wait has none
no-waits : (waits : List ℕ) → length waits ≡ 0 → waits ≡ []
no-waits [] none = refl
no-waits (k ∷ waits) none = absurd (omega (arith, none))

module _ (x given y : SharedLatch) (same_one : y.latch ≡ x.latch) (mine : IsMine (arc_value x.latch) y.pass)
    (met : HasMet x.pass given.pass y.pass) (ready : IsReady (pass_view y.pass).facts) where
  abbrev v : View LatchEntry (Unit {0})
  v = pass_view x.pass

  abbrev u : View LatchEntry (Unit {0})
  u = pass_view given.pass

  abbrev w : View LatchEntry (Unit {0})
  w = pass_view y.pass

  -- what both did, and what came of the waits of both
  pub record AreBoth (size : ℕ) : Type 0 where
    pub legal : IsLegal false size w.seen
    pub distinct : IsDistinct (v.own ++ u.own)
    pub account : IsAccounted (v.own ++ u.own) v.facts.waits w.seen (x.downs + given.downs)

  pub are-both : (a b : Funds) → IsFunded x a → IsFunded given b → b.waiting ≡ 0
      → ((n : ℕ) → Has n (v.number ∷ drop 1 v.own) → Has n (u.number ∷ drop 1 u.own) → ⊥)
      → AreBoth (size_of (Some a.kind))
  are-both a b funded theirs waitless apart =
      let r = funded.rests in
      let t = theirs.rests in
      record {
        legal = subst (λ n. IsLegal false n w.seen) (ap (λ (o : Opening). o.size) met.opening ∙ r.size_is)
            (subst (λ m. IsLegal (is_simple m) w.opening.size w.seen)
            (ap (λ (o : Opening). o.mode) met.opening ∙ r.smart) mine.live.legal);
        distinct = distinct-both v.own u.own r.distinct t.distinct
            (λ n one other. apart n (subst (Has n) r.numbers one) (subst (Has n) t.numbers other));
        account = account-both v.own u.own v.facts.waits v.seen u.seen w.seen x.downs given.downs met.prefix
            met.prefix_other met.mine met.theirs r.account
            (subst (λ ws. IsAccounted u.own ws u.seen given.downs)
            (no-waits u.facts.waits (t.waits_are ∙ waitless)) t.account);
      }

  -- they counted it down no more often than it opened with
  pub both-few : CanMeet share_latch given x → x.downs + given.downs ≤ 1048576
  both-few can =
      let both = are-both can.a can.b can.funded can.given_funded can.waitless can.apart in
      let fits = counts-fit (size_of (Some can.a.kind)) (v.own ++ u.own) w.seen (x.downs + given.downs) both.legal
      both.distinct both.account.counted_is in
      omega (arith, fits, can.funded.few)

  pub latch-meet : y.downs ≡ x.downs + given.downs → Meets share_latch given x y
  latch-meet sum a b funded theirs same_kind waitless all_seen family apart =
      let r = funded.rests in
      let t = theirs.rests in
      let both = are-both a b funded theirs waitless apart in
      let all : w.own ≡ v.number ∷ (drop 1 v.own ++ u.own)
      = met.own_is ∙ ap (λ own. own ++ u.own) r.numbers in
      let others : drop 1 w.own ≡ drop 1 v.own ++ u.own = ap (λ (own : List ℕ). drop 1 own) all in
      let waits : w.facts.waits ≡ v.facts.waits = ap (λ (f : Facts). f.waits) met.facts_are in
      record {
        staying = met.prefix;
        coming = met.prefix_other;
        legal = history-of a.kind w.seen funded.sort both.legal;
        mine = λ n has. ap of_latch (met.mine n (subst (Has n) (sym r.numbers) has));
        theirs = λ n has. ap of_latch (met.theirs n (subst (Has n) (sym t.numbers) has));
        number = met.number;
        met = others ∙ ap (λ own. drop 1 v.own ++ own) t.numbers;
        passes = met.passes;
        limit = met.limit;
        family = ap (λ name. name ∷ []) (name-same x.pass y.pass (mine.table ∙ sym funded.mine.table)
            met.passes met.limit met.cells met.opening);
        parties = λ round. refl;
        funded = record {
          sort = funded.sort;
          few = funded.few;
          none_came = funded.none_came;
          mine = subst (λ s. IsMine (arc_value s) y.pass) (sym same_one) mine;
          rests = record {
            size_is = ap (λ (o : Opening). o.size) met.opening ∙ r.size_is;
            smart = ap (λ (o : Opening). o.mode) met.opening ∙ r.smart;
            ready = ready;
            numbers = all ∙ ap (λ n. n ∷ (drop 1 v.own ++ u.own)) (sym met.number)
                ∙ ap (λ own. w.number ∷ own) (sym others);
            distinct = subst IsDistinct (sym met.own_is) both.distinct;
            waits_are = ap (λ (l : List ℕ). length l) waits ∙ r.waits_are;
            account = subst (λ n. IsAccounted w.own w.facts.waits w.seen n) (sym sum)
                (subst (λ ws. IsAccounted w.own ws w.seen (x.downs + given.downs)) (sym waits)
                (subst (λ own. IsAccounted own v.facts.waits w.seen (x.downs + given.downs)) (sym met.own_is)
                both.account));
          };
        };
        keeps = λ round wait has. (
          has.0,
          waits-next v w wait (goes-met latch_object _ _ _ _ _ _ met) has.1
              (subst (Has wait.index) (sym waits) has.1.open_yet),
        );
      }

-- a history of which nothing is a caller's own
no-part : (h : List LatchEntry) → is_nothing (of_latch h) ≡ true → h ≡ []
no-part [] nothing = refl
no-part (e ∷ h) nothing = absurd (cc)

some-nothing : (h : List LatchEntry) → h ≡ [] → is_nothing (of_latch h) ≡ true
some-nothing h none = ap (λ (l : List LatchEntry). is_nothing (of_latch l)) none

-- how it stands once all workers have met and nobody has anything of it
pub latch-stands : (x : SharedLatch) (k : Kind) → CanTell share_latch k x
    → StandsSo (size_of (Some k)) x.downs (object_after false (size_of (Some k)) (pass_view x.pass).seen)
latch-stands x k can =
    let v = pass_view x.pass in
    let r = can.funded.rests in
    stands-so (size_of (Some k)) v.own v.seen x.downs
    (subst (λ j. IsLegal false (size_of (Some j)) v.seen) can.kind_is (legal-seen x can.a can.funded)) r.distinct
    (λ m. known m (can.whole m))
    (subst (λ ws. IsAccounted v.own ws v.seen x.downs)
    (no-waits v.facts.waits (r.waits_are ∙ can.waitless)) r.account)
  where
    known : (m : ℕ) → (is_nothing (own_history m (of_latch (pass_view x.pass).seen)) ≡ true)
        ⊎ Has m ((pass_view x.pass).number ∷ drop 1 (pass_view x.pass).own)
        → (part entry_names m (pass_view x.pass).seen ≡ []) ⊎ Has m (pass_view x.pass).own
    known m (inl nothing) = inl (no-part _ nothing)
    known m (inr has) = inr (subst (Has m) (sym can.funded.rests.numbers) has)

-- so often it was counted down, at most
pub latch-few : (x : SharedLatch) (k : Kind) (n : ℕ) → n ≡ size_of (Some k) → CanTell share_latch k x → x.downs ≤ n
latch-few x k n is can = let stands = latch-stands x k can in omega (arith, is, stands.count)

pub latch-end : (x : SharedLatch) (k : Kind) (n : ℕ) → n ≡ size_of (Some k) → CanTell share_latch k x
    → end.Latch (n - x.downs) 0 ≡ ending (size_of (Some k)) (of_latch (pass_view x.pass).seen)
latch-end x k n is can =
    let stands = latch-stands x k can in
    let o = object_after false (size_of (Some k)) (pass_view x.pass).seen in
    let left : n - x.downs ≡ o.count = omega (arith, is, stands.count) in
    (λ i. end.Latch (left i) (length (sym stands.line i)))

-- what every call relies on of such a resource
pub latch-lawful : IsLawful share_latch
latch-lawful = record {
  legal = λ x a funded. history-of a.kind _ funded.sort (legal-seen x a funded);
  unnamed = λ x a funded n many. some-nothing _ (funded.mine.live.unnamed n many);
  held = λ x a funded. absurd (omega (arith, funded.none_came));
  found = λ x a job funded there. absurd (omega (arith, funded.none_came));
}
