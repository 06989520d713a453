-- A pass of a latch that workers share makes another.
use Rattle.std.proofs.Common.{◌≡◌, inl, ℕ, List, [], ◌∷◌, ◌++◌, drop, length, Some, refl, ap, sym, ◌∙◌, subst, arith}
use Rattle.std.specs.Arc.{arc_value}
use Rattle.std.proofs.lemmas.List.{append-nil}
use Rattle.cqs_latch_object.specs.declared.entries.LatchEntry.{LatchEntry}
use Rattle.cqs_plan.specs.declared.plans.kind.Kind.{Kind}
use Rattle.cqs_plan.specs.declared.plans.kind.Kind.TheVariants as kind
use Rattle.cqs_plan.specs.Floor.{IsLatch}
use Rattle.cqs_plan.specs.FloorHistory.{of_latch}
use Rattle.cqs_rule_laws.specs.CallRule.{IsReady}
use Rattle.cqs_latch.specs.Calls.{IsMine, Rests}
use Rattle.cqs_latch.specs.Latch.{latch_object}
use Rattle.cqs_latch.specs.Seats.{LookedOn}
use Rattle.cqs_rule_laws.specs.Crew.{Came}
use Rattle.cqs_rule_laws.specs.declared.view.Facts.{Facts}
use Rattle.cqs_rule_laws.specs.declared.view.Opening.{Opening}
use Rattle.cqs_rule_laws.specs.declared.view.View.{View}
use Rattle.cqs_rule_laws.specs.Lists.{IsDistinct}
use Rattle.cqs_rule.specs.Passes.{pass_view}
use Rattle.cqs_floor_shared.specs.AnswerEntries.{turned_entries}
use Rattle.cqs_floor_shared.specs.Entries.{at_latch, is_nothing, none_of}
use Rattle.cqs_floor_shared_any.specs.declared.kinds.latch.SharedLatch.{SharedLatch}
use Rattle.cqs_floor_shared_any.specs.LatchAccounts.{IsAccounted}
use Rattle.cqs_floor_shared_any.specs.LatchShares.{share_latch}
use Rattle.cqs_rule_laws.proofs.Places.{goes-looked}
use Rattle.cqs_floor_shared_kinds.specs.Runs.{Went}
use Rattle.cqs_floor_shared_kinds.specs.Shares.{Sees}
use Rattle.cqs_floor_shared_kinds.specs.ShareCalls.{HasSplit}
use Rattle.cqs_floor_shared_kinds.proofs.Families.{name-same}
use Rattle.cqs_floor_shared_any.proofs.LatchAccounts.{account-none}
use Rattle.cqs_floor_shared_any.proofs.LatchAnswers.{none-enter}
use Rattle.cqs_floor_shared_any.proofs.LatchShares.{keeps-all, latch-has, latch-sees}
use Rattle.cqs_floor_shared_kinds.proofs.Runs.{has-first, has-other}
use Rattle.cqs_floor_shared_kinds.proofs.Sights.{sees-on}

no-entries : (k : Kind) → IsLatch (Some k) → none_of (turned_entries (Some k) 0) ≡ at_latch []
no-entries (kind.Latch count) sort = refl
no-entries (kind.Semaphore permits) sort = absurd sort
no-entries kind.Mutex sort = absurd sort
no-entries (kind.Pool elements) sort = absurd sort
no-entries (kind.Rounds parties rounds) sort = absurd sort

-- what a split leaves of its pass
looked-went : (v w : View LatchEntry (Unit {0})) → v.own ≡ v.number ∷ drop 1 v.own
    → latch_object.legal w.opening w.seen → LookedOn v w → Went latch_object v [] w
looked-went v w numbers legal looked = record {
  more = looked.saw.between;
  seen = looked.saw.seen ∙ append-nil (v.seen ++ looked.saw.between);
  mine = looked.saw.silent v.number (has-first v.own v.number numbers);
  others = λ n has. looked.saw.silent n (has-other n v.own v.number numbers has);
  legal = legal;
  same = record {
    number = looked.saw.same.number;
    own = looked.saw.same.own;
    limit = looked.saw.same.limit;
    cells = looked.saw.same.cells;
    passes = looked.saw.same.passes;
    opening = looked.saw.same.opening;
    goes = goes-looked latch_object v w v.facts [] looked.saw;
  };
}

module _ (x made y : SharedLatch) (same_one : y.latch ≡ x.latch) (same_downs : y.downs ≡ x.downs)
    (none_counted : made.downs ≡ 0)
    (mine : IsMine (arc_value x.latch) y.pass) (new_mine : IsMine (arc_value x.latch) made.pass)
    (shared : arc_value made.latch ≡ arc_value x.latch)
    (looked : LookedOn (pass_view x.pass) (pass_view y.pass))
    (ready : IsReady (pass_view y.pass).facts)
    (came : Came latch_object (pass_view y.pass) (pass_view made.pass))
    (new_ready : IsReady (pass_view made.pass).facts) where
  abbrev v : View LatchEntry (Unit {0})
  v = pass_view x.pass

  abbrev u : View LatchEntry (Unit {0})
  u = pass_view made.pass

  abbrev w : View LatchEntry (Unit {0})
  w = pass_view y.pass

  pub latch-split : (gives : ℕ) → HasSplit share_latch gives x made y
  latch-split gives a funded =
      let r = funded.rests in
      let went = looked-went v w r.numbers mine.live.legal looked in
      let rests : Rests v.facts.waits w
      = record { ready = ready; waits_are = ap (λ (f : Facts). f.waits) looked.facts_are } in
      let opened : u.opening ≡ v.opening = came.opening ∙ went.same.opening in
      record {
        looked = sees-on share_latch a.kind x y
            (subst (λ es. Sees share_latch a.kind x es y) (sym (no-entries a.kind funded.sort))
            (latch-sees x y same_one mine a [] funded went));
        funded = latch-has x y same_one mine a a [] v.facts.waits funded went rests refl funded.none_came r.waits_are
            (omega (arith, same_downs)) (λ k has. inl has) (λ c k is. absurd (none-enter [] refl c k is));
        keeps = keeps-all x y same_one mine went.same v.facts.waits rests (λ k has. has);
        met = ap (λ (own : List ℕ). drop 1 own) came.own;
        seen = ap of_latch came.seen;
        nothing = ap (λ (l : List LatchEntry). is_nothing (of_latch l)) came.unnamed;
        passes = new_mine.passes ∙ sym funded.mine.passes;
        limit = new_mine.limit ∙ sym funded.mine.limit;
        family = ap (λ name. name ∷ []) (name-same x.pass made.pass (new_mine.table ∙ sym funded.mine.table)
            (new_mine.passes ∙ sym funded.mine.passes) (new_mine.limit ∙ sym funded.mine.limit)
            (new_mine.cells ∙ sym funded.mine.cells) opened);
        parties = λ round. refl;
        gives_each = refl;
        made_funded = λ jobs. record {
          sort = funded.sort;
          few = funded.few;
          none_came = refl;
          mine = subst (λ s. IsMine s made.pass) (sym shared) new_mine;
          rests = record {
            size_is = ap (λ (o : Opening). o.size) opened ∙ r.size_is;
            smart = ap (λ (o : Opening). o.mode) opened ∙ r.smart;
            ready = new_ready;
            numbers = came.own ∙ ap (λ own. u.number ∷ own) (sym (ap (λ (own : List ℕ). drop 1 own) came.own));
            distinct = subst IsDistinct (sym came.own) ((λ has. has), tt);
            waits_are = ap (λ (f : Facts). length f.waits) came.facts;
            account = subst (λ n. IsAccounted u.own u.facts.waits u.seen n) (sym none_counted)
                (account-none u.number u.seen u.own u.facts.waits came.own came.unnamed);
          };
        };
      }
