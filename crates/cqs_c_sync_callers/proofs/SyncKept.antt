-- What a caller of a synchronous semaphore owes after each call, and the waits of its pass.
use Rattle.std.proofs.Common.{◌≡◌, ℕ, List, [], Option, Some, None, false, inl, inr, subst}
use Rattle.std.specs.Option.{is_some}
use Rattle.cqs_core.specs.declared.entries.Entry.{Entry}
use Rattle.cqs_rule_laws.specs.declared.view.Facts.{Facts}
use Rattle.cqs_rule_laws.specs.declared.view.View.{View}
use Rattle.cqs_rule_laws.specs.CallRule.{IsReady}
use Rattle.cqs_rule_laws.specs.Lists.{without}
use Rattle.cqs_rule_laws.specs.Placed.{GoesOn}
use Rattle.cqs_rule_laws.proofs.Places.{goes-same}
use Rattle.cqs_sync_semaphore.specs.declared.answers.SyncLeft.{SyncLeft}
use Rattle.cqs_sync_semaphore.specs.declared.answers.SyncLeft.TheVariants as left
use Rattle.cqs_sync_semaphore.specs.declared.answers.SyncReleased.{SyncReleased}
use Rattle.cqs_sync_semaphore.specs.declared.answers.SyncReleased.TheVariants.{Freed, Sent, Void, Broke, Handling, Under}
use Rattle.cqs_sync_semaphore.specs.declared.answers.Under as owed
use Rattle.cqs_sync_semaphore.specs.Answers.{Cancels, Ends, Releases}
use Rattle.cqs_sync_semaphore.specs.Owed.{number_under}
use Rattle.cqs_c_sync_callers.specs.Callers.{OwesJust, owed_after}

-- a caller who has no token of a resumption owes none where its pass is ready
pub owes-none : (f : Facts) (o : Option owed.Under) → false ≡ is_some o → IsReady f → OwesJust f o
owes-none f None e ready = ready
owes-none f (Some u) e ready = absurd (cc)

module _ {T : Type 0} where
  -- what the pass knows stays known, what it owes is what the caller keeps, and its waits are these
  pub record Keeps (v w : View Entry T) (waits : List ℕ) (o : Option owed.Under) : Type 0 where
    pub goes : GoesOn v w
    pub owes : OwesJust w.facts o
    pub waits_are : w.facts.waits ≡ waits

  -- after a resumption that began with a permit without a number
  pub ends-keeping : (own : List Entry) (held : ℕ) (waits : List ℕ) (v w : View Entry T) (r : SyncReleased)
      → Ends own held waits None v r w → Keeps v w waits (owed_after r)
  ends-keeping own held waits v w Freed e = absurd e
  ends-keeping own held waits v w (Sent k) (inl served, rests) = record {
    goes = goes-same v w served.called.called.same;
    owes = rests.ready;
    waits_are = rests.waits_are;
  }
  ends-keeping own held waits v w (Sent k) (inr taken, rests) = record {
    goes = goes-same v w taken.called.called.same;
    owes = rests.ready;
    waits_are = rests.waits_are;
  }
  ends-keeping own held waits v w (Void k) e = record {
    goes = goes-same v w e.0.called.same;
    owes = e.2.ready;
    waits_are = e.2.waits_are;
  }
  ends-keeping own held waits v w (Broke k permit) e = record {
    goes = goes-same v w e.0.called.called.same;
    owes = e.2.ready;
    waits_are = e.2.waits_are;
  }
  ends-keeping own held waits v w (Handling k under) e = record {
    goes = goes-same v w e.0.called.same;
    owes = (e.5.owes, e.5.further, e.3);
    waits_are = e.5.waits_are;
  }
  ends-keeping own held waits v w (Under under) e = record {
    goes = goes-same v w e.0.called.same;
    owes = (e.1.owes, e.1.further, e.2);
    waits_are = e.1.waits_are;
  }

  -- what a caller owes has a permit without a number, and so the end of it is that of such a permit
  pub finish-bare : (held : ℕ) (waits : List ℕ) (v w : View Entry T) (o : Option owed.Under) (under : owed.Under)
      (r : SyncReleased) → o ≡ Some under → OwesJust v.facts o → Ends [] held waits (number_under under) v r w
      → Ends [] held waits None v r w
  finish-bare held waits v w o under r is owes e =
      subst (λ n. Ends [] held waits n v r w) (subst (OwesJust v.facts) is owes).2 e

  pub release-keeping : (v w : View Entry T) (r : SyncReleased) → Releases None v r w
      → Keeps v w v.facts.waits (owed_after r)
  release-keeping v w Freed e = record {
    goes = goes-same v w e.0.called.same;
    owes = e.1.rests.ready;
    waits_are = e.1.rests.waits_are;
  }
  release-keeping v w (Sent k) e = ends-keeping _ _ _ v w (Sent k) e.1
  release-keeping v w (Void k) e = ends-keeping _ _ _ v w (Void k) e.1
  release-keeping v w (Broke k permit) e = ends-keeping _ _ _ v w (Broke k permit) e.1
  release-keeping v w (Handling k under) e = ends-keeping _ _ _ v w (Handling k under) e.1
  release-keeping v w (Under under) e = ends-keeping _ _ _ v w (Under under) e.1

  -- a cancel took its own wait from them
  pub cancel-keeping : (k : ℕ) (v w : View Entry T) (a : SyncLeft) → Cancels k v a w
      → Keeps v w (without k v.facts.waits) None
  cancel-keeping k v w left.Cancelled e = record {
    goes = goes-same v w e.0.called.same;
    owes = e.4.ready;
    waits_are = e.4.waits_are;
  }
  cancel-keeping k v w (left.TooLate permit) e = record {
    goes = goes-same v w e.0.called.same;
    owes = e.3.ready;
    waits_are = e.3.waits_are;
  }
