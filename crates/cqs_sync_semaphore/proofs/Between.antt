-- After a resumption that ended its pass is idle, and after one that was handed back it owes: it is between two calls.
use Rattle.std.proofs.Common.{ℕ, List, Option, inl}
use Rattle.cqs_core.specs.declared.entries.Entry.{Entry}
use Rattle.cqs_rule_laws.specs.declared.view.View.{View}
use Rattle.cqs_rule_laws.specs.Crew.{IsBetween}
use Rattle.cqs_semaphore.proofs.Between.{under-between}
use Rattle.cqs_sync_semaphore.specs.Answers.{Ends, Releases}
use Rattle.cqs_sync_semaphore.specs.Owed.{token_of}
use Rattle.cqs_sync_semaphore.specs.declared.answers.SyncReleased.{SyncReleased}
use Rattle.cqs_sync_semaphore.specs.declared.answers.SyncReleased.TheVariants.{Freed, Sent, Void, Broke, Handling, Under}

module _ {T : Type 0} where
  pub ends-between : (own : List Entry) (held : ℕ) (waits : List ℕ) (number : Option ℕ) (v : View Entry T)
      (a : SyncReleased) (w : View Entry T) → Ends own held waits number v a w → IsBetween w.facts
  ends-between own held waits number v Freed w e = absurd e
  ends-between own held waits number v (Sent k) w e = inl e.1.ready.idle
  ends-between own held waits number v (Void k) w e = inl e.2.ready.idle
  ends-between own held waits number v (Broke k permit) w e = inl e.2.ready.idle
  ends-between own held waits number v (Handling k under) w e = under-between w.facts (token_of under) e.5.owes
  ends-between own held waits number v (Under under) w e = under-between w.facts (token_of under) e.1.owes

  pub releases-between : (number : Option ℕ) (v : View Entry T) (a : SyncReleased) (w : View Entry T)
      → Releases number v a w → IsBetween w.facts
  releases-between number v Freed w r = inl r.1.rests.ready.idle
  releases-between number v (Sent k) w r = ends-between _ _ _ number v (Sent k) w r.1
  releases-between number v (Void k) w r = ends-between _ _ _ number v (Void k) w r.1
  releases-between number v (Broke k permit) w r = ends-between _ _ _ number v (Broke k permit) w r.1
  releases-between number v (Handling k under) w r = ends-between _ _ _ number v (Handling k under) w r.1
  releases-between number v (Under under) w r = ends-between _ _ _ number v (Under under) w r.1
