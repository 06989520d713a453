-- The calls of a pass that is alone: between two of them nothing is on its way, nobody is at the door, and each broken
-- number was found so. So each is the plain semaphore's, and comes to no broken number.
use Rattle.std.proofs.Common.{◌≡◌, ℕ, ◌+◌, ◌<◌, true, List, [], ◌∷◌, ◌++◌, length, Option, Some, Ok, inl, inr, slice_get, take, sym, refl, ap, ◌∙◌, subst, append_assoc, arith, take_at, ⊎_elim}
use Rattle.std.specs.List.{fold}
use Rattle.std.proofs.lemmas.List.{append-nil}
use Rattle.std.proofs.lemmas.List.Sums.{fold-append, fold_push}
use Rattle.cqs_core.specs.declared.doings.Doing.{Doing}
use Rattle.cqs_core.specs.declared.doings.Doing.TheVariants as doing
use Rattle.cqs_core.specs.declared.entries.Entry.{Entry}
use Rattle.cqs_core.specs.declared.entries.Entry.TheVariants as entry
use Rattle.cqs_core.specs.Keyed.{insert_by}
use Rattle.cqs_core.specs.Numbered.{IsIn}
use Rattle.cqs_core.specs.QueueLine.{Spoiled, Waiting}
use Rattle.cqs_core.specs.Resting.{IsIdle}
use Rattle.cqs_core.specs.SemaphoreEntries.{object_after, after_entry, after_spoil, at_door, find_wait, has_spoiled, waiting_pass, IsAllowed, IsLegal}
use Rattle.cqs_core.specs.SemaphoreObject.{Semaphore, due, early, opening}
use Rattle.cqs_core.specs.SemaphoreShown.{IsCore}
use Rattle.cqs_core.specs.SemaphoreTable.{Shape}
use Rattle.cqs_core.proofs.EitherFacts.{either-core, shows-object}
use Rattle.cqs_core.proofs.IdleLines.{in-placed}
use Rattle.cqs_core.proofs.Places.{get-append_left, get-push_at}
use Rattle.cqs_core.proofs.QueueAsCancelled.{as_cancelled}
use Rattle.cqs_core.proofs.Quiet.{nobody-at_door, behind, none-going}
use Rattle.cqs_core.proofs.RestingCores.{as_plain, rest-core}
use Rattle.cqs_core.proofs.Rising.{in-none}
use Rattle.cqs_core.proofs.Waits.{enters_by}
use Rattle.cqs_rule_laws.specs.declared.view.View.{View}
use Rattle.cqs_rule_laws.specs.declared.view.Opening.{Opening}
use Rattle.cqs_rule_laws.specs.Alone.{IsAlone, TellsAlone}
use Rattle.cqs_semaphore_client.specs.Semaphore.{core_shown}
use Rattle.cqs_semaphore_client.specs.SemaphoreMade.{permits_of, primitive_of, sync_of}
use Rattle.cqs_semaphore.specs.declared.answers.Acquired.TheVariants as acquired
use Rattle.cqs_semaphore.specs.declared.answers.Released.TheVariants as released
use Rattle.cqs_semaphore.specs.Alone.{HasLine}
use Rattle.cqs_semaphore.specs.Calls.{CallRule, plain_after}
use Rattle.cqs_semaphore.proofs.AloneSteps.{IsQuiet, plain-acquire as acquire-alone, plain-end as end-alone, plain-release as release-alone, turned-back as turned-alone}
use Rattle.cqs_sync_semaphore.specs.Alone.{IsPlainAcquire, IsPlainEnd, IsPlainRelease, IsTurnedBack}
use Rattle.cqs_sync_semaphore.specs.Answers.{Ends, Releases}
use Rattle.cqs_sync_semaphore.specs.Entries.{acquired_entries, acquired_further}
use Rattle.cqs_sync_semaphore.specs.declared.answers.SyncAcquired.{SyncAcquired}
use Rattle.cqs_sync_semaphore.specs.declared.answers.SyncAcquired.TheVariants.{Now, Later, Broke as Broken}
use Rattle.cqs_sync_semaphore.specs.declared.answers.SyncReleased.{SyncReleased}
use Rattle.cqs_sync_semaphore.specs.declared.answers.SyncReleased.TheVariants.{Freed, Sent, Void, Broke, Handling, Under}
use Rattle.cqs_sync_semaphore.proofs.HandledOut.{TellsOut}
use Rattle.cqs_sync_semaphore.proofs.LonePasses.{does-alone}

-- nothing is on its way, nobody is at the door, and no caller is still to come to a broken number
pub record IsStill (o : Semaphore) : Type 0 where
  pub quiet : IsQuiet o
  pub whole : o.spoiled ≡ []

-- where no number is broken, none is after somebody entered
entered-whole : (o : Semaphore) (c k : ℕ) → o.spoiled ≡ [] → (after_entry o (entry.Enter c k)).spoiled ≡ []
entered-whole o c k whole = ap (λ b. (enters_by o c k b).spoiled) (ap (has_spoiled k) whole) ∙ whole

module _ {T : Type 0} where
  still-alone : (v : View Entry T) → IsAlone primitive_of v → v.facts.doing ≡ doing.Idle → IsStill (plain_after v)
  still-alone v a idle =
      let s : Shape = core_shown (sync_of a.client) (permits_of a.client) a.hidden a.words v.seen in
      let q = as_cancelled a.hidden.queue in
      let rests : IsIdle a.hidden.queue.doing = record { at = λ p d there. idle-at p d there } in
      let core : IsCore (as_plain s) = rest-core s a.shown.core rests in
      let same : object_after (permits_of a.client) v.seen ≡ plain_after v =
      ap (λ (o : Opening). object_after o.size v.seen) a.opening_is in
      let shows = shows-object (as_plain s) (either-core (as_plain s) core) in
      let within = behind q core.sound rests _ core.short in
      let still = none-going q core.sound rests within in
      let on_way = shows.way in
      let nobody = ap (λ l. length l) (shows.door ∙ nobody-at_door q core.sound rests) in
      let none = ap (λ (o : Semaphore). early o) core.object in
      subst IsStill same (record {
        quiet = record { door = nobody; way = omega arith; whole = none };
        whole = ap (λ (o : Semaphore). o.spoiled) core.object;
      })
    where
      idle-at : (p : ℕ) (d : Doing) → slice_get a.hidden.queue.doing p ≡ Some d → d ≡ doing.Idle
      idle-at p d there = ⊎_elim (λ its. its ∙ idle) (λ rests. rests) (does-alone v a p d there)

  -- so it is where a pass is alone and idle
  abbrev pub RestsStill : View Entry T → Type 0
  RestsStill v = v.alone ≡ true → v.facts.doing ≡ doing.Idle → IsStill (plain_after v)

  pub still : (v : View Entry T) → TellsAlone primitive_of v → v.weight ≡ 1 → RestsStill v
  still v tells_it one alone idle = still-alone v (tells_it one alone) idle

  -- what a call of a pass that is alone appended is all that was appended
  seen-alone : (v w : View Entry T) (own further : List Entry) → CallRule v own further w → v.alone ≡ true
      → w.seen ≡ v.seen ++ (own ++ further)
  seen-alone v w own further c alone = c.called.seen ∙ ap (λ l. v.seen ++ l) (c.called.sole alone)

  after-alone : (v w : View Entry T) (own further : List Entry) → CallRule v own further w → v.alone ≡ true
      → plain_after w ≡ fold after_entry (plain_after v) (own ++ further)
  after-alone v w own further c alone =
      ap (λ (o : Opening). object_after o.size w.seen) c.called.same.opening
      ∙ (ap (object_after v.opening.size) (seen-alone v w own further c alone)
      ∙ fold-append after_entry (opening v.opening.size) v.seen (own ++ further))

  -- and each entry of it may come after those before it
  allowed-alone : (v w : View Entry T) (own further mid rest : List Entry) (e : Entry) → CallRule v own further w
      → v.alone ≡ true → own ++ further ≡ mid ++ e ∷ rest → IsAllowed (fold after_entry (plain_after v) mid) e
  allowed-alone v w own further mid rest e c alone is =
      let front = v.seen ++ mid in
      let all : w.seen ≡ front ++ (e ∷ rest) =
      seen-alone v w own further c alone ∙ (ap (λ l. v.seen ++ l) is ∙ sym (append_assoc v.seen mid (e ∷ rest))) in
      let there : slice_get (front ++ (e ∷ rest)) (length front) ≡ Some e =
      ap (λ l. slice_get l (length front)) (sym (append_assoc front (e ∷ []) rest))
      ∙ get-append_left (front ++ e ∷ []) rest (length front) e (get-push_at front e (length front) refl) in
      let legal : IsLegal v.opening.size w.seen =
      subst (λ (o : Opening). IsLegal o.size w.seen) c.called.same.opening c.legal.legal in
      let before : take (length front) w.seen ≡ front =
      ap (take (length front)) all ∙ take_at front (e ∷ rest) (length front) refl in
      subst (λ (o : Semaphore). IsAllowed o e)
      (ap (fold after_entry (opening v.opening.size)) before
      ∙ fold-append after_entry (opening v.opening.size) v.seen mid)
      (legal.at (length front) e (ap (λ l. slice_get l (length front)) all ∙ there))

  -- no call comes to a broken number
  never-broken : (v w : View Entry T) (k : ℕ) → IsStill (plain_after v)
      → CallRule v (entry.TakeDoor v.number ∷ entry.Enter v.number k ∷ entry.Undo v.number k ∷ []) [] w
      → v.alone ≡ true → ⊥
  never-broken v w k still c alone =
      let broken : Spoiled = record { wait = k; pass = Some v.number } in
      let door = at_door (plain_after v) v.number in
      let may = allowed-alone v w _ [] (entry.TakeDoor v.number ∷ entry.Enter v.number k ∷ []) []
      (entry.Undo v.number k) c alone refl in
      in-none broken (subst (IsIn broken) (entered-whole door v.number k still.whole) may)

  pub plain-acquire : (v w : View Entry T) (a : SyncAcquired) → IsStill (plain_after v)
      → CallRule v (acquired_entries v.number (Ok a)) (acquired_further (Ok a)) w → v.alone ≡ true → IsPlainAcquire v a
  plain-acquire v w (Now permit) still c alone = acquire-alone v w (acquired.Now permit) still.quiet c alone
  plain-acquire v w (Later wait) still c alone = acquire-alone v w (acquired.Later wait) still.quiet c alone
  plain-acquire v w (Broken k) still c alone = never-broken v w k still c alone

  -- and none breaks one, since nobody comes to it before the call is over
  never-breaks : (v w : View Entry T) (own : List Entry) (k : ℕ) → CallRule v (own ++ entry.Spoil v.number k ∷ []) [] w
      → v.alone ≡ true → w.facts.doing ≡ doing.Idle → RestsStill w → ⊥
  never-breaks v w own k c alone idle now =
      let o = fold after_entry (plain_after v) own in
      let es = own ++ entry.Spoil v.number k ∷ [] in
      let broken : Spoiled = record { wait = k; pass = waiting_pass (find_wait k o.line) } in
      let after : plain_after w ≡ after_spoil o k =
      after-alone v w es [] c alone ∙ (ap (fold after_entry (plain_after v)) (append-nil es)
      ∙ fold_push after_entry (plain_after v) own (entry.Spoil v.number k)) in
      let none : insert_by (λ (b : Spoiled). b.wait) broken o.spoiled ≡ [] =
      sym (ap (λ (x : Semaphore). x.spoiled) after) ∙ (now (c.called.same.alone ∙ alone) idle).whole in
      in-none broken (subst (IsIn broken) none (in-placed (λ (b : Spoiled). b.wait) broken o.spoiled))

  -- nor is anything on its way after a call that left the pass idle
  rests-quiet : (v w : View Entry T) (own further : List Entry) → CallRule v own further w → v.alone ≡ true
      → RestsStill w → w.facts.doing ≡ doing.Idle → IsQuiet (plain_after w)
  rests-quiet v w own further c alone now idle = (now (c.called.same.alone ∙ alone) idle).quiet

  -- a permit that was sent and is still owed is on its way to somebody who waits
  still-sent : (v w : View Entry T) → IsStill (plain_after v) → CallRule v (entry.GiveSent v.number ∷ []) [] w
      → v.alone ≡ true → HasLine (plain_after v).line × ((plain_after w).way ≡ 1)
  still-sent v w still c alone =
      let may = allowed-alone v w (entry.GiveSent v.number ∷ []) [] [] [] (entry.GiveSent v.number) c alone refl in
      let short : (plain_after v).way < due (plain_after v) = may.1 in
      let door = still.quiet.door in
      let way = still.quiet.way in
      let now : (plain_after w).way ≡ (plain_after v).way + 1 =
      ap (λ (o : Semaphore). o.way) (after-alone v w (entry.GiveSent v.number ∷ []) [] c alone) in
      (by (plain_after v).line refl (omega arith), omega arith)
    where
      by : (waits : List Waiting) → (plain_after v).line ≡ waits → 0 < length (plain_after v).line
          → HasLine (plain_after v).line
      by [] is some = let none : length (plain_after v).line ≡ 0 = ap (λ l. length l) is in absurd (omega arith)
      by (x ∷ waits) is some = subst HasLine (sym is) tt

  pub plain-release : (v w : View Entry T) (number : Option ℕ) (a : SyncReleased) → IsStill (plain_after v)
      → Releases number v a w → RestsStill w → (w.alone ≡ true → TellsOut w a) → v.alone ≡ true → IsPlainRelease v a w
  plain-release v w number Freed still r now out alone =
      release-alone v w released.Freed still.quiet r.0 r.1 (rests-quiet v w _ _ r.0 alone now) alone
  plain-release v w number (Sent k) still (wanted, ((inl served), rests)) now out alone =
      let c = served.called in
      release-alone v w (released.Sent k) still.quiet c (wanted, (served.waited, rests))
      (rests-quiet v w _ _ c alone now) alone
  plain-release v w number (Sent k) still (wanted, ((inr taken), rests)) now out alone = absurd (taken.together alone)
  plain-release v w number (Void k) still (wanted, (c, cell, rests)) now out alone =
      release-alone v w (released.Void k) still.quiet c (wanted, (cell, rests)) (rests-quiet v w _ _ c alone now) alone
  plain-release v w number (Broke k permit) still (wanted, (broken, same, rests)) now out alone =
      never-breaks v w (entry.GiveSent v.number ∷ []) k broken.called alone rests.ready.idle now
  plain-release v w number (Handling k under) still r now out alone =
      (still-sent v w still r.1.0 alone, out (r.1.0.called.same.alone ∙ alone))
  plain-release v w number (Under under) still r now out alone = still-sent v w still r.1.0 alone

  pub plain-end : (v w : View Entry T) (held : ℕ) (waits : List ℕ) (number : Option ℕ) (a : SyncReleased)
      → Ends [] held waits number v a w → RestsStill w → (w.alone ≡ true → TellsOut w a) → v.alone ≡ true
      → (plain_after v).way ≡ 1 → IsPlainEnd v a w
  plain-end v w held waits number Freed e now out alone one = absurd e
  plain-end v w held waits number (Sent k) ((inl served), rests) now out alone one =
      let c = served.called in
      end-alone v w (released.Sent k) held waits c (served.waited, rests) (rests-quiet v w _ _ c alone now) alone one
  plain-end v w held waits number (Sent k) ((inr taken), rests) now out alone one = absurd (taken.together alone)
  plain-end v w held waits number (Void k) (c, cell, rests) now out alone one =
      end-alone v w (released.Void k) held waits c (cell, rests) (rests-quiet v w _ _ c alone now) alone one
  plain-end v w held waits number (Broke k permit) (broken, same, rests) now out alone one =
      never-breaks v w [] k broken.called alone rests.ready.idle now
  plain-end v w held waits number (Handling k under) e now out alone one =
      (after-alone v w [] [] e.0 alone, out (e.0.called.same.alone ∙ alone))
  plain-end v w held waits number (Under under) e now out alone one = after-alone v w [] [] e.0 alone

  pub turned-back : (v w : View Entry T) (held : ℕ) (waits : List ℕ) (number : Option ℕ) (a : SyncReleased)
      → Ends [] held waits number v a w → RestsStill w → (w.alone ≡ true → TellsOut w a) → v.alone ≡ true
      → (plain_after v).way ≡ 0 → IsTurnedBack v a w
  turned-back v w held waits number Freed e now out alone none = absurd e
  turned-back v w held waits number (Sent k) ((inl served), rests) now out alone none =
      turned-alone v w (released.Sent k) held waits served.called (served.waited, rests) alone none
  turned-back v w held waits number (Sent k) ((inr taken), rests) now out alone none = absurd (taken.together alone)
  turned-back v w held waits number (Void k) e now out alone none = after-alone v w [] [] e.0 alone
  turned-back v w held waits number (Broke k permit) (broken, same, rests) now out alone none =
      never-breaks v w [] k broken.called alone rests.ready.idle now
  turned-back v w held waits number (Handling k under) e now out alone none =
      (after-alone v w [] [] e.0 alone, out (e.0.called.same.alone ∙ alone))
  turned-back v w held waits number (Under under) e now out alone none = after-alone v w [] [] e.0 alone
