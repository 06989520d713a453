-- The calls of a pass that is alone: between two of them nothing is on its way and nobody is at the door, so each is
-- the plain semaphore's.
use Rattle.std.proofs.Common.{if◌then◌else◌, nat_lt, ◌≡◌, ◌≢◌, ℕ, suc, ◌+◌, ◌-◌, ◌<◌, Bool, true, false, List, [], ◌∷◌, ◌++◌, length, Option, Some, None, Ok, slice_get, take, sym, refl, ap, ◌∙◌, subst, append_assoc, arith, take_at, ⊎_elim, lt-ltb, ne_eqb, zero-add}
use Rattle.std.specs.List.{fold}
use Rattle.std.proofs.lemmas.Bool.{le-ltb}
use Rattle.std.proofs.lemmas.List.{append_cancel_right}
use Rattle.std.proofs.lemmas.List.Sums.{fold-append}
use Rattle.std.proofs.lemmas.Option.{same_Some}
use mathlib.Core.Logic.{dite}
use native.Mathlib.Decide.{ℕ_discrete}
use Rattle.cqs_core.specs.declared.calls.Call.TheVariants as call
use Rattle.cqs_core.specs.declared.calls.Reply.TheVariants as reply
use Rattle.cqs_core.specs.declared.cells.CoreCell.{CoreCell}
use Rattle.cqs_core.specs.declared.cells.CoreState.TheVariants as state
use Rattle.cqs_core.specs.declared.doings.Doing.{Doing}
use Rattle.cqs_core.specs.declared.doings.Doing.TheVariants as doing
use Rattle.cqs_core.specs.declared.entries.Entry.{Entry}
use Rattle.cqs_core.specs.declared.entries.Entry.TheVariants as entry
use Rattle.cqs_core.specs.Keyed.{without}
use Rattle.cqs_core.specs.Numbered.{pick_each, cons_option}
use Rattle.cqs_core.specs.QueueLine.{Waiting, line, in_line}
use Rattle.cqs_core.specs.QueueState.{Queue}
use Rattle.cqs_core.specs.Resting.{IsIdle}
use Rattle.cqs_core.specs.SemaphoreEntries.{object_after, after_entry, at_door, IsLegal, IsAllowed, Waits, find_wait}
use Rattle.cqs_core.specs.SemaphoreObject.{Semaphore, due, early, opening}
use Rattle.cqs_core.specs.SemaphoreShown.{IsCore}
use Rattle.cqs_core.specs.SemaphoreTable.{Shape}
use Rattle.cqs_core.specs.SoleCaller.{tells, sole_call, sole_release, sole_poll, sole_cancel}
use Rattle.cqs_core.proofs.EitherFacts.{plain-core, shows-object}
use Rattle.cqs_core.proofs.LineReads.{line-keyed}
use Rattle.cqs_core.proofs.Places.{get-append_left, get-push_at, get-below}
use Rattle.cqs_core.proofs.Quiet.{nobody-at_door, behind, none-going}
use Rattle.cqs_core.proofs.Rising.{in-none, in-behind}
use Rattle.cqs_core.proofs.Waits.{found-waits}
use Rattle.cqs_rule_laws.specs.declared.view.View.{View}
use Rattle.cqs_rule_laws.specs.declared.view.Opening.{Opening}
use Rattle.cqs_rule_laws.specs.Alone.{IsAlone, TellsAlone}
use Rattle.cqs_rule_laws.specs.Hidden.{state_in}
use Rattle.cqs_semaphore_client.specs.Semaphore.{core_shown}
use Rattle.cqs_semaphore_client.specs.SemaphoreMade.{permits_of, sync_of}
use Rattle.cqs_rule.specs.Waits.{place_of}
use Rattle.cqs_semaphore.specs.declared.answers.Acquired.{Acquired}
use Rattle.cqs_semaphore.specs.declared.answers.Acquired.TheVariants.{Now, Later}
use Rattle.cqs_semaphore.specs.declared.answers.Released.{Released}
use Rattle.cqs_semaphore.specs.declared.answers.Released.TheVariants.{Freed, Sent, Left, Void, Under}
use Rattle.cqs_semaphore.specs.Alone.{IsPlainAcquire, IsPlainRelease, IsPlainEnd, IsTurnedBack, IsFirstOf, HasLine, HasNoneOnWay}
use Rattle.cqs_semaphore.specs.Answers.{Releases, Ends}
use Rattle.cqs_semaphore.specs.Calls.{CallRule, plain_after}
use Rattle.cqs_semaphore.specs.Causes.{CellWas}
use Rattle.cqs_semaphore_client.specs.SemaphoreMade.{primitive_of}
use Rattle.cqs_semaphore.specs.Entries.{took_entries, came_by, acquired_entries, acquired_further, gave_entries, resumed_further, passed_further}
use Rattle.cqs_semaphore.specs.Permits.{number_of}
use Rattle.cqs_semaphore.proofs.States.{entered-way}

-- an entry of a legal history may come after those before it
allowed-at : (size : ℕ) (h mid rest all : List Entry) (e : Entry) → all ≡ h ++ (mid ++ e ∷ rest) → IsLegal size all
    → IsAllowed (fold after_entry (object_after size h) mid) e
allowed-at size h mid rest all e is legal =
    let front = h ++ mid in
    let whole : all ≡ front ++ (e ∷ rest) = is ∙ sym (append_assoc h mid (e ∷ rest)) in
    let there : slice_get (front ++ (e ∷ rest)) (length front) ≡ Some e =
    ap (λ l. slice_get l (length front)) (sym (append_assoc front (e ∷ []) rest))
    ∙ get-append_left (front ++ e ∷ []) rest (length front) e (get-push_at front e (length front) refl) in
    let here : IsAllowed (fold after_entry (opening size) (take (length front) all)) e =
    legal.at (length front) e (ap (λ l. slice_get l (length front)) whole ∙ there) in
    let before : take (length front) all ≡ front =
    ap (take (length front)) whole ∙ take_at front (e ∷ rest) (length front) refl in
    subst (λ (o : Semaphore). IsAllowed o e)
    (ap (fold after_entry (opening size)) before ∙ fold-append after_entry (opening size) h mid) here

-- nothing is on its way, nobody is at the door, and no number is broken
pub record IsQuiet (o : Semaphore) : Type 0 where
  pub door : length o.door ≡ 0
  pub way : o.way ≡ 0
  pub whole : early o ≡ 0

-- nobody is found under a number at which nothing is read
find-nobody : (passes : List Doing) (m k : ℕ) (cells : List CoreCell)
    → ((i : ℕ) (c : CoreCell) → k ≡ m + i → slice_get cells i ≡ Some c → in_line passes k c ≡ None)
    → find_wait k (pick_each (in_line passes) m cells) ≡ None
find-nobody passes m k [] none = refl
find-nobody passes m k (c ∷ cells) none =
    go (in_line passes m c) refl (find-nobody passes (suc m) k cells (λ i z at got. none (suc i) z (omega arith) got))
  where
    go : (o : Option Waiting) → in_line passes m c ≡ o → find_wait k (pick_each (in_line passes) (suc m) cells) ≡ None
        → find_wait k (cons_option o (pick_each (in_line passes) (suc m) cells)) ≡ None
    go None reads rest = rest
    go (Some w) reads rest =
        let number : w.wait ≡ m = (line-keyed passes).at m c w reads in
        let other : k ≢ w.wait = λ e.
        let here : k ≡ m + 0 = omega arith in
        let nothing : in_line passes k c ≡ None = none 0 c here refl in
        let same : in_line passes k c ≡ in_line passes m c = ap (λ n. in_line passes n c) (omega arith) in
        absurd (cc (nothing, same, reads)) in
        rw (ne_eqb k w.wait other) rest

waiting-gone : (passes : List Doing) (k : ℕ) (c : CoreCell) → c.state ≡ state.Resumed → in_line passes k c ≡ None
waiting-gone passes k c served = by c.owner refl
  where
    by : (o : Option ℕ) → c.owner ≡ o → in_line passes k c ≡ None
    by None is = rw is refl
    by (Some p) is = rw (is, served) refl

-- a wait that was served isn't in the line
served-gone : (q : Queue) (k : ℕ) → state_in (slice_get q.cells k) ≡ state.Resumed → find_wait k (line q) ≡ None
served-gone q k served = find-nobody q.doing 0 k q.cells (λ i c at got.
    let here : slice_get q.cells k ≡ Some c = ap (slice_get q.cells) (at ∙ zero-add i) ∙ got in
    waiting-gone q.doing k c (sym (ap state_in here) ∙ served))

-- where just one permit is on its way, it is delivered to the first of the line
first-of : (o : Semaphore) (k : ℕ) (waits : List Waiting) → o.line ≡ waits → o.way ≡ 1
    → (c : ℕ) × Waits k c (take o.way o.line) → IsFirstOf o.line k
first-of o k [] is one may =
    absurd (in-none _ (subst (λ (z : ℕ × List Waiting). Waits k may.0 (take z.0 z.1)) (λ i. (one i, is i)) may.1))
first-of o k (x ∷ waits) is one may =
    let there : Waits k may.0 (x ∷ []) =
    subst (λ (z : ℕ × List Waiting). Waits k may.0 (take z.0 z.1)) (λ i. (one i, is i)) may.1 in
    let same : record { wait = k; pass = may.0 } ≡ x =
    ⊎_elim (λ e. e) (λ later. absurd (in-none _ later)) (in-behind _ x [] there) in
    subst (λ l. IsFirstOf l k) (sym is) (ap (λ (w : Waiting). w.wait) (sym same))

-- a cancel leaves nothing on its way where nothing was: what it passes on is no permit
none-after_leave : (o : Semaphore) (c k : ℕ) → o.way ≡ 0 → (after_entry o (entry.Leave c k)).way ≡ 0
none-after_leave o c k none = by (nat_lt (due l) l.way)
  where
    l : Semaphore
    l = record o { line = without (λ w. w.wait) k o.line }

    by : (b : Bool) → (if b then record l { way = l.way - 1; free = l.free + 1 } else l).way ≡ 0
    by true = omega arith
    by false = none

module _ {T : Type 0} where
  quiet-alone : (v : View Entry T) → v.opening.sync ≡ false → IsAlone primitive_of v → v.facts.doing ≡ doing.Idle
      → IsQuiet (plain_after v)
  quiet-alone v plain a idle =
      let s : Shape = core_shown (sync_of a.client) (permits_of a.client) a.hidden a.words v.seen in
      let core : IsCore s = plain-core s a.shown.core (ap (λ (o : Opening). o.sync) a.opening_is ∙ plain) in
      let q = a.hidden.queue in
      let rests : IsIdle q.doing = record { at = λ p d there. idle-at p d there } in
      let same : object_after (permits_of a.client) v.seen ≡ plain_after v =
      ap (λ (o : Opening). object_after o.size v.seen) a.opening_is in
      let shows = shows-object s a.shown.core in
      let within = behind q core.sound rests _ core.short in
      let still = none-going q core.sound rests within in
      let on_way = shows.way in
      let nobody = ap (λ l. length l) (shows.door ∙ nobody-at_door q core.sound rests) in
      let whole = ap (λ (o : Semaphore). early o) core.object in
      subst IsQuiet same (record { door = nobody; way = omega arith; whole = whole })
    where
      idle-at : (p : ℕ) (d : Doing) → slice_get a.hidden.queue.doing p ≡ Some d → d ≡ doing.Idle
      idle-at p d there = dite (ℕ_discrete p v.number)
          (λ (e : p ≡ v.number). same_Some d doing.Idle
          (sym there ∙ (ap (slice_get a.hidden.queue.doing) e ∙ (a.stands.doing ∙ ap Some idle))))
          (λ (other : p ≢ v.number).
          let below = get-below a.hidden.queue.doing p d there in
          let long = a.places in
          let r = a.others p other (omega arith) in
          same_Some d doing.Idle (sym there ∙ (r.stands.doing ∙ ap Some r.idle)))

  pub quiet : (v : View Entry T) → v.opening.sync ≡ false → TellsAlone primitive_of v → v.weight ≡ 1 → v.alone ≡ true
      → v.facts.doing ≡ doing.Idle
      → IsQuiet (plain_after v)
  quiet v plain tells_it one alone idle = quiet-alone v plain (tells_it one alone) idle

  -- all that a pass has seen after a call that it made alone
  record Legal (v : View Entry T) (entries : List Entry) (w : View Entry T) : Type 0 where
    seen : w.seen ≡ v.seen ++ entries
    opening_is : w.opening ≡ v.opening
    legal : IsLegal v.opening.size w.seen

  legal-alone : (v w : View Entry T) (own further : List Entry) → CallRule v own further w → v.alone ≡ true
      → Legal v (own ++ further) w
  legal-alone v w own further c alone = record {
    seen = c.called.seen ∙ ap (λ l. v.seen ++ l) (c.called.sole alone);
    opening_is = c.called.same.opening;
    legal = subst (λ (o : Opening). IsLegal o.size w.seen) c.called.same.opening c.legal.legal;
  }

  -- an acquire
  plain-took : (v w : View Entry T) (n : Option ℕ) → IsQuiet (plain_after v)
      → Legal v (took_entries v.number n ++ came_by n) w
      → (n ≡ None)
      × (sole_call (plain_after v) (call.Acquire v.number) ≡ tells (entry.TakeNow v.number ∷ []) reply.Now)
  plain-took v w None still l =
      let free = allowed-at v.opening.size v.seen [] [] w.seen (entry.TakeNow v.number) l.seen l.legal in
      (refl, rw (lt-ltb 0 (plain_after v).free free) refl)
  plain-took v w (Some k) still l =
      let may = allowed-at v.opening.size v.seen (entry.TakeDoor v.number ∷ entry.Enter v.number k ∷ []) [] w.seen
      (entry.Deliver k) l.seen l.legal in
      let o = fold after_entry (plain_after v) (entry.TakeDoor v.number ∷ entry.Enter v.number k ∷ []) in
      let none = entered-way (at_door (plain_after v) v.number) v.number k ∙ still.way in
      absurd (in-none _ (subst (λ n. Waits k may.0 (take n o.line)) none may.1))

  plain-later : (v w : View Entry T) (k : ℕ) → Legal v (took_entries v.number (Some k) ++ []) w
      → sole_call (plain_after v) (call.Acquire v.number) ≡ tells (took_entries v.number (Some k)) (reply.Later k)
  plain-later v w k l =
      let none = allowed-at v.opening.size v.seen [] (entry.Enter v.number k ∷ []) w.seen (entry.TakeDoor v.number)
      l.seen
      l.legal in
      let entered =
      allowed-at v.opening.size v.seen (entry.TakeDoor v.number ∷ []) [] w.seen (entry.Enter v.number k) l.seen
      l.legal in
      let next : k ≡ (plain_after v).next = entered.1 in
      rw (le-ltb 0 (plain_after v).free (omega arith))
      (ap (λ n. tells (took_entries v.number (Some n)) (reply.Later n)) (sym next))

  pub plain-acquire : (v w : View Entry T) (a : Acquired) → IsQuiet (plain_after v)
      → CallRule v (acquired_entries v.number (Ok a)) (acquired_further (Ok a)) w → v.alone ≡ true → IsPlainAcquire v a
  plain-acquire v w (Now permit) still c alone = plain-took v w (number_of permit) still (legal-alone v w _ _ c alone)
  plain-acquire v w (Later wait) still c alone =
      plain-later v w (place_of wait).index (legal-alone v w _ _ c alone)

  -- a try
  pub plain-got : (v w : View Entry T) → CallRule v (entry.TryGot v.number ∷ []) [] w → v.alone ≡ true
      → sole_call (plain_after v) (call.Try v.number) ≡ tells (entry.TryGot v.number ∷ []) reply.Got
  plain-got v w c alone =
      let l = legal-alone v w _ _ c alone in
      let free = allowed-at v.opening.size v.seen [] [] w.seen (entry.TryGot v.number) l.seen l.legal in
      rw (lt-ltb 0 (plain_after v).free free) refl

  pub plain-busy : (v w : View Entry T) → CallRule v (entry.TryBusy v.number ∷ []) [] w → v.alone ≡ true
      → sole_call (plain_after v) (call.Try v.number) ≡ tells (entry.TryBusy v.number ∷ []) reply.Busy
  plain-busy v w c alone =
      let l = legal-alone v w _ _ c alone in
      let none = allowed-at v.opening.size v.seen [] [] w.seen (entry.TryBusy v.number) l.seen l.legal in
      rw (le-ltb 0 (plain_after v).free (omega arith)) refl

  -- a release
  plain-freed : (v w : View Entry T) → IsQuiet (plain_after v) → Legal v (entry.GiveFreed v.number ∷ []) w
      → sole_call (plain_after v) (call.Release v.number) ≡ tells (entry.GiveFreed v.number ∷ []) reply.Freed
  plain-freed v w still l =
      let may = allowed-at v.opening.size v.seen [] [] w.seen (entry.GiveFreed v.number) l.seen l.legal in
      let enough : (plain_after v).way ≡ due (plain_after v) = may.1 in
      let way = still.way in
      let whole = still.whole in
      by (plain_after v).line refl (omega arith)
    where
      by : (waits : List Waiting) → (plain_after v).line ≡ waits → length (plain_after v).line ≡ 0
          → sole_release v.number (plain_after v).line ≡ tells (entry.GiveFreed v.number ∷ []) reply.Freed
      by [] is none = ap (sole_release v.number) is
      by (x ∷ waits) is none =
          let some : length (plain_after v).line ≡ length waits + 1 = ap (λ l. length l) is ∙ omega arith in
          absurd (omega arith)

  -- a permit that was sent to a line with nothing on its way is the only one there
  sent-way : (v w : View Entry T) (further : List Entry) → IsQuiet (plain_after v)
      → Legal v (entry.GiveSent v.number ∷ further) w → HasLine (plain_after v).line
  sent-way v w further still l =
      let may = allowed-at v.opening.size v.seen [] further w.seen (entry.GiveSent v.number) l.seen l.legal in
      let short : (plain_after v).way < due (plain_after v) = may.1 in
      let door = still.door in
      by (plain_after v).line refl (omega arith)
    where
      by : (waits : List Waiting) → (plain_after v).line ≡ waits → 0 < length (plain_after v).line
          → HasLine (plain_after v).line
      by [] is some = let none : length (plain_after v).line ≡ 0 = ap (λ l. length l) is in absurd (omega arith)
      by (x ∷ waits) is some = subst HasLine (sym is) tt

  plain-sent : (v w : View Entry T) (k : ℕ) → IsQuiet (plain_after v)
      → Legal v (entry.GiveSent v.number ∷ entry.Deliver k ∷ []) w
      → sole_call (plain_after v) (call.Release v.number)
      ≡ tells (entry.GiveSent v.number ∷ entry.Deliver k ∷ []) (reply.Sent k)
  plain-sent v w k still l =
      let may = allowed-at v.opening.size v.seen (entry.GiveSent v.number ∷ []) [] w.seen (entry.Deliver k) l.seen
      l.legal in
      let o = after_entry (plain_after v) (entry.GiveSent v.number) in
      let way = still.way in
      by (plain_after v).line refl (first-of o k (plain_after v).line refl (omega arith) may)
    where
      by : (waits : List Waiting) → (plain_after v).line ≡ waits → IsFirstOf (plain_after v).line k
          → sole_release v.number (plain_after v).line
          ≡ tells (entry.GiveSent v.number ∷ entry.Deliver k ∷ []) (reply.Sent k)
      by [] is first = absurd (subst (λ l. IsFirstOf l k) is first)
      by (x ∷ waits) is first =
          let same : x.wait ≡ k = subst (λ l. IsFirstOf l k) is first in
          ap (sole_release v.number) is
          ∙ ap (λ n. tells (entry.GiveSent v.number ∷ entry.Deliver n ∷ []) (reply.Sent n)) same

  -- the object after one entry more
  after-one : (v w : View Entry T) (e : Entry) → Legal v (e ∷ []) w → plain_after w ≡ after_entry (plain_after v) e
  after-one v w e l =
      ap (λ (o : Opening). object_after o.size w.seen) l.opening_is
      ∙ (ap (object_after v.opening.size) l.seen ∙ fold-append after_entry (opening v.opening.size) v.seen (e ∷ []))

  same-after : (v w : View Entry T) → Legal v [] w → plain_after w ≡ plain_after v
  same-after v w l =
      ap (λ (o : Opening). object_after o.size w.seen) l.opening_is
      ∙ (ap (object_after v.opening.size) l.seen ∙ fold-append after_entry (opening v.opening.size) v.seen [])

  one-on_way : (v w : View Entry T) → IsQuiet (plain_after v) → Legal v (entry.GiveSent v.number ∷ []) w
      → (plain_after w).way ≡ 1
  one-on_way v w still l =
      let way = still.way in
      let now : (plain_after w).way ≡ (plain_after v).way + 1 = ap (λ (o : Semaphore). o.way) (after-one v w _ l) in
      omega arith

  not-quiet : (v w : View Entry T) → IsQuiet (plain_after v) → Legal v (entry.GiveSent v.number ∷ []) w
      → IsQuiet (plain_after w) → ⊥
  not-quiet v w still l rests =
      let one = one-on_way v w still l in let none = rests.way in absurd (omega arith)

  pub plain-release : (v w : View Entry T) (a : Released) → IsQuiet (plain_after v)
      → CallRule v (gave_entries v.number a) (resumed_further a) w → Releases v a w
      → (w.facts.doing ≡ doing.Idle → IsQuiet (plain_after w)) → v.alone ≡ true → IsPlainRelease v a w
  plain-release v w Freed still c r now alone = plain-freed v w still (legal-alone v w _ _ c alone)
  plain-release v w (Sent k) still c r now alone = plain-sent v w k still (legal-alone v w _ _ c alone)
  plain-release v w (Left k) still c r now alone =
      not-quiet v w still (legal-alone v w _ _ c alone) (now r.1.1.ready.idle)
  plain-release v w (Void k) still c r now alone =
      not-quiet v w still (legal-alone v w _ _ c alone) (now r.1.1.ready.idle)
  plain-release v w (Under under) still c r now alone =
      let l = legal-alone v w _ _ c alone in (sent-way v w [] still l, one-on_way v w still l)

  -- its end
  still-one : (v w : View Entry T) → Legal v [] w → (plain_after v).way ≡ 1 → IsQuiet (plain_after w) → ⊥
  still-one v w l one rests =
      let none = rests.way in
      let same : (plain_after w).way ≡ (plain_after v).way = ap (λ (o : Semaphore). o.way) (same-after v w l) in
      absurd (omega arith)

  pub plain-end : (v w : View Entry T) (a : Released) (held : ℕ) (waits : List ℕ) → CallRule v [] (resumed_further a) w
      → Ends v held waits a w → (w.facts.doing ≡ doing.Idle → IsQuiet (plain_after w)) → v.alone ≡ true
      → (plain_after v).way ≡ 1 → IsPlainEnd v a w
  plain-end v w Freed held waits c e now alone one = absurd e
  plain-end v w (Sent k) held waits c e now alone one =
      let l = legal-alone v w _ _ c alone in
      let may = allowed-at v.opening.size v.seen [] [] w.seen (entry.Deliver k) l.seen l.legal in
      first-of (plain_after v) k (plain_after v).line refl one may
  plain-end v w (Left k) held waits c e now alone one =
      still-one v w (legal-alone v w _ _ c alone) one (now e.1.ready.idle)
  plain-end v w (Void k) held waits c e now alone one =
      still-one v w (legal-alone v w _ _ c alone) one (now e.1.ready.idle)
  plain-end v w (Under under) held waits c e now alone one = same-after v w (legal-alone v w _ _ c alone)

  -- with none on its way nothing is delivered
  pub turned-back : (v w : View Entry T) (a : Released) (held : ℕ) (waits : List ℕ)
      → CallRule v [] (resumed_further a) w → Ends v held waits a w → v.alone ≡ true → (plain_after v).way ≡ 0
      → IsTurnedBack v a w
  turned-back v w Freed held waits c e alone none = absurd e
  turned-back v w (Sent k) held waits c e alone none =
      let l = legal-alone v w _ _ c alone in
      let may = allowed-at v.opening.size v.seen [] [] w.seen (entry.Deliver k) l.seen l.legal in
      absurd (in-none _ (subst (λ n. Waits k may.0 (take n (plain_after v).line)) none may.1))
  turned-back v w (Left k) held waits c e alone none = same-after v w (legal-alone v w _ _ c alone)
  turned-back v w (Void k) held waits c e alone none = same-after v w (legal-alone v w _ _ c alone)
  turned-back v w (Under under) held waits c e alone none = same-after v w (legal-alone v w _ _ c alone)

  -- a wait that is in the line, and one that was served
  in-line : (v w : View Entry T) (k : ℕ) (e : Entry) → Legal v (e ∷ []) w → Waits k v.number (plain_after v).line
      → (x : Waiting) × (find_wait k (plain_after v).line ≡ Some x)
  in-line v w k e l waits = let f = found-waits k v.number (plain_after v).line waits in (f.wait, f.is)

  out-of_line : (v w : View Entry T) (k : ℕ) (e : Entry) → Legal v (e ∷ []) w → CellWas state.Resumed k (e ∷ []) w
      → find_wait k (plain_after v).line ≡ None
  out-of_line v w k e l c =
      let was = c.was.was in
      let s : Shape = core_shown (sync_of was.client) (permits_of was.client) was.hidden was.words c.was.before in
      let here : c.was.before ≡ v.seen = append_cancel_right c.was.before v.seen (e ∷ []) (sym c.was.seen ∙ l.seen) in
      let opens : (primitive_of was.client).opening ≡ v.opening = was.opening_is ∙ l.opening_is in
      let same : object_after (permits_of was.client) c.was.before ≡ plain_after v =
      (λ i. object_after (opens i).size (here i)) in
      let shows = shows-object s was.shown.core in
      ap (λ (o : Semaphore). find_wait k o.line) (sym same)
      ∙ (ap (find_wait k) shows.line ∙ served-gone was.hidden.queue k was.holds.0)

  pub plain-pending : (v w : View Entry T) (k : ℕ) → CallRule v (entry.LookPending v.number k ∷ []) [] w
      → v.alone ≡ true
      → sole_call (plain_after v) (call.Poll v.number k) ≡ tells (entry.LookPending v.number k ∷ []) reply.Pending
  plain-pending v w k c alone =
      let l = legal-alone v w _ _ c alone in
      let may = allowed-at v.opening.size v.seen [] [] w.seen (entry.LookPending v.number k) l.seen l.legal in
      let there = in-line v w k _ l may in
      ap (sole_poll v.number k) there.1

  pub plain-granted : (v w : View Entry T) (k : ℕ) → CallRule v (entry.LookGranted v.number k ∷ []) [] w
      → CellWas state.Resumed k (entry.LookGranted v.number k ∷ []) w → v.alone ≡ true
      → sole_call (plain_after v) (call.Poll v.number k) ≡ tells (entry.LookGranted v.number k ∷ []) reply.Granted
  plain-granted v w k c cell alone =
      ap (sole_poll v.number k) (out-of_line v w k _ (legal-alone v w _ _ c alone) cell)

  pub plain-late : (v w : View Entry T) (k : ℕ) → CallRule v (entry.Late v.number k ∷ []) [] w
      → CellWas state.Resumed k (entry.Late v.number k ∷ []) w → v.alone ≡ true
      → sole_call (plain_after v) (call.Cancel v.number k) ≡ tells (entry.Late v.number k ∷ []) reply.TooLate
  plain-late v w k c cell alone =
      ap (sole_cancel v.number k) (out-of_line v w k _ (legal-alone v w _ _ c alone) cell)

  pub plain-left : (v w : View Entry T) (k : ℕ) (further : List Entry)
      → CallRule v (entry.Leave v.number k ∷ []) further w
      → v.alone ≡ true
      → sole_call (plain_after v) (call.Cancel v.number k) ≡ tells (entry.Leave v.number k ∷ []) reply.Cancelled
  plain-left v w k further c alone =
      let l = legal-alone v w _ _ c alone in
      let may = allowed-at v.opening.size v.seen [] further w.seen (entry.Leave v.number k) l.seen l.legal in
      let f = found-waits k v.number (plain_after v).line may in
      ap (sole_cancel v.number k) f.is

  pub none-brought : (v w : View Entry T) (k : ℕ) (passed : Option Released) → IsQuiet (plain_after v)
      → CallRule v (entry.Leave v.number k ∷ []) (passed_further passed) w → v.alone ≡ true → HasNoneOnWay w
  none-brought v w k passed still c alone = by passed (legal-alone v w _ _ c alone)
    where
      left : Legal v (entry.Leave v.number k ∷ []) w → HasNoneOnWay w
      left l =
          ap (λ (o : Semaphore). o.way) (after-one v w _ l) ∙ none-after_leave (plain_after v) v.number k still.way

      by : (passed : Option Released) → Legal v ((entry.Leave v.number k ∷ []) ++ passed_further passed) w
          → HasNoneOnWay w
      by None l = left l
      by (Some Freed) l = left l
      by (Some (Sent n)) l =
          let may = allowed-at v.opening.size v.seen (entry.Leave v.number k ∷ []) [] w.seen (entry.Deliver n) l.seen
          l.legal in
          let o = after_entry (plain_after v) (entry.Leave v.number k) in
          absurd (in-none _ (subst (λ m. Waits n may.0 (take m o.line))
          (none-after_leave (plain_after v) v.number k still.way) may.1))
      by (Some (Left n)) l = left l
      by (Some (Void n)) l = left l
      by (Some (Under under)) l = left l

  pub none-late : (v w : View Entry T) (k : ℕ) → IsQuiet (plain_after v)
      → CallRule v (entry.Late v.number k ∷ []) [] w → v.alone ≡ true → HasNoneOnWay w
  none-late v w k still c alone =
      ap (λ (o : Semaphore). o.way) (after-one v w _ (legal-alone v w _ _ c alone)) ∙ still.way
