-- The calls of a pass that is alone: between two of them no element is on its way where somebody waits, so each is
-- the plain pool's.
use Rattle.std.proofs.Common.{◌≡◌, ◌≢◌, ◌⊎◌, inl, inr, ℕ, zero, suc, ◌+◌, ◌<◌, ◌≤◌, true, List, [], ◌∷◌, ◌++◌, length, Option, Some, None, slice_get, take, sym, refl, ap, ◌∙◌, subst, append_assoc, arith, take_at, ⊎_elim, zero-add}
use Rattle.std.specs.List.{fold}
use Rattle.std.proofs.lemmas.Bool.{cases_lt}
use Rattle.std.proofs.lemmas.List.{length_push, append_cancel_right}
use Rattle.std.proofs.lemmas.List.Elements.{filter-append}
use Rattle.std.proofs.lemmas.List.Sums.{fold-append}
use Rattle.std.proofs.lemmas.Option.{same_Some}
use mathlib.Core.Logic.{dite}
use native.Mathlib.Decide.{ℕ_discrete}
use Rattle.cqs_core.specs.declared.cells.CoreCell.{CoreCell}
use Rattle.cqs_core.specs.declared.cells.CoreState.TheVariants as state
use Rattle.cqs_core.specs.declared.doings.Doing.{Doing}
use Rattle.cqs_core.specs.declared.doings.Doing.TheVariants as doing
use Rattle.cqs_core.specs.Numbered.{count_at}
use Rattle.cqs_core.specs.Parts.{part}
use Rattle.cqs_core.specs.QueueLine.{Waiting, line, in_line, going, is_resuming}
use Rattle.cqs_core.specs.QueueSound.{IsSound}
use Rattle.cqs_core.specs.QueueState.{Queue}
use Rattle.cqs_core.specs.QueueWaiters.{Waits}
use Rattle.cqs_core.specs.Resting.{IsIdle}
use Rattle.cqs_core.proofs.Places.{get-append_left, get-push_at, get-below}
use Rattle.cqs_core.proofs.Counts.{count_by-at}
use Rattle.cqs_core.proofs.Quiet.{count_at-some, none-going, picked-none, cases_waiter, not-in_line, waits-ahead}
use Rattle.cqs_core.proofs.Rising.{in-none, in-behind}
use Rattle.cqs_pool_object.specs.declared.entries.PoolEntry.{PoolEntry}
use Rattle.cqs_pool_object.specs.declared.entries.PoolEntry.TheVariants as entry
use Rattle.cqs_pool_object.specs.PoolEntries.{object_after, after_entry, IsLegal, IsAllowed}
use Rattle.cqs_pool_object.specs.PoolNames.{entry_names}
use Rattle.cqs_pool_object.specs.PoolObject.{Pool, opening, IsGiven}
use Rattle.cqs_pool_object.specs.PoolOrder.{IsByOne, IsFirstOnWay}
use Rattle.cqs_pool_object.proofs.PoolOrder.{first-taken}
use Rattle.cqs_rule_laws.specs.declared.view.View.{View}
use Rattle.cqs_rule_laws.specs.declared.view.Opening.{Opening}
use Rattle.cqs_rule_laws.specs.Alone.{IsAlone, TellsAlone}
use Rattle.cqs_rule_laws.specs.Hidden.{state_at, state_in}
use Rattle.cqs_rule_laws.specs.Lists.{Has, IsDistinct}
use Rattle.cqs_pool.specs.declared.answers.Placed.{Placed}
use Rattle.cqs_pool.specs.declared.answers.Placed.TheVariants.{Sent, Left, Under}
use Rattle.cqs_pool.specs.Alone.{IsFirstOf, CanEnd, IsPlainPut, IsPlainEnd, IsOnlyCaller}
use Rattle.cqs_pool.specs.Answers.{Ends}
use Rattle.cqs_pool.specs.Calls.{CallRule, plain_after}
use Rattle.cqs_pool.specs.Causes.{primitive_of, CellHad}
use Rattle.cqs_pool.specs.Entries.{placed_further}
use Rattle.cqs_pool.specs.Pool.{HasEach, ShowsPool, pool_shown}
use Rattle.cqs_pool.specs.PoolSize.{elements_of}
use Rattle.cqs_rule_laws.proofs.Rules.{part-others}

-- an entry of a legal history may come after those before it
allowed-at : (size : ℕ) (h mid rest all : List PoolEntry) (e : PoolEntry) → all ≡ h ++ (mid ++ e ∷ rest)
    → IsLegal size all → IsAllowed (fold after_entry (object_after size h) mid) e
allowed-at size h mid rest all e is legal =
    let front = h ++ mid in
    let whole : all ≡ front ++ (e ∷ rest) = is ∙ sym (append_assoc h mid (e ∷ rest)) in
    let there : slice_get (front ++ (e ∷ rest)) (length front) ≡ Some e =
    ap (λ l. slice_get l (length front)) (sym (append_assoc front (e ∷ []) rest))
    ∙ get-append_left (front ++ e ∷ []) rest (length front) e (get-push_at front e (length front) refl) in
    let here : IsAllowed (fold after_entry (opening size) (take (length front) all)) e =
    legal.at (length front) e (ap (λ l. slice_get l (length front)) whole ∙ there) in
    let before : take (length front) all ≡ front =
    ap (take (length front)) whole ∙ take_at front (e ∷ rest) (length front) refl in
    subst (λ (o : Pool). IsAllowed o e)
    (ap (fold after_entry (opening size)) before ∙ fold-append after_entry (opening size) h mid) here

-- where just one element is on its way, it is delivered to the first of the line
first-of : (many k : ℕ) (waits : List Waiting) → many ≡ 1 → (c : ℕ) × Waits k c (take many waits) → IsFirstOf waits k
first-of many k [] one may =
    absurd (in-none _ (subst (λ n. Waits k may.0 (take n [])) one may.1))
first-of many k (x ∷ waits) one may =
    let there : Waits k may.0 (x ∷ []) = subst (λ n. Waits k may.0 (take n (x ∷ waits))) one may.1 in
    let same : record { wait = k; pass = may.0 } ≡ x =
    ⊎_elim (λ e. e) (λ later. absurd (in-none _ later)) (in-behind _ x [] there) in
    ap (λ (w : Waiting). w.wait) (sym same)

-- and where nobody waits, none is
none-waits : (many k : ℕ) (waits : List Waiting) → waits ≡ [] → (c : ℕ) × Waits k c (take many waits) → ⊥
none-waits many k waits none may =
    in-none _ (subst (λ l. Waits k may.0 l) (ap (take many) none ∙ take-none many) may.1)
  where
    take-none : (n : ℕ) → take {A = Waiting} n [] ≡ []
    take-none zero = refl
    take-none (suc n) = refl

no-more : {A : Type 0} (l : List A) → length l ≡ 0 → l ≡ []
no-more [] none = refl
no-more (x ∷ l) none = absurd (omega arith)

-- nothing is on its way, or nobody waits
abbrev pub IsOneSided : Pool → Type 0
IsOneSided o = (length o.way ≡ 0) ⊎ (o.line ≡ [])

-- so it is of a queue in which every pass is idle: either the resumes are ahead, or the suspends
one-sided : (q : Queue) → IsSound q → IsIdle q.doing → (going q ≡ 0) ⊎ (line q ≡ [])
one-sided q sound idle = go (cases_lt q.suspends q.resumes)
  where
    gone : q.suspends < q.resumes → (i n : ℕ) (cell : CoreCell) → n ≡ 0 + i → slice_get q.cells i ≡ Some cell
        → in_line q.doing n cell ≡ None
    gone past i n cell at found = by (cases_waiter cell.state)
      where
        here : slice_get q.cells n ≡ Some cell
        here = ap (slice_get q.cells) (at ∙ zero-add i) ∙ found

        by : (cell.state ≡ state.Waiter) ⊎ (cell.state ≢ state.Waiter) → in_line q.doing n cell ≡ None
        by (inl waits) = let ahead = waits-ahead q sound idle n cell here waits in absurd (omega arith)
        by (inr other) = not-in_line q sound idle n cell here other

    go : (q.suspends < q.resumes) ⊎ (q.resumes ≤ q.suspends) → (going q ≡ 0) ⊎ (line q ≡ [])
    go (inl past) = inr (picked-none (in_line q.doing) 0 q.cells (gone past))
    go (inr within) = inl (none-going q sound idle within)

-- the cell of a number that was found with a value
value-cell : (q : Queue) (k : ℕ) → state_at q k ≡ state.Value
    → (cell : CoreCell) × (slice_get q.cells k ≡ Some cell) × (cell.state ≡ state.Value)
value-cell q k is = go (slice_get q.cells k) refl is
  where
    go : (found : Option CoreCell) → slice_get q.cells k ≡ found → state_in found ≡ state.Value
        → (cell : CoreCell) × (slice_get q.cells k ≡ Some cell) × (cell.state ≡ state.Value)
    go None there is = absurd (cc)
    go (Some cell) there is = (cell, there, is)

module _ {T : Type 0} where
  quiet-alone : (v : View PoolEntry T) → IsAlone primitive_of v → v.facts.doing ≡ doing.Idle
      → IsOneSided (plain_after v)
  quiet-alone v a idle =
      let q = a.hidden.queue in
      let pool = a.shown.is_pool in
      let shows = pool.shows in
      let rests : IsIdle q.doing = record { at = λ p d there. idle-at p d there } in
      let same : object_after (elements_of a.client) v.seen ≡ plain_after v =
      ap (λ (o : Opening). object_after o.size v.seen) a.opening_is in
      subst IsOneSided same
      (⊎_elim (λ (none : going q ≡ 0). inl (shows.many ∙ none)) (λ (none : line q ≡ []). inr (shows.line ∙ none))
      (one-sided q pool.sound rests))
    where
      idle-at : (p : ℕ) (d : Doing) → slice_get a.hidden.queue.doing p ≡ Some d → d ≡ doing.Idle
      idle-at p d there = dite (ℕ_discrete p v.number)
          (λ (e : p ≡ v.number). same_Some d doing.Idle
          (sym there ∙ (ap (slice_get a.hidden.queue.doing) e ∙ (a.stands.doing ∙ ap Some idle))))
          (λ (other : p ≢ v.number).
          let below = get-below a.hidden.queue.doing p d there in
          let long = a.places in
          let r = a.others p other (omega arith) in
          same_Some d doing.Idle (sym there ∙ (r.stands.doing ∙ ap Some r.idle)))

  pub quiet : (v : View PoolEntry T) → TellsAlone primitive_of v → v.weight ≡ 1 → v.alone ≡ true
      → v.facts.doing ≡ doing.Idle → IsOneSided (plain_after v)
  quiet v tells_it one alone idle = quiet-alone v (tells_it one alone) idle

  -- all that a pass has seen after a call that it made alone
  record Alone (v : View PoolEntry T) (entries : List PoolEntry) (w : View PoolEntry T) : Type 0 where
    seen : w.seen ≡ v.seen ++ entries
    legal : IsLegal v.opening.size w.seen
    object : plain_after w ≡ fold after_entry (plain_after v) entries

  alone-so : (v w : View PoolEntry T) (own further : List PoolEntry) → CallRule v own further w → v.alone ≡ true
      → Alone v (own ++ further) w
  alone-so v w own further c alone =
      let opening : w.opening ≡ v.opening = c.called.same.opening in
      let seen : w.seen ≡ v.seen ++ (own ++ further) =
      c.called.seen ∙ ap (λ l. v.seen ++ l) (c.called.sole alone) in
      record {
        seen = seen;
        legal = subst (λ (o : Opening). IsLegal o.size w.seen) opening c.legal;
        object = (λ i. object_after (ap (λ (o : Opening). o.size) opening i) (seen i))
            ∙ fold-append after_entry (Rattle.cqs_pool_object.specs.PoolObject.opening v.opening.size) v.seen
            (own ++ further);
      }

  -- a take
  pub plain-took : (v w : View PoolEntry T) (k e : ℕ)
      → CallRule v (entry.Enter v.number k ∷ []) (entry.Deliver k e ∷ []) w → v.alone ≡ true
      → (k ≡ (plain_after v).next) × Rattle.cqs_core.specs.Numbered.IsIn e (plain_after v).way
  plain-took v w k e c alone =
      let a = alone-so v w _ _ c alone in
      let size = v.opening.size in (
        allowed-at size v.seen [] (entry.Deliver k e ∷ []) w.seen (entry.Enter v.number k) a.seen a.legal,
        (allowed-at size v.seen (entry.Enter v.number k ∷ []) [] w.seen (entry.Deliver k e) a.seen a.legal).1,
      )

  pub plain-later : (v w : View PoolEntry T) (k : ℕ) → CallRule v (entry.Enter v.number k ∷ []) [] w → v.alone ≡ true
      → IsOneSided (plain_after w) → (k ≡ (plain_after v).next) × ((plain_after v).way ≡ [])
  plain-later v w k c alone sides =
      let a = alone-so v w _ _ c alone in
      let size = v.opening.size in
      let o = plain_after v in (
        allowed-at size v.seen [] [] w.seen (entry.Enter v.number k) a.seen a.legal,
        no-more o.way (go (subst IsOneSided a.object sides)),
      )
    where
      go : IsOneSided (after_entry (plain_after v) (entry.Enter v.number k)) → length (plain_after v).way ≡ 0
      go (inl none) = none
      go (inr none) =
          let long = length_push (plain_after v).line (record { wait = k; pass = v.number }) in
          let short = ap (λ l. length l) none in
          absurd (omega arith)

  -- a put
  pub plain-put : (v w : View PoolEntry T) (e : ℕ) (a : Placed)
      → CallRule v (entry.Put v.number e ∷ []) (placed_further e a) w → v.alone ≡ true
      → IsOneSided (plain_after v) → (w.facts.doing ≡ doing.Idle → IsOneSided (plain_after w))
      → (elements waits : List ℕ) → Ends v e elements waits a w → IsPlainPut v a w
  plain-put v w e (Sent k) c alone sides then elements waits ends =
      let a = alone-so v w _ _ c alone in
      let o = plain_after v in
      let may = allowed-at v.opening.size v.seen (entry.Put v.number e ∷ []) [] w.seen (entry.Deliver k e) a.seen
      a.legal in
      go may.0 sides
    where
      go : ((c : ℕ) × Waits k c (take (length ((plain_after v).way ++ e ∷ [])) (plain_after v).line))
          → IsOneSided (plain_after v) → IsFirstOf (plain_after v).line k × ((plain_after v).way ≡ [])
      go may (inl none) =
          let long = length_push (plain_after v).way e in (
            first-of (length ((plain_after v).way ++ e ∷ [])) k (plain_after v).line (omega arith) may,
            no-more (plain_after v).way none,
          )
      go may (inr none) = absurd (none-waits _ k (plain_after v).line none may)
  plain-put v w e (Left k) c alone sides then elements waits ends =
      let a = alone-so v w _ _ c alone in
      go (subst IsOneSided a.object (then ends.1.ready.idle))
    where
      go : IsOneSided (after_entry (plain_after v) (entry.Put v.number e)) → (plain_after v).line ≡ []
      go (inl none) = let long = length_push (plain_after v).way e in absurd (omega arith)
      go (inr none) = none
  plain-put v w e (Under under) c alone sides then elements waits ends =
      let a = alone-so v w _ _ c alone in
      subst CanEnd (sym a.object) (go sides)
    where
      go : IsOneSided (plain_after v) → CanEnd (after_entry (plain_after v) (entry.Put v.number e))
      go (inl none) = let long = length_push (plain_after v).way e in inl (omega arith)
      go (inr none) = inr none

  -- the end of one
  pub plain-end : (v w : View PoolEntry T) (e : ℕ) (a : Placed) → CallRule v [] (placed_further e a) w
      → v.alone ≡ true → CanEnd (plain_after v) → (w.facts.doing ≡ doing.Idle → IsOneSided (plain_after w))
      → (elements waits : List ℕ) → Ends v e elements waits a w → IsPlainEnd v a w
  plain-end v w e (Sent k) c alone can then elements waits ends =
      let a = alone-so v w _ _ c alone in
      let may = allowed-at v.opening.size v.seen [] [] w.seen (entry.Deliver k e) a.seen a.legal in
      go may.0 can
    where
      go : ((c : ℕ) × Waits k c (take (length (plain_after v).way) (plain_after v).line)) → CanEnd (plain_after v)
          → IsFirstOf (plain_after v).line k
      go may (inl one) = first-of (length (plain_after v).way) k (plain_after v).line one may
      go may (inr none) = absurd (none-waits _ k (plain_after v).line none may)
  plain-end v w e (Left k) c alone can then elements waits ends =
      let a = alone-so v w _ _ c alone in
      go can (subst IsOneSided a.object (then ends.1.ready.idle))
    where
      go : CanEnd (plain_after v) → IsOneSided (plain_after v) → (plain_after v).line ≡ []
      go (inr none) sides = none
      go (inl one) (inr none) = none
      go (inl one) (inl none) = absurd (omega arith)
  plain-end v w e (Under under) c alone can then elements waits ends = (alone-so v w _ _ c alone).object

  -- a look
  pub plain-granted : (v w : View PoolEntry T) (k e : ℕ) → CallRule v (entry.LookGranted v.number k e ∷ []) [] w
      → v.alone ≡ true → IsGiven k v.number e (plain_after v).served
  plain-granted v w k e c alone =
      let a = alone-so v w _ _ c alone in
      allowed-at v.opening.size v.seen [] [] w.seen (entry.LookGranted v.number k e) a.seen a.legal

  pub plain-pending : (v w : View PoolEntry T) (k : ℕ) → CallRule v (entry.LookPending v.number k ∷ []) [] w
      → v.alone ≡ true → Waits k v.number (plain_after v).line
  plain-pending v w k c alone =
      let a = alone-so v w _ _ c alone in
      allowed-at v.opening.size v.seen [] [] w.seen (entry.LookPending v.number k) a.seen a.legal

  -- a cancel
  pub plain-late : (v w : View PoolEntry T) (k e : ℕ) (further : List PoolEntry)
      → CallRule v (entry.Late v.number k e ∷ []) further w → v.alone ≡ true
      → IsGiven k v.number e (plain_after v).served
  plain-late v w k e further c alone =
      let a = alone-so v w _ _ c alone in
      allowed-at v.opening.size v.seen [] further w.seen (entry.Late v.number k e) a.seen a.legal

  pub plain-leave : (v w : View PoolEntry T) (k : ℕ) → CallRule v (entry.Leave v.number k ∷ []) [] w → v.alone ≡ true
      → Waits k v.number (plain_after v).line × (w.seen ≡ v.seen ++ entry.Leave v.number k ∷ [])
  plain-leave v w k c alone =
      let a = alone-so v w _ _ c alone in
      (allowed-at v.opening.size v.seen [] [] w.seen (entry.Leave v.number k) a.seen a.legal, a.seen)

  -- no element was left to a wait that is in the line
  pub none-owing : (v u : View PoolEntry T) (k : ℕ) → CallRule v (entry.Leave v.number k ∷ []) [] u → v.alone ≡ true
      → IsOneSided (plain_after v) → IsAlone primitive_of u → u.facts.doing ≡ doing.Owes → ⊥
  none-owing v u k c alone sides a owes =
      let q = a.hidden.queue in
      let so = alone-so v u _ _ c alone in
      let same : object_after (elements_of a.client) u.seen ≡ plain_after u =
      ap (λ (o : Opening). object_after o.size u.seen) a.opening_is in
      let many : length (plain_after u).way ≡ going q =
      ap (λ (o : Pool). length o.way) (sym same) ∙ a.shown.is_pool.shows.many in
      let ways : length (plain_after u).way ≡ length (plain_after v).way =
      ap (λ (o : Pool). length o.way) so.object in
      let busy : 0 < count_at (λ n. is_resuming) 0 q.doing =
      count_at-some (λ n. is_resuming) 0 q.doing u.number u.number doing.Owes (omega arith)
      (a.stands.doing ∙ ap Some owes) refl in
      let counted = count_by-at is_resuming q.doing in
      let waits = (plain-leave v u k c alone).0 in
      go sides waits (omega arith)
    where
      go : IsOneSided (plain_after v) → Waits k v.number (plain_after v).line → 0 < length (plain_after v).way → ⊥
      go (inl none) waits some = absurd (omega arith)
      go (inr none) waits some = in-none _ (subst (λ l. Waits k v.number l) none waits)

  -- A pass that is the only caller stays so with each call.
  pub only-kept : (v w : View PoolEntry T) (own further : List PoolEntry) → CallRule v own further w → IsOnlyCaller v
      → IsOnlyCaller w
  only-kept v w own further c only = (
    c.called.same.alone ∙ only.0,
    λ n other. ap (part entry_names n) (alone-so v w own further c only.0).seen
        ∙ (filter-append (entry_names n) v.seen (own ++ further)
        ∙ (λ i. only.1 n (apart n other) i ++ nothing n (apart n other) i)),
  )
    where
      apart : (n : ℕ) → n ≢ w.number → n ≢ v.number
      apart n other same = other (same ∙ sym c.called.same.number)

      nothing : (n : ℕ) → n ≢ v.number → part entry_names n (own ++ further) ≡ []
      nothing n other =
          filter-append (entry_names n) own further ∙ (λ i. c.only n other i ++ c.nobody n i)

  -- it takes the first element
  pub took-first : (v w : View PoolEntry T) (k e : ℕ)
      → CallRule v (entry.Enter v.number k ∷ []) (entry.Deliver k e ∷ []) w → IsOnlyCaller v
      → CellHad state.Value k e (entry.Deliver k e ∷ []) w → IsFirstOnWay e (plain_after v).way
  took-first v w k e c only had =
      let a = alone-so v w _ _ c only.0 in
      let found = had.0.was in
      let was = found.was in
      let log : List PoolEntry = v.seen ++ entry.Enter v.number k ∷ [] in
      let is : found.before ≡ log =
      append_cancel_right found.before log (entry.Deliver k e ∷ [])
      (sym found.seen ∙ (a.seen ∙ sym (append_assoc v.seen (entry.Enter v.number k ∷ []) (entry.Deliver k e ∷ []))))
      in
      let size : elements_of was.client ≡ v.opening.size =
      ap (λ (o : Opening). o.size) (was.opening_is ∙ c.called.same.opening) in
      let shows : ShowsPool v.opening.size was.hidden log =
      subst (λ (z : ℕ × List PoolEntry). ShowsPool z.0 was.hidden z.1) (λ i. (size i, is i)) was.shown in
      let object : object_after v.opening.size log ≡ after_entry (plain_after v) (entry.Enter v.number k) =
      fold-append after_entry (opening v.opening.size) v.seen (entry.Enter v.number k ∷ []) in
      let next : (plain_after v).next + 1 ≡ was.hidden.queue.suspends =
      ap (λ (o : Pool). o.next) (sym object) ∙ shows.is_pool.shows.next in
      let at : k ≡ (plain_after v).next = (plain-took v w k e c only.0).0 in
      let place = value-cell was.hidden.queue k was.holds.0 in
      let by : IsByOne v.number log =
      λ n other. filter-append (entry_names n) v.seen (entry.Enter v.number k ∷ [])
      ∙ (λ i. only.1 n other i
      ++ part-others entry_names v.number (entry.Enter v.number k ∷ []) (λ m. refl, tt) n other i) in
      let first = first-taken (pool_shown v.opening.size was.hidden log) v.number k place.0 shows.is_pool
      shows.in_order by place.1 place.2 (omega arith) in
      let brings : was.hidden.payloads k ≡ e = was.holds.1 ∙ had.1 in
      subst (λ (z : ℕ × List ℕ). IsFirstOnWay z.0 z.1) (λ i. (brings i, (object i).way)) first

-- no element comes twice
pub new-one : (size e : ℕ) (before slots : List ℕ) → HasEach size slots → slots ≡ e ∷ before → Has e before → ⊥
new-one size e before slots known is = (subst IsDistinct is known.once).0
