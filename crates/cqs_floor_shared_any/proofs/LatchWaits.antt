-- The waits of a latch after a legal history: who stands in its line, came to it, and hasn't been served or left; and
-- how it stands where nobody but these callers is named.
use Rattle.std.proofs.Common.{◌≡◌, ◌≢◌, ◌⊎◌, inl, inr, ℕ, zero, suc, ◌+◌, ◌-◌, ◌<◌, ◌≤◌, true, false, List, [], ◌∷◌, ◌++◌, Some, length, take, slice_get, count_by, refl, ap, sym, ◌∙◌, subst, arith, eq-eqb}
use Rattle.std.specs.List.{fold}
use Rattle.std.proofs.lemmas.List.{take_all}
use Rattle.std.proofs.lemmas.List.Sums.{sum_by-append, sum_by-cons}
use Rattle.cqs_core.specs.Keyed.{without}
use Rattle.cqs_core.specs.Numbered.{IsIn}
use Rattle.cqs_core.specs.Parts.{Has, part}
use Rattle.cqs_core.specs.QueueLine.{Service, Waiting}
use Rattle.cqs_core.specs.QueueWaiters.{find_wait, with_service}
use Rattle.cqs_core.proofs.Counts.{bit}
use Rattle.cqs_core.proofs.Distinct.{IsFrom, in-changed, in-placed}
use Rattle.cqs_core.proofs.Histories.{before, object-next, take-next, walk, walk-all}
use Rattle.cqs_core.proofs.Places.{get-below}
use Rattle.cqs_core.proofs.Rising.{IsRising, Lacks, in-behind, in-none, lacks-in, lacks-push, lacks-without, rising-below, rising-left_out, rising-push, rising-without}
use Rattle.cqs_core.proofs.Waits.{IsFound, found-waits, looked_at, service_key, waiting_key}
use Rattle.cqs_latch_object.specs.declared.entries.LatchEntry.{LatchEntry}
use Rattle.cqs_latch_object.specs.declared.entries.LatchEntry.TheVariants as entry
use Rattle.cqs_latch_object.specs.LatchEntries.{IsAllowed, IsLegal, after_entry, object_after}
use Rattle.cqs_latch_object.specs.LatchLaws.{counts_down}
use Rattle.cqs_latch_object.specs.LatchNames.{entry_names}
use Rattle.cqs_latch_object.specs.LatchObject.{Latch, opening}
use Rattle.cqs_latch_object.proofs.Balance.{every-count-is-kept}
use Rattle.cqs_rule_laws.specs.Lists.{IsDistinct}
use Rattle.cqs_floor_shared.specs.Entries.{enters_at_latch}
use Rattle.cqs_floor_shared_any.specs.LatchAccounts.{EndsWait, IsAccounted, IsOver, downs}
use Rattle.cqs_floor_shared_kinds.proofs.Accounts.{over-whole}
use Rattle.cqs_floor_shared_any.proofs.LatchAccounts.{in-back, in-either, in-front, in-kept, in-without, names-one}

-- the wait of the number k came, and stands in the line no more
record IsGone (o : Latch) (k : ℕ) : Type 0 where
  entered : k < o.waiters.next
  absent : Lacks waiting_key k o.waiters.line

-- the line is in order of number, below the next one, and who was served stands in it no more
record AreApart (o : Latch) : Type 0 where
  line : IsRising waiting_key 0 o.waiters.next o.waiters.line
  served : (s : Service) → IsIn s o.waiters.served → IsGone o s.wait

-- A wait that is gone stays gone.
left-out : (o : Latch) (j k : ℕ) → IsGone o k → Lacks waiting_key k (without waiting_key j o.waiters.line)
left-out o j k gone = lacks-without waiting_key k j o.waiters.line gone.absent

gone-entry : (o : Latch) (e : LatchEntry) (k : ℕ) → IsAllowed o e → IsGone o k → IsGone (after_entry o e) k
gone-entry o (entry.DownLeft c n) k allowed gone = record { entered = gone.entered; absent = gone.absent }
gone-entry o (entry.DownLast c) k allowed gone = record { entered = gone.entered; absent = gone.absent }
gone-entry o (entry.DownAlready c) k allowed gone = gone
gone-entry o (entry.Open c) k allowed gone = record { entered = gone.entered; absent = gone.absent }
gone-entry o (entry.Passed c) k allowed gone = gone
gone-entry o (entry.AwaitDoor c) k allowed gone = record { entered = gone.entered; absent = gone.absent }
gone-entry o (entry.Enter c j) k (stands, next) gone =
    let low : k < o.waiters.next = gone.entered in
    let other : j ≢ k = λ e. absurd (omega (arith, e)) in
    record {
      entered = omega arith;
      absent = lacks-push waiting_key k (record { wait = j; pass = c }) o.waiters.line other gone.absent;
    }
gone-entry o (entry.Deliver j) k allowed gone = record { entered = gone.entered; absent = left-out o j k gone }
gone-entry o (entry.Leave c j) k allowed gone = record { entered = gone.entered; absent = left-out o j k gone }
gone-entry o (entry.Miss j) k allowed gone = record { entered = gone.entered; absent = gone.absent }
gone-entry o (entry.Late c j) k allowed gone = record { entered = gone.entered; absent = gone.absent }
gone-entry o (entry.LookGranted c j) k allowed gone = record { entered = gone.entered; absent = gone.absent }
gone-entry o (entry.LookPending c j) k allowed gone = gone

-- who leaves the line is gone
gone-out : (o o' : Latch) (c k : ℕ) → AreApart o → IsIn (record { wait = k; pass = c }) o.waiters.line
    → o'.waiters.next ≡ o.waiters.next → o'.waiters.line ≡ without waiting_key k o.waiters.line → IsGone o' k
gone-out o o' c k a waits next line = record {
  entered = subst (λ n. k < n) (sym next)
      (rising-below waiting_key 0 o.waiters.next (record { wait = k; pass = c }) o.waiters.line a.line waits);
  absent = subst (Lacks waiting_key k) (sym line)
      (rising-left_out waiting_key k 0 o.waiters.next o.waiters.line a.line);
}

-- what is read of those who were served, after one more was, and after one was looked at
served-more : (o o' : Latch) (k c : ℕ) → AreApart o → IsIn (record { wait = k; pass = c }) o.waiters.line
    → ((j : ℕ) → IsGone o j → IsGone o' j) → IsGone o' k
    → (s : Service) → IsIn s (with_service (find_wait k o.waiters.line) o.waiters.served) → IsGone o' s.wait
served-more o o' k c a waits on out s is = go (found-waits k c o.waiters.line waits)
  where
    go : IsFound k c o.waiters.line → IsGone o' s.wait
    go found =
        from (in-placed service_key s (record { wait = found.wait.wait; pass = found.wait.pass; is_open = true })
        o.waiters.served (subst (λ w. IsIn s (with_service w o.waiters.served)) found.is is))
      where
        from : (s ≡ record { wait = found.wait.wait; pass = found.wait.pass; is_open = true })
            ⊎ IsIn s o.waiters.served → IsGone o' s.wait
        from (inl same) = subst (IsGone o') (sym (ap service_key same ∙ found.number)) out
        from (inr there) = on s.wait (a.served s there)

served-looked : (o o' : Latch) (k : ℕ) → AreApart o → ((j : ℕ) → IsGone o j → IsGone o' j) → (s : Service)
    → IsFrom service_key looked_at (λ t. refl) s o.waiters.served → IsGone o' s.wait
served-looked o o' k a on s from = at from.is
  where
    at : (s ≡ from.old) ⊎ (s ≡ looked_at from.old) → IsGone o' s.wait
    at (inl same) = on s.wait (subst (IsGone o) (ap service_key (sym same)) (a.served from.old from.there))
    at (inr same) = on s.wait (subst (IsGone o) (ap service_key (sym same)) (a.served from.old from.there))

apart-entry : (o : Latch) (e : LatchEntry) → IsAllowed o e → AreApart o → AreApart (after_entry o e)
apart-entry o (entry.DownLeft c n) allowed a =
    record { line = a.line; served = λ s is. gone-entry o (entry.DownLeft c n) s.wait allowed (a.served s is) }
apart-entry o (entry.DownLast c) allowed a =
    record { line = a.line; served = λ s is. gone-entry o (entry.DownLast c) s.wait allowed (a.served s is) }
apart-entry o (entry.DownAlready c) allowed a = a
apart-entry o (entry.Open c) allowed a =
    record { line = a.line; served = λ s is. gone-entry o (entry.Open c) s.wait allowed (a.served s is) }
apart-entry o (entry.Passed c) allowed a = a
apart-entry o (entry.AwaitDoor c) allowed a =
    record { line = a.line; served = λ s is. gone-entry o (entry.AwaitDoor c) s.wait allowed (a.served s is) }
apart-entry o (entry.Enter c k) allowed a = record {
  line = rising-push waiting_key 0 o.waiters.next (record { wait = k; pass = c }) o.waiters.line allowed.1 a.line;
  served = λ s is. gone-entry o (entry.Enter c k) s.wait allowed (a.served s is);
}
apart-entry o (entry.Deliver k) (may, (c, waits)) a = record {
  line = rising-without waiting_key k 0 o.waiters.next o.waiters.line a.line;
  served = served-more o (after_entry o (entry.Deliver k)) k c a waits
      (λ j gone. gone-entry o (entry.Deliver k) j (may, (c, waits)) gone)
      (gone-out o (after_entry o (entry.Deliver k)) c k a waits refl refl);
}
apart-entry o (entry.Leave c k) waits a = record {
  line = rising-without waiting_key k 0 o.waiters.next o.waiters.line a.line;
  served = λ s is. gone-entry o (entry.Leave c k) s.wait waits (a.served s is);
}
apart-entry o (entry.Miss k) allowed a =
    record { line = a.line; served = λ s is. gone-entry o (entry.Miss k) s.wait allowed (a.served s is) }
apart-entry o (entry.Late c k) allowed a = record {
  line = a.line;
  served = λ s is. served-looked o (after_entry o (entry.Late c k)) k a
      (λ j gone. gone-entry o (entry.Late c k) j allowed gone) s
      (in-changed service_key looked_at (λ t. refl) k s o.waiters.served is);
}
apart-entry o (entry.LookGranted c k) allowed a = record {
  line = a.line;
  served = λ s is. served-looked o (after_entry o (entry.LookGranted c k)) k a
      (λ j gone. gone-entry o (entry.LookGranted c k) j allowed gone) s
      (in-changed service_key looked_at (λ t. refl) k s o.waiters.served is);
}
apart-entry o (entry.LookPending c k) allowed a = a

apart-opening : (size : ℕ) → AreApart (opening false size)
apart-opening size = record { line = omega arith; served = λ s is. absurd (in-none s is) }

-- what ends a wait leaves it gone
gone-ended : (o : Latch) (e : LatchEntry) (k : ℕ) → AreApart o → IsAllowed o e → EndsWait k e
    → IsGone (after_entry o e) k
gone-ended o (entry.Deliver j) k a (may, (c, waits)) ends =
    subst (IsGone (after_entry o (entry.Deliver j))) ends
    (gone-out o (after_entry o (entry.Deliver j)) c j a waits refl refl)
gone-ended o (entry.Leave c j) k a waits ends =
    subst (IsGone (after_entry o (entry.Leave c j))) ends
    (gone-out o (after_entry o (entry.Leave c j)) c j a waits refl refl)
gone-ended o (entry.Late c j) k a served ends =
    subst (IsGone (after_entry o (entry.Late c j))) ends
    (gone-entry o (entry.Late c j) j served (a.served (record { wait = j; pass = c; is_open = true }) served))
gone-ended o (entry.LookGranted c j) k a served ends =
    subst (IsGone (after_entry o (entry.LookGranted c j))) ends
    (gone-entry o (entry.LookGranted c j) j served (a.served (record { wait = j; pass = c; is_open = true }) served))
gone-ended o (entry.DownLeft c n) k a allowed ends = absurd ends
gone-ended o (entry.DownLast c) k a allowed ends = absurd ends
gone-ended o (entry.DownAlready c) k a allowed ends = absurd ends
gone-ended o (entry.Open c) k a allowed ends = absurd ends
gone-ended o (entry.Passed c) k a allowed ends = absurd ends
gone-ended o (entry.AwaitDoor c) k a allowed ends = absurd ends
gone-ended o (entry.Enter c j) k a allowed ends = absurd ends
gone-ended o (entry.Miss j) k a allowed ends = absurd ends
gone-ended o (entry.LookPending c j) k a allowed ends = absurd ends

-- who stands in the line stood there before, or came by this entry
line-from : (o : Latch) (e : LatchEntry) (w : Waiting) → IsIn w (after_entry o e).waiters.line
    → IsIn w o.waiters.line ⊎ (entry.Enter w.pass w.wait ≡ e)
line-from o (entry.DownLeft c n) w is = inl is
line-from o (entry.DownLast c) w is = inl is
line-from o (entry.DownAlready c) w is = inl is
line-from o (entry.Open c) w is = inl is
line-from o (entry.Passed c) w is = inl is
line-from o (entry.AwaitDoor c) w is = inl is
line-from o (entry.Enter c k) w is = at (in-either w o.waiters.line (record { wait = k; pass = c } ∷ []) is)
  where
    at : IsIn w o.waiters.line ⊎ IsIn w (record { wait = k; pass = c } ∷ [])
        → IsIn w o.waiters.line ⊎ (entry.Enter w.pass w.wait ≡ entry.Enter c k)
    at (inl there) = inl there
    at (inr last) = first (in-behind w (record { wait = k; pass = c }) [] last)
      where
        first : (w ≡ record { wait = k; pass = c }) ⊎ IsIn w []
            → IsIn w o.waiters.line ⊎ (entry.Enter w.pass w.wait ≡ entry.Enter c k)
        first (inl same) = inr (ap (λ (v : Waiting). entry.Enter v.pass v.wait) same)
        first (inr none) = absurd (in-none w none)
line-from o (entry.Deliver k) w is = inl (in-without waiting_key k w o.waiters.line is)
line-from o (entry.Leave c k) w is = inl (in-without waiting_key k w o.waiters.line is)
line-from o (entry.Miss k) w is = inl is
line-from o (entry.Late c k) w is = inl is
line-from o (entry.LookGranted c k) w is = inl is
line-from o (entry.LookPending c k) w is = inl is

module _ (size : ℕ) (h : List LatchEntry) (legal : IsLegal false size h) where
  abbrev object_before : ℕ → Latch
  object_before n = before IsAllowed after_entry (opening false size) h n

  abbrev Entered : ℕ → Latch → Type 0
  Entered n o = (w : Waiting) → IsIn w o.waiters.line → IsIn (entry.Enter w.pass w.wait) (take n h)

  at-end : (P : Latch → Type 0) → P (object_before (length h)) → P (object_after false size h)
  at-end P is = subst (λ l. P (object_after false size l)) (take_all (length h) h (omega arith)) is

  entered-next : (n : ℕ) (e : LatchEntry) → slice_get h n ≡ Some e → Entered n (object_before n)
      → Entered (suc n) (after_entry (object_before n) e)
  entered-next n e got was w is =
      subst (IsIn (entry.Enter w.pass w.wait)) (sym (take-next h n e got)) (at (line-from (object_before n) e w is))
    where
      at : IsIn w (object_before n).waiters.line ⊎ (entry.Enter w.pass w.wait ≡ e)
          → IsIn (entry.Enter w.pass w.wait) (take n h ++ e ∷ [])
      at (inl there) = in-front (entry.Enter w.pass w.wait) (take n h) (e ∷ []) (was w there)
      at (inr same) =
          in-back (entry.Enter w.pass w.wait) (take n h) (e ∷ []) (record { place = zero; there = ap Some (sym same) })

  -- who stands in the line came to it
  pub line-entered : (w : Waiting) → IsIn w (object_after false size h).waiters.line
      → IsIn (entry.Enter w.pass w.wait) h
  line-entered w is =
      let whole : take (length h) h ≡ h = take_all (length h) h (omega arith) in
      let all : Entered (length h) (object_before (length h))
      = walk IsAllowed after_entry (opening false size) h Entered legal
      (λ n e got allowed was. entered-next n e got was) 0 (λ v none. absurd (in-none v none))
      (length h) (length h) (omega arith) (omega arith) in
      subst (IsIn (entry.Enter w.pass w.wait)) whole
      (all w (subst (λ l. IsIn w (object_after false size l).waiters.line) (sym whole) is))

  -- whose wait is over stands in it no more
  pub over-gone : (k : ℕ) → IsOver k h → Lacks waiting_key k (object_after false size h).waiters.line
  over-gone k over =
      let m : ℕ = over.there.place in
      let got : slice_get h m ≡ Some over.by = over.there.there in
      let within : m < length h = get-below h m over.by got in
      let apart : AreApart (object_before m)
      = walk-all IsAllowed after_entry (opening false size) h AreApart legal
      (λ o e allowed a. apart-entry o e allowed a) (apart-opening size) m (omega (arith, within)) in
      let gone : IsGone (object_before (suc m)) k
      = rw (object-next IsAllowed after_entry (opening false size) h m over.by got)
      (gone-ended (object_before m) over.by k apart (legal.at m over.by got) over.ends) in
      let last : IsGone (object_before (length h)) k
      = walk IsAllowed after_entry (opening false size) h (λ n o. IsGone o k) legal
      (λ n e at allowed g. gone-entry (object_before n) e k allowed g)
      (suc m) gone (length h - suc m) (length h) (omega (arith, within)) (omega arith) in
      (at-end (λ o. IsGone o k) last).absent

-- how a latch stands
pub record StandsSo (size counted : ℕ) (o : Latch) : Type 0 where
  pub count : o.count + counted ≡ size
  pub line : o.waiters.line ≡ []

no-line : (line : List Waiting) → ((w : Waiting) → IsIn w line → ⊥) → line ≡ []
no-line [] none = refl
no-line (w ∷ line) none = absurd (none w (record { place = zero; there = refl }))

-- Where nobody but these callers is named, and they have no waits, nobody stands in the line, and all that was
-- counted down was counted by them.
pub stands-so : (size : ℕ) (own : List ℕ) (h : List LatchEntry) (counted : ℕ) → IsLegal false size h → IsDistinct own
    → ((n : ℕ) → (part entry_names n h ≡ []) ⊎ Has n own) → IsAccounted own [] h counted
    → StandsSo size counted (object_after false size h)
stands-so size own h counted legal distinct whole account =
    let all : (object_after false size h).count + count_by counts_down h ≡ size
    = every-count-is-kept false size h legal in
    record {
      count = omega (
        arith,
        all,
        account.counted_is,
        over-whole entry_names downs names-one own distinct h whole,
      );
      line = no-line (object_after false size h).waiters.line nobody;
    }
  where
    owner : (c k : ℕ) → IsIn (entry.Enter c k) h → (part entry_names c h ≡ []) ⊎ Has c own → Has c own
    owner c k there (inl none) =
        let here : IsIn (entry.Enter c k) (part entry_names c h)
        = in-kept (entry_names c) (entry.Enter c k) h (eq-eqb c c refl) there in
        absurd (in-none (entry.Enter c k) (subst (IsIn (entry.Enter c k)) none here))
    owner c k there (inr has) = has

    ended : (k : ℕ) → Has k [] ⊎ IsOver k h → IsOver k h
    ended k (inl none) = absurd none
    ended k (inr over) = over

    nobody : (w : Waiting) → IsIn w (object_after false size h).waiters.line → ⊥
    nobody w is =
        let there = line-entered size h legal w is in
        let over = ended w.wait (account.kept w.pass w.wait (owner w.pass w.wait there (whole w.pass)) there) in
        lacks-in waiting_key w.wait w (object_after false size h).waiters.line refl is
        (over-gone size h legal w.wait over)

-- The next number is how many were drawn.
next-entry : (o : Latch) (e : LatchEntry)
    → (after_entry o e).waiters.next ≡ o.waiters.next + bit (enters_at_latch e)
next-entry o (entry.DownLeft c n) = omega arith
next-entry o (entry.DownLast c) = omega arith
next-entry o (entry.DownAlready c) = omega arith
next-entry o (entry.Open c) = omega arith
next-entry o (entry.Passed c) = omega arith
next-entry o (entry.AwaitDoor c) = omega arith
next-entry o (entry.Enter c k) = refl
next-entry o (entry.Deliver k) = omega arith
next-entry o (entry.Leave c k) = omega arith
next-entry o (entry.Miss k) = omega arith
next-entry o (entry.Late c k) = omega arith
next-entry o (entry.LookGranted c k) = omega arith
next-entry o (entry.LookPending c k) = omega arith

pub first-drawn : (e : LatchEntry) (h : List LatchEntry)
    → count_by enters_at_latch (e ∷ h) ≡ bit (enters_at_latch e) + count_by enters_at_latch h
first-drawn e h = sum_by-cons (λ d. bit (enters_at_latch d)) e h

pub next-drawn : (h : List LatchEntry) (o : Latch)
    → (fold after_entry o h).waiters.next ≡ o.waiters.next + count_by enters_at_latch h
next-drawn [] o = let none : count_by enters_at_latch [] ≡ 0 = refl in omega (arith, none)
next-drawn (e ∷ h) o =
    let rest : (fold after_entry o (e ∷ h)).waiters.next
    ≡ (after_entry o e).waiters.next + count_by enters_at_latch h
    = next-drawn h (after_entry o e) in
    omega (arith, rest, next-entry o e, first-drawn e h)

pub drawn-more : (h more : List LatchEntry) → count_by enters_at_latch h ≤ count_by enters_at_latch (h ++ more)
drawn-more h more =
    let both : count_by enters_at_latch (h ++ more) ≡ count_by enters_at_latch h + count_by enters_at_latch more
    = sum_by-append (λ d. bit (enters_at_latch d)) h more in
    omega (arith, both)
