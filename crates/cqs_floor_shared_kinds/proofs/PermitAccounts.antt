-- What the callers of a semaphore came to: after one call, after a meet, and where all have given all back.
use Rattle.std.proofs.Common.{◌≡◌, ◌⊎◌, inl, inr, ℕ, suc, ◌+◌, ◌<◌, nat_lt, Bool, true, false, List, [], ◌∷◌, ◌++◌, Some, length, take, slice_get, sum_by, refl, ap, subst, arith}
use Rattle.std.proofs.lemmas.List.{length_push, take_all}
use Rattle.std.proofs.lemmas.List.Sums.{sum_by_push}
use Rattle.cqs_core.specs.declared.entries.Entry.{Entry}
use Rattle.cqs_core.specs.declared.entries.Entry.TheVariants as entry
use Rattle.cqs_core.specs.Keyed.{without}
use Rattle.cqs_core.specs.Parts.{Has, part}
use Rattle.cqs_core.specs.QueueLine.{Waiting}
use Rattle.cqs_core.specs.SemaphoreObject.{Semaphore, opening, due, early, early_of}
use Rattle.cqs_core.specs.SemaphoreEntries.{IsAllowed, after_entry, has_spoiled, object_after, turned_back}
use Rattle.cqs_core.specs.SemaphoreNames.{entry_names}
use Rattle.cqs_core.proofs.Balance.{every-history-balanced}
use Rattle.cqs_core.proofs.Histories.{walk, take-next}
use Rattle.cqs_core.proofs.Rising.{in-take, length-without, length-placed}
use Rattle.cqs_core.proofs.Waits.{enters_by}
use Rattle.cqs_rule_laws.specs.Lists.{IsDistinct}
use Rattle.cqs_semaphore_client.specs.PlainHistories.{BreaksNone, IsPlainHistory}
use Rattle.cqs_floor_shared_kinds.specs.Accounts.{NamesOne}
use Rattle.cqs_floor_shared_kinds.specs.PermitAccounts.{IsAccounted, doors, enters, gains, losses}
use Rattle.cqs_floor_shared_kinds.proofs.Accounts.{over-both, over-next, over-parts, over-whole}

-- what names a caller names just one
by-name : (f : Entry → ℕ) → ((k : ℕ) → f (entry.Deliver k) ≡ 0) → NamesOne entry_names f
by-name f none (entry.TakeNow c) = inr (c, λ n. refl)
by-name f none (entry.TakeDoor c) = inr (c, λ n. refl)
by-name f none (entry.Enter c k) = inr (c, λ n. refl)
by-name f none (entry.TryGot c) = inr (c, λ n. refl)
by-name f none (entry.TryBusy c) = inr (c, λ n. refl)
by-name f none (entry.GiveFreed c) = inr (c, λ n. refl)
by-name f none (entry.GiveSent c) = inr (c, λ n. refl)
by-name f none (entry.Deliver k) = inl (none k)
by-name f none (entry.Spoil c k) = inr (c, λ n. refl)
by-name f none (entry.Undo c k) = inr (c, λ n. refl)
by-name f none (entry.Leave c k) = inr (c, λ n. refl)
by-name f none (entry.Late c k) = inr (c, λ n. refl)
by-name f none (entry.LookGranted c k) = inr (c, λ n. refl)
by-name f none (entry.LookPending c k) = inr (c, λ n. refl)

-- a caller went on, and has more or less of it
pub account-next : (number : ℕ) (rest : List ℕ) (seen more entries : List Entry) (has then : ℕ)
    → part entry_names number more ≡ entries → ((n : ℕ) → Has n rest → part entry_names n more ≡ [])
    → sum_by gains entries + has ≡ sum_by losses entries + then
    → sum_by enters entries ≡ sum_by doors entries
    → IsAccounted (number ∷ rest) seen has → IsAccounted (number ∷ rest) (seen ++ more) then
account-next number rest seen more entries has then mine none balance entered account = record {
  even = omega (
    arith,
    account.even,
    balance,
    over-next entry_names gains number rest seen more entries mine none,
    over-next entry_names losses number rest seen more entries mine none,
  );
  entered = omega (
    arith,
    account.entered,
    entered,
    over-next entry_names enters number rest seen more entries mine none,
    over-next entry_names doors number rest seen more entries mine none,
  );
}

-- two lists of callers, each of which has done the same as it had
pub account-both : (own others : List ℕ) (h theirs all : List Entry) (has had : ℕ)
    → ((n : ℕ) → Has n own → part entry_names n all ≡ part entry_names n h)
    → ((n : ℕ) → Has n others → part entry_names n all ≡ part entry_names n theirs)
    → IsAccounted own h has → IsAccounted others theirs had → IsAccounted (own ++ others) all (has + had)
account-both own others h theirs all has had mine also a b = record {
  even = omega (
    arith,
    a.even,
    b.even,
    over-both entry_names gains own others all,
    over-both entry_names losses own others all,
    over-parts entry_names gains own h all mine,
    over-parts entry_names losses own h all mine,
    over-parts entry_names gains others theirs all also,
    over-parts entry_names losses others theirs all also,
  );
  entered = omega (
    arith,
    a.entered,
    b.entered,
    over-both entry_names enters own others all,
    over-both entry_names doors own others all,
    over-parts entry_names enters own h all mine,
    over-parts entry_names doors own h all mine,
    over-parts entry_names enters others theirs all also,
    over-parts entry_names doors others theirs all also,
  );
}

-- what has come to callers, by the entries so far, of which none broke a number
pub record Adds (o : Semaphore) (gained lost at_door entered : ℕ) : Type 0 where
  pub had : o.held + length o.line + lost ≡ gained
  pub door : length o.door + entered ≡ at_door
  pub whole : o.spoiled ≡ []

adds-turned : (o : Semaphore) (gained lost at_door entered : ℕ) → Adds o gained lost at_door entered
    → Adds (turned_back o) gained lost at_door entered
adds-turned o gained lost at_door entered adds = go (nat_lt (due o) o.way) refl
  where
    go : (b : Bool) → nat_lt (due o) o.way ≡ b → Adds (turned_back o) gained lost at_door entered
    go true is = rw is (record { had = adds.had; door = adds.door; whole = adds.whole })
    go false is = rw is adds

adds-entry : (o : Semaphore) (e : Entry) (gained lost at_door entered : ℕ) → BreaksNone e → IsAllowed o e
    → Adds o gained lost at_door entered
    → Adds (after_entry o e) (gained + gains e) (lost + losses e) (at_door + doors e) (entered + enters e)
adds-entry o (entry.TakeNow c) gained lost at_door entered breaks free a =
    let had = a.had in let door = a.door in record { had = omega arith; door = omega arith; whole = a.whole }
adds-entry o (entry.TakeDoor c) gained lost at_door entered breaks none a =
    let had = a.had in let door = a.door in
    let longer = length-placed (λ d. d) c o.door in
    record { had = omega arith; door = omega (arith, longer); whole = a.whole }
adds-entry o (entry.Enter c k) gained lost at_door entered breaks (stands, next, may) a =
    go (has_spoiled k o.spoiled) (ap (has_spoiled k) a.whole)
  where
    go : (b : Bool) → b ≡ false
        → Adds (enters_by o c k b) (gained + 1) (lost + 0) (at_door + 0) (entered + 1)
    go true broken = absurd (cc)
    go false unbroken =
        let had = a.had in let door = a.door in
        let shorter = length-without (λ d. d) c c o.door refl stands in
        let longer = length_push o.line (record { wait = k; pass = c }) in
        record { had = omega (arith, longer); door = omega (arith, shorter); whole = a.whole }
adds-entry o (entry.TryGot c) gained lost at_door entered breaks free a =
    let had = a.had in let door = a.door in record { had = omega arith; door = omega arith; whole = a.whole }
adds-entry o (entry.TryBusy c) gained lost at_door entered breaks none a =
    let had = a.had in let door = a.door in record { had = omega arith; door = omega arith; whole = a.whole }
adds-entry o (entry.GiveFreed c) gained lost at_door entered breaks (some, all) a =
    let had = a.had in let door = a.door in record { had = omega (arith, some); door = omega arith; whole = a.whole }
adds-entry o (entry.GiveSent c) gained lost at_door entered breaks (some, few) a =
    let had = a.had in let door = a.door in record { had = omega (arith, some); door = omega arith; whole = a.whole }
adds-entry o (entry.Deliver k) gained lost at_door entered breaks (c, waits) a =
    let had = a.had in let door = a.door in
    let among = in-take (record { wait = k; pass = c }) o.way o.line waits in
    let shorter = length-without (λ w. w.wait) k (record { wait = k; pass = c }) o.line refl among.1 in
    record { had = omega (arith, shorter); door = omega arith; whole = a.whole }
adds-entry o (entry.Spoil c k) gained lost at_door entered breaks may a = absurd breaks
adds-entry o (entry.Undo c k) gained lost at_door entered breaks may a = absurd breaks
adds-entry o (entry.Leave c k) gained lost at_door entered breaks waits a =
    let had = a.had in let door = a.door in
    let shorter = length-without (λ w. w.wait) k (record { wait = k; pass = c }) o.line refl waits in
    let left : Adds (record o { line = without (λ w. w.wait) k o.line })
    (gained + 0) (lost + 1) (at_door + 0) (entered + 0)
    = record { had = omega (arith, shorter); door = omega arith; whole = a.whole } in
    adds-turned (record o { line = without (λ w. w.wait) k o.line })
    (gained + 0) (lost + 1) (at_door + 0) (entered + 0) left
adds-entry o (entry.Late c k) gained lost at_door entered breaks served a =
    let had = a.had in let door = a.door in record { had = omega arith; door = omega arith; whole = a.whole }
adds-entry o (entry.LookGranted c k) gained lost at_door entered breaks served a =
    let had = a.had in let door = a.door in record { had = omega arith; door = omega arith; whole = a.whole }
adds-entry o (entry.LookPending c k) gained lost at_door entered breaks waits a =
    let had = a.had in let door = a.door in record { had = omega arith; door = omega arith; whole = a.whole }

abbrev AddsUp : List Entry → Semaphore → Type 0
AddsUp h o = Adds o (sum_by gains h) (sum_by losses h) (sum_by doors h) (sum_by enters h)

adds-next : (history : List Entry) (n : ℕ) (e : Entry) (o : Semaphore) → slice_get history n ≡ Some e
    → BreaksNone e → IsAllowed o e → AddsUp (take n history) o → AddsUp (take (suc n) history) (after_entry o e)
adds-next history n e o got breaks allowed adds =
    let front : List Entry = take n history in
    rw (
      take-next history n e got,
      sum_by_push gains front e,
      sum_by_push losses front e,
      sum_by_push doors front e,
      sum_by_push enters front e,
    )
    (adds-entry o e _ _ _ _ breaks allowed adds)

-- a legal history adds up
adds-up : (permits : ℕ) (history : List Entry) → IsPlainHistory permits history
    → AddsUp history (object_after permits history)
adds-up permits history plain =
    let whole : AddsUp (take (length history) history) (object_after permits (take (length history) history))
    = walk IsAllowed after_entry (opening permits) history (λ n o. AddsUp (take n history) o) plain.legal
    (λ n e got allowed adds. adds-next history n e _ got (plain.unbroken.at n e got) allowed adds) 0
    (record { had = refl; door = refl; whole = refl })
    (length history) (length history) (omega arith) (omega arith) in
    subst (λ h. AddsUp h (object_after permits h)) (take_all (length history) history (omega arith)) whole

-- nobody holds a permit, none is on its way, and nobody is at the door or in the line
pub record IsAtRest (permits : ℕ) (o : Semaphore) : Type 0 where
  pub free : o.free ≡ permits
  pub held : o.held ≡ 0
  pub line : o.line ≡ []

no-line : (line : List Waiting) → length line ≡ 0 → line ≡ []
no-line [] none = refl
no-line (w ∷ line) none = absurd (omega (arith, none))

-- Where nobody but these callers is named, and they have nothing of it, the semaphore is at rest.
pub rests : (permits : ℕ) (own : List ℕ) (h : List Entry) → IsPlainHistory permits h → IsDistinct own
    → ((n : ℕ) → (part entry_names n h ≡ []) ⊎ Has n own) → IsAccounted own h 0
    → IsAtRest permits (object_after permits h)
rests permits own h plain distinct whole account =
    let o : Semaphore = object_after permits h in
    let all : AddsUp h o = adds-up permits h plain in
    let balanced = every-history-balanced permits h plain.legal in
    let gained = over-whole entry_names gains (by-name gains (λ k. refl)) own distinct h whole in
    let lost = over-whole entry_names losses (by-name losses (λ k. refl)) own distinct h whole in
    let entered = over-whole entry_names enters (by-name enters (λ k. refl)) own distinct h whole in
    let at_door = over-whole entry_names doors (by-name doors (λ k. refl)) own distinct h whole in
    let none_early : early o ≡ 0 = ap (early_of o.next) all.whole in
    let wanted : o.way < length o.door + length o.line + 1 = omega (arith, balanced.wanted, none_early) in
    let held : o.held ≡ 0 = omega (arith, all.had, gained, lost, account.even) in
    let line : length o.line ≡ 0 = omega (arith, all.had, gained, lost, account.even) in
    let door : length o.door ≡ 0 = omega (arith, all.door, entered, at_door, account.entered) in
    record {
      free = omega (arith, balanced.conserved, held, line, door, wanted);
      held = held;
      line = no-line o.line line;
    }
