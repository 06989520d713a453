-- Who isn't in a line any more doesn't come back to it under the same number: what each deed at a resource keeps.
use Rattle.std.proofs.Common.{◌≡◌, ◌≢◌, ◌⊎◌, inl, inr, ℕ, ◌<◌, ◌==◌, ◌||◌, Bool, true, false, List, [], ◌∷◌, ◌++◌, Option, length, map, refl, sym, ap, subst, ◌∙◌, ne_eqb, arith}
use Rattle.std.specs.List.{fold}
use Rattle.std.proofs.lemmas.Bool.{cases_eq}
use Rattle.std.proofs.lemmas.List.Folds.{list_any-append}
use Rattle.cqs_core.specs.Keyed.{without}
use Rattle.cqs_core.specs.QueueLine.{Waiting}
use Rattle.cqs_core.specs.SemaphoreObject.{Semaphore}
use Rattle.cqs_core.specs.SemaphoreEntries.{after_entry, at_door, has_spoiled}
use Rattle.cqs_pool_object.specs.PoolObject.{Pool}
use Rattle.cqs_latch_object.specs.declared.entries.LatchEntry.TheVariants as latch
use Rattle.cqs_latch_object.specs.LatchEntries.{after_entry as latch_entry}
use Rattle.cqs_latch_object.specs.LatchObject.{Latch}
use Rattle.cqs_barrier_object.specs.declared.entries.BarrierEntry.TheVariants as barrier
use Rattle.cqs_barrier_object.specs.BarrierEntries.{after_entry as barrier_entry}
use Rattle.cqs_barrier_object.specs.BarrierObject.{Barrier}
use Rattle.cqs_plan.specs.FloorHistory.{History, of_permits, of_elements, of_latch, of_rounds, Deed, Standing, takes, joins, frees, sends, gets, leaves, is_late, passes, counts, opens, is_open, completes, permit_entries, permits_after, elements_after, latch_after, barrier_after, entries_in, with_deed_in, standing_in}
use Rattle.cqs_plan.specs.Floor.{PlainFloor, JobWait, Holding, history_at, size_at, stands_in, with_done_in}
use Rattle.cqs_turns_report.proofs.ToCome.{latch_then, barrier_then, latch-then}
use Rattle.cqs_turns_laws.proofs.DeedParts.{HasPart, part-kept}
use Rattle.cqs_turns_laws.proofs.Deeds.{JoinsNext, elements-then, next-after, permits-then, pool_then, round-then, standing-away}
use Rattle.cqs_turns_laws.proofs.Lined.{changed_floor}
use Rattle.cqs_core.proofs.Waits.{enters_by}
use Rattle.cqs_turns_laws.proofs.Lines.{in_line, turned-line}
use Rattle.cqs_turns_laws.proofs.Objects.{history-here, history-else, standing-here, standing-else}

or-false : (a b : Bool) → (a || b) ≡ false → (a ≡ false) × (b ≡ false)
or-false true b none = absurd (cc)
or-false false b none = (refl, none)

-- who isn't in the line isn't when another joins it, or leaves it
gone-longer : (k : ℕ) (line : List Waiting) (w : Waiting) → w.wait ≢ k → in_line k line ≡ false
    → in_line k (line ++ w ∷ []) ≡ false
gone-longer k line w other gone =
    list_any-append (λ v. v.wait == k) line (w ∷ []) ∙ rw (gone, ne_eqb w.wait k other) refl

gone-fewer : (k n : ℕ) (line : List Waiting) → in_line k line ≡ false
    → in_line k (without (λ w. w.wait) n line) ≡ false
gone-fewer k n [] gone = gone
gone-fewer k n (w ∷ line) gone =
    by (n == w.wait) refl (or-false (w.wait == k) (in_line k line) gone) (gone-fewer k n line)
  where
    by : (b : Bool) → n == w.wait ≡ b → (w.wait == k ≡ false) × (in_line k line ≡ false)
        → (in_line k line ≡ false → in_line k (without (λ w. w.wait) n line) ≡ false)
        → in_line k (without (λ w. w.wait) n (w ∷ line)) ≡ false
    by true same both rest = rw same both.1
    by false other both rest = rw (other, both.0) (rest both.1)

gone-permits : (o : Semaphore) (deed : Deed) (k : ℕ) → JoinsNext o.next deed → k ≢ o.next → in_line k o.line ≡ false
    → in_line k (fold after_entry o (permit_entries deed)).line ≡ false
gone-permits o (takes e) k fits other gone = gone
gone-permits o (joins j) k fits other gone = go (has_spoiled j o.spoiled)
  where
    go : (b : Bool) → in_line k (enters_by (at_door o 0) 0 j b).line ≡ false
    go true = gone
    go false = gone-longer k o.line (record { wait = j; pass = 0 }) (λ same. other (sym same ∙ fits)) gone
gone-permits o (frees e) k fits other gone = gone
gone-permits o (sends e j) k fits other gone = gone-fewer k j o.line gone
gone-permits o (gets j e) k fits other gone = gone
gone-permits o (leaves j) k fits other gone =
    ap (in_line k) (turned-line (record o { line = without (λ w. w.wait) j o.line })) ∙ gone-fewer k j o.line gone
gone-permits o (is_late j e) k fits other gone = gone
gone-permits o passes k fits other gone = gone
gone-permits o (counts n) k fits other gone = gone
gone-permits o opens k fits other gone = gone
gone-permits o is_open k fits other gone = gone
gone-permits o completes k fits other gone = gone

gone-elements : (o : Pool) (deed : Deed) (k : ℕ) → JoinsNext o.next deed → k ≢ o.next → in_line k o.line ≡ false
    → in_line k (pool_then o deed).line ≡ false
gone-elements o (takes e) k fits other gone =
    gone-fewer k o.next (o.line ++ record { wait = o.next; pass = 0 } ∷ [])
    (gone-longer k o.line (record { wait = o.next; pass = 0 }) (λ same. other (sym same)) gone)
gone-elements o (joins j) k fits other gone =
    gone-longer k o.line (record { wait = j; pass = 0 }) (λ same. other (sym same ∙ fits)) gone
gone-elements o (frees e) k fits other gone = gone
gone-elements o (sends e j) k fits other gone = gone-fewer k j o.line gone
gone-elements o (gets j e) k fits other gone = gone
gone-elements o (leaves j) k fits other gone = gone-fewer k j o.line gone
gone-elements o (is_late j e) k fits other gone = gone
gone-elements o passes k fits other gone = gone
gone-elements o (counts n) k fits other gone = gone
gone-elements o opens k fits other gone = gone
gone-elements o is_open k fits other gone = gone
gone-elements o completes k fits other gone = gone

gone-latch_reached : (k : ℕ) (line : List Waiting) (o : Latch) → in_line k o.waiters.line ≡ false
    → in_line k (fold latch_entry o (map (λ w. latch.Deliver w.wait) line)).waiters.line ≡ false
gone-latch_reached k [] o gone = gone
gone-latch_reached k (w ∷ line) o gone =
    gone-latch_reached k line (latch_entry o (latch.Deliver w.wait)) (gone-fewer k w.wait o.waiters.line gone)

gone-barrier_reached : (k : ℕ) (line : List Waiting) (o : Barrier) → in_line k o.waiters.line ≡ false
    → in_line k (fold barrier_entry o (map (λ w. barrier.Deliver w.wait) line)).waiters.line ≡ false
gone-barrier_reached k [] o gone = gone
gone-barrier_reached k (w ∷ line) o gone =
    gone-barrier_reached k line (barrier_entry o (barrier.Deliver w.wait)) (gone-fewer k w.wait o.waiters.line gone)

gone-latch : (o : Latch) (deed : Deed) (k : ℕ) → JoinsNext o.waiters.next deed → k ≢ o.waiters.next
    → in_line k o.waiters.line ≡ false → in_line k (latch_then o deed).waiters.line ≡ false
gone-latch o (takes e) k fits other gone = gone
gone-latch o (joins j) k fits other gone =
    gone-longer k o.waiters.line (record { wait = j; pass = 0 }) (λ same. other (sym same ∙ fits)) gone
gone-latch o (frees e) k fits other gone = gone
gone-latch o (sends e j) k fits other gone = gone
gone-latch o (gets j e) k fits other gone = gone
gone-latch o (leaves j) k fits other gone = gone-fewer k j o.waiters.line gone
gone-latch o (is_late j e) k fits other gone = gone
gone-latch o passes k fits other gone = gone
gone-latch o (counts n) k fits other gone = gone
gone-latch o opens k fits other gone =
    gone-latch_reached k o.waiters.line (latch_entry (latch_entry o (latch.DownLast 0)) (latch.Open 0)) gone
gone-latch o is_open k fits other gone = gone
gone-latch o completes k fits other gone = gone

gone-barrier : (o : Barrier) (deed : Deed) (k : ℕ) → JoinsNext o.waiters.next deed → k ≢ o.waiters.next
    → in_line k o.waiters.line ≡ false → in_line k (barrier_then o deed).waiters.line ≡ false
gone-barrier o (takes e) k fits other gone = gone
gone-barrier o (joins j) k fits other gone =
    gone-longer k o.waiters.line (record { wait = j; pass = 0 }) (λ same. other (sym same ∙ fits)) gone
gone-barrier o (frees e) k fits other gone = gone
gone-barrier o (sends e j) k fits other gone = gone
gone-barrier o (gets j e) k fits other gone = gone
gone-barrier o (leaves j) k fits other gone = gone-fewer k j o.waiters.line gone
gone-barrier o (is_late j e) k fits other gone = gone
gone-barrier o passes k fits other gone = gone
gone-barrier o (counts n) k fits other gone = gone
gone-barrier o opens k fits other gone = gone
gone-barrier o is_open k fits other gone = gone
gone-barrier o completes k fits other gone =
    gone-barrier_reached k o.waiters.line (barrier_entry o (barrier.ArriveLast 0)) gone

gone-after : (size : ℕ) (h : History) (round : ℕ) (deed : Deed) (k : ℕ) → HasPart h round
    → JoinsNext (standing_in size h round).next deed → k ≢ (standing_in size h round).next
    → in_line k (standing_in size h round).line ≡ false
    → in_line k (standing_in size (with_deed_in size h round deed) round).line ≡ false
gone-after size (of_permits entries) round deed k part fits other gone =
    ap (λ (o : Semaphore). in_line k o.line) (permits-then size entries deed)
    ∙ gone-permits (permits_after size entries) deed k fits other gone
gone-after size (of_elements entries) round deed k part fits other gone =
    ap (λ (o : Pool). in_line k o.line) (elements-then size entries deed)
    ∙ gone-elements (elements_after size entries) deed k fits other gone
gone-after size (of_latch entries) round deed k part fits other gone =
    ap (λ (o : Latch). in_line k o.waiters.line) (latch-then size entries deed)
    ∙ gone-latch (latch_after size entries) deed k fits other gone
gone-after size (of_rounds all) round deed k part fits other gone =
    ap (λ (o : Barrier). in_line k o.waiters.line) (round-then size all round deed part)
    ∙ gone-barrier (barrier_after size (entries_in all round)) deed k fits other gone

-- the number was drawn there, and nobody stands in the line under it
pub record IsGone (f : PlainFloor) (at round k : ℕ) : Type 0 where
  pub part : HasPart (history_at f at) round
  pub below : k < (stands_in f at round).next
  pub gone : in_line k (stands_in f at round).line ≡ false

-- who is gone on the one floor is so on the other
abbrev pub Later : PlainFloor → PlainFloor → Type 0
Later f g = (at round k : ℕ) → IsGone f at round k → IsGone g at round k

-- so it is after a deed
pub later-by : (f : PlainFloor) (at round : ℕ) (deed : Deed) → at < length f.histories → HasPart (history_at f at) round
    → JoinsNext (stands_in f at round).next deed → (room : List ℕ) (waits : List (Option JobWait))
    (holds : List (List Holding)) (rounds : List (List ℕ))
    → Later f (changed_floor f at round deed room waits holds rounds)
later-by f at round deed there part fits room waits holds rounds q r k was = go (cases_eq q at) (cases_eq r round)
  where
    d : PlainFloor
    d = with_done_in f at round deed

    same-stand : Standing → HasPart (history_at (with_done_in f at round deed) q) r
        → stands_in (with_done_in f at round deed) q r ≡ stands_in f q r
        → IsGone (changed_floor f at round deed room waits holds rounds) q r k
    same-stand x now is = record {
      part = now;
      below = omega (arith, ap (λ (s : Standing). s.next) is, was.below);
      gone = ap (λ (s : Standing). in_line k s.line) is ∙ was.gone;
    }

    go : (q ≡ at) ⊎ (q ≢ at) → (r ≡ round) ⊎ (r ≢ round)
        → IsGone (changed_floor f at round deed room waits holds rounds) q r k
    go (inl here) (inl same) =
        let own_part : HasPart (history_at (with_done_in f at round deed) at) round
        = subst (λ h. HasPart h round) (sym (history-here f at round deed there))
        (part-kept (size_at f at) (history_at f at) round round deed part) in
        let below : k < (stands_in f at round).next = rw (here, same) at was.below in
        let away : in_line k (stands_in f at round).line ≡ false = rw (here, same) at was.gone in
        let stands = standing-here f at round deed round there in
        rw (here, same) (record {
          part = own_part;
          below = omega (
            arith,
            below,
            ap (λ (s : Standing). s.next) stands,
            next-after (size_at f at) (history_at f at) round deed part,
          );
          gone = ap (λ (s : Standing). in_line k s.line) stands
              ∙ gone-after (size_at f at) (history_at f at) round deed k part fits
              (λ is. omega (arith, is, below)) away;
        })
    go (inl here) (inr other) =
        let own : HasPart (history_at f at) r = rw here at was.part in
        let now : HasPart (history_at (with_done_in f at round deed) at) r
        = subst (λ h. HasPart h r) (sym (history-here f at round deed there))
        (part-kept (size_at f at) (history_at f at) round r deed own) in
        same-stand (stands_in f q r) (rw here now) (rw here (standing-here f at round deed r there
        ∙ standing-away (size_at f at) (history_at f at) round r deed part own other))
    go (inr other) either =
        same-stand (stands_in f q r) (subst (λ h. HasPart h r) (sym (history-else f at round deed q other)) was.part)
        (standing-else f at round deed q r other)
