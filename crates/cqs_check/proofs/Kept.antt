-- What the judge knows of the broken numbers, where its table changes.
use Rattle.std.proofs.Common.{◌≡◌, ◌⊎◌, inl, inr, ℕ, zero, suc, ◌+◌, ◌≤◌, List, [], ◌∷◌, ◌++◌, length, set, Option, Some, None, is_some, true, false, slice_get, refl, sym, ap, ◌∙◌, arith}
use Rattle.std.proofs.lemmas.List.{length_push}
use Rattle.cqs_check.specs.declared.broken.Broken.{Broken}
use Rattle.cqs_check.specs.declared.judge.Judge.{Judge}
use Rattle.cqs_check.specs.declared.waits.WaitState.{WaitState}
use Rattle.cqs_check.specs.declared.waits.WaitState.TheVariants as wait
use Rattle.cqs_check.specs.declared.waits.Table.{Table}
use Rattle.cqs_check.specs.BrokenNumbers.{owner_in, AreBroken, HasBroken}
use Rattle.cqs_core.specs.Numbered.{pick_each}
use Rattle.cqs_core.specs.SemaphoreObject.{opening}
use Rattle.cqs_check.specs.Doors.{IsDoor}
use Rattle.cqs_check.specs.Lines.{IsTable, Becomes, flag, line_of, served_of, waiting_at, served_at}
use Rattle.cqs_check.specs.Judging.{IsJudge, Stands}
use Rattle.cqs_check.proofs.BrokenLists.{broken-next}

-- who waits in the line waits under a number that isn't broken
abbrev pub AreApart : Broken → List WaitState → Type 0
AreApart b ws = (k c : ℕ) → slice_get ws k ≡ Some (wait.Waiting c) → owner_in b k ≡ None

set-length : (ws : List WaitState) (k : ℕ) (x : WaitState) → length (set ws k x) ≡ length ws
set-length [] k x = refl
set-length (w ∷ ws) zero x = refl
set-length (w ∷ ws) (suc k) x = ap suc (set-length ws k x)

-- who waits after a change waited before it
pub still-waiting : (ws : List WaitState) (k : ℕ) (x : WaitState) (m d : ℕ) → flag (Some x) ≡ 0
    → slice_get (set ws k x) m ≡ Some (wait.Waiting d) → slice_get ws m ≡ Some (wait.Waiting d)
still-waiting [] k x m d gone is = is
still-waiting (w ∷ ws) zero x zero d gone is =
    let one : flag (Some x) ≡ 1 = ap flag is in absurd (omega (arith, one, gone))
still-waiting (w ∷ ws) zero x (suc m) d gone is = is
still-waiting (w ∷ ws) (suc k) x zero d gone is = is
still-waiting (w ∷ ws) (suc k) x (suc m) d gone is = still-waiting ws k x m d gone is

pub became-length : (t u : Table) (k : ℕ) (x : WaitState) → Becomes t k x u
    → length u.waits.items ≡ length t.waits.items
became-length t u k x becomes = ap length becomes.waits ∙ set-length t.waits.items k x

pub became-broken : (t u : Table) (k : ℕ) (x : WaitState) (b c : Broken) → Becomes t k x u → c ≡ b
    → HasBroken b (length t.waits.items) → HasBroken c (length u.waits.items)
became-broken t u k x b c becomes same has = rw (same, became-length t u k x becomes) has

pub became-apart : (t u : Table) (k : ℕ) (x : WaitState) (b c : Broken) → flag (Some x) ≡ 0 → Becomes t k x u
    → c ≡ b → AreApart b t.waits.items → AreApart c u.waits.items
became-apart t u k x b c gone becomes same apart = λ m d is.
    rw same (apart m d (still-waiting t.waits.items k x m d gone
    (ap (λ l. slice_get l m) (sym becomes.waits) ∙ is)))

-- where the table stays
pub same-broken : (t u : Table) (b c : Broken) → u ≡ t → c ≡ b → HasBroken b (length t.waits.items)
    → HasBroken c (length u.waits.items)
same-broken t u b c table same has = rw (table, same) has

pub same-apart : (t u : Table) (b c : Broken) → u ≡ t → c ≡ b → AreApart b t.waits.items → AreApart c u.waits.items
same-apart t u b c table same apart = rw (table, same) apart

-- who waits in a longer table waited before, or is the last of it
pub waits-pushed : (ws : List WaitState) (x : WaitState) (m d : ℕ) → slice_get (ws ++ x ∷ []) m ≡ Some (wait.Waiting d)
    → (slice_get ws m ≡ Some (wait.Waiting d)) ⊎ ((m ≡ length ws) × (x ≡ wait.Waiting d))
waits-pushed [] x zero d is = inr (refl, cc is)
waits-pushed [] x (suc m) d is = absurd (cc is)
waits-pushed (w ∷ ws) x zero d is = inl is
waits-pushed (w ∷ ws) x (suc m) d is = go (waits-pushed ws x m d is)
  where
    go : (slice_get ws m ≡ Some (wait.Waiting d)) ⊎ ((m ≡ length ws) × (x ≡ wait.Waiting d))
        → (slice_get ws m ≡ Some (wait.Waiting d)) ⊎ ((suc m ≡ suc (length ws)) × (x ≡ wait.Waiting d))
    go (inl before) = inl before
    go (inr last) = inr (ap suc last.0, last.1)

-- the next number is drawn, and isn't broken
pub entered-broken : (b c : Broken) (ws us : List WaitState) (x : WaitState) → us ≡ ws ++ x ∷ [] → c ≡ b
    → owner_in b (length ws) ≡ None → HasBroken b (length ws) → HasBroken c (length us)
entered-broken b c ws us x written same none has =
    let long : length us ≡ length ws + 1 = ap length written ∙ length_push ws x in
    rw (same, long) (record {
      spoiled = has.spoiled;
      broken = broken-next b (length ws) has.spoiled has.broken none;
    })

pub entered-apart : (b c : Broken) (ws us : List WaitState) (x : WaitState) → us ≡ ws ++ x ∷ [] → c ≡ b
    → owner_in b (length ws) ≡ None → AreApart b ws → AreApart c us
entered-apart b c ws us x written same none apart = λ m d is.
    rw same (go m d (waits-pushed ws x m d (ap (λ l. slice_get l m) (sym written) ∙ is)))
  where
    go : (m d : ℕ) → (slice_get ws m ≡ Some (wait.Waiting d)) ⊎ ((m ≡ length ws) × (x ≡ wait.Waiting d))
        → owner_in b m ≡ None
    go m d (inl before) = apart m d before
    go m d (inr last) = rw last.0 none

-- an answer that is there
pub some-of : {A : Type 0} (found : Option A) → is_some found ≡ true → (a : A) × (found ≡ Some a)
some-of None is = absurd (cc is)
some-of (Some a) is = (a, refl)

pub none-of : {A : Type 0} (found : Option A) → is_some found ≡ false → found ≡ None
none-of None is = refl
none-of (Some a) is = absurd (cc is)

-- a judge as it begins
pub begins : (j : Judge) (permits : ℕ) → permits ≤ 1048576 → IsTable j.table → j.table.waits.items ≡ []
    → IsDoor j.door [] → ((next : ℕ) → AreBroken j.broken next []) → j.free ≡ permits → j.way ≡ 0 → j.held ≡ 0
    → j.in_line ≡ 0
    → IsJudge j × Stands j (opening permits)
begins j permits few table none door broken free way held in_line =
    let long : length j.table.waits.items ≡ 0 = ap length none in
    let line : line_of j.table ≡ [] = ap (λ l. pick_each waiting_at 0 l) none in
    let served : served_of j.table ≡ [] = ap (λ l. pick_each served_at 0 l) none in (
      record {
        table = table;
        door = record { callers = []; door = door };
        in_line = in_line ∙ sym (ap length line);
        broken = record { spoiled = []; broken = broken (length j.table.waits.items) };
        apart = λ k c is. absurd (cc (sym (ap (λ l. slice_get l k) none) ∙ is));
        few = omega (arith, few, free, way, held);
      },
      record {
        free = sym free;
        way = sym way;
        held = sym held;
        next = sym long;
        line = sym line;
        served = sym served;
        door = door;
        broken = broken 0;
      },
    )
