-- The entries of a wait's own caller: it leaves the line, looks, or has what came.
use Rattle.std.proofs.Common.{◌≡◌, ◌≢◌, ℕ, zero, suc, ◌+◌, ◌-◌, ◌<◌, ◌≤◌, true, false, true≢false, List, [], ◌∷◌, length, take, Some, slice_get, refl, sym, ap, ◌∙◌, subst, arith, lt-ltb, le-ltb}
use Rattle.std.proofs.lemmas.List.{take_all}
use Rattle.cqs_core.specs.declared.entries.Entry.TheVariants as entry
use Rattle.cqs_core.specs.Numbered.{pick_each}
use Rattle.cqs_core.specs.Keyed.{without, change_by}
use Rattle.cqs_core.specs.QueueLine.{Waiting, Service}
use Rattle.cqs_core.specs.QueueWaiters.{Waits, IsServed}
use Rattle.cqs_core.specs.SemaphoreObject.{Semaphore, due}
use Rattle.cqs_core.specs.SemaphoreEntries.{after_entry, turned_back}
use Rattle.cqs_core.proofs.Picked.{picked-in}
use Rattle.cqs_check.specs.declared.judge.Judge.{Judge}
use Rattle.cqs_check.specs.declared.waits.WaitState.{WaitState}
use Rattle.cqs_check.specs.declared.waits.WaitState.TheVariants as wait
use Rattle.cqs_check.specs.Doors.{total_of}
use Rattle.cqs_check.specs.Lines.{Becomes, line_of, served_of, waiting_at, served_at}
use Rattle.cqs_check.specs.Judging.{IsJudge, Judged, Stands, DropsOut, TurnsBack}
use Rattle.cqs_check.specs.BrokenNumbers.{early_in}
use Rattle.cqs_check.proofs.Among.{among-stands}
use Rattle.cqs_check.proofs.Kept.{became-length, became-broken, became-apart, same-broken, same-apart}
use Rattle.cqs_check.proofs.Shown.{line-left, line-shorter, line-same, service-same, service-closed}

-- a wait that stands in the table is in the line, and back
pub there-waits : (ws : List WaitState) (k c : ℕ) → slice_get ws k ≡ Some (wait.Waiting c)
    → Waits k c (pick_each waiting_at 0 ws)
there-waits ws k c there = picked-in waiting_at 0 ws k k (wait.Waiting c) (record { wait = k; pass = c })
    (omega arith) there refl

pub waits-there : (ws : List WaitState) (k c : ℕ) → Waits k c (pick_each waiting_at 0 ws)
    → slice_get ws k ≡ Some (wait.Waiting c)
waits-there ws k c waits =
    let line : List Waiting = pick_each waiting_at 0 ws in
    let all : take (length line) line ≡ line = take_all (length line) line (omega arith) in
    let is = among-stands (length line) k c 0 ws (subst (λ l. Waits k c l) (sym all) waits) in
    let here : is.place ≡ k = omega (arith, is.number) in
    subst (λ n. slice_get ws n ≡ Some (wait.Waiting c)) here is.there

-- the same of one that was served and not looked at
pub there-served : (ws : List WaitState) (k c : ℕ) → slice_get ws k ≡ Some (wait.Served c)
    → IsServed k c (pick_each served_at 0 ws)
there-served ws k c there =
    picked-in served_at 0 ws k k (wait.Served c) (record { wait = k; pass = c; is_open = true })
    (omega arith) there refl

pub record ServedAt (n c k : ℕ) (ws : List WaitState) : Type 0 where
  pub place : ℕ
  pub number : n ≡ k + place
  pub there : slice_get ws place ≡ Some (wait.Served c)

served-later : (n c k : ℕ) (x : WaitState) (ws : List WaitState) → ServedAt n c (suc k) ws → ServedAt n c k (x ∷ ws)
served-later n c k x ws is = record { place = suc is.place; number = omega (arith, is.number); there = is.there }

same-service : (v w : Service) → Some v ≡ Some w → v ≡ w
same-service v w e = cc e

served-from : (n c k : ℕ) (ws : List WaitState) → IsServed n c (pick_each served_at k ws) → ServedAt n c k ws
served-from n c k [] is = absurd (cc is.there)
served-from n c k (wait.Waiting d ∷ ws) is = served-later n c k (wait.Waiting d) ws (served-from n c (suc k) ws is)
served-from n c k (wait.Gone ∷ ws) is = served-later n c k wait.Gone ws (served-from n c (suc k) ws is)
served-from n c k (wait.Served d ∷ ws) is = go is.place is.there (λ more. served-from n c (suc k) ws more)
  where
    go : (place : ℕ) → slice_get (record { wait = k; pass = d; is_open = true } ∷ pick_each served_at (suc k) ws) place
        ≡ Some (record { wait = n; pass = c; is_open = true })
        → (IsServed n c (pick_each served_at (suc k) ws) → ServedAt n c (suc k) ws)
        → ServedAt n c k (wait.Served d ∷ ws)
    go zero there onward =
        let mine : Service = record { wait = k; pass = d; is_open = true } in
        let theirs : Service = record { wait = n; pass = c; is_open = true } in
        let same : mine ≡ theirs = same-service mine theirs there in
        let number : k ≡ n = ap (λ (s : Service). s.wait) same in
        let caller : d ≡ c = ap (λ (s : Service). s.pass) same in
        record { place = zero; number = omega (arith, number); there = ap (λ x. Some (wait.Served x)) caller }
    go (suc place) there onward = served-later n c k (wait.Served d) ws
        (onward (record { place = place; there = there }))
served-from n c k (wait.Closed d ∷ ws) is = go is.place is.there (λ more. served-from n c (suc k) ws more)
  where
    go : (place : ℕ) → slice_get (record { wait = k; pass = d; is_open = false } ∷ pick_each served_at (suc k) ws) place
        ≡ Some (record { wait = n; pass = c; is_open = true })
        → (IsServed n c (pick_each served_at (suc k) ws) → ServedAt n c (suc k) ws)
        → ServedAt n c k (wait.Closed d ∷ ws)
    go zero there onward =
        let mine : Service = record { wait = k; pass = d; is_open = false } in
        let theirs : Service = record { wait = n; pass = c; is_open = true } in
        let same : mine ≡ theirs = same-service mine theirs there in
        let looked : false ≡ true = ap (λ (s : Service). s.is_open) same in
        absurd (true≢false (sym looked))
    go (suc place) there onward = served-later n c k (wait.Closed d) ws
        (onward (record { place = place; there = there }))

pub served-there : (ws : List WaitState) (k c : ℕ) → IsServed k c (pick_each served_at 0 ws)
    → slice_get ws k ≡ Some (wait.Served c)
served-there ws k c served =
    let is = served-from k c 0 ws served in
    let here : is.place ≡ k = omega (arith, is.number) in
    subst (λ n. slice_get ws n ≡ Some (wait.Served c)) here is.there

-- a look in vain
pub vain-judged : (j u : Judge) (k c : ℕ) → IsJudge j → slice_get j.table.waits.items k ≡ Some (wait.Waiting c)
    → Judged j (entry.LookPending c k) true j
vain-judged j u k c judge there = (
  judge,
  λ o stands.
      (rw stands.line (there-waits j.table.waits.items k c there), stands),
)

pub vain-refused : (j u : Judge) (k c : ℕ) → slice_get j.table.waits.items k ≢ Some (wait.Waiting c)
    → Judged j (entry.LookPending c k) false u
vain-refused j u k c none = λ o stands may.
    let here : Waits k c (line_of j.table) = rw (sym stands.line) may in none (waits-there j.table.waits.items k c here)

pub leave-refused : (j u : Judge) (k c : ℕ) → slice_get j.table.waits.items k ≢ Some (wait.Waiting c)
    → Judged j (entry.Leave c k) false u
leave-refused j u k c none = λ o stands may.
    let here : Waits k c (line_of j.table) = rw (sym stands.line) may in none (waits-there j.table.waits.items k c here)

pub granted-refused : (j u : Judge) (k c : ℕ) → slice_get j.table.waits.items k ≢ Some (wait.Served c)
    → Judged j (entry.LookGranted c k) false u
granted-refused j u k c none = λ o stands may.
    let here : IsServed k c (served_of j.table) = rw (sym stands.served) may in
    none (served-there j.table.waits.items k c here)

pub late-refused : (j u : Judge) (k c : ℕ) → slice_get j.table.waits.items k ≢ Some (wait.Served c)
    → Judged j (entry.Late c k) false u
late-refused j u k c none = λ o stands may.
    let here : IsServed k c (served_of j.table) = rw (sym stands.served) may in
    none (served-there j.table.waits.items k c here)

-- what came is had: by a look, or by a caller that wanted to leave
collected : (j u : Judge) (k c : ℕ) → IsJudge j → slice_get j.table.waits.items k ≡ Some (wait.Served c)
    → Becomes j.table k (wait.Closed c) u.table → u.free ≡ j.free → u.way ≡ j.way → u.held ≡ j.held
    → u.in_line ≡ j.in_line → u.door ≡ j.door → u.broken ≡ j.broken
    → IsJudge u × ((o : Semaphore) → Stands j o → IsServed k c o.served
    × Stands u (after_entry o (entry.LookGranted c k)))
collected j u k c judge there becomes free way held in_line door broken =
    let ws : List WaitState = j.table.waits.items in
    let line : line_of u.table ≡ line_of j.table
    = ap (λ l. pick_each waiting_at 0 l) becomes.waits ∙ line-same ws k (wait.Served c) (wait.Closed c) there refl in
    let served = ap (λ l. pick_each served_at 0 l) becomes.waits ∙ service-closed ws k c there in (
      record {
        table = becomes.table;
        door = rw door judge.door;
        in_line = in_line ∙ judge.in_line ∙ sym (ap length line);
        broken = became-broken j.table u.table k (wait.Closed c) j.broken u.broken becomes broken judge.broken;
        apart = became-apart j.table u.table k (wait.Closed c) j.broken u.broken refl becomes broken judge.apart;
        few = omega (arith, judge.few, free, way, held);
      },
      λ o stands. (
        rw stands.served (there-served ws k c there),
        record {
          free = stands.free ∙ sym free;
          way = stands.way ∙ sym way;
          held = stands.held ∙ sym held;
          next = stands.next ∙ sym (became-length j.table u.table k (wait.Closed c) becomes);
          line = stands.line ∙ sym line;
          served = ap (change_by (λ (s : Service). s.wait) k (λ s. record {
            wait = s.wait;
            pass = s.pass;
            is_open =
                false;
          })) stands.served ∙ sym served;
          door = rw door stands.door;
          broken = rw broken stands.broken;
        },
      ),
    )

pub granted-judged : (j u : Judge) (k c : ℕ) → IsJudge j → slice_get j.table.waits.items k ≡ Some (wait.Served c)
    → Becomes j.table k (wait.Closed c) u.table → u.free ≡ j.free → u.way ≡ j.way → u.held ≡ j.held
    → u.in_line ≡ j.in_line → u.door ≡ j.door → u.broken ≡ j.broken
    → Judged j (entry.LookGranted c k) true u
granted-judged j u k c judge there becomes free way held in_line door broken =
    collected j u k c judge there becomes free way held in_line door broken

pub late-judged : (j u : Judge) (k c : ℕ) → IsJudge j → slice_get j.table.waits.items k ≡ Some (wait.Served c)
    → Becomes j.table k (wait.Closed c) u.table → u.free ≡ j.free → u.way ≡ j.way → u.held ≡ j.held
    → u.in_line ≡ j.in_line → u.door ≡ j.door → u.broken ≡ j.broken
    → Judged j (entry.Late c k) true u
late-judged j u k c judge there becomes free way held in_line door broken =
    collected j u k c judge there becomes free way held in_line door broken

-- a wait drops out of the line
pub drops-out : (j u : Judge) (c k : ℕ) → IsJudge j → slice_get j.table.waits.items k ≡ Some (wait.Waiting c)
    → Becomes j.table k wait.Gone u.table → u.free ≡ j.free → u.way ≡ j.way → u.held ≡ j.held
    → u.in_line + 1 ≡ j.in_line → u.door ≡ j.door → u.broken ≡ j.broken
    → DropsOut j c k u
drops-out j u c k judge there becomes free way held in_line door broken =
    let ws : List WaitState = j.table.waits.items in
    let line : line_of u.table ≡ without (λ (w : Waiting). w.wait) k (line_of j.table)
    = ap (λ l. pick_each waiting_at 0 l) becomes.waits ∙ line-left ws k c wait.Gone there refl in
    let served : served_of u.table ≡ served_of j.table
    = ap (λ l. pick_each served_at 0 l) becomes.waits ∙ service-same ws k (wait.Waiting c) wait.Gone there refl in
    let shorter : length (line_of u.table) + 1 ≡ length (line_of j.table)
    = ap (λ l. length (pick_each waiting_at 0 l) + 1) becomes.waits ∙ line-shorter ws k c wait.Gone there refl in
    record {
      judge = record {
        table = becomes.table;
        door = rw door judge.door;
        in_line = omega (arith, judge.in_line, in_line, shorter);
        broken = became-broken j.table u.table k wait.Gone j.broken u.broken becomes broken judge.broken;
        apart = became-apart j.table u.table k wait.Gone j.broken u.broken refl becomes broken judge.apart;
        few = omega (arith, judge.few, free, way, held);
      };
      stands = λ o stands. (
        rw stands.line (there-waits ws k c there),
        record {
          free = stands.free ∙ sym free;
          way = stands.way ∙ sym way;
          held = stands.held ∙ sym held;
          next = stands.next ∙ sym (became-length j.table u.table k wait.Gone becomes);
          line = ap (without (λ (w : Waiting). w.wait) k) stands.line ∙ sym line;
          served = stands.served ∙ sym served;
          door = rw door stands.door;
          broken = rw broken stands.broken;
        },
      );
    }

pub due-is : (j : Judge) (o : Semaphore) → IsJudge j → Stands j o
    → due o ≡ total_of j.door + j.in_line - early_in j.broken
due-is j o judge stands =
    omega (arith, stands.door.total, judge.in_line, ap length stands.line, stands.broken.early)

pub turns-none : (j : Judge) → IsJudge j → j.way ≤ total_of j.door + j.in_line - early_in j.broken → TurnsBack j j
turns-none j judge few = record {
  judge = judge;
  stands = λ o stands.
      let same : turned_back o ≡ o = rw
      (le-ltb (due o) o.way (omega (arith, stands.way, due-is j o judge stands, few))) refl in
      rw same stands;
}

pub turns-one : (j u : Judge) → IsJudge j → total_of j.door + j.in_line - early_in j.broken < j.way
    → u.free ≡ j.free + 1 → u.way + 1 ≡ j.way → u.held ≡ j.held → u.in_line ≡ j.in_line → u.door ≡ j.door
    → u.table ≡ j.table → u.broken ≡ j.broken → TurnsBack j u
turns-one j u judge many free way held in_line door table broken = record {
  judge = record {
    table = rw table judge.table;
    door = rw door judge.door;
    in_line = in_line ∙ judge.in_line ∙ sym (ap (λ t. length (line_of t)) table);
    broken = same-broken j.table u.table j.broken u.broken table broken judge.broken;
    apart = same-apart j.table u.table j.broken u.broken table broken judge.apart;
    few = omega (arith, judge.few, free, way, held);
  };
  stands = λ o stands.
      let turned : turned_back o ≡ record o { way = o.way - 1; free = o.free + 1 }
      = rw (lt-ltb (due o) o.way (omega (arith, stands.way, due-is j o judge stands, many))) refl in
      rw turned (record {
        free = omega (arith, stands.free, free);
        way = omega (arith, stands.way, way);
        held = stands.held ∙ sym held;
        next = rw table stands.next;
        line = rw table stands.line;
        served = rw table stands.served;
        door = rw door stands.door;
        broken = rw broken stands.broken;
      });
}

-- a caller leaves the line
pub leave-judged : (j u v : Judge) (k c : ℕ) → DropsOut j c k u → TurnsBack u v → Judged j (entry.Leave c k) true v
leave-judged j u v k c drops turns = (
  turns.judge,
  λ o stands. let s = drops.stands o stands in
      (s.0, turns.stands (record o { line = without (λ w. w.wait) k o.line }) s.1),
)
