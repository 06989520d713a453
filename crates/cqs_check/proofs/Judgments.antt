-- Entry by entry: what the judge tests is where the entry may come, and what it changes is what the entry changes.
use Rattle.std.proofs.Common.{◌≡◌, ◌≢◌, ◌⊎◌, inl, inr, ℕ, zero, suc, ◌+◌, ◌<◌, ◌≤◌, List, [], ◌∷◌, ◌++◌, length, take, Some, None, true, false, true≢false, slice_get, refl, sym, ap, ap₂, ◌∙◌, subst, arith}
use Rattle.std.proofs.lemmas.List.{length_push}
use Rattle.cqs_core.specs.declared.entries.Entry.TheVariants as entry
use Rattle.cqs_core.specs.Numbered.{pick_each}
use Rattle.cqs_core.specs.Keyed.{insert_by, without}
use Rattle.cqs_core.specs.QueueLine.{Waiting, Service}
use Rattle.cqs_core.specs.QueueWaiters.{Waits, find_wait, with_service}
use Rattle.cqs_core.specs.SemaphoreObject.{Semaphore, early}
use Rattle.cqs_core.specs.SemaphoreEntries.{after_enter, has_spoiled}
use Rattle.cqs_check.specs.declared.judge.Judge.{Judge}
use Rattle.cqs_check.specs.declared.waits.WaitState.{WaitState}
use Rattle.cqs_check.specs.declared.waits.WaitState.TheVariants as wait
use Rattle.cqs_check.specs.declared.waits.Table.{Table}
use Rattle.cqs_check.specs.Doors.{Comes, Goes, many_of, total_of}
use Rattle.cqs_check.specs.Lines.{Becomes, Enters, line_of, served_of, waiting_at, served_at}
use Rattle.cqs_check.specs.Judging.{IsJudge, Judged, Stands}
use Rattle.cqs_check.specs.BrokenNumbers.{owner_in, early_in}
use Rattle.cqs_check.proofs.Among.{among-stands}
use Rattle.cqs_check.proofs.BrokenLists.{none-whole, broken-next}
use Rattle.cqs_check.proofs.Kept.{became-length, became-broken, became-apart, same-broken, same-apart, entered-broken, entered-apart}
use Rattle.cqs_check.proofs.Shown.{line-entered, line-left, line-shorter, service-came, service-entered, found-there}
use Rattle.cqs_check.proofs.Times.{times-in, in-times, door-goes, door-comes}

-- who is among the first stands in the table
pub among-there : (t : Table) (way k c : ℕ) → Waits k c (take way (line_of t))
    → slice_get t.waits.items k ≡ Some (wait.Waiting c)
among-there t way k c waits =
    let is = among-stands way k c 0 t.waits.items waits in
    let here : is.place ≡ k = omega (arith, is.number) in
    subst (λ n. slice_get t.waits.items n ≡ Some (wait.Waiting c)) here is.there

-- and some are on their way then
pub among-some : (t : Table) (way k c : ℕ) → Waits k c (take way (line_of t)) → 0 < way
among-some t zero k c waits = absurd (cc waits.there)
among-some t (suc way) k c waits = omega arith

-- a permit reaches a wait
pub deliver-judged : (j u : Judge) (k c : ℕ) → IsJudge j → Waits k c (take j.way (line_of j.table))
    → Becomes j.table k (wait.Served c) u.table
    → u.free ≡ j.free → u.way + 1 ≡ j.way → u.held ≡ j.held + 1 → u.in_line + 1 ≡ j.in_line → u.door ≡ j.door
    → u.broken ≡ j.broken → Judged j (entry.Deliver k) true u
deliver-judged j u k c judge among becomes free way held in_line door broken =
    let there = among-there j.table j.way k c among in
    let ws : List WaitState = j.table.waits.items in
    let line : line_of u.table ≡ without (λ (w : Waiting). w.wait) k (line_of j.table)
    = ap (λ l. pick_each waiting_at 0 l) becomes.waits ∙ line-left ws k c (wait.Served c) there refl in
    let served : served_of u.table ≡ insert_by (λ (s : Service). s.wait) (record {
      wait = k;
      pass = c;
      is_open =
          true;
    }) (served_of j.table)
    = ap (λ l. pick_each served_at 0 l) becomes.waits ∙ service-came ws k c there in
    let shorter : length (line_of u.table) + 1 ≡ length (line_of j.table)
    = ap (λ l. length (pick_each waiting_at 0 l) + 1) becomes.waits ∙ line-shorter ws k c (wait.Served c) there refl in
    let found = found-there ws k c there in (
      record {
        table = becomes.table;
        door = rw door judge.door;
        in_line = omega (arith, judge.in_line, in_line, shorter);
        broken = became-broken j.table u.table k (wait.Served c) j.broken u.broken becomes broken judge.broken;
        apart = became-apart j.table u.table k (wait.Served c) j.broken u.broken refl becomes broken judge.apart;
        few = omega (arith, judge.few, free, way, held);
      },
      λ o stands. (
        (c, rw (stands.way, stands.line) among),
        record {
          free = stands.free ∙ sym free;
          way = omega (arith, stands.way, way);
          held = omega (arith, stands.held, held);
          next = stands.next ∙ sym (became-length j.table u.table k (wait.Served c) becomes);
          line = ap (without (λ (w : Waiting). w.wait) k) stands.line ∙ sym line;
          served = services o stands found ∙ sym served;
          door = rw door stands.door;
          broken = rw broken stands.broken;
        },
      ),
    )
  where
    services : (o : Semaphore) → Stands j o → find_wait k (line_of j.table) ≡ Some (record { wait = k; pass = c })
        → with_service (find_wait k o.line) o.served
        ≡ insert_by (λ (s : Service). s.wait) (record { wait = k; pass = c; is_open = true }) (served_of j.table)
    services o stands found =
        ap₂ (λ l s. with_service (find_wait k l) s) stands.line stands.served
        ∙ ap (λ w. with_service w (served_of j.table)) found

pub deliver-refused : (j u : Judge) (k : ℕ) → ((c : ℕ) → ¬ Waits k c (take j.way (line_of j.table)))
    → Judged j (entry.Deliver k) false u
deliver-refused j u k none = λ o stands may.
    let here : Waits k may.0 (take j.way (line_of j.table)) = rw (sym stands.way, sym stands.line) may.1 in
    none may.0 here

-- a caller goes from the door to the line
pub enter-judged : (j u : Judge) (c k : ℕ) → IsJudge j → k ≡ length j.table.waits.items → 0 < many_of j.door c
    → owner_in j.broken k ≡ None → early_in j.broken < total_of j.door
    → Enters j.table c u.table → Goes j.door c u.door
    → u.free ≡ j.free → u.way ≡ j.way → u.held ≡ j.held → u.in_line ≡ j.in_line + 1 → u.broken ≡ j.broken
    → Judged j (entry.Enter c k) true u
enter-judged j u c k judge number here none room enters goes free way held in_line broken =
    let whole : owner_in j.broken (length j.table.waits.items) ≡ None = ap (owner_in j.broken) (sym number) ∙ none in
    let ws : List WaitState = j.table.waits.items in
    let line : line_of u.table ≡ line_of j.table ++ record { wait = length ws; pass = c } ∷ []
    = ap (λ l. pick_each waiting_at 0 l) enters.waits ∙ line-entered ws c in
    let served : served_of u.table ≡ served_of j.table = ap (λ l. pick_each served_at 0 l) enters.waits
    ∙ service-entered ws c in
    let long : length (line_of u.table) ≡ length (line_of j.table) + 1
    = ap length line ∙ length_push (line_of j.table) (record { wait = length ws; pass = c }) in (
      record {
        table = enters.table;
        door = record {
          callers = without (λ d. d) c judge.door.callers;
          door =
              door-goes j.door u.door c goes judge.door.callers judge.door.door;
        };
        in_line = omega (arith, judge.in_line, in_line, long);
        broken = entered-broken j.broken u.broken ws u.table.waits.items (wait.Waiting c) enters.waits broken whole
            judge.broken;
        apart = entered-apart j.broken u.broken ws u.table.waits.items (wait.Waiting c) enters.waits broken whole
            judge.apart;
        few = omega (arith, judge.few, free, way, held);
      },
      λ o stands.
          let next : k ≡ o.next = number ∙ sym stands.next in
          let missing : has_spoiled k o.spoiled ≡ false =
          none-whole k o.spoiled (sym (stands.broken.owners k) ∙ none) in
          let after : after_enter o c k ≡ record o {
            door = without (λ d. d) c o.door;
            line = o.line ++ record { wait = k; pass = c } ∷ [];
            next = o.next + 1;
          } = rw missing refl in (
            (
              times-in c o.door (subst (λ n. 0 < n) (stands.door.many c) here),
              next,
              inr (omega (arith, room, stands.broken.early, stands.door.total)),
            ),
            rw after (record {
              free = stands.free ∙ sym free;
              way = stands.way ∙ sym way;
              held = stands.held ∙ sym held;
              next = ap (λ n. n + 1) stands.next ∙ sym (ap length enters.waits ∙ length_push ws (wait.Waiting c));
              line = ap₂ (λ l n. l ++ record { wait = n; pass = c } ∷ []) stands.line number ∙ sym line;
              served = stands.served ∙ sym served;
              door = door-goes j.door u.door c goes o.door stands.door;
              broken = rw broken (broken-next j.broken o.next o.spoiled stands.broken
                  (ap (owner_in j.broken) (sym next) ∙ none));
            }),
          ),
    )

pub enter-refused : (j u : Judge) (c k : ℕ) → (k ≢ length j.table.waits.items) ⊎ (many_of j.door c ≡ 0)
    → Judged j (entry.Enter c k) false u
enter-refused j u c k (inl other) = λ o stands may. other (may.1 ∙ stands.next)
enter-refused j u c k (inr none) = λ o stands may. omega (arith, none, stands.door.many c, in-times c o.door may.0)

-- the next number isn't broken, and no caller at the door is to come to it
pub enter-uncovered : (j u : Judge) (c k : ℕ) → owner_in j.broken k ≡ None → total_of j.door ≤ early_in j.broken
    → Judged j (entry.Enter c k) false u
enter-uncovered j u c k none full = λ o stands may. go o stands may.2
  where
    go : (o : Semaphore) → Stands j o → (has_spoiled k o.spoiled ≡ true) ⊎ (early o < length o.door) → ⊥
    go o stands (inl broken) =
        let missing : has_spoiled k o.spoiled ≡ false =
        none-whole k o.spoiled (sym (stands.broken.owners k) ∙ none) in
        absurd (true≢false (sym broken ∙ missing))
    go o stands (inr room) = omega (arith, room, full, stands.broken.early, stands.door.total)

-- somebody stands in the line where somebody is among the first
pub some-in_line : (j : Judge) (k c : ℕ) → IsJudge j → slice_get j.table.waits.items k ≡ Some (wait.Waiting c)
    → 0 < j.in_line
some-in_line j k c judge there = omega (arith, judge.in_line, line-shorter j.table.waits.items k c wait.Gone there refl)

-- the line is no longer than the table
line-few : (k : ℕ) (ws : List WaitState) → length (pick_each waiting_at k ws) ≤ length ws
line-few k [] = omega arith
line-few k (wait.Waiting c ∷ ws) = omega (arith, line-few (suc k) ws)
line-few k (wait.Served c ∷ ws) = omega (arith, line-few (suc k) ws)
line-few k (wait.Closed c ∷ ws) = omega (arith, line-few (suc k) ws)
line-few k (wait.Gone ∷ ws) = omega (arith, line-few (suc k) ws)

pub line-fits : (j : Judge) → IsJudge j → j.in_line ≤ length j.table.waits.items
line-fits j judge = omega (arith, judge.in_line, line-few 0 j.table.waits.items)

-- a caller comes to the door
pub come-judged : (j u : Judge) (c : ℕ) → IsJudge j → j.free ≡ 0 → Comes j.door c u.door
    → u.free ≡ j.free → u.way ≡ j.way → u.held ≡ j.held → u.in_line ≡ j.in_line → u.table ≡ j.table
    → u.broken ≡ j.broken → Judged j (entry.TakeDoor c) true u
come-judged j u c judge none comes free way held in_line table broken = (
  record {
    table = rw table judge.table;
    door = record {
      callers = insert_by (λ d. d) c judge.door.callers;
      door =
          door-comes j.door u.door c comes judge.door.callers judge.door.door;
    };
    in_line = in_line ∙ judge.in_line ∙ sym (ap (λ t. length (line_of t)) table);
    broken = same-broken j.table u.table j.broken u.broken table broken judge.broken;
    apart = same-apart j.table u.table j.broken u.broken table broken judge.apart;
    few = omega (arith, judge.few, free, way, held);
  },
  λ o stands. (
    stands.free ∙ none,
    record {
      free = stands.free ∙ sym free;
      way = stands.way ∙ sym way;
      held = stands.held ∙ sym held;
      next = rw table stands.next;
      line = rw table stands.line;
      served = rw table stands.served;
      door = door-comes j.door u.door c comes o.door stands.door;
      broken = rw broken stands.broken;
    },
  ),
)
