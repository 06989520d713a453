-- The entries of broken numbers: one is broken, is drawn, and its caller comes to it.
use Rattle.std.proofs.Common.{◌≡◌, ◌≢◌, ◌⊎◌, inl, inr, ℕ, suc, ◌+◌, ◌<◌, ◌≤◌, nat_le, List, [], ◌∷◌, length, take, Option, Some, None, is_some, true, false, true≢false, slice_get, refl, sym, ap, ◌∙◌, subst, arith, le-leb, ne_eqb}
use Rattle.std.proofs.lemmas.Bool.{cases_eq, lt-leb}
use Rattle.std.proofs.lemmas.List.{length_push}
use Rattle.cqs_core.specs.declared.entries.Entry.TheVariants as entry
use Rattle.cqs_core.specs.Numbered.{pick_each}
use Rattle.cqs_core.specs.Keyed.{insert_by, without, change_by}
use Rattle.cqs_core.specs.QueueLine.{Waiting, Spoiled}
use Rattle.cqs_core.specs.QueueWaiters.{Waits, find_wait}
use Rattle.cqs_core.specs.SemaphoreObject.{Semaphore, early}
use Rattle.cqs_core.specs.SemaphoreEntries.{after_enter, has_spoiled, waiting_pass, MaySpoil}
use Rattle.cqs_core.proofs.Counts.{bit}
use Rattle.cqs_core.proofs.Places.{get-below, get-set_here}
use Rattle.cqs_check.specs.declared.judge.Judge.{Judge}
use Rattle.cqs_check.specs.declared.waits.WaitState.{WaitState}
use Rattle.cqs_check.specs.declared.waits.WaitState.TheVariants as wait
use Rattle.cqs_check.specs.Doors.{Goes, many_of, total_of}
use Rattle.cqs_check.specs.BrokenNumbers.{owner_in, early_in, AreBroken, Sets}
use Rattle.cqs_check.specs.Lines.{Becomes, PassesOver, line_of, served_of, waiting_at, served_at}
use Rattle.cqs_check.specs.Judging.{IsJudge, Judged, Stands}
use Rattle.cqs_check.proofs.Shown.{line-left, line-shorter, line-passed, service-passed, service-same, found-there}
use Rattle.cqs_check.proofs.Times.{times-in, door-goes}
use Rattle.cqs_check.proofs.BrokenLists.{broken-placed, broken-drawn, broken-gone, early-some, none-whole, some-broken, in-owner, owner-in}
use Rattle.cqs_check.proofs.Judgments.{among-there, among-some}
use Rattle.cqs_check.proofs.Kept.{became-length, still-waiting, waits-pushed, some-of}

-- how many are early after a break of a number that was drawn
drawn-bit : (next k : ℕ) → k < next → bit (nat_le next k) ≡ 0
drawn-bit next k low = ap bit (lt-leb next k low)

early-bit : (next k : ℕ) → next ≤ k → bit (nat_le next k) ≡ 1
early-bit next k high = ap bit (le-leb next k high)

-- a number that nobody has drawn is in no line
find-past : (first k : ℕ) (ws : List WaitState) → first + length ws ≤ k
    → find_wait k (pick_each waiting_at first ws) ≡ None
find-past first k [] past = refl
find-past first k (wait.Waiting c ∷ ws) past =
    rw (ne_eqb k first (λ e. omega (arith, e, past))) (find-past (suc first) k ws (omega (arith, past)))
find-past first k (wait.Served c ∷ ws) past = find-past (suc first) k ws (omega (arith, past))
find-past first k (wait.Closed c ∷ ws) past = find-past (suc first) k ws (omega (arith, past))
find-past first k (wait.Gone ∷ ws) past = find-past (suc first) k ws (omega (arith, past))

without-past : (first k : ℕ) (ws : List WaitState) → first + length ws ≤ k
    → without (λ (w : Waiting). w.wait) k (pick_each waiting_at first ws) ≡ pick_each waiting_at first ws
without-past first k [] past = refl
without-past first k (wait.Waiting c ∷ ws) past =
    rw (ne_eqb k first (λ e. omega (arith, e, past)))
    (ap (λ l. record { wait = first; pass = c } ∷ l) (without-past (suc first) k ws (omega (arith, past))))
without-past first k (wait.Served c ∷ ws) past = without-past (suc first) k ws (omega (arith, past))
without-past first k (wait.Closed c ∷ ws) past = without-past (suc first) k ws (omega (arith, past))
without-past first k (wait.Gone ∷ ws) past = without-past (suc first) k ws (omega (arith, past))

-- a permit on its way to a wait of the line is taken back
pub wait-spoiled : (j u : Judge) (k d : ℕ) → IsJudge j → Waits k d (take j.way (line_of j.table))
    → Becomes j.table k wait.Gone u.table → Sets j.broken k (Some (Some d)) u.broken
    → early_in u.broken ≡ early_in j.broken → u.free ≡ j.free → u.way + 1 ≡ j.way → u.held ≡ j.held + 1
    → u.in_line + 1 ≡ j.in_line → u.door ≡ j.door
    → (c : ℕ) → Judged j (entry.Spoil c k) true u
wait-spoiled j u k d judge among becomes sets early_same free way held in_line door c =
    let there = among-there j.table j.way k d among in
    let some = among-some j.table j.way k d among in
    let ws : List WaitState = j.table.waits.items in
    let low : k < length ws = get-below ws k (wait.Waiting d) there in
    let none : owner_in j.broken k ≡ None = judge.apart k d there in
    let line : line_of u.table ≡ without (λ (w : Waiting). w.wait) k (line_of j.table)
    = ap (λ l. pick_each waiting_at 0 l) becomes.waits ∙ line-left ws k d wait.Gone there refl in
    let served : served_of u.table ≡ served_of j.table
    = ap (λ l. pick_each served_at 0 l) becomes.waits ∙ service-same ws k (wait.Waiting d) wait.Gone there refl in
    let shorter : length (line_of u.table) + 1 ≡ length (line_of j.table)
    = ap (λ l. length (pick_each waiting_at 0 l) + 1) becomes.waits ∙ line-shorter ws k d wait.Gone there refl in
    let found = found-there ws k d there in
    let long = became-length j.table u.table k wait.Gone becomes in (
      record {
        table = becomes.table;
        door = rw door judge.door;
        in_line = omega (arith, judge.in_line, in_line, shorter);
        broken = record {
          spoiled = insert_by (λ (s : Spoiled). s.wait) (record { wait = k; pass = Some d }) judge.broken.spoiled;
          broken = rw long (placed (length ws) judge.broken.spoiled judge.broken.broken none low);
        };
        apart = λ m e is. others there m e (cases_eq m k) is;
        few = omega (arith, judge.few, free, way, held);
      },
      λ o stands. (
        (omega (arith, stands.way, some), inl (d, rw (stands.way, stands.line) among)),
        record {
          free = stands.free ∙ sym free;
          way = omega (arith, stands.way, way);
          held = omega (arith, stands.held, held);
          next = stands.next ∙ sym long;
          line = ap (without (λ (w : Waiting). w.wait) k) stands.line ∙ sym line;
          served = stands.served ∙ sym served;
          door = rw door stands.door;
          broken =
              let who : waiting_pass (find_wait k o.line) ≡ Some d =
              ap (λ l. waiting_pass (find_wait k l)) stands.line ∙ ap waiting_pass found in
              rw who (placed o.next o.spoiled stands.broken none (omega (arith, low, stands.next)));
        },
      ),
    )
  where
    placed : (next : ℕ) (spoiled : List Spoiled) → AreBroken j.broken next spoiled → owner_in j.broken k ≡ None
        → k < next
        → AreBroken u.broken next
        (insert_by (λ (s : Spoiled). s.wait) (record { wait = k; pass = Some d }) spoiled)
    placed next spoiled are none low =
        broken-placed j.broken u.broken next k (Some d) spoiled are none sets
        (omega (arith, early_same, drawn-bit next k low)) (λ e is. low)

    -- the wait is in the line no longer
    others : slice_get j.table.waits.items k ≡ Some (wait.Waiting d) → (m e : ℕ) → (m ≡ k) ⊎ (m ≢ k)
        → slice_get u.table.waits.items m ≡ Some (wait.Waiting e) → owner_in u.broken m ≡ None
    others there m e (inl same) is =
        let gone : slice_get u.table.waits.items m ≡ Some wait.Gone
        = rw (becomes.waits, same) (get-set_here j.table.waits.items k (wait.Waiting d) wait.Gone there) in
        absurd (cc (is, gone))
    others there m e (inr other) is =
        sets.others m other
        ∙ judge.apart m e (still-waiting j.table.waits.items k wait.Gone m e refl
        (ap (λ l. slice_get l m) (sym becomes.waits) ∙ is))

-- a permit on its way to a number that nobody has drawn is taken back
pub early-spoiled : (j u : Judge) (k : ℕ) → IsJudge j → 0 < j.way → length j.table.waits.items ≤ k
    → owner_in j.broken k ≡ None → early_in j.broken < total_of j.door
    → Sets j.broken k (Some None) u.broken → early_in u.broken ≡ early_in j.broken + 1
    → u.free ≡ j.free → u.way + 1 ≡ j.way → u.held ≡ j.held + 1 → u.in_line ≡ j.in_line → u.door ≡ j.door
    → u.table ≡ j.table
    → (c : ℕ) → Judged j (entry.Spoil c k) true u
early-spoiled j u k judge some high none room sets more free way held in_line door table c = (
  record {
    table = rw table judge.table;
    door = rw door judge.door;
    in_line = in_line ∙ judge.in_line ∙ sym (ap (λ t. length (line_of t)) table);
    broken = record {
      spoiled = insert_by (λ (s : Spoiled). s.wait) (record { wait = k; pass = None }) judge.broken.spoiled;
      broken = rw table (placed (length j.table.waits.items) judge.broken.spoiled judge.broken.broken high);
    };
    apart = rw table (λ m d is.
        let low = get-below j.table.waits.items m (wait.Waiting d) is in
        sets.others m (λ e. omega (arith, e, low, high)) ∙ judge.apart m d is);
    few = omega (arith, judge.few, free, way, held);
  },
  λ o stands.
      let owner = sym (stands.broken.owners k) ∙ none in
      let nobody : waiting_pass (find_wait k o.line) ≡ None =
      ap (λ l. waiting_pass (find_wait k l)) stands.line
      ∙ ap waiting_pass (find-past 0 k j.table.waits.items (omega (arith, high))) in (
        (
          omega (arith, stands.way, some),
          inr (
            omega (arith, stands.next, high),
            none-whole k o.spoiled owner,
            omega (arith, stands.broken.early, stands.door.total, room),
          ),
        ),
        record {
          free = stands.free ∙ sym free;
          way = omega (arith, stands.way, way);
          held = omega (arith, stands.held, held);
          next = rw table stands.next;
          line = ap (without (λ (w : Waiting). w.wait) k) stands.line
              ∙ without-past 0 k j.table.waits.items (omega (arith, high))
              ∙ sym (ap line_of table);
          served = rw table stands.served;
          door = rw door stands.door;
          broken = rw nobody (placed o.next o.spoiled stands.broken (omega (arith, stands.next, high)));
        },
      ),
)
  where
    placed : (next : ℕ) (spoiled : List Spoiled) → AreBroken j.broken next spoiled → next ≤ k
        → AreBroken u.broken next (insert_by (λ (s : Spoiled). s.wait) (record { wait = k; pass = None }) spoiled)
    placed next spoiled are high =
        broken-placed j.broken u.broken next k None spoiled are none sets
        (omega (arith, more, early-bit next k high)) (λ e is. absurd (cc is))

-- where a break of such a number isn't allowed
pub early-refused : (j u : Judge) (k : ℕ) → ((c : ℕ) → ¬ Waits k c (take j.way (line_of j.table)))
    → (k < length j.table.waits.items) ⊎ ((is_some (owner_in j.broken k) ≡ true)
    ⊎ ((j.way ≡ 0) ⊎ (total_of j.door ≤ early_in j.broken)))
    → (c : ℕ) → Judged j (entry.Spoil c k) false u
early-refused j u k none why c = λ o stands may. go o stands why may.0 may.1
  where
    beyond : (o : Semaphore) → Stands j o
        → (k < length j.table.waits.items) ⊎ ((is_some (owner_in j.broken k) ≡ true)
        ⊎ ((j.way ≡ 0) ⊎ (total_of j.door ≤ early_in j.broken)))
        → 0 < o.way → o.next ≤ k → has_spoiled k o.spoiled ≡ false → early o < length o.door → ⊥
    beyond o stands (inl drawn) way high whole room = omega (arith, drawn, high, stands.next)
    beyond o stands (inr (inl is)) way high whole room =
        let some = some-of (owner_in j.broken k) is in
        let broken = some-broken k o.spoiled some.0 (sym (stands.broken.owners k) ∙ some.1) in
        absurd (true≢false (sym broken ∙ whole))
    beyond o stands (inr (inr (inl none_left))) way high whole room = omega (arith, none_left, way, stands.way)
    beyond o stands (inr (inr (inr full))) way high whole room =
        omega (arith, full, room, stands.broken.early, stands.door.total)

    go : (o : Semaphore) → Stands j o
        → (k < length j.table.waits.items) ⊎ ((is_some (owner_in j.broken k) ≡ true)
        ⊎ ((j.way ≡ 0) ⊎ (total_of j.door ≤ early_in j.broken)))
        → 0 < o.way → MaySpoil o k → ⊥
    go o stands why way (inl waits) =
        let here : Waits k waits.0 (take j.way (line_of j.table)) = rw (sym stands.way, sym stands.line) waits.1 in
        none waits.0 here
    go o stands why way (inr ahead) = beyond o stands why way ahead.0 ahead.1 ahead.2

-- a caller goes from the door to the next number, which was broken
pub broken-entered : (j u : Judge) (c k : ℕ) → IsJudge j → k ≡ length j.table.waits.items → 0 < many_of j.door c
    → is_some (owner_in j.broken k) ≡ true → PassesOver j.table u.table → Goes j.door c u.door
    → Sets j.broken k (Some (Some c)) u.broken → early_in u.broken + 1 ≡ early_in j.broken
    → u.free ≡ j.free → u.way ≡ j.way → u.held ≡ j.held → u.in_line ≡ j.in_line
    → Judged j (entry.Enter c k) true u
broken-entered j u c k judge number here is passes goes sets fewer free way held in_line =
    let some = some-of (owner_in j.broken k) is in
    let ws : List WaitState = j.table.waits.items in
    let line : line_of u.table ≡ line_of j.table = ap (λ l. pick_each waiting_at 0 l) passes.waits ∙ line-passed ws in
    let served : served_of u.table ≡ served_of j.table = ap (λ l. pick_each served_at 0 l) passes.waits
    ∙ service-passed ws in
    let long : length u.table.waits.items ≡ length ws + 1 = ap length passes.waits ∙ length_push ws wait.Gone in (
      record {
        table = passes.table;
        door = record {
          callers = without (λ d. d) c judge.door.callers;
          door =
              door-goes j.door u.door c goes judge.door.callers judge.door.door;
        };
        in_line = in_line ∙ judge.in_line ∙ sym (ap length line);
        broken = record {
          spoiled = change_by (λ (s : Spoiled). s.wait) (length ws)
              (λ s. record { wait = s.wait; pass = Some c }) judge.broken.spoiled;
          broken = rw long (drawn (length ws) some.0 judge.broken.spoiled judge.broken.broken number some.1);
        };
        apart = λ m d waits. others m d (waits-pushed ws wait.Gone m d
            (ap (λ l. slice_get l m) (sym passes.waits) ∙ waits));
        few = omega (arith, judge.few, free, way, held);
      },
      λ o stands.
          let broken : has_spoiled k o.spoiled ≡ true =
          some-broken k o.spoiled some.0 (sym (stands.broken.owners k) ∙ some.1) in
          let next : k ≡ o.next = number ∙ sym stands.next in
          let after : after_enter o c k ≡ record o {
            door = without (λ d. d) c o.door;
            next = o.next + 1;
            spoiled = change_by (λ b. b.wait) k (λ b. record { wait = b.wait; pass = Some c }) o.spoiled;
          } = rw broken refl in (
            (times-in c o.door (subst (λ n. 0 < n) (stands.door.many c) here), next, inl broken),
            rw after (record {
              free = stands.free ∙ sym free;
              way = stands.way ∙ sym way;
              held = stands.held ∙ sym held;
              next = ap (λ n. n + 1) stands.next ∙ sym long;
              line = stands.line ∙ sym line;
              served = stands.served ∙ sym served;
              door = door-goes j.door u.door c goes o.door stands.door;
              broken = rw next (drawn o.next some.0 o.spoiled stands.broken next some.1);
            }),
          ),
    )
  where
    drawn : (next : ℕ) (o : Option ℕ) (spoiled : List Spoiled) → AreBroken j.broken next spoiled → k ≡ next
        → owner_in j.broken k ≡ Some o
        → AreBroken u.broken (next + 1)
        (change_by (λ (s : Spoiled). s.wait) next (λ s. record { wait = s.wait; pass = Some c }) spoiled)
    drawn next o spoiled are same some =
        broken-drawn j.broken u.broken next c o spoiled are (ap (owner_in j.broken) (sym same) ∙ some)
        (subst (λ n. Sets j.broken n (Some (Some c)) u.broken) same sets) fewer

    others : (m d : ℕ)
        → (slice_get j.table.waits.items m ≡ Some (wait.Waiting d))
        ⊎ ((m ≡ length j.table.waits.items) × (wait.Gone ≡ wait.Waiting d))
        → owner_in u.broken m ≡ None
    others m d (inl before) =
        let low = get-below j.table.waits.items m (wait.Waiting d) before in
        sets.others m (λ e. omega (arith, e, low, number)) ∙ judge.apart m d before
    others m d (inr last) = absurd (cc last.1)

-- a caller comes to its number, which was broken
pub undone : (j u : Judge) (c k : ℕ) → IsJudge j → owner_in j.broken k ≡ Some (Some c) → Sets j.broken k None u.broken
    → early_in u.broken ≡ early_in j.broken → u.free ≡ j.free → u.way ≡ j.way → u.held ≡ j.held
    → u.in_line ≡ j.in_line → u.door ≡ j.door → u.table ≡ j.table
    → Judged j (entry.Undo c k) true u
undone j u c k judge mine sets same free way held in_line door table = (
  record {
    table = rw table judge.table;
    door = rw door judge.door;
    in_line = in_line ∙ judge.in_line ∙ sym (ap (λ t. length (line_of t)) table);
    broken = record {
      spoiled = without (λ (s : Spoiled). s.wait) k judge.broken.spoiled;
      broken = rw table (gone (length j.table.waits.items) judge.broken.spoiled judge.broken.broken);
    };
    apart = rw table (λ m d is. others m (cases_eq m k) (judge.apart m d is));
    few = omega (arith, judge.few, free, way, held);
  },
  λ o stands. (
    owner-in k (Some c) o.spoiled (sym (stands.broken.owners k) ∙ mine),
    record {
      free = stands.free ∙ sym free;
      way = stands.way ∙ sym way;
      held = stands.held ∙ sym held;
      next = rw table stands.next;
      line = rw table stands.line;
      served = rw table stands.served;
      door = rw door stands.door;
      broken = gone o.next o.spoiled stands.broken;
    },
  ),
)
  where
    gone : (next : ℕ) (spoiled : List Spoiled) → AreBroken j.broken next spoiled
        → AreBroken u.broken next (without (λ (s : Spoiled). s.wait) k spoiled)
    gone next spoiled are = broken-gone j.broken u.broken next k c spoiled are mine sets same

    others : (m : ℕ) → (m ≡ k) ⊎ (m ≢ k) → owner_in j.broken m ≡ None → owner_in u.broken m ≡ None
    others m (inl here) none = ap (owner_in u.broken) here ∙ sets.here
    others m (inr other) none = sets.others m other ∙ none

pub undo-refused : (j u : Judge) (c k : ℕ) → owner_in j.broken k ≢ Some (Some c) → Judged j (entry.Undo c k) false u
undo-refused j u c k other = λ o stands may.
    other (stands.broken.owners k ∙ in-owner k (Some c) o.spoiled stands.broken.apart may)

-- as many are early as the judge has counted, and one at least where the next number is broken
pub early-there : (j : Judge) (k : ℕ) → IsJudge j → k ≡ length j.table.waits.items
    → is_some (owner_in j.broken k) ≡ true → 0 < early_in j.broken
early-there j k judge number is =
    let some = some-of (owner_in j.broken k) is in
    early-some j.broken (length j.table.waits.items) some.0 judge.broken.spoiled judge.broken.broken
    (ap (owner_in j.broken) (sym number) ∙ some.1)
