-- The numbers of a pool: each is that of at most one wait, which stands in the line or was served, and the next
-- numbers are nobody's. So an element that was sent to a wait is the one that it has.
use Rattle.std.proofs.Common.{◌≡◌, ◌≢◌, ◌⊎◌, inl, inr, ℕ, ◌+◌, ◌<◌, ◌≤◌, ◌==◌, nat_lt, Bool, true, false, List, [], ◌∷◌, Option, Some, None, count_by, find, refl, sym, ap, ◌∙◌, eq-eqb, ne_eqb, eqb-true, arith, ◌||◌}
use Rattle.std.specs.Bool.{if◌then◌else◌}
use Rattle.std.specs.List.{list_any}
use Rattle.std.specs.Option.{option_map_or}
use Rattle.std.proofs.lemmas.Bool.{cases_eq}
use Rattle.std.proofs.lemmas.List.Sums.{sum_by-cons, sum_by_push}
use Rattle.cqs_core.specs.Keyed.{insert_by, without}
use Rattle.cqs_core.specs.Numbered.{IsIn}
use Rattle.cqs_core.specs.QueueLine.{Waiting}
use Rattle.cqs_core.specs.QueueWaiters.{Waits, find_wait}
use Rattle.cqs_core.proofs.Counts.{bit}
use Rattle.cqs_core.proofs.Histories.{walk-end}
use Rattle.cqs_core.proofs.Rising.{in-behind, in-none}
use Rattle.cqs_pool_object.specs.declared.entries.PoolEntry.{PoolEntry}
use Rattle.cqs_pool_object.specs.declared.entries.PoolEntry.TheVariants as entry
use Rattle.cqs_pool_object.specs.PoolObject.{Given, IsGiven, Pool, opening}
use Rattle.cqs_pool_object.specs.PoolEntries.{IsAllowed, IsLegal, after_entry, after_look, after_deliver, after_enter, object_after, with_given}

-- the wait of this number stands in the line
abbrev pub in_line : ℕ → List Waiting → Bool
in_line k line = list_any (λ w. w.wait == k) line

-- how often a number stands in the line, and how often it was served
abbrev pub in_seats : ℕ → List Waiting → ℕ
in_seats k line = count_by (λ w. w.wait == k) line

abbrev pub served_seats : ℕ → List Given → ℕ
served_seats k served = count_by (λ g. g.wait == k) served

abbrev pub seats : ℕ → Pool → ℕ
seats k o = in_seats k o.line + served_seats k o.served

pub record AreSeated (o : Pool) : Type 0 where
  pub once : (k : ℕ) → seats k o ≤ 1
  pub later : (k : ℕ) → o.next ≤ k → seats k o ≡ 0

-- which element came for a number, if one did
abbrev pub came_in : ℕ → List Given → ℕ
came_in k served = option_map_or (λ g. g.element) (find (λ g. g.wait == k) served) 0

served-cons : (k : ℕ) (g : Given) (gs : List Given) → served_seats k (g ∷ gs) ≡ bit (g.wait == k) + served_seats k gs
served-cons k g gs = sum_by-cons (λ (x : Given). bit (x.wait == k)) g gs

line-cons : (k : ℕ) (w : Waiting) (ws : List Waiting) → in_seats k (w ∷ ws) ≡ bit (w.wait == k) + in_seats k ws
line-cons k w ws = sum_by-cons (λ (x : Waiting). bit (x.wait == k)) w ws

abbrev put_in : Given → List Given → List Given
put_in g served = insert_by (λ x. x.wait) g served

seats-placed : (k : ℕ) (g : Given) (gs : List Given)
    → served_seats k (put_in g gs) ≡ bit (g.wait == k) + served_seats k gs
seats-placed k g [] = served-cons k g []
seats-placed k g (x ∷ gs) = go (nat_lt g.wait x.wait) (seats-placed k g gs)
  where
    go : (b : Bool) → served_seats k (put_in g gs) ≡ bit (g.wait == k) + served_seats k gs
        → served_seats k (if b then g ∷ x ∷ gs else x ∷ put_in g gs) ≡ bit (g.wait == k) + served_seats k (x ∷ gs)
    go true rest = served-cons k g (x ∷ gs)
    go false rest = omega (arith, rest, served-cons k x gs, served-cons k x (put_in g gs))

-- a delivery takes a number from the line to those that were served, if it stands there
seats-moved : (n e k : ℕ) (line : List Waiting) (served : List Given)
    → in_seats k (without (λ w. w.wait) n line) + served_seats k (with_given e (find_wait n line) served)
    ≡ in_seats k line + served_seats k served
seats-moved n e k [] served = refl
seats-moved n e k (w ∷ line) served = go (n == w.wait) (seats-moved n e k line served)
  where
    moved : Given
    moved = record { wait = w.wait; pass = w.pass; element = e; is_open = true }

    go : (b : Bool)
        → in_seats k (without (λ w. w.wait) n line) + served_seats k (with_given e (find_wait n line) served)
        ≡ in_seats k line + served_seats k served
        → in_seats k (if b then line else w ∷ without (λ w. w.wait) n line)
        + served_seats k (with_given e (if b then Some w else find_wait n line) served)
        ≡ in_seats k (w ∷ line) + served_seats k served
    go true rest = omega (arith, line-cons k w line, seats-placed k moved served)
    go false rest = omega (arith, rest, line-cons k w line, line-cons k w (without (λ w. w.wait) n line))

seats-without : (n k : ℕ) (line : List Waiting) → in_seats k (without (λ w. w.wait) n line) ≤ in_seats k line
seats-without n k [] = omega arith
seats-without n k (w ∷ line) = go (n == w.wait) (seats-without n k line)
  where
    go : (b : Bool) → in_seats k (without (λ w. w.wait) n line) ≤ in_seats k line
        → in_seats k (if b then line else w ∷ without (λ w. w.wait) n line) ≤ in_seats k (w ∷ line)
    go true rest = omega (arith, line-cons k w line)
    go false rest = omega (arith, rest, line-cons k w line, line-cons k w (without (λ w. w.wait) n line))

seats-closed : (n k : ℕ) (served : List Given) → served_seats k (after_look n served) ≡ served_seats k served
seats-closed n k [] = refl
seats-closed n k (g ∷ served) = go (n == g.wait) (seats-closed n k served)
  where
    shut : Given
    shut = record { wait = g.wait; pass = g.pass; element = g.element; is_open = false }

    go : (b : Bool) → served_seats k (after_look n served) ≡ served_seats k served
        → served_seats k (if b then shut ∷ served else g ∷ after_look n served) ≡ served_seats k (g ∷ served)
    go true rest = omega (arith, served-cons k g served, served-cons k shut served)
    go false rest = omega (arith, rest, served-cons k g served, served-cons k g (after_look n served))

-- who stands in the line has a seat there
pub stands-seated : (k : ℕ) (line : List Waiting) → in_line k line ≡ true → 0 < in_seats k line
stands-seated k [] stands = absurd (cc)
stands-seated k (w ∷ line) stands = go (w.wait == k) refl (stands-seated k line)
  where
    go : (b : Bool) → w.wait == k ≡ b → (in_line k line ≡ true → 0 < in_seats k line) → 0 < in_seats k (w ∷ line)
    go true same rest =
        let one : bit (w.wait == k) ≡ 1 = ap bit same in omega (arith, one, line-cons k w line)
    go false other rest =
        let later : in_line k line ≡ true = rw other at stands in
        omega (arith, rest later, line-cons k w line)

-- and who has none doesn't
pub unseated-away : (k : ℕ) (line : List Waiting) → in_seats k line ≡ 0 → in_line k line ≢ true
unseated-away k line none stands = omega (arith, none, stands-seated k line stands)

-- the next number goes to the end of the line
pub seated-entered : (o : Pool) (c : ℕ) → AreSeated o → AreSeated (after_enter o c o.next)
seated-entered o c seated = record { once = λ k. once k (cases_eq o.next k); later = λ k high. later k high }
  where
    more : (k : ℕ) → seats k (after_enter o c o.next) ≡ seats k o + bit (o.next == k)
    more k = omega (
      arith,
      sum_by_push (λ (x : Waiting). bit (x.wait == k)) o.line (record {
        wait = o.next;
        pass = c;
      }),
    )

    once : (k : ℕ) → (o.next ≡ k) ⊎ (o.next ≢ k) → seats k (after_enter o c o.next) ≤ 1
    once k (inl same) =
        let one : bit (o.next == k) ≡ 1 = ap bit (eq-eqb o.next k same) in
        omega (arith, more k, one, seated.later k (omega (arith, same)))
    once k (inr other) =
        let none : bit (o.next == k) ≡ 0 = ap bit (ne_eqb o.next k other) in
        omega (arith, more k, none, seated.once k)

    later : (k : ℕ) → (after_enter o c o.next).next ≤ k → seats k (after_enter o c o.next) ≡ 0
    later k high =
        let none : bit (o.next == k) ≡ 0 = ap bit (ne_eqb o.next k (λ same. omega (arith, same, high))) in
        omega (arith, more k, none, seated.later k (omega (arith, high)))

pub seated-delivered : (o : Pool) (n e : ℕ) → AreSeated o → AreSeated (after_deliver o n e)
seated-delivered o n e seated = record {
  once = λ k. omega (arith, seats-moved n e k o.line o.served, seated.once k);
  later = λ k high. omega (arith, seats-moved n e k o.line o.served, seated.later k high);
}

pub seated-left : (o : Pool) (n : ℕ) → AreSeated o
    → AreSeated (record o { line = without (λ w. w.wait) n o.line })
seated-left o n seated = record {
  once = λ k. omega (arith, seats-without n k o.line, seated.once k);
  later = λ k high. omega (arith, seats-without n k o.line, seated.later k high);
}

pub seated-closed : (o : Pool) (n : ℕ) → AreSeated o → AreSeated (record o { served = after_look n o.served })
seated-closed o n seated = record {
  once = λ k. omega (arith, seats-closed n k o.served, seated.once k);
  later = λ k high. omega (arith, seats-closed n k o.served, seated.later k high);
}

-- what came for other numbers is as it was
came-placed-else : (k : ℕ) (g : Given) (gs : List Given) → g.wait ≢ k → came_in k (put_in g gs) ≡ came_in k gs
came-placed-else k g [] other = rw (ne_eqb g.wait k other) refl
came-placed-else k g (x ∷ gs) other = go (nat_lt g.wait x.wait) (came-placed-else k g gs other)
  where
    behind : (b : Bool) → x.wait == k ≡ b → came_in k (put_in g gs) ≡ came_in k gs
        → came_in k (x ∷ put_in g gs) ≡ came_in k (x ∷ gs)
    behind true same rest = rw same refl
    behind false away rest = rw away rest

    go : (b : Bool) → came_in k (put_in g gs) ≡ came_in k gs
        → came_in k (if b then g ∷ x ∷ gs else x ∷ put_in g gs) ≡ came_in k (x ∷ gs)
    go true rest = rw (ne_eqb g.wait k other) refl
    go false rest = behind (x.wait == k) refl rest

came-placed-here : (g : Given) (gs : List Given) → served_seats g.wait gs ≡ 0
    → came_in g.wait (put_in g gs) ≡ g.element
came-placed-here g [] none = rw (eq-eqb g.wait g.wait refl) refl
came-placed-here g (x ∷ gs) none =
    go (nat_lt g.wait x.wait)
    (came-placed-here g gs (omega (arith, none, served-cons g.wait x gs)))
  where
    away : (b : Bool) → x.wait == g.wait ≡ b → x.wait == g.wait ≡ false
    away false other = other
    away true same =
        let one : bit (x.wait == g.wait) ≡ 1 = ap bit same in
        absurd (omega (arith, one, none, served-cons g.wait x gs))

    go : (b : Bool) → came_in g.wait (put_in g gs) ≡ g.element
        → came_in g.wait (if b then g ∷ x ∷ gs else x ∷ put_in g gs) ≡ g.element
    go true rest = rw (eq-eqb g.wait g.wait refl) refl
    go false rest = rw (away (x.wait == g.wait) refl) rest

pub came-closed : (n k : ℕ) (served : List Given) → came_in k (after_look n served) ≡ came_in k served
came-closed n k [] = refl
came-closed n k (g ∷ served) = go (n == g.wait) (g.wait == k) refl (came-closed n k served)
  where
    shut : Given
    shut = record { wait = g.wait; pass = g.pass; element = g.element; is_open = false }

    go : (b a : Bool) → g.wait == k ≡ a → came_in k (after_look n served) ≡ came_in k served
        → came_in k (if b then shut ∷ served else g ∷ after_look n served) ≡ came_in k (g ∷ served)
    go true true same rest = rw same refl
    go true false same rest = rw same refl
    go false true same rest = rw same refl
    go false false same rest = rw same rest

found-is : (n : ℕ) (line : List Waiting) (w : Waiting) → find_wait n line ≡ Some w → w.wait ≡ n
found-is n [] w got = absurd (cc)
found-is n (v ∷ line) w got = go (n == v.wait) refl (found-is n line w)
  where
    go : (b : Bool) → n == v.wait ≡ b → (find_wait n line ≡ Some w → w.wait ≡ n) → w.wait ≡ n
    go true same rest =
        let own : Some v ≡ Some w = rw same at got in
        let is : v ≡ w = cc in
        rw (← is) (sym (eqb-true n v.wait same))
    go false other rest = rest (rw other at got)

pub came-delivered-else : (o : Pool) (n e k : ℕ) → k ≢ n → came_in k (after_deliver o n e).served ≡ came_in k o.served
came-delivered-else o n e k other = go (find_wait n o.line) refl
  where
    go : (found : Option Waiting) → find_wait n o.line ≡ found
        → came_in k (with_given e found o.served) ≡ came_in k o.served
    go None same = refl
    go (Some w) same =
        let is : w.wait ≡ n = found-is n o.line w same in
        came-placed-else k (record { wait = w.wait; pass = w.pass; element = e; is_open = true }) o.served
        (λ here. other (sym here ∙ is))

-- the first of the line is found there
first-found : (w : Waiting) (line : List Waiting) → find_wait w.wait (w ∷ line) ≡ Some w
first-found w line = rw (eq-eqb w.wait w.wait refl) refl

-- what is delivered to the first of the line has come for it
pub came-delivered-here : (o : Pool) (w : Waiting) (line : List Waiting) (e : ℕ) → o.line ≡ w ∷ line → AreSeated o
    → came_in w.wait (after_deliver o w.wait e).served ≡ e
came-delivered-here o w line e is seated =
    let one : bit (w.wait == w.wait) ≡ 1 = ap bit (eq-eqb w.wait w.wait refl) in
    let here : in_seats w.wait o.line ≡ bit (w.wait == w.wait) + in_seats w.wait line
    = ap (in_seats w.wait) is ∙ line-cons w.wait w line in
    let none : served_seats w.wait o.served ≡ 0 = omega (arith, one, here, seated.once w.wait) in
    let found : find_wait w.wait o.line ≡ Some w = ap (find_wait w.wait) is ∙ first-found w line in
    ap (λ f. came_in w.wait (with_given e f o.served)) found
    ∙ came-placed-here (record { wait = w.wait; pass = w.pass; element = e; is_open = true }) o.served none

-- so it is after each legal history
seated-entry : (o : Pool) (e : PoolEntry) → IsAllowed o e → AreSeated o → AreSeated (after_entry o e)
seated-entry o (entry.Put c e) may seated = record { once = seated.once; later = seated.later }
seated-entry o (entry.Enter c k) may seated = rw may (seated-entered o c seated)
seated-entry o (entry.Deliver k e) may seated = seated-delivered o k e seated
seated-entry o (entry.Leave c k) may seated = seated-left o k seated
seated-entry o (entry.Late c k e) may seated = seated-closed o k seated
seated-entry o (entry.LookGranted c k e) may seated = seated-closed o k seated
seated-entry o (entry.LookPending c k) may seated = seated

pub seated-after : (size : ℕ) (history : List PoolEntry) → IsLegal size history
    → AreSeated (object_after size history)
seated-after size history legal =
    walk-end IsAllowed after_entry (opening size) history AreSeated legal seated-entry
    (record { once = λ k. omega arith; later = λ k high. refl })

-- a wait that stands in the line is found there
pub waits-found : (k c : ℕ) (line : List Waiting) → Waits k c line → in_line k line ≡ true
waits-found k c [] stands = absurd (in-none _ stands)
waits-found k c (w ∷ line) stands = go (in-behind _ w line stands) (waits-found k c line)
  where
    either : (a : Bool) → (a || true) ≡ true
    either true = refl
    either false = refl

    go : (record { wait = k; pass = c } ≡ w) ⊎ IsIn (record { wait = k; pass = c }) line
        → (Waits k c line → in_line k line ≡ true) → in_line k (w ∷ line) ≡ true
    go (inl same) rest =
        let here : w.wait ≡ k = sym (ap (λ (v : Waiting). v.wait) same) in
        rw (eq-eqb w.wait k here) refl
    go (inr later) rest = rw (rest later) (either (w.wait == k))

-- one that was served has its seat there, and the element with which it was served
given-seated : (g : Given) (served : List Given) → IsIn g served → 0 < served_seats g.wait served
given-seated g [] stands = absurd (in-none g stands)
given-seated g (x ∷ served) stands = go (in-behind g x served stands) (given-seated g served)
  where
    go : (g ≡ x) ⊎ IsIn g served → (IsIn g served → 0 < served_seats g.wait served)
        → 0 < served_seats g.wait (x ∷ served)
    go (inl same) rest =
        let one : bit (x.wait == g.wait) ≡ 1
        = ap bit (eq-eqb x.wait g.wait (sym (ap (λ (y : Given). y.wait) same))) in
        omega (arith, one, served-cons g.wait x served)
    go (inr later) rest = omega (arith, rest later, served-cons g.wait x served)

given-came : (g : Given) (served : List Given) → IsIn g served → served_seats g.wait served ≤ 1
    → came_in g.wait served ≡ g.element
given-came g [] stands once = absurd (in-none g stands)
given-came g (x ∷ served) stands once = go (in-behind g x served stands) (given-came g served)
  where
    away : IsIn g served → (b : Bool) → x.wait == g.wait ≡ b → x.wait == g.wait ≡ false
    away later false other = other
    away later true same =
        let one : bit (x.wait == g.wait) ≡ 1 = ap bit same in
        absurd (omega (arith, one, once, given-seated g served later, served-cons g.wait x served))

    go : (g ≡ x) ⊎ IsIn g served
        → (IsIn g served → served_seats g.wait served ≤ 1 → came_in g.wait served ≡ g.element)
        → came_in g.wait (x ∷ served) ≡ g.element
    go (inl same) rest =
        let here : x.wait == g.wait ≡ true = eq-eqb x.wait g.wait (sym (ap (λ (y : Given). y.wait) same)) in
        rw here (sym (ap (λ (y : Given). y.element) same))
    go (inr later) rest =
        rw (away later (x.wait == g.wait) refl)
        (rest later (omega (arith, once, served-cons g.wait x served)))

-- what a look at a wait that was served finds: it isn't in the line, and this came for it
pub given-found : (o : Pool) (k c e : ℕ) → AreSeated o → IsGiven k c e o.served
    → (in_line k o.line ≡ false) × (came_in k o.served ≡ e)
given-found o k c e seated given =
    let own : Given = record { wait = k; pass = c; element = e; is_open = true } in
    let some : 0 < served_seats k o.served = given-seated own o.served given in
    let none : in_seats k o.line ≡ 0 = omega (arith, some, seated.once k) in
    (away (in_line k o.line) refl none, given-came own o.served given (omega (arith, seated.once k)))
  where
    away : (b : Bool) → in_line k o.line ≡ b → in_seats k o.line ≡ 0 → in_line k o.line ≡ false
    away false other none = other
    away true stands none = absurd (unseated-away k o.line none stands)
