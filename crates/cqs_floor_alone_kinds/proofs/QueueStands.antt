-- How a semaphore of the running queue stands, by its state.
use Rattle.std.proofs.Common.{◌≡◌, ◌⊎◌, inl, inr, ℕ, zero, suc, ◌+◌, ◌-◌, ◌≤◌, ◌==◌, ℤ, pos, negsuc, ◌≤ℤ◌, ◌-ℤ◌, nat_lt, Bool, true, false, List, [], ◌∷◌, ◌++◌, length, refl, ap, sym, ◌∙◌, subst, arith}
use Rattle.std.specs.List.{fold}
use Rattle.std.proofs.lemmas.Int.{ints}
use Rattle.std.proofs.lemmas.List.{length_push}
use Rattle.std.proofs.lemmas.List.Elements.{filter-append}
use Rattle.std.proofs.lemmas.List.Sums.{sum_by-cons}
use Rattle.cqs_core.specs.declared.entries.Entry.{Entry}
use Rattle.cqs_core.specs.declared.entries.Entry.TheVariants as entry
use Rattle.cqs_core.specs.Keyed.{without}
use Rattle.cqs_core.specs.QueueLine.{Waiting}
use Rattle.cqs_core.specs.SemaphoreEntries.{IsBalanced, IsLegal, after_entry, after_leave, has_spoiled, object_after}
use Rattle.cqs_core.specs.SemaphoreObject.{Semaphore, due, early, opening}
use Rattle.cqs_core.specs.SemaphoreShown.{free_of, short_of, state_of}
use Rattle.cqs_core.proofs.Balance.{every-history-balanced}
use Rattle.cqs_core.proofs.Counts.{bit}
use Rattle.cqs_core.proofs.Waits.{enters_by}
use Rattle.cqs_plan.specs.Floor.{size_of}
use Rattle.cqs_rule_laws.specs.declared.view.View.{View}
use Rattle.cqs_rule_laws.specs.Lists.{Has}
use Rattle.cqs_semaphore.specs.Calls.{CallRule, Rests, plain_after}
use Rattle.cqs_semaphore.specs.Causes.{drawn_in, is_enter}
use Rattle.cqs_floor_alone_kinds.specs.declared.sole.Stand.{Stand}
use Rattle.cqs_floor_alone_kinds.specs.Soles.{Tells}
use Rattle.cqs_floor_alone_kinds.specs.SoleQueue.{IsResting, OnePass, is_news, news, sole_of}
use Rattle.cqs_floor_alone_kinds.proofs.OnePasses.{object-seen}
use Rattle.cqs_floor_alone_kinds.proofs.PassRests.{has-next, line_left, rests-next, went}

-- the state of a semaphore at rest, of whose free permits and waits one is none
state-free : (a b : ℕ) → (a ≡ 0) ⊎ (b ≡ 0) → free_of (pos a -ℤ pos b) ≡ a
state-free a zero one = grind (arith, ints)
state-free zero (suc b) one = grind (arith, ints)
state-free (suc a) (suc b) (inl none) = absurd (omega (arith, none))
state-free (suc a) (suc b) (inr none) = absurd (omega (arith, none))

state-short : (a b : ℕ) → (a ≡ 0) ⊎ (b ≡ 0) → short_of (pos a -ℤ pos b) ≡ b
state-short a zero one = grind (arith, ints)
state-short zero (suc b) one = grind (arith, ints)
state-short (suc a) (suc b) (inl none) = absurd (omega (arith, none))
state-short (suc a) (suc b) (inr none) = absurd (omega (arith, none))

without-le : (k : ℕ) (ws : List Waiting) → length (without (λ w. w.wait) k ws) ≤ length ws
without-le k [] = omega arith
without-le k (w ∷ ws) = go (k == w.wait) refl (without-le k ws)
  where
    go : (b : Bool) → k == w.wait ≡ b → length (without (λ w. w.wait) k ws) ≤ length ws
        → length (without (λ w. w.wait) k (w ∷ ws)) ≤ length (w ∷ ws)
    go true is less = rw is (omega arith)
    go false is less = rw is (omega (arith, less))

left-line : (o : Semaphore) (k : ℕ) → length (after_leave o k).line ≤ length o.line
left-line o k = turn (nat_lt (due (line_left o k)) (line_left o k).way) refl
  where
    turn : (b : Bool) → nat_lt (due (line_left o k)) (line_left o k).way ≡ b
        → length (after_leave o k).line ≤ length o.line
    turn true is = rw is (without-le k o.line)
    turn false is = rw is (without-le k o.line)

below : (z : ℤ) → free_of z ≤ 1048576 → z ≤ℤ pos 4294967295
below (pos m) few = grind (arith, ints)
below (negsuc m) few = grind (arith, ints)

above : (z : ℤ) → short_of z ≤ 1048576 → negsuc 4294967294 ≤ℤ z
above (pos m) few = grind (arith, ints)
above (negsuc m) few = grind (arith, ints)

-- only an entry into the line makes it longer
line-after : (o : Semaphore) (e : Entry) → length (after_entry o e).line ≤ length o.line + bit (is_enter e)
line-after o (entry.TakeNow c) = omega arith
line-after o (entry.TakeDoor c) = omega arith
line-after o (entry.Enter c k) = go (has_spoiled k o.spoiled)
  where
    go : (b : Bool) → length (enters_by o c k b).line ≤ length o.line + 1
    go true = omega arith
    go false = omega (arith, length_push o.line (record { wait = k; pass = c }))
line-after o (entry.TryGot c) = omega arith
line-after o (entry.TryBusy c) = omega arith
line-after o (entry.GiveFreed c) = omega arith
line-after o (entry.GiveSent c) = omega arith
line-after o (entry.Deliver k) = omega (arith, without-le k o.line)
line-after o (entry.Spoil c k) = omega (arith, without-le k o.line)
line-after o (entry.Undo c k) = omega arith
line-after o (entry.Leave c k) = omega (arith, left-line o k)
line-after o (entry.Late c k) = omega arith
line-after o (entry.LookGranted c k) = omega arith
line-after o (entry.LookPending c k) = omega arith

line-fold : (o : Semaphore) (es : List Entry) → length (fold after_entry o es).line ≤ length o.line + drawn_in es
line-fold o [] = omega arith
line-fold o (e ∷ es) =
    omega (arith, line-fold (after_entry o e) es, line-after o e, sum_by-cons (λ e. bit (is_enter e)) e es)

pub line-drawn : (size : ℕ) (es : List Entry) → length (object_after size es).line ≤ drawn_in es
line-drawn size es = let few = line-fold (opening size) es in omega (arith, few)

-- what the state of a pass's semaphore tells that rests
module _ {T : Type 0} (v : View Entry T) (size room held : ℕ) (rests : IsResting v size room held)
    (legal : IsLegal v.opening.size v.seen) where
  abbrev o : Semaphore
  o = plain_after v

  balanced : IsBalanced v.opening.size o
  balanced = every-history-balanced v.opening.size v.seen legal

  -- all who must be resumed stand in the line
  due-line : due o - o.way ≡ length o.line
  due-line = let none = rests.still.way in let nobody = ap (λ (ds : List ℕ). length ds) rests.still.door in
      let few : early o ≤ length o.door = balanced.early in
      omega (arith, none, nobody, few)

  state-is : state_of o ≡ pos o.free -ℤ pos (length o.line)
  state-is = ap (λ n. pos o.free -ℤ pos n) due-line

  one-none : (o.free ≡ 0) ⊎ (length o.line ≡ 0)
  one-none = go balanced.eager
    where
      go : (o.free ≡ 0) ⊎ (o.way ≡ due o) → (o.free ≡ 0) ⊎ (length o.line ≡ 0)
      go (inl none) = inl none
      go (inr all) = inr (omega (arith, all, due-line))

  pub free-told : free_of (state_of o) ≡ o.free
  free-told = ap free_of state-is ∙ state-free o.free (length o.line) one-none

  pub line-told : short_of (state_of o) ≡ length o.line
  line-told = ap short_of state-is ∙ state-short o.free (length o.line) one-none

  pub all-told : o.held + o.free ≡ size
  all-told = omega (arith, balanced.conserved, rests.still.way, rests.size_is)

  pub state-most : state_of o ≤ℤ pos 4294967295
  state-most = below (state_of o) (omega (arith, free-told, all-told, rests.most))

  pub state-least : negsuc 4294967294 ≤ℤ state_of o
  state-least =
      above (state_of o) (omega (arith, line-told, line-drawn v.opening.size v.seen, rests.below, rests.few))

-- how one of the running queue stands, by its state
pub one-tells : {X T : Type 0} (q : OnePass X T)
    → ((x : X) → q.mine x → IsLegal (q.view x).opening.size (q.view x).seen)
    → (x y : X) (stand : Stand) → q.mine y → q.space y ≡ q.space x → q.held y ≡ q.held x
    → CallRule (q.view x) [] [] (q.view y)
    → Rests (q.view x) (q.view x).facts.has.held (q.view x).facts.waits (q.view y)
    → stand.free ≡ free_of (state_of (plain_after (q.view x)))
    → stand.line ≡ short_of (state_of (plain_after (q.view x)))
    → Tells (sole_of q) x stand y
one-tells q legal x y stand mine capacity kept rule after free line kind room waiting held funded =
    let v = q.view x in
    let w = q.view y in
    let seen : w.seen ≡ v.seen ++ [] = went v w [] [] rule funded.rests.alone in
    let is = sym (object-seen q x kind funded.rests.size_is) in
    let lawful = legal x funded.mine in
    let rests = subst (λ n. Rests v n v.facts.waits w) funded.rests.holds after in
    record {
      free = free ∙ free-told v (size_of kind) room held funded.rests lawful ∙ ap (λ (o : Semaphore). o.free) is;
      line = line ∙ line-told v (size_of kind) room held funded.rests lawful
          ∙ ap (λ (o : Semaphore). length o.line) is;
      all = subst (λ (o : Semaphore). o.held + o.free ≡ size_of kind) is
          (all-told v (size_of kind) room held funded.rests lawful);
      goes = record {
        appended = ap news seen ∙ filter-append is_news v.seen [];
        funded = record {
          sort = funded.sort;
          mine = mine;
          rests = rests-next v w [] rule.called.same seen (size_of kind) room held room held v.facts.waits
              funded.rests rests (omega arith) funded.rests.still funded.rests.drawn;
          permits = kept ∙ funded.permits;
          spare = omega (arith, capacity, funded.spare);
        };
      };
      keeps = λ other has. has-next v w [] rule.called.same seen other has
          (subst (Has other.index) (sym rests.waits_are) has.open_yet);
    }
