-- What every step of a latch owes: one more entry, or none; and the two kinds of steps that most are, one that nobody
-- sees and one by which a resumption reaches a wait.
use Rattle.std.proofs.Common.{◌≡◌, ◌⊎◌, inl, inr, ℕ, ◌-◌, ◌<◌, ℤ, Bool, true, false, List, [], ◌∷◌, ◌++◌, Some, length, set, slice_get, sum, refl, ap, sym, ◌∙◌, subst, arith}
use Rattle.std.specs.List.{count_by}
use Rattle.std.proofs.lemmas.Bool.{cases_Bool, both_ways}
use Rattle.std.proofs.lemmas.List.{length-set}
use Rattle.cqs_core.specs.declared.doings.Doing.{Doing}
use Rattle.cqs_core.specs.QueueState.{Queue}
use Rattle.cqs_core.specs.QueueLine.{going, is_resuming, is_told_refused}
use Rattle.cqs_core.specs.QueueMoves as move
use Rattle.cqs_core.specs.QueueMoves.{IsOpen, move_queue}
use Rattle.cqs_core.specs.QueueSound.{IsSound}
use Rattle.cqs_core.proofs.Histories.{object-push, legal-push}
use Rattle.cqs_core.proofs.HiddenMoves.{Keeps}
use Rattle.cqs_core.proofs.Places.{get-below}
use Rattle.cqs_core.proofs.QueueBegins.{Quiet, quiet-keeps, Delivered, some-going}
use Rattle.cqs_core.proofs.Sound.{sound-moved}
use Rattle.cqs_latch_object.specs.declared.entries.LatchEntry.{LatchEntry}
use Rattle.cqs_latch_object.specs.declared.entries.LatchEntry.TheVariants as entry
use Rattle.cqs_latch_object.specs.LatchObject.{Latch, opening}
use Rattle.cqs_latch_object.specs.LatchEntries.{IsAllowed, after_entry}
use Rattle.cqs_core.specs.QueueWaiters.{Waiters, waiters}
use Rattle.cqs_latch_object.specs.LatchShown.{LatchShape, holes, holes_shown, way_shown, shown_by, shown_latch, is_opening, has_loaded, IsFit, IsShut, IsOpened, IsLatch}
use Rattle.cqs_latch_object.proofs.Counting.{same-count, floor-same}

pub same-latch : {a b : Latch} → a.simple ≡ b.simple → a.count ≡ b.count → a.opened ≡ b.opened → a.way ≡ b.way
    → a.waiters ≡ b.waiters → a.holes ≡ b.holes → a ≡ b
same-latch simple count opened way waiters holes =
    λ i. record {
      simple = simple i;
      count = count i;
      opened = opened i;
      way = way i;
      waiters = waiters i;
      holes = holes i;
    }

pub shown-holes : (b : Bool) (q r : Queue) → holes r ≡ holes q → holes_shown b r ≡ holes_shown b q
shown-holes true q r same = same
shown-holes false q r same = refl

-- a pass of the latch owes in a place of its own
pub owes-there : (s : LatchShape) (p : ℕ) (d : Doing) → IsLatch s → slice_get s.queue.doing p ≡ Some d
    → p < length s.owed
owes-there s p d is does = let there = get-below s.queue.doing p d does in omega (arith, is.owners)

-- the latch with these words, debts, history and queue
abbrev pub latch_of : LatchShape → ℤ → ℕ → Bool → List ℕ → List LatchEntry → Queue → LatchShape
latch_of s count word done owed history q = record {
  simple = s.simple;
  size = s.size;
  count = count;
  word = word;
  done = done;
  owed = owed;
  history = history;
  queue = q;
}

-- One entry more.
pub push-latch : (s : LatchShape) (count : ℤ) (word : ℕ) (done : Bool) (owed : List ℕ) (q : Queue) (e : LatchEntry)
    → IsLatch s → IsSound q → IsAllowed (shown_latch s) e
    → after_entry (shown_latch s) e ≡ shown_by s.simple count done owed q
    → length owed ≡ length q.doing
    → (done ≡ false → IsShut (latch_of s count word done owed (s.history ++ e ∷ []) q))
    → (done ≡ true → IsOpened (latch_of s count word done owed (s.history ++ e ∷ []) q))
    → IsFit s.simple s.size count q.doing
    → IsLatch (latch_of s count word done owed (s.history ++ e ∷ []) q)
push-latch s count word done owed q e is sound allowed shows owners shut opened fit = record {
  sound = sound;
  legal = legal-push IsAllowed after_entry (opening s.simple s.size) s.history e
      (subst (λ (o : Latch). IsAllowed o e) (sym is.object) allowed) is.legal;
  object = object-push IsAllowed after_entry (opening s.simple s.size) s.history e
      ∙ ap (λ o. after_entry o e) is.object ∙ shows;
  owners = owners;
  shut = shut;
  opened = opened;
  fit = fit;
}

-- What the passes are at, as far as the latch looks: who opens it, who was told to refuse, who has loaded the count.
pub record SamePasses (q r : Queue) : Type 0 where
  pub opener : count_by is_opening r.doing ≡ count_by is_opening q.doing
  pub told : count_by is_told_refused r.doing ≡ count_by is_told_refused q.doing
  pub loaded : count_by has_loaded r.doing ≡ count_by has_loaded q.doing
  pub long : length r.doing ≡ length q.doing

pub same-passes : (q : Queue) → SamePasses q q
same-passes q = record { opener = refl; told = refl; loaded = refl; long = refl }

pub passes-set : (q r : Queue) (p : ℕ) (from to : Doing) → slice_get q.doing p ≡ Some from → r.doing ≡ set q.doing p to
    → is_opening from ≡ is_opening to → is_told_refused from ≡ is_told_refused to → has_loaded from ≡ has_loaded to
    → SamePasses q r
passes-set q r p from to does is opener tells loads =
    record {
      opener = ap (count_by is_opening) is ∙ same-count is_opening q.doing p from to does opener;
      told = ap (count_by is_told_refused) is ∙ same-count is_told_refused q.doing p from to does tells;
      loaded = ap (count_by has_loaded) is ∙ same-count has_loaded q.doing p from to does loads;
      long = ap length is ∙ length-set q.doing p to;
    }

pub passes-fit : (s : LatchShape) (q : Queue) → IsLatch s → SamePasses s.queue q
    → IsFit s.simple s.size s.count q.doing
passes-fit s q is same =
    record {
      plain = λ simple. same.told ∙ is.fit.plain simple;
      low = floor-same s.count s.queue.doing q.doing same.loaded same.long is.fit.low;
      high = is.fit.high;
    }

pub ways-quiet : (b : Bool) (q r : Queue) (owed after : List ℕ) (n : ℕ) → Quiet q r owed after n → (b ≡ true → n ≡ 0)
    → way_shown b (sum owed) q ≡ way_shown b (sum after) r
ways-quiet true q r owed after n quiet none = omega (arith, quiet.total, none refl)
ways-quiet false q r owed after n quiet none = omega (arith, quiet.total, quiet.ending)

-- a step that nobody sees
pub quiet-latch : (s : LatchShape) (owed : List ℕ) (q : Queue) (n : ℕ) → IsLatch s → IsSound q
    → Quiet s.queue q s.owed owed n → SamePasses s.queue q → (s.done ≡ false → q.resumes ≡ 0)
    → way_shown s.simple (sum s.owed) s.queue ≡ way_shown s.simple (sum owed) q
    → holes_shown s.simple q ≡ holes_shown s.simple s.queue
    → length owed ≡ length s.owed
    → IsLatch (record s { owed = owed; queue = q })
quiet-latch s owed q n is sound quiet same resumes ways kept owners =
    let next : q.suspends ≡ s.queue.suspends = ap (λ (w : Waiters). w.next) quiet.waiters in
    record {
      sound = sound;
      legal = is.legal;
      object = is.object ∙ same-latch refl refl refl ways (sym quiet.waiters) (sym kept);
      owners = owners ∙ is.owners ∙ sym same.long;
      shut = λ shut.
          let was = is.shut shut in
          record {
            resumes = resumes shut;
            none = omega (arith, was.none, quiet.total);
            counted = omega (arith, was.counted, was.none, quiet.due, quiet.ending, quiet.total);
            kept = λ smart. omega (arith, was.kept smart, quiet.ending);
            opener = same.opener ∙ was.opener;
          };
      opened = λ open_now.
          let was = is.opened open_now in
          record {
            used = was.used;
            ways = omega (arith, was.ways, quiet.total, quiet.ending, quiet.due);
            enough = λ smart. omega (arith, was.enough smart, quiet.due);
            few = omega (arith, was.few, same.loaded, same.long);
            opener = same.opener ∙ was.opener;
          };
      fit = passes-fit s q is same;
    }

ways-served : (b : Bool) (q r : Queue) (owed after : List ℕ) (k c : ℕ) → Delivered q r owed after k c
    → way_shown b (sum owed) q - 1 ≡ way_shown b (sum after) r
ways-served true q r owed after k c serves = omega (arith, serves.total)
ways-served false q r owed after k c serves = omega (arith, serves.total, serves.ending)

-- a latch at which a resumption goes on is open
pub open-now : (s : LatchShape) → IsLatch s → 0 < going s.queue → s.done ≡ true
open-now s is some = go (cases_Bool s.done)
  where
    go : (s.done ≡ true) ⊎ (s.done ≡ false) → s.done ≡ true
    go (inl done) = done
    go (inr shut) = let was = is.shut shut in absurd (omega (arith, was.none))

-- a resumption reaches a wait
pub delivered-latch : (s : LatchShape) (owed : List ℕ) (q : Queue) (k c : ℕ) → IsLatch s → IsSound q
    → Delivered s.queue q s.owed owed k c → SamePasses s.queue q
    → holes q ≡ holes s.queue → length owed ≡ length s.owed
    → IsLatch (record s { owed = owed; queue = q; history = s.history ++ entry.Deliver k ∷ [] })
delivered-latch s owed q k c is sound serves same kept owners =
    let done : s.done ≡ true = open-now s is serves.some in
    let was = is.opened done in
    let next : q.suspends ≡ s.queue.suspends = ap (λ (w : Waiters). w.next) serves.waiters in
    push-latch s s.count s.word s.done owed q (entry.Deliver k) is sound (done, (c, serves.stands))
    (same-latch refl refl refl (ways-served s.simple s.queue q s.owed owed k c serves) (sym serves.waiters)
    (sym (shown-holes s.simple s.queue q kept)))
    (owners ∙ is.owners ∙ sym same.long)
    (λ shut. absurd (both_ways s.done shut done))
    (λ open_now. record {
      used = was.used;
      ways = omega (arith, was.ways, serves.total, serves.ending, serves.due);
      enough = λ smart. omega (arith, was.enough smart, serves.due);
      few = omega (arith, was.few, same.loaded, same.long);
      opener = same.opener ∙ was.opener;
    })
    (passes-fit s q is same)

module _ (s : LatchShape) (p : ℕ) (is : IsLatch s) where
  pub resuming-open : (d : Doing) → slice_get s.queue.doing p ≡ Some d → is_resuming d ≡ true → s.done ≡ true
  resuming-open d does resumes = open-now s is (some-going s.queue p d does resumes)

  -- a move of one pass that nobody sees, and by which no resumption ends
  pub unseen : (m : move.Move) (from to : Doing) → IsOpen s.queue m → slice_get s.queue.doing p ≡ Some from
      → (move_queue s.queue m).doing ≡ set s.queue.doing p to
      → is_opening from ≡ is_opening to → is_told_refused from ≡ is_told_refused to → has_loaded from ≡ has_loaded to
      → Keeps s.queue (move_queue s.queue m) 0
      → (s.done ≡ false → (move_queue s.queue m).resumes ≡ 0)
      → holes (move_queue s.queue m) ≡ holes s.queue
      → IsLatch (record s { queue = move_queue s.queue m })
  unseen m from to may does turns opener tells loads keeps resumes kept =
      let r : Queue = move_queue s.queue m in
      let quiet = quiet-keeps s.queue r s.owed 0 keeps in
      quiet-latch s s.owed r 0 is (sound-moved s.queue m is.sound may) quiet
      (passes-set s.queue r p from to does turns opener tells loads) resumes
      (ways-quiet s.simple s.queue r s.owed s.owed 0 quiet (λ simple. refl)) (shown-holes s.simple s.queue r kept) refl
