-- What can be held has no rounds, and a call that has no entry there leaves its history and its parties.
use Rattle.std.proofs.Common.{◌≡◌, ℕ, Bool, true, List, [], Some, refl, ap}
use Rattle.std.proofs.lemmas.List.{append-nil}
use Rattle.cqs_plan.specs.declared.floors.answers.FloorLeave.{FloorLeave}
use Rattle.cqs_plan.specs.declared.floors.answers.FloorLeave.TheVariants.{Late}
use Rattle.cqs_plan.specs.declared.floors.answers.FloorLook.{FloorLook}
use Rattle.cqs_plan.specs.declared.plans.kind.Kind.{Kind}
use Rattle.cqs_plan.specs.declared.plans.kind.Kind.TheVariants as kind
use Rattle.cqs_plan.specs.FloorHistory.{History, of_elements, of_latch, of_permits, of_rounds}
use Rattle.cqs_plan.specs.Language.{can_hold}
use Rattle.cqs_plan.specs.LegalFloor.{IsHistory}
use Rattle.cqs_floor_shared.specs.AnswerEntries.{leave_entries, look_entries, turned_entries}
use Rattle.cqs_floor_shared.specs.Entries.{AreOf, at_elements, at_permits, none_of, own_entries, with_entries}
use Rattle.cqs_floor_shared_kinds.specs.ShareCalls.{parties_left}

-- what can be held has no rounds, and a call that has no entry there leaves its history
module _ (h : History) where
  pub quiet-words : (k : Kind) → can_hold k ≡ true → IsHistory k h → AreOf h (turned_entries (Some k) 0)
  quiet-words (kind.Semaphore permits) holdable is = words h is
    where
      words : (h : History) → IsHistory (kind.Semaphore permits) h → AreOf h (at_permits [])
      words (of_permits es) is = tt
      words (of_elements es) is = absurd is
      words (of_latch es) is = absurd is
      words (of_rounds es) is = absurd is
  quiet-words kind.Mutex holdable is = words h is
    where
      words : (h : History) → IsHistory kind.Mutex h → AreOf h (at_permits [])
      words (of_permits es) is = tt
      words (of_elements es) is = absurd is
      words (of_latch es) is = absurd is
      words (of_rounds es) is = absurd is
  quiet-words (kind.Pool elements) holdable is = words h is
    where
      words : (h : History) → IsHistory (kind.Pool elements) h → AreOf h (at_elements [])
      words (of_permits es) is = absurd is
      words (of_elements es) is = tt
      words (of_latch es) is = absurd is
      words (of_rounds es) is = absurd is
  quiet-words (kind.Latch count) holdable is = absurd (cc)
  quiet-words (kind.Rounds parties rounds) holdable is = absurd (cc)

quiet-permits : (h : History) → with_entries h (at_permits []) ≡ h
quiet-permits (of_permits es) = ap of_permits (append-nil es)
quiet-permits (of_elements es) = refl
quiet-permits (of_latch es) = refl
quiet-permits (of_rounds es) = refl

quiet-elements : (h : History) → with_entries h (at_elements []) ≡ h
quiet-elements (of_permits es) = refl
quiet-elements (of_elements es) = ap of_elements (append-nil es)
quiet-elements (of_latch es) = refl
quiet-elements (of_rounds es) = refl

pub quiet-same : (k : Kind) (h : History) → can_hold k ≡ true → with_entries h (turned_entries (Some k) 0) ≡ h
quiet-same (kind.Semaphore permits) h holdable = quiet-permits h
quiet-same kind.Mutex h holdable = quiet-permits h
quiet-same (kind.Pool elements) h holdable = quiet-elements h
quiet-same (kind.Latch count) h holdable = absurd (cc)
quiet-same (kind.Rounds parties rounds) h holdable = absurd (cc)

pub quiet-own : (k : Kind) (n : ℕ) → can_hold k ≡ true
    → own_entries n (turned_entries (Some k) 0) ≡ turned_entries (Some k) 0
quiet-own (kind.Semaphore permits) n holdable = refl
quiet-own kind.Mutex n holdable = refl
quiet-own (kind.Pool elements) n holdable = refl
quiet-own (kind.Latch count) n holdable = absurd (cc)
quiet-own (kind.Rounds parties rounds) n holdable = absurd (cc)

pub quiet-none : (k : Kind) → can_hold k ≡ true → none_of (turned_entries (Some k) 0) ≡ turned_entries (Some k) 0
quiet-none (kind.Semaphore permits) holdable = refl
quiet-none kind.Mutex holdable = refl
quiet-none (kind.Pool elements) holdable = refl
quiet-none (kind.Latch count) holdable = absurd (cc)
quiet-none (kind.Rounds parties rounds) holdable = absurd (cc)

pub quiet-look : (k : Kind) (round c n : ℕ) (answer : FloorLook) → can_hold k ≡ true
    → none_of (look_entries (Some k) round c n answer) ≡ turned_entries (Some k) 0
quiet-look (kind.Semaphore permits) round c n answer holdable = refl
quiet-look kind.Mutex round c n answer holdable = refl
quiet-look (kind.Pool elements) round c n answer holdable = refl
quiet-look (kind.Latch count) round c n answer holdable = absurd (cc)
quiet-look (kind.Rounds parties rounds) round c n answer holdable = absurd (cc)

pub quiet-leave : (k : Kind) (round c n : ℕ) (answer : FloorLeave) (stays : Bool) → can_hold k ≡ true
    → none_of (leave_entries (Some k) round c n answer stays) ≡ turned_entries (Some k) 0
quiet-leave (kind.Semaphore permits) round c n answer stays holdable = refl
quiet-leave kind.Mutex round c n answer stays holdable = refl
quiet-leave (kind.Pool elements) round c n answer stays holdable = refl
quiet-leave (kind.Latch count) round c n answer stays holdable = absurd (cc)
quiet-leave (kind.Rounds parties rounds) round c n answer stays holdable = absurd (cc)

-- who was too late to leave gets no party back
pub late-parties : (k : Kind) (had : List ℕ) (round element : ℕ) → parties_left k had round (Late element) ≡ had
late-parties (kind.Semaphore permits) had round element = refl
late-parties kind.Mutex had round element = refl
late-parties (kind.Pool elements) had round element = refl
late-parties (kind.Latch count) had round element = refl
late-parties (kind.Rounds parties rounds) had round element = refl
