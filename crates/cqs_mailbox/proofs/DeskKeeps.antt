-- How many posts the desk made after each of its calls, how many letters it received and acknowledged, and what it
-- knows of a sender that it met.
use Rattle.std.proofs.Common.{◌≡◌, ◌≢◌, ℕ, ◌+◌, ◌<◌, ◌≤◌, List, [], ◌∷◌, ◌++◌, Option, Some, None, MatchOption, length, set, slice_get, refl, sym, ap, ◌∙◌, subst, ⊎_elim, arith}
use Rattle.std.proofs.lemmas.Bool.{cases_eq}
use Rattle.std.proofs.lemmas.List.{length_push}
use mathlib.Core.Logic.{dite}
use native.Mathlib.Decide.{ℕ_discrete}
use Rattle.crossbeam_queue.specs.Passes.{Pass, view}
use Rattle.cqs_core.proofs.Places.{get-set_here, get-set_else}
use Rattle.cqs_mailbox.specs.declared.known.Known.{Known}
use Rattle.cqs_mailbox.specs.declared.known.Known.TheVariants as known
use Rattle.cqs_mailbox.specs.declared.letter.Letter.{Letter}
use Rattle.cqs_mailbox.specs.declared.tally.Tally.{Tally}
use Rattle.cqs_mailbox.specs.declared.tally.Tally.TheVariants as tally
use Rattle.cqs_mailbox.specs.Mail.{HasReceived, IsDesk, having_met, having_received, hiring, made_in, of_sender, received_in}
use Rattle.cqs_mailbox.specs.Senders.{given_by, given_to}
use Rattle.cqs_mailbox.specs.Tallies as tallies
use Rattle.cqs_mailbox.specs.Tallies.{IsCovered, desk_part, given_in, having_given, taken_in}
use Rattle.cqs_mailbox.proofs.MailKeeps.{of_same, of_other}

-- the posts that were made stay as many
posts-received : (v : Known) (x : Letter) → made_in (having_received v x) ≡ made_in v
posts-received (known.Desk m r f) x = refl
posts-received (known.Post s sent) x = refl
posts-received known.Gone x = refl

pub posts-after : (v w : Known) (X : Type 0) (r : Option Letter)
    → MatchOption r ((w ≡ v) × X) (λ x. HasReceived v x w) → made_in w ≡ made_in v
posts-after v w X (Some x) h = ap made_in h.knows ∙ posts-received v x
posts-after v w X None h = ap made_in h.0

pub posts-met : (v u w : Known) → w ≡ having_met v u → made_in w ≡ made_in v
posts-met v u w is = ap made_in is ∙ go v u
  where
    go : (v u : Known) → made_in (having_met v u) ≡ made_in v
    go (known.Desk m r f) (known.Desk n q g) = refl
    go (known.Desk m r f) (known.Post s sent) = refl
    go (known.Desk m r f) known.Gone = refl
    go (known.Post s sent) u = refl
    go known.Gone u = refl

-- and what was received stays received
pub same-hired : (v : Known) → received_in (hiring v) ≡ received_in v
same-hired (known.Desk m r f) = refl
same-hired (known.Post s sent) = refl
same-hired known.Gone = refl

pub same-met : (v u w : Known) → w ≡ having_met v u → received_in w ≡ received_in v
same-met v u w is = ap received_in is ∙ go v u
  where
    go : (v u : Known) → received_in (having_met v u) ≡ received_in v
    go (known.Desk m r f) (known.Desk n q g) = refl
    go (known.Desk m r f) (known.Post s sent) = refl
    go (known.Desk m r f) known.Gone = refl
    go (known.Post s sent) u = refl
    go known.Gone u = refl

-- so many letters of a sender are in a list
abbrev count : ℕ → List Letter → ℕ
count s l = length (of_sender s l)

count-more : (s : ℕ) (l : List Letter) (x : Letter) → count s l ≤ count s (l ++ x ∷ [])
count-more s l x = ⊎_elim
    (λ (same : x.sender ≡ s).
    let one = ap (λ (ys : List Letter). length ys) (of_same s l x same) in
    let long = length_push (of_sender s l) x in
    omega (arith, one, long))
    (λ (other : x.sender ≢ s).
    let one = ap (λ (ys : List Letter). length ys) (of_other s l x other) in omega (arith, one))
    (cases_eq x.sender s)

count-one : (l : List Letter) (x : Letter) → count x.sender (l ++ x ∷ []) ≡ count x.sender l + 1
count-one l x =
    let one = ap (λ (ys : List Letter). length ys) (of_same x.sender l x refl) in
    let long = length_push (of_sender x.sender l) x in
    omega (arith, one, long)

received-more : (v w : Known) (x : Letter) → IsDesk v → w ≡ having_received v x
    → received_in w ≡ received_in v ++ x ∷ []
received-more (known.Desk m r f) w x is same = ap received_in same
received-more (known.Post s sent) w x is same = absurd is
received-more known.Gone w x is same = absurd is

-- A letter more was received, and is to be acknowledged.
pub due-received : (v w : Known) (x : Letter) (given : ℕ → ℕ) → IsDesk v → HasReceived v x w
    → ((s : ℕ) → given s ≤ count s (received_in v)) → (s : ℕ) → given s ≤ count s (received_in w)
due-received v w x given is h due s =
    let all = ap (count s) (received-more v w x is h.knows) in
    let was = due s in
    let more = count-more s (received_in v) x in
    omega (arith, all, was, more)

pub due-now : (v w : Known) (x : Letter) (given : ℕ → ℕ) → IsDesk v → HasReceived v x w
    → ((s : ℕ) → given s ≤ count s (received_in v)) → given x.sender < count x.sender (received_in w)
due-now v w x given is h due =
    let all = ap (count x.sender) (received-more v w x is h.knows) in
    let was = due x.sender in
    let more = count-one (received_in v) x in
    omega (arith, all, was, more)

pub due-after : (v w : Known) (X : Type 0) (r : Option Letter) (given : ℕ → ℕ) → IsDesk v
    → MatchOption r ((w ≡ v) × X) (λ x. HasReceived v x w)
    → ((s : ℕ) → given s ≤ count s (received_in v)) → (s : ℕ) → given s ≤ count s (received_in w)
due-after v w X (Some x) given is h due = due-received v w x given is h due
due-after v w X None given is h due = subst (λ (u : Known). (s : ℕ) → given s ≤ count s (received_in u)) (sym h.0) due

pub same-count : (s : ℕ) (l k : List Letter) (n : ℕ) → k ≡ l → n ≤ count s l → n ≤ count s k
same-count s l k n same few = subst (λ (x : List Letter). n ≤ count s x) (sym same) few

-- how many were given to each sender, after a call for one of them
pub given-kept : (s t : ℕ) (ps : List (Pass (Unit {0}) Tally)) (p q : Pass (Unit {0}) Tally)
    → slice_get ps s ≡ Some p → given_in (view q) ≡ given_in (view p) → given_to t (set ps s q) ≡ given_to t ps
given-kept s t ps p q there same = dite (ℕ_discrete s t)
    (λ (e : s ≡ t).
    subst (λ (n : ℕ). given_to n (set ps s q) ≡ given_to n ps) e
    (ap given_by (get-set_here ps s p q there) ∙ (same ∙ ap given_by (sym there))))
    (λ (other : s ≢ t). ap given_by (get-set_else ps s t q other))

given-gave : (v : Tally) → tallies.IsDesk v → given_in (having_given v) ≡ given_in v + 1
given-gave (tally.Both g t) is = refl
given-gave (tally.Desk g) is = refl
given-gave (tally.Post t) is = absurd is
given-gave tally.Gone is = absurd is

pub due-given : (s : ℕ) (ps : List (Pass (Unit {0}) Tally)) (p q : Pass (Unit {0}) Tally) (all : ℕ → ℕ)
    → slice_get ps s ≡ Some p → tallies.IsDesk (view p) → view q ≡ having_given (view p)
    → given_to s ps < all s → ((t : ℕ) → given_to t ps ≤ all t) → (t : ℕ) → given_to t (set ps s q) ≤ all t
due-given s ps p q all there is gave more due t = dite (ℕ_discrete s t)
    (λ (e : s ≡ t).
    let now = ap given_by (get-set_here ps s p q there) in
    let one = ap given_in gave in
    let sum = given-gave (view p) is in
    let was = ap given_by there in
    subst (λ (n : ℕ). given_to n (set ps s q) ≤ all n) e (omega (arith, now, one, sum, was, more)))
    (λ (other : s ≢ t).
    let same = ap given_by (get-set_else ps s t q other) in let was = due t in omega (arith, same, was))

pub due-kept : (s t : ℕ) (ps : List (Pass (Unit {0}) Tally)) (p q : Pass (Unit {0}) Tally) (n : ℕ)
    → slice_get ps s ≡ Some p → given_in (view q) ≡ given_in (view p) → given_to t ps ≤ n → given_to t (set ps s q) ≤ n
due-kept s t ps p q n there same few = let kept = given-kept s t ps p q there same in omega (arith, kept, few)

pub given-part : (v : Tally) → given_in (desk_part v) ≡ given_in v
given-part (tally.Both g t) = refl
given-part (tally.Desk g) = refl
given-part (tally.Post t) = refl
given-part tally.Gone = refl

-- no more was taken than the desk had given
pub covered-by : (s : ℕ) (ps : List (Pass (Unit {0}) Tally)) (p q : Pass (Unit {0}) Tally) (u : Tally)
    → slice_get ps s ≡ Some p → view q ≡ tallies.having_met (view p) u → IsCovered (view q)
    → taken_in u ≤ given_to s ps
covered-by s ps p q u there met covered =
    subst (λ o. taken_in u ≤ given_by o) (sym there) (subst IsCovered met covered)
