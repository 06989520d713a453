-- Each move of a sender's acknowledgements keeps their rule.
use Rattle.std.proofs.Common.{◌≡◌, ◌≢◌, ℕ, zero, suc, ◌+◌, ◌≤◌, List, [], ◌∷◌, ◌++◌, length, set, Result, Ok, Err, Option, Some, None, MatchResult, MatchOption, sym, refl, ap, ◌∙◌, subst, ⊎_elim, arith}
use Rattle.std.proofs.lemmas.List.{length_push}
use mathlib.Core.Option.{some, some-ne-none}
use lib.ListN.{get_elem?}
use Rattle.crossbeam_queue.specs.Fifo.{Pushes, Pops, Forks, Merges, Learns, Held}
use Rattle.crossbeam_queue.proofs.Lists.{at_set}
use Rattle.cqs_mailbox.specs.declared.tally.Tally.{Tally}
use Rattle.cqs_mailbox.specs.declared.tally.Tally.TheVariants.{Both, Desk, Post, Gone}
use Rattle.cqs_mailbox.specs.Tallies.{Knows, IsTally, WasFound, IsDesk, IsPost, having_met, having_given, having_taken, given_in, IsCovered}

abbrev All : (ℕ → Tally → Type 0) → List Tally → Type 0
All F views = (port : ℕ) (v : Tally) → get_elem? views port ≡ some v → F port v

all_set : (F : ℕ → Tally → Type 0) (views : List Tally) (port : ℕ) (w : Tally) → F port w
    → ((j : ℕ) (u : Tally) → j ≢ port → get_elem? views j ≡ some u → F j u) → All F (set views port w)
all_set F views port w mine others j u e =
    ⊎_elim (λ (x : (j ≡ port) × (w ≡ u)). subst (λ (y : ℕ × Tally). F y.0 y.1) (λ i. (sym x.0 i, x.1 i)) mine)
    (λ (x : (j ≢ port) × (get_elem? views j ≡ some u)). others j u x.0 x.1) (at_set views port j w u e)

some_same : (a b : Tally) → some a ≡ some b → a ≡ b
some_same a b e = cc e

at_placed : (vs : List Tally) (right u : Tally) (j : ℕ) (Now : ℕ → Tally → Type 0) → Now (length vs) right
    → (get_elem? vs j ≡ some u → Now j u) → get_elem? (vs ++ right ∷ []) j ≡ some u → Now j u
at_placed [] right u zero Now new old e = subst (λ y. Now 0 y) (some_same right u e) new
at_placed [] right u (suc j) Now new old e = absurd (some-ne-none u (sym e))
at_placed (x ∷ xs) right u zero Now new old e = old e
at_placed (x ∷ xs) right u (suc j) Now new old e = at_placed xs right u j (λ n. Now (suc n)) new old e

pub begins : IsTally [] (Both 0 0 ∷ [])
begins = record { desk = 0; post = 0; given = 0; taken = 0; sum = refl; each = λ port v e. only port v e }
  where
    only : (port : ℕ) (v : Tally) → get_elem? (Both 0 0 ∷ []) port ≡ some v → Knows 0 0 0 0 port v
    only zero v e = subst (λ y. Knows 0 0 0 0 0 y) (some_same (Both 0 0) v e) (refl, refl, refl, refl)
    only (suc port) v e = absurd (some-ne-none v (sym e))

-- what another pass than the desk knows, after the desk gave one; and another than the post, after that took one
not_desk : (desk post a b r j : ℕ) (u : Tally) → j ≢ desk → Knows desk post a r j u → Knows desk post b r j u
not_desk desk post a b r j (Both x y) other k = absurd (other k.0)
not_desk desk post a b r j (Desk x) other k = absurd (other k.0)
not_desk desk post a b r j (Post y) other k = k
not_desk desk post a b r j Gone other k = tt

not_post : (desk post a r s j : ℕ) (u : Tally) → j ≢ post → Knows desk post a r j u → Knows desk post a s j u
not_post desk post a r s j (Both x y) other k = absurd (other k.1)
not_post desk post a r s j (Desk x) other k = k
not_post desk post a r s j (Post y) other k = absurd (other k.0)
not_post desk post a r s j Gone other k = tt

-- what a pass knows that is neither
neither : (desk post desk2 post2 a r j : ℕ) (u : Tally) → j ≢ desk → j ≢ post → Knows desk post a r j u
    → Knows desk2 post2 a r j u
neither desk post desk2 post2 a r j (Both x y) d p k = absurd (d k.0)
neither desk post desk2 post2 a r j (Desk x) d p k = absurd (d k.0)
neither desk post desk2 post2 a r j (Post y) d p k = absurd (p k.0)
neither desk post desk2 post2 a r j Gone d p k = tt

pub gives : (n port : ℕ) (v : Tally) (x : Unit {0}) → IsDesk v
    → Pushes IsTally n port v x (λ w. w ≡ having_given v)
gives n port (Post t) x mine items views room h at = absurd mine
gives n port Gone x mine items views room h at = absurd mine
gives n port (Both g t) x mine items views room h at =
    let k = h.each port (Both g t) at in (
      Both (g + 1) t,
      record {
        desk = h.desk;
        post = h.post;
        given = h.given + 1;
        taken = h.taken;
        sum = omega (arith, h.sum, length_push items x);
        each = all_set (Knows h.desk h.post (h.given + 1) h.taken) views port (Both (g + 1) t)
            (k.0, k.1, ap (λ m. m + 1) k.2, k.3)
            (λ j u other e. not_desk h.desk h.post h.given (h.given + 1) h.taken j u
            (λ is. other (is ∙ sym k.0)) (h.each j u e));
      },
      refl,
    )
gives n port (Desk g) x mine items views room h at =
    let k = h.each port (Desk g) at in (
      Desk (g + 1),
      record {
        desk = h.desk;
        post = h.post;
        given = h.given + 1;
        taken = h.taken;
        sum = omega (arith, h.sum, length_push items x);
        each = all_set (Knows h.desk h.post (h.given + 1) h.taken) views port (Desk (g + 1)) (k.0, ap (λ m. m + 1) k.1)
            (λ j u other e. not_desk h.desk h.post h.given (h.given + 1) h.taken j u
            (λ is. other (is ∙ sym k.0)) (h.each j u e));
      },
      refl,
    )

pub takes : (port : ℕ) (v : Tally) → IsPost v → Pops IsTally port v (λ x w. w ≡ having_taken v)
takes port (Both g t) mine x items views h at = absurd mine
takes port (Desk g) mine x items views h at = absurd mine
takes port Gone mine x items views h at = absurd mine
takes port (Post t) mine x items views h at =
    let k = h.each port (Post t) at in (
      Post (t + 1),
      record {
        desk = h.desk;
        post = h.post;
        given = h.given;
        taken = h.taken + 1;
        sum = omega (arith, h.sum);
        each = all_set (Knows h.desk h.post h.given (h.taken + 1)) views port (Post (t + 1)) (k.0, ap (λ m. m + 1) k.1)
            (λ j u other e. not_post h.desk h.post h.given h.taken (h.taken + 1) j u
            (λ is. other (is ∙ sym k.0)) (h.each j u e));
      },
      refl,
    )

pub parts : (port g t : ℕ) → Forks IsTally port (Both g t) (Desk g) (Post t)
parts port g t items views h at =
    let k = h.each port (Both g t) at in
    let vs : List Tally = set views port (Desk g) in
    let Now : ℕ → Tally → Type 0 = Knows port (length vs) h.given h.taken in
    let old : All Now vs = all_set Now views port (Desk g) (refl, k.2)
    (λ j u other e. neither h.desk h.post port (length vs) h.given h.taken j u
    (λ is. other (is ∙ sym k.0)) (λ is. other (is ∙ sym k.1)) (h.each j u e)) in
    record {
      desk = port;
      post = length vs;
      given = h.given;
      taken = h.taken;
      sum = h.sum;
      each = λ j u e. at_placed vs (Post t) u j Now (refl, k.3) (old j u) e;
    }

pub meets : (port : ℕ) (v : Tally) (other : ℕ) (u : Tally) → IsDesk v → IsPost u
    → Merges IsTally port v other u (having_met v u) Gone
meets port (Post t) other u mine theirs items views h at two at' = absurd mine
meets port Gone other u mine theirs items views h at two at' = absurd mine
meets port (Both g s) other (Both b r) mine theirs items views h at two at' = absurd theirs
meets port (Both g s) other (Desk b) mine theirs items views h at two at' = absurd theirs
meets port (Both g s) other Gone mine theirs items views h at two at' = absurd theirs
meets port (Both g s) other (Post t) mine theirs items views h at two at' =
    let k = h.each port (Both g s) at in
    let was : get_elem? views other ≡ some (Post t) =
    ⊎_elim (λ x. absurd (two x.0)) (λ x. x.1) (at_set views port other (Both g t) (Post t) at') in
    let l = h.each other (Post t) was in
    absurd (two (l.0 ∙ sym k.1))
meets port (Desk g) other (Both b r) mine theirs items views h at two at' = absurd theirs
meets port (Desk g) other (Desk b) mine theirs items views h at two at' = absurd theirs
meets port (Desk g) other Gone mine theirs items views h at two at' = absurd theirs
meets port (Desk g) other (Post t) mine theirs items views h at two at' =
    let k = h.each port (Desk g) at in
    let vs : List Tally = set views port (Both g t) in
    let was : get_elem? views other ≡ some (Post t) =
    ⊎_elim (λ x. absurd (two x.0)) (λ x. x.1) (at_set views port other (Both g t) (Post t) at') in
    let l = h.each other (Post t) was in
    let Now : ℕ → Tally → Type 0 = Knows port port h.given h.taken in
    let Then : ℕ → Tally → Type 0 = λ j y. j ≢ other → Now j y in
    let now : All Then vs = all_set Then views port (Both g t) (λ apart. (refl, refl, k.1, l.1))
    (λ j y far e apart. neither h.desk h.post port port h.given h.taken j y
    (λ is. far (is ∙ sym k.0)) (λ is. apart (is ∙ sym l.0)) (h.each j y e)) in
    record {
      desk = port;
      post = port;
      given = h.given;
      taken = h.taken;
      sum = h.sum;
      each = all_set Now vs other Gone tt (λ j y apart e. now j y e apart);
    }

-- a state of the queue in which a pass knows this
found : (v : Tally) (items : List (Unit {0})) (views : List Tally) (port : ℕ) → IsTally items views
    → get_elem? views port ≡ some v → WasFound (length items) v
found v items views port h at =
    record { items = items; length_is = refl; views = views; rule = h; port = port; there = at }

pub finds : (port : ℕ) (v : Tally) → Learns IsTally port v (λ items. WasFound (length items) v)
finds port v items views h at = found v items views port h at

at_length : (v : Tally) (n : ℕ) → Held n (λ (items : List (Unit {0})). WasFound (length items) v) → WasFound n v
at_length v n held = subst (λ m. WasFound m v) held.1 held.2

-- the queue holds no more than were given
held_given : (port : ℕ) (v : Tally) → IsDesk v → Learns IsTally port v (λ items. length items ≤ given_in v)
held_given port (Both g t) mine items views h at = let k = h.each port (Both g t) at in omega (arith, k.2, h.sum)
held_given port (Desk g) mine items views h at = let k = h.each port (Desk g) at in omega (arith, k.1, h.sum)
held_given port (Post t) mine items views h at = absurd mine
held_given port Gone mine items views h at = absurd mine

pub learns : (port : ℕ) (v : Tally) → IsDesk v
    → Learns IsTally port v (λ items. WasFound (length items) v × (length items ≤ given_in v))
learns port v mine items views h at = (found v items views port h at, held_given port v mine items views h at)

pub compares : (port : ℕ) (v : Tally) → IsDesk v → Learns IsTally port v (λ items. IsCovered v)
compares port (Both g t) mine items views h at = let k = h.each port (Both g t) at in omega (arith, k.2, k.3, h.sum)
compares port (Desk g) mine items views h at = omega arith
compares port (Post t) mine items views h at = absurd mine
compares port Gone mine items views h at = absurd mine

-- what a give and a take tell
pub give_told : {A B : Type 0} (v w : Tally) (x : B) (room : ℕ) (r : Result A B)
    → MatchResult r (λ _. w ≡ having_given v)
    (λ y. (y ≡ x) × (w ≡ v)
    × Held room (λ (items : List (Unit {0})). WasFound (length items) v × (length items ≤ given_in v)))
    → MatchResult r (λ _. w ≡ having_given v) (λ _. (w ≡ v) × WasFound room v × (room ≤ given_in v))
give_told v w x room (Ok u) h = h
give_told v w x room (Err y) h =
    (h.1, at_length v room (h.2.0, h.2.1, h.2.2.0), subst (λ n. n ≤ given_in v) h.2.1 h.2.2.1)

pub take_told : {A : Type 0} (v w : Tally) (r : Option A)
    → MatchOption r ((w ≡ v) × Held 0 (λ (items : List (Unit {0})). WasFound (length items) v))
    (λ _. w ≡ having_taken v)
    → MatchOption r ((w ≡ v) × WasFound 0 v) (λ _. w ≡ having_taken v)
take_told v w (Some x) h = h
take_told v w None h = (h.0, at_length v 0 h.1)

-- who a pass is after each call
still_gives : (v : Tally) → IsDesk v → IsDesk (having_given v)
still_gives (Desk g) is = tt
still_gives (Both g t) is = tt
still_gives (Post t) is = absurd is
still_gives Gone is = absurd is

still_takes : (v : Tally) → IsPost v → IsPost (having_taken v)
still_takes (Post t) is = tt
still_takes (Both g t) is = absurd is
still_takes (Desk g) is = absurd is
still_takes Gone is = absurd is

pub give_desk : {A B : Type 0} (v w : Tally) (x : B) (room : ℕ) (r : Result A B) → IsDesk v
    → MatchResult r (λ _. w ≡ having_given v)
    (λ y. (y ≡ x) × (w ≡ v)
    × Held room (λ (items : List (Unit {0})). WasFound (length items) v × (length items ≤ given_in v)))
    → IsDesk w
give_desk v w x room (Ok u) is h = subst IsDesk (sym h) (still_gives v is)
give_desk v w x room (Err y) is h = subst IsDesk (sym h.1) is

pub take_post : {A : Type 0} (v w : Tally) (X : Type 0) (r : Option A) → IsPost v
    → MatchOption r ((w ≡ v) × X) (λ _. w ≡ having_taken v) → IsPost w
take_post v w X (Some x) is h = subst IsPost (sym h) (still_takes v is)
take_post v w X None is h = subst IsPost (sym h.0) is
