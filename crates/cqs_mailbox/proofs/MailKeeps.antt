-- Each move of the letters' queue keeps its rule.
use Rattle.std.proofs.Common.{◌≡◌, ◌≢◌, ◌==◌, ℕ, zero, suc, ◌+◌, ◌<◌, ◌≤◌, List, [], ◌∷◌, ◌++◌, length, set, Result, Ok, Err, Option, Some, None, MatchResult, MatchOption, OnOk, sym, refl, ap, ◌∙◌, subst, ⊎_elim, append_assoc, append-nil, length-append, arith, eq-eqb, ne_eqb, if◌then◌else◌}
use Rattle.std.proofs.lemmas.List.Elements.{filter-append}
use Rattle.std.proofs.lemmas.Bool.{cases_eq, cases_lt}
use Rattle.std.proofs.lemmas.List.{length_push}
use mathlib.Core.Option.{some, some-ne-none}
use lib.ListN.{get_elem?}
use Rattle.crossbeam_queue.specs.Fifo.{Pushes, Pops, Forks, Merges, Learns, Held}
use Rattle.crossbeam_queue.proofs.Lists.{at_set}
use Rattle.cqs_core.specs.Parts.{IsPrefix}
use Rattle.cqs_mailbox.specs.declared.known.Known.{Known}
use Rattle.cqs_mailbox.specs.declared.known.Known.TheVariants as known
use Rattle.cqs_mailbox.specs.declared.known.Finished.{Finished}
use Rattle.cqs_mailbox.specs.declared.letter.Letter.{Letter}
use Rattle.cqs_mailbox.specs.Mail.{of_sender, AreNumbered, AllMet, Knows, IsMail, WasFound, IsPost, IsDesk, hiring, hired, having_met, having_sent, having_received, MetSentAll, IsAllReceived, IsInOrder, WereMade, HasReceived, WasEmpty, sent_in, received_in, met_in, made_in}

-- the letters of a sender, with one letter more
pub of_same : (s : ℕ) (xs : List Letter) (x : Letter) → x.sender ≡ s
    → of_sender s (xs ++ x ∷ []) ≡ of_sender s xs ++ x ∷ []
of_same s xs x mine =
    let one : of_sender s (x ∷ []) ≡ x ∷ [] = rw (eq-eqb x.sender s mine) refl in
    filter-append (λ (l : Letter). l.sender == s) xs (x ∷ []) ∙ ap (λ ys. of_sender s xs ++ ys) one

pub of_other : (s : ℕ) (xs : List Letter) (x : Letter) → x.sender ≢ s → of_sender s (xs ++ x ∷ []) ≡ of_sender s xs
of_other s xs x other =
    let none : of_sender s (x ∷ []) ≡ [] = rw (ne_eqb x.sender s other) refl in
    filter-append (λ (l : Letter). l.sender == s) xs (x ∷ []) ∙ ap (λ ys. of_sender s xs ++ ys) none
    ∙ append-nil (of_sender s xs)

-- the letters of the sender of one in the middle
of_here : (xs ys : List Letter) (x : Letter)
    → of_sender x.sender (xs ++ x ∷ ys) ≡ of_sender x.sender xs ++ x ∷ of_sender x.sender ys
of_here xs ys x =
    let one : of_sender x.sender (x ∷ ys) ≡ x ∷ of_sender x.sender ys = rw (eq-eqb x.sender x.sender refl) refl in
    filter-append (λ (l : Letter). l.sender == x.sender) xs (x ∷ ys) ∙ ap (λ zs. of_sender x.sender xs ++ zs) one

-- it isn't among none
never_none : (xs ys : List Letter) (x : Letter) → xs ++ x ∷ ys ≡ [] → ⊥
never_none xs ys x e =
    let n = ap (λ (l : List Letter). length l) e in
    let m = length-append xs (x ∷ ys) in
    omega (arith, n, m)

-- the next number, and the number of one in the middle
numbers_push : (n : ℕ) (l : List Letter) (x : Letter) → AreNumbered n l → x.number ≡ n + length l
    → AreNumbered n (l ++ x ∷ [])
numbers_push n [] x all is = (omega (arith, is), tt)
numbers_push n (y ∷ ys) x all is = (all.0, numbers_push (n + 1) ys x all.1 (omega (arith, is)))

number_at : (n : ℕ) (l r : List Letter) (x : Letter) → AreNumbered n (l ++ x ∷ r) → x.number ≡ n + length l
number_at n [] r x all = let is = all.0 in omega (arith, is)
number_at n (y ∷ ys) r x all = let is = number_at (n + 1) ys r x all.1 in omega (arith, is)

met_map : (P Q : Finished → Type 0) (fs : List Finished) → ((f : Finished) → P f → Q f) → AllMet P fs → AllMet Q fs
met_map P Q [] follows all = tt
met_map P Q (f ∷ fs) follows all = (follows f all.0, met_map P Q fs follows all.1)

met_zip : (P Q R : Finished → Type 0) (fs : List Finished) → ((f : Finished) → P f → Q f → R f)
    → AllMet P fs → AllMet Q fs → AllMet R fs
met_zip P Q R [] follows all more = tt
met_zip P Q R (f ∷ fs) follows all more = (follows f all.0 more.0, met_zip P Q R fs follows all.1 more.1)

met_push : (P : Finished → Type 0) (fs : List Finished) (f : Finished) → AllMet P fs → P f → AllMet P (fs ++ f ∷ [])
met_push P [] f all new = (new, tt)
met_push P (g ∷ fs) f all new = (all.0, met_push P fs f all.1 new)

abbrev All : (ℕ → Known → Type 0) → List Known → Type 0
All F views = (port : ℕ) (v : Known) → get_elem? views port ≡ some v → F port v

all_set : (F : ℕ → Known → Type 0) (views : List Known) (port : ℕ) (w : Known) → F port w
    → ((j : ℕ) (u : Known) → j ≢ port → get_elem? views j ≡ some u → F j u) → All F (set views port w)
all_set F views port w mine others j u e =
    ⊎_elim (λ (x : (j ≡ port) × (w ≡ u)). subst (λ (y : ℕ × Known). F y.0 y.1) (λ i. (sym x.0 i, x.1 i)) mine)
    (λ (x : (j ≢ port) × (get_elem? views j ≡ some u)). others j u x.0 x.1) (at_set views port j w u e)

at_end : (l : List Known) (a b : Known) (j : ℕ) → get_elem? l j ≢ some b → get_elem? (l ++ a ∷ []) j ≡ some b
    → j ≡ length l
at_end [] a b zero n e = refl
at_end [] a b (suc j) n e = absurd (some-ne-none b (sym e))
at_end (x ∷ xs) a b zero n e = absurd (n e)
at_end (x ∷ xs) a b (suc j) n e = ap suc (at_end xs a b j n e)

-- what the posts had sent that the desk met, where it received the first of all letters
in_order : (all got items : List Letter) (met : List Finished) → all ≡ got ++ items
    → ((s : ℕ) → AreNumbered 0 (of_sender s all)) → AllMet (λ f. f.sent ≡ of_sender f.sender all) met
    → AllMet (λ g. IsPrefix (of_sender g.sender got) g.sent × AreNumbered 0 g.sent) met
in_order all got items met order numbers ended =
    met_map (λ f. f.sent ≡ of_sender f.sender all)
    (λ g. IsPrefix (of_sender g.sender got) g.sent × AreNumbered 0 g.sent) met
    (λ g is. (
      (
        of_sender g.sender items,
        is ∙ ap (of_sender g.sender) order ∙ filter-append (λ (l : Letter). l.sender == g.sender) got items,
      ),
      subst (AreNumbered 0) (sym is) (numbers g.sender),
    ))
    ended

-- a state of the queue in which a pass knows this
found : (v : Known) (items : List Letter) (views : List Known) (port : ℕ) → IsMail items views
    → get_elem? views port ≡ some v → WasFound (length items) v
found v items views port h at =
    record { items = items; length_is = refl; views = views; rule = h; port = port; there = at }

pub finds : (port : ℕ) (v : Known) → Learns IsMail port v (λ items. WasFound (length items) v)
finds port v items views h at = found v items views port h at

at_length : (v : Known) (n : ℕ) → Held n (λ (items : List Letter). WasFound (length items) v) → WasFound n v
at_length v n held = subst (λ m. WasFound m v) held.1 held.2

-- as a queue is made
pub begins : IsMail [] (known.Desk 0 [] [] ∷ [])
begins = record {
  desk = 0;
  owner = λ s. 0;
  made = 0;
  all = [];
  got = [];
  met = [];
  order = refl;
  numbers = λ s. tt;
  unsent = λ s few. refl;
  few = tt;
  ended = tt;
  each = all_set (Knows 0 (λ s. 0) 0 [] [] []) (known.Desk 0 [] [] ∷ []) 0 (known.Desk 0 [] []) (refl, refl, refl, refl)
      (λ j u other e. absurd (other (at_end [] _ u j (λ x. some-ne-none u (sym x)) e)));
}

-- what a pass knows, after another pass put a letter
sent_by_other : (desk : ℕ) (owner : ℕ → ℕ) (made : ℕ) (all got : List Letter) (met : List Finished) (port j : ℕ)
    (x : Letter) (u : Known)
    → port ≡ owner x.sender → j ≢ port → Knows desk owner made all got met j u
    → Knows desk owner made (all ++ x ∷ []) got met j u
sent_by_other desk owner made all got met port j x (known.Desk m r f) mine other knows = knows
sent_by_other desk owner made all got met port j x (known.Post s sent) mine other knows =
    let strange : x.sender ≢ s = λ (same : x.sender ≡ s). other (knows.1 ∙ sym (ap owner same) ∙ sym mine) in
    (knows.0, knows.1, knows.2 ∙ sym (of_other s all x strange), knows.3)
sent_by_other desk owner made all got met port j x known.Gone mine other knows = tt

-- the letters of any sender are numbered, with one letter more
numbered_then : (t : ℕ) (all : List Letter) (x : Letter) → AreNumbered 0 (of_sender t all)
    → (x.sender ≡ t → x.number ≡ length (of_sender t all)) → AreNumbered 0 (of_sender t (all ++ x ∷ []))
numbered_then t all x numbers next = ⊎_elim
    (λ (same : x.sender ≡ t).
    subst (AreNumbered 0) (sym (of_same t all x same))
    (numbers_push 0 (of_sender t all) x numbers (let is = next same in omega (arith, is))))
    (λ (other : x.sender ≢ t). subst (AreNumbered 0) (sym (of_other t all x other)) numbers)
    (cases_eq x.sender t)

pub sends : (n port : ℕ) (v : Known) (x : Letter) → IsPost x.sender v → x.number ≡ length (sent_in v)
    → Pushes IsMail n port v x (λ w. w ≡ having_sent v x)
sends n port (known.Desk m r f) x mine next items views room h at = absurd mine
sends n port known.Gone x mine next items views room h at = absurd mine
sends n port (known.Post s sent) x mine next items views room h at =
    let knows = h.each port (known.Post s sent) at in
    let all : List Letter = h.all ++ x ∷ [] in
    let w : Known = known.Post s (sent ++ x ∷ []) in
    let grown : sent ++ x ∷ [] ≡ of_sender s all = ap (λ l. l ++ x ∷ []) knows.2 ∙ sym (of_same s h.all x (sym mine)) in
    let known_now : Knows h.desk h.owner h.made all h.got h.met port w = (knows.0, knows.1, grown, knows.3) in
    let owned : port ≡ h.owner x.sender = knows.1 ∙ ap h.owner mine in
    let count : (t : ℕ) → x.sender ≡ t → x.number ≡ length (of_sender t h.all) = λ t same.
    next ∙ ap (λ (l : List Letter). length l) knows.2 ∙ ap (λ u. length (of_sender u h.all)) (mine ∙ same) in (
      w,
      record {
        desk = h.desk;
        owner = h.owner;
        made = h.made;
        all = all;
        got = h.got;
        met = h.met;
        order = ap (λ l. l ++ x ∷ []) h.order ∙ append_assoc h.got items (x ∷ []);
        numbers = λ t. numbered_then t h.all x (h.numbers t) (λ same. count t same);
        unsent = λ t few.
            let strange : x.sender ≢ t = λ same. omega (arith, knows.0, few, same, mine) in
            of_other t h.all x strange ∙ h.unsent t few;
        few = h.few;
        ended = met_zip (λ f. f.sent ≡ of_sender f.sender h.all) (λ f. f.sender ≢ s)
            (λ f. f.sent ≡ of_sender f.sender all) h.met
            (λ f is other.
            let strange : x.sender ≢ f.sender = λ same. other (sym same ∙ sym mine) in
            is ∙ sym (of_other f.sender h.all x strange))
            h.ended knows.3;
        each = all_set (Knows h.desk h.owner h.made all h.got h.met) views port w known_now
            (λ j u other e.
            sent_by_other h.desk h.owner h.made h.all h.got h.met port j x u owned other (h.each j u e));
      },
      refl,
    )

-- what a pass that isn't the desk knows, after the desk received, or met a post
by_desk : (desk : ℕ) (owner : ℕ → ℕ) (made : ℕ) (all got got' : List Letter) (met met' : List Finished) (j : ℕ)
    (u : Known)
    → j ≢ desk → ((s : ℕ) → j ≡ owner s → AllMet (λ f. f.sender ≢ s) met → AllMet (λ f. f.sender ≢ s) met')
    → Knows desk owner made all got met j u → Knows desk owner made all got' met' j u
by_desk desk owner made all got got' met met' j (known.Desk m r f) other later knows = absurd (other knows.0)
by_desk desk owner made all got got' met met' j (known.Post s sent) other later knows =
    (knows.0, knows.1, knows.2, later s knows.1 knows.3)
by_desk desk owner made all got got' met met' j known.Gone other later knows = tt

pub receives : (port : ℕ) (v : Known) → IsDesk v → Pops IsMail port v (λ x w. HasReceived v x w)
receives port (known.Post s sent) mine x items views h at = absurd mine
receives port known.Gone mine x items views h at = absurd mine
receives port (known.Desk m r f) mine x items views h at =
    let knows = h.each port (known.Desk m r f) at in
    let w : Known = known.Desk m (r ++ x ∷ []) f in
    let got : List Letter = h.got ++ x ∷ [] in
    let order : h.all ≡ got ++ items = h.order ∙ sym (append_assoc h.got (x ∷ []) items) in
    let mail : of_sender x.sender h.all ≡ of_sender x.sender h.got ++ x ∷ of_sender x.sender items =
    ap (of_sender x.sender) h.order ∙ of_here h.got items x in
    let number = number_at 0 (of_sender x.sender h.got) (of_sender x.sender items) x
    (subst (AreNumbered 0) mail (h.numbers x.sender)) in
    let count = ap (λ (l : List Letter). length (of_sender x.sender l)) knows.2 in (
      w,
      record {
        desk = h.desk;
        owner = h.owner;
        made = h.made;
        all = h.all;
        got = got;
        met = h.met;
        order = order;
        numbers = h.numbers;
        unsent = h.unsent;
        few = h.few;
        ended = h.ended;
        each = all_set (Knows h.desk h.owner h.made h.all got h.met) views port w
            (knows.0, knows.1, ap (λ l. l ++ x ∷ []) knows.2, knows.3)
            (λ j u other e.
            by_desk h.desk h.owner h.made h.all h.got got h.met h.met j u (λ is. other (is ∙ sym knows.0))
            (λ s own all. all) (h.each j u e));
      },
      record {
        knows = refl;
        sender = ⊎_elim (λ (low : x.sender < h.made). omega (arith, low, knows.1))
            (λ (high : h.made ≤ x.sender). absurd (never_none (of_sender x.sender h.got) (of_sender x.sender items) x
            (sym mail ∙ h.unsent x.sender high)))
            (cases_lt x.sender h.made);
        next = omega (arith, number, count);
        in_order = rw (knows.2, knows.3) (in_order h.all got items h.met order h.numbers h.ended);
      },
    )

met_sent : (port : ℕ) (v : Known) → IsDesk v → Learns IsMail port v (MetSentAll v)
met_sent port (known.Post s sent) mine items views h at = absurd mine
met_sent port known.Gone mine items views h at = absurd mine
met_sent port (known.Desk m r f) mine items views h at =
    let knows = h.each port (known.Desk m r f) at in
    rw knows.3 (met_map (λ g. g.sent ≡ of_sender g.sender h.all)
    (λ g. g.sent ≡ of_sender g.sender r ++ of_sender g.sender items) h.met
    (λ g is. is ∙ ap (of_sender g.sender) h.order ∙ filter-append (λ (l : Letter). l.sender == g.sender) h.got items
    ∙ ap (λ l. of_sender g.sender l ++ of_sender g.sender items) (sym knows.2))
    h.ended)

-- what the desk learns where the queue is empty, and at any moment
pub learns : (port : ℕ) (v : Known) → IsDesk v
    → Learns IsMail port v (λ items. WasFound (length items) v × MetSentAll v items)
learns port v mine items views h at = (found v items views port h at, met_sent port v mine items views h at)

pub compares : (port : ℕ) (v : Known) → IsDesk v → Learns IsMail port v (λ items. IsInOrder v × WereMade v)
compares port (known.Post s sent) mine items views h at = absurd mine
compares port known.Gone mine items views h at = absurd mine
compares port (known.Desk m r f) mine items views h at =
    let knows = h.each port (known.Desk m r f) at in
    rw (knows.1, knows.2, knows.3) (in_order h.all h.got items h.met h.order h.numbers h.ended, h.few)

-- at an empty queue all of them is received
all_received : (v : Known) (items : List Letter) → length items ≡ 0 → MetSentAll v items → IsAllReceived v
all_received v [] len all = met_map
    (λ g. g.sent ≡ of_sender g.sender (received_in v) ++ []) (λ g. of_sender g.sender (received_in v) ≡ g.sent)
    (met_in v) (λ g is. sym (is ∙ append-nil (of_sender g.sender (received_in v)))) all
all_received v (x ∷ xs) len all = absurd (omega (arith, len))

-- what a put and a take tell
pub put_told : {A : Type 0} (v w : Known) (x : Letter) (room : ℕ) (r : Result A Letter)
    → MatchResult r (λ _. w ≡ having_sent v x)
    (λ y. (y ≡ x) × (w ≡ v) × Held room (λ (items : List Letter). WasFound (length items) v))
    → MatchResult r (λ _. w ≡ having_sent v x) (λ y. (y ≡ x) × (w ≡ v) × WasFound room v)
put_told v w x room (Ok u) h = h
put_told v w x room (Err y) h = (h.0, h.1, at_length v room h.2)

pub take_told : (v w : Known) (r : Option Letter)
    → MatchOption r ((w ≡ v) × Held 0 (λ (items : List Letter). WasFound (length items) v × MetSentAll v items))
    (λ x. HasReceived v x w)
    → MatchOption r ((w ≡ v) × WasEmpty v) (λ x. HasReceived v x w)
take_told v w (Some x) h = h
take_told v w None h = (
  h.0,
  record {
    found = at_length v 0 (h.1.0, h.1.1, h.1.2.0);
    all = all_received v h.1.0 h.1.1 h.1.2.1;
  },
)

-- the pass of each post, with one post more
abbrev with_owner : (ℕ → ℕ) → ℕ → ℕ → ℕ → ℕ
with_owner owner made port s = if s == made then port else owner s

owner_of : (owner : ℕ → ℕ) (made port s : ℕ) → s ≢ made → with_owner owner made port s ≡ owner s
owner_of owner made port s other = rw (ne_eqb s made other) refl

owner_new : (owner : ℕ → ℕ) (made port s : ℕ) → s ≡ made → with_owner owner made port s ≡ port
owner_new owner made port s same = rw (eq-eqb s made same) refl

kept : (desk : ℕ) (owner : ℕ → ℕ) (made : ℕ) (all got : List Letter) (met : List Finished) (j fresh : ℕ) (u : Known)
    → j ≢ desk → Knows desk owner made all got met j u
    → Knows desk (with_owner owner made fresh) (made + 1) all got met j u
kept desk owner made all got met j fresh (known.Desk m r f) other knows = absurd (other knows.0)
kept desk owner made all got met j fresh (known.Post s sent) other knows =
    let old : s ≢ made = λ e. omega (arith, knows.0, e) in
    (omega (arith, knows.0), knows.1 ∙ sym (owner_of owner made fresh s old), knows.2, knows.3)
kept desk owner made all got met j fresh known.Gone other knows = tt

some_same : (a b : Known) → some a ≡ some b → a ≡ b
some_same a b e = cc e

at_placed : (vs : List Known) (right u : Known) (j : ℕ) (Now : ℕ → Known → Type 0) → Now (length vs) right
    → (get_elem? vs j ≡ some u → Now j u) → get_elem? (vs ++ right ∷ []) j ≡ some u → Now j u
at_placed [] right u zero Now new old e = subst (λ y. Now 0 y) (some_same right u e) new
at_placed [] right u (suc j) Now new old e = absurd (some-ne-none u (sym e))
at_placed (x ∷ xs) right u zero Now new old e = old e
at_placed (x ∷ xs) right u (suc j) Now new old e = at_placed xs right u j (λ n. Now (suc n)) new old e

pub hires : (port : ℕ) (v : Known) → IsDesk v → Forks IsMail port v (hiring v) (hired v)
hires port (known.Post s sent) mine items views h at = absurd mine
hires port known.Gone mine items views h at = absurd mine
hires port (known.Desk m r f) mine items views h at =
    let knows = h.each port (known.Desk m r f) at in
    let left : Known = known.Desk (m + 1) r f in
    let right : Known = known.Post m [] in
    let vs : List Known = set views port left in
    let owner : ℕ → ℕ = with_owner h.owner h.made (length vs) in
    let Now : ℕ → Known → Type 0 = Knows h.desk owner (h.made + 1) h.all h.got h.met in
    let none : of_sender m h.all ≡ [] = h.unsent m (omega (arith, knows.1)) in
    let new : Now (length vs) right = (
      omega (arith, knows.1),
      sym (owner_new h.owner h.made (length vs) m knows.1),
      sym none,
      met_map (λ f. f.sender < h.made) (λ f. f.sender ≢ m) h.met
          (λ f low e. omega (arith, low, e, knows.1)) h.few,
    ) in
    let old : All Now vs = all_set Now views port left (knows.0, ap (λ n. n + 1) knows.1, knows.2, knows.3)
    (λ j u other e. kept h.desk h.owner h.made h.all h.got h.met j (length vs) u
    (λ is. other (is ∙ sym knows.0)) (h.each j u e)) in
    record {
      desk = h.desk;
      owner = owner;
      made = h.made + 1;
      all = h.all;
      got = h.got;
      met = h.met;
      order = h.order;
      numbers = h.numbers;
      unsent = λ s few. h.unsent s (omega (arith, few));
      few = met_map (λ f. f.sender < h.made) (λ f. f.sender < h.made + 1) h.met (λ f low. omega (arith, low)) h.few;
      ended = h.ended;
      each = λ j u e. at_placed vs right u j Now new (old j u) e;
    }

pub meets : (port : ℕ) (v : Known) (other : ℕ) (u : Known) (s : ℕ) → IsDesk v → IsPost s u
    → Merges IsMail port v other u (having_met v u) known.Gone
meets port (known.Post t sent) other u s mine theirs items views h at two at' = absurd mine
meets port known.Gone other u s mine theirs items views h at two at' = absurd mine
meets port (known.Desk m r f) other (known.Desk n q g) s mine theirs items views h at two at' = absurd theirs
meets port (known.Desk m r f) other known.Gone s mine theirs items views h at two at' = absurd theirs
meets port (known.Desk m r f) other (known.Post t sent) s mine theirs items views h at two at' =
    let knows = h.each port (known.Desk m r f) at in
    let u : Known = known.Post t sent in
    let end : Finished = record { sender = t; sent = sent } in
    let met : List Finished = h.met ++ end ∷ [] in
    let both : Known = known.Desk m r (f ++ end ∷ []) in
    let vs : List Known = set views port both in
    let was : get_elem? views other ≡ some u =
    ⊎_elim (λ x. absurd (two x.0)) (λ x. x.1) (at_set views port other both u at') in
    let their = h.each other u was in
    let Old : ℕ → Known → Type 0 = Knows h.desk h.owner h.made h.all h.got h.met in
    let Now : ℕ → Known → Type 0 = Knows h.desk h.owner h.made h.all h.got met in
    let Then : ℕ → Known → Type 0 = λ j y. j ≢ other → Now j y in
    let now : All Then vs = all_set Then views port both
    (λ apart. (knows.0, knows.1, knows.2, ap (λ l. l ++ end ∷ []) knows.3))
    (λ j y far e apart. by_desk h.desk h.owner h.made h.all h.got h.got h.met met j y (λ is. far (is ∙ sym knows.0))
    (λ k own all. met_push (λ g. g.sender ≢ k) h.met end all
    (λ same. apart (own ∙ sym (ap h.owner same) ∙ sym their.1)))
    (h.each j y e)) in
    record {
      desk = h.desk;
      owner = h.owner;
      made = h.made;
      all = h.all;
      got = h.got;
      met = met;
      order = h.order;
      numbers = h.numbers;
      unsent = h.unsent;
      few = met_push (λ g. g.sender < h.made) h.met end h.few their.0;
      ended = met_push (λ g. g.sent ≡ of_sender g.sender h.all) h.met end h.ended their.2;
      each = all_set Now vs other known.Gone tt (λ j y apart e. now j y e apart);
    }

pub desk_met : (v u : Known) (s : ℕ) → IsDesk v → IsPost s u → IsDesk (having_met v u)
desk_met (known.Desk m r f) (known.Post t sent) s mine theirs = tt
desk_met (known.Desk m r f) (known.Desk n q g) s mine theirs = absurd theirs
desk_met (known.Desk m r f) known.Gone s mine theirs = absurd theirs
desk_met (known.Post t sent) u s mine theirs = absurd mine
desk_met known.Gone u s mine theirs = absurd mine

-- a post that the desk has met was made
met_last : (P : Finished → Type 0) (fs : List Finished) (f : Finished) → AllMet P (fs ++ f ∷ []) → P f
met_last P [] f all = all.0
met_last P (g ∷ fs) f all = met_last P fs f all.1

pub low_met : (v u : Known) (s : ℕ) → IsDesk v → IsPost s u → WereMade (having_met v u) → s < made_in v
low_met (known.Desk m r f) (known.Post t sent) s mine theirs all =
    let low = met_last (λ g. g.sender < m) f (record { sender = t; sent = sent }) all in omega (arith, low, theirs)
low_met (known.Desk m r f) (known.Desk n q g) s mine theirs all = absurd theirs
low_met (known.Desk m r f) known.Gone s mine theirs all = absurd theirs
low_met (known.Post t sent) u s mine theirs all = absurd mine
low_met known.Gone u s mine theirs all = absurd mine

-- who a pass is, and how many it sent or made, after each call
pub hired_desk : (v : Known) → IsDesk v → IsDesk (hiring v)
hired_desk (known.Desk m r f) is = tt
hired_desk (known.Post s sent) is = absurd is
hired_desk known.Gone is = absurd is

pub hired_post : (v : Known) → IsDesk v → IsPost (made_in v) (hired v)
hired_post (known.Desk m r f) is = refl
hired_post (known.Post s sent) is = absurd is
hired_post known.Gone is = absurd is

pub hired_more : (v : Known) → IsDesk v → made_in (hiring v) ≡ made_in v + 1
hired_more (known.Desk m r f) is = refl
hired_more (known.Post s sent) is = absurd is
hired_more known.Gone is = absurd is

still_post : (s : ℕ) (v : Known) (x : Letter) → IsPost s v → IsPost s (having_sent v x)
still_post s (known.Post t sent) x is = is
still_post s (known.Desk m r f) x is = absurd is
still_post s known.Gone x is = absurd is

sent_more : (s : ℕ) (v : Known) (x : Letter) → IsPost s v → length (sent_in (having_sent v x)) ≡ length (sent_in v) + 1
sent_more s (known.Post t sent) x is = length_push sent x
sent_more s (known.Desk m r f) x is = absurd is
sent_more s known.Gone x is = absurd is

still_desk : (v : Known) (x : Letter) → IsDesk v → IsDesk (having_received v x)
still_desk (known.Desk m r f) x is = tt
still_desk (known.Post s sent) x is = absurd is
still_desk known.Gone x is = absurd is

pub put_post : {A : Type 0} (v w : Known) (x : Letter) (s : ℕ) (X : Type 0) (r : Result A Letter) → IsPost s v
    → MatchResult r (λ _. w ≡ having_sent v x) (λ y. (y ≡ x) × (w ≡ v) × X) → IsPost s w
put_post v w x s X (Ok u) is h = subst (IsPost s) (sym h) (still_post s v x is)
put_post v w x s X (Err y) is h = subst (IsPost s) (sym h.1) is

pub put_count : {A : Type 0} (v w : Known) (x : Letter) (s : ℕ) (X : Type 0) (r : Result A Letter) → IsPost s v
    → MatchResult r (λ _. w ≡ having_sent v x) (λ y. (y ≡ x) × (w ≡ v) × X)
    → OnOk r (length (sent_in w) ≡ length (sent_in v) + 1)
put_count v w x s X (Ok u) is h = ap (λ k. length (sent_in k)) h ∙ sent_more s v x is
put_count v w x s X (Err y) is h = tt

pub take_desk : (v w : Known) (X : Type 0) (r : Option Letter) → IsDesk v
    → MatchOption r ((w ≡ v) × X) (λ x. HasReceived v x w) → IsDesk w
take_desk v w X (Some x) is h = subst IsDesk (sym h.knows) (still_desk v x is)
take_desk v w X None is h = subst IsDesk (sym h.0) is
