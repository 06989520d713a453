-- A post and what it has in hand: in the line for room, as it sends, and as it reclaims.
use Rattle.std.proofs.Common.{◌≡◌, ◌≢◌, ◌↔◌, ℕ, zero, suc, ◌==◌, ◌<◌, true, false, List, [], ◌∷◌, ◌++◌, map, length, Option, Some, None, Result, Ok, Err, IfOk, IfErr, IsErrOf, OnErr, IfSome, IsSome, MatchOption, option_to_list, get_or, refl, sym, ap, ◌∙◌, subst, inl, inr, ⊎_elim, ne_eqb, arith}
use Rattle.std.proofs.lemmas.List.{map-append, length-map}
use Rattle.std.proofs.lemmas.Option.{same_Some, slice_get-get_or}
use Rattle.std.specs.VecDeque.{deque_len, deque_capacity}
use Rattle.crossbeam_queue.specs.declared.array_queue.Doing.{Doing}
use Rattle.crossbeam_queue.specs.declared.array_queue.Slotted.{Slotted}
use Rattle.crossbeam_queue.specs.Passes.{Pass, view, IsPassOf}
use Rattle.cqs_core.proofs.Places.{get-below}
use Rattle.cqs_pool_object.specs.declared.entries.PoolEntry.{PoolEntry}
use Rattle.cqs_rule_laws.specs.declared.config.AcquireError.{AcquireError}
use Rattle.cqs_rule_laws.specs.declared.config.AcquireError.TheVariants as refused
use Rattle.cqs_rule_laws.specs.declared.config.AcquireError.TheVariants.{Worn}
use Rattle.cqs_rule_laws.specs.declared.config.Crowded.{Crowded}
use Rattle.cqs_rule_laws.specs.declared.view.Facts.{Facts}
use Rattle.cqs_rule_laws.specs.declared.view.View.{View}
use Rattle.cqs_rule_laws.specs.Called.{Called}
use Rattle.cqs_rule_laws.specs.Lists.{Has, without}
use Rattle.cqs_rule_laws.proofs.Lists.{has_append, distinct_append, few_below, without_has}
use Rattle.cqs_rule.proofs.Places.{has-wait-called}
use Rattle.cqs_rule.specs.Claims.{WasCrowded}
use Rattle.cqs_rule.specs.declared.queue.tokens.Wait.{Wait}
use Rattle.cqs_pool.specs.declared.answers.Placed.{Placed}
use Rattle.cqs_pool.specs.declared.answers.Placed.TheVariants.{Sent, Left, Under}
use Rattle.cqs_pool.specs.declared.answers.PoolLeft.{PoolLeft}
use Rattle.cqs_pool.specs.declared.answers.PoolLeft.TheVariants.{Cancelled, TooLate}
use Rattle.cqs_pool.specs.declared.answers.PoolPolled.{PoolPolled}
use Rattle.cqs_pool.specs.declared.answers.PoolPolled.TheVariants.{Granted, Pending}
use Rattle.cqs_pool.specs.declared.answers.Taking.{Taking}
use Rattle.cqs_pool.specs.declared.answers.Taking.TheVariants.{Took, Later}
use Rattle.cqs_pool.specs.declared.element.Element.{Element}
use Rattle.cqs_pool.specs.Alone.{CancelsNew, PollsNew, TakesNew}
use Rattle.cqs_pool.specs.Answers.{Ends, IsCrowded, IsInHand, IsPolled, IsWorn, LeavesPass, Takes}
use Rattle.cqs_pool.specs.Calls.{IsMine}
use Rattle.cqs_pool.specs.Elements.{number_of}
use Rattle.cqs_pool.specs.Pool.{pool_object}
use Rattle.cqs_mailbox.specs.declared.answers.Room.{Room}
use Rattle.cqs_mailbox.specs.declared.answers.Room.TheVariants as room
use Rattle.cqs_mailbox.specs.declared.mailbox.Mailbox.{Mailbox}
use Rattle.cqs_mailbox.specs.declared.mailbox.Post.{Post}
use Rattle.cqs_mailbox.specs.Calls.{CancelSpares, HasNone, HasReclaimed, IsInLine, KeepsWaits, PollSpares, RoomSpares, as_taking}
use Rattle.cqs_mailbox.specs.declared.tally.Tally.{Tally}
use Rattle.cqs_mailbox.specs.Mail.{IsPost, sent_in}
use Rattle.cqs_mailbox.specs.Mailboxes.{AreOut, IsPostOf, IsSpare, line_view, numbers_out, out_with, room_of, sent_by}
use Rattle.cqs_mailbox.specs.Senders.{IsOfSender}
use Rattle.cqs_mailbox.specs.Tallies as tallies
use Rattle.cqs_mailbox.specs.Tallies.{having_taken}

-- what a pass has in hand after the end of a put
pub ends-slots : (v w : View PoolEntry (Unit {0})) (e : ℕ) (elements waits : List ℕ) (a : Placed)
    → Ends v e elements waits a w → w.facts.has.slots ≡ elements
ends-slots v w e elements waits (Sent k) t = t.1.elements_are
ends-slots v w e elements waits (Left k) t = t.1.elements_are
ends-slots v w e elements waits (Under under) t = t.elements_are

ends-waits : (v w : View PoolEntry (Unit {0})) (e : ℕ) (elements waits : List ℕ) (a : Placed)
    → Ends v e elements waits a w → w.facts.waits ≡ waits
ends-waits v w e elements waits (Sent k) t = t.1.waits_are
ends-waits v w e elements waits (Left k) t = t.1.waits_are
ends-waits v w e elements waits (Under under) t = t.waits_are

-- and its waits stay its own, after one that was refused too
pub put-waits : (v w : View PoolEntry (Unit {0})) (e : ℕ) (elements : List ℕ) (es last : List PoolEntry)
    (r : Result Placed (Element × Crowded)) → IfOk r (λ a. Ends v e elements v.facts.waits a w)
    → OnErr r (WasCrowded 1 v.facts v w) → Called pool_object v es last w → KeepsWaits v w
put-waits v w e elements es last (Ok a) ends crowded called = λ wait has.
    has-wait-called pool_object v w es last wait called (ends-waits v w e elements v.facts.waits a ends) has
put-waits v w e elements es last (Err x) ends crowded called = λ wait has.
    has-wait-called pool_object v w es last wait called (ap (λ (f : Facts). f.waits) crowded.facts_are) has

-- What a pass had in hand before a call in the line it has after it.
abbrev KeepsHand : View PoolEntry (Unit {0}) → View PoolEntry (Unit {0}) → Type 0
KeepsHand v w = (e : ℕ) → IsInHand e v.facts → IsInHand e w.facts

same-hand : (v w : View PoolEntry (Unit {0})) → w.facts.has.slots ≡ v.facts.has.slots → KeepsHand v w
same-hand v w same e has = subst (Has e) (sym same) has

more-hand : (v w : View PoolEntry (Unit {0})) (x : ℕ) → w.facts.has.slots ≡ x ∷ v.facts.has.slots → KeepsHand v w
more-hand v w x same e has = subst (Has e) (sym same) (inr has)

takes-hand : (v w : View PoolEntry (Unit {0})) (a : Taking) → Takes v a w → KeepsHand v w
takes-hand v w (Took x) t = more-hand v w (number_of x) t.1.elements_are
takes-hand v w (Later wait) t = same-hand v w t.2.elements_are

pub took-hand : (v w : View PoolEntry (Unit {0})) (r : Result Taking AcquireError)
    → IfOk r (λ taking. Takes v taking w) → (IsErrOf r Worn → IsWorn v w)
    → (IsErrOf r refused.Crowded → IsCrowded v w) → KeepsHand v w
took-hand v w (Ok a) took worn crowded = takes-hand v w a took
took-hand v w (Err Worn) took worn crowded =
    same-hand v w (ap (λ (f : Facts). f.has.slots) (worn refl).facts_are)
took-hand v w (Err refused.Crowded) took worn crowded =
    same-hand v w (ap (λ (f : Facts). f.has.slots) (crowded refl).crowded.facts_are)

-- an error of the pool is the mailbox's
pub same-error : (e x : AcquireError) → IsErrOf {T = Room} (Err e) x → IsErrOf {T = Taking} (Err e) x
same-error Worn Worn is = refl
same-error refused.Crowded refused.Crowded is = refl
same-error Worn refused.Crowded is = absurd (cc)
same-error refused.Crowded Worn is = absurd (cc)

pub polled-hand : (v w : View PoolEntry (Unit {0})) (wait : Wait) (a : PoolPolled) → IsPolled wait v a w
    → KeepsHand v w
polled-hand v w wait (Granted x) t = more-hand v w (number_of x) t.2.elements_are
polled-hand v w wait (Pending again) t = same-hand v w t.3.elements_are

pub left-hand : (k : ℕ) (v w : View PoolEntry (Unit {0})) (a : PoolLeft) → LeavesPass k v a w → KeepsHand v w
left-hand k v w (Cancelled None) t = same-hand v w t.elements_are
left-hand k v w (Cancelled (Some under)) t = same-hand v w t.2
left-hand k v w (TooLate x) t = more-hand v w (number_of x) t.elements_are

pub ended-hand : (v w : View PoolEntry (Unit {0})) (e : ℕ) (waits : List ℕ) (a : Placed)
    → Ends v e v.facts.has.slots waits a w → KeepsHand v w
ended-hand v w e waits a t = same-hand v w (ends-slots v w e v.facts.has.slots waits a t)

-- but for the envelope that it put
pub put-hand : (v w : View PoolEntry (Unit {0})) (e : ℕ) (waits : List ℕ) (r : Result Placed (Element × Crowded))
    → IfOk r (λ a. Ends v e (without e v.facts.has.slots) waits a w) → OnErr r (WasCrowded 1 v.facts v w) → (n : ℕ)
    → n ≢ e → IsInHand n v.facts → IsInHand n w.facts
put-hand v w e waits r ends crowded n other has = go r ends crowded
  where
    go : (r : Result Placed (Element × Crowded))
        → IfOk r (λ a. Ends v e (without e v.facts.has.slots) waits a w) → OnErr r (WasCrowded 1 v.facts v w)
        → IsInHand n w.facts
    go (Ok a) ends crowded =
        subst (Has n) (sym (ends-slots v w e (without e v.facts.has.slots) waits a ends))
        (without_has n e v.facts.has.slots other has)
    go (Err x) ends crowded = subst (Has n) (sym (ap (λ (f : Facts). f.has.slots) crowded.facts_are)) has

-- A call in the line leaves the post as one of the mailbox.
pub line-kept : (m : Mailbox) (p q : Post) → IsPostOf m p → IsInLine p q → IsMine m.pool q.pool
    → ((e : ℕ) → Has e (numbers_out p) → IsInHand e (line_view p).facts → IsInHand e (line_view q).facts)
    → IsPostOf m q
line-kept m p q is same mine kept =
    subst (λ (x : Post). IsPostOf m x) (sym same) (record {
      mailbox = is.mailbox;
      pool = mine;
      letters = is.letters;
      post = is.post;
      next = is.next;
      replies = is.replies;
      out = record { once = is.out.once; in_hand = λ e has. kept e has (is.out.in_hand e has) };
      space = is.space;
    })

-- An envelope that comes is one to spare.
spare-new : (p q : Post) (e : ℕ) → AreOut (numbers_out p) (line_view p).facts → IsInLine p q
    → IsInHand e (line_view q).facts → (IsInHand e (line_view p).facts → ⊥) → IsSpare e q
spare-new p q e out same in_hand new = record {
  in_hand = in_hand;
  not_out = λ has. new (out.in_hand e (subst (λ (x : Post). Has e (numbers_out x)) same has));
}

pub room-spares : (p q : Post) (a : Room) → AreOut (numbers_out p) (line_view p).facts → IsInLine p q
    → Takes (line_view p) (as_taking a) (line_view q) → TakesNew (line_view p) (as_taking a) → RoomSpares a q
room-spares p q (room.Got x) out same took new =
    spare-new p q (number_of x) out same (subst (Has (number_of x)) (sym took.1.elements_are) (inl refl)) new
room-spares p q (room.Later wait) out same took new = tt

pub poll-spares : (p q : Post) (wait : Wait) (a : PoolPolled) → AreOut (numbers_out p) (line_view p).facts
    → IsInLine p q → IsPolled wait (line_view p) a (line_view q) → PollsNew (line_view p) a → PollSpares a q
poll-spares p q wait (Granted x) out same polled new =
    spare-new p q (number_of x) out same (subst (Has (number_of x)) (sym polled.2.elements_are) (inl refl)) new
poll-spares p q wait (Pending again) out same polled new = tt

pub cancel-spares : (p q : Post) (k : ℕ) (a : PoolLeft) → AreOut (numbers_out p) (line_view p).facts
    → IsInLine p q → LeavesPass k (line_view p) a (line_view q) → CancelsNew (line_view p) a → CancelSpares a q
cancel-spares p q k (Cancelled under) out same left new = tt
cancel-spares p q k (TooLate x) out same left new =
    spare-new p q (number_of x) out same (subst (Has (number_of x)) (sym left.elements_are) (inl refl)) new

-- An envelope that was refused as crowded is still one to spare.
pub crowded-spares : (p q : Post) (envelope : Element) (r : Result Placed (Element × Crowded)) → IsInLine p q
    → OnErr r (WasCrowded 1 (line_view p).facts (line_view p) (line_view q)) → IfErr r (λ x. x.0 ≡ envelope)
    → IsSpare (number_of envelope) p → IfErr r (λ x. IsSpare (number_of x.0) q)
crowded-spares p q envelope (Ok a) same crowded back is = tt
crowded-spares p q envelope (Err x) same crowded back is =
    subst (λ (y : Element). IsSpare (number_of y) q) (sym back) (record {
      in_hand = same-hand (line_view p) (line_view q) (ap (λ (f : Facts). f.has.slots) crowded.facts_are)
          (number_of envelope) is.in_hand;
      not_out = λ has. is.not_out (subst (λ (y : Post). Has (number_of envelope) (numbers_out y)) same has);
    })

-- There is room for the envelope of one letter more.
pub out-space : (m : Mailbox) (p : Post) (e : ℕ) → IsPostOf m p → IsSpare e p → deque_len p.sent < deque_capacity p.sent
out-space m p e is spare =
    let size : (line_view p).opening.size ≡ room_of m = ap (λ o. o.size) is.pool.opening in
    let low : (n : ℕ) → Has n (e ∷ numbers_out p) → n < (line_view p).opening.size =
    λ n has. is.pool.live.known.low n (⊎_elim (λ (same : n ≡ e). subst (λ x. IsInHand x (line_view p).facts) (sym same)
    spare.in_hand) (λ (later : Has n (numbers_out p)). is.out.in_hand n later) has) in
    let few = few_below (line_view p).opening.size (e ∷ numbers_out p) (spare.not_out, is.out.once) low in
    let long = length-map p.sent.items number_of in
    let is_long = p.sent.ok.0 in
    let space = is.space in
    omega (arith, few, long, is_long, space, size)

-- the envelopes that are out, with the newest one, and without the oldest one
pub out-more : (ns : List ℕ) (e : ℕ) (f : Facts) → AreOut ns f → IsInHand e f → (Has e ns → ⊥) → AreOut (ns ++ e ∷ []) f
out-more ns e f out in_hand none = record {
  once = distinct_append e ns out.once none;
  in_hand = λ n has. ⊎_elim (λ (old : Has n ns). out.in_hand n old)
      (λ (new : Has n (e ∷ [])). ⊎_elim (λ (same : n ≡ e). subst (λ x. IsInHand x f) (sym same) in_hand)
      (λ (no : Has n []). absurd no) new)
      (has_append n ns (e ∷ []) has);
}

pub out-fewer : (ns : List ℕ) (e : ℕ) (f : Facts) → AreOut (e ∷ ns) f → AreOut ns f
out-fewer ns e f out = record { once = out.once.1; in_hand = λ n has. out.in_hand n (inr has) }

-- The post after it sent a letter more, and after a call that put nothing.
pub sent-kept : (m : Mailbox) (p q : Post) (envelope : Element) → IsPostOf m p → IsSpare (number_of envelope) p
    → q.sender ≡ p.sender → q.pool ≡ p.pool → q.replies ≡ p.replies → IsPassOf m.letters q.letters
    → IsPost p.sender (view q.letters) → q.next ≡ length (sent_by q) → out_with q ≡ out_with p ++ envelope ∷ []
    → deque_capacity q.sent ≡ deque_capacity p.sent → IsPostOf m q
sent-kept m p q envelope is spare sender pool replies letters post next items space = record {
  mailbox = is.mailbox;
  pool = rw pool is.pool;
  letters = letters;
  post = rw sender post;
  next = next;
  replies = rw (sender, replies) is.replies;
  out =
      let numbers : numbers_out q ≡ numbers_out p ++ number_of envelope ∷ [] =
      ap (map number_of) items ∙ map-append number_of (out_with p) (envelope ∷ []) in
      rw (numbers, pool) (out-more (numbers_out p) (number_of envelope) (line_view p).facts is.out spare.in_hand
      spare.not_out);
  space = space ∙ is.space;
}

pub unsent-kept : (m : Mailbox) (p q : Post) → IsPostOf m p → q.sender ≡ p.sender → q.pool ≡ p.pool
    → q.replies ≡ p.replies → q.next ≡ p.next → q.sent ≡ p.sent → IsPassOf m.letters q.letters
    → IsPost p.sender (view q.letters) → view q.letters ≡ view p.letters → IsPostOf m q
unsent-kept m p q is sender pool replies next sent letters post same = record {
  mailbox = is.mailbox;
  pool = rw pool is.pool;
  letters = letters;
  post = rw sender post;
  next = next ∙ (is.next ∙ ap (λ v. length (sent_in v)) (sym same));
  replies = rw (sender, replies) is.replies;
  out = rw (sent, pool) is.out;
  space = rw sent is.space;
}

-- The queue of a sender, and its pass of it after a call.
module _ {Q A : Type 0} where
  same-queue : (room s : ℕ) (qs : List (Slotted (Option (Unit {0})) (Doing (Unit {0}) Tally) Q A))
      (q : Slotted (Option (Unit {0})) (Doing (Unit {0}) Tally) Q A) (p : Pass (Unit {0}) Tally)
      (is : IsOfSender room s qs p) → q ≡ get_or qs s q → q ≡ is.queue
  same-queue room s qs q p is at =
      let low = get-below qs s is.queue is.there in
      same_Some q is.queue (sym (slice_get-get_or qs s q low ∙ ap Some (sym at)) ∙ is.there)

  pub its-pass : (room s : ℕ) (qs : List (Slotted (Option (Unit {0})) (Doing (Unit {0}) Tally) Q A))
      (q : Slotted (Option (Unit {0})) (Doing (Unit {0}) Tally) Q A) (p : Pass (Unit {0}) Tally)
      → IsOfSender room s qs p → q ≡ get_or qs s q → IsPassOf q p
  its-pass room s qs q p is at = rw (same-queue room s qs q p is at) is.pass

  pub its-next : (room s : ℕ) (qs : List (Slotted (Option (Unit {0})) (Doing (Unit {0}) Tally) Q A))
      (q : Slotted (Option (Unit {0})) (Doing (Unit {0}) Tally) Q A) (p r : Pass (Unit {0}) Tally)
      → IsOfSender room s qs p → q ≡ get_or qs s q → IsPassOf q r → tallies.IsPost (view r)
      → IsOfSender room s qs r
  its-next room s qs q p r is at pass post = record {
    queue = is.queue;
    there = is.there;
    room_is = is.room_is;
    pass = subst (λ x. IsPassOf x r) (same-queue room s qs q p is at) pass;
    post = post;
  }

-- After it asked for an acknowledgement, and has its oldest envelope back where it took one.
pub popped-out : (xs ys : List Element) (r : Option Element) (f : Facts) → xs ≡ option_to_list r ++ ys
    → AreOut (map number_of xs) f → AreOut (map number_of ys) f
popped-out xs ys (Some x) f parts out =
    out-fewer (map number_of ys) (number_of x) f (subst (λ l. AreOut (map number_of l) f) parts out)
popped-out xs ys None f parts out = subst (λ l. AreOut (map number_of l) f) parts out

pub asked-kept : (m : Mailbox) (p q : Post) (r : Option Element) → IsPostOf m p → q.sender ≡ p.sender → q.pool ≡ p.pool
    → q.letters ≡ p.letters → q.next ≡ p.next → IsOfSender (room_of m) p.sender m.replies.items q.replies
    → out_with p ≡ option_to_list r ++ out_with q → deque_capacity q.sent ≡ deque_capacity p.sent → IsPostOf m q
asked-kept m p q r is sender pool letters next replies parts space = record {
  mailbox = is.mailbox;
  pool = rw pool is.pool;
  letters = rw letters is.letters;
  post = rw (sender, letters) is.post;
  next = next ∙ (is.next ∙ ap (λ l. length (sent_in (view l))) (sym letters));
  replies = rw sender replies;
  out = rw pool (popped-out (out_with p) (out_with q) r (line_view p).facts parts is.out);
  space = space ∙ is.space;
}

pub some-out : (n : ℕ) → n == 0 ≡ false → 0 < n
some-out zero none = absurd (cc)
some-out (suc n) none = omega arith

pub is-none : (n : ℕ) → n == 0 ≡ true → n ≡ 0
is-none zero none = refl
is-none (suc n) none = let no = ne_eqb (suc n) 0 (λ e. absurd (omega (arith, e))) in absurd (cc)

pub reclaims : (p q : Post) (r : Option Element) → out_with p ≡ option_to_list r ++ out_with q
    → (IsSome r ↔ 0 < deque_len p.sent) → 0 < deque_len p.sent → view q.replies ≡ having_taken (view p.replies)
    → q.letters ≡ p.letters → MatchOption r (HasNone p q) (λ x. HasReclaimed p x q)
reclaims p q (Some x) parts variant some taken letters = record { out = parts; taken = taken; letters = letters }
reclaims p q None parts variant some taken letters = let no = variant.1 some in absurd (cc)

pub reclaimed-spares : (p q : Post) (r : Option Element) → AreOut (numbers_out p) (line_view p).facts
    → q.pool ≡ p.pool → out_with p ≡ option_to_list r ++ out_with q → IfSome r (λ x. IsSpare (number_of x) q)
reclaimed-spares p q (Some x) out pool parts =
    let now : AreOut (number_of x ∷ numbers_out q) (line_view p).facts =
    subst (λ l. AreOut (map number_of l) (line_view p).facts) parts out in record {
      in_hand = rw pool (now.in_hand (number_of x) (inl refl));
      not_out = now.once.0;
    }
reclaimed-spares p q None out pool parts = tt

pub none-out : (xs : List Element) (n : ℕ) → n ≡ length xs → n ≡ 0 → xs ≡ []
none-out [] n long none = refl
none-out (x ∷ xs) n long none = absurd (omega (arith, long, none))
