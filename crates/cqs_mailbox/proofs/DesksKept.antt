-- The desk of a mailbox, after each of its calls.
use Rattle.std.proofs.Common.{◌≡◌, ℕ, ◌+◌, ◌-◌, ◌<◌, ◌≤◌, List, [], Option, Some, MatchOption, length, slice_get, get_or, refl, sym, ap, ◌∙◌, subst, arith}
use Rattle.crossbeam_queue.specs.Passes.{Pass, view, IsPassOf, ruled_capacity}
use Rattle.std.proofs.lemmas.Option.{slice_get-get_or}
use Rattle.cqs_rule_laws.specs.declared.view.Facts.{Facts}
use Rattle.cqs_rule_laws.specs.CallRule.{IsReady}
use Rattle.cqs_rule.specs.Passes.{pass_view, passes_of}
use Rattle.cqs_pool.specs.Calls.{IsMine}
use Rattle.cqs_mailbox.specs.declared.known.Known.{Known}
use Rattle.cqs_mailbox.specs.declared.known.Known.TheVariants as known
use Rattle.cqs_mailbox.specs.declared.letter.Letter.{Letter}
use Rattle.cqs_mailbox.specs.declared.mailbox.Desk.{Desk}
use Rattle.cqs_mailbox.specs.declared.mailbox.Mailbox.{Mailbox}
use Rattle.cqs_mailbox.specs.declared.tally.Tally.{Tally}
use Rattle.cqs_mailbox.specs.Mail.{HasReceived, IsDesk, having_met, hired, hiring, made_in, of_sender, received_in, sent_in}
use Rattle.cqs_mailbox.specs.Mailboxes.{AreOut, IsDeskOf, IsDue, acknowledged_to, most_posts, posts_of, received_by, room_of}
use Rattle.cqs_mailbox.specs.Senders.{AreForSenders}
use Rattle.cqs_mailbox.specs.Spare.{AreSpare}
use Rattle.cqs_mailbox.proofs.DeskKeeps.{posts-after, posts-met, same-hired, same-met, due-after, due-now}
use Rattle.cqs_mailbox.proofs.SendersKeep.{none-given}

-- an element that is read stands there
pub queue-at : {P : Type 0} (xs : List P) (i : ℕ) (x : P) → i < length xs → x ≡ get_or xs i x → slice_get xs i ≡ Some x
queue-at xs i x low is = slice_get-get_or xs i x low ∙ ap Some (sym is)

-- the desk has a pass of each queue
pub pass-at : (m : Mailbox) (d : Desk) (i : ℕ) (p : Pass (Unit {0}) Tally) → IsDeskOf m d → i < most_posts m
    → p ≡ get_or d.replies.items i p → slice_get d.replies.items i ≡ Some p
pass-at m d i p is low same =
    let many = is.replies.many in queue-at d.replies.items i p (omega (arith, many, low)) same

pub low-sender : (m : Mailbox) (d : Desk) (s : ℕ) → IsDeskOf m d → s < posts_of d → s < most_posts m
low-sender m d s is made = let few = is.few in omega (arith, few, made)

-- a letter was received, or none was there
pub received-kept : (m : Mailbox) (d e : Desk) (X : Type 0) (r : Option Letter) → IsDeskOf m d → e.pool ≡ d.pool
    → e.spare ≡ d.spare → e.replies ≡ d.replies → e.posts ≡ d.posts → IsPassOf m.letters e.letters
    → IsDesk (view e.letters)
    → MatchOption r ((view e.letters ≡ view d.letters) × X) (λ x. HasReceived (view d.letters) x (view e.letters))
    → IsDeskOf m e
received-kept m d e X r is pool spare replies posts queue desk took =
    let made = posts-after (view d.letters) (view e.letters) X r took in record {
      mailbox = is.mailbox;
      pool = rw pool is.pool;
      ready = rw pool is.ready;
      letters = queue;
      desk = desk;
      posts = posts ∙ (is.posts ∙ sym made);
      few = rw made is.few;
      spare = rw (spare, made) is.spare;
      replies = rw (replies, made) is.replies;
      due = rw replies (due-after (view d.letters) (view e.letters) X r (λ s. acknowledged_to s d) is.desk took is.due);
    }

pub received-due : (m : Mailbox) (d e : Desk) (x : Letter) → IsDeskOf m d → e.replies ≡ d.replies
    → HasReceived (view d.letters) x (view e.letters) → IsDue x.sender e
received-due m d e x is replies took =
    let made = posts-after (view d.letters) (view e.letters) (Unit {0}) (Some x) took in record {
      made = rw made took.sender;
      more = rw replies (due-now (view d.letters) (view e.letters) x (λ s. acknowledged_to s d) is.desk took is.due);
    }

-- a call for one sender
pub desk-set : (m : Mailbox) (d e : Desk) → IsDeskOf m d → e.pool ≡ d.pool → e.spare ≡ d.spare
    → e.letters ≡ d.letters → e.posts ≡ d.posts
    → AreForSenders (room_of m) (posts_of d) m.replies.items e.replies.items
    → ((s : ℕ) → acknowledged_to s e ≤ length (of_sender s (received_by d))) → IsDeskOf m e
desk-set m d e is pool spare letters posts replies due = record {
  mailbox = is.mailbox;
  pool = rw pool is.pool;
  ready = rw pool is.ready;
  letters = rw letters is.letters;
  desk = rw letters is.desk;
  posts = posts ∙ rw letters is.posts;
  few = rw letters is.few;
  spare = rw (spare, letters) is.spare;
  replies = rw letters replies;
  due = rw letters due;
}

-- a post was made
pub hired-kept : (m : Mailbox) (d e : Desk) → IsDeskOf m d → IsMine m.pool e.pool → IsReady (pass_view e.pool).facts
    → IsPassOf m.letters e.letters → IsDesk (view e.letters) → view e.letters ≡ hiring (view d.letters)
    → posts_of e ≡ posts_of d + 1 → e.posts ≡ d.posts + 1 → d.posts < most_posts m
    → AreSpare m.pool (most_posts m - posts_of e) e.spare.items
    → AreForSenders (room_of m) (posts_of e) m.replies.items e.replies.items
    → ((s : ℕ) → acknowledged_to s e ≡ acknowledged_to s d) → IsDeskOf m e
hired-kept m d e is pool ready letters desk hired made posts low spare replies given = record {
  mailbox = is.mailbox;
  pool = pool;
  ready = ready;
  letters = letters;
  desk = desk;
  posts = let was = is.posts in omega (arith, posts, made, was);
  few = let was = is.posts in omega (arith, made, was, low);
  spare = spare;
  replies = replies;
  due = λ s.
      let was = is.due s in
      let now = ap (λ l. length (of_sender s l)) (ap received_in hired ∙ same-hired (view d.letters)) in
      let same = given s in omega (arith, was, now, same);
}

-- a post was met
pub met-kept : (m : Mailbox) (d e : Desk) (u : Known) → IsDeskOf m d → IsMine m.pool e.pool
    → IsReady (pass_view e.pool).facts → e.spare ≡ d.spare → IsPassOf m.letters e.letters → IsDesk (view e.letters)
    → view e.letters ≡ having_met (view d.letters) u → e.posts ≡ d.posts
    → AreForSenders (room_of m) (posts_of d) m.replies.items e.replies.items
    → ((s : ℕ) → acknowledged_to s e ≡ acknowledged_to s d) → IsDeskOf m e
met-kept m d e u is pool ready spare letters desk met posts replies given =
    let made = posts-met (view d.letters) u (view e.letters) met in record {
      mailbox = is.mailbox;
      pool = pool;
      ready = ready;
      letters = letters;
      desk = desk;
      posts = posts ∙ (is.posts ∙ sym made);
      few = rw made is.few;
      spare = rw (spare, made) is.spare;
      replies = rw made replies;
      due = λ s.
          let was = is.due s in
          let now = ap (λ l. length (of_sender s l)) (same-met (view d.letters) u (view e.letters) met) in
          let same = given s in omega (arith, was, now, same);
    }

-- a post that was just made
pub new-post : (v : Known) → IsDesk v → hired v ≡ known.Post (made_in v) []
new-post (known.Desk m r f) is = refl
new-post (known.Post s sent) is = absurd is
new-post known.Gone is = absurd is

pub none-sent : (v : Known) → sent_in (hired v) ≡ []
none-sent (known.Desk m r f) = refl
none-sent (known.Post s sent) = refl
none-sent known.Gone = refl

pub none-out-yet : (f : Facts) → AreOut [] f
none-out-yet f = record { once = tt; in_hand = λ e no. absurd no }

-- a mailbox without posts
pub parts-desk : (m : Mailbox) (d : Desk) (room passes : ℕ) → room_of m ≡ room → ruled_capacity m.letters ≡ room
    → most_posts m + 1 ≡ passes → passes_of m.pool.queue ≡ passes → passes ≤ 32 → IsMine m.pool d.pool
    → IsReady (pass_view d.pool).facts → AreSpare m.pool (passes - 1) d.spare.items → IsPassOf m.letters d.letters
    → view d.letters ≡ known.Desk 0 [] [] → d.posts ≡ 0 → AreForSenders room 0 m.replies.items d.replies.items
    → IsDeskOf m d
parts-desk m d room passes size long posts all few mine ready spare letters knows none each =
    let made : posts_of d ≡ 0 = ap made_in knows in record {
      mailbox = record { room_is = long ∙ sym size; passes = posts ∙ sym all; few = omega (arith, posts, few) };
      pool = mine;
      ready = ready;
      letters = letters;
      desk = subst IsDesk (sym knows) tt;
      posts = none ∙ sym made;
      few = omega (arith, made);
      spare =
          let many : most_posts m - posts_of d ≡ passes - 1 = omega (arith, made, posts) in
          subst (λ n. AreSpare m.pool n d.spare.items) (sym many) spare;
      replies =
          subst (λ n. AreForSenders n (posts_of d) m.replies.items d.replies.items) (sym size)
          (subst (λ n. AreForSenders room n m.replies.items d.replies.items) (sym made) each);
      due = λ s. let given = none-given room m.replies.items d.replies.items each s in omega (arith, given);
    }
