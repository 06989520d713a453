-- What contracts see of a mailbox, of its desk and of its posts, and what holds of them between two
-- calls.
use Rattle.std.specs.Prelude.{◌≡◌, ℕ, ◌+◌, ◌-◌, ◌<◌, ◌≤◌, List, map, length}
use Rattle.std.specs.VecDeque.{deque_capacity}
use Rattle.crossbeam_queue.specs.Passes.{view, IsPassOf, ruled_capacity}
use Rattle.cqs_pool_object.specs.declared.entries.PoolEntry.{PoolEntry}
use Rattle.cqs_rule_laws.specs.declared.view.Facts.{Facts}
use Rattle.cqs_rule_laws.specs.declared.view.View.{View}
use Rattle.cqs_rule_laws.specs.CallRule.{IsReady}
use Rattle.cqs_rule_laws.specs.Lists.{Has, IsDistinct}
use Rattle.cqs_rule.specs.Passes.{pass_view, passes_of}
use Rattle.cqs_pool.specs.declared.element.Element.{Element}
use Rattle.cqs_pool.specs.Answers.{IsInHand}
use Rattle.cqs_pool.specs.Calls.{IsMine, size_of}
use Rattle.cqs_pool.specs.Elements.{number_of}
use Rattle.cqs_mailbox.specs.declared.letter.Letter.{Letter}
use Rattle.cqs_mailbox.specs.declared.mailbox.Desk.{Desk}
use Rattle.cqs_mailbox.specs.declared.mailbox.Mailbox.{Mailbox}
use Rattle.cqs_mailbox.specs.declared.mailbox.Post.{Post}
use Rattle.cqs_mailbox.specs.Mail.{IsDesk, IsPost, made_in, of_sender, received_in, sent_in}
use Rattle.cqs_mailbox.specs.Senders.{AreForSenders, IsOfSender, given_to}
use Rattle.cqs_mailbox.specs.Spare.{AreSpare}
use Rattle.cqs_mailbox.specs.Tallies.{taken_in}

-- how many envelopes there are, and how many posts there may be
abbrev pub room_of : Mailbox → ℕ
room_of m = size_of m.pool

abbrev pub most_posts : Mailbox → ℕ
most_posts m = length m.replies.items

-- a post's number, the letters that it has sent, and how many acknowledgements it took
abbrev pub sender_of : Post → ℕ
sender_of p = p.sender

abbrev pub sent_by : Post → List Letter
sent_by p = sent_in (view p.letters)

abbrev pub taken_by : Post → ℕ
taken_by p = taken_in (view p.replies)

-- the envelopes that are out with its letters, the oldest first, and their numbers
abbrev pub out_with : Post → List Element
out_with p = p.sent.items

abbrev pub numbers_out : Post → List ℕ
numbers_out p = map number_of p.sent.items

-- what it has seen and is doing in the line for room
abbrev pub line_view : Post → View PoolEntry (Unit {0})
line_view p = pass_view p.pool

-- how many posts the desk made, what it received, and how many letters of a sender it acknowledged
abbrev pub posts_of : Desk → ℕ
posts_of d = made_in (view d.letters)

abbrev pub received_by : Desk → List Letter
received_by d = received_in (view d.letters)

abbrev pub acknowledged_to : ℕ → Desk → ℕ
acknowledged_to s d = given_to s d.replies.items

-- These envelopes are out with letters: each is in the post's hand for the pool, and none is there
-- twice.
pub record AreOut (numbers : List ℕ) (f : Facts) : Type 0 where
  pub once : IsDistinct numbers
  pub in_hand : (e : ℕ) → Has e numbers → IsInHand e f

-- the post has this envelope to spare: it is out with no letter
pub record IsSpare (e : ℕ) (p : Post) : Type 0 where
  pub in_hand : IsInHand e (line_view p).facts
  pub not_out : Has e (numbers_out p) → ⊥

-- more letters of this sender were received than acknowledged
pub record IsDue (s : ℕ) (d : Desk) : Type 0 where
  pub made : s < posts_of d
  pub more : acknowledged_to s d < length (of_sender s (received_by d))

-- there are as many places for letters as envelopes, and one pass of the pool is the desk's
pub record IsMailbox (m : Mailbox) : Type 0 where
  pub room_is : ruled_capacity m.letters ≡ room_of m
  pub passes : most_posts m + 1 ≡ passes_of m.pool.queue
  pub few : most_posts m < 32

-- the post is one of this mailbox
pub record IsPostOf (m : Mailbox) (p : Post) : Type 0 where
  pub mailbox : IsMailbox m
  pub pool : IsMine m.pool p.pool
  pub letters : IsPassOf m.letters p.letters
  pub post : IsPost p.sender (view p.letters)
  pub next : p.next ≡ length (sent_by p)
  pub replies : IsOfSender (room_of m) p.sender m.replies.items p.replies
  pub out : AreOut (numbers_out p) (line_view p).facts
  pub space : deque_capacity p.sent ≡ room_of m

-- the desk is that of this mailbox
pub record IsDeskOf (m : Mailbox) (d : Desk) : Type 0 where
  pub mailbox : IsMailbox m
  pub pool : IsMine m.pool d.pool
  pub ready : IsReady (pass_view d.pool).facts
  pub letters : IsPassOf m.letters d.letters
  pub desk : IsDesk (view d.letters)
  pub posts : d.posts ≡ posts_of d
  pub few : posts_of d ≤ most_posts m
  pub spare : AreSpare m.pool (most_posts m - posts_of d) d.spare.items
  pub replies : AreForSenders (room_of m) (posts_of d) m.replies.items d.replies.items
  pub due : (s : ℕ) → acknowledged_to s d ≤ length (of_sender s (received_by d))
