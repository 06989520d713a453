-- What each call of a mailbox answers, and what it leaves of its post or of the desk.
use Rattle.std.specs.Prelude.{◌≡◌, ◌⊎◌, ℕ, ◌+◌, ◌*◌, ◌/◌, ◌≤◌, [], ◌∷◌, ◌++◌, length, Result, Ok, Err}
use Rattle.crossbeam_queue.specs.Passes.{view}
use Rattle.cqs_rule_laws.specs.declared.config.AcquireError.{AcquireError}
use Rattle.cqs_rule_laws.specs.declared.config.Config.{Config}
use Rattle.cqs_rule_laws.specs.declared.view.View.{View}
use Rattle.cqs_rule_laws.specs.Lists.{IsPrefix, part}
use Rattle.cqs_rule_laws.specs.Views.{first_facts}
use Rattle.cqs_rule.specs.Passes.{pass_view, limit_of}
use Rattle.cqs_rule.specs.declared.queue.tokens.Wait.{Wait}
use Rattle.cqs_rule.specs.Seats.{HasMet}
use Rattle.cqs_rule.specs.Waits.{HasWait}
use Rattle.cqs_pool_object.specs.declared.entries.PoolEntry.{PoolEntry}
use Rattle.cqs_pool.specs.declared.answers.PoolLeft.{PoolLeft}
use Rattle.cqs_pool.specs.declared.answers.PoolLeft.TheVariants.{Cancelled, TooLate}
use Rattle.cqs_pool.specs.declared.answers.PoolPolled.{PoolPolled}
use Rattle.cqs_pool.specs.declared.answers.PoolPolled.TheVariants.{Granted, Pending}
use Rattle.cqs_pool.specs.declared.answers.Taking.{Taking}
use Rattle.cqs_pool.specs.declared.answers.Taking.TheVariants as taking
use Rattle.cqs_pool.specs.declared.element.Element.{Element}
use Rattle.cqs_pool.specs.Elements.{number_of}
use Rattle.cqs_pool.specs.Pool.{pool_object}
use Rattle.cqs_mailbox.specs.declared.answers.Received.{Received}
use Rattle.cqs_mailbox.specs.declared.answers.Received.TheVariants as received
use Rattle.cqs_mailbox.specs.declared.answers.Room.{Room}
use Rattle.cqs_mailbox.specs.declared.answers.Room.TheVariants as room
use Rattle.cqs_mailbox.specs.declared.known.Known.TheVariants as known
use Rattle.cqs_mailbox.specs.declared.mailbox.Desk.{Desk}
use Rattle.cqs_mailbox.specs.declared.mailbox.Mailbox.{Mailbox}
use Rattle.cqs_mailbox.specs.declared.mailbox.Post.{Post}
use Rattle.cqs_mailbox.specs.declared.tally.Tally.TheVariants as tally
use Rattle.cqs_mailbox.specs.Mail as mail
use Rattle.cqs_mailbox.specs.Mail.{HasReceived, IsInOrder, WasEmpty, hired, hiring, having_sent}
use Rattle.cqs_mailbox.specs.Mailboxes.{IsDue, IsSpare, acknowledged_to, line_view, most_posts, out_with, posts_of, room_of, sender_of, sent_by, taken_by}
use Rattle.cqs_mailbox.specs.Senders.{IsCalledFor}
use Rattle.cqs_mailbox.specs.Tallies as tallies
use Rattle.cqs_mailbox.specs.Tallies.{IsCovered, desk_part, having_given, having_taken}

-- the answers of the pool below
abbrev pub as_taking : Room → Taking
as_taking (room.Got envelope) = taking.Took envelope
as_taking (room.Later wait) = taking.Later wait

abbrev pub as_answer : Result Room AcquireError → Result Taking AcquireError
as_answer (Ok came) = Ok (as_taking came)
as_answer (Err e) = Err e

-- the envelope that came is one to spare
abbrev pub RoomSpares : Room → Post → Type 0
RoomSpares (room.Got envelope) p = IsSpare (number_of envelope) p
RoomSpares (room.Later wait) p = Unit {0}

abbrev pub PollSpares : PoolPolled → Post → Type 0
PollSpares (Granted envelope) p = IsSpare (number_of envelope) p
PollSpares (Pending wait) p = Unit {0}

abbrev pub CancelSpares : PoolLeft → Post → Type 0
CancelSpares (Cancelled under) p = Unit {0}
CancelSpares (TooLate envelope) p = IsSpare (number_of envelope) p

-- A call in the line for room led the post from p to q: its letters, its acknowledgements and the
-- envelopes that are out are as they were.
abbrev pub IsInLine : Post → Post → Type 0
IsInLine p q = q ≡ record p { pool = q.pool }

-- the waits of a pass stay its own
abbrev pub KeepsWaits : View PoolEntry (Unit {0}) → View PoolEntry (Unit {0}) → Type 0
KeepsWaits v w = (wait : Wait) → HasWait v wait → HasWait w wait

-- a call on its letters, or for an acknowledgement, left of the post what it doesn't speak of
pub record IsBesideLine (p q : Post) : Type 0 where
  pub sender : sender_of q ≡ sender_of p
  pub pool : q.pool ≡ p.pool

-- The post sent its next letter, with this number and word, and this envelope is out with it.
pub record HasSent (p : Post) (n word : ℕ) (envelope : Element) (q : Post) : Type 0 where
  pub number : n ≡ length (sent_by p)
  pub letter : view q.letters
      ≡ having_sent (view p.letters) (record { sender = sender_of p; number = n; word = word })
  pub out : out_with q ≡ out_with p ++ envelope ∷ []
  pub replies : q.replies ≡ p.replies

-- The queue held as many letters as it has room for, and the post has sent nothing.
pub record WasFull (room : ℕ) (p q : Post) : Type 0 where
  pub found : mail.WasFound room (view p.letters)
  pub letters : view q.letters ≡ view p.letters
  pub out : out_with q ≡ out_with p
  pub replies : q.replies ≡ p.replies

-- The post took an acknowledgement, and has its oldest envelope back.
pub record HasReclaimed (p : Post) (envelope : Element) (q : Post) : Type 0 where
  pub out : out_with p ≡ envelope ∷ out_with q
  pub taken : view q.replies ≡ having_taken (view p.replies)
  pub letters : q.letters ≡ p.letters

-- No envelope was out, or no acknowledgement was there.
pub record HasNone (p q : Post) : Type 0 where
  pub cause : (out_with p ≡ []) ⊎ tallies.WasFound 0 (view p.replies)
  pub out : out_with q ≡ out_with p
  pub replies : view q.replies ≡ view p.replies
  pub letters : q.letters ≡ p.letters

-- the desk received a letter, or the queue was empty
abbrev pub Receives : Desk → Received → Desk → Type 0
Receives d (received.Got letter) e = HasReceived (view d.letters) letter (view e.letters)
Receives d received.Empty e = (view e.letters ≡ view d.letters) × WasEmpty (view d.letters)

-- and a letter that it received is one to acknowledge
abbrev pub ReceivesDue : Received → Desk → Type 0
ReceivesDue (received.Got letter) e = IsDue letter.sender e
ReceivesDue received.Empty e = Unit {0}

-- A letter of this sender was acknowledged, or its queue was full.
abbrev pub Acknowledges : ℕ → Desk → Desk → Type 0
Acknowledges s d e =
    IsCalledFor s (λ v w. w ≡ having_given v) d.replies.items e.replies.items

abbrev pub IsReplyFull : ℕ → ℕ → Desk → Desk → Type 0
IsReplyFull room s d e =
    IsCalledFor s (λ v w. (w ≡ v) × tallies.WasFound room v) d.replies.items e.replies.items

-- a post that has sent nothing, of this number
pub record IsNewPost (s : ℕ) (p : Post) : Type 0 where
  pub sender : sender_of p ≡ s
  pub letters : view p.letters ≡ known.Post s []
  pub replies : view p.replies ≡ tally.Post 0
  pub out : out_with p ≡ []
  pub facts : (line_view p).facts ≡ first_facts 0

-- The desk made a post, which has the next number and has seen of the pool what the desk has. No
-- entry that it has seen names its pass, and its pass has made none.
pub record HasHired (d : Desk) (p : Post) (e : Desk) : Type 0 where
  pub new : IsNewPost (posts_of d) p
  pub letters : view e.letters ≡ hiring (view d.letters)
  pub replies : IsCalledFor (sender_of p) (λ v w. w ≡ desk_part v) d.replies.items e.replies.items
  pub pool : pass_view e.pool ≡ pass_view d.pool
  pub sees : IsPrefix (pass_view d.pool).seen (line_view p).seen
  pub own : (line_view p).own ≡ (line_view p).number ∷ []
  pub unnamed : part pool_object.names (line_view p).number (line_view p).seen ≡ []
  pub childless : (line_view p).made ≡ []

-- The post has met the desk: what the desk received of it is a prefix of what it had sent, and it
-- took no more acknowledgements than the desk gave it. The envelopes that are out stay in the
-- desk's hand.
pub record HasTakenIn (d : Desk) (p : Post) (e : Desk) : Type 0 where
  pub pool : HasMet d.pool p.pool e.pool
  pub elements : (pass_view e.pool).facts.has.slots
      ≡ (pass_view d.pool).facts.has.slots ++ (line_view p).facts.has.slots
  pub letters : view e.letters ≡ mail.having_met (view d.letters) (view p.letters)
  pub in_order : IsInOrder (view e.letters)
  pub replies : IsCalledFor (sender_of p) (λ v w. w ≡ tallies.having_met v (view p.replies))
      d.replies.items e.replies.items
  pub covered : taken_by p ≤ acknowledged_to (sender_of p) d

-- how the pool of the envelopes is made
abbrev pub config_for : ℕ → ℕ → ℕ → Config
config_for room passes limit =
    record { passes = passes; limit = limit; slots = 2 * passes + 8 + room / 32 }

-- a mailbox as it is made, before its first post and with it
pub record AreNewParts (room passes limit : ℕ) (m : Mailbox) (d : Desk) : Type 0 where
  pub room_is : room_of m ≡ room
  pub passes_are : most_posts m + 1 ≡ passes
  pub limit_is : limit_of m.pool.queue ≡ limit
  pub desk : view d.letters ≡ known.Desk 0 [] []

pub record IsNewMailbox (room passes limit : ℕ) (m : Mailbox) (d : Desk) (p : Post) : Type 0 where
  pub room_is : room_of m ≡ room
  pub passes_are : most_posts m + 1 ≡ passes
  pub limit_is : limit_of m.pool.queue ≡ limit
  pub desk : view d.letters ≡ known.Desk 1 [] []
  pub first : IsNewPost 0 p
