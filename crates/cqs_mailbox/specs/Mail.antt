-- The rule of a mailbox's letters. What was ever put into the queue, in order, is what the desk
-- received and then what the queue holds; and of this each post has sent the letters that name it.
use Rattle.std.specs.Prelude.{◌≡◌, ◌≢◌, ◌==◌, ℕ, ◌+◌, ◌<◌, ◌≤◌, List, [], ◌∷◌, ◌++◌, filter, length}
use mathlib.Core.Option.{some}
use lib.ListN.{get_elem?}
use Rattle.cqs_core.specs.Parts.{IsPrefix}
use Rattle.cqs_mailbox.specs.declared.known.Finished.{Finished}
use Rattle.cqs_mailbox.specs.declared.known.Known.{Known}
use Rattle.cqs_mailbox.specs.declared.known.Known.TheVariants.{Desk, Post, Gone}
use Rattle.cqs_mailbox.specs.declared.letter.Letter.{Letter}

-- the letters of one sender, in order
abbrev pub of_sender : ℕ → List Letter → List Letter
of_sender s letters = filter (λ (l : Letter). l.sender == s) letters

-- letters are numbered in order, the first of them with n
abbrev pub AreNumbered : ℕ → List Letter → Type 0
AreNumbered n [] = Unit {0}
AreNumbered n (x ∷ xs) = (x.number ≡ n) × AreNumbered (n + 1) xs

-- a fact of each post that the desk met
abbrev pub AllMet : (Finished → Type 0) → List Finished → Type 0
AllMet P [] = Unit {0}
AllMet P (f ∷ fs) = P f × AllMet P fs

-- What one pass knows, where `all` was put, `got` was received, so many posts were made, and the
-- desk met `met`. `owner` is the pass of each post.
abbrev pub Knows : ℕ → (ℕ → ℕ) → ℕ → List Letter → List Letter → List Finished → ℕ → Known → Type 0
Knows desk owner made all got met port (Desk m r f) =
    (port ≡ desk) × (m ≡ made) × (r ≡ got) × (f ≡ met)
Knows desk owner made all got met port (Post s sent) =
    (s < made) × (port ≡ owner s) × (sent ≡ of_sender s all) × AllMet (λ f. f.sender ≢ s) met
Knows desk owner made all got met port Gone = Unit {0}

-- the rule
pub record IsMail (items : List Letter) (views : List Known) : Type 0 where
  pub desk : ℕ
  pub owner : ℕ → ℕ
  pub made : ℕ
  pub all : List Letter
  pub got : List Letter
  pub met : List Finished
  pub order : all ≡ got ++ items
  pub numbers : (s : ℕ) → AreNumbered 0 (of_sender s all)
  pub unsent : (s : ℕ) → made ≤ s → of_sender s all ≡ []
  pub few : AllMet (λ f. f.sender < made) met
  pub ended : AllMet (λ f. f.sent ≡ of_sender f.sender all) met
  pub each : (port : ℕ) (v : Known) → get_elem? views port ≡ some v
      → Knows desk owner made all got met port v

-- At a step of a call the queue held so many letters, under its rule, and the pass knew this.
pub record WasFound (many : ℕ) (v : Known) : Type 0 where
  pub items : List Letter
  pub length_is : length items ≡ many
  pub views : List Known
  pub rule : IsMail items views
  pub port : ℕ
  pub there : get_elem? views port ≡ some v

-- who the pass is
abbrev pub IsPost : ℕ → Known → Type 0
IsPost s (Post t sent) = t ≡ s
IsPost s (Desk m r f) = ⊥
IsPost s Gone = ⊥

abbrev pub IsDesk : Known → Type 0
IsDesk (Desk m r f) = Unit {0}
IsDesk (Post s sent) = ⊥
IsDesk Gone = ⊥

-- what a post has sent, what the desk received, how many posts it made, and which ones it met
abbrev pub sent_in : Known → List Letter
sent_in (Post s sent) = sent
sent_in (Desk m r f) = []
sent_in Gone = []

abbrev pub received_in : Known → List Letter
received_in (Desk m r f) = r
received_in (Post s sent) = []
received_in Gone = []

abbrev pub made_in : Known → ℕ
made_in (Desk m r f) = m
made_in (Post s sent) = 0
made_in Gone = 0

abbrev pub met_in : Known → List Finished
met_in (Desk m r f) = f
met_in (Post s sent) = []
met_in Gone = []

-- the desk, and the post that it makes
abbrev pub hiring : Known → Known
hiring (Desk m r f) = Desk (m + 1) r f
hiring (Post s sent) = Post s sent
hiring Gone = Gone

abbrev pub hired : Known → Known
hired (Desk m r f) = Post m []
hired (Post s sent) = Gone
hired Gone = Gone

-- the desk, once it has met a post
abbrev pub with_met : ℕ → List Letter → List Finished → Known → Known
with_met m r f (Post s sent) = Desk m r (f ++ record { sender = s; sent = sent } ∷ [])
with_met m r f (Desk n q g) = Desk m r f
with_met m r f Gone = Desk m r f

abbrev pub having_met : Known → Known → Known
having_met (Desk m r f) other = with_met m r f other
having_met (Post s sent) other = Post s sent
having_met Gone other = Gone

-- a post that has sent one letter more, and the desk that has received one more
abbrev pub having_sent : Known → Letter → Known
having_sent (Post s sent) x = Post s (sent ++ x ∷ [])
having_sent (Desk m r f) x = Desk m r f
having_sent Gone x = Gone

abbrev pub having_received : Known → Letter → Known
having_received (Desk m r f) x = Desk m (r ++ x ∷ []) f
having_received (Post s sent) x = Post s sent
having_received Gone x = Gone

-- What each post that the desk met had sent is what the desk received of it, and then what the
-- queue holds of it.
abbrev pub MetSentAll : Known → List Letter → Type 0
MetSentAll v items =
    AllMet (λ g. g.sent ≡ of_sender g.sender (received_in v) ++ of_sender g.sender items) (met_in v)

-- The law of order. Of each post that the desk has met, the letters that it received are a prefix
-- of those that the post had sent, and these are numbered from 0.
abbrev pub IsInOrder : Known → Type 0
IsInOrder v =
    AllMet (λ g. IsPrefix (of_sender g.sender (received_in v)) g.sent × AreNumbered 0 g.sent)
    (met_in v)

-- the desk had made each post that it met
abbrev pub WereMade : Known → Type 0
WereMade v = AllMet (λ g. g.sender < made_in v) (met_in v)

-- and all that they had sent is received
abbrev pub IsAllReceived : Known → Type 0
IsAllReceived v = AllMet (λ g. of_sender g.sender (received_in v) ≡ g.sent) (met_in v)

-- The desk received this letter: the next one of a sender that it made.
pub record HasReceived (v : Known) (x : Letter) (w : Known) : Type 0 where
  pub knows : w ≡ having_received v x
  pub sender : x.sender < made_in v
  pub next : x.number ≡ length (of_sender x.sender (received_in v))
  pub in_order : IsInOrder w

-- the queue was found empty
pub record WasEmpty (v : Known) : Type 0 where
  pub found : WasFound 0 v
  pub all : IsAllReceived v
