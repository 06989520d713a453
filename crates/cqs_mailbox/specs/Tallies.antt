-- The rule of a sender's acknowledgements: the desk gave as many as the post took, and those that
-- the queue holds.
use Rattle.std.specs.Prelude.{◌≡◌, ℕ, ◌+◌, ◌≤◌, List, length}
use mathlib.Core.Option.{some}
use lib.ListN.{get_elem?}
use Rattle.cqs_mailbox.specs.declared.tally.Tally.{Tally}
use Rattle.cqs_mailbox.specs.declared.tally.Tally.TheVariants.{Both, Desk, Post, Gone}

-- what one pass knows, where so many were given and so many taken
abbrev pub Knows : (desk post given taken port : ℕ) → Tally → Type 0
Knows desk post given taken port (Both g t) =
    (port ≡ desk) × (port ≡ post) × (g ≡ given) × (t ≡ taken)
Knows desk post given taken port (Desk g) = (port ≡ desk) × (g ≡ given)
Knows desk post given taken port (Post t) = (port ≡ post) × (t ≡ taken)
Knows desk post given taken port Gone = Unit {0}

-- the rule
pub record IsTally (items : List (Unit {0})) (views : List Tally) : Type 0 where
  pub desk : ℕ
  pub post : ℕ
  pub given : ℕ
  pub taken : ℕ
  pub sum : given ≡ taken + length items
  pub each : (port : ℕ) (v : Tally) → get_elem? views port ≡ some v
      → Knows desk post given taken port v

-- At a step of a call the queue held so many acknowledgements, under its rule, and the pass knew
-- this.
pub record WasFound (many : ℕ) (v : Tally) : Type 0 where
  pub items : List (Unit {0})
  pub length_is : length items ≡ many
  pub views : List Tally
  pub rule : IsTally items views
  pub port : ℕ
  pub there : get_elem? views port ≡ some v

-- who the pass is: the desk, until it has met the post and after it; or the post
abbrev pub IsDesk : Tally → Type 0
IsDesk (Desk g) = Unit {0}
IsDesk (Both g t) = Unit {0}
IsDesk (Post t) = ⊥
IsDesk Gone = ⊥

abbrev pub IsPost : Tally → Type 0
IsPost (Post t) = Unit {0}
IsPost (Both g t) = ⊥
IsPost (Desk g) = ⊥
IsPost Gone = ⊥

-- how many the desk gave, and how many the post took
abbrev pub given_in : Tally → ℕ
given_in (Both g t) = g
given_in (Desk g) = g
given_in (Post t) = 0
given_in Gone = 0

abbrev pub taken_in : Tally → ℕ
taken_in (Both g t) = t
taken_in (Desk g) = 0
taken_in (Post t) = t
taken_in Gone = 0

-- what each has, where a post is made
abbrev pub desk_part : Tally → Tally
desk_part (Both g t) = Desk g
desk_part (Desk g) = Desk g
desk_part (Post t) = Post t
desk_part Gone = Gone

abbrev pub post_part : Tally → Tally
post_part (Both g t) = Post t
post_part (Desk g) = Gone
post_part (Post t) = Gone
post_part Gone = Gone

-- the desk, once it has met the post
abbrev pub having_met : Tally → Tally → Tally
having_met v u = Both (given_in v) (taken_in u)

-- the desk that gave one more, and the post that took one more
abbrev pub having_given : Tally → Tally
having_given (Desk g) = Desk (g + 1)
having_given (Both g t) = Both (g + 1) t
having_given (Post t) = Post t
having_given Gone = Gone

abbrev pub having_taken : Tally → Tally
having_taken (Post t) = Post (t + 1)
having_taken (Both g t) = Both g t
having_taken (Desk g) = Desk g
having_taken Gone = Gone

-- no more was taken than given
abbrev pub IsCovered : Tally → Type 0
IsCovered v = taken_in v ≤ given_in v
