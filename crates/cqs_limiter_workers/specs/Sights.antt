-- What contracts see of what answers a tenant's requests.
use Rattle.std.specs.Prelude.{◌≡◌, ℕ, ◌==◌, List, ◌∷◌, ◌++◌, filter}
use Rattle.cqs_core.specs.declared.entries.Entry.{Entry}
use Rattle.cqs_limiter_requests.specs.declared.asks.Answer.{Answer}
use Rattle.cqs_limiter_requests.specs.declared.asks.Line.{Line}
use Rattle.cqs_limiter_requests.specs.Replies.{Tenancy, answer_of, after_line, entries_of}

-- the tenant as a plain one, what its pass has seen, and whether it has room for these requests
pub record Sight (X : Type 0) : Type 1 where
  pub standing : X → Tenancy
  pub seen : X → List Entry
  pub fits : X → List Line → Type 0

-- the lines of a tenant
abbrev pub own : ℕ → List Line → List Line
own t lines = filter (λ line. t == line.tenant) lines

module _ {X : Type 0} (s : Sight X) where
  -- this is a request for which it has room
  pub record IsNext (x : X) (line : Line) : Type 0 where
    pub more : List Line
    pub fits : s.fits x (line ∷ more)

  -- the tenant changes as a plain one, and so many entries come
  pub record Serves (x : X) (line : Line) (y : X) : Type 0 where
    pub standing : s.standing y ≡ after_line (s.standing x) line
    pub seen : s.seen y ≡ s.seen x ++ entries_of (s.standing x) line
    pub fits : (more : List Line) → s.fits x (line ∷ more) → s.fits y more

  -- and the answer is that of the plain one
  pub record Answers (x : X) (line : Line) (a : Answer) (y : X) : Type 0 where
    pub answer : a ≡ answer_of (s.standing x) line
    pub serves : Serves x line y
