-- What the posts of the tests are between two calls.
pub use Rattle.cqs_mailbox.specs.Callers.{HasSpare, IsAtRest, IsOwing, IsWaiting}
use Rattle.std.specs.Prelude.{Option, Some, None}
use Rattle.cqs_pool.specs.declared.answers.PoolPolled.{PoolPolled}
use Rattle.cqs_pool.specs.declared.answers.PoolPolled.TheVariants.{Granted, Pending}
use Rattle.cqs_pool.specs.declared.element.Element.{Element}
use Rattle.cqs_mailbox.specs.declared.mailbox.Mailbox.{Mailbox}
use Rattle.cqs_mailbox.specs.declared.mailbox.Post.{Post}

-- after looks at a wait, and where it has an envelope or none
abbrev pub HasLooked : Mailbox → PoolPolled → Post → Type 0
HasLooked m (Granted envelope) p = HasSpare m envelope p
HasLooked m (Pending wait) p = IsWaiting m wait p

abbrev pub HasCome : Mailbox → Option Element → Post → Type 0
HasCome m (Some envelope) p = HasSpare m envelope p
HasCome m None p = IsAtRest m p

-- two posts
abbrev pub AreAtRest : Mailbox → Post × Post → Type 0
AreAtRest m pair = IsAtRest m pair.0 × IsAtRest m pair.1

-- four, in pairs
abbrev pub AreFourAtRest : Mailbox → (Post × Post) × (Post × Post) → Type 0
AreFourAtRest m four = AreAtRest m four.0 × AreAtRest m four.1
