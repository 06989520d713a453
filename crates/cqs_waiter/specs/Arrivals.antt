-- How what a caller waits for came to it: what the calls gave that it made, one after the other.
-- What a call tells, each kind of waiter says.
use Rattle.std.specs.Prelude.{◌≡◌, ◌⊎◌, ℕ, zero, suc, Option, Some, None, Result, Ok, Err}
use Rattle.cqs_rule_laws.specs.declared.config.AcquireError.{AcquireError}

-- What the calls of one who waits tell of its pass before and after (V), of the token of a wait (W)
-- and of what is waited for (X): all that the contract of the call says.
pub record WaiterCalls (V W X : Type 0) : Type 1 where
  -- a call that asks had it at once, or got a wait, or was refused
  pub at_once : V → X → V → Type 0
  pub waits : V → W → V → Type 0
  pub refuses : V → AcquireError → V → Type 0
  -- a look at a wait found it served; or nothing new, and gave its token again
  pub serves : W → V → X → V → Type 0
  pub pends : W → V → W → V → Type 0

module _ {V W X : Type 0} (calls : WaiterCalls V W X) where
  -- so many looks that found nothing new, one after the other, from this token to the last one
  abbrev pub LooksOn : ℕ → W → V → W → V → Type 0
  LooksOn zero wait v last w = (last ≡ wait) × (w ≡ v)
  LooksOn (suc times) wait v last w =
      (next : W) × (u : V) × calls.pends wait v next u × LooksOn times next u last w

  -- It came by this wait: after some looks that found nothing new, one found it served.
  pub record ComesBy (wait : W) (v : V) (it : X) (w : V) : Type 0 where
    pub times : ℕ
    pub last : W
    pub before : V
    pub looked : LooksOn times wait v last before
    pub served : calls.serves last before it w

  -- What came of a call that asks, or of the wait that it had got before. Only a call that asks is
  -- refused.
  abbrev pub Arrives : V → Option W → Result X AcquireError → V → Type 0
  Arrives v None (Ok it) w =
      calls.at_once v it w
      ⊎ ((wait : W) × (u : V) × calls.waits v wait u × ComesBy wait u it w)
  Arrives v None (Err e) w = calls.refuses v e w
  Arrives v (Some wait) (Ok it) w = ComesBy wait v it w
  Arrives v (Some wait) (Err e) w = ⊥

  -- What a poll begins with: the wait of before, or what a call gave that asks: this, at once; or a
  -- wait; or a refusal.
  abbrev pub BeginsAtOnce : V → Option W → X → V → Type 0
  BeginsAtOnce v None it w = calls.at_once v it w
  BeginsAtOnce v (Some wait) it w = ⊥

  abbrev pub BeginsToWait : V → Option W → W → V → Type 0
  BeginsToWait v None wait w = calls.waits v wait w
  BeginsToWait v (Some before) wait w = (wait ≡ before) × (w ≡ v)

  abbrev pub BeginsRefused : V → Option W → AcquireError → V → Type 0
  BeginsRefused v None e w = calls.refuses v e w
  BeginsRefused v (Some wait) e w = ⊥

  -- What a poll found that is pending: it began with a wait, and its look found nothing new.
  pub record Pends (v : V) (wait : Option W) (again : W) (w : V) : Type 0 where
    pub first : W
    pub from : V
    pub begins : BeginsToWait v wait first from
    pub looked : calls.pends first from again w

  -- the pass asked, got a wait, and has looked at it some times
  pub record StillLooks (v : V) (wait : W) (w : V) : Type 0 where
    pub first : W
    pub from : V
    pub asked : calls.waits v first from
    pub times : ℕ
    pub looked : LooksOn times first from wait w
