-- What one event does to the funds of a semaphore: its free permits, those held, and who may claim them.
use Rattle.std.proofs.Common.{◌≡◌, ◌≢◌, ◌⊎◌, inl, inr, ℕ, ◌+◌, ◌-◌, ◌<◌, ◌≤◌, nat_lt, Bool, true, false, List, [], refl, sym, subst, ltb-true, arith}
use Rattle.cqs_core.specs.Keyed.{without}
use Rattle.cqs_core.specs.QueueLine.{Waiting}
use Rattle.cqs_core.specs.SemaphoreObject.{Semaphore, due}
use Rattle.cqs_core.specs.SemaphoreEntries.{after_take, at_door, after_enter, after_deliver, after_leave, after_look, turned_back}
use Rattle.cqs_turns_laws.proofs.Lines.{joins-line}

-- No permit is on its way, nobody is at the door, and no number is broken; somebody waits only where none is free;
-- the permits are all there, and those held are enough for what the jobs hold and for what came to their waits.
pub record ArePermitFunds (size : ℕ) (o : Semaphore) (held claims : ℕ) : Type 0 where
  pub way : o.way ≡ 0
  pub door : o.door ≡ []
  pub unbroken : o.spoiled ≡ []
  pub eager : (o.free ≡ 0) ⊎ (o.line ≡ [])
  pub total : o.held + o.free ≡ size
  pub backed : held + claims ≤ o.held

none-waits : (free less : ℕ) (line : List Waiting) → less ≤ free → (free ≡ 0) ⊎ (line ≡ []) → (less ≡ 0) ⊎ (line ≡ [])
none-waits free less line below (inl none) = inl (omega (arith, below, none))
none-waits free less line below (inr empty) = inr empty

pub funds-taken : (size : ℕ) (o : Semaphore) (h c h' : ℕ) → 0 < o.free → h' ≡ h + 1 → ArePermitFunds size o h c
    → ArePermitFunds size (after_take o) h' c
funds-taken size o h c h' some more funds = record {
  way = funds.way;
  door = funds.door;
  unbroken = funds.unbroken;
  eager = none-waits o.free (o.free - 1) o.line (omega arith) funds.eager;
  total = omega (arith, funds.total, some);
  backed = omega (arith, funds.backed, more);
}

pub funds-joined : (size : ℕ) (o : Semaphore) (h c c' k : ℕ) → o.free ≡ 0 → c' ≤ c → ArePermitFunds size o h c
    → ArePermitFunds size (after_enter (at_door o 0) 0 k) h c'
funds-joined size o h c c' k none fewer funds =
    subst (λ o. ArePermitFunds size o h c') (sym (joins-line o k funds.unbroken)) (record {
      way = funds.way;
      door = rw funds.door refl;
      unbroken = funds.unbroken;
      eager = inl none;
      total = funds.total;
      backed = omega (arith, funds.backed, fewer);
    })

pub funds-freed : (size : ℕ) (o : Semaphore) (h c h' : ℕ) → o.line ≡ [] → h' + 1 ≡ h → ArePermitFunds size o h c
    → ArePermitFunds size (record o { held = o.held - 1; free = o.free + 1 }) h' c
funds-freed size o h c h' empty less funds = record {
  way = funds.way;
  door = funds.door;
  unbroken = funds.unbroken;
  eager = inr empty;
  total = omega (arith, funds.total, funds.backed, less);
  backed = omega (arith, funds.backed, less);
}

none-free : (free : ℕ) (line : List Waiting) → line ≢ [] → (free ≡ 0) ⊎ (line ≡ []) → free ≡ 0
none-free free line some (inl none) = none
none-free free line some (inr empty) = absurd (some empty)

pub funds-sent : (size : ℕ) (o : Semaphore) (h c h' c' k : ℕ) → o.line ≢ [] → h' + 1 ≡ h → c' ≤ c + 1
    → ArePermitFunds size o h c
    → ArePermitFunds size (after_deliver (record o { held = o.held - 1; way = o.way + 1 }) k) h' c'
funds-sent size o h c h' c' k some less claims funds = record {
  way = omega (arith, funds.way);
  door = funds.door;
  unbroken = funds.unbroken;
  eager = inl (none-free o.free o.line some funds.eager);
  total = omega (arith, funds.total, funds.backed, less);
  backed = omega (arith, funds.backed, less, claims);
}

pub funds-closed : (size : ℕ) (o : Semaphore) (h c h' c' k : ℕ) → h' ≡ h + 1 → c' + 1 ≡ c → ArePermitFunds size o h c
    → ArePermitFunds size (after_look o k) h' c'
funds-closed size o h c h' c' k more less funds = record {
  way = funds.way;
  door = funds.door;
  unbroken = funds.unbroken;
  eager = funds.eager;
  total = funds.total;
  backed = omega (arith, funds.backed, more, less);
}

fewer-wait : (free k : ℕ) (line : List Waiting) → (free ≡ 0) ⊎ (line ≡ [])
    → (free ≡ 0) ⊎ (without (λ w. w.wait) k line ≡ [])
fewer-wait free k line (inl none) = inl none
fewer-wait free k line (inr empty) = inr (rw empty refl)

-- a permit turns back only where one is on its way
stays-away : (o : Semaphore) → o.way ≡ 0 → turned_back o ≡ o
stays-away o none = go (nat_lt (due o) o.way) refl
  where
    go : (b : Bool) → nat_lt (due o) o.way ≡ b → turned_back o ≡ o
    go false same = rw same refl
    go true same = let below : due o < o.way = ltb-true (due o) o.way same in absurd (omega (arith, below, none))

pub funds-left : (size : ℕ) (o : Semaphore) (h c c' k : ℕ) → c' ≤ c → ArePermitFunds size o h c
    → ArePermitFunds size (after_leave o k) h c'
funds-left size o h c c' k fewer funds =
    rw (stays-away (record o { line = without (λ w. w.wait) k o.line }) funds.way) (record {
      way = funds.way;
      door = funds.door;
      unbroken = funds.unbroken;
      eager = fewer-wait o.free k o.line funds.eager;
      total = funds.total;
      backed = omega (arith, funds.backed, fewer);
    })

pub funds-same : (size : ℕ) (o : Semaphore) (h c h' c' : ℕ) → h' ≡ h → c' ≤ c → ArePermitFunds size o h c
    → ArePermitFunds size o h' c'
funds-same size o h c h' c' same fewer funds = record {
  way = funds.way;
  door = funds.door;
  unbroken = funds.unbroken;
  eager = funds.eager;
  total = funds.total;
  backed = omega (arith, funds.backed, same, fewer);
}
