-- A queue read with each broken cell as one whose wait has left. Where every pass is idle, each broken cell was found
-- so by its suspend, so nothing comes to it any more, as nothing that is served comes to a cancelled one.
use Rattle.std.proofs.Common.{◌≡◌, ◌≢◌, ◌⊎◌, inl, inr, ℕ, suc, ◌+◌, ◌-◌, ◌<◌, ◌≤◌, Bool, true, false, List, [], ◌∷◌, Option, Some, None, length, map, slice_get, refl, ap, ap₂, sym, ◌∙◌, subst, arith}
use Rattle.std.proofs.lemmas.List.{length-map}
use Rattle.cqs_core.specs.declared.cells.CoreCell.{CoreCell}
use Rattle.cqs_core.specs.declared.cells.CoreState.{CoreState}
use Rattle.cqs_core.specs.declared.cells.CoreState.TheVariants as state
use Rattle.cqs_core.specs.declared.doings.Doing.{Doing}
use Rattle.cqs_core.specs.declared.doings.Doing.TheVariants as doing
use Rattle.cqs_core.specs.Numbered.{pick_each}
use Rattle.cqs_core.specs.QueueState.{Queue, owner_doing, is_refusing}
use Rattle.cqs_core.specs.QueueLine.{line, in_line, services, is_served, spoiled, has_left, is_unmet, going, ending, way, due, has_ready, ready}
use Rattle.cqs_core.specs.QueueSound.{IsSound, IsSoundAt, IsEntered}
use Rattle.cqs_core.specs.QueueCover.{IsCovered, is_declined, is_declined_at}
use Rattle.cqs_core.specs.QueueAsUnbroken.{unbroken_cell, unbroken_state, as_unbroken}
use Rattle.cqs_core.specs.Resting.{IsIdle}
use Rattle.cqs_core.specs.SemaphoreCores.{early}
use Rattle.cqs_core.proofs.Counts.{count_at-agree}
use Rattle.cqs_core.proofs.FirstOfWay.{ending-within}
use Rattle.cqs_core.proofs.Picked.{picked-same}
use Rattle.cqs_core.proofs.QueueAsUnbroken.{get-map, IsMapped, map-get, count_at-map, count_by-map, alike}
use Rattle.cqs_core.proofs.EitherFacts.{plain-passes}
use Rattle.cqs_core.proofs.Quiet.{IsQuietAt, quiet-cell, owner-idle, behind, none-going, ahead-cell}

abbrev pub cancelled_at : CoreState → CoreCell → CoreCell
cancelled_at state.Broken c = record { state = state.Cancelled; owner = c.owner; collected = false }
cancelled_at state.Empty c = c
cancelled_at state.Waiter c = c
cancelled_at state.Value c = c
cancelled_at state.Taken c = c
cancelled_at state.Resumed c = c
cancelled_at state.Cancelling c = c
cancelled_at state.Delegated c = c
cancelled_at state.Cancelled c = c
cancelled_at state.Refused c = c

abbrev pub cancelled_cell : CoreCell → CoreCell
cancelled_cell c = cancelled_at c.state c

abbrev pub as_cancelled : Queue → Queue
as_cancelled q = record q { cells = map cancelled_cell q.cells }

-- a cell that isn't broken reads as itself
pub whole-cell : (c : CoreCell) → c.state ≢ state.Broken → cancelled_cell c ≡ c
whole-cell c whole = go c.state refl
  where
    go : (st : CoreState) → c.state ≡ st → cancelled_at st c ≡ c
    go state.Broken is = absurd (whole is)
    go _ is = refl

pub cases_broken : (s : CoreState) → (s ≡ state.Broken) ⊎ (s ≢ state.Broken)
cases_broken state.Broken = inl refl
cases_broken _ = inr (λ e. absurd (cc))

-- what is the same of a broken cell and of a cancelled one is the same of each and its reading
read-same : {Y : Type 0} (f : CoreCell → Y) (c : CoreCell)
    → (c.state ≡ state.Broken → f (cancelled_at state.Broken c) ≡ f c) → f (cancelled_cell c) ≡ f c
read-same f c broken = go (cases_broken c.state)
  where
    go : (c.state ≡ state.Broken) ⊎ (c.state ≢ state.Broken) → f (cancelled_cell c) ≡ f c
    go (inl is) = ap (λ s. f (cancelled_at s c)) is ∙ broken is
    go (inr whole) = ap f (whole-cell c whole)

picked-map : {X Y Z : Type 0} (g : X → Y) (f : ℕ → Y → Option Z) (k : ℕ) (xs : List X)
    → pick_each f k (map g xs) ≡ pick_each (λ n x. f n (g x)) k xs
picked-map g f k [] = refl
picked-map g f k (x ∷ xs) = rw (picked-map g f (suc k) xs) refl

-- The reading shows the same, but for the broken numbers.
module _ (q : Queue) where
  pub line-cancelled : line (as_cancelled q) ≡ line q
  line-cancelled =
      picked-map cancelled_cell (in_line q.doing) 0 q.cells
      ∙ picked-same (λ n c. in_line q.doing n (cancelled_cell c)) (in_line q.doing)
      (λ n c. read-same (in_line q.doing n) c (λ is. rw is refl)) 0 q.cells

  pub services-cancelled : services (as_cancelled q) ≡ services q
  services-cancelled =
      picked-map cancelled_cell is_served 0 q.cells
      ∙ picked-same (λ n c. is_served n (cancelled_cell c)) is_served
      (λ n c. read-same (is_served n) c (λ is. rw is refl)) 0 q.cells

  pub ready-cancelled : ready (as_cancelled q) ≡ ready q
  ready-cancelled =
      count_by-map cancelled_cell has_ready has_ready q.cells (λ c. read-same has_ready c (λ is. rw is refl))

  pub going-cancelled : going (as_cancelled q) ≡ going q
  going-cancelled =
      let left = count_by-map cancelled_cell has_left has_left q.cells (λ c. read-same has_left c (λ is. rw is refl)) in
      omega (arith, left)

  pub ending-cancelled : ending (as_cancelled q) ≡ ending q
  ending-cancelled =
      let mapped = count_at-map cancelled_cell (is_unmet q.resumes q.doing) 0 q.cells in
      let agree =
      count_at-agree (λ n c. is_unmet q.resumes q.doing n (cancelled_cell c)) (is_unmet q.resumes q.doing) q.cells
      (λ k c found. read-same (is_unmet q.resumes q.doing k) c (λ is. rw is refl)) in
      omega (arith, mapped, agree)

  pub way-cancelled : way (as_cancelled q) ≡ way q
  way-cancelled = ap₂ (λ m n. m - n) going-cancelled ending-cancelled

-- What holds where every pass is idle.
module _ (q : Queue) (sound : IsSound (as_unbroken q)) (covered : IsCovered (as_unbroken q))
    (idle : IsIdle q.doing) where
  abbrev r : Queue
  r = as_cancelled q

  abbrev v : Queue
  v = as_unbroken q

  same-passes : v.doing ≡ q.doing
  same-passes = plain-passes q.doing (record { at = λ p d does. rw (idle.at p d does) tt })

  idle-unbroken : IsIdle v.doing
  idle-unbroken = subst (λ ds. IsIdle ds) (sym same-passes) idle

  -- nothing is on its way, and nothing is broken that its suspend hasn't found so
  pub record IsStill : Type 0 where
    pub behind : q.resumes ≤ q.suspends
    pub going : going q ≡ 0
    pub ending : ending q ≡ 0
    pub spoiled : spoiled q ≡ []
    pub early : early q ≡ 0
    pub ahead : (k : ℕ) (c : CoreCell) → slice_get q.cells k ≡ Some c → q.resumes ≤ k
        → (unbroken_state c.state c.collected ≡ state.Waiter) ⊎ (unbroken_state c.state c.collected ≡ state.Cancelled)

  none-long : {X : Type 0} (xs : List X) → length xs ≡ 0 → xs ≡ []
  none-long [] none = refl
  none-long (x ∷ xs) none = absurd (omega (arith, none))

  pub still : (short : ℕ) → going q + short + early q ≡ due q + ending q → IsStill
  still short balance =
      let same = alike q sound in
      let equation : going v + short ≡ due v + ending v =
      omega (arith, balance, same.going, same.ending, same.doors, same.line) in
      let within : q.resumes ≤ q.suspends = behind v sound idle-unbroken short equation in
      let none : going v ≡ 0 = none-going v sound idle-unbroken within in
      let few : ending v ≤ going v = ending-within v sound covered in
      let none_end : ending v ≡ 0 = omega (arith, few, none) in
      let whole : spoiled q ≡ [] = none-long (spoiled q) (omega (arith, same.going, none)) in
      record {
        behind = within;
        going = omega (arith, same.going, none);
        ending = omega (arith, same.ending, none_end);
        spoiled = whole;
        early = rw whole refl;
        ahead = λ k c found past.
            ahead-cell v sound idle-unbroken within none_end k (unbroken_cell c)
            (get-map unbroken_cell q.cells k c found)
            past;
      }

  entered-read : (k : ℕ) (c d : CoreCell) → d.owner ≡ c.owner → IsEntered v k c → IsEntered r k d
  entered-read k c d same is = record {
    drawn = is.drawn;
    pass = is.pass;
    owner = same ∙ is.owner;
    there = subst (λ (ds : List Doing). is.pass < length ds) same-passes is.there;
  }

  cell-sound : q.resumes ≤ q.suspends → (k : ℕ) (c : CoreCell) → slice_get q.cells k ≡ Some c
      → IsSoundAt r k (cancelled_cell c) (cancelled_cell c).state
  cell-sound within k c found = go c.state refl
    where
      there : slice_get v.cells k ≡ Some (unbroken_cell c)
      there = get-map unbroken_cell q.cells k c found

      sounds : (st : CoreState) → c.state ≡ st → IsSoundAt v k (unbroken_cell c) (unbroken_state st c.collected)
      sounds st is =
          subst (λ s. IsSoundAt v k (unbroken_cell c) (unbroken_state s c.collected)) is
          (sound.cells.at k (unbroken_cell c) there)

      rests : (st : CoreState) → c.state ≡ st → IsQuietAt v k (unbroken_cell c) (unbroken_state st c.collected)
      rests st is =
          subst (λ s. IsQuietAt v k (unbroken_cell c) (unbroken_state s c.collected)) is
          (quiet-cell v sound idle-unbroken k (unbroken_cell c) there)

      broken : (b : Bool) → c.collected ≡ b → c.state ≡ state.Broken
          → IsSoundAt r k (cancelled_at state.Broken c) state.Cancelled
      broken true collected is =
          let at : IsSoundAt v k (unbroken_cell c) state.Taken =
          subst (λ b. IsSoundAt v k (unbroken_cell c) (unbroken_state state.Broken b)) collected
          (sounds state.Broken is) in
          (entered-read k (unbroken_cell c) (cancelled_at state.Broken c) refl at.0, refl)
      broken false closes is =
          let at : IsQuietAt v k (unbroken_cell c) state.Value =
          subst (λ b. IsQuietAt v k (unbroken_cell c) (unbroken_state state.Broken b)) closes (rests state.Broken is) in
          absurd (omega (arith, at.0, at.1, within))

      go : (st : CoreState) → c.state ≡ st → IsSoundAt r k (cancelled_at st c) (cancelled_at st c).state
      go state.Broken is = broken c.collected refl is
      go state.Empty is = absurd (rests state.Empty is)
      go state.Waiter is =
          let at = sounds state.Waiter is in
          let quiet = rests state.Waiter is in
          rw is (entered-read k (unbroken_cell c) _ refl at.0, (λ below. absurd (omega (arith, quiet.1, below))), at.2)
      go state.Value is = let quiet = rests state.Value is in absurd (omega (arith, quiet.0, quiet.1, within))
      go state.Taken is =
          let at = sounds state.Taken is in rw is (entered-read k (unbroken_cell c) _ refl at.0, at.1, at.2)
      go state.Resumed is =
          let at = sounds state.Resumed is in rw is (entered-read k (unbroken_cell c) _ refl at.0, at.1)
      go state.Cancelling is = absurd (rests state.Cancelling is)
      go state.Delegated is = absurd (rests state.Delegated is)
      go state.Cancelled is =
          let at = sounds state.Cancelled is in rw is (entered-read k (unbroken_cell c) _ refl at.0, at.1)
      go state.Refused is =
          let at = sounds state.Refused is in rw is (entered-read k (unbroken_cell c) _ refl at.0, at.1)

  pub sound-cancelled : IsStill → IsSound r
  sound-cancelled rests = record {
    made =
        let long = length-map q.cells cancelled_cell in
        let long_v = length-map q.cells unbroken_cell in
        long ∙ (sym long_v ∙ sound.made);
    cells = record { at = λ k c got. at k c (map-get cancelled_cell q.cells k c got) };
    passes = record { at = λ p d does. rw (idle.at p d does) tt };
    apart = record { same = λ p o k here there. let no = idle.at p (doing.Ticket k) here in absurd (cc) };
  }
    where
      at : (k : ℕ) (c : CoreCell) → IsMapped cancelled_cell q.cells k c → IsSoundAt r k c c.state
      at k c from =
          subst (λ (x : CoreCell). IsSoundAt r k x x.state) from.is
          (cell-sound rests.behind k from.element from.there)

  not-refusing : (j : ℕ) (c : CoreCell) → is_refusing j (owner_doing q.doing c) ≡ true → ⊥
  not-refusing j c refuses = go (owner_doing q.doing c) refl refuses
    where
      go : (o : Option Doing) → owner_doing q.doing c ≡ o → is_refusing j o ≡ true → ⊥
      go None is refuses = absurd (cc)
      go (Some d) is refuses =
          let rests : d ≡ doing.Idle = owner-idle q.doing idle c d is in
          let no : is_refusing j (Some doing.Idle) ≡ true = subst (λ x. is_refusing j (Some x) ≡ true) rests refuses in
          absurd (cc)

  -- no cell that no resume has reached is declined
  none-declined : (j : ℕ) (c : CoreCell) (st : CoreState) → c.state ≡ st
      → (unbroken_state st c.collected ≡ state.Waiter) ⊎ (unbroken_state st c.collected ≡ state.Cancelled)
      → is_declined q.doing j (cancelled_at st c) ≡ true → ⊥
  none-declined j c state.Waiter is ahead declined =
      not-refusing j c (subst (λ s. is_declined_at j s (owner_doing q.doing c) ≡ true) is declined)
  none-declined j c state.Cancelled is ahead declined =
      not-refusing j c (subst (λ s. is_declined_at j s (owner_doing q.doing c) ≡ true) is declined)
  none-declined j c state.Broken is ahead declined = go c.collected ahead
    where
      go : (b : Bool)
          → (unbroken_state state.Broken b ≡ state.Waiter) ⊎ (unbroken_state state.Broken b ≡ state.Cancelled)
          → ⊥
      go true (inl e) = absurd (cc)
      go true (inr e) = absurd (cc)
      go false (inl e) = absurd (cc)
      go false (inr e) = absurd (cc)
  none-declined j c _ is (inl e) declined = absurd (cc)
  none-declined j c _ is (inr e) declined = absurd (cc)

  pub covered-cancelled : IsStill → IsCovered r
  covered-cancelled rests = record {
    at = λ j c got declined past. absurd (none j c (map-get cancelled_cell q.cells j c got) declined past);
  }
    where
      none : (j : ℕ) (c : CoreCell) → IsMapped cancelled_cell q.cells j c → is_declined q.doing j c ≡ true
          → q.resumes ≤ j → ⊥
      none j c from declined past =
          none-declined j from.element from.element.state refl (rests.ahead j from.element from.there past)
          (subst (λ (x : CoreCell). is_declined q.doing j x ≡ true) (sym from.is) declined)
