-- Where one caller alone has made calls: no other pass is busy, and where elements may lie.
use Rattle.std.proofs.Common.{◌≡◌, ◌≢◌, ◌⊎◌, inl, inr, ℕ, ◌<◌, ◌≤◌, Bool, true, false, List, [], ◌∷◌, ◌++◌, Some, set, slice_get, refl, ap, sym, ◌∙◌, arith}
use Rattle.std.specs.Option.{option_and_then}
use Rattle.std.proofs.lemmas.Bool.{cases_eq}
use Rattle.std.proofs.lemmas.Option.{same_Some}
use Rattle.std.proofs.lemmas.List.Elements.{filter-append}
use Rattle.cqs_core.specs.declared.cells.CoreCell.{CoreCell}
use Rattle.cqs_core.specs.declared.cells.CoreState.{CoreState}
use Rattle.cqs_core.specs.declared.cells.CoreState.TheVariants as state
use Rattle.cqs_core.specs.declared.doings.Doing.{Doing}
use Rattle.cqs_core.specs.declared.doings.Doing.TheVariants as doing
use Rattle.cqs_core.specs.Numbered.{EachAt}
use Rattle.cqs_core.specs.Parts.{part}
use Rattle.cqs_core.specs.QueueLine.{is_left}
use Rattle.cqs_core.specs.QueueSound.{IsSound, IsSoundAt, IsUninstalled, IsLeft}
use Rattle.cqs_core.specs.QueueState.{Queue, owner_doing}
use Rattle.cqs_core.proofs.EachAtLemmas.{EachAt-write, EachAt-push}
use Rattle.cqs_pool_object.specs.declared.entries.PoolEntry.{PoolEntry}
use Rattle.cqs_pool_object.specs.PoolNames.{entry_names}
use Rattle.cqs_pool_object.specs.PoolOrder.{IsByOne}

-- who made the calls
append-none : {A : Type 0} (xs ys : List A) → xs ++ ys ≡ [] → (xs ≡ []) × (ys ≡ [])
append-none [] ys none = (refl, none)
append-none (x ∷ xs) ys none = absurd (cc)

pub by-both : (one : ℕ) (h es : List PoolEntry) → IsByOne one (h ++ es) → IsByOne one h × IsByOne one es
by-both one h es by = (λ n other. (both n other).0, λ n other. (both n other).1)
  where
    both : (n : ℕ) → n ≢ one → (part entry_names n h ≡ []) × (part entry_names n es ≡ [])
    both n other =
        append-none (part entry_names n h) (part entry_names n es)
        (sym (filter-append (entry_names n) h es) ∙ by n other)

pub named-one : (p one : ℕ) (e : PoolEntry) → entry_names p e ≡ true → IsByOne one (e ∷ []) → p ≡ one
named-one p one e names by = go (cases_eq p one)
  where
    go : (p ≡ one) ⊎ (p ≢ one) → p ≡ one
    go (inl same) = same
    go (inr other) =
        let none : part entry_names p (e ∷ []) ≡ [] = by p other in
        let some : part entry_names p (e ∷ []) ≡ e ∷ [] = rw names refl in
        absurd (cc)

abbrev pub OthersRest : ℕ → List Doing → Type 0
OthersRest one passes = EachAt (λ n d. n ≢ one → d ≡ doing.Idle) passes

pub busy-one : (passes : List Doing) (p one : ℕ) (d : Doing) → OthersRest one passes → slice_get passes p ≡ Some d
    → (d ≡ doing.Idle → ⊥) → p ≡ one
busy-one passes p one d others does busy = go (cases_eq p one)
  where
    go : (p ≡ one) ⊎ (p ≢ one) → p ≡ one
    go (inl same) = same
    go (inr other) = absurd (busy (others.at p d does other))

pub others-set : (passes : List Doing) (p : ℕ) (d to : Doing) → slice_get passes p ≡ Some d → OthersRest p passes
    → OthersRest p (set passes p to)
others-set passes p d to does others =
    EachAt-write (λ n x. n ≢ p → x ≡ doing.Idle) (λ n x. n ≢ p → x ≡ doing.Idle) passes p d to does
    (λ other. absurd (other refl)) (λ n x got other is. is) others

abbrev pub Undelegated : List CoreCell → Type 0
Undelegated cells = EachAt (λ k (cell : CoreCell). cell.state ≢ state.Delegated) cells

pub undelegated-set : (cells : List CoreCell) (k : ℕ) (found new : CoreCell) → slice_get cells k ≡ Some found
    → new.state ≢ state.Delegated → Undelegated cells → Undelegated (set cells k new)
undelegated-set cells k found new there not all =
    EachAt-write (λ j (c : CoreCell). c.state ≢ state.Delegated) (λ j (c : CoreCell). c.state ≢ state.Delegated) cells
    k found new there not (λ j x got other is. is) all

pub undelegated-push : (cells : List CoreCell) (new : CoreCell) → new.state ≢ state.Delegated → Undelegated cells
    → Undelegated (cells ++ new ∷ [])
undelegated-push cells new not all =
    EachAt-push (λ j (c : CoreCell). c.state ≢ state.Delegated) (λ j (c : CoreCell). c.state ≢ state.Delegated) cells
    new not (λ j x got is. is) all

-- an owner of an uninstalled cell is about to install there
owner-draws : (q : Queue) (k : ℕ) (cell : CoreCell) (pass : ℕ) (d : Doing) → cell.owner ≡ Some pass
    → owner_doing q.doing cell ≡ Some d → slice_get q.doing pass ≡ Some d
owner-draws q k cell pass d owner does =
    sym (ap (λ o. option_and_then (λ p. slice_get q.doing p) o) owner) ∙ does

module _ (q : Queue) (sound : IsSound q) (p : ℕ) (others : OthersRest p q.doing) where
  -- a value in a cell that a suspend has drawn is the one that the pass is about to take
  pub value-drawn : (j : ℕ) (cell : CoreCell) → IsUninstalled q j cell → j < q.suspends
      → slice_get q.doing p ≡ Some (doing.Drawn j)
  value-drawn j cell (inl (entered, drawn)) low =
      let does = owner-draws q j cell entered.pass (doing.Drawn j) entered.owner drawn in
      let is : entered.pass ≡ p = busy-one q.doing entered.pass p (doing.Drawn j) others does (λ e. absurd (cc)) in
      ap (slice_get q.doing) (sym is) ∙ does
  value-drawn j cell (inr (past, none)) low = absurd (omega arith)

  pub none-left : (k j : ℕ) (cell : CoreCell) (s : CoreState) → slice_get q.doing p ≡ Some (doing.Drawn k) → j ≢ k
      → j < q.suspends → IsSoundAt q j cell s → s ≢ state.Delegated → is_left s ≡ false
  none-left k j cell state.Value does other low is not =
      let drawn : slice_get q.doing p ≡ Some (doing.Drawn j) = value-drawn j cell is.0 low in
      let same : doing.Drawn j ≡ doing.Drawn k = same_Some (doing.Drawn j) (doing.Drawn k) (sym drawn ∙ does) in
      absurd (other (drawn-number same))
    where
      drawn-number : {m n : ℕ} → doing.Drawn m ≡ doing.Drawn n → m ≡ n
      drawn-number e = cc
  none-left k j cell state.Delegated does other low is not = absurd (not refl)
  none-left k j cell state.Empty does other low is not = refl
  none-left k j cell state.Waiter does other low is not = refl
  none-left k j cell state.Taken does other low is not = refl
  none-left k j cell state.Broken does other low is not = refl
  none-left k j cell state.Resumed does other low is not = refl
  none-left k j cell state.Cancelling does other low is not = refl
  none-left k j cell state.Cancelled does other low is not = refl
  none-left k j cell state.Refused does other low is not = refl

  -- nor is anything left in a cell that no resume has reached
  pub none-past : (j : ℕ) (cell : CoreCell) (s : CoreState) → q.resumes ≤ j → IsSoundAt q j cell s
      → s ≢ state.Delegated → is_left s ≡ false
  none-past j cell state.Value past is not = absurd (omega (arith, is.1))
  none-past j cell state.Delegated past is not = absurd (not refl)
  none-past j cell state.Empty past is not = refl
  none-past j cell state.Waiter past is not = refl
  none-past j cell state.Taken past is not = refl
  none-past j cell state.Broken past is not = refl
  none-past j cell state.Resumed past is not = refl
  none-past j cell state.Cancelling past is not = refl
  none-past j cell state.Cancelled past is not = refl
  none-past j cell state.Refused past is not = refl

  -- a resumption of the one caller finds no cell of a canceller
  pub none-cancelling : (k j : ℕ) (cell : CoreCell) → slice_get q.doing p ≡ Some (doing.Ticket k) → IsLeft q j cell → ⊥
  none-cancelling k j cell does left = go left.stage
    where
      own : (d : Doing) → owner_doing q.doing cell ≡ Some d → (d ≡ doing.Idle → ⊥) → doing.Ticket k ≡ d
      own d is busy =
          let there = owner-draws q j cell left.entered.pass d left.entered.owner is in
          let same : left.entered.pass ≡ p = busy-one q.doing left.entered.pass p d others there busy in
          same_Some (doing.Ticket k) d (sym does ∙ ap (slice_get q.doing) (sym same) ∙ there)

      go : (owner_doing q.doing cell ≡ Some (doing.Leaving j))
          ⊎ ((on : Bool) × (owner_doing q.doing cell ≡ Some (doing.Decided j on))) → ⊥
      go (inl leaving) = let is = own (doing.Leaving j) leaving (λ e. absurd (cc)) in absurd (cc)
      go (inr (on, decided)) = let is = own (doing.Decided j on) decided (λ e. absurd (cc)) in absurd (cc)
