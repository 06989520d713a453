-- What a ledger keeps after a call at one resource.
use Rattle.std.proofs.Common.{◌≡◌, ◌≢◌, ◌⊎◌, inl, inr, ℕ, zero, suc, ◌≤◌, List, [], ◌∷◌, Some, length, map, set, get_or, slice_get, ap, sym, ◌∙◌, subst, length-set, Option}
use Rattle.std.specs.Prelude.{slice_index}
use Rattle.std.proofs.lemmas.Bool.{cases_eq}
use Rattle.std.proofs.lemmas.List.{map-set}
use Rattle.cqs_core.specs.Numbered.{EachAt}
use Rattle.cqs_core.proofs.EachAtLemmas.{EachAt-write}
use Rattle.cqs_core.proofs.Places.{get-set_here, get-set_else}
use Rattle.cqs_plan.specs.declared.plans.kind.Kind.{Kind}
use Rattle.cqs_plan.specs.Validity.{IsKind}
use Rattle.cqs_plan.specs.FloorHistory.{History, of_permits, Deed, with_deed_in}
use Rattle.cqs_floor_common.specs.Holdings.{held_at}
use Rattle.cqs_floor_alone_kinds.specs.declared.waits.Wait.{Wait}
use Rattle.cqs_floor_alone.specs.Kept.{IsKept, IsFundedAt, StandsIn, AreApart, waiting_at, transfers_to_come}
use Rattle.cqs_floor_alone.specs.Ledger.{Ledger, holds_in}
use Rattle.cqs_floor_alone_kinds.specs.Stores.{Store}
use Rattle.cqs_floor_alone_kinds.specs.Waits.{place_in}
use Rattle.cqs_floor_alone.proofs.Resources.{history-there}

module _ {X : Type 0} (s : Store X) where
  -- the same funds, in other words
  pub funded-as : (x : X) (kind : Option Kind) {r r' w w' : ℕ} {h h' : List (List ℕ)} → r ≡ r' → w ≡ w' → h ≡ h'
      → s.funded x kind r w h → s.funded x kind r' w' h'
  funded-as x kind {r} {r'} {w} {w'} {h} {h'} room waiting held funded =
      subst (λ n. s.funded x kind n w' h') room
      (subst (λ n. s.funded x kind r n h') waiting (subst (λ n. s.funded x kind r w n) held funded))

  -- after a call at a place: what is kept there is another, and what is counted of the other resources is as it was
  pub record Follows (l : Ledger X) (at : ℕ) (sole after : X) (n : Ledger X) : Type 0 where
    pub there : slice_get l.soles at ≡ Some sole
    pub kinds : n.kinds ≡ l.kinds
    pub soles : n.soles ≡ set l.soles at after
    pub rooms : length n.room ≡ length l.room
    pub funded : IsFundedAt s n at after
    pub room : (i : ℕ) → i ≢ at → slice_index n.room i ≡ slice_index l.room i
    pub waiting : (i : ℕ) → i ≢ at → waiting_at n.waits i ≡ waiting_at l.waits i
    pub held : (i : ℕ) → i ≢ at → held_at (holds_in n) i ≡ held_at (holds_in l) i
    pub waits : (job : ℕ) (wait : Wait) → slice_get n.waits job ≡ Some (Some wait)
        → StandsIn s (set l.soles at after) wait
    pub apart : AreApart n.waits
    pub spare : transfers_to_come n ≤ n.spare

  pub kept-next : (l n : Ledger X) (at : ℕ) (sole after : X) → IsKept s l → Follows l at sole after n → IsKept s n
  kept-next l n at sole after kept f = record {
    soles = ap (λ (xs : List X). length xs) f.soles ∙ length-set l.soles at after ∙ kept.soles
        ∙ ap (λ (ks : List Kind). length ks) (sym f.kinds);
    rooms = f.rooms ∙ kept.rooms ∙ ap (λ (ks : List Kind). length ks) (sym f.kinds);
    sized = subst (λ (ks : List Kind). EachAt (λ place kind. IsKind kind) ks) (sym f.kinds) kept.sized;
    funded = subst (λ (xs : List X). EachAt (IsFundedAt s n) xs) (sym f.soles)
        (EachAt-write (IsFundedAt s l) (IsFundedAt s n) l.soles at sole after f.there f.funded others kept.funded);
    waits = λ job wait got. subst (λ (xs : List X). StandsIn s xs wait) (sym f.soles) (f.waits job wait got);
    apart = f.apart;
    spare = f.spare;
  }
    where
      others : (i : ℕ) (x : X) → slice_get l.soles i ≡ Some x → i ≢ at → IsFundedAt s l i x → IsFundedAt s n i x
      others i x got other was =
          subst (λ (ks : List Kind). s.funded x (slice_get ks i) (slice_index n.room i)
          (waiting_at n.waits i) (held_at (holds_in n) i)) (sym f.kinds)
          (funded-as x _ (sym (f.room i other)) (sym (f.waiting i other)) (sym (f.held i other)) was)

  -- a wait stands on where it stands on in what made the call
  pub stands-on : (soles : List X) (at : ℕ) (sole after : X) (wait : Wait) → slice_get soles at ≡ Some sole
      → (wait.at ≡ at → s.has sole wait.round (place_in wait) → s.has after wait.round (place_in wait))
      → StandsIn s soles wait → StandsIn s (set soles at after) wait
  stands-on soles at sole after wait there on stands = go (cases_eq wait.at at)
    where
      go : (wait.at ≡ at) ⊎ (wait.at ≢ at) → StandsIn s (set soles at after) wait
      go (inl same) =
          let is : Some stands.sole ≡ Some sole = sym stands.there ∙ ap (slice_get soles) same ∙ there in
          let here : stands.sole ≡ sole = cc in
          record {
            sole = after;
            there = ap (slice_get (set soles at after)) same ∙ get-set_here soles at sole after there;
            has = on same (subst (λ (x : X). s.has x wait.round (place_in wait)) here stands.has);
          }
      go (inr other) =
          record {
            sole = stands.sole;
            there = get-set_else soles at wait.at after (λ e. other (sym e)) ∙ stands.there;
            has = stands.has;
          }

  -- what happened to all, with more at one
  pub histories-next : (soles : List X) (at : ℕ) (sole after : X) (size round : ℕ) (deed : Deed)
      → slice_get soles at ≡ Some sole → s.history after ≡ with_deed_in size (s.history sole) round deed
      → map s.history (set soles at after)
      ≡ set (map s.history soles) at
      (with_deed_in size (get_or (map s.history soles) at (of_permits [])) round deed)
  histories-next soles at sole after size round deed there done =
      map-set s.history soles at after
      ∙ ap (set (map s.history soles) at)
      (done ∙ ap (λ h. with_deed_in size h round deed) (sym (history-there s soles at sole there)))

  -- what happened to all, with nothing more
  pub histories-same : (soles : List X) (at : ℕ) (sole after : X) → slice_get soles at ≡ Some sole
      → s.history after ≡ s.history sole → map s.history (set soles at after) ≡ map s.history soles
  histories-same [] at sole after there same = absurd (cc)
  histories-same (x ∷ soles) zero sole after there same =
      let is : x ≡ sole = cc in
      ap (λ (h : History). h ∷ map s.history soles) (same ∙ ap s.history (sym is))
  histories-same (x ∷ soles) (suc at) sole after there same =
      ap (λ hs. s.history x ∷ hs) (histories-same soles at sole after there same)

module _ {X : Type 0} (s : Store X) where
  -- the rounds in which jobs arrive next are no part of what is kept
  pub kept-rounds : (l : Ledger X) (rounds : List (List ℕ)) → IsKept s l → IsKept s (record l { rounds = rounds })
  kept-rounds l rounds kept = record {
    soles = kept.soles;
    rooms = kept.rooms;
    sized = kept.sized;
    funded = record { at = kept.funded.at };
    waits = kept.waits;
    apart = kept.apart;
    spare = kept.spare;
  }
