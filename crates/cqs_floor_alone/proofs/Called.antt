-- What a call of a desk comes to: one resource makes a call, and the ledger has what became of it.
use Rattle.std.proofs.Common.{◌≡◌, ℕ, ◌+◌, ◌-◌, ◌<◌, List, Option, Some, ap, get_or, length, set, slice_get, subst, sym, ◌∙◌, arith}
use Rattle.std.specs.Prelude.{slice_index}
use Rattle.std.proofs.lemmas.List.{get_or_read}
use Rattle.std.proofs.lemmas.Option.{get_or_from_slice_get}
use Rattle.cqs_rule_laws.specs.declared.config.Place.{Place}
use Rattle.cqs_floor_alone_kinds.specs.declared.waits.Wait.{Wait}
use Rattle.cqs_floor_alone_kinds.specs.Waits.{place_in, wait_for}
use Rattle.cqs_floor_alone.specs.declared.transfers.Transfer.{Transfer}
use Rattle.cqs_floor_alone.specs.DeskCalls.{Calls, HasAt}
use Rattle.cqs_floor_alone.specs.Ledger.{Ledger, with_soles}

module _ {X : Type 0} where
  -- what the desk has at a place, read there, has made a call
  pub called : (Makes : X → X → Type 0) {soles old : List X} {at : ℕ} {had after : X} {Can : X → Type 0}
      → soles ≡ old → HasAt old at Can → had ≡ get_or soles at had → Makes had after
      → Calls old at Makes (set soles at after)
  called Makes {soles} {old} {at} {had} {after} same has read made =
      let there : slice_get soles at ≡ Some has.sole =
      subst (λ xs. slice_get xs at ≡ Some has.sole) (sym same) has.there in
      record {
        sole = has.sole;
        there = has.there;
        after = after;
        made = subst (λ x. Makes x after) (read ∙ get_or_from_slice_get soles at has.sole had there) made;
        soles = ap (λ xs. set xs at after) same;
      }

  -- what the desk's ledger then has, part by part, is what the old ledger would have
  pub written : {l old : Ledger X} (next : Ledger X → Ledger X) {soles : List X} {room : List ℕ}
      {waits : List (Option Wait)} {rounds : List (List ℕ)} {transfers : List Transfer} {spare : ℕ}
      → l ≡ old → room ≡ (next l).room → waits ≡ (next l).waits → rounds ≡ (next l).rounds
      → transfers ≡ (next l).transfers → spare ≡ (next l).spare
      → record {
        kinds = (next l).kinds;
        soles = soles;
        room = room;
        waits = waits;
        rounds = rounds;
        transfers = transfers;
        spare = spare;
      } ≡ with_soles (next old) soles
  written {l} next {soles} same room waits rounds transfers spare =
      (λ i. record {
        kinds = (next l).kinds;
        soles = soles;
        room = room i;
        waits = waits i;
        rounds = rounds i;
        transfers = transfers i;
        spare = spare i;
      }) ∙ ap (λ m. with_soles (next m) soles) same

-- the room of a resource, read there, less one
pub less-room : {room old : List ℕ} {at n : ℕ} → room ≡ old → at < length old → n ≡ get_or room at n
    → set room at (n - 1) ≡ set room at (slice_index room at - 1)
less-room {room} {old} {at} {n} same place read =
    let below : at < length room = subst (λ xs. at < length xs) (sym same) place in
    ap (λ k. set room at (k - 1)) (get_or_read room at n below read 0)

-- memory for one transfer less
pub less-spare : (capacity long : ℕ) {next_capacity next_long : ℕ} → next_capacity ≡ capacity → next_long ≡ long + 1
    → next_capacity - next_long ≡ capacity - long - 1
less-spare capacity long same more = omega arith

-- the slots of the waits with one more, of this resource and this round, whose cell stands there
pub more-waits : (slots : List (Option Wait)) (job : ℕ) {next : List (Option Wait)} {at round : ℕ} {wait : Wait}
    {place : Place}
    → next ≡ set slots job (Some wait) → wait.at ≡ at → wait.round ≡ round → place_in wait ≡ place
    → next ≡ set slots job (Some (wait_for at round place))
more-waits slots job {next} {at} {round} {wait} {place} put there in_round stands =
    let same : wait ≡ wait_for at round place =
    λ i. record { at = there i; round = in_round i; word = (stands i).word; index = (stands i).index } in
    put ∙ ap (λ w. set slots job (Some w)) same
