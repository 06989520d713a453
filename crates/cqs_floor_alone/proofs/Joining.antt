-- A job joins the line of a resource, at a barrier in its round: what that leaves.
use Rattle.std.proofs.Common.{◌≡◌, ◌≢◌, ◌⊎◌, inl, inr, ℕ, ◌+◌, ◌-◌, ◌<◌, ◌==◌, Some, None, is_some, length, set, get_or, slice_get, sum, sum_by, count_by, refl, ap, sym, ◌∙◌, subst, length-set, arith, Option}
use Rattle.std.specs.Prelude.{slice_index}
use Rattle.std.specs.Option.{option_map}
use Rattle.std.proofs.lemmas.Bool.{cases_eq}
use Rattle.std.proofs.lemmas.List.{map-set, get_or-set_same, get_or-set_other}
use Rattle.cqs_plan.specs.declared.plans.kind.Kind.{Kind}
use Rattle.cqs_core.proofs.CoreSteps.{loses-sum}
use Rattle.cqs_core.proofs.Counts.{bit}
use Rattle.cqs_core.proofs.Places.{get-set_here, get-set_else, get-there}
use Rattle.cqs_plan.specs.FloorHistory.{joins}
use Rattle.cqs_plan.specs.Floor.{JobWait, size_of, with_done_in, with_less_room, with_wait}
use Rattle.cqs_rule_laws.specs.declared.config.Place.{Place}
use Rattle.cqs_turns_report.proofs.StepCounts.{bit-same, bit-other}
use Rattle.cqs_floor_common.specs.Holdings.{held_at}
use Rattle.cqs_floor_alone_kinds.specs.declared.waits.Wait.{Wait}
use Rattle.cqs_floor_alone.specs.Kept.{IsKept, IsFundedAt, StandsIn, waiting_at, is_wait_at}
use Rattle.cqs_floor_alone.specs.Ledger.{Ledger, plain_floor, with_waiting, with_soles, job_wait, holds_in, holds_after}
use Rattle.cqs_floor_alone_kinds.specs.Stores.{Store, IsLawful, Joins, stands_in}
use Rattle.cqs_floor_alone_kinds.specs.Waits.{place_in, wait_for}
use Rattle.cqs_floor_alone.proofs.Holdings.{count-set}
use Rattle.cqs_floor_alone.proofs.KeptNext.{funded-as, kept-next, stands-on, histories-next}

-- One take, wait or arrival of a resource less has room.
module _ {X : Type 0} (l : Ledger X) (at : ℕ) where
  pub room-here : at < length l.room
      → slice_index (set l.room at (slice_index l.room at - 1)) at ≡ slice_index l.room at - 1
  room-here place = get_or-set_same l.room at (slice_index l.room at - 1) 0 place

  pub room-else : (i : ℕ) → i ≢ at
      → slice_index (set l.room at (slice_index l.room at - 1)) i ≡ slice_index l.room i
  room-else i other = get_or-set_other l.room at i (slice_index l.room at - 1) 0 other

  pub fewer-room : at < length l.room → 0 < slice_index l.room at
      → sum (set l.room at (slice_index l.room at - 1)) + 1 ≡ sum l.room
  fewer-room place room = loses-sum l.room at place room

-- An idle job, and a resource with room whose line it joins.
module _ {X : Type 0} (s : Store X) (lawful : IsLawful s) (l : Ledger X) (at job round : ℕ) (kept : IsKept s l)
    (place : at < length l.room) (room : 0 < slice_index l.room at) (waiter : job < length l.waits)
    (idle : get_or l.waits job None ≡ None) (cell : Place) (sole after : X)
    (there : slice_get l.soles at ≡ Some sole)
    (joined : Joins s round cell (slice_get l.kinds at) (slice_index l.room at) (waiting_at l.waits at)
    (held_at (holds_in l) at) sole after) where
  abbrev kind : Option Kind
  kind = slice_get l.kinds at

  abbrev wait : Wait
  wait = wait_for at round cell

  abbrev pub later : Ledger X
  later = with_soles (with_waiting l at job round cell) (set l.soles at after)

  same-holds : holds_in later ≡ holds_in l
  same-holds = ap (λ n. holds_after n l.transfers) (length-set l.waits job (Some wait))

  -- what stands at a place of the waits: the new one, or one that was there
  stands-at : (j : ℕ) (w : Wait) → slice_get (set l.waits job (Some wait)) j ≡ Some (Some w)
      → ((j ≡ job) × (wait ≡ w)) ⊎ ((j ≢ job) × (slice_get l.waits j ≡ Some (Some w)))
  stands-at j w got = go (cases_eq j job)
    where
      go : (j ≡ job) ⊎ (j ≢ job)
          → ((j ≡ job) × (wait ≡ w)) ⊎ ((j ≢ job) × (slice_get l.waits j ≡ Some (Some w)))
      go (inl same) =
          let was = get-there l.waits job waiter in
          let now : Some (Some wait) ≡ Some (Some w) =
          sym (get-set_here l.waits job was.0 (Some wait) was.1)
          ∙ ap (slice_get (set l.waits job (Some wait))) (sym same) ∙ got in
          let is : wait ≡ w = cc in
          inl (same, is)
      go (inr other) =
          inr (other, sym (get-set_else l.waits job j (Some wait) (λ e. other (sym e))) ∙ got)

  funded : IsFundedAt s l at sole
  funded = kept.funded.at at sole there

  -- no job has the new wait before
  fresh-wait : (j : ℕ) (w : Wait) → slice_get l.waits j ≡ Some (Some w) → job_wait wait ≢ job_wait w
  fresh-wait j w got same =
      let stands : StandsIn s l.soles w = kept.waits j w got in
      let here : w.at ≡ at = ap (λ (x : JobWait). x.at) (sym same) in
      let found : Some stands.sole ≡ Some sole = sym stands.there ∙ ap (slice_get l.soles) here ∙ there in
      let is : stands.sole ≡ sole = cc in
      let has : s.has sole w.round (place_in w) = subst (λ (x : X). s.has x w.round (place_in w)) is stands.has in
      let below = lawful.numbered sole w.round (place_in w) kind _ _ _ funded has in
      let in_round : (stands_in s kind sole w.round).next ≡ (stands_in s kind sole round).next =
      ap (λ r. (stands_in s kind sole r).next) (ap (λ (x : JobWait). x.round) (sym same)) in
      let next : cell.index ≡ w.index = ap (λ (x : JobWait). x.number) same in
      absurd (omega (arith, below, in_round, next, joined.number))

  pub kept-later : IsKept s later
  kept-later = kept-next s l later at sole after kept (record {
    there = there;
    kinds = refl;
    soles = refl;
    rooms = length-set l.room at _;
    funded = funded-as s after _ (sym (room-here l at place)) (sym waiting-here) (sym held-here) joined.goes.funded;
    room = room-else l at;
    waiting = λ i other. omega (arith, waiting-after i, bit-other at i (λ e. other (sym e)));
    held = λ i other. ap (λ hs. held_at hs i) same-holds;
    waits = λ j w got. waits j w (stands-at j w got);
    apart = record {
      same = λ i j v w one two same. apart i j v w same (stands-at i v one) (stands-at j w two);
    };
    spare = omega (arith, kept.spare, fewer-room l at place room, many, more);
  })
    where
      waiting-after : (i : ℕ) → waiting_at later.waits i ≡ waiting_at l.waits i + bit (at == i)
      waiting-after i =
          let changed : waiting_at (set l.waits job (Some wait)) i + 0
          ≡ waiting_at l.waits i + bit (at == i) =
          count-set (is_wait_at i) l.waits job None (Some wait) None waiter idle in
          omega (arith, changed)

      waiting-here : waiting_at later.waits at ≡ waiting_at l.waits at + 1
      waiting-here = omega (arith, waiting-after at, bit-same at)

      held-here : held_at (holds_in later) at ≡ held_at (holds_in l) at
      held-here = ap (λ hs. held_at hs at) same-holds

      many : sum_by (λ hs. length hs) (holds_in later) ≡ sum_by (λ hs. length hs) (holds_in l)
      many = ap (λ hss. sum_by (λ hs. length hs) hss) same-holds

      more : count_by (λ w. is_some w) later.waits ≡ count_by (λ w. is_some w) l.waits + 1
      more =
          let changed : count_by (λ w. is_some w) later.waits + 0 ≡ count_by (λ w. is_some w) l.waits + 1 =
          count-set (λ w. is_some w) l.waits job None (Some wait) None waiter idle in
          omega (arith, changed)

      waits : (j : ℕ) (w : Wait)
          → ((j ≡ job) × (wait ≡ w)) ⊎ ((j ≢ job) × (slice_get l.waits j ≡ Some (Some w)))
          → StandsIn s (set l.soles at after) w
      waits j w (inl (same, is)) =
          let new : StandsIn s (set l.soles at after) wait =
          record { sole = after; there = get-set_here l.soles at sole after there; has = joined.has } in
          subst (λ (x : Wait). StandsIn s (set l.soles at after) x) is new
      waits j w (inr (other, was)) =
          stands-on s l.soles at sole after w there (λ same stands. joined.keeps w.round (place_in w) stands)
          (kept.waits j w was)

      apart : (i j : ℕ) (v w : Wait) → job_wait v ≡ job_wait w
          → ((i ≡ job) × (wait ≡ v)) ⊎ ((i ≢ job) × (slice_get l.waits i ≡ Some (Some v)))
          → ((j ≡ job) × (wait ≡ w)) ⊎ ((j ≢ job) × (slice_get l.waits j ≡ Some (Some w))) → i ≡ j
      apart i j v w same (inl (here, is)) (inl (too, also)) = here ∙ sym too
      apart i j v w same (inl (here, is)) (inr (other, was)) =
          absurd (fresh-wait j w was (ap job_wait is ∙ same))
      apart i j v w same (inr (other, was)) (inl (too, also)) =
          absurd (fresh-wait i v was (ap job_wait also ∙ sym same))
      apart i j v w same (inr (other, was)) (inr (too, also)) = kept.apart.same i j v w was also same

  pub plain-later : plain_floor s later
      ≡ with_wait (with_done_in (with_less_room (plain_floor s l) at) at round (joins cell.index)) job
      (Some (record { at = at; round = round; number = cell.index }))
  plain-later =
      let histories = histories-next s l.soles at sole after (size_of kind) round
      (joins (stands_in s kind sole round).next) there joined.goes.done in
      let waits = map-set (option_map job_wait) l.waits job (Some wait) in
      rw (histories, waits, same-holds, joined.number) refl
