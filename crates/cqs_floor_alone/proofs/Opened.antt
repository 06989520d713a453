-- A floor on resources of any kind as it is made: all is kept, and it is the plain floor on which nothing has happened.
use Rattle.std.proofs.Common.{◌≡◌, ℕ, zero, suc, ◌<◌, List, [], ◌∷◌, Option, Some, None, is_some, length, map, replicate, slice_get, sum_by, count_by, refl, ap, ap₂, sym, ◌∙◌, subst, cond, arith}
use Rattle.std.specs.Prelude.{slice_index}
use Rattle.std.specs.Option.{option_map}
use Rattle.std.proofs.lemmas.List.{length-replicate, length-map}
use Rattle.std.proofs.lemmas.List.Folds.{sum_by-replicate}
use Rattle.std.proofs.lemmas.List.FromFn.{length-map-range_with_len}
use Rattle.std.proofs.lemmas.Option.{slice_get-map}
use Rattle.cqs_core.proofs.Places.{get-below, get-there}
use Rattle.cqs_core.specs.Numbered.{EachAt}
use Rattle.cqs_plan.specs.Validity.{IsKind}
use Rattle.cqs_plan.specs.Runnable.{kinds_of}
use Rattle.cqs_plan.specs.declared.plans.kind.Kind.{Kind}
use Rattle.cqs_plan.specs.declared.plans.plan.Plan.{Plan}
use Rattle.cqs_plan.specs.declared.plans.resource.Resource.{Resource}
use Rattle.cqs_plan.specs.FloorHistory.{History, no_history}
use Rattle.cqs_plan.specs.Floor.{Holding, opening_floor, room_for}
use Rattle.cqs_floor_common.specs.Holdings.{held_at}
use Rattle.cqs_floor_alone_kinds.specs.declared.waits.Wait.{Wait}
use Rattle.cqs_floor_alone.specs.Kept.{IsKept, IsFundedAt, is_wait_at, waiting_at}
use Rattle.cqs_floor_alone.specs.Ledger.{Ledger, holds_after, holds_in, job_wait, plain_floor}
use Rattle.cqs_floor_alone.specs.Opening.{AreSized, IsOpening}
use Rattle.cqs_floor_alone_kinds.specs.Stores.{Store, IsOpened}
use Rattle.cqs_floor_alone.proofs.KeptNext.{funded-as}
use Rattle.cqs_floor_alone_kinds.proofs.Replicated.{replicate-all}

-- nobody waits, and nobody holds anything
waiting-none : (jobs at : ℕ) → count_by (is_wait_at at) (replicate jobs None) ≡ 0
waiting-none jobs at =
    omega (arith, sum_by-replicate (λ (w : Option Wait). cond (is_wait_at at w) 1 0) jobs None)

some-none : (jobs : ℕ) → count_by (λ (w : Option Wait). is_some w) (replicate jobs None) ≡ 0
some-none jobs = omega (arith, sum_by-replicate (λ (w : Option Wait). cond (is_some w) 1 0) jobs None)

held-none : (jobs at : ℕ) → held_at (replicate jobs []) at ≡ replicate jobs []
held-none zero at = refl
held-none (suc jobs) at = ap (λ held. [] ∷ held) (held-none jobs at)

many-none : (jobs : ℕ) → sum_by (λ (hs : List Holding). length hs) (replicate jobs []) ≡ 0
many-none jobs = omega (arith, sum_by-replicate (λ (hs : List Holding). length hs) jobs [])

-- the kinds of resources that are in their ranges are
sized-at : (resources : List Resource)
    → ((at : ℕ) (r : Resource) → slice_get resources at ≡ Some r → IsKind r.kind)
    → (at : ℕ) (kind : Kind) → slice_get (kinds_of resources) at ≡ Some kind → IsKind kind
sized-at [] each at kind got = absurd (cc)
sized-at (r ∷ resources) each zero kind got =
    let is : r.kind ≡ kind = cc in
    subst IsKind is (each 0 r refl)
sized-at (r ∷ resources) each (suc at) kind got =
    sized-at resources (λ i q named. each (suc i) q named) at kind got

module _ {X : Type 0} (s : Store X) (plan : Plan) (l : Ledger X) (o : IsOpening s plan l) where
  -- the ledger's lists, as they are made
  holds-none : holds_in l ≡ replicate (length plan.jobs) []
  holds-none =
      ap₂ holds_after
      (ap (λ (ws : List (Option Wait)). length ws) o.waits ∙ length-replicate (length plan.jobs) None)
      o.transfers

  room-long : length l.room ≡ length plan.resources
  room-long =
      ap (λ (ns : List ℕ). length ns) o.room ∙ length-map-range_with_len (room_for plan) 0 (length plan.resources)

  kinds-long : length l.kinds ≡ length plan.resources
  kinds-long =
      ap (λ (ks : List Kind). length ks) o.kinds ∙ length-map plan.resources (λ (r : Resource). r.kind)

  kind-at : (at : ℕ) (r : Resource) → slice_get plan.resources at ≡ Some r → slice_get l.kinds at ≡ Some r.kind
  kind-at at r named =
      ap (λ ks. slice_get ks at) o.kinds ∙ slice_get-map (λ (x : Resource). x.kind) plan.resources at
      ∙ ap (option_map (λ (x : Resource). x.kind)) named

  -- the semaphore of a resource, as it is made
  record Opens (at : ℕ) (sole : X) : Type 0 where
    resource : Resource
    named : slice_get plan.resources at ≡ Some resource
    opened : IsOpened s resource.kind (slice_index l.room at) sole

  opens : (at : ℕ) (sole : X) → slice_get l.soles at ≡ Some sole → Opens at sole
  opens at sole there =
      let below : at < length plan.resources = omega (arith, get-below l.soles at sole there, o.long) in
      let named = get-there plan.resources at below in
      record { resource = named.0; named = named.1; opened = o.soles.each at named.0 sole named.1 there }

  funded-opened : (at : ℕ) (sole : X) → slice_get l.soles at ≡ Some sole → IsFundedAt s l at sole
  funded-opened at sole there =
      let is = opens at sole there in
      let kind_is : slice_get l.kinds at ≡ Some is.resource.kind = kind-at at is.resource is.named in
      let waiting : waiting_at l.waits at ≡ 0 =
      ap (λ ws. waiting_at ws at) o.waits ∙ waiting-none (length plan.jobs) at in
      let held : held_at (holds_in l) at ≡ replicate (length plan.jobs) [] =
      ap (λ hs. held_at hs at) holds-none ∙ held-none (length plan.jobs) at in
      subst (λ (k : Option Kind). s.funded sole k (slice_index l.room at) (waiting_at l.waits at)
      (held_at (holds_in l) at)) (sym kind_is)
      (funded-as s sole _ refl (sym waiting) (sym held) (is.opened.funded (length plan.jobs)))

  no-wait : (job : ℕ) (wait : Wait) → slice_get l.waits job ≡ Some (Some wait) → ⊥
  no-wait job wait got =
      let none : Some wait ≡ None =
      replicate-all (length plan.jobs) None (Some wait) job (ap (λ ws. slice_get ws job) (sym o.waits) ∙ got) in
      cc

  pub kept-opened : AreSized plan.resources → IsKept s l
  kept-opened sized = record {
    soles = o.long ∙ sym kinds-long;
    rooms = room-long ∙ sym kinds-long;
    sized = subst (λ (ks : List Kind). EachAt (λ place kind. IsKind kind) ks) (sym o.kinds)
        (record { at = λ place kind got. sized-at plan.resources sized.at place kind got });
    funded = record { at = funded-opened };
    waits = λ job wait got. absurd (no-wait job wait got);
    apart = record { same = λ i j v w one two same. absurd (no-wait i v one) };
    spare = omega (arith, o.spare, none, many);
  }
    where
      none : count_by (λ w. is_some w) l.waits ≡ 0
      none = ap (λ ws. count_by (λ w. is_some w) ws) o.waits ∙ some-none (length plan.jobs)

      many : sum_by (λ hs. length hs) (holds_in l) ≡ 0
      many = ap (λ hss. sum_by (λ hs. length hs) hss) holds-none ∙ many-none (length plan.jobs)

  pub plain-opened : plain_floor s l ≡ opening_floor plan
  plain-opened =
      let waits : map (option_map job_wait) l.waits ≡ replicate (length plan.jobs) None =
      ap (map (option_map job_wait)) o.waits ∙ map-none (length plan.jobs) in
      rw (o.kinds, fresh plan.resources l.soles o.long opens-so, o.room, waits, holds-none, o.rounds) refl
    where
      opens-so : (at : ℕ) (x : X) (r : Resource) → slice_get l.soles at ≡ Some x → slice_get plan.resources at ≡ Some r
          → s.history x ≡ no_history r.kind
      opens-so at x r there named =
          let is = opens at x there in
          let same : Some is.resource ≡ Some r = sym is.named ∙ named in
          let resource_is : is.resource ≡ r = cc in
          is.opened.fresh ∙ ap (λ (q : Resource). no_history q.kind) resource_is

      fresh : (resources : List Resource) (soles : List X) → length soles ≡ length resources
          → ((at : ℕ) (x : X) (r : Resource) → slice_get soles at ≡ Some x → slice_get resources at ≡ Some r
          → s.history x ≡ no_history r.kind)
          → map s.history soles ≡ map (λ resource. no_history resource.kind) resources
      fresh [] [] long each = refl
      fresh [] (x ∷ soles) long each = absurd (omega (arith, long))
      fresh (r ∷ resources) [] long each = absurd (omega (arith, long))
      fresh (r ∷ resources) (x ∷ soles) long each =
          ap₂ (λ (h : History) hs. h ∷ hs) (each 0 x r refl refl)
          (fresh resources soles (omega (arith, long)) (λ at y q got named. each (suc at) y q got named))

      map-none : (n : ℕ) → map (option_map job_wait) (replicate n None) ≡ replicate n None
      map-none zero = refl
      map-none (suc n) = ap (λ ws. None ∷ ws) (map-none n)
