-- What a worker came to and has no more, beside what its jobs have, over each of its calls.
use Rattle.std.proofs.Common.{◌≡◌, ◌≢◌, ◌⊎◌, inl, inr, ℕ, ◌+◌, ◌<◌, ◌≤◌, ◌==◌, Bool, true, false, cond, List, [], ◌∷◌, ◌++◌, Option, Some, None, IsSome, length, set, slice_get, sum_by, refl, ap, sym, ◌∙◌, subst, arith, eq-eqb, ne_eqb}
use Rattle.std.proofs.lemmas.Bool.{cases_eq}
use Rattle.std.proofs.lemmas.List.{length-set}
use Rattle.std.proofs.lemmas.List.Elements.{filter-append}
use Rattle.std.proofs.lemmas.List.Sums.{sum_by-set, sum_by-cons, sum_by_push, sum_by-append}
use Rattle.cqs_core.specs.Keyed.{without}
use Rattle.cqs_core.specs.Parts.{part}
use Rattle.cqs_core.specs.SemaphoreNames.{entry_names as permit_names}
use Rattle.cqs_core.proofs.Places.{get-below}
use Rattle.cqs_pool_object.specs.PoolNames.{entry_names as element_names}
use Rattle.cqs_plan.specs.declared.floors.answers.FloorTake.{FloorTake}
use Rattle.cqs_plan.specs.declared.floors.answers.FloorTake.TheVariants.{Now, Waits}
use Rattle.cqs_plan.specs.declared.floors.answers.FloorDown.{FloorDown}
use Rattle.cqs_plan.specs.declared.plans.kind.Kind.{Kind}
use Rattle.cqs_plan.specs.declared.plans.kind.Kind.TheVariants as kind
use Rattle.cqs_plan.specs.Floor.{PlainFloor, JobWait, Holding, IsJob, IsHolding, IsIdle, IsHoldable, IsLatch, HasRound, holds_of, wait_of, room_at, round_of, oldest}
use Rattle.cqs_plan.specs.FloorHistory.{History, of_permits, of_elements, of_latch, of_rounds}
use Rattle.cqs_floor_shared.specs.declared.shared.SharedGive.{SharedGive}
use Rattle.cqs_floor_shared.specs.declared.shared.SharedGive.TheVariants as shared
use Rattle.cqs_floor_shared.specs.Entries.{Entries, AreOf, at_permits, at_elements, at_latch, in_round, with_entries, own_entries}
use Rattle.cqs_floor_shared.specs.AnswerEntries.{came_entries, give_entries}
use Rattle.cqs_floor_shared.specs.Shared.{Shared, Sees, seen_at, kind_at}
use Rattle.cqs_floor_shared.specs.Calls.{Takes, Gives, Downs, Waits as Waits_at, Arrives, IsDrawn, board_taken, board_waited, board_arrived, board_given, element_held}
use Rattle.cqs_work.specs.Accounts.{Weights, gains, losses, doors, enters, sum_of, sum_in, waits_at, held_at, count_at, IsAccounted}
use Rattle.cqs_work.specs.Later.{Later}
use Rattle.cqs_work.proofs.Draws.{arrived-room, came-few, counted-none, entered_in, given-none, room-kept, taken-room, waited-room}
use Rattle.cqs_work.proofs.Lasting.{seen-all, seen-here, seen-else, sees-later}

-- what the caller's entries add up to in a longer history
sum-with : (w : Weights) (n : ℕ) (h : History) (more : Entries) → AreOf h more
    → sum_in w n (with_entries h more) ≡ sum_in w n h + sum_of w (own_entries n more)
sum-with w n (of_permits h) (at_permits more) words =
    ap (sum_by w.permit) (filter-append (permit_names n) h more)
    ∙ sum_by-append w.permit (part permit_names n h) (part permit_names n more)
sum-with w n (of_elements h) (at_elements more) words =
    ap (sum_by w.element) (filter-append (element_names n) h more)
    ∙ sum_by-append w.element (part element_names n h) (part element_names n more)
sum-with w n (of_latch h) (at_latch more) words = refl
sum-with w n (of_rounds all) (in_round round more) words = refl
sum-with w n (of_permits h) (at_elements more) words = absurd words
sum-with w n (of_permits h) (at_latch more) words = absurd words
sum-with w n (of_permits h) (in_round round more) words = absurd words
sum-with w n (of_elements h) (at_permits more) words = absurd words
sum-with w n (of_elements h) (at_latch more) words = absurd words
sum-with w n (of_elements h) (in_round round more) words = absurd words
sum-with w n (of_latch h) (at_permits more) words = absurd words
sum-with w n (of_latch h) (at_elements more) words = absurd words
sum-with w n (of_latch h) (in_round round more) words = absurd words
sum-with w n (of_rounds all) (at_permits more) words = absurd words
sum-with w n (of_rounds all) (at_elements more) words = absurd words
sum-with w n (of_rounds all) (at_latch more) words = absurd words

below-by : (kinds : List Kind) (at : ℕ) (k : Option Kind) → slice_get kinds at ≡ k → IsHoldable k → at < length kinds
below-by kinds at (Some k) got holdable = get-below kinds at k got
below-by kinds at None got holdable = absurd holdable

module _ (f : Shared) (at : ℕ) (entries : Entries) (g : Shared) (sees : Sees f at entries g)
    (kinds : g.board.kinds ≡ f.board.kinds) where
  sum-more : (w : Weights)
      → sum_in w f.number (with_entries (seen_at f at) sees.more) ≡ sum_in w f.number (seen_at f at) + sum_of w entries
  sum-more w =
      sum-with w f.number (seen_at f at) sees.more sees.words
      ∙ ap (λ e. sum_in w f.number (seen_at f at) + sum_of w e) sees.mine

  pub sum-here : (w : Weights) → at < length f.seen
      → sum_in w g.number (seen_at g at) ≡ sum_in w f.number (seen_at f at) + sum_of w entries
  sum-here w there =
      ap (λ n. sum_in w n (seen_at g at)) sees.same.number
      ∙ ap (sum_in w f.number) (seen-here f at entries g sees there) ∙ sum-more w

  pub sum-else : (w : Weights) (q : ℕ) → q ≢ at → sum_in w g.number (seen_at g q) ≡ sum_in w f.number (seen_at f q)
  sum-else w q other =
      ap (λ n. sum_in w n (seen_at g q)) sees.same.number
      ∙ ap (sum_in w f.number) (seen-else f at entries g sees q other)

  -- what a call adds to either side
  pub later-by : (IsHoldable (kind_at f at)
      → sum_of gains entries + count_at f.board at ≡ sum_of losses entries + count_at g.board at)
      → ((q : ℕ) → q ≢ at → count_at g.board q ≡ count_at f.board q) → sum_of enters entries ≡ sum_of doors entries
      → ((round : ℕ) → entered_in entries round + room_at g.board at ≤ room_at f.board at)
      → ((q : ℕ) → q ≢ at → room_at g.board q ≤ room_at f.board q) → Later f g
  later-by here elsewhere door uses kept = sees-later f at entries g sees kinds (λ acc. record {
    long = omega (arith, acc.long, ap length kinds, ap length sees.seen, long);
    even = λ q holdable. even acc q (subst IsHoldable (ap (λ ks. slice_get ks q) kinds) holdable) (cases_eq q at);
    entered = λ q.
        ap (λ n. sum_in enters n (seen_at g q)) sees.same.number
        ∙ seen-all (λ r h. sum_in enters f.number h ≡ sum_in doors f.number h) f at entries g sees (entered acc)
        acc.entered q
        ∙ ap (λ n. sum_in doors n (seen_at g q)) (sym sees.same.number);
  }) (room-kept f at entries g sees uses kept)
    where
      long : length (set f.seen at (with_entries (seen_at f at) sees.more)) ≡ length f.seen
      long = length-set f.seen at (with_entries (seen_at f at) sees.more)

      entered : IsAccounted f → sum_in enters f.number (with_entries (seen_at f at) sees.more)
          ≡ sum_in doors f.number (with_entries (seen_at f at) sees.more)
      entered acc = omega (arith, sum-more enters, sum-more doors, door, acc.entered at)

      even : IsAccounted f → (q : ℕ) → IsHoldable (kind_at f q) → (q ≡ at) ⊎ (q ≢ at)
          → sum_in gains g.number (seen_at g q) ≡ sum_in losses g.number (seen_at g q) + count_at g.board q
      even acc q holdable (inl same) =
          let holds : IsHoldable (kind_at f at) = subst (λ n. IsHoldable (kind_at f n)) same holdable in
          let there : at < length f.seen
          = omega (arith, below-by f.board.kinds at (kind_at f at) refl holds, acc.long) in
          let P : ℕ → Type 0
          = λ n. sum_in gains g.number (seen_at g n) ≡ sum_in losses g.number (seen_at g n) + count_at g.board n in
          subst P (sym same)
          (omega (arith, sum-here gains there, sum-here losses there, acc.even at holds, here holds))
      even acc q holdable (inr other) =
          omega (arith, sum-else gains q other, sum-else losses q other, acc.even q holdable, elsewhere q other)

-- one more or fewer of what a job has
abbrev pub one : Bool → ℕ
one b = cond {A = ℕ} b 1 0

pub one-here : (q : ℕ) → one (q == q) ≡ 1
one-here q = ap (λ b. cond {A = ℕ} b 1 0) (eq-eqb q q refl)

pub one-else : (at q : ℕ) → q ≢ at → one (at == q) ≡ 0
one-else at q other = ap (λ b. cond {A = ℕ} b 1 0) (ne_eqb at q (λ e. other (sym e)))

pub held-newest : (q at element : ℕ) (holds : List Holding)
    → held_at q (holds ++ record { at = at; element = element } ∷ []) ≡ held_at q holds + one (at == q)
held-newest q at element holds = sum_by_push (λ h. one (h.at == q)) holds (record { at = at; element = element })

held-cons : (q : ℕ) (h : Holding) (holds : List Holding) → held_at q (h ∷ holds) ≡ one (h.at == q) + held_at q holds
held-cons q h holds = sum_by-cons (λ x. one (x.at == q)) h holds

held-without : (q at : ℕ) (holds : List Holding) → IsSome (oldest at holds)
    → held_at q (without (λ h. h.at) at holds) + one (at == q) ≡ held_at q holds
held-without q at [] some = absurd (cc)
held-without q at (h ∷ holds) some = go (cases_eq h.at at) (λ there. held-without q at holds there)
  where
    go : (h.at ≡ at) ⊎ (h.at ≢ at)
        → (IsSome (oldest at holds) → held_at q (without (λ h. h.at) at holds) + one (at == q) ≡ held_at q holds)
        → held_at q (without (λ h. h.at) at (h ∷ holds)) + one (at == q) ≡ held_at q (h ∷ holds)
    go (inl same) later =
        let first : at == h.at ≡ true = eq-eqb at h.at (sym same) in
        let gone : without (λ x. x.at) at (h ∷ holds) ≡ holds = rw first refl in
        let alike : one (h.at == q) ≡ one (at == q) = ap (λ n. one (n == q)) same in
        ap (λ l. held_at q l + one (at == q)) gone ∙ omega (arith, held-cons q h holds, alike)
    go (inr other) later =
        let not_first : at == h.at ≡ false = ne_eqb at h.at (λ e. other (sym e)) in
        let not_here : h.at == at ≡ false = ne_eqb h.at at other in
        let stays : without (λ x. x.at) at (h ∷ holds) ≡ h ∷ without (λ x. x.at) at holds = rw not_first refl in
        let rest = later (rw not_here at some) in
        ap (λ l. held_at q l + one (at == q)) stays
        ∙ omega (arith, held-cons q h holds, held-cons q h (without (λ x. x.at) at holds), rest)

module _ (b : PlainFloor) (job : ℕ) (is_job : IsJob b job) where
  -- a job that holds this, or has this wait
  pub holds-set : (q : ℕ) (holds : List Holding)
      → sum_by (held_at q) (set b.holds job holds) + held_at q (holds_of b job)
      ≡ sum_by (held_at q) b.holds + held_at q holds
  holds-set q holds = sum_by-set (held_at q) b.holds job holds [] is_job.holds

  pub waits-set : (q : ℕ) (wait : Option JobWait)
      → sum_by (waits_at q) (set b.waits job wait) + waits_at q (wait_of b job)
      ≡ sum_by (waits_at q) b.waits + waits_at q wait
  waits-set q wait = sum_by-set (waits_at q) b.waits job wait None is_job.waits

  -- a job that waits is one more there
  waits-more : (q : ℕ) (wait : JobWait) → IsIdle b job
      → sum_by (waits_at q) (set b.waits job (Some wait)) ≡ sum_by (waits_at q) b.waits + one (wait.at == q)
  waits-more q wait idle =
      let had : waits_at q (wait_of b job) ≡ 0 = ap (waits_at q) idle in
      let now : sum_by (waits_at q) (set b.waits job (Some wait)) + waits_at q (wait_of b job)
      ≡ sum_by (waits_at q) b.waits + one (wait.at == q)
      = waits-set q (Some wait) in
      omega (arith, now, had)

none-either : (yes : Bool) → cond {A = ℕ} yes 0 0 ≡ 0
none-either true = refl
none-either false = refl

-- how many a take comes to
abbrev taken_ones : Option FloorTake → ℕ
taken_ones (Some answer) = 1
taken_ones None = 0

taken-count : (b : PlainFloor) (at job : ℕ) (got : Option FloorTake) (q : ℕ) → IsJob b job → IsIdle b job
    → count_at (board_taken b at job got) q ≡ count_at b q + cond {A = ℕ} (at == q) (taken_ones got) 0
taken-count b at job (Some (Now element)) q is_job idle =
    let newest : List Holding = holds_of b job ++ record { at = at; element = element } ∷ [] in
    let all : count_at (board_taken b at job (Some (Now element))) q
    ≡ sum_by (held_at q) (set b.holds job newest) + sum_by (waits_at q) b.waits
    = refl in
    omega (
      arith,
      all,
      holds-set b job is_job q (holds_of b job ++ record { at = at; element = element } ∷ []),
      held-newest q at element (holds_of b job),
    )
taken-count b at job (Some (Waits k)) q is_job idle =
    let all : count_at (board_taken b at job (Some (Waits k))) q
    ≡ sum_by (held_at q) b.holds
    + sum_by (waits_at q) (set b.waits job (Some (record { at = at; round = 0; number = k })))
    = refl in
    omega (arith, all, waits-more b job is_job q (record { at = at; round = 0; number = k }) idle)
taken-count b at job None q is_job idle =
    let all : count_at (board_taken b at job None) q ≡ count_at b q = refl in
    omega (arith, all, none-either (at == q))

record TakenAdds (entries : Entries) (ones : ℕ) : Type 0 where
  pub gained : sum_of gains entries ≡ ones
  pub lost : sum_of losses entries ≡ 0
  pub entered : sum_of enters entries ≡ sum_of doors entries

taken-adds : (k : Option Kind) (c : ℕ) (got : Option FloorTake) (drew : Option ℕ) → IsHoldable k → IsDrawn k got drew
    → TakenAdds (came_entries k 0 c got drew) (taken_ones got)
taken-adds (Some (kind.Semaphore permits)) c (Some (Now e)) drew holdable drawn =
    record { gained = refl; lost = refl; entered = refl }
taken-adds (Some (kind.Semaphore permits)) c (Some (Waits k)) drew holdable drawn =
    record { gained = refl; lost = refl; entered = refl }
taken-adds (Some (kind.Semaphore permits)) c None drew holdable drawn =
    record { gained = refl; lost = refl; entered = refl }
taken-adds (Some kind.Mutex) c (Some (Now e)) drew holdable drawn =
    record { gained = refl; lost = refl; entered = refl }
taken-adds (Some kind.Mutex) c (Some (Waits k)) drew holdable drawn =
    record { gained = refl; lost = refl; entered = refl }
taken-adds (Some kind.Mutex) c None drew holdable drawn = record { gained = refl; lost = refl; entered = refl }
taken-adds (Some (kind.Pool elements)) c (Some (Now e)) (Some k) holdable drawn =
    record { gained = refl; lost = refl; entered = refl }
taken-adds (Some (kind.Pool elements)) c (Some (Now e)) None holdable drawn = absurd drawn
taken-adds (Some (kind.Pool elements)) c (Some (Waits k)) drew holdable drawn =
    record { gained = refl; lost = refl; entered = refl }
taken-adds (Some (kind.Pool elements)) c None drew holdable drawn =
    record { gained = refl; lost = refl; entered = refl }
taken-adds (Some (kind.Latch count)) c got drew holdable drawn = absurd holdable
taken-adds (Some (kind.Rounds parties rounds)) c got drew holdable drawn = absurd holdable
taken-adds None c got drew holdable drawn = absurd holdable

at-here : (at n : ℕ) → cond {A = ℕ} (at == at) n 0 ≡ n
at-here at n = ap (λ b. cond {A = ℕ} b n 0) (eq-eqb at at refl)

at-else : (at q n : ℕ) → q ≢ at → cond {A = ℕ} (at == q) n 0 ≡ 0
at-else at q n other = ap (λ b. cond {A = ℕ} b n 0) (ne_eqb at q (λ e. other (sym e)))

taken-kinds : (b : PlainFloor) (at job : ℕ) (got : Option FloorTake) → (board_taken b at job got).kinds ≡ b.kinds
taken-kinds b at job (Some (Now e)) = refl
taken-kinds b at job (Some (Waits k)) = refl
taken-kinds b at job None = refl

pub take-later : (f : Shared) (at job : ℕ) (got : Option FloorTake) (g : Shared) → Takes f at job got g
    → IsHoldable (kind_at f at) → IsJob f.board job → IsIdle f.board job → 0 < room_at f.board at → Later f g
take-later f at job got g takes holdable is_job idle some =
    let room = taken-room f.board at job got some in
    let adds = taken-adds (kind_at f at) f.number got takes.drew holdable takes.drawn in
    later-by f at _ g takes.sees (ap (λ b. b.kinds) takes.board ∙ taken-kinds f.board at job got)
    (λ h. omega (
      arith,
      adds.gained,
      adds.lost,
      ap (λ b. count_at b at) takes.board,
      taken-count f.board at job got at is_job idle,
      at-here at (taken_ones got),
    ))
    (λ q other. omega (
      arith,
      ap (λ b. count_at b q) takes.board,
      taken-count f.board at job got q is_job idle,
      at-else at q (taken_ones got) other,
    ))
    adds.entered
    (λ r. omega (
      arith,
      came-few (kind_at f at) 0 f.number got takes.drew r,
      ap (λ b. room_at b at) takes.board,
      room.here,
    ))
    (λ q other. omega (arith, ap (λ b. room_at b q) takes.board, room.elsewhere q other))

-- who comes to a latch or a barrier comes to nothing that is given back
no-latch : (k : Option Kind) → IsLatch k → IsHoldable k → ⊥
no-latch (Some (kind.Latch count)) latch holdable = holdable
no-latch (Some (kind.Semaphore permits)) latch holdable = latch
no-latch (Some kind.Mutex) latch holdable = latch
no-latch (Some (kind.Pool elements)) latch holdable = latch
no-latch (Some (kind.Rounds parties rounds)) latch holdable = latch
no-latch None latch holdable = latch

no-round : (k : Option Kind) (round : ℕ) → HasRound k round → IsHoldable k → ⊥
no-round (Some (kind.Rounds parties rounds)) round has holdable = holdable
no-round (Some (kind.Latch count)) round has holdable = holdable
no-round (Some (kind.Semaphore permits)) round has holdable = has
no-round (Some kind.Mutex) round has holdable = has
no-round (Some (kind.Pool elements)) round has holdable = has
no-round None round has holdable = has

latch-doors : (k : Option Kind) (c : ℕ) (got : Option FloorTake) (drew : Option ℕ) → IsLatch k
    → sum_of enters (came_entries k 0 c got drew) ≡ sum_of doors (came_entries k 0 c got drew)
latch-doors (Some (kind.Latch count)) c (Some answer) drew latch = refl
latch-doors (Some (kind.Latch count)) c None drew latch = refl
latch-doors (Some (kind.Semaphore permits)) c got drew latch = absurd latch
latch-doors (Some kind.Mutex) c got drew latch = absurd latch
latch-doors (Some (kind.Pool elements)) c got drew latch = absurd latch
latch-doors (Some (kind.Rounds parties rounds)) c got drew latch = absurd latch
latch-doors None c got drew latch = absurd latch

round-doors : (k : Option Kind) (round c : ℕ) (got : Option FloorTake) (drew : Option ℕ) → HasRound k round
    → sum_of enters (came_entries k round c got drew) ≡ sum_of doors (came_entries k round c got drew)
round-doors (Some (kind.Rounds parties rounds)) round c (Some answer) drew has = refl
round-doors (Some (kind.Rounds parties rounds)) round c None drew has = refl
round-doors (Some (kind.Latch count)) round c got drew has = absurd has
round-doors (Some (kind.Semaphore permits)) round c got drew has = absurd has
round-doors (Some kind.Mutex) round c got drew has = absurd has
round-doors (Some (kind.Pool elements)) round c got drew has = absurd has
round-doors None round c got drew has = absurd has

waited-count : (b : PlainFloor) (at job : ℕ) (got : Option FloorTake) (q : ℕ) → IsJob b job → IsIdle b job → q ≢ at
    → count_at (board_waited b at job got) q ≡ count_at b q
waited-count b at job (Some (Now element)) q is_job idle other = refl
waited-count b at job (Some (Waits k)) q is_job idle other =
    let all : count_at (board_waited b at job (Some (Waits k))) q
    ≡ sum_by (held_at q) b.holds
    + sum_by (waits_at q) (set b.waits job (Some (record { at = at; round = 0; number = k })))
    = refl in
    omega (arith, all, waits-more b job is_job q (record { at = at; round = 0; number = k }) idle, one-else at q other)
waited-count b at job None q is_job idle other = refl

waited-kinds : (b : PlainFloor) (at job : ℕ) (got : Option FloorTake) → (board_waited b at job got).kinds ≡ b.kinds
waited-kinds b at job (Some (Now e)) = refl
waited-kinds b at job (Some (Waits k)) = refl
waited-kinds b at job None = refl

pub wait-later : (f : Shared) (at job : ℕ) (got : Option FloorTake) (g : Shared) → Waits_at f at job got g
    → IsLatch (kind_at f at) → IsJob f.board job → IsIdle f.board job → 0 < room_at f.board at → Later f g
wait-later f at job got g comes latch is_job idle some =
    let room = waited-room f.board at job got some in
    later-by f at _ g comes.sees (ap (λ b. b.kinds) comes.board ∙ waited-kinds f.board at job got)
    (λ holdable. absurd (no-latch (kind_at f at) latch holdable))
    (λ q other. ap (λ b. count_at b q) comes.board ∙ waited-count f.board at job got q is_job idle other)
    (latch-doors (kind_at f at) f.number got comes.drew latch)
    (λ r. omega (
      arith,
      came-few (kind_at f at) 0 f.number got comes.drew r,
      ap (λ b. room_at b at) comes.board,
      room.here,
    ))
    (λ q other. omega (arith, ap (λ b. room_at b q) comes.board, room.elsewhere q other))

arrived-count : (b : PlainFloor) (at job : ℕ) (got : Option FloorTake) (q : ℕ) → IsJob b job → IsIdle b job → q ≢ at
    → count_at (board_arrived b at job got) q ≡ count_at b q
arrived-count b at job (Some (Now element)) q is_job idle other = refl
arrived-count b at job (Some (Waits k)) q is_job idle other =
    let all : count_at (board_arrived b at job (Some (Waits k))) q
    ≡ sum_by (held_at q) b.holds
    + sum_by (waits_at q)
    (set b.waits job (Some (record { at = at; round = round_of b job at; number = k })))
    = refl in
    omega (
      arith,
      all,
      waits-more b job is_job q (record { at = at; round = round_of b job at; number = k }) idle,
      one-else at q other,
    )
arrived-count b at job None q is_job idle other = refl

arrived-kinds : (b : PlainFloor) (at job : ℕ) (got : Option FloorTake) → (board_arrived b at job got).kinds ≡ b.kinds
arrived-kinds b at job (Some (Now e)) = refl
arrived-kinds b at job (Some (Waits k)) = refl
arrived-kinds b at job None = refl

pub arrive-later : (f : Shared) (at job : ℕ) (got : Option FloorTake) (g : Shared) → Arrives f at job got g
    → HasRound (kind_at f at) (round_of f.board job at) → IsJob f.board job → IsIdle f.board job
    → 0 < room_at f.board at → Later f g
arrive-later f at job got g comes has is_job idle some =
    let room = arrived-room f.board at job got some in
    let round : ℕ = round_of f.board job at in
    later-by f at _ g comes.sees (ap (λ b. b.kinds) comes.board ∙ arrived-kinds f.board at job got)
    (λ holdable. absurd (no-round (kind_at f at) round has holdable))
    (λ q other. ap (λ b. count_at b q) comes.board ∙ arrived-count f.board at job got q is_job idle other)
    (round-doors (kind_at f at) round f.number got comes.drew has)
    (λ r. omega (
      arith,
      came-few (kind_at f at) round f.number got comes.drew r,
      ap (λ b. room_at b at) comes.board,
      room.here,
    ))
    (λ q other. omega (arith, ap (λ b. room_at b q) comes.board, room.elsewhere q other))

pub down-later : (f : Shared) (at : ℕ) (got : FloorDown) (g : Shared) → Downs f at got g → Later f g
down-later f at got g downs =
    later-by f at _ g downs.sees (ap (λ b. b.kinds) downs.board)
    (λ holdable. omega (arith, ap (λ b. count_at b at) downs.board)) (λ q other. ap (λ b. count_at b q) downs.board)
    refl (λ r. omega (arith, counted-none f.number got r, ap (λ b. room_at b at) downs.board))
    (λ q other. omega (arith, ap (λ b. room_at b q) downs.board))

-- a give: one entry that loses
record GivenAdds (entries : Entries) : Type 0 where
  pub gained : sum_of gains entries ≡ 0
  pub lost : sum_of losses entries ≡ 1
  pub entered : sum_of enters entries ≡ sum_of doors entries

given-adds : (k : Option Kind) (c e : ℕ) (got : SharedGive) → IsHoldable k → GivenAdds (give_entries k c e got)
given-adds (Some (kind.Semaphore permits)) c e (shared.Free x) holdable =
    record { gained = refl; lost = refl; entered = refl }
given-adds (Some (kind.Semaphore permits)) c e (shared.Sent x k) holdable =
    record { gained = refl; lost = refl; entered = refl }
given-adds (Some (kind.Semaphore permits)) c e (shared.Left x k) holdable =
    record { gained = refl; lost = refl; entered = refl }
given-adds (Some (kind.Semaphore permits)) c e (shared.Void k) holdable =
    record { gained = refl; lost = refl; entered = refl }
given-adds (Some kind.Mutex) c e (shared.Free x) holdable = record { gained = refl; lost = refl; entered = refl }
given-adds (Some kind.Mutex) c e (shared.Sent x k) holdable = record { gained = refl; lost = refl; entered = refl }
given-adds (Some kind.Mutex) c e (shared.Left x k) holdable = record { gained = refl; lost = refl; entered = refl }
given-adds (Some kind.Mutex) c e (shared.Void k) holdable = record { gained = refl; lost = refl; entered = refl }
given-adds (Some (kind.Pool elements)) c e got holdable = record { gained = refl; lost = refl; entered = refl }
given-adds (Some (kind.Latch count)) c e got holdable = absurd holdable
given-adds (Some (kind.Rounds parties rounds)) c e got holdable = absurd holdable
given-adds None c e got holdable = absurd holdable

given-count : (b : PlainFloor) (at job q : ℕ) → IsJob b job → IsHolding b at job
    → count_at (board_given b at job) q + one (at == q) ≡ count_at b q
given-count b at job q is_job holding =
    let all : count_at (board_given b at job) q
    ≡ sum_by (held_at q) (set b.holds job (without (λ h. h.at) at (holds_of b job))) + sum_by (waits_at q) b.waits
    = refl in
    omega (
      arith,
      all,
      holds-set b job is_job q (without (λ h. h.at) at (holds_of b job)),
      held-without q at (holds_of b job) holding,
    )

pub give-later : (f : Shared) (at job : ℕ) (got : SharedGive) (g : Shared) → Gives f at job got g
    → IsHoldable (kind_at f at) → IsJob f.board job → IsHolding f.board at job → Later f g
give-later f at job got g gives holdable is_job holding =
    let adds = given-adds (kind_at f at) f.number (element_held f.board at job) got holdable in
    later-by f at _ g gives.sees (ap (λ b. b.kinds) gives.board)
    (λ h. omega (
      arith,
      adds.gained,
      adds.lost,
      ap (λ b. count_at b at) gives.board,
      given-count f.board at job at is_job holding,
      one-here at,
    ))
    (λ q other. omega (
      arith,
      ap (λ b. count_at b q) gives.board,
      given-count f.board at job q is_job holding,
      one-else at q other,
    ))
    adds.entered
    (λ r. omega (
      arith,
      given-none (kind_at f at) f.number (element_held f.board at job) got r,
      ap (λ b. room_at b at) gives.board,
    ))
    (λ q other. omega (arith, ap (λ b. room_at b q) gives.board))
