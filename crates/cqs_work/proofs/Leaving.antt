-- An entry that a call has stands in what its pass has seen then.
use Rattle.std.proofs.Common.{◌≡◌, inl, inr, ℕ, suc, ◌+◌, ◌<◌, ◌≤◌, Bool, true, false, cond, List, [], ◌∷◌, ◌++◌, Option, Some, None, IsSome, length, set, slice_get, refl, ap, ◌∙◌, arith}
use Rattle.std.proofs.lemmas.List.{get_or-set_same}
use Rattle.cqs_core.specs.Numbered.{IsIn}
use Rattle.cqs_core.specs.Parts.{part}
use Rattle.cqs_core.specs.declared.entries.Entry.{Entry}
use Rattle.cqs_core.specs.declared.entries.Entry.TheVariants as permit
use Rattle.cqs_core.specs.SemaphoreNames.{entry_names as permit_names}
use Rattle.cqs_core.proofs.Places.{get-below}
use Rattle.cqs_pool_object.specs.declared.entries.PoolEntry.{PoolEntry}
use Rattle.cqs_pool_object.specs.declared.entries.PoolEntry.TheVariants as element
use Rattle.cqs_pool_object.specs.PoolNames.{entry_names as element_names}
use Rattle.cqs_latch_object.specs.declared.entries.LatchEntry.{LatchEntry}
use Rattle.cqs_latch_object.specs.declared.entries.LatchEntry.TheVariants as latch
use Rattle.cqs_latch_object.specs.LatchNames.{entry_names as latch_names}
use Rattle.cqs_barrier_object.specs.declared.entries.BarrierEntry.{BarrierEntry}
use Rattle.cqs_barrier_object.specs.declared.entries.BarrierEntry.TheVariants as party
use Rattle.cqs_barrier_object.specs.BarrierNames.{entry_names as party_names}
use Rattle.cqs_plan.specs.declared.plans.kind.Kind.{Kind}
use Rattle.cqs_plan.specs.declared.plans.kind.Kind.TheVariants as kind
use Rattle.cqs_plan.specs.declared.floors.answers.FloorLeave.{FloorLeave}
use Rattle.cqs_plan.specs.declared.floors.answers.FloorLeave.TheVariants.{Gone, Late}
use Rattle.cqs_plan.specs.Floor.{JobWait}
use Rattle.cqs_plan.specs.FloorHistory.{History, of_permits, of_elements, of_latch, of_rounds, entries_in}
use Rattle.cqs_floor_shared.specs.Entries.{Entries, AreOf, at_permits, at_elements, at_latch, in_round, with_entries, own_entries}
use Rattle.cqs_floor_shared.specs.AnswerEntries.{leave_entries, unless_came}
use Rattle.cqs_floor_shared.specs.Calls.{IsLate, Leaves}
use Rattle.cqs_floor_shared.specs.Shared.{Shared, seen_at, kind_at, came_of}
use Rattle.cqs_work.specs.Causes.{HasLeftLine, WasTooLate}
use Rattle.cqs_work.proofs.Lasting.{seen-here}

-- what a caller has is among all
part-has : {E : Type 0} (names : ℕ → E → Bool) (n : ℕ) (e : E) (l : List E) → part names n l ≡ e ∷ [] → IsIn e l
part-has {E} names n e [] one = absurd (cc)
part-has {E} names n e (x ∷ l) one = go (names n x) one (λ rest. part-has names n e l rest)
  where
    behind : IsIn e l → IsIn e (x ∷ l)
    behind later = record { place = later.place + 1; there = after later.place later.there }
      where
        after : (i : ℕ) → slice_get l i ≡ Some e → slice_get (x ∷ l) (i + 1) ≡ Some e
        after i got = let next : i + 1 ≡ suc i = omega arith in rw next got

    go : (b : Bool) → cond {A = List E} b (x ∷ part names n l) (part names n l) ≡ e ∷ []
        → (part names n l ≡ e ∷ [] → IsIn e l) → IsIn e (x ∷ l)
    go true is later = let same : x ≡ e = cc in record { place = 0; there = ap Some same }
    go false is later = behind (later is)

in-after : {X : Type 0} (x : X) (h l : List X) → IsIn x l → IsIn x (h ++ l)
in-after {X} x [] l there = there
in-after {X} x (y ∷ h) l there =
    let later : IsIn x (h ++ l) = in-after x h l there in
    let next : later.place + 1 ≡ suc later.place = omega arith in
    record { place = later.place + 1; there = rw next later.there }

-- the entry of a caller that a call has, in the words of each kind
abbrev IsPermitIn : Entry → History → Type 0
IsPermitIn e (of_permits h) = IsIn e h
IsPermitIn e (of_elements h) = ⊥
IsPermitIn e (of_latch h) = ⊥
IsPermitIn e (of_rounds all) = ⊥

abbrev IsElementIn : PoolEntry → History → Type 0
IsElementIn e (of_elements h) = IsIn e h
IsElementIn e (of_permits h) = ⊥
IsElementIn e (of_latch h) = ⊥
IsElementIn e (of_rounds all) = ⊥

abbrev IsLatchIn : LatchEntry → History → Type 0
IsLatchIn e (of_latch h) = IsIn e h
IsLatchIn e (of_permits h) = ⊥
IsLatchIn e (of_elements h) = ⊥
IsLatchIn e (of_rounds all) = ⊥

abbrev IsPartyIn : ℕ → BarrierEntry → History → Type 0
IsPartyIn round e (of_rounds all) = IsIn e (entries_in all round)
IsPartyIn round e (of_permits h) = ⊥
IsPartyIn round e (of_elements h) = ⊥
IsPartyIn round e (of_latch h) = ⊥

permit-there : (n : ℕ) (e : Entry) (h : History) (more : Entries) → AreOf h more → own_entries n more
    ≡ at_permits (e ∷ [])
    → IsPermitIn e (with_entries h more)
permit-there n e (of_permits h) (at_permits more) words own =
    let one : part permit_names n more ≡ e ∷ [] = cc in
    in-after e h more (part-has permit_names n e more one)
permit-there n e h (at_elements more) words own = absurd (cc)
permit-there n e h (at_latch more) words own = absurd (cc)
permit-there n e h (in_round round more) words own = absurd (cc)
permit-there n e (of_elements h) (at_permits more) words own = absurd words
permit-there n e (of_latch h) (at_permits more) words own = absurd words
permit-there n e (of_rounds h) (at_permits more) words own = absurd words

element-there : (n : ℕ) (e : PoolEntry) (h : History) (more : Entries) → AreOf h more → own_entries n more
    ≡ at_elements (e ∷ [])
    → IsElementIn e (with_entries h more)
element-there n e (of_elements h) (at_elements more) words own =
    let one : part element_names n more ≡ e ∷ [] = cc in
    in-after e h more (part-has element_names n e more one)
element-there n e h (at_permits more) words own = absurd (cc)
element-there n e h (at_latch more) words own = absurd (cc)
element-there n e h (in_round round more) words own = absurd (cc)
element-there n e (of_permits h) (at_elements more) words own = absurd words
element-there n e (of_latch h) (at_elements more) words own = absurd words
element-there n e (of_rounds h) (at_elements more) words own = absurd words

latch-there : (n : ℕ) (e : LatchEntry) (h : History) (more : Entries) → AreOf h more → own_entries n more
    ≡ at_latch (e ∷ [])
    → IsLatchIn e (with_entries h more)
latch-there n e (of_latch h) (at_latch more) words own =
    let one : part latch_names n more ≡ e ∷ [] = cc in
    in-after e h more (part-has latch_names n e more one)
latch-there n e h (at_permits more) words own = absurd (cc)
latch-there n e h (at_elements more) words own = absurd (cc)
latch-there n e h (in_round round more) words own = absurd (cc)
latch-there n e (of_permits h) (at_latch more) words own = absurd words
latch-there n e (of_elements h) (at_latch more) words own = absurd words
latch-there n e (of_rounds h) (at_latch more) words own = absurd words

party-there : (n round : ℕ) (e : BarrierEntry) (h : History) (more : Entries) → AreOf h more
    → own_entries n more ≡ in_round round (e ∷ []) → IsPartyIn round e (with_entries h more)
party-there n round e (of_rounds all) (in_round r more) words own =
    let same : r ≡ round = cc in
    let one : part party_names n more ≡ e ∷ [] = cc in
    let there : IsIn e (entries_in all r ++ more)
    = in-after e (entries_in all r) more (part-has party_names n e more one) in
    let now : entries_in (set all r (entries_in all r ++ more)) r ≡ entries_in all r ++ more
    = get_or-set_same all r (entries_in all r ++ more) [] words in
    rw (← same, now) there
party-there n round e h (at_permits more) words own = absurd (cc)
party-there n round e h (at_elements more) words own = absurd (cc)
party-there n round e h (at_latch more) words own = absurd (cc)
party-there n round e (of_permits h) (in_round r more) words own = absurd words
party-there n round e (of_elements h) (in_round r more) words own = absurd words
party-there n round e (of_latch h) (in_round r more) words own = absurd words

-- a wait that is gone has left the line
left-permit : (round n number : ℕ) (all : History) → IsPermitIn (permit.Leave n number) all
    → HasLeftLine all round n number
left-permit round n number (of_permits all) there = there
left-permit round n number (of_elements all) there = absurd there
left-permit round n number (of_latch all) there = absurd there
left-permit round n number (of_rounds all) there = absurd there

left-element : (round n number : ℕ) (all : History) → IsElementIn (element.Leave n number) all
    → HasLeftLine all round n number
left-element round n number (of_elements all) there = there
left-element round n number (of_permits all) there = absurd there
left-element round n number (of_latch all) there = absurd there
left-element round n number (of_rounds all) there = absurd there

left-latch : (round n number : ℕ) (all : History) → IsLatchIn (latch.Leave n number) all
    → HasLeftLine all round n number
left-latch round n number (of_latch all) there = there
left-latch round n number (of_permits all) there = absurd there
left-latch round n number (of_elements all) there = absurd there
left-latch round n number (of_rounds all) there = absurd there

left-party : (round n number : ℕ) (all : History) → IsPartyIn round (party.Withdraw n number) all
    → HasLeftLine all round n number
left-party round n number (of_rounds all) there = there
left-party round n number (of_permits all) there = absurd there
left-party round n number (of_elements all) there = absurd there
left-party round n number (of_latch all) there = absurd there

gone-by : (k : Option Kind) (round n number : ℕ) (stays : Bool) (h : History) (more : Entries) → IsSome k
    → AreOf h more → own_entries n more ≡ leave_entries k round n number Gone stays
    → HasLeftLine (with_entries h more) round n number
gone-by (Some (kind.Semaphore permits)) round n number stays h more some words own =
    left-permit round n number (with_entries h more) (permit-there n (permit.Leave n number) h more words own)
gone-by (Some kind.Mutex) round n number stays h more some words own =
    left-permit round n number (with_entries h more) (permit-there n (permit.Leave n number) h more words own)
gone-by (Some (kind.Pool elements)) round n number stays h more some words own =
    left-element round n number (with_entries h more) (element-there n (element.Leave n number) h more words own)
gone-by (Some (kind.Latch count)) round n number stays h more some words own =
    left-latch round n number (with_entries h more) (latch-there n (latch.Leave n number) h more words own)
gone-by (Some (kind.Rounds parties rounds)) round n number stays h more some words own =
    left-party round n number (with_entries h more) (party-there n round (party.Withdraw n number) h more words own)
gone-by None round n number stays h more some words own = absurd (cc)

-- one that was too late
late-permit : (round n number : ℕ) (all : History) → IsPermitIn (permit.Late n number) all
    → WasTooLate all round n number
late-permit round n number (of_permits all) there = there
late-permit round n number (of_elements all) there = absurd there
late-permit round n number (of_latch all) there = absurd there
late-permit round n number (of_rounds all) there = absurd there

late-element : (round n number e : ℕ) (all : History) → IsElementIn (element.Late n number e) all
    → WasTooLate all round n number
late-element round n number e (of_elements all) there = (e, there)
late-element round n number e (of_permits all) there = absurd there
late-element round n number e (of_latch all) there = absurd there
late-element round n number e (of_rounds all) there = absurd there

late-latch : (round n number : ℕ) (all : History) → IsLatchIn (latch.Late n number) all
    → WasTooLate all round n number
late-latch round n number (of_latch all) there = there
late-latch round n number (of_permits all) there = absurd there
late-latch round n number (of_elements all) there = absurd there
late-latch round n number (of_rounds all) there = absurd there

late-party : (round n number : ℕ) (all : History) → IsPartyIn round (party.Late n number) all
    → WasTooLate all round n number
late-party round n number (of_rounds all) there = inl there
late-party round n number (of_permits all) there = absurd there
late-party round n number (of_elements all) there = absurd there
late-party round n number (of_latch all) there = absurd there

stay-party : (round n number : ℕ) (all : History) → IsPartyIn round (party.Stay n number) all
    → WasTooLate all round n number
stay-party round n number (of_rounds all) there = inr there
stay-party round n number (of_permits all) there = absurd there
stay-party round n number (of_elements all) there = absurd there
stay-party round n number (of_latch all) there = absurd there

late-by : (k : Option Kind) (round n number e : ℕ) (stays : Bool) (h : History) (more : Entries) → IsSome k
    → AreOf h more → own_entries n more ≡ leave_entries k round n number (Late e) stays
    → WasTooLate (with_entries h more) round n number
late-by (Some (kind.Semaphore permits)) round n number e stays h more some words own =
    late-permit round n number (with_entries h more) (permit-there n (permit.Late n number) h more words own)
late-by (Some kind.Mutex) round n number e stays h more some words own =
    late-permit round n number (with_entries h more) (permit-there n (permit.Late n number) h more words own)
late-by (Some (kind.Pool elements)) round n number e stays h more some words own =
    late-element round n number e (with_entries h more)
    (element-there n (element.Late n number e) h more words own)
late-by (Some (kind.Latch count)) round n number e stays h more some words own =
    late-latch round n number (with_entries h more) (latch-there n (latch.Late n number) h more words own)
late-by (Some (kind.Rounds parties rounds)) round n number e true h more some words own =
    stay-party round n number (with_entries h more) (party-there n round (party.Stay n number) h more words own)
late-by (Some (kind.Rounds parties rounds)) round n number e false h more some words own =
    late-party round n number (with_entries h more) (party-there n round (party.Late n number) h more words own)
late-by None round n number e stays h more some words own = absurd (cc)

some-below : (kinds : List Kind) (at : ℕ) (k : Option Kind) → slice_get kinds at ≡ k → IsSome k → at < length kinds
some-below kinds at (Some k) got some = get-below kinds at k got
some-below kinds at None got some = absurd (cc)

module _ (f : Shared) (job : ℕ) (wait : JobWait) (g : Shared) (some : IsSome (kind_at f wait.at))
    (long : length f.board.kinds ≤ length f.seen) where
  there : wait.at < length f.seen
  there = omega (arith, some-below f.board.kinds wait.at (kind_at f wait.at) refl some, long)

  seen-now : (got : FloorLeave) (leaves : Leaves f job wait got g)
      → seen_at g wait.at ≡ with_entries (seen_at f wait.at) leaves.sees.more
  seen-now got leaves = seen-here f wait.at _ g leaves.sees there

  -- what a leave has whose wait hadn't come with its number
  own-left : (got : FloorLeave) (leaves : Leaves f job wait got g) → came_of f job ≡ false
      → own_entries f.number leaves.sees.more
      ≡ leave_entries (kind_at f wait.at) wait.round f.number wait.number got leaves.stays
  own-left got leaves hadnt =
      leaves.sees.mine
      ∙ ap (λ b. unless_came b (leave_entries (kind_at f wait.at) wait.round f.number wait.number got leaves.stays))
      hadnt

  pub gone-told : Leaves f job wait Gone g → HasLeftLine (seen_at g wait.at) wait.round g.number wait.number
  gone-told leaves =
      rw (seen-now Gone leaves, leaves.sees.same.number)
      (gone-by (kind_at f wait.at) wait.round f.number wait.number leaves.stays
      (seen_at f wait.at) leaves.sees.more some
      leaves.sees.words (own-left Gone leaves (never (came_of f job) leaves.found)))
    where
      never : (b : Bool) → IsLate b Gone → b ≡ false
      never true late = absurd late
      never false late = refl

  pub late-told : (e : ℕ) → came_of f job ≡ false → Leaves f job wait (Late e) g
      → WasTooLate (seen_at g wait.at) wait.round g.number wait.number
  late-told e hadnt leaves =
      rw (seen-now (Late e) leaves, leaves.sees.same.number)
      (late-by (kind_at f wait.at) wait.round f.number wait.number e leaves.stays (seen_at f wait.at) leaves.sees.more
      some leaves.sees.words (own-left (Late e) leaves hadnt))
