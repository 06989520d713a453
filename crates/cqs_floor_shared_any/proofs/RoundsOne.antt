-- One round of a barrier that workers share: each call by what it left of the pass.
use Rattle.std.proofs.Common.{◌≡◌, ◌⊎◌, inl, inr, ℕ, ◌+◌, ◌-◌, ◌≤◌, Bool, true, false, List, [], ◌∷◌, ◌++◌, drop, Some, None, sum_by, refl, ap, sym, ◌∙◌, subst, arith}
use Rattle.std.specs.Arc.{arc_value}
use Rattle.std.proofs.lemmas.Bool.{false≢true}
use Rattle.std.proofs.lemmas.List.Elements.{filter-append}
use Rattle.cqs_barrier.specs.declared.answers.Arrived.TheVariants as arrived
use Rattle.cqs_barrier.specs.declared.answers.Owing.{Owing}
use Rattle.cqs_barrier.specs.declared.answers.PartyLeft.TheVariants as left
use Rattle.cqs_barrier.specs.declared.answers.PartyPolled.TheVariants as polled
use Rattle.cqs_barrier.specs.declared.answers.PartyWait.{PartyWait}
use Rattle.cqs_barrier.specs.Answers.{IsPolled}
use Rattle.cqs_barrier.specs.Arriving.{Arrives, CameLast, IsWorn}
use Rattle.cqs_barrier.specs.Barrier.{barrier_object}
use Rattle.cqs_barrier.specs.Calls.{CallRule, IsMine, Rests}
use Rattle.cqs_barrier.specs.Entries.{polled_entries}
use Rattle.cqs_barrier.specs.Leaving.{HasLeft as HasLeftWait}
use Rattle.cqs_barrier.specs.Waits.{wait_in}
use Rattle.cqs_barrier_object.specs.declared.entries.BarrierEntry.{BarrierEntry}
use Rattle.cqs_barrier_object.specs.declared.entries.BarrierEntry.TheVariants as entry
use Rattle.cqs_barrier_object.specs.BarrierEntries.{IsLegal}
use Rattle.cqs_barrier_object.specs.BarrierNames.{entry_names}
use Rattle.cqs_barrier_object.specs.SoleCaller.{delivers}
use Rattle.cqs_core.specs.Numbered.{IsIn}
use Rattle.cqs_core.specs.Parts.{Has, part}
use Rattle.cqs_plan.specs.declared.floors.answers.FloorLeave.{FloorLeave}
use Rattle.cqs_plan.specs.declared.floors.answers.FloorLeave.TheVariants.{Gone, Late}
use Rattle.cqs_plan.specs.declared.floors.answers.FloorLook.TheVariants.{Pending, Granted}
use Rattle.cqs_rule_laws.specs.declared.config.Place.{Place}
use Rattle.cqs_rule.specs.declared.queue.tokens.Wait.{Wait}
use Rattle.cqs_rule_laws.specs.declared.view.Opening.{Opening}
use Rattle.cqs_rule_laws.specs.declared.view.View.{View}
use Rattle.cqs_rule_laws.specs.Lists.{IsDistinct, without}
use Rattle.cqs_rule.specs.Waits.{place_of}
use Rattle.cqs_floor_shared.specs.AnswerEntries.{party_arrived, party_left}
use Rattle.cqs_floor_shared_any.specs.declared.kinds.round.SharedRound.{SharedRound}
use Rattle.cqs_floor_shared_kinds.specs.declared.resource.Came.TheVariants as came
use Rattle.cqs_floor_shared_kinds.specs.Accounts.{over}
use Rattle.cqs_floor_shared_any.specs.RoundsOne.{CanCome, CanLeave, Crew, Goes, HasCome, HasLeft, HasLooked, HasNumbers, IsRound, LeavesAt, lasts, numbers_of, to_arrive, view_of}
use Rattle.cqs_floor_shared_kinds.specs.Runs.{Stays, Went}
use Rattle.cqs_floor_shared_kinds.proofs.Accounts.{over-next}
use Rattle.cqs_floor_shared_any.proofs.RoundsHistory.{delivered-over, drawn-is, last-over, stays-over}
use Rattle.cqs_floor_shared_kinds.proofs.Runs.{first-once, has-other, last-in, some-number, stays-call, waits-token, went-then}

in-all : (n : ℕ) (own : List ℕ) → Has n (drop 1 own) → Has n own
in-all n [] has = absurd has
in-all n (m ∷ own) has = inr has

-- a call of the barrier, and one in which the pass has no entry of its own
pub called-went : {T : Type 0} (v w : View BarrierEntry T) (own further : List BarrierEntry) → HasNumbers v
    → CallRule v own further w → Went barrier_object v own w
called-went v w own further numbers rule = record {
  more = rule.called.more;
  seen = rule.called.seen;
  mine = rule.mine;
  others = λ n has.
      rule.called.mine n (has-other n v.own v.number numbers.first has)
      ∙ filter-append (entry_names n) own further
      ∙ ap (λ es. es ++ part entry_names n further)
      (rule.only n (first-once n v.own v.number numbers.first numbers.distinct has))
      ∙ rule.nobody n;
  legal = rule.legal;
  same = stays-call v w rule.called.same;
}

pub silent : {T : Type 0} (v w : View BarrierEntry T) (further : List BarrierEntry) → CallRule v [] further w
    → Went barrier_object v [] w
silent v w further rule = record {
  more = rule.called.more;
  seen = rule.called.seen;
  mine = rule.mine;
  others = λ n has. rule.called.mine n (in-all n v.own has) ∙ rule.nobody n;
  legal = rule.legal;
  same = stays-call v w rule.called.same;
}

-- the numbers stay as they were
pub numbers-then : {T : Type 0} (v w : View BarrierEntry T) → Stays v w → HasNumbers v → HasNumbers w
numbers-then v w same numbers = record {
  first = same.own ∙ numbers.first ∙ ap (λ n. n ∷ drop 1 v.own) (sym same.number)
      ∙ ap (λ (own : List ℕ). w.number ∷ drop 1 own) (sym same.own);
  distinct = subst IsDistinct (sym same.own) numbers.distinct;
}

-- a leaving that others were in the way of, and then went on
pub leaves-then : (k : ℕ) (v u w : View BarrierEntry (Unit {0})) (answer : FloorLeave) → Went barrier_object v [] u
    → u.facts.has.held ≡ v.facts.has.held → u.facts.waits ≡ v.facts.waits → LeavesAt k u answer w
    → LeavesAt k v answer w
leaves-then k v u w Gone went held waits (goes, rests) = (
  went-then barrier_object v u w [] (entry.Withdraw v.number k ∷ []) went
      (subst (λ n. Went barrier_object u (entry.Withdraw n k ∷ []) w) went.same.number goes),
  record {
    ready = rests.ready;
    held_is = rests.held_is ∙ ap (λ n. n + 1) held;
    waits_are = rests.waits_are ∙ ap (without k) waits;
  },
)
leaves-then k v u w (Late e) went held waits (none, stays, goes, rests) = (
  none,
  stays,
  went-then barrier_object v u w [] (party_left v.number k (Late e) stays) went
      (subst (λ n. Went barrier_object u (party_left n k (Late e) stays) w) went.same.number goes),
  record {
    ready = rests.ready;
    held_is = rests.held_is ∙ held;
    waits_are = rests.waits_are ∙ ap (without k) waits;
  },
)

-- what a cancel or a leaving that went on came to
pub left-gone : (k : ℕ) (v w : View BarrierEntry (Unit {0})) → HasNumbers v → HasLeftWait k v left.Withdrawn w
    → LeavesAt k v Gone w
left-gone k v w numbers (rule, rests, some) =
    (called-went v w (entry.Withdraw v.number k ∷ []) [] numbers rule, rests)

pub left-late : (k : ℕ) (v w : View BarrierEntry (Unit {0})) → HasNumbers v → HasLeftWait k v left.TooLate w
    → LeavesAt k v (Late 0) w
left-late k v w numbers (inl (rule, rests, none)) =
    (refl, true, called-went v w (entry.Stay v.number k ∷ []) [] numbers rule, rests)
left-late k v w numbers (inr (rule, rests, cell)) =
    (refl, false, called-went v w (entry.Late v.number k ∷ []) [] numbers rule, rests)

-- the numbers of a round's pass
pub round-numbers : (parties : ℕ) (crew : Crew) (x : SharedRound) → IsRound parties crew x → HasNumbers (view_of x)
round-numbers parties crew x round = record {
  first = round.own ∙ ap (λ n. n ∷ crew.met) (sym round.number)
      ∙ ap (λ (own : List ℕ). (view_of x).number ∷ drop 1 own) (sym round.own);
  distinct = subst IsDistinct (sym round.own) round.distinct;
}

module _ (x y : SharedRound) (same_one : y.barrier ≡ x.barrier) (mine : IsMine (arc_value x.barrier) y.pass) where
  abbrev v : View BarrierEntry (Unit {0})
  v = view_of x

  abbrev w : View BarrierEntry (Unit {0})
  w = view_of y

  -- the round is one still, by what was told
  pub goes-by : (entries : List BarrierEntry) (held : ℕ) (waits : List ℕ) → Went barrier_object v entries w
      → Rests v held waits w → (y.over ≡ true → (x.over ≡ true) ⊎ (to_arrive w.opening.size w.seen ≡ 0))
      → (y.over ≡ false → (x.over ≡ false) × (sum_by lasts entries ≡ 0)) → Goes entries held waits x y
  goes-by entries held waits went rests tells hides = record {
    same_one = same_one;
    mine = mine;
    went = went;
    rests = rests;
    keeps = λ parties crew round.
        let size : w.opening.size ≡ parties = ap (λ (o : Opening). o.size) went.same.opening ∙ round.size_is in
        let legal : IsLegal parties w.seen = subst (λ n. IsLegal n w.seen) size went.legal in
        record {
          mine = subst (λ b. IsMine (arc_value b) y.pass) (sym same_one) mine;
          size_is = size;
          ready = rests.ready;
          number = went.same.number ∙ round.number;
          own = went.same.own ∙ round.own;
          distinct = round.distinct;
          passes = went.same.passes ∙ round.passes;
          limit = went.same.limit ∙ round.limit;
          told = λ is. told parties crew round size legal (tells is);
          untold = λ is.
              let none = hides is in
              let before = round.untold none.0 in
              let next = over-next entry_names lasts crew.number crew.met v.seen went.more entries
              (subst (λ n. part entry_names n went.more ≡ entries) round.number went.mine)
              (λ n has. went.others n (subst (Has n) (sym (ap (λ (own : List ℕ). drop 1 own) round.own)) has)) in
              ap (over entry_names lasts (numbers_of crew)) went.seen ∙ next ∙ omega (arith, before, none.1);
        };
  }
    where
      told : (parties : ℕ) (crew : Crew) → IsRound parties crew x → w.opening.size ≡ parties → IsLegal parties w.seen
          → (x.over ≡ true) ⊎ (to_arrive w.opening.size w.seen ≡ 0) → to_arrive parties w.seen ≡ 0
      told parties crew round size legal (inl was) =
          stays-over parties v.seen went.more w.seen went.seen legal (round.told was)
      told parties crew round size legal (inr now) = subst (λ n. to_arrive n w.seen ≡ 0) size now

  -- a call that told nothing
  module _ (same_over : y.over ≡ x.over) where
    pub goes-on : (entries : List BarrierEntry) (held : ℕ) (waits : List ℕ) → Went barrier_object v entries w
        → Rests v held waits w → sum_by lasts entries ≡ 0 → Goes entries held waits x y
    goes-on entries held waits went rests none =
        goes-by entries held waits went rests (λ is. inl (sym same_over ∙ is)) (λ is. (sym same_over ∙ is, none))

    pub comes-later : (can : CanCome x) (wait : PartyWait) (place : Place) → place ≡ place_of (wait_in wait)
        → Arrives v (arrived.Later wait) w → HasCome x (came.Waits place) y
    comes-later can wait place is (early, has, rests) =
        let numbers = round-numbers can.parties can.crew x can.round in
        subst (λ at. HasCome x (came.Waits at) y) (sym is) (
          goes-on (party_arrived v.number (Some (place_of (wait_in wait)).index)) (v.facts.has.held - 1) _
              (called-went v w _ [] numbers early.called) rests refl,
          waits-token w (wait_in wait) has,
        )

    pub comes-worn : CanCome x → IsWorn v w → HasCome x came.Worn y
    comes-worn can worn =
        let numbers = round-numbers can.parties can.crew x can.round in (
          goes-on [] v.facts.has.held v.facts.waits (called-went v w [] [] numbers worn.called) worn.rests refl,
          subst (λ n. v.limit ≤ n) (drawn-is w.opening.size w.seen) worn.worn,
        )

    module _ (wait : Wait) (at : Place) (is : place_of wait ≡ at) (can : CanLeave at x) where
      abbrev k : ℕ
      k = (place_of wait).index

      numbers : HasNumbers v
      numbers = round-numbers can.parties can.crew x can.round

      pub looks-pending : (again : PartyWait) → CallRule v (polled_entries v.number k (polled.Pending again)) [] w
          → IsPolled wait v (polled.Pending again) w → HasLooked at x Pending y
      looks-pending again rule (here, has, cell, rests) =
          subst (λ p. HasLooked p x Pending y) is
          (goes-on (entry.LookPending v.number k ∷ []) v.facts.has.held v.facts.waits
          (called-went v w (entry.LookPending v.number k ∷ []) [] numbers rule) rests refl)

      pub looks-through : CallRule v (polled_entries v.number k polled.Through) [] w
          → IsPolled wait v polled.Through w → HasLooked at x (Granted 0) y
      looks-through rule (cell, rests) =
          subst (λ p. HasLooked p x (Granted 0) y) is (
            refl,
            goes-on (entry.LookGranted v.number k ∷ []) v.facts.has.held (without k v.facts.waits)
                (called-went v w (entry.LookGranted v.number k ∷ []) [] numbers rule) rests refl,
          )

      pub leaves-by : (answer : FloorLeave) → LeavesAt k v answer w → HasLeft at x answer y
      leaves-by Gone (went, rests) =
          subst (λ p. HasLeft p x Gone y) is
          (goes-on (entry.Withdraw v.number k ∷ []) (v.facts.has.held + 1) (without k v.facts.waits) went rests refl)
      leaves-by (Late e) (none, stays, went, rests) =
          subst (λ p. HasLeft p x (Late e) y) is (
            none,
            stays,
            goes-on (party_left v.number k (Late e) stays) v.facts.has.held (without k v.facts.waits) went rests
                (no-last v.number k e stays),
          )
        where
          no-last : (c n e : ℕ) (stays : Bool) → sum_by lasts (party_left c n (Late e) stays) ≡ 0
          no-last c n e true = refl
          no-last c n e false = refl

  -- an arrival that goes on is told that all have arrived
  module _ (is_over : y.over ≡ true) (can : CanCome x) where
    numbers-of-it : HasNumbers v
    numbers-of-it = round-numbers can.parties can.crew x can.round

    goes-over : (entries : List BarrierEntry) → Went barrier_object v entries w
        → Rests v (v.facts.has.held - 1) v.facts.waits w → to_arrive w.opening.size w.seen ≡ 0
        → Goes entries (v.facts.has.held - 1) v.facts.waits x y
    goes-over entries went rests none =
        goes-by entries (v.facts.has.held - 1) v.facts.waits went rests (λ is. inr none)
        (λ is. absurd (false≢true (sym is ∙ is_over)))

    was-last : (u : View BarrierEntry (Unit {0})) (ks : List ℕ) → CameLast ks v u → Went barrier_object u [] w
        → to_arrive w.opening.size w.seen ≡ 0
    was-last u ks came after =
        let found = came.last.found in
        let size : w.opening.size ≡ u.opening.size = ap (λ (o : Opening). o.size) after.same.opening in
        let over = last-over u.opening.size v.number came.last.before found.seen.0 u.seen found.seen.1
        came.called.legal in
        stays-over w.opening.size u.seen after.more w.seen after.seen after.legal
        (subst (λ n. to_arrive n u.seen ≡ 0) (sym size) over)

    pub comes-last : Arrives v arrived.Last w → HasCome x (came.Now 0) y
    comes-last (inl (ks, came), rests) = (
      refl,
      record {
        drew = None;
        goes = goes-over (entry.ArriveLast v.number ∷ [])
            (called-went v w (entry.ArriveLast v.number ∷ []) (delivers ks) numbers-of-it came.called) rests
            (last-over w.opening.size v.number came.last.before came.last.found.seen.0 w.seen came.last.found.seen.1
            came.called.legal);
        had = λ k none. absurd (cc);
      },
    )
    comes-last (inr (k, came), rests) =
        let ends = came.ends in (
          refl,
          record {
            drew = Some k;
            goes = goes-over (entry.ArriveDoor v.number ∷ entry.Enter v.number k ∷ [])
                (called-went v w (entry.ArriveDoor v.number ∷ entry.Enter v.number k ∷ []) (entry.Deliver k ∷ [])
                numbers-of-it came.called) rests
                (delivered-over w.opening.size k ends.0 w.seen ends.1 came.called.legal);
            had = λ j is. subst (λ n. IsIn (entry.Deliver n) w.seen) (some-number k j is)
                (last-in w.seen ends.0 (entry.Deliver k) ends.1);
          },
        )

    -- one that owed a rest, and finished it
    pub comes-owing : (owing : Owing) (u : View BarrierEntry (Unit {0})) → Arrives v (arrived.LastOwing owing) u
        → Went barrier_object u [] w → Rests u u.facts.has.held u.facts.waits w → HasCome x (came.Now 0) y
    comes-owing owing u (ks, came, owes, back, held, waits) after rests = (
      refl,
      record {
        drew = None;
        goes = goes-over (entry.ArriveLast v.number ∷ [])
            (went-then barrier_object v u w (entry.ArriveLast v.number ∷ []) []
            (called-went v u (entry.ArriveLast v.number ∷ []) (delivers ks) numbers-of-it came.called) after)
            (record {
              ready = rests.ready;
              held_is = rests.held_is ∙ held;
              waits_are = rests.waits_are ∙ waits;
            })
            (was-last u ks came after);
        had = λ k none. absurd (cc);
      },
    )
