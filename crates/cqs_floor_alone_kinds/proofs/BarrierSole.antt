-- The rounds of a barrier of the running queue are a resource as a floor needs it: each call by what it left of the
-- pass of its round.
use Rattle.std.proofs.Common.{◌≡◌, ◌≢◌, ◌⊎◌, inl, inr, ℕ, zero, suc, ◌+◌, ◌-◌, ◌<◌, ◌≤◌, ◌==◌, nat_lt, true, false, List, [], ◌∷◌, ◌++◌, count_by, length, replicate, set, get_or, slice_get, Option, Some, None, is_some, refl, ap, sym, ◌∙◌, subst, lt-ltb, ne_eqb, length-set, arith}
use Rattle.std.specs.List.{fold}
use Rattle.std.specs.Option.{option_map}
use Rattle.std.proofs.lemmas.Bool.{cases_eq}
use Rattle.std.proofs.lemmas.List.{append-nil, length-map, map-set}
use Rattle.std.proofs.lemmas.List.Sums.{count_by-le-length, sum_by-cons}
use Rattle.std.proofs.lemmas.Option.{get_or_from_slice_get, same_Some, slice_get-get_or, slice_get-map}
use Rattle.cqs_core.specs.Numbered.{EachAt}
use Rattle.cqs_core.specs.QueueWaiters.{IsServed, Waiters}
use Rattle.cqs_core.proofs.Counts.{bit, count_by-write}
use Rattle.cqs_core.proofs.EachAtLemmas.{EachAt-write}
use Rattle.cqs_core.proofs.Places.{get-below, get-set_else, get-set_here, set-same}
use Rattle.cqs_core.proofs.IdleLines.{served-past}
use Rattle.cqs_plan.specs.declared.floors.answers.FloorEnd.TheVariants as end
use Rattle.cqs_plan.specs.declared.plans.kind.Kind.{Kind}
use Rattle.cqs_plan.specs.declared.plans.kind.Kind.TheVariants as kind
use Rattle.cqs_plan.specs.Floor.{HasRound, size_of}
use Rattle.cqs_plan.specs.FloorHistory.{Deed, of_rounds, joins, gets, leaves, is_late, completes, barrier_after, barrier_entries, entries_in, is_over, with_deed_in}
use Rattle.cqs_plan.proofs.PoolSeats.{waits-found}
use Rattle.cqs_barrier_object.specs.declared.entries.BarrierEntry.{BarrierEntry}
use Rattle.cqs_barrier_object.specs.declared.entries.BarrierEntry.TheVariants as entry
use Rattle.cqs_barrier_object.specs.BarrierEntries.{IsLegal, after_entry, object_after}
use Rattle.cqs_barrier_object.specs.BarrierObject.{Barrier}
use Rattle.cqs_barrier_object.specs.SoleCaller.{delivers}
use Rattle.cqs_barrier.specs.Calls.{plain_after, waiting_in}
use Rattle.cqs_barrier.proofs.AloneLine.{all-idle, sees}
use Rattle.cqs_barrier.proofs.AloneOrder.{allowed-at}
use Rattle.cqs_rule_laws.specs.declared.config.Place.{Place}
use Rattle.cqs_rule_laws.specs.declared.view.Opening.{Opening}
use Rattle.cqs_rule_laws.specs.declared.view.View.{View}
use Rattle.cqs_rule_laws.specs.Lists.{Has, without}
use Rattle.cqs_rule.specs.Passes.{pass_view}
use Rattle.cqs_rule_laws.proofs.Lists.{has_append, has_left, has_without, without_has}
use Rattle.cqs_floor_alone_kinds.specs.declared.round_sole.RoundSole.{RoundSole}
use Rattle.cqs_floor_alone_kinds.specs.declared.rounds_sole.RoundsSole.{RoundsSole}
use Rattle.cqs_floor_alone_kinds.specs.declared.sole_resource.Left.{Left}
use Rattle.cqs_floor_alone_kinds.specs.declared.sole_resource.Left.TheVariants as left
use Rattle.cqs_floor_alone_kinds.specs.declared.sole_resource.Looked.{Looked}
use Rattle.cqs_floor_alone_kinds.specs.declared.sole_resource.Looked.TheVariants as looked
use Rattle.cqs_floor_alone_kinds.specs.SoleRound as in_round
use Rattle.cqs_floor_alone_kinds.specs.SoleRound.{ComesTo, HasArrived, HasLeft, HasLooked, IsFundedRound, IsOpenedRound, news}
use Rattle.cqs_floor_alone_kinds.specs.SoleRounds.{HasIn, IsFunded, IsOfRounds, all_seen, seen_of, store_rounds}
use Rattle.cqs_floor_alone_kinds.specs.Stores.{Arrives, CanArrive, CanEnd, Cancels, IsOpened, Polls, Tells, is_holdable, is_in_line, stands_in}
use Rattle.cqs_floor_alone_kinds.specs.Waits.{WaitsAt}
use Rattle.cqs_floor_alone_kinds.proofs.OneRound.{delivered-next, delivers-line, funded-less, funded-next, news-delivers, object-next, seen-next}
use Rattle.cqs_floor_alone_kinds.proofs.RoundRests.{delivered-remaining}
use Rattle.cqs_floor_alone_kinds.proofs.RoundsLawful.{seen-object}

-- nothing of a barrier is held
holds-nothing : (kind : Option Kind) (many : ℕ) → IsOfRounds kind many → is_holdable kind ≡ false
holds-nothing (Some (kind.Rounds n m)) many sort = refl
holds-nothing (Some (kind.Semaphore n)) many sort = absurd sort
holds-nothing (Some kind.Mutex) many sort = absurd sort
holds-nothing (Some (kind.Pool n)) many sort = absurd sort
holds-nothing (Some (kind.Latch n)) many sort = absurd sort
holds-nothing None many sort = absurd sort

-- a round that the barrier has is there
round-below : (kind : Option Kind) (many round : ℕ) → IsOfRounds kind many → HasRound kind round → round < many
round-below (Some (kind.Rounds n m)) many round sort has = omega (arith, sort, has)
round-below (Some (kind.Semaphore n)) many round sort has = absurd sort
round-below (Some kind.Mutex) many round sort has = absurd sort
round-below (Some (kind.Pool n)) many round sort has = absurd sort
round-below (Some (kind.Latch n)) many round sort has = absurd sort
round-below None many round sort has = absurd sort

-- a wait that was served stands in the line no more
round-past : (parties room : ℕ) (x : RoundSole) → IsFundedRound parties room x → (k c : ℕ)
    → IsServed k c (plain_after (pass_view x.pass)).waiters.served
    → is_in_line k (plain_after (pass_view x.pass)).waiters.line ≡ false
round-past parties room x funded k c served =
    let v = pass_view x.pass in
    let a = funded.mine.alone x.pass.live.0 funded.rests.alone in
    ap (λ (w : Waiters). is_in_line k w.line) (sees v a)
    ∙ served-past a.hidden.queue k c a.shown.barrier.sound (all-idle v a funded.rests.ready.idle)
    (subst (λ (w : Waiters). IsServed k c w.served) (sees v a) served)

-- a round in which somebody is still to arrive isn't over
not-over : (n : ℕ) → 0 < n → bit (n == 0) ≡ 0
not-over n some = ap bit (ne_eqb n 0 (λ none. absurd (omega (arith, some, none))))

-- so few are over that one more can be counted
pub few-over : (x : RoundsSole) (kind : Option Kind) (room waiting : ℕ) (held : List (List ℕ))
    → IsFunded x kind room waiting held → x.over ≤ 64
few-over x kind room waiting held funded =
    let many = count_by-le-length (is_over (size_of kind)) (all_seen x.rounds.items) in
    omega (arith, many, funded.over, length-map x.rounds.items seen_of, funded.few)

-- the round in which a party may arrive, and that of a wait, are there
pub arrives-below : (x : RoundsSole) (job round : ℕ) → CanArrive store_rounds job round x
    → round < length x.rounds.items
arrives-below x job round can = round-below can.kind _ round can.funded.sort can.barrier

pub ends-below : (x : RoundsSole) (job round : ℕ) (wait : Place) → CanEnd store_rounds job round wait x
    → round < length x.rounds.items
ends-below x job round wait can = get-below x.rounds.items round can.has.sole can.has.there

-- the round that an index finds
pub stands-there : (x : RoundsSole) (round : ℕ) (a : RoundSole) → round < length x.rounds.items
    → a ≡ get_or x.rounds.items round a → slice_get x.rounds.items round ≡ Some a
stands-there x round a below is = slice_get-get_or x.rounds.items round a below ∙ ap Some (sym is)

-- the pass of one round
module _ (x : RoundsSole) (round : ℕ) (a : RoundSole) (there : slice_get x.rounds.items round ≡ Some a) where
  abbrev v : View BarrierEntry (Unit {0})
  v = pass_view a.pass

  abbrev o : Barrier
  o = plain_after v

  abbrev all : List (List BarrierEntry)
  all = all_seen x.rounds.items

  seen-there : slice_get all round ≡ Some (seen_of a)
  seen-there = slice_get-map seen_of x.rounds.items round ∙ ap (option_map seen_of) there

  entries-there : entries_in all round ≡ seen_of a
  entries-there = get_or_from_slice_get all round (seen_of a) [] seen-there

  -- the plain barrier of the round, as a floor sees it
  object-there : (kind : Option Kind) (room waiting : ℕ) (held : List (List ℕ))
      → IsFunded x kind room waiting held
      → barrier_after (size_of kind) (entries_in all round) ≡ o
  object-there kind room waiting held funded =
      ap (object_after (size_of kind)) entries-there
      ∙ seen-object (size_of kind) room a (funded.each.at round a there)

  -- a wait of this round is one of its pass
  has-there : (wait : Place) → HasIn x round wait → WaitsAt v wait
  has-there wait has =
      subst (λ (s : RoundSole). WaitsAt (pass_view s.pass) wait)
      (same_Some has.sole a (sym has.there ∙ there)) has.waits

  -- what may be done in it
  pub arrives-there : (job : ℕ) → CanArrive store_rounds job round x → in_round.CanArrive a
  arrives-there job can = record {
    parties = _;
    room = _;
    funded = can.funded.each.at round a there;
    some = can.some;
    to_come = subst (λ (q : Barrier). 0 < q.remaining)
        (object-there can.kind can.room can.waiting can.held can.funded) can.to_come;
  }

  pub ends-there : (job : ℕ) (wait : Place) → CanEnd store_rounds job round wait x → in_round.CanLeave wait a
  ends-there job wait can = record {
    parties = _;
    room = _;
    funded = can.funded.each.at round a there;
    has = has-there wait can.has;
  }

  -- in y the round is this one
  module _ (y : RoundsSole) (b : RoundSole) (written : y.rounds.items ≡ set x.rounds.items round b) where
    all-next : all_seen y.rounds.items ≡ set all round (seen_of b)
    all-next = ap all_seen written ∙ map-set seen_of x.rounds.items round b

    new-there : slice_get y.rounds.items round ≡ Some b
    new-there = ap (λ rs. slice_get rs round) written ∙ get-set_here x.rounds.items round a b there

    -- the round went on by these entries, and its pass has these waits
    module _ (entries : List BarrierEntry) (waits : List ℕ) (c : ComesTo entries waits a b) where
      abbrev then_is : Barrier
      then_is = fold after_entry o entries

      -- what happened, in the floor's words
      done-by : (deed : Deed) (kind : Option Kind) (room waiting : ℕ) (held : List (List ℕ))
          → IsFunded x kind room waiting held → news entries ≡ barrier_entries o.waiters.line deed
          → store_rounds.history y ≡ with_deed_in (size_of kind) (store_rounds.history x) round deed
      done-by deed kind room waiting held funded fresh =
          let here = sym (object-there kind room waiting held funded) in
          let told : news entries
          ≡ barrier_entries (barrier_after (size_of kind) (entries_in all round)).waiters.line deed =
          fresh ∙ ap (λ (q : Barrier). barrier_entries q.waiters.line deed) here in
          ap of_rounds (all-next
          ∙ ap (set all round) (seen-next a b entries waits c ∙ ap (λ es. seen_of a ++ es) told
          ∙ ap (λ es. es ++ barrier_entries (barrier_after (size_of kind) (entries_in all round)).waiters.line deed)
          (sym entries-there)))

      -- the rounds keep their waits, in this round those that its pass has on
      keeps-by : (r : ℕ) (wait : Place) → (r ≡ round → Has wait.index v.facts.waits → Has wait.index waits)
          → HasIn x r wait → HasIn y r wait
      keeps-by r wait on has = go (cases_eq r round)
        where
          go : (r ≡ round) ⊎ (r ≢ round) → HasIn y r wait
          go (inl same) =
              let was : WaitsAt v wait = has-there wait (subst (λ n. HasIn x n wait) same has) in
              record {
                sole = b;
                there = ap (slice_get y.rounds.items) same ∙ new-there;
                waits = c.keeps wait was (subst (Has wait.index) (sym c.waits_are) (on same was.open_yet));
              }
          go (inr other) = record {
            sole = has.sole;
            there = ap (λ rs. slice_get rs r) written
                ∙ get-set_else x.rounds.items round r b (λ same. other (sym same)) ∙ has.there;
            waits = has.waits;
          }

      -- they are funded so then, where the plain barrier after the entries stands so
      funded-by : (kind : Option Kind) (room room' waiting waiting' : ℕ) (held held' : List (List ℕ))
          → IsFunded x kind room waiting held → room' ≤ room
          → then_is.waiters.next + room' ≤ o.waiters.next + room
          → ((k : ℕ) → Has k waits → k < then_is.waiters.next)
          → y.over + bit (o.remaining == 0) ≡ x.over + bit (then_is.remaining == 0)
          → IsFunded y kind room' waiting' held'
      funded-by kind room room' waiting waiting' held held' funded less few drawn over =
          let size = size_of kind in
          let one = funded.each.at round a there in
          let next : IsFundedRound size room' b = funded-next a b entries waits c size room room' one few drawn in
          let long : length y.rounds.items ≡ length x.rounds.items =
          ap length written ∙ length-set x.rounds.items round b in
          let counted : count_by (is_over size) (set all round (seen_of b)) + bit (is_over size (seen_of a))
          ≡ count_by (is_over size) all + bit (is_over size (seen_of b)) =
          count_by-write (is_over size) all round (seen_of a) (seen_of b) seen-there in
          let before : bit (is_over size (seen_of a)) ≡ bit (o.remaining == 0) =
          ap (λ (q : Barrier). bit (q.remaining == 0)) (seen-object size room a one) in
          let after : bit (is_over size (seen_of b)) ≡ bit (then_is.remaining == 0) =
          ap (λ (q : Barrier). bit (q.remaining == 0))
          (seen-object size room' b next ∙ object-next a b entries waits c) in
          let all_of : count_by (is_over size) (all_seen y.rounds.items)
          ≡ count_by (is_over size) (set all round (seen_of b)) = ap (count_by (is_over size)) all-next in
          record {
            sort = subst (IsOfRounds kind) (sym long) funded.sort;
            few = omega (arith, long, funded.few);
            each = subst (EachAt (λ r s. IsFundedRound size room' s)) (sym written)
                (EachAt-write (λ r s. IsFundedRound size room s) (λ r s. IsFundedRound size room' s) x.rounds.items
                round a b there next (λ r s got other one. funded-less s size room room' less one) funded.each);
            over = omega (arith, over, counted, before, after, all_of, funded.over);
          }

    -- An arrival.
    rounds-complete : (job : ℕ) → HasArrived a None b → y.over ≡ x.over + 1
        → Arrives store_rounds job round x None y
    rounds-complete job (last, c) over kind room waiting held funded some =
        let entries : List BarrierEntry = entry.ArriveLast 0 ∷ delivers (waiting_in v) in
        let next : (fold after_entry o entries).waiters.next ≡ o.waiters.next =
        delivered-next (waiting_in v) (after_entry o (entry.ArriveLast 0)) in
        let none : (fold after_entry o entries).remaining ≡ 0 =
        delivered-remaining (waiting_in v) (after_entry o (entry.ArriveLast 0)) in
        let before : bit (o.remaining == 0) ≡ 0 = not-over o.remaining (omega (arith, last)) in
        let after : bit ((fold after_entry o entries).remaining == 0) ≡ 1 = ap (λ n. bit (n == 0)) none in (
          ap (λ (q : Barrier). nat_lt 1 q.remaining) (object-there kind room waiting held funded)
              ∙ ap (nat_lt 1) last,
          record {
            goes = record {
              done = done-by entries _ c completes kind room waiting held funded
                  (ap (λ es. entry.ArriveLast 0 ∷ es)
                  (news-delivers (waiting_in v) ∙ delivers-line o.waiters.line));
              funded = funded-by entries _ c kind room (room - 1) waiting waiting held held funded (omega arith)
                  (omega (arith, next))
                  (λ k has. let under = (funded.each.at round a there).rests.drawn k has in omega (arith, under, next))
                  (omega (arith, over, before, after));
            };
            keeps = λ r wait has. keeps-by entries _ c r wait (λ same had. had) has;
          },
        )

    rounds-join : (job : ℕ) (place : Place) → HasArrived a (Some place) b → y.over ≡ x.over
        → Arrives store_rounds job round x (Some place) y
    rounds-join job place (more, next, has, c) over kind room waiting held funded some =
        let k = place.index in
        let entries : List BarrierEntry = entry.ArriveDoor 0 ∷ entry.Enter 0 k ∷ [] in
        let here = object-there kind room waiting held funded in
        let number : k ≡ (stands_in store_rounds kind x round).next =
        next ∙ ap (λ (q : Barrier). q.waiters.next) (sym here) in
        let before : bit (o.remaining == 0) ≡ 0 = not-over o.remaining (omega (arith, more)) in
        let after : bit ((fold after_entry o entries).remaining == 0) ≡ 0 =
        not-over (o.remaining - 1) (omega (arith, more)) in (
          ap (λ (q : Barrier). nat_lt 1 q.remaining) here ∙ lt-ltb 1 o.remaining more,
          record {
            number = number;
            goes = record {
              done = subst (λ n. store_rounds.history y
                  ≡ with_deed_in (size_of kind) (store_rounds.history x) round (joins n)) number
                  (done-by entries _ c (joins k) kind room waiting held funded refl);
              funded = funded-by entries _ c kind room (room - 1) waiting (waiting + 1) held held funded (omega arith)
                  (omega (arith, some))
                  (λ j had. drawn (funded.each.at round a there) j (has_append j v.facts.waits (k ∷ []) had))
                  (omega (arith, over, before, after));
            };
            has = record { sole = b; there = new-there; waits = has };
            keeps = λ r wait had.
                keeps-by entries _ c r wait (λ same on. has_left wait.index v.facts.waits (k ∷ []) on) had;
          },
        )
      where
        drawn : {parties room : ℕ} → IsFundedRound parties room a → (j : ℕ)
            → Has j v.facts.waits ⊎ Has j (place.index ∷ []) → j < o.waiters.next + 1
        drawn one j (inl had) = let under = one.rests.drawn j had in omega (arith, under)
        drawn one j (inr (inl same)) = omega (arith, same, next)
        drawn one j (inr (inr none)) = absurd none

    pub rounds-last : (job : ℕ) (answer : Option Place) → is_some answer ≡ false → HasArrived a answer b
        → y.over ≡ x.over + 1 → Arrives store_rounds job round x answer y
    rounds-last job None last arrived over = rounds-complete job arrived over
    rounds-last job (Some place) last arrived over = absurd (cc)

    pub rounds-wait : (job : ℕ) (answer : Option Place) → is_some answer ≡ true → HasArrived a answer b
        → y.over ≡ x.over → Arrives store_rounds job round x answer y
    rounds-wait job None waits arrived over = absurd (cc)
    rounds-wait job (Some place) waits arrived over = rounds-join job place arrived over

    -- The end of a wait.
    module _ (place : Place) where
      abbrev k : ℕ
      k = place.index

      -- the wait stands in the line, or doesn't, as a floor sees it
      line-reads : (kind : Option Kind) (room waiting : ℕ) (held : List (List ℕ))
          → IsFunded x kind room waiting held
          → (found : _) → is_in_line k o.waiters.line ≡ found
          → is_in_line k (stands_in store_rounds kind x round).line ≡ found
      line-reads kind room waiting held funded found is =
          ap (λ (q : Barrier). is_in_line k q.waiters.line) (object-there kind room waiting held funded) ∙ is

      -- the other waits go on, where the pass's waits are those without this one
      others-on : (r : ℕ) (other : Place) → (r ≡ round → other.index ≢ k) → r ≡ round
          → Has other.index v.facts.waits
          → Has other.index (without k v.facts.waits)
      others-on r other differs same had = without_has other.index k v.facts.waits (differs same) had

      rounds-pend : (job : ℕ) → HasLooked place a looked.Pending b → y.over ≡ x.over
          → Polls store_rounds job x round place looked.Pending y
      rounds-pend job (stands, c) over kind room waiting held funded some job_there =
          let entries : List BarrierEntry = entry.LookPending 0 k ∷ [] in (
            line-reads kind room waiting held funded true (waits-found k 0 o.waiters.line stands),
            record {
              same = ap of_rounds (all-next
                  ∙ ap (set all round) (seen-next a b entries _ c ∙ append-nil (seen_of a))
                  ∙ set-same all round (seen_of a) seen-there);
              funded = funded-by entries _ c kind room room waiting waiting held held funded (omega arith) (omega arith)
                  (funded.each.at round a there).rests.drawn (omega (arith, over));
              keeps = λ r wait has. keeps-by entries _ c r wait (λ same had. had) has;
            },
          )

      -- an end that leaves the line and those still to arrive as they are
      closed : (e : BarrierEntry) → ComesTo (e ∷ []) (without k v.facts.waits) a b
          → (after_entry o e).remaining ≡ o.remaining → (after_entry o e).waiters.next ≡ o.waiters.next
          → y.over ≡ x.over → (kind : Option Kind) (room waiting : ℕ) (held : List (List ℕ))
          → IsFunded x kind room waiting held → IsFunded y kind room (waiting - 1) held
      closed e c same_remaining same_next over kind room waiting held funded =
          let same : bit ((fold after_entry o (e ∷ [])).remaining == 0) ≡ bit (o.remaining == 0) =
          ap (λ n. bit (n == 0)) same_remaining in
          funded-by (e ∷ []) _ c kind room room waiting (waiting - 1) held held funded (omega arith)
          (omega (arith, same_next))
          (λ j has. let under =
          (funded.each.at round a there).rests.drawn j (has_without j k v.facts.waits has).1 in
          omega (arith, under, same_next))
          (omega (arith, over, same))

      rounds-come_through : (job : ℕ) → HasLooked place a looked.Through b → y.over ≡ x.over
          → Polls store_rounds job x round place looked.Through y
      rounds-come_through job (served, c) over kind room waiting held funded some job_there = record {
        holds_nothing = holds-nothing kind _ funded.sort;
        came = refl;
        ends = record {
          found = line-reads kind room waiting held funded false
              (round-past _ _ a (funded.each.at round a there) k 0 served);
          goes = record {
            done = done-by (entry.LookGranted 0 k ∷ []) _ c (gets k 0) kind room waiting held funded refl;
            funded = closed (entry.LookGranted 0 k) c refl refl over kind room waiting held funded;
          };
          keeps = λ r other differs has.
              keeps-by (entry.LookGranted 0 k ∷ []) _ c r other (others-on r other differs) has;
        };
      }

      rounds-are_late : (job : ℕ) → HasLeft place a left.Through b → y.over ≡ x.over
          → Cancels store_rounds job x round place left.Through y
      rounds-are_late job (served, c) over kind room waiting held funded some job_there = record {
        holds_nothing = holds-nothing kind _ funded.sort;
        came = refl;
        ends = record {
          found = line-reads kind room waiting held funded false
              (round-past _ _ a (funded.each.at round a there) k 0 served);
          goes = record {
            done = done-by (entry.Late 0 k ∷ []) _ c (is_late k 0) kind room waiting held funded refl;
            funded = closed (entry.Late 0 k) c refl refl over kind room waiting held funded;
          };
          keeps = λ r other differs has. keeps-by (entry.Late 0 k ∷ []) _ c r other (others-on r other differs) has;
        };
      }

      -- who withdraws was one of those who wait for others
      some-to_come : ComesTo (entry.Withdraw 0 k ∷ []) (without k v.facts.waits) a b → 0 < o.remaining
      some-to_come c =
          let w = pass_view b.pass in
          (allowed-at v.opening.size v.seen [] [] w.seen (entry.Withdraw 0 k) c.seen
          (subst (λ (z : Opening). IsLegal z.size w.seen) c.same.opening c.mine.live.legal)).0

      rounds-leave : (job : ℕ) → HasLeft place a left.Gone b → y.over ≡ x.over
          → Cancels store_rounds job x round place left.Gone y
      rounds-leave job (stands, c) over kind room waiting held funded some job_there =
          let entries : List BarrierEntry = entry.Withdraw 0 k ∷ [] in
          let before : bit (o.remaining == 0) ≡ 0 = not-over o.remaining (some-to_come c) in
          let after : bit ((fold after_entry o entries).remaining == 0) ≡ 0 =
          not-over (o.remaining + 1) (omega arith) in
          record {
            found = line-reads kind room waiting held funded true (waits-found k 0 o.waiters.line stands);
            goes = record {
              done = done-by entries _ c (leaves k) kind room waiting held funded refl;
              funded = funded-by entries _ c kind room room waiting (waiting - 1) held held funded (omega arith)
                  (omega arith)
                  (λ j has. (funded.each.at round a there).rests.drawn j (has_without j k v.facts.waits has).1)
                  (omega (arith, over, before, after));
            };
            keeps = λ r other differs has. keeps-by entries _ c r other (others-on r other differs) has;
          }

      pub rounds-look : (job : ℕ) (answer : Looked) → HasLooked place a answer b → y.over ≡ x.over
          → Polls store_rounds job x round place answer y
      rounds-look job looked.Pending found over = rounds-pend job found over
      rounds-look job (looked.Got element) found over = absurd found
      rounds-look job looked.Through found over = rounds-come_through job found over

      pub rounds-withdraw : (job : ℕ) (answer : Left) → HasLeft place a answer b → y.over ≡ x.over
          → Cancels store_rounds job x round place answer y
      rounds-withdraw job left.Gone found over = rounds-leave job found over
      rounds-withdraw job (left.Late element) found over = absurd found
      rounds-withdraw job left.Through found over = rounds-are_late job found over

-- how they stand
pub rounds-tell : (x : RoundsSole) (kind : Kind) → Tells store_rounds kind x (end.Rounds x.over) x
rounds-tell x kind room waiting held funded = (
  ap end.Rounds funded.over,
  record { same = refl; funded = funded; keeps = λ round wait has. has },
)

-- as they are made
fresh-all : (parties arrivals : ℕ) (rounds : List RoundSole)
    → ((i : ℕ) (r : RoundSole) → slice_get rounds i ≡ Some r → IsOpenedRound parties arrivals r)
    → all_seen rounds ≡ replicate (length rounds) []
fresh-all parties arrivals [] opened = refl
fresh-all parties arrivals (r ∷ rounds) opened =
    ap (λ es. es ∷ all_seen rounds) (ap news (opened 0 r refl).fresh)
    ∙ ap (λ rest. [] ∷ rest) (fresh-all parties arrivals rounds (λ i q got. opened (suc i) q got))

none-over : (parties n : ℕ) → 0 < parties → count_by (is_over parties) (replicate n []) ≡ 0
none-over parties zero some = refl
none-over parties (suc n) some =
    let first : bit (is_over parties []) ≡ 0 = not-over parties some in
    let rest : count_by (is_over parties) (replicate n []) ≡ 0 = none-over parties n some in
    sum_by-cons (λ (es : List BarrierEntry). bit (is_over parties es)) [] (replicate n [])
    ∙ (λ i. first i + rest i)

pub rounds-opened : (x : RoundsSole) (parties rounds arrivals : ℕ) → 0 < parties → rounds ≤ 64
    → length x.rounds.items ≡ rounds → EachAt (λ i r. IsOpenedRound parties arrivals r) x.rounds.items
    → x.over ≡ 0
    → IsOpened store_rounds (kind.Rounds parties rounds) arrivals x
rounds-opened x parties rounds arrivals some few many each over =
    let fresh : all_seen x.rounds.items ≡ replicate rounds [] =
    fresh-all parties arrivals x.rounds.items each.at ∙ ap (λ n. replicate n []) many in
    record {
      fresh = ap of_rounds fresh;
      funded = λ jobs. record {
        sort = many;
        few = omega (arith, many, few);
        each = record { at = λ i r got. (each.at i r got).funded };
        over = over ∙ sym (ap (count_by (is_over parties)) fresh ∙ none-over parties rounds some);
      };
    }
