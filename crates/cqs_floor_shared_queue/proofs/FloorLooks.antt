-- A look at a wait, and a leave: what they rest on, and what they leave.
use Rattle.std.proofs.Common.{◌≡◌, ◌≢◌, inl, inr, ℕ, ◌<◌, Bool, true, false, List, [], Option, Some, None, IsSome, length, map, set, slice_get, refl, ap, sym, ◌∙◌, subst, arith}
use Rattle.std.specs.Option.{option_map}
use Rattle.std.proofs.lemmas.List.{map-set}
use Rattle.cqs_core.proofs.Places.{get-there, set-same}
use Rattle.cqs_plan.specs.declared.floors.answers.FloorLeave.{FloorLeave}
use Rattle.cqs_plan.specs.declared.floors.answers.FloorLeave.TheVariants.{Gone, Late}
use Rattle.cqs_plan.specs.declared.floors.answers.FloorLook.{FloorLook}
use Rattle.cqs_plan.specs.declared.floors.answers.FloorLook.TheVariants.{Pending, Granted}
use Rattle.cqs_plan.specs.declared.plans.kind.Kind.{Kind}
use Rattle.cqs_plan.specs.declared.plans.kind.Kind.TheVariants as kind
use Rattle.cqs_plan.specs.Floor.{PlainFloor, IsJob, IsWaiting, rounds_back}
use Rattle.cqs_plan.specs.FloorCalls.{with_granted, with_left}
use Rattle.cqs_plan.specs.FloorHistory.{gets, is_late}
use Rattle.cqs_plan.specs.Language.{can_hold}
use Rattle.cqs_floor_shared.specs.AnswerEntries.{leave_entries, look_entries, turned_entries, unless_came}
use Rattle.cqs_floor_shared.specs.Calls as floor
use Rattle.cqs_floor_shared.specs.Calls.{FindsElement, HasLeft, HasLooked, IsElement, IsFound, IsLate, KeepsElement}
use Rattle.cqs_floor_shared.specs.Shared.{came_of}
use Rattle.cqs_floor_shared.specs.Shared as shared
use Rattle.cqs_floor_shared_queue.specs.declared.floors.spots.FloorWait.{FloorWait}
use Rattle.cqs_floor_shared_queue.specs.declared.floors.spots.Spot.{Spot}
use Rattle.cqs_floor_shared_queue.specs.DeskCalls.{CanEndWait, HasAt, Leaves, Looks}
use Rattle.cqs_floor_shared_queue.specs.FloorKept.{IsFundedAt, IsKept, StandsIn, funds_in}
use Rattle.cqs_floor_shared_queue.specs.Holdings.{and_brought}
use Rattle.cqs_floor_shared_queue.specs.Ledgers.{Ledger, shared_in, with_back, with_grant, with_shares}
use Rattle.cqs_floor_shared_kinds.specs.ShareCalls as calls
use Rattle.cqs_floor_shared_kinds.specs.ShareCalls.{parties_left, party_more}
use Rattle.cqs_floor_shared_kinds.specs.Shares.{Funds, IsLawful, IsSame, KeepsOthers, Sees, Share, with_brought, with_came, with_wait}
use Rattle.cqs_floor_shared_queue.specs.Spots.{job_wait, place_in, spot_came, spot_in}
use Rattle.cqs_floor_shared_kinds.proofs.Elements.{no-element}
use Rattle.cqs_floor_shared_queue.proofs.FloorCrews.{space-within}
use Rattle.cqs_floor_shared_queue.proofs.FloorLists.{index-mapped, map-kept}
use Rattle.cqs_floor_shared_queue.proofs.FloorNext.{kept-next, next, parties-kept, sees-next, stands-on}
use Rattle.cqs_floor_shared_queue.proofs.RoundsBack.{back-each, back-long, kept-rounds}
use Rattle.cqs_floor_shared_queue.proofs.FloorOver as over
use Rattle.cqs_floor_shared_queue.proofs.FloorPlaces.{Here, Well, funds-long, here, job-there}
use Rattle.cqs_floor_shared_queue.proofs.QuietCalls.{late-parties, quiet-leave, quiet-look, quiet-none, quiet-own, quiet-same, quiet-words}

wait-back : (w : Option FloorWait) → IsSome (option_map job_wait w) → (v : FloorWait) × (w ≡ Some v)
wait-back None some = absurd (cc)
wait-back (Some v) some = (v, refl)

module _ {X : Type 0} (s : Share X) (l : Ledger X) (job : ℕ) (kept : IsKept s l)
    (is_job : IsJob (shared_in s l).board job) where
  own : job < length l.spots
  own = job-there s l job is_job

  -- what a look or a leave rests on
  pub end-can : IsWaiting (shared_in s l).board job → CanEndWait s l job
  end-can waits =
      let there = get-there l.spots job own in
      let spot : Spot = there.0 in
      let seen : IsSome (option_map job_wait spot.wait) = subst IsSome
      (index-mapped (λ (p : Spot). option_map job_wait p.wait) l.spots job spot None there.1) waits in
      let w = wait-back spot.wait seen in
      let was : slice_get l.spots job ≡ Some (record { wait = Some w.0; came = spot.came }) =
      there.1 ∙ ap (λ o. Some (record { wait = o; came = spot.came })) w.1 in
      let place = kept.placed job spot w.0 there.1 w.1 in
      record {
        wait = w.0;
        came = spot.came;
        is = was;
        place = place;
        share = λ stood. stands w.0 spot.came was place stood;
      }
    where
      stands : (w : FloorWait) (c : Bool) → slice_get l.spots job ≡ Some (record { wait = Some w; came = c })
          → w.at < length l.kinds → c ≡ false
          → HasAt l.shares w.at (calls.CanEnd s job w.round (place_in w))
      stands w c was place stood =
          let has : StandsIn s l.shares w =
          kept.waits job w (was ∙ ap (λ b. Some (record { wait = Some w; came = b })) stood) in
          let kind = get-there l.kinds w.at place in
          let funded = kept.funded.at w.at has.share has.there in
          record {
            share = has.share;
            there = has.there;
            can = record {
              a = over.left_funds s l job w c was kept kind.0;
              funded = subst (s.funded has.share) (sym (over.stood s l job w c was kept kind.0 stood))
                  (funded.funded kind.0 kind.1);
              there = omega (
                arith,
                own,
                funds-long s (over.over s l job w c was kept l.holdings) w.at,
                over.same-long s l job w c was kept,
              );
              has = has.has;
            };
          }

  -- and there is room for what may come
  pub end-space : IsWaiting (shared_in s l).board job → length l.holdings < l.space
  end-space waits =
      let can = end-can waits in
      let all = space-within s l kept in
      let one = over.fewer s l job can.wait can.came can.is kept in
      omega (arith, all, one)

  -- the job has a wait in a cell, and its resource was asked
  module _ (w : FloorWait) (was : slice_get l.spots job ≡ Some (spot_in w)) (x y : X)
      (there : slice_get l.shares w.at ≡ Some x) (k : Kind) (is : slice_get l.kinds w.at ≡ Some k) where
    abbrev a : Funds
    a = over.left_funds s l job w false was kept k

    funded_at : IsFundedAt s l w.at x
    funded_at = kept.funded.at w.at x there

    -- that it has what the jobs have, and one wait
    pub its-funds : s.funded x (with_wait a)
    its-funds = subst (s.funded x) (sym (over.stood s l job w false was kept k refl)) (funded_at.funded k is)

    pub its-job : job < length a.held
    its-job =
        omega (
          arith,
          own,
          funds-long s (over.over s l job w false was kept l.holdings) w.at,
          over.same-long s l job w false was kept,
        )

    others : KeepsOthers s x w.round w.index y
        → (j : ℕ) (v : FloorWait) → j ≢ job → slice_get l.spots j ≡ Some (spot_in v) → v.at ≡ w.at
        → s.has x v.round (place_in v) → s.has y v.round (place_in v)
    others keeps = over.others-keep s l job w false was kept x y refl keeps

    not_came : came_of (shared_in s l) job ≡ false
    not_came = over.came-seen s l job w false was kept

    -- a look that finds nothing new
    pub look-on : calls.LooksOn s a w.round (place_in w) x y
        → Well s (HasLooked (shared_in s l) job Pending) (next s l w.at x y there l.room l.spots l.holdings l.rounds)
    look-on made = record {
      kept = kept-next s l w.at x y there l.room l.spots l.holdings l.rounds kept (record {
        same = made.sees.same;
        rooms = refl;
        jobs = refl;
        rounds_long = refl;
        rounds_each = λ j. refl;
        funded = λ other got.
            let found : Some k ≡ Some other = sym is ∙ got in
            let kind : k ≡ other = cc in
            subst
            (λ j. s.funded y (funds_in (next s l w.at x y there l.room l.spots l.holdings l.rounds) w.at j)) kind
            (subst (s.funded y) (over.stood s l job w false was kept k refl) made.funded);
        standing = λ i other. refl;
        came = λ i other. refl;
        held = λ i other. refl;
        waits = λ j v got. stands-on s l.shares w.at x y v there
            (λ same has. made.keeps v.round (place_in v) has) (kept.waits j v got);
        placed = kept.placed;
        apart = kept.apart;
        within = omega arith;
      });
      does = record {
        at = λ wait got.
            let found : Some (job_wait w) ≡ Some wait = sym (over.wait-seen s l job w false was kept) ∙ got in
            let one : job_wait w ≡ wait = cc in
            subst (λ v. floor.Looks (shared_in s l) job v Pending
            (shared_in s (next s l w.at x y there l.room l.spots l.holdings l.rounds))) one (record {
              sees = sees-next s l w.at x y there l.room l.spots l.holdings l.rounds k is funded_at refl _
                  (subst (λ es. Sees s k x es y)
                  (λ i. unless_came (sym not_came i)
                  (look_entries (sym is i) w.round (funded_at.number i) w.index Pending)) made.sees);
              board = refl;
              parties = parties-kept s l w.at x y there l.room l.spots l.holdings l.rounds made.parties_are;
              came = refl;
              found = subst (λ b. IsFound b Pending) (sym not_came) tt;
              element = tt;
            });
      };
    }

    abbrev gone_spots : List Spot
    gone_spots = set l.spots job (record { wait = None; came = false })

    abbrev pub gone : Ledger X
    gone = next s l w.at x y there l.room gone_spots l.holdings l.rounds

    -- the rounds of the jobs where an arrival was taken back
    abbrev back_rounds : List (List ℕ)
    back_rounds = rounds_back l.kinds l.rounds job (job_wait w)

    abbrev pub gone_back : Ledger X
    gone_back = next s l w.at x y there l.room gone_spots l.holdings back_rounds

    abbrev pub brought : ℕ → Ledger X
    brought element = next s l w.at x y there l.room gone_spots (and_brought k l.holdings w.at job element) l.rounds

    -- one that finds what came
    pub look-brings : (element : ℕ) → calls.Brings s a job w.round (place_in w) element x y
        → Well s (HasLooked (shared_in s l) job (Granted element)) (brought element)
    look-brings element made =
        let keeps = others made.keeps in
        record {
          kept = over.kept-came s l job w false was kept x y there k is made.sees.same keeps element made.funded;
          does = record {
            at = λ wait got.
                let found : Some (job_wait w) ≡ Some wait = sym (over.wait-seen s l job w false was kept) ∙ got in
                let one : job_wait w ≡ wait = cc in
                subst (λ v. floor.Looks (shared_in s l) job v (Granted element) (shared_in s (brought element))) one
                (record {
                  sees = sees-next s l w.at x y there l.room gone_spots (and_brought k l.holdings w.at job element)
                      l.rounds k is funded_at (over.same-long s l job w false was kept) _
                      (subst (λ es. Sees s k x es y)
                      (λ i. unless_came (sym not_came i)
                      (look_entries (sym is i) w.round (funded_at.number i) w.index (Granted element))) made.sees);
                  board = over.board-came s l job w false was kept x y there k is made.sees.same keeps element
                      ∙ ap (λ o. with_granted (shared_in s l).board job gets o element)
                      (sym (over.wait-seen s l job w false was kept));
                  parties = parties-kept s l w.at x y there l.room gone_spots
                      (and_brought k l.holdings w.at job element) l.rounds made.parties_are;
                  came = over.came-on s l job w false was kept x y there k is made.sees.same keeps;
                  found = subst (λ b. IsFound b (Granted element)) (sym not_came) tt;
                  element = subst (λ o. FindsElement o (Granted element)) (sym is) made.found;
                });
          };
        }

    -- a leave that is in time
    left-parties : (kind_is : Kind) → slice_get l.kinds w.at ≡ Some kind_is
        → s.parties y ≡ parties_left kind_is (s.parties x) w.round Gone
        → map s.parties (set l.shares w.at y)
        ≡ floor.parties_left (shared_in s l) (job_wait w) Gone
    left-parties (kind.Semaphore permits) it are =
        map-kept s.parties l.shares w.at x y there are
        ∙ ap (λ o. floor.parties_left_at o (shared_in s l) (job_wait w)) (sym it)
    left-parties kind.Mutex it are =
        map-kept s.parties l.shares w.at x y there are
        ∙ ap (λ o. floor.parties_left_at o (shared_in s l) (job_wait w)) (sym it)
    left-parties (kind.Pool elements) it are =
        map-kept s.parties l.shares w.at x y there are
        ∙ ap (λ o. floor.parties_left_at o (shared_in s l) (job_wait w)) (sym it)
    left-parties (kind.Latch count) it are =
        map-kept s.parties l.shares w.at x y there are
        ∙ ap (λ o. floor.parties_left_at o (shared_in s l) (job_wait w)) (sym it)
    left-parties (kind.Rounds parties rounds) it are =
        map-set s.parties l.shares w.at y
        ∙ ap (set (map s.parties l.shares) w.at)
        (are ∙ ap (λ had. party_more had w.round) (sym (index-mapped s.parties l.shares w.at x [] there)))
        ∙ ap (λ o. floor.parties_left_at o (shared_in s l) (job_wait w)) (sym it)

    pub leave-goes : calls.EndsWait s a w.round (place_in w) Gone a x y
        → Well s (HasLeft (shared_in s l) job Gone) gone_back
    leave-goes made =
        let keeps = others made.keeps in
        record {
          kept = kept-rounds s gone back_rounds (back-long l.kinds l.rounds job (job_wait w))
              (back-each l.kinds l.rounds job (job_wait w))
              (over.kept-gone s l job w false was kept x y there k is made.sees.same keeps made.funded);
          does = record {
            at = λ wait got.
                let found : Some (job_wait w) ≡ Some wait = sym (over.wait-seen s l job w false was kept) ∙ got in
                let one : job_wait w ≡ wait = cc in
                subst (λ v. floor.Leaves (shared_in s l) job v Gone (shared_in s gone_back)) one
                (record {
                  stays = made.stays;
                  sees = sees-next s l w.at x y there l.room gone_spots l.holdings back_rounds k is funded_at
                      (over.same-long s l job w false was kept) _
                      (subst (λ es. Sees s k x es y)
                      (λ i. unless_came (sym not_came i)
                      (leave_entries (sym is i) w.round (funded_at.number i) w.index Gone made.stays)) made.sees);
                  board = ap (λ (b : PlainFloor). record b { rounds = back_rounds })
                      (over.board-gone s l job w false was kept x y there k is made.sees.same keeps)
                      ∙ ap (λ o. with_left (shared_in s l).board job o)
                      (sym (over.wait-seen s l job w false was kept));
                  parties = left-parties k is made.parties_are;
                  came = over.came-on s l job w false was kept x y there k is made.sees.same keeps;
                  found = subst (λ b. IsLate b Gone) (sym not_came) tt;
                  element = tt;
                });
          };
        }

    -- one that is too late
    pub leave-brings : (element : ℕ)
        → calls.EndsWait s a w.round (place_in w) (Late element) (with_brought a job element) x y
        → Well s (HasLeft (shared_in s l) job (Late element)) (brought element)
    leave-brings element made =
        let keeps = others made.keeps in
        record {
          kept = over.kept-came s l job w false was kept x y there k is made.sees.same keeps element made.funded;
          does = record {
            at = λ wait got.
                let found : Some (job_wait w) ≡ Some wait = sym (over.wait-seen s l job w false was kept) ∙ got in
                let one : job_wait w ≡ wait = cc in
                subst (λ v. floor.Leaves (shared_in s l) job v (Late element) (shared_in s (brought element))) one
                (record {
                  stays = made.stays;
                  sees = sees-next s l w.at x y there l.room gone_spots (and_brought k l.holdings w.at job element)
                      l.rounds k is funded_at (over.same-long s l job w false was kept) _
                      (subst (λ es. Sees s k x es y)
                      (λ i. unless_came (sym not_came i)
                      (leave_entries (sym is i) w.round (funded_at.number i) w.index (Late element) made.stays))
                      made.sees);
                  board = over.board-came s l job w false was kept x y there k is made.sees.same keeps element
                      ∙ ap (λ o. with_granted (shared_in s l).board job is_late o element)
                      (sym (over.wait-seen s l job w false was kept));
                  parties = parties-kept s l w.at x y there l.room gone_spots
                      (and_brought k l.holdings w.at job element) l.rounds
                      (made.parties_are ∙ late-parties k (s.parties x) w.round element);
                  came = over.came-on s l job w false was kept x y there k is made.sees.same keeps;
                  found = subst (λ b. IsLate b (Late element)) (sym not_came) tt;
                  element = subst (λ o. KeepsElement o (Late element)) (sym is) made.found;
                });
          };
        }

  -- what the job waits for came with its number
  module _ (lawful : IsLawful s) (w : FloorWait) (was : slice_get l.spots job ≡ Some (spot_came w)) where
    abbrev over_spots : List Spot
    over_spots = set l.spots job (record { wait = None; came = true })

    pub finds : (n : Ledger X) → n ≡ with_grant l w.at job 0
        → Well s (HasLooked (shared_in s l) job (Granted 0)) n
        × Well s (HasLeft (shared_in s l) job (Late 0)) n
    finds n written = (
      record {
        kept = subst (IsKept s) (sym same) now_kept;
        does = record {
          at = λ wait got.
              let found : Some (job_wait w) ≡ Some wait = sym (over.wait-seen s l job w true was kept) ∙ got in
              let one : job_wait w ≡ wait = cc in
              subst (λ v. floor.Looks (shared_in s l) job v (Granted 0) (shared_in s n)) one
              (subst (λ m. floor.Looks (shared_in s l) job (job_wait w) (Granted 0) (shared_in s m)) (sym same)
              (record {
                sees = subst (λ es. shared.Sees (shared_in s l) w.at es (shared_in s found_in))
                    (sym (quiet-look k w.round l.number w.index (Granted 0) holdable)
                    ∙ (λ i. unless_came (sym came i) (look_entries (sym is i) w.round l.number w.index (Granted 0))))
                    its-sees;
                board = over.board-came s l job w true was kept x x there k is same_x keeps 0
                    ∙ ap (λ o. with_granted (shared_in s l).board job gets o 0)
                    (sym (over.wait-seen s l job w true was kept));
                parties = parties-kept s l w.at x x there l.room over_spots
                    (and_brought k l.holdings w.at job 0) l.rounds refl;
                came = over.came-on s l job w true was kept x x there k is same_x keeps;
                found = subst (λ b. IsFound b (Granted 0)) (sym came) tt;
                element = subst (λ o. IsElement o 0) (sym is) (no-element k);
              }));
        };
      },
      record {
        kept = subst (IsKept s) (sym same) now_kept;
        does = record {
          at = λ wait got.
              let found : Some (job_wait w) ≡ Some wait = sym (over.wait-seen s l job w true was kept) ∙ got in
              let one : job_wait w ≡ wait = cc in
              subst (λ v. floor.Leaves (shared_in s l) job v (Late 0) (shared_in s n)) one
              (subst (λ m. floor.Leaves (shared_in s l) job (job_wait w) (Late 0) (shared_in s m)) (sym same)
              (record {
                stays = false;
                sees = subst (λ es. shared.Sees (shared_in s l) w.at es (shared_in s found_in))
                    (sym (quiet-leave k w.round l.number w.index (Late 0) false holdable)
                    ∙ (λ i. unless_came (sym came i)
                    (leave_entries (sym is i) w.round l.number w.index (Late 0) false)))
                    its-sees;
                board = over.board-came s l job w true was kept x x there k is same_x keeps 0
                    ∙ ap (λ o. with_granted (shared_in s l).board job is_late o 0)
                    (sym (over.wait-seen s l job w true was kept));
                parties = parties-kept s l w.at x x there l.room over_spots
                    (and_brought k l.holdings w.at job 0) l.rounds refl;
                came = over.came-on s l job w true was kept x x there k is same_x keeps;
                found = subst (λ b. IsLate b (Late 0)) (sym came) tt;
                element = subst (λ o. IsElement o 0) (sym is) (no-element k);
              }));
        };
      },
    )
      where
        h : Here s l w.at
        h = here s l w.at kept (get-there l.kinds w.at (kept.placed job (spot_came w) w was refl))

        k : Kind
        k = h.kind

        is : slice_get l.kinds w.at ≡ Some k
        is = h.is

        x : X
        x = h.share

        there : slice_get l.shares w.at ≡ Some x
        there = h.there

        a : Funds
        a = over.left_funds s l job w true was kept k

        its-funds : s.funded x (with_came a)
        its-funds = subst (s.funded x) (sym (over.had_come s l job w true was kept k refl)) (h.funded.funded k is)

        holdable : can_hold k ≡ true
        holdable = lawful.held x a its-funds

        its-job : job < length a.held
        its-job =
            omega (
              arith,
              own,
              funds-long s (over.over s l job w true was kept l.holdings) w.at,
              over.same-long s l job w true was kept,
            )

        same_x : IsSame s x x
        same_x = record { number = refl; met = refl; passes = refl; limit = refl; family = refl }

        keeps : (j : ℕ) (v : FloorWait) → j ≢ job → slice_get l.spots j ≡ Some (spot_in v) → v.at ≡ w.at
            → s.has x v.round (place_in v) → s.has x v.round (place_in v)
        keeps j v other got at has = has

        found_in : Ledger X
        found_in = next s l w.at x x there l.room over_spots (and_brought k l.holdings w.at job 0) l.rounds

        same : n ≡ found_in
        same =
            written ∙ over.writes-grant s l job w true was kept x x there k is same_x keeps 0
            ∙ ap (λ xs. record l {
              shares = xs;
              spots = over_spots;
              holdings = and_brought k l.holdings w.at job 0;
            }) (sym (set-same l.shares w.at x there))

        now_kept : IsKept s found_in
        now_kept =
            over.kept-came s l job w true was kept x x there k is same_x keeps 0
            (lawful.found x a job its-funds its-job)

        came : came_of (shared_in s l) job ≡ true
        came = over.came-seen s l job w true was kept

        its-sees : shared.Sees (shared_in s l) w.at (turned_entries (Some k) 0) (shared_in s found_in)
        its-sees =
            let legal = lawful.legal x (with_came a) its-funds in
            sees-next s l w.at x x there l.room over_spots (and_brought k l.holdings w.at job 0) l.rounds k is h.funded
            (over.same-long s l job w true was kept) (turned_entries (Some k) 0) (record {
              more = turned_entries (Some k) 0;
              words = quiet-words (s.seen x) k holdable legal;
              seen = sym (quiet-same k (s.seen x) holdable);
              mine = quiet-own k (s.number x) holdable;
              others = λ n has. quiet-own k n holdable ∙ sym (quiet-none k holdable);
              unnamed = λ n many. quiet-own k n holdable ∙ sym (quiet-none k holdable);
              legal = legal;
              same = same_x;
            })

  pub look-well : IsLawful s → (n : Ledger X) (answer : FloorLook) → Looks s l job answer n
      → Well s (HasLooked (shared_in s l) job answer) n
  look-well lawful n Pending d =
      let w = d.wait in
      let x = d.calls.share in
      let y = d.calls.after in
      let k = get-there l.kinds w.at (kept.placed job (spot_in w) w d.is refl) in
      let made = d.calls.made (over.left_funds s l job w false d.is kept k.0)
      (its-funds w d.is x y d.calls.there k.0 k.1) (its-job w d.is x y d.calls.there k.0 k.1) in
      let same : n ≡ next s l w.at x y d.calls.there l.room l.spots l.holdings l.rounds =
      d.writes ∙ ap (with_shares l) d.calls.shares in
      subst (Well s (HasLooked (shared_in s l) job Pending)) (sym same)
      (look-on w d.is x y d.calls.there k.0 k.1 made)
  look-well lawful n (Granted element) (inl d) =
      subst (λ e. Well s (HasLooked (shared_in s l) job (Granted e)) n) (sym d.permit)
      (finds lawful d.wait d.is n d.writes).0
  look-well lawful n (Granted element) (inr d) =
      let w = d.wait in
      let x = d.calls.share in
      let y = d.calls.after in
      let k = get-there l.kinds w.at (kept.placed job (spot_in w) w d.is refl) in
      let made = d.calls.made (over.left_funds s l job w false d.is kept k.0)
      (its-funds w d.is x y d.calls.there k.0 k.1) (its-job w d.is x y d.calls.there k.0 k.1) in
      let granted = over.writes-grant s l job w false d.is kept x y d.calls.there k.0 k.1 made.sees.same
      (others w d.is x y d.calls.there k.0 k.1 made.keeps) element in
      let same : n ≡ brought w d.is x y d.calls.there k.0 k.1 element =
      d.writes ∙ (λ i. with_shares (granted i) (d.calls.shares i)) in
      subst (Well s (HasLooked (shared_in s l) job (Granted element))) (sym same)
      (look-brings w d.is x y d.calls.there k.0 k.1 element made)

  pub leave-well : IsLawful s → (n : Ledger X) (answer : FloorLeave) → Leaves s l job answer n
      → Well s (HasLeft (shared_in s l) job answer) n
  leave-well lawful n Gone d =
      let w = d.wait in
      let x = d.calls.share in
      let y = d.calls.after in
      let k = get-there l.kinds w.at (kept.placed job (spot_in w) w d.is refl) in
      let made = d.calls.made (over.left_funds s l job w false d.is kept k.0)
      (its-funds w d.is x y d.calls.there k.0 k.1) (its-job w d.is x y d.calls.there k.0 k.1) in
      let same : n ≡ gone_back w d.is x y d.calls.there k.0 k.1 =
      d.writes
      ∙ (λ i. with_shares (with_back (over.writes-over s l job w false d.is kept i) job w) (d.calls.shares i)) in
      subst (Well s (HasLeft (shared_in s l) job Gone)) (sym same)
      (leave-goes w d.is x y d.calls.there k.0 k.1 made)
  leave-well lawful n (Late element) (inl d) =
      subst (λ e. Well s (HasLeft (shared_in s l) job (Late e)) n) (sym d.permit)
      (finds lawful d.wait d.is n d.writes).1
  leave-well lawful n (Late element) (inr d) =
      let w = d.wait in
      let x = d.calls.share in
      let y = d.calls.after in
      let k = get-there l.kinds w.at (kept.placed job (spot_in w) w d.is refl) in
      let made = d.calls.made (over.left_funds s l job w false d.is kept k.0)
      (its-funds w d.is x y d.calls.there k.0 k.1) (its-job w d.is x y d.calls.there k.0 k.1) in
      let granted = over.writes-grant s l job w false d.is kept x y d.calls.there k.0 k.1 made.sees.same
      (others w d.is x y d.calls.there k.0 k.1 made.keeps) element in
      let same : n ≡ brought w d.is x y d.calls.there k.0 k.1 element =
      d.writes ∙ (λ i. with_shares (granted i) (d.calls.shares i)) in
      subst (Well s (HasLeft (shared_in s l) job (Late element))) (sym same)
      (leave-brings w d.is x y d.calls.there k.0 k.1 element made)
