-- The calls of one round of a barrier with its one pass, each by what it left of the pass.
use Rattle.std.proofs.Common.{◌≡◌, inl, inr, ℕ, ◌+◌, ◌-◌, true, List, [], ◌∷◌, ◌++◌, Some, None, ap, sym, ◌∙◌, subst, append_assoc, arith}
use Rattle.cqs_core.specs.QueueWaiters.{Waits, IsServed}
use Rattle.cqs_barrier_object.specs.declared.entries.BarrierEntry.{BarrierEntry}
use Rattle.cqs_barrier_object.specs.declared.entries.BarrierEntry.TheVariants as entry
use Rattle.cqs_barrier_object.specs.BarrierEntries.{IsAllowed, after_arrival, complete, object_after}
use Rattle.cqs_barrier_object.specs.BarrierObject.{Barrier, opening}
use Rattle.cqs_barrier_object.specs.SoleCaller.{delivers}
use Rattle.cqs_barrier.specs.declared.answers.Arrived.TheVariants as arrived
use Rattle.cqs_barrier.specs.declared.answers.Owing.{Owing}
use Rattle.cqs_barrier.specs.declared.answers.PartyLeft.TheVariants as answer
use Rattle.cqs_barrier.specs.declared.answers.PartyPolled.TheVariants as polled
use Rattle.cqs_barrier.specs.declared.answers.PartyWait.{PartyWait}
use Rattle.cqs_barrier.specs.Alone.{IsPlainArrive, IsPlainCancel}
use Rattle.cqs_barrier.specs.Answers.{IsPolled}
use Rattle.cqs_barrier.specs.Arriving.{Arrives}
use Rattle.cqs_barrier.specs.Calls.{CallRule, IsMine, Rests, parties_in, plain_after, waiting_in}
use Rattle.cqs_barrier.specs.Entries.{polled_entries}
use Rattle.cqs_barrier.specs.Leaving.{HasLeft}
use Rattle.cqs_barrier.specs.Waits.{wait_in}
use Rattle.cqs_barrier.proofs.AloneOrder.{allowed-at}
use Rattle.cqs_barrier.proofs.ResumeSteps.{delivers-append}
use Rattle.cqs_rule.specs.declared.queue.tokens.Wait.{Wait}
use Rattle.cqs_rule_laws.specs.declared.view.Opening.{Opening}
use Rattle.cqs_rule_laws.specs.declared.view.View.{View}
use Rattle.cqs_rule_laws.specs.Lists.{Has, without}
use Rattle.cqs_rule.specs.Passes.{limit_of, pass_view}
use Rattle.cqs_rule.specs.Waits.{place_of}
use Rattle.cqs_rule_laws.proofs.Calls.{same-then}
use Rattle.cqs_floor_alone_kinds.specs.declared.round_sole.RoundSole.{RoundSole}
use Rattle.cqs_floor_alone_kinds.specs.declared.sole_resource.Left.TheVariants as left
use Rattle.cqs_floor_alone_kinds.specs.declared.sole_resource.Looked.TheVariants as looked
use Rattle.cqs_floor_alone_kinds.specs.RoundEnds.{ServesAll}
use Rattle.cqs_floor_alone_kinds.specs.SoleRound.{HasArrived, HasLeft as RoundLeft, HasLooked, IsFundedRound, IsOpenedRound}
use Rattle.cqs_floor_alone_kinds.proofs.RoundRests.{comes-to, delivered-remaining, told}

-- the first entry of a call was allowed after all that the pass had seen
module _ {T : Type 0} (v w : View BarrierEntry T) (alone : v.alone ≡ true) where
  first-allowed : (e : BarrierEntry) (own further : List BarrierEntry) → CallRule v (e ∷ own) further w
      → IsAllowed (plain_after v) e
  first-allowed e own further rule =
      let l = told v w (e ∷ own) further rule alone in
      allowed-at v.opening.size v.seen [] (own ++ further) w.seen e l.seen l.legal

module _ (parties room : ℕ) (x y : RoundSole) (funded : IsFundedRound parties room x)
    (mine : IsMine y.barrier y.pass) where
  abbrev v : View BarrierEntry (Unit {0})
  v = pass_view x.pass

  abbrev w : View BarrierEntry (Unit {0})
  w = pass_view y.pass

  abbrev o : Barrier
  o = plain_after v

  pub arrives-last : Arrives v arrived.Last w → IsPlainArrive v arrived.Last w → HasArrived x None y
  arrives-last (how, rests) (rule, plain) =
      let may = first-allowed v w funded.rests.alone (entry.ArriveLast v.number) [] _ rule in
      let seen = (told v w _ _ rule funded.rests.alone).seen in
      let before = funded.rests.holds in
      let none : v.facts.has.held - 1 ≡ 0 = omega (arith, may, before) in
      let after = delivered-remaining (waiting_in v) (complete o) in (
        may,
        comes-to x y _ _ _ mine rule.called.same
            (seen ∙ ap (λ p. v.seen ++ (entry.ArriveLast p ∷ delivers (waiting_in v))) funded.rests.number) rests
            (none ∙ sym after),
      )

  -- the last one, which owed a rest, and served it
  pub arrives-owing : (owing : Owing) (u : View BarrierEntry (Unit {0})) → Arrives v (arrived.LastOwing owing) u
      → IsPlainArrive v (arrived.LastOwing owing) u → ServesAll u w → HasArrived x None y
  arrives-owing owing u (ks, came, owes, back, held, waits) begun all =
      let rule = begun.called in
      let may = first-allowed v u funded.rests.alone (entry.ArriveLast v.number) [] _ rule in
      let first = (told v u _ _ rule funded.rests.alone).seen in
      let seen : w.seen ≡ v.seen ++ (entry.ArriveLast v.number ∷ delivers (waiting_in v)) =
      all.seen ∙ (ap (λ l. l ++ delivers (waiting_in u)) first
      ∙ (append_assoc v.seen (entry.ArriveLast v.number ∷ delivers begun.served) (delivers (waiting_in u))
      ∙ ap (λ l. v.seen ++ (entry.ArriveLast v.number ∷ l))
      (delivers-append begun.served (waiting_in u) ∙ ap delivers (sym begun.line)))) in
      let before = funded.rests.holds in
      let none : v.facts.has.held - 1 ≡ 0 = omega (arith, may, before) in
      let after = delivered-remaining (waiting_in v) (complete o) in (
        may,
        comes-to x y _ (v.facts.has.held - 1) _ mine (same-then v u w rule.called.same all.same)
            (seen ∙ ap (λ p. v.seen ++ (entry.ArriveLast p ∷ delivers (waiting_in v))) funded.rests.number)
            (record {
              ready = all.rests.ready;
              held_is = all.rests.held_is ∙ held;
              waits_are = all.rests.waits_are ∙ waits;
            }) (none ∙ sym after),
      )

  pub arrives-later : (wait : PartyWait) → Arrives v (arrived.Later wait) w
      → HasArrived x (Some (place_of (wait_in wait))) y
  arrives-later wait (early, has, rests) =
      let k = (place_of (wait_in wait)).index in
      let rule = early.called in
      let l = told v w _ _ rule funded.rests.alone in
      let may = first-allowed v w funded.rests.alone (entry.ArriveDoor v.number) _ _ rule in
      let enters : IsAllowed (after_arrival o v.number) (entry.Enter v.number k) =
      allowed-at v.opening.size v.seen (entry.ArriveDoor v.number ∷ []) [] w.seen (entry.Enter v.number k) l.seen
      l.legal in (
        may,
        enters.1,
        record { open_yet = has.open_yet; place = has.place },
        comes-to x y _ _ _ mine rule.called.same
            (l.seen ∙ ap (λ p. v.seen ++ (entry.ArriveDoor p ∷ entry.Enter p k ∷ [])) funded.rests.number) rests
            (ap (λ n. n - 1) funded.rests.holds),
      )

  module _ (wait : Wait) where
    abbrev k : ℕ
    k = (place_of wait).index

    pub looks-pending : (again : PartyWait) → CallRule v (polled_entries v.number k (polled.Pending again)) [] w
        → IsPolled wait v (polled.Pending again) w → HasLooked (place_of wait) x looked.Pending y
    looks-pending again rule (at, has, cell, rests) =
        let may = first-allowed v w funded.rests.alone (entry.LookPending v.number k) [] [] rule in
        let seen = (told v w _ _ rule funded.rests.alone).seen in (
          subst (λ p. Waits k p o.waiters.line) funded.rests.number may,
          comes-to x y _ _ _ mine rule.called.same
              (seen ∙ ap (λ p. v.seen ++ entry.LookPending p k ∷ []) funded.rests.number) rests funded.rests.holds,
        )

    pub looks-through : CallRule v (polled_entries v.number k polled.Through) [] w
        → IsPolled wait v polled.Through w → HasLooked (place_of wait) x looked.Through y
    looks-through rule (cell, rests) =
        let may = first-allowed v w funded.rests.alone (entry.LookGranted v.number k) [] [] rule in
        let seen = (told v w _ _ rule funded.rests.alone).seen in (
          subst (λ p. IsServed k p o.waiters.served) funded.rests.number may,
          comes-to x y _ _ _ mine rule.called.same
              (seen ∙ ap (λ p. v.seen ++ entry.LookGranted p k ∷ []) funded.rests.number) rests funded.rests.holds,
        )

    pub leaves-gone : HasLeft k v answer.Withdrawn w → RoundLeft (place_of wait) x left.Gone y
    leaves-gone (rule, rests, some) =
        let may = first-allowed v w funded.rests.alone (entry.Withdraw v.number k) [] [] rule in
        let seen = (told v w _ _ rule funded.rests.alone).seen in (
          subst (λ p. Waits k p o.waiters.line) funded.rests.number may.1,
          comes-to x y _ _ _ mine rule.called.same
              (seen ∙ ap (λ p. v.seen ++ entry.Withdraw p k ∷ []) funded.rests.number) rests
              (ap (λ n. n + 1) funded.rests.holds),
        )

    pub leaves-late : HasLeft k v answer.TooLate w → IsPlainCancel k v answer.TooLate w
        → RoundLeft (place_of wait) x left.Through y
    leaves-late went (rule, plain) =
        let may = first-allowed v w funded.rests.alone (entry.Late v.number k) [] [] rule in
        let seen = (told v w _ _ rule funded.rests.alone).seen in (
          subst (λ p. IsServed k p o.waiters.served) funded.rests.number may,
          comes-to x y _ _ _ mine rule.called.same
              (seen ∙ ap (λ p. v.seen ++ entry.Late p k ∷ []) funded.rests.number) (rests went) funded.rests.holds,
        )
      where
        rests : HasLeft k v answer.TooLate w → Rests v v.facts.has.held (without k v.facts.waits) w
        rests (inl (stay, is, none)) = is
        rests (inr (late, is, cell)) = is

-- as it is made
pub round-opened : (x : RoundSole) (parties room : ℕ) → limit_of x.barrier.queue ≡ room + 1
    → IsMine x.barrier x.pass → parties_in x.barrier ≡ parties → (pass_view x.pass).number ≡ 0
    → (pass_view x.pass).seen ≡ [] → (pass_view x.pass).alone ≡ true
    → Rests (pass_view x.pass) parties [] (pass_view x.pass) → IsOpenedRound parties room x
round-opened x parties room is mine counted first nothing alone rests =
    let v = pass_view x.pass in
    let size_is : v.opening.size ≡ parties = ap (λ (z : Opening). z.size) mine.opening ∙ counted in
    let limit : v.limit ≡ room + 1 = mine.limit ∙ is in
    let plain_is : plain_after v ≡ opening parties =
    ap (object_after v.opening.size) nothing ∙ ap opening size_is in
    let next : (plain_after v).waiters.next ≡ 0 = ap (λ (z : Barrier). z.waiters.next) plain_is in
    record {
      fresh = nothing;
      funded = record {
        mine = mine;
        rests = record {
          size_is = size_is;
          number = first;
          alone = alone;
          ready = rests.ready;
          holds = rests.held_is ∙ sym (ap (λ (z : Barrier). z.remaining) plain_is);
          below = omega (arith, limit, next);
          drawn = λ k has. absurd (subst (Has k) rests.waits_are has);
        };
      };
    }
