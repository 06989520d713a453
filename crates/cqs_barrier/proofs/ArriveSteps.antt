-- An arrival is its steps: a load of the suspend counter, claims of slots, one taken from the remaining number, and
-- then a suspend, or the resumptions of the others.
use Rattle.std.proofs.Common.{◌≡◌, inl, inr, ℕ, ◌-◌, ◌<◌, ◌≤◌, Bool, true, false, List, [], ◌∷◌, ◌++◌, length, Some, None, sym, refl, ap, ◌∙◌, subst, take, take_at, arith, if◌then◌else◌}
use Rattle.std.proofs.lemmas.Bool.{eqb-true}
use Rattle.std.proofs.lemmas.List.{append-nil}
use Rattle.cqs_core.specs.declared.doings.Doing.TheVariants as doing
use Rattle.cqs_barrier_object.specs.declared.entries.BarrierEntry.{BarrierEntry}
use Rattle.cqs_barrier_object.specs.SoleCaller.{delivers}
use Rattle.cqs_barrier_object.specs.declared.entries.BarrierEntry.TheVariants as entry
use Rattle.cqs_barrier_object.specs.BarrierNames.{entry_names}
use Rattle.cqs_barrier_object.specs.BarrierEntries.{IsAllowed, IsLegal, object_after}
use Rattle.cqs_core.specs.QueueSteps.{draws, takes}
use Rattle.cqs_core.proofs.Places.{get-push_at}
use Rattle.cqs_rule_laws.specs.declared.view.Facts.{Facts}
use Rattle.cqs_rule_laws.specs.declared.view.Opening.{Opening}
use Rattle.cqs_rule_laws.specs.declared.view.Spare.{Spare}
use Rattle.cqs_rule_laws.specs.declared.view.View.{View}
use Rattle.cqs_rule_laws.specs.Called.{Called}
use Rattle.cqs_rule_laws.specs.Events.{in_any_case, facts_moved, moment}
use Rattle.cqs_rule_laws.specs.Facts.{facts_counted}
use Rattle.cqs_rule_laws.specs.Layout.{client_place}
use Rattle.cqs_rule_laws.specs.Lists.{Has, IsPrefix}
use Rattle.cqs_rule_laws.specs.Saw.{Saw}
use Rattle.cqs_rule_laws.specs.SegmentSteps.{LeftBy}
use Rattle.cqs_rule.specs.Claims.{Claimed, Crowds}
use Rattle.cqs_rule.specs.Waits.{place_of}
use Rattle.cqs_rule.proofs.Claiming.{called-left, crowded-after}
use Rattle.cqs_rule_laws.proofs.Calls.{called-by, called-then, called-and}
use Rattle.cqs_suspend.specs.Suspends.{EndsBy}
use Rattle.cqs_barrier.specs.declared.answers.Arrived.{Arrived}
use Rattle.cqs_barrier.specs.declared.answers.Arrived.TheVariants.{Last, LastOwing, Later}
use Rattle.cqs_barrier.specs.declared.answers.Owing.{Owing}
use Rattle.cqs_barrier.specs.Arriving.{NextIs, IsWorn, IsBelow, IsCrowded, WasEarly, CameEarly, CameLast, Arrives, EndsAtCell, WaitsForOthers}
use Rattle.cqs_barrier.specs.Barrier.{barrier_object, arrives}
use Rattle.cqs_barrier.specs.BarrierWord.{OnWord}
use Rattle.cqs_rule_laws.specs.CallRule.{IsReady}
use Rattle.cqs_barrier.specs.Causes.{primitive_of}
use Rattle.cqs_barrier.specs.Leaving.{RemainingWas}
use Rattle.cqs_barrier.specs.Resuming.{OwesMore, owing_under, Ran, RanAll}
use Rattle.cqs_barrier.specs.Word.{parties_in, remaining_in, is_last}
use Rattle.cqs_rule_laws.proofs.Lists.{prefix-then}
use Rattle.cqs_rule_laws.proofs.Prefixes.{prefix-same, saw-prefix}
use Rattle.cqs_rule_laws.proofs.Rules.{NoneName, call-rule_ending, call-rule_own, called-weak}
use Rattle.cqs_suspend.proofs.Sat.{sat-taken, sat-installed}
use Rattle.cqs_barrier.proofs.Endings.{owing-none, served-from}
use Rattle.cqs_barrier.proofs.LeaveSteps.{remaining-was}
use Rattle.cqs_barrier.proofs.ResumeSteps.{handed-since}

abbrev arrive_entries : Bool → ℕ → List BarrierEntry
arrive_entries b p = if b then entry.ArriveLast p ∷ [] else entry.ArriveDoor p ∷ []

pub delivers-name : (ks : List ℕ) → NoneName entry_names (delivers ks)
delivers-name [] = tt
delivers-name (k ∷ ks) = (λ n. refl, delivers-name ks)

-- the last entry of a legal history may come after those before it
last-allowed : (size : ℕ) (before : List BarrierEntry) (e : BarrierEntry) → IsLegal size (before ++ e ∷ [])
    → IsAllowed (object_after size before) e
last-allowed size before e legal =
    let same : take (length before) (before ++ e ∷ []) ≡ before = take_at before (e ∷ []) (length before) refl in
    subst (λ h. IsAllowed (object_after size h) e) same
    (legal.at (length before) e (get-push_at before e (length before) refl))

module _ {T : Type 0} where
  -- the counter was at the limit
  pub worn : (v u : View BarrierEntry T) (n : ℕ) → NextIs v n u → v.limit ≤ n → IsReady v.facts → Has v.number v.own
      → IsLegal u.opening.size u.seen → IsWorn v u
  worn v u n next high ready has legal =
      let is = next.saw.facts_are in
      record {
        called = call-rule_own barrier_object v u [] [] (called-by barrier_object v u _ [] next.saw) tt has legal;
        worn = let same = next.next in omega arith;
        rests = record {
          ready = record {
            idle = ap (λ (f : Facts). f.doing) is ∙ ready.idle;
            further = ap (λ (f : Facts). f.has.further) is ∙ ready.further;
          };
          held_is = ap (λ (f : Facts). f.has.held) is;
          waits_are = ap (λ (f : Facts). f.waits) is;
        };
      }

  -- The pass loaded the counter as n, and claimed slots, or tried to.
  pub record HasClaimed (n : ℕ) (v z : View BarrierEntry T) : Type 0 where
    pub called : Called barrier_object v [] [] z
    pub next : (object_after z.opening.size z.seen).waiters.next ≡ n
    pub doing : z.facts.doing ≡ v.facts.doing
    pub has : z.facts.has ≡ v.facts.has
    pub waits : z.facts.waits ≡ v.facts.waits
    pub passed : z.facts.passed ≡ v.facts.passed
    pub heads : IsPrefix v.facts.heads z.facts.heads

  pub has-claimed : (v u z : View BarrierEntry T) (n : ℕ) (heads : List (ℕ × ℕ)) (spares : List Spare) (duties : List ℕ)
      → NextIs v n u → LeftBy heads spares duties u z → HasClaimed n v z
  has-claimed v u z n heads spares duties next left =
      let was = next.saw.facts_are in
      let is = left.is in
      record {
        called = called-left barrier_object v u z _ spares duties next.saw (heads, left);
        next = ap (λ (y : View BarrierEntry T). (object_after y.opening.size y.seen).waiters.next) is ∙ next.next;
        doing = ap (λ (y : View BarrierEntry T). y.facts.doing) is ∙ ap (λ (f : Facts). f.doing) was;
        has = ap (λ (y : View BarrierEntry T). y.facts.has) is ∙ ap (λ (f : Facts). f.has) was;
        waits = ap (λ (y : View BarrierEntry T). y.facts.waits) is ∙ ap (λ (f : Facts). f.waits) was;
        passed = ap (λ (y : View BarrierEntry T). y.facts.passed) is ∙ ap (λ (f : Facts). f.passed) was;
        heads = (
          heads,
          ap (λ (y : View BarrierEntry T). y.facts.heads) is ∙ ap (λ (f : Facts). f.heads ++ heads) was,
        );
      }

  pub claimed : (v u z : View BarrierEntry T) (n : ℕ) → NextIs v n u → Claimed 2 u z → HasClaimed n v z
  claimed v u z n next c = has-claimed v u z n c.left.0 z.facts.spare_slots u.facts.duties next c.left.1

  -- the slots could not be had
  pub crowded : (v u z : View BarrierEntry T) (n : ℕ) → NextIs v n u → n < v.limit → Crowds 2 u z → IsReady v.facts
      → Has v.number v.own → IsLegal z.opening.size z.seen → IsCrowded v z
  crowded v u z n next low c ready has legal =
      let h = has-claimed v u z n c.heads c.spares u.facts.duties next c.left in
      record {
        called = call-rule_own barrier_object v z [] [] h.called tt has legal;
        count = n;
        next = h.next;
        below = low;
        crowded = crowded-after barrier_object 2 (facts_counted v.limit n v.facts) v u z next.saw refl refl c;
        rests = record {
          ready = record { idle = h.doing ∙ ready.idle; further = ap (λ y. y.further) h.has ∙ ready.further };
          held_is = ap (λ y. y.held) h.has;
          waits_are = h.waits;
        };
      }

  -- The pass loaded the counter below the limit, claimed slots, and a party of it arrived.
  pub record Came (b : Bool) (m : ℕ) (v x : View BarrierEntry T) : Type 0 where
    pub called : Called barrier_object v (arrive_entries b v.number) [] x
    pub at_load : List BarrierEntry
    pub since : IsPrefix v.seen at_load
    pub on : IsPrefix at_load x.seen
    pub below : (object_after x.opening.size at_load).waiters.next < v.limit
    pub before : List BarrierEntry
    pub found : RemainingWas v (remaining_in m) before (arrive_entries b v.number) x
    pub ends : x.seen ≡ before ++ arrive_entries b v.number
    pub parties : parties_in m ≡ x.opening.size
    pub doing : x.facts.doing ≡ (if b then doing.Idle else doing.Door)
    pub held : x.facts.has.held ≡ v.facts.has.held - 1
    pub payload : x.facts.has.payload ≡ 0
    pub further : x.facts.has.further ≡ (if b then parties_in m - 1 else v.facts.has.further)
    pub waits : x.facts.waits ≡ v.facts.waits
    pub passed : x.facts.passed ≡ v.facts.passed
    pub heads : IsPrefix v.facts.heads x.facts.heads

  pub came : (b : Bool) (v z x : View BarrierEntry T) (n m : ℕ) → is_last m ≡ b → n < v.limit → HasClaimed n v z
      → OnWord arrives in_any_case z m x → Came b m v x
  came b v z x n m is low h o =
      let number : z.number ≡ v.number = h.called.same.number in
      let old : IsPrefix v.seen z.seen = (h.called.more, h.called.seen) in
      let now : Facts = facts_moved arrives (client_place 0) (moment z.opening z.number z.facts in_any_case m) in
      let after : x.facts ≡ now = o.saw.facts_are in
      let so : arrive_entries (is_last m) z.number ≡ arrive_entries b v.number =
      λ i. arrive_entries (is i) (number i) in
      let saw : Saw barrier_object z now (arrive_entries b v.number) x =
      subst (λ es. Saw barrier_object z now es x) so o.saw in
      let seen : x.seen ≡ o.before ++ arrive_entries b v.number =
      subst (λ es. x.seen ≡ o.before ++ es) so o.seen in
      let opening : x.opening ≡ z.opening = o.saw.same.opening in
      record {
        called = called-weak barrier_object v x (arrive_entries b v.number) _
            (called-then barrier_object v z x now [] [] (arrive_entries b v.number) h.called saw);
        at_load = z.seen;
        since = old;
        on = saw-prefix barrier_object z x _ _ saw;
        below = let same = h.next in
            let moved : (object_after x.opening.size z.seen).waiters.next ≡ n =
            ap (λ (y : Opening). (object_after y.size z.seen).waiters.next) opening ∙ same in omega arith;
        before = o.before;
        found = remaining-was v z x x now _ o.before (remaining_in m) old saw seen o.remaining
            (prefix-same x.seen) refl;
        ends = seen;
        parties = o.parties;
        doing = ap (λ (f : Facts). f.doing) after ∙ ap (λ y. if y then doing.Idle else doing.Door) is;
        held = ap (λ (f : Facts). f.has.held) after ∙ ap (λ y. y.held - 1) h.has;
        payload = ap (λ (f : Facts). f.has.payload) after;
        further = ap (λ (f : Facts). f.has.further) after
            ∙ (λ i. if is i then parties_in m - 1 else (h.has i).further);
        waits = ap (λ (f : Facts). f.waits) after ∙ h.waits;
        passed = ap (λ (f : Facts). f.passed) after ∙ h.passed;
        heads = subst (IsPrefix v.facts.heads) (sym (ap (λ (f : Facts). f.heads) after)) h.heads;
      }

  pub owes-others : (m : ℕ) (v x : View BarrierEntry T) → Came true m v x → OwesMore (parties_in m - 1) x.facts
  owes-others m v x c = record { idle = c.doing; further = c.further; payload = c.payload }

  pub below-later : (b : Bool) (m : ℕ) (v x w : View BarrierEntry T) → Came b m v x → IsPrefix x.seen w.seen
      → w.opening ≡ x.opening → IsBelow v w
  below-later b m v x w c on opening = record {
    before = c.at_load;
    since = c.since;
    seen = prefix-then c.at_load x.seen w.seen c.on on;
    below = subst (λ (z : Opening). (object_after z.size c.at_load).waiters.next < v.limit) (sym opening) c.below;
  }

  found-later : (v x w : View BarrierEntry T) (n : ℕ) (before own : List BarrierEntry) → RemainingWas v n before own x
      → IsPrefix x.seen w.seen → w.opening ≡ x.opening → RemainingWas v n before own w
  found-later v x w n before own r on opening = record {
    since = r.since;
    seen = prefix-then (before ++ own) x.seen w.seen r.seen on;
    remaining = r.remaining ∙ ap (λ (z : Opening). (object_after z.size before).remaining) (sym opening);
  }

  -- the last one resumed the others
  pub last-called : (m : ℕ) (ks : List ℕ) (v x w : View BarrierEntry T) → is_last m ≡ true → Came true m v x
      → Ran ks x w → Has v.number v.own → IsLegal w.opening.size w.seen → CameLast ks v w
  last-called m ks v x w is c r has legal = record {
    called = call-rule_ending barrier_object v w (entry.ArriveLast v.number ∷ []) (delivers ks) []
        (called-and barrier_object v x w _ [] (delivers ks) [] c.called r.called) (λ n. refl, tt) (delivers-name ks) has
        legal;
    last = record {
      before = c.before;
      found = subst (λ n. RemainingWas v n c.before (entry.ArriveLast v.number ∷ []) w) (eqb-true (remaining_in m) 1 is)
          (found-later v x w (remaining_in m) c.before _ c.found (r.called.more, r.called.seen) r.called.same.opening);
    };
    served = served-from ks v x w (c.called.more, c.called.seen) r.served;
    many =
        let ran = r.many in
        let size : parties_in m ≡ w.opening.size =
        c.parties ∙ sym (ap (λ (o : Opening). o.size) r.called.same.opening) in
        let idle = owing-none x.facts c.doing in
        let further : x.facts.has.further ≡ parties_in m - 1 = c.further in
        let same : length (served-from ks v x w (c.called.more, c.called.seen) r.served).ends
        ≡ length r.served.ends = refl in
        omega (arith, ran, size, idle, further, same);
  }

  pub came-last : (m : ℕ) (v x w : View BarrierEntry T) → is_last m ≡ true → Came true m v x → RanAll x None w
      → Has v.number v.own → IsLegal w.opening.size w.seen → Arrives v Last w × IsBelow v w
  came-last m v x w is c r has legal =
      let ran = r.2 in (
        (
          inl (r.0, last-called m r.0 v x w is c ran has legal),
          record {
            ready = record { idle = r.4.idle; further = r.4.further };
            held_is = ran.held ∙ c.held;
            waits_are = ran.waits ∙ c.waits;
          },
        ),
        below-later true m v x w c (ran.called.more, ran.called.seen) ran.called.same.opening,
      )

  pub came-owing : (m : ℕ) (owing : Owing) (v x w : View BarrierEntry T) → is_last m ≡ true → Came true m v x
      → RanAll x (Some owing) w → Has v.number v.own → IsLegal w.opening.size w.seen
      → Arrives v (LastOwing owing) w × IsBelow v w
  came-owing m owing v x w is c r has legal =
      let ran = r.1 in (
        (
          r.0,
          last-called m r.0 v x w is c ran has legal,
          r.3,
          handed-since (owing_under owing) [] v x w c.called.same c.heads
              (c.passed ∙ sym (append-nil v.facts.passed)) r.2,
          ran.held ∙ c.held,
          ran.waits ∙ c.waits,
        ),
        below-later true m v x w c (ran.called.more, ran.called.seen) ran.called.same.opening,
      )

  -- an earlier one was found above 1
  pub more-to-come : (m : ℕ) (v x : View BarrierEntry T) → Came false m v x → IsLegal x.opening.size x.seen
      → 1 < remaining_in m
  more-to-come m v x c legal =
      let may : 1 < (object_after x.opening.size c.before).remaining =
      last-allowed x.opening.size c.before (entry.ArriveDoor v.number)
      (subst (IsLegal x.opening.size) c.ends legal) in
      let same : remaining_in m ≡ (object_after x.opening.size c.before).remaining = c.found.remaining in
      omega arith

  early : (m : ℕ) (v x w : View BarrierEntry T) → 1 < remaining_in m → Came false m v x → IsPrefix x.seen w.seen
      → w.opening ≡ x.opening → WasEarly v w
  early m v x w more c on opening = record {
    count = remaining_in m;
    before = c.before;
    more = more;
    found = found-later v x w (remaining_in m) c.before _ c.found on opening;
  }

  -- the value of its resume was there: the last came meanwhile
  pub came-meanwhile : (m k payload : ℕ) (v x w : View BarrierEntry T) → 1 < remaining_in m → Came false m v x
      → EndsBy barrier_object primitive_of takes 2 k payload x w → Has v.number v.own → IsLegal w.opening.size w.seen
      → CameEarly k (entry.Deliver k ∷ []) v w
  came-meanwhile m k payload v x w more c ends has legal =
      let on : IsPrefix x.seen w.seen = (ends.called.more, ends.called.seen) in
      let called : Called barrier_object v (entry.ArriveDoor v.number ∷ entry.Enter x.number k ∷ entry.Deliver k ∷ [])
      (entry.Deliver k ∷ []) w =
      called-and barrier_object v x w _ [] _ _ c.called ends.called in
      let named = subst (λ p. Called barrier_object v
      (entry.ArriveDoor v.number ∷ entry.Enter p k ∷ entry.Deliver k ∷ []) (entry.Deliver k ∷ []) w)
      c.called.same.number called in
      record {
        called = call-rule_ending barrier_object v w (entry.ArriveDoor v.number ∷ entry.Enter v.number k ∷ [])
            (entry.Deliver k ∷ []) []
            (called-weak barrier_object v w _ _ named) (λ n. refl, (λ n. refl, tt)) (λ n. refl, tt) has legal;
        ends = (named.before, named.ends);
        early = early m v x w more c on ends.called.same.opening;
      }

  pub came-early : (m : ℕ) (answer : Arrived) (v x w : View BarrierEntry T) → 1 < remaining_in m → IsReady v.facts
      → Came false m v x → WaitsForOthers x answer w → Has v.number v.own → IsLegal w.opening.size w.seen
      → Arrives v answer w × IsBelow v w
  came-early m Last v x w more ready c e has legal =
      let k = e.0 in
      let ends = e.2 in
      let is = ends.facts_are in
      let on : IsPrefix x.seen w.seen = (ends.called.more, ends.called.seen) in (
        (
          inr (k, came-meanwhile m k e.1 v x w more c ends has legal),
          record {
            ready = record {
              idle = ap (λ (f : Facts). f.doing) is;
              further = ap (λ (f : Facts). f.has.further) is ∙ (c.further ∙ ready.further);
            };
            held_is = ap (λ (f : Facts). f.has.held) is ∙ c.held;
            waits_are = ap (λ (f : Facts). f.waits) is ∙ c.waits;
          },
        ),
        below-later false m v x w c on ends.called.same.opening,
      )
  came-early m (LastOwing owing) v x w more ready c e has legal = absurd e
  came-early m (Later wait) v x w more ready c e has legal =
      let k = (place_of (Rattle.cqs_barrier.specs.Waits.wait_in wait)).index in
      let ends = e.0 in
      let is = ends.facts_are in
      let on : IsPrefix x.seen w.seen = (ends.called.more, ends.called.seen) in
      let called : Called barrier_object v (entry.ArriveDoor v.number ∷ entry.Enter x.number k ∷ []) [] w =
      called-and barrier_object v x w _ [] _ _ c.called ends.called in
      let named = subst (λ p. Called barrier_object v (entry.ArriveDoor v.number ∷ entry.Enter p k ∷ []) [] w)
      c.called.same.number called in (
        (
          record {
            called = call-rule_own barrier_object v w (entry.ArriveDoor v.number ∷ entry.Enter v.number k ∷ []) _ named
                (λ n. refl, (λ n. refl, tt)) has legal;
            ends = (w.seen, sym (append-nil w.seen));
            early = early m v x w more c on ends.called.same.opening;
          },
          e.1,
          record {
            ready = record {
              idle = ap (λ (f : Facts). f.doing) is;
              further = ap (λ (f : Facts). f.has.further) is ∙ (c.further ∙ ready.further);
            };
            held_is = ap (λ (f : Facts). f.has.held) is ∙ c.held;
            waits_are = ap (λ (f : Facts). f.waits) is ∙ ap (λ l. l ++ k ∷ []) c.waits;
          },
        ),
        below-later false m v x w c on ends.called.same.opening,
      )

  -- at which cell it ended
  pub ends-last : (m : ℕ) (v x w : View BarrierEntry T) → is_last m ≡ true → Came true m v x → RanAll x None w
      → Has v.number v.own → IsLegal w.opening.size w.seen → EndsAtCell v Last w
  ends-last m v x w is c r has legal = inl (r.0, last-called m r.0 v x w is c r.2 has legal)

  pub ends-early : (m : ℕ) (answer : Arrived) (v x w : View BarrierEntry T) → 1 < remaining_in m → Came false m v x
      → WaitsForOthers x answer w → Has v.number v.own → IsLegal w.opening.size w.seen → EndsAtCell v answer w
  ends-early m Last v x w more c e has legal =
      let ends = e.2 in
      inr (
        e.0,
        came-meanwhile m e.0 e.1 v x w more c ends has legal,
        (sat-taken barrier_object primitive_of draws 2 e.0 e.1 x w ends).cell.0,
      )
  ends-early m (LastOwing owing) v x w more c e has legal = tt
  ends-early m (Later wait) v x w more c e has legal =
      let k = (place_of (Rattle.cqs_barrier.specs.Waits.wait_in wait)).index in
      (sat-installed barrier_object primitive_of draws 0 k 0 x w e.0).cell.0
