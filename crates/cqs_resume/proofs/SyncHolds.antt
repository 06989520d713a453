-- A resumption of a synchronous queue, number by number: it ended at its first one, or passed over it and went on.
use Rattle.std.proofs.Common.{◌≡◌, ℕ, ◌+◌, ◌<◌, Bool, true, false, List, [], ◌∷◌, ◌++◌, Option, None, Some, Ok, refl, sym, ap, ◌∙◌, subst, inl, inr, append_assoc, arith}
use Rattle.std.proofs.lemmas.List.{append-nil}
use Rattle.cqs_core.specs.declared.cells.CoreState.{CoreState}
use Rattle.cqs_core.specs.declared.cells.CoreState.TheVariants as state
use Rattle.cqs_core.specs.declared.doings.Doing.{Doing}
use Rattle.cqs_core.specs.declared.doings.Doing.TheVariants as doing
use Rattle.cqs_core.specs.QueueSteps.{QueueStep, ends_refused, in_sync, leaves_watched, passes_over, reaches, serves}
use Rattle.cqs_rule_laws.specs.declared.view.Facts.{Facts}
use Rattle.cqs_rule_laws.specs.declared.view.Sighting.{Sighting}
use Rattle.cqs_rule_laws.specs.declared.view.Sighting.TheVariants.{Cell, Word}
use Rattle.cqs_rule_laws.specs.declared.view.View.{View}
use Rattle.cqs_rule_laws.specs.Ample.{IsAmple}
use Rattle.cqs_rule_laws.specs.Called.{Called}
use Rattle.cqs_rule_laws.specs.Counts.{Drew}
use Rattle.cqs_rule_laws.specs.Facts.{IsBehind}
use Rattle.cqs_rule_laws.specs.Layout.{resumes_place}
use Rattle.cqs_rule_laws.specs.Object.{Object, Primitive}
use Rattle.cqs_rule_laws.proofs.Calls.{called-by, called-then, called-and}
use Rattle.cqs_rule.specs.declared.queue.tokens.Under as token
use Rattle.cqs_resume.specs.declared.sync_resumed.SyncResumed.{SyncResumed}
use Rattle.cqs_resume.specs.declared.sync_resumed.SyncResumed.TheVariants.{Served, Refused, Broke, Handling, Under}
use Rattle.cqs_resume.specs.declared.resumed.Resumed.TheVariants as plain
use Rattle.cqs_resume.specs.Leaps.{Leap, leap_seen, Leapt}
use Rattle.cqs_resume.specs.Meets.{Met}
use Rattle.cqs_resume.specs.Resumes.{Ended, Held}
use Rattle.cqs_resume.specs.Rounds.{Round, cell_in, draw_entries, numbers, one_if, over_entries, round_entries}
use Rattle.cqs_resume.specs.SyncMeets.{facts_kept, MetCanceller, MetThen, SyncMeets}
use Rattle.cqs_resume.specs.SyncResumes.{facts_handling, Handled, IsSyncFurther, LeftThen, SyncGoesOn, SyncResumes}
use Rattle.cqs_resume.specs.Watching.{HasBroken, SawTaken}
use Rattle.cqs_resume.proofs.Holds.{held-drawn, held-open, held-then}
use Rattle.cqs_resume.proofs.Leaping.{behind-first, Firstly, firstly, leapt-on}
use Rattle.cqs_resume.proofs.Runs.{came-now, facts-then, IsNext, never-falls, opened_by, opens-with, over-so, then-came, then-stopped, Went, went-drawn, went-open}

module _ {C E S : Type 0} (object : Object E) (primitive : C → Primitive E S) where
  -- A CANCELLER STANDS IN THE CELL.

  -- the ticket of the number was open
  handled-open : (most payload k : ℕ) (under : token.Under) (v w : View E S) → 0 < most
      → MetCanceller object primitive payload k v under w
      → Handled object primitive most (Some k) payload k under v w
  handled-open most payload k under v w some m =
      let f : Facts = v.facts in
      let seen : List Sighting = m.tried ++ Cell k m.word ∷ [] in record {
        over = [];
        last = record {
          number = k;
          leap = None;
          drawn = false;
          tried = m.tried;
          heads = m.heads;
          far = m.search.far;
          spares = m.spares;
          word = m.word;
          payload = m.left;
        };
        number = refl;
        opens = (refl, refl, tt);
        few = some;
        are_over = tt;
        are_leapt = (tt, tt);
        found = record { cell = m.cell; few = m.few; few_heads = m.search.few };
        was = m.was;
        called = called-by object v w _ [] m.saw;
        facts_are = m.saw.facts_are
            ∙ (λ i. record (facts_kept k m.tried m.word m.left m.heads m.spares f) {
              heads = f.heads ++ sym (append-nil m.heads) i;
              found = f.found ++ sym (append-nil seen) i;
            });
        payload_is = m.payload_is;
        ticket_is = m.ticket_is;
        has = m.has;
        reached = let same = m.reached_is in omega arith;
      }

  -- the number was drawn, perhaps after a jump
  handled-drawn : (most payload k : ℕ) (under : token.Under) (leap : Option Leap) (v y x w : View E S) → 0 < most
      → v.facts.has.payload ≡ payload → Leapt object primitive leap v y → IsBehind k y.facts
      → Drew object reaches y k x → MetCanceller object primitive payload k x under w
      → Handled object primitive most None payload k under v w
  handled-drawn most payload k under leap v y x w some owed l next d m =
      let f : Firstly object primitive leap v y = firstly object primitive leap v y l in
      let first : List E = object.entries reaches y.number k y.facts.has.payload in
      let owes : y.facts.has.payload ≡ payload = ap (λ (z : Facts). z.has.payload) f.facts_are ∙ owed in
      let number : y.number ≡ v.number = f.called.same.number in
      let seen : List Sighting = m.tried ++ Cell k m.word ∷ [] in
      let then : Called object y (first ++ []) [] w =
      called-then object y x w _ first first [] (called-by object y x _ first d) m.saw in
      let called : Called object v (first ++ []) [] w = called-and object v y w [] [] (first ++ []) [] f.called then in
      let kept : Facts → Facts = λ z. facts_kept k m.tried m.word m.left m.heads m.spares z in
      let drawn : Facts → Facts = λ z. record z {
        doing = doing.Ticket k;
        last = None;
        reached = k;
        found = z.found ++ Word resumes_place k ∷ [];
      } in
      record {
        over = [];
        last = record {
          number = k;
          leap = leap;
          drawn = true;
          tried = m.tried;
          heads = m.heads;
          far = m.search.far;
          spares = m.spares;
          word = m.word;
          payload = m.left;
        };
        number = refl;
        opens = (refl, tt);
        few = some;
        are_over = tt;
        are_leapt = (leapt-on primitive leap then.more y w f.leapt then.seen then.same.opening, tt);
        found = record { cell = m.cell; few = m.few; few_heads = m.search.few };
        was = m.was;
        called = subst (λ (l : List E). Called object v l [] w)
            (append-nil first ∙ (λ i. object.entries reaches (number i) k (owes i))) called;
        facts_are = m.saw.facts_are
            ∙ (ap kept d.facts_are
            ∙ (ap (λ z. kept (drawn z)) f.facts_are
            ∙ (λ i. record (kept (drawn v.facts)) {
              heads = v.facts.heads ++ sym (append-nil m.heads) i;
              found =
                  (append_assoc (v.facts.found ++ leap_seen leap) (Word resumes_place k ∷ []) seen
                  ∙ (append_assoc v.facts.found (leap_seen leap) (Word resumes_place k ∷ seen)
                  ∙ ap (λ z. v.facts.found ++ z) (sym (append-nil (leap_seen leap ++ Word resumes_place k ∷ seen))))) i;
            })));
        payload_is = m.payload_is;
        ticket_is = m.ticket_is;
        has = m.has;
        reached =
            let same = m.reached_is in
            let is = ap (λ (f : Facts). f.reached) d.facts_are in
            let first = ap (λ (z : Facts). z.reached) f.facts_are in
            let low = next.reached in omega arith;
      }

  -- a number was passed over before
  handled-then : (drawn : Bool) (most payload j k : ℕ) (under : token.Under) (v u w : View E S)
      → Went object primitive drawn passes_over state.Cancelled doing.Owes (j ∷ []) payload j v u
      → IsNext drawn j v.facts → Handled object primitive most None payload k under u w
      → Handled object primitive (one_if drawn + most) (opened_by drawn j) payload k under v w
  handled-then drawn most payload j k under v u w t next e =
      let number : u.number ≡ v.number = t.called.same.number in
      let first : List E = round_entries object v.number payload passes_over t.round in
      let rest : List Round = e.over ++ e.last ∷ [] in
      let own : ℕ → List E = λ z. over_entries object z payload e.over in
      let end : ℕ → List E = λ z. draw_entries object z payload e.last.drawn e.last.number in
      let one : one_if t.round.drawn ≡ one_if drawn = ap one_if t.is_drawn in
      let few = e.few in
      record {
        over = t.round ∷ e.over;
        last = e.last;
        number = e.number;
        opens = opens-with object primitive drawn t.round rest j t.number t.is_drawn e.opens;
        few = omega (arith, one, few);
        are_over = (
          over-so object primitive drawn doing.Owes (j ∷ []) payload j e.called.more v u w t e.called.seen
              e.called.same.opening,
          e.are_over,
        );
        are_leapt = (
          leapt-on primitive t.round.leap e.called.more u w t.leapt e.called.seen e.called.same.opening,
          e.are_leapt,
        );
        found = e.found;
        was = e.was;
        called = subst (λ (z : List E). Called object v z [] w)
            ((λ i. first ++ (own (number i) ++ end (number i)))
            ∙ sym (append_assoc first (own v.number) (end v.number)))
            (called-and object v u w first _ (own u.number ++ end u.number) _ t.called e.called);
        facts_are = e.facts_are ∙ (ap (facts_handling k e.over e.last) t.facts_are
            ∙ (λ i. record
            (facts-then reaches k (doing.Ticket k) (numbers e.over) rest t.round j v.facts t.number i)
            { last = Some (cell_in state.Cancelling e.last) }));
        payload_is = e.payload_is;
        ticket_is = e.ticket_is;
        has = e.has;
        reached =
            let before = never-falls object primitive drawn passes_over state.Cancelled doing.Owes (j ∷ []) payload j v
            u t next in
            let later = e.reached in omega arith;
      }

  -- THE FIRST NUMBER: it was drawn, or its ticket open.

  -- by what a step at its cell is a round of the call
  abbrev GoesBy : Bool → ℕ → ℕ → View E S → View E S → Type 0
  GoesBy drawn payload k v x =
      (s : QueueStep) (stood : CoreState) (at : Doing) (w : View E S) → Met object primitive s stood at [] payload k x w
      → Went object primitive drawn s stood at [] payload k v w

  -- the value was left there
  left-now : (drawn : Bool) (Then : View E S → View E S → Type 0) (most payload k : ℕ) (v x w : View E S) → 0 < most
      → IsNext drawn k v.facts → GoesBy drawn payload k v x
      → MetThen object primitive Then payload k x w
      → LeftThen object primitive Then most (opened_by drawn k) payload k v w
  left-now drawn Then most payload k v x w some next went m = record {
    from = m.from;
    left = came-now object primitive drawn (doing.Watching k) (in_sync leaves_watched) state.Empty most payload k v
        m.from some next (went (in_sync leaves_watched) state.Empty (doing.Watching k) m.from m.met);
    then = m.then;
  }

  ends-now : (drawn : Bool) (most payload k : ℕ) (result : SyncResumed) (v x w : View E S) → 0 < most
      → IsNext drawn k v.facts → GoesBy drawn payload k v x
      → ((under : token.Under) → MetCanceller object primitive payload k x under w
      → Handled object primitive most (opened_by drawn k) payload k under v w)
      → ((under : token.Under) → SyncMeets object primitive payload k x (Ok (Under under)) w
      → Held object primitive most payload v (plain.Under under) w)
      → SyncMeets object primitive payload k x (Ok result) w
      → SyncGoesOn object primitive most (opened_by drawn k) payload v result w
  ends-now drawn most payload k (Served n) v x w some next went handles held (is, inl m) =
      inl (inl (subst (λ z. Ended object primitive serves state.Waiter most (opened_by drawn k) payload z v w) (sym is)
      (came-now object primitive drawn doing.Idle serves state.Waiter most payload k v w some next
      (went serves state.Waiter doing.Idle w m))))
  ends-now drawn most payload k (Served n) v x w some next went handles held (is, inr m) =
      inl (inr (subst
      (λ z. LeftThen object primitive (SawTaken object primitive z) most (opened_by drawn k) payload z v w) (sym is)
      (left-now drawn (SawTaken object primitive k) most payload k v x w some next went m)))
  ends-now drawn most payload k (Refused n) v x w some next went handles held (is, m) =
      inl (subst (λ z. Ended object primitive ends_refused state.Refused most (opened_by drawn k) payload z v w)
      (sym is) (came-now object primitive drawn doing.Idle ends_refused state.Refused most payload k v w some next
      (went ends_refused state.Refused doing.Idle w m)))
  ends-now drawn most payload k (Broke n) v x w some next went handles held (is, m) =
      inl (subst
      (λ z. LeftThen object primitive (HasBroken object primitive z) most (opened_by drawn k) payload z v w) (sym is)
      (left-now drawn (HasBroken object primitive k) most payload k v x w some next went m))
  ends-now drawn most payload k (Handling n under) v x w some next went handles held (is, m) =
      inl (subst (λ z. Handled object primitive most (opened_by drawn k) payload z under v w) (sym is)
      (handles under m))
  ends-now drawn most payload k (Under under) v x w some next went handles held m = inr (held under m)

  pub sync-drawn : (most payload k : ℕ) (result : SyncResumed) (leap : Option Leap) (v y x w : View E S) → 0 < most
      → v.facts.has.payload ≡ payload → Leapt object primitive leap v y → IsBehind k y.facts
      → Drew object reaches y k x → SyncMeets object primitive payload k x (Ok result) w
      → SyncGoesOn object primitive most None payload v result w
  sync-drawn most payload k result leap v y x w some owed l next d m =
      ends-now true most payload k result v x w some
      (behind-first object primitive leap v y k (firstly object primitive leap v y l) next)
      (λ s stood at z met. went-drawn object primitive s stood at [] payload k leap v y x z owed l d met)
      (λ under met. handled-drawn most payload k under leap v y x w some owed l next d met)
      (λ under met. held-drawn object primitive most payload k under leap v y x w some owed l next d met) m

  pub sync-open : (most payload k : ℕ) (result : SyncResumed) (v w : View E S) → 0 < most
      → SyncMeets object primitive payload k v (Ok result) w
      → SyncGoesOn object primitive most (Some k) payload v result w
  sync-open most payload k result v w some m =
      ends-now false most payload k result v v w some tt
      (λ s stood at z met. went-open object primitive s stood at [] payload k v z met)
      (λ under met. handled-open most payload k under v w some met)
      (λ under met. held-open object primitive most payload k under v w some met) m

  -- A NUMBER WAS PASSED OVER, AND THE RESUMPTION WENT ON.

  left-then : (drawn : Bool) (Then : View E S → View E S → Type 0) (most payload j k : ℕ) (v u w : View E S)
      → Went object primitive drawn passes_over state.Cancelled doing.Owes (j ∷ []) payload j v u
      → IsNext drawn j v.facts → LeftThen object primitive Then most None payload k u w
      → LeftThen object primitive Then (one_if drawn + most) (opened_by drawn j) payload k v w
  left-then drawn Then most payload j k v u w t next l = record {
    from = l.from;
    left = then-came object primitive drawn (doing.Watching k) (in_sync leaves_watched) state.Empty most payload j k v u
        l.from t next l.left;
    then = l.then;
  }

  pub sync-then : (drawn : Bool) (most payload j : ℕ) (result : SyncResumed) (v u w : View E S)
      → Went object primitive drawn passes_over state.Cancelled doing.Owes (j ∷ []) payload j v u
      → IsNext drawn j v.facts → SyncGoesOn object primitive most None payload u result w
      → SyncGoesOn object primitive (one_if drawn + most) (opened_by drawn j) payload v result w
  sync-then drawn most payload j (Served k) v u w t next (inl (inl e)) =
      inl (inl (then-came object primitive drawn doing.Idle serves state.Waiter most payload j k v u w t next e))
  sync-then drawn most payload j (Served k) v u w t next (inl (inr l)) =
      inl (inr (left-then drawn (SawTaken object primitive k) most payload j k v u w t next l))
  sync-then drawn most payload j (Refused k) v u w t next (inl e) =
      inl (then-came object primitive drawn doing.Idle ends_refused state.Refused most payload j k v u w t next e)
  sync-then drawn most payload j (Broke k) v u w t next (inl l) =
      inl (left-then drawn (HasBroken object primitive k) most payload j k v u w t next l)
  sync-then drawn most payload j (Handling k under) v u w t next (inl e) =
      inl (handled-then drawn most payload j k under v u w t next e)
  sync-then drawn most payload j (Under under) v u w t next (inl e) =
      inl (then-stopped object primitive drawn most payload j under v u w t next e)
  sync-then drawn most payload j (Under under) v u w t next (inr h) =
      inr (held-then object primitive drawn most payload j (plain.Under under) v u w t next h)
  sync-then drawn most payload j (Served k) v u w t next (inr h) = absurd h
  sync-then drawn most payload j (Refused k) v u w t next (inr h) = absurd h
  sync-then drawn most payload j (Broke k) v u w t next (inr h) = absurd h
  sync-then drawn most payload j (Handling k under) v u w t next (inr h) = absurd h

  -- in an ample table there is always a slot
  pub sync-amply : (most payload : ℕ) (ticket : Option ℕ) (result : SyncResumed) (v w : View E S) → IsAmple v
      → SyncGoesOn object primitive most ticket payload v result w
      → SyncResumes object primitive most ticket payload v result w
  sync-amply most payload ticket result v w ample (inl r) = r
  sync-amply most payload ticket (Under under) v w ample (inr h) = absurd (h.scarce ample)
  sync-amply most payload ticket (Served k) v w ample (inr h) = absurd h
  sync-amply most payload ticket (Refused k) v w ample (inr h) = absurd h
  sync-amply most payload ticket (Broke k) v w ample (inr h) = absurd h
  sync-amply most payload ticket (Handling k under) v w ample (inr h) = absurd h

  -- a resumption that was handed back again has come further; one that a canceller is to end first, no less far
  pub sync-further : (most payload reached : ℕ) (ticket : Option ℕ) (result : SyncResumed) (v w : View E S) → 1 < most
      → reached ≡ v.facts.reached → SyncResumes object primitive most ticket payload v result w
      → IsSyncFurther reached result
  sync-further most payload reached ticket (Served k) v w more is e = tt
  sync-further most payload reached ticket (Refused k) v w more is e = tt
  sync-further most payload reached ticket (Broke k) v w more is e = tt
  sync-further most payload reached ticket (Handling k under) v w more is e = let high = e.reached in omega arith
  sync-further most payload reached ticket (Under under) v w more is e = let high = e.further more in omega arith
