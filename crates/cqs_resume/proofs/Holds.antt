-- A resumption that is handed back for want of a slot.
use Rattle.std.proofs.Common.{◌≡◌, ℕ, ◌+◌, ◌<◌, Bool, true, false, List, [], ◌∷◌, ◌++◌, Option, None, Some, Ok, refl, sym, ap, ◌∙◌, subst, ⊎_elim, inl, inr, append_assoc, arith}
use Rattle.std.proofs.lemmas.List.{append-nil}
use Rattle.cqs_core.specs.declared.cells.CoreState.TheVariants as state
use Rattle.cqs_core.specs.declared.doings.Doing.TheVariants as doing
use Rattle.cqs_core.specs.QueueSteps.{passes_over, reaches}
use Rattle.cqs_rule_laws.specs.declared.view.Facts.{Facts}
use Rattle.cqs_rule_laws.specs.declared.view.Sighting.{Sighting}
use Rattle.cqs_rule_laws.specs.declared.view.View.{View}
use Rattle.cqs_rule_laws.specs.Ample.{IsAmple}
use Rattle.cqs_rule_laws.specs.Called.{Called}
use Rattle.cqs_rule_laws.specs.Counts.{Drew}
use Rattle.cqs_rule_laws.specs.Facts.{IsBehind}
use Rattle.cqs_rule_laws.specs.Object.{Object, Primitive}
use Rattle.cqs_rule_laws.proofs.Calls.{called-by, called-then, called-and}
use Rattle.cqs_rule.specs.declared.queue.tokens.Under as token
use Rattle.cqs_rule.proofs.Claiming.{homes-grow, same-ample}
use Rattle.cqs_resume.specs.declared.resumed.Resumed.{Resumed}
use Rattle.cqs_resume.specs.declared.resumed.Resumed.TheVariants.{Served, Left, Refused, Under}
use Rattle.cqs_resume.specs.Leaps.{Leap, leap_seen, Leapt}
use Rattle.cqs_resume.specs.Meets.{HeldBack, Meets}
use Rattle.cqs_resume.specs.Resumes.{GoesOn, Held, Resumes}
use Rattle.cqs_resume.specs.Rounds.{all_seen, draw_entries, draw_seen, one_if, over_entries, round_entries, round_seen}
use Rattle.cqs_resume.proofs.Leaping.{behind-first, Firstly, firstly, leapt-on}
use Rattle.cqs_resume.proofs.Runs.{HasEnded, IsNext, never-falls, opened_by, over-so, resumes-now, resumes-then, Went, went-drawn, went-open}

module _ {C E S : Type 0} (object : Object E) (primitive : C → Primitive E S) where
  -- the ticket of the number was open
  pub held-open : (most payload k : ℕ) (under : token.Under) (v w : View E S) → 0 < most
      → HeldBack object primitive payload k v under w → Held object primitive most payload v (Under under) w
  held-open most payload k under v w some h = record {
    under = under;
    is = refl;
    over = [];
    few = some;
    are_over = tt;
    are_leapt = tt;
    leap = None;
    leapt = tt;
    number = k;
    drawn = false;
    far = h.crowded.far;
    called = called-by object v w _ [] h.searched.saw;
    found = ap (λ (f : Facts). f.found) h.searched.saw.facts_are;
    spareless = h.crowded.none_left;
    before = [];
    heads = h.crowded.heads;
    heads_are = h.crowded.found;
    taken = h.crowded.taken;
    scarce = h.crowded.scarce;
    payload_is = h.payload_is;
    ticket_is = h.ticket_is;
    has = h.has;
    keeps = ap (λ (f : Facts). f.has) h.searched.saw.facts_are;
    waits_are = ap (λ (f : Facts). f.waits) h.searched.saw.facts_are;
    reached = let same = h.reached_is in omega arith;
  }

  -- the number was drawn, perhaps after a jump
  pub held-drawn : (most payload k : ℕ) (under : token.Under) (leap : Option Leap) (v y x w : View E S) → 0 < most
      → v.facts.has.payload ≡ payload → Leapt object primitive leap v y → IsBehind k y.facts
      → Drew object reaches y k x → HeldBack object primitive payload k x under w
      → Held object primitive most payload v (Under under) w
  held-drawn most payload k under leap v y x w some owed l next d h =
      let f : Firstly object primitive leap v y = firstly object primitive leap v y l in
      let first : List E = object.entries reaches y.number k y.facts.has.payload in
      let drawn = d.facts_are in
      let owes : y.facts.has.payload ≡ payload = ap (λ (z : Facts). z.has.payload) f.facts_are ∙ owed in
      let number : y.number ≡ v.number = f.called.same.number in
      let then : Called object y (first ++ []) [] w =
      called-then object y x w _ first first [] (called-by object y x _ first d) h.searched.saw in
      let called : Called object v (first ++ []) [] w = called-and object v y w [] [] (first ++ []) [] f.called then in
      record {
        under = under;
        is = refl;
        over = [];
        few = some;
        are_over = tt;
        are_leapt = tt;
        leap = leap;
        leapt = leapt-on primitive leap then.more y w f.leapt then.seen then.same.opening;
        number = k;
        drawn = true;
        far =
            let sooner = homes-grow v y f.called.same in
            let grown = homes-grow y x d.same in
            let far = h.crowded.far in omega arith;
        called = subst (λ (l : List E). Called object v l [] w)
            (append-nil first ∙ (λ i. object.entries reaches (number i) k (owes i))) called;
        found = ap (λ (f : Facts). f.found) h.searched.saw.facts_are
            ∙ (append-nil x.facts.found ∙ (ap (λ (f : Facts). f.found) drawn
            ∙ (ap (λ (z : Facts). z.found ++ draw_seen true k) f.facts_are
            ∙ append_assoc v.facts.found (leap_seen leap) (draw_seen true k))));
        spareless = h.crowded.none_left;
        before = [];
        heads = h.crowded.heads;
        heads_are = h.crowded.found ∙ (ap (λ (f : Facts). f.heads ++ h.crowded.heads) drawn
            ∙ ap (λ (z : Facts). z.heads ++ h.crowded.heads) f.facts_are);
        taken = λ n below. h.crowded.taken n
            (let same = d.same.slots in let first = f.called.same.slots in omega arith);
        scarce = λ ample. h.crowded.scarce (same-ample y x d.same (same-ample v y f.called.same ample));
        payload_is = h.payload_is;
        ticket_is = h.ticket_is;
        has = h.has;
        keeps = ap (λ (f : Facts). f.has) h.searched.saw.facts_are
            ∙ (ap (λ (f : Facts). f.has) drawn ∙ ap (λ (z : Facts). z.has) f.facts_are);
        waits_are = ap (λ (f : Facts). f.waits) h.searched.saw.facts_are
            ∙ (ap (λ (f : Facts). f.waits) drawn ∙ ap (λ (z : Facts). z.waits) f.facts_are);
        reached =
            let same = h.reached_is in
            let is = ap (λ (f : Facts). f.reached) drawn in
            let first = ap (λ (z : Facts). z.reached) f.facts_are in
            let low = next.reached in omega arith;
      }

  -- a number was passed over before
  pub held-then : (drawn : Bool) (most payload j : ℕ) (result : Resumed) (v u w : View E S)
      → Went object primitive drawn passes_over state.Cancelled doing.Owes (j ∷ []) payload j v u
      → IsNext drawn j v.facts → Held object primitive most payload u result w
      → Held object primitive (one_if drawn + most) payload v result w
  held-then drawn most payload j result v u w t next h =
      let number : u.number ≡ v.number = t.called.same.number in
      let first : List E = round_entries object v.number payload passes_over t.round in
      let own : ℕ → List E = λ z. over_entries object z payload h.over in
      let end : ℕ → List E = λ z. draw_entries object z payload h.drawn h.number in
      let one : one_if t.round.drawn ≡ one_if drawn = ap one_if t.is_drawn in
      let few = h.few in
      record {
        under = h.under;
        is = h.is;
        over = t.round ∷ h.over;
        few = omega (arith, one, few);
        are_over = (
          over-so object primitive drawn doing.Owes (j ∷ []) payload j h.called.more v u w t h.called.seen
              h.called.same.opening,
          h.are_over,
        );
        are_leapt = (
          leapt-on primitive t.round.leap h.called.more u w t.leapt h.called.seen h.called.same.opening,
          h.are_leapt,
        );
        leap = h.leap;
        leapt = h.leapt;
        number = h.number;
        drawn = h.drawn;
        far = let grown = homes-grow v u t.called.same in let far = h.far in omega arith;
        called = subst (λ (z : List E). Called object v z [] w)
            ((λ i. first ++ (own (number i) ++ end (number i)))
            ∙ sym (append_assoc first (own v.number) (end v.number)))
            (called-and object v u w first _ (own u.number ++ end u.number) _ t.called h.called);
        found =
            let last : List Sighting = leap_seen h.leap ++ draw_seen h.drawn h.number in
            let later : List Sighting = all_seen h.over ++ last in
            h.found ∙ (ap (λ (f : Facts). f.found ++ later) t.facts_are
            ∙ (append_assoc v.facts.found (round_seen t.round) later
            ∙ ap (λ l. v.facts.found ++ l)
            (sym (append_assoc (round_seen t.round) (all_seen h.over) last))));
        spareless = h.spareless;
        before = t.round.heads ++ h.before;
        heads = h.heads;
        heads_are = h.heads_are ∙ (ap (λ (f : Facts). f.heads ++ (h.before ++ h.heads)) t.facts_are
            ∙ (append_assoc v.facts.heads t.round.heads (h.before ++ h.heads)
            ∙ ap (λ l. v.facts.heads ++ l) (sym (append_assoc t.round.heads h.before h.heads))));
        taken = λ n below. h.taken n (let same = t.called.same.slots in omega arith);
        scarce = λ ample. h.scarce (same-ample v u t.called.same ample);
        payload_is = h.payload_is;
        ticket_is = h.ticket_is;
        has = h.has;
        keeps = h.keeps ∙ ap (λ (f : Facts). f.has) t.facts_are;
        waits_are = h.waits_are ∙ ap (λ (f : Facts). f.waits) t.facts_are;
        reached =
            let first = never-falls object primitive drawn passes_over state.Cancelled doing.Owes (j ∷ []) payload j v
            u t next in
            let later = h.reached in omega arith;
      }

  -- a resumption that ended at its first number, or was handed back there; the number was drawn, or its ticket open
  pub goes-drawn : (most payload k : ℕ) (result : Resumed) (leap : Option Leap) (v y x w : View E S) → 0 < most
      → v.facts.has.payload ≡ payload → Leapt object primitive leap v y → IsBehind k y.facts
      → Drew object reaches y k x → Meets object primitive payload k x (Ok result) w
      → GoesOn object primitive most None payload v result w
  goes-drawn most payload k result leap v y x w some owed l next d m = by result m
    where
      ends : (r : Resumed) → HasEnded r → Meets object primitive payload k x (Ok r) w
          → Resumes object primitive most None payload v r w
      ends r end met = resumes-now object primitive true most payload k r v x w some
          (behind-first object primitive leap v y k (firstly object primitive leap v y l) next) end
          (λ s found met. went-drawn object primitive s found doing.Idle [] payload k leap v y x w owed l d met) met

      by : (r : Resumed) → Meets object primitive payload k x (Ok r) w
          → GoesOn object primitive most None payload v r w
      by (Under under) met = inr (held-drawn most payload k under leap v y x w some owed l next d met)
      by (Served n) met = inl (ends (Served n) tt met)
      by (Left n) met = inl (ends (Left n) tt met)
      by (Refused n) met = inl (ends (Refused n) tt met)

  pub goes-open : (most payload k : ℕ) (result : Resumed) (v w : View E S) → 0 < most
      → Meets object primitive payload k v (Ok result) w
      → GoesOn object primitive most (Some k) payload v result w
  goes-open most payload k result v w some m = by result m
    where
      ends : (r : Resumed) → HasEnded r → Meets object primitive payload k v (Ok r) w
          → Resumes object primitive most (Some k) payload v r w
      ends r end met = resumes-now object primitive false most payload k r v v w some tt end
          (λ s found met. went-open object primitive s found doing.Idle [] payload k v w met) met

      by : (r : Resumed) → Meets object primitive payload k v (Ok r) w
          → GoesOn object primitive most (Some k) payload v r w
      by (Under under) met = inr (held-open most payload k under v w some met)
      by (Served n) met = inl (ends (Served n) tt met)
      by (Left n) met = inl (ends (Left n) tt met)
      by (Refused n) met = inl (ends (Refused n) tt met)

  -- and one that went on after a number
  pub goes-then : (drawn : Bool) (most payload j : ℕ) (result : Resumed) (v u w : View E S)
      → Went object primitive drawn passes_over state.Cancelled doing.Owes (j ∷ []) payload j v u
      → IsNext drawn j v.facts → GoesOn object primitive most None payload u result w
      → GoesOn object primitive (one_if drawn + most) (opened_by drawn j) payload v result w
  goes-then drawn most payload j result v u w t next goes = ⊎_elim
      (λ (r : Resumes object primitive most None payload u result w). inl
      (resumes-then object primitive drawn most payload j result v u w t next r))
      (λ (h : Held object primitive most payload u result w). inr
      (held-then drawn most payload j result v u w t next h)) goes

  -- in an ample table there is always a slot
  pub goes-amply : (most payload : ℕ) (ticket : Option ℕ) (result : Resumed) (v w : View E S) → IsAmple v
      → GoesOn object primitive most ticket payload v result w
      → Resumes object primitive most ticket payload v result w
  goes-amply most payload ticket result v w ample goes = ⊎_elim
      (λ (r : Resumes object primitive most ticket payload v result w). r)
      (λ (h : Held object primitive most payload v result w). absurd (h.scarce ample)) goes
