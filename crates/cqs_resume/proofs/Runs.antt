-- A resume is its rounds, one number after the other.
use Rattle.std.proofs.Common.{◌≡◌, ℕ, ◌+◌, ◌<◌, ◌≤◌, Bool, true, false, List, [], ◌∷◌, ◌++◌, length, Option, Some, None, Ok, sym, refl, ap, ◌∙◌, subst, inl, inr, ⊎_elim, append_assoc, if◌then◌else◌, arith}
use Rattle.std.proofs.lemmas.List.{append-nil}
use Rattle.cqs_core.specs.declared.cells.CoreState.{CoreState}
use Rattle.cqs_core.specs.declared.cells.CoreState.TheVariants as state
use Rattle.cqs_core.specs.declared.doings.Doing.{Doing}
use Rattle.cqs_core.specs.declared.doings.Doing.TheVariants as doing
use Rattle.cqs_core.specs.QueueSteps.{QueueStep, reaches, serves, leaves, delegates, passes_over, ends_refused}
use Rattle.cqs_rule.specs.declared.queue.tokens.Under as token
use Rattle.cqs_rule_laws.specs.declared.view.Facts.{Facts}
use Rattle.cqs_rule_laws.specs.declared.view.Sighting.{Sighting}
use Rattle.cqs_rule_laws.specs.declared.view.Sighting.TheVariants.{Cell, Word}
use Rattle.cqs_rule_laws.specs.declared.view.View.{View}
use Rattle.cqs_rule_laws.specs.Called.{Called}
use Rattle.cqs_rule_laws.specs.Counts.{Drew}
use Rattle.cqs_rule_laws.specs.Exchanges.{HasCell}
use Rattle.cqs_rule_laws.specs.Facts.{IsBehind}
use Rattle.cqs_rule_laws.specs.Layout.{resumes_place}
use Rattle.cqs_rule_laws.specs.Lists as lists
use Rattle.cqs_rule_laws.specs.Object.{Object, Primitive}
use Rattle.cqs_rule.specs.Owed.{HasUnder, under_payload, under_ticket, under_reached}
use Rattle.cqs_rule_laws.specs.Saw.{WasFound}
use Rattle.cqs_rule_laws.proofs.Calls.{called-by, called-then, called-and}
use Rattle.cqs_rule_laws.proofs.Lists.{has_left, has_right}
use Rattle.cqs_resume.specs.declared.resumed.Resumed.{Resumed}
use Rattle.cqs_resume.specs.declared.resumed.Resumed.TheVariants.{Served, Left, Refused, Under}
use Rattle.cqs_resume.specs.Rounds.{Round, cell_in, IsFoundIn, IsOpenedWith, AreDrawn, draw_seen, numbers, one_if, round_seen, all_seen, all_heads, facts_after_rounds, round_entries, over_entries}
use Rattle.cqs_rule.specs.Counting.{counted_after}
use Rattle.cqs_resume.specs.Counting.{duties_after, looked_after, settles_at}
use Rattle.cqs_resume.proofs.Leaping.{Firstly, firstly, leapt-on, was-so}
use Rattle.cqs_resume.specs.Meets.{facts_met, cell_of, Met, Meets}
use Rattle.cqs_resume.specs.Leaps.{IsLeapt, Leap, leap_seen, Leapt}
use Rattle.cqs_resume.specs.Resumes.{IsOver, CameTo, Ended, Stopped, Resumes, IsFurther}

-- how a call opens with this number: it drew it, or it went on from its open ticket
abbrev pub opened_by : Bool → ℕ → Option ℕ
opened_by true k = None
opened_by false k = Some k

-- a pass at these facts after one round that left it so
abbrev pub facts_round : QueueStep → ℕ → Doing → List ℕ → Round → Facts → Facts
facts_round s k at over r f = record f {
  doing = at;
  last = None;
  reached = if r.drawn then r.number else f.reached;
  looked = looked_after s f.looked;
  passed = f.passed ++ over;
  duties = duties_after s k f.duties;
  spare_slots = r.spares;
  heads = f.heads ++ r.heads;
  found = f.found ++ round_seen r;
}

-- the facts after one round, and after one round and then others
facts-one : (s : QueueStep) (k : ℕ) (at : Doing) (over : List ℕ) (r : Round) (f : Facts)
    → facts_round s k at over r f ≡ facts_after_rounds s k at over (r ∷ []) f
facts-one s k at over r f = λ i. record (facts_round s k at over r f) {
  heads = f.heads ++ sym (append-nil r.heads) i;
  found = f.found ++ sym (append-nil (round_seen r)) i;
}

pub facts-then : (s : QueueStep) (k : ℕ) (at : Doing) (ns : List ℕ) (rest : List Round) (r : Round) (j : ℕ) (f : Facts)
    → r.number ≡ j
    → facts_after_rounds s k at ns rest (facts_round passes_over j doing.Owes (j ∷ []) r f)
    ≡ facts_after_rounds s k at (r.number ∷ ns) (r ∷ rest) f
facts-then s k at ns rest r j f is =
    λ i. record (facts_after_rounds s k at ns rest (facts_round passes_over j doing.Owes (j ∷ []) r f)) {
      passed = (append_assoc f.passed (j ∷ []) ns ∙ ap (λ z. f.passed ++ (z ∷ ns)) (sym is)) i;
      heads = append_assoc f.heads r.heads (all_heads rest) i;
      found = append_assoc f.found (round_seen r) (all_seen rest) i;
    }

-- the resumption ended
abbrev pub HasEnded : Resumed → Type 0
HasEnded (Served k) = Unit {0}
HasEnded (Left k) = Unit {0}
HasEnded (Refused k) = Unit {0}
HasEnded (Under under) = ⊥

-- a number that was drawn comes after those that the pass drew before
abbrev pub IsNext : Bool → ℕ → Facts → Type 0
IsNext true k f = IsBehind k f
IsNext false k f = Unit {0}

module _ {C E S : Type 0} (object : Object E) (primitive : C → Primitive E S) where
  -- one round of a call
  pub record Went (drawn : Bool) (s : QueueStep) (state : CoreState) (at : Doing) (over : List ℕ) (payload k : ℕ)
      (v w : View E S) : Type 0 where
    pub round : Round
    pub number : round.number ≡ k
    pub is_drawn : round.drawn ≡ drawn
    pub found : IsFoundIn state round
    pub was : WasFound primitive (HasCell (cell_in state round)) (object.entries s v.number k payload) w
    pub called : Called object v (round_entries object v.number payload s round) (object.entries s v.number k payload) w
    pub leapt : IsLeapt primitive w round.leap
    pub counted : List (ℕ × ℕ)
    pub few_counted : length counted ≤ 1
    pub facts_are : w.facts ≡ counted_after (settles_at s) counted (facts_round s k at over round v.facts)

  -- the number was drawn, and then met
  went-plain : (s : QueueStep) (state : CoreState) (at : Doing) (over : List ℕ) (payload k : ℕ) (v x w : View E S)
      → v.facts.has.payload ≡ payload → Drew object reaches v k x → Met object primitive s state at over payload k x w
      → (t : Went true s state at over payload k v w) × (t.round.leap ≡ None)
  went-plain s state at over payload k v x w owed d m =
      let f : Facts = v.facts in
      let drawn : Facts = record f {
        doing = doing.Ticket k;
        last = None;
        reached = k;
        found = f.found ++ Word resumes_place k ∷ [];
      } in
      let x_is : x.facts ≡ drawn = d.facts_are in
      let seen : List Sighting = m.tried ++ Cell k m.word ∷ [] in
      let last : object.entries s x.number k payload ≡ object.entries s v.number k payload =
      ap (λ z. object.entries s z k payload) d.same.number in
      let first : List E = object.entries reaches v.number k f.has.payload in
      let called : Called object v (first ++ object.entries s x.number k payload)
      (object.entries s x.number k payload) w =
      called-then object v x w _ first first _ (called-by object v x _ first d) m.saw in (
        record {
          round = record {
            number = k;
            leap = None;
            drawn = true;
            tried = m.tried;
            heads = m.heads;
            far = m.search.far;
            spares = m.spares;
            word = m.word;
            payload = m.left;
          };
          number = refl;
          is_drawn = refl;
          found = record { cell = m.cell; few = m.few; few_heads = m.search.few };
          was = subst (λ (z : List E). WasFound primitive (HasCell (cell_of k state m.left)) z w) last m.was;
          called = subst (λ (z : ℕ × List E). Called object v (object.entries reaches v.number k z.0 ++ z.1) z.1 w)
              (λ i. (owed i, last i)) called;
          counted = m.counted;
          few_counted = m.few_counted;
          facts_are = m.saw.facts_are ∙ ap (counted_after (settles_at s) m.counted)
              ((λ i. facts_met s k at over seen m.heads m.spares (x_is i))
              ∙ (λ i. record (facts_met s k at over seen m.heads m.spares drawn) {
                found =
                    append_assoc f.found (Word resumes_place k ∷ []) seen i;
              }));
          leapt = tt;
        },
        refl,
      )

  -- and before that a jump was tried
  went-first : (leap : Option Leap) (s : QueueStep) (state : CoreState) (at : Doing) (over : List ℕ) (payload k : ℕ)
      (v y w : View E S) → Firstly object primitive leap v y → (t : Went true s state at over payload k y w)
      → t.round.leap ≡ None → Went true s state at over payload k v w
  went-first leap s state at over payload k v y w f t plain =
      let number : y.number ≡ v.number = f.called.same.number in
      let round : Round = record t.round { leap = leap } in
      let rest : List Sighting = draw_seen t.round.drawn t.round.number
      ++ (t.round.tried ++ Cell t.round.number t.round.word ∷ []) in
      let own : ℕ → List E = λ z. round_entries object z payload s t.round in
      let last : ℕ → List E = λ z. object.entries s z k payload in
      record {
        round = round;
        number = t.number;
        is_drawn = t.is_drawn;
        found = record { cell = t.found.cell; few = t.found.few; few_heads = t.found.few_heads };
        was = subst (λ z. WasFound primitive (HasCell (cell_in state t.round)) (last z) w) number t.was;
        called = subst (λ z. Called object v (own z) (last z) w) number
            (called-and object v y w [] [] (own y.number) (last y.number) f.called t.called);
        leapt = leapt-on primitive leap t.called.more y w f.leapt t.called.seen t.called.same.opening;
        counted = t.counted;
        few_counted = t.few_counted;
        facts_are = t.facts_are ∙ ap (counted_after (settles_at s) t.counted)
            (ap (facts_round s k at over t.round) f.facts_are
            ∙ (λ i. record (facts_round s k at over round v.facts) {
              found =
                  (ap (λ z. (v.facts.found ++ leap_seen leap) ++ (leap_seen z ++ rest)) plain
                  ∙ append_assoc v.facts.found (leap_seen leap) rest) i;
            }));
      }

  pub went-drawn : (s : QueueStep) (state : CoreState) (at : Doing) (over : List ℕ) (payload k : ℕ)
      (leap : Option Leap) (v y x w : View E S) → v.facts.has.payload ≡ payload → Leapt object primitive leap v y
      → Drew object reaches y k x → Met object primitive s state at over payload k x w
      → Went true s state at over payload k v w
  went-drawn s state at over payload k leap v y x w owed l d m =
      let f = firstly object primitive leap v y l in
      let owes : y.facts.has.payload ≡ payload = ap (λ (z : Facts). z.has.payload) f.facts_are ∙ owed in
      let t = went-plain s state at over payload k y x w owes d m in
      went-first leap s state at over payload k v y w f t.0 t.1

  -- the number's ticket was open, and it was met
  pub went-open : (s : QueueStep) (state : CoreState) (at : Doing) (over : List ℕ) (payload k : ℕ) (v w : View E S)
      → Met object primitive s state at over payload k v w → Went false s state at over payload k v w
  went-open s state at over payload k v w m = record {
    round = record {
      number = k;
      leap = None;
      drawn = false;
      tried = m.tried;
      heads = m.heads;
      far = m.search.far;
      spares = m.spares;
      word = m.word;
      payload = m.left;
    };
    number = refl;
    is_drawn = refl;
    found = record { cell = m.cell; few = m.few; few_heads = m.search.few };
    was = m.was;
    called = called-by object v w _ _ m.saw;
    leapt = tt;
    counted = m.counted;
    few_counted = m.few_counted;
    facts_are = m.saw.facts_are;
  }

  -- the last number that a pass drew never falls
  pub never-falls : (drawn : Bool) (s : QueueStep) (state : CoreState) (at : Doing) (over : List ℕ) (payload k : ℕ)
      (v w : View E S)
      → Went drawn s state at over payload k v w → IsNext drawn k v.facts → v.facts.reached ≤ w.facts.reached
  never-falls true s state at over payload k v w t next =
      let low : v.facts.reached ≤ k = next.reached in
      let is : w.facts.reached ≡ t.round.number = ap (λ (f : Facts). f.reached) t.facts_are
      ∙ ap (λ b. if b then t.round.number else v.facts.reached) t.is_drawn in
      omega (arith, t.number)
  never-falls false s state at over payload k v w t next =
      let is : w.facts.reached ≡ v.facts.reached = ap (λ (f : Facts). f.reached) t.facts_are
      ∙ ap (λ b. if b then t.round.number else v.facts.reached) t.is_drawn in
      omega arith

  -- a round in which the call came to its last number, as the first
  pub came-now : (drawn : Bool) (at : Doing) (s : QueueStep) (state : CoreState) (most payload k : ℕ) (v w : View E S)
      → 0 < most → IsNext drawn k v.facts → Went drawn s state at [] payload k v w
      → CameTo object primitive at s state most (opened_by drawn k) payload k v w
  came-now drawn at s state most payload k v w some next t = record {
    over = [];
    last = t.round;
    number = t.number;
    opens = opens drawn t.is_drawn;
    few = some;
    are_over = tt;
    are_leapt = (t.leapt, tt);
    found = t.found;
    was = t.was;
    called = t.called;
    counted = t.counted;
    few_counted = t.few_counted;
    facts_are = t.facts_are ∙ ap (counted_after (settles_at s) t.counted) (facts-one s k at [] t.round v.facts);
    reached = never-falls drawn s state at [] payload k v w t next;
  }
    where
      opens : (b : Bool) → t.round.drawn ≡ b → IsOpenedWith (opened_by b k) (t.round ∷ [])
      opens true is = (is, tt)
      opens false is = (t.number, is, tt)

  -- a number that was passed over is one that the call passed over
  pub over-so : (drawn : Bool) (at : Doing) (over : List ℕ) (payload k : ℕ) (more : List E) (v u w : View E S)
      → (t : Went drawn passes_over state.Cancelled at over payload k v u) → w.seen ≡ u.seen ++ more
      → w.opening ≡ u.opening
      → IsOver primitive w t.round
  over-so drawn at over payload k more v u w t seen opening =
      record {
        found = t.found;
        was = was-so primitive (HasCell (cell_in state.Cancelled t.round)) _ more u w t.was seen opening;
      }

  pub opens-with : (drawn : Bool) (r : Round) (rest : List Round) (k : ℕ) → r.number ≡ k → r.drawn ≡ drawn
      → AreDrawn rest → IsOpenedWith (opened_by drawn k) (r ∷ rest)
  opens-with true r rest k number is all = (is, all)
  opens-with false r rest k number is all = (number, is, all)

  -- a number was passed over, and the resumption went on from there
  pub then-came : (drawn : Bool) (at : Doing) (s : QueueStep) (stood : CoreState) (most payload j k : ℕ)
      (v u w : View E S)
      → Went drawn passes_over state.Cancelled doing.Owes (j ∷ []) payload j v u → IsNext drawn j v.facts
      → CameTo object primitive at s stood most None payload k u w
      → CameTo object primitive at s stood (one_if drawn + most) (opened_by drawn j) payload k v w
  then-came drawn at s stood most payload j k v u w t next e =
      let number : u.number ≡ v.number = t.called.same.number in
      let first : List E = round_entries object v.number payload passes_over t.round in
      let rest : List Round = e.over ++ e.last ∷ [] in
      let own : ℕ → List E = λ z. over_entries object z payload e.over in
      let end : ℕ → List E = λ z. round_entries object z payload s e.last in
      let one : one_if t.round.drawn ≡ one_if drawn = ap one_if t.is_drawn in
      let few = e.few in
      record {
        over = t.round ∷ e.over;
        last = e.last;
        number = e.number;
        opens = opens-with drawn t.round rest j t.number t.is_drawn e.opens;
        few = omega (arith, one, few);
        are_over = (
          over-so drawn doing.Owes (j ∷ []) payload j e.called.more v u w t e.called.seen
              e.called.same.opening,
          e.are_over,
        );
        are_leapt = (
          leapt-on primitive t.round.leap e.called.more u w t.leapt e.called.seen e.called.same.opening,
          e.are_leapt,
        );
        found = e.found;
        was = subst (λ z. WasFound primitive (HasCell (cell_in stood e.last)) (object.entries s z k payload) w) number
            e.was;
        called = subst (λ (z : List E × ℕ). Called object v z.0 (object.entries s z.1 k payload) w)
            (λ i. (
              ((λ h. first ++ (own (number h) ++ end (number h)))
                  ∙ sym (append_assoc first (own v.number) (end v.number))) i,
              number i,
            ))
            (called-and object v u w first _ (own u.number ++ end u.number) _ t.called e.called);
        counted = e.counted;
        few_counted = e.few_counted;
        facts_are = e.facts_are ∙ ap (counted_after (settles_at s) e.counted)
            (ap (facts_after_rounds s k at (numbers e.over) rest) t.facts_are
            ∙ facts-then s k at (numbers e.over) rest t.round j v.facts t.number);
        reached =
            let first = never-falls drawn passes_over state.Cancelled doing.Owes (j ∷ []) payload j v u t next in
            let later = e.reached in
            omega arith;
      }

  -- the number that was passed over comes before the last of those that follow
  passed-next : (drawn : Bool) (payload j : ℕ) (v u : View E S)
      → Went drawn passes_over state.Cancelled doing.Owes (j ∷ []) payload j v u → lists.Has j u.facts.passed
  passed-next drawn payload j v u t =
      subst (lists.Has j) (sym (ap (λ (f : Facts). f.passed) t.facts_are))
      (has_right j v.facts.passed (j ∷ []) (inl refl))

  passed-still : (drawn : Bool) (payload j k : ℕ) (v u : View E S)
      → Went drawn passes_over state.Cancelled doing.Owes (j ∷ []) payload j v u → lists.Has k v.facts.passed
      → lists.Has k u.facts.passed
  passed-still drawn payload j k v u t h =
      subst (lists.Has k) (sym (ap (λ (f : Facts). f.passed) t.facts_are)) (has_left k v.facts.passed (j ∷ []) h)

  reached-then : (payload j : ℕ) (v u : View E S)
      → Went false passes_over state.Cancelled doing.Owes (j ∷ []) payload j v u → u.facts.reached ≡ v.facts.reached
  reached-then payload j v u t =
      ap (λ (f : Facts). f.reached) t.facts_are ∙ ap (λ b. if b then t.round.number else v.facts.reached) t.is_drawn

  behind-then : (drawn : Bool) (payload j top : ℕ) (v u : View E S)
      → Went drawn passes_over state.Cancelled doing.Owes (j ∷ []) payload j v u → IsNext drawn j v.facts
      → IsBehind top u.facts → IsBehind top v.facts
  behind-then true payload j top v u t next b =
      let low : v.facts.reached ≤ j = next.reached in
      let high : j < top = b.passed j (passed-next true payload j v u t) in
      record { reached = omega arith; passed = λ k h. b.passed k (passed-still true payload j k v u t h) }
  behind-then false payload j top v u t next b =
      let low : u.facts.reached ≤ top = b.reached in
      let is = reached-then payload j v u t in
      record { reached = omega arith; passed = λ k h. b.passed k (passed-still false payload j k v u t h) }

  further-then : (drawn : Bool) (most payload j top : ℕ) (v u : View E S)
      → Went drawn passes_over state.Cancelled doing.Owes (j ∷ []) payload j v u → IsNext drawn j v.facts
      → IsBehind top u.facts → (1 < most → u.facts.reached < top) → 1 < one_if drawn + most → v.facts.reached < top
  further-then true most payload j top v u t next b further more =
      let low : v.facts.reached ≤ j = next.reached in
      let high : j < top = b.passed j (passed-next true payload j v u t) in omega arith
  further-then false most payload j top v u t next b further more =
      let is = reached-then payload j v u t in
      let high : u.facts.reached < top = further (omega arith) in omega arith

  pub then-stopped : (drawn : Bool) (most payload j : ℕ) (under : token.Under) (v u w : View E S)
      → Went drawn passes_over state.Cancelled doing.Owes (j ∷ []) payload j v u → IsNext drawn j v.facts
      → Stopped object primitive most None payload under u w
      → Stopped object primitive (one_if drawn + most) (opened_by drawn j) payload under v w
  then-stopped drawn most payload j under v u w t next e =
      let number : u.number ≡ v.number = t.called.same.number in
      let first : List E = round_entries object v.number payload passes_over t.round in
      let own : ℕ → List E = λ z. over_entries object z payload e.over in
      let one : one_if t.round.drawn ≡ one_if drawn = ap one_if t.is_drawn in
      let all = e.all in
      record {
        over = t.round ∷ e.over;
        opens = opens-with drawn t.round e.over j t.number t.is_drawn e.opens;
        all = omega (arith, one, all);
        are_over = (
          over-so drawn doing.Owes (j ∷ []) payload j e.called.more v u w t e.called.seen
              e.called.same.opening,
          e.are_over,
        );
        are_leapt = (
          leapt-on primitive t.round.leap e.called.more u w t.leapt e.called.seen e.called.same.opening,
          e.are_leapt,
        );
        called = subst (λ z. Called object v (first ++ own z)
            (object.entries passes_over z (under_reached under) payload) w) number
            (called-and object v u w first _ (own u.number) _ t.called e.called);
        facts_are = e.facts_are ∙ (ap (facts_after_rounds passes_over (under_reached under) doing.Owes (numbers e.over)
            e.over) t.facts_are
            ∙ facts-then passes_over (under_reached under) doing.Owes (numbers e.over) e.over t.round j v.facts
            t.number);
        payload_is = e.payload_is;
        ticket_is = e.ticket_is;
        has = e.has;
        behind = behind-then drawn payload j (under_reached under) v u t next e.behind;
        further = λ more. further-then drawn most payload j (under_reached under) v u t next e.behind e.further more;
      }

  -- the last number that may be passed over was
  pub stopped-now : (payload j : ℕ) (under : token.Under) (v u w : View E S)
      → Went true passes_over state.Cancelled doing.Owes (j ∷ []) payload j v u → IsBehind j v.facts → w ≡ u
      → under_payload under ≡ payload → under_ticket under ≡ None → under_reached under ≡ j → HasUnder w.facts under
      → Stopped object primitive 1 None payload under v w
  stopped-now payload j under v u w t next same owed ticket reached has =
      let first : List E = round_entries object v.number payload passes_over t.round in
      let one : one_if t.round.drawn ≡ 1 = ap one_if t.is_drawn in
      let seen : w.seen ≡ u.seen ++ [] = ap (λ (z : View E S). z.seen) same ∙ sym (append-nil u.seen) in
      record {
        over = t.round ∷ [];
        opens = (t.is_drawn, tt);
        all = omega (arith, one);
        are_over = (
          over-so true doing.Owes (j ∷ []) payload j [] v u w t seen
              (ap (λ (z : View E S). z.opening) same),
          tt,
        );
        are_leapt = (leapt-on primitive t.round.leap [] u w t.leapt seen (ap (λ (z : View E S). z.opening) same), tt);
        called = subst (λ (z : List E × ℕ × View E S). Called object v z.0
            (object.entries passes_over v.number z.1 payload) z.2)
            (λ i. (sym (append-nil first) i, sym reached i, sym same i)) t.called;
        facts_are = ap (λ (z : View E S). z.facts) same ∙ (t.facts_are ∙ (facts-one passes_over j doing.Owes (j ∷ [])
            t.round v.facts
            ∙ ap (λ z. facts_after_rounds passes_over (under_reached under) doing.Owes (z ∷ []) (t.round ∷ []) v.facts)
            (sym t.number)));
        payload_is = owed;
        ticket_is = ticket;
        has = has;
        behind = subst (λ z. IsBehind z v.facts) (sym reached) next;
        further = λ more. absurd (omega arith);
      }

  -- a resume that ended at its first number
  pub resumes-now : (drawn : Bool) (most payload k : ℕ) (result : Resumed) (v x w : View E S) → 0 < most
      → IsNext drawn k v.facts → HasEnded result
      → ((s : QueueStep) (state : CoreState) → Met object primitive s state doing.Idle [] payload k x w
      → Went drawn s state doing.Idle [] payload k v w)
      → Meets object primitive payload k x (Ok result) w
      → Resumes object primitive most (opened_by drawn k) payload v result w
  resumes-now drawn most payload k (Served n) v x w some next end went m =
      subst (λ z. Ended object primitive serves state.Waiter most (opened_by drawn k) payload z v w) (sym m.0)
      (came-now drawn doing.Idle serves state.Waiter most payload k v w some next (went serves state.Waiter m.1))
  resumes-now drawn most payload k (Left n) v x w some next end went m = ⊎_elim
      (λ (left : Met object primitive leaves state.Empty doing.Idle [] payload k x w). inl
      (subst (λ z. Ended object primitive leaves state.Empty most (opened_by drawn k) payload z v w) (sym m.0)
      (came-now drawn doing.Idle leaves state.Empty most payload k v w some next (went leaves state.Empty left))))
      (λ (given : Met object primitive delegates state.Cancelling doing.Idle [] payload k x w). inr
      (subst (λ z. Ended object primitive delegates state.Cancelling most (opened_by drawn k) payload z v w) (sym m.0)
      (came-now drawn doing.Idle delegates state.Cancelling most payload k v w some next
      (went delegates state.Cancelling given))))
      m.1
  resumes-now drawn most payload k (Refused n) v x w some next end went m =
      subst (λ z. Ended object primitive ends_refused state.Refused most (opened_by drawn k) payload z v w) (sym m.0)
      (came-now drawn doing.Idle ends_refused state.Refused most payload k v w some next
      (went ends_refused state.Refused m.1))
  resumes-now drawn most payload k (Under under) v x w some next end went m = absurd end

  -- and one that passed over its first number
  pub resumes-then : (drawn : Bool) (most payload j : ℕ) (result : Resumed) (v u w : View E S)
      → Went drawn passes_over state.Cancelled doing.Owes (j ∷ []) payload j v u → IsNext drawn j v.facts
      → Resumes object primitive most None payload u result w
      → Resumes object primitive (one_if drawn + most) (opened_by drawn j) payload v result w
  resumes-then drawn most payload j (Served k) v u w t next e =
      then-came drawn doing.Idle serves state.Waiter most payload j k v u w t next e
  resumes-then drawn most payload j (Left k) v u w t next e = ⊎_elim
      (λ (left : Ended object primitive leaves state.Empty most None payload k u w). inl
      (then-came drawn doing.Idle leaves state.Empty most payload j k v u w t next left))
      (λ (given : Ended object primitive delegates state.Cancelling most None payload k u w). inr
      (then-came drawn doing.Idle delegates state.Cancelling most payload j k v u w t next given))
      e
  resumes-then drawn most payload j (Refused k) v u w t next e =
      then-came drawn doing.Idle ends_refused state.Refused most payload j k v u w t next e
  resumes-then drawn most payload j (Under under) v u w t next e =
      then-stopped drawn most payload j under v u w t next e

  -- a resumption that was handed back again has come further
  pub further-of : (most payload reached : ℕ) (ticket : Option ℕ) (result : Resumed) (v w : View E S) → 1 < most
      → reached ≡ v.facts.reached → Resumes object primitive most ticket payload v result w → IsFurther reached result
  further-of most payload reached ticket (Served k) v w more is e = tt
  further-of most payload reached ticket (Left k) v w more is e = tt
  further-of most payload reached ticket (Refused k) v w more is e = tt
  further-of most payload reached ticket (Under under) v w more is e = let high = e.further more in omega arith
