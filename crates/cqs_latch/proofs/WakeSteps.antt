-- Resumptions of a latch, one after the other: each ended at a number, or was handed back.
use Rattle.std.proofs.Common.{◌≡◌, inl, inr, ⊎_elim, ℕ, suc, ◌+◌, ◌-◌, ◌≤◌, Bool, true, false, List, [], ◌∷◌, ◌++◌, length, Option, Some, None, sym, refl, ap, ◌∙◌, subst, append_assoc, length-append, arith}
use Rattle.std.specs.Prelude.{IfSome}
use Rattle.std.proofs.lemmas.List.{append-nil}
use Rattle.cqs_core.specs.declared.cells.CoreState.{CoreState}
use Rattle.cqs_core.specs.declared.cells.CoreState.TheVariants as state
use Rattle.cqs_core.specs.declared.doings.Doing.TheVariants as doing
use Rattle.cqs_core.specs.QueueSteps.{QueueStep, begins, reaches, serves, leaves, delegates, ends_refused, ends_missed}
use Rattle.cqs_latch_object.specs.declared.entries.LatchEntry.{LatchEntry}
use Rattle.cqs_latch_object.specs.LatchNames.{entry_names}
use Rattle.cqs_latch_object.specs.LatchSteps.{step_entries}
use Rattle.cqs_resume.specs.declared.at_once.EndedAtOnce.{EndedAtOnce}
use Rattle.cqs_resume.specs.declared.at_once.EndedAtOnce.TheVariants as once
use Rattle.cqs_resume.specs.declared.resumed.Resumed.{Resumed}
use Rattle.cqs_resume.specs.declared.resumed.Resumed.TheVariants as resumed
use Rattle.cqs_resume.specs.AtOnce.{DrewAndMet, FinishedAtOnce, FinishedOrHeld, HeldAtOnce, MeetsAtOnce, MeetsOrHolds}
use Rattle.cqs_resume.specs.Begins.{Begun, BegunSo}
use Rattle.cqs_resume.specs.Counting.{settles_at}
use Rattle.cqs_resume.specs.Meets.{HeldBack, Met}
use Rattle.cqs_resume.specs.Resumes.{Ended, GoesOn, Held, Stopped, Resumes, most_passed_over, most_after_first}
use Rattle.cqs_resume.specs.Rounds.{all_heads, numbers}
use Rattle.cqs_rule_laws.specs.Client.{IsQuiet}
use Rattle.cqs_resume.proofs.Ends.{ended-at, handed-back, held-on, drawn-few, opened-few}
use Rattle.cqs_rule.specs.declared.queue.tokens.Under.{Under}
use Rattle.cqs_rule_laws.specs.declared.view.Facts.{Facts}
use Rattle.cqs_rule_laws.specs.declared.view.Sighting.TheVariants.{Cell, Word}
use Rattle.cqs_rule_laws.specs.declared.view.View.{View}
use Rattle.cqs_rule_laws.specs.Ample.{AreEnough}
use Rattle.cqs_rule_laws.specs.Counts.{Drew}
use Rattle.cqs_rule_laws.specs.Layout.{resumes_place}
use Rattle.cqs_rule_laws.specs.Lists.{IsPrefix}
use Rattle.cqs_rule_laws.specs.Views.{IsSame}
use Rattle.cqs_rule.proofs.Claiming.{wants-since}
use Rattle.cqs_rule.specs.Claims.{WantsSlot}
use Rattle.cqs_rule.specs.Counting.{heads_after}
use Rattle.cqs_rule.specs.Owed.{HasUnder, under_payload, under_ticket}
use Rattle.cqs_rule_laws.proofs.Calls.{called-none}
use Rattle.cqs_rule_laws.proofs.Lists.{prefix-then}
use Rattle.cqs_rule_laws.proofs.Prefixes.{prefix-is, prefix-same}
use Rattle.cqs_rule_laws.proofs.Rules.{NoneName, called-weak}
use Rattle.cqs_latch.specs.Causes.{primitive_of, CellWas}
use Rattle.cqs_latch.specs.Latch.{latch_object}
use Rattle.cqs_latch.specs.Waking.{Ending, served_at, left_at, refused_at, missed_at, ending_entries, woken_entries, handed_back, handed_back_at_once, IsHandedFor, NextEnded, NextHanded, Next, OnEnded, OnHanded, On, Woke}
use Rattle.cqs_latch.proofs.Along.{Along, along-first, along-and}

-- a resumption that goes on shows no entry but that of its last step
pub quiet : IsQuiet latch_object
quiet = record { drawing = λ p k payload. refl; passing = λ p k payload. refl }

minus-none : (n : ℕ) → n ≡ n - 0
minus-none n = omega arith

-- heads that were found before a search, and before a cell was counted
heads-more : (settles : Bool) (heads more counted : List (ℕ × ℕ))
    → IsPrefix heads (heads_after settles counted (heads ++ more))
heads-more false heads more counted = (more, refl)
heads-more true heads more counted = (more ++ counted, append_assoc heads more counted)

-- the entries by which resumptions reach their numbers name nobody
ending-none : (e : Ending) (es : List LatchEntry) → NoneName entry_names es
    → NoneName entry_names (ending_entries e ++ es)
ending-none (served_at k) es none = (λ n. refl, none)
ending-none (left_at k) es none = none
ending-none (refused_at k) es none = none
ending-none (missed_at k) es none = (λ n. refl, none)

pub woken-none : (ends : List Ending) → NoneName entry_names (woken_entries ends)
woken-none [] = tt
woken-none (e ∷ ends) = ending-none e (woken_entries ends) (woken-none ends)

pub woken-append : (ends more : List Ending) → woken_entries ends ++ woken_entries more ≡ woken_entries (ends ++ more)
woken-append [] more = refl
woken-append (e ∷ ends) more =
    append_assoc (ending_entries e) (woken_entries ends) (woken_entries more)
    ∙ ap (λ l. ending_entries e ++ l) (woken-append ends more)

-- the entries of one that ended in simple mode
abbrev pub once-entries : EndedAtOnce → List LatchEntry
once-entries (once.Served k) = ending_entries (served_at k)
once-entries (once.Left k) = []
once-entries (once.Missed k) = ending_entries (missed_at k)
once-entries (once.Under under) = []

module _ {T : Type 0} where
  -- nothing was done yet
  pub along-none : (v : View LatchEntry T) → Along v [] [] v
  along-none v = record {
    called = called-none latch_object v;
    found = [];
    found_is = sym (append-nil v.facts.found);
  }

  pub along-weak : (v u : View LatchEntry T) (es last : List LatchEntry) → Along v es last u → Along v es [] u
  along-weak v u es last a =
      record { called = called-weak latch_object v u es last a.called; found = a.found; found_is = a.found_is }

  -- From v to u the pass made resumptions with these entries. It is idle, owes so many fewer, has all else as it had
  -- it, and passed over these numbers. The heads that it had found come first.
  pub record Ran (es : List LatchEntry) (less : ℕ) (over : List ℕ) (v u : View LatchEntry T) : Type 0 where
    pub along : Along v es [] u
    pub idle : u.facts.doing ≡ doing.Idle
    pub further : u.facts.has.further ≡ v.facts.has.further - less
    pub payload : u.facts.has.payload ≡ v.facts.has.payload
    pub waits : u.facts.waits ≡ v.facts.waits
    pub passed : u.facts.passed ≡ v.facts.passed ++ over
    pub heads : IsPrefix v.facts.heads u.facts.heads

  pub ran-none : (v : View LatchEntry T) → v.facts.doing ≡ doing.Idle → Ran [] 0 [] v v
  ran-none v idle = record {
    along = along-none v;
    idle = idle;
    further = minus-none v.facts.has.further;
    payload = refl;
    waits = refl;
    passed = sym (append-nil v.facts.passed);
    heads = prefix-same v.facts.heads;
  }

  pub ran-then : (es fs : List LatchEntry) (less more : ℕ) (over then : List ℕ) (v u w : View LatchEntry T)
      → Ran es less over v u → Ran fs more then u w → Ran (es ++ fs) (less + more) (over ++ then) v w
  ran-then es fs less more over then v u w a b = record {
    along = along-and v u w es [] fs [] a.along b.along;
    idle = b.idle;
    further = let first = a.further in b.further ∙ omega (arith, first);
    payload = b.payload ∙ a.payload;
    waits = b.waits ∙ a.waits;
    passed = b.passed ∙ (ap (λ l. l ++ then) a.passed ∙ append_assoc v.facts.passed over then);
    heads = prefix-then v.facts.heads u.facts.heads w.facts.heads a.heads b.heads;
  }

  -- a resumption ended at a cell
  pub ended-ran : (s : QueueStep) (at : CoreState) (most : ℕ) (ticket : Option ℕ) (payload k : ℕ)
      (u w : View LatchEntry T) → (e : Ended latch_object primitive_of s at most ticket payload k u w)
      → Ran (step_entries s u.number k) 0 (numbers e.over) u w
  ended-ran s at most ticket payload k u w e =
      let a = ended-at latch_object primitive_of quiet s at most ticket payload k u w e in
      record {
        along = along-weak u w (step_entries s u.number k) (step_entries s u.number k)
            (record { called = a.called; found = a.onward.found.0; found_is = a.onward.found.1 });
        idle = a.idle;
        further = ap (λ h. h.further) a.has ∙ minus-none u.facts.has.further;
        payload = ap (λ h. h.payload) a.has;
        waits = a.waits;
        passed = a.passed;
        heads = subst (IsPrefix u.facts.heads) (sym (ap (λ (f : Facts). f.heads) e.facts_are))
            (heads-more (settles_at s) u.facts.heads (all_heads (e.over ++ e.last ∷ [])) e.counted);
      }

  -- which it found so
  pub ended-cell : (s : QueueStep) (at : CoreState) (most : ℕ) (ticket : Option ℕ) (payload k : ℕ)
      (u w : View LatchEntry T) → Ended latch_object primitive_of s at most ticket payload k u w
      → CellWas at k (step_entries s u.number k) w
  ended-cell s at most ticket payload k u w e =
      (ended-at latch_object primitive_of quiet s at most ticket payload k u w e).cell

  -- it was met in simple mode
  met-ran : (s : QueueStep) (at : CoreState) (payload k : ℕ) (u w : View LatchEntry T)
      → Met latch_object primitive_of s at doing.Idle [] payload k u w → Ran (step_entries s u.number k) 0 [] u w
  met-ran s at payload k u w m = record {
    along = along-weak u w _ _
        (along-first u w _ (step_entries s u.number k) (m.tried ++ Cell k m.word ∷ []) m.saw refl);
    idle = ap (λ (f : Facts). f.doing) m.saw.facts_are;
    further = ap (λ (f : Facts). f.has.further) m.saw.facts_are ∙ minus-none u.facts.has.further;
    payload = ap (λ (f : Facts). f.has.payload) m.saw.facts_are;
    waits = ap (λ (f : Facts). f.waits) m.saw.facts_are;
    passed = ap (λ (f : Facts). f.passed) m.saw.facts_are;
    heads = subst (IsPrefix u.facts.heads) (sym (ap (λ (f : Facts). f.heads) m.saw.facts_are))
        (heads-more (settles_at s) u.facts.heads m.heads m.counted);
  }

  -- the next number was drawn for it
  begun-ran : (k : ℕ) (es : List LatchEntry) (over : List ℕ) (v u w : View LatchEntry T)
      → Drew latch_object begins v k u → Ran es 0 over u w → Ran es 1 over v w
  begun-ran k es over v u w d r = record {
    along = along-and v u w [] [] es [] (along-first v u _ [] (Word resumes_place k ∷ []) d refl) r.along;
    idle = r.idle;
    further = r.further
        ∙ (sym (minus-none u.facts.has.further) ∙ ap (λ (f : Facts). f.has.further) d.facts_are);
    payload = r.payload ∙ ap (λ (f : Facts). f.has.payload) d.facts_are;
    waits = r.waits ∙ ap (λ (f : Facts). f.waits) d.facts_are;
    passed = r.passed ∙ ap (λ (f : Facts). f.passed ++ over) d.facts_are;
    heads = subst (λ h. IsPrefix h w.facts.heads) (ap (λ (f : Facts). f.heads) d.facts_are) r.heads;
  }

  reached-ran : (k : ℕ) (es : List LatchEntry) (over : List ℕ) (v u w : View LatchEntry T)
      → Drew latch_object reaches v k u → Ran es 0 over u w → Ran es 0 over v w
  reached-ran k es over v u w d r = record {
    along = along-and v u w [] [] es [] (along-first v u _ [] (Word resumes_place k ∷ []) d refl) r.along;
    idle = r.idle;
    further = r.further
        ∙ (sym (minus-none u.facts.has.further)
        ∙ (ap (λ (f : Facts). f.has.further) d.facts_are ∙ minus-none v.facts.has.further));
    payload = r.payload ∙ ap (λ (f : Facts). f.has.payload) d.facts_are;
    waits = r.waits ∙ ap (λ (f : Facts). f.waits) d.facts_are;
    passed = r.passed ∙ ap (λ (f : Facts). f.passed ++ over) d.facts_are;
    heads = subst (λ h. IsPrefix h w.facts.heads) (ap (λ (f : Facts). f.heads) d.facts_are) r.heads;
  }

  -- the next one ended
  pub next-ran : (e : Ending) (v w : View LatchEntry T) → NextEnded e v w
      → (over : List ℕ) × Ran (ending_entries e) 1 over v w
  next-ran (served_at k) v w (inl b) = (
    numbers b.resumes.over,
    begun-ran b.number _ _ v b.from w b.drew
        (ended-ran serves state.Waiter most_after_first (Some b.number) 0 k b.from w b.resumes),
  )
  next-ran (served_at k) v w (inr b) = (
    [],
    begun-ran b.number _ _ v b.from w b.drew
        (subst (λ n. Ran (step_entries serves b.from.number n) 0 [] b.from w) (sym b.meets.0)
        (met-ran serves state.Waiter 0 b.number b.from w b.meets.1)),
  )
  next-ran (left_at k) v w (inl b) = by b.resumes
    where
      by : Resumes latch_object primitive_of most_after_first (Some b.number) 0 b.from (resumed.Left k) w
          → (over : List ℕ) × Ran [] 1 over v w
      by (inl e) = (
        numbers e.over,
        begun-ran b.number _ _ v b.from w b.drew
            (ended-ran leaves state.Empty most_after_first (Some b.number) 0 k b.from w e),
      )
      by (inr e) = (
        numbers e.over,
        begun-ran b.number _ _ v b.from w b.drew
            (ended-ran delegates state.Cancelling most_after_first (Some b.number) 0 k b.from w e),
      )
  next-ran (left_at k) v w (inr b) = (
    [],
    begun-ran b.number _ _ v b.from w b.drew
        (met-ran leaves state.Empty 0 b.number b.from w b.meets.1),
  )
  next-ran (refused_at k) v w b = (
    numbers b.resumes.over,
    begun-ran b.number _ _ v b.from w b.drew
        (ended-ran ends_refused state.Refused most_after_first (Some b.number) 0 k b.from w b.resumes),
  )
  next-ran (missed_at k) v w b = (
    [],
    begun-ran b.number _ _ v b.from w b.drew
        (subst (λ n. Ran (step_entries ends_missed b.from.number n) 0 [] b.from w) (sym b.meets.0)
        (met-ran ends_missed state.Cancelled 0 b.number b.from w b.meets.1)),
  )

  pub woke-ran : (ends : List Ending) (v w : View LatchEntry T) → v.facts.doing ≡ doing.Idle → Woke ends v w
      → (over : List ℕ) × Ran (woken_entries ends) (length ends) over v w
  woke-ran [] v w idle woke = ([], subst (Ran [] 0 [] v) (sym woke) (ran-none v idle))
  woke-ran (e ∷ ends) v w idle (u, next, woke) =
      let first = next-ran e v u next in
      let rest = woke-ran ends u w first.1.idle woke in
      let one : 1 + length ends ≡ suc (length ends) = omega arith in (
        first.0 ++ rest.0,
        subst (λ n. Ran (ending_entries e ++ woken_entries ends) n (first.0 ++ rest.0) v w) one
            (ran-then (ending_entries e) (woken_entries ends) 1 (length ends) first.0 rest.0 v u w first.1 rest.1),
      )

  -- one more, after those that ended
  pub woke-on : (ends : List Ending) (e : Ending) (v u w : View LatchEntry T) → Woke ends v u → NextEnded e u w
      → Woke (ends ++ e ∷ []) v w
  woke-on [] e v u w woke next = (w, subst (λ z. NextEnded e z w) woke next, refl)
  woke-on (d ∷ ends) e v u w (x, first, woke) next = (x, first, woke-on ends e x u w woke next)

  -- what the pass had found and passed over by then comes before what made the call hand it back
  pub handed-since : (under : Under) (over : List ℕ) (v u w : View LatchEntry T) → IsSame v u
      → u.facts.passed ≡ v.facts.passed ++ over → IsPrefix v.facts.heads u.facts.heads → IsHandedFor under u w
      → IsHandedFor under v w
  handed-since under over v u w same passed on (inl (none, p)) = inl (
    none,
    record {
      over = over ++ p.over;
      passed = p.passed ∙ (ap (λ l. l ++ p.over) passed ∙ append_assoc v.facts.passed over p.over);
      many_are = let longer = length-append over p.over in let enough = p.many_are in omega (arith, longer, enough);
    },
  )
  handed-since under over v u w same passed on (inr wants) = inr (wants-since under v u w same on wants)

  -- One of this payload was handed back: the pass owes it, and so many fewer after it.
  pub record Handed (under : Under) (payload less : ℕ) (v w : View LatchEntry T) : Type 0 where
    pub along : Along v [] [] w
    pub has : HasUnder w.facts under
    pub further : w.facts.has.further ≡ v.facts.has.further - less
    pub waits : w.facts.waits ≡ v.facts.waits
    pub why : IsHandedFor under v w
    pub payload_is : under_payload under ≡ payload

  -- after it was drawn
  handed-drawn : (under : Under) (payload less : ℕ) (v u w : View LatchEntry T)
      → Along v [] [] u → u.facts.has.further ≡ v.facts.has.further - less → u.facts.waits ≡ v.facts.waits
      → u.facts.passed ≡ v.facts.passed → u.facts.heads ≡ v.facts.heads → Handed under payload 0 u w
      → Handed under payload less v w
  handed-drawn under payload less v u w a further waits passed heads h = record {
    along = along-and v u w [] [] [] [] a h.along;
    has = h.has;
    further = h.further ∙ (sym (minus-none u.facts.has.further) ∙ further);
    waits = h.waits ∙ waits;
    why = handed-since under [] v u w a.called.same (passed ∙ sym (append-nil v.facts.passed))
        (prefix-is v.facts.heads u.facts.heads heads) h.why;
    payload_is = h.payload_is;
  }

  begun-handed : (under : Under) (payload k : ℕ) (v u w : View LatchEntry T) → Drew latch_object begins v k u
      → Handed under payload 0 u w → Handed under payload 1 v w
  begun-handed under payload k v u w d h =
      handed-drawn under payload 1 v u w (along-first v u _ [] (Word resumes_place k ∷ []) d refl)
      (ap (λ (f : Facts). f.has.further) d.facts_are) (ap (λ (f : Facts). f.waits) d.facts_are)
      (ap (λ (f : Facts). f.passed) d.facts_are) (ap (λ (f : Facts). f.heads) d.facts_are) h

  reached-handed : (under : Under) (payload k : ℕ) (v u w : View LatchEntry T) → Drew latch_object reaches v k u
      → Handed under payload 0 u w → Handed under payload 0 v w
  reached-handed under payload k v u w d h =
      handed-drawn under payload 0 v u w (along-first v u _ [] (Word resumes_place k ∷ []) d refl)
      (ap (λ (f : Facts). f.has.further) d.facts_are ∙ minus-none v.facts.has.further)
      (ap (λ (f : Facts). f.waits) d.facts_are) (ap (λ (f : Facts). f.passed) d.facts_are)
      (ap (λ (f : Facts). f.heads) d.facts_are) h

  -- as many numbers were passed over as one call may
  stopped-handed : (most : ℕ) (ticket : Option ℕ) (payload : ℕ) (under : Under) (v w : View LatchEntry T)
      → (e : Stopped latch_object primitive_of most ticket payload under v w)
      → most_passed_over ≤ length (numbers e.over) → Handed under payload 0 v w
  stopped-handed most ticket payload under v w e enough =
      let h = handed-back latch_object primitive_of quiet most ticket payload under v w e in
      record {
        along = record { called = h.called; found = h.onward.found.0; found_is = h.onward.found.1 };
        has = e.has;
        further = ap (λ h. h.further) h.has ∙ minus-none v.facts.has.further;
        waits = h.waits;
        why = inl (e.ticket_is, record { over = numbers e.over; passed = h.passed; many_are = enough });
        payload_is = e.payload_is;
      }

  -- there was no slot, in smart mode
  held-handed : (most payload : ℕ) (under : Under) (v w : View LatchEntry T)
      → Held latch_object primitive_of most payload v (resumed.Under under) w → Handed under payload 0 v w
  held-handed most payload under v w h =
      let same : h.under ≡ under = same-under h.under h.is in
      let on = held-on latch_object primitive_of quiet most payload (resumed.Under under) v w h in
      record {
        along = record { called = on.called; found = on.onward.found.0; found_is = on.onward.found.1 };
        has = subst (HasUnder w.facts) same h.has;
        further = ap (λ h. h.further) on.has ∙ minus-none v.facts.has.further;
        waits = on.waits;
        why = inr (subst (λ z. WantsSlot z v w) same on.wants);
        payload_is = ap under_payload (sym same) ∙ h.payload_is;
      }
    where
      same-under : (again : Under) → resumed.Under under ≡ resumed.Under again → again ≡ under
      same-under again is = cc

  -- and in simple mode
  once-wants : (payload k : ℕ) (under : Under) (v w : View LatchEntry T)
      → HeldBack latch_object primitive_of payload k v under w → WantsSlot under v w
  once-wants payload k under v w b = record {
    number = k;
    ticket = b.ticket_is;
    far = b.crowded.far;
    spareless = b.crowded.none_left;
    before = [];
    heads = b.crowded.heads;
    heads_are = b.crowded.found;
    taken = b.crowded.taken;
    scarce = b.crowded.scarce;
  }

  once-held : (payload k : ℕ) (under : Under) (v w : View LatchEntry T)
      → MeetsOrHolds latch_object primitive_of payload k v (once.Under under) w
      → HeldBack latch_object primitive_of payload k v under w
  once-held payload k under v w (inl m) = absurd m
  once-held payload k under v w (inr h) =
      subst (λ z. HeldBack latch_object primitive_of payload k v z w) (same-under h.under h.is) h.held
    where
      same-under : (again : Under) → once.Under under ≡ once.Under again → again ≡ under
      same-under again is = cc

  once-handed : (payload k : ℕ) (under : Under) (v w : View LatchEntry T)
      → MeetsOrHolds latch_object primitive_of payload k v (once.Under under) w → Handed under payload 0 v w
  once-handed payload k under v w m =
      let b = once-held payload k under v w m in
      record {
        along = along-first v w _ [] [] b.searched.saw refl;
        has = b.has;
        further = ap (λ (f : Facts). f.has.further) b.searched.saw.facts_are ∙ minus-none v.facts.has.further;
        waits = ap (λ (f : Facts). f.waits) b.searched.saw.facts_are;
        why = inr (once-wants payload k under v w b);
        payload_is = b.payload_is;
      }

  -- the next one was handed back
  begun-goes : (k : ℕ) (under : Under) (u w : View LatchEntry T)
      → GoesOn latch_object primitive_of most_after_first (Some k) 0 u (resumed.Under under) w → Handed under 0 0 u w
  begun-goes k under u w (inl e) = stopped-handed most_after_first (Some k) 0 under u w e
      (let few = opened-few k e.over e.opens in let all = e.all in omega arith)
  begun-goes k under u w (inr h) = held-handed most_after_first 0 under u w h

  pub next-handed : (under : Under) (v w : View LatchEntry T) → NextHanded under v w → Handed under 0 1 v w
  next-handed under v w (inl b) =
      begun-handed under 0 b.number v b.from w b.drew (begun-goes b.number under b.from w b.goes)
  next-handed under v w (inr b) =
      begun-handed under 0 b.number v b.from w b.drew (once-handed 0 b.number under b.from w b.meets)

  -- one that went on was handed back again
  pub goes-handed : (ticket : Option ℕ) (payload : ℕ) (under : Under) (v w : View LatchEntry T)
      → GoesOn latch_object primitive_of most_passed_over ticket payload v (resumed.Under under) w
      → Handed under payload 0 v w
  goes-handed ticket payload under v w (inl e) = stopped-handed most_passed_over ticket payload under v w e
      (let few = drawn-few e.over in let all = e.all in omega arith)
  goes-handed ticket payload under v w (inr h) = held-handed most_passed_over payload under v w h

  finished-handed : (ticket : Option ℕ) (payload : ℕ) (under : Under) (v w : View LatchEntry T)
      → FinishedOrHeld latch_object primitive_of ticket payload v (once.Under under) w → Handed under payload 0 v w
  finished-handed (Some k) payload under v w f = once-handed payload k under v w f
  finished-handed None payload under v w f =
      reached-handed under payload f.number v f.from w f.drew (once-handed payload f.number under f.from w f.meets)

  pub on-handed_back : (under again : Under) (v w : View LatchEntry T) → OnHanded under again v w
      → Handed again (under_payload under) 0 v w
  on-handed_back under again v w (inl goes) =
      goes-handed (under_ticket under) (under_payload under) again v w goes
  on-handed_back under again v w (inr f) =
      finished-handed (under_ticket under) (under_payload under) again v w f

  -- one that had been handed back went on
  met-on : (payload : ℕ) (k : ℕ) (v w : View LatchEntry T)
      → (ended : EndedAtOnce)
      → MeetsAtOnce latch_object primitive_of payload k v ended w
      → Ran (once-entries ended) 0 [] v w
  met-on payload k v w (once.Served n) m =
      subst (λ j. Ran (step_entries serves v.number j) 0 [] v w) (sym m.0)
      (met-ran serves state.Waiter payload k v w m.1)
  met-on payload k v w (once.Left n) m = met-ran leaves state.Empty payload k v w m.1
  met-on payload k v w (once.Missed n) m =
      subst (λ j. Ran (step_entries ends_missed v.number j) 0 [] v w) (sym m.0)
      (met-ran ends_missed state.Cancelled payload k v w m.1)
  met-on payload k v w (once.Under under) m = absurd m

  finished-on : (ticket : Option ℕ) (payload : ℕ) (v w : View LatchEntry T) (ended : EndedAtOnce)
      → FinishedAtOnce latch_object primitive_of ticket payload v ended w → Ran (once-entries ended) 0 [] v w
  finished-on (Some k) payload v w ended f = met-on payload k v w ended f
  finished-on None payload v w ended f =
      reached-ran f.number _ _ v f.from w f.drew (met-on payload f.number f.from w ended f.meets)

  pub on-ran : (under : Under) (e : Ending) (v w : View LatchEntry T) → OnEnded under e v w
      → (over : List ℕ) × Ran (ending_entries e) 0 over v w
  on-ran under (served_at k) v w (inl e) =
      (numbers e.over, ended-ran serves state.Waiter most_passed_over _ _ k v w e)
  on-ran under (served_at k) v w (inr f) = ([], finished-on _ _ v w (once.Served k) f)
  on-ran under (left_at k) v w (inl (inl e)) =
      (numbers e.over, ended-ran leaves state.Empty most_passed_over _ _ k v w e)
  on-ran under (left_at k) v w (inl (inr e)) =
      (numbers e.over, ended-ran delegates state.Cancelling most_passed_over _ _ k v w e)
  on-ran under (left_at k) v w (inr f) = ([], finished-on _ _ v w (once.Left k) f)
  on-ran under (refused_at k) v w e =
      (numbers e.over, ended-ran ends_refused state.Refused most_passed_over _ _ k v w e)
  on-ran under (missed_at k) v w f = ([], finished-on _ _ v w (once.Missed k) f)

  -- one that ended wanted no slot
  pub ended-only : (most : ℕ) (ticket : Option ℕ) (payload : ℕ) (v w : View LatchEntry T) (r : Resumed)
      → ((under : Under) → r ≡ resumed.Under under → ⊥)
      → GoesOn latch_object primitive_of most ticket payload v r w
      → Resumes latch_object primitive_of most ticket payload v r w
  ended-only most ticket payload v w r never goes = ⊎_elim
      (λ (e : Resumes latch_object primitive_of most ticket payload v r w). e)
      (λ (h : Held latch_object primitive_of most payload v r w). absurd (never h.under h.is)) goes

  pub begun-only : (v w : View LatchEntry T) (r : Resumed) → ((under : Under) → r ≡ resumed.Under under → ⊥)
      → BegunSo latch_object primitive_of 0 v r w → Begun latch_object primitive_of 0 v r w
  begun-only v w r never b = record {
    number = b.number;
    from = b.from;
    drew = b.drew;
    after = b.after;
    resumes = ended-only most_after_first (Some b.number) 0 b.from w r never b.goes;
  }

  met-only : (payload k : ℕ) (v w : View LatchEntry T) (r : EndedAtOnce)
      → ((under : Under) → r ≡ once.Under under → ⊥) → MeetsOrHolds latch_object primitive_of payload k v r w
      → MeetsAtOnce latch_object primitive_of payload k v r w
  met-only payload k v w r never meets = ⊎_elim
      (λ (m : MeetsAtOnce latch_object primitive_of payload k v r w). m)
      (λ (h : HeldAtOnce latch_object primitive_of payload k v r w). absurd (never h.under h.is)) meets

  pub once-only : (drawing : QueueStep) (payload : ℕ) (v w : View LatchEntry T) (r : EndedAtOnce)
      → ((under : Under) → r ≡ once.Under under → ⊥)
      → DrewAndMet latch_object primitive_of drawing (MeetsOrHolds latch_object primitive_of) payload v r w
      → DrewAndMet latch_object primitive_of drawing (MeetsAtOnce latch_object primitive_of) payload v r w
  once-only drawing payload v w r never b = record {
    number = b.number;
    from = b.from;
    drew = b.drew;
    meets = met-only payload b.number b.from w r never b.meets;
  }

  pub finished-only : (ticket : Option ℕ) (payload : ℕ) (v w : View LatchEntry T) (r : EndedAtOnce)
      → ((under : Under) → r ≡ once.Under under → ⊥)
      → FinishedOrHeld latch_object primitive_of ticket payload v r w
      → FinishedAtOnce latch_object primitive_of ticket payload v r w
  finished-only (Some k) payload v w r never f = met-only payload k v w r never f
  finished-only None payload v w r never f = once-only reaches payload v w r never f

  -- a resume, whatever it answered
  pub resumed-next : (v w : View LatchEntry T) (r : Resumed) → BegunSo latch_object primitive_of 0 v r w
      → Next v (handed_back r) w
  resumed-next v w (resumed.Served k) b = (served_at k, inl (begun-only v w _ (λ under is. cc) b))
  resumed-next v w (resumed.Left k) b = (left_at k, inl (begun-only v w _ (λ under is. cc) b))
  resumed-next v w (resumed.Refused k) b = (refused_at k, begun-only v w _ (λ under is. cc) b)
  resumed-next v w (resumed.Under under) b = inl b

  pub ended-next : (v w : View LatchEntry T) (r : EndedAtOnce)
      → DrewAndMet latch_object primitive_of begins (MeetsOrHolds latch_object primitive_of) 0 v r w
      → Next v (handed_back_at_once r) w
  ended-next v w (once.Served k) b = (served_at k, inr (once-only begins 0 v w _ (λ under is. cc) b))
  ended-next v w (once.Left k) b = (left_at k, inr (once-only begins 0 v w _ (λ under is. cc) b))
  ended-next v w (once.Missed k) b = (missed_at k, once-only begins 0 v w _ (λ under is. cc) b)
  ended-next v w (once.Under under) b = inr b

  -- in simple mode one is handed back for want of a slot alone
  drawn-wants : (payload k : ℕ) (under : Under) (v u w : View LatchEntry T) → IsSame v u
      → u.facts.heads ≡ v.facts.heads → MeetsOrHolds latch_object primitive_of payload k u (once.Under under) w
      → WantsSlot under v w
  drawn-wants payload k under v u w same heads m =
      wants-since under v u w same (prefix-is v.facts.heads u.facts.heads heads)
      (once-wants payload k under u w (once-held payload k under u w m))

  pub next-wants : (v w : View LatchEntry T) (r : EndedAtOnce)
      → DrewAndMet latch_object primitive_of begins (MeetsOrHolds latch_object primitive_of) 0 v r w
      → IfSome (handed_back_at_once r) (λ under. WantsSlot under v w)
  next-wants v w (once.Served k) b = tt
  next-wants v w (once.Left k) b = tt
  next-wants v w (once.Missed k) b = tt
  next-wants v w (once.Under under) b =
      drawn-wants 0 b.number under v b.from w b.drew.same (ap (λ (f : Facts). f.heads) b.drew.facts_are) b.meets

  finished-wants : (ticket : Option ℕ) (payload : ℕ) (under : Under) (v w : View LatchEntry T)
      → FinishedOrHeld latch_object primitive_of ticket payload v (once.Under under) w → WantsSlot under v w
  finished-wants (Some k) payload under v w f = once-wants payload k under v w (once-held payload k under v w f)
  finished-wants None payload under v w f = drawn-wants payload f.number under v f.from w f.drew.same
      (ap (λ (g : Facts). g.heads) f.drew.facts_are) f.meets

  pub on-wants : (ticket : Option ℕ) (payload : ℕ) (v w : View LatchEntry T) (r : EndedAtOnce)
      → FinishedOrHeld latch_object primitive_of ticket payload v r w
      → IfSome (handed_back_at_once r) (λ under. WantsSlot under v w)
  on-wants ticket payload v w (once.Served k) f = tt
  on-wants ticket payload v w (once.Left k) f = tt
  on-wants ticket payload v w (once.Missed k) f = tt
  on-wants ticket payload v w (once.Under under) f = finished-wants ticket payload under v w f

  pub resumed-on : (under : Under) (v w : View LatchEntry T) (r : Resumed)
      → GoesOn latch_object primitive_of most_passed_over (under_ticket under) (under_payload under) v r w
      → On under v (handed_back r) w
  resumed-on under v w (resumed.Served k) e =
      (served_at k, inl (ended-only most_passed_over _ _ v w _ (λ under is. cc) e))
  resumed-on under v w (resumed.Left k) e =
      (left_at k, inl (ended-only most_passed_over _ _ v w _ (λ under is. cc) e))
  resumed-on under v w (resumed.Refused k) e =
      (refused_at k, ended-only most_passed_over _ _ v w _ (λ under is. cc) e)
  resumed-on under v w (resumed.Under again) e = inl e

  pub ended-on : (under : Under) (v w : View LatchEntry T) (r : EndedAtOnce)
      → FinishedOrHeld latch_object primitive_of (under_ticket under) (under_payload under) v r w
      → On under v (handed_back_at_once r) w
  ended-on under v w (once.Served k) f = (served_at k, inr (finished-only _ _ v w _ (λ under is. cc) f))
  ended-on under v w (once.Left k) f = (left_at k, inr (finished-only _ _ v w _ (λ under is. cc) f))
  ended-on under v w (once.Missed k) f = (missed_at k, finished-only _ _ v w _ (λ under is. cc) f)
  ended-on under v w (once.Under again) f = inr f
