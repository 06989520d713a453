-- Resumptions of a barrier, one after the other: each ended at a cell, or was handed back.
use Rattle.std.proofs.Common.{◌≡◌, ℕ, ◌+◌, ◌-◌, Bool, true, false, List, [], ◌∷◌, ◌++◌, length, Option, Some, None, sym, refl, ap, ◌∙◌, subst, append_assoc, arith, ⊎_elim, inl, inr, length-append}
use Rattle.std.proofs.lemmas.List.{append-nil}
use Rattle.cqs_core.specs.declared.cells.CoreState.{CoreState}
use Rattle.cqs_core.specs.declared.cells.CoreState.TheVariants as state
use Rattle.cqs_core.specs.declared.doings.Doing.TheVariants as doing
use Rattle.cqs_core.specs.QueueSteps.{QueueStep, begins, serves, leaves, delegates, ends_refused}
use Rattle.cqs_barrier_object.specs.declared.entries.BarrierEntry.{BarrierEntry}
use Rattle.cqs_barrier_object.specs.SoleCaller.{delivers}
use Rattle.cqs_barrier_object.specs.declared.entries.BarrierEntry.TheVariants as entry
use Rattle.cqs_barrier_object.specs.BarrierEntries.{IsLegal}
use Rattle.cqs_barrier_object.specs.BarrierSteps.{step_entries}
use Rattle.cqs_rule.specs.declared.queue.tokens.Under.{Under}
use Rattle.cqs_rule.proofs.Claiming.{wants-since}
use Rattle.cqs_rule.specs.Claims.{WantsSlot}
use Rattle.cqs_rule.specs.Counting.{heads_after}
use Rattle.cqs_rule.specs.Owed.{HasUnder, owes_at}
use Rattle.cqs_rule_laws.specs.declared.view.Facts.{Facts}
use Rattle.cqs_rule_laws.specs.declared.view.View.{View}
use Rattle.cqs_rule_laws.specs.Ample.{AreEnough}
use Rattle.cqs_rule_laws.specs.Called.{Called}
use Rattle.cqs_rule_laws.specs.Counts.{Drew}
use Rattle.cqs_rule_laws.specs.Lists.{IsPrefix}
use Rattle.cqs_rule_laws.specs.Views.{IsSame}
use Rattle.cqs_rule_laws.proofs.Calls.{called-none, called-by, called-and}
use Rattle.cqs_rule_laws.proofs.Lists.{prefix-then}
use Rattle.cqs_rule_laws.proofs.Rules.{called-weak}
use Rattle.cqs_resume.specs.declared.resumed.Resumed.{Resumed}
use Rattle.cqs_resume.specs.declared.resumed.Resumed.TheVariants as resumed
use Rattle.cqs_resume.specs.Counting.{settles_at}
use Rattle.cqs_resume.specs.Resumes.{Ended, GoesOn, Held, Resumes}
use Rattle.cqs_resume.specs.Rounds.{all_heads, numbers}
use Rattle.cqs_rule_laws.specs.Client.{IsQuiet}
use Rattle.cqs_resume.proofs.Ends.{ended-at, handed-back, held-on, drawn-few}
use Rattle.cqs_barrier.specs.Barrier.{barrier_object}
use Rattle.cqs_barrier.specs.Calls.{waiting_in}
use Rattle.cqs_barrier.specs.Causes.{primitive_of, CellWas}
use Rattle.cqs_barrier.specs.Endings.{Ending, served_at, left_at, refused_at, number_of, EndsIn, ending_entries, served_in}
use Rattle.cqs_barrier.proofs.Endings.{ended-so, owing-none, owing-one, served-none, served-then}
use Rattle.cqs_rule_laws.specs.Facts.{is_owing}
use Rattle.cqs_barrier.proofs.AloneOrder.{KnowsAlone, none-served, one-served}
use Rattle.cqs_barrier.specs.Resuming.{most_passed_over, HasPassedOver, IsHandedBack, OwesMore, Ran, RanNext, RanAll}
use Rattle.cqs_barrier.proofs.Grown.{handed_back}

-- a resumption that goes on shows no entry but that of its last step
quiet : IsQuiet barrier_object
quiet = record { drawing = λ p k payload. refl; passing = λ p k payload. refl }

-- whether it counted a cell or not, it has the heads that it had found before
heads-kept : (b : Bool) (counted heads more : List (ℕ × ℕ)) → IsPrefix heads (heads_after b counted (heads ++ more))
heads-kept true counted heads more = (more ++ counted, append_assoc heads more counted)
heads-kept false counted heads more = (more, refl)

pub delivers-append : (js ks : List ℕ) → delivers js ++ delivers ks ≡ delivers (js ++ ks)
delivers-append [] ks = refl
delivers-append (j ∷ js) ks = ap (λ l. entry.Deliver j ∷ l) (delivers-append js ks)

module _ {T : Type 0} where
  -- a pass that has a resumption handed back owes it
  pub owing-under : (under : Under) (v : View BarrierEntry T) → HasUnder v.facts under → is_owing v.facts.doing ≡ true
  owing-under under v has = ap is_owing has.owes.doing ∙ owes under.ticket
    where
      owes : (ticket : Option ℕ) → is_owing (owes_at ticket) ≡ true
      owes None = refl
      owes (Some k) = refl

  -- it ended at the cell of the number k, by a step with these entries
  ended : (s : QueueStep) (state : CoreState) (ticket : Option ℕ) (k left : ℕ) (ks : List ℕ) (end : Ending)
      (v w : View BarrierEntry T) → Ended barrier_object primitive_of s state most_passed_over ticket 0 k v w
      → step_entries s v.number k ≡ delivers ks → step_entries s v.number k ≡ ending_entries end
      → k ≡ number_of end → served_in (end ∷ []) ≡ ks → EndsIn end state → is_owing v.facts.doing ≡ true
      → v.facts.has.further ≡ left → v.facts.has.payload ≡ 0
      → (Called barrier_object v (delivers ks) [] w → w.facts.doing ≡ doing.Idle → v.alone ≡ true
      → waiting_in v ≡ ks ++ waiting_in w)
      → RanNext left v None w
  ended s state ticket k left ks end v w e is ends number served found owing further payload order =
      let a = ended-at barrier_object primitive_of quiet s state most_passed_over ticket 0 k v w e in
      let kept : w.facts.has.further ≡ v.facts.has.further = ap (λ h. h.further) a.has in
      let over = owing-none w.facts a.idle in
      let owed = owing-one v.facts owing in
      let called : Called barrier_object v (delivers ks) [] w =
      subst (λ es. Called barrier_object v es [] w) is (called-weak barrier_object v w _ _ a.called) in (
        ks,
        numbers e.over,
        record {
          called = called;
          in_order = order called a.idle;
          held = ap (λ h. h.held) a.has;
          waits = a.waits;
          heads = subst (IsPrefix v.facts.heads) (sym (ap (λ (f : Facts). f.heads) e.facts_are))
              (heads-kept (settles_at s) e.counted v.facts.heads (all_heads (e.over ++ e.last ∷ [])));
          served = record {
            ends = end ∷ [];
            serves = served;
            each = (
              ended-so end state (step_entries s v.number k) v w found ends a.called
                  (subst (λ j. CellWas state j (step_entries s v.number k) w) number a.cell),
              tt,
            );
          };
          many = omega (arith, kept, over, owed);
        },
        a.passed,
        record {
          idle = a.idle;
          further = ap (λ h. h.further) a.has ∙ further;
          payload = ap (λ h. h.payload) a.has ∙ payload;
        },
      )

  module _ (ticket : Option ℕ) (left : ℕ) (v w : View BarrierEntry T) (further : v.facts.has.further ≡ left)
      (payload : v.facts.has.payload ≡ 0) (owing : is_owing v.facts.doing ≡ true) where
    ran-served : (k : ℕ) → IsLegal w.opening.size w.seen → KnowsAlone v → KnowsAlone w
        → Resumes barrier_object primitive_of most_passed_over ticket 0 v (resumed.Served k) w → RanNext left v None w
    ran-served k legal knows knows' e =
        ended serves state.Waiter ticket k left (k ∷ []) (served_at k) v w e refl refl refl refl refl owing further
        payload
        (λ called idle alone. one-served v w k called legal knows knows' idle alone)

    none-reached : Called barrier_object v [] [] w → w.facts.doing ≡ doing.Idle → v.alone ≡ true
        → waiting_in v ≡ waiting_in w
    none-reached called idle alone = none-served v w called alone

    ran-left : (k : ℕ)
        → Resumes barrier_object primitive_of most_passed_over ticket 0 v (resumed.Left k) w → RanNext left v None w
    ran-left k (inl e) = ended leaves state.Empty ticket k left [] (left_at k) v w e refl refl refl refl (inl refl)
        owing further payload
        none-reached
    ran-left k (inr e) = ended delegates state.Cancelling ticket k left [] (left_at k) v w e refl refl refl refl
        (inr refl) owing further
        payload none-reached

    ran-refused : (k : ℕ)
        → Resumes barrier_object primitive_of most_passed_over ticket 0 v (resumed.Refused k) w → RanNext left v None w
    ran-refused k e = ended ends_refused state.Refused ticket k left [] (refused_at k) v w e refl refl refl refl refl
        owing further payload
        none-reached

    ran-under : (under : Under)
        → Resumes barrier_object primitive_of most_passed_over ticket 0 v (resumed.Under under) w
        → RanNext left v (Some under) w
    ran-under under e =
        let h = handed-back barrier_object primitive_of quiet most_passed_over ticket 0 under v w e in
        let kept : w.facts.has.further ≡ v.facts.has.further = ap (λ h. h.further) h.has in
        let owed = owing-one v.facts owing in
        let still = owing-one w.facts (ap (λ (f : Facts). is_owing f.doing) e.facts_are) in (
          record {
            called = h.called;
            in_order = none-served v w h.called;
            held = ap (λ h. h.held) h.has;
            waits = h.waits;
            heads = (all_heads e.over, ap (λ (f : Facts). f.heads) e.facts_are);
            served = served-none v w;
            many = omega (arith, kept, owed, still);
          },
          inl (
            e.ticket_is,
            record {
              over = numbers e.over;
              passed = h.passed;
              many_are = let few = drawn-few e.over in let all = e.all in omega arith;
            },
          ),
          e.has,
          ap (λ h. h.further) h.has ∙ further,
          e.payload_is,
        )

    -- there was no slot for the segment of its number
    ran-held : (r : Resumed) → Held barrier_object primitive_of most_passed_over 0 v r w
        → RanNext left v (handed_back r) w
    ran-held r h =
        let o = held-on barrier_object primitive_of quiet most_passed_over 0 r v w h in
        let kept : w.facts.has.further ≡ v.facts.has.further = ap (λ z. z.further) o.has in
        let owed = owing-one v.facts owing in
        let still = owing-one w.facts (owing-under h.under w h.has) in
        subst (λ z. RanNext left v (handed_back z) w) (sym h.is) (
          record {
            called = o.called;
            in_order = none-served v w o.called;
            held = ap (λ z. z.held) o.has;
            waits = o.waits;
            heads = (h.before ++ h.heads, h.heads_are);
            served = served-none v w;
            many = omega (arith, kept, owed, still);
          },
          inr o.wants,
          h.has,
          kept ∙ further,
          h.payload_is,
        )

    ran-so : (r : Resumed) → IsLegal w.opening.size w.seen → KnowsAlone v → KnowsAlone w
        → Resumes barrier_object primitive_of most_passed_over ticket 0 v r w → RanNext left v (handed_back r) w
    ran-so (resumed.Served k) legal knows knows' e = ran-served k legal knows knows' e
    ran-so (resumed.Left k) legal knows knows' e = ran-left k e
    ran-so (resumed.Refused k) legal knows knows' e = ran-refused k e
    ran-so (resumed.Under under) legal knows knows' e = ran-under under e

    -- one that went on ended, or was handed back
    pub ran-on : (r : Resumed) → IsLegal w.opening.size w.seen → KnowsAlone v → KnowsAlone w
        → GoesOn barrier_object primitive_of most_passed_over ticket 0 v r w → RanNext left v (handed_back r) w
    ran-on r legal knows knows' e = ⊎_elim (ran-so r legal knows knows') (ran-held r) e

  -- one that was handed back is so since an earlier moment, behind these numbers that were passed over
  pub handed-since : (under : Under) (over : List ℕ) (v u w : View BarrierEntry T) → IsSame v u
      → IsPrefix v.facts.heads u.facts.heads → HasPassedOver over v u → IsHandedBack under u w → IsHandedBack under v w
  handed-since under over v u w same heads passed (inl (none, p)) = inl (
    none,
    record {
      over = over ++ p.over;
      passed = p.passed ∙ (ap (λ l. l ++ p.over) passed ∙ append_assoc v.facts.passed over p.over);
      many_are = let longer = length-append over p.over in let many = p.many_are in omega arith;
    },
  )
  handed-since under over v u w same heads passed (inr x) = inr (wants-since under v u w same heads x)

  pub passes-then : (over more : List ℕ) (v u w : View BarrierEntry T) → HasPassedOver over v u
      → HasPassedOver more u w → HasPassedOver (over ++ more) v w
  passes-then over more v u w a b = b ∙ (ap (λ l. l ++ more) a ∙ append_assoc v.facts.passed over more)

  -- one run after another
  pub ran-then : (js ks : List ℕ) (v u w : View BarrierEntry T) → Ran js v u → Ran ks u w → Ran (js ++ ks) v w
  ran-then js ks v u w a b = record {
    called = subst (λ es. Called barrier_object v es [] w) (delivers-append js ks)
        (called-and barrier_object v u w (delivers js) [] (delivers ks) [] a.called b.called);
    held = b.held ∙ a.held;
    waits = b.waits ∙ a.waits;
    heads = prefix-then v.facts.heads u.facts.heads w.facts.heads a.heads b.heads;
    in_order = λ alone. a.in_order alone
        ∙ (ap (λ l. js ++ l) (b.in_order (a.called.same.alone ∙ alone)) ∙ sym (append_assoc js ks (waiting_in w)));
    served = served-then js ks v u w (a.called.more, a.called.seen) (b.called.more, b.called.seen)
        b.called.same.opening a.served b.served;
    many =
        let one = a.many in
        let two = b.many in
        let all = length-append a.served.ends b.served.ends in
        omega (arith, one, two, all);
  }

  -- a number was drawn for the next resumption
  pub began-further : (k left : ℕ) (v u : View BarrierEntry T) → OwesMore (left + 1) v.facts
      → Drew barrier_object begins v k u → u.facts.has.further ≡ left
  began-further k left v u owes d =
      ap (λ (f : Facts). f.has.further) d.facts_are ∙ (ap (λ n. n - 1) owes.further ∙ omega arith)

  pub began : (k left : ℕ) (v u : View BarrierEntry T) → OwesMore (left + 1) v.facts → Drew barrier_object begins v k u
      → Ran [] v u
  began k left v u owes d = record {
    called = called-by barrier_object v u _ [] d;
    held = ap (λ (f : Facts). f.has.held) d.facts_are;
    waits = ap (λ (f : Facts). f.waits) d.facts_are;
    heads = ([], ap (λ (f : Facts). f.heads) d.facts_are ∙ sym (append-nil v.facts.heads));
    in_order = none-served v u (called-by barrier_object v u _ [] d);
    served = served-none v u;
    many =
        let further = began-further k left v u owes d in
        let more = owes.further in
        let idle = owing-none v.facts owes.idle in
        let owed = owing-one u.facts (ap (λ (f : Facts). is_owing f.doing) d.facts_are) in
        omega (arith, further, more, idle, owed);
  }

  pub began-there : (k : ℕ) (v u : View BarrierEntry T) → Drew barrier_object begins v k u → HasPassedOver [] v u
  began-there k v u d = ap (λ (f : Facts). f.passed) d.facts_are ∙ sym (append-nil v.facts.passed)

  pub next-after : (left : ℕ) (answer : Option Under) (v u w : View BarrierEntry T) → Ran [] v u
      → HasPassedOver [] v u → RanNext left u answer w → RanNext left v answer w
  next-after left None v u w a passed n =
      (n.0, n.1, ran-then [] n.0 v u w a n.2, passes-then [] n.1 v u w passed n.3, n.4)
  next-after left (Some under) v u w a passed n = (
    ran-then [] [] v u w a n.0,
    handed-since under [] v u w a.called.same a.heads passed n.1,
    n.2,
    n.3,
    n.4,
  )

-- nothing was resumed yet
pub ran-none : {T : Type 0} (v : View BarrierEntry T) → Ran [] v v
ran-none v = record {
  called = called-none barrier_object v;
  held = refl;
  waits = refl;
  heads = ([], sym (append-nil v.facts.heads));
  in_order = λ alone. refl;
  served = served-none v v;
  many = let none : length (served-none v v).ends ≡ 0 = refl in omega (arith, none);
}

module _ {T : Type 0} where
  -- these waits were served by resumptions that ended, by way of these numbers that were passed over
  abbrev pub RanSo : View BarrierEntry T → View BarrierEntry T → Type 0
  RanSo v u = (ks : List ℕ) × (over : List ℕ) × Ran ks v u × HasPassedOver over v u

  pub ran-nothing : (v : View BarrierEntry T) → RanSo v v
  ran-nothing v = ([], [], ran-none v, sym (append-nil v.facts.passed))

module _ {T : Type 0} (left : ℕ) where
  -- one more of the resumptions was handed back, or ended
  pub all-handed : (under : Under) (v u w : View BarrierEntry T) → RanSo v u → RanNext left u (Some under) w
      → RanAll v (Some (record { under = under; left = left })) w
  all-handed under v u w a n = (
    a.0 ++ [],
    ran-then a.0 [] v u w a.2 n.0,
    handed-since under a.1 v u w a.2.called.same a.2.heads a.3 n.1,
    record { owes = n.2; further = n.3; payload = n.4 },
  )

  pub all-on : (v u w : View BarrierEntry T) → RanSo v u → RanNext left u None w → RanSo v w × OwesMore left w.facts
  all-on v u w a n = (
    (a.0 ++ n.0, a.1 ++ n.1, ran-then a.0 n.0 v u w a.2 n.2, passes-then a.1 n.1 v u w a.3 n.3),
    n.4,
  )
