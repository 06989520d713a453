-- A cancel, and a leaving that goes on: the call rule and the cause of each answer.
use Rattle.std.proofs.Common.{◌≡◌, inl, inr, ℕ, ◌+◌, List, [], ◌∷◌, sym, refl, ap, ◌∙◌, subst}
use Rattle.cqs_core.specs.declared.doings.Doing.TheVariants as doing
use Rattle.cqs_core.specs.QueueSteps.{starts_leaving, row_of}
use Rattle.cqs_barrier_object.specs.declared.entries.BarrierEntry.{BarrierEntry}
use Rattle.cqs_barrier_object.specs.declared.entries.BarrierEntry.TheVariants as entry
use Rattle.cqs_barrier_object.specs.BarrierEntries.{IsLegal}
use Rattle.cqs_barrier_object.specs.BarrierNames.{entry_names}
use Rattle.cqs_rule_laws.specs.declared.view.Facts.{Facts}
use Rattle.cqs_rule_laws.specs.declared.view.View.{View}
use Rattle.cqs_rule_laws.specs.Called.{Called}
use Rattle.cqs_rule_laws.specs.Lists.{Has, without}
use Rattle.cqs_rule_laws.proofs.Calls.{called-none, called-by, called-and}
use Rattle.cqs_cell.specs.Transitions.{MadeBy}
use Rattle.cqs_cancel.specs.Cancels.{CameLate}
use Rattle.cqs_barrier.specs.declared.answers.PartyLeft.{PartyLeft}
use Rattle.cqs_barrier.specs.declared.answers.PartyLeft.TheVariants.{Withdrawn, TooLate, Contended}
use Rattle.cqs_barrier.specs.Barrier.{barrier_object}
use Rattle.cqs_rule_laws.specs.CallRule.{IsReady}
use Rattle.cqs_barrier.specs.Calls.{CallRule}
use Rattle.cqs_barrier.specs.Causes.{primitive_of}
use Rattle.cqs_barrier.specs.Leaving.{RemainingWas, Leaves, HasLeft, leaving_at}
use Rattle.cqs_rule_laws.proofs.Lists.{prefix-then}
use Rattle.cqs_rule_laws.proofs.Rules.{AllName, call-rule_own}
use Rattle.cqs_cancel.proofs.Outs.{late-cell, late-rests}

module _ {T : Type 0} where
  -- how a call came to where its leaving goes on: with no entry, and with what the pass has and waits for
  pub record Starts (v u : View BarrierEntry T) : Type 0 where
    pub called : Called barrier_object v [] [] u
    pub held : u.facts.has.held ≡ v.facts.has.held
    pub further : v.facts.has.further ≡ 0
    pub same_further : u.facts.has.further ≡ v.facts.has.further
    pub waits : u.facts.waits ≡ v.facts.waits

  pub starts-here : (v : View BarrierEntry T) → v.facts.has.further ≡ 0 → Starts v v
  starts-here v none = record {
    called = called-none barrier_object v;
    held = refl;
    further = none;
    same_further = refl;
    waits = refl;
  }

  -- by the exchange on the cell of the wait
  pub starts-leaving : (k : ℕ) (v u : View BarrierEntry T) → v.facts.has.further ≡ 0
      → MadeBy barrier_object primitive_of starts_leaving (row_of starts_leaving) 0 k 0 v u → Starts v u
  starts-leaving k v u none m =
      let is = m.saw.facts_are in
      record {
        called = called-by barrier_object v u _ [] m.saw;
        held = ap (λ (f : Facts). f.has.held) is ∙ ap (λ (f : Facts). f.has.held) m.before_is;
        further = none;
        same_further = ap (λ (f : Facts). f.has.further) is ∙ ap (λ (f : Facts). f.has.further) m.before_is;
        waits = ap (λ (f : Facts). f.waits) is ∙ ap (λ (f : Facts). f.waits) m.before_is;
      }

  pub leaving-now : (k : ℕ) (v u : View BarrierEntry T)
      → MadeBy barrier_object primitive_of starts_leaving (row_of starts_leaving) 0 k 0 v u
      → u.facts.doing ≡ doing.Leaving k
  leaving-now k v u m = ap (λ (f : Facts). f.doing) m.saw.facts_are

  remaining-from : (v u w : View BarrierEntry T) (n : ℕ) (before own : List BarrierEntry) → Starts v u
      → RemainingWas u n before own w → RemainingWas v n before own w
  remaining-from v u w n before own s r = record {
    since = prefix-then v.seen u.seen before (s.called.more, s.called.seen) r.since;
    seen = r.seen;
    remaining = r.remaining;
  }

  rule : (v u w : View BarrierEntry T) (own : List BarrierEntry) → Starts v u → Called barrier_object u own [] w
      → AllName entry_names v.number own → Has v.number v.own → IsLegal w.opening.size w.seen → CallRule v own [] w
  rule v u w own s c all has legal =
      call-rule_own barrier_object v w own [] (called-and barrier_object v u w [] [] own [] s.called c) all has legal

  pub left-so : (k : ℕ) (answer : PartyLeft) (v u w : View BarrierEntry T) → Starts v u → Has v.number v.own
      → IsLegal w.opening.size w.seen → Leaves k u answer w → HasLeft k v answer w
  left-so k Withdrawn v u w s has legal l =
      let number : u.number ≡ v.number = s.called.same.number in
      let o = l.0 in
      let some = l.1 in
      let called : Called barrier_object u (entry.Withdraw v.number k ∷ []) [] w =
      subst (λ p. Called barrier_object u (entry.Withdraw p k ∷ []) [] w) number o.called in (
        rule v u w (entry.Withdraw v.number k ∷ []) s called (λ n. refl, tt) has legal,
        record {
          ready = record { idle = o.doing_is; further = o.further ∙ (s.same_further ∙ s.further) };
          held_is = o.held_is ∙ ap (λ n. n + 1) s.held;
          waits_are = o.waits_are ∙ ap (without k) s.waits;
        },
        record {
          count = some.count;
          before = some.before;
          some = some.some;
          found = remaining-from v u w some.count some.before _ s
              (subst (λ p. RemainingWas u some.count some.before (entry.Withdraw p k ∷ []) w) number some.found);
        },
      )
  left-so k TooLate v u w s has legal l =
      let number : u.number ≡ v.number = s.called.same.number in
      let o = l.0 in
      let none = l.1 in
      let called : Called barrier_object u (entry.Stay v.number k ∷ []) [] w =
      subst (λ p. Called barrier_object u (entry.Stay p k ∷ []) [] w) number o.called in
      inl (
        rule v u w (entry.Stay v.number k ∷ []) s called (λ n. refl, tt) has legal,
        record {
          ready = record { idle = o.doing_is; further = o.further ∙ (s.same_further ∙ s.further) };
          held_is = o.held_is ∙ s.held;
          waits_are = o.waits_are ∙ ap (without k) s.waits;
        },
        record {
          before = none.before;
          found = remaining-from v u w 0 none.before _ s
              (subst (λ p. RemainingWas u 0 none.before (entry.Stay p k ∷ []) w) number none.found);
        },
      )
  left-so k (Contended saw found leaving) v u w s has legal l =
      let o = l.0 in
      let c = l.1 in
      let at : doing.Leaving (leaving_at leaving).index ≡ doing.Leaving k = sym c.still.leaves ∙ o.doing_is in (
        rule v u w [] s o.called tt has legal,
        record {
          differ = c.differ;
          before = c.before;
          loaded = remaining-from v u w saw c.before [] s c.loaded;
          exchanged = c.exchanged;
          beside = λ alone. c.beside (s.called.same.alone ∙ alone);
          still = c.still;
        },
        cc,
        o.held_is ∙ s.held,
        o.waits_are ∙ s.waits,
      )

  -- the cell was found served
  pub came-too-late : (k payload : ℕ) (v w : View BarrierEntry T) → IsReady v.facts → Has v.number v.own
      → IsLegal w.opening.size w.seen → CameLate barrier_object primitive_of k payload v w → HasLeft k v TooLate w
  came-too-late k payload v w ready has legal l = inr (
    call-rule_own barrier_object v w (entry.Late v.number k ∷ []) _ l.called (λ n. refl, tt) has legal,
    late-rests barrier_object primitive_of k payload v w l ready,
    (late-cell barrier_object primitive_of k payload v w l).0,
  )
