-- A cancel is its steps: the queue's cancel, and perhaps a resumption that goes on with an element.
use Rattle.std.proofs.Common.{◌≡◌, ℕ, List, [], ◌∷◌, ◌++◌, Option, Some, None, sym, refl, ap, ◌∙◌, subst, append_assoc}
use Rattle.cqs_core.specs.declared.cells.CoreState.{CoreState}
use Rattle.cqs_core.specs.declared.cells.CoreState.TheVariants as state
use Rattle.cqs_core.specs.declared.doings.Doing.{Doing}
use Rattle.cqs_core.specs.declared.doings.Doing.TheVariants as doing
use Rattle.cqs_core.specs.QueueSteps.{settles, settles_owing}
use Rattle.cqs_pool_object.specs.declared.entries.PoolEntry.{PoolEntry}
use Rattle.cqs_pool_object.specs.declared.entries.PoolEntry.TheVariants as entry
use Rattle.cqs_pool_object.specs.PoolEntries.{IsLegal}
use Rattle.cqs_rule.specs.declared.queue.tokens.Under.{Under}
use Rattle.cqs_rule_laws.specs.declared.view.Facts.{Facts}
use Rattle.cqs_rule_laws.specs.declared.view.Sighting.TheVariants.{Cell}
use Rattle.cqs_rule_laws.specs.declared.view.View.{View}
use Rattle.cqs_rule_laws.specs.declared.view.Opening.{Opening}
use Rattle.cqs_rule_laws.specs.Called.{Called}
use Rattle.cqs_rule_laws.specs.Causes.{cell_of}
use Rattle.cqs_rule_laws.specs.Exchanges.{HasCell}
use Rattle.cqs_rule_laws.specs.Saw.{WasShown}
use Rattle.cqs_rule_laws.specs.Lists.{Has, without}
use Rattle.cqs_rule_laws.proofs.Calls.{called-and}
use Rattle.cqs_rule_laws.proofs.Causes.{Onward, once-later}
use Rattle.cqs_rule_laws.proofs.Lists.{prefix-then}
use Rattle.cqs_rule_laws.proofs.Rules.{call-rule, call-rule_own}
use Rattle.cqs_cancel.specs.Unasked as unasked
use Rattle.cqs_cancel.specs.Unasked.{Closes}
use Rattle.cqs_cancel.proofs.Outs.{late-cell, late-ready, late-has, late-waits}
use Rattle.cqs_cancel.specs.declared.cancelling.Left.TheVariants.{Gone, GoneOwing, Late}
use Rattle.cqs_pool.specs.declared.answers.Placed.{Placed}
use Rattle.cqs_pool.specs.declared.answers.Placed.TheVariants as placed
use Rattle.cqs_pool.specs.declared.answers.Placed.TheVariants.{Sent, Left}
use Rattle.cqs_pool.specs.declared.answers.PoolLeft.TheVariants.{Cancelled}
use Rattle.cqs_pool.specs.Answers.{Ends, PassesOn, LeavesPass, most_passed_over}
use Rattle.cqs_rule_laws.specs.CallRule.{IsReady}
use Rattle.cqs_pool.specs.Calls.{CallRule, Rests}
use Rattle.cqs_pool.specs.Causes.{primitive_of, CellWasOnce, CellHadOnce, CellHad}
use Rattle.cqs_pool.specs.Entries.{placed_further, passed_further}
use Rattle.cqs_pool.specs.Pool.{pool_object}
use Rattle.cqs_pool.specs.Steps.{HasCancelled, HasEnded, PassedOn}
use Rattle.cqs_pool.proofs.ResumeSteps.{Follows, ends-so, ends-called, further-names}

module _ {T : Type 0} where
  -- what was found once in a call was found in it still when the call has gone on, with its payload
  had-later : (at : CoreState) (k : ℕ) (v u w : View PoolEntry T) (o : CellWasOnce at k v u) → Onward u w
      → (once : CellWasOnce at k v w) × (once.payload ≡ o.payload)
  had-later at k v u w o on = (
    record {
      word = o.word;
      payload = o.payload;
      cell = o.cell;
      found = (
        o.found.0,
        o.found.1 ++ on.found.0,
        on.found.1 ∙ (ap (λ l. l ++ on.found.0) o.found.2
            ∙ (append_assoc v.facts.found _ on.found.0
            ∙ ap (λ l. v.facts.found ++ l) (append_assoc o.found.0 (Cell k o.word ∷ o.found.1) on.found.0))),
      );
      was = record {
        before = o.was.before;
        seen = prefix-then o.was.before u.seen w.seen o.was.seen on.seen;
        was = subst (λ (z : Opening). WasShown {S = T} primitive_of z (HasCell (cell_of k at o.payload)) o.was.before)
            (sym on.opening) o.was.was;
      };
    },
    refl,
  )

  -- The waiter of the number k is out, and the pass is at this.
  record Out (at : Doing) (k : ℕ) (v u : View PoolEntry T) : Type 0 where
    called : Called pool_object v (entry.Leave v.number k ∷ []) [] u
    waiter : CellWasOnce state.Waiter k v u
    doing_is : u.facts.doing ≡ at
    slots : u.facts.has.slots ≡ v.facts.has.slots
    further : u.facts.has.further ≡ v.facts.has.further
    waits : u.facts.waits ≡ without k v.facts.waits
    follows : Follows v u

  -- no resume had left anything there
  out-gone : (k : ℕ) (v u : View PoolEntry T) → Closes pool_object primitive_of settles k 0 v u
      → Out doing.Idle k v u
  out-gone k v u e =
      let is = e.facts_are in
      record {
        called = e.called;
        waiter = record {
          word = e.word;
          payload = 0;
          cell = e.waiter;
          found = (
            [],
            e.tried ++ Cell k e.found ∷ [],
            ap (λ (f : Facts). f.found) is
                ∙ (append_assoc (v.facts.found ++ Cell k e.word ∷ []) e.tried (Cell k e.found ∷ [])
                ∙ append_assoc v.facts.found (Cell k e.word ∷ []) (e.tried ++ Cell k e.found ∷ [])),
          );
          was = e.was_waiting;
        };
        doing_is = ap (λ (f : Facts). f.doing) is;
        slots = ap (λ (f : Facts). f.has.slots) is;
        further = ap (λ (f : Facts). f.has.further) is;
        waits = ap (λ (f : Facts). f.waits) is;
        follows = record {
          same = e.called.same;
          passed = ap (λ (f : Facts). f.passed) is;
          heads = e.heads;
          heads_are = ap (λ (f : Facts). f.heads) is;
        };
      }

  -- one had left an element
  out-owing : (k payload : ℕ) (v u : View PoolEntry T) → Closes pool_object primitive_of settles_owing k payload v u
      → Out doing.Owes k v u × CellHadOnce state.Delegated k payload v u
  out-owing k payload v u e =
      let is = e.facts_are in
      let found = ap (λ (f : Facts). f.found) is in (
        record {
          called = e.called;
          waiter = record {
            word = e.word;
            payload = 0;
            cell = e.waiter;
            found = (
              [],
              e.tried ++ Cell k e.found ∷ [],
              found
                  ∙ (append_assoc (v.facts.found ++ Cell k e.word ∷ []) e.tried (Cell k e.found ∷ [])
                  ∙ append_assoc v.facts.found (Cell k e.word ∷ []) (e.tried ++ Cell k e.found ∷ [])),
            );
            was = e.was_waiting;
          };
          doing_is = ap (λ (f : Facts). f.doing) is;
          slots = ap (λ (f : Facts). f.has.slots) is;
          further = ap (λ (f : Facts). f.has.further) is;
          waits = ap (λ (f : Facts). f.waits) is;
          follows = record {
            same = e.called.same;
            passed = ap (λ (f : Facts). f.passed) is;
            heads = e.heads;
            heads_are = ap (λ (f : Facts). f.heads) is;
          };
        },
        (
          record {
            word = e.found;
            payload = payload;
            cell = e.cell;
            found = (
              Cell k e.word ∷ e.tried,
              [],
              found
                  ∙ (append_assoc (v.facts.found ++ Cell k e.word ∷ []) e.tried (Cell k e.found ∷ [])
                  ∙ append_assoc v.facts.found (Cell k e.word ∷ []) (e.tried ++ Cell k e.found ∷ [])),
            );
            was = record { before = e.was.before; seen = ([], e.was.seen); was = e.was.was };
          },
          refl,
        ),
      )

  pub gone : (k : ℕ) (v w : View PoolEntry T) → IsReady v.facts → Has v.number v.own → IsLegal w.opening.size w.seen
      → unasked.CancelsUnasked pool_object primitive_of k v Gone w → HasCancelled k v (Cancelled None) w
  gone k v w ready own legal b =
      let o = out-gone k v w b in (
        0,
        None,
        call-rule_own pool_object v w (entry.Leave v.number k ∷ []) [] o.called (λ n. refl, tt) own legal,
        (
          o.waiter,
          (
            refl,
            record {
              ready = record { idle = o.doing_is; further = o.further ∙ ready.further };
              elements_are = o.slots;
              waits_are = o.waits;
            },
          ),
        ),
      )

  pub gone-owing : (k payload : ℕ) (v u w : View PoolEntry T) (under : Option Under) → IsReady v.facts
      → Has v.number v.own → IsLegal w.opening.size w.seen
      → unasked.CancelsUnasked pool_object primitive_of k v (GoneOwing payload) u
      → PassedOn payload u under w → HasCancelled k v (Cancelled under) w
  gone-owing k payload v u w under ready own legal b p =
      let placed : Placed = p.0 in
      let e : HasEnded most_passed_over None payload u placed w = p.2 in
      let out = out-owing k payload v u b.0 in
      let o = out.0 in
      let on = ends-called u w most_passed_over None payload placed e in
      let ends : Ends v payload v.facts.has.slots (without k v.facts.waits) placed w =
      subst (λ (z : List ℕ × List ℕ). Ends v payload z.0 z.1 placed w)
      (λ i. (o.slots i, o.waits i))
      (ends-so v u w most_passed_over None payload placed o.follows (o.further ∙ ready.further) refl e) in (
        payload,
        Some placed,
        call-rule pool_object v w (entry.Leave v.number k ∷ []) (placed_further payload placed)
            (called-and pool_object v u w _ _ _ _ o.called on.0) (λ n. refl, tt) (further-names payload placed)
            own legal,
        (
          once-later primitive_of state.Waiter k v u w o.waiter on.1,
          (
            p.1,
            (let had = had-later state.Delegated k v u w out.1.0 on.1 in (had.0, had.1 ∙ out.1.1)),
            ends,
          ),
        ),
      )

  -- the part of a cancel by which the waiter is out
  pub gone-rule : (k : ℕ) (v w : View PoolEntry T) → Has v.number v.own → IsLegal w.opening.size w.seen
      → unasked.CancelsUnasked pool_object primitive_of k v Gone w → CallRule v (entry.Leave v.number k ∷ []) [] w
  gone-rule k v w own legal b =
      call-rule_own pool_object v w (entry.Leave v.number k ∷ []) [] (out-gone k v w b).called (λ n. refl, tt) own legal

  pub owing-rule : (k payload : ℕ) (v u : View PoolEntry T) → Has v.number v.own → IsLegal u.opening.size u.seen
      → unasked.CancelsUnasked pool_object primitive_of k v (GoneOwing payload) u
      → CallRule v (entry.Leave v.number k ∷ []) [] u × (u.facts.doing ≡ doing.Owes)
  owing-rule k payload v u own legal b =
      let out = out-owing k payload v u b.0 in (
        call-rule_own pool_object v u (entry.Leave v.number k ∷ []) [] out.0.called (λ n. refl, tt) own legal,
        out.0.doing_is,
      )

  -- What a cancel answers that came too late, by the numbers of the element and of its wait.
  abbrev pub CameTooLate : ℕ → ℕ → ℕ → View PoolEntry T → View PoolEntry T → Type 0
  CameTooLate k e j v w =
      (none : ℕ) × (passed : Option Placed)
      × CallRule v (entry.Late v.number k e ∷ []) (passed_further none passed) w
      × ((passed ≡ None) × (j ≡ k) × CellHad state.Resumed k e (entry.Late v.number k e ∷ []) w
      × Rests v (e ∷ v.facts.has.slots) (without k v.facts.waits) w)

  pub late : (k e j : ℕ) (v w : View PoolEntry T) → IsReady v.facts → Has v.number v.own
      → IsLegal w.opening.size w.seen → unasked.CancelsUnasked pool_object primitive_of k v (Late e) w
      → j ≡ k → CameTooLate k e j v w
  late k e j v w ready own legal l number = (
    0,
    None,
    call-rule_own pool_object v w (entry.Late v.number k e ∷ []) _ l.called (λ n. refl, tt) own legal,
    (
      refl,
      number,
      late-cell pool_object primitive_of k e v w l,
      record {
        ready = late-ready pool_object primitive_of k e v w l ready;
        elements_are = ap (λ h. h.slots) (late-has pool_object primitive_of k e v w l);
        waits_are = late-waits pool_object primitive_of k e v w l;
      },
    ),
  )

  -- what the call that went on with an element leaves
  left-passed : (k e : ℕ) (v w : View PoolEntry T) (under : Option Under) (passed : Option Placed)
      → PassesOn k v under e passed w → LeavesPass k v (Cancelled under) w
  left-passed k e v w under None p =
      subst (λ (u : Option Under). LeavesPass k v (Cancelled u) w) (sym p.0) p.1
  left-passed k e v w under (Some (Sent j)) p =
      subst (λ (u : Option Under). LeavesPass k v (Cancelled u) w) (sym p.0) p.2.1
  left-passed k e v w under (Some (Left j)) p =
      subst (λ (u : Option Under). LeavesPass k v (Cancelled u) w) (sym p.0) p.2.1
  left-passed k e v w under (Some (placed.Under u)) p =
      subst (λ (u : Option Under). LeavesPass k v (Cancelled u) w) (sym p.0)
      (p.2.owes, p.2.further, p.2.elements_are, p.2.waits_are)

  pub left-so : (k : ℕ) (v w : View PoolEntry T) (under : Option Under) → HasCancelled k v (Cancelled under) w
      → LeavesPass k v (Cancelled under) w
  left-so k v w under h = left-passed k h.0 v w under h.1 h.3.1
