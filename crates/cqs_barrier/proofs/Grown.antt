-- The last number that was drawn for the resumptions of a pass never falls, and grows where one is handed back that has
-- no open ticket.
use Rattle.std.proofs.Common.{◌≡◌, ℕ, ◌≤◌, Option, Some, None, sym, ◌∙◌, subst, ⊎_elim, arith, inl, inr}
use Rattle.cqs_barrier_object.specs.declared.entries.BarrierEntry.{BarrierEntry}
use Rattle.cqs_resume.specs.declared.resumed.Resumed.{Resumed}
use Rattle.cqs_resume.specs.declared.resumed.Resumed.TheVariants as resumed
use Rattle.cqs_resume.specs.Resumes.{GoesOn, Held, Resumes, most_passed_over}
use Rattle.cqs_rule.specs.declared.queue.tokens.Under.{Under}
use Rattle.cqs_rule_laws.specs.declared.view.View.{View}
use Rattle.cqs_rule.specs.Owed.{HasUnder, under_payload, under_ticket, under_reached}
use Rattle.cqs_barrier.specs.Barrier.{barrier_object}
use Rattle.cqs_barrier.specs.Causes.{primitive_of}
use Rattle.cqs_barrier.specs.Resuming.{HasGrown}

-- the resumption that a call hands back
abbrev pub handed_back : Resumed → Option Under
handed_back (resumed.Served k) = None
handed_back (resumed.Left k) = None
handed_back (resumed.Refused k) = None
handed_back (resumed.Under under) = Some under

module _ {T : Type 0} where
  -- also since an earlier moment
  pub grown-since : (a b : ℕ) (handed : Option Under) (w : View BarrierEntry T) → a ≤ b → HasGrown b handed w
      → HasGrown a handed w
  grown-since a b None w before grown = omega (arith, before, grown)
  grown-since a b (Some under) w before grown = record {
    before = let after = grown.before in omega (arith, before, after);
    further = λ none. let after = grown.further none in omega (arith, before, after);
  }

  -- one that goes on
  ended-grown : (under : Under) (v w : View BarrierEntry T) (r : Resumed) → HasUnder v.facts under
      → Resumes barrier_object primitive_of most_passed_over (under_ticket under) (under_payload under) v r w
      → HasGrown (under_reached under) (handed_back r) w
  ended-grown under v w (resumed.Served k) has e =
      let at = has.reached in let after = e.reached in omega (arith, at, after)
  ended-grown under v w (resumed.Left k) has (inl e) =
      let at = has.reached in let after = e.reached in omega (arith, at, after)
  ended-grown under v w (resumed.Left k) has (inr e) =
      let at = has.reached in let after = e.reached in omega (arith, at, after)
  ended-grown under v w (resumed.Refused k) has e =
      let at = has.reached in let after = e.reached in omega (arith, at, after)
  ended-grown under v w (resumed.Under again) has s =
      let at = has.reached in
      let after = s.further (omega arith) in
      record { before = omega (arith, at, after); further = λ none. omega (arith, at, after) }

  -- one for whose number there was no slot has its ticket open
  held-grown : (under : Under) (v w : View BarrierEntry T) (r : Resumed) → HasUnder v.facts under
      → Held barrier_object primitive_of most_passed_over (under_payload under) v r w
      → HasGrown (under_reached under) (handed_back r) w
  held-grown under v w r has h =
      let at = has.reached in
      let after = h.reached in
      subst (λ z. HasGrown (under_reached under) (handed_back z) w) (sym h.is) (record {
        before = omega (arith, at, after);
        further = λ none. absurd (open-ticket h.number (sym h.ticket_is ∙ none));
      })
    where
      open-ticket : (k : ℕ) → Some k ≡ None → ⊥
      open-ticket k is = absurd (cc is)

  pub finished-grown : (under : Under) (v w : View BarrierEntry T) (r : Resumed) → HasUnder v.facts under
      → GoesOn barrier_object primitive_of most_passed_over (under_ticket under) (under_payload under) v r w
      → HasGrown (under_reached under) (handed_back r) w
  finished-grown under v w r has e = ⊎_elim (ended-grown under v w r has) (held-grown under v w r has) e
