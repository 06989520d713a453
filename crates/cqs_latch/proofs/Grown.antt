-- The last number that was drawn for the resumptions of a pass never falls, and grows where one is handed back without
-- a ticket.
use Rattle.std.proofs.Common.{◌≡◌, inl, inr, ℕ, ◌<◌, ◌≤◌, Option, Some, None, Err, sym, ap, refl, subst, arith}
use Rattle.cqs_latch_object.specs.declared.entries.LatchEntry.{LatchEntry}
use Rattle.cqs_resume.specs.declared.resumed.Resumed.{Resumed}
use Rattle.cqs_resume.specs.declared.resumed.Resumed.TheVariants as resumed
use Rattle.cqs_resume.specs.Begins.{BegunSo}
use Rattle.cqs_resume.specs.Resumes.{GoesOn, Held, Resumes, most_passed_over, most_after_first}
use Rattle.cqs_rule_laws.specs.Ample.{IsAmple}
use Rattle.cqs_rule_laws.specs.declared.config.CancelMode.{CancelMode}
use Rattle.cqs_rule_laws.specs.declared.config.CancelMode.TheVariants.{Smart, Simple}
use Rattle.cqs_rule.specs.declared.queue.tokens.Under.{Under}
use Rattle.cqs_rule_laws.specs.declared.view.View.{View}
use Rattle.cqs_rule.specs.Claims.{WantsSlot}
use Rattle.cqs_rule.specs.Owed.{HasUnder, under_payload, under_ticket, under_reached}
use Rattle.cqs_latch.specs.declared.answers.Owed.{Owed}
use Rattle.cqs_latch.specs.Causes.{primitive_of}
use Rattle.cqs_latch.specs.CountAnswers.{HasFinished}
use Rattle.cqs_latch.specs.Latch.{latch_object}
use Rattle.cqs_latch.specs.Owed.{owed_reached, owed_under}
use Rattle.cqs_latch.specs.Waking.{HasGrown, IsHandedFor, handed_back}

-- what is handed back without a ticket is so in smart mode
pub smart-where : {T : Type 0} (m : CancelMode) (under : Under) (v w : View LatchEntry T)
    → (m ≡ Simple → WantsSlot under v w) → under_ticket under ≡ None → m ≡ Smart
smart-where Smart under v w wants none = refl
smart-where Simple under v w wants none = let b = wants refl in let some = b.ticket in absurd (cc (none, some))

module _ {T : Type 0} where
  -- also since an earlier moment
  grown-since : (a b : ℕ) (handed : Option Under) (w : View LatchEntry T) → a ≤ b → HasGrown b handed w
      → HasGrown a handed w
  grown-since a b None w before grown = omega (arith, before, grown)
  grown-since a b (Some under) w before grown = λ none. let more = grown none in omega (arith, before, more)

  resumes-grown : (most : ℕ) (ticket : Option ℕ) (payload : ℕ) (v w : View LatchEntry T) (r : Resumed) → 1 < most
      → Resumes latch_object primitive_of most ticket payload v r w → HasGrown v.facts.reached (handed_back r) w
  resumes-grown most ticket payload v w (resumed.Served k) many e = e.reached
  resumes-grown most ticket payload v w (resumed.Left k) many (inl e) = e.reached
  resumes-grown most ticket payload v w (resumed.Left k) many (inr e) = e.reached
  resumes-grown most ticket payload v w (resumed.Refused k) many e = e.reached
  resumes-grown most ticket payload v w (resumed.Under under) many s = λ none. s.further many

  -- one that is handed back for want of a slot has a ticket
  held-grown : (most payload : ℕ) (v w : View LatchEntry T) (r : Resumed)
      → Held latch_object primitive_of most payload v r w → HasGrown v.facts.reached (handed_back r) w
  held-grown most payload v w r h =
      subst (λ z. HasGrown v.facts.reached (handed_back z) w) (sym h.is) (λ none. absurd (no-ticket none h.ticket_is))
    where
      no-ticket : {o : Option ℕ} {n : ℕ} → o ≡ None → o ≡ Some n → ⊥
      no-ticket none some = cc

  goes-grown : (most : ℕ) (ticket : Option ℕ) (payload : ℕ) (v w : View LatchEntry T) (r : Resumed) → 1 < most
      → GoesOn latch_object primitive_of most ticket payload v r w → HasGrown v.facts.reached (handed_back r) w
  goes-grown most ticket payload v w r many (inl e) = resumes-grown most ticket payload v w r many e
  goes-grown most ticket payload v w r many (inr h) = held-grown most payload v w r h

  -- the next one: its number comes after those that were drawn before
  pub begun-grown : (v w : View LatchEntry T) (r : Resumed) → BegunSo latch_object primitive_of 0 v r w
      → HasGrown v.facts.reached (handed_back r) w
  begun-grown v w r b =
      let number : b.from.facts.reached ≡ b.number = ap (λ f. f.reached) b.drew.facts_are in
      let after = b.after.reached in
      grown-since v.facts.reached b.from.facts.reached (handed_back r) w (omega (arith, number, after))
      (goes-grown most_after_first (Some b.number) 0 b.from w r (omega arith) b.goes)

  -- one that was handed back
  pub finished-grown : (under : Under) (v w : View LatchEntry T) (r : Resumed) → HasUnder v.facts under
      → GoesOn latch_object primitive_of most_passed_over (under_ticket under) (under_payload under) v r w
      → HasGrown (under_reached under) (handed_back r) w
  finished-grown under v w r has goes =
      subst (λ n. HasGrown n (handed_back r) w) (sym has.reached)
      (goes-grown most_passed_over (under_ticket under) (under_payload under) v w r (omega arith) goes)

  -- in an ample table what a finish hands back has no ticket
  pub grown-ample : (owed again : Owed) (v w : View LatchEntry T) → HasFinished owed v (Err again) w → IsAmple v
      → owed_reached owed < owed_reached again
  grown-ample owed again v w (ends, rule, (hands, grown, more)) ample = by hands.why
    where
      by : IsHandedFor (owed_under again) v w → owed_reached owed < owed_reached again
      by (inl (none, over)) = grown none
      by (inr wants) = absurd (wants.scarce ample)
