-- How a cancel leaves the pass of a shared semaphore, and a call in which it has no entry of its own.
use Rattle.std.proofs.Common.{◌≡◌, ℕ, List, [], Option, Some, None, sym, subst, rules}
use Rattle.cqs_core.specs.declared.entries.Entry.{Entry}
use Rattle.cqs_rule.specs.declared.queue.tokens.Under as token
use Rattle.cqs_rule_laws.specs.declared.view.View.{View}
use Rattle.cqs_rule_laws.specs.Lists.{without}
use Rattle.cqs_rule.specs.Owed.{HasUnder}
use Rattle.cqs_semaphore_client.specs.Semaphore.{semaphore_object}
use Rattle.cqs_semaphore.specs.declared.answers.Released.{Released}
use Rattle.cqs_semaphore.specs.declared.answers.Released.TheVariants.{Freed, Sent, Left, Void, Under}
use Rattle.cqs_semaphore.specs.Answers.{PassesOn}
use Rattle.cqs_semaphore.specs.Calls.{CallRule, Rests}
use Rattle.cqs_floor_shared_kinds.specs.Runs.{Went}
use Rattle.cqs_floor_shared_kinds.proofs.Runs.{went-silent}

-- how a cancel leaves the pass: nothing is owed, or the resumption of this token
pub left-done : (k : ℕ) (v w : View Entry (Unit {0})) (passed : Option Released) → PassesOn k v None passed w
    → Rests v v.facts.has.held (without k v.facts.waits) w
left-done k v w None p = p.1
left-done k v w (Some Freed) p = absurd p.2
left-done k v w (Some (Sent n)) p = p.2.1
left-done k v w (Some (Left n)) p = p.2.1
left-done k v w (Some (Void n)) p = p.2.1
left-done k v w (Some (Under under)) p = let same = p.0 in absurd (cc)

pub record IsLeftOwing (k : ℕ) (v : View Entry (Unit {0})) (under : token.Under) (w : View Entry (Unit {0}))
    : Type 0 where
  pub owes : HasUnder w.facts under
  pub further : w.facts.has.further ≡ 0
  pub held_is : w.facts.has.held ≡ v.facts.has.held
  pub waits_are : w.facts.waits ≡ without k v.facts.waits

pub left-owing : (k : ℕ) (v w : View Entry (Unit {0})) (under : token.Under) (passed : Option Released)
    → PassesOn k v (Some under) passed w → IsLeftOwing k v under w
left-owing k v w under None p = let same = p.0 in absurd (cc)
left-owing k v w under (Some Freed) p = absurd p.2
left-owing k v w under (Some (Sent n)) p = let same = p.0 in absurd (cc)
left-owing k v w under (Some (Left n)) p = let same = p.0 in absurd (cc)
left-owing k v w under (Some (Void n)) p = let same = p.0 in absurd (cc)
left-owing k v w under (Some (Under other)) p =
    let same : under ≡ other = search (rules, p.0) in
    record {
      owes = subst (HasUnder w.facts) (sym same) p.2.owes;
      further = p.2.further;
      held_is = p.2.held_is;
      waits_are = p.2.waits_are;
    }

-- a call in which the pass has no entry of its own
pub silent : (v w : View Entry (Unit {0})) (further : List Entry) → CallRule v [] further w
    → Went semaphore_object v [] w
silent v w further rule = went-silent semaphore_object v w further rule.called rule.legal rule.mine rule.nobody
