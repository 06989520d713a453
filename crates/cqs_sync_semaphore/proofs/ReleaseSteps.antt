-- A release of a synchronous semaphore is its steps: one is added to the state, and perhaps a resumption.
use Rattle.std.proofs.Common.{◌≡◌, ℕ, true, false, List, [], ◌∷◌, Option, None, refl, ap, ◌∙◌, subst}
use Rattle.cqs_core.specs.declared.entries.Entry.{Entry}
use Rattle.cqs_core.specs.declared.entries.Entry.TheVariants as entry
use Rattle.cqs_rule_laws.specs.declared.view.Facts.{Facts}
use Rattle.cqs_rule_laws.specs.declared.view.View.{View}
use Rattle.cqs_rule_laws.specs.CallRule.{IsReady}
use Rattle.cqs_rule_laws.specs.Lists.{Has}
use Rattle.cqs_rule_laws.proofs.Calls.{called-none}
use Rattle.cqs_rule_laws.proofs.Causes.{Onward}
use Rattle.cqs_rule_laws.proofs.Prefixes.{called-prefix, prefix-same}
use Rattle.cqs_rule_laws.proofs.Rules.{call-rule_own}
use Rattle.cqs_resume.specs.SyncResumes.{SyncGoesOn}
use Rattle.cqs_resume.specs.declared.sync_resumed.SyncResumed.{SyncResumed}
use Rattle.cqs_semaphore_client.specs.Semaphore.{semaphore_object}
use Rattle.cqs_semaphore_client.specs.SemaphoreMade.{primitive_of}
use Rattle.cqs_semaphore.specs.Answers.{most_passed_over, WasWanted}
use Rattle.cqs_semaphore.proofs.ReleaseSteps.{GaveBy, follows-give, freed, gave-called, gave-found}
use Rattle.cqs_semaphore.proofs.ResumeSteps.{follows-now}
use Rattle.cqs_semaphore.proofs.States.{count-below, state-later}
use Rattle.cqs_words.specs.State.{count_in}
use Rattle.cqs_sync_semaphore.specs.Answers.{Ends, Releases, Sends}
use Rattle.cqs_sync_semaphore.specs.Steps.{HasEnded, IsAnswered}
use Rattle.cqs_sync_semaphore.specs.declared.answers.SyncReleased.{SyncReleased}
use Rattle.cqs_sync_semaphore.specs.declared.answers.SyncReleased.TheVariants.{Freed, Sent, Void, Broke, Handling, Under}
use Rattle.cqs_sync_semaphore.proofs.ResumeSteps.{Before, ends, onward}

module _ {T : Type 0} where
  -- nobody waited for want of a permit
  pub freed-so : (v u : View Entry T) (n : ℕ) → IsReady v.facts → GaveBy false n v u → Has v.number v.own
      → semaphore_object.legal u.opening u.seen → Releases None v Freed u
  freed-so v u n ready g own legal = (
    call-rule_own semaphore_object v u (entry.GiveFreed v.number ∷ []) _ (gave-called false v u n g) (λ m. refl, tt) own
        legal,
    freed v u n ready g,
  )

  -- the permit was sent, and the call came to the resumption so
  before-send : (v u : View Entry T) (n : ℕ) → IsReady v.facts → GaveBy true n v u → Has v.number v.own
      → Before (entry.GiveSent v.number ∷ []) v u
  before-send v u n ready g own =
      let called = gave-called true v u n g in
      record {
        called = called;
        follows = follows-give true n v u g;
        onward = record {
          seen = called-prefix semaphore_object v u _ _ called;
          found = (_, ap (λ (f : Facts). f.found) g.saw.facts_are);
          opening = called.same.opening;
        };
        names = (λ m. refl, tt);
        has = own;
        further = ap (λ (f : Facts). f.has.further) g.saw.facts_are ∙ ready.further;
      }

  -- or it began with one that was handed back
  before-finish : (v : View Entry T) → v.facts.has.further ≡ 0 → Has v.number v.own → Before [] v v
  before-finish v none own = record {
    called = called-none semaphore_object v;
    follows = follows-now v;
    onward = record {
      seen = prefix-same v.seen;
      found = prefix-same v.facts.found;
      opening = refl;
    };
    names = tt;
    has = own;
    further = none;
  }

  pub finishes : (v w : View Entry T) (ticket : Option ℕ) (payload : ℕ) (number : Option ℕ) (a : SyncReleased)
      → v.facts.has.further ≡ 0 → HasEnded ticket payload number v a w → Has v.number v.own
      → semaphore_object.legal w.opening w.seen → Ends [] v.facts.has.held v.facts.waits number v a w
  finishes v w ticket payload number a none e own legal =
      ends [] v v w (before-finish v none own) legal ticket payload number e.0 a e.1 e.2

  sends : (v u w : View Entry T) (n : ℕ) (number : Option ℕ) (r : SyncResumed) (a : SyncReleased) → IsReady v.facts
      → GaveBy true n v u → IsAnswered number r a
      → SyncGoesOn semaphore_object primitive_of most_passed_over None 0 u r w → Has v.number v.own
      → semaphore_object.legal w.opening w.seen → Sends number v a w
  sends v u w n number r a ready g is goes own legal =
      let facts = g.saw.facts_are in
      subst (λ (z : ℕ × List ℕ). Ends (entry.GiveSent v.number ∷ []) z.0 z.1 number v a w)
      (λ i. (ap (λ (f : Facts). f.has.held) facts i, ap (λ (f : Facts). f.waits) facts i))
      (ends (entry.GiveSent v.number ∷ []) v u w (before-send v u n ready g own) legal None 0 number r a is goes)

  wanted : (v u w : View Entry T) (n : ℕ) → GaveBy true n v u → Onward u w → WasWanted v w
  wanted v u w n g on = record {
    count = count_in n;
    before = g.before;
    short = count-below n g.short;
    found = state-later v u w _ g.before _ (gave-found true v u n g) on.seen on.found on.opening;
  }

  pub releases : (v u w : View Entry T) (n : ℕ) (number : Option ℕ) (a : SyncReleased) → IsReady v.facts
      → GaveBy true n v u → HasEnded None 0 number u a w → Has v.number v.own
      → semaphore_object.legal w.opening w.seen → Releases number v a w
  releases v u w n number a ready g e own legal =
      by a (sends v u w n number e.0 a ready g e.1 e.2 own legal)
    where
      so : WasWanted v w
      so = wanted v u w n g (onward u w None 0 e.0 e.2)

      by : (a : SyncReleased) → Sends number v a w → Releases number v a w
      by Freed sent = absurd sent
      by (Sent k) sent = (so, sent)
      by (Void k) sent = (so, sent)
      by (Broke k permit) sent = (so, sent)
      by (Handling k under) sent = (so, sent)
      by (Under under) sent = (so, sent)
