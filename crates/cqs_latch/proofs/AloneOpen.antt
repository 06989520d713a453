-- A pass that is alone, and an open latch: where the pass owes nothing, nothing is on its way and nobody waits; and a
-- pass that owes something owes it of an open latch.
use Rattle.std.proofs.Common.{◌≡◌, ◌≢◌, ℕ, suc, ◌<◌, Bool, true, false, List, [], ◌∷◌, ◌++◌, length, sum, slice_get, Option, Some, None, Result, Ok, Err, sym, refl, ap, ◌∙◌, zero-add, arith}
use Rattle.std.specs.List.{fold}
use Rattle.std.proofs.lemmas.List.Sums.{fold-append, sum_by-cons}
use Rattle.std.proofs.lemmas.Option.{same_Some}
use mathlib.Core.Logic.{dite}
use native.Mathlib.Decide.{ℕ_discrete}
use Rattle.cqs_core.specs.declared.doings.Doing.{Doing}
use Rattle.cqs_core.specs.declared.doings.Doing.TheVariants as doing
use Rattle.cqs_core.specs.QueueLine.{ending, going, is_resuming, line}
use Rattle.cqs_core.specs.QueueState.{Queue}
use Rattle.cqs_core.specs.Resting.{IsIdle}
use Rattle.cqs_core.proofs.Counts.{count_by-at}
use Rattle.cqs_core.proofs.Places.{get-below}
use Rattle.cqs_core.proofs.Quiet.{behind, count_at-some, none-going}
use Rattle.cqs_latch_object.specs.declared.entries.LatchEntry.{LatchEntry}
use Rattle.cqs_latch_object.specs.declared.entries.LatchEntry.TheVariants as entry
use Rattle.cqs_latch_object.specs.LatchEntries.{object_after, after_entry}
use Rattle.cqs_latch_object.specs.LatchObject.{Latch, opening}
use Rattle.cqs_latch_object.specs.LatchShown.{IsLatch, IsOpened, as_read, read_as, shown_latch}
use Rattle.cqs_rule_laws.specs.declared.view.Has.{Has}
use Rattle.cqs_rule_laws.specs.declared.view.Opening.{Opening}
use Rattle.cqs_rule_laws.specs.declared.view.View.{View}
use Rattle.cqs_rule_laws.specs.Alone.{IsAlone, TellsAlone}
use Rattle.cqs_rule.specs.Owed.{HasUnder, owes_at}
use Rattle.cqs_rule.specs.declared.queue.tokens.Under.{Under}
use Rattle.cqs_latch.specs.declared.answers.Down.{Down}
use Rattle.cqs_latch.specs.declared.answers.Down.TheVariants as down
use Rattle.cqs_latch.specs.declared.answers.Owed.{Owed}
use Rattle.cqs_latch.specs.Alone.{plain_after, HasServedAll, IsPlainFinish, IsPlainOpening}
use Rattle.cqs_rule_laws.specs.CallRule.{IsReady}
use Rattle.cqs_latch.specs.Calls.{CallRuleEnding}
use Rattle.cqs_latch.specs.Causes.{primitive_of}
use Rattle.cqs_latch.specs.CountAnswers.{HasCounted, HasFinished}
use Rattle.cqs_latch.specs.Latch.{further_of, is_simple, latch_shown}
use Rattle.cqs_latch.specs.LatchMade.{count_of, mode_of}
use Rattle.cqs_latch.specs.Owed.{HasOwed, owed_under}
use Rattle.cqs_latch.specs.Waking.{Ending, served_at, left_at, refused_at, missed_at, woken_entries}

pub no-more : {A : Type 0} (l : List A) → length l ≡ 0 → l ≡ []
no-more [] none = refl
no-more (x ∷ l) none = absurd (omega arith)

sum-none : (l : List Has) → ((p : ℕ) (h : Has) → slice_get l p ≡ Some h → h.further ≡ 0) → sum (further_of l) ≡ 0
sum-none [] none = refl
sum-none (h ∷ l) none =
    let first : h.further ≡ 0 = none 0 h refl in
    let rest : sum (further_of l) ≡ 0 = sum-none l (λ p z there. none (suc p) z there) in
    let more = sum_by-cons (λ (n : ℕ). n) h.further (further_of l) in
    omega (arith, first, rest, more)

as-many : (l : List Has) → length (further_of l) ≡ length l
as-many [] = refl
as-many (h ∷ l) = ap suc (as-many l)

same-doing : (b : Bool) (q : Queue) → (read_as b q).doing ≡ q.doing
same-doing true q = refl
same-doing false q = refl

is-resuming : (ticket : Option ℕ) → is_resuming (owes_at ticket) ≡ true
is-resuming None = refl
is-resuming (Some k) = refl

-- an open latch stays open while its resumptions go on
woken-open : (ends : List Ending) (o : Latch) → o.opened ≡ true
    → (fold after_entry o (woken_entries ends)).opened ≡ true
woken-open [] o is_open = is_open
woken-open (served_at k ∷ ends) o is_open = woken-open ends _ is_open
woken-open (left_at k ∷ ends) o is_open = woken-open ends o is_open
woken-open (refused_at k ∷ ends) o is_open = woken-open ends o is_open
woken-open (missed_at k ∷ ends) o is_open = woken-open ends _ is_open

-- an object of this opening
abbrev pub object_of : Opening → List LatchEntry → Latch
object_of o history = object_after (is_simple o.mode) o.size history

module _ {T : Type 0} where
  -- what the pass has seen, as the plain latch, and as the queue of a pass that is alone shows it
  pub shows-plain_after : (v : View LatchEntry T) (a : IsAlone primitive_of v)
      → plain_after v
      ≡ shown_latch (as_read (latch_shown (mode_of a.client) (count_of a.client) a.hidden a.words v.seen))
  shows-plain_after v a = sym (ap (λ o. object_of o v.seen) a.opening_is) ∙ a.shown.core.object

  -- every pass is idle
  pub all-idle : (v : View LatchEntry T) (a : IsAlone primitive_of v) → v.facts.doing ≡ doing.Idle
      → IsIdle (read_as (is_simple (mode_of a.client)) a.hidden.queue).doing
  all-idle v a idle = record { at = λ p d there. idle-at p d (read p d there) }
    where
      read : (p : ℕ) (d : Doing) → slice_get (read_as (is_simple (mode_of a.client)) a.hidden.queue).doing p ≡ Some d
          → slice_get a.hidden.queue.doing p ≡ Some d
      read p d there =
          ap (λ l. slice_get l p) (sym (same-doing (is_simple (mode_of a.client)) a.hidden.queue)) ∙ there

      idle-at : (p : ℕ) (d : Doing) → slice_get a.hidden.queue.doing p ≡ Some d → d ≡ doing.Idle
      idle-at p d there = dite (ℕ_discrete p v.number)
          (λ (e : p ≡ v.number). same_Some d doing.Idle
          (sym there ∙ (ap (slice_get a.hidden.queue.doing) e ∙ (a.stands.doing ∙ ap Some idle))))
          (λ (other : p ≢ v.number).
          let below = get-below a.hidden.queue.doing p d there in
          let long = a.places in
          let r = a.others p other (omega arith) in
          same_Some d doing.Idle (sym there ∙ (r.stands.doing ∙ ap Some r.idle)))

  -- nobody waits, and no resumption is to end at a cell that was left
  pub none-due : (v : View LatchEntry T) → (a : IsAlone primitive_of v) → IsReady v.facts
      → (plain_after v).opened ≡ true
      → ((plain_after v).waiters.line ≡ [])
      × (ending (read_as (is_simple (mode_of a.client)) a.hidden.queue) ≡ 0)
  none-due v a ready is_open =
      let s = as_read (latch_shown (mode_of a.client) (count_of a.client) a.hidden a.words v.seen) in
      let core : IsLatch s = a.shown.core in
      let shows = shows-plain_after v a in
      let opens : IsOpened s = core.opened (sym (ap (λ o. o.opened) shows) ∙ is_open) in
      let rests : IsIdle s.queue.doing = all-idle v a ready.idle in
      let ways = opens.ways in
      let within = behind s.queue core.sound rests (sum s.owed) ways in
      let still : going s.queue ≡ 0 = none-going s.queue core.sound rests within in
      let owed : sum s.owed ≡ 0 = sum-none a.hidden.has owes-none in (
        ap (λ o. o.waiters.line) shows ∙ no-more (line s.queue) (omega (arith, ways, still, owed)),
        omega (arith, ways, still, owed),
      )
    where
      has-below : (p : ℕ) → p < length a.hidden.has → p < v.passes
      has-below p below =
          let owners = a.shown.core.owners in
          let long = a.places in
          let many = as-many a.hidden.has in
          let same = ap (λ l. length l) (same-doing (is_simple (mode_of a.client)) a.hidden.queue) in
          omega (arith, below, owners, long, many, same)

      owes-none : (p : ℕ) (h : Has) → slice_get a.hidden.has p ≡ Some h → h.further ≡ 0
      owes-none p h there = dite (ℕ_discrete p v.number)
          (λ (e : p ≡ v.number).
          let own : h ≡ v.facts.has = same_Some h v.facts.has
          (sym there ∙ (ap (slice_get a.hidden.has) e ∙ a.stands.has)) in
          ap (λ z. z.further) own ∙ ready.further)
          (λ (other : p ≢ v.number).
          let below = get-below a.hidden.has p h there in
          let r = a.others p other (has-below p below) in
          ap (λ z. z.further) (same_Some h r.facts.has (sym there ∙ r.stands.has)) ∙ r.owes_none)

  nobody-waits : (v : View LatchEntry T) → IsAlone primitive_of v → IsReady v.facts → (plain_after v).opened ≡ true
      → (plain_after v).waiters.line ≡ []
  nobody-waits v a ready is_open = (none-due v a ready is_open).0

  -- a pass that owes a resumption owes it of an open latch
  pub owing-opened : (v : View LatchEntry T) → IsAlone primitive_of v → (under : Under) → HasUnder v.facts under
      → (plain_after v).opened ≡ true
  owing-opened v a under has =
      let b = is_simple (mode_of a.client) in
      let s = as_read (latch_shown (mode_of a.client) (count_of a.client) a.hidden a.words v.seen) in
      let core : IsLatch s = a.shown.core in
      let there : slice_get s.queue.doing v.number ≡ Some v.facts.doing =
      ap (λ l. slice_get l v.number) (same-doing b a.hidden.queue) ∙ a.stands.doing in
      let resumes : is_resuming v.facts.doing ≡ true = ap is_resuming has.owes.doing ∙ is-resuming under.ticket in
      let some = count_at-some (λ n. is_resuming) 0 s.queue.doing v.number v.number v.facts.doing
      (sym (zero-add v.number)) there resumes in
      let counted = count_by-at is_resuming s.queue.doing in
      ap (λ o. o.opened) (shows-plain_after v a)
      ∙ is_open s.done (λ shut. let none = (core.shut shut).none in absurd (omega (arith, none, some, counted)))
    where
      is_open : (b : Bool) → (b ≡ false → ⊥) → b ≡ true
      is_open true never = refl
      is_open false never = absurd (never refl)

  -- what a call of a pass that is alone leaves
  pub after-all : (v w : View LatchEntry T) (own further last : List LatchEntry) → CallRuleEnding v own further last w
      → v.alone ≡ true → plain_after w ≡ fold after_entry (plain_after v) (own ++ further)
  after-all v w own further last rule alone =
      let seen : w.seen ≡ v.seen ++ (own ++ further) =
      rule.called.seen ∙ ap (λ l. v.seen ++ l) (rule.called.sole alone) in
      (λ i. object_of (rule.called.same.opening i) (seen i))
      ∙ fold-append after_entry (opening (is_simple v.opening.mode) v.opening.size) v.seen (own ++ further)

  -- The end of a resumption, and of those after it.
  stays-open : (v w : View LatchEntry T) (under : Under) (ends : List Ending) → IsAlone primitive_of v
      → HasUnder v.facts under → CallRuleEnding v [] (woken_entries ends) [] w → v.alone ≡ true
      → (plain_after w).opened ≡ true
  stays-open v w under ends a has rule alone =
      ap (λ o. o.opened) (after-all v w [] (woken_entries ends) [] rule alone)
      ∙ woken-open ends (plain_after v) (owing-opened v a under has)

  -- the count down that opens the latch
  is-open : (v w : View LatchEntry T) (ends : List Ending)
      → CallRuleEnding v (entry.DownLast v.number ∷ entry.Open v.number ∷ []) (woken_entries ends) [] w
      → v.alone ≡ true → (plain_after w).opened ≡ true
  is-open v w ends rule alone =
      ap (λ o. o.opened)
      (after-all v w (entry.DownLast v.number ∷ entry.Open v.number ∷ []) (woken_entries ends) [] rule alone)
      ∙ woken-open ends (fold after_entry (plain_after v) (entry.DownLast v.number ∷ entry.Open v.number ∷ [])) refl

  served-all : (v : View LatchEntry T) → IsAlone primitive_of v → IsReady v.facts → (plain_after v).opened ≡ true
      → HasServedAll v
  served-all v a ready is_open = (is_open, nobody-waits v a ready is_open)

  pub plain-finished : (owed : Owed) (answer : Result (Unit {0}) Owed) (v w : View LatchEntry T)
      → HasFinished owed v answer w → HasOwed v.facts owed → TellsAlone primitive_of v → v.weight ≡ 1
      → TellsAlone primitive_of w → w.weight ≡ 1 → v.alone ≡ true → IsPlainFinish answer w
  plain-finished owed (Ok done) v w (ends, rule, (e, rest, u, is, all, on, woke, rests)) has tells one tells' one'
      alone =
      let now = rule.called.same.alone ∙ alone in
      served-all w (tells' one' now) rests.ready
      (stays-open v w (owed_under owed) ends (tells one alone) has.under rule alone)
  plain-finished owed (Err again) v w (ends, rule, (hands, grown, more)) has tells one tells' one' alone =
      stays-open v w (owed_under owed) ends (tells one alone) has.under rule alone

  pub plain-opened : (answer : Down) (v w : View LatchEntry T) → HasCounted v answer w → TellsAlone primitive_of w
      → w.weight ≡ 1 → v.alone ≡ true → IsPlainOpening answer w
  plain-opened down.Already v w counted tells one alone = tt
  plain-opened (down.Left left) v w counted tells one alone = tt
  plain-opened down.Last v w (ends, rule, (x, opens, woke, rests)) tells one alone =
      served-all w (tells one (rule.called.same.alone ∙ alone)) rests.ready (is-open v w ends rule alone)
  plain-opened (down.LastOwing owed) v w (ends, rule, why) tells one alone = is-open v w ends rule alone
