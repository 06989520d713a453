-- A pass keeps its waits through the calls that don't close them.
use Rattle.std.proofs.Common.{◌≡◌, ℕ, List, [], ◌∷◌, None, Some, Result, Ok, Err, OnOk, OnErr, sym, ap, ◌∙◌, subst}
use Rattle.cqs_latch_object.specs.declared.entries.LatchEntry.{LatchEntry}
use Rattle.cqs_rule.specs.declared.queue.tokens.Wait.{Wait}
use Rattle.cqs_rule_laws.specs.declared.view.Facts.{Facts}
use Rattle.cqs_rule_laws.specs.declared.view.View.{View}
use Rattle.cqs_rule_laws.specs.Crew.{Met}
use Rattle.cqs_rule_laws.specs.Saw.{Saw}
use Rattle.cqs_rule_laws.specs.Views.{as_before}
use Rattle.cqs_rule_laws.specs.Lists.{Has, without}
use Rattle.cqs_rule_laws.specs.Placed.{GoesOn}
use Rattle.cqs_rule.specs.Waits.{place_of}
use Rattle.cqs_rule_laws.proofs.Lists.{has_left, without_has}
use Rattle.cqs_rule_laws.proofs.Places.{goes-same, goes-looked, goes-met}
use Rattle.cqs_rule.proofs.Places.{has-wait-on}
use Rattle.cqs_rule_laws.specs.declared.config.CancelMode.{CancelMode}
use Rattle.cqs_rule_laws.specs.declared.config.CancelMode.TheVariants.{Smart, Simple}
use Rattle.cqs_latch.specs.declared.answers.Down.{Down}
use Rattle.cqs_latch.specs.declared.answers.Down.TheVariants as down
use Rattle.cqs_latch.specs.declared.answers.LatchLeft.{LatchLeft}
use Rattle.cqs_latch.specs.declared.answers.LatchLeft.TheVariants as gone
use Rattle.cqs_latch.specs.declared.answers.Owed.{Owed}
use Rattle.cqs_rule_laws.specs.declared.config.AcquireError.{AcquireError}
use Rattle.cqs_rule_laws.specs.declared.config.AcquireError.TheVariants as error
use Rattle.cqs_latch.specs.declared.answers.LatchPolled.{LatchPolled}
use Rattle.cqs_latch.specs.declared.answers.LatchPolled.TheVariants as polled
use Rattle.cqs_latch.specs.declared.answers.LatchWait.{LatchWait}
use Rattle.cqs_latch.specs.declared.answers.LatchWait.TheVariants as waited
use Rattle.cqs_latch.specs.Answers.{HasWaited, IsPolled}
use Rattle.cqs_rule_laws.specs.CallRule.{IsReady}
use Rattle.cqs_latch.specs.Calls.{CallRule, KeepsWaits, KeepsOtherWaits}
use Rattle.cqs_latch.specs.Entries.{polled_entries}
use Rattle.cqs_latch.specs.CountAnswers.{HasCounted, HasFinished, IsReadyAfter}
use Rattle.cqs_latch.specs.Latch.{latch_object}
use Rattle.cqs_latch.specs.Owed.{HasOwed}
use Rattle.cqs_latch.specs.LeftAnswers.{HasLeft, IsReadyLeft}

module _ {T : Type 0} where
  pub keeps-all : (v w : View LatchEntry T) → GoesOn v w → w.facts.waits ≡ v.facts.waits → KeepsWaits v w
  keeps-all v w goes waits = λ wait has.
      has-wait-on v w wait goes (subst (Has (place_of wait).index) (sym waits) has.open_yet) has

  pub keeps-others : (k : ℕ) (v w : View LatchEntry T) → GoesOn v w
      → w.facts.waits ≡ without k v.facts.waits → KeepsOtherWaits k v w
  keeps-others k v w goes waits = λ wait other has.
      has-wait-on v w wait goes
      (subst (Has (place_of wait).index) (sym waits)
      (without_has (place_of wait).index k v.facts.waits other has.open_yet)) has

  -- the calls
  pub keeps-counted : (answer : Down) (v w : View LatchEntry T) → HasCounted v answer w → KeepsWaits v w
  keeps-counted down.Already v w (ends, rule, (none, used, rests)) =
      keeps-all v w (goes-same v w rule.called.same) rests.waits_are
  keeps-counted (down.Left left) v w (ends, rule, (none, some, was, rests)) =
      keeps-all v w (goes-same v w rule.called.same) rests.waits_are
  keeps-counted down.Last v w (ends, rule, (x, opens, woke, rests)) =
      keeps-all v w (goes-same v w rule.called.same) rests.waits_are
  keeps-counted (down.LastOwing owed) v w (ends, rule, (x, u, opens, woke, next, hands)) =
      keeps-all v w (goes-same v w rule.called.same) hands.waits_are

  pub ready-counted : (answer : Down) (v w : View LatchEntry T) → HasCounted v answer w → IsReadyAfter answer w.facts
  ready-counted down.Already v w (ends, rule, (none, used, rests)) = rests.ready
  ready-counted (down.Left left) v w (ends, rule, (none, some, was, rests)) = rests.ready
  ready-counted down.Last v w (ends, rule, (x, opens, woke, rests)) = rests.ready
  ready-counted (down.LastOwing owed) v w (ends, rule, (x, u, opens, woke, next, hands)) = hands.owes

  pub keeps-finished : (owed : Owed) (answer : Result (Unit {0}) Owed) (v w : View LatchEntry T)
      → HasFinished owed v answer w → KeepsWaits v w
  keeps-finished owed (Ok done) v w (ends, rule, (e, rest, u, is, all, on, woke, rests)) =
      keeps-all v w (goes-same v w rule.called.same) rests.waits_are
  keeps-finished owed (Err again) v w (ends, rule, (hands, grown, more)) =
      keeps-all v w (goes-same v w rule.called.same) hands.waits_are

  pub ready-finished : (owed : Owed) (v w : View LatchEntry T) → HasFinished owed v (Ok tt) w → IsReady w.facts
  ready-finished owed v w (ends, rule, (e, rest, u, is, all, on, woke, rests)) = rests.ready

  pub owes-finished : (owed again : Owed) (v w : View LatchEntry T) → HasFinished owed v (Err again) w
      → HasOwed w.facts again
  owes-finished owed again v w (ends, rule, (hands, grown, more)) = hands.owes

  pub keeps-left : (mode : CancelMode) (k : ℕ) (answer : LatchLeft) (v w : View LatchEntry T)
      → HasLeft mode k v answer w → KeepsOtherWaits k v w
  keeps-left mode k gone.TooLate v w (ends, rule, (none, cell, rests)) =
      keeps-others k v w (goes-same v w rule.called.same) rests.waits_are
  keeps-left Smart k gone.Gone v w (ends, rule, (once, went, rests)) =
      keeps-others k v w (goes-same v w rule.called.same) rests.waits_are
  keeps-left Simple k gone.Gone v w (ends, rule, (none, cell, rests)) =
      keeps-others k v w (goes-same v w rule.called.same) rests.waits_are
  keeps-left Smart k (gone.GoneOwing owed) v w (ends, rule, (none, once, asked, left, over, owes, one, waits)) =
      keeps-others k v w (goes-same v w rule.called.same) waits
  keeps-left Simple k (gone.GoneOwing owed) v w (ends, rule, never) = absurd never

  pub ready-left : (mode : CancelMode) (k : ℕ) (answer : LatchLeft) (v w : View LatchEntry T)
      → HasLeft mode k v answer w → IsReadyLeft answer w.facts
  ready-left mode k gone.TooLate v w (ends, rule, (none, cell, rests)) = rests.ready
  ready-left Smart k gone.Gone v w (ends, rule, (once, went, rests)) = rests.ready
  ready-left Simple k gone.Gone v w (ends, rule, (none, cell, rests)) = rests.ready
  ready-left Smart k (gone.GoneOwing owed) v w (ends, rule, (none, once, asked, left, over, owes, one, waits)) = owes
  ready-left Simple k (gone.GoneOwing owed) v w (ends, rule, never) = absurd never

  pub keeps-waited : (answer : Result LatchWait AcquireError) (v w : View LatchEntry T) → HasWaited v answer w
      → KeepsWaits v w
  keeps-waited (Ok waited.Passed) v w (None, rule, why) = keeps-all v w (goes-same v w rule.called.same) why.1.waits_are
  keeps-waited (Ok waited.Passed) v w (Some k, rule, why) = keeps-all v w
      (goes-same v w rule.called.same) why.3.waits_are
  keeps-waited (Ok (waited.Later wait)) v w (drew, rule, why) = λ old has.
      has-wait-on v w old (goes-same v w rule.called.same)
      (subst (Has (place_of old).index) (sym why.4.waits_are)
      (has_left (place_of old).index v.facts.waits ((place_of wait).index ∷ []) has.open_yet)) has
  keeps-waited (Err error.Worn) v w (drew, rule, why) = keeps-all v w (goes-same v w rule.called.same) why.2.waits_are
  keeps-waited (Err error.Crowded) v w (drew, rule, why) =
      keeps-all v w (goes-same v w rule.called.same) why.2.waits_are

  pub keeps-polled : (wait : Wait) (answer : LatchPolled) (v w : View LatchEntry T)
      → CallRule v (polled_entries v.number (place_of wait).index answer) [] w → IsPolled wait v answer w
      → KeepsOtherWaits (place_of wait).index v w
  keeps-polled wait polled.Through v w rule (cell, rests) =
      keeps-others (place_of wait).index v w (goes-same v w rule.called.same) rests.waits_are
  keeps-polled wait (polled.Pending again) v w rule (same, has, cell, rests) =
      λ old other had. keeps-all v w (goes-same v w rule.called.same) rests.waits_are old had

  -- the crew
  pub keeps-looked : (v w : View LatchEntry T) → Saw latch_object v v.facts [] (as_before v w) → KeepsWaits v w
  keeps-looked v w s =
      keeps-all v w (goes-looked latch_object v w v.facts [] s) (ap (λ (f : Facts). f.waits) s.facts_are)

  pub keeps-met : {A B P : Type 0} (answer : Result A B) (v w : View LatchEntry T) (facts : Facts)
      (seen : List LatchEntry) (handed : List (ℕ × T)) (own : List ℕ) → (P → w ≡ v) → OnErr answer P
      → OnOk answer (Met latch_object v facts seen handed own w) → facts.waits ≡ v.facts.waits → KeepsWaits v w
  keeps-met (Ok done) v w facts seen handed own same refused met waits =
      keeps-all v w (goes-met latch_object v w facts seen handed own met)
      (ap (λ (f : Facts). f.waits) met.facts_are ∙ waits)
  keeps-met (Err back) v w facts seen handed own same refused met waits =
      subst (KeepsWaits v) (sym (same refused)) (λ wait has. has)
