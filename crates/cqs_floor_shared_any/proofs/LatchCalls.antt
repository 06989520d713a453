-- What a pass of a shared latch has seen and rests with after a call.
use Rattle.std.proofs.Common.{◌≡◌, inr, ℕ, ◌+◌, List, [], ◌∷◌, ◌++◌, drop, Result, Ok, Err, ap, ◌∙◌}
use Rattle.std.proofs.lemmas.List.Elements.{filter-append}
use Rattle.cqs_core.specs.Parts.{Has, part}
use Rattle.cqs_latch_object.specs.declared.entries.LatchEntry.{LatchEntry}
use Rattle.cqs_latch_object.specs.LatchNames.{entry_names}
use Rattle.cqs_latch.specs.declared.answers.LatchLeft.TheVariants as left
use Rattle.cqs_latch.specs.declared.answers.Owed.{Owed}
use Rattle.cqs_latch.specs.Calls.{CallRuleEnding, Rests}
use Rattle.cqs_latch.specs.CountAnswers.{HasFinished}
use Rattle.cqs_latch.specs.Latch.{latch_object}
use Rattle.cqs_latch.specs.LeftAnswers.{HasLeft}
use Rattle.cqs_latch.specs.Waking.{woken_entries}
use Rattle.cqs_rule_laws.specs.declared.config.CancelMode.{CancelMode}
use Rattle.cqs_rule_laws.specs.declared.config.CancelMode.TheVariants.{Simple, Smart}
use Rattle.cqs_rule_laws.specs.declared.view.View.{View}
use Rattle.cqs_rule_laws.specs.Lists.{IsDistinct, without}
use Rattle.cqs_floor_shared_kinds.specs.Runs.{Went}
use Rattle.cqs_floor_shared_kinds.proofs.Runs.{first-once, has-other, stays-call}

-- what isn't the first of a list is in it
in-own : (n : ℕ) (own : List ℕ) → Has n (drop 1 own) → Has n own
in-own n [] has = absurd has
in-own n (m ∷ own) has = inr has

module _ {T : Type 0} where
  -- A call: its own entries name its caller alone, and the further ones nobody.
  pub went-ending : (v w : View LatchEntry T) (own further last : List LatchEntry) → v.own ≡ v.number ∷ drop 1 v.own
      → IsDistinct v.own → CallRuleEnding v own further last w → Went latch_object v own w
  went-ending v w own further last first distinct rule = record {
    more = rule.called.more;
    seen = rule.called.seen;
    mine = rule.mine;
    others = λ n has.
        rule.called.mine n (has-other n v.own v.number first has)
        ∙ filter-append (entry_names n) own further
        ∙ ap (λ es. es ++ part entry_names n further) (rule.only n (first-once n v.own v.number first distinct has))
        ∙ rule.nobody n;
    legal = rule.legal;
    same = stays-call v w rule.called.same;
  }

  -- the end of what was owed has no entry of its own
  pub went-on : (v w : View LatchEntry T) (further last : List LatchEntry) → CallRuleEnding v [] further last w
      → Went latch_object v [] w
  went-on v w further last rule = record {
    more = rule.called.more;
    seen = rule.called.seen;
    mine = rule.mine;
    others = λ n has. rule.called.mine n (in-own n v.own has) ∙ rule.nobody n;
    legal = rule.legal;
    same = stays-call v w rule.called.same;
  }

  pub finished-on : (owed : Owed) (v w : View LatchEntry T) (answer : Result (Unit {0}) Owed)
      → HasFinished owed v answer w → Went latch_object v [] w
  finished-on owed v w answer told = went-on v w (woken_entries told.0) [] told.1

  pub finished-rests : (owed : Owed) (v w : View LatchEntry T) → HasFinished owed v (Ok tt) w
      → Rests v.facts.waits w
  finished-rests owed v w told = told.2.7

  pub finished-waits : (owed again : Owed) (v w : View LatchEntry T) → HasFinished owed v (Err again) w
      → w.facts.waits ≡ v.facts.waits
  finished-waits owed again v w told = told.2.0.waits_are

  -- what the pass rests with after a cancel
  pub gone-rests : (mode : CancelMode) (k : ℕ) (v w : View LatchEntry T) (told : HasLeft mode k v left.Gone w)
      → Rests (without k v.facts.waits) w
  gone-rests Smart k v w told = told.2.2
  gone-rests Simple k v w told = told.2.2

  pub owing-waits : (mode : CancelMode) (k : ℕ) (owed : Owed) (v w : View LatchEntry T)
      (told : HasLeft mode k v (left.GoneOwing owed) w) → w.facts.waits ≡ without k v.facts.waits
  owing-waits Smart k owed v w told = told.2.7
  owing-waits Simple k owed v w told = absurd told.2
