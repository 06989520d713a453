-- What a pass that is alone is after a call.
use Rattle.std.proofs.Common.{◌≡◌, ℕ, ◌+◌, ◌-◌, nat_lt, Bool, true, false, List, [], ◌∷◌, ◌++◌, Ok, refl, ap, sym, ◌∙◌, subst, arith}
use Rattle.std.specs.List.{fold}
use Rattle.std.proofs.lemmas.List.{append_assoc}
use Rattle.std.proofs.lemmas.List.Sums.{fold-append}
use Rattle.cqs_core.specs.declared.entries.Entry.{Entry}
use Rattle.cqs_core.specs.declared.entries.Entry.TheVariants as entry
use Rattle.cqs_core.specs.Keyed as keyed
use Rattle.cqs_core.specs.QueueLine.{Waiting}
use Rattle.cqs_core.specs.SemaphoreEntries.{IsFirst, after_entry, after_leave, object_after}
use Rattle.cqs_core.specs.SemaphoreObject.{Semaphore, due, opening}
use Rattle.cqs_rule.specs.declared.queue.tokens.Under.{Under as Token}
use Rattle.cqs_rule.specs.declared.queue.tokens.Wait.{Wait}
use Rattle.cqs_rule_laws.specs.declared.view.Opening.{Opening}
use Rattle.cqs_rule_laws.specs.declared.view.View.{View}
use Rattle.cqs_rule_laws.specs.Lists.{without}
use Rattle.cqs_rule_laws.specs.Views.{IsSame}
use Rattle.cqs_rule.specs.Waits.{place_of}
use Rattle.cqs_rule_laws.proofs.Calls.{same-then}
use Rattle.cqs_semaphore.specs.declared.answers.Acquired.TheVariants.{Now, Later}
use Rattle.cqs_semaphore.specs.declared.answers.CancelAnswer.TheVariants.{TooLate}
use Rattle.cqs_semaphore.specs.declared.answers.Permit.{Permit}
use Rattle.cqs_semaphore.specs.declared.answers.Polled.TheVariants.{Granted, Pending}
use Rattle.cqs_semaphore.specs.declared.answers.Released.TheVariants.{Freed, Sent, Under}
use Rattle.cqs_semaphore.specs.Alone.{IsFirstOf, IsPlainAcquire}
use Rattle.cqs_semaphore.specs.Answers.{Acquires, IsPolled, Releases, Takes, WasFree}
use Rattle.cqs_semaphore.specs.Calls.{CallRule, Rests, plain_after}
use Rattle.cqs_semaphore.specs.Entries.{acquired_entries, acquired_further, came_by, passed_further, polled_entries, released_entries, released_further, took_entries}
use Rattle.cqs_semaphore.specs.Steps.{HasCancelled}

-- the line without a wait
abbrev pub line_left : Semaphore → ℕ → Semaphore
line_left o k = record o { line = keyed.without (λ (w : Waiting). w.wait) k o.line }

-- no permit is on its way where a wait has left, if none was before; and numbers go on as they did
pub left-way : (o : Semaphore) (k : ℕ) → o.way ≡ 0 → (after_leave o k).way ≡ 0
left-way o k none = turn (nat_lt (due (line_left o k)) (line_left o k).way) refl
  where
    turn : (b : Bool) → nat_lt (due (line_left o k)) (line_left o k).way ≡ b → (after_leave o k).way ≡ 0
    turn true is = rw is (omega (arith, none))
    turn false is = rw is none

pub left-next : (o : Semaphore) (k : ℕ) → (after_leave o k).next ≡ o.next
left-next o k = turn (nat_lt (due (line_left o k)) (line_left o k).way) refl
  where
    turn : (b : Bool) → nat_lt (due (line_left o k)) (line_left o k).way ≡ b → (after_leave o k).next ≡ o.next
    turn true is = rw is refl
    turn false is = rw is refl

module _ {T : Type 0} where
  -- A pass went from v to w: it has seen these entries more, and rests with so much held and these waits.
  pub record Comes (v w : View Entry T) (entries : List Entry) (held : ℕ) (waits : List ℕ) : Type 0 where
    pub same : IsSame v w
    pub seen : w.seen ≡ v.seen ++ entries
    pub rests : Rests v held waits w

  -- what a pass that is alone has seen after a call
  pub went : (v w : View Entry T) (own further : List Entry) → CallRule v own further w → v.alone ≡ true
      → w.seen ≡ v.seen ++ (own ++ further)
  went v w own further rule alone =
      rule.called.seen ∙ ap (λ es. v.seen ++ es) (rule.called.sole alone)

  pub plain-next : (v w : View Entry T) (entries : List Entry) → IsSame v w → w.seen ≡ v.seen ++ entries
      → plain_after w ≡ fold after_entry (plain_after v) entries
  plain-next v w entries same seen =
      ap (λ (o : Opening). object_after o.size w.seen) same.opening
      ∙ ap (object_after v.opening.size) seen
      ∙ fold-append after_entry (opening v.opening.size) v.seen entries

module _ {T : Type 0} (v w : View Entry T) where
  -- An acquire.
  pub takes-comes : (permit : Permit)
      → CallRule v (acquired_entries v.number (Ok (Now permit))) (acquired_further (Ok (Now permit))) w
      → Acquires v (Now permit) w → (v.alone ≡ true → IsPlainAcquire v (Now permit))
      → v.alone ≡ true → v.number ≡ 0 → Comes v w (entry.TakeNow 0 ∷ []) (v.facts.has.held + 1) v.facts.waits
  takes-comes permit rule got plain alone zero =
      let is = plain alone in
      let was : WasFree v w = subst (λ n. Takes v n w) is.0 got in
      record {
        same = rule.called.same;
        seen = went v w _ _ rule alone
            ∙ ap (λ n. v.seen ++ (took_entries v.number n ++ came_by n)) is.0
            ∙ ap (λ p. v.seen ++ entry.TakeNow p ∷ []) zero;
        rests = was.rests;
      }

  pub waits-comes : (wait : Wait)
      → CallRule v (acquired_entries v.number (Ok (Later wait))) (acquired_further (Ok (Later wait))) w
      → Acquires v (Later wait) w
      → v.alone ≡ true → v.number ≡ 0
      → Comes v w (entry.TakeDoor 0 ∷ entry.Enter 0 (place_of wait).index ∷ []) v.facts.has.held
      (v.facts.waits ++ (place_of wait).index ∷ [])
  waits-comes wait rule (none, cell, token, rests) alone zero = record {
    same = rule.called.same;
    seen = went v w _ _ rule alone
        ∙ ap (λ p. v.seen ++ (entry.TakeDoor p ∷ entry.Enter p (place_of wait).index ∷ [])) zero;
    rests = rests;
  }

  -- A release.
  pub frees-comes : CallRule v (released_entries v.number (Ok Freed)) (released_further (Ok Freed)) w
      → Releases v Freed w
      → v.alone ≡ true → v.number ≡ 0 → Comes v w (entry.GiveFreed 0 ∷ []) (v.facts.has.held - 1) v.facts.waits
  frees-comes rule gave alone zero = record {
    same = rule.called.same;
    seen = went v w _ _ rule alone ∙ ap (λ p. v.seen ++ entry.GiveFreed p ∷ []) zero;
    rests = gave.rests;
  }

  pub sent-comes : (k : ℕ)
      → CallRule v (released_entries v.number (Ok (Sent k))) (released_further (Ok (Sent k))) w
      → Releases v (Sent k) w → v.alone ≡ true → v.number ≡ 0
      → Comes v w (entry.GiveSent 0 ∷ entry.Deliver k ∷ []) (v.facts.has.held - 1) v.facts.waits
  sent-comes k rule (wanted, ended) alone zero = record {
    same = rule.called.same;
    seen = went v w _ _ rule alone ∙ ap (λ p. v.seen ++ (entry.GiveSent p ∷ entry.Deliver k ∷ [])) zero;
    rests = ended.1;
  }

  -- A look.
  pub grants-comes : (wait : Wait) (permit : Permit)
      → CallRule v (polled_entries v.number (place_of wait).index (Granted permit)) [] w
      → IsPolled wait v (Granted permit) w → v.alone ≡ true → v.number ≡ 0
      → Comes v w (entry.LookGranted 0 (place_of wait).index ∷ []) (v.facts.has.held + 1)
      (without (place_of wait).index v.facts.waits)
  grants-comes wait permit rule (by, cell, after) alone zero = record {
    same = rule.called.same;
    seen = went v w _ _ rule alone ∙ ap (λ p. v.seen ++ entry.LookGranted p (place_of wait).index ∷ []) zero;
    rests = after;
  }

  pub pends-comes : (wait back : Wait)
      → CallRule v (polled_entries v.number (place_of wait).index (Pending back)) [] w
      → IsPolled wait v (Pending back) w → v.alone ≡ true → v.number ≡ 0
      → Comes v w (entry.LookPending 0 (place_of wait).index ∷ []) v.facts.has.held v.facts.waits
  pends-comes wait back rule (there, token, cell, after) alone zero = record {
    same = rule.called.same;
    seen = went v w _ _ rule alone ∙ ap (λ p. v.seen ++ entry.LookPending p (place_of wait).index ∷ []) zero;
    rests = after;
  }

  -- A cancel.
  pub lates-comes : (k : ℕ) (permit : Permit) → HasCancelled k v (TooLate permit) w
      → v.alone ≡ true → v.number ≡ 0
      → Comes v w (entry.Late 0 k ∷ []) (v.facts.has.held + 1) (without k v.facts.waits)
  lates-comes k permit (passed, rule, (none, by, cell, after)) alone zero = record {
    same = rule.called.same;
    seen = went v w _ _ rule alone
        ∙ ap (λ more. v.seen ++ (entry.Late v.number k ∷ passed_further more)) none
        ∙ ap (λ p. v.seen ++ entry.Late p k ∷ []) zero;
    rests = after;
  }

-- A release from v to u whose resumption was handed back, and went on to its end at w.
module _ {T : Type 0} (v u w : View Entry T) (k : ℕ) (under : Token)
    (rule : CallRule v (released_entries v.number (Ok (Under under))) (released_further (Ok (Under under))) u) where
  abbrev sent : List Entry
  sent = entry.GiveSent v.number ∷ []

  pub hands-comes : Releases v (Under under) u → w.seen ≡ u.seen ++ entry.Deliver k ∷ [] → IsSame u w
      → Rests u u.facts.has.held u.facts.waits w → v.alone ≡ true → v.number ≡ 0
      → Comes v w (entry.GiveSent 0 ∷ entry.Deliver k ∷ []) (v.facts.has.held - 1) v.facts.waits
  hands-comes gave seen same rests alone zero = record {
    same = same-then v u w rule.called.same same;
    seen = seen ∙ ap (λ es. es ++ entry.Deliver k ∷ []) (went v u _ _ rule alone)
        ∙ append_assoc v.seen sent (entry.Deliver k ∷ [])
        ∙ ap (λ p. v.seen ++ (entry.GiveSent p ∷ entry.Deliver k ∷ [])) zero;
    rests = record {
      ready = rests.ready;
      held_is = rests.held_is ∙ gave.1.held_is;
      waits_are = rests.waits_are ∙ gave.1.waits_are;
    };
  }
