-- A permit that is on its way comes to the first of the line, in however many calls.
use Rattle.std.proofs.Common.{◌≡◌, ℕ, true, List, [], ◌∷◌, ◌++◌, Option, Some, None, take, length, refl, ap, sym, ◌∙◌, subst}
use Rattle.std.proofs.Math.Seq.{take-append_seam}
use Rattle.std.proofs.lemmas.List.Sums.{fold-append}
use Rattle.std.proofs.lemmas.List.{append_assoc, append-nil}
use Rattle.cqs_core.specs.declared.entries.Entry.{Entry}
use Rattle.cqs_core.specs.declared.entries.Entry.TheVariants as entry
use Rattle.cqs_core.specs.SemaphoreEntries.{IsAllowed, IsLegal, Waits, after_entry, after_leave, object_after}
use Rattle.cqs_core.specs.SemaphoreObject.{Semaphore, opening}
use Rattle.cqs_rule.specs.declared.queue.tokens.Under.{Under as Token}
use Rattle.cqs_core.proofs.Places.{get-push_at}
use Rattle.cqs_core.proofs.Rising.{in-none}
use Rattle.cqs_rule_laws.specs.declared.view.Opening.{Opening}
use Rattle.cqs_rule_laws.specs.declared.view.View.{View}
use Rattle.cqs_rule_laws.specs.Lists.{without}
use Rattle.cqs_rule.specs.Owed.{HasUnder}
use Rattle.cqs_rule_laws.specs.Views.{IsSame}
use Rattle.cqs_rule_laws.proofs.Calls.{same-then}
use Rattle.cqs_semaphore.specs.declared.answers.Released.{Released}
use Rattle.cqs_semaphore.specs.declared.answers.CancelAnswer.TheVariants.{Cancelled}
use Rattle.cqs_semaphore.specs.declared.answers.Released.TheVariants.{Freed, Left, Sent, Under, Void}
use Rattle.cqs_semaphore.specs.Alone.{IsFirstOf, IsPlainEnd}
use Rattle.cqs_semaphore.specs.Answers.{Ends}
use Rattle.cqs_semaphore.specs.Calls.{CallRule, Rests, plain_after}
use Rattle.cqs_semaphore.specs.Entries.{passed_further, resumed_further}
use Rattle.cqs_semaphore.specs.Steps.{HasCancelled}
use Rattle.cqs_floor_alone_kinds.proofs.PassRests.{Comes, left-way, plain-next, went}

module _ {T : Type 0} where
  -- The pass went from u to v, where it owes this, and has seen nothing since; so many permits are on their way.
  pub record IsSending (way : ℕ) (u v : View Entry T) (under : Token) : Type 0 where
    pub same : IsSame u v
    pub seen : v.seen ≡ u.seen
    pub alone : v.alone ≡ true
    pub ways : (plain_after v).way ≡ way
    pub owes : HasUnder v.facts under
    pub further : v.facts.has.further ≡ 0
    pub held : v.facts.has.held ≡ u.facts.has.held
    pub waits : v.facts.waits ≡ u.facts.waits

  module _ (way : ℕ) (u v w : View Entry T) (under : Token) (sending : IsSending way u v under) where
    -- it was handed back again
    pub sends-on : (next : Token) → CallRule v [] (resumed_further (Under next)) w
        → Ends v v.facts.has.held v.facts.waits (Under next) w → IsSending way u w next
    sends-on next rule ends = record {
      same = same-then u v w sending.same rule.called.same;
      seen = went v w _ _ rule sending.alone ∙ append-nil v.seen ∙ sending.seen;
      alone = rule.called.same.alone ∙ sending.alone;
      ways = ap (λ (o : Semaphore). o.way) (plain-next v w [] rule.called.same (went v w _ _ rule sending.alone))
          ∙ sending.ways;
      owes = ends.owes;
      further = ends.further;
      held = ends.held_is ∙ sending.held;
      waits = ends.waits_are ∙ sending.waits;
    }

    -- what was seen at its end
    pub record HasSent (k : ℕ) : Type 0 where
      pub first : IsFirstOf (plain_after u).line k
      pub seen : w.seen ≡ u.seen ++ entry.Deliver k ∷ []
      pub same : IsSame u w
      pub rests : Rests u u.facts.has.held u.facts.waits w

    pub sends-last : (k : ℕ) → CallRule v [] (resumed_further (Sent k)) w
        → Ends v v.facts.has.held v.facts.waits (Sent k) w → IsPlainEnd v (Sent k) w → HasSent k
    sends-last k rule ends plain = record {
      first = subst (λ (o : Semaphore). IsFirstOf o.line k)
          (plain-next u v [] sending.same (sending.seen ∙ sym (append-nil u.seen))) plain;
      seen = went v w _ _ rule sending.alone ∙ ap (λ es. es ++ entry.Deliver k ∷ []) sending.seen;
      same = same-then u v w sending.same rule.called.same;
      rests = record {
        ready = ends.1.ready;
        held_is = ends.1.held_is ∙ sending.held;
        waits_are = ends.1.waits_are ∙ sending.waits;
      };
    }

-- where none is on its way, none is delivered
never-sent : (size k : ℕ) (seen : List Entry) → IsLegal size (seen ++ entry.Deliver k ∷ [])
    → (object_after size seen).way ≡ 0 → ⊥
never-sent size k seen legal none =
    let got = get-push_at seen (entry.Deliver k) (length seen) refl in
    let whole : take (length seen) (seen ++ entry.Deliver k ∷ []) ≡ seen =
    take-append_seam seen (entry.Deliver k ∷ []) in
    let May : List Entry → Type 0 = λ es. IsAllowed (object_after size es) (entry.Deliver k) in
    let allowed : May seen = subst May whole (legal.at (length seen) (entry.Deliver k) got) in
    absurd (in-none _ (subst (λ n. Waits k allowed.0 (take n (object_after size seen).line)) none allowed.1))

-- the wait k left the line, and nothing else happened
abbrev pub HasLeft : {T : Type 0} → ℕ → View Entry T → View Entry T → Type 0
HasLeft k v w = Comes v w (entry.Leave v.number k ∷ []) v.facts.has.held (without k v.facts.waits)

-- A cancel of a pass that is alone.
module _ {T : Type 0} (k : ℕ) (v u : View Entry T) (alone : v.alone ≡ true) (still : (plain_after v).way ≡ 0) where
  -- what a cancel leaves whose wait left the line
  abbrev left_entries : List Entry
  left_entries = entry.Leave v.number k ∷ []

  seen-left : (passed : Option Released) → CallRule v left_entries (passed_further passed) u
      → u.seen ≡ v.seen ++ (left_entries ++ passed_further passed)
  seen-left passed rule = went v u _ _ rule alone

  none-left : (after_leave (plain_after v) k).way ≡ 0
  none-left = left-way (plain_after v) k still

  -- nothing was delivered after it
  none-sent : (j : ℕ) → CallRule v left_entries (entry.Deliver j ∷ []) u → ⊥
  none-sent j rule =
      let size : u.opening.size ≡ v.opening.size = ap (λ (o : Opening). o.size) rule.called.same.opening in
      let seen : u.seen ≡ (v.seen ++ left_entries) ++ entry.Deliver j ∷ [] =
      went v u _ _ rule alone ∙ sym (append_assoc v.seen left_entries (entry.Deliver j ∷ [])) in
      let way : (object_after v.opening.size (v.seen ++ left_entries)).way ≡ 0 =
      ap (λ (o : Semaphore). o.way) (fold-append after_entry (opening v.opening.size) v.seen left_entries)
      ∙ none-left in
      never-sent v.opening.size j (v.seen ++ left_entries)
      (subst (λ es. IsLegal v.opening.size es) seen (subst (λ n. IsLegal n u.seen) size rule.legal.legal)) way

  left-rests : CallRule v left_entries [] u → Rests v v.facts.has.held (without k v.facts.waits) u → HasLeft k v u
  left-rests rule rests = record { same = rule.called.same; seen = went v u _ _ rule alone; rests = rests }

  -- no resumption is still owed: the wait has left
  pub left-now : (under : Option Token) → under ≡ None → HasCancelled k v (Cancelled under) u → HasLeft k v u
  left-now under none (None, rule, (cell, passes, why)) = left-rests rule passes.1
  left-now under none (Some Freed, rule, (cell, passes, why)) = absurd passes.2
  left-now under none (Some (Sent j), rule, (cell, passes, why)) = absurd (none-sent j rule)
  left-now under none (Some (Left j), rule, (cell, passes, why)) = left-rests rule passes.2.1
  left-now under none (Some (Void j), rule, (cell, passes, why)) = left-rests rule passes.2.1
  left-now under none (Some (Under token), rule, (cell, passes, why)) =
      let other : Some token ≡ None = sym passes.0 ∙ none in absurd (cc)
