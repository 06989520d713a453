-- An element that the only caller of a pool puts back: while its resumption goes on, and when it has ended.
use Rattle.std.proofs.Common.{◌≡◌, ◌≢◌, ℕ, true, [], ◌∷◌, ◌++◌, Option, Some, None, refl, ap, sym, ◌∙◌, subst, ne_eqb}
use Rattle.std.proofs.lemmas.List.{append_assoc, append-nil}
use Rattle.std.proofs.lemmas.List.Elements.{filter-append}
use Rattle.cqs_pool_object.specs.declared.entries.PoolEntry.{PoolEntry}
use Rattle.cqs_pool_object.specs.declared.entries.PoolEntry.TheVariants as entry
use Rattle.cqs_pool_object.specs.PoolNames.{entry_names}
use Rattle.cqs_pool_object.specs.PoolObject.{Pool}
use Rattle.cqs_pool.specs.declared.answers.Placed.TheVariants.{Left, Sent, Under}
use Rattle.cqs_pool.specs.Alone.{CanEnd, IsFirstOf, IsOnlyCaller, IsPlainEnd}
use Rattle.cqs_pool.specs.Answers.{Ends}
use Rattle.cqs_pool.specs.Calls.{CallRule, Rests, plain_after}
use Rattle.cqs_rule.specs.declared.queue.tokens.Under.{Under as Token}
use Rattle.cqs_rule_laws.specs.declared.view.View.{View}
use Rattle.cqs_rule_laws.specs.Lists.{part, without}
use Rattle.cqs_rule.specs.Owed.{HasUnder, under_payload}
use Rattle.cqs_rule_laws.specs.Views.{IsSame}
use Rattle.cqs_rule_laws.proofs.Calls.{same-then}
use Rattle.cqs_floor_alone_kinds.specs.PoolEnds.{GoesTo, HasEnded, HasPlaced, sent_entries}
use Rattle.cqs_floor_alone_kinds.proofs.PoolRests.{plain-next, went}

module _ {T : Type 0} where
  -- The pass went from u to v, where it owes the resumption of this element, and has seen nothing since.
  pub record IsEnding (e : ℕ) (u v : View PoolEntry T) (under : Token) : Type 0 where
    pub same : IsSame u v
    pub seen : v.seen ≡ u.seen
    pub alone : v.alone ≡ true
    pub can : CanEnd (plain_after v)
    pub owes : HasUnder v.facts under
    pub brings : under_payload under ≡ e
    pub further : v.facts.has.further ≡ 0
    pub slots : v.facts.has.slots ≡ u.facts.has.slots
    pub waits : v.facts.waits ≡ u.facts.waits

  module _ (e : ℕ) (u v w : View PoolEntry T) (under : Token) (ending : IsEnding e u v under) where
    -- it was handed back again
    pub ends-on : (next : Token) → CallRule v [] [] w
        → Ends v (under_payload under) v.facts.has.slots v.facts.waits (Under next) w → IsPlainEnd v (Under next) w
        → IsEnding e u w next
    ends-on next rule ends plain = record {
      same = same-then u v w ending.same rule.called.same;
      seen = went v w [] [] rule ending.alone ∙ append-nil v.seen ∙ ending.seen;
      alone = rule.called.same.alone ∙ ending.alone;
      can = subst CanEnd (sym plain) ending.can;
      owes = ends.owes;
      brings = ends.brings ∙ ending.brings;
      further = ends.further;
      slots = ends.elements_are ∙ ending.slots;
      waits = ends.waits_are ∙ ending.waits;
    }

    -- the line is what it was at the beginning
    line-still : (plain_after v).line ≡ (plain_after u).line
    line-still = ap (λ (o : Pool). o.line)
        (plain-next u v [] ending.same (ending.seen ∙ sym (append-nil u.seen)))

    rests-on : Rests v v.facts.has.slots v.facts.waits w → Rests u u.facts.has.slots u.facts.waits w
    rests-on rests = record {
      ready = rests.ready;
      elements_are = rests.elements_are ∙ ending.slots;
      waits_are = rests.waits_are ∙ ending.waits;
    }

    -- it went to the first of the line
    pub ends-sent : (k : ℕ) → CallRule v [] (entry.Deliver k (under_payload under) ∷ []) w
        → Ends v (under_payload under) v.facts.has.slots v.facts.waits (Sent k) w → IsPlainEnd v (Sent k) w
        → HasEnded e (Some k) u w
    ends-sent k rule ends plain = record {
      goes = subst (λ line. IsFirstOf line k) line-still plain;
      seen = went v w [] (entry.Deliver k (under_payload under) ∷ []) rule ending.alone
          ∙ ap (λ es. es ++ entry.Deliver k (under_payload under) ∷ []) ending.seen
          ∙ ap (λ n. u.seen ++ entry.Deliver k n ∷ []) ending.brings;
      same = same-then u v w ending.same rule.called.same;
      rests = rests-on ends.1;
    }

    -- nobody waits, and it is free
    pub ends-free : (k : ℕ) → CallRule v [] [] w
        → Ends v (under_payload under) v.facts.has.slots v.facts.waits (Left k) w → IsPlainEnd v (Left k) w
        → HasEnded e None u w
    ends-free k rule ends plain = record {
      goes = sym line-still ∙ plain;
      seen = went v w [] [] rule ending.alone ∙ ap (λ es. es ++ []) ending.seen;
      same = same-then u v w ending.same rule.called.same;
      rests = rests-on ends.1;
    }

  -- an element that was put, handed back, and ended so
  pub placed-then : (e : ℕ) (sent : Option ℕ) (v w x : View PoolEntry T) → v.alone ≡ true
      → CallRule v (entry.Put v.number e ∷ []) [] w → w.facts.has.slots ≡ without e v.facts.has.slots
      → w.facts.waits ≡ v.facts.waits → HasEnded e sent w x → HasPlaced e sent v x
  placed-then e sent v w x alone rule slots waits ended = record {
    goes = goes sent ended.goes;
    seen = ended.seen ∙ ap (λ es. es ++ sent_entries e sent) seen
        ∙ append_assoc v.seen (entry.Put v.number e ∷ []) (sent_entries e sent);
    same = same-then v w x rule.called.same ended.same;
    rests = record {
      ready = ended.rests.ready;
      elements_are = ended.rests.elements_are ∙ slots;
      waits_are = ended.rests.waits_are ∙ waits;
    };
  }
    where
      seen : w.seen ≡ v.seen ++ entry.Put v.number e ∷ []
      seen = went v w (entry.Put v.number e ∷ []) [] rule alone

      line : (plain_after w).line ≡ (plain_after v).line
      line = ap (λ (o : Pool). o.line) (plain-next v w (entry.Put v.number e ∷ []) rule.called.same seen)

      goes : (sent : Option ℕ) → GoesTo sent w → GoesTo sent v
      goes None nobody = sym line ∙ nobody
      goes (Some k) first = subst (λ line. IsFirstOf line k) line first

  -- the only caller still is
  pub placed-only : (e : ℕ) (sent : Option ℕ) (v w : View PoolEntry T) → HasPlaced e sent v w → IsOnlyCaller v
      → IsOnlyCaller w
  placed-only e sent v w placed only = (
    placed.same.alone ∙ only.0,
    λ n other.
        let apart : n ≢ v.number = λ same. other (same ∙ sym placed.same.number) in
        ap (part entry_names n) placed.seen
        ∙ filter-append (entry_names n) v.seen (entry.Put v.number e ∷ sent_entries e sent)
        ∙ ap (λ es. es ++ part entry_names n (entry.Put v.number e ∷ sent_entries e sent)) (only.1 n apart)
        ∙ nothing n apart sent,
  )
    where
      nothing : (n : ℕ) → n ≢ v.number → (sent : Option ℕ)
          → part entry_names n (entry.Put v.number e ∷ sent_entries e sent) ≡ []
      nothing n apart None = rw (ne_eqb v.number n (λ same. apart (sym same))) refl
      nothing n apart (Some k) = rw (ne_eqb v.number n (λ same. apart (sym same))) refl
