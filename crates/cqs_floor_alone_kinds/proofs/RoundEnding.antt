-- The end of what the last party of a round owes, call by call.
use Rattle.std.proofs.Common.{◌≡◌, ℕ, true, List, [], ◌++◌, Ok, Err, refl, sym, ap, ◌∙◌, append_assoc}
use Rattle.std.proofs.lemmas.List.{append-nil}
use Rattle.cqs_barrier_object.specs.declared.entries.BarrierEntry.{BarrierEntry}
use Rattle.cqs_barrier_object.specs.SoleCaller.{delivers}
use Rattle.cqs_barrier.specs.declared.answers.Owing.{Owing}
use Rattle.cqs_barrier.specs.Alone.{IsPlainFinish}
use Rattle.cqs_barrier.specs.Arriving.{Finishes}
use Rattle.cqs_barrier.specs.Calls.{CallRule, waiting_in}
use Rattle.cqs_barrier.proofs.ResumeSteps.{delivers-append}
use Rattle.cqs_rule_laws.specs.declared.view.View.{View}
use Rattle.cqs_rule_laws.specs.Views.{IsSame}
use Rattle.cqs_rule_laws.proofs.Calls.{same-here, same-then}
use Rattle.cqs_floor_alone_kinds.specs.RoundEnds.{ServesAll}
use Rattle.cqs_floor_alone_kinds.proofs.RoundRests.{told}

module _ {T : Type 0} where
  -- from v to u the first of the line were served, in order, and nothing else happened
  pub record IsEnding (v u : View BarrierEntry T) : Type 0 where
    pub same : IsSame v u
    pub served : List ℕ
    pub seen : u.seen ≡ v.seen ++ delivers served
    pub line : waiting_in v ≡ served ++ waiting_in u
    pub held : u.facts.has.held ≡ v.facts.has.held
    pub waits : u.facts.waits ≡ v.facts.waits

  pub ending-begins : (v : View BarrierEntry T) → IsEnding v v
  ending-begins v = record {
    same = same-here v;
    served = [];
    seen = sym (append-nil v.seen);
    line = refl;
    held = refl;
    waits = refl;
  }

  -- more of them were served
  module _ (v u w : View BarrierEntry T) (e : IsEnding v u) (alone : v.alone ≡ true) (more : List ℕ)
      (rule : CallRule u [] (delivers more) w) where
    seen-on : w.seen ≡ v.seen ++ delivers (e.served ++ more)
    seen-on =
        (told u w [] (delivers more) rule (e.same.alone ∙ alone)).seen
        ∙ (ap (λ l. l ++ delivers more) e.seen
        ∙ (append_assoc v.seen (delivers e.served) (delivers more)
        ∙ ap (λ l. v.seen ++ l) (delivers-append e.served more)))

    line-on : (rest : List ℕ) → waiting_in u ≡ more ++ rest → waiting_in v ≡ (e.served ++ more) ++ rest
    line-on rest line = e.line ∙ (ap (λ l. e.served ++ l) line ∙ sym (append_assoc e.served more rest))

  pub ending-goes_on : (again : Owing) (v u w : View BarrierEntry T) → IsEnding v u → v.alone ≡ true
      → Finishes u (Err again) w → IsPlainFinish u (Err again) w → IsEnding v w
  ending-goes_on again v u w e alone (ks, f, back, owes) (more, rule, line) = record {
    same = same-then v u w e.same rule.called.same;
    served = e.served ++ more;
    seen = seen-on v u w e alone more rule;
    line = line-on v u w e alone more rule (waiting_in w) line;
    held = f.held ∙ e.held;
    waits = f.waits ∙ e.waits;
  }

  pub ending-ends : (v u w : View BarrierEntry T) → IsEnding v u → v.alone ≡ true
      → Finishes u (Ok tt) w → IsPlainFinish u (Ok tt) w → ServesAll v w
  ending-ends v u w e alone (ks, over, f, passed, ready) (rule, none) = record {
    same = same-then v u w e.same rule.called.same;
    seen = seen-on v u w e alone (waiting_in u) rule ∙ ap (λ l. v.seen ++ delivers l) (sym e.line);
    none = none;
    rests = record { ready = ready; held_is = f.held ∙ e.held; waits_are = f.waits ∙ e.waits };
  }
