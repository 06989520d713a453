-- The end of what a latch's last count down owes, call by call.
use Rattle.std.proofs.Common.{◌≡◌, ◌<◌, map, [], ◌++◌, Ok, Err, refl, sym, ap, ◌∙◌}
use Rattle.std.proofs.lemmas.List.{append-nil}
use Rattle.cqs_core.specs.QueueLine.{Waiting}
use Rattle.cqs_latch_object.specs.declared.entries.LatchEntry.{LatchEntry}
use Rattle.cqs_rule_laws.specs.declared.view.View.{View}
use Rattle.cqs_rule_laws.specs.Views.{IsSame}
use Rattle.cqs_rule_laws.proofs.Calls.{same-here, same-then}
use Rattle.cqs_latch.specs.declared.answers.Owed.{Owed}
use Rattle.cqs_latch.specs.Alone.{HasServedAll, ServesFirst, delivers, waiting_in}
use Rattle.cqs_latch.specs.CountAnswers.{HasFinished}
use Rattle.cqs_latch.specs.Owed.{owed_reached}
use Rattle.cqs_latch.proofs.AloneOrder.{all-served, serves-nobody, serves-then}
use Rattle.cqs_floor_alone_kinds.specs.LatchEnds.{ServesAll}

module _ {T : Type 0} where
  -- from v to u the first of the line were served, in order, and nothing else happened
  pub record IsEnding (v u : View LatchEntry T) : Type 0 where
    pub same : IsSame v u
    pub first : ServesFirst [] v u
    pub waits : u.facts.waits ≡ v.facts.waits

  pub ending-begins : (v : View LatchEntry T) → IsEnding v v
  ending-begins v = record { same = same-here v; first = serves-nobody v; waits = refl }

  pub ending-goes_on : (owed again : Owed) (v u w : View LatchEntry T) → IsEnding v u
      → HasFinished owed u (Err again) w → ServesFirst [] u w → IsEnding v w
  ending-goes_on owed again v u w e (ends, rule, (hands, grown, more)) first = record {
    same = same-then v u w e.same rule.called.same;
    first = serves-then [] v u w e.first first;
    waits = hands.waits_are ∙ e.waits;
  }

  pub ending-ends : (owed : Owed) (v u w : View LatchEntry T) → IsEnding v u → HasFinished owed u (Ok tt) w
      → w.seen ≡ u.seen ++ delivers (waiting_in u) → HasServedAll w → ServesAll v w
  ending-ends owed v u w e (ends, rule, (x, rest, z, is, all, on, woke, rests)) seen served =
      let none : waiting_in w ≡ [] = ap (map (λ (q : Waiting). q.wait)) served.1 in
      let first : ServesFirst [] u w = record {
        served = waiting_in u;
        seen = seen;
        line = sym (append-nil (waiting_in u)) ∙ ap (λ l. waiting_in u ++ l) (sym none);
      } in
      record {
        same = same-then v u w e.same rule.called.same;
        seen = all-served [] v w (serves-then [] v u w e.first first) none;
        line = sym (append-nil (waiting_in v)) ∙ ap (λ l. waiting_in v ++ l) (sym none);
        none = none;
        all = served;
        rests = record { ready = rests.ready; waits_are = rests.waits_are ∙ e.waits };
      }
