-- A finish is the resumption that was handed back, and those behind it.
use Rattle.std.proofs.Common.{ℕ, List, [], ◌++◌, Result, Ok, Err, Option, Some, None, inl, inr}
use Rattle.cqs_rule.specs.declared.queue.tokens.Under.{Under}
use Rattle.cqs_rule_laws.specs.declared.view.View.{View}
use Rattle.cqs_rule_laws.specs.Ample.{IsAmple}
use Rattle.cqs_rule_laws.specs.Lists.{Has}
use Rattle.cqs_rule_laws.proofs.Rules.{call-rule_ending}
use Rattle.cqs_barrier.specs.Barrier.{barrier_object}
use Rattle.cqs_barrier_object.specs.declared.entries.BarrierEntry.{BarrierEntry}
use Rattle.cqs_barrier_object.specs.SoleCaller.{delivers}
use Rattle.cqs_barrier_object.specs.BarrierEntries.{IsLegal}
use Rattle.cqs_barrier.specs.declared.answers.Owing.{Owing}
use Rattle.cqs_barrier.specs.Arriving.{Finished, Finishes}
use Rattle.cqs_barrier.specs.Resuming.{HasNoTicket, IsHandedBack, Ran, RanNext, RanAll, OwesMore, owing_under}
use Rattle.cqs_barrier.proofs.ArriveSteps.{delivers-name}
use Rattle.cqs_barrier.proofs.ResumeSteps.{handed-since, passes-then, ran-nothing, ran-then, all-handed}

abbrev pub finish_answer : Option Owing → Result (Unit {0}) Owing
finish_answer None = Ok tt
finish_answer (Some owing) = Err owing

module _ {T : Type 0} where
  pub ran-finished : (ks : List ℕ) (v w : View BarrierEntry T) → Ran ks v w → Has v.number v.own
      → IsLegal w.opening.size w.seen → Finished ks v w
  ran-finished ks v w r has legal = record {
    called = call-rule_ending barrier_object v w [] (delivers ks) [] r.called tt (delivers-name ks) has legal;
    held = r.held;
    waits = r.waits;
    served = r.served;
    many = r.many;
  }

  -- the resumptions behind one that ended
  pub ran-first : (left : ℕ) (answer : Option Owing) (v u w : View BarrierEntry T) → RanNext left v None u
      → RanAll u answer w → RanAll v answer w
  ran-first left None v u w n a = (
    n.0 ++ a.0,
    n.1 ++ a.1,
    ran-then n.0 a.0 v u w n.2 a.2,
    passes-then n.1 a.1 v u w n.3 a.3,
    a.4,
  )
  ran-first left (Some owing) v u w n a = (
    n.0 ++ a.0,
    ran-then n.0 a.0 v u w n.2 a.1,
    handed-since (owing_under owing) n.1 v u w n.2.called.same n.2.heads n.3 a.2,
    a.3,
  )

  -- all ended, or one was handed back
  all-finishes : (answer : Option Owing) (v w : View BarrierEntry T) → RanAll v answer w → Has v.number v.own
      → IsLegal w.opening.size w.seen → Finishes v (finish_answer answer) w
  all-finishes None v w a has legal =
      (a.0, a.1, ran-finished a.0 v w a.2 has legal, a.3, record { idle = a.4.idle; further = a.4.further })
  all-finishes (Some owing) v w a has legal = (a.0, ran-finished a.0 v w a.1 has legal, a.2, a.3)

  -- the one that was handed back was handed back again
  pub finish-handed : (left : ℕ) (under : Under) (v w : View BarrierEntry T) → RanNext left v (Some under) w
      → Has v.number v.own → IsLegal w.opening.size w.seen
      → Finishes v (Err (record { under = under; left = left })) w
  finish-handed left under v w n has legal =
      all-finishes (Some (record { under = under; left = left })) v w
      (all-handed left under v v w (ran-nothing v) n) has legal

  -- in an ample table one that is handed back has no open ticket
  pub no-ticket : (under : Under) (v w : View BarrierEntry T) → IsHandedBack under v w → IsAmple v → HasNoTicket under
  no-ticket under v w (inl (none, passed)) ample = none
  no-ticket under v w (inr wants) ample = absurd (wants.scarce ample)

  -- it ended, and so the rest is owed
  pub finish-owes : (left : ℕ) (v u : View BarrierEntry T) → RanNext left v None u → OwesMore left u.facts
  finish-owes left v u n = n.4

  pub finish-on : (left : ℕ) (answer : Option Owing) (v u w : View BarrierEntry T) → RanNext left v None u
      → RanAll u answer w → Has v.number v.own → IsLegal w.opening.size w.seen
      → Finishes v (finish_answer answer) w
  finish-on left answer v u w n a has legal =
      all-finishes answer v w (ran-first left answer v u w n a) has legal
