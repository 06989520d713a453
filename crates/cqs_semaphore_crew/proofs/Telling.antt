-- One answer more: the entries of the call, and the count that rose.
use Rattle.std.proofs.Common.{◌≡◌, ℕ, ◌+◌, List, [], ◌∷◌, ◌++◌, Option, Some, None, sym, refl, ap, ◌∙◌, subst, append_assoc, arith}
use Rattle.std.specs.List.{fold}
use Rattle.std.proofs.lemmas.List.{append-nil}
use Rattle.std.proofs.lemmas.List.Elements.{filter-append}
use Rattle.std.proofs.lemmas.List.Sums.{fold-append}
use Rattle.cqs_core.specs.declared.entries.Entry.{Entry}
use Rattle.cqs_core.specs.declared.entries.Entry.TheVariants as entry
use Rattle.cqs_core.specs.SemaphoreNames.{entry_names}
use Rattle.cqs_rule_laws.specs.declared.view.View.{View}
use Rattle.cqs_rule_laws.specs.Lists.{part}
use Rattle.cqs_rule_laws.proofs.Calls.{same-here, same-then}
use Rattle.cqs_semaphore.specs.Calls.{CallRule}
use Rattle.cqs_semaphore.specs.Entries.{took_entries, came_by}
use Rattle.cqs_semaphore_client.specs.SemaphoreHistories.{IsLawful}
use Rattle.cqs_semaphore_client.specs.Semaphore.{semaphore_object}
use Rattle.cqs_rule_laws.proofs.Courses.{course-call, course-then}
use Rattle.cqs_semaphore_crew.specs.declared.counts.Acquires.{Acquires}
use Rattle.cqs_semaphore_crew.specs.declared.counts.Counts.{Counts}
use Rattle.cqs_semaphore_crew.proofs.Meeting.{course-none}
use Rattle.cqs_semaphore_crew.specs.Tallies.{Tally, nothing_yet, with_entry, tally_of, count_of, TellsBut, Adds, CountsNow}

-- one more is counted
pub counted-next : (n x y : ℕ) → x ≡ count_of n → y ≡ count_of (x + 1) → y ≡ count_of (n + 1)
counted-next n x y is more = omega arith

tally-then : (a b : List Entry) → tally_of (a ++ b) ≡ fold with_entry (tally_of a) b
tally-then a b = fold-append with_entry nothing_yet a b

abbrev one_more : ℕ → ℕ
one_more x = count_of (x + 1)

module _ {T : Type 0} where
  -- nothing
  pub adds-none : (due : ℕ) (v : View Entry T) (c : Counts) → IsLawful v.opening.sync v.opening.size v.seen
      → Adds due due v c v c
  adds-none due v c legal = record {
    own = [];
    course = course-none v legal;
    named = refl;
    same = same-here v;
    tells = λ es t. subst (λ l. TellsBut due (tally_of l) c) (sym (append-nil es)) t;
  }

  -- one after another
  pub adds-then : (a b e : ℕ) (v u w : View Entry T) (c d f : Counts) → Adds a b v c u d → Adds b e u d w f
      → Adds a e v c w f
  adds-then a b e v u w c d f x y = record {
    own = x.own ++ y.own;
    course = course-then semaphore_object v u w x.own y.own x.course y.course;
    named = filter-append (entry_names v.number) x.own y.own
        ∙ (λ i. x.named i ++ (ap (λ n. part entry_names n y.own) (sym x.course.number) ∙ y.named) i);
    same = same-then v u w x.same y.same;
    tells = λ es t. subst (λ l. TellsBut e (tally_of l) f) (append_assoc es x.own y.own)
        (y.tells (es ++ x.own) (x.tells es t));
  }

  -- a call
  adds-call : (a b : ℕ) (v w : View Entry T) (c d : Counts) (own further : List Entry) → CallRule v own further w
      → ((t : Tally) → TellsBut a t c → TellsBut b (fold with_entry t own) d) → Adds a b v c w d
  adds-call a b v w c d own further rule step = record {
    own = own;
    course = course-call semaphore_object v w own further _ rule;
    named = rule.all;
    same = rule.called.same;
    tells = λ es t. subst (λ s. TellsBut b s d) (sym (tally-then es own)) (step (tally_of es) t);
  }

  -- one that appends nothing
  pub adds-silent : (due : ℕ) (v w : View Entry T) (c : Counts) (further : List Entry) → CallRule v [] further w
      → Adds due due v c w c
  adds-silent due v w c further rule = adds-call due due v w c c [] further rule (λ t told. told)

  -- a permit was free
  pub adds-free : (v w : View Entry T) (c : Counts) (x : ℕ) → CallRule v (entry.TakeNow v.number ∷ []) [] w
      → x ≡ one_more c.acquires.free → Adds 0 0 v c w (record c { acquires = record c.acquires { free = x } })
  adds-free v w c x rule more = adds-call 0 0 v w c _ (entry.TakeNow v.number ∷ []) [] rule (λ t told. record {
    acquires = record {
      free_is = counted-next t.free c.acquires.free x told.acquires.free_is more;
      took = told.acquires.took;
      waited = told.acquires.waited;
      entered_is = told.acquires.entered_is;
      took_is = told.acquires.took_is;
      waited_is = told.acquires.waited_is;
    };
    tries = told.tries;
    polls = told.polls;
    ends = told.ends;
  })

  -- its permit had been left at the number that was drawn
  pub adds-took : (v w : View Entry T) (c : Counts) (x k : ℕ)
      → CallRule v (entry.TakeDoor v.number ∷ entry.Enter v.number k ∷ []) (entry.Deliver k ∷ []) w
      → x ≡ one_more c.acquires.took → Adds 0 0 v c w (record c { acquires = record c.acquires { took = x } })
  adds-took v w c x k rule more =
      adds-call 0 0 v w c _ (entry.TakeDoor v.number ∷ entry.Enter v.number k ∷ []) (entry.Deliver k ∷ []) rule
      (λ t told. record {
        acquires = record {
          free_is = told.acquires.free_is;
          took = told.acquires.took + 1;
          waited = told.acquires.waited;
          entered_is = let e = told.acquires.entered_is in omega arith;
          took_is = counted-next told.acquires.took c.acquires.took x told.acquires.took_is more;
          waited_is = told.acquires.waited_is;
        };
        tries = told.tries;
        polls = told.polls;
        ends = told.ends;
      })

  -- the one or the other
  pub adds-now : (v w : View Entry T) (c : Counts) (a : Acquires) (number : Option ℕ)
      → CallRule v (took_entries v.number number) (came_by number) w → CountsNow number c.acquires a
      → Adds 0 0 v c w (record c { acquires = a })
  adds-now v w c a None rule is =
      subst (λ (x : Acquires). Adds 0 0 v c w (record c { acquires = x })) (sym is) (adds-free v w c _ rule refl)
  adds-now v w c a (Some k) rule is =
      subst (λ (x : Acquires). Adds 0 0 v c w (record c { acquires = x })) (sym is) (adds-took v w c _ k rule refl)

  -- the caller waits
  pub adds-waited : (v w : View Entry T) (c : Counts) (x k : ℕ)
      → CallRule v (entry.TakeDoor v.number ∷ entry.Enter v.number k ∷ []) [] w
      → x ≡ one_more c.acquires.waited → Adds 0 0 v c w (record c { acquires = record c.acquires { waited = x } })
  adds-waited v w c x k rule more =
      adds-call 0 0 v w c _ (entry.TakeDoor v.number ∷ entry.Enter v.number k ∷ []) [] rule (λ t told. record {
        acquires = record {
          free_is = told.acquires.free_is;
          took = told.acquires.took;
          waited = told.acquires.waited + 1;
          entered_is = let e = told.acquires.entered_is in omega arith;
          took_is = told.acquires.took_is;
          waited_is = counted-next told.acquires.waited c.acquires.waited x told.acquires.waited_is more;
        };
        tries = told.tries;
        polls = told.polls;
        ends = told.ends;
      })

  -- no further number may be drawn: nothing is told of that count
  pub adds-worn : (v w : View Entry T) (c : Counts) (x : ℕ) → CallRule v [] [] w
      → Adds 0 0 v c w (record c { acquires = record c.acquires { worn = x } })
  adds-worn v w c x rule = adds-call 0 0 v w c _ [] [] rule (λ t told. record {
    acquires = record {
      free_is = told.acquires.free_is;
      took = told.acquires.took;
      waited = told.acquires.waited;
      entered_is = told.acquires.entered_is;
      took_is = told.acquires.took_is;
      waited_is = told.acquires.waited_is;
    };
    tries = told.tries;
    polls = told.polls;
    ends = told.ends;
  })

  -- no slot was free: nothing is told of that count
  pub adds-crowded : (v w : View Entry T) (c : Counts) (x : ℕ) → CallRule v [] [] w
      → Adds 0 0 v c w (record c { acquires = record c.acquires { crowded = x } })
  adds-crowded v w c x rule = adds-call 0 0 v w c _ [] [] rule (λ t told. record {
    acquires = record {
      free_is = told.acquires.free_is;
      took = told.acquires.took;
      waited = told.acquires.waited;
      entered_is = told.acquires.entered_is;
      took_is = told.acquires.took_is;
      waited_is = told.acquires.waited_is;
    };
    tries = told.tries;
    polls = told.polls;
    ends = told.ends;
  })

  -- a try got a permit
  pub adds-got : (v w : View Entry T) (c : Counts) (x : ℕ) → CallRule v (entry.TryGot v.number ∷ []) [] w
      → x ≡ one_more c.tries.got → Adds 0 0 v c w (record c { tries = record c.tries { got = x } })
  adds-got v w c x rule more = adds-call 0 0 v w c _ (entry.TryGot v.number ∷ []) [] rule (λ t told. record {
    acquires = told.acquires;
    polls = told.polls;
    ends = told.ends;
    tries = record { got_is = counted-next t.got c.tries.got x told.tries.got_is more; busy_is = told.tries.busy_is };
  })

  -- none was free
  pub adds-busy : (v w : View Entry T) (c : Counts) (x : ℕ) → CallRule v (entry.TryBusy v.number ∷ []) [] w
      → x ≡ one_more c.tries.busy → Adds 0 0 v c w (record c { tries = record c.tries { busy = x } })
  adds-busy v w c x rule more = adds-call 0 0 v w c _ (entry.TryBusy v.number ∷ []) [] rule (λ t told. record {
    acquires = told.acquires;
    polls = told.polls;
    ends = told.ends;
    tries = record { got_is = told.tries.got_is; busy_is = counted-next t.busy c.tries.busy x told.tries.busy_is more };
  })

  pub adds-contended : (v w : View Entry T) (c : Counts) (x : ℕ) → CallRule v [] [] w
      → Adds 0 0 v c w (record c { tries = record c.tries { contended = x } })
  adds-contended v w c x rule = adds-call 0 0 v w c _ [] [] rule (λ t told. record {
    acquires = told.acquires;
    tries = record { got_is = told.tries.got_is; busy_is = told.tries.busy_is };
    polls = told.polls;
    ends = told.ends;
  })

  -- a look found the wait served
  pub adds-granted : (v w : View Entry T) (c : Counts) (x k : ℕ) → CallRule v (entry.LookGranted v.number k ∷ []) [] w
      → x ≡ one_more c.polls.granted → Adds 0 0 v c w (record c { polls = record c.polls { granted = x } })
  adds-granted v w c x k rule more =
      adds-call 0 0 v w c _ (entry.LookGranted v.number k ∷ []) [] rule (λ t told. record {
        acquires = told.acquires;
        tries = told.tries;
        ends = told.ends;
        polls = record {
          granted_is = counted-next t.granted c.polls.granted x told.polls.granted_is more;
          pending_is = told.polls.pending_is;
        };
      })

  -- or that it goes on
  pub adds-pending : (v w : View Entry T) (c : Counts) (x k : ℕ) → CallRule v (entry.LookPending v.number k ∷ []) [] w
      → x ≡ one_more c.polls.pending → Adds 0 0 v c w (record c { polls = record c.polls { pending = x } })
  adds-pending v w c x k rule more =
      adds-call 0 0 v w c _ (entry.LookPending v.number k ∷ []) [] rule (λ t told. record {
        acquires = told.acquires;
        tries = told.tries;
        ends = told.ends;
        polls = record {
          granted_is = told.polls.granted_is;
          pending_is = counted-next t.pending c.polls.pending x told.polls.pending_is more;
        };
      })

  -- a permit that was given back is free
  pub adds-freed : (v w : View Entry T) (c : Counts) (x : ℕ) → CallRule v (entry.GiveFreed v.number ∷ []) [] w
      → x ≡ one_more c.releases.freed → Adds 0 0 v c w (record c { releases = record c.releases { freed = x } })
  adds-freed v w c x rule more = adds-call 0 0 v w c _ (entry.GiveFreed v.number ∷ []) [] rule (λ t told. record {
    acquires = told.acquires;
    tries = told.tries;
    polls = told.polls;
    ends = record {
      freed_is = counted-next t.freed c.releases.freed x told.ends.freed_is more;
      served = told.ends.served;
      left = told.ends.left;
      void = told.ends.void;
      cancelled = told.ends.cancelled;
      owing = told.ends.owing;
      arrived = told.ends.arrived;
      gone_is = told.ends.gone_is;
      served_is = told.ends.served_is;
      left_is = told.ends.left_is;
      void_is = told.ends.void_is;
      cancelled_is = told.ends.cancelled_is;
      owing_is = told.ends.owing_is;
      late_is = told.ends.late_is;
    };
  })

  -- it went to a waiter
  pub adds-sent : (v w : View Entry T) (c : Counts) (x k : ℕ)
      → CallRule v (entry.GiveSent v.number ∷ []) (entry.Deliver k ∷ []) w
      → x ≡ one_more c.releases.sent → Adds 0 0 v c w (record c { releases = record c.releases { sent = x } })
  adds-sent v w c x k rule more =
      adds-call 0 0 v w c _ (entry.GiveSent v.number ∷ []) (entry.Deliver k ∷ []) rule (λ t told. record {
        acquires = told.acquires;
        tries = told.tries;
        polls = told.polls;
        ends = record {
          freed_is = told.ends.freed_is;
          served = told.ends.served + 1;
          left = told.ends.left;
          void = told.ends.void;
          cancelled = told.ends.cancelled;
          owing = told.ends.owing;
          arrived = let e = told.ends.arrived in omega arith;
          gone_is = told.ends.gone_is;
          served_is = counted-next told.ends.served c.releases.sent x told.ends.served_is more;
          left_is = told.ends.left_is;
          void_is = told.ends.void_is;
          cancelled_is = told.ends.cancelled_is;
          owing_is = told.ends.owing_is;
          late_is = told.ends.late_is;
        };
      })

  -- the same of one that was still on its way
  pub adds-then_sent : (v w : View Entry T) (c : Counts) (x k : ℕ) → CallRule v [] (entry.Deliver k ∷ []) w
      → x ≡ one_more c.releases.sent → Adds 1 0 v c w (record c { releases = record c.releases { sent = x } })
  adds-then_sent v w c x k rule more = adds-call 1 0 v w c _ [] (entry.Deliver k ∷ []) rule (λ t told. record {
    acquires = told.acquires;
    tries = told.tries;
    polls = told.polls;
    ends = record {
      freed_is = told.ends.freed_is;
      served = told.ends.served + 1;
      left = told.ends.left;
      void = told.ends.void;
      cancelled = told.ends.cancelled;
      owing = told.ends.owing;
      arrived = let e = told.ends.arrived in omega arith;
      gone_is = told.ends.gone_is;
      served_is = counted-next told.ends.served c.releases.sent x told.ends.served_is more;
      left_is = told.ends.left_is;
      void_is = told.ends.void_is;
      cancelled_is = told.ends.cancelled_is;
      owing_is = told.ends.owing_is;
      late_is = told.ends.late_is;
    };
  })

  -- it was left for a caller
  pub adds-left : (v w : View Entry T) (c : Counts) (x : ℕ) → CallRule v (entry.GiveSent v.number ∷ []) [] w
      → x ≡ one_more c.releases.left → Adds 0 0 v c w (record c { releases = record c.releases { left = x } })
  adds-left v w c x rule more = adds-call 0 0 v w c _ (entry.GiveSent v.number ∷ []) [] rule (λ t told. record {
    acquires = told.acquires;
    tries = told.tries;
    polls = told.polls;
    ends = record {
      freed_is = told.ends.freed_is;
      served = told.ends.served;
      left = told.ends.left + 1;
      void = told.ends.void;
      cancelled = told.ends.cancelled;
      owing = told.ends.owing;
      arrived = let e = told.ends.arrived in omega arith;
      gone_is = told.ends.gone_is;
      served_is = told.ends.served_is;
      left_is = counted-next told.ends.left c.releases.left x told.ends.left_is more;
      void_is = told.ends.void_is;
      cancelled_is = told.ends.cancelled_is;
      owing_is = told.ends.owing_is;
      late_is = told.ends.late_is;
    };
  })

  -- the same of one that was still on its way
  pub adds-then_left : (v w : View Entry T) (c : Counts) (x : ℕ) → CallRule v [] [] w
      → x ≡ one_more c.releases.left → Adds 1 0 v c w (record c { releases = record c.releases { left = x } })
  adds-then_left v w c x rule more = adds-call 1 0 v w c _ [] [] rule (λ t told. record {
    acquires = told.acquires;
    tries = told.tries;
    polls = told.polls;
    ends = record {
      freed_is = told.ends.freed_is;
      served = told.ends.served;
      left = told.ends.left + 1;
      void = told.ends.void;
      cancelled = told.ends.cancelled;
      owing = told.ends.owing;
      arrived = let e = told.ends.arrived in omega arith;
      gone_is = told.ends.gone_is;
      served_is = told.ends.served_is;
      left_is = counted-next told.ends.left c.releases.left x told.ends.left_is more;
      void_is = told.ends.void_is;
      cancelled_is = told.ends.cancelled_is;
      owing_is = told.ends.owing_is;
      late_is = told.ends.late_is;
    };
  })

  -- it turned back
  pub adds-void : (v w : View Entry T) (c : Counts) (x : ℕ) → CallRule v (entry.GiveSent v.number ∷ []) [] w
      → x ≡ one_more c.releases.void → Adds 0 0 v c w (record c { releases = record c.releases { void = x } })
  adds-void v w c x rule more = adds-call 0 0 v w c _ (entry.GiveSent v.number ∷ []) [] rule (λ t told. record {
    acquires = told.acquires;
    tries = told.tries;
    polls = told.polls;
    ends = record {
      freed_is = told.ends.freed_is;
      served = told.ends.served;
      left = told.ends.left;
      void = told.ends.void + 1;
      cancelled = told.ends.cancelled;
      owing = told.ends.owing;
      arrived = let e = told.ends.arrived in omega arith;
      gone_is = told.ends.gone_is;
      served_is = told.ends.served_is;
      left_is = told.ends.left_is;
      void_is = counted-next told.ends.void c.releases.void x told.ends.void_is more;
      cancelled_is = told.ends.cancelled_is;
      owing_is = told.ends.owing_is;
      late_is = told.ends.late_is;
    };
  })

  -- the same of one that was still on its way
  pub adds-then_void : (v w : View Entry T) (c : Counts) (x : ℕ) → CallRule v [] [] w
      → x ≡ one_more c.releases.void → Adds 1 0 v c w (record c { releases = record c.releases { void = x } })
  adds-then_void v w c x rule more = adds-call 1 0 v w c _ [] [] rule (λ t told. record {
    acquires = told.acquires;
    tries = told.tries;
    polls = told.polls;
    ends = record {
      freed_is = told.ends.freed_is;
      served = told.ends.served;
      left = told.ends.left;
      void = told.ends.void + 1;
      cancelled = told.ends.cancelled;
      owing = told.ends.owing;
      arrived = let e = told.ends.arrived in omega arith;
      gone_is = told.ends.gone_is;
      served_is = told.ends.served_is;
      left_is = told.ends.left_is;
      void_is = counted-next told.ends.void c.releases.void x told.ends.void_is more;
      cancelled_is = told.ends.cancelled_is;
      owing_is = told.ends.owing_is;
      late_is = told.ends.late_is;
    };
  })

  -- a wait was given up
  pub adds-cancelled : (v w : View Entry T) (c : Counts) (x k : ℕ) (further : List Entry)
      → CallRule v (entry.Leave v.number k ∷ []) (further) w
      → x ≡ one_more c.cancels.cancelled → Adds 0 0 v c w (record c { cancels = record c.cancels { cancelled = x } })
  adds-cancelled v w c x k further rule more =
      adds-call 0 0 v w c _ (entry.Leave v.number k ∷ []) (further) rule (λ t told. record {
        acquires = told.acquires;
        tries = told.tries;
        polls = told.polls;
        ends = record {
          freed_is = told.ends.freed_is;
          served = told.ends.served;
          left = told.ends.left;
          void = told.ends.void;
          cancelled = told.ends.cancelled + 1;
          owing = told.ends.owing;
          arrived = told.ends.arrived;
          gone_is = let e = told.ends.gone_is in omega arith;
          served_is = told.ends.served_is;
          left_is = told.ends.left_is;
          void_is = told.ends.void_is;
          cancelled_is = counted-next told.ends.cancelled c.cancels.cancelled x told.ends.cancelled_is more;
          owing_is = told.ends.owing_is;
          late_is = told.ends.late_is;
        };
      })

  -- and a permit that was left to it is still on its way
  pub adds-owing : (v w : View Entry T) (c : Counts) (x k : ℕ) (further : List Entry)
      → CallRule v (entry.Leave v.number k ∷ []) (further) w
      → x ≡ one_more c.cancels.owing → Adds 0 1 v c w (record c { cancels = record c.cancels { owing = x } })
  adds-owing v w c x k further rule more =
      adds-call 0 1 v w c _ (entry.Leave v.number k ∷ []) (further) rule (λ t told. record {
        acquires = told.acquires;
        tries = told.tries;
        polls = told.polls;
        ends = record {
          freed_is = told.ends.freed_is;
          served = told.ends.served;
          left = told.ends.left;
          void = told.ends.void;
          cancelled = told.ends.cancelled;
          owing = told.ends.owing + 1;
          arrived = let e = told.ends.arrived in omega arith;
          gone_is = let e = told.ends.gone_is in omega arith;
          served_is = told.ends.served_is;
          left_is = told.ends.left_is;
          void_is = told.ends.void_is;
          cancelled_is = told.ends.cancelled_is;
          owing_is = counted-next told.ends.owing c.cancels.owing x told.ends.owing_is more;
          late_is = told.ends.late_is;
        };
      })

  -- too late: its permit had come
  pub adds-late : (v w : View Entry T) (c : Counts) (x k : ℕ) (further : List Entry)
      → CallRule v (entry.Late v.number k ∷ []) (further) w
      → x ≡ one_more c.cancels.too_late → Adds 0 0 v c w (record c { cancels = record c.cancels { too_late = x } })
  adds-late v w c x k further rule more =
      adds-call 0 0 v w c _ (entry.Late v.number k ∷ []) (further) rule (λ t told. record {
        acquires = told.acquires;
        tries = told.tries;
        polls = told.polls;
        ends = record {
          freed_is = told.ends.freed_is;
          served = told.ends.served;
          left = told.ends.left;
          void = told.ends.void;
          cancelled = told.ends.cancelled;
          owing = told.ends.owing;
          arrived = told.ends.arrived;
          gone_is = told.ends.gone_is;
          served_is = told.ends.served_is;
          left_is = told.ends.left_is;
          void_is = told.ends.void_is;
          cancelled_is = told.ends.cancelled_is;
          owing_is = told.ends.owing_is;
          late_is = counted-next t.late c.cancels.too_late x told.ends.late_is more;
        };
      })

  -- a permit was sent, and is still on its way
  pub adds-sending : (v w : View Entry T) (c : Counts) → CallRule v (entry.GiveSent v.number ∷ []) [] w
      → Adds 0 1 v c w c
  adds-sending v w c rule = adds-call 0 1 v w c c (entry.GiveSent v.number ∷ []) [] rule (λ t told. record {
    acquires = told.acquires;
    tries = told.tries;
    polls = told.polls;
    ends = record {
      freed_is = told.ends.freed_is;
      served = told.ends.served;
      left = told.ends.left;
      void = told.ends.void;
      cancelled = told.ends.cancelled;
      owing = told.ends.owing;
      arrived = let e = told.ends.arrived in omega arith;
      gone_is = told.ends.gone_is;
      served_is = told.ends.served_is;
      left_is = told.ends.left_is;
      void_is = told.ends.void_is;
      cancelled_is = told.ends.cancelled_is;
      owing_is = told.ends.owing_is;
      late_is = told.ends.late_is;
    };
  })

  -- a call that handed a resumption back is counted, and nothing is told of that count
  pub adds-under : (v w : View Entry T) (c d : Counts) (x : ℕ) → Adds 1 1 v c w d
      → Adds 1 1 v c w (record d { releases = record d.releases { under = x } })
  adds-under v w c d x a = record {
    own = a.own;
    course = a.course;
    named = a.named;
    same = a.same;
    tells = λ es told. let t = a.tells es told in record {
      acquires = t.acquires;
      tries = t.tries;
      polls = t.polls;
      ends = record {
        freed_is = t.ends.freed_is;
        served = t.ends.served;
        left = t.ends.left;
        void = t.ends.void;
        cancelled = t.ends.cancelled;
        owing = t.ends.owing;
        arrived = t.ends.arrived;
        gone_is = t.ends.gone_is;
        served_is = t.ends.served_is;
        left_is = t.ends.left_is;
        void_is = t.ends.void_is;
        cancelled_is = t.ends.cancelled_is;
        owing_is = t.ends.owing_is;
        late_is = t.ends.late_is;
      };
    };
  }
