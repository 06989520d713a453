-- What an event that was made, and one that was refused, leave of a run.
use Rattle.std.proofs.Common.{◌≡◌, ◌⊎◌, inl, inr, ℕ, ◌+◌, ◌<◌, ◌≤◌, List, [], ◌∷◌, ◌++◌, take, get_or, length, Option, Some, None, Ok, Err, refl, sym, ap, ◌∙◌, subst, option_map, arith, IsErrOf}
use Rattle.std.specs.Prelude.{⊤}
use Rattle.std.proofs.lemmas.List.Sums.{fold_more}
use Rattle.std.proofs.lemmas.Option.{slice_get-get_or}
use Rattle.cqs_core.specs.declared.errors.CoreError.{CoreError}
use Rattle.cqs_core.specs.declared.errors.CoreError.TheVariants.{Memory, BadSize, NotEnabled}
use Rattle.cqs_core.specs.declared.events.Event.{Event}
use Rattle.cqs_core.specs.declared.outcomes.Outcome.{Outcome}
use Rattle.cqs_core.specs.SemaphoreAnswers.{Makes}
use Rattle.cqs_core.specs.SemaphoreTable.{Shape, Stepped, step}
use Rattle.cqs_core_run.specs.EventRuns.{Run, run_at, run_event, run_all, StopsAt}

-- an event that was made leads the run on, with its outcome behind the others
pub ran_on : (s new : Shape) (old told : List Outcome) (e : Event) (o : Outcome) → Makes (step s e) (Ok o) s new
    → told ≡ old ++ o ∷ []
    → run_event (Some (run_at s old)) e ≡ Some (run_at new told)
ran_on s new old told e o made added = rw added (go (step s e) made)
  where
    go : (row : Option Stepped) → Makes row (Ok o) s new
        → option_map {T = Stepped} {U = Run} (λ row. run_at row.shape (old ++ row.outcome ∷ [])) row
        ≡ Some (run_at new (old ++ o ∷ []))
    go (Some row) m = rw (m.0, m.1) refl
    go None m = absurd m

same-by : (row : Option Stepped) (why : CoreError) (old new : Shape) → Makes row (Err why) old new → new ≡ old
same-by (Some row) Memory old new m = m
same-by (Some row) BadSize old new m = absurd m
same-by (Some row) NotEnabled old new m = absurd m
same-by None Memory old new m = m
same-by None BadSize old new m = absurd m
same-by None NotEnabled old new m = m

-- an event that was refused leaves the core
pub refused_same : (s new : Shape) (e : Event) (why : CoreError) → Makes (step s e) (Err why) s new → new ≡ s
refused_same s new e why made = same-by (step s e) why s new made

-- and is refused there
pub refused_still : (s new : Shape) (e : Event) (why : CoreError) → Makes (step s e) (Err why) s new
    → Makes (step new e) (Err why) new new
refused_still s new e why made =
    let same : new ≡ s = refused_same s new e why made in
    subst (λ (n : Shape). Makes (step n e) (Err why) n n) (sym same)
    (subst (λ (n : Shape). Makes (step s e) (Err why) s n) same made)

-- being out of memory may refuse any event
pub memory_refuses : (s : Shape) (e : Event) (why : CoreError) → why ≡ Memory → Makes (step s e) (Err why) s s
memory_refuses s e why is = rw is (go (step s e))
  where
    go : (row : Option Stepped) → Makes row (Err Memory) s s
    go (Some row) = refl
    go None = refl

-- a list of events goes on by the next of them
pub goes_on : (r mid next : Run) (events : List Event) (n : ℕ) (d : Event) → n < length events
    → run_all r (take n events) ≡ Some mid → run_event (Some mid) (get_or events n d) ≡ Some next
    → run_all r (take (n + 1) events) ≡ Some next
goes_on r mid next events n d below before made =
    fold_more run_event (Some r) events n d below
    ∙ ap (λ q. run_event q (get_or events n d)) before
    ∙ made

-- or stops there
pub stops_at : (r : Run) (s new : Shape) (old told : List Outcome) (events : List Event) (n : ℕ) (d : Event)
    (why : CoreError) → n < length events → run_all r (take n events) ≡ Some (run_at s old)
    → new ≡ s → told ≡ old → Makes (step new (get_or events n d)) (Err why) new new
    → StopsAt events n why r (run_at new told)
stops_at r s new old told events n d why below before same kept refused =
    record {
      before = rw (same, kept) before;
      refusal = (get_or events n d, slice_get-get_or events n d below, refused);
    }

-- room that is gone at an event was no more than for those before it
pub short_there : (a b s o n : ℕ) (why : CoreError) → a ≤ s + n → b ≤ o + n
    → (IsErrOf {T = ⊤} (Err why) Memory → (s < 1) ⊎ (o < 1)) → why ≡ Memory → (a ≤ n) ⊎ (b ≤ n)
short_there a b s o n why core told short is = go (short (ap Err is))
  where
    go : (s < 1) ⊎ (o < 1) → (a ≤ n) ⊎ (b ≤ n)
    go (inl none) = inl (omega arith)
    go (inr none) = inr (omega arith)

pub ruleset one_event = (ran_on, refused_same, refused_still, memory_refuses)

pub ruleset each_event = (goes_on, stops_at, short_there)
