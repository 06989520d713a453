-- Each wait of a job stands in its line, or something was sent to it: what each deed at a resource keeps.
use Rattle.std.proofs.Common.{◌≡◌, ◌≢◌, ◌⊎◌, inl, inr, ℕ, ◌<◌, ◌≤◌, List, [], ◌∷◌, ◌++◌, true, Option, Some, None, length, slice_get, sym, ap, subst, ◌∙◌, arith}
use Rattle.std.proofs.lemmas.Bool.{cases_eq}
use Rattle.std.proofs.lemmas.List.{get_or-set_same, get_or-set_other, length-set}
use Rattle.cqs_plan.specs.declared.plans.resource.Resource.{Resource}
use Rattle.cqs_plan.specs.FloorHistory.{History, Deed, Standing, came_for, with_deed_in}
use Rattle.cqs_plan.specs.Floor.{PlainFloor, JobWait, Holding, came_to, history_at, size_at, stands_in, wait_of, with_done_in, with_wait}
use Rattle.cqs_plan.specs.FloorCalls.{is_in_line}
use Rattle.cqs_turns_report.specs.Lines.{is_pool_at}
use Rattle.cqs_turns_laws.specs.Events.{Line, Sends, WasSent}
use Rattle.cqs_turns_laws.proofs.DeedParts.{HasPart, IsOfKind, is_of_pool, kind-kept, part-kept, part-was, pool-kept}
use Rattle.cqs_turns_laws.proofs.Deeds.{HasSeats, IsElse, JoinsNext, came-after, came-away, line-after, next-after, seats-after, standing-away}
use Rattle.cqs_turns_laws.proofs.Lines.{in_line}
use Rattle.cqs_turns_laws.proofs.LineLemmas.{sent-longer, sent-now}
use Rattle.cqs_turns_laws.proofs.Objects.{history-here, history-else, standing-here, standing-else}

-- the wait stands in its line, or what came for it was sent to it
abbrev pub Expects : List Resource → PlainFloor → List Line → JobWait → Type 0
Expects resources f lines w =
    (is_in_line f w ≡ true) ⊎ WasSent resources w.at w.round w.number (came_to f w) lines

-- What happened at a resource is a history of its kind, and the numbers of a pool are its waits' own. Each job's wait
-- is its own, in a round of its resource, has its number from there, and stands in the line until something is sent to
-- it.
pub record AreLined (resources : List Resource) (f : PlainFloor) (lines : List Line) : Type 0 where
  pub sized : length f.histories ≡ length f.kinds
  pub kinds : (q : ℕ) → IsOfKind (slice_get f.kinds q) (history_at f q)
  pub sorts : (q : ℕ) → is_of_pool (history_at f q) ≡ is_pool_at resources q
  pub seated : (q : ℕ) → HasSeats (size_at f q) (history_at f q)
  pub expects : (j : ℕ) (w : JobWait) → wait_of f j ≡ Some w → Expects resources f lines w
  pub parts : (j : ℕ) (w : JobWait) → wait_of f j ≡ Some w → HasPart (history_at f w.at) w.round
  pub below : (j : ℕ) (w : JobWait) → wait_of f j ≡ Some w → w.number < (stands_in f w.at w.round).next
  pub apart : (i j : ℕ) (w : JobWait) → wait_of f i ≡ Some w → wait_of f j ≡ Some w → i ≡ j

-- the floor after a deed at a resource, with this room and these waits, holdings and rounds
abbrev pub changed_floor
    : PlainFloor → ℕ → ℕ → Deed → List ℕ → List (Option JobWait) → List (List Holding) → List (List ℕ) → PlainFloor
changed_floor f at round deed room waits holds rounds = record {
  kinds = f.kinds;
  histories = (with_done_in f at round deed).histories;
  room = room;
  waits = waits;
  holds = holds;
  rounds = rounds;
}

module _ (resources : List Resource) (f : PlainFloor) (lines : List Line) (lined : AreLined resources f lines)
    (at round : ℕ) (deed : Deed) (there : at < length f.histories) (part : HasPart (history_at f at) round)
    (room : List ℕ) (waits : List (Option JobWait)) (holds : List (List Holding)) (rounds : List (List ℕ))
    (line : Line) where
  abbrev g : PlainFloor
  g = changed_floor f at round deed room waits holds rounds

  abbrev then : History
  then = with_deed_in (size_at f at) (history_at f at) round deed

  -- the wait isn't one that the deed is about, or it is one to which something was sent
  abbrev pub Goes : JobWait → Type 0
  Goes w =
      IsElse (stands_in f at round).next w.number deed
      ⊎ Sends resources at round w.number (came_for (size_at f at) then w.number) line.told

  -- a round that the resource has, it has
  pub part-on : (q r : ℕ) → HasPart (history_at f q) r → HasPart (history_at g q) r
  part-on q r own = go (cases_eq q at) where
    go : (q ≡ at) ⊎ (q ≢ at) → HasPart (history_at g q) r
    go (inl here) =
        rw here (subst (λ h. HasPart h r) (sym (history-here f at round deed there))
        (part-kept (size_at f at) (history_at f at) round r deed (rw here at own)))
    go (inr other) = subst (λ h. HasPart h r) (sym (history-else f at round deed q other)) own

  pub part-before : (q r : ℕ) → HasPart (history_at g q) r → HasPart (history_at f q) r
  part-before q r own = go (cases_eq q at) where
    go : (q ≡ at) ⊎ (q ≢ at) → HasPart (history_at f q) r
    go (inl here) =
        rw here (part-was (size_at f at) (history_at f at) round r deed
        (subst (λ h. HasPart h r) (history-here f at round deed there) (rw here at own)))
    go (inr other) = subst (λ h. HasPart h r) (history-else f at round deed q other) own

  expects-here : (w : JobWait) → w.at ≡ at → w.round ≡ round → Goes w → Expects resources f lines w
      → Expects resources g (lines ++ line ∷ []) w
  expects-here w here same_round (inl other) (inl stands) =
      let now : in_line w.number (stands_in g at round).line ≡ true
      = ap (λ (s : Standing). in_line w.number s.line) (standing-here f at round deed round there)
      ∙ line-after (size_at f at) (history_at f at) round deed w.number part other (rw (here, same_round) at stands) in
      inl (rw (here, same_round) now)
  expects-here w here same_round (inl other) (inr sent) =
      let came : came_for (size_at f at) (history_at g at) w.number ≡ came_for (size_at f at) (history_at f at) w.number
      = ap (λ h. came_for (size_at f at) h w.number) (history-here f at round deed there)
      ∙ came-after (size_at f at) (history_at f at) round deed w.number other in
      let same : came_to g w ≡ came_to f w = rw here came in
      inr (rw same (sent-longer resources w.at w.round w.number (came_to f w) lines line sent))
  expects-here w here same_round (inr sends) either =
      let came : came_for (size_at f at) (history_at g at) w.number ≡ came_for (size_at f at) then w.number
      = ap (λ h. came_for (size_at f at) h w.number) (history-here f at round deed there) in
      inr (rw (here, same_round, came) (sent-now resources at round w.number (came_for (size_at f at) then w.number)
      lines line sends))

  -- a wait in another round of the resource
  expects-away : (w : JobWait) → w.at ≡ at → w.round ≢ round → HasPart (history_at f at) w.round
      → Expects resources f lines w
      → Expects resources g (lines ++ line ∷ []) w
  expects-away w here other own (inl stands) =
      let now : in_line w.number (stands_in g at w.round).line ≡ true
      = ap (λ (s : Standing). in_line w.number s.line) (standing-here f at round deed w.round there
      ∙ standing-away (size_at f at) (history_at f at) round w.round deed part own other)
      ∙ rw here at stands in
      inl (rw here now)
  expects-away w here other own (inr sent) =
      let came : came_for (size_at f at) (history_at g at) w.number ≡ came_for (size_at f at) (history_at f at) w.number
      = ap (λ h. came_for (size_at f at) h w.number) (history-here f at round deed there)
      ∙ came-away (size_at f at) (history_at f at) round w.round deed w.number part own other in
      let same : came_to g w ≡ came_to f w = rw here came in
      inr (rw same (sent-longer resources w.at w.round w.number (came_to f w) lines line sent))

  expects-else : (w : JobWait) → w.at ≢ at → Expects resources f lines w → Expects resources g (lines ++ line ∷ []) w
  expects-else w other (inl stands) =
      inl (ap (λ (s : Standing). in_line w.number s.line) (standing-else f at round deed w.at w.round other) ∙ stands)
  expects-else w other (inr sent) =
      let same : came_to g w ≡ came_to f w
      = ap (λ h. came_for (size_at f w.at) h w.number) (history-else f at round deed w.at other) in
      inr (rw same (sent-longer resources w.at w.round w.number (came_to f w) lines line sent))

  -- a wait that was expected still is
  pub expects-on : (w : JobWait) → (w.at ≡ at → w.round ≡ round → Goes w) → HasPart (history_at f w.at) w.round
      → Expects resources f lines w
      → Expects resources g (lines ++ line ∷ []) w
  expects-on w goes own before = go (cases_eq w.at at) (cases_eq w.round round) where
    go : (w.at ≡ at) ⊎ (w.at ≢ at) → (w.round ≡ round) ⊎ (w.round ≢ round)
        → Expects resources g (lines ++ line ∷ []) w
    go (inl here) (inl same) = expects-here w here same (goes here same) before
    go (inl here) (inr other) = expects-away w here other (rw here at own) before
    go (inr other) either = expects-else w other before

  pub next-on : (q r : ℕ) → HasPart (history_at f q) r → (stands_in f q r).next ≤ (stands_in g q r).next
  next-on q r own = go (cases_eq q at) (cases_eq r round) where
    go : (q ≡ at) ⊎ (q ≢ at) → (r ≡ round) ⊎ (r ≢ round) → (stands_in f q r).next ≤ (stands_in g q r).next
    go (inl here) (inl same) =
        rw (here, same) (omega (
          arith,
          ap (λ (s : Standing). s.next) (standing-here f at round deed round there),
          next-after (size_at f at) (history_at f at) round deed part,
        ))
    go (inl here) (inr away) =
        let here_part : HasPart (history_at f at) r = rw here at own in
        rw here (omega (
          arith,
          ap (λ (s : Standing). s.next) (standing-here f at round deed r there),
          ap (λ (s : Standing). s.next)
              (standing-away (size_at f at) (history_at f at) round r deed part here_part away),
        ))
    go (inr other) either = omega (arith, ap (λ (s : Standing). s.next) (standing-else f at round deed q r other))

  pub sized-on : length g.histories ≡ length g.kinds
  sized-on = length-set f.histories at then ∙ lined.sized

  pub kinds-on : (q : ℕ) → IsOfKind (slice_get g.kinds q) (history_at g q)
  kinds-on q = go (cases_eq q at) where
    go : (q ≡ at) ⊎ (q ≢ at) → IsOfKind (slice_get f.kinds q) (history_at g q)
    go (inl here) =
        rw here (subst (IsOfKind (slice_get f.kinds at)) (sym (history-here f at round deed there))
        (kind-kept (slice_get f.kinds at) (size_at f at) (history_at f at) round deed (lined.kinds at)))
    go (inr other) =
        subst (IsOfKind (slice_get f.kinds q)) (sym (history-else f at round deed q other)) (lined.kinds q)

  pub sorts-on : (q : ℕ) → is_of_pool (history_at g q) ≡ is_pool_at resources q
  sorts-on q = go (cases_eq q at) where
    go : (q ≡ at) ⊎ (q ≢ at) → is_of_pool (history_at g q) ≡ is_pool_at resources q
    go (inl here) =
        rw here (ap is_of_pool (history-here f at round deed there)
        ∙ pool-kept (size_at f at) (history_at f at) round deed ∙ lined.sorts at)
    go (inr other) = ap is_of_pool (history-else f at round deed q other) ∙ lined.sorts q

  pub seated-on : JoinsNext (stands_in f at round).next deed → (q : ℕ) → HasSeats (size_at g q) (history_at g q)
  seated-on fits q = go (cases_eq q at) where
    go : (q ≡ at) ⊎ (q ≢ at) → HasSeats (size_at f q) (history_at g q)
    go (inl here) =
        rw here (subst (HasSeats (size_at f at)) (sym (history-here f at round deed there))
        (seats-after (size_at f at) (history_at f at) round deed fits (lined.seated at)))
    go (inr other) = subst (HasSeats (size_at f q)) (sym (history-else f at round deed q other)) (lined.seated q)

  -- where nobody waits anew
  pub calm-on : JoinsNext (stands_in f at round).next deed
      → ((j : ℕ) (w : JobWait) → wait_of g j ≡ Some w → wait_of f j ≡ Some w)
      → ((j : ℕ) (w : JobWait) → wait_of g j ≡ Some w → w.at ≡ at → w.round ≡ round → Goes w)
      → AreLined resources g (lines ++ line ∷ [])
  calm-on fits were goes = record {
    sized = sized-on;
    kinds = kinds-on;
    sorts = sorts-on;
    seated = seated-on fits;
    expects = λ j w has.
        expects-on w (goes j w has) (lined.parts j w (were j w has)) (lined.expects j w (were j w has));
    parts = λ j w has. part-on w.at w.round (lined.parts j w (were j w has));
    below = λ j w has.
        omega (
          arith,
          lined.below j w (were j w has),
          next-on w.at w.round (lined.parts j w (were j w has)),
        );
    apart = λ i j w first second. lined.apart i j w (were i w first) (were j w second);
  }

-- one job's wait is gone, the others have theirs
pub wait-gone : (f : PlainFloor) (job j : ℕ) (w : JobWait) → job < length f.waits
    → wait_of (with_wait f job None) j ≡ Some w → (j ≢ job) × (wait_of f j ≡ Some w)
wait-gone f job j w there has = go (cases_eq j job)
  where
    go : (j ≡ job) ⊎ (j ≢ job) → (j ≢ job) × (wait_of f j ≡ Some w)
    go (inl same) =
        let none : wait_of (with_wait f job None) job ≡ None = get_or-set_same f.waits job None None there in
        let some : wait_of (with_wait f job None) job ≡ Some w = rw same at has in
        absurd (cc)
    go (inr other) = (other, sym (get_or-set_other f.waits job j None None other) ∙ has)
