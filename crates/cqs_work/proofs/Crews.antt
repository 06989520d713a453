-- What the workers were told together, beside what was drawn.
use Rattle.std.proofs.Common.{◌≡◌, ◌≢◌, ◌⊎◌, inl, inr, ℕ, zero, suc, ◌+◌, ◌<◌, ◌≤◌, ◌%◌, ◌==◌, List, [], ◌∷◌, ◌++◌, Some, length, map, get_or, filter, flat_map, slice_get, refl, sym, ap, subst, ◌∙◌, arith, eq-eqb}
use Rattle.std.proofs.lemmas.Bool.{cases_lt}
use Rattle.std.proofs.lemmas.Option.{get_or_from_slice_get}
use Rattle.cqs_core.specs.Numbered.{IsIn}
use Rattle.cqs_core.specs.Parts.{part}
use Rattle.cqs_core.specs.declared.entries.Entry.{Entry}
use Rattle.cqs_core.specs.SemaphoreNames.{entry_names as permit_names}
use Rattle.cqs_core.specs.SemaphoreEntries.{IsLegal, object_after}
use Rattle.cqs_core.proofs.Places.{get-below, get-there, get-append_left}
use Rattle.cqs_turns_report.proofs.Mapped.{get-map}
use Rattle.cqs_plan.specs.declared.plans.kind.Kind.{Kind}
use Rattle.cqs_plan.specs.declared.plans.kind.Kind.TheVariants as kind
use Rattle.cqs_plan.specs.FloorHistory.{History, of_permits, of_elements, of_latch, of_rounds}
use Rattle.cqs_plan.specs.LegalFloor.{IsHistory}
use Rattle.cqs_floor_shared.specs.Entries.{own_history}
use Rattle.cqs_floor_shared.specs.Shared.{Shared, IsLegalAt, seen_at, kind_at}
use Rattle.cqs_work.specs.declared.waits.Waited.{Waited}
use Rattle.cqs_work.specs.declared.waits.WaitLine.{WaitLine}
use Rattle.cqs_work.specs.Later.{IsUnnamed}
use Rattle.cqs_work.specs.Noted.{Draw, draws, draws_in, HasPermits, told_at, as_draw}
use Rattle.cqs_work.specs.Rows.{WasTold, IsRow, AreLines, lines_from, lines_at}
use Rattle.cqs_work.specs.Worked.{pass_of, draw_of_line, AreWaits}
use Rattle.cqs_work.proofs.Rowing.{in-append}
use Rattle.cqs_work.proofs.Entering.{AreCounted, counted, draws-part, filter-in, told-drawn, drawn-told}

-- what one worker of a crew was told
pub record IsMember (floors : List Shared) (final : Shared) (i : ℕ) (f : Shared) (waits : List Waited) : Type 0 where
  pub own : (w : Waited) → IsIn w waits → w.job % length floors ≡ i
  pub noted : (at : ℕ) → HasPermits (kind_at final at)
      → draws_in (own_history f.number (seen_at final at)) ≡ map (as_draw f.number) (told_at at waits)

-- and each
pub record AreCrew (floors : List Shared) (told : List (List Waited)) (final : Shared) : Type 0 where
  pub long : length told ≡ length floors
  pub each : (i : ℕ) (f : Shared) (waits : List Waited) → slice_get floors i ≡ Some f → slice_get told i ≡ Some waits
      → IsMember floors final i f waits
  pub named : (at n : ℕ) → IsUnnamed n (seen_at final at)
      ⊎ ((i : ℕ) × (f : Shared) × (slice_get floors i ≡ Some f) × (n ≡ f.number))
  pub legal : (at : ℕ) → IsLegalAt final.board at (seen_at final at)

-- the history of a semaphore
permits-of : (size : ℕ) (h : History) → IsHistory (kind.Semaphore size) h
    → (l : List Entry) × (h ≡ of_permits l) × IsLegal size l
permits-of size (of_permits l) legal = (l, refl, legal.legal)
permits-of size (of_elements l) legal = absurd legal
permits-of size (of_latch l) legal = absurd legal
permits-of size (of_rounds all) legal = absurd legal

-- what was told to anybody
flat-in : (w : Waited) (told : List (List Waited)) → IsIn w (flat_map (λ own. own) told)
    → (i : ℕ) × (own : List Waited) × (slice_get told i ≡ Some own) × IsIn w own
flat-in w [] among = let got = among.there in absurd (cc)
flat-in w (own ∷ told) among =
    go (in-append w own (flat_map (λ l. l) told) among) (λ later. flat-in w told later)
  where
    go : IsIn w own ⊎ IsIn w (flat_map (λ l. l) told)
        → (IsIn w (flat_map (λ l. l) told)
        → (i : ℕ) × (l : List Waited) × (slice_get told i ≡ Some l) × IsIn w l)
        → (i : ℕ) × (l : List Waited) × (slice_get (own ∷ told) i ≡ Some l) × IsIn w l
    go (inl here) rest = (0, own, refl, here)
    go (inr later) rest = let it = rest later in (suc it.0, it.1, it.2, it.3)

in-behind : (w : Waited) (h l : List Waited) → IsIn w l → IsIn w (h ++ l)
in-behind w [] l there = there
in-behind w (y ∷ h) l there =
    let after : IsIn w (h ++ l) = in-behind w h l there in
    let next : after.place + 1 ≡ suc after.place = omega arith in
    record { place = after.place + 1; there = rw next after.there }

in-flat : (w : Waited) (told : List (List Waited)) (i : ℕ) (own : List Waited) → slice_get told i ≡ Some own
    → IsIn w own → IsIn w (flat_map (λ l. l) told)
in-flat w [] i own got among = absurd (cc)
in-flat w (l ∷ told) zero own got among =
    let same : l ≡ own = cc in
    let here : IsIn w l = subst (IsIn w) (sym same) among in
    record { place = here.place; there = get-append_left l (flat_map (λ l. l) told) here.place w here.there }
in-flat w (l ∷ told) (suc i) own got among =
    in-behind w l (flat_map (λ l. l) told) (in-flat w told i own got among)

-- a row whose lines are read as what was drawn
rows-are : (f : WaitLine → Draw) (at k : ℕ) (row : List ℕ) (l : List Draw) → length row ≡ length l
    → ((i j : ℕ) (d : Draw) → slice_get row i ≡ Some j → slice_get l i ≡ Some d
    → f (record { at = at; number = k + i; job = j }) ≡ d) → map f (lines_from at k row) ≡ l
rows-are f at k [] [] long same = refl
rows-are f at k [] (d ∷ l) long same = absurd (omega (arith, long))
rows-are f at k (j ∷ row) [] long same = absurd (omega (arith, long))
rows-are f at k (j ∷ row) (d ∷ l) long same =
    let none : k + 0 ≡ k = omega arith in
    let first : f (record { at = at; number = k; job = j }) ≡ d
    = ap (λ (n : ℕ). f (record { at = at; number = n; job = j })) (sym none) ∙ same 0 j d refl refl in
    let later : map f (lines_from at (suc k) row) ≡ l = rows-are f at (suc k) row l (omega (arith, long))
    (λ i x e got_x got_e. ap (λ (n : ℕ). f (record { at = at; number = n; job = x })) (further i)
    ∙ same (suc i) x e got_x got_e) in
    ap (λ x. x ∷ map f (lines_from at (suc k) row)) first ∙ ap (λ xs. d ∷ xs) later
  where
    further : (i : ℕ) → suc k + i ≡ k + suc i
    further i = omega arith

module _ (floors : List Shared) (told : List (List Waited)) (final : Shared) (crew : AreCrew floors told final) where
  abbrev flat : List Waited
  flat = flat_map (λ own. own) told

  -- who told it
  pub told-by : (at number job : ℕ) → WasTold (flat_map (λ own. own) told) at number job
      → (i : ℕ) × (f : Shared) × (waits : List Waited) × (slice_get floors i ≡ Some f) × (slice_get told i ≡ Some waits)
      × IsMember floors final i f waits × WasTold waits at number job
  told-by at number job t =
      let it = flat-in t.wait told t.among in
      let f : (f : Shared) × (slice_get floors it.0 ≡ Some f)
      = get-there floors it.0 (omega (arith, get-below told it.0 it.1 it.2, crew.long)) in (
        it.0,
        f.0,
        it.1,
        f.1,
        it.2,
        crew.each it.0 f.0 it.1 f.1 it.2,
        record { wait = t.wait; among = it.3; there = t.there; numbered = t.numbered; whose = t.whose },
      )

  -- the pass of its worker
  pass-is : (i : ℕ) (f : Shared) (job : ℕ) → slice_get floors i ≡ Some f → job % length floors ≡ i
      → pass_of floors job ≡ f.number
  pass-is i f job got own =
      ap (λ n. get_or (map (λ (x : Shared). x.number) floors) n 0) own
      ∙ get_or_from_slice_get (map (λ (x : Shared). x.number) floors) i f.number 0
      (get-map (λ (x : Shared). x.number) floors i f got)

  module _ (at size : ℕ) (is_kind : kind_at final at ≡ Some (kind.Semaphore size)) where
    history : (l : List Entry) × (seen_at final at ≡ of_permits l) × IsLegal size l
    history = permits-of size (seen_at final at) ((crew.legal at).legal (kind.Semaphore size) is_kind)

    permits : HasPermits (kind_at final at)
    permits = subst HasPermits (sym is_kind) tt

    abbrev l : List Entry
    l = history.0

    numbers : AreCounted (draws history.0) (object_after size history.0).next
    numbers = counted size history.0 history.2

    own-draws : (i : ℕ) (f : Shared) (waits : List Waited) → IsMember floors final i f waits
        → draws (part permit_names f.number history.0) ≡ map (as_draw f.number) (told_at at waits)
    own-draws i f waits member =
        ap (λ h. draws_in (own_history f.number h)) (sym history.1) ∙ member.noted at permits

    -- a number that was told is drawn, in its place
    told-place : (number job : ℕ) (i : ℕ) (f : Shared) (waits : List Waited) → IsMember floors final i f waits
        → WasTold waits at number job
        → slice_get (draws history.0) number ≡ Some (record { pass = f.number; number = number })
    told-place number job i f waits member t =
        let among : IsIn (record { pass = f.number; number = t.wait.number }) (draws history.0)
        = told-drawn history.0 f.number at waits (own-draws i f waits member) t.wait t.among t.there in
        let here : t.wait.number ≡ among.place = numbers.at among.place _ among.there in
        ap (slice_get (draws history.0)) (sym t.numbered ∙ here) ∙ among.there
        ∙ ap (λ (n : ℕ). Some (record { pass = f.number; number = n })) t.numbered

    -- a number that was drawn stands in the row with a job of the worker whose pass drew it
    spot : (row : List ℕ) → IsRow at (flat_map (λ own. own) told) row → (k : ℕ) (d : Draw)
        → slice_get (draws history.0) k ≡ Some d
        → (j : ℕ) × (slice_get row k ≡ Some j)
        × (draw_of_line floors (record { at = at; number = k; job = j }) ≡ d)
        × WasTold (flat_map (λ own. own) told) at k j
    spot row is k d got = go (crew.named at d.pass)
      where
        number_is : d.number ≡ k
        number_is = numbers.at k d got

        among : IsIn d (draws history.0)
        among = record { place = k; there = got }

        go : IsUnnamed d.pass (seen_at final at)
            ⊎ ((i : ℕ) × (f : Shared) × (slice_get floors i ≡ Some f) × (d.pass ≡ f.number))
            → (j : ℕ) × (slice_get row k ≡ Some j)
            × (draw_of_line floors (record { at = at; number = k; job = j }) ≡ d)
            × WasTold (flat_map (λ own. own) told) at k j
        go (inl unnamed) =
            let none : part permit_names d.pass history.0 ≡ [] = subst (IsUnnamed d.pass) history.1 unnamed in
            let sifted : IsIn d (filter (λ (x : Draw). x.pass == d.pass) (draws history.0))
            = filter-in (λ (x : Draw). x.pass == d.pass) d (draws history.0) among (eq-eqb d.pass d.pass refl) in
            let nowhere : IsIn d [] = subst (IsIn d) (sym (draws-part d.pass history.0) ∙ ap draws none) sifted in
            let there = nowhere.there in
            absurd (cc)
        go (inr (i, f, at_i, pass)) =
            let its : (waits : List Waited) × (slice_get told i ≡ Some waits)
            = get-there told i (omega (arith, get-below floors i f at_i, crew.long)) in
            let member = crew.each i f its.0 at_i its.1 in
            let d_own : d ≡ record { pass = f.number; number = d.number }
            = λ x. record { pass = pass x; number = d.number } in
            let found = drawn-told history.0 f.number at its.0 (own-draws i f its.0 member) d.number
            (subst (λ y. IsIn y (draws history.0)) d_own among) in
            let was : WasTold (flat_map (λ own. own) told) at k found.0.job = record {
              wait = found.0;
              among = in-flat found.0 told i its.0 its.1 found.1;
              there = found.2;
              numbered = found.3 ∙ number_is;
              whose = refl;
            } in
            let it = is.jobs k found.0.job was in
            let by = told-by at k it.0 it.2 in
            let theirs : slice_get (draws history.0) k ≡ Some (record { pass = by.1.number; number = k })
            = told-place k it.0 by.0 by.1 by.2 by.5 by.6 in
            let same : record { pass = by.1.number; number = k } ≡ d = cc in
            let own : it.0 % length floors ≡ by.0
            = ap (λ n. n % length floors) (sym by.6.whose) ∙ by.5.own by.6.wait by.6.among in (
              it.0,
              it.1,
              ap (λ (n : ℕ). record { pass = n; number = k }) (pass-is by.0 by.1 it.0 by.3 own) ∙ same,
              it.2,
            )

    row-short : (row : List ℕ) → IsRow at (flat_map (λ own. own) told) row → length row ≤ length (draws history.0)
    row-short row is =
        is.short (length (draws history.0))
        (λ number job t.
        let by = told-by at number job t in
        get-below (draws history.0) number _ (told-place number job by.0 by.1 by.2 by.5 by.6))

    row-long : (row : List ℕ) → IsRow at (flat_map (λ own. own) told) row → length (draws history.0) ≤ length row
    row-long row is = go (cases_lt (length row) (length (draws history.0)))
      where
        go : (length row < length (draws history.0)) ⊎ (length (draws history.0) ≤ length row)
            → length (draws history.0) ≤ length row
        go (inl short) =
            let d : (d : Draw) × (slice_get (draws history.0) (length row) ≡ Some d)
            = get-there (draws history.0) (length row) short in
            let it = spot row is (length row) d.0 d.1 in
            absurd (omega (arith, get-below row (length row) it.0 it.1))
        go (inr enough) = enough

    pub entered : (row : List ℕ) → IsRow at (flat_map (λ own. own) told) row
        → map (draw_of_line floors) (lines_from at 0 row) ≡ draws_in (seen_at final at)
    entered row is =
        rows-are (draw_of_line floors) at 0 row (draws history.0)
        (omega (arith, row-short row is, row-long row is)) same
        ∙ ap draws_in (sym history.1)
      where
        same : (i j : ℕ) (d : Draw) → slice_get row i ≡ Some j → slice_get (draws history.0) i ≡ Some d
            → draw_of_line floors (record { at = at; number = 0 + i; job = j }) ≡ d
        same i j d got_j got_d =
            let it = spot row is i d got_d in
            let whose : it.0 ≡ j = cc (it.1, got_j) in
            let none : 0 + i ≡ i = omega arith in
            ap (λ (n : ℕ). draw_of_line floors (record { at = at; number = n; job = j })) none
            ∙ ap (λ (n : ℕ). draw_of_line floors (record { at = at; number = i; job = n })) (sym whose) ∙ it.2

    -- a line of the row is of a wait that a job was told
    pub row-told : (row : List ℕ) → IsRow at (flat_map (λ own. own) told) row → (number job : ℕ)
        → slice_get row number ≡ Some job → WasTold (flat_map (λ own. own) told) at number job
    row-told row is number job got =
        let d : (d : Draw) × (slice_get (draws history.0) number ≡ Some d)
        = get-there (draws history.0) number (omega (arith, get-below row number job got, row-short row is)) in
        let it = spot row is number d.0 d.1 in
        let same : it.0 ≡ job = cc (it.1, got) in
        subst (WasTold (flat_map (λ own. own) told) at number) same it.3

-- a line of a row
line-in : (at k : ℕ) (row : List ℕ) (line : WaitLine) → IsIn line (lines_from at k row)
    → (i : ℕ) × (line.number ≡ k + i) × (slice_get row i ≡ Some line.job)
line-in at k [] line among = let got = among.there in absurd (cc)
line-in at k (j ∷ row) line among =
    go (in-append line (record { at = at; number = k; job = j } ∷ []) (lines_from at (suc k) row) among)
    (λ later. line-in at (suc k) row line later)
  where
    go : IsIn line (record { at = at; number = k; job = j } ∷ []) ⊎ IsIn line (lines_from at (suc k) row)
        → (IsIn line (lines_from at (suc k) row)
        → (i : ℕ) × (line.number ≡ suc k + i) × (slice_get row i ≡ Some line.job))
        → (i : ℕ) × (line.number ≡ k + i) × (slice_get (j ∷ row) i ≡ Some line.job)
    go (inl here) rest =
        let same : record { at = at; number = k; job = j } ≡ line = first here.place here.there in
        let none : k ≡ k + 0 = omega arith in
        (0, ap (λ (x : WaitLine). x.number) (sym same) ∙ none, ap (λ (x : WaitLine). Some x.job) same)
      where
        first : (i : ℕ) → slice_get (record { at = at; number = k; job = j } ∷ []) i ≡ Some line
            → record { at = at; number = k; job = j } ≡ line
        first zero got = cc
        first (suc i) got = absurd (cc)
    go (inr later) rest =
        let it = rest later in
        let further : suc k + it.0 ≡ k + suc it.0 = omega arith in
        (suc it.0, it.1 ∙ further, it.2)

semaphore-or : (k : Kind) → ((size : ℕ) × (k ≡ kind.Semaphore size)) ⊎ ((size : ℕ) → k ≢ kind.Semaphore size)
semaphore-or (kind.Semaphore size) = inl (size, refl)
semaphore-or kind.Mutex = inr (λ size e. absurd (cc))
semaphore-or (kind.Pool elements) = inr (λ size e. absurd (cc))
semaphore-or (kind.Latch count) = inr (λ size e. absurd (cc))
semaphore-or (kind.Rounds parties rounds) = inr (λ size e. absurd (cc))

module _ (floors : List Shared) (told : List (List Waited)) (final : Shared) (crew : AreCrew floors told final)
    (many : ℕ) (lines : List WaitLine) (kinds_many : many ≡ length final.board.kinds)
    (are : AreLines final.board.kinds (flat_map (λ own. own) told) many lines) where
  only : (k : ℕ) (line : WaitLine) → slice_get lines k ≡ Some line
      → (size : ℕ) × (kind_at final line.at ≡ Some (kind.Semaphore size))
  only k line got = go (semaphore-or its.0)
    where
      its : (x : Kind) × (slice_get final.board.kinds line.at ≡ Some x)
      its = get-there final.board.kinds line.at (omega (arith, are.below k line got, kinds_many))

      go : ((size : ℕ) × (its.0 ≡ kind.Semaphore size)) ⊎ ((size : ℕ) → its.0 ≢ kind.Semaphore size)
          → (size : ℕ) × (kind_at final line.at ≡ Some (kind.Semaphore size))
      go (inl (size, is)) = (size, its.1 ∙ ap Some is)
      go (inr other) =
          let none : lines_at line.at lines ≡ [] = are.others line.at its.0 its.1 other in
          let kept : IsIn line (lines_at line.at lines)
          = filter-in (λ (x : WaitLine). x.at == line.at) line lines (record { place = k; there = got })
          (eq-eqb line.at line.at refl) in
          let nowhere : IsIn line [] = subst (IsIn line) none kept in
          let there = nowhere.there in
          absurd (cc)

  pub waits-are : AreWaits floors final lines
  waits-are = record {
    in_order = are.in_order;
    entered = λ at size is_kind.
        let there = get-below final.board.kinds at (kind.Semaphore size) is_kind in
        let it = are.semaphores at size (omega (arith, there, kinds_many)) is_kind in
        ap (map (draw_of_line floors)) it.2 ∙ entered floors told final crew at size is_kind it.0 it.1;
    only = only;
  }

  pub line-told : (i : ℕ) (waits : List Waited) → slice_get told i ≡ Some waits → (k : ℕ) (line : WaitLine)
      → slice_get lines k ≡ Some line → line.job % length floors ≡ i → WasTold waits line.at line.number line.job
  line-told i waits got_waits k line got own =
      let sem = only k line got in
      let it = are.semaphores line.at sem.0 (are.below k line got) sem.1 in
      let kept : IsIn line (lines_at line.at lines)
      = filter-in (λ (x : WaitLine). x.at == line.at) line lines (record { place = k; there = got })
      (eq-eqb line.at line.at refl) in
      let among : IsIn line (lines_from line.at 0 it.0) = subst (IsIn line) it.2 kept in
      let place = line-in line.at 0 it.0 line among in
      let number_is : place.0 ≡ line.number = omega (arith, place.1) in
      let there : slice_get it.0 line.number ≡ Some line.job = ap (slice_get it.0) (sym number_is) ∙ place.2 in
      let by = told-by floors told final crew line.at line.number line.job
      (row-told floors told final crew line.at sem.0 sem.1 it.0 it.1 line.number line.job there) in
      let whose : line.job % length floors ≡ by.0
      = ap (λ n. n % length floors) (sym by.6.whose) ∙ by.5.own by.6.wait by.6.among in
      let same_some : Some by.2 ≡ Some waits
      = sym by.4 ∙ ap (slice_get told) (sym whose ∙ own) ∙ got_waits in
      let same : by.2 ≡ waits = cc in
      subst (λ l. WasTold l line.at line.number line.job) same by.6
