-- Posts, floors, states and ends, one after the other.
use Rattle.std.proofs.Common.{◌≡◌, ◌⊎◌, inl, inr, ℕ, ◌+◌, ◌<◌, ◌≤◌, ◌%◌, List, [], ◌∷◌, ◌++◌, Some, Result, Ok, length, map, get_or, take, drop, slice_get, refl, sym, ap, subst, ◌∙◌, arith}
use Rattle.std.proofs.lemmas.Bool.{cases_lt}
use Rattle.std.proofs.lemmas.List.{length_push, length-map}
use Rattle.std.proofs.lemmas.Option.{get_or_from_slice_get, slice_get-get_or}
use Rattle.cqs_core.specs.Numbered.{EachAt}
use Rattle.cqs_core.specs.declared.Memory.{Memory}
use Rattle.cqs_core.proofs.EachAtLemmas.{EachAt-push}
use Rattle.cqs_core.proofs.Places.{get-append_left, get-append_below, get-push_at, get-below}
use Rattle.cqs_turns_report.specs.declared.states.JobState.{JobState}
use Rattle.cqs_turns_report.proofs.Mapped.{get-map}
use Rattle.cqs_work.specs.declared.ends.JobEnd.{JobEnd}
use Rattle.cqs_work.specs.declared.waits.Waited.{Waited}
use Rattle.cqs_work.specs.declared.works.Post.{Post}
use Rattle.cqs_work.specs.declared.works.Worker.{Worker}
use Rattle.cqs_work.specs.Ends.{job_end}
use Rattle.cqs_work.specs.Opening.{IsStarting, AreStarting, ArePosts}
use Rattle.cqs_work.specs.Stages.{Stage, stage_of, stages_of, progress_at, done_stage}
use Rattle.cqs_work.specs.Worked.{IsParted, AreParted, AreEnds}

pub starting-none : (workers worker : ℕ) (states : List JobState) → states ≡ [] → AreStarting 0 workers worker states
starting-none workers worker states none = rw none (record
    { long = refl; each = record { at = λ i x got. absurd (cc) } })

pub starting-push : (jobs workers worker : ℕ) (states : List JobState) (state : JobState)
    → AreStarting jobs workers worker states → IsStarting workers worker jobs state
    → AreStarting (jobs + 1) workers worker (states ++ state ∷ [])
starting-push jobs workers worker states state are here = record {
  long = omega (arith, length_push states state, are.long);
  each = EachAt-push (IsStarting workers worker) (IsStarting workers worker) states state
      (subst (λ n. IsStarting workers worker n state) (sym are.long) here) (λ i x got old. old) are.each;
}

module _ {F : Type 0} where
  pub posts-none : (jobs workers : ℕ) (posts : List (Post F)) → posts ≡ [] → ArePosts {F = F} jobs workers [] posts
  posts-none jobs workers posts none = rw none (record {
    long = refl;
    its_floor = λ i post got. absurd (cc);
    states = record { at = λ i x got. absurd (cc) };
    numbers = record { at = λ i x got. absurd (cc) };
  })

  pub posts-push : (jobs workers : ℕ) (floors : List F) (posts : List (Post F)) (post : Post F)
      → ArePosts jobs workers floors posts → AreStarting jobs workers (length posts) post.states.items
      → post.worker ≡ length posts
      → ArePosts jobs workers (floors ++ post.floor ∷ []) (posts ++ post ∷ [])
  posts-push jobs workers floors posts post are here number = record {
    long = omega (arith, length_push posts post, length_push floors post.floor, are.long);
    its_floor = λ i p got. its-floor i p got (push-at i p got (cases_lt i (length posts)));
    states = EachAt-push (λ worker p. AreStarting jobs workers worker p.states.items)
        (λ worker p. AreStarting jobs workers worker p.states.items) posts post here (λ i x got old. old) are.states;
    numbers = EachAt-push (λ worker p. p.worker ≡ worker) (λ worker p. p.worker ≡ worker) posts post number
        (λ i x got old. old) are.numbers;
  }
    where
      push-at : (i : ℕ) (p : Post F) → slice_get (posts ++ post ∷ []) i ≡ Some p
          → (i < length posts) ⊎ (length posts ≤ i) → (slice_get posts i ≡ Some p) ⊎ ((i ≡ length posts) × (post ≡ p))
      push-at i p got (inl below) = inl (sym (get-append_below posts (post ∷ []) i below) ∙ got)
      push-at i p got (inr past) =
          let short : i < length (posts ++ post ∷ []) = get-below (posts ++ post ∷ []) i p got in
          let here : i ≡ length posts = omega (arith, past, short, length_push posts post) in
          let now : slice_get (posts ++ post ∷ []) i ≡ Some post = get-push_at posts post i here in
          let same : post ≡ p = cc in
          inr (here, same)

      its-floor : (i : ℕ) (p : Post F) → slice_get (posts ++ post ∷ []) i ≡ Some p
          → (slice_get posts i ≡ Some p) ⊎ ((i ≡ length posts) × (post ≡ p))
          → slice_get (floors ++ post.floor ∷ []) i ≡ Some p.floor
      its-floor i p got (inl before) = get-append_left floors (post.floor ∷ []) i p.floor (are.its_floor i p before)
      its-floor i p got (inr (at, same)) =
          get-push_at floors post.floor i (at ∙ are.long) ∙ ap (λ (x : Post F). Some x.floor) same

  -- of the worker whose number is the next
  pub posts-next : (jobs workers worker : ℕ) (floors : List F) (posts : List (Post F)) (post : Post F)
      → ArePosts jobs workers floors posts → worker ≡ length posts
      → AreStarting jobs workers worker post.states.items → post.worker ≡ worker
      → ArePosts jobs workers (floors ++ post.floor ∷ []) (posts ++ post ∷ [])
  posts-next jobs workers worker floors posts post are next here number =
      posts-push jobs workers floors posts post are
      (subst (λ n. AreStarting jobs workers n post.states.items) next here) (number ∙ next)

  pub parted-none : (floors : List F) (states : List (List JobState)) (waits : List (List Waited)) → floors ≡ []
      → states ≡ [] → waits ≡ [] → AreParted {F = F} [] floors states waits
  parted-none floors states waits no_floors no_states no_waits = rw (no_floors, no_states, no_waits) (record {
    floors_long = refl;
    states_long = refl;
    waits_long = refl;
    each = record { at = λ i x got. absurd (cc) };
  })

  pub parted-push : (workers : List (Result (Worker F) Memory)) (floors : List F) (states : List (List JobState))
      (waits : List (List Waited)) (r : Result (Worker F) Memory) (worker : Worker F) → r ≡ Ok worker
      → AreParted workers floors states waits
      → AreParted (workers ++ r ∷ []) (floors ++ worker.floor ∷ []) (states ++ worker.states.items ∷ [])
      (waits ++ worker.waits.items ∷ [])
  parted-push workers floors states waits r worker is are = record {
    floors_long = omega (
      arith,
      length_push floors worker.floor,
      length_push workers r,
      are.floors_long,
    );
    states_long = omega (
      arith,
      length_push states worker.states.items,
      length_push workers r,
      are.states_long,
    );
    waits_long = omega (
      arith,
      length_push waits worker.waits.items,
      length_push workers r,
      are.waits_long,
    );
    each = EachAt-push (λ i x. IsParted i x floors states waits)
        (λ i x. IsParted i x (floors ++ worker.floor ∷ []) (states ++ worker.states.items ∷ [])
        (waits ++ worker.waits.items ∷ [])) workers r
        (record {
          worker = worker;
          is = is;
          floor = get-push_at floors worker.floor (length workers) (sym are.floors_long);
          own = get-push_at states worker.states.items (length workers) (sym are.states_long);
          told = get-push_at waits worker.waits.items (length workers) (sym are.waits_long);
        })
        (λ i x got old. record {
          worker = old.worker;
          is = old.is;
          floor = get-append_left floors (worker.floor ∷ []) i old.worker.floor old.floor;
          own = get-append_left states (worker.states.items ∷ []) i old.worker.states.items old.own;
          told = get-append_left waits (worker.waits.items ∷ []) i old.worker.waits.items old.told;
        })
        are.each;
  }

  -- the first of a list, and the others
  pub first-of : (items rest : List F) (x : F) → 0 < length items → x ≡ get_or items 0 x
      → rest ≡ take 0 items ++ drop (0 + 1) items → items ≡ x ∷ rest
  first-of [] rest x some is gone = absurd (omega (arith, some))
  first-of (y ∷ ys) rest x some is gone = ap (λ z. z ∷ ys) (sym is) ∙ ap (λ l. x ∷ l) (sym gone)

pub ends-none : (states : List (List JobState)) (ends : List JobEnd) → ends ≡ [] → AreEnds 0 states ends
ends-none states ends none = rw none (record { long = refl; at = λ place below own got. absurd (omega (arith, below)) })

pub ends-push : (place : ℕ) (states : List (List JobState)) (ends : List JobEnd) (e : JobEnd)
    → AreEnds place states ends
    → ((own : List JobState) → slice_get states (place % length states) ≡ Some own
    → e ≡ job_end (progress_at (stages_of own) place)) → AreEnds (place + 1) states (ends ++ e ∷ [])
ends-push place states ends e are here = record {
  long = omega (arith, length_push ends e, are.long);
  at = λ p below own got. go p below own got (cases_lt p place);
}
  where
    go : (p : ℕ) → p < place + 1 → (own : List JobState) → slice_get states (p % length states) ≡ Some own
        → (p < place) ⊎ (place ≤ p) → slice_get (ends ++ e ∷ []) p ≡ Some (job_end (progress_at (stages_of own) p))
    go p below own got (inl before) =
        get-append_left ends (e ∷ []) p (job_end (progress_at (stages_of own) p)) (are.at p before own got)
    go p below own got (inr past) =
        let now : p ≡ place = omega (arith, below, past) in
        let there : slice_get states (place % length states) ≡ Some own
        = ap (λ n. slice_get states (n % length states)) (sym now) ∙ got in
        get-push_at ends e p (now ∙ sym are.long)
        ∙ ap Some (here own there ∙ ap (λ n. job_end (progress_at (stages_of own) n)) (sym now))

-- the next job's end, read off the worker that had it
pub ends-next : {S : Type 0} (items : S → List JobState) (jobs place workers worker : ℕ) (states : List S) (own : S)
    (list : List JobState) (d : JobState) (e : JobEnd) (ends : List JobEnd) → AreEnds place (map items states) ends
    → place < jobs → EachAt (λ i s. length (items s) ≡ jobs) states → workers ≡ length states
    → worker ≡ place % workers → worker < length states → own ≡ get_or states worker own → list ≡ items own
    → e ≡ job_end (get_or list place d).progress → AreEnds (place + 1) (map items states) (ends ++ e ∷ [])
ends-next {S} items jobs place workers worker states own list d e ends are below long number whose there is_own is_list
    is_end =
    ends-push place (map items states) ends e are here
  where
    own_got : slice_get states worker ≡ Some own
    own_got = slice_get-get_or states worker own there ∙ ap Some (sym is_own)

    at_worker : place % length (map items states) ≡ worker
    at_worker = ap (λ n. place % n) (length-map states items ∙ sym number) ∙ sym whose

    short : place < length list
    short = omega (arith, below, long.at worker own own_got, ap length is_list)

    got_state : slice_get list place ≡ Some (get_or list place d)
    got_state = slice_get-get_or list place d short

    here : (other : List JobState) → slice_get (map items states) (place % length (map items states)) ≡ Some other
        → e ≡ job_end (progress_at (stages_of other) place)
    here other got =
        let mine : slice_get (map items states) worker ≡ Some (items own) = get-map items states worker own own_got in
        let same_some : Some (items own) ≡ Some other
        = sym mine ∙ ap (slice_get (map items states)) (sym at_worker) ∙ got in
        let same : items own ≡ other = cc in
        let found : progress_at (stages_of list) place ≡ (get_or list place d).progress
        = ap (λ (s : Stage). s.progress)
        (get_or_from_slice_get (stages_of list) place (stage_of (get_or list place d)) done_stage
        (get-map (λ (s : JobState). stage_of s) list place (get_or list place d) got_state)) in
        is_end ∙ ap job_end (sym found) ∙ ap (λ l. job_end (progress_at (stages_of l) place)) (is_list ∙ same)
