-- A worker on its way through the lines.
use Rattle.std.proofs.Common.{◌≡◌, ◌≢◌, ◌⊎◌, inl, inr, ◌==◌, ℕ, zero, suc, ◌+◌, ◌<◌, ◌≤◌, Bool, List, [], ◌∷◌, ◌++◌, length, map, drop, set, filter, get_or, slice_get, Option, Some, None, refl, sym, ap, ◌∙◌, subst, arith, append_assoc, append-nil, true, false, true≢false, eq-eqb, ne_eqb, if◌then◌else◌}
use Rattle.std.proofs.lemmas.List.{map-append}
use Rattle.std.proofs.lemmas.Bool.{cases_eq}
use Rattle.std.proofs.Math.Seq.{drop-cons}
use Rattle.cqs_core.specs.declared.entries.Entry.{Entry}
use Rattle.cqs_core.proofs.Places.{get-set_here, get-set_else}
use Rattle.cqs_limiter_requests.specs.declared.asks.Line.{Line}
use Rattle.cqs_limiter_requests.specs.declared.asks.LimitOutcome.{LimitOutcome}
use Rattle.cqs_limiter_requests.specs.Replies.{Tenancy, after_line, entries_of, after_ask, after_asks, entries_in, outcome_of, outcomes}
use Rattle.cqs_limiter_workers.specs.declared.notes.Notes.{Notes}
use Rattle.cqs_limiter_workers.specs.declared.notes.Noted.{Noted}
use Rattle.cqs_limiter_workers.specs.Noting.{IsOf, AreOf, noted_value}
use Rattle.cqs_limiter_workers.specs.Sights.{Sight, IsNext, Serves, own}
use Rattle.cqs_limiter_workers.specs.Serving.{outcome_at, has, is_there, AllBelow, AreSeated, CanServe, HasServed}

pub of-push : (notes : Notes) (tokens : List Noted) (token : Noted) → AreOf notes tokens → IsOf notes token
    → AreOf notes (tokens ++ token ∷ [])
of-push notes [] token all new = (new, tt)
of-push notes (t ∷ ts) token all new = (all.0, of-push notes ts token all.1 new)

below-rest : (n : ℕ) (lines : List Line) (i : ℕ) (d : Line) → AllBelow n lines → i < length lines
    → (get_or lines i d).tenant < n
below-rest n [] i d all low = absurd (omega (arith, low))
below-rest n (line ∷ lines) zero d all low = all.0
below-rest n (line ∷ lines) (suc i) d all low = below-rest n lines i d all.1 (omega (arith, low))

drop-past : (lines : List Line) (n : ℕ) → length lines ≤ n → drop n lines ≡ []
drop-past [] zero past = refl
drop-past [] (suc n) past = refl
drop-past (line ∷ lines) zero past = absurd (omega (arith, past))
drop-past (line ∷ lines) (suc n) past = drop-past lines n (omega (arith, past))

-- the entries of a tenant so far, with those of one line more
abbrev pub more_came : (ℕ → Tenancy) → (ℕ → List Entry) → Line → ℕ → List Entry
more_came now came line t = came t ++ (if t == line.tenant then entries_of (now t) line else [])

module _ {X : Type 0} (s : Sight X) where
  -- How the tenants stand that the worker has, and what is left, where all stood so at first.
  pub record IsOnWay (all : ℕ → Tenancy) (first : List (Option X)) (lines : List Line) (desks : List (Option X))
      (tokens : List Noted) (left : List Line) : Type 0 where
    pub now : ℕ → Tenancy
    pub came : ℕ → List Entry
    pub seated : AreSeated s now came left desks
    pub values : map noted_value tokens ++ filter (λ o. has first o.tenant) (outcomes now left)
        ≡ filter (λ o. has first o.tenant) (outcomes all lines)
    pub seen : (t : ℕ) → came t ++ entries_in now t left ≡ entries_in all t lines
    pub ends : (t : ℕ) → after_asks now left t ≡ after_asks all lines t

  -- of any way in which they stood at first
  pub record IsWorking (notes : Notes) (told : ℕ → Bool) (first : List (Option X)) (lines : List Line)
      (desks : List (Option X)) (tokens : List Noted) (index : ℕ) : Type 0 where
    pub long : length desks ≡ length first
    pub same : (t : ℕ) → has desks t ≡ has first t
    pub of : AreOf notes tokens
    pub few : length tokens ≤ index
    pub gated : (request : ℕ) → 0 < request → request ≤ length tokens → told request ≡ true
    pub each : (all : ℕ → Tenancy) → AreSeated s all (λ t. []) lines first
        → IsOnWay all first lines desks tokens (drop index lines)

  pub starts : (notes : Notes) (told : ℕ → Bool) (first : List (Option X)) (lines : List Line)
      → IsWorking notes told first lines first [] 0
  starts notes told first lines = record {
    long = refl;
    same = λ t. refl;
    of = tt;
    few = omega arith;
    gated = λ request some most. absurd (omega (arith, some, most));
    each = λ all seated. record {
      now = all;
      came = λ t. [];
      seated = seated;
      values = refl;
      seen = λ t. refl;
      ends = λ t. refl;
    };
  }

  ends_now : (all now : ℕ → Tenancy) (lines left : List Line) (line : Line)
      → ((t : ℕ) → after_asks now (line ∷ left) t ≡ after_asks all lines t)
      → (t : ℕ) → after_asks (after_ask now line) left t ≡ after_asks all lines t
  ends_now all now lines left line ends t = ends t

  seen_now : (all now : ℕ → Tenancy) (came : ℕ → List Entry) (lines left : List Line) (line : Line)
      → ((t : ℕ) → came t ++ entries_in now t (line ∷ left) ≡ entries_in all t lines)
      → (t : ℕ) → more_came now came line t ++ entries_in (after_ask now line) t left ≡ entries_in all t lines
  seen_now all now came lines left line seen t =
      append_assoc (came t) (if t == line.tenant then entries_of (now t) line else [])
      (entries_in (after_ask now line) t left) ∙ seen t

  -- what another tenant's line leaves of a tenant
  abbrev Stands : (ℕ → Tenancy) → (ℕ → List Entry) → List Line → ℕ → X → Type 0
  Stands now came left t x = (s.standing x ≡ now t) × (s.seen x ≡ came t) × s.fits x (own t left)

  other-stands : (now : ℕ → Tenancy) (came : ℕ → List Entry) (line : Line) (left : List Line) (t : ℕ) (x : X)
      → t ≢ line.tenant → Stands now came (line ∷ left) t x
      → Stands (after_ask now line) (more_came now came line) left t x
  other-stands now came line left t x far is =
      let no : (t == line.tenant) ≡ false = ne_eqb t line.tenant far in (
        is.0 ∙ sym (rw no refl),
        is.1 ∙ sym (append-nil (came t)) ∙ ap (λ b. came t ++ (if b then entries_of (now t) line else [])) (sym no),
        subst (λ b. s.fits x (if b then line ∷ own t left else own t left)) no is.2,
      )

  own-stands : (now : ℕ → Tenancy) (came : ℕ → List Entry) (line : Line) (left : List Line) (t : ℕ) (x y : X)
      → t ≡ line.tenant → Stands now came (line ∷ left) t x → Serves s x line y
      → Stands (after_ask now line) (more_came now came line) left t y
  own-stands now came line left t x y here is serves =
      let yes : (t == line.tenant) ≡ true = eq-eqb t line.tenant here in (
        serves.standing ∙ ap (λ u. after_line u line) is.0
            ∙ ap (λ b. if b then after_line (now t) line else now t) (sym yes),
        serves.seen ∙ ap (λ es. es ++ entries_of (s.standing x) line) is.1
            ∙ ap (λ u. came t ++ entries_of u line) is.0
            ∙ ap (λ b. came t ++ (if b then entries_of (now t) line else [])) (sym yes),
        serves.fits (own t left) (subst (λ b. s.fits x (if b then line ∷ own t left else own t left)) yes is.2),
      )

  -- the line is of a tenant that the worker hasn't
  way-passes : (all : ℕ → Tenancy) (first : List (Option X)) (lines : List Line) (desks : List (Option X))
      (tokens : List Noted) (line : Line) (left : List Line) → has first line.tenant ≡ false
      → ((t : ℕ) → has desks t ≡ has first t)
      → IsOnWay all first lines desks tokens (line ∷ left) → IsOnWay all first lines desks tokens left
  way-passes all first lines desks tokens line left none same way = record {
    now = after_ask way.now line;
    came = more_came way.now way.came line;
    seated = record {
      at = λ t x got. other-stands way.now way.came line left t x (far t x got) (way.seated.at t x got);
    };
    values = ap (λ b. map noted_value tokens ++ (if b then outcome_of way.now line ∷ rest else rest)) (sym none)
        ∙ way.values;
    seen = seen_now all way.now way.came lines left line way.seen;
    ends = ends_now all way.now lines left line way.ends;
  }
    where
      rest : List LimitOutcome
      rest = filter (λ o. has first o.tenant) (outcomes (after_ask way.now line) left)

      far : (t : ℕ) (x : X) → slice_get desks t ≡ Some (Some x) → t ≢ line.tenant
      far t x got here =
          let yes : has desks t ≡ true = ap is_there got in
          true≢false (sym yes ∙ same t ∙ ap (has first) here ∙ none)

  -- the line is of a tenant that it has
  way-serves : (all : ℕ → Tenancy) (first : List (Option X)) (lines : List Line) (desks : List (Option X))
      (tokens : List Noted) (token : Noted) (line : Line) (left : List Line) (x y : X)
      → has first line.tenant ≡ true
      → slice_get desks line.tenant ≡ Some (Some x) → Serves s x line y
      → noted_value token ≡ outcome_at (s.standing x) line
      → IsOnWay all first lines desks tokens (line ∷ left)
      → IsOnWay all first lines (set desks line.tenant (Some y)) (tokens ++ token ∷ []) left
  way-serves all first lines desks tokens token line left x y some there serves value way = record {
    now = after_ask way.now line;
    came = more_came way.now way.came line;
    seated = record { at = λ t z got. stands t z (cases_eq t line.tenant) got };
    values =
        ap (λ l. l ++ rest) (map-append noted_value tokens (token ∷ []))
        ∙ append_assoc (map noted_value tokens) (noted_value token ∷ []) rest
        ∙ ap (λ v. map noted_value tokens ++ v ∷ rest) (value ∙ ap (λ u. outcome_at u line) standing)
        ∙ ap (λ b. map noted_value tokens ++ (if b then outcome_of way.now line ∷ rest else rest)) (sym some)
        ∙ way.values;
    seen = seen_now all way.now way.came lines left line way.seen;
    ends = ends_now all way.now lines left line way.ends;
  }
    where
      rest : List LimitOutcome
      rest = filter (λ o. has first o.tenant) (outcomes (after_ask way.now line) left)

      standing : s.standing x ≡ way.now line.tenant
      standing = (way.seated.at line.tenant x there).0

      same-one : (a b : X) → Some (Some a) ≡ Some (Some b) → a ≡ b
      same-one a b e = cc e

      stands : (t : ℕ) (z : X) → (t ≡ line.tenant) ⊎ (t ≢ line.tenant)
          → slice_get (set desks line.tenant (Some y)) t ≡ Some (Some z)
          → Stands (after_ask way.now line) (more_came way.now way.came line) left t z
      stands t z (inl here) got =
          let new : slice_get (set desks line.tenant (Some y)) t ≡ Some (Some y)
          = ap (slice_get (set desks line.tenant (Some y))) here
          ∙ get-set_here desks line.tenant (Some x) (Some y) there in
          let is : y ≡ z = same-one y z (sym new ∙ got) in
          subst (Stands (after_ask way.now line) (more_came way.now way.came line) left t) is
          (own-stands way.now way.came line left t x y here
          (way.seated.at t x (ap (slice_get desks) here ∙ there)) serves)
      stands t z (inr far) got =
          other-stands way.now way.came line left t z far
          (way.seated.at t z (sym (get-set_else desks line.tenant t (Some y) (λ e. far (sym e))) ∙ got))

  module _ (notes : Notes) (told : ℕ → Bool) (first : List (Option X)) (lines : List Line)
      (desks : List (Option X)) (tokens : List Noted) (index : ℕ) (d : Line) (low : index < length lines)
      (working : IsWorking notes told first lines desks tokens index) where
    next : drop index lines ≡ get_or lines index d ∷ drop (index + 1) lines
    next =
        let step : suc index ≡ index + 1 = omega arith in
        drop-cons lines index d low ∙ ap (λ n. get_or lines index d ∷ drop n lines) step

    pub passes : slice_get desks (get_or lines index d).tenant ≡ Some None
        → IsWorking notes told first lines desks tokens (index + 1)
    passes none = record {
      long = working.long;
      same = working.same;
      of = working.of;
      few = omega (arith, working.few);
      gated = working.gated;
      each = λ all seated.
          way-passes all first lines desks tokens (get_or lines index d) (drop (index + 1) lines)
          (sym (working.same (get_or lines index d).tenant) ∙ ap is_there none) working.same
          (subst (λ l. IsOnWay all first lines desks tokens l) next (working.each all seated));
    }

    pub serves-next : (x y : X) (token : Noted) → slice_get desks (get_or lines index d).tenant ≡ Some (Some x)
        → Serves s x (get_or lines index d) y → IsOf notes token
        → noted_value token ≡ outcome_at (s.standing x) (get_or lines index d)
        → told (length tokens + 1) ≡ true
        → IsWorking notes told first lines (set desks (get_or lines index d).tenant (Some y))
        (tokens ++ token ∷ []) (index + 1)
    serves-next x y token there serves of value gate = record {
      long = length-set desks (get_or lines index d).tenant (Some y) ∙ working.long;
      same = λ t. kept t (cases_eq t (get_or lines index d).tenant);
      of = of-push notes tokens token working.of of;
      few = let more = length-push tokens token in omega (arith, working.few, more);
      gated = λ request some most. gates request some most (cases_eq request (length tokens + 1));
      each = λ all seated.
          way-serves all first lines desks tokens token (get_or lines index d) (drop (index + 1) lines) x y
          (sym (working.same (get_or lines index d).tenant) ∙ ap is_there there) there serves value
          (subst (λ l. IsOnWay all first lines desks tokens l) next (working.each all seated));
    }
      where
        length-set : (xs : List (Option X)) (i : ℕ) (v : Option X) → length (set xs i v) ≡ length xs
        length-set [] i v = refl
        length-set (z ∷ zs) zero v = refl
        length-set (z ∷ zs) (suc i) v = ap suc (length-set zs i v)

        length-push : (xs : List Noted) (v : Noted) → length (xs ++ v ∷ []) ≡ length xs + 1
        length-push [] v = refl
        length-push (z ∷ zs) v = let more = length-push zs v in omega (arith, more)

        kept : (t : ℕ) → (t ≡ (get_or lines index d).tenant) ⊎ (t ≢ (get_or lines index d).tenant)
            → has (set desks (get_or lines index d).tenant (Some y)) t ≡ has first t
        kept t (inl here) =
            ap (has (set desks (get_or lines index d).tenant (Some y))) here
            ∙ ap is_there (get-set_here desks (get_or lines index d).tenant (Some x) (Some y) there)
            ∙ sym (ap is_there there) ∙ working.same (get_or lines index d).tenant ∙ ap (has first) (sym here)
        kept t (inr far) =
            ap is_there (get-set_else desks (get_or lines index d).tenant t (Some y) (λ e. far (sym e)))
            ∙ working.same t

        gates : (request : ℕ) → 0 < request → request ≤ length (tokens ++ token ∷ [])
            → (request ≡ length tokens + 1) ⊎ (request ≢ length tokens + 1) → told request ≡ true
        gates request some most (inl last) = ap told last ∙ gate
        gates request some most (inr other) =
            let more = length-push tokens token in
            working.gated request some (omega (arith, most, more, other))

    -- there is room for the line at its tenant, where they can be served
    pub next-fits : CanServe s lines first → (x : X) → slice_get desks (get_or lines index d).tenant ≡ Some (Some x)
        → IsNext s x (get_or lines index d)
    next-fits can x there = record {
      more = own (get_or lines index d).tenant (drop (index + 1) lines);
      fits = subst (λ b. s.fits x (if b then get_or lines index d ∷ rest else rest))
          (eq-eqb (get_or lines index d).tenant (get_or lines index d).tenant refl)
          (way.seated.at (get_or lines index d).tenant x there).2;
    }
      where
        rest : List Line
        rest = own (get_or lines index d).tenant (drop (index + 1) lines)

        way : IsOnWay can.all first lines desks tokens (get_or lines index d ∷ drop (index + 1) lines)
        way = subst (λ l. IsOnWay can.all first lines desks tokens l) next (working.each can.all can.seated)

    pub place-below : CanServe s lines first → (get_or lines index d).tenant < length desks
    place-below can =
        let low_one = below-rest (length first) lines index d can.below low in
        let many = working.long in
        omega (arith, low_one, many)

  pub served : (notes : Notes) (told : ℕ → Bool) (first : List (Option X)) (lines : List Line)
      (desks : List (Option X)) (tokens : List Noted) (index : ℕ) → length lines ≤ index
      → IsWorking notes told first lines desks tokens index → HasServed s notes told lines first desks tokens
  served notes told first lines desks tokens index past working = record {
    long = working.long;
    same = working.same;
    of = working.of;
    each = λ all seated.
        let way = subst (λ l. IsOnWay all first lines desks tokens l)
        (drop-past lines index past) (working.each all seated) in (
          record {
            at = λ t x got. let is = way.seated.at t x got in (
              is.0 ∙ way.ends t,
              is.1 ∙ sym (append-nil (way.came t)) ∙ way.seen t,
              is.2,
            );
          },
          sym (append-nil (map noted_value tokens)) ∙ way.values,
        );
    gated = working.gated;
  }
