-- Tokens are dealt back, line by line.
use Rattle.std.proofs.Common.{◌≡◌, ◌≢◌, ◌⊎◌, inl, inr, ℕ, zero, suc, ◌+◌, ◌<◌, ◌%◌, List, [], ◌∷◌, ◌++◌, length, map, drop, set, get_or, replicate, Some, slice_get, slice_index, refl, sym, ap, ◌∙◌, subst, arith, append_assoc, append-nil, eq-eqb, ne_eqb, mod-lt}
use Rattle.std.proofs.lemmas.List.{map-append}
use Rattle.std.proofs.lemmas.Bool.{cases_eq}
use Rattle.std.proofs.Math.Seq.{drop-cons}
use Rattle.cqs_core.proofs.Places.{get-there}
use Rattle.cqs_limiter_requests.specs.declared.asks.Line.{Line}
use Rattle.cqs_limiter_requests.specs.declared.asks.LimitOutcome.{LimitOutcome}
use Rattle.cqs_limiter_requests.specs.Replies.{Tenancy, after_ask, outcome_of, outcomes}
use Rattle.cqs_limiter_workers.specs.declared.notes.Notes.{Notes}
use Rattle.cqs_limiter_workers.specs.declared.notes.Noted.{Noted}
use Rattle.cqs_limiter_workers.specs.declared.works.Told.{Told}
use Rattle.cqs_limiter_workers.specs.Noting.{IsOf, AreOf, noted_value}
use Rattle.cqs_limiter_workers.specs.Handing.{outcomes_of, AreHandsOf, AreHands, HasInOrder}
use Rattle.cqs_limiter_workers.proofs.OnWay.{of-push}

-- the first of what is left of a hand
record Head (notes : Notes) (tokens : List Noted) (n : ℕ) (first : LimitOutcome) (later : List LimitOutcome)
    : Type 0 where
  pub token : Noted
  pub low : n < length tokens
  pub there : slice_get tokens n ≡ Some token
  pub value : noted_value token ≡ first
  pub of : IsOf notes token
  pub rest_of : AreOf notes (drop (n + 1) tokens)
  pub rest : map noted_value (drop (n + 1) tokens) ≡ later

head : (notes : Notes) (tokens : List Noted) (n : ℕ) (first : LimitOutcome) (later : List LimitOutcome)
    → AreOf notes (drop n tokens) → map noted_value (drop n tokens) ≡ first ∷ later → Head notes tokens n first later
head notes [] zero first later of is = absurd (cc is)
head notes [] (suc n) first later of is = absurd (cc is)
head notes (t ∷ tokens) zero first later of is = record {
  token = t;
  low = omega arith;
  there = refl;
  value = cc is;
  of = of.0;
  rest_of = of.1;
  rest = cc is;
}
head notes (t ∷ tokens) (suc n) first later of is =
    let h = head notes tokens n first later of is in
    record {
      token = h.token;
      low = omega (arith, h.low);
      there = h.there;
      value = h.value;
      of = h.of;
      rest_of = subst (λ m. AreOf notes (drop m (t ∷ tokens))) up h.rest_of;
      rest = subst (λ m. map noted_value (drop m (t ∷ tokens)) ≡ later) up h.rest;
    }
  where
    up : suc (n + 1) ≡ suc n + 1
    up = omega arith

index-here : (xs : List ℕ) (i v : ℕ) → i < length xs → slice_index (set xs i v) i ≡ v
index-here [] i v low = absurd (omega (arith, low))
index-here (x ∷ xs) zero v low = refl
index-here (x ∷ xs) (suc i) v low = index-here xs i v (omega (arith, low))

index-else : (xs : List ℕ) (i j v : ℕ) → j ≢ i → slice_index (set xs i v) j ≡ slice_index xs j
index-else [] i j v other = refl
index-else (x ∷ xs) zero zero v other = absurd (other refl)
index-else (x ∷ xs) zero (suc j) v other = refl
index-else (x ∷ xs) (suc i) zero v other = refl
index-else (x ∷ xs) (suc i) (suc j) v other = index-else xs i j v (λ e. other (ap suc e))

set-long : (xs : List ℕ) (i v : ℕ) → length (set xs i v) ≡ length xs
set-long [] i v = refl
set-long (x ∷ xs) zero v = refl
set-long (x ∷ xs) (suc i) v = ap suc (set-long xs i v)

zero-at : (n i : ℕ) → slice_index (replicate n 0) i ≡ 0
zero-at zero i = refl
zero-at (suc n) zero = refl
zero-at (suc n) (suc i) = zero-at n i

zeros-long : (n : ℕ) → length {A = ℕ} (replicate n 0) ≡ n
zeros-long zero = refl
zeros-long (suc n) = ap suc (zeros-long n)

module _ {X : Type 0} where
  -- What is left of each hand from its place on, where these are the tokens of the lines.
  pub record IsOnWay (notes : Notes) (all : ℕ → Tenancy) (lines : List Line) (hands : List (Told X)) (next : List ℕ)
      (tokens : List Noted) (left : List Line) : Type 0 where
    pub now : ℕ → Tenancy
    pub of : AreOf notes tokens
    pub values : map noted_value tokens ++ outcomes now left ≡ outcomes all lines
    pub rest_of : (w : ℕ) (told : Told X) → slice_get hands w ≡ Some told
        → AreOf notes (drop (slice_index next w) told.tokens.items)
    pub rest : (w : ℕ) (told : Told X) → slice_get hands w ≡ Some told
        → map noted_value (drop (slice_index next w) told.tokens.items) ≡ outcomes_of (length hands) w now left

  pub record IsHanding (notes : Notes) (lines : List Line) (hands : List (Told X)) (next : List ℕ)
      (tokens : List Noted) (index : ℕ) : Type 0 where
    pub many : length next ≡ length hands
    pub each : (all : ℕ → Tenancy) → AreHandsOf notes all lines hands
        → IsOnWay notes all lines hands next tokens (drop index lines)

  pub handing-starts : (notes : Notes) (lines : List Line) (hands : List (Told X)) (next : List ℕ) (tokens : List Noted)
      → next ≡ replicate (length hands) 0 → tokens ≡ [] → IsHanding notes lines hands next tokens 0
  handing-starts notes lines hands next tokens is none = rw (is, none) (record {
    many = zeros-long (length hands);
    each = λ all are. record {
      now = all;
      of = tt;
      values = refl;
      rest_of = λ w told got. rw (zero-at (length hands) w) (are.of w told got);
      rest = λ w told got. rw (zero-at (length hands) w) (are.values w told got);
    };
  })

  module _ (notes : Notes) (all : ℕ → Tenancy) (lines : List Line) (hands : List (Told X)) (next : List ℕ)
      (tokens : List Noted) (line : Line) (left : List Line)
      (way : IsOnWay notes all lines hands next tokens (line ∷ left)) where
    abbrev worker : ℕ
    worker = line.tenant % length hands

    way-head : (told : Told X) → slice_get hands worker ≡ Some told
        → Head notes told.tokens.items (slice_index next worker) (outcome_of way.now line)
        (outcomes_of (length hands) worker (after_ask way.now line) left)
    way-head told there =
        head notes told.tokens.items (slice_index next worker) (outcome_of way.now line)
        (outcomes_of (length hands) worker (after_ask way.now line) left)
        (way.rest_of worker told there)
        (way.rest worker told there ∙ rw (eq-eqb worker worker refl) refl)

    way-next : (told : Told X) (token : Noted) → length next ≡ length hands → worker < length hands
        → slice_get hands worker ≡ Some told
        → slice_get told.tokens.items (slice_index next worker) ≡ Some token
        → IsOnWay notes all lines hands (set next worker (slice_index next worker + 1)) (tokens ++ token ∷ []) left
    way-next told token many low there got =
        let h = way-head told there in
        let same : h.token ≡ token = one-noted h.token token (sym h.there ∙ got) in
        let value : noted_value token ≡ outcome_of way.now line = ap noted_value (sym same) ∙ h.value in
        record {
          now = after_ask way.now line;
          of = of-push notes tokens token way.of (subst (λ x. IsOf notes x) same h.of);
          values =
              ap (λ l. l ++ outcomes (after_ask way.now line) left) (map-append noted_value tokens (token ∷ []))
              ∙ append_assoc (map noted_value tokens) (noted_value token ∷ []) (outcomes (after_ask way.now line) left)
              ∙ ap (λ v. map noted_value tokens ++ v ∷ outcomes (after_ask way.now line) left) value
              ∙ way.values;
          rest_of = λ w other at. rest_of_at h w other at (cases_eq w worker);
          rest = λ w other at. rest_at h w other at (cases_eq w worker);
        }
      where
        one-noted : (a b : Noted) → Some a ≡ Some b → a ≡ b
        one-noted a b e = cc e

        one-told : (a b : Told X) → Some a ≡ Some b → a ≡ b
        one-told a b e = cc e

        here : (w : ℕ) → w ≡ worker
            → slice_index (set next worker (slice_index next worker + 1)) w ≡ slice_index next worker + 1
        here w same = ap (slice_index (set next worker (slice_index next worker + 1))) same
            ∙ index-here next worker (slice_index next worker + 1) (omega (arith, low, many))

        rest_of_at : Head notes told.tokens.items (slice_index next worker) (outcome_of way.now line)
            (outcomes_of (length hands) worker (after_ask way.now line) left)
            → (w : ℕ) (other : Told X) → slice_get hands w ≡ Some other → (w ≡ worker) ⊎ (w ≢ worker)
            → AreOf notes (drop (slice_index (set next worker (slice_index next worker + 1)) w) other.tokens.items)
        rest_of_at h w other at (inl same) =
            let is : told ≡ other = one-told told other (sym there ∙ ap (slice_get hands) (sym same) ∙ at) in
            subst (λ n. AreOf notes (drop n other.tokens.items)) (sym (here w same))
            (subst (λ (o : Told X). AreOf notes (drop (slice_index next worker + 1) o.tokens.items)) is h.rest_of)
        rest_of_at h w other at (inr far) =
            subst (λ n. AreOf notes (drop n other.tokens.items))
            (sym (index-else next worker w (slice_index next worker + 1) far)) (way.rest_of w other at)

        rest_at : Head notes told.tokens.items (slice_index next worker) (outcome_of way.now line)
            (outcomes_of (length hands) worker (after_ask way.now line) left)
            → (w : ℕ) (other : Told X) → slice_get hands w ≡ Some other → (w ≡ worker) ⊎ (w ≢ worker)
            → map noted_value (drop (slice_index (set next worker (slice_index next worker + 1)) w) other.tokens.items)
            ≡ outcomes_of (length hands) w (after_ask way.now line) left
        rest_at h w other at (inl same) =
            let is : told ≡ other = one-told told other (sym there ∙ ap (slice_get hands) (sym same) ∙ at) in
            ap (λ n. map noted_value (drop n other.tokens.items)) (here w same)
            ∙ ap (λ (o : Told X). map noted_value (drop (slice_index next worker + 1) o.tokens.items)) (sym is)
            ∙ h.rest ∙ ap (λ n. outcomes_of (length hands) n (after_ask way.now line) left) (sym same)
        rest_at h w other at (inr far) =
            let skips : outcomes_of (length hands) w way.now (line ∷ left)
            ≡ outcomes_of (length hands) w (after_ask way.now line) left
            = rw (ne_eqb worker w (λ e. far (sym e))) refl in
            ap (λ n. map noted_value (drop n other.tokens.items))
            (index-else next worker w (slice_index next worker + 1) far)
            ∙ way.rest w other at ∙ skips

  module _ (notes : Notes) (lines : List Line) (hands : List (Told X)) (next : List ℕ) (tokens : List Noted)
      (index : ℕ) (d : Line) (low : index < length lines) (some : 0 < length hands) (are : AreHands notes lines hands)
      (handing : IsHanding notes lines hands next tokens index) where
    abbrev pub the-worker : ℕ
    the-worker = (get_or lines index d).tenant % length hands

    step : drop index lines ≡ get_or lines index d ∷ drop (index + 1) lines
    step =
        let up : suc index ≡ index + 1 = omega arith in
        drop-cons lines index d low ∙ ap (λ n. get_or lines index d ∷ drop n lines) up

    way-at : (all : ℕ → Tenancy) → AreHandsOf notes all lines hands
        → IsOnWay notes all lines hands next tokens (get_or lines index d ∷ drop (index + 1) lines)
    way-at all hands_are = subst (λ l. IsOnWay notes all lines hands next tokens l) step (handing.each all hands_are)

    pub worker-low : the-worker < length hands
    worker-low = mod-lt (get_or lines index d).tenant some

    pub next-low : the-worker < length next
    next-low = let is = worker-low in let many = handing.many in omega (arith, is, many)

    pub token-there : (told : Told X) → slice_get hands the-worker ≡ Some told
        → slice_index next the-worker < length told.tokens.items
    token-there told there =
        (way-head notes are.0 lines hands next tokens (get_or lines index d) (drop (index + 1) lines)
        (way-at are.0 are.1) told there).low

    pub handing-next : (token : Noted)
        → ((told : Told X) → slice_get hands the-worker ≡ Some told
        → slice_get told.tokens.items (slice_index next the-worker) ≡ Some token)
        → IsHanding notes lines hands (set next the-worker (slice_index next the-worker + 1)) (tokens ++ token ∷ [])
        (index + 1)
    handing-next token got =
        let at = get-there hands the-worker worker-low in
        record {
          many = set-long next the-worker (slice_index next the-worker + 1) ∙ handing.many;
          each = λ all hands_are.
              way-next notes all lines hands next tokens (get_or lines index d) (drop (index + 1) lines)
              (way-at all hands_are) at.0 token handing.many worker-low at.1 (got at.0 at.1);
        }

    get_or-any : (xs : List ℕ) (i a b : ℕ) → i < length xs → get_or xs i a ≡ get_or xs i b
    get_or-any [] i a b under = absurd (omega (arith, under))
    get_or-any (x ∷ xs) zero a b under = refl
    get_or-any (x ∷ xs) (suc i) a b under = get_or-any xs i a b (omega (arith, under))

    -- the place that was read is the next one of the line's worker
    pub place-is : (place : ℕ) → place ≡ get_or next the-worker place → place ≡ slice_index next the-worker
    place-is place is = is ∙ get_or-any next the-worker place 0 next-low

  pub handed : (notes : Notes) (lines : List Line) (hands : List (Told X)) (next : List ℕ) (tokens : List Noted)
      (index : ℕ) → drop index lines ≡ [] → AreHands notes lines hands
      → IsHanding notes lines hands next tokens index → HasInOrder notes lines hands tokens
  handed notes lines hands next tokens index none are handing = record {
    of = (way-end are.0 are.1).of;
    values = λ all hands_are.
        sym (append-nil (map noted_value tokens)) ∙ (way-end all hands_are).values;
  }
    where
      way-end : (all : ℕ → Tenancy) → AreHandsOf notes all lines hands
          → IsOnWay notes all lines hands next tokens []
      way-end all hands_are = subst (λ l. IsOnWay notes all lines hands next tokens l) none (handing.each all hands_are)
