-- A run: what the workers are given, and what they hand back.
use Rattle.std.proofs.Common.{◌≡◌, ◌≢◌, ◌⊎◌, inl, inr, ◌==◌, ℕ, zero, suc, ◌<◌, ◌%◌, Bool, true, true≢false, List, [], ◌∷◌, length, map, filter, get_or, slice_get, Some, None, Option, Result, Ok, refl, sym, ap, ◌∙◌, subst, arith, eq-eqb, ne_eqb, mod-lt, if◌then◌else◌}
use Rattle.std.proofs.lemmas.Bool.{cases_eq}
use Rattle.std.proofs.lemmas.Option.{slice_get-get_or}
use Rattle.std.specs.declared.alloc.AllocError.{AllocError}
use Rattle.cqs_core.proofs.Places.{get-below, get-there}
use Rattle.cqs_limiter_requests.specs.declared.asks.Line.{Line}
use Rattle.cqs_limiter_requests.specs.Replies.{Tenancy, after_ask, outcome_of, outcomes}
use Rattle.cqs_limiter_requests.specs.Told.{outcomes_text}
use Rattle.cqs_limiter_workers.specs.declared.notes.Notes.{Notes}
use Rattle.cqs_limiter_workers.specs.declared.notes.Noted.{Noted}
use Rattle.cqs_limiter_workers.specs.declared.works.Post.{Post}
use Rattle.cqs_limiter_workers.specs.declared.works.Told.{Told}
use Rattle.cqs_limiter_workers.specs.declared.runs.Ran.{Ran}
use Rattle.cqs_limiter_workers.specs.Noting.{AreOf, noted_value}
use Rattle.cqs_limiter_workers.specs.Sights.{Sight}
use Rattle.cqs_limiter_workers.specs.Serving.{has, is_there, AllBelow, AreSeated, CanServe, HasServed, AllServed}
use Rattle.cqs_limiter_workers.specs.Dealing.{IsPost, AreDealt}
use Rattle.cqs_limiter_workers.specs.Gathering.{AreAllThere, AreGathered}
use Rattle.cqs_limiter_workers.specs.Handing.{outcomes_of, AreHandsOf, AreHands, HasInOrder}
use Rattle.cqs_limiter_workers.specs.Running.{AreOpen, CanRun, HasRun}

-- which lines are a worker's, by the tenants that it has
own-outcomes : (n workers w : ℕ) (p : ℕ → Bool) (all : ℕ → Tenancy) (lines : List Line)
    → ((t : ℕ) → t < n → p t ≡ (t % workers == w)) → AllBelow n lines
    → filter (λ o. p o.tenant) (outcomes all lines) ≡ outcomes_of workers w all lines
own-outcomes n workers w p all [] agree below = refl
own-outcomes n workers w p all (line ∷ lines) agree below =
    let rest = own-outcomes n workers w p (after_ask all line) lines agree below.1 in
    ap (λ b. if b then outcome_of all line ∷ filter (λ o. p o.tenant) (outcomes (after_ask all line) lines)
    else filter (λ o. p o.tenant) (outcomes (after_ask all line) lines)) (agree line.tenant below.0)
    ∙ ap (λ l. if line.tenant % workers == w then outcome_of all line ∷ l else l) rest

module _ {X : Type 0} (s : Sight X) where
  -- a post of tenants that are open
  module _ (workers w : ℕ) (tenants : List X) (post : Post X) (is : IsPost workers tenants 0 w post) where
    post-has : (t : ℕ) (x : X) → slice_get post.desks.items t ≡ Some (Some x)
        → (t % workers ≡ w) × (slice_get tenants t ≡ Some x)
    post-has t x got = go (cases_eq (t % workers) w)
      where
        low : t < length tenants
        low = let here = get-below post.desks.items t (Some x) got in let long = is.long in omega (arith, here, long)

        one : (a b : X) → Some (Some a) ≡ Some (Some b) → a ≡ b
        one a b e = cc e

        go : (t % workers ≡ w) ⊎ (t % workers ≢ w) → (t % workers ≡ w) × (slice_get tenants t ≡ Some x)
        go (inl mine) =
            let at = get-there tenants t low in
            let same : at.0 ≡ x = one at.0 x (sym (is.own t at.0 (omega arith) mine at.1) ∙ got) in
            (mine, at.1 ∙ ap (λ y. Some y) same)
        go (inr other) =
            let none = is.none t low (inr other) in
            absurd (cc (none, got))

    post-is : (t : ℕ) → t < length tenants → has post.desks.items t ≡ (t % workers == w)
    post-is t low = go (cases_eq (t % workers) w)
      where
        go : (t % workers ≡ w) ⊎ (t % workers ≢ w) → has post.desks.items t ≡ (t % workers == w)
        go (inl mine) =
            let at = get-there tenants t low in
            ap is_there (is.own t at.0 (omega arith) mine at.1) ∙ sym (eq-eqb (t % workers) w mine)
        go (inr other) = ap is_there (is.none t low (inr other)) ∙ sym (ne_eqb (t % workers) w other)

    seated-of : (all : ℕ → Tenancy) (lines : List Line) → AreOpen s all lines tenants
        → AreSeated s all (λ t. []) lines post.desks.items
    seated-of all lines opened = record { at = λ t x got. opened.at t x (post-has t x got).1 }

    post-serves : (lines : List Line) → CanRun s lines tenants → CanServe s lines post.desks.items
    post-serves lines can = record {
      all = can.all;
      below = subst (λ n. AllBelow n lines) (sym is.long) can.below;
      seated = seated-of can.all lines can.open_at;
    }

  -- each worker can serve
  pub all-serve : (workers : ℕ) (tenants : List X) (posts : List (Post X)) (lines : List Line)
      → AreDealt workers tenants 0 posts → CanRun s lines tenants
      → (k : ℕ) (d : Post X) → k < length posts → CanServe s lines (get_or posts k d).desks.items
  all-serve workers tenants posts lines dealt can k d low =
      post-serves workers k tenants (get_or posts k d) (dealt.at k (get_or posts k d) (slice_get-get_or posts k d low))
      lines can

  -- What the workers hand back.
  module _ (notes : Notes) (told : ℕ → ℕ → Bool) (lines : List Line) (workers : ℕ) (tenants : List X)
      (posts : List (Post X)) (results : List (Result (Told X) AllocError)) (hands : List (Told X))
      (some : 0 < workers) (can : CanRun s lines tenants) (dealt : AreDealt workers tenants 0 posts)
      (long : length results ≡ length posts) (all_served : AllServed s notes told lines posts results)
      (parted : results ≡ map (λ x. Ok x) hands) where
    map-get : (xs : List (Told X)) (w : ℕ) (x : Told X) → slice_get xs w ≡ Some x
        → slice_get {X = Result (Told X) AllocError} (map (λ y. Ok y) xs) w ≡ Some (Ok x)
    map-get [] w x got = absurd (cc got)
    map-get (y ∷ ys) zero x got = ap (λ o. Some o) (cc got)
    map-get (y ∷ ys) (suc w) x got = map-get ys w x got

    ok-long : (xs : List (Told X)) → length {A = Result (Told X) AllocError} (map (λ y. Ok y) xs) ≡ length xs
    ok-long [] = refl
    ok-long (y ∷ ys) = ap suc (ok-long ys)

    noted-long : (xs : List Noted) → length (map noted_value xs) ≡ length xs
    noted-long [] = refl
    noted-long (y ∷ ys) = ap suc (noted-long ys)

    pub many-hands : length hands ≡ workers
    many-hands =
        sym (ok-long hands) ∙ ap length (sym parted) ∙ long ∙ dealt.many

    -- the hand of a worker, and its post
    record Hand (w : ℕ) (hand : Told X) : Type 0 where
      pub post : Post X
      pub is : IsPost workers tenants 0 w post
      pub served : HasServed s notes (told w) lines post.desks.items hand.desks.items hand.tokens.items

    hand-at : (w : ℕ) (hand : Told X) → slice_get hands w ≡ Some hand → Hand w hand
    hand-at w hand got =
        let low = get-below hands w hand got in
        let many = many-hands in
        let posts_many = dealt.many in
        let at = get-there posts w (omega (arith, low, many, posts_many)) in
        let is = dealt.at w at.0 at.1 in
        let there = ap (λ l. slice_get l w) parted ∙ map-get hands w hand got in
        let served = all_served.at w at.0 (Ok hand) at.1 there in
        record {
          post = at.0;
          is = is;
          served = subst (λ n. HasServed s notes (told n) lines at.0.desks.items hand.desks.items hand.tokens.items)
              is.worker served;
        }

    pub are-hands : (all : ℕ → Tenancy) → AreOpen s all lines tenants → AreHandsOf notes all lines hands
    are-hands all opened = record {
      of = λ w hand got. (hand-at w hand got).served.of;
      values = λ w hand got.
          let h = hand-at w hand got in
          let served = h.served.each all (seated-of workers w tenants h.post h.is all lines opened) in
          served.1
          ∙ own-outcomes (length tenants) workers w (has h.post.desks.items) all lines
          (post-is workers w tenants h.post h.is) can.below
          ∙ ap (λ n. outcomes_of n w all lines) (sym many-hands);
    }

    pub any-hands : AreHands notes lines hands
    any-hands = (can.all, are-hands can.all can.open_at)

    -- each tenant stands with its worker
    pub all-there : AreAllThere hands 0 (length tenants)
    all-there t from low =
        let many = many-hands in
        let under = mod-lt t some in
        let at = get-there hands (t % workers) (omega (arith, many, under)) in
        let h = hand-at (t % workers) at.0 at.1 in
        let has_it : has at.0.desks.items t ≡ true
        = h.served.same t ∙ post-is workers (t % workers) tenants h.post h.is t low
        ∙ eq-eqb (t % workers) (t % workers) refl in
        let x = there at.0 t has_it in (
          x.0,
          record {
            hand = at.0;
            hand_is = ap (λ n. slice_get hands (t % n)) many ∙ at.1;
            there = x.1;
          },
        )
      where
        there : (hand : Told X) (u : ℕ) → has hand.desks.items u ≡ true
            → (x : X) × (slice_get hand.desks.items u ≡ Some (Some x))
        there hand u holds = go (slice_get hand.desks.items u) refl
          where
            go : (o : Option (Option X)) → slice_get hand.desks.items u ≡ o
                → (x : X) × (slice_get hand.desks.items u ≡ Some (Some x))
            go None is = absurd (true≢false (sym holds ∙ ap is_there is))
            go (Some None) is = absurd (true≢false (sym holds ∙ ap is_there is))
            go (Some (Some x)) is = (x, is)

    pub has-run : (ran : Ran X) → ran.notes ≡ notes → HasInOrder notes lines hands ran.tokens.items
        → ran.text.items ≡ outcomes_text (map noted_value ran.tokens.items)
        → AreGathered hands (length tenants) ran.tenants.items
        → HasRun s told lines tenants workers ran
    has-run ran same in_order text gathered = record {
      many = gathered.long;
      of = subst (λ n. AreOf n ran.tokens.items) (sym same) in_order.of;
      values = λ all opened. in_order.values all (are-hands all opened);
      after = λ all opened. record {
        at = λ t x got.
            let with = gathered.at t x got in
            let w : ℕ = t % length hands in
            let h = hand-at w with.hand with.hand_is in
            let served = h.served.each all (seated-of workers w tenants h.post h.is all lines opened) in
            let is = served.0.at t x with.there in
            (is.0, is.1);
      };
      text = text;
      gated = λ all opened w request low from most.
          let many = many-hands in
          let at = get-there hands w (omega (arith, low, many)) in
          let h = hand-at w at.0 at.1 in
          let values = (are-hands all opened).values w at.0 at.1 in
          let as_many : length at.0.tokens.items ≡ length (outcomes_of workers w all lines)
          = sym (noted-long at.0.tokens.items) ∙ ap length values
          ∙ ap (λ n. length (outcomes_of n w all lines)) many in
          h.served.gated request from (omega (arith, most, as_many));
    }
