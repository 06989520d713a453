-- Every event keeps the funds of every resource.
use Rattle.std.proofs.Common.{◌≡◌, ◌≢◌, ◌⊎◌, inl, inr, ℕ, ◌+◌, ◌<◌, ◌≤◌, ◌==◌, ◌&&◌, Bool, true, false, List, [], ◌∷◌, ◌++◌, Option, Some, None, length, set, slice_get, refl, sym, ap, subst, ◌∙◌, eq-eqb, ne_eqb, arith}
use Rattle.std.specs.Option.{option_map_or}
use Rattle.std.proofs.lemmas.Bool.{cases_eq}
use Rattle.std.proofs.lemmas.Option.{get_or_from_slice_get}
use Rattle.cqs_core.specs.Keyed.{without}
use Rattle.cqs_core.specs.QueueLine.{Waiting}
use Rattle.cqs_core.proofs.Counts.{bit}
use Rattle.cqs_plan.specs.declared.plans.resource.Resource.{Resource}
use Rattle.cqs_plan.specs.declared.floors.answers.FloorTake.TheVariants.{Now, Waits}
use Rattle.cqs_plan.specs.declared.floors.answers.FloorGive.TheVariants.{Free, Sent}
use Rattle.cqs_plan.specs.FloorHistory.{History, of_permits, of_elements, of_latch, of_rounds, Deed, takes, joins, frees, sends, gets, leaves, is_late, came_for, first_free, standing, with_deed, with_deed_in}
use Rattle.cqs_plan.specs.Floor.{PlainFloor, JobWait, Holding, history_at, holds_of, oldest, size_at, standing_at, wait_of, with_back, with_done, with_newest, with_wait}
use Rattle.cqs_plan.specs.FloorCalls.{after_take, after_give}
use Rattle.cqs_turns_report.specs.Lines.{is_pool_at}
use Rattle.cqs_turns_report.specs.Roles.{wait_at}
use Rattle.cqs_turns_laws.specs.Events.{Line}
use Rattle.cqs_turns_laws.proofs.Claims.{HasOldest, IsLike, held_in, claims_in, is_claim, has-oldest, held-got, held-gave, count-set, count-le, count-one-more, claim-before, claim-else, claim-none, claim-here}
use Rattle.cqs_turns_laws.proofs.HeldKinds.{IsHeld, IsUnheld, first-part, only-part}
use Rattle.cqs_turns_laws.proofs.DeedParts.{HasPart, is_of_pool}
use Rattle.cqs_turns_laws.proofs.Deeds.{IsElse, came-after, came-sent, line-after, line-joins}
use Rattle.cqs_turns_laws.proofs.Funds.{AreFunds, counts, takes-funds, joins-funds, frees-funds, sends-funds, gets-funds, late-funds, leaves-funds, same-funds}
use Rattle.cqs_turns_laws.proofs.Lifting.{CanGive, HasWait}
use Rattle.cqs_turns_laws.proofs.Lined.{AreLined, changed_floor, wait-gone}
use Rattle.cqs_turns_laws.proofs.Lines.{in_line}
use Rattle.cqs_turns_laws.proofs.Objects.{history-here, history-else}

-- what is held of the resource, and counts as this element, where it is one of a pool
abbrev pub is_held_there : Bool → ℕ → ℕ → Holding → Bool
is_held_there pool q x h = (h.at == q) && counts pool x h.element

abbrev pub holds_in : Bool → ℕ → List (List Holding) → ℕ → ℕ
holds_in pool q holds x = held_in (is_held_there pool q x) holds

-- what came there to waits of the jobs, and counts as this element
abbrev pub claims_on : Bool → ℕ → ℕ → History → List (Option JobWait) → ℕ → ℕ
claims_on pool q size h waits x =
    claims_in q (standing size h).line (λ number. counts pool x (came_for size h number)) waits

-- the funds of a resource with this history, holdings and waits
abbrev pub FundsOn : Bool → ℕ → ℕ → History → List (List Holding) → List (Option JobWait) → Type 0
FundsOn pool q size h holds waits = AreFunds size h (holds_in pool q holds) (claims_on pool q size h waits)

-- each resource has its funds
pub record AreFunded (resources : List Resource) (f : PlainFloor) : Type 0 where
  pub at : (q : ℕ) → FundsOn (is_pool_at resources q) q (size_at f q) (history_at f q) f.holds f.waits

unheld-funds : (size : ℕ) (h : History) (round : ℕ) (deed : Deed) (holds claims : ℕ → ℕ) → IsUnheld h
    → AreFunds size (with_deed_in size h round deed) holds claims
unheld-funds size (of_permits entries) round deed holds claims unheld = absurd unheld
unheld-funds size (of_elements entries) round deed holds claims unheld = absurd unheld
unheld-funds size (of_latch entries) round deed holds claims unheld = tt
unheld-funds size (of_rounds all) round deed holds claims unheld = tt

and-one : (a b : Bool) → a ≡ true → (a && b) ≡ b
and-one true b same = refl
and-one false b same = absurd (cc)

and-none : (a b : Bool) → a ≡ false → (a && b) ≡ false
and-none true b same = absurd (cc)
and-none false b same = refl

module _ (resources : List Resource) (f : PlainFloor) (lines : List Line) (lined : AreLined resources f lines)
    (funded : AreFunded resources f) (at : ℕ) (there : at < length f.histories)
    (held_kind : IsHeld (history_at f at)) where
  abbrev size : ℕ
  size = size_at f at

  abbrev h : History
  h = history_at f at

  abbrev pool : Bool
  pool = is_pool_at resources at

  abbrev line : List Waiting
  line = (standing size h).line

  part : HasPart h 0
  part = first-part h held_kind

  -- the test of a claim by what came for it
  abbrev came_as : History → ℕ → ℕ → Bool
  came_as now x number = counts pool x (came_for size now number)

  -- a resource at which nothing happens keeps its funds where nobody has more there
  funded-on : (deed : Deed) (room : List ℕ) (waits : List (Option JobWait)) (holds : List (List Holding))
      (rounds : List (List ℕ))
      → FundsOn pool at size (with_deed size h deed) holds waits
      → ((q : ℕ) → q ≢ at → (x : ℕ)
      → holds_in (is_pool_at resources q) q holds x ≡ holds_in (is_pool_at resources q) q f.holds x)
      → ((q : ℕ) → q ≢ at → (x : ℕ)
      → claims_on (is_pool_at resources q) q (size_at f q) (history_at f q) waits x
      ≤ claims_on (is_pool_at resources q) q (size_at f q) (history_at f q) f.waits x)
      → AreFunded resources (changed_floor f at 0 deed room waits holds rounds)
  funded-on deed room waits holds rounds own held claims = record { at = λ q. go q (cases_eq q at) }
    where
      g : PlainFloor
      g = changed_floor f at 0 deed room waits holds rounds

      go : (q : ℕ) → (q ≡ at) ⊎ (q ≢ at)
          → FundsOn (is_pool_at resources q) q (size_at f q) (history_at g q) holds waits
      go q (inl here) =
          rw here (subst (λ now. FundsOn pool at size now holds waits) (sym (history-here f at 0 deed there)) own)
      go q (inr other) =
          subst (λ now. FundsOn (is_pool_at resources q) q (size_at f q) now holds waits)
          (sym (history-else f at 0 deed q other))
          (same-funds (size_at f q) (holds_in (is_pool_at resources q) q f.holds)
          (claims_on (is_pool_at resources q) q (size_at f q) (history_at f q) f.waits)
          (holds_in (is_pool_at resources q) q holds)
          (claims_on (is_pool_at resources q) q (size_at f q) (history_at f q) waits)
          (λ x. omega (arith, held q other x, claims q other x)) (history_at f q) (funded.at q))

  -- the waits there are in the one round
  first-round : (j : ℕ) (w : JobWait) → wait_of f j ≡ Some w → w.at ≡ at → w.round ≡ 0
  first-round j w has here = only-part h w.round held_kind (rw here at (lined.parts j w has))

  -- a wait that the deed isn't about is a claim then only if it was
  like-else : (deed : Deed) (x number : ℕ) → IsElse (standing size h).next number deed
      → IsLike line (standing size (with_deed size h deed)).line (came_as h x) (came_as (with_deed size h deed) x)
      number
  like-else deed x number other = record {
    stands = line-after size h 0 deed number part other;
    same = ap (counts pool x) (came-after size h 0 deed number other);
  }

  -- so where it is about none of these waits, no more of them are claims
  claims-fewer : (deed : Deed) (waits : List (Option JobWait)) (x : ℕ)
      → ((i : ℕ) (w : JobWait) → slice_get waits i ≡ Some (Some w) → w.at ≡ at
      → IsElse (standing size h).next w.number deed)
      → claims_on pool at size (with_deed size h deed) waits x ≤ claims_on pool at size h waits x
  claims-fewer deed waits x other =
      count-le (λ o. is_claim at line (came_as h x) o)
      (λ o. is_claim at (standing size (with_deed size h deed)).line (came_as (with_deed size h deed) x) o) waits
      (λ i o got claims.
      claim-before at line (standing size (with_deed size h deed)).line (came_as h x)
      (came_as (with_deed size h deed) x) o
      (λ w is here. like-else deed x w.number (other i w (got ∙ ap Some is) here)) claims)

  -- what is held there, or elsewhere, counts once, or not
  here-one : (x element : ℕ) → bit (is_held_there pool at x (record { at = at; element = element }))
      ≡ bit (counts pool x element)
  here-one x element = ap bit (and-one (at == at) (counts pool x element) (eq-eqb at at refl))

  other-none : (q x : ℕ) (n : Holding) → n.at ≡ at → q ≢ at
      → bit (is_held_there (is_pool_at resources q) q x n) ≡ 0
  other-none q x n here other =
      ap bit (and-none (n.at == q) (counts (is_pool_at resources q) x n.element)
      (ne_eqb n.at q (λ same. other (sym same ∙ here))))

  -- a test by the kind of the history is one by the kind of the resource
  sorted : (P : Bool → Type 0) → P pool → P (is_of_pool h)
  sorted P holds = subst P (sym (lined.sorts at)) holds

  got : (job element : ℕ) → job < length f.holds → (q x : ℕ)
      → holds_in (is_pool_at resources q) q
      (set f.holds job (holds_of f job ++ record { at = at; element = element } ∷ [])) x
      ≡ holds_in (is_pool_at resources q) q f.holds x
      + bit (is_held_there (is_pool_at resources q) q x (record { at = at; element = element }))
  got job element below q x =
      held-got (is_held_there (is_pool_at resources q) q x) f.holds job (record { at = at; element = element }) below

  pub takes-now-funded : (job : ℕ) → job < length f.holds → 0 < (standing size h).free
      → AreFunded resources (after_take f at job (Now (first_free size h)))
  takes-now-funded job below some =
      let e : ℕ = first_free size h in
      funded-on (takes e) _ f.waits _ f.rounds
      (takes-funds size (holds_in pool at f.holds) (claims_on pool at size h f.waits) _ _ h some
      (sorted (λ b. (x : ℕ)
      → holds_in pool at (set f.holds job (holds_of f job ++ record { at = at; element = e } ∷ [])) x
      ≡ holds_in pool at f.holds x + bit (counts b x e))
      (λ x. omega (arith, got job e below at x, here-one x e)))
      (λ x. claims-fewer (takes e) f.waits x
      (λ i w is here same.
      let own : wait_of f i ≡ Some w = get_or_from_slice_get f.waits i (Some w) None is in
      let first : w.round ≡ 0 = first-round i w own here in
      let under : w.number < (standing_at f at).next = rw (here, first) at (lined.below i w own) in
      omega (arith, under, same)))
      (funded.at at))
      (λ q other x. omega (arith, got job e below q x, other-none q x (record { at = at; element = e }) refl other))
      (λ q other x. omega arith)

  pub takes-later-funded : (job : ℕ) → job < length f.waits → (standing size h).free ≡ 0
      → AreFunded resources (after_take f at job (Waits (standing size h).next))
  takes-later-funded job below none =
      let k : ℕ = (standing size h).next in
      let new : Option JobWait = Some (wait_at at 0 k) in
      let then : History = with_deed size h (joins k) in
      let joined : List Waiting = (standing size then).line in
      let written : (q : ℕ) (line : List Waiting) (test : ℕ → Bool)
      → claims_in q line test (set f.waits job new) + bit (is_claim q line test (wait_of f job))
      ≡ claims_in q line test f.waits + bit (is_claim q line test new)
      = λ q line test. count-set (λ w. is_claim q line test w) f.waits job (wait_of f job) new None below refl in
      let none_new : (x : ℕ) → bit (is_claim at joined (came_as then x) new) ≡ 0
      = λ x. ap bit (claim-none at 0 k joined (came_as then x) (line-joins size h 0 k part (lined.seated at))) in
      funded-on (joins k) _ _ f.holds f.rounds
      (joins-funds size (holds_in pool at f.holds) (claims_on pool at size h f.waits) _ _ h k none (λ x. refl)
      (λ x. omega (
        arith,
        written at joined (came_as then x),
        none_new x,
        claims-fewer (joins k) f.waits x (λ i w is here. tt),
      ))
      (funded.at at))
      (λ q other x. refl)
      (λ q other x.
      let test : ℕ → Bool
      = λ number. counts (is_pool_at resources q) x (came_for (size_at f q) (history_at f q) number) in
      let none_else : bit (is_claim q (standing_at f q).line test new) ≡ 0
      = ap bit (claim-else at q 0 k (standing_at f q).line test other) in
      omega (arith, written q (standing_at f q).line test, none_else))

  module _ (job : ℕ) (can : CanGive f job at) where
    -- the oldest that the job holds
    pub own : HasOldest at (holds_of f job)
    own = has-oldest at (holds_of f job) can.held

    abbrev pub given : ℕ
    given = option_map_or (λ x. x.element) (oldest at (holds_of f job)) 0

    given-is : given ≡ own.first.element
    given-is = ap (λ o. option_map_or (λ (x : Holding). x.element) o 0) own.is

    abbrev rest : List (List Holding)
    rest = set f.holds job (without (λ x. x.at) at (holds_of f job))

    gave : (q x : ℕ)
        → holds_in (is_pool_at resources q) q rest x + bit (is_held_there (is_pool_at resources q) q x own.first)
        ≡ holds_in (is_pool_at resources q) q f.holds x
    gave q x =
        held-gave (is_held_there (is_pool_at resources q) q x) f.holds job at own.first can.job.holds own.is

    own-one : (x : ℕ) → bit (is_held_there pool at x own.first) ≡ bit (counts pool x given)
    own-one x =
        ap bit (and-one (own.first.at == at) (counts pool x own.first.element) (eq-eqb own.first.at at own.here)
        ∙ ap (counts pool x) (sym given-is))

    gone : (x : ℕ) → holds_in pool at rest x + bit (counts (is_of_pool h) x given) ≡ holds_in pool at f.holds x
    gone =
        sorted (λ b. (x : ℕ) → holds_in pool at rest x + bit (counts b x given) ≡ holds_in pool at f.holds x)
        (λ x. omega (arith, gave at x, own-one x))

    elsewhere : (q : ℕ) → q ≢ at → (x : ℕ)
        → holds_in (is_pool_at resources q) q rest x ≡ holds_in (is_pool_at resources q) q f.holds x
    elsewhere q other x = omega (arith, gave q x, other-none q x own.first own.here other)

    pub gives-free-funded : line ≡ [] → AreFunded resources (after_give f at job (Free given))
    gives-free-funded empty =
        funded-on (frees given) f.room f.waits _ f.rounds
        (frees-funds size (holds_in pool at f.holds) (claims_on pool at size h f.waits) _ _ h given empty gone
        (λ x. claims-fewer (frees given) f.waits x (λ i w is here. tt)) (funded.at at))
        elsewhere (λ q other x. omega arith)

    pub gives-sent-funded : (first : Waiting) (more : List Waiting) → line ≡ first ∷ more
        → AreFunded resources (after_give f at job (Sent given first.wait))
    gives-sent-funded first more is =
        funded-on (sends given first.wait) f.room f.waits _ f.rounds
        (sends-funds size (holds_in pool at f.holds) (claims_on pool at size h f.waits) _ _ h given first.wait
        (λ empty. absurd (cc)) gone
        (sorted (λ b. (x : ℕ) → claims_on pool at size then f.waits x
        ≤ claims_on pool at size h f.waits x + bit (counts b x given))
        (λ x. claims-more x (counts pool x given) refl)) (funded.at at))
        elsewhere (λ q other x. omega arith)
      where
        then : History
        then = with_deed size h (sends given first.wait)

        number : ℕ
        number = first.wait

        was-claim : ℕ → Option JobWait → Bool
        was-claim x o = is_claim at line (came_as h x) o

        now-claim : ℕ → Option JobWait → Bool
        now-claim x o = is_claim at (standing size then).line (came_as then x) o

        -- another wait than that to which it is sent is a claim only if it was
        old-claim : (x : ℕ) (w : JobWait) → (w.at ≡ at → w.number ≢ number) → now-claim x (Some w) ≡ true
            → was-claim x (Some w) ≡ true
        old-claim x w other claims =
            claim-before at line (standing size then).line (came_as h x) (came_as then x) (Some w)
            (λ v same here.
            let is : v ≡ w = cc in
            like-else (sends given number) x v.number
            (λ number_is. other (rw (← is) here) (rw (← is) number_is))) claims

        -- a claim that is new is that of the wait to which it is sent
        new-claim : (x i : ℕ) (o : Option JobWait) → wait_of f i ≡ o → now-claim x o ≡ true → was-claim x o ≡ false
            → o ≡ Some (wait_at at 0 number)
        new-claim x i None has now before = absurd (cc)
        new-claim x i (Some w) has now before = go (cases_eq w.at at) (cases_eq w.number number)
          where
            go : (w.at ≡ at) ⊎ (w.at ≢ at) → (w.number ≡ number) ⊎ (w.number ≢ number)
                → Some w ≡ Some (wait_at at 0 number)
            go (inl here) (inl same) = rw (← here, ← same, ← first-round i w has here) refl
            go (inl here) (inr other) =
                let was : was-claim x (Some w) ≡ true = old-claim x w (λ own. other) now in
                absurd (cc)
            go (inr away) either =
                let was : was-claim x (Some w) ≡ true = old-claim x w (λ own. absurd (away own)) now in
                absurd (cc)

        only : (x i j : ℕ) (o p : Option JobWait) → slice_get f.waits i ≡ Some o → slice_get f.waits j ≡ Some p
            → now-claim x o ≡ true → was-claim x o ≡ false → now-claim x p ≡ true → was-claim x p ≡ false → i ≡ j
        only x i j o p one two o_now o_was p_now p_was =
            let first : wait_of f i ≡ o = get_or_from_slice_get f.waits i o None one in
            let second : wait_of f j ≡ p = get_or_from_slice_get f.waits j p None two in
            lined.apart i j (wait_at at 0 number) (first ∙ new-claim x i o first o_now o_was)
            (second ∙ new-claim x j p second p_now p_was)

        -- where the wait isn't one for this element, it is no claim on it
        not-counted : (x : ℕ) (b : Bool) → pool ≡ b → counts pool x given ≡ false
            → now-claim x (Some (wait_at at 0 number)) ≡ true → was-claim x (Some (wait_at at 0 number)) ≡ true
        not-counted x false pooled none claims =
            let one : counts pool x given ≡ true = rw pooled refl in absurd (cc)
        not-counted x true pooled none claims =
            let came : came_for size then number ≡ given
            = came-sent size h first more given (lined.seated at) is (lined.sorts at ∙ pooled) in
            let never : now-claim x (Some (wait_at at 0 number)) ≡ false = rw (came, none) (refuse (at == at)
            (in_line number (standing size then).line)) in
            absurd (cc)
          where
            refuse : (a b : Bool) → (a && (Rattle.std.specs.Prelude.not b && false)) ≡ false
            refuse true true = refl
            refuse true false = refl
            refuse false b = refl

        was-before : (x i : ℕ) → counts pool x given ≡ false → (o : Option JobWait) → wait_of f i ≡ o
            → now-claim x o ≡ true → (b : Bool)
            → was-claim x o ≡ b → was-claim x o ≡ true
        was-before x i none o has now true was = was
        was-before x i none o has now false was =
            let is : o ≡ Some (wait_at at 0 number) = new-claim x i o has now was in
            rw is (not-counted x pool refl none (rw is at now))

        claims-more : (x : ℕ) (b : Bool) → counts pool x given ≡ b
            → claims_on pool at size then f.waits x
            ≤ claims_on pool at size h f.waits x + bit (counts pool x given)
        claims-more x true counted =
            let one : bit (counts pool x given) ≡ 1 = ap bit counted in
            omega (arith, one, count-one-more (was-claim x) (now-claim x) f.waits (only x))
        claims-more x false none =
            let fewer : claims_on pool at size then f.waits x ≤ claims_on pool at size h f.waits x
            = count-le (was-claim x) (now-claim x) f.waits
            (λ i o got claims.
            was-before x i none o (get_or_from_slice_get f.waits i o None got) claims (was-claim x o) refl) in
            omega (arith, fewer)

  module _ (job number : ℕ) (has : HasWait f job at 0 number) where
    abbrev without_wait : List (Option JobWait)
    without_wait = set f.waits job None

    -- the wait is over
    over : (q : ℕ) (line : List Waiting) (test : ℕ → Bool)
        → claims_in q line test without_wait + bit (is_claim q line test (Some (wait_at at 0 number)))
        ≡ claims_in q line test f.waits + 0
    over q line test =
        count-set (λ w. is_claim q line test w) f.waits job (Some (wait_at at 0 number)) None None has.job.waits
        has.waits

    over-else : (q : ℕ) → q ≢ at → (x : ℕ)
        → claims_on (is_pool_at resources q) q (size_at f q) (history_at f q) without_wait x
        ≤ claims_on (is_pool_at resources q) q (size_at f q) (history_at f q) f.waits x
    over-else q other x =
        omega (
          arith,
          over q (standing_at f q).line
              (λ n. counts (is_pool_at resources q) x (came_for (size_at f q) (history_at f q) n)),
        )

    -- what came for the wait is the job's newest
    granted-funded : (deed : Deed) (e : ℕ) → in_line number line ≡ false → came_for size h number ≡ e
        → ((n k : ℕ) → IsElse n k deed)
        → ((holds' claims' : ℕ → ℕ)
        → ((x : ℕ) → holds' x + claims' x ≤ holds_in pool at f.holds x + claims_on pool at size h f.waits x)
        → AreFunds size (with_deed size h deed) holds' claims')
        → AreFunded resources (with_newest (with_wait (with_done f at deed) job None) job at e)
    granted-funded deed e away came quiet funds =
        let newest : Holding = record { at = at; element = e } in
        let one : (x : ℕ) → bit (is_claim at line (came_as h x) (Some (wait_at at 0 number))) ≡ bit (counts pool x e)
        = λ x. ap bit (claim-here at 0 number line (came_as h x) away ∙ ap (counts pool x) came) in
        funded-on deed f.room _ _ f.rounds
        (funds _ _
        (λ x. omega (
          arith,
          got job e has.job.holds at x,
          here-one x e,
          one x,
          over at line (came_as h x),
          claims-fewer deed without_wait x (λ i w is here. quiet (standing size h).next w.number),
        )))
        (λ q other x. omega (arith, got job e has.job.holds q x, other-none q x newest refl other)) over-else

    pub gets-funded : (e : ℕ) → in_line number line ≡ false → came_for size h number ≡ e
        → AreFunded resources (with_newest (with_wait (with_done f at (gets number e)) job None) job at e)
    gets-funded e away came =
        granted-funded (gets number e) e away came (λ n k. tt)
        (λ holds' claims' more. gets-funds size (holds_in pool at f.holds) (claims_on pool at size h f.waits) holds'
        claims' more h number e (funded.at at))

    pub late-funded : (e : ℕ) → in_line number line ≡ false → came_for size h number ≡ e
        → AreFunded resources (with_newest (with_wait (with_done f at (is_late number e)) job None) job at e)
    late-funded e away came =
        granted-funded (is_late number e) e away came (λ n k. tt)
        (λ holds' claims' more. late-funds size (holds_in pool at f.holds) (claims_on pool at size h f.waits) holds'
        claims' more h number e (funded.at at))

    pub gone-funded : AreFunded resources
        (with_back (with_wait (with_done f at (leaves number)) job None) job (wait_at at 0 number))
    gone-funded =
        funded-on (leaves number) f.room _ f.holds _
        (leaves-funds size (holds_in pool at f.holds) (claims_on pool at size h f.waits) _ _
        (λ x. omega (
          arith,
          over at line (came_as h x),
          claims-fewer (leaves number) without_wait x (λ i w is here. other-number i w is here),
        ))
        h number (funded.at at))
        (λ q other x. refl) over-else
      where
        other-number : (i : ℕ) (w : JobWait) → slice_get without_wait i ≡ Some (Some w) → w.at ≡ at
            → w.number ≢ number
        other-number i w is here same =
            let waits : wait_of (with_wait f job None) i ≡ Some w
            = get_or_from_slice_get without_wait i (Some w) None is in
            let other = wait-gone f job i w has.job.waits waits in
            let own : w ≡ wait_at at 0 number = rw (← here, ← same, ← first-round i w other.1 here) refl in
            other.0 (lined.apart i job w other.1 (has.waits ∙ ap Some (sym own)))

-- a resource that can't be held has no funds to keep, and what happens there leaves those of the others
module _ (resources : List Resource) (f : PlainFloor) (funded : AreFunded resources f) (at round : ℕ) (deed : Deed)
    (there : at < length f.histories) (unheld : IsUnheld (history_at f at)) (room : List ℕ)
    (waits : List (Option JobWait)) (rounds : List (List ℕ)) where
  abbrev changed : PlainFloor
  changed = changed_floor f at round deed room waits f.holds rounds

  unheld-funded : ((q : ℕ) → q ≢ at → (x : ℕ)
      → claims_on (is_pool_at resources q) q (size_at f q) (history_at f q) waits x
      ≤ claims_on (is_pool_at resources q) q (size_at f q) (history_at f q) f.waits x)
      → AreFunded resources changed
  unheld-funded claims = record { at = λ q. go q (cases_eq q at) }
    where
      go : (q : ℕ) → (q ≡ at) ⊎ (q ≢ at)
          → FundsOn (is_pool_at resources q) q (size_at f q) (history_at changed q) f.holds waits
      go q (inl here) =
          let own : FundsOn (is_pool_at resources at) at (size_at f at)
          (with_deed_in (size_at f at) (history_at f at) round deed) f.holds waits
          = unheld-funds (size_at f at) (history_at f at) round deed _ _ unheld in
          rw here (subst (λ now. FundsOn (is_pool_at resources at) at (size_at f at) now f.holds waits)
          (sym (history-here f at round deed there)) own)
      go q (inr other) =
          subst (λ now. FundsOn (is_pool_at resources q) q (size_at f q) now f.holds waits)
          (sym (history-else f at round deed q other))
          (same-funds (size_at f q) (holds_in (is_pool_at resources q) q f.holds)
          (claims_on (is_pool_at resources q) q (size_at f q) (history_at f q) f.waits)
          (holds_in (is_pool_at resources q) q f.holds)
          (claims_on (is_pool_at resources q) q (size_at f q) (history_at f q) waits)
          (λ x. omega (arith, claims q other x)) (history_at f q) (funded.at q))

-- where nobody waits anew
pub calm-funded : (resources : List Resource) (f : PlainFloor) → AreFunded resources f → (at round : ℕ) (deed : Deed)
    → at < length f.histories → IsUnheld (history_at f at) → (room : List ℕ) (rounds : List (List ℕ))
    → AreFunded resources (changed_floor f at round deed room f.waits f.holds rounds)
calm-funded resources f funded at round deed there unheld room rounds =
    unheld-funded resources f funded at round deed there unheld room f.waits rounds (λ q other x. omega arith)

-- a job waits there, or its wait there is over
pub wait-funded : (resources : List Resource) (f : PlainFloor) → AreFunded resources f → (at round : ℕ) (deed : Deed)
    → at < length f.histories → IsUnheld (history_at f at) → (room : List ℕ) (rounds : List (List ℕ)) (job k : ℕ)
    → job < length f.waits
    → AreFunded resources
    (changed_floor f at round deed room (set f.waits job (Some (wait_at at round k))) f.holds rounds)
wait-funded resources f funded at round deed there unheld room rounds job k below =
    let new : Option JobWait = Some (wait_at at round k) in
    unheld-funded resources f funded at round deed there unheld room (set f.waits job new) rounds
    (λ q other x.
    let test : ℕ → Bool
    = λ number. counts (is_pool_at resources q) x (came_for (size_at f q) (history_at f q) number) in
    let written = count-set (λ w. is_claim q (standing_at f q).line test w) f.waits job (wait_of f job) new None below
    refl in
    let none_else : bit (is_claim q (standing_at f q).line test new) ≡ 0
    = ap bit (claim-else at q round k (standing_at f q).line test other) in
    omega (arith, written, none_else))

pub over-funded : (resources : List Resource) (f : PlainFloor) → AreFunded resources f → (at round : ℕ) (deed : Deed)
    → at < length f.histories → IsUnheld (history_at f at) → (room : List ℕ) (rounds : List (List ℕ)) (job : ℕ)
    → job < length f.waits
    → AreFunded resources (changed_floor f at round deed room (set f.waits job None) f.holds rounds)
over-funded resources f funded at round deed there unheld room rounds job below =
    unheld-funded resources f funded at round deed there unheld room (set f.waits job None) rounds
    (λ q other x.
    let test : ℕ → Bool
    = λ number. counts (is_pool_at resources q) x (came_for (size_at f q) (history_at f q) number) in
    let written = count-set (λ w. is_claim q (standing_at f q).line test w) f.waits job (wait_of f job) None None below
    refl in
    omega (arith, written))
