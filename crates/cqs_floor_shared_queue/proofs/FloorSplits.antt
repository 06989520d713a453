-- The resources of a plan as they are opened, and as a pass for the next worker is split from each.
use Rattle.std.proofs.Common.{◌≡◌, inl, ℕ, zero, suc, ◌+◌, ◌-◌, ◌<◌, ◌≤◌, IsTrue, true, List, [], ◌∷◌, Some, length, map, replicate, get_or, slice_get, refl, ap, sym, ◌∙◌, subst, arith}
use Rattle.std.proofs.lemmas.Bool.{leb-true}
use Rattle.cqs_core.specs.Parts.{part}
use Rattle.cqs_core.proofs.Places.{get-below, get-there}
use Rattle.cqs_barrier_object.specs.BarrierNames.{entry_names as party_names}
use Rattle.cqs_plan.specs.declared.plans.job.Job.{Job}
use Rattle.cqs_plan.specs.declared.plans.kind.Kind.{Kind}
use Rattle.cqs_plan.specs.declared.plans.kind.Kind.TheVariants as kind
use Rattle.cqs_plan.specs.declared.plans.plan.Plan.{Plan}
use Rattle.cqs_plan.specs.declared.plans.resource.Resource.{Resource}
use Rattle.cqs_plan.specs.Arriving.{arriving, has_parties, rounds_of}
use Rattle.cqs_plan.specs.FloorHistory.{no_history}
use Rattle.cqs_plan.specs.Runnable.{IsRunnable}
use Rattle.cqs_floor_shared.specs.Entries.{are_nothing, is_nothing, own_history}
use Rattle.cqs_floor_shared_queue.specs.Openings.{AreFresh, CanSplitEach, HaveOpened, HaveSplitEach, IsFresh, arriving_from, own_arriving}
use Rattle.cqs_floor_shared_kinds.specs.ShareCalls.{Splits, first_parties, no_funds}
use Rattle.cqs_floor_shared_kinds.specs.Shares.{Share}
use Rattle.cqs_floor_shared_queue.proofs.FloorMeets.{map-alike}
use Rattle.cqs_floor_shared_queue.proofs.FloorProvides.{all-from}

-- nothing names anybody before the first call
no-rounds-yet : (n rounds : ℕ) → are_nothing (map (part party_names n) (replicate rounds [])) ≡ true
no-rounds-yet n zero = refl
no-rounds-yet n (suc rounds) = no-rounds-yet n rounds

nothing-yet : (n : ℕ) (k : Kind) → is_nothing (own_history n (no_history k)) ≡ true
nothing-yet n (kind.Semaphore permits) = refl
nothing-yet n kind.Mutex = refl
nothing-yet n (kind.Pool elements) = refl
nothing-yet n (kind.Latch count) = refl
nothing-yet n (kind.Rounds parties rounds) = no-rounds-yet n rounds

map-const : (n m gives : ℕ) → map (λ (p : ℕ). gives) (replicate n m) ≡ replicate n gives
map-const zero m gives = refl
map-const (suc n) m gives = ap (λ ps. gives ∷ ps) (map-const n m gives)

replicate-at : (n m i : ℕ) → i < n → get_or (replicate n m) i 0 ≡ m
replicate-at zero m i low = absurd (omega arith)
replicate-at (suc n) m zero low = refl
replicate-at (suc n) m (suc i) low = replicate-at n m i (omega arith)

replicate-is : (n m i p : ℕ) → slice_get (replicate n m) i ≡ Some p → p ≡ m
replicate-is zero m i p got = absurd (cc)
replicate-is (suc n) m zero p got = let same : Some m ≡ Some p = got in cc
replicate-is (suc n) m (suc i) p got = replicate-is n m i p got

module _ {X : Type 0} (s : Share X) where
  -- of each round of a resource the pass has as many parties, so many at least
  pub record HasMany (k : Kind) (least : ℕ) (x : X) : Type 0 where
    pub many : ℕ
    pub enough : least ≤ many
    pub are : s.parties x ≡ replicate (rounds_of k) many

  pub record HaveMany (resources : List Resource) (least : ℕ → ℕ) (shares : List X) : Type 0 where
    pub each : (at : ℕ) (r : Resource) (x : X) → slice_get resources at ≡ Some r → slice_get shares at ≡ Some x
        → HasMany r.kind (least at) x

  -- no parties are asked of what is fresh
  abbrev pub Fresh : List Resource → ℕ → ℕ → List X → Type 0
  Fresh resources workers number shares = AreFresh s resources workers number (λ at. 0) shares

  -- as they are opened
  first-many : (k : Kind) (jobs : ℕ) (x : X) → IsTrue (has_parties k jobs) → s.parties x ≡ first_parties s k
      → HasMany k jobs x
  first-many (kind.Rounds parties rounds) jobs x fits are =
      record { many = parties; enough = leb-true jobs parties fits; are = are }
  first-many (kind.Semaphore permits) jobs x fits are = record { many = jobs; enough = omega arith; are = are }
  first-many kind.Mutex jobs x fits are = record { many = jobs; enough = omega arith; are = are }
  first-many (kind.Pool elements) jobs x fits are = record { many = jobs; enough = omega arith; are = are }
  first-many (kind.Latch count) jobs x fits are = record { many = jobs; enough = omega arith; are = are }

  pub fresh-opened : (resources : List Resource) (workers : ℕ) (room : List ℕ) (shares : List X)
      → HaveOpened s resources workers room shares → length shares ≡ length resources
      → Fresh resources workers 0 shares
  fresh-opened resources workers room shares opened long = record {
    long = long;
    each = λ at r x named got.
        let o = opened.each at r x named got in
        record {
          number = o.number;
          met = o.met;
          passes = o.passes_are;
          funded = o.funded;
          unnamed = ap (λ h. is_nothing (own_history 0 h)) o.seen ∙ nothing-yet 0 r.kind;
        };
    parties = λ at r x named got round low. omega arith;
  }

  pub many-opened : (plan : Plan) (workers : ℕ) (room : List ℕ) (shares : List X) → IsRunnable plan
      → HaveOpened s plan.resources workers room shares
      → HaveMany plan.resources (λ at. arriving_from workers 0 at 0 plan.jobs) shares
  many-opened plan workers room shares runnable opened = record {
    each = λ at r x named got.
        let o = opened.each at r x named got in
        let m = first-many r.kind (arriving at plan.jobs) x (runnable.parties.at at r named) o.parties in
        record {
          many = m.many;
          enough = omega (arith, m.enough, all-from workers at 0 plan.jobs);
          are = m.are;
        };
  }

  -- the last worker has what is left
  pub last-fresh : (resources : List Resource) (workers number : ℕ) (jobs : List Job) (shares : List X)
      → Fresh resources workers number shares
      → HaveMany resources (λ at. arriving_from workers number at 0 jobs) shares
      → AreFresh s resources workers number (λ at. own_arriving workers number at jobs) shares
  last-fresh resources workers number jobs shares fresh many = record {
    long = fresh.long;
    each = fresh.each;
    parties = λ at r x named got round low.
        let m = many.each at r x named got in
        let all = ap (λ (ps : List ℕ). get_or ps round 0) m.are ∙ replicate-at (rounds_of r.kind) m.many round low in
        omega (arith, all, m.enough);
  }

  -- a pass for the next worker is split from each
  module _ (resources : List Resource) (workers worker : ℕ) (jobs : List Job) (some : 1 ≤ worker) (old : List X)
      (fresh : Fresh resources workers (worker - 1) old)
      (many : HaveMany resources (λ at. arriving_from workers (worker - 1) at 0 jobs) old)
      (fewer : (at : ℕ) → arriving_from workers worker at 0 jobs ≤ arriving_from workers (worker - 1) at 0 jobs) where
    resource-at : (at : ℕ) (x : X) → slice_get old at ≡ Some x → (r : Resource) × (slice_get resources at ≡ Some r)
    resource-at at x got = get-there resources at (omega (arith, get-below old at x got, fresh.long))

    pub split-can : CanSplitEach s (λ at. arriving_from workers worker at 0 jobs) old
    split-can = record {
      each = λ at x got.
          let r = resource-at at x got in
          let f = fresh.each at r.0 x r.1 got in
          let m = many.each at r.0 x r.1 got in
          record {
            a = no_funds s r.0.kind 0;
            funded = f.funded 0;
            enough = λ round n has.
                let is = replicate-is (rounds_of r.0.kind) m.many round n
                (ap (λ ps. slice_get ps round) (sym m.are) ∙ has) in
                omega (arith, is, m.enough, fewer at);
          };
    }

    module _ (made new : List X)
        (split : HaveSplitEach s (λ at. arriving_from workers worker at 0 jobs) worker old made new) where
      -- what was there before of what is there now
      before : (xs : List X) (at : ℕ) (y : X) → length xs ≡ length old → slice_get xs at ≡ Some y
          → (x : X) × (slice_get old at ≡ Some x)
      before xs at y long got = get-there old at (omega (arith, get-below xs at y got, long))

      pub made-fresh : Fresh resources workers worker made
      made-fresh = record {
        long = split.made_long ∙ fresh.long;
        each = λ at r y named got.
            let x = before made at y split.made_long got in
            let e = split.each at x.0 x.1 in
            let found : Some e.one ≡ Some y = sym e.its ∙ got in
            let is : e.one ≡ y = cc in
            subst (IsFresh s r.kind workers worker) is
            (one-fresh r.kind x.0 e.one (fresh.each at r x.0 named x.1) e.number_is
            (e.split (no_funds s r.kind 0) ((fresh.each at r x.0 named x.1).funded 0)));
        parties = λ at r y named got round low. omega arith;
      }
        where
          one-fresh : (k : Kind) (x one : X) {y : X} {gives : ℕ} → IsFresh s k workers (worker - 1) x
              → s.number one ≡ worker → Splits s (no_funds s k 0) gives x one y → IsFresh s k workers worker one
          one-fresh k x one f number made = record {
            number = number;
            met = made.met;
            passes = made.passes ∙ f.passes;
            funded = made.made_funded;
            unnamed = ap (λ n. is_nothing (own_history n (s.seen one))) (sym number) ∙ made.nothing;
          }

      pub made-many : HaveMany resources (λ at. arriving_from workers worker at 0 jobs) made
      made-many = record {
        each = λ at r y named got.
            let x = before made at y split.made_long got in
            let e = split.each at x.0 x.1 in
            let found : Some e.one ≡ Some y = sym e.its ∙ got in
            let is : e.one ≡ y = cc in
            let m = many.each at r x.0 named x.1 in
            let t = e.split (no_funds s r.kind 0) ((fresh.each at r x.0 named x.1).funded 0) in
            subst (HasMany r.kind (arriving_from workers worker at 0 jobs)) is (record {
              many = arriving_from workers worker at 0 jobs;
              enough = omega arith;
              are = t.gives_each
                  ∙ ap (map (λ (p : ℕ). arriving_from workers worker at 0 jobs)) m.are
                  ∙ map-const (rounds_of r.kind) m.many (arriving_from workers worker at 0 jobs);
            });
      }

      pub new-fresh : AreFresh s resources workers (worker - 1) (λ at. own_arriving workers (worker - 1) at jobs) new
      new-fresh = record {
        long = split.new_long ∙ fresh.long;
        each = λ at r y named got.
            let x = before new at y split.new_long got in
            let e = split.each at x.0 x.1 in
            let found : Some e.after ≡ Some y = sym e.there ∙ got in
            let is : e.after ≡ y = cc in
            let f = fresh.each at r x.0 named x.1 in
            let t = e.split (no_funds s r.kind 0) (f.funded 0) in
            subst (IsFresh s r.kind workers (worker - 1)) is (record {
              number = t.looked.same.number ∙ f.number;
              met = t.looked.same.met ∙ f.met;
              passes = t.looked.same.passes ∙ f.passes;
              funded = λ n. (e.split (no_funds s r.kind n) (f.funded n)).funded;
              unnamed =
                  ap (λ n. is_nothing (own_history n (s.seen e.after))) (sym f.number)
                  ∙ ap is_nothing (t.looked.mine (s.number x.0) (inl refl))
                  ∙ ap (λ n. is_nothing (own_history n (s.seen x.0))) f.number ∙ f.unnamed;
            });
        parties = λ at r y named got round low.
            let x = before new at y split.new_long got in
            let e = split.each at x.0 x.1 in
            let found : Some e.after ≡ Some y = sym e.there ∙ got in
            let is : e.after ≡ y = cc in
            let m = many.each at r x.0 named x.1 in
            let t = e.split (no_funds s r.kind 0) ((fresh.each at r x.0 named x.1).funded 0) in
            let sums = t.parties round in
            let all = ap (λ (ps : List ℕ). get_or ps round 0) m.are
            ∙ replicate-at (rounds_of r.kind) m.many round low in
            let gave = ap (λ (ps : List ℕ). get_or ps round 0)
            (t.gives_each ∙ ap (map (λ (p : ℕ). arriving_from workers worker at 0 jobs)) m.are
            ∙ map-const (rounds_of r.kind) m.many (arriving_from workers worker at 0 jobs))
            ∙ replicate-at (rounds_of r.kind) (arriving_from workers worker at 0 jobs) round low in
            let next = ap (λ w. arriving_from workers w at 0 jobs) (one-on some) in
            let here = ap (λ (z : X). get_or (s.parties z) round 0) is in
            omega (arith, sums, all, gave, m.enough, next, here);
      }
        where
          one-on : 1 ≤ worker → worker - 1 + 1 ≡ worker
          one-on low = omega (arith, low)

      -- and all are of one family
      pub made-kin : map s.family made ≡ map s.family old
      made-kin = map-alike s.family old made split.made_long
          (λ at x y there got.
          let e = split.each at x there in
          let found : Some e.one ≡ Some y = sym e.its ∙ got in
          let is : e.one ≡ y = cc in
          let r = resource-at at x there in
          ap s.family (sym is)
          ∙ (e.split (no_funds s r.0.kind 0) ((fresh.each at r.0 x r.1 there).funded 0)).family)

      pub new-kin : map s.family new ≡ map s.family old
      new-kin = map-alike s.family old new split.new_long
          (λ at x y there got.
          let e = split.each at x there in
          let found : Some e.after ≡ Some y = sym e.there ∙ got in
          let is : e.after ≡ y = cc in
          let r = resource-at at x there in
          ap s.family (sym is)
          ∙ (e.split (no_funds s r.0.kind 0) ((fresh.each at r.0 x r.1 there).funded 0)).looked.same.family)

      -- and have the same limits
      pub made-limits : map s.limit made ≡ map s.limit old
      made-limits = map-alike s.limit old made split.made_long
          (λ at x y there got.
          let e = split.each at x there in
          let found : Some e.one ≡ Some y = sym e.its ∙ got in
          let is : e.one ≡ y = cc in
          let r = resource-at at x there in
          ap s.limit (sym is)
          ∙ (e.split (no_funds s r.0.kind 0) ((fresh.each at r.0 x r.1 there).funded 0)).limit)

      pub new-limits : map s.limit new ≡ map s.limit old
      new-limits = map-alike s.limit old new split.new_long
          (λ at x y there got.
          let e = split.each at x there in
          let found : Some e.after ≡ Some y = sym e.there ∙ got in
          let is : e.after ≡ y = cc in
          let r = resource-at at x there in
          ap s.limit (sym is)
          ∙ (e.split (no_funds s r.0.kind 0) ((fresh.each at r.0 x r.1 there).funded 0)).looked.same.limit)
