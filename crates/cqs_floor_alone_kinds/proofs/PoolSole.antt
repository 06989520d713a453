-- A pool of the running queue with its one pass is a resource as a floor needs it: as it is made, and how it stands.
use Rattle.std.proofs.Common.{◌≡◌, inr, ℕ, zero, suc, ◌+◌, ◌-◌, ◌<◌, ◌≤◌, ◌==◌, true, List, [], ◌∷◌, ◌++◌, length, replicate, slice_get, vec_capacity, Option, Some, refl, ap, sym, ◌∙◌, subst, eq-eqb, arith}
use Rattle.std.proofs.lemmas.List.Elements.{filter-append}
use Rattle.cqs_core.proofs.Counts.{bit}
use Rattle.cqs_plan.specs.declared.floors.answers.FloorEnd.TheVariants.{Permits}
use Rattle.cqs_plan.specs.declared.plans.kind.Kind.{Kind}
use Rattle.cqs_plan.specs.declared.plans.kind.Kind.TheVariants as kind
use Rattle.cqs_plan.specs.Floor.{size_of}
use Rattle.cqs_plan.specs.FloorHistory.{Deed, of_elements, elements_after, element_entries}
use Rattle.cqs_plan.specs.LegalFloor.{IsHistory}
use Rattle.cqs_pool_object.specs.declared.entries.PoolEntry.{PoolEntry}
use Rattle.cqs_pool_object.specs.PoolEntries.{IsLegal, less, object_after}
use Rattle.cqs_pool_object.specs.PoolObject as plain
use Rattle.cqs_pool_object.specs.PoolObject.{times}
use Rattle.cqs_pool_object.proofs.PoolConserved.{conserved-after, long-numbers}
use Rattle.cqs_pool.specs.Answers.{IsInHand}
use Rattle.cqs_pool.specs.Calls.{IsMine, Rests, plain_after, size_of as pool_size}
use Rattle.cqs_pool.specs.Causes.{drawn_in}
use Rattle.cqs_pool.proofs.ElementTimes.{times-has}
use Rattle.cqs_rule_laws.specs.declared.config.Place.{Place}
use Rattle.cqs_rule_laws.specs.declared.view.Opening.{Opening}
use Rattle.cqs_rule_laws.specs.declared.view.View.{View}
use Rattle.cqs_rule_laws.specs.Lists.{Has}
use Rattle.cqs_rule.specs.Passes.{limit_of, pass_view}
use Rattle.cqs_floor_common.specs.declared.held.HeldElement.{HeldElement}
use Rattle.cqs_floor_common.specs.HeldElements.{all_held, elements_held, held_by}
use Rattle.cqs_floor_common.proofs.HeldElements.{all-less}
use Rattle.cqs_floor_alone_kinds.specs.declared.pool_sole.PoolSole.{PoolSole}
use Rattle.cqs_floor_alone_kinds.specs.SolePool.{IsFunded, IsPool, is_news, news, store_pool}
use Rattle.cqs_floor_alone_kinds.specs.Stores.{IsLawful, IsOpened, Tells}
use Rattle.cqs_floor_alone_kinds.specs.Waits.{WaitsAt}
use Rattle.cqs_floor_alone_kinds.proofs.PoolNews.{news-legal, news-object}
use Rattle.cqs_floor_alone_kinds.proofs.PoolRests.{Comes, has-next}

-- the plain pool that a floor sees is the one after all that the pass has seen
pub seen-object : (x : PoolSole) (kind : Option Kind) → (pass_view x.pass).opening.size ≡ size_of kind
    → elements_after (size_of kind) (news (pass_view x.pass).seen) ≡ plain_after (pass_view x.pass)
seen-object x kind is =
    news-object (size_of kind) (pass_view x.pass).seen ∙ ap (λ n. object_after n (pass_view x.pass).seen) (sym is)

pub legal-seen : (x : PoolSole) (kind : Option Kind) → (pass_view x.pass).opening.size ≡ size_of kind
    → IsMine x.pool x.pass → IsLegal (size_of kind) (pass_view x.pass).seen
legal-seen x kind is mine = subst (λ n. IsLegal n (pass_view x.pass).seen) is mine.live.legal

pub pool-lawful : IsLawful store_pool
pool-lawful = record {
  legal = λ x k room waiting held funded. legal x k funded.sort
      (news-legal (size_of (Some k)) (pass_view x.pass).seen (legal-seen x (Some k) funded.rests.size_is funded.mine));
  numbered = λ x round wait kind room waiting held funded has.
      subst (λ (o : plain.Pool). wait.index < o.next) (sym (seen-object x kind funded.rests.size_is))
      (funded.rests.drawn wait.index has.1.open_yet);
}
  where
    legal : (x : PoolSole) (k : Kind) → IsPool (Some k) → IsLegal (size_of (Some k)) (news (pass_view x.pass).seen)
        → IsHistory k (store_pool.history x)
    legal x (kind.Pool n) sort is = is
    legal x (kind.Semaphore n) sort is = absurd sort
    legal x kind.Mutex sort is = absurd sort
    legal x (kind.Latch n) sort is = absurd sort
    legal x (kind.Rounds n m) sort is = absurd sort

pub less-first : (e : ℕ) (xs : List ℕ) → less e (e ∷ xs) ≡ xs
less-first e xs = rw (eq-eqb e e refl) refl

module _ (x y : PoolSole) where
  abbrev v : View PoolEntry (Unit {0})
  v = pass_view x.pass

  abbrev w : View PoolEntry (Unit {0})
  w = pass_view y.pass

  abbrev o : plain.Pool
  o = plain_after v

  -- what happened, in the floor's words
  pub done-by : (kind : Option Kind) (deed : Deed) (entries : List PoolEntry) (slots waits : List ℕ)
      → v.opening.size ≡ size_of kind → Comes v w entries slots waits
      → news entries ≡ element_entries o.next deed
      → store_pool.history y
      ≡ of_elements (news v.seen ++ element_entries (elements_after (size_of kind) (news v.seen)).next deed)
  done-by kind deed entries slots waits size c fresh =
      ap of_elements (ap news c.seen ∙ filter-append is_news v.seen entries
      ∙ ap (λ es. news v.seen ++ es) (fresh ∙ ap (λ (p : plain.Pool). element_entries p.next deed)
      (sym (seen-object x kind size))))

  -- the waits that are still there
  pub keeps-by : (entries : List PoolEntry) (slots waits : List ℕ) → Comes v w entries slots waits
      → (wait : Place) → WaitsAt v wait → Has wait.index waits → WaitsAt w wait
  keeps-by entries slots waits c wait has there =
      has-next v w entries c.same c.seen wait has
      (subst (Has wait.index) (sym c.rests.waits_are) there)

-- all elements are free or held
all-there : (x : PoolSole) (kind : Option Kind) → (pass_view x.pass).opening.size ≡ size_of kind
    → IsMine x.pool x.pass
    → length (plain_after (pass_view x.pass)).way + length (plain_after (pass_view x.pass)).held ≡ size_of kind
all-there x kind is mine =
    subst (λ n. length (object_after n (pass_view x.pass).seen).way
    + length (object_after n (pass_view x.pass).seen).held ≡ size_of kind) (sym is)
    (conserved-after (size_of kind) (pass_view x.pass).seen (legal-seen x kind is mine)).all

-- no more are free than there are
pub few-free : (x : PoolSole) (kind : Option Kind) → (pass_view x.pass).opening.size ≡ size_of kind
    → IsMine x.pool x.pass → length (plain_after (pass_view x.pass)).way ≤ size_of kind
few-free x kind is mine = omega (arith, all-there x kind is mine)

pub few-counted : (x : PoolSole) (kind : Kind) (room waiting : ℕ) (held : List (List ℕ))
    → IsFunded x (Some kind) room waiting held → x.free ≤ size_of (Some kind)
few-counted x kind room waiting held funded =
    omega (arith, funded.free, few-free x (Some kind) funded.rests.size_is funded.mine)

-- so its count fits
pub few-counted_at : (x : PoolSole) (kind : Option Kind) (room waiting : ℕ) (held : List (List ℕ))
    → IsFunded x kind room waiting held → x.free ≤ 4096
few-counted_at x kind room waiting held funded =
    omega (
      arith,
      funded.free,
      few-free x kind funded.rests.size_is funded.mine,
      funded.rests.size_is,
      funded.rests.most,
    )

-- the pass has in hand what a job holds
pub in-hand : (x : PoolSole) (job e : ℕ) → slice_get (elements_held job x.held.items) 0 ≡ Some e
    → ((n : ℕ) → (times n (all_held x.held.items) ≤ times n (pass_view x.pass).facts.has.slots)
    × (times n (pass_view x.pass).facts.has.slots ≤ 1)) → IsInHand e (pass_view x.pass).facts
in-hand x job e first hands =
    let one : bit (e == e) ≡ 1 = ap bit (eq-eqb e e refl) in
    times-has e (pass_view x.pass).facts.has.slots
    (omega (arith, one, (hands e).0, all-less job e x.held.items e first))

-- how it stands
pub pool-tells : (x : PoolSole) (kind : Kind)
    → Tells store_pool kind x (Permits x.free (size_of (Some kind) - x.free) x.line) x
pool-tells x kind room waiting held funded =
    let v = pass_view x.pass in
    let o = plain_after v in
    let seen = seen-object x (Some kind) funded.rests.size_is in
    let all = all-there x (Some kind) funded.rests.size_is funded.mine in
    let rest : size_of (Some kind) - x.free ≡ length o.held = omega (arith, all, funded.free) in (
      ap (λ n. Permits n (size_of (Some kind) - x.free) x.line) funded.free
          ∙ ap (λ n. Permits (length o.way) n x.line) rest
          ∙ ap (λ n. Permits (length o.way) (length o.held) n) funded.line
          ∙ ap (λ (p : plain.Pool). Permits (length p.way) (length p.held) (length p.line)) (sym seen),
      record { same = refl; funded = funded; keeps = λ round wait has. has },
    )

held-replicate : (jobs j : ℕ) → held_by (replicate jobs []) j ≡ []
held-replicate zero j = refl
held-replicate (suc jobs) zero = refl
held-replicate (suc jobs) (suc j) = held-replicate jobs j

-- as it is made
pub pool_opened : (x : PoolSole) (elements room : ℕ) → room ≤ 524288 → elements ≤ 4096
    → limit_of x.pool.queue ≡ room + 1 → IsMine x.pool x.pass → pool_size x.pool ≡ elements
    → (pass_view x.pass).number ≡ 0 → (pass_view x.pass).seen ≡ [] → (pass_view x.pass).alone ≡ true
    → Rests (pass_view x.pass) [] [] (pass_view x.pass) → x.held.items ≡ [] → room ≤ vec_capacity x.held
    → x.free ≡ elements → x.line ≡ 0
    → IsOpened store_pool (kind.Pool elements) room x
pool_opened x elements room few some is mine size first nothing alone rests none space free line =
    let v = pass_view x.pass in
    let size_is : v.opening.size ≡ elements = ap (λ (o : Opening). o.size) mine.opening ∙ size in
    let limit : v.limit ≡ room + 1 = mine.limit ∙ is in
    let plain_is : plain_after v ≡ plain.opening elements
    = ap (object_after v.opening.size) nothing ∙ ap plain.opening size_is in
    record {
      fresh = ap (λ es. of_elements (news es)) nothing;
      funded = λ jobs. record {
        sort = tt;
        mine = mine;
        rests = record {
          size_is = size_is;
          most = some;
          few = omega (arith, limit, few);
          number = first;
          only = (
            alone,
            λ n other. ap (λ es. Rattle.cqs_rule_laws.specs.Lists.part
                Rattle.cqs_pool_object.specs.PoolNames.entry_names n es) nothing,
          );
          ready = rests.ready;
          still = inr (ap (λ (p : plain.Pool). p.line) plain_is);
          below = omega (arith, limit, ap drawn_in nothing);
          drawn = λ k has. absurd (subst (Has k) rests.waits_are has);
        };
        here = λ j. ap (elements_held j) none ∙ sym (held-replicate jobs j);
        hands = λ n. (
          omega (arith, ap (λ hs. times n (all_held hs)) none),
          omega (arith, ap (times n) rests.elements_are),
        );
        spare = omega (arith, space, ap (λ (hs : List HeldElement). length hs) none);
        free = omega (
          arith,
          free,
          long-numbers elements 0,
          ap (λ (p : plain.Pool). length p.way) plain_is,
        );
        line = omega (arith, line, ap (λ (p : plain.Pool). length p.line) plain_is);
        few_wait = omega (arith, line, few);
      };
    }
