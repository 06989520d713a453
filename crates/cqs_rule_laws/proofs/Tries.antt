-- A pass that is made by an exchange which may have to be tried again, and what the cut leaves of the two.
use Rattle.std.proofs.Common.{◌≡◌, ◌≢◌, ℕ, ◌<◌, ◌^◌, Bool, true, false, true≢false, List, [], ◌∷◌, ◌++◌, ◌≤◌, sym, refl, ap, ◌∙◌, subst, arith, length, inl, ⊎_elim, nat_lt, lt-ltb, if◌then◌else◌}
use Rattle.std.proofs.lemmas.Bool.{cases_lt}
use Rattle.cqs_core.specs.declared.doings.Doing.TheVariants as doing
use Rattle.cqs_slots.specs.Told.{SeesMore}
use Rattle.cqs_rule_laws.specs.declared.view.View.{View}
use Rattle.cqs_rule_laws.specs.declared.view.Opening.{Opening}
use Rattle.cqs_rule_laws.specs.declared.view.Facts.{Facts}
use Rattle.cqs_rule_laws.specs.Crew.{IsBetween, IsSole, IsDoubled, MadeNone, MadeOne, Counted, Tried, CameWith}
use Rattle.cqs_rule_laws.specs.Hidden.{Hidden}
use Rattle.cqs_rule_laws.specs.Inside.{IsInside}
use Rattle.cqs_rule_laws.specs.Configured.{longest_line}
use Rattle.cqs_rule_laws.specs.Lists.{Has, part}
use Rattle.cqs_rule_laws.specs.Ruled.{Stands, Rests}
use Rattle.cqs_rule_laws.specs.Facts.{is_owing, owes_any}
use Rattle.cqs_rule_laws.specs.Object.{Object, Primitive}
use Rattle.cqs_rule_laws.specs.Saw.{Saw, IsLive}
use Rattle.cqs_rule_laws.specs.Views.{made_in, first_has, first_facts, facts_lessened, single, cut_off, joined, as_before}
use Rattle.cqs_rule_laws.proofs.Calls.{saw-then}

-- that a pass is alone is told by what the client shows
pub sole-tells : {C E S : Type 0} (all : C → Primitive E S) (x : C)
    (c : Hidden) (words : List ℕ) (w : View E S) → (all x).shows c words w.seen w.handed → (all x).opening ≡ w.opening
    → Stands c w.number w.facts → ((n : ℕ) → n ≢ w.number → n < w.passes → Rests c n) → IsSole all w
sole-tells all x c words w shown same stands others = record {
  client = x;
  opening_is = same;
  hidden = c;
  words = words;
  shown = shown;
  stands = stands;
  others = others;
}

-- the crew's word is full
pub le-by : (crew saw made passes key : ℕ) → crew ≡ saw → made ≡ made_in saw → passes ≤ made → key ≡ passes
    → key ≤ made_in crew
le-by crew saw made passes key same is full are = omega arith

module _ {E S : Type 0} where
  inside-cut : (w : View E S) (gives : ℕ) → IsInside w → w.second ≡ first_facts gives → IsInside (cut_off w)
  inside-cut w gives i is =
      let some : 0 < w.cells = let low = i.number in omega arith in record {
        number = subst (λ f. Rattle.cqs_rule_laws.specs.Ruled.number_at f.doing < w.cells) (sym is) some;
        waits = λ k h. absurd (subst (λ f. Has k f.waits) is h);
        once = λ k h. absurd (subst (λ f. Has k f.waits) is h);
        few = subst (λ (f : Facts). length f.waits < longest_line) (sym is) (omega arith);
        payload = subst (λ (f : Facts). f.has.payload < 2 ^ 20) (sym is) (omega arith);
        made = i.made;
      }

module _ {E S : Type 0} (object : Object E) where
  -- what holds of a view that counts for two holds of its first pass, and of the second
  live-single : (u : View E S) → IsLive object u → IsLive object (single u)
  live-single u l = record {
    legal = l.legal;
    unnamed = l.unnamed;
    own = l.own;
    held = l.held;
    few = l.few;
    known = l.known;
    inside = record {
      number = l.inside.number;
      waits = l.inside.waits;
      once = l.inside.once;
      few = l.inside.few;
      payload = l.inside.payload;
      made = l.inside.made;
    };
  }

  live-cut : (u : View E S) (gives n : ℕ) → gives < 2 ^ 32 → gives ≤ object.most u.opening
      → object.knows u.opening (first_has gives) → IsLive object u → IsDoubled gives n u
      → IsLive object (cut_off u)
  live-cut u gives n few most known l d = record {
    legal = subst (object.legal u.opening) (sym d.seen) l.legal;
    unnamed = λ m above. ap (part object.names m) d.seen ∙ l.unnamed m above;
    own = subst (Has u.second_number) (sym d.own) (inl d.number);
    held = subst (λ (f : Facts). f.has.held < 2 ^ 32) (sym d.facts) (omega arith);
    few = subst (λ (f : Facts). f.has.held ≤ object.most u.opening) (sym d.facts) (omega arith);
    known = subst (λ (f : Facts). object.knows u.opening f.has) (sym d.facts) known;
    inside = inside-cut u gives l.inside d.facts;
  }

  -- the crew's word was looked at, until it was found so
  pub record Tries (v w : View E S) (found : ℕ) : Type 0 where
    pub saw : Saw object v v.facts [] (as_before v w)
    pub crew : w.crew ≡ found
    pub made_none : MadeNone v w
    pub kept : v.alone ≡ true → w.alone ≡ true

  pub tries-first : (v w : View E S) (n : ℕ) → Counted object v n w → Tries v w n
  tries-first v w n c = record { saw = c.saw; crew = c.crew; made_none = c.made_none; kept = c.kept }

  -- one look after another, the last of which leaves the pass at other facts
  pub looks-then : (v w u : View E S) (first : ℕ) (now : Facts → Facts) → Tries v w first
      → Saw object w (now w.facts) [] (as_before w u)
      → Saw object v (now v.facts) [] (as_before v u)
  looks-then v w u first now t s =
      saw-then object v (as_before v w) (as_before v u) v.facts (now v.facts) [] t.saw (record {
        between = s.between;
        seen = s.seen;
        silent = s.silent;
        facts_are = s.facts_are ∙ ap now t.saw.facts_are;
        same = record {
          number = s.same.number;
          weight = refl;
          own = s.same.own;
          crew = refl;
          alone = refl;
          made = refl;
          drawn = refl;
          limit = s.same.limit;
          cells = s.same.cells;
          slots = s.same.slots;
          passes = s.same.passes;
          opening = s.same.opening;
          segments = s.same.segments;
        };
        handed = s.handed;
        unlaid = s.unlaid;
        sole = λ a. s.sole (t.kept a);
      })

  pub tries-again : (v w u : View E S) (gives first n : ℕ) → n ≢ first → Tries v w first
      → Tried object gives first w n u → Tries v u n
  tries-again v w u gives first n other t e = record {
    saw = looks-then v w u first (λ f. f) t (e.missed other).saw;
    crew = e.crew;
    made_none = (e.missed other).made_none ∙ t.made_none;
    kept = λ a. (e.missed other).alone ∙ t.kept a;
  }

  -- what the cut leaves of the pass that made another: it is at what it was at the exchange, but for what it gave
  pub record Leaves (gives : ℕ) (v w x : View E S) : Type 0 where
    pub saw : Saw object v (facts_lessened gives v.facts) [] (as_before v x)
    pub weight : x.weight ≡ 1
    pub made_one : MadeOne (made_in x.crew) v x
    pub number : x.number ≡ w.number
    pub facts : x.facts ≡ facts_lessened gives w.facts
    pub cells : x.cells ≡ w.cells
    pub slots : x.slots ≡ w.slots
    pub segments : SeesMore w.segments x.segments
    pub limit : x.limit ≡ w.limit
    pub passes : x.passes ≡ w.passes
    pub opening : x.opening ≡ w.opening
    pub alive : IsLive object x
    pub lonely : x.alone ≡ false

  pub cut-leaves : {X : Type 0} (v w u : View E S) (x : View E S × X) (more : X) (gives first n : ℕ) → n ≡ first
      → Tries v w first → Tried object gives first w n u → IsLive object u → x ≡ (single u, more)
      → Leaves gives v w x.0
  cut-leaves {X} v w u x more gives first n hit t e alive is =
      let s = e.saw hit in subst (λ (z : View E S × X). Leaves gives v w z.0) (sym is) record {
        saw = looks-then v w u first (facts_lessened gives) t s;
        weight = refl;
        made_one = e.made_one hit ∙ (ap (λ l. l ++ made_in n ∷ []) t.made_none
            ∙ ap (λ m. v.made ++ made_in m ∷ []) (sym e.crew));
        number = s.same.number;
        facts = s.facts_are;
        cells = s.same.cells;
        slots = s.same.slots;
        segments = s.same.segments;
        limit = s.same.limit;
        passes = s.same.passes;
        opening = s.same.opening;
        alive = live-single u alive;
        lonely = refl;
      }

  -- the new pass
  pub record Begins (gives : ℕ) (w x y : View E S) : Type 0 where
    pub came : CameWith object gives x y
    pub weight : y.weight ≡ 1
    pub cells : y.cells ≡ w.cells
    pub slots : y.slots ≡ w.slots
    pub limit : y.limit ≡ w.limit
    pub passes : y.passes ≡ w.passes
    pub opening : y.opening ≡ w.opening
    pub alive : IsLive object y
    pub lonely : y.alone ≡ false

  pub cut-begins : {X : Type 0} (w u : View E S) (x y : View E S × X) (more bare : X) (gives first n : ℕ) → n ≡ first
      → gives < 2 ^ 32 → gives ≤ object.most w.opening
      → Tried object gives first w n u → IsLive object u → x ≡ (single u, more) → y ≡ (cut_off u, bare)
      → Begins gives w x.0 y.0
  cut-begins {X} w u x y more bare gives first n hit few most e alive is is' =
      let s = e.saw hit in
      let d = e.made hit in
      subst (λ (z : (View E S × X) × (View E S × X)). Begins gives w z.0.0 z.1.0) (λ j. (sym is j, sym is' j)) record {
        came = record {
          number = d.number ∙ ap made_in (sym e.crew);
          own = d.own ∙ ap (λ z. z ∷ []) (sym d.number);
          facts = ap (λ (f : Facts). record f { spare_slots = []; duties = []; to_retire = [] }) d.facts;
          seen = d.seen;
          handed = d.handed;
          bare = refl;
          childless = refl;
          unnamed = subst (λ (z : ℕ × List E). part object.names z.0 z.1 ≡ []) (λ j. (sym d.number j, sym d.seen j))
              (e.unnamed hit);
          passes = refl;
          opening = refl;
        };
        weight = refl;
        cells = s.same.cells;
        slots = s.same.slots;
        limit = s.same.limit;
        passes = s.same.passes;
        opening = s.same.opening;
        alive = live-cut u gives n few
            (subst (λ (o : Opening). gives ≤ object.most o) (sym s.same.opening) most) (e.known hit) alive d;
        lonely = refl;
      }

-- what owes nothing is in the middle of nothing that it owes, and owes nothing further
no-debt : (owing : Bool) (further : ℕ) → (if owing then true else nat_lt 0 further) ≡ false
    → (owing ≡ false) × (further ≡ 0)
no-debt true further e = absurd (true≢false e)
no-debt false further e = (
  refl,
  ⊎_elim (λ (some : 0 < further). absurd (true≢false (sym (lt-ltb 0 further some) ∙ e)))
      (λ (none : further ≤ 0). omega arith) (cases_lt 0 further),
)

-- a pass between two calls that owes nothing is idle
pub between-idle : (f : Facts) (owes : Bool) → owes ≡ owes_any f → owes ≡ false → IsBetween f
    → (f.doing ≡ doing.Idle) × (f.has.further ≡ 0)
between-idle f owes is none between =
    let free = no-debt (is_owing f.doing) f.has.further (sym is ∙ none) in
    (⊎_elim (λ i. i) (λ o. absurd (true≢false (sym o ∙ free.0))) between, free.1)

pub none-slots : {A : Type 0} (l : List A) → length l ≡ 0 → l ≡ []
none-slots [] e = refl
none-slots (x ∷ xs) e = absurd (omega arith)

pub none-of : (l : List ℕ) (n : ℕ) → length l ≡ n → n ≤ 0 → l ≡ []
none-of [] n e h = refl
none-of (x ∷ xs) n e h = absurd (omega arith)

-- the second pass of a view that took in that of an idle pass with no wait
pub record Idles {E S : Type 0} (w : View E S) : Type 0 where
  pub weight : w.weight ≡ 2
  pub idle : w.second.doing ≡ doing.Idle
  pub empty : w.second.has.held ≡ 0
  pub owes_none : w.second.has.further ≡ 0
  pub slotless : w.second.has.slots ≡ []
  pub waitless : w.second.waits ≡ []

pub joined-idles : {E S X : Type 0} (v u : View E S) (x : View E S × X) (more : X) → u.facts.doing ≡ doing.Idle
    → u.facts.has.further ≡ 0 → u.facts.waits ≡ [] → x ≡ (joined v u, more) → Idles x.0
joined-idles {E} {S} {X} v u x more idle owes_none waitless is =
    subst (λ (z : View E S × X). Idles z.0) (sym is) record {
      weight = refl;
      idle = idle;
      empty = refl;
      owes_none = owes_none;
      slotless = refl;
      waitless = waitless;
    }
