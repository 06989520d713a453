-- The rule holds as a queue opens.
use Rattle.std.proofs.Common.{◌≡◌, ◌⊎◌, ℕ, zero, suc, ◌+◌, ◌-◌, ◌*◌, ◌/◌, ◌%◌, ◌<◌, ◌≤◌, true, false, List, [], ◌∷◌, ◌++◌, length, replicate, sym, refl, ap, ◌∙◌, subst, inl, inr, arith, Some, None, slice_get, nat_lt, nat_le, lt-ltb, le-ltb, le-leb, ne_eqb, leb-true, if◌then◌else◌, map}
use Rattle.std.specs.Prelude.{slice_index}
use Rattle.std.proofs.lemmas.List.{length-replicate, length_push, get_or_append_left, get_or_push}
use Rattle.std.proofs.lemmas.Bool.{cases_lt, and_parts, lt-leb}
use mathlib.Core.Option.{some, some-injective, some-ne-none}
use lib.ListN.{get_elem?}
use Rattle.atomic_table.specs.Table.{opening}
use Rattle.cqs_core.specs.declared.cells.CoreState.{CoreState}
use Rattle.cqs_core.specs.declared.cells.CoreState.TheVariants as state
use Rattle.cqs_core.specs.declared.doings.Doing.TheVariants as doing
use Rattle.cqs_core.proofs.Places.{get-past}
use Rattle.cqs_rule_laws.specs.declared.config.Config.{Config}
use Rattle.cqs_rule_laws.specs.Configured.{is_config, largest_limit}
use Rattle.cqs_rule_laws.specs.declared.view.View.{View}
use Rattle.cqs_rule_laws.specs.Client.{IsClient}
use Rattle.cqs_rule_laws.specs.Hidden.{Hidden, state_in, state_at}
use Rattle.cqs_rule_laws.specs.Object.{Object, Primitive}
use Rattle.cqs_rule_laws.specs.Manner.{IsSmart}
use Rattle.cqs_rule_laws.specs.Saw.{IsLive}
use Rattle.cqs_rule_laws.specs.Lists.{Has, IsDistinct, IsPrefix}
use Rattle.cqs_words.specs.Cell.{index_in}
use Rattle.cqs_words.specs.Segment.{segment_word}
use Rattle.cqs_slots.specs.Layout.{tail_place}
use Rattle.cqs_slots.specs.Opened.{first_segments, OpensWith}
use Rattle.cqs_slots.proofs.Counted.{none-in}
use Rattle.cqs_slots.proofs.Loads.{knows-all}
use Rattle.cqs_slots.proofs.Opens.{opens-shows, opens-sound, numbers-length}
use Rattle.cqs_words.specs.Head.{head_word}
use Rattle.cqs_rule_laws.specs.Layout.{client_words, words_for, IsIdle}
use Rattle.cqs_rule_laws.specs.Views.{first_view, all_own, first_facts, first_has}
use Rattle.cqs_core.specs.declared.cells.CoreCell.{CoreCell}
use Rattle.cqs_core.specs.QueueCells.{IsInstalled, IsBare}
use Rattle.cqs_rule_laws.specs.Ample.{AreEnough}
use Rattle.cqs_rule_laws.specs.Segments.{KnowsSegments}
use Rattle.cqs_rule_laws.specs.Spares.{slots_of, AreSpare}
use Rattle.cqs_rule_laws.specs.Ruled.{Ruled, Knows, IsWaitOf, word_of, word_at, Stands, cell_count, IsOverAt, IsOver}
use Rattle.cqs_rule_laws.specs.Opened.{value_cell, first_payload, first_hidden, four, first_in_slot, first_word, first_cell, IsOpening}
use Rattle.cqs_rule_laws.proofs.CellsStand.{word-number}
use Rattle.cqs_rule_laws.proofs.Lists.{all_draw}
use Rattle.cqs_rule_laws.proofs.Shelves.{shelf-opens}
use Rattle.cqs_rule_laws.specs.Given.{IsAware}
use Rattle.cqs_rule_laws.proofs.Given.{aware-whole}

module _ {A : Type 0} where
  pub get-replicate : (n i : ℕ) (a : A) → i < n → slice_get (replicate n a) i ≡ Some a
  get-replicate zero i a h = absurd (omega arith)
  get-replicate (suc n) zero a h = refl
  get-replicate (suc n) (suc i) a h = get-replicate n i a (omega arith)

  -- each element of such a list is a
  get-replicate-is : (n i : ℕ) (a x : A) → slice_get (replicate n a) i ≡ Some x → x ≡ a
  get-replicate-is zero i a x e = absurd (cc)
  get-replicate-is (suc n) zero a x e = cc
  get-replicate-is (suc n) (suc i) a x e = get-replicate-is n i a x e

  only-one : (a b : A) (j : ℕ) → get_elem? (a ∷ []) j ≡ some b → (j ≡ 0) × (a ≡ b)
  only-one a b zero e = (refl, some-injective a b e)
  only-one a b (suc j) e = absurd (some-ne-none b (sym e))

-- the cell k opens in this state, with this payload
abbrev OpensAs : ℕ → ℕ → CoreState → ℕ → Type 0
OpensAs values k s payload = (state_in (slice_get (replicate values value_cell) k) ≡ s)
    × (first_payload values k ≡ payload) × (first_cell values k ≡ word_of k s payload)

-- a cell that opens with a value, and one that opens empty
cell-value : (values k : ℕ) → k < values → OpensAs values k state.Value k
cell-value values k below =
    let is : nat_lt k values ≡ true = lt-ltb k values below in (
      ap state_in (get-replicate values k value_cell below),
      ap (λ b. if b then k else 0) is,
      ap (λ b. if b then word_of k state.Value k else word_of k state.Empty 0) is,
    )

cell-empty : (values k : ℕ) → values ≤ k → OpensAs values k state.Empty 0
cell-empty values k above =
    let is : nat_lt k values ≡ false = le-ltb k values above in
    let long : length (replicate values value_cell) ≤ k = omega (arith, length-replicate values value_cell) in (
      ap state_in (get-past (replicate values value_cell) k long),
      ap (λ b. if b then k else 0) is,
      ap (λ b. if b then word_of k state.Value k else word_of k state.Empty 0) is,
    )

-- the word o of the slot x
first-slot-at : (made values x o : ℕ) (words : List ℕ) → o < 48
    → first_word made values words (48 * x + (128 + o)) ≡ first_in_slot made values x o
first-slot-at made values x o words few =
    let is : nat_le 128 (48 * x + (128 + o)) ≡ true = le-leb 128 (48 * x + (128 + o)) (omega arith) in
    let slot : (48 * x + (128 + o) - 128) / 48 ≡ x = omega arith in
    let place : (48 * x + (128 + o) - 128) % 48 ≡ o = omega arith in
    rw is (λ i. first_in_slot made values (slot i) (place i))

-- its cell j
first-cell-at : (made values x j : ℕ) → first_in_slot made values x (16 + j) ≡ first_cell values (32 * x + j)
first-cell-at made values x j =
    let a = ne_eqb (16 + j) 0 (λ e. omega arith) in
    let b : nat_lt (16 + j) 16 ≡ false = le-ltb (16 + j) 16 (omega arith) in
    rw (a, b) (ap (first_cell values) (let q : 32 * x + (16 + j - 16) ≡ 32 * x + j = omega arith in q))

-- the words between open with nothing, and the tail's names the last slot
first-tail : (slots values : ℕ) (words : List ℕ)
    → first_word slots values words tail_place ≡ segment_word (slots - 1) (slots - 1)
first-tail slots values words = refl

first-idle : (slots values i : ℕ) (words : List ℕ) → IsIdle i → first_word slots values words i ≡ 0
first-idle slots values i words is =
    let before = is.before in
    let early : nat_le 128 i ≡ false = lt-leb 128 i (omega arith) in
    let tail = ne_eqb i 112 (λ e. omega arith) in
    let crew = ne_eqb i 0 is.crew in
    let resumes = ne_eqb i 32 is.resumes in
    let a = ne_eqb i 48 (is.client 0 (omega arith)) in
    let b = ne_eqb i 64 (is.client 1 (omega arith)) in
    let c = ne_eqb i 80 (is.client 2 (omega arith)) in
    let d = ne_eqb i 96 (is.client 3 (omega arith)) in
    rw (early, tail, crew, resumes, a, b, c, d) refl

module _ {E S : Type 0} (object : Object E) (primitive : Primitive E S) (passes limit slots made : ℕ) where
  abbrev pub values : ℕ
  values = primitive.values

  -- the number of the cells
  abbrev pub cells_of : ℕ
  cells_of = cell_count passes limit primitive.values

  abbrev pub first : View E S
  first = first_view passes limit cells_of slots made primitive.opening primitive.held

  abbrev pub h : Hidden
  h = first_hidden passes primitive.values primitive.held

  pub opens : IsClient object primitive → (words : List ℕ) (count : ℕ)
      → IsOpening (words_for slots) made primitive.values primitive.words words
      → 0 < made → made ≤ slots → slots ≤ 65536 → primitive.values ≤ 32 * made
      → (AreEnough cells_of passes slots → cells_of ≤ 32 * made)
      → 0 < passes → passes ≤ 32 → 0 < limit → limit ≤ largest_limit
      → limit ≤ primitive.most_limit → primitive.values ≤ 4096
      → Ruled object primitive passes limit (opening words (replicate count None) first)
  opens client words count o any_made fit most covers room any few any_limit low_limit suits few_values = record {
    hidden = h;
    log = [];
    handed = [];
    made = 1;
    live = 1;
    crew = record {
      word = o.at 0 (omega arith);
      some_made = omega arith;
      few = any;
      live_few = omega arith;
      live_is = refl;
    };
    counters = record { suspends = o.at 16 (omega arith); resumes = o.at 32 (omega arith) };
    slots = slots;
    segments = first_segments made;
    cells = record {
      shows = opens-shows slots made (word_at h) any_made fit most words slots-open numbered;
      sound = opens-sound slots made (word_at h) any_made fit most;
      made = record {
        numbered = numbered;
        unmade = λ k high. let t = cell-empty values k (omega arith) in λ i. word_of k (t.0 i) (t.1 i);
      };
      fits = λ k. payload-fits k (cases_lt k values);
      bare = λ k is. payload-bare k is (cases_lt k values);
    };
    settled = λ k. false;
    finals = λ k is. absurd (cc);
    all_settled = λ k o. over-none k (cases_lt k values) o;
    suits = suits;
    counted = record { counts = λ s. none-in s };
    to_leave = record { leave = λ s all low. absurd (omega arith) };
    spares = record {
      are = λ j v e. subst (λ (x : View E S). AreSpare slots (first_segments made)
          x.facts.spare_slots) (only-one first v j e).1 tt;
      once = λ j v e. subst (λ (x : View E S). IsDistinct (slots_of x.facts.spare_slots)) (only-one first v j e).1 tt;
      apart = λ a b v w y e f p q. (only-one first v a e).0 ∙ sym (only-one first w b f).0;
    };
    idle_words = record {
      none = λ i is. o.at i (let b = is.before in omega arith)
          ∙ first-idle made values i primitive.words is;
    };
    room = record {
      few_passes = few;
      low_limit = low_limit;
      few_values = few_values;
      doing = length-replicate passes doing.Idle;
      has = omega (arith, length-replicate (passes - 1) (first_has 0));
      may_draw = length-replicate passes true;
      ground = let all = all_draw (replicate passes true) in let long = length-replicate passes true in omega arith;
      resumes = omega arith;
    };
    door = λ p e. let is = get-replicate-is passes p doing.Idle doing.Door e in absurd (cc);
    shown = subst (λ (ws : List ℕ). primitive.shows h ws [] []) (sym client-is) (client.begins passes any few);
    each_view = λ j v e live.
        let t = only-one first v j e in
        subst (Knows object h [] [] 1 1 passes limit cells_of primitive.opening) t.1 know;
    apart = λ a b v w n e f g k. (only-one first v a e).0 ∙ sym (only-one first w b f).0;
    spent = λ j v e none. let w = only-one first v j e in
        let one : first.weight ≡ v.weight = ap (λ (x : View E S). x.weight) w.1 in absurd (omega arith);
    unnamed = λ n above. refl;
    unused = λ n above below. record {
      doing = get-replicate passes n doing.Idle below;
      has = none-held n above below;
      may_draw = get-replicate passes n true below;
      waits = λ k n. absurd n;
      all_waits = λ k w. no-wait n k w;
      once = tt;
      last = tt;
      behind = record { reached = omega arith; passed = λ k n. absurd n };
    };
    kept = λ n low. record { place = 0; view = first; there = refl; live = omega arith; has = inl (omega arith) };
    tip = record { place = 0; view = first; there = refl; live = omega arith; sees = inl refl };
    shelf = shelf-opens primitive.opens 1 count first refl refl;
    tied = λ k low. refl;
    aware = λ j v e live. subst (IsAware object.gives primitive.opens (length (map some (replicate count None))) [])
        (only-one first v j e).1
        (aware-whole object.gives primitive.opens (length (map some (replicate count None))) [] first refl refl);
    noted = λ j v e. subst (λ (u : View E S). IsPrefix u.seen []) (only-one first v j e).1 ([], refl);
    each_segment = λ j v e. subst (KnowsSegments slots (first_segments made)) (only-one first v j e).1
        (record {
          seen = knows-all (first_segments made);
          slots_are = λ on. refl;
          made = made-first;
        });
  }
    where
      none-held : (n : ℕ) → 1 ≤ n → n < passes → slice_get h.has n ≡ Some (first_has 0)
      none-held zero above below = absurd (omega arith)
      none-held (suc n) above below = get-replicate (passes - 1) n (first_has 0) (omega arith)

      -- no cell is over yet: each is empty, or has a value
      over-none : (k : ℕ) → (k < values) ⊎ (values ≤ k) → IsOver (IsSmart primitive.manner.leaving) h.queue k
          → false ≡ true
      over-none k (inl low) o =
          absurd (subst (IsOverAt (IsSmart primitive.manner.leaving) h.queue k) (cell-value values k low).0 o)
      over-none k (inr high) o =
          absurd (subst (IsOverAt (IsSmart primitive.manner.leaving) h.queue k) (cell-empty values k high).0 o)

      -- nobody waits yet: where a cell is made, a value stands there
      no-wait : (n k : ℕ) → IsWaitOf h.queue n k → ⊥
      no-wait n k w =
          subst IsInstalled (ap (λ (x : CoreCell). x.state)
          (get-replicate-is values k value_cell w.cell w.there)) w.installed

      cell-is : (k : ℕ) → (k < values) ⊎ (values ≤ k)
          → first_cell values k ≡ word_of k (state_in (slice_get h.queue.cells k)) (h.payloads k)
      cell-is k (inl low) = let t = cell-value values k low in t.2 ∙ sym (λ i. word_of k (t.0 i) (t.1 i))
      cell-is k (inr high) = let t = cell-empty values k high in t.2 ∙ sym (λ i. word_of k (t.0 i) (t.1 i))

      at : (x i : ℕ) → x < slots → i < 48
          → slice_index words (48 * x + (128 + i)) ≡ first_in_slot made values x i
      at x i low few = o.at (48 * x + (128 + i)) (omega arith)
          ∙ first-slot-at made values x i primitive.words few

      made-first : AreEnough cells_of passes slots → cells_of ≤ 32 * length (first_segments made).homes
      made-first ample = let all = room ample in let long = numbers-length 0 made in omega arith

      live-head : (x : ℕ) → x < made → first_in_slot made values x 0 ≡ head_word x 2
      live-head x low = ap (λ b. if b then head_word x 2 else 0) (lt-ltb x made low)

      free-head : (x : ℕ) → made ≤ x → first_in_slot made values x 0 ≡ 0
      free-head x high = ap (λ b. if b then head_word x 2 else 0) (le-ltb x made high)

      slots-open : OpensWith slots made (word_at h) words
      slots-open = record {
        wide = let long = o.long in omega arith;
        tail = o.at 112 (omega arith);
        live_head = λ x low. at x 0 (omega arith) (omega arith) ∙ live-head x low;
        free_head = λ x high low. at x 0 low (omega arith) ∙ free-head x high;
        link = λ x low. at x 1 low (omega arith);
        count = λ x low. at x 8 (omega arith) (omega arith);
        cells = λ x j low less.
            ap (slice_index words) (let q : 48 * x + (144 + j) ≡ 48 * x + (128 + (16 + j)) = omega arith in q)
            ∙ (at x (16 + j) (omega arith) (omega arith)
            ∙ (first-cell-at made values x j ∙ cell-is (32 * x + j) (cases_lt (32 * x + j) values)));
      }

      payload-fits : (k : ℕ) → (k < values) ⊎ (values ≤ k) → h.payloads k < 1048576
      payload-fits k (inl low) = let t = (cell-value values k low).1 in omega arith
      payload-fits k (inr high) = let t = (cell-empty values k high).1 in omega arith

      numbered : (k : ℕ) → index_in (word_at h k) ≡ k
      numbered k = word-number k (state_at h.queue k) (h.payloads k) (payload-fits k (cases_lt k values))

      payload-bare : (k : ℕ) → IsBare (state_in (slice_get h.queue.cells k)) → (k < values) ⊎ (values ≤ k)
          → h.payloads k ≡ 0
      payload-bare k is (inl low) = absurd (subst IsBare (cell-value values k low).0 is)
      payload-bare k is (inr high) = (cell-empty values k high).1

      client-is : client_words words ≡ four primitive.words
      client-is =
          let a = o.at 48 (omega arith) in
          let b = o.at 64 (omega arith) in
          let c = o.at 80 (omega arith) in
          let d = o.at 96 (omega arith) in
          (λ i. a i ∷ b i ∷ c i ∷ d i ∷ [])

      stand : Stands h 0 (first_facts primitive.held)
      stand = record {
        doing = get-replicate passes 0 doing.Idle any;
        has = refl;
        may_draw = get-replicate passes 0 true any;
        waits = λ k n. absurd n;
        all_waits = λ k w. no-wait 0 k w;
        once = tt;
        last = tt;
        behind = record { reached = omega arith; passed = λ k n. absurd n };
      }

      know : Knows object h [] [] 1 1 passes limit cells_of primitive.opening first
      know = record {
        sees = record {
          seen = ([], refl);
          other = ([], refl);
          handed_in = ([], refl);
          other_handed_in = ([], refl);
          mine = λ n has. refl;
          theirs = λ n has. refl;
        };
        below = λ n has. only-zero n has;
        light = λ _. refl;
        parted = λ n has other. other;
        own = inl refl;
        stands = stand;
        resting = λ n has other. absurd (other (is-zero n has));
        second = λ two. absurd (omega arith);
        crew = inl (omega arith);
        alone = λ _. (refl, refl, refl, refl, omega arith);
        limit_is = refl;
        cells_are = refl;
        passes_are = refl;
        opening_is = refl;
        payload_fits = omega arith;
      }
        where
          is-zero : (n : ℕ) → Has n (all_own first) → n ≡ 0
          is-zero n (inl e) = e
          is-zero n (inr e) = absurd e

          only-zero : (n : ℕ) → Has n (all_own first) → n < 1
          only-zero n has = let e = is-zero n has in omega arith

  -- what holds of each live pass's view holds of the first one
  pub first-live : IsClient object primitive → 0 < passes → passes ≤ 32
      → (AreEnough cells_of passes slots → cells_of ≤ 32 * made) → IsLive object first
  first-live client any few room = record {
    legal = client.legal_shown h (four primitive.words) [] [] shown;
    unnamed = λ n above. refl;
    own = inl refl;
    held = client.held_fits h (four primitive.words) [] [] 0 (first_has primitive.held) shown refl;
    few = client.slots.few h (four primitive.words) [] [] 0 (first_has primitive.held) shown refl;
    known = client.slots.known h (four primitive.words) [] [] 0 (first_has primitive.held) shown refl;
    inside = record {
      number = omega arith;
      waits = λ k has. absurd has;
      once = λ k has. absurd has;
      few = omega arith;
      payload = omega arith;
      made = λ ample. let long = numbers-length 0 made in let all = room ample in omega arith;
    };
  }
    where
      shown : primitive.shows h (four primitive.words) [] []
      shown = client.begins passes any few

-- one word more
pub opening-push : (place slots values : ℕ) (client items : List ℕ) (word : ℕ)
    → word ≡ first_word slots values client place
    → IsOpening place slots values client items → IsOpening (place + 1) slots values client (items ++ word ∷ [])
opening-push place slots values client items word is o = record {
  long = omega (arith, length_push items word, o.long);
  at = λ i below. at-push i (cases_lt i place) below;
}
  where
    at-push : (i : ℕ) → (i < place) ⊎ (place ≤ i) → i < place + 1
        → slice_index (items ++ word ∷ []) i ≡ first_word slots values client i
    at-push i (inl low) below = get_or_append_left items (word ∷ []) 0 i (let long = o.long in omega arith) ∙ o.at i low
    at-push i (inr high) below =
        let here : i ≡ place = omega arith in
        get_or_push items word 0 i (let long = o.long in omega arith)
        ∙ (is ∙ ap (first_word slots values client) (sym here))

pub opening-none : (slots values : ℕ) (client : List ℕ) → IsOpening 0 slots values client []
opening-none slots values client = record { long = refl; at = λ i below. absurd (omega arith) }

-- the numbers of a configuration that is in range
pub record InBounds (c : Config) : Type 0 where
  pub some_passes : 0 < c.passes
  pub few_passes : c.passes ≤ 32
  pub some_limit : 0 < c.limit
  pub low_limit : c.limit ≤ largest_limit

pub config-bounds : (c : Config) → is_config c ≡ true → InBounds c
config-bounds c good =
    let all = and_parts _ _ good in
    let front = and_parts _ _ all.0 in
    let passes = and_parts _ _ front.0 in
    let limit = and_parts _ _ front.1 in
    let a : 1 ≤ c.passes = leb-true _ _ passes.0 in
    let b : c.passes ≤ 32 = leb-true _ _ passes.1 in
    let d : 1 ≤ c.limit = leb-true _ _ limit.0 in
    let e : c.limit ≤ largest_limit = leb-true _ _ limit.1 in
    record { some_passes = omega arith; few_passes = b; some_limit = omega arith; low_limit = e }

-- slots stay enough, as they are counted otherwise
pub enough-then : (cells passes slots n : ℕ) → slots ≡ n → AreEnough cells passes slots → AreEnough cells passes n
enough-then cells passes slots n same enough = omega arith

-- the same by what the code computes of a configuration
pub opens-by : {E S : Type 0} (object : Object E) (primitive : Primitive E S) → IsClient object primitive
    → (config : Config) (passes slots made : ℕ) (words items : List ℕ) (count : ℕ)
    → is_config config ≡ true → passes ≡ config.passes → words ≡ items
    → IsOpening (words_for slots) made primitive.values primitive.words items
    → config.limit ≤ primitive.most_limit
    → primitive.values ≤ 4096 → 0 < made → made ≤ slots → slots ≤ 65536 → primitive.values ≤ 32 * made
    → (AreEnough (cell_count config.passes config.limit primitive.values) config.passes slots
    → cell_count config.passes config.limit primitive.values ≤ 32 * made)
    → Ruled object primitive passes config.limit
    (opening words (replicate count None)
    (first_view passes config.limit (cell_count passes config.limit primitive.values) slots made primitive.opening
    primitive.held))
opens-by object primitive client config passes slots made words items count good is_passes is_words o suits few any_made
    fit most covers room =
    let b = config-bounds config good in
    let any : 0 < passes = let h = b.some_passes in omega arith in
    let low : passes ≤ 32 = let h = b.few_passes in omega arith in
    let whole : IsOpening (words_for slots) made primitive.values primitive.words words =
    subst (λ (l : List ℕ). IsOpening (words_for slots) made primitive.values primitive.words l) (sym is_words) o in
    opens object primitive passes config.limit slots made client words count whole any_made fit most covers
    (λ ample. let all = room (subst (λ n. AreEnough (cell_count n config.limit primitive.values) n slots) is_passes
    ample) in omega arith)
    any low b.some_limit b.low_limit suits few

pub first-live-by : {E S : Type 0} (object : Object E) (primitive : Primitive E S) → IsClient object primitive
    → (config : Config) (slots made : ℕ) → is_config config ≡ true
    → (AreEnough (cell_count config.passes config.limit primitive.values) config.passes slots
    → cell_count config.passes config.limit primitive.values ≤ 32 * made)
    → IsLive {S = S} object (first_view config.passes config.limit
    (cell_count config.passes config.limit primitive.values) slots made
    primitive.opening primitive.held)
first-live-by object primitive client config slots made good room =
    let b = config-bounds config good in
    first-live object primitive config.passes config.limit slots made client b.some_passes b.few_passes room
