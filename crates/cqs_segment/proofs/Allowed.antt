-- Each single step keeps the rule, whatever numbers it is made with.
use Rattle.std.proofs.Common.{◌≡◌, ℕ, ◌+◌, ◌-◌, ◌*◌, ◌%◌, ◌^◌, ◌<◌, max, length, eqb, subst, sym, arith, Option}
use mathlib.Core.Option.{none}
use Rattle.std.specs.Prelude.{slice_index}
use Rattle.atomic_table.specs.Table.{State, Me, Allows, carried_after, step}
use prog.Atomic.{either}
use Rattle.cqs_words.specs.Head.{head_word}
use Rattle.cqs_words.specs.Segment.{segment_word}
use Rattle.cqs_slots.specs.Layout.{count_place, empty_word, head_place, link_place, slot_cell, tail_place}
use Rattle.cqs_slots.specs.Slots.{IsHome}
use Rattle.cqs_rule_laws.specs.declared.view.View.{View}
use Rattle.cqs_rule_laws.specs.Lists.{Has}
use Rattle.cqs_rule_laws.specs.Client.{IsClient}
use Rattle.cqs_rule_laws.specs.Object.{Object, Primitive}
use Rattle.cqs_rule_laws.specs.Ruled.{Ruled}
use Rattle.cqs_rule_laws.specs.SegmentSteps.{Began, CellCounted, Claimed, CountLoaded, Extended, HeadLoaded, HeadSeen, LinkLoaded, LinkRaised, Lit, Reset, Retired}
use Rattle.cqs_rule_laws.proofs.Linking.{loads-link, raises-link, sees-head}
use Rattle.cqs_rule_laws.proofs.Retiring.{loads-count, retires}
use Rattle.cqs_rule_laws.proofs.SegmentSteps.{begins, claims, counts, extends, gives-back, lights, loads-head, resets, resets-count}
use Rattle.cqs_segment.specs.Told.{add_told, back_told, begin_told, claim_told, count_told, extend_told, head_told, light_told, link_told, raise_told, reset_told, retire_told, see_told}
use Rattle.cqs_segment.specs.Walks.{but_last, EndsAt, EndsReset}
use Rattle.cqs_segment.proofs.Endings.{one-duty, one-spare}

module _ {E S : Type 0} (object : Object E) (primitive : Primitive E S) (passes limit : ℕ) where
  abbrev R : State (Option S) (View E S) → Type 0
  R = Ruled object primitive passes limit

  module _ (many id : ℕ) (me : Me (Option S) (View E S)) where
    -- what is told may be told otherwise
    retold : (i : ℕ) (f : ℕ → ℕ) (told other : ℕ → Me (Option S) (View E S) → Type 0)
        → ((n : ℕ) (me' : Me (Option S) (View E S)) → told n me' → other n me')
        → Allows R many id me i f told → Allows R many id me i f other
    retold i f told other tells allowed s r homes here small =
        let t = allowed s r homes here small in
        (t.0, t.1, t.2, t.3, tells (slice_index s.words i) (t.0, carried_after me.1 t.1) t.4)

    -- the step is the same on the same word
    at-word : (i j : ℕ) (f : ℕ → ℕ) (told : ℕ → Me (Option S) (View E S) → Type 0) → i ≡ j
        → Allows R many id me j f told → Allows R many id me i f told
    at-word i j f told e allowed = subst (λ k. Allows R many id me k f told) (sym e) allowed

    -- and by the same numbers
    by-words : (i a b c d : ℕ) (told : ℕ → Me (Option S) (View E S) → Type 0) → a ≡ c → b ≡ d
        → Allows R many id me i (λ n. either (eqb n c) d n) told → Allows R many id me i (λ n. either (eqb n a) b n)
        told
    by-words i a b c d told e f allowed =
        subst (λ z. Allows R many id me i (λ n. either (eqb n z) b n) told) (sym e)
        (subst (λ z. Allows R many id me i (λ n. either (eqb n c) z n) told) (sym f) allowed)

    pub head-allowed : IsClient object primitive → (word x : ℕ) → word ≡ head_place x → me.0.weight ≡ 1 → x < me.0.slots
        → Allows R many id me word (λ n. n) (head_told (step many word 0 0 none) me)
    head-allowed client word x at one low =
        let T = head_told (step many word 0 0 none) me in
        at-word word (head_place x) (λ n. n) T at
        (retold (head_place x) (λ n. n) (λ n me'. HeadLoaded x me.0 n me'.0 × (me'.1 ≡ me.1)) T
        (λ n me' t. (
          λ y (there : word ≡ head_place y).
              let e : x ≡ y = omega arith in subst (λ z. HeadLoaded z me.0 n me'.0) e t.0,
          t.1,
        ))
        (loads-head object primitive passes limit client many id me x one low))

    pub see-allowed : (word x : ℕ) → word ≡ head_place x → me.0.weight ≡ 1 → x < me.0.slots
        → Allows R many id me word (λ n. n) (see_told (step many word 0 0 none) me)
    see-allowed word x at one low =
        let T = see_told (step many word 0 0 none) me in
        at-word word (head_place x) (λ n. n) T at
        (retold (head_place x) (λ n. n) (λ n me'. HeadSeen x me.0 n me'.0 × (me'.1 ≡ me.1)) T
        (λ n me' t. (
          λ y (there : word ≡ head_place y).
              let e : x ≡ y = omega arith in subst (λ z. HeadSeen z me.0 n me'.0) e t.0,
          t.1,
        ))
        (sees-head object primitive passes limit many id me x one low))

    pub link-allowed : IsClient object primitive → (word x : ℕ) → word ≡ link_place x → me.0.weight ≡ 1 → x < me.0.slots
        → Allows R many id me word (λ n. n) (link_told (step many word 0 0 none) me)
    link-allowed client word x at one low =
        let T = link_told (step many word 0 0 none) me in
        at-word word (link_place x) (λ n. n) T at
        (retold (link_place x) (λ n. n) (λ n me'. LinkLoaded x me.0 n me'.0 × (me'.1 ≡ me.1)) T
        (λ n me' t. (
          λ y (there : word ≡ link_place y).
              let e : x ≡ y = omega arith in subst (λ z. LinkLoaded z me.0 n me'.0) e t.0,
          t.1,
        ))
        (loads-link object primitive passes limit client many id me x one low))

    pub raise-allowed : (word least q x m y : ℕ) → word ≡ link_place x → least ≡ segment_word m y → me.0.weight ≡ 1
        → IsHome me.0.segments.homes q x → IsHome me.0.segments.homes m y
        → ((p : ℕ) → q < p → p < m → Has p me.0.segments.outs)
        → Allows R many id me word (λ n. max n least) (raise_told (step many word least 0 none) me)
    raise-allowed word least q x m y at is one home to passed =
        let T = raise_told (step many word least 0 none) me in
        at-word word (link_place x) (λ n. max n least) T at
        (subst (λ z. Allows R many id me (link_place x) (λ n. max n z) T) (sym is)
        (retold (link_place x) (λ n. max n (segment_word m y))
        (λ n me'. LinkRaised x (segment_word m y) me.0 me'.0 × (me'.1 ≡ me.1)) T
        (λ n me' t. (
          λ z (there : word ≡ link_place z).
              let e : x ≡ z = omega arith in
              subst (λ (p : ℕ × ℕ). LinkRaised p.0 p.1 me.0 me'.0) (λ i. (e i, sym is i)) t.0,
          t.1,
        ))
        (raises-link object primitive passes limit many id me q x m y one home to passed)))

    pub count-allowed : (word x : ℕ) → word ≡ count_place x → me.0.weight ≡ 1 → x < me.0.slots
        → Allows R many id me word (λ n. n) (count_told (step many word 0 0 none) me)
    count-allowed word x at one low =
        let T = count_told (step many word 0 0 none) me in
        at-word word (count_place x) (λ n. n) T at
        (retold (count_place x) (λ n. n) (λ n me'. CountLoaded x me.0 n me'.0 × (me'.1 ≡ me.1)) T
        (λ n me' t. (
          λ y (there : word ≡ count_place y).
              let e : x ≡ y = omega arith in subst (λ z. CountLoaded z me.0 n me'.0) e t.0,
          t.1,
        ))
        (loads-count object primitive passes limit many id me x one low))

    pub claim-allowed : (word saw new x i : ℕ) → word ≡ head_place x → saw ≡ head_word i 0 → new ≡ head_word i 1
        → me.0.weight ≡ 1 → x < me.0.slots
        → Allows R many id me word (λ n. either (eqb n saw) new n) (claim_told (step many word saw new none) me)
    claim-allowed word saw new x i at saw-is new-is one low =
        let T = claim_told (step many word saw new none) me in
        let f : ℕ → ℕ = λ n. either (eqb n (head_word i 0)) (head_word i 1) n in
        by-words word saw new (head_word i 0) (head_word i 1) T saw-is new-is
        (at-word word (head_place x) f T at
        (retold (head_place x) f (λ n me'. Claimed x (head_word i 0) me.0 n me'.0 × (me'.1 ≡ me.1)) T
        (λ n me' t. (
          λ y j (there : word ≡ head_place y) (which : saw ≡ head_word j 0).
              let e : x ≡ y = omega arith in let f : i ≡ j = omega arith in
              subst (λ z. Claimed z (head_word j 0) me.0 n me'.0) e
              (subst (λ k. Claimed x (head_word k 0) me.0 n me'.0) f t.0),
          t.1,
        ))
        (claims object primitive passes limit many id me x i one low)))

    pub back-allowed : (word by x a d : ℕ) → word ≡ head_place x → by ≡ 2 ^ 64 - 1 → me.0.weight ≡ 1
        → EndsReset me.0.facts.spare_slots x a d
        → Allows R many id me word (λ n. (n + by) % 2 ^ 64) (back_told (step many word by 0 none) me)
    back-allowed word by x a d at by-is one is =
        let T = back_told (step many word by 0 none) me in
        at-word word (head_place x) (λ n. (n + by) % 2 ^ 64) T at
        (subst (λ b. Allows R many id me (head_place x) (λ n. (n + b) % 2 ^ 64) T)
        (sym by-is) (gives-back object primitive passes limit many id me (but_last me.0.facts.spare_slots) x a d one
        is))

    pub begin-allowed : (word x a d : ℕ) → word ≡ tail_place → me.0.weight ≡ 1
        → EndsReset me.0.facts.spare_slots x a d
        → Allows R many id me word (λ n. n) (begin_told (step many word 0 0 none) me)
    begin-allowed word x a d at one is =
        let T = begin_told (step many word 0 0 none) me in
        let B = but_last me.0.facts.spare_slots in
        at-word word tail_place (λ n. n) T at
        (retold tail_place (λ n. n) (λ n me'. Began B x me.0 n me'.0 × (me'.1 ≡ me.1)) T
        (λ n me' t. (
          λ y b e q. subst (λ z. Began B z me.0 n me'.0)
              (one-spare me.0.facts.spare_slots x a d y b e is q).0 t.0,
          t.1,
        ))
        (begins object primitive passes limit many id me B x a d one is))

    -- a reset of the spare slot that is known to have come so far
    reset-told : (word z x a d n : ℕ) (me' : Me (Option S) (View E S)) → EndsReset me.0.facts.spare_slots x a d
        → Reset (but_last me.0.facts.spare_slots) x a d me.0 me'.0 × (me'.1 ≡ me.1)
        → reset_told (step many word z 0 none) me n me'
    reset-told word z x a d n me' is t =
        let B = but_last me.0.facts.spare_slots in (
          λ y b e q.
              let same = one-spare me.0.facts.spare_slots x a d y b e is q in
              subst (λ (p : ℕ × ℕ × ℕ). Reset B p.0 p.1 p.2 me.0 me'.0) (λ i. (same.0 i, same.1 i, same.2 i)) t.0,
          t.1,
        )

    pub cell-allowed : (word z x a j : ℕ) → word ≡ slot_cell x j → z ≡ empty_word (32 * (a + 1) + j) → j < 32
        → me.0.weight ≡ 1 → EndsReset me.0.facts.spare_slots x a (j + 1)
        → Allows R many id me word (λ _. z) (λ _. reset_told (step many word z 0 none) me z)
    cell-allowed word z x a j at z-is few one is =
        let B = but_last me.0.facts.spare_slots in
        let new = empty_word (32 * (a + 1) + j) in
        let T = λ (m : ℕ). reset_told (step many word z 0 none) me z in
        at-word word (slot_cell x j) (λ _. z) T at
        (subst (λ y. Allows R many id me (slot_cell x j) (λ _. y) T) (sym z-is)
        (retold (slot_cell x j) (λ _. new) (λ n me'. Reset B x a (j + 1) me.0 me'.0 × (me'.1 ≡ me.1)) T
        (λ n me' t. reset-told word z x a (j + 1) z me' is t)
        (resets object primitive passes limit many id me B x a j one is few)))

    pub number-allowed : (word z x a : ℕ) → word ≡ count_place x → z ≡ 0 → me.0.weight ≡ 1
        → EndsReset me.0.facts.spare_slots x a 33
        → Allows R many id me word (λ _. z) (λ _. reset_told (step many word z 0 none) me z)
    number-allowed word z x a at z-is one is =
        let B = but_last me.0.facts.spare_slots in
        let T = λ (m : ℕ). reset_told (step many word z 0 none) me z in
        at-word word (count_place x) (λ _. z) T at
        (subst (λ y. Allows R many id me (count_place x) (λ _. y) T) (sym z-is)
        (retold (count_place x) (λ _. 0) (λ n me'. Reset B x a 33 me.0 me'.0 × (me'.1 ≡ me.1)) T
        (λ n me' t. reset-told word z x a 33 z me' is t)
        (resets-count object primitive passes limit many id me B x a one is)))

    pub light-allowed : (word saw new x q i : ℕ) → word ≡ head_place x → saw ≡ head_word i 1 → new ≡ head_word q 2
        → me.0.weight ≡ 1 → IsHome me.0.segments.homes q x → IsHome me.0.segments.kept q i → i < q
        → Allows R many id me word (λ n. either (eqb n saw) new n) (light_told (step many word saw new none) me)
    light-allowed word saw new x q i at saw-is new-is one home keeps-id lower =
        let T = light_told (step many word saw new none) me in
        let f : ℕ → ℕ = λ n. either (eqb n (head_word i 1)) (head_word q 2) n in
        by-words word saw new (head_word i 1) (head_word q 2) T saw-is new-is
        (at-word word (head_place x) f T at
        (retold (head_place x) f (λ n me'. Lit q me.0 me'.0 × (me'.1 ≡ me.1)) T
        (λ n me' t. (
          λ p (which : new ≡ head_word p 2).
              let e : q ≡ p = omega arith in subst (λ z. Lit z me.0 me'.0) e t.0,
          t.1,
        ))
        (lights object primitive passes limit many id me x q i one home keeps-id lower)))

    pub extend-allowed : (word saw new x a slot : ℕ) → word ≡ tail_place → saw ≡ segment_word a slot
        → new ≡ segment_word (a + 1) x → me.0.weight ≡ 1 → EndsReset me.0.facts.spare_slots x a 34
        → IsHome me.0.segments.homes a slot → a < me.0.segments.lit → a + 1 < 2 ^ 36
        → Allows R many id me word (λ n. either (eqb n saw) new n) (extend_told (step many word saw new none) me)
    extend-allowed word saw new x a slot at saw-is new-is one is home lit-up short =
        let B = but_last me.0.facts.spare_slots in
        let T = extend_told (step many word saw new none) me in
        let f : ℕ → ℕ = λ n. either (eqb n (segment_word a slot)) (segment_word (a + 1) x) n in
        by-words word saw new (segment_word a slot) (segment_word (a + 1) x) T saw-is new-is
        (at-word word tail_place f T at
        (retold tail_place f (λ n me'. Extended B x a slot me.0 n me'.0 × (me'.1 ≡ me.1)) T
        (λ n me' t. (
          λ y b there q (which : saw ≡ segment_word b there).
              let same = one-spare me.0.facts.spare_slots x a 34 y b 34 is q in
              let e : slot ≡ there = let p = same.1 in omega arith in
              subst (λ (p : ℕ × ℕ × ℕ). Extended B p.0 p.1 p.2 me.0 n me'.0)
              (λ i. (same.0 i, same.1 i, e i)) t.0,
          t.1,
        ))
        (extends object primitive passes limit many id me B x a slot one is home lit-up short)))

    pub add-allowed : (word by x q : ℕ) → word ≡ count_place x → by ≡ 1 → me.0.weight ≡ 1
        → EndsAt me.0.facts.duties q → IsHome me.0.segments.homes q x
        → Allows R many id me word (λ n. (n + by) % 2 ^ 64) (add_told (step many word by 0 none) me)
    add-allowed word by x q at by-is one is home =
        let B = but_last me.0.facts.duties in
        let T = add_told (step many word by 0 none) me in
        at-word word (count_place x) (λ n. (n + by) % 2 ^ 64) T at
        (subst (λ b. Allows R many id me (count_place x) (λ n. (n + b) % 2 ^ 64) T) (sym by-is)
        (retold (count_place x) (λ n. (n + 1) % 2 ^ 64)
        (λ n me'. CellCounted B q me.0 n me'.0 × (me'.1 ≡ me.1)) T
        (λ n me' t. (
          λ p e. subst (λ z. CellCounted B z me.0 n me'.0)
              (one-duty me.0.facts.duties q p is e) t.0,
          t.1,
        ))
        (counts object primitive passes limit many id me B x q one is home)))

    pub retire-allowed : (word saw new x q : ℕ) → word ≡ head_place x → saw ≡ head_word q 2 → new ≡ head_word q 0
        → me.0.weight ≡ 1 → IsHome me.0.segments.homes q x → q + 1 < length me.0.segments.homes
        → Has q me.0.segments.full
        → Allows R many id me word (λ n. either (eqb n saw) new n) (retire_told (step many word saw new none) me)
    retire-allowed word saw new x q at saw-is new-is one home early full =
        let T = retire_told (step many word saw new none) me in
        let f : ℕ → ℕ = λ n. either (eqb n (head_word q 2)) (head_word q 0) n in
        by-words word saw new (head_word q 2) (head_word q 0) T saw-is new-is
        (at-word word (head_place x) f T at
        (retold (head_place x) f (λ n me'. Retired x q me.0 n me'.0 × (me'.1 ≡ me.1)) T
        (λ n me' t. (
          λ y p (there : word ≡ head_place y) (which : saw ≡ head_word p 2).
              let e : x ≡ y = omega arith in let f : q ≡ p = omega arith in
              subst (λ (z : ℕ × ℕ). Retired z.0 z.1 me.0 n me'.0) (λ i. (e i, f i)) t.0,
          t.1,
        ))
        (retires object primitive passes limit many id me x q one home early full)))
