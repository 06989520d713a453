-- The steps of a pass that is to retire a segment. It isn't to retire one any more that is the last, isn't all counted,
-- or has left.
use Rattle.std.proofs.Common.{◌≡◌, ℕ, ◌+◌, ◌<◌, ◌≤◌, [], ◌∷◌, ◌++◌, length, length-append, sym, refl, ap, ◌∙◌, subst, ⊎_elim, inl, inr, arith, eqb, Option}
use Rattle.std.specs.Prelude.{slice_index}
use Rattle.std.proofs.lemmas.Bool.{cases_lt}
use prog.Atomic.{either}
use Rattle.atomic_table.specs.Table.{State, Me, keeps, Allows}
use Rattle.cqs_words.specs.Head.{head_word}
use Rattle.cqs_words.specs.Segment.{segment_word}
use Rattle.cqs_slots.specs.Layout.{tail_place, head_place, count_place}
use Rattle.cqs_slots.specs.Slots.{Segments, free, spare, live, IsHome}
use Rattle.cqs_slots.specs.Told.{Knows, all_seen, CountFound}
use Rattle.cqs_slots.specs.Steps.{with_slot}
use Rattle.cqs_slots.proofs.Counts.{most-counted}
use Rattle.cqs_slots.proofs.Lists.{home-prefix, has_prefix}
use Rattle.cqs_slots.proofs.Loads as loads
use Rattle.cqs_slots.proofs.Marks.{retired as left-slot}
use Rattle.cqs_slots.proofs.Turns.{is-live}
use Rattle.cqs_rule_laws.specs.declared.view.View.{View}
use Rattle.cqs_rule_laws.specs.Lists.{Has, without}
use Rattle.cqs_rule_laws.specs.Object.{Object, Primitive}
use Rattle.cqs_rule_laws.specs.Ruled.{word_at}
use Rattle.cqs_rule_laws.specs.SegmentSteps.{CountLoaded, LastKept, Retired}
use Rattle.cqs_rule_laws.specs.Settling.{duties_in}
use Rattle.cqs_rule_laws.proofs.Lists.{has_right}
use Rattle.cqs_rule_laws.proofs.SegmentSteps.{R, by-exchange, keep-turn, retire-look, retired}
use Rattle.cqs_rule_laws.proofs.ToRetire.{else-fewer, else-none, else-still, else-where, leaves-same, leaves-without}

module _ {E S : Type 0} (object : Object E) (primitive : Primitive E S) (passes limit : ℕ) where
  abbrev Rule : State (Option S) (View E S) → Type 0
  Rule = R object primitive passes limit

  -- the tail is loaded, and the pass isn't to retire the last segment any more
  pub keeps-last : (many id : ℕ) (me : Me (Option S) (View E S)) → me.0.weight ≡ 1
      → Allows Rule many id me tail_place (λ n. n) (λ n me'. LastKept me.0 n me'.0 × (me'.1 ≡ me.1))
  keeps-last many id me one s r homes here small =
      let v = me.0 in
      let t = r.segments in
      let n = slice_index s.words tail_place in
      let retires = without t.tail v.facts.to_retire in
      let look = retire-look object primitive passes limit s r id tail_place me [] retires here one (omega arith)
      (leaves-without t t v.facts.to_retire t.tail refl refl (λ low. absurd (omega arith))) in
      let w = retired v t v.facts.spare_slots [] retires in
      let same_slots = (r.each_segment id v here).slots_are (omega arith) in
      let found = loads.tail-found r.slots t (word_at r.hidden) s.words r.cells.shows r.cells.sound w.segments refl
      refl in (
        w,
        keeps,
        tt,
        look.0,
        (
          record {
            found = record {
              id = t.tail;
              slot = found.0.slot;
              word = subst (λ z. n ≡ segment_word z found.0.slot) found.1 found.0.word;
              home = subst (λ z. IsHome w.segments.homes z found.0.slot) found.1 found.0.home;
              last = subst (λ z. length w.segments.homes ≡ z + 1) found.1 found.0.last;
              stands = λ h. found.0.stands (subst (λ z. Has z w.segments.outs) (sym found.1) h);
              low = subst (λ z. found.0.slot < z) (sym same_slots) found.0.low;
              id_fits = let fits = found.0.id_fits in omega arith;
              slot_fits = found.0.slot_fits;
              inside = λ y z at. subst (λ m. z < m) (sym same_slots) (found.0.inside y z at);
            };
            went = look.1;
          },
          refl,
        ),
      )

  -- A number of settled cells is loaded. Where it is less than 32, no segment that stood there is to be retired.
  pub loads-count : (many id : ℕ) (me : Me (Option S) (View E S)) (x : ℕ) → me.0.weight ≡ 1
      → x < me.0.slots
      → Allows Rule many id me (count_place x) (λ n. n) (λ n me'. CountLoaded x me.0 n me'.0 × (me'.1 ≡ me.1))
  loads-count many id me x one below s r homes here small = ⊎_elim
      (λ (few : n < 32).
      let retires = else-where v.segments.homes x v.facts.to_retire in
      let look = retire-look object primitive passes limit s r id (count_place x) me [] retires here one (omega arith)
      (λ q all low. inr (
        all,
        low,
        λ h. ⊎_elim inr
            (λ home. inl (found.early q home few (r.cells.sound.full q all)))
            (else-still v.segments.homes x v.facts.to_retire q h),
      )) in (
        retired v t v.facts.spare_slots [] retires,
        keeps,
        tt,
        look.0,
        (
          record {
            found = found;
            to_retire = retires;
            fewer = else-fewer v.segments.homes x v.facts.to_retire;
            early = λ _ q home h. else-none v.segments.homes x v.facts.to_retire q home h;
            went = look.1;
          },
          refl,
        ),
      ))
      (λ (many : 32 ≤ n).
      let look = retire-look object primitive passes limit s r id (count_place x) me [] v.facts.to_retire here one
      (omega arith) (leaves-same t v.facts.to_retire) in (
        retired v t v.facts.spare_slots [] v.facts.to_retire,
        keeps,
        tt,
        look.0,
        (
          record {
            found = found;
            to_retire = v.facts.to_retire;
            fewer = λ q h. h;
            early = λ few. absurd (omega arith);
            went = look.1;
          },
          refl,
        ),
      ))
      (cases_lt n 32)
    where
      v : View E S
      v = me.0

      t : Segments
      t = r.segments

      n : ℕ
      n = slice_index s.words (count_place x)

      found : CountFound x n v.segments (all_seen t)
      found = loads.count-told r.slots t (word_at r.hidden) s.words r.cells.shows r.cells.sound v.segments x
          (subst (λ z. x < z) ((r.each_segment id me.0 here).slots_are (omega arith)) below)
          (r.each_segment id me.0 here).seen
          (λ q. most-counted t r.settled (duties_in (λ (y : View E S). y.facts.duties) s.views) q r.counted)

  -- a segment whose cells are all counted, and that isn't the tail's, leaves, or had left before
  pub retires : (many id : ℕ) (me : Me (Option S) (View E S)) (x q : ℕ) → me.0.weight ≡ 1
      → IsHome me.0.segments.homes q x → q + 1 < length me.0.segments.homes → Has q me.0.segments.full
      → Allows Rule many id me (head_place x) (λ n. either (eqb n (head_word q 2)) (head_word q 0) n)
      (λ n me'. Retired x q me.0 n me'.0 × (me'.1 ≡ me.1))
  retires many id me x q one home early full s r homes here small =
      by-exchange object primitive passes limit s id me (head_place x) n (head_word q 2) (head_word q 0)
      (λ w. Retired x q me.0 n w)
      (λ e.
      let was : t.slots x ≡ live q = is-live (t.slots x) q (sym e ∙ (r.cells.shows.each x below).head) in
      let u = with_slot t x (free q) (t.outs ++ q ∷ []) t.lit in
      let long : length t.homes ≡ length (me.0.segments.homes ++ known.homes.0) = ap length known.homes.1 in
      let more = length-append me.0.segments.homes known.homes.0 in
      let made = r.cells.sound.made in
      let new = keep-turn object primitive passes limit s r id (head_place x) (head_word q 0) x me u ((x, n) ∷ [])
      (without q me.0.facts.to_retire) here one (omega arith)
      (left-slot r.slots t (word_at r.hidden) s.words r.cells.shows r.cells.sound x q at (omega arith)
      (has_prefix q me.0.segments.full t.full known.full full) e) r.cells.made (λ _. refl)
      (leaves-without t u me.0.facts.to_retire q refl refl (λ low. has_right q t.outs (q ∷ []) (inl refl)))
      (λ j a d is. no-spare j a d (sym was ∙ is)) in (
        retired me.0 u me.0.facts.spare_slots ((x, n) ∷ []) (without q me.0.facts.to_retire),
        new.0,
        record {
          out = has_right q t.outs (q ∷ []) (inl refl);
          last = λ _. (t.outs, refl);
          went = new.1;
        },
      ))
      (λ a.
      let out = (loads.head-found r.slots t (word_at r.hidden) s.words r.cells.shows r.cells.sound me.0.segments x
      below known).gone q home early a in
      let look = retire-look object primitive passes limit s r id (head_place x) me ((x, n) ∷ [])
      (without q me.0.facts.to_retire) here one (omega arith)
      (leaves-without t t me.0.facts.to_retire q refl refl (λ low. out)) in (
        retired me.0 t me.0.facts.spare_slots ((x, n) ∷ []) (without q me.0.facts.to_retire),
        look.0,
        record {
          out = out;
          last = λ e. absurd (a e);
          went = look.1;
        },
      ))
    where
      t : Segments
      t = r.segments

      n : ℕ
      n = slice_index s.words (head_place x)

      known : Knows r.segments me.0.segments
      known = (r.each_segment id me.0 here).seen

      at : IsHome r.segments.homes q x
      at = home-prefix me.0.segments.homes r.segments.homes q x (r.each_segment id me.0 here).seen.homes home

      below : x < r.slots
      below = r.cells.sound.inside q x (home-prefix me.0.segments.homes r.segments.homes q x
          (r.each_segment id me.0 here).seen.homes home)

      no-spare : (j a d : ℕ) → live q ≡ spare j a d → ⊥
      no-spare j a d e = absurd (cc)
