-- The steps on the links of slots: a load of one, and the step by which it is raised; and the look at a head by a pass
-- that is to raise one.
use Rattle.std.proofs.Common.{◌≡◌, ℕ, ◌<◌, max, [], ◌∷◌, refl, sym, subst, inl, arith, Option}
use Rattle.std.specs.Prelude.{slice_index}
use Rattle.atomic_table.specs.Table.{State, Me, keeps, Allows}
use Rattle.cqs_words.specs.Segment.{segment_word}
use Rattle.cqs_slots.specs.Layout.{head_place, link_place}
use Rattle.cqs_slots.specs.Slots.{IsHome}
use Rattle.cqs_slots.specs.Steps.{with_link}
use Rattle.cqs_slots.specs.Told.{LinkFound}
use Rattle.cqs_slots.proofs.Linked.{link-found, raised}
use Rattle.cqs_slots.proofs.Loads.{head-found}
use Rattle.cqs_slots.proofs.Lists.{has_prefix, home-prefix, raised_right}
use Rattle.cqs_rule_laws.specs.declared.view.View.{View}
use Rattle.cqs_rule_laws.specs.Client.{IsClient}
use Rattle.cqs_rule_laws.specs.Lists.{Has}
use Rattle.cqs_rule_laws.specs.Object.{Object, Primitive}
use Rattle.cqs_rule_laws.specs.Ruled.{word_at}
use Rattle.cqs_rule_laws.specs.SegmentSteps.{HeadSeen, LinkLoaded, LinkRaised}
use Rattle.cqs_rule_laws.proofs.Outs.{own-stands}
use Rattle.cqs_rule_laws.proofs.SegmentSteps.{R, resegment, segment-look, went, went-so}
use Rattle.cqs_rule_laws.proofs.Spares.{spares-kept}
use Rattle.cqs_rule_laws.proofs.ToRetire.{leaves-turned}

module _ {E S : Type 0} (object : Object E) (primitive : Primitive E S) (passes limit : ℕ) where
  abbrev Rule : State (Option S) (View E S) → Type 0
  Rule = R object primitive passes limit

  -- a link is loaded
  pub loads-link : IsClient object primitive → (many id : ℕ) (me : Me (Option S) (View E S)) (x : ℕ) → me.0.weight ≡ 1
      → x < me.0.slots
      → Allows Rule many id me (link_place x) (λ n. n) (λ n me'. LinkLoaded x me.0 n me'.0 × (me'.1 ≡ me.1))
  loads-link client many id me x one below s r homes here small =
      let n = slice_index s.words (link_place x) in
      let t = segment-look object primitive passes limit s r id (link_place x) me [] here one (omega arith) in
      let w = went me.0 r.segments me.0.facts.spare_slots [] in
      let same_slots = (r.each_segment id me.0 here).slots_are (omega arith) in (
        w,
        keeps,
        tt,
        t.0,
        (
          record {
            found = subst (λ z. LinkFound z x n me.0.segments w.segments) (sym same_slots)
                (link-found r.slots r.segments (word_at r.hidden) s.words r.cells.shows r.cells.sound me.0.segments x
                (subst (λ z. x < z) same_slots below) (r.each_segment id me.0 here).seen);
            stands = λ k own out. own-stands object primitive passes limit client s r id me.0 k here (omega arith) own
                out;
            went = t.1;
          },
          refl,
        ),
      )

  -- a head is looked at
  pub sees-head : (many id : ℕ) (me : Me (Option S) (View E S)) (x : ℕ) → me.0.weight ≡ 1 → x < me.0.slots
      → Allows Rule many id me (head_place x) (λ n. n) (λ n me'. HeadSeen x me.0 n me'.0 × (me'.1 ≡ me.1))
  sees-head many id me x one below s r homes here small =
      let t = segment-look object primitive passes limit s r id (head_place x) me [] here one (omega arith) in (
        went me.0 r.segments me.0.facts.spare_slots [],
        keeps,
        tt,
        t.0,
        (
          record {
            found = head-found r.slots r.segments (word_at r.hidden) s.words r.cells.shows r.cells.sound me.0.segments x
                (subst (λ z. x < z) ((r.each_segment id me.0 here).slots_are (omega arith)) below)
                (r.each_segment id me.0 here).seen;
            went = t.1;
          },
          refl,
        ),
      )

  -- A link is raised, from a segment to a later one before which all are out. The slot may be anybody's by now.
  pub raises-link : (many id : ℕ) (me : Me (Option S) (View E S)) (q x m y : ℕ) → me.0.weight ≡ 1
      → IsHome me.0.segments.homes q x → IsHome me.0.segments.homes m y
      → ((p : ℕ) → q < p → p < m → Has p me.0.segments.outs)
      → Allows Rule many id me (link_place x) (λ n. max n (segment_word m y))
      (λ n me'. LinkRaised x (segment_word m y) me.0 me'.0 × (me'.1 ≡ me.1))
  raises-link many id me q x m y one home to passed s r homes here small =
      let v = me.0 in
      let t = r.segments in
      let known = (r.each_segment id v here).seen in
      let u = with_link t x (segment_word m y) in
      let b = raised r.slots t (word_at r.hidden) s.words r.cells.shows r.cells.sound q x m y
      (home-prefix v.segments.homes t.homes q x known.homes home)
      (home-prefix v.segments.homes t.homes m y known.homes to)
      (λ p above under. has_prefix p v.segments.outs t.outs known.outs (passed p above under)) in
      let w = went v u v.facts.spare_slots [] in (
        w,
        keeps,
        tt,
        resegment object primitive passes limit s r id (link_place x)
            (max (slice_index s.words (link_place x)) (segment_word m y)) me.1 v u v.facts.spare_slots [] v.facts.duties
            v.facts.to_retire here one (record {
              behind = omega arith;
              shows = b.shows;
              sound = b.sound;
              later = b.later;
              made = r.cells.made;
              counts = λ p. refl;
              leaves = leaves-turned t u v.facts.to_retire refl refl;
              hold = spares-kept r.slots t u s.views id v w here refl (λ p. refl) r.spares;
            }),
        (
          record {
            raised = raised_right x (segment_word m y) t.links ((x, segment_word m y) ∷ []) (inl (refl, refl));
            went = went-so object primitive passes limit s r id v u v.facts.spare_slots [] v.facts.duties
                v.facts.to_retire here b.later;
          },
          refl,
        ),
      )
