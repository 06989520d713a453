-- A pass after a call on segments.
use Rattle.std.proofs.Common.{◌≡◌, ℕ, ◌<◌, ◌≤◌, true, false, List, [], ◌∷◌, ◌++◌, length, Option, refl, ap, sym, ◌∙◌, subst, ⊎_elim, inl, inr, arith}
use Rattle.std.proofs.lemmas.List.{append-nil}
use Rattle.atomic_table.specs.Seated.{TableId}
use Rattle.cqs_rule_laws.specs.declared.client.ClientWords.{Ghosts}
use Rattle.cqs_rule_laws.specs.declared.view.Spare.{Spare}
use Rattle.cqs_rule_laws.specs.declared.view.View.{View}
use Rattle.cqs_rule_laws.specs.Alone.{TellsAlone}
use Rattle.cqs_rule_laws.specs.Ample.{AreEnough, IsAmple}
use Rattle.cqs_rule_laws.specs.Crew.{Met}
use Rattle.cqs_rule_laws.specs.Facts.{is_owing}
use Rattle.cqs_rule_laws.specs.Inside.{IsInside}
use Rattle.cqs_rule_laws.specs.Layout.{words_for}
use Rattle.cqs_rule_laws.specs.Lists.{Has}
use Rattle.cqs_rule_laws.specs.Object.{Object, Primitive}
use Rattle.cqs_rule_laws.specs.Saw.{IsLive}
use Rattle.cqs_rule_laws.specs.SegmentSteps.{claimed_slot, facts_left, LeftBy, reset_slot}
use Rattle.cqs_rule_laws.specs.Spares.{slots_of}
use Rattle.cqs_rule_laws.specs.Views.{facts_joined}
use Rattle.cqs_rule_laws.proofs.Lists.{has_append, has_left, has_right}
use Rattle.cqs_rule_laws.proofs.Spares.{slots-append}
use Rattle.cqs_words.specs.declared.segment.TailWord.{TailWord}
use Rattle.cqs_segment.specs.Extends.{IsKept}
use Rattle.cqs_segment.specs.Walks.{but_last, EndsWith, IsWalker, Left}
use Rattle.cqs_segment.proofs.Walks.{and-then, duties-left, longer, spares-left}
use Rattle.cqs_rule.specs.declared.queue.Pass.{Pass}
use Rattle.cqs_rule.specs.declared.queue.Queue.{Queue}
use Rattle.cqs_rule.specs.declared.queue.spares.Spares.{Spares}
use Rattle.cqs_rule.specs.Passes.{IsOf, pass_view}
use Rattle.cqs_rule.specs.Seats.{facts_met}
use Rattle.cqs_rule.specs.Spares.{HasSpare, spare_list}
use Rattle.cqs_rule.proofs.Homes.{goes-left, keeps-homes}
use Rattle.cqs_rule.proofs.Moved.{Keeps}

pub many-slots : (l : List Spare) → length (slots_of l) ≡ length l
many-slots [] = refl
many-slots (x ∷ l) = let e = many-slots l in omega arith

-- the last spare, by its slot
pub last-spare : (spares : List Spare) (before : List ℕ) (slot : ℕ) → slots_of spares ≡ before ++ slot ∷ []
    → EndsWith spares slot × (slots_of (but_last spares) ≡ before)
last-spare [] [] slot e = absurd (cc)
last-spare [] (b ∷ bs) slot e = absurd (cc)
last-spare (x ∷ []) [] slot e =
    let same : x.slot ≡ slot = cc in
    ((x.after, x.done, ap (λ s. reset_slot s x.after x.done ∷ []) same), refl)
last-spare (x ∷ []) (b ∷ []) slot e = absurd (cc)
last-spare (x ∷ []) (b ∷ c ∷ bs) slot e = absurd (cc)
last-spare (x ∷ y ∷ ys) [] slot e = absurd (cc)
last-spare (x ∷ y ∷ ys) (b ∷ bs) slot e =
    let first : x.slot ≡ b = cc in
    let rest : slots_of (y ∷ ys) ≡ bs ++ slot ∷ [] = cc in
    let l = last-spare (y ∷ ys) bs slot rest in
    ((l.0.0, l.0.1, ap (λ m. x ∷ m) l.0.2), (λ i. first i ∷ l.1 i))

-- a list of some loses one
shorter : {A : Type 0} (l : List A) → 0 < length l → length (but_last l) < length l
shorter [] some = absurd (omega arith)
shorter (x ∷ []) some = omega arith
shorter (x ∷ y ∷ ys) some = let less = shorter (y ∷ ys) (omega arith) in omega arith

pub none-spare : (l : List Spare) → length l ≤ 0 → l ≡ []
none-spare [] none = refl
none-spare (x ∷ l) none = absurd (omega arith)

module _ {E S : Type 0} (v w : View E S) (heads : List (ℕ × ℕ)) (spares : List Spare) (duties : List ℕ)
    (left : LeftBy heads spares duties v w) where
  pub inside-left : IsInside v → IsInside w
  inside-left i = subst IsInside (sym left.is) (record {
    number = i.number;
    waits = i.waits;
    once = i.once;
    few = i.few;
    payload = i.payload;
    made = λ ample. let more = longer v w left.segments in let enough = i.made ample in omega arith;
  })

  pub live-left : (object : Object E) → IsLive object v → IsLive object w
  live-left object l = subst (IsLive object) (sym left.is) (record {
    legal = l.legal;
    unnamed = l.unnamed;
    own = l.own;
    held = l.held;
    few = l.few;
    known = l.known;
    inside = subst IsInside left.is (inside-left l.inside);
  })

  pub alone-left : {C : Type 0} (primitive : C → Primitive E S) → TellsAlone primitive v → TellsAlone primitive w
  alone-left primitive tells = subst (TellsAlone primitive) (sym left.is) (λ one alone.
      let a = tells one alone in
      let at = a.stands in record {
        client = a.client;
        opening_is = a.opening_is;
        hidden = a.hidden;
        words = a.words;
        handed = a.handed;
        shown = a.shown;
        stands = record {
          doing = at.doing;
          has = at.has;
          may_draw = at.may_draw;
          waits = at.waits;
          all_waits = at.all_waits;
          once = at.once;
          last = at.last;
          behind = record { reached = at.behind.reached; passed = at.behind.passed };
        };
        others = a.others;
        places = a.places;
        drawn = a.drawn;
      })

module _ {C S E : Type 0} {g : Ghosts C S E} where
  -- the slots of its table
  pub all-slots : (q : Queue C S E) (p : Pass C S E g) → IsOf q p → q.segment_slots ≡ (pass_view p).slots
  all-slots q p b =
      let mine = p.slots_are ∙ ap (λ (t : TableId). t.words) b.table in
      let theirs = q.slots_are in omega arith

  -- its table is ample where the queue says so
  pub ample-view : (q : Queue C S E) (p : Pass C S E g) → IsOf q p → q.ample ≡ true → IsAmple (pass_view p)
  ample-view q p b is =
      let enough = b.ample.0 is in
      let slots = all-slots q p b in
      subst (λ (n : ℕ × ℕ × ℕ). AreEnough n.0 n.1 n.2) (λ i. (sym b.cells i, sym b.passes i, slots i)) enough

  pub scarce-view : (q : Queue C S E) (p : Pass C S E g) → IsOf q p → q.ample ≡ false → IsAmple (pass_view p) → ⊥
  scarce-view q p b not ample =
      let slots = all-slots q p b in
      let is : q.ample ≡ true = b.ample.1 (subst (λ (n : ℕ × ℕ × ℕ). AreEnough n.0 n.1 n.2)
      (λ i. (b.cells i, b.passes i, sym slots i)) ample) in
      absurd (cc)

  -- a pass of the queue may walk over its slots
  pub walks : (q : Queue C S E) (p : Pass C S E g) → IsOf q p → IsWalker q.table.shared.table_id.words (pass_view p)
  walks q p b = record {
    one = p.live.0;
    wide = sym (p.slots_are ∙ ap (λ (t : TableId). t.words) b.table);
    few = let same = all-slots q p b in let enough = q.few_slots in omega arith;
  }

  -- what the pass keeps
  pub keeps-left : (p : Pass C S E g) (w : View E S) (heads : List (ℕ × ℕ)) (spares : List Spare) (kept : Spares)
      → LeftBy heads spares (pass_view p).facts.duties (pass_view p) w → HasSpare spares (pass_view p).slots kept
      → (items : List (ℕ × Option S)) (t : TableId) → items ≡ p.seat.me.1 → t ≡ p.seat.table_id
      → Keeps w items t.words p.number p.held p.further p.owes p.waits p.ticket kept p.homes
  keeps-left p w heads spares kept left has items t none table =
      let is = left.is in record {
        live = (ap (λ (z : View E S). z.weight) is ∙ p.live.0, ap length none ∙ p.live.1);
        number_is = ap (λ (z : View E S). z.number) is ∙ p.number_is;
        held_is = ap (λ (z : View E S). z.facts.has.held) is ∙ p.held_is;
        further_is = ap (λ (z : View E S). z.facts.has.further) is ∙ p.further_is;
        spares_are = subst (λ (z : View E S). HasSpare z.facts.spare_slots z.slots kept) (sym is)
            (record { are = has.are; low = has.low });
        homes_are = keeps-homes (pass_view p) w
            (goes-left (pass_view p) w heads spares (pass_view p).facts.duties left) p.homes p.homes_are;
        counted = ap (λ (z : View E S). z.facts.duties) is ∙ p.counted;
        retired = ap (λ (z : View E S). z.facts.to_retire) is ∙ p.retired;
        shut = ap (λ (z : View E S). z.facts.open_slot) is ∙ p.shut;
        owes_is = ap (λ (z : View E S). is_owing z.facts.doing) is ∙ p.owes_is;
        waits_are = ap (λ (z : View E S). length z.facts.waits) is ∙ p.waits_are;
        ticket_is = λ k e. p.ticket_is k (sym (ap (λ (z : View E S). z.facts.doing) is) ∙ e);
        slots_are = ap (λ (z : View E S). words_for z.slots) is ∙
            (p.slots_are ∙ ap (λ (u : TableId). u.words) (sym table));
        inside = inside-left (pass_view p) w heads spares (pass_view p).facts.duties left p.inside;
        few_cells = subst (λ k. k < 137438953472) (sym (ap (λ (z : View E S). z.cells) is)) p.few_cells;
      }

  -- and that it is one of its queue
  pub belongs-left : (q : Queue C S E) (p next : Pass C S E g) (heads : List (ℕ × ℕ)) (spares : List Spare)
      (duties : List ℕ) → IsOf q p → LeftBy heads spares duties (pass_view p) (pass_view next)
      → next.seat.table_id ≡ p.seat.table_id → IsOf q next
  belongs-left q p next heads spares duties b left table =
      let is = left.is in record {
        table = table ∙ b.table;
        slots = b.slots;
        passes = ap (λ (z : View E S). z.passes) is ∙ b.passes;
        limit = ap (λ (z : View E S). z.limit) is ∙ b.limit;
        cells = ap (λ (z : View E S). z.cells) is ∙ b.cells;
        mode = b.mode;
        ample = b.ample;
        looks = b.looks;
        live = live-left (pass_view p) (pass_view next) heads spares duties left g.object b.live;
        opening = ap (λ (z : View E S). z.opening) is ∙ b.opening;
        alone = alone-left (pass_view p) (pass_view next) heads spares duties left g.primitive b.alone;
      }

-- one slot more is spare
pub has-more : (spares : List Spare) (slots x : ℕ) (kept more : Spares) → HasSpare spares slots kept
    → x < slots → spare_list more ≡ spare_list kept ++ x ∷ [] → HasSpare (spares ++ claimed_slot x ∷ [])
    slots more
has-more spares slots x kept more has below is = record {
  are = slots-append spares (claimed_slot x ∷ []) ∙ (ap (λ l. l ++ x ∷ []) has.are ∙ sym is);
  low = λ y h. ⊎_elim (has.low y)
      (λ q. ⊎_elim (λ (e : y ≡ x). subst (λ z. z < slots) (sym e) below) (λ z. absurd z) q)
      (has_append y (spare_list kept) (x ∷ []) (subst (Has y) is h));
}

-- the last one is none any more
pub has-less : (spares : List Spare) (slots x : ℕ) (kept fewer : Spares) → HasSpare spares slots kept
    → spare_list kept ≡ spare_list fewer ++ x ∷ []
    → EndsWith spares x × (x < slots) × HasSpare (but_last spares) slots fewer
has-less spares slots x kept fewer has is =
    let l = last-spare spares (spare_list fewer) x (has.are ∙ is) in (
      l.0,
      has.low x (subst (Has x) (sym is) (has_right x (spare_list fewer) (x ∷ []) (inl refl))),
      record {
        are = l.1;
        low = λ y h. has.low y (subst (Has y) (sym is) (has_left y (spare_list fewer) (x ∷ []) h));
      },
    )

-- it stays spare, reset as far as this
pub has-still : (spares : List Spare) (slots x after done : ℕ) (kept fewer : Spares) → HasSpare spares slots kept
    → spare_list kept ≡ spare_list fewer ++ x ∷ []
    → HasSpare (but_last spares ++ reset_slot x after done ∷ []) slots kept
has-still spares slots x after done kept fewer has is = record {
  are = slots-append (but_last spares) (reset_slot x after done ∷ [])
      ∙ (ap (λ l. l ++ x ∷ []) (has-less spares slots x kept fewer has is).2.are ∙ sym is);
  low = has.low;
}

module _ {E S : Type 0} where
  -- one slot more is given back
  pub given-then : (u v w : View E S) (duties : List ℕ) → Left v.facts.spare_slots duties u v
      → LeftBy [] (but_last v.facts.spare_slots) v.facts.duties v w → Left w.facts.spare_slots duties u w
  given-then u v w duties p q =
      subst (λ l. Left l duties u w) (sym (spares-left v w [] (but_last v.facts.spare_slots) v.facts.duties q))
      (and-then u v w v.facts.spare_slots (but_last v.facts.spare_slots) duties duties p (
        [],
        subst (λ d. LeftBy [] (but_last v.facts.spare_slots) d v w)
            (duties-left u v p.0 v.facts.spare_slots duties p.1) q,
      ))

  pub fewer-spares : (v w : View E S) → 0 < length v.facts.spare_slots
      → LeftBy [] (but_last v.facts.spare_slots) v.facts.duties v w
      → length w.facts.spare_slots < length v.facts.spare_slots
  fewer-spares v w some q =
      let same = ap length (spares-left v w [] (but_last v.facts.spare_slots) v.facts.duties q) in
      let less = shorter v.facts.spare_slots some in omega arith

  -- a spare that is kept is reset so far
  pub kept-left : (after tail : TailWord) (x : ℕ) (v w : View E S) → IsKept after x tail v w
      → (id done : ℕ) × Left (but_last v.facts.spare_slots ++ reset_slot x id done ∷ []) v.facts.duties v w
  kept-left after tail x v w (inl left) = (tail.id, 1, ([], left))
  kept-left after tail x v w (inr left) = (after.id, 34, left.0)

  -- a pass took in another one, whose spare slots were given back
  pub met-spareless : (object : Object E) (v u u' w : View E S) (heads : List (ℕ × ℕ))
      → LeftBy heads [] u.facts.duties u u'
      → Met object v (facts_joined v.facts u'.facts) u'.seen u'.handed u'.own w
      → Met object v (facts_met v.facts u.facts) u.seen u.handed u.own w
  met-spareless object v u u' w heads left m =
      let now : Met object v (facts_joined v.facts (facts_left [] heads u.facts.duties u.facts)) u.seen u.handed u.own
      w =
      subst (λ (z : View E S). Met object v (facts_joined v.facts z.facts) z.seen z.handed z.own w) left.is m in
      subst (λ l. Met object v (record (facts_joined v.facts u.facts) { spare_slots = l }) u.seen u.handed u.own w)
      (append-nil v.facts.spare_slots) now
