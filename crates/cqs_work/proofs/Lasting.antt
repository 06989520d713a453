-- What calls leave of a floor, whatever they are.
use Rattle.std.proofs.Common.{◌≡◌, ◌≢◌, ◌⊎◌, inl, inr, ℕ, ◌+◌, ◌<◌, ◌≤◌, List, [], ◌++◌, length, set, get_or, slice_get, refl, sym, ap, subst, ◌∙◌, arith}
use Rattle.std.proofs.lemmas.Bool.{cases_eq, cases_lt}
use Rattle.std.proofs.lemmas.List.{length-set, get_or-set_same, get_or-set_other, get_or_past}
use Rattle.std.proofs.lemmas.List.Elements.{filter-append}
use Rattle.cqs_core.specs.Parts.{part}
use Rattle.cqs_core.specs.declared.entries.Entry.{Entry}
use Rattle.cqs_core.specs.SemaphoreNames.{entry_names as permit_names}
use Rattle.cqs_pool_object.specs.declared.entries.PoolEntry.{PoolEntry}
use Rattle.cqs_pool_object.specs.PoolNames.{entry_names as element_names}
use Rattle.cqs_latch_object.specs.declared.entries.LatchEntry.{LatchEntry}
use Rattle.cqs_latch_object.specs.LatchNames.{entry_names as latch_names}
use Rattle.cqs_barrier_object.specs.declared.entries.BarrierEntry.{BarrierEntry}
use Rattle.cqs_barrier_object.specs.BarrierNames.{entry_names as party_names}
use Rattle.cqs_plan.specs.FloorHistory.{History, of_permits, of_elements, of_latch, of_rounds, entries_in}
use Rattle.cqs_floor_shared.specs.Entries.{Entries, at_permits, at_elements, at_latch, in_round, with_entries, own_entries, none_of, IsBefore}
use Rattle.cqs_floor_shared.specs.Shared.{Shared, Sees, IsLegalAt, seen_at}
use Rattle.cqs_plan.specs.Floor.{room_at}
use Rattle.cqs_work.specs.Accounts.{IsAccounted}
use Rattle.cqs_work.specs.Drawn.{drew}
use Rattle.cqs_work.specs.Later.{IsUnnamed, IsSound, Later}
use Rattle.cqs_work.proofs.Growing.{before-itself, before-through, before-with}

-- what a pass has seen after a call: there more, and elsewhere as before
pub seen-here : (f : Shared) (at : ℕ) (entries : Entries) (g : Shared) (sees : Sees f at entries g) → at < length f.seen
    → seen_at g at ≡ with_entries (seen_at f at) sees.more
seen-here f at entries g sees there =
    ap (λ l. get_or l at (of_permits [])) sees.seen
    ∙ get_or-set_same f.seen at (with_entries (seen_at f at) sees.more) (of_permits []) there

pub seen-else : (f : Shared) (at : ℕ) (entries : Entries) (g : Shared) → Sees f at entries g → (q : ℕ) → q ≢ at
    → seen_at g q ≡ seen_at f q
seen-else f at entries g sees q other =
    ap (λ l. get_or l q (of_permits [])) sees.seen
    ∙ get_or-set_other f.seen at q (with_entries (seen_at f at) sees.more) (of_permits []) other

pub seen-past : (f : Shared) (at : ℕ) (entries : Entries) (g : Shared) → Sees f at entries g → length f.seen ≤ at
    → seen_at g at ≡ seen_at f at
seen-past f at entries g sees past =
    let long : length (set f.seen at (with_entries (seen_at f at) sees.more)) ≤ at
    = omega (arith, past, length-set f.seen at (with_entries (seen_at f at) sees.more)) in
    ap (λ l. get_or l at (of_permits [])) sees.seen
    ∙ get_or_past (set f.seen at (with_entries (seen_at f at) sees.more)) at (of_permits []) long
    ∙ sym (get_or_past f.seen at (of_permits []) past)

-- what holds of the longer history, and of all as they were, holds of all
pub seen-all : (P : ℕ → History → Type 0) (f : Shared) (at : ℕ) (entries : Entries) (g : Shared)
    (sees : Sees f at entries g) → P at (with_entries (seen_at f at) sees.more) → ((q : ℕ) → P q (seen_at f q))
    → (q : ℕ)
    → P q (seen_at g q)
seen-all P f at entries g sees new old q = go (cases_eq q at)
  where
    here : (at < length f.seen) ⊎ (length f.seen ≤ at) → P at (seen_at g at)
    here (inl there) = subst (P at) (sym (seen-here f at entries g sees there)) new
    here (inr past) = subst (P at) (sym (seen-past f at entries g sees past)) (old at)

    go : (q ≡ at) ⊎ (q ≢ at) → P q (seen_at g q)
    go (inl same) = subst (λ n. P n (seen_at g n)) (sym same) (here (cases_lt at (length f.seen)))
    go (inr other) = subst (P q) (sym (seen-else f at entries g sees q other)) (old q)

-- the entries, by the kind of what they are of
abbrev permits_in : Entries → List Entry
permits_in (at_permits l) = l
permits_in (at_elements l) = []
permits_in (at_latch l) = []
permits_in (in_round round l) = []

abbrev elements_in : Entries → List PoolEntry
elements_in (at_permits l) = []
elements_in (at_elements l) = l
elements_in (at_latch l) = []
elements_in (in_round round l) = []

abbrev latch_in : Entries → List LatchEntry
latch_in (at_permits l) = []
latch_in (at_elements l) = []
latch_in (at_latch l) = l
latch_in (in_round round l) = []

abbrev parties_in : Entries → List BarrierEntry
parties_in (at_permits l) = []
parties_in (at_elements l) = []
parties_in (at_latch l) = []
parties_in (in_round round l) = l

-- of the rounds one has more
unnamed-rounds : (n : ℕ) (all : List (List BarrierEntry)) (round : ℕ) (more : List BarrierEntry)
    → ((r : ℕ) → part party_names n (entries_in all r) ≡ []) → part party_names n more ≡ [] → (r : ℕ)
    → part party_names n (entries_in (set all round (entries_in all round ++ more)) r) ≡ []
unnamed-rounds n all round more before none r = go (cases_eq r round)
  where
    now : List (List BarrierEntry)
    now = set all round (entries_in all round ++ more)

    longer : part party_names n (entries_in all round ++ more) ≡ []
    longer = filter-append (party_names n) (entries_in all round) more
        ∙ ap (λ l. l ++ part party_names n more) (before round) ∙ none

    here : (round < length all) ⊎ (length all ≤ round) → part party_names n (entries_in now round) ≡ []
    here (inl there) =
        ap (part party_names n) (get_or-set_same all round (entries_in all round ++ more) [] there) ∙ longer
    here (inr past) =
        let long : length now ≤ round = omega (arith, past, length-set all round (entries_in all round ++ more)) in
        ap (part party_names n) (get_or_past now round [] long)

    go : (r ≡ round) ⊎ (r ≢ round) → part party_names n (entries_in now r) ≡ []
    go (inl same) = subst (λ m. part party_names n (entries_in now m) ≡ []) (sym same)
        (here (cases_lt round (length all)))
    go (inr other) =
        ap (part party_names n) (get_or-set_other all round r (entries_in all round ++ more) [] other) ∙ before r

unnamed-with : (n : ℕ) (h : History) (more : Entries) → IsUnnamed n h → own_entries n more ≡ none_of more
    → IsUnnamed n (with_entries h more)
unnamed-with n (of_permits h) (at_permits more) before none =
    let nothing : part permit_names n more ≡ [] = ap permits_in none in
    filter-append (permit_names n) h more ∙ ap (λ l. l ++ part permit_names n more) before ∙ nothing
unnamed-with n (of_permits h) (at_elements more) before none = before
unnamed-with n (of_permits h) (at_latch more) before none = before
unnamed-with n (of_permits h) (in_round round more) before none = before
unnamed-with n (of_elements h) (at_elements more) before none =
    let nothing : part element_names n more ≡ [] = ap elements_in none in
    filter-append (element_names n) h more ∙ ap (λ l. l ++ part element_names n more) before ∙ nothing
unnamed-with n (of_elements h) (at_permits more) before none = before
unnamed-with n (of_elements h) (at_latch more) before none = before
unnamed-with n (of_elements h) (in_round round more) before none = before
unnamed-with n (of_latch h) (at_latch more) before none =
    let nothing : part latch_names n more ≡ [] = ap latch_in none in
    filter-append (latch_names n) h more ∙ ap (λ l. l ++ part latch_names n more) before ∙ nothing
unnamed-with n (of_latch h) (at_permits more) before none = before
unnamed-with n (of_latch h) (at_elements more) before none = before
unnamed-with n (of_latch h) (in_round round more) before none = before
unnamed-with n (of_rounds all) (in_round round more) before none =
    unnamed-rounds n all round more before (ap parties_in none)
unnamed-with n (of_rounds all) (at_permits more) before none = before
unnamed-with n (of_rounds all) (at_elements more) before none = before
unnamed-with n (of_rounds all) (at_latch more) before none = before

sees-sound : (f : Shared) (at : ℕ) (entries : Entries) (g : Shared) → Sees f at entries g → g.board.kinds
    ≡ f.board.kinds
    → IsSound f → IsSound g
sees-sound f at entries g sees kinds sound = record {
  legal = seen-all (λ q h. IsLegalAt g.board q h) f at entries g sees
      (on-kinds at (with_entries (seen_at f at) sees.more) sees.legal)
      (λ q. on-kinds q (seen_at f q) (sound.legal q));
  unnamed = λ q n past.
      let outside : f.floors ≤ n = omega (arith, past, sees.same.floors) in
      seen-all (λ r h. IsUnnamed n h) f at entries g sees
      (unnamed-with n (seen_at f at) sees.more (sound.unnamed at n outside) (sees.unnamed n outside))
      (λ r. sound.unnamed r n outside) q;
}
  where
    on-kinds : (q : ℕ) (h : History) → IsLegalAt f.board q h → IsLegalAt g.board q h
    on-kinds q h legal = record { legal = λ k got. legal.legal k (ap (λ ks. slice_get ks q) (sym kinds) ∙ got) }

-- a call
pub sees-later : (f : Shared) (at : ℕ) (entries : Entries) (g : Shared) → Sees f at entries g
    → g.board.kinds ≡ f.board.kinds → (IsAccounted f → IsAccounted g)
    → ((q round : ℕ) → drew g q round + room_at g.board q ≤ drew f q round + room_at f.board q) → Later f g
sees-later f at entries g sees kinds accounted room = record {
  same = sees.same;
  kinds = kinds;
  before = seen-all (λ q h. IsBefore (seen_at f q) h) f at entries g sees (before-with (seen_at f at) sees.more)
      (λ q. before-itself (seen_at f q));
  sound = sees-sound f at entries g sees kinds;
  accounted = accounted;
  room = room;
}

-- no call
pub later-none : (f : Shared) → Later f f
later-none f = record {
  same = record { limits = refl; number = refl; met = refl; floors = refl; family = refl };
  kinds = refl;
  before = λ at. before-itself (seen_at f at);
  sound = λ sound. sound;
  accounted = λ accounted. accounted;
  room = λ at round. omega arith;
}

-- some calls, and then others
pub later-then : (f g k : Shared) → Later f g → Later g k → Later f k
later-then f g k first second = record {
  same = record {
    limits = second.same.limits ∙ first.same.limits;
    number = second.same.number ∙ first.same.number;
    met = second.same.met ∙ first.same.met;
    floors = second.same.floors ∙ first.same.floors;
    family = second.same.family ∙ first.same.family;
  };
  kinds = second.kinds ∙ first.kinds;
  before = λ at. before-through (seen_at f at) (seen_at g at) (seen_at k at) (first.before at) (second.before at);
  sound = λ sound. second.sound (first.sound sound);
  accounted = λ accounted. second.accounted (first.accounted accounted);
  room = λ at round. omega (arith, first.room at round, second.room at round);
}
