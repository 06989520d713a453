-- The waits at a semaphore: the numbers that were drawn there, in order, each with the job that was told it.
use Rattle.std.proofs.Common.{◌≡◌, ◌≢◌, ◌⊎◌, inl, inr, ℕ, zero, suc, ◌+◌, ◌-◌, ◌<◌, ◌≤◌, ◌==◌, nat_lt, Bool, true, false, cond, List, [], ◌∷◌, ◌++◌, Some, None, length, map, filter, take, slice_get, refl, sym, ap, subst, ◌∙◌, arith, eq-eqb, ne_eqb}
use Rattle.std.specs.Bool.{if◌then◌else◌}
use Rattle.std.proofs.lemmas.Bool.{cases_eq, cases_lt}
use Rattle.std.proofs.lemmas.List.{length_push, take_all, append-nil}
use Rattle.std.proofs.lemmas.List.Elements.{filter_map-append}
use Rattle.cqs_core.specs.Numbered.{IsIn}
use Rattle.cqs_core.specs.Keyed.{without}
use Rattle.cqs_core.specs.Parts.{part}
use Rattle.cqs_core.specs.declared.entries.Entry.{Entry}
use Rattle.cqs_core.specs.declared.entries.Entry.TheVariants as permit
use Rattle.cqs_core.specs.SemaphoreNames.{entry_names as permit_names}
use Rattle.cqs_core.specs.SemaphoreObject.{Semaphore, opening, due}
use Rattle.cqs_core.specs.SemaphoreEntries.{IsAllowed, IsLegal, after_entry, object_after, turned_back, has_spoiled}
use Rattle.cqs_core.proofs.Histories.{walk, take-next}
use Rattle.cqs_core.proofs.Waits.{enters_by}
use Rattle.cqs_core.proofs.Places.{get-below, get-push_at, get-append_below}
use Rattle.cqs_work.specs.declared.waits.Waited.{Waited}
use Rattle.cqs_work.specs.Noted.{Draw, draw_of, draws, told_at, as_draw}

-- the numbers that were drawn are counted from 0
pub record AreCounted (l : List Draw) (next : ℕ) : Type 0 where
  pub long : length l ≡ next
  pub at : (k : ℕ) (d : Draw) → slice_get l k ≡ Some d → d.number ≡ k

counted-push : (l : List Draw) (next c k : ℕ) → AreCounted l next → k ≡ next
    → AreCounted (l ++ record { pass = c; number = k } ∷ []) (next + 1)
counted-push l next c k are is = record {
  long = omega (arith, length_push l (record { pass = c; number = k }), are.long);
  at = λ i d got. go i d got (cases_lt i (length l));
}
  where
    new : Draw
    new = record { pass = c; number = k }

    go : (i : ℕ) (d : Draw) → slice_get (l ++ record { pass = c; number = k } ∷ []) i ≡ Some d
        → (i < length l) ⊎ (length l ≤ i) → d.number ≡ i
    go i d got (inl below) =
        are.at i d (sym (get-append_below l (record { pass = c; number = k } ∷ []) i below) ∙ got)
    go i d got (inr past) =
        let short = get-below (l ++ record { pass = c; number = k } ∷ []) i d got in
        let here : i ≡ length l = omega (arith, past, short, length_push l (record { pass = c; number = k })) in
        let now : slice_get (l ++ record { pass = c; number = k } ∷ []) i ≡ Some (record { pass = c; number = k })
        = get-push_at l (record { pass = c; number = k }) i here in
        let same : record { pass = c; number = k } ≡ d = cc in
        ap (λ (x : Draw). x.number) (sym same) ∙ is ∙ sym are.long ∙ sym here

-- an entry that draws no number
draws-same : (h : List Entry) (e : Entry) → draw_of e ≡ None → draws (h ++ e ∷ []) ≡ draws h
draws-same h e none =
    let no : draws (e ∷ []) ≡ [] = rw none refl in
    filter_map-append draw_of h (e ∷ []) ∙ ap (λ l. draws h ++ l) no ∙ append-nil (draws h)

turned-next : (o : Semaphore) → (turned_back o).next ≡ o.next
turned-next o = go (nat_lt (due o) o.way)
  where
    go : (b : Bool) → (if b then record o { way = o.way - 1; free = o.free + 1 } else o).next ≡ o.next
    go true = refl
    go false = refl

entered-next : (o : Semaphore) (c k : ℕ) → (after_entry o (permit.Enter c k)).next ≡ o.next + 1
entered-next o c k = go (has_spoiled k o.spoiled)
  where
    go : (b : Bool) → (enters_by o c k b).next ≡ o.next + 1
    go true = refl
    go false = refl

-- an entry of a legal history
counted-same : (h : List Entry) (e : Entry) (o p : Semaphore) → draw_of e ≡ None → p.next ≡ o.next
    → AreCounted (draws h) o.next → AreCounted (draws (h ++ e ∷ [])) p.next
counted-same h e o p none same are =
    rw (draws-same h e none, same) are

counted-entry : (h : List Entry) (e : Entry) (o : Semaphore) → IsAllowed o e → AreCounted (draws h) o.next
    → AreCounted (draws (h ++ e ∷ [])) (after_entry o e).next
counted-entry h (permit.Enter c k) o (stands, next, may) are =
    let more : draws (h ++ permit.Enter c k ∷ []) ≡ draws h ++ record { pass = c; number = k } ∷ []
    = filter_map-append draw_of h (permit.Enter c k ∷ []) in
    rw (more, entered-next o c k) (counted-push (draws h) o.next c k are next)
counted-entry h (permit.TakeNow c) o allowed are = counted-same h (permit.TakeNow c) o
    (after_entry o (permit.TakeNow c)) refl refl are
counted-entry h (permit.TakeDoor c) o allowed are = counted-same h (permit.TakeDoor c) o
    (after_entry o (permit.TakeDoor c)) refl refl are
counted-entry h (permit.TryGot c) o allowed are = counted-same h (permit.TryGot c) o
    (after_entry o (permit.TryGot c)) refl refl are
counted-entry h (permit.TryBusy c) o allowed are = counted-same h (permit.TryBusy c) o
    (after_entry o (permit.TryBusy c)) refl refl are
counted-entry h (permit.GiveFreed c) o allowed are = counted-same h (permit.GiveFreed c) o
    (after_entry o (permit.GiveFreed c)) refl refl are
counted-entry h (permit.GiveSent c) o allowed are = counted-same h (permit.GiveSent c) o
    (after_entry o (permit.GiveSent c)) refl refl are
counted-entry h (permit.Deliver k) o allowed are = counted-same h (permit.Deliver k) o
    (after_entry o (permit.Deliver k)) refl refl are
counted-entry h (permit.Spoil c k) o allowed are = counted-same h (permit.Spoil c k) o
    (after_entry o (permit.Spoil c k)) refl refl are
counted-entry h (permit.Undo c k) o allowed are = counted-same h (permit.Undo c k) o
    (after_entry o (permit.Undo c k)) refl refl are
counted-entry h (permit.Leave c k) o allowed are =
    counted-same h (permit.Leave c k) o (after_entry o (permit.Leave c k)) refl
    (turned-next (record o { line = without (λ w. w.wait) k o.line })) are
counted-entry h (permit.Late c k) o allowed are = counted-same h (permit.Late c k) o
    (after_entry o (permit.Late c k)) refl refl are
counted-entry h (permit.LookGranted c k) o allowed are = counted-same h (permit.LookGranted c k) o
    (after_entry o (permit.LookGranted c k)) refl refl are
counted-entry h (permit.LookPending c k) o allowed are = counted-same h (permit.LookPending c k) o
    (after_entry o (permit.LookPending c k)) refl refl are

counted-next : (history : List Entry) (n : ℕ) (e : Entry) (o : Semaphore) → slice_get history n ≡ Some e
    → IsAllowed o e → AreCounted (draws (take n history)) o.next
    → AreCounted (draws (take (suc n) history)) (after_entry o e).next
counted-next history n e o got allowed are =
    rw (take-next history n e got) (counted-entry (take n history) e o allowed are)

-- the k-th number that is drawn is k
pub counted : (permits : ℕ) (history : List Entry) → IsLegal permits history
    → AreCounted (draws history) (object_after permits history).next
counted permits history legal =
    let whole : AreCounted (draws (take (length history) history))
    (object_after permits (take (length history) history)).next
    = walk IsAllowed after_entry (opening permits) history (λ n o. AreCounted (draws (take n history)) o.next) legal
    (λ n e got allowed are. counted-next history n e _ got allowed are) 0
    (record { long = refl; at = λ k d got. absurd (cc) }) (length history) (length history) (omega arith)
    (omega arith) in
    subst (λ h. AreCounted (draws h) (object_after permits h).next)
    (take_all (length history) history (omega arith)) whole

-- which numbers a pass drew, among all
part-none : (c : ℕ) (e : Entry) (h : List Entry) → draw_of e ≡ None → draws (part permit_names c h)
    ≡ filter (λ d. d.pass == c) (draws h)
    → draws (part permit_names c (e ∷ h)) ≡ filter (λ d. d.pass == c) (draws (e ∷ h))
part-none c e h none rest = go (permit_names c e) ∙ rest ∙ ap (filter (λ d. d.pass == c)) (sym all)
  where
    all : draws (e ∷ h) ≡ draws h
    all = rw none refl

    go : (b : Bool) → draws (cond {A = List Entry} b (e ∷ part permit_names c h) (part permit_names c h))
        ≡ draws (part permit_names c h)
    go true = rw none refl
    go false = refl

pub draws-part : (c : ℕ) (h : List Entry) → draws (part permit_names c h) ≡ filter (λ d. d.pass == c) (draws h)
draws-part c [] = refl
draws-part c (permit.Enter p k ∷ h) = go (p == c) (draws-part c h)
  where
    go : (b : Bool) → draws (part permit_names c h) ≡ filter (λ d. d.pass == c) (draws h)
        → draws (cond {A = List Entry} b (permit.Enter p k ∷ part permit_names c h) (part permit_names c h))
        ≡ cond {A = List Draw} b (record { pass = p; number = k } ∷ filter (λ d. d.pass == c) (draws h))
        (filter (λ d. d.pass == c) (draws h))
    go true rest = ap (λ l. record { pass = p; number = k } ∷ l) rest
    go false rest = rest
draws-part c (permit.TakeNow p ∷ h) = part-none c (permit.TakeNow p) h refl (draws-part c h)
draws-part c (permit.TakeDoor p ∷ h) = part-none c (permit.TakeDoor p) h refl (draws-part c h)
draws-part c (permit.TryGot p ∷ h) = part-none c (permit.TryGot p) h refl (draws-part c h)
draws-part c (permit.TryBusy p ∷ h) = part-none c (permit.TryBusy p) h refl (draws-part c h)
draws-part c (permit.GiveFreed p ∷ h) = part-none c (permit.GiveFreed p) h refl (draws-part c h)
draws-part c (permit.GiveSent p ∷ h) = part-none c (permit.GiveSent p) h refl (draws-part c h)
draws-part c (permit.Deliver k ∷ h) = part-none c (permit.Deliver k) h refl (draws-part c h)
draws-part c (permit.Spoil p k ∷ h) = part-none c (permit.Spoil p k) h refl (draws-part c h)
draws-part c (permit.Undo p k ∷ h) = part-none c (permit.Undo p k) h refl (draws-part c h)
draws-part c (permit.Leave p k ∷ h) = part-none c (permit.Leave p k) h refl (draws-part c h)
draws-part c (permit.Late p k ∷ h) = part-none c (permit.Late p k) h refl (draws-part c h)
draws-part c (permit.LookGranted p k ∷ h) = part-none c (permit.LookGranted p k) h refl (draws-part c h)
draws-part c (permit.LookPending p k ∷ h) = part-none c (permit.LookPending p k) h refl (draws-part c h)

-- membership in a list that was sifted
in-here : {X : Type 0} (x : X) (xs : List X) → IsIn x (x ∷ xs)
in-here x xs = record { place = 0; there = refl }

in-cons : {X : Type 0} (x y : X) (xs : List X) → IsIn x xs → IsIn x (y ∷ xs)
in-cons x y xs later =
    let next : later.place + 1 ≡ suc later.place = omega arith in
    record { place = later.place + 1; there = rw next later.there }

in-split : {X : Type 0} (x y : X) (xs : List X) → IsIn x (y ∷ xs) → (y ≡ x) ⊎ IsIn x xs
in-split x y xs there = go there.place there.there
  where
    go : (i : ℕ) → slice_get (y ∷ xs) i ≡ Some x → (y ≡ x) ⊎ IsIn x xs
    go zero got = inl (cc)
    go (suc i) got = inr (record { place = i; there = got })

pub filter-in : {X : Type 0} (p : X → Bool) (x : X) (xs : List X) → IsIn x xs → p x ≡ true → IsIn x (filter p xs)
filter-in p x [] there passes = let got = there.there in absurd (cc)
filter-in {X} p x (y ∷ xs) there passes =
    on (p y) refl (go (in-split x y xs there) (λ later. filter-in p x xs later passes))
  where
    on : (b : Bool) → p y ≡ b → (y ≡ x) ⊎ IsIn x (filter p xs)
        → IsIn x (cond {A = List X} b (y ∷ filter p xs) (filter p xs))
    on true is (inl same) = subst (λ z. IsIn x (z ∷ filter p xs)) (sym same) (in-here x (filter p xs))
    on true is (inr later) = in-cons x y (filter p xs) later
    on false is (inl same) = absurd (cc (is, ap p same, passes))
    on false is (inr later) = later

    go : (y ≡ x) ⊎ IsIn x xs → (IsIn x xs → IsIn x (filter p xs)) → (y ≡ x) ⊎ IsIn x (filter p xs)
    go (inl same) rest = inl same
    go (inr later) rest = inr (rest later)

pub in-filter : {X : Type 0} (p : X → Bool) (x : X) (xs : List X) → IsIn x (filter p xs) → IsIn x xs × (p x ≡ true)
in-filter p x [] there = let got = there.there in absurd (cc)
in-filter {X} p x (y ∷ xs) there = on (p y) refl there (λ later. in-filter p x xs later)
  where
    on : (b : Bool) → p y ≡ b → IsIn x (cond {A = List X} b (y ∷ filter p xs) (filter p xs))
        → (IsIn x (filter p xs) → IsIn x xs × (p x ≡ true)) → IsIn x (y ∷ xs) × (p x ≡ true)
    on true is among rest = go (in-split x y (filter p xs) among)
      where
        go : (y ≡ x) ⊎ IsIn x (filter p xs) → IsIn x (y ∷ xs) × (p x ≡ true)
        go (inl same) = (subst (λ z. IsIn x (z ∷ xs)) (sym same) (in-here x xs), ap p (sym same) ∙ is)
        go (inr later) = let it = rest later in (in-cons x y xs it.0, it.1)
    on false is among rest = let it = rest among in (in-cons x y xs it.0, it.1)

pub map-in : {X Y : Type 0} (f : X → Y) (x : X) (xs : List X) → IsIn x xs → IsIn (f x) (map f xs)
map-in f x [] there = let got = there.there in absurd (cc)
map-in f x (y ∷ xs) there = go (in-split x y xs there) (λ later. map-in f x xs later)
  where
    go : (y ≡ x) ⊎ IsIn x xs → (IsIn x xs → IsIn (f x) (map f xs)) → IsIn (f x) (map f (y ∷ xs))
    go (inl same) rest = subst (λ z. IsIn (f x) (f z ∷ map f xs)) (sym same) (in-here (f x) (map f xs))
    go (inr later) rest = in-cons (f x) (f y) (map f xs) (rest later)

pub in-map : {X Y : Type 0} (f : X → Y) (y : Y) (xs : List X) → IsIn y (map f xs) → (x : X) × IsIn x xs × (f x ≡ y)
in-map f y [] there = let got = there.there in absurd (cc)
in-map {X} f y (x ∷ xs) there = go (in-split y (f x) (map f xs) there) (λ later. in-map f y xs later)
  where
    go : (f x ≡ y) ⊎ IsIn y (map f xs) → (IsIn y (map f xs) → (z : X) × IsIn z xs × (f z ≡ y))
        → (z : X) × IsIn z (x ∷ xs) × (f z ≡ y)
    go (inl same) rest = (x, in-here x xs, same)
    go (inr later) rest = let it = rest later in (it.0, in-cons it.0 x xs it.1, it.2)

-- what the pass c was told at a place, as it drew numbers of the history
module _ (h : List Entry) (c at : ℕ) (waits : List Waited)
    (are : draws (part permit_names c h) ≡ map (as_draw c) (told_at at waits)) where
  -- what a job was told is drawn
  pub told-drawn : (w : Waited) → IsIn w waits → w.at ≡ at
      → IsIn (record { pass = c; number = w.number }) (draws h)
  told-drawn w among here =
      let kept : IsIn w (told_at at waits)
      = filter-in (λ x. x.at == at) w waits among (eq-eqb w.at at here) in
      let drawn : IsIn (as_draw c w) (draws (part permit_names c h))
      = subst (IsIn (as_draw c w)) (sym are) (map-in (as_draw c) w (told_at at waits) kept) in
      (in-filter (λ (d : Draw). d.pass == c) (as_draw c w) (draws h)
      (subst (IsIn (as_draw c w)) (draws-part c h) drawn)).0

  -- and what the pass drew a job was told
  pub drawn-told : (number : ℕ) → IsIn (record { pass = c; number = number }) (draws h)
      → (w : Waited) × IsIn w waits × (w.at ≡ at) × (w.number ≡ number)
  drawn-told number among =
      let d : Draw = record { pass = c; number = number } in
      let own : IsIn d (draws (part permit_names c h))
      = subst (IsIn d) (sym (draws-part c h))
      (filter-in (λ (x : Draw). x.pass == c) d (draws h) among (eq-eqb c c refl)) in
      let found = in-map (as_draw c) d (told_at at waits) (subst (IsIn d) are own) in
      let kept = in-filter (λ x. x.at == at) found.0 waits found.1 in
      (found.0, kept.0, is-at (found.0.at) at kept.1, ap (λ (x : Draw). x.number) found.2)
    where
      is-at : (m n : ℕ) → m == n ≡ true → m ≡ n
      is-at m n same_by = go (cases_eq m n)
        where
          go : (m ≡ n) ⊎ (m ≢ n) → m ≡ n
          go (inl same) = same
          go (inr other) = absurd (cc (ne_eqb m n other, same_by))
