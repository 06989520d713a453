-- A latch of the running queue with its one pass is a resource as a floor needs it: each call by what it left of
-- the pass.
use Rattle.std.proofs.Common.{◌≡◌, ◌≢◌, ◌⊎◌, inl, inr, ℕ, zero, suc, ◌+◌, ◌-◌, ◌<◌, ◌≤◌, nat_lt, true, false, List, [], ◌∷◌, ◌++◌, length, Option, Some, None, refl, ap, sym, ◌∙◌, subst, lt-ltb, arith}
use Rattle.std.specs.List.{fold}
use Rattle.std.proofs.lemmas.List.{append-nil, length_push}
use Rattle.std.proofs.lemmas.List.Elements.{filter-append}
use Rattle.cqs_core.specs.Keyed as keyed
use Rattle.cqs_core.specs.QueueLine.{Waiting}
use Rattle.cqs_core.specs.QueueWaiters.{IsServed, Waits as StandsIn}
use Rattle.cqs_core.proofs.Rising.{length-without}
use Rattle.cqs_plan.specs.declared.floors.answers.FloorDown.TheVariants as down
use Rattle.cqs_plan.specs.declared.floors.answers.FloorEnd.TheVariants as end
use Rattle.cqs_plan.specs.declared.plans.kind.Kind.{Kind}
use Rattle.cqs_plan.specs.declared.plans.kind.Kind.TheVariants as kind
use Rattle.cqs_plan.specs.Floor.{IsLatch, size_of}
use Rattle.cqs_plan.specs.FloorCalls.{down_of}
use Rattle.cqs_plan.specs.FloorHistory.{Deed, of_latch, joins, gets, leaves, is_late, passes, counts, opens, is_open, latch_after, latch_entries}
use Rattle.cqs_plan.specs.LegalFloor.{IsHistory}
use Rattle.cqs_plan.proofs.PoolSeats.{waits-found}
use Rattle.cqs_latch_object.specs.declared.entries.LatchEntry.{LatchEntry}
use Rattle.cqs_latch_object.specs.declared.entries.LatchEntry.TheVariants as entry
use Rattle.cqs_latch_object.specs.LatchEntries.{IsLegal, after_entry, object_after}
use Rattle.cqs_latch_object.specs.LatchObject.{Latch, opening}
use Rattle.cqs_latch.specs.Alone.{HasServedAll, delivers, plain_after, waiting_in}
use Rattle.cqs_latch.specs.Calls.{IsMine, Rests}
use Rattle.cqs_latch.specs.Latch.{is_simple}
use Rattle.cqs_latch.specs.LatchMade.{mode_of, count_of}
use Rattle.cqs_latch.proofs.AloneOrder.{alone-past}
use Rattle.cqs_rule_laws.specs.declared.config.CancelMode.TheVariants.{Smart}
use Rattle.cqs_rule_laws.specs.declared.config.Place.{Place}
use Rattle.cqs_rule_laws.specs.declared.view.Opening.{Opening}
use Rattle.cqs_rule_laws.specs.declared.view.View.{View}
use Rattle.cqs_rule_laws.specs.Lists.{Has, without}
use Rattle.cqs_rule.specs.Passes.{client_of, limit_of, pass_view}
use Rattle.cqs_rule_laws.proofs.Lists.{has_append, has_left, has_without, without_has}
use Rattle.cqs_floor_alone_kinds.specs.declared.latch_sole.LatchSole.{LatchSole}
use Rattle.cqs_floor_alone_kinds.specs.declared.sole_resource.Left.TheVariants as left
use Rattle.cqs_floor_alone_kinds.specs.declared.sole_resource.Looked.TheVariants as looked
use Rattle.cqs_floor_alone_kinds.specs.SoleLatch.{IsFunded, is_news, news, store_latch}
use Rattle.cqs_floor_alone_kinds.specs.Stores.{Awaits, Cancels, Counts, IsLawful, IsOpened, Polls, Tells, is_holdable, is_in_line, stands_in}
use Rattle.cqs_floor_alone_kinds.specs.Waits.{WaitsAt}
use Rattle.cqs_floor_alone_kinds.proofs.LatchRests.{Comes, delivered-count, delivered-next, delivered-open, delivers-line, has-next, news-delivers, news-legal, news-object, plain-next, rests-next}

-- the plain latch that a floor sees is the one after all that the pass has seen
seen-object : (v : View LatchEntry (Unit {0})) (size : ℕ) → v.opening.size ≡ size → v.opening.mode ≡ Smart
    → latch_after size (news v.seen) ≡ plain_after v
seen-object v size is smart =
    news-object size v.seen ∙ (λ i. object_after (is_simple (sym smart i)) (sym is i) v.seen)

seen-funded : (x : LatchSole) (kind : Option Kind) (room waiting : ℕ) (held : List (List ℕ))
    → IsFunded x kind room waiting held → latch_after (size_of kind) (news (pass_view x.pass).seen)
    ≡ plain_after (pass_view x.pass)
seen-funded x kind room waiting held funded =
    seen-object (pass_view x.pass) (size_of kind) funded.rests.size_is funded.rests.smart

legal-seen : (x : LatchSole) (kind : Option Kind) (room waiting : ℕ) (held : List (List ℕ))
    → IsFunded x kind room waiting held → IsLegal false (size_of kind) (pass_view x.pass).seen
legal-seen x kind room waiting held funded =
    subst (λ n. IsLegal false n (pass_view x.pass).seen) funded.rests.size_is
    (subst (λ m. IsLegal (is_simple m) (pass_view x.pass).opening.size (pass_view x.pass).seen) funded.rests.smart
    funded.mine.live.legal)

pub latch-lawful : IsLawful store_latch
latch-lawful = record {
  legal = λ x k room waiting held funded. legal x k funded.sort
      (news-legal (size_of (Some k)) (pass_view x.pass).seen (legal-seen x (Some k) room waiting held funded));
  numbered = λ x round wait kind room waiting held funded has.
      subst (λ (o : Latch). wait.index < o.waiters.next) (sym (seen-funded x kind room waiting held funded))
      (funded.rests.drawn wait.index has.1.open_yet);
}
  where
    legal : (x : LatchSole) (k : Kind) → IsLatch (Some k)
        → IsLegal false (size_of (Some k)) (news (pass_view x.pass).seen) → IsHistory k (store_latch.history x)
    legal x (kind.Latch n) sort is = is
    legal x (kind.Semaphore n) sort is = absurd sort
    legal x kind.Mutex sort is = absurd sort
    legal x (kind.Pool n) sort is = absurd sort
    legal x (kind.Rounds n m) sort is = absurd sort

-- nothing of a latch is held
holds-nothing : (kind : Option Kind) → IsLatch kind → is_holdable kind ≡ false
holds-nothing (Some (kind.Latch n)) sort = refl
holds-nothing (Some (kind.Semaphore n)) sort = absurd sort
holds-nothing (Some kind.Mutex) sort = absurd sort
holds-nothing (Some (kind.Pool n)) sort = absurd sort
holds-nothing (Some (kind.Rounds n m)) sort = absurd sort
holds-nothing None sort = absurd sort

-- what a count down answers by what is left
down-left : (n m : ℕ) → 0 < n → m ≡ n + 1 → down.Left n ≡ down_of m
down-left zero m some is = absurd (omega (arith, some))
down-left (suc n) m some is =
    let two : suc (suc n) ≡ m = omega (arith, is) in ap down_of two

some-left : (n : ℕ) → (n ≡ 0 → ⊥) → nat_lt 0 n ≡ true
some-left zero some = absurd (some refl)
some-left (suc n) some = lt-ltb 0 (suc n) (omega arith)

no-true : {b : _} → b ≡ false → b ≡ true → ⊥
no-true {b} shut now = cc (shut, now)

module _ (x y : LatchSole) (mine : IsMine y.latch y.pass) (mode : mode_of (client_of y.latch.queue) ≡ Smart) where
  abbrev v : View LatchEntry (Unit {0})
  v = pass_view x.pass

  abbrev w : View LatchEntry (Unit {0})
  w = pass_view y.pass

  abbrev o : Latch
  o = plain_after v

  -- what happened, in the floor's words
  done-by : (round : ℕ) (kind : Option Kind) (deed : Deed) (entries : List LatchEntry) (waits : List ℕ)
      (room waiting : ℕ) (held : List (List ℕ)) → IsFunded x kind room waiting held → Comes v w entries waits
      → news entries ≡ latch_entries o.waiters.line deed
      → store_latch.history y
      ≡ of_latch (news v.seen ++ latch_entries (latch_after (size_of kind) (news v.seen)).waiters.line deed)
  done-by round kind deed entries waits room waiting held funded c fresh =
      ap of_latch (ap news c.seen ∙ filter-append is_news v.seen entries
      ∙ ap (λ es. news v.seen ++ es) (fresh ∙ ap (λ (z : Latch). latch_entries z.waiters.line deed)
      (sym (seen-funded x kind room waiting held funded))))

  keeps-by : (entries : List LatchEntry) (waits : List ℕ) → Comes v w entries waits
      → (wait : Place) → WaitsAt v wait → Has wait.index waits → WaitsAt w wait
  keeps-by entries waits c wait has there =
      has-next v w entries c.same c.seen wait has
      (subst (Has wait.index) (sym c.rests.waits_are) there)

  -- it is funded so then, where the object after the entries stands so
  funded-by : (kind : Option Kind) (entries : List LatchEntry) (waits : List ℕ) (room room' waiting waiting' : ℕ)
      (held held' : List (List ℕ)) → IsFunded x kind room waiting held → (c : Comes v w entries waits)
      → ((fold after_entry o entries).count ≡ 0 → (fold after_entry o entries).opened ≡ true)
      → ((fold after_entry o entries).opened ≡ true → (fold after_entry o entries).waiters.line ≡ [])
      → (fold after_entry o entries).waiters.next + room' ≤ o.waiters.next + room
      → ((k : ℕ) → Has k waits → k < (fold after_entry o entries).waiters.next)
      → y.count ≡ (fold after_entry o entries).count
      → y.line ≡ length (fold after_entry o entries).waiters.line → y.line + room' ≤ 1048576
      → IsFunded y kind room' waiting' held'
  funded-by kind entries waits room room' waiting waiting' held held' funded c whole none few drawn count line small =
      let is = plain-next v w entries c.same c.seen in record {
        sort = funded.sort;
        mine = mine;
        mode = mode;
        rests = rests-next v w entries waits c (size_of kind) room room' funded.rests whole none few drawn;
        count = count ∙ ap (λ (z : Latch). z.count) (sym is);
        line = line ∙ ap (λ (z : Latch). length z.waiters.line) (sym is);
        few_wait = small;
      }

  -- A count down.
  pub latch-counts : (n : ℕ) → Comes v w (entry.DownLeft 0 n ∷ []) v.facts.waits → 0 < n → o.count ≡ n + 1
      → y.count ≡ n → y.line ≡ x.line → Counts store_latch x (down.Left n) y
  latch-counts n c some is count line kind room waiting held funded =
      let seen = seen-funded x kind room waiting held funded in (
        down-left n _ some (ap (λ (z : Latch). z.count) seen ∙ is),
        record {
          goes = record {
            done = done-by 0 kind (counts n) (entry.DownLeft 0 n ∷ []) _ room waiting held funded c refl;
            funded = funded-by kind (entry.DownLeft 0 n ∷ []) _ room (room - 0) waiting waiting held held funded c
                (λ none. absurd (omega (arith, some, none))) funded.rests.none (omega arith) funded.rests.drawn count
                (line ∙ funded.line) (omega (arith, line, funded.few_wait));
          };
          keeps = λ round wait has. (has.0, keeps-by (entry.DownLeft 0 n ∷ []) _ c wait has.1 has.1.open_yet);
        },
      )

  pub latch-opens : Comes v w (entry.DownLast 0 ∷ entry.Open 0 ∷ delivers (waiting_in v)) v.facts.waits
      → HasServedAll w → o.count ≡ 1 → y.count ≡ 0 → y.line ≡ 0 → Counts store_latch x down.Last y
  latch-opens c all is count line kind room waiting held funded =
      let seen = seen-funded x kind room waiting held funded in
      let entries : List LatchEntry = entry.DownLast 0 ∷ entry.Open 0 ∷ delivers (waiting_in v) in
      let z : Latch = fold after_entry o (entry.DownLast 0 ∷ entry.Open 0 ∷ []) in
      let next : (fold after_entry o entries).waiters.next ≡ o.waiters.next = delivered-next (waiting_in v) z in
      let empty : (fold after_entry o entries).waiters.line ≡ [] =
      ap (λ (u : Latch). u.waiters.line) (sym (plain-next v w entries c.same c.seen)) ∙ all.1 in (
        ap down_of (sym (ap (λ (u : Latch). u.count) seen ∙ is)),
        record {
          goes = record {
            done = done-by 0 kind opens entries _ room waiting held funded c
                (ap (λ es. entry.DownLast 0 ∷ entry.Open 0 ∷ es)
                (news-delivers (waiting_in v) ∙ delivers-line o.waiters.line));
            funded = funded-by kind entries _ room (room - 0) waiting waiting held held funded c
                (λ none. delivered-open (waiting_in v) z) (λ now. empty) (omega (arith, next))
                (λ k has. let under = funded.rests.drawn k has in omega (arith, under, next))
                (count ∙ sym (delivered-count (waiting_in v) z))
                (line ∙ sym (ap (λ (l : List Waiting). length l) empty)) (omega (arith, line, funded.few_wait));
          };
          keeps = λ round wait has. (has.0, keeps-by entries _ c wait has.1 has.1.open_yet);
        },
      )

  pub latch-open : Comes v w (entry.DownAlready 0 ∷ []) v.facts.waits → o.count ≡ 0
      → y.count ≡ x.count → y.line ≡ x.line → Counts store_latch x down.Already y
  latch-open c is count line kind room waiting held funded =
      let seen = seen-funded x kind room waiting held funded in (
        ap down_of (sym (ap (λ (z : Latch). z.count) seen ∙ is)),
        record {
          goes = record {
            done = done-by 0 kind is_open (entry.DownAlready 0 ∷ []) _ room waiting held funded c refl;
            funded = funded-by kind (entry.DownAlready 0 ∷ []) _ room (room - 0) waiting waiting held held funded c
                funded.rests.whole funded.rests.none (omega arith) funded.rests.drawn (count ∙ funded.count)
                (line ∙ funded.line) (omega (arith, line, funded.few_wait));
          };
          keeps = λ round wait has. (has.0, keeps-by (entry.DownAlready 0 ∷ []) _ c wait has.1 has.1.open_yet);
        },
      )

  -- A wait at the latch.
  pub latch-passes : (job : ℕ) → Comes v w (entry.Passed 0 ∷ []) v.facts.waits → o.count ≡ 0
      → y.count ≡ x.count → y.line ≡ x.line → Awaits store_latch job x None y
  latch-passes job c is count line kind room waiting held funded some =
      let seen = seen-funded x kind room waiting held funded in (
        ap (nat_lt 0) (ap (λ (z : Latch). z.count) seen ∙ is),
        record {
          goes = record {
            done = done-by 0 kind passes (entry.Passed 0 ∷ []) _ room waiting held funded c refl;
            funded = funded-by kind (entry.Passed 0 ∷ []) _ room (room - 1) waiting waiting held held funded c
                funded.rests.whole funded.rests.none (omega arith) funded.rests.drawn (count ∙ funded.count)
                (line ∙ funded.line) (omega (arith, line, funded.few_wait));
          };
          keeps = λ round wait has. (has.0, keeps-by (entry.Passed 0 ∷ []) _ c wait has.1 has.1.open_yet);
        },
      )

  pub latch-joins : (job : ℕ) (place : Place)
      → Comes v w (entry.AwaitDoor 0 ∷ entry.Enter 0 place.index ∷ []) (v.facts.waits ++ place.index ∷ [])
      → o.opened ≡ false → place.index ≡ o.waiters.next → WaitsAt w place
      → y.count ≡ x.count → y.line ≡ x.line + 1 → Awaits store_latch job x (Some place) y
  latch-joins job place c shut next has count line kind room waiting held funded some =
      let seen = seen-funded x kind room waiting held funded in
      let k = place.index in
      let entries : List LatchEntry = entry.AwaitDoor 0 ∷ entry.Enter 0 k ∷ [] in
      let number : k ≡ (latch_after (size_of kind) (news v.seen)).waiters.next =
      next ∙ ap (λ (z : Latch). z.waiters.next) (sym seen) in (
        ap (λ (z : Latch). nat_lt 0 z.count) seen
            ∙ some-left o.count (λ none. no-true shut (funded.rests.whole none)),
        record {
          number = number;
          goes = record {
            done = subst (λ n. store_latch.history y ≡ of_latch (news v.seen
                ++ latch_entries (latch_after (size_of kind) (news v.seen)).waiters.line (joins n))) number
                (done-by 0 kind (joins k) entries _ room waiting held funded c refl);
            funded = funded-by kind entries _ room (room - 1) waiting (waiting + 1) held held funded c
                funded.rests.whole (λ now. absurd (no-true shut now)) (omega (arith, some))
                (λ j there. drawn j (has_append j v.facts.waits (k ∷ []) there)) (count ∙ funded.count)
                (line ∙ (ap (λ n. n + 1) funded.line ∙ sym (length_push o.waiters.line _)))
                (omega (arith, line, some, funded.few_wait));
          };
          has = (refl, has);
          keeps = λ round wait had. (
            had.0,
            keeps-by entries _ c wait had.1 (has_left wait.index v.facts.waits (k ∷ []) had.1.open_yet),
          );
        },
      )
    where
      drawn : (j : ℕ) → Has j v.facts.waits ⊎ Has j (place.index ∷ []) → j < o.waiters.next + 1
      drawn j (inl there) = let under = funded.rests.drawn j there in omega (arith, under)
      drawn j (inr (inl same)) = omega (arith, same, next)
      drawn j (inr (inr none)) = absurd none

  -- The end of a wait.
  module _ (place : Place) where
    abbrev k : ℕ
    k = place.index

    -- the wait stands in the line, or doesn't, as a floor sees it
    line-reads : (round : ℕ) (kind : Option Kind) (room waiting : ℕ) (held : List (List ℕ))
        → IsFunded x kind room waiting held → (b : _) → is_in_line k o.waiters.line ≡ b
        → is_in_line k (stands_in store_latch kind x round).line ≡ b
    line-reads round kind room waiting held funded b is =
        ap (λ (z : Latch). is_in_line k z.waiters.line) (seen-funded x kind room waiting held funded) ∙ is

    keeps-others : (entries : List LatchEntry) → Comes v w entries (without k v.facts.waits) → (round : ℕ)
        → round ≡ 0 → (r : ℕ) (other : Place) → (r ≡ round → other.index ≢ k)
        → (r ≡ 0) × WaitsAt v other → (r ≡ 0) × WaitsAt w other
    keeps-others entries c round first r other differs has = (
      has.0,
      keeps-by entries _ c other has.1
          (without_has other.index k v.facts.waits (differs (has.0 ∙ sym first)) has.1.open_yet),
    )

    pub latch-pends : (job round : ℕ) → Comes v w (entry.LookPending 0 k ∷ []) v.facts.waits
        → StandsIn k 0 o.waiters.line → y.count ≡ x.count → y.line ≡ x.line
        → Polls store_latch job x round place looked.Pending y
    latch-pends job round c stands count line kind room waiting held funded some there = (
      line-reads round kind room waiting held funded true (waits-found k 0 o.waiters.line stands),
      record {
        same = ap of_latch (ap news c.seen ∙ filter-append is_news v.seen (entry.LookPending 0 k ∷ [])
            ∙ append-nil (news v.seen));
        funded = funded-by kind (entry.LookPending 0 k ∷ []) _ room room waiting waiting held held funded c
            funded.rests.whole funded.rests.none (omega arith) funded.rests.drawn (count ∙ funded.count)
            (line ∙ funded.line) (omega (arith, line, funded.few_wait));
        keeps = λ r wait has. (has.0, keeps-by (entry.LookPending 0 k ∷ []) _ c wait has.1 has.1.open_yet);
      },
    )

    -- an end by which only the wait closes
    closed : (kind : Option Kind) (e : LatchEntry) (room waiting : ℕ) (held : List (List ℕ))
        → IsFunded x kind room waiting held → Comes v w (e ∷ []) (without k v.facts.waits)
        → (after_entry o e).count ≡ o.count → (after_entry o e).opened ≡ o.opened
        → (after_entry o e).waiters.line ≡ o.waiters.line → (after_entry o e).waiters.next ≡ o.waiters.next
        → y.count ≡ x.count → y.line ≡ x.line → IsFunded y kind room (waiting - 1) held
    closed kind e room waiting held funded c same_count same_open same_line same_next count line =
        funded-by kind (e ∷ []) _ room room waiting (waiting - 1) held held funded c
        (λ none. same_open ∙ funded.rests.whole (sym same_count ∙ none))
        (λ now. same_line ∙ funded.rests.none (sym same_open ∙ now)) (omega (arith, same_next))
        (λ j has. let under = funded.rests.drawn j (has_without j k v.facts.waits has).1 in
        omega (arith, under, same_next))
        (count ∙ (funded.count ∙ sym same_count))
        (line ∙ (funded.line ∙ ap (λ (l : List Waiting). length l) (sym same_line)))
        (omega (arith, line, funded.few_wait))

    pub latch-comes-through : (job round : ℕ) → round ≡ 0
        → Comes v w (entry.LookGranted 0 k ∷ []) (without k v.facts.waits)
        → is_in_line k o.waiters.line ≡ false → y.count ≡ x.count → y.line ≡ x.line
        → Polls store_latch job x round place looked.Through y
    latch-comes-through job round first c gone count line kind room waiting held funded some there = record {
      holds_nothing = holds-nothing kind funded.sort;
      came = refl;
      ends = record {
        found = line-reads round kind room waiting held funded false gone;
        goes = record {
          done = done-by round kind (gets k 0) (entry.LookGranted 0 k ∷ []) _ room waiting held funded c refl;
          funded = closed kind (entry.LookGranted 0 k) room waiting held funded c refl refl refl refl count line;
        };
        keeps = keeps-others (entry.LookGranted 0 k ∷ []) c round first;
      };
    }

    pub latch-late : (job round : ℕ) → round ≡ 0 → Comes v w (entry.Late 0 k ∷ []) (without k v.facts.waits)
        → is_in_line k o.waiters.line ≡ false → y.count ≡ x.count → y.line ≡ x.line
        → Cancels store_latch job x round place left.Through y
    latch-late job round first c gone count line kind room waiting held funded some there = record {
      holds_nothing = holds-nothing kind funded.sort;
      came = refl;
      ends = record {
        found = line-reads round kind room waiting held funded false gone;
        goes = record {
          done = done-by round kind (is_late k 0) (entry.Late 0 k ∷ []) _ room waiting held funded c refl;
          funded = closed kind (entry.Late 0 k) room waiting held funded c refl refl refl refl count line;
        };
        keeps = keeps-others (entry.Late 0 k ∷ []) c round first;
      };
    }

    pub latch-leaves : (job round : ℕ) → round ≡ 0 → Comes v w (entry.Leave 0 k ∷ []) (without k v.facts.waits)
        → StandsIn k 0 o.waiters.line → y.count ≡ x.count → y.line ≡ x.line - 1
        → Cancels store_latch job x round place left.Gone y
    latch-leaves job round first c stands count line kind room waiting held funded some there =
        let shorter : length (keyed.without (λ (q : Waiting). q.wait) k o.waiters.line) + 1 ≡ length o.waiters.line
        = length-without (λ (q : Waiting). q.wait) k (record { wait = k; pass = 0 }) o.waiters.line refl stands in
        record {
          found = line-reads round kind room waiting held funded true (waits-found k 0 o.waiters.line stands);
          goes = record {
            done = done-by round kind (leaves k) (entry.Leave 0 k ∷ []) _ room waiting held funded c refl;
            funded = funded-by kind (entry.Leave 0 k ∷ []) _ room room waiting (waiting - 1) held held funded c
                funded.rests.whole
                (λ now. ap (keyed.without (λ (q : Waiting). q.wait) k) (funded.rests.none now))
                (omega arith) (λ j has. funded.rests.drawn j (has_without j k v.facts.waits has).1)
                (count ∙ funded.count) (omega (arith, line, shorter, funded.line))
                (omega (arith, line, funded.few_wait));
          };
          keeps = keeps-others (entry.Leave 0 k ∷ []) c round first;
        }

-- how it stands
pub latch-tells : (x : LatchSole) (kind : Kind) → Tells store_latch kind x (end.Latch x.count x.line) x
latch-tells x kind room waiting held funded =
    let o = plain_after (pass_view x.pass) in (
      ap (λ n. end.Latch n x.line) funded.count ∙ ap (λ n. end.Latch o.count n) funded.line
          ∙ ap (λ (z : Latch). end.Latch z.count (length z.waiters.line))
          (sym (seen-funded x (Some kind) room waiting held funded)),
      record { same = refl; funded = funded; keeps = λ round wait has. has },
    )

-- as it is made
pub latch-opened : (x : LatchSole) (count room : ℕ) → room ≤ 524288 → 0 < count
    → limit_of x.latch.queue ≡ room + 1 → IsMine x.latch x.pass → mode_of (client_of x.latch.queue) ≡ Smart
    → count_of (client_of x.latch.queue) ≡ count
    → (pass_view x.pass).number ≡ 0 → (pass_view x.pass).seen ≡ [] → (pass_view x.pass).alone ≡ true
    → Rests [] (pass_view x.pass) → x.count ≡ count → x.line ≡ 0
    → IsOpened store_latch (kind.Latch count) room x
latch-opened x count room few some is mine mode counted first nothing alone rests own line =
    let v = pass_view x.pass in
    let size_is : v.opening.size ≡ count = ap (λ (z : Opening). z.size) mine.opening ∙ counted in
    let smart : v.opening.mode ≡ Smart = ap (λ (z : Opening). z.mode) mine.opening ∙ mode in
    let limit : v.limit ≡ room + 1 = mine.limit ∙ is in
    let plain_is : plain_after v ≡ opening false count =
    ap (object_after (is_simple v.opening.mode) v.opening.size) nothing
    ∙ (λ i. opening (is_simple (smart i)) (size_is i)) in
    let next : (plain_after v).waiters.next ≡ 0 = ap (λ (z : Latch). z.waiters.next) plain_is in
    record {
      fresh = ap (λ es. of_latch (news es)) nothing;
      funded = λ jobs. record {
        sort = tt;
        mine = mine;
        mode = mode;
        rests = record {
          size_is = size_is;
          smart = smart;
          number = first;
          alone = alone;
          ready = rests.ready;
          whole = λ none. absurd (omega (arith, some, none, ap (λ (z : Latch). z.count) plain_is));
          none = λ now. ap (λ (z : Latch). z.waiters.line) plain_is;
          below = omega (arith, limit, next);
          drawn = λ k has. absurd (subst (Has k) rests.waits_are has);
        };
        count = own ∙ sym (ap (λ (z : Latch). z.count) plain_is);
        line = line ∙ sym (ap (λ (z : Latch). length z.waiters.line) plain_is);
        few_wait = omega (arith, line, few);
      };
    }

-- a wait that was served stands in the line no more
pub latch-past : (x : LatchSole) (kind : Option Kind) (room waiting : ℕ) (held : List (List ℕ))
    → IsFunded x kind room waiting held → (k c : ℕ) → IsServed k c (plain_after (pass_view x.pass)).waiters.served
    → is_in_line k (plain_after (pass_view x.pass)).waiters.line ≡ false
latch-past x kind room waiting held funded k c served =
    alone-past (pass_view x.pass) (funded.mine.alone x.pass.live.0 funded.rests.alone) funded.rests.ready.idle k c
    served
