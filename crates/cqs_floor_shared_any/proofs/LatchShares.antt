-- A latch that workers share is a resource as a floor needs it: each call by what it left of the pass.
use Rattle.std.proofs.Common.{◌≡◌, ◌≢◌, ◌⊎◌, inl, inr, ℕ, ◌+◌, ◌≤◌, false, List, [], ◌∷◌, ◌++◌, drop, length, sum_by, count_by, Option, Some, None, Ok, Err, refl, ap, sym, ◌∙◌, subst, arith}
use Rattle.std.specs.Arc.{arc_value}
use Rattle.std.proofs.lemmas.Bool.{cases_eq, false≢true}
use Rattle.std.proofs.lemmas.List.{length_push}
use Rattle.std.proofs.lemmas.List.Sums.{sum_by-cons}
use Rattle.cqs_core.specs.Numbered.{IsIn}
use Rattle.cqs_core.specs.Parts.{Has, part}
use Rattle.cqs_latch_object.specs.declared.entries.LatchEntry.{LatchEntry}
use Rattle.cqs_latch_object.specs.declared.entries.LatchEntry.TheVariants as entry
use Rattle.cqs_latch_object.specs.LatchEntries.{IsLegal}
use Rattle.cqs_latch_object.specs.LatchNames.{entry_names}
use Rattle.cqs_latch_object.specs.LatchObject.{opening}
use Rattle.cqs_plan.specs.declared.floors.answers.FloorDown.{FloorDown}
use Rattle.cqs_plan.specs.declared.floors.answers.FloorDown.TheVariants as down
use Rattle.cqs_plan.specs.declared.floors.answers.FloorTake.TheVariants as take
use Rattle.cqs_plan.specs.declared.floors.answers.FloorLook.TheVariants as look
use Rattle.cqs_plan.specs.declared.floors.answers.FloorLeave.TheVariants as leave
use Rattle.cqs_plan.specs.Floor.{IsLatch, size_of}
use Rattle.cqs_plan.specs.FloorHistory.{of_latch}
use Rattle.cqs_latch.specs.declared.answers.Down.{Down}
use Rattle.cqs_latch.specs.declared.answers.Down.TheVariants as counted
use Rattle.cqs_latch.specs.declared.answers.LatchLeft.TheVariants as left
use Rattle.cqs_latch.specs.declared.answers.LatchPolled.TheVariants as polled
use Rattle.cqs_latch.specs.declared.answers.LatchWait.TheVariants as waited
use Rattle.cqs_latch.specs.declared.answers.Owed.{Owed}
use Rattle.cqs_latch.specs.Answers.{HasWaited, IsPolled}
use Rattle.cqs_latch.specs.Calls.{CallRule, CallRuleEnding, IsMine, Rests}
use Rattle.cqs_latch.specs.CountAnswers.{HasCounted}
use Rattle.cqs_latch.specs.Entries.{counted_entries, polled_entries}
use Rattle.cqs_latch.specs.Latch.{is_simple, latch_object}
use Rattle.cqs_latch.specs.LeftAnswers.{HasLeft}
use Rattle.cqs_latch.specs.Waking.{woken_entries}
use Rattle.cqs_rule_laws.specs.declared.config.AcquireError.TheVariants as error
use Rattle.cqs_rule_laws.specs.declared.config.CancelMode.{CancelMode}
use Rattle.cqs_rule_laws.specs.declared.config.CancelMode.TheVariants.{Smart}
use Rattle.cqs_rule_laws.specs.declared.config.Place.{Place}
use Rattle.cqs_rule.specs.declared.queue.tokens.Wait.{Wait}
use Rattle.cqs_rule_laws.specs.declared.view.Opening.{Opening}
use Rattle.cqs_rule_laws.specs.declared.view.View.{View}
use Rattle.cqs_rule_laws.specs.Lists.{IsDistinct, without}
use Rattle.cqs_rule.specs.Passes.{pass_view}
use Rattle.cqs_rule.specs.Waits.{place_of}
use Rattle.cqs_rule_laws.proofs.Lists.{has_left, without_has}
use Rattle.cqs_floor_shared.specs.AnswerEntries.{latch_counted, latch_waited}
use Rattle.cqs_floor_shared.specs.Entries.{at_latch, enters_at_latch}
use Rattle.cqs_floor_shared_any.specs.declared.kinds.latch.SharedLatch.{SharedLatch}
use Rattle.cqs_floor_shared_kinds.specs.declared.resource.Came.TheVariants as came
use Rattle.cqs_floor_shared_kinds.specs.Accounts.{over}
use Rattle.cqs_floor_shared_any.specs.LatchAccounts.{EndsWait, IsAccounted, IsOver, downs}
use Rattle.cqs_floor_shared_any.specs.LatchShares.{IsFunded, share_latch}
use Rattle.cqs_floor_shared_kinds.specs.Runs.{Stays, Went}
use Rattle.cqs_floor_shared_kinds.specs.Shares.{Funds, KeepsAll, KeepsOthers, Sees, with_wait}
use Rattle.cqs_floor_shared_kinds.specs.ShareCalls.{Counts, Leaves, Looks, Waits}
use Rattle.cqs_floor_shared_kinds.proofs.Accounts.{over-next}
use Rattle.cqs_floor_shared_kinds.proofs.Elements.{no-element}
use Rattle.cqs_floor_shared_kinds.proofs.Families.{name-same}
use Rattle.cqs_floor_shared_any.proofs.LatchAccounts.{account-next, counts-fit, in-back, in-whole}
use Rattle.cqs_floor_shared_any.proofs.LatchWaits.{drawn-more, next-drawn}
use Rattle.cqs_floor_shared_kinds.proofs.Runs.{last-in, none-more, not-before, some-number, waits-next, waits-token, went-then}
use Rattle.cqs_floor_shared_any.proofs.LatchCalls.{gone-rests, owing-waits, went-ending}
use Rattle.cqs_floor_shared_any.proofs.LatchAnswers.{brought-is, come-is, drawn-is, history-of, leave-is, look-is, none-enter, parties-is, turned-is, which-enter}

module _ (x y : SharedLatch) (same_one : y.latch ≡ x.latch) (mine : IsMine (arc_value x.latch) y.pass) where
  abbrev v : View LatchEntry (Unit {0})
  v = pass_view x.pass

  abbrev w : View LatchEntry (Unit {0})
  w = pass_view y.pass

  pub legal-then : (a : Funds) (entries : List LatchEntry) → IsFunded x a → Went latch_object v entries w
      → IsLegal false (size_of (Some a.kind)) w.seen
  legal-then a entries funded went =
      subst (λ n. IsLegal false n w.seen) (ap (λ (o : Opening). o.size) went.same.opening ∙ funded.rests.size_is)
      (subst (λ m. IsLegal (is_simple m) w.opening.size w.seen)
      (ap (λ (o : Opening). o.mode) went.same.opening ∙ funded.rests.smart) went.legal)

  -- what the pass has seen more
  pub latch-sees : (a : Funds) (entries : List LatchEntry) → IsFunded x a → Went latch_object v entries w
      → Sees share_latch a.kind x (at_latch entries) y
  latch-sees a entries funded went = record {
    more = at_latch went.more;
    words = tt;
    seen = ap of_latch went.seen;
    mine = ap at_latch went.mine;
    others = λ n has. ap at_latch (went.others n has);
    unnamed = λ n many.
        ap at_latch (none-more entry_names n v.seen went.more
        (ap (part entry_names n) (sym went.seen)
        ∙ mine.live.unnamed n (subst (λ p. p ≤ n) (sym went.same.passes) many)));
    legal = history-of a.kind w.seen funded.sort (legal-then a entries funded went);
    same = record {
      number = went.same.number;
      met = ap (λ (own : List ℕ). drop 1 own) went.same.own;
      passes = went.same.passes;
      limit = went.same.limit;
      family = ap (λ name. name ∷ []) (name-same x.pass y.pass (mine.table ∙ sym funded.mine.table)
          went.same.passes went.same.limit went.same.cells went.same.opening);
    };
  }

  -- an own entry of the call is in what the pass has seen
  own-seen : (entries : List LatchEntry) → Went latch_object v entries w → (e : LatchEntry) → IsIn e entries
      → IsIn e w.seen
  own-seen entries went e is =
      subst (IsIn e) (sym went.seen)
      (in-back e v.seen went.more (in-whole (entry_names v.number) e went.more (subst (IsIn e) (sym went.mine) is)))

  -- what the jobs have then
  pub latch-has : (a b : Funds) (entries : List LatchEntry) (waits : List ℕ) → IsFunded x a
      → Went latch_object v entries w → Rests waits w → b.kind ≡ a.kind → b.came ≡ 0 → length waits ≡ b.waiting
      → x.downs + sum_by downs entries ≡ y.downs
      → ((k : ℕ) → Has k v.facts.waits → Has k waits ⊎ IsOver k w.seen)
      → ((c k : ℕ) → IsIn (entry.Enter c k) entries → Has k waits ⊎ IsOver k w.seen) → IsFunded y b
  latch-has a b entries waits funded went rests same_kind none_came waits_are balance old new =
      let r = funded.rests in
      let before : IsAccounted (v.number ∷ drop 1 v.own) v.facts.waits v.seen x.downs
      = subst (λ own. IsAccounted own v.facts.waits v.seen x.downs) r.numbers r.account in
      let after : IsAccounted (v.number ∷ drop 1 v.own) waits (v.seen ++ went.more) y.downs
      = account-next v.number (drop 1 v.own) v.facts.waits waits v.seen went.more entries x.downs y.downs went.mine
      went.others balance (λ k has. subst (λ h. Has k waits ⊎ IsOver k h) went.seen (old k has))
      (λ c k is. subst (λ h. Has k waits ⊎ IsOver k h) went.seen (new c k is)) before in
      record {
        sort = subst (λ k. IsLatch (Some k)) (sym same_kind) funded.sort;
        few = subst (λ k. size_of (Some k) ≤ 1048576) (sym same_kind) funded.few;
        none_came = none_came;
        mine = subst (λ s. IsMine (arc_value s) y.pass) (sym same_one) mine;
        rests = record {
          size_is = ap (λ (o : Opening). o.size) went.same.opening ∙ r.size_is
              ∙ ap (λ k. size_of (Some k)) (sym same_kind);
          smart = ap (λ (o : Opening). o.mode) went.same.opening ∙ r.smart;
          ready = rests.ready;
          numbers = went.same.own ∙ r.numbers
              ∙ ap (λ n. n ∷ drop 1 v.own) (sym went.same.number)
              ∙ ap (λ (own : List ℕ). w.number ∷ drop 1 own) (sym went.same.own);
          distinct = subst IsDistinct (sym went.same.own) r.distinct;
          waits_are = ap (λ (l : List ℕ). length l) rests.waits_are ∙ waits_are;
          account = subst (λ ws. IsAccounted w.own ws w.seen y.downs) (sym rests.waits_are)
              (subst (λ own. IsAccounted own waits w.seen y.downs) (sym r.numbers ∙ sym went.same.own)
              (subst (λ h. IsAccounted (v.number ∷ drop 1 v.own) waits h y.downs) (sym went.seen) after));
        };
      }

  -- the waits that the pass has on
  pub keeps-all : Stays v w → (waits : List ℕ) → Rests waits w → ((k : ℕ) → Has k v.facts.waits → Has k waits)
      → KeepsAll share_latch x y
  keeps-all same waits rests on round wait has = (
    has.0,
    waits-next v w wait same.goes has.1 (subst (Has wait.index) (sym rests.waits_are)
        (on wait.index has.1.open_yet)),
  )

  keeps-others : Stays v w → (k : ℕ) → Rests (without k v.facts.waits) w → KeepsOthers share_latch x 0 k y
  keeps-others same k rests round wait other has = (
    has.0,
    waits-next v w wait same.goes has.1 (subst (Has wait.index) (sym rests.waits_are)
        (without_has wait.index k v.facts.waits (other has.0) has.1.open_yet)),
  )

  -- a call of the latch
  called : (a : Funds) (own further last : List LatchEntry) → IsFunded x a → CallRuleEnding v own further last w
      → Went latch_object v own w
  called a own further last funded rule =
      went-ending v w own further last funded.rests.numbers funded.rests.distinct rule

  -- a wait that is closed is over, by an entry in what the pass has seen
  closed : (k : ℕ) (e : LatchEntry) → IsIn e w.seen → EndsWait k e → (j : ℕ) → Has j v.facts.waits
      → Has j (without k v.facts.waits) ⊎ IsOver j w.seen
  closed k e there ends j has = go (cases_eq j k)
    where
      go : (j ≡ k) ⊎ (j ≢ k) → Has j (without k v.facts.waits) ⊎ IsOver j w.seen
      go (inl same) = inr (record { by = e; there = there; ends = subst (λ n. EndsWait n e) (sym same) ends })
      go (inr other) = inl (without_has j k v.facts.waits other has)

  -- A count down.
  counts-by : (answer : FloorDown)
      → ((a : Funds) → IsFunded x a → Went latch_object v (latch_counted v.number answer) w)
      → Rests v.facts.waits w → x.downs + sum_by downs (latch_counted v.number answer) ≡ y.downs
      → count_by enters_at_latch (latch_counted v.number answer) ≡ 0 → Counts share_latch x answer y
  counts-by answer goes rests balance none a funded latch =
      let went = goes a funded in
      record {
        sees = latch-sees a _ funded went;
        funded = latch-has a a _ v.facts.waits funded went rests refl funded.none_came funded.rests.waits_are balance
            (λ k has. inl has) (λ c k is. absurd (none-enter _ none c k is));
        parties_are = refl;
        keeps = keeps-all went.same v.facts.waits rests (λ k has. has);
      }

  pub counts-left : (n : ℕ) → HasCounted v (counted.Left n) w → y.downs ≡ x.downs + 1
      → Counts share_latch x (down.Left n) y
  counts-left n told more =
      counts-by (down.Left n) (λ a funded. called a (entry.DownLeft v.number n ∷ []) _ _ funded told.1) told.2.3
      (omega (arith, more)) refl

  pub counts-last : HasCounted v counted.Last w → y.downs ≡ x.downs + 1 → Counts share_latch x down.Last y
  counts-last told more =
      counts-by down.Last
      (λ a funded. called a (entry.DownLast v.number ∷ entry.Open v.number ∷ []) _ _ funded told.1)
      told.2.3 (omega (arith, more)) refl

  -- the last one, of which resumptions were owed, and finished then
  pub counts-owing : (owed : Owed) (u : View LatchEntry (Unit {0})) → HasCounted v (counted.LastOwing owed) u
      → Went latch_object u [] w → Rests u.facts.waits w → y.downs ≡ x.downs + 1 → Counts share_latch x down.Last y
  counts-owing owed u told after rests more =
      counts-by down.Last
      (λ a funded. went-then latch_object v u w (entry.DownLast v.number ∷ entry.Open v.number ∷ []) []
      (went-ending v u (entry.DownLast v.number ∷ entry.Open v.number ∷ []) _ _ funded.rests.numbers
      funded.rests.distinct told.1) after)
      (record { ready = rests.ready; waits_are = rests.waits_are ∙ told.2.5.waits_are }) (omega (arith, more)) refl

  pub counts-already : HasCounted v counted.Already w → y.downs ≡ x.downs → Counts share_latch x down.Already y
  counts-already told same =
      counts-by down.Already (λ a funded. called a (entry.DownAlready v.number ∷ []) _ _ funded told.1) told.2.2
      (omega (arith, same)) refl

  -- so often it was counted down by then, which is no more than it opened with
  pub counts-few : (a : Funds) (entries : List LatchEntry) → IsFunded x a → Went latch_object v entries w
      → x.downs + sum_by downs entries ≤ 1048576
  counts-few a entries funded went =
      let r = funded.rests in
      let own : List ℕ = v.number ∷ drop 1 v.own in
      let had : over entry_names downs own v.seen ≡ x.downs
      = subst (λ o. over entry_names downs o v.seen ≡ x.downs) r.numbers r.account.counted_is in
      let next = over-next entry_names downs v.number (drop 1 v.own) v.seen went.more entries went.mine went.others in
      let all : over entry_names downs own w.seen ≡ x.downs + sum_by downs entries
      = ap (over entry_names downs own) went.seen ∙ next ∙ ap (λ n. n + sum_by downs entries) had in
      let fits = counts-fit (size_of (Some a.kind)) own w.seen (x.downs + sum_by downs entries)
      (legal-then a entries funded went) (subst IsDistinct r.numbers r.distinct) all in
      omega (arith, fits, funded.few)

  -- one more count fits
  pub counted-few : (a : Funds) (answer : Down) → IsFunded x a → HasCounted v answer w
      → sum_by downs (counted_entries v.number answer) ≡ 1 → x.downs + 1 ≤ 1048576
  counted-few a answer funded told one =
      let few = counts-few a (counted_entries v.number answer) funded
      (called a (counted_entries v.number answer) (woken_entries told.0) [] funded told.1) in
      omega (arith, few, one)

  -- A wait.
  waits-by : (job : ℕ) (drew : Option ℕ)
      → ((a : Funds) → IsFunded x a → Went latch_object v (latch_waited v.number drew) w)
      → Rests v.facts.waits w → x.downs + sum_by downs (latch_waited v.number drew) ≡ y.downs
      → ((c k : ℕ) → IsIn (entry.Enter c k) (latch_waited v.number drew) → IsOver k w.seen)
      → ((k : ℕ) → drew ≡ Some k → IsIn (entry.Deliver k) w.seen) → Waits share_latch job x (came.Now 0) y
  waits-by job drew goes rests balance over had a funded latch there =
      let went = goes a funded in
      record {
        drew = drew;
        sees = subst (λ es. Sees share_latch a.kind x es y)
            (sym (come-is a.kind 0 v.number (take.Now 0) drew funded.sort))
            (latch-sees a _ funded went);
        funded = latch-has a a _ v.facts.waits funded went rests refl funded.none_came funded.rests.waits_are balance
            (λ k has. inl has) (λ c k is. inr (over c k is));
        parties_are = refl;
        keeps = keeps-all went.same v.facts.waits rests (λ k has. has);
        delivered = λ k with_it is. absurd (false≢true with_it);
        may = tt;
        element = no-element a.kind;
        drawn = drawn-is a.kind (Some (take.Now 0)) drew funded.sort;
        had = λ k e is now. had k is;
        worn = λ none. absurd (cc);
      }

  pub waits-passed : (job : ℕ) → HasWaited v (Ok waited.Passed) w → y.downs ≡ x.downs
      → Waits share_latch job x (came.Now 0) y
  waits-passed job (None, rule, (was, rests)) same =
      waits-by job None (λ a funded. called a (entry.Passed v.number ∷ []) [] [] funded rule) rests
      (omega (arith, same))
      (λ c k is. absurd (none-enter (entry.Passed v.number ∷ []) refl c k is)) (λ k none. absurd (cc))
  waits-passed job (Some n, rule, (above, shut, cell, rests)) same =
      let came_in : IsIn (entry.Deliver n) w.seen
      = last-in w.seen rule.called.before (entry.Deliver n) rule.called.ends in
      waits-by job (Some n)
      (λ a funded. called a (entry.AwaitDoor v.number ∷ entry.Enter v.number n ∷ []) (entry.Deliver n ∷ [])
      (entry.Deliver n ∷ []) funded rule)
      rests (omega (arith, same))
      (λ c k is. record { by = entry.Deliver n; there = came_in; ends = which-enter v.number n c k is })
      (λ k is. subst (λ j. IsIn (entry.Deliver j) w.seen) (some-number n k is) came_in)

  pub waits-later : (job : ℕ) (wait : Wait) (place : Place) → place ≡ place_of wait
      → HasWaited v (Ok (waited.Later wait)) w → y.downs ≡ x.downs → Waits share_latch job x (came.Waits place) y
  waits-later job wait place is (drew, rule, (above, shut, cell, has, rests)) same =
      subst (λ at. Waits share_latch job x (came.Waits at) y) (sym is) (λ a funded latch there.
      let k = (place_of wait).index in
      let went = called a (entry.AwaitDoor v.number ∷ entry.Enter v.number k ∷ []) [] [] funded rule in (
        record {
          drew = None;
          sees = subst (λ es. Sees share_latch a.kind x es y)
              (sym (come-is a.kind 0 v.number (take.Waits k) None funded.sort))
              (latch-sees a _ funded went);
          funded = latch-has a (with_wait a) _ _ funded went rests refl funded.none_came
              (length_push v.facts.waits k ∙ ap (λ n. n + 1) funded.rests.waits_are) (omega (arith, same))
              (λ j has. inl (has_left j v.facts.waits (k ∷ []) has))
              (λ c j is. inl (last-has j (which-enter v.number k c j is)));
          parties_are = refl;
          keeps = keeps-all went.same _ rests (λ j has. has_left j v.facts.waits (k ∷ []) has);
          delivered = λ j with_it is. absurd (false≢true with_it);
          may = tt;
          element = tt;
          drawn = drawn-is a.kind (Some (take.Waits k)) None funded.sort;
          had = λ j e none. absurd (cc);
          worn = λ none. absurd (cc);
        },
        record {
          has = (refl, waits-token w wait has);
          fresh = λ u was same. not-before k v.facts.waits
              (subst (λ ws. length (without k ws) + 1 ≡ length ws) rests.waits_are
              (y.pass.inside.once k has.open_yet))
              (subst (λ n. Has n v.facts.waits) same was.1.open_yet);
        },
      ))
    where
      last-has : (j : ℕ) → (place_of wait).index ≡ j → Has j (v.facts.waits ++ (place_of wait).index ∷ [])
      last-has j same = at v.facts.waits
        where
          at : (ws : List ℕ) → Has j (ws ++ (place_of wait).index ∷ [])
          at [] = inl (sym same)
          at (m ∷ ws) = inr (at ws)

  -- it is turned away only where as many numbers were drawn as may be
  pub waits-worn : (job : ℕ) → HasWaited v (Err error.Worn) w → y.downs ≡ x.downs
      → Waits share_latch job x came.Worn y
  waits-worn job (drew, rule, (above, worn, rests)) same a funded latch there =
      let went = called a [] [] [] funded rule in
      record {
        drew = None;
        sees = subst (λ es. Sees share_latch a.kind x es y) (sym (turned-is a.kind 0 v.number funded.sort))
            (latch-sees a _ funded went);
        funded = latch-has a a _ v.facts.waits funded went rests refl funded.none_came funded.rests.waits_are
            (omega (arith, same)) (λ k has. inl has) (λ c k is. absurd (none-enter [] refl c k is));
        parties_are = refl;
        keeps = keeps-all went.same v.facts.waits rests (λ k has. has);
        delivered = λ k with_it is. absurd (false≢true with_it);
        may = tt;
        element = tt;
        drawn = drawn-is a.kind None None funded.sort;
        had = λ k e none. absurd (cc);
        worn = λ none.
            let rest = worn.found.seen.0 in
            let next = worn.found.next in
            let drawn = next-drawn worn.before (opening (is_simple w.opening.mode) w.opening.size) in
            let more = drawn-more worn.before rest in
            let limit = worn.worn in
            subst (λ h. v.limit ≤ count_by enters_at_latch h) (sym worn.found.seen.1)
            (omega (arith, limit, next, drawn, more));
      }

  -- The end of a wait, at a place of which there is a token.
  module _ (round : ℕ) (wait : Wait) (at : Place) (is : place_of wait ≡ at) (no_round : round ≡ 0)
      (there_yet : Has at.index v.facts.waits) (same_downs : y.downs ≡ x.downs) where
    abbrev k : ℕ
    k = (place_of wait).index

    has_yet : Has k v.facts.waits
    has_yet = subst (λ (p : Place). Has p.index v.facts.waits) (sym is) there_yet

    -- one wait less is in the pass
    fewer : (a : Funds) → IsFunded x (with_wait a) → length (without k v.facts.waits) ≡ a.waiting
    fewer a funded =
        let one = x.pass.inside.once k has_yet in omega (arith, one, funded.rests.waits_are)

    others-on : Stays v w → Rests (without k v.facts.waits) w → KeepsOthers share_latch x round k y
    others-on same rests = subst (λ r. KeepsOthers share_latch x r k y) (sym no_round) (keeps-others same k rests)

    pub looks-on : (job : ℕ) (again : Wait)
        → CallRule v (polled_entries v.number k (polled.Pending again)) [] w
        → IsPolled wait v (polled.Pending again) w → Looks share_latch job x round at look.Pending y
    looks-on job again rule told =
        subst (λ p. Looks share_latch job x round p look.Pending y) is (λ a funded there.
        let went = called (with_wait a) (entry.LookPending v.number k ∷ []) [] [] funded rule in
        record {
          sees = subst (λ es. Sees share_latch a.kind x es y)
              (sym (look-is a.kind round v.number k look.Pending funded.sort))
              (latch-sees (with_wait a) _ funded went);
          funded = latch-has (with_wait a) (with_wait a) _ v.facts.waits funded went told.3 refl funded.none_came
              funded.rests.waits_are (omega (arith, same_downs)) (λ j has. inl has)
              (λ c j is. absurd (none-enter (entry.LookPending v.number k ∷ []) refl c j is));
          parties_are = refl;
          keeps = keeps-all went.same v.facts.waits told.3 (λ j has. has);
        })

    -- what the jobs have after the wait was closed by this entry
    closed-by : (a : Funds) (e : LatchEntry) → IsFunded x (with_wait a) → Went latch_object v (e ∷ []) w
        → Rests (without k v.facts.waits) w → EndsWait k e → downs e ≡ 0
        → count_by enters_at_latch (e ∷ []) ≡ 0 → IsFunded y a
    closed-by a e funded went rests ends uncounted undrawn =
        latch-has (with_wait a) a (e ∷ []) (without k v.facts.waits) funded went rests refl funded.none_came
        (fewer a funded)
        (let sum = sum_by-cons downs e [] in omega (arith, sum, uncounted, same_downs))
        (closed k e (own-seen (e ∷ []) went e (record { place = 0; there = refl })) ends)
        (λ c j is. absurd (none-enter (e ∷ []) undrawn c j is))

    pub looks-through : (job : ℕ) → CallRule v (polled_entries v.number k polled.Through) [] w
        → IsPolled wait v polled.Through w → Looks share_latch job x round at (look.Granted 0) y
    looks-through job rule told =
        subst (λ p. Looks share_latch job x round p (look.Granted 0) y) is (λ a funded there.
        let went = called (with_wait a) (entry.LookGranted v.number k ∷ []) [] [] funded rule in
        record {
          sees = subst (λ es. Sees share_latch a.kind x es y)
              (sym (look-is a.kind round v.number k (look.Granted 0) funded.sort))
              (latch-sees (with_wait a) _ funded went);
          funded = subst (IsFunded y) (sym (brought-is a.kind a job 0 funded.sort))
              (closed-by a (entry.LookGranted v.number k) funded went told.1 refl refl refl);
          found = no-element a.kind;
          parties_are = refl;
          keeps = others-on went.same told.1;
        })

    -- a cancel that found the wait served
    pub leaves-late : (job : ℕ) → HasLeft Smart k v left.TooLate w
        → Leaves share_latch job x round at (leave.Late 0) y
    leaves-late job told =
        subst (λ p. Leaves share_latch job x round p (leave.Late 0) y) is (λ a funded there.
        let went = called (with_wait a) (entry.Late v.number k ∷ []) (woken_entries told.0) [] funded told.1 in
        let rests : Rests (without k v.facts.waits) w = told.2.2 in
        record {
          stays = false;
          sees = subst (λ es. Sees share_latch a.kind x es y)
              (sym (leave-is a.kind round v.number k (leave.Late 0) false funded.sort))
              (latch-sees (with_wait a) _ funded went);
          funded = subst (IsFunded y) (sym (brought-is a.kind a job 0 funded.sort))
              (closed-by a (entry.Late v.number k) funded went rests refl refl refl);
          found = no-element a.kind;
          parties_are = parties-is a.kind round (leave.Late 0) funded.sort;
          keeps = others-on went.same rests;
        })

    -- one after which nothing is owed any more
    leaves-gone : (job : ℕ)
        → ((a : Funds) → IsFunded x (with_wait a) → Went latch_object v (entry.Leave v.number k ∷ []) w)
        → Rests (without k v.facts.waits) w → Leaves share_latch job x round at leave.Gone y
    leaves-gone job goes rests =
        subst (λ p. Leaves share_latch job x round p leave.Gone y) is (λ a funded there.
        let went = goes a funded in
        record {
          stays = false;
          sees = subst (λ es. Sees share_latch a.kind x es y)
              (sym (leave-is a.kind round v.number k leave.Gone false funded.sort))
              (latch-sees (with_wait a) _ funded went);
          funded = closed-by a (entry.Leave v.number k) funded went rests refl refl refl;
          found = tt;
          parties_are = parties-is a.kind round leave.Gone funded.sort;
          keeps = others-on went.same rests;
        })

    pub leaves-clear : (job : ℕ) (mode : CancelMode) → HasLeft mode k v left.Gone w
        → Leaves share_latch job x round at leave.Gone y
    leaves-clear job mode told =
        leaves-gone job
        (λ a funded. called (with_wait a) (entry.Leave v.number k ∷ []) (woken_entries told.0) [] funded told.1)
        (gone-rests mode k v w told)

    -- one after which a resumption was owed, and finished then
    pub leaves-owing : (job : ℕ) (mode : CancelMode) (owed : Owed) (u : View LatchEntry (Unit {0}))
        → HasLeft mode k v (left.GoneOwing owed) u → Went latch_object u [] w → Rests u.facts.waits w
        → Leaves share_latch job x round at leave.Gone y
    leaves-owing job mode owed u told after rests =
        leaves-gone job
        (λ a funded. went-then latch_object v u w (entry.Leave v.number k ∷ []) []
        (went-ending v u (entry.Leave v.number k ∷ []) (woken_entries told.0) [] funded.rests.numbers
        funded.rests.distinct told.1) after)
        (record {
          ready = rests.ready;
          waits_are = rests.waits_are ∙ owing-waits mode k owed v u told;
        })
