-- How the passes of a crew come together in one.
use Rattle.std.proofs.Common.{◌≡◌, ◌≢◌, inl, inr, ℕ, zero, suc, ◌+◌, ◌<◌, List, [], ◌∷◌, ◌++◌, Some, length, slice_get, sym, refl, ap, ◌∙◌, subst, append_assoc, arith, length-append}
use Rattle.std.proofs.lemmas.List.{append-nil, length_push}
use Rattle.std.proofs.lemmas.List.Elements.{All-nil, All-push, filter-append}
use Rattle.std.proofs.lemmas.List.Sums.{fold-append}
use Rattle.std.proofs.lemmas.Option.{same_Some}
use mathlib.Core.Logic.{dite}
use native.Mathlib.Decide.{ℕ_discrete}
use Rattle.cqs_core.proofs.Places.{get-append_below, get-below, get-push_at}
use Rattle.cqs_core.specs.declared.entries.Entry.{Entry}
use Rattle.cqs_core.specs.SemaphoreNames.{entry_names}
use Rattle.cqs_rule_laws.specs.declared.view.View.{View}
use Rattle.cqs_semaphore.specs.Calls.{Course}
use Rattle.cqs_semaphore_client.specs.SemaphoreHistories.{IsLawful}
use Rattle.cqs_semaphore_client.specs.Semaphore.{semaphore_object}
use Rattle.cqs_rule_laws.proofs.Courses.{course-then}
use Rattle.cqs_rule_laws.proofs.Lists.{has_right}
use Rattle.cqs_rule_laws.specs.declared.client.ClientWords.{Ghosts}
use Rattle.cqs_rule_laws.specs.Lists.{Has, part}
use Rattle.cqs_rule.specs.declared.queue.Pass.{Pass}
use Rattle.cqs_rule.specs.Passes.{pass_view}
use Rattle.cqs_semaphore_client.specs.declared.semaphore.SemClient.{SemClient}
use Rattle.cqs_semaphore_crew.specs.declared.counts.Counts.{Counts}
use Rattle.cqs_semaphore_crew.specs.Sums.{both_counts, no_counts, CountsRounds}
use Rattle.cqs_semaphore_crew.specs.Tallies.{HasWorked, TellsBut, tally_of}
use Rattle.cqs_semaphore_crew.specs.Workers.{HasMetAll, HasTakenIn, HasCounted, HasToldAll, IsNew}

-- what stands in a list is in it
has-at : (l : List ℕ) (i n : ℕ) → slice_get l i ≡ Some n → Has n l
has-at [] i n e = absurd (cc)
has-at (x ∷ l) zero n e = inl (same_Some n x (sym e))
has-at (x ∷ l) (suc i) n e = inr (has-at l i n e)

module _ {T : Type 0} where
  -- no call
  pub course-none : (v : View Entry T) → IsLawful v.opening.sync v.opening.size v.seen → Course v [] v
  course-none v legal = record {
    number = refl;
    more = [];
    seen = sym (append-nil v.seen);
    mine = λ n h. refl;
    kept = λ n h. h;
    opening = refl;
    legal = legal;
  }

  -- none yet
  pub met-none : (v w : View Entry T) → Course v [] w → w.own ≡ v.own → HasMetAll v 0 w
  met-none v w course same =
      record { course = course; numbers = []; own_is = same ∙ sym (append-nil v.own); many_are = refl }

  -- one that no other was met into
  pub met-one : (v w : View Entry T) (own : List ℕ) → Course v [] w → w.own ≡ v.own ++ own → length own ≡ 1
      → HasMetAll v 1 w
  met-one v w own course is one = record { course = course; numbers = own; own_is = is; many_are = one }

  -- some, and then some more
  pub met-then : (a b : ℕ) (v u w : View Entry T) → HasMetAll v a u → HasMetAll u b w → HasMetAll v (a + b) w
  met-then a b v u w m n = record {
    course = course-then semaphore_object v u w [] [] m.course n.course;
    numbers = m.numbers ++ n.numbers;
    own_is = n.own_is ∙ (ap (λ l. l ++ n.numbers) m.own_is ∙ append_assoc v.own m.numbers n.numbers);
    many_are = let first = m.many_are in let more = n.many_are in omega (arith, length-append m.numbers n.numbers);
  }

  -- the counts of nobody
  pub counted-none : (rounds : ℕ) (v : View Entry T) (counts : Counts) → counts ≡ no_counts
      → HasCounted rounds v v counts
  counted-none rounds v counts is = record {
    numbers = [];
    own_is = sym (append-nil v.own);
    each = [];
    many = refl;
    tells = λ i n c got. absurd (cc);
    made = All-nil (CountsRounds rounds);
    sum = is;
  }

  -- of one pass more
  pub counted-more : {g : Ghosts (SemClient T) T Entry} (rounds : ℕ) (v u w : View Entry T)
      (given : Pass (SemClient T) T Entry g) (counts more : Counts) → HasCounted rounds v u counts
      → HasTakenIn u (pass_view given) w → HasToldAll given more → CountsRounds rounds more
      → HasCounted rounds v w (both_counts counts more)
  counted-more rounds v u w given counts more was taken told done = record {
    numbers = was.numbers ++ k ∷ [];
    own_is = taken.own_is ∙ ((λ i. was.own_is i ++ told.own i) ∙ append_assoc v.own was.numbers (k ∷ []));
    each = was.each ++ more ∷ [];
    many = length_push was.each more ∙ (ap (λ n. n + 1) was.many ∙ sym (length_push was.numbers k));
    tells = λ i n c got here. dite (ℕ_discrete i (length was.numbers))
        (λ (e : i ≡ length was.numbers).
        let e' : i ≡ length was.each = e ∙ sym was.many in
        let one : n ≡ k = same_Some n k (sym got ∙ get-push_at was.numbers k i e) in
        let two : c ≡ more = same_Some c more (sym here ∙ get-push_at was.each more i e') in
        let theirs : part entry_names k w.seen ≡ part entry_names k (pass_view given).seen =
        taken.theirs k (subst (Has k) (sym told.own) (inl refl)) in
        rw (one, two) (subst (λ l. TellsBut 0 (tally_of l) more) (sym theirs) told.tells))
        (λ (other : i ≢ length was.numbers).
        let high = get-below (was.numbers ++ k ∷ []) i n got in
        let low : i < length was.numbers = omega (arith, length_push was.numbers k) in
        let low' : i < length was.each = omega (arith, was.many) in
        let got' : slice_get was.numbers i ≡ Some n = sym (get-append_below was.numbers (k ∷ []) i low) ∙ got in
        let here' : slice_get was.each i ≡ Some c = sym (get-append_below was.each (more ∷ []) i low') ∙ here in
        let mine : part entry_names n w.seen ≡ part entry_names n u.seen =
        taken.mine n (subst (Has n) (sym was.own_is) (has_right n v.own was.numbers (has-at was.numbers i n got'))) in
        subst (λ l. TellsBut 0 (tally_of l) c) (sym mine) (was.tells i n c got' here'));
    made = All-push (CountsRounds rounds) was.each more was.made done;
    sum = ap (λ c. both_counts c more) was.sum ∙ sym (fold-append both_counts no_counts was.each (more ∷ []));
  }
    where
      k : ℕ
      k = (pass_view given).number

  -- a pass that made others before has as many numbers as before
  pub counted-from : (rounds : ℕ) (v u w : View Entry T) (counts : Counts) → u.own ≡ v.own
      → HasCounted rounds u w counts → HasCounted rounds v w counts
  counted-from rounds v u w counts same was = record {
    numbers = was.numbers;
    own_is = was.own_is ∙ ap (λ l. l ++ was.numbers) same;
    each = was.each;
    many = was.many;
    tells = was.tells;
    made = was.made;
    sum = was.sum;
  }

  -- what a worker counted is of all entries that name its pass, where none did before
  pub told-all : {g : Ghosts (SemClient T) T Entry} (p q : Pass (SemClient T) T Entry g) (counts : Counts) → IsNew p
      → HasWorked (pass_view p) (pass_view q) counts → HasToldAll q counts
  told-all p q counts new worked = record {
    own = worked.same.own ∙ (new.own ∙ ap (λ n. n ∷ []) (sym worked.same.number));
    tells = subst (λ l. TellsBut 0 (tally_of l) counts) (sym all) worked.tells;
  }
    where
      v : View Entry T
      v = pass_view p

      all : part entry_names (pass_view q).number (pass_view q).seen ≡ worked.own
      all = ap (λ n. part entry_names n (pass_view q).seen) worked.same.number
          ∙ (ap (part entry_names v.number) worked.course.seen
          ∙ (filter-append (entry_names v.number) v.seen worked.course.more
          ∙ (ap (λ l. l ++ part entry_names v.number worked.course.more) new.unnamed
          ∙ (worked.course.mine v.number (subst (Has v.number) (sym new.own) (inl refl)) ∙ worked.named))))
