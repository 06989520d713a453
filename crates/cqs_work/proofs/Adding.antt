-- What each call adds to the waits that jobs were told and to the takes of their pass.
use Rattle.std.proofs.Common.{◌≡◌, ◌≢◌, ◌⊎◌, inl, inr, ℕ, ◌+◌, ◌<◌, ◌==◌, Bool, true, false, List, [], ◌++◌, Option, Some, None, All, length, map, get_or, slice_get, refl, sym, ap, subst, ◌∙◌, arith, eq-eqb, ne_eqb}
use Rattle.std.proofs.lemmas.Bool.{cases_eq}
use Rattle.std.proofs.lemmas.List.{append-nil, map-append, length-set}
use Rattle.std.proofs.lemmas.List.Elements.{filter-append, filter_map-append, All-nil, All-cons}
use Rattle.cqs_core.specs.Parts.{part}
use Rattle.cqs_core.specs.SemaphoreNames.{entry_names as permit_names}
use Rattle.cqs_core.proofs.Places.{get-below}
use Rattle.cqs_plan.specs.declared.plans.kind.Kind.{Kind}
use Rattle.cqs_plan.specs.declared.plans.kind.Kind.TheVariants as kind
use Rattle.cqs_plan.specs.declared.floors.answers.FloorTake.{FloorTake}
use Rattle.cqs_plan.specs.declared.floors.answers.FloorTake.TheVariants.{Now, Waits}
use Rattle.cqs_plan.specs.declared.floors.answers.FloorLook.{FloorLook}
use Rattle.cqs_plan.specs.declared.floors.answers.FloorLook.TheVariants.{Pending, Granted}
use Rattle.cqs_plan.specs.declared.floors.answers.FloorLeave.{FloorLeave}
use Rattle.cqs_plan.specs.declared.floors.answers.FloorLeave.TheVariants.{Gone, Late}
use Rattle.cqs_plan.specs.declared.floors.answers.FloorDown.{FloorDown}
use Rattle.cqs_plan.specs.FloorHistory.{History, of_permits, of_elements, of_latch, of_rounds}
use Rattle.cqs_floor_shared.specs.declared.shared.SharedGive.{SharedGive}
use Rattle.cqs_floor_shared.specs.declared.shared.SharedGive.TheVariants as shared
use Rattle.cqs_floor_shared.specs.Entries.{Entries, AreOf, at_permits, at_elements, at_latch, in_round, with_entries, own_entries, own_history}
use Rattle.cqs_floor_shared.specs.AnswerEntries.{came_entries, give_entries, look_entries, leave_entries, unless_came, down_entries}
use Rattle.cqs_floor_shared.specs.Shared.{Sees, seen_at, kind_at}
use Rattle.cqs_work.specs.declared.waits.Waited.{Waited}
use Rattle.cqs_work.specs.Accounts.{sum_of}
use Rattle.cqs_work.specs.Desk.{Desk, with_answer}
use Rattle.cqs_work.specs.Noted.{draw_of, draws_in, drawn_by, HasPermits, told_at, as_draw, IsNoted}
use Rattle.cqs_work.specs.Takes.{takes, took}
use Rattle.cqs_work.specs.Adds.{Keeps}
use Rattle.cqs_work.proofs.Accounts.{sum-here, sum-else}
use Rattle.cqs_work.proofs.Lasting.{seen-here, seen-else}

-- the numbers that a caller draws in a longer history
draws-with : (n : ℕ) (h : History) (more : Entries) → AreOf h more
    → draws_in (own_history n (with_entries h more)) ≡ draws_in (own_history n h) ++ drawn_by (own_entries n more)
draws-with n (of_permits h) (at_permits more) words =
    ap draws_in (ap of_permits (filter-append (permit_names n) h more))
    ∙ filter_map-append draw_of (part permit_names n h) (part permit_names n more)
draws-with n (of_elements h) (at_elements more) words = refl
draws-with n (of_latch h) (at_latch more) words = refl
draws-with n (of_rounds all) (in_round round more) words = refl
draws-with n (of_permits h) (at_elements more) words = absurd words
draws-with n (of_permits h) (at_latch more) words = absurd words
draws-with n (of_permits h) (in_round round more) words = absurd words
draws-with n (of_elements h) (at_permits more) words = absurd words
draws-with n (of_elements h) (at_latch more) words = absurd words
draws-with n (of_elements h) (in_round round more) words = absurd words
draws-with n (of_latch h) (at_permits more) words = absurd words
draws-with n (of_latch h) (at_elements more) words = absurd words
draws-with n (of_latch h) (in_round round more) words = absurd words
draws-with n (of_rounds all) (at_permits more) words = absurd words
draws-with n (of_rounds all) (at_elements more) words = absurd words
draws-with n (of_rounds all) (at_latch more) words = absurd words

permits-below : (kinds : List Kind) (at : ℕ) (k : Option Kind) → slice_get kinds at ≡ k → HasPermits k
    → at < length kinds
permits-below kinds at (Some k) got permits = get-below kinds at k got
permits-below kinds at None got permits = absurd permits

module _ (f : Desk) (at : ℕ) (entries : Entries) (g : Desk) (sees : Sees f.floor at entries g.floor)
    (kinds : g.floor.board.kinds ≡ f.floor.board.kinds) where
  there : IsNoted f → HasPermits (kind_at f.floor at) → at < length f.floor.seen
  there noted permits =
      omega (arith, permits-below f.floor.board.kinds at (kind_at f.floor at) refl permits, noted.long)

  pub took-here : IsNoted f → HasPermits (kind_at f.floor at) → took g.floor at ≡ took f.floor at + sum_of takes entries
  took-here noted permits = sum-here f.floor at entries g.floor sees kinds takes (there noted permits)

  pub took-else : (q : ℕ) → q ≢ at → took g.floor q ≡ took f.floor q
  took-else q other = sum-else f.floor at entries g.floor sees kinds takes q other

  pub call-noted : (more : List Waited) → g.waits ≡ f.waits ++ more
      → (HasPermits (kind_at f.floor at) → drawn_by entries ≡ map (as_draw f.floor.number) (told_at at more))
      → ((q : ℕ) → q ≢ at → told_at q more ≡ []) → IsNoted f → IsNoted g
  call-noted more waits here elsewhere noted = record {
    long = omega (
      arith,
      noted.long,
      ap length kinds,
      ap length sees.seen,
      length-set f.floor.seen at (with_entries (seen_at f.floor at) sees.more),
    );
    at = λ q permits.
        let was : HasPermits (kind_at f.floor q) = subst HasPermits (ap (λ ks. slice_get ks q) kinds) permits in
        let so : draws_in (own_history f.floor.number (seen_at g.floor q))
        ≡ map (as_draw f.floor.number) (told_at q g.waits)
        = go q was (cases_eq q at) in
        subst (λ n. draws_in (own_history n (seen_at g.floor q)) ≡ map (as_draw n) (told_at q g.waits))
        (sym sees.same.number) so;
  }
    where
      n : ℕ
      n = f.floor.number

      told-more : (q : ℕ) → told_at q g.waits ≡ told_at q f.waits ++ told_at q more
      told-more q = ap (told_at q) waits ∙ filter-append (λ w. w.at == q) f.waits more

      go : (q : ℕ) → HasPermits (kind_at f.floor q) → (q ≡ at) ⊎ (q ≢ at)
          → draws_in (own_history f.floor.number (seen_at g.floor q))
          ≡ map (as_draw f.floor.number) (told_at q g.waits)
      go q permits (inl same) =
          let holds : HasPermits (kind_at f.floor at) = subst (λ m. HasPermits (kind_at f.floor m)) same permits in
          let Goal : ℕ → Type 0 = λ m. draws_in (own_history f.floor.number (seen_at g.floor m))
          ≡ map (as_draw f.floor.number) (told_at m g.waits) in
          subst Goal (sym same)
          (ap (λ h. draws_in (own_history f.floor.number h))
          (seen-here f.floor at entries g.floor sees (there noted holds))
          ∙ draws-with f.floor.number (seen_at f.floor at) sees.more sees.words
          ∙ ap (λ e. draws_in (own_history f.floor.number (seen_at f.floor at)) ++ drawn_by e) sees.mine
          ∙ ap (λ l. l ++ drawn_by entries) (noted.at at holds)
          ∙ ap (λ l. map (as_draw f.floor.number) (told_at at f.waits) ++ l) (here holds)
          ∙ sym (map-append (as_draw f.floor.number) (told_at at f.waits) (told_at at more))
          ∙ ap (map (as_draw f.floor.number)) (sym (told-more at)))
      go q permits (inr other) =
          ap (λ h. draws_in (own_history f.floor.number h)) (seen-else f.floor at entries g.floor sees q other)
          ∙ noted.at q permits
          ∙ ap (map (as_draw f.floor.number)) (sym (told-more q
          ∙ ap (λ l. told_at q f.waits ++ l) (elsewhere q other) ∙ append-nil (told_at q f.waits)))

-- entries that draw no number and make no take
pub record ArePlain (entries : Entries) : Type 0 where
  pub drawn : drawn_by entries ≡ []
  pub taken : sum_of takes entries ≡ 0

pub given-plain : (k : Option Kind) (c e : ℕ) (got : SharedGive) → ArePlain (give_entries k c e got)
given-plain (Some (kind.Semaphore permits)) c e (shared.Free x) = record { drawn = refl; taken = refl }
given-plain (Some (kind.Semaphore permits)) c e (shared.Sent x k) = record { drawn = refl; taken = refl }
given-plain (Some (kind.Semaphore permits)) c e (shared.Left x k) = record { drawn = refl; taken = refl }
given-plain (Some (kind.Semaphore permits)) c e (shared.Void k) = record { drawn = refl; taken = refl }
given-plain (Some kind.Mutex) c e (shared.Free x) = record { drawn = refl; taken = refl }
given-plain (Some kind.Mutex) c e (shared.Sent x k) = record { drawn = refl; taken = refl }
given-plain (Some kind.Mutex) c e (shared.Left x k) = record { drawn = refl; taken = refl }
given-plain (Some kind.Mutex) c e (shared.Void k) = record { drawn = refl; taken = refl }
given-plain (Some (kind.Pool elements)) c e got = record { drawn = refl; taken = refl }
given-plain (Some (kind.Latch count)) c e got = record { drawn = refl; taken = refl }
given-plain (Some (kind.Rounds parties rounds)) c e got = record { drawn = refl; taken = refl }
given-plain None c e got = record { drawn = refl; taken = refl }

pub looked-plain : (came : Bool) (k : Option Kind) (round c n : ℕ) (got : FloorLook)
    → ArePlain (unless_came came (look_entries k round c n got))
looked-plain true (Some (kind.Semaphore permits)) round c n got = record { drawn = refl; taken = refl }
looked-plain true (Some kind.Mutex) round c n got = record { drawn = refl; taken = refl }
looked-plain true (Some (kind.Pool elements)) round c n got = record { drawn = refl; taken = refl }
looked-plain true (Some (kind.Latch count)) round c n got = record { drawn = refl; taken = refl }
looked-plain true (Some (kind.Rounds parties rounds)) round c n got = record { drawn = refl; taken = refl }
looked-plain true None round c n got = record { drawn = refl; taken = refl }
looked-plain false (Some (kind.Semaphore permits)) round c n Pending = record { drawn = refl; taken = refl }
looked-plain false (Some (kind.Semaphore permits)) round c n (Granted e) = record { drawn = refl; taken = refl }
looked-plain false (Some kind.Mutex) round c n Pending = record { drawn = refl; taken = refl }
looked-plain false (Some kind.Mutex) round c n (Granted e) = record { drawn = refl; taken = refl }
looked-plain false (Some (kind.Pool elements)) round c n Pending = record { drawn = refl; taken = refl }
looked-plain false (Some (kind.Pool elements)) round c n (Granted e) = record { drawn = refl; taken = refl }
looked-plain false (Some (kind.Latch count)) round c n got = record { drawn = refl; taken = refl }
looked-plain false (Some (kind.Rounds parties rounds)) round c n got = record { drawn = refl; taken = refl }
looked-plain false None round c n got = record { drawn = refl; taken = refl }

pub left-plain : (came : Bool) (k : Option Kind) (round c n : ℕ) (got : FloorLeave) (stays : Bool)
    → ArePlain (unless_came came (leave_entries k round c n got stays))
left-plain true (Some (kind.Semaphore permits)) round c n got stays = record { drawn = refl; taken = refl }
left-plain true (Some kind.Mutex) round c n got stays = record { drawn = refl; taken = refl }
left-plain true (Some (kind.Pool elements)) round c n got stays = record { drawn = refl; taken = refl }
left-plain true (Some (kind.Latch count)) round c n got stays = record { drawn = refl; taken = refl }
left-plain true (Some (kind.Rounds parties rounds)) round c n got stays = record { drawn = refl; taken = refl }
left-plain true None round c n got stays = record { drawn = refl; taken = refl }
left-plain false (Some (kind.Semaphore permits)) round c n Gone stays = record { drawn = refl; taken = refl }
left-plain false (Some (kind.Semaphore permits)) round c n (Late e) stays = record { drawn = refl; taken = refl }
left-plain false (Some kind.Mutex) round c n Gone stays = record { drawn = refl; taken = refl }
left-plain false (Some kind.Mutex) round c n (Late e) stays = record { drawn = refl; taken = refl }
left-plain false (Some (kind.Pool elements)) round c n Gone stays = record { drawn = refl; taken = refl }
left-plain false (Some (kind.Pool elements)) round c n (Late e) stays = record { drawn = refl; taken = refl }
left-plain false (Some (kind.Latch count)) round c n got stays = record { drawn = refl; taken = refl }
left-plain false (Some (kind.Rounds parties rounds)) round c n got stays = record { drawn = refl; taken = refl }
left-plain false None round c n got stays = record { drawn = refl; taken = refl }

pub counted-plain : (c : ℕ) (got : FloorDown) → ArePlain (down_entries c got)
counted-plain c got = record { drawn = refl; taken = refl }

-- a call with such entries, by which no job is told a wait
pub call-keeps : (f : Desk) (at : ℕ) (entries : Entries) (g : Desk) → Sees f.floor at entries g.floor
    → g.floor.board.kinds ≡ f.floor.board.kinds → ArePlain entries → g.waits ≡ f.waits
    → g.floor.came ≡ f.floor.came → g.floor.board.room ≡ f.floor.board.room → Keeps f g
call-keeps f at entries g sees kinds plain waits came room = record {
  waits = waits;
  came = λ j. ap (λ l. get_or l j false) came;
  noted = call-noted f at entries g sees kinds [] (waits ∙ sym (append-nil f.waits)) (λ permits. plain.drawn)
      (λ q other. refl);
  tally = λ noted q permits. go noted q permits (cases_eq q at);
  room = λ q. omega (arith, ap (λ l. get_or l q 0) room);
}
  where
    go : IsNoted f → (q : ℕ) → HasPermits (kind_at f.floor q) → (q ≡ at) ⊎ (q ≢ at)
        → took g.floor q ≡ took f.floor q
    go noted q permits (inl same) =
        let here : took g.floor at ≡ took f.floor at + sum_of takes entries
        = took-here f at entries g sees kinds noted (subst (λ m. HasPermits (kind_at f.floor m)) same permits) in
        let kept : took g.floor at ≡ took f.floor at = omega (arith, here, plain.taken) in
        subst (λ m. took g.floor m ≡ took f.floor m) (sym same) kept
    go noted q permits (inr other) = took-else f at entries g sees kinds q other

pub keeps-none : (f : Desk) → Keeps f f
keeps-none f =
    record {
      waits = refl;
      came = λ j. refl;
      noted = λ noted. noted;
      tally = λ noted at permits. refl;
      room = λ at. omega arith;
    }

pub keeps-then : (f g k : Desk) → g.floor.board.kinds ≡ f.floor.board.kinds → Keeps f g → Keeps g k → Keeps f k
keeps-then f g k kinds first second = record {
  waits = second.waits ∙ first.waits;
  came = λ j. second.came j ∙ first.came j;
  noted = λ noted. second.noted (first.noted noted);
  tally = λ noted at permits.
      second.tally (first.noted noted) at (subst HasPermits (ap (λ ks. slice_get ks at) (sym kinds)) permits)
      ∙ first.tally noted at permits;
  room = λ at. omega (arith, first.room at, second.room at);
}

-- what a job is told by an answer
pub told-is : (waits : List Waited) (at round job : ℕ) (got : Option FloorTake)
    → with_answer waits at round job got ≡ waits ++ with_answer [] at round job got
told-is waits at round job None = sym (append-nil waits)
told-is waits at round job (Some (Now element)) = sym (append-nil waits)
told-is waits at round job (Some (Waits number)) = refl

pub told-whose : (at round job : ℕ) (got : Option FloorTake) → All (λ (w : Waited). w.job ≡ job)
    (with_answer [] at round job got)
told-whose at round job None = All-nil (λ (w : Waited). w.job ≡ job)
told-whose at round job (Some (Now element)) = All-nil (λ (w : Waited). w.job ≡ job)
told-whose at round job (Some (Waits number)) =
    All-cons (λ (w : Waited). w.job ≡ job) (record { at = at; round = round; number = number; job = job }) [] refl
    (All-nil (λ (w : Waited). w.job ≡ job))

pub told-else : (at round job : ℕ) (got : Option FloorTake) (q : ℕ) → q ≢ at
    → told_at q (with_answer [] at round job got) ≡ []
told-else at round job None q other = refl
told-else at round job (Some (Now element)) q other = refl
told-else at round job (Some (Waits number)) q other =
    let no : at == q ≡ false = ne_eqb at q (λ e. other (sym e)) in
    rw no refl

-- how many takes an answer comes to
abbrev pub ones_of : Option FloorTake → ℕ
ones_of (Some answer) = 1
ones_of None = 0

pub record TakeTold (at job c : ℕ) (got : Option FloorTake) (entries : Entries) : Type 0 where
  pub drawn : drawn_by entries ≡ map (as_draw c) (told_at at (with_answer [] at 0 job got))
  pub taken : sum_of takes entries ≡ ones_of got

pub take-told : (k : Option Kind) (at job c : ℕ) (got : Option FloorTake) (drew : Option ℕ) → HasPermits k
    → TakeTold at job c got (came_entries k 0 c got drew)
take-told (Some (kind.Semaphore size)) at job c (Some (Now e)) drew permits = record { drawn = refl; taken = refl }
take-told (Some (kind.Semaphore size)) at job c (Some (Waits n)) drew permits =
    let yes : at == at ≡ true = eq-eqb at at refl in
    record { drawn = rw yes refl; taken = refl }
take-told (Some (kind.Semaphore size)) at job c None drew permits = record { drawn = refl; taken = refl }
take-told (Some kind.Mutex) at job c (Some (Now e)) drew permits = record { drawn = refl; taken = refl }
take-told (Some kind.Mutex) at job c (Some (Waits n)) drew permits =
    let yes : at == at ≡ true = eq-eqb at at refl in
    record { drawn = rw yes refl; taken = refl }
take-told (Some kind.Mutex) at job c None drew permits = record { drawn = refl; taken = refl }
take-told (Some (kind.Pool elements)) at job c got drew permits = absurd permits
take-told (Some (kind.Latch count)) at job c got drew permits = absurd permits
take-told (Some (kind.Rounds parties rounds)) at job c got drew permits = absurd permits
take-told None at job c got drew permits = absurd permits
