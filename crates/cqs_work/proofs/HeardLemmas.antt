-- Calls of a shared floor in the words of the machine over answers.
use Rattle.std.proofs.Common.{◌≡◌, ℕ, List, [], ◌∷◌, ◌++◌, length-append, Option, Some, None, Bool, true, false, ◌&&◌, map, refl, sym, ap, ◌∙◌, append_assoc}
use Rattle.std.specs.Prelude.{slice_index_or, slice_set}
use Rattle.std.proofs.Math.ListN.{get_or-map}
use Rattle.std.proofs.lemmas.List.{map-set}
use Rattle.std.proofs.lemmas.List.Elements.{filter-append}
use Rattle.cqs_core.specs.Parts.{part}
use Rattle.cqs_core.specs.SemaphoreNames.{entry_names as permit_names}
use Rattle.cqs_pool_object.specs.PoolNames.{entry_names as element_names}
use Rattle.cqs_latch_object.specs.LatchNames.{entry_names as latch_names}
use Rattle.cqs_barrier_object.specs.BarrierNames.{entry_names as party_names}
use Rattle.cqs_plan.specs.declared.plans.kind.Kind.{Kind}
use Rattle.cqs_plan.specs.declared.plans.kind.Kind.TheVariants as kind
use Rattle.cqs_plan.specs.declared.floors.answers.FloorTake.{FloorTake}
use Rattle.cqs_plan.specs.declared.floors.answers.FloorTake.TheVariants as take
use Rattle.cqs_plan.specs.declared.floors.answers.FloorLook.{FloorLook}
use Rattle.cqs_plan.specs.declared.floors.answers.FloorLook.TheVariants.{Pending, Granted}
use Rattle.cqs_plan.specs.declared.floors.answers.FloorLeave.{FloorLeave}
use Rattle.cqs_plan.specs.declared.floors.answers.FloorLeave.TheVariants.{Gone, Late}
use Rattle.cqs_plan.specs.declared.floors.answers.FloorDown.{FloorDown}
use Rattle.cqs_plan.specs.Floor.{PlainFloor, JobWait}
use Rattle.cqs_plan.specs.FloorHistory.{History, of_permits, of_elements, of_latch, of_rounds, entries_in}
use Rattle.cqs_turns_report.specs.Machine.{Role}
use Rattle.cqs_floor_shared.specs.declared.shared.SharedGive.{SharedGive}
use Rattle.cqs_floor_shared.specs.Entries.{Entries, at_permits, at_elements, at_latch, in_round, with_entries, own_entries, own_history}
use Rattle.cqs_floor_shared.specs.Shared.{Shared, Sees, seen_at, kind_at, came_of}
use Rattle.cqs_floor_shared.specs.Calls.{Comes, Gives, Downs, Looks, Leaves, IsDrawn, MayCome, IsFound, IsLate}
use Rattle.cqs_work.specs.Desk.{Desk, with_answer}
use Rattle.cqs_work.specs.Heard.{Heard, Answer, Hears, heard, with_call, heard_came, heard_given, heard_counted, heard_looked, heard_left, is_drawn, may_come, is_found, is_kept}
use Rattle.cqs_work.specs.Heard as answer
use Rattle.cqs_work.proofs.Gating.{told-none, told-then}
use Rattle.cqs_work.proofs.Lasting.{later-none, later-then}

-- what names a caller in a longer history
own-after : (n : ℕ) (h : History) (more : Entries)
    → own_history n (with_entries h more) ≡ with_entries (own_history n h) (own_entries n more)
own-after n (of_permits h) (at_permits more) = ap of_permits (filter-append (permit_names n) h more)
own-after n (of_permits h) (at_elements more) = refl
own-after n (of_permits h) (at_latch more) = refl
own-after n (of_permits h) (in_round round more) = refl
own-after n (of_elements h) (at_permits more) = refl
own-after n (of_elements h) (at_elements more) = ap of_elements (filter-append (element_names n) h more)
own-after n (of_elements h) (at_latch more) = refl
own-after n (of_elements h) (in_round round more) = refl
own-after n (of_latch h) (at_permits more) = refl
own-after n (of_latch h) (at_elements more) = refl
own-after n (of_latch h) (at_latch more) = ap of_latch (filter-append (latch_names n) h more)
own-after n (of_latch h) (in_round round more) = refl
own-after n (of_rounds all) (at_permits more) = refl
own-after n (of_rounds all) (at_elements more) = refl
own-after n (of_rounds all) (at_latch more) = refl
own-after n (of_rounds all) (in_round round more) =
    let there : entries_in (map (part party_names n) all) round ≡ part party_names n (entries_in all round)
    = get_or-map (part party_names n) all round [] in
    ap of_rounds (map-set (part party_names n) all round (entries_in all round ++ more)
    ∙ ap (slice_set (map (part party_names n) all) round) (filter-append (party_names n) (entries_in all round) more
    ∙ ap (λ l. l ++ part party_names n more) (sym there)))

-- the log of a worker after a call
log-after : (f : Shared) (at : ℕ) (entries : Entries) (g : Shared) → Sees f at entries g
    → map (own_history g.number) g.seen ≡ with_call (map (own_history f.number) f.seen) at entries
log-after f at entries g sees =
    let there : slice_index_or (map (own_history f.number) f.seen) at (of_permits [])
    ≡ own_history f.number (seen_at f at)
    = get_or-map (own_history f.number) f.seen at (of_permits []) in
    ap (λ n. map (own_history n) g.seen) sees.same.number
    ∙ ap (map (own_history f.number)) sees.seen
    ∙ map-set (own_history f.number) f.seen at (with_entries (seen_at f at) sees.more)
    ∙ ap (slice_set (map (own_history f.number) f.seen) at) (own-after f.number (seen_at f at) sees.more
    ∙ ap (with_entries (own_history f.number (seen_at f at))) sees.mine
    ∙ ap (λ h. with_entries h entries) (sym there))

-- the answers of a floor fit
drawn-fits : (k : Option Kind) (answer : Option FloorTake) (drew : Option ℕ) → IsDrawn k answer drew
    → is_drawn k answer drew ≡ true
drawn-fits (Some (kind.Pool elements)) (Some (take.Now element)) None drawn = absurd drawn
drawn-fits (Some (kind.Pool elements)) (Some (take.Now element)) (Some n) drawn = refl
drawn-fits (Some (kind.Pool elements)) (Some (take.Waits n)) drew drawn = refl
drawn-fits (Some (kind.Pool elements)) None drew drawn = refl
drawn-fits (Some (kind.Semaphore permits)) answer drew drawn = refl
drawn-fits (Some kind.Mutex) answer drew drawn = refl
drawn-fits (Some (kind.Latch count)) answer drew drawn = refl
drawn-fits (Some (kind.Rounds parties rounds)) answer drew drawn = refl
drawn-fits None answer drew drawn = refl

may-fit : (with_it : Bool) (k : Option Kind) → MayCome with_it k → may_come with_it k ≡ true
may-fit false k may = refl
may-fit true (Some (kind.Semaphore permits)) may = refl
may-fit true (Some kind.Mutex) may = refl
may-fit true (Some (kind.Pool elements)) may = absurd may
may-fit true (Some (kind.Latch count)) may = absurd may
may-fit true (Some (kind.Rounds parties rounds)) may = absurd may
may-fit true None may = absurd may

found-fits : (came : Bool) (answer : FloorLook) → IsFound came answer → is_found came answer ≡ true
found-fits true Pending found = absurd found
found-fits true (Granted element) found = refl
found-fits false Pending found = refl
found-fits false (Granted element) found = refl

kept-fits : (came : Bool) (answer : FloorLeave) → IsLate came answer → is_kept came answer ≡ true
kept-fits true Gone late = absurd late
kept-fits true (Late element) late = refl
kept-fits false Gone late = refl
kept-fits false (Late element) late = refl

both-fit : (a b : Bool) → a ≡ true → b ≡ true → (a && b) ≡ true
both-fit a b one other = ap (λ x. x && b) one ∙ other

-- each call, where its answer is heard
pub came-is : (f : Desk) (at round job : ℕ) (after : PlainFloor) (held : List (List ℕ)) (got : Option FloorTake)
    (g : Desk) (comes : Comes f.floor at round job after held got g.floor)
    → g.waits ≡ with_answer f.waits at round job got
    → (rest : List Answer)
    → heard_came at round job after got (heard f (answer.come got comes.drew comes.with_it ∷ rest)) ≡ heard g rest
came-is f at round job after held got g comes waits rest i = record {
  answers = rest;
  fits = both-fit (is_drawn (kind_at f.floor at) got comes.drew) (may_come comes.with_it (kind_at f.floor at))
      (drawn-fits (kind_at f.floor at) got comes.drew comes.drawn)
      (may-fit comes.with_it (kind_at f.floor at) comes.may) i;
  number = sym comes.sees.same.number i;
  board = sym comes.board i;
  came = sym comes.came i;
  entries = sym (log-after f.floor at _ g.floor comes.sees) i;
  waits = sym waits i;
}

pub gave-is : (f : Desk) (r : Role) (at : ℕ) (got : SharedGive) (g : Desk) → Gives f.floor at r.place got g.floor
    → g.waits ≡ f.waits → (rest : List Answer) → heard_given r at (heard f (answer.gave got ∷ rest)) ≡ heard g rest
gave-is f r at got g gives waits rest i = record {
  answers = rest;
  fits = true;
  number = sym gives.sees.same.number i;
  board = sym gives.board i;
  came = sym gives.came i;
  entries = sym (log-after f.floor at _ g.floor gives.sees) i;
  waits = sym waits i;
}

pub counted-is : (f : Desk) (r : Role) (at : ℕ) (got : FloorDown) (g : Desk) → Downs f.floor at got g.floor
    → g.waits ≡ f.waits → (rest : List Answer) → heard_counted r at (heard f (answer.counted got ∷ rest)) ≡ heard g rest
counted-is f r at got g downs waits rest i = record {
  answers = rest;
  fits = true;
  number = sym downs.sees.same.number i;
  board = sym downs.board i;
  came = sym downs.came i;
  entries = sym (log-after f.floor at _ g.floor downs.sees) i;
  waits = sym waits i;
}

pub looked-is : (f : Desk) (r : Role) (wait : JobWait) (got : FloorLook) (g : Desk)
    → Looks f.floor r.place wait got g.floor
    → g.waits ≡ f.waits → (rest : List Answer)
    → heard_looked r wait.at wait.round wait.number got (heard f (answer.looked got ∷ rest)) ≡ heard g rest
looked-is f r wait got g looks waits rest i = record {
  answers = rest;
  fits = found-fits (came_of f.floor r.place) got looks.found i;
  number = sym looks.sees.same.number i;
  board = sym looks.board i;
  came = sym looks.came i;
  entries = sym (log-after f.floor wait.at _ g.floor looks.sees) i;
  waits = sym waits i;
}

pub left-is : (f : Desk) (r : Role) (wait : JobWait) (got : FloorLeave) (g : Desk)
    (leaves : Leaves f.floor r.place wait got g.floor) → g.waits ≡ f.waits → (rest : List Answer)
    → heard_left r wait.at wait.round wait.number got (heard f (answer.left got leaves.stays ∷ rest)) ≡ heard g rest
left-is f r wait got g leaves waits rest i = record {
  answers = rest;
  fits = kept-fits (came_of f.floor r.place) got leaves.found i;
  number = sym leaves.sees.same.number i;
  board = sym leaves.board i;
  came = sym leaves.came i;
  entries = sym (log-after f.floor wait.at _ g.floor leaves.sees) i;
  waits = sym waits i;
}

module _ {X : Type 0} where
  -- no call
  pub hears-none : (f : Desk) (go : Heard → X) → Hears f f go go
  hears-none f go =
      record { later = later-none f.floor; answers = []; told = told-none f.gate; plays = λ rest. refl }

  -- some calls, and then others
  pub hears-then : (f g k : Desk) (go mid after : Heard → X) → Hears f g go mid → Hears g k mid after
      → Hears f k go after
  hears-then f g k go mid after first second = record {
    later = later-then f.floor g.floor k.floor first.later second.later;
    answers = first.answers ++ second.answers;
    told = told-then f.gate g.gate k.gate _ _ _ first.told second.told (length-append first.answers second.answers);
    plays = λ rest. ap (λ l. go (heard f l)) (append_assoc first.answers second.answers rest)
        ∙ first.plays (second.answers ++ rest) ∙ second.plays rest;
  }

  -- what follows in the machine
  pub hears-on : {Y : Type 0} (on : X → Y) (f g : Desk) (go after : Heard → X) → Hears f g go after
      → Hears f g (λ h. on (go h)) (λ h. on (after h))
  hears-on on f g go after hears = record {
    later = hears.later;
    answers = hears.answers;
    told = hears.told;
    plays = λ rest. ap on (hears.plays rest);
  }
