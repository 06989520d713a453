-- What follows where no entry of a history names a caller.
use Rattle.std.proofs.Common.{◌≡◌, ℕ, zero, suc, true, false, List, [], ◌∷◌, map, sum_by, refl, sym, ap, ◌∙◌, arith}
use Rattle.std.proofs.Math.ListN.{get_or-map}
use Rattle.std.proofs.lemmas.List.{get_or_past}
use Rattle.cqs_core.specs.Parts.{part}
use Rattle.cqs_core.specs.SemaphoreNames.{entry_names as permit_names}
use Rattle.cqs_pool_object.specs.PoolNames.{entry_names as element_names}
use Rattle.cqs_latch_object.specs.LatchNames.{entry_names as latch_names}
use Rattle.cqs_barrier_object.specs.declared.entries.BarrierEntry.{BarrierEntry}
use Rattle.cqs_barrier_object.specs.BarrierNames.{entry_names as party_names}
use Rattle.cqs_plan.specs.FloorHistory.{History, of_permits, of_elements, of_latch, of_rounds, entries_in}
use Rattle.cqs_floor_shared.specs.Entries.{own_history, is_nothing, are_nothing}
use Rattle.cqs_work.specs.Accounts.{Weights, sum_in}
use Rattle.cqs_work.specs.Later.{IsUnnamed}
use Rattle.cqs_work.specs.Noted.{draws, draws_in}

none-left : {E : Type 0} (l : List E) → (wrap : List E → History)
    → ((e : E) (rest : List E) → is_nothing (wrap (e ∷ rest)) ≡ false)
    → is_nothing (wrap l) ≡ true → l ≡ []
none-left [] wrap some nothing = refl
none-left (e ∷ rest) wrap some nothing = absurd (cc (some e rest, nothing))

-- in no round
none-in : (rounds : List (List BarrierEntry)) → are_nothing rounds ≡ true → (round : ℕ)
    → entries_in rounds round ≡ []
none-in [] nothing round = get_or_past [] round [] (omega arith)
none-in ([] ∷ rounds) nothing zero = refl
none-in ([] ∷ rounds) nothing (suc round) = none-in rounds nothing round
none-in ((entry ∷ entries) ∷ rounds) nothing round = absurd (cc nothing)

-- it is unnamed there
pub nothing-unnamed : (n : ℕ) (h : History) → is_nothing (own_history n h) ≡ true → IsUnnamed n h
nothing-unnamed n (of_permits h) nothing = none-left (part permit_names n h) of_permits (λ e rest. refl) nothing
nothing-unnamed n (of_elements h) nothing = none-left (part element_names n h) of_elements (λ e rest. refl) nothing
nothing-unnamed n (of_latch h) nothing = none-left (part latch_names n h) of_latch (λ e rest. refl) nothing
nothing-unnamed n (of_rounds all) nothing = λ round.
    sym (get_or-map (part party_names n) all round []) ∙ none-in (map (part party_names n) all) nothing round

-- and what it came to adds up to nothing
pub nothing-adds : (w : Weights) (n : ℕ) (h : History) → is_nothing (own_history n h) ≡ true → sum_in w n h ≡ 0
nothing-adds w n (of_permits h) nothing = ap (sum_by w.permit) (nothing-unnamed n (of_permits h) nothing)
nothing-adds w n (of_elements h) nothing = ap (sum_by w.element) (nothing-unnamed n (of_elements h) nothing)
nothing-adds w n (of_latch h) nothing = refl
nothing-adds w n (of_rounds all) nothing = refl

-- it drew no number there
pub nothing-draws : (n : ℕ) (h : History) → is_nothing (own_history n h) ≡ true → draws_in (own_history n h) ≡ []
nothing-draws n (of_permits h) nothing = ap draws (nothing-unnamed n (of_permits h) nothing)
nothing-draws n (of_elements h) nothing = refl
nothing-draws n (of_latch h) nothing = refl
nothing-draws n (of_rounds all) nothing = refl
