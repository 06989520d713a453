-- A job that gives back all that it holds, one after the other.
use Rattle.std.proofs.Common.{◌≡◌, ℕ, ◌+◌, ◌<◌, List, [], ◌∷◌, drop, get_or, length, None, true, ◌==◌, refl, sym, ap, subst, ◌∙◌, eq-eqb}
use Rattle.std.proofs.lemmas.List.{drop_more}
use Rattle.cqs_plan.specs.Floor.{IsHolding, holds_of}
use Rattle.cqs_plan.specs.FloorCalls.{give_answer}
use Rattle.cqs_core.specs.Parts.{IsPrefix}
use Rattle.cqs_turns_report.specs.Ready.{IsReady, is_held}
use Rattle.cqs_turns_report.specs.Turns.{Role, Scene, on_give, after_gives, places_held}
use Rattle.cqs_turns_report.proofs.Growth.{after_gives-grows}
use Rattle.cqs_turns_report.proofs.Held.{oldest-there}
use Rattle.cqs_turns_report.proofs.Readied.{first-given, first-ready}

-- the first i of all that the job held at the start have been given back
pub record GivingBack (r : Role) (all : List ℕ) (i : ℕ) (start now : Scene) : Type 0 where
  pub whole : after_gives r (drop i all) now ≡ after_gives r all start
  pub held : places_held now.floor r.place ≡ drop i all
  pub ready : IsReady now.floor r.place None []

next-one : (r : Role) (all : List ℕ) (i : ℕ) (start now : Scene) → GivingBack r all i start now → i < length all
    → places_held now.floor r.place ≡ get_or all i 0 ∷ drop (i + 1) all
next-one r all i start now giving below = giving.held ∙ drop_more all i 0 below

-- the job holds the next one
pub holds-next : (r : Role) (all : List ℕ) (i : ℕ) (start now : Scene) → GivingBack r all i start now → i < length all
    → IsHolding now.floor (get_or all i 0) r.place
holds-next r all i start now giving below =
    let at : ℕ = get_or all i 0 in
    let first : at == at ≡ true = eq-eqb at at refl in
    let there : is_held at (at ∷ drop (i + 1) all) ≡ true = rw first refl in
    oldest-there at (holds_of now.floor r.place) (rw (next-one r all i start now giving below) there)

pub gives-next : (r : Role) (all : List ℕ) (i : ℕ) (start now after : Scene) → GivingBack r all i start now
    → i < length all → after ≡ on_give r (get_or all i 0) now → GivingBack r all (i + 1) start after
gives-next r all i start now after giving below same =
    let at : ℕ = get_or all i 0 in
    let Goes : Scene → Type 0 = λ s. GivingBack r all (i + 1) start s in
    subst Goes (sym same) (record {
      whole = ap (λ places. after_gives r places now) (sym (drop_more all i 0 below)) ∙ giving.whole;
      held = first-given now.floor r.place at (drop (i + 1) all) (give_answer now.floor at r.place) giving.ready.job
          (next-one r all i start now giving below);
      ready = first-ready now.floor r.place at (give_answer now.floor at r.place) giving.ready;
    })

-- the report so far is a prefix of what it will be
pub giving-prefix : (r : Role) (all : List ℕ) (i : ℕ) (start now : Scene) → GivingBack r all i start now
    → IsPrefix now.text (after_gives r all start).text
giving-prefix r all i start now giving = rw (← giving.whole) (after_gives-grows r (drop i all) now)
