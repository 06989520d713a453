-- A job that gives back all that it holds, one after the other.
use Rattle.std.proofs.Common.{◌≡◌, ℕ, ◌+◌, ◌<◌, List, [], ◌∷◌, drop, get_or, length, None, true, ◌==◌, refl, sym, ap, subst, ◌∙◌, eq-eqb, arith}
use Rattle.std.proofs.lemmas.List.{drop_more, drop_all}
use Rattle.cqs_plan.specs.declared.floors.answers.FloorGive.TheVariants.{Free}
use Rattle.cqs_plan.specs.Floor.{IsHolding, IsHoldable, holds_of}
use Rattle.cqs_turns_report.specs.declared.actors.Actor.{Actor}
use Rattle.cqs_turns_report.specs.Ready.{is_held, AreHoldable}
use Rattle.cqs_turns_report.specs.Roles.{role}
use Rattle.cqs_turns_report.specs.Turns.{places_held}
use Rattle.cqs_turns_report.proofs.Held.{oldest-there}
use Rattle.cqs_turns_report.proofs.Readied.{first-given, first-ready}
use Rattle.cqs_floor_shared.specs.declared.shared.SharedGive.{SharedGive}
use Rattle.cqs_floor_shared.specs.Shared.{kind_at}
use Rattle.cqs_floor_shared.specs.Calls.{Gives}
use Rattle.cqs_work.specs.Desk.{Desk}
use Rattle.cqs_work.specs.Gated.{HasTold}
use Rattle.cqs_work.specs.Heard.{Hears}
use Rattle.cqs_work.specs.Heard as answer
use Rattle.cqs_work.specs.Roles.{give_one, give_each, same}
use Rattle.cqs_work.specs.Doing.{Stands, GaveUp}
use Rattle.cqs_work.specs.Works.{IsClear}
use Rattle.cqs_work.proofs.Accounts.{give-later}
use Rattle.cqs_work.proofs.StepCalls.{given-keeps}
use Rattle.cqs_work.proofs.Adding.{keeps-none, keeps-then}
use Rattle.cqs_work.proofs.HeardLemmas.{gave-is, hears-then, hears-on, hears-none}
use Rattle.cqs_work.proofs.Moving.{moves-none, moves-on, moves-given}

-- the first so many of these have been given back
pub record GivingOn (a : Actor) (f : Desk) (all : List ℕ) (i : ℕ) (g : Desk) : Type 0 where
  pub gave : GaveUp a f (give_each a all) (give_each a (drop i all)) g
  pub held : places_held g.floor.board a.place ≡ drop i all

pub giving-starts : (a : Actor) (f : Desk) (all : List ℕ) → all ≡ places_held f.floor.board a.place
    → Stands a f.floor None []
    → GivingOn a f all 0 f
giving-starts a f all held stands = record {
  gave = record {
    hears = hears-none f (give_each a all);
    stands = stands;
    moves = moves-none a.place f.floor.board f.floor.parties [];
    keeps = keeps-none f;
  };
  held = sym held;
}

next-one : (a : Actor) (f : Desk) (all : List ℕ) (i : ℕ) (g : Desk) → GivingOn a f all i g → i < length all
    → places_held g.floor.board a.place ≡ get_or all i 0 ∷ drop (i + 1) all
next-one a f all i g giving below = giving.held ∙ drop_more all i 0 below

pub holds-next : (a : Actor) (f : Desk) (all : List ℕ) (i : ℕ) (g : Desk) → GivingOn a f all i g → i < length all
    → IsHolding g.floor.board (get_or all i 0) a.place
holds-next a f all i g giving below =
    let at : ℕ = get_or all i 0 in
    let first : at == at ≡ true = eq-eqb at at refl in
    let there : is_held at (at ∷ drop (i + 1) all) ≡ true = rw first refl in
    oldest-there at (holds_of g.floor.board a.place) (rw (next-one a f all i g giving below) there)

pub resource-next : (a : Actor) (f : Desk) (all : List ℕ) (i : ℕ) (g : Desk) → GivingOn a f all i g
    → i < length all → IsHoldable (kind_at g.floor (get_or all i 0))
resource-next a f all i g giving below =
    let held : AreHoldable g.floor.board.kinds (places_held g.floor.board a.place) = giving.gave.stands.ready.holdable
    in
    let these : AreHoldable g.floor.board.kinds (get_or all i 0 ∷ drop (i + 1) all)
    = subst (AreHoldable g.floor.board.kinds) (next-one a f all i g giving below) held in
    these.0

pub gives-next : (a : Actor) (f g k : Desk) (all : List ℕ) (i : ℕ) (got : SharedGive) → GivingOn a f all i g
    → i < length all → Gives g.floor (get_or all i 0) a.place got k.floor → k.waits ≡ g.waits
    → HasTold g.gate k.gate 1
    → GivingOn a f all (i + 1) k
gives-next a f g k all i got giving below gives waits told =
    let at : ℕ = get_or all i 0 in
    let rest : List ℕ = drop (i + 1) all in
    let split : drop i all ≡ at ∷ rest = drop_more all i 0 below in
    let stands = giving.gave.stands in
    let so_far : Hears f g (give_each a all) (give_each a (at ∷ rest))
    = subst (λ l. Hears f g (give_each a all) (give_each a l)) split giving.gave.hears in
    let this_one : Hears g k (give_one a at) same = record {
      later = give-later g.floor at a.place got k.floor gives (resource-next a f all i g giving below) stands.ready.job
          (holds-next a f all i g giving below);
      answers = answer.gave got ∷ [];
      told = told;
      plays = λ more. gave-is g (role a) at got k gives waits more;
    } in
    let onward : Hears g k (give_each a (at ∷ rest)) (give_each a rest)
    = hears-on (give_each a rest) g k (give_one a at) same this_one in
    record {
      gave = record {
        hears = hears-then f g k (give_each a all) (give_each a (at ∷ rest)) (give_each a rest) so_far onward;
        stands = record {
          kinds = ap (λ c. c.kinds) gives.board ∙ stands.kinds;
          ready = rw gives.board (first-ready g.floor.board a.place at (Free 0) stands.ready);
        };
        moves = moves-on a.place f.floor.board f.floor.parties [] g.floor.board g.floor.parties [] k.floor.board
            k.floor.parties [] giving.gave.moves
            (rw (gives.board, gives.parties) (moves-given a.place at g.floor.board g.floor.parties []));
        keeps = keeps-then f g k giving.gave.moves.kinds giving.gave.keeps (given-keeps a.place g k at got gives waits);
      };
      held = rw gives.board (first-given g.floor.board a.place at rest (Free 0) stands.ready.job
          (next-one a f all i g giving below));
    }

pub gave-all : (a : Actor) (f g : Desk) (all : List ℕ) (i : ℕ) → GivingOn a f all i g → length all ≡ i
    → GaveUp a f (give_each a all) same g
gave-all a f g all i giving whole =
    let none : drop i all ≡ [] = drop_all i all (omega (arith, whole)) in
    let heard_all : Hears f g (give_each a all) same
    = subst (λ l. Hears f g (give_each a all) (give_each a l)) none giving.gave.hears in
    record { hears = heard_all; stands = giving.gave.stands; moves = giving.gave.moves; keeps = giving.gave.keeps }

pub clear-then : (a : Actor) (f g : Desk) (all : List ℕ) (i : ℕ) → GivingOn a f all i g → length all ≡ i
    → IsClear g.floor.board a.place
clear-then a f g all i giving whole = record {
  waits = giving.gave.stands.ready.waits;
  holds = giving.held ∙ drop_all i all (omega (arith, whole));
}
