-- The rounds that workers share, as they are made.
use Rattle.std.proofs.Common.{◌≡◌, ℕ, ◌+◌, ◌<◌, ◌≤◌, false, List, [], ◌∷◌, drop, length, replicate, refl, ap, sym, ◌∙◌, subst, arith}
use Rattle.std.specs.Arc.{arc_value}
use Rattle.std.proofs.lemmas.Bool.{false≢true}
use Rattle.cqs_barrier.specs.Calls.{IsMine, Rests, parties_in}
use Rattle.cqs_barrier_object.specs.declared.entries.BarrierEntry.{BarrierEntry}
use Rattle.cqs_barrier_object.specs.BarrierNames.{entry_names}
use Rattle.cqs_core.specs.Numbered.{EachAt}
use Rattle.cqs_core.specs.Parts.{part}
use Rattle.cqs_plan.specs.declared.plans.kind.Kind.TheVariants as kind
use Rattle.cqs_plan.specs.FloorHistory.{of_rounds}
use Rattle.cqs_plan.specs.Validity.{IsKind}
use Rattle.cqs_rule_laws.specs.declared.view.Opening.{Opening}
use Rattle.cqs_rule.specs.Passes.{limit_of, passes_of}
use Rattle.cqs_floor_shared_any.specs.declared.kinds.round.SharedRound.{SharedRound}
use Rattle.cqs_floor_shared_any.specs.declared.kinds.rounds.SharedRounds.{SharedRounds}
use Rattle.cqs_floor_shared_any.specs.RoundsOne.{Crew, IsOpenedRound, IsRound, lasts, view_of}
use Rattle.cqs_floor_shared_any.specs.RoundsShares.{crew_in, held_of, seen_of, share_rounds, waits_of}
use Rattle.cqs_floor_shared_kinds.specs.ShareCalls.{IsOpened}
use Rattle.cqs_floor_shared_kinds.proofs.Accounts.{over-none}
use Rattle.cqs_floor_shared_any.proofs.RoundsLists.{map-all, sum-none}

-- what the passes of the rounds have in common at first
abbrev pub first_crew : ℕ → ℕ → Crew
first_crew workers room = record { number = 0; met = []; passes = workers; limit = room + 1 }

pub round-opened : (x : SharedRound) (parties workers room : ℕ) → IsMine (arc_value x.barrier) x.pass
    → parties_in (arc_value x.barrier) ≡ parties → passes_of (arc_value x.barrier).queue ≡ workers
    → limit_of (arc_value x.barrier).queue ≡ room + 1 → (view_of x).number ≡ 0 → (view_of x).own ≡ 0 ∷ []
    → (view_of x).seen ≡ [] → Rests (view_of x) parties [] (view_of x) → x.over ≡ false
    → IsOpenedRound parties workers room x
round-opened x parties workers room mine counted many limit number own seen rests none = record {
  round = record {
    mine = mine;
    size_is = ap (λ (o : Opening). o.size) mine.opening ∙ counted;
    ready = rests.ready;
    number = number;
    own = own;
    distinct = ((λ has. has), tt);
    passes = mine.passes ∙ many;
    limit = mine.limit ∙ limit;
    told = λ is. absurd (false≢true (sym none ∙ is));
    untold = λ is.
        over-none entry_names lasts 0 (view_of x).seen (ap (λ (h : List BarrierEntry). part entry_names 0 h) seen);
  };
  nothing = seen;
  held = rests.held_is;
  waits = rests.waits_are;
}

crew-opened : (parties workers room : ℕ) (xs : List SharedRound) → 0 < length xs
    → EachAt (λ i r. IsOpenedRound parties workers room r) xs → crew_in xs ≡ first_crew workers room
crew-opened parties workers room [] some each = absurd (omega (arith, some))
crew-opened parties workers room (r ∷ xs) some each =
    let round = (each.at 0 r refl).round in
    λ j. record { number = round.number j; met = drop 1 (round.own j); passes = round.passes j; limit = round.limit j }

pub rounds-opened : (x : SharedRounds) (parties rounds workers room : ℕ) → IsKind (kind.Rounds parties rounds)
    → length x.rounds.items ≡ rounds → EachAt (λ i r. IsOpenedRound parties workers room r) x.rounds.items
    → IsOpened share_rounds (kind.Rounds parties rounds) workers room x
rounds-opened x parties rounds workers room sized long each =
    let some : 1 ≤ rounds = sized.1.0 in
    let crew = crew-opened parties workers room x.rounds.items (omega (arith, some, long)) each in
    record {
      number = ap (λ (c : Crew). c.number) crew;
      met = ap (λ (c : Crew). c.met) crew;
      seen = ap of_rounds (map-all seen_of [] x.rounds.items
          (λ i r there. (each.at i r there).nothing)
          ∙ ap (λ n. replicate n []) long);
      passes_are = ap (λ (c : Crew). c.passes) crew;
      limit = ap (λ (c : Crew). c.limit) crew ∙ omega arith;
      parties = map-all held_of parties x.rounds.items
          (λ i r there. (each.at i r there).held)
          ∙ ap (λ n. replicate n parties) long;
      funded = λ jobs. record {
        sort = long;
        few = let most = sized.1.1 in omega (arith, long, most);
        some = sized.0.0;
        none_came = refl;
        each = subst (λ c. EachAt (λ i r. IsRound parties c r) x.rounds.items) (sym crew)
            (record { at = λ i r there. (each.at i r there).round });
        waits_are = sum-none waits_of x.rounds.items
            (λ i r there. ap (λ (l : List ℕ). length l) (each.at i r there).waits);
      };
    }
