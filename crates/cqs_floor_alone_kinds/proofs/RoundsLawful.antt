-- The rounds of a barrier keep to what every resource of a floor keeps to: what happened in each is a legal history of
-- a barrier, and a wait of a round was numbered before.
use Rattle.std.proofs.Common.{◌≡◌, ℕ, zero, suc, ◌<◌, false, List, [], ◌∷◌, Some, length, get_or, slice_get, refl, ap, sym, ◌∙◌, subst}
use Rattle.std.specs.Option.{option_map}
use Rattle.std.proofs.lemmas.List.{length-map}
use Rattle.std.proofs.lemmas.Option.{get_or_from_slice_get, slice_get-map}
use Rattle.cqs_core.specs.Numbered.{EachAt}
use Rattle.cqs_barrier_object.specs.declared.entries.BarrierEntry.{BarrierEntry}
use Rattle.cqs_barrier_object.specs.declared.entries.BarrierEntry.TheVariants as entry
use Rattle.cqs_barrier_object.specs.BarrierEntries.{IsAllowed, IsLegal, after_entry, object_after}
use Rattle.cqs_barrier_object.specs.BarrierObject.{Barrier, opening}
use Rattle.cqs_barrier.specs.Calls.{plain_after}
use Rattle.cqs_plan.specs.declared.plans.kind.Kind.{Kind}
use Rattle.cqs_plan.specs.declared.plans.kind.Kind.TheVariants as kind
use Rattle.cqs_plan.specs.Floor.{size_of}
use Rattle.cqs_plan.specs.LegalFloor.{IsHistory}
use Rattle.cqs_rule.specs.Passes.{pass_view}
use Rattle.cqs_floor_alone_kinds.specs.declared.round_sole.RoundSole.{RoundSole}
use Rattle.cqs_floor_alone_kinds.specs.declared.rounds_sole.RoundsSole.{RoundsSole}
use Rattle.cqs_floor_alone_kinds.specs.SoleRound.{IsFundedRound, is_news}
use Rattle.cqs_floor_alone_kinds.specs.SoleRounds.{IsOfRounds, all_seen, seen_of, store_rounds}
use Rattle.cqs_floor_alone_kinds.specs.Stores.{IsLawful}
use Rattle.cqs_floor_alone_kinds.proofs.FreshHistories.{fresh-legal, fresh-object}

-- what an entry that is no news changes
no-news : (o : Barrier) (e : BarrierEntry) → is_news e ≡ false → after_entry o e ≡ o
no-news o (entry.LookPending c k) old = refl
no-news o (entry.ArriveDoor c) old = absurd (cc)
no-news o (entry.ArriveLast c) old = absurd (cc)
no-news o (entry.Enter c k) old = absurd (cc)
no-news o (entry.Deliver k) old = absurd (cc)
no-news o (entry.Withdraw c k) old = absurd (cc)
no-news o (entry.Stay c k) old = absurd (cc)
no-news o (entry.Late c k) old = absurd (cc)
no-news o (entry.LookGranted c k) old = absurd (cc)

-- the plain barrier that a floor sees is the one after all that the pass has seen
pub seen-object : (parties room : ℕ) (x : RoundSole) → IsFundedRound parties room x
    → object_after parties (seen_of x) ≡ plain_after (pass_view x.pass)
seen-object parties room x funded =
    fresh-object IsAllowed after_entry is_news no-news (opening parties) (pass_view x.pass).seen
    ∙ ap (λ n. object_after n (pass_view x.pass).seen) (sym funded.rests.size_is)

legal-seen : (parties room : ℕ) (x : RoundSole) → IsFundedRound parties room x → IsLegal parties (seen_of x)
legal-seen parties room x funded =
    fresh-legal IsAllowed after_entry is_news no-news (opening parties) (pass_view x.pass).seen
    (subst (λ n. IsLegal n (pass_view x.pass).seen) funded.rests.size_is funded.mine.live.legal)

legal-each : (parties room : ℕ) (rounds : List RoundSole)
    → ((i : ℕ) (r : RoundSole) → slice_get rounds i ≡ Some r → IsFundedRound parties room r)
    → (i : ℕ) (es : List BarrierEntry) → slice_get (all_seen rounds) i ≡ Some es → IsLegal parties es
legal-each parties room [] each i es got = absurd (cc)
legal-each parties room (r ∷ rounds) each zero es got =
    let is : seen_of r ≡ es = cc in
    subst (IsLegal parties) is (legal-seen parties room r (each 0 r refl))
legal-each parties room (r ∷ rounds) each (suc i) es got =
    legal-each parties room rounds (λ j q named. each (suc j) q named) i es got

pub rounds-lawful : IsLawful store_rounds
rounds-lawful = record {
  legal = λ x k room waiting held funded. legal x k room funded.sort funded.each;
  numbered = λ x round wait kind room waiting held funded has.
      let one = funded.each.at round has.sole has.there in
      let entries : get_or (all_seen x.rounds.items) round [] ≡ seen_of has.sole =
      get_or_from_slice_get (all_seen x.rounds.items) round (seen_of has.sole) []
      (slice_get-map seen_of x.rounds.items round ∙ ap (option_map seen_of) has.there) in
      let is = ap (object_after (size_of kind)) entries ∙ seen-object (size_of kind) room has.sole one in
      subst (λ (o : Barrier). wait.index < o.waiters.next) (sym is) (one.rests.drawn wait.index has.waits.open_yet);
}
  where
    legal : (x : RoundsSole) (k : Kind) (room : ℕ) → IsOfRounds (Some k) (length x.rounds.items)
        → EachAt (λ round r. IsFundedRound (size_of (Some k)) room r) x.rounds.items
        → IsHistory k (store_rounds.history x)
    legal x (kind.Rounds parties rounds) room sort each = record {
      many = length-map x.rounds.items seen_of ∙ sort;
      each = record { at = legal-each parties room x.rounds.items each.at };
    }
    legal x (kind.Semaphore n) room sort each = absurd sort
    legal x kind.Mutex room sort each = absurd sort
    legal x (kind.Pool n) room sort each = absurd sort
    legal x (kind.Latch n) room sort each = absurd sort
