-- Beside a pass that gives its own slots away, the others have seen what they had to see.
use Rattle.std.proofs.Common.{◌≡◌, ◌⊎◌, ℕ, ◌<◌, List, length, ⊎_elim, inl, inr, arith, Option}
use Rattle.std.proofs.lemmas.Bool.{cases_lt}
use mathlib.Core.Option.{some}
use lib.ListN.{get_elem?}
use Rattle.atomic_table.specs.Table.{State}
use Rattle.cqs_rule_laws.specs.declared.view.View.{View}
use Rattle.cqs_rule_laws.specs.Client.{IsClient}
use Rattle.cqs_rule_laws.specs.Given.{times_given}
use Rattle.cqs_rule_laws.specs.Layout.{client_words}
use Rattle.cqs_rule_laws.specs.Object.{Object, Primitive}
use Rattle.cqs_rule_laws.specs.Ruled.{RuledAhead}
use Rattle.cqs_rule_laws.proofs.Advance.{OthersAware}
use Rattle.cqs_rule_laws.proofs.Given.{aware-on}
use Rattle.cqs_rule_laws.proofs.Lists.{has_left, has_right}

module _ {E S : Type 0} (object : Object E) (primitive : Primitive E S) (passes limit : ℕ) where
  -- entries that give no slot away
  pub aware-none : (s : State (Option S) (View E S)) (p : ℕ) (log es : List E)
      → ((k : ℕ) → k < length s.homes → times_given object.gives es k ≡ 0)
      → OthersAware object primitive passes limit s p log es
  aware-none s p log es none j u at live apart =
      aware-on object.gives primitive.opens (length s.homes) log es u (λ k low o. none k low)

  -- entries of a pass that may open the slots which they give away
  pub aware-beside : {ahead : ℕ → ℕ} → IsClient object primitive → (s : State (Option S) (View E S))
      (r : RuledAhead object primitive passes limit ahead s) (id : ℕ) (v : View E S) (es : List E)
      → get_elem? s.views id ≡ some v → 0 < v.weight
      → ((k : ℕ) → k < length s.homes → times_given object.gives es k ≡ ahead k)
      → ((k : ℕ) → 0 < ahead k → primitive.opens v.facts.has k)
      → OthersAware object primitive passes limit s v.number r.log es
  aware-beside {ahead} client s r id v es here alive given mine j u at live apart =
      aware-on object.gives primitive.opens (length s.homes) r.log es u (λ k low o.
      ⊎_elim (λ (some_ahead : 0 < ahead k). absurd (closed k (mine k some_ahead) o))
      (λ none. let g = given k low in omega arith) (cases_lt 0 (ahead k)))
    where
      closed : (k : ℕ) → primitive.opens v.facts.has k
          → primitive.opens u.facts.has k ⊎ ((1 < u.weight) × primitive.opens u.second.has k) → ⊥
      closed k owns (inl o) =
          let mine = r.each_view id v here alive in
          let theirs = r.each_view j u at live in
          apart u.number (has_left u.number u.own u.others theirs.own)
          (client.slots.apart r.hidden (client_words s.words) r.log r.handed u.number v.number k u.facts.has v.facts.has
          r.shown theirs.stands.has mine.stands.has o owns)
      closed k owns (inr o) =
          let mine = r.each_view id v here alive in
          let two = (r.each_view j u at live).second o.0 in
          apart u.second_number (has_right u.second_number u.own u.others two.own)
          (client.slots.apart r.hidden (client_words s.words) r.log r.handed u.second_number v.number k u.second.has
          v.facts.has r.shown two.stands.has mine.stands.has o.1 owns)
