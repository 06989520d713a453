-- A call is its steps, one after the other.
use Rattle.std.proofs.Common.{◌≡◌, ℕ, Bool, List, [], ◌++◌, sym, refl, ap, ◌∙◌, subst, append_assoc}
use Rattle.std.proofs.lemmas.List.{append-nil}
use Rattle.std.proofs.lemmas.List.Elements.{filter-append}
use Rattle.cqs_slots.proofs.Loads.{sees-same, sees-then}
use Rattle.cqs_rule_laws.specs.declared.view.View.{View}
use Rattle.cqs_rule_laws.specs.declared.view.Facts.{Facts}
use Rattle.cqs_rule_laws.specs.Lists.{Has, part}
use Rattle.cqs_rule_laws.specs.Views.{IsSame}
use Rattle.cqs_rule_laws.specs.Object.{Object}
use Rattle.cqs_rule_laws.specs.Saw.{Saw}
use Rattle.cqs_rule_laws.specs.Called.{Called}
use Rattle.cqs_rule_laws.proofs.Lists.{prefix-then}

module _ {E S : Type 0} where
  -- before any step
  pub same-here : (v : View E S) → IsSame v v
  same-here v = record {
    number = refl;
    weight = refl;
    own = refl;
    crew = refl;
    alone = refl;
    made = refl;
    drawn = refl;
    limit = refl;
    cells = refl;
    slots = refl;
    passes = refl;
    opening = refl;
    segments = sees-same v.segments;
  }

  pub same-then : (v u w : View E S) → IsSame v u → IsSame u w → IsSame v w
  same-then v u w p q = record {
    number = q.number ∙ p.number;
    weight = q.weight ∙ p.weight;
    own = q.own ∙ p.own;
    crew = q.crew ∙ p.crew;
    alone = q.alone ∙ p.alone;
    made = q.made ∙ p.made;
    drawn = q.drawn ∙ p.drawn;
    limit = q.limit ∙ p.limit;
    cells = q.cells ∙ p.cells;
    slots = q.slots ∙ p.slots;
    passes = q.passes ∙ p.passes;
    opening = q.opening ∙ p.opening;
    segments = sees-then v.segments u.segments w.segments p.segments q.segments;
  }

module _ {E : Type 0} (names : ℕ → E → Bool) where
  -- the entries of a step that name the pass, among all that it has seen since
  part-step : (n : ℕ) (between es : List E) → part names n between ≡ [] → part names n (between ++ es) ≡ part names n es
  part-step n between es none = filter-append (names n) between es ∙ ap (λ l. l ++ part names n es) none

module _ {E S : Type 0} (object : Object E) where
  -- a call of no step
  pub called-none : (v : View E S) → Called object v [] [] v
  called-none v = record {
    more = [];
    seen = sym (append-nil v.seen);
    mine = λ n h. refl;
    before = v.seen;
    since = ([], sym (append-nil v.seen));
    ends = sym (append-nil v.seen);
    same = same-here v;
    handed = ([], sym (append-nil v.handed));
    unlaid = λ j bare. bare;
    sole = λ a. refl;
  }

  -- a call of one step
  pub called-by : (v w : View E S) (f : Facts) (es : List E) → Saw object v f es w → Called object v es es w
  called-by v w f es s = record {
    more = s.between ++ es;
    seen = s.seen ∙ append_assoc v.seen s.between es;
    mine = λ n h. part-step object.names n s.between es (s.silent n h);
    before = v.seen ++ s.between;
    since = (s.between, refl);
    ends = s.seen;
    same = s.same;
    handed = s.handed;
    unlaid = s.unlaid;
    sole = λ a. ap (λ l. l ++ es) (s.sole a);
  }

  -- a step more
  pub called-then : (v u w : View E S) (f : Facts) (es last fs : List E)
      → Called object v es last u → Saw object u f fs w → Called object v (es ++ fs) fs w
  called-then v u w f es last fs c s = record {
    more = c.more ++ (s.between ++ fs);
    seen = s.seen ∙ (append_assoc u.seen s.between fs
        ∙ (ap (λ l. l ++ (s.between ++ fs)) c.seen ∙ append_assoc v.seen c.more (s.between ++ fs)));
    mine = λ n h.
        let silent : part object.names n s.between ≡ [] = s.silent n (subst (Has n) (sym c.same.own) h) in
        filter-append (object.names n) c.more (s.between ++ fs)
        ∙ ((λ i. c.mine n h i ++ part-step object.names n s.between fs silent i)
        ∙ sym (filter-append (object.names n) es fs));
    before = u.seen ++ s.between;
    since = (
      c.more ++ s.between,
      ap (λ l. l ++ s.between) c.seen ∙ append_assoc v.seen c.more s.between,
    );
    ends = s.seen;
    same = same-then v u w c.same s.same;
    handed = prefix-then v.handed u.handed w.handed c.handed s.handed;
    unlaid = λ j bare. s.unlaid j (c.unlaid j bare);
    sole = λ a. (λ i. c.sole a i ++ (s.sole (c.same.alone ∙ a) i ++ fs));
  }

  -- a step without an event, and then one with these entries, tell as much as the second alone
  pub saw-then : (v u w : View E S) (f g : Facts) (es : List E)
      → Saw object v f [] u → Saw object u g es w → Saw object v g es w
  saw-then v u w f g es p q = record {
    between = p.between ++ q.between;
    seen = q.seen
        ∙ ap (λ l. l ++ es) (ap (λ l. l ++ q.between) (p.seen ∙ append-nil _)
        ∙ append_assoc v.seen p.between q.between);
    silent = λ n h. filter-append (object.names n) p.between q.between
        ∙ ((λ i. p.silent n h i ++ q.silent n (subst (Has n) (sym p.same.own) h) i));
    facts_are = q.facts_are;
    same = same-then v u w p.same q.same;
    handed = prefix-then v.handed u.handed w.handed p.handed q.handed;
    unlaid = λ j bare. q.unlaid j (p.unlaid j bare);
    sole = λ a. (λ i. p.sole a i ++ q.sole (p.same.alone ∙ a) i);
  }

  -- a call after a call
  pub called-and : (v u w : View E S) (es last fs end : List E) → Called object v es last u → Called object u fs end w
      → Called object v (es ++ fs) end w
  called-and v u w es last fs end c d = record {
    more = c.more ++ d.more;
    seen = d.seen ∙ (ap (λ l. l ++ d.more) c.seen ∙ append_assoc v.seen c.more d.more);
    mine = λ n h. filter-append (object.names n) c.more d.more
        ∙ ((λ i. c.mine n h i ++ d.mine n (subst (Has n) (sym c.same.own) h) i)
        ∙ sym (filter-append (object.names n) es fs));
    before = d.before;
    since = (
      c.more ++ d.since.0,
      d.since.1 ∙ (ap (λ l. l ++ d.since.0) c.seen ∙ append_assoc v.seen c.more d.since.0),
    );
    ends = d.ends;
    same = same-then v u w c.same d.same;
    handed = prefix-then v.handed u.handed w.handed c.handed d.handed;
    unlaid = λ j bare. d.unlaid j (c.unlaid j bare);
    sole = λ a. (λ i. c.sole a i ++ d.sole (c.same.alone ∙ a) i);
  }
