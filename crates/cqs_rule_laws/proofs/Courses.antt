-- Courses of a pass: a call is one, so is a meet, and one course after another is a course.
use Rattle.std.proofs.Common.{◌≡◌, ◌≢◌, ℕ, List, [], ◌++◌, Result, Ok, Err, sym, ap, ◌∙◌, subst, append_assoc}
use Rattle.std.specs.Prelude.{OnOk}
use Rattle.std.proofs.lemmas.List.{append-nil, append_cancel_left}
use Rattle.std.proofs.lemmas.List.Elements.{filter-append}
use Rattle.cqs_rule_laws.specs.declared.view.Facts.{Facts}
use Rattle.cqs_rule_laws.specs.declared.view.View.{View}
use Rattle.cqs_rule_laws.specs.CallRule.{CallRuleEnding, Course}
use Rattle.cqs_rule_laws.specs.Crew.{Met}
use Rattle.cqs_rule_laws.specs.Lists.{Has, part}
use Rattle.cqs_rule_laws.specs.Object.{Object}
use Rattle.cqs_rule_laws.proofs.Lists.{has_left}

pub on-ok : {A B P Q : Type 0} → (P → Q) → (r : Result A B) → OnOk r P → OnOk r Q
on-ok f (Ok x) p = f p
on-ok f (Err e) p = p

module _ {E S : Type 0} (object : Object E) where
  -- a call
  pub course-call : (v w : View E S) (own further last : List E) → CallRuleEnding object v own further last w
      → Course object v own w
  course-call v w own further last c = record {
    number = c.called.same.number;
    more = c.called.more;
    seen = c.called.seen;
    mine = λ n h. c.called.mine n h
        ∙ (filter-append (object.names n) own further
        ∙ (ap (λ l. part object.names n own ++ l) (c.nobody n) ∙ append-nil (part object.names n own)));
    kept = λ n h. subst (Has n) (sym c.called.same.own) h;
    opening = c.called.same.opening;
    legal = c.legal;
  }

  -- one after another
  pub course-then : (v u w : View E S) (es fs : List E) → Course object v es u → Course object u fs w
      → Course object v (es ++ fs) w
  course-then v u w es fs c d = record {
    number = d.number ∙ c.number;
    more = c.more ++ d.more;
    seen = d.seen ∙ (ap (λ l. l ++ d.more) c.seen ∙ append_assoc v.seen c.more d.more);
    mine = λ n h. filter-append (object.names n) c.more d.more
        ∙ ((λ i. c.mine n h i ++ d.mine n (c.kept n h) i) ∙ sym (filter-append (object.names n) es fs));
    kept = λ n h. d.kept n (c.kept n h);
    opening = d.opening ∙ c.opening;
    legal = d.legal;
  }

  -- the entries of those that were met into a pass are those that they had made
  pub met-rest : (v w : View E S) (own further last : List E) → CallRuleEnding object v own further last w → (n : ℕ)
      → Has n v.own → n ≢ v.number → part object.names n w.seen ≡ part object.names n v.seen
  met-rest v w own further last c n h other =
      ap (part object.names n) c.called.seen
      ∙ (filter-append (object.names n) v.seen c.called.more
      ∙ (ap (λ l. part object.names n v.seen ++ l)
      (c.called.mine n h ∙ (filter-append (object.names n) own further
      ∙ (λ i. c.only n other i ++ c.nobody n i)))
      ∙ append-nil (part object.names n v.seen)))

  -- a meet
  pub course-met : (v w : View E S) (facts : Facts) (seen : List E) (handed : List (ℕ × S)) (own : List ℕ)
      → Met object v facts seen handed own w → object.legal w.opening w.seen → Course object v [] w
  course-met v w facts seen handed own m legal = record {
    number = m.number;
    more = m.prefix.0;
    seen = m.prefix.1;
    mine = λ n h. append_cancel_left (part object.names n v.seen) (part object.names n m.prefix.0) []
        (sym (filter-append (object.names n) v.seen m.prefix.0)
        ∙ (ap (part object.names n) (sym m.prefix.1)
        ∙ (m.mine n h ∙ sym (append-nil (part object.names n v.seen)))));
    kept = λ n h. subst (Has n) (sym m.own_is) (has_left n v.own own h);
    opening = m.opening;
    legal = legal;
  }
