-- The call rule of a call whose steps were made: the entries of the caller name it alone, and a delivery names nobody.
use Rattle.std.proofs.Common.{◌≡◌, ℕ, Bool, true, false, List, [], ◌∷◌, ◌++◌, sym, refl, ap, ◌∙◌, subst, ne_eqb, ◌==◌, if◌then◌else◌}
use Rattle.std.proofs.lemmas.Bool.{eq-eqb}
use Rattle.std.proofs.lemmas.List.{append-nil}
use Rattle.std.proofs.lemmas.List.Elements.{filter-append}
use Rattle.cqs_rule_laws.specs.declared.view.View.{View}
use Rattle.cqs_rule_laws.specs.Called.{Called}
use Rattle.cqs_rule_laws.specs.CallRule.{CallRuleEnding, CallRule}
use Rattle.cqs_rule_laws.specs.Lists.{Has, part, NamesOnly}
use Rattle.cqs_rule_laws.specs.Object.{Object}

module _ {E : Type 0} (names : ℕ → E → Bool) where
  -- each of the entries names the caller p
  abbrev pub AllName : ℕ → List E → Type 0
  AllName p [] = Unit {0}
  AllName p (e ∷ es) = ((n : ℕ) → names n e ≡ (p == n)) × AllName p es

  -- none of them names anybody
  abbrev pub NoneName : List E → Type 0
  NoneName [] = Unit {0}
  NoneName (e ∷ es) = ((n : ℕ) → names n e ≡ false) × NoneName es

  kept-with : (n : ℕ) (e : E) (es : List E) (b : Bool) → names n e ≡ b
      → part names n (e ∷ es) ≡ (if b then e ∷ part names n es else part names n es)
  kept-with n e es b is = ap (λ z. if z then e ∷ part names n es else part names n es) is

  pub part-all : (p : ℕ) (es : List E) → AllName p es → part names p es ≡ es
  part-all p [] all = refl
  part-all p (e ∷ es) all =
      kept-with p e es true (all.0 p ∙ eq-eqb p p refl) ∙ ap (λ l. e ∷ l) (part-all p es all.1)

  pub part-others : (p : ℕ) (es : List E) → AllName p es → NamesOnly names p es
  part-others p [] all = λ n other. refl
  part-others p (e ∷ es) all = λ n other.
      kept-with n e es false (all.0 n ∙ ne_eqb p n (λ same. other (sym same))) ∙ part-others p es all.1 n other

  pub part-none : (es : List E) → NoneName es → (n : ℕ) → part names n es ≡ []
  part-none [] none = λ n. refl
  part-none (e ∷ es) none = λ n. kept-with n e es false (none.0 n) ∙ part-none es none.1 n

module _ {E S : Type 0} (object : Object E) where
  -- the same call, where nothing is said of what came last
  pub called-weak : (v w : View E S) (es last : List E) → Called object v es last w → Called object v es [] w
  called-weak v w es last c = record {
    more = c.more;
    seen = c.seen;
    mine = c.mine;
    before = w.seen;
    since = (c.more, c.seen);
    ends = sym (append-nil w.seen);
    same = c.same;
    handed = c.handed;
    unlaid = c.unlaid;
    sole = c.sole;
  }

  pub call-rule_ending : (v w : View E S) (own further last : List E)
      → Called object v (own ++ further) last w → AllName object.names v.number own → NoneName object.names further
      → Has v.number v.own → object.legal w.opening w.seen → CallRuleEnding object v own further last w
  call-rule_ending v w own further last c all none has legal = record {
    called = c;
    legal = legal;
    mine = c.mine v.number has
        ∙ (filter-append (object.names v.number) own further
        ∙ ((λ i. part-all object.names v.number own all i ++ part-none object.names further none v.number i)
        ∙ append-nil own));
    all = part-all object.names v.number own all;
    only = part-others object.names v.number own all;
    nobody = part-none object.names further none;
  }

  pub call-rule : (v w : View E S) (own further : List E)
      → Called object v (own ++ further) further w → AllName object.names v.number own → NoneName object.names further
      → Has v.number v.own → object.legal w.opening w.seen → CallRule object v own further w
  call-rule v w own further c all none has legal = call-rule_ending v w own further further c all none has legal

  -- a call that makes no further entry
  pub call-rule_own : (v w : View E S) (own last : List E) → Called object v own last w
      → AllName object.names v.number own → Has v.number v.own → object.legal w.opening w.seen
      → CallRule object v own [] w
  call-rule_own v w own last c all has legal =
      call-rule v w own []
      (subst (λ es. Called object v es [] w) (sym (append-nil own)) (called-weak v w own last c)) all tt has
      legal
