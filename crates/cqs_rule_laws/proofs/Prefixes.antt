-- What a pass had seen and found is a prefix of what it has seen and found later.
use Rattle.std.proofs.Common.{◌≡◌, List, [], ◌++◌, sym, ◌∙◌, subst, append_assoc}
use Rattle.std.proofs.lemmas.List.{append-nil}
use Rattle.cqs_rule_laws.specs.declared.view.Facts.{Facts}
use Rattle.cqs_rule_laws.specs.declared.view.View.{View}
use Rattle.cqs_rule_laws.specs.Called.{Called}
use Rattle.cqs_rule_laws.specs.Lists.{IsPrefix}
use Rattle.cqs_rule_laws.specs.Object.{Object}
use Rattle.cqs_rule_laws.specs.Saw.{Saw}

module _ {A : Type 0} where
  pub prefix-same : (l : List A) → IsPrefix l l
  prefix-same l = ([], sym (append-nil l))

  pub prefix-is : (a b : List A) → b ≡ a → IsPrefix a b
  prefix-is a b e = subst (IsPrefix a) (sym e) (prefix-same a)

  pub prefix-more : (a b c d : List A) → IsPrefix a (((a ++ b) ++ c) ++ d)
  prefix-more a b c d = (b ++ (c ++ d), append_assoc (a ++ b) c d ∙ append_assoc a b (c ++ d))

module _ {E S : Type 0} (object : Object E) where
  pub saw-prefix : (v w : View E S) (f : Facts) (es : List E) → Saw object v f es w → IsPrefix v.seen w.seen
  saw-prefix v w f es s = (s.between ++ es, s.seen ∙ append_assoc v.seen s.between es)

  pub called-prefix : (v w : View E S) (es last : List E) → Called object v es last w → IsPrefix v.seen w.seen
  called-prefix v w es last c = (c.more, c.seen)
