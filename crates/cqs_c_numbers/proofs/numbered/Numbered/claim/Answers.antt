use Rattle.std.proofs.Common.{rules, ◌≡◌, ◌∙◌, [], ◌∷◌, None, Option, ap, refl, subst, sym, arith}
use mathlib.Core.Option.{none}
use Rattle.atomic_table.specs.Table.{rest, step}
use Rattle.cqs_c_numbers.specs.declared.primitive.Primitive.{Primitive}
use Rattle.cqs_c_numbers.specs.declared.caller.Caller.{Caller}
use Rattle.cqs_c_numbers.specs.Marks.{HasClaimed, Suits, word_of}
use Rattle.cqs_c_numbers.proofs.MarkSteps.{sits, one_lying}
use Rattle.cqs_c_numbers.proofs.numbered.Numbered.claim.Goals as goal

pub load_new_seat-requires : goal.load_new_seat-requires
load_new_seat-requires c =
    (omega (arith, c.args.self.now.words_are), sits c.args.self.now.table.shared.key _)

pub exchange-lying-requires : goal.exchange-lying-requires
exchange-lying-requires c =
    let hit : c.compare_exchange-found.result ≡ c.args.from = search rules in
    let got = c.compare_exchange-found.ensures.2.1 hit c.args.pass refl in (
      c.compare_exchange-found.ensures.0 ∙ c.load_new_seat.ensures.0,
      (got.0, got.1 ∙ ap (λ l. (c.args.pass, got.0) ∷ l) (sym (ap rest got.1))),
    )

pub returns-clause-exchanged : goal.returns-clause-exchanged
returns-clause-exchanged c =
    let hit : c.compare_exchange-found.result ≡ c.args.from = search rules in
    let got = c.compare_exchange-found.ensures.2.1 hit c.args.pass refl in
    let bare : rest c.compare_exchange-found.new.seat.me.1 ≡ [] = ap rest got.1 ∙ c.load_new_seat.ensures.1 in
    let here = c.exchange-lying.ensures in
    record {
      before = c.load_new_seat.result.1.me;
      bare = c.load_new_seat.ensures.1;
      after = c.compare_exchange-found.new.seat;
      table = c.compare_exchange-found.ensures.0 ∙ c.load_new_seat.ensures.0;
      exchanged = subst (λ n. HasClaimed (step c.args.self.now.table.shared.table_id.slots (word_of c.args.pass)
          c.args.from 1 none) c.load_new_seat.result.1.me n c.compare_exchange-found.new.seat.me) hit
          c.compare_exchange-found.ensures.2;
      has = here.2 ∙ ap (λ l. (c.args.pass, c.exchange-lying.result) ∷ l) bare;
    }

pub returns-clause-taken : goal.returns-clause-taken
returns-clause-taken c =
    let hit : c.compare_exchange-found.result ≡ c.args.from = search rules in
    let got = c.compare_exchange-found.ensures.2.1 hit c.args.pass refl in
    let here = c.exchange-lying.ensures in
    let bare : rest c.compare_exchange-found.new.seat.me.1 ≡ [] = ap rest got.1 ∙ c.load_new_seat.ensures.1 in
    let is : got.0 ≡ c.exchange-lying.result = one_lying _ _ _ _ _ _ _ got.1 here.2 in
    let of : c.load_new_seat.result.1.me.0 ≡ c.args.self.now.primitive =
    c.load_new_seat.ensures.2 ∙ c.args.self.now.key_is in (
      record {
        table = here.0 ∙ (c.compare_exchange-found.ensures.0 ∙ c.load_new_seat.ensures.0);
        slot = ap (λ m. m.1) here.3 ∙ ap (λ l. (c.args.pass, None) ∷ l) bare;
      },
      subst (λ (p : Primitive × Option Caller). Suits p.0 c.args.pass c.args.from p.1) (λ k. (of k, is k)) got.2,
    )
