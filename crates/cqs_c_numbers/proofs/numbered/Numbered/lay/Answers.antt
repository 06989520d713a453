use Rattle.std.proofs.Common.{◌∙◌, ◌<◌, ◌∷◌, ap, subst, sym, arith}
use Rattle.atomic_table.specs.Table.{rest}
use Rattle.cqs_c_numbers.specs.Marks.{Suits}
use Rattle.cqs_c_numbers.proofs.MarkSteps.{lays}
use Rattle.cqs_c_numbers.proofs.numbered.Numbered.lay.Goals as goal

pub store-requires : goal.store-requires
store-requires c =
    let shared = c.args.self.now.table.shared in
    let put = c.exchange-nothing.ensures in
    let has = ap (λ m. m.1) put.3 ∙ ap (λ l. (c.args.pass, c.args.lying) ∷ rest l) c.requires.holds.slot in
    let low : c.args.pass < shared.table_id.slots = omega (arith, c.requires.inside, c.args.self.now.slots_are) in
    let suits = subst (λ s. Suits s c.args.pass c.args.mark c.args.lying) (sym c.args.self.now.key_is)
    c.requires.suits in (
      put.0 ∙ c.requires.holds.table,
      omega (arith, c.requires.inside, c.args.self.now.words_are),
      lays shared.key _ c.exchange-nothing.new.seat.id c.exchange-nothing.new.seat.me c.args.pass c.args.mark
          c.args.lying low has suits,
    )

pub returns : goal.returns
returns c =
    let put = c.exchange-nothing.ensures in
    record {
      before = c.exchange-nothing.new.seat.me;
      had = ap (λ m. m.1) put.3 ∙ ap (λ l. (c.args.pass, c.args.lying) ∷ rest l) c.requires.holds.slot;
      after = c.store.new.seat;
      table = c.store.ensures.0 ∙ (put.0 ∙ c.requires.holds.table);
      stored = c.store.ensures.2;
    }
