use Rattle.std.proofs.Common.{◌∙◌, ℕ, [], ap, refl, sym, subst, length, arith}
use Rattle.std.proofs.lemmas.Result.{IfOk-weaker}
use Rattle.cqs_rule_laws.specs.Alone.{TellsAlone}
use Rattle.cqs_rule_laws.specs.Layout.{words_for}
use Rattle.cqs_rule_laws.specs.Saw.{IsLive}
use Rattle.cqs_rule_laws.specs.Ruled.{cell_count}
use Rattle.cqs_rule_laws.specs.Views.{first_view}
use Rattle.cqs_rule_laws.proofs.Alone.{alone-now}
use Rattle.cqs_rule_laws.proofs.Opens.{enough-then, opens-by, first-live-by}
use Rattle.cqs_rule_laws.proofs.table.open_table.Goals as goal

pub vacant-requires : goal.vacant-requires
vacant-requires g c =
    let C = g.C.ClientWords in
    opens-by C.object (C.primitive c.args.client) (g.met.C.ClientWords.keeps c.args.client) c.args.config.now
    c.from-passes.result c.from-slots.result c.from-made.result _ _ _ c.requires.good c.from-passes.ensures
    c.as_slice.ensures.value c.in_ok-words.ensures c.requires.suits c.requires.few
    (omega (arith, c.from-made.ensures, c.requires.some))
    (omega (arith, c.from-made.ensures, c.from-slots.ensures, c.requires.fit))
    (omega (arith, c.from-slots.ensures, c.requires.few_slots))
    (omega (arith, c.from-made.ensures, c.requires.values))
    (λ enough. omega (
      arith,
      c.from-made.ensures,
      c.requires.ample (enough-then _ _ _ _ c.from-slots.ensures enough),
    ))

pub returns-clause-key : goal.returns-clause-key
returns-clause-key g c = IfOk-weaker c.vacant.result _ _ (λ opened h. (
  ap (λ k. k.client) h.5,
  ap (λ k. k.passes) h.5 ∙ c.from-passes.ensures,
  ap (λ k. k.limit) h.5,
  ap (λ k. k.slots) h.5 ∙ c.from-slots.ensures,
  ap (λ k. k.made) h.5 ∙ c.from-made.ensures,
)) c.vacant.ensures

pub returns-clause-table : goal.returns-clause-table
returns-clause-table g c =
    let long = ap length c.as_slice.ensures.value
    ∙ (c.in_ok-words.ensures.long ∙ ap words_for c.from-slots.ensures) in
    IfOk-weaker c.vacant.result _ _ (λ opened h. (
      h.1 ∙ c.slots-value_slots.ensures,
      h.2,
      ap (λ t. t.words) h.2 ∙ (h.0 ∙ long),
    )) c.vacant.ensures

pub returns-clause-seat : goal.returns-clause-seat
returns-clause-seat g c =
    let C = g.C.ClientWords in
    let x = c.args.client in
    let p = C.primitive x in
    let keeps = g.met.C.ClientWords.keeps x in
    let config = c.args.config.now in
    let rule = opens-by C.object p keeps config c.from-passes.result c.from-slots.result c.from-made.result _ _ 0
    c.requires.good c.from-passes.ensures c.as_slice.ensures.value c.in_ok-words.ensures c.requires.suits
    c.requires.few
    (omega (arith, c.from-made.ensures, c.requires.some))
    (omega (arith, c.from-made.ensures, c.from-slots.ensures, c.requires.fit))
    (omega (arith, c.from-slots.ensures, c.requires.few_slots))
    (omega (arith, c.from-made.ensures, c.requires.values))
    (λ enough. omega (
      arith,
      c.from-made.ensures,
      c.requires.ample (enough-then _ _ _ _ c.from-slots.ensures enough),
    )) in
    let alone = alone-now C.object C.primitive _ _ x keeps _ rule 0 _ refl in
    let first = ap (λ (k : ℕ × ℕ × ℕ). first_view {E = g.row.C-Entry.Denot} {S = g.row.C-Slot.Denot} k.0 config.limit
    (cell_count k.0 config.limit p.values) k.1 k.2 p.opening p.held)
    (λ i. (c.from-passes.ensures i, c.from-slots.ensures i, c.from-made.ensures i)) in
    IfOk-weaker c.vacant.result _ _ (λ opened h.
    let view = ap (λ m. m.0) h.4 in (
      h.4 ∙ ap (λ v. (v, [])) first,
      subst (IsLive C.object) (sym (view ∙ first))
          (first-live-by C.object p keeps config c.args.slots c.args.made c.requires.good c.requires.ample),
      subst (TellsAlone C.primitive) (sym view) alone,
    )) c.vacant.ensures
