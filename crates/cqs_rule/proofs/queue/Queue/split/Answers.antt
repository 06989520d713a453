use Rattle.std.proofs.Common.{rules, [], ◌∷◌, ◌++◌, ◌<◌, ◌∙◌, sym, refl, ap, subst, arith, true≢false}
use Rattle.cqs_rule_laws.specs.Crew.{IsSole, MayGive}
use Rattle.cqs_rule_laws.specs.Saw.{Saw}
use Rattle.cqs_rule_laws.specs.Views.{crew_turn, facts_lessened, as_before}
use Rattle.cqs_rule_laws.proofs.Alone.{not-alone}
use Rattle.cqs_rule_laws.proofs.CrewLooks.{counts}
use Rattle.cqs_rule_laws.proofs.CrewSplits.{splits}
use Rattle.cqs_rule_laws.proofs.Tries.{sole-tells, tries-first, tries-again, cut-leaves, cut-begins, le-by}
use Rattle.cqs_rule.proofs.Halved.{room-left, gives-few, gives-held, keeps-cut, keeps-begun}
use Rattle.cqs_rule.proofs.Looked.{crew-inside, keeps-looked}
use Rattle.cqs_rule.specs.Homes.{KnowsHomes}
use Rattle.cqs_rule.proofs.queue.Queue.split.Goals as goal

pub load_at-saw-requires-clause-table : goal.load_at-saw-requires-clause-table
load_at-saw-requires-clause-table g c = c.requires.belongs.table

pub load_at-saw-requires-clause-inside : goal.load_at-saw-requires-clause-inside
load_at-saw-requires-clause-inside g c = crew-inside c.args.self.now c.args.pass.now c.requires.belongs.table

pub load_at-saw-requires-clause-allowed : goal.load_at-saw-requires-clause-allowed
load_at-saw-requires-clause-allowed g c =
    let C = g.C.ClientWords in
    let x = c.args.self.now.table.shared.key.client in
    counts C.object (C.primitive x) _ _ (g.met.C.ClientWords.keeps x)
    (IsSole C.primitive) c.args.self.now.table.shared.table_id.slots c.args.pass.now.seat.id
    c.args.pass.now.seat.me c.args.pass.now.live.0
    (sole-tells C.primitive x)

pub invariant_of-pass : goal.invariant_of-pass
invariant_of-pass g c =
    let e = c.load_at-saw.ensures in
    let seat = c.load_at-saw.new.seat in
    keeps-looked c.args.pass.now seat.me.0 e.told.0.saw e.told.0.weight e.told.2.inside seat.me.1 seat.table_id e.told.1
    e.table

pub loop-pass-init : goal.loop-pass-init
loop-pass-init g c =
    let C = g.C.ClientWords in
    let e = c.load_at-saw.ensures in
    let saw = e.told.0.saw in (
      record {
        table = e.table ∙ c.requires.belongs.table;
        slots = c.requires.belongs.slots;
        passes = saw.same.passes ∙ c.requires.belongs.passes;
        limit = saw.same.limit ∙ c.requires.belongs.limit;
        cells = saw.same.cells ∙ c.requires.belongs.cells;
        mode = c.requires.belongs.mode;
        ample = c.requires.belongs.ample;
        looks = c.requires.belongs.looks;
        live = e.told.2;
        alone = e.alone;
        opening = saw.same.opening ∙ c.requires.belongs.opening;
      },
      tries-first C.object _ _ _ e.told.0,
    )

pub make-found-requires-clause-table : goal.make-found-requires-clause-table
make-found-requires-clause-table g c = c.loop-pass.invariant.0.table

pub make-found-requires-clause-live : goal.make-found-requires-clause-live
make-found-requires-clause-live g c = c.loop-pass.pass.live.0

pub make-found-requires-clause-cells : goal.make-found-requires-clause-cells
make-found-requires-clause-cells g c = c.loop-pass.pass.slots_are

pub make-found-requires-clause-shut : goal.make-found-requires-clause-shut
make-found-requires-clause-shut g c = c.loop-pass.pass.shut

pub make-found-requires-clause-may : goal.make-found-requires-clause-may
make-found-requires-clause-may g c =
    let same = c.loop-pass.invariant.1.saw.facts_are in
    let C = g.C.ClientWords in
    let opens = (C.primitive c.args.self.now.table.shared.key.client).opens in
    subst (λ f. MayGive opens c.args.gives f) (sym same)
    (record { enough = c.requires.enough; idle = c.requires.idle; shut = c.requires.shut })

pub split_seat-seat-requires : goal.split_seat-seat-requires
split_seat-seat-requires g c =
    let C = g.C.ClientWords in
    let x = c.args.self.now.table.shared.key.client in
    let made = c.make-found.ensures.tried.made c.if-found-saw.true in
    let table = c.loop-pass.invariant.0.table in (
      c.make-found.ensures.table ∙ table,
      crew-inside c.args.self.now c.loop-pass.pass table,
      splits C.object (C.primitive x) _ _ (g.met.C.ClientWords.keeps x) _ _ made.weight
          (ap (λ f. f.open_slot) made.facts) made.seen,
    )

pub overflow_sub-pass : goal.overflow_sub-pass
overflow_sub-pass g c =
    gives-held c.args.gives c.loop-pass.pass c.args.pass.now.seat.me.0.facts c.loop-pass.invariant.1.saw.facts_are
    c.requires.enough

pub invariant_of-pass-then-found-saw : goal.invariant_of-pass-then-found-saw
invariant_of-pass-then-found-saw g c =
    let C = g.C.ClientWords in
    let cut = c.split_seat-seat.ensures in
    let e = c.make-found.ensures in
    let seat = c.split_seat-seat.new.seat in
    let l = cut-leaves C.object _ _ _ _ _ c.args.gives _ _ c.if-found-saw.true c.loop-pass.invariant.1 e.tried e.alive
    cut.2 in
    keeps-cut c.args.gives c.args.pass.now.seat.me.0 c.loop-pass.pass seat.me c.make-found.new.seat.me.0
    c.make-found.new.seat.me.1 l cut.2 e.carried seat.table_id (cut.0 ∙ e.table)

pub invariant_of-result : goal.invariant_of-result
invariant_of-result g c =
    let C = g.C.ClientWords in
    let cut = c.split_seat-seat.ensures in
    let e = c.make-found.ensures in
    let seat = c.split_seat-seat.result in
    let b = cut-begins C.object _ _ _ _ _ _ c.args.gives _ _ c.if-found-saw.true (omega arith)
    (gives-few c.args.gives _ _ _ c.loop-pass.invariant.1.saw.facts_are c.requires.enough
    c.loop-pass.invariant.0.live.few)
    e.tried e.alive cut.2 cut.4 in
    let k = keeps-begun c.args.gives c.make-found.new.seat.me.0.second_number c.loop-pass.pass
    c.split_seat-seat.new.seat.me.0 seat.me c.make-found.new.seat.me.0 b cut.4 refl
    seat.table_id (cut.3 ∙ e.table) in
    let number = k.number_is ∙ (e.tried.made c.if-found-saw.true).number in record {
      live = k.live;
      number_is = search rules;
      held_is = k.held_is;
      further_is = k.further_is;
      spares_are = k.spares_are;
      homes_are = subst (KnowsHomes _) (sym c.none.ensures) k.homes_are;
      counted = k.counted;
      retired = k.retired;
      shut = k.shut;
      owes_is = k.owes_is;
      waits_are = k.waits_are;
      ticket_is = k.ticket_is;
      slots_are = k.slots_are;
      inside = k.inside;
      few_cells = k.few_cells;
    }

pub invariant_of-pass-else-found-saw : goal.invariant_of-pass-else-found-saw
invariant_of-pass-else-found-saw g c =
    let e = c.make-found.ensures in
    let seat = c.make-found.new.seat in
    let missed = e.tried.missed c.if-found-saw.false in
    keeps-looked c.loop-pass.pass seat.me.0 missed.saw missed.weight e.alive.inside seat.me.1 seat.table_id e.carried
    e.table

pub returns-then-found-saw-clause-belongs : goal.returns-then-found-saw-clause-belongs
returns-then-found-saw-clause-belongs g c =
    let C = g.C.ClientWords in
    let cut = c.split_seat-seat.ensures in
    let old = c.loop-pass.invariant.0 in
    let e = c.make-found.ensures in
    let l = cut-leaves C.object _ _ _ _ _ c.args.gives _ _ c.if-found-saw.true c.loop-pass.invariant.1 e.tried e.alive
    cut.2 in record {
      table = cut.0 ∙ (e.table ∙ old.table);
      slots = old.slots;
      passes = l.passes ∙ old.passes;
      limit = l.limit ∙ old.limit;
      cells = l.cells ∙ old.cells;
      mode = old.mode;
      ample = old.ample;
      looks = old.looks;
      live = l.alive;
      alone = not-alone C.primitive c.split_seat-seat.new.seat.me.0 l.lonely;
      opening = l.opening ∙ old.opening;
    }

pub returns-then-found-saw-clause-gave : goal.returns-then-found-saw-clause-gave
returns-then-found-saw-clause-gave g c =
    let C = g.C.ClientWords in
    let e = c.make-found.ensures in
    (cut-leaves C.object _ _ _ _ _ c.args.gives _ _ c.if-found-saw.true c.loop-pass.invariant.1 e.tried e.alive
    c.split_seat-seat.ensures.2).saw

pub returns-then-found-saw-clause-made_one : goal.returns-then-found-saw-clause-made_one
returns-then-found-saw-clause-made_one g c =
    let C = g.C.ClientWords in
    let cut = c.split_seat-seat.ensures in
    let e = c.make-found.ensures in
    let l = cut-leaves C.object _ _ _ _ _ c.args.gives _ _ c.if-found-saw.true c.loop-pass.invariant.1 e.tried e.alive
    cut.2 in
    let b = cut-begins C.object _ _ _ _ _ _ c.args.gives _ _ c.if-found-saw.true (omega arith)
    (gives-few c.args.gives _ _ _ c.loop-pass.invariant.1.saw.facts_are c.requires.enough
    c.loop-pass.invariant.0.live.few)
    e.tried e.alive cut.2 cut.4 in
    l.made_one ∙ ap (λ n. c.args.pass.now.seat.me.0.made ++ n ∷ []) (sym b.came.number)

pub returns-then-found-saw-clause-looked : goal.returns-then-found-saw-clause-looked
returns-then-found-saw-clause-looked g c = λ none.
    let C = g.C.ClientWords in
    let e = c.make-found.ensures in
    let v = c.args.pass.now.seat.me.0 in
    let l = cut-leaves C.object v _ _ _ _ c.args.gives _ _ c.if-found-saw.true c.loop-pass.invariant.1 e.tried e.alive
    c.split_seat-seat.ensures.2 in
    subst (λ n. Saw C.object v (facts_lessened n v.facts) [] (as_before v c.split_seat-seat.new.seat.me.0)) none l.saw

pub returns-then-found-saw-clause-new_belongs : goal.returns-then-found-saw-clause-new_belongs
returns-then-found-saw-clause-new_belongs g c =
    let C = g.C.ClientWords in
    let cut = c.split_seat-seat.ensures in
    let old = c.loop-pass.invariant.0 in
    let e = c.make-found.ensures in
    let b = cut-begins C.object _ _ _ _ _ _ c.args.gives _ _ c.if-found-saw.true (omega arith)
    (gives-few c.args.gives _ _ _ c.loop-pass.invariant.1.saw.facts_are c.requires.enough old.live.few)
    e.tried e.alive cut.2 cut.4 in record {
      table = cut.3 ∙ (e.table ∙ old.table);
      slots = old.slots;
      passes = b.passes ∙ old.passes;
      limit = b.limit ∙ old.limit;
      cells = b.cells ∙ old.cells;
      mode = old.mode;
      ample = old.ample;
      looks = old.looks;
      live = b.alive;
      alone = not-alone C.primitive c.split_seat-seat.result.me.0 b.lonely;
      opening = b.opening ∙ old.opening;
    }

pub returns-then-found-saw-clause-came : goal.returns-then-found-saw-clause-came
returns-then-found-saw-clause-came g c =
    let C = g.C.ClientWords in
    let cut = c.split_seat-seat.ensures in
    let e = c.make-found.ensures in
    (cut-begins C.object _ _ _ _ _ _ c.args.gives _ _ c.if-found-saw.true (omega arith)
    (gives-few c.args.gives _ _ _ c.loop-pass.invariant.1.saw.facts_are c.requires.enough
    c.loop-pass.invariant.0.live.few)
    e.tried e.alive cut.2 cut.4).came

pub returns-then-found-saw-clause-crowd : goal.returns-then-found-saw-clause-crowd
returns-then-found-saw-clause-crowd g c = (
  (λ e. absurd (true≢false (sym e))),
  room-left c.split_seat-seat.new.seat.me c.make-found.new.seat.me.0 c.make-found.new.seat.me.1 c.make-found.result
      c.loop-pass.saw c.made_in.result c.args.self.now.passes c.args.self.now.table.shared.key.passes
      c.split_seat-seat.ensures.2 c.make-found.ensures.tried.crew c.if-found-saw.true c.made_in.ensures
      c.loop-pass-test.true c.args.self.now.passes_are,
)

pub loop-pass-smaller : goal.loop-pass-smaller
loop-pass-smaller g c =
    let e = c.make-found.ensures.tried in
    let rises : crew_turn c.loop-pass.saw < crew_turn c.make-found.result =
    e.later c.if-found-saw.false c.loop-pass.invariant.1.crew in
    let fits : c.make-found.result < 18446744073709551616 = c.make-found.type_inv in
    omega arith

pub loop-pass-preserved : goal.loop-pass-preserved
loop-pass-preserved g c =
    let C = g.C.ClientWords in
    let e = c.make-found.ensures in
    let saw = (e.tried.missed c.if-found-saw.false).saw in (
      record {
        table = e.table ∙ c.loop-pass.invariant.0.table;
        slots = c.loop-pass.invariant.0.slots;
        passes = saw.same.passes ∙ c.loop-pass.invariant.0.passes;
        limit = saw.same.limit ∙ c.loop-pass.invariant.0.limit;
        cells = saw.same.cells ∙ c.loop-pass.invariant.0.cells;
        mode = c.loop-pass.invariant.0.mode;
        ample = c.loop-pass.invariant.0.ample;
        looks = c.loop-pass.invariant.0.looks;
        live = e.alive;
        alone = e.alone;
        opening = saw.same.opening ∙ c.loop-pass.invariant.0.opening;
      },
      tries-again C.object _ _ _ c.args.gives _ _ c.if-found-saw.false c.loop-pass.invariant.1 e.tried,
    )

pub returns-clause-belongs : goal.returns-clause-belongs
returns-clause-belongs g c = c.loop-pass.invariant.0

pub returns-clause-crowd : goal.returns-clause-crowd
returns-clause-crowd g c =
    let crew = c.loop-pass.invariant.1.crew in
    let full = c.loop-pass-test.false in
    let passes = c.args.self.now.passes_are in ((λ e. le-by _ _ _ _ _ crew c.made_in.ensures full passes), λ e. refl)

pub returns-clause-refused : goal.returns-clause-refused
returns-clause-refused g c = c.loop-pass.invariant.1.saw

pub returns-clause-made_none : goal.returns-clause-made_none
returns-clause-made_none g c = c.loop-pass.invariant.1.made_none

pub returns-clause-looked : goal.returns-clause-looked
returns-clause-looked g c = λ none. c.loop-pass.invariant.1.saw

pub returns-clause-kept : goal.returns-clause-kept
returns-clause-kept g c = c.loop-pass.invariant.1.kept
