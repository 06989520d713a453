use Rattle.std.proofs.Common.{rules, refl, ◌≡◌, ◌/◌, ◌<◌, ◌∙◌, [], ◌∷◌, ap, sym, subst, length, arith}
use Rattle.cqs_rule_laws.specs.Layout.{words_for}
use Rattle.cqs_rule_laws.specs.Placed.{KnowsPlace, place_at}
use Rattle.cqs_rule_laws.specs.declared.loads.Learned.TheVariants.{Nothing, Granted, Ended, Settled}
use Rattle.cqs_rule_laws.specs.Loads.{CarriesLearned}
use Rattle.cqs_rule_laws.proofs.CellLoads.{loads, load-low, learns-at}
use Rattle.cqs_rule.proofs.Counting.{belongs-counted, counted-none, keeps-counted, loaded-leaves, loaded-retires, told-loaded}
use Rattle.cqs_rule.proofs.Homes.{same-homes}
use Rattle.cqs_rule.proofs.Spared.{same-spares}
use Rattle.cqs_rule.proofs.queue.Queue.load_table.Goals as goal

pub load_at-found-requires-clause-inside : goal.load_at-found-requires-clause-inside
load_at-found-requires-clause-inside g c =
    let low = load-low _ c.args.word g.L.Load.load c.args.pass.now.inside c.requires.load in search rules

pub load_at-found-requires-clause-allowed : goal.load_at-found-requires-clause-allowed
load_at-found-requires-clause-allowed g c =
    let C = g.C.ClientWords in
    let x = c.args.self.now.table.shared.key.client in
    let client = g.met.C.ClientWords.keeps x in
    loads C.object (C.primitive x) _ _ client C.primitive x refl
    c.args.self.now.table.shared.table_id.slots c.args.pass.now.seat.id c.args.pass.now.seat.me
    g.L.Load.load c.args.word c.args.pass.now.live.0
    c.requires.suits
    c.requires.load

pub invariant_of-pass : goal.invariant_of-pass
invariant_of-pass g c =
    let C = g.C.ClientWords in
    let p = c.args.pass.now in
    let e = c.load_at-found.ensures in
    let u = c.load_at-found.new.seat.me.0 in
    let is = sym (c.learns.ensures ∙ learns-at g.L.Load.load p.seat.me.0 c.args.word p.ticket c.load_at-found.result
    c.requires.load p.ticket_is) ∙ c.in-Nothing.is in
    let carries = subst (λ z. CarriesLearned C.object.gains.held z p.seat.me.0.facts u.facts) is e.told.3 in
    let leaves = loaded-leaves C.object C.primitive g.L.Load.load Nothing c.args.word c.load_at-found.result p.ticket
    p.seat.me.0 u e.told.0 c.requires.load p.counted p.ticket_is (sym is) carries in
    let same = e.told.4 in
    let waits = carries.waits in
    let was = p.waits_are in record {
      live = (same.weight ∙ p.live.0, ap length e.told.1 ∙ p.live.1);
      number_is = same.number ∙ p.number_is;
      held_is = carries.held ∙ p.held_is;
      further_is = carries.further ∙ p.further_is;
      spares_are = same-spares _ _ _ _ p.spares carries.spares same.slots p.spares_are;
      homes_are = same-homes _ _ same p.homes p.homes_are;
      counted = leaves;
      retired = loaded-retires C.object C.primitive g.L.Load.load c.args.word c.load_at-found.result p.seat.me.0 u
          e.told.0 c.requires.load ∙ p.retired;
      shut = carries.open_slot ∙ p.shut;
      owes_is = carries.owes ∙ p.owes_is;
      waits_are = omega arith;
      ticket_is = λ k t. p.ticket_is k (carries.ticket k t);
      slots_are = ap words_for same.slots ∙ (p.slots_are ∙ ap (λ t. t.words) (sym e.table));
      inside = e.told.2.inside;
      few_cells = subst (λ n. n < 137438953472) (sym same.cells) p.few_cells;
    }

pub returns-in-Nothing-clause-belongs : goal.returns-in-Nothing-clause-belongs
returns-in-Nothing-clause-belongs g c =
    let b = c.requires.belongs in
    let e = c.load_at-found.ensures in
    let same = e.told.4 in record {
      table = e.table ∙ b.table;
      slots = b.slots;
      passes = same.passes ∙ b.passes;
      limit = same.limit ∙ b.limit;
      cells = same.cells ∙ b.cells;
      mode = b.mode;
      ample = b.ample;
      looks = b.looks;
      live = e.told.2;
      opening = same.opening ∙ b.opening;
      alone = e.alone;
    }

pub returns-in-Nothing-clause-saw : goal.returns-in-Nothing-clause-saw
returns-in-Nothing-clause-saw g c =
    let C = g.C.ClientWords in
    let p = c.args.pass.now in
    let e = c.load_at-found.ensures in
    let u = c.load_at-found.new.seat.me.0 in
    let is = sym (c.learns.ensures ∙ learns-at g.L.Load.load p.seat.me.0 c.args.word p.ticket c.load_at-found.result
    c.requires.load p.ticket_is) ∙ c.in-Nothing.is in
    let carries = subst (λ z. CarriesLearned C.object.gains.held z p.seat.me.0.facts u.facts) is e.told.3 in
    let leaves = loaded-leaves C.object C.primitive g.L.Load.load Nothing c.args.word c.load_at-found.result p.ticket
    p.seat.me.0 u e.told.0 c.requires.load p.counted p.ticket_is (sym is) carries in
    told-loaded C.object C.primitive g.L.Load.load c.args.word c.load_at-found.result p.seat.me.0 u u p.counted e.told.0
    (counted-none u leaves)

pub count_cell-requires-clause-place : goal.count_cell-requires-clause-place
count_cell-requires-clause-place g c =
    let C = g.C.ClientWords in
    let p = c.args.pass.now in
    let e = c.load_at-found.ensures in
    let u = c.load_at-found.new.seat.me.0 in
    let is = sym (c.learns.ensures ∙ learns-at g.L.Load.load p.seat.me.0 c.args.word p.ticket c.load_at-found.result
    c.requires.load p.ticket_is) ∙ c.in-Granted.is in
    let carries = subst (λ z. CarriesLearned C.object.gains.held z p.seat.me.0.facts u.facts) is e.told.3 in
    let leaves = loaded-leaves C.object C.primitive g.L.Load.load Granted c.args.word c.load_at-found.result p.ticket
    p.seat.me.0 u e.told.0 c.requires.load p.counted p.ticket_is (sym is) carries in
    subst (λ k. KnowsPlace u (place_at c.args.word k)) (sym c.index_in.ensures) leaves.place

pub count_cell-requires-clause-one : goal.count_cell-requires-clause-one
count_cell-requires-clause-one g c =
    let C = g.C.ClientWords in
    let p = c.args.pass.now in
    let e = c.load_at-found.ensures in
    let u = c.load_at-found.new.seat.me.0 in
    let is = sym (c.learns.ensures ∙ learns-at g.L.Load.load p.seat.me.0 c.args.word p.ticket c.load_at-found.result
    c.requires.load p.ticket_is) ∙ c.in-Granted.is in
    let carries = subst (λ z. CarriesLearned C.object.gains.held z p.seat.me.0.facts u.facts) is e.told.3 in
    let leaves = loaded-leaves C.object C.primitive g.L.Load.load Granted c.args.word c.load_at-found.result p.ticket
    p.seat.me.0 u e.told.0 c.requires.load p.counted p.ticket_is (sym is) carries in
    subst (λ k. u.facts.duties ≡ (k / 32) ∷ []) (sym c.index_in.ensures) leaves.one

pub invariant_of-pass-in-Granted : goal.invariant_of-pass-in-Granted
invariant_of-pass-in-Granted g c =
    let C = g.C.ClientWords in
    let p = c.args.pass.now in
    let e = c.load_at-found.ensures in
    let u = c.load_at-found.new.seat.me.0 in
    let is = sym (c.learns.ensures ∙ learns-at g.L.Load.load p.seat.me.0 c.args.word p.ticket c.load_at-found.result
    c.requires.load p.ticket_is) ∙ c.in-Granted.is in
    let carries = subst (λ z. CarriesLearned C.object.gains.held z p.seat.me.0.facts u.facts) is e.told.3 in
    let same = e.told.4 in
    let waits = carries.waits in
    let was = p.waits_are in
    let done = c.count_cell.ensures in
    let seat = c.count_cell.new.seat in
    keeps-counted u seat.me.0 c.load_at-found.new.seat.me.1 seat.me.1 seat.table_id.words _ _ _ _ _ _ p.spares
    p.homes (record {
      live = (same.weight ∙ p.live.0, ap length e.told.1 ∙ p.live.1);
      number_is = same.number ∙ p.number_is;
      held_is = carries.held ∙ (ap C.object.gains.held p.held_is ∙ sym c.held_after_take-pass.ensures);
      further_is = carries.further ∙ p.further_is;
      spares_are = same-spares _ _ _ _ p.spares carries.spares same.slots p.spares_are;
      homes_are = same-homes _ _ same p.homes p.homes_are;
      retired = loaded-retires C.object C.primitive g.L.Load.load c.args.word c.load_at-found.result p.seat.me.0 u
          e.told.0 c.requires.load ∙ p.retired;
      shut = carries.open_slot ∙ p.shut;
      owes_is = carries.owes ∙ p.owes_is;
      waits_are = omega arith;
      ticket_is = λ k t. p.ticket_is k (carries.ticket k t);
      slots_are = ap words_for same.slots ∙ (p.slots_are ∙ ap (λ t. t.words) (sym (done.table ∙ e.table)));
      inside = e.told.2.inside;
      few_cells = subst (λ n. n < 137438953472) (sym same.cells) p.few_cells;
    }) done.counted done.bare

pub returns-in-Granted-clause-belongs : goal.returns-in-Granted-clause-belongs
returns-in-Granted-clause-belongs g c =
    let e = c.load_at-found.ensures in
    let done = c.count_cell.ensures in
    belongs-counted c.args.self.now c.args.pass.now _ c.load_at-found.new.seat.me.0 c.requires.belongs e.told.4 e.told.2
    e.alone done.counted (done.table ∙ e.table)

pub returns-in-Granted-clause-saw : goal.returns-in-Granted-clause-saw
returns-in-Granted-clause-saw g c =
    let C = g.C.ClientWords in
    let p = c.args.pass.now in
    told-loaded C.object C.primitive g.L.Load.load c.args.word c.load_at-found.result p.seat.me.0
    c.load_at-found.new.seat.me.0 c.count_cell.new.seat.me.0 p.counted c.load_at-found.ensures.told.0
    c.count_cell.ensures.counted

pub count_cell-requires-in-Ended-clause-place : goal.count_cell-requires-in-Ended-clause-place
count_cell-requires-in-Ended-clause-place g c =
    let C = g.C.ClientWords in
    let p = c.args.pass.now in
    let e = c.load_at-found.ensures in
    let u = c.load_at-found.new.seat.me.0 in
    let is = sym (c.learns.ensures ∙ learns-at g.L.Load.load p.seat.me.0 c.args.word p.ticket c.load_at-found.result
    c.requires.load p.ticket_is) ∙ c.in-Ended.is in
    let carries = subst (λ z. CarriesLearned C.object.gains.held z p.seat.me.0.facts u.facts) is e.told.3 in
    let leaves = loaded-leaves C.object C.primitive g.L.Load.load Ended c.args.word c.load_at-found.result p.ticket
    p.seat.me.0 u e.told.0 c.requires.load p.counted p.ticket_is (sym is) carries in
    leaves.place

pub count_cell-requires-in-Ended-clause-one : goal.count_cell-requires-in-Ended-clause-one
count_cell-requires-in-Ended-clause-one g c =
    let C = g.C.ClientWords in
    let p = c.args.pass.now in
    let e = c.load_at-found.ensures in
    let u = c.load_at-found.new.seat.me.0 in
    let is = sym (c.learns.ensures ∙ learns-at g.L.Load.load p.seat.me.0 c.args.word p.ticket c.load_at-found.result
    c.requires.load p.ticket_is) ∙ c.in-Ended.is in
    let carries = subst (λ z. CarriesLearned C.object.gains.held z p.seat.me.0.facts u.facts) is e.told.3 in
    let leaves = loaded-leaves C.object C.primitive g.L.Load.load Ended c.args.word c.load_at-found.result p.ticket
    p.seat.me.0 u e.told.0 c.requires.load p.counted p.ticket_is (sym is) carries in
    leaves.one

pub invariant_of-pass-in-Ended : goal.invariant_of-pass-in-Ended
invariant_of-pass-in-Ended g c =
    let C = g.C.ClientWords in
    let p = c.args.pass.now in
    let e = c.load_at-found.ensures in
    let u = c.load_at-found.new.seat.me.0 in
    let is = sym (c.learns.ensures ∙ learns-at g.L.Load.load p.seat.me.0 c.args.word p.ticket c.load_at-found.result
    c.requires.load p.ticket_is) ∙ c.in-Ended.is in
    let carries = subst (λ z. CarriesLearned C.object.gains.held z p.seat.me.0.facts u.facts) is e.told.3 in
    let same = e.told.4 in
    let waits = carries.waits in
    let was = p.waits_are in
    let done = c.count_cell-in-Ended.ensures in
    let seat = c.count_cell-in-Ended.new.seat in
    keeps-counted u seat.me.0 c.load_at-found.new.seat.me.1 seat.me.1 seat.table_id.words _ _ _ _ _ _ p.spares
    p.homes (record {
      live = (same.weight ∙ p.live.0, ap length e.told.1 ∙ p.live.1);
      number_is = same.number ∙ p.number_is;
      held_is = carries.held ∙ p.held_is;
      further_is = carries.further ∙ p.further_is;
      spares_are = same-spares _ _ _ _ p.spares carries.spares same.slots p.spares_are;
      homes_are = same-homes _ _ same p.homes p.homes_are;
      retired = loaded-retires C.object C.primitive g.L.Load.load c.args.word c.load_at-found.result p.seat.me.0 u
          e.told.0 c.requires.load ∙ p.retired;
      shut = carries.open_slot ∙ p.shut;
      owes_is = carries.owes;
      waits_are = omega arith;
      ticket_is = λ k t. p.ticket_is k (carries.ticket k t);
      slots_are = ap words_for same.slots ∙ (p.slots_are ∙ ap (λ t. t.words) (sym (done.table ∙ e.table)));
      inside = e.told.2.inside;
      few_cells = subst (λ n. n < 137438953472) (sym same.cells) p.few_cells;
    }) done.counted done.bare

pub returns-in-Ended-clause-belongs : goal.returns-in-Ended-clause-belongs
returns-in-Ended-clause-belongs g c =
    let e = c.load_at-found.ensures in
    let done = c.count_cell-in-Ended.ensures in
    belongs-counted c.args.self.now c.args.pass.now _ c.load_at-found.new.seat.me.0 c.requires.belongs e.told.4 e.told.2
    e.alone done.counted (done.table ∙ e.table)

pub returns-in-Ended-clause-saw : goal.returns-in-Ended-clause-saw
returns-in-Ended-clause-saw g c =
    let C = g.C.ClientWords in
    let p = c.args.pass.now in
    told-loaded C.object C.primitive g.L.Load.load c.args.word c.load_at-found.result p.seat.me.0
    c.load_at-found.new.seat.me.0 c.count_cell-in-Ended.new.seat.me.0 p.counted c.load_at-found.ensures.told.0
    c.count_cell-in-Ended.ensures.counted

pub count_cell-requires-clause-none : goal.count_cell-requires-clause-none
count_cell-requires-clause-none g c =
    let C = g.C.ClientWords in
    let p = c.args.pass.now in
    loaded-retires C.object C.primitive g.L.Load.load c.args.word c.load_at-found.result p.seat.me.0
    c.load_at-found.new.seat.me.0 c.load_at-found.ensures.told.0 c.requires.load ∙ p.retired

pub count_cell-requires-in-Ended-clause-none : goal.count_cell-requires-in-Ended-clause-none
count_cell-requires-in-Ended-clause-none g c =
    let C = g.C.ClientWords in
    let p = c.args.pass.now in
    loaded-retires C.object C.primitive g.L.Load.load c.args.word c.load_at-found.result p.seat.me.0
    c.load_at-found.new.seat.me.0 c.load_at-found.ensures.told.0 c.requires.load ∙ p.retired

pub count_cell-requires-in-Settled-clause-place : goal.count_cell-requires-in-Settled-clause-place
count_cell-requires-in-Settled-clause-place g c =
    let C = g.C.ClientWords in
    let p = c.args.pass.now in
    let e = c.load_at-found.ensures in
    let u = c.load_at-found.new.seat.me.0 in
    let is = sym (c.learns.ensures ∙ learns-at g.L.Load.load p.seat.me.0 c.args.word p.ticket c.load_at-found.result
    c.requires.load p.ticket_is) ∙ c.in-Settled.is in
    let carries = subst (λ z. CarriesLearned C.object.gains.held z p.seat.me.0.facts u.facts) is e.told.3 in
    let leaves = loaded-leaves C.object C.primitive g.L.Load.load Settled c.args.word c.load_at-found.result p.ticket
    p.seat.me.0 u e.told.0 c.requires.load p.counted p.ticket_is (sym is) carries in
    subst (λ k. KnowsPlace u (place_at c.args.word k)) (sym c.index_in-in-Settled.ensures) leaves.place

pub count_cell-requires-in-Settled-clause-one : goal.count_cell-requires-in-Settled-clause-one
count_cell-requires-in-Settled-clause-one g c =
    let C = g.C.ClientWords in
    let p = c.args.pass.now in
    let e = c.load_at-found.ensures in
    let u = c.load_at-found.new.seat.me.0 in
    let is = sym (c.learns.ensures ∙ learns-at g.L.Load.load p.seat.me.0 c.args.word p.ticket c.load_at-found.result
    c.requires.load p.ticket_is) ∙ c.in-Settled.is in
    let carries = subst (λ z. CarriesLearned C.object.gains.held z p.seat.me.0.facts u.facts) is e.told.3 in
    let leaves = loaded-leaves C.object C.primitive g.L.Load.load Settled c.args.word c.load_at-found.result p.ticket
    p.seat.me.0 u e.told.0 c.requires.load p.counted p.ticket_is (sym is) carries in
    subst (λ k. u.facts.duties ≡ (k / 32) ∷ []) (sym c.index_in-in-Settled.ensures) leaves.one

pub invariant_of-pass-in-Settled : goal.invariant_of-pass-in-Settled
invariant_of-pass-in-Settled g c =
    let C = g.C.ClientWords in
    let p = c.args.pass.now in
    let e = c.load_at-found.ensures in
    let u = c.load_at-found.new.seat.me.0 in
    let is = sym (c.learns.ensures ∙ learns-at g.L.Load.load p.seat.me.0 c.args.word p.ticket c.load_at-found.result
    c.requires.load p.ticket_is) ∙ c.in-Settled.is in
    let carries = subst (λ z. CarriesLearned C.object.gains.held z p.seat.me.0.facts u.facts) is e.told.3 in
    let same = e.told.4 in
    let waits = carries.waits in
    let was = p.waits_are in
    let done = c.count_cell-in-Settled.ensures in
    let seat = c.count_cell-in-Settled.new.seat in
    keeps-counted u seat.me.0 c.load_at-found.new.seat.me.1 seat.me.1 seat.table_id.words _ _ _ _ _ _ p.spares
    p.homes (record {
      live = (same.weight ∙ p.live.0, ap length e.told.1 ∙ p.live.1);
      number_is = same.number ∙ p.number_is;
      held_is = carries.held ∙ p.held_is;
      further_is = carries.further ∙ p.further_is;
      spares_are = same-spares _ _ _ _ p.spares carries.spares same.slots p.spares_are;
      homes_are = same-homes _ _ same p.homes p.homes_are;
      retired = loaded-retires C.object C.primitive g.L.Load.load c.args.word c.load_at-found.result p.seat.me.0 u
          e.told.0 c.requires.load ∙ p.retired;
      shut = carries.open_slot ∙ p.shut;
      owes_is = carries.owes;
      waits_are = omega arith;
      ticket_is = λ k t. p.ticket_is k (carries.ticket k t);
      slots_are = ap words_for same.slots ∙ (p.slots_are ∙ ap (λ t. t.words) (sym (done.table ∙ e.table)));
      inside = e.told.2.inside;
      few_cells = subst (λ n. n < 137438953472) (sym same.cells) p.few_cells;
    }) done.counted done.bare

pub returns-in-Settled-clause-belongs : goal.returns-in-Settled-clause-belongs
returns-in-Settled-clause-belongs g c =
    let e = c.load_at-found.ensures in
    let done = c.count_cell-in-Settled.ensures in
    belongs-counted c.args.self.now c.args.pass.now _ c.load_at-found.new.seat.me.0 c.requires.belongs e.told.4 e.told.2
    e.alone done.counted (done.table ∙ e.table)

pub returns-in-Settled-clause-saw : goal.returns-in-Settled-clause-saw
returns-in-Settled-clause-saw g c =
    let C = g.C.ClientWords in
    let p = c.args.pass.now in
    told-loaded C.object C.primitive g.L.Load.load c.args.word c.load_at-found.result p.seat.me.0
    c.load_at-found.new.seat.me.0 c.count_cell-in-Settled.new.seat.me.0 p.counted c.load_at-found.ensures.told.0
    c.count_cell-in-Settled.ensures.counted

pub count_cell-requires-in-Settled-clause-none : goal.count_cell-requires-in-Settled-clause-none
count_cell-requires-in-Settled-clause-none g c =
    let C = g.C.ClientWords in
    let p = c.args.pass.now in
    loaded-retires C.object C.primitive g.L.Load.load c.args.word c.load_at-found.result p.seat.me.0
    c.load_at-found.new.seat.me.0 c.load_at-found.ensures.told.0 c.requires.load ∙ p.retired
