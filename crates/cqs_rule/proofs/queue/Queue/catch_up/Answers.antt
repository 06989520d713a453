use Rattle.std.proofs.Common.{rules, ◌∙◌, [], ap}
use Rattle.cqs_rule_laws.specs.Crew.{IsSole}
use Rattle.cqs_rule_laws.specs.Lists.{IsPrefix}
use Rattle.cqs_rule_laws.specs.Saw.{Saw}
use Rattle.cqs_rule_laws.specs.Views.{as_before}
use Rattle.cqs_rule_laws.proofs.CrewLooks.{counts-after}
use Rattle.cqs_rule_laws.proofs.Notes.{notes, takes-note, one-history}
use Rattle.cqs_rule_laws.proofs.Tries.{sole-tells}
use Rattle.cqs_rule.proofs.Looked.{crew-inside, keeps-looked}
use Rattle.cqs_rule.proofs.queue.Queue.catch_up.Goals as goal

pub split_seat-note-requires : goal.split_seat-note-requires
split_seat-note-requires g c =
    let C = g.C.ClientWords in
    let q = c.args.self.now in
    let x = q.table.shared.key in
    let o = c.args.other.now in
    let b = c.requires.other_belongs.table in (
      b,
      crew-inside q o b,
      notes C.object (C.primitive x.client) _ _ o.seat.id o.seat.me.0,
    )

pub join_seat-requires : goal.join_seat-requires
join_seat-requires g c =
    let C = g.C.ClientWords in
    let q = c.args.self.now in
    let x = q.table.shared.key in
    let p = c.args.pass.now in
    let n = c.split_seat-note in (
      c.requires.belongs.table,
      n.ensures.3 ∙ c.requires.other_belongs.table,
      ap (λ z. z.1) n.ensures.4,
      crew-inside q p c.requires.belongs.table,
      takes-note C.object (C.primitive x.client) _ _ p.seat.id n.result.id p.seat.me.0 n.result.me.0 p.live.0
          (ap (λ z. z.0.weight) n.ensures.4),
    )

pub load_at-requires-clause-allowed : goal.load_at-requires-clause-allowed
load_at-requires-clause-allowed g c =
    let C = g.C.ClientWords in
    let q = c.args.self.now in
    let x = q.table.shared.key in
    counts-after C.object (C.primitive x.client) _ _ (g.met.C.ClientWords.keeps x.client) (IsSole C.primitive)
    q.table.shared.table_id.slots _ _ (ap (λ z. z.0.weight) c.join_seat.ensures.2 ∙ c.args.pass.now.live.0)
    (sole-tells C.primitive x.client)

pub returns-clause-one_history : goal.returns-clause-one_history
returns-clause-one_history g c =
    let p = c.args.pass.now.seat.me.0 in
    let o = c.args.other.now.seat.me.0 in
    let w = c.load_at.new.seat.me.0 in
    let saw : Saw g.C.ClientWords.object p p.facts [] (as_before p w) = search rules in
    let all : IsPrefix o.seen w.seen = search rules in
    one-history g.C.ClientWords.object p o w p.facts saw all

pub invariant_of-pass : goal.invariant_of-pass
invariant_of-pass g c =
    let p = c.args.pass.now in
    let v = p.seat.me.0 in
    let e = c.load_at.ensures in
    let j = c.join_seat.ensures in
    let seat = c.load_at.new.seat in
    let saw : Saw g.C.ClientWords.object v v.facts [] (as_before v seat.me.0) = search rules in
    keeps-looked p seat.me.0 saw e.told.0.0.weight e.told.0.2.inside seat.me.1 seat.table_id
    (e.told.0.1 ∙ ap (λ z. z.1) j.2) (e.table ∙ j.0)
