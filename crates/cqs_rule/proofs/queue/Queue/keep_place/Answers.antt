use Rattle.std.proofs.Common.{◌≤◌, refl, arith}
use Rattle.cqs_rule.specs.Passes.{pass_view}
use Rattle.cqs_rule_laws.proofs.Places.{home-of-cell}
use Rattle.cqs_rule.proofs.Homes.{home-of, kept-is}
use Rattle.cqs_rule.proofs.Segments.{all-slots}
use Rattle.cqs_rule.proofs.queue.Queue.keep_place.Goals as goal

pub overflow_sub-home : goal.overflow_sub-home
overflow_sub-home g c =
    let high = (home-of-cell (pass_view c.args.pass.now) c.args.at.word c.args.at.index c.requires.place).0 in
    omega arith

pub invariant_of-pass : goal.invariant_of-pass
invariant_of-pass g c =
    let p = c.args.pass.now in
    let v = pass_view p in
    let high = (home-of-cell v c.args.at.word c.args.at.index c.requires.place).0 in
    let same = all-slots c.args.self.now p c.requires.belongs in
    let enough = c.args.self.now.few_slots in
    let few : v.slots ≤ 65536 = omega arith in record {
      live = p.live;
      number_is = p.number_is;
      held_is = p.held_is;
      further_is = p.further_is;
      spares_are = p.spares_are;
      homes_are = record {
        suspended = p.homes_are.suspended;
        resumed = kept-is v _ (home-of v c.args.at.word c.args.at.index _ few c.requires.place refl (omega arith));
      };
      counted = p.counted;
      retired = p.retired;
      shut = p.shut;
      owes_is = p.owes_is;
      waits_are = p.waits_are;
      ticket_is = p.ticket_is;
      slots_are = p.slots_are;
      inside = p.inside;
      few_cells = p.few_cells;
    }

pub invariant_of-pass-else-pass : goal.invariant_of-pass-else-pass
invariant_of-pass-else-pass g c =
    let p = c.args.pass.now in
    let v = pass_view p in
    let high = (home-of-cell v c.args.at.word c.args.at.index c.requires.place).0 in
    let same = all-slots c.args.self.now p c.requires.belongs in
    let enough = c.args.self.now.few_slots in
    let few : v.slots ≤ 65536 = omega arith in record {
      live = p.live;
      number_is = p.number_is;
      held_is = p.held_is;
      further_is = p.further_is;
      spares_are = p.spares_are;
      homes_are = record {
        suspended = kept-is v _ (home-of v c.args.at.word c.args.at.index _ few c.requires.place refl (omega arith));
        resumed = p.homes_are.resumed;
      };
      counted = p.counted;
      retired = p.retired;
      shut = p.shut;
      owes_is = p.owes_is;
      waits_are = p.waits_are;
      ticket_is = p.ticket_is;
      slots_are = p.slots_are;
      inside = p.inside;
      few_cells = p.few_cells;
    }
