use Rattle.cqs_segment.proofs.Linked.{link-between, link-placed}
use Rattle.cqs_segment.proofs.Walks.{own-then}
use Rattle.cqs_segment.proofs.links.next_of.Goals as goal

pub returns-then-id-link-clause-next : goal.returns-then-id-link-clause-next
returns-then-id-link-clause-next g c =
    let v = c.args.seat.now.me.0 in
    let w = c.load_link-link.new.seat.me.0 in
    let link = c.load_link-link.result in
    let loaded = c.load_link-link.ensures.loaded in
    let fits = c.load_link-link.ensures.fits in (
      loaded,
      c.if-id-link.true,
      link-placed v w c.args.slot c.args.id link fits loaded c.if-id-link.true,
      link-between v w c.args.slot c.args.id link fits loaded c.requires.home,
    )

pub returns-then-id-link-clause-own : goal.returns-then-id-link-clause-own
returns-then-id-link-clause-own g c =
    own-then _ _ _ _ _ c.load_link-link.ensures.loaded.went c.load_link-link.ensures.loaded.stands

pub returns-else-id-link-clause-own : goal.returns-else-id-link-clause-own
returns-else-id-link-clause-own g c =
    own-then _ _ _ _ _ c.load_link-link.ensures.loaded.went c.load_link-link.ensures.loaded.stands
