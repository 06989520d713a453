use Rattle.std.proofs.Common.{◌<◌, length, refl, ap, sym, subst, arith}
use Rattle.crossbeam_queue.specs.Passes.{view}
use Rattle.cqs_core.proofs.Places.{get-below}
use Rattle.cqs_mailbox.specs.declared.mailbox.Desk.{Desk}
use Rattle.cqs_mailbox.specs.Mailboxes.{IsDeskOf}
use Rattle.cqs_mailbox.specs.Tallies.{given_in}
use Rattle.cqs_mailbox.proofs.DeskKeeps.{covered-by, given-kept}
use Rattle.cqs_mailbox.proofs.DesksKept.{met-kept, pass-at, queue-at}
use Rattle.cqs_mailbox.proofs.PostsKeep.{its-pass}
use Rattle.cqs_mailbox.proofs.SendersKeep.{called-for, senders-set}
use Rattle.cqs_mailbox.proofs.mailbox.Mailbox.meet.Goals as goal

pub returns-in-Err-clause-back : goal.returns-in-Err-clause-back
returns-in-Err-clause-back c = ap (λ x. record c.args.post { pool = x }) c.in-Err.ensures.back

pub returns-in-Err-clause-unchanged : goal.returns-in-Err-clause-unchanged
returns-in-Err-clause-unchanged c = ap (λ x. record c.args.desk.now { pool = x }) c.in-Err.ensures.unchanged

pub returns-in-Err-clause-belongs : goal.returns-in-Err-clause-belongs
returns-in-Err-clause-belongs c =
    subst (λ (d : Desk). IsDeskOf c.args.self.now d) (sym (returns-in-Err-clause-unchanged c)) c.requires.belongs

pub returns-in-Err-clause-busy : goal.returns-in-Err-clause-busy
returns-in-Err-clause-busy c = (λ is. c.in-Err.ensures.busy.0 refl, λ busy. refl)

pub index-requires : goal.index-requires
index-requires c =
    let low : c.args.post.sender < length c.args.self.now.replies.items =
    get-below _ _ _ c.requires.post_belongs.replies.there in
    omega (arith, low)

pub index_mut-requires : goal.index_mut-requires
index_mut-requires c =
    let many = c.requires.belongs.replies.many in
    let low : c.args.post.sender < length c.args.self.now.replies.items =
    get-below _ _ _ c.requires.post_belongs.replies.there in
    omega (arith, many, low)

pub join-requires-2-clause-queue : goal.join-requires-2-clause-queue
join-requires-2-clause-queue c =
    let b = c.requires.belongs in
    let low : c.args.post.sender < length c.args.self.now.replies.items =
    get-below _ _ _ c.requires.post_belongs.replies.there in
    (b.replies.each _ _ _ (queue-at _ _ _ low c.index.ensures) (pass-at _ _ _ _ b low c.index_mut.ensures.value)).pass

pub join-requires-2-clause-post_queue : goal.join-requires-2-clause-post_queue
join-requires-2-clause-post_queue c = its-pass _ _ _ _ _ c.requires.post_belongs.replies c.index.ensures

pub join-requires-2-clause-desk : goal.join-requires-2-clause-desk
join-requires-2-clause-desk c =
    let b = c.requires.belongs in
    let low : c.args.post.sender < length c.args.self.now.replies.items =
    get-below _ _ _ c.requires.post_belongs.replies.there in
    (b.replies.each _ _ _ (queue-at _ _ _ low c.index.ensures) (pass-at _ _ _ _ b low c.index_mut.ensures.value)).desk

pub join-requires-2-clause-post : goal.join-requires-2-clause-post
join-requires-2-clause-post c = c.requires.post_belongs.replies.post

pub returns-clause-belongs : goal.returns-clause-belongs
returns-clause-belongs c =
    let b = c.requires.belongs in
    let low : c.args.post.sender < length c.args.self.now.replies.items =
    get-below _ _ _ c.requires.post_belongs.replies.there in
    let which = queue-at _ _ _ low c.index.ensures in
    let there = pass-at _ _ _ _ b low c.index_mut.ensures.value in
    met-kept _ _ _ (view c.args.post.letters) b c.meet.ensures.belongs c.meet.ensures.ready refl c.join.ensures.queue
    c.join.ensures.is_desk c.join.ensures.met refl
    (senders-set _ _ _ _ _ _ _ _ _ b.replies (omega arith) which there (c.join-2).ensures.queue
    (c.join-2).ensures.is_desk c.join.ensures.low)
    (λ s. given-kept _ s _ _ _ there (ap given_in (c.join-2).ensures.met))

pub returns-clause-met : goal.returns-clause-met
returns-clause-met c =
    let b = c.requires.belongs in
    let low : c.args.post.sender < length c.args.self.now.replies.items =
    get-below _ _ _ c.requires.post_belongs.replies.there in
    let there = pass-at _ _ _ _ b low c.index_mut.ensures.value in record {
      pool = c.in_default.ensures.met;
      elements = c.in_default.ensures.elements;
      letters = c.join.ensures.met;
      in_order = c.join.ensures.in_order;
      replies = called-for _ _ _ _ _ there (c.join-2).ensures.met;
      covered = covered-by c.args.post.sender c.args.desk.now.replies.items c.index_mut.result.now (c.join-2).new.desk
          (view c.args.post.replies) there (c.join-2).ensures.met (c.join-2).ensures.covered;
    }
