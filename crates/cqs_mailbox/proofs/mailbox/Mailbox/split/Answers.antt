use Rattle.std.proofs.Common.{◌≡◌, ◌<◌, length, refl, ap, sym, ◌∙◌, subst, arith}
use Rattle.crossbeam_queue.specs.Passes.{view}
use Rattle.cqs_pool_object.specs.declared.entries.PoolEntry.{PoolEntry}
use Rattle.cqs_rule_laws.specs.declared.view.View.{View}
use Rattle.cqs_rule_laws.specs.CallRule.{IsReady}
use Rattle.cqs_mailbox.specs.Mail.{IsPost, made_in, sent_in}
use Rattle.cqs_mailbox.specs.Mailboxes.{most_posts, posts_of, room_of}
use Rattle.cqs_mailbox.specs.Tallies as tallies
use Rattle.cqs_mailbox.specs.Tallies.{desk_part, given_in}
use Rattle.cqs_mailbox.proofs.DeskKeeps.{given-kept}
use Rattle.cqs_mailbox.proofs.DesksKept.{hired-kept, new-post, none-out-yet, none-sent, pass-at, queue-at}
use Rattle.cqs_mailbox.proofs.SendersKeep.{called-for, senders-set}
use Rattle.cqs_mailbox.proofs.SpareKeeps.{own-looked, spare-fewer, spare-taken, unnamed-looked}
use Rattle.cqs_mailbox.proofs.mailbox.Mailbox.split.Goals as goal

pub returns-then-at-len-clause-crowd : goal.returns-then-at-len-clause-crowd
returns-then-at-len-clause-crowd c =
    let posts = c.requires.belongs.posts in (λ is. omega (arith, posts), λ full. refl)

pub returns-in_default-clause-crowd : goal.returns-in_default-clause-crowd
returns-in_default-clause-crowd c =
    let posts = c.requires.belongs.posts in (λ is. absurd (cc), λ full. absurd (omega (arith, posts)))

pub overflow_add-desk : goal.overflow_add-desk
overflow_add-desk c =
    let few = c.requires.belongs.mailbox.few in
    let low : c.args.desk.now.posts < length c.args.self.now.replies.items = omega arith in
    omega (arith, few, low)

pub index_mut-requires : goal.index_mut-requires
index_mut-requires c =
    let many = c.requires.belongs.replies.many in
    let low : c.args.desk.now.posts < length c.args.self.now.replies.items = omega arith in
    omega (arith, many, low)

pub part-requires-clause-queue : goal.part-requires-clause-queue
part-requires-clause-queue c =
    let b = c.requires.belongs in
    let low : c.args.desk.now.posts < length c.args.self.now.replies.items = omega arith in
    (b.replies.each _ _ _ (queue-at _ _ _ low c.index.ensures) (pass-at _ _ _ _ b low c.index_mut.ensures.value)).pass

pub part-requires-clause-none : goal.part-requires-clause-none
part-requires-clause-none c =
    let b = c.requires.belongs in
    let posts = b.posts in
    let low : c.args.desk.now.posts < length c.args.self.now.replies.items = omega arith in
    (b.replies.each _ _ _ (queue-at _ _ _ low c.index.ensures)
    (pass-at _ _ _ _ b low c.index_mut.ensures.value)).unmade (omega (arith, posts))

pub catch_up-requires-clause-belongs : goal.catch_up-requires-clause-belongs
catch_up-requires-clause-belongs c κs =
    (spare-taken _ _ _ _ c.in-Some.pool c.in-Some.ensures.items c.requires.belongs.spare).mine

pub returns-clause-belongs : goal.returns-clause-belongs
returns-clause-belongs c =
    let b = c.requires.belongs in
    let posts = b.posts in
    let made = c.hire.ensures.made in
    let low : c.args.desk.now.posts < length c.args.self.now.replies.items = omega arith in
    let fewer : posts_of c.args.desk.now < most_posts c.args.self.now = omega (arith, posts, low) in
    let which = queue-at c.args.self.now.replies.items c.args.desk.now.posts c.index.result.now low c.index.ensures in
    let there =
    pass-at c.args.self.now c.args.desk.now c.args.desk.now.posts c.index_mut.result.now b low
    c.index_mut.ensures.value in
    let none =
    (b.replies.each c.args.desk.now.posts c.index.result.now c.index_mut.result.now which there).unmade
    (omega (arith, posts)) in
    let same : given_in (view c.part.new.desk) ≡ given_in (view c.index_mut.result.now) =
    ap given_in c.part.ensures.desk ∙ sym (ap given_in none) in
    hired-kept _ _ _ b c.catch_up.ensures.other_belongs
    (subst (λ (v : View PoolEntry (Unit {0})). IsReady v.facts) (sym c.catch_up.ensures.other_stays) b.ready)
    c.hire.ensures.queue c.hire.ensures.is_desk c.hire.ensures.desk made refl low
    (spare-fewer _ _ _ _ _ _ c.in-Some.pool c.in-Some.ensures.items made fewer b.spare)
    (senders-set (room_of c.args.self.now) (made_in (view c.args.desk.now.letters)) (made_in (view c.hire.new.desk))
    c.args.desk.now.posts _ _ c.index.result.now c.index_mut.result.now c.part.new.desk b.replies
    (omega (arith, made)) which there c.part.ensures.queue
    (subst tallies.IsDesk (sym c.part.ensures.desk) tt) (omega (arith, made, posts)))
    (λ s. given-kept c.args.desk.now.posts s c.args.desk.now.replies.items c.index_mut.result.now c.part.new.desk
    there same)

pub returns-clause-crowd : goal.returns-clause-crowd
returns-clause-crowd c =
    let posts = c.requires.belongs.posts in (λ is. absurd (cc), λ full. absurd (omega (arith, posts)))

pub returns-clause-new_belongs : goal.returns-clause-new_belongs
returns-clause-new_belongs c =
    let b = c.requires.belongs in
    let low : c.args.desk.now.posts < length c.args.self.now.replies.items = omega arith in
    let which = queue-at _ _ _ low c.index.ensures in
    let there = pass-at _ _ _ _ b low c.index_mut.ensures.value in record {
      mailbox = b.mailbox;
      pool = c.catch_up.ensures.belongs;
      letters = c.hire.ensures.new_queue;
      post = subst (λ n. IsPost n (view c.hire.result)) (sym b.posts) c.hire.ensures.is_post;
      next = sym (ap (λ v. length (sent_in v)) c.hire.ensures.post
          ∙ ap (λ l. length l) (none-sent (view c.args.desk.now.letters)));
      replies = record {
        queue = c.index.result.now;
        there = which;
        room_is = (b.replies.each _ _ _ which there).room_is;
        pass = c.part.ensures.new_queue;
        post = subst tallies.IsPost (sym c.part.ensures.post) tt;
      };
      out = rw c.in-Ok.ensures.items (none-out-yet _);
      space = c.in-Ok.ensures.exact ∙ (c.capacity.ensures ∙ b.mailbox.room_is);
    }

pub returns-clause-hired : goal.returns-clause-hired
returns-clause-hired c =
    let b = c.requires.belongs in
    let low : c.args.desk.now.posts < length c.args.self.now.replies.items = omega arith in
    let posts = b.posts in
    let which = queue-at _ _ _ low c.index.ensures in
    let there = pass-at _ _ _ _ b low c.index_mut.ensures.value in
    let none = (b.replies.each _ _ _ which there).unmade (omega (arith, posts)) in
    let spare = spare-taken _ _ _ _ c.in-Some.pool c.in-Some.ensures.items b.spare in record {
      new = record {
        sender = b.posts;
        letters = c.hire.ensures.post ∙ new-post _ b.desk;
        replies = c.part.ensures.post;
        out = c.in-Ok.ensures.items;
        facts = c.catch_up.ensures.looked.facts_are ∙ spare.facts;
      };
      letters = c.hire.ensures.desk;
      replies = called-for _ _ _ _ _ there (c.part.ensures.desk ∙ sym (ap desk_part none));
      pool = c.catch_up.ensures.other_stays;
      sees = c.catch_up.ensures.all;
      own = own-looked _ _ c.catch_up.ensures.looked spare.own;
      unnamed = unnamed-looked _ _ c.catch_up.ensures.looked spare.own spare.unnamed;
      childless = c.catch_up.ensures.made_none ∙ spare.childless;
    }
