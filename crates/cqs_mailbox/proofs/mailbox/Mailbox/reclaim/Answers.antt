use Rattle.std.proofs.Common.{◌<◌, length, None, refl, inl, inr, sym, ◌∙◌, arith}
use Rattle.cqs_core.proofs.Places.{get-below}
use Rattle.cqs_mailbox.proofs.PostsKeep.{asked-kept, is-none, its-pass, its-next, none-out, reclaims, reclaimed-spares, some-out}
use Rattle.cqs_mailbox.proofs.mailbox.Mailbox.reclaim.Goals as goal

pub index-requires : goal.index-requires
index-requires g c =
    let low : c.args.post.now.sender < length c.args.self.now.replies.items =
    get-below _ _ _ c.requires.belongs.replies.there in
    omega (arith, low)

pub take-requires-clause-queue : goal.take-requires-clause-queue
take-requires-clause-queue g c = its-pass _ _ _ _ _ c.requires.belongs.replies c.index.ensures

pub take-requires-clause-post : goal.take-requires-clause-post
take-requires-clause-post g c = c.requires.belongs.replies.post

pub returns-in-Some-clause-belongs : goal.returns-in-Some-clause-belongs
returns-in-Some-clause-belongs g c =
    asked-kept _ _ _ c.pop_front.result c.requires.belongs refl refl refl refl
    (its-next _ _ _ _ _ _ c.requires.belongs.replies c.index.ensures c.take.ensures.queue c.take.ensures.is_post)
    c.pop_front.ensures.items c.pop_front.ensures.capacity

pub returns-in-None-clause-belongs : goal.returns-in-None-clause-belongs
returns-in-None-clause-belongs g c =
    asked-kept _ _ _ None c.requires.belongs refl refl refl refl
    (its-next _ _ _ _ _ _ c.requires.belongs.replies c.index.ensures c.take.ensures.queue c.take.ensures.is_post)
    refl refl

pub returns-then-is_empty-clause-reclaimed : goal.returns-then-is_empty-clause-reclaimed
returns-then-is_empty-clause-reclaimed g c = record {
  cause = inl (none-out _ _ c.args.post.now.sent.ok.0 (is-none _ (sym c.is_empty.ensures ∙ c.if-is_empty.true)));
  out = refl;
  replies = refl;
  letters = refl;
}

pub returns-in-Some-clause-reclaimed : goal.returns-in-Some-clause-reclaimed
returns-in-Some-clause-reclaimed g c =
    reclaims _ _ c.pop_front.result c.pop_front.ensures.items c.pop_front.ensures.variant
    (some-out _ (sym c.is_empty.ensures ∙ c.if-is_empty.false)) c.in-Some.ensures.took refl

pub returns-in-None-clause-reclaimed : goal.returns-in-None-clause-reclaimed
returns-in-None-clause-reclaimed g c = record {
  cause = inr c.in-None.ensures.took.1;
  out = refl;
  replies = c.in-None.ensures.took.0;
  letters = refl;
}

pub returns-in-Some-clause-spare : goal.returns-in-Some-clause-spare
returns-in-Some-clause-spare g c =
    reclaimed-spares c.args.post.now (record c.args.post.now { replies = c.take.new.pass; sent = c.pop_front.new.self })
    c.pop_front.result c.requires.belongs.out refl c.pop_front.ensures.items
