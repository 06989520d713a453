use Rattle.cqs_mailbox.proofs.SpareKeeps.{spare-made, spare-more, spare-none}
use Rattle.cqs_mailbox.proofs.opening.rest_all.Goals as goal

pub loop-post-init : goal.loop-post-init
loop-post-init c = record {
  belongs = c.requires.belongs;
  ready = c.requires.ready;
  spare = spare-none _ _ c.new-made.ensures.items;
}

pub loop-post-preserved : goal.loop-post-preserved
loop-post-preserved c = record {
  belongs = c.split.ensures.belongs;
  ready = c.split.ensures.ready;
  spare = spare-more _ _ _ _ _ c.in-Ok-push.ensures.items c.loop-post.invariant.spare
      (spare-made _ c.split.new.pass _ c.in-Ok.ensures.new_belongs c.in-Ok.ensures.came);
}
