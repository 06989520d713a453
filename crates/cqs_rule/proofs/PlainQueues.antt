-- A client whose resumes don't watch: its queue isn't synchronous, and it makes no step of synchronous queues alone.
use Rattle.std.proofs.Common.{◌≡◌, true, false, sym, ap, ◌∙◌}
use Rattle.cqs_core.specs.QueueSteps.{SyncStep, leaves_watched, sees_value, sees_taken, breaks, takes_watched, finds_broken, in_sync}
use Rattle.cqs_rule_laws.specs.declared.client.ClientWords.{Ghosts}
use Rattle.cqs_rule_laws.specs.declared.view.Opening.{Opening}
use Rattle.cqs_rule_laws.specs.Client.{IsClient}
use Rattle.cqs_rule_laws.specs.Manner.{Manner, Suits}
use Rattle.cqs_rule.specs.declared.queue.Pass.{Pass}
use Rattle.cqs_rule.specs.declared.queue.Queue.{Queue}
use Rattle.cqs_rule.specs.Passes.{client_of, pass_view, IsOf}

-- who makes such a step watches
pub suits-watching : (m : Manner) (e : SyncStep) → Suits m (in_sync e) → m.watches ≡ true
suits-watching m leaves_watched suits = suits
suits-watching m sees_value suits = suits
suits-watching m sees_taken suits = suits
suits-watching m breaks suits = suits
suits-watching m takes_watched suits = suits
suits-watching m finds_broken suits = suits

pub suits-none : (m : Manner) → m.watches ≡ false → (e : SyncStep) → Suits m (in_sync e) → ⊥
suits-none m plain e suits = let both : true ≡ false = sym (suits-watching m e suits) ∙ plain in absurd (cc)

module _ {C S E : Type 0} {g : Ghosts C S E} where
  -- a pass of such a client is one of a queue that isn't synchronous
  pub plain-opening : (q : Queue C S E) (p : Pass C S E g) → ((x : C) → IsClient g.object (g.primitive x))
      → IsOf q p → (g.primitive (client_of q)).manner.watches ≡ false → (pass_view p).opening.sync ≡ false
  plain-opening q p keeps belongs plain =
      ap (λ (o : Opening). o.sync) belongs.opening ∙ (let client = keeps (client_of q) in client.sync ∙ plain)
