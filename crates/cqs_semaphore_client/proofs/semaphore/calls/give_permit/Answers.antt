use Rattle.std.proofs.Common.{◌∙◌, sym}
use Rattle.cqs_rule_laws.specs.Events.{in_any_case}
use Rattle.cqs_rule.specs.Passes.{client_of, pass_view}
use Rattle.cqs_semaphore_client.specs.Semaphore.{gives_one}
use Rattle.cqs_semaphore_client.proofs.SemaphoreMoves.{give-moves, none-stays, give-gives}
use Rattle.cqs_semaphore_client.proofs.semaphore.calls.give_permit.Goals as goal

pub add_word-requires-clause-law : goal.add_word-requires-clause-law
add_word-requires-clause-law g c = give-moves _ _ _ _ _ c.requires.idle c.requires.holds

pub add_word-requires-clause-slots : goal.add_word-requires-clause-slots
add_word-requires-clause-slots g c =
    none-stays (client_of c.args.queue.now) _ gives_one in_any_case (pass_view c.args.pass.now)
    (c.requires.belongs.slots ∙ (sym c.slots.ensures ∙ c.if-slots-eq0.true))

pub give_word-requires-clause-law : goal.give_word-requires-clause-law
give_word-requires-clause-law g c = give-moves _ _ _ _ _ c.requires.idle c.requires.holds

pub give_word-requires-clause-slots : goal.give_word-requires-clause-slots
give_word-requires-clause-slots g c =
    give-gives (client_of c.args.queue.now) _ _ _ (pass_view c.args.pass.now)
    c.slots.ensures c.if-slots-eq0.false c.requires.full
