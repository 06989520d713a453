use Rattle.std.proofs.Common.{subst, sym}
use Rattle.cqs_rule_laws.specs.Events.{Moves, word_after_exchange, where_found}
use Rattle.cqs_rule.specs.Passes.{pass_view, client_of}
use Rattle.cqs_semaphore_client.specs.Semaphore.{semaphore_object, tries}
use Rattle.cqs_semaphore_client.specs.SemaphoreMade.{primitive_of}
use Rattle.cqs_semaphore_client.proofs.SemaphoreMoves.{try-swap-moves, try-stays}
use Rattle.cqs_semaphore_client.proofs.semaphore.calls.try_take.Goals as goal

pub swap_word-requires-clause-law : goal.swap_word-requires-clause-law
swap_word-requires-clause-law g c =
    let v = pass_view c.args.pass.now in
    subst (λ less. Moves semaphore_object (primitive_of (client_of c.args.queue.now)) tries
    (where_found c.args.saw.word) v.number v.facts 0 (word_after_exchange c.args.saw.word less))
    (sym c.one_less.ensures.word) (try-swap-moves _ _ _ _ _ _ c.requires.loaded)

pub swap_word-requires-clause-slots : goal.swap_word-requires-clause-slots
swap_word-requires-clause-slots g c = try-stays (client_of c.args.queue.now) _ _ (pass_view c.args.pass.now)
