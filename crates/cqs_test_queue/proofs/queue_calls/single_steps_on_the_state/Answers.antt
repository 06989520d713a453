use Rattle.std.proofs.Common.{◌≡◌, ℕ, bit_or, ◌∙◌, sym, subst, rules}
use lib.Bits.{or_comm, or_zero_l}
use Rattle.cqs_rule_laws.specs.Events.{Moves, in_any_case}
use Rattle.cqs_rule.specs.Passes.{pass_view}
use Rattle.cqs_semaphore_client.specs.Semaphore.{semaphore_object}
use Rattle.cqs_semaphore_client.specs.SemaphoreMade.{primitive_of}
use Rattle.cqs_rule_laws.specs.Silent.{silent}
use Rattle.cqs_semaphore_client.proofs.SemaphoreMoves.{try-swap-moves, try-stays}
use Rattle.cqs_rule_laws.proofs.StandStill.{silent-moves}
use Rattle.cqs_test_queue.proofs.queue_calls.single_steps_on_the_state.Goals as goal

sets-nothing : (n : ℕ) → n ≡ bit_or n 0
sets-nothing n = sym (or_comm n 0 ∙ or_zero_l n)

-- a word of which no bit is set is as it was
pub or_word-requires-clause-law : goal.or_word-requires-clause-law
or_word-requires-clause-law g c =
    let v = pass_view c.in_ok-queue.pass in
    let client = c.in_ok-queue.queue.table.shared.key.client in
    subst (λ (f : ℕ → ℕ). Moves semaphore_object (primitive_of {T = Unit {0}} client) silent in_any_case
    v.number v.facts 0 f)
    (λ i n. sets-nothing n i) (silent-moves _ _ _ _ _)

-- the try has loaded the word that it expects
pub swap_word-found-requires-clause-law : goal.swap_word-found-requires-clause-law
swap_word-found-requires-clause-law g c =
    try-swap-moves _ _ _ _ (pass_view c.load_state-saw.new.pass).facts c.load_state-saw.result.word (search rules)

-- and leaves a pass that holds the permit its slot
pub swap_word-found-requires-clause-slots : goal.swap_word-found-requires-clause-slots
swap_word-found-requires-clause-slots g c =
    try-stays c.in_ok-queue.queue.table.shared.key.client _ _ (pass_view c.load_state-saw.new.pass)
