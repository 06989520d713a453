use Rattle.std.proofs.Common.{rules, ◌≡◌, [], length, replicate, slice_get, Some, subst, sym, ◌<◌}
use Rattle.cqs_limiter_workers.proofs.Handed.{handing-starts, handing-next, token-there, place-is}
use Rattle.cqs_limiter_workers.proofs.tokens.deal_back.Goals as goal

pub loop-line-init : goal.loop-line-init
loop-line-init g c =
    let zeros : c.in_ok-next.next.items ≡ replicate (length c.args.hands.now) 0 = search rules in
    let none : c.new-tokens.result.items ≡ [] = search rules in
    handing-starts _ _ _ _ _ zeros none

pub token_at-token-requires-clause-place : goal.token_at-token-requires-clause-place
token_at-token-requires-clause-place g c = λ told there.
    let place = place-is _ c.args.lines.now _ _ _ _ _ c.loop-line-test.true c.requires.some c.requires.hands
    c.loop-line.invariant c.index-place.result.now c.index-place.ensures in
    subst (λ n. n < length told.tokens.items) (sym place)
    (token-there _ c.args.lines.now _ _ _ _ _ c.loop-line-test.true c.requires.some c.requires.hands
    c.loop-line.invariant told there)

pub loop-line-preserved : goal.loop-line-preserved
loop-line-preserved g c =
    let place = place-is _ c.args.lines.now _ _ _ _ _ c.loop-line-test.true c.requires.some c.requires.hands
    c.loop-line.invariant c.index-place.result.now c.index-place.ensures in
    rw (c.token_at-token.ensures.next, place, c.in_ok-push.ensures.items) (
    handing-next _ c.args.lines.now _ _ _ _ _ c.loop-line-test.true c.requires.some c.requires.hands
    c.loop-line.invariant c.token_at-token.result.0
    (λ told there. subst (λ n. slice_get told.tokens.items n ≡ Some c.token_at-token.result.0) place
    (c.token_at-token.ensures.token told there))
    )
