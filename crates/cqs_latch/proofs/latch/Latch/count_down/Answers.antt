use Rattle.std.proofs.Common.{◌≡◌, ◌+◌, ◌≤◌, sym, ap, ◌∙◌, arith, None, Some, pos}
use Rattle.std.proofs.lemmas.Int.{ints}
use Rattle.cqs_rule_laws.specs.declared.view.Opening.{Opening}
use Rattle.cqs_rule.specs.Passes.{pass_view, client_of}
use Rattle.cqs_words.specs.State.{count_in}
use Rattle.cqs_latch.specs.LatchMade.{count_of}
use Rattle.cqs_latch.proofs.CountSteps.{already-loaded, already-taken, claimed-to, loaded-to, opened-so, refused, some-left}
use Rattle.cqs_latch.specs.declared.answers.Down.TheVariants.{Left, Last, LastOwing, Already}
use Rattle.cqs_latch.proofs.AloneByNumber.{opened-by_number, opened-ends}
use Rattle.cqs_latch.proofs.AloneOpen.{plain-opened}
use Rattle.cqs_latch.proofs.AloneOrder.{opened-all, opened-in_order}
use Rattle.cqs_latch.proofs.AloneSteps.{plain-counted}
use Rattle.cqs_latch.proofs.DownSteps.{opened-woke}
use Rattle.cqs_latch.proofs.Kept.{keeps-all, keeps-counted, ready-counted}
use Rattle.cqs_rule.proofs.Claiming.{wants-since}
use Rattle.cqs_rule.proofs.Extends.{is-ample}
use Rattle.cqs_rule_laws.proofs.Places.{goes-same}
use Rattle.cqs_latch.proofs.latch.Latch.count_down.Goals as goal

pub returns-then-not-is_above_zero-clause-counted : goal.returns-then-not-is_above_zero-clause-counted
returns-then-not-is_above_zero-clause-counted g c =
    already-loaded _ c.requires.ready c.requires.belongs.live.own _ _
    (sym c.is_above_zero.ensures ∙ c.if-not-is_above_zero.true) c.load_to_count-loaded.ensures.saw
    c.load_to_count-loaded.ensures.belongs.live.legal

pub returns-then-not-is_above_zero-2-clause-counted :
    goal.returns-then-not-is_above_zero-2-clause-counted
returns-then-not-is_above_zero-2-clause-counted g c =
    already-taken _ c.requires.ready c.requires.belongs.live.own _ _ _ _
    (sym c.is_above_zero-2.ensures ∙ c.if-not-is_above_zero-2.true)
    (claimed-to _ _ _ _ (loaded-to _ _ _ (sym c.is_above_zero.ensures ∙ c.if-not-is_above_zero.false)
    c.load_to_count-loaded.ensures.saw) c.in-Ok.ensures.claimed)
    c.count_down-found.ensures.saw c.count_down-found.ensures.belongs.live.legal

pub left_after-left-requires-clause-few : goal.left_after-left-requires-clause-few
left_after-left-requires-clause-few g c =
    let low = c.count_down-found.ensures.saw.reads.low in
    let size : (pass_view c.count_down-found.new.pass).opening.size ≡ count_of (client_of c.args.self.now.queue) =
    ap (λ (o : Opening). o.size) c.count_down-found.ensures.belongs.opening in
    let few : count_of (client_of c.args.self.now.queue) ≤ 1048576 = (client_of c.args.self.now.queue).few in
    omega (arith, ints, low, size, few)

pub returns-then-left-gt0-clause-counted : goal.returns-then-left-gt0-clause-counted
returns-then-left-gt0-clause-counted g c =
    some-left _ c.requires.ready c.requires.belongs.live.own c.left_after-left.result _ _ _ _ c.left_after-left.ensures
    c.if-left-gt0.true
    (claimed-to _ _ _ _ (loaded-to _ _ _ (sym c.is_above_zero.ensures ∙ c.if-not-is_above_zero.false)
    c.load_to_count-loaded.ensures.saw) c.in-Ok.ensures.claimed)
    c.count_down-found.ensures.saw c.count_down-found.ensures.belongs.live.legal

pub returns-in-None-clause-counted : goal.returns-in-None-clause-counted
returns-in-None-clause-counted g c =
    let last : c.left_after-left.result ≡ 0 = omega (arith, c.if-left-gt0.false) in
    let one : count_in c.count_down-found.result ≡ pos 1 =
    c.left_after-left.ensures ∙ ap (λ n. pos (n + 1)) last in
    let opened = opened-so _ c.requires.ready c.requires.belongs.live.own _ (pass_view c.count_down-found.new.pass) _
    _ _ _ _ one c.resumptions_for-waiters.ensures
    (claimed-to _ _ _ _ (loaded-to _ _ _ (sym c.is_above_zero.ensures ∙ c.if-not-is_above_zero.false)
    c.load_to_count-loaded.ensures.saw) c.in-Ok.ensures.claimed)
    c.count_down-found.ensures.saw c.open.ensures.saw c.open.ensures.belongs.live.legal in
    opened-woke _ c.requires.belongs.live.own c.resumptions_for-waiters.result (pass_view c.open.new.pass) _ None
    opened.0 opened.1 c.in-None.ensures.wakes c.wake.ensures.belongs.live.legal

pub returns-in-Some-clause-counted : goal.returns-in-Some-clause-counted
returns-in-Some-clause-counted g c =
    let last : c.left_after-left.result ≡ 0 = omega (arith, c.if-left-gt0.false) in
    let one : count_in c.count_down-found.result ≡ pos 1 =
    c.left_after-left.ensures ∙ ap (λ n. pos (n + 1)) last in
    let opened = opened-so _ c.requires.ready c.requires.belongs.live.own _ (pass_view c.count_down-found.new.pass) _
    _ _ _ _ one c.resumptions_for-waiters.ensures
    (claimed-to _ _ _ _ (loaded-to _ _ _ (sym c.is_above_zero.ensures ∙ c.if-not-is_above_zero.false)
    c.load_to_count-loaded.ensures.saw) c.in-Ok.ensures.claimed)
    c.count_down-found.ensures.saw c.open.ensures.saw c.open.ensures.belongs.live.legal in
    opened-woke _ c.requires.belongs.live.own c.resumptions_for-waiters.result (pass_view c.open.new.pass) _
    (Some c.in-Some.owed)
    opened.0 opened.1 c.in-Some.ensures.wakes c.wake.ensures.belongs.live.legal

pub returns-then-not-is_above_zero-clause-ready : goal.returns-then-not-is_above_zero-clause-ready
returns-then-not-is_above_zero-clause-ready g c =
    ready-counted Already _ _ (returns-then-not-is_above_zero-clause-counted g c)

pub returns-then-not-is_above_zero-clause-keeps : goal.returns-then-not-is_above_zero-clause-keeps
returns-then-not-is_above_zero-clause-keeps g c =
    keeps-counted Already _ _ (returns-then-not-is_above_zero-clause-counted g c)

pub returns-then-not-is_above_zero-2-clause-ready : goal.returns-then-not-is_above_zero-2-clause-ready
returns-then-not-is_above_zero-2-clause-ready g c =
    ready-counted Already _ _ (returns-then-not-is_above_zero-2-clause-counted g c)

pub returns-then-not-is_above_zero-2-clause-keeps : goal.returns-then-not-is_above_zero-2-clause-keeps
returns-then-not-is_above_zero-2-clause-keeps g c =
    keeps-counted Already _ _ (returns-then-not-is_above_zero-2-clause-counted g c)

pub returns-then-left-gt0-clause-ready : goal.returns-then-left-gt0-clause-ready
returns-then-left-gt0-clause-ready g c =
    ready-counted (Left c.left_after-left.result) _ _ (returns-then-left-gt0-clause-counted g c)

pub returns-then-left-gt0-clause-keeps : goal.returns-then-left-gt0-clause-keeps
returns-then-left-gt0-clause-keeps g c =
    keeps-counted (Left c.left_after-left.result) _ _ (returns-then-left-gt0-clause-counted g c)

pub returns-in-None-clause-ready : goal.returns-in-None-clause-ready
returns-in-None-clause-ready g c = ready-counted Last _ _ (returns-in-None-clause-counted g c)

pub returns-in-None-clause-keeps : goal.returns-in-None-clause-keeps
returns-in-None-clause-keeps g c = keeps-counted Last _ _ (returns-in-None-clause-counted g c)

pub returns-in-Some-clause-ready : goal.returns-in-Some-clause-ready
returns-in-Some-clause-ready g c = ready-counted (LastOwing c.in-Some.owed) _ _ (returns-in-Some-clause-counted g c)

pub returns-in-Some-clause-keeps : goal.returns-in-Some-clause-keeps
returns-in-Some-clause-keeps g c = keeps-counted (LastOwing c.in-Some.owed) _ _ (returns-in-Some-clause-counted g c)

pub returns-then-not-is_above_zero-clause-alone : goal.returns-then-not-is_above_zero-clause-alone
returns-then-not-is_above_zero-clause-alone g c =
    λ alone. plain-counted Already _ _ (returns-then-not-is_above_zero-clause-counted g c) alone

pub returns-then-not-is_above_zero-2-clause-alone : goal.returns-then-not-is_above_zero-2-clause-alone
returns-then-not-is_above_zero-2-clause-alone g c =
    λ alone. plain-counted Already _ _ (returns-then-not-is_above_zero-2-clause-counted g c) alone

pub returns-then-left-gt0-clause-alone : goal.returns-then-left-gt0-clause-alone
returns-then-left-gt0-clause-alone g c =
    λ alone. plain-counted (Left c.left_after-left.result) _ _ (returns-then-left-gt0-clause-counted g c) alone

pub returns-in-None-clause-alone : goal.returns-in-None-clause-alone
returns-in-None-clause-alone g c = λ alone. plain-counted Last _ _ (returns-in-None-clause-counted g c) alone

pub returns-in-Some-clause-alone : goal.returns-in-Some-clause-alone
returns-in-Some-clause-alone g c =
    λ alone. plain-counted (LastOwing c.in-Some.owed) _ _ (returns-in-Some-clause-counted g c) alone

pub returns-in-None-clause-alone_opens : goal.returns-in-None-clause-alone_opens
returns-in-None-clause-alone_opens g c =
    plain-opened Last _ _ (returns-in-None-clause-counted g c) c.wake.ensures.belongs.alone c.wake.new.pass.live.0

pub returns-in-Some-clause-alone_opens : goal.returns-in-Some-clause-alone_opens
returns-in-Some-clause-alone_opens g c =
    plain-opened (LastOwing c.in-Some.owed) _ _ (returns-in-Some-clause-counted g c) c.wake.ensures.belongs.alone
    c.wake.new.pass.live.0

pub returns-in-None-clause-alone_in_order : goal.returns-in-None-clause-alone_in_order
returns-in-None-clause-alone_in_order g c = λ alone smart.
    let last : c.left_after-left.result ≡ 0 = omega (arith, c.if-left-gt0.false) in
    let one : count_in c.count_down-found.result ≡ pos 1 =
    c.left_after-left.ensures ∙ ap (λ n. pos (n + 1)) last in
    let opened = opened-so _ c.requires.ready c.requires.belongs.live.own _ (pass_view c.count_down-found.new.pass) _
    _ _ _ _ one c.resumptions_for-waiters.ensures
    (claimed-to _ _ _ _ (loaded-to _ _ _ (sym c.is_above_zero.ensures ∙ c.if-not-is_above_zero.false)
    c.load_to_count-loaded.ensures.saw) c.in-Ok.ensures.claimed)
    c.count_down-found.ensures.saw c.open.ensures.saw c.open.ensures.belongs.live.legal in
    opened-all _ _
    (opened-in_order _ (pass_view c.open.new.pass) _ c.resumptions_for-waiters.result
    opened.0
    (λ still. c.wake.ensures.in_order still smart) alone)
    (returns-in-None-clause-alone_opens g c alone)

pub returns-in-Some-clause-alone_in_order : goal.returns-in-Some-clause-alone_in_order
returns-in-Some-clause-alone_in_order g c = λ alone smart.
    let last : c.left_after-left.result ≡ 0 = omega (arith, c.if-left-gt0.false) in
    let one : count_in c.count_down-found.result ≡ pos 1 =
    c.left_after-left.ensures ∙ ap (λ n. pos (n + 1)) last in
    let opened = opened-so _ c.requires.ready c.requires.belongs.live.own _ (pass_view c.count_down-found.new.pass) _
    _ _ _ _ one c.resumptions_for-waiters.ensures
    (claimed-to _ _ _ _ (loaded-to _ _ _ (sym c.is_above_zero.ensures ∙ c.if-not-is_above_zero.false)
    c.load_to_count-loaded.ensures.saw) c.in-Ok.ensures.claimed)
    c.count_down-found.ensures.saw c.open.ensures.saw c.open.ensures.belongs.live.legal in
    opened-in_order _ (pass_view c.open.new.pass) _ c.resumptions_for-waiters.result
    opened.0
    (λ still. c.wake.ensures.in_order still smart) alone

pub returns-in-None-clause-alone_by_number : goal.returns-in-None-clause-alone_by_number
returns-in-None-clause-alone_by_number g c = λ alone simple.
    let last : c.left_after-left.result ≡ 0 = omega (arith, c.if-left-gt0.false) in
    let one : count_in c.count_down-found.result ≡ pos 1 =
    c.left_after-left.ensures ∙ ap (λ n. pos (n + 1)) last in
    let opened = opened-so _ c.requires.ready c.requires.belongs.live.own _ (pass_view c.count_down-found.new.pass) _
    _ _ _ _ one c.resumptions_for-waiters.ensures
    (claimed-to _ _ _ _ (loaded-to _ _ _ (sym c.is_above_zero.ensures ∙ c.if-not-is_above_zero.false)
    c.load_to_count-loaded.ensures.saw) c.in-Ok.ensures.claimed)
    c.count_down-found.ensures.saw c.open.ensures.saw c.open.ensures.belongs.live.legal in
    let counted = returns-in-None-clause-counted g c in
    opened-by_number _ (pass_view c.open.new.pass) _ c.resumptions_for-waiters.result
    opened.0
    (λ still. c.wake.ensures.by_number still simple) alone c.wake.ensures.belongs.alone c.wake.new.pass.live.0
    (counted.1.called.same.alone ∙ alone) (ap (λ (o : Opening). o.mode) c.wake.ensures.belongs.opening ∙ simple)
    (returns-in-None-clause-ready g c) (returns-in-None-clause-alone_opens g c alone).0

pub returns-in-Some-clause-alone_by_number : goal.returns-in-Some-clause-alone_by_number
returns-in-Some-clause-alone_by_number g c = λ alone simple.
    let last : c.left_after-left.result ≡ 0 = omega (arith, c.if-left-gt0.false) in
    let one : count_in c.count_down-found.result ≡ pos 1 =
    c.left_after-left.ensures ∙ ap (λ n. pos (n + 1)) last in
    let opened = opened-so _ c.requires.ready c.requires.belongs.live.own _ (pass_view c.count_down-found.new.pass) _
    _ _ _ _ one c.resumptions_for-waiters.ensures
    (claimed-to _ _ _ _ (loaded-to _ _ _ (sym c.is_above_zero.ensures ∙ c.if-not-is_above_zero.false)
    c.load_to_count-loaded.ensures.saw) c.in-Ok.ensures.claimed)
    c.count_down-found.ensures.saw c.open.ensures.saw c.open.ensures.belongs.live.legal in
    opened-ends _ (pass_view c.open.new.pass) _ c.resumptions_for-waiters.result opened.0
    (λ still. c.wake.ensures.by_number still simple) alone

-- in simple mode one is handed back for want of a slot alone, and that never comes in an ample table
pub returns-in-Some-clause-simple_wants : goal.returns-in-Some-clause-simple_wants
returns-in-Some-clause-simple_wants g c = λ simple.
    let last : c.left_after-left.result ≡ 0 = omega (arith, c.if-left-gt0.false) in
    let one : count_in c.count_down-found.result ≡ pos 1 =
    c.left_after-left.ensures ∙ ap (λ n. pos (n + 1)) last in
    let opened = opened-so _ c.requires.ready c.requires.belongs.live.own _ (pass_view c.count_down-found.new.pass) _
    _ _ _ _ one c.resumptions_for-waiters.ensures
    (claimed-to _ _ _ _ (loaded-to _ _ _ (sym c.is_above_zero.ensures ∙ c.if-not-is_above_zero.false)
    c.load_to_count-loaded.ensures.saw) c.in-Ok.ensures.claimed)
    c.count_down-found.ensures.saw c.open.ensures.saw c.open.ensures.belongs.live.legal in
    wants-since _ _ _ _ opened.0.called.called.same opened.1 (c.in-Some.ensures.simple simple)

pub returns-in-Some-clause-simple_ends : goal.returns-in-Some-clause-simple_ends
returns-in-Some-clause-simple_ends g c = λ says simple.
    (returns-in-Some-clause-simple_wants g c simple).scarce
    (is-ample c.args.self.now.queue c.args.pass.now c.requires.belongs says)

-- it was refused
pub returns-in_default-clause-crowded : goal.returns-in_default-clause-crowded
returns-in_default-clause-crowded g c =
    refused _ c.requires.ready c.requires.belongs.live.own _ _ _ _ _
    (sym c.is_above_zero.ensures ∙ c.if-not-is_above_zero.false) c.load_to_count-loaded.ensures.saw
    c.in_default.ensures.crowded c.turn_back.ensures.saw c.turn_back.ensures.belongs.live.legal

pub returns-in_default-clause-ready_again : goal.returns-in_default-clause-ready_again
returns-in_default-clause-ready_again g c = (returns-in_default-clause-crowded g c).rests.ready

pub returns-in_default-clause-keeps : goal.returns-in_default-clause-keeps
returns-in_default-clause-keeps g c =
    let told = returns-in_default-clause-crowded g c in
    keeps-all _ _ (goes-same _ _ told.called.called.same) told.rests.waits_are
