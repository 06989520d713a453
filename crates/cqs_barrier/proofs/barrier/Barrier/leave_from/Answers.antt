use Rattle.std.proofs.Common.{◌≡◌, ℕ, ◌<◌, true, false, Option, sym, ap, ◌∙◌, subst, ne_eqb, eq-eqb, refl}
use Rattle.std.proofs.lemmas.Bool.{eqb-true}
use Rattle.cqs_cell.specs.Transitions.{HasSettled}
use Rattle.cqs_rule.specs.Passes.{pass_view}
use Rattle.cqs_rule.proofs.Places.{knows-saw}
use Rattle.cqs_barrier.specs.declared.answers.PartyLeft.TheVariants.{Contended}
use Rattle.cqs_barrier.specs.Barrier.{barrier_object}
use Rattle.cqs_barrier.specs.Leaving.{Leaves, LookedAt, deciding}
use Rattle.cqs_barrier.specs.Word.{is_over, remaining_in}
use Rattle.cqs_barrier.proofs.LeaveSteps.{swapped, stayed, withdrew, contended, settles-closed, refuses-closed, refuses_value-closed, none-left, some-to-come}
use Rattle.cqs_barrier.proofs.barrier.Barrier.leave_from.Goals as goal

pub settle-requires-clause-decided : goal.settle-requires-clause-decided
settle-requires-clause-decided g c =
    let over : is_over c.args.saw ≡ true = sym c.over.ensures ∙ c.if-over.true in
    c.requires.loaded.at ∙ ap (λ b. deciding b c.args.at.index) over

pub withdraw_once-found-requires-clause-leaving : goal.withdraw_once-found-requires-clause-leaving
withdraw_once-found-requires-clause-leaving g c =
    let over : is_over c.args.saw ≡ false = sym c.over.ensures ∙ c.if-over.false in
    c.requires.loaded.at ∙ ap (λ b. deciding b c.args.at.index) over

pub returns-in-Ok-None-clause-leaves : goal.returns-in-Ok-None-clause-leaves
returns-in-Ok-None-clause-leaves g c =
    let k = c.args.at.index in
    let n = c.args.saw in
    let over : is_over n ≡ true = sym c.over.ensures ∙ c.if-over.true in
    let u = pass_view c.args.pass.now in
    let w = pass_view c.settle.new.pass in
    let closed = refuses-closed 0 k 0 u w
    (subst (λ (z : Option ℕ). HasSettled false k z c.args.pass.now c.settle.new.pass) c.in-Ok-None.field-0-is
    c.in-Ok-None.ensures.settled) in
    λ v l.
    stayed k n v u w (subst (λ b. LookedAt b k n v u) over l) (eqb-true (remaining_in n) 0 over) closed

pub returns-in-Ok-Some-clause-leaves : goal.returns-in-Ok-Some-clause-leaves
returns-in-Ok-Some-clause-leaves g c =
    let k = c.args.at.index in
    let n = c.args.saw in
    let over : is_over n ≡ true = sym c.over.ensures ∙ c.if-over.true in
    let u = pass_view c.args.pass.now in
    let w = pass_view c.settle.new.pass in
    let closed = refuses_value-closed 1 k c.in-Ok-Some.field-0-0 u w
    (subst (λ (z : Option ℕ). HasSettled false k z c.args.pass.now c.settle.new.pass) c.in-Ok-Some.field-0-is
    c.in-Ok-Some.ensures.settled) in
    λ v l.
    stayed k n v u w (subst (λ b. LookedAt b k n v u) over l) (eqb-true (remaining_in n) 0 over) closed

pub returns-then-found-saw-clause-leaves : goal.returns-then-found-saw-clause-leaves
returns-then-found-saw-clause-leaves g c =
    let k = c.args.at.index in
    let n = c.args.saw in
    let m = c.withdraw_once-found.result in
    let over : is_over n ≡ false = sym c.over.ensures ∙ c.if-over.false in
    let u = pass_view c.args.pass.now in
    let x = pass_view c.withdraw_once-found.new.pass in
    let at = c.requires.loaded.at ∙ ap (λ b. deciding b k) over in
    let s = swapped false k n m u x at c.withdraw_once-found.ensures.saw (ne_eqb m n c.if-found-saw.true) in
    λ v l.
    let told : (a b : ℕ) → a ≡ remaining_in n → b ≡ remaining_in m
    → Leaves k v (Contended a b (record { at = c.args.at })) x =
    λ a b first second. subst (λ (z : ℕ × ℕ). Leaves k v (Contended z.0 z.1 (record { at = c.args.at })) x)
    (λ i. (sym first i, sym second i))
    (contended k n m v u x c.args.at (record { at = c.args.at }) (subst (λ b. LookedAt b k n v u) over l) s
    c.if-found-saw.true c.requires.further refl c.requires.place refl) in
    search (told)

pub settle-requires-2-clause-place : goal.settle-requires-2-clause-place
settle-requires-2-clause-place g c =
    knows-saw barrier_object _ _ _ _ c.args.at c.withdraw_once-found.ensures.saw.saw c.requires.place

pub unreachable-requires-in-Ok-Some-settle : goal.unreachable-requires-in-Ok-Some-settle
unreachable-requires-in-Ok-Some-settle g c =
    let k = c.args.at.index in
    let x = c.withdraw_once-found.new.pass in
    let w = c.settle-2.new.pass in
    none-left 1 k c.in-Ok-Some-settle.field-0-0 (pass_view x) (pass_view w)
    (subst (λ (z : Option ℕ). HasSettled true k z x w) c.in-Ok-Some-settle.field-0-is
    c.in-Ok-Some-settle.ensures.settled)
    c.settle-2.ensures.belongs.live.legal

pub returns-clause-leaves : goal.returns-clause-leaves
returns-clause-leaves g c =
    let k = c.args.at.index in
    let n = c.args.saw in
    let m = c.withdraw_once-found.result in
    let over : is_over n ≡ false = sym c.over.ensures ∙ c.if-over.false in
    let same : m ≡ n = c.if-found-saw.false in
    let u = pass_view c.args.pass.now in
    let x = pass_view c.withdraw_once-found.new.pass in
    let w = pass_view c.settle-2.new.pass in
    let at = c.requires.loaded.at ∙ ap (λ b. deciding b k) over in
    let s = swapped true k n m u x at c.withdraw_once-found.ensures.saw (eq-eqb m n same) in
    let closed = settles-closed 0 k 0 x w
    (subst (λ (z : Option ℕ). HasSettled true k z c.withdraw_once-found.new.pass c.settle-2.new.pass)
    c.in-Ok-None-settle.field-0-is c.in-Ok-None-settle.ensures.settled) in
    λ v l.
    withdrew k n m v u x w (subst (λ b. LookedAt b k n v u) over l) s
    (subst (λ z. 0 < remaining_in z) (sym same) (some-to-come n over)) closed
