use Rattle.std.proofs.Common.{arith, refl}
use Rattle.cqs_latch.specs.declared.answers.Down.TheVariants.{Last, LastOwing, Left}
use Rattle.cqs_rule.specs.Passes.{pass_view}
use Rattle.cqs_floor_shared_any.proofs.LatchShares.{counted-few, counts-already, counts-last, counts-left, counts-owing}
use Rattle.cqs_floor_shared_any.proofs.kinds.latch.SharedLatch.down.Goals as goal

pub overflow_add-self : goal.overflow_add-self
overflow_add-self g c =
    let x = c.args.self.now in
    let few = counted-few x (record x { pass = c.count_down.new.pass }) refl
    (rw c.deref.ensures at c.count_down.ensures.belongs) c.requires.a (Left c.in-Ok-Left.left) c.requires.funded
    (rw c.in-Ok-Left.field-0-is at c.in-Ok-Left.ensures.counted) refl in
    omega (arith, few)

pub overflow_add-self-in-Ok-Last : goal.overflow_add-self-in-Ok-Last
overflow_add-self-in-Ok-Last g c =
    let x = c.args.self.now in
    let few = counted-few x (record x { pass = c.count_down.new.pass }) refl
    (rw c.deref.ensures at c.count_down.ensures.belongs) c.requires.a Last c.requires.funded
    (rw c.in-Ok-Last.field-0-is at c.in-Ok-Last.ensures.counted) refl in
    omega (arith, few)

pub overflow_add-self-in-Ok-LastOwing : goal.overflow_add-self-in-Ok-LastOwing
overflow_add-self-in-Ok-LastOwing g c =
    let x = c.args.self.now in
    let few = counted-few x (record x { pass = c.count_down.new.pass }) refl
    (rw c.deref.ensures at c.count_down.ensures.belongs) c.requires.a (LastOwing c.in-Ok-LastOwing.owed)
    c.requires.funded (rw c.in-Ok-LastOwing.field-0-is at c.in-Ok-LastOwing.ensures.counted) refl in
    omega (arith, few)

pub returns-in-Ok-Left : goal.returns-in-Ok-Left
returns-in-Ok-Left g c =
    counts-left _ _ refl (rw c.deref.ensures at c.count_down.ensures.belongs) c.in-Ok-Left.left
    (rw c.in-Ok-Left.field-0-is at c.in-Ok-Left.ensures.counted) refl

pub returns-in-Ok-Last : goal.returns-in-Ok-Last
returns-in-Ok-Last g c =
    counts-last _ _ refl (rw c.deref.ensures at c.count_down.ensures.belongs)
    (rw c.in-Ok-Last.field-0-is at c.in-Ok-Last.ensures.counted) refl

pub returns-in-Ok-LastOwing : goal.returns-in-Ok-LastOwing
returns-in-Ok-LastOwing g c =
    counts-owing _ _ refl (rw c.deref-in-Ok-LastOwing.ensures at c.finish.ensures.mine) c.in-Ok-LastOwing.owed
    (pass_view c.count_down.new.pass)
    (rw c.in-Ok-LastOwing.field-0-is at c.in-Ok-LastOwing.ensures.counted)
    c.finish.ensures.went c.finish.ensures.rests refl

pub returns-in-Ok-Already : goal.returns-in-Ok-Already
returns-in-Ok-Already g c =
    counts-already _ _ refl (rw c.deref.ensures at c.count_down.ensures.belongs)
    (rw c.in-Ok-Already.field-0-is at c.in-Ok-Already.ensures.counted) refl
