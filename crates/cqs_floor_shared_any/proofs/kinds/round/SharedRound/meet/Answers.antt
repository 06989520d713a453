use Rattle.std.proofs.Common.{◌≡◌, ◌⊎◌, ◌||◌, inl, inr, Bool, true, false, refl}
use Rattle.cqs_floor_shared_any.proofs.kinds.round.SharedRound.meet.Goals as goal

or-true : (a b : Bool) → (a || b) ≡ true → (a ≡ true) ⊎ (b ≡ true)
or-true true b is = inl refl
or-true false b is = inr is

or-false : (a b : Bool) → (a || b) ≡ false → (a ≡ false) × (b ≡ false)
or-false true b is = absurd (cc)
or-false false b is = (refl, is)

pub returns : goal.returns
returns c = record {
  same_one = refl;
  mine = rw c.deref.ensures at c.in-Ok.ensures.belongs;
  met = c.in-Ok.ensures.met;
  held = c.in-Ok.ensures.held;
  ready = c.in-Ok.ensures.ready;
  told = λ is. or-true c.args.self.now.over c.args.given.over is;
  untold = λ is. or-false c.args.self.now.over c.args.given.over is;
}
