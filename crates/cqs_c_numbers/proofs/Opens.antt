-- What stands once a primitive was opened with its first caller.
use Rattle.std.proofs.Common.{◌≡◌, ℕ, Result, Ok, Err, Some, IfOk, sym, subst}
use Rattle.cqs_rule_laws.specs.declared.config.Config.{Config}
use Rattle.cqs_rule_laws.specs.declared.config.MakeError.{MakeError}
use Rattle.cqs_c_numbers.specs.declared.caller.Caller.{Caller}
use Rattle.cqs_c_numbers.specs.declared.numbered.Numbered.{Numbered}
use Rattle.cqs_c_numbers.specs.declared.primitive.Primitive.{Primitive}
use Rattle.cqs_c_numbers.specs.Callers.{StandsAt, StandsAs, pass_number}
use Rattle.cqs_c_numbers.specs.Making.{HasOpened, IsNew, IsOpen, limit_in, passes_in, slots_at}
use Rattle.cqs_c_numbers.specs.Numbered.{primitive_in, IsLaid}

-- its first pass lies under the number 0
pub opens-first : (config : Config) (held waits elements : ℕ) (p : Primitive) (first : Caller)
    (r : Result Numbered MakeError) → passes_in p ≡ config.passes → limit_in p ≡ config.limit → StandsAt p first
    → pass_number first ≡ 0 → IsNew held waits elements first → slots_at first ≡ config.slots
    → IfOk r (HasOpened p first config.passes waits) → IfOk r (IsOpen config held waits elements)
opens-first config held waits elements p first (Ok n) passes limit stands number new slots opened = record {
  passes = subst (λ (q : Primitive). passes_in q ≡ config.passes) (sym opened.primitive_is) passes;
  limit = subst (λ (q : Primitive). limit_in q ≡ config.limit) (sym opened.primitive_is) limit;
  numbers = opened.numbers;
  room = opened.room;
  first = first;
  stands = subst (λ (q : Primitive). StandsAs q 0 first) (sym opened.primitive_is)
      (record { stands = stands; number = number });
  new = new;
  slots = slots;
  laid = subst (λ (i : ℕ). IsLaid n i 0 (Some first)) number opened.laid;
}
opens-first config held waits elements p first (Err e) passes limit stands number new slots opened = tt
