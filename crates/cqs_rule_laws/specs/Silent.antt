-- A step on a client's word that shows no event.
use Rattle.std.specs.Prelude.{[]}
use Rattle.cqs_rule_laws.specs.Events.{Event}

-- the pass goes on with what it was doing, and has what it had
abbrev pub silent : {E : Type 0} → Event E
silent = record {
  entries = λ m. [];
  doing = λ m. m.facts.doing;
  holds = λ m. m.facts.has.held;
  payload = λ m. m.facts.has.payload;
  further = λ m. m.facts.has.further;
  slots = λ m. m.facts.has.slots;
}
