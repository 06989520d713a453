-- A load of a client's word that shows no event keeps whatever the client shows.
use Rattle.std.proofs.Common.{ℕ, List, sym, refl, subst, inl}
use Rattle.std.proofs.lemmas.List.{append-nil, set-get_or}
use Rattle.cqs_core.specs.declared.doings.Doing.{Doing}
use Rattle.cqs_core.proofs.Places.{set-same}
use Rattle.cqs_rule_laws.specs.declared.view.Facts.{Facts}
use Rattle.cqs_rule_laws.specs.declared.view.Has.{Has}
use Rattle.cqs_rule_laws.specs.Events.{Moves, in_any_case}
use Rattle.cqs_rule_laws.specs.Object.{Object, Primitive}
use Rattle.cqs_rule_laws.specs.Silent.{silent}

-- any pass may load any word of its client
pub silent-moves : {E S : Type 0} (object : Object E) (primitive : Primitive E S) (p : ℕ) (facts : Facts) (i : ℕ)
    → Moves object primitive silent in_any_case p facts i (λ n. n)
silent-moves {E} {S} object primitive p facts i = record {
  step = λ c words log handed shown does has short small.
      subst (λ (t : List Doing × List Has × List ℕ × List E).
      primitive.shows (record {
        queue = record { suspends = c.queue.suspends; resumes = c.queue.resumes; cells = c.queue.cells; doing = t.0 };
        has = t.1;
        may_draw = c.may_draw;
        payloads = c.payloads;
      }) t.2 t.3 handed)
      (λ j. (
        sym (set-same c.queue.doing p facts.doing does) j,
        sym (set-same c.has p facts.has has) j,
        sym (set-get_or words i 0) j,
        sym (append-nil log) j,
      ))
      shown;
  silent = λ n m apart. refl;
  door = λ n q. inl q;
  ticket = λ n k e. e;
  away = λ n. inl refl;
  owed = λ n owing. refl;
  keeps = λ n none. refl;
  owing = λ n none. refl;
  fits = λ n low. low;
}
