use Rattle.std.proofs.Common.{◌≡◌, ◌∙◌, ◌<◌, length, ap, subst, sym}
use Rattle.std.proofs.lemmas.List.Elements.{All-get_or}
use Rattle.cqs_rule_laws.specs.declared.config.Place.{Place}
use Rattle.cqs_rule.specs.Passes.{pass_view}
use Rattle.cqs_rule_laws.proofs.Lists.{get_index}
use Rattle.cqs_c_sync_callers.specs.Callers.{StandsAt}
use Rattle.cqs_c_callers.specs.Waits.{HasAt, IsAt}
use Rattle.cqs_c_sync_callers.proofs.sync_semaphore_caller.SyncSemaphoreCaller.token.Goals as goal

pub wait_of-requires-clause-place : goal.wait_of-requires-clause-place
wait_of-requires-clause-place c =
    let has = HasAt (pass_view c.args.self.now.pass) in
    let low : c.in_ok-i.i < length c.args.self.now.waits.items =
    subst (λ l. c.in_ok-i.i < length l) c.as_slice.ensures.value c.in_ok-i.ensures.found.below in
    (subst has (sym c.index-at.ensures)
    (All-get_or has _ c.in_ok-i.i c.index-at.result.now low c.requires.stands.waits)).place

pub returns-clause-stands : goal.returns-clause-stands
returns-clause-stands c =
    subst (λ p. StandsAt c.args.semaphore.now (record c.args.self.now { pass = p })) (sym c.wait_of.ensures.same)
    c.requires.stands

pub returns-clause-found : goal.returns-clause-found
returns-clause-found c =
    let at = subst (λ l. IsAt c.args.number l c.in_ok-i.i) c.as_slice.ensures.value c.in_ok-i.ensures.found in
    let d = c.index-at.result.now in
    let is : d ≡ at.at = c.index-at.ensures ∙ get_index _ c.in_ok-i.i at.at d at.is in
    record {
      at = at;
      has = c.wait_of.ensures.has;
      number_is = ap (λ (p : Place). p.index) (c.wait_of.ensures.place ∙ is) ∙ at.number_is;
    }
