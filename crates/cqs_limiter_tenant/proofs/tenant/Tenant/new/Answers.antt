use Rattle.std.proofs.Common.{◌≡◌, ◌∙◌, sym, subst, get_or, slice_index}
use Rattle.std.proofs.lemmas.Option.{slice_get-get_or, get_or_from_slice_get}
use Rattle.cqs_limiter_workers.specs.Sights.{own}
use Rattle.cqs_limiter_tenant.specs.Made.{HasSeats}
use Rattle.cqs_limiter_tenant.specs.Tenants.{enters}
use Rattle.cqs_limiter_tenant.proofs.Opened.{made-new}
use Rattle.cqs_limiter_tenant.proofs.tenant.Tenant.new.Goals as goal

pub returns : goal.returns
returns c =
    let items = c.args.requests.now.permits.items in
    let t = c.args.tenant in
    let found = c.index-permits.result.now in
    let permits_are : found ≡ slice_index items t
    = c.index-permits.ensures
    ∙ sym (get_or_from_slice_get items t (get_or items t found) 0 (slice_get-get_or items t found c.requires.there)) in
    let lines = c.as_slice-lines.ensures.value in
    made-new c.args.requests.now t found c.enters_of.result c.in_ok-made.made c.add_seats.new.self permits_are
    (rw lines at c.enters_of.ensures.enters) c.in_ok-made.ensures
    (rw lines at c.in_ok-add_seats.ensures)
