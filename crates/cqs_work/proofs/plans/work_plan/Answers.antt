use Rattle.std.proofs.Common.{◌≡◌, length, map, sym, ap, ◌∙◌, arith}
use Rattle.std.proofs.lemmas.List.{length-map}
use Rattle.cqs_work.proofs.Joining.{all-run, lefts-long, own-long, states-long, can-meet, all-quiet, all-in, all-told, all-gated, vecs-long, ends-kept, lines-kept, all-waits, all-bounded, all-few, all-uncrowded}
use Rattle.cqs_work.proofs.plans.work_plan.Goals as goal

pub posts_for-requires-clause-some : goal.posts_for-requires-clause-some
posts_for-requires-clause-some g c =
    omega (arith, c.requires.split.some, length-map c.args.floors.items g.F.SharedFloor.shared, c.args.floors.ok.0)

pub posts_for-requires-clause-few : goal.posts_for-requires-clause-few
posts_for-requires-clause-few g c =
    omega (arith, c.requires.split.few, length-map c.args.floors.items g.F.SharedFloor.shared, c.args.floors.ok.0)

pub work_all-requires-clause-runs : goal.work_all-requires-clause-runs
work_all-requires-clause-runs g c lts lives =
    all-run g.F.SharedFloor.shared c.args.plan.now c.args.floors.items c.in_ok-posts.posts.items c.requires.runnable
    c.requires.split c.in_ok-posts.ensures

pub ends_of-requires-clause-some : goal.ends_of-requires-clause-some
ends_of-requires-clause-some g c =
    let shared = g.F.SharedFloor.shared in
    let vecs = c.in_ok-parted.parted.states.items in
    let long : length c.in_ok-all.all.items ≡ length c.in_ok-posts.posts.items
    = sym c.in_ok-all.all.ok.0 ∙ c.in_ok-all.ensures.len ∙ c.in_ok-posts.posts.ok.0 in
    let own = own-long shared c.args.plan.now c.args.floors.items c.in_ok-posts.posts.items c.requires.runnable
    c.requires.split c.in_ok-posts.ensures c.in_ok-all.all.items c.in_ok-parted.parted.floors.items
    (map (λ own. own.items) vecs) (map (λ own. own.items) c.in_ok-parted.parted.waits.items) long
    c.in_ok-all.ensures.each c.in_ok-parted.ensures in
    omega (
      arith,
      own,
      length-map vecs (λ own. own.items),
      ap length c.as_slice-states.ensures.value,
      c.requires.split.some,
      length-map c.args.floors.items shared,
    )

pub ends_of-requires-clause-long : goal.ends_of-requires-clause-long
ends_of-requires-clause-long g c =
    let vecs = c.in_ok-parted.parted.states.items in
    let long : length c.in_ok-all.all.items ≡ length c.in_ok-posts.posts.items
    = sym c.in_ok-all.all.ok.0 ∙ c.in_ok-all.ensures.len ∙ c.in_ok-posts.posts.ok.0 in
    rw c.as_slice-states.ensures.value (vecs-long (λ own. own.items) vecs (length c.args.plan.now.jobs) _
    (ap length c.as_slice-jobs.ensures)
    (states-long g.F.SharedFloor.shared c.args.plan.now c.args.floors.items c.in_ok-posts.posts.items
    c.requires.runnable
    c.requires.split c.in_ok-posts.ensures c.in_ok-all.all.items c.in_ok-parted.parted.floors.items
    (map (λ own. own.items) vecs) (map (λ own. own.items) c.in_ok-parted.parted.waits.items) long
    c.in_ok-all.ensures.each c.in_ok-parted.ensures))

pub meet_in_first-floor-requires-clause-some : goal.meet_in_first-floor-requires-clause-some
meet_in_first-floor-requires-clause-some g c =
    let shared = g.F.SharedFloor.shared in
    let vecs = c.in_ok-parted.parted.states.items in
    let long : length c.in_ok-all.all.items ≡ length c.in_ok-posts.posts.items
    = sym c.in_ok-all.all.ok.0 ∙ c.in_ok-all.ensures.len ∙ c.in_ok-posts.posts.ok.0 in
    let lefts = lefts-long shared c.args.plan.now c.args.floors.items c.in_ok-posts.posts.items c.requires.runnable
    c.requires.split c.in_ok-posts.ensures c.in_ok-all.all.items c.in_ok-parted.parted.floors.items
    (map (λ own. own.items) vecs) (map (λ own. own.items) c.in_ok-parted.parted.waits.items) long
    c.in_ok-all.ensures.each c.in_ok-parted.ensures in
    omega (
      arith,
      lefts,
      c.in_ok-parted.parted.floors.ok.0,
      c.requires.split.some,
      length-map c.args.floors.items shared,
    )

pub meet_in_first-floor-requires-clause-can : goal.meet_in_first-floor-requires-clause-can
meet_in_first-floor-requires-clause-can g c =
    let vecs = c.in_ok-parted.parted.states.items in
    let long : length c.in_ok-all.all.items ≡ length c.in_ok-posts.posts.items
    = sym c.in_ok-all.all.ok.0 ∙ c.in_ok-all.ensures.len ∙ c.in_ok-posts.posts.ok.0 in
    can-meet g.F.SharedFloor.shared c.args.plan.now c.args.floors.items c.in_ok-posts.posts.items c.requires.runnable
    c.requires.split c.in_ok-posts.ensures c.in_ok-all.all.items c.in_ok-parted.parted.floors.items
    (map (λ own. own.items) vecs) (map (λ own. own.items) c.in_ok-parted.parted.waits.items) long
    c.in_ok-all.ensures.each c.in_ok-parted.ensures

pub returns-clause-told : goal.returns-clause-told
returns-clause-told g c =
    let vecs = c.in_ok-parted.parted.states.items in
    let long : length c.in_ok-all.all.items ≡ length c.in_ok-posts.posts.items
    = sym c.in_ok-all.all.ok.0 ∙ c.in_ok-all.ensures.len ∙ c.in_ok-posts.posts.ok.0 in
    all-told g.F.SharedFloor.shared c.args.plan.now c.args.floors.items c.in_ok-posts.posts.items c.requires.runnable
    c.requires.split c.in_ok-posts.ensures c.in_ok-all.all.items c.in_ok-parted.parted.floors.items
    (map (λ own. own.items) vecs) (map (λ own. own.items) c.in_ok-parted.parted.waits.items) long
    c.in_ok-all.ensures.each c.in_ok-parted.ensures
    (g.F.SharedFloor.shared c.meet_in_first-floor.result) c.meet_in_first-floor.ensures c.from-ends.result
    (ends-kept (λ own. own.items) c.as_slice-states.result.now vecs _ (length c.args.plan.now.jobs) _ c.from-ends.result
    c.as_slice-states.ensures.value (ap length c.as_slice-jobs.ensures) c.from-ends.ensures c.in_ok-ends.ensures)
    c.from-waits.result
    (lines-kept (λ own. own.items) c.args.plan.now.resources _ c.in_ok-parted.parted.waits.items _ _ c.from-waits.result
    c.as_slice-resources.ensures c.as_slice.ensures.value c.from-waits.ensures c.in_ok-lines.ensures)

pub returns-clause-gate : goal.returns-clause-gate
returns-clause-gate g c =
    let vecs = c.in_ok-parted.parted.states.items in
    let long : length c.in_ok-all.all.items ≡ length c.in_ok-posts.posts.items
    = sym c.in_ok-all.all.ok.0 ∙ c.in_ok-all.ensures.len ∙ c.in_ok-posts.posts.ok.0 in
    all-gated g.F.SharedFloor.shared c.args.plan.now c.args.floors.items c.in_ok-posts.posts.items c.requires.runnable
    c.requires.split c.in_ok-posts.ensures c.in_ok-all.all.items c.in_ok-parted.parted.floors.items
    (map (λ own. own.items) vecs) (map (λ own. own.items) c.in_ok-parted.parted.waits.items) long
    c.in_ok-all.ensures.each c.in_ok-parted.ensures
    (g.F.SharedFloor.shared c.meet_in_first-floor.result) c.meet_in_first-floor.ensures c.from-ends.result
    (ends-kept (λ own. own.items) c.as_slice-states.result.now vecs _ (length c.args.plan.now.jobs) _ c.from-ends.result
    c.as_slice-states.ensures.value (ap length c.as_slice-jobs.ensures) c.from-ends.ensures c.in_ok-ends.ensures)
    c.from-waits.result
    (lines-kept (λ own. own.items) c.args.plan.now.resources _ c.in_ok-parted.parted.waits.items _ _ c.from-waits.result
    c.as_slice-resources.ensures c.as_slice.ensures.value c.from-waits.ensures c.in_ok-lines.ensures)

pub returns-clause-waits : goal.returns-clause-waits
returns-clause-waits g c =
    let vecs = c.in_ok-parted.parted.states.items in
    let long : length c.in_ok-all.all.items ≡ length c.in_ok-posts.posts.items
    = sym c.in_ok-all.all.ok.0 ∙ c.in_ok-all.ensures.len ∙ c.in_ok-posts.posts.ok.0 in
    all-waits g.F.SharedFloor.shared c.args.plan.now c.args.floors.items c.in_ok-posts.posts.items c.requires.runnable
    c.requires.split c.in_ok-posts.ensures c.in_ok-all.all.items c.in_ok-parted.parted.floors.items
    (map (λ own. own.items) vecs) (map (λ own. own.items) c.in_ok-parted.parted.waits.items) long
    c.in_ok-all.ensures.each c.in_ok-parted.ensures
    (g.F.SharedFloor.shared c.meet_in_first-floor.result) c.meet_in_first-floor.ensures c.from-waits.result
    (lines-kept (λ own. own.items) c.args.plan.now.resources _ c.in_ok-parted.parted.waits.items _ _ c.from-waits.result
    c.as_slice-resources.ensures c.as_slice.ensures.value c.from-waits.ensures c.in_ok-lines.ensures)

pub returns-clause-bounds : goal.returns-clause-bounds
returns-clause-bounds g c =
    let vecs = c.in_ok-parted.parted.states.items in
    let long : length c.in_ok-all.all.items ≡ length c.in_ok-posts.posts.items
    = sym c.in_ok-all.all.ok.0 ∙ c.in_ok-all.ensures.len ∙ c.in_ok-posts.posts.ok.0 in
    all-bounded g.F.SharedFloor.shared c.args.plan.now c.args.floors.items c.in_ok-posts.posts.items
    c.requires.runnable c.requires.split c.in_ok-posts.ensures c.in_ok-all.all.items
    c.in_ok-parted.parted.floors.items (map (λ own. own.items) vecs)
    (map (λ own. own.items) c.in_ok-parted.parted.waits.items) long c.in_ok-all.ensures.each c.in_ok-parted.ensures
    (g.F.SharedFloor.shared c.meet_in_first-floor.result) c.meet_in_first-floor.ensures c.from-ends.result
    (ends-kept (λ own. own.items) c.as_slice-states.result.now vecs _ (length c.args.plan.now.jobs) _ c.from-ends.result
    c.as_slice-states.ensures.value (ap length c.as_slice-jobs.ensures) c.from-ends.ensures c.in_ok-ends.ensures)

pub returns-clause-few : goal.returns-clause-few
returns-clause-few g c =
    let vecs = c.in_ok-parted.parted.states.items in
    let long : length c.in_ok-all.all.items ≡ length c.in_ok-posts.posts.items
    = sym c.in_ok-all.all.ok.0 ∙ c.in_ok-all.ensures.len ∙ c.in_ok-posts.posts.ok.0 in
    all-few g.F.SharedFloor.shared c.args.plan.now c.args.floors.items c.in_ok-posts.posts.items c.requires.runnable
    c.requires.split c.in_ok-posts.ensures c.in_ok-all.all.items c.in_ok-parted.parted.floors.items
    (map (λ own. own.items) vecs) (map (λ own. own.items) c.in_ok-parted.parted.waits.items) long
    c.in_ok-all.ensures.each c.in_ok-parted.ensures
    (g.F.SharedFloor.shared c.meet_in_first-floor.result) c.meet_in_first-floor.ensures

pub returns-clause-uncrowded : goal.returns-clause-uncrowded
returns-clause-uncrowded g c wide =
    let vecs = c.in_ok-parted.parted.states.items in
    let long : length c.in_ok-all.all.items ≡ length c.in_ok-posts.posts.items
    = sym c.in_ok-all.all.ok.0 ∙ c.in_ok-all.ensures.len ∙ c.in_ok-posts.posts.ok.0 in
    all-uncrowded g.F.SharedFloor.shared c.args.plan.now c.args.floors.items c.in_ok-posts.posts.items
    c.requires.runnable c.requires.split c.in_ok-posts.ensures c.in_ok-all.all.items c.in_ok-parted.parted.floors.items
    (map (λ own. own.items) vecs) (map (λ own. own.items) c.in_ok-parted.parted.waits.items) long
    c.in_ok-all.ensures.each c.in_ok-parted.ensures
    (g.F.SharedFloor.shared c.meet_in_first-floor.result) c.meet_in_first-floor.ensures c.from-ends.result
    (ends-kept (λ own. own.items) c.as_slice-states.result.now vecs _ (length c.args.plan.now.jobs) _ c.from-ends.result
    c.as_slice-states.ensures.value (ap length c.as_slice-jobs.ensures) c.from-ends.ensures c.in_ok-ends.ensures)
    c.from-waits.result
    (lines-kept (λ own. own.items) c.args.plan.now.resources _ c.in_ok-parted.parted.waits.items _ _ c.from-waits.result
    c.as_slice-resources.ensures c.as_slice.ensures.value c.from-waits.ensures c.in_ok-lines.ensures) wide

pub returns-clause-quiet : goal.returns-clause-quiet
returns-clause-quiet g c =
    let vecs = c.in_ok-parted.parted.states.items in
    let long : length c.in_ok-all.all.items ≡ length c.in_ok-posts.posts.items
    = sym c.in_ok-all.all.ok.0 ∙ c.in_ok-all.ensures.len ∙ c.in_ok-posts.posts.ok.0 in
    all-quiet g.F.SharedFloor.shared c.args.plan.now c.args.floors.items c.in_ok-posts.posts.items c.requires.runnable
    c.requires.split c.in_ok-posts.ensures c.in_ok-all.all.items c.in_ok-parted.parted.floors.items
    (map (λ own. own.items) vecs) (map (λ own. own.items) c.in_ok-parted.parted.waits.items) long
    c.in_ok-all.ensures.each c.in_ok-parted.ensures
    (g.F.SharedFloor.shared c.meet_in_first-floor.result) c.meet_in_first-floor.ensures

pub returns-clause-met : goal.returns-clause-met
returns-clause-met g c =
    let vecs = c.in_ok-parted.parted.states.items in
    let long : length c.in_ok-all.all.items ≡ length c.in_ok-posts.posts.items
    = sym c.in_ok-all.all.ok.0 ∙ c.in_ok-all.ensures.len ∙ c.in_ok-posts.posts.ok.0 in
    all-in g.F.SharedFloor.shared c.args.plan.now c.args.floors.items c.in_ok-posts.posts.items c.requires.runnable
    c.requires.split c.in_ok-posts.ensures c.in_ok-all.all.items c.in_ok-parted.parted.floors.items
    (map (λ own. own.items) vecs) (map (λ own. own.items) c.in_ok-parted.parted.waits.items) long
    c.in_ok-all.ensures.each c.in_ok-parted.ensures
    (g.F.SharedFloor.shared c.meet_in_first-floor.result) c.meet_in_first-floor.ensures
