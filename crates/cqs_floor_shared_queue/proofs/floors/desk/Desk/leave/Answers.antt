use Rattle.std.proofs.Common.{Some, inr, ap, subst, sym, ◌∙◌}
use Rattle.cqs_floor_shared_queue.specs.Ledgers.{Ledger, with_back, with_grant, with_shares, without_wait}
use Rattle.cqs_floor_shared_kinds.specs.ShareCalls as calls
use Rattle.cqs_floor_shared_queue.specs.Spots.{place_in}
use Rattle.cqs_floor_shared_queue.proofs.floors.desk.Desk.leave.Goals as goal

pub returns-in-Late : goal.returns-in-Late
returns-in-Late g c =
    let s = g.X.SharedResource.share in
    let l = c.args.self.now in
    let w = c.wait_of-came.result.0 in
    let e = c.in-Late.element in
    let a = c.ask_leave.ensures in
    let b = c.bring-in-Late.ensures in
    let shares = ap (λ (m : Ledger g.row.X.Denot). m.shares) b in
    inr (record {
      wait = w;
      is = c.wait_of-came.ensures.was ∙ ap (λ c. Some (record { wait = Some w; came = c })) c.if-came.false;
      calls = record {
        share = a.calls.share;
        there = a.calls.there;
        after = a.calls.after;
        made = subst (λ r. calls.Leaves s c.args.job a.calls.share w.round (place_in w) r a.calls.after) c.in-Late.is
            a.calls.made;
        shares = shares ∙ a.calls.shares;
      };
      writes = b ∙ ap (λ m. with_grant m w.at c.args.job e) a.same
          ∙ ap (λ xs. with_shares (with_grant l w.at c.args.job e) xs) (sym shares);
    })

pub returns-in-Gone : goal.returns-in-Gone
returns-in-Gone g c =
    let s = g.X.SharedResource.share in
    let l = c.args.self.now in
    let w = c.wait_of-came.result.0 in
    let a = c.ask_leave.ensures in
    let b = c.give_up.ensures in
    let shares = ap (λ (m : Ledger g.row.X.Denot). m.shares) b in
    record {
      wait = w;
      is = c.wait_of-came.ensures.was ∙ ap (λ c. Some (record { wait = Some w; came = c })) c.if-came.false;
      calls = record {
        share = a.calls.share;
        there = a.calls.there;
        after = a.calls.after;
        made = subst (λ r. calls.Leaves s c.args.job a.calls.share w.round (place_in w) r a.calls.after) c.in-Gone.is
            a.calls.made;
        shares = shares ∙ a.calls.shares;
      };
      writes = b ∙ ap (λ m. with_back (without_wait m c.args.job) c.args.job w) a.same
          ∙ ap (λ xs. with_shares (with_back (without_wait l c.args.job) c.args.job w) xs) (sym shares);
    }
