use Rattle.std.proofs.Common.{rules, ◌≡◌, inl, sym, subst, length}
use Rattle.cqs_lines.specs.Forms.{AreItems, IsFirstBad}
use Rattle.cqs_limiter_requests.specs.Lines.{line_says, IsLineFor}
use Rattle.cqs_limiter_requests.proofs.Heads.{no-feed, no-head, lines-few, bad-line, read-text}
use Rattle.cqs_limiter_requests.proofs.reading.read_requests.Goals as goal

pub returns-in_default-clause-bad : goal.returns-in_default-clause-bad
returns-in_default-clause-bad c = λ n same.
    let one : 1 ≡ n = cc same in
    inl (sym one, no-feed _ c.in_default.ensures)

pub returns-in_default-2-clause-bad : goal.returns-in_default-2-clause-bad
returns-in_default-2-clause-bad c = λ n same.
    let one : 1 ≡ n = cc same in
    inl (sym one, no-head _ _ _ c.in-Some.ensures (rw c.in_default-2.is at c.in_ok-permits.ensures))

pub returns-in-Ok-clause-ok : goal.returns-in-Ok-clause-ok
returns-in-Ok-clause-ok c =
    let head = rw c.in-Some-2.is at c.in_ok-permits.ensures in
    let many : c.len.result ≡ length c.in-Some-2.permits.items = search rules in
    let are = subst (λ n. AreItems line_says (IsLineFor n) c.in-Ok.asks.items c.in-Some.rest.now) many
    c.in-Ok.ensures.ok
    in (
      record { permits = head.0; lines = are.fit },
      read-text _ _ _ _ _ _ c.in-Some.ensures head.1 are,
    )

pub returns-in-Ok-clause-valid : goal.returns-in-Ok-clause-valid
returns-in-Ok-clause-valid c = λ few.
    let head = rw c.in-Some-2.is at c.in_ok-permits.ensures in
    let many : c.len.result ≡ length c.in-Some-2.permits.items = search rules in
    let are = subst (λ n. AreItems line_says (IsLineFor n) c.in-Ok.asks.items c.in-Some.rest.now) many
    c.in-Ok.ensures.ok
    in
    record {
      are = record { permits = head.0; lines = are.fit };
      few = lines-few _ _ _ _ _ _ c.in-Some.ensures head.1 are few;
    }

pub returns-clause-bad : goal.returns-clause-bad
returns-clause-bad c = λ n same.
    let head = rw c.in-Some-2.is at c.in_ok-permits.ensures in
    let many : c.len.result ≡ length c.in-Some-2.permits.items = search rules in
    bad-line _ _ _ _ n c.in-Some.ensures head.0 head.1
    (subst (λ k. IsFirstBad line_says (IsLineFor k) c.in-Some.rest.now 2 n) many
    (c.in-Err-Bad.ensures.bad n (cc (same, c.in-Err-Bad.field-0-is))))
