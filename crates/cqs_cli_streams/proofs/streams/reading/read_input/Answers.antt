use Rattle.std.proofs.Common.{ℕ, ◌≡◌, ◌≤◌, ◌++◌, length, take, arith, length-append, length-take}
use Rattle.cqs_cli_streams.proofs.StreamLemmas.{Gives_more, gave_all, still_at_end}
use Rattle.cqs_cli_streams.proofs.streams.reading.read_input.Goals as goal

pub returns-then-count-eq0-clause-ended : goal.returns-then-count-eq0-clause-ended
returns-then-count-eq0-clause-ended g c =
    let nothing : length (take c.in_ok-count.count c.read-in-read.new.buffer) ≡ 0 =
    omega (arith, length-take {A = ℕ}) in
    still_at_end _ _ _ nothing c.in_ok-count.ensures.next (c.in_ok-count.ensures.end c.if-count-eq0.true)

pub returns-then-count-eq0-clause-whole : goal.returns-then-count-eq0-clause-whole
returns-then-count-eq0-clause-whole g c =
    gave_all _ _ _ c.read.invariant.read.given (c.in_ok-count.ensures.end c.if-count-eq0.true)

pub returns-then-count-eq0-clause-taken : goal.returns-then-count-eq0-clause-taken
returns-then-count-eq0-clause-taken g c =
    let bytes = c.read.bytes.items in
    let piece = take c.in_ok-count.count c.read-in-read.new.buffer in
    let few : length (bytes ++ piece) ≤ 1048577 =
    omega (arith, length-append bytes piece, length-take {A = ℕ}, c.read.invariant.read.few) in
    (bytes ++ piece, few, Gives_more _ _ _ _ _ c.read.invariant.read.given c.in_ok-count.ensures.next)

pub returns-in_err-count-clause-taken : goal.returns-in_err-count-clause-taken
returns-in_err-count-clause-taken g c =
    let same : g.S.Source.left c.read-in-read.new.self ≡ g.S.Source.left c.read.source = c.in_err-count.ensures.same in
    (c.read.bytes.items, omega (arith, c.read.invariant.read.few), rw same c.read.invariant.read.given)

pub returns-clause-taken : goal.returns-clause-taken
returns-clause-taken g c = (c.read.bytes.items, omega (arith, c.read.invariant.read.few), c.read.invariant.read.given)

pub returns-in_err-extend_from_slice-clause-taken : goal.returns-in_err-extend_from_slice-clause-taken
returns-in_err-extend_from_slice-clause-taken g c =
    let bytes = c.read.bytes.items in
    let piece = take c.in_ok-count.count c.read-in-read.new.buffer in
    let few : length (bytes ++ piece) ≤ 1048577 =
    omega (arith, length-append bytes piece, length-take {A = ℕ}, c.in_ok-count.ensures.within) in
    (bytes ++ piece, few, Gives_more _ _ _ _ _ c.read.invariant.read.given c.in_ok-count.ensures.next)

pub returns-then-len-count-gt-LONGEST_INPUT-clause-too_long :
    goal.returns-then-len-count-gt-LONGEST_INPUT-clause-too_long
returns-then-len-count-gt-LONGEST_INPUT-clause-too_long g c = λ is.
    let bytes = c.read.bytes.items in
    let piece = take c.in_ok-count.count c.read-in-read.new.buffer in
    let many : length (bytes ++ piece) ≡ 1048577 =
    omega (arith, length-append bytes piece, length-take {A = ℕ}, c.in_ok-count.ensures.within) in
    (bytes ++ piece, many, Gives_more _ _ _ _ _ c.read.invariant.read.given c.in_ok-count.ensures.next)

pub returns-then-len-count-gt-LONGEST_INPUT-clause-taken : goal.returns-then-len-count-gt-LONGEST_INPUT-clause-taken
returns-then-len-count-gt-LONGEST_INPUT-clause-taken g c =
    let bytes = c.read.bytes.items in
    let piece = take c.in_ok-count.count c.read-in-read.new.buffer in
    let few : length (bytes ++ piece) ≤ 1048577 =
    omega (arith, length-append bytes piece, length-take {A = ℕ}, c.in_ok-count.ensures.within) in
    (bytes ++ piece, few, Gives_more _ _ _ _ _ c.read.invariant.read.given c.in_ok-count.ensures.next)
