-- One piece after another: what a stream gave or took in all.
use Rattle.std.proofs.Common.{◌≡◌, ℕ, ◌+◌, ◌-◌, ◌≤◌, min, List, ◌++◌, [], length, take, drop, Option, Some, None, ap, sym, ◌∙◌, arith, append_assoc, length-append, length-drop, append-nil}
use Rattle.std.proofs.Math.Seq.{take-add, take-append-add, take-length}
use Rattle.std.proofs.lemmas.List.{drop-drop, nil_from_length, take-append-drop, take_min}
use Rattle.cqs_cli_streams.specs.Stream.{Gives, Gains, IsAll}

-- a source that gave one piece and then the next gave both
pub Gives_more : (first next : List ℕ) (left between after : Option (List ℕ))
    → Gives first left between → Gives next between after → Gives (first ++ next) left after
Gives_more first next None None after given more = more
Gives_more first next None (Some between) after given more = absurd (cc)
Gives_more first next (Some left) None after (rest, _, told) more = absurd (cc)
Gives_more first next (Some left) (Some between) after (rest, whole, told) (last, rest_is, after_is) =
    let same : between ≡ rest = cc in
    (last, whole ∙ ap (λ xs. first ++ xs) (sym same ∙ rest_is) ∙ sym (append_assoc first next last), after_is)

-- a sink that took one piece and then the next took both
pub Gains_more : (first next : List ℕ) (held between after : Option (List ℕ))
    → Gains first held between → Gains next between after → Gains (first ++ next) held after
Gains_more first next held between None gained more = tt
Gains_more first next None None (Some after) gained more = more
Gains_more first next None (Some between) (Some after) gained more = gained
Gains_more first next (Some held) None (Some after) gained more = absurd more
Gains_more first next (Some held) (Some between) (Some after) gained more =
    more ∙ ap (λ xs. xs ++ next) gained ∙ append_assoc held first next

-- where nothing is left, what a source gave is all that it had
pub gave_all : (bytes : List ℕ) (left now : Option (List ℕ))
    → Gives bytes left now → IsAll [] now → IsAll bytes left
gave_all bytes None now given ended = tt
gave_all bytes (Some left) None (rest, _, told) ended = absurd (cc)
gave_all bytes (Some left) (Some now) (rest, whole, told) ended =
    let rest_is : rest ≡ now = cc in
    whole ∙ ap (λ xs. bytes ++ xs) (rest_is ∙ ended) ∙ append-nil bytes

-- a source that has nothing left and gives nothing still has nothing left
pub still_at_end : (bytes : List ℕ) (left after : Option (List ℕ))
    → length bytes ≡ 0 → Gives bytes left after → IsAll [] left → IsAll [] after
still_at_end bytes None None none given ended = tt
still_at_end bytes None (Some after) none given ended = absurd (cc)
still_at_end bytes (Some left) None none (rest, whole, told) ended = absurd (cc)
still_at_end bytes (Some left) (Some after) none (rest, whole, told) ended =
    let rest_is : rest ≡ after = cc in
    let empty : length after ≡ 0 =
    omega (arith, ap length (sym whole ∙ ended), length-append bytes rest, ap length rest_is) in
    nil_from_length after empty

-- a prefix, and a prefix of what comes after it, are a longer prefix
pub take_on : (text : List ℕ) (done count : ℕ)
    → take done text ++ take count (take (length text - done) (drop done text)) ≡ take (done + count) text
take_on text done count =
    let rest : take (length text - done) (drop done text) ≡ drop done text =
    ap (λ n. take n (drop done text)) (sym (length-drop done text)) ∙ take-length (drop done text) in
    rw rest (sym (take-add done count text))

-- what is left after a place is a prefix of it and what is left after that
pub left_splits : (bytes : List ℕ) (place count : ℕ)
    → drop place bytes ≡ take count (drop place bytes) ++ drop (place + count) bytes
left_splits bytes place count =
    sym (take-append-drop count (drop place bytes))
    ∙ ap (λ xs. take count (drop place bytes) ++ xs) (drop-drop count place bytes)

-- what a sink keeps of a piece, as far as its room goes
pub kept-in-room : (room : ℕ) (kept piece : List ℕ) → length kept ≤ room
    → kept ++ take (min (length piece) (room - length kept)) piece ≡ take room (kept ++ piece)
kept-in-room room kept piece fits =
    let spare = room - length kept in
    let turned : min (length piece) spare ≡ min spare (length piece) = omega arith in
    let whole : length kept + spare ≡ room = omega (arith, fits) in
    ap (λ n. kept ++ take n piece) turned ∙ ap (λ xs. kept ++ xs) (take_min spare piece)
    ∙ sym (take-append-add kept piece spare) ∙ ap (λ n. take n (kept ++ piece)) whole
