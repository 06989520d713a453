-- The input, where the source told it before.
use Rattle.std.proofs.Common.{◌≡◌, ℕ, ◌<◌, ◌≤◌, List, length, Option, Some, None, ap, sym, ◌∙◌, subst, arith, length-append}
use Rattle.cqs_cli_streams.specs.Stream.{GivesCount, IsAll}
use Rattle.cqs_cli_streams.specs.declared.streams.reading.TheConstants.{LONGEST_INPUT}
use Rattle.cqs_cli_streams.specs.Input.{IsInput}

-- the input is what the source told
pub input-told : (bytes told : List ℕ) (left after : Option (List ℕ)) → IsInput bytes left after → left ≡ Some told
    → told ≡ bytes
input-told bytes told left after input tells =
    let P : Option (List ℕ) → Type 0 = IsAll bytes in subst P tells input.whole

-- a source that gave so many bytes told of as many before
pub gave-as-many : (count : ℕ) (told : List ℕ) (left after : Option (List ℕ)) → GivesCount count left after
    → left ≡ Some told → count ≤ length told
gave-as-many count told None after given tells = absurd (cc)
gave-as-many count told (Some all) after (bytes, many, (rest, whole, _)) tells =
    let same : all ≡ told = cc in
    omega (arith, ap length (sym same ∙ whole), length-append bytes rest)

-- what is too long was not the input
pub long-is-no-input : (bytes told : List ℕ) (left after : Option (List ℕ)) → IsInput bytes left after
    → left ≡ Some told → LONGEST_INPUT < length told → ⊥
long-is-no-input bytes told left after input tells long =
    let same = input-told bytes told left after input tells in
    omega (arith, ap length same, input.few, long)
