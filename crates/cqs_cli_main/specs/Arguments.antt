-- The words of a command line, by what the system answers when it is asked for all of it.
use Rattle.std.specs.Prelude.{◌≡◌, ℕ, List, [], drop, map, string_bytes, Result, Ok, Err, IsErrAnd}
use Rattle.std.specs.Vec.Iter.{into_iter_items}
use Rattle.std.specs.IoError.{error_kind}
use Rattle.std.specs.declared.io.Error.{Error}
use Rattle.std.specs.declared.io.ErrorKind.TheVariants.{OutOfMemory}
use Rattle.std.specs.declared.string.String.{String}
use Rattle.std.specs.declared.vec.IntoIter.{IntoIter}

module _ {Z : Type 0} where
  -- all but the first, which is the program's name; where one of them is no UTF-8 there are none
  abbrev pub words_of : Result (IntoIter (String Z) Z) Error → List (List ℕ)
  words_of (Ok arguments) = map string_bytes (drop 1 (into_iter_items arguments))
  words_of (Err error) = []

  -- the system had no memory for the answer
  abbrev pub RanOutOfMemory : Result (IntoIter (String Z) Z) Error → Type 0
  RanOutOfMemory arguments = IsErrAnd arguments (λ error. error_kind error ≡ OutOfMemory)
