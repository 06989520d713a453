-- How each answer goes to C: under which number of the header, and with which number of its own.
use Rattle.std.specs.Prelude.{ℕ, ℤ, pos, negsuc, true, false, Some, None}
use mir.Syntax.{w64}
use Rattle.std.specs.Int.{cast_signed}
use Rattle.cqs_c_callers.specs.declared.answers.Answer.{Answer}
use Rattle.cqs_c_callers.specs.declared.answers.Answer.TheVariants as answer
use Rattle.cqs_c.specs.declared.answers.CqsAnswer.{CqsAnswer}

-- an answer that carries no number, and one that carries one
abbrev pub bare : ℕ → CqsAnswer
bare a = record { answer = a; number = negsuc 0 }

abbrev pub with_count : ℕ → ℕ → CqsAnswer
with_count a n = record { answer = a; number = pos n }

-- the number of a wait, which C reads as signed
abbrev pub with_wait : ℕ → ℕ → CqsAnswer
with_wait a n = record { answer = a; number = cast_signed w64 n }

abbrev pub told : Answer → CqsAnswer
told answer.NoPass = bare 2
told answer.InUse = bare 3
told answer.Owes = bare 4
told answer.OwesNothing = bare 5
told answer.NoPermit = bare 6
told answer.NoParty = bare 6
told answer.NoWait = bare 7
told answer.Full = bare 8
told answer.Worn = bare 9
told answer.Crowd = bare 10
told answer.Memory = bare 11
told answer.Busy = bare 12
told answer.NoCall = bare 14
told answer.NoElement = bare 15
told (answer.Now None) = bare 16
told (answer.Now (Some k)) = with_wait 16 k
told (answer.Later k) = with_wait 17 k
told answer.Got = bare 18
told answer.NoneFree = bare 19
told (answer.Contended saw found) = record { answer = 20; number = found }
told answer.Granted = bare 21
told answer.Pending = bare 22
told answer.Cancelled = bare 23
told (answer.CancelledOwing k) = with_wait 24 k
told answer.TooLate = bare 25
told (answer.LateTook e) = with_count 25 e
told answer.Freed = bare 26
told (answer.Sent k) = with_wait 27 k
told (answer.Left k) = with_wait 28 k
told (answer.Void k) = with_wait 29 k
told (answer.Under k) = with_wait 30 k
told (answer.State state) = record { answer = 31; number = state }
told (answer.Sole false) = with_count 32 0
told (answer.Sole true) = with_count 32 1
told (answer.Made pass) = with_count 33 pass
told answer.Met = bare 34
told (answer.Took e) = with_count 35 e
told answer.Passed = bare 36
told answer.Through = bare 37
told (answer.Counted left) = with_count 38 left
told answer.Last = bare 39
told (answer.LastOwing k) = with_wait 40 k
told answer.Already = bare 41
told answer.Finished = bare 42
told answer.Crowded = bare 44
told (answer.Broke k) = with_wait 45 k
told (answer.Handling k) = with_wait 46 k
