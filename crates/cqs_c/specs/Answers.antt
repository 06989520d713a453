-- What an export answers, by its pointer.
use Rattle.std.specs.Prelude.{◌≡◌, ℤ, pos, negsuc}
use denote.RawPtr.{Ptr, block_ptr, null_ptr}
use Rattle.cqs_c.specs.declared.answers.CqsAnswer.{CqsAnswer}

-- where there is no primitive
abbrev pub no_object : CqsAnswer
no_object = record { answer = 1; number = negsuc 0 }

-- At null the export says that there is none; else it answers what this allows.
abbrev pub Answers : Ptr → (CqsAnswer → Type 0) → CqsAnswer → Type 0
Answers null_ptr allows r = r ≡ no_object
Answers (block_ptr b o) allows r = allows r
