-- What a call of a job's turn comes to: what the turn machine says; and where memory ran out, the
-- report is a prefix of the text that it would have come to.
use Rattle.std.specs.Prelude.{◌≡◌, ℕ, List, Option, Result, OnOk, OnErr, IfOk}
use Rattle.cqs_core.specs.declared.shortage.Memory.{Memory}
use Rattle.cqs_turns_report.specs.declared.states.Progress.{Progress}
use Rattle.cqs_core.specs.Parts.{IsPrefix}
use Rattle.cqs_turns_report.specs.Roles.{made_of}
use Rattle.cqs_turns_report.specs.Turns.{Scene, Acted, Made, left_at}

-- it comes to this
pub record ComesTo {A B : Type 0} (text_of : B → List ℕ) (result : Result A Memory)
    (expected now : B) : Type 0 where
  pub ok : OnOk result (now ≡ expected)
  pub err : OnErr result (IsPrefix (text_of now) (text_of expected))

-- the text of the report, in what a call may come to
abbrev pub text_in : Scene → List ℕ
text_in s = s.text

abbrev pub text_acted : Acted → List ℕ
text_acted a = a.scene.text

-- it comes to this, with the progress that is answered
pub record LeavesAt (result : Result Progress Memory) (expected : Acted)
    (now : Scene) : Type 0 where
  pub ok : IfOk result (λ progress. left_at now progress ≡ expected)
  pub err : OnErr result (IsPrefix now.text expected.scene.text)

-- it comes to this, and the turn ends with the progress that is answered, if there is one
pub record Makes (result : Result (Option Progress) Memory) (expected : Made)
    (now : Scene) : Type 0 where
  pub ok : IfOk result (λ stops. made_of now stops ≡ expected)
  pub err : OnErr result (IsPrefix now.text expected.scene.text)
