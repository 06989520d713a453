-- The commands that have no workers.
use Rattle.cqs_cli.specs.Contract.{Commands}
use Rattle.cqs_cli.specs.KeptRuns.{IsNoRun, KeptText}
use Rattle.cqs_cli.specs.Meanings.{BrokeOff, HasTold}
use Rattle.cqs_cli.specs.Words.{IsCommand, IsRun}
use Rattle.cqs_cli.specs.declared.kept.Kept.{Kept}
use Rattle.cqs_cli.specs.declared.kept.Kept.TheVariants.{Nothing}

abbrev pub commands : Commands Kept
commands = record {
  IsCommand = IsCommand;
  ReadsPlan = IsRun;
  HasTold = HasTold;
  BrokeOff = BrokeOff;
  KeptText = KeptText;
  nothing = Nothing;
  IsNoRun = IsNoRun;
}
