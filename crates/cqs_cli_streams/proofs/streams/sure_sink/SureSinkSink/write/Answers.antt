use Rattle.std.proofs.Common.{rules}
use Rattle.cqs_cli_streams.proofs.StreamLemmas.{kept-in-room}
use Rattle.cqs_cli_streams.proofs.streams.sure_sink.SureSinkSink.write.Goals as goal

pub returns-clause-exact : goal.returns-clause-exact
returns-clause-exact c =
    let kept = kept-in-room c.args.self.now.room c.args.self.now.kept c.args.piece.now (search rules) in
    (search rules, search rules, search rules, search rules)
