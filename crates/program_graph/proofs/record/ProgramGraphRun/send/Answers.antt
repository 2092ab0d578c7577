use Rattle.laws.proofs.Ladder.{passed, stopped}
use Rattle.laws.proofs.Tests.{held, failed}
use Rattle.program_graph.specs.Messaging.{refused_send, send_of}
use Rattle.program_graph.proofs.RunLaws.{fitting}
use Rattle.program_graph.proofs.record.ProgramGraphRun.send.Goals as goal

pub returns-then-not-fits_table : goal.returns-then-not-fits_table
unfolding send_of
returns-then-not-fits_table c =
    stopped (refused_send 32 c.args.self.now) _ (failed c.fits_table.ensures c.if-not-fits_table.true)

pub send-requires : goal.send-requires
send-requires c = fitting _ _ (held c.fits_table.ensures c.if-not-fits_table.false)

pub returns : goal.returns
unfolding send_of
returns c = passed _ (held c.fits_table.ensures c.if-not-fits_table.false) c.send.ensures
