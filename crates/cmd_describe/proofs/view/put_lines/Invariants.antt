use Rattle.cmd_describe.proofs.ViewWritten.{ArePut}
use Rattle.cmd_describe.proofs.view.put_lines.Given as goal

-- the lines of the modules before this one were put
abbrev pub invariant-loop-k : goal.invariant-loop-k
invariant-loop-k g l = ArePut l.v.accepted.grammar.core l.v.view l.v.full g.O.Sink.put_bytes g.O.Sink.faults l.k l.initial.out l.out
