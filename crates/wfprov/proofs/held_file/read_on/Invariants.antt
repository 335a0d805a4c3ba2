-- A call that failed has left the bytes of the reader as they were.
use Rattle.std.specs.Io.KnownBytes.{Keeps}
use Rattle.wfprov.proofs.held_file.read_on.Given as goal

abbrev pub invariant-loop : goal.invariant-loop
invariant-loop g l = Keeps (g.R.Read.remaining l.initial.reader) (g.R.Read.remaining l.reader)
