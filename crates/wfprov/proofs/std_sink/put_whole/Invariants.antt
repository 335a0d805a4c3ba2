-- So many bytes of the piece were appended.
use Rattle.std.proofs.Common.{◌≤◌, length, take}
use Rattle.std.specs.Io.KnownBytes.{Appends}
use Rattle.wfprov.proofs.std_sink.put_whole.Given as goal

abbrev pub invariant-loop : goal.invariant-loop
invariant-loop g l = (l.done ≤ length l.piece) × Appends (g.W.Write.contents l.initial.inner) (g.W.Write.contents l.inner) (take l.done l.piece)
