use Rattle.std.proofs.Common.{◌≡◌, ◌≤◌, drop, length}
use Rattle.label_file.specs.Keys.{held}
use Rattle.label_file.specs.Hashed.{AreKeysIn, AreNamesAhead}
use Rattle.label_file.proofs.ReadSoFar.{AreReadSoFar}
use Rattle.label_file.proofs.store.Store.open_with_key.Given as goal

abbrev pub invariant-loop-rest : goal.invariant-loop-rest
invariant-loop-rest l = AreReadSoFar l.g.grammar.now.core l.digests l.bytes l.rest (held l.bytes l.entries.keys) × AreKeysIn l.keyed l.bytes l.entries.keys × (l.ahead.at ≤ 16) × AreNamesAhead l.keyed l.rest (drop l.ahead.at l.ahead.names) × (l.checker ≡ l.g.grammar.now.core)

abbrev pub decreases-loop-rest : goal.decreases-loop-rest
decreases-loop-rest l = length l.rest
