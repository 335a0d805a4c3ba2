use Rattle.std.proofs.Common.{◌<◌, arith}
use Rattle.std.proofs.lemmas.List.Elements.{All-from_get_or}
use Rattle.label_file.proofs.table.label_of.Goals as goal

pub new-requires : goal.new-requires
new-requires c = record {
  filled = c.requires.filled;
  are_bytes = All-from_get_or (λ b. b < 256) c.args.bytes.now 0 (λ i h. let fits = c.type_inv.bytes i in omega arith);
  few = let f = c.requires.few in omega (arith, f);
}
