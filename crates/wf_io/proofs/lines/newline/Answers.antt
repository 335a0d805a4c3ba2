use Rattle.std.specs.Prelude.{◌==◌}
use Rattle.wf_io.proofs.FirstBytes.{first_byte}
use Rattle.wf_io.proofs.lines.newline.Goals as goal

pub returns : goal.returns
returns c = first_byte (λ b. b == 10) c.args.bytes.now c.memchr.result c.memchr.ensures
