use Rattle.std.proofs.Common.{◌++◌, append_assoc}
use Rattle.std.specs.Prelude.{codes, decimal}
use Rattle.grammar_text.specs.Names.{name_of}
use Rattle.wf_safe.proofs.witness.Witness.add_productions.Goals as goal

pub returns : goal.returns
returns c =
    let w = c.args.self.now in
    rw (append_assoc c.args.out.now.items (codes "Unsafe module " ++ name_of c.args.g.now.core w.«module».0) ((codes " one " ++ decimal w.one.0) ++ (codes " other " ++ decimal w.other.0)))
    at (rw c.module_name.ensures at (rw c.in_ok-add_two.ensures at c.add_both.ensures))
