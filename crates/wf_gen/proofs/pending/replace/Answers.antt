use Rattle.wf_model.specs.Grammar.{body_of}
use Rattle.wf_gen.proofs.Children.{replaced}
use Rattle.wf_gen.proofs.pending.replace.Goals as goal

pub returns-clause-replaced : goal.returns-clause-replaced
returns-clause-replaced c =
    replaced c.args.g.now.core c.args.first (body_of c.args.g.now.core c.args.p.0) c.args.pending.now.items _ _ _ c.args.place _ c.requires.place c.in_ok-reserve.ensures.items c.swap_remove.ensures.items c.put_children.ensures
