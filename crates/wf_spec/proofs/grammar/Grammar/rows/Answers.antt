use Rattle.std.proofs.Common.{◌<◌, sym, subst, length}
use Rattle.wf_spec.specs.Held.{HeldGrammar}
use Rattle.wf_spec.specs.Tables.{AreRowsOf}
use Rattle.wf_spec.proofs.Tables.{rowed}
use Rattle.wf_spec.proofs.grammar.Grammar.rows.Goals as goal

pub returns : goal.returns
returns c =
    let below : c.args.m.0 < length c.self.inside.modules = subst (λ (g : HeldGrammar). c.args.m.0 < length g.core.modules) (sym c.self.view_is) c.requires.in_range in
    subst (λ (g : HeldGrammar). AreRowsOf g.core c.args.m.0 c.as_slice.result.now) c.self.view_is
    (rowed _ c.args.m.0 c.self.inside.rows.items c.index.result.now c.as_slice.result.now c.self.invariant.0.rows below c.index.ensures c.as_slice.ensures.value)
