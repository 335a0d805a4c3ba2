use Rattle.std.proofs.Common.{sym, subst}
use Rattle.bit_pack.specs.Bits.{packed}
use Rattle.bit_pack.specs.Written.{IsFilled}
use Rattle.bit_pack.proofs.Filling.{packed_filled}
use Rattle.wf_run.specs.Runs.{node_at}
use Rattle.wf_model.specs.WellFormed.{IsWellFormed}
use Rattle.wf_spec.specs.Held.{HeldGrammar}
use Rattle.wf_labeller.specs.Keeping.{Adds}
use Rattle.wf_labeller.proofs.Expansions.{made_entries}
use Rattle.wf_labeller.proofs.labeller.keep_inner.Goals as goal

pub keep_edges-requires-clause-filled : goal.keep_edges-requires-clause-filled
keep_edges-requires-clause-filled g c =
    let bits = (node_at c.args.run.now c.in-Some.n.0).bits in
    subst (λ b. IsFilled b c.prefix.result.length) (sym c.prefix.ensures.bytes) (subst (λ n. IsFilled (packed bits) n) (sym c.prefix.ensures.length) (packed_filled bits))

pub returns-clause-ok : goal.returns-clause-ok
returns-clause-ok g c events run taken =
    let wf = subst (λ (h : HeldGrammar). IsWellFormed h.core) c.grammar-g.ensures.grammar c.start-formed.ensures.formed in
    subst (Adds g.K.Keeper.parts_of (g.K.Keeper.kept c.args.to.now) (g.K.Keeper.kept c.keep_edges.new.to))
    (made_entries c.args.run.now events run c.args.instance.now c.args.production c.args.names.now taken c.in-Some.n.0 (c.in-Some.ensures.place events run) wf
    c.grammar-g.result.now c.in-Some.number.0 c.prefix.result.bytes.now c.prefix.result.length c.prefix.result.chain
    c.grammar-g.ensures.grammar c.in-Some.ensures.production.0 c.prefix.ensures.bytes c.prefix.ensures.length c.prefix.ensures.chain) c.in_ok-keep_edges.ensures.ok
