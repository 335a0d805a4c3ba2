use Rattle.std.proofs.Common.{◌<◌, [], length, get_or, ap, sym, subst, ◌∙◌}
use Rattle.std.proofs.lemmas.Result.{on_ok_weaker}
use Rattle.bit_pack.specs.Bits.{packed}
use Rattle.bit_pack.specs.Written.{IsFilled}
use Rattle.bit_pack.proofs.Filling.{packed_filled}
use Rattle.wf_model.specs.Grammar.{production_at}
use Rattle.wf_spec.specs.Held.{HeldGrammar}
use Rattle.wf_run.specs.Runs.{node_at}
use Rattle.wf_labeller.specs.declared.group.Maker.{Maker}
use Rattle.wf_labeller.specs.Groups.{bits_by}
use Rattle.wf_labeller.proofs.MadeBits.{bits_read}
use Rattle.wf_labeller.proofs.Measured.{length-edges}
use Rattle.wf_labeller.proofs.labelled_run.write_item.Goals as goal

pub write_edge-requires-clause-filled : goal.write_edge-requires-clause-filled
write_edge-requires-clause-filled c =
    let bits = (node_at c.args.run.now c.in-Expansion.instance.0).bits in
    subst (λ b. IsFilled b c.prefix.result.length) (sym c.prefix.ensures.bytes) (subst (λ n. IsFilled (packed bits) n) (sym c.prefix.ensures.length) (packed_filled bits))

pub write_edge-requires-clause-in_range : goal.write_edge-requires-clause-in_range
write_edge-requires-clause-in_range c =
    let r = c.args.run.now in
    let p = c.in-Expansion.production.0 in
    let n = node_at r c.in-Expansion.instance.0 in
    subst (λ (g : HeldGrammar). c.args.k < length (production_at g.core p).edges) (sym c.grammar-g.ensures.grammar)
    (subst (λ m. c.args.k < m) (length-edges r.grammar.core p n.bits n.chain) (subst (λ (m : Maker). c.args.k < length (bits_by r m)) c.in-Expansion.is c.requires.in_range))

pub returns-in-Expansion : goal.returns-in-Expansion
returns-in-Expansion c =
    let r = c.args.run.now in
    let p = c.in-Expansion.production.0 in
    let same = bits_read r c.grammar-g.result.now p c.in-Expansion.instance.0 c.prefix.result.bytes.now c.prefix.result.length c.prefix.result.chain c.grammar-g.ensures.grammar c.prefix.ensures.bytes c.prefix.ensures.length c.prefix.ensures.chain in
    on_ok_weaker c.write_edge.result (λ e. e ∙ (ap (λ l. get_or l c.args.k []) same ∙ ap (λ (m : Maker). get_or (bits_by r m) c.args.k []) (sym c.in-Expansion.is))) c.write_edge.ensures.ok
