use Rattle.std.proofs.Common.{◌<◌, ◌^◌, length, ap, sym, subst, ◌∙◌}
use Rattle.bit_pack.specs.Bits.{packed}
use Rattle.wf_run.specs.Runs.{RunSeen, Node}
use Rattle.wf_run.proofs.Whole.{node_read, whole_packed, whole_length}
use Rattle.wf_run.proofs.run.Run.prefix.Goals as goal

pub returns-clause-bytes : goal.returns-clause-bytes
returns-clause-bytes c =
    let r = node_read c.self.inside.nodes.items c.args.self.now c.args.n.0 _ (ap (λ (r : RunSeen). r.nodes) c.self.view_is) c.requires c.index-node.ensures in
    whole_packed _ _ (c.self.invariant.filled _ r.0).whole ∙ ap (λ (n : Node). packed n.bits) (sym r.1)

pub returns-clause-length : goal.returns-clause-length
returns-clause-length c =
    let r = node_read c.self.inside.nodes.items c.args.self.now c.args.n.0 _ (ap (λ (r : RunSeen). r.nodes) c.self.view_is) c.requires c.index-node.ensures in
    whole_length _ _ (c.self.invariant.filled _ r.0).whole ∙ ap (λ (n : Node). length n.bits) (sym r.1)

pub returns-clause-few : goal.returns-clause-few
returns-clause-few c =
    let r = node_read c.self.inside.nodes.items c.args.self.now c.args.n.0 _ (ap (λ (r : RunSeen). r.nodes) c.self.view_is) c.requires c.index-node.ensures in
    let f = c.self.invariant.filled _ r.0 in
    subst (λ n. n < 2 ^ 17) (whole_length _ _ f.whole ∙ ap (λ (n : Node). length n.bits) (sym r.1)) f.few
