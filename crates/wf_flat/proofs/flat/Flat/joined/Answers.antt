use Rattle.std.proofs.Common.{◌<◌, length, sym, subst}
use Rattle.wf_model.specs.Lists.{IsIn}
use Rattle.wf_flat.specs.Flat.{FlatSeen}
use Rattle.wf_flat.specs.Leading.{IsIndex, led_from}
use Rattle.wf_flat.proofs.Indexing.{led_within}
use Rattle.wf_flat.proofs.Paths.{by_names}
use Rattle.wf_flat.proofs.flat.Flat.joined.Goals as goal

pub is_joined-requires-clause-in_range : goal.is_joined-requires-clause-in_range
is_joined-requires-clause-in_range c = λ v w i.
    let x = c.self.inside.ports in
    let n = c.self.invariant in
    subst (λ ws. w < length ws) (sym c.deref.ensures.value)
    (led_within n.links x.begins.items x.words.items x.rows.items n.index v w
    (subst (λ rs. IsIn w (led_from x.words.items rs v)) c.deref-2.ensures.value (subst (λ ws. IsIn w (led_from ws c.deref-2.result.now v)) c.deref.ensures.value i)))

pub returns-clause-joined : goal.returns-clause-joined
returns-clause-joined c = λ ls h.
    let x = c.self.inside.ports in
    let words = c.deref.result.now in
    let rows = c.deref-2.result.now in
    let i = subst (λ (f : FlatSeen). IsIndex ls f.begins f.words f.rows) (sym c.self.view_is) h in
    let j = subst (λ b. IsIndex ls x.begins.items b x.rows.items) (sym c.deref.ensures.value) i in
    let k = subst (λ b. IsIndex ls x.begins.items words b) (sym c.deref-2.ensures.value) j in
    c.in_ok-joined.ensures.tells ls (subst (λ b. IsIndex ls b words rows) (sym c.deref-3.ensures.value) k)

pub returns-clause-by_name : goal.returns-clause-by_name
returns-clause-by_name c = λ ls names h d w m n.
    let x = c.self.inside.ports in
    let words = c.deref.result.now in
    let rows = c.deref-2.result.now in
    let i = subst (λ (f : FlatSeen). IsIndex ls f.begins f.words f.rows) (sym c.self.view_is) h in
    let j = subst (λ b. IsIndex ls x.begins.items b x.rows.items) (sym c.deref.ensures.value) i in
    let k = subst (λ b. IsIndex ls x.begins.items words b) (sym c.deref-2.ensures.value) j in
    let r = c.in_ok-joined.ensures.tells ls (subst (λ b. IsIndex ls b words rows) (sym c.deref-3.ensures.value) k) in
    let q = by_names names ls d w c.args.from c.args.to m n in
    (λ t. q.0 (r.0 t), λ p. r.1 (q.1 p))
