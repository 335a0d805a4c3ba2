use Rattle.std.proofs.Common.{◌≡◌, ◌<◌, ◌∙◌, true, bytes_eq, length, get_or, ap, sym, subst}
use Rattle.wf_names.proofs.Found.{position_through}
use Rattle.wf_names.proofs.RecentNames.{position_alone}
use Rattle.wf_names.proofs.recent.find_at.Goals as goal

pub returns-then-is_same-clause-place : goal.returns-then-is_same-clause-place
returns-then-is_same-clause-place g c =
    let name = c.args.name.now in
    let keys = c.args.keys.now.keys in
    let i = c.args.i in
    let k = c.index-all-i.result in
    let all = c.as_slice-all.ensures.keys in
    let low = subst (λ ks. i < length ks) all c.if-i-all.true in
    let test = subst (λ ks. bytes_eq name (g.K.HeldName.name (get_or ks i k).held) ≡ true) all (ap (bytes_eq name) (sym c.bytes.ensures) ∙ (sym c.is_same.ensures ∙ c.if-is_same.true)) in
    position_through (bytes_eq name) (λ k. g.K.HeldName.name k.held) keys
    ∙ position_alone c.args.keyed.now (λ k. k.hash) (λ k. g.K.HeldName.name k.held) name keys i k low c.requires.keys c.as_slice-all.ensures.unique test
