use Rattle.std.proofs.Common.{◌-◌, ◌∙◌, drop, length, refl, sym, take}
use Rattle.wf_json.proofs.Items.{read_two}
use Rattle.wf_json.proofs.form.two.Goals as goal

pub returns : goal.returns
returns g c =
    let list = c.args.list.now in
    let rest = take (length list - 1) (drop 1 list) in
    read_two g.A.FromJson.form g.B.FromJson.form list rest (take (length rest - 1) (drop 1 rest)) c.first-item.result c.second-item.result c.in-Some.a c.in-Some-2.b c.in_ok-a.field-0 c.in_ok-b.field-0
    c.in-len1-up.len_at_least c.first-item.is refl c.in-len1-up-rest.len_at_least c.second-item.is refl (sym c.is_empty.ensures ∙ c.if-not-is_empty.false)
    c.in_ok-a.ensures c.in-Some.is c.in_ok-b.ensures c.in-Some-2.is
