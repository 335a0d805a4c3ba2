use Rattle.std.proofs.Common.{◌∙◌, ap}
use Rattle.wf_model.specs.Grammar.{Module}
use Rattle.wf_json.specs.Canonical.{text_in_quotes}
use Rattle.wf_json.proofs.Taken.{behind, last_behind, renamed}
use Rattle.wf_json.proofs.writing.production.put_production.Goals as goal

pub returns : goal.returns
returns g c =
    let s0 = behind c.in_ok-put.ensures (renamed (ap text_in_quotes (c.name.ensures ∙ ap (λ (m : Module). m.name) c.head.ensures)) c.in_ok-put_quoted.ensures) in
    let s1 = behind (behind s0 c.in_ok-put-2.ensures) c.in_ok-put_positions.ensures in
    let s2 = behind (behind s1 c.in_ok-put-3.ensures) c.in_ok-put_edges.ensures in
    let s3 = behind (behind s2 c.in_ok-put-4.ensures) c.in_ok-put_entries.ensures in
    let s4 = behind (behind s3 c.in_ok-put-5.ensures) c.in_ok-put_exits.ensures in
    last_behind _ _ _ s4 c.put-6.ensures
