use Rattle.std.proofs.Common.{◌≡◌, ◌≤◌, ◌∙◌, List, ap, length, refl, subst, sym, map}
use Rattle.std.proofs.lemmas.List.{length-map}
use Rattle.wf_model.specs.declared.parts.PosPart.{PosPart}
use Rattle.wf_model.specs.Lists.{IsIn}
use Rattle.wf_model.specs.Meaning.{position_of}
use Rattle.wf_spec.specs.Naming.{names_of, place_of}
use Rattle.wf_form.specs.Forming.{body_in, head_in, placed}
use Rattle.wf_spec.specs.FewPorts.{HasFewPorts}
use Rattle.wf_form.specs.Resolving.{AreOfModules}
use Rattle.wf_form.proofs.Fitting.{made_body, read_head}
use Rattle.wf_form.proofs.Placing.{few_there}
use Rattle.wf_form.proofs.Numbering.{within_modules, modules_known, edges_known, entries_known, exits_known, ports_known, wiring_made}
use Rattle.wf_form.proofs.wiring.wiring_from.Goals as goal
use Rattle.wf_form.proofs.wiring.wiring_from.Goals.{After-as_slice-body}

the_body : (c : After-as_slice-body) → map position_of c.as_slice-body.result.now ≡ body_in c.args.modules.now c.args.part.now
the_body c = made_body c.args.modules.now c.args.names.now c.args.part.now c.items.result.now c.as_slice-body.result.now c.in_ok-positions.positions.items c.requires.names c.items.ensures c.in_ok-positions.ensures.positions c.as_slice-body.ensures.value

the_head : (c : After-as_slice-body) → (c.index-modules-head.result ≡ head_in c.args.modules.now c.args.part.now) × (c.module_number-head.result.0 ≡ place_of (names_of c.args.modules.now) c.args.part.now.head)
the_head c = read_head c.args.modules.now c.args.names.now c.args.part.now c.bytes.result.now c.module_number-head.result.0 c.index-modules-head.result c.requires.names c.bytes.ensures c.module_number-head.ensures.place c.module_number-head.ensures.within c.index-modules-head.is

the_modules : (c : After-as_slice-body) → AreOfModules c.args.modules.now (map position_of c.as_slice-body.result.now)
the_modules c = modules_known c.args.modules.now c.args.names.now c.as_slice-body.result.now c.in_ok-positions.positions.items c.requires.names c.as_slice-body.ensures.value c.in_ok-positions.ensures.known

pub positions_from-requires-clause-known : goal.positions_from-requires-clause-known
positions_from-requires-clause-known c = subst (λ (l : List PosPart). (q : PosPart) → IsIn q l → IsIn q.module c.args.names.now) (sym c.items.ensures) c.requires.known.positions

pub edge_numbers-requires-clause-known : goal.edge_numbers-requires-clause-known
edge_numbers-requires-clause-known c = the_modules (goal.at.edge_numbers-requires-clause-known c).After-as_slice-body

few_in_head : (c : After-as_slice-body) → HasFewPorts c.index-modules-head.result
few_in_head c = few_there c.args.modules.now c.module_number-head.result.0 c.index-modules-head.result c.requires.few_ports (within_modules c.args.modules.now c.args.names.now c.module_number-head.result.0 c.requires.names c.module_number-head.ensures.within) c.index-modules-head.is

pub entry_numbers-requires-clause-known : goal.entry_numbers-requires-clause-known
entry_numbers-requires-clause-known c = the_modules (goal.at.entry_numbers-requires-clause-known c).After-as_slice-body

pub entry_numbers-requires-clause-few_inputs : goal.entry_numbers-requires-clause-few_inputs
entry_numbers-requires-clause-few_inputs c = few_in_head (goal.at.entry_numbers-requires-clause-few_inputs c).After-as_slice-body

pub exit_numbers-requires-clause-known : goal.exit_numbers-requires-clause-known
exit_numbers-requires-clause-known c = the_modules (goal.at.exit_numbers-requires-clause-known c).After-as_slice-body

pub exit_numbers-requires-clause-few_outputs : goal.exit_numbers-requires-clause-few_outputs
exit_numbers-requires-clause-few_outputs c = few_in_head (goal.at.exit_numbers-requires-clause-few_outputs c).After-as_slice-body

pub returns-in_default : goal.returns-in_default
returns-in_default c = λ h.
    (rw c.in_default.is at c.in_ok-edges.ensures.unknown) (edges_known c.args.modules.now c.args.part.now (map position_of c.as_slice-body.result.now) c.items-2.result.now
    (the_body (goal.at.returns-in_default c).After-as_slice-body) c.items-2.ensures h)

pub returns-in_default-2 : goal.returns-in_default-2
returns-in_default-2 c = λ h.
    let s = (goal.at.returns-in_default-2 c).After-as_slice-body in
    (rw c.in_default-2.is at c.in_ok-entries.ensures.unknown) (entries_known c.args.modules.now c.args.part.now (map position_of c.as_slice-body.result.now) c.index-modules-head.result c.items-3.result.now
    (the_body s) (the_head s).0 c.items-3.ensures h)

pub returns-in_default-3 : goal.returns-in_default-3
returns-in_default-3 c = λ h.
    let s = (goal.at.returns-in_default-3 c).After-as_slice-body in
    (rw c.in_default-3.is at c.in_ok-exits.ensures.unknown) (exits_known c.args.modules.now c.args.part.now (map position_of c.as_slice-body.result.now) c.index-modules-head.result c.items-4.result.now
    (the_body s) (the_head s).0 c.items-4.ensures h)

pub returns : goal.returns
returns c =
    let s = (goal.at.returns c).After-as_slice-body in
    let body = map position_of c.as_slice-body.result.now in (
      ports_known c.args.modules.now c.args.part.now body c.index-modules-head.result c.items-2.result.now c.items-3.result.now c.items-4.result.now
          (the_body s) (the_head s).0 c.items-2.ensures c.items-3.ensures c.items-4.ensures
          (rw c.in-Some.is at c.in_ok-edges.ensures.known) (rw c.in-Some-2.is at c.in_ok-entries.ensures.known) (rw c.in-Some-3.is at c.in_ok-exits.ensures.known),
      wiring_made c.args.modules.now c.args.part.now _ c.as_slice-body.result.now c.in_ok-positions.positions.items c.index-modules-head.result c.items-2.result.now c.items-3.result.now c.items-4.result.now
          c.as_slice-body.ensures.value refl (the_body s) (the_head s).0 c.items-2.ensures c.items-3.ensures c.items-4.ensures (the_head s).1
          (rw c.in-Some.is at c.in_ok-edges.ensures.edges) (rw c.in-Some-2.is at c.in_ok-entries.ensures.entries) (rw c.in-Some-3.is at c.in_ok-exits.ensures.exits),
    )

few_here : (c : After-as_slice-body) → length c.as_slice-body.result.now ≤ 64
few_here c =
    let body = c.args.part.now.body in
    let names = names_of c.args.modules.now in
    subst (λ n. n ≤ 64) (sym (sym (length-map c.as_slice-body.result.now position_of) ∙ ap length (the_body c) ∙ length-map body (placed names))) c.requires.few_positions

pub edge_numbers-requires-clause-few_positions : goal.edge_numbers-requires-clause-few_positions
edge_numbers-requires-clause-few_positions c = few_here (goal.at.edge_numbers-requires-clause-few_positions c).After-as_slice-body

pub entry_numbers-requires-clause-few_positions : goal.entry_numbers-requires-clause-few_positions
entry_numbers-requires-clause-few_positions c = few_here (goal.at.entry_numbers-requires-clause-few_positions c).After-as_slice-body

pub exit_numbers-requires-clause-few_positions : goal.exit_numbers-requires-clause-few_positions
exit_numbers-requires-clause-few_positions c = few_here (goal.at.exit_numbers-requires-clause-few_positions c).After-as_slice-body
