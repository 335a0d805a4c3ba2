use Rattle.std.proofs.Common.{◌≡◌, ◌∙◌, ◌++◌, ℕ, true, false, cond, List, [], get_or, Option, None, ap, sym, append-nil}
use Rattle.wf_model.specs.Meaning.{pairs_of}
use Rattle.wf_spec.specs.Held.{HeldGrammar}
use Rattle.cmd_describe.specs.ViewText.{pair_text}
use Rattle.cmd_describe.proofs.ViewLines.{pair_by}
use Rattle.cmd_describe.proofs.view_text.add_joined.Goals as goal

pub returns-in_ok-add_pair : goal.returns-in_ok-add_pair
returns-in_ok-add_pair c =
    let held = c.rows-rows.ensures ∙ ap (λ (f : List (Option (List ℕ))). get_or f c.args.m.0 None) c.full.ensures.full in
    let there : true ≡ pairs_of c.args.v.now.full c.args.m.0 c.args.i.0 c.args.o.0 = sym c.if-has_column.true ∙ pair_by _ c.args.m.0 c.args.i.0 c.args.o.0 _ c.rows-rows.result.now _ held c.from.ensures c.has_column.ensures in
    c.in_ok-add_pair.ensures ∙ ap (λ (g : HeldGrammar). c.args.line.now.items ++ pair_text g.core c.args.m.0 c.args.i.0 c.args.o.0) c.grammar.ensures.grammar ∙ ap (λ b. c.args.line.now.items ++ cond b (pair_text c.args.v.now.accepted.grammar.core c.args.m.0 c.args.i.0 c.args.o.0) []) there

pub returns-else-has_column : goal.returns-else-has_column
returns-else-has_column c =
    let held = c.rows-rows.ensures ∙ ap (λ (f : List (Option (List ℕ))). get_or f c.args.m.0 None) c.full.ensures.full in
    let there : false ≡ pairs_of c.args.v.now.full c.args.m.0 c.args.i.0 c.args.o.0 = sym c.if-has_column.false ∙ pair_by _ c.args.m.0 c.args.i.0 c.args.o.0 _ c.rows-rows.result.now _ held c.from.ensures c.has_column.ensures in
    sym (append-nil c.args.line.now.items) ∙ ap (λ b. c.args.line.now.items ++ cond b (pair_text c.args.v.now.accepted.grammar.core c.args.m.0 c.args.i.0 c.args.o.0) []) there
