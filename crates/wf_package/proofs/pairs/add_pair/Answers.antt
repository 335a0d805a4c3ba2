use Rattle.std.proofs.Common.{◌∙◌, ◌++◌, ◌∷◌, [], List, ℕ, cond, map, sym, ap, append-nil}
use Rattle.std.proofs.lemmas.List.{map-append}
use Rattle.bool_mat.specs.Matrix.{has}
use Rattle.wf_spec.specs.GivenRows.{pair_of}
use Rattle.wf_safe.proofs.BodyLinks.{has_is}
use Rattle.wf_package.proofs.pairs.add_pair.Goals as goal

pub returns-in_ok-push : goal.returns-in_ok-push
returns-in_ok-push c =
    let bit = sym (has_is c.args.row c.args.output) ∙ ap (has c.args.row) (sym c.from.ensures) ∙ sym c.has_column.ensures ∙ c.if-has_column.true in
    ap (map pair_of) c.in_ok-push.ensures.items ∙ map-append pair_of c.args.pairs.now.items _
    ∙ ap (λ b. map pair_of c.args.pairs.now.items ++ cond {A = List (ℕ × ℕ)} b ((c.args.input, c.args.output) ∷ []) []) (sym bit)

pub returns-else-has_column : goal.returns-else-has_column
returns-else-has_column c =
    let bit = sym (has_is c.args.row c.args.output) ∙ ap (has c.args.row) (sym c.from.ensures) ∙ sym c.has_column.ensures ∙ c.if-has_column.false in
    sym (ap (λ b. map pair_of c.args.pairs.now.items ++ cond {A = List (ℕ × ℕ)} b ((c.args.input, c.args.output) ∷ []) []) bit ∙ append-nil (map pair_of c.args.pairs.now.items))
