use Rattle.std.proofs.Common.{ℕ, List, sym, subst}
use Rattle.std.specs.Option.{IfNone}
use Rattle.label_model.specs.Files.{Entry, IsFront}
use Rattle.label_file.proofs.EntryFronts.{no_label}
use Rattle.label_file.proofs.front.cut_front.Goals as goal

pub returns-in_err-label-clause-none : goal.returns-in_err-label-clause-none
returns-in_err-label-clause-none c =
    subst (λ r. IfNone r ((e : Entry) (rest : List ℕ) → IsFront e c.args.bytes.now rest → ⊥)) (sym c.from_residual-in_err-label.ensures)
    (no_label c.args.bytes.now c.in_ok-name.name.now c.in_ok-name.behind.now c.in_ok-name.ensures.name c.in_err-label.ensures.none)
