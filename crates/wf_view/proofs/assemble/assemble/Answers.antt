use Rattle.std.proofs.Common.{◌∙◌, Bool, List, Vec, ℕ, length, sym, subst}
use Rattle.std.proofs.lemmas.Result.{IfOk-weaker}
use Rattle.std.specs.declared.alloc.Global.{Global}
use Rattle.wf_model.specs.declared.parts.DepsPart.{DepsPart}
use Rattle.wf_view.specs.Tables.{AreKept, AreSound}
use Rattle.wf_view.proofs.Holding.{core_is, kept_fit, parts_sound}
use Rattle.wf_view.proofs.assemble.assemble.Goals as goal
use Rattle.wf_view.proofs.assemble.assemble.Goals.{After-shown_table}

pub shown_table-requires-clause-sound : goal.shown_table-requires-clause-sound
shown_table-requires-clause-sound c =
    subst (AreSound c.args.g.now.core c.deref.result.now) (sym c.items.ensures)
    (subst (λ l. AreSound c.args.g.now.core l c.args.parts.now.deps) (sym c.deref.ensures.value) (parts_sound c.args.g.now.core c.args.parts.now c.args.marks.items c.start-formed.ensures.formed c.requires.viewed c.requires.marks))

kept : (c : After-shown_table) (table : List (Vec ℕ Global)) → AreKept c.args.g.now.core c.deref.result.now c.items.result.now (length c.args.g.now.core.modules) table → AreKept c.args.g.now.core c.args.marks.items c.args.parts.now.deps (length c.args.g.now.core.modules) table
kept c table k =
    subst (λ (l : List Bool). AreKept c.args.g.now.core l c.args.parts.now.deps (length c.args.g.now.core.modules) table) c.deref.ensures.value
    (subst (λ (l : List DepsPart). AreKept c.args.g.now.core c.deref.result.now l (length c.args.g.now.core.modules) table) c.items.ensures k)

pub of_rows-requires : goal.of_rows-requires
of_rows-requires c =
    kept_fit c.args.g.now.core c.args.parts.now c.args.marks.items c.in_ok-rows.rows.items c.requires.marks
    (kept (goal.at.of_rows-requires c).After-shown_table c.in_ok-rows.rows.items c.in_ok-rows.ensures) c.start-formed.ensures.formed c.requires.viewed

pub returns-clause-core : goal.returns-clause-core
returns-clause-core c =
    IfOk-weaker c.of_rows.result _ _
    (λ v h. h
    ∙ core_is c.args.g.now.core c.args.parts.now c.args.marks.items c.in_ok-rows.rows.items c.requires.marks
    (kept (goal.at.returns-clause-core c).After-shown_table c.in_ok-rows.rows.items c.in_ok-rows.ensures) c.start-formed.ensures.formed) c.of_rows.ensures.core
