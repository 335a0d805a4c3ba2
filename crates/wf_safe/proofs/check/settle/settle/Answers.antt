use Rattle.std.proofs.Common.{◌≡◌, ◌<◌, ◌^◌, ℕ, List, Some, length, set, sym, ap, ◌∙◌, subst}
use Rattle.std.specs.List.{All}
use Rattle.wf_model.specs.Grammar.{inputs_of, outputs_of}
use Rattle.wf_safe.specs.Settling.{IsTable}
use Rattle.wf_safe.proofs.Tables.{place_there, table_more}
use Rattle.wf_safe.proofs.check.settle.settle.Goals as goal

pub is_set-requires : goal.is_set-requires
is_set-requires c = place_there c.args.g.now.core c.args.rows.now c.args.c.«module».0 c.args.c.production.0 c.requires.formed c.requires.table c.requires.production

pub set-requires : goal.set-requires
set-requires c = place_there c.args.g.now.core c.args.rows.now c.args.c.«module».0 c.args.c.production.0 c.requires.formed c.requires.table c.requires.production

pub returns-clause-table : goal.returns-clause-table
returns-clause-table c =
    let g = c.args.g.now.core in
    let m = c.args.c.«module».0 in
    let joined = c.in_ok-joined.joined.items in
    let head = c.requires.production.1 in
    let e = c.in_ok-set.ensures.set ∙ ap (λ (l : List ℕ). set c.args.rows.now m (Some l)) c.deref.ensures.value in
    subst (IsTable g) (sym e)
    (table_more g c.args.rows.now m joined (place_there g c.args.rows.now m c.args.c.production.0 c.requires.formed c.requires.table c.requires.production) c.requires.table
    (subst (λ k. length joined ≡ inputs_of g k) head c.in_ok-joined.ensures.one_each)
    (subst (λ k. All (λ r. r < 2 ^ outputs_of g k) joined) head c.in_ok-joined.ensures.no_more))
