use Rattle.std.proofs.Common.{◌++◌, ◌∷◌, [], List, length, map, get_or, arith, ap, sym, ◌∙◌}
use Rattle.std.specs.Prelude.{max}
use Rattle.std.proofs.lemmas.Result.{on_ok_weaker}
use Rattle.wf_labeller.specs.declared.group.Group.{Group}
use Rattle.wf_labeller.specs.Groups.{all_bits, end_of}
use Rattle.wf_labeller.proofs.Grouped.{still_grouped, added_bits, added_group}
use Rattle.wf_labeller.proofs.labelled_run.take_group.Goals as goal

pub returns-in_default-clause-kept : goal.returns-in_default-clause-kept
returns-in_default-clause-kept c =
    on_ok_weaker c.take_event.result (λ goes. still_grouped c.args.run.now c.take_event.new.run goes c.args.groups.now.items c.args.longest.now c.requires.kept) c.take_event.ensures.goes_on

pub returns-clause-labels : goal.returns-clause-labels
returns-clause-labels c events run =
    let m : Group = record { maker = c.in-Some.maker; end = c.in-Some-checked_add.end } in
    let push = c.put.ensures ∙ ap (λ l. l ++ m ∷ []) c.in_ok-reserve.ensures.items in
    added_bits c.args.run.now c.take_event-2.new.run c.in_ok-take_event.ensures.goes_on c.args.groups.now.items c.put.new.groups.items c.args.longest.now c.requires.kept m push c.in-Some.ensures.there ∙
    ap (λ l. all_bits c.args.run.now c.args.groups.now.items ++ l) (c.in-Some.ensures.labels events run (c.in_ok-take_event.ensures.extends events run))

pub returns-clause-kept : goal.returns-clause-kept
returns-clause-kept c =
    let m : Group = record { maker = c.in-Some.maker; end = c.in-Some-checked_add.end } in
    let push = c.put.ensures ∙ ap (λ l. l ++ m ∷ []) c.in_ok-reserve.ensures.items in
    let count = c.len.ensures ∙ (sym c.deref.ensures.len ∙ ap (λ (l : List Group). length l) c.deref.ensures.value) in
    let begun = c.begin_of.ensures ∙ (ap (λ (l : List Group). get_or (0 ∷ map end_of l) c.len.result 0) c.deref.ensures.value ∙ ap (λ n. get_or (0 ∷ map end_of c.args.groups.now.items) n 0) count) in
    added_group c.args.run.now c.take_event-2.new.run c.in_ok-take_event.ensures.goes_on c.args.groups.now.items c.put.new.groups.items c.args.longest.now c.requires.kept m push c.in-Some.ensures.there
    c.in_ok-made.made.count (omega (arith, c.in-Some-checked_add.ensures, begun)) c.in_ok-made.ensures.count_is _ (c.longer.ensures ∙ ap (λ n. max c.args.longest.now n) c.in_ok-made.ensures.longest_is)
