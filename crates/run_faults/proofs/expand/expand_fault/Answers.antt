use Rattle.std.proofs.Common.{length, ap, sym, ◌∙◌}
use Rattle.run_faults.specs.Order.{names_fault}
use Rattle.run_faults.proofs.expand.expand_fault.Goals as goal

pub returns-in-Some : goal.returns-in-Some
returns-in-Some g c events name run same found = sym (c.in-Some.ensures.first c.args.most events name run (c.count-count.ensures ∙ ap length same) found)

pub returns : goal.returns
returns g c events name run same found =
    c.fault_of_names.ensures
    ∙ (ap (λ l. names_fault c.args.most l c.args.names.now) same ∙ sym (c.in_default.ensures.left c.args.most events name run (c.count-count.ensures ∙ ap length same) found))
