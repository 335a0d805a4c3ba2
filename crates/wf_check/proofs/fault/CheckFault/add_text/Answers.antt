use Rattle.wf_check.proofs.fault.CheckFault.add_text.Goals as goal

pub returns-in-Unproductive : goal.returns-in-Unproductive
returns-in-Unproductive c = rw c.in-Unproductive.is (rw c.module_name-in-Unproductive.ensures at c.add_two-in-Unproductive.ensures)

pub returns-in-UnitCycle : goal.returns-in-UnitCycle
returns-in-UnitCycle c = rw c.in-UnitCycle.is (rw c.items.ensures at c.add_numbers.ensures)
