-- The conditions of an event tell its fault.
use Rattle.wf_model.proofs.Conditions.{none_exactly, fault_exactly}
use Rattle.wf_laws.specs.Conditions.{ConditionsLaw}

pub conditions_law : ConditionsLaw
conditions_law g most before e acc = record { taken = none_exactly g most before acc e; refused = λ f. fault_exactly g most before acc e f }
