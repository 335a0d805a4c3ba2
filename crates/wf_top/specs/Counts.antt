-- What becomes of the counts of faults, by the status that the program tells.
use Rattle.std.specs.Prelude.{◌≡◌, ℕ, Bool}
use Rattle.wf_io.specs.Told.{Rose}
use Rattle.wf_message.specs.declared.status.Status.{Status}
use Rattle.wf_message.specs.declared.status.Status.TheVariants.{Done, Usage, Refused, ReadFault, WriteFault, NoMemory}

-- the count of the shelf rises at a fault of reading alone, and that of out at a fault of writing alone
abbrev pub HasCounts : ℕ → ℕ → Bool → ℕ → ℕ → Bool → Status → Type 0
HasCounts before after last out_before out_after out_last Done = (after ≡ before) × (out_after ≡ out_before)
HasCounts before after last out_before out_after out_last Usage = (after ≡ before) × (out_after ≡ out_before)
HasCounts before after last out_before out_after out_last Refused = (after ≡ before) × (out_after ≡ out_before)
HasCounts before after last out_before out_after out_last ReadFault = Rose before after last × (out_after ≡ out_before)
HasCounts before after last out_before out_after out_last WriteFault = Rose out_before out_after out_last × (after ≡ before)
HasCounts before after last out_before out_after out_last NoMemory = (after ≡ before) × (out_after ≡ out_before)
