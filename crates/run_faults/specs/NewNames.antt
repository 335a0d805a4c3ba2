-- Why the names of new instances are refused.
use Rattle.std.specs.Prelude.{◌≡◌, ◌⊎◌, ℕ, true, cond, List, Option, Some, None}
use Rattle.wf_model.specs.declared.event.RunFault.{RunFault}
use Rattle.wf_model.specs.declared.event.RunFault.TheVariants.{NameTwice, NoMemory}
use Rattle.wf_model.specs.Faults.{some_twice}

-- names are refused so: memory was refused, or one is taken, or stands twice
abbrev pub AreNamesRefused : List (List ℕ) → List (List ℕ) → RunFault → Type 0
AreNamesRefused taken names f = (f ≡ NoMemory) ⊎ ((f ≡ NameTwice) × (some_twice taken names ≡ true))

-- why names are refused for which there is room: one is taken, or stands twice
abbrev pub twice_fault : List (List ℕ) → List (List ℕ) → Option RunFault
twice_fault taken names = cond (some_twice taken names) (Some NameTwice) None
