-- The names of items.
use Rattle.std.specs.Prelude.{◌≡◌, ℕ, List}
use Rattle.wf_model.specs.Items.{IsNameOf}

-- a name is that of one instance and of one port
abbrev pub NameLaw : Type 0
NameLaw = (name a b c d : List ℕ) → IsNameOf name a b → IsNameOf name c d → (a ≡ c) × (b ≡ d)
