-- Texts that are hashed piece by piece.
use Rattle.std.specs.Prelude.{◌≡◌, ℕ, List, ◌++◌}
use Rattle.sha2.specs.Hashers.{Holds256}
use Rattle.wf_json.specs.declared.hashed_text.HashedText.{HashedText}

-- the text that was taken is what was hashed, with what is gathered behind it
abbrev pub IsHashed : HashedText → List ℕ → Type 0
IsHashed h text = (hashed : List ℕ) × Holds256 h.state hashed × (text ≡ hashed ++ h.gathered.items)
