-- The texts of refusals.
use Rattle.std.specs.Prelude.{ℕ, List, ◌++◌, codes, decimal}
use Rattle.wf_message.specs.declared.refusal.Refusal.{Refusal}
use Rattle.wf_message.specs.declared.refusal.Refusal.TheVariants.{Named, Worded, Numbered, Written}

-- the text of a refusal: the name of the fault, and behind it a word, or a part and its number; or a text as it was written
abbrev pub refusal_text : Refusal → List ℕ
refusal_text (Named name) = name.now
refusal_text (Worded name word) = name.now ++ (codes " " ++ word.now)
refusal_text (Numbered name part number) = name.now ++ (codes " " ++ (part.now ++ (codes " " ++ decimal number)))
refusal_text (Written text) = text.items
